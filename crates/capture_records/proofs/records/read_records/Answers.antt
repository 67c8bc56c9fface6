use Rattle.ec_fields.proofs.Cells.{AreOctets-drop}
use Rattle.capture_records.proofs.Grammar.{found_in, only_in}
use Rattle.capture_records.proofs.records.read_records.Goals as goal

pub returns-clause-found : goal.returns-clause-found
returns-clause-found c = found_in _ _ _ _ c.requires.head (AreOctets-drop c.args.begin c.args.bytes.now (λ i. (c.type_inv.bytes i).fits)) c.read_plain.ensures

pub returns-clause-only : goal.returns-clause-only
returns-clause-only c = λ rs are text. only_in _ _ _ _ rs c.requires.head c.read_plain.ensures are text
