use Rattle.std.proofs.Common.{◌∙◌}
use Rattle.datagrams.proofs.Header.{found_in, frame_read-only}
use Rattle.datagrams.proofs.Changing.{parts_in}
use Rattle.datagrams.proofs.reading.read.Goals as goal

pub returns-clause-found : goal.returns-clause-found
returns-clause-found c = found_in _ _ (λ i. (c.type_inv.bytes i).fits) c.read_plain.ensures

pub returns-clause-only : goal.returns-clause-only
returns-clause-only c = λ ds f. c.read_plain.ensures ∙ frame_read-only _ ds f

pub returns-clause-parts : goal.returns-clause-parts
returns-clause-parts c = parts_in _ _ (found_in _ _ (λ i. (c.type_inv.bytes i).fits) c.read_plain.ensures)
