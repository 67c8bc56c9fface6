-- What was read is spelled, and what is spelled is read.
use Rattle.capture_blocks.proofs.Blocks.{found_in, only_in}
use Rattle.capture_blocks.proofs.block.read_block.Goals as goal

pub returns-clause-found : goal.returns-clause-found
returns-clause-found c = found_in _ _ _ (λ i. (c.type_inv.bytes i).fits) c.read_plain.ensures

pub returns-clause-only : goal.returns-clause-only
returns-clause-only c = λ b behind is text. only_in _ _ _ b behind c.read_plain.ensures is text
