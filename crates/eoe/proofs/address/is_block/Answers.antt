use Rattle.std.proofs.Common.{◌↔◌, IsTrue, sym, subst}
use Rattle.eoe.specs.Address.{IsBlock}
use Rattle.eoe.proofs.Blocks.{is_block-exact}
use Rattle.eoe.proofs.address.is_block.Goals as goal

pub returns-clause-exact : goal.returns-clause-exact
returns-clause-exact c = subst (λ b. IsTrue b ↔ IsBlock c.args.octets.now) (sym c.has_fields.ensures) (is_block-exact c.args.octets.now)
