use Rattle.std.proofs.Common.{refl}
use Rattle.slave_parts.proofs.Files.{stays_valid}
use Rattle.slave_parts.proofs.parts_served.files_are_served.Goals as goal

pub returns : goal.returns
returns c = record { put = λ al s name bytes valid room. stays_valid s name bytes valid room; room = λ al s octets. refl }
