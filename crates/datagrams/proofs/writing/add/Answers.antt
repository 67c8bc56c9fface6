use Rattle.std.proofs.Common.{refl, arith}
use Rattle.datagrams.proofs.Building.{IsBegun-inside, IsBegun-add}
use Rattle.datagrams.proofs.Drafting.{draft_added, added_length}
use Rattle.datagrams.proofs.writing.add.Goals as goal

pub add_plain-requires-clause-inside : goal.add_plain-requires-clause-inside
add_plain-requires-clause-inside c = IsBegun-inside _ c.requires.begun.0 c.requires.begun.1

pub returns-clause-adds : goal.returns-clause-adds
returns-clause-adds c = λ ds b.
    IsBegun-add _ _ ds _ b (omega arith) c.add_plain.ensures.octets refl c.add_plain.ensures.sized

pub returns-clause-begun : goal.returns-clause-begun
returns-clause-begun c =
    (_, IsBegun-add _ _ c.requires.begun.0 _ c.requires.begun.1 (omega arith) c.add_plain.ensures.octets refl c.add_plain.ensures.sized)

pub returns-clause-draft : goal.returns-clause-draft
returns-clause-draft c = λ draft named.
    draft_added _ _ _ refl draft named (IsBegun-add _ _ _ _ draft.begun (omega arith) c.add_plain.ensures.octets refl c.add_plain.ensures.sized)

pub returns-clause-len : goal.returns-clause-len
returns-clause-len c =
    added_length _ _ c.requires.begun.0 _ c.requires.begun.1
    (IsBegun-add _ _ c.requires.begun.0 _ c.requires.begun.1 (omega arith) c.add_plain.ensures.octets refl c.add_plain.ensures.sized) refl
