use Rattle.std.proofs.Common.{◌≡◌, ◌∙◌, ℕ, ◌≤◌, List, ◌++◌, take, replicate, append_assoc}
use Rattle.std.proofs.lemmas.List.{take-replicate}
use Rattle.coe_codec.specs.Writing.{coe_text, head_of, part_of, padding_of}
use Rattle.coe_codec.specs.declared.message.Coe.{Coe}
use Rattle.coe_codec.specs.View.{coe_seen}
use Rattle.coe_codec.proofs.Spelled.{write-spelled}
use Rattle.coe_codec.proofs.writing.write_view.Goals as goal

-- the three parts, one behind the other
written :
    (message : Coe) (filled whole head part : List ℕ) (unused : ℕ) → filled ≡ head ++ part → whole ≡ filled ++ take unused (replicate 7 0)
    → head ≡ head_of message → part ≡ part_of message → unused ≡ padding_of message → padding_of message ≤ 7 → whole ≡ coe_text message
written message filled whole head part unused a b f g h within =
    rw (b, a, f, g, h, take-replicate {X = ℕ} (padding_of message) 7 0 within)
    (append_assoc (head_of message) (part_of message) (replicate (padding_of message) 0))

-- the octets are the one spelling
octets_are : (c : goal.After-append) → c.append.new.buffer.items ≡ coe_text (coe_seen c.args.message)
octets_are c =
    written (coe_seen c.args.message) c.refill_parts.new.buffer.items c.append.new.buffer.items
    c.as_slice.result.now c.part.result.now c.padding.result c.refill_parts.ensures c.append.ensures
    (c.as_slice.ensures.value ∙ c.head-head.ensures.head) c.part.ensures.part c.padding.ensures.unused c.padding.ensures.within

pub returns-clause-octets : goal.returns-clause-octets
returns-clause-octets c = octets_are c

pub returns-clause-spelled : goal.returns-clause-spelled
returns-clause-spelled c =
    rw (octets_are c) (write-spelled (coe_seen c.args.message) c.requires.spelling c.head-head.ensures.ranged c.head-head.ensures.few)
