-- An open slave meets the datagram of its master's inward half.
use Rattle.std.proofs.Common.{◌≡◌, ℕ, ◌+◌, ◌%◌, ◌==◌, Bool, true, false, List, [], ◌∷◌, refl, ap, ◌∙◌, eq-eqb, if◌then◌else◌}
use Rattle.frames_seen.specs.of_datagrams.Datagram as Raw
use Rattle.frames_seen.specs.of_esc_registers.declared.registers.Registers as Esc
use Rattle.frames_seen.specs.of_slave_node.Passing.{registers_after, datagrams_after}
use Rattle.frames_seen.specs.of_frame_view.View.{Lens}
use Rattle.frames_seen.specs.Ring.{all_after, IsRingMet}
use Rattle.frames_seen.specs.Own.{own_seen}
use Rattle.frames_seen.specs.Slaves.{slave_of}
use Rattle.frames_seen.specs.of_link_mails.Body.{Body}
use Rattle.frames_seen.specs.of_link_model.Frames.{Ask, in_ask, gram_meets, node_meets}
use Rattle.frames_seen.specs.of_link_model.Master.{InState}
use Rattle.frames_seen.specs.of_link_model.Slave.{Node}
use Rattle.frames_seen.specs.of_mailbox_slave.Kept.{Kept}
use Rattle.frames_seen.specs.of_mailbox_slave.Registers.{request_of, acknowledge_of}
use Rattle.frames_seen.specs.of_segment_model.Slaves.{Serving, Slave, Datagram, slave_meets, slave_after, datagram_meets, frame_after}
use Rattle.slave_lives.specs.Asked.{IsOwn, ComesBack, is_request, NoRequest, SameBits}

-- what a datagram leaves of request and acknowledge
record Keeps {V : Type 0} (n m : Node Body V) : Type 0 where
  request : m.inn.request ≡ n.inn.request
  acknowledge : m.inn.acknowledge ≡ n.inn.acknowledge

ask_keeps : {V : Type 0} (n : Node Body V) (ask : Ask Body) → is_request ask ≡ false → Keeps n (node_meets n ask)
ask_keeps n (Ask.WriteMail m) e = record { request = refl; acknowledge = refl }
ask_keeps n Ask.ReadMail e = record { request = refl; acknowledge = refl }
ask_keeps n (Ask.WriteRequest bit) e = absurd (cc)
ask_keeps n Ask.ReadAcknowledge e = record { request = refl; acknowledge = refl }
ask_keeps n Ask.Other e = record { request = refl; acknowledge = refl }

frame_keeps : {V : Type 0} (station : ℕ) (s : Slave V Body) (ds : List (Datagram Body)) → NoRequest ds → Keeps s.node (slave_after station s ds).node
frame_keeps station s [] none = record { request = refl; acknowledge = refl }
frame_keeps {V} station s (d ∷ ds) none =
    let one = by (d.gram.station == station) in
    let rest = frame_keeps station (slave_meets station s d) ds none.1 in
    record { request = rest.request ∙ one.request; acknowledge = rest.acknowledge ∙ one.acknowledge }
  where
    by : (b : Bool) → Keeps s.node (if b then node_meets s.node d.gram.ask else s.node)
    by true = ask_keeps s.node d.gram.ask none.0
    by false = record { request = refl; acknowledge = refl }

module _ {V : Type 0} (lens : ℕ → Lens) (before : List Esc.Registers) (r : Esc.Registers) (behind : List Esc.Registers) (k : Kept) (v : Serving V Body) (sent : List Raw.Datagram) (ring : IsRingMet lens before r behind k v sent) where
  abbrev slave : Slave V Body
  slave = slave_of k r v

  abbrev met_registers : Esc.Registers
  met_registers = registers_after r (all_after before sent)

  -- WHAT STAYS, where none writes the request
  pub bits_stay : NoRequest (own_seen lens r.station sent) → SameBits r met_registers
  bits_stay none =
      let s = frame_keeps r.station slave (own_seen lens r.station sent) none in
      record { request = ap (λ (z : Slave V Body). z.node.inn.request) ring.slave ∙ s.request; acknowledge = ap (λ (z : Slave V Body). z.node.inn.acknowledge) ring.slave ∙ s.acknowledge }

  module _ (x : Datagram Body) (own : IsOwn lens r.station sent x) where
    abbrev answer : Datagram Body
    answer = datagram_meets r.station slave x

    here : (x.gram.station == r.station) ≡ true
    here = eq-eqb x.gram.station r.station own.station_is

    answers : own_seen lens r.station (all_after behind (datagrams_after r (all_after before sent))) ≡ answer ∷ []
    answers = ring.back ∙ ap (frame_after r.station slave) own.one

    -- the request was met, and stands
    pub requests : (bit : Bool) → x.gram.ask ≡ in_ask InState.Doubt bit → ComesBack lens before r behind sent × (request_of met_registers ≡ bit) × (acknowledge_of met_registers ≡ acknowledge_of r)
    requests bit ask = (
      record {
        datagram = answer;
        one = answers;
        met = ap (λ (b : Bool). (if b then gram_meets slave.node x.gram.ask x.gram else x.gram).counter == 0) here ∙ ap (λ a. (gram_meets slave.node a x.gram).counter == 0) ask ∙ ap (λ c. (c + 1) % 65536 == 0) own.counter;
      },
      ap (λ (z : Slave V Body). z.node.inn.request) ring.slave ∙ ap (λ ds. (slave_after r.station slave ds).node.inn.request) own.one
          ∙ ap (λ (b : Bool). (if b then node_meets slave.node x.gram.ask else slave.node).inn.request) here ∙ ap (λ a. (node_meets slave.node a).inn.request) ask,
      ap (λ (z : Slave V Body). z.node.inn.acknowledge) ring.slave ∙ ap (λ ds. (slave_after r.station slave ds).node.inn.acknowledge) own.one
          ∙ ap (λ (b : Bool). (if b then node_meets slave.node x.gram.ask else slave.node).inn.acknowledge) here ∙ ap (λ a. (node_meets slave.node a).inn.acknowledge) ask,
    )

    -- the acknowledge is the one that stands
    pub reads : (bit : Bool) → x.gram.ask ≡ in_ask InState.Asked bit → (b : ComesBack lens before r behind sent) × (b.datagram.gram.acknowledge ≡ acknowledge_of r)
    reads bit ask = (
      record {
        datagram = answer;
        one = answers;
        met = ap (λ (b : Bool). (if b then gram_meets slave.node x.gram.ask x.gram else x.gram).counter == 0) here ∙ ap (λ a. (gram_meets slave.node a x.gram).counter == 0) ask ∙ ap (λ c. (c + 1) % 65536 == 0) own.counter;
      },
      ap (λ (b : Bool). (if b then gram_meets slave.node x.gram.ask x.gram else x.gram).acknowledge) here ∙ ap (λ a. (gram_meets slave.node a x.gram).acknowledge) ask,
    )
