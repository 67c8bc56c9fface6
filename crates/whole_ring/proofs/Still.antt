-- A SLAVE WHOSE REOPENING HASN'T REACHED IT lives its epoch on and stays up, by each frame without datagrams of its own.
use Rattle.std.proofs.Common.{◌≡◌, inl, inr, ℕ, Bool, true, false, List, [], ◌∷◌, ◌++◌, length, refl, ap, sym, ◌∙◌, subst}
use Rattle.std.specs.Prelude.{if◌then◌else◌}
use Rattle.slave_lives.specs.of_datagrams.Datagram as Raw
use Rattle.slave_lives.specs.of_esc_registers.declared.registers.Registers as Esc
use Rattle.slave_lives.specs.of_slave_node.Passing.{datagrams_after}
use Rattle.slave_lives.specs.of_frame_view.Seen.{seen, datagrams_seen}
use Rattle.slave_lives.specs.of_frames_seen.Own.{own_of, is_to, NoneMeant}
use Rattle.slave_lives.specs.of_frames_seen.Ring.{all_after, AllApart}
use Rattle.slave_lives.specs.of_frames_seen.Slaves.{registers_seen}
use Rattle.slave_lives.specs.of_frames_seen.Spoken.{AllSpoken}
use Rattle.slave_lives.proofs.of_frames_seen.Aparts.{none_apart}
use Rattle.slave_lives.proofs.of_frames_seen.Owns.{other_view}
use Rattle.slave_lives.specs.of_link_mails.Body.{Body}
use Rattle.slave_lives.specs.of_mailbox_slave.Registers.{in_len}
use Rattle.slave_lives.specs.of_segment_model.Record.{Frame}
use Rattle.slave_lives.specs.of_segment_ring.declared.wire.Fate.{Fate}
use Rattle.slave_lives.specs.of_segment_ring.declared.wire.Fate.TheVariants.{Pass, Lost}
use Rattle.slave_lives.specs.of_segment_ring.Ring.{is_in_pace}
use Rattle.slave_lives.specs.of_life_model.Lives.{Spot, Era}
use Rattle.slave_lives.specs.of_life_model.Own.{own}
use Rattle.slave_lives.specs.Ends.{YetFrame}
use Rattle.slave_lives.specs.Lived.{Behind, IsBehind, RingFrame, IsForOpen, LivesEra, fate_of, is_reached, node_met, node_behind, frame_of, octets_back, returned}
use Rattle.slave_lives.specs.Nodes.{IsRoomy}
use Rattle.slave_lives.specs.Opening.{Plan, aim}
use Rattle.slave_lives.specs.Rings.{registers_of, come_to, come_back, is_met_at}
use Rattle.slave_lives.specs.Ways.{OneOnWay, AllNotFor, IsOnWay}
use Rattle.slave_lives.proofs.Owned.{own_is}
use Rattle.slave_lives.proofs.RingFrames.{met_runs}
use Rattle.slave_lives.proofs.RingLives.{sent_is, back_is}
use Rattle.whole_ring.specs.Whole.{Living, LivesStillBy}
use Rattle.whole_ring.proofs.Kept.{met_none, none_alone, turned_with}
use Rattle.whole_ring.proofs.Steady.{IsUp, carried_up, stays_up}

-- what isn't for it has no datagram to its station, and neither has the first access of a reopening
pub own_not : (p : Plan) (place behind : ℕ) (ds : List Raw.Datagram) → AllNotFor p place behind ds → own_of p.station ds ≡ []
own_not p place behind [] others = refl
own_not p place behind (d ∷ ds) others = ap (λ (b : Bool). if b then d ∷ own_of p.station ds else own_of p.station ds) others.0.1 ∙ own_not p place behind ds others.1

by_place : (p : Plan) (place behind : ℕ) (d : Raw.Datagram) → IsOnWay p 1 place behind d → is_to p.station d ≡ false
by_place p place behind d on = let e : d.head.command ≡ (aim p 1).command = on.command in rw e refl

pub own_first : (p : Plan) (place behind : ℕ) (ds : List Raw.Datagram) → OneOnWay p 1 place behind ds → own_of p.station ds ≡ []
own_first p place behind [] one = refl
own_first p place behind (d ∷ ds) (inl other) = ap (λ (b : Bool). if b then d ∷ own_of p.station ds else own_of p.station ds) other.0.1 ∙ own_first p place behind ds other.1
own_first p place behind (d ∷ ds) (inr mine) = ap (λ (b : Bool). if b then d ∷ own_of p.station ds else own_of p.station ds) (by_place p place behind d mine.0) ∙ own_not p place behind ds mine.1

-- past slaves that are apart
pub own_comes : (station : ℕ) (rs : List Esc.Registers) (ds : List Raw.Datagram) → AllApart station rs ds → own_of station (all_after rs ds) ≡ own_of station ds
own_comes station [] ds apart = refl
own_comes station (r ∷ rs) ds apart = own_comes station rs (datagrams_after r ds) apart.1 ∙ other_view station r ds apart.0

-- a frame that has nothing for the slave
pub record Nothing {S V A Q R : Type 0} (w : Behind S V A Q R) (spot : Spot) (t : RingFrame S) : Type 0 where
  pub at : length t.before ≡ spot.place
  pub own : own_of spot.station t.datagrams ≡ []
  pub none : is_reached t ≡ true → NoneMeant t.node.registers (come_to t.before t.datagrams)
  pub apart : is_reached t ≡ true → AllApart spot.station (registers_of t.before) t.datagrams
  pub last : is_reached t ≡ true → AllApart spot.station (registers_of t.behind) (datagrams_after t.node.registers (come_to t.before t.datagrams))
  pub roomy : is_in_pace t.pace t.ring.number ≡ true → IsRoomy w.running (in_len (node_met t).registers) (node_met t).server

module _ {S V A Q R : Type 0} (w : Behind S V A Q R) (is : IsBehind w) (spot : Spot) (from : A) (e : Era Body Q R) (fs : List (Frame Body)) (t : RingFrame S) where
  sent_none : Nothing w spot t → own spot.station (seen w.lens t.octets) ≡ []
  sent_none q = ap (own spot.station) (sent_is w.lens t) ∙ own_is w.lens spot.station t.datagrams ∙ ap (datagrams_seen w.lens) q.own

  back_none : Nothing w spot t → own spot.station (seen w.lens (octets_back t)) ≡ []
  back_none q = ap (own spot.station) (back_is w.running w.lens t) ∙ go (fate_of t) refl
    where
      go : (fate : Fate) → fate_of t ≡ fate → own spot.station (datagrams_seen w.lens (returned fate t.before t.node t.behind t.datagrams)) ≡ []
      go Pass f =
          let reached : is_reached t ≡ true = ap (λ (x : Fate). is_met_at (length t.before) x) f in
          let own_back : own_of spot.station (come_back t.before t.node t.behind t.datagrams) ≡ [] =
          own_comes spot.station (registers_of t.behind) (datagrams_after t.node.registers (come_to t.before t.datagrams)) (q.last reached)
          ∙ other_view spot.station t.node.registers (come_to t.before t.datagrams) (none_apart spot.station t.node.registers (come_to t.before t.datagrams) (q.none reached))
          ∙ own_comes spot.station (registers_of t.before) t.datagrams (q.apart reached) ∙ q.own in
          own_is w.lens spot.station (come_back t.before t.node t.behind t.datagrams) ∙ ap (datagrams_seen w.lens) own_back
      go (Lost after) f = refl

  for_none : Nothing w spot t → t.node.registers.station ≡ spot.station → is_reached t ≡ true → IsForOpen t.before t.node t.behind t.datagrams
  for_none q here reached = record {
    apart = subst (λ (a : ℕ). AllApart a (registers_of t.before) t.datagrams) (sym here) (q.apart reached);
    alone = none_alone t.node.registers.station t.node.registers (come_to t.before t.datagrams) (q.none reached);
    last = subst (λ (a : ℕ). AllApart a (registers_of t.behind) (datagrams_after t.node.registers (come_to t.before t.datagrams))) (sym here) (q.last reached);
    spoken = subst (λ l. AllSpoken t.node.registers.station l) (sym (ap (λ (a : ℕ). own_of a t.datagrams) here ∙ q.own)) tt;
  }

  up_met : Nothing w spot t → IsUp (registers_seen t.node.registers) → IsUp (registers_seen (node_met t).registers)
  up_met q up = subst (λ r. IsUp (registers_seen r)) (sym (met_none (is_reached t) t.node (come_to t.before t.datagrams) q.none)) up

  pub still_on : (Y : Living S A Q R) → (Y from e fs t.node → LivesEra w spot from e fs t.node) → (Y from e fs t.node → YetFrame w spot from e fs t → Y from e (fs ++ frame_of w.lens t ∷ []) (node_behind w.running t)) →
      Nothing w spot t → LivesStillBy w from e Y fs t.node → LivesStillBy w from e Y (fs ++ frame_of w.lens t ∷ []) (node_behind w.running t)
  still_on Y session yet q l =
      let was : IsUp (registers_seen t.node.registers) = record { state = l.steady.state; word = l.steady.word } in
      let up = up_met q was in
      let era = session l.lives.epoch in
      let y : YetFrame w spot from e fs t = record {
        at = q.at;
        lives = era;
        alone = λ reached. for_none q era.station reached;
        quiet = record { sent = sent_none q; back = back_none q; answered = l.lives.answered };
        steps = λ now. record { up = stays_up (node_met t).boot (node_met t).registers up; roomy = q.roomy now };
      } in
      let runs = met_runs w.running (is_reached t) t.node (come_to t.before t.datagrams) era.runs in
      let behind : IsUp (registers_seen (node_behind w.running t).registers) = turned_with w.running is.clears t.pace t.ring.number (node_met t) runs q.roomy (λ k. IsUp (registers_seen k.registers)) up
      (λ on. subst IsUp (sym on.steps.registers) (carried_up (node_met t).boot (node_met t).registers up)) in
      record {
        lives = record { epoch = yet l.lives.epoch y; answered = l.lives.answered };
        steady = record { state = behind.state; word = behind.word };
      }
