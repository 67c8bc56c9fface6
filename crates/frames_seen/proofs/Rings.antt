-- A RING: one open slave has of a frame its own datagrams, untouched by the others.
use Rattle.std.proofs.Common.{◌≡◌, ℕ, ◌==◌, Bool, true, false, List, [], ◌∷◌, refl, ap, sym, ◌∙◌, subst}
use Rattle.std.specs.Prelude.{if◌then◌else◌, Option, Some, None}
use Rattle.slave_node.specs.of_datagrams.Datagram as Raw
use Rattle.slave_node.specs.of_esc_registers.declared.registers.Registers as Esc
use Rattle.slave_node.specs.Passing.{datagrams_after}
use Rattle.frame_view.specs.of_link_mails.Body.{Body}
use Rattle.frame_view.specs.of_link_model.Mails.{LinkMail}
use Rattle.frame_view.specs.of_link_model.Slave.{Node}
use Rattle.frame_view.specs.of_link_model.Frames.{Ask, Gram, gram_meets, write_done, read_done}
use Rattle.slave_node.specs.of_mailbox_slave.Kept.{Kept}
use Rattle.frame_view.specs.of_segment_model.Slaves.{Slave, Serving, Datagram, slave_meets, datagram_meets, slave_after, frame_after}
use Rattle.frame_view.specs.View.{Lens}
use Rattle.frame_view.specs.Seen.{datagrams_seen}
use Rattle.frames_seen.specs.Slaves.{slave_of, IsOpen}
use Rattle.frames_seen.specs.Spoken.{AllSpoken}
use Rattle.frames_seen.specs.Own.{own_of, IsAlone}
use Rattle.frames_seen.specs.Ring.{all_after, AllApart, IsRingMet, IsAnswer, AreAnswers}
use Rattle.frames_seen.proofs.Owns.{other_view, own_view}

pub others_leave : (station : ℕ) (rs : List Esc.Registers) (ds : List Raw.Datagram) → AllApart station rs ds → own_of station (all_after rs ds) ≡ own_of station ds
others_leave station [] ds apart = refl
others_leave station (r ∷ rs) ds apart = others_leave station rs (datagrams_after r ds) apart.1 ∙ other_view station r ds apart.0

pub ring_view : {V : Type 0} (lens : ℕ → Lens) (before : List Esc.Registers) (r : Esc.Registers) (behind : List Esc.Registers) (k : Kept) (v : Serving V Body) (sent : List Raw.Datagram) →
    IsOpen lens r → AllApart r.station before sent → IsAlone r.station r (all_after before sent) → AllApart r.station behind (datagrams_after r (all_after before sent)) →
    AllSpoken r.station (own_of r.station sent) → IsRingMet lens before r behind k v sent
ring_view lens before r behind k v sent open_ first alone last spoken =
    let come = others_leave r.station before sent first in
    let m = own_view lens r k v (all_after before sent) open_ alone (subst (AllSpoken r.station) (sym come) spoken) in
    let seen = ap (datagrams_seen lens) come in
    record {
      back = ap (datagrams_seen lens) (others_leave r.station behind (datagrams_after r (all_after before sent)) last) ∙ m.frame ∙ ap (frame_after r.station (slave_of k r v)) seen;
      slave = m.slave ∙ ap (slave_after r.station (slave_of k r v)) seen;
      stays = m.stays;
      station = m.station;
    }

-- what comes back answers what was sent
record Kept_ {M : Type 0} (g h : Gram M) : Type 0 where
  station : h.station ≡ g.station
  ask : h.ask ≡ g.ask

gram_kept : {M S : Type 0} (n : Node M S) (a : Ask M) (g : Gram M) → Kept_ g (gram_meets n a g)
gram_kept {M = M} n (Ask.WriteMail m) g = go n.out.box
  where
    go : (b : Option (LinkMail M)) → Kept_ g (write_done g b)
    go None = record { station = refl; ask = refl }
    go (Some x) = record { station = refl; ask = refl }
gram_kept {M = M} n Ask.ReadMail g = go n.inn.box
  where
    go : (b : Option (LinkMail M)) → Kept_ g (read_done g b)
    go None = record { station = refl; ask = refl }
    go (Some x) = record { station = refl; ask = refl }
gram_kept n (Ask.WriteRequest bit) g = record { station = refl; ask = refl }
gram_kept n Ask.ReadAcknowledge g = record { station = refl; ask = refl }
gram_kept n Ask.Other g = record { station = refl; ask = refl }

answer : {V M : Type 0} (station : ℕ) (s : Slave V M) (d : Datagram M) → IsAnswer d (datagram_meets station s d)
answer station s d =
    let k = go (d.gram.station == station) in
    record { station = k.station; ask = k.ask; access = refl }
  where
    go : (b : Bool) → Kept_ d.gram (if b then gram_meets s.node d.gram.ask d.gram else d.gram)
    go true = gram_kept s.node d.gram.ask d.gram
    go false = record { station = refl; ask = refl }

pub answers : {V M : Type 0} (station : ℕ) (s : Slave V M) (ds : List (Datagram M)) → AreAnswers ds (frame_after station s ds)
answers station s [] = tt
answers station s (d ∷ ds) = (answer station s d, answers station (slave_meets station s d) ds)
