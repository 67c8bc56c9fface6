-- A WHOLE FRAME at an open slave, and the octets of one.
use Rattle.std.proofs.Common.{ℕ, List, [], ◌∷◌, refl, ap, sym, ◌∙◌, subst}
use Rattle.slave_node.specs.of_datagrams.Datagram as Raw
use Rattle.slave_node.specs.of_datagrams.Frame.{IsFrame}
use Rattle.slave_node.specs.of_esc_registers.declared.registers.Registers.{Registers}
use Rattle.slave_node.specs.Passing.{passed, datagrams_after, IsPassed}
use Rattle.frame_view.specs.of_link_mails.Body.{Body}
use Rattle.slave_node.specs.of_mailbox_slave.Kept.{Kept}
use Rattle.frame_view.specs.of_segment_model.Slaves.{Serving, slave_after, frame_after, slave_meets}
use Rattle.frame_view.specs.View.{Lens, datagram_seen}
use Rattle.frame_view.specs.Seen.{datagrams_seen}
use Rattle.frames_seen.specs.Slaves.{slave_of, IsOpen}
use Rattle.frames_seen.specs.Spoken.{AllSpoken}
use Rattle.frames_seen.specs.FrameMet.{IsFrameMet, AreOctetsMet}
use Rattle.frames_seen.proofs.One.{one_seen}
use Rattle.frame_view.proofs.Octets.{seen_is}

pub open_view : {V : Type 0} (lens : ℕ → Lens) (r : Registers) (k : Kept) (v : Serving V Body) (ds : List Raw.Datagram) → IsOpen lens r → AllSpoken r.station ds → IsFrameMet lens r k v ds
open_view lens r k v [] open_ spoken = record { frame = refl; slave = refl; stays = open_; station = refl }
open_view lens r k v (d ∷ ds) open_ spoken =
    let m = one_seen lens r k v d open_ spoken.0 in
    let q = (passed r d).registers in
    let rest = open_view lens q k v ds m.stays (subst (λ n. AllSpoken n ds) (sym m.station) spoken.1) in
    let s = slave_meets r.station (slave_of k r v) (datagram_seen lens d) in
    record {
      frame = (λ i. m.datagram i ∷ (rest.frame ∙ (λ j. frame_after (m.station j) (m.slave j) (datagrams_seen lens ds))) i);
      slave = rest.slave ∙ (λ j. slave_after (m.station j) (m.slave j) (datagrams_seen lens ds));
      stays = rest.stays;
      station = rest.station ∙ m.station;
    }

-- octets: what the running pass says of a frame is what the session says of what is seen
pub octets_view : {V : Type 0} (lens : ℕ → Lens) (r after : Registers) (k : Kept) (v : Serving V Body) (octets behind : List ℕ) (ds : List Raw.Datagram) → IsOpen lens r → AllSpoken r.station ds →
    IsFrame octets ds → IsPassed r after behind ds → AreOctetsMet lens r after k v octets behind
octets_view {V = V} lens r after k v octets behind ds open_ spoken frame passes =
    let m = open_view lens r k v ds open_ spoken in
    let here = seen_is lens octets ds frame in
    let there = seen_is lens behind (datagrams_after r ds) passes.frame in
    subst (λ q. AreOctetsMet lens r q k v octets behind) (sym passes.registers) (record {
      frame = there ∙ m.frame ∙ ap (frame_after r.station (slave_of k r v)) (sym here);
      slave = m.slave ∙ ap (slave_after r.station (slave_of k r v)) (sym here);
      stays = m.stays;
      station = m.station;
    })
