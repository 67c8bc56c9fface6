-- A frame at an open slave, as the session has it.
use Rattle.std.specs.Prelude.{◌≡◌, ℕ, List}
use Rattle.slave_node.specs.of_datagrams.Datagram as Raw
use Rattle.slave_node.specs.of_esc_registers.declared.registers.Registers as Esc
use Rattle.slave_node.specs.Passing.{registers_after, datagrams_after}
use Rattle.frame_view.specs.of_link_mails.Body.{Body}
use Rattle.slave_node.specs.of_mailbox_slave.Kept.{Kept}
use Rattle.frame_view.specs.of_segment_model.Slaves.{Serving, slave_after, frame_after}
use Rattle.frame_view.specs.View.{Lens}
use Rattle.frame_view.specs.Seen.{seen, datagrams_seen}
use Rattle.frames_seen.specs.Slaves.{slave_of, IsOpen}

-- the frame behind the slave, the slave behind the frame, and that it stays open under its station
pub record IsFrameMet {V : Type 0} (lens : ℕ → Lens) (r : Esc.Registers) (k : Kept) (v : Serving V Body) (ds : List Raw.Datagram) : Type 0 where
  pub frame : datagrams_seen lens (datagrams_after r ds) ≡ frame_after r.station (slave_of k r v) (datagrams_seen lens ds)
  pub slave : slave_of k (registers_after r ds) v ≡ slave_after r.station (slave_of k r v) (datagrams_seen lens ds)
  pub stays : IsOpen lens (registers_after r ds)
  pub station : (registers_after r ds).station ≡ r.station

-- the same of octets: a frame came, and these came behind
pub record AreOctetsMet {V : Type 0} (lens : ℕ → Lens) (r after : Esc.Registers) (k : Kept) (v : Serving V Body) (octets behind : List ℕ) : Type 0 where
  pub frame : seen lens behind ≡ frame_after r.station (slave_of k r v) (seen lens octets)
  pub slave : slave_of k after v ≡ slave_after r.station (slave_of k r v) (seen lens octets)
  pub stays : IsOpen lens after
  pub station : after.station ≡ r.station
