-- A datagram at an open slave, as the session has it.
use Rattle.std.specs.Prelude.{◌≡◌, ℕ}
use Rattle.slave_node.specs.of_datagrams.Datagram as Raw
use Rattle.slave_node.specs.of_esc_registers.declared.registers.Registers as Esc
use Rattle.slave_node.specs.of_esc_registers.Access.{Passed}
use Rattle.slave_node.specs.Passing.{passed}
use Rattle.frame_view.specs.of_link_mails.Body.{Body}
use Rattle.slave_node.specs.of_mailbox_slave.Kept.{Kept}
use Rattle.frame_view.specs.of_segment_model.Slaves.{Serving, datagram_meets, slave_meets}
use Rattle.frame_view.specs.View.{Lens, datagram_seen}
use Rattle.frames_seen.specs.Slaves.{slave_of, IsOpen}

-- the datagram with the head and the body behind a slave
abbrev pub behind : Raw.Datagram → Passed → Raw.Datagram
behind d p = record d { head = p.head; body = p.body }

-- this is what the session says of it: the datagram behind the slave, the slave behind the datagram, and that it stays open
pub record IsMetAs {V : Type 0} (lens : ℕ → Lens) (r : Esc.Registers) (k : Kept) (v : Serving V Body) (d : Raw.Datagram) (p : Passed) : Type 0 where
  pub datagram : datagram_seen lens (behind d p) ≡ datagram_meets r.station (slave_of k r v) (datagram_seen lens d)
  pub slave : slave_of k p.registers v ≡ slave_meets r.station (slave_of k r v) (datagram_seen lens d)
  pub stays : IsOpen lens p.registers
  pub station : p.registers.station ≡ r.station

-- so is the datagram as it meets the slave
abbrev pub IsMet : {V : Type 0} → (ℕ → Lens) → Esc.Registers → Kept → Serving V Body → Raw.Datagram → Type 0
IsMet lens r k v d = IsMetAs lens r k v d (passed r d)
