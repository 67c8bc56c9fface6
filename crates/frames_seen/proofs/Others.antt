-- A datagram that asks nothing of the link, at a slave that it means.
use Rattle.std.proofs.Common.{◌≡◌, ℕ, ◌==◌, true, false, List, refl, ap, sym, subst, ◌∙◌}
use Rattle.std.specs.Prelude.{if◌then◌else◌, None}
use Rattle.frame_view.specs.of_link_model.Frames.{Ask}
use Rattle.frame_view.specs.of_link_mails.Body.{Body}
use Rattle.frame_view.specs.of_segment_model.Slaves.{Slave, Address, Access, is_meant, address_behind, registers_met, counter_met, found_met, slave_meets, datagram_meets, Serving}
use Rattle.slave_node.specs.of_datagrams.Datagram as Raw
use Rattle.slave_node.specs.of_esc_registers.declared.registers.Registers as Esc
use Rattle.slave_node.specs.of_esc_registers.Access.{Passed}
use Rattle.slave_node.specs.Passing.{passed}
use Rattle.slave_node.specs.of_mailbox_slave.Kept.{Kept}
use Rattle.slave_node.specs.of_mailbox_slave.Node.{node_of}
use Rattle.frame_view.specs.View.{Lens, asking, register_counter, found_of, datagram_seen}
use Rattle.frames_seen.specs.Slaves.{slave_of, registers_seen, IsOpen}
use Rattle.frames_seen.specs.Met.{IsMetAs, IsMet, behind}
use Rattle.frames_seen.proofs.Numbers.{either}

module _ {V : Type 0} (station : ℕ) (s : Slave V Body) (access : Access) (st : ℕ) (a : Address) where
  -- the slave behind it
  pub slave_met : (c : ℕ) (octets : List ℕ) → is_meant s.registers a ≡ true →
      slave_meets station s (asking Ask.Other access st a c octets) ≡ record { node = s.node; registers = registers_met s.registers access }
  slave_met c octets meant = λ i. record { node = either (st == station) s.node i; registers = if meant i then registers_met s.registers access else s.registers }

  -- and it behind the slave
  pub register_met : (c d : ℕ) (octets bodies : List ℕ) → is_meant s.registers a ≡ true →
      counter_met (register_counter access c) access ≡ register_counter access d →
      found_met s (found_of access c octets) access ≡ found_of access d bodies →
      datagram_meets station s (asking Ask.Other access st a c octets) ≡ asking Ask.Other access st (address_behind a) d bodies
  register_met c d octets bodies meant counts finds = λ i. record {
    gram = either (st == station) (record { station = st; ask = Ask.Other; counter = 0; mail = None; acknowledge = false }) i;
    address = address_behind a;
    access = access;
    counter = ((ap (λ b. if b then counter_met (register_counter access c) access else register_counter access c) meant) ∙ counts) i;
    found = ((ap (λ b. if b then found_met s (found_of access c octets) access else found_of access c octets) meant) ∙ finds) i;
  }

  -- the same where it doesn't mean the slave
  pub slave_passed : (c : ℕ) (octets : List ℕ) → is_meant s.registers a ≡ false → slave_meets station s (asking Ask.Other access st a c octets) ≡ s
  slave_passed c octets meant = λ i. record { node = either (st == station) s.node i; registers = if meant i then registers_met s.registers access else s.registers }

  pub register_passed : (c : ℕ) (octets : List ℕ) → is_meant s.registers a ≡ false →
      datagram_meets station s (asking Ask.Other access st a c octets) ≡ asking Ask.Other access st (address_behind a) c octets
  register_passed c octets meant = λ i. record {
    gram = either (st == station) (record { station = st; ask = Ask.Other; counter = 0; mail = None; acknowledge = false }) i;
    address = address_behind a;
    access = access;
    counter = if meant i then counter_met (register_counter access c) access else register_counter access c;
    found = if meant i then found_met s (found_of access c octets) access else found_of access c octets;
  }

pub met_as : {V : Type 0} (lens : ℕ → Lens) (r : Esc.Registers) (k : Kept) (v : Serving V Body) (d : Raw.Datagram) (p : Passed) → passed r d ≡ p → IsMetAs lens r k v d p → IsMet lens r k v d
met_as lens r k v d p e m = subst (λ q. IsMetAs lens r k v d q) (sym e) m

-- a datagram that is seen to ask nothing of the link, and that means the slave
pub register_case : {V : Type 0} (lens : ℕ → Lens) (r : Esc.Registers) (k : Kept) (v : Serving V Body) (d : Raw.Datagram) (p : Passed)
    (access : Access) (st : ℕ) (a : Address) (c e : ℕ) (octets bodies : List ℕ) →
    passed r d ≡ p → datagram_seen lens d ≡ asking Ask.Other access st a c octets → datagram_seen lens (behind d p) ≡ asking Ask.Other access st (address_behind a) e bodies →
    is_meant (registers_seen r) a ≡ true → counter_met (register_counter access c) access ≡ register_counter access e →
    found_met (slave_of k r v) (found_of access c octets) access ≡ found_of access e bodies →
    slave_of k p.registers v ≡ record { node = node_of k r v; registers = registers_met (registers_seen r) access } → IsOpen lens p.registers → p.registers.station ≡ r.station → IsMet lens r k v d
register_case lens r k v d p access st a c e octets bodies met before after meant counts finds slave stays station = met_as lens r k v d p met (record {
  datagram = after ∙ sym (register_met r.station (slave_of k r v) access st a c e octets bodies meant counts finds) ∙ sym (ap (datagram_meets r.station (slave_of k r v)) before);
  slave = slave ∙ sym (slave_met r.station (slave_of k r v) access st a c octets meant) ∙ sym (ap (slave_meets r.station (slave_of k r v)) before);
  stays = stays;
  station = station;
})

-- a datagram that is seen to ask nothing at all, at a slave that it means, and leaves the registers
pub quiet_case : {V : Type 0} (lens : ℕ → Lens) (r : Esc.Registers) (k : Kept) (v : Serving V Body) (d : Raw.Datagram) (p : Passed)
    (st : ℕ) (a : Address) (c e : ℕ) (octets bodies : List ℕ) →
    passed r d ≡ p → datagram_seen lens d ≡ asking Ask.Other Access.Elsewhere st a c octets → datagram_seen lens (behind d p) ≡ asking Ask.Other Access.Elsewhere st (address_behind a) e bodies →
    is_meant (registers_seen r) a ≡ true → p.registers ≡ r → IsOpen lens r → IsMet lens r k v d
quiet_case lens r k v d p st a c e octets bodies met before after meant same open_ =
    register_case lens r k v d p Access.Elsewhere st a c e octets bodies met before after meant refl refl (ap (λ q. slave_of k q v) same) (subst (λ q. IsOpen lens q) (sym same) open_) (ap (λ q. q.station) same)

-- one that doesn't mean the slave, and asks nothing of the link
pub passed_case : {V : Type 0} (lens : ℕ → Lens) (r : Esc.Registers) (k : Kept) (v : Serving V Body) (d : Raw.Datagram) (p : Passed)
    (access : Access) (st : ℕ) (a : Address) (c : ℕ) (octets : List ℕ) →
    passed r d ≡ p → datagram_seen lens d ≡ asking Ask.Other access st a c octets → datagram_seen lens (behind d p) ≡ asking Ask.Other access st (address_behind a) c octets →
    is_meant (registers_seen r) a ≡ false → p.registers ≡ r → IsOpen lens r → IsMet lens r k v d
passed_case lens r k v d p access st a c octets met before after meant same open_ = met_as lens r k v d p met (record {
  datagram = after ∙ sym (register_passed r.station (slave_of k r v) access st a c octets meant) ∙ sym (ap (datagram_meets r.station (slave_of k r v)) before);
  slave = ap (λ q. slave_of k q v) same ∙ sym (slave_passed r.station (slave_of k r v) access st a c octets meant) ∙ sym (ap (slave_meets r.station (slave_of k r v)) before);
  stays = subst (λ q. IsOpen lens q) (sym same) open_;
  station = ap (λ q. q.station) same;
})
