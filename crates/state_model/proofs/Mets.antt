-- What a frame does to the registers of a slave, and what a status brings back.
use Rattle.std.proofs.Common.{◌≡◌, ℕ, zero, suc, ◌==◌, Bool, true, false, Option, Some, None, List, refl, ap, ◌∙◌, if◌then◌else◌}
use Rattle.segment_model.specs.Slaves.{Registers, Address, Access, Datagram, Slave, Found, is_meant, registers_met, slave_meets, slave_after, datagram_meets, found_met, counter_met}
use Rattle.state_model.specs.States.{word_met}
use Rattle.state_model.specs.Met.{is_look, Writes, Writes.nothing, Writes.others, Writes.look, Writes.write}

look_met : (r : Registers) (a : Access) → is_look a ≡ true → registers_met r a ≡ r
look_met r (Access.SetStation station) e = absurd (cc)
look_met r (Access.SetFirst right) e = absurd (cc)
look_met r (Access.SetSecond right) e = absurd (cc)
look_met r (Access.SetControl target acknowledge) e = absurd (cc)
look_met r Access.ReadState e = refl
look_met r Access.ReadFull e = refl
look_met r Access.Elsewhere e = refl

either : (b : Bool) (r : Registers) (a : Access) → is_look a ≡ true → (if b then registers_met r a else r) ≡ r
either true r a e = look_met r a e
either false r a e = refl

-- whom a datagram means is a matter of the station alone
same_meant : (r s : Registers) (a : Address) → s.station ≡ r.station → is_meant s a ≡ is_meant r a
same_meant r s (Address.Station station) e = ap (λ n. n == station) e
same_meant r s (Address.Place zero) e = refl
same_meant r s (Address.Place (suc n)) e = refl
same_meant r s Address.Passed e = refl

same_writes : {M : Type 0} (r s : Registers) (word : Option (ℕ × Bool)) (ds : List (Datagram M)) → s.station ≡ r.station → Writes r word ds → Writes s word ds
same_writes r s word ds e nothing = nothing
same_writes r s word dds e (others d ds other w) = others d ds (same_meant r s d.address e ∙ other) (same_writes r s word ds e w)
same_writes r s word dds e (look d ds l w) = look d ds l (same_writes r s word ds e w)
same_writes r s o dds e (write word d ds meant is w) = write word d ds (same_meant r s d.address e ∙ meant) is (same_writes r s None ds e w)

module _ {V M : Type 0} (station : ℕ) where
  -- the frame's word stands in the control register, and nothing else changed
  stays : (r : Registers) (s : Slave V M) (ds : List (Datagram M)) → s.registers ≡ r → Writes r None ds → (slave_after station s ds).registers ≡ r
  stays r s ds e nothing = e
  stays r s dds e (others d ds other w) = stays r (slave_meets station s d) ds
      (ap (λ q. if is_meant q d.address then registers_met q d.access else q) e ∙ ap (λ b. if b then registers_met r d.access else r) other) w
  stays r s dds e (look d ds l w) = stays r (slave_meets station s d) ds
      (ap (λ q. if is_meant q d.address then registers_met q d.access else q) e ∙ either (is_meant r d.address) r d.access l) w

  writes : (r : Registers) (s : Slave V M) (word : Option (ℕ × Bool)) (ds : List (Datagram M)) → s.registers ≡ r → Writes r word ds → (slave_after station s ds).registers ≡ word_met r word
  writes r s word ds e nothing = e
  writes r s word dds e (others d ds other w) = writes r (slave_meets station s d) word ds
      (ap (λ q. if is_meant q d.address then registers_met q d.access else q) e ∙ ap (λ b. if b then registers_met r d.access else r) other) w
  writes r s word dds e (look d ds l w) = writes r (slave_meets station s d) word ds
      (ap (λ q. if is_meant q d.address then registers_met q d.access else q) e ∙ either (is_meant r d.address) r d.access l) w
  writes r s o dds e (write word d ds meant is w) = stays (word_met r (Some word)) (slave_meets station s d) ds
      (ap (λ q. if is_meant q d.address then registers_met q d.access else q) e ∙ ap (λ b. if b then registers_met r d.access else r) meant ∙ ap (registers_met r) is)
      (same_writes r (word_met r (Some word)) None ds refl w)

  pub written : (s : Slave V M) (word : Option (ℕ × Bool)) (ds : List (Datagram M)) → Writes s.registers word ds → (slave_after station s ds).registers ≡ word_met s.registers word
  written s word ds w = writes s.registers s word ds refl w

  -- a status shows AL state and error flag
  pub status_found : (s : Slave V M) (d : Datagram M) → d.access ≡ Access.ReadState → is_meant s.registers d.address ≡ true →
      ((datagram_meets station s d).found ≡ Some (Found.State s.registers.state s.registers.refused)) × ((datagram_meets station s d).counter ≡ suc d.counter)
  status_found s d access meant = (
    ap (λ b. if b then found_met s d.found d.access else d.found) meant ∙ ap (λ a. found_met s d.found a) access,
    ap (λ b. if b then counter_met d.counter d.access else d.counter) meant ∙ ap (λ a. counter_met d.counter a) access,
  )

  -- and a slave that isn't meant leaves what it shows
  pub found_kept : (s : Slave V M) (d : Datagram M) → is_meant s.registers d.address ≡ false → ((datagram_meets station s d).found ≡ d.found) × ((datagram_meets station s d).counter ≡ d.counter)
  found_kept s d other = (
    ap (λ b. if b then found_met s d.found d.access else d.found) other,
    ap (λ b. if b then counter_met d.counter d.access else d.counter) other,
  )
