-- The frames of the rows of slaves, and the counts of their epochs, in a book.
use Rattle.std.proofs.Common.{◌≡◌, ◌<◌, ◌≤◌, ◌+◌, ◌==◌, ℕ, zero, suc, Bool, true, false, List, [], ◌∷◌, length, refl, sym, ap, ◌∙◌, subst, arith}
use Rattle.std.specs.Prelude.{if◌then◌else◌, Option, Some, None, slice_get}
use Rattle.std.proofs.lemmas.Bool.{eq-eqb, eqb-true}
use Rattle.packets_heard.specs.of_eoe_switch.declared.switching.SwitchEvent.{SwitchEvent}
use Rattle.packets_heard.specs.of_eoe_switch.declared.switching.SwitchEvent.TheVariants.{Arrive, Begun, Down}
use Rattle.packets_heard.specs.of_master_node.Forwards.{port_by}
use Rattle.packets_heard.specs.of_master_node.Ports.{last_where, port_where, ports_behind}
use Rattle.packets_heard.specs.Numbers.{comes_in, numbers_where}
use Rattle.run_notes.specs.of_run_book.Book.{IsNew}
use Rattle.run_notes.specs.of_run_book.declared.book.Book.{Book}
use Rattle.run_notes.specs.Counted.{AreDated, IsDated, comes_from, is_from, is_there, numbers_from, slaves_at}
use Rattle.run_notes.specs.Slaves.{first_notes}
use Rattle.run_notes.specs.Times.{IsTimedBy, between}
use Rattle.run_notes.proofs.Timings.{first_timed, rows_dated}
use Rattle.run_record.specs.Ran.{packets_by, packets_of}
use Rattle.run_record.specs.Session.{SessionState, session_rows}
use Rattle.packets_heard.specs.of_segment_plan.declared.plan.Scenario.{Scenario}
use Rattle.packets_heard.specs.of_segment_plan.declared.slave.SlaveSpec.{SlaveSpec}

-- ---- the slave at a port

-- the slave of a place is at a port where that is its own
abbrev at_port : Option ℕ → ℕ → Bool
at_port None port = false
at_port (Some own) port = port == own

apart : (a b : ℕ) → (a ≡ b → ⊥) → (a == b) ≡ false
apart a b away = go (a == b) refl
  where
    go : (z : Bool) → (a == b) ≡ z → (a == b) ≡ false
    go true e = absurd (away (eqb-true a b e))
    go false e = e

-- none before the first of these slaves is there
none_before : (from k : ℕ) (ss : List SlaveSpec) (i : ℕ) → k < from → is_there (slice_get (slaves_at from ss) i) k ≡ false
none_before from k [] zero l = refl
none_before from k [] (suc i) l = refl
none_before from k (s ∷ ss) i l = by s.eoe i (λ j. none_before (suc from) k ss j (omega (arith, l)))
  where
    by : (b : Bool) (i : ℕ) → ((j : ℕ) → is_there (slice_get (slaves_at (suc from) ss) j) k ≡ false) → is_there (slice_get (if b then from ∷ slaves_at (suc from) ss else slaves_at (suc from) ss) i) k ≡ false
    by true zero rest = apart from k (λ e. absurd (omega (arith, e, l)))
    by true (suc i) rest = rest i
    by false i rest = rest i

-- its port is behind those before
port_after : (last k port : ℕ) (ss : List SlaveSpec) → port ≤ last → at_port (port_by (slice_get (ports_behind last ss) k)) port ≡ false
port_after last zero port [] l = refl
port_after last (suc k) port [] l = refl
port_after last zero port (s ∷ ss) l = by s.eoe
  where
    by : (b : Bool) → at_port (port_where b last) port ≡ false
    by true = apart port (last + 1) (λ e. absurd (omega (arith, e, l)))
    by false = refl
port_after last (suc k) port (s ∷ ss) l = by s.eoe (port_after (last + 1) k port ss (omega (arith, l))) (port_after last k port ss l)
  where
    by : (b : Bool) → at_port (port_by (slice_get (ports_behind (last + 1) ss) k)) port ≡ false → at_port (port_by (slice_get (ports_behind last ss) k)) port ≡ false → at_port (port_by (slice_get (ports_behind (last_where b last) ss) k)) port ≡ false
    by true e f = e
    by false e f = f

-- the slave at the port with this number behind those before is the one that has it
there : (from last k i : ℕ) (ss : List SlaveSpec) → is_there (slice_get (slaves_at from ss) i) (from + k) ≡ at_port (port_by (slice_get (ports_behind last ss) k)) (suc (last + i))
there from last zero zero [] = refl
there from last zero (suc i) [] = refl
there from last (suc k) zero [] = refl
there from last (suc k) (suc i) [] = refl
there from last zero i (s ∷ ss) = by s.eoe i
  where
    by : (b : Bool) (i : ℕ) → is_there (slice_get (if b then from ∷ slaves_at (suc from) ss else slaves_at (suc from) ss) i) (from + 0) ≡ at_port (port_where b last) (suc (last + i))
    by true zero = eq-eqb from (from + 0) (omega arith) ∙ sym (eq-eqb (suc (last + 0)) (last + 1) (omega arith))
    by true (suc i) = none_before (suc from) (from + 0) ss i (omega arith) ∙ sym (apart (suc (last + suc i)) (last + 1) (λ e. absurd (omega (arith, e))))
    by false i = none_before (suc from) (from + 0) ss i (omega arith)
there from last (suc k) i (s ∷ ss) = by s.eoe i (λ before j. (let e : from + suc k ≡ suc from + k = omega arith in ap (is_there (slice_get (slaves_at (suc from) ss) j)) e) ∙ there (suc from) before k j ss)
  where
    by : (b : Bool) (i : ℕ) → ((before j : ℕ) → is_there (slice_get (slaves_at (suc from) ss) j) (from + suc k) ≡ at_port (port_by (slice_get (ports_behind before ss) k)) (suc (before + j))) →
        is_there (slice_get (if b then from ∷ slaves_at (suc from) ss else slaves_at (suc from) ss) i) (from + suc k) ≡ at_port (port_by (slice_get (ports_behind (last_where b last) ss) k)) (suc (last + i))
    by true zero on = apart from (from + suc k) (λ e. absurd (omega (arith, e))) ∙ sym (port_after (last + 1) k (suc (last + 0)) ss (omega arith))
    by true (suc i) on = on (last + 1) i ∙ (let e : suc (last + 1 + i) ≡ suc (last + suc i) = omega arith in ap (at_port (port_by (slice_get (ports_behind (last + 1) ss) k))) e)
    by false i on = on last i

-- ---- its packets

module _ (plan : Scenario) (k : ℕ) where
  abbrev own : Option ℕ
  own = port_by (slice_get (ports_behind 0 plan.slaves) k)

  from_own : (port : ℕ) → is_from (slaves_at 0 plan.slaves) port k ≡ at_port own port
  from_own zero = sym (port_after 0 k 0 plan.slaves (omega arith))
  from_own (suc port) = (let e : k ≡ 0 + k = omega arith in ap (is_there (slice_get (slaves_at 0 plan.slaves) port)) e) ∙ there 0 0 k port plan.slaves ∙ (let e : suc (0 + port) ≡ suc port = omega arith in ap (at_port own) e)

  -- where it has none, and where it has one
  numbers_none : own ≡ None → (es : List SwitchEvent) (ns : List ℕ) → numbers_from (slaves_at 0 plan.slaves) k es ns ≡ []
  numbers_none e [] ns = refl
  numbers_none e (d ∷ es) [] = refl
  numbers_none e (d ∷ es) (n ∷ ns) = (λ i. if comes d i then n ∷ numbers_none e es ns i else numbers_none e es ns i)
    where
      comes : (d : SwitchEvent) → comes_from (slaves_at 0 plan.slaves) k d ≡ false
      comes (Arrive port packet) = from_own port ∙ ap (λ o. at_port o port) e
      comes (Begun port) = refl
      comes (Down port) = refl

  numbers_some : (own_port : ℕ) → own ≡ Some own_port → (es : List SwitchEvent) (ns : List ℕ) → numbers_from (slaves_at 0 plan.slaves) k es ns ≡ numbers_where (comes_in own_port) es ns
  numbers_some own_port e [] ns = refl
  numbers_some own_port e (d ∷ es) [] = refl
  numbers_some own_port e (d ∷ es) (n ∷ ns) = (λ i. if comes d i then n ∷ numbers_some own_port e es ns i else numbers_some own_port e es ns i)
    where
      comes : (d : SwitchEvent) → comes_from (slaves_at 0 plan.slaves) k d ≡ comes_in own_port d
      comes (Arrive port packet) = from_own port ∙ ap (λ o. at_port o port) e
      comes (Begun port) = refl
      comes (Down port) = refl

  pub numbers_own : (b : Book) → numbers_from (slaves_at 0 plan.slaves) k b.switch b.switched ≡ packets_of plan b k
  numbers_own b = by own refl
    where
      by : (o : Option ℕ) → own ≡ o → numbers_from (slaves_at 0 plan.slaves) k b.switch b.switched ≡ packets_by o b
      by None e = numbers_none e b.switch b.switched
      by (Some port) e = numbers_some port e b.switch b.switched

-- ---- before the first frame, and at the end

pub timed_first : (plan : Scenario) (b : Book) → IsNew b → IsTimedBy (between 0) (slaves_at 0 plan.slaves) b (first_notes plan.services 0 plan.slaves)
timed_first plan b new = record {
  many = ap length new.switched ∙ sym (ap length new.switch);
  timed = first_timed plan.services 0 plan.slaves (λ k. numbers_from (slaves_at 0 plan.slaves) k b.switch b.switched) (λ k. λ i. numbers_from (slaves_at 0 plan.slaves) k (new.switch i) (new.switched i));
}

pub dated_rows : (plan : Scenario) (s : SessionState) (b : Book) → s.at_ports ≡ slaves_at 0 plan.slaves → IsTimedBy (between s.ring.number) s.at_ports b s.notes → AreDated s.ring.number (packets_of plan b) (session_rows s)
dated_rows plan s b ports h = λ k row is.
    subst (λ (z : List ℕ). IsDated s.ring.number z row) (ap (λ (p : List ℕ). numbers_from p k b.switch b.switched) ports ∙ numbers_own plan k b)
    (rows_dated s.recover s.ring.number (λ k. numbers_from s.at_ports k b.switch b.switched) s.ring.nodes s.notes h.timed k row is)
