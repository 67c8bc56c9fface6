-- A slave and its datagram: small facts.
use Rattle.std.proofs.Common.{◌≡◌, ℕ, Bool, true, false, is_some, Option, Some, None, List, [], ◌∷◌, refl, sym, ap, ◌∙◌, subst, arith, if◌then◌else◌, inl, inr}
use Rattle.idle_slaves.specs.Visited.{IsFor, Waiting, visit_for}
use Rattle.idle_slaves.specs.Waiting.{Wanted, Memory, IsWaiting}
use Rattle.plan_ring.specs.of_life_model.Visits.{Visit}
use Rattle.plan_ring.specs.of_life_model.Lives.{Life}
use Rattle.plan_ring.specs.of_link_mails.Body.{Body}
use Rattle.plan_ring.specs.of_link_model.Frames.{Ask, node_meets}
use Rattle.plan_ring.specs.of_link_model.Link.{Halves, Event, happens, written, write_counter}
use Rattle.plan_ring.specs.of_link_model.Mails.{LinkMail}
use Rattle.plan_ring.specs.of_link_model.Slave.{Node, Server, processor_step}
use Rattle.plan_ring.specs.of_master_duty.Reply.{Reply}
use Rattle.plan_ring.specs.of_master_hand.Spoken.{Asked}
use Rattle.plan_ring.specs.of_run_frames.Waits.{Waits}
use Rattle.plan_ring.specs.of_segment_model.Ends.{Passing}
use Rattle.plan_ring.specs.of_segment_model.Slaves.{Datagram, Serving, Slave, Registers, slave_after, slave_meets, registers_met}
use Rattle.plan_ring.specs.of_state_model.States.{Table, carry, word_carried, decided}
use Rattle.idle_slaves.specs.Steps.{NotGone}
use Rattle.plan_ring.specs.of_state_model.Accounts.{Duty, Stage}
use Rattle.idle_slaves.specs.Eager.{AsksVisit, AsksStage, AsksFor, IsDraining}
use Rattle.idle_slaves.specs.Standing.{Steps, Unvisited}

-- a word that is carried out waits no longer
pub carried_none : (table : Table) (r : Registers) → (carry table r).control ≡ None
carried_none table r = go r.refused r.control refl
  where
    decides : (found : Option ℕ) (target : ℕ) → (decided r target found).control ≡ None
    decides None target = refl
    decides (Some code) target = refl

    flag : (b : Bool) (target : ℕ) (found : Option ℕ) → (if b then decided r target found else record r { control = None }).control ≡ None
    flag true target found = decides found target
    flag false target found = refl

    go : (refused : Option ℕ) (control : Option (ℕ × Bool)) → r.control ≡ control → (word_carried table r refused control).control ≡ None
    go None None e = e
    go (Some code) None e = e
    go None (Some w) e = decides (table r.state w.0) w.0
    go (Some code) (Some w) e = flag w.1 w.0 (table r.state w.0)

pub for_not_gone : (q : Wanted) (hand : Option Duty) (p : Option Passing) → IsFor q hand p → NotGone hand
for_not_gone Wanted.Mails hand p (none, unboxed) = subst NotGone (sym none) tt
for_not_gone Wanted.Drains hand p (inr (none, boxed)) = subst NotGone (sym none) tt
for_not_gone Wanted.Drains hand p (inl (duty, is, stage)) = subst NotGone (sym is) (subst (λ (z : Stage). NotGone (Some (record duty { stage = z }))) (sym stage) tt)

pub for_draining : (q : Wanted) (hand : Option Duty) (p : Option Passing) → IsFor q hand p → IsDraining hand
for_draining Wanted.Mails hand p (none, unboxed) = subst IsDraining (sym none) tt
for_draining Wanted.Drains hand p (inr (none, boxed)) = subst IsDraining (sym none) tt
for_draining Wanted.Drains hand p (inl (duty, is, stage)) = subst IsDraining (sym is) stage

pub asks_visit : (h : Halves Body) (m : Memory) (hand : Option Duty) (p : Option Passing) (d : Datagram Body) → IsDraining hand → AsksFor h m hand p d → AsksVisit h (visit_for hand p m (is_some h.out.holding)) d
asks_visit h m None p d drains asks = asks
asks_visit h m (Some duty) p d drains asks = subst (λ stage. AsksStage h m duty.target stage d) drains asks

-- an access of a visit leaves the registers
pub visit_registers : (h : Halves Body) (visit : Visit) (d : Datagram Body) (r : Registers) → AsksVisit h visit d → registers_met r d.access ≡ r
visit_registers h Visit.Write d r (m, held, ask, access) = ap (registers_met r) access
visit_registers h Visit.Read d r (ask, access) = ap (registers_met r) access
visit_registers h Visit.Full d r (ask, access) = ap (registers_met r) access

-- a slave behind datagrams that leave it
pub untouched : {V : Type 0} (station : ℕ) (s : Slave V Body) (d : Datagram Body) (ds : List (Datagram Body)) → ds ≡ d ∷ [] → (slave_meets station s d).node ≡ s.node → (slave_meets station s d).registers ≡ s.registers → slave_after station s ds ≡ s
untouched station s d ds one node registers = ap (slave_after station s) one ∙ (λ i. record { node = node i; registers = registers i })

-- a mailbox that is written to and stays as it is was full
pub written_full : {V : Type 0} (n : Node Body (Serving V Body)) (m : LinkMail Body) → node_meets n (Ask.WriteMail m) ≡ n → write_counter n.out.box ≡ 0
written_full {V} n m e = go n.out.box refl (ap (λ (z : Node Body (Serving V Body)). z.out.box) e)
  where
    go : (box : Option (LinkMail Body)) → n.out.box ≡ box → (written n.out box m).box ≡ n.out.box → write_counter box ≡ 0
    go None is same = absurd (let no : Some m ≡ None = same ∙ is in cc)
    go (Some b) is same = refl

-- one that is read and stays as it is was empty
pub read_empty : {V : Type 0} (n : Node Body (Serving V Body)) → node_meets n Ask.ReadMail ≡ n → n.inn.box ≡ None
read_empty {V} n e = sym (ap (λ (z : Node Body (Serving V Body)). z.inn.box) e)

pub unvisited_waits : {S : Type 0} (v : Server Body S) (l : Life Body Asked Reply) (n : Node Body S) (t : Waits) (m : Memory) → Unvisited v l n t → Waiting v l n m t
unvisited_waits {S} v l n t m k = subst (λ (z : ℕ). Waiting v l n m (record { stepped = t.stepped; tries = z })) (sym k.tries) (by n t.stepped k.steps)
  where
    by : (n : Node Body S) (b : Bool) → Steps v k.link.node n b → Waiting v l n m (record { stepped = b; tries = 0 })
    by _ _ Steps.none = record { link = k.link; wanted = k.wanted; waits = IsWaiting.new k.link k.wanted m k.agrees k.clear; shows = k.shows; unserved = λ no. absurd (omega (arith, no)) }
    by _ _ (Steps.more n b s) = let w = by n b s in record {
      link = happens v w.link Event.Pdi;
      wanted = w.wanted;
      waits = IsWaiting.steps w.link w.wanted m (record { stepped = b; tries = 0 }) w.waits;
      shows = record { halves = w.shows.halves; node = ap (processor_step v) w.shows.node; hand = w.shows.hand; stands = w.shows.stands };
      unserved = w.unserved;
    }
