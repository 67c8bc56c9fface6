-- A slave by a frame, as its master remembers it and as the count of frames has it.
use Rattle.std.proofs.Common.{◌≡◌, Bool, false, is_some, Option, Some, None, List, [], ◌∷◌, refl, sym, ap, ◌∙◌, subst}
use Rattle.seen_slaves.specs.of_idle_slaves.Eager as Eager
use Rattle.seen_slaves.specs.of_idle_slaves.Eager.{IsDraining, IsInVain}
use Rattle.seen_slaves.specs.of_idle_slaves.Visited.{memory_of, memory_next, visit_for}
use Rattle.seen_slaves.specs.of_idle_slaves.Waiting.{Memory, memory_behind}
use Rattle.run_promises.specs.of_life_model.Visits.{Visit, mails_visit, drain_visit}
use Rattle.run_promises.specs.of_life_model.Lives.{Life}
use Rattle.run_promises.specs.of_link_mails.Body.{Body}
use Rattle.run_promises.specs.of_link_model.Link.{Halves}
use Rattle.seen_slaves.specs.of_master_duty.Reply.{Reply}
use Rattle.seen_slaves.specs.of_master_hand.Spoken.{Asked}
use Rattle.run_promises.specs.of_master_node.Eager as Master
use Rattle.run_promises.specs.of_master_node.Eager.{next_visit}
use Rattle.run_promises.specs.of_master_node.Recalled.{IsFull, paused_behind, turn_behind}
use Rattle.seen_slaves.specs.of_master_side.Recall.{Recall}
use Rattle.run_promises.specs.of_segment_model.Ends.{Passing}
use Rattle.run_promises.specs.of_segment_model.Slaves.{Datagram}
use Rattle.run_promises.specs.of_state_model.Accounts.{Duty, Stage}

abbrev pub memory : Recall → Memory
memory m = record { paused = m.paused; turn = m.turn }

-- what comes into hand changes nothing of it: with no state service in hand a slave has no turn
next_same : (a b : Option Duty) (m : Memory) → (a ≡ None → m.turn ≡ false) → memory_next a b m ≡ m
next_same None None m still = refl
next_same None (Some duty) m still = (λ i. record m { turn = sym (still refl) i })
next_same (Some duty) b m still = refl

pub memory_same : (old new : Life Body Asked Reply) (m : Recall) → (old.era.account.hand ≡ None → m.turn ≡ false) → memory_of old new (memory m) ≡ memory m
memory_same old new m still = next_same old.era.account.hand new.era.account.hand (memory m) still

-- ---- what its datagram asks
pub visit_asks : (h : Halves Body) (v : Visit) (d : Datagram Body) → Master.AsksVisit h v d → Eager.AsksVisit h v d
visit_asks h Visit.Write d a = a
visit_asks h Visit.Read d a = a
visit_asks h Visit.Full d a = a

pub stage_asks : (h : Halves Body) (m : Recall) (duty : Duty) (stage : Stage) (d : Datagram Body) → duty.stage ≡ stage → Master.AsksSo (Some duty) h (Master.stage_visit stage m) d → Eager.AsksStage h (memory m) duty.target stage d
stage_asks h m duty Stage.Drains d e a = visit_asks h (drain_visit m.turn) d a
stage_asks h m duty (Stage.Goes phase) d e a = a phase e

-- of a slave with no mail that is passed on
one_asks : (h : Halves Body) (m : Recall) (hand : Option Duty) (p : Option Passing) (d : Datagram Body) → p ≡ None → Master.AsksSo hand h (next_visit hand m (is_some h.out.holding)) d → Eager.AsksFor h (memory m) hand p d
one_asks h m None p d e a = subst (λ z. Eager.AsksFor h (memory m) None z d) (sym e) (visit_asks h (mails_visit m.paused (is_some h.out.holding)) d a)
one_asks h m (Some duty) p d e a = stage_asks h m duty duty.stage d refl a

pub each_asks : (h : Halves Body) (m : Recall) (hand : Option Duty) (p : Option Passing) (ds : List (Datagram Body)) → p ≡ None → Master.EachSo hand h (next_visit hand m (is_some h.out.holding)) ds → Eager.EachAsksFor h (memory m) hand p ds
each_asks h m hand p [] e a = tt
each_asks h m hand p (d ∷ ds) e a = (one_asks h m hand p d e a.0, each_asks h m hand p ds e a.1)

-- ---- its visit
pub stage_visit_is : (m : Recall) (duty : Duty) (p : Option Passing) (holding : Bool) → duty.stage ≡ Stage.Drains → Master.stage_visit duty.stage m ≡ Some (visit_for (Some duty) p (memory m) holding)
stage_visit_is m duty p holding e = ap (λ s. Master.stage_visit s m) e

pub visit_is : (m : Recall) (hand : Option Duty) (p : Option Passing) (holding : Bool) → p ≡ None → IsDraining hand → next_visit hand m holding ≡ Some (visit_for hand p (memory m) holding)
visit_is m None p holding e drains = ap (λ z. Some (visit_for None z (memory m) holding)) (sym e)
visit_is m (Some duty) p holding e drains = stage_visit_is m duty p holding drains

pub full_is : (v : Visit) (d : Datagram Body) → IsInVain v d → IsFull v d
full_is Visit.Write d k = tt
full_is Visit.Read d k = tt
full_is Visit.Full d k = k

-- ---- what it leaves to remember
pub memory_behind_is : (m n : Recall) (v : Visit) (d : Datagram Body) → IsInVain v d → n.paused ≡ paused_behind v d.gram.counter m.paused → n.turn ≡ turn_behind v m.turn → memory n ≡ memory_behind (memory m) v
memory_behind_is m n Visit.Write d k paused turn = (λ i. record { paused = (paused ∙ k) i; turn = turn i })
memory_behind_is m n Visit.Read d k paused turn = (λ i. record { paused = paused i; turn = turn i })
memory_behind_is m n Visit.Full d k paused turn = (λ i. record { paused = paused i; turn = turn i })
