-- A slave of a serving by a frame, as its master remembers it and as the count of frames has it.
use Rattle.std.proofs.Common.{◌≡◌, ℕ, Bool, false, is_some, Option, Some, None, List, [], ◌∷◌, refl, sym, ap, subst}
use Rattle.promised_run.proofs.Maps.{memory, stage_asks, stage_visit_is, visit_asks}
use Rattle.run_promises.specs.of_exchange_model.Exchange.{Speech}
use Rattle.seen_slaves.specs.of_idle_slaves.Eager as Eager
use Rattle.seen_slaves.specs.of_idle_slaves.Eager.{IsDraining}
use Rattle.seen_slaves.specs.of_idle_slaves.Visited.{memory_next, visit_for}
use Rattle.seen_slaves.specs.of_idle_slaves.Waiting.{Memory}
use Rattle.run_promises.specs.of_life_model.Lives.{Life, Stand, granted, life_next}
use Rattle.run_promises.specs.of_link_mails.Body.{Body}
use Rattle.run_promises.specs.of_link_model.Link.{Halves}
use Rattle.seen_slaves.specs.of_master_duty.Reply.{Reply}
use Rattle.seen_slaves.specs.of_master_hand.Spoken.{Asked, acknowledged, is_followed, is_passed}
use Rattle.run_promises.specs.of_master_node.Eager as Master
use Rattle.run_promises.specs.of_master_node.ServedEager.{mail_visit, visit_next}
use Rattle.seen_slaves.specs.of_master_side.Recall.{Recall}
use Rattle.run_promises.specs.of_segment_model.Ends.{Passing}
use Rattle.run_promises.specs.of_segment_model.Slaves.{Datagram}
use Rattle.run_promises.specs.of_state_model.Accounts.{Duty, Pick, account_begins}

-- ---- what its datagram asks
mail_is : (p : Option Passing) (m : Recall) (holding : Bool) → mail_visit p m holding ≡ visit_for None p (memory m) holding
mail_is None m holding = refl
mail_is (Some Passing.Waiting) m holding = refl
mail_is (Some Passing.Sent) m holding = refl
mail_is (Some Passing.Boxed) m holding = refl
mail_is (Some Passing.Served) m holding = refl
mail_is (Some Passing.Answered) m holding = refl

one_asks : (h : Halves Body) (m : Recall) (hand : Option Duty) (p : Option Passing) (d : Datagram Body) → Master.AsksSo hand h (visit_next hand p m (is_some h.out.holding)) d → Eager.AsksFor h (memory m) hand p d
one_asks h m None p d a = subst (λ v. Eager.AsksVisit h v d) (mail_is p m (is_some h.out.holding)) (visit_asks h (mail_visit p m (is_some h.out.holding)) d a)
one_asks h m (Some duty) p d a = stage_asks h m duty duty.stage d refl a

pub each_asks : (h : Halves Body) (m : Recall) (hand : Option Duty) (p : Option Passing) (ds : List (Datagram Body)) → Master.EachSo hand h (visit_next hand p m (is_some h.out.holding)) ds → Eager.EachAsksFor h (memory m) hand p ds
each_asks h m hand p [] a = tt
each_asks h m hand p (d ∷ ds) a = (one_asks h m hand p d a.0, each_asks h m hand p ds a.1)

-- ---- its visit
pub visit_is : (m : Recall) (hand : Option Duty) (p : Option Passing) (holding : Bool) → IsDraining hand → visit_next hand p m holding ≡ Some (visit_for hand p (memory m) holding)
visit_is m None p holding drains = ap Some (mail_is p m holding)
visit_is m (Some duty) p holding drains = stage_visit_is m duty p holding drains

-- ---- what comes into hand changes nothing of what is remembered: with neither a state service in hand nor a mail that is passed on a slave has no turn, and while such a mail is in
-- hand no state service comes
pub memory_same : (a b : Option Duty) (p : Option Passing) (m : Memory) → (a ≡ None → p ≡ None → m.turn ≡ false) → ((q : Passing) → p ≡ Some q → a ≡ None → b ≡ None) → memory_next a b m ≡ m
memory_same None None p m still none = refl
memory_same None (Some duty) None m still none = (λ i. record m { turn = sym (still refl refl) i })
memory_same None (Some duty) (Some q) m still none = absurd (let no : Some duty ≡ None = none q refl refl in cc)
memory_same (Some duty) b p m still none = refl

pub hand_held : (x : Speech Body Asked Reply) (made : ℕ) (l : Life Body Asked Reply) (stand : Stand) (pick : Pick Asked) (q : Passing) → l.era.passing ≡ Some q → l.era.account.hand ≡ None →
    (life_next x acknowledged is_followed is_passed made l stand pick).era.account.hand ≡ None
hand_held x made l (Stand.Opens o) pick q e h = h
hand_held x made l Stand.Gone pick q e h = h
hand_held x made l Stand.Open pick q e h = go l.era.passing e
  where
    go : (p : Option Passing) → p ≡ Some q → (account_begins x acknowledged made l.era.side l.era.account l.era.account.hand (granted p pick).begin).hand ≡ None
    go None f = absurd (let no : None ≡ Some q = f in cc)
    go (Some r) f = h
