-- WHAT A PART OF A TURN LEAVES: a serving again, whatever its plan is, how many datagrams it is to hear and what its port told first.
use Rattle.std.specs.Prelude.{◌≡◌, ◌<◌, ℕ, Bool, List, [], length, Option, Result, IfOk}
use Rattle.gateway_core.specs.of_ec_outside.Port.{HeardGram}
use Rattle.gateway_core.specs.of_ec_outside.declared.port.Heard.{Heard}
use Rattle.gateway_core.specs.of_ec_outside.declared.port.SentGram.{SentGram}
use Rattle.run_record.specs.of_segment_plan.declared.plan.Scenario.{Scenario}
use Rattle.run_record.specs.of_run_book.declared.book.Book.{Book}
use Rattle.run_record.specs.of_run_book.declared.book.Ending.{Ending}
use Rattle.run_record.specs.of_run_book.declared.book.Ending.TheVariants as endings
use Rattle.gateway_run.specs.Account.{MayGo}
use Rattle.gateway_run.specs.Serving.{Told, told, Listens, Goes, GoesHearing, IsHearing, IsServing, LivesOn, LivesUnless, EmptyWhere}
use Rattle.gateway_run.specs.declared.stop.Stop.{Stop}
use Rattle.gateway_run.specs.declared.turn.Serving.{Serving}

-- one more request may be unfinished
abbrev pub HasRoom : Serving → Type 0
HasRoom v = length v.desk.requests.items < 64

-- unless the segment is settled some slave is live and something is left to do; where it is, no request is unfinished; and nothing is still to be sent
abbrev pub MayTurn : Bool → Serving → Type 0
MayTurn settled v = LivesUnless settled v.session × EmptyWhere settled v × (v.desk.outbox.items ≡ [])

-- a frame may go, where the frames can be counted
abbrev pub MaySend : Serving → Book → Type 0
MaySend v b = length b.frames < 4294967296 → MayGo v.over v.count (length b.frames) b.grams v.desk.requests.items

-- unless the segment rests some slave is live and something is left to do; and a frame may go
abbrev pub MayStep : Bool → Serving → Book → Type 0
MayStep rests v b = LivesUnless rests v.session × MaySend v b

-- it leaves a serving where this is given, by what this port tells
abbrev pub GoesOnIf : {Q T : Type 0} → Type 0 → (Q → Option (List HeardGram)) → (Q → Option (List SentGram)) → (Q → Bool) → (Q → ℕ) → Q → Q → Serving → Serving → Book → Book → Result T Stop → Type 0
GoesOnIf given heard sent over faults port port' v v' b b' r =
    (plan : Scenario) (count : ℕ) (first : Told) → given → IsServing plan count first (told heard sent over faults port) v b → Goes plan count first (told heard sent over faults port') v' b' r

-- and where nothing need be given
abbrev pub GoesOn : {Q T : Type 0} → (Q → Option (List HeardGram)) → (Q → Option (List SentGram)) → (Q → Bool) → (Q → ℕ) → Q → Q → Serving → Serving → Book → Book → Result T Stop → Type 0
GoesOn heard sent over faults port port' v v' b b' r =
    (plan : Scenario) (count : ℕ) (first : Told) → IsServing plan count first (told heard sent over faults port) v b → Goes plan count first (told heard sent over faults port') v' b' r

-- one that hears still does, where this is given
abbrev pub HearsOnIf : {Q T : Type 0} → Type 0 → (Q → Option (List HeardGram)) → (Q → Option (List SentGram)) → (Q → Bool) → (Q → ℕ) → Q → Q → Serving → Serving → Book → Book → Result T Stop → Type 0
HearsOnIf given heard sent over faults port port' v v' b b' r =
    (plan : Scenario) (count : ℕ) (first : Told) → given → IsHearing plan count first (told heard sent over faults port) v b → GoesHearing plan count first (told heard sent over faults port') v' b' r

-- and where nothing need be given
abbrev pub HearsOn : {Q T : Type 0} → (Q → Option (List HeardGram)) → (Q → Option (List SentGram)) → (Q → Bool) → (Q → ℕ) → Q → Q → Serving → Serving → Book → Book → Result T Stop → Type 0
HearsOn heard sent over faults port port' v v' b b' r =
    (plan : Scenario) (count : ℕ) (first : Told) → IsHearing plan count first (told heard sent over faults port) v b → GoesHearing plan count first (told heard sent over faults port') v' b' r

-- one that heard goes on by a frame, where this is given
abbrev pub StepsIf : {T : Type 0} → Type 0 → Serving → Serving → Book → Book → Result T Stop → Type 0
StepsIf given v v' b b' r = (plan : Scenario) (count : ℕ) (first now : Told) → given → IsHearing plan count first now v b → Goes plan count first now v' b' r

-- where it goes on no more, some slave is live and something is left to do
abbrev pub LeavesIf : Type 0 → Told → Serving → Serving → Book → Result Bool Stop → Type 0
LeavesIf given now v v' b r = (plan : Scenario) (count : ℕ) (first : Told) → given → IsServing plan count first now v b → IfOk r (λ on. LivesUnless on v'.session)

-- and so it is where it ended with its budget spent
abbrev pub LeavesSpent : Told → Serving → Serving → Book → Result Ending Stop → Type 0
LeavesSpent now v v' b r = (plan : Scenario) (count : ℕ) (first : Told) → IsServing plan count first now v b → IfOk r (λ ending. ending ≡ endings.BudgetSpent → LivesOn v'.session)

-- a serving that hears takes what a call of its port heard, while it has room
abbrev pub TakesHeard : {T : Type 0} → Heard → Serving → Serving → Book → Book → Result T Stop → Type 0
TakesHeard heard v v' b b' r =
    (plan : Scenario) (count : ℕ) (first now next : Told) → HasRoom v → IsHearing plan count first now v b → Listens now next heard v.gram.items → GoesHearing plan count first next v' b' r
