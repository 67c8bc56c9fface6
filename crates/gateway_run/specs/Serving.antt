-- A serving between its turns.
use Rattle.std.specs.Bool.{OnTrue, OnFalse}
use Rattle.std.specs.Prelude.{◌≡◌, ℕ, ◌+◌, ◌-◌, ◌<◌, ◌≤◌, ◌&&◌, ◌||◌, Bool, true, not, nat_lt, if◌then◌else◌, List, [], ◌∷◌, ◌++◌, length, map, All, Option, Result, Ok, Err}
use Rattle.gateway_core.specs.of_ec_outside.Faults.{Rose}
use Rattle.gateway_core.specs.of_ec_outside.Port.{HeardGram, Hears, has_ended}
use Rattle.gateway_core.specs.of_ec_outside.declared.port.Heard.{Heard}
use Rattle.run_record.specs.of_run_book.declared.book.GramOut.{GramOut}
use Rattle.gateway_core.specs.of_ec_outside.declared.port.SentGram.{SentGram}
use Rattle.run_record.specs.of_segment_plan.Sound.{IsPlan}
use Rattle.run_record.specs.of_segment_plan.declared.plan.Scenario.{Scenario}
use Rattle.run_record.specs.of_run_book.declared.book.Book.{Book}
use Rattle.run_record.specs.Session.{SessionState, IsDone, budget_of, has_live}
use Rattle.run_record.specs.of_run_notes.Slaves.{home_of}
use Rattle.run_record.specs.Ran.{HasSent, IsUnderway}
use Rattle.gateway_run.specs.Heard.{heard_as, AreHeard, AreSent, AreSentBut, IsOwed, IsRightly, LacksLast}
use Rattle.gateway_run.specs.Account.{Owing, Course, AreSpelled, Waited, happened_in, heard_since, numbers_in, recent}
use Rattle.gateway_run.specs.Desk.{IsSound}
use Rattle.gateway_run.specs.declared.stop.Stop.{Stop}
use Rattle.gateway_run.specs.declared.stop.Stop.TheVariants as stops
use Rattle.gateway_run.specs.declared.turn.Serving.{Serving}

-- what a port tells: the datagrams heard and sent, whether it ended, and its faults
pub record Told : Type 0 where
  pub heard : Option (List HeardGram)
  pub sent : Option (List SentGram)
  pub over : Bool
  pub faults : ℕ

-- what this port tells
abbrev pub told : {Q : Type 0} → (Q → Option (List HeardGram)) → (Q → Option (List SentGram)) → (Q → Bool) → (Q → ℕ) → Q → Told
told heard sent over faults port = record { heard = heard port; sent = sent port; over = over port; faults = faults port }

-- some slave is live and something is left to do
abbrev pub LivesOn : SessionState → Type 0
LivesOn s = (has_live s.master ≡ true) × (IsDone s → ⊥)

-- unless the segment rests
abbrev pub LivesUnless : Bool → SessionState → Type 0
LivesUnless rests s = OnFalse rests (LivesOn s)

-- no request is unfinished, where the segment is settled
abbrev pub EmptyWhere : Bool → Serving → Type 0
EmptyWhere settled v = OnTrue settled (v.desk.requests.items ≡ [])

-- a serving of a sound plan and its book: the session is under way, each reply goes to its own asker, what was passed on was rightly so, what was
-- sent and is still to be sent is what was owed, and just what happened at the switch stands in the book, with its numbers; it waited before each frame, and no
-- more is still to be sent than came last
pub record IsOn (plan : Scenario) (count : ℕ) (v : Serving) (b : Book) : Type 0 where
  pub is_plan : IsPlan plan
  pub underway : IsUnderway plan count v.session b
  pub counts : v.count ≡ count
  pub few : length b.grams ≤ count
  pub fits : count < 4294967296
  pub bounded : budget_of plan count ≤ 100000000
  pub sound : IsSound (map heard_as b.grams) v.desk
  pub answered : All (IsOwed (map heard_as b.grams)) b.replies
  pub judged : All (IsRightly (map home_of plan.slaves)) b.grams
  pub owed : List Owing
  pub course : Course plan count v.session b.frames b.grams v.desk.requests.items owed
  pub switch : happened_in plan count v.session b.frames b.grams v.desk.requests.items owed course ≡ b.switch
  pub switched : numbers_in plan count v.session b.frames b.grams v.desk.requests.items owed course ≡ b.switched
  pub spelled : AreSpelled (map heard_as b.grams) owed (b.replies ++ v.desk.outbox.items)
  pub waited : Waited plan count v.session b.frames b.grams v.desk.requests.items owed course v.over
  pub prompt : length v.desk.outbox.items ≤ length (recent plan count v.session b.frames b.grams v.desk.requests.items owed course)

-- what the datagrams heard since the last frame made owed, by a serving's course
abbrev pub since_of : {plan : Scenario} {count : ℕ} {v : Serving} {b : Book} → IsOn plan count v b → List Owing
since_of {plan} {count} {v} {b} on = heard_since plan count v.session b.frames b.grams v.desk.requests.items on.owed on.course

-- what came last, by that course
abbrev pub recent_of : {plan : Scenario} {count : ℕ} {v : Serving} {b : Book} → IsOn plan count v b → List Owing
recent_of {plan} {count} {v} {b} on = recent plan count v.session b.frames b.grams v.desk.requests.items on.owed on.course

-- a serving and its port, by what the port told first: the book has what was heard and sent since
pub record IsServing (plan : Scenario) (count : ℕ) (first now : Told) (v : Serving) (b : Book) : Type 0 where
  pub on : IsOn plan count v b
  pub heard : AreHeard first.heard now.heard b.grams
  pub sent : AreSent first.sent now.sent b.replies
  pub over : v.over ≡ true → now.over ≡ true
  pub later : first.faults ≤ now.faults

-- a serving at the beginning of a turn, until its frame: no more is still to be sent than the datagrams heard since the last frame made owed
pub record IsHearing (plan : Scenario) (count : ℕ) (first now : Told) (v : Serving) (b : Book) : Type 0 where
  pub serving : IsServing plan count first now v b
  pub fresh : length v.desk.outbox.items ≤ length (since_of serving.on)

-- a serving whose port failed: at hearing, or at sending the last datagram of the book, which was sent or not
pub record IsFaulted (plan : Scenario) (count : ℕ) (first now : Told) (v : Serving) (b : Book) : Type 0 where
  pub on : IsOn plan count v b
  pub heard : AreHeard first.heard now.heard b.grams
  pub sent : AreSentBut first.sent now.sent b.replies
  pub prompt : LacksLast first.sent now.sent b.replies (length v.desk.outbox.items) (length (since_of on)) (length (recent_of on))
  pub over : v.over ≡ true → now.over ≡ true
  pub rose : Rose first.faults now.faults

-- what a call of a port that listens tells: what it heard, and that it sent nothing
pub record Listens (now next : Told) (answer : Heard) (octets : List ℕ) : Type 0 where
  pub hears : Hears now.heard next.heard octets (Ok answer)
  pub sent : next.sent ≡ now.sent
  pub over : next.over ≡ (has_ended (Ok answer) || now.over)
  pub later : now.faults ≤ next.faults

-- a datagram stands in the book besides
abbrev pub PutsOne : GramOut → Book → Book → Type 0
PutsOne reply b b' = b' ≡ record b { replies = b.replies ++ reply ∷ [] }

-- a datagram was sent and stands in the book
pub record SentOne (reply : GramOut) (now next : Told) (b b' : Book) : Type 0 where
  pub puts : PutsOne reply b b'
  pub heard : next.heard ≡ now.heard
  pub sent : AreSent now.sent next.sent (reply ∷ [])
  pub over : next.over ≡ now.over
  pub later : now.faults ≤ next.faults

-- the port failed at a datagram, which was sent or not and stands in the book
pub record FailedOne (reply : GramOut) (now next : Told) (b b' : Book) : Type 0 where
  pub puts : PutsOne reply b b'
  pub heard : next.heard ≡ now.heard
  pub sent : AreSentBut now.sent next.sent (reply ∷ [])
  pub over : next.over ≡ now.over
  pub rose : Rose now.faults next.faults
  pub later : now.faults ≤ next.faults

-- a datagram is sent and stands in the book
abbrev pub SendsOne : GramOut → Told → Told → Book → Book → Result (Unit {0}) Stop → Type 0
SendsOne reply now next b b' (Ok done) = SentOne reply now next b b'
SendsOne reply now next b b' (Err stops.PortFault) = FailedOne reply now next b b'
SendsOne reply now next b b' (Err stops.NoMemory) = b' ≡ record b { replies = b'.replies }

-- a serving behind a step of it, which stands so where it goes on; where memory ran out, the frames of the book alone are told
abbrev pub GoesTo : {T : Type 0} → Type 0 → Scenario → ℕ → Told → Told → Serving → Book → Result T Stop → Type 0
GoesTo stands plan count first now v b (Ok value) = stands
GoesTo stands plan count first now v b (Err stops.PortFault) = IsFaulted plan count first now v b
GoesTo stands plan count first now v b (Err stops.NoMemory) = HasSent plan count b

-- the same of one that goes on anyhow
abbrev pub Goes : {T : Type 0} → Scenario → ℕ → Told → Told → Serving → Book → Result T Stop → Type 0
Goes plan count first now v b r = GoesTo (IsServing plan count first now v b) plan count first now v b r

-- and of one that hears
abbrev pub GoesHearing : {T : Type 0} → Scenario → ℕ → Told → Told → Serving → Book → Result T Stop → Type 0
GoesHearing plan count first now v b r = GoesTo (IsHearing plan count first now v b) plan count first now v b r

-- more can be heard
abbrev pub can_hear : Serving → Book → Bool
can_hear v b = not v.over && nat_lt (length b.grams) v.count

-- what is left to do at most: frames, datagrams to be heard, and the port's end
abbrev pub left : Serving → Book → ℕ
left v b = (v.session.budget - v.session.ring.number) + (v.count - length b.grams) + (if v.over then 0 else 1)
