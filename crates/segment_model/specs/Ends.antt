-- When a service is complete, by the news of its slave from the frame on at which it came into hand: the table of completed services.
use Rattle.std.specs.Prelude.{ℕ, ◌-◌, ◌==◌, Bool, true, false, if◌then◌else◌, Option, Some, None, option_map, List, [], ◌∷◌, length}
use Rattle.exchange_model.specs.Exchange.{Speech, plain}
use Rattle.link_model.specs.Mails.{first_of}
use Rattle.segment_model.specs.Record.{News, mails_heard}

-- what is addressed to a slave: a service by mails (of which some, as packets, end with their last write), a change of the AL state, or a
-- mail that is passed on as it is
pub data Task (M Q : Type 0) : Type 0 where
  Mails : Q → Task M Q
  State : ℕ → Task M Q
  Passed : M → Task M Q

-- how a task ended: with a reply, with its last write, with the state reached, or refused with this AL status code
pub data Outcome (R : Type 0) : Type 0 where
  Replied : R → Outcome R
  Handed : Outcome R
  Reached : Outcome R
  Refused : ℕ → Outcome R

-- so many mails were told, and behind the last of them a write was done
abbrev pub all_written : {M : Type 0} → ℕ → List (News M) → Bool
all_written n [] = false
all_written n (News.Told m ∷ ns) = all_written (n - 1) ns
all_written n (News.Written ∷ ns) = if n == 0 then true else all_written n ns
all_written n (News.Heard m ∷ ns) = all_written n ns
all_written n (News.NothingRead ∷ ns) = all_written n ns
all_written n (News.BoxFull full ∷ ns) = all_written n ns
all_written n (News.Status state refused ∷ ns) = all_written n ns

-- the target is read, or, once a status had the error flag, a status without it
abbrev pub state_ends : {M R : Type 0} → ℕ → Option ℕ → List (News M) → Option (Outcome R)
state_ends target refusal [] = None
state_ends target None (News.Status state None ∷ ns) = if state == target then Some Outcome.Reached else state_ends target None ns
state_ends target (Some code) (News.Status state None ∷ ns) = Some (Outcome.Refused code)
state_ends target refusal (News.Status state (Some code) ∷ ns) = state_ends target (first_of refusal (Some code)) ns
state_ends target refusal (News.Told m ∷ ns) = state_ends target refusal ns
state_ends target refusal (News.Written ∷ ns) = state_ends target refusal ns
state_ends target refusal (News.Heard m ∷ ns) = state_ends target refusal ns
state_ends target refusal (News.NothingRead ∷ ns) = state_ends target refusal ns
state_ends target refusal (News.BoxFull full ∷ ns) = state_ends target refusal ns

-- how far a mail that is passed on has come: not yet sent, sent, taken by mailbox 0, taken by the server; or a reply of it came
pub data Passing : Type 0 where
  Waiting : Passing
  Sent : Passing
  Boxed : Passing
  Served : Passing
  Answered : Passing

-- what each news makes of it; None where the mail has ended. A reply is the last unless `more` says that it goes on
abbrev pub passing_after : {M : Type 0} → (M → Bool) → (M → Bool) → Passing → News M → Option Passing
passing_after emission more Passing.Waiting (News.Told m) = Some Passing.Sent
passing_after emission more Passing.Sent News.Written = Some Passing.Boxed
passing_after emission more Passing.Boxed (News.BoxFull false) = Some Passing.Served
passing_after emission more Passing.Served News.NothingRead = None
passing_after emission more Passing.Served (News.Heard m) = if emission m then None else if more m then Some Passing.Answered else None
passing_after emission more p (News.Heard m) = if emission m then Some p else if more m then Some Passing.Answered else None
passing_after emission more p n = Some p

-- such a mail has ended, or it has not
abbrev pub passed_ends : {M R : Type 0} → (M → Bool) → (M → Bool) → Option Passing → List (News M) → Option (Outcome R)
passed_ends emission more None ns = Some Outcome.Handed
passed_ends emission more (Some p) [] = None
passed_ends emission more (Some p) (n ∷ ns) = passed_ends emission more (passing_after emission more p n) ns

-- a service that has replies ends with them; one that has none with the write of its last mail
abbrev pub mails_end : {M Q R : Type 0} → Speech M Q R → Q → Bool → List (News M) → Option (Outcome R)
mails_end x q false ns = option_map (λ r. Outcome.Replied r) (x.ends q (plain x.emission (mails_heard ns)))
mails_end x q true ns = if all_written (length (x.planned q [])) ns then Some Outcome.Handed else None

-- THE TABLE: what these news complete of a task
abbrev pub ends : {M Q R : Type 0} → Speech M Q R → (M → Bool) → Task M Q → List (News M) → Option (Outcome R)
ends x more (Task.Mails q) ns = mails_end x q (x.handed q) ns
ends x more (Task.State target) ns = state_ends target None ns
ends x more (Task.Passed m) ns = passed_ends x.emission more (Some Passing.Waiting) ns
