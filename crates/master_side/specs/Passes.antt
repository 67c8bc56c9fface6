-- How a mail that is passed on goes on, by what frames tell of it: `passing_after` of the segment, news by news.
use Rattle.std.specs.Prelude.{ℕ, ◌==◌, Bool, if◌then◌else◌, Option, Some, None}
use Rattle.master_side.specs.declared.passing.Passing.{Passing}
use Rattle.master_side.specs.declared.hand.Heard.{Heard}
use Rattle.master_side.specs.declared.carried.Carried.{Carried}

-- a mail is sent, for the first time where it is fresh
abbrev pub told_by : Option Passing → Bool → Option Passing
told_by (Some Passing.Waiting) fresh = if fresh then Some Passing.Sent else Some Passing.Waiting
told_by passing fresh = passing

-- a write of mailbox 0 came back
abbrev pub written_by : Option Passing → ℕ → Option Passing
written_by (Some Passing.Sent) counter = if counter == 0 then Some Passing.Sent else Some Passing.Boxed
written_by passing counter = passing

-- mailbox 0 was seen full or empty
abbrev pub full_by : Option Passing → Bool → Option Passing
full_by (Some Passing.Boxed) full = if full then Some Passing.Boxed else Some Passing.Served
full_by passing full = passing

-- an access of another register than a mailbox was done: the status of mailbox 0 alone counts
abbrev pub status_by : Option Passing → Carried → Bool → Option Passing
status_by passing Carried.Full full = full_by passing full
status_by passing _ full = passing

-- a mail was accepted: a reply is the last unless more of it is awaited; one that replies to nothing ends a mail that the server has taken
abbrev pub heard_by : Option Passing → Heard → Option Passing
heard_by None heard = None
heard_by (Some Passing.Served) Heard.Emission = None
heard_by (Some passing) Heard.Emission = Some passing
heard_by (Some passing) Heard.More = Some Passing.Answered
heard_by (Some passing) Heard.Last = None
heard_by (Some passing) Heard.Foreign = None

-- mailbox 1 was read empty
abbrev pub empty_by : Option Passing → Option Passing
empty_by (Some Passing.Served) = None
empty_by passing = passing

-- where such a read counts
abbrev pub empty_where : Bool → Option Passing → Option Passing
empty_where counts passing = if counts then empty_by passing else passing
