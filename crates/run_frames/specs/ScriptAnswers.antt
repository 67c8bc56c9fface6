-- WHAT BECAME OF THE SCRIPTED SERVICES OF A SLAVE: as its life has it, and as it is noted.
use Rattle.std.specs.Prelude.{◌≡◌, ◌⊎◌, ◌<◌, ◌&&◌, ℕ, suc, nat_lt, nat_le, Bool, true, false, is_some, if◌then◌else◌, Option, Some, None, List, [], ◌∷◌, ◌++◌, map, length, ⊤}
use Rattle.std.specs.List.{All}
use Rattle.life_runs.specs.of_exchange_model.Areas.{Areas}
use Rattle.life_runs.specs.of_exchange_model.Rows.{Row}
use Rattle.life_runs.specs.Spans.{is_leaving, is_open}
use Rattle.life_runs.specs.of_life_model.Lives.{Era, Life, Stand, Opening, returns_to_init, new_side}
use Rattle.life_runs.specs.Led.{Leads, Turn}
use Rattle.life_runs.specs.of_link_mails.Body.{Body}
use Rattle.life_runs.specs.of_mailbox_mail.declared.outcome.ReplyKind.{ReplyKind}
use Rattle.life_runs.specs.of_master_duty.Reply.{Reply}
use Rattle.life_runs.specs.of_master_hand.Spoken.{Asked, handed}
use Rattle.run_frames.specs.Came.{is_beside}
use Rattle.life_runs.specs.of_segment_model.Ends.{Outcome}
use Rattle.life_runs.specs.of_segment_model.Seats.{Side, rows_of}
use Rattle.life_runs.specs.of_state_model.Stated.{Service}
use Rattle.life_runs.specs.of_state_model.Accounts.{Started, Duty, Change, new_account}
use Rattle.life_runs.specs.of_state_model.Promise.{services_in, mails_in}

-- what a scripted service has come to: one that goes by mails, the answer of its row, with the number of the frame that brought it; a change of state,
-- its outcome, with that number
pub data Came : Type 0 where
  state : Option (Outcome Reply × ℕ) → Came
  mails : Option (Reply × ℕ) → Came

-- a scripted service that came into hand: the number of the frame before which it did, and what it has come to
pub record Scripted : Type 0 where
  pub frame : ℕ
  pub came : Came

-- the answers of a side's rows
abbrev pub answers_in : List (Row Body Asked Reply) → List (Option (Reply × ℕ))
answers_in rs = map (λ r. r.answer) rs

-- of a side
abbrev pub side_answers : Side Body Asked Reply → List (Option (Reply × ℕ))
side_answers d = answers_in (rows_of d)

-- the first of the changes of state that are over, and those behind it
abbrev pub first_change : List (Change Reply) → Option (Outcome Reply × ℕ)
first_change [] = None
first_change (c ∷ cs) = Some (c.answer, c.completed)

-- those behind the first
abbrev pub changes_behind : List (Change Reply) → List (Change Reply)
changes_behind [] = []
changes_behind (c ∷ cs) = cs

-- a service by mails, where it is of the script
abbrev pub scripted_mails : Bool → ℕ → Option (Reply × ℕ) → List Scripted → List Scripted
scripted_mails true frame answer more = more
scripted_mails false frame answer more = record { frame = frame; came = Came.mails answer } ∷ more

-- a change of state that returned its slave to Init reached its state with the frame that opened the slave anew, where one did
abbrev pub reached_at : Option ℕ → Option (Outcome Reply × ℕ)
reached_at None = None
reached_at (Some frame) = Some (Outcome.Reached, frame)

-- THE OUTCOME OF A CHANGE OF STATE: that which its epoch has; where it has none, and the change returns its slave to Init, it is reached by the frame that
-- opened the slave anew
abbrev pub change_outcome : Bool → Option ℕ → Option (Outcome Reply × ℕ) → Option (Outcome Reply × ℕ)
change_outcome returns anew (Some o) = Some o
change_outcome returns anew None = if returns then reached_at anew else None

-- a service and those behind it, with the frame that opened the slave anew, the answers of those that go by mails, and the changes of state that are over
abbrev pub scripted_by : Option ℕ → Service Asked → ℕ → List (Option (Reply × ℕ)) → List (Change Reply) → (List (Option (Reply × ℕ)) → List (Change Reply) → List Scripted) → List Scripted
scripted_by anew (Service.State target) frame answers changes more =
    record { frame = frame; came = Came.state (change_outcome (returns_to_init target) anew (first_change changes)) } ∷ more answers (changes_behind changes)
scripted_by anew (Service.Mails q) frame [] changes more = scripted_mails (is_beside (Service.Mails q)) frame None (more [] changes)
scripted_by anew (Service.Mails q) frame (answer ∷ answers) changes more = scripted_mails (is_beside (Service.Mails q)) frame answer (more answers changes)

-- THE SCRIPTED SERVICES among those that came into hand, each that goes by mails with the answer of its row, and each change of state with its outcome;
-- packets and mails that are passed on are left out
abbrev pub scripted_in : Option ℕ → List (Started Asked) → List (Option (Reply × ℕ)) → List (Change Reply) → List Scripted
scripted_in anew [] answers changes = []
scripted_in anew (s ∷ ss) answers changes = scripted_by anew s.service s.frame answers changes (λ more others. scripted_in anew ss more others)

-- a slave was given up at a frame from one on and before another
abbrev pub gave_between : ℕ → ℕ → List ℕ → Bool
gave_between from until [] = false
gave_between from until (frame ∷ gave) = if nat_le from frame && nat_lt frame until then true else gave_between from until gave

-- THE FRAME THAT OPENED A SLAVE ANEW behind an epoch, by the frames that opened this one and the next: where the slave was given up between these, it
-- didn't come to that by itself
abbrev pub anew_until : List ℕ → Option ℕ → ℕ → Option ℕ
anew_until gave None until = None
anew_until gave (Some from) until = if gave_between from until gave then None else Some until

abbrev pub opened_anew : List ℕ → Option ℕ → Option ℕ → Option ℕ
opened_anew gave from None = None
opened_anew gave from (Some until) = anew_until gave from until

-- of an epoch; and of several, with what opened the one behind them
abbrev pub era_scripted : Option ℕ → Era Body Asked Reply → List Scripted
era_scripted anew e = scripted_in anew e.account.started (side_answers e.side) e.account.over

abbrev pub next_opened : List (Era Body Asked Reply) → Option ℕ → Option ℕ
next_opened [] behind = behind
next_opened (e ∷ es) behind = e.opened

-- of several epochs
abbrev pub eras_scripted : List ℕ → List (Era Body Asked Reply) → Option ℕ → List Scripted
eras_scripted gave [] behind = []
eras_scripted gave (e ∷ es) behind = era_scripted (opened_anew gave e.opened (next_opened es behind)) e ++ eras_scripted gave es behind

-- over a whole life: behind the newest epoch nothing is opened yet
abbrev pub life_scripted : Life Body Asked Reply → List Scripted
life_scripted l = eras_scripted l.gave l.past l.era.opened ++ era_scripted None l.era

-- a scripted service as it is noted: the number of the frame before which it came into hand, and the reply, where one is reported, with its frame
pub record Noted : Type 0 where
  pub frame : ℕ
  pub reply : Option (Reply × ℕ)

-- the reply that an outcome is reported by: a state that was reached is done, one that was refused has its code
abbrev pub reply_by : Outcome Reply → Reply
reply_by (Outcome.Replied reply) = reply
reply_by Outcome.Handed = Some (ReplyKind.Handed, [])
reply_by Outcome.Reached = Some (ReplyKind.Done, [])
reply_by (Outcome.Refused code) = Some (ReplyKind.StateRefused code, [])

-- with the frame that brought it
abbrev pub outcome_reply : Option (Outcome Reply × ℕ) → Option (Reply × ℕ)
outcome_reply None = None
outcome_reply (Some o) = Some (reply_by o.0, o.1)

-- JUST WHAT A SERVICE HAS COME TO is reported: its reply, with its frame, or none where it has none
abbrev pub IsReported : Came → Option (Reply × ℕ) → Type 0
IsReported (Came.state outcome) reply = reply ≡ outcome_reply outcome
IsReported (Came.mails answer) reply = reply ≡ answer

-- JUST THE SCRIPTED SERVICES THAT CAME INTO HAND ARE NOTED, each once and in order, with its frame; and each with just what it has come to
abbrev pub AllNoted : List Scripted → List Noted → Type 0
AllNoted [] [] = ⊤
AllNoted (s ∷ ss) (n ∷ ns) = ((n.frame ≡ s.frame) × IsReported s.came n.reply) × AllNoted ss ns
AllNoted _ _ = ⊥

-- the answer of the newest row
abbrev pub now_answer : Option (Row Body Asked Reply) → Option (Reply × ℕ)
now_answer None = None
now_answer (Some r) = r.answer

-- of the newest epoch
abbrev pub newest_answer : Leads → Option (Reply × ℕ)
newest_answer a = now_answer a.lived.life.era.side.now

-- how many of these are changes of state
abbrev pub states_in : List (Service Asked) → ℕ
states_in [] = 0
states_in (Service.State target ∷ ss) = suc (states_in ss)
states_in (Service.Mails q ∷ ss) = states_in ss

-- a row whose answer stays: it is answered
abbrev pub RowRests : Option (Row Body Asked Reply) → Type 0
RowRests None = ⊤
RowRests (Some r) = is_some r.answer ≡ true

-- THE NEWEST SERVICE BY MAILS of an epoch is none of the script, so that it doesn't matter what its row is answered
pub record NewestBeside (e : Era Body Asked Reply) : Type 0 where
  pub front : List (Started Asked)
  pub asked : Asked
  pub frame : ℕ
  pub behind : List (Started Asked)
  pub started : e.account.started ≡ front ++ record { service = Service.Mails asked; frame = frame } ∷ behind
  pub other : is_beside (Service.Mails asked) ≡ true
  pub beside : mails_in (services_in front) ≡ length (answers_in e.side.past)
  pub row : Row Body Asked Reply
  pub now : e.side.now ≡ Some row

-- what its script came to stays, whatever is heard of its newest row
abbrev pub EraRests : Era Body Asked Reply → Type 0
EraRests e = RowRests e.side.now ⊎ NewestBeside e

-- NOTHING IS IN HAND of an epoch that awaits an answer
pub record RestsSo (e : Era Body Asked Reply) : Type 0 where
  pub hand : e.account.hand ≡ None
  pub states : states_in (services_in e.account.started) ≡ length e.account.over
  pub row : EraRests e

-- THE NEWEST SERVICE OF AN EPOCH IS A SCRIPTED ONE BY MAILS, which awaits its reply
pub record Awaits (e : Era Body Asked Reply) : Type 0 where
  pub front : List (Started Asked)
  pub asked : Asked
  pub frame : ℕ
  pub row : Row Body Asked Reply
  pub started : e.account.started ≡ front ++ record { service = Service.Mails asked; frame = frame } ∷ []
  pub script : is_beside (Service.Mails asked) ≡ false
  pub beside : mails_in (services_in front) ≡ length (answers_in e.side.past)
  pub now : e.side.now ≡ Some row
  pub replies : (areas : Areas) → handed areas row.service ≡ false
  pub hand : e.account.hand ≡ None
  pub states : states_in (services_in e.account.started) ≡ length e.account.over

-- IT IS A CHANGE OF STATE, which awaits its outcome
pub record Changes (e : Era Body Asked Reply) : Type 0 where
  pub front : List (Started Asked)
  pub frame : ℕ
  pub duty : Duty
  pub started : e.account.started ≡ front ++ record { service = Service.State duty.target; frame = frame } ∷ []
  pub beside : states_in (services_in front) ≡ length e.account.over
  pub hand : e.account.hand ≡ Some duty
  pub row : EraRests e

-- the epochs of a slave that is opened behind which the next one opens: where it is leaving, the newest is over too
abbrev pub eras_over : Life Body Asked Reply → List (Era Body Asked Reply)
eras_over l = if is_leaving l.stand then l.past ++ l.era ∷ [] else l.past

-- what their services come to, if this frame opens the next
abbrev pub over_scripted : Life Body Asked Reply → Option ℕ → List Scripted
over_scripted l behind = eras_scripted l.gave (eras_over l) behind

-- THE NEWEST SERVICE RETURNS ITS SLAVE TO INIT, which isn't open yet again, and wasn't given up since: the frame that opens it is its outcome's
pub record ComesAnew (l : Life Body Asked Reply) : Type 0 where
  pub front : List Scripted
  pub frame : ℕ
  pub whole : life_scripted l ≡ front ++ record { frame = frame; came = Came.state None } ∷ []
  pub opens : (g : ℕ) → over_scripted l (Some g) ≡ front ++ record { frame = frame; came = Came.state (reached_at (Some g)) } ∷ []
  pub away : is_open l.stand ≡ false

-- NOTHING IS AWAITED of a slave: where it is open, nothing is in hand; where it is opened, no service comes to more by that
pub record IsStill (l : Life Body Asked Reply) : Type 0 where
  pub rests : l.stand ≡ Stand.Open → RestsSo l.era
  pub opens : (o : Opening) → l.stand ≡ Stand.Opens o → (g : ℕ) → All (λ k. k < g) l.gave → over_scripted l (Some g) ≡ over_scripted l None

-- of a slave that is open
pub record IsAwaiting (a : Leads) : Type 0 where
  pub stand : a.lived.life.stand ≡ Stand.Open
  pub era : Awaits a.lived.life.era
  pub unanswered : newest_answer a ≡ None

-- a change of state is awaited of it
pub record IsGoing (l : Life Body Asked Reply) : Type 0 where
  pub stand : l.stand ≡ Stand.Open
  pub era : Changes l.era

-- what is awaited of the newest service: nothing, the reply of one by mails of the script, or the outcome of a change of state
pub data Waits : Type 0 where
  nothing : Waits
  reply : Waits
  change : Waits

-- how the life stands where that is awaited
abbrev pub StandsBy : Waits → Leads → Type 0
StandsBy Waits.nothing a = IsStill a.lived.life
StandsBy Waits.reply a = IsAwaiting a
StandsBy Waits.change a = IsGoing a.lived.life ⊎ ComesAnew a.lived.life

-- an epoch that isn't open yet
pub record IsNew (e : Era Body Asked Reply) : Type 0 where
  pub side : e.side ≡ new_side
  pub account : e.account ≡ new_account
  pub opened : e.opened ≡ None

-- since an epoch was opened its slave wasn't given up
pub record IsSpared (gave : List ℕ) (e : Era Body Asked Reply) : Type 0 where
  pub from : ℕ
  pub opened : e.opened ≡ Some from
  pub before : All (λ k. k < from) gave

-- an epoch is new until its slave is open, and goes on until it is given up
abbrev pub FreshBy : Stand → List ℕ → Era Body Asked Reply → Type 0
FreshBy (Stand.Opens o) gave e = is_leaving (Stand.Opens o) ≡ false → IsNew e
FreshBy Stand.Open gave e = IsSpared gave e
FreshBy Stand.Gone gave e = ⊤

-- WHAT IS NOTED OF A SLAVE: how many scripted services came into hand, which, and what each was answered; and what is awaited of the newest
pub record IsNoted (a : Leads) (waits : Waits) (number : ℕ) (ns : List Noted) : Type 0 where
  pub many : number ≡ a.number
  pub beside : mails_in (services_in a.lived.life.era.account.started) ≡ length (side_answers a.lived.life.era.side)
  pub noted : AllNoted (life_scripted a.lived.life) ns
  pub fresh : FreshBy a.lived.life.stand a.lived.life.gave a.lived.life.era
  pub stands : StandsBy waits a

-- the slave behind what came into hand before a frame
abbrev pub turned : Turn → Leads
turned u = record { script = u.script; number = u.number; lived = u.lived }
