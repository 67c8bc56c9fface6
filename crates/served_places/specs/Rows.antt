-- THE ROWS OF THE MAILS THAT ARE PASSED ON to a slave, in the order in which they came into its hand, all along its life.
use Rattle.std.specs.Prelude.{◌≡◌, ◌⊎◌, ℕ, Bool, true, Option, Some, None, List, [], ◌∷◌, ◌++◌, filter, map, if◌then◌else◌, All}
use Rattle.few_replies.specs.of_exchange_model.Exchange.{plain}
use Rattle.few_replies.specs.of_exchange_model.Rows.{Row, begun}
use Rattle.few_replies.specs.of_life_model.Lives.{Era, Life, Stand}
use Rattle.few_replies.specs.of_segment_model.Ends.{Passing}
use Rattle.few_replies.specs.of_segment_model.Seats.{rows_of}
use Rattle.few_replies.specs.of_state_model.Stated.{Service}
use Rattle.run_frames.specs.of_frame_view.View.{Lens}
use Rattle.few_replies.specs.of_link_mails.Body.{Body}
use Rattle.run_frames.specs.of_life_runs.Led.{Exchanged}
use Rattle.run_frames.specs.of_master_duty.Reply.{Reply}
use Rattle.run_frames.specs.of_master_hand.Spoken.{Asked, emission, is_followed, is_passed}
use Rattle.few_replies.specs.of_serving_model.Passing.{ends_told}
use Rattle.run_frames.specs.of_life_runs.Served.{Serves, ServedTurn, accepted_by}
use Rattle.run_frames.specs.of_life_runs.Told.{Passed, replies_in}

-- the rows of its services by mails, over these epochs
abbrev pub eras_rows : List (Era Body Asked Reply) → List (Row Body Asked Reply)
eras_rows [] = []
eras_rows (e ∷ es) = rows_of e.side ++ eras_rows es

-- over its life
abbrev pub life_rows : Life Body Asked Reply → List (Row Body Asked Reply)
life_rows l = eras_rows l.past ++ rows_of l.era.side

-- a row of a mail that is passed on
abbrev pub is_passed_row : Row Body Asked Reply → Bool
is_passed_row r = is_passed r.service

-- THE ROWS OF THESE MAILS
abbrev pub passed_rows : Life Body Asked Reply → List (Row Body Asked Reply)
passed_rows l = filter is_passed_row (life_rows l)

-- the replies that were heard in each of these rows
abbrev pub replies_of : List (Row Body Asked Reply) → List (List Body)
replies_of rs = map (λ (r : Row Body Asked Reply). plain emission r.heard) rs

-- what is had besides in the last of these
abbrev pub last_more : {T : Type 0} → List T → List (List T) → List (List T)
last_more more [] = []
last_more more (x ∷ []) = (x ++ more) ∷ []
last_more more (x ∷ (y ∷ xs)) = x ∷ last_more more (y ∷ xs)

-- how far the mail of the newest row of an epoch has come, where that row is one of them
abbrev pub now_passing : Option (Row Body Asked Reply) → Option Passing → List (Option Passing)
now_passing None passing = []
now_passing (Some r) passing = if is_passed_row r then passing ∷ [] else []

-- of an epoch: the mails of the rows before its newest are over
abbrev pub era_passings : Era Body Asked Reply → List (Option Passing)
era_passings e = map (λ (r : Row Body Asked Reply). None) (filter is_passed_row e.side.past) ++ now_passing e.side.now e.passing

-- over these epochs
abbrev pub eras_passings : List (Era Body Asked Reply) → List (Option Passing)
eras_passings [] = []
eras_passings (e ∷ es) = era_passings e ++ eras_passings es

-- HOW FAR THE MAIL OF EACH OF THESE ROWS HAS COME
abbrev pub passings : Life Body Asked Reply → List (Option Passing)
passings l = eras_passings l.past ++ era_passings l.era

-- A ROW STAYS: its service and the frame before which that came into hand; more may be heard in it
pub record Stays (r s : Row Body Asked Reply) : Type 0 where
  pub service : s.service ≡ r.service
  pub frame : s.frame ≡ r.frame
  pub more : List Body
  pub heard : s.heard ≡ r.heard ++ more

-- the row of what comes into hand, where that is a mail that is passed on
abbrev pub row_begun : ℕ → Option (Service Asked) → List (Row Body Asked Reply)
row_begun made None = []
row_begun made (Some (Service.Mails q)) = if is_passed q then begun q made ∷ [] else []
row_begun made (Some (Service.State target)) = []

-- what is told of the mail that was passed on last, where these mails are accepted
abbrev pub told_besides : Option Passed → Option Passing → List Body → List Body
told_besides None passing ms = []
told_besides (Some p) passing ms = replies_in passing ms

-- A FRAME BRINGS NO REPLY MORE to a mail that was passed on and is over, while no other service by mails came into hand of its slave
abbrev pub HearsNoMore : (ℕ → Lens) → ℕ → ℕ → Exchanged → ServedTurn → Type 0
HearsNoMore lens recover retry f v =
    v.turn.lived.life.era.passing ≡ None → (r : Row Body Asked Reply) → v.turn.lived.life.era.side.now ≡ Some r → is_passed r.service ≡ true → plain emission (accepted_by lens recover retry f f.fate v) ≡ []

-- a slave of which a mail was passed on last, and no other service came into hand since, is open
abbrev pub IsHeld : Serves → Type 0
IsHeld w = (p : Passed) → w.hand ≡ Some p → w.lead.lived.life.stand ≡ Stand.Open

-- THESE ARE ALL REPLIES to a mail that was passed on: the last of them tells that no other follows; or its server took the mail, and there is none
abbrev pub AreAll : List Body → Type 0
AreAll told = (told ≡ []) ⊎ (ends_told is_followed told ≡ true)

-- WHAT WAS TOLD of a mail that was passed on, by how far it has come: no reply before the first; then replies that others follow; and all where it is over
abbrev pub StandsTold : Option Passing → List Body → Type 0
StandsTold None told = AreAll told
StandsTold (Some Passing.Waiting) told = told ≡ []
StandsTold (Some Passing.Sent) told = told ≡ []
StandsTold (Some Passing.Boxed) told = told ≡ []
StandsTold (Some Passing.Served) told = told ≡ []
StandsTold (Some Passing.Answered) told = All (λ (m : Body). is_followed m ≡ true) told

-- of the one that was passed on last to a slave
abbrev pub ToldAll : Serves → Type 0
ToldAll w = (p : Passed) → w.hand ≡ Some p → StandsTold w.lead.lived.life.era.passing p.told
