-- WHAT A FRAME LEAVES OF WHAT IS NOTED OF A SLAVE: before it, behind its return, and behind its loss.
use Rattle.std.specs.Prelude.{◌≡◌, ◌⊎◌, ◌<◌, ℕ, suc, Bool, true, false, nat_lt, is_some, Option, Some, None, List, [], ◌∷◌, ◌++◌, ⊤}
use Rattle.std.specs.List.{All}
use Rattle.life_runs.specs.Spans.{is_open, SameEpochs, EpochsBack, EpochsLost}
use Rattle.life_runs.specs.of_life_model.Lives.{Era, Life, Stand}
use Rattle.life_runs.specs.Led.{Comes, Leads, Took, Turn, speech_at}
use Rattle.life_runs.specs.of_frame_view.View.{Lens}
use Rattle.life_runs.specs.of_frame_view.Shares.{IsNext}
use Rattle.life_runs.specs.of_mailbox_mail.declared.mail.Mail.{Mail}
use Rattle.life_runs.specs.of_segment_plan.declared.service.Service as Plan
use Rattle.life_runs.specs.of_master_duty.Reply.{Reply}
use Rattle.life_runs.specs.of_segment_model.Ends.{Outcome}
use Rattle.life_runs.specs.of_state_model.Accounts.{Account, Change}
use Rattle.run_frames.specs.ScriptAnswers.{Noted, IsNoted, Waits, newest_answer, reply_by}
use Rattle.life_runs.specs.of_exchange_model.Rows.{Row}
use Rattle.life_runs.specs.of_link_mails.Body.{Body}
use Rattle.life_runs.specs.of_master_hand.Spoken.{Asked, acknowledged, is_followed, is_passed, passed}
use Rattle.life_runs.specs.of_state_model.Stated.{Service}

-- the frames at which a slave was given up
abbrev pub gives : Leads → List ℕ
gives a = a.lived.life.gave

-- the services of a slave's newest epoch
abbrev pub account_of : Leads → Account Asked Reply
account_of a = a.lived.life.era.account

-- the slave is open
abbrev pub opened : Leads → Bool
opened a = is_open a.lived.life.stand

-- what is awaited of a service of the script that comes into hand: the outcome of a change of state, or the reply of one by mails
abbrev pub awaited : Bool → Waits
awaited true = Waits.change
awaited false = Waits.reply

-- one service more is noted, which came into hand before this frame and has come to nothing yet
abbrev pub with_begun : ℕ → List Noted → List Noted
with_begun made ns = ns ++ record { frame = made; reply = None } ∷ []

-- one is noted with this reply
abbrev pub with_reply : List Noted → ℕ → Option (Reply × ℕ) → List Noted
with_reply ns frame reply = ns ++ record { frame = frame; reply = reply } ∷ []

-- an epoch was opened before a frame, if it was
abbrev pub OpenedBefore : ℕ → Option ℕ → Type 0
OpenedBefore made None = ⊤
OpenedBefore made (Some frame) = frame < made

-- ALL THAT STANDS IN A LIFE was before a frame: the frames that opened its epochs, and those at which it was given up
pub record IsBefore (made : ℕ) (l : Life Body Asked Reply) : Type 0 where
  pub past : All (λ (e : Era Body Asked Reply). OpenedBefore made e.opened) l.past
  pub era : OpenedBefore made l.era.opened
  pub gave : All (λ k. k < made) l.gave

-- BEFORE A FRAME: where the script went on, one service more; which of both kinds the account's hand tells
pub record Turns (made : ℕ) (b : Leads) (waits : Waits) (number : ℕ) (ns : List Noted) : Type 0 where
  pub same : nat_lt number b.number ≡ false → IsNoted b waits number ns
  pub more : nat_lt number b.number ≡ true → (state : Bool) → (b.lived.life.stand ≡ Stand.Open → state ≡ is_some (account_of b).hand) → IsNoted b (awaited state) b.number (with_begun made ns)

-- WHAT COMES INTO HAND: as in a run, or a mail that is passed on, where the script stays
pub data ComesBy (room : ℕ) (script : List Plan.Service) (n : ℕ) : Option (Service Asked) → ℕ → Type 0 where
  own : (b : Option (Service Asked)) (k : ℕ) → Comes room script n b k → ComesBy room script n b k
  mail : (m : Mail) → ComesBy room script n (Some (Service.Mails (passed m))) n

-- A SLAVE BEFORE A FRAME, whatever came into hand
pub record TurnsBy (lens : ℕ → Lens) (made : ℕ) (a : Leads) (u : Turn) : Type 0 where
  pub script : u.script ≡ a.script
  pub comes : ComesBy (lens a.lived.spot.station).out a.script a.number u.begun u.number
  pub next : IsNext (speech_at lens a.lived.spot) acknowledged is_followed is_passed made a.lived u.lived
  pub begun : next.pick.begin ≡ u.begun
  pub took : Took made a.lived.life.era.account u.lived.life.era.account u.begun

-- the script of a slave goes on by one service, or by none
pub record GoesOn (a b : Leads) : Type 0 where
  pub script : b.script ≡ a.script
  pub number : (b.number ≡ a.number) ⊎ (b.number ≡ suc a.number)

-- of whatever is noted; and no one is given up
pub record TurnsSo (made : ℕ) (a b : Leads) : Type 0 where
  pub turns : (waits : Waits) (number : ℕ) (ns : List Noted) → IsNoted a waits number ns → Turns made b waits number ns
  pub gave : gives b ≡ gives a
  pub goes : GoesOn a b
  pub epochs : SameEpochs a.lived.life b.lived.life
  pub before : IsBefore made a.lived.life → IsBefore made b.lived.life

-- the same script, and so many of it that came into hand
pub record SameScript (a b : Leads) : Type 0 where
  pub script : b.script ≡ a.script
  pub number : b.number ≡ a.number

-- the newest change of state that is over ended so
pub record EndedSo (over : List (Change Reply)) (outcome : Outcome Reply) : Type 0 where
  pub front : List (Change Reply)
  pub change : Change Reply
  pub whole : over ≡ front ++ change ∷ []
  pub is : change.answer ≡ outcome

-- BEHIND A RETURN, of a service by mails: it goes on awaiting its reply, or has it of this frame
pub record ReplyPasses (made : ℕ) (a b : Leads) : Type 0 where
  pub waits : (number : ℕ) (ns : List Noted) → IsNoted a Waits.reply number ns → newest_answer b ≡ None → IsNoted b Waits.reply number ns
  pub told : (number : ℕ) (front : List Noted) (frame : ℕ) (reply : Reply) (g : ℕ) → newest_answer b ≡ Some (reply, g) → IsNoted a Waits.reply number (with_begun frame front) → IsNoted b Waits.nothing number (with_reply front frame (Some (reply, made)))
  pub up : (number : ℕ) (ns : List Noted) → IsNoted a Waits.reply number ns → b.lived.life.stand ≡ Stand.Open
  -- no mail is passed on by it
  pub own : (number : ℕ) (ns : List Noted) (row : Row Body Asked Reply) → IsNoted a Waits.reply number ns → b.lived.life.era.side.now ≡ Some row → is_passed row.service ≡ true → ⊥

-- of a change of state: it goes on, or the slave isn't open; it ended with this frame; or the slave is open anew by it
pub record ChangePasses (made : ℕ) (a b : Leads) : Type 0 where
  pub goes : (number : ℕ) (ns : List Noted) → IsNoted a Waits.change number ns → (opened b ≡ true → (opened a ≡ true) × (is_some (account_of b).hand ≡ true)) → IsNoted b Waits.change number ns
  pub ends : (number : ℕ) (front : List Noted) (frame : ℕ) (outcome : Outcome Reply) → opened a ≡ true → opened b ≡ true → (account_of b).hand ≡ None → EndedSo (account_of b).over outcome →
      IsNoted a Waits.change number (with_begun frame front) → IsNoted b Waits.nothing number (with_reply front frame (Some (reply_by outcome, made)))
  pub some : (number : ℕ) (ns : List Noted) → IsNoted a Waits.change number ns → opened a ≡ true → opened b ≡ true → (account_of b).hand ≡ None → (account_of b).over ≡ [] → ⊥
  pub anew : (number : ℕ) (front : List Noted) (frame : ℕ) → opened a ≡ false → opened b ≡ true →
      IsNoted a Waits.change number (with_begun frame front) → IsNoted b Waits.nothing number (with_reply front frame (Some (reply_by Outcome.Reached, made)))

-- BEHIND A RETURN, of whatever is noted
pub record PassesSo (made : ℕ) (a b : Leads) : Type 0 where
  pub still : (number : ℕ) (ns : List Noted) → IsNoted a Waits.nothing number ns → IsNoted b Waits.nothing number ns
  pub reply : ReplyPasses made a b
  pub change : ChangePasses made a b
  pub gave : gives b ≡ gives a
  pub same : SameScript a b
  pub epochs : EpochsBack made a.lived.life b.lived.life
  pub before : IsBefore (suc made) b.lived.life

-- BEHIND A LOSS: it goes on so, where the slave isn't given up; and else nothing is awaited any more
pub record LosesSo (made : ℕ) (a b : Leads) : Type 0 where
  pub waits : (waits : Waits) (number : ℕ) (ns : List Noted) → IsNoted a waits number ns → gives b ≡ gives a → IsNoted b waits number ns
  pub given : (waits : Waits) (number : ℕ) (ns : List Noted) → IsNoted a waits number ns → gives b ≡ gives a ++ made ∷ [] → IsNoted b Waits.nothing number ns
  pub gave : (gives b ≡ gives a) ⊎ (gives b ≡ gives a ++ made ∷ [])
  pub same : SameScript a b
  pub epochs : EpochsLost a.lived.life b.lived.life
  pub before : IsBefore (suc made) b.lived.life
