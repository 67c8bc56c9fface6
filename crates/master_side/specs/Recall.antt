-- WHAT A MASTER REMEMBERS of a slave's visits between two frames, beside the halves of its link and what is in hand.
use Rattle.std.specs.Prelude.{◌≡◌, ◌&&◌, ◌||◌, Bool, true, false, is_some, Option, Some, None, ⊤}
use Rattle.master_duty.specs.declared.stage.Met.{Met}
use Rattle.master_side.specs.Carried.{in_hand}
use Rattle.master_side.specs.declared.carried.Wish.{Wish}
use Rattle.master_side.specs.declared.passing.Passing.{Passing}

-- whether the last write found mailbox 0 full and no read came back since; whether, where mailbox 0 is to be seen empty, mailbox 1 is read next; and
-- whether its hand knows which mails are left of the service in hand
pub record Recall : Type 0 where
  pub paused : Bool
  pub turn : Bool
  pub knows : Bool

-- as a side has it: the turn counts only while a state service is in hand, or a mail that is passed on
abbrev pub recall_by : Bool → Option Met → Option Passing → Bool → Bool → Recall
recall_by paused duty passing turn knows = record { paused = paused; turn = (is_some (in_hand duty) || is_some passing) && turn; knows = knows }

-- of a slave whose mailboxes are new
abbrev pub new_recall : Recall
new_recall = record { paused = false; turn = false; knows = true }

-- nothing could begin by this wish: there was none, or no service was laid ready
abbrev pub BeginsNone : {Q : Type 0} → Option Wish → Option Q → Type 0
BeginsNone None ready = ⊤
BeginsNone (Some Wish.Mails) ready = ready ≡ None
BeginsNone (Some (Wish.State target)) ready = ⊥
