-- What a side remembers of its visits goes on as it was where a service comes into hand.
use Rattle.std.proofs.Common.{◌≡◌, true, false, Bool, Option, Some, None, refl, sym, ◌∙◌}
use Rattle.std.specs.Prelude.{is_some, ◌&&◌, ◌||◌}
use Rattle.master_duty.specs.declared.stage.Met.{Met}
use Rattle.master_side.specs.Carried.{in_hand}
use Rattle.master_side.specs.Passes.{told_by}
use Rattle.master_side.specs.Recall.{recall_by}
use Rattle.master_side.specs.declared.passing.Passing.{Passing}

-- with neither a state service in hand nor a mail that is passed on the turn counts for nothing, and behind what comes into hand there is none
none_after : (b : Bool) → (b && false) ≡ false
none_after true = refl
none_after false = refl

none_before : (turn : Bool) (duty : Option Met) (passing : Option Passing) → in_hand duty ≡ None → passing ≡ None → ((is_some (in_hand duty) || is_some passing) && turn) ≡ false
none_before turn duty passing e p = (λ i. (is_some (e i) || is_some (p i)) && turn)

pub begun_recall : (paused turn knows knows' : Bool) (old new : Option Met) (passing passing' : Option Passing) → in_hand old ≡ None → passing ≡ None → knows' ≡ knows → recall_by paused new passing' false knows' ≡ recall_by paused old passing turn knows
begun_recall paused turn knows knows' old new passing passing' e p k =
    λ i. record { paused = paused; turn = (none_after (is_some (in_hand new) || is_some passing') ∙ sym (none_before turn old passing e p)) i; knows = k i }

-- a mail that is sent isn't over
pub told_some : (passing : Option Passing) (fresh : Bool) → is_some (told_by passing fresh) ≡ is_some passing
told_some None fresh = refl
told_some (Some Passing.Waiting) true = refl
told_some (Some Passing.Waiting) false = refl
told_some (Some Passing.Sent) fresh = refl
told_some (Some Passing.Boxed) fresh = refl
told_some (Some Passing.Served) fresh = refl
told_some (Some Passing.Answered) fresh = refl
