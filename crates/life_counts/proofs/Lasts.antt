-- WHAT THE LAST EPOCH of a list adds, and what it is.
use Rattle.std.proofs.Common.{◌≡◌, ℕ, ◌+◌, ◌≤◌, Option, Some, None, List, [], ◌∷◌, ◌++◌, arith}
use Rattle.few_replies.specs.of_life_model.Gains.{idle_gains, era_gains, eras_gains}
use Rattle.few_replies.specs.of_life_model.Lives.{Era}
use Rattle.few_replies.specs.of_link_model.Mails.{LinkMail}
use Rattle.life_counts.specs.Begun.{era_most, eras_most, IsUnopened, AllUnopened}

pub idle_one : {M : Type 0} (holding : Option (LinkMail M)) → idle_gains holding ≤ 1
idle_one None = omega arith
idle_one (Some m) = omega arith

pub gains_last : {M Q R : Type 0} (es : List (Era M Q R)) (e : Era M Q R) → eras_gains (es ++ e ∷ []) ≡ eras_gains es + era_gains e
gains_last [] e = omega arith
gains_last (f ∷ es) e = omega (arith, gains_last es e)

pub most_last : {M Q R : Type 0} (count : Q → ℕ) (es : List (Era M Q R)) (e : Era M Q R) → eras_most count (es ++ e ∷ []) ≡ eras_most count es + era_most count e
most_last count [] e = omega arith
most_last count (f ∷ es) e = omega (arith, most_last count es e)

pub all_before : {M Q R : Type 0} (es : List (Era M Q R)) (e : Era M Q R) → AllUnopened (es ++ e ∷ []) → AllUnopened es
all_before [] e all = tt
all_before (f ∷ es) e all = (all.0, all_before es e all.1)

pub the_last : {M Q R : Type 0} (es : List (Era M Q R)) (e : Era M Q R) → AllUnopened (es ++ e ∷ []) → IsUnopened e
the_last [] e all = all.0
the_last (f ∷ es) e all = the_last es e all.1
