-- How a port that listens asked its link.
use Rattle.std.proofs.Common.{◌≡◌, ◌∙◌, ap, refl, ℕ, suc, ◌+◌, ◌≤◌, Bool, Option, None, Some, Result, arith}
use Rattle.ec_links.specs.of_ec_outside.Calls.{one_more}
use Rattle.ec_links.specs.of_ec_outside.declared.port.Heard.{Heard}
use Rattle.ec_links.specs.of_ec_outside.declared.port.PortErr.{PortErr}
use Rattle.ec_links.specs.Link.{asked_more, is_quiet}
use Rattle.ec_links.specs.declared.link.Asked.{Asked}
use Rattle.gateway_stream.specs.Hearing.{AsksLink, TurnsTo}

-- a count more is at most one more
one_few : (count : ℕ) → one_more count ≤ count + 1
one_few count = omega arith

-- the link was asked so often at most, where it tells it
abbrev pub AskedFew : Option Asked → Option Asked → ℕ → Type 0
AskedFew None new n = new ≡ None
AskedFew (Some old) new n = (now : Asked) × (new ≡ Some now) × (now.count ≤ old.count + n)

pub no_turn : (old : Option Asked) → AskedFew old old 0
no_turn None = refl
no_turn (Some old) = (old, refl, omega arith)

-- a turn more
pub turn_more : (first old new : Option Asked) (n : ℕ) (broken : Bool) (turn : Option (Result Heard PortErr)) → AskedFew first old n → TurnsTo old new broken turn → AskedFew first new (n + 1)
turn_more None old new n broken turn none (TurnsTo.asked answer whole is quiet) = is ∙ ap (asked_more answer) none
turn_more None old new n broken turn none (TurnsTo.unasked cut is quiet) = is ∙ none
turn_more (Some first) old new n broken turn (now, told, few) (TurnsTo.asked answer whole is quiet) =
    (record { count = one_more now.count; quiet = is_quiet answer }, is ∙ ap (asked_more answer) told, omega (arith, few, one_few now.count))
turn_more (Some first) old new n broken turn (now, told, few) (TurnsTo.unasked cut is quiet) = (now, is ∙ told, omega (arith, few))

-- the turn that answers
pub turn_last : (first old new : Option Asked) (n : ℕ) (broken : Bool) (answer : Result Heard PortErr) → n ≤ 2047 → AskedFew first old n → TurnsTo old new broken (Some answer) → AsksLink first new broken answer
turn_last None old new n broken answer few none (TurnsTo.asked said whole is quiet) = is ∙ ap (asked_more said) none
turn_last None old new n broken answer few none (TurnsTo.unasked cut is quiet) = is ∙ none
turn_last (Some first) old new n broken answer few (now, told, less) (TurnsTo.asked said whole is quiet) =
    (record { count = one_more now.count; quiet = is_quiet said }, is ∙ ap (asked_more said) told, record { few = omega (arith, few, less, one_few now.count); quiet = rw (whole, quiet) refl })
turn_last (Some first) old new n broken answer few (now, told, less) (TurnsTo.unasked cut is quiet) = (now, is ∙ told, record { few = omega (arith, few, less); quiet = rw (cut, quiet) refl })
