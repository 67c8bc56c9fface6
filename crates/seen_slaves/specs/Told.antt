-- HOW FAR A MAIL THAT IS PASSED ON WAS TOLD, by what its master's side holds.
use Rattle.std.specs.Prelude.{◌≡◌, ◌≢◌, ◌⊎◌, true, Bool, Option, Some, None, List, [], ⊤}
use Rattle.idle_slaves.specs.of_exchange_model.Exchange.{Speech}
use Rattle.idle_slaves.specs.of_exchange_model.Rows.{Row}
use Rattle.idle_slaves.specs.of_life_model.Lives.{Era}
use Rattle.idle_slaves.specs.of_segment_model.Ends.{Passing}
use Rattle.idle_slaves.specs.of_segment_model.Seats.{Side}

-- nothing was told of a row
abbrev pub NoneTold : {M Q R : Type 0} → Option (Row M Q R) → Type 0
NoneTold None = ⊤
NoneTold (Some r) = r.told ≡ []

-- while it waits it is held, or wasn't told; and once it was sent it is held until its write is done
abbrev pub IsToldBy : {M Q R : Type 0} → Passing → Side M Q R → Type 0
IsToldBy Passing.Waiting d = NoneTold d.now ⊎ (d.halves.out.holding ≢ None)
IsToldBy Passing.Sent d = d.halves.out.holding ≢ None
IsToldBy Passing.Boxed d = ⊤
IsToldBy Passing.Served d = ⊤
IsToldBy Passing.Answered d = ⊤

-- of an epoch
abbrev pub EraTold : {M Q R : Type 0} → Era M Q R → Type 0
EraTold e = (p : Passing) → e.passing ≡ Some p → IsToldBy p e.side

-- such a service has a mail
abbrev pub PlansSome : {M Q R : Type 0} → Speech M Q R → (Q → Bool) → Type 0
PlansSome {M} {Q} x passed = (q : Q) (hs : List M) → passed q ≡ true → x.planned q hs ≢ []
