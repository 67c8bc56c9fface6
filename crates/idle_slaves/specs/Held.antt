-- A WRITE IN VAIN, and what may come into hand behind it.
use Rattle.std.specs.Prelude.{◌≡◌, ◌≤◌, ℕ, true, Bool, Some, None, List}
use Rattle.plan_ring.specs.of_slave_model.Moments.{IsFree, HeldStill}
use Rattle.plan_ring.specs.of_exchange_model.Exchange.{Speech}
use Rattle.idle_slaves.specs.Waiting.{Memory}
use Rattle.plan_ring.specs.of_life_model.Lives.{Era, Life, era_next}
use Rattle.plan_ring.specs.Alike.{WishIs}
use Rattle.plan_ring.specs.of_life_model.Own.{own}
use Rattle.plan_ring.specs.of_run_frames.Waits.{Waits}
use Rattle.plan_ring.specs.of_segment_model.Slaves.{Datagram}
use Rattle.plan_ring.specs.of_state_model.Stated.{Service}
use Rattle.plan_ring.specs.of_state_model.Accounts.{Pick, starts}

-- BEHIND A WRITE IN VAIN behind a step, with nothing gained since: where a state service might begin, none is left
abbrev pub HeldUp : {M Q R : Type 0} → Speech M Q R → (Q → Bool) → Type 0 → Life M Q R → Memory → Waits → Type 0
HeldUp x acknowledged Left l m t = 1 ≤ t.tries → m.paused ≡ true → l.era.account.hand ≡ None → l.era.passing ≡ None → IsFree x acknowledged l.era.side → Left

-- AT A WRITE IN VAIN, from the life `l` before the frame to `k` behind it: where a state service might begin behind it, none is left
abbrev pub EndsHeld : {M Q R : Type 0} → Speech M Q R → (Q → Bool) → Type 0 → ℕ → List (Datagram M) → Life M Q R → Life M Q R → Type 0
EndsHeld x acknowledged Left station back l k = l.era.account.hand ≡ None → l.era.passing ≡ None → HeldStill station (own station back) l.era.side k.era.side → IsFree x acknowledged k.era.side → Left

-- a service that was chosen is one of these, and came into hand
abbrev pub Took : {M Q R : Type 0} → Speech M Q R → (Q → Bool) → (Q → Bool) → (M → Bool) → (Q → Bool) → ℕ → Era M Q R → Pick Q → Type 0
Took {M} {Q} x acknowledged is more passed frame e pick = (w : Service Q) → pick.begin ≡ Some w → WishIs is (Some w) × ((era_next x acknowledged more passed frame e pick).account.started ≡ starts e.account w frame)
