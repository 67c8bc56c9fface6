-- WHEN A SLAVE WAS GIVEN UP, by the numbers of the frames at whose loss that was, against the frame before which a datagram was heard and that before which its
-- mail came into hand.
use Rattle.std.specs.List.{Any}
use Rattle.std.specs.Prelude.{◌<◌, ◌≤◌, ◌⊎◌, ℕ, List, All}

-- it wasn't given up from this frame on
abbrev pub NoneSince : ℕ → List ℕ → Type 0
NoneSince frame gave = All (λ (at : ℕ). at < frame) gave

-- it was given up at this frame or at a later one
abbrev pub GaveSince : ℕ → List ℕ → Type 0
GaveSince frame gave = Any (λ (at : ℕ). frame ≤ at) gave

-- it wasn't given up while a mail waited, from the frame before which that was heard to the frame before which it came into hand
abbrev pub SparedBetween : ℕ → ℕ → List ℕ → Type 0
SparedBetween heard began gave = All (λ (at : ℕ). (at < heard) ⊎ (began ≤ at)) gave
