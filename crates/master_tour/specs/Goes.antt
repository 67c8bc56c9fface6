-- WHICH SLAVES GET DATAGRAMS, and where a tour goes on.
use Rattle.std.specs.Prelude.{◌≡◌, ℕ, zero, suc, ◌+◌, ◌<◌, ◌&&◌, not, nat_lt, if◌then◌else◌, Bool, true, false, Option, Some, None, List, [], ◌∷◌, length}
use Rattle.master_tour.specs.declared.stop.Stand.{Stand}

-- a slave that was not given up for good
abbrev pub is_live : Stand → Bool
is_live (Stand.Opening up) = true
is_live Stand.Open = true
is_live Stand.Gone = false

-- a slave that is brought up, or opened anew
abbrev pub is_opened : Stand → Bool
is_opened (Stand.Opening up) = true
is_opened Stand.Open = false
is_opened Stand.Gone = false

-- the test of what stands at a place; nothing passes it where nothing stands
abbrev pub holds_at : {S : Type 0} → (S → Bool) → List S → ℕ → Bool
holds_at test [] place = false
holds_at test (s ∷ ss) zero = test s
holds_at test (s ∷ ss) (suc place) = holds_at test ss place

-- a place, and what stands there passes
abbrev pub Passes : {S : Type 0} → (S → Bool) → List S → Option ℕ → Type 0
Passes test ss None = ⊥
Passes test ss (Some place) = holds_at test ss place ≡ true

-- THE FIRST VISIT of a frame is of a live slave: behind a lost frame of the first that it carried, in the first bring-up of the one that is
-- brought up
abbrev pub BeginsLive : {S : Type 0} → (S → Bool) → Bool → List ℕ → ℕ → List S → Type 0
BeginsLive live true [] opened ss = ⊥
BeginsLive live true (p ∷ ps) opened ss = holds_at live ss p ≡ true
BeginsLive live false visit opened ss = opened < length ss → holds_at live ss opened ≡ true

-- how many slaves from the first on have ended their first bring-up, behind a frame: one more where the one that was brought up isn't any more
abbrev pub opened_behind : {S : Type 0} → (S → Bool) → ℕ → List S → ℕ
opened_behind opens opened ss = if nat_lt opened (length ss) && not (holds_at opens ss opened) then opened + 1 else opened
