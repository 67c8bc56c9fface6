-- IN WHICH AL STATE EACH EPOCH OF A LIFE IS OPENED.
use Rattle.std.specs.Prelude.{◌≡◌, ◌⊎◌, ◌≤◌, ◌<◌, ℕ, Option, Some, None, List, [], ◌∷◌, ◌++◌, ⊤}
use Rattle.std.specs.List.{All}
use Rattle.master_tour.specs.of_life_model.Lives.{Era, Life, opens_state}
use Rattle.life_runs.specs.Causes.{since, IsOwn, IsGivenUp}
use Rattle.life_runs.specs.Led.{Leads}

-- the slave wasn't given up while an epoch lasted, up to this frame
abbrev pub IsSpared : {M Q R : Type 0} → List ℕ → Era M Q R → ℕ → Type 0
IsSpared gave e until = All (λ g. (g < since e.cleared) ⊎ (until ≤ g)) gave

-- BEHIND AN EPOCH THAT A STATE SERVICE ENDED the next opens PreOp, or Bootstrap, as that service asks
pub record OpensOwn {M Q R : Type 0} (gave : List ℕ) (e : Era M Q R) (until state : ℕ) : Type 0 where
  pub own : IsOwn e
  pub spared : IsSpared gave e until
  pub opens : state ≡ opens_state own.duty.target

-- BEHIND ONE THAT A GIVE-UP ENDED it opens the slave's start
pub record OpensStart {M Q R : Type 0} (start : ℕ) (gave : List ℕ) (e : Era M Q R) (until state : ℕ) : Type 0 where
  pub given : IsGivenUp gave e until
  pub opens : state ≡ start

-- WHAT AN EPOCH LEAVES TO THE NEXT, by the frame that returned the slave to Init between them
abbrev pub OpensBehind : {M Q R : Type 0} → ℕ → List ℕ → Era M Q R → Option ℕ → ℕ → Type 0
OpensBehind start gave e None state = ⊥
OpensBehind start gave e (Some frame) state = OpensOwn gave e frame state ⊎ OpensStart start gave e frame state

-- AN EPOCH OPENS the slave's start, where it is the first, and what the one before it leaves to it
abbrev pub OpensIn : {M Q R : Type 0} → ℕ → List ℕ → Option (Era M Q R) → Era M Q R → Type 0
OpensIn start gave None e = e.state ≡ start
OpensIn start gave (Some d) e = OpensBehind start gave d e.cleared e.state

-- each of these, behind that one
abbrev pub AllOpenIn : {M Q R : Type 0} → ℕ → List ℕ → Option (Era M Q R) → List (Era M Q R) → Type 0
AllOpenIn start gave before [] = ⊤
AllOpenIn start gave before (e ∷ es) = OpensIn start gave before e × AllOpenIn start gave (Some e) es

-- EACH EPOCH OF A LIFE OPENS ITS STATE
abbrev pub EachOpensIn : {M Q R : Type 0} → ℕ → Life M Q R → Type 0
EachOpensIn start l = AllOpenIn start l.gave None (l.past ++ l.era ∷ [])

-- of all slaves
abbrev pub AllOpenTheirs : List Leads → Type 0
AllOpenTheirs [] = ⊤
AllOpenTheirs (a ∷ as') = EachOpensIn a.lived.spot.start a.lived.life × AllOpenTheirs as'
