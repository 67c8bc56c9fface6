-- A frame that is a visit of a tour, for the slaves as it is counted: whom it carries, and who comes again behind a lost one.
use Rattle.std.proofs.Common.{◌≡◌, ℕ, ◌<◌, ◌≤◌, Bool, Option, List, length, sym, subst, inl, inr}
use Rattle.std.specs.Prelude.{nat_lt}
use Rattle.std.proofs.lemmas.Bool.{cases_lt}
use Rattle.life_runs.specs.of_exchange_model.Exchange.{Speech}
use Rattle.life_runs.specs.of_life_model.Lives.{Spot}
use Rattle.life_runs.specs.of_segment_model.Slaves.{Datagram}
use Rattle.run_frames.specs.Clocks.{Clocked}
use Rattle.run_frames.specs.Goes.{Under, AllUnder, all_lost}
use Rattle.run_frames.specs.Orders.{CarriesOne, IsRound, live_round, opened_on}
use Rattle.run_frames.specs.Runs.{Progress, IsRun}
use Rattle.run_frames.specs.Tours.{IsVisited, again_behind, last_lost}
use Rattle.run_frames.proofs.Bringing.{FirstFrom}
use Rattle.run_frames.proofs.Returning.{known, gains_lost, as_many_under}
use Rattle.run_frames.proofs.Running.{holds}
use Rattle.run_frames.proofs.Same.{as_many_lost}
use Rattle.run_frames.proofs.Touring.{AgainOf, visit_is, again_on, carries, rounds, same_round, stays_opened, first_stays, over_stays}

-- how many have ended their first bring-up stays
opened_same : {M Q R : Type 0} (opened : ℕ) (cs : List (Clocked M Q R)) → (opened < length cs → FirstFrom opened cs) → opened_on opened cs ≡ opened
opened_same opened cs ring = elim (cases_lt opened (length cs)) [
  | inl less ↦ first_stays opened cs (ring less) less
  | inr more ↦ over_stays opened cs more
]

module _ {M Q R : Type 0} (x : Spot → Speech M Q R) (acknowledged : Q → Bool) (more : M → Bool) (passed : Q → Bool) (p : Progress) (cs : List (Clocked M Q R)) (us : List (Under M Q R)) (sent : List (Datagram M)) (again : Option (List ℕ)) (ps : List ℕ)
    (t : AllUnder x acknowledged more passed p.frames sent cs us) (same : AgainOf again (length cs) p.opened p.last cs) (v : IsVisited again (length cs) p.opened p.last cs us ps) where
  -- IN THE FIRST BRING-UP it carries the slave that is brought up
  pub visit_carries : p.opened < length cs → CarriesOne p.opened us
  visit_carries under = carries (length cs) p.opened p.last cs us ps (as_many_under (known M Q R) x acknowledged more passed p.frames sent sent cs us t) under (visit_is again (length cs) p.opened p.last cs ps same v.places) v.under

  -- and behind it the first live ones of a round
  pub visit_rounds : length cs ≤ p.opened → IsRound (length cs) p.last cs us ps
  visit_rounds over = rounds (length cs) p.opened p.last cs us ps over (visit_is again (length cs) p.opened p.last cs ps same v.places) v.under

  -- BEHIND A LOST ONE the same come again, unless they are given up
  module _ (recover slowest : ℕ) (first : List (Clocked M Q R)) (run : IsRun x acknowledged more passed recover slowest first p cs) (gives : Bool) where
    abbrev behind : Bool → List (Clocked M Q R)
    behind b = all_lost x acknowledged more passed b recover p.frames sent cs us

    pub visit_again : AgainOf (again_behind gives ps) (length (behind gives)) (opened_on p.opened (behind gives)) (last_lost (nat_lt p.opened (length cs)) gives p.last ps) (behind gives)
    visit_again =
        let ring = (holds (known M Q R) (gains_lost M Q R) x acknowledged more passed recover slowest first p cs run).ring in
        again_on gives (length cs) p.opened p.last cs (behind gives) ps (as_many_lost (known M Q R).before (gains_lost M Q R) x acknowledged more passed gives recover p.frames sent cs us t)
        (λ none. subst (λ b. (opened_on p.opened (behind b) ≡ p.opened) × (live_round (length cs) p.last (behind b) ≡ live_round (length cs) p.last cs)) (sym none) (
          stays_opened x acknowledged more passed recover p.frames sent p.opened cs us t (opened_same p.opened cs ring),
          same_round x acknowledged more passed recover p.frames sent (length cs) p.last cs us t,
        )) (visit_is again (length cs) p.opened p.last cs ps same v.places)
