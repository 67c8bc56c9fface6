-- Openings, access by access.
use Rattle.std.proofs.Common.{◌≡◌, ℕ, zero, suc, ◌+◌, ◌≤◌, Bool, true, false, Option, None, [], ◌∷◌, refl, sym, ap, subst, arith, if◌then◌else◌}
use Rattle.std.specs.Prelude.{◌&&◌, ◌++◌, nat_lt, length}
use Rattle.state_model.specs.of_link_model.Master.{InState}
use Rattle.state_model.specs.of_segment_model.Slaves.{Found}
use Rattle.life_model.specs.Lives.{Opening, Stand, Life, Spot, opening_back, is_shown, clears, opens, steps_on, gives_up, reopening}
use Rattle.life_model.specs.Tally.{broken}
use Rattle.life_model.specs.Repairs.{half_way, whole_way, opening_rest, awaits_at, IsAt, IsDone, GoesOn}

module _ {M Q R : Type 0} (slaves pace frame : ℕ) (l : Life M Q R) (state : ℕ) (own : Bool) (done : Bool) (found : Option Found) where
  abbrev opening : Bool → ℕ → Opening
  opening again step = record { again = again; step = step; state = state; own = own }

  abbrev Result : Bool → ℕ → Type 0
  Result again step = IsAt l (opening again step) → IsDone (opening again step) done found → GoesOn slaves pace (opening_rest slaves pace again step) (opening_back frame l (opening again step) done found)

  -- one that awaits nothing
  on : (again : Bool) (step : ℕ) → IsAt l (opening again step) → (again ≡ true → 3 ≤ suc step → 3 ≤ step) → (suc step ≤ (if again then 9 else 5)) →
      opening_rest slaves pace again (suc step) + (slaves + (if awaits_at again (suc step) then pace else 0)) ≤ opening_rest slaves pace again step →
      GoesOn slaves pace (opening_rest slaves pace again step) (steps_on l (opening again step))
  on again step at same last less = record { whole = less; stands = record { first = omega arith; last = last; new = λ e. at.new (λ is. same is (e is)) } }

  -- the last: the slave is open
  open_now : (rest : ℕ) → l.era.side.halves.inn.state ≡ InState.Clear → (b : Bool) → b ≡ true → GoesOn slaves pace rest (if b then opens frame l else l)
  open_now rest clear false e = absurd (cc)
  open_now rest clear true e =
      let none : half_way slaves pace l.era.side.halves.inn.state ≡ None = ap (half_way slaves pace) clear in
      let whole : whole_way slaves pace (half_way slaves pace l.era.side.halves.inn.state) ≤ rest = subst (λ w. whole_way slaves pace w ≤ rest) (sym none) (omega arith) in
      record { whole = whole; stands = tt }

  clear_now : (b : Bool) → b ≡ true → GoesOn slaves pace (opening_rest slaves pace true 2) (if b then clears frame l (opening true 2) else l)
  clear_now false e = absurd (cc)
  clear_now true e = record { whole = omega arith; stands = record { first = omega arith; last = omega arith; new = λ e. refl } }

  again_at : (step : ℕ) → Result true step
  again_at zero at d = absurd (omega (arith, at.first))
  again_at (suc zero) at d = on true 1 at (λ is less. absurd (omega (arith, less))) (omega arith) (omega arith)
  again_at (suc (suc zero)) at d = clear_now (done && is_shown 1 found) (d refl)
  again_at (suc (suc (suc zero))) at d = on true 3 at (λ is less. omega arith) (omega arith) (omega arith)
  again_at (suc (suc (suc (suc zero)))) at d = on true 4 at (λ is less. omega arith) (omega arith) (omega arith)
  again_at (suc (suc (suc (suc (suc zero))))) at d = on true 5 at (λ is less. omega arith) (omega arith) (omega arith)
  again_at (suc (suc (suc (suc (suc (suc zero)))))) at d = on true 6 at (λ is less. omega arith) (omega arith) (omega arith)
  again_at (suc (suc (suc (suc (suc (suc (suc zero))))))) at d = on true 7 at (λ is less. omega arith) (omega arith) (omega arith)
  again_at (suc (suc (suc (suc (suc (suc (suc (suc zero)))))))) at d = on true 8 at (λ is less. omega arith) (omega arith) (omega arith)
  again_at (suc (suc (suc (suc (suc (suc (suc (suc (suc zero))))))))) at d = open_now (opening_rest slaves pace true 9) (at.new (λ e. omega arith)) (done && is_shown state found) (d refl)
  again_at (suc (suc (suc (suc (suc (suc (suc (suc (suc (suc step)))))))))) at d = absurd (let last : suc (suc (suc (suc (suc (suc (suc (suc (suc (suc step))))))))) ≤ 9 = at.last in omega (arith, last))

  first_at : (step : ℕ) → Result false step
  first_at zero at d = absurd (omega (arith, at.first))
  first_at (suc zero) at d = on false 1 at (λ is less. absurd (cc)) (omega arith) (omega arith)
  first_at (suc (suc zero)) at d = on false 2 at (λ is less. absurd (cc)) (omega arith) (omega arith)
  first_at (suc (suc (suc zero))) at d = on false 3 at (λ is less. absurd (cc)) (omega arith) (omega arith)
  first_at (suc (suc (suc (suc zero)))) at d = on false 4 at (λ is less. absurd (cc)) (omega arith) (omega arith)
  first_at (suc (suc (suc (suc (suc zero))))) at d = open_now (opening_rest slaves pace false 5) (at.new (λ e. absurd (cc))) (done && is_shown state found) (d refl)
  first_at (suc (suc (suc (suc (suc (suc step)))))) at d = absurd (let last : suc (suc (suc (suc (suc (suc step))))) ≤ 5 = at.last in omega (arith, last))

  opens_on : (again : Bool) (step : ℕ) → Result again step
  opens_on true step = again_at step
  opens_on false step = first_at step

-- AN OPENING GOES ON
pub opening_goes : {M Q R : Type 0} (slaves pace frame : ℕ) (l : Life M Q R) (o : Opening) (done : Bool) (found : Option Found) → IsAt l o → IsDone o done found →
    GoesOn slaves pace (opening_rest slaves pace o.again o.step) (opening_back frame l o done found)
opening_goes slaves pace frame l o done found at d = opens_on slaves pace frame l o.state o.own done found o.again o.step at d

-- A GIVE-UP
pub gives_up_breaks : {M Q R : Type 0} (slaves pace recover frame : ℕ) (spot : Spot) (l : Life M Q R) → GoesOn slaves pace (broken slaves pace) (gives_up recover spot frame l)
gives_up_breaks {M} {Q} {R} slaves pace recover frame spot l = go (nat_lt (length l.gave) recover)
  where
    go : (b : Bool) → (let m : Life M Q R = record l { stand = if b then reopening spot.start false else Stand.Gone; gave = l.gave ++ frame ∷ [] } in GoesOn slaves pace (broken slaves pace) m)
    go true = record { whole = omega arith; stands = record { first = omega arith; last = omega arith; new = λ e. absurd (let less : 3 ≤ 1 = e refl in omega (arith, less)) } }
    go false = record { whole = omega arith; stands = tt }
