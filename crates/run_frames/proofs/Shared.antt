-- The services that began of all scripts, against all services of the plan.
use Rattle.std.proofs.Common.{◌≡◌, ℕ, zero, suc, ◌+◌, ◌<◌, ◌≤◌, ◌==◌, Bool, true, false, List, [], ◌∷◌, length, refl, ap, ◌∙◌, arith, if◌then◌else◌, eqb-true, eq-eqb}
use Rattle.std.specs.Prelude.{map, sum_by, slice_get, unwrap_or, option_map}
use Rattle.std.proofs.lemmas.List.Sums.{sum_by-cons, sum_by-take-le}
use Rattle.life_runs.specs.of_datagrams.Datagram as Raw
use Rattle.life_runs.specs.of_frame_view.View.{Lens}
use Rattle.life_runs.specs.of_segment_plan.declared.plan.Scenario.{Scenario}
use Rattle.life_runs.specs.of_segment_plan.declared.service.Service as Plan
use Rattle.life_runs.specs.of_segment_plan.declared.slave.SlaveSpec.{SlaveSpec}
use Rattle.life_runs.specs.Led.{Leads, Turn, Exchanged, AllTurn, IsLed, led_behind, gives_up_at}
use Rattle.life_runs.specs.First.{script_for, leads_from, first_leads}
use Rattle.run_frames.specs.Begun.{work_begun, addressed, work_in}

-- THE SCRIPTS STAY
abbrev pub scripts : List Leads → List (List Plan.Service)
scripts [] = []
scripts (a ∷ leads) = a.script ∷ scripts leads

same_scripts : (lens : ℕ → Lens) (made : ℕ) (ds : List Raw.Datagram) (leads : List Leads) (us : List Turn) (behind : Turn → Leads) → ((u : Turn) → (behind u).script ≡ u.script) → AllTurn lens made ds leads us → scripts (map behind us) ≡ scripts leads
same_scripts lens made ds [] [] behind b t = refl
same_scripts lens made ds [] (u ∷ us) behind b t = absurd t
same_scripts lens made ds (a ∷ leads) [] behind b t = absurd t
same_scripts lens made ds (a ∷ leads) (u ∷ us) behind b t = λ i. (b u ∙ t.0.script) i ∷ same_scripts lens made ds leads us behind b t.1 i

led_scripts : (lens : ℕ → Lens) (recover retry : ℕ) (first : List Leads) (fs : List Exchanged) (missed : ℕ) (leads : List Leads) → IsLed lens recover retry first fs missed leads → scripts leads ≡ scripts first
led_scripts lens recover retry first fs missed leads IsLed.start = refl
led_scripts lens recover retry first fs missed leads (IsLed.on gs before as' f us led frame) =
    same_scripts lens (length gs) frame.datagrams as' us (led_behind lens recover retry (gives_up_at lens recover retry before) (length gs) f) (λ u. refl) frame.each ∙ led_scripts lens recover retry first gs before as' led

-- a row is at one slave at most
apart : (a b : ℕ) → a < b → (a == b) ≡ false
apart a b l = go (a == b) refl
  where
    go : (c : Bool) → (a == b) ≡ c → c ≡ false
    go false e = refl
    go true e = absurd (omega (arith, l, eqb-true a b e))

module _ (work : SlaveSpec → Plan.Service → ℕ) where
  -- ALL SERVICES OF THE SCRIPTS
  abbrev pub all_work : List SlaveSpec → List (List Plan.Service) → ℕ
  all_work [] ls = 0
  all_work (s ∷ ss) [] = 0
  all_work (s ∷ ss) (l ∷ ls) = sum_by (work s) l + all_work ss ls

  pub begun_less : (ss : List SlaveSpec) (leads : List Leads) → work_begun work ss leads ≤ all_work ss (scripts leads)
  begun_less [] leads = omega arith
  begun_less (s ∷ ss) [] = omega arith
  begun_less (s ∷ ss) (a ∷ leads) = omega (arith, sum_by-take-le (work s) a.script a.number, begun_less ss leads)

  -- that of one row, at the slaves from a place on
  abbrev row_work : ℕ → List SlaveSpec → ℕ × Plan.Service → ℕ
  row_work place [] row = 0
  row_work place (s ∷ ss) row = (if row.0 == place then work s row.1 else 0) + row_work (suc place) ss row

  no_row : (place : ℕ) (ss : List SlaveSpec) → all_work ss (scripts (leads_from [] place ss)) ≡ 0
  no_row place [] = refl
  no_row place (s ∷ ss) = omega (arith, no_row (suc place) ss)

  one_row : (place : ℕ) (row : ℕ × Plan.Service) (rows : List (ℕ × Plan.Service)) (ss : List SlaveSpec) → all_work ss (scripts (leads_from (row ∷ rows) place ss)) ≡ row_work place ss row + all_work ss (scripts (leads_from rows place ss))
  one_row place row rows [] = omega arith
  one_row place row rows (s ∷ ss) = omega (arith, head (row.0 == place), one_row (suc place) row rows ss)
    where
      head : (b : Bool) → sum_by (work s) (if b then row.1 ∷ script_for place rows else script_for place rows) ≡ (if b then work s row.1 else 0) + sum_by (work s) (script_for place rows)
      head true = sum_by-cons (work s) row.1 (script_for place rows)
      head false = omega arith

  behind_it : (place : ℕ) (ss : List SlaveSpec) (row : ℕ × Plan.Service) → row.0 < place → row_work place ss row ≡ 0
  behind_it place [] row l = refl
  behind_it place (s ∷ ss) row l = omega (arith, ap (λ (b : Bool). if b then work s row.1 else 0) (apart row.0 place l), behind_it (suc place) ss row (omega (arith, l)))

  at_place : (place at : ℕ) (ss : List SlaveSpec) (row : ℕ × Plan.Service) → row.0 ≡ place + at → row_work place ss row ≡ unwrap_or (option_map (λ slave. work slave row.1) (slice_get ss at)) 0
  at_place place at [] row e = refl
  at_place place zero (s ∷ ss) row e =
      let is : row.0 ≡ place = omega (arith, e) in
      omega (arith, ap (λ (b : Bool). if b then work s row.1 else 0) (eq-eqb row.0 place is), behind_it (suc place) ss row (omega (arith, is)))
  at_place place (suc at) (s ∷ ss) row e =
      omega (arith, ap (λ (b : Bool). if b then work s row.1 else 0) (far (row.0 == place) refl), at_place (suc place) at ss row (omega (arith, e)))
    where
      far : (c : Bool) → (row.0 == place) ≡ c → (row.0 == place) ≡ false
      far false f = f
      far true f = absurd (omega (arith, e, eqb-true row.0 place f))

  pub all_rows : (ss : List SlaveSpec) (rows : List (ℕ × Plan.Service)) → all_work ss (scripts (leads_from rows 0 ss)) ≡ work_in work ss rows
  all_rows ss [] = no_row 0 ss
  all_rows ss (row ∷ rows) = omega (arith, sum_by-cons (addressed work ss) row rows, one_row 0 row rows ss, at_place 0 row.0 ss row (omega arith), all_rows ss rows)

  pub script_works : (lens : ℕ → Lens) (recover retry : ℕ) (plan : Scenario) (fs : List Exchanged) (missed : ℕ) (leads : List Leads) → IsLed lens recover retry (first_leads plan) fs missed leads →
      work_begun work plan.slaves leads ≤ work_in work plan.slaves plan.services
  script_works lens recover retry plan fs missed leads led =
      omega (arith, begun_less plan.slaves leads, ap (all_work plan.slaves) (led_scripts lens recover retry (first_leads plan) fs missed leads led), all_rows plan.slaves plan.services)
