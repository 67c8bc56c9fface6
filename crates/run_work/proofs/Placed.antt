-- Over all frames of a serving each slave keeps its place and its script.
use Rattle.std.proofs.Common.{◌≡◌, ℕ, zero, suc, All, List, [], ◌∷◌, map, refl, ◌∙◌, length}
use Rattle.std.specs.Prelude.{⊤}
use Rattle.std.proofs.lemmas.List.Elements.{All-nil, All-cons}
use Rattle.plan_ring.specs.of_datagrams.Datagram as Raw
use Rattle.plan_ring.specs.of_frame_view.View.{Lens}
use Rattle.plan_ring.specs.of_life_runs.First.{spot_of, script_for, leads_from, first_leads}
use Rattle.plan_ring.specs.of_life_runs.Led.{Exchanged, Leads, gives_up_at}
use Rattle.life_counts.specs.of_segment_plan.declared.plan.Scenario.{Scenario}
use Rattle.life_counts.specs.of_segment_plan.declared.service.Service as Plan
use Rattle.life_counts.specs.of_segment_plan.declared.slave.SlaveSpec.{SlaveSpec}
use Rattle.plan_ring.specs.of_segment_ring.declared.wire.Fate.{Fate}
use Rattle.plan_ring.specs.of_segment_ring.declared.wire.Fate.TheVariants.{Pass, Lost}
use Rattle.plan_ring.specs.of_life_runs.Came.{IsFresh}
use Rattle.plan_ring.specs.of_life_runs.Served.{Keyed, Serves, ServedTurn, AllServedTurn, IsServedLed, all_serve, asked_at, served_behind, served_life}

-- as the plan has it
pub record IsPlaced (rows : List (ℕ × Plan.Service)) (place : ℕ) (s : SlaveSpec) (a : Leads) : Type 0 where
  pub spot : a.lived.spot ≡ spot_of place s
  pub script : a.script ≡ script_for place rows

abbrev pub AllPlaced : List (ℕ × Plan.Service) → ℕ → List SlaveSpec → List Serves → Type 0
AllPlaced rows place [] [] = ⊤
AllPlaced rows place (s ∷ ss) (w ∷ ws) = IsPlaced rows place s w.lead × AllPlaced rows (suc place) ss ws
AllPlaced rows place _ _ = ⊥

first_placed : (rows : List (ℕ × Plan.Service)) (paces : List ℕ) (place : ℕ) (ss : List SlaveSpec) → AllPlaced rows place ss (all_serve paces (leads_from rows place ss))
first_placed rows paces place [] = none paces
  where
    none : (paces : List ℕ) → AllPlaced rows place [] (all_serve paces [])
    none [] = tt
    none (p ∷ ps) = tt
first_placed rows [] place (s ∷ ss) = (record { spot = refl; script = refl }, first_placed rows [] (suc place) ss)
first_placed rows (p ∷ paces) place (s ∷ ss) = (record { spot = refl; script = refl }, first_placed rows paces (suc place) ss)

asked_placed : (rows : List (ℕ × Plan.Service)) (place : ℕ) (at : ℕ) (k : Keyed) (ss : List SlaveSpec) (ws : List Serves) → AllPlaced rows place ss ws → AllPlaced rows place ss (asked_at at k ws)
asked_placed rows place at k [] [] all = tt
asked_placed rows place at k [] (w ∷ ws) all = absurd all
asked_placed rows place at k (s ∷ ss) [] all = absurd all
asked_placed rows place zero k (s ∷ ss) (w ∷ ws) all = all
asked_placed rows place (suc at) k (s ∷ ss) (w ∷ ws) all = (all.0, asked_placed rows (suc place) at k ss ws all.1)

module _ (lens : ℕ → Lens) (recover retry : ℕ) where
  spot_same : (gives : _) (made : ℕ) (f : Exchanged) (fate : Fate) (v : ServedTurn) → (served_life lens recover retry gives made f fate v).spot ≡ v.turn.lived.spot
  spot_same gives made f Pass v = refl
  spot_same gives made f (Lost after) v = refl

  turns_placed : (rows : List (ℕ × Plan.Service)) (place : ℕ) (gives : _) (made : ℕ) (f : Exchanged) (ds : List Raw.Datagram) (ss : List SlaveSpec) (ws : List Serves) (vs : List ServedTurn) → AllServedTurn lens made ds ws vs → AllPlaced rows place ss ws →
      AllPlaced rows place ss (map (served_behind lens recover retry gives made f) vs)
  turns_placed rows place gives made f ds [] [] [] t all = tt
  turns_placed rows place gives made f ds (s ∷ ss) [] [] t all = absurd all
  turns_placed rows place gives made f ds ss [] (v ∷ vs) t all = absurd t
  turns_placed rows place gives made f ds ss (w ∷ ws) [] t all = absurd t
  turns_placed rows place gives made f ds [] (w ∷ ws) (v ∷ vs) t all = absurd all
  turns_placed rows place gives made f ds (s ∷ ss) (w ∷ ws) (v ∷ vs) t all = (
    record { spot = spot_same gives made f f.fate v ∙ t.0.next.spot ∙ all.0.spot; script = t.0.script ∙ all.0.script },
    turns_placed rows (suc place) gives made f ds ss ws vs t.1 all.1,
  )

  pub led_placed : (plan : Scenario) (fs : List Exchanged) (missed : ℕ) (ws : List Serves) → IsServedLed lens recover retry (all_serve plan.paces (first_leads plan)) fs missed ws → AllPlaced plan.services 0 plan.slaves ws
  led_placed plan _ _ _ IsServedLed.start = first_placed plan.services plan.paces 0 plan.slaves
  led_placed plan _ _ _ (IsServedLed.asks fs missed ws place k led room) = asked_placed plan.services 0 place k plan.slaves ws (led_placed plan fs missed ws led)
  led_placed plan _ _ _ (IsServedLed.on fs missed ws f vs led frame) =
      turns_placed plan.services 0 (gives_up_at lens recover retry missed) (length fs) f frame.datagrams plan.slaves ws vs frame.each (led_placed plan fs missed ws led)

-- nothing came into hand of any before the first frame
pub all_fresh : (rows : List (ℕ × Plan.Service)) (place : ℕ) (ss : List SlaveSpec) → All IsFresh (leads_from rows place ss)
all_fresh rows place [] = All-nil IsFresh
all_fresh rows place (s ∷ ss) = All-cons IsFresh _ (leads_from rows (suc place) ss) (record { number = refl; started = refl }) (all_fresh rows (suc place) ss)
