-- What a frame that came back brings of a serving's slaves is due.
use Rattle.std.specs.Prelude.{◌≡◌, ℕ, List, [], ◌∷◌, ◌++◌, length, map}
use Rattle.idle_slaves.specs.of_frame_view.Seen.{seen}
use Rattle.idle_slaves.specs.of_life_runs.First.{first_leads, lens_of}
use Rattle.idle_slaves.specs.of_life_runs.Led.{Exchanged}
use Rattle.idle_slaves.specs.of_plan_ring.Dues.{AllDue}
use Rattle.idle_slaves.specs.of_plan_ring.Round.{AllRound, ring_of}
use Rattle.idle_slaves.specs.of_segment_plan.declared.plan.Scenario.{Scenario}
use Rattle.idle_slaves.specs.of_segment_ring.declared.wire.Fate.TheVariants.{Pass}
use Rattle.idle_slaves.specs.of_life_runs.Served.{Serves, ServedTurn, IsServedFrame, IsServedLed, all_serve}

-- THE SLAVES OF A PLAN SEND NO MAIL THAT ISN'T DUE, by each frame of a serving that came back
abbrev pub ServedMailsAreDue : Scenario → Type 0
ServedMailsAreDue plan = (fs : List Exchanged) (missed : ℕ) (ws : List Serves) (f : Exchanged) (vs : List ServedTurn) → IsServedLed (lens_of plan.slaves) plan.recover plan.retry (all_serve plan.paces (first_leads plan)) fs missed ws →
    IsServedFrame (lens_of plan.slaves) (length fs) f.sent ws vs → AllRound (ring_of plan) (fs ++ f ∷ []) → f.fate ≡ Pass → AllDue (lens_of plan.slaves) (seen (lens_of plan.slaves) f.back) (map (λ (v : ServedTurn). v.turn) vs)
