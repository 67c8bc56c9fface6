-- WHAT THE LIVES OF A RUN GAIN.
use Rattle.std.specs.Prelude.{◌+◌, ◌≤◌, List, [], ◌∷◌, ⊤}
use Rattle.life_counts.specs.of_protocol_models.Network.{Station}
use Rattle.life_counts.specs.Begun.{life_most}
use Rattle.life_counts.specs.of_life_model.Gains.{gains}
use Rattle.plan_ring.specs.of_life_runs.Led.{Leads}
use Rattle.life_counts.specs.Asked.{asked_most}
use Rattle.life_counts.specs.of_segment_plan.declared.slave.SlaveSpec.{SlaveSpec}
use Rattle.life_counts.specs.of_few_replies.Shapes.{Shape, shape_of}
use Rattle.plan_ring.specs.of_slave_parts.Parts.{Core}
use Rattle.life_counts.specs.of_slave_server.Spec.{core_of, profile_of}
use Rattle.life_counts.specs.of_state_model.Families.{InState}

-- the shape of an application, in whatever AL state
abbrev pub app_shape : InState (Station Core) → Shape
app_shape a = shape_of a.inner.app

-- each slave's life has gained no more than what its services and packets count, by the plan's sizes
abbrev pub AllGain : List SlaveSpec → List Leads → Type 0
AllGain [] [] = ⊤
AllGain (s ∷ ss) (a ∷ leads) = (gains a.lived.life ≤ 1 + life_most (asked_most (profile_of s) (shape_of (core_of s))) a.lived.life) × AllGain ss leads
AllGain _ _ = ⊥
