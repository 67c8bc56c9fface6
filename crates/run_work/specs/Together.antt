-- THE PACKETS OF A RUN.
use Rattle.std.specs.Prelude.{ℕ, ◌+◌, List, [], ◌∷◌, filter}
use Rattle.life_counts.specs.of_life_model.Script.{life_started}
use Rattle.life_counts.specs.Begun.{begun_most}
use Rattle.plan_ring.specs.of_life_runs.Led.{Leads}
use Rattle.life_counts.specs.Asked.{asked_most}
use Rattle.plan_ring.specs.of_run_frames.Came.{is_packet}
use Rattle.life_counts.specs.of_segment_plan.declared.slave.SlaveSpec.{SlaveSpec}
use Rattle.life_counts.specs.of_few_replies.Shapes.{shape_of}
use Rattle.life_counts.specs.of_slave_server.Spec.{core_of, profile_of}

-- what the packets take that came into hand of each slave, with the echoes that it sends back
abbrev pub packets_begun : List SlaveSpec → List Leads → ℕ
packets_begun [] leads = 0
packets_begun (s ∷ ss) [] = 0
packets_begun (s ∷ ss) (a ∷ leads) = begun_most (asked_most (profile_of s) (shape_of (core_of s))) (filter is_packet (life_started a.lived.life)) + packets_begun ss leads
