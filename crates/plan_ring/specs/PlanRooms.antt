-- SERVICES THAT MAY BEGIN: an address block needs room in the mailbox of its slave, or it never comes into hand.
use Rattle.std.specs.Prelude.{◌≢◌, ℕ, IfSome, None, List, slice_get, All, ⊤}
use Rattle.run_frames.specs.of_master_hand.Talk.{asked_of}
use Rattle.slave_server.specs.of_segment_plan.declared.plan.Scenario.{Scenario}
use Rattle.slave_server.specs.of_segment_plan.declared.service.Service.{Service}
use Rattle.slave_server.specs.of_segment_plan.declared.service.Service.TheVariants.{State}
use Rattle.slave_server.specs.of_segment_plan.declared.slave.SlaveSpec.{SlaveSpec}

-- a change of state, or a service by mails that a slave with this mailbox 0 is asked for
abbrev pub MayBegin : ℕ → Service → Type 0
MayBegin room (State target) = ⊤
MayBegin room service = asked_of room service ≢ None

-- a row of a plan, for its slave
abbrev pub RowMayBegin : List SlaveSpec → ℕ × Service → Type 0
RowMayBegin slaves row = IfSome (slice_get slaves row.0) (λ slave. MayBegin slave.out_len row.1)

-- ALL SERVICES OF A PLAN
pub record HasRoom (plan : Scenario) : Type 0 where
  pub rows : All (RowMayBegin plan.slaves) plan.services
