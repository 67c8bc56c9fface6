-- What the words come to, by the plan.
use Rattle.std.proofs.Common.{◌≡◌, ℕ, List, Option, subst}
use Rattle.ec_outside.specs.Files.{Table}
use Rattle.gateway_tool.specs.Told.{Told as PortTold}
use Rattle.people_words.specs.declared.ended.Ended.{Ended}
use Rattle.segment_plan.specs.declared.slave.SlaveSpec.{SlaveSpec}
use Rattle.entry_act.specs.declared.acts.Act.{Act}
use Rattle.entry_act.specs.declared.words.Task.{Task}
use Rattle.entry_act.specs.Acts.{act_in}
use Rattle.entry_call.specs.Ends.{Follows}
use Rattle.entry_call.specs.Course.{ActCourse, SlaveCourse}
use Rattle.entry_call.proofs.Followed.{turned}

module _ (words : List (List ℕ)) (task : Task) (slave : SlaveSpec) (before behind : Option Table) (still : Type 0) (first last : PortTold) (old new : Option (List ℕ)) (end : Ended) where
  -- what was done is what the words ask
  pub acted_at : (act : Act) → act ≡ act_in words task slave → Follows (ActCourse words task slave act before behind still first last) old new end
      → Follows (SlaveCourse words task slave before behind still first last) old new end
  acted_at act is followed =
      let done = subst (λ (a : Act). Follows (ActCourse words task slave a before behind still first last) old new end) is followed in
      turned (ActCourse words task slave (act_in words task slave) before behind still first last) (SlaveCourse words task slave before behind still first last)
      (λ planned text came. SlaveCourse.acted planned text came) old new end done
