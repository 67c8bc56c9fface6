-- WHAT THE LIVES OF A SERVING GAIN, by the services of its plan and the mails that were asked.
use Rattle.std.specs.Prelude.{ℕ, ◌+◌, ◌≤◌, if◌then◌else◌, List, [], ◌∷◌, map, length, ⊤}
use Rattle.life_counts.specs.Begun.{life_most}
use Rattle.life_counts.specs.of_life_model.Gains.{gains}
use Rattle.plan_ring.specs.of_life_runs.Led.{Leads}
use Rattle.life_counts.specs.of_master_hand.Spoken.{Asked, is_passed}
use Rattle.life_counts.specs.Asked.{asked_most}
use Rattle.plan_ring.specs.of_run_frames.Clocks.{reopened}
use Rattle.life_counts.specs.of_segment_plan.declared.slave.SlaveSpec.{SlaveSpec}
use Rattle.life_counts.specs.Served.{served_gains}
use Rattle.plan_ring.specs.of_life_runs.Served.{Serves}
use Rattle.life_counts.specs.of_few_replies.Shapes.{Shape, shape_of}
use Rattle.life_counts.specs.of_slave_model.Profile.{Profile}
use Rattle.life_counts.specs.of_slave_server.Spec.{core_of, profile_of}

-- how many mails what a master asks for takes at most; a mail that is passed on takes itself, 76 that answer it, and one that may be made up
abbrev pub serving_most : Profile → Shape → Asked → ℕ
serving_most p k q = asked_most p k q + (if is_passed q then 2 + 76 else 0)

-- EACH LIFE HAS GAINED NO MORE than what its services, packets and mails count that came into hand
abbrev pub AllPaid : List SlaveSpec → List Serves → Type 0
AllPaid [] [] = ⊤
AllPaid (s ∷ ss) (w ∷ ws) = (gains w.lead.lived.life ≤ 1 + life_most (serving_most (profile_of s) (shape_of (core_of s))) w.lead.lived.life) × AllPaid ss ws
AllPaid _ _ = ⊥

-- what all lives have gained, with the steps of the mails that are passed on, and how often state services began to reopen their slaves
abbrev pub served_in : List Serves → ℕ
served_in [] = 0
served_in (w ∷ ws) = served_gains is_passed w.lead.lived.life + reopened w.lead.lived.life + served_in ws

-- the mails that were asked of all slaves
abbrev pub asked_in : List Serves → ℕ
asked_in [] = 0
asked_in (w ∷ ws) = length w.asked + asked_in ws

-- as a run has the slaves
abbrev pub leads_of : List Serves → List Leads
leads_of ws = map (λ w. w.lead) ws
