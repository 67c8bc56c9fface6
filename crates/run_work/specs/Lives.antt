-- A LIFE IN WHICH MAILS ARE PASSED ON, as its slave lives it and as its master has it.
use Rattle.std.specs.Prelude.{◌≡◌, ℕ, Option, List, [], ◌∷◌, ⊤}
use Rattle.life_counts.specs.of_life_model.Eras.{Clearing}
use Rattle.life_counts.specs.of_life_model.Lives.{Spot, Life}
use Rattle.life_counts.specs.of_link_mails.Body.{Body}
use Rattle.plan_ring.specs.of_master_duty.Reply as Master
use Rattle.life_counts.specs.of_master_hand.Spoken as Spoken
use Rattle.life_counts.specs.of_segment_model.Slaves.{Processor}
use Rattle.life_counts.specs.of_segment_plan.declared.slave.SlaveSpec.{SlaveSpec}
use Rattle.plan_ring.specs.of_life_runs.Served.{Serves}
use Rattle.life_counts.specs.of_few_replies.Shapes.{shape_at}
use Rattle.life_counts.specs.of_slave_model.Profile.{Profile}
use Rattle.life_counts.specs.of_slave_model.Server.{Reply}
use Rattle.plan_ring.specs.of_slave_parts.Parts.{Server}
use Rattle.life_counts.specs.of_slave_server.Spec.{profile_of, server_of}
use Rattle.life_counts.specs.of_state_model.Families.{InState}
use Rattle.life_counts.specs.of_state_model.States.{Table}
use Rattle.life_counts.specs.Seen.{life_seen}
use Rattle.life_counts.specs.Worked.{IsWorked}
use Rattle.run_work.specs.Sessions.{Meant, Wanted, InRow, session, session_states, named_wanted}

-- IT IS WORKED by a slave of this profile, from these parts and transfers on: each epoch is a session of services and fair mails; a return to Init leaves the
-- greatest sizes of its parts; and its master sees the mails without what is meant by them
pub record IsServedLife (p : Profile) (first : InState Server) (l : Life Body Spoken.Asked Master.Reply) : Type 0 where
  pub clearing : Clearing InRow (InState Server)
  pub clears : (v : InState Server) → shape_at (clearing.cleared v) ≡ shape_at v
  pub processor : Processor InRow
  pub table : ℕ → Table
  pub spot : Spot
  pub life : Life Meant Wanted (Option Reply)
  pub worked : IsWorked (session p) (session_states p) processor table spot clearing first life
  pub seen : life_seen (λ t. t.mail) named_wanted (λ r. r) life ≡ l

-- the server of a plan's slave as it is switched on
abbrev pub first_server : SlaveSpec → InState Server
first_server s = record { inner = (server_of s).server; state = 1 }

-- OF ALL SLAVES OF A SERVING
abbrev pub AllServedLives : List SlaveSpec → List Serves → Type 0
AllServedLives [] [] = ⊤
AllServedLives (s ∷ ss) (w ∷ ws) = IsServedLife (profile_of s) (first_server s) w.lead.lived.life × AllServedLives ss ws
AllServedLives _ _ = ⊥
