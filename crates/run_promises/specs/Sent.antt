-- THE PACKETS THAT A MASTER JOINED of its slaves over a run, against the services that came into hand.
use Rattle.std.specs.Prelude.{ℕ, ◌≤◌, List, [], ◌∷◌, sum_by, ⊤}
use Rattle.packets_heard.specs.of_life_model.Script.{life_started}
use Rattle.packets_heard.specs.of_life_runs.Led.{Leads}
use Rattle.packets_heard.specs.Heard.{Joined}
use Rattle.packets_heard.specs.of_segment_plan.declared.slave.SlaveSpec.{SlaveSpec}
use Rattle.run_promises.specs.Sends.{all_most}
use Rattle.packets_heard.specs.of_slave_server.Spec.{profile_of}

-- of each slave they weigh no more, whatever each weighs, than those that its services may make it send
abbrev pub AllSend : (List ℕ → ℕ) → List SlaveSpec → List Leads → List Joined → Type 0
AllSend weigh [] [] [] = ⊤
AllSend weigh (s ∷ ss) (a ∷ leads) (j ∷ js) = (sum_by weigh j.packets ≤ all_most weigh (profile_of s) (life_started a.lived.life)) × AllSend weigh ss leads js
AllSend weigh _ _ _ = ⊥
