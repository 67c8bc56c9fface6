-- THE BOOK OF A SLAVE THAT STAYS UP: in its first epoch, from the switch on.
use Rattle.std.specs.Prelude.{◌≡◌, ℕ, suc, true, List, [], ◌∷◌, ⊤}
use Rattle.served_rings.specs.of_plan_ring.KeptFirst.{Forgets, FirstBook}
use Rattle.packets_heard.specs.of_life_model.Script.{life_started}
use Rattle.packets_heard.specs.of_life_model.Book.{NoInits}
use Rattle.packets_heard.specs.of_life_model.Lives.{Life, Stand}
use Rattle.packets_heard.specs.of_life_runs.First.{lens_of, spot_of}
use Rattle.packets_heard.specs.of_life_runs.Led.{Exchanged, Leads}
use Rattle.packets_heard.specs.of_master_hand.Spoken.{is_followed}
use Rattle.served_rings.specs.of_plan_ring.Plan.{plan_of, first_app}
use Rattle.packets_heard.specs.of_segment_plan.declared.plan.Scenario.{Scenario}
use Rattle.packets_heard.specs.of_segment_plan.declared.slave.SlaveSpec.{SlaveSpec}
use Rattle.served_rings.specs.of_plan_ring.Real.{real_clearing}
use Rattle.packets_heard.specs.of_segment_model.Laws.{IsSettled}
use Rattle.served_rings.specs.of_slave_lives.Lived.{node_seen}
use Rattle.packets_heard.specs.of_slave_server.Serving.{Serving, next_mail}
use Rattle.packets_heard.specs.of_slave_node.Node.{Node, is_settled}
use Rattle.served_rings.specs.of_whole_ring.Whole.{OwesLaws}
use Rattle.served_rings.specs.of_plan_ring.Round.{all_seen}
use Rattle.run_promises.specs.Slaves.{services_of}

-- a slave that was never given up or returned to Init, and none of whose services asks for that
pub record StaysUp {M Q R : Type 0} (l : Life M Q R) : Type 0 where
  pub past : l.past ≡ []
  pub gave : l.gave ≡ []
  pub quiet : NoInits (life_started l)

-- ITS BOOK: the rows are what came into hand, each answer is the one that the frames give, what is done of them is the application of its node; and
-- where it is settled and nothing is wanted of it, nothing is left and all is done
pub record HasBook (plan : Scenario) (fs : List Exchanged) (place : ℕ) (s : SlaveSpec) (a : Leads) (n : Node Serving) : Type 0 where
  pub owes : OwesLaws (services_of plan s) real_clearing (plan_of s) (spot_of place s)
  pub forgets : Forgets (services_of plan s) real_clearing
  pub book : FirstBook (services_of plan s) real_clearing (plan_of s) (spot_of place s) owes forgets is_followed (first_app s) a.lived.life (all_seen (lens_of plan.slaves) fs) n
  pub settled : is_settled next_mail n ≡ true → IsSettled (node_seen (services_of plan s) n)

-- each that is open, from a place on
abbrev pub AllHaveBooks : Scenario → List Exchanged → ℕ → List SlaveSpec → List Leads → List (Node Serving) → Type 0
AllHaveBooks plan fs place [] [] [] = ⊤
AllHaveBooks plan fs place (s ∷ ss) (a ∷ as') (n ∷ ns) = (a.lived.life.stand ≡ Stand.Open → StaysUp a.lived.life → HasBook plan fs place s a n) × AllHaveBooks plan fs (suc place) ss as' ns
AllHaveBooks plan fs place _ _ _ = ⊥
