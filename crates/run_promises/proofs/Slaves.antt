-- THE PARTS OF THE PROMISE, put together slave by slave.
use Rattle.std.proofs.Common.{ℕ, suc, List, [], ◌∷◌}
use Rattle.packets_heard.specs.of_life_runs.Led.{Exchanged, Leads}
use Rattle.run_promises.specs.Books.{AllHaveBooks}
use Rattle.run_promises.specs.Rests.{AllDoneIf}
use Rattle.run_promises.specs.Slaves.{AllServed}
use Rattle.packets_heard.specs.of_segment_plan.declared.plan.Scenario.{Scenario}
use Rattle.packets_heard.specs.of_segment_plan.declared.slave.SlaveSpec.{SlaveSpec}
use Rattle.packets_heard.specs.of_slave_server.Serving.{Serving}
use Rattle.packets_heard.specs.of_slave_node.Node.{Node}
use Rattle.run_promises.specs.Promise.{AllKeep}
use Rattle.run_promises.proofs.Gones.{AllGiven}

module _ (plan : Scenario) (fs : List Exchanged) where
  pub all_keep : (place : ℕ) (ss : List SlaveSpec) (as' : List Leads) (ns : List (Node Serving)) → AllServed plan fs place ss as' ns → AllHaveBooks plan fs place ss as' ns → AllDoneIf plan fs place ss as' ns → AllGiven as' → AllKeep plan fs place ss as' ns
  all_keep place [] [] [] served booked done given = tt
  all_keep place [] [] (n ∷ ns) served booked done given = absurd served
  all_keep place [] (a ∷ as') ns served booked done given = absurd served
  all_keep place (s ∷ ss) [] ns served booked done given = absurd served
  all_keep place (s ∷ ss) (a ∷ as') [] served booked done given = absurd served
  all_keep place (s ∷ ss) (a ∷ as') (n ∷ ns) served booked done given = (
    record { begun = record { one_by_one = served.0.came; firsts = served.0.firsts }; carried_out = served.0.life; given = given.0; booked = booked.0; done = done.0 },
    all_keep (suc place) ss as' ns served.1 booked.1 done.1 given.1,
  )
