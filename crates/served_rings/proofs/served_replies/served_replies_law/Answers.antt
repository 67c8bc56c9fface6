use Rattle.std.proofs.Common.{sym, ◌∙◌, subst}
use Rattle.served_places.specs.of_life_runs.First.{lens_of}
use Rattle.run_work.specs.of_plan_ring.Round.{all_seen}
use Rattle.run_work.proofs.of_plan_ring.Known.{macs_in}
use Rattle.served_rings.specs.Rings.{nodes_behind}
use Rattle.served_rings.specs.Stood.{ServeStood}
use Rattle.served_rings.proofs.ServedAll.{all_serve_so, nodes_of}
use Rattle.served_rings.proofs.served_replies.served_replies_law.Goals as goal

pub returns : goal.returns
returns c = λ plan is known fs missed ws l round.
    let x = c.stood_ring_law.ensures plan is known fs missed ws l round in
    let nodes = x.lives.nodes ∙ nodes_of plan (lens_of plan.slaves) 0 plan.slaves ws x.nodes x.at in
    subst (ServeStood (nodes_behind plan fs) plan.slaves ws) (sym nodes)
    (all_serve_so c.speaker_law.ensures c.run_law.ensures.forgets c.behind_law.ensures plan (all_seen (lens_of plan.slaves) fs) (nodes_behind plan fs) 0 plan.slaves ws x.nodes is.laid.slaves (macs_in plan.slaves known.macs) x.led x.at)
