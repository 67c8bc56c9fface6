use Rattle.run_promises.specs.Promise.{slaves_behind}
use Rattle.served_rings.specs.of_plan_ring.Round.{ring_of}
use Rattle.run_promises.proofs.Gones.{givens}
use Rattle.run_promises.proofs.Known.{known}
use Rattle.run_promises.proofs.Rounds.{first_round}
use Rattle.run_promises.proofs.Slaves.{all_keep}
use Rattle.run_promises.proofs.read_promise_law.Goals as goal

pub returns : goal.returns
returns c = λ plan is told fs others missed as' led round.
    let round_first = first_round (ring_of plan) fs others round in
    let k = known plan told in
    record {
      each = all_keep plan fs 0 plan.slaves as' (slaves_behind plan fs)
          (c.run_promise_law.ensures plan is k fs missed as' led round_first)
          (c.run_book_law.ensures plan is k fs missed as' led round_first)
          (c.run_done_law.ensures plan is k fs missed as' led round_first)
          (givens plan fs missed as' led);
    }
