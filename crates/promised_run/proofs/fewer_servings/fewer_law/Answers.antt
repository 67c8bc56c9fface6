use Rattle.std.proofs.Common.{arith}
use Rattle.promised_run.proofs.ServedFewer.{fewer}
use Rattle.promised_run.proofs.fewer_servings.fewer_law.Goals as goal

pub returns : goal.returns
returns c = λ plan count book ending is known room sent a s recalled same fair heard.
    let asked = c.asked_law.ensures.few plan count book ending a in
    fewer plan count book
    (record {
      eager = λ fs t ws s toured steps round rest host. c.eager_serving_law.ensures plan fs t ws s is known room (c.served_due_law.ensures plan is known) toured steps round rest host;
      fewer = λ fs missed lost ws e round quiet few led es rest at host listed begun.
          c.bounded_serving_law.ensures.fewer plan fs missed lost ws e.progress e.slaves count is known
          (c.bounded_serving_law.ensures.serving plan fs e.again missed ws e.progress e.slaves e.last e.now is known e.toured e.asks e.eager e.enters round) quiet few led es rest at host listed begun;
    })
    sent ending a s recalled same (c.asked_law.ensures.quiet plan count book ending a fair) (omega (arith, asked, heard))
