use Rattle.std.proofs.Common.{◌≡◌, ◌+◌, ◌-◌, ◌*◌, ◌≤◌, suc, length, map, subst, arith}
use Rattle.packets_heard.specs.of_life_runs.First.{lens_of, first_leads}
use Rattle.packets_heard.specs.of_master_node.Ports.{ports_behind, ports_of}
use Rattle.packets_heard.specs.of_master_node.Serving.{run_lead}
use Rattle.packets_heard.specs.Servings.{served_joined, served_packets}
use Rattle.served_rings.specs.of_run_work.Packets.{waiting_work}
use Rattle.served_rings.specs.of_run_work.Together.{packets_begun}
use Rattle.served_rings.proofs.of_run_work.Placed.{all_fresh}
use Rattle.run_promises.proofs.Begun.{none_served, nothing_served, served_weights}
use Rattle.run_promises.proofs.Switched.{Laws, served_sent, switched_so}
use Rattle.packets_heard.specs.of_life_runs.Served.{all_serve}
use Rattle.run_promises.proofs.switched_servings.switched_serving_law.Goals as goal

pub returns : goal.returns
returns c = λ plan is known fs missed ws led round quiet es rest at host listed begun.
    let m = length plan.slaves - 1 in
    let n = suc m in
    let same : n ≡ length plan.slaves = omega (arith, is.laid.some_slave) in
    let least : length plan.slaves ≤ n = omega (arith, same) in
    let lens = lens_of plan.slaves in
    let ports = ports_behind 0 plan.slaves in
    let many = ports_of plan.slaves in
    let first = all_serve plan.paces (first_leads plan) in
    let leads = map run_lead ws in
    let laws : Laws plan leads (served_joined led) (λ k. served_packets led k) es m = record {
      own = λ k port has. c.port_law.ensures.own plan.slaves k port has;
      arrivals = λ k port own. c.port_law.ensures.served_arrivals lens plan.recover plan.retry missed ports first ws fs led es k port own listed;
      forwarded = λ k port own near. c.begun_law.ensures.served_forwarded lens plan.recover plan.retry missed ports many first ws fs led es k port own near begun;
      weighed = λ k. served_weights lens plan.recover plan.retry n first (nothing_served plan.services plan.paces 0 plan.slaves) fs missed ws led k;
      none = λ k none. none_served ports many k none fs missed ws led es begun;
      within = λ few come. c.packet_law.ensures.within n many es few come;
      echo = λ mac six. record { same = λ packet echo e. c.packet_law.ensures.echo mac packet echo six e; may = λ packet echo e. c.packet_law.ensures.may mac packet echo e };
    } in
    let came = c.asked_law.ensures lens plan.recover plan.retry plan.paces (first_leads plan) fs missed ws (all_fresh plan.services 0 plan.slaves) led in
    let sent = served_sent plan leads (served_joined led) (λ k. served_packets led k) es m laws least lens plan.slaves ws (served_joined led) came (c.served_sent_law.ensures (waiting_work n) plan is known fs missed ws led round quiet) in
    let made = switched_so plan leads (served_joined led) (λ k. served_packets led k) es m laws least rest known.macs sent at host in
    record { entered = made.entered; within = made.within; most = subst (λ k. made.entered + packets_begun plan.slaves leads ≤ made.entered * ((k + 1) * (k + 1))) same made.most }
