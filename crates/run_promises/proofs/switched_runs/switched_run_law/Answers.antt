use Rattle.std.proofs.Common.{◌≡◌, ◌+◌, ◌-◌, ◌*◌, ◌≤◌, suc, length, subst, arith}
use Rattle.packets_heard.specs.of_life_runs.First.{lens_of, first_leads}
use Rattle.packets_heard.specs.of_master_node.Ports.{ports_behind, ports_of}
use Rattle.packets_heard.specs.Heard.{joined_in}
use Rattle.packets_heard.specs.Over as Over
use Rattle.served_rings.specs.of_run_work.Packets.{waiting_work}
use Rattle.served_rings.specs.of_run_work.Together.{packets_begun}
use Rattle.run_promises.proofs.Begun.{begun_weights, none_begun, nothing_first}
use Rattle.run_promises.proofs.Switched.{Laws, run_sent, switched_so}
use Rattle.run_promises.proofs.switched_runs.switched_run_law.Goals as goal

pub returns : goal.returns
returns c = λ plan is known fs missed leads led round es rest at host listed begun.
    let m = length plan.slaves - 1 in
    let n = suc m in
    let same : n ≡ length plan.slaves = omega (arith, is.laid.some_slave) in
    let least : length plan.slaves ≤ n = omega (arith, same) in
    let lens = lens_of plan.slaves in
    let ports = ports_behind 0 plan.slaves in
    let many = ports_of plan.slaves in
    let first = first_leads plan in
    let laws : Laws plan leads (joined_in led) (λ k. Over.packets_begun led k) es m = record {
      own = λ k port has. c.port_law.ensures.own plan.slaves k port has;
      arrivals = λ k port own. c.port_law.ensures.arrivals lens plan.recover plan.retry missed ports first leads fs led es k port own listed;
      forwarded = λ k port own near. c.begun_law.ensures.forwarded lens plan.recover plan.retry missed ports many first leads fs led es k port own near begun;
      weighed = λ k. begun_weights lens plan.recover plan.retry n first (nothing_first plan.services 0 plan.slaves) fs missed leads led k;
      none = λ k none. none_begun ports many k none fs missed leads led es begun;
      within = λ few come. c.packet_law.ensures.within n many es few come;
      echo = λ mac six. record { same = λ packet echo e. c.packet_law.ensures.echo mac packet echo six e; may = λ packet echo e. c.packet_law.ensures.may mac packet echo e };
    } in
    let sent = run_sent plan leads (joined_in led) (λ k. Over.packets_begun led k) es m laws least 0 plan.slaves leads (joined_in led) (c.script_run_law.ensures plan fs missed leads led) (c.sent_law.ensures (waiting_work n) plan is known fs missed leads led round) in
    let made = switched_so plan leads (joined_in led) (λ k. Over.packets_begun led k) es m laws least rest known.macs sent at host in
    record { entered = made.entered; within = made.within; most = subst (λ k. made.entered + packets_begun plan.slaves leads ≤ made.entered * ((k + 1) * (k + 1))) same made.most }
