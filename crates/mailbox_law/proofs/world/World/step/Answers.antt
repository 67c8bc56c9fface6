-- The box makes the processor's step over the keeper, of which the link sees what waits.
use Rattle.std.proofs.Common.{◌≡◌, ◌∙◌, ap, List}
use Rattle.mailbox_master.specs.of_link_model.Slave.{Node, node_seen, processor_step}
use Rattle.mailbox_master.proofs.of_link_model.Servers.{step_seen}
use Rattle.mailbox_master.specs.of_link_mails.Body.{Body}
use Rattle.mailbox_slave.specs.Node.{node_of}
use Rattle.mailbox_law.specs.Waiting.{Kept, keeper, bodies_of}
use Rattle.mailbox_law.proofs.Stepping.{kept_server, waiting_of, seen_keeper, step_taken, step_given}
use Rattle.mailbox_law.proofs.world.World.step.Goals as goal

pub returns-clause-shows : goal.returns-clause-shows
returns-clause-shows c = λ w a s.
    let x = c.args.self in
    let kept = c.in_ok-make_room.ensures.kept in
    let n : Node Body Kept = node_of x.slave_box x.esc c.make_room.new.self in
    let node : node_seen waiting_of n ≡ w.node = (λ i. record { out = s.out i; inn = s.inn i; server = (ap waiting_of kept ∙ s.waiting) i }) in
    let stepped = c.step.ensures.node in
    let seen = ap (node_seen waiting_of) stepped ∙ step_seen (kept_server 2) keeper waiting_of (seen_keeper 2) n ∙ ap (processor_step keeper) node in
    record {
      out_half = s.out_half;
      in_half = s.in_half;
      out = ap (λ (m : Node Body (List Body)). m.out) seen;
      inn = ap (λ (m : Node Body (List Body)). m.inn) seen;
      waiting = ap (λ (m : Node Body (List Body)). m.server) seen;
      held = s.held;
      taken = ap (λ (m : Node Body Kept). bodies_of m.server.taken) stepped ∙ step_taken 2 n w x.held node s.held (ap (λ k. bodies_of k.taken) kept ∙ s.taken) a;
      given = step_given w (bodies_of x.given) s.given;
      accepted = s.accepted;
    }
