-- The server's next mail is offered.
use Rattle.std.proofs.Common.{rules, refl}
use Rattle.mailbox_slave.proofs.Offering.{next_node, next_spelled}
use Rattle.mailbox_slave.proofs.slave_box.SlaveBox.offer.Goals as goal

pub returns-then-waiting-clause-node : goal.returns-then-waiting-clause-node
returns-then-waiting-clause-node g c =
    let p = c.put_next in
    let S = g.S.Server in
    λ al. next_node S.taken S.next_mail S.rest al c.args.self.now c.args.esc.now c.args.server.now p.new.self p.new.esc p.new.server (S.next_mail c.args.server.now) refl (search rules) (search rules) (search rules) p.ensures.own p.ensures.exact p.ensures.mail p.ensures.server

pub returns-then-waiting-clause-spelled : goal.returns-then-waiting-clause-spelled
returns-then-waiting-clause-spelled g c =
    let p = c.put_next in
    let S = g.S.Server in
    λ before. next_spelled c.args.self.now p.new.self c.args.esc.now p.new.esc (S.next_mail c.args.server.now) (search rules) p.ensures.own p.ensures.exact p.ensures.len
