-- From what the datagram reads as, and from the access that it is.
use Rattle.std.proofs.Common.{ap, sym, ◌∙◌, length}
use Rattle.mailbox_master.specs.of_mailbox_mail.Mail.{mail_read}
use Rattle.mailbox_slave.specs.of_esc_registers.Access.{access}
use Rattle.mailbox_slave.specs.Registers.{in_len}
use Rattle.mailbox_master.specs.Access.{access_head, write_access}
use Rattle.mailbox_master.specs.Halves.{held_mail}
use Rattle.mailbox_law.proofs.Meetings.{meets_write}
use Rattle.mailbox_law.proofs.wire.meet_holding.Goals as goal

pub returns : goal.returns
returns c =
    let half = c.args.half.now in
    let r = c.args.esc.now in
    let m = held_mail half in
    let head = ap (λ h. access r h c.as_mut_slice.result.now) c.datagram.ensures.head in
    let body = ap (access r (access_head half.station 0 (write_access half.len m))) (c.as_mut_slice.ensures.value ∙ c.datagram.ensures.body) in
    let len = ap length (sym c.datagram.ensures.body) ∙ c.datagram.ensures.len in
    let reads = ap mail_read (sym c.datagram.ensures.body) ∙ c.datagram.ensures.reads in
    (c.pass.new.body, meets_write half.station half.len (in_len r) m r (record { registers = c.pass.new.self; head = c.pass.new.head; body = c.pass.new.body }) c.requires len reads (c.pass.ensures.table ∙ head ∙ body))
