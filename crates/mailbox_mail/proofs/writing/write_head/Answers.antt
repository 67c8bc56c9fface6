use Rattle.mailbox_mail.proofs.Laws.{head-octets, head-spelled}
use Rattle.mailbox_mail.proofs.writing.write_head.Goals as goal

pub returns-clause-octets : goal.returns-clause-octets
returns-clause-octets c =
    head-octets c.args.head c.args.len c.args.area.now c.head_in_front.new.area c.requires.fits c.head_in_front.ensures.octets

pub returns-clause-spelled : goal.returns-clause-spelled
returns-clause-spelled c =
    head-spelled c.args.head c.args.len c.args.area.now c.head_in_front.new.area c.requires.fits c.head_in_front.ensures.addressed c.requires.counted c.requires.within
    c.head_in_front.ensures.octets
