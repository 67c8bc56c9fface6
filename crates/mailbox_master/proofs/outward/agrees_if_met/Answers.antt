-- The write was met, whatever mailbox 0 held.
use Rattle.std.proofs.Common.{refl}
use Rattle.link_mails.specs.Body.{link_mail}
use Rattle.mailbox_master.specs.Halves.{holding_half, held_mail}
use Rattle.mailbox_master.proofs.Agreement.{out_met}
use Rattle.mailbox_master.proofs.outward.agrees_if_met.Goals as goal

pub returns : goal.returns
returns c = λ s held taken a.
    out_met (holding_half c.args.half.now) s held taken (link_mail (held_mail c.args.half.now)) refl a
