-- What stands in mailbox 1 was placed there by the box.
use Rattle.std.proofs.Common.{sym, subst}
use Rattle.mailbox_master.specs.of_link_model.Link.{happens}
use Rattle.mailbox_law.specs.Waiting.{keeper}
use Rattle.mailbox_law.specs.Steps.{event_of}
use Rattle.mailbox_law.specs.World.{Shows}
use Rattle.mailbox_law.specs.declared.steps.LinkStep.{LinkStep}
use Rattle.mailbox_law.proofs.Running.{readable}
use Rattle.mailbox_law.proofs.world.World.make.Goals as goal

pub send_inward-requires-clause-readable : goal.send_inward-requires-clause-readable
send_inward-requires-clause-readable c =
    readable c.args.self.slave_box c.args.self.esc c.requires.shows.0 c.requires.shows.1 c.requires.shows.2.inn

pub returns-in-Out-clause-shows : goal.returns-in-Out-clause-shows
returns-in-Out-clause-shows c = λ w a s.
    let P : LinkStep → Type 0 = λ step. Shows c.send_outward.result (happens keeper w (event_of step)) in
    subst P (sym c.in-Out.is) (c.send_outward.ensures.shows w s)
