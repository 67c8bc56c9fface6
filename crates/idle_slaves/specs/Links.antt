-- THE LINK OF AN OPEN EPOCH: the master's halves and the slave's mailboxes, with the mails that went between them.
use Rattle.std.specs.Prelude.{◌≡◌, Some}
use Rattle.plan_ring.specs.of_exchange_model.Rows.{Row}
use Rattle.plan_ring.specs.of_link_model.Agree.{Agrees}
use Rattle.plan_ring.specs.of_link_model.Link.{Link}
use Rattle.plan_ring.specs.of_link_model.Mails.{LinkMail}
use Rattle.plan_ring.specs.of_link_model.Master.{InState}
use Rattle.plan_ring.specs.of_segment_model.Seats.{Side}
use Rattle.plan_ring.specs.of_segment_model.Slaves.{Serving, Slave}

-- some mails that were held, taken, offered and accepted agree with both; and with nothing in doubt a mail stands in mailbox 1 only where a service by mails
-- has come into hand
pub record HasLink {V M Q R : Type 0} (d : Side M Q R) (n : Slave V M) : Type 0 where
  pub link : Link M (Serving V M)
  pub agrees : Agrees link
  pub halves : link.halves ≡ d.halves
  pub node : link.node ≡ n.node
  pub row : d.halves.inn.state ≡ InState.Clear → (b : LinkMail M) → n.node.inn.box ≡ Some b → (r : Row M Q R) × (d.now ≡ Some r)
