-- What an access of a mailbox does to its link and its station.
use Rattle.std.specs.Prelude.{◌≡◌, ℕ, Bool, not, if◌then◌else◌, List, [], ◌∷◌, Some, None, Result, Ok, Err}
use Rattle.capture_view.specs.of_mailbox_mail.declared.mail.Mail.{Mail}
use Rattle.capture_view.specs.of_mailbox_mail.declared.mail.MailFault.{MailFault}
use Rattle.capture_audit.specs.declared.access.MailAccess.{MailAccess}
use Rattle.capture_audit.specs.declared.link.Link.{Link}
use Rattle.capture_audit.specs.declared.link.Moved.{Moved}
use Rattle.capture_audit.specs.declared.link.Moved.TheVariants.{Nothing, Sent as SentMail, Accepted}
use Rattle.capture_audit.specs.declared.station.Seat.{Seat}
use Rattle.capture_audit.specs.declared.station.Step.{Step}
use Rattle.capture_audit.specs.declared.station.Step.TheVariants.{Breaks, Moves}
use Rattle.capture_audit.specs.Exchanges.{Sent}
use Rattle.capture_audit.specs.Rules.{link_on, mails_sent, mails_accepted, mail_written}
use Rattle.capture_audit.specs.Audit.{mailbox_rule}

-- the new mails that were sent
abbrev pub sent_by : Moved → List Mail
sent_by Nothing = []
sent_by (SentMail mail) = mail ∷ []
sent_by (Accepted mail) = []

-- the new mails that were accepted
abbrev pub accepted_by : Moved → List Mail
accepted_by Nothing = []
accepted_by (SentMail mail) = []
accepted_by (Accepted mail) = mail ∷ []

-- the link behind a write of these octets, which read as this, and returned with working counter 1 or didn't
abbrev pub link_written : Link → List ℕ → Bool → Result Mail MailFault → Link
link_written link body done (Err fault) = link
link_written link body done (Ok mail) =
    if link.waits then record link { waits = not done } else record link { last_sent = mail.counter; written = body; waits = not done }

-- a mail is written
pub record IsWritten (old new : Link) (body : List ℕ) (done : Bool) (read : Result Mail MailFault) (moved : Moved) : Type 0 where
  pub link : new ≡ link_written old body done read
  pub sent : sent_by moved ≡ mail_written old read
  pub accepted : accepted_by moved ≡ []

-- a link goes on, and this is moved
pub record GoesOn (old new : Link) (access : MailAccess) (sent : Sent) (moved : Moved) : Type 0 where
  pub link : new ≡ link_on old access sent
  pub mails : sent_by moved ≡ mails_sent old access sent
  pub accepted : accepted_by moved ≡ mails_accepted old access sent

-- a station's mailbox is accessed: a rule is broken, or its link is open and goes on
abbrev pub Steps : Seat → Seat → MailAccess → Sent → Step → Type 0
Steps old new access sent (Breaks rule) = mailbox_rule old.link access sent ≡ Some rule
Steps old new access sent (Moves moved) =
    (link behind : Link) × (old.link ≡ Some link) × (mailbox_rule old.link access sent ≡ None) × (new ≡ record old { link = Some behind }) × GoesOn link behind access sent moved
