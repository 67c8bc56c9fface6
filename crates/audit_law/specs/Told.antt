-- The told accesses of a mailbox link while it is open, and how the link of an audit goes on by them.
use Rattle.std.specs.Prelude.{◌≡◌, ℕ, ◌==◌, if◌then◌else◌, List, [], ◌∷◌, ◌++◌, length, None, ⊤}
use Rattle.capture_audit.specs.of_mailbox_mail.declared.mail.Mail.{Mail}
use Rattle.capture_audit.specs.declared.access.Access.{Access}
use Rattle.capture_audit.specs.declared.access.Access.TheVariants.{Mailbox}
use Rattle.capture_audit.specs.declared.access.MailAccess.{MailAccess}
use Rattle.capture_audit.specs.declared.link.Link.{Link}
use Rattle.capture_audit.specs.Access.{access_of}
use Rattle.capture_audit.specs.Exchanges.{Sent}
use Rattle.capture_audit.specs.Audit.{station_of}
use Rattle.capture_audit.specs.Rules.{link_rule, link_on, mails_sent, mails_accepted}

-- an access of a mailbox: which, and its datagram with what returned of it
pub record Told : Type 0 where
  pub access : MailAccess
  pub sent : Sent

-- a datagram as an access of this station's mailboxes, if it is one
abbrev pub told_by : ℕ → Access → Sent → List Told
told_by station (Mailbox access) d = if station_of d == station then (record { access = access; sent = d }) ∷ [] else []
told_by station _ d = []

-- the accesses of a station's mailboxes among datagrams, in order
abbrev pub told : ℕ → List Sent → List Told
told station [] = []
told station (d ∷ ds) = told_by station (access_of d.head (length d.body)) d ++ told station ds

-- each of these accesses breaks no rule where it comes
abbrev pub Obeys : Link → List Told → Type 0
Obeys link [] = ⊤
Obeys link (t ∷ ts) = (link_rule link t.access t.sent ≡ None) × Obeys (link_on link t.access t.sent) ts

-- the link behind them
abbrev pub link_behind : Link → List Told → Link
link_behind link [] = link
link_behind link (t ∷ ts) = link_behind (link_on link t.access t.sent) ts

-- the mails that they send
abbrev pub sent_by : Link → List Told → List Mail
sent_by link [] = []
sent_by link (t ∷ ts) = mails_sent link t.access t.sent ++ sent_by (link_on link t.access t.sent) ts

-- the mails that they accept
abbrev pub accepted_by : Link → List Told → List Mail
accepted_by link [] = []
accepted_by link (t ∷ ts) = mails_accepted link t.access t.sent ++ accepted_by (link_on link t.access t.sent) ts
