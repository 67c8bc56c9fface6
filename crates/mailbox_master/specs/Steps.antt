-- The steps of the link agreement that the halves make, whatever slave and mails they agree with.
use Rattle.std.specs.Prelude.{◌≡◌, ℕ, false, None, List, [], ◌∷◌, ◌++◌}
use Rattle.link_mails.specs.of_mailbox_mail.Mail.{mail_read}
use Rattle.link_mails.specs.of_link_model.Mails.{LinkMail}
use Rattle.link_mails.specs.of_link_model.Master.{OutHalf, InHalf}
use Rattle.link_mails.specs.of_link_model.Slave.{OutSide, InSide}
use Rattle.link_mails.specs.of_link_model.Link.{written, write_counter}
use Rattle.link_mails.specs.of_link_model.Agree.{OutAgree, InAgree}
use Rattle.link_mails.specs.Body.{Body, mail_brought, bit_1}
use Rattle.mailbox_master.specs.Halves.{request_met}
use Rattle.mailbox_master.specs.Next.{accepted_by}
use Rattle.mailbox_master.specs.declared.inward.Got.{Got}

-- outward half h takes up a mail and is k
abbrev pub AgreesHolding : OutHalf Body → OutHalf Body → Body → Type 0
AgreesHolding h k body = (s : OutSide Body) (held taken : List Body) → OutAgree h s held taken → OutAgree k s (held ++ (body ∷ [])) taken

-- its write of this mail met the slave, whose answer is this counter, and it is k
abbrev pub AgreesWritten : OutHalf Body → OutHalf Body → LinkMail Body → ℕ → Type 0
AgreesWritten h k mail counter =
    (s : OutSide Body) (held taken : List Body) → counter ≡ write_counter s.box → OutAgree h s held taken → OutAgree k (written s s.box mail) held taken

-- its write was lost before the slave, and it is k
abbrev pub AgreesUnmet : OutHalf Body → OutHalf Body → Type 0
AgreesUnmet h k = (s : OutSide Body) (held taken : List Body) → OutAgree h s held taken → OutAgree k s held taken

-- its write of this mail met the slave and was lost behind it, and it is k
abbrev pub AgreesMet : OutHalf Body → OutHalf Body → LinkMail Body → Type 0
AgreesMet h k mail = (s : OutSide Body) (held taken : List Body) → OutAgree h s held taken → OutAgree k (written s s.box mail) held taken

-- mailbox 1 at the end of bring-up: nothing was offered yet, and request and acknowledge are clear
abbrev pub empty_side : InSide Body
empty_side =
    record { box = None; offered = None; again = false; last_read = None; withdrawn = None; newest = 0; request = false; acknowledge = false }

-- inward half h reads mailbox 1, what stood there comes back with this working counter and gives this, and it is k
abbrev pub AgreesRead : InHalf → InHalf → ℕ → List ℕ → Got → Type 0
AgreesRead h k counter area got =
    (s : InSide Body) (offered accepted : List Body) → s.box ≡ mail_brought counter (mail_read area) → InAgree h s offered accepted → InAgree k (record s { box = None }) offered (accepted ++ accepted_by got)

-- its read was lost, met or not, and it is k
abbrev pub AgreesLost : InHalf → InHalf → Type 0
AgreesLost h k =
    (s : InSide Body) (offered accepted : List Body) → InAgree h s offered accepted → InAgree k s offered accepted × InAgree k (record s { box = None }) offered accepted

-- its write of the repeat request came back with this working counter, and it is k
abbrev pub AgreesRequested : InHalf → InHalf → ℕ → Type 0
AgreesRequested h k counter =
    (s : InSide Body) (offered accepted : List Body) → InAgree h s offered accepted → InAgree k (request_met s counter h.bit) offered accepted

-- its write of the repeat request was lost, met or not, and it is k
abbrev pub AgreesUnrequested : InHalf → InHalf → Type 0
AgreesUnrequested h k =
    (s : InSide Body) (offered accepted : List Body) → InAgree h s offered accepted → InAgree k s offered accepted × InAgree k (record s { request = h.bit }) offered accepted

-- its read of the acknowledge gave this PDI control octet, and it is k
abbrev pub AgreesAcknowledged : InHalf → InHalf → ℕ → Type 0
AgreesAcknowledged h k control =
    (s : InSide Body) (offered accepted : List Body) → s.acknowledge ≡ bit_1 control → InAgree h s offered accepted → InAgree k s offered accepted

-- its read of the acknowledge was lost, and it is k
abbrev pub AgreesUnread : InHalf → InHalf → Type 0
AgreesUnread h k = (s : InSide Body) (offered accepted : List Body) → InAgree h s offered accepted → InAgree k s offered accepted
