-- The bodies accepted by what the inward half's datagram gave, and what a hand tells of them.
use Rattle.std.specs.Prelude.{◌≡◌, List, [], ◌∷◌, Option, Some, None, Ok}
use Rattle.master_duty.specs.of_mailbox_mail.declared.mail.MailView.{MailView}
use Rattle.master_duty.specs.of_mailbox_mail.View.{mail_seen}
use Rattle.mailbox_master.specs.of_link_mails.Body.{Body, uncounted}
use Rattle.mailbox_master.specs.declared.seat.GotView.{GotView}
use Rattle.master_side.specs.declared.hand.Heard.{Heard}

-- the mail that was accepted
abbrev pub view_in : Option GotView → Option MailView
view_in (Some (GotView.Mail v)) = Some v
view_in _ = None

-- as the link has it
abbrev pub heard_of : Option MailView → List Body
heard_of None = []
heard_of (Some v) = Ok (uncounted (mail_seen v)) ∷ []

-- WHAT A RETURNED FRAME BROUGHT: no mail was accepted, or this one, of which the hand tells what it brought
abbrev pub Brought : (Body → Type 0) → Option Heard → List Body → Type 0
Brought brings None ms = ms ≡ []
Brought brings (Some what) ms = (b : Body) × (ms ≡ b ∷ []) × brings b

-- what of a packet is under way behind mails
abbrev pub joined_by : {J : Type 0} → (J → Body → J) → J → List Body → J
joined_by step j [] = j
joined_by step j (b ∷ bs) = joined_by step (step j b) bs

-- WHAT THE MAILS OF A RETURNED FRAME JOIN: what is under way behind them, and what the one that was accepted completed
abbrev pub HasJoined : {J : Type 0} → (J → Body → J) → (J → Body → Type 0) → J → J → Option Heard → List Body → Type 0
HasJoined step completed old new heard ms = (new ≡ joined_by step old ms) × Brought (completed old) heard ms
