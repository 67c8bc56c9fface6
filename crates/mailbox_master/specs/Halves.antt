-- The halves of the link model that the typed halves are.
use Rattle.std.specs.Prelude.{◌≡◌, ℕ, ◌==◌, Bool, if◌then◌else◌, Some, None}
use Rattle.link_mails.specs.of_mailbox_mail.declared.mail.Mail.{Mail}
use Rattle.link_mails.specs.of_link_model.Master.{OutHalf, InHalf, InState}
use Rattle.link_mails.specs.of_link_model.Slave.{InSide}
use Rattle.link_mails.specs.Body.{Body, link_mail}
use Rattle.mailbox_master.specs.Links.{OutLink, InLink}
use Rattle.mailbox_master.specs.declared.states.Holding.{Holding}

-- the mail that a half holds
abbrev pub held_mail : OutLink Holding → Mail
held_mail o = o.state.mail

-- an outward half that holds no mail
abbrev pub idle_half : {S : Type 0} → OutLink S → OutHalf Body
idle_half o = record { last = o.last; holding = None }

-- one that holds a mail
abbrev pub holding_half : OutLink Holding → OutHalf Body
holding_half o = record { last = o.last; holding = Some (link_mail (held_mail o)) }

-- an inward half in this state
abbrev pub in_half : {S : Type 0} → InState → InLink S → InHalf
in_half state i = record { last = i.last; state = state; bit = i.bit }

-- of an outward half station and length stay
pub record SameOut {S T : Type 0} (o : OutLink S) (p : OutLink T) : Type 0 where
  pub station : p.station ≡ o.station
  pub len : p.len ≡ o.len

-- of an inward half station and length stay
pub record SameIn {S T : Type 0} (i : InLink S) (j : InLink T) : Type 0 where
  pub station : j.station ≡ i.station
  pub len : j.len ≡ i.len

-- a bit as a number
abbrev pub bit_number : Bool → ℕ
bit_number b = if b then 1 else 0

-- mailbox 1 where it met the write of the repeat request, if the working counter says so
abbrev pub request_met : InSide Body → ℕ → Bool → InSide Body
request_met s counter bit = if counter == 0 then s else record s { request = bit }
