-- HOW LONG THE DATAGRAM IS with which a service begins.
use Rattle.std.specs.Prelude.{◌≡◌, ◌&&◌, not, ℕ, Bool, true, if◌then◌else◌, is_some, Option, Some, ⊤}
use Rattle.master_duty.specs.of_mailbox_mail.declared.mail.Mail.{Mail}
use Rattle.mailbox_master.specs.Any.{in_half_of}
use Rattle.mailbox_master.specs.of_link_model.Master.{InState}
use Rattle.master_side.specs.Again.{next_with}
use Rattle.master_side.specs.Carried.{is_clear}
use Rattle.master_side.specs.Sent.{gram_len}
use Rattle.master_side.specs.declared.carried.Carried.{Carried}
use Rattle.master_side.specs.declared.carried.Wish.{Wish}
use Rattle.master_side.specs.declared.hand.Hand.{Ghosts}
use Rattle.master_side.specs.declared.side.Side.{Side}

-- a change of state begins with the status of mailbox 0, mails with the write of the first; the inward half comes first, and behind a write in vain a read
abbrev pub first_by : InState → Bool → Wish → Carried
first_by s paused Wish.Mails = if is_clear s && not paused then Carried.Write else Carried.Inward
first_by s paused (Wish.State target) = if is_clear s then Carried.Full else Carried.Inward

-- a service by mails has a mail held
abbrev pub HoldsFirst : Wish → Option Mail → Type 0
HoldsFirst Wish.Mails held = is_some held ≡ true
HoldsFirst (Wish.State target) held = ⊤

module _ {H : Type 0} {G : Ghosts H} where
  -- how many octets that has
  abbrev pub first_of : Side H G → Wish → ℕ
  first_of s wish = gram_len s.out s.inn (first_by (in_half_of s.inn).state s.paused wish)

  -- IT IS WHAT THE VISIT SENDS where the service came into hand, whatever mail is held then
  abbrev pub SendsFirst : Side H G → Side H G → Bool → Option Wish → Type 0
  SendsFirst s t began wish = began ≡ true → (w : Wish) → wish ≡ Some w → (held : Option Mail) → HoldsFirst w held → gram_len t.out t.inn (next_with t held) ≡ first_of s w
