-- HOW LONG A SLAVE'S NEXT DATAGRAM IS, and that behind a lost frame it is no longer than the one that was lost.
use Rattle.std.specs.Prelude.{◌≡◌, ◌≤◌, ◌<◌, ◌+◌, ℕ, nat_le, if◌then◌else◌, true, false, Option, is_some, List, length}
use Rattle.master_duty.specs.of_mailbox_mail.declared.mail.Mail.{Mail}
use Rattle.mailbox_master.specs.Any.{in_half_of, in_area_len}
use Rattle.master_side.specs.Carried.{choice_of, is_read}
use Rattle.master_side.specs.Sent.{gram_len}
use Rattle.master_side.specs.declared.carried.Carried.{Carried}
use Rattle.master_side.specs.declared.hand.Hand.{Ghosts}
use Rattle.master_side.specs.declared.side.Side.{Side}

-- a frame that is made has no room for a datagram of so many octets
abbrev pub HasNoRoom : List ℕ → ℕ → Type 0
HasNoRoom octets len = 1514 < length octets + (12 + len)

-- the length of the larger of two mailboxes
abbrev pub larger : ℕ → ℕ → ℕ
larger out back = if nat_le out back then back else out

module _ {H : Type 0} {G : Ghosts H} where
  -- that of a slave's larger mailbox
  abbrev pub area_of : Side H G → ℕ
  area_of s = larger s.out.len (in_area_len s.inn)

  -- which datagram the next visit has, where no service comes into hand and this mail is held then
  abbrev pub next_with : Side H G → Option Mail → Carried
  next_with s held = choice_of s.duty s.passing (in_half_of s.inn).state s.turn s.paused held

  -- how many octets that has
  abbrev pub next_len : Side H G → ℕ
  next_len s = gram_len s.out s.inn (next_with s s.out.state)

  -- and the one that the frame under way has
  abbrev pub sent_len : Side H G → ℕ
  sent_len s = gram_len s.out s.inn s.carried

  -- UNDER WAY is what the next visit has, should nothing come back
  abbrev pub IsOnWay : Side H G → Type 0
  IsOnWay s = s.carried ≡ next_with s s.out.state

  -- BEHIND A LOST FRAME the next visit has a datagram of the same kind, and not a read of mailbox 1: its repeat is asked for first
  pub record Repeats (s : Side H G) : Type 0 where
    pub same : s.carried ≡ next_with s s.out.state
    pub unread : s.carried ≡ Carried.Inward → is_read (in_half_of s.inn).state ≡ false

  -- the next visit's has at most so many octets, whatever mail is held then
  abbrev pub SendsAtMost : ℕ → Side H G → Type 0
  SendsAtMost most s = (held : Option Mail) → (is_some s.out.state ≡ true → is_some held ≡ true) → gram_len s.out s.inn (next_with s held) ≤ most

  -- a mail is held where none was, and nothing else changes of that by which the next datagram is chosen
  pub record HoldsOn (s t : Side H G) : Type 0 where
    pub inn : t.inn ≡ s.inn
    pub duty : t.duty ≡ s.duty
    pub passing : t.passing ≡ s.passing
    pub turn : t.turn ≡ s.turn
    pub paused : t.paused ≡ s.paused
    pub carried : t.carried ≡ s.carried
    pub len : t.out.len ≡ s.out.len
    pub held : is_some s.out.state ≡ true → is_some t.out.state ≡ true
