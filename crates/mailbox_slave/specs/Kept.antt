-- What the box of a slave keeps beside the registers.
use Rattle.std.specs.Prelude.{◌≡◌, ℕ, ◌+◌, ◌≤◌, Bool, true, if◌then◌else◌, is_none, ◌&&◌, Option, Some, None, IsSome, length}
use Rattle.std.specs.Option.{ForSome}
use Rattle.esc_registers.specs.of_mailbox_mail.declared.mail.Mail.{Mail}

-- the counter of the last mail taken; the counter of the newest mail offered; whether the mail offered is the last
-- read one again; the last mail read; a new mail offered; a new mail withdrawn
pub record Kept : Type 0 where
  pub last_taken : ℕ
  pub newest : ℕ
  pub again : Bool
  pub last_read : Option Mail
  pub fresh : Option Mail
  pub withdrawn : Option Mail

-- what two places for mails and the marks of what stands in them keep: turned, the last mail read is in the second
-- place and the newest one in the first
abbrev pub kept_of : ℕ → ℕ → Bool → Bool → Bool → Bool → Bool → Mail → Mail → Kept
kept_of last_taken newest again turned has_read is_fresh is_withdrawn first second = record {
  last_taken = last_taken;
  newest = newest;
  again = again;
  last_read = if has_read then Some (if turned then second else first) else None;
  fresh = if is_fresh then Some (if turned then first else second) else None;
  withdrawn = if is_withdrawn then Some (if turned then first else second) else None;
}

-- the mail offered
abbrev pub offered : Kept → Option Mail
offered k = if k.again then k.last_read else k.fresh

-- a mail has a counter of the link, 0 to 7
abbrev pub IsCounted : Mail → Type 0
IsCounted m = m.counter ≤ 7

-- a mail with its header fits an area of this length
abbrev pub FitsArea : ℕ → Mail → Type 0
FitsArea len m = 6 + length m.body.items ≤ len

-- what always holds of a box: counters are those of the link, and a repeat is of a mail read
pub record IsSound (k : Kept) : Type 0 where
  pub last_taken : k.last_taken ≤ 7
  pub newest : k.newest ≤ 7
  pub last_read : ForSome k.last_read IsCounted
  pub fresh : ForSome k.fresh IsCounted
  pub withdrawn : ForSome k.withdrawn IsCounted
  pub again : k.again ≡ true → IsSome k.last_read × (k.fresh ≡ None)

-- each mail that the box keeps fits mailbox 1 of this length
pub record KeptFits (len : ℕ) (k : Kept) : Type 0 where
  pub last_read : ForSome k.last_read (FitsArea len)
  pub fresh : ForSome k.fresh (FitsArea len)
  pub withdrawn : ForSome k.withdrawn (FitsArea len)

-- no mail is offered unread or withdrawn
abbrev pub is_at_rest : Kept → Bool
is_at_rest k = is_none (offered k) && is_none k.withdrawn
