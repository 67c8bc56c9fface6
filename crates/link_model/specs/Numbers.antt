-- The link agreement by the numbers of mails. Mails are counted from 1. Of a link let h mails be held, t taken,
-- r new mails read and a accepted.
use Rattle.std.specs.Prelude.{◌≡◌, ◌≢◌, ℕ, zero, suc, ◌+◌, ◌-◌, ◌≤◌, ◌⊎◌, true, false, not, Option, Some, None, List, [], ◌∷◌, length}
use Rattle.link_model.specs.Counters.{counter_of}
use Rattle.link_model.specs.Mails.{LinkMail, IsPrefixOf}
use Rattle.link_model.specs.Master.{OutHalf, InHalf, InState}
use Rattle.link_model.specs.Slave.{OutSide, InSide}
use Rattle.link_model.specs.Link.{Link}

-- the item with this number, from 0
abbrev pub item : {B : Type 0} → List B → ℕ → Option B
item [] i = None
item (x ∷ xs) zero = Some x
item (x ∷ xs) (suc i) = item xs i

-- it is mail number i of these: their i-th body, with the i-th counter
abbrev pub IsMail : {B : Type 0} → List B → ℕ → LinkMail B → Type 0
IsMail xs zero m = ⊥
IsMail xs (suc i) m = (item xs i ≡ Some m.body) × (m.counter ≡ counter_of (suc i))

-- mail number i stands there
abbrev pub Stands : {B : Type 0} → Option (LinkMail B) → List B → ℕ → Type 0
Stands {B} place xs i = (m : LinkMail B) × (place ≡ Some m) × IsMail xs i m

-- mail number i stands there, where mail 0 is none
abbrev pub StandsOrNone : {B : Type 0} → Option (LinkMail B) → List B → ℕ → Type 0
StandsOrNone place xs zero = place ≡ None
StandsOrNone place xs (suc i) = Stands place xs (suc i)

-- outward: the half h and mailbox 0
pub record OutNumbers {B : Type 0} (h : OutHalf B) (s : OutSide B) (held taken : List B) : Type 0 where
  -- taken are the first t mails held, and the last taken counter is that of mail t
  pub first : IsPrefixOf taken held
  pub last_taken : s.last_taken ≡ counter_of (length taken)
  -- a half that holds a mail holds mail h
  pub holding : (m : LinkMail B) → h.holding ≡ Some m → IsMail held (length held) m
  -- a full mailbox 0 holds mail t or t + 1
  pub boxed : (m : LinkMail B) → s.box ≡ Some m → IsMail held (length taken) m ⊎ IsMail held (suc (length taken)) m
  -- h is t, t + 1 or t + 2
  pub low : length taken ≤ length held
  pub high : length held ≤ length taken + 2
  -- with t + 1 the half holds that mail or mailbox 0 does
  pub one : length held ≡ length taken + 1 → Stands h.holding held (suc (length taken)) ⊎ Stands s.box held (suc (length taken))
  -- with t + 2 the half holds mail t + 2 and mailbox 0 mail t + 1
  pub two : length held ≡ length taken + 2 → Stands h.holding held (suc (suc (length taken))) × Stands s.box held (suc (length taken))
  -- an idle half has h at most t + 1
  pub idle : h.holding ≡ None → length held ≤ length taken + 1
  -- the half's next mail is mail h + 1
  pub last : h.last ≡ counter_of (length held)

-- inward: the half h and mailbox 1
pub record InNumbers {B : Type 0} (h : InHalf) (s : InSide B) (offered accepted : List B) : Type 0 where
  pub read : ℕ
  -- accepted are the first a mails offered, and a is r or r - 1
  pub first : IsPrefixOf accepted offered
  pub count : (length accepted ≡ read) ⊎ (length accepted + 1 ≡ read)
  -- the counter of the last accepted mail is that of mail a
  pub last : h.last ≡ counter_of (length accepted)
  -- in Clear a is r, and request, acknowledge and the half's bit are equal
  pub clear : h.state ≡ InState.Clear → (length accepted ≡ read) × (s.request ≡ h.bit) × (s.acknowledge ≡ h.bit)
  -- the only new mail that stands unread or withdrawn is r + 1
  pub unread : (m : LinkMail B) → s.box ≡ Some m → s.again ≡ false → IsMail offered (suc read) m × (s.withdrawn ≡ None)
  pub withdrawn : (m : LinkMail B) → s.withdrawn ≡ Some m → IsMail offered (suc read) m
  pub offered_low : read ≤ length offered
  pub offered_high : length offered ≤ read + 1
  pub all_read : ((m : LinkMail B) → s.box ≡ Some m → s.again ≡ true) → s.withdrawn ≡ None → length offered ≡ read
  -- the last read mail is mail r, or mail r - 1 while mailbox 1 is empty and mail r is still known as offered
  pub last_read : StandsOrNone s.last_read offered read ⊎ ((s.box ≡ None) × (s.again ≡ false) × Stands s.offered offered read × StandsOrNone s.last_read offered (read - 1))
  -- a mail offered again is mail r
  pub again : s.again ≡ true → StandsOrNone s.offered offered read
  -- in Doubt the request is the half's bit or its inverse, in Asked and Refetch the half's bit
  pub doubt : h.state ≡ InState.Doubt → (s.request ≡ h.bit) ⊎ (s.request ≡ not h.bit)
  pub asked : h.state ≡ InState.Asked → s.request ≡ h.bit
  pub refetch : h.state ≡ InState.Refetch → (s.request ≡ h.bit) × (s.acknowledge ≡ h.bit)
  -- where in one of these the acknowledge equals the half's bit and r isn't 0, mailbox 1 holds mail r
  pub there : h.state ≢ InState.Clear → s.acknowledge ≡ h.bit → read ≢ 0 → Stands s.box offered read
  -- the node's next new mail is the one behind all offered
  pub newest : s.newest ≡ counter_of (length offered)

-- both directions of one link
pub record Numbered {B S : Type 0} (w : Link B S) : Type 0 where
  pub out : OutNumbers w.halves.out w.node.out w.held w.taken
  pub inn : InNumbers w.halves.inn w.node.inn w.offered w.accepted
