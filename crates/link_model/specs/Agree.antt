-- The link agreement: what holds between the halves of a link and its node in every moment.
use Rattle.std.specs.Prelude.{◌≡◌, ◌≢◌, ℕ, Bool, true, false, Option, Some, None, option_map, List, [], ◌∷◌, ◌++◌, length}
use Rattle.link_model.specs.Counters.{next_counter, counter_of}
use Rattle.link_model.specs.Mails.{LinkMail, is_repeat, news, seen, counter_in, bodies}
use Rattle.link_model.specs.Master.{OutHalf, InHalf, InState}
use Rattle.link_model.specs.Slave.{OutSide, InSide}
use Rattle.link_model.specs.Link.{Link}

-- the last of a list
abbrev pub last_body : {B : Type 0} → List B → Option B
last_body [] = None
last_body (x ∷ []) = Some x
last_body (x ∷ (y ∷ more)) = last_body (y ∷ more)

-- a mail that stands before a side whose last mail had this counter and these mails before it: it is numbered,
-- as a repeat it is the last of them, and as a new mail it has the next counter
pub record Follows {B : Type 0} (last : ℕ) (before : List B) (mail : Option (LinkMail B)) : Type 0 where
  pub counted : (m : LinkMail B) → mail ≡ Some m → m.counter ≢ 0
  pub same : (m : LinkMail B) → mail ≡ Some m → is_repeat last m ≡ true → last_body before ≡ Some m.body
  pub next : (m : LinkMail B) → mail ≡ Some m → is_repeat last m ≡ false → m.counter ≡ next_counter last

-- the outward half against mailbox 0: held are the mails taken, then the new one in the mailbox, then the new
-- one in the half
pub record OutAgree {B : Type 0} (h : OutHalf B) (s : OutSide B) (held taken : List B) : Type 0 where
  pub stream : held ≡ taken ++ (news s.last_taken s.box ++ news (seen s.last_taken s.box) h.holding)
  pub last : h.last ≡ seen (seen s.last_taken s.box) h.holding
  pub number : s.last_taken ≡ counter_of (length taken)
  pub boxed : Follows s.last_taken taken s.box
  pub holding : Follows (seen s.last_taken s.box) (taken ++ news s.last_taken s.box) h.holding

-- the last mail read, whether the processor noticed it or not
abbrev pub last_met : {B : Type 0} → Option (LinkMail B) → Option (LinkMail B) → Bool → Option (LinkMail B) → Option (LinkMail B)
last_met (Some stands) offered again last_read = last_read
last_met None None again last_read = last_read
last_met None (Some m) true last_read = last_read
last_met None (Some m) false last_read = Some m

-- the same of a side of mailbox 1
abbrev pub last_met_of : {B : Type 0} → InSide B → Option (LinkMail B)
last_met_of s = last_met s.box s.offered s.again s.last_read

-- the new mail in mailbox 1, if what stands there is no repeat
abbrev pub unread : {B : Type 0} → Bool → Option (LinkMail B) → Option (LinkMail B)
unread true box = None
unread false box = box

-- the slave's own side of mailbox 1
pub record SideAgree {B : Type 0} (s : InSide B) : Type 0 where
  pub stands : (b : LinkMail B) → s.box ≡ Some b → s.offered ≡ Some b
  pub again : s.again ≡ true → s.offered ≡ s.last_read
  pub one : (m : LinkMail B) → s.offered ≡ Some m → s.again ≡ false → s.withdrawn ≡ None
  pub newest : s.newest ≡ seen (seen (counter_in (last_met_of s)) (unread s.again s.box)) s.withdrawn
  pub unread_next : (m : LinkMail B) → unread s.again s.box ≡ Some m → m.counter ≡ next_counter (counter_in (last_met_of s))
  pub withdrawn_next : (m : LinkMail B) → s.withdrawn ≡ Some m → m.counter ≡ next_counter (counter_in (last_met_of s))

-- what each state of the inward half knows of the bits
abbrev pub Knows : {B : Type 0} → InState → InHalf → InSide B → Type 0
Knows InState.Clear h s = (h.last ≡ counter_in (last_met_of s)) × (s.request ≡ h.bit) × (s.acknowledge ≡ h.bit)
Knows InState.Doubt h s = s.acknowledge ≡ h.bit → s.request ≡ h.bit
Knows InState.Asked h s = s.request ≡ h.bit
Knows InState.Refetch h s = (s.request ≡ h.bit) × (s.acknowledge ≡ h.bit)

-- the inward half against mailbox 1: offered are the mails accepted, then the last mail read where it is not yet
-- accepted, then the new one in the mailbox or withdrawn
pub record InAgree {B : Type 0} (h : InHalf) (s : InSide B) (offered accepted : List B) : Type 0 where
  pub side : SideAgree s
  pub stream : offered ≡ accepted ++ (news h.last (last_met_of s) ++ (bodies (unread s.again s.box) ++ bodies s.withdrawn))
  pub number : h.last ≡ counter_of (length accepted)
  pub read : Follows h.last accepted (last_met_of s)
  pub knows : Knows h.state h s
  pub never : last_met_of s ≡ None → h.last ≡ 0
  pub clear : h.state ≡ InState.Clear → (m : LinkMail B) → s.box ≡ Some m → s.again ≡ false
  pub there : h.state ≢ InState.Clear → s.acknowledge ≡ h.bit → (m : LinkMail B) → last_met_of s ≡ Some m → (s.box ≡ Some m) × (s.again ≡ true)

-- both directions of one link
pub record Agrees {B S : Type 0} (w : Link B S) : Type 0 where
  pub out : OutAgree w.halves.out w.node.out w.held w.taken
  pub inn : InAgree w.halves.inn w.node.inn w.offered w.accepted

-- what the slave still knows of its mails: `before` are those up to its last read mail; behind them comes the mail that
-- it has as offered new, or the one withdrawn
pub record Prior {B : Type 0} (s : InSide B) (offered before : List B) : Type 0 where
  pub parts : offered ≡ before ++ (bodies (unread s.again s.offered) ++ bodies s.withdrawn)
  pub known : option_map (λ m. m.body) s.last_read ≡ last_body before
  pub number : counter_in s.last_read ≡ counter_of (length before)
  pub next : (m : LinkMail B) → unread s.again s.offered ≡ Some m → m.counter ≡ next_counter (counter_in s.last_read)

-- the agreement with what the slave still knows
pub record Accords {B S : Type 0} (w : Link B S) : Type 0 where
  pub agrees : Agrees w
  pub before : List B
  pub prior : Prior w.node.inn w.offered before
