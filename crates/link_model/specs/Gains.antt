-- The measure of a link: how many datagrams can gain, against the losses.
use Rattle.std.specs.Prelude.{◌≡◌, ◌≢◌, ℕ, ◌+◌, Bool, false, if◌then◌else◌, Option, Some, None, List, [], ◌∷◌, ◌≤◌, ◌*◌, length}
use Rattle.link_model.specs.Mails.{LinkMail, is_repeat, differs}
use Rattle.link_model.specs.Master.{InState}
use Rattle.link_model.specs.Slave.{Node, Server}
use Rattle.link_model.specs.Link.{Link, Fate, Event, happens}

-- 1 where there is a mail
abbrev pub count_of : {A : Type 0} → Option A → ℕ
count_of None = 0
count_of (Some x) = 1

-- how many returns the inward half is away from Clear
abbrev pub steps_back : InState → ℕ
steps_back InState.Clear = 0
steps_back InState.Doubt = 3
steps_back InState.Asked = 2
steps_back InState.Refetch = 1

-- what the halves still have to gain: the mail held, and the way back to Clear
abbrev pub owed : {B S : Type 0} → Link B S → ℕ
owed w = count_of w.halves.out.holding + steps_back w.halves.inn.state

-- the write of a mail held is done
abbrev pub write_gain : {B : Type 0} → Option (LinkMail B) → Option (LinkMail B) → ℕ
write_gain None box = 0
write_gain (Some m) None = 1
write_gain (Some m) (Some stands) = 0

-- a read in Clear brings a mail; each other state goes on, Asked where the acknowledge equals the request
abbrev pub read_gain : {B : Type 0} → InState → Option (LinkMail B) → Bool → ℕ
read_gain InState.Clear box differ = count_of box
read_gain InState.Doubt box differ = 1
read_gain InState.Asked box differ = if differ then 0 else 1
read_gain InState.Refetch box differ = 1

-- nothing is gained by what is lost
abbrev pub on_return : Fate → ℕ → ℕ
on_return Fate.Pass gain = gain
on_return Fate.LostBefore gain = 0
on_return Fate.LostBehind gain = 0

-- a loss, of what is lost
abbrev pub on_loss : Fate → ℕ
on_loss Fate.Pass = 0
on_loss Fate.LostBefore = 1
on_loss Fate.LostBehind = 1

-- what an event gains: 1 where a half goes on by it, or a mail is read
abbrev pub gain_of : {B S : Type 0} → Link B S → Event B S → ℕ
gain_of w (Event.Hold body) = 0
gain_of w (Event.Out fate) = on_return fate (write_gain w.halves.out.holding w.node.out.box)
gain_of w (Event.In fate) =
    on_return fate (read_gain w.halves.inn.state w.node.inn.box (differs w.node.inn.acknowledge w.halves.inn.bit))
gain_of w Event.Pdi = 0
gain_of w (Event.Change f) = 0

-- a datagram of the inward half is lost
abbrev pub loss_of : {B S : Type 0} → Event B S → ℕ
loss_of (Event.Hold body) = 0
loss_of (Event.Out fate) = 0
loss_of (Event.In fate) = on_loss fate
loss_of Event.Pdi = 0
loss_of (Event.Change f) = 0

-- what an event gains on the way from a link to the one behind it is paid by the mails taken up and accepted, and by
-- three for a lost datagram of the inward half
abbrev pub IsPaid : {B S : Type 0} → Link B S → Event B S → Link B S → Type 0
IsPaid w e x =
    (gain_of w e + owed x) + (length w.accepted + length w.held) ≤ (owed w + 3 * loss_of e) + (length x.accepted + length x.held)

-- all that was offered was accepted, and the slave has nothing left
pub record NothingLeft {B S : Type 0} (v : Server B S) (w : Link B S) : Type 0 where
  pub accepted : w.accepted ≡ w.offered
  pub withdrawn : w.node.inn.withdrawn ≡ None
  pub next : v.next w.node.server ≡ None
  pub out : w.node.out.box ≡ None

-- all that a list of events gains
abbrev pub gains : {B S : Type 0} → Server B S → Link B S → List (Event B S) → ℕ
gains v w [] = 0
gains v w (e ∷ es) = gain_of w e + gains v (happens v w e) es

-- the datagrams of the inward half that are lost in it
abbrev pub losses : {B S : Type 0} → List (Event B S) → ℕ
losses [] = 0
losses (e ∷ es) = loss_of e + losses es

-- what holds behind a step of the processor: the request is acknowledged; an empty mailbox 1 means that the slave has
-- nothing to offer; a mail that stays in mailbox 0 is new, and mailbox 1 is full
pub record HasStepped {B S : Type 0} (v : Server B S) (n : Node B S) : Type 0 where
  pub acknowledged : n.inn.acknowledge ≡ n.inn.request
  pub nothing : n.inn.box ≡ None → (n.inn.offered ≡ None) × (n.inn.withdrawn ≡ None) × (v.next n.server ≡ None)
  pub stays : (m : LinkMail B) → n.out.box ≡ Some m → (is_repeat n.out.last_taken m ≡ false) × (n.inn.box ≢ None)
