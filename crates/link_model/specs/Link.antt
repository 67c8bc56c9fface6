-- The world of one link: the master's halves, the node, and the mails held, taken, offered and accepted so far.
use Rattle.std.specs.Prelude.{ℕ, Bool, true, false, if◌then◌else◌, Option, Some, None, List, [], ◌∷◌, ◌++◌}
use Rattle.link_model.specs.Mails.{LinkMail, IsPrefixOf}
use Rattle.link_model.specs.Master.{OutHalf, InHalf, InState, out_hold, out_answered, in_answered, in_lost, in_accepts}
use Rattle.link_model.specs.Slave.{OutSide, InSide, Node, Server, node_look, node_take, node_takes, node_offer, node_offers}

-- the master's two halves of a link
pub record Halves (B : Type 0) : Type 0 where
  pub out : OutHalf B
  pub inn : InHalf

-- a link: both halves, the slave, and the mails held, taken, offered and accepted so far
pub record Link (B S : Type 0) : Type 0 where
  pub halves : Halves B
  pub node : Node B S
  pub held : List B
  pub taken : List B
  pub offered : List B
  pub accepted : List B

-- the slave meets the datagram and it returns; it is lost on its way to the slave; or on its way back
pub data Fate : Type 0 where
  Pass : Fate
  LostBefore : Fate
  LostBehind : Fate

-- the slave meets the datagram
abbrev pub is_met : Fate → Bool
is_met Fate.Pass = true
is_met Fate.LostBefore = false
is_met Fate.LostBehind = true

-- a mail is given to the idle outward half; the datagram of the outward half, of the inward half; a step of the
-- slave's processor; a change of the server by itself, as a mail that is given to it or a step of its AL state
pub data Event (B S : Type 0) : Type 0 where
  Hold : B → Event B S
  Out : Fate → Event B S
  In : Fate → Event B S
  Pdi : Event B S
  Change : (S → S) → Event B S

-- mailbox 0 meets the write of a mail
abbrev pub written : {B : Type 0} → OutSide B → Option (LinkMail B) → LinkMail B → OutSide B
written s None m = record s { box = Some m }
written s (Some stands) m = s

-- the counter of that write
abbrev pub write_counter : {B : Type 0} → Option (LinkMail B) → ℕ
write_counter None = 1
write_counter (Some stands) = 0

-- mailbox 0 behind the outward half's datagram
abbrev pub out_side_after : {B : Type 0} → OutSide B → Option (LinkMail B) → Option (LinkMail B) → Fate → OutSide B
out_side_after s None box fate = s
out_side_after s (Some m) box fate = if is_met fate then written s box m else s

-- the outward half behind it
abbrev pub out_half_after : {B : Type 0} → OutHalf B → Option (LinkMail B) → Option (LinkMail B) → Fate → OutHalf B
out_half_after h None box fate = h
out_half_after h (Some m) box Fate.Pass = out_answered h (write_counter box)
out_half_after h (Some m) box Fate.LostBefore = h
out_half_after h (Some m) box Fate.LostBehind = h

-- mailbox 1 meets the datagram of the inward half: a read empties it, the repeat request is written
abbrev pub in_met : {B : Type 0} → InSide B → InState → Bool → InSide B
in_met s InState.Clear bit = record s { box = None }
in_met s InState.Doubt bit = record s { request = bit }
in_met s InState.Asked bit = s
in_met s InState.Refetch bit = record s { box = None }

-- mailbox 1 behind the inward half's datagram, of a half in this state and with this bit
abbrev pub in_side_after : {B : Type 0} → InSide B → InState → Bool → Fate → InSide B
in_side_after s state bit fate = if is_met fate then in_met s state bit else s

-- the inward half behind it: what stood in mailbox 1, and the acknowledge
abbrev pub in_half_after : {B : Type 0} → InHalf → InState → Option (LinkMail B) → Bool → Fate → InHalf
in_half_after h state box acknowledge Fate.Pass = in_answered h state box acknowledge
in_half_after h state box acknowledge Fate.LostBefore = in_lost h state
in_half_after h state box acknowledge Fate.LostBehind = in_lost h state

-- the bodies that it accepts
abbrev pub in_news : {B : Type 0} → InHalf → InState → Option (LinkMail B) → Fate → List B
in_news h state box Fate.Pass = in_accepts h state box
in_news h state box Fate.LostBefore = []
in_news h state box Fate.LostBehind = []

-- an idle half takes the mail up; else nothing changes
abbrev pub held_after : {B S : Type 0} → Link B S → Option (LinkMail B) → B → Link B S
held_after w (Some m) body = w
held_after w None body =
    record w { halves = record w.halves { out = out_hold w.halves.out body }; held = w.held ++ (body ∷ []) }

-- the link behind the outward half's datagram
abbrev pub out_sent : {B S : Type 0} → Link B S → Fate → Link B S
out_sent w fate = record w {
  halves = record w.halves { out = out_half_after w.halves.out w.halves.out.holding w.node.out.box fate };
  node = record w.node { out = out_side_after w.node.out w.halves.out.holding w.node.out.box fate };
}

-- the link behind the inward half's datagram
abbrev pub in_sent : {B S : Type 0} → Link B S → Fate → Link B S
in_sent w fate = record w {
  halves = record w.halves { inn = in_half_after w.halves.inn w.halves.inn.state w.node.inn.box w.node.inn.acknowledge fate };
  node = record w.node { inn = in_side_after w.node.inn w.halves.inn.state w.halves.inn.bit fate };
  accepted = w.accepted ++ in_news w.halves.inn w.halves.inn.state w.node.inn.box fate;
}

-- the processor's step, with the mails that it takes and offers
abbrev pub pdi : {B S : Type 0} → Server B S → Link B S → Link B S
pdi v w =
    let n = node_look w.node in
    let k = node_take v n in
    record w { node = node_offer v k; taken = w.taken ++ node_takes v n; offered = w.offered ++ node_offers v k }

-- the server changed by itself
abbrev pub changed : {B S : Type 0} → Link B S → (S → S) → Link B S
changed w f = record w { node = record w.node { server = f w.node.server } }

-- the link behind an event
abbrev pub happens : {B S : Type 0} → Server B S → Link B S → Event B S → Link B S
happens v w (Event.Hold body) = held_after w w.halves.out.holding body
happens v w (Event.Out fate) = out_sent w fate
happens v w (Event.In fate) = in_sent w fate
happens v w Event.Pdi = pdi v w
happens v w (Event.Change f) = changed w f

-- a run is any list of events
abbrev pub run : {B S : Type 0} → Server B S → Link B S → List (Event B S) → Link B S
run v w [] = w
run v w (e ∷ es) = run v (happens v w e) es

-- the end of bring-up: halves idle and clear, both mailboxes empty, all bits equal, no mail yet
abbrev pub new_link : {B S : Type 0} → S → Link B S
new_link s = record {
  halves = record {
    out = record { last = 0; holding = None };
    inn = record { last = 0; state = InState.Clear; bit = false };
  };
  node = record {
    out = record { box = None; last_taken = 0 };
    inn = record { box = None; offered = None; again = false; last_read = None; withdrawn = None; newest = 0; request = false; acknowledge = false };
    server = s;
  };
  held = [];
  taken = [];
  offered = [];
  accepted = [];
}

-- taken are the first mails held, and accepted the first mails offered
abbrev pub IsInOrder : {B S : Type 0} → Link B S → Type 0
IsInOrder w = IsPrefixOf w.taken w.held × IsPrefixOf w.accepted w.offered
