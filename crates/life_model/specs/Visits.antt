-- THE VISITS OF A SLAVE THAT IS OPEN AND CLEAR, as a master makes them one after the other, against what stands in its mailboxes.
use Rattle.std.specs.Prelude.{ℕ, zero, suc, ◌&&◌, not, is_some, Bool, true, false, if◌then◌else◌, Option, Some, None}
use Rattle.state_model.specs.of_link_model.Mails.{LinkMail}
use Rattle.state_model.specs.of_link_model.Slave.{Server}
use Rattle.state_model.specs.of_link_model.Link.{Link, Fate, Event, happens}
use Rattle.state_model.specs.of_link_model.Gains.{gain_of}

-- the write of the mail held, the read of mailbox 1, or the read of the status of mailbox 0
pub data Visit : Type 0 where
  Write : Visit
  Read : Visit
  Full : Visit

-- for a service by mails: the mail held is written, unless the last write found mailbox 0 full and no read came back since
abbrev pub mails_visit : Bool → Bool → Visit
mails_visit paused holding = if not paused && holding then Visit.Write else Visit.Read

-- where mailbox 0 is to be seen empty, for a state service that drains or a mail that is passed on: its status and mailbox 1 in turn
abbrev pub drain_visit : Bool → Visit
drain_visit turn = if turn then Visit.Read else Visit.Full

-- mailbox 0 is seen empty
abbrev pub empty_gain : {B : Type 0} → Option (LinkMail B) → ℕ
empty_gain None = 1
empty_gain (Some m) = 0

-- what it gains: a write that is done, a mail that is read, or mailbox 0 seen empty
abbrev pub visit_gain : {B S : Type 0} → Link B S → Visit → ℕ
visit_gain w Visit.Write = gain_of w (Event.Out Fate.Pass)
visit_gain w Visit.Read = gain_of w (Event.In Fate.Pass)
visit_gain w Visit.Full = empty_gain w.node.out.box

-- the link behind it
abbrev pub visited : {B S : Type 0} → Server B S → Link B S → Visit → Link B S
visited v w Visit.Write = happens v w (Event.Out Fate.Pass)
visited v w Visit.Read = happens v w (Event.In Fate.Pass)
visited v w Visit.Full = w

-- and behind so many steps of the slave
abbrev pub steps : {B S : Type 0} → Server B S → ℕ → Link B S → Link B S
steps v zero w = w
steps v (suc k) w = steps v k (happens v w Event.Pdi)

-- whether a visit in vain was a write, whether it was the read of the status
abbrev pub is_write : Visit → Bool
is_write Visit.Write = true
is_write Visit.Read = false
is_write Visit.Full = false

-- whether it was the read of the status of mailbox 0
abbrev pub is_full : Visit → Bool
is_full Visit.Write = false
is_full Visit.Read = false
is_full Visit.Full = true

-- the next visit behind one in vain
abbrev pub next_mails : {B S : Type 0} → Link B S → Visit → Visit
next_mails u visit = mails_visit (is_write visit) (is_some u.halves.out.holding)
