-- ONE VISIT OF AN OPEN SLAVE, by its master's life of it: what came into hand with it, and what its datagram brought.
use Rattle.std.specs.Prelude.{◌≡◌, ◌⊎◌, ◌==◌, ◌≤◌, ℕ, is_some, Bool, true, false, if◌then◌else◌, Option, Some, None, List, [], ◌∷◌, ⊤}
use Rattle.plan_ring.specs.of_exchange_model.Rows.{Row}
use Rattle.plan_ring.specs.of_life_model.Visits.{Visit, mails_visit, drain_visit}
use Rattle.plan_ring.specs.of_life_model.Lives.{Life, Stand}
use Rattle.plan_ring.specs.of_life_model.Own.{own}
use Rattle.plan_ring.specs.of_link_model.Frames.{Ask, mail_back}
use Rattle.plan_ring.specs.of_link_model.Link.{Halves, Link, write_counter}
use Rattle.plan_ring.specs.of_link_model.Mails.{LinkMail}
use Rattle.plan_ring.specs.of_link_model.Master.{InState}
use Rattle.plan_ring.specs.of_link_model.Slave.{Node, Server}
use Rattle.plan_ring.specs.of_run_frames.Waits.{Waits}
use Rattle.plan_ring.specs.of_segment_model.Ends.{Passing}
use Rattle.plan_ring.specs.of_segment_model.Record.{News, is_for}
use Rattle.plan_ring.specs.of_segment_model.Laws.{IsSettled}
use Rattle.plan_ring.specs.of_segment_model.Slaves.{Datagram, Access, Found, Slave}
use Rattle.plan_ring.specs.of_state_model.Stated.{Service}
use Rattle.plan_ring.specs.of_state_model.Accounts.{Duty, Pick, Stage}
use Rattle.idle_slaves.specs.Waiting.{Wanted, Memory, Coming, MayCome, IsWaiting, IsSpent, link_by, wanted_by, memory_by}

-- mailbox 0 has taken the mail that is passed on
abbrev pub is_boxed : Option Passing → Bool
is_boxed None = false
is_boxed (Some Passing.Waiting) = false
is_boxed (Some Passing.Sent) = false
is_boxed (Some Passing.Boxed) = true
is_boxed (Some Passing.Served) = false
is_boxed (Some Passing.Answered) = false

-- the slave has taken it, and no reply came yet
abbrev pub is_served : Option Passing → Bool
is_served None = false
is_served (Some Passing.Waiting) = false
is_served (Some Passing.Sent) = false
is_served (Some Passing.Boxed) = false
is_served (Some Passing.Served) = true
is_served (Some Passing.Answered) = false

-- what a slave's visits are for, by the state service in hand and by how far a mail that is passed on has come: mailbox 0 is to be seen empty for a service
-- that drains, and for a mail that it has taken
abbrev pub IsFor : Wanted → Option Duty → Option Passing → Type 0
IsFor Wanted.Mails hand passing = (hand ≡ None) × (is_boxed passing ≡ false)
IsFor Wanted.Drains hand passing = ((duty : Duty) × (hand ≡ Some duty) × (duty.stage ≡ Stage.Drains)) ⊎ ((hand ≡ None) × (is_boxed passing ≡ true))

-- the next visit, by that
abbrev pub visit_for : Option Duty → Option Passing → Memory → Bool → Visit
visit_for None passing m holding = if is_boxed passing then drain_visit m.turn else mails_visit m.paused holding
visit_for (Some duty) passing m holding = drain_visit m.turn

-- what the master remembers before it: a state service that came into hand first reads the status of mailbox 0
abbrev pub memory_next : Option Duty → Option Duty → Memory → Memory
memory_next None (Some duty) m = record m { turn = false }
memory_next _ _ m = m

-- by the lives before and behind what came into hand
abbrev pub memory_of : {M Q R : Type 0} → Life M Q R → Life M Q R → Memory → Memory
memory_of old l m = memory_next old.era.account.hand l.era.account.hand m

-- of a life
abbrev pub life_visit : {M Q R : Type 0} → Life M Q R → Memory → Visit
life_visit l m = visit_for l.era.account.hand l.era.passing m (is_some l.era.side.halves.out.holding)

-- A LIFE AND ITS SLAVE AS A LINK: the slave is open, and no state service has drained
pub record Shows {M Q R S : Type 0} (l : Life M Q R) (n : Node M S) (w : Link M S) (q : Wanted) : Type 0 where
  pub halves : w.halves ≡ l.era.side.halves
  pub node : w.node ≡ n
  pub hand : IsFor q l.era.account.hand l.era.passing
  pub stands : l.stand ≡ Stand.Open

-- a datagram as the slave met it, by what the visit was: it found a mailbox as it stands
abbrev pub Meets : {M S : Type 0} → Node M S → Halves M → Visit → Datagram M → Type 0
Meets n h Visit.Write d = (m : LinkMail _) × (h.out.holding ≡ Some m) × (d.gram.ask ≡ Ask.WriteMail m) × (d.gram.counter ≡ write_counter n.out.box) × (d.access ≡ Access.Elsewhere)
Meets n h Visit.Read d = (d.gram.ask ≡ Ask.ReadMail) × (mail_back d.gram ≡ n.inn.box) × (d.access ≡ Access.Elsewhere)
Meets n h Visit.Full d = (d.gram.ask ≡ Ask.Other) × (d.access ≡ Access.ReadFull) × ((d.counter == 0) ≡ false) × (d.found ≡ Some (Found.Full (is_some n.out.box)))

-- THE VISIT'S DATAGRAM CAME BACK: the only one to the slave's station
pub record CameBack {M S : Type 0} (station : ℕ) (n : Node M S) (h : Halves M) (visit : Visit) (back : List (Datagram M)) : Type 0 where
  pub datagram : Datagram M
  pub one : own station back ≡ datagram ∷ []
  pub station_is : datagram.gram.station ≡ station
  pub address : is_for station datagram.address ≡ true
  pub meets : Meets n h visit datagram

-- WHAT A VISIT TELLS of a mail that is passed on: mailbox 0 as it was seen; and mailbox 1, where it was read empty and the slave made a step since something was
-- gained
abbrev pub Tells : {M S : Type 0} → Bool → Node M S → Visit → List (News M) → Type 0
Tells stepped n Visit.Write news = ⊤
Tells stepped n Visit.Read news = stepped ≡ true → n.inn.box ≡ None → news ≡ News.NothingRead ∷ []
Tells stepped n Visit.Full news = news ≡ News.BoxFull (is_some n.out.box) ∷ []

-- SUCH A MAIL CAME NO STEP ON, from the life before a frame to the one behind it, by what the frame tells
pub record IsStill {M Q R S : Type 0} (stepped : Bool) (n : Node M S) (visit : Visit) (news : List (News M)) (l k : Life M Q R) : Type 0 where
  pub tells : is_some l.era.passing ≡ true → Tells stepped n visit news
  pub same : k.era.passing ≡ l.era.passing

-- a mail stands in mailbox 1 only where a service has come into hand
abbrev pub HasRow : {M Q R S : Type 0} → Life M Q R → Node M S → Type 0
HasRow {M} {Q} {R} l n = (b : LinkMail M) → n.inn.box ≡ Some b → (r : Row M Q R) × (l.era.side.now ≡ Some r)

-- a state service doesn't come into hand behind a write in vain behind a step, with nothing gained since
abbrev pub IsUnpaused : {Q : Type 0} → Pick Q → Memory → Waits → Type 0
IsUnpaused pick m t = (target : ℕ) → pick.begin ≡ Some (Service.State target) → 1 ≤ t.tries → m.paused ≡ false

-- A SLAVE THAT WAITS, since something was gained last: its life and its node are such a link; and one that was visited twice in vain behind a step has taken no
-- mail that was passed on and has no reply yet
pub record Waiting {M Q R S : Type 0} (v : Server M S) (l : Life M Q R) (n : Node M S) (m : Memory) (t : Waits) : Type 0 where
  pub link : Link M S
  pub wanted : Wanted
  pub waits : IsWaiting v link wanted m t
  pub shows : Shows l n link wanted
  pub unserved : 2 ≤ t.tries → is_served l.era.passing ≡ false

-- before a visit: the life as it was, and with what came into hand, which is remembered
pub record Chosen {M Q R S : Type 0} (v : Server M S) (old l : Life M Q R) (n : Node M S) (m : Memory) (t : Waits) : Type 0 where
  pub link : Link M S
  pub wanted : Wanted
  pub waits : IsWaiting v link wanted m t
  pub was : Shows old n link wanted
  pub coming : Coming M
  pub may : MayCome coming wanted m t link.halves.out.holding
  pub shows : Shows l n (link_by v link coming) (wanted_by wanted coming)
  pub remembers : memory_of old l m ≡ memory_by m coming
  pub served : is_served l.era.passing ≡ is_served old.era.passing

-- A LIFE WHOSE SLAVE IS SPENT: no mail is held, no state service is in hand, and the slave has nothing left; nor has mailbox 0 or the slave a mail that was
-- passed on and has no reply yet
pub record LifeSpent {M Q R S : Type 0} (v : Server M S) (l : Life M Q R) (n : Node M S) : Type 0 where
  pub link : Link M S
  pub shows : Shows l n link Wanted.Mails
  pub spent : IsSpent v link
  pub unserved : is_served l.era.passing ≡ false

-- WHAT IS LEFT of a slave then: it is settled, and its master has no mail and no state service in hand and nothing in doubt
pub record IsLeft {V M Q R : Type 0} (l : Life M Q R) (n : Slave V M) : Type 0 where
  pub settled : IsSettled n
  pub hand : l.era.account.hand ≡ None
  pub held : l.era.side.halves.out.holding ≡ None
  pub clear : l.era.side.halves.inn.state ≡ InState.Clear
