-- AN OPEN SLAVE WITH NOTHING IN DOUBT, since something was gained last: what its visits asked in vain, and the steps that its processor made.
use Rattle.std.specs.Prelude.{◌≡◌, ◌≤◌, suc, is_some, Bool, true, false, if◌then◌else◌, Option, None, ⊤}
use Rattle.plan_ring.specs.of_life_model.Visits.{Visit, mails_visit, drain_visit, visit_gain, visited}
use Rattle.plan_ring.specs.of_link_model.Agree.{Agrees}
use Rattle.plan_ring.specs.of_link_model.Gains.{NothingLeft}
use Rattle.plan_ring.specs.of_link_model.Link.{Link, Event, happens}
use Rattle.plan_ring.specs.of_link_model.Mails.{LinkMail}
use Rattle.plan_ring.specs.of_link_model.Master.{InState}
use Rattle.plan_ring.specs.of_link_model.Slave.{Server}
use Rattle.plan_ring.specs.of_run_frames.Waits.{Waits, new_waits}

-- what its visits are for: mails are written and heard, or mailbox 0 is to be seen empty
pub data Wanted : Type 0 where
  Mails : Wanted
  Drains : Wanted

-- what its master remembers of them: whether the last write found mailbox 0 full and no read came back since; and whether mailbox 1 is read next, where
-- mailbox 0 is to be seen empty
pub record Memory : Type 0 where
  pub paused : Bool
  pub turn : Bool

-- the next visit, where a mail is held or isn't
abbrev pub visit_by : Wanted → Memory → Bool → Visit
visit_by Wanted.Mails m holding = mails_visit m.paused holding
visit_by Wanted.Drains m holding = drain_visit m.turn

-- behind one that was in vain
abbrev pub memory_behind : Memory → Visit → Memory
memory_behind m Visit.Write = record m { paused = true }
memory_behind m Visit.Read = record { paused = false; turn = false }
memory_behind m Visit.Full = record m { turn = true }

-- WHAT COMES INTO HAND WITH A VISIT: nothing, a mail that is held from then on, or a state service, which drains
pub data Coming (B : Type 0) : Type 0 where
  Nothing : Coming B
  Mail : B → Coming B
  State : Coming B

-- a mail is taken up where none is held; a state service comes into hand where none is, and not behind a write in vain behind a step
abbrev pub MayCome : {B : Type 0} → Coming B → Wanted → Memory → Waits → Option (LinkMail B) → Type 0
MayCome Coming.Nothing q m t holding = ⊤
MayCome (Coming.Mail body) q m t holding = holding ≡ None
MayCome Coming.State q m t holding = (q ≡ Wanted.Mails) × (1 ≤ t.tries → m.paused ≡ false)

-- the link then
abbrev pub link_by : {B S : Type 0} → Server B S → Link B S → Coming B → Link B S
link_by v w Coming.Nothing = w
link_by v w (Coming.Mail body) = happens v w (Event.Hold body)
link_by v w Coming.State = w

-- what the visit is for then
abbrev pub wanted_by : {B : Type 0} → Wanted → Coming B → Wanted
wanted_by q Coming.Nothing = q
wanted_by q (Coming.Mail body) = q
wanted_by q Coming.State = Wanted.Drains

-- a state service first reads the status of mailbox 0
abbrev pub memory_by : {B : Type 0} → Memory → Coming B → Memory
memory_by m Coming.Nothing = m
memory_by m (Coming.Mail body) = m
memory_by m Coming.State = record m { turn = false }

-- and so the visit itself
abbrev pub visit_with : {B S : Type 0} → Server B S → Link B S → Wanted → Memory → Coming B → Visit
visit_with v w q m c = visit_by (wanted_by q c) (memory_by m c) (is_some (link_by v w c).halves.out.holding)

-- IT WAS IN VAIN: nothing was gained by it
abbrev pub IsVain : {B S : Type 0} → Server B S → Link B S → Wanted → Memory → Coming B → Type 0
IsVain v w q m c = visit_gain (link_by v w c) (visit_with v w q m c) ≡ 0

-- a visit counts where the slave made a step before it
abbrev pub tried : Waits → Waits
tried t = record t { tries = if t.stepped then suc t.tries else t.tries }

module _ {B S : Type 0} (v : Server B S) where
  -- THE FRAMES SINCE SOMETHING WAS GAINED, for one slave: the steps of its processor, changes of its server that give it no mail, and visits in vain
  pub data IsWaiting : Link B S → Wanted → Memory → Waits → Type 0 where
    new : (w : Link B S) (q : Wanted) (m : Memory) → Agrees w → w.halves.inn.state ≡ InState.Clear → IsWaiting w q m new_waits
    steps : (w : Link B S) (q : Wanted) (m : Memory) (t : Waits) → IsWaiting w q m t → IsWaiting (happens v w Event.Pdi) q m (record t { stepped = true })
    changes : (w : Link B S) (q : Wanted) (m : Memory) (t : Waits) (f : S → S) → IsWaiting w q m t → v.next (f w.node.server) ≡ v.next w.node.server → IsWaiting (happens v w (Event.Change f)) q m t
    visits : (w : Link B S) (q : Wanted) (m : Memory) (t : Waits) (c : Coming B) → IsWaiting w q m t → MayCome c q m t w.halves.out.holding → IsVain v w q m c →
        IsWaiting (visited v (link_by v w c) (visit_with v w q m c)) (wanted_by q c) (memory_behind (memory_by m c) (visit_with v w q m c)) (tried t)

  -- THE SLAVE IS SPENT: no mail is held for it, none stands in a mailbox or is withdrawn, and it has none to offer
  pub record IsSpent (w : Link B S) : Type 0 where
    pub left : NothingLeft v w
    pub held : w.halves.out.holding ≡ None
    pub clear : w.halves.inn.state ≡ InState.Clear
    pub box : w.node.inn.box ≡ None
    pub offered : w.node.inn.offered ≡ None

  -- and nothing came into hand of it with this visit
  pub record IsIdle (w : Link B S) (q : Wanted) (c : Coming B) : Type 0 where
    pub spent : IsSpent w
    pub wanted : q ≡ Wanted.Mails
    pub nothing : c ≡ Coming.Nothing
