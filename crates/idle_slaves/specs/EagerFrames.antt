-- ONE FRAME THAT CAME BACK, for an open slave of a ring.
use Rattle.std.specs.Prelude.{◌≡◌, ◌⊎◌, ◌≤◌, ℕ, suc, ◌%◌, ◌==◌, true, false, is_some, Bool, if◌then◌else◌, Option, Some, None, List, [], ◌∷◌}
use Rattle.plan_ring.specs.of_exchange_model.Exchange.{Exchange, Speech}
use Rattle.idle_slaves.specs.Held.{EndsHeld}
use Rattle.plan_ring.specs.of_slave_model.Moments.{NowAnswered}
use Rattle.idle_slaves.specs.Links.{HasLink}
use Rattle.idle_slaves.specs.Visited.{LifeSpent}
use Rattle.plan_ring.specs.of_life_model.Gains.{gains}
use Rattle.plan_ring.specs.of_life_model.Lives.{Spot, Stand, life_next, era_next}
use Rattle.plan_ring.specs.of_life_model.Own.{own}
use Rattle.plan_ring.specs.of_link_mails.Body.{Body}
use Rattle.plan_ring.specs.of_link_model.Frames.{Ask}
use Rattle.plan_ring.specs.of_master_duty.Reply.{Reply}
use Rattle.plan_ring.specs.of_master_hand.Spoken.{Asked}
use Rattle.plan_ring.specs.of_run_frames.Clocks.{Clocked}
use Rattle.plan_ring.specs.of_run_frames.Goes.{Under, back_life}
use Rattle.plan_ring.specs.of_run_frames.Orders.{is_live}
use Rattle.plan_ring.specs.of_run_frames.Waits.{Waits, waits_on}
use Rattle.plan_ring.specs.of_segment_model.Record.{News}
use Rattle.plan_ring.specs.of_segment_model.Slaves.{Access, Found, Datagram, Address, Processor, Slave, serving, slave_after, slave_steps, frame_after}
use Rattle.plan_ring.specs.of_segment_plan.declared.service.Service as Plan
use Rattle.plan_ring.specs.of_state_model.Stated.{Service}
use Rattle.plan_ring.specs.of_state_model.States.{Table}
use Rattle.idle_slaves.specs.Steps.{StepsAlone}
use Rattle.plan_ring.specs.of_state_model.Accounts.{Pick, starts}
use Rattle.idle_slaves.specs.Eager.{Remembered, IsClear, NoneLeft, MayBegin, IsEager, RemembersOn, GetsNone}
use Rattle.idle_slaves.specs.Standing.{Standing, IsDone}

-- a datagram as it is sent: to the station, and nothing did it yet
pub record IsSent (station : ℕ) (d : Datagram Body) : Type 0 where
  pub station_is : d.gram.station ≡ station
  pub address : d.address ≡ Address.Station station
  pub gram : d.gram.counter ≡ 0
  pub counter : d.counter ≡ 0
  pub found : d.found ≡ None

-- a frame has just one for the slave
pub record One (station : ℕ) (sent : List (Datagram Body)) : Type 0 where
  pub datagram : Datagram Body
  pub is : own station sent ≡ datagram ∷ []
  pub sent_so : IsSent station datagram

-- WHAT ITS RETURN TELLS of a mail that is passed on: mailbox 0 as it was seen; and mailbox 1, where it was read empty and the slave made a step since something
-- was gained
pub record TellsBy (stepped : Bool) (news : List (News Body)) (d : Datagram Body) : Type 0 where
  pub full : (full : Bool) → d.access ≡ Access.ReadFull → d.gram.ask ≡ Ask.Other → (d.counter == 0) ≡ false → d.found ≡ Some (Found.Full full) → news ≡ News.BoxFull full ∷ []
  pub empty : d.access ≡ Access.Elsewhere → d.gram.ask ≡ Ask.ReadMail → (d.gram.counter == 0) ≡ true → stepped ≡ true → news ≡ News.NothingRead ∷ []

module _ {V A : Type 0} (ex : Exchange V A Body Asked Reply) (processor : Processor V) (table : Table) (x : Spot → Speech Body Asked Reply) (acknowledged : Asked → Bool) (more : Body → Bool) (passed : Asked → Bool) (number : ℕ) (sent back : List (Datagram Body)) where
  -- WHAT THE FRAME WAS FOR THE SLAVE: its master's choice, by which nothing was gained, and no mail that is passed on came a step on; its one datagram or none,
  -- which came back as the slave makes it, and what that tells; and the slave behind that and the step of its pace
  pub record FrameAs (c : Clocked Body Asked Reply) (u : Under Body Asked Reply) (t : Waits) (s s' : Slave V Body) : Type 0 where
    pub pick : Pick Asked
    pub life : u.life ≡ life_next (x c.spot) acknowledged more passed number c.life c.life.stand pick
    pub same : gains (back_life x acknowledged more passed number back c u) ≡ gains c.life
    pub still : (back_life x acknowledged more passed number back c u).era.passing ≡ u.life.era.passing
    pub tells : u.life.stand ≡ Stand.Open → is_some u.life.era.passing ≡ true → (d : Datagram Body) → own c.spot.station back ≡ d ∷ [] → TellsBy t.stepped u.news d
    pub one : u.life.stand ≡ Stand.Open → u.under ≡ true → One c.spot.station sent
    pub none : u.under ≡ false → own c.spot.station sent ≡ []
    pub back_is : own c.spot.station back ≡ frame_after c.spot.station s (own c.spot.station sent)
    pub slave : s' ≡ (let k = slave_after c.spot.station s (own c.spot.station sent) in if suc number % c.pace == 0 then slave_steps ex processor k else k)
    pub here : s.registers.station ≡ c.spot.station
    pub alone : StepsAlone ex processor table c.life.era.account.hand s

  -- ITS MASTER MAKES NO VISIT IN VAIN where more could go on: what it does at the frame and remembers behind it; the slave's next service stays none where none
  -- is left; what is spent might begin a service; and where nothing is held or in hand nothing began. A state service that began came into hand, and was left of the
  -- script; and at a write in vain, where one might begin behind it, none is left
  pub record EagerAs (c : Clocked Body Asked Reply) (u : Under Body Asked Reply) (t : Waits) (s s' : Slave V Body) (f : FrameAs c u t s s') (m n : Remembered) (begun : Option (Service Asked)) (next next' : Option Plan.Service) : Type 0 where
    pub wish : f.pick.begin ≡ begun
    pub eager : IsEager (x c.spot) c.spot.station sent m u.under begun next c.life u.life
    pub remembers : RemembersOn c.spot.station back m n u.under c.life u.life
    pub gets : GetsNone m n
    pub script : next ≡ None → next' ≡ None
    pub link : HasLink c.life.era.side s
    pub frees : LifeSpent (serving ex) c.life s.node → NoneLeft (x c.spot) c.life → MayBegin (x c.spot) c.life
    pub settles : u.under ≡ true → IsClear u.life → u.life.era.side.halves.out.holding ≡ None → u.life.era.account.hand ≡ None → begun ≡ None
    pub answered : NowAnswered (x c.spot) c.life.era.side
    pub states : (target : ℕ) → begun ≡ Some (Service.State target) → ((era_next (x c.spot) acknowledged more passed number c.life.era f.pick).account.started ≡ starts c.life.era.account (Service.State target) number) × (next ≡ None → ⊥)
    pub ends : u.under ≡ true → IsClear c.life → EndsHeld (x c.spot) acknowledged (next ≡ None) c.spot.station back u.life (back_life x acknowledged more passed number back c u)

  -- IT STANDS SO BEHIND THE FRAME, and it waits yet or all was done of it before
  pub record StandsOn (c : Clocked Body Asked Reply) (u : Under Body Asked Reply) (s s' : Slave V Body) (m n : Remembered) (next next' : Option Plan.Service) (t : Waits) : Type 0 where
    pub stands : Standing (serving ex) table (x c.spot) acknowledged (back_life x acknowledged more passed number back c u) s' n next' (waits_on number c u t)
    pub waits : ((is_live (back_life x acknowledged more passed number back c u).stand ≡ true) × ((waits_on number c u t).tries ≤ 1)) ⊎ IsDone (serving ex) (x c.spot) c.life s m next
