-- THE WHOLE LIFE OF A SLAVE AS ITS NODE LIVES IT: what holds between all epochs of its life, its node and the frames so far.
use Rattle.std.specs.Prelude.{◌≡◌, ◌⊎◌, ℕ, true, false, List, [], Option, None}
use Rattle.slave_lives.specs.of_exchange_model.Exchange.{IsLawful}
use Rattle.slave_lives.specs.of_link_mails.Body.{Body}
use Rattle.slave_lives.specs.of_segment_model.Record.{Frame}
use Rattle.slave_lives.specs.of_slave_node.Node.{Node}
use Rattle.slave_lives.specs.of_state_model.Stated.{IsStated}
use Rattle.slave_lives.specs.of_state_model.Steady.{IsSteady, NoneToInit, HandToInit}
use Rattle.slave_lives.specs.of_life_model.Lives.{Spot, Era, Opening, Stand, Life, new_era}
use Rattle.slave_lives.specs.of_life_model.Eras.{Clearing}
use Rattle.slave_lives.specs.Ends.{LeftEra, LeftEras, ClearsAs, IsAnswered}
use Rattle.slave_lives.specs.Lived.{Behind, IsBehind, node_seen, LivesEra}
use Rattle.slave_lives.specs.Nodes.{IsRunning}
use Rattle.slave_lives.specs.Opening.{Plan, IsPlan}
use Rattle.slave_lives.specs.Stands.{Closing, opening_again}

-- what stays through a run: the slave's services are those of a session with an AL state, without a mail there is no reply, a return to Init clears them, and
-- its plan
pub record IsWhole {S V A Q R : Type 0} (w : Behind S V A Q R) (c : Clearing V A) (p : Plan) (spot : Spot) : Type 0 where
  pub behind : IsBehind w
  pub none : (q : Q) → w.exchange.speech.ends q [] ≡ None
  pub stated : IsStated w.exchange w.states
  pub tells : (state : ℕ) (v : V) → w.processor.tell state v ≡ w.states.tell state v
  pub clears : ClearsAs w c
  pub plan : IsPlan w.boot w.lens p
  pub station : p.station ≡ spot.station
  pub start : p.start ≡ spot.start

-- and its services owe the laws, which the promises of its epochs ask for
pub record OwesLaws {S V A Q R : Type 0} (w : Behind S V A Q R) (c : Clearing V A) (p : Plan) (spot : Spot) : Type 0 where
  pub whole : IsWhole w c p spot
  pub lawful : IsLawful w.exchange

-- the plan, with the state that an opening opens
abbrev pub plan_to : Plan → ℕ → Plan
plan_to p state = record p { start = state }

-- what a node lives of an epoch, what it left of one that is over, and all that are over, from one application to another
abbrev pub Living : Type 0 → Type 0 → Type 0 → Type 0 → Type 1
Living S A Q R = A → Era Body Q R → List (Frame Body) → Node S → Type 0

-- of one that is over: the server that its slave left
abbrev pub Leaving : Type 0 → Type 0 → Type 0 → Type 0 → Type 1
Leaving S A Q R = A → Era Body Q R → List (Frame Body) → S → Type 0

-- of all that are over
abbrev pub Passing : Type 0 → Type 0 → Type 0 → Type 1
Passing A Q R = List (Frame Body) → A → List (Era Body Q R) → A → Type 0

module _ {S V A Q R : Type 0} (w : Behind S V A Q R) (from : A) (e : Era Body Q R) where
  -- THE NODE LIVES THE NEWEST EPOCH, and the row in hand has the answer of what was heard for it
  pub record LivesBy (E : Living S A Q R) (fs : List (Frame Body)) (n : Node S) : Type 0 where
    pub epoch : E from e fs n
    pub answered : IsAnswered w.exchange.speech e.side.now

  -- while the slave is open no state service of the epoch asked for Init
  pub record LivesOpenBy (E : Living S A Q R) (fs : List (Frame Body)) (n : Node S) : Type 0 where
    pub lives : LivesBy E fs n
    pub over : NoneToInit e.account.over
    pub hand : HandToInit e.account.hand

  -- once its reopening has begun and hasn't reached it, the slave stays up
  pub record LivesStillBy (Y : Living S A Q R) (fs : List (Frame Body)) (n : Node S) : Type 0 where
    pub lives : LivesBy Y fs n
    pub steady : IsSteady (node_seen w n)

  -- THE NEWEST EPOCH HASN'T BEGUN: it is new, and will begin with the application that the slave's server has, in whatever AL state it is seen
  pub record Waits (s : S) : Type 0 where
    pub cleared : Option ℕ
    pub state : ℕ
    pub is_new : e ≡ new_era cleared state
    pub al : ℕ
    pub begins : from ≡ w.exchange.app (w.sees al (w.running.clear s)).server

  -- THE NEWEST EPOCH IS OVER: the slave's server is the one that it left, or that one cleared
  pub record IsOverBy (L : Leaving S A Q R) (fs : List (Frame Body)) (s : S) : Type 0 where
    pub server : S
    pub left : L from e fs server
    pub cleared : w.running.clear s ≡ w.running.clear server

-- WHAT AN OPENING OPENS where the newest epoch waits: the state of that epoch, the first the plan's; or it hasn't returned its slave to Init yet
pub record OpensIts {M Q R : Type 0} (spot : Spot) (e : Era M Q R) (o : Opening) : Type 0 where
  pub first : e.cleared ≡ None → o.state ≡ spot.start
  pub state : ((o.again ≡ true) × ((o.step ≡ 1) ⊎ (o.step ≡ 2))) ⊎ (e.state ≡ o.state)

-- A SLAVE THAT IS OPENED: its epoch is lived yet, as long as no frame reached it with the first access of a reopening; or it is closed, and the
-- newest epoch waits, the first one for the plan's state, or is over and wasn't seen so
pub data OpensBy {S V A Q R : Type 0} (w : Behind S V A Q R) (Y : Living S A Q R) (L : Leaving S A Q R) (p : Plan) (spot : Spot) (from : A) (e : Era Body Q R) (fs : List (Frame Body)) (o : Opening) (n : Node S) : Type 0 where
  yet : o.again ≡ true → o.step ≡ 1 → IsPlan w.boot w.lens (plan_to p o.state) → LivesStillBy w from e Y fs n → OpensBy w Y L p spot from e fs o n
  anew : Closing w.running w.boot w.lens (plan_to p o.state) o n → Waits w from e n.server → OpensIts spot e o → OpensBy w Y L p spot from e fs o n
  over : Closing w.running w.boot w.lens (plan_to p o.state) o n → o.again ≡ true → (o.step ≡ 1) ⊎ (o.step ≡ 2) → IsOverBy w from e L fs n.server → OpensBy w Y L p spot from e fs o n

-- BY HOW THE MASTER STANDS TO IT: one that is given up for good stays as it is before the first access of a reopening, which never comes
abbrev pub StandsBy : {S V A Q R : Type 0} → Behind S V A Q R → Living S A Q R → Living S A Q R → Leaving S A Q R → Plan → Spot → A → Era Body Q R → List (Frame Body) → Stand → Node S → Type 0
StandsBy w E Y L p spot from e fs (Stand.Opens o) n = OpensBy w Y L p spot from e fs o n
StandsBy w E Y L p spot from e fs Stand.Open n = LivesOpenBy w from e E fs n
StandsBy w E Y L p spot from e fs Stand.Gone n = OpensBy w Y L p spot from e fs (opening_again spot.start false) n

-- A LIFE IS LIVED BY ITS NODE up to the last of these frames: all epochs that are over lead from the plan's application to the one with which
-- the newest begins, and the node stands as the master does to it
pub record IsLivedBy {S V A Q R : Type 0} (w : Behind S V A Q R) (E Y : Living S A Q R) (L : Leaving S A Q R) (P : Passing A Q R) (p : Plan) (spot : Spot) (first : A) (l : Life Body Q R) (fs : List (Frame Body)) (n : Node S) : Type 0 where
  pub from : A
  pub past : P fs first l.past from
  pub now : StandsBy w E Y L p spot from l.era fs l.stand n
  pub runs : IsRunning w.running n
  pub boot : n.boot ≡ w.boot

-- BY SESSIONS: each epoch is one of the model
abbrev pub Lives : {S V A Q R : Type 0} → Behind S V A Q R → Spot → A → Era Body Q R → List (Frame Body) → Node S → Type 0
Lives w spot from e fs n = LivesBy w from e (LivesEra w spot) fs n

-- of an open slave
abbrev pub LivesOpen : {S V A Q R : Type 0} → Behind S V A Q R → Spot → A → Era Body Q R → List (Frame Body) → Node S → Type 0
LivesOpen w spot from e fs n = LivesOpenBy w from e (LivesEra w spot) fs n

-- of one whose reopening hasn't reached it
abbrev pub LivesStill : {S V A Q R : Type 0} → Behind S V A Q R → Spot → A → Era Body Q R → List (Frame Body) → Node S → Type 0
LivesStill w spot from e fs n = LivesStillBy w from e (LivesEra w spot) fs n

-- of an epoch that is over
abbrev pub IsOver : {S V A Q R : Type 0} → Behind S V A Q R → Spot → A → Era Body Q R → List (Frame Body) → S → Type 0
IsOver w spot from e fs s = IsOverBy w from e (LeftEra w spot) fs s

-- of one that is opened
abbrev pub OpensAs : {S V A Q R : Type 0} → Behind S V A Q R → Plan → Spot → A → Era Body Q R → List (Frame Body) → Opening → Node S → Type 0
OpensAs w p spot from e fs o n = OpensBy w (LivesEra w spot) (LeftEra w spot) p spot from e fs o n

-- by how the master stands to it
abbrev pub StandsAs : {S V A Q R : Type 0} → Behind S V A Q R → Plan → Spot → A → Era Body Q R → List (Frame Body) → Stand → Node S → Type 0
StandsAs w p spot from e fs stand n = StandsBy w (LivesEra w spot) (LivesEra w spot) (LeftEra w spot) p spot from e fs stand n

-- of a whole life
abbrev pub IsLived : {S V A Q R : Type 0} → Behind S V A Q R → Clearing V A → Plan → Spot → A → Life Body Q R → List (Frame Body) → Node S → Type 0
IsLived w c p spot first l fs n = IsLivedBy w (LivesEra w spot) (LivesEra w spot) (LeftEra w spot) (LeftEras w c.cleared spot) p spot first l fs n
