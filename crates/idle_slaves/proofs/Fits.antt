-- WHAT A SLAVE IS TO ITS MASTER at a frame that came back and gained nothing of it, by whatever session it is.
use Rattle.std.specs.Prelude.{◌≡◌, ◌≢◌, ◌⊎◌, ℕ, Bool, true, false, is_some, Option, Some, None, List, [], ◌∷◌, slice_get, ⊤}
use Rattle.idle_slaves.specs.Eager.{Remembered, NoneLeft, MayBegin, IsEager, RemembersOn}
use Rattle.idle_slaves.specs.EagerFrames.{One, TellsBy}
use Rattle.idle_slaves.specs.Standing.{IsDone}
use Rattle.plan_ring.specs.of_exchange_model.Exchange.{Exchange, Speech}
use Rattle.plan_ring.specs.of_exchange_model.Rows.{Row, left, ends_unheard}
use Rattle.plan_ring.specs.of_frame_view.View.{Lens}
use Rattle.plan_ring.specs.of_slave_model.Moments.{NowAnswered}
use Rattle.idle_slaves.specs.Going.{IsCome}
use Rattle.idle_slaves.specs.Links.{HasLink}
use Rattle.idle_slaves.specs.Visited.{LifeSpent}
use Rattle.plan_ring.specs.of_life_model.Gains.{gains}
use Rattle.plan_ring.specs.of_life_model.Lives.{Era, Life, Spot, Stand, life_next}
use Rattle.plan_ring.specs.of_life_model.Own.{own}
use Rattle.plan_ring.specs.of_life_runs.Led.{Leads, Took, speech_at, is_passed}
use Rattle.plan_ring.specs.of_link_mails.Body.{Body}
use Rattle.plan_ring.specs.of_master_duty.Reply.{Reply}
use Rattle.plan_ring.specs.of_master_hand.Spoken.{Asked, acknowledged, is_followed}
use Rattle.plan_ring.specs.PlanMet.{slave_at, IsMet}
use Rattle.plan_ring.specs.Asked.{asked}
use Rattle.plan_ring.specs.of_run_frames.Clocks.{Clocked}
use Rattle.plan_ring.specs.of_run_frames.Goes.{Under, back_life}
use Rattle.plan_ring.specs.of_run_frames.Waits.{Waits}
use Rattle.plan_ring.specs.of_segment_model.Slaves.{Datagram, serving}
use Rattle.plan_ring.specs.of_segment_plan.declared.service.Service as Plan
use Rattle.plan_ring.specs.of_segment_plan.declared.slave.SlaveSpec.{SlaveSpec}
use Rattle.plan_ring.specs.of_slave_lives.Lived.{table_of}
use Rattle.plan_ring.specs.of_slave_parts.Parts.{Core, Server}
use Rattle.plan_ring.specs.of_protocol_models.Network.{Station}
use Rattle.plan_ring.specs.of_slave_server.Serving.{Serving}
use Rattle.plan_ring.specs.of_slave_server.Spec.{profile_of}
use Rattle.plan_ring.specs.of_slave_node.Node.{Node}
use Rattle.plan_ring.specs.of_state_model.Families.{InState}
use Rattle.plan_ring.specs.of_state_model.Stated.{Service}
use Rattle.plan_ring.specs.of_state_model.States.{Table, Phase}
use Rattle.idle_slaves.specs.Steps.{StepsAlone}
use Rattle.plan_ring.specs.of_state_model.Accounts.{Duty, Pick, Stage}
use Rattle.idle_slaves.specs.WaitEager.{IsResting}

abbrev pub Slave : Type 0
Slave = Clocked Body Asked Reply

-- the exchange that its node runs, and its table of AL states
abbrev pub exchange_at : (ℕ → Lens) → SlaveSpec → Exchange (InState Server) (InState (Station Core)) Body Asked Reply
exchange_at lens s = (asked (profile_of s) s.boot lens).exchange

abbrev pub table_at : (ℕ → Lens) → SlaveSpec → Table
table_at lens s = table_of (asked (profile_of s) s.boot lens) s.station

-- what has its answer was told whole, and each of its mails sent, but for one that ends with an acknowledgement that no reply follows
abbrev pub ToldWhole : Speech Body Asked Reply → (Asked → Bool) → Era Body Asked Reply → Type 0
ToldWhole x ends e =
    e.account.hand ≡ None → (r : Row Body Asked Reply) → e.side.now ≡ Some r → (answer : Reply × ℕ) → r.answer ≡ Some answer → ends_unheard x ends r ≡ false → (left x r ≡ []) × (e.side.fresh ≡ false)

-- AN OPEN SLAVE: its mailboxes agree with its master's halves, its steps and its AL state are by its table; what was heard of its newest service is its answer,
-- and that has it only when it was told whole; where nothing is left of it a service may begin, and each that does has a mail and no answer yet
pub record IsFit (lens : ℕ → Lens) (s : SlaveSpec) (spot : Spot) (l : Life Body Asked Reply) (n : Node Serving) : Type 0 where
  pub here : (slave_at lens s n).registers.station ≡ s.station
  pub link : HasLink l.era.side (slave_at lens s n)
  pub alone : StepsAlone (exchange_at lens s) (asked (profile_of s) s.boot lens).processor (table_at lens s) l.era.account.hand (slave_at lens s n)
  pub come : (duty : Duty) (phase : Phase) → l.era.account.hand ≡ Some duty → duty.stage ≡ Stage.Goes phase → IsCome Body Reply (table_at lens s) duty.target phase (slave_at lens s n).registers
  pub answered : NowAnswered (speech_at lens spot) l.era.side
  pub told : ToldWhole (speech_at lens spot) acknowledged l.era
  pub frees : LifeSpent (serving (exchange_at lens s)) l (slave_at lens s n).node → NoneLeft (speech_at lens spot) l → MayBegin (speech_at lens spot) l
  pub silent : (q : Asked) → (speech_at lens spot).ends q [] ≡ None
  pub first : (q : Asked) → (speech_at lens spot).valid q ≡ true → (speech_at lens spot).planned q [] ≢ []

-- at its station, where it is open
pub record IsSeated (lens : ℕ → Lens) (s : SlaveSpec) (a : Leads) (n : Node Serving) : Type 0 where
  pub station : a.lived.spot.station ≡ s.station
  pub fits : a.lived.life.stand ≡ Stand.Open → IsFit lens s a.lived.spot a.lived.life n

-- of all slaves
abbrev pub AllSeated : (ℕ → Lens) → List SlaveSpec → List Leads → List (Node Serving) → Type 0
AllSeated lens [] [] [] = ⊤
AllSeated lens (s ∷ ss) (a ∷ as') (n ∷ ns) = IsSeated lens s a n × AllSeated lens ss as' ns
AllSeated lens _ _ _ = ⊥

-- the next service of a script
abbrev pub next_of : Leads → Option Plan.Service
next_of a = slice_get a.script a.number

abbrev pub nexts_of : List Leads → List (Option Plan.Service)
nexts_of [] = []
nexts_of (a ∷ as') = next_of a ∷ nexts_of as'

-- all is done of it, or it was given up for good
abbrev pub IsOver : (ℕ → Lens) → SlaveSpec → Slave → Node Serving → Remembered → Option Plan.Service → Type 0
IsOver lens s c n m next = (c.life.stand ≡ Stand.Gone) ⊎ IsDone (serving (exchange_at lens s)) (speech_at lens c.spot) c.life (slave_at lens s n) m next

abbrev pub Rests : (ℕ → Lens) → SlaveSpec → Leads → Node Serving → Remembered → Type 0
Rests lens s a n m = (a.lived.life.stand ≡ Stand.Gone) ⊎ IsResting lens s m a n

module _ (lens : ℕ → Lens) (number : ℕ) (sent back : List (Datagram Body)) where
  -- ONE SLAVE: what came into hand of it, with its script's next service then, and what the frame had for it; what the slave is, and is behind the frame; its
  -- master makes no visit in vain where more could go on; and nothing was gained of it, nor did a mail that is passed on come a step on
  pub record IsReady (s : SlaveSpec) (a : Leads) (c : Slave) (v : Under Body Asked Reply) (next' : Option Plan.Service) (n k : Node Serving) (m m' : Remembered) (t : Waits) : Type 0 where
    pub begun : Option (Service Asked)
    pub pick : Pick Asked
    pub life : v.life ≡ life_next (speech_at lens c.spot) acknowledged is_followed is_passed number c.life c.life.stand pick
    pub wish : pick.begin ≡ begun
    pub took : Took number c.life.era.account v.life.era.account begun
    pub script : next_of a ≡ None → next' ≡ None
    pub own_state : (target : ℕ) → begun ≡ Some (Service.State target) → next_of a ≡ None → ⊥
    pub one : v.life.stand ≡ Stand.Open → v.under ≡ true → One c.spot.station sent
    pub none : v.under ≡ false → own c.spot.station sent ≡ []
    pub station : c.spot.station ≡ s.station
    pub fits : c.life.stand ≡ Stand.Open → IsFit lens s c.spot c.life n
    pub met : c.life.stand ≡ Stand.Open → IsMet lens sent back number c.pace s n k
    pub eager : IsEager (speech_at lens c.spot) c.spot.station sent m v.under begun (next_of a) c.life v.life
    pub remembers : RemembersOn c.spot.station back m m' v.under c.life v.life
    pub same : gains (back_life (speech_at lens) acknowledged is_followed is_passed number back c v) ≡ gains c.life
    pub still : c.life.stand ≡ Stand.Open → (back_life (speech_at lens) acknowledged is_followed is_passed number back c v).era.passing ≡ v.life.era.passing
    pub tells : v.life.stand ≡ Stand.Open → is_some v.life.era.passing ≡ true → (d : Datagram Body) → own c.spot.station back ≡ d ∷ [] → TellsBy t.stepped v.news d
    pub rest : IsOver lens s c n m (next_of a) → Rests lens s a n m

  -- of all slaves
  pub data AllReady : List SlaveSpec → List Leads → List Slave → List (Under Body Asked Reply) → List (Option Plan.Service) → List (Node Serving) → List (Node Serving) → List Remembered → List Remembered → List Waits → Type 0 where
    none : AllReady [] [] [] [] [] [] [] [] [] []
    one : (s : SlaveSpec) (ss : List SlaveSpec) (a : Leads) (as' : List Leads) (c : Slave) (cs : List Slave) (v : Under Body Asked Reply) (vs : List (Under Body Asked Reply)) (next' : Option Plan.Service) (nexts : List (Option Plan.Service))
        (n : Node Serving) (ns : List (Node Serving)) (k : Node Serving) (ks : List (Node Serving)) (m : Remembered) (ms : List Remembered) (m' : Remembered) (ms' : List Remembered) (t : Waits) (ts : List Waits) →
        IsReady s a c v next' n k m m' t → AllReady ss as' cs vs nexts ns ks ms ms' ts →
        AllReady (s ∷ ss) (a ∷ as') (c ∷ cs) (v ∷ vs) (next' ∷ nexts) (n ∷ ns) (k ∷ ks) (m ∷ ms) (m' ∷ ms') (t ∷ ts)
