-- A RUN IN WHICH NO SLAVE IS GIVEN UP OR RETURNED TO INIT: each slave stays in its first epoch, and the books of all of them.
use Rattle.std.specs.Prelude.{◌≡◌, ℕ, suc, ◌&&◌, Bool, false, None, List, [], ◌∷◌, ⊤}
use Rattle.run_frames.specs.of_datagrams.Datagram as Raw
use Rattle.slave_server.specs.of_protocol_models.Network.{Station}
use Rattle.whole_ring.specs.of_frame_view.View.{Lens}
use Rattle.slave_server.specs.of_link_mails.Body.{Body}
use Rattle.slave_server.specs.of_segment_model.Laws.{IsSettled, WantsNothing}
use Rattle.slave_server.specs.of_segment_model.Record.{Frame}
use Rattle.slave_server.specs.of_segment_plan.declared.slave.SlaveSpec.{SlaveSpec}
use Rattle.run_frames.specs.of_segment_ring.declared.wire.Fate.{Fate}
use Rattle.run_frames.specs.of_segment_ring.declared.wire.Fate.TheVariants.{Pass, Lost}
use Rattle.slave_server.specs.of_state_model.Families.{InState}
use Rattle.slave_server.specs.of_state_model.Promise.{services_in}
use Rattle.whole_ring.specs.of_life_model.Lives.{Stand}
use Rattle.run_frames.specs.of_master_duty.Reply as Master
use Rattle.run_frames.specs.of_master_hand.Spoken as Spoken
use Rattle.whole_ring.specs.of_life_model.Script.{Addressed, HaveBegun, SlaveRun, RunRests, RunDone}
use Rattle.plan_ring.specs.Rows.{WishStays, IsFirst}
use Rattle.plan_ring.specs.KeptFirst.{setting_of, FirstBook}
use Rattle.whole_ring.specs.of_slave_lives.Lived.{node_seen}
use Rattle.slave_server.specs.of_slave_parts.Parts.{Core, Server}
use Rattle.whole_ring.specs.Members.{AllLived}
use Rattle.plan_ring.specs.Plan.{PlanMember, FitsPlan, step}
use Rattle.plan_ring.specs.Master.{owed, AllLed, Under, IsUnder, AllUnder}

-- each life is in its first epoch
abbrev pub AllFirst : ℕ → List PlanMember → Type 0
AllFirst made [] = ⊤
AllFirst made (m ∷ ms) = IsFirst made m.life × AllFirst made ms

-- no frame by which a slave is given up carried it
abbrev pub NotGiven : Bool → Fate → Under → Type 0
NotGiven gives Pass u = ⊤
NotGiven gives (Lost after) u = (gives && u.share.under) ≡ false

module _ (more : Body → Bool) (passed : Spoken.Asked → Bool) (lens : ℕ → Lens) (made : ℕ) (ds : List Raw.Datagram) where
  -- THE FRAME LEAVES A SLAVE IN ITS EPOCH: what was chosen before it returns the slave nowhere, and the slave isn't given up by it
  pub record Stays (gives : Bool) (fate : Fate) (m : PlanMember) (u : Under) (x : IsUnder more passed lens made ds m u) : Type 0 where
    pub wish : WishStays x.next.pick.begin
    pub given : NotGiven gives fate u

  -- all of them
  abbrev pub AllStay : (gives : Bool) (fate : Fate) (ms : List PlanMember) (us : List Under) → AllUnder more passed lens made ds ms us → Type 0
  AllStay gives fate [] [] xs = ⊤
  AllStay gives fate [] (u ∷ us) xs = ⊥
  AllStay gives fate (m ∷ ms) [] xs = ⊥
  AllStay gives fate (m ∷ ms) (u ∷ us) xs = Stays gives fate m u xs.0 × AllStay gives fate ms us xs.1

-- A SLAVE OF A RUN by plan
abbrev pub PlanRun : Type 0
PlanRun = SlaveRun (InState Server) (InState (Station Core)) Body Spoken.Asked Master.Reply

module _ (lens : ℕ → Lens) (ss : List SlaveSpec) (more : Body → Bool) (fs : List (Frame Body)) where
  -- each slave is open
  abbrev pub AllOpen : List PlanMember → Type 0
  AllOpen [] = ⊤
  AllOpen (m ∷ ms) = (m.life.stand ≡ Stand.Open) × AllOpen ms

  -- THE BOOKS OF ALL SLAVES
  abbrev pub AllBooks : (place : ℕ) (ms : List PlanMember) → AllLived lens step (FitsPlan ss) fs place ms → AllLed ms → Type 0
  AllBooks place [] lives led = ⊤
  AllBooks place (m ∷ ms) lives led = FirstBook m.services m.clearing m.plan m.spot (owed m lives.0.whole led.0) led.0.forgets more m.first m.life fs m.node × AllBooks (suc place) ms lives.1 led.1

  -- and their runs, with what is addressed to each
  abbrev pub runs_of : (place : ℕ) (ms : List PlanMember) (lives : AllLived lens step (FitsPlan ss) fs place ms) (led : AllLed ms) → AllBooks place ms lives led → List (Addressed Spoken.Asked) → List PlanRun
  runs_of place [] lives led books as' = []
  runs_of place (m ∷ ms) lives led books [] = []
  runs_of place (m ∷ ms) lives led books (a ∷ as') =
      record { setting = setting_of m.services m.clearing m.plan m.spot (owed m lives.0.whole led.0) led.0.forgets more fs; book = books.0.book; addressed = a } ∷ runs_of (suc place) ms lives.1 led.1 books.1 as'

  -- NOTHING IS WANTED OF A SLAVE, and all that is addressed to it came into hand
  pub record IsAtRest (m : PlanMember) (a : Addressed Spoken.Asked) : Type 0 where
    pub settled : IsSettled (node_seen m.services m.node)
    pub wants : WantsNothing m.services.exchange.speech m.life.era.side
    pub hand : m.life.era.account.hand ≡ None
    pub begun : HaveBegun a (services_in m.life.era.account.started)

  -- of all of them
  abbrev pub AllAtRest : List PlanMember → List (Addressed Spoken.Asked) → Type 0
  AllAtRest [] [] = ⊤
  AllAtRest (m ∷ ms) (a ∷ as') = IsAtRest m a × AllAtRest ms as'
  AllAtRest _ _ = ⊥

  -- NOTHING IS LEFT OF THE RUN, AND ALL IS DONE, where all packets of the host arrived if any slave is live
  pub record RunEnds {P : Type 0} (place : ℕ) (ms : List PlanMember) (lives : AllLived lens step (FitsPlan ss) fs place ms) (led : AllLed ms) (books : AllBooks place ms lives led) (as' : List (Addressed Spoken.Asked)) (host arrived : List P) : Type 0 where
    pub rests : RunRests (runs_of place ms lives led books as') host arrived
    pub done : RunDone (runs_of place ms lives led books as') host arrived
