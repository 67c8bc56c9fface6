-- A MASTER MAKES NO VISIT IN VAIN where more could go on: what its frame asks an open slave with nothing in doubt, and what is left to do behind a visit.
use Rattle.std.specs.Prelude.{◌≡◌, ◌==◌, Bool, true, false, is_some, Option, Some, None, List, [], ◌∷◌, ℕ, slice_get, ⊤}
use Rattle.plan_ring.specs.of_exchange_model.Exchange.{Speech}
use Rattle.plan_ring.specs.of_exchange_model.Rows.{Row, left}
use Rattle.plan_ring.specs.of_frame_view.View.{Lens}
use Rattle.idle_slaves.specs.Visited.{life_visit, memory_of, visit_for}
use Rattle.idle_slaves.specs.Waiting.{Memory, memory_behind}
use Rattle.plan_ring.specs.of_life_model.Visits.{Visit, drain_visit}
use Rattle.plan_ring.specs.of_life_model.Lives.{Life, Stand}
use Rattle.plan_ring.specs.of_life_model.Own.{own}
use Rattle.plan_ring.specs.of_life_runs.Led.{Leads, Turn, speech_at}
use Rattle.plan_ring.specs.of_link_mails.Body.{Body}
use Rattle.plan_ring.specs.of_link_model.Frames.{Ask}
use Rattle.plan_ring.specs.of_link_model.Link.{Halves}
use Rattle.plan_ring.specs.of_link_model.Mails.{LinkMail}
use Rattle.plan_ring.specs.of_link_model.Master.{InState}
use Rattle.plan_ring.specs.of_master_duty.Reply.{Reply}
use Rattle.plan_ring.specs.of_master_hand.Spoken.{Asked, acknowledged}
use Rattle.plan_ring.specs.of_segment_model.Ends.{Passing}
use Rattle.plan_ring.specs.of_segment_model.Slaves.{Datagram, Access, Found}
use Rattle.plan_ring.specs.of_segment_plan.declared.service.Service as Plan
use Rattle.plan_ring.specs.of_state_model.Stated.{Service}
use Rattle.plan_ring.specs.of_state_model.Accounts.{Duty, Stage, is_free, is_acknowledged, phase_access}

-- what a master remembers of a slave between two frames: of its visits, whether a packet waits at its port, and whether a mail waits to be passed on
pub record Remembered : Type 0 where
  pub memory : Memory
  pub packet : Bool
  pub asked : Bool

-- WHAT THE DATAGRAM OF A VISIT ASKS: it writes the mail held, reads mailbox 1, or reads the status of mailbox 0
abbrev pub AsksVisit : Halves Body → Visit → Datagram Body → Type 0
AsksVisit h Visit.Write d = (m : LinkMail Body) × (h.out.holding ≡ Some m) × (d.gram.ask ≡ Ask.WriteMail m) × (d.access ≡ Access.Elsewhere)
AsksVisit h Visit.Read d = (d.gram.ask ≡ Ask.ReadMail) × (d.access ≡ Access.Elsewhere)
AsksVisit h Visit.Full d = (d.gram.ask ≡ Ask.Other) × (d.access ≡ Access.ReadFull)

-- by the stage of a state service in hand: past its drain it asks by its own access
abbrev pub AsksStage : Halves Body → Memory → ℕ → Stage → Datagram Body → Type 0
AsksStage h m target Stage.Drains d = AsksVisit h (drain_visit m.turn) d
AsksStage h m target (Stage.Goes phase) d = (d.gram.ask ≡ Ask.Other) × (d.access ≡ phase_access target phase)

-- by the state service in hand, and by how far a mail that is passed on has come
abbrev pub AsksFor : Halves Body → Memory → Option Duty → Option Passing → Datagram Body → Type 0
AsksFor h m None passing d = AsksVisit h (visit_for None passing m (is_some h.out.holding)) d
AsksFor h m (Some duty) passing d = AsksStage h m duty.target duty.stage d

-- each of these does
abbrev pub EachAsksFor : Halves Body → Memory → Option Duty → Option Passing → List (Datagram Body) → Type 0
EachAsksFor h m hand passing [] = ⊤
EachAsksFor h m hand passing (d ∷ ds) = AsksFor h m hand passing d × EachAsksFor h m hand passing ds

-- an open slave with nothing in doubt
pub record IsClear (l : Life Body Asked Reply) : Type 0 where
  pub stands : l.stand ≡ Stand.Open
  pub clear : l.era.side.halves.inn.state ≡ InState.Clear

-- nothing is left to tell of its newest service
abbrev pub NoneLeft : Speech Body Asked Reply → Life Body Asked Reply → Type 0
NoneLeft x l = (r : Row Body Asked Reply) → l.era.side.now ≡ Some r → left x r ≡ []

-- a service may begin: none is in hand, nor a mail that is passed on, and the write of the last one's acknowledgement is done
pub record MayBegin (x : Speech Body Asked Reply) (l : Life Body Asked Reply) : Type 0 where
  pub free : is_free x l.era.side l.era.side.now ≡ true
  pub done : is_acknowledged x acknowledged l.era.side l.era.side.now ≡ true
  pub hand : l.era.account.hand ≡ None
  pub passing : l.era.passing ≡ None

-- its script is at its end, and no packet waits at its port, nor a mail to be passed on; `next` is the script's next service
pub record IsAtEnd (next : Option Plan.Service) (m : Remembered) : Type 0 where
  pub script : next ≡ None
  pub packet : m.packet ≡ false
  pub asked : m.asked ≡ false

-- AT ONE FRAME, from the life `old` to `new` before it: nothing comes into hand without a visit; the datagram of a visit is the one that goes on; behind it
-- no mail is left that could be held, and where a service might begin and none did, none is left
pub record IsEager (x : Speech Body Asked Reply) (station : ℕ) (sent : List (Datagram Body)) (m : Remembered) (under : Bool) (begun : Option (Service Asked)) (next : Option Plan.Service) (old new : Life Body Asked Reply) : Type 0 where
  pub begins : under ≡ false → begun ≡ None
  pub asks : IsClear new → EachAsksFor new.era.side.halves (memory_of old new m.memory) new.era.account.hand new.era.passing (own station sent)
  pub takes : under ≡ true → IsClear new → new.era.side.halves.out.holding ≡ None → NoneLeft x new
  pub ends : under ≡ true → IsClear old → MayBegin x old → begun ≡ None → IsAtEnd next m

-- what came back of a visit in vain: mailbox 0 was full, or mailbox 1 empty
abbrev pub IsInVain : Visit → Datagram Body → Type 0
IsInVain Visit.Write d = (d.gram.counter == 0) ≡ true
IsInVain Visit.Read d = ⊤
IsInVain Visit.Full d = ((d.counter == 0) ≡ false) × (d.found ≡ Some (Found.Full true))

-- a state service in hand is not past its drain
abbrev pub IsDraining : Option Duty → Type 0
IsDraining None = ⊤
IsDraining (Some duty) = duty.stage ≡ Stage.Drains

-- BEHIND ONE THAT CAME BACK: what is remembered of a visit in vain, or of none
pub record RemembersOn (station : ℕ) (back : List (Datagram Body)) (m n : Remembered) (under : Bool) (old new : Life Body Asked Reply) : Type 0 where
  pub visited : under ≡ true → IsClear new → IsDraining new.era.account.hand → (d : Datagram Body) → own station back ≡ d ∷ [] →
      (let mem = memory_of old new m.memory in let visit = life_visit new mem in IsInVain visit d → n.memory ≡ memory_behind mem visit)
  pub unvisited : under ≡ false → new.stand ≡ Stand.Open → n.memory ≡ m.memory

-- no packet came to its port, and no mail was asked that is to be passed on
pub record GetsNone (m n : Remembered) : Type 0 where
  pub packet : n.packet ≡ true → m.packet ≡ true
  pub asked : n.asked ≡ true → m.asked ≡ true

-- of all slaves
abbrev pub AllGetNone : List Remembered → List Remembered → Type 0
AllGetNone [] [] = ⊤
AllGetNone (m ∷ ms) (n ∷ ns) = GetsNone m n × AllGetNone ms ns
AllGetNone _ _ = ⊥

abbrev pub AllEager : (ℕ → Lens) → List (Datagram Body) → List Remembered → List Leads → List Turn → Type 0
AllEager lens sent [] [] [] = ⊤
AllEager lens sent (m ∷ ms) (a ∷ as') (u ∷ us) =
    IsEager (speech_at lens a.lived.spot) a.lived.spot.station sent m u.share.under u.begun (slice_get a.script a.number) a.lived.life u.lived.life × AllEager lens sent ms as' us
AllEager lens sent _ _ _ = ⊥

abbrev pub AllRemember : List (Datagram Body) → List Remembered → List Remembered → List Leads → List Turn → Type 0
AllRemember back [] [] [] [] = ⊤
AllRemember back (m ∷ ms) (n ∷ ns) (a ∷ as') (u ∷ us) = RemembersOn a.lived.spot.station back m n u.share.under a.lived.life u.lived.life × AllRemember back ms ns as' us
AllRemember back _ _ _ _ = ⊥
