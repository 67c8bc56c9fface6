-- A MASTER LEADS THE LIVES OF ITS SLAVES, frame by frame: what comes into hand of each, what the frame has for it, and what the return or the loss
-- of the frame makes of its life.
use Rattle.std.specs.Prelude.{◌≡◌, ℕ, suc, ◌+◌, ◌%◌, Bool, not, nat_lt, if◌then◌else◌, Option, Some, None, List, [], ◌∷◌, ◌++◌, map, length, slice_get, ⊤}
use Rattle.master_tour.specs.of_datagrams.Datagram as Raw
use Rattle.master_tour.specs.of_datagrams.Frame.{IsFrame, chained}
use Rattle.master_hand.specs.of_protocol_models.EoeClient as EoeClient
use Rattle.master_hand.specs.of_exchange_model.Exchange.{Speech}
use Rattle.master_tour.specs.of_frame_view.View.{Lens}
use Rattle.master_tour.specs.of_frame_view.Seen.{seen}
use Rattle.master_tour.specs.of_frame_view.Frames.{Share}
use Rattle.master_tour.specs.of_frame_view.Shares.{Lived, IsNext, Asked, lived_back, lived_lost}
use Rattle.master_tour.specs.of_life_model.Lives.{Spot, new_life}
use Rattle.master_tour.specs.of_link_mails.Body.{Body}
use Rattle.master_tour.specs.of_master_duty.Reply.{Reply}
use Rattle.master_hand.specs.Spoken as Spoken
use Rattle.master_hand.specs.Spoken.{net, hand_speech, acknowledged, is_followed}
pub use Rattle.master_hand.specs.Spoken.{is_passed}
use Rattle.master_hand.specs.Talk.{asked_of}
use Rattle.master_hand.specs.of_segment_plan.declared.service.Service as Plan
use Rattle.segment_ring.specs.declared.wire.Fate.{Fate}
use Rattle.segment_ring.specs.declared.wire.Fate.TheVariants.{Pass, Lost}
use Rattle.master_hand.specs.of_state_model.Stated.{Service}
use Rattle.master_hand.specs.of_state_model.Accounts.{Account, starts}

-- a frame as it went round: its octets, its fate, and what came back
pub record Exchanged : Type 0 where
  pub sent : List ℕ
  pub fate : Fate
  pub back : List ℕ

-- what a master speaks with a slave, by the lengths of its mailboxes
abbrev pub speech_at : (ℕ → Lens) → Spot → Speech Body Spoken.Asked Reply
speech_at lens spot = hand_speech (record { out = (lens spot.station).out; back = (lens spot.station).back })

-- WHAT COMES INTO HAND of a slave whose mailbox 0 has `room` octets, where `n` is the number of its script's next service: nothing, that service,
-- or a packet; and the number of the next one behind it
pub data Comes (room : ℕ) (script : List Plan.Service) (n : ℕ) : Option (Service Spoken.Asked) → ℕ → Type 0 where
  none : Comes room script n None n
  mails : (s : Plan.Service) (q : Spoken.Asked) → slice_get script n ≡ Some s → asked_of room s ≡ Some q → Comes room script n (Some (Service.Mails q)) (suc n)
  state : (target : ℕ) → slice_get script n ≡ Some (Plan.Service.State target) → Comes room script n (Some (Service.State (target % 16))) (suc n)
  packet : (octets : List ℕ) (frame : ℕ) → Comes room script n (Some (Service.Mails (net (EoeClient.packet octets frame)))) n

-- A SERVICE THAT BEGAN CAME INTO HAND: it is the newest of the account. So none is skipped
abbrev pub Took : {Q R : Type 0} → ℕ → Account Q R → Account Q R → Option (Service Q) → Type 0
Took made old new None = ⊤
Took made old new (Some s) = new.started ≡ starts old s made

-- a slave as its master leads it: its script, the number of the script's next service, and its life
pub record Leads : Type 0 where
  pub script : List Plan.Service
  pub number : ℕ
  pub lived : Lived Spoken.Asked Reply

-- the same before a frame, with what came into hand, and the slave's share of the frame
pub record Turn : Type 0 where
  pub script : List Plan.Service
  pub number : ℕ
  pub begun : Option (Service Spoken.Asked)
  pub lived : Lived Spoken.Asked Reply
  pub share : Share

module _ (lens : ℕ → Lens) where
  -- A SLAVE BEFORE A FRAME: what came into hand was next of its script, or a packet; its life goes on by that, and the frame has for it what the
  -- life asks for
  pub record IsTurn (made : ℕ) (ds : List Raw.Datagram) (a : Leads) (u : Turn) : Type 0 where
    pub script : u.script ≡ a.script
    pub comes : Comes (lens a.lived.spot.station).out a.script a.number u.begun u.number
    pub next : IsNext (speech_at lens a.lived.spot) acknowledged is_followed is_passed made a.lived u.lived
    pub begun : next.pick.begin ≡ u.begun
    pub took : Took made a.lived.life.era.account u.lived.life.era.account u.begun
    pub asked : Asked lens ds u.lived u.share

  -- of all slaves
  abbrev pub AllTurn : ℕ → List Raw.Datagram → List Leads → List Turn → Type 0
  AllTurn made ds [] [] = ⊤
  AllTurn made ds (a ∷ as') (u ∷ us) = IsTurn made ds a u × AllTurn made ds as' us
  AllTurn made ds _ _ = ⊥

  -- THE FRAME with this number: its datagrams are just those that the lives ask for
  pub record IsLedFrame (made : ℕ) (octets : List ℕ) (as' : List Leads) (us : List Turn) : Type 0 where
    pub datagrams : List Raw.Datagram
    pub frame : IsFrame octets (chained datagrams)
    pub each : AllTurn made datagrams as' us

  module _ (recover retry : ℕ) where
    -- a slave's life behind a frame; where `gives` says so, each slave that a lost one carried is given up
    abbrev pub life_behind : Bool → ℕ → Exchanged → Fate → Lived Spoken.Asked Reply → Share → Lived Spoken.Asked Reply
    life_behind gives made f Pass l share = lived_back (speech_at lens l.spot) acknowledged is_followed is_passed made (seen lens f.back) l share []
    life_behind gives made f (Lost after) l share = lived_lost (speech_at lens l.spot) acknowledged is_followed is_passed gives recover made (seen lens f.sent) l share []

    -- the slave with that life, and its script as far as it was before the frame
    abbrev pub led_behind : Bool → ℕ → Exchanged → Turn → Leads
    led_behind gives made f u = record { script = u.script; number = u.number; lived = life_behind gives made f f.fate u.lived u.share }

    -- one lost frame more in a row than `retry`: the slaves that it carried are given up
    abbrev pub gives_up_at : ℕ → Bool
    gives_up_at missed = not (nat_lt missed retry)

    -- how many frames are lost in a row
    abbrev pub missed_behind : Fate → ℕ → ℕ
    missed_behind Pass missed = 0
    missed_behind (Lost after) missed = if nat_lt missed retry then missed + 1 else 0

    -- THE FRAMES OF A RUN, one after the other, and the lives behind them
    pub data IsLed (first : List Leads) : List Exchanged → ℕ → List Leads → Type 0 where
      start : IsLed first [] 0 first
      on : (fs : List Exchanged) (missed : ℕ) (as' : List Leads) (f : Exchanged) (us : List Turn) → IsLed first fs missed as' → IsLedFrame (length fs) f.sent as' us →
          IsLed first (fs ++ f ∷ []) (missed_behind f.fate missed) (map (led_behind (gives_up_at missed) (length fs) f) us)

-- a slave before the first frame
abbrev pub new_leads : List Plan.Service → Spot → Leads
new_leads script spot = record { script = script; number = 0; lived = record { spot = spot; life = new_life spot.start } }
