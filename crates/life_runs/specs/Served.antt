-- A MASTER LEADS THE LIVES OF ITS SLAVES ALSO WHILE MAILS ARE PASSED ON: besides what a run has of each slave there are the mails that wait to be passed
-- on, the one in hand, and by what the record tells which mails of its epoch are new and whether an empty read of mailbox 1 counts.
use Rattle.std.specs.Prelude.{◌≡◌, ◌<◌, ◌≤◌, ◌+◌, ℕ, zero, suc, ◌&&◌, Bool, true, false, Option, Some, None, List, [], ◌∷◌, ◌++◌, map, length, ⊤, if◌then◌else◌}
use Rattle.master_tour.specs.of_datagrams.Datagram as Raw
use Rattle.master_tour.specs.of_datagrams.Frame.{IsFrame, chained}
use Rattle.master_tour.specs.of_frame_view.View.{Lens}
use Rattle.master_tour.specs.of_frame_view.Seen.{seen}
use Rattle.master_tour.specs.of_frame_view.Shares.{Lived, AllBoth, IsNext, Asked, lived_back, lived_lost}
use Rattle.master_tour.specs.of_link_mails.Body.{Body}
use Rattle.master_tour.specs.of_mailbox_mail.declared.mail.Mail.{Mail}
use Rattle.master_tour.specs.of_master_duty.Reply.{Reply}
use Rattle.master_hand.specs.Spoken as Spoken
use Rattle.master_hand.specs.Spoken.{passed, acknowledged, is_followed, is_passed}
use Rattle.master_tour.specs.of_master_side.Passing.{news_back, news_lost}
use Rattle.master_hand.specs.of_segment_plan.declared.plan.Scenario.{Scenario}
use Rattle.master_hand.specs.of_segment_plan.declared.service.Service as Plan
use Rattle.segment_ring.specs.declared.wire.Fate.{Fate}
use Rattle.segment_ring.specs.declared.wire.Fate.TheVariants.{Pass, Lost}
use Rattle.life_runs.specs.First.{first_leads, lens_of}
use Rattle.life_runs.specs.Led.{Comes, Exchanged, Leads, Took, Turn, gives_up_at, missed_behind, speech_at}
use Rattle.master_tour.specs.of_link_model.Segment.{RingFate}
use Rattle.master_hand.specs.of_segment_model.Record.{Frame, Kept, nothing_kept}
use Rattle.master_hand.specs.of_state_model.Stated.{Service}
use Rattle.master_tour.specs.Brings.{accepted_in}
use Rattle.master_tour.specs.of_master_side.Counts.{counts_on, kept_on}
use Rattle.life_runs.specs.Told.{Passed, TellsOwn, told_on}

-- a mail that waits to be passed on, and the key of its asker
pub record Keyed : Type 0 where
  pub key : ℕ
  pub mail : Mail

-- A SLAVE OF A SERVING: as a run has it, with its pace; all mails that were asked of it, those that wait, the oldest first, and the one that was passed on
-- last; the record's counters of its epoch, and whether an empty read counts
pub record Serves : Type 0 where
  pub lead : Leads
  pub pace : ℕ
  pub asked : List Keyed
  pub waits : List Keyed
  pub hand : Option Passed
  pub kept : Kept
  pub counts : Bool

-- the same before a frame, with the mails that still wait then
pub record ServedTurn : Type 0 where
  pub turn : Turn
  pub pace : ℕ
  pub asked : List Keyed
  pub waits : List Keyed
  pub hand : Option Passed
  pub kept : Kept
  pub counts : Bool

-- WHAT COMES INTO HAND: nothing, the next service of the script, or a packet, as in a run; or the oldest of the mails that wait, which is passed on
pub data ServedComes (room : ℕ) (script : List Plan.Service) (waits : List Keyed) (hand : Option Passed) (n : ℕ) : Option (Service Spoken.Asked) → ℕ → List Keyed → Option Passed → Type 0 where
  none : ServedComes room script waits hand n None n waits hand
  own : (s : Service Spoken.Asked) (m : ℕ) → Comes room script n (Some s) m → ServedComes room script waits hand n (Some s) m waits None
  mail : (k : Keyed) (rest : List Keyed) → waits ≡ k ∷ rest → ServedComes room script waits hand n (Some (Service.Mails (passed k.mail))) n rest (Some (record { key = k.key; mail = k.mail; told = [] }))

-- A MAIL IS ASKED of the slave at a place: it waits behind those that do
abbrev pub asked_at : ℕ → Keyed → List Serves → List Serves
asked_at place k [] = []
asked_at zero k (w ∷ ws) = (record w { asked = w.asked ++ k ∷ []; waits = w.waits ++ k ∷ [] }) ∷ ws
asked_at (suc place) k (w ∷ ws) = w ∷ asked_at place k ws

module _ (lens : ℕ → Lens) where
  -- A MAIL MAY BE ASKED of the slave at a place: fewer wait there than may, and it fits the slave's mailbox
  abbrev pub MayAsk : ℕ → Keyed → List Serves → Type 0
  MayAsk place k [] = ⊥
  MayAsk zero k (w ∷ ws) = (length w.waits < 64) × (6 + length k.mail.body.items ≤ (lens w.lead.lived.spot.station).out)
  MayAsk (suc place) k (w ∷ ws) = MayAsk place k ws

  -- A SLAVE BEFORE A FRAME, as in a run, but for what may come into hand
  pub record IsServedTurn (made : ℕ) (ds : List Raw.Datagram) (w : Serves) (v : ServedTurn) : Type 0 where
    pub script : v.turn.script ≡ w.lead.script
    pub comes : ServedComes (lens w.lead.lived.spot.station).out w.lead.script w.waits w.hand w.lead.number v.turn.begun v.turn.number v.waits v.hand
    pub next : IsNext (speech_at lens w.lead.lived.spot) acknowledged is_followed is_passed made w.lead.lived v.turn.lived
    pub begun : next.pick.begin ≡ v.turn.begun
    pub took : Took made w.lead.lived.life.era.account v.turn.lived.life.era.account v.turn.begun
    pub asked : Asked lens ds v.turn.lived v.turn.share
    pub same : v.asked ≡ w.asked
    pub pace : v.pace ≡ w.pace
    pub kept : v.kept ≡ w.kept
    pub counts : v.counts ≡ w.counts

  -- of all slaves
  abbrev pub AllServedTurn : ℕ → List Raw.Datagram → List Serves → List ServedTurn → Type 0
  AllServedTurn made ds [] [] = ⊤
  AllServedTurn made ds (w ∷ ws) (v ∷ vs) = IsServedTurn made ds w v × AllServedTurn made ds ws vs
  AllServedTurn made ds _ _ = ⊥

  -- THE FRAME with this number: its datagrams are just those that the lives ask for
  pub record IsServedFrame (made : ℕ) (octets : List ℕ) (ws : List Serves) (vs : List ServedTurn) : Type 0 where
    pub datagrams : List Raw.Datagram
    pub frame : IsFrame octets (chained datagrams)
    pub each : AllServedTurn made datagrams ws vs

  module _ (recover retry : ℕ) where
    -- a slave's life behind a frame, as in a run, but that a mail in hand which is passed on goes on by the frame's news of the slave
    abbrev pub served_life : Bool → ℕ → Exchanged → Fate → ServedTurn → Lived Spoken.Asked Reply
    served_life gives made f Pass v =
        lived_back (speech_at lens v.turn.lived.spot) acknowledged is_followed is_passed made (seen lens f.back) v.turn.lived v.turn.share (news_back v.turn.lived.spot.station v.kept v.counts (seen lens f.back))
    served_life gives made f (Lost after) v =
        lived_lost (speech_at lens v.turn.lived.spot) acknowledged is_followed is_passed gives recover made (seen lens f.sent) v.turn.lived v.turn.share (news_lost v.turn.lived.spot.station v.kept (seen lens f.sent))

    -- the frame as the record of a slave has it
    abbrev pub recorded : Exchanged → Fate → Frame Body
    recorded f Pass = record { sent = seen lens f.back; fate = RingFate.Back; back = seen lens f.back }
    recorded f (Lost after) = record { sent = seen lens f.sent; fate = RingFate.Lost 0; back = [] }

    -- the mails that the slave's master accepts by it
    abbrev pub accepted_by : Exchanged → Fate → ServedTurn → List Body
    accepted_by f Pass v = accepted_in v.turn.lived.spot v.turn.lived.life (seen lens f.back)
    accepted_by f (Lost after) v = []

    -- a lost frame by which the slave is given up
    abbrev pub gives_it : Bool → Fate → ServedTurn → Bool
    gives_it gives Pass v = false
    gives_it gives (Lost after) v = gives && v.turn.share.under

    -- THE SLAVE BEHIND A FRAME: where it is given up the mails that wait for it are dropped
    abbrev pub served_behind : Bool → ℕ → Exchanged → ServedTurn → Serves
    served_behind gives made f v = record {
      lead = record { script = v.turn.script; number = v.turn.number; lived = served_life gives made f f.fate v };
      pace = v.pace;
      asked = v.asked;
      waits = if gives_it gives f.fate v then [] else v.waits;
      hand = if gives_it gives f.fate v then None else told_on v.turn.lived.life.era.passing (accepted_by f f.fate v) v.hand;
      kept = kept_on v.turn.lived.life.stand v.turn.lived.spot.station v.kept (recorded f f.fate);
      counts = counts_on v.turn.lived.life.stand v.turn.lived.spot.station v.pace made (recorded f f.fate).back v.counts;
    }

    -- THE FRAMES OF A SERVING, one after the other, with mails that are asked between them, and the lives behind
    pub data IsServedLed (first : List Serves) : List Exchanged → ℕ → List Serves → Type 0 where
      start : IsServedLed first [] 0 first
      asks : (fs : List Exchanged) (missed : ℕ) (ws : List Serves) (place : ℕ) (k : Keyed) → IsServedLed first fs missed ws → MayAsk place k ws → IsServedLed first fs missed (asked_at place k ws)
      on : (fs : List Exchanged) (missed : ℕ) (ws : List Serves) (f : Exchanged) (vs : List ServedTurn) → IsServedLed first fs missed ws → IsServedFrame (length fs) f.sent ws vs →
          IsServedLed first (fs ++ f ∷ []) (missed_behind lens recover retry f.fate missed) (map (served_behind (gives_up_at lens recover retry missed) (length fs) f) vs)

-- a slave before the first frame
abbrev pub new_serves : ℕ → Leads → Serves
new_serves pace lead = record { lead = lead; pace = pace; asked = []; waits = []; hand = None; kept = nothing_kept; counts = true }

-- all of them, each with its pace
abbrev pub all_serve : List ℕ → List Leads → List Serves
all_serve paces [] = []
all_serve [] (a ∷ as') = new_serves 1 a ∷ all_serve [] as'
all_serve (pace ∷ paces) (a ∷ as') = new_serves pace a ∷ all_serve paces as'

-- THE FRAMES LEAD, with the mails that were asked, from a plan's new lives to these, with so many lost in a row last
abbrev pub ServeTo : Scenario → List Exchanged → ℕ → List Serves → Type 0
ServeTo plan fs missed ws = IsServedLed (lens_of plan.slaves) plan.recover plan.retry (all_serve plan.paces (first_leads plan)) fs missed ws

-- as a run has it: no mail waits or is in hand that was passed on
pub record IsQuiet (w : Serves) (a : Leads) : Type 0 where
  pub lead : w.lead ≡ a
  pub waits : w.waits ≡ []
  pub unpassed : a.lived.life.era.passing ≡ None

-- each of these
abbrev pub IsRunOf : List Serves → List Leads → Type 0
IsRunOf ws as' = AllBoth IsQuiet ws as'

-- of a slave: what was told of the mail that was passed on last are its own replies
abbrev pub TellsSo : Serves → Type 0
TellsSo w = (p : Passed) → w.hand ≡ Some p → TellsOwn p w.lead.lived.life.era.passing w.lead.lived.life.era.side.now
