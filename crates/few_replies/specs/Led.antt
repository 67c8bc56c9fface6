-- An epoch as its master leads it, which passes mails on: the status of mailbox 0 is read only where nothing is in doubt.
use Rattle.std.specs.Prelude.{◌≡◌, ◌⊎◌, ℕ, zero, suc, ◌&&◌, Bool, true, false, not, if◌then◌else◌, Option, Some, None, List, [], ◌∷◌, ◌++◌, length, ⊤}
use Rattle.slave_parts.specs.of_exchange_model.Exchange.{Exchange, plain, emitted}
use Rattle.slave_parts.specs.of_exchange_model.Rows.{Row}
use Rattle.slave_parts.specs.of_link_model.Frames.{Ask}
use Rattle.slave_parts.specs.of_link_model.Segment.{RingFate}
use Rattle.slave_parts.specs.of_segment_model.Slaves.{Registers, Processor, Slave, Datagram, Access, grams, ring_after, ring_back, ring_steps}
use Rattle.slave_parts.specs.of_segment_model.Record.{Frame, News, frame_news, kept_all, nothing_kept, did_read, without_empty}
use Rattle.slave_parts.specs.of_segment_model.Ends.{Passing}
use Rattle.slave_parts.specs.of_state_model.Accounts.{Pick}
use Rattle.slave_parts.specs.of_life_model.Own.{own, own_fate, own_frame}
use Rattle.slave_parts.specs.of_life_model.Lives.{Spot, Era, AsksOpen, new_era, era_next, era_after}
use Rattle.slave_parts.specs.of_life_model.Eras.{era_frames, opened_slave}
use Rattle.slave_parts.specs.of_serving_model.Tagged.{no_reply}

-- REPLIES COME FIRST: what a server gives for a mail are its replies, and behind them its emissions
abbrev pub RepliesFirst : {V A M Q R : Type 0} → Exchange V A M Q R → Type 0
RepliesFirst {V} {M = M} x = (v : V) (m : M) → (x.serve v m).1 ≡ plain x.speech.emission (x.serve v m).1 ++ emitted x.speech.emission (x.serve v m).1

-- a datagram as octets give it accesses a mailbox or another register, not both
abbrev pub IsSingle : {M : Type 0} → Datagram M → Type 0
IsSingle d = (d.gram.ask ≡ Ask.Other) ⊎ (d.access ≡ Access.Elsewhere)

-- each of these does
abbrev pub AreSingle : {M : Type 0} → List (Datagram M) → Type 0
AreSingle [] = ⊤
AreSingle (d ∷ ds) = IsSingle d × AreSingle ds

-- the slave, alone in its ring, makes a step
abbrev pub has_step : List ℕ → Bool
has_step [] = false
has_step (zero ∷ ks) = true
has_step (suc k ∷ ks) = has_step ks

-- behind a frame an empty read of mailbox 1 counts where the slave made a step since its last done read
abbrev pub counts_behind : {M : Type 0} → ℕ → List ℕ → List (Datagram M) → Bool → Bool
counts_behind station steps back counts = if has_step steps then true else counts && not (did_read station (grams back))

-- the news of a frame, for a mail that is passed on: an empty read that doesn't count is none
abbrev pub counted_news : {M : Type 0} → Bool → List (News M) → List (News M)
counted_news counts ns = if counts then ns else without_empty ns

-- one turn of an epoch: the master's choice, the frame with its fate and what came back of it, the steps behind it, and the slave behind those
pub record EraTurn (V M Q : Type 0) : Type 0 where
  pub pick : Pick Q
  pub sent : List (Datagram M)
  pub fate : RingFate
  pub back : List (Datagram M)
  pub steps : List ℕ
  pub slave : Slave V M

-- the frame of a turn
abbrev pub frame_in : {V M Q : Type 0} → EraTurn V M Q → Frame M
frame_in t = record { sent = t.sent; fate = t.fate; back = t.back }

-- its news of the slave that is opened there
abbrev pub news_in : {V M Q : Type 0} → Spot → ℕ → List (Frame M) → Bool → EraTurn V M Q → List (News M)
news_in spot opened fs counts t =
    counted_news counts (frame_news spot.station (kept_all spot.station nothing_kept (era_frames spot opened (length fs) fs)) (own_frame spot.station spot.place (frame_in t)))

module _ {V A M Q R : Type 0} (x : Exchange V A M Q R) (acknowledged : Q → Bool) (processor : Processor V) (more : M → Bool) (passed : Q → Bool) (spot : Spot) (opened : ℕ) where
  -- the epoch before the frame of a turn, and behind it
  abbrev pub turn_next : List (Frame M) → Era M Q R → EraTurn V M Q → Era M Q R
  turn_next fs e t = era_next x.speech acknowledged more passed (length fs) e t.pick

  -- the epoch behind the frame of a turn
  abbrev pub turn_after : List (Frame M) → Bool → Era M Q R → EraTurn V M Q → Era M Q R
  turn_after fs counts e t =
      era_after x.speech acknowledged more passed spot.station (length fs) (news_in spot opened fs counts t) t.sent t.fate t.back (turn_next fs e t)

  -- a turn that may come: the frame asks of the slave what it may, what came back and the slave behind it are what they are
  pub record MayTurn (fs : List (Frame M)) (e : Era M Q R) (n : Slave V M) (t : EraTurn V M Q) : Type 0 where
    pub asks : AsksOpen spot.station (turn_next fs e t) t.sent
    pub single : AreSingle (own spot.station t.sent)
    pub back : ring_back ((spot.station, n) ∷ []) (own spot.station t.sent) (own_fate spot.place t.fate) ≡ own spot.station t.back
    pub slave : ring_steps x processor (ring_after ((spot.station, n) ∷ []) (own spot.station t.sent) (own_fate spot.place t.fate)) t.steps ≡ (spot.station, t.slave) ∷ []

  -- AN EPOCH AS ITS MASTER LEADS IT, from a server and registers on: its frames, whether an empty read counts, the epoch and its slave
  pub data IsLed (v : V) (r : Registers) : List (Frame M) → Bool → Era M Q R → Slave V M → Type 0 where
    begins : (cleared : Option ℕ) (state : ℕ) (fs : List (Frame M)) → length fs ≡ suc opened → IsLed v r fs true (record (new_era cleared state) { opened = Some opened }) (opened_slave M Q R spot v r)
    goes_on : (fs : List (Frame M)) (counts : Bool) (e : Era M Q R) (n : Slave V M) → IsLed v r fs counts e n → (t : EraTurn V M Q) → MayTurn fs e n t →
        IsLed v r (fs ++ frame_in t ∷ []) (counts_behind spot.station t.steps (own spot.station t.back) counts) (turn_after fs counts e t) t.slave

module _ {V A M Q R : Type 0} (x : Exchange V A M Q R) (passed : Q → Bool) where
  -- A SERVICE OF ONE MAIL that is always answered: whatever the server is, its first gift is a reply
  pub record IsAnswered (q : Q) : Type 0 where
    pub mail : M
    pub planned : (hs : List M) → x.speech.planned q hs ≡ mail ∷ []
    pub passes : passed q ≡ true
    pub first : V → M
    pub rest : V → List M
    pub gives : (v : V) → (x.serve v mail).1 ≡ first v ∷ rest v
    pub replies : (v : V) → x.speech.emission (first v) ≡ false

  -- the row of such a service has heard a reply
  abbrev pub HasHeard : Row M Q R → Type 0
  HasHeard r = IsAnswered r.service → no_reply x.speech.emission r.heard ≡ false

  -- each of these
  abbrev pub AllHeard : List (Row M Q R) → Type 0
  AllHeard [] = ⊤
  AllHeard (r ∷ rs) = HasHeard r × AllHeard rs

  -- the newest too, where its mail is over
  abbrev pub NowHeard : Option Passing → Option (Row M Q R) → Type 0
  NowHeard (Some p) now = ⊤
  NowHeard None None = ⊤
  NowHeard None (Some r) = HasHeard r

  -- NONE IS OVER UNHEARD: of the services that are always answered each that is over heard a reply in its row
  pub record NoneUnheard (e : Era M Q R) : Type 0 where
    pub past : AllHeard e.side.past
    pub now : NowHeard e.passing e.side.now
