-- A SLAVE OF A TOUR AND ITS LIFE, before and behind a frame and while one is made.
use Rattle.std.specs.Prelude.{◌≡◌, ℕ, ◌==◌, if◌then◌else◌, Bool, true, false, is_some, Option, None, List, [], ◌∷◌, length, ⊤}
use Rattle.master_side.specs.of_datagrams.Datagram as Raw
use Rattle.master_side.specs.of_datagrams.Command.{IsNamed}
use Rattle.master_side.specs.of_datagrams.Frame.{IsBegun, IsFrame, Each, chained}
use Rattle.master_side.specs.of_exchange_model.Exchange.{Speech}
use Rattle.master_side.specs.of_frame_view.View.{Lens, datagram_seen}
use Rattle.master_side.specs.of_frame_view.Seen.{datagrams_seen}
use Rattle.master_side.specs.of_frame_view.Frames.{AllNotFor, HasOne}
use Rattle.master_side.specs.of_frame_view.Shares.{Lived, AllFrom, AllThree, IsNext, Asked}
use Rattle.master_side.specs.of_life_model.Lives.{Life, Spot, life_next}
use Rattle.master_side.specs.of_link_mails.Body.{Body}
use Rattle.master_side.specs.of_link_model.Master.{InState}
use Rattle.master_side.specs.of_mailbox_mail.declared.mail.Mail.{Mail}
use Rattle.master_side.specs.of_mailbox_master.declared.halves.InwardHalf.{InwardHalf}
use Rattle.master_side.specs.of_mailbox_master.Links.{OutLink}
use Rattle.master_side.specs.of_mailbox_master.Any.{in_half_of, in_area_len}
use Rattle.master_side.specs.of_master_duty.declared.stage.Met.{Met}
use Rattle.master_side.specs.of_master_duty.Reply.{Reply}
use Rattle.master_side.specs.declared.carried.Carried.{Carried}
use Rattle.master_side.specs.declared.passing.Passing.{Passing}
use Rattle.master_side.specs.of_segment_model.Seats.{Side}
use Rattle.master_side.specs.of_state_model.Stated.{Service}
use Rattle.master_side.specs.of_state_model.Accounts.{Account, Pick}
use Rattle.master_tour.specs.declared.stop.Stand.{Stand}
use Rattle.master_tour.specs.Stands.{StopShows, StandMeant, StandUnder, IsSpot, Counts, stand_gram}

-- an opening has the lengths of its slave's mailboxes
abbrev pub IsSized : Stand → ℕ → ℕ → Type 0
IsSized (Stand.Opening up) out back = (up.out_len ≡ out) × (up.in_len ≡ back)
IsSized Stand.Open out back = ⊤
IsSized Stand.Gone out back = ⊤

-- WHAT THE PLAN SAYS OF A SLAVE: its station, its place, its start state, and the lengths of its mailboxes, which its opening has too
pub record IsPlanned (lens : ℕ → Lens) (spot : Spot) (station place start : ℕ) (stand : Stand) (out back : ℕ) : Type 0 where
  pub stands : IsSpot spot station place start
  pub out_is : (lens station).out ≡ out
  pub back_is : (lens station).back ≡ back
  pub sized : IsSized stand out back

module _ {Q : Type 0} (lens : ℕ → Lens) (recover : ℕ) (shows : Side Body Q Reply → Account Q Reply → Type 0) (station place start : ℕ) (stand : Stand) (spare out back : ℕ) where
  -- THE SLAVE: what its plan says, and its life
  pub record StopLives (a : Lived Q Reply) : Type 0 where
    pub planned : IsPlanned lens a.spot station place start stand out back
    pub shown : StopShows shows recover a.spot stand spare a.life

-- the status of mailbox 0 is read only where the inward half is clear
abbrev pub IsClearFor : Stand → Carried → InwardHalf → Type 0
IsClearFor stand carried inn = stand ≡ Stand.Open → carried ≡ Carried.Full → (in_half_of inn).state ≡ InState.Clear

-- what a frame that is made has of a slave so far: nothing, or the datagram of its visit, at this place
pub data StopHas {Q : Type 0} (lens : ℕ → Lens) (index : ℕ) (spot : Spot) (station : ℕ) (stand : Stand) (out : OutLink (Option Mail)) (inn : InwardHalf) (duty : Option Met) (carried : Carried) (under : Bool) (at : ℕ) (ds : List Raw.Datagram) (l : Life Body Q Reply) : Type 0 where
  none : under ≡ false → AllNotFor spot ds → StopHas lens index spot station stand out inn duty carried under at ds l
  one : under ≡ true → HasOne spot at (stand_gram station index stand out inn duty carried) ds → StandMeant lens station index carried stand l (datagram_seen lens (stand_gram station index stand out inn duty carried)) →
      IsClearFor stand carried inn → StopHas lens index spot station stand out inn duty carried under at ds l

-- a place is among these
abbrev pub is_in : ℕ → List ℕ → Bool
is_in i [] = false
is_in i (p ∷ ps) = if i == p then true else is_in i ps

-- what came into hand of the slaves, by their places: at this one this, and of the others what did before
pub record ComesAt {Q : Type 0} (old new : ℕ → Option (Service Q)) (place : ℕ) (begin : Option (Service Q)) : Type 0 where
  pub here : new place ≡ begin
  pub elsewhere : (k : ℕ) → (k == place) ≡ false → new k ≡ old k

-- THE SLAVE WHILE A FRAME IS MADE, at its place: its life before the frame, by a choice. As long as its visit is still to come no service begins
-- by that, and the frame has none of it; `left` are the places whose visit is, and `begun` says what came into hand, by places
pub record StopMade {Q : Type 0} (x : Speech Body Q Reply) (acknowledged : Q → Bool) (more : Body → Bool) (passed : Q → Bool) (made : ℕ) (begun : ℕ → Option (Service Q)) (lens : ℕ → Lens) (recover index : ℕ) (shows : Side Body Q Reply → Account Q Reply → Type 0)
    (station place start : ℕ) (stand : Stand) (spare : ℕ) (out : OutLink (Option Mail)) (inn : InwardHalf) (duty : Option Met) (carried : Carried) (passing : Option Passing) (under : Bool) (at : ℕ) (left : List ℕ) (ds : List Raw.Datagram) (i : ℕ) (a : Lived Q Reply) : Type 0 where
  pub life : Life Body Q Reply
  pub pick : Pick Q
  pub next : life ≡ life_next x acknowledged more passed made a.life a.life.stand pick
  pub wish : pick.begin ≡ begun a.spot.place
  pub took : Counts made pick.begin a.life life
  pub lives : StopLives lens recover shows station place start stand spare out.len (in_area_len inn) (record { spot = a.spot; life = life })
  pub idle : is_in i left ≡ true → pick.begin ≡ None
  pub waits : is_in i left ≡ true → stand ≡ Stand.Open → is_some life.era.passing ≡ is_some passing
  pub bare : is_in i left ≡ true → under ≡ false
  pub has : StopHas lens index a.spot station stand out inn duty carried under at ds life

-- THE FRAME THAT IS MADE: its datagrams so far, and all slaves
pub record FrameMade {A S : Type 0} (P : List Raw.Datagram → ℕ → A → S → Type 0) (octets : List ℕ) (count : ℕ) (as' : List A) (ss : List S) : Type 0 where
  pub datagrams : List Raw.Datagram
  pub begun : IsBegun octets datagrams
  pub long : length datagrams ≡ count
  pub named : Each (λ d. IsNamed d.head.command) datagrams
  pub each : AllFrom (P datagrams) 0 as' ss

-- THE FRAME IS MADE: its datagrams, and for each slave its life behind the choice
pub record FrameSent {A B S : Type 0} (P : List Raw.Datagram → A → B → S → Type 0) (octets : List ℕ) (as' : List A) (ss : List S) : Type 0 where
  pub datagrams : List Raw.Datagram
  pub frame : IsFrame octets (chained datagrams)
  pub lives : List B
  pub each : AllThree (P datagrams) as' lives ss

-- A SLAVE AND THE FRAME THAT WAS MADE: its life before the frame by some choice, what came into hand by that, which is counted, what the frame has
-- for it, and what the frame under way has of it
pub record StopSent {Q : Type 0} (x : Speech Body Q Reply) (acknowledged : Q → Bool) (more : Body → Bool) (passed : Q → Bool) (made : ℕ) (begun : ℕ → Option (Service Q)) (lens : ℕ → Lens) (recover : ℕ) (shows : Side Body Q Reply → Account Q Reply → Type 0)
    (station place start : ℕ) (stand : Stand) (spare out back : ℕ) (carried : Carried) (under : Bool) (at : ℕ) (ds : List Raw.Datagram) (a b : Lived Q Reply) : Type 0 where
  pub next : IsNext x acknowledged more passed made a b
  pub wish : next.pick.begin ≡ begun a.spot.place
  pub took : Counts made next.pick.begin a.life b.life
  pub asked : Asked lens ds b (record { under = under; at = at })
  pub lives : StopLives lens recover shows station place start stand spare out back b
  pub way : StandUnder lens station at under carried stand b.life (datagrams_seen lens ds)
