-- What a slave of the tour shows of its life.
use Rattle.std.specs.Prelude.{◌≡◌, ℕ, ◌-◌, ◌%◌, ◌==◌, ◌&&◌, not, nat_lt, Bool, true, false, Option, Some, None, List, ◌++◌, length}
use Rattle.master_side.specs.of_al_state.declared.bringing.BringStep.{BringStep}
use Rattle.master_side.specs.of_al_state.declared.bringing.BringStep.TheVariants.{Watch, Await}
use Rattle.master_side.specs.of_al_state.declared.bringing.BringUp.{BringUp}
use Rattle.master_side.specs.of_al_state.BringUp.{is_behind_init, head_of, octets_of}
use Rattle.master_side.specs.of_datagrams.Frame.{datagram_of}
use Rattle.master_side.specs.of_link_mails.Body.{Body}
use Rattle.master_side.specs.of_segment_model.Slaves.{Datagram, Access, Found}
use Rattle.master_side.specs.of_segment_model.Seats.{Side}
use Rattle.master_side.specs.of_state_model.Accounts.{Account, duty_access}
use Rattle.master_side.specs.of_state_model.Stated.{Service}
use Rattle.master_side.specs.of_exchange_model.Exchange.{Speech}
use Rattle.master_side.specs.of_datagrams.Datagram as Raw
use Rattle.master_side.specs.of_mailbox_mail.declared.mail.Mail.{Mail}
use Rattle.master_side.specs.of_mailbox_master.declared.halves.InwardHalf.{InwardHalf}
use Rattle.master_side.specs.of_mailbox_master.Links.{OutLink}
use Rattle.master_side.specs.of_master_duty.declared.stage.Met.{Met}
use Rattle.master_side.specs.Carried.{Meant}
use Rattle.master_side.specs.Sent.{visit_gram, no_gram}
use Rattle.master_side.specs.Shown.{started_by}
use Rattle.master_side.specs.of_life_model.Lives
use Rattle.master_side.specs.of_life_model.Lives.{Opening, Era, Life, Spot, life_next}
pub use Rattle.master_side.specs.of_frame_view.Openings.{step_number, has_step, opening_of}
pub use Rattle.master_side.specs.of_frame_view.Shares.{came_of, came_at, given_where}
use Rattle.master_side.specs.of_frame_view.View.{Lens, datagram_seen, found_of}
use Rattle.master_side.specs.of_master_duty.Reply.{Reply}
use Rattle.master_side.specs.declared.carried.Carried.{Carried}
use Rattle.master_tour.specs.declared.stop.Stand.{Stand}
use Rattle.master_tour.specs.declared.stop.Turned.{Turned}
use Rattle.master_tour.specs.Under.{Grams, IsAt, Under}

-- until a reopening has shown Init, its slave's mailboxes are those of the epoch before
abbrev pub is_still : BringUp → Bool
is_still up = up.again && not (is_behind_init up.step)

-- its accesses are to this slave
pub record IsOpeningOf (spot : Spot) (up : BringUp) : Type 0 where
  pub step : has_step up ≡ true
  pub state : nat_lt up.start 16 ≡ true
  pub station : up.station ≡ spot.station
  pub place : up.adp ≡ (65536 - spot.place) % 65536

-- what the plan says of a slave
pub record IsSpot (spot : Spot) (station place start : ℕ) : Type 0 where
  pub station_is : station ≡ spot.station
  pub place_is : place ≡ spot.place
  pub start_is : start ≡ spot.start
  pub small : nat_lt start 16 ≡ true

module _ {Q : Type 0} (shows : Side Body Q Reply → Account Q Reply → Type 0) where
  -- the mailboxes of some epoch, of which nothing more counts
  pub record ShowsSome : Type 0 where
    pub side : Side Body Q Reply
    pub account : Account Q Reply
    pub shown : shows side account

  -- the newest epoch, once its slave was seen in Init
  abbrev pub EraShows : Bool → Era Body Q Reply → Type 0
  EraShows true e = ShowsSome
  EraShows false e = shows e.side e.account

  -- an opening: it is at the access in hand
  pub record OpeningShows (spot : Spot) (up : BringUp) (l : Life Body Q Reply) : Type 0 where
    pub own : Bool
    pub stand : l.stand ≡ Lives.Stand.Opens (opening_of up own)
    pub opening : IsOpeningOf spot up
    pub era : EraShows (is_still up) l.era

  -- by how the master stands to it
  abbrev pub StandShows : Spot → Stand → Life Body Q Reply → Type 0
  StandShows spot (Stand.Opening up) l = OpeningShows spot up l
  StandShows spot Stand.Open l = (l.stand ≡ Lives.Stand.Open) × shows l.era.side l.era.account
  StandShows spot Stand.Gone l = l.stand ≡ Lives.Stand.Gone

  -- THE SLAVE: how the master stands to it, with the newest epoch's mailboxes and services, and how often it is still opened anew
  pub record StopShows (recover : ℕ) (spot : Spot) (stand : Stand) (spare : ℕ) (l : Life Body Q Reply) : Type 0 where
    pub stood : StandShows spot stand l
    pub spared : spare ≡ recover - length l.gave
    pub over : stand ≡ Stand.Gone → spare ≡ 0

-- WHAT THE FRAME HAS OF AN OPENING: nothing, or the access in hand, at this place
pub data OpensUnder (lens : ℕ → Lens) (at : ℕ) (under : Bool) (up : BringUp) (sent : Grams) : Type 0 where
  none : under ≡ false → OpensUnder lens at under up sent
  has : (index : ℕ) (b : Datagram Body) → under ≡ true → IsAt at sent b → b ≡ datagram_seen lens (datagram_of (head_of up index) (octets_of up)) → OpensUnder lens at under up sent

-- what it has of a slave, by its stand
abbrev pub StandUnder : {Q : Type 0} → (ℕ → Lens) → ℕ → ℕ → Bool → Carried → Stand → Life Body Q Reply → Grams → Type 0
StandUnder lens station at under carried (Stand.Opening up) l sent = OpensUnder lens at under up sent
StandUnder lens station at under carried Stand.Open l sent = Under station at under carried l.era.side.halves (duty_access l.era.account.hand) sent
StandUnder lens station at under carried Stand.Gone l sent = under ≡ false

-- an opening is under way
abbrev pub is_opening : Lives.Stand → Bool
is_opening (Lives.Stand.Opens o) = true
is_opening Lives.Stand.Open = false
is_opening Lives.Stand.Gone = false

-- the slave is open
abbrev pub is_open : Lives.Stand → Bool
is_open (Lives.Stand.Opens o) = false
is_open Lives.Stand.Open = true
is_open Lives.Stand.Gone = false

-- what changed: one give-up more, one epoch more, or an opening that ended
abbrev pub turned_by : Bool → Bool → Bool → Option Turned
turned_by true clears opens = Some Turned.GivenUp
turned_by false true opens = Some Turned.Cleared
turned_by false false true = Some Turned.Opened
turned_by false false false = None

-- WHAT A FRAME HAS TURNED A LIFE INTO
abbrev pub turned : {Q : Type 0} → Life Body Q Reply → Life Body Q Reply → Option Turned
turned l m = turned_by (nat_lt (length l.gave) (length m.gave)) (nat_lt (length l.past) (length m.past)) (is_opening l.stand && is_open m.stand)

-- the life that follows, with what it was turned into
pub record FollowShows {Q : Type 0} (shows : Side Body Q Reply → Account Q Reply → Type 0) (recover : ℕ) (spot : Spot) (stand : Stand) (spare : ℕ) (news : Option Turned) (l m : Life Body Q Reply) : Type 0 where
  pub shown : StopShows shows recover spot stand spare m
  pub told : news ≡ turned l m

-- the access reads the AL status
abbrev pub is_reading : BringStep → Bool
is_reading Watch = true
is_reading Await = true
is_reading _ = false

-- what came back of an access, by the working counter and the octets of its datagram; a status has six octets
pub record IsMet (up : BringUp) (counter : ℕ) (body : List ℕ) (came : Bool × Option Found) : Type 0 where
  pub done : is_reading up.step ≡ true → came.0 ≡ (counter == 1)
  pub found : is_reading up.step ≡ true → came.1 ≡ found_of Access.ReadState counter body
  pub whole : is_reading up.step ≡ true → length body ≡ 6

-- the datagram of a slave's visit, by its stand
abbrev pub stand_gram : ℕ → ℕ → Stand → OutLink (Option Mail) → InwardHalf → Option Met → Carried → Raw.Datagram
stand_gram station index (Stand.Opening up) out inn duty carried = datagram_of (head_of up index) (octets_of up)
stand_gram station index Stand.Open out inn duty carried = visit_gram station index out inn duty carried
stand_gram station index Stand.Gone out inn duty carried = no_gram

-- what it means: an opening's access in hand, or what its mailboxes and services ask
abbrev pub StandMeant : {Q : Type 0} → (ℕ → Lens) → ℕ → ℕ → Carried → Stand → Life Body Q Reply → Datagram Body → Type 0
StandMeant lens station index carried (Stand.Opening up) l d = d ≡ datagram_seen lens (datagram_of (head_of up index) (octets_of up))
StandMeant lens station index carried Stand.Open l d = Meant station carried l.era.side.halves (duty_access l.era.account.hand) d
StandMeant lens station index carried Stand.Gone l d = ⊥

-- what comes into hand before a frame is counted as the account's newest
abbrev pub Counts : {Q : Type 0} → ℕ → Option (Service Q) → Life Body Q Reply → Life Body Q Reply → Type 0
Counts made begin l m = m.era.account.started ≡ l.era.account.started ++ started_by made begin

-- THE LIFE BEFORE A FRAME: this comes into hand, where something does, and the next mail is taken up, or none is
pub record NextShows {Q : Type 0} (x : Speech Body Q Reply) (acknowledged : Q → Bool) (more : Body → Bool) (passed : Q → Bool) (made : ℕ) (l : Life Body Q Reply) (begin : Option (Service Q)) (P : Life Body Q Reply → Type 0) : Type 0 where
  pub hold : Bool
  pub shown : P (life_next x acknowledged more passed made l l.stand (record { begin = begin; hold = hold }))
  pub took : Counts made begin l (life_next x acknowledged more passed made l l.stand (record { begin = begin; hold = hold }))

-- the life before a frame in which no service begins: the next mail is taken up, or none is
pub record HoldShows {Q : Type 0} (x : Speech Body Q Reply) (acknowledged : Q → Bool) (more : Body → Bool) (passed : Q → Bool) (made : ℕ) (l : Life Body Q Reply) (P : Life Body Q Reply → Type 0) : Type 0 where
  pub hold : Bool
  pub shown : P (life_next x acknowledged more passed made l l.stand (record { begin = None; hold = hold }))
