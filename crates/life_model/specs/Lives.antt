-- THE LIFE OF A SLAVE AS ITS MASTER LEADS IT: it is opened, open for an epoch, returned to Init and opened anew, given up with or without being
-- taken up again. Frames and fates alone move it, and the master's choices.
use Rattle.std.specs.Prelude.{◌≡◌, ◌⊎◌, ℕ, suc, ◌==◌, ◌&&◌, Bool, true, false, nat_lt, if◌then◌else◌, Option, Some, None, List, [], ◌∷◌, ◌++◌, length, ⊤}
use Rattle.state_model.specs.of_exchange_model.Exchange.{Speech}
use Rattle.state_model.specs.of_link_model.Master.{InState}
use Rattle.state_model.specs.of_link_model.Link.{new_link}
use Rattle.state_model.specs.of_link_model.Frames.{IsFrameFor}
use Rattle.state_model.specs.of_link_model.Segment.{RingFate}
use Rattle.state_model.specs.of_segment_model.Slaves.{Datagram, Address, Access, Found, grams}
use Rattle.state_model.specs.of_segment_model.Record.{News}
use Rattle.state_model.specs.of_segment_model.Ends.{Passing, passing_after}
use Rattle.state_model.specs.of_segment_model.Seats.{Side, side_next, side_back, side_lost}
use Rattle.state_model.specs.Stated.{Service}
use Rattle.state_model.specs.Accounts.{Account, Duty, Stage, Pick, IsServed, new_account, mails_choice, account_next, account_back, duty_access}
use Rattle.life_model.specs.Own.{own}

-- an opening under way: bring-up, which has accesses 1 to 5, or a reopening, which first returns the slave to Init and has 1 to 9; the state
-- that it ends in, and whether a state service wanted it
pub record Opening : Type 0 where
  pub again : Bool
  pub step : ℕ
  pub state : ℕ
  pub own : Bool

-- how the master stands to a slave
pub data Stand : Type 0 where
  Opens : Opening → Stand
  Open : Stand
  Gone : Stand

-- an epoch: the frame whose return showed the return to Init, none for the first; the one that showed the AL state that it is to be opened in; that state;
-- and the master's side and account of it, and how far the mail in hand that is passed on has come
pub record Era (M Q R : Type 0) : Type 0 where
  pub cleared : Option ℕ
  pub opened : Option ℕ
  pub state : ℕ
  pub side : Side M Q R
  pub account : Account Q R
  pub passing : Option Passing

-- THE LIFE OF A SLAVE: its epochs, how the master stands to it, and the frames at which it was given up
pub record Life (M Q R : Type 0) : Type 0 where
  pub past : List (Era M Q R)
  pub era : Era M Q R
  pub stand : Stand
  pub gave : List ℕ

-- halves, rows and account as an opening leaves them
abbrev pub new_side : {M Q R : Type 0} → Side M Q R
new_side {M} = record { halves = (new_link {B = M} {S = ⊤} tt).halves; fresh = false; past = []; now = None }

-- an epoch before it is open, with the state that it is to be opened in
abbrev pub new_era : {M Q R : Type 0} → Option ℕ → ℕ → Era M Q R
new_era cleared state = record { cleared = cleared; opened = None; state = state; side = new_side; account = new_account; passing = None }

-- before the first frame
abbrev pub new_life : {M Q R : Type 0} → ℕ → Life M Q R
new_life state = record { past = []; era = new_era None state; stand = Stand.Opens (record { again = false; step = 1; state = state; own = false }); gave = [] }

-- what is known of a slave's plan: its station, its place, the state that it starts in
pub record Spot : Type 0 where
  pub station : ℕ
  pub place : ℕ
  pub start : ℕ

-- the last access of an opening, which reads the status
abbrev pub last_step : Opening → ℕ
last_step o = if o.again then 9 else 5

-- the access by which a return to Init is seen
abbrev pub shows_clear : Opening → Bool
shows_clear o = o.again && o.step == 2

-- the state that such a state service opens: PreOp, or Bootstrap
abbrev pub opens_state : ℕ → ℕ
opens_state target = if target == 1 then 2 else 3

-- a state service with this target returns its slave to Init
abbrev pub returns_to_init : ℕ → Bool
returns_to_init target = if target == 1 then true else target == 3

-- the state is shown, without the error flag
abbrev pub is_shown : ℕ → Option Found → Bool
is_shown state None = false
is_shown state (Some (Found.Full full)) = false
is_shown state (Some (Found.State s None)) = s == state
is_shown state (Some (Found.State s (Some code))) = false

-- an opening goes on to its next access
abbrev pub steps_on : {M Q R : Type 0} → Life M Q R → Opening → Life M Q R
steps_on l o = record l { stand = Stand.Opens (record o { step = suc o.step }) }

-- the return to Init was seen: an epoch ends, and the next begins
abbrev pub clears : {M Q R : Type 0} → ℕ → Life M Q R → Opening → Life M Q R
clears frame l o = record {
  past = l.past ++ l.era ∷ [];
  era = new_era (Some frame) o.state;
  stand = Stand.Opens (record o { step = 3 });
  gave = l.gave;
}

-- the state that was to be opened is shown: the epoch is open
abbrev pub opens : {M Q R : Type 0} → ℕ → Life M Q R → Life M Q R
opens frame l = record l { era = record l.era { opened = Some frame }; stand = Stand.Open }

-- an opening behind an access of it that came back: whether that was done, and what it found
abbrev pub opening_back : {M Q R : Type 0} → ℕ → Life M Q R → Opening → Bool → Option Found → Life M Q R
opening_back frame l o done found =
    if shows_clear o then (if done && is_shown 1 found then clears frame l o else l)
    else if o.step == last_step o then (if done && is_shown o.state found then opens frame l else l)
    else steps_on l o

-- a reopening to this state begins; a state service wanted it, or a give-up
abbrev pub reopening : ℕ → Bool → Stand
reopening state own = Stand.Opens (record { again = true; step = 1; state = state; own = own })

-- a state service that drained and returns its slave to Init begins a reopening
abbrev pub reopens_at : {M Q R : Type 0} → Life M Q R → ℕ → Stage → Life M Q R
reopens_at l target Stage.Drains = l
reopens_at l target (Stage.Goes phase) = if returns_to_init target then record l { stand = reopening (opens_state target) true } else l

-- where there is one
abbrev pub reopens : {M Q R : Type 0} → Life M Q R → Option Duty → Life M Q R
reopens l None = l
reopens l (Some duty) = reopens_at l duty.target duty.stage

-- A GIVE-UP: the first `recover` are followed by a reopening to the start state
abbrev pub gives_up : {M Q R : Type 0} → ℕ → Spot → ℕ → Life M Q R → Life M Q R
gives_up recover spot frame l = record l {
  stand = if nat_lt (length l.gave) recover then reopening spot.start false else Stand.Gone;
  gave = l.gave ++ frame ∷ [];
}

-- a wish is for nothing while a mail that is passed on isn't over
abbrev pub granted : {Q : Type 0} → Option Passing → Pick Q → Pick Q
granted None p = p
granted (Some passing) p = record p { begin = None }

-- a frame reads the status of mailbox 0 of this station
abbrev pub ReadsFull : {M : Type 0} → ℕ → List (Datagram M) → Type 0
ReadsFull station [] = ⊥
ReadsFull station (d ∷ ds) = ((d.address ≡ Address.Station station) × (d.access ≡ Access.ReadFull)) ⊎ ReadsFull station ds

-- WHAT A FRAME MAY HAVE FOR AN OPEN SLAVE: each half's datagram and the access of its state service at most once; the status of mailbox 0, by
-- which a mail that is passed on counts as taken, only where nothing is in doubt
pub record AsksOpen {M Q R : Type 0} (station : ℕ) (e : Era M Q R) (sent : List (Datagram M)) : Type 0 where
  pub halves : IsFrameFor station e.side.halves (grams (own station sent))
  pub served : IsServed station (duty_access e.account.hand) (own station sent)
  pub status : ReadsFull station sent → e.side.halves.inn.state ≡ InState.Clear

-- MAILBOXES ARE ACCESSED, AND SERVICES BEGIN, WHERE THE SLAVE IS OPEN; `more` tells that a mail isn't the last of a reply, and `passed` are the
-- services that pass a mail on
module _ {M Q R : Type 0} (x : Speech M Q R) (acknowledged : Q → Bool) (more : M → Bool) (passed : Q → Bool) where
  -- a mail that is passed on comes into hand
  abbrev pub passing_begins : Option Passing → Account Q R → Account Q R → Option (Service Q) → Option Passing
  passing_begins passing old new (Some (Service.Mails q)) = if passed q && nat_lt (length old.started) (length new.started) then Some Passing.Waiting else passing
  passing_begins passing old new (Some (Service.State target)) = passing
  passing_begins passing old new None = passing

  -- the epoch before a frame, by the master's choice
  abbrev pub era_next : ℕ → Era M Q R → Pick Q → Era M Q R
  era_next frame e pick =
      let p = granted e.passing pick in
      let account = account_next x acknowledged frame e.side e.account p in
      record {
        cleared = e.cleared;
        opened = e.opened;
        state = e.state;
        side = side_next x frame e.side (mails_choice e.account p);
        account = account;
        passing = passing_begins e.passing e.account account p.begin;
      }

  -- THE LIFE BEFORE A FRAME, by the master's choice
  abbrev pub life_next : ℕ → Life M Q R → Stand → Pick Q → Life M Q R
  life_next frame l (Stand.Opens o) pick = l
  life_next frame l Stand.Open pick = record l { era = era_next frame l.era pick }
  life_next frame l Stand.Gone pick = l

  -- how far a mail that is passed on has come behind these news; None where it is over
  abbrev pub passes : Option Passing → List (News M) → Option Passing
  passes None ns = None
  passes (Some p) [] = Some p
  passes (Some p) (n ∷ ns) = passes (passing_after x.emission more p n) ns

  -- the epoch behind a frame that came back, by the slave's own datagrams, and by the news that they are for a mail that is passed on
  abbrev pub era_back : ℕ → ℕ → List (News M) → List (Datagram M) → Era M Q R → Era M Q R
  era_back station frame news back e = record {
    cleared = e.cleared;
    opened = e.opened;
    state = e.state;
    side = side_back x frame station (own station back) e.side;
    account = account_back station frame e.account (own station back);
    passing = passes e.passing news;
  }

  -- and behind a lost one
  abbrev pub era_lost : ℕ → List (News M) → List (Datagram M) → Era M Q R → Era M Q R
  era_lost station news sent e = record {
    cleared = e.cleared;
    opened = e.opened;
    state = e.state;
    side = side_lost station (own station sent) e.side;
    account = e.account;
    passing = passes e.passing news;
  }

  -- and behind a frame of this fate
  abbrev pub era_after : ℕ → ℕ → List (News M) → List (Datagram M) → RingFate → List (Datagram M) → Era M Q R → Era M Q R
  era_after station frame news sent RingFate.Back back e = era_back station frame news back e
  era_after station frame news sent (RingFate.Lost after) back e = era_lost station news sent e

  -- THE LIFE BEHIND A FRAME THAT CAME BACK; `came` is the opening's own datagram, where the frame had it: whether it was done, and what it found
  abbrev pub life_back : ℕ → Spot → List (News M) → List (Datagram M) → Option (Bool × Option Found) → Life M Q R → Stand → Life M Q R
  life_back frame spot news back None l (Stand.Opens o) = l
  life_back frame spot news back (Some came) l (Stand.Opens o) = opening_back frame l o came.0 came.1
  life_back frame spot news back came l Stand.Open = let e = era_back spot.station frame news back l.era in reopens (record l { era = e }) e.account.hand
  life_back frame spot news back came l Stand.Gone = l

  -- and behind a lost one, by which the slave isn't given up
  abbrev pub life_lost : Spot → List (News M) → List (Datagram M) → Life M Q R → Stand → Life M Q R
  life_lost spot news sent l (Stand.Opens o) = l
  life_lost spot news sent l Stand.Open = record l { era = era_lost spot.station news sent l.era }
  life_lost spot news sent l Stand.Gone = l
