-- WHAT IS REMEMBERED of a slave's visits behind a frame that came back, and behind one that was lost.
use Rattle.std.specs.Prelude.{◌≡◌, ◌&&◌, ℕ, Bool, true, false, is_some, None, List}
use Rattle.master_side.specs.of_exchange_model.Exchange.{Speech}
use Rattle.master_side.specs.of_life_model.Lives
use Rattle.master_side.specs.of_life_model.Lives.{Life, Spot}
use Rattle.master_side.specs.of_link_mails.Body.{Body}
use Rattle.master_side.specs.of_segment_model.Slaves.{Datagram}
use Rattle.master_side.specs.of_state_model.Accounts.{Account, account_back}
use Rattle.master_side.specs.Carried.{IsBack, in_hand, one, paused_after, turn_after}
use Rattle.master_side.specs.Due.{EachDue}
use Rattle.master_side.specs.Shown.{DutyShows}
use Rattle.master_side.specs.declared.hand.Hand.{Ghosts}
use Rattle.master_side.specs.declared.side.Side.{Side}
use Rattle.master_side.specs.of_mailbox_master.Any.{in_half_of}
use Rattle.master_side.specs.of_master_duty.Reply.{Reply}
use Rattle.master_tour.specs.Brings.{accepted_in}
use Rattle.master_tour.specs.Under.{Grams, mine}
use Rattle.master_tour.specs.declared.stop.Stand.{Stand}
use Rattle.master_tour.specs.declared.stop.Stop.{Stop}

module _ {H : Type 0} {G : Ghosts H} where
  -- nothing of it changes, and a mail that is passed on isn't over; `knew` and `knows` say whether the hand knows its mails
  abbrev pub SameRecall : Bool → Bool → Side H G → Side H G → Type 0
  SameRecall knew knows s t = (t.paused ≡ s.paused) × (t.turn ≡ s.turn) × (t.duty ≡ s.duty) × (knows ≡ knew) × (is_some t.passing ≡ is_some s.passing)

  -- A VISIT CAME BACK SO: what is remembered, by this counter; and the state service in hand, by its account
  pub record VisitBack {Q : Type 0} (a : Account Q Reply) (b : Datagram Body) (s t : Side H G) : Type 0 where
    pub counter : ℕ
    pub octets : List ℕ
    pub back : IsBack counter octets b
    pub paused : t.paused ≡ paused_after s.carried (in_half_of s.inn).state counter s.paused
    pub turn : t.turn ≡ turn_after s.carried (in_half_of s.inn).state counter s.turn
    pub duty : (frame : ℕ) → DutyShows (in_hand t.duty) (account_back s.station frame a (one b)).hand
    pub unpassed : s.passing ≡ None → t.passing ≡ None

  -- A SLAVE BEHIND A FRAME THAT CAME BACK: an open one by its datagram, if the frame had one; and its hand knows its mails as long as each mail of it is
  -- due. That of an open one knows them behind it only where it did before
  pub record StopBack {Q : Type 0} (x : Speech Body Q Reply) (spot : Spot) (l : Life Body Q Reply) (back : Grams) (knew knows : Bool) (s t : Stop H G) : Type 0 where
    pub visited : s.stand ≡ Stand.Open → s.under ≡ true → (b : Datagram Body) → mine s.side.station back ≡ one b → VisitBack l.era.account b s.side t.side
    pub unvisited : s.stand ≡ Stand.Open → s.under ≡ false → SameRecall knew knows s.side t.side
    pub known : knew ≡ true → (l.stand ≡ Lives.Stand.Open → EachDue x l.era.side.now (accepted_in spot l back)) → knows ≡ true
    pub sure : s.stand ≡ Stand.Open → knows ≡ true → knew ≡ true

  -- BEHIND ONE THAT WAS LOST: nothing changes, unless the slave is given up
  abbrev pub StopLost : Bool → Bool → Bool → Stop H G → Stop H G → Type 0
  StopLost gives knew knows s t = ((gives && s.under) ≡ false → SameRecall knew knows s.side t.side) × (knew ≡ true → knows ≡ true)
