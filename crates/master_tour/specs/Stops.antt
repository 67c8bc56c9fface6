-- A SLAVE OF THE TOUR as its stop has it: what it shows of its life, and what a frame has of it.
use Rattle.std.specs.Prelude.{ℕ, Bool, Option, List}
use Rattle.master_side.specs.of_datagrams.Datagram as Raw
use Rattle.master_side.specs.of_frame_view.Shares.{Lived}
use Rattle.master_side.specs.of_exchange_model.Exchange.{Speech}
use Rattle.master_side.specs.of_frame_view.View.{Lens}
use Rattle.master_side.specs.of_life_model.Lives.{Life, Spot}
use Rattle.master_side.specs.of_link_mails.Body.{Body}
use Rattle.master_side.specs.of_state_model.Stated.{Service}
use Rattle.master_side.specs.Sides.{ShowsOf}
use Rattle.master_side.specs.declared.hand.Hand.{Ghosts}
use Rattle.master_side.specs.of_mailbox_master.Any.{in_area_len}
use Rattle.master_side.specs.of_master_duty.Reply.{Reply}
use Rattle.master_tour.specs.Made.{IsSized, StopLives, StopMade, StopSent}
use Rattle.master_tour.specs.Passing.{StandPassing}
use Rattle.master_tour.specs.Stands.{StopShows, FollowShows, IsSpot, StandUnder}
use Rattle.master_tour.specs.Under.{Grams}
use Rattle.master_tour.specs.declared.stop.Stop.{Stop}

module _ {H : Type 0} {G : Ghosts H} where
  -- what the plan says of it
  abbrev pub StopSpot : Spot → Stop H G → Type 0
  StopSpot spot s = IsSpot spot s.side.station s.place s.start

  -- THE SLAVE SHOWS THIS LIFE
  abbrev pub StopLived : Stop H G → Speech Body G.Asked Reply → ℕ → Spot → Life Body G.Asked Reply → Type 0
  StopLived s x recover spot l = StopShows (λ d a. ShowsOf s.side x d a) recover spot s.stand s.spare l

  -- and this one behind it, with what a frame has turned it into
  abbrev pub StopFollows : Stop H G → Speech Body G.Asked Reply → ℕ → Spot → Life Body G.Asked Reply → Life Body G.Asked Reply → Type 0
  StopFollows s x recover spot l m = FollowShows (λ d a. ShowsOf s.side x d a) recover spot s.stand s.spare s.news l m

  -- what the frame under way has of it
  abbrev pub StopUnder : (ℕ → Lens) → Stop H G → Life Body G.Asked Reply → Grams → Type 0
  StopUnder lens s l sent = StandUnder lens s.side.station s.at s.under s.side.carried s.stand l sent

  -- how far a mail has come that is passed on to it
  abbrev pub StopPassing : Stop H G → Life Body G.Asked Reply → Type 0
  StopPassing s l = StandPassing s.stand (G.awaits s.side.hand) s.side.passing l

  -- its opening has the lengths of its mailboxes
  abbrev pub StopSized : Stop H G → Type 0
  StopSized s = IsSized s.stand s.side.out.len (in_area_len s.side.inn)

  -- it is as its plan says and shows this life
  abbrev pub LivesAt : Stop H G → Speech Body G.Asked Reply → (ℕ → Lens) → ℕ → Lived G.Asked Reply → Type 0
  LivesAt s x lens recover a = StopLives lens recover (λ d b. ShowsOf s.side x d b) s.side.station s.place s.start s.stand s.spare s.side.out.len (in_area_len s.side.inn) a

  module _ (s : Stop H G) (x : Spot → Speech Body G.Asked Reply) (more : Body → Bool) (passed : G.Asked → Bool) (made : ℕ) (begun : ℕ → Option (Service G.Asked)) (lens : ℕ → Lens) (recover : ℕ) where
    -- while a frame is made
    abbrev pub MadeBy : ℕ → List ℕ → List Raw.Datagram → ℕ → Lived G.Asked Reply → Type 0
    MadeBy index left ds i a = StopMade (x a.spot) G.acknowledged more passed made begun lens recover index (λ d b. ShowsOf s.side (x a.spot) d b)
        s.side.station s.place s.start s.stand s.spare s.side.out s.side.inn s.side.duty s.side.carried s.side.passing s.under s.at left ds i a

    -- and once it is made
    abbrev pub SentBy : List Raw.Datagram → Lived G.Asked Reply → Lived G.Asked Reply → Type 0
    SentBy ds a b = StopSent (x a.spot) G.acknowledged more passed made begun lens recover (λ d k. ShowsOf s.side (x a.spot) d k)
        s.side.station s.place s.start s.stand s.spare s.side.out.len (in_area_len s.side.inn) s.side.carried s.under s.at ds a b
