-- WHAT IS KEPT OF A REPLY to a mail that is passed on, of the mails that a frame brought back.
use Rattle.std.specs.Prelude.{◌≡◌, ◌≤◌, ℕ, None, List, length}
use Rattle.master_side.specs.of_exchange_model.Exchange.{Speech}
use Rattle.master_side.specs.of_frame_view.Seen.{seen}
use Rattle.master_side.specs.of_frame_view.View.{Lens}
use Rattle.master_side.specs.of_life_model.Lives.{Life, Spot}
use Rattle.master_side.specs.of_link_mails.Body.{Body}
use Rattle.master_side.specs.of_link_model.Frames.{all_accepted}
use Rattle.master_side.specs.of_segment_model.Returned.{Returns}
use Rattle.master_side.specs.of_segment_model.Seats
use Rattle.master_side.specs.of_segment_model.Slaves.{grams}
use Rattle.master_side.specs.of_state_model.Accounts.{Account, duty_access}
use Rattle.master_side.specs.Heard.{Brought}
use Rattle.master_side.specs.Sides.{ShowsOf}
use Rattle.master_side.specs.declared.hand.Hand.{Ghosts}
use Rattle.master_side.specs.of_master_duty.Reply.{Reply}
use Rattle.master_tour.specs.Brings.{accepted_in}
use Rattle.master_tour.specs.Stops.{StopSpot, StopLived, StopUnder}
use Rattle.master_tour.specs.Under.{Under, Grams}
use Rattle.master_tour.specs.declared.stop.Stop.{Stop}

module _ {H : Type 0} {G : Ghosts H} where
  -- THE HAND KEEPS THE MAIL that was accepted as it does by whether a reply of a mail that is passed on was awaited before
  abbrev pub KeepsReply : Stop H G → Stop H G → List Body → Type 0
  KeepsReply s t ms = Brought (G.replied t.side.hand (G.awaits s.side.hand)) t.side.heard ms

  -- of an open slave, behind a frame of which these octets came back
  abbrev pub OpenReplies : List ℕ → Stop H G → Stop H G → Type 0
  OpenReplies octets s t = s.side.heard ≡ None → (x : Speech Body G.Asked Reply) (lens : ℕ → Lens) (d : Seats.Side Body G.Asked Reply) (a : Account G.Asked Reply) → ShowsOf s.side x d a →
      Under s.side.station s.at s.under s.side.carried d.halves (duty_access a.hand) (seen lens octets) → KeepsReply s t (all_accepted s.side.station d.halves (grams (seen lens octets)))

  -- OF EACH SLAVE behind such a frame, by its life before it
  abbrev pub StopReplies : List ℕ → Stop H G → Stop H G → Type 0
  StopReplies octets s t = (lens : ℕ → Lens) (sent : Grams) → Returns sent (seen lens octets) → 1 ≤ length sent → (x : Speech Body G.Asked Reply) (recover : ℕ) (spot : Spot) (l : Life Body G.Asked Reply) →
      StopSpot spot s → StopUnder lens s l sent → StopLived s x recover spot l → KeepsReply s t (accepted_in spot l (seen lens octets))
