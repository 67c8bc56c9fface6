-- Where no slave of a master is live each that it leads was given up for good.
use Rattle.std.proofs.Common.{◌≡◌, refl, ℕ, Bool, true, false, List, [], ◌∷◌, map}
use Rattle.std.specs.Prelude.{◌||◌, ⊤}
use Rattle.std.specs.List.{list_any}
use Rattle.plan_ring.specs.of_frame_view.View.{Lens}
use Rattle.plan_ring.specs.of_frame_view.Shares.{AllBoth}
use Rattle.served_places.specs.of_life_model.Lives
use Rattle.served_places.specs.of_life_model.Lives.{Spot, Life}
use Rattle.served_places.specs.of_life_runs.Led.{Leads}
use Rattle.served_places.specs.of_link_mails.Body.{Body}
use Rattle.served_places.specs.of_master_duty.Reply.{Reply}
use Rattle.served_places.specs.of_master_hand.Spoken.{Asked}
use Rattle.served_places.specs.of_master_hand.declared.hand.InHand.{InHand}
use Rattle.packets_heard.specs.of_master_node.Shows.{IsLived, lived_of, side_shows}
use Rattle.served_places.specs.of_master_side.declared.hand.Hand.{Ghosts}
use Rattle.served_places.specs.of_master_tour.Goes.{is_live}
use Rattle.served_places.specs.of_master_tour.Stands.{StandShows}
use Rattle.served_places.specs.of_master_tour.declared.stop.Stand.{Stand}
use Rattle.served_places.specs.of_master_tour.declared.stop.Stop.{Stop}
use Rattle.served_places.specs.of_segment_model.Seats.{Side}
use Rattle.served_places.specs.of_state_model.Accounts.{Account}

-- each was given up for good
abbrev pub AllGone : List Leads → Type 0
AllGone [] = ⊤
AllGone (a ∷ as') = (a.lived.life.stand ≡ Lives.Stand.Gone) × AllGone as'

gone_stand : (shows : Side Body Asked Reply → Account Asked Reply → Type 0) (spot : Spot) (stand : Stand) (l : Life Body Asked Reply) → is_live stand ≡ false → StandShows shows spot stand l → l.stand ≡ Lives.Stand.Gone
gone_stand shows spot (Stand.Opening up) l e x = absurd (let bad : true ≡ false = e in cc)
gone_stand shows spot Stand.Open l e x = absurd (let bad : true ≡ false = e in cc)
gone_stand shows spot Stand.Gone l e x = x

pub first_false : (a b : Bool) → (a || b) ≡ false → a ≡ false
first_false true b e = e
first_false false b e = refl

pub second_false : (a b : Bool) → (a || b) ≡ false → b ≡ false
second_false true b e = absurd (let bad : true ≡ false = e in cc)
second_false false b e = e

pub all_gone : {G : Ghosts InHand} (lens : ℕ → Lens) (recover : ℕ) (as' : List Leads) (ss : List (Stop InHand G)) → AllBoth (λ a s. IsLived lens recover a s) (map lived_of as') ss → list_any (λ (s : Stop InHand G). is_live s.stand) ss ≡ false → AllGone as'
all_gone lens recover [] [] x e = tt
all_gone lens recover [] (s ∷ ss) x e = absurd x
all_gone lens recover (a ∷ as') [] x e = absurd x
all_gone {G} lens recover (a ∷ as') (s ∷ ss) x e = (
  gone_stand (λ d b. side_shows lens recover s a.lived.spot d b) a.lived.spot s.stand a.lived.life (first_false (is_live s.stand) (list_any (λ (t : Stop InHand G). is_live t.stand) ss) e) x.0.shown.stood,
  all_gone lens recover as' ss x.1 (second_false (is_live s.stand) (list_any (λ (t : Stop InHand G). is_live t.stand) ss) e),
)
