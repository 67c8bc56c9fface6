-- A SLAVE THAT STAYS is served as before.
use Rattle.std.proofs.Common.{◌≡◌, ℕ, true, Option, List, refl, sym, ap, ◌∙◌, subst}
use Rattle.life_runs.specs.of_frame_view.View.{Lens}
use Rattle.life_runs.specs.of_state_model.Stated.{Service}
use Rattle.life_runs.specs.of_master_hand.Laying.{scripted}
use Rattle.life_runs.specs.of_master_hand.Shown.{awaits_reply, knows}
use Rattle.life_runs.specs.of_master_hand.Spoken.{Asked}
use Rattle.life_runs.specs.of_master_hand.declared.hand.InHand.{InHand}
use Rattle.life_runs.specs.of_master_side.declared.hand.Hand.{Ghosts}
use Rattle.life_runs.specs.of_master_tour.Counting.{ReadStays, StandCounts}
use Rattle.life_runs.specs.of_master_tour.Passing.{StandPassing}
use Rattle.life_runs.specs.of_master_tour.declared.stop.Stop.{Stop}
use Rattle.life_runs.specs.Served.{Keyed, Serves, ServedComes}
use Rattle.master_node.specs.Passes.{IsServing}
use Rattle.master_node.proofs.Mailed.{stand_awaits}

-- A SLAVE THAT STAYS but for what is held, and for its place in the frame
pub record Alike {G : Ghosts InHand} (s t : Stop InHand G) : Type 0 where
  pub script : scripted t.side.hand.laying ≡ scripted s.side.hand.laying
  pub place : t.place ≡ s.place
  pub stand : t.stand ≡ s.stand
  pub passing : t.side.passing ≡ s.side.passing
  pub awaits : awaits_reply s.side.hand.course s.side.hand.which s.side.hand.clients ≡ true → awaits_reply t.side.hand.course t.side.hand.which t.side.hand.clients ≡ true
  pub read : ReadStays s t
  pub out : t.side.out.len ≡ s.side.out.len
  pub known : knows t.side.hand.course ≡ knows s.side.hand.course

pub alike_same : {G : Ghosts InHand} (s : Stop InHand G) → Alike s s
alike_same s = record { script = refl; place = refl; stand = refl; passing = refl; awaits = λ e. e; read = (refl, refl); out = refl; known = refl }

pub serving_alike : {G : Ghosts InHand} (lens : ℕ → Lens) (begun : ℕ → Option (Service Asked)) (made : ℕ) (left : List ℕ) (i : ℕ) (w : Serves) (ks : List Keyed) (s t : Stop InHand G) → IsServing lens begun made left i w ks s → Alike s t → IsServing lens begun made left i w ks t
serving_alike lens begun made left i w ks s t h k = record {
  hand = h.hand;
  script = ap (λ z. z.script) k.script ∙ h.script;
  comes = subst (λ z. ServedComes (lens w.lead.lived.spot.station).out w.lead.script w.waits w.hand w.lead.number (begun w.lead.lived.spot.place) z ks h.hand) (sym (ap (λ z. z.number) k.script)) h.comes;
  still = h.still;
  free = h.free;
  short = h.short;
  place = k.place ∙ h.place;
  room = h.room ∙ sym k.out;
  passing = λ l e. subst (λ z. StandPassing z (awaits_reply t.side.hand.course t.side.hand.which t.side.hand.clients) t.side.passing l) (sym k.stand)
      (subst (λ z. StandPassing s.stand (awaits_reply t.side.hand.course t.side.hand.which t.side.hand.clients) z l) (sym k.passing) (stand_awaits s.stand _ _ s.side.passing l k.awaits (h.passing l e)));
  kept = h.kept;
  counts = subst (λ (z : Type 0). z) (λ j. StandCounts (sym k.stand j) (sym k.read.0 j) (sym k.read.1 j) made w.counts) h.counts;
  pace = k.read.1 ∙ h.pace;
  fits = h.fits;
}
