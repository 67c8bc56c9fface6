-- HOW A MASTER STANDS to a slave.
use Rattle.std.proofs.Common.{◌≡◌, ℕ, Bool, true, false, refl, ap, sym, ◌∙◌}
use Rattle.std.specs.Prelude.{◌&&◌, nat_lt}
use Rattle.life_runs.specs.of_al_state.declared.bringing.BringStep.{BringStep}
use Rattle.life_runs.specs.of_frame_view.View.{Lens}
use Rattle.life_runs.specs.Spans.{is_leaving, is_open}
use Rattle.life_runs.specs.of_frame_view.Openings.{step_number}
use Rattle.life_runs.specs.Led.{Leads}
use Rattle.life_runs.specs.of_master_hand.declared.hand.InHand.{InHand}
use Rattle.master_node.specs.Shows.{side_shows}
use Rattle.master_node.specs.Told.{IsTold}
use Rattle.master_node.specs.Standing.{is_before_init, leaves, is_up}
use Rattle.life_runs.specs.of_master_side.declared.hand.Hand.{Ghosts}
use Rattle.life_runs.specs.of_master_tour.Stands.{StandShows}
use Rattle.life_runs.specs.of_master_tour.declared.stop.Stand.{Stand}
use Rattle.life_runs.specs.of_master_tour.declared.stop.Stop.{Stop}

same_leaves : (again : Bool) (step : BringStep) → (again && nat_lt (step_number again step) 3) ≡ (again && is_before_init step)
same_leaves false step = refl
same_leaves true BringStep.Return = refl
same_leaves true BringStep.Watch = refl
same_leaves true BringStep.Address = refl
same_leaves true BringStep.OutOff = refl
same_leaves true BringStep.InOff = refl
same_leaves true BringStep.OutManager = refl
same_leaves true BringStep.InManager = refl
same_leaves true BringStep.Start = refl
same_leaves true BringStep.Await = refl

module _ {G : Ghosts InHand} (lens : ℕ → Lens) (recover : ℕ) (a : Leads) (s : Stop InHand G) where
  abbrev Stood : Stand → Type 0
  Stood stand = StandShows (λ d b. side_shows lens recover s a.lived.spot d b) a.lived.spot stand a.lived.life

  leaves_by : (stand : Stand) → Stood stand → leaves stand ≡ is_leaving a.lived.life.stand
  leaves_by (Stand.Opening up) h = sym (ap is_leaving h.stand ∙ same_leaves up.again up.step)
  leaves_by Stand.Open h = sym (ap is_leaving h.0)
  leaves_by Stand.Gone h = sym (ap is_leaving h)

  up_by : (stand : Stand) → Stood stand → is_up stand ≡ is_open a.lived.life.stand
  up_by (Stand.Opening up) h = sym (ap is_open h.stand)
  up_by Stand.Open h = sym (ap is_open h.0)
  up_by Stand.Gone h = sym (ap is_open h)

  pub lead_leaves : IsTold lens recover a s → leaves s.stand ≡ is_leaving a.lived.life.stand
  lead_leaves l = leaves_by s.stand l.lives.shown.stood

  pub lead_up : IsTold lens recover a s → is_up s.stand ≡ is_open a.lived.life.stand
  lead_up l = up_by s.stand l.lives.shown.stood
