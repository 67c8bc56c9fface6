-- WHY EACH EPOCH OF A LIFE BEGAN: it opens what the one before it leaves to it, and that has its cause there.
use Rattle.std.proofs.Common.{inl, inr, ℕ, Option, Some, None, List, [], ◌∷◌, ◌++◌}
use Rattle.master_tour.specs.of_life_model.Lives.{Era}
use Rattle.master_tour.specs.of_link_mails.Body.{Body}
use Rattle.master_tour.specs.of_master_duty.Reply.{Reply}
use Rattle.master_hand.specs.Spoken.{Asked}
use Rattle.life_runs.specs.Causes.{EndsBy, AllEndBy, AllHaveCause}
use Rattle.life_runs.specs.Led.{Leads}
use Rattle.life_runs.specs.Opened.{OpensBehind, AllOpenIn, AllOpenTheirs}

abbrev EraOf : Type 0
EraOf = Era Body Asked Reply

module _ (start : ℕ) (gave : List ℕ) where
  ends_by : (e : EraOf) (cleared : Option ℕ) (state : ℕ) → OpensBehind start gave e cleared state → EndsBy gave e cleared
  ends_by e None state h = absurd h
  ends_by e (Some frame) state (inl h) = inl h.own
  ends_by e (Some frame) state (inr h) = inr h.given

  pub all_end : (before : Option EraOf) (es : List EraOf) (e : EraOf) → AllOpenIn start gave before (es ++ e ∷ []) → AllEndBy gave es e.cleared
  all_end before [] e h = tt
  all_end before (d ∷ []) e h = (ends_by d e.cleared e.state h.1.0, tt)
  all_end before (d ∷ (c ∷ es)) e h = (ends_by d c.cleared c.state h.1.0, all_end (Some d) (c ∷ es) e h.1)

-- EACH EPOCH BUT THE FIRST HAS ITS CAUSE
pub have_cause : (as' : List Leads) → AllOpenTheirs as' → AllHaveCause as'
have_cause [] h = tt
have_cause (a ∷ as') h = (all_end a.lived.spot.start a.lived.life.gave None a.lived.life.past a.lived.life.era h.0, have_cause as' h.1)
