-- The frames of a tour, with mails that are asked between them, are a serving.
use Rattle.std.proofs.Common.{◌≡◌, ℕ, suc, Option, List, [], ◌∷◌, ◌++◌, length, length-append, refl, arith}
use Rattle.run_frames.specs.of_frame_view.View.{Lens}
use Rattle.run_frames.specs.of_life_runs.Led.{Exchanged}
use Rattle.few_replies.specs.of_link_mails.Body.{Body}
use Rattle.run_frames.specs.of_master_duty.Reply.{Reply}
use Rattle.run_frames.specs.of_master_hand.Spoken.{Asked}
use Rattle.run_frames.specs.Clocks.{Clocked}
use Rattle.run_frames.specs.Runs.{Progress}
use Rattle.run_frames.specs.of_life_runs.Served.{Serves, IsServedLed}
use Rattle.served_places.specs.Toured.{IsServedToured}

pub one_more : (fs : List Exchanged) (f : Exchanged) (n : ℕ) → n ≡ length fs → suc n ≡ length (fs ++ f ∷ [])
one_more fs f n e = omega (arith, e, length-append fs (f ∷ []))

module _ (lens : ℕ → Lens) (recover retry slowest : ℕ) (first : List Serves) where
  pub led : (fs : List Exchanged) (again : Option (List ℕ)) (missed : ℕ) (ws : List Serves) (p : Progress) (cs : List (Clocked Body Asked Reply)) → IsServedToured lens recover retry slowest first fs again missed ws p cs →
      IsServedLed lens recover retry first fs missed ws × (p.frames ≡ length fs)
  led _ _ _ _ _ _ IsServedToured.start = (IsServedLed.start, refl)
  led _ _ _ _ _ _ (IsServedToured.asks fs again missed ws p cs place k run may) = let h = led fs again missed ws p cs run in (IsServedLed.asks fs missed ws place k h.0 may, h.1)
  led _ _ _ _ _ _ (IsServedToured.lost fs again missed ws p cs f vs after ps run frame fate visit) = let h = led fs again missed ws p cs run in (IsServedLed.on fs missed ws f vs h.0 frame, one_more fs f p.frames h.1)
  led _ _ _ _ _ _ (IsServedToured.opening fs again missed ws p cs f vs ps run frame fate under visit) = let h = led fs again missed ws p cs run in (IsServedLed.on fs missed ws f vs h.0 frame, one_more fs f p.frames h.1)
  led _ _ _ _ _ _ (IsServedToured.round fs again missed ws p cs f vs ps run frame fate over visit) = let h = led fs again missed ws p cs run in (IsServedLed.on fs missed ws f vs h.0 frame, one_more fs f p.frames h.1)
  led _ _ _ _ _ _ (IsServedToured.enters fs again missed ws p cs f vs ps run frame fate over visit nothing) = let h = led fs again missed ws p cs run in (IsServedLed.on fs missed ws f vs h.0 frame, one_more fs f p.frames h.1)
