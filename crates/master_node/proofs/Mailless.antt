-- WHERE A MASTER WANTS NOTHING each slave of a serving was given up for good, or is idle with no mail that is passed on: none waits, and none is in hand.
use Rattle.std.proofs.Common.{◌≡◌, ◌<◌, ◌≤◌, inl, inr, ℕ, suc, Option, Some, None, List, [], ◌∷◌, length, get_or, map, refl, ap, sym, ◌∙◌, subst, arith}
use Rattle.std.specs.Prelude.{All, IfSome, slice_get}
use Rattle.std.proofs.lemmas.List.Elements.{All-nil, All-cons, All-head, All-tail}
use Rattle.life_runs.specs.of_frame_view.View.{Lens}
use Rattle.life_runs.specs.of_frame_view.Shares.{AllThree}
use Rattle.life_runs.specs.of_master_hand.Shown.{awaits_reply}
use Rattle.life_runs.specs.of_master_hand.declared.hand.InHand.{InHand}
use Rattle.life_runs.specs.of_master_side.Passing.{PassingShows, passing_seen}
use Rattle.life_runs.specs.of_master_side.declared.hand.Hand.{Ghosts}
use Rattle.life_runs.specs.of_master_side.declared.passing.Passing.{Passing}
use Rattle.life_runs.specs.of_master_tour.Passing.{StandPassing}
use Rattle.life_runs.specs.of_master_tour.Stands.{StandShows}
use Rattle.life_runs.specs.of_master_tour.declared.stop.Stand.{Stand}
use Rattle.life_runs.specs.of_master_tour.declared.stop.Stop.{Stop}
use Rattle.life_runs.specs.Served.{Serves}
use Rattle.master_node.specs.Serving.{IsServed, run_lead}
use Rattle.master_node.specs.Shows.{WaitsNone, side_shows}
use Rattle.master_node.specs.Wants.{AllPlaced, IsMaillessBy, IsQuietBy, IsServedOut}
use Rattle.master_node.specs.declared.post.Post.{Post}
use Rattle.master_node.proofs.Quiets.{quiet_here, quiet_idle}
use Rattle.master_node.proofs.Servings.{keyed}

-- what stands at a place of two lists
pub within : {S T : Type 0} (P : T → S → Type 0) (o : Option T) (ss : List S) (i : ℕ) (s : S) → s ≡ get_or ss i s → IfSome o (λ t. P t s) → IfSome o (λ t. IfSome (slice_get ss i) (λ z. P t z))
within P None ss i s e h = tt
within P (Some t) ss i s e h = quiet_here (λ z. P t z) ss i s e h

-- of a slave that was given up for good nothing is asked, and of one that is open both
pub gone_mailless : (o : Option Post) (stand : Stand) (passing : Option Passing) → stand ≡ Stand.Gone → IfSome o (λ p. IsMaillessBy stand passing p)
gone_mailless None stand passing e = tt
gone_mailless (Some p) stand passing e = subst (λ (k : Stand). IsMaillessBy k passing p) (sym e) tt

pub open_mailless : (o : Option Post) (stand : Stand) (passing : Option Passing) → stand ≡ Stand.Open → passing ≡ None → IfSome o WaitsNone → IfSome o (λ p. IsMaillessBy stand passing p)
open_mailless None stand passing e none waits = tt
open_mailless (Some p) stand passing e none waits = subst (λ (k : Stand). IsMaillessBy k passing p) (sym e) (none, waits)

module _ {G : Ghosts InHand} (lens : ℕ → Lens) (recover made : ℕ) where
  one_out : (w : Serves) (p : Post) (s : Stop InHand G) (stand : Stand) → s.stand ≡ stand → IsServed lens recover made w p s → w.lead.number ≤ length w.lead.script → IsQuietBy stand s.side → IsMaillessBy stand s.side.passing p → IsServedOut lens w
  one_out w p s (Stand.Opening up) e i few q m = absurd m
  one_out w p s Stand.Open e i few q m =
      let awaits = awaits_reply s.side.hand.course s.side.hand.which s.side.hand.clients in
      let shown : PassingShows awaits s.side.passing w.lead.lived.life.era.passing = subst (λ (k : Stand). StandPassing k awaits s.side.passing w.lead.lived.life) e i.passing in
      inr (record { idle = quiet_idle lens recover w.lead s i.lives i.script i.number few q e; waits = sym i.waits ∙ ap (map keyed) m.1; over = shown.is ∙ ap passing_seen m.0 })
  one_out w p s Stand.Gone e i few q m = inl (subst (λ (k : Stand). StandShows (λ d b. side_shows lens recover s w.lead.lived.spot d b) w.lead.lived.spot k w.lead.lived.life) e i.lives.shown.stood)

  -- NOTHING IS WANTED
  pub all_out : (ws : List Serves) (ps : List Post) (ss : List (Stop InHand G)) → AllThree (λ w p s. IsServed lens recover made w p s) ws ps ss → AllPlaced (map run_lead ws) → All (λ s. IsQuietBy s.stand s.side) ss →
      ((k : ℕ) → k < length ps → IfSome (slice_get ps k) (λ p. IfSome (slice_get ss k) (λ s. IsMaillessBy s.stand s.side.passing p))) → All (IsServedOut lens) ws
  all_out [] ps ss x placed q h = All-nil (IsServedOut lens)
  all_out (w ∷ ws) [] [] x placed q h = absurd x
  all_out (w ∷ ws) [] (s ∷ ss) x placed q h = absurd x
  all_out (w ∷ ws) (p ∷ ps) [] x placed q h = absurd x
  all_out (w ∷ ws) (p ∷ ps) (s ∷ ss) x placed q h =
      All-cons (IsServedOut lens) w ws (one_out w p s s.stand refl x.0 placed.0 (All-head (λ s. IsQuietBy s.stand s.side) s ss q) (h 0 (omega arith)))
      (all_out ws ps ss x.1 placed.1 (All-tail (λ s. IsQuietBy s.stand s.side) s ss q) (λ k l. h (suc k) (omega (arith, l))))
