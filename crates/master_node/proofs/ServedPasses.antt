-- How far a mail that is passed on has come behind a frame that came back: one that came no step on is still in hand.
use Rattle.std.proofs.Common.{◌≡◌, ℕ, Bool, Option, List, [], ◌∷◌, refl, sym, ap, ◌∙◌, subst}
use Rattle.std.specs.Prelude.{is_some, map}
use Rattle.life_runs.specs.Led.{Exchanged, speech_at}
use Rattle.life_runs.specs.of_frame_view.Seen.{seen}
use Rattle.life_runs.specs.of_frame_view.View.{Lens}
use Rattle.life_runs.specs.of_frame_view.Shares.{AllBoth, AllThree, came_at}
use Rattle.life_runs.specs.of_segment_ring.declared.wire.Fate.TheVariants.{Pass}
use Rattle.life_runs.specs.of_master_duty.Reply.{Reply}
use Rattle.life_runs.specs.of_segment_model.Ends as Ends
use Rattle.life_runs.specs.of_master_hand.Shown.{awaits_reply}
use Rattle.life_runs.specs.of_master_hand.Spoken.{Asked}
use Rattle.life_runs.specs.of_master_hand.declared.hand.InHand.{InHand}
use Rattle.life_runs.specs.of_master_side.Passing.{news_back}
use Rattle.life_runs.specs.of_master_side.declared.hand.Hand.{Ghosts}
use Rattle.life_runs.specs.of_link_mails.Body.{Body}
use Rattle.life_runs.specs.of_master_tour.Passing.{StandPassing}
use Rattle.life_runs.specs.of_master_tour.Stands.{StandShows}
use Rattle.life_runs.specs.of_master_tour.declared.stop.Stand.{Stand}
use Rattle.life_runs.specs.of_master_tour.declared.stop.Stop.{Stop}
use Rattle.life_runs.specs.of_life_model.Lives
use Rattle.life_runs.specs.of_life_model.Lives.{Life, Spot}
use Rattle.life_runs.specs.Served.{ServedTurn, served_behind}
use Rattle.master_node.specs.Serving.{IsServed, run_turn}
use Rattle.master_node.specs.Shows.{IsOnFrame, side_shows}
use Rattle.master_node.specs.declared.post.Post.{Post}
use Rattle.master_node.proofs.Handeds.{stays_open}
use Rattle.master_node.proofs.Recalled.{PassesOn}
use Rattle.master_node.proofs.Restings.{open_lived}
use Rattle.master_node.proofs.ServedJoins.{back_life}
use Rattle.master_node.proofs.ServedSents.{seen_some}

-- a slave's life is open where its stop is
life_open : {G : Ghosts InHand} (lens : ℕ → Lens) (recover : ℕ) (spot : Spot) (s : Stop InHand G) (l : Life Body Asked Reply) → s.stand ≡ Stand.Open → StandShows (side_shows lens recover s spot) spot s.stand l → l.stand ≡ Lives.Stand.Open
life_open lens recover spot s l o w = (subst (λ (z : Stand). StandShows (side_shows lens recover s spot) spot z l) o w).0

module _ (lens : ℕ → Lens) (recover retry : ℕ) (gives : Bool) (made : ℕ) (f : Exchanged) (octets items : List ℕ) (fate : f.fate ≡ Pass) (back : f.back ≡ items) (n : ℕ) where
  abbrev behind : ServedTurn → Option Ends.Passing
  behind v = (served_behind lens recover retry gives made f v).lead.lived.life.era.passing

  one_passes : {G : Ghosts InHand} (v : ServedTurn) (p : Post) (s z : Stop InHand G) → IsOnFrame lens recover octets (run_turn v) s → IsServed lens recover n (served_behind lens recover retry gives made f v) p z → PassesOn (run_turn v) (behind v) s z
  one_passes v p s z i new = λ still o hand some.
      let l = v.turn.lived.life in
      let spot = v.turn.lived.spot in
      let w = (served_behind lens recover retry gives made f v).lead.lived in
      let stands = life_open lens recover spot s l o i.lives.shown.stood in
      let on = stays_open (speech_at lens spot) made spot (news_back spot.station v.kept v.counts (seen lens items)) (seen lens items) (came_at s.under s.at (seen lens items)) l l.stand stands stands hand in
      let here = ap (λ (k : Life Body Asked Reply). k.stand) (sym (back_life lens recover retry gives made f octets items v s fate back i)) ∙ on.0 in
      let opened = open_lived lens recover w.spot z w.life z.stand refl new.lives.shown.stood here in
      let shown = (subst (λ q. StandPassing q (awaits_reply z.side.hand.course z.side.hand.which z.side.hand.clients) z.side.passing w.life) opened new.passing).is in
      sym (seen_some z.side.passing) ∙ ap (λ (q : Option Ends.Passing). is_some q) (sym shown ∙ still ∙ i.passing o) ∙ seen_some s.side.passing ∙ some

  pub all_pass : {G : Ghosts InHand} (vs : List ServedTurn) (ps : List Post) (ss zs : List (Stop InHand G)) → AllBoth (λ v s. IsOnFrame lens recover octets (run_turn v) s) vs ss → AllThree (λ w p z. IsServed lens recover n w p z) (map (served_behind lens recover retry gives made f) vs) ps zs →
      AllThree (λ v s z. PassesOn (run_turn v) (behind v) s z) vs ss zs
  all_pass [] [] [] [] i new = tt
  all_pass [] ps (s ∷ ss) zs i new = absurd i
  all_pass [] [] [] (z ∷ zs) i new = absurd new
  all_pass [] (p ∷ ps) [] zs i new = absurd new
  all_pass (v ∷ vs) ps [] zs i new = absurd i
  all_pass (v ∷ vs) [] (s ∷ ss) zs i new = absurd new
  all_pass (v ∷ vs) (p ∷ ps) (s ∷ ss) [] i new = absurd new
  all_pass (v ∷ vs) (p ∷ ps) (s ∷ ss) (z ∷ zs) i new = (one_passes v p s z i.0 new.0, all_pass vs ps ss zs i.1 new.1)
