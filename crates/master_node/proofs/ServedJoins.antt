-- What is unfinished of the packets of a serving's slaves, and which of these it gives up, behind a frame.
use Rattle.std.proofs.Common.{◌≡◌, ℕ, zero, suc, Bool, List, [], ◌∷◌, refl, sym, ap, ◌∙◌}
use Rattle.std.specs.Prelude.{map, ◌&&◌, Option, None}
use Rattle.eoe_switch.specs.of_eoe.declared.joining.Unfinished.{Unfinished}
use Rattle.life_runs.specs.of_frame_view.Seen.{seen}
use Rattle.life_runs.specs.of_frame_view.View.{Lens}
use Rattle.life_runs.specs.of_frame_view.Shares.{AllBoth, AllThree, came_at, given_where}
use Rattle.life_runs.specs.of_segment_ring.declared.wire.Fate.TheVariants.{Pass, Lost}
use Rattle.life_runs.specs.Led.{Exchanged, Turn, speech_at}
use Rattle.life_runs.specs.of_master_hand.Joins.{unfinished_behind}
use Rattle.life_runs.specs.of_master_hand.Spoken.{acknowledged, is_followed, is_passed}
use Rattle.life_runs.specs.of_master_hand.declared.hand.InHand.{InHand}
use Rattle.life_runs.specs.of_master_side.Passing.{news_back, news_lost}
use Rattle.life_runs.specs.of_master_side.declared.hand.Hand.{Ghosts}
use Rattle.life_runs.specs.of_link_mails.Body.{Body}
use Rattle.life_runs.specs.of_master_tour.Goes.{holds_at}
use Rattle.life_runs.specs.of_master_tour.Joins.{join_at}
use Rattle.life_runs.specs.of_master_tour.declared.stop.Stop.{Stop}
use Rattle.life_runs.specs.of_life_model.Lives.{Stand, life_back, life_lost}
use Rattle.life_runs.specs.Served.{ServedTurn, served_behind, served_life}
use Rattle.master_node.specs.Joined.{stand_under, unfinished_after}
use Rattle.master_node.specs.Serving.{IsServedUnder, run_turn}
use Rattle.master_node.specs.Shows.{IsOnFrame}
use Rattle.master_node.proofs.OnFrames.{served_on}
use Rattle.master_node.specs.declared.post.Post.{Post}

-- ---- lists
pub three_drop : {A B S : Type 0} (R : A → B → S → Type 0) (Q : A → S → Type 0) → ((a : A) (b : B) (s : S) → R a b s → Q a s) → (as' : List A) (bs : List B) (ss : List S) → AllThree R as' bs ss → AllBoth Q as' ss
three_drop R Q h [] [] [] e = tt
three_drop R Q h [] [] (s ∷ ss) e = absurd e
three_drop R Q h [] (b ∷ bs) [] e = absurd e
three_drop R Q h [] (b ∷ bs) (s ∷ ss) e = absurd e
three_drop R Q h (a ∷ as') [] [] e = absurd e
three_drop R Q h (a ∷ as') [] (s ∷ ss) e = absurd e
three_drop R Q h (a ∷ as') (b ∷ bs) [] e = absurd e
three_drop R Q h (a ∷ as') (b ∷ bs) (s ∷ ss) e = (h a b s e.0, three_drop R Q h as' bs ss e.1)

-- those of a list that is mapped
pub three_as : {A B C S : Type 0} (f : A → C) (V : C → B → S → Type 0) (as' : List A) (bs : List B) (ss : List S) → AllThree (λ a b s. V (f a) b s) as' bs ss → AllThree V (map f as') bs ss
three_as f V [] [] [] u = tt
three_as f V [] [] (s ∷ ss) u = absurd u
three_as f V [] (b ∷ bs) [] u = absurd u
three_as f V [] (b ∷ bs) (s ∷ ss) u = absurd u
three_as f V (a ∷ as') [] [] u = absurd u
three_as f V (a ∷ as') [] (s ∷ ss) u = absurd u
three_as f V (a ∷ as') (b ∷ bs) [] u = absurd u
three_as f V (a ∷ as') (b ∷ bs) (s ∷ ss) u = (u.0, three_as f V as' bs ss u.1)

pub served_after : {A S : Type 0} (g : A → Stand) (f : ServedTurn → A) (mails : Turn → List Body) (V : Stand → Option Unfinished → S → Type 0) (vs : List ServedTurn) (js : List (Option Unfinished)) (ss : List S) →
    AllThree (λ v j s. V (g (f v)) (join_at None unfinished_behind (stand_under (run_turn v)) j (mails (run_turn v))) s) vs js ss → AllThree V (map g (map f vs)) (unfinished_after mails (map run_turn vs) js) ss
served_after g f mails V [] [] [] t = tt
served_after g f mails V [] [] (s ∷ ss) t = absurd t
served_after g f mails V [] (j ∷ js) [] t = absurd t
served_after g f mails V [] (j ∷ js) (s ∷ ss) t = absurd t
served_after g f mails V (v ∷ vs) [] [] t = absurd t
served_after g f mails V (v ∷ vs) [] (s ∷ ss) t = absurd t
served_after g f mails V (v ∷ vs) (j ∷ js) [] t = absurd t
served_after g f mails V (v ∷ vs) (j ∷ js) (s ∷ ss) t = (t.0, served_after g f mails V vs js ss t.1)

pub holds_map : {A B : Type 0} (test : B → Bool) (f : A → B) (as' : List A) (k : ℕ) → holds_at test (map f as') k ≡ holds_at (λ a. test (f a)) as' k
holds_map test f [] k = refl
holds_map test f (a ∷ as') zero = refl
holds_map test f (a ∷ as') (suc k) = holds_map test f as' k

-- ---- the life behind a frame, by its slave
module _ {G : Ghosts InHand} (lens : ℕ → Lens) (recover retry : ℕ) (gives : Bool) (made : ℕ) (f : Exchanged) (octets : List ℕ) where
  pub on_frame : (vs : List ServedTurn) (ps : List Post) (ss : List (Stop InHand G)) → AllThree (λ v p s. IsServedUnder lens recover octets made v p s) vs ps ss → AllBoth (λ v s. IsOnFrame lens recover octets (run_turn v) s) vs ss
  on_frame vs ps ss e =
      three_drop (λ v p s. IsServedUnder lens recover octets made v p s) (λ v s. IsOnFrame lens recover octets (run_turn v) s) (λ v p s i. served_on lens recover octets made v p s i) vs ps ss e

  pub back_life : (items : List ℕ) (v : ServedTurn) (s : Stop InHand G) → f.fate ≡ Pass → f.back ≡ items → IsOnFrame lens recover octets (run_turn v) s →
      (let l = v.turn.lived.life in let spot = v.turn.lived.spot in
      life_back (speech_at lens spot) acknowledged is_followed is_passed made spot (news_back spot.station v.kept v.counts (seen lens items)) (seen lens items) (came_at s.under s.at (seen lens items)) l l.stand) ≡ (served_behind lens recover retry gives made f v).lead.lived.life
  back_life items v s fate back i =
      let l = v.turn.lived.life in
      let spot = v.turn.lived.spot in
      let first : (served_life lens recover retry gives made f f.fate v).life ≡ (served_life lens recover retry gives made f Pass v).life = ap (λ z. (served_life lens recover retry gives made f z v).life) fate in
      sym (first ∙ (λ j. life_back (speech_at lens spot) acknowledged is_followed is_passed made spot (news_back spot.station v.kept v.counts (seen lens (back j))) (seen lens (back j)) (came_at (i.under j) (i.at j) (seen lens (back j))) l l.stand))

  pub lost_life : (gives' : Bool) (after : ℕ) (v : ServedTurn) (s : Stop InHand G) → f.fate ≡ Lost after → f.sent ≡ octets → gives ≡ gives' → IsOnFrame lens recover octets (run_turn v) s →
      (let l = v.turn.lived.life in let spot = v.turn.lived.spot in
      given_where (gives' && s.under) recover spot made (life_lost (speech_at lens spot) acknowledged is_followed is_passed spot (news_lost spot.station v.kept (seen lens octets)) (seen lens octets) l l.stand)) ≡ (served_behind lens recover retry gives made f v).lead.lived.life
  lost_life gives' after v s fate sent same i =
      let l = v.turn.lived.life in
      let spot = v.turn.lived.spot in
      let first : (served_life lens recover retry gives made f f.fate v).life ≡ (served_life lens recover retry gives made f (Lost after) v).life = ap (λ z. (served_life lens recover retry gives made f z v).life) fate in
      sym (first ∙ (λ j. given_where (same j && i.under j) recover spot made (life_lost (speech_at lens spot) acknowledged is_followed is_passed spot (news_lost spot.station v.kept (seen lens (sent j))) (seen lens (sent j)) l l.stand)))
