-- WHAT IS TOLD OF HOW A SLAVE TURNED is what its life tells.
use Rattle.std.proofs.Common.{◌≡◌, ℕ, zero, suc, Bool, Option, List, [], ◌∷◌, refl, sym, ap, ◌∙◌, subst}
use Rattle.std.specs.Prelude.{◌&&◌, map}
use Rattle.life_runs.specs.Led.{Exchanged, speech_at}
use Rattle.life_runs.specs.of_frame_view.View.{Lens}
use Rattle.life_runs.specs.of_frame_view.Seen.{seen}
use Rattle.life_runs.specs.of_frame_view.Shares.{AllThree, given_where}
use Rattle.life_runs.specs.of_segment_ring.declared.wire.Fate.TheVariants.{Lost}
use Rattle.life_runs.specs.of_master_hand.Spoken.{acknowledged, is_followed, is_passed}
use Rattle.life_runs.specs.of_master_hand.declared.hand.InHand.{InHand}
use Rattle.life_runs.specs.of_master_side.Passing.{news_lost}
use Rattle.life_runs.specs.of_master_side.declared.hand.Hand.{Ghosts}
use Rattle.life_runs.specs.of_master_tour.Stands.{turned}
use Rattle.life_runs.specs.of_master_tour.Walks.{EachPair}
use Rattle.life_runs.specs.of_master_tour.declared.stop.Stop.{Stop}
use Rattle.life_runs.specs.of_master_tour.declared.stop.Turned.{Turned}
use Rattle.life_runs.specs.of_life_model.Lives.{life_lost}
use Rattle.life_runs.specs.Served.{Serves, ServedTurn, served_behind}
use Rattle.master_node.specs.Besides.{by_stop}
use Rattle.master_node.specs.Lifetold.{told_at}
use Rattle.master_node.specs.Serving.{IsServedUnder}
use Rattle.master_node.specs.declared.event.Event.{Event}
use Rattle.master_node.specs.declared.post.Post.{Post}
use Rattle.master_node.proofs.ServedLosts.{so_is}

-- of all slaves, by what each turned into
pub turned_all : {G : Ghosts InHand} (R : ServedTurn → Post → Stop InHand G → Type 0) (K : Stop InHand G → Stop InHand G → Type 0) (on : ServedTurn → Serves) (tells : Option Turned → List Event) →
    ((v : ServedTurn) (p : Post) (s t : Stop InHand G) → R v p s → K s t → t.news ≡ turned v.turn.lived.life (on v).lead.lived.life) → (vs : List ServedTurn) (ps : List Post) (ss ts : List (Stop InHand G)) → AllThree R vs ps ss → EachPair K ss ts → (k : ℕ) →
    by_stop [] (λ t. tells t.news) ts k ≡ told_at (λ v w. tells (turned v.turn.lived.life w.lead.lived.life)) vs (map on vs) k
turned_all R K on tells h [] [] [] [] r e k = refl
turned_all R K on tells h [] [] [] (t ∷ ts) r e k = absurd e
turned_all R K on tells h [] [] (s ∷ ss) ts r e k = absurd r
turned_all R K on tells h [] (p ∷ ps) [] ts r e k = absurd r
turned_all R K on tells h [] (p ∷ ps) (s ∷ ss) ts r e k = absurd r
turned_all R K on tells h (v ∷ vs) [] [] ts r e k = absurd r
turned_all R K on tells h (v ∷ vs) [] (s ∷ ss) ts r e k = absurd r
turned_all R K on tells h (v ∷ vs) (p ∷ ps) [] ts r e k = absurd r
turned_all R K on tells h (v ∷ vs) (p ∷ ps) (s ∷ ss) [] r e k = absurd e
turned_all R K on tells h (v ∷ vs) (p ∷ ps) (s ∷ ss) (t ∷ ts) r e zero = ap tells (h v p s t r.0 e.0)
turned_all R K on tells h (v ∷ vs) (p ∷ ps) (s ∷ ss) (t ∷ ts) r e (suc k) = turned_all R K on tells h vs ps ss ts r.1 e.1 k

-- a lost frame turns a life just so, whatever its news are
pub lost_turned : {G : Ghosts InHand} (lens : ℕ → Lens) (recover retry : ℕ) (gives given : Bool) (made : ℕ) (f : Exchanged) (octets : List ℕ) (after : ℕ) → f.fate ≡ Lost after → f.sent ≡ octets → given ≡ gives → (v : ServedTurn) (p : Post) (s : Stop InHand G) (news : Option Turned) →
    IsServedUnder lens recover octets made v p s →
    news ≡ turned v.turn.lived.life
    (given_where (given && s.under) recover v.turn.lived.spot made (life_lost (speech_at lens v.turn.lived.spot) acknowledged is_followed is_passed v.turn.lived.spot (news_lost v.turn.lived.spot.station v.kept (seen lens octets)) (seen lens octets) v.turn.lived.life v.turn.lived.life.stand)) →
    news ≡ turned v.turn.lived.life (served_behind lens recover retry gives made f v).lead.lived.life
lost_turned lens recover retry gives given made f octets after is b g v p s news i e =
    let l = v.turn.lived.life in
    let spot = v.turn.lived.spot in
    subst (λ (z : Exchanged). news ≡ turned l (served_behind lens recover retry gives made z v).lead.lived.life) (sym (so_is lens recover retry f octets after is b))
    (e ∙ (λ j. turned l (given_where (g j && sym i.under j) recover spot made (life_lost (speech_at lens spot) acknowledged is_followed is_passed spot (news_lost spot.station v.kept (seen lens octets)) (seen lens octets) l l.stand))))
