-- The slaves of a frame that is under way, of a run and of a serving.
use Rattle.std.proofs.Common.{ℕ, List, [], ◌∷◌, map, sym, ap, ◌∙◌, subst}
use Rattle.life_runs.specs.of_frame_view.View.{Lens}
use Rattle.life_runs.specs.of_frame_view.Shares.{AllBoth, AllThree}
use Rattle.life_runs.specs.Led.{Turn}
use Rattle.life_runs.specs.of_master_hand.Shown.{awaits_reply}
use Rattle.life_runs.specs.of_master_hand.declared.hand.InHand.{InHand}
use Rattle.life_runs.specs.of_master_side.Passing.{passing_seen}
use Rattle.life_runs.specs.of_master_side.declared.hand.Hand.{Ghosts}
use Rattle.life_runs.specs.of_master_tour.Passing.{StandPassing}
use Rattle.life_runs.specs.of_master_tour.declared.stop.Stop.{Stop}
use Rattle.life_runs.specs.Served.{ServedTurn}
use Rattle.master_node.specs.Serving.{IsServedUnder, ServedUnder, run_turn}
use Rattle.master_node.specs.Shows.{IsOnFrame, IsUnder, IsUnderWay, MasterUnder}
use Rattle.master_node.specs.declared.node.MasterNode.{MasterNode}
use Rattle.master_node.specs.declared.post.Post.{Post}
use Rattle.master_node.proofs.Serveds.{three_both}

module _ {G : Ghosts InHand} (lens : ℕ → Lens) (recover : ℕ) (octets : List ℕ) where
  pub run_on : (u : Turn) (s : Stop InHand G) → IsUnder lens recover octets u s → IsOnFrame lens recover octets u s
  run_on u s i = record { lives = i.lead.lives; passing = λ o. i.lead.own ∙ ap passing_seen (sym i.lead.unpassed); under = i.under; at = i.at; way = i.way }

  pub all_run : (us : List Turn) (ss : List (Stop InHand G)) → AllBoth (λ u s. IsUnder lens recover octets u s) us ss → AllBoth (λ u s. IsOnFrame lens recover octets u s) us ss
  all_run [] [] e = tt
  all_run [] (s ∷ ss) e = absurd e
  all_run (u ∷ us) [] e = absurd e
  all_run (u ∷ us) (s ∷ ss) e = (run_on u s e.0, all_run us ss e.1)

  pub served_on : (made : ℕ) (v : ServedTurn) (p : Post) (s : Stop InHand G) → IsServedUnder lens recover octets made v p s → IsOnFrame lens recover octets (run_turn v) s
  served_on made v p s i = record {
    lives = i.served.lives;
    passing = λ o. (subst (λ z. StandPassing z (awaits_reply s.side.hand.course s.side.hand.which s.side.hand.clients) s.side.passing v.turn.lived.life) o i.served.passing).is;
    under = i.under;
    at = i.at;
    way = i.way;
  }

  pub all_served : (made : ℕ) (vs : List ServedTurn) (ps : List Post) (ss : List (Stop InHand G)) → AllThree (λ v p s. IsServedUnder lens recover octets made v p s) vs ps ss → AllBoth (λ u s. IsOnFrame lens recover octets u s) (map run_turn vs) ss
  all_served made vs ps ss e = three_both (λ v p s. IsServedUnder lens recover octets made v p s) (λ u s. IsOnFrame lens recover octets u s) run_turn (λ v p s i. served_on made v p s i) vs ps ss e

-- so it is with the frame of a run, and of a serving
module _ (lens : ℕ → Lens) (recover retry missed : ℕ) (octets : List ℕ) (m : MasterNode) where
  pub run_way : (us : List Turn) → MasterUnder lens recover retry m octets missed us → IsUnderWay lens recover m octets us
  run_way us u = record { each = all_run lens recover octets us m.tour.stops.items u.each; sent = u.sent; few = u.fits.few }

  pub served_way : (made : ℕ) (vs : List ServedTurn) → ServedUnder lens recover retry m octets missed made vs → IsUnderWay lens recover m octets (map run_turn vs)
  served_way made vs u = record { each = all_served lens recover octets made vs m.posts.items m.tour.stops.items u.each; sent = u.sent; few = u.fits.few }
