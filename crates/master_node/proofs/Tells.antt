-- A master that tells what happened stays what it is.
use Rattle.std.proofs.Common.{◌≡◌, ℕ, ◌<◌, List, refl, sym, ap, subst, length, get_or, set}
use Rattle.std.specs.Prelude.{All}
use Rattle.life_runs.specs.of_master_hand.declared.hand.InHand.{InHand}
use Rattle.life_runs.specs.of_master_side.declared.hand.Hand.{Ghosts}
use Rattle.life_runs.specs.of_master_tour.Walks.{EachPair}
use Rattle.life_runs.specs.of_master_tour.declared.stop.Stop.{Stop}
use Rattle.life_runs.proofs.of_master_tour.Walks.{steps_set}
use Rattle.master_node.specs.declared.node.MasterNode.{MasterNode}
use Rattle.master_node.specs.Origins.{forwards_at}
use Rattle.master_node.specs.Shows.{WaitsNone}
use Rattle.master_node.specs.Kept.{StopStays, NodeKept}
use Rattle.master_node.proofs.Kepts.{stop_same, node_same, node_on}
use Rattle.master_node.proofs.Lists.{steps_each}
use Rattle.master_node.proofs.Numbereds.{numbers_stay}

pub node_refl : (m : MasterNode) → NodeKept m m
node_refl m = node_same m m refl refl (λ q. q) (λ k. refl) (numbers_stay m.posts.items m.posts.items refl)

pub node_told : (m n : MasterNode) → n.tour ≡ m.tour → n.made ≡ m.made → n.posts ≡ m.posts → NodeKept m n
node_told m n e f p = node_same m n e f (λ q. subst (λ z. All WaitsNone z.items) (sym p) q) (λ k. ap (λ z. forwards_at z.items k) p) (numbers_stay m.posts.items n.posts.items (ap (λ z. z.items) p))

pub node_then : (m n o : MasterNode) → NodeKept n o → NodeKept m n → NodeKept m o
node_then m n o b a = node_on m n o a b

-- one slave's stop is put back
pub stops_set : {G : Ghosts InHand} (ss : List (Stop InHand G)) (place : ℕ) (v w : Stop InHand G) → place < length ss → v ≡ get_or ss place v → StopStays v w → EachPair (λ s t. StopStays s t) ss (set ss place w)
stops_set ss place v w l g k = steps_each (λ s t. StopStays s t) (λ s t. StopStays s t) place ss (set ss place w) (λ s. stop_same s) (λ s t p. p) (steps_set (λ s t. StopStays s t) place ss v w l g k)
