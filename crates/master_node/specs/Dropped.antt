-- MAILS THAT WAIT ARE DROPPED where their slave is given up, and nowhere else.
use Rattle.std.specs.Prelude.{◌≡◌, ◌&&◌, ℕ, Bool, List, [], length, if◌then◌else◌}
use Rattle.life_runs.specs.of_master_hand.declared.hand.InHand.{InHand}
use Rattle.life_runs.specs.of_master_side.declared.hand.Hand.{Ghosts}
use Rattle.life_runs.specs.of_master_tour.Goes.{holds_at}
use Rattle.life_runs.specs.of_master_tour.Made.{is_in}
use Rattle.life_runs.specs.of_master_tour.declared.stop.Stop.{Stop}
use Rattle.life_runs.specs.Served.{Keyed}
use Rattle.master_node.specs.Downs.{is_given_up}
use Rattle.master_node.specs.Passes.{waits_in}

-- the slave at a place was given up by the last frame
abbrev pub gave_at : {G : Ghosts InHand} → List (Stop InHand G) → ℕ → Bool
gave_at ss p = holds_at (λ s. is_given_up s.news) ss p

-- of the slaves at these places that were given up none waits any more, and of all others the same do
pub record Drops (gave : ℕ → Bool) (places : List ℕ) (kss lss : List (List Keyed)) : Type 0 where
  pub long : length lss ≡ length kss
  pub each : (k : ℕ) → waits_in lss k ≡ (if gave k && is_in k places then [] else waits_in kss k)
