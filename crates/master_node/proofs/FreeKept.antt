-- A SIDE IS AS FREE AS IT WAS where the same is in hand.
use Rattle.std.proofs.Common.{◌≡◌, ℕ}
use Rattle.std.specs.Prelude.{◌&&◌, is_none}
use Rattle.life_runs.specs.of_master_hand.Over.{done_by, over_by}
use Rattle.life_runs.specs.of_master_hand.contracts.hand.InHandHand.TheImpl as Impl
use Rattle.life_runs.specs.of_master_hand.declared.hand.InHand.{InHand}
use Rattle.life_runs.specs.of_master_side.Carried.{in_hand}
use Rattle.life_runs.specs.of_master_side.Free.{is_free_side}
use Rattle.life_runs.specs.of_master_tour.declared.stop.Stop.{Stop}
use Rattle.master_node.specs.Kept.{StopKept}

pub free_kept : (n : ℕ) (s t : Stop InHand Impl.ghosts) → StopKept n s t → is_free_side t.side ≡ is_free_side s.side
free_kept n s t k = λ j.
    (is_none (in_hand (k.side.side.duty_is j)) && is_none (k.side.passing j)) &&
    (over_by (k.side.hand.course_is j) (k.side.hand.which_is j) (k.side.hand.clients_are j) (k.side.side.fresh_is j) (is_none (k.side.side.out_is j).state) && done_by (k.side.hand.course_is j) (k.side.hand.which_is j) (k.side.hand.clients_are j) (is_none (k.side.side.out_is j).state))
