-- A running slave as it is switched on, and behind octets that pass it.
use Rattle.std.proofs.Common.{◌≡◌, ℕ, Bool, List, refl, sym, ◌∙◌, subst, arith}
use Rattle.frames_seen.proofs.Passes as Octets
use Rattle.frames_seen.specs.of_mailbox_slave.Registers.{in_len}
use Rattle.frames_seen.specs.of_slave_node.Node as Node
use Rattle.frames_seen.specs.of_slave_node.Node.{new_node, node_passed}
use Rattle.slave_lives.specs.Steps as The
use Rattle.slave_lives.specs.Nodes.{IsKept, IsRunning}
use Rattle.slave_lives.proofs.NodeSteps.{kept_new}

pub begins : {S : Type 0} (u : The.Running S) (out back : ℕ) (boot : Bool) (s : S) → u.clear s ≡ s → IsRunning u (new_node out back boot s)
begins u out back boot s clear = record {
  shows = record { status = refl; code = refl; state = refl; error = omega arith };
  kept = kept_new (in_len (new_node out back boot s).registers);
  init = λ is. refl;
  cleared = λ is. clear;
}

pub passes_on : {S : Type 0} (u : The.Running S) (n : Node.Node S) (octets : List ℕ) → IsRunning u n → IsRunning u (node_passed n octets).0
passes_on u n octets runs =
    let kept = Octets.keeps n.registers octets in
    record {
      shows = record { status = kept.status ∙ runs.shows.status; code = kept.code ∙ runs.shows.code; state = runs.shows.state; error = runs.shows.error };
      kept = subst (λ (len : ℕ). IsKept len n.kept) (sym kept.inward) runs.kept;
      init = runs.init;
      cleared = runs.cleared;
    }
