use Rattle.std.proofs.Common.{◌≡◌, ℕ, ◌-◌, ◌<◌, ◌≤◌, length, take, true, false}
use Rattle.toml_places.specs.Items.{is_closed}
use Rattle.toml_places.specs.Lines.{is_line_end}
use Rattle.toml_places.proofs.items.item_line.Given as goal

abbrev pub invariant-loop-from : goal.invariant-loop-from
invariant-loop-from l = record {
  within : l.from ≤ length l.block;
  none : (k : ℕ) → 0 < k → k ≤ l.from → is_line_end l.block k ≡ true → is_closed l.path (take k l.block) ≡ false;
}

abbrev pub decreases-loop-from : goal.decreases-loop-from
decreases-loop-from l = length l.block - l.from
