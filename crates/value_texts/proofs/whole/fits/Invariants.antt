use Rattle.std.proofs.Common.{◌≡◌, drop}
use Rattle.value_texts.specs.Whole.{fits}
use Rattle.value_texts.proofs.whole.fits.Given as goal

abbrev pub invariant-loop-entry : goal.invariant-loop-entry
invariant-loop-entry l = fits (drop l.entry-index l.entries) l.left ≡ fits l.entries l.size
