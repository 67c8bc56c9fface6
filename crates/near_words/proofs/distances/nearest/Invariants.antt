use Rattle.std.proofs.Common.{◌≡◌, drop, fold, map, option_copied}
use Rattle.near_words.specs.Near.{nearer, nearest}
use Rattle.near_words.proofs.distances.nearest.Given as goal

abbrev pub invariant-loop-other : goal.invariant-loop-other
invariant-loop-other l = fold (λ best other. nearer l.word best other) (option_copied l.best) (map (λ w. w.now) (drop l.other-index l.words)) ≡ nearest l.word (map (λ w. w.now) l.words)
