use Rattle.std.proofs.Common.{◌≡◌, map, drop}
use Rattle.scenario_slaves.specs.Protocols.{served_of, none_served}
use Rattle.scenario_slaves.proofs.protocols.served_by.Given as goal

abbrev pub invariant-loop-word : goal.invariant-loop-word
invariant-loop-word l = served_of l.place l.served (map (λ w. w.now) (drop l.word-index l.words)) ≡ served_of l.place none_served (map (λ w. w.now) l.words)
