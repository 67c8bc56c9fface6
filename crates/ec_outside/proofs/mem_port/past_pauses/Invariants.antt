use Rattle.std.proofs.Common.{◌≡◌, take, drop}
use Rattle.ec_outside.specs.Port.{grams_of, from_gram}
use Rattle.ec_outside.proofs.mem_port.past_pauses.Given as goal

abbrev pub invariant-loop-at : goal.invariant-loop-at
invariant-loop-at l =
    (from_gram (drop l.at l.items) ≡ from_gram (drop l.fn.from l.items)) × (grams_of (take l.at l.items) ≡ grams_of (take l.fn.from l.items))
