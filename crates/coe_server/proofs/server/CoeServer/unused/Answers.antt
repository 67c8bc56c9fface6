use Rattle.std.proofs.Common.{rules, ◌≡◌, ◌-◌, length, take, drop, min, ℕ, List, arith, length-drop}
use Rattle.std.proofs.lemmas.List.{length-take}
use Rattle.coe_server.proofs.server.CoeServer.unused.Goals as goal

-- the octets that are left or that a segment has room for
count_is : (most at count : ℕ) (value : List ℕ) → count ≡ min (length value - at) most → 7 - count ≡ 7 - length (take most (drop at value))
count_is most at count value e = omega (arith, e, length-take most (drop at value), length-drop at value)

pub returns-clause-unused : goal.returns-clause-unused
returns-clause-unused c = search (rules, length-take, length-drop, count_is)
