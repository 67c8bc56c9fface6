-- What a ring asks of the plan that it is made of.
use Rattle.std.proofs.Common.{◌≡◌, ℕ, suc, ◌+◌, ◌≤◌, ◌&&◌, Bool, true, false, List, [], ◌∷◌, map, refl, leb-true, arith}
use Rattle.std.specs.Prelude.{All, nat_le}
use Rattle.std.proofs.lemmas.List.Elements.{All-head, All-tail}
use Rattle.packets_heard.specs.of_segment_plan.declared.slave.SlaveSpec.{SlaveSpec}
use Rattle.packets_heard.specs.of_segment_plan.Sound.{are_lost_from, IsPace}
use Rattle.served_places.specs.of_segment_ring.Ring.{ArePaces, AllFew}
use Rattle.served_places.specs.of_segment_ring.Schedule.{AllFrom, Rises}
use Rattle.packets_heard.specs.of_slave_node.Node.{Node}
use Rattle.packets_heard.specs.of_slave_server.Spec.{node_of}
use Rattle.packets_heard.specs.of_slave_server.declared.server.SlaveServer.{SlaveServer}

weaker : (lose : List (ℕ × ℕ)) (a b : ℕ) → a ≤ b → AllFrom b lose → AllFrom a lose
weaker [] a b le from = tt
weaker (row ∷ lose) a b le from = (let high = from.0 in omega (arith, le, high), weaker lose a b le from.1)

both : (x y : Bool) → (x && y) ≡ true → (x ≡ true) × (y ≡ true)
both true y e = (refl, e)
both false y e = absurd (cc)

-- lost frames whose numbers rise from one on
pub lost_rise : (slaves least : ℕ) (lose : List (ℕ × ℕ)) → are_lost_from slaves least lose ≡ true → AllFrom least lose × Rises lose
lost_rise slaves least [] are = (tt, tt)
lost_rise slaves least (row ∷ lose) are =
    let parts = both (nat_le least row.0 && nat_le row.1 slaves) (are_lost_from slaves (row.0 + 1) lose) are in
    let low = leb-true least row.0 (both (nat_le least row.0) (nat_le row.1 slaves) parts.0).0 in
    let more = lost_rise slaves (row.0 + 1) lose parts.1 in
    ((low, weaker lose least (row.0 + 1) (omega (arith, low)) more.0), (weaker lose (suc row.0) (row.0 + 1) (omega arith) more.0, more.1))

pub paces_are : (paces : List ℕ) → All IsPace paces → ArePaces paces
paces_are [] all = tt
paces_are (pace ∷ paces) all = let one = All-head IsPace pace paces all in (one.0, one.1, paces_are paces (All-tail IsPace pace paces all))

-- no slave has carried out a service yet
pub few_new : (specs : List SlaveSpec) → AllFew (λ (n : Node SlaveServer). n.server.server.handled) 9223372036854775808 (map node_of specs)
few_new [] = tt
few_new (spec ∷ specs) = (omega arith, few_new specs)
