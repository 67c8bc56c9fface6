use Rattle.std.proofs.Common.{◌≡◌, arith, sym, ap, refl, ◌∙◌, true, false, length}
use Rattle.std.specs.Prelude.{nat_lt, ◌∷◌, []}
use Rattle.std.proofs.lemmas.Bool.Decides.{nat_tests}
use Rattle.master_node.specs.Arrivals.{arrive_by}
use Rattle.master_node.proofs.Arrivals.{arrive_one, arrive_short}
use Rattle.master_node.proofs.Downs.{lists_one, lists_none}
use Rattle.master_node.proofs.Happenings.{from_slave}
use Rattle.master_node.proofs.lan.Lan.came.Goals as goal

pub returns-in-Some-clause-happens : goal.returns-in-Some-clause-happens
returns-in-Some-clause-happens c =
    from_slave c.in-Some.port c.args.packet c.args.self.now c.arrive.new.self c.in-Some.ensures.behind c.in-Some.ensures.inside (omega arith) c.arrive.ensures

pub returns-in-Some-clause-listed : goal.returns-in-Some-clause-listed
returns-in-Some-clause-listed c =
    let long : nat_lt (length c.args.packet.items) 14 ≡ false = grind (arith, nat_tests) in
    lists_one _ _ _ _ (ap (λ z. arrive_by z (c.args.packet.items ∷ [])) (sym c.in-Some.ensures.is) ∙ arrive_one c.in-Some.port c.args.packet.items false long) c.arrive.ensures.ports c.arrive.ensures.listed

pub returns-in_default-clause-listed : goal.returns-in_default-clause-listed
returns-in_default-clause-listed c = lists_none _ _ _ (ap (λ z. arrive_by z (c.args.packet.items ∷ [])) (sym c.port.ensures.is ∙ c.in_default.is)) refl

pub returns-then-len-lt-LEAST-clause-listed : goal.returns-then-len-lt-LEAST-clause-listed
returns-then-len-lt-LEAST-clause-listed c =
    let short : nat_lt (length c.args.packet.items) 14 ≡ true = grind (arith, nat_tests) in
    lists_none _ _ _ (arrive_short _ c.args.packet.items short) refl
