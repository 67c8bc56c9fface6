use Rattle.std.proofs.Common.{sym, subst, ◌∙◌}
use Rattle.coe_values.specs.Chains.{AreChains}
use Rattle.coe_values.proofs.Ends.{ended}
use Rattle.coe_values.proofs.chains.end.Goals as goal

pub returns-in-Some-clause-ended : goal.returns-in-Some-clause-ended
returns-in-Some-clause-ended c = λ other are.
    ended c.args.pool.now c.close.new.self c.in-Some.id other c.close.ensures (subst (λ one. AreChains c.args.pool.now one other) (sym c.take.ensures.value ∙ c.in-Some.is) are)
