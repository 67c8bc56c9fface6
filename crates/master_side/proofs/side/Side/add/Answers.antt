use Rattle.std.proofs.Common.{sym, ◌∙◌}
use Rattle.master_side.proofs.Grams.{errand_visit}
use Rattle.master_side.proofs.side.Side.add.Goals as goal

pub returns-in-Some-errand-clause-meant : goal.returns-in-Some-errand-clause-meant
returns-in-Some-errand-clause-meant g c = λ x lens d a l b s.
    errand_visit lens c.args.self.now.station c.args.index c.args.self.now.out c.args.self.now.inn c.args.self.now.duty _ c.errand.result _ c.add_errand.result d.halves a.hand
    (sym c.state_in_hand.ensures ∙ c.in-Some.is) c.in-Some-errand.is c.errand.ensures.of c.errand.ensures.access c.add_errand.ensures.order c.add_errand.ensures.word s.state
