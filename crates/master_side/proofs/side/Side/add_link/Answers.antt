use Rattle.std.proofs.Common.{sym, ap, ◌∙◌}
use Rattle.mailbox_master.specs.of_link_model.Link.{Halves}
use Rattle.master_side.proofs.Grams.{held_meant, inward_meant}
use Rattle.master_side.proofs.side.Side.add_link.Goals as goal

pub returns-then-not-is_idle-clause-meant : goal.returns-then-not-is_idle-clause-meant
returns-then-not-is_idle-clause-meant g c = λ lens due h l b k.
    held_meant lens c.args.index c.args.self.now.out c.args.self.now.station h due c.args.self.now.out_is l (sym c.is_idle.ensures ∙ c.if-not-is_idle.true) c.add_write.ensures.reads (ap (λ (z : Halves _). z.out.holding) k)

pub returns-clause-meant : goal.returns-clause-meant
returns-clause-meant g c = λ lens due h l b k.
    inward_meant lens c.args.self.now.inn c.args.index c.args.self.now.station h due c.args.self.now.in_is b (ap (λ (z : Halves _). z.inn) k)
