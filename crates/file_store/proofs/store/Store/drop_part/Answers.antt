use Rattle.std.proofs.Common.{sym, ◌∙◌}
use Rattle.file_store.proofs.Views.{drop_shown, drop_kept}
use Rattle.file_store.proofs.store.Store.drop_part.Goals as goal

pub invariant_of-self : goal.invariant_of-self
invariant_of-self c =
    drop_kept c.self.inside.pool c.close.new.self c.self.inside.files.items c.self.inside.part c.take.new.self c.in-Some.part (sym c.take.ensures.value ∙ c.in-Some.is)
    c.take.ensures.after c.self.invariant c.close.ensures

pub returns-in-Some : goal.returns-in-Some
returns-in-Some c =
    drop_shown c.self.inside.pool c.close.new.self c.self.inside.files.items c.self.inside.part c.take.new.self c.in-Some.part c.args.self.now
    (sym c.take.ensures.value ∙ c.in-Some.is) c.take.ensures.after c.self.view_is c.self.invariant c.close.ensures
