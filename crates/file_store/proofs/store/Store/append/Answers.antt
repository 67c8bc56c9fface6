use Rattle.file_store.proofs.Views.{append_shown, append_kept}
use Rattle.file_store.proofs.store.Store.append.Goals as goal

pub invariant_of-self : goal.invariant_of-self
invariant_of-self c =
    append_kept c.self.inside.pool c.append.new.self c.self.inside.files.items c.self.inside.part c.in-Some.part c.args.bytes.now c.append.result c.in-Some.is
    c.self.invariant c.append.ensures.ok c.append.ensures.err

pub returns-clause-ok : goal.returns-clause-ok
returns-clause-ok c =
    append_shown c.self.inside.pool c.append.new.self c.self.inside.files.items c.self.inside.part c.in-Some.part c.args.bytes.now c.append.result c.args.self.now
    c.in-Some.is c.self.view_is c.self.invariant c.append.ensures.ok
