use Rattle.file_store.proofs.Views.{begin_shown, begin_kept, begin_full}
use Rattle.file_store.proofs.store.Store.begin_chain.Goals as goal

pub unreachable-requires : goal.unreachable-requires
unreachable-requires c = begin_full c.self.inside.pool c.self.inside.files.items c.self.inside.part c.args.self.now c.requires.none c.self.view_is c.self.invariant c.in-None.ensures.full

pub invariant_of-self : goal.invariant_of-self
invariant_of-self c =
    begin_kept c.self.inside.pool c.begin.new.self c.self.inside.files.items c.self.inside.part (record { name = c.args.name; chain = c.in-Some.chain }) c.args.self.now
    c.requires.none c.self.view_is c.self.invariant c.in-Some.ensures.begun c.requires.there

pub returns : goal.returns
returns c =
    begin_shown c.self.inside.pool c.begin.new.self c.self.inside.files.items c.self.inside.part (record { name = c.args.name; chain = c.in-Some.chain }) c.args.self.now
    c.requires.none c.self.view_is c.self.invariant c.in-Some.ensures.begun
