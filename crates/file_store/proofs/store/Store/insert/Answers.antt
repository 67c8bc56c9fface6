use Rattle.std.proofs.Common.{rules, ◌≡◌, ◌++◌, ◌∷◌, [], subst}
use Rattle.std.specs.Prelude.{OnOk}
use Rattle.block_pool.specs.Region.{Appends}
use Rattle.file_store.proofs.Views.{insert_shown, insert_kept, insert_full}
use Rattle.file_store.proofs.store.Store.insert.Goals as goal

pub unreachable-requires : goal.unreachable-requires
unreachable-requires c = insert_full c.self.inside.pool c.self.inside.files.items c.self.inside.part c.args.self.now c.self.view_is c.self.invariant c.requires.few c.in-None.ensures.full

pub invariant_of-self-in-Some : goal.invariant_of-self-in-Some
invariant_of-self-in-Some c =
    let appends : Appends c.begin.new.self c.in-Some.chain c.args.bytes.now c.append.new.self =
    subst (λ r. OnOk r (Appends c.begin.new.self c.in-Some.chain c.args.bytes.now c.append.new.self)) c.unwrap.ensures c.append.ensures.ok in
    let pushed : c.push.new.self.items ≡ c.self.inside.files.items ++ (record { spec = c.args.spec; chain = c.in-Some.chain }) ∷ [] = search rules in
    insert_kept c.self.inside.pool c.begin.new.self c.append.new.self c.self.inside.files.items c.push.new.self.items c.self.inside.part (record { spec = c.args.spec; chain = c.in-Some.chain })
    c.args.bytes.now c.args.self.now c.self.view_is c.self.invariant c.in-Some.ensures.begun appends pushed c.requires.few c.requires.busy

pub returns-clause-ok : goal.returns-clause-ok
returns-clause-ok c =
    let appends : Appends c.begin.new.self c.in-Some.chain c.args.bytes.now c.append.new.self =
    subst (λ r. OnOk r (Appends c.begin.new.self c.in-Some.chain c.args.bytes.now c.append.new.self)) c.unwrap.ensures c.append.ensures.ok in
    let pushed : c.push.new.self.items ≡ c.self.inside.files.items ++ (record { spec = c.args.spec; chain = c.in-Some.chain }) ∷ [] = search rules in
    insert_shown c.self.inside.pool c.begin.new.self c.append.new.self c.self.inside.files.items c.push.new.self.items c.self.inside.part (record { spec = c.args.spec; chain = c.in-Some.chain })
    c.args.bytes.now c.args.self.now c.self.view_is c.self.invariant c.in-Some.ensures.begun appends pushed
