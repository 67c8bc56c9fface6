use Rattle.std.proofs.Common.{rules, ◌≡◌, ◌∙◌, nat_eq}
use Rattle.indexmap.specs.IndexSet.{insert_key}
use Rattle.capture_audit.proofs.Keyed.{new_key}
use Rattle.capture_audit.proofs.places.Places.add_row.Goals as goal

pub returns-in-Ok-clause-added : goal.returns-in-Ok-clause-added
returns-in-Ok-clause-added g c =
    let put : c.insert.new.self.keys ≡ insert_key nat_eq c.args.self.now c.args.station = search rules in
    (put ∙ new_key c.args.station c.args.self.now c.requires.new, search rules)
