use Rattle.std.proofs.Common.{◌≡◌, Some, None, Ok, sym, ap, ◌∙◌}
use Rattle.std.specs.Map.{lookup, set_value}
use Rattle.idn_table.specs.Idns.{Key, Kept, Table, is_key, are_idns, idn_at, target, write_code_at}
use Rattle.idn_table.specs.declared.table.IdnTable.TheInside.{Inside}
use Rattle.idn_table.proofs.Lawful.{set_stays}
use Rattle.idn_table.proofs.Tables.{value_found, stores, none_stored}
use Rattle.idn_table.proofs.table.IdnTable.write_element.Goals as goal
use Rattle.idn_table.proofs.table.IdnTable.write_element.Goals.{in-Some-get_mut, in_default-get_mut}

pub store-requires : goal.store-requires
store-requires c =
    let found : idn_at c.args.self.now (target c.args.drive c.args.idn c.args.elements) ≡ Some c.in-Some-get_mut.kept.now =
    ap (lookup (is_key (c.args.drive, c.args.idn))) (sym c.self.view_is) ∙ sym c.in-Some-get_mut.ensures.value in
    value_found c.args.self.now (target c.args.drive c.args.idn c.args.elements) c.args.bytes.now c.in-Some-get_mut.kept.now found (sym c.in_default.ensures)

pub returns-clause-stores : goal.returns-clause-stores
returns-clause-stores c =
    let t = target c.args.drive c.args.idn c.args.elements in
    let key : Key = (c.args.drive, c.args.idn) in
    let free : write_code_at (idn_at c.args.self.now t) t c.args.bytes.now ≡ None = sym c.in_default.ensures in
    elim c.match-get_mut.branch [
      | in-Some-get_mut w ↦
          let found : idn_at c.args.self.now t ≡ Some w.in-Some-get_mut.kept.now =
          ap (lookup (is_key key)) (sym c.self.view_is) ∙ sym w.in-Some-get_mut.ensures.value in
          stores c.args.self.now t c.args.bytes.now w.in-Some-get_mut.kept.now found free
          ∙ ap (λ (es : Table). Ok es) (sym (ap (λ (x : Inside). x.idns.entries) w.self-inside-is
          ∙ (c.get_mut.follows.holds w.store.new.self).0
          ∙ ap (λ (es : Table). set_value (is_key key) es w.store.new.self) c.self.view_is
          ∙ ap (λ (i : Kept). set_value (is_key key) c.args.self.now i) w.store.ensures))
      | in_default-get_mut w ↦
          let missing : idn_at c.args.self.now t ≡ None =
          ap (lookup (is_key key)) (sym c.self.view_is) ∙ sym w.in_default-get_mut.ensures.value in
          absurd (none_stored c.args.self.now t c.args.bytes.now missing free)
    ]

pub invariant_of-self : goal.invariant_of-self
invariant_of-self c =
    let t = target c.args.drive c.args.idn c.args.elements in
    let key : Key = (c.args.drive, c.args.idn) in
    let idns : Table = c.self.inside.idns.entries in
    let free : write_code_at (idn_at idns t) t c.args.bytes.now ≡ None =
    ap (λ (es : Table). write_code_at (idn_at es t) t c.args.bytes.now) c.self.view_is ∙ sym c.in_default.ensures in
    elim c.match-get_mut.branch [
      | in-Some-get_mut w ↦
          ap (λ (x : Inside). are_idns x.idns.entries) w.self-inside-is
          ∙ ap are_idns ((c.get_mut.follows.holds w.store.new.self).0 ∙ ap (λ (i : Kept). set_value (is_key key) idns i) w.store.ensures)
          ∙ set_stays idns t c.args.bytes.now w.in-Some-get_mut.kept.now c.self.invariant (sym w.in-Some-get_mut.ensures.value) free
      | in_default-get_mut w ↦ absurd (none_stored idns t c.args.bytes.now (sym w.in_default-get_mut.ensures.value) free)
    ]
