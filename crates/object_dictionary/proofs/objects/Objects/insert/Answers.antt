use Rattle.std.proofs.Common.{◌≡◌, sym, ap, ◌∙◌, subst, arith, true, None, length, ◌<◌}
use Rattle.object_dictionary.specs.Dictionary.{Table, object_of}
use Rattle.object_dictionary.specs.declared.object.Object.{Object}
use Rattle.object_dictionary.specs.Sound.{is_object, is_emitter, is_table, placed}
use Rattle.object_dictionary.proofs.Tests.{and_of}
use Rattle.object_dictionary.proofs.Placed.{place_within, inserted, table_placed}
use Rattle.object_dictionary.proofs.objects.Objects.insert.Goals as goal

pub shift_insert-requires-clause-in_bounds : goal.shift_insert-requires-clause-in_bounds
shift_insert-requires-clause-in_bounds c = omega (arith, place_within c.args.index c.self.inside.table.entries, c.place_above-place.ensures)

pub invariant_of-self-2 : goal.invariant_of-self-2
invariant_of-self-2 c =
    let o : Object = record { code = c.args.code; name = c.args.name; entries = c.args.entries } in
    let t = c.self.inside.table.entries in
    let absent = subst (λ (x : Table). object_of x c.args.index ≡ None) (sym c.self.view_is) c.requires.absent in
    let is = inserted c.args.index o c.in_ok-entries.entries t c.place_above-place.result absent c.place_above-place.ensures (c.in_ok-entries.ensures ∙ c.as_slice.ensures) in
    subst (λ (x : Table). is_table x ≡ true) (sym (c.in_ok-shift_insert.ensures.entries ∙ is))
    (table_placed c.args.index o t c.self.invariant absent (subst (λ (x : Table). length x < 258) (sym c.self.view_is) c.requires.few) (and_of (is_object o) (is_emitter c.args.index o) c.requires.object c.requires.emitter))

pub returns-clause-placed : goal.returns-clause-placed
returns-clause-placed c =
    let o : Object = record { code = c.args.code; name = c.args.name; entries = c.args.entries } in
    let absent = subst (λ (x : Table). object_of x c.args.index ≡ None) (sym c.self.view_is) c.requires.absent in
    c.in_ok-shift_insert.ensures.entries
    ∙ inserted c.args.index o c.in_ok-entries.entries c.self.inside.table.entries c.place_above-place.result absent c.place_above-place.ensures (c.in_ok-entries.ensures ∙ c.as_slice.ensures)
    ∙ ap (placed c.args.index o) c.self.view_is
