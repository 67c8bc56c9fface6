use Rattle.std.proofs.Common.{◌≡◌, ap, ◌∙◌, arith, None}
use Rattle.std.specs.Map.{lookup}
use Rattle.idn_table.specs.Idns.{Key, Table, is_key, key_of, idn_of, are_idns, placed}
use Rattle.idn_table.proofs.Placed.{not_there, place_within, inserted, idns_placed}
use Rattle.idn_table.proofs.table.IdnTable.insert.Goals as goal

pub shift_insert-requires-clause-in_bounds : goal.shift_insert-requires-clause-in_bounds
shift_insert-requires-clause-in_bounds c = omega (arith, place_within (key_of c.args.spec.now) c.self.inside.idns.entries, c.place_above-place.ensures)

pub shift_insert-requires-clause-below_len : goal.shift_insert-requires-clause-below_len
shift_insert-requires-clause-below_len c =
    let key : Key = key_of c.args.spec.now in
    λ there. absurd (not_there (lookup (is_key key) c.self.inside.idns.entries) (ap (lookup (is_key key)) c.self.view_is ∙ c.requires.fresh) there)

pub invariant_of-self-2 : goal.invariant_of-self-2
invariant_of-self-2 c =
    let key : Key = key_of c.args.spec.now in
    let idns : Table = c.self.inside.idns.entries in
    let none : lookup (is_key key) idns ≡ None = ap (lookup (is_key key)) c.self.view_is ∙ c.requires.fresh in
    ap are_idns (c.in_ok-shift_insert.ensures.entries
    ∙ inserted key (idn_of c.args.spec.now) c.in_ok-idn.idn idns c.place_above-place.result none c.place_above-place.ensures c.in_ok-idn.ensures)
    ∙ idns_placed key (idn_of c.args.spec.now) idns c.self.invariant none c.requires.is

pub returns-clause-added : goal.returns-clause-added
returns-clause-added c =
    let key : Key = key_of c.args.spec.now in
    let idns : Table = c.self.inside.idns.entries in
    let none : lookup (is_key key) idns ≡ None = ap (lookup (is_key key)) c.self.view_is ∙ c.requires.fresh in
    c.in_ok-shift_insert.ensures.entries
    ∙ inserted key (idn_of c.args.spec.now) c.in_ok-idn.idn idns c.place_above-place.result none c.place_above-place.ensures c.in_ok-idn.ensures
    ∙ ap (placed key (idn_of c.args.spec.now)) c.self.view_is
