-- The IDNs of a slave taken one by one.
use Rattle.std.proofs.Common.{◌≡◌, ℕ, ◌+◌, ◌<◌, List, [], ◌∷◌, length, drop, get_or, subst, ap, sym, ◌∙◌}
use Rattle.std.proofs.lemmas.List.{drop_more}
use Rattle.soe_server.specs.of_idn_table.Idns as Table
use Rattle.soe_server.specs.of_idn_table.declared.spec.IdnSpec.{IdnSpec}
use Rattle.slave_server.specs.Spec.{with_idn, with_idns}

-- where a loop is that takes IDNs: i of them were looked at
abbrev pub HasTaken : List IdnSpec → ℕ → Table.Table → Type 0
HasTaken idns i table = with_idns (drop i idns) table ≡ with_idns idns []

-- one more
pub takes_more : (idns : List IdnSpec) (i : ℕ) (o : IdnSpec) → i < length idns → o ≡ get_or idns i o → (table new : Table.Table) → new ≡ with_idn o table → HasTaken idns i table → HasTaken idns (i + 1) new
takes_more idns i o lt is table new is_new taken =
    rw is_new (subst (λ os. with_idns os table ≡ with_idns idns []) (drop_more idns i o lt ∙ ap (λ p. p ∷ drop (i + 1) idns) (sym is)) taken)
