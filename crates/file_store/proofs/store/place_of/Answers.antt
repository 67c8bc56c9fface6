use Rattle.std.proofs.Common.{◌≡◌, true, sym, ap, ◌∙◌}
use Rattle.std.specs.Str.{bytes_eq}
use Rattle.file_store.specs.Store.{has_name}
use Rattle.file_store.proofs.Places.{place_is, none_is, named_at}
use Rattle.file_store.proofs.store.place_of.Goals as goal

pub returns-then-eq-clause-found : goal.returns-then-eq-clause-found
returns-then-eq-clause-found c =
    let named : has_name c.args.name.now c.index-files-place.result ≡ true = ap (λ n. bytes_eq n c.args.name.now) (sym c.as_slice.ensures.value) ∙ sym c.if-eq.ensures in
    place_is c.args.name.now c.args.files.now c.loop-place.place c.loop-place-test.true
    (named_at c.args.name.now c.args.files.now c.loop-place.place c.index-files-place.result c.loop-place-test.true c.index-files-place.is named) c.loop-place.invariant

pub returns-clause-none : goal.returns-clause-none
returns-clause-none c = none_is c.args.name.now c.args.files.now c.loop-place.place c.loop-place-test.false c.loop-place.invariant
