use Rattle.std.proofs.Common.{◌≡◌, sym, subst, ◌∙◌}
use Rattle.std.specs.Prelude.{slice_set, None}
use Rattle.block_pool.specs.Region.{Closes}
use Rattle.file_store.specs.Store.{IsPlaceOf, IsStore, stored_of}
use Rattle.file_store.specs.Stored.{part_name, part_octets}
use Rattle.file_store.specs.Files.{put}
use Rattle.file_store.proofs.Views.{commit_shown, commit_kept}
use Rattle.file_store.proofs.store.Store.commit.Goals as goal

pub invariant_of-self : goal.invariant_of-self
invariant_of-self c =
    let at : IsPlaceOf c.in-Some.part.name.items c.self.inside.files.items c.in-Some-place_of.place =
    subst (λ n. IsPlaceOf n c.self.inside.files.items c.in-Some-place_of.place) c.as_slice-in-Some.ensures.value
    (subst (λ fs. IsPlaceOf c.as_slice-in-Some.result.now fs c.in-Some-place_of.place) c.as_slice.ensures.value c.in-Some-place_of.ensures.found) in
    let closes : Closes c.self.inside.pool c.index_mut.result.now.chain c.close.new.self = subst (λ k. Closes c.self.inside.pool k c.close.new.self) c.replace-old.ensures.value c.close.ensures in
    subst (λ k. IsStore c.close.new.self (slice_set c.self.inside.files.items c.in-Some-place_of.place (record { spec = c.index_mut.result.now.spec; chain = k })) c.take.new.self)
    (sym c.replace-old.ensures.after)
    (commit_kept c.self.inside.pool c.close.new.self c.self.inside.files.items c.self.inside.part c.take.new.self c.in-Some.part c.in-Some-place_of.place c.index_mut.result.now
    (sym c.take.ensures.value ∙ c.in-Some.is) c.take.ensures.after c.self.invariant at c.index_mut.ensures.value closes)

pub returns : goal.returns
returns c =
    let at : IsPlaceOf c.in-Some.part.name.items c.self.inside.files.items c.in-Some-place_of.place =
    subst (λ n. IsPlaceOf n c.self.inside.files.items c.in-Some-place_of.place) c.as_slice-in-Some.ensures.value
    (subst (λ fs. IsPlaceOf c.as_slice-in-Some.result.now fs c.in-Some-place_of.place) c.as_slice.ensures.value c.in-Some-place_of.ensures.found) in
    let closes : Closes c.self.inside.pool c.index_mut.result.now.chain c.close.new.self = subst (λ k. Closes c.self.inside.pool k c.close.new.self) c.replace-old.ensures.value c.close.ensures in
    subst
    (λ k. stored_of c.close.new.self (slice_set c.self.inside.files.items c.in-Some-place_of.place (record { spec = c.index_mut.result.now.spec; chain = k })) c.take.new.self
    ≡ record { kept = put c.args.self.now.kept (part_name c.args.self.now) (part_octets c.args.self.now); part = None })
    (sym c.replace-old.ensures.after)
    (commit_shown c.self.inside.pool c.close.new.self c.self.inside.files.items c.self.inside.part c.take.new.self c.in-Some.part c.in-Some-place_of.place c.index_mut.result.now
    c.args.self.now (sym c.take.ensures.value ∙ c.in-Some.is) c.take.ensures.after c.self.view_is c.self.invariant at c.index_mut.ensures.value closes)
