use Rattle.std.proofs.Common.{◌∙◌, ◌+◌, ◌++◌, ◌∷◌, [], sym, ap, subst, arith, get_or, length, take}
use Rattle.std.proofs.lemmas.List.{take_more}
use Rattle.life_runs.specs.of_frame_view.Shares.{AllBoth, AllFrom}
use Rattle.master_node.specs.First.{IsFirst}
use Rattle.master_node.proofs.Filleds.{from_length}
use Rattle.master_node.proofs.Firsts.{from_more}
use Rattle.master_node.specs.Serving.{IsPaced}
use Rattle.master_node.proofs.Servings.{both_more}
use Rattle.master_node.proofs.starting.stops_of.Goals as goal

pub loop-place-preserved : goal.loop-place-preserved
loop-place-preserved c =
    let plan = c.args.plan.now in
    let p = c.loop-place.place in
    let xs = c.as_slice-slaves.result.now in
    let ss = c.loop-place.stops.items in
    let x = c.index-slaves-place.result in
    let all = c.loop-place.invariant.1 in
    let long = from_length (λ place spec s. IsFirst plan place spec s) 0 (take p xs) ss all in
    let many = c.loop-place.stops.ok.0 in
    let count = c.loop-place.invariant.0 in
    let l = c.loop-place-test.true in
    let ys = c.as_slice-paces.result.now in
    let same = c.requires.laid.paces in
    let more = take_more xs p x l ∙ ap (λ z. take p xs ++ z ∷ []) (sym c.index-slaves-place.is) in (
      c.in_ok-push.ensures.len ∙ ap (λ n. n + 1) count,
      subst (λ z. AllFrom (λ place spec s. IsFirst plan place spec s) 0 (take (p + 1) xs) z) (sym c.in_ok-push.ensures.items)
          (subst (λ z. AllFrom (λ place spec s. IsFirst plan place spec s) 0 z (ss ++ c.in_ok-stop_of.field-0 ∷ [])) (sym more)
          (from_more (λ place spec s. IsFirst plan place spec s) 0 p (take p xs) ss x c.in_ok-stop_of.field-0 all (omega (arith, long, many, count)) c.in_ok-stop_of.ensures.is)),
      subst (λ z. AllBoth (λ pace s. IsPaced pace s) (take (p + 1) ys) z) (sym c.in_ok-push.ensures.items)
          (subst (λ z. AllBoth (λ pace s. IsPaced pace s) z (ss ++ c.in_ok-stop_of.field-0 ∷ [])) (sym (take_more ys p 0 (let lx = ap length c.as_slice-slaves.ensures in let ly = ap length c.as_slice-paces.ensures in omega (arith, l, same, lx, ly))))
          (both_more (λ pace s. IsPaced pace s) (take p ys) ss (get_or ys p 0) c.in_ok-stop_of.field-0 c.loop-place.invariant.2 c.in_ok-stop_of.ensures.paced)),
    )
