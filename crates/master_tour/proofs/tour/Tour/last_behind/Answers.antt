use Rattle.std.proofs.Common.{◌≡◌, ◌-◌, Bool, Some, None, length, sym, ap, ◌∙◌, subst, arith}
use Rattle.std.specs.Prelude.{slice_get, if◌then◌else◌}
use Rattle.std.proofs.lemmas.Bool.{le-ltb}
use Rattle.master_tour.proofs.Firsts.{last_some}
use Rattle.master_tour.proofs.tour.Tour.last_behind.Goals as goal

pub returns-in-Some : goal.returns-in-Some
returns-in-Some g c =
    let t = c.args.self.now in
    let place = c.in-Some.place.now in
    let n = c.len.ensures ∙ t.stops.ok.0 in
    let test = c.if-self-len.true in
    let got = subst (λ z. slice_get z (length z - 1) ≡ Some place) c.deref.ensures.0 (sym c.in-Some.ensures.value) in
    sym (last_some t.opened (length t.stops.items) t.last t.visit.items place got ∙ ap (λ (z : Bool). if z then None else Some place) (le-ltb t.opened (length t.stops.items) (omega (arith, n, test))))
