use Rattle.std.proofs.Common.{ℕ, true, false, ap, ◌∙◌, refl, arith, ◌-◌, ◌%◌}
use Rattle.std.specs.Prelude.{nat_lt}
use Rattle.master_side.specs.of_al_state.declared.bringing.BringUp.{BringUp}
use Rattle.master_side.specs.Shown.{SideShows}
use Rattle.master_tour.specs.Stands.{opening_of, is_still, has_step}
use Rattle.master_tour.proofs.Backs.{given_up_follows}
use Rattle.master_tour.proofs.stop.Stop.give_up.Goals as goal

pub returns-clause-lives : goal.returns-clause-lives
returns-clause-lives g c = λ x number recover spot l sp sh.
    let t = c.args.self.now in
    let w = c.args.self.now.side in
    let y = c.renew.new.self in
    let up = c.opening-up.result in
    let is = c.opening-up.ensures in
    let left = c.if-self-eq0.false in
    given_up_follows (λ d a. SideShows (g.H.Hand.shows w.hand x) w.out w.inn w.fresh w.duty d a) (λ d a. SideShows (g.H.Hand.shows y.hand x) y.out y.inn y.fresh y.duty d a) number recover spot t.stand t.spare _ up l (omega (arith, left)) refl sh
    (λ d a s. c.renew.ensures.shown x d a s) (ap (λ (z : BringUp). opening_of z false) is ∙ (λ i. record { again = true; step = 1; state = sp.start_is i; own = false })) (ap is_still is)
    (record {
      step = ap has_step is;
      state = ap (λ (z : BringUp). nat_lt z.start 16) is ∙ sp.small;
      station = ap (λ (z : BringUp). z.station) is ∙ sp.station_is;
      place = ap (λ (z : BringUp). z.adp) is ∙ ap (λ (n : ℕ). (65536 - n) % 65536) sp.place_is;
    })
