use Rattle.std.proofs.Common.{◌≡◌, ap, true, false}
use Rattle.std.specs.Prelude.{nat_lt, not}
use Rattle.master_tour.specs.Rooms.{LosesAgain}
use Rattle.master_side.specs.of_mailbox_master.Any.{in_area_len}
use Rattle.master_tour.proofs.Mades.{planned_as, all_behind}
use Rattle.master_tour.proofs.Walks.{each_map}
use Rattle.master_tour.proofs.tour.Tour.lost.Goals as goal

pub returns-then-comes_again-clause-lives : goal.returns-then-comes_again-clause-lives
returns-then-comes_again-clause-lives g c = λ lens octets. each_map _ _ c.args.self.now.stops.items c.all_lost.new.self.stops.items (λ s t p. ((λ x more passed number recover spot ns k i u h. p.0 lens octets x more passed number recover spot ns k i u h), p.1, p.2)) c.all_lost.ensures.lives

pub returns-clause-lives : goal.returns-clause-lives
returns-clause-lives g c = λ lens octets. each_map _ _ c.args.self.now.stops.items c.all_lost.new.self.stops.items (λ s t p. ((λ x more passed number recover spot ns k i u h. p.0 lens octets x more passed number recover spot ns k i u h), p.1, p.2)) c.all_lost.ensures.lives

pub returns-then-comes_again-clause-shown : goal.returns-then-comes_again-clause-shown
returns-then-comes_again-clause-shown g c = λ lens octets x more passed number recover lives h.
    all_behind _ _ _ _
    (λ a s t p r u ns. record {
      planned = planned_as lens a.spot s.side.station t.side.station s.place t.place s.start t.start s.stand t.stand s.side.out.len t.side.out.len (in_area_len s.side.inn) (in_area_len t.side.inn) u.0.station_is r.1 r.2 u.0.out_is u.0.in_is u.1 p.0.planned;
      shown = (r.0 lens octets (x a.spot) more passed number recover a.spot ns a.life p.0.planned.stands p.1 p.0.shown).shown;
    })
    lives c.args.self.now.stops.items c.all_lost.new.self.stops.items h c.all_lost.ensures.lives c.all_lost.ensures.kept

pub returns-clause-shown : goal.returns-clause-shown
returns-clause-shown g c = λ lens octets x more passed number recover lives h.
    all_behind _ _ _ _
    (λ a s t p r u ns. record {
      planned = planned_as lens a.spot s.side.station t.side.station s.place t.place s.start t.start s.stand t.stand s.side.out.len t.side.out.len (in_area_len s.side.inn) (in_area_len t.side.inn) u.0.station_is r.1 r.2 u.0.out_is u.0.in_is u.1 p.0.planned;
      shown = (r.0 lens octets (x a.spot) more passed number recover a.spot ns a.life p.0.planned.stands p.1 p.0.shown).shown;
    })
    lives c.args.self.now.stops.items c.all_lost.new.self.stops.items h c.all_lost.ensures.lives c.all_lost.ensures.kept

pub returns-then-comes_again-clause-join : goal.returns-then-comes_again-clause-join
returns-then-comes_again-clause-join g c = each_map _ _ c.args.self.now.stops.items c.all_lost.new.self.stops.items (λ s t p. p) c.all_lost.ensures.join

pub returns-clause-join : goal.returns-clause-join
returns-clause-join g c = each_map _ _ c.args.self.now.stops.items c.all_lost.new.self.stops.items (λ s t p. p) c.all_lost.ensures.join

pub returns-then-comes_again-clause-again : goal.returns-then-comes_again-clause-again
returns-then-comes_again-clause-again g c =
    let t = c.args.self.now in
    each_map (λ s u. not (nat_lt t.missed t.retry) ≡ false → LosesAgain s u) (λ s u. nat_lt t.missed t.retry ≡ true → LosesAgain s u) t.stops.items c.all_lost.new.self.stops.items (λ s u p e. p (ap not e)) c.all_lost.ensures.again

pub returns-clause-again : goal.returns-clause-again
returns-clause-again g c =
    let t = c.args.self.now in
    each_map (λ s u. not (nat_lt t.missed t.retry) ≡ false → LosesAgain s u) (λ s u. nat_lt t.missed t.retry ≡ true → LosesAgain s u) t.stops.items c.all_lost.new.self.stops.items (λ s u p e. p (ap not e)) c.all_lost.ensures.again

pub returns-then-comes_again-clause-passing : goal.returns-then-comes_again-clause-passing
returns-then-comes_again-clause-passing g c = λ lens octets. each_map _ _ c.args.self.now.stops.items c.all_lost.new.self.stops.items (λ s t p. p lens octets) c.all_lost.ensures.passing

pub returns-clause-passing : goal.returns-clause-passing
returns-clause-passing g c = λ lens octets. each_map _ _ c.args.self.now.stops.items c.all_lost.new.self.stops.items (λ s t p. p lens octets) c.all_lost.ensures.passing

pub returns-then-comes_again-clause-recalled : goal.returns-then-comes_again-clause-recalled
returns-then-comes_again-clause-recalled g c = each_map _ _ c.args.self.now.stops.items c.all_lost.new.self.stops.items (λ s t p. p) c.all_lost.ensures.recalled

pub returns-clause-recalled : goal.returns-clause-recalled
returns-clause-recalled g c = each_map _ _ c.args.self.now.stops.items c.all_lost.new.self.stops.items (λ s t p. p) c.all_lost.ensures.recalled
