use Rattle.master_side.specs.of_mailbox_master.Any.{in_area_len}
use Rattle.master_tour.proofs.Mades.{planned_as, all_behind}
use Rattle.master_tour.proofs.tour.Tour.returned.Goals as goal

pub returns-clause-shown : goal.returns-clause-shown
returns-clause-shown g c = λ lens sent b n x more passed number recover lives h.
    all_behind _ _ _ _
    (λ a s t p r u ns. record {
      planned = planned_as lens a.spot s.side.station t.side.station s.place t.place s.start t.start s.stand t.stand s.side.out.len t.side.out.len (in_area_len s.side.inn) (in_area_len t.side.inn) u.0.station_is r.1 r.2 u.0.out_is u.0.in_is u.1 p.0.planned;
      shown = (r.0 (x a.spot) more passed number recover a.spot ns a.life p.0.planned.stands p.1 p.0.shown).shown;
    })
    lives c.args.self.now.stops.items c.hear.new.self.stops.items h (c.hear.ensures.lives lens sent b n) c.hear.ensures.kept
