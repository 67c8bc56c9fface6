use Rattle.capture_audit.specs.declared.station.Seat.{Seat}
use Rattle.capture_audit.proofs.Keyed.{places_kept}
use Rattle.capture_audit.proofs.known.Ledger.manage.Goals as goal

pub invariant_of-self-in_ok-station_made : goal.invariant_of-self-in_ok-station_made
invariant_of-self-in_ok-station_made c = (
  places_kept (λ (s : Seat). s.station) c.seat_made.new.places c.seat_made.new.seats c.in_ok-at.at c.at_mut.result.now c.manage.new.self c.seat_made.ensures.places c.at_mut.ensures.value c.manage.ensures.station,
  c.station_made.ensures.places,
)

pub invariant_of-self-in_err-station_made : goal.invariant_of-self-in_err-station_made
invariant_of-self-in_err-station_made c = (
  places_kept (λ (s : Seat). s.station) c.seat_made.new.places c.seat_made.new.seats c.in_ok-at.at c.at_mut.result.now c.manage.new.self c.seat_made.ensures.places c.at_mut.ensures.value c.manage.ensures.station,
  c.station_made.ensures.places,
)

pub invariant_of-self-else-manage : goal.invariant_of-self-else-manage
invariant_of-self-else-manage c = (
  places_kept (λ (s : Seat). s.station) c.seat_made.new.places c.seat_made.new.seats c.in_ok-at.at c.at_mut.result.now c.manage.new.self c.seat_made.ensures.places c.at_mut.ensures.value c.manage.ensures.station,
  c.self.invariant.1,
)
