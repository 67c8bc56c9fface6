use Rattle.capture_audit.specs.declared.station.StationAudit.{StationAudit}
use Rattle.capture_audit.proofs.Keyed.{places_kept}
use Rattle.capture_audit.proofs.known.note.Goals as goal

pub returns-clause-places : goal.returns-clause-places
returns-clause-places c =
    places_kept (λ (s : StationAudit). s.station) c.station_made.new.places c.station_made.new.stations c.in_ok-at.at c.at_mut.result.now c.note.new.self c.station_made.ensures.places c.at_mut.ensures.value c.note.ensures.station
