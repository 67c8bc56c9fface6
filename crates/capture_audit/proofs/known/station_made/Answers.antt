use Rattle.std.proofs.Common.{rules, refl, ◌≡◌, ◌==◌, position, Some, None}
use Rattle.capture_audit.specs.declared.station.StationAudit.{StationAudit}
use Rattle.capture_audit.specs.Audit.{new_station}
use Rattle.capture_audit.proofs.Keyed.{row_found, row_made, places_made}
use Rattle.capture_audit.proofs.known.station_made.Goals as goal

pub returns-in-Some-clause-row : goal.returns-in-Some-clause-row
returns-in-Some-clause-row c =
    let found : position (λ s. s == c.args.station) c.args.places.now ≡ Some c.in-Some.at = search rules in
    row_found (λ (s : StationAudit). s.station) (new_station c.args.station) c.args.station c.args.places.now c.args.stations.now c.in-Some.at c.requires found

pub returns-in-None-clause-row : goal.returns-in-None-clause-row
returns-in-None-clause-row c =
    let none : position (λ s. s == c.args.station) c.args.places.now ≡ None = search rules in
    row_made (λ (s : StationAudit). s.station) (new_station c.args.station) c.args.station c.args.places.now c.add_row.new.self c.args.stations.now c.add_row.new.rows c.add_row.result c.requires none c.add_row.ensures.at (search rules)

pub returns-in-None-clause-places : goal.returns-in-None-clause-places
returns-in-None-clause-places c =
    places_made (λ (s : StationAudit). s.station) (new_station c.args.station) c.args.station c.args.places.now c.add_row.new.self c.args.stations.now c.add_row.new.rows c.add_row.result c.requires refl (search rules) c.add_row.ensures.err
