use Rattle.std.proofs.Common.{◌≡◌, map, ap, ◌∙◌}
use Rattle.std.specs.Prelude.{Some}
use Rattle.run_notes.specs.Slaves.{home_of}
use Rattle.run_notes.proofs.Stations.{first_lit}
use Rattle.run_notes.proofs.standing.Log.new.Goals as goal

pub invariant_of-result : goal.invariant_of-result
invariant_of-result c =
    let plan = c.args.plan.now in
    let a = c.homes.view_is in
    let b = c.stations.view_is in
    let h0 : c.in_ok-homes.homes ≡ map home_of plan.slaves = c.in_ok-homes.ensures ∙ ap (map home_of) c.as_slice.ensures in
    let s0 : c.in_ok-stations.stations ≡ map Some c.in_ok-homes.homes = c.in_ok-stations.ensures ∙ ap (map Some) c.as_slice-2.ensures in
    let h : c.homes.inside.rows.items ≡ map home_of plan.slaves = cc in
    let s : c.stations.inside.rows.items ≡ map Some c.homes.inside.rows.items = cc in
    record { lit = first_lit plan.recover plan.services plan.slaves c.homes.inside.rows.items c.stations.inside.rows.items c.in_ok-first_notes.field-0 h s c.in_ok-first_notes.ensures }
