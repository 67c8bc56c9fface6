use Rattle.std.proofs.Common.{◌<◌, ℕ, List, length, sym, ap, ◌∙◌, arith}
use Rattle.std.specs.Prelude.{Option, slice_set}
use Rattle.std.proofs.lemmas.Result.{on_ok_weaker}
use Rattle.run_notes.specs.Notes.{stations_of}
use Rattle.run_notes.proofs.Reporting.{set_reports}
use Rattle.run_notes.proofs.Stations.{among_stations, one_noted}
use Rattle.run_notes.proofs.Stays.{stays_set}
use Rattle.run_notes.proofs.Ways.{on_ok_all}
use Rattle.run_notes.proofs.Handings.{beyond, past_end, told_set}
use Rattle.run_notes.specs.Handed.{kind_told}
use Rattle.run_notes.proofs.Timings.{keeps_set}
use Rattle.run_notes.specs.Times.{behind}
use Rattle.run_notes.proofs.standing.Log.note_slave.Goals as goal

pub at_mut-requires : goal.at_mut-requires
at_mut-requires c =
    let log = c.args.self.now in
    let e = c.in-Some.ensures in
    let inside : c.args.at < length log.notes = omega arith in
    let more = among_stations log.recover log.homes log.notes c.args.at _ (sym e) inside in
    let same = ap length log.lit in
    omega (arith, more, same)

pub invariant_of-self : goal.invariant_of-self
invariant_of-self c =
    let log = c.args.self.now in
    let e = c.in-Some.ensures in
    record {
      lit =
          ap (λ (l : List (Option (ℕ × ℕ))). slice_set l c.args.at c.station_of.result) log.lit ∙ ap (slice_set (stations_of log.recover log.homes log.notes) c.args.at) c.station_of.ensures
          ∙ one_noted log.recover log.homes log.notes c.args.at _ c.note_at-noted.new.notes (sym e);
    }

pub returns-clause-stays : goal.returns-clause-stays
returns-clause-stays c =
    on_ok_all c.note_at-noted.result
    (λ gave heard rows. stays_set c.args.self.now.notes c.args.at c.at_mut-notes.result.now c.note_at-noted.new.notes c.at_mut-notes.ensures.value gave heard rows)
    c.note_at-noted.ensures.gave c.note_at-noted.ensures.heard c.note_at-noted.ensures.rows

pub returns-clause-told : goal.returns-clause-told
returns-clause-told c =
    on_ok_weaker c.note_at-noted.result (λ f. set_reports c.args.self.now.notes c.args.at c.at_mut-notes.result.now c.note_at-noted.new.notes c.at_mut-notes.ensures.value f) c.note_at-noted.ensures.told

pub returns-in_default-clause-mails : goal.returns-in_default-clause-mails
returns-in_default-clause-mails c = λ at_home.
    let log = c.args.self.now in
    let over = past_end log.homes c.args.at c.in_default.ensures in
    beyond c.args.moment.frame c.args.at (kind_told c.args.event.now) log.notes (omega (arith, over, at_home))

pub returns-then-at-len-clause-mails : goal.returns-then-at-len-clause-mails
returns-then-at-len-clause-mails c = λ at_home. beyond c.args.moment.frame c.args.at (kind_told c.args.event.now) c.args.self.now.notes (omega (arith, c.if-at-len.true, c.len.ensures))

pub returns-clause-mails : goal.returns-clause-mails
returns-clause-mails c =
    on_ok_weaker c.note_at-noted.result
    (λ h. λ at_home. told_set c.args.moment.frame c.args.self.now.notes c.args.at c.at_mut-notes.result.now c.note_at-noted.new.notes _ c.at_mut-notes.ensures.value h)
    c.note_at-noted.ensures.mails

pub returns-clause-time : goal.returns-clause-time
returns-clause-time c =
    on_ok_weaker c.note_at-noted.result
    (λ h. keeps_set (behind c.args.moment.frame) c.args.self.now.notes c.args.at c.at_mut-notes.result.now c.note_at-noted.new.notes c.at_mut-notes.ensures.value h)
    c.note_at-noted.ensures.time
