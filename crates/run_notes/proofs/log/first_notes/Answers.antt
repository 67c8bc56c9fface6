use Rattle.std.proofs.Common.{◌≡◌, ◌+◌, ◌<◌, ◌∷◌, length, drop, ap, sym, ◌∙◌, arith}
use Rattle.run_notes.specs.Notes.{new_notes}
use Rattle.run_notes.specs.Slaves.{scripted, first_notes}
use Rattle.run_notes.proofs.Lists.{one_more}
use Rattle.run_notes.proofs.Firsts.{first_at}
use Rattle.run_notes.proofs.log.first_notes.Goals as goal

pub loop-at-preserved : goal.loop-at-preserved
loop-at-preserved c =
    let services = c.args.plan.now.services in
    let slaves = c.args.plan.now.slaves in
    let rest = first_notes services (c.loop-at.at + 1) (drop (c.loop-at.at + 1) slaves) in
    let test = c.loop-at-test.true in
    let end = c.len-at-end.ensures in
    let inside : c.loop-at.at < length slaves = omega (arith, test, end) in
    let own : c.in_ok-new.field-0 ≡ new_notes (scripted services c.loop-at.at) =
    c.in_ok-new.ensures ∙ ap new_notes (c.scripted-left.ensures ∙ ap (λ rows. scripted rows c.loop-at.at) c.as_slice.ensures) in
    one_more c.loop-at.notes c.add.new.self rest (first_notes services 0 slaves) c.in_ok-new.field-0
    (first_at services c.loop-at.at slaves c.loop-at.at (c.loop-at.at + 1) (omega arith) inside ∙ ap (λ n. n ∷ rest) (sym own)) c.in_ok-add.ensures.ok c.loop-at.invariant
