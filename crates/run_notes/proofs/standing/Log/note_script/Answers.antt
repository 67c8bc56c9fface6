use Rattle.std.proofs.Common.{◌≡◌, ◌<◌, ◌≤◌, List, get_or, sym, ap, ◌∙◌, subst, arith}
use Rattle.std.proofs.lemmas.Result.{on_ok_weaker}
use Rattle.run_notes.specs.declared.notes.Notes.{Notes}
use Rattle.run_notes.specs.Notes.{began_script}
use Rattle.run_notes.specs.Reports.{Reports}
use Rattle.run_notes.proofs.Reporting.{to_next, to_same, got_there, same_whole, script_same, script_more}
use Rattle.run_notes.proofs.Stations.{same_noted}
use Rattle.run_frames.specs.Steps.{TurnsSo}
use Rattle.run_notes.proofs.Packets.{script_rows}
use Rattle.run_notes.proofs.Handings.{script_doubt}
use Rattle.run_notes.specs.Handed.{Doubts}
use Rattle.run_notes.proofs.Times.{time_script}
use Rattle.run_notes.specs.Times.{Goes, making}
use Rattle.run_notes.proofs.Stays.{making_same, making_set}
use Rattle.run_notes.proofs.standing.Log.note_script.Goals as goal

pub returns-then-number-rows-clause-told : goal.returns-then-number-rows-clause-told
returns-then-number-rows-clause-told c = λ lens recover as' bs x p r.
    let log = c.args.self.now in
    let n = c.index-rows-place.result in
    let here = subst (λ (ns : List Notes). n ≡ get_or ns c.args.at n) c.as_slice-rows.ensures c.index-rows-place.is in
    let got = got_there log.notes c.args.at n c.requires.notes here in
    let read : n.scripted ≡ (get_or c.as_slice-rows.result.now c.args.at n).scripted = ap (λ (m : Notes). m.scripted) c.index-rows-place.is in
    let few : c.scripted-number.result ≤ n.scripted = (let t = c.if-number-rows.true in omega (arith, t, read)) in
    to_same (λ a b. TurnsSo c.args.frame a b) c.args.at as' bs log.notes n p got
    (λ a b e q s. script_same c.args.frame a b n q s bs c.args.at e c.scripted-number.result few (c.scripted-number.ensures lens recover bs x)) r

pub invariant_of-self : goal.invariant_of-self
invariant_of-self c =
    let log = c.args.self.now in
    record { lit = log.lit ∙ sym (same_noted log.recover log.homes log.notes c.args.at c.at_mut.result.now c.began_script.new.self (c.began_script.ensures.gave ∙ ap (λ (n : Notes). n.gave) c.at_mut.ensures.value)) }

pub returns-then-number-rows-clause-stays : goal.returns-then-number-rows-clause-stays
returns-then-number-rows-clause-stays c = making_same c.args.frame c.args.self.now.notes

pub returns-clause-stays : goal.returns-clause-stays
returns-clause-stays c =
    let t = making c.args.frame in
    let n = c.at_mut.result.now in
    on_ok_weaker c.began_script.result
    (λ is. making_set c.args.frame c.args.self.now.notes c.args.at n c.began_script.new.self c.at_mut.ensures.value c.began_script.ensures.gave c.began_script.ensures.heard
    (subst (λ (z : Notes). Doubts n z) (sym is) (script_doubt n c.scripted-number.result c.changes_state-state.result c.args.frame))
    (subst (λ (z : Notes). Goes t t n z) (sym is) (time_script c.args.frame n c.scripted-number.result c.changes_state-state.result)))
    c.began_script.ensures.is

pub returns-clause-told : goal.returns-clause-told
returns-clause-told c =
    let log = c.args.self.now in
    let n = c.index-rows-place.result in
    let here = subst (λ (ns : List Notes). n ≡ get_or ns c.args.at n) c.as_slice-rows.ensures c.index-rows-place.is in
    let got = got_there log.notes c.args.at n c.requires.notes here in
    let d = c.at_mut.result.now in
    let lent = got_there log.notes c.args.at d c.requires.notes c.at_mut.ensures.value in
    let same : d ≡ n = same_whole log.notes c.args.at n d got lent in
    let read : n.scripted ≡ (get_or c.as_slice-rows.result.now c.args.at n).scripted = ap (λ (m : Notes). m.scripted) c.index-rows-place.is in
    let more : n.scripted < c.scripted-number.result = (let f = c.if-number-rows.false in omega (arith, f, read)) in
    on_ok_weaker c.began_script.result
    (λ is. λ lens recover as' bs x p r.
    to_next (λ a b. TurnsSo c.args.frame a b) c.args.at as' bs log.notes n c.began_script.new.self p got
    (λ a b e q s. subst (λ (z : Notes). Reports b z) (sym (is ∙ ap (λ (z : Notes). began_script z c.scripted-number.result c.changes_state-state.result c.args.frame) same))
    (script_more c.args.frame a b n q s bs c.args.at e c.scripted-number.result more (c.scripted-number.ensures lens recover bs x) c.changes_state-state.result (c.changes_state-state.ensures lens recover bs x))) r)
    c.began_script.ensures.is

pub returns-clause-beside : goal.returns-clause-beside
returns-clause-beside c =
    let log = c.args.self.now in
    on_ok_weaker c.began_script.result
    (λ is. script_rows log.notes c.args.at c.at_mut.result.now c.began_script.new.self c.scripted-number.result c.changes_state-state.result c.args.frame c.requires.notes c.at_mut.ensures.value is)
    c.began_script.ensures.is
