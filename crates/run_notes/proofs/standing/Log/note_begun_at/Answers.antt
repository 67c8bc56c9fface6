use Rattle.std.proofs.Common.{sym, ap, ◌∙◌, subst, arith}
use Rattle.std.proofs.lemmas.Result.{on_ok_weaker}
use Rattle.run_notes.specs.declared.notes.Notes.{Notes}
use Rattle.run_notes.proofs.Packets.{none_begun, one_begun, one_free}
use Rattle.run_notes.proofs.Reporting.{set_reports}
use Rattle.run_notes.proofs.Stations.{same_noted}
use Rattle.run_notes.proofs.Handings.{began_doubt}
use Rattle.run_notes.specs.Handed.{Doubts}
use Rattle.run_notes.proofs.Times.{time_beside}
use Rattle.run_notes.specs.Times.{Goes, making}
use Rattle.run_notes.proofs.Stays.{making_same, making_set}
use Rattle.run_notes.proofs.standing.Log.note_begun_at.Goals as goal

pub invariant_of-self : goal.invariant_of-self
invariant_of-self c =
    let log = c.args.self.now in
    record { lit = log.lit ∙ sym (same_noted log.recover log.homes log.notes c.args.at c.at_mut.result.now c.note_began.new.notes (c.note_began.ensures.gave ∙ ap (λ (n : Notes). n.gave) c.at_mut.ensures.value)) }

pub returns-then-place-len-clause-stays : goal.returns-then-place-len-clause-stays
returns-then-place-len-clause-stays c = making_same c.args.frame c.args.self.now.notes

pub returns-clause-stays : goal.returns-clause-stays
returns-clause-stays c =
    let t = making c.args.frame in
    let n = c.at_mut.result.now in
    on_ok_weaker c.note_began.result
    (λ is. making_set c.args.frame c.args.self.now.notes c.args.at n c.note_began.new.notes c.at_mut.ensures.value c.note_began.ensures.gave c.note_began.ensures.heard
    (subst (λ (z : Notes). Doubts n z) (sym is) (began_doubt n c.args.origin c.args.frame))
    (subst (λ (z : Notes). Goes t t n z) (sym is) (time_beside c.args.frame n c.args.origin)))
    c.note_began.ensures.is

pub returns-clause-told : goal.returns-clause-told
returns-clause-told c =
    on_ok_weaker c.note_began.result (λ f. set_reports c.args.self.now.notes c.args.at c.at_mut.result.now c.note_began.new.notes c.at_mut.ensures.value f) c.note_began.ensures.told

pub returns-then-place-len-clause-beside : goal.returns-then-place-len-clause-beside
returns-then-place-len-clause-beside c = none_begun c.args.self.now.notes c.args.at c.args.origin c.args.frame (omega arith)

pub returns-clause-beside : goal.returns-clause-beside
returns-clause-beside c =
    on_ok_weaker c.note_began.result (λ is. one_begun c.args.self.now.notes c.args.at c.at_mut.result.now c.note_began.new.notes c.args.origin c.args.frame (omega arith) c.at_mut.ensures.value is) c.note_began.ensures.is

pub returns-then-place-len-clause-free : goal.returns-then-place-len-clause-free
returns-then-place-len-clause-free c = λ k f. f

pub returns-clause-free : goal.returns-clause-free
returns-clause-free c =
    on_ok_weaker c.note_began.result (λ is. one_free c.args.self.now.notes c.args.at c.at_mut.result.now c.note_began.new.notes c.args.origin c.args.frame (omega arith) c.at_mut.ensures.value is) c.note_began.ensures.is
