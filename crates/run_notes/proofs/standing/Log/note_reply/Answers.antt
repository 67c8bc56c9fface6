use Rattle.std.proofs.Common.{◌≡◌, List, get_or, ap, ◌∙◌, subst}
use Rattle.run_notes.specs.declared.notes.Awaited.{Awaited}
use Rattle.run_notes.specs.declared.notes.Notes.{Notes}
use Rattle.run_notes.proofs.Reporting.{got_there, awaited_there}
use Rattle.run_notes.proofs.standing.Log.note_reply.Goals as goal

pub note_stand-requires-clause-awaited : goal.note_stand-requires-clause-awaited
note_stand-requires-clause-awaited c =
    let log = c.args.self.now in
    let n = c.index-rows-at.result in
    let here = subst (λ (ns : List Notes). n ≡ get_or ns c.args.at n) c.as_slice-rows.ensures c.index-rows-at.is in
    awaited_there Awaited.Nothing log.notes c.args.at n (got_there log.notes c.args.at n c.requires.notes here) (ap (λ (m : Notes). m.awaited) c.index-rows-at.is ∙ c.in-Nothing.is)

pub note_outcome-requires-clause-awaited : goal.note_outcome-requires-clause-awaited
note_outcome-requires-clause-awaited c =
    let log = c.args.self.now in
    let n = c.index-rows-at.result in
    let here = subst (λ (ns : List Notes). n ≡ get_or ns c.args.at n) c.as_slice-rows.ensures c.index-rows-at.is in
    awaited_there Awaited.Change log.notes c.args.at n (got_there log.notes c.args.at n c.requires.notes here) (ap (λ (m : Notes). m.awaited) c.index-rows-at.is ∙ c.in-Change.is)

pub note_answer-requires-clause-awaited : goal.note_answer-requires-clause-awaited
note_answer-requires-clause-awaited c =
    let log = c.args.self.now in
    let n = c.index-rows-at.result in
    let here = subst (λ (ns : List Notes). n ≡ get_or ns c.args.at n) c.as_slice-rows.ensures c.index-rows-at.is in
    awaited_there Awaited.Reply log.notes c.args.at n (got_there log.notes c.args.at n c.requires.notes here) (ap (λ (m : Notes). m.awaited) c.index-rows-at.is ∙ c.in-Reply.is)
