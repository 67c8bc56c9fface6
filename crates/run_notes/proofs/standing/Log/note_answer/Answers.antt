use Rattle.std.proofs.Common.{◌≡◌, ℕ, List, suc, sym, ap, ◌∙◌, subst, []}
use Rattle.std.specs.Prelude.{IfSome, slice_get}
use Rattle.std.proofs.lemmas.Result.{on_ok_weaker}
use Rattle.run_notes.specs.declared.notes.Awaited.{Awaited}
use Rattle.run_notes.specs.declared.notes.Notes.{Notes}
use Rattle.run_notes.specs.Reports.{Reports}
use Rattle.run_notes.proofs.Reporting.{to_next, got_there, awaited_at, reply_told}
use Rattle.run_notes.proofs.Stations.{same_noted}
use Rattle.run_notes.proofs.Stays.{stays_set}
use Rattle.run_notes.proofs.Ways.{any_ok}
use Rattle.run_frames.specs.Steps.{PassesSo}
use Rattle.run_frames.specs.of_life_model.Lives.{Stand}
use Rattle.run_book.specs.of_master_node.Told.{Tells}
use Rattle.run_notes.proofs.Handings.{stay_set, told_goes}
use Rattle.run_notes.specs.Handed.{GoesBy}
use Rattle.run_notes.specs.Notes.{told_noted}
use Rattle.run_notes.proofs.Times.{seen_behind, time_told}
use Rattle.run_notes.proofs.Timings.{seen_set}
use Rattle.run_notes.specs.Times.{Goes, behind, between}
use Rattle.run_notes.proofs.standing.Log.note_answer.Goals as goal

pub invariant_of-self : goal.invariant_of-self
invariant_of-self c =
    let log = c.args.self.now in
    record { lit = log.lit ∙ sym (same_noted log.recover log.homes log.notes c.args.at c.at_mut-notes.result.now c.note_back.new.notes (c.note_back.ensures.gave ∙ ap (λ (n : Notes). n.gave) c.at_mut-notes.ensures.value)) }

pub returns-clause-stays : goal.returns-clause-stays
returns-clause-stays c =
    any_ok c.note_back.result (stays_set c.args.self.now.notes c.args.at c.at_mut-notes.result.now c.note_back.new.notes c.at_mut-notes.ensures.value c.note_back.ensures.gave c.note_back.ensures.heard c.note_back.ensures.rows)

pub returns-clause-told : goal.returns-clause-told
returns-clause-told c =
    let log = c.args.self.now in
    let n = c.at_mut-notes.result.now in
    let got = got_there log.notes c.args.at n c.requires.notes c.at_mut-notes.ensures.value in
    let leaves = c.is_leaving-leaves in
    let opens = c.is_open-opens in
    let is_so : n.awaited ≡ Awaited.Reply = awaited_at Awaited.Reply log.notes c.args.at n got c.requires.awaited in
    on_ok_weaker c.note_back.result
    (λ is. λ lens recover as' bs x p r.
    to_next (λ a b. PassesSo c.args.frame a b) c.args.at as' bs log.notes n c.note_back.new.notes p got
    (λ a b e q s. subst (λ (z : Notes). Reports b z) (sym is)
    (reply_told c.args.frame a b n q s leaves.result opens.result bs c.args.at e (leaves.ensures lens recover bs x) (opens.ensures lens recover bs x) is_so c.in_ok-told.told c.told.new.into
    (subst (λ (old : List ℕ). IfSome (slice_get bs c.args.at) (λ a. a.lived.life.stand ≡ Stand.Open → Tells c.in_ok-told.told old c.told.new.into a.lived.life.era.side.now)) c.new-value.ensures (c.in_ok-told.ensures lens recover bs x)))) r)
    c.note_back.ensures.is

pub returns-clause-mails : goal.returns-clause-mails
returns-clause-mails c =
    let log = c.args.self.now in
    let n = c.at_mut-notes.result.now in
    let got = got_there log.notes c.args.at n c.requires.notes c.at_mut-notes.ensures.value in
    on_ok_weaker c.note_back.result
    (λ is. stay_set c.args.frame log.notes c.args.at n c.note_back.new.notes c.at_mut-notes.ensures.value (subst (λ (z : Notes). GoesBy c.args.frame [] n z) (sym is) (told_goes c.args.frame n c.in_ok-told.told c.told.new.into c.is_leaving-leaves.result c.is_open-opens.result c.args.frame (awaited_at Awaited.Reply log.notes c.args.at n got c.requires.awaited))))
    c.note_back.ensures.is

pub returns-clause-time : goal.returns-clause-time
returns-clause-time c =
    let n = c.at_mut-notes.result.now in
    let got = got_there c.args.self.now.notes c.args.at n c.requires.notes c.at_mut-notes.ensures.value in
    on_ok_weaker c.note_back.result
    (λ is. seen_set c.args.frame c.args.self.now.notes c.args.at n c.note_back.new.notes c.at_mut-notes.ensures.value
    (subst (λ (z : Notes). Goes (behind c.args.frame) (between (suc c.args.frame)) n z) (sym is) (seen_behind c.args.frame n (told_noted c.in_ok-told.told c.told.new.into c.args.frame n) c.is_leaving-leaves.result c.is_open-opens.result (time_told c.args.frame n c.in_ok-told.told c.told.new.into (awaited_at Awaited.Reply c.args.self.now.notes c.args.at n got c.requires.awaited)))))
    c.note_back.ensures.is
