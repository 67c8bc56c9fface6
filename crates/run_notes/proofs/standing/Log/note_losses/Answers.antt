use Rattle.std.proofs.Common.{◌≡◌, ◌+◌, ℕ, suc, [], map, refl, sym, ap, ◌∙◌, subst, arith}
use Rattle.std.proofs.lemmas.List.{length-map}
use Rattle.run_notes.specs.declared.notes.Notes.{Notes}
use Rattle.run_book.specs.of_master_node.Shows.{lived_of}
use Rattle.run_book.specs.of_master_node.Told.{HasLeads, HasLives}
use Rattle.run_book.specs.of_master_node.Wants.{gave_of, AllCounted}
use Rattle.run_notes.specs.Slaves.{gaves_noted, gave_at}
use Rattle.run_notes.proofs.Gaves.{walked, walked_on, walked_all}
use Rattle.run_notes.proofs.Kept.{slaves_more}
use Rattle.run_notes.specs.Reports.{ReportsTo}
use Rattle.run_notes.proofs.Reporting.{to_first, to_last, both_lengths}
use Rattle.run_frames.specs.Steps.{LosesSo}
use Rattle.run_notes.proofs.Handings.{mails_then, stay_same}
use Rattle.run_notes.proofs.standing.Log.note_losses.Goals as goal

pub loop-place-preserved : goal.loop-place-preserved
loop-place-preserved c =
    let first = c.args.self.now in
    let now = c.loop-place.self in
    let inv = c.loop-place.invariant in
    let place = c.loop-place.place in
    record {
      slaves = slaves_more inv.slaves c.note_loss.ensures.slaves;
      heard = c.in_ok-note_loss.ensures.heard ∙ inv.heard;
      rows = c.in_ok-note_loss.ensures.rows ∙ inv.rows;
      mails = mails_then c.args.frame (λ k. []) first.notes now.notes c.note_loss.new.self.notes inv.mails c.in_ok-note_loss.ensures.mails;
      time = λ packets all. c.in_ok-note_loss.ensures.time packets (inv.time packets all);
      told = λ lens as' bs told all p r.
          let e : suc place ≡ place + 1 = omega arith in
          subst (λ (k : ℕ). ReportsTo k as' bs c.note_loss.new.self.notes) e
          (c.in_ok-note_loss.ensures.told lens as' bs (subst (λ (n : ℕ). HasLeads lens n c.args.master.now bs) (sym inv.slaves.recover) told) (subst (λ (n : ℕ). AllCounted n bs) (sym inv.slaves.recover) all) p (inv.told lens as' bs told all p r));
      gave = λ lens leads lives all.
          c.in_ok-note_loss.ensures.gave lens leads (subst (λ (n : ℕ). HasLives lens n c.args.master.now (map lived_of leads)) (sym inv.slaves.recover) lives) (subst (λ (n : ℕ). AllCounted n leads) (sym inv.slaves.recover) all)
          ∙ ap (gave_at place c.args.frame (map gave_of leads)) (inv.gave lens leads lives all) ∙ walked_on place c.args.frame (map gave_of leads) (gaves_noted first.notes)
          ∙ (let e : suc place ≡ place + 1 = omega arith in ap (λ (k : ℕ). walked k c.args.frame (map gave_of leads) (gaves_noted first.notes)) e);
    }

pub returns-clause-gave : goal.returns-clause-gave
returns-clause-gave c = λ lens leads lives all.
    let first = c.args.self.now in
    let long = length-map first.notes (λ (n : Notes). n.gave) in
    c.loop-place.invariant.gave lens leads lives all
    ∙ walked_all c.loop-place.place c.args.frame (map gave_of leads) (gaves_noted first.notes) (omega (arith, long, c.loop-place-test.false, c.len-place-end.ensures))

pub loop-place-init : goal.loop-place-init
loop-place-init c = record {
  slaves = record { notes = refl; homes = refl; asked = refl; ports = refl; recover = refl };
  gave = λ lens leads lives all. refl;
  heard = refl;
  rows = refl;
  mails = stay_same c.args.frame c.args.self.now.notes;
  time = λ packets all. all;
  told = λ lens as' bs told all p r. to_first as' bs c.args.self.now.notes (both_lengths (λ a b. LosesSo c.args.frame a b) as' bs p) r;
}

pub returns-clause-told : goal.returns-clause-told
returns-clause-told c = λ lens as' bs told all p r.
    let now = c.loop-place.self.notes in
    let many = c.loop-place.invariant.slaves.notes in
    to_last c.loop-place.place as' bs now (omega (arith, many, c.loop-place-test.false, c.len-place-end.ensures)) (c.loop-place.invariant.told lens as' bs told all p r)
