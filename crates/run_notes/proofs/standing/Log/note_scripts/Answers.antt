use Rattle.std.proofs.Common.{◌≡◌, ◌+◌, ℕ, suc, refl, ◌∙◌, subst, arith}
use Rattle.run_notes.proofs.Kept.{slaves_more}
use Rattle.run_notes.specs.Reports.{ReportsTo}
use Rattle.run_notes.proofs.Reporting.{to_first, to_last, both_lengths}
use Rattle.run_frames.specs.Steps.{TurnsSo}
use Rattle.run_notes.proofs.Stays.{making_more, making_same}
use Rattle.run_notes.proofs.standing.Log.note_scripts.Goals as goal

pub loop-place-init : goal.loop-place-init
loop-place-init c = record {
  slaves = record { notes = refl; homes = refl; asked = refl; ports = refl; recover = refl };
  stays = making_same c.args.frame c.args.self.now.notes;
  beside = λ k. refl;
  told = λ lens recover as' bs x p r. to_first as' bs c.args.self.now.notes (both_lengths (λ a b. TurnsSo c.args.frame a b) as' bs p) r;
}

pub loop-place-preserved : goal.loop-place-preserved
loop-place-preserved c =
    let inv = c.loop-place.invariant in
    let place = c.loop-place.place in
    record {
      slaves = slaves_more inv.slaves c.note_script.ensures.slaves;
      stays = making_more c.args.frame c.args.self.now.notes c.loop-place.self.notes c.note_script.new.self.notes inv.stays c.in_ok-note_script.ensures.stays;
      beside = λ k. c.in_ok-note_script.ensures.beside k ∙ inv.beside k;
      told = λ lens recover as' bs x p r.
          let e : suc place ≡ place + 1 = omega arith in
          subst (λ (k : ℕ). ReportsTo k as' bs c.note_script.new.self.notes) e (c.in_ok-note_script.ensures.told lens recover as' bs x p (inv.told lens recover as' bs x p r));
    }

pub returns-clause-told : goal.returns-clause-told
returns-clause-told c = λ lens recover as' bs x p r.
    let now = c.loop-place.self.notes in
    let many = c.loop-place.invariant.slaves.notes in
    to_last c.loop-place.place as' bs now (omega (arith, many, c.loop-place-test.false, c.len-place-end.ensures)) (c.loop-place.invariant.told lens recover as' bs x p r)
