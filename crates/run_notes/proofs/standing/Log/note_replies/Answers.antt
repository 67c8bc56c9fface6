use Rattle.std.proofs.Common.{◌≡◌, ◌+◌, ℕ, suc, [], refl, subst, arith}
use Rattle.run_notes.proofs.Kept.{slaves_more}
use Rattle.run_notes.proofs.Stays.{stays_more, stays_same}
use Rattle.run_notes.specs.Reports.{ReportsTo}
use Rattle.run_notes.proofs.Reporting.{to_first, to_last, both_lengths}
use Rattle.run_frames.specs.Steps.{PassesSo}
use Rattle.run_notes.proofs.Handings.{mails_then, stay_same}
use Rattle.run_notes.proofs.Timings.{seen_first, seen_last}
use Rattle.run_notes.specs.Times.{AllTimed, seen_to}
use Rattle.run_notes.proofs.standing.Log.note_replies.Goals as goal

pub loop-place-init : goal.loop-place-init
loop-place-init c = record {
  slaves = record { notes = refl; homes = refl; asked = refl; ports = refl; recover = refl };
  stays = stays_same c.args.self.now.notes;
  mails = stay_same c.args.frame c.args.self.now.notes;
  time = seen_first c.args.frame c.args.self.now.notes;
  told = λ lens recover as' bs x p r. to_first as' bs c.args.self.now.notes (both_lengths (λ a b. PassesSo c.args.frame a b) as' bs p) r;
}

pub loop-place-preserved : goal.loop-place-preserved
loop-place-preserved c =
    let inv = c.loop-place.invariant in
    let place = c.loop-place.place in
    record {
      slaves = slaves_more inv.slaves c.note_reply.ensures.slaves;
      stays = stays_more inv.stays c.in_ok-note_reply.ensures.stays;
      mails = mails_then c.args.frame (λ k. []) c.args.self.now.notes c.loop-place.self.notes c.note_reply.new.self.notes inv.mails c.in_ok-note_reply.ensures.mails;
      time = λ packets all.
          let e : suc place ≡ place + 1 = omega arith in
          subst (λ (k : ℕ). AllTimed (seen_to c.args.frame k) packets c.note_reply.new.self.notes) e (c.in_ok-note_reply.ensures.time packets (inv.time packets all));
      told = λ lens recover as' bs x p r.
          let e : suc place ≡ place + 1 = omega arith in
          subst (λ (k : ℕ). ReportsTo k as' bs c.note_reply.new.self.notes) e (c.in_ok-note_reply.ensures.told lens recover as' bs x p (inv.told lens recover as' bs x p r));
    }

pub returns-clause-told : goal.returns-clause-told
returns-clause-told c = λ lens recover as' bs x p r.
    let now = c.loop-place.self.notes in
    let many = c.loop-place.invariant.slaves.notes in
    to_last c.loop-place.place as' bs now (omega (arith, many, c.loop-place-test.false, c.len-place-end.ensures)) (c.loop-place.invariant.told lens recover as' bs x p r)

pub returns-clause-time : goal.returns-clause-time
returns-clause-time c =
    let now = c.loop-place.self.notes in
    let many = c.loop-place.invariant.slaves.notes in
    seen_last c.args.frame c.loop-place.place c.args.self.now.notes now (omega (arith, many, c.loop-place-test.false, c.len-place-end.ensures)) c.loop-place.invariant.time
