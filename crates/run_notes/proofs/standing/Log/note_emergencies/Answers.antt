use Rattle.std.proofs.Common.{◌≡◌, ◌+◌, ℕ, suc, refl, ◌∙◌, subst, arith}
use Rattle.std.proofs.lemmas.List.{length-map}
use Rattle.run_book.proofs.Heards as Heards
use Rattle.run_book.specs.Heard.{AllNoted, brought_of, heard_to}
use Rattle.run_notes.specs.Heard.{emergencies_noted}
use Rattle.run_notes.specs.declared.notes.Notes.{Notes}
use Rattle.run_notes.proofs.Kept.{slaves_more}
use Rattle.run_notes.proofs.standing.Log.note_emergencies.Goals as goal

pub loop-place-init : goal.loop-place-init
loop-place-init c = record {
  slaves = record { notes = refl; homes = refl; asked = refl; ports = refl; recover = refl };
  gave = refl;
  heard = λ us back hss x noted. noted;
  rows = refl;
  services = refl;
  told = λ as' r. r;
  time = λ packets all. all;
}

pub loop-place-preserved : goal.loop-place-preserved
loop-place-preserved c =
    let inv = c.loop-place.invariant in
    let place = c.loop-place.place in
    record {
      slaves = slaves_more inv.slaves c.note_emergency.ensures.slaves;
      time = λ packets all. c.in_ok-note_emergency.ensures.time packets (inv.time packets all);
      gave = c.in_ok-note_emergency.ensures.gave ∙ inv.gave;
      heard = λ us back hss x noted.
          let e : suc place ≡ place + 1 = omega arith in
          subst (λ (k : ℕ). AllNoted (heard_to (brought_of c.args.frame back) k hss us) (emergencies_noted c.note_emergency.new.self.notes)) e (c.in_ok-note_emergency.ensures.heard us back hss x (inv.heard us back hss x noted));
      rows = c.in_ok-note_emergency.ensures.rows ∙ inv.rows;
      services = c.in_ok-note_emergency.ensures.services ∙ inv.services;
      told = λ as' r. c.in_ok-note_emergency.ensures.told as' (inv.told as' r);
    }

pub returns-clause-heard : goal.returns-clause-heard
returns-clause-heard c = λ us back hss x noted.
    let now = c.loop-place.self.notes in
    let many = c.loop-place.invariant.slaves.notes in
    let long = length-map now (λ (n : Notes). n.emergencies) in
    Heards.passes (brought_of c.args.frame back) c.loop-place.place hss us (emergencies_noted now) (omega (arith, many, long, c.loop-place-test.false, c.len-place-end.ensures)) (c.loop-place.invariant.heard us back hss x noted)
