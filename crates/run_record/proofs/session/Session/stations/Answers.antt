use Rattle.std.proofs.Common.{◌≤◌, ℕ, length, sym, ap, ◌∙◌, subst}
use Rattle.run_record.specs.Session.{SessionState}
use Rattle.run_notes.proofs.Stations.{length_stations}
use Rattle.run_record.proofs.session.Session.stations.Goals as goal

pub returns-clause-many : goal.returns-clause-many
returns-clause-many c =
    ap length (c.as_slice.ensures ∙ c.self.inside.log.lit) ∙ length_stations c.self.inside.log.recover c.self.inside.log.homes c.self.inside.log.notes (c.self.invariant.3 ∙ sym c.self.invariant.5) ∙ c.self.invariant.5
    ∙ ap (λ (s : SessionState). length s.ring.nodes) c.self.view_is

pub returns-clause-few : goal.returns-clause-few
returns-clause-few c =
    subst (λ (n : ℕ). n ≤ 16)
    (sym (ap length (c.as_slice.ensures ∙ c.self.inside.log.lit) ∙ length_stations c.self.inside.log.recover c.self.inside.log.homes c.self.inside.log.notes (c.self.invariant.3 ∙ sym c.self.invariant.5) ∙ c.self.invariant.5))
    c.self.invariant.4
