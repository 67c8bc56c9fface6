use Rattle.std.proofs.Common.{◌≡◌, inl, inr, true, false, sym, ap, ◌∙◌, subst, length, rules}
use Rattle.std.proofs.lemmas.Bool.{OnTrue_at, OnTrue_from, OnFalse_at, OnFalse_from}
use Rattle.served_places.specs.of_life_runs.First.{lens_of}
use Rattle.run_record.specs.Served.{ServingRests}
use Rattle.run_record.specs.Session.{IsDone, SessionState, has_live}
use Rattle.run_record.proofs.ServedGaves.{serving_live}
use Rattle.run_record.proofs.ServedPlaced.{served_placed}
use Rattle.run_record.proofs.session.Session.settled.Goals as goal

pub returns-clause-served : goal.returns-clause-served
returns-clause-served c =
    let no : c.wants.result ≡ false = search rules in
    OnTrue_from c.are_at_rest.result _
    (λ e. subst ServingRests c.self.view_is (record {
      slaves = λ plan fs old.
          OnFalse_at no c.wants.ensures.served (lens_of plan.slaves) plan.recover plan.retry old.leading.missed (length fs) old.leading.serves old.leading.shows
          (served_placed plan fs old.leading.missed old.leading.serves old.leading.lives);
      come = OnFalse_at no c.wants.ensures.come;
    }))

pub returns-clause-rest : goal.returns-clause-rest
returns-clause-rest c = OnTrue_from c.are_at_rest.result _ (λ e. sym c.are_at_rest.ensures ∙ e)

pub returns-then-wants-clause-lives : goal.returns-then-wants-clause-lives
returns-then-wants-clause-lives c =
    let yes : c.wants.result ≡ true = search rules in
    let live = ap (λ (s : SessionState). has_live s.master) (sym c.self.view_is) ∙ OnTrue_at yes c.wants.ensures.live in
    λ plan fs recover s. serving_live plan c.args.self.now fs s.leading recover s.gave (inr live)

pub returns-clause-lives : goal.returns-clause-lives
returns-clause-lives c = OnFalse_from c.are_at_rest.result _ (λ e. λ plan fs recover s. serving_live plan c.args.self.now fs s.leading recover s.gave (inl (sym c.are_at_rest.ensures ∙ e)))

pub returns-then-wants-clause-done : goal.returns-then-wants-clause-done
returns-then-wants-clause-done c =
    let yes : c.wants.result ≡ true = search rules in
    subst (λ (s : SessionState). IsDone s → ⊥) c.self.view_is (λ d. (let no : true ≡ false = sym yes ∙ c.wants.ensures.idle d.idle in cc))

pub returns-clause-done : goal.returns-clause-done
returns-clause-done c = OnFalse_from c.are_at_rest.result _ (λ e. (λ d. (let no : true ≡ false = sym d.at_rest ∙ (sym c.are_at_rest.ensures ∙ e) in cc)))
