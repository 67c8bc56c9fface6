use Rattle.std.proofs.Common.{◌≡◌, true, false, ◌∙◌, sym, ap, rules}
use Rattle.std.specs.Option.{option_copied}
use Rattle.std.proofs.lemmas.Bool.{OnTrue_at, OnFalse_from}
use Rattle.master_node.proofs.Quiets.{not_some}
use Rattle.master_node.proofs.Restings.{never, none_copied}
use Rattle.master_node.proofs.wants.is_wanting.Goals as goal

pub returns-clause-quiet : goal.returns-clause-quiet
returns-clause-quiet c =
    let free : c.is_free.result ≡ true = search rules in
    let rest : c.is_at_rest.result ≡ true = search rules in
    OnFalse_from c.is_some.result _
    (λ none. record {
      free = λ x d b shown. let f = c.is_free.ensures.free x d b shown free in (f.0, f.2);
      out = (OnTrue_at rest c.is_at_rest.ensures.is).0;
      inn = (OnTrue_at rest c.is_at_rest.ensures.is).1;
      script = sym c.scripted.ensures ∙ ap option_copied (not_some c.scripted.result (sym c.is_some.ensures ∙ none));
    })

pub returns-clause-unpassed : goal.returns-clause-unpassed
returns-clause-unpassed c =
    let free : c.is_free.result ≡ true = search rules in
    OnFalse_from c.is_some.result _ (λ none. (c.is_free.ensures.bare free).1)

pub returns-then-not-is_free-clause-rests : goal.returns-then-not-is_free-clause-rests
returns-then-not-is_free-clause-rests c = λ r.
    let free : c.is_free.result ≡ false = search rules in
    absurd (never (sym free ∙ c.is_free.ensures.may r.speech r.side r.account r.known r.shows r.hand r.unpassed r.free r.done))

pub returns-then-not-is_at_rest-clause-rests : goal.returns-then-not-is_at_rest-clause-rests
returns-then-not-is_at_rest-clause-rests c = λ r.
    let rest : c.is_at_rest.result ≡ false = search rules in
    absurd (never (sym rest ∙ c.is_at_rest.ensures.rests r.out r.inn))

pub returns-clause-rests : goal.returns-clause-rests
returns-clause-rests c = λ r. c.is_some.ensures ∙ none_copied c.scripted.result (λ z. z.now) (c.scripted.ensures ∙ r.script)
