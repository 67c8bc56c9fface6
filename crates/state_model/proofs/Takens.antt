-- What a server has taken of a row that is answered.
use Rattle.std.proofs.Common.{◌≡◌, ◌&&◌, ℕ, inl, inr, true, false, List, [], ◌++◌, Some, None, sym, ap, ap₂, ◌∙◌, subst, append-nil}
use Rattle.segment_model.specs.of_exchange_model.Prefix.{IsPrefixOf}
use Rattle.segment_model.specs.of_exchange_model.Exchange.{Exchange, IsLawful, after, given, plain, outnumbers}
use Rattle.segment_model.specs.of_exchange_model.Rows.{Row, left, told_all}
use Rattle.segment_model.specs.of_exchange_model.Laws.{Moment}
use Rattle.segment_model.proofs.of_exchange_model.Lists.{filter_both, both_ways}
use Rattle.segment_model.proofs.of_exchange_model.Words.{given_part}
use Rattle.segment_model.proofs.of_exchange_model.Settles.{settled_ready}
use Rattle.segment_model.proofs.of_exchange_model.Nows.{reached_or_waits}
use Rattle.segment_model.proofs.of_exchange_model.Steps.{answered_whole}
use Rattle.segment_model.specs.Ends.{Outcome}
use Rattle.state_model.specs.States.{Table}
use Rattle.state_model.specs.Stated.{Stated, IsStated, Act, Service, Counting, acts, mails, with_states}
use Rattle.state_model.proofs.Acts.{acts_same, front_acts, plain_acts, rest_acts, cut_mails, plain_given_acts}
use Rattle.state_model.proofs.StatedLaw.{stated_law}

-- of an answered row with nothing left the server took a first part that brought all replies, which were heard, and what is held of it beside is all
-- the rest
pub record Answered {V A M Q R : Type 0} (x : Exchange V A M Q R) (w : V) (q : Q) (held taken heard : List M) : Type 0 where
  pub own : List M
  pub rest : List M
  pub held_is : taken ++ rest ≡ held
  pub full_is : x.full w q ≡ own ++ rest
  pub all_given : plain x.speech.emission (given x.serve w own) ≡ plain x.speech.emission (given x.serve w (x.full w q))
  pub all_heard : plain x.speech.emission heard ≡ plain x.speech.emission (given x.serve w (x.full w q))

module _ {V A M Q R : Type 0} (x : Exchange V A M Q R) (law : IsLawful x) (v : V) (ready : x.ready v ≡ true)
    (front last : List (Row M Q R)) (now : Row M Q R) (held taken accepted : List M) (at : Moment x v front last now held taken accepted) where
  pub answered_rest : (answer : R × ℕ) → now.answer ≡ Some answer → left x.speech now ≡ [] → Answered x (after x.serve v (told_all (front ++ last))) now.service held taken now.heard
  answered_rest answer is over =
      let fits = at.fits in
      elim (reached_or_waits x law v (front ++ last) now held taken accepted fits.settled fits.all_held fits.all_accepted at.order at.hears) [
        | inl here ↦
            let w = after x.serve v (told_all (front ++ last)) in
            let all = x.full w now.service in
            let done = answered_whole x law v ready front last now held taken accepted fits at.order at.hears answer is over in
            let whole : all ≡ here.own ++ at.order.0 = sym done.0.told ∙ here.told_is in
            record {
              own = here.own;
              rest = at.order.0;
              held_is = at.order.1;
              full_is = whole;
              all_given = both_ways (plain x.speech.emission (given x.serve w here.own)) (plain x.speech.emission (given x.serve w all))
                  (filter_both _ _ _ (given_part x.serve w here.own all (at.order.0, sym whole)))
                  (subst (λ l. IsPrefixOf l (plain x.speech.emission (given x.serve w here.own))) done.1.all_heard here.hears);
              all_heard = done.1.all_heard;
            }
        | inr wait ↦ absurd (
            let found = (fits.answered answer is).1 in
            let none : x.speech.ends now.service (plain x.speech.emission now.heard) ≡ None = ap (x.speech.ends now.service) wait.quiet ∙ law.none now.service in
            cc)
      ]

module _ {V A M Q R : Type 0} (x : Exchange V A M Q R) (s : Stated V A Q) (table : Table) (stated : IsStated x s) (law : IsLawful x) where
  abbrev both : Exchange (Counting V) (A × ℕ) (Act M) (Service Q) (Outcome R)
  both = with_states x s table

  -- where all replies of a service by mails came that has no acknowledgement, nothing of it is left
  none_left : (w : Counting V) (q : Q) (held taken : List (Act M)) (heard : List M) → x.ready w.server ≡ true → x.speech.valid q ≡ true → x.speech.handed q ≡ false →
      (s.acknowledged q && outnumbers (x.speech.planned q (plain x.speech.emission heard)) (plain x.speech.emission heard)) ≡ false → Answered both w (Service.Mails q) held taken (acts heard) → taken ≡ held
  none_left w q held taken heard ready valid replies unheard a =
      let all = x.full w.server q in
      let whole : plain x.speech.emission heard ≡ plain x.speech.emission (given x.serve w.server all) =
      acts_same _ _ (sym (plain_acts x.speech.emission heard) ∙ a.all_heard ∙ plain_given_acts x s table w all) in
      let quiet : (s.acknowledged q && outnumbers all (plain x.speech.emission (given x.serve w.server all))) ≡ false =
      ap₂ (λ (ms hs : List M). s.acknowledged q && outnumbers ms hs) (sym (ap (x.speech.planned q) whole ∙ law.all_planned w.server q ready valid)) (sym whole) ∙ unheard in
      let own : acts (mails a.own) ≡ a.own = front_acts all a.own a.rest a.full_is in
      let equal : acts (plain x.speech.emission (given x.serve w.server (mails a.own))) ≡ acts (plain x.speech.emission (given x.serve w.server all)) =
      sym (plain_given_acts x s table w (mails a.own)) ∙ ap (λ l. plain both.speech.emission (given both.serve w l)) own ∙ a.all_given ∙ plain_given_acts x s table w all in
      let none : mails a.rest ≡ [] = stated.last w.server q ready valid replies quiet (mails a.own) (mails a.rest) (cut_mails all a.own a.rest a.full_is) (acts_same _ _ equal) in
      let rest : a.rest ≡ [] = sym (rest_acts all a.own a.rest a.full_is) ∙ ap acts none in
      sym (append-nil taken) ∙ ap (λ l. taken ++ l) (sym rest) ∙ a.held_is

  module _ (v : Counting V) (ready : x.ready v.server ≡ true) (front last : List (Row (Act M) (Service Q) (Outcome R))) (now : Row (Act M) (Service Q) (Outcome R))
      (held taken accepted : List (Act M)) (at : Moment (with_states x s table) v front last now held taken accepted) where
    -- with its answer, and nothing left to tell, a service by mails that has no acknowledgement was taken whole
    pub answered_taken : (q : Q) → now.service ≡ Service.Mails q → (heard : List M) → now.heard ≡ acts heard →
        (s.acknowledged q && outnumbers (x.speech.planned q (plain x.speech.emission heard)) (plain x.speech.emission heard)) ≡ false →
        (answer : Outcome R × ℕ) → now.answer ≡ Some answer → left (with_states x s table).speech now ≡ [] → taken ≡ held
    answered_taken q service heard heard_is quiet answer is over =
        let lawful = stated_law x s table stated law in
        let w = after both.serve v (told_all (front ++ last)) in
        none_left w q held taken heard (settled_ready both lawful v (front ++ last) ready at.fits.settled)
        (ap both.speech.valid (sym service) ∙ at.fits.valid) (ap both.speech.handed (sym service) ∙ (at.fits.answered answer is).0) quiet
        (subst (λ hs. Answered both w (Service.Mails q) held taken hs) heard_is (subst (λ service. Answered both w service held taken now.heard) service (answered_rest both lawful v ready front last now held taken accepted at answer is over)))
