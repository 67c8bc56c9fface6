-- A row that is answered, and whose service has no acknowledgement, was told and taken whole.
use Rattle.std.proofs.Common.{◌≡◌, ◌&&◌, nat_lt, inl, inr, ℕ, Bool, true, false, Some, None, List, [], ◌++◌, length, sym, ap, ap₂, ◌∙◌, subst, append-nil, append_assoc}
use Rattle.std.specs.Prelude.{drop}
use Rattle.protocol_models.specs.of_exchange_model.Exchange.{Exchange, IsLawful, AnswersLast, after, given, outnumbers, plain}
use Rattle.protocol_models.specs.of_exchange_model.Prefix.{IsPrefixOf}
use Rattle.protocol_models.specs.of_exchange_model.Rows.{Row, ends_unheard, left, told_all, heard_all}
use Rattle.protocol_models.specs.of_exchange_model.Laws.{Moment}
use Rattle.protocol_models.proofs.of_exchange_model.Lasts.{answered_unheard}
use Rattle.protocol_models.proofs.of_exchange_model.Lists.{append_none, append_cancel, both_ways, drop_behind, filter_both}
use Rattle.protocol_models.proofs.of_exchange_model.Nows.{complete, reached_or_waits}
use Rattle.protocol_models.proofs.of_exchange_model.Settles.{settled_heard, settled_ready}
use Rattle.protocol_models.proofs.of_exchange_model.Words.{given_part, plain-append, plain_given-append}
use Rattle.life_model.specs.of_state_model.Stated.{Stated, IsStated, Service, acts, mails, with_states}
use Rattle.life_model.proofs.of_state_model.Acts.{acts_length, acts_same, cut_mails, front_acts, rest_acts, plain_given_acts}
use Rattle.life_model.specs.of_state_model.States.{Table}
use Rattle.slave_model.specs.Waits.{NeverWaits}

module _ {V A M Q R : Type 0} (x : Exchange V A M Q R) (law : IsLawful x) (v : V) (ready : x.ready v ≡ true) (front last : List (Row M Q R)) (now : Row M Q R) (held taken accepted : List M)
    (at : Moment x v front last now held taken accepted) where
  abbrev past : List (Row M Q R)
  past = front ++ last

  abbrev pub before : V
  before = after x.serve v (told_all past)

  abbrev all : List M
  all = x.full before now.service

  abbrev plainly : List M → List M
  plainly = plain x.speech.emission

  pub on : x.ready before ≡ true
  on = settled_ready x law v past ready at.fits.settled

  -- ALL WAS TOLD AND TAKEN, and nothing is left
  pub answered_all : (acknowledged : Q → Bool) → AnswersLast x acknowledged → (answer : R × ℕ) → now.answer ≡ Some answer → ends_unheard x.speech acknowledged now ≡ false → (taken ≡ held) × (left x.speech now ≡ [])
  answered_all acknowledged lasts answer is quiet =
      let known = at.fits.answered answer is in
      elim (reached_or_waits x law v past now held taken accepted at.fits.settled at.fits.all_held at.fits.all_accepted at.order at.hears) [
        | inl here ↦
            let rest = at.order.0 ++ at.fits.mine.0 in
            let done = complete x law v past now held taken accepted at.fits.settled at.fits.all_held at.fits.all_accepted at.order at.hears ready at.fits.valid at.fits.mine known.0 answer.0 known.1 in
            let whole : all ≡ here.own ++ rest = sym at.fits.mine.1 ∙ ap (λ l. l ++ at.fits.mine.0) here.told_is ∙ append_assoc here.own at.order.0 at.fits.mine.0 in
            let same : plainly (given x.serve before here.own) ≡ plainly (given x.serve before all) =
            both_ways (plainly (given x.serve before here.own)) (plainly (given x.serve before all)) (filter_both _ _ _ (given_part x.serve before here.own all (rest, sym whole)))
            (subst (λ l. IsPrefixOf l (plainly (given x.serve before here.own))) done.all_heard here.hears) in
            let unheard : (acknowledged now.service && outnumbers all (plainly (given x.serve before all))) ≡ false =
            ap₂ (λ (ms hs : List M). acknowledged now.service && outnumbers ms hs) (sym (ap (x.speech.planned now.service) done.all_heard ∙ law.all_planned before now.service on at.fits.valid)) (sym done.all_heard)
            ∙ sym (answered_unheard x.speech acknowledged now answer is) ∙ quiet in
            let none = append_none at.order.0 at.fits.mine.0 (lasts before now.service on at.fits.valid known.0 unheard here.own rest whole same) in
            let told : now.told ≡ all = sym (append-nil now.told) ∙ ap (λ l. now.told ++ l) (sym none.1) ∙ at.fits.mine.1 in
            let planned : x.speech.planned now.service (plainly now.heard) ≡ now.told ++ [] =
            ap (x.speech.planned now.service) done.all_heard ∙ law.all_planned before now.service on at.fits.valid ∙ sym told ∙ sym (append-nil now.told) in (
              sym (append-nil taken) ∙ ap (λ l. taken ++ l) (sym none.0) ∙ at.order.1,
              ap (drop (length now.told)) planned ∙ drop_behind now.told [],
            )
        | inr wait ↦ absurd (let none : x.speech.ends now.service (plainly now.heard) ≡ None = ap (x.speech.ends now.service) wait.quiet ∙ law.none now.service in
            let no : Some answer.0 ≡ None = sym known.1 ∙ none in cc)
      ]

  -- WHERE ALL WAS TAKEN AND HEARD and nothing is left to tell, the reply is there
  module _ (never : NeverWaits x) (took : taken ≡ held) (heard : accepted ≡ given x.serve v taken) (none : left x.speech now ≡ []) where
    replies : plainly now.heard ≡ plainly (given x.serve before now.told)
    replies = append_cancel (plainly (given x.serve v (told_all past))) (plainly now.heard) (plainly (given x.serve before now.told))
        (sym (ap plainly at.fits.all_accepted ∙ plain-append x.speech.emission (heard_all past) now.heard ∙ ap (λ l. l ++ plainly now.heard) (settled_heard x law v past at.fits.settled))
        ∙ ap plainly heard ∙ ap (λ l. plainly (given x.serve v l)) (took ∙ at.fits.all_held) ∙ plain_given-append x.serve x.speech.emission v (told_all past) now.told)

    whole : all ≡ now.told
    whole =
        let rest : at.fits.mine.0 ≡ [] = never before now.service on at.fits.valid now.told at.fits.mine.0 (sym at.fits.mine.1)
        (ap (λ l. drop (length now.told) (x.speech.planned now.service l)) (sym replies) ∙ none) in
        sym at.fits.mine.1 ∙ ap (λ l. now.told ++ l) rest ∙ append-nil now.told

    -- all of them were heard
    pub whole_heard : plainly now.heard ≡ plainly (given x.serve before all)
    whole_heard = replies ∙ ap (λ l. plainly (given x.serve before l)) (sym whole)

    pub replied : x.speech.handed now.service ≡ false → x.speech.ends now.service (plainly now.heard) ≡ Some (x.reply (x.app before) now.service)
    replied waits = ap (x.speech.ends now.service) whole_heard ∙ law.replied before now.service on at.fits.valid waits

-- with state services beside
abbrev pub acknowledges : {Q : Type 0} → (Q → Bool) → Service Q → Bool
acknowledges acknowledged (Service.Mails q) = acknowledged q
acknowledges acknowledged (Service.State target) = false

module _ {V A M Q R : Type 0} (x : Exchange V A M Q R) (s : Stated V A Q) (table : Table) (stated : IsStated x s) where
  pub states_last : AnswersLast (with_states x s table) (acknowledges s.acknowledged)
  states_last c (Service.Mails q) ready valid replies quiet p r e same =
      let full = x.full c.server q in
      let front : acts (mails p) ≡ p = front_acts full p r e in
      let equal : acts (plain x.speech.emission (given x.serve c.server (mails p))) ≡ acts (plain x.speech.emission (given x.serve c.server full)) =
      sym (plain_given_acts x s table c (mails p)) ∙ ap (λ l. plain (with_states x s table).speech.emission (given (with_states x s table).serve c l)) front ∙ same ∙ plain_given_acts x s table c full in
      let unheard : outnumbers full (plain x.speech.emission (given x.serve c.server full))
      ≡ outnumbers (acts full) (plain (with_states x s table).speech.emission (given (with_states x s table).serve c (acts full))) =
      ap₂ nat_lt (sym (acts_length (plain x.speech.emission (given x.serve c.server full))) ∙ ap length (sym (plain_given_acts x s table c full))) (sym (acts_length full)) in
      sym (rest_acts full p r e) ∙ ap acts (stated.last c.server q ready valid replies (ap (λ b. s.acknowledged q && b) unheard ∙ quiet) (mails p) (mails r) (cut_mails full p r e) (acts_same _ _ equal))
  states_last c (Service.State target) ready valid replies quiet p r e same = absurd (let no : true ≡ false = replies in cc)
