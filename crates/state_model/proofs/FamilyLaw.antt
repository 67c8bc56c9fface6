-- A family of exchanges as one: it keeps the laws of its members, and its AL state is a part of its application.
use Rattle.std.proofs.Common.{◌≡◌, ◌⊎◌, inl, inr, ℕ, ◌&&◌, Bool, true, not, List, [], ◌∷◌, ◌++◌, refl, sym, ap, ◌∙◌, subst}
use Rattle.std.proofs.lemmas.List.Elements.{filter_agree}
use Rattle.segment_model.specs.of_exchange_model.Prefix.{IsPrefixOf}
use Rattle.segment_model.specs.of_exchange_model.Exchange.{Exchange, IsLawful, AnswersLast, Before, Behind, after, given, plain, emitted, outnumbers}
use Rattle.state_model.specs.Stated.{IsStated}
use Rattle.state_model.specs.Families.{InState, AreOneClient, AreOne, in_states, states_of}

module _ {V A M Q R : Type 0} (x : ℕ → Exchange V A M Q R) where
  abbrev family : Exchange (InState V) (InState A) M Q R
  family = in_states x

  -- mails are served by the member at the AL state that stands
  pub after_in : (v : InState V) (ms : List M) → after family.serve v ms ≡ record v { inner = after (x v.state).serve v.inner ms }
  after_in v [] = refl
  after_in v (m ∷ ms) = after_in (record v { inner = ((x v.state).serve v.inner m).0 }) ms

  pub given_in : (v : InState V) (ms : List M) → given family.serve v ms ≡ given (x v.state).serve v.inner ms
  given_in v [] = refl
  given_in v (m ∷ ms) = ap (λ l. ((x v.state).serve v.inner m).1 ++ l) (given_in (record v { inner = ((x v.state).serve v.inner m).0 }) ms)

  module _ (one : AreOneClient x) where
    pub plain_given_in : (v : InState V) (ms : List M) → plain family.speech.emission (given family.serve v ms) ≡ plain (x v.state).speech.emission (given (x v.state).serve v.inner ms)
    plain_given_in v ms =
        ap (plain family.speech.emission) (given_in v ms)
        ∙ filter_agree (λ m. not ((x 0).speech.emission m)) (λ m. not ((x v.state).speech.emission m)) (λ m. ap not (sym (one.emission v.state m))) (given (x v.state).serve v.inner ms)

    pub emitted_given_in : (v : InState V) (ms : List M) → emitted family.speech.emission (given family.serve v ms) ≡ emitted (x v.state).speech.emission (given (x v.state).serve v.inner ms)
    emitted_given_in v ms =
        ap (emitted family.speech.emission) (given_in v ms)
        ∙ filter_agree (x 0).speech.emission (x v.state).speech.emission (λ m. sym (one.emission v.state m)) (given (x v.state).serve v.inner ms)

    before_in : (v : InState V) (ms : List M) → Before (x v.state) v.inner ms → Before family v ms
    before_in v ms b = record {
      app = ap family.app (after_in v ms) ∙ ap (λ (a : A). record { inner = a; state = v.state }) b.app;
      handled = ap family.handled (after_in v ms) ∙ b.handled;
      emitted = emitted_given_in v ms ∙ b.emitted;
    }

    behind_in : (v : InState V) (q : Q) (ms : List M) → Behind (x v.state) v.inner q ms → Behind family v q ms
    behind_in v q ms b = record {
      app = ap family.app (after_in v ms) ∙ ap (λ (a : A). record { inner = a; state = v.state }) b.app;
      handled = ap family.handled (after_in v ms) ∙ b.handled;
      emitted = subst (λ es. IsPrefixOf es ((x v.state).emits ((x v.state).app v.inner) q)) (sym (emitted_given_in v ms)) b.emitted;
    }

    -- replies to a first part that are all replies, are so for the member
    same_in : (v : InState V) (q : Q) (p : List M) → plain family.speech.emission (given family.serve v p) ≡ plain family.speech.emission (given family.serve v (family.full v q)) →
        plain (x v.state).speech.emission (given (x v.state).serve v.inner p) ≡ plain (x v.state).speech.emission (given (x v.state).serve v.inner ((x v.state).full v.inner q))
    same_in v q p same = sym (plain_given_in v p) ∙ same ∙ plain_given_in v (family.full v q)

    module _ (law : (state : ℕ) → IsLawful (x state)) where
      part_in : (v : InState V) (q : Q) → family.ready v ≡ true → family.speech.valid q ≡ true → (p r : List M) → family.full v q ≡ p ++ r → Before family v p ⊎ Behind family v q p
      part_in v q ready valid p r e = elim ((law v.state).part v.inner q ready (one.valid v.state q ∙ valid) p r e) [
        | inl b ↦ inl (before_in v p b)
        | inr b ↦ inr (behind_in v q p b)
      ]

      pub family_law : IsLawful (in_states x)
      family_law = record {
        ready = λ v q ready valid. ap family.ready (after_in v (family.full v q)) ∙ (law v.state).ready v.inner q ready (one.valid v.state q ∙ valid);
        whole = λ v q ready valid. behind_in v q (family.full v q) ((law v.state).whole v.inner q ready (one.valid v.state q ∙ valid));
        all_emitted = λ v q ready valid. emitted_given_in v (family.full v q) ∙ (law v.state).all_emitted v.inner q ready (one.valid v.state q ∙ valid);
        replied = λ v q ready valid answers. ap (family.speech.ends q) (plain_given_in v (family.full v q))
            ∙ sym (one.ends v.state q (plain (x v.state).speech.emission (given (x v.state).serve v.inner (family.full v q))))
            ∙ (law v.state).replied v.inner q ready (one.valid v.state q ∙ valid) (one.handed v.state q ∙ answers);
        silent = λ v q ready valid posts. plain_given_in v (family.full v q) ∙ (law v.state).silent v.inner q ready (one.valid v.state q ∙ valid) (one.handed v.state q ∙ posts);
        part = part_in;
        counted = λ v q ready valid answers p r e same.
            behind_in v q p ((law v.state).counted v.inner q ready (one.valid v.state q ∙ valid) (one.handed v.state q ∙ answers) p r e (same_in v q p same));
        none = (law 0).none;
        ended = (law 0).ended;
        follows = λ v q ready valid hs more e. subst (λ l. IsPrefixOf l (family.full v q)) (one.planned v.state q hs)
            ((law v.state).follows v.inner q ready (one.valid v.state q ∙ valid) hs more (sym (plain_given_in v (family.full v q)) ∙ e));
        all_planned = λ v q ready valid. ap (family.speech.planned q) (plain_given_in v (family.full v q))
            ∙ sym (one.planned v.state q (plain (x v.state).speech.emission (given (x v.state).serve v.inner (family.full v q))))
            ∙ (law v.state).all_planned v.inner q ready (one.valid v.state q ∙ valid);
        unanswered = (law 0).unanswered;
        some = λ v q ready valid posts. (law v.state).some v.inner q ready (one.valid v.state q ∙ valid) (one.handed v.state q ∙ posts);
        grows = λ v m. (law v.state).grows v.inner m;
      }

  module _ (one : AreOne x) (acknowledged : Q → Bool) (last : (state : ℕ) → AnswersLast (x state) acknowledged) where
    pub family_is_stated : IsStated (in_states x) (states_of acknowledged)
    family_is_stated = record {
      ready = λ state v. one.ready state v.inner ∙ sym (one.ready v.state v.inner);
      handled = λ state v. one.handled state v.inner ∙ sym (one.handled v.state v.inner);
      app = λ state v. ap (λ (a : A). record { inner = a; state = state }) (one.app state v.inner ∙ sym (one.app v.state v.inner));
      is = λ state a. refl;
      same = λ v. refl;
      stays = λ v m. refl;
      keeps = λ a q. refl;
      last = λ v q ready valid answers quiet p r e same.
          last v.state v.inner q ready (one.client.valid v.state q ∙ valid) (one.client.handed v.state q ∙ answers)
          (ap (λ l. acknowledged q && outnumbers ((in_states x).full v q) l) (sym (plain_given_in one.client v ((in_states x).full v q))) ∙ quiet) p r e (same_in one.client v q p same);
    }
