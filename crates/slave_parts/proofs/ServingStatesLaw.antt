-- A server that is one of a family at each AL state is served where each of the family is.
use Rattle.std.proofs.Common.{◌≡◌, ◌⊎◌, inl, inr, ℕ, true, List, ◌++◌, sym, ap, ◌∙◌, subst}
use Rattle.idn_table.specs.of_exchange_model.Prefix.{IsPrefixOf}
use Rattle.idn_table.specs.of_exchange_model.Exchange.{Exchange, given, plain, emitted}
use Rattle.serving_model.specs.of_state_model.Families.{InState, AreOneClient, in_states}
use Rattle.serving_model.proofs.of_state_model.FamilyLaw.{after_in, plain_given_in, emitted_given_in}
use Rattle.serving_model.specs.Tagged.{IsServed, Untouched, Touched}

module _ {V M Q R C : Type 0} (x : ℕ → Exchange V V M Q R) (core : V → C) (one : AreOneClient x) where
  abbrev y : Exchange (InState V) (InState V) M Q R
  y = in_states x

  abbrev seen : InState V → C
  seen v = core v.inner

  untouched : (v : InState V) (ms : List M) → Untouched (x v.state) core v.inner ms → Untouched y seen v ms
  untouched v ms u = record {
    core_is = ap seen (after_in x v ms) ∙ u.core_is;
    handled = ap y.handled (after_in x v ms) ∙ u.handled;
    emitted = emitted_given_in x one v ms ∙ u.emitted;
  }

  touched : (v : InState V) (q : Q) (ms : List M) → Touched (x v.state) core v.inner q ms → Touched y seen v q ms
  touched v q ms t = record {
    core_is = ap seen (after_in x v ms) ∙ t.core_is;
    handled = ap y.handled (after_in x v ms) ∙ t.handled;
    emitted = subst (λ es. IsPrefixOf es ((x v.state).emits v.inner q)) (sym (emitted_given_in x one v ms)) t.emitted;
  }

  module _ (law : (state : ℕ) → IsServed (x state) core) where
    part : (v : InState V) (q : Q) → y.ready v ≡ true → y.speech.valid q ≡ true → (p r : List M) → y.full v q ≡ p ++ r → Untouched y seen v p ⊎ Touched y seen v q p
    part v q ready valid p r e = elim ((law v.state).part v.inner q ready (one.valid v.state q ∙ valid) p r e) [ inl u ↦ inl (untouched v p u) | inr t ↦ inr (touched v q p t) ]

    pub family_served : IsServed (in_states x) (λ (v : InState V). core v.inner)
    family_served = record {
      ready = λ v q ready valid. (law v.state).ready v.inner q ready (one.valid v.state q ∙ valid);
      passes = λ v m ready. (law v.state).passes v.inner m ready;
      whole = λ v q ready valid. after_in x v (y.full v q) ∙ ap (λ (w : V). record v { inner = w }) ((law v.state).whole v.inner q ready (one.valid v.state q ∙ valid));
      counts = λ v q ready valid. (law v.state).counts v.inner q ready (one.valid v.state q ∙ valid);
      all_emitted = λ v q ready valid. emitted_given_in x one v (y.full v q) ∙ (law v.state).all_emitted v.inner q ready (one.valid v.state q ∙ valid);
      replied = λ v q ready valid answers. ap (y.speech.ends q) (plain_given_in x one v (y.full v q))
          ∙ sym (one.ends v.state q (plain (x v.state).speech.emission (given (x v.state).serve v.inner (y.full v q))))
          ∙ (law v.state).replied v.inner q ready (one.valid v.state q ∙ valid) (one.handed v.state q ∙ answers);
      silent = λ v q ready valid posts. plain_given_in x one v (y.full v q) ∙ (law v.state).silent v.inner q ready (one.valid v.state q ∙ valid) (one.handed v.state q ∙ posts);
      part = part;
      counted = λ v q ready valid answers p r e same. touched v q p ((law v.state).counted v.inner q ready (one.valid v.state q ∙ valid) (one.handed v.state q ∙ answers) p r e
          (sym (plain_given_in x one v p) ∙ same ∙ plain_given_in x one v (y.full v q)));
      none = (law 0).none;
      ended = (law 0).ended;
      follows = λ v q ready valid hs more e. subst (λ l. IsPrefixOf l (y.full v q)) (one.planned v.state q hs)
          ((law v.state).follows v.inner q ready (one.valid v.state q ∙ valid) hs more (sym (plain_given_in x one v (y.full v q)) ∙ e));
      all_planned = λ v q ready valid. ap (y.speech.planned q) (plain_given_in x one v (y.full v q))
          ∙ sym (one.planned v.state q (plain (x v.state).speech.emission (given (x v.state).serve v.inner (y.full v q))))
          ∙ (law v.state).all_planned v.inner q ready (one.valid v.state q ∙ valid);
      unanswered = (law 0).unanswered;
      some = λ v q ready valid. (law v.state).some v.inner q ready (one.valid v.state q ∙ valid);
      grows = λ v m. (law v.state).grows v.inner m;
    }
