-- What a master that speaks as a slave's clients do says of whatever it asks.
use Rattle.std.proofs.Common.{◌≡◌, ◌≢◌, true, false, Option, Some, None, option_map, List, [], ◌∷◌, refl, sym, ap, ◌∙◌, inl, inr}
use Rattle.idle_slaves.specs.of_slave_model.Waits.{NeverWaits}
use Rattle.seen_slaves.specs.Told.{PlansSome}
use Rattle.served_rings.specs.of_life_counts.Epochs.{IsSpeaker, Speaker}
use Rattle.served_rings.specs.of_life_counts.Spoken.{IsNamed}

module _ {V M Q R C T : Type 0} (w : Speaker V M Q R C T) (k : IsSpeaker w) where
  abbrev Named : T → Type 0
  Named t = IsNamed w.naming w.exchange.speech w.states.acknowledged t

  -- nothing has its answer before it has heard anything
  silent_by : (t : T) → Named t → w.naming.speech.ends t [] ≡ None
  silent_by t (inl s) = s.1.ends [] ∙ ap (λ (o : Option R). option_map (λ (r : R). Some r) o) (k.served.none s.0)
  silent_by t (inr p) = p.1.ends []

  pub silent : (t : T) → w.naming.speech.ends t [] ≡ None
  silent t = silent_by t (k.speaks.names t)

  -- a mail that is passed on is told, whatever was heard
  plans_by : (t : T) (hs : List M) → Named t → w.naming.passed t ≡ true → w.naming.speech.planned t hs ≢ []
  plans_by t hs (inl s) passes e = (let no : false ≡ true = sym s.1.unpassed ∙ passes in cc)
  plans_by t hs (inr p) passes e = (let no : p.0 ∷ [] ≡ [] = sym (p.1.planned hs) ∙ e in cc)

  pub plans_some : PlansSome w.naming.speech w.naming.passed
  plans_some t hs passes = plans_by t hs (k.speaks.names t) passes

  -- and a service has a mail, where there is a server that may be served
  first_by : NeverWaits w.exchange → (v : V) → w.exchange.ready v ≡ true → (t : T) → Named t → w.naming.speech.valid t ≡ true → w.naming.speech.planned t [] ≢ []
  first_by never v ready t (inl s) valid e =
      let own : w.exchange.speech.valid s.0 ≡ true = sym s.1.valid ∙ valid in
      k.served.some v s.0 ready own (never v s.0 ready own [] (w.exchange.full v s.0) refl (sym (s.1.planned []) ∙ e))
  first_by never v ready t (inr p) valid e = (let no : p.0 ∷ [] ≡ [] = sym (p.1.planned []) ∙ e in cc)

  pub first : NeverWaits w.exchange → (v : V) → w.exchange.ready v ≡ true → (t : T) → w.naming.speech.valid t ≡ true → w.naming.speech.planned t [] ≢ []
  first never v ready t valid = first_by never v ready t (k.speaks.names t) valid
