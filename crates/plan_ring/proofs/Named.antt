-- THE LAWS OF AN EXCHANGE hold by its client's names.
use Rattle.std.proofs.Common.{◌≡◌, ◌⊎◌, inl, inr, ◌&&◌, Bool, true, false, List, [], ◌∷◌, ◌++◌, refl, ap, sym, ◌∙◌, subst}
use Rattle.std.specs.Prelude.{if◌then◌else◌, Option, Some, None, option_map}
use Rattle.slave_server.specs.of_exchange_model.Exchange.{Exchange, Speech, IsLawful, Before, Behind, given, outnumbers, plain}
use Rattle.slave_server.specs.of_exchange_model.Prefix.{IsPrefixOf}
use Rattle.slave_server.specs.of_state_model.Stated.{Stated, IsStated}
use Rattle.plan_ring.specs.Named.{Naming, named, named_states, Agrees, AgreesLast}

left_of : (a b : Bool) → (a && b) ≡ true → a ≡ true
left_of true b e = refl
left_of false b e = absurd (cc)

right_of : (a b : Bool) → (a && b) ≡ true → b ≡ true
right_of true b e = e
right_of false b e = absurd (cc)

module _ {V A M Q R P T : Type 0} (x : Exchange V A M Q R) (n : Naming Q R P T) (y : Speech M P T) (law : IsLawful x) (agrees : Agrees x n y) where
  is_one : (q : P) → (n.is q && y.valid q) ≡ true → n.is q ≡ true
  is_one q v = left_of (n.is q) (y.valid q) v

  valid_is : (q : P) → (n.is q && y.valid q) ≡ true → x.speech.valid (n.service q) ≡ true
  valid_is q v = agrees.valid q (is_one q v) (right_of (n.is q) (y.valid q) v)

  not_handed : (q : P) → n.is q ≡ true → y.handed q ≡ false → x.speech.handed (n.service q) ≡ false
  not_handed q is h = sym (agrees.handed q is) ∙ h

  is_handed : (q : P) → n.is q ≡ true → y.handed q ≡ true → x.speech.handed (n.service q) ≡ true
  is_handed q is h = sym (agrees.handed q is) ∙ h

  ends_is : (q : P) (hs : List M) → n.is q ≡ true → (if n.is q then y.ends q hs else None) ≡ option_map n.reply (x.speech.ends (n.service q) hs)
  ends_is q hs is = ap (λ (b : Bool). if b then y.ends q hs else None) is ∙ agrees.ends q hs is

  no_ends : (q : P) (hs : List M) → n.is q ≡ false → (if n.is q then y.ends q hs else None) ≡ None
  no_ends q hs is = ap (λ (b : Bool). if b then y.ends q hs else None) is

  -- with both ways
  each_way : (q : P) (hs : List M) → (n.is q ≡ true → x.speech.ends (n.service q) hs ≡ None) → (if n.is q then y.ends q hs else None) ≡ None
  each_way q hs none = go (n.is q) refl
    where
      go : (b : Bool) → n.is q ≡ b → (if n.is q then y.ends q hs else None) ≡ None
      go true is = ends_is q hs is ∙ ap (option_map n.reply) (none is)
      go false is = no_ends q hs is

  some_before : (o : Option R) (t : T) → option_map n.reply o ≡ Some t → (r : R) × (o ≡ Some r)
  some_before (Some r) t e = (r, refl)
  some_before None t e = absurd (cc)

  parts : (v : V) (q : P) (p : List M) → Before x v p ⊎ Behind x v (n.service q) p → Before (named x n y) v p ⊎ Behind (named x n y) v q p
  parts v q p (inl b) = inl (record { app = b.app; handled = b.handled; emitted = b.emitted })
  parts v q p (inr b) = inr (record { app = b.app; handled = b.handled; emitted = b.emitted })

  pub named_law : IsLawful (named x n y)
  named_law = record {
    ready = λ v q r w. law.ready v (n.service q) r (valid_is q w);
    whole = λ v q r w. let b = law.whole v (n.service q) r (valid_is q w) in record { app = b.app; handled = b.handled; emitted = b.emitted };
    all_emitted = λ v q r w. law.all_emitted v (n.service q) r (valid_is q w);
    replied = λ v q r w h. ends_is q _ (is_one q w) ∙ ap (option_map n.reply) (law.replied v (n.service q) r (valid_is q w) (not_handed q (is_one q w) h));
    silent = λ v q r w h. law.silent v (n.service q) r (valid_is q w) (is_handed q (is_one q w) h);
    part = λ v q r w p rest e. parts v q p (law.part v (n.service q) r (valid_is q w) p rest e);
    counted = λ v q r w h p rest e all. let b = law.counted v (n.service q) r (valid_is q w) (not_handed q (is_one q w) h) p rest e all in record { app = b.app; handled = b.handled; emitted = b.emitted };
    none = λ q. each_way q [] (λ is. law.none (n.service q));
    ended = λ q hs h more t e. each_way q (hs ++ h ∷ more) (λ is. let found = some_before (x.speech.ends (n.service q) hs) t (sym (ends_is q hs is) ∙ e) in law.ended (n.service q) hs h more found.0 found.1);
    follows = λ v q r w hs more e. subst (λ l. IsPrefixOf l (x.full v (n.service q))) (sym (agrees.planned q hs (is_one q w))) (law.follows v (n.service q) r (valid_is q w) hs more e);
    all_planned = λ v q r w. agrees.planned q _ (is_one q w) ∙ law.all_planned v (n.service q) r (valid_is q w);
    unanswered = λ q hs h. each_way q hs (λ is. law.unanswered (n.service q) hs (is_handed q is h));
    some = λ v q r w h. law.some v (n.service q) r (valid_is q w) (is_handed q (is_one q w) h);
    grows = law.grows;
  }

  module _ (s : Stated V A Q) (stated : IsStated x s) (acknowledged : P → Bool) (last : AgreesLast s n acknowledged) where
    pub named_stated : IsStated (named x n y) (named_states s acknowledged)
    named_stated = record {
      ready = stated.ready;
      handled = stated.handled;
      app = stated.app;
      is = stated.is;
      same = stated.same;
      stays = stated.stays;
      keeps = λ a q. stated.keeps a (n.service q);
      last = λ v q r w h k p rest e all. stated.last v (n.service q) r (valid_is q w) (not_handed q (is_one q w) h)
          (ap (λ (b : Bool). b && outnumbers (x.full v (n.service q)) (plain x.speech.emission (given x.serve v (x.full v (n.service q))))) (sym (last q (is_one q w))) ∙ k) p rest e all;
    }
