-- A protocol over its whole server: the laws say all but what a service leaves of the transfers.
use Rattle.std.proofs.Common.{◌≡◌, ◌≢◌, inl, inr, Bool, true, false, List, [], None, Some, refl, sym, ap, ◌∙◌}
use Rattle.idn_table.specs.of_exchange_model.Exchange.{Exchange, IsLawful, Before, Behind, given, plain, emitted}
use Rattle.serving_model.specs.Tagged.{IsServed, Untouched, Touched}
use Rattle.slave_parts.specs.Whole.{whole_server, IsWhole}

module _ {V A M Q R : Type 0} (x : Exchange V A M Q R) (ready : V → Bool) (exec : V → Q → V) (law : IsLawful x) (is : IsWhole x ready exec) where
  abbrev y : Exchange V V M Q R
  y = whole_server x ready exec

  app_is : (v : V) (q : Q) → ready v ≡ true → x.speech.valid q ≡ true → x.app (exec v q) ≡ x.exec (x.app v) q
  app_is v q fine valid = ap x.app (sym (is.whole v q fine valid)) ∙ (law.whole v q (is.lawful v fine) valid).app

  untouched : (v : V) (ms : List M) → Before x v ms → Untouched y x.app v ms
  untouched v ms b = record { core_is = b.app; handled = b.handled; emitted = b.emitted }

  touched : (v : V) (q : Q) → ready v ≡ true → x.speech.valid q ≡ true → (ms : List M) → Behind x v q ms → Touched y x.app v q ms
  touched v q fine valid ms b = record { core_is = b.app ∙ sym (app_is v q fine valid); handled = b.handled; emitted = b.emitted }

  -- a service without a mail would have no reply
  some_by : (v : V) (q : Q) → ready v ≡ true → x.speech.valid q ≡ true → (handed : Bool) → x.speech.handed q ≡ handed → x.full v q ≢ []
  some_by v q fine valid true posts e = law.some v q (is.lawful v fine) valid posts e
  some_by v q fine valid false answers e = absurd (
      let wrong : None ≡ Some (x.reply (x.app v) q) =
      sym (law.none q) ∙ ap (λ ms. x.speech.ends q (plain x.speech.emission (given x.serve v ms))) (sym e) ∙ law.replied v q (is.lawful v fine) valid answers in cc)

  pub whole_served : IsServed (whole_server x ready exec) x.app
  whole_served = record {
    ready = is.again;
    passes = is.passes;
    whole = is.whole;
    counts = λ v q fine valid. ap x.handled (sym (is.whole v q fine valid)) ∙ (law.whole v q (is.lawful v fine) valid).handled;
    all_emitted = λ v q fine. law.all_emitted v q (is.lawful v fine);
    replied = λ v q fine. law.replied v q (is.lawful v fine);
    silent = λ v q fine. law.silent v q (is.lawful v fine);
    part = λ v q fine valid p r e. elim (law.part v q (is.lawful v fine) valid p r e) [ inl b ↦ inl (untouched v p b) | inr b ↦ inr (touched v q fine valid p b) ];
    counted = λ v q fine valid answers p r e same. touched v q fine valid p (law.counted v q (is.lawful v fine) valid answers p r e same);
    none = law.none;
    ended = law.ended;
    follows = λ v q fine. law.follows v q (is.lawful v fine);
    all_planned = λ v q fine. law.all_planned v q (is.lawful v fine);
    unanswered = law.unanswered;
    some = λ v q fine valid. some_by v q fine valid (x.speech.handed q) refl;
    grows = law.grows;
  }
