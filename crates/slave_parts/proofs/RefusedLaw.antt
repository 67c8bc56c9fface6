-- A refused protocol is served in whatever state its server is.
use Rattle.std.proofs.Common.{◌≡◌, ◌⊎◌, inl, inr, ◌≤◌, Bool, true, false, List, [], ◌++◌, refl, sym, ap, ◌∙◌, subst, arith}
use Rattle.std.specs.Prelude.{if◌then◌else◌}
use Rattle.idn_table.specs.of_exchange_model.Exchange.{Exchange, given, plain, emitted}
use Rattle.idn_table.specs.of_exchange_model.Refusing.{Refusal, IsAsked}
use Rattle.idn_table.proofs.of_exchange_model.Refusals.{snoc_cut, each_front, all_taken, Quiet, heard_of, quiet_after, quiet_given, all_after, replies, none_emitted, some_mail, follows, all_planned}
use Rattle.serving_model.specs.Tagged.{IsServed, Untouched, Touched}
use Rattle.slave_parts.specs.Whole.{refusing_whole, gated_whole, IsRefusedWhole}

module _ {V M Q R C : Type 0} (x : Exchange V V M Q R) (core : V → C) (r : Refusal V M Q R) (law : IsServed x core) (is : IsRefusedWhole x core r) where
  abbrev y : Exchange V V M Q R
  y = refusing_whole x r

  untouched : (v : V) (ms : List M) → Quiet r ms → Untouched y core v ms
  untouched v ms quiet = record {
    core_is = ap core (quiet_after r v ms quiet);
    handled = ap x.handled (quiet_after r v ms quiet);
    emitted = ap (emitted x.speech.emission) (quiet_given r v ms quiet);
  }

  touched : (v : V) (q : Q) (handed : Bool) (ms : List M) → IsAsked r handed ms → Touched y core v q ms
  touched v q handed ms a = record {
    core_is = ap core (all_after r v handed ms a);
    handled = ap x.handled (all_after r v handed ms a) ∙ is.handled v;
    emitted = ([], ap (λ (l : List M). l ++ []) (none_emitted r x.speech is.plain v handed ms a));
  }

  part : (v : V) (q : Q) → x.speech.valid q ≡ true → (p rest : List M) → r.asked q ≡ p ++ rest → Untouched y core v p ⊎ Touched y core v q p
  part v q valid p rest e =
      let a = is.asked q valid in
      elim (snoc_cut a.front a.last p rest (sym a.mails ∙ e)) [
        | inl front ↦ inl (untouched v p (each_front _ p front.0 (subst (Quiet r) front.1 a.quiet)))
        | inr whole ↦ inr (touched v q (x.speech.handed q) p (subst (IsAsked r (x.speech.handed q)) (a.mails ∙ sym whole.0) a))
      ]

  counted : (v : V) (q : Q) → x.speech.valid q ≡ true → x.speech.handed q ≡ false → (p rest : List M) → r.asked q ≡ p ++ rest →
      plain x.speech.emission (given y.serve v p) ≡ plain x.speech.emission (given y.serve v (r.asked q)) → Touched y core v q p
  counted v q valid answers p rest e same =
      let a = is.asked q valid in
      touched v q (x.speech.handed q) p (subst (IsAsked r (x.speech.handed q)) (sym (all_taken r x.speech is.plain v q answers a p rest e same).0) a)

  grows : (v : V) (b : Bool) → x.handled v ≤ x.handled (if b then r.counted v else v)
  grows v true = omega (arith, is.handled v)
  grows v false = omega arith

  passes : (v : V) (b : Bool) → x.ready v ≡ true → x.ready (if b then r.counted v else v) ≡ true
  passes v true ready = is.ready v ready
  passes v false ready = ready

  refused_served : IsServed y core
  refused_served = record {
    ready = λ v q ready valid. is.ready v ready;
    passes = λ v m ready. passes v (r.counts m) ready;
    whole = λ v q ready valid. all_after r v (x.speech.handed q) (r.asked q) (is.asked q valid);
    counts = λ v q ready valid. is.handled v;
    all_emitted = λ v q ready valid. none_emitted r x.speech is.plain v (x.speech.handed q) (r.asked q) (is.asked q valid);
    replied = λ v q ready valid answers. ap (x.speech.ends q) (replies r x.speech is.plain v (x.speech.handed q) (r.asked q) (is.asked q valid) ∙ ap (heard_of r) answers) ∙ is.ends q valid answers;
    silent = λ v q ready valid posts. replies r x.speech is.plain v (x.speech.handed q) (r.asked q) (is.asked q valid) ∙ ap (heard_of r) posts;
    part = λ v q ready valid p rest e. part v q valid p rest e;
    counted = λ v q ready valid answers p rest e same. counted v q valid answers p rest e same;
    none = law.none;
    ended = law.ended;
    follows = λ v q ready valid hs more e. follows r x.speech is.plain q (is.begins q valid) (is.sends q valid) (is.posts q valid) (x.speech.handed q) refl hs more (sym (replies r x.speech is.plain v (x.speech.handed q) (r.asked q) (is.asked q valid)) ∙ e);
    all_planned = λ v q ready valid. ap (x.speech.planned q) (replies r x.speech is.plain v (x.speech.handed q) (r.asked q) (is.asked q valid)) ∙ all_planned r x.speech is.plain q (is.begins q valid) (is.sends q valid) (is.posts q valid) (x.speech.handed q) refl;
    unanswered = law.unanswered;
    some = λ v q ready valid e. some_mail r (is.asked q valid) e;
    grows = λ v m. grows v (r.counts m);
  }

  pub gated_served : (served : Bool) → IsServed (gated_whole served x r) core
  gated_served true = law
  gated_served false = refused_served
