-- WITH ANY MAILS AMONG THEM services are one exchange that keeps its laws.
use Rattle.std.proofs.Common.{◌≡◌, ◌⊎◌, inl, inr, ◌&&◌, Bool, true, false, List, refl}
use Rattle.served_places.specs.of_exchange_model.Exchange.{Exchange, IsLawful, Before, Behind, after}
use Rattle.run_work.specs.of_few_replies.Calm.{asked_fair, calm_tagged}
use Rattle.served_places.specs.of_serving_model.Tagged.{IsServed, Asked, Rowed, ideal, tagged}
use Rattle.run_work.proofs.of_serving_model.TaggedLaw.{tagged_lawful}

-- AN EXCHANGE OF FEWER SERVERS AND SERVICES keeps the laws, where all mails of a service leave one of its servers
module _ {V A M Q R : Type 0} (x : Exchange V A M Q R) (law : IsLawful x) (ready : V → Bool) (valid : Q → Bool) (servers : (v : V) → ready v ≡ true → x.ready v ≡ true) (services : (q : Q) → valid q ≡ true → x.speech.valid q ≡ true)
    (stays : (v : V) (q : Q) → ready v ≡ true → valid q ≡ true → ready (after x.serve v (x.full v q)) ≡ true) where
  abbrev fewer : Exchange V A M Q R
  fewer = record x { ready = ready; speech = record x.speech { valid = valid } }

  before_in : (v : V) (ms : List M) → Before x v ms → Before fewer v ms
  before_in v ms b = record { app = b.app; handled = b.handled; emitted = b.emitted }

  behind_in : (v : V) (q : Q) (ms : List M) → Behind x v q ms → Behind fewer v q ms
  behind_in v q ms b = record { app = b.app; handled = b.handled; emitted = b.emitted }

  part_in : (v : V) (q : Q) (p : List M) → Before x v p ⊎ Behind x v q p → Before fewer v p ⊎ Behind fewer v q p
  part_in v q p (inl b) = inl (before_in v p b)
  part_in v q p (inr b) = inr (behind_in v q p b)

  pub fewer_lawful : IsLawful fewer
  fewer_lawful = record {
    ready = λ v q r k. stays v q r k;
    whole = λ v q r k. behind_in v q _ (law.whole v q (servers v r) (services q k));
    all_emitted = λ v q r k. law.all_emitted v q (servers v r) (services q k);
    replied = λ v q r k. law.replied v q (servers v r) (services q k);
    silent = λ v q r k. law.silent v q (servers v r) (services q k);
    part = λ v q r k p rest e. part_in v q p (law.part v q (servers v r) (services q k) p rest e);
    counted = λ v q r k nay p rest e all. behind_in v q p (law.counted v q (servers v r) (services q k) nay p rest e all);
    none = law.none;
    ended = law.ended;
    follows = λ v q r k. law.follows v q (servers v r) (services q k);
    all_planned = λ v q r k. law.all_planned v q (servers v r) (services q k);
    unanswered = law.unanswered;
    some = λ v q r k. law.some v q (servers v r) (services q k);
    grows = law.grows;
  }

first_of : (a : Bool) → (a && true) ≡ true → a ≡ true
first_of true e = refl
first_of false e = e

and_true : (a : Bool) → a ≡ true → (a && true) ≡ true
and_true true e = refl
and_true false e = e

module _ {V M Q R C : Type 0} (x : Exchange V V M Q R) (core : V → C) (served : IsServed x core) (fair : M → Bool) where
  any_valid : (q : Asked M Q) → asked_fair x.speech fair q ≡ true → (tagged x).speech.valid q ≡ true
  any_valid (Asked.Script q) e = e
  any_valid (Asked.Passed m answers) e = refl

  -- whatever mails are passed on
  pub any_lawful : IsLawful (calm_tagged x (λ v. true) fair)
  any_lawful =
      let law = tagged_lawful x core served in
      fewer_lawful (tagged x) law (λ (w : Rowed V M Q). x.ready (ideal x w) && true) (asked_fair x.speech fair) (λ w e. first_of (x.ready (ideal x w)) e) any_valid
      (λ w q e k. and_true _ (law.ready w q (first_of (x.ready (ideal x w)) e) (any_valid q k)))
