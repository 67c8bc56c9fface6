-- The AL state of calm servers.
use Rattle.std.proofs.Common.{◌≡◌, ℕ, ◌&&◌, Bool, true, false, refl, ap, ap₂, ◌∙◌}
use Rattle.master_hand.specs.of_exchange_model.Exchange.{Exchange, AnswersLast}
use Rattle.few_replies.specs.Calm.{asked_fair, calm_tagged}
use Rattle.master_hand.specs.of_serving_model.Tagged.{Asked, ideal, tagged}
use Rattle.master_hand.specs.of_serving_model.TaggedStates.{tagged_states}
use Rattle.master_hand.specs.of_state_model.Stated.{Stated, IsStated}

left_of : (a b : Bool) → (a && b) ≡ true → a ≡ true
left_of true b e = refl
left_of false b e = absurd (cc)

module _ {V M Q R : Type 0} (x : Exchange V V M Q R) (s : Stated V V Q) (calm : V → Bool) (fair : M → Bool) (keeps : (state : ℕ) (v : V) → calm (s.tell state v) ≡ calm v) (stated : IsStated (tagged x) (tagged_states x s)) where
  valid_in : (q : Asked M Q) → asked_fair x.speech fair q ≡ true → (tagged x).speech.valid q ≡ true
  valid_in (Asked.Script q) valid = valid
  valid_in (Asked.Passed m answers) valid = refl

  last_in : AnswersLast (calm_tagged x calm fair) (tagged_states x s).acknowledged
  last_in w q ready valid = stated.last w q (left_of (x.ready (ideal x w)) (calm (ideal x w)) ready) (valid_in q valid)

  pub calm_stated : IsStated (calm_tagged x calm fair) (tagged_states x s)
  calm_stated = record {
    ready = λ state w. ap₂ (λ (a b : Bool). a && b) (stated.ready state w) (ap calm (stated.app state w) ∙ keeps state (ideal x w));
    handled = stated.handled;
    app = stated.app;
    is = stated.is;
    same = stated.same;
    stays = stated.stays;
    keeps = stated.keeps;
    last = last_in;
  }
