-- From a service that goes mail by mail to a call over a gateway.
use Rattle.std.proofs.Common.{◌≡◌, ℕ, suc, ◌≤◌, ◌<◌, List, [], ◌∷◌, ◌++◌, length, map, true, false, refl, sym, ap, ◌∙◌, subst}
use Rattle.std.specs.Prelude.{is_some}
use Rattle.slave_model.specs.of_mailbox_mail.Mail.{error_of}
use Rattle.slave_model.specs.of_mailbox_mail.declared.mail.Mail.{Mail}
use Rattle.slave_model.specs.of_mailbox_mail.declared.outcome.ReplyKind.{ReplyKind}
use Rattle.slave_model.specs.of_exchange_model.Exchange.{Exchange, IsLawful}
use Rattle.slave_model.specs.of_exchange_model.Lifted.{EachOf}
use Rattle.slave_model.specs.of_exchange_model.Prefix.{IsPrefixOf}
use Rattle.gateway_tool.specs.Rule.{Call, planned, ends}
use Rattle.tool_law.specs.Answered.{bare, IsAnswered}
use Rattle.tool_law.specs.Speaking.{IsSpeaking}

pub map_both : {A B C : Type 0} (f : A → B) (g : B → C) (xs : List A) → map g (map f xs) ≡ map (λ x. g (f x)) xs
map_both f g [] = refl
map_both f g (x ∷ xs) = ap (λ l. g (f x) ∷ l) (map_both f g xs)

pub map_same : {A B : Type 0} (f g : A → B) → ((x : A) → f x ≡ g x) → (xs : List A) → map f xs ≡ map g xs
map_same f g e [] = refl
map_same f g e (x ∷ xs) = λ i. e x i ∷ map_same f g e xs i

module _ {V A Q : Type 0} (x : Exchange V A Mail Q (ReplyKind × List ℕ)) (v : V) (q : Q) (c : Call) where
  pub answered_so : IsLawful x → x.ready v ≡ true → x.speech.valid q ≡ true → x.speech.handed q ≡ false →
      ((hs : List Mail) → x.speech.planned q hs ≡ planned c.areas c.service hs) → ((hs : List Mail) → x.speech.ends q hs ≡ ends c.areas c.service hs) →
      ((w : V) (m : Mail) (address counter : ℕ) → x.serve w (record m { address = address; counter = counter }) ≡ x.serve w m) →
      ((hs : List Mail) → planned c.areas c.service (map bare hs) ≡ planned c.areas c.service hs) → ((hs : List Mail) → ends c.areas c.service (map bare hs) ≡ ends c.areas c.service hs) →
      IsSpeaking x (error_of 0) v q → ((hs : List Mail) → EachOf (λ (m : Mail). length m.body.items ≤ 1480) (planned c.areas c.service hs)) → c.station < 65536 → IsAnswered x v q c
  answered_so law ready valid answers plans replies serves_bare plans_bare ends_bare s short station = record {
    law = law;
    ready = ready;
    valid = valid;
    answers = answers;
    plans = plans;
    replies = replies;
    serves_bare = serves_bare;
    plans_bare = plans_bare;
    ends_bare = ends_bare;
    few_planned = λ hs. subst (λ l. length l ≤ suc (length hs)) (plans hs) (s.few_planned hs);
    more_planned = λ hs more. subst (λ l. IsPrefixOf (planned c.areas c.service hs) l) (plans (hs ++ more)) (subst (λ l. IsPrefixOf l (x.speech.planned q (hs ++ more))) (plans hs) (s.more_planned hs more));
    goes_on = λ p m r e. (let g = s.goes_on p m r e in (g.0, sym (plans _) ∙ g.1));
    few_replies = s.few_replies;
    refused = λ hs h more r e. ap is_some (sym (replies (hs ++ error_of 0 ∷ []))) ∙ s.refused hs h more r (replies (hs ++ h ∷ more) ∙ e);
    few = s.few;
    short = short;
    station = station;
  }
