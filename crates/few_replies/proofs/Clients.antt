-- A client of mails as they are, and one that sees what is meant by them, are one where contents tell it.
use Rattle.std.proofs.Common.{◌≡◌, ◌&&◌, not, Bool, true, false, cond, Option, None, Some, option_map, List, [], ◌∷◌, map, refl, ap, ap₂, ◌∙◌, if◌then◌else◌}
use Rattle.slave_parts.specs.of_exchange_model.Exchange.{Speech, plain}
use Rattle.slave_parts.specs.of_serving_model.Tagged.{Tagged, Asked, untag, is_own, told, more_of, asked_ends, tagged_speech}
use Rattle.slave_parts.specs.of_serving_model.Passing.{ends_told}
use Rattle.few_replies.specs.Client.{asked_speech, ByContents, MarksTold}
use Rattle.few_replies.specs.Erased.{PlanOne, EndOne}

pub plain_untag : {M Q : Type 0} (emission : M → Bool) (ts : List (Tagged M Q)) → ByContents emission ts → untag (plain (λ t. is_own t.meant) ts) ≡ plain emission (untag ts)
plain_untag emission [] c = refl
plain_untag emission (t ∷ ts) c = go (is_own t.meant) ∙ ap₂ (λ (b : Bool) (l : List _). cond (not b) (t.mail ∷ l) l) c.0 (plain_untag emission ts c.1)
  where
    go : (b : Bool) → untag (cond (not b) (t ∷ plain (λ k. is_own k.meant) ts) (plain (λ k. is_own k.meant) ts)) ≡ cond (not b) (t.mail ∷ untag (plain (λ k. is_own k.meant) ts)) (untag (plain (λ k. is_own k.meant) ts))
    go true = refl
    go false = refl

untag_more : {M : Type 0} (Q : Type 0) (ms : List M) → untag {Q = Q} (map (λ m. more_of m) ms) ≡ ms
untag_more Q [] = refl
untag_more Q (m ∷ ms) = ap (λ l. m ∷ l) (untag_more Q ms)

pub untag_told : {M Q : Type 0} (q : Q) (ms : List M) → untag (told q ms) ≡ ms
untag_told q [] = refl
untag_told {Q = Q} q (m ∷ ms) = ap (λ l. m ∷ l) (untag_more Q ms)

module _ {M Q R : Type 0} (x : Speech M Q R) (more : M → Bool) where
  abbrev mail : Tagged M Q → M
  mail t = t.mail

  same : {K : Type 0} (found : Option K) → option_map (λ r. r) found ≡ found
  same None = refl
  same (Some r) = refl

  pub plans : (q : Asked M Q) (hs : List (Tagged M Q)) → ByContents x.emission hs → PlanOne mail (λ p. p) (λ r. r) (tagged_speech x) (asked_speech x more) q hs
  plans (Asked.Script q) hs c = untag_told q (x.planned q (untag (plain (λ t. is_own t.meant) hs))) ∙ ap (x.planned q) (plain_untag x.emission hs c)
  plans (Asked.Passed m answers) hs c = refl

  pub ends : (q : Asked M Q) (hs : List (Tagged M Q)) → ByContents x.emission hs → MarksTold more q hs → EndOne mail (λ p. p) (λ r. r) (tagged_speech x) (asked_speech x more) q hs
  ends (Asked.Script q) hs c marks = same (asked_ends x (Asked.Script q) (plain (λ t. is_own t.meant) hs)) ∙ ap (λ l. option_map (λ r. Some r) (x.ends q l)) (plain_untag x.emission hs c)
  ends (Asked.Passed m answers) hs c marks =
      same (asked_ends x (Asked.Passed m answers) (plain (λ t. is_own t.meant) hs)) ∙ ap (λ b. if answers && b then Some None else None) (marks ∙ ap (ends_told more) (plain_untag x.emission hs c))
