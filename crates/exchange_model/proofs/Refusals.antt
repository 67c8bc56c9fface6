-- What a slave that refuses a protocol does with the mails of its client.
use Rattle.std.proofs.Common.{◌≡◌, Bool, true, false, not, cond, List, [], ◌∷◌, ◌++◌, append-nil, ◌⊎◌, inl, inr, refl, sym, ap, ap₂, ◌∙◌, subst}
use Rattle.std.specs.Prelude.{if◌then◌else◌}
use Rattle.exchange_model.specs.Prefix.{IsPrefixOf}
use Rattle.exchange_model.specs.Exchange.{Speech, after, given, plain, emitted}
use Rattle.exchange_model.specs.Lifted.{EachOf}
use Rattle.exchange_model.proofs.Words.{after-append, given-append}
use Rattle.exchange_model.specs.Refusing.{Refusal, refused_serve, IsAsked}

-- where a list with a last one is cut, the cut is in its front, or behind the last
pub snoc_cut : {M : Type 0} (front : List M) (last : M) (p r : List M) → front ++ last ∷ [] ≡ p ++ r → ((rest : List M) × (front ≡ p ++ rest)) ⊎ ((p ≡ front ++ last ∷ []) × (r ≡ []))
snoc_cut front last [] r e = inl (front, refl)
snoc_cut [] last (h ∷ []) r e =
    let head : last ≡ h = cc in
    let tail : [] ≡ r = cc in
    inr (ap (λ m. m ∷ []) (sym head), sym tail)
snoc_cut [] last (h ∷ k ∷ p) r e = absurd (cc)
snoc_cut (f ∷ front) last (h ∷ p) r e =
    let head : f ≡ h = cc in
    let tail : front ++ last ∷ [] ≡ p ++ r = cc in
    elim (snoc_cut front last p r tail) [
      | inl in_front ↦ inl (in_front.0, ap₂ (λ (a : _) (l : List _). a ∷ l) head in_front.1)
      | inr whole ↦ inr (ap₂ (λ (a : _) (l : List _). a ∷ l) (sym head) whole.0, whole.1)
    ]

pub each_front : {M : Type 0} (P : M → Type 0) (xs ys : List M) → EachOf P (xs ++ ys) → EachOf P xs
each_front P [] ys all = tt
each_front P (x ∷ xs) ys all = (all.0, each_front P xs ys all.1)

module _ {V M Q R : Type 0} (r : Refusal V M Q R) where
  -- mails that neither count nor get an answer
  abbrev pub Quiet : List M → Type 0
  Quiet ms = EachOf (λ m. (r.counts m ≡ false) × (r.gives m ≡ [])) ms

  pub quiet_after : (v : V) (ms : List M) → Quiet ms → after (refused_serve r) v ms ≡ v
  quiet_after v [] all = refl
  quiet_after v (m ∷ ms) all = ap (λ (b : Bool). after (refused_serve r) (if b then r.counted v else v) ms) all.0.0 ∙ quiet_after v ms all.1

  pub quiet_given : (v : V) (ms : List M) → Quiet ms → given (refused_serve r) v ms ≡ []
  quiet_given v [] all = refl
  quiet_given v (m ∷ ms) all = ap (λ (l : List M). l ++ given (refused_serve r) (refused_serve r v m).0 ms) all.0.1 ∙ quiet_given (refused_serve r v m).0 ms all.1

  -- what a service hears
  abbrev pub heard_of : Bool → List M
  heard_of handed = if handed then [] else r.refusal ∷ []

  pub all_after : (v : V) (handed : Bool) (ms : List M) → IsAsked r handed ms → after (refused_serve r) v ms ≡ r.counted v
  all_after v handed ms a =
      ap (after (refused_serve r) v) a.mails ∙ after-append (refused_serve r) v a.front (a.last ∷ [])
      ∙ ap (λ w. after (refused_serve r) w (a.last ∷ [])) (quiet_after v a.front a.quiet)
      ∙ ap (λ (b : Bool). if b then r.counted v else v) a.counts

  all_given : (v : V) (handed : Bool) (ms : List M) → IsAsked r handed ms → given (refused_serve r) v ms ≡ heard_of handed
  all_given v handed ms a =
      ap (given (refused_serve r) v) a.mails ∙ given-append (refused_serve r) v a.front (a.last ∷ [])
      ∙ ap (λ (l : List M). l ++ given (refused_serve r) (after (refused_serve r) v a.front) (a.last ∷ [])) (quiet_given v a.front a.quiet)
      ∙ append-nil (r.gives a.last) ∙ a.answer

  pub some_mail : {handed : Bool} {ms : List M} → IsAsked r handed ms → ms ≡ [] → ⊥
  some_mail a e = none a.front a.last (sym a.mails ∙ e)
    where
      none : (front : List M) (last : M) → front ++ last ∷ [] ≡ [] → ⊥
      none [] last e = absurd (cc)
      none (f ∷ front) last e = absurd (cc)

  -- the mailbox error is no emission of the protocol
  module _ (speech : Speech M Q R) (is_plain : speech.emission r.refusal ≡ false) where
    heard_plain : (handed : Bool) → plain speech.emission (heard_of handed) ≡ heard_of handed
    heard_plain true = refl
    heard_plain false = ap (λ (b : Bool). cond (not b) (r.refusal ∷ []) []) is_plain

    heard_emitted : (handed : Bool) → emitted speech.emission (heard_of handed) ≡ []
    heard_emitted true = refl
    heard_emitted false = ap (λ (b : Bool). cond b (r.refusal ∷ []) []) is_plain

    pub replies : (v : V) (handed : Bool) (ms : List M) → IsAsked r handed ms → plain speech.emission (given (refused_serve r) v ms) ≡ heard_of handed
    replies v handed ms a = ap (plain speech.emission) (all_given v handed ms a) ∙ heard_plain handed

    pub none_emitted : (v : V) (handed : Bool) (ms : List M) → IsAsked r handed ms → emitted speech.emission (given (refused_serve r) v ms) ≡ []
    none_emitted v handed ms a = ap (emitted speech.emission) (all_given v handed ms a) ∙ heard_emitted handed

    -- a service that is answered has its reply only where all of its mails were taken
    pub all_taken : (v : V) (q : Q) → speech.handed q ≡ false → IsAsked r (speech.handed q) (r.asked q) → (p rest : List M) → r.asked q ≡ p ++ rest →
        plain speech.emission (given (refused_serve r) v p) ≡ plain speech.emission (given (refused_serve r) v (r.asked q)) → (p ≡ r.asked q) × (rest ≡ [])
    all_taken v q answers a p rest e same =
        elim (snoc_cut a.front a.last p rest (sym a.mails ∙ e)) [
          | inl front ↦
              let none : plain speech.emission (given (refused_serve r) v p) ≡ [] = ap (plain speech.emission) (quiet_given v p (each_front _ p front.0 (subst Quiet front.1 a.quiet))) in
              let some : plain speech.emission (given (refused_serve r) v (r.asked q)) ≡ r.refusal ∷ [] = replies v (speech.handed q) (r.asked q) a ∙ ap heard_of answers in
              let impossible : [] ≡ r.refusal ∷ [] = sym none ∙ same ∙ some in
              absurd (cc)
          | inr whole ↦ (whole.0 ∙ sym a.mails, whole.1)
        ]

    -- what the client sends where it hears nothing, and where it hears the mailbox error
    module _ (q : Q) (begins : IsPrefixOf (speech.planned q []) (r.asked q)) (sends : speech.handed q ≡ false → speech.planned q (r.refusal ∷ []) ≡ r.asked q) (posts : speech.handed q ≡ true → speech.planned q [] ≡ r.asked q) where
      pub follows : (handed : Bool) → speech.handed q ≡ handed → (hs more : List M) → heard_of handed ≡ hs ++ more → IsPrefixOf (speech.planned q hs) (r.asked q)
      follows handed h [] more e = begins
      follows true h (k ∷ hs) more e = absurd (cc)
      follows false h (k ∷ []) more e =
          let same : r.refusal ≡ k = cc in
          ([], append-nil _ ∙ ap (λ m. speech.planned q (m ∷ [])) (sym same) ∙ sends h)
      follows false h (k ∷ l ∷ hs) more e = absurd (cc)

      pub all_planned : (handed : Bool) → speech.handed q ≡ handed → speech.planned q (heard_of handed) ≡ r.asked q
      all_planned true h = posts h
      all_planned false h = sends h
