-- All replies of a mail that is passed on are heard in its row, and the last tells that it is the last.
use Rattle.std.proofs.Common.{◌≡◌, inl, inr, Bool, true, false, not, cond, Option, List, [], ◌∷◌, ◌++◌, refl, ap, sym, ◌∙◌, subst, append-nil, if◌then◌else◌}
use Rattle.state_model.specs.of_exchange_model.Exchange.{Exchange, given, plain}
use Rattle.state_model.specs.of_exchange_model.Rows.{Row, IsWhole}
use Rattle.serving_model.specs.Tagged.{Meant, Tagged, Asked, Rowed, untag, is_own, no_reply, last_gifts, answer_gifts, ends_marked, ideal, tagged, IsForeseen}
use Rattle.serving_model.specs.Passing.{ends_told, LastTells, PassedWhole}

-- replies with the last one marked
abbrev marked : {M : Type 0} → (Q : Type 0) → List M → List (Tagged M Q)
marked Q [] = []
marked Q (m ∷ []) = record { mail = m; meant = Meant.Reply true } ∷ []
marked Q (m ∷ (n ∷ ms)) = record { mail = m; meant = Meant.Reply false } ∷ marked Q (n ∷ ms)

untag-marked : {M : Type 0} (Q : Type 0) (ms : List M) → untag (marked Q ms) ≡ ms
untag-marked Q [] = refl
untag-marked Q (m ∷ []) = refl
untag-marked Q (m ∷ (n ∷ ms)) = ap (λ l. m ∷ l) (untag-marked Q (n ∷ ms))

-- one reply before others
marked-cons : {M : Type 0} (Q : Type 0) (m : M) (ms : List M) (none : Bool) → (none ≡ true → ms ≡ []) → (none ≡ false → ms ≡ [] → ⊥) → record { mail = m; meant = Meant.Reply none } ∷ marked Q ms ≡ marked Q (m ∷ ms)
marked-cons Q m [] true is nay = refl
marked-cons Q m [] false is nay = absurd (nay refl refl)
marked-cons Q m (n ∷ ms) true is nay = absurd (let bad : n ∷ ms ≡ [] = is refl in cc)
marked-cons Q m (n ∷ ms) false is nay = refl

no-plain : {M : Type 0} (e : M → Bool) (ms : List M) → no_reply e ms ≡ true → plain e ms ≡ []
no-plain e [] is = refl
no-plain e (m ∷ ms) is = go (e m) is (no-plain e ms)
  where
    go : (b : Bool) → (if b then no_reply e ms else false) ≡ true → (no_reply e ms ≡ true → plain e ms ≡ []) → cond (not b) (m ∷ plain e ms) (plain e ms) ≡ []
    go true is rest = rest is
    go false is rest = absurd (cc)

some-plain : {M : Type 0} (e : M → Bool) (ms : List M) → no_reply e ms ≡ false → plain e ms ≡ [] → ⊥
some-plain e [] is = λ f. cc
some-plain e (m ∷ ms) is = go (e m) is (some-plain e ms)
  where
    go : (b : Bool) → (if b then no_reply e ms else false) ≡ false → (no_reply e ms ≡ false → plain e ms ≡ [] → ⊥) → cond (not b) (m ∷ plain e ms) (plain e ms) ≡ [] → ⊥
    go true is rest = rest is
    go false is rest = λ f. cc

-- WHAT ANSWERS such a mail are its replies, the last one marked
plain-last : {M : Type 0} (Q : Type 0) (e : M → Bool) (ms : List M) → plain (λ t. is_own t.meant) (last_gifts {Q = Q} e ms) ≡ marked Q (plain e ms)
plain-last Q e [] = refl
plain-last {M} Q e (m ∷ ms) = go (e m) (plain-last Q e ms)
  where
    go : (b : Bool) → plain (λ t. is_own t.meant) (last_gifts {Q = Q} e ms) ≡ marked Q (plain e ms) →
        plain (λ (t : Tagged M Q). is_own t.meant) (record { mail = m; meant = if b then Meant.Own else Meant.Reply (no_reply e ms) } ∷ last_gifts e ms) ≡ marked Q (cond (not b) (m ∷ plain e ms) (plain e ms))
    go true rest = rest
    go false rest = ap (λ l. record { mail = m; meant = Meant.Reply (no_reply e ms) } ∷ l) rest ∙ marked-cons Q m (plain e ms) (no_reply e ms) (no-plain e ms) (some-plain e ms)

pub plain-answer : {M : Type 0} (Q : Type 0) (e : M → Bool) (m : M) (ms : List M) → no_reply e ms ≡ false → plain (λ t. is_own t.meant) (answer_gifts {Q = Q} e m ms) ≡ marked Q (plain e ms)
plain-answer {M} Q e m ms loud =
    ap (λ b. plain (λ (t : Tagged M Q). is_own t.meant) (if b then record { mail = m; meant = Meant.Reply true } ∷ last_gifts e ms else last_gifts e ms)) loud ∙ plain-last Q e ms

-- MARKS AND CONTENTS SAY THE SAME of each first part
same_ends : {M : Type 0} (Q : Type 0) (more : M → Bool) (ps : List M) (hs rest : List (Tagged M Q)) → ends_told more ps ≡ true → marked Q ps ≡ hs ++ rest → ends_marked hs ≡ ends_told more (untag hs)
same_ends Q more ps [] rest tells e = refl
same_ends Q more [] (h ∷ hs) rest tells e = absurd (cc)
same_ends {M} Q more (p ∷ []) (h ∷ []) rest tells e =
    let same : record { mail = p; meant = Meant.Reply true } ∷ [] ≡ h ∷ rest = e in
    let head : record { mail = p; meant = Meant.Reply true } ≡ h = cc in
    subst (λ (t : Tagged M Q). ends_marked (t ∷ []) ≡ ends_told more (untag (t ∷ []))) head (sym tells)
same_ends Q more (p ∷ []) (h ∷ (g ∷ hs)) rest tells e = absurd (let same : record { mail = p; meant = Meant.Reply true } ∷ [] ≡ h ∷ (g ∷ (hs ++ rest)) = e in cc)
same_ends {M} Q more (p ∷ (q ∷ ps)) (h ∷ hs) rest tells e =
    let same : record { mail = p; meant = Meant.Reply false } ∷ marked Q (q ∷ ps) ≡ h ∷ (hs ++ rest) = e in
    let head : record { mail = p; meant = Meant.Reply false } ≡ h = cc in
    let tail : marked Q (q ∷ ps) ≡ hs ++ rest = cc in
    let goes = on (more p) tells in
    subst (λ (t : Tagged M Q). ends_marked (t ∷ hs) ≡ ends_told more (untag (t ∷ hs))) head (go hs goes.0 (same_ends Q more (q ∷ ps) hs rest goes.1 tail))
  where
    on : (b : Bool) → (if b then ends_told more (q ∷ ps) else false) ≡ true → (b ≡ true) × (ends_told more (q ∷ ps) ≡ true)
    on true t = (refl, t)
    on false t = absurd (cc)

    go : (hs : List (Tagged M Q)) → more p ≡ true → ends_marked hs ≡ ends_told more (untag hs) → ends_marked (record { mail = p; meant = Meant.Reply false } ∷ hs) ≡ ends_told more (untag (record { mail = p; meant = Meant.Reply false } ∷ hs))
    go [] goes rest = ap not (sym goes)
    go (g ∷ hs) goes rest = rest ∙ ap (λ b. if b then ends_told more (untag (g ∷ hs)) else false) (sym goes)

module _ {V M Q R : Type 0} (x : Exchange V V M Q R) (more : M → Bool) (tells : LastTells x more) where
  -- its replies are some, so the last tells
  telling : (v : V) (m : M) → x.ready v ≡ true → no_reply x.speech.emission (x.serve v m).1 ≡ false → ends_told more (plain x.speech.emission (x.serve v m).1) ≡ true
  telling v m ready loud = elim (tells v m ready) [
    | inl e ↦ absurd (some-plain x.speech.emission (x.serve v m).1 loud e)
    | inr e ↦ e
  ]

  -- BY MARKS OR BY CONTENTS: a first part of the replies is all of them
  pub by_contents : (v : V) (m : M) → x.ready v ≡ true → no_reply x.speech.emission (x.serve v m).1 ≡ false → (hs rest : List (Tagged M Q)) →
      plain (λ t. is_own t.meant) (answer_gifts {Q = Q} x.speech.emission m (x.serve v m).1) ≡ hs ++ rest → ends_marked hs ≡ ends_told more (untag hs)
  by_contents v m ready loud hs rest e =
      same_ends Q more (plain x.speech.emission (x.serve v m).1) hs rest (telling v m ready loud) (sym (plain-answer Q x.speech.emission m (x.serve v m).1 loud) ∙ e)

  -- THE ROW IS WHOLE
  pub passed_whole : (w : Rowed V M Q) (r : Row (Tagged M Q) (Asked M Q) (Option R)) (m : M) → (tagged x).ready w ≡ true → r.service ≡ Asked.Passed m true → IsForeseen x (ideal x w) (Asked.Passed m true) → IsWhole (tagged x) w r →
      PassedWhole x more w m r
  passed_whole w r m ready is loud whole =
      let gifts = (x.serve (ideal x w) m).1 in
      let all : plain (λ t. is_own t.meant) r.heard ≡ marked Q (plain x.speech.emission gifts) =
      whole.heard ∙ ap (λ l. plain (λ (t : Tagged M Q). is_own t.meant) (given (tagged x).serve w l)) (whole.told ∙ ap ((tagged x).full w) is)
      ∙ ap (plain (λ (t : Tagged M Q). is_own t.meant)) (append-nil (answer_gifts x.speech.emission m gifts)) ∙ plain-answer Q x.speech.emission m gifts loud in
      let heard = ap untag all ∙ untag-marked Q (plain x.speech.emission gifts) in
      record { heard = heard; told = ap (ends_told more) heard ∙ telling (ideal x w) m ready loud }
