-- What an event of one slave leaves of the requests of the others, and what it makes owed by them: nothing changes.
use Rattle.std.proofs.Common.{◌≡◌, ℕ, List, [], ◌∷◌, ◌++◌, map, Bool, true, false, refl, sym, ap, ◌∙◌, eq-eqb, eqb-true}
use Rattle.std.specs.Prelude.{◌≢◌, ◌==◌, ◌&&◌, not, cond, filter, find, slice_index_or, Some, All}
use Rattle.std.proofs.lemmas.List.Elements.{All-head, All-tail, filter-append}
use Rattle.gateway_core.specs.of_mailbox_mail.declared.mail.Mail.{Mail}
use Rattle.gateway_run.specs.Account.{Owing, owing, begun_first, elsewhere, has_key, is_elsewhere, is_of, is_other, others, waits_at}
use Rattle.gateway_run.specs.Rooms.{has_begun, owed_for, requests_of}
use Rattle.gateway_run.specs.declared.desk.Request.{Request}

pub not_same : (a b : ℕ) → a ≢ b → (a == b) ≡ false
not_same a b apart = go (a == b) refl
  where
    go : (z : Bool) → (a == b) ≡ z → z ≡ false
    go true e = absurd (apart (eqb-true a b e))
    go false e = refl

pub both_left : (a b : Bool) → (a && b) ≡ true → a ≡ true
both_left true b e = refl
both_left false b e = absurd (cc)

-- A FILTER MEETS ANOTHER
pub filter_swap : {X : Type 0} (p q : X → Bool) (xs : List X) → filter p (filter q xs) ≡ filter q (filter p xs)
filter_swap p q [] = refl
filter_swap {X} p q (x ∷ xs) = go (p x) (q x) refl refl (filter_swap p q xs)
  where
    go : (a b : Bool) → p x ≡ a → q x ≡ b → filter p (filter q xs) ≡ filter q (filter p xs) → filter p (cond b (x ∷ filter q xs) (filter q xs)) ≡ filter q (cond a (x ∷ filter p xs) (filter p xs))
    go true true e f on = ap (λ (z : Bool). cond z (x ∷ filter p (filter q xs)) (filter p (filter q xs))) e ∙ ap (λ (l : List X). x ∷ l) on ∙ sym (ap (λ (z : Bool). cond z (x ∷ filter q (filter p xs)) (filter q (filter p xs))) f)
    go true false e f on = on ∙ sym (ap (λ (z : Bool). cond z (x ∷ filter q (filter p xs)) (filter q (filter p xs))) f)
    go false true e f on = ap (λ (z : Bool). cond z (x ∷ filter p (filter q xs)) (filter p (filter q xs))) e ∙ on
    go false false e f on = on

-- one that keeps all that the other does changes nothing before it
pub filter_within : {X : Type 0} (p q : X → Bool) (xs : List X) → All (λ x. q x ≡ true → p x ≡ true) xs → filter q (filter p xs) ≡ filter q xs
filter_within p q [] h = refl
filter_within {X} p q (x ∷ xs) h = go (p x) refl (q x) refl (filter_within p q xs (All-tail (λ x. q x ≡ true → p x ≡ true) x xs h))
  where
    here : q x ≡ true → p x ≡ true
    here = All-head (λ x. q x ≡ true → p x ≡ true) x xs h

    go : (a : Bool) → p x ≡ a → (b : Bool) → q x ≡ b → filter q (filter p xs) ≡ filter q xs → filter q (cond a (x ∷ filter p xs) (filter p xs)) ≡ cond b (x ∷ filter q xs) (filter q xs)
    go true e true f on = ap (λ (z : Bool). cond z (x ∷ filter q (filter p xs)) (filter q (filter p xs))) f ∙ ap (λ (l : List X). x ∷ l) on
    go true e false f on = ap (λ (z : Bool). cond z (x ∷ filter q (filter p xs)) (filter q (filter p xs))) f ∙ on
    go false e true f on = absurd (let bad : true ≡ false = sym (here f) ∙ e in cc)
    go false e false f on = on

-- and so does one that keeps none of what the other does
pub filter_none : {X : Type 0} (p q : X → Bool) (xs : List X) → ((x : X) → q x ≡ true → p x ≡ false) → filter q (filter p xs) ≡ []
filter_none p q [] h = refl
filter_none {X} p q (x ∷ xs) h = go (p x) refl (q x) refl (filter_none p q xs h)
  where
    go : (a : Bool) → p x ≡ a → (b : Bool) → q x ≡ b → filter q (filter p xs) ≡ [] → filter q (cond a (x ∷ filter p xs) (filter p xs)) ≡ []
    go true e true f on = absurd (let bad : true ≡ false = sym e ∙ h x f in cc)
    go true e false f on = ap (λ (z : Bool). cond z (x ∷ filter q (filter p xs)) (filter q (filter p xs))) f ∙ on
    go false e b f on = on

-- WHAT COMES INTO HAND of one slave changes no request of another
module _ (i j : ℕ) (apart : i ≢ j) where
  -- two slaves are apart
  pub apart_slaves : (r : Request) → is_of j r ≡ true → is_of i r ≡ false
  apart_slaves r e = not_same r.slave i (λ s. apart (sym s ∙ eqb-true r.slave j e))

  pub begins_other : (rs : List Request) → requests_of i (begun_first j rs) ≡ requests_of i rs
  begins_other [] = refl
  begins_other (r ∷ rs) = go (waits_at j r) refl (begins_other rs)
    where
      now : Request
      now = record r { begun = true }

      go : (b : Bool) → waits_at j r ≡ b → requests_of i (begun_first j rs) ≡ requests_of i rs → requests_of i (cond b (now ∷ rs) (r ∷ begun_first j rs)) ≡ requests_of i (r ∷ rs)
      go true e later = (let k : is_of i r ≡ false = apart_slaves r (both_left (r.slave == j) (not r.begun) e) in ap (λ (z : Bool). cond z (now ∷ requests_of i rs) (requests_of i rs)) k ∙ sym (ap (λ (z : Bool). cond z (r ∷ requests_of i rs) (requests_of i rs)) k))
      go false e later = ap (λ (z : List Request). cond (is_of i r) (r ∷ z) z) later

  -- nor does a give-up of that slave
  pub gone_other : (rs : List Request) → requests_of i (elsewhere j rs) ≡ requests_of i rs
  gone_other rs = filter_within (is_elsewhere j) (is_of i) rs (λ k d less e. ap (λ (z : Bool). not z) (not_same _ j (λ s. apart (sym (eqb-true _ i e) ∙ s))))

-- and of the slave itself
pub begins_here : (j : ℕ) (rs : List Request) → requests_of j (begun_first j rs) ≡ begun_first j (requests_of j rs)
begins_here j [] = refl
begins_here j (r ∷ rs) = go (is_of j r) refl (waits_at j r) refl (begins_here j rs)
  where
    now : Request
    now = record r { begun = true }

    go : (a : Bool) → is_of j r ≡ a → (b : Bool) → waits_at j r ≡ b → requests_of j (begun_first j rs) ≡ begun_first j (requests_of j rs) →
        requests_of j (cond b (now ∷ rs) (r ∷ begun_first j rs)) ≡ begun_first j (cond a (r ∷ requests_of j rs) (requests_of j rs))
    go true e true f on = ap (λ (z : Bool). cond z (now ∷ requests_of j rs) (requests_of j rs)) e ∙ sym (ap (λ (z : Bool). cond z (now ∷ requests_of j rs) (r ∷ begun_first j (requests_of j rs))) f)
    go true e false f on =
        ap (λ (z : Bool). cond z (r ∷ requests_of j (begun_first j rs)) (requests_of j (begun_first j rs))) e ∙ ap (λ (l : List Request). r ∷ l) on
        ∙ sym (ap (λ (z : Bool). cond z (now ∷ requests_of j rs) (r ∷ begun_first j (requests_of j rs))) f)
    go false e true f on = absurd (let bad : true ≡ false = sym (both_left (r.slave == j) (not r.begun) f) ∙ e in cc)
    go false e false f on = ap (λ (z : Bool). cond z (r ∷ requests_of j (begun_first j rs)) (requests_of j (begun_first j rs))) e ∙ on

-- A KEY OF ONE SLAVE: no request of another has it
abbrev pub IsOwnKey : ℕ → ℕ → List Request → Type 0
IsOwnKey j key rs = All (λ (r : Request). r.slave ≢ j → r.key ≢ key) rs

-- what is finished under it is of that slave
pub done_other : (i j key : ℕ) (rs : List Request) → i ≢ j → IsOwnKey j key rs → requests_of i (others key rs) ≡ requests_of i rs
done_other i j key rs apart own = filter_within (is_other key) (is_of i) rs (λ k d less e. ap (λ (z : Bool). not z) (not_same _ key (own k d less (λ s. apart (sym (eqb-true _ i e) ∙ s)))))

-- and so is the request that a reply answers
pub found_here : (j key : ℕ) (rs : List Request) → IsOwnKey j key rs → find (has_key key) rs ≡ find (has_key key) (requests_of j rs)
found_here j key [] own = refl
found_here j key (r ∷ rs) own = go (is_of j r) refl (has_key key r) refl (found_here j key rs (All-tail (λ (r : Request). r.slave ≢ j → r.key ≢ key) r rs own))
  where
    here : r.slave ≢ j → r.key ≢ key
    here = All-head (λ (r : Request). r.slave ≢ j → r.key ≢ key) r rs own

    off : is_of j r ≡ false → r.slave ≡ j → ⊥
    off e s = (let bad : true ≡ false = sym (eq-eqb r.slave j s) ∙ e in cc)

    go : (a : Bool) → is_of j r ≡ a → (b : Bool) → has_key key r ≡ b → find (has_key key) rs ≡ find (has_key key) (requests_of j rs) →
        cond b (Some r) (find (has_key key) rs) ≡ find (has_key key) (cond a (r ∷ requests_of j rs) (requests_of j rs))
    go true e true f on = sym (ap (λ (z : Bool). cond z (Some r) (find (has_key key) (requests_of j rs))) f)
    go true e false f on = on ∙ sym (ap (λ (z : Bool). cond z (Some r) (find (has_key key) (requests_of j rs))) f)
    go false e true f on = absurd (here (off e) (eqb-true r.key key f))
    go false e false f on = on

pub keys_here : (j key : ℕ) (rs : List Request) → IsOwnKey j key rs → filter (has_key key) rs ≡ filter (has_key key) (requests_of j rs)
keys_here j key rs own = sym (filter_within (is_of j) (has_key key) rs (λ k d less e. here (slice_index_or rs k d) (is_of j (slice_index_or rs k d)) refl (own k d less) (eqb-true (slice_index_or rs k d).key key e)))
  where
    here : (r : Request) (z : Bool) → is_of j r ≡ z → (r.slave ≢ j → r.key ≢ key) → r.key ≡ key → z ≡ true
    here r true f h e = refl
    here r false f h e = absurd (h (λ s. (let bad : true ≡ false = sym (eq-eqb r.slave j s) ∙ f in cc)) e)

-- the requests that wait for a slave are its own
pub waits_here : (j : ℕ) (rs : List Request) → filter (waits_at j) (requests_of j rs) ≡ filter (waits_at j) rs
waits_here j rs = filter_within (is_of j) (waits_at j) rs (λ k d less e. both_left _ _ e)

pub begun_here : (j : ℕ) (rs : List Request) → filter (has_begun j) (requests_of j rs) ≡ filter (has_begun j) rs
begun_here j rs = filter_within (is_of j) (has_begun j) rs (λ k d less e. both_left _ _ e)

-- WHAT IS OWED BY ONE DATAGRAM
pub owed_append : (n : ℕ) (os more : List Owing) → owed_for n (os ++ more) ≡ owed_for n os ++ owed_for n more
owed_append n os more = ap (map (λ (o : Owing). o.mail)) (filter-append (λ (o : Owing). o.gram == n) os more) ∙ mails_append (filter (λ (o : Owing). o.gram == n) os) (filter (λ (o : Owing). o.gram == n) more)
  where
    mails_append : (xs ys : List Owing) → map (λ (o : Owing). o.mail) (xs ++ ys) ≡ map (λ (o : Owing). o.mail) xs ++ map (λ (o : Owing). o.mail) ys
    mails_append [] ys = refl
    mails_append (x ∷ xs) ys = ap (λ z. x.mail ∷ z) (mails_append xs ys)

pub owed_one : (mail : Mail) (r : Request) → owed_for r.gram (owing mail r ∷ []) ≡ mail ∷ []
owed_one mail r = ap (λ (y : Bool). map (λ (o : Owing). o.mail) (cond y (owing mail r ∷ []) [])) (eq-eqb r.gram r.gram refl)

pub owed_other : (n : ℕ) (mail : Mail) (r : Request) → r.gram ≢ n → owed_for n (owing mail r ∷ []) ≡ []
owed_other n mail r off = ap (λ (y : Bool). map (λ (o : Owing). o.mail) (cond y (owing mail r ∷ []) [])) (not_same r.gram n off)
