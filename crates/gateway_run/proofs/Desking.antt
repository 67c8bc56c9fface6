-- WHAT THE EVENTS OF ONE SLAVE leave of its requests, and what they make owed by each datagram.
use Rattle.std.proofs.Common.{◌≡◌, ℕ, List, [], ◌∷◌, ◌++◌, map, Bool, true, false, refl, sym, ap, ◌∙◌, subst, eq-eqb, eqb-true}
use Rattle.std.specs.Prelude.{◌≢◌, ◌==◌, ◌&&◌, not, cond, if◌then◌else◌, filter, find, Some, All, Ok, Err}
use Rattle.std.proofs.lemmas.List.Elements.{All-nil, All-cons, All-head, All-filter}
use Rattle.gateway_run.specs.Replies.{mails_told}
use Rattle.gateway_core.specs.of_mailbox_mail.Mail.{error_of}
use Rattle.run_record.specs.of_master_tour.Made.{is_in}
use Rattle.run_record.specs.of_master_node.Gateways.{replies_told}
use Rattle.run_record.specs.of_link_mails.Body.{Body}
use Rattle.gateway_core.specs.of_mailbox_mail.declared.mail.Mail.{Mail}
use Rattle.gateway_run.specs.Account.{owing, IsFree, begun_first, elsewhere, has_key, is_elsewhere, left_by_all, others, owed_by_all, owed_to, waits_at}
use Rattle.gateway_run.specs.Desk.{AreApart}
use Rattle.gateway_run.specs.Rooms.{AreFiled, begun_of, grams_of, has_begun, owed_for, waiting_of}
use Rattle.gateway_run.specs.declared.desk.Request.{Request}
use Rattle.gateway_run.proofs.Accounts.{others_free, others_kept}
use Rattle.gateway_run.proofs.Rooms.{both_left, filter_none, not_same, owed_append, owed_one, owed_other}
use Rattle.gateway_run.proofs.Views.{cut_none}

-- THE OLDEST THAT WAITS comes into hand
pub comes_here : (i : ℕ) (r : Request) (rest rs : List Request) → waiting_of i rs ≡ r ∷ rest → begun_of i rs ≡ [] → (waiting_of i (begun_first i rs) ≡ rest) × (begun_of i (begun_first i rs) ≡ (record r { begun = true }) ∷ [])
comes_here i r rest [] w b = absurd (cc)
comes_here i r rest (q ∷ rs) w b = go (q.slave == i) refl q.begun refl (λ less none. comes_here i r rest rs less none)
  where
    Comes : List Request → Type 0
    Comes qs = (waiting_of i qs ≡ rest) × (begun_of i qs ≡ (record r { begun = true }) ∷ [])

    now : Request
    now = record q { begun = true }

    go : (here : Bool) → (q.slave == i) ≡ here → (begun : Bool) → q.begun ≡ begun → (waiting_of i rs ≡ r ∷ rest → begun_of i rs ≡ [] → Comes (begun_first i rs)) → Comes (begun_first i (q ∷ rs))
    go true h false n on =
        let waits : waits_at i q ≡ true = λ k. h k && not (n k) in
        let not_begun : has_begun i q ≡ false = λ k. h k && n k in
        let all : q ∷ waiting_of i rs ≡ r ∷ rest = sym (ap (λ (z : Bool). cond z (q ∷ waiting_of i rs) (waiting_of i rs)) waits) ∙ w in
        let same : q ≡ r = cc in
        let later : waiting_of i rs ≡ rest = cc in
        let none : begun_of i rs ≡ [] = sym (ap (λ (z : Bool). cond z (q ∷ begun_of i rs) (begun_of i rs)) not_begun) ∙ b in
        let gone : waits_at i now ≡ false = ap (λ (z : Bool). z && false) h in
        let there : has_begun i now ≡ true = ap (λ (z : Bool). z && true) h in
        subst Comes (sym (ap (λ (z : Bool). cond z (now ∷ rs) (q ∷ begun_first i rs)) waits)) (
          ap (λ (z : Bool). cond z (now ∷ waiting_of i rs) (waiting_of i rs)) gone ∙ later,
          ap (λ (z : Bool). cond z (now ∷ begun_of i rs) (begun_of i rs)) there ∙ (λ k. (record (same k) { begun = true }) ∷ none k),
        )
    go true h true n on =
        let begun : has_begun i q ≡ true = λ k. h k && n k in
        absurd (let bad : q ∷ begun_of i rs ≡ [] = sym (ap (λ (z : Bool). cond z (q ∷ begun_of i rs) (begun_of i rs)) begun) ∙ b in cc)
    go false h begun n on =
        let waits : waits_at i q ≡ false = ap (λ (z : Bool). z && not q.begun) h in
        let not_begun : has_begun i q ≡ false = ap (λ (z : Bool). z && q.begun) h in
        let less = sym (ap (λ (z : Bool). cond z (q ∷ waiting_of i rs) (waiting_of i rs)) waits) ∙ w in
        let none = sym (ap (λ (z : Bool). cond z (q ∷ begun_of i rs) (begun_of i rs)) not_begun) ∙ b in
        let later = on less none in
        subst Comes (sym (ap (λ (z : Bool). cond z (now ∷ rs) (q ∷ begun_first i rs)) waits)) (
          ap (λ (z : Bool). cond z (q ∷ waiting_of i (begun_first i rs)) (waiting_of i (begun_first i rs))) waits ∙ later.0,
          ap (λ (z : Bool). cond z (q ∷ begun_of i (begun_first i rs)) (begun_of i (begun_first i rs))) not_begun ∙ later.1,
        )

-- THE REQUEST OF A KEY is the one of that key among those that a test keeps
pub found_kept : (p : Request → Bool) (rs : List Request) (r : Request) (rest : List Request) → AreApart rs → filter p rs ≡ r ∷ rest → find (has_key r.key) rs ≡ Some r
found_kept p [] r rest apart e = absurd (cc)
found_kept p (q ∷ rs) r rest apart e = go (p q) refl (λ less. found_kept p rs r rest apart.1 less)
  where
    later : filter p rs ≡ r ∷ rest → (q.key == r.key) ≡ false
    later f = not_same q.key r.key (λ s. All-head (λ (z : Request). z.key ≢ q.key) r rest (subst (All (λ (z : Request). z.key ≢ q.key)) f (All-filter p (λ (z : Request). z.key ≢ q.key) rs apart.0)) (sym s))

    go : (b : Bool) → p q ≡ b → (filter p rs ≡ r ∷ rest → find (has_key r.key) rs ≡ Some r) → find (has_key r.key) (q ∷ rs) ≡ Some r
    go true t on =
        let all : q ∷ filter p rs ≡ r ∷ rest = sym (ap (λ (y : Bool). cond y (q ∷ filter p rs) (filter p rs)) t) ∙ e in
        let same : q ≡ r = cc in
        ap (λ (y : Bool). cond y (Some q) (find (has_key r.key) rs)) (eq-eqb q.key r.key (ap (λ (z : Request). z.key) same)) ∙ ap (λ z. Some z) same
    go false t on =
        let less : filter p rs ≡ r ∷ rest = sym (ap (λ (y : Bool). cond y (q ∷ filter p rs) (filter p rs)) t) ∙ e in
        ap (λ (y : Bool). cond y (Some q) (find (has_key r.key) rs)) (later less) ∙ on less

-- THE REPLIES OF THE MAIL IN HAND are owed by its datagram, and its request stays
pub replies_here : (r : Request) (bs : List Body) (rs : List Request) → find (has_key r.key) rs ≡ Some r → (left_by_all (replies_told r.key bs) rs ≡ rs) × (owed_by_all (replies_told r.key bs) rs ≡ map (λ m. owing m r) (mails_told bs))
replies_here r [] rs e = (refl, refl)
replies_here r (Ok m ∷ bs) rs e =
    let later = replies_here r bs rs e in
    (later.0, (λ k. owed_to (record m { address = 0; counter = 0 }) (e k) ++ later.1 k))
replies_here r (Err fault ∷ bs) rs e = replies_here r bs rs e

pub owed_its : (r : Request) (ms : List Mail) → owed_for r.gram (map (λ m. owing m r) ms) ≡ ms
owed_its r [] = refl
owed_its r (m ∷ ms) = owed_append r.gram (owing m r ∷ []) (map (λ k. owing k r) ms) ∙ (λ k. owed_one m r k ++ owed_its r ms k)

pub owed_not : (n : ℕ) (r : Request) (ms : List Mail) → r.gram ≢ n → owed_for n (map (λ m. owing m r) ms) ≡ []
owed_not n r [] off = refl
owed_not n r (m ∷ ms) off = owed_append n (owing m r ∷ []) (map (λ k. owing k r) ms) ∙ (λ k. owed_other n m r off k ++ owed_not n r ms off k)

-- IT IS FINISHED: of its key there is no other
pub done_here : (p q : Request → Bool) (rs : List Request) (r : Request) → ((x : Request) → p x ≡ true → q x ≡ false) → AreApart rs → filter p rs ≡ r ∷ [] →
    (filter q (others r.key rs) ≡ filter q rs) × (filter p (others r.key rs) ≡ [])
done_here p q [] r h apart e = absurd (cc)
done_here p q (x ∷ rs) r h apart e = go (p x) refl (λ less. done_here p q rs r h apart.1 less)
  where
    Both : List Request → Type 0
    Both os = (filter q os ≡ filter q (x ∷ rs)) × (filter p os ≡ [])

    go : (b : Bool) → p x ≡ b → (filter p rs ≡ r ∷ [] → (filter q (others r.key rs) ≡ filter q rs) × (filter p (others r.key rs) ≡ [])) → Both (others r.key (x ∷ rs))
    go true t on =
        let all : x ∷ filter p rs ≡ r ∷ [] = sym (ap (λ (y : Bool). cond y (x ∷ filter p rs) (filter p rs)) t) ∙ e in
        let same : x ≡ r = cc in
        let rest : filter p rs ≡ [] = cc in
        let key : x.key ≡ r.key = ap (λ (z : Request). z.key) same in
        let gone : others r.key (x ∷ rs) ≡ rs = ap (λ (y : Bool). cond y (x ∷ others r.key rs) (others r.key rs)) (ap (λ (z : Bool). not z) (eq-eqb x.key r.key key)) ∙ others_free r.key rs (subst (λ z. IsFree z rs) key apart.0) in
        subst Both (sym gone) (sym (ap (λ (y : Bool). cond y (x ∷ filter q rs) (filter q rs)) (h x t)), rest)
    go false t on =
        let less : filter p rs ≡ r ∷ [] = sym (ap (λ (y : Bool). cond y (x ∷ filter p rs) (filter p rs)) t) ∙ e in
        let later = on less in
        let off : x.key ≢ r.key = (λ s. All-head (λ (z : Request). z.key ≢ x.key) r [] (subst (All (λ (z : Request). z.key ≢ x.key)) less (All-filter p (λ (z : Request). z.key ≢ x.key) rs apart.0)) (sym s)) in
        let kept = others_kept r.key x rs off in
        subst Both (sym kept) (
          ap (λ z. cond (q x) (x ∷ z) z) later.0,
          ap (λ (y : Bool). cond y (x ∷ filter p (others r.key rs)) (filter p (others r.key rs))) t ∙ later.1,
        )

-- one that began doesn't wait
pub begun_waits : (i : ℕ) (r : Request) → has_begun i r ≡ true → waits_at i r ≡ false
begun_waits i r e = go (r.slave == i) r.begun e
  where
    go : (a b : Bool) → (a && b) ≡ true → (a && not b) ≡ false
    go true true t = refl
    go true false t = absurd (cc)
    go false b t = refl

-- A SLAVE IS GIVEN UP: no request of it is left, and error 5 is owed by each that waits
pub gone_waits : (i : ℕ) (rs : List Request) → waiting_of i (elsewhere i rs) ≡ []
gone_waits i rs = filter_none (is_elsewhere i) (waits_at i) rs (λ r e. ap (λ (z : Bool). not z) (both_left (r.slave == i) (not r.begun) e))

pub gone_begun : (i : ℕ) (rs : List Request) → begun_of i (elsewhere i rs) ≡ []
gone_begun i rs = filter_none (is_elsewhere i) (has_begun i) rs (λ r e. ap (λ (z : Bool). not z) (both_left (r.slave == i) r.begun e))

pub none_in : (n : ℕ) (qs : List Request) → is_in n (grams_of qs) ≡ false → All (λ (q : Request). q.gram ≢ n) qs
none_in n [] e = All-nil (λ (q : Request). q.gram ≢ n)
none_in n (q ∷ qs) e = go (n == q.gram) refl (λ f. none_in n qs f)
  where
    go : (b : Bool) → (n == q.gram) ≡ b → (is_in n (grams_of qs) ≡ false → All (λ (q : Request). q.gram ≢ n) qs) → All (λ (q : Request). q.gram ≢ n) (q ∷ qs)
    go true f on = absurd (let bad : true ≡ false = sym (ap (λ z. if z then true else is_in n (grams_of qs)) f) ∙ e in cc)
    go false f on = All-cons (λ (q : Request). q.gram ≢ n) q qs (λ s. (let bad : true ≡ false = sym (eq-eqb n q.gram (sym s)) ∙ f in cc)) (on (sym (ap (λ z. if z then true else is_in n (grams_of qs)) f) ∙ e))

pub cut_among : (n : ℕ) (qs : List Request) → AreFiled qs → is_in n (grams_of qs) ≡ true → owed_for n (map (owing (error_of 5)) qs) ≡ error_of 5 ∷ []
cut_among n [] filed e = absurd (cc)
cut_among n (q ∷ qs) filed e = owed_append n (owing (error_of 5) q ∷ []) (map (owing (error_of 5)) qs) ∙ go (n == q.gram) refl (λ f. cut_among n qs filed.1 f)
  where
    go : (b : Bool) → (n == q.gram) ≡ b → (is_in n (grams_of qs) ≡ true → owed_for n (map (owing (error_of 5)) qs) ≡ error_of 5 ∷ []) → owed_for n (owing (error_of 5) q ∷ []) ++ owed_for n (map (owing (error_of 5)) qs) ≡ error_of 5 ∷ []
    go true f on =
        let same : n ≡ q.gram = eqb-true n q.gram f in
        subst (λ k. owed_for k (owing (error_of 5) q ∷ []) ++ owed_for k (map (owing (error_of 5)) qs) ≡ error_of 5 ∷ []) (sym same) (λ k. owed_one (error_of 5) q k ++ cut_none q.gram qs filed.0 k)
    go false f on = (λ k. owed_other n (error_of 5) q (λ s. (let bad : true ≡ false = sym (eq-eqb n q.gram (sym s)) ∙ f in cc)) k ++ on (sym (ap (λ z. if z then true else is_in n (grams_of qs)) f) ∙ e) k)
