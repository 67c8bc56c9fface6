-- What is owed, and which requests are left.
use Rattle.std.proofs.Common.{◌≡◌, ℕ, zero, suc, ◌<◌, ◌≤◌, List, [], ◌∷◌, ◌++◌, length, map, drop, ◌+◌, Bool, true, false, refl, sym, ap, ◌∙◌, subst, append_assoc, append-nil, length-append, eq-eqb, eqb-true, arith}
use Rattle.std.specs.Prelude.{◌≢◌, ◌==◌, ◌&&◌, not, cond, filter, find, IfSome, Contains, slice_get, slice_set, slice_index_or, Option, Some, None, All}
use Rattle.std.proofs.lemmas.List.Elements.{All-nil, All-head, All-tail, All-push, All-filter, All-cons, filter-append}
use Rattle.slab.specs.Slab.{Slab, get}
use Rattle.gateway_core.specs.of_ec_outside.Port.{HeardGram}
use Rattle.gateway_core.specs.of_mailbox_mail.Mail.{error_of}
use Rattle.gateway_core.specs.declared.asker.Asker.{Asker}
use Rattle.run_record.specs.of_run_book.declared.book.GramOut.{GramOut}
use Rattle.gateway_run.specs.Account.{Owing, owing, is_other, is_of, waits_at, begun_first, others, elsewhere, cut_off, IsFree, Spells, AreSpelled}
use Rattle.gateway_run.specs.Desk.{IsOpen, AreApart, AreUnlike, Owes, cut_one}
use Rattle.gateway_run.specs.declared.desk.Request.{Request}

-- the same number
same_key : (a b : ℕ) → (a == b) ≡ true → a ≡ b
same_key a b is = eqb-true a b is

-- what is spelled stays so behind what was spelled before it
pub spelled_both : (heard : List HeardGram) (os os' : List Owing) (rs rs' : List GramOut) → AreSpelled heard os rs → AreSpelled heard os' rs' → AreSpelled heard (os ++ os') (rs ++ rs')
spelled_both heard [] os' [] rs' a b = b
spelled_both heard [] os' (r ∷ rs) rs' a b = absurd a
spelled_both heard (o ∷ os) os' [] rs' a b = absurd a
spelled_both heard (o ∷ os) os' (r ∷ rs) rs' a b = (a.0, spelled_both heard os os' rs rs' a.1 b)

pub get_on : {X : Type 0} (xs ys : List X) (k : ℕ) (x : X) → slice_get xs k ≡ Some x → slice_get (xs ++ ys) k ≡ Some x
get_on [] ys k x is = absurd (cc)
get_on (a ∷ xs) ys zero x is = is
get_on (a ∷ xs) ys (suc k) x is = get_on xs ys k x is

spells_more : (heard more : List HeardGram) (o : Owing) (r : GramOut) → Spells heard o r → Spells (heard ++ more) o r
spells_more heard more o r s = record {
  gram = s.gram;
  asked = s.asked;
  number = s.number;
  answers = get_on heard more o.gram s.gram s.answers;
  request = s.request;
  peer = s.peer;
  text = s.text;
}

-- one more datagram was heard
pub spelled_more : (heard more : List HeardGram) (os : List Owing) (rs : List GramOut) → AreSpelled heard os rs → AreSpelled (heard ++ more) os rs
spelled_more heard more [] [] a = tt
spelled_more heard more [] (r ∷ rs) a = absurd a
spelled_more heard more (o ∷ os) [] a = absurd a
spelled_more heard more (o ∷ os) (r ∷ rs) a = (spells_more heard more o r a.0, spelled_more heard more os rs a.1)

-- a datagram is there for each that is owed
spelled_length : (heard : List HeardGram) (os : List Owing) (rs : List GramOut) → AreSpelled heard os rs → length rs ≡ length os
spelled_length heard [] [] a = refl
spelled_length heard [] (r ∷ rs) a = absurd a
spelled_length heard (o ∷ os) [] a = absurd a
spelled_length heard (o ∷ os) (r ∷ rs) a = ap suc (spelled_length heard os rs a.1)

-- and so many are to be sent besides
pub owes_length : (heard : List HeardGram) (os : List Owing) (out out' : List GramOut) → Owes heard os out out' → length out' ≡ length out + length os
owes_length heard os out out' o = ap length o.1 ∙ length-append out o.0 ∙ ap (λ n. length out + n) (spelled_length heard os o.0 o.2)

-- nothing more is owed
pub owes_none : (heard : List HeardGram) (out out' : List GramOut) → out' ≡ out → Owes heard [] out out'
owes_none heard out out' same = ([], same ∙ sym (append-nil out), tt)

-- this is owed, and then that
pub owes_both : (heard : List HeardGram) (os os' : List Owing) (a b c : List GramOut) → Owes heard os a b → Owes heard os' b c → Owes heard (os ++ os') a c
owes_both heard os os' a b c x y =
    (x.0 ++ y.0, y.1 ∙ ap (λ (l : List GramOut). l ++ y.0) x.1 ∙ append_assoc a x.0 y.0, spelled_both heard os os' x.0 y.0 x.2 y.2)

pub owes_more : (heard more : List HeardGram) (os : List Owing) (a b : List GramOut) → Owes heard os a b → Owes (heard ++ more) os a b
owes_more heard more os a b x = (x.0, x.1, spelled_more heard more os x.0 x.2)

-- one datagram is owed
pub owes_one : (heard : List HeardGram) (o : Owing) (r : GramOut) (out out' : List GramOut) → out' ≡ out ++ r ∷ [] → Spells heard o r → Owes heard (o ∷ []) out out'
owes_one heard o r out out' is s = (r ∷ [], is, (s, tt))

-- no request has a key that the gateway has not given
pub free_of : (g : Slab Asker) (heard : List HeardGram) (key : ℕ) (rs : List Request) → get g key ≡ None → All (IsOpen g heard) rs → IsFree key rs
free_of g heard key rs vacant all = λ k d inside same. let stands = (all k d inside).stands in let e = ap (get g) same in absurd (cc)

other_of : (n key : ℕ) (same : Bool) → (n == key) ≡ same → n ≢ key → not same ≡ true
other_of n key true is apart = absurd (apart (eqb-true n key is))
other_of n key false is apart = refl

-- the requests of other keys are all, where none has that key
kept : (p : Request → Bool) (r : Request) (rs : List Request) → p r ≡ true → filter p rs ≡ rs → cond (p r) (r ∷ filter p rs) (filter p rs) ≡ r ∷ rs
kept p r rs is rest = ap (λ (b : Bool). cond b (r ∷ filter p rs) (filter p rs)) is ∙ ap (λ (l : List Request). r ∷ l) rest

pub others_free : (key : ℕ) (rs : List Request) → IsFree key rs → others key rs ≡ rs
others_free key [] free = refl
others_free key (r ∷ rs) free =
    kept (is_other key) r rs (other_of r.key key (r.key == key) refl (All-head (λ (q : Request). q.key ≢ key) r rs free))
    (others_free key rs (All-tail (λ (q : Request). q.key ≢ key) r rs free))

-- a request is put and taken away
pub others_push : (r : Request) (rs : List Request) → IsFree r.key rs → others r.key (rs ++ r ∷ []) ≡ rs
others_push r rs free =
    filter-append (is_other r.key) rs (r ∷ []) ∙ ap (λ (l : List Request). l ++ filter (is_other r.key) (r ∷ [])) (others_free r.key rs free)
    ∙ ap (λ (b : Bool). rs ++ cond (not b) (r ∷ []) []) (eq-eqb r.key r.key refl) ∙ append-nil rs

-- A FACT OF EACH REQUEST that doesn't look whether its mail came into hand stays where one comes
module _ (P : Request → Type 0) (stays : (r : Request) → P r → P (record r { begun = true })) where
  begun_step : (slave : ℕ) (r : Request) (rs : List Request) (here : Bool) → P r → All P rs → All P (begun_first slave rs) → All P (cond here ((record r { begun = true }) ∷ rs) (r ∷ begun_first slave rs))
  begun_step slave r rs true fact all rest = All-cons P (record r { begun = true }) rs (stays r fact) all
  begun_step slave r rs false fact all rest = All-cons P r (begun_first slave rs) fact rest

  pub begun_keeps : (slave : ℕ) (rs : List Request) → All P rs → All P (begun_first slave rs)
  begun_keeps slave [] all = all
  begun_keeps slave (r ∷ rs) all = begun_step slave r rs (waits_at slave r) (All-head P r rs all) (All-tail P r rs all) (begun_keeps slave rs (All-tail P r rs all))

-- numbers that don't look whether a mail came into hand stay apart
module _ (number : Request → ℕ) (stays : (r : Request) → number (record r { begun = true }) ≡ number r) where
  unlike_step : (p : Request → Bool) (r : Request) (rs : List Request) (keep : Bool) → All (λ (q : Request). number q ≢ number r) rs → AreUnlike number (filter p rs) → AreUnlike number (cond keep (r ∷ filter p rs) (filter p rs))
  unlike_step p r rs true off rest = (All-filter p (λ (q : Request). number q ≢ number r) rs off, rest)
  unlike_step p r rs false off rest = rest

  pub unlike_filter : (p : Request → Bool) (rs : List Request) → AreUnlike number rs → AreUnlike number (filter p rs)
  unlike_filter p [] apart = tt
  unlike_filter p (r ∷ rs) apart = unlike_step p r rs (p r) apart.0 (unlike_filter p rs apart.1)

  pub unlike_push : (rs : List Request) (r : Request) → AreUnlike number rs → All (λ (q : Request). number q ≢ number r) rs → AreUnlike number (rs ++ r ∷ [])
  unlike_push [] r apart off = (All-nil (λ (q : Request). number q ≢ number r), tt)
  unlike_push (q ∷ rs) r apart off = (
    All-push (λ (p : Request). number p ≢ number q) rs r apart.0 (λ same. All-head (λ (p : Request). number p ≢ number r) q rs off (sym same)),
    unlike_push rs r apart.1 (All-tail (λ (p : Request). number p ≢ number r) q rs off),
  )

  off_begun : (n slave : ℕ) (rs : List Request) → All (λ (q : Request). number q ≢ n) rs → All (λ (q : Request). number q ≢ n) (begun_first slave rs)
  off_begun n slave rs off = begun_keeps (λ (q : Request). number q ≢ n) (λ r apart same. apart (sym (stays r) ∙ same)) slave rs off

  unlike_begun_step : (slave : ℕ) (r : Request) (rs : List Request) (here : Bool) → All (λ (q : Request). number q ≢ number r) rs → AreUnlike number rs → AreUnlike number (begun_first slave rs) →
      AreUnlike number (cond here ((record r { begun = true }) ∷ rs) (r ∷ begun_first slave rs))
  unlike_begun_step slave r rs true off apart rest = (subst (λ n. All (λ (q : Request). number q ≢ n) rs) (sym (stays r)) off, apart)
  unlike_begun_step slave r rs false off apart rest = (off_begun (number r) slave rs off, rest)

  pub unlike_begun : (slave : ℕ) (rs : List Request) → AreUnlike number rs → AreUnlike number (begun_first slave rs)
  unlike_begun slave [] apart = tt
  unlike_begun slave (r ∷ rs) apart = unlike_begun_step slave r rs (waits_at slave r) apart.0 apart.1 (unlike_begun slave rs apart.1)

-- so keys do
pub apart_filter : (p : Request → Bool) (rs : List Request) → AreApart rs → AreApart (filter p rs)
apart_filter p rs apart = unlike_filter (λ (r : Request). r.key) (λ r. refl) p rs apart

pub apart_push : (rs : List Request) (r : Request) → AreApart rs → IsFree r.key rs → AreApart (rs ++ r ∷ [])
apart_push rs r apart free = unlike_push (λ (r : Request). r.key) (λ r. refl) rs r apart free

pub apart_begun : (slave : ℕ) (rs : List Request) → AreApart rs → AreApart (begun_first slave rs)
apart_begun slave rs apart = unlike_begun (λ (r : Request). r.key) (λ r. refl) slave rs apart

-- what a request that is dropped leaves of those of its slave
pub record IsDropped (slave : ℕ) (rs : List Request) (r : Request) : Type 0 where
  pub here : r.slave ≡ slave
  pub elsewhere_same : elsewhere slave (others r.key rs) ≡ elsewhere slave rs
  pub owed_first : cut_off slave rs ≡ cut_one r ++ cut_off slave (others r.key rs)
  pub fewer : length (others r.key rs) < length rs
  pub among : (key : ℕ) → IsFree key rs → r.key ≢ key

-- the request itself stands first
others_first : (r : Request) (rs : List Request) → IsFree r.key rs → others r.key (r ∷ rs) ≡ rs
others_first r rs free = ap (λ (b : Bool). cond (not b) (r ∷ others r.key rs) (others r.key rs)) (eq-eqb r.key r.key refl) ∙ others_free r.key rs free

cut_first : (slave : ℕ) (r : Request) (rs : List Request) (begun : Bool) → r.begun ≡ begun → (r.slave == slave) ≡ true → cut_off slave (r ∷ rs) ≡ cut_one r ++ cut_off slave rs
cut_first slave r rs true begun here =
    ap (λ (b : Bool). map (owing (error_of 5)) (cond (b && not r.begun) (r ∷ filter (waits_at slave) rs) (filter (waits_at slave) rs))) here
    ∙ ap (λ (b : Bool). map (owing (error_of 5)) (cond (not b) (r ∷ filter (waits_at slave) rs) (filter (waits_at slave) rs))) begun
    ∙ sym (ap (λ (b : Bool). cond b [] (owing (error_of 5) r ∷ []) ++ cut_off slave rs) begun)
cut_first slave r rs false begun here =
    ap (λ (b : Bool). map (owing (error_of 5)) (cond (b && not r.begun) (r ∷ filter (waits_at slave) rs) (filter (waits_at slave) rs))) here
    ∙ ap (λ (b : Bool). map (owing (error_of 5)) (cond (not b) (r ∷ filter (waits_at slave) rs) (filter (waits_at slave) rs))) begun
    ∙ sym (ap (λ (b : Bool). cond b [] (owing (error_of 5) r ∷ []) ++ cut_off slave rs) begun)

elsewhere_first : (slave : ℕ) (r : Request) (rs : List Request) → (r.slave == slave) ≡ true → elsewhere slave (r ∷ rs) ≡ elsewhere slave rs
elsewhere_first slave r rs here = ap (λ (b : Bool). cond (not b) (r ∷ elsewhere slave rs) (elsewhere slave rs)) here

elsewhere_kept : (slave : ℕ) (r : Request) (rs : List Request) → (r.slave == slave) ≡ false → elsewhere slave (r ∷ rs) ≡ r ∷ elsewhere slave rs
elsewhere_kept slave r rs there = ap (λ (b : Bool). cond (not b) (r ∷ elsewhere slave rs) (elsewhere slave rs)) there

cut_kept : (slave : ℕ) (r : Request) (rs : List Request) → (r.slave == slave) ≡ false → cut_off slave (r ∷ rs) ≡ cut_off slave rs
cut_kept slave r rs there =
    ap (λ (b : Bool). map (owing (error_of 5)) (cond (b && not r.begun) (r ∷ filter (waits_at slave) rs) (filter (waits_at slave) rs))) there

pub others_kept : (key : ℕ) (q : Request) (rs : List Request) → q.key ≢ key → others key (q ∷ rs) ≡ q ∷ others key rs
others_kept key q rs apart = ap (λ (b : Bool). cond b (q ∷ others key rs) (others key rs)) (other_of q.key key (q.key == key) refl apart)

dropped_first : (slave : ℕ) (r : Request) (rs : List Request) → (r.slave == slave) ≡ true → IsFree r.key rs → IsDropped slave (r ∷ rs) r
dropped_first slave r rs here free =
    let first = others_first r rs free in
    record {
      here = eqb-true r.slave slave here;
      elsewhere_same = ap (elsewhere slave) first ∙ sym (elsewhere_first slave r rs here);
      owed_first = cut_first slave r rs r.begun refl here ∙ ap (λ (l : List Request). cut_one r ++ cut_off slave l) (sym first);
      fewer = let n = ap length first in omega (arith, n);
      among = λ key free'. All-head (λ (q : Request). q.key ≢ key) r rs free';
    }

dropped_later : (slave : ℕ) (q : Request) (rs : List Request) (r : Request) → (q.slave == slave) ≡ false → IsFree q.key rs → IsDropped slave rs r → IsDropped slave (q ∷ rs) r
dropped_later slave q rs r there free d =
    let apart : q.key ≢ r.key = λ same. d.among q.key free (sym same) in
    let on = others_kept r.key q rs apart in
    record {
      here = d.here;
      elsewhere_same = ap (elsewhere slave) on ∙ elsewhere_kept slave q (others r.key rs) there ∙ ap (λ (l : List Request). q ∷ l) d.elsewhere_same ∙ sym (elsewhere_kept slave q rs there);
      owed_first = cut_kept slave q rs there ∙ d.owed_first ∙ ap (λ (l : List Owing). cut_one r ++ l) (sym (ap (cut_off slave) on ∙ cut_kept slave q (others r.key rs) there));
      fewer = let n = ap length on in let less = d.fewer in omega (arith, n, less);
      among = λ key free'. d.among key (All-tail (λ (p : Request). p.key ≢ key) q rs free');
    }

dropped_at : (slave : ℕ) (q : Request) (rs : List Request) (r : Request) (here : Bool) → (q.slave == slave) ≡ here → cond here (Some q) (find (is_of slave) rs) ≡ Some r → IsFree q.key rs →
    (find (is_of slave) rs ≡ Some r → IsDropped slave rs r) → IsDropped slave (q ∷ rs) r
dropped_at slave q rs r true here is free later = subst (IsDropped slave (q ∷ rs)) (let e : q ≡ r = cc in e) (dropped_first slave q rs here free)
dropped_at slave q rs r false here is free later = dropped_later slave q rs r here free (later is)

-- the first request of a slave is dropped
pub dropped : (slave : ℕ) (rs : List Request) (r : Request) → find (is_of slave) rs ≡ Some r → AreApart rs → IsDropped slave rs r
dropped slave [] r is apart = absurd (cc)
dropped slave (q ∷ rs) r is apart = dropped_at slave q rs r (q.slave == slave) refl is apart.0 (λ found. dropped slave rs r found apart.1)

none_at : (slave : ℕ) (q : Request) (rs : List Request) (here : Bool) → (q.slave == slave) ≡ here → cond here (Some q) (find (is_of slave) rs) ≡ None →
    (find (is_of slave) rs ≡ None → (elsewhere slave rs ≡ rs) × (cut_off slave rs ≡ [])) → (elsewhere slave (q ∷ rs) ≡ q ∷ rs) × (cut_off slave (q ∷ rs) ≡ [])
none_at slave q rs true here is later = absurd (cc)
none_at slave q rs false here is later =
    let l = later is in
    (elsewhere_kept slave q rs here ∙ ap (λ (x : List Request). q ∷ x) l.0, cut_kept slave q rs here ∙ l.1)

-- no request of a slave is left
pub none_left : (slave : ℕ) (rs : List Request) → find (is_of slave) rs ≡ None → (elsewhere slave rs ≡ rs) × (cut_off slave rs ≡ [])
none_left slave [] is = (refl, refl)
none_left slave (q ∷ rs) is = none_at slave q rs (q.slave == slave) refl is (none_left slave rs)

-- none of the first so many requests waits for a slave
abbrev pub NoneWaits : ℕ → ℕ → List Request → Type 0
NoneWaits slave many rs = (k : ℕ) (d : Request) → k < many → waits_at slave (slice_index_or rs k d) ≡ false

waits_later : (slave : ℕ) (q : Request) (rs : List Request) (many : ℕ) → NoneWaits slave (suc many) (q ∷ rs) → NoneWaits slave many rs
waits_later slave q rs many none = λ k d less. none (suc k) d (omega (arith, less))

begun_kept : (slave : ℕ) (q : Request) (rs : List Request) → waits_at slave q ≡ false → begun_first slave (q ∷ rs) ≡ q ∷ begun_first slave rs
begun_kept slave q rs waits = ap (λ (b : Bool). cond b ((record q { begun = true }) ∷ rs) (q ∷ begun_first slave rs)) waits

begun_here : (slave : ℕ) (q : Request) (rs : List Request) → waits_at slave q ≡ true → begun_first slave (q ∷ rs) ≡ (record q { begun = true }) ∷ rs
begun_here slave q rs waits = ap (λ (b : Bool). cond b ((record q { begun = true }) ∷ rs) (q ∷ begun_first slave rs)) waits

-- the first that waits comes into hand
pub begun_set : (slave : ℕ) (rs : List Request) (k : ℕ) (r : Request) → NoneWaits slave k rs → k < length rs → slice_index_or rs k r ≡ r → waits_at slave r ≡ true →
    begun_first slave rs ≡ slice_set rs k (record r { begun = true })
begun_set slave [] k r none inside is waits = absurd (omega (arith, inside))
begun_set slave (q ∷ rs) zero r none inside is waits =
    subst (λ (p : Request). begun_first slave (p ∷ rs) ≡ (record r { begun = true }) ∷ rs) (sym is) (begun_here slave r rs waits)
begun_set slave (q ∷ rs) (suc k) r none inside is waits =
    begun_kept slave q rs (none 0 q (omega arith)) ∙ ap (λ (l : List Request). q ∷ l) (begun_set slave rs k r (waits_later slave q rs k none) (omega (arith, inside)) is waits)

pub begun_none : (slave : ℕ) (rs : List Request) → NoneWaits slave (length rs) rs → begun_first slave rs ≡ rs
begun_none slave [] none = refl
begun_none slave (q ∷ rs) none =
    begun_kept slave q rs (none 0 q (omega arith))
    ∙ ap (λ (l : List Request). q ∷ l) (begun_none slave rs (λ k d less. none (suc k) d (omega (arith, less))))

filter_least : (p : Request → Bool) (r : Request) (rs : List Request) (keep : Bool) → length (filter p rs) ≤ length rs → length (cond keep (r ∷ filter p rs) (filter p rs)) ≤ suc (length rs)
filter_least p r rs true less = omega (arith, less)
filter_least p r rs false less = omega (arith, less)

filter_less : (p : Request → Bool) (rs : List Request) → length (filter p rs) ≤ length rs
filter_less p [] = omega arith
filter_less p (r ∷ rs) = filter_least p r rs (p r) (filter_less p rs)

fewer_step : (p : Request → Bool) (r : Request) (rs : List Request) (keep : Bool) → length (filter p rs) < length rs → length (cond keep (r ∷ filter p rs) (filter p rs)) < suc (length rs)
fewer_step p r rs true less = omega (arith, less)
fewer_step p r rs false less = omega (arith, less)

fewer_at : (slave : ℕ) (q : Request) (rs : List Request) (r : Request) (here : Bool) → cond here (Some q) (find (is_of slave) rs) ≡ Some r → (find (is_of slave) rs ≡ Some r → length (others r.key rs) < length rs) →
    length (others r.key (q ∷ rs)) < length (q ∷ rs)
fewer_at slave q rs r true is later =
    let e : q ≡ r = cc in
    let gone : others r.key (q ∷ rs) ≡ others r.key rs = ap (λ (b : Bool). cond (not b) (q ∷ others r.key rs) (others r.key rs)) (eq-eqb q.key r.key (ap (λ (p : Request). p.key) e)) in
    let n = ap length gone in
    let less = filter_less (is_other r.key) rs in
    omega (arith, n, less)
fewer_at slave q rs r false is later = fewer_step (is_other r.key) q rs (is_other r.key q) (later is)

-- a request that is dropped leaves fewer
pub fewer_found : (slave : ℕ) (rs : List Request) (r : Request) → find (is_of slave) rs ≡ Some r → length (others r.key rs) < length rs
fewer_found slave [] r is = absurd (cc)
fewer_found slave (q ∷ rs) r is = fewer_at slave q rs r (q.slave == slave) is (fewer_found slave rs r)

least_step : (key : ℕ) (r : Request) (rs : List Request) (same : Bool) → (r.key == key) ≡ same → IsFree r.key rs → length rs ≤ length (others key rs) + 1 → length (r ∷ rs) ≤ length (others key (r ∷ rs)) + 1
least_step key r rs true same free least =
    let n : length (others key (r ∷ rs)) ≡ length rs = subst (λ (k : ℕ). length (others k (r ∷ rs)) ≡ length rs) (same_key r.key key same) (ap length (others_first r rs free)) in
    omega (arith, n)
least_step key r rs false same free least =
    let n = ap length (others_kept key r rs (λ k. let e = eq-eqb r.key key k in absurd (cc))) in
    omega (arith, n, least)

-- at most one request has a key
pub others_least : (key : ℕ) (rs : List Request) → AreApart rs → length rs ≤ length (others key rs) + 1
others_least key [] apart = omega arith
others_least key (r ∷ rs) apart = least_step key r rs (r.key == key) refl apart.0 (others_least key rs apart.1)

get_any : (rs : List Request) (k : ℕ) (d d' : Request) → k < length rs → slice_index_or rs k d ≡ slice_index_or rs k d'
get_any [] k d d' inside = absurd (omega (arith, inside))
get_any (q ∷ rs) zero d d' inside = refl
get_any (q ∷ rs) (suc k) d d' inside = get_any rs k d d' (omega (arith, inside))

waits_so : (slave : ℕ) (r : Request) → r.slave ≡ slave → not r.begun ≡ true → waits_at slave r ≡ true
waits_so slave r here still = ap (λ (b : Bool). b && not r.begun) (eq-eqb r.slave slave here) ∙ still

-- the request at a place comes into hand
pub begun_at : (slave : ℕ) (rs : List Request) (k : ℕ) (first r : Request) → NoneWaits slave k rs → k < length rs → first ≡ slice_index_or rs k first → r ≡ slice_index_or rs k r → first.slave ≡ slave →
    not first.begun ≡ true → begun_first slave rs ≡ slice_set rs k (record r { begun = true })
begun_at slave rs k first r none inside is is' here still =
    let same : first ≡ r = is ∙ get_any rs k first r inside ∙ sym is' in
    begun_set slave rs k r none inside (sym is') (subst (λ (q : Request). waits_at slave q ≡ true) same (waits_so slave first here still))

pub waits_not : (b : Bool) → not b ≡ true → b ≡ false
waits_not true is = absurd (cc)
waits_not false is = refl

pub waits_no_more : (b : Bool) → not b ≡ false → b ≡ true
waits_no_more true is = refl
waits_no_more false is = absurd (cc)

-- what is found is one of them
found_at : (p : Request → Bool) (q : Request) (rs : List Request) (r : Request) (here : Bool) → cond here (Some q) (find p rs) ≡ Some r → (find p rs ≡ Some r → Contains rs r) → Contains (q ∷ rs) r
found_at p q rs r true is later = (0, omega arith, (let e : q ≡ r = cc in e))
found_at p q rs r false is later = let l = later is in (suc l.0, (let less = l.1 in omega (arith, less)), l.2)

pub found_inside : (p : Request → Bool) (rs : List Request) (r : Request) → find p rs ≡ Some r → Contains rs r
found_inside p [] r is = absurd (cc)
found_inside p (q ∷ rs) r is = found_at p q rs r (p q) is (found_inside p rs r)

pub all_found : (p : Request → Bool) (rs : List Request) (o : Option Request) → o ≡ find p rs → IfSome o (Contains rs)
all_found p rs None is = tt
all_found p rs (Some r) is = found_inside p rs r (sym is)

pub next_of : {X : Type 0} (xs : List X) (k : ℕ) (x : X) → k < length xs → x ≡ slice_index_or xs k x → drop k xs ≡ x ∷ drop (k + 1) xs
next_of [] k x inside is = absurd (omega (arith, inside))
next_of (y ∷ xs) zero x inside is = ap (λ z. z ∷ xs) (sym is)
next_of {X} (y ∷ xs) (suc k) x inside is =
    next_of xs k x (omega (arith, inside)) is ∙ ap (λ (n : ℕ). x ∷ drop n (y ∷ xs)) (let e : suc (k + 1) ≡ suc k + 1 = omega arith in e)

pub none_behind : {X : Type 0} (xs : List X) (k : ℕ) → length xs ≤ k → drop k xs ≡ []
none_behind [] zero all = refl
none_behind [] (suc k) all = refl
none_behind (y ∷ xs) zero all = absurd (omega (arith, all))
none_behind (y ∷ xs) (suc k) all = none_behind xs k (omega (arith, all))
