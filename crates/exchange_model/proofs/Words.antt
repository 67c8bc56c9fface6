-- A server behind mails that come one list behind the other.
use Rattle.std.proofs.Common.{◌≡◌, ◌≤◌, Bool, List, [], ◌∷◌, ◌++◌, not, refl, sym, ap, ◌∙◌, append_assoc, le_refl, le_trans}
use Rattle.exchange_model.specs.Prefix.{IsPrefixOf}
use Rattle.exchange_model.specs.Exchange.{Exchange, IsLawful, after, given, plain}
use Rattle.exchange_model.proofs.Lists.{filter-append}

pub after-append : {V M : Type 0} (serve : V → M → V × List M) (v : V) (xs ys : List M) → after serve v (xs ++ ys) ≡ after serve (after serve v xs) ys
after-append serve v [] ys = refl
after-append serve v (m ∷ xs) ys = after-append serve (serve v m).0 xs ys

pub given-append : {V M : Type 0} (serve : V → M → V × List M) (v : V) (xs ys : List M) →
    given serve v (xs ++ ys) ≡ given serve v xs ++ given serve (after serve v xs) ys
given-append serve v [] ys = refl
given-append serve v (m ∷ xs) ys =
    ap (λ l. (serve v m).1 ++ l) (given-append serve (serve v m).0 xs ys)
    ∙ sym (append_assoc (serve v m).1 (given serve (serve v m).0 xs) (given serve (after serve (serve v m).0 xs) ys))

pub plain-append : {M : Type 0} (emission : M → Bool) (xs ys : List M) → plain emission (xs ++ ys) ≡ plain emission xs ++ plain emission ys
plain-append emission xs ys = filter-append (λ m. not (emission m)) xs ys

pub plain_given-append : {V M : Type 0} (serve : V → M → V × List M) (emission : M → Bool) (v : V) (xs ys : List M) →
    plain emission (given serve v (xs ++ ys)) ≡ plain emission (given serve v xs) ++ plain emission (given serve (after serve v xs) ys)
plain_given-append serve emission v xs ys = ap (plain emission) (given-append serve v xs ys) ∙ plain-append emission (given serve v xs) (given serve (after serve v xs) ys)

-- what a first part of the mails brings is a first part of what they bring
pub given_part : {V M : Type 0} (serve : V → M → V × List M) (v : V) (xs ys : List M) → IsPrefixOf xs ys → IsPrefixOf (given serve v xs) (given serve v ys)
given_part serve v xs ys h = (given serve (after serve v xs) h.0, sym (given-append serve v xs h.0) ∙ ap (given serve v) h.1)

-- no list of mails takes a service back
pub grows_all : {V A M Q R : Type 0} (x : Exchange V A M Q R) → IsLawful x → (v : V) (ms : List M) → x.handled v ≤ x.handled (after x.serve v ms)
grows_all x law v [] = le_refl (x.handled v)
grows_all x law v (m ∷ ms) = le_trans (law.grows v m) (grows_all x law (x.serve v m).0 ms)
