-- Where each mail of a service brings a reply at last, so does what it is written as.
use Rattle.std.proofs.Common.{◌≡◌, ◌&&◌, ◌||◌, ℕ, Bool, not, is_none, Option, Some, List, [], ◌∷◌, ◌++◌, map, length, nat_lt, refl, sym, ap, ap₂, ◌∙◌, subst}
use Rattle.std.proofs.lemmas.List.{map-append, length-map}
use Rattle.exchange_model.specs.Exchange.{Exchange, Speech, AnswersLast, given, outnumbers, plain}
use Rattle.exchange_model.specs.Rows.{Row, ends_unheard}
use Rattle.exchange_model.specs.Lifted.{EachOf, ReadsBack, Spells, lifted, lifted_serve}
use Rattle.exchange_model.proofs.Lists.{filter_mapped}
use Rattle.exchange_model.proofs.Lifting.{all_back}
use Rattle.exchange_model.proofs.Words.{given_part}

pub each_front : {M : Type 0} (P : M → Type 0) (xs ys : List M) → EachOf P (xs ++ ys) → EachOf P xs
each_front P [] ys all = tt
each_front P (x ∷ xs) ys all = (all.0, each_front P xs ys all.1)

none_mapped : {M N : Type 0} (f : M → N) (ns : List M) → map f ns ≡ [] → ns ≡ []
none_mapped f [] e = refl
none_mapped f (n ∷ ns) e = absurd (cc)

-- an answered row ends unheard where its client sends more mails than replies came
pub answered_unheard : {M Q R : Type 0} (x : Speech M Q R) (acknowledged : Q → Bool) (r : Row M Q R) (answer : R × ℕ) → r.answer ≡ Some answer →
    ends_unheard x acknowledged r ≡ (acknowledged r.service && outnumbers (x.planned r.service (plain x.emission r.heard)) (plain x.emission r.heard))
answered_unheard {R = R} x acknowledged r answer is =
    ap (λ (o : Option (R × ℕ)). acknowledged r.service && (is_none o || outnumbers (x.planned r.service (plain x.emission r.heard)) (plain x.emission r.heard))) is

module _ {V A M N Q R : Type 0} (x : Exchange V A M Q R) (read : N → M) (write : M → N) where
  -- what is given for written mails is what is given for those that are read from them, written
  given_read : (v : V) (ns : List N) → given (lifted_serve x.serve read write) v ns ≡ map write (given x.serve v (map read ns))
  given_read v [] = refl
  given_read v (n ∷ ns) =
      ap (λ l. map write (x.serve v (read n)).1 ++ l) (given_read (x.serve v (read n)).0 ns)
      ∙ sym (map-append write (x.serve v (read n)).1 (given x.serve (x.serve v (read n)).0 (map read ns)))

  -- and read again it has the same replies
  replies_read : (v : V) (ns : List N) → EachOf (ReadsBack read write) (given x.serve v (map read ns)) →
      map read (plain (λ n. x.speech.emission (read n)) (given (lifted_serve x.serve read write) v ns)) ≡ plain x.speech.emission (given x.serve v (map read ns))
  replies_read v ns back =
      sym (filter_mapped read (λ m. not (x.speech.emission m)) (given (lifted_serve x.serve read write) v ns))
      ∙ ap (λ l. plain x.speech.emission (map read l)) (given_read v ns)
      ∙ ap (plain x.speech.emission) (all_back x read write (given x.serve v (map read ns)) back)

  module _ (spells : Spells x read write) (acknowledged : Q → Bool) (last : AnswersLast x acknowledged) where
    pub lifted_last : AnswersLast (lifted x read write) acknowledged
    lifted_last v q ready valid answers quiet ps rs e same =
        let full = x.full v q in
        let known : map read (map write full) ≡ full = all_back x read write full (spells.told v q ready valid) in
        let cut : full ≡ map read ps ++ map read rs = sym known ∙ ap (map read) e ∙ map-append read ps rs in
        let all_read = spells.answered v q ready valid in
        let begun = given_part x.serve v (map read ps) full (map read rs, sym cut) in
        let part_read = each_front (ReadsBack read write) (given x.serve v (map read ps)) begun.0 (subst (EachOf (ReadsBack read write)) (sym begun.1) all_read) in
        let whole : map read (plain (λ n. x.speech.emission (read n)) (given (lifted_serve x.serve read write) v (map write full))) ≡ plain x.speech.emission (given x.serve v full) =
        replies_read v (map write full) (subst (λ l. EachOf (ReadsBack read write) (given x.serve v l)) (sym known) all_read) ∙ ap (λ l. plain x.speech.emission (given x.serve v l)) known in
        let equal : plain x.speech.emission (given x.serve v (map read ps)) ≡ plain x.speech.emission (given x.serve v full) = sym (replies_read v ps part_read) ∙ ap (map read) same ∙ whole in
        let unheard : outnumbers (map write full) (plain (λ n. x.speech.emission (read n)) (given (lifted_serve x.serve read write) v (map write full))) ≡ outnumbers full (plain x.speech.emission (given x.serve v full)) =
        ap₂ nat_lt (sym (length-map _ read) ∙ ap length whole) (length-map full write) in
        none_mapped read rs (last v q ready valid answers (ap (λ b. acknowledged q && b) (sym unheard) ∙ quiet) (map read ps) (map read rs) cut equal)
