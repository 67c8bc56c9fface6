-- ALL REPLIES WERE HEARD of a mail that is passed on, where the last that was heard tells that it is the last, or it had none.
use Rattle.std.proofs.Common.{◌≡◌, inl, inr, Bool, true, false, not, cond, is_some, List, [], ◌∷◌, ◌++◌, refl, ap, sym, ◌∙◌, if◌then◌else◌}
use Rattle.served_places.specs.of_exchange_model.Exchange.{Exchange, plain}
use Rattle.served_places.specs.of_exchange_model.Prefix.{IsPrefixOf}
use Rattle.served_places.specs.of_exchange_model.Rows.{Row}
use Rattle.served_places.proofs.of_exchange_model.Lists.{append_none}
use Rattle.served_places.specs.of_serving_model.Passing.{ends_told, LastTells}
use Rattle.served_places.specs.of_serving_model.Tagged.{Tagged, Asked, untag, no_reply}
use Rattle.std.specs.Prelude.{Option}
use Rattle.served_rings.proofs.Newest.{IsHeard, replies}

-- a first part that ends is all
pub told_whole : {M : Type 0} (more : M → Bool) (p rest : List M) → ends_told more p ≡ true → ends_told more (p ++ rest) ≡ true → p ≡ p ++ rest
told_whole more [] rest told all = absurd (let no : false ≡ true = told in cc)
told_whole more (m ∷ []) [] told all = refl
told_whole {M} more (m ∷ []) (k ∷ rest) told all = absurd (go (more m) told all)
  where
    go : (b : Bool) → not b ≡ true → (if b then ends_told more (k ∷ rest) else false) ≡ true → ⊥
    go true told all = let no : false ≡ true = told in cc
    go false told all = let no : false ≡ true = all in cc
told_whole {M} more (m ∷ (k ∷ p)) rest told all = go (more m) told all (told_whole more (k ∷ p) rest)
  where
    go : (b : Bool) → (if b then ends_told more (k ∷ p) else false) ≡ true → (if b then ends_told more (k ∷ (p ++ rest)) else false) ≡ true → (ends_told more (k ∷ p) ≡ true → ends_told more (k ∷ (p ++ rest)) ≡ true → k ∷ p ≡ k ∷ (p ++ rest)) → m ∷ (k ∷ p) ≡ m ∷ (k ∷ (p ++ rest))
    go true told all later = ap (λ l. m ∷ l) (later told all)
    go false told all later = absurd (let no : false ≡ true = told in cc)

none_plain : {M : Type 0} (e : M → Bool) (ms : List M) → no_reply e ms ≡ true → plain e ms ≡ []
none_plain e [] is = refl
none_plain e (m ∷ ms) is = go (e m) is (none_plain e ms)
  where
    go : (b : Bool) → (if b then no_reply e ms else false) ≡ true → (no_reply e ms ≡ true → plain e ms ≡ []) → cond (not b) (m ∷ plain e ms) (plain e ms) ≡ []
    go true is rest = rest is
    go false is rest = absurd (let bad : false ≡ true = is in cc)

module _ {V M Q R : Type 0} (x : Exchange V V M Q R) (more : M → Bool) (last : LastTells x more) where
  -- a mail that is over: it has its answer, where it was foreseen to be answered
  pub row_whole : (v : V) (m : M) (answers : Bool) (r : Row (Tagged M Q) (Asked M Q) (Option R)) → IsHeard x more v m answers r → (answers ≡ true → is_some r.answer ≡ true) → untag (replies x more r) ≡ plain x.speech.emission (x.serve v m).1
  row_whole v m answers r k over = go answers refl
    where
      hs : List M
      hs = untag (replies x more r)

      all : List M
      all = plain x.speech.emission (x.serve v m).1

      part : IsPrefixOf hs all
      part = k.begin

      by_last : ends_told more hs ≡ true → hs ≡ all
      by_last told = elim (last v m k.ready) [
        | inl none ↦ absurd (let empty : hs ≡ [] = (append_none hs part.0 (part.1 ∙ none)).0 in let no : false ≡ true = sym (ap (ends_told more) empty) ∙ told in cc)
        | inr ends ↦ told_whole more hs part.0 told (ap (ends_told more) part.1 ∙ ends) ∙ part.1
      ]

      quiet : (b : Bool) → false ≡ not b → b ≡ true
      quiet true e = refl
      quiet false e = absurd (let no : false ≡ true = e in cc)

      by_none : answers ≡ false → hs ≡ all
      by_none unasked =
          let none : all ≡ [] = none_plain x.speech.emission (x.serve v m).1 (quiet (no_reply x.speech.emission (x.serve v m).1) (sym unasked ∙ k.right)) in
          (append_none hs part.0 (part.1 ∙ none)).0 ∙ sym none

      go : (b : Bool) → answers ≡ b → hs ≡ all
      go true is = by_last (k.ended is (over is))
      go false is = by_none is
