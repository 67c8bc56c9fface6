-- A client beside mails that are passed on.
use Rattle.std.proofs.Common.{◌≡◌, ℕ, zero, suc, ◌&&◌, Bool, true, false, List, [], ◌∷◌, ◌++◌, map, length, refl, sym, ap, ◌∙◌}
use Rattle.std.specs.Prelude.{drop}
use Rattle.std.proofs.lemmas.List.{length-map}
use Rattle.idle_slaves.specs.of_exchange_model.Exchange.{Exchange, given, plain}
use Rattle.idle_slaves.specs.of_slave_model.Waits.{NeverWaits}
use Rattle.served_rings.specs.of_few_replies.Calm.{calm_tagged}
use Rattle.served_rings.specs.of_serving_model.Tagged.{IsServed, Asked, Meant, Rowed, Tagged, ideal, is_own, more_of, tagged, told, untag}
use Rattle.served_rings.proofs.of_serving_model.TaggedLaw.{CutTold, cut_told, told-plain, untag-append, untag-told}

untag_nil : {M Q : Type 0} (ts : List (Tagged M Q)) → untag ts ≡ [] → ts ≡ []
untag_nil [] e = refl
untag_nil (t ∷ ts) e = absurd (let no : t.mail ∷ untag ts ≡ [] = e in cc)

pub and_left : (a b : Bool) → (a && b) ≡ true → a ≡ true
and_left true b e = refl
and_left false b e = e

-- of what is told as much is left as of the mails
drop_more : {M : Type 0} (Q : Type 0) (n : ℕ) (ms : List M) → drop n (map (λ m. more_of {Q = Q} m) ms) ≡ [] → drop n ms ≡ []
drop_more Q zero [] e = refl
drop_more Q zero (m ∷ ms) e = absurd (let no : more_of {Q = Q} m ∷ map (λ a. more_of {Q = Q} a) ms ≡ [] = e in cc)
drop_more Q (suc n) [] e = refl
drop_more Q (suc n) (m ∷ ms) e = drop_more Q n ms e

drop_told : {M Q : Type 0} (q : Q) (n : ℕ) (ms : List M) → drop n (told q ms) ≡ [] → drop n ms ≡ []
drop_told q zero [] e = refl
drop_told {M} {Q} q zero (m ∷ ms) e = absurd (let no : record { mail = m; meant = Meant.First q } ∷ map (λ a. more_of {Q = Q} a) ms ≡ [] = e in cc)
drop_told q (suc n) [] e = refl
drop_told {M} {Q} q (suc n) (m ∷ ms) e = drop_more Q n ms e

-- a first part of what is told is what is told of a first part
pub told_of : {M Q : Type 0} (q : Q) (ms : List M) (p : List (Tagged M Q)) → CutTold q ms p → p ≡ told q (untag p)
told_of q ms p (CutTold.nothing e) = e ∙ ap (λ l. told q (untag l)) (sym e)
told_of q ms p (CutTold.some m front rest whole e) = e ∙ ap (λ (l : List _). told q l) (sym (untag-told q (m ∷ front))) ∙ ap (λ l. told q (untag l)) (sym e)

-- of one mail nothing is left behind it
one_left : {T : Type 0} (t : T) (p r : List T) → t ∷ [] ≡ p ++ r → drop (length p) (t ∷ []) ≡ [] → r ≡ []
one_left t [] r e none = absurd (let no : t ∷ [] ≡ [] = none in cc)
one_left t (u ∷ []) r e none = (let both : t ∷ [] ≡ u ∷ r = e in let rest : [] ≡ r = cc in sym rest)
one_left t (u ∷ (z ∷ p)) r e none = absurd (let no : t ∷ [] ≡ u ∷ (z ∷ (p ++ r)) = e in cc)

module _ {V M Q R C : Type 0} (x : Exchange V V M Q R) (core : V → C) (law : IsServed x core) (never : NeverWaits x) where
  -- of a service
  script : (w : Rowed V M Q) (q : Q) → x.ready (ideal x w) ≡ true → x.speech.valid q ≡ true → (p r : List (Tagged M Q)) → told q (x.full (ideal x w) q) ≡ p ++ r →
      drop (length p) (told q (x.speech.planned q (untag (plain (λ (t : Tagged M Q). is_own t.meant) (given (tagged x).serve w p))))) ≡ [] → r ≡ []
  script w q ready valid p r whole none =
      let here : p ≡ told q (untag p) = told_of q (x.full (ideal x w) q) p (cut_told q (x.full (ideal x w) q) p r whole) in
      let heard : untag (plain (λ (t : Tagged M Q). is_own t.meant) (given (tagged x).serve w p)) ≡ plain x.speech.emission (given x.serve (ideal x w) (untag p)) =
      ap (λ (l : List (Tagged M Q)). untag (plain (λ (t : Tagged M Q). is_own t.meant) (given (tagged x).serve w l))) here ∙ told-plain x core law w q (untag p) in
      let parts : x.full (ideal x w) q ≡ untag p ++ untag r = sym (untag-told q (x.full (ideal x w) q)) ∙ ap (λ (l : List (Tagged M Q)). untag l) whole ∙ untag-append p r in
      let long : length (untag p) ≡ length p = length-map p (λ (t : Tagged M Q). t.mail) in
      let no_more : drop (length (untag p)) (told q (x.speech.planned q (plain x.speech.emission (given x.serve (ideal x w) (untag p))))) ≡ [] =
      ap (λ (k : ℕ). drop k (told q (x.speech.planned q (plain x.speech.emission (given x.serve (ideal x w) (untag p)))))) long
      ∙ ap (λ (hs : List M). drop (length p) (told q (x.speech.planned q hs))) (sym heard) ∙ none in
      untag_nil r (never (ideal x w) q ready valid (untag p) (untag r) parts (drop_told q (length (untag p)) (x.speech.planned q (plain x.speech.emission (given x.serve (ideal x w) (untag p)))) no_more))

  pub never_tagged : NeverWaits (tagged x)
  never_tagged w (Asked.Script q) ready valid p r whole none = script w q ready valid p r whole none
  never_tagged w (Asked.Passed m answers) ready valid p r whole none = one_left (record { mail = m; meant = Meant.Alone answers }) p r whole none

  pub never_calm : (calm : V → Bool) (fair : M → Bool) → NeverWaits (calm_tagged x calm fair)
  never_calm calm fair w (Asked.Script q) ready valid p r whole none = script w q (and_left (x.ready (ideal x w)) (calm (ideal x w)) ready) valid p r whole none
  never_calm calm fair w (Asked.Passed m answers) ready valid p r whole none = one_left (record { mail = m; meant = Meant.Alone answers }) p r whole none
