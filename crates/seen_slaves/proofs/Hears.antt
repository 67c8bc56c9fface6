-- A client that hears first, beside mails that are passed on.
use Rattle.std.proofs.Common.{◌≡◌, ℕ, zero, suc, Bool, true, List, [], ◌∷◌, ◌++◌, map, length, refl, sym, ap, ◌∙◌}
use Rattle.std.specs.Prelude.{drop}
use Rattle.std.proofs.lemmas.List.{length-map}
use Rattle.idle_slaves.specs.of_exchange_model.Exchange.{Exchange, given, plain}
use Rattle.served_rings.specs.of_few_replies.Calm.{calm_tagged}
use Rattle.idle_slaves.specs.of_slave_model.Hears.{HearsFirst}
use Rattle.idle_slaves.proofs.of_slave_model.HearsDialogues.{not_none}
use Rattle.served_rings.specs.of_serving_model.Tagged.{IsServed, Asked, Meant, Rowed, Tagged, ideal, is_own, more_of, tagged, told, untag}
use Rattle.served_rings.proofs.of_serving_model.TaggedLaw.{cut_told, told-plain, untag-append, untag-told}
use Rattle.seen_slaves.proofs.Never.{and_left, told_of}

-- where no mail is left none is left of what is told
more_drop : {M : Type 0} (Q : Type 0) (n : ℕ) (ms : List M) → drop n ms ≡ [] → drop n (map (λ m. more_of {Q = Q} m) ms) ≡ []
more_drop Q zero [] e = refl
more_drop Q zero (m ∷ ms) e = absurd (let no : m ∷ ms ≡ [] = e in cc)
more_drop Q (suc n) [] e = refl
more_drop Q (suc n) (m ∷ ms) e = more_drop Q n ms e

told_drop : {M Q : Type 0} (q : Q) (n : ℕ) (ms : List M) → drop n ms ≡ [] → drop n (told q ms) ≡ []
told_drop q zero [] e = refl
told_drop q zero (m ∷ ms) e = absurd (let no : m ∷ ms ≡ [] = e in cc)
told_drop q (suc n) [] e = refl
told_drop {M} {Q} q (suc n) (m ∷ ms) e = more_drop Q n ms e

module _ {V M Q R C : Type 0} (x : Exchange V V M Q R) (core : V → C) (law : IsServed x core) (hears : HearsFirst x) where
  -- of a service
  script : (w : Rowed V M Q) (q : Q) → x.ready (ideal x w) ≡ true → x.speech.valid q ≡ true → (p r : List (Tagged M Q)) → told q (x.full (ideal x w) q) ≡ p ++ r →
      (hs : List (Tagged M Q)) (b : Tagged M Q) (more : List (Tagged M Q)) → plain (λ (t : Tagged M Q). is_own t.meant) (given (tagged x).serve w p) ≡ hs ++ b ∷ more → drop (length p) (told q (x.speech.planned q (untag hs))) ≡ []
  script w q ready valid p r whole hs b more comes =
      let here : p ≡ told q (untag p) = told_of q (x.full (ideal x w) q) p (cut_told q (x.full (ideal x w) q) p r whole) in
      let heard : untag (plain (λ (t : Tagged M Q). is_own t.meant) (given (tagged x).serve w p)) ≡ plain x.speech.emission (given x.serve (ideal x w) (untag p)) =
      ap (λ (l : List (Tagged M Q)). untag (plain (λ (t : Tagged M Q). is_own t.meant) (given (tagged x).serve w l))) here ∙ told-plain x core law w q (untag p) in
      let parts : x.full (ideal x w) q ≡ untag p ++ untag r = sym (untag-told q (x.full (ideal x w) q)) ∙ ap (λ (l : List (Tagged M Q)). untag l) whole ∙ untag-append p r in
      let brings : plain x.speech.emission (given x.serve (ideal x w) (untag p)) ≡ untag hs ++ b.mail ∷ untag more =
      sym heard ∙ ap (λ (l : List (Tagged M Q)). untag l) comes ∙ untag-append hs (b ∷ more) in
      let long : length (untag p) ≡ length p = length-map p (λ (t : Tagged M Q). t.mail) in
      let none : drop (length (untag p)) (x.speech.planned q (untag hs)) ≡ [] = hears (ideal x w) q ready valid (untag p) (untag r) parts (untag hs) b.mail (untag more) brings in
      told_drop q (length p) (x.speech.planned q (untag hs)) (ap (λ (k : ℕ). drop k (x.speech.planned q (untag hs))) (sym long) ∙ none)

  -- of a mail that is passed on none is left behind it, and none comes before it
  alone : (w : Rowed V M Q) (t : Tagged M Q) (p : List (Tagged M Q)) (hs : List (Tagged M Q)) (b : Tagged M Q) (more : List (Tagged M Q)) →
      plain (λ (k : Tagged M Q). is_own k.meant) (given (tagged x).serve w p) ≡ hs ++ b ∷ more → drop (length p) (t ∷ []) ≡ []
  alone w t [] hs b more comes = not_none hs b more comes
  alone w t (u ∷ []) hs b more comes = refl
  alone w t (u ∷ (z ∷ p)) hs b more comes = refl

  pub hears_calm : (calm : V → Bool) (fair : M → Bool) → HearsFirst (calm_tagged x calm fair)
  hears_calm calm fair w (Asked.Script q) ready valid p r whole hs b more comes = script w q (and_left (x.ready (ideal x w)) (calm (ideal x w)) ready) valid p r whole hs b more comes
  hears_calm calm fair w (Asked.Passed m answers) ready valid p r whole hs b more comes = alone w (record { mail = m; meant = Meant.Alone answers }) p hs b more comes
