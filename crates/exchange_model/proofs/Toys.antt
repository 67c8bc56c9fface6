-- The adder owes the laws and meets them, and a run of it in which a row begins while the mail of the row before is still held.
use Rattle.std.proofs.Common.{◌≡◌, ◌≢◌, ◌⊎◌, inl, inr, ℕ, ◌+◌, ◌≤◌, true, false, List, [], ◌∷◌, ◌++◌, Option, None, Some, refl, sym, subst, arith, le_refl}
use Rattle.exchange_model.specs.Exchange.{IsLawful, Before, Behind, given, plain, emitted}
use Rattle.exchange_model.specs.Dialogue.{Decides, rest_at}
use Rattle.exchange_model.specs.Toy.{Mail, first, second, posted, held, total, refused, noted, Service, sum, post, Adder, adder, finish, serve, emission, decide, mails, ends, handed, number}
use Rattle.exchange_model.proofs.Turns.{follows, all_said}

adder_part : (v : Adder) (q : Service) (p r : List Mail) → adder.full v q ≡ p ++ r → Before adder v p ⊎ Behind adder v q p
adder_part v q [] r e = inl (record { app = refl; handled = refl; emitted = refl })
adder_part v (sum n) (m ∷ []) r e = inl (let same : first n ≡ m = cc in subst (λ m. Before adder v (m ∷ [])) same (record { app = refl; handled = refl; emitted = refl }))
adder_part v (sum n) (m ∷ k ∷ []) r e =
    let one : first n ≡ m = cc in
    let two : second ≡ k = cc in
    inr (subst (λ m. Behind adder v (sum n) (m ∷ k ∷ [])) one (subst (λ k. Behind adder v (sum n) (first n ∷ k ∷ [])) two (record { app = refl; handled = refl; emitted = ([], refl) })))
adder_part v (sum n) (m ∷ k ∷ l ∷ p) r e = absurd (cc)
adder_part v (post n) (m ∷ []) r e = inr (let same : posted n ≡ m = cc in subst (λ m. Behind adder v (post n) (m ∷ [])) same (record { app = refl; handled = refl; emitted = ([], refl) }))
adder_part v (post n) (m ∷ k ∷ p) r e = absurd (cc)

adder_counted : (v : Adder) (q : Service) → handed q ≡ false → (p r : List Mail) → adder.full v q ≡ p ++ r →
    plain emission (given serve v p) ≡ plain emission (given serve v (adder.full v q)) → Behind adder v q p
adder_counted v (post n) answered p r e all = absurd (cc)
adder_counted v (sum n) answered [] r e all = absurd (cc)
adder_counted v (sum n) answered (m ∷ []) r e all = absurd (let same : first n ≡ m = cc in
    let few : plain emission (given serve v (first n ∷ [])) ≡ held ∷ total (v.value + n) ∷ [] = subst (λ m. plain emission (given serve v (m ∷ [])) ≡ held ∷ total (v.value + n) ∷ []) (sym same) all in cc)
adder_counted v (sum n) answered (m ∷ k ∷ []) r e all =
    let one : first n ≡ m = cc in
    let two : second ≡ k = cc in
    subst (λ m. Behind adder v (sum n) (m ∷ k ∷ [])) one (subst (λ k. Behind adder v (sum n) (first n ∷ k ∷ [])) two (record { app = refl; handled = refl; emitted = ([], refl) }))
adder_counted v (sum n) answered (m ∷ k ∷ l ∷ p) r e all = absurd (cc)

second_rest : (v : Adder) (half : Option ℕ) → rest_at decide second [] (plain emission (finish v half).1) ≡ []
second_rest v None = refl
second_rest v (Some n) = refl

decides : (q : Service) → Decides serve emission decide (mails q)
decides (sum n) = ((λ v. refl), ((λ v. second_rest v v.half), tt))
decides (post n) = ((λ v. refl), tt)

adder_ended : (q : Service) (hs : List Mail) (h : Mail) (more : List Mail) (r : ℕ) → ends q hs ≡ Some r → ends q (hs ++ h ∷ more) ≡ None
adder_ended (sum n) (held ∷ total value ∷ []) h more r e = refl
adder_ended _ _ h more r e = absurd (cc)

finish_grows : (v : Adder) (half : Option ℕ) → v.handled ≤ (finish v half).0.handled
finish_grows v None = le_refl v.handled
finish_grows v (Some n) = omega arith

adder_grows : (v : Adder) (m : Mail) → v.handled ≤ (serve v m).0.handled
adder_grows v (first n) = le_refl v.handled
adder_grows v second = finish_grows v v.half
adder_grows v (posted n) = omega arith
adder_grows v held = le_refl v.handled
adder_grows v (total n) = le_refl v.handled
adder_grows v refused = le_refl v.handled
adder_grows v (noted n) = le_refl v.handled

unanswered : (q : Service) (hs : List Mail) → handed q ≡ true → ends q hs ≡ None
unanswered (sum n) hs posts = absurd (cc)
unanswered (post n) hs posts = refl

behind_whole : (v : Adder) (q : Service) → Behind adder v q (adder.full v q)
behind_whole v (sum n) = record { app = refl; handled = refl; emitted = ([], refl) }
behind_whole v (post n) = record { app = refl; handled = refl; emitted = ([], refl) }

all_emitted : (v : Adder) (q : Service) → emitted emission (given serve v (adder.full v q)) ≡ adder.emits v.value q
all_emitted v (sum n) = refl
all_emitted v (post n) = refl

replied : (v : Adder) (q : Service) → handed q ≡ false → ends q (plain emission (given serve v (adder.full v q))) ≡ Some (v.value + number q)
replied v (sum n) answers = refl
replied v (post n) answers = absurd (cc)

silent : (v : Adder) (q : Service) → handed q ≡ true → plain emission (given serve v (adder.full v q)) ≡ []
silent v (sum n) posts = absurd (cc)
silent v (post n) posts = refl

some : (v : Adder) (q : Service) → handed q ≡ true → adder.full v q ≢ []
some v (sum n) posts = absurd (cc)
some v (post n) posts = λ none. absurd (cc)

none : (q : Service) → ends q [] ≡ None
none (sum n) = refl
none (post n) = refl

pub adder_law : IsLawful adder
adder_law = record {
  ready = λ v q ready valid. refl;
  whole = λ v q ready valid. behind_whole v q;
  all_emitted = λ v q ready valid. all_emitted v q;
  replied = λ v q ready valid. replied v q;
  silent = λ v q ready valid. silent v q;
  part = λ v q ready valid. adder_part v q;
  counted = λ v q ready valid. adder_counted v q;
  none = none;
  ended = adder_ended;
  follows = λ v q ready valid hs more. follows serve emission decide 2 v (mails q) hs more (decides q);
  all_planned = λ v q ready valid. all_said serve emission decide 2 v (mails q) (decides q);
  unanswered = unanswered;
  some = λ v q ready valid. some v q;
  grows = adder_grows;
}
