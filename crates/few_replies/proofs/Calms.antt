-- Services and mails that are passed on, over calm servers.
use Rattle.std.proofs.Common.{◌≡◌, ◌⊎◌, inl, inr, ℕ, suc, ◌+◌, ◌≤◌, ◌&&◌, Bool, true, false, List, [], ◌∷◌, map, length, refl, sym, ap, ◌∙◌, arith, append-nil, if◌then◌else◌}
use Rattle.std.proofs.lemmas.List.{length-map}
use Rattle.slave_parts.specs.of_exchange_model.Exchange.{Exchange, IsLawful, Before, Behind, after, given}
use Rattle.slave_parts.specs.of_serving_model.Tagged.{IsServed, Meant, Tagged, Asked, told, gift, more_of, own_gift, no_reply, last_gifts, answer_gifts, Rowed, ideal, tagged, IsForeseen}
use Rattle.slave_parts.proofs.of_serving_model.TaggedLaw.{tagged_lawful, told-given, full_behind}
use Rattle.few_replies.specs.Counts.{mails_between}
use Rattle.few_replies.specs.RowCounts.{AreCounted}
use Rattle.few_replies.specs.Calm.{IsCalm, KeepsPassed, asked_fair, calm_tagged, asked_count}

left_of : (a b : Bool) → (a && b) ≡ true → a ≡ true
left_of true b e = refl
left_of false b e = absurd (cc)

right_of : (a b : Bool) → (a && b) ≡ true → b ≡ true
right_of true b e = e
right_of false b e = absurd (cc)

both : (a b : Bool) → a ≡ true → b ≡ true → (a && b) ≡ true
both true b e f = f
both false b e f = absurd (cc)

-- as many gifts as mails
last_many : {M : Type 0} (Q : Type 0) (e : M → Bool) (ms : List M) → length (last_gifts {Q = Q} e ms) ≡ length ms
last_many Q e [] = refl
last_many Q e (m ∷ ms) = ap suc (last_many Q e ms)

-- and one that is made up
answer_many : {M : Type 0} (Q : Type 0) (e : M → Bool) (m : M) (ms : List M) → length (answer_gifts {Q = Q} e m ms) ≤ suc (length ms)
answer_many Q e m ms = by (no_reply e ms)
  where
    by : (b : Bool) → length (if b then record { mail = m; meant = Meant.Reply true } ∷ last_gifts {Q = Q} e ms else last_gifts {Q = Q} e ms) ≤ suc (length ms)
    by true = omega (arith, last_many Q e ms)
    by false = omega (arith, last_many Q e ms)

answer_all : {M : Type 0} (Q : Type 0) (e : M → Bool) (m : M) (ms : List M) → no_reply e ms ≡ false → length (answer_gifts {Q = Q} e m ms) ≡ length ms
answer_all Q e m ms some = ap (λ b. length (if b then record { mail = m; meant = Meant.Reply true } ∷ last_gifts {Q = Q} e ms else last_gifts {Q = Q} e ms)) some ∙ last_many Q e ms

told_many : {M Q : Type 0} (q : Q) (ms : List M) → length (told q ms) ≡ length ms
told_many q [] = refl
told_many {Q = Q} q (m ∷ ms) = ap suc (length-map ms (λ m. more_of {Q = Q} m))

module _ {V M Q R : Type 0} (x : Exchange V V M Q R) (calm : V → Bool) (fair : M → Bool) (most : ℕ) (is : IsCalm x calm fair most) where
  abbrev both_ready : Rowed V M Q → Bool
  both_ready w = x.ready (ideal x w) && calm (ideal x w)

  pub calm_foreseen : (w : Rowed V M Q) (m : M) (answers : Bool) → (calm_tagged x calm fair).ready w ≡ true → fair m ≡ true → IsForeseen x (ideal x w) (Asked.Passed m answers) →
      mails_between (calm_tagged x calm fair) w (Asked.Passed m answers) ≤ 1 + most
  calm_foreseen w m true ready fits seen =
      let v = ideal x w in
      let gifts = answer_gifts {Q = Q} x.speech.emission m (x.serve v m).1 in
      let few = is.few v m (left_of (x.ready v) (calm v) ready) (right_of (x.ready v) (calm v) ready) fits in
      omega (arith, ap length (append-nil gifts), answer_all Q x.speech.emission m (x.serve v m).1 seen, few)
  calm_foreseen w m false ready fits seen =
      let v = ideal x w in
      let gifts : List (Tagged M Q) = map (λ g. own_gift g) (x.serve v m).1 in
      let few = is.few v m (left_of (x.ready v) (calm v) ready) (right_of (x.ready v) (calm v) ready) fits in
      omega (arith, ap length (append-nil gifts), length-map (x.serve v m).1 (λ g. own_gift {Q = Q} g), few)

  passed_most : (w : Rowed V M Q) (m : M) (answers : Bool) → (calm_tagged x calm fair).ready w ≡ true → fair m ≡ true → mails_between (calm_tagged x calm fair) w (Asked.Passed m answers) ≤ 2 + most
  passed_most w m true ready fits =
      let v = ideal x w in
      let gifts = answer_gifts {Q = Q} x.speech.emission m (x.serve v m).1 in
      let few = is.few v m (left_of (x.ready v) (calm v) ready) (right_of (x.ready v) (calm v) ready) fits in
      omega (arith, ap length (append-nil gifts), answer_many Q x.speech.emission m (x.serve v m).1, few)
  passed_most w m false ready fits = omega (arith, calm_foreseen w m false ready fits tt)

module _ {V M Q R C : Type 0} (x : Exchange V V M Q R) (core : V → C) (law : IsServed x core) (calm : V → Bool) (fair : M → Bool) (most : ℕ) (is : IsCalm x calm fair most) where
  ready_in : (w : Rowed V M Q) → (calm_tagged x calm fair).ready w ≡ true → x.ready (ideal x w) ≡ true
  ready_in w ready = left_of (x.ready (ideal x w)) (calm (ideal x w)) ready

  calm_in : (w : Rowed V M Q) → (calm_tagged x calm fair).ready w ≡ true → calm (ideal x w) ≡ true
  calm_in w ready = right_of (x.ready (ideal x w)) (calm (ideal x w)) ready

  valid_in : (q : Asked M Q) → asked_fair x.speech fair q ≡ true → (tagged x).speech.valid q ≡ true
  valid_in (Asked.Script q) valid = valid
  valid_in (Asked.Passed m answers) valid = refl

  before_in : (w : Rowed V M Q) (ms : List (Tagged M Q)) → Before (tagged x) w ms → Before (calm_tagged x calm fair) w ms
  before_in w ms b = record { app = b.app; handled = b.handled; emitted = b.emitted }

  behind_in : (w : Rowed V M Q) (q : Asked M Q) (ms : List (Tagged M Q)) → Behind (tagged x) w q ms → Behind (calm_tagged x calm fair) w q ms
  behind_in w q ms b = record { app = b.app; handled = b.handled; emitted = b.emitted }

  calm_behind : (w : Rowed V M Q) (q : Asked M Q) → (calm_tagged x calm fair).ready w ≡ true → asked_fair x.speech fair q ≡ true → calm (ideal x (after (tagged x).serve w ((tagged x).full w q))) ≡ true
  calm_behind w (Asked.Script q) ready valid = ap calm (full_behind x core law w q (ready_in w ready) valid).app ∙ is.serves (ideal x w) q (ready_in w ready) valid (calm_in w ready)
  calm_behind w (Asked.Passed m answers) ready valid = is.passes (ideal x w) m (ready_in w ready) (calm_in w ready) valid

  pub calm_lawful : IsLawful (calm_tagged x calm fair)
  calm_lawful =
      let l = tagged_lawful x core law in
      record {
        ready = λ w q ready valid. both _ _ (l.ready w q (ready_in w ready) (valid_in q valid)) (calm_behind w q ready valid);
        whole = λ w q ready valid. behind_in w q _ (l.whole w q (ready_in w ready) (valid_in q valid));
        all_emitted = λ w q ready valid. l.all_emitted w q (ready_in w ready) (valid_in q valid);
        replied = λ w q ready valid. l.replied w q (ready_in w ready) (valid_in q valid);
        silent = λ w q ready valid. l.silent w q (ready_in w ready) (valid_in q valid);
        part = λ w q ready valid p r e. part_in w q p (l.part w q (ready_in w ready) (valid_in q valid) p r e);
        counted = λ w q ready valid nay p r e all. behind_in w q p (l.counted w q (ready_in w ready) (valid_in q valid) nay p r e all);
        none = λ q. l.none q;
        ended = λ q hs h more r e. l.ended q hs h more r e;
        follows = λ w q ready valid. l.follows w q (ready_in w ready) (valid_in q valid);
        all_planned = λ w q ready valid. l.all_planned w q (ready_in w ready) (valid_in q valid);
        unanswered = λ q hs e. l.unanswered q hs e;
        some = λ w q ready valid. l.some w q (ready_in w ready) (valid_in q valid);
        grows = λ w t. l.grows w t;
      }
    where
      part_in : (w : Rowed V M Q) (q : Asked M Q) (p : List (Tagged M Q)) → Before (tagged x) w p ⊎ Behind (tagged x) w q p → Before (calm_tagged x calm fair) w p ⊎ Behind (calm_tagged x calm fair) w q p
      part_in w q p (inl b) = inl (before_in w p b)
      part_in w q p (inr b) = inr (behind_in w q p b)

  module _ {K : Type 0} (shape : V → K) (count : K → Q → ℕ) (keeps : KeepsPassed x calm fair shape) (counts : AreCounted x shape count) where
    within_in : (w : Rowed V M Q) (q : Asked M Q) → (calm_tagged x calm fair).ready w ≡ true → asked_fair x.speech fair q ≡ true → mails_between (calm_tagged x calm fair) w q ≤ asked_count count most (shape (ideal x w)) q
    within_in w (Asked.Script q) ready valid =
        let v = ideal x w in
        let gave = given x.serve v (x.full v q) in
        let same = ap length (told-given x core law w q (x.full v q)) ∙ length-map gave (λ g. gift {Q = Q} x.speech.emission g) in
        omega (arith, counts.within v q (ready_in w ready) valid, told_many q (x.full v q), same)
    within_in w (Asked.Passed m answers) ready valid = passed_most x calm fair most is w m answers ready valid

    stays_in : (w : Rowed V M Q) (q : Asked M Q) → (calm_tagged x calm fair).ready w ≡ true → asked_fair x.speech fair q ≡ true → shape (ideal x (after (tagged x).serve w ((tagged x).full w q))) ≡ shape (ideal x w)
    stays_in w (Asked.Script q) ready valid =
        let v = ideal x w in
        ap shape (full_behind x core law w q (ready_in w ready) valid).app ∙ (ap shape (sym (law.whole v q (ready_in w ready) valid)) ∙ counts.stays v q (ready_in w ready) valid)
    stays_in w (Asked.Passed m answers) ready valid = keeps (ideal x w) m (ready_in w ready) (calm_in w ready) valid

    pub calm_counted : AreCounted (calm_tagged x calm fair) (λ w. shape (ideal x w)) (asked_count count most)
    calm_counted = record { within = λ w q ready valid. within_in w q ready valid; stays = λ w q ready valid. stays_in w q ready valid }
