-- A mail that is passed on and foreseen as answered is always answered, by what is meant; so one that is over without a reply had none.
use Rattle.std.proofs.Common.{◌≡◌, Bool, true, false, not, cond, Option, Some, None, List, [], ◌∷◌, ◌++◌, map, drop, refl, ap, sym, ◌∙◌, subst, append-nil, if◌then◌else◌}
use Rattle.slave_parts.specs.of_exchange_model.Exchange.{Exchange, given, plain, emitted}
use Rattle.slave_parts.specs.of_exchange_model.Rows.{Row, IsWhole}
use Rattle.slave_parts.specs.of_segment_model.Slaves.{Registers, Processor, Slave}
use Rattle.slave_parts.specs.of_segment_model.Record.{Frame}
use Rattle.slave_parts.specs.of_segment_model.Ends.{Passing}
use Rattle.slave_parts.specs.of_life_model.Lives.{Spot, Era}
use Rattle.slave_parts.specs.of_serving_model.Tagged.{IsServed, Meant, Tagged, Asked, Rowed, untag, is_own, own_gift, no_reply, last_gifts, answer_gifts, ideal, tagged}
use Rattle.slave_parts.proofs.of_serving_model.TaggedLaw.{tagged_lawful}
use Rattle.few_replies.specs.Led.{RepliesFirst, IsAnswered, AllHeard, NowHeard, HasHeard, IsLed}
use Rattle.few_replies.specs.Silent.{is_passed, IsForeseenRight, HadNone, AllHadNone, NowHadNone, EachHadNone, HeardAll}
use Rattle.few_replies.proofs.Turns

-- the first of these, or this one
abbrev first_or : {X : Type 0} → X → List X → X
first_or x [] = x
first_or x (y ∷ ys) = y

none_plain : {M : Type 0} (e : M → Bool) (ms : List M) → no_reply e ms ≡ true → plain e ms ≡ []
none_plain e [] is = refl
none_plain e (m ∷ ms) is = go (e m) is (none_plain e ms)
  where
    go : (b : Bool) → (if b then no_reply e ms else false) ≡ true → (no_reply e ms ≡ true → plain e ms ≡ []) → cond (not b) (m ∷ plain e ms) (plain e ms) ≡ []
    go true is rest = rest is
    go false is rest = absurd (let bad : false ≡ true = is in cc)

plain_none : {M : Type 0} (e : M → Bool) (ms : List M) → plain e ms ≡ [] → no_reply e ms ≡ true
plain_none e [] is = refl
plain_none {M} e (m ∷ ms) is = go (e m) is (plain_none e ms)
  where
    go : (b : Bool) → cond (not b) (m ∷ plain e ms) (plain e ms) ≡ [] → (plain e ms ≡ [] → no_reply e ms ≡ true) → (if b then no_reply e ms else false) ≡ true
    go true is rest = rest is
    go false is rest = absurd (let bad : m ∷ plain e ms ≡ [] = is in cc)

head_replies : {M : Type 0} (e : M → Bool) (ms : List M) (p : M) (ps : List M) → plain e ms ≡ p ∷ ps → e p ≡ false
head_replies e [] p ps is = absurd (let bad : [] ≡ p ∷ ps = is in cc)
head_replies {M} e (m ∷ ms) p ps is = go (e m) refl is (head_replies e ms p ps)
  where
    go : (b : Bool) → e m ≡ b → cond (not b) (m ∷ plain e ms) (plain e ms) ≡ p ∷ ps → (plain e ms ≡ p ∷ ps → e p ≡ false) → e p ≡ false
    go true at is rest = rest is
    go false at is rest = let same : m ≡ p = cc in subst (λ k. e k ≡ false) same at

-- where replies come first, and there is one, the first is a reply
first_replies : {M : Type 0} (e : M → Bool) (m : M) (ms : List M) → m ∷ ms ≡ plain e (m ∷ ms) ++ emitted e (m ∷ ms) → no_reply e (m ∷ ms) ≡ false → e m ≡ false
first_replies {M} e m ms order some = go (plain e (m ∷ ms)) refl
  where
    go : (ps : List M) → plain e (m ∷ ms) ≡ ps → e m ≡ false
    go [] is = absurd (let bad : true ≡ false = sym (plain_none e (m ∷ ms) is) ∙ some in cc)
    go (p ∷ ps) is =
        let front : m ∷ ms ≡ p ∷ (ps ++ emitted e (m ∷ ms)) = order ∙ ap (λ l. l ++ emitted e (m ∷ ms)) is in
        let same : p ≡ m = cc in
        subst (λ k. e k ≡ false) same (head_replies e (m ∷ ms) p ps is)

-- SO IT IS, by what is meant, of a mail that is foreseen as answered
module _ {V M Q R : Type 0} (x : Exchange V V M Q R) (order : RepliesFirst x) where
  abbrev gifts : Rowed V M Q → M → List (Tagged M Q)
  gifts w m = answer_gifts x.speech.emission m (x.serve (ideal x w) m).1

  abbrev made_up : M → Tagged M Q
  made_up m = record { mail = m; meant = Meant.Reply true }

  -- there is a first of them, and it is a reply
  first_gift : (m : M) (ms : List M) → ms ≡ plain x.speech.emission ms ++ emitted x.speech.emission ms →
      (let gs = answer_gifts {Q = Q} x.speech.emission m ms in (gs ≡ first_or (made_up m) gs ∷ drop 1 gs) × (is_own (first_or (made_up m) gs).meant ≡ false))
  first_gift m [] o = (refl, refl)
  first_gift m (k ∷ ms) o = go (no_reply x.speech.emission (k ∷ ms)) refl
    where
      go : (b : Bool) → no_reply x.speech.emission (k ∷ ms) ≡ b → (let gs = if b then made_up m ∷ last_gifts x.speech.emission (k ∷ ms) else last_gifts x.speech.emission (k ∷ ms) in
          (gs ≡ first_or (made_up m) gs ∷ drop 1 gs) × (is_own (first_or (made_up m) gs).meant ≡ false))
      go true e = (refl, refl)
      go false e = (refl, ap (λ b. is_own {Q = Q} (if b then Meant.Own else Meant.Reply (no_reply x.speech.emission ms))) (first_replies x.speech.emission k ms o e))

  pub answered : (m : M) → IsAnswered (tagged x) is_passed (Asked.Passed m true)
  answered m = record {
    mail = record { mail = m; meant = Meant.Alone true };
    planned = λ hs. refl;
    passes = refl;
    first = λ w. first_or (made_up m) (gifts w m);
    rest = λ w. drop 1 (gifts w m);
    gives = λ w. (first_gift m (x.serve (ideal x w) m).1 (order (ideal x w) m)).0;
    replies = λ w. (first_gift m (x.serve (ideal x w) m).1 (order (ideal x w) m)).1;
  }

  -- and one that is over without a reply was foreseen to have none
  had_none : (r : Row (Tagged M Q) (Asked M Q) (Option R)) → HasHeard (tagged x) is_passed r → HadNone x r
  had_none r heard m true is none v right =
      absurd (let a = subst (IsAnswered (tagged x) is_passed) (sym is) (answered m) in let bad : true ≡ false = sym none ∙ heard a in cc)
  had_none r heard m false is none v right = none_plain x.speech.emission (x.serve v m).1 (go (no_reply x.speech.emission (x.serve v m).1) right)
    where
      go : (b : Bool) → false ≡ not b → b ≡ true
      go true e = refl
      go false e = absurd (let bad : false ≡ true = e in cc)

  all_had_none : (rs : List (Row (Tagged M Q) (Asked M Q) (Option R))) → AllHeard (tagged x) is_passed rs → AllHadNone x rs
  all_had_none [] h = tt
  all_had_none (r ∷ rs) h = (had_none r h.0, all_had_none rs h.1)

  now_had_none : (passing : Option Passing) (now : Option (Row (Tagged M Q) (Asked M Q) (Option R))) → NowHeard (tagged x) is_passed passing now → NowHadNone x passing now
  now_had_none (Some p) now h = tt
  now_had_none None None h = tt
  now_had_none None (Some r) h = had_none r h

  pub silent : {C : Type 0} (core : V → C) → IsServed x core → (acknowledged : Asked M Q → Bool) (processor : Processor (Rowed V M Q)) (more : Tagged M Q → Bool) (spot : Spot) (opened : _) (v : Rowed V M Q) (r : Registers) (fs : List (Frame (Tagged M Q)))
      (counts : Bool) (e : Era (Tagged M Q) (Asked M Q) (Option R)) (n : Slave (Rowed V M Q) (Tagged M Q)) → IsLed (tagged x) acknowledged processor more is_passed spot opened v r fs counts e n → EachHadNone x e
  silent core law acknowledged processor more spot opened v r fs counts e n led =
      let heard = Turns.heard_law (tagged x) (tagged_lawful x core law) acknowledged processor more is_passed spot opened v r fs counts e n led in
      record { past = all_had_none e.side.past heard.past; now = now_had_none e.passing e.side.now heard.now }

-- OF A ROW THAT IS OVER all replies were heard
module _ {V M Q R : Type 0} (x : Exchange V V M Q R) where
  owns_none : (ms : List M) → plain (λ (t : Tagged M Q). is_own t.meant) (map (λ g. own_gift g) ms) ≡ []
  owns_none [] = refl
  owns_none (m ∷ ms) = owns_none ms

  untag_last : (ms : List M) → untag (plain (λ t. is_own t.meant) (last_gifts {Q = Q} x.speech.emission ms)) ≡ plain x.speech.emission ms
  untag_last [] = refl
  untag_last (m ∷ ms) = go (x.speech.emission m) (untag_last ms)
    where
      go : (b : Bool) → untag (plain (λ t. is_own t.meant) (last_gifts {Q = Q} x.speech.emission ms)) ≡ plain x.speech.emission ms →
          untag (plain (λ (t : Tagged M Q). is_own t.meant) (record { mail = m; meant = if b then Meant.Own else Meant.Reply (no_reply x.speech.emission ms) } ∷ last_gifts x.speech.emission ms))
          ≡ cond (not b) (m ∷ plain x.speech.emission ms) (plain x.speech.emission ms)
      go true rest = rest
      go false rest = ap (λ l. m ∷ l) rest

  pub whole : (w : Rowed V M Q) (r : Row (Tagged M Q) (Asked M Q) (Option R)) (m : M) (answers : Bool) → r.service ≡ Asked.Passed m answers → IsForeseenRight x (ideal x w) m answers → IsWhole (tagged x) w r → HeardAll x w m r
  whole w r m true is right row =
      ap untag (row.heard ∙ ap (λ l. plain (λ (t : Tagged M Q). is_own t.meant) (given (tagged x).serve w l)) (row.told ∙ ap ((tagged x).full w) is)
      ∙ ap (plain (λ (t : Tagged M Q). is_own t.meant)) (append-nil (answer_gifts {Q = Q} x.speech.emission m gifts)))
      ∙ ap (λ b. untag (plain (λ (t : Tagged M Q). is_own t.meant) (if b then record { mail = m; meant = Meant.Reply true } ∷ last_gifts {Q = Q} x.speech.emission gifts else last_gifts {Q = Q} x.speech.emission gifts))) loud
      ∙ untag_last gifts
    where
      gifts : List M
      gifts = (x.serve (ideal x w) m).1

      loud : no_reply x.speech.emission gifts ≡ false
      loud = go (no_reply x.speech.emission gifts) right
        where
          go : (b : Bool) → true ≡ not b → b ≡ false
          go false e = refl
          go true e = absurd (let bad : true ≡ false = e in cc)
  whole w r m false is right row =
      ap untag (row.heard ∙ ap (λ l. plain (λ (t : Tagged M Q). is_own t.meant) (given (tagged x).serve w l)) (row.told ∙ ap ((tagged x).full w) is)
      ∙ ap (plain (λ (t : Tagged M Q). is_own t.meant)) (append-nil (map (λ g. own_gift {Q = Q} g) gifts)) ∙ owns_none gifts)
      ∙ sym (none_plain x.speech.emission gifts (go (no_reply x.speech.emission gifts) right))
    where
      gifts : List M
      gifts = (x.serve (ideal x w) m).1

      go : (b : Bool) → false ≡ not b → b ≡ true
      go true e = refl
      go false e = absurd (let bad : false ≡ true = e in cc)
