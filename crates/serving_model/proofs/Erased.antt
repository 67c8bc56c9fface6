-- What is meant by the mails is told by no octet, and needn't be: a server that took a first part of the mails of rows, each row with all its
-- mails before the next, is the one without tags, and gives the same mails.
use Rattle.std.proofs.Common.{◌≡◌, ◌≢◌, inl, inr, Bool, true, false, Option, List, [], ◌∷◌, ◌++◌, refl, sym, ap, ap₂, ◌∙◌, subst, append_assoc, append-nil, if◌then◌else◌}
use Rattle.state_model.specs.of_exchange_model.Prefix.{IsPrefixOf}
use Rattle.state_model.specs.of_exchange_model.Exchange.{Exchange, after, given}
use Rattle.state_model.specs.of_exchange_model.Rows.{Row, Settled, told_all}
use Rattle.state_model.proofs.of_exchange_model.Lists.{cut}
use Rattle.state_model.proofs.of_exchange_model.Words.{after-append, given-append}
use Rattle.state_model.proofs.of_exchange_model.Settles.{whole_ready}
use Rattle.serving_model.specs.Tagged.{IsServed, Meant, Tagged, Asked, untag, told, no_reply, last_gifts, answer_gifts, Rowed, real, ideal, tagged, IsReal, IsForeseen, AllForeseen}
use Rattle.serving_model.proofs.TaggedLaw.{untag-told, untag-append, untag-gift, told-after, told-given, full_behind, cut_told, CutTold, cut_alone, tagged_lawful, owns}

untag-owns : {M : Type 0} (Q : Type 0) (ms : List M) → untag (owns Q ms) ≡ ms
untag-owns Q [] = refl
untag-owns Q (m ∷ ms) = ap (λ l. m ∷ l) (untag-owns Q ms)

module _ {V M Q R C : Type 0} (x : Exchange V V M Q R) (core : V → C) (law : IsServed x core) where
  nothing_taken : (w : Rowed V M Q) → IsReal x w []
  nothing_taken w = record { server = refl; gives = refl }

  part_told : (w : Rowed V M Q) → ideal x w ≡ real x w → (q : Q) (m : M) (ms : List M) → IsReal x w (told q (m ∷ ms))
  part_told w same q m ms = record {
    server = ap (real x) (told-after x core law w q m ms) ∙ ap₂ (λ (v : V) (l : List M). after x.serve v l) same (sym (untag-told q (m ∷ ms)));
    gives = ap untag (told-given x core law w q (m ∷ ms)) ∙ untag-gift Q x.speech.emission (given x.serve (ideal x w) (m ∷ ms))
        ∙ ap₂ (λ (v : V) (l : List M). given x.serve v l) same (sym (untag-told q (m ∷ ms)));
  }

  answers_untag : (e : M → Bool) (m : M) (ms : List M) → no_reply e ms ≡ false → untag (answer_gifts {Q = Q} e m ms) ≡ ms
  answers_untag e m ms loud = ap (λ b. untag (if b then record { mail = m; meant = Meant.Reply true } ∷ last_gifts {Q = Q} e ms else last_gifts {Q = Q} e ms)) loud ∙ untag-last ms
    where
      untag-last : (ls : List M) → untag (last_gifts {Q = Q} e ls) ≡ ls
      untag-last [] = refl
      untag-last (l ∷ ls) = ap (λ k. l ∷ k) (untag-last ls)

  part_alone : (w : Rowed V M Q) → ideal x w ≡ real x w → (m : M) (answers : Bool) → IsForeseen x (ideal x w) (Asked.Passed m answers) → IsReal x w (record { mail = m; meant = Meant.Alone answers } ∷ [])
  part_alone w same m true right = record {
    server = ap (λ v. (x.serve v m).0) same;
    gives = ap untag (append-nil (answer_gifts {Q = Q} x.speech.emission m (x.serve (ideal x w) m).1)) ∙ answers_untag x.speech.emission m (x.serve (ideal x w) m).1 right ∙ ap (λ v. (x.serve v m).1) same ∙ sym (append-nil (x.serve (real x w) m).1);
  }
  part_alone w same m false right = record {
    server = ap (λ v. (x.serve v m).0) same;
    gives = ap untag (append-nil (owns Q (x.serve (ideal x w) m).1)) ∙ untag-owns Q (x.serve (ideal x w) m).1 ∙ ap (λ v. (x.serve v m).1) same ∙ sym (append-nil (x.serve (real x w) m).1);
  }

  -- a first part of a row
  part_is : (w : Rowed V M Q) → ideal x w ≡ real x w → (q : Asked M Q) → IsForeseen x (ideal x w) q → (p r : List (Tagged M Q)) → (tagged x).full w q ≡ p ++ r → IsReal x w p
  part_is w same (Asked.Script q) right p r e = go p (cut_told q (x.full (ideal x w) q) p r e)
    where
      go : (p : List (Tagged M Q)) → CutTold q (x.full (ideal x w) q) p → IsReal x w p
      go p (CutTold.nothing is) = subst (IsReal x w) (sym is) (nothing_taken w)
      go p (CutTold.some m front rest is told_is) = subst (IsReal x w) (sym told_is) (part_told w same q m front)
  part_is w same (Asked.Passed m answers) right p r e = elim (cut_alone x core law _ p r e) [
    | inl is ↦ subst (IsReal x w) (sym is) (nothing_taken w)
    | inr is ↦ subst (IsReal x w) (sym is) (part_alone w same m answers right)
  ]

  -- a whole row leaves the server between rows
  full_between : (w : Rowed V M Q) → ideal x w ≡ real x w → (q : Asked M Q) → (tagged x).ready w ≡ true → (tagged x).speech.valid q ≡ true →
      ideal x (after (tagged x).serve w ((tagged x).full w q)) ≡ real x (after (tagged x).serve w ((tagged x).full w q))
  full_between w same (Asked.Script q) ready valid =
      (full_behind x core law w q ready valid).app ∙ sym (law.whole (ideal x w) q ready valid)
      ∙ go (x.full (ideal x w) q) (law.some (ideal x w) q ready valid)
    where
      go : (ms : List M) → ms ≢ [] → after x.serve (ideal x w) ms ≡ real x (after (tagged x).serve w (told q ms))
      go [] full = absurd (full refl)
      go (m ∷ ms) full = sym (ap (real x) (told-after x core law w q m ms))
  full_between w same (Asked.Passed m answers) ready valid = refl

  joined_is : (w : Rowed V M Q) (ts us : List (Tagged M Q)) → IsReal x w ts → IsReal x (after (tagged x).serve w ts) us → IsReal x w (ts ++ us)
  joined_is w ts us first second = record {
    server = ap (real x) (after-append (tagged x).serve w ts us) ∙ second.server ∙ ap (λ v. after x.serve v (untag us)) first.server
        ∙ sym (ap (after x.serve (real x w)) (untag-append ts us) ∙ after-append x.serve (real x w) (untag ts) (untag us));
    gives = ap untag (given-append (tagged x).serve w ts us) ∙ untag-append (given (tagged x).serve w ts) (given (tagged x).serve (after (tagged x).serve w ts) us)
        ∙ ap₂ (λ (a b : List M). a ++ b) first.gives (second.gives ∙ ap (λ v. given x.serve v (untag us)) first.server)
        ∙ sym (ap (given x.serve (real x w)) (untag-append ts us) ∙ given-append x.serve (real x w) (untag ts) (untag us));
  }

  -- ROWS: whatever first part of their mails was taken
  pub rows_is : (w : Rowed V M Q) (past : List (Row (Tagged M Q) (Asked M Q) (Option R))) (now : Row (Tagged M Q) (Asked M Q) (Option R)) (taken rest : List (Tagged M Q)) →
      ideal x w ≡ real x w → (tagged x).ready w ≡ true → AllForeseen x w past now → Settled (tagged x) w past →
      IsPrefixOf now.told ((tagged x).full (after (tagged x).serve w (told_all past)) now.service) → told_all past ++ now.told ≡ taken ++ rest → IsReal x w taken
  rows_is w [] now taken rest same ready right settled mine e =
      part_is w same now.service right taken (rest ++ mine.0) (sym mine.1 ∙ ap (λ l. l ++ mine.0) e ∙ append_assoc taken rest mine.0)
  rows_is w (r ∷ past) now taken rest same ready right settled mine e =
      let whole = settled.0 in
      let next = after (tagged x).serve w r.told in
      elim (cut r.told (told_all past ++ now.told) taken rest (sym (append_assoc r.told (told_all past) now.told) ∙ e)) [
        | inl c ↦ subst (IsReal x w) (sym c.1) (joined_is w r.told c.0
            (part_is w same r.service right.0 r.told [] (sym whole.told ∙ sym (append-nil r.told)))
            (rows_is next past now c.0 rest
            (subst (λ ts. ideal x (after (tagged x).serve w ts) ≡ real x (after (tagged x).serve w ts)) (sym whole.told) (full_between w same r.service ready whole.valid))
            (whole_ready (tagged x) (tagged_lawful x core law) w r ready whole) right.1 settled.1
            (subst (λ u. IsPrefixOf now.told ((tagged x).full u now.service)) (after-append (tagged x).serve w r.told (told_all past)) mine) c.2))
        | inr c ↦ part_is w same r.service right.0 taken c.0 (sym whole.told ∙ c.1)
      ]
