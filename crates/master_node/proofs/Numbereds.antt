-- THE NUMBER OF THE OLDEST MAIL goes on with the posts.
use Rattle.std.proofs.Common.{◌≡◌, ◌≤◌, ◌<◌, ◌-◌, ◌%◌, ◌+◌, ℕ, zero, suc, List, [], ◌∷◌, ◌++◌, refl, sym, ap, ◌∙◌, subst, arith, length, get_or, set}
use Rattle.std.specs.Prelude.{All, map}
use Rattle.std.proofs.lemmas.List.Elements.{All-head, All-tail}
use Rattle.life_runs.specs.Led.{Leads}
use Rattle.life_runs.specs.of_frame_view.Shares.{AllBoth, AllThree}
use Rattle.life_runs.specs.of_mailbox_mail.declared.mail.Mail.{Mail}
use Rattle.life_runs.specs.of_master_tour.Walks.{EachPair, StepsAt}
use Rattle.life_runs.proofs.of_master_tour.Walks.{each_same, steps_set}
use Rattle.life_runs.specs.Served.{Keyed, Serves, all_serve, asked_at}
use Rattle.master_node.specs.Appends.{AppendsMail}
use Rattle.master_node.specs.Numbered.{IsNumbered, StaysNumbered}
use Rattle.master_node.specs.Shows.{WaitsNone}
use Rattle.master_node.specs.declared.post.Asked.{Asked}
use Rattle.master_node.specs.declared.post.Post.{Post}
use Rattle.master_node.proofs.Lists.{both_each, both_map, steps_each}

pub numbers_same : (p q : Post) → q.oldest ≡ p.oldest → q.mails.items ≡ p.mails.items → StaysNumbered p q
numbers_same p q o m = λ asked h. record {
  few = subst (λ z. length z ≤ asked) (sym m) h.few;
  oldest = o ∙ h.oldest ∙ ap (λ z. (asked - length z) % 4294967296) (sym m);
}

-- one post is put back
pub numbers_set : (ps : List Post) (place : ℕ) (v w : Post) → place < length ps → v ≡ get_or ps place v → StaysNumbered v w → EachPair (λ p q. StaysNumbered p q) ps (set ps place w)
numbers_set ps place v w l e h = steps_each (λ p q. StaysNumbered p q) (λ p q. StaysNumbered p q) place ps (set ps place w) (λ p asked k. k) (λ p q k. k) (steps_set (λ p q. StaysNumbered p q) place ps v w l e h)

pub numbers_stay : (ps qs : List Post) → qs ≡ ps → EachPair (λ p q. StaysNumbered p q) ps qs
numbers_stay ps qs e = subst (λ z. EachPair (λ p q. StaysNumbered p q) ps z) (sym e) (each_same (λ p q. StaysNumbered p q) ps (λ p asked k. k))

-- ONE MORE WAS ASKED, and waits behind the rest
more_long : {T : Type 0} (xs : List T) (x : T) → length (xs ++ x ∷ []) ≡ length xs + 1
more_long [] x = refl
more_long (y ∷ xs) x = let e = more_long xs x in omega (arith, e)

numbers_more : (asked : List Keyed) (k : Keyed) (a : Asked) (p q : Post) → q.mails.items ≡ p.mails.items ++ a ∷ [] → q.oldest ≡ p.oldest → IsNumbered (length asked) p → IsNumbered (length (asked ++ k ∷ [])) q
numbers_more asked k a p q m o h =
    let long = more_long asked k in
    let many : length q.mails.items ≡ length p.mails.items + 1 = ap length m ∙ more_long p.mails.items a in
    let l = h.few in
    let left : length asked - length p.mails.items ≡ length (asked ++ k ∷ []) - length q.mails.items = omega (arith, l, long, many) in
    record { few = omega (arith, l, long, many); oldest = o ∙ h.oldest ∙ ap (λ z. z % 4294967296) left }

abbrev NumberedAll : List Serves → List Post → Type 0
NumberedAll ws ps = AllBoth (λ w p. IsNumbered (length w.asked) p) ws ps

module _ (key : ℕ) (mail : Mail) (k : Keyed) where
  pub numbers_asked : (place : ℕ) (ws : List Serves) (ps qs : List Post) → StepsAt (λ p q. AppendsMail key mail p.mails.items q.mails.items × (q.oldest ≡ p.oldest)) place ps qs → NumberedAll ws ps → NumberedAll (asked_at place k ws) qs
  numbers_asked zero ws [] qs e h = absurd e
  numbers_asked (suc place) ws [] qs e h = absurd e
  numbers_asked zero ws (p ∷ ps) [] e h = absurd e
  numbers_asked (suc place) ws (p ∷ ps) [] e h = absurd e
  numbers_asked zero [] (p ∷ ps) (q ∷ qs) e h = absurd h
  numbers_asked (suc place) [] (p ∷ ps) (q ∷ qs) e h = absurd h
  numbers_asked zero (w ∷ ws) (p ∷ ps) (q ∷ qs) e h =
      (numbers_more w.asked k e.0.0.asked p q e.0.0.waits e.0.1 h.0, subst (λ z. NumberedAll ws z) (sym e.1) h.1)
  numbers_asked (suc place) (w ∷ ws) (p ∷ ps) (q ∷ qs) e h =
      (subst (λ z. IsNumbered (length w.asked) z) (sym e.0) h.0, numbers_asked place ws ps qs e.1 h.1)

-- BEHIND A FRAME all that were asked are the same
pub numbers_behind : {V W : Type 0} (f : V → W) (g : V → ℕ) (h : W → ℕ) → ((v : V) → h (f v) ≡ g v) → (vs : List V) (ps qs : List Post) → AllBoth (λ v p. IsNumbered (g v) p) vs ps → EachPair (λ p q. StaysNumbered p q) ps qs → AllBoth (λ w q. IsNumbered (h w) q) (map f vs) qs
numbers_behind f g h e vs ps qs a k =
    both_map f (λ v q. IsNumbered (g v) q) (λ w q. IsNumbered (h w) q) (λ v q n. subst (λ z. IsNumbered z q) (sym (e v)) n) vs qs
    (both_each (λ v p. IsNumbered (g v) p) (λ p q. StaysNumbered p q) (λ v q. IsNumbered (g v) q) (λ v p q n s. s (g v) n) vs ps qs a k)

-- BEFORE THE FIRST FRAME none was asked
numbers_none : (p : Post) → WaitsNone p → p.oldest ≡ 0 → IsNumbered 0 p
numbers_none p w o =
    let none : length p.mails.items ≡ 0 = ap length w in
    record { few = omega (arith, none); oldest = o ∙ ap (λ z. z % 4294967296) (let e : 0 ≡ 0 - length p.mails.items = omega arith in e) }

module _ {S : Type 0} (P : Serves → Post → S → Type 0) where
  pub numbers_first : (paces : List ℕ) (as' : List Leads) (ps : List Post) (ss : List S) → AllThree P (all_serve paces as') ps ss → All WaitsNone ps → All (λ p. p.oldest ≡ 0) ps → NumberedAll (all_serve paces as') ps
  numbers_first [] [] [] ss h w o = tt
  numbers_first (pace ∷ paces) [] [] ss h w o = tt
  numbers_first [] [] (p ∷ ps) [] h w o = absurd h
  numbers_first (pace ∷ paces) [] (p ∷ ps) [] h w o = absurd h
  numbers_first [] [] (p ∷ ps) (s ∷ ss) h w o = absurd h
  numbers_first (pace ∷ paces) [] (p ∷ ps) (s ∷ ss) h w o = absurd h
  numbers_first [] (a ∷ as') [] [] h w o = absurd h
  numbers_first (pace ∷ paces) (a ∷ as') [] [] h w o = absurd h
  numbers_first [] (a ∷ as') [] (s ∷ ss) h w o = absurd h
  numbers_first (pace ∷ paces) (a ∷ as') [] (s ∷ ss) h w o = absurd h
  numbers_first [] (a ∷ as') (p ∷ ps) [] h w o = absurd h
  numbers_first (pace ∷ paces) (a ∷ as') (p ∷ ps) [] h w o = absurd h
  numbers_first [] (a ∷ as') (p ∷ ps) (s ∷ ss) h w o =
      (numbers_none p (All-head WaitsNone p ps w) (All-head (λ z. z.oldest ≡ 0) p ps o), numbers_first [] as' ps ss h.1 (All-tail WaitsNone p ps w) (All-tail (λ z. z.oldest ≡ 0) p ps o))
  numbers_first (pace ∷ paces) (a ∷ as') (p ∷ ps) (s ∷ ss) h w o =
      (numbers_none p (All-head WaitsNone p ps w) (All-head (λ z. z.oldest ≡ 0) p ps o), numbers_first paces as' ps ss h.1 (All-tail WaitsNone p ps w) (All-tail (λ z. z.oldest ≡ 0) p ps o))
