-- WHAT A FRAME TELLS OF A SLAVE OF WHICH IT HAS AT MOST ONE DATAGRAM: the mails that its halves accept, and at most one read of mailbox 1.
use Rattle.std.proofs.Common.{◌≡◌, ◌≤◌, ℕ, ◌==◌, Bool, true, false, Option, Some, None, List, [], ◌∷◌, ◌++◌, length, map, refl, sym, ap, ◌∙◌, subst, append-nil, arith}
use Rattle.std.specs.Prelude.{if◌then◌else◌, ⊤}
use Rattle.few_replies.specs.of_life_model.Own.{own}
use Rattle.few_replies.specs.of_link_mails.Body.{Body}
use Rattle.few_replies.specs.of_link_model.Frames.{Ask, Gram, all_accepted, halves_accept, halves_answered}
use Rattle.few_replies.specs.of_link_model.Link.{Halves}
use Rattle.few_replies.specs.of_link_model.Mails.{LinkMail, is_repeat, news}
use Rattle.few_replies.specs.of_link_model.Segment.{RingFate}
use Rattle.few_replies.specs.of_segment_model.Record.{Kept, News, all_told, back_news, found_news, frame_news, gram_news, is_for, last_heard, mails_heard, without_empty}
use Rattle.few_replies.specs.of_segment_model.Slaves.{Datagram, Found, grams}
use Rattle.run_frames.specs.of_master_side.Passing.{news_back}
use Rattle.run_frames.proofs.of_master_tour.Unders.{SameAim}
use Rattle.few_replies.proofs.Passings.{counted_same}

abbrev Grams : Type 0
Grams = List (Datagram Body)

-- no mail was heard by it, and mailbox 1 wasn't read empty
abbrev pub IsStill : List (News Body) → Type 0
IsStill [] = ⊤
IsStill (News.Told m ∷ ns) = IsStill ns
IsStill (News.Written ∷ ns) = IsStill ns
IsStill (News.Heard m ∷ ns) = ⊥
IsStill (News.NothingRead ∷ ns) = ⊥
IsStill (News.BoxFull full ∷ ns) = IsStill ns
IsStill (News.Status state refused ∷ ns) = IsStill ns

-- at most once
abbrev pub IsBrief : List (News Body) → Type 0
IsBrief [] = ⊤
IsBrief (News.Told m ∷ ns) = IsBrief ns
IsBrief (News.Written ∷ ns) = IsBrief ns
IsBrief (News.Heard m ∷ ns) = IsStill ns
IsBrief (News.NothingRead ∷ ns) = IsStill ns
IsBrief (News.BoxFull full ∷ ns) = IsBrief ns
IsBrief (News.Status state refused ∷ ns) = IsBrief ns

still_brief : (ns : List (News Body)) → IsStill ns → IsBrief ns
still_brief [] s = tt
still_brief (News.Told m ∷ ns) s = still_brief ns s
still_brief (News.Written ∷ ns) s = still_brief ns s
still_brief (News.Heard m ∷ ns) s = absurd s
still_brief (News.NothingRead ∷ ns) s = absurd s
still_brief (News.BoxFull full ∷ ns) s = still_brief ns s
still_brief (News.Status state refused ∷ ns) s = still_brief ns s

pub still_heard : (ns : List (News Body)) → IsStill ns → mails_heard ns ≡ []
still_heard [] s = refl
still_heard (News.Told m ∷ ns) s = still_heard ns s
still_heard (News.Written ∷ ns) s = still_heard ns s
still_heard (News.Heard m ∷ ns) s = absurd s
still_heard (News.NothingRead ∷ ns) s = absurd s
still_heard (News.BoxFull full ∷ ns) s = still_heard ns s
still_heard (News.Status state refused ∷ ns) s = still_heard ns s

-- without an empty read
less_still : (ns : List (News Body)) → IsStill ns → IsStill (without_empty ns)
less_still [] s = tt
less_still (News.Told m ∷ ns) s = less_still ns s
less_still (News.Written ∷ ns) s = less_still ns s
less_still (News.Heard m ∷ ns) s = absurd s
less_still (News.NothingRead ∷ ns) s = absurd s
less_still (News.BoxFull full ∷ ns) s = less_still ns s
less_still (News.Status state refused ∷ ns) s = less_still ns s

less_brief : (ns : List (News Body)) → IsBrief ns → IsBrief (without_empty ns)
less_brief [] s = tt
less_brief (News.Told m ∷ ns) s = less_brief ns s
less_brief (News.Written ∷ ns) s = less_brief ns s
less_brief (News.Heard m ∷ ns) s = less_still ns s
less_brief (News.NothingRead ∷ ns) s = still_brief (without_empty ns) (less_still ns s)
less_brief (News.BoxFull full ∷ ns) s = less_brief ns s
less_brief (News.Status state refused ∷ ns) s = less_brief ns s

-- news of just these mails
abbrev pub Brings : List (News Body) → List Body → Type 0
Brings ns ms = IsBrief ns × (mails_heard ns ≡ ms)

counted_brings : (counts : Bool) (ns : List (News Body)) (ms : List Body) → Brings ns ms → Brings (if counts then ns else without_empty ns) ms
counted_brings true ns ms b = b
counted_brings false ns ms b = (less_brief ns b.0, (counted_same false ns).heard ∙ b.1)

-- behind mails that were sent
pub told_brings : (ts : List Body) (ns : List (News Body)) (ms : List Body) → Brings ns ms → Brings (map (λ m. News.Told m) ts ++ ns) ms
told_brings [] ns ms b = b
told_brings (t ∷ ts) ns ms b = told_brings ts ns ms b

-- ONE DATAGRAM
still_found : (here none : Bool) (found : Option Found) → IsStill (if here then (if none then [] else found_news found) else [])
still_found true true found = tt
still_found true false None = tt
still_found true false (Some (Found.State state refused)) = tt
still_found true false (Some (Found.Full full)) = tt
still_found false none found = tt

still_brings : (ns : List (News Body)) → IsStill ns → Brings ns []
still_brings ns s = (still_brief ns s, still_heard ns s)

gram_brings : (h : Halves Body) (ask : Ask Body) (g : Gram Body) (ns : List (News Body)) → IsStill ns → Brings (gram_news h.inn.last ask g ++ ns) (halves_accept h ask g)
gram_brings h (Ask.WriteMail m) g ns s = go (g.counter == 0)
  where
    go : (z : Bool) → Brings ((if z then [] else News.Written ∷ []) ++ ns) []
    go true = still_brings ns s
    go false = still_brings ns s
gram_brings h Ask.ReadMail g ns s = go (g.counter == 0) g.mail
  where
    one : (m : LinkMail Body) (z : Bool) → Brings (map (λ b. News.Heard b) (if z then [] else m.body ∷ []) ++ ns) (if z then [] else m.body ∷ [])
    one m true = still_brings ns s
    one m false = (s, ap (λ l. m.body ∷ l) (still_heard ns s))

    go : (z : Bool) (mail : Option (LinkMail Body)) → Brings ((if z then News.NothingRead ∷ [] else map (λ m. News.Heard m) (news h.inn.last mail)) ++ ns) (news h.inn.last (if z then None else mail))
    go true mail = (s, still_heard ns s)
    go false None = still_brings ns s
    go false (Some m) = one m (is_repeat h.inn.last m)
gram_brings h (Ask.WriteRequest bit) g ns s = still_brings ns s
gram_brings h Ask.ReadAcknowledge g ns s = still_brings ns s
gram_brings h Ask.Other g ns s = still_brings ns s

-- FRAMES
module _ (station : ℕ) where
  pub none_news : (last : ℕ) (ds : Grams) → SameAim station ds → own station ds ≡ [] → back_news station last ds ≡ []
  none_news last [] a e = refl
  none_news last (d ∷ ds) a e = go (is_for station d.address) refl e (λ k. none_news last ds a.1 k)
    where
      go : (z : Bool) → is_for station d.address ≡ z → (if z then d ∷ own station ds else own station ds) ≡ [] → (own station ds ≡ [] → back_news station last ds ≡ []) → back_news station last (d ∷ ds) ≡ []
      go true f k on = absurd (let bad : d ∷ own station ds ≡ [] = k in cc)
      go false f k on =
          (λ i. ((if (sym a.0 ∙ f) i then gram_news last d.gram.ask d.gram else []) ++ (if f i then (if d.counter == 0 then [] else found_news d.found) else [])) ++ back_news station (if (sym a.0 ∙ f) i then last_heard last d.gram.ask d.gram else last) ds)
          ∙ on k

  few_bring : (h : Halves Body) (ds : Grams) → SameAim station ds → length (own station ds) ≤ 1 → Brings (back_news station h.inn.last ds) (all_accepted station h (grams (own station ds)))
  few_bring h [] a l = (tt, refl)
  few_bring h (d ∷ ds) a l = go (is_for station d.address) refl l (λ k. few_bring h ds a.1 k)
    where
      empty : (es : Grams) → length es ≤ 0 → es ≡ []
      empty [] m = refl
      empty (e ∷ es) m = absurd (omega (arith, m))

      -- with these answers
      told : Bool → Bool → List (News Body)
      told b z = ((if b then gram_news h.inn.last d.gram.ask d.gram else []) ++ (if z then (if d.counter == 0 then [] else found_news d.found) else [])) ++ back_news station (if b then last_heard h.inn.last d.gram.ask d.gram else h.inn.last) ds

      heard : Bool → Grams → List Body
      heard b es = (if b then halves_accept h d.gram.ask d.gram else []) ++ all_accepted station (if b then halves_answered h d.gram.ask d.gram else h) (grams es)

      go : (z : Bool) → is_for station d.address ≡ z → length (if z then d ∷ own station ds else own station ds) ≤ 1 → (length (own station ds) ≤ 1 → Brings (back_news station h.inn.last ds) (all_accepted station h (grams (own station ds)))) →
          Brings (back_news station h.inn.last (d ∷ ds)) (all_accepted station h (grams (own station (d ∷ ds))))
      go true f k on =
          let none : own station ds ≡ [] = empty (own station ds) (omega (arith, k)) in
          let rest = none_news (last_heard h.inn.last d.gram.ask d.gram) ds a.1 none in
          let one : Brings (told true true) (heard true (own station ds)) =
          subst (λ ns. Brings ns (heard true (own station ds))) (sym (ap (λ l. (gram_news h.inn.last d.gram.ask d.gram ++ (if d.counter == 0 then [] else found_news d.found)) ++ l) rest ∙ append-nil (gram_news h.inn.last d.gram.ask d.gram ++ (if d.counter == 0 then [] else found_news d.found))))
          (subst (Brings (gram_news h.inn.last d.gram.ask d.gram ++ (if d.counter == 0 then [] else found_news d.found))) (sym (ap (heard true) none ∙ append-nil (halves_accept h d.gram.ask d.gram)))
          (gram_brings h d.gram.ask d.gram (if d.counter == 0 then [] else found_news d.found) (still_found true (d.counter == 0) d.found))) in
          subst (Brings (told (d.gram.station == station) (is_for station d.address))) (sym (ap (λ (z : Bool). all_accepted station h (grams (if z then d ∷ own station ds else own station ds))) f ∙ ap (λ b. heard b (own station ds)) (sym a.0 ∙ f)))
          (subst (λ ns. Brings ns (heard true (own station ds))) (λ i. told (sym (sym a.0 ∙ f) i) (sym f i)) one)
      go false f k on =
          subst (Brings (told (d.gram.station == station) (is_for station d.address))) (sym (ap (λ (z : Bool). all_accepted station h (grams (if z then d ∷ own station ds else own station ds))) f))
          (subst (λ ns. Brings ns (all_accepted station h (grams (own station ds)))) (λ i. told (sym (sym a.0 ∙ f) i) (sym f i)) (on k))

  pub frame_brings : (kept : Kept) (counts : Bool) (h : Halves Body) (ds : Grams) → h.inn.last ≡ kept.heard → SameAim station ds → length (own station ds) ≤ 1 → Brings (news_back station kept counts ds) (all_accepted station h (grams (own station ds)))
  frame_brings kept counts h ds e a l =
      counted_brings counts (frame_news station kept (record { sent = ds; fate = RingFate.Back; back = ds })) (all_accepted station h (grams (own station ds)))
      (told_brings (all_told station kept.told (grams ds)) (back_news station kept.heard ds) (all_accepted station h (grams (own station ds)))
      (subst (λ n. Brings (back_news station n ds) (all_accepted station h (grams (own station ds)))) e (few_bring h ds a l)))
