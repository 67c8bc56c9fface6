-- What a master does of frames doesn't depend on what is in its mails, but for its client.
use Rattle.std.proofs.Common.{◌≡◌, ℕ, ◌==◌, ◌&&◌, ◌||◌, Bool, true, false, not, is_none, is_some, Option, None, Some, option_map, List, [], ◌∷◌, ◌++◌, map, drop, length, refl, ap, ap₂, sym, ◌∙◌, subst, if◌then◌else◌}
use Rattle.std.proofs.lemmas.List.{length-map, drop-map}
use Rattle.slave_parts.specs.of_exchange_model.Exchange.{Speech, plain}
use Rattle.slave_parts.specs.of_exchange_model.Rows.{Row, begun, row_heard, row_told, answer_after, left}
use Rattle.slave_parts.specs.of_link_model.Mails.{LinkMail, is_repeat, news, seen}
use Rattle.slave_parts.specs.of_link_model.Master.{out_hold}
use Rattle.slave_parts.specs.of_link_model.Link.{Halves}
use Rattle.slave_parts.specs.of_link_model.Frames.{Ask, Gram, mail_back, halves_answered, halves_accept, halves_lost, halves_after, all_accepted, halves_without}
use Rattle.slave_parts.specs.of_segment_model.Slaves.{Datagram, Found, grams}
use Rattle.slave_parts.specs.of_segment_model.Record.{Frame, News, Kept, is_for, mail_told, last_told, all_told, told_behind, gram_news, last_heard, found_news, datagram_news, back_news, heard_behind, frame_news, kept_after, news_each}
use Rattle.slave_parts.specs.of_segment_model.Seats.{Side, Choice, is_none_left, is_over, side_begins, first_left, next_mail, side_holds, side_next, is_write, writes, side_back, side_lost}
use Rattle.slave_parts.specs.of_serving_model.Erasing.{box_as, ask_as, gram_as, datagram_as, all_as}
use Rattle.few_replies.specs.Erased.{halves_as, row_seen, side_seen, frame_as, news_as, all_news_as, AreOne, PlanOne, EndOne, OfRow}

module _ {N M : Type 0} (f : N → M) where
  abbrev grams_as : List (Gram N) → List (Gram M)
  grams_as gs = map (λ g. gram_as f g) gs

  grams_of : (ds : List (Datagram N)) → grams (all_as f ds) ≡ grams_as (grams ds)
  grams_of [] = refl
  grams_of (d ∷ ds) = ap (λ l. gram_as f d.gram ∷ l) (grams_of ds)

  news_of : (last : ℕ) (box : Option (LinkMail N)) → map f (news last box) ≡ news last (box_as f box)
  news_of last None = refl
  news_of last (Some m) = go (is_repeat last m)
    where
      go : (b : Bool) → map f (if b then [] else m.body ∷ []) ≡ (if b then [] else f m.body ∷ [])
      go true = refl
      go false = refl

  seen_of : (last : ℕ) (box : Option (LinkMail N)) → seen last box ≡ seen last (box_as f box)
  seen_of last None = refl
  seen_of last (Some m) = refl

  back_of : (g : Gram N) → box_as f (mail_back g) ≡ mail_back (gram_as f g)
  back_of g = go (g.counter == 0)
    where
      go : (b : Bool) → box_as f (if b then None else g.mail) ≡ (if b then None else box_as f g.mail)
      go true = refl
      go false = refl

  -- THE HALVES behind a datagram, and a frame
  answered_of : (h : Halves N) (a : Ask N) (g : Gram N) → halves_as f (halves_answered h a g) ≡ halves_answered (halves_as f h) (ask_as f a) (gram_as f g)
  answered_of h (Ask.WriteMail m) g = go (g.counter == 0)
    where
      go : (b : Bool) → halves_as f (record h { out = if b then h.out else record h.out { holding = None } }) ≡ record (halves_as f h) { out = if b then (halves_as f h).out else record (halves_as f h).out { holding = None } }
      go true = refl
      go false = refl
  answered_of h Ask.ReadMail g = ap (λ n. record (halves_as f h) { inn = record h.inn { last = n; state = Rattle.slave_parts.specs.of_link_model.Master.InState.Clear } }) (seen_of h.inn.last (mail_back g) ∙ ap (seen h.inn.last) (back_of g))
  answered_of h (Ask.WriteRequest bit) g = refl
  answered_of h Ask.ReadAcknowledge g = refl
  answered_of h Ask.Other g = refl

  accept_of : (h : Halves N) (a : Ask N) (g : Gram N) → map f (halves_accept h a g) ≡ halves_accept (halves_as f h) (ask_as f a) (gram_as f g)
  accept_of h (Ask.WriteMail m) g = refl
  accept_of h Ask.ReadMail g = news_of h.inn.last (mail_back g) ∙ ap (news h.inn.last) (back_of g)
  accept_of h (Ask.WriteRequest bit) g = refl
  accept_of h Ask.ReadAcknowledge g = refl
  accept_of h Ask.Other g = refl

  lost_of : (h : Halves N) (a : Ask N) → halves_as f (halves_lost h a) ≡ halves_lost (halves_as f h) (ask_as f a)
  lost_of h (Ask.WriteMail m) = refl
  lost_of h Ask.ReadMail = refl
  lost_of h (Ask.WriteRequest bit) = refl
  lost_of h Ask.ReadAcknowledge = refl
  lost_of h Ask.Other = refl

  after_of : (station : ℕ) (h : Halves N) (gs : List (Gram N)) → halves_as f (halves_after station h gs) ≡ halves_after station (halves_as f h) (grams_as gs)
  after_of station h [] = refl
  after_of station h (g ∷ gs) =
      after_of station (if g.station == station then halves_answered h g.ask g else h) gs ∙ ap (λ k. halves_after station k (grams_as gs)) (go (g.station == station))
    where
      go : (b : Bool) → halves_as f (if b then halves_answered h g.ask g else h) ≡ (if b then halves_answered (halves_as f h) (ask_as f g.ask) (gram_as f g) else halves_as f h)
      go true = answered_of h g.ask g
      go false = refl

  map_append : (xs ys : List N) → map f (xs ++ ys) ≡ map f xs ++ map f ys
  map_append [] ys = refl
  map_append (x ∷ xs) ys = ap (λ l. f x ∷ l) (map_append xs ys)

  accepted_of : (station : ℕ) (h : Halves N) (gs : List (Gram N)) → map f (all_accepted station h gs) ≡ all_accepted station (halves_as f h) (grams_as gs)
  accepted_of station h [] = refl
  accepted_of station h (g ∷ gs) =
      map_append (if g.station == station then halves_accept h g.ask g else []) (all_accepted station (if g.station == station then halves_answered h g.ask g else h) gs)
      ∙ ap₂ (λ (a b : List M). a ++ b) (one (g.station == station))
      (accepted_of station (if g.station == station then halves_answered h g.ask g else h) gs ∙ ap (λ k. all_accepted station k (grams_as gs)) (two (g.station == station)))
    where
      one : (b : Bool) → map f (if b then halves_accept h g.ask g else []) ≡ (if b then halves_accept (halves_as f h) (ask_as f g.ask) (gram_as f g) else [])
      one true = accept_of h g.ask g
      one false = refl

      two : (b : Bool) → halves_as f (if b then halves_answered h g.ask g else h) ≡ (if b then halves_answered (halves_as f h) (ask_as f g.ask) (gram_as f g) else halves_as f h)
      two true = answered_of h g.ask g
      two false = refl

  pub accepted_as : (station : ℕ) (h : Halves N) (ds : List (Datagram N)) → map f (all_accepted station h (grams ds)) ≡ all_accepted station (halves_as f h) (grams (all_as f ds))
  accepted_as station h ds = accepted_of station h (grams ds) ∙ ap (all_accepted station (halves_as f h)) (sym (grams_of ds))

  without_of : (station : ℕ) (h : Halves N) (gs : List (Gram N)) → halves_as f (halves_without station h gs) ≡ halves_without station (halves_as f h) (grams_as gs)
  without_of station h [] = refl
  without_of station h (g ∷ gs) =
      without_of station (if g.station == station then halves_lost h g.ask else h) gs ∙ ap (λ k. halves_without station k (grams_as gs)) (go (g.station == station))
    where
      go : (b : Bool) → halves_as f (if b then halves_lost h g.ask else h) ≡ (if b then halves_lost (halves_as f h) (ask_as f g.ask) else halves_as f h)
      go true = lost_of h g.ask
      go false = refl

  is_write_of : (a : Ask N) → is_write a ≡ is_write (ask_as f a)
  is_write_of (Ask.WriteMail m) = refl
  is_write_of Ask.ReadMail = refl
  is_write_of (Ask.WriteRequest bit) = refl
  is_write_of Ask.ReadAcknowledge = refl
  is_write_of Ask.Other = refl

  writes_of : (station : ℕ) (gs : List (Gram N)) → writes station gs ≡ writes station (grams_as gs)
  writes_of station [] = refl
  writes_of station (g ∷ gs) = ap₂ (λ (a b : Bool). if g.station == station then a || b else b) (is_write_of g.ask) (writes_of station gs)

  -- A SIDE behind a lost frame
  pub lost_side : {P Q S R : Type 0} (g : P → Q) (h : S → R) (station : ℕ) (sent : List (Datagram N)) (d : Side N P S) → side_seen f g h (side_lost station sent d) ≡ side_lost station (all_as f sent) (side_seen f g h d)
  lost_side g h station sent d =
      ap₂ (λ (k : Halves M) (b : Bool). record (side_seen f g h d) { halves = k; fresh = d.fresh && not b }) (without_of station d.halves (grams sent) ∙ ap (halves_without station (halves_as f d.halves)) (sym (grams_of sent)))
      (writes_of station (grams sent) ∙ ap (writes station) (sym (grams_of sent)))

  -- and behind one that came back, where both clients end the row in hand alike
  module _ {P Q S R : Type 0} (g : P → Q) (h : S → R) (y : Speech N P S) (x : Speech M Q R) where
    abbrev row_of : Row N P S → Row M Q R
    row_of r = row_seen f g h r

    abbrev side_of : Side N P S → Side M Q R
    side_of d = side_seen f g h d

    abbrev answer_of : Option (S × ℕ) → Option (R × ℕ)
    answer_of a = option_map (λ k. (h k.0, k.1)) a

    answered_as : (frame : ℕ) (a : Option (S × ℕ)) (found : Option S) → answer_of (answer_after frame a found) ≡ answer_after frame (answer_of a) (option_map h found)
    answered_as frame (Some a) found = refl
    answered_as frame None None = refl
    answered_as frame None (Some r) = refl

    -- an answer stays; so the clients need to end a row alike only as long as it has none
    answered_so : (frame : ℕ) (a : Option (S × ℕ)) (found : Option S) (other : Option R) → (a ≡ None → option_map h found ≡ other) → answer_of (answer_after frame a found) ≡ answer_after frame (answer_of a) other
    answered_so frame (Some a) found other same = refl
    answered_so frame None found other same = answered_as frame None found ∙ ap (λ o. answer_after frame (let none : Option (R × ℕ) = None in none) o) (same refl)

    pub back_side : (frame station : ℕ) (back : List (Datagram N)) (d : Side N P S) → OfRow (λ r. r.answer ≡ None → EndOne f g h y x r.service (r.heard ++ all_accepted station d.halves (grams back))) d.now →
        side_of (side_back y frame station back d) ≡ side_back x frame station (all_as f back) (side_of d)
    back_side frame station back d same =
        let ms = accepted_as station d.halves back in
        let halves = after_of station d.halves (grams back) ∙ ap (halves_after station (halves_as f d.halves)) (sym (grams_of back)) in
        let wrote = writes_of station (grams back) ∙ ap (writes station) (sym (grams_of back)) in
        let now = row d.now same ∙ ap (λ l. option_map (λ r. row_heard x frame l r) (option_map row_of d.now)) ms in
        λ i. record { halves = halves i; fresh = d.fresh && not (wrote i); past = map row_of d.past; now = now i }
      where
        row : (now : Option (Row N P S)) → OfRow (λ r. r.answer ≡ None → EndOne f g h y x r.service (r.heard ++ all_accepted station d.halves (grams back))) now →
            option_map row_of (option_map (λ r. row_heard y frame (all_accepted station d.halves (grams back)) r) now) ≡ option_map (λ r. row_heard x frame (map f (all_accepted station d.halves (grams back))) r) (option_map row_of now)
        row None same = refl
        row (Some r) same =
            let hs = all_accepted station d.halves (grams back) in
            let heard : map f (r.heard ++ hs) ≡ map f r.heard ++ map f hs = map_append r.heard hs in
            let answer = answered_so frame r.answer (y.ends r.service (plain y.emission (r.heard ++ hs))) (x.ends (g r.service) (plain x.emission (map f r.heard ++ map f hs)))
            (λ none. same none ∙ ap (λ l. x.ends (g r.service) (plain x.emission l)) heard) in
            λ i. Some (record { service = g r.service; frame = r.frame; told = map f r.told; heard = heard i; answer = answer i })

    -- A SIDE before a frame, where both clients plan alike
    none_left_of : (ms : List N) → is_none_left ms ≡ is_none_left (map f ms)
    none_left_of [] = refl
    none_left_of (m ∷ ms) = refl

    pub left_of : (r : Row N P S) → PlanOne f g h y x r.service r.heard → map f (left y r) ≡ left x (row_of r)
    left_of r plan =
        sym (drop-map f (length r.told) (y.planned r.service (plain y.emission r.heard))) ∙ ap₂ (λ (n : ℕ) (l : List M). drop n l) (sym (length-map r.told f)) plan

    pub holding_of : (box : Option (LinkMail N)) → is_none box ≡ is_none (box_as f box)
    holding_of None = refl
    holding_of (Some m) = refl

    answer_is : (a : Option (S × ℕ)) → is_some a ≡ is_some (answer_of a)
    answer_is None = refl
    answer_is (Some a) = refl

    none_is : (a : Option (S × ℕ)) → is_none a ≡ is_none (answer_of a)
    none_is None = refl
    none_is (Some a) = refl

    -- nothing is left of a row for one where nothing is for the other
    pub none_of : (r : Row N P S) → PlanOne f g h y x r.service r.heard → is_none_left (left y r) ≡ is_none_left (left x (row_of r))
    none_of r plan = none_left_of (left y r) ∙ ap is_none_left (left_of r plan)

    over_of : AreOne f g h y x → (holding : Option (LinkMail N)) (fresh : Bool) (r : Row N P S) → PlanOne f g h y x r.service r.heard → is_over y holding fresh r ≡ is_over x (box_as f holding) fresh (row_of r)
    over_of one holding fresh r plan =
        ap₂ (λ (a b : Bool). a && b) (none_of r plan)
        (λ i. if one.handed r.service i && none_is r.answer i then holding_of holding i else answer_is r.answer i && not fresh)

    past_of : (rs : List (Row N P S)) (r : Row N P S) → map row_of (rs ++ r ∷ []) ≡ map row_of rs ++ row_of r ∷ []
    past_of [] r = refl
    past_of (k ∷ rs) r = ap (λ l. row_of k ∷ l) (past_of rs r)

    -- clients that are one let the same come into hand
    begins_of : AreOne f g h y x → (frame : ℕ) (d : Side N P S) (now : Option (Row N P S)) (wish : Option P) → OfRow (λ r. PlanOne f g h y x r.service r.heard) now →
        side_of (side_begins y frame d now wish) ≡ side_begins x frame (side_of d) (option_map row_of now) (option_map g wish)
    begins_of one frame d None None plan = refl
    begins_of one frame d (Some r) None plan = refl
    begins_of one frame d None (Some q) plan = go (y.valid q) ∙ ap (λ b. if b then record (side_of d) { now = Some (begun (g q) frame) } else side_of d) (one.valid q)
      where
        go : (b : Bool) → side_of (if b then record d { now = Some (begun q frame) } else d) ≡ (if b then record (side_of d) { now = Some (begun (g q) frame) } else side_of d)
        go true = refl
        go false = refl
    begins_of one frame d (Some r) (Some q) plan =
        go (y.valid q && is_over y d.halves.out.holding d.fresh r)
        ∙ ap₂ (λ (a b : Bool). if a && b then record (side_of d) { past = map row_of d.past ++ row_of r ∷ []; now = Some (begun (g q) frame) } else side_of d) (one.valid q) (over_of one d.halves.out.holding d.fresh r plan)
      where
        go : (b : Bool) → side_of (if b then record d { past = d.past ++ r ∷ []; now = Some (begun q frame) } else d)
            ≡ (if b then record (side_of d) { past = map row_of d.past ++ row_of r ∷ []; now = Some (begun (g q) frame) } else side_of d)
        go true = ap (λ l. record (side_of d) { past = l; now = Some (begun (g q) frame) }) (past_of d.past r)
        go false = refl

    first_of : (ms : List N) → map f (first_left ms) ≡ first_left (map f ms)
    first_of [] = refl
    first_of (m ∷ ms) = refl

    next_of : (now : Option (Row N P S)) (holding : Option (LinkMail N)) (hold : Bool) → OfRow (λ r. PlanOne f g h y x r.service r.heard) now →
        map f (next_mail y now holding hold) ≡ next_mail x (option_map row_of now) (box_as f holding) hold
    next_of now holding false plan = refl
    next_of None holding true plan = refl
    next_of (Some r) (Some m) true plan = refl
    next_of (Some r) None true plan = first_of (left y r) ∙ ap first_left (left_of r plan)

    holds_of : (d : Side N P S) (ms : List N) → side_of (side_holds d ms) ≡ side_holds (side_of d) (map f ms)
    holds_of d [] = refl
    holds_of d (m ∷ ms) = ap (λ k. record { halves = halves_as f (record d.halves { out = out_hold d.halves.out m }); fresh = true; past = map row_of d.past; now = k }) (go d.now)
      where
        go : (now : Option (Row N P S)) → option_map row_of (option_map (λ r. row_told m r) now) ≡ option_map (λ r. row_told (f m) r) (option_map row_of now)
        go None = refl
        go (Some r) = ap (λ l. Some (record { service = g r.service; frame = r.frame; told = l; heard = map f r.heard; answer = answer_of r.answer })) (map_append r.told (m ∷ []))

    -- A MAIL IS TAKEN UP of the row in hand, which both clients plan alike
    pub takes_up : (d : Side N P S) (hold : Bool) → OfRow (λ r. PlanOne f g h y x r.service r.heard) d.now →
        side_of (side_holds d (next_mail y d.now d.halves.out.holding hold)) ≡ side_holds (side_of d) (next_mail x (side_of d).now (side_of d).halves.out.holding hold)
    takes_up d hold plan = holds_of d (next_mail y d.now d.halves.out.holding hold) ∙ ap (side_holds (side_of d)) (next_of d.now d.halves.out.holding hold plan)

    -- the row that is in hand then
    begun_plans : (frame : ℕ) (d : Side N P S) (now : Option (Row N P S)) (wish : Option P) → d.now ≡ now → OfRow (λ r. PlanOne f g h y x r.service r.heard) now → ((q : P) → PlanOne f g h y x q []) →
        OfRow (λ r. PlanOne f g h y x r.service r.heard) (side_begins y frame d now wish).now
    begun_plans frame d None None is plan new = sub d.now is
      where
        sub : (now : Option (Row N P S)) → now ≡ None → OfRow (λ r. PlanOne f g h y x r.service r.heard) now
        sub None e = tt
        sub (Some r) e = absurd (let clash : Some r ≡ None = e in cc)
    begun_plans frame d (Some r) None is plan new = subst (OfRow (λ k. PlanOne f g h y x k.service k.heard)) (sym is) plan
    begun_plans frame d None (Some q) is plan new = go (y.valid q)
      where
        none : OfRow (λ r. PlanOne f g h y x r.service r.heard) d.now
        none = subst (OfRow (λ k. PlanOne f g h y x k.service k.heard)) (sym is) tt

        go : (b : Bool) → OfRow (λ r. PlanOne f g h y x r.service r.heard) (if b then record d { now = Some (begun q frame) } else d).now
        go true = new q
        go false = none
    begun_plans frame d (Some r) (Some q) is plan new = go (y.valid q && is_over y d.halves.out.holding d.fresh r)
      where
        go : (b : Bool) → OfRow (λ k. PlanOne f g h y x k.service k.heard) (if b then record d { past = d.past ++ r ∷ []; now = Some (begun q frame) } else d).now
        go true = new q
        go false = subst (OfRow (λ k. PlanOne f g h y x k.service k.heard)) (sym is) plan

    pub next_side : AreOne f g h y x → ((q : P) → PlanOne f g h y x q []) → (frame : ℕ) (d : Side N P S) (c : Choice P) → OfRow (λ r. PlanOne f g h y x r.service r.heard) d.now →
        side_of (side_next y frame d c) ≡ side_next x frame (side_of d) (record { begin = option_map g c.begin; hold = c.hold })
    next_side one new frame d c plan =
        takes_up (side_begins y frame d d.now c.begin) c.hold (begun_plans frame d d.now c.begin refl plan new)
        ∙ ap (λ (k : Side M Q R). side_holds k (next_mail x k.now k.halves.out.holding c.hold)) (begins_of one frame d d.now c.begin plan)

  -- NEWS
  told_of : (station last : ℕ) (gs : List (Gram N)) → map f (all_told station last gs) ≡ all_told station last (grams_as gs)
  told_of station last [] = refl
  told_of station last (g ∷ gs) =
      map_append (if g.station == station then mail_told last g.ask else []) (all_told station (if g.station == station then last_told last g.ask else last) gs)
      ∙ ap₂ (λ (a b : List M). a ++ b) (one (g.station == station))
      (told_of station (if g.station == station then last_told last g.ask else last) gs ∙ ap (λ n. all_told station (if g.station == station then n else last) (grams_as gs)) (last_of g.ask))
    where
      mail_of : (a : Ask N) → map f (mail_told last a) ≡ mail_told last (ask_as f a)
      mail_of (Ask.WriteMail m) = news_of last (Some m)
      mail_of Ask.ReadMail = refl
      mail_of (Ask.WriteRequest bit) = refl
      mail_of Ask.ReadAcknowledge = refl
      mail_of Ask.Other = refl

      last_of : (a : Ask N) → last_told last a ≡ last_told last (ask_as f a)
      last_of (Ask.WriteMail m) = refl
      last_of Ask.ReadMail = refl
      last_of (Ask.WriteRequest bit) = refl
      last_of Ask.ReadAcknowledge = refl
      last_of Ask.Other = refl

      one : (b : Bool) → map f (if b then mail_told last g.ask else []) ≡ (if b then mail_told last (ask_as f g.ask) else [])
      one true = mail_of g.ask
      one false = refl

  told_last_of : (last : ℕ) (a : Ask N) → last_told last a ≡ last_told last (ask_as f a)
  told_last_of last (Ask.WriteMail m) = refl
  told_last_of last Ask.ReadMail = refl
  told_last_of last (Ask.WriteRequest bit) = refl
  told_last_of last Ask.ReadAcknowledge = refl
  told_last_of last Ask.Other = refl

  told_behind_of : (station last : ℕ) (gs : List (Gram N)) → told_behind station last gs ≡ told_behind station last (grams_as gs)
  told_behind_of station last [] = refl
  told_behind_of station last (g ∷ gs) =
      told_behind_of station (if g.station == station then last_told last g.ask else last) gs ∙ ap (λ n. told_behind station (if g.station == station then n else last) (grams_as gs)) (told_last_of last g.ask)

  heard_news : (ms : List N) → all_news_as f (map (λ m. News.Heard m) ms) ≡ map (λ m. News.Heard m) (map f ms)
  heard_news [] = refl
  heard_news (m ∷ ms) = ap (λ l. News.Heard (f m) ∷ l) (heard_news ms)

  told_news : (ms : List N) → all_news_as f (map (λ m. News.Told m) ms) ≡ map (λ m. News.Told m) (map f ms)
  told_news [] = refl
  told_news (m ∷ ms) = ap (λ l. News.Told (f m) ∷ l) (told_news ms)

  gram_news_of : (last : ℕ) (a : Ask N) (g : Gram N) → all_news_as f (gram_news last a g) ≡ gram_news last (ask_as f a) (gram_as f g)
  gram_news_of last (Ask.WriteMail m) g = go (g.counter == 0)
    where
      go : (b : Bool) → all_news_as f (if b then [] else News.Written ∷ []) ≡ (if b then [] else News.Written ∷ [])
      go true = refl
      go false = refl
  gram_news_of last Ask.ReadMail g = go (g.counter == 0)
    where
      go : (b : Bool) → all_news_as f (if b then News.NothingRead ∷ [] else map (λ m. News.Heard m) (news last g.mail)) ≡ (if b then News.NothingRead ∷ [] else map (λ m. News.Heard m) (news last (box_as f g.mail)))
      go true = refl
      go false = heard_news (news last g.mail) ∙ ap (map (λ m. News.Heard m)) (news_of last g.mail)
  gram_news_of last (Ask.WriteRequest bit) g = refl
  gram_news_of last Ask.ReadAcknowledge g = refl
  gram_news_of last Ask.Other g = refl

  heard_last_of : (last : ℕ) (a : Ask N) (g : Gram N) → last_heard last a g ≡ last_heard last (ask_as f a) (gram_as f g)
  heard_last_of last (Ask.WriteMail m) g = refl
  heard_last_of last Ask.ReadMail g = seen_of last (mail_back g) ∙ ap (seen last) (back_of g)
  heard_last_of last (Ask.WriteRequest bit) g = refl
  heard_last_of last Ask.ReadAcknowledge g = refl
  heard_last_of last Ask.Other g = refl

  news_append : (xs ys : List (News N)) → all_news_as f (xs ++ ys) ≡ all_news_as f xs ++ all_news_as f ys
  news_append [] ys = refl
  news_append (x ∷ xs) ys = ap (λ l. news_as f x ∷ l) (news_append xs ys)

  found_of : (found : Option Found) → all_news_as f (found_news {M = N} found) ≡ found_news found
  found_of None = refl
  found_of (Some (Found.State state refused)) = refl
  found_of (Some (Found.Full full)) = refl

  datagram_of : (station last : ℕ) (d : Datagram N) → all_news_as f (datagram_news station last d) ≡ datagram_news station last (datagram_as f d)
  datagram_of station last d =
      news_append (if d.gram.station == station then gram_news last d.gram.ask d.gram else []) (if is_for station d.address then (if d.counter == 0 then [] else found_news d.found) else [])
      ∙ ap₂ (λ (a b : List (News M)). a ++ b) (one (d.gram.station == station)) (two (is_for station d.address) (d.counter == 0))
    where
      one : (b : Bool) → all_news_as f (if b then gram_news last d.gram.ask d.gram else []) ≡ (if b then gram_news last (ask_as f d.gram.ask) (gram_as f d.gram) else [])
      one true = gram_news_of last d.gram.ask d.gram
      one false = refl

      two : (b c : Bool) → all_news_as f (if b then (if c then [] else found_news {M = N} d.found) else []) ≡ (if b then (if c then [] else found_news d.found) else [])
      two false c = refl
      two true true = refl
      two true false = found_of d.found

  back_news_of : (station last : ℕ) (ds : List (Datagram N)) → all_news_as f (back_news station last ds) ≡ back_news station last (all_as f ds)
  back_news_of station last [] = refl
  back_news_of station last (d ∷ ds) =
      news_append (datagram_news station last d) (back_news station (if d.gram.station == station then last_heard last d.gram.ask d.gram else last) ds)
      ∙ ap₂ (λ (a b : List (News M)). a ++ b) (datagram_of station last d)
      (back_news_of station (if d.gram.station == station then last_heard last d.gram.ask d.gram else last) ds
      ∙ ap (λ n. back_news station (if d.gram.station == station then n else last) (all_as f ds)) (heard_last_of last d.gram.ask d.gram))

  heard_behind_of : (station last : ℕ) (ds : List (Datagram N)) → heard_behind station last ds ≡ heard_behind station last (all_as f ds)
  heard_behind_of station last [] = refl
  heard_behind_of station last (d ∷ ds) =
      heard_behind_of station (if d.gram.station == station then last_heard last d.gram.ask d.gram else last) ds
      ∙ ap (λ n. heard_behind station (if d.gram.station == station then n else last) (all_as f ds)) (heard_last_of last d.gram.ask d.gram)

  -- THE NEWS OF A FRAME, and the counters behind it
  pub frame_of : (station : ℕ) (kept : Kept) (k : Frame N) → all_news_as f (frame_news station kept k) ≡ frame_news station kept (frame_as f k)
  frame_of station kept k =
      let told = all_told station kept.told (grams k.sent) in
      news_append (map (λ m. News.Told m) told) (back_news station kept.heard k.back)
      ∙ ap₂ (λ (a b : List (News M)). a ++ b)
      (told_news told ∙ ap (map (λ m. News.Told m)) (told_of station kept.told (grams k.sent) ∙ ap (all_told station kept.told) (sym (grams_of k.sent)))) (back_news_of station kept.heard k.back)

  pub kept_of : (station : ℕ) (kept : Kept) (k : Frame N) → kept_after station kept k ≡ kept_after station kept (frame_as f k)
  kept_of station kept k =
      ap₂ (λ (a b : ℕ). record { told = a; heard = b }) (told_behind_of station kept.told (grams k.sent) ∙ ap (told_behind station kept.told) (sym (grams_of k.sent))) (heard_behind_of station kept.heard k.back)

  -- THE RECORD OF A SLAVE
  pub each_of : (station : ℕ) (kept : Kept) (ks : List (Frame N)) → map (λ ns. all_news_as f ns) (news_each station kept ks) ≡ news_each station kept (map (λ k. frame_as f k) ks)
  each_of station kept [] = refl
  each_of station kept (k ∷ ks) =
      ap₂ (λ (a : List (News M)) (b : List (List (News M))). a ∷ b) (frame_of station kept k) (each_of station (kept_after station kept k) ks ∙ ap (λ j. news_each station j (map (λ l. frame_as f l) ks)) (kept_of station kept k))
