-- The answers of rows are those that the frames give: an invariant of the master's side and the record, without any slave.
use Rattle.std.proofs.Common.{◌≡◌, ◌⊎◌, inl, inr, ℕ, zero, suc, ◌+◌, ◌≤◌, ◌==◌, ◌&&◌, Bool, true, false, if◌then◌else◌, Option, Some, None, option_map, List, [], ◌∷◌, ◌++◌, drop, length, refl, ap, sym, ◌∙◌, subst, arith, append_assoc, append-nil, length-append}
use Rattle.std.specs.Prelude.{⊤}
use Rattle.std.proofs.lemmas.List.{drop-append-le}
use Rattle.exchange_model.specs.Exchange.{Exchange, IsLawful, plain}
use Rattle.exchange_model.specs.Rows.{Row, begun, row_heard, row_told, answer_after}
use Rattle.link_model.specs.Link.{Halves}
use Rattle.link_model.specs.Frames.{Ask, Gram, all_accepted, halves_lost, halves_without}
use Rattle.segment_model.specs.Slaves.{grams}
use Rattle.segment_model.specs.Record.{Frame, News, Kept, first_end, or_later, news_each, kept_all, kept_after, nothing_kept, news_from, frame_news, heard_behind, mails_heard, joined}
use Rattle.segment_model.specs.Seats.{Side, Choice, side_begins, side_holds, side_next, side_back, side_lost, next_mail, is_over}
use Rattle.segment_model.proofs.Overs.{over_parts}
use Rattle.segment_model.proofs.News.{mails_heard-append, heard_frame, kept_back, joined-append}

-- one list of news more
pub first_end-push : {N R : Type 0} (e : List N → Option R) (f : ℕ) (before : List N) (nss : List (List N)) (ns : List N) →
    first_end e f before (nss ++ ns ∷ []) ≡ answer_after (f + length nss) (first_end e f before nss) (e (before ++ joined nss ++ ns))
first_end-push {N} {R} e f before [] ns = last (e (before ++ ns)) (e (before ++ [] ++ ns)) (f + length {A = List N} []) (ap (λ l. e (l ++ ns)) (sym (append-nil before))) (omega arith)
  where
    last : (r s : Option R) (k : ℕ) → r ≡ s → f ≡ k → or_later r f None ≡ answer_after k None s
    last None s k h p = ap (λ r. answer_after k None r) h
    last (Some r) s k h p = ap (λ j. Some (r, j)) p ∙ ap (λ r. answer_after k None r) h
first_end-push {R = R} e f before (ms ∷ nss) ns = put (e (before ++ ms)) (more (first_end-push e (suc f) (before ++ ms) nss ns))
  where
    later : Option (R × ℕ)
    later = first_end e (suc f) (before ++ ms) nss

    all : Option R
    all = e (before ++ (ms ++ joined nss) ++ ns)

    more : first_end e (suc f) (before ++ ms) (nss ++ ns ∷ []) ≡ answer_after (suc f + length nss) later (e ((before ++ ms) ++ joined nss ++ ns)) →
        first_end e (suc f) (before ++ ms) (nss ++ ns ∷ []) ≡ answer_after (f + suc (length nss)) later all
    more h = h
        ∙ ap (λ k. answer_after k later (e ((before ++ ms) ++ joined nss ++ ns))) (omega arith)
        ∙ ap (λ l. answer_after (f + suc (length nss)) later (e l)) (ap (λ l. l ++ ns) (append_assoc before ms (joined nss)))

    put : (r : Option R) → first_end e (suc f) (before ++ ms) (nss ++ ns ∷ []) ≡ answer_after (f + suc (length nss)) later all →
        or_later r f (first_end e (suc f) (before ++ ms) (nss ++ ns ∷ [])) ≡ answer_after (f + suc (length nss)) (or_later r f later) all
    put None h = h
    put (Some r) h = refl

length-news : {M : Type 0} (station : ℕ) (kept : Kept) (fs : List (Frame M)) → length (news_each station kept fs) ≡ length fs
length-news station kept [] = refl
length-news station kept (f ∷ fs) = ap suc (length-news station (kept_after station kept f) fs)

pub news_each-push : {M : Type 0} (station : ℕ) (kept : Kept) (fs : List (Frame M)) (f : Frame M) → news_each station kept (fs ++ f ∷ []) ≡ news_each station kept fs ++ frame_news station (kept_all station kept fs) f ∷ []
news_each-push station kept [] f = refl
news_each-push station kept (g ∷ fs) f = ap (λ l. frame_news station kept g ∷ l) (news_each-push station (kept_after station kept g) fs f)

pub kept_all-push : {M : Type 0} (station : ℕ) (kept : Kept) (fs : List (Frame M)) (f : Frame M) → kept_all station kept (fs ++ f ∷ []) ≡ kept_after station (kept_all station kept fs) f
kept_all-push station kept [] f = refl
kept_all-push station kept (g ∷ fs) f = kept_all-push station (kept_after station kept g) fs f

abbrev pub kept_of : {M : Type 0} → ℕ → List (Frame M) → Kept
kept_of station fs = kept_all station nothing_kept fs

pub news_from-push : {M : Type 0} (station frame : ℕ) (fs : List (Frame M)) (f : Frame M) → frame ≤ length fs → news_from station frame (fs ++ f ∷ []) ≡ news_from station frame fs ++ frame_news station (kept_of station fs) f ∷ []
news_from-push station frame fs f le =
    ap (drop frame) (news_each-push station nothing_kept fs f)
    ∙ drop-append-le frame (news_each station nothing_kept fs) _ (subst (λ n. frame ≤ n) (sym (length-news station nothing_kept fs)) le)

length-drop_news : {M : Type 0} (n : ℕ) (l : List M) → n ≤ length l → n + length (drop n l) ≡ length l
length-drop_news zero l le = omega arith
length-drop_news (suc n) [] le = absurd (omega (arith, le))
length-drop_news (suc n) (m ∷ l) le = let rest = length-drop_news n l (omega (arith, le)) in omega (arith, rest)

pub news_from-length : {M : Type 0} (station frame : ℕ) (fs : List (Frame M)) → frame ≤ length fs → frame + length (news_from station frame fs) ≡ length fs
news_from-length station frame fs le =
    length-drop_news frame (news_each station nothing_kept fs) (subst (λ n. frame ≤ n) (sym (length-news station nothing_kept fs)) le) ∙ length-news station nothing_kept fs

drop_all : {M : Type 0} (l : List M) (n : ℕ) → length l ≡ n → drop n l ≡ []
drop_all [] zero e = refl
drop_all [] (suc n) e = refl
drop_all (m ∷ l) zero e = absurd (omega (arith, e))
drop_all (m ∷ l) (suc n) e = drop_all l n (omega (arith, e))

pub news_from-none : {M : Type 0} (station : ℕ) (fs : List (Frame M)) → news_from station (length fs) fs ≡ []
news_from-none station fs = drop_all (news_each station nothing_kept fs) (length fs) (length-news station nothing_kept fs)

-- an outcome behind one frame more
pub outcome-push : {M T : Type 0} (e : List (News M) → Option T) (station frame : ℕ) (fs : List (Frame M)) (f : Frame M) → frame ≤ length fs →
    first_end e frame [] (news_from station frame (fs ++ f ∷ [])) ≡ answer_after (length fs) (first_end e frame [] (news_from station frame fs)) (e (joined (news_from station frame fs) ++ frame_news station (kept_of station fs) f))
outcome-push e station frame fs f le =
    let news = news_from station frame fs in
    let more = frame_news station (kept_of station fs) f in
    ap (first_end e frame []) (news_from-push station frame fs f le) ∙ first_end-push e frame [] news more
    ∙ ap (λ k. answer_after k (first_end e frame [] news) (e (joined news ++ more))) (news_from-length station frame fs le)

-- a lost frame leaves the counter of the last mail heard
lost_last : {M : Type 0} (h : Halves M) (ask : Ask M) → (halves_lost h ask).inn.last ≡ h.inn.last
lost_last h (Ask.WriteMail m) = refl
lost_last h Ask.ReadMail = refl
lost_last h (Ask.WriteRequest bit) = refl
lost_last h Ask.ReadAcknowledge = refl
lost_last h Ask.Other = refl

halves_without-last : {M : Type 0} (station : ℕ) (h : Halves M) (gs : List (Gram M)) → (halves_without station h gs).inn.last ≡ h.inn.last
halves_without-last station h [] = refl
halves_without-last station h (g ∷ gs) = halves_without-last station (if g.station == station then halves_lost h g.ask else h) gs ∙ go (g.station == station)
  where
    go : (b : Bool) → (if b then halves_lost h g.ask else h).inn.last ≡ h.inn.last
    go true = lost_last h g.ask
    go false = refl

module _ {V A M Q R : Type 0} (x : Exchange V A M Q R) (law : IsLawful x) where
  -- what a service is answered by, over news
  abbrev pub reply_end : Q → List (News M) → Option R
  reply_end q ns = x.speech.ends q (plain x.speech.emission (mails_heard ns))

  abbrev pub first_reply : ℕ → List (Frame M) → Row M Q R → Option (R × ℕ)
  first_reply station fs r = first_end (reply_end r.service) r.frame [] (news_from station r.frame fs)

  -- a row that is over, and the newest row
  pub record Closed (station : ℕ) (fs : List (Frame M)) (r : Row M Q R) : Type 0 where
    pub begun : r.frame ≤ length fs
    pub same : r.answer ≡ first_reply station fs r
    pub over : ((answer : R × ℕ) × (r.answer ≡ Some answer)) ⊎ (x.speech.handed r.service ≡ true)

  pub record Open (station : ℕ) (fs : List (Frame M)) (r : Row M Q R) : Type 0 where
    pub begun : r.frame ≤ length fs
    pub same : r.answer ≡ first_reply station fs r
    pub hears : r.heard ≡ mails_heard (joined (news_from station r.frame fs))
    pub quiet : r.answer ≡ None → x.speech.ends r.service (plain x.speech.emission r.heard) ≡ None

  abbrev pub AllClosed : ℕ → List (Frame M) → List (Row M Q R) → Type 0
  AllClosed station fs [] = ⊤
  AllClosed station fs (r ∷ rs) = Closed station fs r × AllClosed station fs rs

  abbrev pub OpenNow : ℕ → List (Frame M) → Option (Row M Q R) → Type 0
  OpenNow station fs None = ⊤
  OpenNow station fs (Some r) = Open station fs r

  pub record Listens (station : ℕ) (fs : List (Frame M)) (d : Side M Q R) : Type 0 where
    pub kept : d.halves.inn.last ≡ (kept_of station fs).heard
    pub past : AllClosed station fs d.past
    pub now : OpenNow station fs d.now

  push_reply : (station : ℕ) (fs : List (Frame M)) (f : Frame M) (r : Row M Q R) → r.frame ≤ length fs →
      first_reply station (fs ++ f ∷ []) r ≡ answer_after (length fs) (first_reply station fs r) (x.speech.ends r.service (plain x.speech.emission (mails_heard (joined (news_from station r.frame fs)) ++ mails_heard (frame_news station (kept_of station fs) f))))
  push_reply station fs f r le =
      outcome-push (reply_end r.service) station r.frame fs f le
      ∙ ap (λ l. answer_after (length fs) (first_reply station fs r) (x.speech.ends r.service (plain x.speech.emission l))) (mails_heard-append (joined (news_from station r.frame fs)) (frame_news station (kept_of station fs) f))

  -- no further frame changes a row that is over
  closed_stays : (station : ℕ) (fs : List (Frame M)) (f : Frame M) (r : Row M Q R) → Closed station fs r → Closed station (fs ++ f ∷ []) r
  closed_stays station fs f r c = record {
    begun = subst (λ n. r.frame ≤ n) (sym (length-append fs (f ∷ []))) (omega (arith, c.begun));
    same = go c.over;
    over = c.over;
  }
    where
      found : Option R
      found = x.speech.ends r.service (plain x.speech.emission (mails_heard (joined (news_from station r.frame fs)) ++ mails_heard (frame_news station (kept_of station fs) f)))

      keeps : (answer : Option (R × ℕ)) → answer_after (length fs) answer None ≡ answer
      keeps None = refl
      keeps (Some a) = refl

      go : ((answer : R × ℕ) × (r.answer ≡ Some answer)) ⊎ (x.speech.handed r.service ≡ true) → r.answer ≡ first_reply station (fs ++ f ∷ []) r
      go (inl a) = a.1 ∙ ap (λ b. answer_after (length fs) b found) (sym a.1 ∙ c.same) ∙ sym (push_reply station fs f r c.begun)
      go (inr h) =
          c.same ∙ sym (keeps (first_reply station fs r)) ∙ ap (answer_after (length fs) (first_reply station fs r)) (sym (law.unanswered r.service _ h))
          ∙ sym (push_reply station fs f r c.begun)

  all_stay : (station : ℕ) (fs : List (Frame M)) (f : Frame M) (rs : List (Row M Q R)) → AllClosed station fs rs → AllClosed station (fs ++ f ∷ []) rs
  all_stay station fs f [] c = tt
  all_stay station fs f (r ∷ rs) c = (closed_stays station fs f r c.0, all_stay station fs f rs c.1)

  -- the newest row behind one more frame, by the mails that it brought
  open_hears : (station : ℕ) (fs : List (Frame M)) (f : Frame M) (r : Row M Q R) (ms : List M) → mails_heard (frame_news station (kept_of station fs) f) ≡ ms → Open station fs r → Open station (fs ++ f ∷ []) (row_heard x.speech (length fs) ms r)
  open_hears station fs f r ms e o = record {
    begun = subst (λ n. r.frame ≤ n) (sym (length-append fs (f ∷ []))) (omega (arith, o.begun));
    same =
        ap (λ a. answer_after (length fs) a (x.speech.ends r.service (plain x.speech.emission (r.heard ++ ms)))) o.same
        ∙ ap (λ l. answer_after (length fs) (first_reply station fs r) (x.speech.ends r.service (plain x.speech.emission l))) (ap (λ l. l ++ ms) o.hears ∙ ap (λ l. mails_heard (joined (news_from station r.frame fs)) ++ l) (sym e))
        ∙ sym (push_reply station fs f r o.begun);
    hears =
        ap (λ l. l ++ ms) o.hears ∙ ap (λ l. mails_heard (joined (news_from station r.frame fs)) ++ l) (sym e)
        ∙ sym (ap mails_heard (ap joined (news_from-push station r.frame fs f o.begun) ∙ joined-append (news_from station r.frame fs) _) ∙ mails_heard-append (joined (news_from station r.frame fs)) _);
    quiet = silent r.answer (x.speech.ends r.service (plain x.speech.emission (r.heard ++ ms)));
  }
    where
      silent : (old : Option (R × ℕ)) (new : Option R) → answer_after (length fs) old new ≡ None → new ≡ None
      silent None None h = refl
      silent None (Some r) h = absurd (let bad : Some (r, length fs) ≡ None = h in cc)
      silent (Some a) new h = absurd (let bad : Some a ≡ None = h in cc)

  -- and behind one that brought none
  open_waits : (station : ℕ) (fs : List (Frame M)) (f : Frame M) (r : Row M Q R) → mails_heard (frame_news station (kept_of station fs) f) ≡ [] → Open station fs r → Open station (fs ++ f ∷ []) r
  open_waits station fs f r e o =
      let heard = open_hears station fs f r [] e o in
      let same : row_heard x.speech (length fs) [] r ≡ r = λ i. record r { heard = append-nil r.heard i; answer = (ap (λ l. answer_after (length fs) r.answer (x.speech.ends r.service (plain x.speech.emission l))) (append-nil r.heard) ∙ idle r.answer o.quiet) i } in
      subst (Open station (fs ++ f ∷ [])) same heard
    where
      idle : (answer : Option (R × ℕ)) → (answer ≡ None → x.speech.ends r.service (plain x.speech.emission r.heard) ≡ None) → answer_after (length fs) answer (x.speech.ends r.service (plain x.speech.emission r.heard)) ≡ answer
      idle None quiet = ap (answer_after (length fs) None) (quiet refl)
      idle (Some a) quiet = refl

  fresh_row : (station : ℕ) (fs : List (Frame M)) (q : Q) → Open station fs (begun q (length fs))
  fresh_row station fs q = record {
    begun = omega arith;
    same = sym (ap (first_end (reply_end q) (length fs) []) (news_from-none station fs));
    hears = sym (ap (λ l. mails_heard (joined l)) (news_from-none station fs));
    quiet = λ none. law.none q;
  }

  past_and : (station : ℕ) (fs : List (Frame M)) (rs : List (Row M Q R)) (r : Row M Q R) → AllClosed station fs rs → Closed station fs r → AllClosed station fs (rs ++ r ∷ [])
  past_and station fs [] r c k = (k, tt)
  past_and station fs (p ∷ rs) r c k = (c.0, past_and station fs rs r c.1 k)

  -- the first row, with the number of the frame
  pub first_listens : (station : ℕ) (fs : List (Frame M)) (d : Side M Q R) (q : Q) → Listens station fs d → Listens station fs (record d { now = Some (begun q (length fs)) })
  first_listens station fs d q l = record { kept = l.kept; past = l.past; now = fresh_row station fs q }

  -- and one behind a row that has its answer, or ends with its last write
  pub more_listens : (station : ℕ) (fs : List (Frame M)) (d : Side M Q R) (r : Row M Q R) (q : Q) → d.now ≡ Some r → ((answer : R × ℕ) × (r.answer ≡ Some answer)) ⊎ (x.speech.handed r.service ≡ true) →
      Listens station fs d → Listens station fs (record d { past = d.past ++ r ∷ []; now = Some (begun q (length fs)) })
  more_listens station fs d r q e over l =
      let open_row : Open station fs r = subst (OpenNow station fs) e l.now in
      record { kept = l.kept; past = past_and station fs d.past r l.past (record { begun = open_row.begun; same = open_row.same; over = over }); now = fresh_row station fs q }

  -- what a choice makes of a side: rows begin only behind a row that is over
  began_listens : (station : ℕ) (fs : List (Frame M)) (d : Side M Q R) (now : Option (Row M Q R)) (begin : Option Q) → d.now ≡ now → Listens station fs d → Listens station fs (side_begins x.speech (length fs) d now begin)
  began_listens station fs d now begin e l = go now begin e
    where
      over : (r : Row M Q R) → is_over x.speech d.halves.out.holding d.fresh r ≡ true → ((answer : R × ℕ) × (r.answer ≡ Some answer)) ⊎ (x.speech.handed r.service ≡ true)
      over r o = elim (over_parts x d.halves.out.holding d.fresh r o).1 [ inl h ↦ inr h.0 | inr a ↦ inl a.0 ]

      next : (q : Q) (r : Row M Q R) → d.now ≡ Some r → (valid over_now : Bool) → is_over x.speech d.halves.out.holding d.fresh r ≡ over_now → Listens station fs (if valid && over_now then record d { past = d.past ++ r ∷ []; now = Some (begun q (length fs)) } else d)
      next q r e false over_now o = l
      next q r e true false o = l
      next q r e true true o = more_listens station fs d r q e (over r o) l

      first : (q : Q) (valid : Bool) → Listens station fs (if valid then record d { now = Some (begun q (length fs)) } else d)
      first q false = l
      first q true = first_listens station fs d q l

      go : (now : Option (Row M Q R)) (begin : Option Q) → d.now ≡ now → Listens station fs (side_begins x.speech (length fs) d now begin)
      go now None e = l
      go None (Some q) e = first q (x.speech.valid q)
      go (Some r) (Some q) e = next q r e (x.speech.valid q) (is_over x.speech d.halves.out.holding d.fresh r) refl

  pub held_listens : (station : ℕ) (fs : List (Frame M)) (d : Side M Q R) (ms : List M) → Listens station fs d → Listens station fs (side_holds d ms)
  held_listens station fs d [] l = l
  held_listens station fs d (m ∷ ms) l = record { kept = l.kept; past = l.past; now = go d.now l.now }
    where
      go : (now : Option (Row M Q R)) → OpenNow station fs now → OpenNow station fs (option_map (λ r. row_told m r) now)
      go None o = tt
      go (Some r) o = record { begun = o.begun; same = o.same; hears = o.hears; quiet = o.quiet }

  pub next_listens : (station : ℕ) (fs : List (Frame M)) (d : Side M Q R) (c : Choice Q) → Listens station fs d → Listens station fs (side_next x.speech (length fs) d c)
  next_listens station fs d c l =
      let e = side_begins x.speech (length fs) d d.now c.begin in
      held_listens station fs e (next_mail x.speech e.now e.halves.out.holding c.hold) (began_listens station fs d d.now c.begin refl l)

  -- and a frame: it came back
  pub back_listens : (station : ℕ) (fs : List (Frame M)) (d : Side M Q R) (f : Frame M) → Listens station fs d → Listens station (fs ++ f ∷ []) (side_back x.speech (length fs) station f.back d)
  back_listens station fs d f l = record {
    kept = sym (kept_back station d.halves f.back) ∙ ap (λ k. kept_in k) l.kept ∙ sym (ap (λ k. k.heard) (kept_all-push station nothing_kept fs f));
    past = all_stay station fs f d.past l.past;
    now = go d.now l.now;
  }
    where
      kept_in : ℕ → ℕ
      kept_in k = heard_behind station k f.back

      ms : List M
      ms = all_accepted station d.halves (grams f.back)

      go : (now : Option (Row M Q R)) → OpenNow station fs now → OpenNow station (fs ++ f ∷ []) (option_map (λ r. row_heard x.speech (length fs) ms r) now)
      go None o = tt
      go (Some r) o = open_hears station fs f r ms (heard_frame station (kept_of station fs) d.halves f l.kept) o

  -- or it was lost
  pub lost_listens : (station : ℕ) (fs : List (Frame M)) (d : Side M Q R) (f : Frame M) → f.back ≡ [] → Listens station fs d → Listens station (fs ++ f ∷ []) (side_lost station f.sent d)
  lost_listens station fs d f e l = record {
    kept = halves_without-last station d.halves (grams f.sent) ∙ l.kept ∙ ap (λ ds. heard_behind station (kept_of station fs).heard ds) (sym e) ∙ sym (ap (λ k. k.heard) (kept_all-push station nothing_kept fs f));
    past = all_stay station fs f d.past l.past;
    now = go d.now l.now;
  }
    where
      nothing : mails_heard (frame_news station (kept_of station fs) f) ≡ []
      nothing = heard_frame station (kept_of station fs) d.halves f l.kept ∙ ap (λ ds. all_accepted station d.halves (grams ds)) e

      go : (now : Option (Row M Q R)) → OpenNow station fs now → OpenNow station (fs ++ f ∷ []) now
      go None o = tt
      go (Some r) o = open_waits station fs f r nothing o
