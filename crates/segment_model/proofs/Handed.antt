-- Over a session: each service that ends with its last write is complete by the record exactly where its row is over.
use Rattle.std.proofs.Common.{◌≡◌, ◌≢◌, inl, inr, ℕ, zero, suc, ◌+◌, ◌-◌, ◌<◌, ◌≤◌, ◌&&◌, ◌||◌, Bool, true, false, not, is_none, is_some, Option, Some, None, option_map, List, [], ◌∷◌, ◌++◌, take, drop, length, refl, ap, sym, ◌∙◌, subst, arith, append_assoc, append-nil, length-append, if◌then◌else◌}
use Rattle.std.specs.Prelude.{⊤}
use Rattle.std.proofs.lemmas.Bool.Decides.{leb_tells}
use Rattle.std.proofs.lemmas.List.{take-append-le}
use Rattle.exchange_model.specs.Prefix.{IsPrefixOf}
use Rattle.exchange_model.specs.Exchange.{Exchange, IsLawful, after, given, plain}
use Rattle.exchange_model.specs.Rows.{Row, begun, row_heard, row_told, left, told_all}
use Rattle.exchange_model.proofs.Lists.{prefix_nil, none_left}
use Rattle.exchange_model.proofs.Nows.{heard_begins}
use Rattle.exchange_model.proofs.Settles.{settled_ready}
use Rattle.link_model.specs.Mails.{LinkMail, bodies}
use Rattle.link_model.specs.Counters
use Rattle.link_model.specs.Frames
use Rattle.segment_model.specs.Record
use Rattle.link_model.specs.Frames.{halves_after, halves_without}
use Rattle.segment_model.specs.Slaves.{Slave, grams}
use Rattle.segment_model.specs.Record.{Frame, News, first_end, or_later, news_from, frame_news, back_news, all_told, told_behind, joined}
use Rattle.segment_model.specs.Ends.{Task, Outcome, all_written, ends, mails_end}
use Rattle.segment_model.specs.Seats.{Side, newest, rows_of, Choice, is_over, is_none_left, side_begins, side_holds, side_next, side_back, side_lost, next_mail, first_left, writes}
use Rattle.segment_model.specs.Laws.{next_frame, Rises, as_outcome, IsAnswered, AllAnswered, AllHanded, NowHanded, OutcomesRise, HandedBy}
use Rattle.segment_model.proofs.Answers.{kept_of, kept_all-push, news_from-none, news_from-push, news_from-length}
use Rattle.segment_model.proofs.Overs.{over_parts, idle}
use Rattle.segment_model.proofs.Written.{mails_told, has_written, all_written-append, back_frees, back_lasts, losts_out, none_written, Tells}
use Rattle.segment_model.proofs.Fitted.{NowFits}
use Rattle.segment_model.proofs.Posts.{PostOpen, KeptOut, IsFresh, IsKnown, unsent, kept_frame, post_frame, news-push}

drop_short : {X : Type 0} (k : ℕ) (l more : List X) (m : X) → drop k l ≡ m ∷ more → k < length l
drop_short zero [] more m e = absurd (let bad : m ∷ more ≡ [] = sym e in cc)
drop_short (suc k) [] more m e = absurd (let bad : m ∷ more ≡ [] = sym e in cc)
drop_short zero (x ∷ l) more m e = omega arith
drop_short (suc k) (x ∷ l) more m e = let r = drop_short k l more m e in omega (arith, r)

take_whole : {X : Type 0} (k : ℕ) (l : List X) → length l ≤ k → take k l ≡ l
take_whole zero [] e = refl
take_whole (suc k) [] e = refl
take_whole zero (x ∷ l) e = absurd (omega (arith, e))
take_whole (suc k) (x ∷ l) e = ap (λ m. x ∷ m) (take_whole k l (omega (arith, e)))

left_some : {X : Type 0} (k : ℕ) (l : List X) → k < length l → is_none_left (drop k l) ≡ false
left_some k [] e = absurd (omega (arith, e))
left_some zero (x ∷ l) e = refl
left_some (suc k) (x ∷ l) e = left_some k l (omega (arith, e))

left_none : {X : Type 0} (k : ℕ) (l : List X) → length l ≤ k → is_none_left (drop k l) ≡ true
left_none zero [] e = refl
left_none (suc k) [] e = refl
left_none zero (x ∷ l) e = absurd (omega (arith, e))
left_none (suc k) (x ∷ l) e = left_none k l (omega (arith, e))

module _ {V A M Q R : Type 0} (x : Exchange V A M Q R) (law : IsLawful x) where
  -- what is known of the newest row where it is of a service that ends with its last write
  pub record Facts (r : Row M Q R) : Type 0 where
    pub silent : plain x.speech.emission r.heard ≡ []
    pub mine : IsPrefixOf r.told (x.speech.planned r.service [])
    pub some : x.speech.planned r.service [] ≢ []
    pub unanswered : r.answer ≡ None

  abbrev pub NowFacts : List (Row M Q R) → Option (Row M Q R) → Type 0
  NowFacts past None = past ≡ []
  NowFacts past (Some r) = x.speech.handed r.service ≡ true → Facts r

  pub facts_of : (v : V) → x.ready v ≡ true → (past : List (Row M Q R)) (now : Option (Row M Q R)) (held taken accepted : List M) → NowFits x law v past now held taken accepted → NowFacts past now
  facts_of v ready past None held taken accepted k = k.0
  facts_of v ready past (Some r) held taken accepted k = λ posts.
      let before = k.front ++ k.last in
      let f = k.moment.fits in
      let w = after x.serve v (told_all before) in
      let on : x.ready w ≡ true = settled_ready x law v before ready f.settled in
      let all : plain x.speech.emission (given x.serve w (x.full w r.service)) ≡ [] = law.silent w r.service on f.valid posts in
      let begins = heard_begins x law v before r held taken accepted f.settled f.all_held f.all_accepted k.moment.order k.moment.hears f.mine in
      let full : x.speech.planned r.service [] ≡ x.full w r.service = ap (x.speech.planned r.service) (sym all) ∙ law.all_planned w r.service on f.valid in
      record {
        silent = prefix_nil (plain x.speech.emission r.heard) (subst (IsPrefixOf (plain x.speech.emission r.heard)) all begins);
        mine = subst (IsPrefixOf r.told) (sym full) f.mine;
        some = λ none. law.some w r.service on f.valid posts (sym full ∙ none);
        unanswered = none_answered posts f.answered r.answer refl;
      }
    where
      none_answered : x.speech.handed r.service ≡ true → ((answer : R × ℕ) → r.answer ≡ Some answer → (x.speech.handed r.service ≡ false) × (x.speech.ends r.service (plain x.speech.emission r.heard) ≡ Some answer.0)) → (o : Option (R × ℕ)) → r.answer ≡ o → r.answer ≡ None
      none_answered posts answered None e = e
      none_answered posts answered (Some a) e = absurd (let no : true ≡ false = sym posts ∙ (answered a e).0 in cc)

  abbrev pub count : Row M Q R → ℕ
  count r = length (x.speech.planned r.service [])

  -- a row that is over: its mails are written by the record, and were before the next row began, at this frame
  pub record IsPosted (station : ℕ) (fs : List (Frame M)) (r : Row M Q R) (end : ℕ) : Type 0 where
    pub begun : r.frame ≤ length fs
    pub end_is : end ≤ length fs
    pub later : r.frame ≤ end
    pub written : all_written (count r) (joined (news_from station r.frame fs)) ≡ true
    pub early : all_written (count r) (joined (take (end - r.frame) (news_from station r.frame fs))) ≡ true

  abbrev pub Posted : ℕ → List (Frame M) → Row M Q R → ℕ → Type 0
  Posted station fs r end = x.speech.handed r.service ≡ true → IsPosted station fs r end

  abbrev pub AllPosted : ℕ → List (Frame M) → List (Row M Q R) → ℕ → Type 0
  AllPosted station fs [] end = ⊤
  AllPosted station fs (r ∷ rs) end = Posted station fs r (next_frame rs end) × AllPosted station fs rs end

  abbrev pub end_of : Option (Row M Q R) → ℕ
  end_of None = 0
  end_of (Some r) = r.frame

  abbrev pub PostNow : ℕ → List (Frame M) → Bool → Option (LinkMail M) → Option (Row M Q R) → Type 0
  PostNow station fs fresh holding None = fresh ≡ false
  PostNow station fs fresh holding (Some r) = x.speech.handed r.service ≡ true → PostOpen station r.frame (count r) fs fresh holding r.told

  -- what the outward half knows of the record
  abbrev pub KeptSide : ℕ → List (Frame M) → Side M Q R → Type 0
  KeptSide station fs d = KeptOut d.fresh d.halves.out.holding d.halves.out.last (kept_of station fs).told

  pub record Posts (station : ℕ) (fs : List (Frame M)) (d : Side M Q R) : Type 0 where
    pub out : KeptSide station fs d
    pub past : AllPosted station fs d.past (end_of d.now)
    pub now : PostNow station fs d.fresh d.halves.out.holding d.now

  -- an idle half has nothing fresh
  idle_known : (fresh : Bool) (holding : Option (LinkMail M)) (last kept : ℕ) → holding ≡ None → KeptOut fresh holding last kept → fresh ≡ false
  idle_known false holding last kept e k = refl
  idle_known true holding last kept e k = let f : IsFresh holding last kept = k in absurd (let bad : None ≡ Some f.mail = sym e ∙ f.holds in cc)

  -- it takes a mail up
  held_out : (station : ℕ) (fs : List (Frame M)) (d : Side M Q R) (m : M) → d.halves.out.holding ≡ None → KeptSide station fs d → KeptSide station fs (side_holds d (m ∷ []))
  held_out station fs d m i p =
      let known = idle_known d.fresh d.halves.out.holding d.halves.out.last (kept_of station fs).told i p in
      let k : IsKnown d.halves.out.holding d.halves.out.last (kept_of station fs).told = subst (λ b. KeptOut b d.halves.out.holding d.halves.out.last (kept_of station fs).told) known p in
      record { mail = record { counter = Counters.next_counter d.halves.out.last; body = m }; holds = refl; next = ap Counters.next_counter k.last_is; last_is = refl }

  began_out : (station : ℕ) (fs : List (Frame M)) (d : Side M Q R) (now : Option (Row M Q R)) (begin : Option Q) → KeptSide station fs d → KeptSide station fs (side_begins x.speech (length fs) d now begin)
  began_out station fs d now None p = p
  began_out station fs d None (Some q) p = go (x.speech.valid q)
    where
      go : (b : Bool) → KeptSide station fs (if b then record d { now = Some (begun q (length fs)) } else d)
      go true = p
      go false = p
  began_out station fs d (Some r) (Some q) p = go (x.speech.valid q && is_over x.speech d.halves.out.holding d.fresh r)
    where
      go : (b : Bool) → KeptSide station fs (if b then record d { past = d.past ++ r ∷ []; now = Some (begun q (length fs)) } else d)
      go true = p
      go false = p

  holds_out : (station : ℕ) (fs : List (Frame M)) (d : Side M Q R) (now : Option (Row M Q R)) (holding : Option (LinkMail M)) (hold : Bool) → d.halves.out.holding ≡ holding → KeptSide station fs d →
      KeptSide station fs (side_holds d (next_mail x.speech now holding hold))
  holds_out station fs d now holding false e p = p
  holds_out station fs d None holding true e p = p
  holds_out station fs d (Some r) (Some m) true e p = p
  holds_out station fs d (Some r) None true e p = first (left x.speech r)
    where
      first : (ms : List M) → KeptSide station fs (side_holds d (first_left ms))
      first [] = p
      first (m ∷ ms) = held_out station fs d m e p

  pub next_out : (station : ℕ) (fs : List (Frame M)) (d : Side M Q R) (c : Choice Q) → KeptSide station fs d → KeptSide station fs (side_next x.speech (length fs) d c)
  next_out station fs d c p =
      let e = side_begins x.speech (length fs) d d.now c.begin in
      holds_out station fs e e.now e.halves.out.holding c.hold refl (began_out station fs d d.now c.begin p)

  -- and a frame comes back, or is lost
  pub back_out : (station : ℕ) (fs : List (Frame M)) (f : Frame M) (d : Side M Q R) → writes station (grams f.back) ≡ writes station (grams f.sent) →
      Tells (kept_of station fs).told d.halves.out.holding (writes station (grams f.sent)) (all_told station (kept_of station fs).told (grams f.sent)) (told_behind station (kept_of station fs).told (grams f.sent)) →
      KeptSide station fs d → KeptSide station (fs ++ f ∷ []) (side_back x.speech (length fs) station f.back d)
  back_out station fs f d e t p =
      let kept = kept_of station fs in
      let w = writes station (grams f.back) in
      let tells : Tells kept.told d.halves.out.holding w (all_told station kept.told (grams f.sent)) (told_behind station kept.told (grams f.sent)) = subst (λ b. Tells kept.told d.halves.out.holding b (all_told station kept.told (grams f.sent)) (told_behind station kept.told (grams f.sent))) (sym e) t in
      let hw = has_written (back_news station kept.heard f.back) in
      let frees = back_frees station kept.heard d.halves f.back in
      let lasts = back_lasts station d.halves (grams f.back) in
      let behind = ap (λ k. k.told) (kept_all-push station Record.nothing_kept fs f) in
      let out = kept_frame d.fresh w hw d.halves.out.holding d.halves.out.last kept.told (told_behind station kept.told (grams f.sent)) _ tells (none_written station kept.heard f.back) p in
      subst (λ k. KeptOut (d.fresh && not w) (halves_after station d.halves (grams f.back)).out.holding (halves_after station d.halves (grams f.back)).out.last k) (sym behind)
      (subst (λ l. KeptOut (d.fresh && not w) (halves_after station d.halves (grams f.back)).out.holding l (told_behind station kept.told (grams f.sent))) (sym lasts)
      (subst (λ h. KeptOut (d.fresh && not w) h d.halves.out.last (told_behind station kept.told (grams f.sent))) (sym frees) out))

  lost_holding : (station : ℕ) (fs : List (Frame M)) (f : Frame M) (d : Side M Q R) → f.back ≡ [] →
      (halves_without station d.halves (grams f.sent)).out.holding ≡ (if has_written (back_news station (kept_of station fs).heard f.back) then None else d.halves.out.holding)
  lost_holding station fs f d e =
      ap (λ o. o.holding) (losts_out station d.halves (grams f.sent)) ∙ ap (λ b. if b then None else d.halves.out.holding) (sym (ap (λ ds. has_written (back_news station (kept_of station fs).heard ds)) e))

  pub lost_out : (station : ℕ) (fs : List (Frame M)) (f : Frame M) (d : Side M Q R) → f.back ≡ [] →
      Tells (kept_of station fs).told d.halves.out.holding (writes station (grams f.sent)) (all_told station (kept_of station fs).told (grams f.sent)) (told_behind station (kept_of station fs).told (grams f.sent)) →
      KeptSide station fs d → KeptSide station (fs ++ f ∷ []) (side_lost station f.sent d)
  lost_out station fs f d e t p =
      let kept = kept_of station fs in
      let w = writes station (grams f.sent) in
      let hw = has_written (back_news station kept.heard f.back) in
      let never : hw ≡ false = ap (λ ds. has_written (back_news station kept.heard ds)) e in
      let lasts = ap (λ o. o.last) (losts_out station d.halves (grams f.sent)) in
      let behind = ap (λ k. k.told) (kept_all-push station Record.nothing_kept fs f) in
      let out = kept_frame d.fresh w hw d.halves.out.holding d.halves.out.last kept.told (told_behind station kept.told (grams f.sent)) _ t (λ z. never) p in
      subst (λ k. KeptOut (d.fresh && not w) (halves_without station d.halves (grams f.sent)).out.holding (halves_without station d.halves (grams f.sent)).out.last k) (sym behind)
      (subst (λ l. KeptOut (d.fresh && not w) (halves_without station d.halves (grams f.sent)).out.holding l (told_behind station kept.told (grams f.sent))) (sym lasts)
      (subst (λ h. KeptOut (d.fresh && not w) h d.halves.out.last (told_behind station kept.told (grams f.sent))) (sym (lost_holding station fs f d e)) out))

  left_is : (r : Row M Q R) → Facts r → left x.speech r ≡ drop (length r.told) (x.speech.planned r.service [])
  left_is r f = ap (λ hs. drop (length r.told) (x.speech.planned r.service hs)) f.silent

  nothing_unsent : (fresh : Bool) (holding : Option (LinkMail M)) → fresh ≡ false → unsent fresh holding ≡ []
  nothing_unsent fresh holding e = ap (λ b. unsent b holding) e

  over_handed : (holding : Option (LinkMail M)) (fresh : Bool) (r : Row M Q R) → x.speech.handed r.service ≡ true → r.answer ≡ None → is_over x.speech holding fresh r ≡ is_none_left (left x.speech r) && is_none holding
  over_handed holding fresh r h a =
      ap (λ b. is_none_left (left x.speech r) && (if b && is_none r.answer then is_none holding else is_some r.answer && not fresh)) h
      ∙ ap (λ (o : Option (R × ℕ)). is_none_left (left x.speech r) && (if is_none o then is_none holding else is_some o && not fresh)) a

  both : (a b : Bool) → a && b ≡ true → (a ≡ true) × (b ≡ true)
  both true b e = (refl, e)
  both false b e = absurd (let bad : false ≡ true = e in cc)

  none_of : (ms : List M) → is_none_left ms ≡ true → ms ≡ []
  none_of [] e = refl
  none_of (m ∷ ms) e = absurd (let bad : false ≡ true = e in cc)

  end_told : (now : Option (Row M Q R)) (m : M) → end_of now ≡ end_of (option_map (λ r. row_told m r) now)
  end_told None m = refl
  end_told (Some r) m = refl

  end_heard : (now : Option (Row M Q R)) (frame : ℕ) (ms : List M) → end_of now ≡ end_of (option_map (λ r. row_heard x.speech frame ms r) now)
  end_heard None frame ms = refl
  end_heard (Some r) frame ms = refl

  closes : (station : ℕ) (fs : List (Frame M)) (d : Side M Q R) (r : Row M Q R) → Posts station fs d → d.now ≡ Some r → NowFacts d.past (Some r) → is_over x.speech d.halves.out.holding d.fresh r ≡ true → Posted station fs r (length fs)
  closes station fs d r p e facts o = λ posts.
      let f = facts posts in
      let opened : PostOpen station r.frame (count r) fs d.fresh d.halves.out.holding r.told = subst (PostNow station fs d.fresh d.halves.out.holding) e p.now posts in
      let parts = both (is_none_left (left x.speech r)) (is_none d.halves.out.holding) (sym (over_handed d.halves.out.holding d.fresh r posts f.unanswered) ∙ o) in
      let holding = idle d.halves.out.holding parts.1 in
      let known = idle_known d.fresh d.halves.out.holding d.halves.out.last (kept_of station fs).told holding p.out in
      let all : r.told ≡ x.speech.planned r.service [] = none_left r.told (x.speech.planned r.service []) f.mine (sym (left_is r f) ∙ none_of (left x.speech r) parts.0) in
      let told = opened.told_is ∙ ap (λ l. mails_told (joined (news_from station r.frame fs)) ++ l) (nothing_unsent d.fresh d.halves.out.holding known) ∙ append-nil (mails_told (joined (news_from station r.frame fs))) in
      let enough : count r ≤ length (mails_told (joined (news_from station r.frame fs))) = let a = ap length all in let b = ap length told in omega (arith, a, b) in
      let all_of = opened.all enough ∙ parts.1 in
      let long = news_from-length station r.frame fs opened.begun in
      record {
        begun = opened.begun;
        end_is = omega arith;
        later = opened.begun;
        written = all_of;
        early = ap (λ l. all_written (count r) (joined l)) (take_whole (length fs - r.frame) (news_from station r.frame fs) (omega (arith, long))) ∙ all_of;
      }

  fresh_row : (station : ℕ) (fs : List (Frame M)) (fresh : Bool) (holding : Option (LinkMail M)) (q : Q) → fresh ≡ false → (x.speech.handed q ≡ true → Facts (begun q (length fs))) → PostNow station fs fresh holding (Some (begun q (length fs)))
  fresh_row station fs fresh holding q e facts = λ posts. (
      let none : joined (news_from station (length fs) fs) ≡ [] = ap joined (news_from-none station fs) in
      record {
        begun = omega arith;
        told_is = sym (ap (λ l. mails_told l ++ unsent fresh holding) none ∙ nothing_unsent fresh holding e);
        few = λ less. ap (all_written (length (x.speech.planned q []))) none;
        all = λ enough. absurd (
            let zero_mails : length (mails_told (joined (news_from station (length fs) fs))) ≡ 0 = ap (λ l. length (mails_told l)) none in
            (facts posts).some (no_length (x.speech.planned q []) (omega (arith, enough, zero_mails))));
      })
    where
      no_length : (l : List M) → length l ≡ 0 → l ≡ []
      no_length [] e = refl
      no_length (m ∷ l) e = absurd (omega (arith, e))

  posted_more : (station : ℕ) (fs : List (Frame M)) (rs : List (Row M Q R)) (r : Row M Q R) (end : ℕ) → AllPosted station fs rs r.frame → Posted station fs r end → AllPosted station fs (rs ++ r ∷ []) end
  posted_more station fs [] r end a p = (p, tt)
  posted_more station fs (s ∷ []) r end a p = (a.0, (p, tt))
  posted_more station fs (s ∷ (t ∷ rs)) r end a p = (a.0, posted_more station fs (t ∷ rs) r end a.1 p)

  began_posts : (station : ℕ) (fs : List (Frame M)) (d : Side M Q R) (now : Option (Row M Q R)) (begin : Option Q) → d.now ≡ now → NowFacts d.past now → (let e = side_begins x.speech (length fs) d now begin in NowFacts e.past e.now) → Posts station fs d → Posts station fs (side_begins x.speech (length fs) d now begin)
  began_posts station fs d now None e old new p = p
  began_posts station fs d None (Some q) e old new p = go (x.speech.valid q) new
    where
      go : (b : Bool) → (let t = if b then record d { now = Some (begun q (length fs)) } else d in NowFacts t.past t.now) → Posts station fs (if b then record d { now = Some (begun q (length fs)) } else d)
      go false new = p
      go true new = record { out = p.out; past = subst (λ rs. AllPosted station fs rs (length fs)) (sym old) tt; now = fresh_row station fs d.fresh d.halves.out.holding q (subst (PostNow station fs d.fresh d.halves.out.holding) e p.now) new }
  began_posts station fs d (Some r) (Some q) e old new p = go (x.speech.valid q) (is_over x.speech d.halves.out.holding d.fresh r) refl new
    where
      known : is_over x.speech d.halves.out.holding d.fresh r ≡ true → d.fresh ≡ false
      known o = elim (over_parts x d.halves.out.holding d.fresh r o).1 [
        | inl h ↦ idle_known d.fresh d.halves.out.holding d.halves.out.last (kept_of station fs).told h.1 p.out
        | inr a ↦ a.1
      ]

      go : (valid over : Bool) → is_over x.speech d.halves.out.holding d.fresh r ≡ over → (let t = if valid && over then record d { past = d.past ++ r ∷ []; now = Some (begun q (length fs)) } else d in NowFacts t.past t.now) →
          Posts station fs (if valid && over then record d { past = d.past ++ r ∷ []; now = Some (begun q (length fs)) } else d)
      go false over o new = p
      go true false o new = p
      go true true o new = record { out = p.out; past = posted_more station fs d.past r (length fs) (subst (λ n. AllPosted station fs d.past (end_of n)) e p.past) (closes station fs d r p e old o); now = fresh_row station fs d.fresh d.halves.out.holding q (known o) new }

  held_posts : (station : ℕ) (fs : List (Frame M)) (d : Side M Q R) (holding : Option (LinkMail M)) (hold : Bool) → d.halves.out.holding ≡ holding → NowFacts d.past d.now → Posts station fs d → Posts station fs (side_holds d (next_mail x.speech d.now holding hold))
  held_posts station fs d holding hold e facts p = go d.now holding hold refl e
    where
      one : (r : Row M Q R) (m : M) (more : List M) → d.now ≡ Some r → left x.speech r ≡ m ∷ more → d.halves.out.holding ≡ None → Posts station fs (side_holds d (m ∷ []))
      one r m more n l i =
          let known = idle_known d.fresh d.halves.out.holding d.halves.out.last (kept_of station fs).told i p.out in
          let mail : LinkMail M = record { counter = Counters.next_counter d.halves.out.last; body = m } in
          record {
            out = held_out station fs d m i p.out;
            past = subst (λ k. AllPosted station fs d.past k) (end_told d.now m) p.past;
            now = subst (λ o. PostNow station fs true (Some mail) (option_map (λ r. row_told m r) o)) (sym n) (λ posts.
                (let f = subst (NowFacts d.past) n facts posts in
                let opened : PostOpen station r.frame (count r) fs d.fresh d.halves.out.holding r.told = subst (PostNow station fs d.fresh d.halves.out.holding) n p.now posts in
                let told = opened.told_is ∙ ap (λ u. mails_told (joined (news_from station r.frame fs)) ++ u) (nothing_unsent d.fresh d.halves.out.holding known) ∙ append-nil (mails_told (joined (news_from station r.frame fs))) in
                record {
                  begun = opened.begun;
                  told_is = ap (λ u. u ++ m ∷ []) told;
                  few = opened.few;
                  all = λ enough. absurd (
                      let short = drop_short (length r.told) (x.speech.planned r.service []) more m (sym (left_is r f) ∙ l) in
                      let same = ap length told in
                      omega (arith, short, same, enough));
                }));
          }

      first : (r : Row M Q R) (ms : List M) → d.now ≡ Some r → left x.speech r ≡ ms → d.halves.out.holding ≡ None → Posts station fs (side_holds d (first_left ms))
      first r [] n l i = p
      first r (m ∷ ms) n l i = one r m ms n l i

      go : (now : Option (Row M Q R)) (holding : Option (LinkMail M)) (hold : Bool) → d.now ≡ now → d.halves.out.holding ≡ holding → Posts station fs (side_holds d (next_mail x.speech now holding hold))
      go now holding false n e = p
      go None holding true n e = p
      go (Some r) (Some m) true n e = p
      go (Some r) None true n e = first r (left x.speech r) n refl e

  pub next_posts : (station : ℕ) (fs : List (Frame M)) (d : Side M Q R) (c : Choice Q) → NowFacts d.past d.now → (let e = side_begins x.speech (length fs) d d.now c.begin in NowFacts e.past e.now) → Posts station fs d → Posts station fs (side_next x.speech (length fs) d c)
  next_posts station fs d c old new p =
      let e = side_begins x.speech (length fs) d d.now c.begin in
      held_posts station fs e e.halves.out.holding c.hold refl new (began_posts station fs d d.now c.begin refl old new p)

  -- a frame
  posted_stays : (station : ℕ) (fs : List (Frame M)) (f : Frame M) (rs : List (Row M Q R)) (end : ℕ) → AllPosted station fs rs end → AllPosted station (fs ++ f ∷ []) rs end
  posted_stays station fs f [] end a = tt
  posted_stays station fs f (r ∷ rs) end a = (one, posted_stays station fs f rs end a.1)
    where
      ns : List (News M)
      ns = joined (news_from station r.frame fs)

      news : List (News M)
      news = frame_news station (kept_of station fs) f

      one : Posted station (fs ++ f ∷ []) r (next_frame rs end)
      one posts =
          let p = a.0 posts in
          let l = length-append fs (f ∷ []) in
          let b = p.begun in
          let c = p.end_is in
          let k = p.later in
          let n = news_from-length station r.frame fs p.begun in
          record {
            begun = omega (arith, l, b);
            end_is = omega (arith, l, c);
            later = p.later;
            written = ap (all_written (count r)) (news-push station r.frame fs f p.begun) ∙ all_written-append (count r) ns news ∙ ap (λ c. c || all_written (count r - length (mails_told ns)) news) p.written;
            early =
                ap (λ l. all_written (count r) (joined l)) (ap (take (next_frame rs end - r.frame)) (news_from-push station r.frame fs f p.begun)
                ∙ take-append-le (next_frame rs end - r.frame) (news_from station r.frame fs) (news ∷ []) (omega (arith, c, k, n)))
                ∙ p.early;
          }

  now_frame : (station : ℕ) (fs : List (Frame M)) (f : Frame M) (fresh w : Bool) (holding : Option (LinkMail M)) (last behind : ℕ) (now : Option (Row M Q R)) (change : Row M Q R → Row M Q R) →
      ((r : Row M Q R) → (change r).service ≡ r.service) → ((r : Row M Q R) → (change r).frame ≡ r.frame) → ((r : Row M Q R) → (change r).told ≡ r.told) →
      (let kept = kept_of station fs in let hw = has_written (back_news station kept.heard f.back) in
      Tells kept.told holding w (all_told station kept.told (grams f.sent)) behind → (w ≡ false → hw ≡ false) → KeptOut fresh holding last kept.told → PostNow station fs fresh holding now →
      PostNow station (fs ++ f ∷ []) (fresh && not w) (if hw then None else holding) (option_map change now))
  now_frame station fs f fresh w holding last behind None change s g h t q k p = ap (λ b. b && not w) p
  now_frame station fs f fresh w holding last behind (Some r) change s g h t q k p = λ posts.
      (let kept = kept_of station fs in
      let hw = has_written (back_news station kept.heard f.back) in
      let after_frame = post_frame station r.frame (count r) fs f fresh w holding last behind r.told t q k (p (ap x.speech.handed (sym (s r)) ∙ posts)) in
      subst (λ t. PostOpen station (change r).frame (count (change r)) (fs ++ f ∷ []) (fresh && not w) (if hw then None else holding) t) (sym (h r))
      (subst (λ n. PostOpen station n (count (change r)) (fs ++ f ∷ []) (fresh && not w) (if hw then None else holding) r.told) (sym (g r))
      (subst (λ v. PostOpen station r.frame (length (x.speech.planned v [])) (fs ++ f ∷ []) (fresh && not w) (if hw then None else holding) r.told) (sym (s r)) after_frame)))

  pub back_posts : (station : ℕ) (fs : List (Frame M)) (f : Frame M) (d : Side M Q R) → writes station (grams f.back) ≡ writes station (grams f.sent) →
      Tells (kept_of station fs).told d.halves.out.holding (writes station (grams f.sent)) (all_told station (kept_of station fs).told (grams f.sent)) (told_behind station (kept_of station fs).told (grams f.sent)) →
      Posts station fs d → Posts station (fs ++ f ∷ []) (side_back x.speech (length fs) station f.back d)
  back_posts station fs f d e t p =
      let kept = kept_of station fs in
      let w = writes station (grams f.back) in
      let tells : Tells kept.told d.halves.out.holding w (all_told station kept.told (grams f.sent)) (told_behind station kept.told (grams f.sent)) = subst (λ b. Tells kept.told d.halves.out.holding b (all_told station kept.told (grams f.sent)) (told_behind station kept.told (grams f.sent))) (sym e) t in
      let hw = has_written (back_news station kept.heard f.back) in
      let q = none_written station kept.heard f.back in
      let frees = back_frees station kept.heard d.halves f.back in
      let now = now_frame station fs f d.fresh w d.halves.out.holding d.halves.out.last _ d.now (λ r. row_heard x.speech (length fs) (Frames.all_accepted station d.halves (grams f.back)) r) (λ r. refl) (λ r. refl) (λ r. refl) tells q p.out p.now in
      record {
        out = back_out station fs f d e t p.out;
        past = subst (λ k. AllPosted station (fs ++ f ∷ []) d.past k) (end_heard d.now (length fs) (Frames.all_accepted station d.halves (grams f.back))) (posted_stays station fs f d.past (end_of d.now) p.past);
        now = subst (λ h. PostNow station (fs ++ f ∷ []) (d.fresh && not w) h (option_map (λ r. row_heard x.speech (length fs) (Frames.all_accepted station d.halves (grams f.back)) r) d.now)) (sym frees) now;
      }

  pub lost_posts : (station : ℕ) (fs : List (Frame M)) (f : Frame M) (d : Side M Q R) → f.back ≡ [] →
      Tells (kept_of station fs).told d.halves.out.holding (writes station (grams f.sent)) (all_told station (kept_of station fs).told (grams f.sent)) (told_behind station (kept_of station fs).told (grams f.sent)) →
      Posts station fs d → Posts station (fs ++ f ∷ []) (side_lost station f.sent d)
  lost_posts station fs f d e t p =
      let kept = kept_of station fs in
      let w = writes station (grams f.sent) in
      let hw = has_written (back_news station kept.heard f.back) in
      let never : hw ≡ false = ap (λ ds. has_written (back_news station kept.heard ds)) e in
      let now = now_frame station fs f d.fresh w d.halves.out.holding d.halves.out.last _ d.now (λ r. r) (λ r. refl) (λ r. refl) (λ r. refl) t (λ z. never) p.out p.now in
      record {
        out = lost_out station fs f d e t p.out;
        past = posted_stays station fs f d.past (end_of d.now) p.past;
        now = subst (λ h. PostNow station (fs ++ f ∷ []) (d.fresh && not w) h d.now) (sym (lost_holding station fs f d e)) (unchanged d.now now);
      }
    where
      unchanged : (now : Option (Row M Q R)) → PostNow station (fs ++ f ∷ []) (d.fresh && not (writes station (grams f.sent))) (if has_written (back_news station (kept_of station fs).heard f.back) then None else d.halves.out.holding) (option_map (λ r. r) now) →
          PostNow station (fs ++ f ∷ []) (d.fresh && not (writes station (grams f.sent))) (if has_written (back_news station (kept_of station fs).heard f.back) then None else d.halves.out.holding) now
      unchanged None h = h
      unchanged (Some r) h = h

  -- by the table of completed services
  first_written : (q : Q) (n f : ℕ) (before : List (News M)) (nss : List (List (News M))) → n ≡ length (x.speech.planned q []) → all_written n before ≡ false → is_some (first_end (mails_end x.speech q true) f before nss) ≡ all_written n (before ++ joined nss)
  first_written q n f before [] e none = sym (ap (all_written n) (append-nil before) ∙ none)
  first_written q n f before (ns ∷ nss) e none = go (all_written n (before ++ ns)) refl (λ h. first_written q n (suc f) (before ++ ns) nss e h)
    where
      whole : before ++ joined (ns ∷ nss) ≡ (before ++ ns) ++ joined nss
      whole = sym (append_assoc before ns (joined nss))

      named : mails_end x.speech q true (before ++ ns) ≡ (if all_written n (before ++ ns) then Some Outcome.Handed else None)
      named = ap (λ k. if all_written k (before ++ ns) then Some Outcome.Handed else None) (sym e)

      go : (b : Bool) → all_written n (before ++ ns) ≡ b → (all_written n (before ++ ns) ≡ false → is_some (first_end (mails_end x.speech q true) (suc f) (before ++ ns) nss) ≡ all_written n ((before ++ ns) ++ joined nss)) →
          is_some (or_later (mails_end x.speech q true (before ++ ns)) f (first_end (mails_end x.speech q true) (suc f) (before ++ ns) nss)) ≡ all_written n (before ++ joined (ns ∷ nss))
      go true h more =
          ap (λ r. is_some (or_later r f (first_end (mails_end x.speech q true) (suc f) (before ++ ns) nss))) (named ∙ ap (λ b. if b then Some Outcome.Handed else None) h)
          ∙ sym (ap (all_written n) whole ∙ all_written-append n (before ++ ns) (joined nss) ∙ ap (λ b. b || all_written (n - length (mails_told (before ++ ns))) (joined nss)) h)
      go false h more =
          ap (λ r. is_some (or_later r f (first_end (mails_end x.speech q true) (suc f) (before ++ ns) nss))) (named ∙ ap (λ b. if b then Some Outcome.Handed else None) h)
          ∙ more h ∙ ap (all_written n) (sym whole)

  completes : (more : M → Bool) (station : ℕ) (fs : List (Frame M)) (r : Row M Q R) → x.speech.handed r.service ≡ true → is_some (first_end (ends x.speech more (Task.Mails r.service)) r.frame [] (news_from station r.frame fs)) ≡ all_written (count r) (joined (news_from station r.frame fs))
  completes more station fs r posts = ap (λ b. is_some (first_end (mails_end x.speech r.service b) r.frame [] (news_from station r.frame fs))) posts ∙ first_written r.service (count r) r.frame [] (news_from station r.frame fs) refl refl

  past_handed : (more : M → Bool) (station : ℕ) (fs : List (Frame M)) (rs : List (Row M Q R)) (end : ℕ) → AllPosted station fs rs end → AllHanded x.speech more station fs rs
  past_handed more station fs [] end a = tt
  past_handed more station fs (r ∷ rs) end a = ((λ posts. completes more station fs r posts ∙ (a.0 posts).written), past_handed more station fs rs end a.1)

  now_over : (station : ℕ) (fs : List (Frame M)) (r : Row M Q R) (fresh : Bool) (holding : Option (LinkMail M)) (last kept : ℕ) → x.speech.handed r.service ≡ true → Facts r → KeptOut fresh holding last kept → PostOpen station r.frame (count r) fs fresh holding r.told →
      all_written (count r) (joined (news_from station r.frame fs)) ≡ is_over x.speech holding fresh r
  now_over station fs r true holding last kept posts f k p =
      let fresh : IsFresh holding last kept = k in
      let told = ap length p.told_is ∙ ap (λ h. length (mails_told (joined (news_from station r.frame fs)) ++ bodies h)) fresh.holds ∙ length-append (mails_told (joined (news_from station r.frame fs))) (fresh.mail.body ∷ []) in
      let most = length-append r.told f.mine.0 in
      let whole = ap length f.mine.1 in
      let less : length (mails_told (joined (news_from station r.frame fs))) < count r = omega (arith, told, most, whole) in
      p.few less ∙ sym (over_handed holding true r posts f.unanswered ∙ ap (λ h. is_none_left (left x.speech r) && is_none h) fresh.holds ∙ no (is_none_left (left x.speech r)))
    where
      no : (b : Bool) → b && false ≡ false
      no true = refl
      no false = refl
  now_over station fs r false holding last kept posts f k p =
      let told : r.told ≡ mails_told (joined (news_from station r.frame fs)) = p.told_is ∙ append-nil _ in
      let same = ap length told in
      let over = over_handed holding false r posts f.unanswered ∙ ap (λ l. is_none_left l && is_none holding) (left_is r f) in
      elim (leb_tells (count r) (length (mails_told (joined (news_from station r.frame fs))))) [
        | inl c ↦ let enough = c.1 in p.all enough ∙ sym (over ∙ ap (λ b. b && is_none holding) (left_none (length r.told) (x.speech.planned r.service []) (omega (arith, enough, same))))
        | inr c ↦ let few = c.1 in p.few few ∙ sym (over ∙ ap (λ b. b && is_none holding) (left_some (length r.told) (x.speech.planned r.service []) (omega (arith, few, same))))
      ]

  pub now_handed : (more : M → Bool) (station : ℕ) (fs : List (Frame M)) (d : Side M Q R) → NowFacts d.past d.now → Posts station fs d → NowHanded x.speech more station fs d d.now
  now_handed more station fs d facts p = go d.now facts p.now
    where
      go : (now : Option (Row M Q R)) → NowFacts d.past now → PostNow station fs d.fresh d.halves.out.holding now → NowHanded x.speech more station fs d now
      go None facts opened = tt
      go (Some r) facts opened = λ posts. completes more station fs r posts ∙ now_over station fs r d.fresh d.halves.out.holding d.halves.out.last (kept_of station fs).told posts (facts posts) p.out (opened posts)

  -- a completed service is of a frame before that at which all was written
  before_end : (q : Q) (n f k : ℕ) (before : List (News M)) (nss : List (List (News M))) (o : Outcome R × ℕ) → n ≡ length (x.speech.planned q []) → all_written n before ≡ false → all_written n (before ++ joined (take k nss)) ≡ true →
      first_end (mails_end x.speech q true) f before nss ≡ Some o → o.1 < f + k
  before_end q n f k before [] o e none all found = absurd (let bad : None ≡ Some o = found in cc)
  before_end q n f zero before (ns ∷ nss) o e none all found = absurd (let bad : false ≡ true = sym none ∙ ap (all_written n) (sym (append-nil before)) ∙ all in cc)
  before_end q n f (suc k) before (ns ∷ nss) o e none all found = go (all_written n (before ++ ns)) refl (λ h g. before_end q n (suc f) k (before ++ ns) nss o e h (ap (all_written n) (append_assoc before ns (joined (take k nss))) ∙ all) g)
    where
      named : mails_end x.speech q true (before ++ ns) ≡ (if all_written n (before ++ ns) then Some Outcome.Handed else None)
      named = ap (λ k. if all_written k (before ++ ns) then Some Outcome.Handed else None) (sym e)

      go : (b : Bool) → all_written n (before ++ ns) ≡ b → (all_written n (before ++ ns) ≡ false → first_end (mails_end x.speech q true) (suc f) (before ++ ns) nss ≡ Some o → o.1 < suc f + k) → o.1 < f + suc k
      go true h later =
          let hit : Some (Outcome.Handed, f) ≡ Some o = sym (ap (λ r. or_later r f (first_end (mails_end x.speech q true) (suc f) (before ++ ns) nss)) (named ∙ ap (λ b. if b then Some Outcome.Handed else None) h)) ∙ found in
          let same : (Outcome.Handed, f) ≡ o = cc in
          let at : f ≡ o.1 = ap (λ p. p.1) same in
          omega (arith, at)
      go false h later =
          let miss : first_end (mails_end x.speech q true) (suc f) (before ++ ns) nss ≡ Some o = sym (ap (λ r. or_later r f (first_end (mails_end x.speech q true) (suc f) (before ++ ns) nss)) (named ∙ ap (λ b. if b then Some Outcome.Handed else None) h)) ∙ found in
          let r = later h miss in
          omega (arith, r)

  -- and each outcome of one of the frames
  within_frames : {T : Type 0} (e : List (News M) → Option T) (f : ℕ) (before : List (News M)) (nss : List (List (News M))) (o : T × ℕ) → first_end e f before nss ≡ Some o → o.1 < f + length nss
  within_frames e f before [] o found = absurd (let bad : None ≡ Some o = found in cc)
  within_frames {T} e f before (ns ∷ nss) o found = go (e (before ++ ns)) refl (λ g. within_frames e (suc f) (before ++ ns) nss o g)
    where
      go : (r : Option T) → e (before ++ ns) ≡ r → (first_end e (suc f) (before ++ ns) nss ≡ Some o → o.1 < suc f + length nss) → o.1 < f + suc (length nss)
      go None h later = let r = later (sym (ap (λ r. or_later r f (first_end e (suc f) (before ++ ns) nss)) h) ∙ found) in omega (arith, r)
      go (Some t) h later =
          let hit : Some (t, f) ≡ Some o = sym (ap (λ r. or_later r f (first_end e (suc f) (before ++ ns) nss)) h) ∙ found in
          let same : (t, f) ≡ o = cc in
          let at : f ≡ o.1 = ap (λ p. p.1) same in
          omega (arith, at)

  outcome_is : (answer : Option (R × ℕ)) (o : Outcome R × ℕ) → as_outcome answer ≡ Some o → (a : R × ℕ) × (answer ≡ Some a) × (a.1 ≡ o.1)
  outcome_is None o e = absurd (let bad : None ≡ Some o = e in cc)
  outcome_is (Some a) o e = let same : (Outcome.Replied a.0, a.1) ≡ o = cc in (a, refl, ap (λ p. p.1) same)

  row_rises : (more : M → Bool) (station : ℕ) (fs : List (Frame M)) (r : Row M Q R) (end : ℕ) → IsAnswered x.speech more station fs r → ((answer : R × ℕ) → r.answer ≡ Some answer → answer.1 < end) →
      (x.speech.handed r.service ≡ true → (o : Outcome R × ℕ) → first_end (mails_end x.speech r.service true) r.frame [] (news_from station r.frame fs) ≡ Some o → o.1 < end) →
      (o : Outcome R × ℕ) → first_end (ends x.speech more (Task.Mails r.service)) r.frame [] (news_from station r.frame fs) ≡ Some o → o.1 < end
  row_rises more station fs r end answered rises posts o found = go (x.speech.handed r.service) refl
    where
      go : (b : Bool) → x.speech.handed r.service ≡ b → o.1 < end
      go true h = posts h o (ap (λ b. first_end (mails_end x.speech r.service b) r.frame [] (news_from station r.frame fs)) (sym h) ∙ found)
      go false h =
          let a = outcome_is r.answer o (answered.replied h ∙ found) in
          let less = rises a.0 a.1 in
          let same = a.2 in
          omega (arith, less, same)

  posted_rises : (station : ℕ) (fs : List (Frame M)) (r : Row M Q R) (end : ℕ) → Posted station fs r end → x.speech.handed r.service ≡ true → (o : Outcome R × ℕ) → first_end (mails_end x.speech r.service true) r.frame [] (news_from station r.frame fs) ≡ Some o → o.1 < end
  posted_rises station fs r end p h o found =
      let q = p h in
      let less = before_end r.service (count r) r.frame (end - r.frame) [] (news_from station r.frame fs) o refl refl q.early found in
      let later = q.later in
      omega (arith, less, later)

  -- the newest row began with one of the frames, or with the next
  abbrev pub BegunBy : List (Frame M) → Option (Row M Q R) → Type 0
  BegunBy fs None = ⊤
  BegunBy fs (Some r) = r.frame ≤ length fs

  all_rise_one : (more : M → Bool) (station : ℕ) (fs : List (Frame M)) (s : Row M Q R) → IsAnswered x.speech more station fs s → ((answer : R × ℕ) → s.answer ≡ Some answer → answer.1 < length fs) → s.frame ≤ length fs →
      OutcomesRise x.speech more station fs (s ∷ []) (length fs)
  all_rise_one more station fs s a r b = (
    (row_rises more station fs s (length fs) a r (λ h o found. (
        let within = within_frames (mails_end x.speech s.service true) s.frame [] (news_from station s.frame fs) o found in
        let long = news_from-length station s.frame fs b in
        omega (arith, within, long)))),
    tt,
  )

  all_rise : (more : M → Bool) (station : ℕ) (fs : List (Frame M)) (past : List (Row M Q R)) (now : Option (Row M Q R)) → AllAnswered x.speech more station fs (past ++ newest now) → Rises (past ++ newest now) (length fs) → AllPosted station fs past (end_of now) → BegunBy fs now →
      NowFacts past now → OutcomesRise x.speech more station fs (past ++ newest now) (length fs)
  all_rise more station fs [] None a r p b n = tt
  all_rise more station fs [] (Some s) a r p b n = all_rise_one more station fs s a.0 r.0 b
  all_rise more station fs (s ∷ []) None a r p b n = absurd (let bad : s ∷ [] ≡ [] = n in cc)
  all_rise more station fs (s ∷ []) (Some t) a r p b n =
      (row_rises more station fs s t.frame a.0 r.0 (posted_rises station fs s t.frame p.0), all_rise_one more station fs t a.1.0 r.1.0 b)
  all_rise more station fs (s ∷ (t ∷ past)) None a r p b n = absurd (let bad : s ∷ (t ∷ past) ≡ [] = n in cc)
  all_rise more station fs (s ∷ (t ∷ past)) (Some u) a r p b n =
      (row_rises more station fs s t.frame a.0 r.0 (posted_rises station fs s t.frame p.0), all_rise more station fs (t ∷ past) (Some u) a.1 r.1 p.1 b (λ h. n h))

  pub handed_by : (more : M → Bool) (station : ℕ) (fs : List (Frame M)) (start : V) (d : Side M Q R) (n : Slave V M) → AllAnswered x.speech more station fs (rows_of d) → Rises (rows_of d) (length fs) → BegunBy fs d.now → NowFacts d.past d.now → Posts station fs d →
      HandedBy x more fs station start d n
  handed_by more station fs start d n answered rises begun facts p = record {
    past = past_handed more station fs d.past (end_of d.now) p.past;
    now = now_handed more station fs d facts p;
    rises = all_rise more station fs d.past d.now answered rises p.past begun facts;
  }
