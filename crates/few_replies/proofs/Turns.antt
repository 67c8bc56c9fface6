-- Turn by turn: no mail that is always answered is over before a reply of it was heard.
use Rattle.std.proofs.Common.{◌≡◌, ◌⊎◌, inl, inr, ℕ, zero, suc, ◌-◌, ◌<◌, ◌&&◌, Bool, true, false, not, Option, Some, None, option_map, List, [], ◌∷◌, ◌++◌, map, take, drop, length, refl, ap, sym, ◌∙◌, subst, arith, append-nil, length-append, if◌then◌else◌}
use Rattle.std.specs.Prelude.{replicate}
use Rattle.slave_parts.specs.of_exchange_model.Exchange.{Exchange, IsLawful}
use Rattle.slave_parts.specs.of_exchange_model.Rows.{Row, begun, row_heard}
use Rattle.slave_parts.specs.of_link_model.Link.{Halves}
use Rattle.slave_parts.specs.of_link_model.Frames.{all_accepted}
use Rattle.slave_parts.specs.of_link_model.Segment.{RingFate}
use Rattle.slave_parts.specs.of_segment_model.Slaves.{Registers, Processor, Slave, Datagram, Access, Address, grams, slave_after, frame_after, Ring, first_meet, ring_after, ring_back, ring_steps}
use Rattle.slave_parts.specs.of_segment_model.Record as Rec
use Rattle.slave_parts.specs.of_segment_model.Record.{Frame, News, is_for, all_told, told_behind, frame_news, back_news, did_read}
use Rattle.slave_parts.specs.of_segment_model.Ends.{Passing}
use Rattle.slave_parts.specs.of_segment_model.Seats.{Side, Seat, Choice, newest, side_begins, side_next, side_back, side_lost, seat_next, seat_back, seats_after, writes, IsOpening}
use Rattle.slave_parts.proofs.of_segment_model.Sounds.{began_halves}
use Rattle.slave_parts.proofs.of_segment_model.Answers.{kept_of}
use Rattle.slave_parts.proofs.of_segment_model.Written.{frame_tells, losts_out}
use Rattle.slave_parts.proofs.of_segment_model.Posts.{KeptOut, writes-all_back}
use Rattle.slave_parts.proofs.of_segment_model.Handed.{KeptSide, next_out, back_out, lost_out}
use Rattle.slave_parts.proofs.of_segment_model.Kept.{Follows, nexts_follow, afters_follow, new_follows}
use Rattle.slave_parts.proofs.of_segment_model.Hands.{new_out}
use Rattle.slave_parts.specs.of_state_model.Accounts.{Pick, IsServed, IsServed.nothing, IsServed.other, IsServed.quiet, IsServed.own, duty_access, mails_choice}
use Rattle.slave_parts.specs.of_life_model.Own as Own
use Rattle.slave_parts.specs.of_life_model.Own.{own_fate, own_frame, blank}
use Rattle.slave_parts.specs.of_life_model.Lives.{Spot, Era, ReadsFull, AsksOpen, granted, passes, new_era, era_next}
use Rattle.slave_parts.specs.of_life_model.Eras.{era_frames, planned, opened_slave}
use Rattle.slave_parts.proofs.of_life_model.Eras.{frames_push}
use Rattle.slave_parts.specs.of_serving_model.Tagged.{no_reply}
use Rattle.few_replies.specs.Led.{AllHeard, NowHeard, NoneUnheard, IsLed, EraTurn, frame_in, turn_after, has_step, counted_news, counts_behind, AreSingle}
use Rattle.few_replies.proofs.Founds.{AllFindNone}
use Rattle.few_replies.proofs.Passings.{skips, sends, counted_told}
use Rattle.few_replies.proofs.Withdrawn.{IsHidden}
use Rattle.few_replies.proofs.Awaits.{Awaits, StageOf}
use Rattle.few_replies.proofs.Hears.{Meets, goes, hides_back, hides_lost, known_tells}
use Rattle.few_replies.proofs.Steps.{StageBy, RowStage, NowStage, steps}
use Rattle.few_replies.proofs.Picks.{NewOf, begins as row_begins, Begins, holds}

-- what a frame's datagrams find before their slave meets them
module _ {M : Type 0} (station : ℕ) where
  finds_none : (access : Option Access) (ds : List (Datagram M)) → IsServed station access ds → AllFindNone station ds
  finds_none access ds nothing = tt
  finds_none access ds (other d later is rest) = (
    (λ mine. absurd (let bad : true ≡ false = sym mine ∙ ap (is_for station) is.address ∙ is.apart in cc)),
    finds_none access later rest,
  )
  finds_none access ds (quiet d later is none rest) = ((λ mine. none), finds_none access later rest)
  finds_none access ds (own d later at none rest) = ((λ mine. none), finds_none None later rest)

  -- a status that is read by the slave's own datagrams is read
  reads_own : (ds : List (Datagram M)) → ReadsFull station (Own.own station ds) → ReadsFull station ds
  reads_own [] r = r
  reads_own (d ∷ ds) r = go (is_for station d.address) r (reads_own ds)
    where
      go : (b : Bool) → ReadsFull station (if b then d ∷ Own.own station ds else Own.own station ds) → (ReadsFull station (Own.own station ds) → ReadsFull station ds) → ((d.address ≡ Address.Station station) × (d.access ≡ Access.ReadFull)) ⊎ ReadsFull station ds
      go true (inl e) more = inl e
      go true (inr e) more = inr (more e)
      go false e more = inr (more e)

and_true : (b : Bool) → b && true ≡ b
and_true true = refl
and_true false = refl

one_slave : {V M : Type 0} (a b : ℕ) (s n : Slave V M) → ◌≡◌ {A = Ring V M} ((a, s) ∷ []) ((b, n) ∷ []) → s ≡ n
one_slave {V} {M} a b s n e = let pair : ◌≡◌ {A = ℕ × Slave V M} (a, s) (b, n) = cc in ap (λ p. p.1) pair

unheard_append : {M : Type 0} (e : M → Bool) (xs ys : List M) → no_reply e (xs ++ ys) ≡ no_reply e xs && no_reply e ys
unheard_append e [] ys = refl
unheard_append e (x ∷ xs) ys = go (e x) (unheard_append e xs ys)
  where
    go : (b : Bool) → no_reply e (xs ++ ys) ≡ no_reply e xs && no_reply e ys → (if b then no_reply e (xs ++ ys) else false) ≡ (if b then no_reply e xs else false) && no_reply e ys
    go true h = h
    go false h = refl

and_false : (b : Bool) → b && false ≡ false
and_false true = refl
and_false false = refl

module _ {V A M Q R : Type 0} (x : Exchange V A M Q R) (law : IsLawful x) (acknowledged : Q → Bool) (processor : Processor V) (more : M → Bool) (passed : Q → Bool) (station : ℕ) where
  -- what is known of a seat behind a frame
  record Behind (fs : List (Frame M)) (s : Seat V M Q R) (counts : Bool) (passing : Option Passing) : Type 0 where
    follow : Follows x law fs (s ∷ [])
    out : KeptSide x law station fs s.side
    hidden : IsHidden counts s.side.halves.inn s.slave.node.inn
    stage : NowStage x law processor passed passing s.side.now s

  abbrev by_news : Option Passing → List (News M) → Option Passing
  by_news p ns = passes x.speech acknowledged more passed p ns

  module _ (es : List (Frame M)) (k : ℕ) (long : length es ≡ k) (s : Seat V M Q R) (at : s.station ≡ station) (ds : List (Datagram M)) (counts : Bool) (follow : Follows x law es (s ∷ [])) (meets : Meets s ds (kept_of s.station es) counts)
      (passing : Option Passing) (stage : NowStage x law processor passed passing s.side.now s) where
    abbrev told : List M
    told = all_told s.station (kept_of s.station es).told (grams ds)

    -- A FRAME THAT COMES BACK
    abbrev came : Frame M
    came = record { sent = ds; fate = RingFate.Back; back = frame_after s.station s.slave ds }

    abbrev seat_came : Seat V M Q R
    seat_came = seat_back x k s ds came.back

    follow_came : Follows x law (es ++ came ∷ []) (seat_came ∷ [])
    follow_came = subst (λ n. Follows x law (es ++ came ∷ []) (seat_back x n s ds came.back ∷ [])) long (afters_follow x law es (s ∷ []) ds RingFate.Back (meets.frame, tt) follow)

    row_came : (r : Row M Q R) → RowStage x law processor passed passing r s → RowStage x law processor passed (by_news passing (counted_news counts (frame_news s.station (kept_of s.station es) came))) (row_heard x.speech k (all_accepted s.station s.side.halves (grams came.back)) r) seat_came
    row_came r w a = go passing (w a)
      where
        ms : List M
        ms = all_accepted s.station s.side.halves (grams came.back)

        news : List (News M)
        news = counted_news counts (frame_news s.station (kept_of s.station es) came)

        heard_before : no_reply x.speech.emission r.heard ≡ false → no_reply x.speech.emission (r.heard ++ ms) ≡ false
        heard_before h = unheard_append x.speech.emission r.heard ms ∙ ap (λ b. b && no_reply x.speech.emission ms) h

        heard_now : no_reply x.speech.emission ms ≡ false → no_reply x.speech.emission (r.heard ++ ms) ≡ false
        heard_now h = unheard_append x.speech.emission r.heard ms ∙ ap (λ b. no_reply x.speech.emission r.heard && b) h ∙ and_false (no_reply x.speech.emission r.heard)

        on : (p : Passing) → StageOf x p a.mail r.told s → (b : Bool) → no_reply x.speech.emission ms ≡ b → (no_reply x.speech.emission (r.heard ++ ms) ≡ false) ⊎ StageBy x law processor passed (by_news (Some p) news) a.mail r.told seat_came
        on p z false e = inl (heard_now e)
        on p z true e =
            let g = goes x acknowledged more passed s ds (kept_of s.station es) counts meets k (follow_came.agrees).0 e p a.mail r.told z in
            let same : by_news (Some p) news ≡ Some g.0 = ap (by_news (Some p)) (counted_told counts told (back_news s.station (kept_of s.station es).heard came.back)) ∙ g.1 in
            inr (subst (λ q. StageBy x law processor passed q a.mail r.told seat_came) (sym same) g.2)

        go : (passing : Option Passing) → (no_reply x.speech.emission r.heard ≡ false) ⊎ StageBy x law processor passed passing a.mail r.told s →
            (no_reply x.speech.emission (r.heard ++ ms) ≡ false) ⊎ StageBy x law processor passed (by_news passing news) a.mail r.told seat_came
        go p (inl h) = inl (heard_before h)
        go None (inr z) = absurd z
        go (Some p) (inr z) = on p z (no_reply x.speech.emission ms) refl

    behind_came : Behind (es ++ came ∷ []) seat_came (counts && not (did_read s.station (grams came.back))) (by_news passing (counted_news counts (frame_news s.station (kept_of s.station es) came)))
    behind_came = record {
      follow = follow_came;
      out = subst (λ n. KeptSide x law n (es ++ came ∷ []) seat_came.side) at
          (subst (λ n. KeptSide x law s.station (es ++ came ∷ []) (side_back x.speech n s.station came.back s.side)) long
          (back_out x law s.station es came s.side (writes-all_back s.station ((s.station, s.slave) ∷ []) ds) (frame_tells s.station (kept_of s.station es).told s.side.halves (grams ds) meets.frame) meets.out));
      hidden = hides_back s.station s.side.halves s.slave ds counts meets.frame meets.hidden;
      stage = now_came s.side.now stage;
    }
      where
        now_came : (now : Option (Row M Q R)) → NowStage x law processor passed passing now s →
            NowStage x law processor passed (by_news passing (counted_news counts (frame_news s.station (kept_of s.station es) came))) (option_map (λ r. row_heard x.speech k (all_accepted s.station s.side.halves (grams came.back)) r) now) seat_came
        now_came None w = tt
        now_came (Some r) w = row_came r w

    -- A LOST ONE, met by the slave or not
    module _ (after : ℕ) (met : Bool) where
      abbrev lost : Frame M
      lost = record { sent = ds; fate = RingFate.Lost after; back = [] }

      abbrev seat_lost : Seat V M Q R
      seat_lost = record s { side = side_lost s.station ds s.side; slave = if met then slave_after s.station s.slave ds else s.slave }

      holding_same : seat_lost.side.halves.out.holding ≡ s.side.halves.out.holding
      holding_same = ap (λ o. o.holding) (losts_out s.station s.side.halves (grams ds))

      row_lost : (r : Row M Q R) → RowStage x law processor passed passing r s → RowStage x law processor passed (by_news passing (counted_news counts (frame_news s.station (kept_of s.station es) lost))) r seat_lost
      row_lost r w a = go passing (w a)
        where
          news : List (News M)
          news = counted_news counts (frame_news s.station (kept_of s.station es) lost)

          none : counted_news {M = M} counts [] ≡ []
          none = nothing counts
            where
              nothing : (b : Bool) → counted_news {M = M} b [] ≡ []
              nothing true = refl
              nothing false = refl

          news_is : news ≡ map (λ m. News.Told m) told ++ []
          news_is = counted_told counts told [] ∙ ap (λ l. map (λ m. News.Told m) told ++ l) none

          kept_on : (p : Passing) → by_news (Some p) (map (λ m. News.Told m) told ++ []) ≡ Some p → StageOf x p a.mail r.told seat_lost → StageBy x law processor passed (by_news (Some p) news) a.mail r.told seat_lost
          kept_on p e z = subst (λ q. StageBy x law processor passed q a.mail r.told seat_lost) (sym (ap (by_news (Some p)) news_is ∙ e)) z

          known : s.side.fresh ≡ false → told ≡ []
          known f = known_tells s.side.halves.out.holding s.side.halves.out.last (kept_of s.station es).told meets.behind (writes s.station (grams ds)) told meets.tells
              (subst (λ b. KeptOut b s.side.halves.out.holding s.side.halves.out.last (kept_of s.station es).told) f meets.out)

          awaits : Awaits x a.mail s → Awaits x a.mail seat_lost
          awaits (inl l) = inl l
          awaits (inr j) = inr (record { taken = j.taken; first = j.first; reply = j.reply; rest = j.rest; offered = j.offered; replies = j.replies; few = j.few })

          sent_lost : r.told ≡ a.mail ∷ [] → Awaits x a.mail s → (ts : List M) → told ≡ ts → StageBy x law processor passed (by_news (Some Passing.Waiting) news) a.mail r.told seat_lost
          sent_lost e z [] f = kept_on Passing.Waiting (ap (λ l. by_news (Some Passing.Waiting) (map (λ m. News.Told m) l ++ [])) f) (inr (e, awaits z))
          sent_lost e z (u ∷ ts) f =
              subst (λ q. StageBy x law processor passed q a.mail r.told seat_lost)
              (sym (ap (by_news (Some Passing.Waiting)) news_is ∙ ap (λ l. by_news (Some Passing.Waiting) (map (λ m. News.Told m) l ++ [])) f ∙ sends x.speech acknowledged more passed u ts [])) (e, awaits z)

          on : (p : Passing) → StageOf x p a.mail r.told s → StageBy x law processor passed (by_news (Some p) news) a.mail r.told seat_lost
          on Passing.Waiting (inl z) = kept_on Passing.Waiting (ap (λ l. by_news (Some Passing.Waiting) (map (λ m. News.Told m) l ++ [])) (known z.1)) (inl (z.0, ap (λ b. b && not (writes s.station (grams ds))) z.1))
          on Passing.Waiting (inr z) = sent_lost z.0 z.1 told refl
          on Passing.Sent z = kept_on Passing.Sent (skips x.speech acknowledged more passed Passing.Sent (λ m. refl) told []) (z.0, awaits z.1)
          on Passing.Boxed z = kept_on Passing.Boxed (skips x.speech acknowledged more passed Passing.Boxed (λ m. refl) told []) (z.0, awaits z.1, holding_same ∙ z.2)
          on Passing.Served z =
              let j = z.1.0 in
              kept_on Passing.Served (skips x.speech acknowledged more passed Passing.Served (λ m. refl) told [])
              (z.0, (record { taken = j.taken; first = j.first; reply = j.reply; rest = j.rest; offered = j.offered; replies = j.replies; few = j.few }, z.1.1))
          on Passing.Answered z = absurd z

          go : (passing : Option Passing) → (no_reply x.speech.emission r.heard ≡ false) ⊎ StageBy x law processor passed passing a.mail r.told s →
              (no_reply x.speech.emission r.heard ≡ false) ⊎ StageBy x law processor passed (by_news passing news) a.mail r.told seat_lost
          go p (inl h) = inl h
          go None (inr z) = absurd z
          go (Some p) (inr z) = inr (on p z)

      now_lost : (now : Option (Row M Q R)) → NowStage x law processor passed passing now s → NowStage x law processor passed (by_news passing (counted_news counts (frame_news s.station (kept_of s.station es) lost))) now seat_lost
      now_lost None w = tt
      now_lost (Some r) w = row_lost r w

      behind_lost : Follows x law (es ++ lost ∷ []) (seat_lost ∷ []) → Behind (es ++ lost ∷ []) seat_lost counts (by_news passing (counted_news counts (frame_news s.station (kept_of s.station es) lost)))
      behind_lost f = record {
        follow = f;
        out = subst (λ n. KeptSide x law n (es ++ lost ∷ []) seat_lost.side) at (lost_out x law s.station es lost s.side refl (frame_tells s.station (kept_of s.station es).told s.side.halves (grams ds) meets.frame) meets.out);
        hidden = hides_lost s.station s.side.halves s.slave ds counts meets.frame meets.agrees.inn.knows meets.hidden met;
        stage = now_lost s.side.now stage;
      }

module _ {V A M Q R : Type 0} (x : Exchange V A M Q R) (law : IsLawful x) (acknowledged : Q → Bool) (processor : Processor V) (more : M → Bool) (passed : Q → Bool) (spot : Spot) (opened : ℕ) where
  abbrev frames : List (Frame M) → List (Frame M)
  frames fs = era_frames spot opened (length fs) fs

  -- WHAT IS KEPT of an epoch that its master leads
  record Kept (fs : List (Frame M)) (counts : Bool) (e : Era M Q R) (n : Slave V M) : Type 0 where
    start : V
    held : List M
    taken : List M
    offered : List M
    accepted : List M
    long : length (frames fs) ≡ length fs
    later : opened < length fs
    follow : Follows x law (frames fs) (record { station = spot.station; start = start; side = e.side; slave = n; held = held; taken = taken; offered = offered; accepted = accepted } ∷ [])
    out : KeptSide x law spot.station (frames fs) e.side
    hidden : IsHidden counts e.side.halves.inn n.node.inn
    new : NewOf x law processor acknowledged more passed e.side.now e.side.fresh
    past : AllHeard x passed e.side.past
    stage : NowStage x law processor passed e.passing e.side.now (record { station = spot.station; start = start; side = e.side; slave = n; held = held; taken = taken; offered = offered; accepted = accepted })

  abbrev seat_of : (fs : List (Frame M)) (counts : Bool) (e : Era M Q R) (n : Slave V M) → Kept fs counts e n → Seat V M Q R
  seat_of fs counts e n k = record { station = spot.station; start = k.start; side = e.side; slave = n; held = k.held; taken = k.taken; offered = k.offered; accepted = k.accepted }

  -- so none is over unheard
  now_heard : (passing : Option Passing) (now : Option (Row M Q R)) (s : Seat V M Q R) → NowStage x law processor passed passing now s → NowHeard x passed passing now
  now_heard (Some p) now s w = tt
  now_heard None None s w = tt
  now_heard None (Some r) s w = λ a. elim (w a) [ inl h ↦ h | inr z ↦ absurd z ]

  unheard_none : (fs : List (Frame M)) (counts : Bool) (e : Era M Q R) (n : Slave V M) → Kept fs counts e n → NoneUnheard x passed e
  unheard_none fs counts e n k = record { past = k.past; now = now_heard e.passing e.side.now (seat_of fs counts e n k) k.stage }

  pushed : (fs : List (Frame M)) (f : Frame M) → length (fs ++ f ∷ []) ≡ suc (length fs)
  pushed fs f = let e = length-append fs (f ∷ []) in omega (arith, e)

  frames_are : (fs : List (Frame M)) (f : Frame M) → opened < length fs → frames (fs ++ f ∷ []) ≡ frames fs ++ own_frame spot.station spot.place f ∷ []
  frames_are fs f later = ap (λ n. era_frames spot opened n (fs ++ f ∷ [])) (pushed fs f) ∙ frames_push spot opened fs f later

  -- BEHIND A FRAME and its steps
  finish : (fs : List (Frame M)) (counts : Bool) (f F : Frame M) (steps_made : List ℕ) (s : Seat V M Q R) (e : Era M Q R) (n : Slave V M) → length (frames fs) ≡ length fs → opened < length fs → F ≡ own_frame spot.station spot.place f → s.station ≡ spot.station → s.side ≡ e.side →
      Behind x law acknowledged processor more passed spot.station (frames fs ++ F ∷ []) s counts e.passing → ring_steps x processor ((s.station, s.slave) ∷ []) steps_made ≡ (spot.station, n) ∷ [] → NewOf x law processor acknowledged more passed e.side.now e.side.fresh → AllHeard x passed e.side.past →
      Kept (fs ++ f ∷ []) (if has_step steps_made then true else counts) e n
  finish fs counts f F ks s e n long later is at same b rings new past =
      let m = steps x law processor passed (frames fs ++ F ∷ []) ks s counts e.passing s.side.now b.follow b.hidden b.stage in
      let t = m.seat in
      let slave : t.slave ≡ n = one_slave t.station spot.station t.slave n (sym m.ring ∙ rings) in
      let station : t.station ≡ spot.station = m.station ∙ at in
      let side : t.side ≡ e.side = m.side ∙ same in
      let all : frames fs ++ F ∷ [] ≡ frames (fs ++ f ∷ []) = ap (λ g. frames fs ++ g ∷ []) is ∙ sym (frames_are fs f later) in
      let whole : t ≡ record { station = spot.station; start = t.start; side = e.side; slave = n; held = t.held; taken = t.taken; offered = t.offered; accepted = t.accepted } =
      (λ i. record { station = station i; start = t.start; side = side i; slave = slave i; held = t.held; taken = t.taken; offered = t.offered; accepted = t.accepted }) in
      let grown = pushed fs f in
      let frames_long = ap length (frames_are fs f later) ∙ length-append (frames fs) (own_frame spot.station spot.place f ∷ []) in
      record {
        start = t.start;
        held = t.held;
        taken = t.taken;
        offered = t.offered;
        accepted = t.accepted;
        long = omega (arith, grown, frames_long, long);
        later = omega (arith, later, grown);
        follow = subst (λ l. Follows x law l (record { station = spot.station; start = t.start; side = e.side; slave = n; held = t.held; taken = t.taken; offered = t.offered; accepted = t.accepted } ∷ [])) all
            (subst (λ q. Follows x law (frames fs ++ F ∷ []) (q ∷ [])) whole m.follow);
        out = subst (λ l. KeptSide x law spot.station l e.side) all (subst (λ d. KeptSide x law spot.station (frames fs ++ F ∷ []) d) same b.out);
        hidden = subst (λ d. IsHidden (if has_step ks then true else counts) d.halves.inn n.node.inn) side (subst (λ o. IsHidden (if has_step ks then true else counts) t.side.halves.inn o.node.inn) slave m.hidden);
        new = new;
        past = past;
        stage = subst (λ q. NowStage x law processor passed e.passing e.side.now q) whole (subst (λ d. NowStage x law processor passed e.passing d.now t) same m.stage);
      }

  -- BEFORE A FRAME, by the master's choice
  record Before (fs : List (Frame M)) (counts : Bool) (e : Era M Q R) (n : Slave V M) (s : Seat V M Q R) : Type 0 where
    follow : Follows x law (frames fs) (s ∷ [])
    out : KeptSide x law spot.station (frames fs) e.side
    hidden : IsHidden counts e.side.halves.inn n.node.inn
    new : NewOf x law processor acknowledged more passed e.side.now e.side.fresh
    past : AllHeard x passed e.side.past
    stage : NowStage x law processor passed e.passing e.side.now s

  all_heard : (past : List (Row M Q R)) (now : Option (Row M Q R)) (s : Seat V M Q R) → AllHeard x passed past → NowStage x law processor passed None now s → AllHeard x passed (past ++ newest now)
  all_heard [] None s p w = tt
  all_heard [] (Some r) s p w = (now_heard None (Some r) s w, tt)
  all_heard (r ∷ past) now s p w = (p.0, all_heard past now s p.1 w)

  new_back : (now : Option (Row M Q R)) (f : Row M Q R → Row M Q R) (fresh b : Bool) → NewOf x law processor acknowledged more passed now fresh → NewOf x law processor acknowledged more passed (option_map f now) (fresh && b)
  new_back None f fresh b w = ap (λ c. c && b) w
  new_back (Some r) f fresh b w = tt

  new_lost : (now : Option (Row M Q R)) (fresh b : Bool) → NewOf x law processor acknowledged more passed now fresh → NewOf x law processor acknowledged more passed now (fresh && b)
  new_lost None fresh b w = ap (λ c. c && b) w
  new_lost (Some r) fresh b w = tt

  module _ (fs : List (Frame M)) (counts : Bool) (e : Era M Q R) (n : Slave V M) (k : Kept fs counts e n) (pick : Pick Q) where
    abbrev seat : Seat V M Q R
    seat = seat_of fs counts e n k

    abbrev now : Era M Q R
    now = era_next x.speech acknowledged more passed (length fs) e pick

    abbrev choice : Choice Q
    choice = mails_choice e.account (granted e.passing pick)

    abbrev begun_side : Side M Q R
    begun_side = side_begins x.speech (length fs) e.side e.side.now choice.begin

    abbrev next_seat : Seat V M Q R
    next_seat = seat_next x (length fs) seat choice

    record Starts : Type 0 where
      stage : NowStage x law processor passed now.passing begun_side.now (record seat { side = begun_side })
      new : NewOf x law processor acknowledged more passed begun_side.now begun_side.fresh
      past : AllHeard x passed begun_side.past

    abbrev Stays : Option Passing → Side M Q R → Type 0
    Stays p d = NowStage x law processor passed p d.now (record seat { side = d })

    starts : Begins x law processor acknowledged more passed (length fs) (kept_of spot.station (frames fs)).told e.side e.account k.out k.new e.passing e.account.hand (granted e.passing pick).begin → Starts
    starts (inl same) = record {
      stage = subst (λ p. Stays p begun_side) (sym same.1) (subst (λ d. Stays e.passing d) (sym same.0) k.stage);
      new = subst (λ (d : Side M Q R). NewOf x law processor acknowledged more passed d.now d.fresh) (sym same.0) k.new;
      past = subst (λ (d : Side M Q R). AllHeard x passed d.past) (sym same.0) k.past;
    }
    starts (inr row) =
        let q = row.0 in
        let r = row.1 in
        let d : Side M Q R = record e.side { past = e.side.past ++ newest e.side.now; now = Some (begun q (length fs)) } in
        let stage : RowStage x law processor passed now.passing (begun q (length fs)) (record seat { side = d }) =
        λ a. inr (subst (λ p. StageBy x law processor passed p a.mail [] (record seat { side = d })) (sym (r.passing ∙ ap (λ b. if b then Some Passing.Waiting else None) a.passes)) (inl (refl, r.idle))) in
        record {
          stage = subst (λ (l : Side M Q R). Stays now.passing l) (sym r.side) stage;
          new = subst (λ (l : Side M Q R). NewOf x law processor acknowledged more passed l.now l.fresh) (sym r.side) tt;
          past = subst (λ (l : Side M Q R). AllHeard x passed l.past) (sym r.side) (all_heard e.side.past e.side.now seat k.past (subst (λ p. NowStage x law processor passed p e.side.now seat) r.none k.stage));
        }

    before : Before fs counts now n next_seat
    before =
        let st = starts (row_begins x law processor acknowledged more passed (length fs) (kept_of spot.station (frames fs)).told e.side e.account k.out k.new e.passing pick) in
        let h = holds x law processor acknowledged more passed seat (k.follow.agrees.0) begun_side now.passing st.stage st.new choice.hold in
        let inn : now.side.halves.inn ≡ e.side.halves.inn = h.inn ∙ ap (λ (l : Halves M). l.inn) (began_halves x (length fs) e.side e.side.now choice.begin) in
        record {
          follow = subst (λ j. Follows x law (frames fs) (seat_next x j seat choice ∷ [])) k.long (nexts_follow x law (frames fs) (seat ∷ []) (choice ∷ []) k.follow);
          out = subst (λ j. KeptSide x law spot.station (frames fs) (side_next x.speech j e.side choice)) k.long (next_out x law spot.station (frames fs) e.side choice k.out);
          hidden = subst (λ i. IsHidden counts i n.node.inn) (sym inn) k.hidden;
          new = h.new;
          past = subst (AllHeard x passed) (sym h.past) st.past;
          stage = h.stage;
        }

    -- THE FRAME
    module _ (sent : List (Datagram M)) (asks : AsksOpen spot.station now sent) (single : AreSingle (Own.own spot.station sent)) where
      abbrev mine : List (Datagram M)
      mine = Own.own spot.station sent

      abbrev kept : Rec.Kept
      kept = kept_of spot.station (frames fs)

      meets : Meets next_seat mine kept counts
      meets = record {
        agrees = before.follow.agrees.0;
        frame = asks.halves;
        clean = finds_none spot.station (duty_access now.account.hand) mine asks.served;
        single = single;
        status = λ r. asks.status (reads_own spot.station sent r);
        hidden = before.hidden;
        out = before.out;
        heard = before.follow.records.0.listens.kept;
        behind = told_behind spot.station kept.told (grams mine);
        tells = frame_tells spot.station kept.told now.side.halves (grams mine) asks.halves;
      }

      abbrev turn_of : RingFate → List (Datagram M) → List ℕ → Slave V M → EraTurn V M Q
      turn_of fate back ks slave = record { pick = pick; sent = sent; fate = fate; back = back; steps = ks; slave = slave }

      abbrev Turned : RingFate → List (Datagram M) → List ℕ → Slave V M → Type 0
      Turned fate back ks slave =
          let t = turn_of fate back ks slave in
          Kept (fs ++ frame_in t ∷ []) (counts_behind spot.station ks (Own.own spot.station back) counts) (turn_after x acknowledged processor more passed spot opened fs counts e t) slave

      turned_back : (back : List (Datagram M)) (ks : List ℕ) (slave : Slave V M) → frame_after spot.station n mine ≡ Own.own spot.station back →
          ring_steps x processor ((spot.station, slave_after spot.station n mine) ∷ []) ks ≡ (spot.station, slave) ∷ [] → Turned RingFate.Back back ks slave
      turned_back back ks slave backs rings =
          let t = turn_of RingFate.Back back ks slave in
          let after = turn_after x acknowledged processor more passed spot opened fs counts e t in
          let F : Frame M = record { sent = mine; fate = RingFate.Back; back = frame_after spot.station n mine } in
          let is : F ≡ own_frame spot.station spot.place (frame_in t) = λ i. record { sent = mine; fate = RingFate.Back; back = backs i } in
          let b = behind_came x law acknowledged processor more passed spot.station (frames fs) (length fs) k.long next_seat refl mine counts before.follow meets now.passing before.stage in
          let came = seat_back x (length fs) next_seat mine (frame_after spot.station n mine) in
          let reads = counts && not (did_read spot.station (grams (frame_after spot.station n mine))) in
          let passed_by = ap (λ G. passes x.speech acknowledged more passed now.passing (counted_news counts (frame_news spot.station kept G))) is in
          let f = finish fs reads (frame_in t) F ks came after slave k.long k.later is refl (ap (λ l. side_back x.speech (length fs) spot.station l now.side) backs)
          (subst (λ p. Behind x law acknowledged processor more passed spot.station (frames fs ++ F ∷ []) came reads p) passed_by b) rings
          (new_back now.side.now (λ r. row_heard x.speech (length fs) (all_accepted spot.station now.side.halves (grams (Own.own spot.station back))) r) now.side.fresh (not (writes spot.station (grams (Own.own spot.station back)))) before.new) before.past in
          subst (λ l. Kept (fs ++ frame_in t ∷ []) (if has_step ks then true else counts && not (did_read spot.station (grams l))) after slave) backs f

      -- lost, before the slave or behind it
      lost_at : (after : ℕ) (met : Bool) (back : List (Datagram M)) (ks : List ℕ) (slave : Slave V M) (j : ℕ) → after - spot.place ≡ j → Own.own spot.station back ≡ [] →
          Follows x law (frames fs ++ record { sent = mine; fate = RingFate.Lost j; back = [] } ∷ []) (record next_seat { side = side_lost spot.station mine now.side; slave = if met then slave_after spot.station n mine else n } ∷ []) →
          ring_steps x processor ((spot.station, if met then slave_after spot.station n mine else n) ∷ []) ks ≡ (spot.station, slave) ∷ [] → Turned (RingFate.Lost after) back ks slave
      lost_at after met back ks slave j at none follow rings =
          let t = turn_of (RingFate.Lost after) back ks slave in
          let behind = turn_after x acknowledged processor more passed spot opened fs counts e t in
          let F : Frame M = record { sent = mine; fate = RingFate.Lost j; back = [] } in
          let is : F ≡ own_frame spot.station spot.place (frame_in t) = λ i. record { sent = mine; fate = RingFate.Lost (sym at i); back = sym none i } in
          let b = behind_lost x law acknowledged processor more passed spot.station (frames fs) (length fs) k.long next_seat refl mine counts before.follow meets now.passing before.stage j met follow in
          let came = record next_seat { side = side_lost spot.station mine now.side; slave = if met then slave_after spot.station n mine else n } in
          let passed_by = ap (λ G. passes x.speech acknowledged more passed now.passing (counted_news counts (frame_news spot.station kept G))) is in
          let f = finish fs counts (frame_in t) F ks came behind slave k.long k.later is refl refl
          (subst (λ p. Behind x law acknowledged processor more passed spot.station (frames fs ++ F ∷ []) came counts p) passed_by b) rings
          (new_lost now.side.now now.side.fresh (not (writes spot.station (grams mine))) before.new) before.past in
          subst (λ c. Kept (fs ++ frame_in t ∷ []) (if has_step ks then true else c) behind slave) (sym (ap (λ l. counts && not (did_read spot.station (grams l))) none ∙ and_true counts)) f

      abbrev follow_lost : ℕ → Type 0
      follow_lost j = Follows x law (frames fs ++ record { sent = mine; fate = RingFate.Lost j; back = [] } ∷ []) (seats_after x (length fs) (next_seat ∷ []) mine (RingFate.Lost j))

      follows_lost : (j : ℕ) → follow_lost j
      follows_lost j = subst (λ i. Follows x law (frames fs ++ record { sent = mine; fate = RingFate.Lost j; back = [] } ∷ []) (seats_after x i (next_seat ∷ []) mine (RingFate.Lost j))) k.long
          (afters_follow x law (frames fs) (next_seat ∷ []) mine (RingFate.Lost j) (asks.halves, tt) before.follow)

      none_meet : (j : ℕ) (ds : List (Datagram M)) → ◌≡◌ {A = Ring V M} (first_meet j [] ds) []
      none_meet zero ds = refl
      none_meet (suc j) ds = refl

      turned_lost : (after : ℕ) (back : List (Datagram M)) (ks : List ℕ) (slave : Slave V M) (j : ℕ) → after - spot.place ≡ j → Own.own spot.station back ≡ [] →
          ring_steps x processor (ring_after ((spot.station, n) ∷ []) mine (RingFate.Lost j)) ks ≡ (spot.station, slave) ∷ [] → Turned (RingFate.Lost after) back ks slave
      turned_lost after back ks slave zero at none rings = lost_at after false back ks slave zero at none (follows_lost zero) rings
      turned_lost after back ks slave (suc j) at none rings =
          lost_at after true back ks slave (suc j) at none (follows_lost (suc j)) (ap (λ (l : Ring V M). ring_steps x processor ((spot.station, slave_after spot.station n mine) ∷ l) ks) (sym (none_meet j (frame_after spot.station n mine))) ∙ rings)

      turned : (fate : RingFate) (back : List (Datagram M)) (ks : List ℕ) (slave : Slave V M) → ring_back ((spot.station, n) ∷ []) mine (own_fate spot.place fate) ≡ Own.own spot.station back →
          ring_steps x processor (ring_after ((spot.station, n) ∷ []) mine (own_fate spot.place fate)) ks ≡ (spot.station, slave) ∷ [] → Turned fate back ks slave
      turned RingFate.Back back ks slave backs rings = turned_back back ks slave backs rings
      turned (RingFate.Lost after) back ks slave backs rings = turned_lost after back ks slave (after - spot.place) refl (sym backs) rings

  -- AT THE OPENING
  blanks_open : (j : ℕ) → IsOpening {M = M} (replicate j blank)
  blanks_open zero = tt
  blanks_open (suc j) = ((tt, tt), blanks_open j)

  blanks_long : (j : ℕ) → length (replicate j (blank {M = M})) ≡ j
  blanks_long zero = refl
  blanks_long (suc j) = ap suc (blanks_long j)

  opening_is : (fs : List (Frame M)) → length fs ≡ suc opened → frames fs ≡ replicate (suc opened) blank
  opening_is fs is =
      let none : length fs - suc opened ≡ 0 = omega (arith, is) in
      ap (λ j. replicate (suc opened) blank ++ map (λ f. own_frame spot.station spot.place f) (take j (drop (suc opened) fs))) none ∙ append-nil (replicate (suc opened) blank)

  kept_begins : (v : V) (r : Registers) (cleared : Option ℕ) (state : ℕ) (fs : List (Frame M)) → length fs ≡ suc opened → Kept fs true (record (new_era cleared state) { opened = Some opened }) (opened_slave M Q R spot v r)
  kept_begins v r cleared state fs is =
      let opening = opening_is fs is in
      let quiet = subst IsOpening (sym opening) (blanks_open (suc opened)) in
      let long = ap length opening ∙ blanks_long (suc opened) in
      record {
        start = v;
        held = [];
        taken = [];
        offered = [];
        accepted = [];
        long = long ∙ sym is;
        later = omega (arith, is);
        follow = new_follows x law (frames fs) quiet (planned spot v r ∷ []) (tt, tt);
        out = (new_out x law (frames fs) quiet (planned spot v r ∷ [])).0;
        hidden = λ c none. refl;
        new = refl;
        past = tt;
        stage = tt;
      }

  kept_led : (v : V) (r : Registers) (fs : List (Frame M)) (counts : Bool) (e : Era M Q R) (n : Slave V M) → IsLed x acknowledged processor more passed spot opened v r fs counts e n → Kept fs counts e n
  kept_led v r fs counts e n (IsLed.begins cleared state gs is) = kept_begins v r cleared state gs is
  kept_led v r fs counts e n (IsLed.goes_on gs c d m l t may) = turned gs c d m (kept_led v r gs c d m l) t.pick t.sent may.asks may.single t.fate t.back t.steps t.slave may.back may.slave

  pub heard_law : (v : V) (r : Registers) (fs : List (Frame M)) (counts : Bool) (e : Era M Q R) (n : Slave V M) → IsLed x acknowledged processor more passed spot opened v r fs counts e n → NoneUnheard x passed e
  heard_law v r fs counts e n l = unheard_none fs counts e n (kept_led v r fs counts e n l)
