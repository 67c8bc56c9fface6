-- BEHIND A FRAME: what was heard in the row of the mail in hand, while that isn't over, are besides just the replies that are told; nothing else was heard in the
-- other rows; and a mail that was over is.
use Rattle.std.proofs.Common.{◌≡◌, ℕ, Bool, true, false, Option, Some, None, List, [], ◌∷◌, ◌++◌, refl, sym, ap, ◌∙◌, subst, append_assoc, append-nil, cond}
use Rattle.std.specs.Prelude.{◌&&◌, filter, option_map}
use Rattle.std.proofs.lemmas.List.{map-append}
use Rattle.std.proofs.lemmas.List.Elements.{filter-append}
use Rattle.few_replies.proofs.of_exchange_model.Words.{plain-append}
use Rattle.few_replies.specs.of_exchange_model.Exchange.{Speech, plain}
use Rattle.few_replies.specs.of_exchange_model.Rows.{Row, row_heard}
use Rattle.few_replies.specs.of_life_model.Lives.{Era, Life, Opening, Spot, Stand, clears, era_back, era_lost, life_back, life_lost, passes, reopens}
use Rattle.few_replies.specs.of_life_model.Own.{own}
use Rattle.few_replies.specs.of_link_model.Frames.{all_accepted}
use Rattle.few_replies.specs.of_segment_model.Ends.{Passing}
use Rattle.few_replies.specs.of_segment_model.Record.{News}
use Rattle.few_replies.specs.of_segment_model.Seats.{newest}
use Rattle.few_replies.specs.of_segment_model.Slaves.{Datagram, Found, grams}
use Rattle.run_frames.specs.of_frame_view.Seen.{seen}
use Rattle.run_frames.specs.of_frame_view.View.{Lens}
use Rattle.run_frames.specs.of_frame_view.Shares.{AllBoth, came_at, given_where}
use Rattle.few_replies.specs.of_link_mails.Body.{Body}
use Rattle.run_frames.specs.of_master_duty.Reply.{Reply}
use Rattle.run_frames.specs.of_master_hand.Spoken.{Asked, acknowledged, emission, is_followed, is_passed}
use Rattle.run_frames.specs.of_master_side.Passing.{news_back, news_lost}
use Rattle.run_frames.specs.of_segment_ring.declared.wire.Fate.{Fate}
use Rattle.run_frames.specs.of_segment_ring.declared.wire.Fate.TheVariants.{Pass, Lost}
use Rattle.run_frames.specs.of_life_runs.Led.{Exchanged, speech_at}
use Rattle.run_frames.specs.of_master_tour.Brings.{accepted_at}
use Rattle.run_frames.specs.of_life_runs.Served.{ServedTurn, accepted_by, served_behind, served_life}
use Rattle.run_frames.specs.of_life_runs.Told.{Passed, TellsOwn}
use Rattle.served_places.specs.Rows.{HearsNoMore, eras_passings, eras_rows, is_passed_row, last_more, life_rows, now_passing, passed_rows, passings, replies_of, told_besides}
use Rattle.served_places.proofs.Behind.{SameRows, given_same, lost_same, opening_keeps, opening_same, reopens_keeps}
use Rattle.served_places.proofs.Stay.{Listed, StaysOver, both_append, overs, passings_append, same_over}

-- WHAT IS HAD BESIDES IN THE LAST
pub last_none : {T : Type 0} (xs : List (List T)) → last_more [] xs ≡ xs
last_none [] = refl
last_none (x ∷ []) = ap (λ l. l ∷ []) (append-nil x)
last_none (x ∷ (y ∷ xs)) = ap (λ l. x ∷ l) (last_none (y ∷ xs))

pub last_push : {T : Type 0} (more x : List T) (xs : List (List T)) → last_more more (xs ++ x ∷ []) ≡ xs ++ (x ++ more) ∷ []
last_push more x [] = refl
last_push more x (y ∷ []) = refl
last_push more x (y ∷ (z ∷ xs)) = ap (λ l. y ∷ l) (last_push more x (z ∷ xs))

-- nothing is told where nothing is accepted
pub told_none : (hand : Option Passed) (passing : Option Passing) → told_besides hand passing [] ≡ []
told_none None passing = refl
told_none (Some p) None = refl
told_none (Some p) (Some q) = refl

-- the rows before the newest, and that
passed_now : (es : List (Era Body Asked Reply)) (past : Listed) (now : Option (Row Body Asked Reply)) → filter is_passed_row (eras_rows es ++ (past ++ newest now)) ≡ filter is_passed_row (eras_rows es ++ past) ++ filter is_passed_row (newest now)
passed_now es past now = ap (filter is_passed_row) (sym (append_assoc (eras_rows es) past (newest now))) ∙ filter-append is_passed_row (eras_rows es ++ past) (newest now)

module _ (x : Speech Body Asked Reply) (frame : ℕ) where
  -- WHAT IS HEARD IN THE NEWEST ROW
  module _ (front : Listed) (ms new : List Body) where
    abbrev Grows : Listed → Listed → Type 0
    Grows rs ss = replies_of (front ++ ss) ≡ last_more new (replies_of (front ++ rs))

    grows_none : new ≡ [] → Grows [] []
    grows_none e = sym (ap (λ n. last_more n (replies_of (front ++ []))) e ∙ last_none (replies_of (front ++ [])))

    grows_one : (r : Row Body Asked Reply) → plain emission ms ≡ new → Grows (r ∷ []) (row_heard x frame ms r ∷ [])
    grows_one r e =
        map-append (λ (r : Row Body Asked Reply). plain emission r.heard) front (row_heard x frame ms r ∷ [])
        ∙ ap (λ l. replies_of front ++ l ∷ []) (plain-append emission r.heard ms ∙ ap (λ l. plain emission r.heard ++ l) e)
        ∙ sym (ap (last_more new) (map-append (λ (r : Row Body Asked Reply). plain emission r.heard) front (r ∷ [])) ∙ last_push new (plain emission r.heard) (replies_of front))

    newest_grows : (now : Option (Row Body Asked Reply)) → (now ≡ None → new ≡ []) → ((r : Row Body Asked Reply) → now ≡ Some r → is_passed r.service ≡ false → new ≡ []) → ((r : Row Body Asked Reply) → now ≡ Some r → is_passed r.service ≡ true → plain emission ms ≡ new) →
        Grows (filter is_passed_row (newest now)) (filter is_passed_row (newest (option_map (λ r. row_heard x frame ms r) now)))
    newest_grows None a b c = grows_none (a refl)
    newest_grows (Some r) a b c = go (is_passed r.service) refl
      where
        by : (z : Bool) → is_passed r.service ≡ z → Grows (cond z (r ∷ []) []) (cond z (row_heard x frame ms r ∷ []) [])
        by true e = grows_one r (c r refl e)
        by false e = grows_none (b r refl e)

        go : (z : Bool) → is_passed r.service ≡ z → Grows (cond (is_passed r.service) (r ∷ []) []) (cond (is_passed r.service) (row_heard x frame ms r ∷ []) [])
        go z e = subst (λ y. Grows (cond y (r ∷ []) []) (cond y (row_heard x frame ms r ∷ []) [])) (sym e) (by z e)

  module _ (spot : Spot) (l : Life Body Asked Reply) (hand : Option Passed) (had : (p : Passed) → hand ≡ Some p → TellsOwn p l.era.passing l.era.side.now) (free : hand ≡ None → l.stand ≡ Stand.Open → l.era.passing ≡ None) where
    -- where the rows stay nothing is told
    abbrev Hears : List Body → Life Body Asked Reply → Type 0
    Hears ms m = replies_of (passed_rows m) ≡ last_more (told_besides hand l.era.passing ms) (replies_of (passed_rows l))

    same_heard : (m : Life Body Asked Reply) → SameRows l m → Hears [] m
    same_heard m e =
        ap (λ rs. replies_of (filter is_passed_row rs)) e
        ∙ sym (ap (λ n. last_more n (replies_of (passed_rows l))) (told_none hand l.era.passing) ∙ last_none (replies_of (passed_rows l)))

    module _ (ms : List Body) (opened : l.stand ≡ Stand.Open) (quiet : l.era.passing ≡ None → (r : Row Body Asked Reply) → l.era.side.now ≡ Some r → is_passed r.service ≡ true → plain emission ms ≡ []) where
      none_there : (h : Option Passed) → hand ≡ h → (o : Option Passing) → l.era.side.now ≡ None → told_besides h o ms ≡ []
      none_there None e o n = refl
      none_there (Some p) e o n = absurd (let t = had p e in let bad : None ≡ Some t.row = sym n ∙ t.is in cc)

      other_there : (h : Option Passed) → hand ≡ h → (o : Option Passing) → (r : Row Body Asked Reply) → l.era.side.now ≡ Some r → is_passed r.service ≡ false → told_besides h o ms ≡ []
      other_there None e o r n off = refl
      other_there (Some p) e o r n off = absurd (
          let t = had p e in
          let same : t.row ≡ r = (let all : Some t.row ≡ Some r = sym t.is ∙ n in cc) in
          let bad : true ≡ false = ap is_passed (sym t.service) ∙ ap (λ (z : Row Body Asked Reply). is_passed z.service) same ∙ off in
          cc)

      its_there : (h : Option Passed) → hand ≡ h → (o : Option Passing) → l.era.passing ≡ o → (r : Row Body Asked Reply) → l.era.side.now ≡ Some r → is_passed r.service ≡ true → plain emission ms ≡ told_besides h o ms
      its_there None e o f r n on = quiet (free e opened) r n on
      its_there (Some p) e None f r n on = quiet f r n on
      its_there (Some p) e (Some q) f r n on = refl

      open_heard : (era : Era Body Asked Reply) → era.side.past ≡ l.era.side.past → era.side.now ≡ option_map (λ r. row_heard x frame ms r) l.era.side.now → Hears ms (record l { era = era })
      open_heard era past now =
          (λ i. replies_of (filter is_passed_row (eras_rows l.past ++ (past i ++ newest (now i)))))
          ∙ ap replies_of (passed_now l.past l.era.side.past (option_map (λ r. row_heard x frame ms r) l.era.side.now))
          ∙ newest_grows (filter is_passed_row (eras_rows l.past ++ l.era.side.past)) ms (told_besides hand l.era.passing ms) l.era.side.now
          (none_there hand refl l.era.passing) (other_there hand refl l.era.passing) (its_there hand refl l.era.passing refl)
          ∙ ap (λ rs. last_more (told_besides hand l.era.passing ms) (replies_of rs)) (sym (passed_now l.past l.era.side.past l.era.side.now))

    -- BEHIND A FRAME THAT CAME BACK
    module _ (ns : List (News Body)) (back : List (Datagram Body)) where
      abbrev IsQuiet : Stand → Type 0
      IsQuiet stand = l.era.passing ≡ None → (r : Row Body Asked Reply) → l.era.side.now ≡ Some r → is_passed r.service ≡ true → plain emission (accepted_at spot.station l.era.side.halves back stand) ≡ []

      reopened : l.stand ≡ Stand.Open → IsQuiet Stand.Open →
          let era = era_back x acknowledged is_followed is_passed spot.station frame ns back l.era in Hears (accepted_at spot.station l.era.side.halves back Stand.Open) (reopens (record l { era = era }) era.account.hand)
      reopened s quiet =
          let era = era_back x acknowledged is_followed is_passed spot.station frame ns back l.era in
          ap (λ rs. replies_of (filter is_passed_row rs)) (reopens_keeps life_rows (λ l stand. refl) (record l { era = era }) era.account.hand)
          ∙ open_heard (accepted_at spot.station l.era.side.halves back Stand.Open) s quiet era refl refl

      back_heard : (came : Option (Bool × Option Found)) (stand : Stand) → l.stand ≡ stand → IsQuiet stand → Hears (accepted_at spot.station l.era.side.halves back stand) (life_back x acknowledged is_followed is_passed frame spot ns back came l stand)
      back_heard None (Stand.Opens o) s quiet = same_heard l refl
      back_heard (Some came) (Stand.Opens o) s quiet = same_heard (life_back x acknowledged is_followed is_passed frame spot ns back (Some came) l (Stand.Opens o)) (opening_same frame l o came.0 came.1)
      back_heard came Stand.Gone s quiet = same_heard l refl
      back_heard None Stand.Open s quiet = reopened s quiet
      back_heard (Some came) Stand.Open s quiet = reopened s quiet

-- HOW FAR MAILS HAVE COME
passes_over : (x : Speech Body Asked Reply) (ns : List (News Body)) (p : Option Passing) → p ≡ None → passes x acknowledged is_followed is_passed p ns ≡ None
passes_over x ns None e = refl
passes_over x ns (Some p) e = absurd (cc)

now_over : (now : Option (Row Body Asked Reply)) (p q : Option Passing) → StaysOver p q → AllBoth StaysOver (now_passing now p) (now_passing now q)
now_over None p q h = tt
now_over (Some r) p q h = go (is_passed_row r)
  where
    go : (z : Bool) → AllBoth StaysOver (cond z (p ∷ []) []) (cond z (q ∷ []) [])
    go true = (h, tt)
    go false = tt

heard_passing : (x : Speech Body Asked Reply) (frame : ℕ) (ms : List Body) (now : Option (Row Body Asked Reply)) (p : Option Passing) → now_passing (option_map (λ r. row_heard x frame ms r) now) p ≡ now_passing now p
heard_passing x frame ms None p = refl
heard_passing x frame ms (Some r) p = refl

-- an epoch whose newest row keeps its service
era_over : (l : Life Body Asked Reply) (era : Era Body Asked Reply) → era.side.past ≡ l.era.side.past → now_passing era.side.now era.passing ≡ now_passing l.era.side.now era.passing → StaysOver l.era.passing era.passing → AllBoth StaysOver (passings l) (passings (record l { era = era }))
era_over l era past now h =
    both_append StaysOver (eras_passings l.past) (eras_passings l.past) (overs l.era.side.past ++ now_passing l.era.side.now l.era.passing) (overs era.side.past ++ now_passing era.side.now era.passing) (same_over (eras_passings l.past) (eras_passings l.past) refl)
    (both_append StaysOver (overs l.era.side.past) (overs era.side.past) (now_passing l.era.side.now l.era.passing) (now_passing era.side.now era.passing) (same_over (overs l.era.side.past) (overs era.side.past) (ap overs past))
    (subst (λ ps. AllBoth StaysOver (now_passing l.era.side.now l.era.passing) ps) (sym now) (now_over l.era.side.now l.era.passing era.passing h)))

cleared_over : (frame : ℕ) (l : Life Body Asked Reply) (o : Opening) → passings (clears frame l o) ≡ passings l
cleared_over frame l o = append-nil (eras_passings (l.past ++ l.era ∷ [])) ∙ passings_append l.past l.era

module _ (x : Speech Body Asked Reply) (frame : ℕ) (spot : Spot) (ns : List (News Body)) (l : Life Body Asked Reply) where
  back_over : (back : List (Datagram Body)) (came : Option (Bool × Option Found)) (stand : Stand) → AllBoth StaysOver (passings l) (passings (life_back x acknowledged is_followed is_passed frame spot ns back came l stand))
  back_over back None (Stand.Opens o) = same_over (passings l) (passings l) refl
  back_over back (Some came) (Stand.Opens o) =
      same_over (passings l) (passings (life_back x acknowledged is_followed is_passed frame spot ns back (Some came) l (Stand.Opens o))) (opening_keeps passings frame l o came.0 came.1 (cleared_over frame l o) refl refl)
  back_over back came Stand.Gone = same_over (passings l) (passings l) refl
  back_over back came Stand.Open =
      subst (λ ps. AllBoth StaysOver (passings l) ps) (sym (reopens_keeps passings (λ l stand. refl) (record l { era = era }) era.account.hand))
      (era_over l era refl (heard_passing x frame (all_accepted spot.station l.era.side.halves (grams (own spot.station back))) l.era.side.now era.passing) (passes_over x ns l.era.passing))
    where
      era : Era Body Asked Reply
      era = era_back x acknowledged is_followed is_passed spot.station frame ns back l.era

  lost_over : (sent : List (Datagram Body)) (stand : Stand) → AllBoth StaysOver (passings l) (passings (life_lost x acknowledged is_followed is_passed spot ns sent l stand))
  lost_over sent (Stand.Opens o) = same_over (passings l) (passings l) refl
  lost_over sent Stand.Gone = same_over (passings l) (passings l) refl
  lost_over sent Stand.Open = era_over l (era_lost x acknowledged is_followed is_passed spot.station ns sent l.era) refl refl (passes_over x ns l.era.passing)

given_over : (b : Bool) (recover frame : ℕ) (spot : Spot) (m : Life Body Asked Reply) → passings (given_where b recover spot frame m) ≡ passings m
given_over true recover frame spot m = refl
given_over false recover frame spot m = refl

-- ONE SLAVE
module _ (lens : ℕ → Lens) (recover retry : ℕ) (gives : Bool) (made : ℕ) (f : Exchanged) (v : ServedTurn) where
  over_by : (fate : Fate) → AllBoth StaysOver (passings v.turn.lived.life) (passings (served_life lens recover retry gives made f fate v).life)
  over_by Pass =
      back_over (speech_at lens v.turn.lived.spot) made v.turn.lived.spot (news_back v.turn.lived.spot.station v.kept v.counts (seen lens f.back)) v.turn.lived.life (seen lens f.back) (came_at v.turn.share.under v.turn.share.at (seen lens f.back)) v.turn.lived.life.stand
  over_by (Lost after) =
      let ns = news_lost v.turn.lived.spot.station v.kept (seen lens f.sent) in
      subst (λ ps. AllBoth StaysOver (passings v.turn.lived.life) ps)
      (sym (given_over (gives && v.turn.share.under) recover made v.turn.lived.spot (life_lost (speech_at lens v.turn.lived.spot) acknowledged is_followed is_passed v.turn.lived.spot ns (seen lens f.sent) v.turn.lived.life v.turn.lived.life.stand)))
      (lost_over (speech_at lens v.turn.lived.spot) made v.turn.lived.spot ns v.turn.lived.life (seen lens f.sent) v.turn.lived.life.stand)

  pub behind_over : AllBoth StaysOver (passings v.turn.lived.life) (passings (served_behind lens recover retry gives made f v).lead.lived.life)
  behind_over = over_by f.fate

  module _ (had : (p : Passed) → v.hand ≡ Some p → TellsOwn p v.turn.lived.life.era.passing v.turn.lived.life.era.side.now) (free : v.hand ≡ None → v.turn.lived.life.stand ≡ Stand.Open → v.turn.lived.life.era.passing ≡ None) where
    abbrev HearsBy : Fate → Type 0
    HearsBy fate =
        (v.turn.lived.life.era.passing ≡ None → (r : Row Body Asked Reply) → v.turn.lived.life.era.side.now ≡ Some r → is_passed r.service ≡ true → plain emission (accepted_by lens recover retry f fate v) ≡ []) →
        replies_of (passed_rows (served_life lens recover retry gives made f fate v).life) ≡ last_more (told_besides v.hand v.turn.lived.life.era.passing (accepted_by lens recover retry f fate v)) (replies_of (passed_rows v.turn.lived.life))

    heard_by : (fate : Fate) → HearsBy fate
    heard_by Pass quiet =
        back_heard (speech_at lens v.turn.lived.spot) made v.turn.lived.spot v.turn.lived.life v.hand had free (news_back v.turn.lived.spot.station v.kept v.counts (seen lens f.back)) (seen lens f.back)
        (came_at v.turn.share.under v.turn.share.at (seen lens f.back)) v.turn.lived.life.stand refl quiet
    heard_by (Lost after) quiet =
        let ns = news_lost v.turn.lived.spot.station v.kept (seen lens f.sent) in
        let lost = life_lost (speech_at lens v.turn.lived.spot) acknowledged is_followed is_passed v.turn.lived.spot ns (seen lens f.sent) v.turn.lived.life v.turn.lived.life.stand in
        same_heard (speech_at lens v.turn.lived.spot) made v.turn.lived.spot v.turn.lived.life v.hand had free (given_where (gives && v.turn.share.under) recover v.turn.lived.spot made lost)
        (given_same (gives && v.turn.share.under) recover made v.turn.lived.spot lost ∙ lost_same (speech_at lens v.turn.lived.spot) made v.turn.lived.spot v.turn.lived.life ns (seen lens f.sent) v.turn.lived.life.stand)

    -- WHAT IS HEARD BY A FRAME
    pub behind_heard : HearsNoMore lens recover retry f v →
        replies_of (passed_rows (served_behind lens recover retry gives made f v).lead.lived.life) ≡ last_more (told_besides v.hand v.turn.lived.life.era.passing (accepted_by lens recover retry f f.fate v)) (replies_of (passed_rows v.turn.lived.life))
    behind_heard quiet = heard_by f.fate quiet
