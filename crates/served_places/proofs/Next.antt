-- Before a frame one row more is there where a service by mails comes into hand; what was heard in the others is the same, and a mail that was over is.
use Rattle.std.proofs.Common.{◌≡◌, ℕ, ◌+◌, Bool, true, false, Option, Some, None, List, [], ◌∷◌, ◌++◌, length, refl, sym, ap, ◌∙◌, subst, append_assoc, append-nil, length-append, arith}
use Rattle.std.specs.Prelude.{◌&&◌, nat_lt, if◌then◌else◌, filter, cond, map}
use Rattle.std.proofs.lemmas.Bool.Decides.{nat_tests}
use Rattle.std.proofs.lemmas.List.{map-append}
use Rattle.std.proofs.lemmas.List.Elements.{filter-append}
use Rattle.few_replies.specs.of_exchange_model.Exchange.{Speech, plain}
use Rattle.few_replies.specs.of_exchange_model.Rows.{Row, begun}
use Rattle.few_replies.specs.of_life_model.Lives.{Life, Stand, era_next, granted, life_next, passing_begins}
use Rattle.few_replies.specs.of_segment_model.Ends.{Passing}
use Rattle.few_replies.specs.of_segment_model.Seats.{is_over, newest, next_mail, rows_of, side_begins, side_next}
use Rattle.few_replies.specs.of_state_model.Stated.{Service}
use Rattle.few_replies.specs.of_state_model.Accounts.{Account, Duty, Pick, account_begins, account_next, is_free, mails_begin, mails_choice, starts}
use Rattle.run_frames.specs.of_datagrams.Datagram as Raw
use Rattle.run_frames.specs.of_frame_view.View.{Lens}
use Rattle.run_frames.specs.of_frame_view.Shares.{AllBoth}
use Rattle.few_replies.specs.of_link_mails.Body.{Body}
use Rattle.run_frames.specs.of_master_duty.Reply.{Reply}
use Rattle.run_frames.specs.of_master_hand.Spoken.{Asked, acknowledged, emission, is_followed, is_passed}
use Rattle.run_frames.specs.of_master_side.Passing.{passing_behind}
use Rattle.run_frames.specs.of_life_runs.Led.{Took, speech_at}
use Rattle.run_frames.specs.of_life_runs.Served.{Serves, ServedTurn, IsServedTurn}
use Rattle.served_places.specs.Rows.{Stays, eras_passings, eras_rows, is_passed_row, life_rows, now_passing, passed_rows, passings, replies_of, row_begun}
use Rattle.served_places.proofs.Stay.{Keeps, StaysOver, both_append, holds_passings, keeps_heard, keeps_itself, keeps_stay, lives_more, overs, same_over, side_holds_keeps, side_passings}

-- one more is never none
more_not : {T : Type 0} (xs : List T) (y : T) → xs ≡ xs ++ y ∷ [] → ⊥
more_not {T} xs y e = (let n : length xs ≡ length xs + 1 = ap (λ (l : List T). length l) e ∙ length-append xs (y ∷ []) in omega (arith, n))

one_less : (n m : ℕ) → m ≡ n + 1 → nat_lt n m ≡ true
one_less n m e = grind (arith, nat_tests, e)

-- the row of a service by mails
abbrev row_of : ℕ → Option (Service Asked) → List (Row Body Asked Reply)
row_of made None = []
row_of made (Some (Service.Mails q)) = begun q made ∷ []
row_of made (Some (Service.State target)) = []

passed_row : (made : ℕ) (b : Option (Service Asked)) → filter is_passed_row (row_of made b) ≡ row_begun made b
passed_row made None = refl
passed_row made (Some (Service.Mails q)) = refl
passed_row made (Some (Service.State target)) = refl

-- the mail of such a row waits to be sent
abbrev pub waiting_row : Row Body Asked Reply → Option Passing
waiting_row r = Some Passing.Waiting

-- how far the mail of such a row has come
abbrev fresh_passings : ℕ → Option (Service Asked) → List (Option Passing)
fresh_passings made b = map waiting_row (row_begun made b)

-- as it is when it comes into hand where no mail is there that is passed on
abbrev began_passings : ℕ → Service Asked → List (Option Passing)
began_passings made (Service.Mails q) = now_passing (Some (begun q made)) (passing_behind is_passed None (Some (Service.Mails q)))
began_passings made (Service.State target) = []

fresh_over : (made : ℕ) (s : Service Asked) → AllBoth StaysOver (fresh_passings made (Some s)) (began_passings made s)
fresh_over made (Service.State target) = tt
fresh_over made (Service.Mails q) = go (is_passed q)
  where
    go : (z : Bool) → AllBoth StaysOver (map waiting_row (if z then begun q made ∷ [] else [])) (if z then (if z then Some Passing.Waiting else None) ∷ [] else [])
    go true = (λ e. e, tt)
    go false = tt

abbrev none_of : Row Body Asked Reply → Option Passing
none_of r = None

one_over : (r : Row Body Asked Reply) (z : Bool) → map none_of (cond z (r ∷ []) []) ≡ (if z then None ∷ [] else [])
one_over r true = refl
one_over r false = refl

-- WHAT IS KNOWN where something came into hand: its slave is open, no mail is in hand that is passed on, and no state service
record IsFreeFor (l : Life Body Asked Reply) : Type 0 where
  opened : l.stand ≡ Stand.Open
  free : l.era.passing ≡ None
  idle : l.era.account.hand ≡ None

module _ (x : Speech Body Asked Reply) (made : ℕ) (l : Life Body Asked Reply) (hold : Bool) where
  -- NOTHING COMES
  abbrev none : Pick Asked
  none = record { begin = None; hold = hold }

  none_granted : (passing : Option Passing) → granted passing none ≡ none
  none_granted None = refl
  none_granted (Some p) = refl

  no_mail : (hand : Option Duty) → mails_begin {Q = Asked} hand None ≡ None
  no_mail None = refl
  no_mail (Some duty) = refl

  none_keeps : (stand : Stand) → AllBoth Keeps (life_rows l) (life_rows (life_next x acknowledged is_followed is_passed made l stand none))
  none_keeps (Stand.Opens o) = keeps_itself (life_rows l)
  none_keeps Stand.Gone = keeps_itself (life_rows l)
  none_keeps Stand.Open =
      both_append Keeps (eras_rows l.past) (eras_rows l.past) (rows_of l.era.side) (rows_of (side_next x made l.era.side (mails_choice l.era.account (granted l.era.passing none)))) (keeps_itself (eras_rows l.past))
      (subst (λ w. AllBoth Keeps (rows_of l.era.side) (rows_of (side_next x made l.era.side (mails_choice l.era.account w)))) (sym (none_granted l.era.passing))
      (subst (λ b. AllBoth Keeps (rows_of l.era.side) (rows_of (side_next x made l.era.side (record { begin = b; hold = hold })))) (sym (no_mail l.era.account.hand))
      (side_holds_keeps l.era.side (next_mail x l.era.side.now l.era.side.halves.out.holding hold))))

  none_passing : (stand : Stand) → (life_next x acknowledged is_followed is_passed made l stand none).era.passing ≡ l.era.passing
  none_passing (Stand.Opens o) = refl
  none_passing Stand.Gone = refl
  none_passing Stand.Open = ap (λ w. passing_begins x acknowledged is_followed is_passed l.era.passing l.era.account (account_next x acknowledged made l.era.side l.era.account w) w.begin) (none_granted l.era.passing)

  none_sides : (p : Option Passing) → side_passings (side_next x made l.era.side (mails_choice l.era.account (granted l.era.passing none))) p ≡ side_passings l.era.side p
  none_sides p =
      ap (λ w. side_passings (side_next x made l.era.side (mails_choice l.era.account w)) p) (none_granted l.era.passing)
      ∙ ap (λ b. side_passings (side_next x made l.era.side (record { begin = b; hold = hold })) p) (no_mail l.era.account.hand)
      ∙ holds_passings l.era.side (next_mail x l.era.side.now l.era.side.halves.out.holding hold) p

  none_over : (stand : Stand) → AllBoth StaysOver (passings l) (passings (life_next x acknowledged is_followed is_passed made l stand none))
  none_over (Stand.Opens o) = same_over (passings l) (passings l) refl
  none_over Stand.Gone = same_over (passings l) (passings l) refl
  none_over Stand.Open =
      same_over (passings l) (passings (life_next x acknowledged is_followed is_passed made l Stand.Open none))
      (ap (λ ps. eras_passings l.past ++ ps)
      (ap (side_passings (side_next x made l.era.side (mails_choice l.era.account (granted l.era.passing none)))) (none_passing Stand.Open) ∙ none_sides l.era.passing))

  -- SOMETHING COMES, and is counted
  module _ (s : Service Asked) where
    abbrev wish : Pick Asked
    wish = record { begin = Some s; hold = hold }

    abbrev Counted : Account Asked Reply → Type 0
    Counted a = a.started ≡ starts l.era.account s made

    never : Counted l.era.account → ⊥
    never t = more_not l.era.account.started (record { service = s; frame = made }) t

    free_for : (stand : Stand) → l.stand ≡ stand → Counted (life_next x acknowledged is_followed is_passed made l stand wish).era.account → IsFreeFor l
    free_for (Stand.Opens o) e c = absurd (never c)
    free_for Stand.Gone e c = absurd (never c)
    free_for Stand.Open e c = by l.era.passing l.era.account.hand refl refl
      where
        by : (q : Option Passing) (hand : Option Duty) → l.era.passing ≡ q → l.era.account.hand ≡ hand → IsFreeFor l
        by None None p h = record { opened = e; free = p; idle = h }
        by None (Some duty) p h = absurd (never (sym (ap (λ (a : Account Asked Reply). a.started) (λ i. account_begins x acknowledged made l.era.side l.era.account (h i) (granted (p i) wish).begin)) ∙ c))
        by (Some q) None p h = absurd (never (sym (ap (λ (a : Account Asked Reply). a.started) (λ i. account_begins x acknowledged made l.era.side l.era.account (h i) (granted (p i) wish).begin)) ∙ c))
        by (Some q) (Some duty) p h = absurd (never (sym (ap (λ (a : Account Asked Reply). a.started) (λ i. account_begins x acknowledged made l.era.side l.era.account (h i) (granted (p i) wish).begin)) ∙ c))

  -- the rows of a side at which a service by mails begins
  begins : (q : Asked) (now : Option (Row Body Asked Reply)) → l.era.side.now ≡ now → Counted (Service.Mails q) (if x.valid q && is_free x l.era.side now then record l.era.account { started = starts l.era.account (Service.Mails q) made } else l.era.account) →
      rows_of (side_begins x made l.era.side now (Some q)) ≡ rows_of l.era.side ++ begun q made ∷ []
  begins q None e c = go (x.valid q) c
    where
      all : l.era.side.past ++ begun q made ∷ [] ≡ rows_of l.era.side ++ begun q made ∷ []
      all = ap (λ rs. rs ++ begun q made ∷ []) (sym (append-nil l.era.side.past) ∙ ap (λ n. l.era.side.past ++ newest n) (sym e))

      go : (z : Bool) → Counted (Service.Mails q) (if z && true then record l.era.account { started = starts l.era.account (Service.Mails q) made } else l.era.account) → rows_of (if z then record l.era.side { now = Some (begun q made) } else l.era.side) ≡ rows_of l.era.side ++ begun q made ∷ []
      go true t = all
      go false t = absurd (never (Service.Mails q) t)
  begins q (Some r) e c = go (x.valid q && is_over x l.era.side.halves.out.holding l.era.side.fresh r) c
    where
      all : (l.era.side.past ++ r ∷ []) ++ begun q made ∷ [] ≡ rows_of l.era.side ++ begun q made ∷ []
      all = ap (λ n. (l.era.side.past ++ newest n) ++ begun q made ∷ []) (sym e)

      go : (z : Bool) → Counted (Service.Mails q) (if z then record l.era.account { started = starts l.era.account (Service.Mails q) made } else l.era.account) →
          rows_of (if z then record l.era.side { past = l.era.side.past ++ r ∷ []; now = Some (begun q made) } else l.era.side) ≡ rows_of l.era.side ++ begun q made ∷ []
      go true t = all
      go false t = absurd (never (Service.Mails q) t)

  -- behind the mail that it takes up
  side_more : (b : Option Asked) (more : List (Row Body Asked Reply)) → rows_of (side_begins x made l.era.side l.era.side.now b) ≡ rows_of l.era.side ++ more → AllBoth Keeps (rows_of l.era.side ++ more) (rows_of (side_next x made l.era.side (record { begin = b; hold = hold })))
  side_more b more e =
      let d = side_begins x made l.era.side l.era.side.now b in
      subst (λ rs. AllBoth Keeps rs (rows_of (side_next x made l.era.side (record { begin = b; hold = hold })))) e (side_holds_keeps d (next_mail x d.now d.halves.out.holding hold))

  -- the choice for its mails
  choice : (s : Service Asked) → IsFreeFor l → mails_choice l.era.account (granted l.era.passing (wish s)) ≡ record { begin = mails_begin None (Some s); hold = hold }
  choice s h = (λ i. record { begin = mails_begin (h.idle i) (granted (h.free i) (wish s)).begin; hold = (granted (h.free i) (wish s)).hold })

  counted : (s : Service Asked) → IsFreeFor l → account_next x acknowledged made l.era.side l.era.account (granted l.era.passing (wish s)) ≡ account_begins x acknowledged made l.era.side l.era.account None (Some s)
  counted s h = (λ i. account_begins x acknowledged made l.era.side l.era.account (h.idle i) (granted (h.free i) (wish s)).begin)

  side_some : (s : Service Asked) → Counted s (account_begins x acknowledged made l.era.side l.era.account None (Some s)) → rows_of (side_begins x made l.era.side l.era.side.now (mails_begin None (Some s))) ≡ rows_of l.era.side ++ row_of made (Some s)
  side_some (Service.Mails q) c = begins q l.era.side.now refl c
  side_some (Service.State target) c = still l.era.side.now
    where
      still : (now : Option (Row Body Asked Reply)) → rows_of (side_begins x made l.era.side now None) ≡ rows_of l.era.side ++ []
      still None = sym (append-nil (rows_of l.era.side))
      still (Some r) = sym (append-nil (rows_of l.era.side))

  some_keeps : (s : Service Asked) → Counted s (life_next x acknowledged is_followed is_passed made l l.stand (wish s)).era.account → AllBoth Keeps (life_rows l ++ row_of made (Some s)) (life_rows (life_next x acknowledged is_followed is_passed made l l.stand (wish s)))
  some_keeps s c =
      let h = free_for s l.stand refl c in
      let opened : Counted s (account_next x acknowledged made l.era.side l.era.account (granted l.era.passing (wish s))) = subst (λ z. Counted s (life_next x acknowledged is_followed is_passed made l z (wish s)).era.account) h.opened c in
      let rows = side_some s (ap (λ (a : Account Asked Reply). a.started) (sym (counted s h)) ∙ opened) in
      subst (λ z. AllBoth Keeps (life_rows l ++ row_of made (Some s)) (life_rows (life_next x acknowledged is_followed is_passed made l z (wish s)))) (sym h.opened)
      (subst (λ rs. AllBoth Keeps rs (life_rows (record l { era = era_next x acknowledged is_followed is_passed made l.era (wish s) }))) (sym (append_assoc (eras_rows l.past) (rows_of l.era.side) (row_of made (Some s))))
      (both_append Keeps (eras_rows l.past) (eras_rows l.past) (rows_of l.era.side ++ row_of made (Some s)) (rows_of (side_next x made l.era.side (mails_choice l.era.account (granted l.era.passing (wish s))))) (keeps_itself (eras_rows l.past))
      (subst (λ w. AllBoth Keeps (rows_of l.era.side ++ row_of made (Some s)) (rows_of (side_next x made l.era.side w))) (sym (choice s h)) (side_more (mails_begin None (Some s)) (row_of made (Some s)) rows))))

  begun_passing : (s : Service Asked) (old new : Account Asked Reply) → new.started ≡ starts old s made → passing_begins x acknowledged is_followed is_passed None old new (Some s) ≡ passing_behind is_passed None (Some s)
  begun_passing (Service.State target) old new e = refl
  begun_passing (Service.Mails q) old new e =
      ap (λ z. if is_passed q && z then Some Passing.Waiting else None) (one_less (length old.started) (length new.started) (ap length e ∙ length-append old.started (record { service = Service.Mails q; frame = made } ∷ []))) ∙ go (is_passed q)
    where
      go : (z : Bool) → (if z && true then Some Passing.Waiting else None) ≡ (if z then Some Passing.Waiting else None)
      go true = refl
      go false = refl

  some_passing : (s : Service Asked) → Counted s (life_next x acknowledged is_followed is_passed made l l.stand (wish s)).era.account → (life_next x acknowledged is_followed is_passed made l l.stand (wish s)).era.passing ≡ passing_behind is_passed l.era.passing (Some s)
  some_passing s c =
      let h = free_for s l.stand refl c in
      let opened : Counted s (account_next x acknowledged made l.era.side l.era.account (granted l.era.passing (wish s))) = subst (λ z. Counted s (life_next x acknowledged is_followed is_passed made l z (wish s)).era.account) h.opened c in
      ap (λ z. (life_next x acknowledged is_followed is_passed made l z (wish s)).era.passing) h.opened
      ∙ (λ i. passing_begins x acknowledged is_followed is_passed (h.free i) l.era.account (account_next x acknowledged made l.era.side l.era.account (granted l.era.passing (wish s))) (granted (h.free i) (wish s)).begin)
      ∙ begun_passing s l.era.account (account_next x acknowledged made l.era.side l.era.account (granted l.era.passing (wish s))) opened
      ∙ ap (λ p. passing_behind is_passed p (Some s)) (sym h.free)

  -- the mails of a side at which a service by mails begins
  begins_over : (q : Asked) (p : Option Passing) (now : Option (Row Body Asked Reply)) → l.era.side.now ≡ now → Counted (Service.Mails q) (if x.valid q && is_free x l.era.side now then record l.era.account { started = starts l.era.account (Service.Mails q) made } else l.era.account) →
      side_passings (side_begins x made l.era.side now (Some q)) p ≡ side_passings l.era.side None ++ now_passing (Some (begun q made)) p
  begins_over q p None e c = go (x.valid q) c
    where
      all : overs l.era.side.past ++ now_passing (Some (begun q made)) p ≡ side_passings l.era.side None ++ now_passing (Some (begun q made)) p
      all = ap (λ ps. ps ++ now_passing (Some (begun q made)) p) (sym (append-nil (overs l.era.side.past)) ∙ ap (λ n. overs l.era.side.past ++ now_passing n None) (sym e))

      go : (z : Bool) → Counted (Service.Mails q) (if z && true then record l.era.account { started = starts l.era.account (Service.Mails q) made } else l.era.account) →
          side_passings (if z then record l.era.side { now = Some (begun q made) } else l.era.side) p ≡ side_passings l.era.side None ++ now_passing (Some (begun q made)) p
      go true t = all
      go false t = absurd (never (Service.Mails q) t)
  begins_over q p (Some r) e c = go (x.valid q && is_over x l.era.side.halves.out.holding l.era.side.fresh r) c
    where
      before : overs (l.era.side.past ++ r ∷ []) ≡ side_passings l.era.side None
      before =
          ap (map (λ (r : Row Body Asked Reply). None)) (filter-append is_passed_row l.era.side.past (r ∷ []))
          ∙ map-append (λ (r : Row Body Asked Reply). None) (filter is_passed_row l.era.side.past) (filter is_passed_row (r ∷ []))
          ∙ ap (λ ps. overs l.era.side.past ++ ps) (one_over r (is_passed_row r))
          ∙ ap (λ n. overs l.era.side.past ++ now_passing n None) (sym e)

      all : overs (l.era.side.past ++ r ∷ []) ++ now_passing (Some (begun q made)) p ≡ side_passings l.era.side None ++ now_passing (Some (begun q made)) p
      all = ap (λ ps. ps ++ now_passing (Some (begun q made)) p) before

      go : (z : Bool) → Counted (Service.Mails q) (if z then record l.era.account { started = starts l.era.account (Service.Mails q) made } else l.era.account) →
          side_passings (if z then record l.era.side { past = l.era.side.past ++ r ∷ []; now = Some (begun q made) } else l.era.side) p ≡ side_passings l.era.side None ++ now_passing (Some (begun q made)) p
      go true t = all
      go false t = absurd (never (Service.Mails q) t)

  some_sides : (s : Service Asked) → Counted s (account_begins x acknowledged made l.era.side l.era.account None (Some s)) →
      side_passings (side_next x made l.era.side (record { begin = mails_begin None (Some s); hold = hold })) (passing_behind is_passed None (Some s)) ≡ side_passings l.era.side None ++ began_passings made s
  some_sides (Service.Mails q) c =
      let d = side_begins x made l.era.side l.era.side.now (Some q) in
      holds_passings d (next_mail x d.now d.halves.out.holding hold) (passing_behind is_passed None (Some (Service.Mails q))) ∙ begins_over q (passing_behind is_passed None (Some (Service.Mails q))) l.era.side.now refl c
  some_sides (Service.State target) c =
      holds_passings l.era.side (next_mail x l.era.side.now l.era.side.halves.out.holding hold) None ∙ sym (append-nil (side_passings l.era.side None))

  some_over : (s : Service Asked) → Counted s (life_next x acknowledged is_followed is_passed made l l.stand (wish s)).era.account →
      AllBoth StaysOver (passings l ++ fresh_passings made (Some s)) (passings (life_next x acknowledged is_followed is_passed made l l.stand (wish s)))
  some_over s c =
      let h = free_for s l.stand refl c in
      let opened : Counted s (account_next x acknowledged made l.era.side l.era.account (granted l.era.passing (wish s))) = subst (λ z. Counted s (life_next x acknowledged is_followed is_passed made l z (wish s)).era.account) h.opened c in
      let side = side_next x made l.era.side (mails_choice l.era.account (granted l.era.passing (wish s))) in
      let stands : (life_next x acknowledged is_followed is_passed made l Stand.Open (wish s)).era.passing ≡ passing_behind is_passed None (Some s) =
      sym (ap (λ z. (life_next x acknowledged is_followed is_passed made l z (wish s)).era.passing) h.opened) ∙ some_passing s c ∙ ap (λ p. passing_behind is_passed p (Some s)) h.free in
      let sides : side_passings side (passing_behind is_passed None (Some s)) ≡ side_passings l.era.side None ++ began_passings made s =
      ap (λ w. side_passings (side_next x made l.era.side w) (passing_behind is_passed None (Some s))) (choice s h) ∙ some_sides s (ap (λ (a : Account Asked Reply). a.started) (sym (counted s h)) ∙ opened) in
      let all : passings (life_next x acknowledged is_followed is_passed made l Stand.Open (wish s)) ≡ (eras_passings l.past ++ side_passings l.era.side None) ++ began_passings made s =
      ap (λ ps. eras_passings l.past ++ ps) (ap (side_passings side) stands ∙ sides) ∙ sym (append_assoc (eras_passings l.past) (side_passings l.era.side None) (began_passings made s)) in
      subst (λ z. AllBoth StaysOver (passings l ++ fresh_passings made (Some s)) (passings (life_next x acknowledged is_followed is_passed made l z (wish s)))) (sym h.opened)
      (subst (λ ps. AllBoth StaysOver (passings l ++ fresh_passings made (Some s)) ps) (sym all)
      (both_append StaysOver (passings l) (eras_passings l.past ++ side_passings l.era.side None) (fresh_passings made (Some s)) (began_passings made s)
      (same_over (passings l) (eras_passings l.past ++ side_passings l.era.side None) (ap (λ p. eras_passings l.past ++ side_passings l.era.side p) (sym h.free))) (fresh_over made s)))

module _ (lens : ℕ → Lens) (made : ℕ) (ds : List Raw.Datagram) (w : Serves) (v : ServedTurn) (t : IsServedTurn lens made ds w v) where
  abbrev before : Life Body Asked Reply
  before = w.lead.lived.life

  abbrev x : Speech Body Asked Reply
  x = speech_at lens w.lead.lived.spot

  -- the choice by what came into hand
  life_is : (b : Option (Service Asked)) → v.turn.begun ≡ b → v.turn.lived.life ≡ life_next x acknowledged is_followed is_passed made before before.stand (record { begin = b; hold = t.next.pick.hold })
  life_is b e = t.next.life ∙ (λ i. life_next x acknowledged is_followed is_passed made before before.stand (record { begin = (t.begun ∙ e) i; hold = t.next.pick.hold }))

  counted_is : (s : Service Asked) → v.turn.begun ≡ Some s → Took made before.era.account v.turn.lived.life.era.account (Some s) → (life_next x acknowledged is_followed is_passed made before before.stand (record { begin = Some s; hold = t.next.pick.hold })).era.account.started ≡ starts before.era.account s made
  counted_is s e took = ap (λ (l : Life Body Asked Reply). l.era.account.started) (sym (life_is (Some s) e)) ∙ took

  rows_by : (b : Option (Service Asked)) → v.turn.begun ≡ b → Took made before.era.account v.turn.lived.life.era.account b → AllBoth Keeps (life_rows before ++ row_of made b) (life_rows v.turn.lived.life)
  rows_by None e took = subst (λ rs. AllBoth Keeps rs (life_rows v.turn.lived.life)) (sym (append-nil (life_rows before))) (subst (λ l. AllBoth Keeps (life_rows before) (life_rows l)) (sym (life_is None e)) (none_keeps x made before t.next.pick.hold before.stand))
  rows_by (Some s) e took = subst (λ l. AllBoth Keeps (life_rows before ++ row_of made (Some s)) (life_rows l)) (sym (life_is (Some s) e)) (some_keeps x made before t.next.pick.hold s (counted_is s e took))

  pub next_keeps : AllBoth Keeps (passed_rows before ++ row_begun made v.turn.begun) (passed_rows v.turn.lived.life)
  next_keeps = subst (λ rs. AllBoth Keeps (passed_rows before ++ rs) (passed_rows v.turn.lived.life)) (passed_row made v.turn.begun) (lives_more before v.turn.lived.life (row_of made v.turn.begun) (rows_by v.turn.begun refl t.took))

  pub next_stays : AllBoth Stays (passed_rows before ++ row_begun made v.turn.begun) (passed_rows v.turn.lived.life)
  next_stays = keeps_stay (passed_rows before ++ row_begun made v.turn.begun) (passed_rows v.turn.lived.life) next_keeps

  over_by : (b : Option (Service Asked)) → v.turn.begun ≡ b → Took made before.era.account v.turn.lived.life.era.account b → AllBoth StaysOver (passings before ++ fresh_passings made b) (passings v.turn.lived.life)
  over_by None e took =
      subst (λ ps. AllBoth StaysOver ps (passings v.turn.lived.life)) (sym (append-nil (passings before)))
      (subst (λ l. AllBoth StaysOver (passings before) (passings l)) (sym (life_is None e)) (none_over x made before t.next.pick.hold before.stand))
  over_by (Some s) e took = subst (λ l. AllBoth StaysOver (passings before ++ fresh_passings made (Some s)) (passings l)) (sym (life_is (Some s) e)) (some_over x made before t.next.pick.hold s (counted_is s e took))

  pub next_over : AllBoth StaysOver (passings before ++ fresh_passings made v.turn.begun) (passings v.turn.lived.life)
  next_over = over_by v.turn.begun refl t.took

  pub next_heard : replies_of (passed_rows v.turn.lived.life) ≡ replies_of (passed_rows before) ++ replies_of (row_begun made v.turn.begun)
  next_heard =
      keeps_heard (passed_rows before ++ row_begun made v.turn.begun) (passed_rows v.turn.lived.life) next_keeps
      ∙ map-append (λ (r : Row Body Asked Reply). plain emission r.heard) (passed_rows before) (row_begun made v.turn.begun)

  begun_free : (s : Service Asked) → v.turn.begun ≡ Some s → IsFreeFor before
  begun_free s e = free_for x made before t.next.pick.hold s before.stand refl (counted_is s e (subst (λ b. Took made before.era.account v.turn.lived.life.era.account b) e t.took))

  pub next_free : (s : Service Asked) → v.turn.begun ≡ Some s → before.era.passing ≡ None
  next_free s e = (begun_free s e).free

  pub next_open : (s : Service Asked) → v.turn.begun ≡ Some s → before.stand ≡ Stand.Open
  next_open s e = (begun_free s e).opened

  passing_by : (b : Option (Service Asked)) → v.turn.begun ≡ b → Took made before.era.account v.turn.lived.life.era.account b → v.turn.lived.life.era.passing ≡ passing_behind is_passed before.era.passing b
  passing_by None e took = ap (λ (l : Life Body Asked Reply). l.era.passing) (life_is None e) ∙ none_passing x made before t.next.pick.hold before.stand
  passing_by (Some s) e took = ap (λ (l : Life Body Asked Reply). l.era.passing) (life_is (Some s) e) ∙ some_passing x made before t.next.pick.hold s (counted_is s e took)

  pub next_passing : v.turn.lived.life.era.passing ≡ passing_behind is_passed before.era.passing v.turn.begun
  next_passing = passing_by v.turn.begun refl t.took
