-- Rows that stay, place by place.
use Rattle.std.proofs.Common.{◌≡◌, ℕ, Bool, true, false, Option, Some, None, List, [], ◌∷◌, ◌++◌, refl, sym, ap, ◌∙◌, subst, append_assoc, append-nil, cond}
use Rattle.std.specs.Prelude.{filter, map, option_map}
use Rattle.std.proofs.lemmas.List.Elements.{filter-append}
use Rattle.few_replies.specs.of_exchange_model.Exchange.{Speech, plain}
use Rattle.few_replies.specs.of_exchange_model.Rows.{Row, row_heard, row_told}
use Rattle.few_replies.specs.of_life_model.Lives.{Era, Life}
use Rattle.few_replies.specs.of_segment_model.Ends.{Passing}
use Rattle.few_replies.specs.of_segment_model.Seats.{Side, newest, rows_of, side_holds}
use Rattle.run_frames.specs.of_frame_view.Shares.{AllBoth}
use Rattle.few_replies.specs.of_link_mails.Body.{Body}
use Rattle.run_frames.specs.of_master_duty.Reply.{Reply}
use Rattle.run_frames.specs.of_master_hand.Spoken.{Asked, emission, is_passed}
use Rattle.served_places.specs.Rows.{Stays, era_passings, eras_passings, eras_rows, is_passed_row, life_rows, now_passing, passed_rows, passings, replies_of}

-- a list of rows
abbrev pub Listed : Type 0
Listed = List (Row Body Asked Reply)

-- WHAT HOLDS PLACE BY PLACE
module _ {T : Type 0} (P : T → T → Type 0) where
  pub both_itself : ((x : T) → P x x) → (xs : List T) → AllBoth P xs xs
  both_itself its [] = tt
  both_itself its (x ∷ xs) = (its x, both_itself its xs)

  pub both_append : (xs ys us vs : List T) → AllBoth P xs ys → AllBoth P us vs → AllBoth P (xs ++ us) (ys ++ vs)
  both_append [] [] us vs a b = b
  both_append [] (y ∷ ys) us vs a b = absurd a
  both_append (x ∷ xs) [] us vs a b = absurd a
  both_append (x ∷ xs) (y ∷ ys) us vs a b = (a.0, both_append xs ys us vs a.1 b)

-- what holds of rows, and leaves their services, holds of those of mails that are passed on
module _ (P : Row Body Asked Reply → Row Body Asked Reply → Type 0) (service : (r s : Row Body Asked Reply) → P r s → s.service ≡ r.service) where
  both_passed : (rs ss : Listed) → AllBoth P rs ss → AllBoth P (filter is_passed_row rs) (filter is_passed_row ss)
  both_passed [] [] a = tt
  both_passed [] (s ∷ ss) a = absurd a
  both_passed (r ∷ rs) [] a = absurd a
  both_passed (r ∷ rs) (s ∷ ss) a = go (is_passed r.service) refl (both_passed rs ss a.1)
    where
      go : (b : Bool) → is_passed r.service ≡ b → AllBoth P (filter is_passed_row rs) (filter is_passed_row ss) → AllBoth P (cond (is_passed r.service) (r ∷ filter is_passed_row rs) (filter is_passed_row rs)) (cond (is_passed s.service) (s ∷ filter is_passed_row ss) (filter is_passed_row ss))
      go b e later =
          subst (λ z. AllBoth P (cond z (r ∷ filter is_passed_row rs) (filter is_passed_row rs)) (cond (is_passed s.service) (s ∷ filter is_passed_row ss) (filter is_passed_row ss))) (sym e)
          (subst (λ z. AllBoth P (cond b (r ∷ filter is_passed_row rs) (filter is_passed_row rs)) (cond z (s ∷ filter is_passed_row ss) (filter is_passed_row ss))) (sym (ap is_passed (service r s a.0) ∙ e)) (by b))
        where
          by : (b : Bool) → AllBoth P (cond b (r ∷ filter is_passed_row rs) (filter is_passed_row rs)) (cond b (s ∷ filter is_passed_row ss) (filter is_passed_row ss))
          by true = (a.0, later)
          by false = later

-- THEY STAY
itself : (r : Row Body Asked Reply) → Stays r r
itself r = record { service = refl; frame = refl; more = []; heard = sym (append-nil r.heard) }

pub all_itself : (rs : Listed) → AllBoth Stays rs rs
all_itself rs = both_itself Stays itself rs

pub all_same : (rs ss : Listed) → rs ≡ ss → AllBoth Stays rs ss
all_same rs ss e = subst (λ z. AllBoth Stays rs z) e (all_itself rs)

pub all_append : (rs ss qs ts : Listed) → AllBoth Stays rs ss → AllBoth Stays qs ts → AllBoth Stays (rs ++ qs) (ss ++ ts)
all_append rs ss qs ts a b = both_append Stays rs ss qs ts a b

-- A ROW IS KEPT, but for the mails that were held for it
pub record Keeps (r s : Row Body Asked Reply) : Type 0 where
  pub service : s.service ≡ r.service
  pub frame : s.frame ≡ r.frame
  pub heard : s.heard ≡ r.heard

pub keeps_itself : (rs : Listed) → AllBoth Keeps rs rs
keeps_itself rs = both_itself Keeps (λ r. record { service = refl; frame = refl; heard = refl }) rs

-- such a row stays
pub keeps_stay : (rs ss : Listed) → AllBoth Keeps rs ss → AllBoth Stays rs ss
keeps_stay [] [] a = tt
keeps_stay [] (s ∷ ss) a = absurd a
keeps_stay (r ∷ rs) [] a = absurd a
keeps_stay (r ∷ rs) (s ∷ ss) a = (record { service = a.0.service; frame = a.0.frame; more = []; heard = a.0.heard ∙ sym (append-nil r.heard) }, keeps_stay rs ss a.1)

-- the same was heard in it
pub keeps_heard : (rs ss : Listed) → AllBoth Keeps rs ss → replies_of ss ≡ replies_of rs
keeps_heard [] [] a = refl
keeps_heard [] (s ∷ ss) a = absurd a
keeps_heard (r ∷ rs) [] a = absurd a
keeps_heard (r ∷ rs) (s ∷ ss) a = (λ i. plain emission (a.0.heard i) ∷ keeps_heard rs ss a.1 i)

-- of lives, and of the rows that came besides
pub lives_stay : (l m : Life Body Asked Reply) → AllBoth Stays (life_rows l) (life_rows m) → AllBoth Stays (passed_rows l) (passed_rows m)
lives_stay l m a = both_passed Stays (λ r s k. k.service) (life_rows l) (life_rows m) a

pub lives_more : (l m : Life Body Asked Reply) (more : Listed) → AllBoth Keeps (life_rows l ++ more) (life_rows m) → AllBoth Keeps (passed_rows l ++ filter is_passed_row more) (passed_rows m)
lives_more l m more a = subst (λ z. AllBoth Keeps z (passed_rows m)) (filter-append is_passed_row (life_rows l) more) (both_passed Keeps (λ r s k. k.service) (life_rows l ++ more) (life_rows m) a)

-- OF A SIDE
heard_stays : (x : Speech Body Asked Reply) (frame : ℕ) (ms : List Body) (r : Row Body Asked Reply) → Stays r (row_heard x frame ms r)
heard_stays x frame ms r = record { service = refl; frame = refl; more = ms; heard = refl }

pub newest_heard : (x : Speech Body Asked Reply) (frame : ℕ) (ms : List Body) (now : Option (Row Body Asked Reply)) → AllBoth Stays (newest now) (newest (option_map (λ r. row_heard x frame ms r) now))
newest_heard x frame ms None = tt
newest_heard x frame ms (Some r) = (heard_stays x frame ms r, tt)

newest_told : (m : Body) (now : Option (Row Body Asked Reply)) → AllBoth Keeps (newest now) (newest (option_map (λ r. row_told m r) now))
newest_told m None = tt
newest_told m (Some r) = (record { service = refl; frame = refl; heard = refl }, tt)

pub side_holds_keeps : (d : Side Body Asked Reply) (ms : List Body) → AllBoth Keeps (rows_of d) (rows_of (side_holds d ms))
side_holds_keeps d [] = keeps_itself (rows_of d)
side_holds_keeps d (m ∷ ms) = both_append Keeps d.past d.past (newest d.now) (newest (option_map (λ r. row_told m r) d.now)) (keeps_itself d.past) (newest_told m d.now)

-- the rows of an epoch more
pub eras_append : (es : List (Era Body Asked Reply)) (e : Era Body Asked Reply) → eras_rows (es ++ e ∷ []) ≡ eras_rows es ++ rows_of e.side
eras_append [] e = append-nil (rows_of e.side)
eras_append (d ∷ es) e = ap (λ l. rows_of d.side ++ l) (eras_append es e) ∙ sym (append_assoc (rows_of d.side) (eras_rows es) (rows_of e.side))

-- HOW FAR MAILS HAVE COME: what is over stays so
abbrev pub StaysOver : Option Passing → Option Passing → Type 0
StaysOver p q = p ≡ None → q ≡ None

pub same_over : (ps qs : List (Option Passing)) → qs ≡ ps → AllBoth StaysOver ps qs
same_over ps qs e = subst (λ z. AllBoth StaysOver ps z) (sym e) (both_itself StaysOver (λ p over. over) ps)

-- of the rows before the newest
abbrev pub overs : Listed → List (Option Passing)
overs rs = map (λ (r : Row Body Asked Reply). None) (filter is_passed_row rs)

-- of a side
abbrev pub side_passings : Side Body Asked Reply → Option Passing → List (Option Passing)
side_passings d p = overs d.past ++ now_passing d.now p

pub holds_passings : (d : Side Body Asked Reply) (ms : List Body) (p : Option Passing) → side_passings (side_holds d ms) p ≡ side_passings d p
holds_passings d [] p = refl
holds_passings d (m ∷ ms) p = ap (λ l. overs d.past ++ l) (go d.now)
  where
    go : (now : Option (Row Body Asked Reply)) → now_passing (option_map (λ r. row_told m r) now) p ≡ now_passing now p
    go None = refl
    go (Some r) = refl

pub passings_append : (es : List (Era Body Asked Reply)) (e : Era Body Asked Reply) → eras_passings (es ++ e ∷ []) ≡ eras_passings es ++ era_passings e
passings_append [] e = append-nil (era_passings e)
passings_append (d ∷ es) e = ap (λ l. era_passings d ++ l) (passings_append es e) ∙ sym (append_assoc (era_passings d) (eras_passings es) (era_passings e))

-- where the newest row is of a mail that is passed on
pub passings_last : (l : Life Body Asked Reply) (row : Row Body Asked Reply) → l.era.side.now ≡ Some row → is_passed row.service ≡ true → (front : List (Option Passing)) × (passings l ≡ front ++ l.era.passing ∷ [])
passings_last l row e p = (
  eras_passings l.past ++ overs l.era.side.past,
  ap (λ n. eras_passings l.past ++ (overs l.era.side.past ++ now_passing n l.era.passing)) e
      ∙ ap (λ b. eras_passings l.past ++ (overs l.era.side.past ++ cond b (l.era.passing ∷ []) [])) p
      ∙ sym (append_assoc (eras_passings l.past) (overs l.era.side.past) (l.era.passing ∷ [])),
)
