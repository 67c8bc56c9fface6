-- How far a mail that is passed on has come: what the side makes of a frame is what its life does.
use Rattle.std.proofs.lemmas.Bool.Decides.{nat_tests}
use Rattle.std.proofs.Common.{◌≡◌, ℕ, ◌==◌, List, [], ◌∷◌, ◌++◌, Bool, true, false, Option, Some, None, refl, sym, ap, ◌∙◌, subst, eq-eqb, arith}
use Rattle.std.specs.Prelude.{◌&&◌, not, is_some, if◌then◌else◌}
use Rattle.frame_view.specs.of_exchange_model.Exchange.{Speech}
use Rattle.mailbox_master.specs.of_link_mails.Body.{Body}
use Rattle.mailbox_master.specs.of_link_model.Counters.{next_counter}
use Rattle.mailbox_master.specs.of_link_model.Mails.{LinkMail, news}
use Rattle.master_duty.specs.of_segment_model.Ends as Ends
use Rattle.master_duty.specs.of_segment_model.Record.{News, Kept}
use Rattle.master_duty.specs.of_segment_model.Seats.{Side}
use Rattle.frame_view.specs.of_life_model.Lives.{passes}
use Rattle.master_duty.specs.Reply.{Reply}
use Rattle.master_side.specs.declared.carried.Carried.{Carried}
use Rattle.master_side.specs.declared.hand.Heard.{Heard}
use Rattle.master_side.specs.declared.passing.Passing.{Passing}
use Rattle.master_side.specs.Passes.{told_by, written_by, full_by, status_by, heard_by, empty_by}
use Rattle.master_side.specs.Shown.{wish_begun}
use Rattle.master_side.specs.declared.carried.Wish.{Wish}
use Rattle.master_side.specs.Passing.{PassingShows, IsKept, passing_seen, passing_behind, told_as, goes_on}

-- the mail held is told where it was not yet sent
abbrev pub fresh_told : Bool → Body → List (News Body)
fresh_told fresh body = if fresh then News.Told body ∷ [] else []

not_same : (k : ℕ) → (next_counter k == k) ≡ false
not_same k = grind (arith, nat_tests)

told_where : (z r : Bool) (m : LinkMail Body) (f : Bool) → z ≡ false → r ≡ not f → (if not z && r then [] else m.body ∷ []) ≡ (if f then m.body ∷ [] else [])
told_where z r m true e k = ap (λ (b : Bool). if not z && b then [] else m.body ∷ []) k ∙ go z
  where
    go : (z : Bool) → (if not z && false then [] else m.body ∷ []) ≡ m.body ∷ []
    go true = refl
    go false = refl
told_where z r m false e k = (λ i. if not (e i) && k i then [] else m.body ∷ [])

-- the record tells anew just the mail that was not sent
pub news_told : {Q : Type 0} (kept : Kept) (d : Side Body Q Reply) (m : LinkMail Body) → IsKept kept d → d.halves.out.holding ≡ Some m → news kept.told (Some m) ≡ (if d.fresh then m.body ∷ [] else [])
news_told kept d m k e = let h = k.held m e in told_where (m.counter == 0) (m.counter == kept.told) m d.fresh h.1 (ap (λ c. c == kept.told) (h.0 ∙ k.told) ∙ go d.fresh)
  where
    go : (f : Bool) → ((if f then next_counter kept.told else kept.told) == kept.told) ≡ not f
    go true = not_same kept.told
    go false = eq-eqb kept.told kept.told refl

module _ {Q : Type 0} (passed : Q → Bool) where
  -- a mail that is passed on came into hand
  pub begun_waits : (ready : Option Q) (began passes awaits : Bool) → began ≡ is_some ready → ((q : Q) → ready ≡ Some q → passes ≡ passed q) → ((q : Q) → ready ≡ Some q → passed q ≡ true → awaits ≡ true) →
      began ≡ true → passes ≡ true → PassingShows awaits (Some Passing.Waiting) (passing_behind passed None (wish_begun began (Some Wish.Mails) ready))
  begun_waits None began passes awaits did is waits e f = absurd (let t = sym e ∙ did in cc)
  begun_waits (Some q) began passes awaits did is waits e f =
      let p : passed q ≡ true = sym (is q refl) ∙ f in
      record { is = (λ i. passing_behind passed None (wish_begun (e i) (Some Wish.Mails) (Some q))) ∙ ap (λ (b : Bool). if b then Some Ends.Passing.Waiting else None) p; awaited = λ t. waits q refl p }

  -- another service did, or none
  pub begun_other : (ready : Option Q) (began passes awaits : Bool) → ((q : Q) → ready ≡ Some q → passes ≡ passed q) → passes ≡ false → PassingShows awaits None (passing_behind passed None (wish_begun began (Some Wish.Mails) ready))
  begun_other ready false passes awaits is f = record { is = refl; awaited = λ t. absurd (cc) }
  begun_other None true passes awaits is f = record { is = refl; awaited = λ t. absurd (cc) }
  begun_other (Some q) true passes awaits is f = record { is = ap (λ (b : Bool). if b then Some Ends.Passing.Waiting else None) (sym (is q refl) ∙ f); awaited = λ t. absurd (cc) }

  pub begun_none : (ready : Option Q) (began awaits : Bool) → began ≡ false → PassingShows awaits None (passing_behind passed None (wish_begun began (Some Wish.Mails) ready))
  begun_none ready began awaits e = record { is = ap (λ (b : Bool). passing_behind passed None (wish_begun b (Some Wish.Mails) ready)) e; awaited = λ t. absurd (cc) }

-- the same behind a step that leaves it
pub still_shows : (awaits awaits' : Bool) (old new : Option Passing) (p : Option Ends.Passing) → (awaits ≡ true → awaits' ≡ true) → new ≡ old → PassingShows awaits old p → PassingShows awaits' new p
still_shows awaits awaits' old new p a e s = record { is = s.is ∙ ap passing_seen (sym e); awaited = λ t. a (s.awaited (ap (λ (o : Option Passing). is_some o) (sym e) ∙ t)) }

-- it stays in hand behind each step that is no reply, as it was
told_stays : (old : Option Passing) (fresh : Bool) → is_some (told_by old fresh) ≡ is_some old
told_stays None true = refl
told_stays None false = refl
told_stays (Some Passing.Waiting) true = refl
told_stays (Some Passing.Waiting) false = refl
told_stays (Some Passing.Sent) fresh = refl
told_stays (Some Passing.Boxed) fresh = refl
told_stays (Some Passing.Served) fresh = refl
told_stays (Some Passing.Answered) fresh = refl

written_stays : (old : Option Passing) (counter : ℕ) → is_some (written_by old counter) ≡ is_some old
written_stays None counter = refl
written_stays (Some Passing.Waiting) counter = refl
written_stays (Some Passing.Sent) counter = go (counter == 0)
  where
    go : (z : Bool) → is_some (if z then Some Passing.Sent else Some Passing.Boxed) ≡ true
    go true = refl
    go false = refl
written_stays (Some Passing.Boxed) counter = refl
written_stays (Some Passing.Served) counter = refl
written_stays (Some Passing.Answered) counter = refl

full_stays : (old : Option Passing) (full : Bool) → is_some (full_by old full) ≡ is_some old
full_stays None full = refl
full_stays (Some Passing.Waiting) full = refl
full_stays (Some Passing.Sent) full = refl
full_stays (Some Passing.Boxed) true = refl
full_stays (Some Passing.Boxed) false = refl
full_stays (Some Passing.Served) full = refl
full_stays (Some Passing.Answered) full = refl

empty_was : (old : Option Passing) → is_some (empty_by old) ≡ true → is_some old ≡ true
empty_was None e = absurd (cc)
empty_was (Some o) e = refl

pub full_shows : (old : Option Passing) (carried : Carried) (full awaits : Bool) (p q : Option Ends.Passing) → q ≡ passing_seen (status_by old carried full) → PassingShows awaits old p → PassingShows awaits (status_by old carried full) q
full_shows old Carried.Full full awaits p q e s = record { is = e; awaited = λ t. s.awaited (sym (full_stays old full) ∙ t) }
full_shows old Carried.Nothing full awaits p q e s = record { is = e; awaited = s.awaited }
full_shows old Carried.Write full awaits p q e s = record { is = e; awaited = s.awaited }
full_shows old Carried.Inward full awaits p q e s = record { is = e; awaited = s.awaited }
full_shows old Carried.Control full awaits p q e s = record { is = e; awaited = s.awaited }
full_shows old Carried.Status full awaits p q e s = record { is = e; awaited = s.awaited }

-- behind a read that may be empty and count
pub read_shows : (old new : Option Passing) (z awaits : Bool) → new ≡ (if z then empty_by old else old) → (is_some old ≡ true → awaits ≡ true) → PassingShows awaits new (passing_seen (if z then empty_by old else old))
read_shows old new true awaits e a = record { is = ap passing_seen (sym e); awaited = λ t. a (empty_was old (ap (λ (o : Option Passing). is_some o) (sym e) ∙ t)) }
read_shows old new false awaits e a = record { is = ap passing_seen (sym e); awaited = λ t. a (ap (λ (o : Option Passing). is_some o) (sym e) ∙ t) }

pub lost_shows : (old : Option Passing) (fresh awaits : Bool) (p q : Option Ends.Passing) → q ≡ passing_seen (told_by old fresh) → PassingShows awaits old p → PassingShows awaits (told_by old fresh) q
lost_shows old fresh awaits p q e s = record { is = e; awaited = λ t. s.awaited (sym (told_stays old fresh) ∙ t) }

pub sent_shows : (old : Option Passing) (fresh : Bool) (counter : ℕ) (awaits : Bool) (p q : Option Ends.Passing) → q ≡ passing_seen (written_by (told_by old fresh) counter) → PassingShows awaits old p → PassingShows awaits (written_by (told_by old fresh) counter) q
sent_shows old fresh counter awaits p q e s = record { is = e; awaited = λ t. s.awaited (sym (told_stays old fresh) ∙ sym (written_stays (told_by old fresh) counter) ∙ t) }

module _ {Q : Type 0} (x : Speech Body Q Reply) (acknowledged : Q → Bool) (more : Body → Bool) (passed : Q → Bool) where
  pub by_none : (p : Option Ends.Passing) → passes x acknowledged more passed p [] ≡ p
  by_none None = refl
  by_none (Some p) = refl

  pub by_append : (p : Option Ends.Passing) (ns ms : List (News Body)) → passes x acknowledged more passed p (ns ++ ms) ≡ passes x acknowledged more passed (passes x acknowledged more passed p ns) ms
  by_append None ns ms = refl
  by_append (Some p) [] ms = refl
  by_append (Some p) (n ∷ ns) ms = by_append (Ends.passing_after x.emission more p n) ns ms

  -- a mail is accepted
  heard_seen : (o : Passing) (b : Body) → passes x acknowledged more passed (passing_seen (Some o)) (News.Heard b ∷ []) ≡ passing_seen (heard_by (Some o) (told_as (x.emission b) (more b)))
  heard_seen Passing.Waiting b = go (x.emission b) (more b)
    where
      go : (e m : Bool) → passes x acknowledged more passed (if e then Some Ends.Passing.Waiting else if m then Some Ends.Passing.Answered else None) [] ≡ passing_seen (heard_by (Some Passing.Waiting) (told_as e m))
      go true m = refl
      go false true = refl
      go false false = refl
  heard_seen Passing.Sent b = go (x.emission b) (more b)
    where
      go : (e m : Bool) → passes x acknowledged more passed (if e then Some Ends.Passing.Sent else if m then Some Ends.Passing.Answered else None) [] ≡ passing_seen (heard_by (Some Passing.Sent) (told_as e m))
      go true m = refl
      go false true = refl
      go false false = refl
  heard_seen Passing.Boxed b = go (x.emission b) (more b)
    where
      go : (e m : Bool) → passes x acknowledged more passed (if e then Some Ends.Passing.Boxed else if m then Some Ends.Passing.Answered else None) [] ≡ passing_seen (heard_by (Some Passing.Boxed) (told_as e m))
      go true m = refl
      go false true = refl
      go false false = refl
  heard_seen Passing.Served b = go (x.emission b) (more b)
    where
      go : (e m : Bool) → passes x acknowledged more passed (if e then None else if m then Some Ends.Passing.Answered else None) [] ≡ passing_seen (heard_by (Some Passing.Served) (told_as e m))
      go true m = refl
      go false true = refl
      go false false = refl
  heard_seen Passing.Answered b = go (x.emission b) (more b)
    where
      go : (e m : Bool) → passes x acknowledged more passed (if e then Some Ends.Passing.Answered else if m then Some Ends.Passing.Answered else None) [] ≡ passing_seen (heard_by (Some Passing.Answered) (told_as e m))
      go true m = refl
      go false true = refl
      go false false = refl

  heard_on : (o : Passing) (what : Heard) → is_some (heard_by (Some o) what) ≡ true → goes_on what ≡ true
  heard_on o Heard.Emission e = refl
  heard_on o Heard.More e = refl
  heard_on Passing.Waiting Heard.Last e = absurd (cc)
  heard_on Passing.Sent Heard.Last e = absurd (cc)
  heard_on Passing.Boxed Heard.Last e = absurd (cc)
  heard_on Passing.Served Heard.Last e = absurd (cc)
  heard_on Passing.Answered Heard.Last e = absurd (cc)
  heard_on Passing.Waiting Heard.Foreign e = absurd (cc)
  heard_on Passing.Sent Heard.Foreign e = absurd (cc)
  heard_on Passing.Boxed Heard.Foreign e = absurd (cc)
  heard_on Passing.Served Heard.Foreign e = absurd (cc)
  heard_on Passing.Answered Heard.Foreign e = absurd (cc)

  pub heard_shows : (b : Body) (old : Option Passing) (what : Heard) (awaits awaits' : Bool) (p : Option Ends.Passing) → (awaits ≡ true → what ≡ told_as (x.emission b) (more b)) → (awaits ≡ true → goes_on what ≡ true → awaits' ≡ true) →
      PassingShows awaits old p → PassingShows awaits' (heard_by old what) (passes x acknowledged more passed p (News.Heard b ∷ []))
  heard_shows b None what awaits awaits' p t a s = record { is = ap (λ (o : Option Ends.Passing). passes x acknowledged more passed o (News.Heard b ∷ [])) s.is; awaited = λ k. absurd (cc) }
  heard_shows b (Some o) what awaits awaits' p t a s =
      let w = s.awaited refl in
      record {
        is = ap (λ (o : Option Ends.Passing). passes x acknowledged more passed o (News.Heard b ∷ [])) s.is ∙ heard_seen o b ∙ ap (λ (h : Heard). passing_seen (heard_by (Some o) h)) (sym (t w));
        awaited = λ k. a w (heard_on o what k);
      }

  pub unheard_shows : (old : Option Passing) (awaits : Bool) (p : Option Ends.Passing) → PassingShows awaits old p → PassingShows awaits old (passes x acknowledged more passed p [])
  unheard_shows old awaits p s = subst (λ (q : Option Ends.Passing). PassingShows awaits old q) (sym (by_none p)) s

  -- the mail held is sent, and its write comes back
  pub told_seen : (old : Option Passing) (fresh : Bool) (body : Body) → passes x acknowledged more passed (passing_seen old) (fresh_told fresh body) ≡ passing_seen (told_by old fresh)
  told_seen None true body = refl
  told_seen None false body = refl
  told_seen (Some Passing.Waiting) true body = refl
  told_seen (Some Passing.Waiting) false body = refl
  told_seen (Some Passing.Sent) true body = refl
  told_seen (Some Passing.Sent) false body = refl
  told_seen (Some Passing.Boxed) true body = refl
  told_seen (Some Passing.Boxed) false body = refl
  told_seen (Some Passing.Served) true body = refl
  told_seen (Some Passing.Served) false body = refl
  told_seen (Some Passing.Answered) true body = refl
  told_seen (Some Passing.Answered) false body = refl

  pub written_seen : (old : Option Passing) (counter : ℕ) → passes x acknowledged more passed (passing_seen old) (if counter == 0 then [] else News.Written ∷ []) ≡ passing_seen (written_by old counter)
  written_seen None counter = refl
  written_seen (Some Passing.Waiting) counter = go (counter == 0)
    where
      go : (z : Bool) → passes x acknowledged more passed (Some Ends.Passing.Waiting) (if z then [] else News.Written ∷ []) ≡ Some Ends.Passing.Waiting
      go true = refl
      go false = refl
  written_seen (Some Passing.Sent) counter = go (counter == 0)
    where
      go : (z : Bool) → passes x acknowledged more passed (Some Ends.Passing.Sent) (if z then [] else News.Written ∷ []) ≡ passing_seen (if z then Some Passing.Sent else Some Passing.Boxed)
      go true = refl
      go false = refl
  written_seen (Some Passing.Boxed) counter = go (counter == 0)
    where
      go : (z : Bool) → passes x acknowledged more passed (Some Ends.Passing.Boxed) (if z then [] else News.Written ∷ []) ≡ Some Ends.Passing.Boxed
      go true = refl
      go false = refl
  written_seen (Some Passing.Served) counter = go (counter == 0)
    where
      go : (z : Bool) → passes x acknowledged more passed (Some Ends.Passing.Served) (if z then [] else News.Written ∷ []) ≡ Some Ends.Passing.Served
      go true = refl
      go false = refl
  written_seen (Some Passing.Answered) counter = go (counter == 0)
    where
      go : (z : Bool) → passes x acknowledged more passed (Some Ends.Passing.Answered) (if z then [] else News.Written ∷ []) ≡ Some Ends.Passing.Answered
      go true = refl
      go false = refl

  -- mailbox 0 was seen full or empty; an AL status tells nothing
  pub full_seen : (old : Option Passing) (full : Bool) → passes x acknowledged more passed (passing_seen old) (News.BoxFull full ∷ []) ≡ passing_seen (full_by old full)
  full_seen None full = refl
  full_seen (Some Passing.Waiting) full = refl
  full_seen (Some Passing.Sent) full = refl
  full_seen (Some Passing.Boxed) true = refl
  full_seen (Some Passing.Boxed) false = refl
  full_seen (Some Passing.Served) full = refl
  full_seen (Some Passing.Answered) full = refl

  pub status_seen : (old : Option Passing) (state : ℕ) (refused : Option ℕ) → passes x acknowledged more passed (passing_seen old) (News.Status state refused ∷ []) ≡ passing_seen old
  status_seen None state refused = refl
  status_seen (Some Passing.Waiting) state refused = refl
  status_seen (Some Passing.Sent) state refused = refl
  status_seen (Some Passing.Boxed) state refused = refl
  status_seen (Some Passing.Served) state refused = refl
  status_seen (Some Passing.Answered) state refused = refl

  -- mailbox 1 was read empty
  pub empty_seen : (old : Option Passing) → passes x acknowledged more passed (passing_seen old) (News.NothingRead ∷ []) ≡ passing_seen (empty_by old)
  empty_seen None = refl
  empty_seen (Some Passing.Waiting) = refl
  empty_seen (Some Passing.Sent) = refl
  empty_seen (Some Passing.Boxed) = refl
  empty_seen (Some Passing.Served) = refl
  empty_seen (Some Passing.Answered) = refl
