-- The rows of a seat have no more mails than were held for it and accepted from it.
use Rattle.std.proofs.Common.{◌≡◌, ℕ, zero, suc, ◌+◌, ◌≤◌, Bool, true, false, Option, Some, None, List, [], ◌∷◌, ◌++◌, length, refl, ap, ◌∙◌, arith, length-append, append-nil}
use Rattle.std.specs.Prelude.{option_map, ◌&&◌, if◌then◌else◌}
use Rattle.slave_parts.specs.of_exchange_model.Exchange.{Exchange, Speech}
use Rattle.slave_parts.specs.of_exchange_model.Rows.{Row, begun, row_heard, row_told, left, told_all, heard_all}
use Rattle.slave_parts.proofs.of_exchange_model.Settles.{told_all_last, heard_all_last}
use Rattle.slave_parts.specs.of_link_model.Mails.{LinkMail}
use Rattle.slave_parts.specs.of_link_model.Frames.{all_accepted}
use Rattle.slave_parts.specs.of_link_model.Segment.{RingFate}
use Rattle.slave_parts.specs.of_segment_model.Slaves.{Processor, Datagram, grams, frame_after, ring_back}
use Rattle.slave_parts.specs.of_segment_model.Seats.{Side, Seat, Choice, Turn, Session, Planned, rows_of, newest, is_over, side_begins, next_mail, first_left, side_holds, seat_next, seats_next, seat_back, seats_back, seats_lost, seats_after, seat_steps_at, seats_step, ring_of, new_seats, happens}
use Rattle.slave_parts.specs.of_segment_model.Laws.{EachSeat}
use Rattle.few_replies.specs.RowCounts.{rows_mails}

-- the mails of the newest row, and of all
abbrev now_mails : {M Q R : Type 0} → Option (Row M Q R) → ℕ
now_mails None = 0
now_mails (Some r) = length r.told + length r.heard

abbrev side_mails : {M Q R : Type 0} → Side M Q R → ℕ
side_mails d = rows_mails d.past + now_mails d.now

last_mails : {M Q R : Type 0} (rs : List (Row M Q R)) (r : Row M Q R) → rows_mails (rs ++ r ∷ []) ≡ rows_mails rs + (length r.told + length r.heard)
last_mails rs r = omega (arith, ap length (told_all_last rs r), ap length (heard_all_last rs r), length-append (told_all rs) r.told, length-append (heard_all rs) r.heard)

all_mails : {M Q R : Type 0} (past : List (Row M Q R)) (now : Option (Row M Q R)) → rows_mails (past ++ newest now) ≡ rows_mails past + now_mails now
all_mails past None = omega (arith, ap rows_mails (append-nil past))
all_mails past (Some r) = last_mails past r

-- WITHIN what was held and accepted
abbrev pub Within : {V M Q R : Type 0} → Seat V M Q R → Type 0
Within s = rows_mails (rows_of s.side) ≤ length s.held + length s.accepted

within_by : {V M Q R : Type 0} (s t : Seat V M Q R) → side_mails t.side + (length s.held + length s.accepted) ≤ side_mails s.side + (length t.held + length t.accepted) → Within s → Within t
within_by s t less h = omega (arith, all_mails s.side.past s.side.now, all_mails t.side.past t.side.now, less, h)

-- ---- before a frame
begins_mails : {M Q R : Type 0} (x : Speech M Q R) (frame : ℕ) (d : Side M Q R) (now : Option (Row M Q R)) (begin : Option Q) → d.now ≡ now → side_mails (side_begins x frame d now begin) ≡ side_mails d
begins_mails x frame d now None e = refl
begins_mails x frame d None (Some q) e = go (x.valid q)
  where
    go : (b : Bool) → side_mails (if b then record d { now = Some (begun q frame) } else d) ≡ side_mails d
    go true = omega (arith, ap now_mails e)
    go false = refl
begins_mails x frame d (Some r) (Some q) e = go (x.valid q && is_over x d.halves.out.holding d.fresh r)
  where
    go : (b : Bool) → side_mails (if b then record d { past = d.past ++ r ∷ []; now = Some (begun q frame) } else d) ≡ side_mails d
    go true = omega (arith, ap now_mails e, last_mails d.past r)
    go false = refl

holds_mails : {M Q R : Type 0} (x : Speech M Q R) (d : Side M Q R) (now : Option (Row M Q R)) (holding : Option (LinkMail M)) (hold : Bool) → d.now ≡ now →
    side_mails (side_holds d (next_mail x now holding hold)) ≡ side_mails d + length (next_mail x now holding hold)
holds_mails x d now holding false e = omega arith
holds_mails x d None holding true e = omega arith
holds_mails x d (Some r) (Some m) true e = omega arith
holds_mails x d (Some r) None true e = go (left x r)
  where
    go : (ms : List _) → side_mails (side_holds d (first_left ms)) ≡ side_mails d + length (first_left ms)
    go [] = omega arith
    go (m ∷ ms) =
        let told : now_mails (option_map (λ k. row_told m k) d.now) ≡ suc (now_mails (Some r)) = ap (λ z. now_mails (option_map (λ k. row_told m k) z)) e ∙ omega (arith, length-append r.told (m ∷ [])) in
        omega (arith, told, ap now_mails e)

next_within : {V A M Q R : Type 0} (x : Exchange V A M Q R) (frame : ℕ) (s : Seat V M Q R) (c : Choice Q) → Within s → Within (seat_next x frame s c)
next_within x frame s c h =
    let e = side_begins x.speech frame s.side s.side.now c.begin in
    let ms = next_mail x.speech e.now e.halves.out.holding c.hold in
    within_by s (seat_next x frame s c) (omega (arith, begins_mails x.speech frame s.side s.side.now c.begin refl, holds_mails x.speech e e.now e.halves.out.holding c.hold refl, length-append s.held ms)) h

nexts_within : {V A M Q R : Type 0} (x : Exchange V A M Q R) (frame : ℕ) (ss : List (Seat V M Q R)) (cs : List (Choice Q)) → EachSeat Within ss → EachSeat Within (seats_next x frame ss cs)
nexts_within x frame [] cs h = tt
nexts_within x frame (s ∷ ss) [] h = h
nexts_within x frame (s ∷ ss) (c ∷ cs) h = (next_within x frame s c h.0, nexts_within x frame ss cs h.1)

-- ---- behind a frame
heard_mails : {M Q R : Type 0} (x : Speech M Q R) (frame : ℕ) (ms : List M) (now : Option (Row M Q R)) → now_mails (option_map (λ r. row_heard x frame ms r) now) ≤ now_mails now + length ms
heard_mails x frame ms None = omega arith
heard_mails x frame ms (Some r) = omega (arith, length-append r.heard ms)

back_within : {V A M Q R : Type 0} (x : Exchange V A M Q R) (frame : ℕ) (s : Seat V M Q R) (ds back : List (Datagram M)) → Within s → Within (seat_back x frame s ds back)
back_within x frame s ds back h =
    let ms = all_accepted s.station s.side.halves (grams back) in
    within_by s (seat_back x frame s ds back) (omega (arith, heard_mails x.speech frame ms s.side.now, length-append s.accepted ms)) h

backs_within : {V A M Q R : Type 0} (x : Exchange V A M Q R) (frame : ℕ) (ss : List (Seat V M Q R)) (ds back : List (Datagram M)) → EachSeat Within ss → EachSeat Within (seats_back x frame ss ds back)
backs_within x frame [] ds back h = tt
backs_within x frame (s ∷ ss) ds back h = (back_within x frame s ds back h.0, backs_within x frame ss (frame_after s.station s.slave ds) back h.1)

losts_within : {V M Q R : Type 0} (after : ℕ) (ss : List (Seat V M Q R)) (ds sent : List (Datagram M)) → EachSeat Within ss → EachSeat Within (seats_lost after ss ds sent)
losts_within after [] ds sent h = tt
losts_within zero (s ∷ ss) ds sent h = (h.0, losts_within zero ss ds sent h.1)
losts_within (suc k) (s ∷ ss) ds sent h = (h.0, losts_within k ss (frame_after s.station s.slave ds) sent h.1)

afters_within : {V A M Q R : Type 0} (x : Exchange V A M Q R) (frame : ℕ) (ss : List (Seat V M Q R)) (ds : List (Datagram M)) (fate : RingFate) → EachSeat Within ss → EachSeat Within (seats_after x frame ss ds fate)
afters_within x frame ss ds RingFate.Back h = backs_within x frame ss ds (ring_back (ring_of ss) ds RingFate.Back) h
afters_within x frame ss ds (RingFate.Lost after) h = losts_within after ss ds ds h

-- ---- steps
step_within : {V A M Q R : Type 0} (x : Exchange V A M Q R) (processor : Processor V) (k : ℕ) (ss : List (Seat V M Q R)) → EachSeat Within ss → EachSeat Within (seat_steps_at x processor k ss)
step_within x processor k [] h = tt
step_within x processor zero (s ∷ ss) h = h
step_within x processor (suc k) (s ∷ ss) h = (h.0, step_within x processor k ss h.1)

steps_within : {V A M Q R : Type 0} (x : Exchange V A M Q R) (processor : Processor V) (ss : List (Seat V M Q R)) (ks : List ℕ) → EachSeat Within ss → EachSeat Within (seats_step x processor ss ks)
steps_within x processor ss [] h = h
steps_within x processor ss (k ∷ ks) h = steps_within x processor (seat_steps_at x processor k ss) ks (step_within x processor k ss h)

-- ---- any turns
pub turn_within : {V A M Q R : Type 0} (x : Exchange V A M Q R) (processor : Processor V) (w : Session V M Q R) (t : Turn M Q) → EachSeat Within w.seats → EachSeat Within (happens x processor w t).seats
turn_within x processor w t h =
    let asked = seats_next x (length w.frames) w.seats t.choices in
    steps_within x processor (seats_after x (length w.frames) asked t.move.sent t.move.fate) t.move.steps
    (afters_within x (length w.frames) asked t.move.sent t.move.fate (nexts_within x (length w.frames) w.seats t.choices h))

pub new_within : {V : Type 0} (M Q R : Type 0) (ps : List (Planned V)) → EachSeat (Within {V = V} {M = M} {Q = Q} {R = R}) (new_seats ps)
new_within M Q R [] = tt
new_within M Q R (p ∷ ps) = (omega arith, new_within M Q R ps)
