-- ALL THAT WAS HEARD by the frames of an epoch was heard in its rows: before a service by mails came into hand the slave took nothing, and so it gave nothing.
use Rattle.std.proofs.Common.{◌≡◌, ℕ, zero, suc, ◌==◌, ◌&&◌, Bool, true, false, Option, None, Some, option_map, List, [], ◌∷◌, ◌++◌, length, refl, ap, sym, ◌∙◌, subst, append_assoc, append-nil, if◌then◌else◌}
use Rattle.served_places.proofs.of_exchange_model.Lists.{append_none}
use Rattle.served_places.proofs.of_exchange_model.Settles.{heard_all_last}
use Rattle.served_places.specs.of_exchange_model.Exchange.{Exchange, given}
use Rattle.served_places.specs.of_exchange_model.Rows.{Row, begun, heard_all, row_heard, row_told}
use Rattle.run_work.proofs.of_life_counts.Turns.{heard_push}
use Rattle.served_places.specs.of_life_model.Eras.{EraIs, era_frames, planned}
use Rattle.served_places.specs.of_life_model.Lives.{Spot, Era}
use Rattle.served_places.proofs.of_link_model.Law.{accepted_of_offered, new_agrees, taken_of_held}
use Rattle.served_places.specs.of_link_model.Frames.{Ask, Gram, all_accepted, halves_lost, halves_without}
use Rattle.served_places.specs.of_link_model.Link.{Halves}
use Rattle.served_places.specs.of_link_model.Mails.{LinkMail}
use Rattle.served_places.specs.of_link_model.Segment.{RingFate}
use Rattle.served_places.specs.of_link_model.Slave.{node_look, node_offers, node_take, node_takes}
use Rattle.served_places.proofs.of_segment_model.Answers.{kept_all-push, kept_of}
use Rattle.served_places.proofs.of_segment_model.Links.{served_gives}
use Rattle.served_places.proofs.of_segment_model.News.{heard_frame, kept_back}
use Rattle.served_places.proofs.of_segment_model.Openings.{opening_heard, opening_kept}
use Rattle.served_places.proofs.of_segment_model.Sounds.{SeatAgrees, frame_agrees, next_agrees, step_agrees}
use Rattle.served_places.specs.of_segment_model.Record.{Frame, heard, heard_behind, nothing_kept}
use Rattle.served_places.specs.of_segment_model.Seats.{Choice, IsFrame, IsOpening, Planned, Seat, Side, is_over, link_of, new_seats, newest, next_mail, ring_of, rows_of, seat_back, seat_next, seat_steps, seat_steps_at, seats_after, seats_next, seats_step, side_back, side_begins, side_holds, side_lost, side_next, side_takes_up, sides_of}
use Rattle.served_places.specs.of_segment_model.Slaves.{Datagram, Processor, Registers, Slave, grams, ring_back, serving, slave_after, slave_steps, state_told}
use Rattle.served_rings.proofs.SideHeard.{next_heard, next_inn}
use Rattle.served_places.specs.of_state_model.Stated.{Stated}
use Rattle.served_places.specs.of_state_model.States.{Table}
use Rattle.served_places.proofs.of_state_model.Moves.{server_after}
use Rattle.served_places.specs.of_state_model.Tasks.{MayRun, TaskSession, TaskTurn, happens, mails_choices, new_tasks, run}

-- ---- what is heard in the rows of a side
module _ {V A M Q R : Type 0} (x : Exchange V A M Q R) where
  abbrev heard_in : Side M Q R → List M
  heard_in d = heard_all (rows_of d)

  -- what is accepted is heard in the newest row
  back_heard : (frame station : ℕ) (back : List (Datagram M)) (d : Side M Q R) (r : Row M Q R) → d.now ≡ Some r → heard_in (side_back x.speech frame station back d) ≡ heard_in d ++ all_accepted station d.halves (grams back)
  back_heard frame station back d r is =
      let ms = all_accepted station d.halves (grams back) in
      ap (λ n. heard_all (d.past ++ newest (option_map (λ k. row_heard x.speech frame ms k) n))) is ∙ heard_all_last d.past (row_heard x.speech frame ms r) ∙ sym (append_assoc (heard_all d.past) r.heard ms)
      ∙ ap (λ l. l ++ ms) (sym (ap (λ n. heard_all (d.past ++ newest n)) is ∙ heard_all_last d.past r))

-- a lost frame leaves the counter of the last mail heard
lost_last : {M : Type 0} (h : Halves M) (ask : Ask M) → (halves_lost h ask).inn.last ≡ h.inn.last
lost_last h (Ask.WriteMail m) = refl
lost_last h Ask.ReadMail = refl
lost_last h (Ask.WriteRequest bit) = refl
lost_last h Ask.ReadAcknowledge = refl
lost_last h Ask.Other = refl

without_last : {M : Type 0} (station : ℕ) (h : Halves M) (gs : List (Gram M)) → (halves_without station h gs).inn.last ≡ h.inn.last
without_last station h [] = refl
without_last station h (g ∷ gs) = without_last station (if g.station == station then halves_lost h g.ask else h) gs ∙ go (g.station == station)
  where
    go : (b : Bool) → (if b then halves_lost h g.ask else h).inn.last ≡ h.inn.last
    go true = lost_last h g.ask
    go false = refl

none_mapped : {X Y : Type 0} (f : X → Y) (o : Option X) → option_map f o ≡ None → o ≡ None
none_mapped f None e = refl
none_mapped {Y = Y} f (Some x) e = absurd (let no : ◌≡◌ {A = Option Y} (Some (f x)) None = e in cc)

module _ {V A M Q R : Type 0} (x : Exchange V A M Q R) (acknowledged : Q → Bool) (processor : Processor V) where
  -- ---- no mail is held while there is no row
  begins_none : (k : ℕ) (d : Side M Q R) (now : Option (Row M Q R)) → d.now ≡ now → (begin : Option Q) → (side_begins x.speech k d now begin).now ≡ None → d.now ≡ None
  begins_none k d now is None e = e
  begins_none k d None is (Some q) e = is
  begins_none k d (Some r) is (Some q) e = go (x.speech.valid q) (is_over x.speech d.halves.out.holding d.fresh r) e
    where
      go : (a b : Bool) → (if a && b then record d { past = d.past ++ r ∷ []; now = Some (begun q k) } else d).now ≡ None → d.now ≡ None
      go true true e = absurd (let no : Some (begun q k) ≡ None = e in cc)
      go true false e = e
      go false b e = e

  held_none : (e : Side M Q R) (now : Option (Row M Q R)) → e.now ≡ now → (holding : Option (LinkMail M)) (hold : Bool) → (side_holds e (next_mail x.speech now holding hold)).now ≡ None → (now ≡ None) × (next_mail x.speech now holding hold ≡ [])
  held_none e None is holding false gone = (refl, refl)
  held_none e None is holding true gone = (refl, refl)
  held_none e (Some r) is holding hold gone = absurd (go (next_mail x.speech (Some r) holding hold) gone)
    where
      go : (ms : List M) → (side_holds e ms).now ≡ None → ⊥
      go [] gone = let bad : Some r ≡ None = sym is ∙ gone in cc
      go (m ∷ ms) gone = let bad : Some r ≡ None = sym is ∙ none_mapped (λ z. row_told m z) e.now gone in cc

  next_none : (k : ℕ) (d : Side M Q R) (c : Choice Q) → (side_next x.speech k d c).now ≡ None → (d.now ≡ None) × (side_takes_up x.speech k d c ≡ [])
  next_none k d c gone =
      let e = side_begins x.speech k d d.now c.begin in
      let h = held_none e e.now refl e.halves.out.holding c.hold gone in
      (begins_none k d d.now refl c.begin h.0, h.1)

  -- ---- WHAT IS KEPT OF A SEAT
  pub record Kept (fs : List (Frame M)) (s : Seat V M Q R) : Type 0 where
    pub agrees : SeatAgrees x s
    pub last : s.side.halves.inn.last ≡ (kept_of s.station fs).heard
    pub rows : heard s.station fs ≡ heard_all (rows_of s.side)
    pub none : s.side.now ≡ None → s.held ≡ []
    pub quiet : s.taken ≡ [] → (s.offered ≡ []) × (s.slave.node.server.waiting ≡ [])

  next_kept : (fs : List (Frame M)) (s : Seat V M Q R) (c : Choice Q) → Kept fs s → Kept fs (seat_next x (length fs) s c)
  next_kept fs s c k = record {
    agrees = next_agrees x (length fs) s c k.agrees;
    last = ap (λ h. h.last) (next_inn x.speech (length fs) s.side c) ∙ k.last;
    rows = k.rows ∙ sym (next_heard x.speech (length fs) s.side c);
    none = λ gone. (let h = next_none (length fs) s.side c gone in λ j. k.none h.0 j ++ h.1 j);
    quiet = k.quiet;
  }

  back_kept : (fs : List (Frame M)) (f : Frame M) (s : Seat V M Q R) (ds : List (Datagram M)) → SeatAgrees x (seat_back x (length fs) s ds f.back) → Kept fs s → Kept (fs ++ f ∷ []) (seat_back x (length fs) s ds f.back)
  back_kept fs f s ds agrees k = record {
    agrees = agrees;
    last = sym (kept_back s.station s.side.halves f.back) ∙ ap (λ n. heard_behind s.station n f.back) k.last ∙ ap (λ c. c.heard) (sym (kept_all-push s.station nothing_kept fs f));
    rows = all_heard ∙ ap (λ l. l ++ ms) k.rows ∙ in_rows s.side.now refl;
    none = λ gone. k.none (none_mapped _ s.side.now gone);
    quiet = λ taken. (let q = k.quiet taken in (q.0, ap (λ v. v.waiting) (server_after s.station s.slave ds) ∙ q.1));
  }
    where
      ms : List M
      ms = all_accepted s.station s.side.halves (grams f.back)

      all_heard : heard s.station (fs ++ f ∷ []) ≡ heard s.station fs ++ ms
      all_heard = heard_push s.station fs f ∙ ap (λ l. heard s.station fs ++ l) (heard_frame s.station (kept_of s.station fs) s.side.halves f k.last)

      in_rows : (now : Option (Row M Q R)) → s.side.now ≡ now → heard_all (rows_of s.side) ++ ms ≡ heard_all (rows_of (seat_back x (length fs) s ds f.back).side)
      in_rows (Some r) is = sym (back_heard x (length fs) s.station f.back s.side r is)
      in_rows None is =
          let order = taken_of_held (link_of s) k.agrees in
          let taken : s.taken ≡ [] = (append_none s.taken order.0 (sym order.1 ∙ k.none is)).0 in
          let given = accepted_of_offered (link_of (seat_back x (length fs) s ds f.back)) agrees in
          let nothing : ms ≡ [] = (append_none s.accepted ms (append_none (s.accepted ++ ms) given.0 (sym given.1 ∙ (k.quiet taken).0)).0).1 in
          ap (λ l. heard_all (rows_of s.side) ++ l) nothing ∙ append-nil (heard_all (rows_of s.side)) ∙ same s.side.now is
        where
          same : (now : Option (Row M Q R)) → now ≡ None → heard_all (s.side.past ++ newest now) ≡ heard_all (s.side.past ++ newest (option_map (λ r. row_heard x.speech (length fs) ms r) now))
          same None e = refl
          same (Some r) e = absurd (let no : Some r ≡ None = e in cc)

  lost_kept : (fs : List (Frame M)) (f : Frame M) → f.back ≡ [] → (s : Seat V M Q R) (n : Slave V M) → n.node.server ≡ s.slave.node.server → (let t = record s { side = side_lost s.station f.sent s.side; slave = n } in SeatAgrees x t → Kept fs s → Kept (fs ++ f ∷ []) t)
  lost_kept fs f none s n same agrees k = record {
    agrees = agrees;
    last = without_last s.station s.side.halves (grams f.sent) ∙ k.last ∙ ap (λ ds. heard_behind s.station (kept_of s.station fs).heard ds) (sym none) ∙ ap (λ c. c.heard) (sym (kept_all-push s.station nothing_kept fs f));
    rows = heard_push s.station fs f
        ∙ ap (λ l. heard s.station fs ++ l) (heard_frame s.station (kept_of s.station fs) s.side.halves f k.last ∙ ap (λ ds. all_accepted s.station s.side.halves (grams ds)) none) ∙ append-nil (heard s.station fs) ∙ k.rows;
    none = k.none;
    quiet = λ taken. (let q = k.quiet taken in (q.0, ap (λ v. v.waiting) same ∙ q.1));
  }

  step_kept : (fs : List (Frame M)) (s : Seat V M Q R) → Kept fs s → Kept fs (seat_steps x processor s)
  step_kept fs s k = record {
    agrees = step_agrees x processor s k.agrees;
    last = k.last;
    rows = k.rows;
    none = k.none;
    quiet = λ taken.
        let n = state_told processor (processor.carry s.slave.registers).state (node_look s.slave.node) in
        let both = append_none s.taken (node_takes (serving x) n) taken in
        let q = k.quiet both.0 in
        let all = served_gives x s.offered n ∙ ap (λ l. (s.offered ++ n.server.waiting) ++ given x.serve n.server.server l) both.1 ∙ append-nil (s.offered ++ n.server.waiting) ∙ ap (λ l. l ++ n.server.waiting) q.0 ∙ q.1 in
        append_none (s.offered ++ node_offers (serving x) (node_take (serving x) n)) (slave_steps x processor s.slave).node.server.waiting all;
  }

  -- ---- OF ONE SEAT ALONE, turn by turn
  abbrev AllKept : List (Frame M) → List (Seat V M Q R) → Type 0
  AllKept fs (s ∷ []) = Kept fs s
  AllKept fs _ = ⊥

  nexts_kept : (fs : List (Frame M)) (ss : List (Seat V M Q R)) (cs : List (Choice Q)) → AllKept fs ss → AllKept fs (seats_next x (length fs) ss cs)
  nexts_kept fs [] cs k = absurd k
  nexts_kept fs (s ∷ []) [] k = k
  nexts_kept fs (s ∷ []) (c ∷ cs) k = next_kept fs s c k
  nexts_kept fs (s ∷ (t ∷ ss)) cs k = absurd k

  frame_kept : (fs : List (Frame M)) (ss : List (Seat V M Q R)) (ds : List (Datagram M)) (fate : RingFate) → IsFrame ss ds → AllKept fs ss →
      AllKept (fs ++ record { sent = ds; fate = fate; back = ring_back (ring_of ss) ds fate } ∷ []) (seats_after x (length fs) ss ds fate)
  frame_kept fs [] ds fate frame k = absurd k
  frame_kept fs (s ∷ (t ∷ ss)) ds fate frame k = absurd k
  frame_kept fs (s ∷ []) ds RingFate.Back frame k =
      back_kept fs (record { sent = ds; fate = RingFate.Back; back = ring_back (ring_of (s ∷ [])) ds RingFate.Back }) s ds (frame_agrees x (length fs) (s ∷ []) ds RingFate.Back (tt, tt) frame (k.agrees, tt)).0 k
  frame_kept fs (s ∷ []) ds (RingFate.Lost zero) frame k =
      lost_kept fs (record { sent = ds; fate = RingFate.Lost zero; back = [] }) refl s s.slave refl (frame_agrees x (length fs) (s ∷ []) ds (RingFate.Lost zero) (tt, tt) frame (k.agrees, tt)).0 k
  frame_kept fs (s ∷ []) ds (RingFate.Lost (suc j)) frame k =
      lost_kept fs (record { sent = ds; fate = RingFate.Lost (suc j); back = [] }) refl s (slave_after s.station s.slave ds) (server_after s.station s.slave ds)
      (frame_agrees x (length fs) (s ∷ []) ds (RingFate.Lost (suc j)) (tt, tt) frame (k.agrees, tt)).0 k

  steps_kept : (fs : List (Frame M)) (ks : List ℕ) (ss : List (Seat V M Q R)) → AllKept fs ss → AllKept fs (seats_step x processor ss ks)
  steps_kept fs [] ss k = k
  steps_kept fs (j ∷ ks) ss k = steps_kept fs ks (seat_steps_at x processor j ss) (one j ss k)
    where
      one : (j : ℕ) (ss : List (Seat V M Q R)) → AllKept fs ss → AllKept fs (seat_steps_at x processor j ss)
      one j [] k = absurd k
      one zero (s ∷ []) k = step_kept fs s k
      one (suc j) (s ∷ []) k = k
      one zero (s ∷ (t ∷ ss)) k = absurd k
      one (suc j) (s ∷ (t ∷ ss)) k = absurd k

  run_kept : (w : TaskSession V M Q R) (ts : List (TaskTurn M Q)) → MayRun x acknowledged processor w ts → AllKept w.session.frames w.session.seats → (let z = run x acknowledged processor w ts in AllKept z.session.frames z.session.seats)
  run_kept w [] may k = k
  run_kept w (t ∷ ts) may k =
      let fs = w.session.frames in
      let asks = seats_next x (length fs) w.session.seats (mails_choices w.accounts t.picks) in
      let f : Frame M = record { sent = t.move.sent; fate = t.move.fate; back = ring_back (ring_of asks) t.move.sent t.move.fate } in
      run_kept (happens x acknowledged processor w t) ts may.1
      (steps_kept (fs ++ f ∷ []) t.move.steps (seats_after x (length fs) asks t.move.sent t.move.fate)
      (frame_kept fs asks t.move.sent t.move.fate may.0.0 (nexts_kept fs w.session.seats (mails_choices w.accounts t.picks) k)))

  new_kept : (opening : List (Frame M)) → IsOpening opening → (q : Planned V) → AllKept opening (new_seats (q ∷ []))
  new_kept opening quiet q = record {
    agrees = new_agrees (record { server = q.server; waiting = [] });
    last = ap (λ c. c.heard) (sym (opening_kept q.station opening quiet));
    rows = opening_heard q.station opening quiet;
    none = λ e. refl;
    quiet = λ e. (refl, refl);
  }

  one_seat : (fs : List (Frame M)) (ss : List (Seat V M Q R)) (station : ℕ) (d : Side M Q R) → AllKept fs ss → sides_of ss ≡ (station, d) ∷ [] → heard station fs ≡ heard_all (rows_of d)
  one_seat fs [] station d k e = absurd k
  one_seat fs (s ∷ (t ∷ ss)) station d k e = absurd k
  one_seat fs (s ∷ []) station d k e =
      let pair : ◌≡◌ {A = ℕ × Side M Q R} (s.station, s.side) (station, d) = cc in
      subst (λ (z : ℕ × Side M Q R). heard z.0 fs ≡ heard_all (rows_of z.1)) pair k.rows

-- OF AN EPOCH: all mails that were heard by its frames were heard in its rows, in order
pub era_heard : {V A M Q R : Type 0} (x : Exchange V A M Q R) (s : Stated V A Q) (processor : Processor V) (table : ℕ → Table) (spot : Spot) (e : Era M Q R) (opened end : ℕ) (fs : List (Frame M)) (v : V) (r : Registers) (n : Slave V M) → EraIs x s processor table spot e opened end fs v r n →
    heard spot.station (era_frames spot opened end fs) ≡ heard_all (rows_of e.side)
era_heard {Q = Q} {R = R} x s processor table spot e opened end fs v r n is =
    let b = is.tasked in
    let q = planned spot v r in
    let now = run x s.acknowledged processor (new_tasks {Q = Q} {R = R} b.opening (q ∷ [])) b.turns in
    let all = run_kept x s.acknowledged processor (new_tasks {Q = Q} {R = R} b.opening (q ∷ [])) b.turns b.may (new_kept x s.acknowledged processor b.opening b.quiet q) in
    subst (λ gs. heard spot.station gs ≡ heard_all (rows_of e.side)) b.frames (one_seat x s.acknowledged processor now.session.frames now.session.seats spot.station e.side all b.sides)
