-- The ring of a session is the replay of its moves, its sides go on by frames alone, and master and ring that meet in frames are a session.
use Rattle.std.proofs.Common.{◌≡◌, ℕ, zero, suc, List, [], ◌∷◌, ◌++◌, length, refl, ap, sym, ◌∙◌, subst, append_assoc, append-nil}
use Rattle.exchange_model.specs.Exchange.{Exchange}
use Rattle.link_model.specs.Segment.{RingFate}
use Rattle.segment_model.specs.Slaves
use Rattle.segment_model.specs.Seats
use Rattle.segment_model.specs.Slaves.{Processor, Datagram, Ring, Move, frame_after, all_meet, first_meet, ring_after, ring_back, step_at, ring_steps, replayed}
use Rattle.segment_model.specs.Record.{Frame, frame_of, recorded}
use Rattle.segment_model.specs.Seats.{Side, Seat, Choice, Turn, Session, Planned, ring_of, sides_of, seat_next, seats_next, seat_back, seats_back, seats_lost, seats_after, seat_steps_at, seats_step, happens, run, MayRun, IsFrame, new_session, new_seats, IsOpening, moves}
use Rattle.segment_model.specs.Split.{sides_next, sides_back, sides_lost, sides_after, IsFrameOf, IsBound}

module _ {V A M Q R : Type 0} (x : Exchange V A M Q R) where
  nexts_ring : (k : ℕ) (ss : List (Seat V M Q R)) (cs : List (Choice Q)) → ring_of (seats_next x k ss cs) ≡ ring_of ss
  nexts_ring k [] cs = refl
  nexts_ring k (s ∷ ss) [] = refl
  nexts_ring k (s ∷ ss) (c ∷ cs) = ap (λ l. (s.station, s.slave) ∷ l) (nexts_ring k ss cs)

  pub nexts_sides : (k : ℕ) (ss : List (Seat V M Q R)) (cs : List (Choice Q)) → sides_of (seats_next x k ss cs) ≡ sides_next x.speech k (sides_of ss) cs
  nexts_sides k [] cs = refl
  nexts_sides k (s ∷ ss) [] = refl
  nexts_sides k (s ∷ ss) (c ∷ cs) = ap (λ l. (s.station, (seat_next x k s c).side) ∷ l) (nexts_sides k ss cs)

  backs_ring : (k : ℕ) (ss : List (Seat V M Q R)) (ds back : List (Datagram M)) → ring_of (seats_back x k ss ds back) ≡ all_meet (ring_of ss) ds
  backs_ring k [] ds back = refl
  backs_ring k (s ∷ ss) ds back = ap (λ l. (s.station, (seat_back x k s ds back).slave) ∷ l) (backs_ring k ss (frame_after s.station s.slave ds) back)

  backs_sides : (k : ℕ) (ss : List (Seat V M Q R)) (ds back : List (Datagram M)) → sides_of (seats_back x k ss ds back) ≡ sides_back x.speech k back (sides_of ss)
  backs_sides k [] ds back = refl
  backs_sides k (s ∷ ss) ds back = ap (λ l. (s.station, (seat_back x k s ds back).side) ∷ l) (backs_sides k ss (frame_after s.station s.slave ds) back)

  losts_ring : (after : ℕ) (ss : List (Seat V M Q R)) (ds sent : List (Datagram M)) → ring_of (seats_lost after ss ds sent) ≡ first_meet after (ring_of ss) ds
  losts_ring zero [] ds sent = refl
  losts_ring (suc k) [] ds sent = refl
  losts_ring zero (s ∷ ss) ds sent = ap (λ l. (s.station, s.slave) ∷ l) (losts_ring zero ss ds sent)
  losts_ring (suc k) (s ∷ ss) ds sent = ap (λ l. (s.station, Slaves.slave_after s.station s.slave ds) ∷ l) (losts_ring k ss (frame_after s.station s.slave ds) sent)

  losts_sides : (after : ℕ) (ss : List (Seat V M Q R)) (ds sent : List (Datagram M)) → sides_of (seats_lost after ss ds sent) ≡ sides_lost sent (sides_of ss)
  losts_sides after [] ds sent = refl
  losts_sides zero (s ∷ ss) ds sent = ap (λ l. (s.station, Seats.side_lost s.station sent s.side) ∷ l) (losts_sides zero ss ds sent)
  losts_sides (suc k) (s ∷ ss) ds sent = ap (λ l. (s.station, Seats.side_lost s.station sent s.side) ∷ l) (losts_sides k ss (frame_after s.station s.slave ds) sent)

  afters_ring : (k : ℕ) (ss : List (Seat V M Q R)) (ds : List (Datagram M)) (fate : RingFate) → ring_of (seats_after x k ss ds fate) ≡ ring_after (ring_of ss) ds fate
  afters_ring k ss ds RingFate.Back = backs_ring k ss ds (ring_back (ring_of ss) ds RingFate.Back)
  afters_ring k ss ds (RingFate.Lost after) = losts_ring after ss ds ds

  afters_sides : (k : ℕ) (ss : List (Seat V M Q R)) (ds : List (Datagram M)) (fate : RingFate) → sides_of (seats_after x k ss ds fate) ≡ sides_after x.speech k ds fate (ring_back (ring_of ss) ds fate) (sides_of ss)
  afters_sides k ss ds RingFate.Back = backs_sides k ss ds (ring_back (ring_of ss) ds RingFate.Back)
  afters_sides k ss ds (RingFate.Lost after) = losts_sides after ss ds ds

  step_ring : (processor : Processor V) (k : ℕ) (ss : List (Seat V M Q R)) → ring_of (seat_steps_at x processor k ss) ≡ step_at x processor k (ring_of ss)
  step_ring processor k [] = refl
  step_ring processor zero (s ∷ ss) = refl
  step_ring processor (suc k) (s ∷ ss) = ap (λ l. (s.station, s.slave) ∷ l) (step_ring processor k ss)

  step_sides : (processor : Processor V) (k : ℕ) (ss : List (Seat V M Q R)) → sides_of (seat_steps_at x processor k ss) ≡ sides_of ss
  step_sides processor k [] = refl
  step_sides processor zero (s ∷ ss) = refl
  step_sides processor (suc k) (s ∷ ss) = ap (λ l. (s.station, s.side) ∷ l) (step_sides processor k ss)

  steps_ring : (processor : Processor V) (ss : List (Seat V M Q R)) (ks : List ℕ) → ring_of (seats_step x processor ss ks) ≡ ring_steps x processor (ring_of ss) ks
  steps_ring processor ss [] = refl
  steps_ring processor ss (k ∷ ks) = steps_ring processor (seat_steps_at x processor k ss) ks ∙ ap (λ ns. ring_steps x processor ns ks) (step_ring processor k ss)

  steps_sides : (processor : Processor V) (ss : List (Seat V M Q R)) (ks : List ℕ) → sides_of (seats_step x processor ss ks) ≡ sides_of ss
  steps_sides processor ss [] = refl
  steps_sides processor ss (k ∷ ks) = steps_sides processor (seat_steps_at x processor k ss) ks ∙ step_sides processor k ss

  -- the ring, the sides and the frames behind a turn
  pub turn_ring : (processor : Processor V) (w : Session V M Q R) (t : Turn M Q) → ring_of (happens x processor w t).seats ≡ ring_steps x processor (ring_after (ring_of w.seats) t.move.sent t.move.fate) t.move.steps
  turn_ring processor w t =
      let next = seats_next x (length w.frames) w.seats t.choices in
      steps_ring processor (seats_after x (length w.frames) next t.move.sent t.move.fate) t.move.steps
      ∙ ap (λ ns. ring_steps x processor ns t.move.steps) (afters_ring (length w.frames) next t.move.sent t.move.fate ∙ ap (λ ns. ring_after ns t.move.sent t.move.fate) (nexts_ring (length w.frames) w.seats t.choices))

  pub turn_back : (w : Session V M Q R) (t : Turn M Q) → ring_back (ring_of (seats_next x (length w.frames) w.seats t.choices)) t.move.sent t.move.fate ≡ ring_back (ring_of w.seats) t.move.sent t.move.fate
  turn_back w t = ap (λ ns. ring_back ns t.move.sent t.move.fate) (nexts_ring (length w.frames) w.seats t.choices)

  pub turn_sides : (processor : Processor V) (w : Session V M Q R) (t : Turn M Q) →
      sides_of (happens x processor w t).seats ≡ sides_after x.speech (length w.frames) t.move.sent t.move.fate (ring_back (ring_of w.seats) t.move.sent t.move.fate) (sides_next x.speech (length w.frames) (sides_of w.seats) t.choices)
  turn_sides processor w t =
      let k = length w.frames in
      let next = seats_next x k w.seats t.choices in
      steps_sides processor (seats_after x k next t.move.sent t.move.fate) t.move.steps
      ∙ afters_sides k next t.move.sent t.move.fate
      ∙ ap (λ back. sides_after x.speech k t.move.sent t.move.fate back (sides_of next)) (turn_back w t)
      ∙ ap (sides_after x.speech k t.move.sent t.move.fate (ring_back (ring_of w.seats) t.move.sent t.move.fate)) (nexts_sides k w.seats t.choices)

  -- a session is the replay of its moves
  pub run_ring : (processor : Processor V) (w : Session V M Q R) (ts : List (Turn M Q)) → ring_of (run x processor w ts).seats ≡ replayed x processor (ring_of w.seats) (moves ts)
  run_ring processor w [] = refl
  run_ring processor w (t ∷ ts) = run_ring processor (happens x processor w t) ts ∙ ap (λ ns. replayed x processor ns (moves ts)) (turn_ring processor w t)

  pub turn_frames : (processor : Processor V) (w : Session V M Q R) (t : Turn M Q) → (happens x processor w t).frames ≡ w.frames ++ frame_of (ring_of w.seats) t.move ∷ []
  turn_frames processor w t = ap (λ back. w.frames ++ record { sent = t.move.sent; fate = t.move.fate; back = back } ∷ []) (turn_back w t)

  pub run_frames : (processor : Processor V) (w : Session V M Q R) (ts : List (Turn M Q)) → (run x processor w ts).frames ≡ w.frames ++ recorded x processor (ring_of w.seats) (moves ts)
  run_frames processor w [] = sym (append-nil w.frames)
  run_frames processor w (t ∷ ts) =
      run_frames processor (happens x processor w t) ts
      ∙ ap (λ fs. fs ++ recorded x processor (ring_of (happens x processor w t).seats) (moves ts)) (turn_frames processor w t)
      ∙ ap (λ ns. (w.frames ++ frame_of (ring_of w.seats) t.move ∷ []) ++ recorded x processor ns (moves ts)) (turn_ring processor w t)
      ∙ append_assoc w.frames (frame_of (ring_of w.seats) t.move ∷ []) _

  -- turns behind turns
  run-append : (processor : Processor V) (w : Session V M Q R) (ts : List (Turn M Q)) (t : Turn M Q) → run x processor w (ts ++ t ∷ []) ≡ happens x processor (run x processor w ts) t
  run-append processor w [] t = refl
  run-append processor w (u ∷ ts) t = run-append processor (happens x processor w u) ts t

  may-append : (processor : Processor V) (w : Session V M Q R) (ts : List (Turn M Q)) (t : Turn M Q) → MayRun x processor w ts → (let z = run x processor w ts in IsFrame (seats_next x (length z.frames) z.seats t.choices) t.move.sent) → MayRun x processor w (ts ++ t ∷ [])
  may-append processor w [] t m f = (f, tt)
  may-append processor w (u ∷ ts) t m f = (m.0, may-append processor (happens x processor w u) ts t m.1 f)

  pub frame_from : (ss : List (Seat V M Q R)) (sent : List (Datagram M)) → IsFrameOf (sides_of ss) sent → IsFrame ss sent
  frame_from [] sent f = tt
  frame_from (s ∷ ss) sent f = (f.0, frame_from ss sent f.1)

  pub new_bound : (processor : Processor V) (ps : List (Planned V)) (opening : List (Frame M)) → IsOpening opening → IsBound x processor ps (sides_of (new_seats {M = M} {Q = Q} {R = R} ps)) (ring_of (new_seats {M = M} {Q = Q} {R = R} ps)) opening
  new_bound processor ps opening quiet = record { opening = opening; quiet = quiet; turns = []; may = tt; sides = refl; ring = refl; frames = refl }

  -- a master and a ring that meet in a frame stay a session
  pub bound_step : (processor : Processor V) (ps : List (Planned V)) (ds : List (ℕ × Side M Q R)) (ns : Ring V M) (fs : List (Frame M)) → IsBound x processor ps ds ns fs → (cs : List (Choice Q)) (m : Move M) →
      IsFrameOf (sides_next x.speech (length fs) ds cs) m.sent →
      IsBound x processor ps (sides_after x.speech (length fs) m.sent m.fate (ring_back ns m.sent m.fate) (sides_next x.speech (length fs) ds cs)) (ring_steps x processor (ring_after ns m.sent m.fate) m.steps) (fs ++ frame_of ns m ∷ [])
  bound_step processor ps ds ns fs b cs m f =
      let z = run x processor (new_session b.opening ps) b.turns in
      let t : Turn M Q = record { choices = cs; move = m } in
      let k = b.frames in
      let asked : IsFrameOf (sides_of (seats_next x (length z.frames) z.seats cs)) m.sent =
      subst (λ l. IsFrameOf l m.sent) (ap (λ l. sides_next x.speech (length fs) l cs) (sym b.sides) ∙ ap (λ l. sides_next x.speech (length l) (sides_of z.seats) cs) (sym k) ∙ sym (nexts_sides (length z.frames) z.seats cs)) f in
      record {
        opening = b.opening;
        quiet = b.quiet;
        turns = b.turns ++ t ∷ [];
        may = may-append processor (new_session b.opening ps) b.turns t b.may (frame_from (seats_next x (length z.frames) z.seats cs) m.sent asked);
        sides =
            ap (λ w. sides_of w.seats) (run-append processor (new_session b.opening ps) b.turns t) ∙ turn_sides processor z t
            ∙ (λ i. sides_after x.speech (length (k i)) m.sent m.fate (ring_back (b.ring i) m.sent m.fate) (sides_next x.speech (length (k i)) (b.sides i) cs));
        ring = ap (λ w. ring_of w.seats) (run-append processor (new_session b.opening ps) b.turns t) ∙ turn_ring processor z t ∙ ap (λ ns. ring_steps x processor (ring_after ns m.sent m.fate) m.steps) b.ring;
        frames = ap (λ w. w.frames) (run-append processor (new_session b.opening ps) b.turns t) ∙ turn_frames processor z t ∙ (λ i. k i ++ frame_of (b.ring i) m ∷ []);
      }
