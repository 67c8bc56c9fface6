-- The promise, and rest, of sides and slaves that a session has come to.
use Rattle.std.proofs.Common.{◌≡◌, ℕ, zero, suc, Bool, List, [], ◌∷◌, map, length, refl, ap, sym, ◌∙◌, subst}
use Rattle.exchange_model.specs.Exchange.{Exchange, IsLawful}
use Rattle.link_model.specs.Segment.{RingFate}
use Rattle.segment_model.specs.Slaves.{Processor, IsStill, Datagram, Ring, Slave, frame_after, ring_back}
use Rattle.segment_model.specs.Record.{Frame}
use Rattle.segment_model.specs.Seats.{Side, Seat, Choice, Turn, Session, Planned, IsPlan, ring_of, sides_of, seats_next, seats_back, seats_lost, seats_after, seat_steps_at, seats_step, happens, run, new_session, new_seats}
use Rattle.segment_model.specs.Split.{IsBound}
use Rattle.segment_model.specs.Laws.{KnowsCounters, EachSeat, SeatPromised, EachOf, Promised, RestsIf, HandedBy}
use Rattle.segment_model.proofs.Kept.{Keeps, run_keeps, new_keeps, run_follows, new_follows, each_promised}
use Rattle.segment_model.specs.Books.{PastEnded, EndedIf, DoneIf}
use Rattle.segment_model.proofs.Ended.{each_ended, each_ended_if, each_done}
use Rattle.segment_model.proofs.Hands.{session_posts, each_handed, each_facts, each_counted, run_out, new_out}
use Rattle.segment_model.proofs.Rests.{each_rests}

-- the stations of seats and the servers that they began with
abbrev starts : {V M Q R : Type 0} → List (Seat V M Q R) → List (ℕ × V)
starts ss = map (λ s. (s.station, s.start)) ss

abbrev planned : {V : Type 0} → List (Planned V) → List (ℕ × V)
planned ps = map (λ p. (p.station, p.server)) ps

heads : {X : Type 0} (a b : X) (more rest : List X) → a ∷ more ≡ b ∷ rest → (a ≡ b) × (more ≡ rest)
heads a b more rest e = (cc, cc)

nothing : {X : Type 0} (a : X) (more : List X) → a ∷ more ≡ [] → ⊥
nothing a more e = absurd (cc)

module _ {V A M Q R : Type 0} (x : Exchange V A M Q R) where
  nexts_starts : (k : ℕ) (ss : List (Seat V M Q R)) (cs : List (Choice Q)) → starts (seats_next x k ss cs) ≡ starts ss
  nexts_starts k [] cs = refl
  nexts_starts k (s ∷ ss) [] = refl
  nexts_starts k (s ∷ ss) (c ∷ cs) = ap (λ l. (s.station, s.start) ∷ l) (nexts_starts k ss cs)

  backs_starts : (k : ℕ) (ss : List (Seat V M Q R)) (ds back : List (Datagram M)) → starts (seats_back x k ss ds back) ≡ starts ss
  backs_starts k [] ds back = refl
  backs_starts k (s ∷ ss) ds back = ap (λ l. (s.station, s.start) ∷ l) (backs_starts k ss (frame_after s.station s.slave ds) back)

  losts_starts : (after : ℕ) (ss : List (Seat V M Q R)) (ds sent : List (Datagram M)) → starts (seats_lost after ss ds sent) ≡ starts ss
  losts_starts after [] ds sent = refl
  losts_starts zero (s ∷ ss) ds sent = ap (λ l. (s.station, s.start) ∷ l) (losts_starts zero ss ds sent)
  losts_starts (suc k) (s ∷ ss) ds sent = ap (λ l. (s.station, s.start) ∷ l) (losts_starts k ss (frame_after s.station s.slave ds) sent)

  afters_starts : (k : ℕ) (ss : List (Seat V M Q R)) (ds : List (Datagram M)) (fate : RingFate) → starts (seats_after x k ss ds fate) ≡ starts ss
  afters_starts k ss ds RingFate.Back = backs_starts k ss ds (ring_back (ring_of ss) ds RingFate.Back)
  afters_starts k ss ds (RingFate.Lost after) = losts_starts after ss ds ds

  step_starts : (processor : Processor V) (k : ℕ) (ss : List (Seat V M Q R)) → starts (seat_steps_at x processor k ss) ≡ starts ss
  step_starts processor k [] = refl
  step_starts processor zero (s ∷ ss) = refl
  step_starts processor (suc k) (s ∷ ss) = ap (λ l. (s.station, s.start) ∷ l) (step_starts processor k ss)

  steps_starts : (processor : Processor V) (ss : List (Seat V M Q R)) (ks : List ℕ) → starts (seats_step x processor ss ks) ≡ starts ss
  steps_starts processor ss [] = refl
  steps_starts processor ss (k ∷ ks) = steps_starts processor (seat_steps_at x processor k ss) ks ∙ step_starts processor k ss

  run_starts : (processor : Processor V) (w : Session V M Q R) (ts : List (Turn M Q)) → starts (run x processor w ts).seats ≡ starts w.seats
  run_starts processor w [] = refl
  run_starts processor w (t ∷ ts) =
      let k = length w.frames in
      let next = seats_next x k w.seats t.choices in
      run_starts processor (happens x processor w t) ts ∙ steps_starts processor (seats_after x k next t.move.sent t.move.fate) t.move.steps
      ∙ afters_starts k next t.move.sent t.move.fate ∙ nexts_starts k w.seats t.choices

  new_starts : (ps : List (Planned V)) → starts (new_seats {M = M} {Q = Q} {R = R} ps) ≡ planned ps
  new_starts [] = refl
  new_starts (p ∷ ps) = ap (λ l. (p.station, p.server) ∷ l) (new_starts ps)

  -- a fact of each seat is a fact of each side and slave
  pub each_of : (P : ℕ → V → Side M Q R → Slave V M → Type 0) (ss : List (Seat V M Q R)) (ps : List (Planned V)) → starts ss ≡ planned ps → EachSeat (λ s. P s.station s.start s.side s.slave) ss → EachOf P ps (sides_of ss) (ring_of ss)
  each_of P [] [] e h = tt
  each_of P [] (p ∷ ps) e h = absurd (nothing (p.station, p.server) (planned ps) (sym e))
  each_of P (s ∷ ss) [] e h = absurd (nothing (s.station, s.start) (starts ss) e)
  each_of P (s ∷ ss) (p ∷ ps) e h =
      let both = heads (s.station, s.start) (p.station, p.server) (starts ss) (planned ps) e in
      let station : s.station ≡ p.station = ap (λ q. q.0) both.0 in
      let start : s.start ≡ p.server = ap (λ q. q.1) both.0 in
      ((station, station, subst (λ q. P q.0 q.1 s.side s.slave) both.0 h.0), each_of P ss ps both.1 h.1)

  pub session_starts : (processor : Processor V) (opening : List (Frame M)) (ps : List (Planned V)) (ts : List (Turn M Q)) → starts (run x processor (new_session {Q = Q} {R = R} opening ps) ts).seats ≡ planned ps
  session_starts processor opening ps ts = run_starts processor (new_session opening ps) ts ∙ new_starts ps

module _ {V A M Q R : Type 0} (x : Exchange V A M Q R) (law : IsLawful x) where
  -- a fact of each seat of a session is one of the sides, slaves and frames that it has come to
  of_session : (P : List (Frame M) → ℕ → V → Side M Q R → Slave V M → Type 0) (processor : Processor V) (ps : List (Planned V)) (ds : List (ℕ × Side M Q R)) (ns : Ring V M) (fs : List (Frame M)) → (b : IsBound x processor ps ds ns fs) →
      (let w = run x processor (new_session {Q = Q} {R = R} b.opening ps) b.turns in EachSeat (λ s. P w.frames s.station s.start s.side s.slave) w.seats) → EachOf (P fs) ps ds ns
  of_session P processor ps ds ns fs b each =
      let w = run x processor (new_session b.opening ps) b.turns in
      let all = each_of x (P w.frames) w.seats ps (session_starts x processor b.opening ps b.turns) each in
      subst (λ l. EachOf (P fs) ps ds l) b.ring (subst (λ l. EachOf (P fs) ps l (ring_of w.seats)) b.sides (subst (λ l. EachOf (P l) ps (sides_of w.seats) (ring_of w.seats)) b.frames all))

  -- the counters, whatever the servers are
  pub bound_counted : (processor : Processor V) (ps : List (Planned V)) → IsPlan x ps → (ds : List (ℕ × Side M Q R)) (ns : Ring V M) (fs : List (Frame M)) → IsBound x processor ps ds ns fs → EachOf (KnowsCounters fs) ps ds ns
  bound_counted processor ps p ds ns fs b =
      let w = run x processor (new_session b.opening ps) b.turns in
      let follows = run_follows x law processor (new_session b.opening ps) b.turns b.may (new_follows x law b.opening b.quiet ps p.stations) in
      of_session (λ fs. KnowsCounters fs) processor ps ds ns fs b (each_counted x law w.frames w.seats follows.records (run_out x law processor (new_session b.opening ps) b.turns b.may (new_out x law b.opening b.quiet ps)))

  module _ (more : M → Bool) (processor : Processor V) (still : IsStill processor) (ps : List (Planned V)) (p : IsPlan x ps) (ds : List (ℕ × Side M Q R)) (ns : Ring V M) (fs : List (Frame M)) (b : IsBound x processor ps ds ns fs) where
    abbrev now : Session V M Q R
    now = run x processor (new_session b.opening ps) b.turns

    keeps : Keeps x law now.frames now.seats
    keeps = run_keeps x law processor still (new_session b.opening ps) b.turns b.may (new_keeps x law b.opening b.quiet ps p)

    promised : EachSeat (SeatPromised x more now.frames) now.seats
    promised = each_promised x law more now.frames now.seats keeps.ready keeps.sound keeps.fitted keeps.records

    handed : EachSeat (λ s. HandedBy x more now.frames s.station s.start s.side s.slave) now.seats
    handed = each_handed x law more now.frames now.seats (each_facts x law now.seats keeps.ready keeps.fitted) keeps.records promised (session_posts x law b.opening b.quiet processor still ps p b.turns b.may)

    pub bound_promised : EachOf (Promised x more fs) ps ds ns
    bound_promised = of_session (λ fs. Promised x more fs) processor ps ds ns fs b promised

    pub bound_handed : EachOf (HandedBy x more fs) ps ds ns
    bound_handed = of_session (λ fs. HandedBy x more fs) processor ps ds ns fs b handed

    pub bound_ended : EachOf (PastEnded x more fs) ps ds ns × EachOf (EndedIf x more fs) ps ds ns
    bound_ended = (
      of_session (λ fs. PastEnded x more fs) processor ps ds ns fs b (each_ended x law more now.frames now.seats keeps.records promised handed),
      of_session (λ fs. EndedIf x more fs) processor ps ds ns fs b (each_ended_if x law more now.frames now.seats keeps.records promised handed),
    )

    pub bound_rests : EachOf (RestsIf x fs) ps ds ns
    bound_rests = of_session (λ fs. RestsIf x fs) processor ps ds ns fs b (each_rests x law now.frames now.seats keeps.ready keeps.sound keeps.fitted keeps.records)

    pub bound_done : (scripted : ℕ → List Q) → EachOf (DoneIf x more scripted fs) ps ds ns
    bound_done scripted = of_session (λ fs. DoneIf x more scripted fs) processor ps ds ns fs b
        (each_done x law more scripted now.frames now.seats (each_rests x law now.frames now.seats keeps.ready keeps.sound keeps.fitted keeps.records) (each_ended_if x law more now.frames now.seats keeps.records promised handed))
