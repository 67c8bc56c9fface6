-- A turn of a session, seat by seat: what each keeps all keep.
use Rattle.std.proofs.Common.{◌≡◌, ℕ, zero, suc, ◌==◌, Bool, false, List, [], ◌∷◌, ◌++◌, ap, sym, ◌∙◌, subst, append_assoc}
use Rattle.std.specs.Prelude.{⊤}
use Rattle.segment_model.specs.of_exchange_model.Exchange.{Exchange}
use Rattle.segment_model.specs.Slaves.{Registers, Processor, Datagram, Ring, slave_after, frame_after, all_back}
use Rattle.segment_model.specs.Seats.{Seat, Planned, ring_of, sides_of, seat_next, seats_next, seat_back, seats_back, side_lost, seats_lost, seat_steps, seat_steps_at, seats_step}
use Rattle.segment_model.specs.Record.{back_news}
use Rattle.segment_model.specs.Laws.{EachSeat}
use Rattle.state_model.specs.Promises.{statuses}
use Rattle.state_model.specs.Accounts.{Account, Pick, mails_choice, account_next, account_back, duty_access}
use Rattle.state_model.specs.Tasks.{mails_choices, accounts_next, accounts_back, AreServed, Nobody, Apart}
use Rattle.state_model.proofs.Rings.{Reaches, NoneAnswers, SamePlace, reaches, reaches_later, reaches_behind, place_after}
use Rattle.state_model.proofs.Served.{Served, serves_on, later_duty}

-- a fact of each slave of a plan, with its seat and its account
abbrev pub EachOne : {V M Q R : Type 0} → (Planned V → Seat V M Q R → Account Q R → Type 0) → List (Planned V) → List (Seat V M Q R) → List (Account Q R) → Type 0
EachOne P [] [] [] = ⊤
EachOne P (p ∷ ps) (s ∷ ss) (a ∷ more) = P p s a × EachOne P ps ss more
EachOne P ps ss more = ⊥

-- the seat has the station of the plan, and its slave the station address and the sync managers of the end of bring-up
pub record IsPlaced {V M Q R : Type 0} (p : Planned V) (s : Seat V M Q R) (a : Account Q R) : Type 0 where
  pub station : s.station ≡ p.station
  pub place : SamePlace p.registers s.slave.registers

-- no slave behind it answers to its station, nor does it answer to one of theirs
abbrev pub LeavesPlanned : {V : Type 0} → Planned V → List (Planned V) → Type 0
LeavesPlanned p [] = ⊤
LeavesPlanned p (q ∷ qs) = ((p.registers.station == q.station) ≡ false) × LeavesPlanned p qs

abbrev pub AllApart : {V : Type 0} → List (Planned V) → Type 0
AllApart [] = ⊤
AllApart (p ∷ ps) = Nobody p.station ps × LeavesPlanned p ps × AllApart ps

abbrev pub LeavesSeats : {V M Q R : Type 0} → Registers → List (Seat V M Q R) → Type 0
LeavesSeats r [] = ⊤
LeavesSeats r (s ∷ ss) = ((r.station == s.station) ≡ false) × LeavesSeats r ss

abbrev pub SeatsApart : {V M Q R : Type 0} → List (Seat V M Q R) → Type 0
SeatsApart [] = ⊤
SeatsApart (s ∷ ss) = NoneAnswers s.station (ring_of ss) × LeavesSeats s.slave.registers ss × SeatsApart ss

nobody_at : {V : Type 0} (station : ℕ) (before : List (Planned V)) (p : Planned V) (behind : List (Planned V)) → Nobody station (before ++ p ∷ behind) → (p.registers.station == station) ≡ false
nobody_at station [] p behind none = none.0
nobody_at station (q ∷ before) p behind none = nobody_at station before p behind none.1

leaves_planned : {V : Type 0} (before : List (Planned V)) (p : Planned V) (behind ps : List (Planned V)) → Apart (before ++ p ∷ behind) ps → LeavesPlanned p ps
leaves_planned before p behind [] apart = tt
leaves_planned before p behind (q ∷ ps) apart = (
  nobody_at q.station before p behind apart.0.0,
  leaves_planned before p (behind ++ q ∷ []) ps (subst (λ l. Apart l ps) (append_assoc before (p ∷ behind) (q ∷ [])) apart.1),
)

pub all_apart : {V : Type 0} (before ps : List (Planned V)) → Apart before ps → AllApart ps
all_apart before [] apart = tt
all_apart before (p ∷ ps) apart = (apart.0.1, leaves_planned before p [] ps apart.1, all_apart (before ++ p ∷ []) ps apart.1)

-- a fact of each gives another
pub each_map : {V M Q R : Type 0} (P O : Planned V → Seat V M Q R → Account Q R → Type 0) → ((p : Planned V) (s : Seat V M Q R) (a : Account Q R) → P p s a → O p s a) →
    (ps : List (Planned V)) (ss : List (Seat V M Q R)) (more : List (Account Q R)) → EachOne P ps ss more → EachOne O ps ss more
each_map P O f [] [] [] h = tt
each_map P O f [] [] (a ∷ more) h = absurd h
each_map P O f [] (s ∷ ss) more h = absurd h
each_map P O f (p ∷ ps) [] more h = absurd h
each_map P O f (p ∷ ps) (s ∷ ss) [] h = absurd h
each_map P O f (p ∷ ps) (s ∷ ss) (a ∷ more) h = (f p s a h.0, each_map P O f ps ss more h.1)

module _ {V M Q R : Type 0} where
  none_answers : (station other : ℕ) (ps : List (Planned V)) (ss : List (Seat V M Q R)) (more : List (Account Q R)) → station ≡ other → Nobody other ps → EachOne IsPlaced ps ss more → NoneAnswers station (ring_of ss)
  none_answers station other [] [] [] e none placed = tt
  none_answers station other [] [] (a ∷ more) e none placed = absurd placed
  none_answers station other [] (s ∷ ss) more e none placed = absurd placed
  none_answers station other (p ∷ ps) [] more e none placed = absurd placed
  none_answers station other (p ∷ ps) (s ∷ ss) [] e none placed = absurd placed
  none_answers station other (p ∷ ps) (s ∷ ss) (a ∷ more) e none placed = (
    ap (λ n. n == station) placed.0.place.station ∙ ap (λ n. p.registers.station == n) e ∙ none.0,
    none_answers station other ps ss more e none.1 placed.1,
  )

  leaves_seats : (r : Registers) (q : Planned V) (ps : List (Planned V)) (ss : List (Seat V M Q R)) (more : List (Account Q R)) → r.station ≡ q.registers.station → LeavesPlanned q ps → EachOne IsPlaced ps ss more → LeavesSeats r ss
  leaves_seats r q [] [] [] e leaves placed = tt
  leaves_seats r q [] [] (a ∷ more) e leaves placed = absurd placed
  leaves_seats r q [] (s ∷ ss) more e leaves placed = absurd placed
  leaves_seats r q (p ∷ ps) [] more e leaves placed = absurd placed
  leaves_seats r q (p ∷ ps) (s ∷ ss) [] e leaves placed = absurd placed
  leaves_seats r q (p ∷ ps) (s ∷ ss) (a ∷ more) e leaves placed = (
    ap (λ n. n == s.station) e ∙ ap (λ n. q.registers.station == n) placed.0.station ∙ leaves.0,
    leaves_seats r q ps ss more e leaves.1 placed.1,
  )

  pub seats_apart : (ps : List (Planned V)) (ss : List (Seat V M Q R)) (more : List (Account Q R)) → AllApart ps → EachOne IsPlaced ps ss more → SeatsApart ss
  seats_apart [] [] [] apart placed = tt
  seats_apart [] [] (a ∷ more) apart placed = absurd placed
  seats_apart [] (s ∷ ss) more apart placed = absurd placed
  seats_apart (p ∷ ps) [] more apart placed = absurd placed
  seats_apart (p ∷ ps) (s ∷ ss) [] apart placed = absurd placed
  seats_apart (p ∷ ps) (s ∷ ss) (a ∷ more) apart placed = (
    none_answers s.station p.station ps ss more placed.0.station apart.0 placed.1,
    leaves_seats s.slave.registers p ps ss more placed.0.place.station apart.1 placed.1,
    seats_apart ps ss more apart.2 placed.1,
  )

  -- the frame on its way reaches each of these seats
  abbrev pub AllReach : List (Seat V M Q R) → List (Account Q R) → List (Datagram M) → Type 0
  AllReach [] more ds = ⊤
  AllReach (s ∷ ss) [] ds = ⊤
  AllReach (s ∷ ss) (a ∷ more) ds = Reaches s.station (duty_access a.hand) ds × AllReach ss more ds

  pub all_reach : (ss : List (Seat V M Q R)) (more : List (Account Q R)) (sent : List (Datagram M)) → AreServed (sides_of ss) more sent → AllReach ss more sent
  all_reach [] more sent served = tt
  all_reach (s ∷ ss) [] sent served = tt
  all_reach (s ∷ ss) (a ∷ more) sent served = (reaches s.station (duty_access a.hand) sent (later_duty a.hand) served.0, all_reach ss more sent served.1)

  -- and those behind this one too
  reach_behind : (t : Seat V M Q R) (ss : List (Seat V M Q R)) (more : List (Account Q R)) (ds : List (Datagram M)) → LeavesSeats t.slave.registers ss → AllReach ss more ds → AllReach ss more (frame_after t.station t.slave ds)
  reach_behind t [] more ds leaves reach = tt
  reach_behind t (s ∷ ss) [] ds leaves reach = tt
  reach_behind t (s ∷ ss) (a ∷ more) ds leaves reach = (reaches_behind s.station t.station t.slave (duty_access a.hand) ds leaves.0 reach.0, reach_behind t ss more ds leaves.1 reach.1)

  -- WHAT A FRAME DOES AT A SEAT, that it reaches as `ds`, where all came back as `back`
  pub record SeatMet (frame : ℕ) (p : Planned V) (s : Seat V M Q R) (a : Account Q R) (ds back : List (Datagram M)) : Type 0 where
    pub place : SamePlace s.slave.registers (slave_after s.station s.slave ds).registers
    pub served : p.registers.station ≡ p.station → (last : ℕ) →
        Served s.slave.registers (slave_after s.station s.slave ds).registers s.slave.node.out.box frame a (account_back s.station frame a back) (statuses (back_news s.station last back))

  seat_met : (frame : ℕ) (p : Planned V) (s : Seat V M Q R) (a : Account Q R) (behind : Ring V M) (ds : List (Datagram M)) → IsPlaced p s a → NoneAnswers s.station behind → Reaches s.station (duty_access a.hand) ds →
      SeatMet frame p s a ds (all_back behind (frame_after s.station s.slave ds))
  seat_met frame p s a behind ds placed none reach = record {
    place = place_after s.station s.slave ds (reaches_later s.station (duty_access a.hand) ds reach);
    served = λ answers last. serves_on s.station frame last s.slave a behind ds (placed.place.station ∙ answers ∙ sym placed.station) none reach;
  }

module _ {V A M Q R : Type 0} (x : Exchange V A M Q R) (frame : ℕ) (Before Behind : Planned V → Seat V M Q R → Account Q R → Type 0) (Now : Seat V M Q R → Type 0) where
  -- A FRAME THAT CAME BACK: each seat keeps a fact by what the frame does there, and by what is known of the seat behind it
  pub each_back : (back : List (Datagram M)) →
      ((p : Planned V) (s : Seat V M Q R) (a : Account Q R) (ds : List (Datagram M)) → IsPlaced p s a → SeatMet frame p s a ds back → Now (seat_back x frame s ds back) → Before p s a →
      Behind p (seat_back x frame s ds back) (account_back s.station frame a back)) →
      (ps : List (Planned V)) (ss : List (Seat V M Q R)) (more : List (Account Q R)) (ds : List (Datagram M)) → all_back (ring_of ss) ds ≡ back → SeatsApart ss → EachOne IsPlaced ps ss more → AllReach ss more ds →
      EachSeat Now (seats_back x frame ss ds back) → EachOne Before ps ss more → EachOne Behind ps (seats_back x frame ss ds back) (accounts_back frame (sides_of ss) more back)
  each_back back one [] [] [] ds e apart placed reach now h = tt
  each_back back one [] [] (a ∷ more) ds e apart placed reach now h = absurd h
  each_back back one [] (s ∷ ss) more ds e apart placed reach now h = absurd h
  each_back back one (p ∷ ps) [] more ds e apart placed reach now h = absurd h
  each_back back one (p ∷ ps) (s ∷ ss) [] ds e apart placed reach now h = absurd h
  each_back back one (p ∷ ps) (s ∷ ss) (a ∷ more) ds e apart placed reach now h = (
    one p s a ds placed.0 (subst (SeatMet frame p s a ds) e (seat_met frame p s a (ring_of ss) ds placed.0 apart.0 reach.0)) now.0 h.0,
    each_back back one ps ss more (frame_after s.station s.slave ds) e apart.2 placed.1 (reach_behind s ss more ds apart.1 reach.1) now.1 h.1,
  )

  -- A LOST FRAME: it was met by the first slaves, as `frame_after` shows it, and missed by the others
  pub each_lost : (sent : List (Datagram M)) →
      ((p : Planned V) (s : Seat V M Q R) (a : Account Q R) (ds : List (Datagram M)) → (let t = record s { side = side_lost s.station sent s.side; slave = slave_after s.station s.slave ds } in
      IsPlaced p s a → SeatMet frame p s a ds (frame_after s.station s.slave ds) → Now t → Before p s a → Behind p t a)) →
      ((p : Planned V) (s : Seat V M Q R) (a : Account Q R) → (let t = record s { side = side_lost s.station sent s.side } in IsPlaced p s a → Now t → Before p s a → Behind p t a)) →
      (after : ℕ) (ps : List (Planned V)) (ss : List (Seat V M Q R)) (more : List (Account Q R)) (ds : List (Datagram M)) → SeatsApart ss → EachOne IsPlaced ps ss more → AllReach ss more ds →
      EachSeat Now (seats_lost after ss ds sent) → EachOne Before ps ss more → EachOne Behind ps (seats_lost after ss ds sent) more
  each_lost sent met missed after [] [] [] ds apart placed reach now h = tt
  each_lost sent met missed after [] [] (a ∷ more) ds apart placed reach now h = absurd h
  each_lost sent met missed after [] (s ∷ ss) more ds apart placed reach now h = absurd h
  each_lost sent met missed after (p ∷ ps) [] more ds apart placed reach now h = absurd h
  each_lost sent met missed after (p ∷ ps) (s ∷ ss) [] ds apart placed reach now h = absurd h
  each_lost sent met missed zero (p ∷ ps) (s ∷ ss) (a ∷ more) ds apart placed reach now h =
      (missed p s a placed.0 now.0 h.0, each_lost sent met missed zero ps ss more ds apart.2 placed.1 reach.1 now.1 h.1)
  each_lost sent met missed (suc k) (p ∷ ps) (s ∷ ss) (a ∷ more) ds apart placed reach now h = (
    met p s a ds placed.0 (seat_met frame p s a [] ds placed.0 tt reach.0) now.0 h.0,
    each_lost sent met missed k ps ss more (frame_after s.station s.slave ds) apart.2 placed.1 (reach_behind s ss more ds apart.1 reach.1) now.1 h.1,
  )

module _ {V A M Q R : Type 0} (x : Exchange V A M Q R) (Of : Planned V → Seat V M Q R → Account Q R → Type 0) where
  -- CHOICES
  pub each_next : (acknowledged : Q → Bool) (frame : ℕ) →
      ((p : Planned V) (s : Seat V M Q R) (a : Account Q R) (pick : Pick Q) → Of p s a → Of p (seat_next x frame s (mails_choice a pick)) (account_next x.speech acknowledged frame s.side a pick)) →
      (ps : List (Planned V)) (ss : List (Seat V M Q R)) (more : List (Account Q R)) (picks : List (Pick Q)) → EachOne Of ps ss more →
      EachOne Of ps (seats_next x frame ss (mails_choices more picks)) (accounts_next x.speech acknowledged frame (sides_of ss) more picks)
  each_next acknowledged frame one [] [] [] picks h = tt
  each_next acknowledged frame one [] [] (a ∷ more) picks h = absurd h
  each_next acknowledged frame one [] (s ∷ ss) more picks h = absurd h
  each_next acknowledged frame one (p ∷ ps) [] more picks h = absurd h
  each_next acknowledged frame one (p ∷ ps) (s ∷ ss) [] picks h = absurd h
  each_next acknowledged frame one (p ∷ ps) (s ∷ ss) (a ∷ more) [] h = h
  each_next acknowledged frame one (p ∷ ps) (s ∷ ss) (a ∷ more) (pick ∷ picks) h = (one p s a pick h.0, each_next acknowledged frame one ps ss more picks h.1)

  -- STEPS OF PROCESSORS
  each_step : (processor : Processor V) → ((p : Planned V) (s : Seat V M Q R) (a : Account Q R) → Of p s a → Of p (seat_steps x processor s) a) →
      (k : ℕ) (ps : List (Planned V)) (ss : List (Seat V M Q R)) (more : List (Account Q R)) → EachOne Of ps ss more → EachOne Of ps (seat_steps_at x processor k ss) more
  each_step processor one k [] [] [] h = tt
  each_step processor one k [] [] (a ∷ more) h = absurd h
  each_step processor one k [] (s ∷ ss) more h = absurd h
  each_step processor one k (p ∷ ps) [] more h = absurd h
  each_step processor one k (p ∷ ps) (s ∷ ss) [] h = absurd h
  each_step processor one zero (p ∷ ps) (s ∷ ss) (a ∷ more) h = (one p s a h.0, h.1)
  each_step processor one (suc k) (p ∷ ps) (s ∷ ss) (a ∷ more) h = (h.0, each_step processor one k ps ss more h.1)

  pub each_steps : (processor : Processor V) → ((p : Planned V) (s : Seat V M Q R) (a : Account Q R) → Of p s a → Of p (seat_steps x processor s) a) →
      (ks : List ℕ) (ps : List (Planned V)) (ss : List (Seat V M Q R)) (more : List (Account Q R)) → EachOne Of ps ss more → EachOne Of ps (seats_step x processor ss ks) more
  each_steps processor one [] ps ss more h = h
  each_steps processor one (k ∷ ks) ps ss more h = each_steps processor one ks ps (seat_steps_at x processor k ss) more (each_step processor one k ps ss more h)
