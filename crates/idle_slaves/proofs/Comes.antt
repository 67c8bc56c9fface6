-- A session of slaves: of each that answers the state service in hand and the registers are come to by events.
use Rattle.std.proofs.Common.{◌≡◌, ℕ, Bool, true, false, Option, Some, None, List, [], ◌∷◌, ◌++◌, length, refl, sym, ap, subst, if◌then◌else◌}
use Rattle.std.specs.Prelude.{⊤, ◌&&◌}
use Rattle.plan_ring.specs.of_exchange_model.Exchange.{Exchange}
use Rattle.idle_slaves.specs.Going.{IsCome}
use Rattle.idle_slaves.specs.Phases.{idle_states}
use Rattle.plan_ring.specs.of_life_model.Eras.{EraIs, era_frames, planned}
use Rattle.plan_ring.specs.of_life_model.Lives.{Spot, Era}
use Rattle.plan_ring.specs.of_link_model.Mails.{LinkMail}
use Rattle.plan_ring.specs.of_link_model.Segment.{RingFate}
use Rattle.plan_ring.specs.of_segment_model.Laws.{EachSeat}
use Rattle.plan_ring.specs.of_segment_model.Record.{Frame, News}
use Rattle.plan_ring.specs.of_segment_model.Seats.{Side, Seat, Planned, IsFrame, ring_of, sides_of, seat_next, seats_next, seat_back, seats_after, seats_back, seats_lost, side_lost, seat_steps, new_seats}
use Rattle.plan_ring.specs.of_segment_model.Slaves.{Processor, Datagram, Registers, Ring, Slave, slave_after, frame_after, ring_back}
use Rattle.plan_ring.specs.of_state_model.Stated.{Stated, Service}
use Rattle.plan_ring.specs.of_state_model.States as States
use Rattle.plan_ring.specs.of_state_model.States.{Table, Phase}
use Rattle.plan_ring.proofs.of_state_model.Carries.{carry_place}
use Rattle.plan_ring.proofs.of_state_model.Rings.{SamePlace, same_place, place_on}
use Rattle.plan_ring.proofs.of_state_model.Served.{Served}
use Rattle.plan_ring.proofs.of_state_model.Walks.{EachOne, IsPlaced, AllApart, SeatMet, seats_apart, all_apart, all_reach, each_map, each_next, each_back, each_lost, each_steps}
use Rattle.plan_ring.specs.of_state_model.Accounts.{Account, Duty, Stage, Pick, mails_choice, account_begins, account_next, account_back, is_free, is_acknowledged, state_begins}
use Rattle.plan_ring.specs.of_state_model.Tasks.{Answers, IsBrought, CarriesWords, AllBrought, TaskTurn, TaskSession, AreServed, MayRun, IsTasked, IsTaskPlan, mails_choices, accounts_next, accounts_after, happens, run, new_accounts, new_tasks}
use Rattle.idle_slaves.proofs.Events.{ComesTo, FitsStage, Fits, new_come, same_come, step_come, begun_come, wrote_come, lost_come, looked_come}

-- a service in hand before a frame: it was, or came into hand and drains
next_come : {M Q R : Type 0} (table : Table) (first r : Registers) {V A : Type 0} (x : Exchange V A M Q R) (acknowledged : Q → Bool) (frame : ℕ) (d : Side M Q R) (a : Account Q R) (pick : Pick Q) →
    ComesTo M R table first r a.hand → ComesTo M R table first r (account_next x.speech acknowledged frame d a pick).hand
next_come {M} {Q} {R} table first r x acknowledged frame d a pick c = go a.hand pick.begin refl
  where
    state : (target : ℕ) (b : Bool) → a.hand ≡ None → ComesTo M R table first r (if b then state_begins a target frame else a).hand
    state target false e = c
    state target true e = let k : ComesTo M R table first r None = subst (λ h. ComesTo M R table first r h) e c in record { events = k.events; fits = k.fits; registers = k.registers }

    mails : (b : Bool) (q : Q) → ComesTo M R table first r (if b then record a { started = a.started ++ record { service = Service.Mails q; frame = frame } ∷ [] } else a).hand
    mails false q = c
    mails true q = c

    go : (hand : Option Duty) (wish : Option (Service Q)) → a.hand ≡ hand → ComesTo M R table first r (account_begins x.speech acknowledged frame d a hand wish).hand
    go None None e = c
    go (Some duty) None e = c
    go (Some duty) (Some wish) e = c
    go None (Some (Service.Mails q)) e = mails (x.speech.valid q && is_free x.speech d d.now) q
    go None (Some (Service.State target)) e = state target (is_free x.speech d d.now && is_acknowledged x.speech acknowledged d d.now) e

-- by a frame that came back
back_come : {M Q R : Type 0} (table : Table) (first r n : Registers) (box : Option (LinkMail M)) (frame : ℕ) (a b : Account Q R) (ss : List (News M)) → Served r n box frame a b ss → ComesTo M R table first r a.hand → ComesTo M R table first n b.hand
back_come {M} {Q} {R} table first r n box frame a b ss (Served.stays i j z) c = same_come table first r n a.hand b.hand i (ap (λ (h : Account Q R). h.hand) j) c
back_come {M} {Q} {R} table first r n box frame a b ss (Served.drained target begun was empty i j z) c =
    same_come table first r n _ b.hand i (ap (λ (h : Account Q R). h.hand) j) (begun_come table first r target begun (subst (λ (h : Account Q R). ComesTo M R table first r h.hand) was c))
back_come {M} {Q} {R} table first r n box frame a b ss (Served.wrote target begun phase was doesnt i j z) c =
    same_come table first _ n _ b.hand i (ap (λ (h : Account Q R). h.hand) j) (wrote_come table first r target begun phase (subst (λ (h : Account Q R). ComesTo M R table first r h.hand) was c))
back_come {M} {Q} {R} table first r n box frame a b ss (Served.looked target begun phase was does i j z) c =
    same_come table first r n _ b.hand i (ap (λ (h : Account Q R). h.hand) j) (looked_come table first frame a begun r target phase does (subst (λ (h : Account Q R). ComesTo M R table first r h.hand) was c))

-- by a lost one that the slave met
met_come : {M Q R : Type 0} (table : Table) (first r n : Registers) (box : Option (LinkMail M)) (frame : ℕ) (a b : Account Q R) (ss : List (News M)) → Served r n box frame a b ss → ComesTo M R table first r a.hand → ComesTo M R table first n a.hand
met_come table first r n box frame a b ss (Served.stays i j z) c = same_come table first r n a.hand a.hand i refl c
met_come table first r n box frame a b ss (Served.drained target begun was empty i j z) c = same_come table first r n a.hand a.hand i refl c
met_come table first r n box frame a b ss (Served.looked target begun phase was does i j z) c = same_come table first r n a.hand a.hand i refl c
met_come {M} {Q} {R} table first r n box frame a b ss (Served.wrote target begun phase was doesnt i j z) c =
    same_come table first _ n _ a.hand i (ap (λ (h : Account Q R). h.hand) was) (lost_come table first r target begun phase (subst (λ (h : Account Q R). ComesTo M R table first r h.hand) was c))

no_facts : {V M Q R : Type 0} (ss : List (Seat V M Q R)) → EachSeat (λ s. ⊤) ss
no_facts [] = tt
no_facts (s ∷ ss) = (tt, no_facts ss)

module _ {V A M Q R : Type 0} (x : Exchange V A M Q R) (s : Stated V A Q) (processor : Processor V) (table : ℕ → Table) where
  -- THE INVARIANT of one slave
  record Here (p : Planned V) (seat : Seat V M Q R) (a : Account Q R) : Type 0 where
    carries : CarriesWords processor (table p.station) p
    placed : IsPlaced p seat a
    comes : Answers p → ComesTo M R (table p.station) p.registers seat.slave.registers a.hand

  next_here : (frame : ℕ) (p : Planned V) (seat : Seat V M Q R) (a : Account Q R) (pick : Pick Q) → Here p seat a → Here p (seat_next x frame seat (mails_choice a pick)) (account_next x.speech s.acknowledged frame seat.side a pick)
  next_here frame p seat a pick k = record {
    carries = k.carries;
    placed = record { station = k.placed.station; place = k.placed.place };
    comes = λ answers. next_come (table p.station) p.registers seat.slave.registers x s.acknowledged frame seat.side a pick (k.comes answers);
  }

  back_here : (frame : ℕ) (back : List (Datagram M)) (p : Planned V) (seat : Seat V M Q R) (a : Account Q R) (ds : List (Datagram M)) → IsPlaced p seat a → SeatMet frame p seat a ds back → ⊤ → Here p seat a →
      Here p (seat_back x frame seat ds back) (account_back seat.station frame a back)
  back_here frame back p seat a ds placed met now k = record {
    carries = k.carries;
    placed = record { station = placed.station; place = place_on p.registers seat.slave.registers (slave_after seat.station seat.slave ds).registers placed.place met.place };
    comes = λ answers. back_come (table p.station) p.registers seat.slave.registers (slave_after seat.station seat.slave ds).registers seat.slave.node.out.box frame a (account_back seat.station frame a back) _ (met.served answers 0) (k.comes answers);
  }

  lost_here : (frame : ℕ) (sent : List (Datagram M)) (p : Planned V) (seat : Seat V M Q R) (a : Account Q R) (ds : List (Datagram M)) → IsPlaced p seat a → SeatMet frame p seat a ds (frame_after seat.station seat.slave ds) → ⊤ → Here p seat a →
      Here p (record seat { side = side_lost seat.station sent seat.side; slave = slave_after seat.station seat.slave ds }) a
  lost_here frame sent p seat a ds placed met now k = record {
    carries = k.carries;
    placed = record { station = placed.station; place = place_on p.registers seat.slave.registers (slave_after seat.station seat.slave ds).registers placed.place met.place };
    comes = λ answers. met_come (table p.station) p.registers seat.slave.registers (slave_after seat.station seat.slave ds).registers seat.slave.node.out.box frame a _ _ (met.served answers 0) (k.comes answers);
  }

  missed_here : (sent : List (Datagram M)) (p : Planned V) (seat : Seat V M Q R) (a : Account Q R) → IsPlaced p seat a → ⊤ → Here p seat a → Here p (record seat { side = side_lost seat.station sent seat.side }) a
  missed_here sent p seat a placed now k = record { carries = k.carries; placed = record { station = placed.station; place = placed.place }; comes = k.comes }

  step_here : (p : Planned V) (seat : Seat V M Q R) (a : Account Q R) → Here p seat a → Here p (seat_steps x processor seat) a
  step_here p seat a k =
      let r = seat.slave.registers in
      let same : processor.carry r ≡ States.carry (table p.station) r = k.carries r k.placed.place.station k.placed.place.first k.placed.place.second in
      record {
        carries = k.carries;
        placed = record { station = k.placed.station; place = place_on p.registers r (processor.carry r) k.placed.place (subst (SamePlace r) (sym same) (carry_place (table p.station) r)) };
        comes = λ answers. subst (λ n. ComesTo M R (table p.station) p.registers n a.hand) (sym same) (step_come (table p.station) p.registers r a.hand (k.comes answers));
      }

  -- THE SESSION
  abbrev Keeps : List (Planned V) → TaskSession V M Q R → Type 0
  Keeps ps w = EachOne Here ps w.session.seats w.accounts

  placed_of : (ps : List (Planned V)) (ss : List (Seat V M Q R)) (accounts : List (Account Q R)) → EachOne Here ps ss accounts → EachOne IsPlaced ps ss accounts
  placed_of ps ss accounts h = each_map Here IsPlaced (λ p seat a k. k.placed) ps ss accounts h

  frame_here : (frame : ℕ) (ps : List (Planned V)) (ss : List (Seat V M Q R)) (accounts : List (Account Q R)) (sent : List (Datagram M)) (fate : RingFate) → AllApart ps → AreServed (sides_of ss) accounts sent → EachOne Here ps ss accounts →
      EachOne Here ps (seats_after x frame ss sent fate) (accounts_after frame (sides_of ss) accounts fate (ring_back (ring_of ss) sent fate))
  frame_here frame ps ss accounts sent RingFate.Back apart served h =
      let placed = placed_of ps ss accounts h in
      let back = ring_back (ring_of ss) sent RingFate.Back in
      each_back x frame Here Here (λ t. ⊤) back (back_here frame back) ps ss accounts sent refl (seats_apart ps ss accounts apart placed) placed (all_reach ss accounts sent served) (no_facts (seats_back x frame ss sent back)) h
  frame_here frame ps ss accounts sent (RingFate.Lost after) apart served h =
      let placed = placed_of ps ss accounts h in
      each_lost x frame Here Here (λ t. ⊤) sent (lost_here frame sent) (missed_here sent) after ps ss accounts sent (seats_apart ps ss accounts apart placed) placed (all_reach ss accounts sent served) (no_facts (seats_lost after ss sent sent)) h

  turn_here : (ps : List (Planned V)) (w : TaskSession V M Q R) (t : TaskTurn M Q) → AllApart ps →
      (let n = length w.session.frames in
      let asked = seats_next x n w.session.seats (mails_choices w.accounts t.picks) in
      IsFrame asked t.move.sent × AreServed (sides_of asked) (accounts_next x.speech s.acknowledged n (sides_of w.session.seats) w.accounts t.picks) t.move.sent) →
      Keeps ps w → Keeps ps (happens x s.acknowledged processor w t)
  turn_here ps w t apart may h =
      let n = length w.session.frames in
      let asked = seats_next x n w.session.seats (mails_choices w.accounts t.picks) in
      let counted = accounts_next x.speech s.acknowledged n (sides_of w.session.seats) w.accounts t.picks in
      let next = each_next x Here s.acknowledged n (next_here n) ps w.session.seats w.accounts t.picks h in
      each_steps x Here processor step_here t.move.steps ps (seats_after x n asked t.move.sent t.move.fate) (accounts_after n (sides_of asked) counted t.move.fate (ring_back (ring_of asked) t.move.sent t.move.fate))
      (frame_here n ps asked counted t.move.sent t.move.fate apart may.1 next)

  run_here : (ps : List (Planned V)) (w : TaskSession V M Q R) (ts : List (TaskTurn M Q)) → AllApart ps → MayRun x s.acknowledged processor w ts → Keeps ps w → Keeps ps (run x s.acknowledged processor w ts)
  run_here ps w [] apart may h = h
  run_here ps w (t ∷ ts) apart may h = run_here ps (happens x s.acknowledged processor w t) ts apart may.1 (turn_here ps w t apart may.0 h)

  new_here : (opening : List (Frame M)) (ps : List (Planned V)) → AllBrought x s processor table ps → EachOne Here ps (new_seats ps) (new_accounts ps)
  new_here opening [] brought = tt
  new_here opening (p ∷ ps) brought = (
    record { carries = brought.0.0; placed = record { station = refl; place = same_place p.registers }; comes = λ answers. new_come (table p.station) p.registers },
    new_here opening ps brought.1,
  )

  -- of each slave of a plan
  abbrev IsComeTo : Planned V → Account Q R → Slave V M → Type 0
  IsComeTo p a n = Answers p → IsBrought x s table p × ComesTo M R (table p.station) p.registers n.registers a.hand

  abbrev EachCome : List (Planned V) → List (Account Q R) → Ring V M → Type 0
  EachCome [] [] [] = ⊤
  EachCome (p ∷ ps) (a ∷ accounts) (n ∷ ns) = IsComeTo p a n.1 × EachCome ps accounts ns
  EachCome _ _ _ = ⊥

  each_come : (ps : List (Planned V)) (ss : List (Seat V M Q R)) (accounts : List (Account Q R)) → AllBrought x s processor table ps → EachOne Here ps ss accounts → EachCome ps accounts (ring_of ss)
  each_come [] [] [] brought h = tt
  each_come [] [] (a ∷ accounts) brought h = absurd h
  each_come [] (t ∷ ss) accounts brought h = absurd h
  each_come (p ∷ ps) [] accounts brought h = absurd h
  each_come (p ∷ ps) (t ∷ ss) [] brought h = absurd h
  each_come (p ∷ ps) (t ∷ ss) (a ∷ accounts) brought h = ((λ answers. (brought.0.1 answers, h.0.comes answers)), each_come ps ss accounts brought.1 h.1)

  tasks_come : (ps : List (Planned V)) → IsTaskPlan x s processor table ps → (ds : List (ℕ × Side M Q R)) (accounts : List (Account Q R)) (ns : Ring V M) (fs : List (Frame M)) → IsTasked x s.acknowledged processor ps ds accounts ns fs → EachCome ps accounts ns
  tasks_come ps plan ds accounts ns fs b =
      let w = run x s.acknowledged processor (new_tasks {R = R} b.opening ps) b.turns in
      let all = each_come ps w.session.seats w.accounts plan.brought (run_here ps (new_tasks b.opening ps) b.turns (all_apart [] ps plan.apart) b.may (new_here b.opening ps plan.brought)) in
      subst (λ l. EachCome ps accounts l) b.ring (subst (λ l. EachCome ps l (ring_of w.session.seats)) b.counted all)

  -- OF AN OPEN EPOCH
  module _ (spot : Spot) (e : Era M Q R) (opened end : ℕ) (fs : List (Frame M)) (v : V) (r : Registers) (slave : Slave V M) (is : EraIs x s processor table spot e opened end fs v r slave) where
    at : IsBrought x s table (planned spot v r) × ComesTo M R (table spot.station) r slave.registers e.account.hand
    at = (tasks_come (planned spot v r ∷ []) is.plan ((spot.station, e.side) ∷ []) (e.account ∷ []) ((spot.station, slave) ∷ []) (era_frames spot opened end fs) is.tasked).0 is.answers

    pub era_comes : (duty : Duty) (phase : Phase) → e.account.hand ≡ Some duty → duty.stage ≡ Stage.Goes phase → IsCome M R (table spot.station) duty.target phase slave.registers
    era_comes duty phase hand stage =
        let c = at.1 in
        let fits : FitsStage duty.target (Stage.Goes phase) (States.run (table spot.station) (idle_states {M = M} {R = R} r) c.events).hand =
        subst (λ z. FitsStage duty.target z (States.run (table spot.station) (idle_states {M = M} {R = R} r) c.events).hand) stage
        (subst (λ h. Fits h (States.run (table spot.station) (idle_states {M = M} {R = R} r) c.events).hand) hand c.fits) in
        record {
          start = r.state;
          sits = at.0.sits;
          first = r;
          rests = record { state = refl; refused = at.0.refused; word = at.0.control };
          events = c.events;
          hand = fits.0;
          is = fits.1;
          target_is = fits.2;
          phase_is = fits.3;
          registers = c.registers;
        }
