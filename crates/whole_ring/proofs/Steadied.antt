-- TURN BY TURN, by registers, accounts and frames alone.
use Rattle.std.proofs.Common.{◌≡◌, ℕ, List, [], ◌∷◌, ◌++◌, length, refl, ap, sym, ◌∙◌, subst}
use Rattle.std.specs.Prelude.{⊤}
use Rattle.slave_lives.specs.of_exchange_model.Exchange.{Exchange}
use Rattle.slave_lives.specs.of_life_model.Eras.{EraIs, planned}
use Rattle.slave_lives.specs.of_life_model.Lives.{Spot, Era}
use Rattle.slave_lives.specs.of_link_model.Segment.{RingFate}
use Rattle.slave_lives.specs.of_segment_model.Laws.{EachSeat}
use Rattle.slave_lives.specs.of_segment_model.Record.{Frame}
use Rattle.slave_lives.specs.of_segment_model.Seats.{Seat, Planned, IsFrame, ring_of, sides_of, seat_next, seats_next, seat_back, seats_after, side_lost, seat_steps, new_seats}
use Rattle.slave_lives.specs.of_segment_model.Slaves.{Registers, Processor, Slave, Datagram, Ring, slave_after, frame_after, ring_back}
use Rattle.slave_lives.specs.of_state_model.Stated.{Stated}
use Rattle.slave_lives.specs.of_state_model.States.{Table}
use Rattle.slave_lives.specs.of_state_model.Accounts.{Account, Pick, mails_choice, account_next, account_back}
use Rattle.slave_lives.specs.of_state_model.Steady.{AsksNoInit, IsSteady, NoneToInit, HandToInit}
use Rattle.slave_lives.specs.of_state_model.Tasks.{TaskTurn, TaskSession, AreServed, MayRun, mails_choices, accounts_next, accounts_after, happens, run, new_accounts, new_tasks}
use Rattle.slave_lives.proofs.of_state_model.Steadies.{steady}
use Rattle.slave_lives.proofs.of_state_model.Turns.{IsStately, next_is, back_is, lost_is, missed_is, step_is, new_is}
use Rattle.slave_lives.proofs.of_state_model.Walks.{EachOne, IsPlaced, AllApart, SeatMet, seats_apart, all_apart, all_reach, each_map, each_next, each_back, each_lost, each_steps}

module _ {V A M Q R : Type 0} (x : Exchange V A M Q R) (s : Stated V A Q) (processor : Processor V) (table : ℕ → Table) where
  -- WHAT IS KEPT of a slave: its registers go with its account, and it began with the server of its plan
  abbrev Kept : List (Frame M) → Planned V → Seat V M Q R → Account Q R → Type 0
  Kept fs p t a = IsStately x s processor table fs p t a × (t.start ≡ p.server)

  nothing : (ts : List (Seat V M Q R)) → EachSeat (λ t. ⊤) ts
  nothing [] = tt
  nothing (t ∷ ts) = (tt, nothing ts)

  placed_of : (fs : List (Frame M)) (ps : List (Planned V)) (ts : List (Seat V M Q R)) (more : List (Account Q R)) → EachOne (Kept fs) ps ts more → EachOne IsPlaced ps ts more
  placed_of fs ps ts more h = each_map (Kept fs) IsPlaced (λ p t a k. k.0.placed) ps ts more h

  -- a choice, a frame, a step
  next_kept : (fs : List (Frame M)) (p : Planned V) (t : Seat V M Q R) (a : Account Q R) (pick : Pick Q) → Kept fs p t a → Kept fs p (seat_next x (length fs) t (mails_choice a pick)) (account_next x.speech s.acknowledged (length fs) t.side a pick)
  next_kept fs p t a pick k = (next_is x s processor table s.acknowledged fs p t a pick k.0, k.1)

  back_kept : (fs : List (Frame M)) (f : Frame M) (p : Planned V) (t : Seat V M Q R) (a : Account Q R) (ds : List (Datagram M)) → IsPlaced p t a → SeatMet (length fs) p t a ds f.back → ⊤ → Kept fs p t a →
      Kept (fs ++ f ∷ []) p (seat_back x (length fs) t ds f.back) (account_back t.station (length fs) a f.back)
  back_kept fs f p t a ds placed met now k = (back_is x s processor table fs f p t a ds placed met now k.0, k.1)

  lost_kept : (fs : List (Frame M)) (f : Frame M) → f.back ≡ [] → (p : Planned V) (t : Seat V M Q R) (a : Account Q R) (ds : List (Datagram M)) → IsPlaced p t a → SeatMet (length fs) p t a ds (frame_after t.station t.slave ds) → ⊤ → Kept fs p t a →
      Kept (fs ++ f ∷ []) p (record t { side = side_lost t.station f.sent t.side; slave = slave_after t.station t.slave ds }) a
  lost_kept fs f e p t a ds placed met now k = (lost_is x s processor table fs f e p t a ds placed met now k.0, k.1)

  missed_kept : (fs : List (Frame M)) (f : Frame M) → f.back ≡ [] → (p : Planned V) (t : Seat V M Q R) (a : Account Q R) → IsPlaced p t a → ⊤ → Kept fs p t a → Kept (fs ++ f ∷ []) p (record t { side = side_lost t.station f.sent t.side }) a
  missed_kept fs f e p t a placed now k = (missed_is x s processor table fs f e p t a placed now k.0, k.1)

  step_kept : (fs : List (Frame M)) (p : Planned V) (t : Seat V M Q R) (a : Account Q R) → Kept fs p t a → Kept fs p (seat_steps x processor t) a
  step_kept fs p t a k = (step_is x s processor table fs p t a k.0, k.1)

  frame_kept : (fs : List (Frame M)) (ps : List (Planned V)) (ts : List (Seat V M Q R)) (more : List (Account Q R)) (sent : List (Datagram M)) (fate : RingFate) → AllApart ps → AreServed (sides_of ts) more sent → EachOne (Kept fs) ps ts more →
      EachOne (Kept (fs ++ record { sent = sent; fate = fate; back = ring_back (ring_of ts) sent fate } ∷ [])) ps (seats_after x (length fs) ts sent fate) (accounts_after (length fs) (sides_of ts) more fate (ring_back (ring_of ts) sent fate))
  frame_kept fs ps ts more sent RingFate.Back apart served h =
      let f : Frame M = record { sent = sent; fate = RingFate.Back; back = ring_back (ring_of ts) sent RingFate.Back } in
      let placed = placed_of fs ps ts more h in
      each_back x (length fs) (Kept fs) (Kept (fs ++ f ∷ [])) (λ t. ⊤) f.back (back_kept fs f) ps ts more sent refl (seats_apart ps ts more apart placed) placed (all_reach ts more sent served) (nothing _) h
  frame_kept fs ps ts more sent (RingFate.Lost after) apart served h =
      let f : Frame M = record { sent = sent; fate = RingFate.Lost after; back = [] } in
      let placed = placed_of fs ps ts more h in
      each_lost x (length fs) (Kept fs) (Kept (fs ++ f ∷ [])) (λ t. ⊤) sent (lost_kept fs f refl) (missed_kept fs f refl) after ps ts more sent (seats_apart ps ts more apart placed) placed (all_reach ts more sent served) (nothing _) h

  -- A TURN, and any turns
  abbrev AllKept : List (Planned V) → TaskSession V M Q R → Type 0
  AllKept ps w = EachOne (Kept w.session.frames) ps w.session.seats w.accounts

  turn_kept : (ps : List (Planned V)) (w : TaskSession V M Q R) (t : TaskTurn M Q) → AllApart ps →
      (let n = length w.session.frames in
      let asked = seats_next x n w.session.seats (mails_choices w.accounts t.picks) in
      IsFrame asked t.move.sent × AreServed (sides_of asked) (accounts_next x.speech s.acknowledged n (sides_of w.session.seats) w.accounts t.picks) t.move.sent) →
      AllKept ps w → AllKept ps (happens x s.acknowledged processor w t)
  turn_kept ps w t apart may h =
      let fs = w.session.frames in
      let asked = seats_next x (length fs) w.session.seats (mails_choices w.accounts t.picks) in
      let counted = accounts_next x.speech s.acknowledged (length fs) (sides_of w.session.seats) w.accounts t.picks in
      let f : Frame M = record { sent = t.move.sent; fate = t.move.fate; back = ring_back (ring_of asked) t.move.sent t.move.fate } in
      let next = each_next x (Kept fs) s.acknowledged (length fs) (next_kept fs) ps w.session.seats w.accounts t.picks h in
      each_steps x (Kept (fs ++ f ∷ [])) processor (step_kept (fs ++ f ∷ [])) t.move.steps ps (seats_after x (length fs) asked t.move.sent t.move.fate) (accounts_after (length fs) (sides_of asked) counted t.move.fate (ring_back (ring_of asked) t.move.sent t.move.fate))
      (frame_kept fs ps asked counted t.move.sent t.move.fate apart may.1 next)

  run_kept : (ps : List (Planned V)) (w : TaskSession V M Q R) (ts : List (TaskTurn M Q)) → AllApart ps → MayRun x s.acknowledged processor w ts → AllKept ps w → AllKept ps (run x s.acknowledged processor w ts)
  run_kept ps w [] apart may h = h
  run_kept ps w (t ∷ ts) apart may h = run_kept ps (happens x s.acknowledged processor w t) ts apart may.1 (turn_kept ps w t apart may.0 h)

  begun : (opening : List (Frame M)) (ps : List (Planned V)) → EachOne (IsStately x s processor table opening) ps (new_seats ps) (new_accounts ps) → EachOne (Kept opening) ps (new_seats ps) (new_accounts ps)
  begun opening [] h = tt
  begun opening (p ∷ ps) h = ((h.0, refl), begun opening ps h.1)

  -- OF ITS ONE SLAVE
  slave_is : (a b : ℕ) (n m : Slave V M) → ◌≡◌ {A = Ring V M} ((a, n) ∷ []) ((b, m) ∷ []) → n ≡ m
  slave_is a b n m e = let pair : ◌≡◌ {A = ℕ × Slave V M} (a, n) (b, m) = cc in ap (λ q. q.1) pair

  of_one : (fs : List (Frame M)) (p : Planned V) (ts : List (Seat V M Q R)) (more : List (Account Q R)) (station : ℕ) (n : Slave V M) (a : Account Q R) → EachOne (Kept fs) (p ∷ []) ts more → ring_of ts ≡ (station, n) ∷ [] → more ≡ a ∷ [] →
      p.registers.station ≡ p.station → AsksNoInit s (x.app p.server) a → IsSteady n
  of_one fs p [] more station n a h ring counted answers asks = absurd h
  of_one fs p (t ∷ ts) [] station n a h ring counted answers asks = absurd h
  of_one fs p (t ∷ (u ∷ ts)) (b ∷ []) station n a h ring counted answers asks = absurd h.1
  of_one fs p (t ∷ ts) (b ∷ (c ∷ more)) station n a h ring counted answers asks = absurd (let no : b ∷ (c ∷ more) ≡ a ∷ [] = counted in cc)
  of_one fs p (t ∷ []) (b ∷ []) station n a h ring counted answers asks =
      let k = h.0.0 in
      let same : b ≡ a = cc in
      let knows : s.state (x.app p.server) ≡ p.registers.state = (k.brought answers).state in
      subst IsSteady (slave_is t.station station t.slave n ring)
      (steady (table p.station) p.registers.state (k.brought answers).sits t.station fs t.slave b (k.stately answers) (λ e. asks.begun (knows ∙ e))
      (subst (λ (c : Account Q R). NoneToInit c.over) (sym same) asks.over) (subst (λ (c : Account Q R). HandToInit c.hand) (sym same) asks.hand))

  pub era_steady : (spot : Spot) (e : Era M Q R) (opened end : ℕ) (fs : List (Frame M)) (v : V) (r : Registers) (n : Slave V M) → EraIs x s processor table spot e opened end fs v r n → AsksNoInit s (x.app v) e.account → IsSteady n
  era_steady spot e opened end fs v r n is asks =
      let p = planned spot v r in
      let b = is.tasked in
      let all = run_kept (p ∷ []) (new_tasks {Q = Q} {R = R} b.opening (p ∷ [])) b.turns (all_apart [] (p ∷ []) is.plan.apart) b.may (begun b.opening (p ∷ []) (new_is x s processor table b.opening (p ∷ []) is.plan.brought)) in
      of_one _ p _ _ spot.station n e.account all b.ring b.counted is.answers asks
