-- TURN BY TURN, what the master of a serving has of one epoch is what its frames give: by registers, accounts and frames alone, whatever mails are passed on.
use Rattle.std.proofs.Common.{◌≡◌, ℕ, Bool, List, [], ◌∷◌, ◌++◌, length, refl, sym, ◌∙◌, subst}
use Rattle.std.specs.Prelude.{⊤}
use Rattle.served_places.specs.of_exchange_model.Exchange.{Exchange, IsLawful}
use Rattle.served_places.specs.of_exchange_model.Rows.{Row}
use Rattle.run_work.specs.of_frame_view.View.{Lens}
use Rattle.served_places.specs.of_life_model.Eras.{EraIs, era_frames, planned}
use Rattle.served_places.specs.of_life_model.Lives.{Spot, Era}
use Rattle.served_places.specs.of_link_mails.Body.{Body}
use Rattle.served_places.specs.of_link_model.Segment.{RingFate}
use Rattle.run_work.specs.of_master_duty.Reply.{Reply}
use Rattle.run_work.specs.of_master_hand.Spoken.{Asked, is_followed}
use Rattle.run_work.specs.of_plan_ring.Asked.{asked}
use Rattle.run_work.specs.of_plan_ring.Epochs.{IsTold}
use Rattle.served_places.specs.of_segment_model.Laws.{EachSeat, AllAnswered}
use Rattle.served_places.specs.of_segment_model.Record.{Frame}
use Rattle.served_places.specs.of_segment_model.Seats.{Side, Seat, Planned, IsFrame, ring_of, sides_of, seat_next, seats_next, seat_back, seats_after, side_lost, seat_steps, new_seats}
use Rattle.served_places.specs.of_segment_model.Slaves.{Registers, Processor, Slave, Datagram, slave_after, frame_after, ring_back}
use Rattle.served_places.proofs.of_segment_model.Answers.{Listens, back_listens, lost_listens}
use Rattle.served_places.proofs.of_segment_model.Kept.{Records, new_records, rows_answered}
use Rattle.served_rings.specs.Speakers.{spoken, spoken_states, processor_of, table_of}
use Rattle.served_rings.specs.ToldEras.{unpassed_era, unpassed_side}
use Rattle.served_rings.proofs.Unpassed as Unpassed
use Rattle.served_rings.proofs.Unpassed.{AreBegun, silent, next_begun, back_begun, rows_keys}
use Rattle.run_work.specs.of_slave_lives.Lived.{Behind}
use Rattle.run_work.specs.of_slave_model.Profile.{Profile}
use Rattle.run_work.specs.of_slave_parts.Parts.{Core, Server}
use Rattle.run_work.specs.of_protocol_models.Network.{Station}
use Rattle.run_work.specs.of_slave_server.Serving.{Serving}
use Rattle.served_places.specs.of_state_model.Families.{InState}
use Rattle.served_places.specs.of_state_model.Stated.{Stated}
use Rattle.served_places.specs.of_state_model.States.{Table}
use Rattle.served_places.specs.of_state_model.Accounts.{Account, Pick, mails_choice, account_next, account_back}
use Rattle.served_places.specs.of_state_model.Tasks.{TaskTurn, TaskSession, AreServed, MayRun, mails_choices, accounts_next, accounts_after, happens, run, new_accounts, new_tasks}
use Rattle.served_places.proofs.of_state_model.TaskOrders.{order_states}
use Rattle.served_places.proofs.of_state_model.Stately.{over_outcomes, duty_open}
use Rattle.served_places.proofs.of_state_model.Turns.{IsStately, next_is, back_is, lost_is, missed_is, step_is, new_is}
use Rattle.served_places.proofs.of_state_model.Walks.{EachOne, IsPlaced, AllApart, SeatMet, seats_apart, all_apart, all_reach, each_map, each_next, each_back, each_lost, each_steps}

module _ (p : Profile) (boot : Bool) (lens : ℕ → Lens) (law : IsLawful (silent p boot lens)) where
  abbrev V : Type 0
  V = InState Server

  abbrev SeatHere : Type 0
  SeatHere = Seat V Body Asked Reply

  abbrev AccountHere : Type 0
  AccountHere = Account Asked Reply

  abbrev x : Exchange V V Body Asked Reply
  x = spoken p

  abbrev s : Stated V V Asked
  s = spoken_states

  abbrev processor : Processor V
  processor = processor_of boot

  abbrev table : ℕ → Table
  table = table_of boot

  abbrev y : Exchange V (InState (Station Core)) Body Asked Reply
  y = silent p boot lens

  -- WHAT IS KEPT of a slave: its registers go with its account, the answers are those of the frames, and the rows are the services that came into hand
  record Kept (fs : List (Frame Body)) (q : Planned V) (t : SeatHere) (a : AccountHere) : Type 0 where
    is : IsStately x s processor table fs q t a
    listens : Listens y law t.station fs (unpassed_side t.side)
    begun : AreBegun t.side a

  nothing : (ts : List SeatHere) → EachSeat (λ t. ⊤) ts
  nothing [] = tt
  nothing (t ∷ ts) = (tt, nothing ts)

  placed_of : (fs : List (Frame Body)) (ps : List (Planned V)) (ts : List SeatHere) (more : List AccountHere) → EachOne (Kept fs) ps ts more → EachOne IsPlaced ps ts more
  placed_of fs ps ts more h = each_map (Kept fs) IsPlaced (λ q t a k. k.is.placed) ps ts more h

  -- a choice, a frame, a step
  next_kept : (fs : List (Frame Body)) (q : Planned V) (t : SeatHere) (a : AccountHere) (pick : Pick Asked) → Kept fs q t a → Kept fs q (seat_next x (length fs) t (mails_choice a pick)) (account_next x.speech s.acknowledged (length fs) t.side a pick)
  next_kept fs q t a pick k = record {
    is = next_is x s processor table s.acknowledged fs q t a pick k.is;
    listens = Unpassed.next_told p boot lens law t.station fs t.side (mails_choice a pick) k.listens;
    begun = next_begun x.speech s.acknowledged (length fs) t.side a k.begun pick;
  }

  back_kept : (fs : List (Frame Body)) (f : Frame Body) (q : Planned V) (t : SeatHere) (a : AccountHere) (ds : List (Datagram Body)) → IsPlaced q t a → SeatMet (length fs) q t a ds f.back → ⊤ → Kept fs q t a →
      Kept (fs ++ f ∷ []) q (seat_back x (length fs) t ds f.back) (account_back t.station (length fs) a f.back)
  back_kept fs f q t a ds placed met now k = record {
    is = back_is x s processor table fs f q t a ds placed met now k.is;
    listens = subst (Listens y law t.station (fs ++ f ∷ [])) (Unpassed.back_is p boot lens (length fs) t.station f.back t.side) (back_listens y law t.station fs (unpassed_side t.side) f k.listens);
    begun = back_begun x.speech s.acknowledged (length fs) t.side a k.begun t.station f.back;
  }

  lost_kept : (fs : List (Frame Body)) (f : Frame Body) → f.back ≡ [] → (q : Planned V) (t : SeatHere) (a : AccountHere) (ds : List (Datagram Body)) → IsPlaced q t a → SeatMet (length fs) q t a ds (frame_after t.station t.slave ds) → ⊤ → Kept fs q t a →
      Kept (fs ++ f ∷ []) q (record t { side = side_lost t.station f.sent t.side; slave = slave_after t.station t.slave ds }) a
  lost_kept fs f e q t a ds placed met now k = record {
    is = lost_is x s processor table fs f e q t a ds placed met now k.is;
    listens = lost_listens y law t.station fs (unpassed_side t.side) f e k.listens;
    begun = k.begun;
  }

  missed_kept : (fs : List (Frame Body)) (f : Frame Body) → f.back ≡ [] → (q : Planned V) (t : SeatHere) (a : AccountHere) → IsPlaced q t a → ⊤ → Kept fs q t a → Kept (fs ++ f ∷ []) q (record t { side = side_lost t.station f.sent t.side }) a
  missed_kept fs f e q t a placed now k = record {
    is = missed_is x s processor table fs f e q t a placed now k.is;
    listens = lost_listens y law t.station fs (unpassed_side t.side) f e k.listens;
    begun = k.begun;
  }

  step_kept : (fs : List (Frame Body)) (q : Planned V) (t : SeatHere) (a : AccountHere) → Kept fs q t a → Kept fs q (seat_steps x processor t) a
  step_kept fs q t a k = record { is = step_is x s processor table fs q t a k.is; listens = k.listens; begun = k.begun }

  frame_kept : (fs : List (Frame Body)) (ps : List (Planned V)) (ts : List SeatHere) (more : List AccountHere) (sent : List (Datagram Body)) (fate : RingFate) → AllApart ps → AreServed (sides_of ts) more sent → EachOne (Kept fs) ps ts more →
      EachOne (Kept (fs ++ record { sent = sent; fate = fate; back = ring_back (ring_of ts) sent fate } ∷ [])) ps (seats_after x (length fs) ts sent fate) (accounts_after (length fs) (sides_of ts) more fate (ring_back (ring_of ts) sent fate))
  frame_kept fs ps ts more sent RingFate.Back apart served h =
      let f : Frame Body = record { sent = sent; fate = RingFate.Back; back = ring_back (ring_of ts) sent RingFate.Back } in
      let placed = placed_of fs ps ts more h in
      each_back x (length fs) (Kept fs) (Kept (fs ++ f ∷ [])) (λ t. ⊤) f.back (back_kept fs f) ps ts more sent refl (seats_apart ps ts more apart placed) placed (all_reach ts more sent served) (nothing _) h
  frame_kept fs ps ts more sent (RingFate.Lost after) apart served h =
      let f : Frame Body = record { sent = sent; fate = RingFate.Lost after; back = [] } in
      let placed = placed_of fs ps ts more h in
      each_lost x (length fs) (Kept fs) (Kept (fs ++ f ∷ [])) (λ t. ⊤) sent (lost_kept fs f refl) (missed_kept fs f refl) after ps ts more sent (seats_apart ps ts more apart placed) placed (all_reach ts more sent served) (nothing _) h

  -- A TURN, and any turns
  abbrev SessionHere : Type 0
  SessionHere = TaskSession V Body Asked Reply

  abbrev AllKept : List (Planned V) → SessionHere → Type 0
  AllKept ps w = EachOne (Kept w.session.frames) ps w.session.seats w.accounts

  turn_kept : (ps : List (Planned V)) (w : SessionHere) (t : TaskTurn Body Asked) → AllApart ps →
      (let n = length w.session.frames in
      let asks = seats_next x n w.session.seats (mails_choices w.accounts t.picks) in
      IsFrame asks t.move.sent × AreServed (sides_of asks) (accounts_next x.speech s.acknowledged n (sides_of w.session.seats) w.accounts t.picks) t.move.sent) →
      AllKept ps w → AllKept ps (happens x s.acknowledged processor w t)
  turn_kept ps w t apart may h =
      let fs = w.session.frames in
      let asks = seats_next x (length fs) w.session.seats (mails_choices w.accounts t.picks) in
      let counted = accounts_next x.speech s.acknowledged (length fs) (sides_of w.session.seats) w.accounts t.picks in
      let f : Frame Body = record { sent = t.move.sent; fate = t.move.fate; back = ring_back (ring_of asks) t.move.sent t.move.fate } in
      let next = each_next x (Kept fs) s.acknowledged (length fs) (next_kept fs) ps w.session.seats w.accounts t.picks h in
      each_steps x (Kept (fs ++ f ∷ [])) processor (step_kept (fs ++ f ∷ [])) t.move.steps ps (seats_after x (length fs) asks t.move.sent t.move.fate) (accounts_after (length fs) (sides_of asks) counted t.move.fate (ring_back (ring_of asks) t.move.sent t.move.fate))
      (frame_kept fs ps asks counted t.move.sent t.move.fate apart may.1 next)

  run_kept : (ps : List (Planned V)) (w : SessionHere) (ts : List (TaskTurn Body Asked)) → AllApart ps → MayRun x s.acknowledged processor w ts → AllKept ps w → AllKept ps (run x s.acknowledged processor w ts)
  run_kept ps w [] apart may h = h
  run_kept ps w (t ∷ ts) apart may h = run_kept ps (happens x s.acknowledged processor w t) ts apart may.1 (turn_kept ps w t apart may.0 h)

  begins : (opening : List (Frame Body)) (ps : List (Planned V)) → EachOne (IsStately x s processor table opening) ps (new_seats ps) (new_accounts ps) → EachSeat (Records y law opening) (new_seats ps) → EachOne (Kept opening) ps (new_seats ps) (new_accounts ps)
  begins opening [] h r = tt
  begins opening (q ∷ ps) h r = (record { is = h.0; listens = r.0.listens; begun = refl }, begins opening ps h.1 r.1)

  -- OF ITS ONE SLAVE
  abbrev w : Behind Serving V (InState (Station Core)) Asked Reply
  w = asked p boot lens

  answered : (station : ℕ) (fs : List (Frame Body)) (rs : List (Row Body Asked Reply)) → AllAnswered y.speech is_followed station fs rs → AllAnswered w.exchange.speech is_followed station fs rs
  answered station fs [] h = tt
  answered station fs (r ∷ rs) h = (record { replied = h.0.replied; handed = h.0.handed }, answered station fs rs h.1)

  abbrev ToldBy : List (Frame Body) → Spot → Era Body Asked Reply → ℕ → Side Body Asked Reply → AccountHere → Type 0
  ToldBy fs spot e station d a = IsTold w is_followed (record spot { station = station }) fs (record e { side = unpassed_side d; account = a })

  told_by : (fs : List (Frame Body)) (spot : Spot) (e : Era Body Asked Reply) (q : Planned V) (t : SeatHere) (a : AccountHere) → q.registers.station ≡ q.station → Kept fs q t a → ToldBy fs spot e t.station t.side a
  told_by fs spot e q t a answers k =
      let sits = (k.is.brought answers).sits in
      let stately = k.is.stately answers in
      record {
        mails = k.begun ∙ sym (rows_keys t.side);
        answers = answered t.station fs _ (rows_answered y law is_followed t.station fs (unpassed_side t.side).past (unpassed_side t.side).now k.listens.past k.listens.now);
        states = order_states (length fs) a.started a.over a.hand stately.order;
        over = over_outcomes (table q.station) q.registers.state sits t.station w.exchange is_followed fs t.slave.registers a stately;
        hand = duty_open (table q.station) q.registers.state sits t.station w.exchange is_followed fs t.slave.registers a stately;
      }

  of_one : (fs : List (Frame Body)) (spot : Spot) (e : Era Body Asked Reply) (q : Planned V) (ts : List SeatHere) (more : List AccountHere) → EachOne (Kept fs) (q ∷ []) ts more → sides_of ts ≡ (spot.station, e.side) ∷ [] → more ≡ e.account ∷ [] →
      q.registers.station ≡ q.station → IsTold w is_followed spot fs (unpassed_era e)
  of_one fs spot e q [] more h sides counted answers = absurd h
  of_one fs spot e q (t ∷ ts) [] h sides counted answers = absurd h
  of_one fs spot e q (t ∷ (u ∷ ts)) (b ∷ []) h sides counted answers = absurd h.1
  of_one fs spot e q (t ∷ ts) (b ∷ (c ∷ more)) h sides counted answers = absurd (let no : b ∷ (c ∷ more) ≡ e.account ∷ [] = counted in cc)
  of_one fs spot e q (t ∷ []) (b ∷ []) h sides counted answers =
      let pair : ◌≡◌ {A = ℕ × Side Body Asked Reply} (t.station, t.side) (spot.station, e.side) = cc in
      let account : b ≡ e.account = cc in
      subst (λ (k : ℕ × Side Body Asked Reply). ToldBy fs spot e k.0 k.1 e.account) pair
      (subst (λ (a : AccountHere). ToldBy fs spot e t.station t.side a) account (told_by fs spot e q t b answers h.0))

  -- OF AN EPOCH
  pub era_told : (spot : Spot) (e : Era Body Asked Reply) (opened end : ℕ) (fs : List (Frame Body)) (v : V) (r : Registers) (n : Slave V Body) → EraIs x s processor table spot e opened end fs v r n →
      IsTold w is_followed spot (era_frames spot opened end fs) (unpassed_era e)
  era_told spot e opened end fs v r n is =
      let q = planned spot v r in
      let b = is.tasked in
      let now = run x s.acknowledged processor (new_tasks {Q = Asked} {R = Reply} b.opening (q ∷ [])) b.turns in
      let all = run_kept (q ∷ []) (new_tasks {Q = Asked} {R = Reply} b.opening (q ∷ [])) b.turns (all_apart [] (q ∷ []) is.plan.apart) b.may
      (begins b.opening (q ∷ []) (new_is x s processor table b.opening (q ∷ []) is.plan.brought) (new_records y law b.opening b.quiet (q ∷ []))) in
      subst (λ gs. IsTold w is_followed spot gs (unpassed_era e)) b.frames (of_one now.session.frames spot e q now.session.seats now.accounts all b.sides b.counted is.answers)
