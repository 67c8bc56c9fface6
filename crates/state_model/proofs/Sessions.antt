-- What a session with accounts keeps of each slave, turn by turn, and what it promises.
use Rattle.std.proofs.Common.{◌≡◌, ℕ, Bool, true, None, List, [], ◌∷◌, ◌++◌, map, length, refl, ap, sym, ◌∙◌, subst}
use Rattle.segment_model.specs.of_exchange_model.Exchange.{Exchange, IsLawful}
use Rattle.segment_model.specs.of_link_model.Segment.{RingFate, Distinct}
use Rattle.segment_model.specs.of_link_model.Frames.{IsFrameFor}
use Rattle.segment_model.specs.Slaves.{Slave, Processor, Datagram, Ring, grams, slave_after, frame_after, ring_back}
use Rattle.segment_model.specs.Record.{Frame}
use Rattle.segment_model.specs.Seats.{Side, Seat, Planned, AllReady, IsFrame, IsOpening, ring_of, sides_of, seat_next, seats_next, seat_back, seats_after, side_begins, side_lost, seat_steps, writes, new_seats}
use Rattle.segment_model.specs.Laws.{EachSeat, HandedBy, KnowsCounters}
use Rattle.segment_model.proofs.Answers.{kept_of}
use Rattle.segment_model.proofs.Sounds.{SeatAgrees, next_agrees, step_agrees}
use Rattle.segment_model.proofs.Written.{frame_tells}
use Rattle.segment_model.proofs.Posts.{writes-all_back}
use Rattle.segment_model.proofs.Handed.{Posts, next_posts, back_posts, lost_posts}
use Rattle.segment_model.proofs.Hands.{SeatPosts, new_posts}
use Rattle.segment_model.proofs.Kept.{Records, Follows, nexts_records, nexts_follow, afters_follow, turn_follows, new_follows}
use Rattle.state_model.specs.States.{Table}
use Rattle.state_model.specs.Promises.{IsTable}
use Rattle.state_model.specs.Stated.{Stated, IsStated, Service}
use Rattle.state_model.specs.Accounts.{Account, Pick, mails_begin, mails_choice, account_begins, account_next, account_back}
use Rattle.state_model.specs.Tasks.{TaskTurn, TaskSession, AllBrought, IsTaskPlan, IsTasked, AreServed, MayRun, mails_choices, mails_turn, accounts_next, accounts_after, happens, run, new_accounts, new_tasks}
use Rattle.state_model.specs.Promise.{EachTask, TasksPromised, TasksRestIf, TasksAnswered}
use Rattle.state_model.specs.Books.{TasksPast, TasksEndedIf, TasksDoneIf}
use Rattle.state_model.proofs.Stately.{state_over, free_state, step_state}
use Rattle.state_model.proofs.Walks.{EachOne, IsPlaced, AllApart, SeatMet, seats_apart, all_apart, all_reach, each_map, each_next, each_back, each_lost, each_steps}
use Rattle.state_model.proofs.Turns.{IsStately, next_is, back_is, lost_is, missed_is, step_is, new_is}
use Rattle.state_model.proofs.Ghosts.{Carried}
use Rattle.state_model.proofs.Begins.{carried_begins, carried_next}
use Rattle.state_model.proofs.Moves.{carried_back, carried_missed, carried_met}
use Rattle.state_model.proofs.Stepped.{carried_steps, carried_new}
use Rattle.state_model.proofs.Completed.{Completed, over_next, completed_frame, completed_next, completed_back}
use Rattle.state_model.proofs.Newest.{Holds, side_facts, newest_over}
use Rattle.state_model.proofs.Promised.{promised}
use Rattle.state_model.proofs.Resting.{rests}
use Rattle.state_model.proofs.Booked
use Rattle.state_model.specs.Steady.{AsksNoInit, IsSteady}
use Rattle.state_model.proofs.Steadies.{steady}

-- facts of the seats beside facts of each slave
each_seats : {V M Q R : Type 0} (P : Seat V M Q R → Type 0) (O : Planned V → Seat V M Q R → Account Q R → Type 0) (ps : List (Planned V)) (ss : List (Seat V M Q R)) (more : List (Account Q R)) → EachSeat P ss → EachOne O ps ss more →
    EachOne (λ p s a. P s × O p s a) ps ss more
each_seats P O [] [] [] h k = tt
each_seats P O [] [] (a ∷ more) h k = absurd k
each_seats P O [] (s ∷ ss) more h k = absurd k
each_seats P O (p ∷ ps) [] more h k = absurd k
each_seats P O (p ∷ ps) (s ∷ ss) [] h k = absurd k
each_seats P O (p ∷ ps) (s ∷ ss) (a ∷ more) h k = ((h.0, k.0), each_seats P O ps ss more h.1 k.1)

both_seats : {V M Q R : Type 0} (P O : Seat V M Q R → Type 0) (ss : List (Seat V M Q R)) → EachSeat P ss → EachSeat O ss → EachSeat (λ s. P s × O s) ss
both_seats P O [] h k = tt
both_seats P O (s ∷ ss) h k = ((h.0, k.0), both_seats P O ss h.1 k.1)

frame_seats : {V M Q R : Type 0} (ss : List (Seat V M Q R)) (sent : List (Datagram M)) → IsFrame ss sent → EachSeat (λ s. IsFrameFor s.station s.side.halves (grams sent)) ss
frame_seats [] sent f = tt
frame_seats (s ∷ ss) sent f = (f.0, frame_seats ss sent f.1)

-- a fact of each slave that answers to its station, of its side, its account and the slave
each_task : {V M Q R : Type 0} (P : ℕ → V → _ → Account Q R → _ → Type 0) (ps : List (Planned V)) (ss : List (Seat V M Q R)) (more : List (Account Q R)) →
    EachOne (λ p s a. (s.station ≡ p.station) × (s.start ≡ p.server) × (p.registers.station ≡ p.station → P s.station s.start s.side a s.slave)) ps ss more → EachTask P ps (sides_of ss) more (ring_of ss)
each_task P [] [] [] h = tt
each_task P [] [] (a ∷ more) h = absurd h
each_task P [] (s ∷ ss) more h = absurd h
each_task P (p ∷ ps) [] more h = absurd h
each_task P (p ∷ ps) (s ∷ ss) [] h = absurd h
each_task P (p ∷ ps) (s ∷ ss) (a ∷ more) h = (
  (h.0.0, h.0.0, λ answers. subst (λ n. P n p.server s.side a s.slave) h.0.0 (subst (λ v. P s.station v s.side a s.slave) h.0.1 (h.0.2 answers))),
  each_task P ps ss more h.1,
)

module _ {V A M Q R : Type 0} (x : Exchange V A M Q R) (law : IsLawful x) (s : Stated V A Q) (stated : IsStated x s) (processor : Processor V) (table : ℕ → Table) (more : M → Bool)
    (tells : (state : ℕ) (v : V) → processor.tell state v ≡ s.tell state v) where
  -- what is kept of a slave that answers to its station
  pub record Carries (fs : List (Frame M)) (p : Planned V) (seat : Seat V M Q R) (a : Account Q R) : Type 0 where
    pub carried : Carried x law s (table p.station) (state_over (table p.station) p.registers.state a.over) seat a
    pub posts : Posts x law seat.station fs seat.side
    pub completed : Completed x more seat.station fs a.started

  -- THE INVARIANT of one slave of a plan
  pub record Whole (fs : List (Frame M)) (p : Planned V) (seat : Seat V M Q R) (a : Account Q R) : Type 0 where
    pub is : IsStately x s processor table fs p seat a
    pub ready : x.ready seat.start ≡ true
    pub start : seat.start ≡ p.server
    pub agrees : SeatAgrees x seat
    pub records : Records x law fs seat
    pub carries : p.registers.station ≡ p.station → Carries fs p seat a

  pub holds : (fs : List (Frame M)) (p : Planned V) (seat : Seat V M Q R) (a : Account Q R) (k : Whole fs p seat a) → (answers : p.registers.station ≡ p.station) → Holds x law s stated (table p.station) more p.registers.state (k.is.brought answers).sits fs seat a
  holds fs p seat a k answers =
      let c = k.carries answers in
      record {
        ready = k.ready;
        agrees = k.agrees;
        begun = ap (λ v. s.state (x.app v)) k.start ∙ (k.is.brought answers).state;
        stately = k.is.stately answers;
        carried = c.carried;
        records = k.records;
        posts = c.posts;
        completed = c.completed;
      }

  abbrev Behind : List (Frame M) → Seat V M Q R → Type 0
  Behind fs seat = SeatAgrees x seat × Records x law fs seat

  -- the invariant beside a seat that began with the same server, where each part of it is kept
  keeps_whole : (fs now : List (Frame M)) (p : Planned V) (seat t : Seat V M Q R) (a b : Account Q R) → t.start ≡ seat.start → Whole fs p seat a → IsStately x s processor table now p t b → Behind now t →
      (p.registers.station ≡ p.station → Carries fs p seat a → Carries now p t b) → Whole now p t b
  keeps_whole fs now p seat t a b same k is behind carries = record {
    is = is;
    ready = ap x.ready same ∙ k.ready;
    start = same ∙ k.start;
    agrees = behind.0;
    records = behind.1;
    carries = λ answers. carries answers (k.carries answers);
  }

  -- BEFORE A FRAME
  next_carries : (fs : List (Frame M)) (p : Planned V) (seat : Seat V M Q R) (a : Account Q R) (pick : Pick Q) → Whole fs p seat a → p.registers.station ≡ p.station →
      Carries fs p (seat_next x (length fs) seat (mails_choice a pick)) (account_next x.speech s.acknowledged (length fs) seat.side a pick)
  next_carries fs p seat a pick k answers =
      let from = state_over (table p.station) p.registers.state a.over in
      let h = holds fs p seat a k answers in
      let stands = λ (none : a.hand ≡ None). (free_state (table p.station) p.registers.state (k.is.brought answers).sits seat.station fs seat.slave.registers a h.stately none).0 in
      let began = carried_begins x law s (table p.station) stated from seat a (length fs) pick.begin k.ready k.agrees stands h.carried in
      let side = side_begins x.speech (length fs) seat.side seat.side.now (mails_begin a.hand pick.begin) in
      let b = account_begins x.speech s.acknowledged (length fs) seat.side a a.hand pick.begin in
      record {
        carried = subst (λ os. Carried x law s (table p.station) (state_over (table p.station) p.registers.state os) (seat_next x (length fs) seat (mails_choice a pick)) (account_next x.speech s.acknowledged (length fs) seat.side a pick))
            (sym (over_next x s.acknowledged (length fs) seat.side a pick)) (carried_next x law s (table p.station) stated from seat a (length fs) pick k.ready k.agrees stands h.carried);
        posts = next_posts x law seat.station fs seat.side (mails_choice a pick)
            (side_facts x law s stated (table p.station) more p.registers.state (k.is.brought answers).sits fs seat a k.ready from h.carried)
            (side_facts x law s stated (table p.station) more p.registers.state (k.is.brought answers).sits fs (record seat { side = side }) b k.ready from began)
            h.posts;
        completed = completed_next x more seat.station s.acknowledged fs seat.side a h.completed pick (newest_over x law s stated (table p.station) more p.registers.state (k.is.brought answers).sits fs seat a h);
      }

  next_whole : (fs : List (Frame M)) (p : Planned V) (seat : Seat V M Q R) (a : Account Q R) (pick : Pick Q) → Whole fs p seat a → Whole fs p (seat_next x (length fs) seat (mails_choice a pick)) (account_next x.speech s.acknowledged (length fs) seat.side a pick)
  next_whole fs p seat a pick k = keeps_whole fs fs p seat (seat_next x (length fs) seat (mails_choice a pick)) a (account_next x.speech s.acknowledged (length fs) seat.side a pick) refl k
      (next_is x s processor table s.acknowledged fs p seat a pick k.is)
      (next_agrees x (length fs) seat (mails_choice a pick) k.agrees, (nexts_records x law fs (seat ∷ []) (mails_choice a pick ∷ []) (k.records, tt)).0) (λ answers c. next_carries fs p seat a pick k answers)

  -- A FRAME THAT CAME BACK
  abbrev Sent : List (Frame M) → List (Datagram M) → Planned V → Seat V M Q R → Account Q R → Type 0
  Sent fs sent p seat a = IsFrameFor seat.station seat.side.halves (grams sent) × Whole fs p seat a

  back_whole : (fs : List (Frame M)) (f : Frame M) → ((station : ℕ) → writes station (grams f.back) ≡ writes station (grams f.sent)) → (p : Planned V) (seat : Seat V M Q R) (a : Account Q R) (ds : List (Datagram M)) →
      IsPlaced p seat a → SeatMet (length fs) p seat a ds f.back → Behind (fs ++ f ∷ []) (seat_back x (length fs) seat ds f.back) → Sent fs f.sent p seat a →
      Whole (fs ++ f ∷ []) p (seat_back x (length fs) seat ds f.back) (account_back seat.station (length fs) a f.back)
  back_whole fs f same p seat a ds placed met now k =
      let b = account_back seat.station (length fs) a f.back in
      let kept = back_is x s processor table fs f p seat a ds placed met tt k.1.is in
      keeps_whole fs (fs ++ f ∷ []) p seat (seat_back x (length fs) seat ds f.back) a b refl k.1 kept now (λ answers c. record {
        carried = carried_back x law s (table p.station) stated p.registers.state seat a b _ (length fs) _ ds f.back k.1.ready k.1.agrees now.0 (met.served answers 0)
            (λ none. (free_state (table p.station) p.registers.state (kept.brought answers).sits seat.station (fs ++ f ∷ []) (slave_after seat.station seat.slave ds).registers b (kept.stately answers) none).0)
            c.carried;
        posts = back_posts x law seat.station fs f seat.side (same seat.station) (frame_tells seat.station (kept_of seat.station fs).told seat.side.halves (grams f.sent) k.0) c.posts;
        completed = completed_back x more seat.station (fs ++ f ∷ []) (length fs) a f.back (completed_frame x more seat.station fs f a.started c.completed);
      })

  -- A LOST FRAME
  loses : (fs : List (Frame M)) (f : Frame M) → f.back ≡ [] → (p : Planned V) (seat : Seat V M Q R) (a : Account Q R) (slave : Slave V M) → (let t = record seat { side = side_lost seat.station f.sent seat.side; slave = slave } in
      IsStately x s processor table (fs ++ f ∷ []) p t a → Behind (fs ++ f ∷ []) t → Sent fs f.sent p seat a →
      ((from : ℕ) → Carried x law s (table p.station) from seat a → Carried x law s (table p.station) from t a) → Whole (fs ++ f ∷ []) p t a)
  loses fs f e p seat a slave is now k carried = keeps_whole fs (fs ++ f ∷ []) p seat (record seat { side = side_lost seat.station f.sent seat.side; slave = slave }) a a refl k.1 is now (λ answers c. record {
    carried = carried (state_over (table p.station) p.registers.state a.over) c.carried;
    posts = lost_posts x law seat.station fs f seat.side e (frame_tells seat.station (kept_of seat.station fs).told seat.side.halves (grams f.sent) k.0) c.posts;
    completed = completed_frame x more seat.station fs f a.started c.completed;
  })

  lost_whole : (fs : List (Frame M)) (f : Frame M) → f.back ≡ [] → (p : Planned V) (seat : Seat V M Q R) (a : Account Q R) (ds : List (Datagram M)) → (let t = record seat { side = side_lost seat.station f.sent seat.side; slave = slave_after seat.station seat.slave ds } in
      IsPlaced p seat a → SeatMet (length fs) p seat a ds (frame_after seat.station seat.slave ds) → Behind (fs ++ f ∷ []) t → Sent fs f.sent p seat a → Whole (fs ++ f ∷ []) p t a)
  lost_whole fs f e p seat a ds placed met now k = loses fs f e p seat a (slave_after seat.station seat.slave ds) (lost_is x s processor table fs f e p seat a ds placed met tt k.1.is) now k
      (λ from c. carried_met x law s (table p.station) stated from seat a f.sent ds c)

  missed_whole : (fs : List (Frame M)) (f : Frame M) → f.back ≡ [] → (p : Planned V) (seat : Seat V M Q R) (a : Account Q R) → (let t = record seat { side = side_lost seat.station f.sent seat.side } in
      IsPlaced p seat a → Behind (fs ++ f ∷ []) t → Sent fs f.sent p seat a → Whole (fs ++ f ∷ []) p t a)
  missed_whole fs f e p seat a placed now k =
      loses fs f e p seat a seat.slave (missed_is x s processor table fs f e p seat a placed tt k.1.is) now k (λ from c. carried_missed x law s (table p.station) stated from seat a f.sent c)

  -- A STEP OF THE PROCESSOR
  step_whole : (fs : List (Frame M)) (p : Planned V) (seat : Seat V M Q R) (a : Account Q R) → Whole fs p seat a → Whole fs p (seat_steps x processor seat) a
  step_whole fs p seat a k =
      let agrees = step_agrees x processor seat k.agrees in
      keeps_whole fs fs p seat (seat_steps x processor seat) a a refl k (step_is x s processor table fs p seat a k.is) (agrees, record { listens = k.records.listens; rises = k.records.rises; hears = k.records.hears }) (λ answers c. record {
        carried = carried_steps x law s (table p.station) stated (state_over (table p.station) p.registers.state a.over) seat a processor tells
            (k.is.carries seat.slave.registers k.is.placed.place.station k.is.placed.place.first k.is.placed.place.second)
            (step_state (table p.station) p.registers.state (k.is.brought answers).sits seat.station fs seat.slave.registers a (k.is.stately answers)) k.ready agrees c.carried;
        posts = c.posts;
        completed = c.completed;
      })

  -- THE SESSION: all slaves, and that no station stands twice
  pub record Keeps (ps : List (Planned V)) (w : TaskSession V M Q R) : Type 0 where
    pub stations : Distinct (map (λ (t : Seat V M Q R). t.station) w.session.seats)
    pub each : EachOne (Whole w.session.frames) ps w.session.seats w.accounts

  placed_of : (fs : List (Frame M)) (ps : List (Planned V)) (ss : List (Seat V M Q R)) (accounts : List (Account Q R)) → EachOne (Whole fs) ps ss accounts → EachOne IsPlaced ps ss accounts
  placed_of fs ps ss accounts h = each_map (Whole fs) IsPlaced (λ p seat a k. k.is.placed) ps ss accounts h

  seats_of : (P : Seat V M Q R → Type 0) (O : Planned V → Seat V M Q R → Account Q R → Type 0) → ((p : Planned V) (t : Seat V M Q R) (a : Account Q R) → O p t a → P t) → (ps : List (Planned V)) (ss : List (Seat V M Q R)) (accounts : List (Account Q R)) → EachOne O ps ss accounts → EachSeat P ss
  seats_of P O f [] [] [] h = tt
  seats_of P O f [] [] (a ∷ accounts) h = absurd h
  seats_of P O f [] (t ∷ ss) accounts h = absurd h
  seats_of P O f (p ∷ ps) [] accounts h = absurd h
  seats_of P O f (p ∷ ps) (t ∷ ss) [] h = absurd h
  seats_of P O f (p ∷ ps) (t ∷ ss) (a ∷ accounts) h = (f p t a h.0, seats_of P O f ps ss accounts h.1)

  follows : (fs : List (Frame M)) (ps : List (Planned V)) (ss : List (Seat V M Q R)) (accounts : List (Account Q R)) → Distinct (map (λ (t : Seat V M Q R). t.station) ss) → EachOne (Whole fs) ps ss accounts → Follows x law fs ss
  follows fs ps ss accounts d h = record {
    stations = d;
    agrees = seats_of (SeatAgrees x) (Whole fs) (λ p t a k. k.agrees) ps ss accounts h;
    records = seats_of (Records x law fs) (Whole fs) (λ p t a k. k.records) ps ss accounts h;
  }

  -- a frame of whichever fate
  frame_whole : (fs : List (Frame M)) (ps : List (Planned V)) (ss : List (Seat V M Q R)) (accounts : List (Account Q R)) (sent : List (Datagram M)) (fate : RingFate) → AllApart ps → IsFrame ss sent → AreServed (sides_of ss) accounts sent → Follows x law fs ss →
      EachOne (Whole fs) ps ss accounts →
      EachOne (Whole (fs ++ record { sent = sent; fate = fate; back = ring_back (ring_of ss) sent fate } ∷ [])) ps (seats_after x (length fs) ss sent fate) (accounts_after (length fs) (sides_of ss) accounts fate (ring_back (ring_of ss) sent fate))
  frame_whole fs ps ss accounts sent RingFate.Back apart frame served follow h =
      let f : Frame M = record { sent = sent; fate = RingFate.Back; back = ring_back (ring_of ss) sent RingFate.Back } in
      let placed = placed_of fs ps ss accounts h in
      let behind = afters_follow x law fs ss sent RingFate.Back frame follow in
      each_back x (length fs) (Sent fs sent) (Whole (fs ++ f ∷ [])) (Behind (fs ++ f ∷ [])) f.back (back_whole fs f (λ station. writes-all_back station (ring_of ss) sent)) ps ss accounts sent refl (seats_apart ps ss accounts apart placed) placed
      (all_reach ss accounts sent served) (both_seats (SeatAgrees x) (Records x law (fs ++ f ∷ [])) _ behind.agrees behind.records)
      (each_seats (λ t. IsFrameFor t.station t.side.halves (grams sent)) (Whole fs) ps ss accounts (frame_seats ss sent frame) h)
  frame_whole fs ps ss accounts sent (RingFate.Lost after) apart frame served follow h =
      let f : Frame M = record { sent = sent; fate = RingFate.Lost after; back = [] } in
      let placed = placed_of fs ps ss accounts h in
      let behind = afters_follow x law fs ss sent (RingFate.Lost after) frame follow in
      each_lost x (length fs) (Sent fs sent) (Whole (fs ++ f ∷ [])) (Behind (fs ++ f ∷ [])) sent (lost_whole fs f refl) (missed_whole fs f refl) after ps ss accounts sent (seats_apart ps ss accounts apart placed) placed
      (all_reach ss accounts sent served) (both_seats (SeatAgrees x) (Records x law (fs ++ f ∷ [])) _ behind.agrees behind.records)
      (each_seats (λ t. IsFrameFor t.station t.side.halves (grams sent)) (Whole fs) ps ss accounts (frame_seats ss sent frame) h)

  -- A TURN
  turn_keeps : (ps : List (Planned V)) (w : TaskSession V M Q R) (t : TaskTurn M Q) → AllApart ps →
      (let n = length w.session.frames in
      let asked = seats_next x n w.session.seats (mails_choices w.accounts t.picks) in
      IsFrame asked t.move.sent × AreServed (sides_of asked) (accounts_next x.speech s.acknowledged n (sides_of w.session.seats) w.accounts t.picks) t.move.sent) →
      Keeps ps w → Keeps ps (happens x s.acknowledged processor w t)
  turn_keeps ps w t apart may h =
      let fs = w.session.frames in
      let cs = mails_choices w.accounts t.picks in
      let asked = seats_next x (length fs) w.session.seats cs in
      let counted = accounts_next x.speech s.acknowledged (length fs) (sides_of w.session.seats) w.accounts t.picks in
      let f : Frame M = record { sent = t.move.sent; fate = t.move.fate; back = ring_back (ring_of asked) t.move.sent t.move.fate } in
      let follow = follows fs ps w.session.seats w.accounts h.stations h.each in
      let next = each_next x (Whole fs) s.acknowledged (length fs) (next_whole fs) ps w.session.seats w.accounts t.picks h.each in
      let behind = frame_whole fs ps asked counted t.move.sent t.move.fate apart may.0 may.1 (nexts_follow x law fs w.session.seats cs follow) next in
      record {
        stations = (turn_follows x law processor w.session (mails_turn w.accounts t) may.0 follow).stations;
        each = each_steps x (Whole (fs ++ f ∷ [])) processor (step_whole (fs ++ f ∷ [])) t.move.steps ps (seats_after x (length fs) asked t.move.sent t.move.fate)
            (accounts_after (length fs) (sides_of asked) counted t.move.fate (ring_back (ring_of asked) t.move.sent t.move.fate)) behind;
      }

  -- ANY TURNS
  run_keeps : (ps : List (Planned V)) (w : TaskSession V M Q R) (ts : List (TaskTurn M Q)) → AllApart ps → MayRun x s.acknowledged processor w ts → Keeps ps w → Keeps ps (run x s.acknowledged processor w ts)
  run_keeps ps w [] apart may h = h
  run_keeps ps w (t ∷ ts) apart may h = run_keeps ps (happens x s.acknowledged processor w t) ts apart may.1 (turn_keeps ps w t apart may.0 h)

  -- AT THE END OF BRING-UP
  new_whole : (opening : List (Frame M)) (ps : List (Planned V)) → AllReady x ps → AllBrought x s processor table ps → EachSeat (SeatAgrees x) (new_seats ps) → EachSeat (Records x law opening) (new_seats ps) → EachSeat (SeatPosts x law opening) (new_seats ps) →
      EachOne (IsStately x s processor table opening) ps (new_seats ps) (new_accounts ps) → EachOne (Whole opening) ps (new_seats ps) (new_accounts ps)
  new_whole opening [] ready brought agrees records posts is = tt
  new_whole opening (p ∷ ps) ready brought agrees records posts is = (
    record {
      is = is.0;
      ready = ready.0;
      start = refl;
      agrees = agrees.0;
      records = records.0;
      carries = λ answers. record {
        carried = carried_new x law s (table p.station) stated p.registers.state p (brought.0.1 answers).state;
        posts = posts.0;
        completed = tt;
      };
    },
    new_whole opening ps ready.1 brought.1 agrees.1 records.1 posts.1 is.1,
  )

  new_keeps : (opening : List (Frame M)) → IsOpening opening → (ps : List (Planned V)) → IsTaskPlan x s processor table ps → Keeps ps (new_tasks opening ps)
  new_keeps opening quiet ps plan =
      let follow = new_follows x law opening quiet ps plan.plan.stations in
      record {
        stations = follow.stations;
        each = new_whole opening ps plan.plan.ready plan.brought follow.agrees follow.records (new_posts x law opening quiet ps) (new_is x s processor table opening ps plan.brought);
      }

  -- EVERY SESSION of a plan
  module _ (ps : List (Planned V)) (plan : IsTaskPlan x s processor table ps) where
    pub session_keeps : (opening : List (Frame M)) → IsOpening opening → (ts : List (TaskTurn M Q)) → MayRun x s.acknowledged processor (new_tasks {Q = Q} {R = R} opening ps) ts → Keeps ps (run x s.acknowledged processor (new_tasks opening ps) ts)
    session_keeps opening quiet ts may = run_keeps ps (new_tasks opening ps) ts (all_apart [] ps plan.apart) may (new_keeps opening quiet ps plan)

    module _ (ds : List (ℕ × Side M Q R)) (accounts : List (Account Q R)) (ns : Ring V M) (fs : List (Frame M)) (b : IsTasked x s.acknowledged processor ps ds accounts ns fs) where
      abbrev now : TaskSession V M Q R
      now = run x s.acknowledged processor (new_tasks b.opening ps) b.turns

      of_session : (P : List (Frame M) → ℕ → V → Side M Q R → Account Q R → Slave V M → Type 0) → EachTask (P now.session.frames) ps (sides_of now.session.seats) now.accounts (ring_of now.session.seats) → EachTask (P fs) ps ds accounts ns
      of_session P h = subst (λ l. EachTask (P fs) ps ds accounts l) b.ring (subst (λ l. EachTask (P fs) ps ds l (ring_of now.session.seats)) b.counted
          (subst (λ l. EachTask (P fs) ps l now.accounts (ring_of now.session.seats)) b.sides (subst (λ l. EachTask (P l) ps (sides_of now.session.seats) now.accounts (ring_of now.session.seats)) b.frames h)))

      -- a fact of each slave of which all this is kept
      pub of_slaves : (P : Table → List (Frame M) → ℕ → V → Side M Q R → Account Q R → Slave V M → Type 0) →
          ((t : Table) (begun : ℕ) (is : IsTable t begun) (fs : List (Frame M)) (seat : Seat V M Q R) (a : Account Q R) → Holds x law s stated t more begun is fs seat a → P t fs seat.station seat.start seat.side a seat.slave) →
          EachTask (λ station start d a n. P (table station) fs station start d a n) ps ds accounts ns
      of_slaves P one =
          let kept = session_keeps b.opening b.quiet b.turns b.may in
          of_session (λ fs station start d a n. P (table station) fs station start d a n)
          (each_task (λ station start d a n. P (table station) now.session.frames station start d a n) ps now.session.seats now.accounts
          (each_map (Whole now.session.frames) _ (λ p seat a k. (
            k.is.placed.station,
            k.start,
            λ answers. subst (λ n. P (table n) now.session.frames seat.station seat.start seat.side a seat.slave) (sym k.is.placed.station)
                (one (table p.station) p.registers.state (k.is.brought answers).sits now.session.frames seat a (holds now.session.frames p seat a k answers)),
          )) ps now.session.seats now.accounts kept.each))

      pub tasks_promised : EachTask (λ station start d a n. TasksPromised x s (table station) more fs station start d a n) ps ds accounts ns
      tasks_promised = of_slaves (λ t fs station start d a n. TasksPromised x s t more fs station start d a n) (λ t begun is fs seat a h. promised x law s stated t more begun is fs seat a h)

      pub tasks_rest : EachTask (λ station start d a n. TasksRestIf x s (table station) more fs station start d a n) ps ds accounts ns
      tasks_rest = of_slaves (λ t fs station start d a n. TasksRestIf x s t more fs station start d a n) (λ t begun is fs seat a h. rests x law s stated t more begun is fs seat a h)

      pub tasks_answered : EachTask (λ station start d a n. TasksAnswered x s (table station) more fs station start d a n) ps ds accounts ns
      tasks_answered = of_slaves (λ t fs station start d a n. TasksAnswered x s t more fs station start d a n) (λ t begun is fs seat a h. Booked.tasks_answered x law s stated t more begun is fs seat a h)

      pub tasks_handed : EachTask (λ station start d a n. HandedBy x more fs station start d n) ps ds accounts ns
      tasks_handed = of_slaves (λ t fs station start d a n. HandedBy x more fs station start d n) (λ t begun is fs seat a h. Booked.tasks_handed x law s stated t more begun is fs seat a h)

      pub tasks_counted : EachTask (λ station start d a n. KnowsCounters fs station start d n) ps ds accounts ns
      tasks_counted = of_slaves (λ t fs station start d a n. KnowsCounters fs station start d n) (λ t begun is fs seat a h. Booked.tasks_counted x law s stated t more begun is fs seat a h)

      pub tasks_past : EachTask (λ station start d a n. TasksPast x more fs station start d a n) ps ds accounts ns
      tasks_past = of_slaves (λ t fs station start d a n. TasksPast x more fs station start d a n) (λ t begun is fs seat a h. Booked.tasks_past x law s stated t more begun is fs seat a h)

      pub tasks_ended : EachTask (λ station start d a n. TasksEndedIf x more fs station start d a n) ps ds accounts ns
      tasks_ended = of_slaves (λ t fs station start d a n. TasksEndedIf x more fs station start d a n) (λ t begun is fs seat a h. Booked.tasks_ended x law s stated t more begun is fs seat a h)

      pub tasks_steady : EachTask (λ station start d a n. AsksNoInit s (x.app start) a → IsSteady n) ps ds accounts ns
      tasks_steady = of_slaves (λ t fs station start d a n. AsksNoInit s (x.app start) a → IsSteady n)
          (λ t begun is fs seat a h asks. steady t begun is seat.station fs seat.slave a h.stately (λ e. asks.begun (h.begun ∙ e)) asks.over asks.hand)

      pub tasks_done : (scripted : ℕ → List (Service Q)) → EachTask (λ station start d a n. TasksDoneIf x s (table station) more scripted fs station start d a n) ps ds accounts ns
      tasks_done scripted = of_slaves (λ t fs station start d a n. TasksDoneIf x s t more scripted fs station start d a n) (λ t begun is fs seat a h. Booked.tasks_done x law s stated t more begun is fs seat a h scripted)
