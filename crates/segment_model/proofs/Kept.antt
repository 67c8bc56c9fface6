-- What a session keeps, turn by turn.
use Rattle.std.proofs.Common.{◌≡◌, ℕ, zero, suc, Bool, Option, Some, None, option_map, List, [], ◌∷◌, ◌++◌, map, length, refl, ap, sym, ◌∙◌, subst, arith, length-append, append-nil}
use Rattle.exchange_model.specs.Exchange.{Exchange, IsLawful}
use Rattle.exchange_model.specs.Rows.{Row, Fits}
use Rattle.link_model.specs.Segment.{RingFate, Distinct}
use Rattle.link_model.specs.Frames.{all_accepted}
use Rattle.link_model.proofs.Law.{new_agrees}
use Rattle.segment_model.specs.Slaves.{Processor, IsStill, Datagram, grams, frame_after, ring_back}
use Rattle.segment_model.specs.Record.{Frame, News, first_end, or_later, news_each, nothing_kept, frame_news, news_from, mails_heard, joined, heard}
use Rattle.segment_model.specs.Ends.{Outcome, mails_end}
use Rattle.segment_model.specs.Laws.{EachSeat, IsAnswered, AllAnswered, as_outcome, SeatPromised}
use Rattle.segment_model.specs.Seats
use Rattle.segment_model.specs.Seats.{Seat, Choice, Turn, Session, Planned, IsPlan, AllReady, ring_of, newest, rows_of, seat_next, seats_next, seat_back, seats_back, seats_lost, side_lost, seats_after, seat_steps_at, seats_step, stations_of, happens, run, MayRun, new_seats, IsOpening}
use Rattle.segment_model.proofs.News.{mails_heard-append, heard_frame, joined-append}
use Rattle.segment_model.proofs.Answers.{Listens, AllClosed, OpenNow, first_reply, reply_end, next_listens, back_listens, lost_listens, kept_of, news_each-push}
use Rattle.segment_model.proofs.Openings.{opening_kept, opening_heard}
use Rattle.segment_model.proofs.Rising.{RisesNow, next_rises, heard_rises, waits_rises, rises_all}
use Rattle.segment_model.proofs.Links.{new_sound}
use Rattle.segment_model.proofs.Sounds.{SeatSound, SeatAgrees, frame_keeps, frame_agrees, nexts_sound, nexts_agree, steps_sound, steps_agree}
use Rattle.segment_model.proofs.Fitted.{Fitted, IsReady, nexts_fit, frames_fit, steps_fit, seat_fits}

-- the mails heard behind one more frame
heard-push : {M : Type 0} (station : ℕ) (fs : List (Frame M)) (f : Frame M) → heard station (fs ++ f ∷ []) ≡ heard station fs ++ mails_heard (frame_news station (kept_of station fs) f)
heard-push station fs f =
    ap (λ l. mails_heard (joined l)) (news_each-push station nothing_kept fs f) ∙ ap mails_heard (joined-append (news_each station nothing_kept fs) _) ∙ mails_heard-append (joined (news_each station nothing_kept fs)) _

module _ {V A M Q R : Type 0} (x : Exchange V A M Q R) (law : IsLawful x) where
  -- what the master's side of a seat has of the frames
  pub record Records (fs : List (Frame M)) (s : Seat V M Q R) : Type 0 where
    pub listens : Listens x law s.station fs s.side
    pub rises : RisesNow s.side.past s.side.now (length fs)
    pub hears : s.accepted ≡ heard s.station fs

  pub record Keeps (fs : List (Frame M)) (ss : List (Seat V M Q R)) : Type 0 where
    pub stations : Distinct (stations_of ss)
    pub ready : EachSeat (IsReady x law) ss
    pub sound : EachSeat (SeatSound x) ss
    pub fitted : EachSeat (Fitted x law) ss
    pub records : EachSeat (Records fs) ss

  -- before a frame
  pub nexts_records : (fs : List (Frame M)) (ss : List (Seat V M Q R)) (cs : List (Choice Q)) → EachSeat (Records fs) ss → EachSeat (Records fs) (seats_next x (length fs) ss cs)
  nexts_records fs [] cs h = tt
  nexts_records fs (s ∷ ss) [] h = h
  nexts_records fs (s ∷ ss) (c ∷ cs) h =
      let r : Records fs (seat_next x (length fs) s c) = record { listens = next_listens x law s.station fs s.side c h.0.listens; rises = next_rises x s.side c (length fs) h.0.rises; hears = h.0.hears } in
      (r, nexts_records fs ss cs h.1)

  nexts_ready : (k : ℕ) (ss : List (Seat V M Q R)) (cs : List (Choice Q)) → EachSeat (IsReady x law) ss → EachSeat (IsReady x law) (seats_next x k ss cs)
  nexts_ready k [] cs h = tt
  nexts_ready k (s ∷ ss) [] h = h
  nexts_ready k (s ∷ ss) (c ∷ cs) h = (h.0, nexts_ready k ss cs h.1)

  pub nexts_stations : (k : ℕ) (ss : List (Seat V M Q R)) (cs : List (Choice Q)) → stations_of (seats_next x k ss cs) ≡ stations_of ss
  nexts_stations k [] cs = refl
  nexts_stations k (s ∷ ss) [] = refl
  nexts_stations k (s ∷ ss) (c ∷ cs) = ap (λ l. s.station ∷ l) (nexts_stations k ss cs)

  length-push : (fs : List (Frame M)) (f : Frame M) → suc (length fs) ≡ length (fs ++ f ∷ [])
  length-push fs f = let e = length-append fs (f ∷ []) in omega (arith, e)

  -- behind a frame that came back
  backs_records : (fs : List (Frame M)) (f : Frame M) (ss : List (Seat V M Q R)) (ds : List (Datagram M)) → EachSeat (Records fs) ss → EachSeat (Records (fs ++ f ∷ [])) (seats_back x (length fs) ss ds f.back)
  backs_records fs f [] ds h = tt
  backs_records fs f (s ∷ ss) ds h =
      let ms = all_accepted s.station s.side.halves (grams f.back) in
      let r : Records (fs ++ f ∷ []) (seat_back x (length fs) s ds f.back) = record {
        listens = back_listens x law s.station fs s.side f h.0.listens;
        rises = subst (RisesNow s.side.past (seat_back x (length fs) s ds f.back).side.now) (length-push fs f) (heard_rises x s.side.past s.side.now ms (length fs) h.0.rises);
        hears = ap (λ l. l ++ ms) h.0.hears ∙ ap (λ l. heard s.station fs ++ l) (sym (heard_frame s.station (kept_of s.station fs) s.side.halves f h.0.listens.kept)) ∙ sym (heard-push s.station fs f);
      } in
      (r, backs_records fs f ss (frame_after s.station s.slave ds) h.1)

  -- behind a lost one
  lost_record : (fs : List (Frame M)) (f : Frame M) (s : Seat V M Q R) → f.back ≡ [] → Records fs s → Records (fs ++ f ∷ []) (record s { side = side_lost s.station f.sent s.side })
  lost_record fs f s e h = record {
    listens = lost_listens x law s.station fs s.side f e h.listens;
    rises = subst (RisesNow s.side.past s.side.now) (length-push fs f) (waits_rises x s.side.past s.side.now (length fs) h.rises);
    hears =
        h.hears ∙ sym (append-nil (heard s.station fs))
        ∙ ap (λ l. heard s.station fs ++ l) (sym (heard_frame s.station (kept_of s.station fs) s.side.halves f h.listens.kept ∙ ap (λ ds. all_accepted s.station s.side.halves (grams ds)) e))
        ∙ sym (heard-push s.station fs f);
  }

  losts_records : (fs : List (Frame M)) (f : Frame M) (after : ℕ) (ss : List (Seat V M Q R)) (ds : List (Datagram M)) → f.back ≡ [] → EachSeat (Records fs) ss → EachSeat (Records (fs ++ f ∷ [])) (seats_lost after ss ds f.sent)
  losts_records fs f after [] ds e h = tt
  losts_records fs f zero (s ∷ ss) ds e h = (lost_record fs f s e h.0, losts_records fs f zero ss ds e h.1)
  losts_records fs f (suc k) (s ∷ ss) ds e h =
      let r = lost_record fs f s e h.0 in
      (record { listens = r.listens; rises = r.rises; hears = r.hears }, losts_records fs f k ss (frame_after s.station s.slave ds) e h.1)

  abbrev frame_of : List (Seat V M Q R) → List (Datagram M) → RingFate → Frame M
  frame_of ss ds fate = record { sent = ds; fate = fate; back = ring_back (ring_of ss) ds fate }

  pub afters_records : (fs : List (Frame M)) (ss : List (Seat V M Q R)) (ds : List (Datagram M)) (fate : RingFate) → EachSeat (Records fs) ss → EachSeat (Records (fs ++ frame_of ss ds fate ∷ [])) (seats_after x (length fs) ss ds fate)
  afters_records fs ss ds RingFate.Back h = backs_records fs (frame_of ss ds RingFate.Back) ss ds h
  afters_records fs ss ds (RingFate.Lost after) h = losts_records fs (frame_of ss ds (RingFate.Lost after)) after ss ds refl h

  afters_ready : (k : ℕ) (ss : List (Seat V M Q R)) (ds : List (Datagram M)) (fate : RingFate) → EachSeat (IsReady x law) ss → EachSeat (IsReady x law) (seats_after x k ss ds fate)
  afters_ready k ss ds RingFate.Back h = back ss ds h
    where
      back : (ss' : List (Seat V M Q R)) (ds' : List (Datagram M)) → EachSeat (IsReady x law) ss' → EachSeat (IsReady x law) (seats_back x k ss' ds' (ring_back (ring_of ss) ds RingFate.Back))
      back [] ds' h = tt
      back (s ∷ ss') ds' h = (h.0, back ss' (frame_after s.station s.slave ds') h.1)
  afters_ready k ss ds (RingFate.Lost after) h = lost after ss ds h
    where
      lost : (after : ℕ) (ss' : List (Seat V M Q R)) (ds' : List (Datagram M)) → EachSeat (IsReady x law) ss' → EachSeat (IsReady x law) (seats_lost after ss' ds' ds)
      lost after [] ds' h = tt
      lost zero (s ∷ ss') ds' h = (h.0, lost zero ss' ds' h.1)
      lost (suc k) (s ∷ ss') ds' h = (h.0, lost k ss' (frame_after s.station s.slave ds') h.1)

  pub afters_stations : (k : ℕ) (ss : List (Seat V M Q R)) (ds : List (Datagram M)) (fate : RingFate) → stations_of (seats_after x k ss ds fate) ≡ stations_of ss
  afters_stations k ss ds RingFate.Back = back ss ds
    where
      back : (ss' : List (Seat V M Q R)) (ds' : List (Datagram M)) → stations_of (seats_back x k ss' ds' (ring_back (ring_of ss) ds RingFate.Back)) ≡ stations_of ss'
      back [] ds' = refl
      back (s ∷ ss') ds' = ap (λ l. s.station ∷ l) (back ss' (frame_after s.station s.slave ds'))
  afters_stations k ss ds (RingFate.Lost after) = lost after ss ds
    where
      lost : (after : ℕ) (ss' : List (Seat V M Q R)) (ds' : List (Datagram M)) → stations_of (seats_lost after ss' ds' ds) ≡ stations_of ss'
      lost after [] ds' = refl
      lost zero (s ∷ ss') ds' = ap (λ l. s.station ∷ l) (lost zero ss' ds')
      lost (suc k) (s ∷ ss') ds' = ap (λ l. s.station ∷ l) (lost k ss' (frame_after s.station s.slave ds'))

  -- and behind steps of processors
  pub step_stations : (processor : Processor V) (k : ℕ) (ss : List (Seat V M Q R)) → stations_of (seat_steps_at x processor k ss) ≡ stations_of ss
  step_stations processor k [] = refl
  step_stations processor zero (s ∷ ss) = refl
  step_stations processor (suc k) (s ∷ ss) = ap (λ l. s.station ∷ l) (step_stations processor k ss)

  pub step_records : (processor : Processor V) (fs : List (Frame M)) (k : ℕ) (ss : List (Seat V M Q R)) → EachSeat (Records fs) ss → EachSeat (Records fs) (seat_steps_at x processor k ss)
  step_records processor fs k [] h = tt
  step_records processor fs zero (s ∷ ss) h = (record { listens = h.0.listens; rises = h.0.rises; hears = h.0.hears }, h.1)
  step_records processor fs (suc k) (s ∷ ss) h = (h.0, step_records processor fs k ss h.1)

  step_ready : (processor : Processor V) (k : ℕ) (ss : List (Seat V M Q R)) → EachSeat (IsReady x law) ss → EachSeat (IsReady x law) (seat_steps_at x processor k ss)
  step_ready processor k [] h = tt
  step_ready processor zero (s ∷ ss) h = h
  step_ready processor (suc k) (s ∷ ss) h = (h.0, step_ready processor k ss h.1)

  -- the stations, the agreements and the records, whatever the servers are
  pub record Follows (fs : List (Frame M)) (ss : List (Seat V M Q R)) : Type 0 where
    pub stations : Distinct (stations_of ss)
    pub agrees : EachSeat (SeatAgrees x) ss
    pub records : EachSeat (Records fs) ss

  steps_follow : (processor : Processor V) (fs : List (Frame M)) (ss : List (Seat V M Q R)) (ks : List ℕ) → Follows fs ss → Follows fs (seats_step x processor ss ks)
  steps_follow processor fs ss [] h = h
  steps_follow processor fs ss (k ∷ ks) h = steps_follow processor fs (seat_steps_at x processor k ss) ks (record {
    stations = subst Distinct (sym (step_stations processor k ss)) h.stations;
    agrees = steps_agree x processor k ss h.agrees;
    records = step_records processor fs k ss h.records;
  })

  -- before a frame, and behind it
  pub nexts_follow : (fs : List (Frame M)) (ss : List (Seat V M Q R)) (cs : List (Choice Q)) → Follows fs ss → Follows fs (seats_next x (length fs) ss cs)
  nexts_follow fs ss cs h = record {
    stations = subst Distinct (sym (nexts_stations (length fs) ss cs)) h.stations;
    agrees = nexts_agree x (length fs) ss cs h.agrees;
    records = nexts_records fs ss cs h.records;
  }

  pub afters_follow : (fs : List (Frame M)) (ss : List (Seat V M Q R)) (ds : List (Datagram M)) (fate : RingFate) → Seats.IsFrame ss ds → Follows fs ss → Follows (fs ++ frame_of ss ds fate ∷ []) (seats_after x (length fs) ss ds fate)
  afters_follow fs ss ds fate f h = record {
    stations = subst Distinct (sym (afters_stations (length fs) ss ds fate)) h.stations;
    agrees = frame_agrees x (length fs) ss ds fate h.stations f h.agrees;
    records = afters_records fs ss ds fate h.records;
  }

  pub turn_follows : (processor : Processor V) (w : Session V M Q R) (t : Turn M Q) → Seats.IsFrame (seats_next x (length w.frames) w.seats t.choices) t.move.sent → Follows w.frames w.seats →
      (let z = happens x processor w t in Follows z.frames z.seats)
  turn_follows processor w t f h =
      let next = seats_next x (length w.frames) w.seats t.choices in
      steps_follow processor (w.frames ++ frame_of next t.move.sent t.move.fate ∷ []) (seats_after x (length w.frames) next t.move.sent t.move.fate) t.move.steps
      (afters_follow w.frames next t.move.sent t.move.fate f (nexts_follow w.frames w.seats t.choices h))

  pub run_follows : (processor : Processor V) (w : Session V M Q R) (ts : List (Turn M Q)) → MayRun x processor w ts → Follows w.frames w.seats → (let z = run x processor w ts in Follows z.frames z.seats)
  run_follows processor w [] m h = h
  run_follows processor w (t ∷ ts) m h = run_follows processor (happens x processor w t) ts m.1 (turn_follows processor w t m.0 h)

  -- what a session keeps with servers that take no notice of the AL state
  step_keeps : (processor : Processor V) → IsStill processor → (fs : List (Frame M)) (k : ℕ) (ss : List (Seat V M Q R)) → Keeps fs ss → Keeps fs (seat_steps_at x processor k ss)
  step_keeps processor still fs k ss h = record {
    stations = subst Distinct (sym (step_stations processor k ss)) h.stations;
    ready = step_ready processor k ss h.ready;
    sound = steps_sound x processor still k ss h.sound;
    fitted = steps_fit x law processor k ss h.ready (steps_sound x processor still k ss h.sound) h.fitted;
    records = step_records processor fs k ss h.records;
  }

  steps_keep : (processor : Processor V) → IsStill processor → (fs : List (Frame M)) (ss : List (Seat V M Q R)) (ks : List ℕ) → Keeps fs ss → Keeps fs (seats_step x processor ss ks)
  steps_keep processor still fs ss [] h = h
  steps_keep processor still fs ss (k ∷ ks) h = steps_keep processor still fs (seat_steps_at x processor k ss) ks (step_keeps processor still fs k ss h)

  -- a turn keeps it, and so does each list of turns
  pub turn_keeps : (processor : Processor V) → IsStill processor → (w : Session V M Q R) (t : Turn M Q) → Seats.IsFrame (seats_next x (length w.frames) w.seats t.choices) t.move.sent → Keeps w.frames w.seats →
      (let z = happens x processor w t in Keeps z.frames z.seats)
  turn_keeps processor still w t f h =
      let n = length w.frames in
      let next = seats_next x n w.seats t.choices in
      let stations = subst Distinct (sym (nexts_stations n w.seats t.choices)) h.stations in
      let ready = nexts_ready n w.seats t.choices h.ready in
      let sound = nexts_sound x n w.seats t.choices h.sound in
      let fitted = nexts_fit x law n w.seats t.choices h.ready h.sound h.fitted in
      let after_sound = frame_keeps x n next t.move.sent t.move.fate stations f sound in
      let k : Keeps (w.frames ++ frame_of next t.move.sent t.move.fate ∷ []) (seats_after x n next t.move.sent t.move.fate) = record {
        stations = subst Distinct (sym (afters_stations n next t.move.sent t.move.fate)) stations;
        ready = afters_ready n next t.move.sent t.move.fate ready;
        sound = after_sound;
        fitted = frames_fit x law n next t.move.sent t.move.fate ready after_sound fitted;
        records = afters_records w.frames next t.move.sent t.move.fate (nexts_records w.frames w.seats t.choices h.records);
      } in
      steps_keep processor still (w.frames ++ frame_of next t.move.sent t.move.fate ∷ []) (seats_after x n next t.move.sent t.move.fate) t.move.steps k

  pub run_keeps : (processor : Processor V) → IsStill processor → (w : Session V M Q R) (ts : List (Turn M Q)) → MayRun x processor w ts → Keeps w.frames w.seats → (let z = run x processor w ts in Keeps z.frames z.seats)
  run_keeps processor still w [] m h = h
  run_keeps processor still w (t ∷ ts) m h = run_keeps processor still (happens x processor w t) ts m.1 (turn_keeps processor still w t m.0 h)

  -- a plan's seats keep it
  pub new_stations : (ps : List (Planned V)) → stations_of (new_seats {M = M} {Q = Q} {R = R} ps) ≡ map (λ p. p.station) ps
  new_stations [] = refl
  new_stations (p ∷ ps) = ap (λ l. p.station ∷ l) (new_stations ps)

  new_ready : (ps : List (Planned V)) → AllReady x ps → EachSeat (IsReady x law) (new_seats ps)
  new_ready [] h = tt
  new_ready (p ∷ ps) h = (h.0, new_ready ps h.1)

  new_sounds : (ps : List (Planned V)) → EachSeat (SeatSound x) (new_seats ps)
  new_sounds [] = tt
  new_sounds (p ∷ ps) = (new_sound x p.server, new_sounds ps)

  new_fitted : (ps : List (Planned V)) → EachSeat (Fitted x law) (new_seats ps)
  new_fitted [] = tt
  new_fitted (p ∷ ps) = ((refl, refl), new_fitted ps)

  pub new_records : (opening : List (Frame M)) → IsOpening opening → (ps : List (Planned V)) → EachSeat (Records opening) (new_seats ps)
  new_records opening quiet [] = tt
  new_records opening quiet (p ∷ ps) = (
    record {
      listens = record { kept = sym (ap (λ k. k.heard) (opening_kept p.station opening quiet)); past = tt; now = tt };
      rises = refl;
      hears = sym (opening_heard p.station opening quiet);
    },
    new_records opening quiet ps,
  )

  new_agree : (ps : List (Planned V)) → EachSeat (SeatAgrees x) (new_seats ps)
  new_agree [] = tt
  new_agree (p ∷ ps) = (new_agrees (record { server = p.server; waiting = [] }), new_agree ps)

  pub new_follows : (opening : List (Frame M)) → IsOpening opening → (ps : List (Planned V)) → Distinct (map (λ p. p.station) ps) → Follows opening (new_seats ps)
  new_follows opening quiet ps p = record { stations = subst Distinct (sym (new_stations ps)) p; agrees = new_agree ps; records = new_records opening quiet ps }

  pub new_keeps : (opening : List (Frame M)) → IsOpening opening → (ps : List (Planned V)) → IsPlan x ps → Keeps opening (new_seats ps)
  new_keeps opening quiet ps p = record {
    stations = subst Distinct (sym (new_stations ps)) p.stations;
    ready = new_ready ps p.ready;
    sound = new_sounds ps;
    fitted = new_fitted ps;
    records = new_records opening quiet ps;
  }

  -- the answers by the table of completed services
  first_outcome : (e : List (News M) → Option R) (f : ℕ) (before : List (News M)) (nss : List (List (News M))) → first_end (λ ns. option_map (λ r. Outcome.Replied r) (e ns)) f before nss ≡ as_outcome (first_end e f before nss)
  first_outcome e f before [] = refl
  first_outcome e f before (ns ∷ nss) = go (e (before ++ ns)) (first_outcome e (suc f) (before ++ ns) nss)
    where
      go : (r : Option R) → first_end (λ ns. option_map (λ r. Outcome.Replied r) (e ns)) (suc f) (before ++ ns) nss ≡ as_outcome (first_end e (suc f) (before ++ ns) nss) →
          or_later (option_map (λ r. Outcome.Replied r) r) f (first_end (λ ns. option_map (λ r. Outcome.Replied r) (e ns)) (suc f) (before ++ ns) nss) ≡ as_outcome (or_later r f (first_end e (suc f) (before ++ ns) nss))
      go None h = h
      go (Some r) h = refl

  never : (e : List (News M) → Option R) → ((ns : List (News M)) → e ns ≡ None) → (f : ℕ) (before : List (News M)) (nss : List (List (News M))) → first_end e f before nss ≡ None
  never e n f before [] = refl
  never e n f before (ns ∷ nss) = ap (λ r. or_later r f (first_end e (suc f) (before ++ ns) nss)) (n (before ++ ns)) ∙ never e n (suc f) (before ++ ns) nss

  row_answered : (more : M → Bool) (station : ℕ) (fs : List (Frame M)) (r : Row M Q R) → r.answer ≡ first_reply x law station fs r → IsAnswered x.speech more station fs r
  row_answered more station fs r same = record {
    replied = λ replies.
        ap as_outcome same
        ∙ sym (first_outcome (reply_end x law r.service) r.frame [] (news_from station r.frame fs))
        ∙ ap (λ b. first_end (mails_end x.speech r.service b) r.frame [] (news_from station r.frame fs)) (sym replies);
    handed = λ posts. same ∙ never (reply_end x law r.service) (λ ns. law.unanswered r.service _ posts) r.frame [] (news_from station r.frame fs);
  }

  pub rows_answered : (more : M → Bool) (station : ℕ) (fs : List (Frame M)) (past : List (Row M Q R)) (now : Option (Row M Q R)) → AllClosed x law station fs past → OpenNow x law station fs now → AllAnswered x.speech more station fs (past ++ newest now)
  rows_answered more station fs [] None c o = tt
  rows_answered more station fs [] (Some r) c o = (row_answered more station fs r o.same, tt)
  rows_answered more station fs (r ∷ rs) now c o = (row_answered more station fs r c.0.same, rows_answered more station fs rs now c.1 o)

  -- THE PROMISE, of each seat of a session that keeps all this
  pub each_promised : (more : M → Bool) (fs : List (Frame M)) (ss : List (Seat V M Q R)) → EachSeat (IsReady x law) ss → EachSeat (SeatSound x) ss → EachSeat (Fitted x law) ss → EachSeat (Records fs) ss → EachSeat (SeatPromised x more fs) ss
  each_promised more fs [] r h f k = tt
  each_promised more fs (s ∷ ss) r h f k =
      let one : SeatPromised x more fs s = record {
        answers = rows_answered more s.station fs s.side.past s.side.now k.0.listens.past k.0.listens.now;
        rises = rises_all s.side.past s.side.now (length fs) k.0.rises;
        fits = subst (Fits x s.start (rows_of s.side) s.slave.node.server.server) k.0.hears (seat_fits x law s r.0 h.0 f.0);
      } in
      (one, each_promised more fs ss r.1 h.1 f.1 k.1)
