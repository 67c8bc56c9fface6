-- What the record says of services that end with their last write, turn by turn of a session.
use Rattle.std.proofs.Common.{◌≡◌, ℕ, zero, suc, Bool, true, false, Option, None, Some, List, [], ◌∷◌, ◌++◌, length, refl, sym, ap}
use Rattle.std.specs.Prelude.{⊤}
use Rattle.exchange_model.specs.Exchange.{Exchange, IsLawful}
use Rattle.link_model.specs.Frames.{IsFrameFor}
use Rattle.link_model.specs.Segment.{RingFate}
use Rattle.segment_model.specs.Slaves.{Processor, IsStill, Datagram, grams, frame_after, ring_back}
use Rattle.segment_model.specs.Record.{Frame, all_told, told_behind}
use Rattle.segment_model.specs.Laws.{EachSeat, SeatPromised, HandedBy, KnowsCounters}
use Rattle.exchange_model.specs.Rows.{Row}
use Rattle.segment_model.proofs.Rising.{RisesNow}
use Rattle.segment_model.specs.Seats
use Rattle.segment_model.specs.Seats.{Side, Seat, side_back, side_lost, Choice, Turn, Session, Planned, IsPlan, link_of, ring_of, seats_next, seats_back, seats_lost, seats_after, seat_steps_at, seats_step, writes, happens, run, MayRun, new_session, new_seats, IsOpening}
use Rattle.segment_model.proofs.Answers
use Rattle.segment_model.proofs.Openings.{opening_kept}
use Rattle.segment_model.proofs.Written.{Tells, frame_tells}
use Rattle.segment_model.proofs.Sounds.{SeatSound}
use Rattle.segment_model.proofs.Fitted.{Fitted, IsReady, begins_fit}
use Rattle.segment_model.proofs.Kept.{Records, Keeps, turn_keeps, new_keeps}
use Rattle.link_model.specs.Mails.{LinkMail}
use Rattle.segment_model.proofs.Posts.{writes-all_back, KeptOut, IsKnown}
use Rattle.segment_model.proofs.Handed.{Posts, KeptSide, NowFacts, facts_of, next_out, back_out, lost_out, next_posts, back_posts, lost_posts, BegunBy, handed_by}

module _ {V A M Q R : Type 0} (x : Exchange V A M Q R) (law : IsLawful x) where
  abbrev pub SeatPosts : List (Frame M) → Seat V M Q R → Type 0
  SeatPosts fs s = Posts x law s.station fs s.side

  -- what is known of the newest rows, before and behind the services that come into hand
  abbrev pub BeginFacts : ℕ → List (Seat V M Q R) → List (Choice Q) → Type 0
  BeginFacts k [] cs = ⊤
  BeginFacts k (s ∷ ss) [] = ⊤
  BeginFacts k (s ∷ ss) (c ∷ cs) =
      (NowFacts x law s.side.past s.side.now × (let e = Seats.side_begins x.speech k s.side s.side.now c.begin in NowFacts x law e.past e.now)) × BeginFacts k ss cs

  fitted_facts : (k : ℕ) (ss : List (Seat V M Q R)) (cs : List (Choice Q)) → EachSeat (IsReady x law) ss → EachSeat (SeatSound x) ss → EachSeat (Fitted x law) ss → BeginFacts k ss cs
  fitted_facts k [] cs r h f = tt
  fitted_facts k (s ∷ ss) [] r h f = tt
  fitted_facts k (s ∷ ss) (c ∷ cs) r h f =
      let e = Seats.side_begins x.speech k s.side s.side.now c.begin in
      let fits = begins_fit x law s.start r.0 (link_of s) h.0 k s.side s.side.now c.begin refl refl f.0 in
      ((facts_of x law s.start r.0 s.side.past s.side.now s.held s.taken s.accepted f.0, facts_of x law s.start r.0 e.past e.now s.held s.taken s.accepted fits), fitted_facts k ss cs r.1 h.1 f.1)

  pub nexts_posts : (fs : List (Frame M)) (ss : List (Seat V M Q R)) (cs : List (Choice Q)) → BeginFacts (length fs) ss cs → EachSeat (SeatPosts fs) ss → EachSeat (SeatPosts fs) (seats_next x (length fs) ss cs)
  nexts_posts fs [] cs f p = tt
  nexts_posts fs (s ∷ ss) [] f p = p
  nexts_posts fs (s ∷ ss) (c ∷ cs) f p = (next_posts x law s.station fs s.side c f.0.0 f.0.1 p.0, nexts_posts fs ss cs f.1 p.1)

  -- what a frame tells of a side's outward half
  abbrev TellsOf : ℕ → List (Frame M) → Frame M → Side M Q R → Type 0
  TellsOf station fs f d = (let kept = (Answers.kept_of station fs).told in Tells kept d.halves.out.holding (writes station (grams f.sent)) (all_told station kept (grams f.sent)) (told_behind station kept (grams f.sent)))

  -- what frames keep of each side
  module _ (P : ℕ → List (Frame M) → Side M Q R → Type 0)
      (back : (station : ℕ) (fs : List (Frame M)) (f : Frame M) (d : Side M Q R) → writes station (grams f.back) ≡ writes station (grams f.sent) → TellsOf station fs f d → P station fs d → P station (fs ++ f ∷ []) (side_back x.speech (length fs) station f.back d))
      (lost : (station : ℕ) (fs : List (Frame M)) (f : Frame M) (d : Side M Q R) → f.back ≡ [] → TellsOf station fs f d → P station fs d → P station (fs ++ f ∷ []) (side_lost station f.sent d)) where
    abbrev Of : List (Frame M) → Seat V M Q R → Type 0
    Of fs s = P s.station fs s.side

    tells_of : (fs : List (Frame M)) (f : Frame M) (s : Seat V M Q R) → IsFrameFor s.station s.side.halves (grams f.sent) → TellsOf s.station fs f s.side
    tells_of fs f s i = frame_tells s.station (Answers.kept_of s.station fs).told s.side.halves (grams f.sent) i

    backs_keep : (fs : List (Frame M)) (f : Frame M) (ss : List (Seat V M Q R)) (ds : List (Datagram M)) → ((station : ℕ) → writes station (grams f.back) ≡ writes station (grams f.sent)) → Seats.IsFrame ss f.sent →
        EachSeat (Of fs) ss → EachSeat (Of (fs ++ f ∷ [])) (seats_back x (length fs) ss ds f.back)
    backs_keep fs f [] ds e i p = tt
    backs_keep fs f (s ∷ ss) ds e i p = (back s.station fs f s.side (e s.station) (tells_of fs f s i.0) p.0, backs_keep fs f ss (frame_after s.station s.slave ds) e i.1 p.1)

    losts_keep : (fs : List (Frame M)) (f : Frame M) (after : ℕ) (ss : List (Seat V M Q R)) (ds : List (Datagram M)) → f.back ≡ [] → Seats.IsFrame ss f.sent →
        EachSeat (Of fs) ss → EachSeat (Of (fs ++ f ∷ [])) (seats_lost after ss ds f.sent)
    losts_keep fs f after [] ds e i p = tt
    losts_keep fs f zero (s ∷ ss) ds e i p = (lost s.station fs f s.side e (tells_of fs f s i.0) p.0, losts_keep fs f zero ss ds e i.1 p.1)
    losts_keep fs f (suc k) (s ∷ ss) ds e i p = (lost s.station fs f s.side e (tells_of fs f s i.0) p.0, losts_keep fs f k ss (frame_after s.station s.slave ds) e i.1 p.1)

    afters_keep : (fs : List (Frame M)) (ss : List (Seat V M Q R)) (ds : List (Datagram M)) (fate : RingFate) → Seats.IsFrame ss ds → EachSeat (Of fs) ss →
        EachSeat (Of (fs ++ record { sent = ds; fate = fate; back = ring_back (ring_of ss) ds fate } ∷ [])) (seats_after x (length fs) ss ds fate)
    afters_keep fs ss ds RingFate.Back i p = backs_keep fs (record { sent = ds; fate = RingFate.Back; back = ring_back (ring_of ss) ds RingFate.Back }) ss ds (λ station. writes-all_back station (ring_of ss) ds) i p
    afters_keep fs ss ds (RingFate.Lost after) i p = losts_keep fs (record { sent = ds; fate = RingFate.Lost after; back = [] }) after ss ds refl i p

    step_keeps : (processor : Processor V) (fs : List (Frame M)) (k : ℕ) (ss : List (Seat V M Q R)) → EachSeat (Of fs) ss → EachSeat (Of fs) (seat_steps_at x processor k ss)
    step_keeps processor fs k [] p = tt
    step_keeps processor fs zero (s ∷ ss) p = p
    step_keeps processor fs (suc k) (s ∷ ss) p = (p.0, step_keeps processor fs k ss p.1)

    steps_keep : (processor : Processor V) (fs : List (Frame M)) (ss : List (Seat V M Q R)) (ks : List ℕ) → EachSeat (Of fs) ss → EachSeat (Of fs) (seats_step x processor ss ks)
    steps_keep processor fs ss [] p = p
    steps_keep processor fs ss (k ∷ ks) p = steps_keep processor fs (seat_steps_at x processor k ss) ks (step_keeps processor fs k ss p)

    -- a turn keeps it, where the master's choices do
    turn_keeps_each : (processor : Processor V) (w : Session V M Q R) (t : Turn M Q) → Seats.IsFrame (seats_next x (length w.frames) w.seats t.choices) t.move.sent → EachSeat (Of w.frames) (seats_next x (length w.frames) w.seats t.choices) →
        (let z = happens x processor w t in EachSeat (Of z.frames) z.seats)
    turn_keeps_each processor w t m p =
        let next = seats_next x (length w.frames) w.seats t.choices in
        let f : Frame M = record { sent = t.move.sent; fate = t.move.fate; back = ring_back (ring_of next) t.move.sent t.move.fate } in
        steps_keep processor (w.frames ++ f ∷ []) (seats_after x (length w.frames) next t.move.sent t.move.fate) t.move.steps (afters_keep w.frames next t.move.sent t.move.fate m p)

  -- a turn keeps them, whatever the servers are
  pub turn_posts : (processor : Processor V) (w : Session V M Q R) (t : Turn M Q) → Seats.IsFrame (seats_next x (length w.frames) w.seats t.choices) t.move.sent → BeginFacts (length w.frames) w.seats t.choices →
      EachSeat (SeatPosts w.frames) w.seats → (let z = happens x processor w t in EachSeat (SeatPosts z.frames) z.seats)
  turn_posts processor w t m f p = turn_keeps_each (Posts x law) (back_posts x law) (lost_posts x law) processor w t m (nexts_posts w.frames w.seats t.choices f p)

  run_posts : (processor : Processor V) → IsStill processor → (w : Session V M Q R) (ts : List (Turn M Q)) → MayRun x processor w ts → Keeps x law w.frames w.seats → EachSeat (SeatPosts w.frames) w.seats →
      (let z = run x processor w ts in EachSeat (SeatPosts z.frames) z.seats)
  run_posts processor still w [] m h p = p
  run_posts processor still w (t ∷ ts) m h p =
      run_posts processor still (happens x processor w t) ts m.1 (turn_keeps x law processor still w t m.0 h) (turn_posts processor w t m.0 (fitted_facts (length w.frames) w.seats t.choices h.ready h.sound h.fitted) p)

  -- the counters of the outward halves, whatever the servers are
  abbrev pub SeatOut : List (Frame M) → Seat V M Q R → Type 0
  SeatOut fs s = KeptSide x law s.station fs s.side

  pub new_out : (opening : List (Frame M)) → IsOpening opening → (ps : List (Planned V)) → EachSeat (SeatOut opening) (new_seats ps)
  new_out opening quiet [] = tt
  new_out opening quiet (p ∷ ps) = (record { last_is = sym (ap (λ k. k.told) (opening_kept p.station opening quiet)); again = λ m e. absurd (cc) }, new_out opening quiet ps)

  pub new_posts : (opening : List (Frame M)) → IsOpening opening → (ps : List (Planned V)) → EachSeat (SeatPosts opening) (new_seats ps)
  new_posts opening quiet [] = tt
  new_posts opening quiet (p ∷ ps) = (record { out = (new_out opening quiet (p ∷ ps)).0; past = tt; now = refl }, new_posts opening quiet ps)

  pub session_posts : (opening : List (Frame M)) → IsOpening opening → (processor : Processor V) → IsStill processor → (ps : List (Planned V)) → IsPlan x ps → (ts : List (Turn M Q)) → MayRun x processor (new_session opening ps) ts → (let w = run x processor (new_session opening ps) ts in EachSeat (SeatPosts w.frames) w.seats)
  session_posts opening quiet processor still ps p ts m = run_posts processor still (new_session opening ps) ts m (new_keeps x law opening quiet ps p) (new_posts opening quiet ps)

  pub each_handed : (more : M → Bool) (fs : List (Frame M)) (ss : List (Seat V M Q R)) → EachSeat (λ s. NowFacts x law s.side.past s.side.now) ss → EachSeat (Records x law fs) ss → EachSeat (SeatPromised x more fs) ss → EachSeat (SeatPosts fs) ss →
      EachSeat (λ s. HandedBy x more fs s.station s.start s.side s.slave) ss
  each_handed more fs [] f k a p = tt
  each_handed more fs (s ∷ ss) f k a p =
      (handed_by x law more s.station fs s.start s.side s.slave a.0.answers a.0.rises (begun s.side.now k.0.rises) f.0 p.0, each_handed more fs ss f.1 k.1 a.1 p.1)
    where
      begun : (now : Option (Row M Q R)) → RisesNow s.side.past now (length fs) → BegunBy x law fs now
      begun None h = tt
      begun (Some r) h = h.frame

  pub each_facts : (ss : List (Seat V M Q R)) → EachSeat (IsReady x law) ss → EachSeat (Fitted x law) ss → EachSeat (λ s. NowFacts x law s.side.past s.side.now) ss
  each_facts [] r f = tt
  each_facts (s ∷ ss) r f = (facts_of x law s.start r.0 s.side.past s.side.now s.held s.taken s.accepted f.0, each_facts ss r.1 f.1)

  nexts_out : (fs : List (Frame M)) (ss : List (Seat V M Q R)) (cs : List (Choice Q)) → EachSeat (SeatOut fs) ss → EachSeat (SeatOut fs) (seats_next x (length fs) ss cs)
  nexts_out fs [] cs p = tt
  nexts_out fs (s ∷ ss) [] p = p
  nexts_out fs (s ∷ ss) (c ∷ cs) p = (next_out x law s.station fs s.side c p.0, nexts_out fs ss cs p.1)

  pub turn_out : (processor : Processor V) (w : Session V M Q R) (t : Turn M Q) → Seats.IsFrame (seats_next x (length w.frames) w.seats t.choices) t.move.sent → EachSeat (SeatOut w.frames) w.seats →
      (let z = happens x processor w t in EachSeat (SeatOut z.frames) z.seats)
  turn_out processor w t m p = turn_keeps_each (KeptSide x law) (back_out x law) (lost_out x law) processor w t m (nexts_out w.frames w.seats t.choices p)

  pub run_out : (processor : Processor V) (w : Session V M Q R) (ts : List (Turn M Q)) → MayRun x processor w ts → EachSeat (SeatOut w.frames) w.seats → (let z = run x processor w ts in EachSeat (SeatOut z.frames) z.seats)
  run_out processor w [] m p = p
  run_out processor w (t ∷ ts) m p = run_out processor (happens x processor w t) ts m.1 (turn_out processor w t m.0 p)

  known : (fresh : Bool) (holding : Option (LinkMail M)) (last kept : ℕ) → KeptOut fresh holding last kept → fresh ≡ false → last ≡ kept
  known true holding last kept k e = absurd (let bad : true ≡ false = e in cc)
  known false holding last kept k e = let f : IsKnown holding last kept = k in f.last_is

  pub each_counted : (fs : List (Frame M)) (ss : List (Seat V M Q R)) → EachSeat (Records x law fs) ss → EachSeat (SeatOut fs) ss → EachSeat (λ s. KnowsCounters fs s.station s.start s.side s.slave) ss
  each_counted fs [] k p = tt
  each_counted fs (s ∷ ss) k p = (record { heard = k.0.listens.kept; told = known s.side.fresh s.side.halves.out.holding s.side.halves.out.last (Answers.kept_of s.station fs).told p.0 }, each_counted fs ss k.1 p.1)
