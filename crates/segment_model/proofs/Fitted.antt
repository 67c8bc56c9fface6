-- The rows of each seat fit at every moment.
use Rattle.std.proofs.Common.{◌≡◌, inl, inr, ℕ, zero, suc, ◌+◌, ◌≤◌, ◌&&◌, Bool, true, false, Option, Some, None, option_map, List, [], ◌∷◌, ◌++◌, length, refl, ap, sym, ◌∙◌, subst, arith, append-nil, length-append, if◌then◌else◌}
use Rattle.exchange_model.specs.Prefix.{IsPrefixOf}
use Rattle.exchange_model.specs.Exchange.{Exchange, IsLawful, after, given}
use Rattle.exchange_model.specs.Rows.{Row, Fits, begun, row_heard, row_told, left}
use Rattle.exchange_model.specs.Laws.{Moment}
use Rattle.exchange_model.proofs.Lists.{append_none}
use Rattle.exchange_model.proofs.Moments
use Rattle.link_model.specs.Mails.{LinkMail, news, is_repeat, seen}
use Rattle.link_model.specs.Link.{Link}
use Rattle.link_model.specs.Agree.{Agrees}
use Rattle.link_model.specs.Segment.{RingFate}
use Rattle.segment_model.specs.Slaves.{Serving, Processor, Datagram, frame_after, ring_back}
use Rattle.segment_model.specs.Laws.{EachSeat}
use Rattle.segment_model.specs.Seats.{Side, Seat, Choice, link_of, ring_of, newest, rows_of, is_over, side_begins, side_holds, next_mail, first_left, seat_next, seats_next, seat_back, seats_back, seats_lost, seats_after, seat_steps, seat_steps_at}
use Rattle.segment_model.proofs.Overs.{over_parts}
use Rattle.segment_model.proofs.Links.{Sound, in_order, hears_given}
use Rattle.segment_model.proofs.Sounds.{SeatSound}

-- with an idle half at most one mail is on its way
few_news : {M : Type 0} (last : ℕ) (box : Option (LinkMail M)) → length (news last box) ≤ 1
few_news last None = omega arith
few_news last (Some m) = go (is_repeat last m)
  where
    go : (b : Bool) → length (if b then [] else m.body ∷ []) ≤ 1
    go true = omega arith
    go false = omega arith

pub few : {M S : Type 0} (w : Link M S) → Agrees w → w.halves.out.holding ≡ None → length w.held ≤ length w.taken + 1
few w a idle =
    let box = news w.node.out.last_taken w.node.out.box in
    let stream : w.held ≡ w.taken ++ box = a.out.stream ∙ ap (λ h. w.taken ++ (box ++ news (seen w.node.out.last_taken w.node.out.box) h)) idle ∙ ap (λ l. w.taken ++ l) (append-nil box) in
    let l1 = ap length stream in
    let l2 = length-append w.taken box in
    let l3 = few_news w.node.out.last_taken w.node.out.box in
    omega (arith, l1, l2, l3)

module _ {V A M Q R : Type 0} (x : Exchange V A M Q R) (law : IsLawful x) where
  pub record Newest (v : V) (past : List (Row M Q R)) (r : Row M Q R) (held taken accepted : List M) : Type 0 where
    pub front : List (Row M Q R)
    pub last : List (Row M Q R)
    pub split : past ≡ front ++ last
    pub moment : Moment x v front last r held taken accepted

  abbrev pub NowFits : V → List (Row M Q R) → Option (Row M Q R) → List M → List M → List M → Type 0
  NowFits v past None held taken accepted = (past ≡ []) × (held ≡ [])
  NowFits v past (Some r) held taken accepted = Newest v past r held taken accepted

  abbrev pub Fitted : Seat V M Q R → Type 0
  Fitted s = NowFits s.start s.side.past s.side.now s.held s.taken s.accepted

  pub nothing_taken : (v : V) (w : Link M (Serving V M)) → Sound x v w → w.held ≡ [] → w.taken ≡ []
  nothing_taken v w s none = let p = in_order x v w s in (append_none w.taken p.0 (p.1 ∙ none)).0

  pub nothing_accepted : (v : V) (w : Link M (Serving V M)) → Sound x v w → w.held ≡ [] → w.accepted ≡ []
  nothing_accepted v w s none =
      let p = hears_given x v w s in
      (append_none w.accepted p.0 (p.1 ∙ ap (given x.serve v) (nothing_taken v w s none))).0

  -- a service comes into hand
  pub begins_fit : (v : V) → x.ready v ≡ true → (w : Link M (Serving V M)) → Sound x v w → (frame : ℕ) (d : Side M Q R) (now : Option (Row M Q R)) (begin : Option Q) → d.now ≡ now → d.halves ≡ w.halves →
      NowFits v d.past now w.held w.taken w.accepted → (let e = side_begins x.speech frame d now begin in NowFits v e.past e.now w.held w.taken w.accepted)
  begins_fit v ready w s frame d now begin e f h = go now begin e h
    where
      stays : (now : Option (Row M Q R)) → d.now ≡ now → NowFits v d.past now w.held w.taken w.accepted → NowFits v d.past d.now w.held w.taken w.accepted
      stays now e h = subst (λ n. NowFits v d.past n w.held w.taken w.accepted) (sym e) h

      first : (q : Q) (valid : Bool) → x.speech.valid q ≡ valid → d.now ≡ None → NowFits v d.past None w.held w.taken w.accepted →
          (let t = if valid then record d { now = Some (begun q frame) } else d in NowFits v t.past t.now w.held w.taken w.accepted)
      first q false g e h = stays None e h
      first q true g e h =
          let start = Moments.first x law v ready q frame g in
          let taken = sym (nothing_taken v w s h.1) in
          let accepted = sym (nothing_accepted v w s h.1) in
          let held = sym h.1 in
          record { front = []; last = []; split = h.0; moment = subst (λ l. Moment x v [] [] (begun q frame) w.held w.taken l) accepted (subst (λ l. Moment x v [] [] (begun q frame) w.held l []) taken (subst (λ l. Moment x v [] [] (begun q frame) l [] []) held start)) }

      more : (q : Q) (r : Row M Q R) → x.speech.valid q ≡ true → is_over x.speech d.halves.out.holding d.fresh r ≡ true →
          (front last : List (Row M Q R)) → Moment x v front last r w.held w.taken w.accepted → Moment x v (front ++ last) (r ∷ []) (begun q frame) w.held w.taken w.accepted
      more q r g o front last at =
          let parts = over_parts x d.halves.out.holding d.fresh r o in
          elim parts.1 [
            | inl h ↦ Moments.handed x law v ready front last r w.held w.taken w.accepted at h.0 parts.0 (few w s.agrees (ap (λ k. k.out.holding) (sym f) ∙ h.1)) q frame g
            | inr a ↦ Moments.answered x law v ready front last r w.held w.taken w.accepted at a.0.0 a.0.1 parts.0 q frame g
          ]

      next : (q : Q) (r : Row M Q R) → d.now ≡ Some r → NowFits v d.past (Some r) w.held w.taken w.accepted → (valid over : Bool) → x.speech.valid q ≡ valid → is_over x.speech d.halves.out.holding d.fresh r ≡ over →
          (let t = if valid && over then record d { past = d.past ++ r ∷ []; now = Some (begun q frame) } else d in NowFits v t.past t.now w.held w.taken w.accepted)
      next q r e h false over g o = stays (Some r) e h
      next q r e h true false g o = stays (Some r) e h
      next q r e h true true g o =
          let at = more q r g o h.front h.last h.moment in
          record { front = h.front ++ h.last; last = r ∷ []; split = ap (λ l. l ++ r ∷ []) h.split; moment = at }

      go : (now : Option (Row M Q R)) (begin : Option Q) → d.now ≡ now → NowFits v d.past now w.held w.taken w.accepted → (let e = side_begins x.speech frame d now begin in NowFits v e.past e.now w.held w.taken w.accepted)
      go now None e h = stays now e h
      go None (Some q) e h = first q (x.speech.valid q) refl e h
      go (Some r) (Some q) e h = next q r e h (x.speech.valid q) (is_over x.speech d.halves.out.holding d.fresh r) refl refl

  -- the next mail is taken up
  holds_fit : (v : V) → x.ready v ≡ true → (d : Side M Q R) (held taken accepted : List M) (holding : Option (LinkMail M)) (hold : Bool) →
      NowFits v d.past d.now held taken accepted → (let ms = next_mail x.speech d.now holding hold in let e = side_holds d ms in NowFits v e.past e.now (held ++ ms) taken accepted)
  holds_fit v ready d held taken accepted holding hold h = go d.now holding hold refl
    where
      same : NowFits v d.past d.now (held ++ []) taken accepted
      same = subst (λ l. NowFits v d.past d.now l taken accepted) (sym (append-nil held)) h

      one : (r : Row M Q R) (m : M) (more : List M) → d.now ≡ Some r → left x.speech r ≡ m ∷ more → NowFits v d.past (option_map (λ r. row_told m r) d.now) (held ++ m ∷ []) taken accepted
      one r m more e f =
          let k : NowFits v d.past (Some r) held taken accepted = subst (λ n. NowFits v d.past n held taken accepted) e h in
          let at = Moments.holds x law v ready k.front k.last r held taken accepted k.moment m more f in
          subst (λ n. NowFits v d.past (option_map (λ r. row_told m r) n) (held ++ m ∷ []) taken accepted) (sym e) (record { front = k.front; last = k.last; split = k.split; moment = at })

      first : (r : Row M Q R) (ms : List M) → d.now ≡ Some r → left x.speech r ≡ ms → (let e = side_holds d (first_left ms) in NowFits v e.past e.now (held ++ first_left ms) taken accepted)
      first r [] e f = same
      first r (m ∷ ms) e f = one r m ms e f

      go : (now : Option (Row M Q R)) (holding : Option (LinkMail M)) (hold : Bool) → d.now ≡ now → (let ms = next_mail x.speech now holding hold in let e = side_holds d ms in NowFits v e.past e.now (held ++ ms) taken accepted)
      go now holding false e = same
      go None holding true e = same
      go (Some r) (Some m) true e = same
      go (Some r) None true e = first r (left x.speech r) e refl

  next_fits : (frame : ℕ) (s : Seat V M Q R) (c : Choice Q) → x.ready s.start ≡ true → SeatSound x s → Fitted s → Fitted (seat_next x frame s c)
  next_fits frame s c ready h f =
      let e = side_begins x.speech frame s.side s.side.now c.begin in
      holds_fit s.start ready e s.held s.taken s.accepted e.halves.out.holding c.hold (begins_fit s.start ready (link_of s) h frame s.side s.side.now c.begin refl refl f)

  -- mails are heard
  hears_fit : (v : V) → x.ready v ≡ true → (past : List (Row M Q R)) (now : Option (Row M Q R)) (held taken accepted ms : List M) (frame : ℕ) → IsPrefixOf (accepted ++ ms) (given x.serve v taken) →
      NowFits v past now held taken accepted → NowFits v past (option_map (λ r. row_heard x.speech frame ms r) now) held taken (accepted ++ ms)
  hears_fit v ready past None held taken accepted ms frame p h = h
  hears_fit v ready past (Some r) held taken accepted ms frame p h =
      record { front = h.front; last = h.last; split = h.split; moment = Moments.hears x law v ready h.front h.last r held taken accepted h.moment ms frame p }

  -- mails are taken
  takes_fit : (v : V) → x.ready v ≡ true → (past : List (Row M Q R)) (now : Option (Row M Q R)) (held taken accepted ms : List M) → IsPrefixOf (taken ++ ms) held →
      NowFits v past now held taken accepted → NowFits v past now held (taken ++ ms) accepted
  takes_fit v ready past None held taken accepted ms p h = h
  takes_fit v ready past (Some r) held taken accepted ms p h =
      record { front = h.front; last = h.last; split = h.split; moment = Moments.takes x law v ready h.front h.last r held taken accepted h.moment ms p }

  abbrev pub IsReady : Seat V M Q R → Type 0
  IsReady s = x.ready s.start ≡ true

  pub nexts_fit : (frame : ℕ) (ss : List (Seat V M Q R)) (cs : List (Choice Q)) → EachSeat IsReady ss → EachSeat (SeatSound x) ss → EachSeat Fitted ss → EachSeat Fitted (seats_next x frame ss cs)
  nexts_fit frame [] cs r h f = tt
  nexts_fit frame (s ∷ ss) [] r h f = f
  nexts_fit frame (s ∷ ss) (c ∷ cs) r h f = (next_fits frame s c r.0 h.0 f.0, nexts_fit frame ss cs r.1 h.1 f.1)

  backs_fit : (frame : ℕ) (ss : List (Seat V M Q R)) (ds back : List (Datagram M)) → EachSeat IsReady ss → EachSeat (SeatSound x) (seats_back x frame ss ds back) → EachSeat Fitted ss → EachSeat Fitted (seats_back x frame ss ds back)
  backs_fit frame [] ds back r h f = tt
  backs_fit frame (s ∷ ss) ds back r h f =
      let t = seat_back x frame s ds back in
      (hears_fit s.start r.0 s.side.past s.side.now s.held s.taken s.accepted _ frame (hears_given x s.start (link_of t) h.0) f.0, backs_fit frame ss (frame_after s.station s.slave ds) back r.1 h.1 f.1)

  lost_fit : (after : ℕ) (ss : List (Seat V M Q R)) (ds sent : List (Datagram M)) → EachSeat Fitted ss → EachSeat Fitted (seats_lost after ss ds sent)
  lost_fit after [] ds sent f = tt
  lost_fit zero (s ∷ ss) ds sent f = (f.0, lost_fit zero ss ds sent f.1)
  lost_fit (suc k) (s ∷ ss) ds sent f = (f.0, lost_fit k ss (frame_after s.station s.slave ds) sent f.1)

  pub frames_fit : (frame : ℕ) (ss : List (Seat V M Q R)) (ds : List (Datagram M)) (fate : RingFate) → EachSeat IsReady ss → EachSeat (SeatSound x) (seats_after x frame ss ds fate) → EachSeat Fitted ss → EachSeat Fitted (seats_after x frame ss ds fate)
  frames_fit frame ss ds RingFate.Back r h f = backs_fit frame ss ds (ring_back (ring_of ss) ds RingFate.Back) r h f
  frames_fit frame ss ds (RingFate.Lost after) r h f = lost_fit after ss ds ds f

  pub steps_fit : (processor : Processor V) (k : ℕ) (ss : List (Seat V M Q R)) → EachSeat IsReady ss → EachSeat (SeatSound x) (seat_steps_at x processor k ss) → EachSeat Fitted ss → EachSeat Fitted (seat_steps_at x processor k ss)
  steps_fit processor k [] r h f = tt
  steps_fit processor zero (s ∷ ss) r h f =
      let t = seat_steps x processor s in
      (takes_fit s.start r.0 s.side.past s.side.now s.held s.taken s.accepted _ (in_order x s.start (link_of t) h.0) f.0, f.1)
  steps_fit processor (suc k) (s ∷ ss) r h f = (f.0, steps_fit processor k ss r.1 h.1 f.1)

  -- so the rows of each seat fit
  pub seat_fits : (s : Seat V M Q R) → IsReady s → SeatSound x s → Fitted s → Fits x s.start (rows_of s.side) s.slave.node.server.server s.accepted
  seat_fits s r h f = go s.side.now f
    where
      served : after x.serve s.start s.taken ≡ s.slave.node.server.server
      served = sym h.serves.server

      go : (now : Option (Row M Q R)) → NowFits s.start s.side.past now s.held s.taken s.accepted → Fits x s.start (s.side.past ++ newest now) s.slave.node.server.server s.accepted
      go None k =
          let taken = nothing_taken s.start (link_of s) h k.1 in
          let accepted = nothing_accepted s.start (link_of s) h k.1 in
          let start : s.start ≡ s.slave.node.server.server = sym (ap (after x.serve s.start) taken) ∙ served in
          let new : Fits x s.start [] s.start [] = record { count = 0; handled = omega arith; app = refl; prefix = omega arith; behind = omega arith; in_done = tt; replied = tt; emissions = ([], refl) } in
          subst (λ rs. Fits x s.start rs s.slave.node.server.server s.accepted) (sym (ap (λ l. l ++ []) k.0))
          (subst (λ l. Fits x s.start [] s.slave.node.server.server l) (sym accepted) (subst (λ w. Fits x s.start [] w []) start new))
      go (Some r') k =
          let all = Moments.fits x law s.start r k.front k.last r' s.held s.taken s.accepted k.moment in
          subst (λ w. Fits x s.start (s.side.past ++ r' ∷ []) w s.accepted) served (subst (λ l. Fits x s.start (l ++ r' ∷ []) (after x.serve s.start s.taken) s.accepted) (sym k.split) all)
