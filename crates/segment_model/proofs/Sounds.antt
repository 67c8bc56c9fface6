-- Each seat's link stays sound: over a frame, over a choice, over processor steps.
use Rattle.std.proofs.Common.{◌≡◌, ℕ, zero, suc, ◌&&◌, Bool, true, false, Option, Some, None, List, [], ◌∷◌, ◌++◌, refl, ap, sym, ◌∙◌, subst, append-nil, if◌then◌else◌}
use Rattle.exchange_model.specs.Exchange.{Exchange}
use Rattle.exchange_model.specs.Rows.{Row, begun, left}
use Rattle.link_model.specs.Mails.{LinkMail}
use Rattle.link_model.specs.Slave.{Node, node_look, node_take, node_takes, node_offer, node_offers}
use Rattle.link_model.specs.Link.{Link, Fate, Event, run, pdi, changed}
use Rattle.link_model.specs.Agree.{Agrees}
use Rattle.link_model.specs.Frames.{Gram, own, events_of}
use Rattle.link_model.specs.Segment.{RingFate, members_by, Distinct}
use Rattle.link_model.proofs.Outward.{hold_keeps}
use Rattle.link_model.proofs.Law.{happens_keeps, run_keeps}
use Rattle.link_model.proofs.Segments.{frame_is}
use Rattle.segment_model.specs.Slaves.{Serving, serving, Processor, IsStill, state_told, Datagram, grams, frame_after, ring_back}
use Rattle.segment_model.specs.Slaves
use Rattle.segment_model.specs.Seats
use Rattle.segment_model.specs.Laws.{EachSeat}
use Rattle.segment_model.specs.Seats.{Side, Seat, Choice, link_of, ring_of, stations_of, is_over, side_begins, side_holds, next_mail, first_left, seat_next, seats_next, seat_back, seats_back, seats_lost, seats_after, seat_steps, seat_steps_at, IsFrame}
use Rattle.segment_model.proofs.Links.{Sound, step_sound, frame_sound}
use Rattle.segment_model.proofs.Views.{member_of, members, stations-members, frame_for, members-seats_after}

heads : {X : Type 0} (a b : X) (more rest : List X) → a ∷ more ≡ b ∷ rest → (a ≡ b) × (more ≡ rest)
heads a b more rest e = (cc, cc)

module _ {V A M Q R : Type 0} (x : Exchange V A M Q R) where
  abbrev pub SeatSound : Seat V M Q R → Type 0
  SeatSound s = Sound x s.start (link_of s)

  abbrev pub SeatAgrees : Seat V M Q R → Type 0
  SeatAgrees s = Agrees (link_of s)

  -- what holds of a link and stays behind events of its own datagrams
  module _ (P : V → Link M (Serving V M) → Type 0) (stays : (v : V) (fate : Fate) (gs : List (Gram M)) (w : Link M (Serving V M)) → P v w → P v (run (serving x) w (events_of fate gs))) where
    abbrev Of : Seat V M Q R → Type 0
    Of s = P s.start (link_of s)

    one_back : (s t : Seat V M Q R) (fate : Fate) (gs : List (Gram M)) → t.start ≡ s.start → link_of t ≡ run (serving x) (link_of s) (events_of fate gs) → Of s → Of t
    one_back s t fate gs e f h = subst (λ v. P v (link_of t)) (sym e) (subst (P s.start) (sym f) (stays s.start fate gs (link_of s) h))

    walk_back : (frame : ℕ) (ss : List (Seat V M Q R)) (ds back : List (Datagram M)) (gs : List (Gram M)) →
        members (seats_back x frame ss ds back) ≡ members_by (serving x) (members ss) gs RingFate.Back → EachSeat Of ss → EachSeat Of (seats_back x frame ss ds back)
    walk_back frame [] ds back gs e h = tt
    walk_back frame (s ∷ ss) ds back gs e h =
        let t = seat_back x frame s ds back in
        let both = heads (member_of t) (record { station = s.station; link = run (serving x) (link_of s) (events_of Fate.Pass (own s.station gs)) }) _ _ e in
        (one_back s t Fate.Pass (own s.station gs) refl (ap (λ m. m.link) both.0) h.0, walk_back frame ss (frame_after s.station s.slave ds) back gs both.1 h.1)

    walk_lost : (after : ℕ) (ss : List (Seat V M Q R)) (ds sent : List (Datagram M)) (gs : List (Gram M)) →
        members (seats_lost after ss ds sent) ≡ members_by (serving x) (members ss) gs (RingFate.Lost after) → EachSeat Of ss → EachSeat Of (seats_lost after ss ds sent)
    walk_lost after [] ds sent gs e h = tt
    walk_lost zero (s ∷ ss) ds sent gs e h =
        let t = record s { side = Seats.side_lost s.station sent s.side } in
        let both = heads (member_of t) (record { station = s.station; link = run (serving x) (link_of s) (events_of Fate.LostBefore (own s.station gs)) }) _ _ e in
        (one_back s t Fate.LostBefore (own s.station gs) refl (ap (λ m. m.link) both.0) h.0, walk_lost zero ss ds sent gs both.1 h.1)
    walk_lost (suc k) (s ∷ ss) ds sent gs e h =
        let t = record s { side = Seats.side_lost s.station sent s.side; slave = Slaves.slave_after s.station s.slave ds } in
        let both = heads (member_of t) (record { station = s.station; link = run (serving x) (link_of s) (events_of Fate.LostBehind (own s.station gs)) }) _ _ e in
        (one_back s t Fate.LostBehind (own s.station gs) refl (ap (λ m. m.link) both.0) h.0, walk_lost k ss (frame_after s.station s.slave ds) sent gs both.1 h.1)

    -- a frame keeps it of each seat
    pub frames_keep : (frame : ℕ) (ss : List (Seat V M Q R)) (ds : List (Datagram M)) (fate : RingFate) → Distinct (stations_of ss) → IsFrame ss ds → EachSeat Of ss → EachSeat Of (seats_after x frame ss ds fate)
    frames_keep frame ss ds fate d f h =
        let distinct = subst Distinct (sym (stations-members ss)) d in
        let is = members-seats_after x frame ss ds fate ∙ frame_is (serving x) (members ss) (grams ds) fate distinct (frame_for ss ds f) in
        go fate is
      where
        go : (fate : RingFate) → members (seats_after x frame ss ds fate) ≡ members_by (serving x) (members ss) (grams ds) fate → EachSeat Of (seats_after x frame ss ds fate)
        go RingFate.Back e = walk_back frame ss ds (ring_back (ring_of ss) ds RingFate.Back) (grams ds) e h
        go (RingFate.Lost after) e = walk_lost after ss ds ds (grams ds) e h

  -- a frame keeps each link sound, and each agreement, whatever the servers are
  pub frame_keeps : (frame : ℕ) (ss : List (Seat V M Q R)) (ds : List (Datagram M)) (fate : RingFate) → Distinct (stations_of ss) → IsFrame ss ds → EachSeat SeatSound ss → EachSeat SeatSound (seats_after x frame ss ds fate)
  frame_keeps frame ss ds fate d f h = frames_keep (Sound x) (frame_sound x) frame ss ds fate d f h

  pub frame_agrees : (frame : ℕ) (ss : List (Seat V M Q R)) (ds : List (Datagram M)) (fate : RingFate) → Distinct (stations_of ss) → IsFrame ss ds → EachSeat SeatAgrees ss → EachSeat SeatAgrees (seats_after x frame ss ds fate)
  frame_agrees frame ss ds fate d f h = frames_keep (λ v w. Agrees w) (λ v fate gs w a. run_keeps (serving x) w (events_of fate gs) a) frame ss ds fate d f h

  -- a choice: rows that begin leave the halves, and an idle half takes a mail up
  pub began_halves : (frame : ℕ) (d : Side M Q R) (now : Option (Row M Q R)) (begin : Option Q) → (side_begins x.speech frame d now begin).halves ≡ d.halves
  began_halves frame d now None = refl
  began_halves frame d None (Some q) = go (x.speech.valid q)
    where
      go : (b : Bool) → (if b then record d { now = Some (begun q frame) } else d).halves ≡ d.halves
      go true = refl
      go false = refl
  began_halves frame d (Some r) (Some q) = go (x.speech.valid q && is_over x.speech d.halves.out.holding d.fresh r)
    where
      go : (b : Bool) → (if b then record d { past = d.past ++ r ∷ []; now = Some (begun q frame) } else d).halves ≡ d.halves
      go true = refl
      go false = refl

  holds_agrees : (d : Side M Q R) (w : Link M (Serving V M)) (now : Option (Row M Q R)) (holding : Option (LinkMail M)) (hold : Bool) → d.halves.out.holding ≡ holding → w.halves ≡ d.halves → Agrees w →
      Agrees (record w { halves = (side_holds d (next_mail x.speech now holding hold)).halves; held = w.held ++ next_mail x.speech now holding hold })
  holds_agrees d w now holding hold e f a = go now holding hold e
    where
      none : Agrees (record w { halves = d.halves; held = w.held ++ [] })
      none = let n = sym (append-nil w.held) in subst Agrees (λ i. record w { halves = f i; held = n i }) a

      one : (m : M) → d.halves.out.holding ≡ None → Agrees (record w { halves = (side_holds d (m ∷ [])).halves; held = w.held ++ m ∷ [] })
      one m e =
          let b : Agrees (record w { halves = d.halves }) = subst Agrees (λ i. record w { halves = f i }) a in
          record { out = hold_keeps d.halves.out w.node.out w.held w.taken m e b.out; inn = b.inn }

      first : (ms : List M) → d.halves.out.holding ≡ None → Agrees (record w { halves = (side_holds d (first_left ms)).halves; held = w.held ++ first_left ms })
      first [] e = none
      first (m ∷ ms) e = one m e

      go : (now : Option (Row M Q R)) (holding : Option (LinkMail M)) (hold : Bool) → d.halves.out.holding ≡ holding → Agrees (record w { halves = (side_holds d (next_mail x.speech now holding hold)).halves; held = w.held ++ next_mail x.speech now holding hold })
      go now holding false e = none
      go None holding true e = none
      go (Some r) (Some m) true e = none
      go (Some r) None true e = first (left x.speech r) e

  pub next_agrees : (frame : ℕ) (s : Seat V M Q R) (c : Choice Q) → SeatAgrees s → SeatAgrees (seat_next x frame s c)
  next_agrees frame s c h =
      let e = side_begins x.speech frame s.side s.side.now c.begin in
      holds_agrees e (link_of s) e.now e.halves.out.holding c.hold refl (sym (began_halves frame s.side s.side.now c.begin)) h

  pub nexts_agree : (frame : ℕ) (ss : List (Seat V M Q R)) (cs : List (Choice Q)) → EachSeat SeatAgrees ss → EachSeat SeatAgrees (seats_next x frame ss cs)
  nexts_agree frame [] cs h = tt
  nexts_agree frame (s ∷ ss) [] h = h
  nexts_agree frame (s ∷ ss) (c ∷ cs) h = (next_agrees frame s c h.0, nexts_agree frame ss cs h.1)

  next_sound : (frame : ℕ) (s : Seat V M Q R) (c : Choice Q) → SeatSound s → SeatSound (seat_next x frame s c)
  next_sound frame s c h = record { agrees = next_agrees frame s c h.agrees; serves = record { server = h.serves.server; gave = h.serves.gave } }

  pub nexts_sound : (frame : ℕ) (ss : List (Seat V M Q R)) (cs : List (Choice Q)) → EachSeat SeatSound ss → EachSeat SeatSound (seats_next x frame ss cs)
  nexts_sound frame [] cs h = tt
  nexts_sound frame (s ∷ ss) [] h = h
  nexts_sound frame (s ∷ ss) (c ∷ cs) h = (next_sound frame s c h.0, nexts_sound frame ss cs h.1)

  -- a step of the processor keeps the agreement, whatever it tells the server
  pub step_agrees : (processor : Processor V) (s : Seat V M Q R) → SeatAgrees s → SeatAgrees (seat_steps x processor s)
  step_agrees processor s h =
      let state = (processor.carry s.slave.registers).state in
      let tells = λ (v : Serving V M). record v { server = processor.tell state v.server } in
      happens_keeps (serving x) (changed (link_of s) tells) Event.Pdi (happens_keeps (serving x) (link_of s) (Event.Change tells) h)

  pub steps_agree : (processor : Processor V) (k : ℕ) (ss : List (Seat V M Q R)) → EachSeat SeatAgrees ss → EachSeat SeatAgrees (seat_steps_at x processor k ss)
  steps_agree processor k [] h = tt
  steps_agree processor zero (s ∷ ss) h = (step_agrees processor s h.0, h.1)
  steps_agree processor (suc k) (s ∷ ss) h = (h.0, steps_agree processor k ss h.1)

  -- and the fold, where the server takes no notice of the AL state
  pub told_same : (processor : Processor V) → IsStill processor → (state : ℕ) (n : Node M (Serving V M)) → state_told processor state n ≡ n
  told_same processor still state n = λ i. record n { server = record n.server { server = still state n.server.server i } }

  step_link : (processor : Processor V) → IsStill processor → (s : Seat V M Q R) → link_of (seat_steps x processor s) ≡ pdi (serving x) (link_of s)
  step_link processor still s = ap (λ n. (
      let k = node_take (serving x) n in
      record (link_of s) { node = node_offer (serving x) k; taken = s.taken ++ node_takes (serving x) n; offered = s.offered ++ node_offers (serving x) k }))
      (told_same processor still (processor.carry s.slave.registers).state (node_look s.slave.node))

  pub steps_sound : (processor : Processor V) → IsStill processor → (k : ℕ) (ss : List (Seat V M Q R)) → EachSeat SeatSound ss → EachSeat SeatSound (seat_steps_at x processor k ss)
  steps_sound processor still k [] h = tt
  steps_sound processor still zero (s ∷ ss) h = (subst (Sound x s.start) (sym (step_link processor still s)) (step_sound x s.start (link_of s) h.0), h.1)
  steps_sound processor still (suc k) (s ∷ ss) h = (h.0, steps_sound processor still k ss h.1)
