-- A mail that was taken up and not yet sent is not in its slave.
use Rattle.std.proofs.Common.{◌≡◌, ℕ, zero, suc, ◌==◌, ◌&&◌, ◌||◌, Bool, true, false, not, Option, Some, None, List, [], ◌∷◌, ◌++◌, refl, sym, ap, ◌∙◌, subst, arith, if◌then◌else◌, eqb-true}
use Rattle.std.proofs.lemmas.Bool.Decides.{nat_tests}
use Rattle.protocol_models.specs.of_exchange_model.Exchange.{Exchange}
use Rattle.protocol_models.specs.of_exchange_model.Rows.{Row, begun, left}
use Rattle.link_mails.specs.of_link_model.Agree.{OutAgree}
use Rattle.link_mails.specs.of_link_model.Counters.{next_counter}
use Rattle.link_mails.specs.of_link_model.Frames.{Ask, Gram, node_meets, node_after, halves_answered, halves_after}
use Rattle.link_mails.specs.of_link_model.Link.{Halves}
use Rattle.link_mails.specs.of_link_model.Mails.{LinkMail, is_repeat, news, seen}
use Rattle.link_mails.specs.of_link_model.Master.{OutHalf, out_hold}
use Rattle.link_mails.specs.of_link_model.Segment.{RingFate}
use Rattle.link_mails.specs.of_link_model.Slave.{Node, OutSide, served, is_free, node_look}
use Rattle.life_model.specs.of_segment_model.Seats.{Side, Seat, Choice, Turn, is_write, writes, is_over, side_begins, side_holds, side_lost, next_mail, first_left, ring_of, seat_next, seats_next, seat_back, seats_after, seat_steps, seat_steps_at, seats_step, IsFrame}
use Rattle.life_model.specs.of_segment_model.Slaves.{Serving, serving, Processor, Datagram, Slave, grams, slave_after, all_back, state_told}
use Rattle.life_model.proofs.of_segment_model.Posts.{writes-all_back}
use Rattle.life_model.proofs.of_segment_model.Sounds.{SeatAgrees, began_halves, next_agrees, frame_agrees, steps_agree}
use Rattle.life_model.proofs.of_segment_model.Views.{node-slave_after}
use Rattle.life_model.proofs.of_segment_model.Written.{losts_out}

-- the mail held is news to the slave
pub record IsNew {M : Type 0} (o : OutSide M) (holding : Option (LinkMail M)) : Type 0 where
  pub mail : LinkMail M
  pub holds : holding ≡ Some mail
  pub new : news (seen o.last_taken o.box) holding ≡ mail.body ∷ []

-- ---- COUNTERS
not_same : (k : ℕ) → (next_counter k == k) ≡ false
not_same k = grind (arith, nat_tests)

news_next : {M : Type 0} (kept : ℕ) (m : LinkMail M) → m.counter ≡ next_counter kept → news kept (Some m) ≡ m.body ∷ []
news_next {M} kept m e = go (m.counter == 0) (m.counter == kept) (ap (λ c. c == kept) e ∙ not_same kept)
  where
    go : (z l : Bool) → l ≡ false → (if not z && l then [] else m.body ∷ []) ≡ m.body ∷ []
    go true l f = refl
    go false false f = refl
    go false true f = absurd (let bad : true ≡ false = f in cc)

-- an idle half takes up a mail that the slave hasn't seen
held_new : {M : Type 0} (h : OutHalf M) (o : OutSide M) (held taken : List M) (body : M) → h.holding ≡ None → OutAgree h o held taken → IsNew o (out_hold h body).holding
held_new h o held taken body none a =
    let m : LinkMail _ = record { counter = next_counter h.last; body = body } in
    let last : h.last ≡ seen o.last_taken o.box = a.last ∙ ap (seen (seen o.last_taken o.box)) none in
    record { mail = m; holds = refl; new = news_next (seen o.last_taken o.box) m (ap next_counter last) }

-- a step of the processor sees no mail but that in mailbox 0
and_parts : (a b : Bool) → (a && b) ≡ true → b ≡ true
and_parts true b e = e
and_parts false b e = absurd (cc)

served_seen : {M : Type 0} (o : OutSide M) (box : Option (LinkMail M)) (free : Bool) → o.box ≡ box → seen (served o box free).last_taken (served o box free).box ≡ seen o.last_taken box
served_seen o None free e = ap (seen o.last_taken) e
served_seen {M} o (Some m) free e = go (is_repeat o.last_taken m) refl free
  where
    go : (r : Bool) → is_repeat o.last_taken m ≡ r → (f : Bool) →
        (let s = if r then record o { box = None } else if f then record { box = None; last_taken = m.counter } else o in seen s.last_taken s.box) ≡ m.counter
    go true q f = sym (eqb-true m.counter o.last_taken (and_parts (not (m.counter == 0)) (m.counter == o.last_taken) q))
    go false q true = refl
    go false q false = ap (seen o.last_taken) e

-- ---- A FRAME WITHOUT A WRITE
node_out : {M S : Type 0} (n : Node M S) (ask : Ask M) → is_write ask ≡ false → (node_meets n ask).out ≡ n.out
node_out n (Ask.WriteMail m) e = absurd (let bad : true ≡ false = e in cc)
node_out n Ask.ReadMail e = refl
node_out n (Ask.WriteRequest bit) e = refl
node_out n Ask.ReadAcknowledge e = refl
node_out n Ask.Other e = refl

halves_out : {M : Type 0} (h : Halves M) (ask : Ask M) (g : Gram M) → is_write ask ≡ false → (halves_answered h ask g).out ≡ h.out
halves_out h (Ask.WriteMail m) g e = absurd (let bad : true ≡ false = e in cc)
halves_out h Ask.ReadMail g e = refl
halves_out h (Ask.WriteRequest bit) g e = refl
halves_out h Ask.ReadAcknowledge g e = refl
halves_out h Ask.Other g e = refl

or_parts : (a b : Bool) → (a || b) ≡ false → (a ≡ false) × (b ≡ false)
or_parts false b e = (refl, e)
or_parts true b e = absurd (cc)

nodes_out : {M S : Type 0} (station : ℕ) (n : Node M S) (gs : List (Gram M)) → writes station gs ≡ false → (node_after station n gs).out ≡ n.out
nodes_out station n [] e = refl
nodes_out {M} {S} station n (g ∷ gs) e = go (g.station == station) e (λ k f. nodes_out station k gs f)
  where
    go : (b : Bool) → (if b then is_write g.ask || writes station gs else writes station gs) ≡ false → ((k : Node M S) → writes station gs ≡ false → (node_after station k gs).out ≡ k.out) →
        (node_after station (if b then node_meets n g.ask else n) gs).out ≡ n.out
    go true f later = let p = or_parts (is_write g.ask) (writes station gs) f in later (node_meets n g.ask) p.1 ∙ node_out n g.ask p.0
    go false f later = later n f

all_out : {M : Type 0} (station : ℕ) (h : Halves M) (gs : List (Gram M)) → writes station gs ≡ false → (halves_after station h gs).out ≡ h.out
all_out station h [] e = refl
all_out {M} station h (g ∷ gs) e = go (g.station == station) e (λ k f. all_out station k gs f)
  where
    go : (b : Bool) → (if b then is_write g.ask || writes station gs else writes station gs) ≡ false → ((k : Halves M) → writes station gs ≡ false → (halves_after station k gs).out ≡ k.out) →
        (halves_after station (if b then halves_answered h g.ask g else h) gs).out ≡ h.out
    go true f later = let p = or_parts (is_write g.ask) (writes station gs) f in later (halves_answered h g.ask g) p.1 ∙ halves_out h g.ask g p.0
    go false f later = later h f

frame_one : {M : Type 0} (fresh w : Bool) (o q : OutSide M) (h k : Option (LinkMail M)) → (w ≡ false → (q ≡ o) × (k ≡ h)) → (fresh ≡ true → IsNew o h) → (fresh && not w) ≡ true → IsNew q k
frame_one {M} true false o q h k same new e = let s = same refl in subst (λ z. IsNew z k) (sym s.0) (subst (λ z. IsNew o z) (sym s.1) (new refl))
frame_one true true o q h k same new e = absurd (cc)
frame_one false w o q h k same new e = absurd (cc)

module _ {V A M Q R : Type 0} (x : Exchange V A M Q R) where
  -- UNSENT: a mail taken up and not yet sent is news to the slave
  abbrev pub Unsent : Seat V M Q R → Type 0
  Unsent s = s.side.fresh ≡ true → IsNew s.slave.node.out s.side.halves.out.holding

  abbrev Of : Seat V M Q R → Type 0
  Of s = SeatAgrees x s × Unsent s

  -- A CHOICE
  began_fresh : (frame : ℕ) (d : Side M Q R) (now : Option (Row M Q R)) (begin : Option Q) → (side_begins x.speech frame d now begin).fresh ≡ d.fresh
  began_fresh frame d now None = refl
  began_fresh frame d None (Some q) = go (x.speech.valid q)
    where
      go : (b : Bool) → (if b then record d { now = Some (begun q frame) } else d).fresh ≡ d.fresh
      go true = refl
      go false = refl
  began_fresh frame d (Some r) (Some q) = go (x.speech.valid q && is_over x.speech d.halves.out.holding d.fresh r)
    where
      go : (b : Bool) → (if b then record d { past = d.past ++ r ∷ []; now = Some (begun q frame) } else d).fresh ≡ d.fresh
      go true = refl
      go false = refl

  holds_new : (o : OutSide M) (held taken : List M) (d : Side M Q R) (now : Option (Row M Q R)) (holding : Option (LinkMail M)) (hold : Bool) → d.halves.out.holding ≡ holding → OutAgree d.halves.out o held taken → (d.fresh ≡ true → IsNew o d.halves.out.holding) →
      (let e = side_holds d (next_mail x.speech now holding hold) in e.fresh ≡ true → IsNew o e.halves.out.holding)
  holds_new o held taken d now holding false e a new = new
  holds_new o held taken d None holding true e a new = new
  holds_new o held taken d (Some r) (Some m) true e a new = new
  holds_new o held taken d (Some r) None true e a new = go (left x.speech r)
    where
      go : (ms : List M) → (let e = side_holds d (first_left ms) in e.fresh ≡ true → IsNew o e.halves.out.holding)
      go [] = new
      go (m ∷ ms) = λ f. held_new d.halves.out o held taken m e a

  next_new : (frame : ℕ) (s : Seat V M Q R) (c : Choice Q) → Of s → Unsent (seat_next x frame s c)
  next_new frame s c h =
      let e = side_begins x.speech frame s.side s.side.now c.begin in
      let halves = began_halves x frame s.side s.side.now c.begin in
      holds_new s.slave.node.out s.held s.taken e e.now e.halves.out.holding c.hold refl (subst (λ (z : Halves M). OutAgree z.out s.slave.node.out s.held s.taken) (sym halves) h.0.out)
      (λ f. subst (λ (z : Halves M). IsNew s.slave.node.out z.out.holding) (sym halves) (h.1 (sym (began_fresh frame s.side s.side.now c.begin) ∙ f)))

  -- A FRAME
  back_new : (frame : ℕ) (s : Seat V M Q R) (ds back : List (Datagram M)) → writes s.station (grams back) ≡ writes s.station (grams ds) → Unsent s → Unsent (seat_back x frame s ds back)
  back_new frame s ds back same new =
      frame_one s.side.fresh (writes s.station (grams back)) s.slave.node.out (slave_after s.station s.slave ds).node.out s.side.halves.out.holding (halves_after s.station s.side.halves (grams back)).out.holding
      (λ e. (
        ap (λ (n : Node M (Serving V M)). n.out) (node-slave_after s.station s.slave ds) ∙ nodes_out s.station s.slave.node (grams ds) (sym same ∙ e),
        ap (λ (z : OutHalf M). z.holding) (all_out s.station s.side.halves (grams back) e),
      )) new

  lost_new : (s : Seat V M Q R) (sent : List (Datagram M)) (slave : Slave V M) → (writes s.station (grams sent) ≡ false → slave.node.out ≡ s.slave.node.out) → Unsent s → Unsent (record s { side = side_lost s.station sent s.side; slave = slave })
  lost_new s sent slave same new =
      frame_one s.side.fresh (writes s.station (grams sent)) s.slave.node.out slave.node.out s.side.halves.out.holding (side_lost s.station sent s.side).halves.out.holding
      (λ e. (same e, ap (λ (z : OutHalf M). z.holding) (losts_out s.station s.side.halves (grams sent)))) new

  met_out : (s : Seat V M Q R) (sent : List (Datagram M)) → writes s.station (grams sent) ≡ false → (slave_after s.station s.slave sent).node.out ≡ s.slave.node.out
  met_out s sent e = ap (λ (n : Node M (Serving V M)). n.out) (node-slave_after s.station s.slave sent) ∙ nodes_out s.station s.slave.node (grams sent) e

  -- A STEP
  step_new : (processor : Processor V) (s : Seat V M Q R) → Unsent s → Unsent (seat_steps x processor s)
  step_new processor s new = λ f.
      let k = new f in
      let n = state_told processor (processor.carry s.slave.registers).state (node_look s.slave.node) in
      let same = served_seen s.slave.node.out s.slave.node.out.box (is_free (serving x) n) refl in
      record { mail = k.mail; holds = k.holds; new = ap (λ z. news z s.side.halves.out.holding) same ∙ k.new }

  -- ---- ONE SLAVE
  abbrev pub One : List (Seat V M Q R) → Type 0
  One (s ∷ []) = SeatAgrees x s × Unsent s
  One _ = ⊥

  nexts_one : (frame : ℕ) (ss : List (Seat V M Q R)) (cs : List (Choice Q)) → One ss → One (seats_next x frame ss cs)
  nexts_one frame [] cs h = absurd h
  nexts_one frame (s ∷ []) [] h = h
  nexts_one frame (s ∷ []) (c ∷ cs) h = (next_agrees x frame s c h.0, next_new frame s c h)
  nexts_one frame (s ∷ (t ∷ ss)) cs h = absurd h

  frames_one : (frame : ℕ) (ss : List (Seat V M Q R)) (ds : List (Datagram M)) (fate : RingFate) → IsFrame ss ds → One ss → One (seats_after x frame ss ds fate)
  frames_one frame [] ds fate f h = absurd h
  frames_one frame (s ∷ []) ds RingFate.Back f h =
      ((frame_agrees x frame (s ∷ []) ds RingFate.Back (tt, tt) f (h.0, tt)).0, back_new frame s ds (all_back (ring_of (s ∷ [])) ds) (writes-all_back s.station (ring_of (s ∷ [])) ds) h.1)
  frames_one frame (s ∷ []) ds (RingFate.Lost zero) f h =
      ((frame_agrees x frame (s ∷ []) ds (RingFate.Lost zero) (tt, tt) f (h.0, tt)).0, lost_new s ds s.slave (λ e. refl) h.1)
  frames_one frame (s ∷ []) ds (RingFate.Lost (suc k)) f h =
      ((frame_agrees x frame (s ∷ []) ds (RingFate.Lost (suc k)) (tt, tt) f (h.0, tt)).0, lost_new s ds (slave_after s.station s.slave ds) (met_out s ds) h.1)
  frames_one frame (s ∷ (t ∷ ss)) ds fate f h = absurd h

  step_one : (processor : Processor V) (k : ℕ) (ss : List (Seat V M Q R)) → One ss → One (seat_steps_at x processor k ss)
  step_one processor k [] h = absurd h
  step_one processor zero (s ∷ []) h = ((steps_agree x processor zero (s ∷ []) (h.0, tt)).0, step_new processor s h.1)
  step_one processor (suc k) (s ∷ []) h = h
  step_one processor k (s ∷ (t ∷ ss)) h = absurd h

  steps_one : (processor : Processor V) (ss : List (Seat V M Q R)) (ks : List ℕ) → One ss → One (seats_step x processor ss ks)
  steps_one processor ss [] h = h
  steps_one processor ss (k ∷ ks) h = steps_one processor (seat_steps_at x processor k ss) ks (step_one processor k ss h)

  -- A TURN of its session
  pub turn_one : (processor : Processor V) (frame : ℕ) (ss : List (Seat V M Q R)) (t : Turn M Q) → IsFrame (seats_next x frame ss t.choices) t.move.sent → One ss →
      One (seats_step x processor (seats_after x frame (seats_next x frame ss t.choices) t.move.sent t.move.fate) t.move.steps)
  turn_one processor frame ss t may h =
      steps_one processor (seats_after x frame (seats_next x frame ss t.choices) t.move.sent t.move.fate) t.move.steps
      (frames_one frame (seats_next x frame ss t.choices) t.move.sent t.move.fate may (nexts_one frame ss t.choices h))
