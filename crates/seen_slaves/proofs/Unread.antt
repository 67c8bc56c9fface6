-- A frame that gained nothing brought no read of mailbox 1 that was done: so an empty read counts behind it as it did before.
use Rattle.std.proofs.Common.{◌≡◌, ◌≢◌, ℕ, ◌==◌, ◌&&◌, Bool, true, false, not, Option, Some, None, List, [], ◌∷◌, ◌++◌, refl, sym, ap, ◌∙◌, subst, arith, append-nil, if◌then◌else◌}
use Rattle.std.proofs.lemmas.Bool.Decides.{nat_tests}
use Rattle.idle_slaves.specs.Eager.{Remembered}
use Rattle.idle_slaves.specs.EagerFrames.{One}
use Rattle.idle_slaves.specs.Standing.{Standing}
use Rattle.idle_slaves.proofs.Choices.{stand_next}
use Rattle.idle_slaves.proofs.Sent.{gram_is, met, met_ask, read_counter}
use Rattle.idle_slaves.specs.of_frame_view.View.{Lens}
use Rattle.idle_slaves.proofs.Waiting.{holds}
use Rattle.idle_slaves.specs.of_life_model.Lives.{Life, Stand, life_next}
use Rattle.idle_slaves.specs.of_life_model.Own.{own}
use Rattle.idle_slaves.specs.of_life_runs.Led.{Leads, speech_at, is_passed}
use Rattle.idle_slaves.specs.of_link_mails.Body.{Body}
use Rattle.idle_slaves.specs.of_link_model.Agree.{Knows, last_met_of, unread}
use Rattle.idle_slaves.specs.of_link_model.Counters.{next_counter}
use Rattle.idle_slaves.specs.of_link_model.Frames.{Ask, all_accepted, counted, gram_meets, halves_accept, mail_back, read_done}
use Rattle.idle_slaves.specs.of_link_model.Link.{Halves}
use Rattle.idle_slaves.specs.of_link_model.Mails.{LinkMail, counter_in, news}
use Rattle.idle_slaves.specs.of_link_model.Master.{InHalf, InState as HalfState}
use Rattle.idle_slaves.specs.of_link_model.Slave.{InSide}
use Rattle.served_rings.specs.of_master_duty.Reply.{Reply}
use Rattle.served_rings.specs.of_master_hand.Spoken.{Asked, acknowledged, is_followed}
use Rattle.idle_slaves.proofs.of_master_tour.Unders.{SameAim}
use Rattle.idle_slaves.specs.of_plan_ring.PlanMet.{slave_at}
use Rattle.idle_slaves.proofs.of_run_frames.Access.{begins_same, holds_same}
use Rattle.idle_slaves.specs.of_run_frames.Goes.{Under}
use Rattle.idle_slaves.specs.of_run_frames.Waits.{Waits}
use Rattle.idle_slaves.specs.of_segment_model.Record.{did_read, is_for, is_read}
use Rattle.idle_slaves.specs.of_segment_model.Slaves.{Datagram, frame_after, grams, serving}
use Rattle.idle_slaves.specs.of_segment_plan.declared.service.Service as Plan
use Rattle.idle_slaves.specs.of_segment_plan.declared.slave.SlaveSpec.{SlaveSpec}
use Rattle.idle_slaves.specs.of_slave_server.Serving.{Serving}
use Rattle.idle_slaves.specs.of_slave_node.Node.{Node as Real}
use Rattle.idle_slaves.proofs.Fits.{IsFit, IsReady, Slave, exchange_at, next_of}
use Rattle.idle_slaves.proofs.Lists.{IsStanding}
use Rattle.idle_slaves.proofs.One.{quiet_at}

-- the slave's own datagrams tell whether it was read
own_read : (station : ℕ) (ds : List (Datagram Body)) → SameAim station ds → did_read station (grams (own station ds)) ≡ did_read station (grams ds)
own_read station [] a = refl
own_read station (d ∷ ds) a = go (is_for station d.address) refl (own_read station ds a.1)
  where
    go : (b : Bool) → is_for station d.address ≡ b → did_read station (grams (own station ds)) ≡ did_read station (grams ds) → did_read station (grams (if b then d ∷ own station ds else own station ds)) ≡ did_read station (grams (d ∷ ds))
    go true e k = ap (λ (z : Bool). if d.gram.station == station && is_read d.gram.ask && not (d.gram.counter == 0) then true else z) k
    go false e k = k ∙ sym (ap (λ (b : Bool). if b && is_read d.gram.ask && not (d.gram.counter == 0) then true else did_read station (grams ds)) (sym a.0 ∙ e))

not_same : (k : ℕ) → (next_counter k == k) ≡ false
not_same k = grind (arith, nat_tests)

-- a datagram of the slave's that reads mailbox 1 found it empty
not_done : (mine : Bool) (ask : Ask Body) (zero : Bool) → (mine ≡ true → ask ≡ Ask.ReadMail → zero ≡ true) → (if mine && is_read ask && not zero then true else false) ≡ false
not_done false ask zero k = refl
not_done true (Ask.WriteMail m) zero k = refl
not_done true (Ask.WriteRequest bit) zero k = refl
not_done true Ask.ReadAcknowledge zero k = refl
not_done true Ask.Other zero k = refl
not_done true Ask.ReadMail zero k = ap (λ (z : Bool). if not z then true else false) (k refl refl)

-- with nothing in doubt a mail in mailbox 1 is new
box_new : (h : InHalf) (s : InSide Body) (offered accepted : List Body) → h.state ≡ HalfState.Clear → (m : LinkMail Body) → s.again ≡ false → m.counter ≡ next_counter (counter_in (last_met_of s)) → h.last ≡ counter_in (last_met_of s) → news h.last (Some m) ≢ []
box_new h s offered accepted clear m again next last none =
    absurd (
    let apart : (m.counter == h.last) ≡ false = (λ i. next i == last i) ∙ not_same (counter_in (last_met_of s)) in
    let some : news h.last (Some m) ≡ m.body ∷ [] = ap (λ (b : Bool). if not (m.counter == 0) && b then [] else m.body ∷ []) apart ∙ by (m.counter == 0) in
    let no : m.body ∷ [] ≡ [] = sym some ∙ none in cc)
  where
    by : (z : Bool) → (if not z && false then [] else m.body ∷ []) ≡ m.body ∷ []
    by true = refl
    by false = refl

module _ (lens : ℕ → Lens) (number : ℕ) (sent back : List (Datagram Body)) (s : SlaveSpec) (a : Leads) (c : Slave) (v : Under Body Asked Reply) (next' : Option Plan.Service) (n k : Real Serving) (m m' : Remembered) (t : Waits)
    (r : IsReady lens number sent back s a c v next' n k m m' t) (before : IsStanding lens s (next_of a) c n m t) (aim : SameAim c.spot.station back) (open_now : v.life.stand ≡ Stand.Open) where
  stands : c.life.stand ≡ Stand.Open
  stands = sym (ap (λ (l : Life Body Asked Reply). l.stand) r.life ∙ stand_next (speech_at lens c.spot) acknowledged is_followed is_passed number c.life r.pick) ∙ open_now

  o : IsFit lens s c.spot c.life n
  o = r.fits stands

  clear_in : IsStanding lens s (next_of a) c n m t → c.life.era.side.halves.inn.state ≡ HalfState.Clear
  clear_in (Standing.gone e) = absurd (let no : Stand.Gone ≡ Stand.Open = sym e ∙ stands in cc)
  clear_in (Standing.fresh w control) = ap (λ (h : Halves Body). h.inn.state) (sym w.shows.halves) ∙ w.clear
  clear_in (Standing.waits w control end held) = ap (λ (h : Halves Body). h.inn.state) (sym w.waits.shows.halves) ∙ (holds (serving (exchange_at lens s)) w.waits.link w.waits.wanted m.memory t w.waits.waits).clear
  clear_in (Standing.goes g clear) = clear

  -- what comes into hand leaves the inward half
  inn_is : v.life.era.side.halves.inn ≡ c.life.era.side.halves.inn
  inn_is = ap (λ (l : Life Body Asked Reply). l.era.side.halves.inn) (r.life ∙ ap (λ y. life_next (speech_at lens c.spot) acknowledged is_followed is_passed number c.life y r.pick) stands)
      ∙ holds_same _ _ ∙ begins_same (speech_at lens c.spot) number c.life.era.side c.life.era.side.now _

  -- a mail that stands in mailbox 1 is new
  stands_new : (b : LinkMail Body) → (slave_at lens s n).node.inn.box ≡ Some b → news v.life.era.side.halves.inn.last (Some b) ≢ []
  stands_new b box =
      let l = o.link in
      let h = l.link.halves.inn in
      let i = l.link.node.inn in
      let same : h ≡ v.life.era.side.halves.inn = ap (λ (z : Halves Body). z.inn) l.halves ∙ sym inn_is in
      let clear : h.state ≡ HalfState.Clear = ap (λ (z : Halves Body). z.inn.state) l.halves ∙ clear_in before in
      let there : i.box ≡ Some b = ap (λ z. z.inn.box) l.node ∙ box in
      let again : i.again ≡ false = l.agrees.inn.clear clear b there in
      let next = l.agrees.inn.side.unread_next b (ap (λ (z : Bool). unread z i.box) again ∙ there) in
      let last : h.last ≡ counter_in (last_met_of i) = (subst (λ (z : HalfState). Knows z h i) clear l.agrees.inn.knows).0 in
      subst (λ (z : InHalf). news z.last (Some b) ≢ []) same (box_new h i l.link.offered l.link.accepted clear b again next last)

  -- so none stands there where a read brought none
  by_box : (z : One c.spot.station sent) (b : Option (LinkMail Body)) → (slave_at lens s n).node.inn.box ≡ b → (let d = met c.spot.station (slave_at lens s n) (o.here ∙ sym r.station) z.datagram z.sent_so in
      z.datagram.gram.ask ≡ Ask.ReadMail → halves_accept v.life.era.side.halves d.gram.ask d.gram ≡ [] → (d.gram.counter == 0) ≡ true)
  by_box z None box ask none = read_counter c.spot.station (slave_at lens s n) (o.here ∙ sym r.station) z.datagram z.sent_so ask box
  by_box z (Some b) box ask none = absurd (stands_new b box (
      let here = o.here ∙ sym r.station in
      let d = met c.spot.station (slave_at lens s n) here z.datagram z.sent_so in
      let gram : d.gram ≡ read_done z.datagram.gram (Some b) = gram_is c.spot.station (slave_at lens s n) here z.datagram z.sent_so ∙ ap (λ (q : Ask Body). gram_meets (slave_at lens s n).node q z.datagram.gram) ask ∙ ap (read_done z.datagram.gram) box in
      let back_is : mail_back d.gram ≡ Some b = ap mail_back gram ∙ ap (λ (i : ℕ). if counted i == 0 then None else Some b) z.sent_so.gram in
      sym (ap (λ (q : Ask Body). halves_accept v.life.era.side.halves q d.gram) (met_ask c.spot.station (slave_at lens s n) here z.datagram z.sent_so ∙ ask) ∙ ap (λ (q : Option (LinkMail Body)). news v.life.era.side.halves.inn.last q) back_is) ∙ none))

  none_read : (b : Bool) → v.under ≡ b → did_read c.spot.station (grams (own c.spot.station back)) ≡ false
  none_read false out =
      let z = r.met stands in
      let back_is : own c.spot.station back ≡ frame_after c.spot.station (slave_at lens s n) (own c.spot.station sent) = subst (λ (h : ℕ). own h back ≡ frame_after h (slave_at lens s n) (own h sent)) (sym r.station) z.back_is in
      ap (λ (ds : List (Datagram Body)). did_read c.spot.station (grams ds)) (back_is ∙ ap (frame_after c.spot.station (slave_at lens s n)) (r.none out))
  none_read true under =
      let q = r.one open_now under in
      let here = o.here ∙ sym r.station in
      let z = r.met stands in
      let d = met c.spot.station (slave_at lens s n) here q.datagram q.sent_so in
      let back_is : own c.spot.station back ≡ d ∷ [] =
      subst (λ (h : ℕ). own h back ≡ frame_after h (slave_at lens s n) (own h sent)) (sym r.station) z.back_is ∙ ap (frame_after c.spot.station (slave_at lens s n)) q.is in
      let quiet = quiet_at lens number sent back s a c v next' n k m m' t r before open_now in
      ap (λ (ds : List (Datagram Body)). did_read c.spot.station (grams ds)) back_is
      ∙ not_done (d.gram.station == c.spot.station) d.gram.ask (d.gram.counter == 0)
      (λ mine asks. by_box q (slave_at lens s n).node.inn.box refl (sym (met_ask c.spot.station (slave_at lens s n) here q.datagram q.sent_so) ∙ asks)
      (sym (append-nil (halves_accept v.life.era.side.halves d.gram.ask d.gram)) ∙ sym (ap (λ (b : Bool). (if b then halves_accept v.life.era.side.halves d.gram.ask d.gram else []) ++ []) mine)
      ∙ sym (ap (λ (ds : List (Datagram Body)). all_accepted c.spot.station v.life.era.side.halves (grams ds)) back_is) ∙ quiet))

  pub unread_on : did_read c.spot.station (grams back) ≡ false
  unread_on = sym (own_read c.spot.station back aim) ∙ none_read v.under refl
