-- The record's counters stay those of a side.
use Rattle.std.proofs.Common.{◌≡◌, ℕ, ◌==◌, List, [], ◌∷◌, ◌++◌, Bool, true, false, Option, Some, None, refl, sym, ap, ◌∙◌, subst, eq-eqb, arith}
use Rattle.std.specs.Prelude.{◌&&◌, ◌||◌, not, if◌then◌else◌}
use Rattle.std.proofs.lemmas.Bool.Decides.{nat_tests}
use Rattle.frame_view.specs.of_exchange_model.Exchange.{Speech}
use Rattle.frame_view.specs.of_exchange_model.Rows.{Row, begun}
use Rattle.mailbox_master.specs.of_link_mails.Body.{Body}
use Rattle.mailbox_master.specs.of_link_model.Counters.{next_counter}
use Rattle.mailbox_master.specs.of_link_model.Mails.{LinkMail, seen, differs}
use Rattle.mailbox_master.specs.of_link_model.Master.{InState, out_answered}
use Rattle.mailbox_master.specs.of_link_model.Link.{Halves}
use Rattle.mailbox_master.specs.of_link_model.Frames.{Ask, Gram, in_ask, halves_answered, halves_lost, mail_back}
use Rattle.mailbox_master.specs.of_link_model.Segment.{RingFate}
use Rattle.master_duty.specs.of_segment_model.Record.{Kept, kept_after, nothing_kept, last_told, last_heard}
use Rattle.master_duty.specs.of_segment_model.Seats.{Side, Choice, side_begins, side_holds, next_mail, side_next, side_back, side_lost, is_write, is_over}
use Rattle.master_duty.specs.of_segment_model.Slaves.{Datagram, Access}
use Rattle.master_duty.specs.Reply.{Reply}
use Rattle.master_side.specs.Carried.{Asks, Meant, one}
use Rattle.master_side.specs.Passing.{IsKept}
use Rattle.master_side.specs.Shown.{new_side}
use Rattle.master_side.specs.declared.carried.Carried.{Carried}

abbrev Rows : Type 0 → Type 0
Rows Q = Option (Row Body Q Reply)

not_zero : (k : ℕ) → (next_counter k == 0) ≡ false
not_zero k = grind (arith, nat_tests)

-- halves and flag alone count
same_kept : {Q : Type 0} (kept : Kept) (d e : Side Body Q Reply) → e.halves ≡ d.halves → e.fresh ≡ d.fresh → IsKept kept d → IsKept kept e
same_kept kept d e h f k = record {
  told = ap (λ (z : Halves Body). z.out.last) h ∙ k.told ∙ ap (λ (z : Bool). if z then next_counter kept.told else kept.told) (sym f);
  held = λ m s. (let t = k.held m (sym (ap (λ (z : Halves Body). z.out.holding) h) ∙ s) in (t.0 ∙ sym (ap (λ (z : Halves Body). z.out.last) h), t.1));
  idle = λ s. f ∙ k.idle (sym (ap (λ (z : Halves Body). z.out.holding) h) ∙ s);
  heard = ap (λ (z : Halves Body). z.inn.last) h ∙ k.heard;
}

module _ {Q : Type 0} (x : Speech Body Q Reply) where
  begins_same : (frame : ℕ) (d : Side Body Q Reply) (now : Rows Q) (q : Option Q) → ((side_begins x frame d now q).halves ≡ d.halves) × ((side_begins x frame d now q).fresh ≡ d.fresh)
  begins_same frame d now None = (refl, refl)
  begins_same frame d None (Some q) = go (x.valid q)
    where
      go : (z : Bool) → (let e = if z then record d { now = Some (begun q frame) } else d in (e.halves ≡ d.halves) × (e.fresh ≡ d.fresh))
      go true = (refl, refl)
      go false = (refl, refl)
  begins_same frame d (Some r) (Some q) = go (x.valid q && is_over x d.halves.out.holding d.fresh r)
    where
      go : (z : Bool) → (let e = if z then record d { past = d.past ++ r ∷ []; now = Some (begun q frame) } else d in (e.halves ≡ d.halves) × (e.fresh ≡ d.fresh))
      go true = (refl, refl)
      go false = (refl, refl)

  -- a mail is taken up only where none is held
  takes_idle : (now : Rows Q) (holding : Option (LinkMail Body)) (hold : Bool) (m : Body) (ms : List Body) → next_mail x now holding hold ≡ m ∷ ms → holding ≡ None
  takes_idle now holding false m ms e = absurd (cc)
  takes_idle None holding true m ms e = absurd (cc)
  takes_idle (Some r) (Some h) true m ms e = absurd (cc)
  takes_idle (Some r) None true m ms e = refl

  holds_kept : (kept : Kept) (d : Side Body Q Reply) (ms : List Body) → IsKept kept d → ((m : Body) (rest : List Body) → ms ≡ m ∷ rest → d.halves.out.holding ≡ None) → IsKept kept (side_holds d ms)
  holds_kept kept d [] k h = k
  holds_kept kept d (m ∷ ms) k h =
      let none = h m ms refl in
      let last : d.halves.out.last ≡ kept.told = k.told ∙ ap (λ (z : Bool). if z then next_counter kept.told else kept.told) (k.idle none) in
      record {
        told = ap next_counter last;
        held = λ n s. (ap (λ (o : Option (LinkMail Body)). counter_or o) (sym s), ap (λ (o : Option (LinkMail Body)). counter_or o == 0) (sym s) ∙ not_zero d.halves.out.last);
        idle = λ s. absurd (cc);
        heard = k.heard;
      }
    where
      counter_or : Option (LinkMail Body) → ℕ
      counter_or None = 0
      counter_or (Some n) = n.counter

  pub next_kept : (frame : ℕ) (kept : Kept) (d : Side Body Q Reply) (c : Choice Q) → IsKept kept d → IsKept kept (side_next x frame d c)
  next_kept frame kept d c k =
      let e = side_begins x frame d d.now c.begin in
      let s = begins_same frame d d.now c.begin in
      holds_kept kept e (next_mail x e.now e.halves.out.holding c.hold) (same_kept kept d e s.0 s.1 k) (λ m rest t. takes_idle e.now e.halves.out.holding c.hold m rest t)

-- a write of the mail held, whatever becomes of it
sent_kept : {Q : Type 0} (kept : Kept) (d e : Side Body Q Reply) (m : LinkMail Body) (holding : Option (LinkMail Body)) → IsKept kept d → d.halves.out.holding ≡ Some m → e.halves.out.last ≡ d.halves.out.last → e.halves.out.holding ≡ holding →
    ((n : LinkMail Body) → holding ≡ Some n → d.halves.out.holding ≡ Some n) → e.halves.inn.last ≡ d.halves.inn.last → e.fresh ≡ false → IsKept (record { told = m.counter; heard = kept.heard }) e
sent_kept kept d e m holding k h l o s i f = record {
  told = l ∙ sym (k.held m h).0 ∙ ap (λ (z : Bool). if z then next_counter m.counter else m.counter) (sym f);
  held = λ n t. (let w = k.held n (s n (sym o ∙ t)) in (w.0 ∙ sym l, w.1));
  idle = λ t. f;
  heard = i ∙ k.heard;
}

-- another datagram: the outward half stays
still_kept : {Q : Type 0} (kept after : Kept) (d e : Side Body Q Reply) → IsKept kept d → e.halves.out ≡ d.halves.out → e.fresh ≡ d.fresh → after.told ≡ kept.told → e.halves.inn.last ≡ after.heard → IsKept after e
still_kept kept after d e k o f t h = record {
  told = ap (λ z. z.last) o ∙ k.told ∙ (λ i. if (sym f) i then next_counter ((sym t) i) else (sym t) i);
  held = λ m s. (let w = k.held m (sym (ap (λ z. z.holding) o) ∙ s) in (w.0 ∙ sym (ap (λ z. z.last) o), w.1));
  idle = λ s. f ∙ k.idle (sym (ap (λ z. z.holding) o) ∙ s);
  heard = h;
}

and_false : (b : Bool) → b && false ≡ false
and_false true = refl
and_false false = refl

and_true : (b : Bool) → b && true ≡ b
and_true true = refl
and_true false = refl

answered_last : (h : Halves Body) (counter : ℕ) → (out_answered h.out counter).last ≡ h.out.last
answered_last h counter = go (counter == 0)
  where
    go : (z : Bool) → (if z then h.out else record h.out { holding = None }).last ≡ h.out.last
    go true = refl
    go false = refl

answered_some : (h : Halves Body) (counter : ℕ) (n : LinkMail Body) → (out_answered h.out counter).holding ≡ Some n → h.out.holding ≡ Some n
answered_some h counter n = go (counter == 0)
  where
    go : (z : Bool) → (if z then h.out else record h.out { holding = None }).holding ≡ Some n → h.out.holding ≡ Some n
    go true e = e
    go false e = absurd (cc)

doubt_last : (h : Halves Body) (bit : Bool) (g : Gram Body) → (halves_answered h (Ask.WriteRequest bit) g).inn.last ≡ h.inn.last
doubt_last h bit g = go (g.counter == 0)
  where
    go : (z : Bool) → (if z then h.inn else record h.inn { state = InState.Asked }).last ≡ h.inn.last
    go true = refl
    go false = refl

asked_last : (h : Halves Body) (g : Gram Body) → (halves_answered h Ask.ReadAcknowledge g).inn.last ≡ h.inn.last
asked_last h g = go (g.counter == 0) (differs g.acknowledge h.inn.bit)
  where
    go : (z w : Bool) → (if z then h.inn else if w then h.inn else record h.inn { state = InState.Refetch }).last ≡ h.inn.last
    go true w = refl
    go false true = refl
    go false false = refl

module _ {Q : Type 0} (station : ℕ) (kept : Kept) (d : Side Body Q Reply) (b : Datagram Body) where
  -- behind a datagram with this ask, which is the slave's own or isn't
  abbrev kept_by : Bool → Ask Body → Kept
  kept_by z ask = record { told = if z then last_told kept.told ask else kept.told; heard = if z then last_heard kept.heard ask b.gram else kept.heard }

  abbrev side_by : Rows Q → Bool → Ask Body → Side Body Q Reply
  side_by now z ask = record { halves = if z then halves_answered d.halves ask b.gram else d.halves; fresh = d.fresh && not (if z then is_write ask || false else false); past = d.past; now = now }

  abbrev kept_gone : Bool → Ask Body → Kept
  kept_gone z ask = record { told = if z then last_told kept.told ask else kept.told; heard = kept.heard }

  abbrev side_gone : Bool → Ask Body → Side Body Q Reply
  side_gone z ask = record { halves = if z then halves_lost d.halves ask else d.halves; fresh = d.fresh && not (if z then is_write ask || false else false); past = d.past; now = d.now }

  by_mine : (R : Bool → Ask Body → Type 0) (ask : Ask Body) → b.gram.station ≡ station → b.gram.ask ≡ ask → R true ask → R (b.gram.station == station) b.gram.ask
  by_mine R ask k e h = subst (λ (z : Bool). R z b.gram.ask) (sym (eq-eqb b.gram.station station k)) (subst (λ (a : Ask Body). R true a) (sym e) h)

  back_write : (now : Rows Q) (m : LinkMail Body) → IsKept kept d → d.halves.out.holding ≡ Some m → IsKept (kept_by true (Ask.WriteMail m)) (side_by now true (Ask.WriteMail m))
  back_write now m k h = sent_kept kept d (side_by now true (Ask.WriteMail m)) m (out_answered d.halves.out b.gram.counter).holding k h (answered_last d.halves b.gram.counter) refl (answered_some d.halves b.gram.counter) refl (and_false d.fresh)

  back_inward : (now : Rows Q) (s : InState) (bit : Bool) → IsKept kept d → IsKept (kept_by true (in_ask s bit)) (side_by now true (in_ask s bit))
  back_inward now InState.Clear bit k = still_kept kept (kept_by true Ask.ReadMail) d (side_by now true Ask.ReadMail) k refl (and_true d.fresh) refl (ap (λ n. seen n (mail_back b.gram)) k.heard)
  back_inward now InState.Doubt bit k = still_kept kept (kept_by true (Ask.WriteRequest bit)) d (side_by now true (Ask.WriteRequest bit)) k refl (and_true d.fresh) refl (doubt_last d.halves bit b.gram ∙ k.heard)
  back_inward now InState.Asked bit k = still_kept kept (kept_by true Ask.ReadAcknowledge) d (side_by now true Ask.ReadAcknowledge) k refl (and_true d.fresh) refl (asked_last d.halves b.gram ∙ k.heard)
  back_inward now InState.Refetch bit k = still_kept kept (kept_by true Ask.ReadMail) d (side_by now true Ask.ReadMail) k refl (and_true d.fresh) refl (ap (λ n. seen n (mail_back b.gram)) k.heard)

  back_other : (now : Rows Q) → IsKept kept d → IsKept (kept_by true Ask.Other) (side_by now true Ask.Other)
  back_other now k = still_kept kept (kept_by true Ask.Other) d (side_by now true Ask.Other) k refl (and_true d.fresh) refl k.heard

  lost_write : (m : LinkMail Body) → IsKept kept d → d.halves.out.holding ≡ Some m → IsKept (kept_gone true (Ask.WriteMail m)) (side_gone true (Ask.WriteMail m))
  lost_write m k h = sent_kept kept d (side_gone true (Ask.WriteMail m)) m d.halves.out.holding k h refl refl (λ n t. t) refl (and_false d.fresh)

  lost_inward : (s : InState) (bit : Bool) → IsKept kept d → IsKept (kept_gone true (in_ask s bit)) (side_gone true (in_ask s bit))
  lost_inward InState.Clear bit k = still_kept kept (kept_gone true Ask.ReadMail) d (side_gone true Ask.ReadMail) k refl (and_true d.fresh) refl k.heard
  lost_inward InState.Doubt bit k = still_kept kept (kept_gone true (Ask.WriteRequest bit)) d (side_gone true (Ask.WriteRequest bit)) k refl (and_true d.fresh) refl k.heard
  lost_inward InState.Asked bit k = still_kept kept (kept_gone true Ask.ReadAcknowledge) d (side_gone true Ask.ReadAcknowledge) k refl (and_true d.fresh) refl k.heard
  lost_inward InState.Refetch bit k = still_kept kept (kept_gone true Ask.ReadMail) d (side_gone true Ask.ReadMail) k refl (and_true d.fresh) refl k.heard

  lost_other : IsKept kept d → IsKept (kept_gone true Ask.Other) (side_gone true Ask.Other)
  lost_other k = still_kept kept (kept_gone true Ask.Other) d (side_gone true Ask.Other) k refl (and_true d.fresh) refl k.heard

  -- ITS DATAGRAM CAME BACK, or was lost
  pub back_kept : (x : Speech Body Q Reply) (frame : ℕ) (carried : Carried) (due : Option Access) → IsKept kept d → Meant station carried d.halves due b →
      IsKept (kept_after station kept (record { sent = one b; fate = RingFate.Back; back = one b })) (side_back x frame station (one b) d)
  back_kept x frame carried due k w = go carried w.asks
    where
      now : Rows Q
      now = (side_back x frame station (one b) d).now

      R : Bool → Ask Body → Type 0
      R z a = IsKept (kept_by z a) (side_by (side_back x frame station (one b) d).now z a)

      go : (c : Carried) → Asks c d.halves due b.gram.ask b.access → R (b.gram.station == station) b.gram.ask
      go Carried.Nothing t = absurd t
      go Carried.Write (m, e, h, z) = by_mine R (Ask.WriteMail m) w.station_is e (back_write now m k h)
      go Carried.Inward (e, z) = by_mine R (in_ask d.halves.inn.state d.halves.inn.bit) w.station_is e (back_inward now d.halves.inn.state d.halves.inn.bit k)
      go Carried.Full (e, z) = by_mine R Ask.Other w.station_is e (back_other now k)
      go Carried.Control (t, g, e, u, z) = by_mine R Ask.Other w.station_is e (back_other now k)
      go Carried.Status (e, u, z) = by_mine R Ask.Other w.station_is e (back_other now k)

  pub lost_kept : (carried : Carried) (due : Option Access) → IsKept kept d → Meant station carried d.halves due b →
      IsKept (kept_after station kept (record { sent = one b; fate = RingFate.Lost 0; back = [] })) (side_lost station (one b) d)
  lost_kept carried due k w = go carried w.asks
    where
      R : Bool → Ask Body → Type 0
      R z a = IsKept (kept_gone z a) (side_gone z a)

      go : (c : Carried) → Asks c d.halves due b.gram.ask b.access → R (b.gram.station == station) b.gram.ask
      go Carried.Nothing t = absurd t
      go Carried.Write (m, e, h, z) = by_mine R (Ask.WriteMail m) w.station_is e (lost_write m k h)
      go Carried.Inward (e, z) = by_mine R (in_ask d.halves.inn.state d.halves.inn.bit) w.station_is e (lost_inward d.halves.inn.state d.halves.inn.bit k)
      go Carried.Full (e, z) = by_mine R Ask.Other w.station_is e (lost_other k)
      go Carried.Control (t, g, e, u, z) = by_mine R Ask.Other w.station_is e (lost_other k)
      go Carried.Status (e, u, z) = by_mine R Ask.Other w.station_is e (lost_other k)

-- AT THE BEGIN OF AN EPOCH
pub new_kept : {Q : Type 0} → IsKept {Q = Q} nothing_kept new_side
new_kept = record { told = refl; held = λ m s. absurd (cc); idle = λ s. refl; heard = refl }
