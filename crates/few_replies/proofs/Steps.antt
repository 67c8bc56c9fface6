-- What the steps of the slave's processor leave of a mail that is awaited.
use Rattle.std.proofs.Common.{◌≡◌, ◌⊎◌, inl, inr, ℕ, zero, suc, Bool, true, false, Option, Some, None, List, [], ◌∷◌, length, refl, ap, subst, arith, if◌then◌else◌}
use Rattle.std.specs.Prelude.{⊤}
use Rattle.slave_parts.specs.of_exchange_model.Exchange.{Exchange, IsLawful}
use Rattle.slave_parts.specs.of_exchange_model.Rows.{Row}
use Rattle.slave_parts.specs.of_link_model.Master.{InState}
use Rattle.slave_parts.specs.of_link_model.Agree.{Agrees}
use Rattle.slave_parts.proofs.of_link_model.Gains.{processor_steps}
use Rattle.slave_parts.specs.of_segment_model.Slaves.{Serving, serving, Processor, ring_steps}
use Rattle.slave_parts.specs.of_segment_model.Record.{Frame}
use Rattle.slave_parts.specs.of_segment_model.Ends.{Passing}
use Rattle.slave_parts.specs.of_segment_model.Seats.{Seat, link_of, seat_steps}
use Rattle.slave_parts.proofs.of_segment_model.Sounds.{step_agrees}
use Rattle.slave_parts.proofs.of_segment_model.Kept.{Follows, step_records}
use Rattle.slave_parts.specs.of_serving_model.Tagged.{no_reply}
use Rattle.few_replies.specs.Led.{IsAnswered, has_step}
use Rattle.few_replies.proofs.Withdrawn.{Shown, Hidden, IsHidden}
use Rattle.few_replies.proofs.Awaits.{StageOf, step_taken, step_awaits}

shown_hides : {M : Type 0} (state : InState) (h : _) (s : _) → Shown {M = M} s → Hidden true state h s
shown_hides InState.Clear h s k = λ c. k
shown_hides InState.Doubt h s k = λ e. k
shown_hides InState.Asked h s k = λ e. k
shown_hides InState.Refetch h s k = k

module _ {V A M Q R : Type 0} (x : Exchange V A M Q R) (law : IsLawful x) (processor : Processor V) (passed : Q → Bool) where
  -- the stage of the row in hand, where its service is always answered and no reply was heard
  abbrev pub StageBy : Option Passing → M → List M → Seat V M Q R → Type 0
  StageBy None m mails s = ⊥
  StageBy (Some p) m mails s = StageOf x p m mails s

  abbrev pub RowStage : Option Passing → Row M Q R → Seat V M Q R → Type 0
  RowStage passing r s = (a : IsAnswered x passed r.service) → (no_reply x.speech.emission r.heard ≡ false) ⊎ StageBy passing a.mail r.told s

  abbrev pub NowStage : Option Passing → Option (Row M Q R) → Seat V M Q R → Type 0
  NowStage passing None s = ⊤
  NowStage passing (Some r) s = RowStage passing r s

  module _ (s : Seat V M Q R) (agrees : Agrees (link_of s)) where
    behind : Agrees (link_of (seat_steps x processor s))
    behind = step_agrees x processor s agrees

    row_steps : (passing : Option Passing) (r : Row M Q R) → RowStage passing r s → RowStage passing r (seat_steps x processor s)
    row_steps passing r k a = go passing (k a)
      where
        on : (p : Passing) → StageOf x p a.mail r.told s → StageOf x p a.mail r.told (seat_steps x processor s)
        on Passing.Waiting (inl new) = inl new
        on Passing.Waiting (inr w) = inr (w.0, step_awaits x processor s agrees behind a.mail a.first a.rest a.gives a.replies w.1)
        on Passing.Sent w = (w.0, step_awaits x processor s agrees behind a.mail a.first a.rest a.gives a.replies w.1)
        on Passing.Boxed w = (w.0, step_awaits x processor s agrees behind a.mail a.first a.rest a.gives a.replies w.1, w.2)
        on Passing.Served w =
            let j = step_taken x processor s agrees behind w.1.0 in
            let same = ap length j.1 in
            let next = w.1.1 in
            (w.0, (j.0, omega (arith, same, next)))
        on Passing.Answered w = w

        go : (passing : Option Passing) → (no_reply x.speech.emission r.heard ≡ false) ⊎ StageBy passing a.mail r.told s → (no_reply x.speech.emission r.heard ≡ false) ⊎ StageBy passing a.mail r.told (seat_steps x processor s)
        go passing (inl h) = inl h
        go None (inr w) = inr w
        go (Some p) (inr w) = inr (on p w)

    now_steps : (passing : Option Passing) (now : Option (Row M Q R)) → NowStage passing now s → NowStage passing now (seat_steps x processor s)
    now_steps passing None k = tt
    now_steps passing (Some r) k = row_steps passing r k

    hides_steps : IsHidden true s.side.halves.inn (seat_steps x processor s).slave.node.inn
    hides_steps =
        let tells = λ (v : Serving V M). record v { server = processor.tell (processor.carry s.slave.registers).state v.server } in
        let stepped = processor_steps (serving x) (record s.slave.node { server = tells s.slave.node.server }) in
        shown_hides s.side.halves.inn.state s.side.halves.inn (seat_steps x processor s).slave.node.inn (λ none. (stepped.nothing none).1)

  -- the seat behind steps
  pub record Steps (fs : List (Frame M)) (s : Seat V M Q R) (ks : List ℕ) (counts : Bool) (passing : Option Passing) (now : Option (Row M Q R)) : Type 0 where
    pub seat : Seat V M Q R
    pub station : seat.station ≡ s.station
    pub side : seat.side ≡ s.side
    pub ring : ring_steps x processor ((s.station, s.slave) ∷ []) ks ≡ (seat.station, seat.slave) ∷ []
    pub follow : Follows x law fs (seat ∷ [])
    pub hidden : IsHidden (if has_step ks then true else counts) seat.side.halves.inn seat.slave.node.inn
    pub stage : NowStage passing now seat

  always : (b : Bool) → (if b then true else true) ≡ true
  always true = refl
  always false = refl

  pub steps : (fs : List (Frame M)) (ks : List ℕ) (s : Seat V M Q R) (counts : Bool) (passing : Option Passing) (now : Option (Row M Q R)) → Follows x law fs (s ∷ []) → IsHidden counts s.side.halves.inn s.slave.node.inn → NowStage passing now s →
      Steps fs s ks counts passing now
  steps fs [] s counts passing now f h k = record { seat = s; station = refl; side = refl; ring = refl; follow = f; hidden = h; stage = k }
  steps fs (zero ∷ ks) s counts passing now f h k =
      let t = seat_steps x processor s in
      let follow : Follows x law fs (t ∷ []) = record {
        stations = f.stations;
        agrees = (step_agrees x processor s f.agrees.0, tt);
        records = step_records x law processor fs zero (s ∷ []) f.records;
      } in
      let m = steps fs ks t true passing now follow (hides_steps s f.agrees.0) (now_steps s f.agrees.0 passing now k) in
      record {
        seat = m.seat;
        station = m.station;
        side = m.side;
        ring = m.ring;
        follow = m.follow;
        hidden = subst (λ b. IsHidden b m.seat.side.halves.inn m.seat.slave.node.inn) (always (has_step ks)) m.hidden;
        stage = m.stage;
      }
  steps fs (suc j ∷ ks) s counts passing now f h k =
      let m = steps fs ks s counts passing now f h k in
      record { seat = m.seat; station = m.station; side = m.side; ring = m.ring; follow = m.follow; hidden = m.hidden; stage = m.stage }
