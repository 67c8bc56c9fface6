-- What is kept of the one slave of an open epoch.
use Rattle.std.proofs.Common.{◌≡◌, ℕ, true, false, Bool, List, [], ◌∷◌, subst}
use Rattle.protocol_models.specs.of_exchange_model.Exchange.{Exchange, IsLawful}
use Rattle.life_model.specs.Eras.{EraIs, era_frames, planned}
use Rattle.life_model.specs.Lives.{Spot, Era}
use Rattle.life_model.proofs.of_link_model.Law.{new_agrees}
use Rattle.life_model.specs.of_segment_model.Record.{Frame}
use Rattle.life_model.specs.of_segment_model.Seats.{Seat, Side, Planned, sides_of, ring_of}
use Rattle.life_model.specs.of_segment_model.Slaves.{Processor, Registers, Ring, Slave}
use Rattle.life_model.specs.of_state_model.Stated.{Stated, IsStated}
use Rattle.life_model.specs.of_state_model.Promises.{IsTable}
use Rattle.life_model.specs.of_state_model.States.{Table}
use Rattle.life_model.proofs.of_state_model.Newest.{Holds}
use Rattle.life_model.proofs.of_state_model.Sessions.{Whole, holds, session_keeps}
use Rattle.life_model.proofs.of_state_model.Walks.{EachOne}
use Rattle.life_model.specs.of_state_model.Accounts.{Account}
use Rattle.life_model.specs.of_state_model.Promise.{EachTask}
use Rattle.life_model.specs.of_state_model.Tasks.{TaskSession, TaskTurn, IsTasked, IsTaskPlan, MayRun, happens, mails_turn, run, new_tasks}
use Rattle.slave_model.proofs.Unsent.{One, Unsent, turn_one}

module _ {V A M Q R : Type 0} (x : Exchange V A M Q R) (law : IsLawful x) (s : Stated V A Q) (stated : IsStated x s) (processor : Processor V) (table : ℕ → Table) where
  abbrev more : M → Bool
  more m = false

  -- turn by turn
  runs_one : (w : TaskSession V M Q R) (ts : List (TaskTurn M Q)) → MayRun x s.acknowledged processor w ts → One x w.session.seats → One x (run x s.acknowledged processor w ts).session.seats
  runs_one w [] may h = h
  runs_one w (t ∷ ts) may h = runs_one (happens x s.acknowledged processor w t) ts may.1 (turn_one x processor _ w.session.seats (mails_turn w.accounts t) may.0.0 h)

  module _ (P : Side M Q R → Account Q R → Slave V M → Type 0)
      (one : (t : Table) (begun : ℕ) (is : IsTable t begun) (fs : List (Frame M)) (seat : Seat V M Q R) (a : Account Q R) → Holds x law s stated t more begun is fs seat a → Unsent x seat → P seat.side a seat.slave) where
    module _ (p : Planned V) (plan : IsTaskPlan x s processor table (p ∷ [])) where
      of_seat : (fs : List (Frame M)) (ss : List (Seat V M Q R)) (accounts : List (Account Q R)) → EachOne (Whole x law s stated processor table more plan.tells fs) (p ∷ []) ss accounts → One x ss →
          EachTask (λ station start d a n. P d a n) (p ∷ []) (sides_of ss) accounts (ring_of ss)
      of_seat fs [] accounts h k = absurd h
      of_seat fs (t ∷ ss) [] h k = absurd h
      of_seat fs (t ∷ []) (a ∷ []) h k = (
        (h.0.is.placed.station, h.0.is.placed.station, λ answers. one (table p.station) p.registers.state (h.0.is.brought answers).sits fs t a (holds x law s stated processor table more plan.tells fs p t a h.0 answers) k.1),
        tt,
      )
      of_seat fs (t ∷ []) (a ∷ (b ∷ accounts)) h k = absurd h.1
      of_seat fs (t ∷ (u ∷ ss)) (a ∷ accounts) h k = absurd k

      of_tasks : (ds : List (ℕ × Side M Q R)) (accounts : List (Account Q R)) (ns : Ring V M) (fs : List (Frame M)) → IsTasked x s.acknowledged processor (p ∷ []) ds accounts ns fs → EachTask (λ station start d a n. P d a n) (p ∷ []) ds accounts ns
      of_tasks ds accounts ns fs b =
          let w = run x s.acknowledged processor (new_tasks {V = V} {M = M} {Q = Q} {R = R} b.opening (p ∷ [])) b.turns in
          let began : One x (new_tasks {V = V} {M = M} {Q = Q} {R = R} b.opening (p ∷ [])).session.seats = (new_agrees _, λ e. absurd (let no : false ≡ true = e in cc)) in
          let all = of_seat w.session.frames w.session.seats w.accounts (session_keeps x law s stated processor table more plan.tells (p ∷ []) plan b.opening b.quiet b.turns b.may).each
          (runs_one (new_tasks {V = V} {M = M} {Q = Q} {R = R} b.opening (p ∷ [])) b.turns b.may began) in
          let Of : List (ℕ × Side M Q R) → List (Account Q R) → Ring V M → Type 0 = EachTask (λ station start d a n. P d a n) (p ∷ []) in
          subst (λ l. Of ds accounts l) b.ring (subst (λ l. Of ds l (ring_of w.session.seats)) b.counted (subst (λ l. Of l w.accounts (ring_of w.session.seats)) b.sides all))

    pub of_era : (spot : Spot) (e : Era M Q R) (opened end : ℕ) (fs : List (Frame M)) (v : V) (r : Registers) (slave : Slave V M) → EraIs x s processor table spot e opened end fs v r slave → P e.side e.account slave
    of_era spot e opened end fs v r slave is =
        (of_tasks (planned spot v r) is.plan ((spot.station, e.side) ∷ []) (e.account ∷ []) ((spot.station, slave) ∷ []) (era_frames spot opened end fs) is.tasked).0.2 is.answers
