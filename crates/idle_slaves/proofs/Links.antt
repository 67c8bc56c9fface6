-- A session of one slave keeps its link.
use Rattle.std.proofs.Common.{ℕ, false, Bool, List, [], ◌∷◌, refl, subst}
use Rattle.plan_ring.specs.of_exchange_model.Exchange.{Exchange, IsLawful}
use Rattle.plan_ring.specs.of_life_model.Eras.{EraIs, era_frames, planned}
use Rattle.plan_ring.specs.of_life_model.Lives.{Spot, Era}
use Rattle.plan_ring.specs.of_segment_model.Record.{Frame}
use Rattle.plan_ring.specs.of_segment_model.Seats.{Seat, Side, Planned, link_of, sides_of, ring_of}
use Rattle.plan_ring.specs.of_segment_model.Slaves.{Processor, Registers, Ring, Slave}
use Rattle.plan_ring.specs.of_state_model.Stated.{Stated, IsStated}
use Rattle.plan_ring.specs.of_state_model.States.{Table}
use Rattle.plan_ring.proofs.of_state_model.Sessions.{Whole, holds, session_keeps}
use Rattle.plan_ring.proofs.of_state_model.Walks.{EachOne}
use Rattle.plan_ring.specs.of_state_model.Accounts.{Account}
use Rattle.plan_ring.specs.of_state_model.Promise.{EachTask}
use Rattle.plan_ring.specs.of_state_model.Tasks.{IsTasked, IsTaskPlan, run, new_tasks}
use Rattle.idle_slaves.specs.Links.{HasLink}
use Rattle.idle_slaves.proofs.Rowless.{has_row}

module _ {V A M Q R : Type 0} (x : Exchange V A M Q R) (law : IsLawful x) (s : Stated V A Q) (stated : IsStated x s) (processor : Processor V) (table : ℕ → Table) where
  abbrev more : M → Bool
  more m = false

  module _ (ps : List (Planned V)) (plan : IsTaskPlan x s processor table ps) where
    each_link : (fs : List (Frame M)) (qs : List (Planned V)) (ss : List (Seat V M Q R)) (accounts : List (Account Q R)) → EachOne (Whole x law s stated processor table more plan.tells fs) qs ss accounts →
        EachTask (λ station start d a n. HasLink d n) qs (sides_of ss) accounts (ring_of ss)
    each_link fs [] [] [] h = tt
    each_link fs [] [] (a ∷ accounts) h = absurd h
    each_link fs [] (t ∷ ss) accounts h = absurd h
    each_link fs (p ∷ qs) [] accounts h = absurd h
    each_link fs (p ∷ qs) (t ∷ ss) [] h = absurd h
    each_link fs (p ∷ qs) (t ∷ ss) (a ∷ accounts) h = (
      (
        h.0.is.placed.station,
        h.0.is.placed.station,
        λ answers. record {
          link = link_of t;
          agrees = h.0.agrees;
          halves = refl;
          node = refl;
          row = has_row x law s (table p.station) stated more p.registers.state (h.0.is.brought answers).sits fs t a (holds x law s stated processor table more plan.tells fs p t a h.0 answers);
        },
      ),
      each_link fs qs ss accounts h.1,
    )

    tasks_link : (ds : List (ℕ × Side M Q R)) (accounts : List (Account Q R)) (ns : Ring V M) (fs : List (Frame M)) → IsTasked x s.acknowledged processor ps ds accounts ns fs → EachTask (λ station start d a n. HasLink d n) ps ds accounts ns
    tasks_link ds accounts ns fs b =
        let w = run x s.acknowledged processor (new_tasks b.opening ps) b.turns in
        let all = each_link w.session.frames ps w.session.seats w.accounts (session_keeps x law s stated processor table more plan.tells ps plan b.opening b.quiet b.turns b.may).each in
        let Of : List (ℕ × Side M Q R) → List (Account Q R) → Ring V M → Type 0 = EachTask (λ station start d a n. HasLink d n) ps in
        subst (λ l. Of ds accounts l) b.ring (subst (λ l. Of ds l (ring_of w.session.seats)) b.counted (subst (λ l. Of l w.accounts (ring_of w.session.seats)) b.sides all))

  pub era_link : (spot : Spot) (e : Era M Q R) (opened end : ℕ) (fs : List (Frame M)) (v : V) (r : Registers) (slave : Slave V M) → EraIs x s processor table spot e opened end fs v r slave → HasLink e.side slave
  era_link spot e opened end fs v r slave is =
      (tasks_link (planned spot v r ∷ []) is.plan ((spot.station, e.side) ∷ []) (e.account ∷ []) ((spot.station, slave) ∷ []) (era_frames spot opened end fs) is.tasked).0.2 is.answers
