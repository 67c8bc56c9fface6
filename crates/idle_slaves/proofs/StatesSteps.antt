-- A step of the processor of an open epoch's slave, while no state service is past its drain.
use Rattle.std.proofs.Common.{◌≡◌, ℕ, Bool, false, Option, Some, None, List, [], ◌∷◌, sym, ap, ◌∙◌, subst}
use Rattle.plan_ring.specs.of_exchange_model.Exchange.{Exchange, IsLawful}
use Rattle.plan_ring.specs.of_life_model.Eras.{EraIs, era_frames, planned}
use Rattle.plan_ring.specs.of_life_model.Lives.{Spot, Era}
use Rattle.plan_ring.specs.of_link_model.Slave.{node_look, node_serve}
use Rattle.plan_ring.specs.of_segment_model.Record.{Frame}
use Rattle.plan_ring.specs.of_segment_model.Seats.{Seat, Side, Planned, sides_of, ring_of}
use Rattle.plan_ring.specs.of_segment_model.Slaves.{Processor, Registers, Ring, Slave, serving}
use Rattle.plan_ring.specs.of_state_model.Stated.{Stated, IsStated}
use Rattle.plan_ring.specs.of_state_model.States.{Table, carry}
use Rattle.plan_ring.proofs.of_state_model.Sessions.{Whole, session_keeps}
use Rattle.plan_ring.proofs.of_state_model.Stately.{StateStep, step_state}
use Rattle.plan_ring.proofs.of_state_model.Walks.{EachOne}
use Rattle.plan_ring.specs.of_state_model.Accounts.{Account, Duty, Stage}
use Rattle.plan_ring.specs.of_state_model.Promise.{EachTask}
use Rattle.plan_ring.specs.of_state_model.Tasks.{IsTasked, IsTaskPlan, run, new_tasks}
use Rattle.idle_slaves.specs.Steps.{Drains, NotGone, StepsAlone}

-- the AL state stays
stays : (table : Table) (from : ℕ) (hand : Option Duty) (r : Registers) → NotGone hand → StateStep table from hand r → (carry table r).state ≡ r.state
stays table from None r k e = e
stays table from (Some duty) r k e = go duty.stage k e
  where
    go : (stage : Stage) → Drains stage → StateStep table from (Some (record duty { stage = stage })) r → (carry table r).state ≡ r.state
    go Stage.Drains k e = e
    go (Stage.Goes phase) k e = absurd k

module _ {V A M Q R : Type 0} (x : Exchange V A M Q R) (law : IsLawful x) (s : Stated V A Q) (stated : IsStated x s) (processor : Processor V) (table : ℕ → Table) where
  abbrev more : M → Bool
  more m = false

  module _ (ps : List (Planned V)) (plan : IsTaskPlan x s processor table ps) where
    -- one slave
    alone : (fs : List (Frame M)) (p : Planned V) (t : Seat V M Q R) (a : Account Q R) → Whole x law s stated processor table more plan.tells fs p t a → p.registers.station ≡ p.station → StepsAlone x processor (table p.station) a.hand t.slave
    alone fs p t a k answers =
        let r = t.slave.registers in
        let v = t.slave.node.server in
        let carried : processor.carry r ≡ carry (table p.station) r = k.is.carries r k.is.placed.place.station k.is.placed.place.first k.is.placed.place.second in
        let stands : s.state (x.app v.server) ≡ r.state = sym (k.carries answers).carried.state in
        record {
          registers = carried;
          node = λ none.
              let state : (processor.carry r).state ≡ r.state = ap (λ (z : Registers). z.state) carried
              ∙ stays (table p.station) _ a.hand r none (step_state (table p.station) p.registers.state (k.is.brought answers).sits t.station fs r a (k.is.stately answers)) in
              let told : processor.tell (processor.carry r).state v.server ≡ v.server =
              plan.tells (processor.carry r).state v.server ∙ ap (λ z. s.tell z v.server) (state ∙ sym stands) ∙ stated.same v.server in
              ap (λ (z : V). node_serve (serving x) (let n = node_look t.slave.node in record n { server = record n.server { server = z } })) told;
        }

    each_alone : (fs : List (Frame M)) (qs : List (Planned V)) (ss : List (Seat V M Q R)) (accounts : List (Account Q R)) → EachOne (Whole x law s stated processor table more plan.tells fs) qs ss accounts →
        EachTask (λ station start d a n. StepsAlone x processor (table station) a.hand n) qs (sides_of ss) accounts (ring_of ss)
    each_alone fs [] [] [] h = tt
    each_alone fs [] [] (a ∷ accounts) h = absurd h
    each_alone fs [] (t ∷ ss) accounts h = absurd h
    each_alone fs (p ∷ qs) [] accounts h = absurd h
    each_alone fs (p ∷ qs) (t ∷ ss) [] h = absurd h
    each_alone fs (p ∷ qs) (t ∷ ss) (a ∷ accounts) h = ((h.0.is.placed.station, h.0.is.placed.station, λ answers. alone fs p t a h.0 answers), each_alone fs qs ss accounts h.1)

    tasks_alone : (ds : List (ℕ × Side M Q R)) (accounts : List (Account Q R)) (ns : Ring V M) (fs : List (Frame M)) → IsTasked x s.acknowledged processor ps ds accounts ns fs → EachTask (λ station start d a n. StepsAlone x processor (table station) a.hand n) ps ds accounts ns
    tasks_alone ds accounts ns fs b =
        let w = run x s.acknowledged processor (new_tasks b.opening ps) b.turns in
        let all = each_alone w.session.frames ps w.session.seats w.accounts (session_keeps x law s stated processor table more plan.tells ps plan b.opening b.quiet b.turns b.may).each in
        let Of : List (ℕ × Side M Q R) → List (Account Q R) → Ring V M → Type 0 = EachTask (λ station start d a n. StepsAlone x processor (table station) a.hand n) ps in
        subst (λ l. Of ds accounts l) b.ring (subst (λ l. Of ds l (ring_of w.session.seats)) b.counted (subst (λ l. Of l w.accounts (ring_of w.session.seats)) b.sides all))

  pub era_alone : (spot : Spot) (e : Era M Q R) (opened end : ℕ) (fs : List (Frame M)) (v : V) (r : Registers) (slave : Slave V M) → EraIs x s processor table spot e opened end fs v r slave → StepsAlone x processor (table spot.station) e.account.hand slave
  era_alone spot e opened end fs v r slave is =
      (tasks_alone (planned spot v r ∷ []) is.plan ((spot.station, e.side) ∷ []) (e.account ∷ []) ((spot.station, slave) ∷ []) (era_frames spot opened end fs) is.tasked).0.2 is.answers
