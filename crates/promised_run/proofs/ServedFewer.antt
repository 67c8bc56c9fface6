-- The frames of a serving's book are fewer than the bound.
use Rattle.std.proofs.Common.{◌≡◌, ◌<◌, ◌≤◌, ◌++◌, ℕ, All, List, drop, take, length, map, ap, ◌∙◌, arith}
use Rattle.std.proofs.lemmas.List.{length-map, take-append-drop}
use Rattle.arrayvec.specs.ArrayVec.{ArrayVec}
use Rattle.promised_run.proofs.Recalled.{all_round}
use Rattle.promised_run.specs.Eager.{IsEagerServing}
use Rattle.run_promises.specs.of_eoe_switch.declared.switching.SwitchEvent.{SwitchEvent}
use Rattle.gateway_run.specs.Served.{HasAccount}
use Rattle.run_promises.specs.of_life_runs.Led.{Exchanged}
use Rattle.run_promises.specs.of_master_node.Happened.{arrivals_at, events_of}
use Rattle.run_promises.specs.of_master_node.Ports.{IsAtPort, ports_behind, ports_of}
use Rattle.run_promises.specs.of_master_node.Toured.{tour_of}
use Rattle.run_promises.specs.of_master_tour.Toured.{Tour}
use Rattle.run_promises.specs.of_packets_heard.Recalled.{State}
use Rattle.run_promises.specs.of_packets_heard.ServedRecalled.{ServedRecalledIn}
use Rattle.run_promises.specs.of_packets_heard.Servings.{AreServedBegun, ServedListed}
use Rattle.seen_slaves.specs.of_plan_ring.Round.{AllRound, ring_of}
use Rattle.gateway_run.specs.of_run_book.declared.book.Book.{Book}
use Rattle.gateway_run.specs.of_run_book.declared.book.Ending.{Ending}
use Rattle.gateway_run.specs.of_run_record.Led.{exchanged}
use Rattle.gateway_run.specs.of_run_record.Ran.{HasSent}
use Rattle.gateway_run.specs.of_run_record.Served.{ServeTo, ServedTouredTo}
use Rattle.run_promises.specs.of_run_work.ServedGained.{asked_in}
use Rattle.run_promises.specs.of_segment_plan.Bound.{bound_of}
use Rattle.run_promises.specs.of_segment_plan.declared.plan.Scenario.{Scenario}
use Rattle.run_promises.specs.Quiet.{AsksQuiet}
use Rattle.run_promises.specs.of_life_runs.Served.{Serves}

-- what the laws say
pub record Laws (plan : Scenario) (count : ℕ) : Type 0 where
  pub eager : (fs : List Exchanged) (t : Tour) (ws : List Serves) (s : State) → (toured : ServedTouredTo plan fs t ws) → ServedRecalledIn plan toured s → AllRound (ring_of plan) fs → (rest : List (ArrayVec ℕ)) → arrivals_at 0 s.events ++ rest ≡ plan.host → IsEagerServing plan fs t.missed ws
  pub fewer : (fs : List Exchanged) (missed lost : ℕ) (ws : List Serves) → IsEagerServing plan fs missed ws → AllRound (ring_of plan) fs → All AsksQuiet ws → asked_in ws ≤ count →
      (led : ServeTo plan fs lost ws) (es : List SwitchEvent) (rest : List (ArrayVec ℕ)) → All (IsAtPort (ports_of plan.slaves)) es → arrivals_at 0 es ++ rest ≡ plan.host →
      ServedListed (ports_behind 0 plan.slaves) led es → AreServedBegun (ports_behind 0 plan.slaves) (ports_of plan.slaves) led es → length fs < bound_of plan count

module _ (plan : Scenario) (count : ℕ) (book : Book) (laws : Laws plan count) (sent : HasSent plan count book) where
  pub fewer : (ending : Ending) (a : HasAccount plan count book ending) (s : State) → ServedRecalledIn plan a.answers.serving.leading.toured s → s.events ≡ events_of a.answers.serving.rows →
      All AsksQuiet a.answers.serving.leading.serves → asked_in a.answers.serving.leading.serves ≤ count → length book.frames < bound_of plan count
  fewer ending a s recalled same quiet few =
      let v = a.answers.serving in
      let fs = map exchanged book.frames in
      let es = events_of v.rows in
      let l = a.session.master.lan in
      let happened = v.forwarded.happened in
      let round = all_round (ring_of plan) book.frames sent.recorded in
      let rest = drop l.entered plan.host in
      let host : arrivals_at 0 es ++ rest ≡ plan.host = ap (λ ps. ps ++ rest) (happened.entered ∙ ap (λ ps. take l.entered ps) happened.own) ∙ take-append-drop l.entered plan.host in
      let eager = laws.eager fs (tour_of a.session.master) v.leading.serves s v.leading.toured recalled round rest (ap (λ xs. arrivals_at 0 xs ++ rest) same ∙ host) in
      let less = laws.fewer fs (tour_of a.session.master).missed v.leading.missed v.leading.serves eager round quiet few v.leading.lives es rest happened.at_port host v.forwarded.listed v.forwarded.begun in
      omega (arith, less, length-map book.frames exchanged)
