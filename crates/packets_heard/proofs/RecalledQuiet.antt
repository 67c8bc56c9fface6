-- Where all slaves rest no packet waits at any port.
use Rattle.std.proofs.Common.{◌≡◌, ◌≤◌, ℕ, zero, suc, ◌+◌, Bool, true, false, Some, List, [], ◌∷◌, map, refl, sym, ap, ◌∙◌, subst, arith, if◌then◌else◌, inl, inr}
use Rattle.std.specs.Prelude.{replicate, slice_get}
use Rattle.std.proofs.lemmas.Bool.{cases_order}
use Rattle.master_node.specs.of_eoe_switch.Switch.{Flow, queue_of, queue_at, switched, first_port, first_switch}
use Rattle.master_node.specs.of_eoe_switch.declared.switching.SwitchEvent.{SwitchEvent}
use Rattle.master_node.specs.of_frame_view.View.{Lens}
use Rattle.master_node.specs.of_life_runs.First.{lens_of, first_leads}
use Rattle.master_node.specs.of_life_runs.Led.{Exchanged, Leads, IsLed}
use Rattle.master_node.specs.Forwards.{forwarded, port_by, waiting_by}
use Rattle.master_node.specs.Happened.{NoneWaits}
use Rattle.master_node.specs.Ports.{ports_behind, ports_of}
use Rattle.master_node.specs.Resting.{AllRest}
use Rattle.master_node.specs.ServedEager.{AllServedRest}
use Rattle.master_node.specs.Serving.{run_lead}
use Rattle.master_node.specs.Shows.{is_led, is_live_lead}
use Rattle.master_node.specs.declared.lan.Lan.{Lan}
use Rattle.master_node.specs.of_master_tour.Goes.{holds_at}
use Rattle.master_node.proofs.Restings.{rest_leads}
use Rattle.master_node.proofs.Servings.{run_all}
use Rattle.master_node.specs.of_master_side.Recall.{Recall}
use Rattle.packets_heard.specs.Listed.{Listed, downs_at}
use Rattle.packets_heard.proofs.Owns.{own_port}
use Rattle.packets_heard.proofs.Runs.{run_downs, serving_downs}
use Rattle.packets_heard.proofs.Finds.{finds, first_live}
use Rattle.packets_heard.proofs.Shut.{down_shut, host_empty, host_first, past_behind, past_first, shut_empty}
use Rattle.packets_heard.specs.Recalled.{IsLanOf}
use Rattle.packets_heard.specs.Servings.{ServedListed}
use Rattle.slave_server.specs.of_segment_plan.declared.plan.Scenario.{Scenario}
use Rattle.master_node.specs.of_life_runs.Served.{Serves, IsServedLed, all_serve}

-- at the port of a live slave that rests none waits
live_none : (lens : ℕ → Lens) (l : Lan) (place : ℕ) (ms : List Recall) (as' : List Leads) (k : ℕ) → AllRest lens l place ms as' → holds_at is_live_lead as' k ≡ true → forwarded l.switch l.ports.items (place + k) ≡ []
live_none lens l place [] [] k r live = absurd (cc)
live_none lens l place [] (a ∷ as') k r live = absurd r
live_none lens l place (m ∷ ms) [] k r live = absurd r
live_none lens l place (m ∷ ms) (a ∷ as') zero r live = elim r.0 [
  | inl gone ↦ absurd (let no : false ≡ true = sym (ap is_led gone) ∙ live in cc)
  | inr rests ↦ subst (λ n. forwarded l.switch l.ports.items n ≡ []) (let sum : place ≡ place + 0 = omega arith in sum) rests.packet
]
live_none lens l place (m ∷ ms) (a ∷ as') (suc k) r live =
    subst (λ n. forwarded l.switch l.ports.items n ≡ []) (let sum : suc place + k ≡ place + suc k = omega arith in sum) (live_none lens l (suc place) ms as' k r.1 live)

module _ (plan : Scenario) (leads : List Leads) (es : List SwitchEvent) (l : Lan) (is : IsLanOf plan l es)
    (downs : (k port : ℕ) → port_by (slice_get (ports_behind 0 plan.slaves) k) ≡ Some port → downs_at port es ≡ (if holds_at is_live_lead leads k then 0 else 1)) (lens : ℕ → Lens) (ms : List Recall) (rests : AllRest lens l 0 ms leads) where
  abbrev start : Flow
  start = record { switch = first_switch (ports_of plan.slaves); forwards = replicate (ports_of plan.slaves) []; drops = 0 }

  ports_is : l.switch.ports ≡ (switched (ports_of plan.slaves) es).switch.ports
  ports_is = ap (λ s. s.ports) is.switch

  of_slave : (k port : ℕ) → port_by (slice_get (ports_behind 0 plan.slaves) k) ≡ Some port → queue_at l.switch port ≡ []
  of_slave k port e = go (holds_at is_live_lead leads k) refl
    where
      go : (b : Bool) → holds_at is_live_lead leads k ≡ b → queue_at l.switch port ≡ []
      go true live =
          ap (waiting_by l.switch) (sym e) ∙ ap (λ ps. waiting_by l.switch (port_by (slice_get ps k))) (sym is.ports) ∙ subst (λ n. forwarded l.switch l.ports.items n ≡ []) (let sum : 0 + k ≡ k = omega arith in sum) (live_none lens l 0 ms leads k rests live)
      go false gone =
          let once : downs_at port es ≡ 1 = downs k port e ∙ ap (λ (b : Bool). if b then 0 else 1) gone in
          ap (λ ps. queue_of (slice_get ps port)) ports_is ∙ shut_empty (slice_get (switched (ports_of plan.slaves) es).switch.ports port) (down_shut port start es (omega (arith, once)))

  at_host : queue_at l.switch 0 ≡ []
  at_host = ap (λ ps. queue_of (slice_get ps 0)) ports_is ∙ host_empty start es (host_first (ports_of plan.slaves) first_port refl)

  beyond : (port : ℕ) → ports_of plan.slaves ≤ port → queue_at l.switch port ≡ []
  beyond port le = ap (λ ps. queue_of (slice_get ps port)) ports_is ∙ ap queue_of (past_behind port start es (past_first (ports_of plan.slaves) port first_port le))

  none_waits : NoneWaits l.switch
  none_waits zero = at_host
  none_waits (suc port) = elim (cases_order (suc port) (ports_of plan.slaves)) [
    | inl same ↦ beyond (suc port) (omega (arith, same))
    | inr (inl less) ↦ (let f = finds plan.slaves (suc port) (omega arith) less in of_slave f.0 (suc port) f.1)
    | inr (inr more) ↦ beyond (suc port) (omega (arith, more))
  ]

-- where the events are those that the frames list
pub quiet_led : (plan : Scenario) (fs : List Exchanged) (missed : ℕ) (leads : List Leads) (led : IsLed (lens_of plan.slaves) plan.recover plan.retry (first_leads plan) fs missed leads) (es : List SwitchEvent) (l : Lan) (ms : List Recall) →
    Listed (lens_of plan.slaves) plan.recover plan.retry (ports_behind 0 plan.slaves) led es → IsLanOf plan l es → AllRest (lens_of plan.slaves) l 0 ms leads → NoneWaits l.switch
quiet_led plan fs missed leads led es l ms listed is rests =
    none_waits plan leads es l is
    (λ k port e. run_downs (lens_of plan.slaves) plan.recover plan.retry (ports_behind 0 plan.slaves) k port (own_port plan.slaves k port e) led es (first_live plan.services 0 plan.slaves 0 k port e) listed)
    (lens_of plan.slaves) ms rests

-- and of a serving
pub quiet_served : (plan : Scenario) (fs : List Exchanged) (missed : ℕ) (ws : List Serves) (led : IsServedLed (lens_of plan.slaves) plan.recover plan.retry (all_serve plan.paces (first_leads plan)) fs missed ws) (es : List SwitchEvent) (l : Lan) (ms : List Recall) →
    ServedListed (ports_behind 0 plan.slaves) led es → IsLanOf plan l es → AllServedRest (lens_of plan.slaves) l 0 ms ws → NoneWaits l.switch
quiet_served plan fs missed ws led es l ms listed is rests =
    none_waits plan (map run_lead ws) es l is
    (λ k port e. serving_downs (lens_of plan.slaves) plan.recover plan.retry (ports_behind 0 plan.slaves) k port (own_port plan.slaves k port e) led es
    (subst (λ (as' : List Leads). holds_at is_live_lead as' k ≡ true) (sym (run_all plan.paces (first_leads plan))) (first_live plan.services 0 plan.slaves 0 k port e)) listed)
    (lens_of plan.slaves) ms (rest_leads (lens_of plan.slaves) l 0 ms ws rests)
