-- What happened at the port of each slave, by the events that the frames list.
use Rattle.std.proofs.Common.{◌≡◌, ◌≤◌, ◌<◌, ℕ, zero, suc, ◌+◌, Bool, true, false, Some, List, [], ◌∷◌, refl, sym, ap, ◌∙◌, arith}
use Rattle.std.specs.Prelude.{cond, fold, slice_get}
use Rattle.run_promises.specs.of_life_runs.First.{lens_of, leads_from}
use Rattle.run_promises.specs.of_life_runs.Led.{Exchanged, Leads}
use Rattle.seen_slaves.specs.of_frame_view.Shares.{AllBoth}
use Rattle.promised_run.specs.Ports.{accepted_at, HasBegunAt, AllHavePorts}
use Rattle.gateway_run.specs.of_run_book.declared.book.Book.{Book}
use Rattle.run_promises.specs.of_master_node.Forwards.{port_by}
use Rattle.run_promises.specs.of_master_node.Ports.{ports_behind, ports_of, port_where, last_where}
use Rattle.run_promises.specs.of_master_node.Shows.{is_live_lead}
use Rattle.run_promises.specs.of_master_tour.Goes.{holds_at}
use Rattle.run_promises.proofs.of_packets_heard.PacketsRuns.{run_begun, run_first, run_last}
use Rattle.run_promises.proofs.of_packets_heard.Owns.{own_port}
use Rattle.run_promises.proofs.of_packets_heard.Runs.{run_downs, run_arrivals}
use Rattle.run_promises.proofs.of_packets_heard.Parts.{run_joined}
use Rattle.gateway_run.specs.of_run_record.Led.{LeadTo, ListsAll, BeginsAll}
use Rattle.run_promises.specs.of_eoe_switch.declared.switching.SwitchEvent.{SwitchEvent}
use Rattle.run_promises.specs.of_packets_heard.Over.{packets_begun}
use Rattle.run_promises.specs.of_packets_heard.Listed.{IsOwn, long_ones, packets_at}
use Rattle.run_promises.specs.of_packets_heard.Heard.{Joined, Times, IsJoined, joined_in, times_in, packets_of}
use Rattle.run_promises.specs.of_segment_plan.declared.plan.Scenario.{Scenario}
use Rattle.run_promises.specs.of_segment_plan.declared.service.Service as Plan
use Rattle.run_promises.specs.of_segment_plan.declared.slave.SlaveSpec.{SlaveSpec}

-- a slave that has a port is live before the first frame
pub first_live : (services : List (ℕ × Plan.Service)) (place : ℕ) (ss : List SlaveSpec) (last k port : ℕ) → port_by (slice_get (ports_behind last ss) k) ≡ Some port → holds_at is_live_lead (leads_from services place ss) k ≡ true
first_live services place [] last k port e = absurd (cc)
first_live services place (s ∷ ss) last zero port e = refl
first_live services place (s ∷ ss) last (suc k) port e = first_live services (suc place) ss (last_where s.eoe last) k port e

-- its packets, by the mails of each time
pub by_times : (ts : List Times) (js : List Joined) → AllBoth IsJoined ts js → (k : ℕ) → packets_at js k ≡ packets_of (accepted_at ts k)
by_times [] [] h k = refl
by_times [] (j ∷ js) h k = absurd h
by_times (t ∷ ts) [] h k = absurd h
by_times (t ∷ ts) (j ∷ js) h zero = h.0.packets
by_times (t ∷ ts) (j ∷ js) h (suc k) = by_times ts js h.1 k

-- each port is one of the switch's
abbrev one_more : ℕ → SlaveSpec → ℕ
one_more last s = last + cond s.eoe 1 0

no_less : (ss : List SlaveSpec) (last : ℕ) → last ≤ fold one_more last ss
no_less [] last = omega arith
no_less (s ∷ ss) last = let more = no_less ss (last + cond s.eoe 1 0) in omega (arith, more)

last_same : (serves : Bool) (last : ℕ) → last_where serves last ≡ last + cond serves 1 0
last_same true last = refl
last_same false last = omega arith

here : (serves : Bool) (last port : ℕ) → port_where serves last ≡ Some port → port ≡ last + cond serves 1 0
here true last port e = let same : last + 1 ≡ port = cc in omega (arith, same)
here false last port e = absurd (cc)

within : (ss : List SlaveSpec) (last k port : ℕ) → port_by (slice_get (ports_behind last ss) k) ≡ Some port → port ≤ fold one_more last ss
within [] last k port e = absurd (cc)
within (s ∷ ss) last zero port e = let is = here s.eoe last port e in let more = no_less ss (last + cond s.eoe 1 0) in omega (arith, is, more)
within (s ∷ ss) last (suc k) port e = within ss (last + cond s.eoe 1 0) k port (ap (λ n. port_by (slice_get (ports_behind n ss) k)) (sym (last_same s.eoe last)) ∙ e)

pub few_ports : (ss : List SlaveSpec) (k port : ℕ) → port_by (slice_get (ports_behind 0 ss) k) ≡ Some port → port < ports_of ss
few_ports ss k port e = let most = within ss 0 k port e in omega (arith, most)

-- what began there
begun_there : (plan : Scenario) {fs : List Exchanged} {missed : ℕ} {leads : List Leads} (lives : LeadTo plan fs missed leads) (es : List SwitchEvent) → BeginsAll plan lives es → (k port : ℕ) → port < ports_of plan.slaves → IsOwn (ports_behind 0 plan.slaves) k port →
    HasBegunAt (packets_begun lives k) (ports_of plan.slaves) port es
begun_there plan lives es begins k port few own =
    let ports = ports_behind 0 plan.slaves in
    let many = ports_of plan.slaves in
    let first = run_first ports many k port own lives es few begins in
    record {
      begun = run_begun ports many k port own lives es begins;
      left = first.0;
      forwarded = first.1;
      last = λ xs ys whole. run_last ports many k port own lives es xs ys begins whole;
    }

pub all_ports : (plan : Scenario) {fs : List Exchanged} {missed : ℕ} {leads : List Leads} (lives : LeadTo plan fs missed leads) (book : Book) → ListsAll plan lives book.switch → BeginsAll plan lives book.switch → AllHavePorts plan lives book
all_ports plan lives book listed begins = λ k port has.
    let own = own_port plan.slaves k port has in
    record {
      arrived = run_arrivals (lens_of plan.slaves) plan.recover plan.retry (ports_behind 0 plan.slaves) k port own lives book.switch listed ∙ ap long_ones (by_times (times_in lives) (joined_in lives) (run_joined lives) k);
      downs = run_downs (lens_of plan.slaves) plan.recover plan.retry (ports_behind 0 plan.slaves) k port own lives book.switch (first_live plan.services 0 plan.slaves 0 k port has) listed;
      begun = begun_there plan lives book.switch begins k port (few_ports plan.slaves k port has) own;
    }
