use Rattle.std.proofs.Common.{◌≡◌, ◌+◌, ℕ, suc, List, [], ◌∷◌, refl, ap, arith, length, length-append, sym, subst, ◌∙◌}
use Rattle.std.specs.Prelude.{◌<◌, true}
use Rattle.promised_run.proofs.News.{all_news}
use Rattle.promised_run.specs.Eager.{remembers}
use Rattle.promised_run.proofs.Ranks.{steps_in}
use Rattle.promised_run.proofs.EagerRests.{all_behind}
use Rattle.promised_run.proofs.EagerWalk.{Holds, Known, Laws, Step, Ask, frames, starts, stays}
use Rattle.run_promises.specs.of_life_runs.First.{first_leads, leads_from, lens_of}
use Rattle.run_promises.specs.of_life_runs.Led.{Leads}
use Rattle.gateway_run.proofs.of_life_runs.First.{apart_from}
use Rattle.run_promises.specs.of_master_node.Happened.{arrivals_at}
use Rattle.run_promises.specs.of_master_node.Shows.{is_opening_lead}
use Rattle.run_promises.specs.of_master_tour.Goes.{holds_at}
use Rattle.run_promises.specs.of_packets_heard.Recalled.{IsFirst}
use Rattle.seen_slaves.proofs.of_plan_ring.Known.{macs_in}
use Rattle.run_promises.specs.of_segment_plan.Bound.{slowest}
use Rattle.run_promises.specs.of_segment_plan.declared.service.Service as Plan
use Rattle.run_promises.specs.of_segment_plan.declared.slave.SlaveSpec.{SlaveSpec}
use Rattle.seen_slaves.proofs.of_served_places.Slaves.{begins_so, first_leads_in}
use Rattle.run_promises.specs.of_life_runs.Served.{all_serve}
use Rattle.promised_run.proofs.TouredTours.{bridged}
use Rattle.promised_run.proofs.eager_servings.eager_serving_law.Goals as goal

-- before the first frame no mail waits, and none is in hand
none_first : (rows : List (ℕ × Plan.Service)) (paces : List ℕ) (place : ℕ) (ss : List SlaveSpec) → steps_in (all_serve paces (leads_from rows place ss)) ≡ 0
none_first rows paces place [] = refl
none_first rows [] place (s ∷ ss) = let rest = none_first rows [] (suc place) ss in omega (arith, rest)
none_first rows (pace ∷ paces) place (s ∷ ss) = let rest = none_first rows paces (suc place) ss in omega (arith, rest)

pub returns : goal.returns
returns c = λ plan fs t ws s is known room due toured recalled went rest host.
    let lens = lens_of plan.slaves in
    let slow = slowest plan.paces in
    let first = all_serve plan.paces (first_leads plan) in
    let laws : Laws plan = record {
      lived = λ gs missed us led round. c.served_ring_law.ensures plan is known gs missed us led round;
      behind = all_behind lens plan.slaves 0 plan.slaves plan.paces is.laid.paces (c.plan_ring_law.ensures.begins plan is (macs_in plan.slaves known.macs)).each;
      rooms = λ place spec at k service has. c.room_law.ensures.scripts plan room place spec at k service has;
      due = due;
      apart = apart_from [] 0 plan.slaves is.stations;
    } in
    let news = subst (λ (z : List Leads). (k : ℕ) → k < length z → holds_at is_opening_lead z k ≡ true) (sym (first_leads_in plan.paces (first_leads plan))) (all_news plan.services 0 plan.slaves) in
    let b =
    bridged lens plan.recover plan.retry slow first (Holds plan laws slow) (Step plan laws slow) (Ask plan laws slow) (stays plan laws slow) c.seen_is.ensures (begins_so plan is).2 news
    (λ (z : Known). IsFirst plan z.state × (z.missed ≡ 0)) (starts plan laws slow (none_first plan.services plan.paces 0 plan.slaves)) fs t ws (record { state = s; missed = t.missed }) toured (frames plan laws slow toured s recalled) in
    let h = b.asked.2.1 went in
    let k = h.counted in
    let many : length (arrivals_at 0 s.events) + length rest ≡ length plan.host = sym (length-append (arrivals_at 0 s.events) rest) ∙ ap length host in
    record {
      again = t.again;
      progress = record b.progress { lost = k.lost; still = k.still; waits = k.waits };
      slaves = b.slaves;
      toured = k.toured;
      asks = k.asks b.asked.1;
      last = k.last;
      now = remembers plan s.events 0 s.recalls ws;
      eager = k.eager;
      enters = (let few = h.few in omega (arith, few, many));
    }
