use Rattle.packets_heard.specs.of_life_runs.First.{lens_of, first_leads}
use Rattle.served_rings.proofs.of_frames_seen.Returned as Returned
use Rattle.run_promises.proofs.All.{sent}
use Rattle.run_promises.proofs.sent_packets.sent_law.Goals as goal

pub returns : goal.returns
returns c = λ weigh plan is known fs missed leads led round.
    sent weigh plan
    (record {
      emit = λ p profile. record { emits = λ al s i q may. c.emits_law.ensures.emits weigh p profile al s i q may; stays = λ al s i q may. c.emits_law.ensures.stays p al s i q may };
      joins = λ room ps ms rest wide are cut. c.packets_law.ensures.whole room ps ms rest wide are cut;
      returns = λ lens ring octets ds f e. Returned.ring_back lens ring octets ds f e;
    })
    is known (λ fs missed leads led round. c.run_lives_law.ensures plan is known fs missed leads led round) fs missed leads led round
    (c.packets_law.ensures.runs (lens_of plan.slaves) plan.recover plan.retry missed (first_leads plan) leads fs led)
