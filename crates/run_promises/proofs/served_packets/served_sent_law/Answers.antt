use Rattle.packets_heard.specs.of_life_runs.First.{first_leads, lens_of}
use Rattle.served_rings.proofs.of_frames_seen.Returned as Returned
use Rattle.served_rings.proofs.of_run_work.Placed.{all_fresh}
use Rattle.run_promises.proofs.ServedAll.{sent}
use Rattle.run_promises.proofs.Speaks.{quiet_speaks}
use Rattle.packets_heard.specs.of_life_runs.Served.{all_serve}
use Rattle.run_promises.proofs.served_packets.served_sent_law.Goals as goal

pub returns : goal.returns
returns c = λ weigh plan is known fs missed ws led round quiet.
    sent weigh plan
    (record {
      emit = λ p profile. record { emits = λ al s i q may. c.emits_law.ensures.emits weigh p profile al s i q may; stays = λ al s i q may. c.emits_law.ensures.stays p al s i q may };
      joins = λ room ps ms rest wide are cut. c.packets_law.ensures.whole room ps ms rest wide are cut;
      returns = λ lens ring octets ds f e. Returned.ring_back lens ring octets ds f e;
    })
    is known
    (λ p profile. record {
      wide = profile.back_least;
      joins = λ room ps ms rest wide are cut. c.packets_law.ensures.whole room ps ms rest wide are cut;
      emit = record { emits = λ al s i q may. c.emits_law.ensures.emits weigh p profile al s i q may; stays = λ al s i q may. c.emits_law.ensures.stays p al s i q may };
      passed = λ v m calm fair net. c.emits_law.ensures.passed p v m calm fair net;
      calm = c.parts_tell.ensures.calm p profile;
      speaks = quiet_speaks p (c.speaker_law.ensures p profile);
    })
    (λ fs missed ws led round. c.served_ring_law.ensures plan is known fs missed ws led round)
    (λ fs missed ws led. c.asked_law.ensures (lens_of plan.slaves) plan.recover plan.retry plan.paces (first_leads plan) fs missed ws (all_fresh plan.services 0 plan.slaves) led)
    fs missed ws led round quiet
    (c.packets_law.ensures.servings (lens_of plan.slaves) plan.recover plan.retry missed (all_serve plan.paces (first_leads plan)) ws fs led)
