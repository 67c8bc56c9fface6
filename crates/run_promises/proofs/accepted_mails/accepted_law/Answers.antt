use Rattle.packets_heard.specs.of_life_runs.First.{first_leads, lens_of}
use Rattle.served_rings.proofs.of_frames_seen.Returned as Returned
use Rattle.run_promises.proofs.Accepted.{all_unpassed, are_heard, run_are_heard}
use Rattle.run_promises.proofs.accepted_mails.accepted_law.Goals as goal

pub returns : goal.returns
returns c = record {
  servings = λ plan is known fs missed ws led round.
      are_heard plan is known (λ lens ring octets ds f e. Returned.ring_back lens ring octets ds f e) (λ p profile. c.speaker_law.ensures p profile)
      (λ fs missed ws led round. c.served_ring_law.ensures plan is known fs missed ws led round)
      (λ fs missed ws led round. c.told_eras_law.ensures plan is known fs missed ws led round) fs missed ws led round;
  runs = λ plan is known fs missed leads led round ws alone.
      run_are_heard plan is known (λ lens ring octets ds f e. Returned.ring_back lens ring octets ds f e) (λ p profile. c.speaker_law.ensures p profile)
      (λ fs missed ws led round. c.served_ring_law.ensures plan is known fs missed ws led round)
      (λ fs missed ws led round. c.told_eras_law.ensures plan is known fs missed ws led round)
      (λ fs missed as' led. c.run_served_law.ensures (lens_of plan.slaves) plan.recover plan.retry plan.paces (first_leads plan) fs missed as' (all_unpassed plan.services 0 plan.slaves) led) fs missed leads led round ws alone;
}
