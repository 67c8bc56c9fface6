use Rattle.std.proofs.Common.{◌==◌, ◌+◌, ◌%◌, Some, refl, ap}
use Rattle.whole_ring.specs.of_link_model.Frames.{in_ask}
use Rattle.whole_ring.specs.of_link_model.Master.{InState}
use Rattle.plan_ring.specs.SlaveAsked.{AllMet, AllRead}
use Rattle.plan_ring.proofs.Answers.{just_one}
use Rattle.plan_ring.proofs.Goes.{all_back, all_lost, all_unmet, first}
use Rattle.plan_ring.proofs.half_asked.half_law.Goals as goal

pub returns : goal.returns
returns g c = record {
  back = λ station held h n gs sent here is. all_back station h.inn n.inn held (Some h.inn) gs sent here h n (refl, refl) (first h.inn n.inn is);
  lost = λ station held h n gs sent here is. all_lost station h.inn n.inn held (Some h.inn) gs sent here h n (refl, refl) (first h.inn n.inn is);
  unmet = λ station held h n gs sent here is. all_unmet h.inn n.inn station n.inn held (Some h.inn) gs sent here h (refl, refl) (first h.inn n.inn is);
  requests = λ station held h n gs sent here asks. just_one station (in_ask InState.Doubt h.inn.bit) refl (λ l. AllMet l) n tt (λ d zero. (ap (λ c. (c + 1) % 65536 == 0) zero, tt)) held h.inn gs sent here asks;
  reads = λ station held h n gs sent here asks. just_one station (in_ask InState.Asked h.inn.bit) refl (λ l. AllRead n.inn.acknowledge l) n tt (λ d zero. (ap (λ c. (c + 1) % 65536 == 0) zero, refl, tt)) held h.inn gs sent here asks;
}
