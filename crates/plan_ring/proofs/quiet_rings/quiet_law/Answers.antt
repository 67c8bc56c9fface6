use Rattle.plan_ring.proofs.Repairs.{all_repaired, none_repaired}
use Rattle.plan_ring.proofs.Hands.{hands_back, hands_lost}
use Rattle.plan_ring.proofs.quiet_rings.quiet_law.Goals as goal

pub returns : goal.returns
returns g c = record {
  none = λ slowest opened number last cs over e. all_repaired slowest opened number last cs over e;
  some = λ slowest opened number last cs over all. none_repaired slowest opened number last cs over all;
  back = λ x acknowledged more passed number sent back cs us t k. hands_back x acknowledged more passed number sent back cs us t k;
  lost = λ x acknowledged more passed gives recover number sent cs us t k. hands_lost x acknowledged more passed number sent gives recover cs us t k;
}
