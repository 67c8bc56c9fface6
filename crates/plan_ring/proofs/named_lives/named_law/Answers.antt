use Rattle.plan_ring.proofs.Named as Named
use Rattle.plan_ring.proofs.named_lives.named_law.Goals as goal

pub returns : goal.returns
returns g c = record {
  lawful = λ x n y law agrees. Named.named_law x n y law agrees;
  stated = λ x n y s acknowledged law agrees stated last. Named.named_stated x n y law agrees s stated acknowledged last;
}
