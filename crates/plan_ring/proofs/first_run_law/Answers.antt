use Rattle.plan_ring.specs.Plan.{lens_of}
use Rattle.plan_ring.proofs.First as First
use Rattle.plan_ring.proofs.first_run_law.Goals as goal

pub returns : goal.returns
returns g c = record {
  begins = λ plan. First.all_new (lens_of plan.slaves) 0 plan.slaves plan.paces;
  goes_on = λ more passed lens made ds gives recover f fate ms us ns xs stay shown first. First.all_first more passed lens made ds gives recover f fate ms us ns xs stay shown first;
  books = λ lens ss more fs ring ms lives led first open_. First.all_books lens ss more fs 0 ms lives.each led first open_;
  ends = λ lens ss more fs ring ms lives led books as' host arrived rest came. First.run_ends lens ss more fs 0 ms lives.each led books as' host arrived rest came;
}
