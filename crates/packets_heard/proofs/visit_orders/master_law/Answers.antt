use Rattle.std.proofs.Common.{[], sym, subst}
use Rattle.master_node.specs.Toured.{tour_of}
use Rattle.master_node.specs.of_segment_ring.declared.wire.Fate.{Fate}
use Rattle.packets_heard.specs.Toured.{IsToured}
use Rattle.packets_heard.proofs.Toured.{toured_on}
use Rattle.packets_heard.proofs.visit_orders.master_law.Goals as goal

pub returns : goal.returns
returns c = record {
  begins = λ lens recover retry first m e. subst (λ t. IsToured lens recover retry first [] t first) (sym e) IsToured.start;
  returns = λ lens recover retry first fs as' us f m under behind r l e o is b. toured_on lens recover retry first fs as' us f (tour_of m) (tour_of under) (tour_of behind) under.tour.visit.items Fate.Pass r l e o is b;
  loses = λ lens recover retry first fs as' us f after m under behind r l e o is b. toured_on lens recover retry first fs as' us f (tour_of m) (tour_of under) (tour_of behind) under.tour.visit.items (Fate.Lost after) r l e o is b;
}
