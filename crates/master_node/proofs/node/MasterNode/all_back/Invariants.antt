use Rattle.std.proofs.Common.{◌≡◌, ℕ, true, false, vec_len, take}
use Rattle.life_runs.specs.of_master_tour.Made.{is_in}
use Rattle.life_runs.specs.of_master_tour.Orders.{AreOnce}
use Rattle.master_node.specs.Besides.{TellsAll, back_does, back_told, does_at}
use Rattle.master_node.specs.Listing.{events_before, told_in}
use Rattle.master_node.specs.Arrivals.{arrivals_in, heard_at}
use Rattle.master_node.specs.Downs.{Lists}
use Rattle.master_node.specs.Handed.{EndsWork, passing_at, work_at}
use Rattle.master_node.specs.Happened.{Happens}
use Rattle.master_node.specs.Kept.{NodeKept}
use Rattle.master_node.specs.Serving.{TellsOnly}
use Rattle.master_node.proofs.node.MasterNode.all_back.Given as goal

abbrev pub invariant-loop-k : goal.invariant-loop-k
invariant-loop-k l = record {
  posts : vec_len l.self.posts ≡ vec_len l.initial.self.posts;
  kept : NodeKept l.initial.self l.self;
  tells : TellsOnly l.initial.self l.self;
  works : EndsWork (λ k. passing_at l.initial.self.tour.stops.items k) (take l.k l.initial.self.tour.visit.items) l.initial.self.posts.items l.self.posts.items;
  head : events_before l.self ≡ events_before l.initial.self;
  told : AreOnce l.initial.self.tour.visit.items → TellsAll (told_in (back_told l.initial.self) (take l.k l.initial.self.tour.visit.items)) l.initial.self l.self;
  has : AreOnce l.initial.self.tour.visit.items → (p : ℕ) → is_in p (take l.k l.initial.self.tour.visit.items) ≡ true → work_at l.self.posts.items p ≡ (does_at (λ s w. back_does p s w) l.initial.self p).work;
  others : (p : ℕ) → is_in p (take l.k l.initial.self.tour.visit.items) ≡ false → work_at l.self.posts.items p ≡ work_at l.initial.self.posts.items p;
  lan : Happens l.k l.initial.self.lan l.self.lan;
  listed : Lists (arrivals_in l.initial.self.lan.ports.items (λ p. heard_at l.initial.self.tour.stops.items p) (take l.k l.initial.self.tour.visit.items)) l.initial.self.lan l.self.lan;
}
