use Rattle.std.proofs.Common.{◌≡◌, vec_len, take}
use Rattle.master_node.specs.Besides.{TellsAll, given_at}
use Rattle.master_node.specs.Listing.{told_in}
use Rattle.master_node.specs.Downs.{Lists, downs_in, gives_at}
use Rattle.master_node.specs.Dropped.{Drops, gave_at}
use Rattle.master_node.specs.Handed.{DropsWork}
use Rattle.master_node.specs.Happened.{Happens}
use Rattle.master_node.specs.Kept.{NodeKept}
use Rattle.master_node.specs.Serving.{mails_in}
use Rattle.master_node.proofs.node.MasterNode.all_given_up.Given as goal

abbrev pub invariant-loop-k : goal.invariant-loop-k
invariant-loop-k l = record {
  posts : vec_len l.self.posts ≡ vec_len l.initial.self.posts;
  kept : NodeKept l.initial.self l.self;
  lan : Happens l.k l.initial.self.lan l.self.lan;
  tour : l.self.tour ≡ l.initial.self.tour;
  told : TellsAll (told_in (λ k. given_at l.initial.self.tour.stops.items k) (take l.k l.initial.self.tour.visit.items)) l.initial.self l.self;
  works : DropsWork (λ p. gave_at l.initial.self.tour.stops.items p) (take l.k l.initial.self.tour.visit.items) l.initial.self.posts.items l.self.posts.items;
  mails : Drops (λ p. gave_at l.initial.self.tour.stops.items p) (take l.k l.initial.self.tour.visit.items) (mails_in l.initial.self) (mails_in l.self);
  listed : Lists (downs_in l.initial.self.lan.ports.items (λ p. gives_at l.initial.self.tour.stops.items p) (take l.k l.initial.self.tour.visit.items)) l.initial.self.lan l.self.lan;
}
