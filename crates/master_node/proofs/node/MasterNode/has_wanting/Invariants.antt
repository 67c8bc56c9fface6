use Rattle.std.proofs.Common.{◌≡◌, ◌<◌, ℕ, true}
use Rattle.std.specs.Prelude.{IfSome, slice_get}
use Rattle.life_runs.specs.of_master_tour.Goes.{holds_at, is_live}
use Rattle.master_node.specs.Wants.{IsQuietBy, MaillessAt, NoneWaiting}
use Rattle.master_node.proofs.node.MasterNode.has_wanting.Given as goal

abbrev pub invariant-loop-place : goal.invariant-loop-place
invariant-loop-place l = record {
  quiet : (k : ℕ) → k < l.place → IfSome (slice_get l.self.tour.stops.items k) (λ s. IsQuietBy s.stand s.side);
  mails : (k : ℕ) → k < l.place → MaillessAt l.self k;
  waits : (k : ℕ) → k < l.place → holds_at (λ s. is_live s.stand) l.self.tour.stops.items k ≡ true → NoneWaiting l.self k;
}
