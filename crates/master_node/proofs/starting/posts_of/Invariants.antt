use Rattle.std.proofs.Common.{◌≡◌, None, vec_len, map, replicate}
use Rattle.std.specs.Prelude.{All}
use Rattle.master_node.specs.Lives.{waiting_of}
use Rattle.master_node.specs.Origins.{CountsNone}
use Rattle.master_node.specs.Shows.{WaitsNone}
use Rattle.master_node.specs.declared.post.Work.{Work}
use Rattle.master_node.proofs.starting.posts_of.Given as goal

abbrev pub invariant-loop : goal.invariant-loop
invariant-loop l = (vec_len l.posts ≡ l.counter) × (map waiting_of l.posts.items ≡ replicate l.counter 0) × (All WaitsNone l.posts.items) × (All CountsNone l.posts.items) × (All (λ p. p.work ≡ Work.Nothing) l.posts.items) × (All (λ p. p.oldest ≡ 0) l.posts.items) × (All (λ p. p.answer ≡ None) l.posts.items)
