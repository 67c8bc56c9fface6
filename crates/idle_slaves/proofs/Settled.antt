-- A slave that is spent is settled.
use Rattle.std.proofs.Common.{◌≡◌, Some, None, List, [], ◌∷◌, refl, sym, ap, ◌∙◌}
use Rattle.plan_ring.specs.of_exchange_model.Exchange.{Exchange}
use Rattle.plan_ring.specs.of_life_model.Lives.{Life}
use Rattle.plan_ring.specs.of_link_model.Link.{Halves}
use Rattle.plan_ring.specs.of_link_model.Slave.{Node}
use Rattle.plan_ring.specs.of_segment_model.Slaves.{Serving, Slave, first_waiting, serving}
use Rattle.idle_slaves.specs.Visited.{IsLeft, LifeSpent}

none_waits : {M : Type 0} (ms : List M) → first_waiting ms ≡ None → ms ≡ []
none_waits [] e = refl
none_waits (m ∷ ms) e = absurd (let no : Some m ≡ None = e in cc)

pub is_left : {V A M Q R : Type 0} (x : Exchange V A M Q R) (l : Life M Q R) (n : Slave V M) → LifeSpent (serving x) l n.node → IsLeft l n
is_left {V} {A} {M} x l n k = record {
  settled = record {
    first = sym (ap (λ (z : Node M (Serving V M)). z.out.box) k.shows.node) ∙ k.spent.left.out;
    second = sym (ap (λ (z : Node M (Serving V M)). z.inn.box) k.shows.node) ∙ k.spent.box;
    withdrawn = sym (ap (λ (z : Node M (Serving V M)). z.inn.withdrawn) k.shows.node) ∙ k.spent.left.withdrawn;
    waiting = none_waits n.node.server.waiting (sym (ap (λ (z : Node M (Serving V M)). first_waiting z.server.waiting) k.shows.node) ∙ k.spent.left.next);
  };
  hand = k.shows.hand.0;
  held = sym (ap (λ (h : Halves M). h.out.holding) k.shows.halves) ∙ k.spent.held;
  clear = sym (ap (λ (h : Halves M). h.inn.state) k.shows.halves) ∙ k.spent.clear;
}
