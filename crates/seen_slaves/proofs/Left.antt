-- What is left to tell of a row, and whether a slave is settled, as another sees it.
use Rattle.std.proofs.Common.{◌≡◌, ℕ, suc, zero, List, [], ◌∷◌, map, length, refl, sym, ap, ◌∙◌}
use Rattle.std.specs.Prelude.{drop}
use Rattle.std.proofs.lemmas.List.{length-map}
use Rattle.idle_slaves.specs.of_exchange_model.Exchange.{Speech, plain}
use Rattle.idle_slaves.specs.of_exchange_model.Rows.{Row, left}
use Rattle.served_rings.specs.of_few_replies.Erased.{PlanOne, row_seen}
use Rattle.idle_slaves.specs.of_segment_model.Laws.{IsSettled}
use Rattle.idle_slaves.specs.of_segment_model.Slaves.{Slave}
use Rattle.served_rings.specs.of_serving_model.Erasing.{box_as, slave_as}

drop_as : {N M : Type 0} (f : N → M) (n : ℕ) (xs : List N) → drop n (map f xs) ≡ map f (drop n xs)
drop_as f zero xs = refl
drop_as f (suc n) [] = refl
drop_as f (suc n) (x ∷ xs) = drop_as f n xs

pub left_as : {N M P Q S R : Type 0} (f : N → M) (g : P → Q) (h : S → R) (y : Speech N P S) (x : Speech M Q R) (r : Row N P S) → PlanOne f g h y x r.service r.heard → left x (row_seen f g h r) ≡ map f (left y r)
left_as f g h y x r same =
    ap (λ (n : ℕ). drop n (x.planned (g r.service) (plain x.emission (map f r.heard)))) (length-map r.told f) ∙ ap (drop (length r.told)) (sym same)
    ∙ drop_as f (length r.told) (y.planned r.service (plain y.emission r.heard))

module _ {N M W V : Type 0} (f : N → M) (server : W → V) (n : Slave W N) where
  pub settled_to : IsSettled n → IsSettled (slave_as f server n)
  settled_to k = record { first = ap (box_as f) k.first; second = ap (box_as f) k.second; withdrawn = ap (box_as f) k.withdrawn; waiting = ap (map f) k.waiting }
