-- What has its answer was told whole, as another sees it.
use Rattle.std.proofs.Common.{◌≡◌, ℕ, Bool, false, Option, Some, None, option_map, List, [], map, refl, sym, ap, ◌∙◌, subst}
use Rattle.idle_slaves.proofs.of_slave_model.Laws.{answered}
use Rattle.idle_slaves.specs.of_exchange_model.Exchange.{Exchange, Speech, IsLawful}
use Rattle.idle_slaves.specs.of_exchange_model.Rows.{Row, ends_unheard, left}
use Rattle.idle_slaves.specs.of_life_model.Eras.{EraIs}
use Rattle.idle_slaves.specs.of_life_model.Lives.{Era, Spot}
use Rattle.served_rings.specs.of_few_replies.Erased.{OfRow, PlanOne, row_seen, side_seen}
use Rattle.seen_slaves.proofs.Left.{left_as}
use Rattle.idle_slaves.specs.of_segment_model.Record.{Frame}
use Rattle.idle_slaves.specs.of_segment_model.Slaves.{Processor, Registers, Slave}
use Rattle.idle_slaves.specs.of_state_model.Stated.{Stated, IsStated}
use Rattle.idle_slaves.specs.of_state_model.States.{Table}

module _ {N M P Q S R V A : Type 0} (f : N → M) (g : P → Q) (h : S → R) (x : Exchange V A N P S) (s : Stated V A P) (y : Speech M Q R) (acknowledged : Q → Bool) (processor : Processor V) (table : ℕ → Table) (spot : Spot) (e : Era N P S) (opened last : ℕ) (fs : List (Frame N)) (v : V) (r : Registers) (n : Slave V N)
    (law : IsLawful x) (stated : IsStated x s) (is : EraIs x s processor table spot e opened last fs v r n) (hand : e.account.hand ≡ None) where
  whole : (t : Row N P S) → e.side.now ≡ Some t → PlanOne f g h x.speech y t.service t.heard → ends_unheard y acknowledged (row_seen f g h t) ≡ ends_unheard x.speech s.acknowledged t → (mine : Option (S × ℕ)) → t.answer ≡ mine → (answer : R × ℕ) →
      option_map (λ (a : S × ℕ). (h a.0, a.1)) t.answer ≡ Some answer → ends_unheard y acknowledged (row_seen f g h t) ≡ false → (left y (row_seen f g h t) ≡ []) × (e.side.fresh ≡ false)
  whole t now plan last_too None none answer has quiet = absurd (let no : None ≡ Some answer = sym (ap (λ (o : Option (S × ℕ)). option_map (λ (a : S × ℕ). (h a.0, a.1)) o) none) ∙ has in cc)
  whole t now plan last_too (Some mine) some answer has quiet =
      let k = answered x s processor table spot e opened last fs v r n law stated is hand t now mine some (sym last_too ∙ quiet) in
      (left_as f g h x.speech y t plan ∙ ap (λ (l : List N). map f l) k.0, k.1)

  told_by : (now : Option (Row N P S)) → e.side.now ≡ now → OfRow (λ (t : Row N P S). PlanOne f g h x.speech y t.service t.heard) now → OfRow (λ (t : Row N P S). ends_unheard y acknowledged (row_seen f g h t) ≡ ends_unheard x.speech s.acknowledged t) now →
      (z : Row M Q R) → option_map (λ (t : Row N P S). row_seen f g h t) now ≡ Some z → (answer : R × ℕ) → z.answer ≡ Some answer → ends_unheard y acknowledged z ≡ false → (left y z ≡ []) × (e.side.fresh ≡ false)
  told_by None now plan last_too z same answer has quiet = absurd (let no : None ≡ Some z = same in cc)
  told_by (Some t) now plan last_too z same answer has quiet =
      let row : row_seen f g h t ≡ z = (let both : Some (row_seen f g h t) ≡ Some z = same in cc) in
      subst (λ (k : Row M Q R). (left y k ≡ []) × (e.side.fresh ≡ false)) row
      (whole t now plan last_too t.answer refl answer (ap (λ (k : Row M Q R). k.answer) row ∙ has) (ap (λ (k : Row M Q R). ends_unheard y acknowledged k) row ∙ quiet))

  pub told_as : OfRow (λ (t : Row N P S). PlanOne f g h x.speech y t.service t.heard) e.side.now → OfRow (λ (t : Row N P S). ends_unheard y acknowledged (row_seen f g h t) ≡ ends_unheard x.speech s.acknowledged t) e.side.now →
      (z : Row M Q R) → (side_seen f g h e.side).now ≡ Some z → (answer : R × ℕ) → z.answer ≡ Some answer → ends_unheard y acknowledged z ≡ false → (left y z ≡ []) × (e.side.fresh ≡ false)
  told_as plans lasts z now answer has quiet = told_by e.side.now refl plans lasts z now answer has quiet
