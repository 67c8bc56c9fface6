use Rattle.std.proofs.Common.{◌≡◌, ◌<◌, refl, ◌∙◌, arith, ap, sym, length, get_or, subst, take, ◌∷◌, [], ◌++◌, ◌+◌, ◌==◌, ℕ, Bool, true, false}
use Rattle.std.specs.Prelude.{slice_get, ◌||◌, not, if◌then◌else◌}
use Rattle.std.proofs.lemmas.List.{take_all, take_more}
use Rattle.master_node.specs.Arrivals.{arrive_by, arrivals_in, heard_at}
use Rattle.master_node.specs.Forwards.{port_by}
use Rattle.master_node.proofs.Tells.{node_refl, node_then}
use Rattle.master_node.proofs.Arrivals.{arrivals_next, heard_kept}
use Rattle.master_node.proofs.Downs.{lists_none, lists_then, lists_as}
use Rattle.master_node.proofs.Happenings.{happens_none, happens_then, happens_more}
use Rattle.master_node.proofs.Servings.{tells_refl, tells_then}
use Rattle.master_node.specs.Handed.{EndsWork, passing_at, work_at}
use Rattle.master_node.proofs.Endings.{ends_from, ends_same, ends_then, in_more}
use Rattle.std.proofs.lemmas.Bool.{eqb-true}
use Rattle.life_runs.specs.of_master_tour.Made.{is_in}
use Rattle.master_node.specs.Besides.{back_does, back_told, does_at}
use Rattle.master_node.specs.Listing.{told_in}
use Rattle.master_node.proofs.Besides.{back_same, besides_as, besides_none, besides_then, not_in_one, once_fresh, or_left, or_right}
use Rattle.master_node.proofs.Listing.{told_push}
use Rattle.master_node.proofs.node.MasterNode.all_back.Goals as goal

-- a place behind one more step is that of the step, or one before
by_place : (P : ℕ → Type 0) (p q : ℕ) (before : Bool) → (before || is_in p (q ∷ [])) ≡ true → P q → ((p == q) ≡ false → before ≡ true → P p) → P p
by_place P p q before e here there = go (p == q) refl e
  where
    go : (b : Bool) → (p == q) ≡ b → (before || (if b then true else false)) ≡ true → P p
    go true f g = subst P (sym (eqb-true p q f)) here
    go false f g = there f (or_true before g)
      where
        or_true : (a : Bool) → (a || false) ≡ true → a ≡ true
        or_true true h = refl
        or_true false h = h

pub loop-k-init : goal.loop-k-init
loop-k-init c = record { posts = refl; kept = node_refl c.args.self.now; tells = tells_refl c.args.self.now; works = ends_same _ c.args.self.now.posts.items; head = refl; told = λ once. besides_none c.args.self.now c.args.self.now refl refl; has = λ once p e. absurd (let bad : false ≡ true = e in cc); others = λ p e. refl; lan = happens_none 0 _ _ refl; listed = lists_none _ _ _ refl refl }

pub loop-k-preserved : goal.loop-k-preserved
loop-k-preserved c =
    let m = c.args.self.now in
    let k = c.loop-k.k in
    let inv = c.loop-k.invariant in
    let step = c.back_at.ensures in
    let same : m.tour.visit.items ≡ c.as_slice.result.now = sym (c.as_slice.ensures.value ∙ ap (λ z. z.items) inv.kept.tour.visit) in
    let inside : k < length m.tour.visit.items = omega (arith, c.loop-k-test.true, c.len-k-end.ensures.value) in
    let place = get_or c.as_slice.result.now k 0 in
    let heard : heard_at m.tour.stops.items place ≡ heard_at c.loop-k.self.tour.stops.items place = sym (heard_kept m.tour.stops.items c.loop-k.self.tour.stops.items inv.kept.each place) in
    record {
      posts = step.posts ∙ inv.posts;
      kept = node_then _ _ _ step.kept inv.kept;
      tells = tells_then _ _ _ step.tells inv.tells;
      works = subst (λ z. EndsWork (λ j. passing_at m.tour.stops.items j) z m.posts.items c.back_at.new.self.posts.items) (sym (take_more m.tour.visit.items k 0 inside))
          (ends_then (λ j. passing_at m.tour.stops.items j) (take k m.tour.visit.items) (get_or m.tour.visit.items k 0 ∷ []) m.posts.items c.loop-k.self.posts.items c.back_at.new.self.posts.items inv.works
          (ends_from _ (λ j. passing_at c.loop-k.self.tour.stops.items j) (get_or m.tour.visit.items k 0 ∷ []) _ _ (λ j. ap (λ z. passing_at z.stops.items j) inv.tells.tour)
          (subst (λ z. EndsWork (λ j. passing_at c.loop-k.self.tour.stops.items j) (get_or z k 0 ∷ []) c.loop-k.self.posts.items c.back_at.new.self.posts.items) (sym same) step.works)));
      others = λ p e.
          let v = m.tour.visit.items in
          let q = get_or v k 0 in
          let apart = sym (in_more p (take k v) (q ∷ [])) ∙ ap (is_in p) (sym (take_more v k 0 inside)) ∙ e in
          (step.told.others p (ap (λ z. p == get_or z k 0) (sym same) ∙ not_in_one p q (or_right (is_in p (take k v)) (is_in p (q ∷ [])) apart)) ∙ inv.others p (or_left (is_in p (take k v)) (is_in p (q ∷ [])) apart));
      head = step.told.tells.head ∙ inv.head;
      has = λ once p e.
          let v = m.tour.visit.items in
          let q = get_or v k 0 in
          let there = sym (in_more p (take k v) (q ∷ [])) ∙ ap (is_in p) (sym (take_more v k 0 inside)) ∙ e in
          let here : work_at c.back_at.new.self.posts.items q ≡ (does_at (λ s w. back_does q s w) m q).work =
          subst (λ z. work_at c.back_at.new.self.posts.items (get_or z k 0) ≡ (does_at (λ s w. back_does (get_or z k 0) s w) c.loop-k.self (get_or z k 0)).work) (sym same) step.told.here
          ∙ ap (λ z. z.work) (back_same m c.loop-k.self q inv.tells.tour (inv.others q (once_fresh v k 0 inside once))) in
          by_place (λ z. work_at c.back_at.new.self.posts.items z ≡ (does_at (λ s w. back_does z s w) m z).work) p q (is_in p (take k v)) there here
          (λ n a. step.told.others p (ap (λ z. p == get_or z k 0) (sym same) ∙ n) ∙ inv.has once p a);
      told = λ once.
          let v = m.tour.visit.items in
          let p = get_or v k 0 in
          let so : back_told c.loop-k.self place ≡ back_told m p = ap (λ z. back_told c.loop-k.self (get_or z k 0)) (sym same) ∙ ap (λ z. z.told) (back_same m c.loop-k.self p inv.tells.tour (inv.others p (once_fresh v k 0 inside once))) in
          besides_as (told_in (back_told m) (take k v) ++ back_told c.loop-k.self place) (told_in (back_told m) (take (k + 1) v)) m c.back_at.new.self
          (ap (λ z. told_in (back_told m) (take k v) ++ z) so ∙ sym (told_push (back_told m) (take k v) p) ∙ sym (ap (told_in (back_told m)) (take_more v k 0 inside)))
          (besides_then (told_in (back_told m) (take k v)) (back_told c.loop-k.self place) m c.loop-k.self c.back_at.new.self (inv.told once) step.told.tells);
      lan = happens_then k 1 _ _ _ inv.lan step.lan;
      listed = lists_as _ _ _ _ (arrivals_next m.lan.ports.items (λ p. heard_at m.tour.stops.items p) m.tour.visit.items k 0 inside)
          (lists_then _ _ _ _ _ inv.listed
          (lists_as _ _ _ _
          ((λ i. arrive_by (port_by (slice_get (sym inv.listed.ports i).items (get_or (same i) k 0))) (heard_at m.tour.stops.items (get_or (same i) k 0)))
          ∙ ap (λ z. arrive_by (port_by (slice_get c.loop-k.self.lan.ports.items place)) z) heard)
          step.listed));
    }

pub returns-clause-lan : goal.returns-clause-lan
returns-clause-lan c = happens_more c.loop-k.k 16 _ _ (omega arith) c.loop-k.invariant.lan

pub returns-clause-listed : goal.returns-clause-listed
returns-clause-listed c =
    let m = c.args.self.now in
    lists_as _ _ _ _
    (ap (λ z. arrivals_in m.lan.ports.items (λ p. heard_at m.tour.stops.items p) z) (sym (take_all c.loop-k.k m.tour.visit.items (omega (arith, c.loop-k-test.false, c.len-k-end.ensures.value)))))
    c.loop-k.invariant.listed

pub returns-clause-works : goal.returns-clause-works
returns-clause-works c =
    let m = c.args.self.now in
    subst (λ z. EndsWork (λ j. passing_at m.tour.stops.items j) z m.posts.items c.loop-k.self.posts.items) (take_all c.loop-k.k m.tour.visit.items (omega (arith, c.loop-k-test.false, c.len-k-end.ensures.value))) c.loop-k.invariant.works

pub returns-clause-told : goal.returns-clause-told
returns-clause-told c = λ once.
    let m = c.args.self.now in
    let k = c.loop-k.k in
    besides_as (told_in (back_told m) (take k m.tour.visit.items)) (told_in (back_told m) m.tour.visit.items) m c.loop-k.self (ap (told_in (back_told m)) (take_all k m.tour.visit.items (omega (arith, c.loop-k-test.false, c.len-k-end.ensures.value)))) (c.loop-k.invariant.told once)

pub returns-clause-has : goal.returns-clause-has
returns-clause-has c = λ once k.
    let m = c.args.self.now in
    let v = m.tour.visit.items in
    let all = take_all c.loop-k.k v (omega (arith, c.loop-k-test.false, c.len-k-end.ensures.value)) in
    both (is_in k v) (λ e. c.loop-k.invariant.has once k (ap (is_in k) all ∙ e)) (λ e. c.loop-k.invariant.others k (ap (is_in k) all ∙ e))
  where
    both : {A : Type 0} {x y z : A} (b : Bool) → (b ≡ true → x ≡ y) → (b ≡ false → x ≡ z) → x ≡ (if not b then z else y)
    both true f g = f refl
    both false f g = g refl

pub returns-clause-few : goal.returns-clause-few
returns-clause-few c = omega (arith, c.len-k-end.ensures.value, c.len-k-end.ensures.fits)
