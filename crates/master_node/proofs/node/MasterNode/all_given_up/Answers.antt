use Rattle.std.proofs.Common.{◌≡◌, ◌<◌, refl, ◌∙◌, arith, ap, sym, length, get_or, subst, take, ◌∷◌, [], ◌++◌, ◌+◌, ℕ}
use Rattle.std.specs.Prelude.{slice_get}
use Rattle.master_node.specs.Forwards.{port_by}
use Rattle.std.proofs.lemmas.List.{take_all, take_more}
use Rattle.master_node.specs.Downs.{down_by, downs_in, gives_at}
use Rattle.master_node.proofs.Tells.{node_refl, node_then}
use Rattle.master_node.proofs.Happenings.{happens_none, happens_then, happens_more}
use Rattle.master_node.proofs.Downs.{lists_none, lists_then, lists_as, downs_next}
use Rattle.master_node.specs.Dropped.{Drops, gave_at}
use Rattle.master_node.specs.Serving.{mails_in}
use Rattle.master_node.proofs.Droppeds.{drops_on, drops_start}
use Rattle.master_node.specs.Handed.{DropsWork}
use Rattle.master_node.proofs.Endings.{drop_on, drop_start}
use Rattle.master_node.specs.Besides.{given_at}
use Rattle.master_node.specs.Listing.{told_in}
use Rattle.master_node.proofs.Besides.{besides_as, besides_none, besides_then}
use Rattle.master_node.proofs.Listing.{told_push}
use Rattle.master_node.proofs.node.MasterNode.all_given_up.Goals as goal

pub loop-k-init : goal.loop-k-init
loop-k-init c = record {
  posts = refl;
  kept = node_refl c.args.self.now;
  lan = happens_none 0 _ _ refl;
  tour = refl;
  told = besides_none c.args.self.now c.args.self.now refl refl;
  works = drop_start _ c.args.self.now.posts.items;
  mails = drops_start _ (mails_in c.args.self.now);
  listed = lists_none _ _ _ refl refl;
}

pub loop-k-preserved : goal.loop-k-preserved
loop-k-preserved c =
    let m = c.args.self.now in
    let k = c.loop-k.k in
    let inv = c.loop-k.invariant in
    let step = c.given_up_at.ensures in
    let same : m.tour.visit.items ≡ c.as_slice.result.now = sym (c.as_slice.ensures.value ∙ ap (λ z. z.visit.items) inv.tour) in
    let place = get_or c.as_slice.result.now k 0 in
    let inside : k < length m.tour.visit.items = omega (arith, c.loop-k-test.true, c.len-k-end.ensures.value) in
    record {
      posts = step.posts ∙ inv.posts;
      kept = node_then _ _ _ step.kept inv.kept;
      lan = happens_then k 1 _ _ _ inv.lan step.lan;
      tour = step.tour ∙ inv.tour;
      told =
          let v = m.tour.visit.items in
          let p = get_or v k 0 in
          let tells = λ (j : ℕ). given_at m.tour.stops.items j in
          let so : given_at c.loop-k.self.tour.stops.items place ≡ tells p = (λ i. given_at (inv.tour i).stops.items (get_or (sym same i) k 0)) in
          besides_as (told_in tells (take k v) ++ given_at c.loop-k.self.tour.stops.items place) (told_in tells (take (k + 1) v)) m c.given_up_at.new.self
          (ap (λ z. told_in tells (take k v) ++ z) so ∙ sym (told_push tells (take k v) p) ∙ sym (ap (told_in tells) (take_more v k 0 inside)))
          (besides_then (told_in tells (take k v)) (given_at c.loop-k.self.tour.stops.items place) m c.loop-k.self c.given_up_at.new.self inv.told step.told);
      works = subst (λ z. DropsWork (λ p. gave_at m.tour.stops.items p) z m.posts.items c.given_up_at.new.self.posts.items) (sym (take_more m.tour.visit.items k 0 inside))
          (drop_on _ (take k m.tour.visit.items) (get_or m.tour.visit.items k 0 ∷ []) m.posts.items c.loop-k.self.posts.items c.given_up_at.new.self.posts.items inv.works
          (subst (λ z. DropsWork (λ p. gave_at z.stops.items p) (get_or m.tour.visit.items k 0 ∷ []) c.loop-k.self.posts.items c.given_up_at.new.self.posts.items) inv.tour
          (subst (λ z. DropsWork (λ p. gave_at c.loop-k.self.tour.stops.items p) (get_or z k 0 ∷ []) c.loop-k.self.posts.items c.given_up_at.new.self.posts.items) (sym same) step.works)));
      mails = subst (λ z. Drops (λ p. gave_at m.tour.stops.items p) z (mails_in m) (mails_in c.given_up_at.new.self)) (sym (take_more m.tour.visit.items k 0 inside))
          (drops_on _ (take k m.tour.visit.items) (get_or m.tour.visit.items k 0) (mails_in m) (mails_in c.loop-k.self) (mails_in c.given_up_at.new.self) inv.mails
          (subst (λ z. Drops (λ p. gave_at z.stops.items p) (get_or m.tour.visit.items k 0 ∷ []) (mails_in c.loop-k.self) (mails_in c.given_up_at.new.self)) inv.tour
          (subst (λ z. Drops (λ p. gave_at c.loop-k.self.tour.stops.items p) (get_or z k 0 ∷ []) (mails_in c.loop-k.self) (mails_in c.given_up_at.new.self)) (sym same) step.mails)));
      listed = lists_as _ _ _ _ (downs_next m.lan.ports.items (λ p. gives_at m.tour.stops.items p) m.tour.visit.items k 0 inside)
          (lists_then _ _ _ _ _ inv.listed
          (lists_as _ _ _ _ (λ i. down_by (port_by (slice_get (sym inv.listed.ports i).items (get_or (same i) k 0))) (gives_at (sym inv.tour i).stops.items (get_or (same i) k 0))) step.listed));
    }

pub returns-clause-lan : goal.returns-clause-lan
returns-clause-lan c = happens_more c.loop-k.k 16 _ _ (omega arith) c.loop-k.invariant.lan

pub returns-clause-listed : goal.returns-clause-listed
returns-clause-listed c =
    let m = c.args.self.now in
    lists_as _ _ _ _
    (ap (λ z. downs_in m.lan.ports.items (λ p. gives_at m.tour.stops.items p) z) (sym (take_all c.loop-k.k m.tour.visit.items (omega (arith, c.loop-k-test.false, c.len-k-end.ensures.value)))))
    c.loop-k.invariant.listed

pub returns-clause-tour : goal.returns-clause-tour
returns-clause-tour c = c.loop-k.invariant.tour

pub returns-clause-mails : goal.returns-clause-mails
returns-clause-mails c =
    let m = c.args.self.now in
    subst (λ z. Drops (λ p. gave_at m.tour.stops.items p) z (mails_in m) (mails_in c.loop-k.self)) (take_all c.loop-k.k m.tour.visit.items (omega (arith, c.loop-k-test.false, c.len-k-end.ensures.value))) c.loop-k.invariant.mails

pub returns-clause-works : goal.returns-clause-works
returns-clause-works c =
    let m = c.args.self.now in
    subst (λ z. DropsWork (λ p. gave_at m.tour.stops.items p) z m.posts.items c.loop-k.self.posts.items) (take_all c.loop-k.k m.tour.visit.items (omega (arith, c.loop-k-test.false, c.len-k-end.ensures.value))) c.loop-k.invariant.works

pub returns-clause-told : goal.returns-clause-told
returns-clause-told c =
    let m = c.args.self.now in
    let k = c.loop-k.k in
    let tells = λ (j : ℕ). given_at m.tour.stops.items j in
    besides_as (told_in tells (take k m.tour.visit.items)) (told_in tells m.tour.visit.items) m c.loop-k.self (ap (told_in tells) (take_all k m.tour.visit.items (omega (arith, c.loop-k-test.false, c.len-k-end.ensures.value)))) c.loop-k.invariant.told

pub returns-clause-few : goal.returns-clause-few
returns-clause-few c = omega (arith, c.len-k-end.ensures.value, c.len-k-end.ensures.fits)
