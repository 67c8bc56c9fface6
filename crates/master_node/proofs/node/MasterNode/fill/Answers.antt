use Rattle.std.proofs.Common.{◌≡◌, ◌∙◌, ◌+◌, true, false, Bool, None, Some, refl, sym, subst, arith}
use Rattle.std.specs.Prelude.{if◌then◌else◌, map}
use Rattle.life_runs.specs.of_master_tour.Goes.{is_live, holds_at}
use Rattle.master_node.specs.Filling.{IsFilling}
use Rattle.master_node.proofs.Filleds.{fills_first, fills_last, fills_same, fills_more, fills_still}
use Rattle.life_runs.specs.of_master_tour.Walks.{EachPair}
use Rattle.life_runs.proofs.of_master_tour.Walks.{each_same}
use Rattle.master_node.proofs.Lists.{each_trans}
use Rattle.master_node.proofs.Leaves.{few_stops}
use Rattle.master_node.proofs.Toureds.{counts_more, unvisited, visiting_first, visiting_more, visiting_still, visiting_same, visiting_last}
use Rattle.master_node.specs.Eager.{StopGoes}
use Rattle.master_node.proofs.Happenings.{happens_none, happens_then, happens_more}
use Rattle.master_node.proofs.Made.{makes_none, makes_then}
use Rattle.master_node.specs.Passes.{IsPassing}
use Rattle.master_node.specs.Serving.{run_lead}
use Rattle.master_node.proofs.Roundings.{rounds_first, rounds_last, rounds_more, rounds_same, rounds_still, on_same, on_on, passes_some, passes_at, some_count}
use Rattle.master_node.proofs.ServedSents.{many_serve, passing_same}
use Rattle.master_node.proofs.node.MasterNode.fill.Goals as goal

pub returns-in_default-clause-on : goal.returns-in_default-clause-on
returns-in_default-clause-on c =
    let e = c.due.ensures in
    on_on c.args.self.now c.loop.self _ c.loop.invariant.2 (record { again = e.kept.1; opened = e.kept.3; last = e.kept.4; missed = e.rest.0; retry = e.rest.1; made = refl })

pub returns-in_default-clause-filled : goal.returns-in_default-clause-filled
returns-in_default-clause-filled c = λ lens recover made from as' d x.
    let e = c.due.ensures in
    let f = c.loop.invariant.3 lens recover made from as' d x in
    let none : c.due.result ≡ None = cc in
    fills_same lens recover made from as' c.loop.counter c.loop.self _ c.loop.into.items (record { stops = e.stops; count = e.kept.0; again = e.kept.1; visit = e.kept.2; opened = e.kept.3; last = e.kept.4; made = refl; posts = refl; list = refl; lan = refl }) f
    (some_count c.loop.counter (λ z. let y = f.none z in passes_some (λ s. is_live s.stand) c.loop.self.tour.stops.items c.due.result none (e.first y.count y.passed y.begins y.some)))

pub returns-then-not-visit-clause-on : goal.returns-then-not-visit-clause-on
returns-then-not-visit-clause-on c =
    let e = c.due.ensures in
    on_on c.args.self.now c.loop.self c.visit.new.self c.loop.invariant.2
    (record { again = c.visit.ensures.on.0.again ∙ e.kept.1; opened = c.visit.ensures.on.0.opened ∙ e.kept.3; last = c.visit.ensures.on.0.last ∙ e.kept.4; missed = c.visit.ensures.on.0.missed ∙ e.rest.0; retry = c.visit.ensures.on.0.retry ∙ e.rest.1; made = c.visit.ensures.on.0.made })

pub returns-then-not-visit-clause-filled : goal.returns-then-not-visit-clause-filled
returns-then-not-visit-clause-filled c = λ lens recover made from as' d x.
    let e = c.due.ensures in
    let v = c.visit.ensures in
    let f = c.loop.invariant.3 lens recover made from as' d x in
    let p = c.in-Some.place in
    let is : c.due.result ≡ Some p = cc in
    let no : c.visit.result ≡ false = cc in
    let next = e.left p is (λ a. f.once) in
    fills_still lens recover made from as' c.loop.counter c.loop.self _ c.visit.new.self c.loop.into.items c.visit.new.into.items p
    (some_count c.loop.counter (λ z.
    let y = f.none z in
    let yes = (v.first y.short (subst (λ w. holds_at (λ s. is_live s.stand) w.items p ≡ true) (sym e.stops) (passes_at (λ s. is_live s.stand) c.loop.self.tour.stops.items c.due.result p is (e.first y.count y.passed y.begins y.some)))).0 in
    (let w : true ≡ false = sym yes ∙ no in cc)))
    f (record { stops = e.stops; count = e.kept.0; again = e.kept.1; visit = e.kept.2; opened = e.kept.3; last = e.kept.4; made = refl; posts = refl; list = refl; lan = refl }) (f.most p next.among) v.on.0 v.quiet (v.still no).0 (v.still no).1
    (λ left other q a o s g. subst (λ (z : Bool). IsFilling lens recover made from (if z then other else left) c.visit.new.self c.visit.new.into.items as') no (v.led lens recover made from left other as' (let w = x.room in let h = c.loop.invariant.6.few in let t = c.loop-test.true in omega (arith, w, h, t)) (let w = x.list in let h = c.loop.invariant.9 in let t = c.loop-test.true in omega (arith, w, h, t)) q d a o s g))

pub returns-clause-on : goal.returns-clause-on
returns-clause-on c = c.loop.invariant.2

pub returns-clause-filled : goal.returns-clause-filled
returns-clause-filled c = λ lens recover made from as' d x.
    fills_last lens recover made from as' c.loop.counter c.loop.self c.loop.into.items (let t = c.loop-test.false in omega (arith, t)) (c.loop.invariant.3 lens recover made from as' d x)

pub loop-init : goal.loop-init
loop-init c = (
  c.requires,
  refl,
  on_same c.args.self.now,
  (λ lens recover made from as' d x. fills_first lens recover made from as' c.args.self.now c.args.into.now.items x),
  each_same _ c.args.self.now.tour.stops.items (λ s. refl),
  (λ b short. (visiting_first c.args.into.now.items c.args.self.now short b, b.count)),
  happens_none 0 _ _ refl,
  makes_none _ _ refl,
  (λ b short. each_same (λ s t. StopGoes s t) c.args.self.now.tour.stops.items (λ s. (refl, λ h. h))),
  omega arith,
  (λ lens recover made from ws d f b. rounds_first (map run_lead ws) (λ left m octets. IsPassing lens recover made from left m octets ws) (λ left m octets g. many_serve lens recover made from ws left m octets g) (λ left m n octets k g. passing_same lens recover made from ws left m n octets k g) c.args.self.now c.args.into.now.items f b),
  refl,
  (λ few base x. x),
)

pub loop-preserved : goal.loop-preserved
loop-preserved c = (
  c.visit.ensures.begun,
  c.visit.ensures.posts ∙ c.loop.invariant.1,
  (let e = c.due.ensures in
      on_on c.args.self.now c.loop.self c.visit.new.self c.loop.invariant.2
      (record { again = c.visit.ensures.on.0.again ∙ e.kept.1; opened = c.visit.ensures.on.0.opened ∙ e.kept.3; last = c.visit.ensures.on.0.last ∙ e.kept.4; missed = c.visit.ensures.on.0.missed ∙ e.rest.0; retry = c.visit.ensures.on.0.retry ∙ e.rest.1; made = c.visit.ensures.on.0.made })),
  (λ lens recover made from as' d x.
      let e = c.due.ensures in
      let v = c.visit.ensures in
      let f = c.loop.invariant.3 lens recover made from as' d x in
      let p = c.in-Some.place in
      let is : c.due.result ≡ Some p = cc in
      let yes : c.visit.result ≡ true = cc in
      fills_more lens recover made from as' c.loop.counter c.loop.self _ c.visit.new.self c.loop.into.items c.visit.new.into.items p f
      (record { stops = e.stops; count = e.kept.0; again = e.kept.1; visit = e.kept.2; opened = e.kept.3; last = e.kept.4; made = refl; posts = refl; list = refl; lan = refl })
      (λ a. e.left p is a) (λ a b g h. passes_at (λ s. is_live s.stand) c.loop.self.tour.stops.items c.due.result p is (e.first a b g h))
      (c.in-Some.ensures.few) v.on.0 v.on.1 v.quiet v.visits v.counts (λ a b. (v.first a b).1)
      (λ left other q a o s g. subst (λ (z : Bool). IsFilling lens recover made from (if z then other else left) c.visit.new.self c.visit.new.into.items as') yes (v.led lens recover made from left other as' (let w = x.room in let h = c.loop.invariant.6.few in let t = c.loop-test.true in omega (arith, w, h, t)) (let w = x.list in let h = c.loop.invariant.9 in let t = c.loop-test.true in omega (arith, w, h, t)) q d a o s g))),
  each_trans (λ s t. t.side.hand.found.join ≡ s.side.hand.found.join) c.args.self.now.tour.stops.items c.loop.self.tour.stops.items c.visit.new.self.tour.stops.items (λ x y z a b. b ∙ a) c.loop.invariant.4
      (subst (λ z. EachPair (λ s t. t.side.hand.found.join ≡ s.side.hand.found.join) z.items c.visit.new.self.tour.stops.items) c.due.ensures.stops c.visit.ensures.joins),
  (λ b short.
      let e = c.due.ensures in
      let v = c.visit.ensures in
      let p = c.in-Some.place in
      let is : c.due.result ≡ Some p = cc in
      let more = counts_more _ _ v.counts (let t = c.if-self-count.false in λ q. omega (arith, t, q)) in
      let was = (c.loop.invariant.5 b short).1 in
      let same = e.kept.0 in (
        visiting_more c.loop.into.items c.visit.new.into.items c.args.self.now c.loop.self c.visit.new.self c.due.new.self p (c.loop.invariant.5 b short).0 c.loop.invariant.2
            (record { stops = e.stops; count = e.kept.0; again = e.kept.1; visit = e.kept.2 })
            (e.order p is).1 (c.in-Some.ensures.few) v.on.1 v.visits v.shares v.takes more,
        omega (arith, more, was, same),
      )),
  happens_then c.loop.counter 1 _ _ _ c.loop.invariant.6 c.visit.ensures.lan,
  makes_then _ _ _ c.loop.invariant.7 c.visit.ensures.made,
  (λ b short.
      let e = c.due.ensures in
      let v = c.visit.ensures in
      let p = c.in-Some.place in
      let is : c.due.result ≡ Some p = cc in
      let none = unvisited c.loop.into.items c.visit.new.into.items c.args.self.now c.loop.self c.visit.new.self c.due.new.self p (c.loop.invariant.5 b short).0 c.loop.invariant.2
      (record { stops = e.stops; count = e.kept.0; again = e.kept.1; visit = e.kept.2 }) (e.order p is).1 (c.in-Some.ensures.few) v.on.1 v.visits v.shares v.takes in
      each_trans (λ s t. StopGoes s t) c.args.self.now.tour.stops.items c.loop.self.tour.stops.items c.visit.new.self.tour.stops.items (λ x y z a h. (h.0 ∙ a.0, λ g. h.1 (a.1 g))) (c.loop.invariant.8 b short)
      (subst (λ z. EachPair (λ s t. StopGoes s t) z.items c.visit.new.self.tour.stops.items) e.stops (v.eager none))),
  (let h = c.loop.invariant.9 in let v = c.visit.ensures.events in omega (arith, h, v)),
  (λ lens recover made from ws d f b.
      let e = c.due.ensures in
      let v = c.visit.ensures in
      let r = c.loop.invariant.10 lens recover made from ws d f b in
      let p = c.in-Some.place in
      let is : c.due.result ≡ Some p = cc in
      let yes : c.visit.result ≡ true = cc in
      rounds_more (map run_lead ws) (λ left m octets. IsPassing lens recover made from left m octets ws) (λ left m octets g. many_serve lens recover made from ws left m octets g) (λ left m n octets k g. passing_same lens recover made from ws left m n octets k g)
      c.loop.counter c.loop.self _ c.visit.new.self c.loop.into.items c.visit.new.into.items p r (record { stops = e.stops; count = e.kept.0; again = e.kept.1; visit = e.kept.2; opened = e.kept.3; last = e.kept.4; made = refl; posts = refl; list = refl; lan = refl }) (λ a. e.left p is a) (λ a b g h. passes_at (λ s. is_live s.stand) c.loop.self.tour.stops.items c.due.result p is (e.first a b g h))
      (c.in-Some.ensures.few) v.on.0 v.on.1 v.visits v.counts (λ a b. (v.first a b).1)
      (λ left other a o s g. subst (λ (z : Bool). IsPassing lens recover made from (if z then other else left) c.visit.new.self c.visit.new.into.items ws) yes (v.serves lens recover made from left other ws (let w = b.room in let h = c.loop.invariant.6.few in let t = c.loop-test.true in omega (arith, w, h, t)) (let u = c.loop.invariant.9 in let e = b.listed in let t = c.loop-test.true in omega (arith, u, e, t)) d a o s g))),
  c.visit.ensures.head ∙ c.loop.invariant.11,
  (λ few base x. c.visit.ensures.answers (let h = c.loop.invariant.9 in let t = c.loop-test.true in omega (arith, few, h, t)) base (c.loop.invariant.12 few base x)),
)

pub returns-in_default-clause-joins : goal.returns-in_default-clause-joins
returns-in_default-clause-joins c = subst (λ z. EachPair (λ s t. t.side.hand.found.join ≡ s.side.hand.found.join) c.args.self.now.tour.stops.items z.items) (sym c.due.ensures.stops) c.loop.invariant.4

pub returns-then-not-visit-clause-joins : goal.returns-then-not-visit-clause-joins
returns-then-not-visit-clause-joins c =
    each_trans (λ s t. t.side.hand.found.join ≡ s.side.hand.found.join) c.args.self.now.tour.stops.items c.loop.self.tour.stops.items c.visit.new.self.tour.stops.items (λ x y z a b. b ∙ a) c.loop.invariant.4
    (subst (λ z. EachPair (λ s t. t.side.hand.found.join ≡ s.side.hand.found.join) z.items c.visit.new.self.tour.stops.items) c.due.ensures.stops c.visit.ensures.joins)

pub returns-then-self-count-clause-joins : goal.returns-then-self-count-clause-joins
returns-then-self-count-clause-joins c =
    each_trans (λ s t. t.side.hand.found.join ≡ s.side.hand.found.join) c.args.self.now.tour.stops.items c.loop.self.tour.stops.items c.visit.new.self.tour.stops.items (λ x y z a b. b ∙ a) c.loop.invariant.4
    (subst (λ z. EachPair (λ s t. t.side.hand.found.join ≡ s.side.hand.found.join) z.items c.visit.new.self.tour.stops.items) c.due.ensures.stops c.visit.ensures.joins)

pub returns-clause-joins : goal.returns-clause-joins
returns-clause-joins c = c.loop.invariant.4

pub returns-in_default-clause-visited : goal.returns-in_default-clause-visited
returns-in_default-clause-visited c = λ b short.
    let e = c.due.ensures in
    let none : c.due.result ≡ None = cc in
    let was = (c.loop.invariant.5 b short).1 in
    let test = c.loop-test.true in
    visiting_same c.loop.into.items c.args.self.now c.loop.self _ (few_stops c.args.self.now) (omega (arith, was, test)) c.loop.invariant.2 (record { stops = e.stops; count = e.kept.0; again = e.kept.1; visit = e.kept.2; opened = e.kept.3; last = e.kept.4; made = refl; posts = refl; list = refl; lan = refl }) (e.none none) (e.ends none)
    (c.loop.invariant.5 b short).0

pub returns-then-not-visit-clause-visited : goal.returns-then-not-visit-clause-visited
returns-then-not-visit-clause-visited c = λ b short.
    let e = c.due.ensures in
    let v = c.visit.ensures in
    let p = c.in-Some.place in
    let is : c.due.result ≡ Some p = cc in
    let no : c.visit.result ≡ false = cc in
    visiting_still c.loop.into.items c.visit.new.into.items c.args.self.now c.loop.self c.visit.new.self c.due.new.self p (c.loop.invariant.5 b short).0 c.loop.invariant.2
    (record { stops = e.stops; count = e.kept.0; again = e.kept.1; visit = e.kept.2 })
    (e.order p is).1 (c.in-Some.ensures.few) v.on.1 v.visits v.shares v.takes (v.room (v.still no).0) (v.still no).0

pub returns-clause-visited : goal.returns-clause-visited
returns-clause-visited c = λ b short.
    let was = (c.loop.invariant.5 b short).1 in
    let over = c.loop-test.false in
    visiting_last c.loop.into.items c.args.self.now c.loop.self (few_stops c.args.self.now) (omega (arith, was, over)) (c.loop.invariant.5 b short).0

pub returns-then-self-count-clause-visited : goal.returns-then-self-count-clause-visited
returns-then-self-count-clause-visited c = λ b short.
    let e = c.due.ensures in
    let v = c.visit.ensures in
    let p = c.in-Some.place in
    let is : c.due.result ≡ Some p = cc in
    let same = c.if-self-count.true in
    let still : c.visit.new.self.tour.count ≡ c.due.new.self.count = omega (arith, same) in
    visiting_still c.loop.into.items c.visit.new.into.items c.args.self.now c.loop.self c.visit.new.self c.due.new.self p (c.loop.invariant.5 b short).0 c.loop.invariant.2 (record { stops = e.stops; count = e.kept.0; again = e.kept.1; visit = e.kept.2 })
    (e.order p is).1 (c.in-Some.ensures.few) v.on.1 v.visits v.shares v.takes (v.room still) still

pub returns-then-self-count-clause-filled : goal.returns-then-self-count-clause-filled
returns-then-self-count-clause-filled c = λ lens recover made from as' d x.
    let e = c.due.ensures in
    let v = c.visit.ensures in
    let f = c.loop.invariant.3 lens recover made from as' d x in
    let p = c.in-Some.place in
    let is : c.due.result ≡ Some p = cc in
    let yes : c.visit.result ≡ true = cc in
    fills_last lens recover made from as' (c.loop.counter + 1) c.visit.new.self c.visit.new.into.items (omega arith)
    (fills_more lens recover made from as' c.loop.counter c.loop.self _ c.visit.new.self c.loop.into.items c.visit.new.into.items p f
    (record { stops = e.stops; count = e.kept.0; again = e.kept.1; visit = e.kept.2; opened = e.kept.3; last = e.kept.4; made = refl; posts = refl; list = refl; lan = refl })
    (λ a. e.left p is a) (λ a b g h. passes_at (λ s. is_live s.stand) c.loop.self.tour.stops.items c.due.result p is (e.first a b g h))
    (c.in-Some.ensures.few) v.on.0 v.on.1 v.quiet v.visits v.counts (λ a b. (v.first a b).1)
    (λ left other q a o s g. subst (λ (z : Bool). IsFilling lens recover made from (if z then other else left) c.visit.new.self c.visit.new.into.items as') yes (v.led lens recover made from left other as' (let w = x.room in let h = c.loop.invariant.6.few in let t = c.loop-test.true in omega (arith, w, h, t)) (let w = x.list in let h = c.loop.invariant.9 in let t = c.loop-test.true in omega (arith, w, h, t)) q d a o s g)))

pub returns-in_default-clause-lan : goal.returns-in_default-clause-lan
returns-in_default-clause-lan c = happens_more c.loop.counter 16 _ _ (omega arith) c.loop.invariant.6

pub returns-then-not-visit-clause-lan : goal.returns-then-not-visit-clause-lan
returns-then-not-visit-clause-lan c = happens_more (c.loop.counter + 1) 16 _ _ (omega arith) (happens_then c.loop.counter 1 _ _ _ c.loop.invariant.6 c.visit.ensures.lan)

pub returns-then-self-count-clause-lan : goal.returns-then-self-count-clause-lan
returns-then-self-count-clause-lan c = happens_more (c.loop.counter + 1) 16 _ _ (omega arith) (happens_then c.loop.counter 1 _ _ _ c.loop.invariant.6 c.visit.ensures.lan)

pub returns-clause-lan : goal.returns-clause-lan
returns-clause-lan c = happens_more c.loop.counter 16 _ _ (omega arith) c.loop.invariant.6

pub returns-in_default-clause-made : goal.returns-in_default-clause-made
returns-in_default-clause-made c = c.loop.invariant.7

pub returns-then-not-visit-clause-made : goal.returns-then-not-visit-clause-made
returns-then-not-visit-clause-made c = makes_then _ _ _ c.loop.invariant.7 c.visit.ensures.made

pub returns-then-self-count-clause-made : goal.returns-then-self-count-clause-made
returns-then-self-count-clause-made c = makes_then _ _ _ c.loop.invariant.7 c.visit.ensures.made

pub returns-clause-made : goal.returns-clause-made
returns-clause-made c = c.loop.invariant.7

pub returns-in_default-clause-eager : goal.returns-in_default-clause-eager
returns-in_default-clause-eager c = λ b short.
    subst (λ z. EachPair (λ s t. StopGoes s t) c.args.self.now.tour.stops.items z.items) (sym c.due.ensures.stops) (c.loop.invariant.8 b short)

pub returns-then-not-visit-clause-eager : goal.returns-then-not-visit-clause-eager
returns-then-not-visit-clause-eager c = λ b short.
    let e = c.due.ensures in
    let v = c.visit.ensures in
    let p = c.in-Some.place in
    let is : c.due.result ≡ Some p = cc in
    let was = c.loop.invariant.8 b short in
    let none = unvisited c.loop.into.items c.visit.new.into.items c.args.self.now c.loop.self c.visit.new.self c.due.new.self p (c.loop.invariant.5 b short).0 c.loop.invariant.2
    (record { stops = e.stops; count = e.kept.0; again = e.kept.1; visit = e.kept.2 }) (e.order p is).1 (c.in-Some.ensures.few) v.on.1 v.visits v.shares v.takes in
    each_trans (λ s t. StopGoes s t) c.args.self.now.tour.stops.items c.loop.self.tour.stops.items c.visit.new.self.tour.stops.items (λ x y z a h. (h.0 ∙ a.0, λ g. h.1 (a.1 g))) was
    (subst (λ z. EachPair (λ s t. StopGoes s t) z.items c.visit.new.self.tour.stops.items) e.stops (v.eager none))

pub returns-then-self-count-clause-eager : goal.returns-then-self-count-clause-eager
returns-then-self-count-clause-eager c = λ b short.
    let e = c.due.ensures in
    let v = c.visit.ensures in
    let p = c.in-Some.place in
    let is : c.due.result ≡ Some p = cc in
    let was = c.loop.invariant.8 b short in
    let none = unvisited c.loop.into.items c.visit.new.into.items c.args.self.now c.loop.self c.visit.new.self c.due.new.self p (c.loop.invariant.5 b short).0 c.loop.invariant.2
    (record { stops = e.stops; count = e.kept.0; again = e.kept.1; visit = e.kept.2 }) (e.order p is).1 (c.in-Some.ensures.few) v.on.1 v.visits v.shares v.takes in
    each_trans (λ s t. StopGoes s t) c.args.self.now.tour.stops.items c.loop.self.tour.stops.items c.visit.new.self.tour.stops.items (λ x y z a h. (h.0 ∙ a.0, λ g. h.1 (a.1 g))) was
    (subst (λ z. EachPair (λ s t. StopGoes s t) z.items c.visit.new.self.tour.stops.items) e.stops (v.eager none))

pub returns-clause-eager : goal.returns-clause-eager
returns-clause-eager c = c.loop.invariant.8

pub returns-in_default-clause-serves : goal.returns-in_default-clause-serves
returns-in_default-clause-serves c = λ lens recover made from ws d f b.
    let e = c.due.ensures in
    let r = c.loop.invariant.10 lens recover made from ws d f b in
    let none : c.due.result ≡ None = cc in
    let x = rounds_same (map run_lead ws) (λ left m octets. IsPassing lens recover made from left m octets ws) (λ left m octets g. many_serve lens recover made from ws left m octets g) (λ left m n octets k g. passing_same lens recover made from ws left m n octets k g)
    c.loop.counter c.loop.self _ c.loop.into.items (record { stops = e.stops; count = e.kept.0; again = e.kept.1; visit = e.kept.2; opened = e.kept.3; last = e.kept.4; made = refl; posts = refl; list = refl; lan = refl }) r
    (some_count c.loop.counter (λ z. let y = r.none z in passes_some (λ s. is_live s.stand) c.loop.self.tour.stops.items c.due.result none (e.first y.count y.passed y.begins y.some))) in
    (x.left, x.filling, x.ends)

pub returns-then-not-visit-clause-serves : goal.returns-then-not-visit-clause-serves
returns-then-not-visit-clause-serves c = λ lens recover made from ws d f b.
    let e = c.due.ensures in
    let v = c.visit.ensures in
    let r = c.loop.invariant.10 lens recover made from ws d f b in
    let p = c.in-Some.place in
    let is : c.due.result ≡ Some p = cc in
    let no : c.visit.result ≡ false = cc in
    let next = e.left p is (λ a. r.once) in
    let x = rounds_still (map run_lead ws) (λ left m octets. IsPassing lens recover made from left m octets ws) (λ left m octets g. many_serve lens recover made from ws left m octets g) (λ left m n octets k g. passing_same lens recover made from ws left m n octets k g)
    c.loop.counter c.loop.self _ c.visit.new.self c.loop.into.items c.visit.new.into.items p
    (some_count c.loop.counter (λ z.
    let y = r.none z in
    let yes = (v.first y.short (subst (λ w. holds_at (λ s. is_live s.stand) w.items p ≡ true) (sym e.stops) (passes_at (λ s. is_live s.stand) c.loop.self.tour.stops.items c.due.result p is (e.first y.count y.passed y.begins y.some)))).0 in
    (let w : true ≡ false = sym yes ∙ no in cc)))
    r (record { stops = e.stops; count = e.kept.0; again = e.kept.1; visit = e.kept.2; opened = e.kept.3; last = e.kept.4; made = refl; posts = refl; list = refl; lan = refl }) (r.most p next.among) v.on.0 (v.still no).0 (v.still no).1
    (λ left other a o s g. subst (λ (z : Bool). IsPassing lens recover made from (if z then other else left) c.visit.new.self c.visit.new.into.items ws) no (v.serves lens recover made from left other ws (let w = b.room in let h = c.loop.invariant.6.few in let t = c.loop-test.true in omega (arith, w, h, t)) (let u = c.loop.invariant.9 in let e = b.listed in let t = c.loop-test.true in omega (arith, u, e, t)) d a o s g)) in
    (x.left, x.filling, x.ends)

pub returns-clause-serves : goal.returns-clause-serves
returns-clause-serves c = λ lens recover made from ws d f b.
    let x = rounds_last (map run_lead ws) (λ left m octets. IsPassing lens recover made from left m octets ws) (λ left m octets g. many_serve lens recover made from ws left m octets g) (λ left m n octets k g. passing_same lens recover made from ws left m n octets k g) c.loop.counter c.loop.self c.loop.into.items (let t = c.loop-test.false in omega (arith, t)) (c.loop.invariant.10 lens recover made from ws d f b) in
    (x.left, x.filling, x.ends)

pub returns-then-self-count-clause-serves : goal.returns-then-self-count-clause-serves
returns-then-self-count-clause-serves c = λ lens recover made from ws d f b.
    let e = c.due.ensures in
    let v = c.visit.ensures in
    let r = c.loop.invariant.10 lens recover made from ws d f b in
    let p = c.in-Some.place in
    let is : c.due.result ≡ Some p = cc in
    let yes : c.visit.result ≡ true = cc in
    let x = rounds_last (map run_lead ws) (λ left m octets. IsPassing lens recover made from left m octets ws) (λ left m octets g. many_serve lens recover made from ws left m octets g) (λ left m n octets k g. passing_same lens recover made from ws left m n octets k g) (c.loop.counter + 1) c.visit.new.self c.visit.new.into.items (omega arith)
    (rounds_more (map run_lead ws) (λ left m octets. IsPassing lens recover made from left m octets ws) (λ left m octets g. many_serve lens recover made from ws left m octets g) (λ left m n octets k g. passing_same lens recover made from ws left m n octets k g)
    c.loop.counter c.loop.self _ c.visit.new.self c.loop.into.items c.visit.new.into.items p r (record { stops = e.stops; count = e.kept.0; again = e.kept.1; visit = e.kept.2; opened = e.kept.3; last = e.kept.4; made = refl; posts = refl; list = refl; lan = refl }) (λ a. e.left p is a) (λ a b g h. passes_at (λ s. is_live s.stand) c.loop.self.tour.stops.items c.due.result p is (e.first a b g h))
    (c.in-Some.ensures.few) v.on.0 v.on.1 v.visits v.counts (λ a b. (v.first a b).1)
    (λ left other a o s g. subst (λ (z : Bool). IsPassing lens recover made from (if z then other else left) c.visit.new.self c.visit.new.into.items ws) yes (v.serves lens recover made from left other ws (let w = b.room in let h = c.loop.invariant.6.few in let t = c.loop-test.true in omega (arith, w, h, t)) (let u = c.loop.invariant.9 in let e = b.listed in let t = c.loop-test.true in omega (arith, u, e, t)) d a o s g))) in
    (x.left, x.filling, x.ends)

pub returns-in_default-clause-head : goal.returns-in_default-clause-head
returns-in_default-clause-head c = c.loop.invariant.11

pub returns-then-not-visit-clause-head : goal.returns-then-not-visit-clause-head
returns-then-not-visit-clause-head c = c.visit.ensures.head ∙ c.loop.invariant.11

pub returns-then-self-count-clause-head : goal.returns-then-self-count-clause-head
returns-then-self-count-clause-head c = c.visit.ensures.head ∙ c.loop.invariant.11

pub returns-clause-head : goal.returns-clause-head
returns-clause-head c = c.loop.invariant.11

pub returns-in_default-clause-answers : goal.returns-in_default-clause-answers
returns-in_default-clause-answers c = c.loop.invariant.12

pub returns-then-not-visit-clause-answers : goal.returns-then-not-visit-clause-answers
returns-then-not-visit-clause-answers c = λ few base x. c.visit.ensures.answers (let h = c.loop.invariant.9 in let t = c.loop-test.true in omega (arith, few, h, t)) base (c.loop.invariant.12 few base x)

pub returns-then-self-count-clause-answers : goal.returns-then-self-count-clause-answers
returns-then-self-count-clause-answers c = λ few base x. c.visit.ensures.answers (let h = c.loop.invariant.9 in let t = c.loop-test.true in omega (arith, few, h, t)) base (c.loop.invariant.12 few base x)

pub returns-clause-answers : goal.returns-clause-answers
returns-clause-answers c = c.loop.invariant.12
