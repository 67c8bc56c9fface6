use Rattle.std.proofs.Common.{◌<◌, sym, subst, arith, length, ap, refl, ◌≡◌, None}
use Rattle.life_runs.specs.of_master_tour.Walks.{StepsAt}
use Rattle.master_node.specs.Begins.{LaysOldest}
use Rattle.master_node.specs.Coming.{IsLaid}
use Rattle.master_node.specs.Kept.{StopStays}
use Rattle.master_node.proofs.Kepts.{stop_same}
use Rattle.master_node.proofs.Lists.{steps_same, steps_each}
use Rattle.life_runs.proofs.of_master_tour.Walks.{each_same}
use Rattle.master_node.specs.Origins.{LaysFrom}
use Rattle.master_node.specs.Starts.{LaysPacket, WaitsFor}
use Rattle.master_node.specs.Passes.{LaysMail, waits_behind, waits_in}
use Rattle.master_node.specs.Serving.{mails_in}
use Rattle.master_node.proofs.Mailings.{waits_stay}
use Rattle.master_node.specs.Handed.{LaysWork}
use Rattle.master_node.proofs.node.MasterNode.lay.Goals as goal

pub returns-in-None-clause-laid : goal.returns-in-None-clause-laid
returns-in-None-clause-laid c =
    let m = c.args.self.now in
    let l : c.args.place < length m.tour.stops.items = omega (arith, c.requires, m.paired, m.tour.stops.ok.0) in
    let e = c.in-None.is in
    subst (λ z. StepsAt (λ s t. StopStays s t × IsLaid z t.side.hand.laying.laid) c.args.place m.tour.stops.items m.tour.stops.items) (sym e) (steps_same _ c.args.place m.tour.stops.items l (λ s. (stop_same s, tt)))

pub returns-in-Some-clause-laid : goal.returns-in-Some-clause-laid
returns-in-Some-clause-laid c =
    subst (λ z. StepsAt (λ s t. StopStays s t × IsLaid z t.side.hand.laying.laid) c.args.place c.args.self.now.tour.stops.items c.lay_coming.new.self.tour.stops.items) (sym c.in-Some.is) c.lay_coming.ensures.laid

pub returns-in-None-clause-joins : goal.returns-in-None-clause-joins
returns-in-None-clause-joins c = each_same _ c.args.self.now.tour.stops.items (λ s. refl)

pub returns-in-Some-clause-joins : goal.returns-in-Some-clause-joins
returns-in-Some-clause-joins c = steps_each _ _ c.args.place c.args.self.now.tour.stops.items c.lay_coming.new.self.tour.stops.items (λ s. refl) (λ s t p. ap (λ z. z.join) p.0.side.found) c.lay_coming.ensures.laid

pub returns-in-None-clause-oldest : goal.returns-in-None-clause-oldest
returns-in-None-clause-oldest c =
    let m = c.args.self.now in
    let l : c.args.place < length m.tour.stops.items = omega (arith, c.requires, m.paired, m.tour.stops.ok.0) in
    subst (λ z. StepsAt (λ s t. LaysOldest m.lan c.args.place z t) c.args.place m.tour.stops.items m.tour.stops.items) (sym c.in-None.is) (steps_same _ c.args.place m.tour.stops.items l (λ s. tt))

pub returns-in-Some-clause-oldest : goal.returns-in-Some-clause-oldest
returns-in-Some-clause-oldest c =
    let m = c.args.self.now in
    subst (λ z. StepsAt (λ s t. LaysOldest m.lan c.args.place z t) c.args.place m.tour.stops.items c.lay_coming.new.self.tour.stops.items) (sym c.in-Some.is) c.lay_coming.ensures.oldest

pub returns-in-None-clause-origins : goal.returns-in-None-clause-origins
returns-in-None-clause-origins c =
    let m = c.args.self.now in
    let l : c.args.place < length m.tour.stops.items = omega (arith, c.requires, m.paired, m.tour.stops.ok.0) in
    let k : c.args.place < length m.posts.items = omega (arith, c.requires, m.posts.ok.0) in
    subst (λ z. StepsAt (λ s t. StepsAt (λ p q. LaysFrom z s.side.hand.laying.number p q) c.args.place m.posts.items m.posts.items) c.args.place m.tour.stops.items m.tour.stops.items) (sym c.in-None.is)
    (steps_same _ c.args.place m.tour.stops.items l (λ s. steps_same _ c.args.place m.posts.items k (λ p. record { counts = refl; origin = tt; gateway = tt; numbered = λ asked h. h; answer = refl })))

pub returns-in-Some-clause-origins : goal.returns-in-Some-clause-origins
returns-in-Some-clause-origins c =
    let m = c.args.self.now in
    let n = c.lay_coming.new.self in
    subst (λ z. StepsAt (λ s t. StepsAt (λ p q. LaysFrom z s.side.hand.laying.number p q) c.args.place m.posts.items n.posts.items) c.args.place m.tour.stops.items n.tour.stops.items) (sym c.in-Some.is) c.lay_coming.ensures.origins

pub returns-in-None-clause-sure : goal.returns-in-None-clause-sure
returns-in-None-clause-sure c = λ w.
    let m = c.args.self.now in
    let l : c.args.place < length m.tour.stops.items = omega (arith, c.requires, m.paired, m.tour.stops.ok.0) in
    subst (λ z. StepsAt (λ s t. LaysPacket z t.side.hand.laying.laid) c.args.place m.tour.stops.items m.tour.stops.items) (sym c.in-None.is) (steps_same _ c.args.place m.tour.stops.items l (λ s. tt))

pub returns-in-Some-clause-sure : goal.returns-in-Some-clause-sure
returns-in-Some-clause-sure c = λ w.
    let m = c.args.self.now in
    subst (λ z. StepsAt (λ s t. LaysPacket z t.side.hand.laying.laid) c.args.place m.tour.stops.items c.lay_coming.new.self.tour.stops.items) (sym c.in-Some.is) (c.lay_coming.ensures.sure (subst (λ z. WaitsFor m.lan c.args.place z) c.in-Some.is w))

pub returns-in-None-clause-mails : goal.returns-in-None-clause-mails
returns-in-None-clause-mails c =
    let m = c.args.self.now in
    let k : c.args.place < length m.posts.items = omega (arith, c.requires, m.posts.ok.0) in
    subst (λ z. StepsAt (λ ks ls. ls ≡ waits_behind z ks) c.args.place (mails_in m) (mails_in m)) (sym c.in-None.is) (waits_stay None c.args.place m.posts.items (mails_in m) (λ ks. refl) k refl)

pub returns-in-Some-clause-mails : goal.returns-in-Some-clause-mails
returns-in-Some-clause-mails c =
    subst (λ z. StepsAt (λ ks ls. ls ≡ waits_behind z ks) c.args.place (mails_in c.args.self.now) (mails_in c.lay_coming.new.self)) (sym c.in-Some.is) c.lay_coming.ensures.mails

pub returns-in-None-clause-ready : goal.returns-in-None-clause-ready
returns-in-None-clause-ready c =
    let m = c.args.self.now in
    let l : c.args.place < length m.tour.stops.items = omega (arith, c.requires, m.paired, m.tour.stops.ok.0) in
    subst (λ z. StepsAt (λ s t. LaysMail z t.side.out.len (waits_in (mails_in m) c.args.place) t.side.hand.laying) c.args.place m.tour.stops.items m.tour.stops.items) (sym c.in-None.is) (steps_same _ c.args.place m.tour.stops.items l (λ s. tt))

pub returns-in-Some-clause-ready : goal.returns-in-Some-clause-ready
returns-in-Some-clause-ready c =
    let m = c.args.self.now in
    subst (λ z. StepsAt (λ s t. LaysMail z t.side.out.len (waits_in (mails_in m) c.args.place) t.side.hand.laying) c.args.place m.tour.stops.items c.lay_coming.new.self.tour.stops.items) (sym c.in-Some.is) c.lay_coming.ensures.ready

pub returns-in-None-clause-works : goal.returns-in-None-clause-works
returns-in-None-clause-works c =
    let m = c.args.self.now in
    let k : c.args.place < length m.posts.items = omega (arith, c.requires, m.posts.ok.0) in
    subst (λ z. StepsAt (λ p q. LaysWork z p q) c.args.place m.posts.items m.posts.items) (sym c.in-None.is) (steps_same (λ p q. LaysWork None p q) c.args.place m.posts.items k (λ p. record { work = refl; next = tt }))

pub returns-in-Some-clause-works : goal.returns-in-Some-clause-works
returns-in-Some-clause-works c =
    subst (λ z. StepsAt (λ p q. LaysWork z p q) c.args.place c.args.self.now.posts.items c.lay_coming.new.self.posts.items) (sym c.in-Some.is) c.lay_coming.ensures.works
