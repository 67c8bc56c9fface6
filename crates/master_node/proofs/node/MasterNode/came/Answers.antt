use Rattle.std.proofs.Common.{◌<◌, refl, sym, ap, subst, arith, length, append-nil, ◌≡◌, None}
use Rattle.life_runs.specs.of_master_tour.Walks.{StepsAt}
use Rattle.master_node.specs.Begins.{TakesOn, taken_where}
use Rattle.master_node.specs.Coming.{CameBy}
use Rattle.master_node.proofs.Kepts.{stop_same}
use Rattle.master_node.proofs.Lists.{steps_same}
use Rattle.life_runs.proofs.of_master_tour.Walks.{each_same}
use Rattle.master_node.proofs.Rooms.{sends_same}
use Rattle.master_node.proofs.Begins.{takes_none}
use Rattle.master_node.proofs.Happenings.{happens_none}
use Rattle.master_node.proofs.Made.{makes_none}
use Rattle.master_node.specs.Listing.{ListsOne, events_in, where_began}
use Rattle.master_node.specs.Handed.{work_from}
use Rattle.master_node.proofs.node.MasterNode.came.Goals as goal

pub returns-then-began-clause-came : goal.returns-then-began-clause-came
returns-then-began-clause-came c =
    subst (λ z. StepsAt (λ s t. CameBy z c.args.coming s t) c.args.place c.args.self.now.tour.stops.items c.begun.new.self.tour.stops.items) (sym c.if-began.true) c.begun.ensures.begun

pub returns-else-began-clause-came : goal.returns-else-began-clause-came
returns-else-began-clause-came c =
    let m = c.args.self.now in
    let l : c.args.place < length m.tour.stops.items = omega (arith, c.requires, m.paired, m.tour.stops.ok.0) in
    subst (λ z. StepsAt (λ s t. CameBy z c.args.coming s t) c.args.place m.tour.stops.items m.tour.stops.items) (sym c.if-began.false) (steps_same _ c.args.place m.tour.stops.items l (λ s. stop_same s))

pub returns-then-began-clause-joins : goal.returns-then-began-clause-joins
returns-then-began-clause-joins c = c.begun.ensures.joins

pub returns-else-began-clause-joins : goal.returns-else-began-clause-joins
returns-else-began-clause-joins c = each_same _ c.args.self.now.tour.stops.items (λ s. refl)

pub returns-else-began-clause-put : goal.returns-else-began-clause-put
returns-else-began-clause-put c =
    let m = c.args.self.now in
    let l : c.args.place < length m.tour.stops.items = omega (arith, c.requires, m.paired, m.tour.stops.ok.0) in
    steps_same _ c.args.place m.tour.stops.items l (λ s. (refl, refl, refl))

pub returns-else-began-clause-sends : goal.returns-else-began-clause-sends
returns-else-began-clause-sends c =
    let m = c.args.self.now in
    let l : c.args.place < length m.tour.stops.items = omega (arith, c.requires, m.paired, m.tour.stops.ok.0) in
    steps_same _ c.args.place m.tour.stops.items l (λ s. sends_same s)

pub returns-then-began-clause-takes : goal.returns-then-began-clause-takes
returns-then-began-clause-takes c =
    let m = c.args.self.now in
    subst (λ z. TakesOn (taken_where z m.lan c.args.place c.args.coming) m.lan c.begun.new.self.lan) (sym c.if-began.true) c.begun.ensures.takes

pub returns-else-began-clause-takes : goal.returns-else-began-clause-takes
returns-else-began-clause-takes c =
    let m = c.args.self.now in
    takes_none _ m.lan m.lan (ap (λ z. taken_where z m.lan c.args.place c.args.coming) (sym c.if-began.false)) refl

pub returns-else-began-clause-lan : goal.returns-else-began-clause-lan
returns-else-began-clause-lan c = happens_none 1 _ _ refl

pub returns-else-began-clause-made : goal.returns-else-began-clause-made
returns-else-began-clause-made c = makes_none _ _ refl

pub returns-else-began-clause-fewer : goal.returns-else-began-clause-fewer
returns-else-began-clause-fewer c = λ k e. e

pub returns-then-began-clause-lists : goal.returns-then-began-clause-lists
returns-then-began-clause-lists c =
    let m = c.args.self.now in
    let n = c.begun.new.self in
    subst (λ z. StepsAt (λ p q. ListsOne c.args.place (where_began z c.args.coming) m n p q) c.args.place m.posts.items n.posts.items) (sym c.if-began.true) c.begun.ensures.lists

pub returns-else-began-clause-lists : goal.returns-else-began-clause-lists
returns-else-began-clause-lists c =
    let m = c.args.self.now in
    let k : c.args.place < length m.posts.items = omega (arith, c.requires, m.posts.ok.0) in
    subst (λ z. StepsAt (λ p q. ListsOne c.args.place (where_began z c.args.coming) m m p q) c.args.place m.posts.items m.posts.items) (sym c.if-began.false)
    (steps_same _ c.args.place m.posts.items k (λ p. record { listed = λ few. sym (append-nil (events_in m)); counts = refl; numbered = λ asked h. h; answer = refl }))

pub returns-then-began-clause-events : goal.returns-then-began-clause-events
returns-then-began-clause-events c = c.begun.ensures.events

pub returns-else-began-clause-events : goal.returns-else-began-clause-events
returns-else-began-clause-events c = omega arith

pub returns-then-began-clause-mails : goal.returns-then-began-clause-mails
returns-then-began-clause-mails c = c.begun.ensures.mails

pub returns-then-began-clause-works : goal.returns-then-began-clause-works
returns-then-began-clause-works c =
    subst (λ z. StepsAt (λ p q. q.work ≡ work_from (where_began z c.args.coming) p) c.args.place c.args.self.now.posts.items c.begun.new.self.posts.items) (sym c.if-began.true) c.begun.ensures.works

pub returns-else-began-clause-works : goal.returns-else-began-clause-works
returns-else-began-clause-works c =
    let m = c.args.self.now in
    let k : c.args.place < length m.posts.items = omega (arith, c.requires, m.posts.ok.0) in
    subst (λ z. StepsAt (λ p q. q.work ≡ work_from (where_began z c.args.coming) p) c.args.place m.posts.items m.posts.items) (sym c.if-began.false) (steps_same (λ p q. q.work ≡ work_from None p) c.args.place m.posts.items k (λ p. refl))

pub returns-then-began-clause-head : goal.returns-then-began-clause-head
returns-then-began-clause-head c = c.begun.ensures.head

pub returns-else-began-clause-head : goal.returns-else-began-clause-head
returns-else-began-clause-head c = refl
