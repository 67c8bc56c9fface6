use Rattle.std.proofs.Common.{◌<◌, refl, sym, ap, subst, arith, length, ◌++◌, ◌∷◌, [], Some, ◌∙◌, append-nil, ◌≡◌, None}
use Rattle.life_runs.specs.of_master_tour.Walks.{StepsAt}
use Rattle.master_node.specs.Begins.{TakesOn, taken_for}
use Rattle.master_node.specs.Coming.{PassesBy}
use Rattle.master_node.proofs.Kepts.{stop_same}
use Rattle.master_node.proofs.Lists.{steps_same}
use Rattle.life_runs.proofs.of_master_tour.Walks.{each_same, steps_set}
use Rattle.master_node.proofs.Rooms.{sends_same}
use Rattle.master_node.proofs.Begins.{takes_none}
use Rattle.master_node.proofs.Happenings.{happens_none}
use Rattle.master_node.proofs.Made.{makes_none}
use Rattle.master_node.specs.Listing.{ListsOne, events_in}
use Rattle.master_node.specs.declared.event.Event.{Event}
use Rattle.master_node.proofs.Listing.{before_of_list, events_of_list}
use Rattle.std.specs.Prelude.{map}
use Rattle.master_node.specs.Serving.{waits_of}
use Rattle.master_node.proofs.Servings.{posts_set}
use Rattle.master_node.specs.Handed.{work_from}
use Rattle.master_node.proofs.Numbereds.{numbers_same}
use Rattle.master_node.proofs.node.MasterNode.begun.Goals as goal

pub returns-in-None-clause-begun : goal.returns-in-None-clause-begun
returns-in-None-clause-begun c =
    let m = c.args.self.now in
    let l : c.args.place < length m.tour.stops.items = omega (arith, c.requires, m.paired, m.tour.stops.ok.0) in
    subst (λ z. StepsAt (λ s t. PassesBy z s t) c.args.place m.tour.stops.items m.tour.stops.items) (sym c.in-None.is) (steps_same _ c.args.place m.tour.stops.items l (λ s. stop_same s))

pub returns-in-Some-clause-begun : goal.returns-in-Some-clause-begun
returns-in-Some-clause-begun c =
    subst (λ z. StepsAt (λ s t. PassesBy z s t) c.args.place c.args.self.now.tour.stops.items c.pass_by.new.self.tour.stops.items) (sym c.in-Some.is) c.pass_by.ensures.begun

pub returns-in-None-clause-joins : goal.returns-in-None-clause-joins
returns-in-None-clause-joins c = each_same _ c.args.self.now.tour.stops.items (λ s. refl)

pub returns-in-Some-clause-joins : goal.returns-in-Some-clause-joins
returns-in-Some-clause-joins c = c.pass_by.ensures.joins

pub returns-in-None-clause-put : goal.returns-in-None-clause-put
returns-in-None-clause-put c =
    let m = c.args.self.now in
    let l : c.args.place < length m.tour.stops.items = omega (arith, c.requires, m.paired, m.tour.stops.ok.0) in
    steps_same _ c.args.place m.tour.stops.items l (λ s. (refl, refl, refl))

pub returns-in-None-clause-sends : goal.returns-in-None-clause-sends
returns-in-None-clause-sends c =
    let m = c.args.self.now in
    let l : c.args.place < length m.tour.stops.items = omega (arith, c.requires, m.paired, m.tour.stops.ok.0) in
    steps_same _ c.args.place m.tour.stops.items l (λ s. sends_same s)

pub returns-in-None-clause-takes : goal.returns-in-None-clause-takes
returns-in-None-clause-takes c =
    let m = c.args.self.now in
    takes_none _ m.lan m.lan (ap (λ z. taken_for m.lan c.args.place z) (sym c.in-None.is)) refl

pub returns-in-Some-clause-takes : goal.returns-in-Some-clause-takes
returns-in-Some-clause-takes c =
    let m = c.args.self.now in
    subst (λ z. TakesOn (taken_for m.lan c.args.place z) m.lan c.pass_by.new.self.lan) (sym c.in-Some.is) c.pass_by.ensures.takes

pub returns-in-None-clause-lan : goal.returns-in-None-clause-lan
returns-in-None-clause-lan c = happens_none 1 _ _ refl

pub returns-in-None-clause-made : goal.returns-in-None-clause-made
returns-in-None-clause-made c = makes_none _ _ refl

pub returns-in-None-clause-fewer : goal.returns-in-None-clause-fewer
returns-in-None-clause-fewer c = λ k e. e

pub returns-in-None-clause-lists : goal.returns-in-None-clause-lists
returns-in-None-clause-lists c =
    let m = c.args.self.now in
    let k : c.args.place < length m.posts.items = omega (arith, c.requires, m.posts.ok.0) in
    subst (λ z. StepsAt (λ p q. ListsOne c.args.place z m m p q) c.args.place m.posts.items m.posts.items) (sym c.in-None.is)
    (steps_same _ c.args.place m.posts.items k (λ p. record { listed = λ few. sym (append-nil (events_in m)); counts = refl; numbered = λ asked h. h; answer = refl }))

pub returns-in-Some-clause-lists : goal.returns-in-Some-clause-lists
returns-in-Some-clause-lists c =
    let m = c.args.self.now in
    let n = c.pass_by.new.self in
    let k : c.args.place < length m.posts.items = omega (arith, c.requires, m.posts.ok.0) in
    subst (λ z. StepsAt (λ p q. ListsOne c.args.place z m n p q) c.args.place m.posts.items n.posts.items) (sym c.in-Some.is)
    (subst (λ z. StepsAt (λ p q. ListsOne c.args.place (Some c.in-Some.what) m n p q) c.args.place m.posts.items z.items) (sym c.pass_by.ensures.posts)
    (steps_set _ c.args.place m.posts.items c.index_mut.result.now _ k c.index_mut.ensures.value
    (record {
      listed = λ few.
          events_of_list c.put.new.self n.list c.pass_by.ensures.list ∙ c.put.ensures.last few ∙ ap (λ z. events_in m ++ Event.Began c.args.place z ∷ []) c.begin-origin.ensures.origin;
      counts = c.begin-origin.ensures.forwards;
      numbered = numbers_same c.index_mut.result.now _ c.begin-origin.ensures.oldest (ap (λ z. z.items) c.begin-origin.ensures.mails);
      answer = c.begin-origin.ensures.answer;
    })))

pub returns-in-None-clause-events : goal.returns-in-None-clause-events
returns-in-None-clause-events c = omega arith

pub returns-in-Some-clause-events : goal.returns-in-Some-clause-events
returns-in-Some-clause-events c = let e = ap (λ z. z.count) c.pass_by.ensures.list in let f = c.put.ensures.few in omega (arith, e, f)

pub returns-in-Some-clause-mails : goal.returns-in-Some-clause-mails
returns-in-Some-clause-mails c =
    let m = c.args.self.now in
    let k : c.args.place < length m.posts.items = omega (arith, c.requires, m.posts.ok.0) in
    ap (λ z. map waits_of z.items) c.pass_by.ensures.posts ∙ posts_set m.posts.items c.args.place c.index_mut.result.now _ k c.index_mut.ensures.value (ap (λ z. z.items) c.begin-origin.ensures.mails)

pub returns-in-None-clause-works : goal.returns-in-None-clause-works
returns-in-None-clause-works c =
    let m = c.args.self.now in
    let k : c.args.place < length m.posts.items = omega (arith, c.requires, m.posts.ok.0) in
    subst (λ z. StepsAt (λ p q. q.work ≡ work_from z p) c.args.place m.posts.items m.posts.items) (sym c.in-None.is) (steps_same (λ p q. q.work ≡ work_from None p) c.args.place m.posts.items k (λ p. refl))

pub returns-in-Some-clause-works : goal.returns-in-Some-clause-works
returns-in-Some-clause-works c =
    let m = c.args.self.now in
    let k : c.args.place < length m.posts.items = omega (arith, c.requires, m.posts.ok.0) in
    let n = c.pass_by.new.self in
    subst (λ z. StepsAt (λ p q. q.work ≡ work_from z p) c.args.place m.posts.items n.posts.items) (sym c.in-Some.is)
    (subst (λ z. StepsAt (λ p q. q.work ≡ work_from (Some c.in-Some.what) p) c.args.place m.posts.items z.items) (sym c.pass_by.ensures.posts)
    (steps_set (λ p q. q.work ≡ work_from (Some c.in-Some.what) p) c.args.place m.posts.items c.index_mut.result.now _ k c.index_mut.ensures.value c.begin-origin.ensures.work))

pub returns-in-None-clause-head : goal.returns-in-None-clause-head
returns-in-None-clause-head c = refl

pub returns-in-Some-clause-head : goal.returns-in-Some-clause-head
returns-in-Some-clause-head c = before_of_list _ _ c.pass_by.ensures.list ∙ c.put.ensures.head
