use Rattle.std.proofs.Common.{◌≤◌, refl, ap, arith, length, [], sym}
use Rattle.std.specs.Prelude.{◌&&◌, not}
use Rattle.life_runs.specs.of_master_tour.Goes.{is_live, holds_at}
use Rattle.master_node.specs.Downs.{is_given_up}
use Rattle.master_node.proofs.Downs.{lists_none, down_not, holds_beyond}
use Rattle.master_node.proofs.Tells.{node_refl}
use Rattle.master_node.proofs.Happenings.{happens_none}
use Rattle.master_node.specs.Serving.{mails_in}
use Rattle.master_node.proofs.Droppeds.{drops_none}
use Rattle.master_node.proofs.Endings.{drop_none}
use Rattle.master_node.specs.Besides.{given_at, given_told}
use Rattle.master_node.proofs.Besides.{besides_as, besides_none, stop_beyond}
use Rattle.master_node.proofs.node.MasterNode.given_up_at.Goals as goal

pub returns-else-place-len-clause-kept : goal.returns-else-place-len-clause-kept
returns-else-place-len-clause-kept c = node_refl _

pub returns-else-place-len-clause-lan : goal.returns-else-place-len-clause-lan
returns-else-place-len-clause-lan c = happens_none 1 _ _ refl

pub returns-else-place-len-clause-listed : goal.returns-else-place-len-clause-listed
returns-else-place-len-clause-listed c =
    let m = c.args.self.now in
    let p = c.args.place in
    let l : length m.tour.stops.items ≤ p = omega (arith, c.if-place-len.false, c.len.ensures, m.paired, m.tour.stops.ok.0) in
    lists_none _ _ _ (down_not _ _ (ap (λ z. z && holds_at (λ s. not (is_live s.stand)) m.tour.stops.items p) (holds_beyond (λ s. is_given_up s.news) m.tour.stops.items p l))) refl

pub returns-else-place-len-clause-mails : goal.returns-else-place-len-clause-mails
returns-else-place-len-clause-mails c =
    let m = c.args.self.now in
    let p = c.args.place in
    let l : length m.tour.stops.items ≤ p = omega (arith, c.if-place-len.false, c.len.ensures, m.paired, m.tour.stops.ok.0) in
    drops_none _ p (mails_in m) (mails_in m) (holds_beyond (λ s. is_given_up s.news) m.tour.stops.items p l) refl

pub returns-else-place-len-clause-works : goal.returns-else-place-len-clause-works
returns-else-place-len-clause-works c =
    let m = c.args.self.now in
    let p = c.args.place in
    let l : length m.tour.stops.items ≤ p = omega (arith, c.if-place-len.false, c.len.ensures, m.paired, m.tour.stops.ok.0) in
    drop_none _ p m.posts.items m.posts.items (holds_beyond (λ s. is_given_up s.news) m.tour.stops.items p l) refl

pub returns-else-place-len-clause-told : goal.returns-else-place-len-clause-told
returns-else-place-len-clause-told c =
    let m = c.args.self.now in
    let place = c.args.place in
    let l : length m.tour.stops.items ≤ place = omega (arith, c.if-place-len.false, c.len.ensures, m.paired, m.tour.stops.ok.0) in
    besides_as [] (given_at m.tour.stops.items place) m m (sym (stop_beyond [] (λ t. given_told place t.news) m.tour.stops.items place l)) (besides_none m m refl refl)
