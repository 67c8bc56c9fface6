use Rattle.std.proofs.Common.{◌≡◌, ◌<◌, Option, Some, None, [], true, false, sym, ◌∙◌, arith, length}
use Rattle.std.specs.Prelude.{IfSome, is_some, slice_get}
use Rattle.life_runs.specs.of_master_side.Free.{is_free_side}
use Rattle.life_runs.specs.of_master_tour.declared.stop.Stand.{Stand}
use Rattle.master_node.specs.Coming.{next_of}
use Rattle.master_node.specs.Starts.{NoneComes, SideFrees}
use Rattle.master_node.specs.Passes.{waits_in}
use Rattle.master_node.specs.Serving.{mails_in}
use Rattle.master_node.proofs.Lists.{some_here}
use Rattle.master_node.proofs.node.MasterNode.coming.Goals as goal

some_both : {T : Type 0} (P Q R : T → Type 0) (o : Option T) → ((t : T) → P t → Q t → R t) → IfSome o P → IfSome o Q → IfSome o R
some_both P Q R None f p q = tt
some_both P Q R (Some t) f p q = f t p q

pub returns-in-Gone-clause-none : goal.returns-in-Gone-clause-none
returns-in-Gone-clause-none c = λ e.
    let m = c.args.self.now in
    let l : c.args.place < length m.tour.stops.items = omega (arith, c.requires, m.paired, m.tour.stops.ok.0) in
    some_here (λ s. s.stand ≡ Stand.Open → SideFrees s.side → NoneComes m.lan c.args.place (next_of s) × (waits_in (mails_in m) c.args.place ≡ [])) m.tour.stops.items c.args.place c.index-stop.result.now l c.index-stop.ensures (λ o f. absurd (let t = sym c.in-Gone.is ∙ o in cc))

pub returns-in-Opening-clause-none : goal.returns-in-Opening-clause-none
returns-in-Opening-clause-none c = λ e.
    let m = c.args.self.now in
    let l : c.args.place < length m.tour.stops.items = omega (arith, c.requires, m.paired, m.tour.stops.ok.0) in
    some_here (λ s. s.stand ≡ Stand.Open → SideFrees s.side → NoneComes m.lan c.args.place (next_of s) × (waits_in (mails_in m) c.args.place ≡ [])) m.tour.stops.items c.args.place c.index-stop.result.now l c.index-stop.ensures (λ o f. absurd (let t = sym c.in-Opening.is ∙ o in cc))

pub returns-in-Gone-clause-free : goal.returns-in-Gone-clause-free
returns-in-Gone-clause-free c =
    let m = c.args.self.now in
    let l : c.args.place < length m.tour.stops.items = omega (arith, c.requires, m.paired, m.tour.stops.ok.0) in
    some_here (λ s. false ≡ true → (s.stand ≡ Stand.Open) × (is_free_side s.side ≡ true)) m.tour.stops.items c.args.place c.index-stop.result.now l c.index-stop.ensures (λ e. absurd (cc))

pub returns-in-Opening-clause-free : goal.returns-in-Opening-clause-free
returns-in-Opening-clause-free c =
    let m = c.args.self.now in
    let l : c.args.place < length m.tour.stops.items = omega (arith, c.requires, m.paired, m.tour.stops.ok.0) in
    some_here (λ s. false ≡ true → (s.stand ≡ Stand.Open) × (is_free_side s.side ≡ true)) m.tour.stops.items c.args.place c.index-stop.result.now l c.index-stop.ensures (λ e. absurd (cc))

pub returns-in-Open-clause-free : goal.returns-in-Open-clause-free
returns-in-Open-clause-free c =
    let m = c.args.self.now in
    let l : c.args.place < length m.tour.stops.items = omega (arith, c.requires, m.paired, m.tour.stops.ok.0) in
    let r = c.coming_open.result in
    some_both (λ s. s.stand ≡ Stand.Open) (λ s. is_some r ≡ true → is_free_side s.side ≡ true) (λ s. is_some r ≡ true → (s.stand ≡ Stand.Open) × (is_free_side s.side ≡ true)) (slice_get m.tour.stops.items c.args.place) (λ s o f e. (o, f e))
    (some_here (λ s. s.stand ≡ Stand.Open) m.tour.stops.items c.args.place c.index-stop.result.now l c.index-stop.ensures c.in-Open.is) c.coming_open.ensures.free

pub returns-in-Open-clause-states : goal.returns-in-Open-clause-states
returns-in-Open-clause-states c = c.coming_open.ensures.states

pub returns-in-Open-clause-oldest : goal.returns-in-Open-clause-oldest
returns-in-Open-clause-oldest c = c.coming_open.ensures.oldest

pub returns-in-Open-clause-last : goal.returns-in-Open-clause-last
returns-in-Open-clause-last c = c.coming_open.ensures.last
