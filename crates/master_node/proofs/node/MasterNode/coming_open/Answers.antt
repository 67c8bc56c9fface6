use Rattle.std.proofs.Common.{◌≡◌, ◌<◌, true, false, Some, [], sym, ◌∙◌, arith, length, rules}
use Rattle.std.specs.Prelude.{is_some}
use Rattle.life_runs.specs.of_master_side.Free.{is_free_side}
use Rattle.life_runs.specs.of_master_tour.declared.stop.Stand.{Stand}
use Rattle.master_node.specs.Coming.{IsComing, next_of}
use Rattle.master_node.specs.Starts.{IsByMails, NoneComes, SideFrees}
use Rattle.master_node.specs.declared.coming.Coming.{Coming}
use Rattle.master_node.proofs.Lists.{some_here}
use Rattle.master_node.proofs.Restings.{never}
use Rattle.master_node.proofs.Starts.{none_waiting, some_waiting, waits_other}
use Rattle.master_node.specs.Passes.{IsNextState, waits_in}
use Rattle.master_node.specs.Serving.{mails_in}
use Rattle.master_node.proofs.Mailings.{mail_waits, next_state, none_left, none_waits, script_last, waits_here}
use Rattle.master_node.proofs.node.MasterNode.coming_open.Goals as goal

pub returns-then-not-is_free-clause-none : goal.returns-then-not-is_free-clause-none
returns-then-not-is_free-clause-none c = λ e.
    let m = c.args.self.now in
    let l : c.args.place < length m.tour.stops.items = omega (arith, c.requires, m.paired, m.tour.stops.ok.0) in
    let free : c.is_free.result ≡ false = search rules in
    some_here (λ s. s.stand ≡ Stand.Open → SideFrees s.side → NoneComes m.lan c.args.place (next_of s) × (waits_in (mails_in m) c.args.place ≡ [])) m.tour.stops.items c.args.place c.index-stop.result.now l c.index-stop.ensures
    (λ o f. absurd (never (sym free ∙ c.is_free.ensures.may f.speech f.side f.account f.known f.shows f.hand f.unpassed f.free f.done)))

pub returns-then-waits-clause-waits : goal.returns-then-waits-clause-waits
returns-then-waits-clause-waits c =
    let yes : c.waits.result ≡ true = search rules in
    λ e. some_waiting _ (sym c.waits.ensures ∙ yes) e

pub returns-clause-comes : goal.returns-clause-comes
returns-clause-comes c = λ w.
    let m = c.args.self.now in
    let l : c.args.place < length m.tour.stops.items = omega (arith, c.requires, m.paired, m.tour.stops.ok.0) in
    some_here (λ s. IsComing (next_of s) c.scripted.result) m.tour.stops.items c.args.place c.index-stop.result.now l c.index-stop.ensures c.scripted.ensures.comes

pub returns-clause-none : goal.returns-clause-none
returns-clause-none c = λ e.
    let m = c.args.self.now in
    let l : c.args.place < length m.tour.stops.items = omega (arith, c.requires, m.paired, m.tour.stops.ok.0) in
    let no : c.waits.result ≡ false = search rules in
    let k : c.args.place < length m.posts.items = omega (arith, c.requires, m.posts.ok.0) in
    let without : c.has_mail.result ≡ false = search rules in
    some_here (λ s. s.stand ≡ Stand.Open → SideFrees s.side → NoneComes m.lan c.args.place (next_of s) × (waits_in (mails_in m) c.args.place ≡ [])) m.tour.stops.items c.args.place c.index-stop.result.now l c.index-stop.ensures
    (λ o f. ((none_waiting _ (sym c.waits.ensures ∙ no), c.scripted.ensures.none e), none_left m.posts.items c.args.place c.index.result.now k c.index.ensures (c.has_mail.ensures.0 without)))

pub returns-clause-last : goal.returns-clause-last
returns-clause-last c =
    let m = c.args.self.now in
    let k : c.args.place < length m.posts.items = omega (arith, c.requires, m.posts.ok.0) in
    let without : c.has_mail.result ≡ false = search rules in
    script_last (waits_in (mails_in m) c.args.place) c.scripted.result (none_left m.posts.items c.args.place c.index.result.now k c.index.ensures (c.has_mail.ensures.0 without))

pub returns-clause-mails : goal.returns-clause-mails
returns-clause-mails c =
    let m = c.args.self.now in
    let l : c.args.place < length m.tour.stops.items = omega (arith, c.requires, m.paired, m.tour.stops.ok.0) in
    some_here (λ s. c.scripted.result ≡ Some Coming.Script → IsByMails (next_of s)) m.tour.stops.items c.args.place c.index-stop.result.now l c.index-stop.ensures c.scripted.ensures.mails

pub returns-clause-waits : goal.returns-clause-waits
returns-clause-waits c = waits_other c.args.self.now.lan c.args.place c.scripted.result c.scripted.ensures.packet

pub returns-then-not-is_free-clause-free : goal.returns-then-not-is_free-clause-free
returns-then-not-is_free-clause-free c =
    let m = c.args.self.now in
    let l : c.args.place < length m.tour.stops.items = omega (arith, c.requires, m.paired, m.tour.stops.ok.0) in
    some_here (λ s. false ≡ true → is_free_side s.side ≡ true) m.tour.stops.items c.args.place c.index-stop.result.now l c.index-stop.ensures (λ e. absurd (cc))

pub returns-then-waits-clause-free : goal.returns-then-waits-clause-free
returns-then-waits-clause-free c =
    let m = c.args.self.now in
    let l : c.args.place < length m.tour.stops.items = omega (arith, c.requires, m.paired, m.tour.stops.ok.0) in
    let free : c.is_free.result ≡ true = search rules in
    some_here (λ s. true ≡ true → is_free_side s.side ≡ true) m.tour.stops.items c.args.place c.index-stop.result.now l c.index-stop.ensures (λ e. sym c.is_free.ensures.is ∙ free)

pub returns-then-has_mail-clause-free : goal.returns-then-has_mail-clause-free
returns-then-has_mail-clause-free c =
    let m = c.args.self.now in
    let l : c.args.place < length m.tour.stops.items = omega (arith, c.requires, m.paired, m.tour.stops.ok.0) in
    let free : c.is_free.result ≡ true = search rules in
    some_here (λ s. true ≡ true → is_free_side s.side ≡ true) m.tour.stops.items c.args.place c.index-stop.result.now l c.index-stop.ensures (λ e. sym c.is_free.ensures.is ∙ free)

pub returns-clause-free : goal.returns-clause-free
returns-clause-free c =
    let m = c.args.self.now in
    let l : c.args.place < length m.tour.stops.items = omega (arith, c.requires, m.paired, m.tour.stops.ok.0) in
    let free : c.is_free.result ≡ true = search rules in
    some_here (λ s. is_some c.scripted.result ≡ true → is_free_side s.side ≡ true) m.tour.stops.items c.args.place c.index-stop.result.now l c.index-stop.ensures (λ e. sym c.is_free.ensures.is ∙ free)

pub returns-clause-states : goal.returns-clause-states
returns-clause-states c =
    let m = c.args.self.now in
    let l : c.args.place < length m.tour.stops.items = omega (arith, c.requires, m.paired, m.tour.stops.ok.0) in
    some_here (λ s. IsNextState (next_of s) c.scripted.result) m.tour.stops.items c.args.place c.index-stop.result.now l c.index-stop.ensures (next_state _ c.scripted.result c.scripted.ensures.comes)

pub returns-clause-oldest : goal.returns-clause-oldest
returns-clause-oldest c = mail_waits _ _ c.scripted.result c.scripted.ensures.comes

pub returns-then-has_mail-clause-oldest : goal.returns-then-has_mail-clause-oldest
returns-then-has_mail-clause-oldest c = λ e.
    let m = c.args.self.now in
    let k : c.args.place < length m.posts.items = omega (arith, c.requires, m.posts.ok.0) in
    let p = c.index.result.now in
    let some : c.has_mail.result ≡ true = search rules in
    let none = c.has_mail.ensures.1 (none_waits p (sym (waits_here m.posts.items c.args.place p k c.index.ensures) ∙ e)) in
    absurd (let w : true ≡ false = sym some ∙ none in cc)
