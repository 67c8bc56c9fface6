use Rattle.std.proofs.Common.{◌≡◌, ◌<◌, ◌+◌, ℕ, List, length, map, true, false, refl, sym, ap, ◌∙◌, subst, arith}
use Rattle.std.specs.Prelude.{slice_get}
use Rattle.packets_heard.specs.of_master_node.Lives.{waiting_of}
use Rattle.run_notes.specs.declared.standing.AskedMail.{AskedMail}
use Rattle.run_record.specs.Session.{IsDone, SessionState, asked_more, asked_mail}
use Rattle.run_record.proofs.Asking.{full_so, asked_on, taken_back}
use Rattle.run_record.proofs.ServingAsks.{serving_asks, serving_stays}
use Rattle.run_record.proofs.session.Session.ask.Goals as goal

pub returns-then-ask-clause-asked : goal.returns-then-ask-clause-asked
returns-then-ask-clause-asked c =
    let own : length c.self.inside.ring.nodes ≡ length c.args.self.now.ring.nodes = ap (λ (s : SessionState). length s.ring.nodes) c.self.view_is in
    let lists = c.self.invariant.6 in
    let inside : c.args.slave < length c.self.inside.log.asked = omega (arith, own, lists, c.requires) in
    let rows : List (List AskedMail) → SessionState = λ a. record { ring = c.self.inside.ring; notes = c.self.inside.log.notes; homes = c.self.inside.log.homes; asked = a; waiting = map waiting_of c.ask.new.self.posts.items; master = c.ask.new.self; ports = 1 + length c.self.inside.log.ports; at_ports = c.self.inside.log.ports; recover = c.self.inside.log.recover; budget = c.self.inside.budget; serving = c.self.inside.serving } in
    ap rows (asked_on c.self.inside.log.asked c.args.slave c.at_mut-asked.result.now c.add.new.self c.args.key c.args.mail.now c.in_ok-body.body inside c.at_mut-asked.ensures.value (c.in_ok-body.ensures ∙ c.as_slice.ensures.value) c.in_ok-add.ensures.ok)
    ∙ ap (λ (s : SessionState). record s { asked = asked_more s.asked c.args.slave (asked_mail c.args.key c.args.mail.now); waiting = map waiting_of c.ask.new.self.posts.items; master = c.ask.new.self }) c.self.view_is

pub returns-then-ask-clause-full : goal.returns-then-ask-clause-full
returns-then-ask-clause-full c =
    let own : length c.self.inside.ring.nodes ≡ length c.args.self.now.ring.nodes = ap (λ (s : SessionState). length s.ring.nodes) c.self.view_is in
    let posts = c.self.invariant.7 in
    let inside : c.args.slave < length c.self.inside.master.posts.items = omega (arith, own, posts, c.requires, c.self.inside.master.posts.ok.0) in
    let w : map waiting_of c.self.inside.master.posts.items ≡ c.args.self.now.waiting = ap (λ (s : SessionState). s.waiting) c.self.view_is in
    let f = full_so c.self.inside.master.posts.items c.args.slave true inside c.if-ask.ensures.full in
    (λ e. absurd (cc), λ e. let no = f.1 (ap (λ (l : List ℕ). slice_get l c.args.slave) w ∙ e) in absurd (cc))

pub returns-clause-asked : goal.returns-clause-asked
returns-clause-asked c =
    let own : length c.self.inside.ring.nodes ≡ length c.args.self.now.ring.nodes = ap (λ (s : SessionState). length s.ring.nodes) c.self.view_is in
    let lists = c.self.invariant.6 in
    let inside : c.args.slave < length c.self.inside.log.asked = omega (arith, own, lists, c.requires) in
    let rows : List (List AskedMail) → SessionState = λ a. record { ring = c.self.inside.ring; notes = c.self.inside.log.notes; homes = c.self.inside.log.homes; asked = a; waiting = map waiting_of c.ask.new.self.posts.items; master = c.ask.new.self; ports = 1 + length c.self.inside.log.ports; at_ports = c.self.inside.log.ports; recover = c.self.inside.log.recover; budget = c.self.inside.budget; serving = c.self.inside.serving } in
    ap rows (taken_back c.self.inside.log.asked c.args.slave c.at_mut-asked.result.now c.add.new.self c.at_mut.result.now c.pop.new.self _ c.pop.result inside c.at_mut-asked.ensures.value c.in_ok-add.ensures.ok c.at_mut.ensures.value c.pop.ensures.last)
    ∙ ap (λ (s : SessionState). record s { waiting = map waiting_of c.ask.new.self.posts.items; master = c.ask.new.self }) c.self.view_is

pub returns-clause-full : goal.returns-clause-full
returns-clause-full c =
    let own : length c.self.inside.ring.nodes ≡ length c.args.self.now.ring.nodes = ap (λ (s : SessionState). length s.ring.nodes) c.self.view_is in
    let posts = c.self.invariant.7 in
    let inside : c.args.slave < length c.self.inside.master.posts.items = omega (arith, own, posts, c.requires, c.self.inside.master.posts.ok.0) in
    let w : map waiting_of c.self.inside.master.posts.items ≡ c.args.self.now.waiting = ap (λ (s : SessionState). s.waiting) c.self.view_is in
    let f = full_so c.self.inside.master.posts.items c.args.slave false inside c.if-ask.ensures.full in
    (λ e. ap (λ (l : List ℕ). slice_get l c.args.slave) (sym w) ∙ f.0 refl, λ e. refl)

pub returns-then-ask-clause-serves : goal.returns-then-ask-clause-serves
returns-then-ask-clause-serves c =
    serving_asks _ _ _ c.args.slave c.args.key c.args.mail.now c.self.view_is c.if-ask.ensures.served (λ full. (let bad : true ≡ false = c.if-ask.ensures.full.1 full in cc)) c.if-ask.ensures.kept.0 c.if-ask.ensures.kept.1 refl
    (ap (λ (s : SessionState). s.asked) (returns-then-ask-clause-asked c)) refl refl c.if-ask.ensures.counts

pub returns-clause-serves : goal.returns-clause-serves
returns-clause-serves c =
    serving_stays _ _ _ c.args.slave c.args.key c.args.mail.now c.self.view_is c.if-ask.ensures.kept.0 c.if-ask.ensures.kept.1 refl c.if-ask.ensures.kept.2 (c.if-ask.ensures.stays refl)
    (ap (λ (s : SessionState). s.asked) (returns-clause-asked c)) refl refl

pub returns-then-ask-clause-done : goal.returns-then-ask-clause-done
returns-then-ask-clause-done c = λ d. subst (λ (s : SessionState). IsDone s) c.self.view_is (record { idle = c.if-ask.ensures.idle d.idle; at_rest = d.at_rest })

pub returns-clause-done : goal.returns-clause-done
returns-clause-done c = λ d. subst (λ (s : SessionState). IsDone s) c.self.view_is (record { idle = c.if-ask.ensures.idle d.idle; at_rest = d.at_rest })
