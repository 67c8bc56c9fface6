use Rattle.std.proofs.Common.{◌≡◌, ◌∙◌, Bool, [], refl, sym, true, false, rules, arith}
use Rattle.std.specs.Prelude.{◌&&◌, slice_get}
use Rattle.life_runs.specs.of_master_tour.declared.stop.Stand.{Stand}
use Rattle.master_node.specs.Passes.{waits_in}
use Rattle.master_node.specs.Serving.{mails_in}
use Rattle.master_node.proofs.Restings.{never, all_rest, if_with, quiet_in}
use Rattle.std.proofs.lemmas.Bool.{OnFalse_at, OnFalse_from}
use Rattle.master_node.proofs.Mailless.{all_out}
use Rattle.master_node.proofs.Quiets.{all_left}
use Rattle.master_node.proofs.node.MasterNode.wants.Goals as goal

pub returns-clause-left : goal.returns-clause-left
returns-clause-left c =
    let no : c.has_wanting.result ≡ false = search rules in
    OnFalse_from c.has_coming.result _
    (λ none lens recover retry missed as' shown placed. all_left lens recover as' c.args.self.now.tour.stops.items shown.each placed (OnFalse_at no c.has_wanting.ensures.quiet))

pub returns-clause-served : goal.returns-clause-served
returns-clause-served c =
    let no : c.has_wanting.result ≡ false = search rules in
    OnFalse_from c.has_coming.result _
    (λ none lens recover retry missed made ws shown placed.
    let m = c.args.self.now in
    all_out lens recover made ws m.posts.items m.tour.stops.items shown.each placed (OnFalse_at no c.has_wanting.ensures.quiet) (λ k l. OnFalse_at no c.has_wanting.ensures.mails k (omega (arith, l, m.posts.ok.0))))

pub returns-then-has_wanting-clause-rests : goal.returns-then-has_wanting-clause-rests
returns-then-has_wanting-clause-rests c = λ lens recover retry missed as' shown rests come.
    let yes : c.has_wanting.result ≡ true = search rules in
    let m = c.args.self.now in
    absurd (never (sym (c.has_wanting.ensures.rests (λ k. if_with _ (λ s. s.stand ≡ Stand.Open → waits_in (mails_in m) k ≡ []) (slice_get m.tour.stops.items k) (λ s o. quiet_in m.posts.items shown.quiet k) (all_rest lens recover m.lan as' m.tour.stops.items shown.each rests k))) ∙ yes))

pub returns-then-has_wanting-clause-idle : goal.returns-then-has_wanting-clause-idle
returns-then-has_wanting-clause-idle c = λ idle.
    let yes : c.has_wanting.result ≡ true = search rules in
    absurd (never (sym (c.has_wanting.ensures.rests idle.rest) ∙ yes))

pub returns-clause-idle : goal.returns-clause-idle
returns-clause-idle c = λ idle. c.has_coming.ensures.none idle.come

pub returns-clause-rests : goal.returns-clause-rests
returns-clause-rests c = λ lens recover retry missed as' shown rests come. c.has_coming.ensures.none come

-- while a slave is live no packet of the host is left
no_left : (left live : Bool) → (left && live) ≡ false → live ≡ true → left ≡ false
no_left false live e f = refl
no_left true live e f = absurd (never (sym e ∙ f))

pub returns-clause-come : goal.returns-clause-come
returns-clause-come c =
    let no : c.has_wanting.result ≡ false = search rules in
    OnFalse_from c.has_coming.result _ (λ none. record { slaves = OnFalse_at no c.has_wanting.ensures.waits; host = λ live. no_left _ _ (sym c.has_coming.ensures.is ∙ none) live })
