use Rattle.std.proofs.Common.{◌<◌, ◌∙◌, sym, ap, length, arith}
use Rattle.std.proofs.lemmas.Bool.{OnFalse_from}
use Rattle.master_node.specs.Shows.{WaitsNone}
use Rattle.master_node.proofs.Mailings.{none_waits, waits_here}
use Rattle.master_node.proofs.Places.{waiting_here}
use Rattle.master_node.proofs.Starts.{none_waiting, some_waiting}
use Rattle.master_node.proofs.Quiets.{quiet_here}
use Rattle.master_node.proofs.node.MasterNode.has_waiting.Goals as goal

pub returns-then-waits-clause-rests : goal.returns-then-waits-clause-rests
returns-then-waits-clause-rests c = λ w none. absurd (some_waiting _ (sym c.waits.ensures ∙ c.if-waits.true) none)

pub returns-clause-rests : goal.returns-clause-rests
returns-clause-rests c = λ w none.
    let m = c.args.self.now in
    let l : c.args.place < length m.posts.items = omega (arith, c.requires, m.posts.ok.0) in
    c.has_mail.ensures.1 (none_waits c.index.result.now (sym (waits_here m.posts.items c.args.place c.index.result.now l c.index.ensures) ∙ w))

pub returns-clause-none : goal.returns-clause-none
returns-clause-none c =
    let m = c.args.self.now in
    let l : c.args.place < length m.posts.items = omega (arith, c.requires, m.posts.ok.0) in
    OnFalse_from c.has_mail.result _
    (λ no. (none_waiting _ (sym c.waits.ensures ∙ c.if-waits.false), sym (waiting_here m.posts.items c.args.place c.index.result.now l c.index.ensures) ∙ ap length (c.has_mail.ensures.0 no)))

pub returns-clause-mails : goal.returns-clause-mails
returns-clause-mails c =
    OnFalse_from c.has_mail.result _ (λ e. quiet_here WaitsNone c.args.self.now.posts.items c.args.place c.index.result.now c.index.ensures (c.has_mail.ensures.0 e))
