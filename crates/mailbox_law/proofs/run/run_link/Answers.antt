-- The order of the mails is that of the link behind the steps.
use Rattle.std.proofs.Common.{List, ◌++◌, ap, sym, ◌∙◌, append_assoc}
use Rattle.mailbox_master.proofs.of_link_model.Law.{taken_of_held, accepted_of_offered}
use Rattle.mailbox_master.specs.of_link_mails.Body.{Body}
use Rattle.mailbox_law.specs.Waiting.{bodies_of}
use Rattle.mailbox_law.specs.Steps.{link_behind}
use Rattle.mailbox_law.proofs.Running.{behind_accords, behind_given}
use Rattle.mailbox_law.proofs.run.run_link.Goals as goal

pub returns-clause-taken_in_order : goal.returns-clause-taken_in_order
returns-clause-taken_in_order c =
    let steps = c.args.steps.now in
    let s = c.in_ok-world.ensures.shows in
    let order = taken_of_held (link_behind steps) (behind_accords steps).agrees in
    let taken = ap bodies_of (c.in_ok-rows_of.ensures ∙ c.into_taken.ensures) ∙ s.taken in
    (order.0, s.held ∙ order.1 ∙ ap (λ xs. xs ++ order.0) (sym taken))

pub returns-clause-accepted_in_order : goal.returns-clause-accepted_in_order
returns-clause-accepted_in_order c =
    let steps = c.args.steps.now in
    let s = c.in_ok-world.ensures.shows in
    let w = link_behind steps in
    let order = accepted_of_offered w (behind_accords steps).agrees in
    let rest : List Body = order.0 ++ w.node.server in
    (rest, s.given ∙ ap (λ xs. xs ++ w.node.server) order.1 ∙ append_assoc w.accepted order.0 w.node.server ∙ ap (λ xs. xs ++ rest) (sym s.accepted))

pub returns-clause-offered : goal.returns-clause-offered
returns-clause-offered c = c.in_ok-world.ensures.shows.given ∙ behind_given c.args.steps.now
