-- The lemma on drained state services, at the types of the function.
use Rattle.std.proofs.Common.{◌≡◌, ◌+◌, false, Some}
use Rattle.slave_parts.specs.of_state_model.Accounts.{Duty, Stage}
use Rattle.slave_parts.specs.of_state_model.Promise.{services_in, mails_in}
use Rattle.slave_parts.specs.of_state_model.States.{Phase}
use Rattle.slave_parts.proofs.of_life_model.Eras.{session_of, of_one}
use Rattle.slave_parts.proofs.of_state_model.Sessions.{of_slaves}
use Rattle.few_replies.proofs.Drains
use Rattle.few_replies.proofs.session_rows.drained_law.Goals as goal

pub returns : goal.returns
returns g c = λ w d.
    let p = session_of w in
    of_one w (λ station start side a n. (duty : Duty) → a.hand ≡ Some duty → (phase : Phase) → duty.stage ≡ Stage.Goes phase → w.exchange.handled n.node.server.server ≡ w.exchange.handled start + mails_in (services_in a.started))
    (of_slaves p.exchange p.lawful p.states p.stated p.processor p.table (λ m. false) p.planned.tells p.plan p.planned p.sides p.accounts p.ring p.frames p.tasked
    (λ t fs station start side a n. (duty : Duty) → a.hand ≡ Some duty → (phase : Phase) → duty.stage ≡ Stage.Goes phase → w.exchange.handled n.node.server.server ≡ w.exchange.handled start + mails_in (services_in a.started))
    (λ t begun is fs seat a h duty hand phase stage. Drains.drained p.exchange p.lawful p.states p.stated t (λ m. false) begun is fs seat a h duty hand phase stage))
    d.duty d.hand d.phase d.stage
