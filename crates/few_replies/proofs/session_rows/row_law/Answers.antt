-- The lemma on the newest row, at the types of the function.
use Rattle.std.proofs.Common.{◌≡◌, true, false, Some, List, [], ◌∷◌, ◌++◌}
use Rattle.slave_parts.specs.of_segment_model.Seats.{is_over}
use Rattle.slave_parts.specs.of_state_model.Stated.{Service}
use Rattle.slave_parts.specs.of_state_model.Accounts.{Started}
use Rattle.slave_parts.proofs.of_life_model.Eras.{session_of, of_one}
use Rattle.few_replies.specs.Newest.{IsWholeRow}
use Rattle.slave_parts.proofs.of_state_model.Sessions.{of_slaves}
use Rattle.few_replies.proofs.Wholes
use Rattle.few_replies.proofs.session_rows.row_law.Goals as goal

pub returns : goal.returns
returns g c = λ w r k.
    let p = session_of w in
    of_one w (λ station start side a n. side.now ≡ Some r → (before : List (Started _)) → a.started ≡ before ++ record { service = Service.Mails r.service; frame = r.frame } ∷ [] → is_over w.exchange.speech side.halves.out.holding side.fresh r ≡ true → IsWholeRow w r)
    (of_slaves p.exchange p.lawful p.states p.stated p.processor p.table (λ m. false) p.planned.tells p.plan p.planned p.sides p.accounts p.ring p.frames p.tasked
    (λ t fs station start side a n. side.now ≡ Some r → (before : List (Started _)) → a.started ≡ before ++ record { service = Service.Mails r.service; frame = r.frame } ∷ [] → is_over w.exchange.speech side.halves.out.holding side.fresh r ≡ true → IsWholeRow w r)
    (λ t begun is fs seat a h now before newest over.
    (let k = Wholes.newest_whole p.exchange p.lawful p.states p.stated t (λ m. false) begun is fs seat a h r now before newest over in
    record { server = k.server; ready = k.ready; whole = k.whole })))
    k.now k.before k.newest k.over
