-- What one epoch has gained.
use Rattle.std.proofs.Common.{◌≡◌, ℕ, suc, ◌+◌, ◌*◌, ◌≤◌, false, Option, Some, None, List, [], ◌∷◌, ◌++◌, take, length, refl, ap, arith, length-append, append-nil}
use Rattle.std.proofs.lemmas.List.{length-map}
use Rattle.std.proofs.lemmas.List.Sums.{sum_by-cons}
use Rattle.master_hand.specs.of_exchange_model.Rows.{Row, told_all, heard_all, exec_all}
use Rattle.master_hand.proofs.of_exchange_model.Settles.{told_all_last, heard_all_last}
use Rattle.master_hand.specs.of_segment_model.Seats.{newest, rows_of}
use Rattle.master_hand.specs.of_state_model.States.{Phase}
use Rattle.master_hand.specs.of_state_model.Stated.{Service, states_in, with_states}
use Rattle.master_hand.specs.of_state_model.Accounts.{Stage, Duty, Change, Account, Started}
use Rattle.master_hand.specs.of_state_model.Promise.{TasksPromised, TasksAnswered, services_in, state_of, states_started, changes_in, duty_in}
use Rattle.few_replies.proofs.of_state_model.Sessions.{tasks_promised, tasks_answered}
use Rattle.few_replies.specs.RowCounts.{AreCounted, rows_mails}
use Rattle.few_replies.specs.Services.{service_count, services_count}
use Rattle.few_replies.specs.of_life_model.Gains.{rows_gains, newest_gains, phase_gains, stage_gains, duty_gains, changes_gains, account_gains, era_gains}
use Rattle.few_replies.specs.of_life_model.Eras.{OpenEra, frames_of}
use Rattle.few_replies.specs.of_life_model.Lives.{Era}
use Rattle.few_replies.proofs.of_life_model.Eras.{session_of, of_one}
use Rattle.few_replies.proofs.OfTasks.{tasks_within}
use Rattle.life_counts.specs.Begun.{service_most, begun_most, era_most}

-- ---- mails
rows_same : {M Q R : Type 0} (rs : List (Row M Q R)) → rows_gains rs ≡ rows_mails rs
rows_same [] = refl
rows_same (r ∷ rs) = omega (arith, rows_same rs, length-append r.told (told_all rs), length-append r.heard (heard_all rs))

side_same : {M Q R : Type 0} (past : List (Row M Q R)) (now : Option (Row M Q R)) → rows_gains past + newest_gains now ≡ rows_mails (past ++ newest now)
side_same past None = omega (arith, rows_same past, ap rows_mails (append-nil past))
side_same past (Some r) =
    omega (arith, rows_same past, ap length (told_all_last past r), ap length (heard_all_last past r), length-append (told_all past) r.told, length-append (heard_all past) r.heard)

-- ---- state services
changes_five : {R : Type 0} (cs : List (Change R)) → changes_gains cs ≡ 5 * length cs
changes_five [] = refl
changes_five (c ∷ cs) = omega (arith, changes_five cs)

phase_four : (phase : Phase) → phase_gains phase ≤ 4
phase_four Phase.Ask = omega arith
phase_four Phase.Await = omega arith
phase_four (Phase.Acknowledge state code) = omega arith
phase_four (Phase.Recover code) = omega arith

stage_four : (stage : Stage) → stage_gains stage ≤ 4
stage_four Stage.Drains = omega arith
stage_four (Stage.Goes phase) = phase_four phase

duty_five : (hand : Option Duty) → duty_gains hand ≤ 5 * length (duty_in hand)
duty_five None = omega arith
duty_five (Some duty) = omega (arith, stage_four duty.stage)

one_more : {Q : Type 0} (q : Service Q) (frame : ℕ) (ss : List (ℕ × ℕ)) (qs : List (Service Q)) → length ss ≡ states_in qs → length (state_of q frame ++ ss) ≡ states_in (q ∷ qs)
one_more (Service.Mails q) frame ss qs e = e
one_more (Service.State target) frame ss qs e = ap suc e

states_length : {Q : Type 0} (ss : List (Started Q)) → length (states_started ss) ≡ states_in (services_in ss)
states_length [] = refl
states_length (r ∷ rs) = one_more r.service r.frame (states_started rs) (services_in rs) (states_length rs)

account_five : {Q R : Type 0} (a : Account Q R) → states_started a.started ≡ changes_in a.over ++ duty_in a.hand → account_gains a ≤ 5 * states_in (services_in a.started)
account_five a e =
    let over : length (changes_in a.over) ≡ length a.over = length-map a.over _ in
    omega (arith, changes_five a.over, duty_five a.hand, states_length a.started, ap length e, length-append (changes_in a.over) (duty_in a.hand), over)

-- ---- both
both_most : {Q : Type 0} (count : Q → ℕ) (qs : List (Service Q)) → services_count count qs + 5 * states_in qs ≡ begun_most count qs
both_most count [] = refl
both_most count (Service.Mails q ∷ qs) = omega (arith, both_most count qs, sum_by-cons (λ q. service_count count q) (Service.Mails q) qs, sum_by-cons (λ q. service_most count q) (Service.Mails q) qs)
both_most count (Service.State target ∷ qs) = omega (arith, both_most count qs, sum_by-cons (λ q. service_count count q) (Service.State target) qs, sum_by-cons (λ q. service_most count q) (Service.State target) qs)

pub era_within : {M Q R : Type 0} (count : Q → ℕ) (e : Era M Q R) → rows_mails (rows_of e.side) ≤ services_count count (services_in e.account.started) →
    states_started e.account.started ≡ changes_in e.account.over ++ duty_in e.account.hand → era_gains e ≤ era_most count e
era_within count e mails states =
    omega (arith, side_same e.side.past e.side.now, mails, account_five e.account states, both_most count (services_in e.account.started))

-- an epoch as the model has it
pub epoch_within : {V A M Q R K : Type 0} (w : OpenEra V A M Q R) (shape : V → K) (count : K → Q → ℕ) → AreCounted w.exchange shape count → ((state : ℕ) (v : V) → shape (w.states.tell state v) ≡ shape v) →
    era_gains w.era ≤ era_most (count (shape w.server)) w.era
epoch_within w shape count counted tells =
    let q = session_of w in
    let mails = of_one w (λ station start d a n. rows_mails (rows_of d) ≤ services_count (count (shape start)) (services_in a.started))
    (tasks_within q.exchange q.lawful q.states q.stated shape count tells counted q.processor q.table q.planned.tells q.plan q.planned q.sides q.accounts q.ring q.frames q.tasked) in
    let answered = of_one w (λ station start d a n. TasksAnswered w.exchange w.states (w.table station) (λ m. false) (frames_of w) station start d a n)
    (tasks_answered q.exchange q.lawful q.states q.stated q.processor q.table (λ m. false) q.planned.tells q.plan q.planned q.sides q.accounts q.ring q.frames q.tasked) in
    era_within (count (shape w.server)) w.era mails answered.states

-- and the application that its slave has then
pub epoch_app : {V A M Q R : Type 0} (w : OpenEra V A M Q R) →
    (count : ℕ) × (w.exchange.app w.slave.node.server.server ≡ (exec_all (with_states w.exchange w.states (w.table w.spot.station)) (w.exchange.app w.server, 0) (take count (services_in w.era.account.started))).0)
epoch_app w =
    let q = session_of w in
    let t = of_one w (λ station start d a n. TasksPromised w.exchange w.states (w.table station) (λ m. false) (frames_of w) station start d a n)
    (tasks_promised q.exchange q.lawful q.states q.stated q.processor q.table (λ m. false) q.planned.tells q.plan q.planned q.sides q.accounts q.ring q.frames q.tasked) in
    (t.count, t.app)
