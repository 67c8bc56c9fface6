-- The state services that are over and the one in hand are just those of all services that came into hand, in order.
use Rattle.std.proofs.Common.{◌≡◌, ℕ, ◌<◌, ◌≤◌, Option, Some, None, Bool, List, [], ◌∷◌, ◌++◌, refl, ap, sym, ◌∙◌, subst, arith}
use Rattle.std.specs.Prelude.{⊤}
use Rattle.segment_model.specs.of_exchange_model.Exchange.{Exchange}
use Rattle.segment_model.specs.Record.{Frame}
use Rattle.segment_model.specs.Ends.{Outcome}
use Rattle.state_model.specs.States.{Table}
use Rattle.state_model.specs.Promises.{state_behind, answer_of}
use Rattle.state_model.specs.Stated.{Service}
use Rattle.state_model.specs.Accounts.{Started, Stage, Duty, Change}
use Rattle.state_model.specs.Promise.{outcome_of, next_start, states_started, changes_in, duty_in, AllFound, IsOpenYet}
use Rattle.state_model.proofs.Served.{duty_of}

abbrev pub state_start : {Q : Type 0} → ℕ → ℕ → Started Q
state_start target frame = record { service = Service.State target; frame = frame }

abbrev pub mails_start : {Q : Type 0} → Q → ℕ → Started Q
mails_start q frame = record { service = Service.Mails q; frame = frame }

-- each change was complete before the next service, or the frame `end`; and the one in hand is the newest service
pub data InOrder {Q R : Type 0} (end : ℕ) : List (Started Q) → List (Change R) → Option Duty → Type 0 where
  nothing : InOrder end [] [] None
  by_mails : {os : List (Change R)} {hand : Option Duty} (q : Q) (frame : ℕ) (rs : List (Started Q)) → InOrder end rs os hand → InOrder end (mails_start q frame ∷ rs) os hand
  changed : {os : List (Change R)} {hand : Option Duty} (o : Change R) (rs : List (Started Q)) → o.completed < next_start rs end → InOrder end rs os hand → InOrder end (state_start o.target o.frame ∷ rs) (o ∷ os) hand
  in_hand : (duty : Duty) → InOrder end (state_start duty.target duty.frame ∷ []) [] (Some duty)

module _ {Q : Type 0} where
  next_push : (end : ℕ) (rs : List (Started Q)) (r : Started Q) → r.frame ≡ end → next_start (rs ++ r ∷ []) end ≡ next_start rs end
  next_push end [] r e = e
  next_push end (p ∷ rs) r e = refl

  next_later : (end more : ℕ) (rs : List (Started Q)) → end ≤ more → next_start rs end ≤ next_start rs more
  next_later end more [] le = le
  next_later end more (r ∷ rs) le = omega arith

module _ {Q R : Type 0} where
  -- with none in hand one more comes
  pub order_push : (end : ℕ) (rs : List (Started Q)) (os : List (Change R)) (hand new : Option Duty) (r : Started Q) → hand ≡ None → r.frame ≡ end → InOrder {R = R} end (r ∷ []) [] new → InOrder end rs os hand → InOrder end (rs ++ r ∷ []) os new
  order_push end ps ns hand new r e f one InOrder.nothing = one
  order_push end ps ns hand new r e f one (InOrder.by_mails {os = os} q frame rs rest) = InOrder.by_mails q frame (rs ++ r ∷ []) (order_push end rs os hand new r e f one rest)
  order_push end ps ns hand new r e f one (InOrder.changed {os = os} o rs before rest) =
      InOrder.changed o (rs ++ r ∷ []) (subst (λ n. o.completed < n) (sym (next_push end rs r f)) before) (order_push end rs os hand new r e f one rest)
  order_push end ps ns hand new r e f one (InOrder.in_hand duty) = absurd (cc)

  pub order_later : (end more : ℕ) (rs : List (Started Q)) (os : List (Change R)) (hand : Option Duty) → end ≤ more → InOrder end rs os hand → InOrder more rs os hand
  order_later end more ps ns hand le InOrder.nothing = InOrder.nothing
  order_later end more ps ns hand le (InOrder.by_mails {os = os} q frame rs rest) = InOrder.by_mails q frame rs (order_later end more rs os hand le rest)
  order_later end more ps ns hand le (InOrder.changed {os = os} o rs before rest) =
      InOrder.changed o rs (let further = next_later end more rs le in omega (arith, before, further)) (order_later end more rs os hand le rest)
  order_later end more ps ns hand le (InOrder.in_hand duty) = InOrder.in_hand duty

  -- the one in hand goes on
  pub order_on : (end : ℕ) (rs : List (Started Q)) (os : List (Change R)) (hand : Option Duty) (target begun : ℕ) (old stage : Stage) → hand ≡ Some (duty_of target begun old) → InOrder end rs os hand →
      InOrder end rs os (Some (duty_of target begun stage))
  order_on end ps ns hand target begun old stage e InOrder.nothing = absurd (cc)
  order_on end ps ns hand target begun old stage e (InOrder.by_mails {os = os} q frame rs rest) = InOrder.by_mails q frame rs (order_on end rs os hand target begun old stage e rest)
  order_on end ps ns hand target begun old stage e (InOrder.changed {os = os} o rs before rest) = InOrder.changed o rs before (order_on end rs os hand target begun old stage e rest)
  order_on end ps ns hand target begun old stage e (InOrder.in_hand duty) =
      let same : duty ≡ duty_of target begun old = cc in
      subst (λ d. InOrder {Q = Q} {R = R} end (state_start d.target d.frame ∷ []) [] (Some (duty_of target begun stage))) (sym same) (InOrder.in_hand (duty_of target begun stage))

  -- or is over
  pub order_over : (end : ℕ) (rs : List (Started Q)) (os : List (Change R)) (hand : Option Duty) (target begun : ℕ) (old : Stage) (answer : Outcome R) (completed : ℕ) → completed < end → hand ≡ Some (duty_of target begun old) → InOrder end rs os hand →
      InOrder end rs (os ++ record { target = target; frame = begun; answer = answer; completed = completed } ∷ []) None
  order_over end ps ns hand target begun old answer completed below e InOrder.nothing = absurd (cc)
  order_over end ps ns hand target begun old answer completed below e (InOrder.by_mails {os = os} q frame rs rest) = InOrder.by_mails q frame rs (order_over end rs os hand target begun old answer completed below e rest)
  order_over end ps ns hand target begun old answer completed below e (InOrder.changed {os = os} o rs before rest) = InOrder.changed o rs before (order_over end rs os hand target begun old answer completed below e rest)
  order_over end ps ns hand target begun old answer completed below e (InOrder.in_hand duty) =
      let same : duty ≡ duty_of target begun old = cc in
      let o : Change R = record { target = target; frame = begun; answer = answer; completed = completed } in
      subst (λ d. InOrder {Q = Q} {R = R} end (state_start d.target d.frame ∷ []) (o ∷ []) None) (sym same) (InOrder.changed o [] below InOrder.nothing)

-- the state services that came into hand are those that are over and behind them the one in hand
pub order_states : {Q R : Type 0} (end : ℕ) (rs : List (Started Q)) (os : List (Change R)) (hand : Option Duty) → InOrder end rs os hand → states_started rs ≡ changes_in os ++ duty_in hand
order_states end ps ns hand InOrder.nothing = refl
order_states end ps ns hand (InOrder.by_mails {os = os} q frame rs rest) = order_states end rs os hand rest
order_states end ps ns hand (InOrder.changed {os = os} o rs before rest) = ap (λ l. (o.target, o.frame) ∷ l) (order_states end rs os hand rest)
order_states end ps ns hand (InOrder.in_hand duty) = refl

-- each answer is the table's, in the state behind those before it
abbrev pub AllTabled : {R : Type 0} → Table → ℕ → List (Change R) → Type 0
AllTabled table from [] = ⊤
AllTabled table from (o ∷ os) = (o.answer ≡ answer_of (table from o.target)) × AllTabled table (state_behind table from o.target) os

-- the AL state behind a service
abbrev pub state_on : {Q : Type 0} → Table → ℕ → Service Q → ℕ
state_on table from (Service.Mails q) = from
state_on table from (Service.State target) = state_behind table from target

module _ {V A M Q R : Type 0} (x : Exchange V A M Q R) (more : M → Bool) (station : ℕ) (fs : List (Frame M)) where
  -- OF THE STATE SERVICES AMONG ALL THAT CAME INTO HAND: each outcome is the table's, in the state behind those before it
  abbrev pub StateReplied : Table → ℕ → Started Q → Service Q → Type 0
  StateReplied table from r (Service.Mails q) = ⊤
  StateReplied table from r (Service.State target) = (o : Outcome R × ℕ) → outcome_of x.speech more station fs r ≡ Some o → o.0 ≡ answer_of (table from target)

  abbrev pub StatesReplied : Table → ℕ → List (Started Q) → Type 0
  StatesReplied table from [] = ⊤
  StatesReplied table from (r ∷ rs) = StateReplied table from r r.service × StatesReplied table (state_on table from r.service) rs

  -- and each of these has one
  abbrev pub StateEnded : Started Q → Service Q → Type 0
  StateEnded r (Service.Mails q) = ⊤
  StateEnded r (Service.State target) = (o : Outcome R × ℕ) × (outcome_of x.speech more station fs r ≡ Some o)

  abbrev pub StatesEnded : List (Started Q) → Type 0
  StatesEnded [] = ⊤
  StatesEnded (r ∷ rs) = StateEnded r r.service × StatesEnded rs

  pub states_replied : (table : Table) (end from : ℕ) (rs : List (Started Q)) (os : List (Change R)) (hand : Option Duty) → InOrder end rs os hand → AllFound x.speech more station fs os → AllTabled table from os → IsOpenYet x.speech more station fs hand → StatesReplied table from rs
  states_replied table end from ps ns hand InOrder.nothing all tabled none = tt
  states_replied table end from ps ns hand (InOrder.by_mails {os = os} q frame rs rest) all tabled none = (tt, states_replied table end from rs os hand rest all tabled none)
  states_replied table end from ps ns hand (InOrder.changed {os = os} o rs before rest) all tabled none = (
    λ a e. (let same : Some (o.answer, o.completed) ≡ Some a = sym all.0 ∙ e in let is : a ≡ (o.answer, o.completed) = cc in ap (λ b. b.0) is) ∙ tabled.0,
    states_replied table end (state_behind table from o.target) rs os hand rest all.1 tabled.1 none,
  )
  states_replied table end from ps ns hand (InOrder.in_hand duty) all tabled none = (λ a e. absurd (let no : None ≡ Some a = sym none ∙ e in cc), tt)

  -- with none in hand all have one
  pub states_ended : (end : ℕ) (rs : List (Started Q)) (os : List (Change R)) (hand : Option Duty) → hand ≡ None → InOrder end rs os hand → AllFound x.speech more station fs os → StatesEnded rs
  states_ended end ps ns hand e InOrder.nothing all = tt
  states_ended end ps ns hand e (InOrder.by_mails {os = os} q frame rs rest) all = (tt, states_ended end rs os hand e rest all)
  states_ended end ps ns hand e (InOrder.changed {os = os} o rs before rest) all = (((o.answer, o.completed), all.0), states_ended end rs os hand e rest all.1)
  states_ended end ps ns hand e (InOrder.in_hand duty) all = absurd (cc)

  -- so the last one has
  pub ended_last : (rs : List (Started Q)) (r : Started Q) → StatesEnded (rs ++ r ∷ []) → StateEnded r r.service
  ended_last [] r all = all.0
  ended_last (p ∷ rs) r all = ended_last rs r all.1
