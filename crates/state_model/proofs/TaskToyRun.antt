-- A computed run of the desk, an adder with an AL state: a sum is refused in the first state; a state service, whose write is lost once and
-- whose processor is slow, brings the state that adds; another is refused and its error flag acknowledged; and the same sum is done.
use Rattle.std.proofs.Common.{◌≡◌, ℕ, false, true, Option, Some, None, List, [], ◌∷◌, map, take, refl}
use Rattle.segment_model.specs.of_exchange_model.Toy.{Mail, first, second, held, total, refused, noted, Service, sum}
use Rattle.segment_model.specs.of_link_model.Frames.{Ask, IsSent}
use Rattle.segment_model.specs.of_link_model.Segment.{RingFate}
use Rattle.segment_model.specs.Slaves.{Processor, Address, Access, Datagram}
use Rattle.segment_model.specs.Record.{heard}
use Rattle.segment_model.specs.Ends.{Outcome}
use Rattle.segment_model.specs.Books.{Answer}
use Rattle.segment_model.specs.Laws.{IsSettled, WantsNothing}
use Rattle.segment_model.specs.Seats.{Planned, sides_of, ring_of}
use Rattle.state_model.specs.States
use Rattle.state_model.specs.Stated
use Rattle.state_model.specs.Toys.{Desk, desk, desk_states, steps}
use Rattle.state_model.proofs.ToyLaw.{desk_law, desk_is_stated}
use Rattle.state_model.specs.Accounts.{Started, Account, IsServed}
use Rattle.state_model.specs.Tasks.{TaskTurn, TaskSession, IsTaskPlan, IsTasked, MayRun, new_tasks, run}
use Rattle.state_model.specs.Promise.{EachTask, TasksPromised, outcome_of, services_in, mails_started, states_started}
use Rattle.state_model.specs.Books.{task_answers, TasksDoneIf}
use Rattle.state_model.proofs.Sessions.{tasks_promised, tasks_done}

abbrev Task : Type 0
Task = Stated.Service Service

abbrev one : List (Planned Desk)
one = record {
  station = 4097;
  server = record { adder = record { value = 0; handled = 0; half = None }; state = 0 };
  registers = record { station = 4097; first = true; second = true; control = None; state = 0; refused = None };
} ∷ []

-- its processor carries out control words by the table, and tells the desk its state
abbrev processor : Processor Desk
processor = record { carry = λ r. States.carry steps r; tell = desk_states.tell }

-- a datagram to the mailboxes, and one to the registers
abbrev asks : Ask Mail → Datagram Mail
asks ask = record {
  gram = record { station = 4097; ask = ask; counter = 0; mail = None; acknowledge = false };
  address = Address.Station 4097;
  access = Access.Elsewhere;
  counter = 0;
  found = None;
}

abbrev writes : ℕ → Mail → Datagram Mail
writes counter m = asks (Ask.WriteMail (record { counter = counter; body = m }))

abbrev accesses : Access → Datagram Mail
accesses access = record {
  gram = record { station = 0; ask = Ask.Other; counter = 0; mail = None; acknowledge = false };
  address = Address.Station 4097;
  access = access;
  counter = 0;
  found = None;
}

abbrev turn : Option Task → Datagram Mail → RingFate → List ℕ → TaskTurn Mail Service
turn begin d fate places = record { picks = record { begin = begin; hold = true } ∷ []; move = record { sent = d ∷ []; fate = fate; steps = places } }

abbrev slow : List ℕ
slow = []

abbrev steps_once : List ℕ
steps_once = 0 ∷ []

abbrev turns : List (TaskTurn Mail Service)
turns =
    turn (Some (Stated.Service.Mails (sum 3))) (writes 1 (first 3)) RingFate.Back steps_once
    ∷ turn None (asks Ask.ReadMail) RingFate.Back steps_once
    ∷ turn (Some (Stated.Service.State 1)) (accesses Access.ReadFull) RingFate.Back steps_once
    ∷ turn None (accesses (Access.SetControl 1 false)) (RingFate.Lost 1) slow
    ∷ turn None (accesses (Access.SetControl 1 false)) RingFate.Back slow
    ∷ turn None (accesses Access.ReadState) RingFate.Back steps_once
    ∷ turn None (accesses Access.ReadState) RingFate.Back slow
    ∷ turn (Some (Stated.Service.State 2)) (accesses Access.ReadFull) RingFate.Back slow
    ∷ turn None (accesses (Access.SetControl 2 false)) RingFate.Back steps_once
    ∷ turn None (accesses Access.ReadState) RingFate.Back slow
    ∷ turn None (accesses (Access.SetControl 1 true)) RingFate.Back steps_once
    ∷ turn None (accesses Access.ReadState) RingFate.Back slow
    ∷ turn (Some (Stated.Service.Mails (sum 3))) (writes 2 (first 3)) RingFate.Back steps_once
    ∷ turn None (asks Ask.ReadMail) RingFate.Back slow
    ∷ turn None (writes 3 second) RingFate.Back steps_once
    ∷ turn None (asks Ask.ReadMail) RingFate.Back steps_once
    ∷ turn None (asks Ask.ReadMail) RingFate.Back slow
    ∷ []

abbrev begun : TaskSession Desk Mail Service (Option ℕ)
begun = new_tasks [] one

abbrev ended : TaskSession Desk Mail Service (Option ℕ)
ended = run desk desk_states.acknowledged processor begun turns

-- the account: four services came into hand, and both state services are over, one reached and one refused
all_accounts : ended.accounts ≡ record {
  started =
      record { service = Stated.Service.Mails (sum 3); frame = 0 } ∷ record { service = Stated.Service.State 1; frame = 2 }
      ∷ record { service = Stated.Service.State 2; frame = 7 } ∷ record { service = Stated.Service.Mails (sum 3); frame = 12 } ∷ [];
  hand = None;
  over =
      record { target = 1; frame = 2; answer = Outcome.Reached; completed = 6 }
      ∷ record { target = 2; frame = 7; answer = Outcome.Refused 17; completed = 11 } ∷ [];
} ∷ []
all_accounts = refl

-- the registers, the desk and what was heard
all_registers : map (λ s. s.slave.registers) ended.session.seats ≡ record { station = 4097; first = true; second = true; control = None; state = 1; refused = None } ∷ []
all_registers = refl

all_desks : map (λ s. s.slave.node.server.server) ended.session.seats ≡ record { adder = record { value = 3; handled = 2; half = None }; state = 1 } ∷ []
all_desks = refl

all_heard : heard 4097 ended.session.frames ≡ refused ∷ held ∷ total 3 ∷ noted 3 ∷ []
all_heard = refl

-- the outcome of each service by the record
abbrev outcome : Started Service → Option (Outcome (Option ℕ) × ℕ)
outcome s = outcome_of desk.speech (λ m. false) 4097 ended.session.frames s

abbrev outcomes : List (Account Service (Option ℕ)) → List (List (Option (Outcome (Option ℕ) × ℕ)))
outcomes accounts = map (λ a. map outcome a.started) accounts

all_outcomes : outcomes ended.accounts ≡ (Some (Outcome.Replied None, 1) ∷ Some (Outcome.Reached, 6) ∷ Some (Outcome.Refused 17, 11) ∷ Some (Outcome.Replied (Some 3), 15) ∷ []) ∷ []
all_outcomes = refl

-- as a book has them: the answers of a script of five services, of which one did not begin; and early on, with the first state service in hand,
-- of a script of four
abbrev answers : TaskSession Desk Mail Service (Option ℕ) → ℕ → List (List (Answer (Option ℕ)))
answers w left = map (λ a. task_answers desk.speech (λ m. false) 4097 w.session.frames a.started left) w.accounts

all_answers : answers ended 1 ≡
    (Answer.Ended (Outcome.Replied None) 1 ∷ Answer.Ended Outcome.Reached 6 ∷ Answer.Ended (Outcome.Refused 17) 11 ∷ Answer.Ended (Outcome.Replied (Some 3)) 15 ∷ Answer.NotSent ∷ []) ∷ []
all_answers = refl

abbrev early : TaskSession Desk Mail Service (Option ℕ)
early = run desk desk_states.acknowledged processor begun (take 6 turns)

early_answers : answers early 2 ≡ (Answer.Ended (Outcome.Replied None) 1 ∷ Answer.InDoubt ∷ Answer.NotSent ∷ Answer.NotSent ∷ []) ∷ []
early_answers = refl

-- the services of either kind, with their frames
by_mails : map (λ a. mails_started a.started) ended.accounts ≡ ((sum 3, 0) ∷ (sum 3, 12) ∷ []) ∷ []
by_mails = refl

by_state : map (λ a. states_started a.started) ended.accounts ≡ ((1, 2) ∷ (2, 7) ∷ []) ∷ []
by_state = refl

-- while the processor was slow the status showed the old state, and no answer
still_slow : map (λ a. a.over) early.accounts ≡ [] ∷ []
still_slow = refl

-- and each frame is one that the master may send: a write or a read of a mailbox, or the access of the state service in hand
may : MayRun desk desk_states.acknowledged processor begun turns
may = (((IsSent.write _ _ _ refl refl IsSent.nothing, tt), (IsServed.quiet _ _ refl refl IsServed.nothing, tt)), (((IsSent.inward _ _ _ refl refl IsSent.nothing, tt), (IsServed.quiet _ _ refl refl IsServed.nothing, tt)), (((IsSent.nothing, tt), (IsServed.quiet _ _ refl refl IsServed.nothing, tt)), (((IsSent.nothing, tt), (IsServed.own _ _ refl refl IsServed.nothing, tt)), (((IsSent.nothing, tt), (IsServed.own _ _ refl refl IsServed.nothing, tt)), (((IsSent.nothing, tt), (IsServed.own _ _ refl refl IsServed.nothing, tt)), (((IsSent.nothing, tt), (IsServed.own _ _ refl refl IsServed.nothing, tt)), (((IsSent.nothing, tt), (IsServed.quiet _ _ refl refl IsServed.nothing, tt)), (((IsSent.nothing, tt), (IsServed.own _ _ refl refl IsServed.nothing, tt)), (((IsSent.nothing, tt), (IsServed.own _ _ refl refl IsServed.nothing, tt)), (((IsSent.nothing, tt), (IsServed.own _ _ refl refl IsServed.nothing, tt)), (((IsSent.nothing, tt), (IsServed.own _ _ refl refl IsServed.nothing, tt)), (((IsSent.write _ _ _ refl refl IsSent.nothing, tt), (IsServed.quiet _ _ refl refl IsServed.nothing, tt)), (((IsSent.inward _ _ _ refl refl IsSent.nothing, tt), (IsServed.quiet _ _ refl refl IsServed.nothing, tt)), (((IsSent.write _ _ _ refl refl IsSent.nothing, tt), (IsServed.quiet _ _ refl refl IsServed.nothing, tt)), (((IsSent.inward _ _ _ refl refl IsSent.nothing, tt), (IsServed.quiet _ _ refl refl IsServed.nothing, tt)), (((IsSent.inward _ _ _ refl refl IsSent.nothing, tt), (IsServed.quiet _ _ refl refl IsServed.nothing, tt)), tt)))))))))))))))))

-- so the laws speak of this run
plan : IsTaskPlan desk desk_states processor (λ station. steps) one
plan = record {
  plan = record { stations = (tt, tt); ready = (refl, tt) };
  apart = ((tt, tt), tt);
  tells = λ state v. refl;
  brought = ((λ r station first second. refl, λ answers. record { control = λ word e. absurd (cc); refused = refl; sits = record { sits = refl; stays = λ from to e. e }; state = refl }), tt);
}

tasked : IsTasked desk desk_states.acknowledged processor one (sides_of ended.session.seats) ended.accounts (ring_of ended.session.seats) ended.session.frames
tasked = record { opening = []; quiet = tt; turns = turns; may = may; sides = refl; counted = refl; ring = refl; frames = refl }

kept : EachTask (λ station start d a n. TasksPromised desk desk_states steps (λ m. false) ended.session.frames station start d a n) one (sides_of ended.session.seats) ended.accounts (ring_of ended.session.seats)
kept = tasks_promised desk desk_law desk_states desk_is_stated processor (λ station. steps) (λ m. false) plan.tells one plan (sides_of ended.session.seats) ended.accounts (ring_of ended.session.seats) ended.session.frames tasked

-- and what they say with nothing left
rested : EachTask (λ station start d a n. IsSettled n × WantsNothing desk.speech d × (a.hand ≡ None)) one (sides_of ended.session.seats) ended.accounts (ring_of ended.session.seats)
rested = ((refl, refl, λ answers. (record { first = refl; second = refl; withdrawn = refl; waiting = refl }, record { idle = refl; clear = refl; nothing = refl }, refl)), tt)

-- so with its script begun all of it is done
abbrev script : List Task
script = Stated.Service.Mails (sum 3) ∷ Stated.Service.State 1 ∷ Stated.Service.State 2 ∷ Stated.Service.Mails (sum 3) ∷ []

all_begun : map (λ a. services_in a.started) ended.accounts ≡ script ∷ []
all_begun = refl

all_done : EachTask (λ station start d a n. TasksDoneIf desk desk_states steps (λ m. false) (λ station. script) ended.session.frames station start d a n) one (sides_of ended.session.seats) ended.accounts (ring_of ended.session.seats)
all_done = tasks_done desk desk_law desk_states desk_is_stated processor (λ station. steps) (λ m. false) plan.tells one plan (sides_of ended.session.seats) ended.accounts (ring_of ended.session.seats) ended.session.frames tasked (λ station. script)
