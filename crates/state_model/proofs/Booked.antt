-- What a book takes of a slave is what the record gives, from what its seat and its account carry.
use Rattle.std.proofs.Common.{◌≡◌, inl, inr, ℕ, Bool, Option, Some, None, List, [], ◌∷◌, ◌++◌, map, length, refl, ap, sym, ◌∙◌, subst}
use Rattle.segment_model.specs.of_exchange_model.Exchange.{Exchange, IsLawful}
use Rattle.segment_model.specs.of_exchange_model.Rows.{Row}
use Rattle.segment_model.specs.Record.{Frame}
use Rattle.segment_model.specs.Seats.{Seat, newest, rows_of}
use Rattle.segment_model.specs.Laws.{HandedBy, KnowsCounters}
use Rattle.segment_model.specs.Books
use Rattle.segment_model.proofs.Rising.{RisesNow, rises_all}
use Rattle.segment_model.proofs.Handed.{BegunBy, handed_by}
use Rattle.segment_model.proofs.Hands.{each_counted}
use Rattle.state_model.specs.States.{Table}
use Rattle.state_model.specs.Promises.{IsTable}
use Rattle.state_model.specs.Stated.{Stated, IsStated, Service}
use Rattle.state_model.specs.Accounts.{Started, Account}
use Rattle.state_model.specs.Promise.{AllEnded, TasksAnswered, mail_of, mails_started, rows_started}
use Rattle.state_model.specs.Books.{task_answers, TasksPast, TasksEndedIf, TasksDoneIf}
use Rattle.state_model.proofs.Ghosts.{GhostRow, Label, starts_of, labels_of, label_by, mail_labels}
use Rattle.state_model.proofs.TaskOrders.{order_states}
use Rattle.state_model.proofs.Stately.{state_over, over_outcomes, duty_open}
use Rattle.state_model.proofs.Completed.{completed_ended}
use Rattle.state_model.proofs.Newest.{Holds, answered, side_facts, ended_free}
use Rattle.state_model.proofs.Promised.{all_labels}
use Rattle.state_model.proofs.Resting.{rests}

-- a service by mails with its frame, by its label
abbrev key_of : {Q R : Type 0} → Label Q R → Q × ℕ
key_of l = (l.service, l.frame)

abbrev keys_of : {Q R : Type 0} → List (Label Q R) → List (Q × ℕ)
keys_of ls = map (λ l. key_of l) ls

ghost_keys : {M Q R : Type 0} (gs : List (GhostRow M Q R)) → mails_started (starts_of gs) ≡ keys_of (mail_labels gs)
ghost_keys [] = refl
ghost_keys {Q = Q} (g ∷ gs) = go g.service (ghost_keys gs)
  where
    go : (service : Service Q) → mails_started (starts_of gs) ≡ keys_of (mail_labels gs) → mail_of service g.frame ++ mails_started (starts_of gs) ≡ keys_of (label_by g service ++ mail_labels gs)
    go (Service.Mails q) e = ap (λ l. (q, g.frame) ∷ l) e
    go (Service.State target) e = e

row_keys : {M Q R : Type 0} (rs : List (Row M Q R)) → keys_of (labels_of rs) ≡ rows_started rs
row_keys [] = refl
row_keys (r ∷ rs) = ap (λ l. (r.service, r.frame) ∷ l) (row_keys rs)

-- services that have outcomes have ended
answers_ended : {V A M Q R : Type 0} (x : Exchange V A M Q R) (more : M → Bool) (station : ℕ) (fs : List (Frame M)) (rs : List (Started Q)) → AllEnded x.speech more station fs rs → Books.AllEnded (task_answers x.speech more station fs rs 0)
answers_ended x more station fs [] e = tt
answers_ended x more station fs (r ∷ rs) e =
    subst (λ found. Books.AllEnded (Books.answer_from found ∷ task_answers x.speech more station fs rs 0)) (sym e.0.1) (answers_ended x more station fs rs e.1)

module _ {V A M Q R : Type 0} (x : Exchange V A M Q R) (law : IsLawful x) (s : Stated V A Q) (stated : IsStated x s) (table : Table) (more : M → Bool) (start : ℕ) (is : IsTable table start)
    (fs : List (Frame M)) (seat : Seat V M Q R) (a : Account Q R) (h : Holds x law s stated table more start is fs seat a) where
  -- the services by mails that came into hand are the rows of the side
  mails_are : mails_started a.started ≡ rows_started (rows_of seat.side)
  mails_are = elim h.carried.rows [
    | inl u ↦ ap mails_started u.started ∙ sym (λ i. rows_started (u.past i ++ newest (u.now i)))
    | inr r ↦
        ap mails_started (sym r.started) ∙ ghost_keys (r.front ++ r.last ++ r.now ∷ [])
        ∙ ap keys_of (all_labels x law s stated table more start is fs seat a (r.front ++ r.last) r.now (state_over table start a.over) seat.slave.registers.state h.carried.rest r.place)
        ∙ row_keys (rows_of seat.side)
  ]

  pub tasks_answered : TasksAnswered x s table more fs seat.station seat.start seat.side a seat.slave
  tasks_answered = record {
    mails = mails_are;
    answers = answered x law s stated table more start is fs seat a h;
    states = order_states (length fs) a.started a.over a.hand h.stately.order;
    over = over_outcomes table start is seat.station x more fs seat.slave.registers a h.stately;
    hand = duty_open table start is seat.station x more fs seat.slave.registers a h.stately;
  }

  begun : (now : Option (Row M Q R)) → RisesNow seat.side.past now (length fs) → BegunBy x law fs now
  begun None r = tt
  begun (Some row) r = r.frame

  -- a packet is complete by the record exactly where its row is over
  pub tasks_handed : HandedBy x more fs seat.station seat.start seat.side seat.slave
  tasks_handed = handed_by x law more seat.station fs seat.start seat.side seat.slave (answered x law s stated table more start is fs seat a h) (rises_all seat.side.past seat.side.now (length fs) h.records.rises)
      (begun seat.side.now h.records.rises) (side_facts x law s stated table more start is fs seat a h.ready (state_over table start a.over) h.carried) h.posts

  -- the halves know the counters of the record
  pub tasks_counted : KnowsCounters fs seat.station seat.start seat.side seat.slave
  tasks_counted = (each_counted x law fs (seat ∷ []) (h.records, tt) (h.posts.out, tt)).0

  -- only the newest is in doubt
  pub tasks_past : TasksPast x more fs seat.station seat.start seat.side a seat.slave
  tasks_past = answers_ended x more seat.station fs _ (completed_ended x more seat.station fs a.started h.completed)

  pub tasks_ended : TasksEndedIf x more fs seat.station seat.start seat.side a seat.slave
  tasks_ended idle nothing = answers_ended x more seat.station fs a.started (ended_free x law s stated table more start is fs seat a h idle nothing)

  pub tasks_done : (scripted : ℕ → List (Service Q)) → TasksDoneIf x s table more scripted fs seat.station seat.start seat.side a seat.slave
  tasks_done scripted settled wants idle all = record {
    live = refl;
    begun = all;
    rests = rests x law s stated table more start is fs seat a h settled wants idle;
    ended = tasks_ended idle wants.nothing;
  }
