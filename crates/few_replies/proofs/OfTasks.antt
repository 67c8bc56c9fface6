-- The mails of a slave in a session.
use Rattle.std.proofs.Common.{◌≡◌, inl, inr, ℕ, ◌+◌, ◌≤◌, Bool, false, List, [], ◌∷◌, ◌++◌, length, refl, sym, ap, ◌∙◌, subst, arith, length-append}
use Rattle.std.proofs.lemmas.List.{length-map}
use Rattle.std.proofs.lemmas.List.Sums.{sum_by-cons}
use Rattle.slave_parts.specs.of_exchange_model.Exchange.{Exchange, IsLawful}
use Rattle.slave_parts.specs.of_exchange_model.Rows.{told_all, heard_all}
use Rattle.slave_parts.proofs.of_exchange_model.Settles.{told_all_last, heard_all_last}
use Rattle.slave_parts.specs.of_segment_model.Slaves.{Processor, Ring}
use Rattle.slave_parts.specs.of_segment_model.Record.{Frame}
use Rattle.slave_parts.specs.of_segment_model.Seats.{Side, Seat, Planned, rows_of, newest, sides_of, ring_of}
use Rattle.slave_parts.specs.of_segment_model.Laws.{EachSeat}
use Rattle.slave_parts.specs.of_state_model.States.{Table}
use Rattle.slave_parts.specs.of_state_model.Promises.{IsTable}
use Rattle.slave_parts.specs.of_state_model.Stated.{Stated, IsStated, Act, acts, mails, with_states}
use Rattle.slave_parts.proofs.of_state_model.StatedLaw.{stated_law}
use Rattle.slave_parts.specs.of_state_model.Accounts.{Account}
use Rattle.slave_parts.specs.of_state_model.Tasks.{TaskTurn, TaskSession, IsTaskPlan, IsTasked, mails_turn, happens, run, new_tasks}
use Rattle.slave_parts.specs.of_state_model.Promise.{EachTask, services_in}
use Rattle.slave_parts.proofs.of_state_model.Ghosts.{GhostRow, counting, starts_of, Untouched, Rowed}
use Rattle.slave_parts.proofs.of_state_model.Newest.{Holds}
use Rattle.slave_parts.proofs.of_state_model.Stately.{state_over}
use Rattle.slave_parts.proofs.of_state_model.Walks.{EachOne}
use Rattle.few_replies.specs.RowCounts.{AreCounted, rows_mails, rows_count}
use Rattle.few_replies.proofs.OfRows.{rows_within}
use Rattle.few_replies.specs.Services.{service_count, services_count}
use Rattle.few_replies.proofs.Seating.{Within, turn_within, new_within}
use Rattle.few_replies.proofs.Both.{both_counted}
use Rattle.slave_parts.proofs.of_state_model.Sessions.{Whole, holds, session_keeps}

mails_few : {M : Type 0} (as' : List (Act M)) → length (mails as') ≤ length as'
mails_few [] = omega arith
mails_few (Act.Mail m ∷ more) = omega (arith, mails_few more)
mails_few (Act.Word target ∷ more) = omega (arith, mails_few more)

acts_length : {M : Type 0} (ms : List M) → length (acts ms) ≡ length ms
acts_length ms = length-map ms (λ m. Act.Mail m)

-- the rows count what their services do
starts_count : {M Q R : Type 0} (count : Q → ℕ) (gs : List (GhostRow M Q R)) → rows_count (λ q. service_count count q) gs ≡ services_count count (services_in (starts_of gs))
starts_count count [] = refl
starts_count count (g ∷ gs) =
    sum_by-cons (λ (r : GhostRow _ _ _). service_count count r.service) g gs ∙ ap (λ n. service_count count g.service + n) (starts_count count gs)
    ∙ sym (sum_by-cons (λ q. service_count count q) g.service (services_in (starts_of gs)))

module _ {V A M Q R K : Type 0} (x : Exchange V A M Q R) (law : IsLawful x) (s : Stated V A Q) (stated : IsStated x s) (shape : V → K) (count : K → Q → ℕ)
    (tells : (state : ℕ) (v : V) → shape (s.tell state v) ≡ shape v) (counted : AreCounted x shape count) where
  -- ONE SLAVE, of which all that a session keeps is kept
  seat_within : (t : Table) (more : M → Bool) (begun : ℕ) (is : IsTable t begun) (fs : List (Frame M)) (seat : Seat V M Q R) (a : Account Q R) → Holds x law s stated t more begun is fs seat a → Within seat →
      rows_mails (rows_of seat.side) ≤ services_count (count (shape seat.start)) (services_in a.started)
  seat_within t more begun is fs seat a h within = elim h.carried.rows [
    | inl u ↦ untouched u
    | inr r ↦ rowed r
  ]
    where
      untouched : Untouched x law s t seat a h.carried.taken → rows_mails (rows_of seat.side) ≤ services_count (count (shape seat.start)) (services_in a.started)
      untouched u = omega (arith, ap length (ap (λ rs. told_all rs) (rows_none u)), ap length (ap (λ rs. heard_all rs) (rows_none u)))
        where
          rows_none : Untouched x law s t seat a h.carried.taken → rows_of seat.side ≡ []
          rows_none u = ap (λ now. seat.side.past ++ newest now) u.now ∙ ap (λ past. past ++ []) u.past

      rowed : Rowed x law s t (state_over t begun a.over) seat a h.carried.taken h.carried.rest → rows_mails (rows_of seat.side) ≤ services_count (count (shape seat.start)) (services_in a.started)
      rowed r =
          let both = with_states x s t in
          let gs = r.front ++ r.last ++ r.now ∷ [] in
          let past = r.front ++ r.last in
          let most = rows_within both (stated_law x s t stated law) (λ c. shape c.server) (λ k q. service_count (count k) q) (both_counted x s t shape count tells counted) (counting seat.start) r.front r.last r.now
          (h.carried.taken ++ acts h.carried.rest) h.carried.taken (acts seat.accepted) h.ready r.moment in
          let sum : rows_count (λ q. service_count (count (shape seat.start)) q) gs ≡ services_count (count (shape seat.start)) (services_in a.started) = starts_count (count (shape seat.start)) gs ∙ ap (λ st. services_count (count (shape seat.start)) (services_in st)) r.started in
          let told = ap length (told_all_last past r.now) in
          let held = ap length r.moment.fits.all_held in
          let heard = ap length (heard_all_last past r.now) in
          let accepted = ap length r.moment.fits.all_accepted in
          let mine = ap length h.carried.held_is in
          let taken = mails_few h.carried.taken in
          omega (
            arith,
            within,
            most,
            sum,
            told,
            held,
            heard,
            accepted,
            mine,
            taken,
            ap length h.carried.taken_is,
            acts_length h.carried.rest,
            acts_length seat.accepted,
            length-append h.carried.taken (acts h.carried.rest),
            length-append seat.taken h.carried.rest,
            length-append (told_all past) r.now.told,
            length-append (heard_all past) r.now.heard,
          )

  module _ (processor : Processor V) (table : ℕ → Table) (told : (state : ℕ) (v : V) → processor.tell state v ≡ s.tell state v) (ps : List (Planned V)) (plan : IsTaskPlan x s processor table ps) where
    abbrev more : M → Bool
    more m = false

    -- each slave of a session
    each_within : (fs : List (Frame M)) (qs : List (Planned V)) (ss : List (Seat V M Q R)) (accounts : List (Account Q R)) → EachOne (Whole x law s stated processor table more told fs) qs ss accounts → EachSeat Within ss →
        EachTask (λ station start d a n. rows_mails (rows_of d) ≤ services_count (count (shape start)) (services_in a.started)) qs (sides_of ss) accounts (ring_of ss)
    each_within fs [] [] [] h k = tt
    each_within fs [] [] (a ∷ accounts) h k = absurd h
    each_within fs [] (t ∷ ss) accounts h k = absurd h
    each_within fs (p ∷ qs) [] accounts h k = absurd h
    each_within fs (p ∷ qs) (t ∷ ss) [] h k = absurd h
    each_within fs (p ∷ qs) (t ∷ ss) (a ∷ accounts) h k = (
      (
        h.0.is.placed.station,
        h.0.is.placed.station,
        λ answers. subst (λ v. rows_mails (rows_of t.side) ≤ services_count (count (shape v)) (services_in a.started)) h.0.start
            (seat_within (table p.station) more p.registers.state (h.0.is.brought answers).sits fs t a (holds x law s stated processor table more told fs p t a h.0 answers) k.0),
      ),
      each_within fs qs ss accounts h.1 k.1,
    )

    turns_within : (w : TaskSession V M Q R) (ts : List (TaskTurn M Q)) → EachSeat Within w.session.seats → EachSeat Within (run x s.acknowledged processor w ts).session.seats
    turns_within w [] h = h
    turns_within w (t ∷ ts) h = turns_within (happens x s.acknowledged processor w t) ts (turn_within x processor w.session (mails_turn w.accounts t) h)

    pub tasks_within : (ds : List (ℕ × Side M Q R)) (accounts : List (Account Q R)) (ns : Ring V M) (fs : List (Frame M)) → IsTasked x s.acknowledged processor ps ds accounts ns fs →
        EachTask (λ station start d a n. rows_mails (rows_of d) ≤ services_count (count (shape start)) (services_in a.started)) ps ds accounts ns
    tasks_within ds accounts ns fs b =
        let w = run x s.acknowledged processor (new_tasks b.opening ps) b.turns in
        let all = each_within w.session.frames ps w.session.seats w.accounts (session_keeps x law s stated processor table more told ps plan b.opening b.quiet b.turns b.may).each (turns_within (new_tasks b.opening ps) b.turns (new_within M Q R ps)) in
        let Of : List (ℕ × Side M Q R) → List (Account Q R) → Ring V M → Type 0 = EachTask (λ station start d a n. rows_mails (rows_of d) ≤ services_count (count (shape start)) (services_in a.started)) ps in
        subst (λ l. Of ds accounts l) b.ring (subst (λ l. Of ds l (ring_of w.session.seats)) b.counted (subst (λ l. Of l w.accounts (ring_of w.session.seats)) b.sides all))
