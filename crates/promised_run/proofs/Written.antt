-- EACH MAIL THAT WAS ACCEPTED OF A PLAN'S SLAVES WAS DUE: so the packets that came into hand stand in a book with the answers that the lives give, and where a budget was spent something was left to do.
use Rattle.std.proofs.Common.{◌≢◌, ℕ, List, map}
use Rattle.run_promises.specs.of_life_runs.First.{first_leads, lens_of}
use Rattle.run_promises.specs.of_life_runs.Led.{Exchanged, Leads, IsLed}
use Rattle.seen_slaves.proofs.of_plan_ring.Lives.{front_round}
use Rattle.seen_slaves.specs.of_plan_ring.Dues.{MailsAreDue}
use Rattle.seen_slaves.specs.of_plan_ring.Round.{AllRound, ring_of}
use Rattle.promised_run.proofs.Recalled.{all_round}
use Rattle.promised_run.specs.Due.{IsServedDue}
use Rattle.promised_run.specs.Eager.{ServedMailsAreDue}
use Rattle.promised_run.specs.Left.{IsLeft, IsServedLeft}
use Rattle.promised_run.specs.Written.{AllWritten, IsServedWritten}
use Rattle.gateway_run.specs.of_run_book.declared.book.Book.{Book}
use Rattle.gateway_run.specs.of_run_book.declared.book.Ending.TheVariants as endings
use Rattle.gateway_run.specs.of_run_record.Led.{LedBook, exchanged}
use Rattle.gateway_run.specs.of_run_record.Ran.{HasFrames, HasSent}
use Rattle.gateway_run.specs.of_run_record.Served.{ServeTo}
use Rattle.gateway_run.specs.of_run_record.Written.{WereDue, WereServedDue}
use Rattle.run_promises.specs.of_segment_plan.declared.plan.Scenario.{Scenario}
use Rattle.run_promises.specs.of_life_runs.Served.{IsServedLed, Serves}

module _ (plan : Scenario) (due : MailsAreDue plan) where
  -- over the frames of a run that went round the plan's ring
  were_due : (fs : List Exchanged) (missed : ℕ) (leads : List Leads) (l : IsLed (lens_of plan.slaves) plan.recover plan.retry (first_leads plan) fs missed leads) → AllRound (ring_of plan) fs → WereDue l
  were_due _ _ _ IsLed.start r = tt
  were_due _ _ _ (IsLed.on fs missed leads f us l frame) r = (were_due fs missed leads l (front_round (ring_of plan) fs f r), λ pass. due fs missed leads f us l frame r pass)

  -- SO IT IS of the book of a run
  all_due : (book : Book) (sent : HasFrames plan book) (led : LedBook plan book book.ending) → WereDue led.lives
  all_due book sent led = were_due (map exchanged book.frames) led.missed led.leads led.lives (all_round (ring_of plan) book.frames sent.recorded)

  pub all_written : (book : Book) (sent : HasFrames plan book) (led : LedBook plan book book.ending) → book.ending ≢ endings.NoMemory → AllWritten plan book led
  all_written book sent led ok = led.written ok (all_due book sent led)

  -- and something was left where its budget was spent
  pub some_left : (book : Book) (sent : HasFrames plan book) (led : LedBook plan book book.ending) → IsLeft plan book led
  some_left book sent led spent = led.left spent (all_due book sent led)

module _ (plan : Scenario) (due : ServedMailsAreDue plan) where
  -- of a serving
  were_served_due : (fs : List Exchanged) (missed : ℕ) (ws : List Serves) (l : ServeTo plan fs missed ws) → AllRound (ring_of plan) fs → WereServedDue l
  were_served_due _ _ _ IsServedLed.start r = tt
  were_served_due _ _ _ (IsServedLed.asks fs missed ws place keyed l may) r = were_served_due fs missed ws l r
  were_served_due _ _ _ (IsServedLed.on fs missed ws f vs l frame) r = (were_served_due fs missed ws l (front_round (ring_of plan) fs f r), λ pass. due fs missed ws f vs l frame r pass)

  -- AND of each account of the book of a serving
  pub all_served_due : (count : ℕ) (book : Book) → HasSent plan count book → IsServedDue plan count book
  all_served_due count book sent = λ ending a.
      let leading = a.answers.serving.leading in
      were_served_due (map exchanged book.frames) leading.missed leading.serves leading.lives (all_round (ring_of plan) book.frames sent.recorded)

  pub all_served_written : (count : ℕ) (book : Book) → HasSent plan count book → IsServedWritten plan count book
  all_served_written count book sent = λ ok a. a.written (all_served_due count book sent book.ending a)

  pub some_served_left : (count : ℕ) (book : Book) → HasSent plan count book → IsServedLeft plan count book
  some_served_left count book sent = λ spent a. a.left spent (all_served_due count book sent book.ending a)
