-- The frames of a book are a run of its plan whose count has a bound.
use Rattle.std.proofs.Common.{◌≡◌, ◌≢◌, ◌<◌, ℕ, List, [], ◌∷◌, ◌++◌, length, map, ap, ◌∙◌, subst}
use Rattle.arrayvec.specs.ArrayVec.{ArrayVec}
use Rattle.promised_run.specs.Runs.{HasRun}
use Rattle.run_promises.specs.of_life_runs.First.{lens_of, first_leads}
use Rattle.run_promises.specs.of_life_runs.Led.{Exchanged, Leads}
use Rattle.run_promises.specs.of_link_mails.Body.{Body}
use Rattle.seen_slaves.specs.of_master_duty.Reply.{Reply}
use Rattle.seen_slaves.specs.of_master_hand.Spoken.{Asked}
use Rattle.run_promises.specs.of_master_node.Happened.{arrivals_at}
use Rattle.run_promises.specs.of_master_tour.Toured.{Tour}
use Rattle.seen_slaves.specs.of_plan_ring.Round.{ring_of, AllRound, behind}
use Rattle.run_promises.specs.of_packets_heard.Recalled.{State, RecalledIn}
use Rattle.gateway_run.specs.of_run_book.declared.book.Book.{Book}
use Rattle.gateway_run.specs.of_run_book.declared.book.Ending.{Ending}
use Rattle.gateway_run.specs.of_run_book.declared.book.Ending.TheVariants as endings
use Rattle.gateway_run.specs.of_run_book.declared.book.SentFrame.{SentFrame}
use Rattle.seen_slaves.specs.of_run_frames.Clocks.{Clocked}
use Rattle.seen_slaves.specs.of_run_frames.Runs.{Progress}
use Rattle.gateway_run.specs.of_run_record.Led.{LedBook, RecalledBook, exchanged}
use Rattle.gateway_run.specs.of_run_record.Ran.{HasFrames}
use Rattle.gateway_run.specs.of_run_record.Replay.{AreRecorded}
use Rattle.run_promises.specs.of_run_work.Bounds.{IsPlanRun}
use Rattle.run_promises.specs.of_segment_plan.Bound.{bound_of}
use Rattle.run_promises.specs.of_segment_plan.declared.plan.Scenario.{Scenario}
use Rattle.run_promises.specs.of_segment_ring.Ring.{RingState}
use Rattle.run_promises.specs.of_slave_server.Serving.{Serving}
use Rattle.run_promises.specs.of_slave_node.Node.{Node}
use Rattle.run_promises.specs.of_packets_heard.Toured.{IsToured}

-- its frames went round the ring
pub all_round : (ring : RingState (Node Serving)) (fs : List SentFrame) → AreRecorded ring fs → AllRound ring (map exchanged fs)
all_round ring [] r = tt
all_round ring (f ∷ fs) r = (record { fate = r.0.fate; back = r.0.back }, all_round (behind ring f.sent) fs r.1)

-- what the laws say
pub record Counts (plan : Scenario) (book : Book) (missed : ℕ) (leads : List Leads) : Type 0 where
  pub bounded : (p : Progress) (cs : List (Clocked Body Asked Reply)) → IsPlanRun plan (map exchanged book.frames) missed leads p cs → length book.frames < bound_of plan 0
  pub eager : (fs : List Exchanged) (t : Tour) (s : State) → (toured : IsToured (lens_of plan.slaves) plan.recover plan.retry (first_leads plan) fs t leads) → RecalledIn plan toured s → AllRound (ring_of plan) fs →
      (rest : List (ArrayVec ℕ)) → arrivals_at 0 s.events ++ rest ≡ plan.host → HasRun plan fs t.missed leads

run_is : (plan : Scenario) (fs : List Exchanged) (missed : ℕ) (leads : List Leads) → (r : HasRun plan fs missed leads) → IsPlanRun plan fs missed leads r.progress r.slaves
run_is plan fs missed leads r = record { again = r.again; toured = r.toured; asks = r.asks; waits = r.waits; enters = r.enters; round = r.round }

-- and fewer than the bound
pub all_fewer : (plan : Scenario) (book : Book) (ending : Ending) → HasFrames plan book → (led : LedBook plan book ending) → Counts plan book led.missed led.leads → ending ≢ endings.NoMemory → length book.frames < bound_of plan 0
all_fewer plan book ending sent led laws memory =
    let fs = map exchanged book.frames in
    let k : RecalledBook plan book led.missed led.leads = led.recalled memory in
    let packets = led.packets memory in
    let run : HasRun plan fs led.missed led.leads =
    subst (λ (n : ℕ). HasRun plan fs n led.leads) k.missed_is
    (laws.eager fs k.tour k.state k.toured k.recalled (all_round (ring_of plan) book.frames sent.recorded) packets.rest (ap (λ es. arrivals_at 0 es ++ packets.rest) k.events ∙ packets.entered)) in
    laws.bounded run.progress run.slaves (run_is plan fs led.missed led.leads run)
