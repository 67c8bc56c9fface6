-- The frames of a book that are a run of its plan are fewer than the bound.
use Rattle.std.proofs.Common.{◌≡◌, ◌≢◌, ℕ, ◌++◌, ◌<◌, All, List, map, length, arith}
use Rattle.std.proofs.lemmas.List.{length-map}
use Rattle.arrayvec.specs.ArrayVec.{ArrayVec}
use Rattle.run_promises.specs.of_eoe_switch.declared.switching.SwitchEvent.{SwitchEvent}
use Rattle.run_promises.specs.of_life_runs.First.{lens_of, first_leads}
use Rattle.run_promises.specs.of_life_runs.Led.{Exchanged, Leads, IsLed}
use Rattle.run_promises.specs.of_link_mails.Body.{Body}
use Rattle.seen_slaves.specs.of_master_duty.Reply.{Reply}
use Rattle.seen_slaves.specs.of_master_hand.Spoken.{Asked}
use Rattle.run_promises.specs.of_master_node.Happened.{arrivals_at}
use Rattle.run_promises.specs.of_master_node.Ports.{IsAtPort, ports_behind, ports_of}
use Rattle.run_promises.specs.of_packets_heard.Over.{AreBegun}
use Rattle.seen_slaves.specs.of_plan_ring.Round.{ring_of, AllRound}
use Rattle.run_promises.specs.of_packets_heard.Listed.{Listed}
use Rattle.gateway_run.specs.of_run_book.declared.book.Book.{Book}
use Rattle.gateway_run.specs.of_run_book.declared.book.Ending.{Ending}
use Rattle.gateway_run.specs.of_run_book.declared.book.Ending.TheVariants as endings
use Rattle.seen_slaves.specs.of_run_frames.Clocks.{Clocked}
use Rattle.seen_slaves.specs.of_run_frames.Runs.{Progress}
use Rattle.gateway_run.specs.of_run_record.Led.{LedBook, exchanged}
use Rattle.gateway_run.specs.of_run_record.Ran.{HasFrames}
use Rattle.run_promises.specs.of_run_work.Bounds.{IsPlanRun}
use Rattle.run_promises.specs.of_run_work.Switched.{AreSwitched}
use Rattle.run_promises.specs.of_segment_plan.Bound.{bound_of}
use Rattle.run_promises.specs.of_segment_plan.declared.plan.Scenario.{Scenario}

-- what the laws say
pub record Laws (plan : Scenario) : Type 0 where
  pub fewer : (fs : List Exchanged) (missed : ℕ) (leads : List Leads) (p : Progress) (cs : List (Clocked Body Asked Reply)) → IsPlanRun plan fs missed leads p cs → AreSwitched plan leads → length fs < bound_of plan 0
  pub switched : (fs : List Exchanged) (missed : ℕ) (leads : List Leads) → (led : IsLed (lens_of plan.slaves) plan.recover plan.retry (first_leads plan) fs missed leads) → AllRound (ring_of plan) fs →
      (es : List SwitchEvent) (rest : List (ArrayVec ℕ)) → All (IsAtPort (ports_of plan.slaves)) es → arrivals_at 0 es ++ rest ≡ plan.host →
      Listed (lens_of plan.slaves) plan.recover plan.retry (ports_behind 0 plan.slaves) led es → AreBegun (ports_behind 0 plan.slaves) (ports_of plan.slaves) led es → AreSwitched plan leads

pub fewer : (plan : Scenario) (book : Book) (ending : Ending) → Laws plan → HasFrames plan book → (led : LedBook plan book ending) → (p : Progress) (cs : List (Clocked Body Asked Reply)) →
    IsPlanRun plan (map exchanged book.frames) led.missed led.leads p cs → ending ≢ endings.NoMemory → length book.frames < bound_of plan 0
fewer plan book ending laws sent led p cs run memory =
    let packets = led.packets memory in
    let fs = map exchanged book.frames in
    let switched = laws.switched fs led.missed led.leads led.lives run.round book.switch packets.rest sent.at_port packets.entered (led.listed memory) (led.begun memory) in
    omega (arith, laws.fewer fs led.missed led.leads p cs run switched, length-map book.frames exchanged)
