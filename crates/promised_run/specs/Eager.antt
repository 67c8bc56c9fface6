-- A SERVING WHOSE MASTER MAKES NO VISIT IN VAIN, as the count of its frames has it.
use Rattle.std.specs.Prelude.{◌≤◌, ℕ, suc, ◌+◌, ◌*◌, Bool, true, false, Option, List, [], ◌∷◌, length}
use Rattle.promised_run.specs.Runs.{is_waiting, waiting_at}
use Rattle.run_promises.specs.of_eoe_switch.declared.switching.SwitchEvent.{SwitchEvent}
use Rattle.seen_slaves.specs.of_idle_slaves.Eager.{Remembered}
use Rattle.run_promises.specs.of_life_runs.First.{first_leads, lens_of}
use Rattle.run_promises.specs.of_life_runs.Led.{Exchanged}
use Rattle.run_promises.specs.of_link_mails.Body.{Body}
use Rattle.seen_slaves.specs.of_master_duty.Reply.{Reply}
use Rattle.seen_slaves.specs.of_master_hand.Spoken.{Asked}
use Rattle.seen_slaves.specs.of_master_side.Recall.{Recall}
use Rattle.seen_slaves.specs.of_run_frames.Clocks.{Clocked}
use Rattle.seen_slaves.specs.of_run_frames.Fates.{lost_of}
use Rattle.seen_slaves.specs.of_run_frames.Runs.{Progress}
use Rattle.run_promises.specs.of_run_work.ServedGained.{asked_in}
use Rattle.run_promises.specs.of_segment_plan.Bound.{slowest}
use Rattle.run_promises.specs.of_segment_plan.declared.plan.Scenario.{Scenario}
use Rattle.seen_slaves.specs.of_served_places.Answered.{ServedAsks}
use Rattle.seen_slaves.specs.of_served_places.Toured.{IsServedToured}
use Rattle.run_promises.specs.of_life_runs.Served.{Keyed, Serves, all_serve}
pub use Rattle.seen_slaves.specs.Dues.{ServedMailsAreDue}
use Rattle.seen_slaves.specs.Eager.{ServedEagerIn}

-- some mail waits to be passed on
abbrev pub has_mail : List Keyed → Bool
has_mail [] = false
has_mail (k ∷ ks) = true

-- what is remembered of the slaves of a serving from a place on
abbrev pub remembers : Scenario → List SwitchEvent → ℕ → List Recall → List Serves → List Remembered
remembers plan es place [] ws = []
remembers plan es place (m ∷ ms) [] = record { memory = record { paused = m.paused; turn = m.turn }; packet = is_waiting (waiting_at plan es place); asked = false } ∷ remembers plan es (suc place) ms []
remembers plan es place (m ∷ ms) (w ∷ ws) = record { memory = record { paused = m.paused; turn = m.turn }; packet = is_waiting (waiting_at plan es place); asked = has_mail w.waits } ∷ remembers plan es (suc place) ms ws

-- THESE FRAMES ARE A SERVING that counts: the visits of one tour, each that came back asked by the inward half first; none is in vain where more could go on, but for as many
-- frames as the host has packets, and six for each mail: it waits once, and comes five steps
pub record IsEagerServing (plan : Scenario) (fs : List Exchanged) (missed : ℕ) (ws : List Serves) : Type 0 where
  pub again : Option (List ℕ)
  pub progress : Progress
  pub slaves : List (Clocked Body Asked Reply)
  pub toured : IsServedToured (lens_of plan.slaves) plan.recover plan.retry (slowest plan.paces) (all_serve plan.paces (first_leads plan)) fs again missed ws progress slaves
  pub asks : ServedAsks toured
  pub last : List Remembered
  pub now : List Remembered
  pub eager : ServedEagerIn plan toured last now
  pub enters : progress.lost ≤ lost_of fs + length plan.host + 6 * asked_in ws
