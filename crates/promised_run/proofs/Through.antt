-- AT EACH MOMENT of a serving its frames went round the plan's ring.
use Rattle.std.proofs.Common.{◌≡◌, ℕ, List, [], ◌∷◌, ◌++◌, map, take, ap, ◌∙◌, subst}
use Rattle.std.proofs.lemmas.List.{take-map}
use Rattle.std.specs.Prelude.{All}
use Rattle.run_promises.specs.of_life_runs.First.{first_leads, lens_of}
use Rattle.run_promises.specs.of_life_runs.Led.{Exchanged}
use Rattle.seen_slaves.specs.of_plan_ring.Lives.{IsKnown}
use Rattle.seen_slaves.specs.of_plan_ring.Round.{AllRound, ring_after, ring_of}
use Rattle.promised_run.proofs.Rounds.{all_round, same_ring}
use Rattle.gateway_run.specs.of_run_book.declared.book.Book.{Book}
use Rattle.gateway_run.specs.of_run_book.declared.book.SentFrame.{SentFrame}
use Rattle.run_promises.proofs.Known.{known}
use Rattle.gateway_run.specs.of_run_record.Led.{exchanged}
use Rattle.gateway_run.specs.of_run_record.Ran.{HasSent}
use Rattle.gateway_run.specs.of_run_record.Replay.{AreRecorded, behind, first_ring}
use Rattle.run_promises.specs.of_scenario.Told.{IsTold}
use Rattle.run_promises.specs.of_segment_plan.Sound.{IsPlan}
use Rattle.run_promises.specs.of_segment_plan.declared.plan.Scenario.{Scenario}
use Rattle.run_promises.specs.of_segment_ring.Ring.{RingState}
use Rattle.seen_slaves.specs.of_served_rings.Rings.{nodes_behind}
use Rattle.seen_slaves.specs.of_served_rings.Stood.{ServeSo, ServeStood}
use Rattle.run_promises.proofs.of_run_work.Placed.{all_fresh}
use Rattle.run_promises.specs.of_life_runs.Came.{HasServed, IsFresh}
use Rattle.run_promises.specs.of_life_runs.Served.{Serves, IsServedLed, TellsSo, all_serve}
use Rattle.run_promises.specs.of_slave_node.Node.{Node}
use Rattle.run_promises.specs.of_slave_server.declared.server.SlaveServer.{SlaveServer}
use Rattle.promised_run.specs.Stood.{StoodBehind, nodes_through}
use Rattle.promised_run.specs.Through.{IsServedThrough}

-- the first of recorded frames are
first_recorded : (ring : RingState (Node SlaveServer)) (fs others : List SentFrame) → AreRecorded ring (fs ++ others) → AreRecorded ring fs
first_recorded ring [] others recorded = tt
first_recorded ring (f ∷ fs) others recorded = (recorded.0, first_recorded (behind ring f.sent) fs others recorded.1)

-- the nodes of the plan's ring behind frames are those of the one that replays them
pub same_nodes : (plan : Scenario) (fs : List SentFrame) (frames : ℕ) → nodes_behind plan (map exchanged fs) frames ≡ nodes_through plan fs frames
same_nodes plan fs frames =
    ap (λ hs. (ring_after (ring_of plan) hs).nodes) (take-map exchanged frames fs) ∙ ap (λ (r : RingState (Node SlaveServer)). r.nodes) (same_ring (first_ring plan) (take frames fs))

-- what slaves served by frames they served by the book's
pub stood_behind : (plan : Scenario) (fs : List SentFrame) (ws : List Serves) → ServeSo plan (map exchanged fs) ws → StoodBehind plan fs ws
stood_behind plan fs ws served =
    subst (λ ns. ServeStood (nodes_through plan fs) plan.slaves ws ns) (ap (λ (r : RingState (Node SlaveServer)). r.nodes) (same_ring (first_ring plan) fs))
    (subst (λ (stood : ℕ → List (Node SlaveServer)). ServeStood stood plan.slaves ws (ring_after (ring_of plan) (map exchanged fs)).nodes) (λ i k. same_nodes plan fs k i) served)

-- the laws of a serving
abbrev pub RepliesLaw : Type 0
RepliesLaw = (plan : Scenario) → IsPlan plan → IsKnown plan → (fs : List Exchanged) (missed : ℕ) (ws : List Serves) → IsServedLed (lens_of plan.slaves) plan.recover plan.retry (all_serve plan.paces (first_leads plan)) fs missed ws → AllRound (ring_of plan) fs → ServeSo plan fs ws

-- of what is told, and of what came into hand
abbrev pub ToldLaw : Scenario → Type 0
ToldLaw plan = (fs : List Exchanged) (missed : ℕ) (ws : List Serves) → IsServedLed (lens_of plan.slaves) plan.recover plan.retry (all_serve plan.paces (first_leads plan)) fs missed ws → All TellsSo ws

abbrev pub CameLaw : Scenario → Type 0
CameLaw plan = (fs : List Exchanged) (missed : ℕ) (ws : List Serves) → All IsFresh (first_leads plan) → IsServedLed (lens_of plan.slaves) plan.recover plan.retry (all_serve plan.paces (first_leads plan)) fs missed ws → All (HasServed (lens_of plan.slaves)) ws

pub through : (plan : Scenario) (count : ℕ) (book : Book) → IsPlan plan → IsTold plan → RepliesLaw → ToldLaw plan → CameLaw plan → HasSent plan count book → IsServedThrough plan book
through plan count book is told law tells came sent = λ front back split missed ws led.
    let recorded = first_recorded (first_ring plan) front back (subst (AreRecorded (first_ring plan)) split sent.recorded) in
    let served = law plan is (known plan told) (map exchanged front) missed ws led (all_round (first_ring plan) front recorded) in
    record {
      slaves = stood_behind plan front ws served;
      told = tells (map exchanged front) missed ws led;
      came = came (map exchanged front) missed ws (all_fresh plan.services 0 plan.slaves) led;
    }
