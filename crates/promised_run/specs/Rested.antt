-- WHAT A SERVING LEAVES OF ITS SLAVES where nothing was left to do.
use Rattle.std.specs.Prelude.{◌≡◌, ◌⊎◌, ℕ, suc, true, List, [], ◌∷◌, ⊤}
use Rattle.gateway_run.specs.Served.{HasAccount}
use Rattle.gateway_run.specs.Since.{NoneSince}
use Rattle.run_promises.specs.of_life_model.Lives.{Stand}
use Rattle.run_promises.specs.of_life_runs.Causes.{since}
use Rattle.run_promises.specs.of_life_runs.First.{lens_of}
use Rattle.run_promises.specs.of_master_node.Wants.{gave_of}
use Rattle.gateway_run.specs.of_run_book.declared.book.Book.{Book}
use Rattle.gateway_run.specs.of_run_record.Led.{LeavesNone}
use Rattle.gateway_run.specs.of_run_record.Replay.{first_ring, ring_after}
use Rattle.run_promises.specs.of_segment_plan.declared.plan.Scenario.{Scenario}
use Rattle.run_promises.specs.of_segment_plan.declared.slave.SlaveSpec.{SlaveSpec}
use Rattle.seen_slaves.specs.of_served_rings.Rests.{IsServedDone, IsServedIdle}
use Rattle.seen_slaves.specs.of_served_rings.StoodLives.{IsFirst, others}
use Rattle.run_promises.specs.of_life_runs.Served.{Serves}
use Rattle.run_promises.specs.of_slave_server.Serving.{Serving, next_mail}
use Rattle.run_promises.specs.of_slave_node.Node.{Node, is_settled}
use Rattle.promised_run.specs.Stood.{nodes_through}

-- NOTHING IS LEFT OF A SLAVE: its master wants nothing of it, and no mail waits; it is settled; it wasn't given up since its newest epoch began, so no mail that
-- began since then was cut off; over its epochs its whole script came into hand, with packets and with mails that were asked, in order, all of them where it was
-- never given up; and all rows of its newest epoch are carried out and answered, which made its node what it is, from what the epochs before left, which it held as
-- each of them ended. What one of those left undone when it was cut off stays so
pub record IsRested (stood : ℕ → Node Serving → Type 0) (plan : Scenario) (place : ℕ) (s : SlaveSpec) (w : Serves) (n : Node Serving) : Type 0 where
  pub idle : IsServedIdle (lens_of plan.slaves) w
  pub settled : is_settled next_mail n ≡ true
  pub quiet : NoneSince (since w.lead.lived.life.era.cleared) (gave_of w.lead)
  pub done : IsServedDone stood plan place s w n

-- of each slave, from a place on, that wasn't given up for good, by the nodes of these slaves behind each number of frames
abbrev pub AllRested : (ℕ → List (Node Serving)) → Scenario → ℕ → List SlaveSpec → List Serves → List (Node Serving) → Type 0
AllRested stood plan place [] [] [] = ⊤
AllRested stood plan place (s ∷ ss) (w ∷ ws) (n ∷ ns) = ((w.lead.lived.life.stand ≡ Stand.Gone) ⊎ IsRested (IsFirst stood) plan place s w n) × AllRested (others stood) plan (suc place) ss ws ns
AllRested stood plan place _ _ _ = ⊥

-- WHERE NOTHING WAS LEFT TO DO, by the lives that the frames of the book lead and the ring behind all of them
abbrev pub IsServedRested : Scenario → ℕ → Book → Type 0
IsServedRested plan count book =
    LeavesNone book.ending → (a : HasAccount plan count book book.ending) → AllRested (nodes_through plan book.frames) plan 0 plan.slaves a.answers.serving.leading.serves (ring_after (first_ring plan) book.frames).nodes
