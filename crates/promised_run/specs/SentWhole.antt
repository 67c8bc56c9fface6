-- WHAT CAME IN AT THE PORT OF A SLAVE over a run or a serving is, epoch by epoch, the first of the packets that its carried out rows emit, each whole as it was sent.
use Rattle.std.specs.Prelude.{◌≡◌, ◌≢◌, ℕ, Some, List, map, slice_get}
use Rattle.gateway_run.specs.Served.{HasAccount}
use Rattle.promised_run.specs.Ports.{accepted_at}
use Rattle.promised_run.specs.Stood.{StoodBehind}
use Rattle.gateway_run.specs.of_run_book.declared.book.Book.{Book}
use Rattle.gateway_run.specs.of_run_book.declared.book.Ending.TheVariants as endings
use Rattle.gateway_run.specs.of_run_book.declared.book.SentFrame.{SentFrame}
use Rattle.run_promises.specs.of_master_node.Forwards.{port_by}
use Rattle.run_promises.specs.of_master_node.Happened.{arrivals_at}
use Rattle.run_promises.specs.of_master_node.Ports.{ports_behind}
use Rattle.gateway_run.specs.of_run_record.Replay.{first_ring, ring_after}
use Rattle.arrayvec.specs.ArrayVec.{ArrayVec}
use Rattle.run_promises.specs.of_packets_heard.Heard.{Times, packets_of}
use Rattle.run_promises.specs.of_packets_heard.Servings.{served_times}
use Rattle.run_promises.specs.of_segment_plan.declared.plan.Scenario.{Scenario}
use Rattle.run_promises.specs.Whole.{AllSendWhole, heard_at}
use Rattle.run_promises.specs.of_life_runs.Served.{Serves}

-- BEHIND THESE FRAMES each epoch of each slave sent whole packets, by what the slave carried out of it: of these the first came in of the mails that were heard in
-- its rows, each whole, and no fragment was dropped; and the mails accepted each time that the slave was open are those of its epochs, in order
pub record SendWhole (plan : Scenario) (frames : List SentFrame) (ws : List Serves) (times : List Times) : Type 0 where
  pub served : StoodBehind plan frames ws
  pub whole : AllSendWhole plan.slaves ws (ring_after (first_ring plan) frames).nodes served.each
  pub heard : (k : ℕ) → accepted_at times k ≡ heard_at ws k

-- a packet of these octets
abbrev pub packet_of : List ℕ → ArrayVec ℕ
packet_of octets = record { items = octets }

-- SO AT ITS PORT, unless memory ran out, just the packets came in that those mails complete, in order, none left out
abbrev pub AllArrive : Scenario → List Serves → Book → Type 0
AllArrive plan ws book =
    (k port : ℕ) → port_by (slice_get (ports_behind 0 plan.slaves) k) ≡ Some port → arrivals_at port book.switch ≡ map packet_of (packets_of (heard_at ws k))

-- OF A BOOK, with the lives that its frames lead and the mails that these accepted
pub record HasSentWhole (plan : Scenario) (book : Book) (ws : List Serves) (times : List Times) : Type 0 where
  pub sends : SendWhole plan book.frames ws times
  pub arrive : book.ending ≢ endings.NoMemory → AllArrive plan ws book

-- of a serving, by each account of its book
abbrev pub IsServedSentWhole : Scenario → ℕ → Book → Type 0
IsServedSentWhole plan count book =
    (a : HasAccount plan count book book.ending) → HasSentWhole plan book a.answers.serving.leading.serves (served_times a.answers.serving.leading.lives)
