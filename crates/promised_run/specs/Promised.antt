-- THE PROMISE OF A RUN, by the frames of its book.
use Rattle.std.specs.Prelude.{◌≡◌, ◌≢◌, List, map, ⊤}
use Rattle.gateway_run.specs.of_run_record.AcceptedMails.{heard_in}
use Rattle.run_promises.specs.of_life_runs.Led.{Leads}
use Rattle.run_promises.specs.Promise.{slaves_behind, Keeps}
use Rattle.run_promises.specs.Rest.{NothingIsLeft, AllIsDone}
use Rattle.promised_run.specs.Alone.{ServesAlone}
use Rattle.promised_run.specs.Emergencies.{AllHaveEmergencies}
use Rattle.promised_run.specs.Epochs.{AllCaused}
use Rattle.promised_run.specs.Few.{AreFewLost, OutlivesLosses}
use Rattle.promised_run.specs.Left.{IsLeft}
use Rattle.promised_run.specs.Numbers.{AllHaveNumbers}
use Rattle.promised_run.specs.Packets.{AllHavePackets}
use Rattle.promised_run.specs.Ports.{AllHavePorts}
use Rattle.promised_run.specs.Reported.{AllReported}
use Rattle.promised_run.specs.SentWhole.{HasSentWhole}
use Rattle.promised_run.specs.Unsent.{AllUnsent}
use Rattle.promised_run.specs.Visits.{AllVisit}
use Rattle.promised_run.specs.Written.{AllWritten}
use Rattle.gateway_run.specs.of_run_book.declared.book.Book.{Book}
use Rattle.gateway_run.specs.of_run_book.declared.book.Ending.{Ending}
use Rattle.gateway_run.specs.of_run_book.declared.book.Ending.TheVariants as endings
use Rattle.gateway_run.specs.of_run_record.Led.{LedBook, exchanged}
use Rattle.gateway_run.specs.of_run_record.Replay.{first_ring, ring_after}
use Rattle.run_promises.specs.of_packets_heard.Heard.{times_in}
use Rattle.gateway_run.specs.of_run_notes.Switched.{HasPackets}
use Rattle.run_promises.specs.of_segment_plan.declared.plan.Scenario.{Scenario}

-- WHERE A RUN IS OVER: done, all of each slave is done; with a slave given up, nothing is left of those that weren't given up for good
abbrev pub LeavesNothing : Scenario → Book → List Leads → Ending → Type 0
LeavesNothing plan book leads endings.Done = AllIsDone plan (map exchanged book.frames) leads
LeavesNothing plan book leads endings.GivenUp = NothingIsLeft plan (map exchanged book.frames) leads
LeavesNothing plan book leads endings.BudgetSpent = ⊤
LeavesNothing plan book leads endings.NoMemory = ⊤
LeavesNothing plan book leads endings.PortFault = ⊤
LeavesNothing plan book leads endings.Unfinished = ⊤

-- WHATEVER FRAMES ARE LOST: the frames of the book are just those that the lives of the slaves ask for, and these were given up at just the frames that the
-- book has; each slave has begun the first services of its script, in order, has carried out the first of these, and gave the replies; these
-- slaves are those of the very ring that replays the frames; and where the run is over nothing is left of it
pub record IsPromised (plan : Scenario) (book : Book) : Type 0 where
  pub led : LedBook plan book book.ending
  pub kept : Keeps plan (map exchanged book.frames) led.leads
  pub slaves : slaves_behind plan (map exchanged book.frames) ≡ (ring_after (first_ring plan) book.frames).nodes
  pub over : LeavesNothing plan book led.leads book.ending
  -- and each counts just the services by mails that it carried out, epoch by epoch (`handled`): a run is a serving to which no mail is asked
  pub served : ServesAlone plan book led.leads
  -- of the script just the services stand there that began, each reported with just what the frames give for it, the reply of this application, or in doubt
  pub reported : book.ending ≢ endings.NoMemory → AllReported plan (map exchanged book.frames) 0 plan.slaves led.leads (slaves_behind plan (map exchanged book.frames)) book.slaves
  -- and of each script just the rest, behind the services that began, is reported as not sent
  pub unsent : book.ending ≢ endings.NoMemory → AllUnsent plan 0 led.leads book.slaves
  -- and the epochs of the book are those of the lives, in which each has its cause, and opens the AL state that follows of it
  pub epochs : book.ending ≢ endings.NoMemory → AllCaused led.leads book.slaves
  -- and of each slave just the emergencies among the mails that its life accepted over these frames are reported, each with the frame that brought it
  pub emergencies : book.ending ≢ endings.NoMemory → AllHaveEmergencies (heard_in led.lives) book.slaves
  -- and the host received just the packets that the events of the book's switch forward to its port; those that came in there are the first of the plan's
  pub packets : book.ending ≢ endings.NoMemory → HasPackets plan book
  -- and at the port of each slave that has one just those packets came in that the mails which its life accepted complete, in order, each whole; and it went down
  -- once where the slave was given up for good, and never else; as many packets began there as came into hand of the slave, the first of those that the events
  -- forward there, in order, and none behind its going down
  pub ports : book.ending ≢ endings.NoMemory → AllHavePorts plan led.lives book
  -- and what came in there is, epoch by epoch, the first of the packets that the rows emit which its slave carried out, each whole as it was sent
  pub sends : HasSentWhole plan book served.serves (times_in led.lives)
  -- and the frames are the visits of one tour: each is addressed to the first slaves of its visit, in order, and to no other
  pub visits : AllVisit plan led.toured
  -- and where no more frames in a row are lost than the retry limit no slave is given up: where nothing is left to do all is done
  pub outlived : AreFewLost plan.lose plan.retry → book.ending ≢ endings.NoMemory → OutlivesLosses book
  -- and each event at the port of a slave has its exact number: a packet begins with the frame of its row, one comes in with the number behind the frame that brought
  -- its last fragment, and the port goes down with the number behind the give-up; and nothing waits there behind the events numbered up to a row of the script
  pub numbers : book.ending ≢ endings.NoMemory → AllHaveNumbers plan led.lives book
  -- and of packets just those stand among the services of a slave's row that came into hand of it, in order, each once, with its number and its frame
  pub forwards : book.ending ≢ endings.NoMemory → AllHavePackets led.leads book
  -- each `Handed`, of the frame with whose return its last fragment was written, or in doubt where it wasn't
  pub written : book.ending ≢ endings.NoMemory → AllWritten plan book led
  -- and where the budget was spent something was left to do
  pub left : IsLeft plan book led
