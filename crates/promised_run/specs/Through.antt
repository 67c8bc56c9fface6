-- WHAT A SERVING PROMISES OF ITS SLAVES, at each moment of it.
use Rattle.std.specs.Prelude.{◌≡◌, ℕ, Some, List, [], ◌∷◌, ◌++◌, length, map, All}
use Rattle.seen_slaves.specs.of_frame_view.Shares.{AllBoth}
use Rattle.run_promises.specs.of_life_runs.First.{lens_of}
use Rattle.run_promises.specs.of_life_runs.Led.{gives_up_at}
use Rattle.gateway_run.specs.of_run_book.declared.book.Book.{Book}
use Rattle.gateway_run.specs.of_run_book.declared.book.SentFrame.{SentFrame}
use Rattle.gateway_run.specs.of_run_record.Led.{exchanged}
use Rattle.gateway_run.specs.of_run_record.Served.{ServeTo}
use Rattle.run_promises.specs.of_segment_plan.declared.plan.Scenario.{Scenario}
use Rattle.run_promises.specs.of_life_runs.Came.{HasServed}
use Rattle.run_promises.specs.of_segment_model.Ends.{Passing}
use Rattle.run_promises.specs.of_life_runs.Served.{Serves, ServedTurn, IsServedFrame, TellsSo, served_behind}
use Rattle.run_promises.specs.of_life_runs.Told.{Passed, TellsOwn}
use Rattle.promised_run.specs.Stood.{StoodBehind}

-- BEHIND THESE FRAMES, of each slave as its master leads it: the slave of the ring that replays them has carried out, epoch by epoch, just the first of the rows
-- that came into hand of it, each mail that was passed on by the one step that its server takes for it; each answer of the others is its server's own, of a row
-- carried out, and what was heard that it sent of itself are the first mails that these emit; what was heard for the mail in hand are the first of the replies of
-- that step, and all of them where it is over; what was told of it are the first of those; and what came into hand are the next services of its script, packets, and
-- the mails that were asked of it, in order, each once; and as each epoch ended the slave held what was carried out of it
pub record IsServedSo (plan : Scenario) (front : List SentFrame) (ws : List Serves) : Type 0 where
  pub slaves : StoodBehind plan front ws
  pub told : All TellsSo ws
  pub came : All (HasServed (lens_of plan.slaves)) ws

-- AT EACH MOMENT: behind any first frames of the book, as its master leads the slaves by these and by the mails that were asked until then
abbrev pub IsServedThrough : Scenario → Book → Type 0
IsServedThrough plan book =
    (front back : List SentFrame) → book.frames ≡ front ++ back → (missed : ℕ) (ws : List Serves) → ServeTo plan (map exchanged front) missed ws → IsServedSo plan front ws

-- A MAIL THAT WAS PASSED ON AND WASN'T OVER BEFORE A FRAME: what is told of it behind the frame are all replies that were heard for it, also where it is over by then
abbrev pub TellsWhole : ServedTurn → Serves → Type 0
TellsWhole v w = (passing : Passing) → v.turn.lived.life.era.passing ≡ Some passing → (p : Passed) → w.hand ≡ Some p → (t : TellsOwn p w.lead.lived.life.era.passing w.lead.lived.life.era.side.now) × (t.rest ≡ [])

-- FROM EACH MOMENT TO THE NEXT: of each slave, by each frame of the book as its master leads the slaves before it and behind it
abbrev pub IsServedWhole : Scenario → Book → Type 0
IsServedWhole plan book =
    (front back : List SentFrame) (f : SentFrame) → book.frames ≡ front ++ f ∷ back → (missed : ℕ) (ws : List Serves) → ServeTo plan (map exchanged front) missed ws →
    (vs : List ServedTurn) → IsServedFrame (lens_of plan.slaves) (length (map exchanged front)) f.sent ws vs →
    AllBoth TellsWhole vs (map (served_behind (lens_of plan.slaves) plan.recover plan.retry (gives_up_at (lens_of plan.slaves) plan.recover plan.retry missed) (length (map exchanged front)) (exchanged f)) vs)
