-- THE PORTS OF A PLAN'S SLAVES over a serving: what came in there, what began there, when it went down, and the number of each of these.
use Rattle.std.specs.Prelude.{◌≡◌, ◌≢◌, ℕ, if◌then◌else◌, Bool, false, Some, List, [], ◌∷◌, ◌++◌, map, slice_get}
use Rattle.gateway_run.specs.Served.{HasAccount}
use Rattle.run_promises.specs.of_life_runs.Led.{Exchanged}
use Rattle.seen_slaves.specs.of_master_hand.Spoken.{Asked, is_passed}
use Rattle.promised_run.specs.Numbers.{HasNumbers, given_up_in, packet_frames, rows_at, scripts_at}
use Rattle.promised_run.specs.Ports.{HasPort, accepted_at}
use Rattle.gateway_run.specs.of_run_book.declared.book.Book.{Book}
use Rattle.gateway_run.specs.of_run_book.declared.book.Ending.TheVariants as endings
use Rattle.run_promises.specs.of_master_node.Forwards.{port_by}
use Rattle.run_promises.specs.of_master_node.Ports.{ports_behind, ports_of}
use Rattle.run_promises.specs.of_master_node.Serving.{run_lead}
use Rattle.run_promises.specs.of_master_node.Shows.{is_live_lead}
use Rattle.run_promises.specs.of_master_tour.Goes.{holds_at}
use Rattle.gateway_run.specs.of_run_record.Served.{ServeTo}
use Rattle.run_promises.specs.of_packets_heard.Servings.{served_completed, served_packets, served_times}
use Rattle.run_promises.specs.of_state_model.Stated.{Service}
use Rattle.run_promises.specs.of_state_model.Accounts.{Started}
use Rattle.run_promises.specs.of_segment_plan.declared.plan.Scenario.{Scenario}
use Rattle.run_promises.specs.of_life_runs.Served.{Serves}

-- a mail that is passed on
abbrev pub is_mail : Service Asked → Bool
is_mail (Service.Mails q) = is_passed q
is_mail (Service.State target) = false

-- the frames of those rows that are mails passed on
abbrev pub mail_frames : List (Started Asked) → List ℕ
mail_frames [] = []
mail_frames (r ∷ rs) = if is_mail r.service then r.frame ∷ mail_frames rs else mail_frames rs

module _ (plan : Scenario) {fs : List Exchanged} {missed : ℕ} {ws : List Serves} (lives : ServeTo plan fs missed ws) (book : Book) where
  -- OF EACH SLAVE THAT HAS A PORT, as over a run: by the mails that its life accepted, whether it was given up for good, and the packets that came into hand of it
  abbrev pub AllHaveServedPorts : Type 0
  AllHaveServedPorts =
      (k port : ℕ) → port_by (slice_get (ports_behind 0 plan.slaves) k) ≡ Some port → HasPort (accepted_at (served_times lives) k) (holds_at is_live_lead (map run_lead ws) k) (served_packets lives k) (ports_of plan.slaves) port book

  -- AND THE NUMBERS THERE, by the rows of its life, the frames that completed its packets, and the book's rows of it: also up to the frame of a mail that was passed
  -- on nothing waits there
  abbrev pub AllHaveServedNumbers : Type 0
  AllHaveServedNumbers =
      (k port : ℕ) → port_by (slice_get (ports_behind 0 plan.slaves) k) ≡ Some port → let rows = rows_at (map run_lead ws) k in
      HasNumbers (packet_frames rows) (served_completed (ports_behind 0 plan.slaves) lives k) (scripts_at book.slaves k ++ mail_frames rows) (given_up_in book.slaves k) (ports_of plan.slaves) port book

-- WHAT A BOOK HAS OF THE PORTS of a serving, unless memory ran out: by the lives that its frames lead
pub record HasServedPorts (plan : Scenario) (count : ℕ) (book : Book) (a : HasAccount plan count book book.ending) : Type 0 where
  pub ports : AllHaveServedPorts plan a.answers.serving.leading.lives book
  pub numbers : AllHaveServedNumbers plan a.answers.serving.leading.lives book

-- by each account of it
abbrev pub IsServedAtPorts : Scenario → ℕ → Book → Type 0
IsServedAtPorts plan count book = book.ending ≢ endings.NoMemory → (a : HasAccount plan count book book.ending) → HasServedPorts plan count book a
