-- WHEN THE EVENTS OF A SLAVE'S PORT CAME, as a book numbers them: by how many frames had been sent then.
use Rattle.std.specs.Prelude.{◌≡◌, ℕ, zero, suc, if◌then◌else◌, Option, Some, None, List, [], ◌∷◌, ◌++◌, map, slice_get, All}
use Rattle.run_promises.specs.of_life_runs.Led.{Exchanged, Leads}
use Rattle.run_promises.specs.of_link_mails.Body.{Body}
use Rattle.seen_slaves.specs.of_master_duty.Reply.{Reply}
use Rattle.seen_slaves.specs.of_master_hand.Spoken.{Asked}
use Rattle.gateway_run.specs.of_run_book.declared.book.Begun.{Begun}
use Rattle.gateway_run.specs.of_run_book.declared.book.Book.{Book}
use Rattle.gateway_run.specs.of_run_book.declared.book.SlaveBook.{SlaveBook}
use Rattle.run_promises.specs.of_master_node.Forwards.{port_by}
use Rattle.run_promises.specs.of_master_node.Ports.{ports_behind, ports_of}
use Rattle.run_promises.specs.of_master_node.declared.event.Origin.{Origin}
use Rattle.run_promises.specs.of_master_node.declared.event.Origin.TheVariants.{Script, Forward, Gateway}
use Rattle.gateway_run.specs.of_run_record.Led.{LeadTo}
use Rattle.run_promises.specs.of_packets_heard.Numbers.{NoneWaits, begins, comes_in, events_up_to, frames_heard, goes, number_behind, numbers_where}
use Rattle.seen_slaves.specs.of_run_frames.Came.{is_packet}
use Rattle.run_promises.specs.of_life_model.Lives.{Era, Life}
use Rattle.run_promises.specs.of_state_model.Accounts.{Started}
use Rattle.run_promises.specs.of_segment_plan.declared.plan.Scenario.{Scenario}

-- the rows of epochs, in order: each service that came into hand, with the frame before which it did
abbrev pub eras_rows : List (Era Body Asked Reply) → List (Started Asked)
eras_rows [] = []
eras_rows (e ∷ es) = e.account.started ++ eras_rows es

-- of a whole life
abbrev pub life_rows : Life Body Asked Reply → List (Started Asked)
life_rows l = eras_rows l.past ++ l.era.account.started

-- of the slave at a place
abbrev pub rows_at : List Leads → ℕ → List (Started Asked)
rows_at [] k = []
rows_at (a ∷ as') zero = life_rows a.lived.life
rows_at (a ∷ as') (suc k) = rows_at as' k

-- the frames of those rows that carry packets
abbrev pub packet_frames : List (Started Asked) → List ℕ
packet_frames [] = []
packet_frames (r ∷ rs) = if is_packet r.service then r.frame ∷ packet_frames rs else packet_frames rs

-- the frame of a row of the script, and of no other
abbrev pub script_frame : Origin → ℕ → List ℕ
script_frame (Script number) frame = frame ∷ []
script_frame (Forward number) frame = []
script_frame (Gateway number) frame = []

-- of these rows of a book
abbrev pub script_frames : List Begun → List ℕ
script_frames [] = []
script_frames (b ∷ bs) = script_frame b.origin b.frame ++ script_frames bs

-- of the slave at a place
abbrev pub scripts_at : List SlaveBook → ℕ → List ℕ
scripts_at [] k = []
scripts_at (row ∷ rows) zero = script_frames row.begun
scripts_at (row ∷ rows) (suc k) = scripts_at rows k

-- the frame at which it was given up for good, where it was
abbrev pub given_up_in : List SlaveBook → ℕ → Option ℕ
given_up_in [] k = None
given_up_in (row ∷ rows) zero = row.given_up
given_up_in (row ∷ rows) (suc k) = given_up_in rows k

-- THE NUMBERS AT A PORT of a switch with so many: a packet begins with the frame of its row; one comes in with the number behind the frame that brought its
-- last fragment; the port goes down with the number behind the frame at which its slave was given up for good; and nothing waits there behind the events numbered
-- up to the frame of a row of the script
pub record HasNumbers (packets heard scripts : List ℕ) (given_up : Option ℕ) (many port : ℕ) (book : Book) : Type 0 where
  pub begun : numbers_where (begins port) book.switch book.switched ≡ packets
  pub arrived : numbers_where (comes_in port) book.switch book.switched ≡ map (λ n. suc n) heard
  pub down : numbers_where (goes port) book.switch book.switched ≡ number_behind given_up
  pub quiet : All (λ frame. NoneWaits many port (events_up_to frame book.switch book.switched)) scripts

-- AT THE PORT OF EACH SLAVE of a plan that has one: by the rows of its life, the frames that completed its packets, and the book's rows of it
abbrev pub AllHaveNumbers : (plan : Scenario) {fs : List Exchanged} {missed : ℕ} {leads : List Leads} → LeadTo plan fs missed leads → Book → Type 0
AllHaveNumbers plan {leads = leads} lives book =
    (k port : ℕ) → port_by (slice_get (ports_behind 0 plan.slaves) k) ≡ Some port →
    HasNumbers (packet_frames (rows_at leads k)) (frames_heard (ports_behind 0 plan.slaves) lives k) (scripts_at book.slaves k) (given_up_in book.slaves k) (ports_of plan.slaves) port book
