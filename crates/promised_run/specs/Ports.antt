-- THE PORT OF A SLAVE over a run: what came in there, what began there, and when it went down.
use Rattle.std.specs.Prelude.{◌≡◌, ℕ, zero, suc, Bool, if◌then◌else◌, Some, List, [], ◌∷◌, ◌++◌, length, slice_get}
use Rattle.run_promises.specs.of_life_runs.Led.{Exchanged, Leads}
use Rattle.gateway_run.specs.of_run_book.declared.book.Book.{Book}
use Rattle.run_promises.specs.of_link_mails.Body.{Body}
use Rattle.run_promises.specs.of_master_node.Forwards.{port_by}
use Rattle.run_promises.specs.of_master_node.Happened.{arrivals_at}
use Rattle.run_promises.specs.of_master_node.Ports.{ports_behind, ports_of}
use Rattle.run_promises.specs.of_master_node.Shows.{is_live_lead}
use Rattle.run_promises.specs.of_master_tour.Goes.{holds_at}
use Rattle.gateway_run.specs.of_run_record.Led.{LeadTo}
use Rattle.arrayvec.specs.ArrayVec.{ArrayVec}
use Rattle.run_promises.specs.of_eoe_switch.Switch.{switched}
use Rattle.run_promises.specs.of_eoe_switch.declared.switching.SwitchEvent.{SwitchEvent}
use Rattle.run_promises.specs.of_eoe_switch.declared.switching.SwitchEvent.TheVariants.{Down}
use Rattle.run_promises.specs.of_packets_heard.Over.{begun_at, forwarded_to, packets_begun}
use Rattle.run_promises.specs.of_packets_heard.Listed.{downs_at, long_ones}
use Rattle.run_promises.specs.of_packets_heard.Heard.{Times, ended, packets_of, times_in}
use Rattle.run_promises.specs.of_segment_plan.declared.plan.Scenario.{Scenario}

-- the mails that the life of the slave at a place accepted, those of each time that it was open
abbrev pub accepted_at : List Times → ℕ → List (List Body)
accepted_at [] k = []
accepted_at (t ∷ ts) zero = ended t.past t.now
accepted_at (t ∷ ts) (suc k) = accepted_at ts k

-- WHAT BEGAN AT A PORT of a switch with so many: as many packets as these, the first of those forwarded there, in order; and none behind its going down
pub record HasBegunAt (packets : List (ArrayVec ℕ)) (many port : ℕ) (es : List SwitchEvent) : Type 0 where
  pub begun : begun_at port es ≡ length packets
  pub left : List (ArrayVec ℕ)
  pub forwarded : forwarded_to port (switched many es).forwards ≡ packets ++ left
  pub last : (xs ys : List SwitchEvent) → es ≡ xs ++ Down port ∷ ys → begun_at port ys ≡ 0

-- A SLAVE'S PORT: there came in just the packets that these mails complete, in order, each whole, but for those of less than 14 octets; and it went down
-- once where the slave doesn't stay in the ring, and never else; the packets that began there, of a switch with so many ports, are those that came into hand
pub record HasPort (mails : List (List Body)) (stays : Bool) (in_hand : List (ArrayVec ℕ)) (many port : ℕ) (book : Book) : Type 0 where
  pub arrived : arrivals_at port book.switch ≡ long_ones (packets_of mails)
  pub downs : downs_at port book.switch ≡ (if stays then 0 else 1)
  pub begun : HasBegunAt in_hand many port book.switch

-- THE PORTS OF A PLAN'S SLAVES: each that has one, by the mails that its life accepted, whether it was given up for good, and the packets that came into hand of it
abbrev pub AllHavePorts : (plan : Scenario) {fs : List Exchanged} {missed : ℕ} {leads : List Leads} → LeadTo plan fs missed leads → Book → Type 0
AllHavePorts plan {leads = leads} lives book =
    (k port : ℕ) → port_by (slice_get (ports_behind 0 plan.slaves) k) ≡ Some port → HasPort (accepted_at (times_in lives) k) (holds_at is_live_lead leads k) (packets_begun lives k) (ports_of plan.slaves) port book
