-- WHAT IS SAID OF EACH PLAN THAT WAS READ: its slaves send whole packets, and their mails are those of their epochs.
use Rattle.std.specs.Prelude.{ℕ, List}
use Rattle.packets_heard.specs.of_life_runs.First.{first_leads, lens_of}
use Rattle.packets_heard.specs.of_life_runs.Led.{Exchanged, IsLed, Leads}
use Rattle.packets_heard.specs.Heard.{packets_of, times_in}
use Rattle.packets_heard.specs.Servings.{served_times}
use Rattle.served_rings.specs.of_plan_ring.Lives.{IsKnown}
use Rattle.served_rings.specs.of_plan_ring.Round.{AllRound, ring_of}
use Rattle.packets_heard.specs.of_slave_server.Serving.{Serving}
use Rattle.packets_heard.specs.of_segment_plan.Sound.{IsPlan}
use Rattle.packets_heard.specs.of_segment_plan.declared.plan.Scenario.{Scenario}
use Rattle.packets_heard.specs.of_segment_plan.declared.slave.SlaveSpec.{SlaveSpec}
use Rattle.run_promises.specs.Whole.{AllAreHeard, AllSendWhole, AreLong, heard_at}
use Rattle.served_rings.specs.Served.{AllServeSo}
use Rattle.packets_heard.specs.of_life_runs.Served.{IsRunOf, ServeTo, Serves}
use Rattle.packets_heard.specs.of_slave_node.Node.{Node}

-- each epoch of each slave sends whole packets, by what it carried out
abbrev pub SlavesSendWhole : Type 0
SlavesSendWhole = (plan : Scenario) → IsPlan plan → IsKnown plan → (ws : List Serves) (ns : List (Node Serving)) → (d : AllServeSo plan.slaves ws ns) → AllSendWhole plan.slaves ws ns d

-- so each packet that was joined of a slave's epochs has at least 14 octets
abbrev pub PacketsAreLong : Type 0
PacketsAreLong = (ss : List SlaveSpec) (ws : List Serves) (ns : List (Node Serving)) (d : AllServeSo ss ws ns) → AllSendWhole ss ws ns d → (k : ℕ) → AreLong (packets_of (heard_at ws k))

-- over a serving the mails accepted each time that a slave was open are those of its epochs
abbrev pub ServingsHear : Type 0
ServingsHear =
    (plan : Scenario) → IsPlan plan → IsKnown plan → (fs : List Exchanged) (missed : ℕ) (ws : List Serves) → (led : ServeTo plan fs missed ws) → AllRound (ring_of plan) fs → AllAreHeard ws (served_times led)

-- and over a run, by the lives of a serving to which no mail is asked
abbrev pub RunsHear : Type 0
RunsHear =
    (plan : Scenario) → IsPlan plan → IsKnown plan → (fs : List Exchanged) (missed : ℕ) (leads : List Leads) → (led : IsLed (lens_of plan.slaves) plan.recover plan.retry (first_leads plan) fs missed leads) →
    AllRound (ring_of plan) fs → (ws : List Serves) → IsRunOf ws leads → AllAreHeard ws (times_in led)
