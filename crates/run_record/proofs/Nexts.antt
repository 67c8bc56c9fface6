-- Where some slave is live there is a next frame, and it is led.
use Rattle.std.proofs.Common.{◌≡◌, ◌<◌, ◌^◌, ℕ, suc, List, length, true, false, refl, sym, ◌∙◌}
use Rattle.std.specs.Prelude.{◌↔◌}
use Rattle.packets_heard.specs.of_master_node.Events.{ServedBegin}
use Rattle.packets_heard.specs.of_master_node.Origins.{forwards_at}
use Rattle.packets_heard.specs.of_master_node.Serving.{ServedShows, ServedUnder}
use Rattle.packets_heard.specs.of_master_node.Touring.{IsServedVisit}
use Rattle.packets_heard.specs.of_master_node.declared.node.MasterNode.{MasterNode}
use Rattle.packets_heard.specs.of_master_node.declared.node.Next.{Next}
use Rattle.packets_heard.specs.of_master_node.declared.node.Next.TheVariants as nexts
use Rattle.plan_ring.specs.of_frame_view.View.{Lens}
use Rattle.served_places.specs.of_life_runs.First.{lens_of}
use Rattle.served_places.specs.of_life_runs.Led.{Exchanged}
use Rattle.run_record.specs.ServedLed.{LeadsFrame, ServedLeading}
use Rattle.run_record.specs.Session.{has_live}
use Rattle.packets_heard.specs.of_segment_plan.declared.plan.Scenario.{Scenario}
use Rattle.served_places.specs.of_life_runs.Served.{IsServedFrame, ServedTurn, Serves}

pub next_frame : (m : MasterNode) (result : Next) → (result ≡ nexts.Idle) ↔ (has_live m ≡ false) → has_live m ≡ true → result ≡ nexts.Frame
next_frame m nexts.Frame idle live = refl
next_frame m nexts.Idle idle live = absurd (let none = idle.0 refl in let bad : true ≡ false = sym live ∙ none in cc)

-- by whatever lives the master leads
pub next_led : (m n : MasterNode) (f : Exchanged) (result : Next) → (result ≡ nexts.Idle) ↔ (has_live m ≡ false) →
    (result ≡ nexts.Frame → (lens : ℕ → Lens) (recover retry missed made : ℕ) (ws : List Serves) → suc made < 2 ^ 32 → ServedShows lens recover retry m missed made ws →
    (vs : List ServedTurn) × IsServedFrame lens made f.sent ws vs × ServedUnder lens recover retry n f.sent missed made vs × ServedBegin (λ k. forwards_at m.posts.items k) ws vs n × IsServedVisit lens f.sent ws vs m n) →
    (plan : Scenario) (fs : List Exchanged) → suc (length fs) < 2 ^ 32 → has_live m ≡ true → (l : ServedLeading plan m fs) → LeadsFrame plan m fs f l
next_led m n f result idle serves plan fs few live l =
    let made = serves (next_frame m result idle live) (lens_of plan.slaves) plan.recover plan.retry l.missed (length fs) l.serves few l.shows in
    record { turns = made.0; frame = made.1; visit = n.tour.visit.items; of_tour = record { visits = made.4.visits; asks = made.4.asks } }
