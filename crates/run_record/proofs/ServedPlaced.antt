-- NO MORE OF A SCRIPT CAME INTO HAND than it has, over the frames of a serving.
use Rattle.std.proofs.Common.{◌≤◌, ℕ, Bool, Option, Some, List, [], ◌∷◌, map, length, sym, subst}
use Rattle.served_places.specs.of_datagrams.Datagram as Raw
use Rattle.packets_heard.proofs.of_master_node.Counts.{one_placed, placed}
use Rattle.packets_heard.proofs.of_master_node.Servings.{leads_same}
use Rattle.packets_heard.specs.of_master_node.Serving.{run_lead}
use Rattle.packets_heard.specs.of_master_node.Wants.{AllPlaced}
use Rattle.plan_ring.specs.of_frame_view.View.{Lens}
use Rattle.served_places.specs.of_life_runs.First.{first_leads, lens_of}
use Rattle.served_places.specs.of_life_runs.Led.{Exchanged, IsLed, gives_up_at}
use Rattle.served_places.specs.of_master_hand.Spoken.{Asked}
use Rattle.served_places.specs.of_state_model.Stated.{Service}
use Rattle.run_record.proofs.ServedGaves.{serve_leads}
use Rattle.run_record.specs.Served.{ServeTo}
use Rattle.packets_heard.specs.of_segment_plan.declared.plan.Scenario.{Scenario}
use Rattle.packets_heard.specs.of_segment_plan.declared.service.Service as Plan
use Rattle.served_places.specs.of_life_runs.Served.{Keyed, Serves, ServedComes, ServedTurn, AllServedTurn, IsServedLed, served_behind}
use Rattle.served_places.specs.of_life_runs.Told.{Passed}

-- a mail that is passed on is none of the script
comes_placed : (room : ℕ) (script : List Plan.Service) (waits : List Keyed) (hand : Option Passed) (n : ℕ) (b : Option (Service Asked)) (k : ℕ) (rest : List Keyed) (now : Option Passed) → ServedComes room script waits hand n b k rest now → n ≤ length script → k ≤ length script
comes_placed room script waits hand n _ _ _ _ ServedComes.none few = few
comes_placed room script waits hand n _ _ _ _ (ServedComes.own s m comes) few = one_placed room script n (Some s) m comes few
comes_placed room script waits hand n _ _ _ _ (ServedComes.mail key more is) few = few

module _ (lens : ℕ → Lens) (recover retry : ℕ) (gives : Bool) (made : ℕ) (f : Exchanged) (ds : List Raw.Datagram) where
  all_placed : (ws : List Serves) (vs : List ServedTurn) → AllServedTurn lens made ds ws vs → AllPlaced (map run_lead ws) → AllPlaced (map run_lead (map (served_behind lens recover retry gives made f) vs))
  all_placed [] [] t h = tt
  all_placed [] (v ∷ vs) t h = absurd t
  all_placed (w ∷ ws) [] t h = absurd t
  all_placed (w ∷ ws) (v ∷ vs) t h = (
    subst (λ (s : List Plan.Service). v.turn.number ≤ length s) (sym t.0.script)
        (comes_placed (lens w.lead.lived.spot.station).out w.lead.script w.waits w.hand w.lead.number v.turn.begun v.turn.number v.waits v.hand t.0.comes h.0),
    all_placed ws vs t.1 h.1,
  )

-- OVER ALL FRAMES
pub served_placed : (plan : Scenario) (fs : List Exchanged) (missed : ℕ) (ws : List Serves) → ServeTo plan fs missed ws → AllPlaced (map run_lead ws)
served_placed plan _ _ _ IsServedLed.start =
    subst (λ z. AllPlaced z) (sym (serve_leads plan.paces (first_leads plan))) (placed (lens_of plan.slaves) plan plan.retry [] 0 (first_leads plan) IsLed.start)
served_placed plan _ _ _ (IsServedLed.asks fs missed ws place k led may) = subst (λ z. AllPlaced z) (sym (leads_same (λ a. a) place k ws)) (served_placed plan fs missed ws led)
served_placed plan _ _ _ (IsServedLed.on fs missed ws f vs led frame) =
    all_placed (lens_of plan.slaves) plan.recover plan.retry (gives_up_at (lens_of plan.slaves) plan.recover plan.retry missed) (length fs) f frame.datagrams ws vs frame.each (served_placed plan fs missed ws led)
