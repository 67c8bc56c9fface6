-- THE PROMISE, slave by slave.
use Rattle.std.proofs.Common.{◌≡◌, ℕ, suc, List, [], ◌∷◌, map, ap, sym, ◌∙◌, subst}
use Rattle.packets_heard.specs.of_frame_view.View.{Lens}
use Rattle.packets_heard.specs.of_frame_view.Shares.{Lived}
use Rattle.packets_heard.specs.of_life_model.Lives.{Life}
use Rattle.packets_heard.specs.of_life_runs.First.{lens_of, spot_of, script_for}
use Rattle.packets_heard.specs.of_life_runs.Led.{Exchanged, Leads}
use Rattle.packets_heard.specs.of_link_mails.Body.{Body}
use Rattle.packets_heard.specs.of_life_model.Script.{life_started}
use Rattle.packets_heard.specs.of_master_duty.Reply.{Reply}
use Rattle.packets_heard.specs.of_master_hand.Spoken.{Asked, is_followed}
use Rattle.served_rings.specs.of_plan_ring.Plan.{PlanMember, FitsPlan, step, first_app}
use Rattle.packets_heard.specs.of_segment_model.Record.{Frame}
use Rattle.packets_heard.specs.of_segment_plan.declared.plan.Scenario.{Scenario}
use Rattle.packets_heard.specs.of_segment_plan.declared.slave.SlaveSpec.{SlaveSpec}
use Rattle.served_rings.specs.of_plan_ring.Real.{real_clearing}
use Rattle.packets_heard.specs.of_slave_server.Serving.{Serving}
use Rattle.packets_heard.specs.of_slave_node.Node.{Node}
use Rattle.served_rings.specs.of_whole_ring.Members.{MemberIs, AllLived}
use Rattle.served_rings.specs.of_plan_ring.Lives.{IsShown, AllShown, AreLived}
use Rattle.served_rings.specs.of_plan_ring.Master.{IsLed, AllLed, owed}
use Rattle.served_rings.specs.of_plan_ring.Round.{ring_of, ring_after, all_seen}
use Rattle.served_rings.specs.of_run_frames.Came.{Came, AreFirst}
use Rattle.served_rings.specs.of_plan_ring.Epochs.{IsKeptLife}
use Rattle.run_promises.specs.Slaves.{services_of, IsServed, AllServed}
use Rattle.served_rings.specs.of_run_frames.Slaves.{HasCome, AllCome}
use Rattle.served_rings.proofs.of_plan_ring.Epochs.{kept_life}

module _ (plan : Scenario) (fs : List Exchanged) where
  abbrev lens : ℕ → Lens
  lens = lens_of plan.slaves

  abbrev gs : List (Frame Body)
  gs = all_seen lens fs

  -- one slave
  pub one_served : (place : ℕ) (s : SlaveSpec) (m : PlanMember) (a : Leads) → MemberIs lens step (FitsPlan plan.slaves) gs place m → IsLed m → IsShown plan place s m a → HasCome plan place s a → IsServed plan fs place s a m.node
  one_served place s m a i led x come =
      let out : (lens s.station).out ≡ s.out_len =
      ap (λ p. (lens p.station).out) (sym x.is.plan) ∙ subst (λ (l : ℕ → Lens). (l m.plan.station).out ≡ m.plan.out) i.lens_is i.whole.plan.lens_out ∙ ap (λ p. p.out) x.is.plan in
      let life : IsKeptLife m.services is_followed m.spot m.clearing.cleared gs m.first m.life m.node = kept_life m.services m.clearing m.plan m.spot (owed m i.whole led) is_followed gs m.first m.life m.node i.lived in
      let by_services = subst (λ w. IsKeptLife w is_followed m.spot m.clearing.cleared gs m.first m.life m.node) x.is.services life in
      let by_spot = subst (λ spot. IsKeptLife (services_of plan s) is_followed spot m.clearing.cleared gs m.first m.life m.node) x.is.spot by_services in
      let by_clearing = subst (λ c. IsKeptLife (services_of plan s) is_followed (spot_of place s) c.cleared gs m.first m.life m.node) x.is.clearing by_spot in
      let by_first = subst (λ first. IsKeptLife (services_of plan s) is_followed (spot_of place s) real_clearing.cleared gs first m.life m.node) x.is.first by_clearing in
      let came = subst (λ (room : ℕ). Came room (script_for place plan.services) a.number (life_started a.lived.life)) out come.came in
      record {
        came = came;
        firsts = subst (λ (room : ℕ). AreFirst room (script_for place plan.services) a.number (life_started a.lived.life)) out come.firsts;
        life = subst (λ (l : Life Body Asked Reply). IsKeptLife (services_of plan s) is_followed (spot_of place s) real_clearing.cleared gs (first_app s) l m.node) (ap (λ (l : Lived Asked Reply). l.life) x.lived) by_first;
      }

  -- all
  all_served : (place : ℕ) (ss : List SlaveSpec) (ms : List PlanMember) (as' : List Leads) → AllLived lens step (FitsPlan plan.slaves) gs place ms → AllLed ms → AllShown plan place ss ms as' → AllCome plan place ss as' →
      AllServed plan fs place ss as' (map (λ (m : PlanMember). m.node) ms)
  all_served place [] [] [] i led x come = tt
  all_served place [] [] (a ∷ as') i led x come = absurd x
  all_served place [] (m ∷ ms) as' i led x come = absurd x
  all_served place (s ∷ ss) [] as' i led x come = absurd x
  all_served place (s ∷ ss) (m ∷ ms) [] i led x come = absurd x
  all_served place (s ∷ ss) (m ∷ ms) (a ∷ as') i led x come = (one_served place s m a i.0 led.0 x.0 come.0, all_served (suc place) ss ms as' i.1 led.1 x.1 come.1)

  pub served : (as' : List Leads) → AreLived plan fs as' → AllCome plan 0 plan.slaves as' → AllServed plan fs 0 plan.slaves as' (ring_after (ring_of plan) fs).nodes
  served as' x come = subst (λ (ns : List (Node Serving)). AllServed plan fs 0 plan.slaves as' ns) (sym x.lives.nodes) (all_served 0 plan.slaves x.members as' x.lives.each x.led x.shown come)
