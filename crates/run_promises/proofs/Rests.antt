-- WHERE NOTHING IS LEFT, all is done.
use Rattle.std.proofs.Common.{◌≡◌, ℕ, suc, true, Option, Some, None, List, [], ◌∷◌, map, length, take, filter, ap, sym, ◌∙◌, subst}
use Rattle.std.specs.Prelude.{not}
use Rattle.std.proofs.Math.Seq.{take-length}
use Rattle.packets_heard.specs.of_life_model.Script.{life_started}
use Rattle.packets_heard.specs.of_protocol_models.Network.{Station}
use Rattle.packets_heard.specs.of_exchange_model.Exchange.{Speech}
use Rattle.packets_heard.specs.of_exchange_model.Rows.{Row}
use Rattle.packets_heard.specs.of_frame_view.View.{Lens}
use Rattle.packets_heard.specs.of_frame_view.Shares.{Lived}
use Rattle.packets_heard.specs.of_life_model.Eras.{Clearing}
use Rattle.packets_heard.specs.of_life_model.Lives.{Spot, Life, Stand}
use Rattle.packets_heard.specs.of_life_runs.First.{lens_of, spot_of, script_for}
use Rattle.packets_heard.specs.of_life_runs.Led.{Exchanged, Leads, speech_at}
use Rattle.packets_heard.specs.of_link_mails.Body.{Body}
use Rattle.packets_heard.specs.of_master_duty.Reply.{Reply}
use Rattle.packets_heard.specs.of_master_hand.Spoken.{Asked, hand_speech, is_followed}
use Rattle.served_rings.specs.of_plan_ring.Alike.{RowIs}
use Rattle.served_rings.proofs.of_plan_ring.Alike as Alike
use Rattle.served_rings.specs.of_plan_ring.Asked.{is_service}
use Rattle.served_rings.specs.of_plan_ring.Master.{speech_of, IsLed, AllLed, owed}
use Rattle.served_rings.specs.of_plan_ring.Plan.{PlanMember, FitsPlan, step, first_app}
use Rattle.packets_heard.specs.of_segment_model.Laws.{WantsNothing, NothingInHand}
use Rattle.packets_heard.specs.of_segment_model.Record.{Frame}
use Rattle.packets_heard.specs.of_segment_plan.declared.plan.Scenario.{Scenario}
use Rattle.packets_heard.specs.of_segment_plan.declared.slave.SlaveSpec.{SlaveSpec}
use Rattle.served_rings.specs.of_plan_ring.Real.{real_clearing}
use Rattle.served_rings.specs.of_slave_lives.Lived.{Behind}
use Rattle.served_rings.specs.of_slave_parts.Parts.{Core, Server}
use Rattle.packets_heard.specs.of_slave_server.Serving.{Serving, next_mail}
use Rattle.packets_heard.specs.of_slave_node.Node.{Node, is_settled}
use Rattle.packets_heard.specs.of_state_model.Families.{InState}
use Rattle.served_rings.specs.of_whole_ring.Whole.{StandsAs, LivesOpen}
use Rattle.served_rings.specs.of_whole_ring.Members.{MemberIs, AllLived}
use Rattle.served_rings.specs.of_plan_ring.Lives.{IsShown, AllShown, AreLived}
use Rattle.served_rings.specs.of_plan_ring.Round.{ring_of, ring_after, all_seen}
use Rattle.served_rings.specs.of_run_frames.Came.{AreThose, is_packet}
use Rattle.served_rings.specs.of_plan_ring.Epochs.{AreKept, NothingLeft, app_of}
use Rattle.run_promises.specs.Rests.{IsIdle, IsDone, AllDoneIf}
use Rattle.run_promises.specs.Slaves.{services_of}
use Rattle.served_rings.specs.of_run_frames.Slaves.{HasCome, AllCome}
use Rattle.served_rings.proofs.of_plan_ring.Epochs.{lived_rests, past_kept}
use Rattle.run_promises.proofs.Served.{one_served}

-- a newest epoch of which nothing is left, of a slave with any services
record Left (w : Behind Serving (InState Server) (InState (Station Core)) Asked Reply) (c : Clearing (InState Server) (InState (Station Core))) (spot : Spot) (first : InState (Station Core)) (l : Life Body Asked Reply) (gs : List (Frame Body)) (n : Node Serving) : Type 0 where
  from : InState (Station Core)
  past : AreKept w is_followed spot c.cleared gs first l.past from
  newest : NothingLeft w is_followed spot gs l.era from (app_of w is_followed spot n)

module _ (plan : Scenario) (fs : List Exchanged) where
  abbrev lens : ℕ → Lens
  lens = lens_of plan.slaves

  abbrev gs : List (Frame Body)
  gs = all_seen lens fs

  module _ (place : ℕ) (s : SlaveSpec) (m : PlanMember) (a : Leads) (i : MemberIs lens step (FitsPlan plan.slaves) gs place m) (led : IsLed m) (x : IsShown plan place s m a) (come : HasCome plan place s a) (idle : IsIdle lens a) (settled : is_settled next_mail m.node ≡ true) where
    life_is : a.lived.life ≡ m.life
    life_is = sym (ap (λ (l : Lived Asked Reply). l.life) x.lived)

    -- as the slave's client speaks
    spoken : speech_at lens a.lived.spot ≡ speech_of m
    spoken =
        let spot : a.lived.spot ≡ m.spot = sym (ap (λ (l : Lived Asked Reply). l.spot) x.lived) in
        let there : a.lived.spot.station ≡ m.plan.station = ap (λ (p : Spot). p.station) spot ∙ sym i.whole.station in
        let out : (lens a.lived.spot.station).out ≡ m.plan.out = ap (λ (k : ℕ). (lens k).out) there ∙ subst (λ (l : ℕ → Lens). (l m.plan.station).out ≡ m.plan.out) i.lens_is i.whole.plan.lens_out in
        let back : (lens a.lived.spot.station).back ≡ m.plan.back = ap (λ (k : ℕ). (lens k).back) there ∙ subst (λ (l : ℕ → Lens). (l m.plan.station).back ≡ m.plan.back) i.lens_is i.whole.plan.lens_back in
        λ j. hand_speech (record { out = out j; back = back j })

    wants : WantsNothing m.services.exchange.speech m.life.era.side
    wants =
        let mine : WantsNothing (speech_of m) m.life.era.side =
        subst (λ (l : Life Body Asked Reply). WantsNothing (speech_of m) l.era.side) life_is (subst (λ (y : Speech Body Asked Reply). WantsNothing y a.lived.life.era.side) spoken idle.side) in
        record { idle = mine.idle; clear = mine.clear; nothing = alike m.life.era.side.now led.in_hand mine.nothing }
      where
        alike : (now : Option (Row Body Asked Reply)) → RowIs is_service now → NothingInHand (speech_of m) m.life.era.side now → NothingInHand m.services.exchange.speech m.life.era.side now
        alike None is k = tt
        alike (Some r) is k = sym (Alike.over_same is_service (speech_of m) m.services.exchange.speech led.alike m.life.era.side.halves.out.holding m.life.era.side.fresh r is) ∙ k

    left : Left m.services m.clearing m.spot m.first m.life gs m.node
    left =
        let stand : m.life.stand ≡ Stand.Open = ap (λ (l : Life Body Asked Reply). l.stand) (sym life_is) ∙ idle.stand in
        let now : LivesOpen m.services m.spot i.lived.from m.life.era gs m.node = subst (λ (st : Stand). StandsAs m.services m.plan m.spot i.lived.from m.life.era gs st m.node) stand i.lived.now in
        let hand = ap (λ (l : Life Body Asked Reply). l.era.account.hand) (sym life_is) ∙ idle.hand in
        let next : is_settled m.services.running.next m.node ≡ true = ap (λ (w : Behind Serving (InState Server) (InState (Station Core)) Asked Reply). is_settled w.running.next m.node) x.is.services ∙ settled in
        record {
          from = i.lived.from;
          past = past_kept m.services m.clearing m.plan m.spot (owed m i.whole led) is_followed gs m.first m.life.past i.lived.from i.lived.past;
          newest = lived_rests m.services m.clearing m.plan m.spot (owed m i.whole led) is_followed gs i.lived.from m.life.era m.node now.lives.epoch next wants hand;
        }

    one_done : IsDone plan fs place s a m.node
    one_done =
        let by_services = subst (λ w. Left w m.clearing m.spot m.first m.life gs m.node) x.is.services left in
        let by_clearing = subst (λ c. Left (services_of plan s) c m.spot m.first m.life gs m.node) x.is.clearing by_services in
        let by_spot = subst (λ spot. Left (services_of plan s) real_clearing spot m.first m.life gs m.node) x.is.spot by_clearing in
        let by_first = subst (λ first. Left (services_of plan s) real_clearing (spot_of place s) first m.life gs m.node) x.is.first by_spot in
        let by_life = subst (λ (l : Life Body Asked Reply). Left (services_of plan s) real_clearing (spot_of place s) (first_app s) l gs m.node) (sym life_is) by_first in
        let script = script_for place plan.services in
        let served = one_served plan fs place s m a i led x come in
        let whole : take a.number script ≡ script = ap (λ (k : ℕ). take k script) (idle.script ∙ ap length x.script) ∙ take-length script in
        record {
          all = subst (λ ss. AreThose s.out_len ss (filter (λ q. not (is_packet q)) (life_started a.lived.life))) whole served.firsts.those;
          from = by_life.from;
          past = by_life.past;
          newest = by_life.newest;
        }

  all_done : (place : ℕ) (ss : List SlaveSpec) (ms : List PlanMember) (as' : List Leads) → AllLived lens step (FitsPlan plan.slaves) gs place ms → AllLed ms → AllShown plan place ss ms as' → AllCome plan place ss as' →
      AllDoneIf plan fs place ss as' (map (λ (m : PlanMember). m.node) ms)
  all_done place [] [] [] i led x come = tt
  all_done place [] [] (a ∷ as') i led x come = absurd x
  all_done place [] (m ∷ ms) as' i led x come = absurd x
  all_done place (s ∷ ss) [] as' i led x come = absurd x
  all_done place (s ∷ ss) (m ∷ ms) [] i led x come = absurd x
  all_done place (s ∷ ss) (m ∷ ms) (a ∷ as') i led x come = ((λ idle settled. one_done place s m a i.0 led.0 x.0 come.0 idle settled), all_done (suc place) ss ms as' i.1 led.1 x.1 come.1)

  pub done : (as' : List Leads) → AreLived plan fs as' → AllCome plan 0 plan.slaves as' → AllDoneIf plan fs 0 plan.slaves as' (ring_after (ring_of plan) fs).nodes
  done as' x come = subst (λ (ns : List (Node Serving)). AllDoneIf plan fs 0 plan.slaves as' ns) (sym x.lives.nodes) (all_done 0 plan.slaves x.members as' x.lives.each x.led x.shown come)
