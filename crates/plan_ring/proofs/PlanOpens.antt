-- The slaves that are open.
use Rattle.std.proofs.Common.{◌≡◌, ℕ, suc, List, [], ◌∷◌, map, sym, ap, ◌∙◌, subst}
use Rattle.slave_server.specs.of_exchange_model.Exchange.{Speech, IsLawful}
use Rattle.whole_ring.specs.of_frame_view.View.{Lens}
use Rattle.whole_ring.specs.of_frame_view.Shares.{Lived}
use Rattle.whole_ring.specs.of_life_model.Lives.{Spot, Stand, Life}
use Rattle.run_frames.specs.of_life_runs.First.{lens_of, spot_of}
use Rattle.run_frames.specs.of_life_runs.Led.{Exchanged, Leads, speech_at}
use Rattle.slave_server.specs.of_link_mails.Body.{Body}
use Rattle.run_frames.specs.of_master_duty.Reply.{Reply}
use Rattle.run_frames.specs.of_master_hand.Spoken.{Asked, hand_speech}
use Rattle.plan_ring.specs.Alike.{Alike, InHandIs}
use Rattle.plan_ring.specs.Asked.{asked, is_service}
use Rattle.plan_ring.specs.Lives.{IsShown, AllShown, AreLived}
use Rattle.plan_ring.specs.Master.{IsLed, AllLed, speech_of}
use Rattle.plan_ring.specs.Plan.{PlanMember, FitsPlan, step}
use Rattle.plan_ring.specs.Round.{ring_of, ring_after, all_seen}
use Rattle.slave_server.specs.of_segment_model.Record.{Frame}
use Rattle.slave_server.specs.of_segment_plan.declared.plan.Scenario.{Scenario}
use Rattle.slave_server.specs.of_segment_plan.declared.slave.SlaveSpec.{SlaveSpec}
use Rattle.whole_ring.specs.of_slave_lives.Lived.{Behind, IsBehind}
use Rattle.slave_server.specs.of_slave_parts.Parts.{Core, Server}
use Rattle.slave_server.specs.of_protocol_models.Network.{Station}
use Rattle.slave_server.specs.Serving.{Serving}
use Rattle.slave_server.specs.Spec.{profile_of}
use Rattle.slave_server.specs.of_state_model.Families.{InState}
use Rattle.slave_server.specs.of_state_model.Stated.{IsStated}
use Rattle.whole_ring.specs.Whole.{StandsAs, LivesOpen}
use Rattle.whole_ring.specs.Members.{MemberIs, AllLived}
use Rattle.plan_ring.specs.PlanMet.{IsOpenAt, IsAt, AllOpenAt}

module _ (plan : Scenario) (fs : List Exchanged) where
  abbrev lens : ℕ → Lens
  lens = lens_of plan.slaves

  abbrev gs : List (Frame Body)
  gs = all_seen (lens_of plan.slaves) fs

  one : (at place : ℕ) (s : SlaveSpec) (m : PlanMember) (a : Leads) → IsShown plan place s m a → MemberIs (lens_of plan.slaves) step (FitsPlan plan.slaves) gs at m → IsLed m → IsAt plan fs place s a m.node
  one at place s m a x i led = record { spot = ap (λ (l : Lived Asked Reply). l.spot) (sym x.lived) ∙ x.is.spot; stands = stands }
    where
      life_is : m.life ≡ a.lived.life
      life_is = ap (λ (l : Lived Asked Reply). l.life) x.lived

      spot_is : m.spot ≡ a.lived.spot
      spot_is = ap (λ (l : Lived Asked Reply). l.spot) x.lived

      out_is : m.plan.out ≡ (lens_of plan.slaves a.lived.spot.station).out
      out_is = sym i.whole.plan.lens_out ∙ ap (λ (k : ℕ → Lens). (k m.plan.station).out) i.lens_is ∙ ap (λ (n : ℕ). (lens_of plan.slaves n).out) (i.whole.station ∙ ap (λ (z : Spot). z.station) spot_is)

      in_is : m.plan.back ≡ (lens_of plan.slaves a.lived.spot.station).back
      in_is = sym i.whole.plan.lens_back ∙ ap (λ (k : ℕ → Lens). (k m.plan.station).back) i.lens_is ∙ ap (λ (n : ℕ). (lens_of plan.slaves n).back) (i.whole.station ∙ ap (λ (z : Spot). z.station) spot_is)

      speech_is : speech_of m ≡ speech_at (lens_of plan.slaves) a.lived.spot
      speech_is = λ j. hand_speech (record { out = out_is j; back = in_is j })

      by_stand : (st : Stand) → st ≡ Stand.Open → StandsAs m.services m.plan m.spot i.lived.from m.life.era gs st m.node → LivesOpen m.services m.spot i.lived.from m.life.era gs m.node
      by_stand (Stand.Opens o) e now = absurd (let no : Stand.Opens o ≡ Stand.Open = e in cc)
      by_stand Stand.Open e now = now
      by_stand Stand.Gone e now = absurd (let no : Stand.Gone ≡ Stand.Open = e in cc)

      stands : a.lived.life.stand ≡ Stand.Open → IsOpenAt plan fs place s a m.node
      stands e =
          let lives = by_stand m.life.stand (ap (λ (l : Life Body Asked Reply). l.stand) life_is ∙ e) i.lived.now in
          record {
            from = i.lived.from;
            lawful = subst (λ (w : Behind Serving (InState Server) (InState (Station Core)) Asked Reply). IsLawful w.exchange) x.is.services led.lawful;
            stated = subst (λ (w : Behind Serving (InState Server) (InState (Station Core)) Asked Reply). IsStated w.exchange w.states) x.is.services i.whole.stated;
            alike = subst (λ (w : Behind Serving (InState Server) (InState (Station Core)) Asked Reply). Alike is_service (speech_at (lens_of plan.slaves) a.lived.spot) w.exchange.speech) x.is.services
                (subst (λ (y : Speech Body Asked Reply). Alike is_service y m.services.exchange.speech) speech_is led.alike);
            row = subst (λ (l : Life Body Asked Reply). InHandIs is_service l) life_is led.in_hand;
            behind = subst (λ (w : Behind Serving (InState Server) (InState (Station Core)) Asked Reply). IsBehind w) x.is.services i.whole.behind;
            last = ap (λ (w : Behind Serving (InState Server) (InState (Station Core)) Asked Reply). w.states.acknowledged) (sym x.is.services) ∙ led.last;
            lives = subst (λ (l : Life Body Asked Reply). LivesOpen (asked (profile_of s) s.boot (lens_of plan.slaves)) (spot_of place s) i.lived.from l.era gs m.node) life_is
                (subst (λ (z : Spot). LivesOpen (asked (profile_of s) s.boot (lens_of plan.slaves)) z i.lived.from m.life.era gs m.node) x.is.spot
                (subst (λ (w : Behind Serving (InState Server) (InState (Station Core)) Asked Reply). LivesOpen w m.spot i.lived.from m.life.era gs m.node) x.is.services lives));
          }

  all : (at place : ℕ) (ss : List SlaveSpec) (ms : List PlanMember) (as' : List Leads) → AllShown plan place ss ms as' → AllLived (lens_of plan.slaves) step (FitsPlan plan.slaves) gs at ms → AllLed ms → AllOpenAt plan fs place ss as' (map (λ (m : PlanMember). m.node) ms)
  all at place [] [] [] x l d = tt
  all at place [] [] (a ∷ as') x l d = absurd x
  all at place [] (m ∷ ms) as' x l d = absurd x
  all at place (s ∷ ss) [] as' x l d = absurd x
  all at place (s ∷ ss) (m ∷ ms) [] x l d = absurd x
  all at place (s ∷ ss) (m ∷ ms) (a ∷ as') x l d = (one at place s m a x.0 l.0 d.0, all (suc at) (suc place) ss ms as' x.1 l.1 d.1)

  pub all_open : (as' : List Leads) → AreLived plan fs as' → AllOpenAt plan fs 0 plan.slaves as' (ring_after (ring_of plan) fs).nodes
  all_open as' x = subst (λ ns. AllOpenAt plan fs 0 plan.slaves as' ns) (sym x.lives.nodes) (all 0 0 plan.slaves x.members as' x.shown x.lives.each x.led)
