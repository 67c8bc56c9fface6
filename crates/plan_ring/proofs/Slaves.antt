-- One slave of a plan's ring by a frame that came back.
use Rattle.std.proofs.Common.{◌≡◌, ℕ, Option, List, length, refl, sym, ap, ◌∙◌, subst}
use Rattle.run_frames.specs.of_datagrams.Datagram as Raw
use Rattle.plan_ring.proofs.Eras.{era_due}
use Rattle.slave_server.specs.of_exchange_model.Exchange.{Exchange, Speech}
use Rattle.whole_ring.specs.of_frame_view.Seen.{datagrams_seen}
use Rattle.whole_ring.specs.of_frame_view.View.{Lens}
use Rattle.slave_server.specs.of_slave_model.Hears.{HearsFirst}
use Rattle.whole_ring.specs.of_life_model.Lives.{Life, Spot, Stand, AsksOpen, life_next, granted}
use Rattle.whole_ring.specs.of_life_model.Own.{own}
use Rattle.run_frames.specs.of_life_runs.First.{lens_of, spot_of}
use Rattle.run_frames.specs.of_life_runs.Led.{Exchanged, Leads, Turn, IsTurn, speech_at, is_passed}
use Rattle.slave_server.specs.of_link_mails.Body.{Body}
use Rattle.whole_ring.specs.of_link_model.Frames.{IsFrameFor, all_accepted}
use Rattle.run_frames.specs.of_master_duty.Reply.{Reply}
use Rattle.run_frames.specs.of_master_hand.Spoken.{Asked, acknowledged, is_followed}
use Rattle.run_frames.specs.of_master_side.Due.{EachDue}
use Rattle.run_frames.specs.of_master_tour.Brings.{accepted_at}
use Rattle.plan_ring.specs.Alike.{RowIs, WishIs}
use Rattle.plan_ring.proofs.Alike.{next_same, next_is}
use Rattle.plan_ring.specs.PlanMet.{slave_at, IsOpenAt, IsAt, IsMet}
use Rattle.plan_ring.specs.Asked.{asked, is_service}
use Rattle.plan_ring.specs.Round.{all_seen}
use Rattle.plan_ring.proofs.Turns.{wish_is}
use Rattle.slave_server.specs.of_segment_model.Slaves.{Datagram, Slave, grams}
use Rattle.slave_server.specs.of_segment_plan.declared.plan.Scenario.{Scenario}
use Rattle.slave_server.specs.of_segment_plan.declared.slave.SlaveSpec.{SlaveSpec}
use Rattle.whole_ring.specs.of_slave_lives.Lived.{table_of}
use Rattle.slave_server.specs.of_slave_parts.Parts.{Core, Server}
use Rattle.slave_server.specs.of_protocol_models.Network.{Station}
use Rattle.slave_server.specs.Serving.{Serving}
use Rattle.slave_server.specs.Spec.{profile_of}
use Rattle.slave_server.specs.of_slave_node.Node.{Node}
use Rattle.slave_server.specs.of_state_model.Families.{InState}
use Rattle.slave_server.specs.of_state_model.Stated.{Service}
use Rattle.slave_server.specs.of_state_model.Accounts.{Pick}
use Rattle.plan_ring.proofs.Names.{due_alike}

-- a choice leaves how the master stands to a slave
next_stands : (x : Speech Body Asked Reply) (number : ℕ) (l : Life Body Asked Reply) (z : Stand) (pick : Pick Asked) → (life_next x acknowledged is_followed is_passed number l z pick).stand ≡ l.stand
next_stands x number l (Stand.Opens o) pick = refl
next_stands x number l Stand.Open pick = refl
next_stands x number l Stand.Gone pick = refl

module _ (plan : Scenario) (fs : List Exchanged) (place number pace : ℕ) (sent back : List (Datagram Body)) (ds : List Raw.Datagram) (view : sent ≡ datagrams_seen (lens_of plan.slaves) ds) (s : SlaveSpec) (a : Leads) (u : Turn) (n k : Node Serving) (turn : IsTurn (lens_of plan.slaves) number ds a u)
    (at : IsAt plan fs place s a n) (met : a.lived.life.stand ≡ Stand.Open → IsMet (lens_of plan.slaves) sent back number pace s n k) (hears : HearsFirst (asked (profile_of s) s.boot (lens_of plan.slaves)).exchange) (opens : u.lived.life.stand ≡ Stand.Open) where
  abbrev lens : ℕ → Lens
  lens = lens_of plan.slaves

  abbrev ex : Exchange (InState Server) (InState (Station Core)) Body Asked Reply
  ex = (asked (profile_of s) s.boot (lens_of plan.slaves)).exchange

  abbrev x : Speech Body Asked Reply
  x = speech_at (lens_of plan.slaves) a.lived.spot

  abbrev slave : Slave (InState Server) Body
  slave = slave_at (lens_of plan.slaves) s n

  abbrev pick : Pick Asked
  pick = turn.next.pick

  -- ---- it was open before the frame was made
  stands : a.lived.life.stand ≡ Stand.Open
  stands = sym (next_stands x number a.lived.life a.lived.life.stand pick) ∙ ap (λ (l : Life Body Asked Reply). l.stand) (sym turn.next.life) ∙ opens

  o : IsOpenAt plan fs place s a n
  o = at.stands stands

  spot : u.lived.spot ≡ spot_of place s
  spot = turn.next.spot ∙ at.spot

  -- ---- its own client leads the same life
  wish : WishIs is_service pick.begin
  wish = subst (λ (b : Option (Service Asked)). WishIs is_service b) (sym turn.begun) (wish_is (lens a.lived.spot.station).out a.script a.number u.begun u.number turn.comes)

  abbrev under : Life Body Asked Reply
  under = life_next ex.speech acknowledged is_followed is_passed number a.lived.life Stand.Open pick

  life : u.lived.life ≡ under
  life =
      turn.next.life ∙ ap (λ (z : Stand). life_next x acknowledged is_followed is_passed number a.lived.life z pick) stands
      ∙ next_same is_service x ex.speech o.alike acknowledged is_followed is_passed number a.lived.life Stand.Open pick o.row wish

  row : RowIs is_service under.era.side.now
  row = next_is is_service x ex.speech o.alike acknowledged is_followed is_passed number a.lived.life Stand.Open pick o.row wish

  -- ---- what the frame asks of it, and what came back
  asks : IsFrameFor s.station under.era.side.halves (grams (own s.station sent))
  asks =
      let k : AsksOpen u.lived.spot.station u.lived.life.era (datagrams_seen lens ds) = turn.asked.asks opens in
      let as_seen : IsFrameFor u.lived.spot.station u.lived.life.era.side.halves (grams (own u.lived.spot.station sent)) =
      subst (λ ms. IsFrameFor u.lived.spot.station u.lived.life.era.side.halves (grams (own u.lived.spot.station ms))) (sym view) k.halves in
      subst (λ (l : Life Body Asked Reply). IsFrameFor s.station l.era.side.halves (grams (own s.station sent))) life
      (subst (λ (z : Spot). IsFrameFor z.station u.lived.life.era.side.halves (grams (own z.station sent))) spot as_seen)

  brings : EachDue ex.speech under.era.side.now (all_accepted s.station under.era.side.halves (grams (own s.station back)))
  brings =
      let w = asked (profile_of s) s.boot lens in
      let era = o.lives.lives.epoch in
      let due = era_due ex o.lawful hears w.states o.stated w.processor (table_of w) (spot_of place s) a.lived.life.era era.opened (length (all_seen lens fs)) (all_seen lens fs) era.server era.registers slave era.is number (granted a.lived.life.era.passing pick) (own s.station sent) asks in
      subst (λ ms. EachDue ex.speech under.era.side.now (all_accepted s.station under.era.side.halves (grams ms))) (sym (met stands).back_is) due

  -- ---- SO ITS MASTER HAS IT
  by_master : EachDue x under.era.side.now (all_accepted s.station under.era.side.halves (grams (own s.station back)))
  by_master = due_alike is_service x ex.speech o.alike under.era.side.now (all_accepted s.station under.era.side.halves (grams (own s.station back))) row brings

  abbrev Due : Spot → Spot → Life Body Asked Reply → Stand → Type 0
  Due y z l stand = EachDue (speech_at (lens_of plan.slaves) y) l.era.side.now (accepted_at z.station l.era.side.halves back stand)

  pub is_due : EachDue (speech_at (lens_of plan.slaves) u.lived.spot) u.lived.life.era.side.now (accepted_at u.lived.spot.station u.lived.life.era.side.halves back u.lived.life.stand)
  is_due =
      let here : Due a.lived.spot (spot_of place s) under Stand.Open = by_master in
      let as_led : Due a.lived.spot (spot_of place s) u.lived.life Stand.Open = subst (λ (l : Life Body Asked Reply). Due a.lived.spot (spot_of place s) l Stand.Open) (sym life) here in
      let as_open : Due a.lived.spot (spot_of place s) u.lived.life u.lived.life.stand = subst (λ (z : Stand). Due a.lived.spot (spot_of place s) u.lived.life z) (sym opens) as_led in
      let at_spot : Due a.lived.spot u.lived.spot u.lived.life u.lived.life.stand = subst (λ (z : Spot). Due a.lived.spot z u.lived.life u.lived.life.stand) (sym spot) as_open in
      subst (λ (z : Spot). Due z u.lived.spot u.lived.life u.lived.life.stand) (sym turn.next.spot) at_spot
