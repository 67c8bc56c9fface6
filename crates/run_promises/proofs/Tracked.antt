-- ALL SLAVES, frame by frame: the mails that their master accepts of each are those that its epochs hear, by what is told of its times against its epochs.
use Rattle.std.proofs.Common.{◌≡◌, inr, ℕ, suc, Bool, List, [], ◌∷◌, ◌++◌, map, length, refl, sym, ap, ◌∙◌, subst}
use Rattle.std.specs.Prelude.{⊤}
use Rattle.std.proofs.lemmas.List.{length-map, map-append}
use Rattle.packets_heard.specs.of_datagrams.Datagram as Raw
use Rattle.packets_heard.specs.of_datagrams.Frame.{IsFrame, chained}
use Rattle.packets_heard.proofs.of_frame_view.Octets.{seen_is, seen_chained}
use Rattle.packets_heard.specs.of_frame_view.Seen.{seen, datagrams_seen}
use Rattle.packets_heard.specs.of_frame_view.View.{Lens}
use Rattle.packets_heard.specs.of_frame_view.Shares.{AllBoth}
use Rattle.packets_heard.specs.of_life_model.Lives.{Spot, Era, Stand}
use Rattle.packets_heard.specs.of_life_runs.First.{lens_of, first_leads, leads_from}
use Rattle.packets_heard.specs.of_life_runs.Led.{Exchanged, Leads, Turn, AllTurn, IsLed, led_behind, life_behind, gives_up_at}
use Rattle.packets_heard.specs.of_link_mails.Body.{Body}
use Rattle.packets_heard.specs.of_master_duty.Reply.{Reply}
use Rattle.packets_heard.specs.of_master_hand.Spoken.{Asked}
use Rattle.packets_heard.proofs.of_master_node.Servings.{run_all}
use Rattle.packets_heard.specs.Heard.{Times, mails_by, times_behind, times_in, times_on, times_none}
use Rattle.packets_heard.specs.Servings.{served_times}
use Rattle.packets_heard.specs.of_master_node.Serving.{run_lead, run_turn}
use Rattle.served_rings.specs.of_plan_ring.Round.{AllRound, WentRound, behind, ring_of, ring_after, frame_seen, all_seen}
use Rattle.packets_heard.specs.of_slave_server.Serving.{Serving}
use Rattle.packets_heard.specs.of_segment_model.Record.{Frame}
use Rattle.packets_heard.specs.of_segment_model.Returned.{Returns}
use Rattle.packets_heard.specs.of_segment_plan.declared.plan.Scenario.{Scenario}
use Rattle.packets_heard.specs.of_segment_plan.declared.slave.SlaveSpec.{SlaveSpec}
use Rattle.packets_heard.specs.of_segment_ring.Ring.{RingState, ring_returned, frame_met}
use Rattle.packets_heard.specs.of_segment_ring.Schedule.{fate_at}
use Rattle.packets_heard.specs.of_segment_ring.declared.wire.Fate.TheVariants.{Pass, Lost}
use Rattle.packets_heard.specs.of_segment_ring.declared.wire.Fate.{Fate}
use Rattle.run_promises.proofs.Begun.{leads_asked}
use Rattle.run_promises.proofs.Live.{IsLive, IsTally}
use Rattle.run_promises.proofs.Times.{Tracks}
use Rattle.run_promises.proofs.Turns.{turn_tracks, serve_tracks}
use Rattle.packets_heard.specs.of_life_runs.Served.{Keyed, Serves, ServedTurn, AllServedTurn, IsServedLed, all_serve, asked_at, served_behind, served_life}
use Rattle.packets_heard.specs.of_slave_node.Node.{Node, node_passed}

-- what comes back by a frame is what was sent, but for what its slaves did
abbrev pub ReturnsLaw : Type 0
ReturnsLaw = (lens : ℕ → Lens) (ring : RingState (Node Serving)) (octets : List ℕ) (ds : List Raw.Datagram) → IsFrame octets ds → fate_at ring.lose ring.number ≡ Pass → Returns (seen lens octets) (seen lens (ring_returned node_passed ring octets))

module _ (plan : Scenario) (R : SlaveSpec → List (List Body) → List (Era Body Asked Reply) → Type 0) (tally : (s : SlaveSpec) → IsTally (R s)) (returned : ReturnsLaw) where
  abbrev pub lens : ℕ → Lens
  lens = lens_of plan.slaves

  -- ---- each open slave
  abbrev pub LiveSo : List (Frame Body) → SlaveSpec → Leads → Type 0
  LiveSo gs s a = a.lived.life.stand ≡ Stand.Open → IsLive (R s) a.lived.spot gs a.lived.life

  abbrev pub AllLive : List (Frame Body) → List SlaveSpec → List Leads → Type 0
  AllLive gs ss as' = AllBoth (λ s a. LiveSo gs s a) ss as'

  -- ---- each slave's times
  abbrev pub AllTrack : List (Frame Body) → List SlaveSpec → List Leads → List Times → Type 0
  AllTrack gs [] [] [] = ⊤
  AllTrack gs (s ∷ ss) (a ∷ as') (t ∷ ts) = Tracks (R s) (tally s) a.lived.spot gs a.lived.life t × AllTrack gs ss as' ts
  AllTrack gs _ _ _ = ⊥

  pub first_track : (place : ℕ) (ss : List SlaveSpec) → AllTrack [] ss (leads_from plan.services place ss) (times_none (leads_from plan.services place ss))
  first_track place [] = tt
  first_track place (s ∷ ss) = ((record { all = (tally s).fresh [] [] _ (refl, refl) ((tally s).empty) }, inr (refl, refl, refl)), first_track (suc place) ss)

  module _ (gives : Bool) (gs : List (Frame Body)) (f : Exchanged) (ds : List Raw.Datagram) (seen_so : seen lens f.sent ≡ datagrams_seen lens ds) (returns : f.fate ≡ Pass → Returns (seen lens f.sent) (seen lens f.back)) (nothing : (after : ℕ) → f.fate ≡ Lost after → seen lens f.back ≡ []) where
    spots : (u : Turn) → (led_behind lens plan.recover plan.retry gives (length gs) f u).lived.spot ≡ u.lived.spot
    spots u = by f.fate
      where
        by : (fate : Fate) → (life_behind lens plan.recover plan.retry gives (length gs) f fate u.lived u.share).spot ≡ u.lived.spot
        by Pass = refl
        by (Lost after) = refl

    pub all_turn : (ss : List SlaveSpec) (as' : List Leads) (us : List Turn) (ts : List Times) → AllTurn lens (length gs) ds as' us → AllLive gs ss as' → AllTrack gs ss as' ts →
        AllTrack (gs ++ frame_seen lens f ∷ []) ss (map (led_behind lens plan.recover plan.retry gives (length gs) f) us) (times_on lens f ts us)
    all_turn [] [] [] [] y l k = tt
    all_turn [] [] [] (t ∷ ts) y l k = absurd k
    all_turn [] [] (u ∷ us) ts y l k = absurd y
    all_turn [] (a ∷ as') us ts y l k = absurd k
    all_turn (s ∷ ss) [] us ts y l k = absurd k
    all_turn (s ∷ ss) (a ∷ as') [] ts y l k = absurd y
    all_turn (s ∷ ss) (a ∷ as') (u ∷ us) [] y l k = absurd k
    all_turn (s ∷ ss) (a ∷ as') (u ∷ us) (t ∷ ts) y l k =
        let here = turn_tracks (R s) (tally s) lens plan.recover plan.retry gives gs f ds seen_so returns nothing a u t y.0 k.0 l.0 in
        let spot = sym (y.0.next.spot) ∙ sym (spots u) in (
          subst (λ (p : Spot). Tracks (R s) (tally s) p (gs ++ frame_seen lens f ∷ []) (led_behind lens plan.recover plan.retry gives (length gs) f u).lived.life (times_behind u.lived.life.stand (mails_by lens f f.fate u) t)) spot here,
          all_turn ss as' us ts y.1 l.1 k.1,
        )

    served_spots : (v : ServedTurn) → (served_behind lens plan.recover plan.retry gives (length gs) f v).lead.lived.spot ≡ v.turn.lived.spot
    served_spots v = by f.fate
      where
        by : (fate : Fate) → (served_life lens plan.recover plan.retry gives (length gs) f fate v).spot ≡ v.turn.lived.spot
        by Pass = refl
        by (Lost after) = refl

    all_serve_turn : (ss : List SlaveSpec) (ws : List Serves) (vs : List ServedTurn) (ts : List Times) → AllServedTurn lens (length gs) ds ws vs → AllLive gs ss (map run_lead ws) → AllTrack gs ss (map run_lead ws) ts →
        AllTrack (gs ++ frame_seen lens f ∷ []) ss (map run_lead (map (served_behind lens plan.recover plan.retry gives (length gs) f) vs)) (times_on lens f ts (map run_turn vs))
    all_serve_turn [] [] [] [] y l k = tt
    all_serve_turn [] [] [] (t ∷ ts) y l k = absurd k
    all_serve_turn [] [] (v ∷ vs) ts y l k = absurd y
    all_serve_turn [] (w ∷ ws) vs ts y l k = absurd k
    all_serve_turn (s ∷ ss) [] vs ts y l k = absurd k
    all_serve_turn (s ∷ ss) (w ∷ ws) [] ts y l k = absurd y
    all_serve_turn (s ∷ ss) (w ∷ ws) (v ∷ vs) [] y l k = absurd k
    all_serve_turn (s ∷ ss) (w ∷ ws) (v ∷ vs) (t ∷ ts) y l k =
        let here = serve_tracks (R s) (tally s) lens plan.recover plan.retry gives gs f ds seen_so returns nothing w v t y.0 k.0 l.0 in
        let spot = sym (y.0.next.spot) ∙ sym (served_spots v) in (
          subst (λ (p : Spot). Tracks (R s) (tally s) p (gs ++ frame_seen lens f ∷ []) (served_behind lens plan.recover plan.retry gives (length gs) f v).lead.lived.life (times_behind v.turn.lived.life.stand (mails_by lens f f.fate v.turn) t)) spot here,
          all_serve_turn ss ws vs ts y.1 l.1 k.1,
        )

  -- ---- the frames went round
  pub front_round : (ring : RingState (Node Serving)) (fs : List Exchanged) (f : Exchanged) → AllRound ring (fs ++ f ∷ []) → AllRound ring fs
  front_round ring [] f r = tt
  front_round ring (e ∷ fs) f r = (r.0, front_round (behind ring e.sent) fs f r.1)

  pub last_round : (ring : RingState (Node Serving)) (fs : List Exchanged) (f : Exchanged) → AllRound ring (fs ++ f ∷ []) → WentRound (ring_after ring fs) f
  last_round ring [] f r = r.0
  last_round ring (e ∷ fs) f r = last_round (behind ring e.sent) fs f r.1

  pub one_returned : (ring : RingState (Node Serving)) (f : Exchanged) (ds : List Raw.Datagram) → IsFrame f.sent (chained ds) → WentRound ring f → f.fate ≡ Pass → Returns (seen lens f.sent) (seen lens f.back)
  one_returned ring f ds frame went pass = subst (λ back. Returns (seen lens f.sent) (seen lens back)) (sym went.back) (returned lens ring f.sent (chained ds) frame (sym went.fate ∙ pass))

  pub none_back : (ring : RingState (Node Serving)) (f : Exchanged) (after : ℕ) → WentRound ring f → f.fate ≡ Lost after → seen lens f.back ≡ []
  none_back ring f after went lost =
      ap (seen lens) (went.back ∙ ap (λ (fate : Fate). (frame_met node_passed ring.nodes f.sent fate).1) (sym went.fate ∙ lost))

  -- ---- OF A SERVING, by what is kept of what its master is asked
  abbrev IsLedHere : List Exchanged → ℕ → List Serves → Type 0
  IsLedHere fs missed ws = IsServedLed (lens_of plan.slaves) plan.recover plan.retry (all_serve plan.paces (first_leads plan)) fs missed ws

  module _ (Keeps : List Serves → Type 0) (asked_before : (place : ℕ) (k : Keyed) (ws : List Serves) → Keeps (asked_at place k ws) → Keeps ws)
      (frame_before : (gives : Bool) (made : ℕ) (f : Exchanged) (ds : List Raw.Datagram) (ws : List Serves) (vs : List ServedTurn) → AllServedTurn lens made ds ws vs → Keeps (map (served_behind lens plan.recover plan.retry gives made f) vs) → Keeps ws)
      (live_at : (fs : List Exchanged) (missed : ℕ) (ws : List Serves) → IsLedHere fs missed ws → AllRound (ring_of plan) fs → Keeps ws → AllLive (all_seen lens fs) plan.slaves (map run_lead ws)) where
    -- OVER ALL FRAMES
    pub served_tracks : (fs : List Exchanged) (missed : ℕ) (ws : List Serves) (led : IsLedHere fs missed ws) → AllRound (ring_of plan) fs → Keeps ws → AllTrack (all_seen lens fs) plan.slaves (map run_lead ws) (served_times led)
    served_tracks _ _ _ IsServedLed.start round quiet =
        subst (λ (as' : List Leads). AllTrack [] plan.slaves as' (times_none as')) (sym (run_all plan.paces (first_leads plan))) (first_track 0 plan.slaves)
    served_tracks _ _ _ (IsServedLed.asks fs missed ws place key led may) round quiet =
        subst (λ (as' : List Leads). AllTrack (all_seen lens fs) plan.slaves as' (served_times led)) (sym (leads_asked place key ws)) (served_tracks fs missed ws led round (asked_before place key ws quiet))
    served_tracks _ _ _ (IsServedLed.on fs missed ws f vs led frame) round quiet =
        let gives = gives_up_at lens plan.recover plan.retry missed in
        let before = front_round (ring_of plan) fs f round in
        let went = last_round (ring_of plan) fs f round in
        let gs = all_seen lens fs in
        let long : length gs ≡ length fs = length-map fs (frame_seen lens) in
        let seen_so = seen_is lens f.sent _ frame.frame ∙ seen_chained lens frame.datagrams in
        let turns : AllServedTurn lens (length gs) frame.datagrams ws vs = subst (λ n. AllServedTurn lens n frame.datagrams ws vs) (sym long) frame.each in
        let still = frame_before gives (length fs) f frame.datagrams ws vs frame.each quiet in
        let all = all_serve_turn gives gs f frame.datagrams seen_so (one_returned (ring_after (ring_of plan) fs) f frame.datagrams frame.frame went) (λ after lost. none_back (ring_after (ring_of plan) fs) f after went lost)
        plan.slaves ws vs (served_times led) turns (live_at fs missed ws led before still) (served_tracks fs missed ws led before still) in
        subst (λ hs. AllTrack hs plan.slaves (map run_lead (map (served_behind lens plan.recover plan.retry gives (length fs) f) vs)) (times_on lens f (served_times led) (map run_turn vs))) (sym (map-append (frame_seen lens) fs (f ∷ [])))
        (subst (λ n. AllTrack (gs ++ frame_seen lens f ∷ []) plan.slaves (map run_lead (map (served_behind lens plan.recover plan.retry gives n f) vs)) (times_on lens f (served_times led) (map run_turn vs))) long all)

  -- ---- OF A RUN
  module _ (live_at : (fs : List Exchanged) (missed : ℕ) (as' : List Leads) → IsLed lens plan.recover plan.retry (first_leads plan) fs missed as' → AllRound (ring_of plan) fs → AllLive (all_seen lens fs) plan.slaves as') where
    pub run_tracks : (fs : List Exchanged) (missed : ℕ) (as' : List Leads) (led : IsLed lens plan.recover plan.retry (first_leads plan) fs missed as') → AllRound (ring_of plan) fs → AllTrack (all_seen lens fs) plan.slaves as' (times_in led)
    run_tracks _ _ _ IsLed.start round = first_track 0 plan.slaves
    run_tracks _ _ _ (IsLed.on fs missed as' f us led frame) round =
        let before = front_round (ring_of plan) fs f round in
        let went = last_round (ring_of plan) fs f round in
        let gs = all_seen lens fs in
        let long : length gs ≡ length fs = length-map fs (frame_seen lens) in
        let seen_so = seen_is lens f.sent _ frame.frame ∙ seen_chained lens frame.datagrams in
        let turns : AllTurn lens (length gs) frame.datagrams as' us = subst (λ n. AllTurn lens n frame.datagrams as' us) (sym long) frame.each in
        let all = all_turn (gives_up_at lens plan.recover plan.retry missed) gs f frame.datagrams seen_so (one_returned (ring_after (ring_of plan) fs) f frame.datagrams frame.frame went) (λ after lost. none_back (ring_after (ring_of plan) fs) f after went lost)
        plan.slaves as' us (times_in led) turns (live_at fs missed as' led before) (run_tracks fs missed as' led before) in
        subst (λ hs. AllTrack hs plan.slaves (map (led_behind lens plan.recover plan.retry (gives_up_at lens plan.recover plan.retry missed) (length fs) f) us) (times_on lens f (times_in led) us)) (sym (map-append (frame_seen lens) fs (f ∷ [])))
        (subst (λ n. AllTrack (gs ++ frame_seen lens f ∷ []) plan.slaves (map (led_behind lens plan.recover plan.retry (gives_up_at lens plan.recover plan.retry missed) n f) us) (times_on lens f (times_in led) us)) long all)
