-- ALL SLAVES OF A SERVING, frame by frame: the mails that its master accepts of each are those that its epochs hear.
use Rattle.std.proofs.Common.{◌≡◌, ℕ, zero, suc, Bool, true, All, List, [], ◌∷◌, ◌++◌, map, length, refl, sym, subst, Ok}
use Rattle.std.proofs.lemmas.List.Elements.{All-cons, All-head, All-nil, All-tail}
use Rattle.packets_heard.specs.of_datagrams.Datagram as Raw
use Rattle.packets_heard.specs.of_frame_view.View.{Lens}
use Rattle.served_rings.specs.LedRings.{AllLedMembers}
use Rattle.packets_heard.specs.of_frame_view.Shares.{AllBoth}
use Rattle.packets_heard.specs.of_life_runs.First.{lens_of, first_leads, spot_of}
use Rattle.packets_heard.specs.of_life_runs.Led.{Exchanged, Leads}
use Rattle.packets_heard.specs.of_life_model.Lives.{Spot}
use Rattle.packets_heard.specs.of_link_mails.Body.{Body}
use Rattle.packets_heard.specs.of_master_hand.Spoken.{is_followed, is_passed}
use Rattle.packets_heard.specs.of_master_node.Serving.{run_lead}
use Rattle.packets_heard.specs.Heard.{IsJoined}
use Rattle.packets_heard.specs.Servings.{served_joined, served_times}
use Rattle.served_rings.specs.of_plan_ring.Lives.{IsKnown}
use Rattle.served_rings.specs.of_plan_ring.Plan.{plan_of}
use Rattle.served_rings.specs.of_plan_ring.Round.{AllRound, ring_of, all_seen}
use Rattle.packets_heard.specs.of_segment_model.Record.{Frame}
use Rattle.packets_heard.specs.of_segment_plan.Sound.{IsPlan, IsSlave}
use Rattle.packets_heard.specs.of_segment_plan.declared.plan.Scenario.{Scenario}
use Rattle.packets_heard.specs.of_segment_plan.declared.slave.SlaveSpec.{SlaveSpec}
use Rattle.run_promises.specs.Sends.{sends_most}
use Rattle.run_promises.specs.Sent.{AllSend}
use Rattle.run_promises.proofs.All.{AllLiveOf, Laws, WeighsOf, all_sent, weighs_of}
use Rattle.run_promises.proofs.Live.{IsLive}
use Rattle.run_promises.proofs.Times.{Weighs}
use Rattle.run_promises.proofs.Tracked.{served_tracks}
use Rattle.run_promises.specs.Quiet.{AsksQuiet, is_quiet}
use Rattle.run_promises.proofs.Lives.{led_live}
use Rattle.run_promises.proofs.Seen.{Quiets}
use Rattle.run_promises.proofs.Speaks.{now_quiet}
use Rattle.served_rings.specs.Rings.{AllServedAt, AreServedLived, counters_of, served_members}
use Rattle.packets_heard.specs.of_life_runs.Came.{HasServed}
use Rattle.packets_heard.specs.of_life_runs.Served.{Keyed, Serves, ServedTurn, AllServedTurn, IsServedLed, all_serve, asked_at, served_behind}
use Rattle.served_rings.specs.of_slave_model.Profile.{Profile, IsProfile}
use Rattle.packets_heard.specs.of_slave_server.Seen.{seen_in}
use Rattle.packets_heard.specs.of_slave_server.Serving.{Serving}
use Rattle.packets_heard.specs.of_slave_server.Spec.{profile_of, server_of}
use Rattle.packets_heard.specs.of_slave_node.Node.{Node}

-- ---- all mails that were asked are quiet: so they were before
abbrev IsQuietKeyed : Keyed → Type 0
IsQuietKeyed k = is_quiet (Ok k.mail) ≡ true

front_all : {X : Type 0} (P : X → Type 0) (xs : List X) (x : X) → All P (xs ++ x ∷ []) → All P xs
front_all P [] x h = All-nil P
front_all P (y ∷ xs) x h = All-cons P y xs (All-head P y (xs ++ x ∷ []) h) (front_all P xs x (All-tail P y (xs ++ x ∷ []) h))

asked_before : (place : ℕ) (k : Keyed) (ws : List Serves) → All AsksQuiet (asked_at place k ws) → All AsksQuiet ws
asked_before place k [] h = h
asked_before zero k (w ∷ ws) h =
    let now : Serves = record w { asked = w.asked ++ k ∷ []; waits = w.waits ++ k ∷ [] } in
    All-cons AsksQuiet w ws (front_all IsQuietKeyed w.asked k (All-head AsksQuiet now ws h)) (All-tail AsksQuiet now ws h)
asked_before (suc place) k (w ∷ ws) h = All-cons AsksQuiet w ws (All-head AsksQuiet w (asked_at place k ws) h) (asked_before place k ws (All-tail AsksQuiet w (asked_at place k ws) h))

frame_before : (lens : ℕ → Lens) (recover retry : ℕ) (gives : Bool) (made : ℕ) (f : Exchanged) (ds : List Raw.Datagram) (ws : List Serves) (vs : List ServedTurn) → AllServedTurn lens made ds ws vs → All AsksQuiet (map (served_behind lens recover retry gives made f) vs) → All AsksQuiet ws
frame_before lens recover retry gives made f ds [] [] y h = All-nil AsksQuiet
frame_before lens recover retry gives made f ds [] (v ∷ vs) y h = absurd y
frame_before lens recover retry gives made f ds (w ∷ ws) [] y h = absurd y
frame_before lens recover retry gives made f ds (w ∷ ws) (v ∷ vs) y h =
    let now = served_behind lens recover retry gives made f v in
    let rest = map (served_behind lens recover retry gives made f) vs in
    All-cons AsksQuiet w ws (subst (λ l. All IsQuietKeyed l) y.0.same (All-head AsksQuiet now rest h)) (frame_before lens recover retry gives made f ds ws vs y.1 (All-tail AsksQuiet now rest h))

module _ (weigh : List ℕ → ℕ) (plan : Scenario) (laws : Laws weigh) (is : IsPlan plan) (known : IsKnown plan) (quiets : (p : Profile) → IsProfile p → Quiets weigh p)
    (lives : (fs : List Exchanged) (missed : ℕ) (ws : List Serves) → IsServedLed (lens_of plan.slaves) plan.recover plan.retry (all_serve plan.paces (first_leads plan)) fs missed ws → AllRound (ring_of plan) fs → AreServedLived plan fs ws)
    (came : (fs : List Exchanged) (missed : ℕ) (ws : List Serves) → IsServedLed (lens_of plan.slaves) plan.recover plan.retry (all_serve plan.paces (first_leads plan)) fs missed ws → All (HasServed (lens_of plan.slaves)) ws) where
  abbrev lens : ℕ → Lens
  lens = lens_of plan.slaves

  abbrev first : List Serves
  first = all_serve plan.paces (first_leads plan)

  abbrev IsLedHere : List Exchanged → ℕ → List Serves → Type 0
  IsLedHere fs missed ws = IsServedLed (lens_of plan.slaves) plan.recover plan.retry (all_serve plan.paces (first_leads plan)) fs missed ws

  abbrev AllLiveHere : List (Frame Body) → List SlaveSpec → List Leads → Type 0
  AllLiveHere gs ss as' = AllLiveOf weigh plan laws gs ss as'

  -- ---- each open slave, by the life that its node lives
  all_live : (gs : List (Frame Body)) (place : ℕ) (ss : List SlaveSpec) (ws : List Serves) (ns : List (Node Serving)) → All IsSlave ss → All (λ (s : SlaveSpec). length s.mac ≡ 6) ss → AllLedMembers is_followed is_passed gs (served_members lens place ss ws ns) (map counters_of ws) →
      AllServedAt plan place ss ws ns → All (HasServed lens) ws → All AsksQuiet ws → AllLiveHere gs ss (map run_lead ws)
  all_live gs place [] [] [] slaves macs led at has quiet = tt
  all_live gs place [] [] (n ∷ ns) slaves macs led at has quiet = absurd at
  all_live gs place [] (w ∷ ws) ns slaves macs led at has quiet = absurd at
  all_live gs place (s ∷ ss) [] ns slaves macs led at has quiet = absurd at
  all_live gs place (s ∷ ss) (w ∷ ws) [] slaves macs led at has quiet = absurd at
  all_live gs place (s ∷ ss) (w ∷ ws) (n ∷ ns) slaves macs led at has quiet =
      let here = All-head IsSlave s ss slaves in
      let p = profile_of s in
      let profile : IsProfile (profile_of s) = record { out_least = here.out_least; out_most = here.out_most; back_least = here.in_least; back_most = here.in_most; mac = All-head (λ (s : SlaveSpec). length s.mac ≡ 6) s ss macs } in (
        (λ open_. subst (λ (spot : Spot). IsLive (Weighs weigh (sends_most weigh (profile_of s))) spot gs w.lead.lived.life) (sym at.0.spot)
            (led_live weigh p (quiets p profile) s.boot lens (spot_of place s) (plan_of s) w.kept w.counts (seen_in 1 (server_of s)).server w.lead.lived.life gs n refl led.0
            (now_quiet p lens w (All-head (HasServed lens) w ws has) (All-head AsksQuiet w ws quiet)) open_)),
        all_live gs (suc place) ss ws ns (All-tail IsSlave s ss slaves) (All-tail (λ (s : SlaveSpec). length s.mac ≡ 6) s ss macs) led.1 at.1 (All-tail (HasServed lens) w ws has) (All-tail AsksQuiet w ws quiet),
      )

  live_at : (fs : List Exchanged) (missed : ℕ) (ws : List Serves) → IsLedHere fs missed ws → AllRound (ring_of plan) fs → All AsksQuiet ws → AllLiveHere (all_seen lens fs) plan.slaves (map run_lead ws)
  live_at fs missed ws led round quiet =
      let x = lives fs missed ws led round in
      all_live (all_seen lens fs) 0 plan.slaves ws x.nodes is.laid.slaves known.macs x.led x.at (came fs missed ws led) quiet

  -- BEHIND THEM
  pub sent : (fs : List Exchanged) (missed : ℕ) (ws : List Serves) (led : IsLedHere fs missed ws) → AllRound (ring_of plan) fs → All AsksQuiet ws → AllBoth IsJoined (served_times led) (served_joined led) → AllSend weigh plan.slaves (map run_lead ws) (served_joined led)
  sent fs missed ws led round quiet joined =
      all_sent weigh plan laws (all_seen lens fs) plan.slaves (map run_lead ws) (served_times led) (served_joined led) (served_tracks plan (WeighsOf weigh plan laws) (weighs_of weigh plan laws) laws.returns (All AsksQuiet) (λ place k ws h. asked_before place k ws h) (λ gives made f ds ws vs y h. frame_before lens plan.recover plan.retry gives made f ds ws vs y h)
      (λ fs missed ws led round quiet. live_at fs missed ws led round quiet) fs missed ws led round quiet) (live_at fs missed ws led round quiet) joined
