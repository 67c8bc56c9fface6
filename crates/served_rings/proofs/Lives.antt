-- THE LIVES OF A SERVING, frame by frame, with mails that are asked between them.
use Rattle.std.proofs.Common.{◌≡◌, ℕ, zero, suc, Bool, List, [], ◌∷◌, ◌++◌, map, length, take, refl, ap, sym, ◌∙◌, subst, append-nil, append_assoc}
use Rattle.std.proofs.Math.Seq.{take-append_seam}
use Rattle.std.proofs.lemmas.List.{map-append, length-map}
use Rattle.served_places.specs.of_datagrams.Frame.{chained}
use Rattle.run_work.specs.of_frame_view.Seen.{seen}
use Rattle.run_work.specs.of_frame_view.View.{Lens}
use Rattle.served_rings.specs.LedRings.{Counters, all_counters}
use Rattle.served_rings.specs.StoodLives.{AllStoodMembers}
use Rattle.served_rings.proofs.Rings.{all_led, led_turns}
use Rattle.served_rings.proofs.Stood.{longer}
use Rattle.served_places.specs.of_life_runs.First.{first_leads, lens_of}
use Rattle.served_places.specs.of_life_runs.Led.{Exchanged, gives_up_at}
use Rattle.served_places.specs.of_link_mails.Body.{Body}
use Rattle.run_work.specs.of_master_hand.Spoken.{Asked, is_followed, is_passed}
use Rattle.run_work.specs.of_plan_ring.Lives.{IsKnown}
use Rattle.run_work.specs.of_plan_ring.Plan.{FitsPlan, step}
use Rattle.run_work.specs.of_plan_ring.Round.{WentRound, AllRound, all_seen, behind, frame_seen, ring_after, ring_of}
use Rattle.run_work.proofs.of_plan_ring.Known.{AllBoot, all_boot}
use Rattle.run_work.proofs.of_plan_ring.Lives.{front_round, last_round, one_after}
use Rattle.served_places.specs.of_segment_model.Record.{Frame}
use Rattle.run_work.specs.of_segment_plan.Sound as Plan
use Rattle.run_work.specs.of_segment_plan.declared.plan.Scenario.{Scenario}
use Rattle.run_work.specs.of_segment_plan.declared.slave.SlaveSpec.{SlaveSpec}
use Rattle.served_places.specs.of_segment_ring.Ring.{RingState, ring_behind}
use Rattle.served_places.specs.of_segment_ring.Schedule.{fate_at}
use Rattle.served_places.specs.of_segment_ring.declared.wire.Fate.{Fate}
use Rattle.served_places.specs.of_segment_ring.declared.wire.Fate.TheVariants.{Lost, Pass}
use Rattle.served_rings.proofs.Reopened.{AllOpened, AllReopen, all_back, all_first, all_given, all_lost, all_reopen, none_given}
use Rattle.served_places.specs.of_life_runs.Served.{Keyed, Serves, ServedTurn, AllServedTurn, IsServedFrame, IsServedLed, all_serve, asked_at, served_behind}
use Rattle.run_work.specs.of_slave_lives.Rings.{fate_seen}
use Rattle.run_work.specs.of_slave_server.Serving.{Serving}
use Rattle.run_work.specs.of_slave_node.Node.{Node, node_passed}
use Rattle.run_work.specs.of_whole_ring.Members.{IsRing}
use Rattle.run_work.specs.of_whole_ring.Turning.{AllTurn, Turn, behind_frame, frame_at, given_up}
use Rattle.run_work.proofs.of_whole_ring.Begins as Begins
use Rattle.run_work.proofs.of_whole_ring.Members as Members
use Rattle.served_rings.specs.Rings.{AllServedAt, AreServedLived, AreStoodLived, ServedMember, counters_of, nodes_behind, served_member, served_members}
use Rattle.served_rings.proofs.All as Every

-- A MAIL THAT IS ASKED changes no life
pub asked_members : (lens : ℕ → Lens) (at place : ℕ) (k : Keyed) (ss : List SlaveSpec) (ws : List Serves) (ns : List (Node Serving)) → served_members lens at ss (asked_at place k ws) ns ≡ served_members lens at ss ws ns
asked_members lens at place k [] ws ns = refl
asked_members lens at place k (s ∷ ss) [] ns = refl
asked_members lens at zero k (s ∷ ss) (w ∷ ws) [] = refl
asked_members lens at (suc place) k (s ∷ ss) (w ∷ ws) [] = refl
asked_members lens at zero k (s ∷ ss) (w ∷ ws) (n ∷ ns) = refl
asked_members lens at (suc place) k (s ∷ ss) (w ∷ ws) (n ∷ ns) = ap (λ (ms : List ServedMember). served_member lens at s w n ∷ ms) (asked_members lens (suc at) place k ss ws ns)

asked_counters : (place : ℕ) (k : Keyed) (ws : List Serves) → map counters_of (asked_at place k ws) ≡ map counters_of ws
asked_counters place k [] = refl
asked_counters zero k (w ∷ ws) = refl
asked_counters (suc place) k (w ∷ ws) = ap (λ (ks : List Counters). counters_of w ∷ ks) (asked_counters place k ws)

asked_places : (plan : Scenario) (at place : ℕ) (k : Keyed) (ss : List SlaveSpec) (ws : List Serves) (ns : List (Node Serving)) → AllServedAt plan at ss ws ns → AllServedAt plan at ss (asked_at place k ws) ns
asked_places plan at place k [] [] ns all = all
asked_places plan at zero k [] (w ∷ ws) ns all = absurd all
asked_places plan at (suc place) k [] (w ∷ ws) ns all = absurd all
asked_places plan at place k (s ∷ ss) [] ns all = absurd all
asked_places plan at zero k (s ∷ ss) (w ∷ ws) [] all = absurd all
asked_places plan at (suc place) k (s ∷ ss) (w ∷ ws) [] all = absurd all
asked_places plan at zero k (s ∷ ss) (w ∷ ws) (n ∷ ns) all = (record { spot = all.0.spot; script = all.0.script }, all.1)
asked_places plan at (suc place) k (s ∷ ss) (w ∷ ws) (n ∷ ns) all = (all.0, asked_places plan (suc at) place k ss ws ns all.1)

asked_lives : (stood : ℕ → List (Node Serving)) (plan : Scenario) (fs : List Exchanged) (ws : List Serves) (place : ℕ) (k : Keyed) → AreStoodLived stood plan fs ws → AreStoodLived stood plan fs (asked_at place k ws)
asked_lives stood plan fs ws place k x =
    let lens = lens_of plan.slaves in
    let same = sym (asked_members lens 0 place k plan.slaves ws x.nodes) in
    record {
      nodes = x.nodes;
      lives = subst (λ (ms : List ServedMember). IsRing lens step (FitsPlan plan.slaves) (all_seen lens fs) (ring_after (ring_of plan) fs) ms) same x.lives;
      led = subst (λ (ms : List ServedMember). AllStoodMembers is_followed is_passed stood (all_seen lens fs) ms (map counters_of (asked_at place k ws))) same
          (subst (λ (ks : List Counters). AllStoodMembers is_followed is_passed stood (all_seen lens fs) (served_members lens 0 plan.slaves ws x.nodes) ks) (sym (asked_counters place k ws)) x.led);
      at = asked_places plan 0 place k plan.slaves ws x.nodes x.at;
    }

-- these are the nodes of the ring behind each number of the frames
abbrev pub AreNodes : Scenario → List Exchanged → (ℕ → List (Node Serving)) → Type 0
AreNodes plan fs stood = (front rest : List Exchanged) → fs ≡ front ++ rest → stood (length front) ≡ (ring_after (ring_of plan) front).nodes

pub nodes_are : (plan : Scenario) (fs : List Exchanged) → AreNodes plan fs (nodes_behind plan fs)
nodes_are plan fs front rest split = ap (λ hs. (ring_after (ring_of plan) hs).nodes) (ap (take (length front)) split ∙ take-append_seam front rest)

-- also of the first of the frames
front_nodes : (plan : Scenario) (fs : List Exchanged) (f : Exchanged) (stood : ℕ → List (Node Serving)) → AreNodes plan (fs ++ f ∷ []) stood → AreNodes plan fs stood
front_nodes plan fs f stood are front rest split = are front (rest ++ f ∷ []) (ap (λ hs. hs ++ f ∷ []) split ∙ append_assoc front rest (f ∷ []))

-- SO THE LIVES ARE LIVED
pub lived_of : (stood : ℕ → List (Node Serving)) (plan : Scenario) (fs : List Exchanged) (ws : List Serves) → AreStoodLived stood plan fs ws → AreServedLived plan fs ws
lived_of stood plan fs ws x =
    let lens = lens_of plan.slaves in
    record { nodes = x.nodes; lives = x.lives; led = all_led is_followed is_passed (all_seen lens fs) (served_members lens 0 plan.slaves ws x.nodes) (map counters_of ws) stood x.led; at = x.at }

module _ (plan : Scenario) (is : Plan.IsPlan plan) (known : IsKnown plan) (stood : ℕ → List (Node Serving)) (begins : AreStoodLived stood plan [] (all_serve plan.paces (first_leads plan))) where
  abbrev lens : ℕ → Lens
  lens = lens_of plan.slaves

  boots : AllBoot plan.services 0 plan.slaves
  boots = all_boot (length plan.slaves) plan.slaves [] plan.slaves refl plan.services is.laid.services known.states

  -- with the states in which all epochs are opened
  abbrev LivesOpened : List Exchanged → List Serves → Type 0
  LivesOpened fs ws = (x : AreStoodLived stood plan fs ws) × AllOpened (length fs) (served_members lens 0 plan.slaves ws x.nodes)

  -- BY A FRAME
  module _ (fs : List Exchanged) (missed : ℕ) (ws : List Serves) (f : Exchanged) (vs : List ServedTurn) (x : AreStoodLived stood plan fs ws) (y : IsServedFrame lens (length fs) f.sent ws vs) (went : WentRound (ring_after (ring_of plan) fs) f) (are : AreNodes plan (fs ++ f ∷ []) stood) (opened : AllOpened (length fs) (served_members lens 0 plan.slaves ws x.nodes)) where
    abbrev ring : RingState (Node Serving)
    ring = ring_after (ring_of plan) fs

    abbrev gs : List (Frame Body)
    gs = all_seen lens fs

    abbrev gives : Bool
    gives = gives_up_at lens plan.recover plan.retry missed

    many : length gs ≡ length fs
    many = length-map fs (frame_seen lens)

    each : AllServedTurn lens (length gs) y.datagrams ws vs
    each = subst (λ (made : ℕ). AllServedTurn lens made y.datagrams ws vs) (sym many) y.each

    abbrev ms : List ServedMember
    ms = served_members lens 0 plan.slaves ws x.nodes

    abbrev turns : List (Turn Asked)
    turns = Every.turns_of plan (length gs) y.datagrams ring f went plan.slaves ws vs each

    asks : AllTurn is_followed is_passed lens (length gs) y.datagrams ms turns
    asks = Every.all_turn plan (length gs) y.datagrams ring f went gs 0 plan.slaves ws x.nodes vs each x.lives.each x.at boots

    frame_is : frame_at lens ring f.sent ≡ frame_seen lens f
    frame_is = λ i. record { sent = seen lens f.sent; fate = fate_seen (sym went.fate i); back = seen lens (sym went.back i) }

    frames_are : gs ++ frame_at lens ring f.sent ∷ [] ≡ all_seen lens (fs ++ f ∷ [])
    frames_are = (λ i. gs ++ frame_is i ∷ []) ∙ sym (map-append (frame_seen lens) fs (f ∷ []))

    abbrev Behind : Fate → List ServedMember
    Behind fate = behind_frame is_followed is_passed (length gs) (frame_at lens ring f.sent) fate 0 ms turns (chained y.datagrams)

    abbrev Given : Fate → List ServedMember
    Given fate = given_up plan.recover (length gs) (Behind fate) (Every.carried plan (length gs) y.datagrams ring f went gs gives fate vs)

    ring_on : IsRing lens step (FitsPlan plan.slaves) (gs ++ frame_at lens ring f.sent ∷ []) (ring_behind node_passed step ring f.sent) (Behind (fate_at ring.lose ring.number))
    ring_on = Members.ring_on lens step (FitsPlan plan.slaves) is_followed is_passed gs ring f.sent y.datagrams y.frame ms turns x.lives asks

    -- the nodes behind the frame are those of these slaves
    nodes_on : stood (suc (length gs)) ≡ map (λ (m : ServedMember). m.node) (Behind (fate_at ring.lose ring.number))
    nodes_on =
        ap stood (ap suc many ∙ sym (longer fs f)) ∙ are (fs ++ f ∷ []) [] (sym (append-nil (fs ++ f ∷ [])))
        ∙ ap (λ (r : RingState (Node Serving)). r.nodes) (one_after (ring_of plan) fs f) ∙ ring_on.nodes

    led_on : AllStoodMembers is_followed is_passed stood (gs ++ frame_at lens ring f.sent ∷ []) (Behind (fate_at ring.lose ring.number)) (all_counters (length gs) (frame_at lens ring f.sent) ms (map counters_of ws))
    led_on = led_turns lens step (FitsPlan plan.slaves) is_followed is_passed gs ring f.sent y.datagrams y.frame ms (map counters_of ws) turns stood nodes_on x.lives asks x.led (Every.all_told plan (length gs) y.datagrams ring f went gs 0 plan.slaves ws x.nodes vs each x.at)

    opened_here : AllOpened (length gs) ms
    opened_here = subst (λ (n : ℕ). AllOpened n ms) (sym many) opened

    -- those that are given up, each time a frame is lost, and all of them behind it
    reopen : (fate : Fate) → AllReopen (Behind fate) (Every.carried plan (length gs) y.datagrams ring f went gs gives fate vs)
    reopen Pass = all_reopen (suc (length gs)) (Behind Pass) [] (all_back lens (length gs) (frame_at lens ring f.sent) 0 0 plan.slaves ws x.nodes turns (chained y.datagrams) opened_here)
    reopen (Lost after) =
        all_reopen (length gs) (Behind (Lost after)) (Every.carried plan (length gs) y.datagrams ring f went gs gives (Lost after) vs) (all_lost lens (length gs) (frame_at lens ring f.sent) after 0 0 plan.slaves ws x.nodes turns (chained y.datagrams) opened_here)

    opened_on : (fate : Fate) → AllOpened (suc (length gs)) (Given fate)
    opened_on Pass = none_given plan.recover (length gs) (suc (length gs)) (Behind Pass) (all_back lens (length gs) (frame_at lens ring f.sent) 0 0 plan.slaves ws x.nodes turns (chained y.datagrams) opened_here)
    opened_on (Lost after) =
        all_given plan.recover (length gs) (Behind (Lost after)) (Every.carried plan (length gs) y.datagrams ring f went gs gives (Lost after) vs) (all_lost lens (length gs) (frame_at lens ring f.sent) after 0 0 plan.slaves ws x.nodes turns (chained y.datagrams) opened_here)

    by_fate : (fate : Fate) → fate_at ring.lose ring.number ≡ fate → LivesOpened (fs ++ f ∷ []) (map (served_behind lens plan.recover plan.retry gives (length gs) f) vs)
    by_fate fate at =
        let hs = gs ++ frame_at lens ring f.sent ∷ [] in
        let here = subst (λ (z : Fate). IsRing lens step (FitsPlan plan.slaves) hs (ring_behind node_passed step ring f.sent) (Behind z)) at ring_on in
        let led = subst (λ (z : Fate). AllStoodMembers is_followed is_passed stood hs (Behind z) (all_counters (length gs) (frame_at lens ring f.sent) ms (map counters_of ws))) at led_on in
        let given = Begins.ring_given lens step (FitsPlan plan.slaves) hs plan.recover (length gs) (ring_behind node_passed step ring f.sent) (Behind fate) (Every.carried plan (length gs) y.datagrams ring f went gs gives fate vs) here in
        let led_given = Every.led_given lens plan.slaves hs hs 0 (Behind fate) (all_counters (length gs) (frame_at lens ring f.sent) ms (map counters_of ws)) stood (Every.carried plan (length gs) y.datagrams ring f went gs gives fate vs) plan.recover (length gs) (reopen fate) here.each led in
        let same = Every.all_behind plan (length gs) y.datagrams ring f went gs plan.recover gives fate at (went.fate ∙ at) 0 plan.slaves ws x.nodes vs each (chained y.datagrams) x.lives.each x.at in
        let kept = Every.all_kept plan (length gs) y.datagrams ring f went gs plan.recover gives fate at (went.fate ∙ at) 0 plan.slaves ws x.nodes vs each x.lives.each x.at in
        let now = map (served_behind lens plan.recover plan.retry gives (length gs) f) vs in
        let nodes = Every.nodes_behind plan (length gs) y.datagrams ring f went gs fate 0 ws x.nodes plan.slaves (chained y.datagrams) in (
          record {
            nodes = nodes;
            lives = subst (λ (r : RingState (Node Serving)). IsRing lens step (FitsPlan plan.slaves) (all_seen lens (fs ++ f ∷ [])) r (served_members lens 0 plan.slaves now nodes)) (sym (one_after (ring_of plan) fs f))
                (subst (λ (ks : List (Frame Body)). IsRing lens step (FitsPlan plan.slaves) ks (behind ring f.sent) (served_members lens 0 plan.slaves now nodes)) frames_are
                (subst (λ (ns : List ServedMember). IsRing lens step (FitsPlan plan.slaves) hs (behind ring f.sent) ns) same given));
            led = subst (λ (ks : List (Frame Body)). AllStoodMembers is_followed is_passed stood ks (served_members lens 0 plan.slaves now nodes) (map counters_of now)) frames_are
                (subst (λ (ns : List ServedMember). AllStoodMembers is_followed is_passed stood hs ns (map counters_of now)) same
                (subst (λ (ks : List Counters). AllStoodMembers is_followed is_passed stood hs (Given fate) ks) kept led_given));
            at = Every.all_at plan (length gs) y.datagrams ring f went gs plan.recover gives fate 0 plan.slaves ws x.nodes vs each (chained y.datagrams) x.lives.each x.at;
          },
          subst (λ (z : ℕ). AllOpened z (served_members lens 0 plan.slaves now nodes)) (ap suc many ∙ sym (longer fs f)) (subst (λ (ns : List ServedMember). AllOpened (suc (length gs)) ns) same (opened_on fate)),
        )

    goes_on : LivesOpened (fs ++ f ∷ []) (map (served_behind lens plan.recover plan.retry gives (length fs) f) vs)
    goes_on = subst (λ (made : ℕ). LivesOpened (fs ++ f ∷ []) (map (served_behind lens plan.recover plan.retry gives made f) vs)) many (by_fate (fate_at ring.lose ring.number) refl)

  -- THE WHOLE SERVING
  all_lives : (fs : List Exchanged) (missed : ℕ) (ws : List Serves) → IsServedLed lens plan.recover plan.retry (all_serve plan.paces (first_leads plan)) fs missed ws → AllRound (ring_of plan) fs → AreNodes plan fs stood → LivesOpened fs ws
  unfolding asked_lives
  all_lives _ _ _ IsServedLed.start r are = (begins, all_first lens plan.services 0 plan.slaves plan.paces begins.nodes)
  all_lives _ _ _ (IsServedLed.asks fs missed ws place k l may) r are =
      let x = all_lives fs missed ws l r are in
      (asked_lives stood plan fs ws place k x.0, subst (λ (ms : List ServedMember). AllOpened (length fs) ms) (sym (asked_members lens 0 place k plan.slaves ws x.0.nodes)) x.1)
  all_lives _ _ _ (IsServedLed.on fs missed ws f vs l y) r are =
      let x = all_lives fs missed ws l (front_round (ring_of plan) fs f r) (front_nodes plan fs f stood are) in
      goes_on fs missed ws f vs x.0 y (last_round (ring_of plan) fs f r) are x.1

  pub served_lives : (fs : List Exchanged) (missed : ℕ) (ws : List Serves) → IsServedLed lens plan.recover plan.retry (all_serve plan.paces (first_leads plan)) fs missed ws → AllRound (ring_of plan) fs → AreNodes plan fs stood → AreStoodLived stood plan fs ws
  served_lives fs missed ws l r are = (all_lives fs missed ws l r are).0
