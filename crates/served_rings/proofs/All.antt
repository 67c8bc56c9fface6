-- ALL SLAVES OF A SERVING by a frame.
use Rattle.std.proofs.Common.{◌≡◌, ℕ, suc, ◌&&◌, Bool, true, false, List, [], ◌∷◌, map, refl, ap₂, sym, ◌∙◌, subst, if◌then◌else◌}
use Rattle.std.specs.Prelude.{All}
use Rattle.served_places.specs.of_datagrams.Datagram as Raw
use Rattle.run_work.specs.of_slave_node.Passing.{datagrams_after}
use Rattle.run_work.specs.of_frame_view.View.{Lens}
use Rattle.served_rings.specs.Lives.{news_of}
use Rattle.served_rings.proofs.Stood as Stood
use Rattle.served_rings.specs.StoodLives.{AllStoodMembers, IsFirst, StoodMember, others}
use Rattle.served_rings.specs.LedRings.{Counters, AllTold, all_counters}
use Rattle.served_places.specs.of_life_model.Lives.{gives_up}
use Rattle.served_places.specs.of_life_runs.First.{lens_of}
use Rattle.served_places.specs.of_life_runs.Led.{Exchanged}
use Rattle.served_places.specs.of_link_mails.Body.{Body}
use Rattle.run_work.specs.of_master_hand.Spoken.{Asked, is_followed, is_passed}
use Rattle.run_work.specs.of_plan_ring.Plan.{FitsPlan, step}
use Rattle.run_work.specs.of_plan_ring.Round.{WentRound}
use Rattle.run_work.proofs.of_plan_ring.Known.{AllBoot, Boots}
use Rattle.served_places.specs.of_segment_model.Record.{Frame}
use Rattle.run_work.specs.of_segment_plan.declared.plan.Scenario.{Scenario}
use Rattle.run_work.specs.of_segment_plan.declared.service.Service as Plan
use Rattle.run_work.specs.of_segment_plan.declared.slave.SlaveSpec.{SlaveSpec}
use Rattle.served_places.specs.of_segment_ring.Ring.{RingState}
use Rattle.served_places.specs.of_segment_ring.Schedule.{fate_at}
use Rattle.served_places.specs.of_segment_ring.declared.wire.Fate.{Fate}
use Rattle.served_places.specs.of_segment_ring.declared.wire.Fate.TheVariants.{Pass, Lost}
use Rattle.run_work.specs.of_plan_ring.Real.{running_as}
use Rattle.served_places.specs.of_life_runs.Served.{Serves, ServedTurn, AllServedTurn, served_behind}
use Rattle.run_work.specs.of_slave_lives.Rings.{is_met_at, met, turned}
use Rattle.run_work.specs.of_slave_server.Serving.{Serving}
use Rattle.run_work.specs.of_slave_server.Spec.{profile_of}
use Rattle.run_work.specs.of_slave_node.Node.{Node}
use Rattle.run_work.specs.of_whole_ring.Members.{AllLived}
use Rattle.run_work.specs.of_whole_ring.Turning.{AllTurn, Turn, behind_frame, frame_at, given_up}
use Rattle.served_rings.specs.Rings.{AllServedAt, ServedMember, counters_of, served_members}
use Rattle.served_rings.proofs.One as One
use Rattle.served_rings.proofs.Reopened.{AllReopen}

module _ (plan : Scenario) (made : ℕ) (ds : List Raw.Datagram) (ring : RingState (Node Serving)) (f : Exchanged) (went : WentRound ring f) where
  abbrev lens : ℕ → Lens
  lens = lens_of plan.slaves

  abbrev seen_frame : Frame Body
  seen_frame = frame_at lens ring f.sent

  abbrev Turned : List Serves → List ServedTurn → Type 0
  Turned ws vs = AllServedTurn lens made ds ws vs

  -- the turns that the ring's law speaks of
  abbrev pub turns_of : (ss : List SlaveSpec) (ws : List Serves) (vs : List ServedTurn) → AllServedTurn (lens_of plan.slaves) made ds ws vs → List (Turn Asked)
  turns_of [] ws vs ys = []
  turns_of (s ∷ ss) [] vs ys = []
  turns_of (s ∷ ss) (w ∷ ws) [] ys = []
  turns_of (s ∷ ss) (w ∷ ws) (v ∷ vs) ys = record { pick = ys.0.next.pick; share = v.turn.share; news = news_of s.station w.kept w.counts (frame_at (lens_of plan.slaves) ring f.sent) } ∷ turns_of ss ws vs ys.1

  module _ (fs : List (Frame Body)) where
    abbrev LivedFrom : ℕ → List SlaveSpec → List Serves → List (Node Serving) → Type 0
    LivedFrom place ss ws ns = AllLived lens step (FitsPlan plan.slaves) fs place (served_members lens place ss ws ns)

    pub all_turn : (place : ℕ) (ss : List SlaveSpec) (ws : List Serves) (ns : List (Node Serving)) (vs : List ServedTurn) (ys : Turned ws vs) → LivedFrom place ss ws ns → AllServedAt plan place ss ws ns → AllBoot plan.services place ss →
        AllTurn is_followed is_passed lens made ds (served_members lens place ss ws ns) (turns_of ss ws vs ys)
    all_turn place [] [] [] vs ys lived at boots = tt
    all_turn place [] [] (n ∷ ns) vs ys lived at boots = absurd at
    all_turn place [] (w ∷ ws) ns vs ys lived at boots = absurd at
    all_turn place (s ∷ ss) [] ns vs ys lived at boots = absurd at
    all_turn place (s ∷ ss) (w ∷ ws) [] vs ys lived at boots = absurd at
    all_turn place (s ∷ ss) (w ∷ ws) (n ∷ ns) [] ys lived at boots = absurd ys
    all_turn place (s ∷ ss) (w ∷ ws) (n ∷ ns) (v ∷ vs) ys lived at boots = (
      One.turns_for plan place s w v n made ds at.0 ys.0 lived.0.whole.plan.lens_out lived.0.whole.plan.lens_back ring f went (subst (λ (script : List Plan.Service). All (Boots s.boot) script) (sym at.0.script) boots.0),
      all_turn (suc place) ss ws ns vs ys.1 lived.1 at.1 boots.1,
    )

    pub all_told : (place : ℕ) (ss : List SlaveSpec) (ws : List Serves) (ns : List (Node Serving)) (vs : List ServedTurn) (ys : Turned ws vs) → AllServedAt plan place ss ws ns →
        AllTold is_followed is_passed seen_frame (served_members lens place ss ws ns) (map counters_of ws) (turns_of ss ws vs ys)
    all_told place [] [] [] vs ys at = tt
    all_told place [] [] (n ∷ ns) vs ys at = absurd at
    all_told place [] (w ∷ ws) ns vs ys at = absurd at
    all_told place (s ∷ ss) [] ns vs ys at = absurd at
    all_told place (s ∷ ss) (w ∷ ws) [] vs ys at = absurd at
    all_told place (s ∷ ss) (w ∷ ws) (n ∷ ns) [] ys at = absurd ys
    all_told place (s ∷ ss) (w ∷ ws) (n ∷ ns) (v ∷ vs) ys at = (refl, all_told (suc place) ss ws ns vs ys.1 at.1)

    -- which of them a lost frame carried, where these are given up
    abbrev pub carried : Bool → Fate → List ServedTurn → List Bool
    carried gives Pass vs = []
    carried gives (Lost after) [] = []
    carried gives (Lost after) (v ∷ vs) = (gives && v.turn.share.under) ∷ carried gives (Lost after) vs

    -- the nodes behind the frame
    abbrev pub nodes_behind : Fate → ℕ → List Serves → List (Node Serving) → List SlaveSpec → List Raw.Datagram → List (Node Serving)
    nodes_behind fate place (w ∷ ws) (n ∷ ns) (s ∷ ss) es = turned (running_as (profile_of s)) w.pace made (met (is_met_at place fate) n es) ∷ nodes_behind fate (suc place) ws ns ss (datagrams_after n.registers es)
    nodes_behind fate place _ _ _ es = []

    -- THEY ARE THE SLAVES BEHIND THE FRAME, whether it came back or was lost
    pub all_behind : (recover : ℕ) (gives : Bool) (fate : Fate) → fate_at ring.lose ring.number ≡ fate → f.fate ≡ fate → (place : ℕ) (ss : List SlaveSpec) (ws : List Serves) (ns : List (Node Serving)) (vs : List ServedTurn) (ys : Turned ws vs) (es : List Raw.Datagram) →
        LivedFrom place ss ws ns → AllServedAt plan place ss ws ns →
        given_up recover made (behind_frame is_followed is_passed made seen_frame fate place (served_members lens place ss ws ns) (turns_of ss ws vs ys) es) (carried gives fate vs)
        ≡ served_members lens place ss (map (served_behind lens recover plan.retry gives made f) vs) (nodes_behind fate place ws ns ss es)
    all_behind recover gives fate is same place [] [] [] vs ys es lived at = refl
    all_behind recover gives fate is same place [] [] (n ∷ ns) vs ys es lived at = absurd at
    all_behind recover gives fate is same place [] (w ∷ ws) ns vs ys es lived at = absurd at
    all_behind recover gives fate is same place (s ∷ ss) [] ns vs ys es lived at = absurd at
    all_behind recover gives fate is same place (s ∷ ss) (w ∷ ws) [] vs ys es lived at = absurd at
    all_behind recover gives fate is same place (s ∷ ss) (w ∷ ws) (n ∷ ns) [] ys es lived at = absurd ys
    all_behind recover gives Pass is same place (s ∷ ss) (w ∷ ws) (n ∷ ns) (v ∷ vs) ys es lived at =
        ap₂ (λ (m : ServedMember) (ms : List ServedMember). m ∷ ms)
        (One.back_member plan place s w v n made ds at.0 ys.0 lived.0.whole.plan.lens_out lived.0.whole.plan.lens_back ring f went recover gives (turned (running_as (profile_of s)) w.pace made (met (is_met_at place Pass) n es)) is same)
        (whole (behind_frame is_followed is_passed made seen_frame Pass (suc place) (served_members lens (suc place) ss ws ns) (turns_of ss ws vs ys.1) (datagrams_after n.registers es)) ∙ all_behind recover gives Pass is same (suc place) ss ws ns vs ys.1 (datagrams_after n.registers es) lived.1 at.1)
      where
        -- none is given up
        whole : (ms : List ServedMember) → ms ≡ given_up recover made ms []
        whole [] = refl
        whole (m ∷ ms) = refl
    all_behind recover gives (Lost after) is same place (s ∷ ss) (w ∷ ws) (n ∷ ns) (v ∷ vs) ys es lived at =
        ap₂ (λ (m : ServedMember) (ms : List ServedMember). m ∷ ms)
        (One.lost_member plan place s w v n made ds at.0 ys.0 lived.0.whole.plan.lens_out lived.0.whole.plan.lens_back ring f went recover gives (turned (running_as (profile_of s)) w.pace made (met (is_met_at place (Lost after)) n es)) after is same)
        (all_behind recover gives (Lost after) is same (suc place) ss ws ns vs ys.1 (datagrams_after n.registers es) lived.1 at.1)

    -- and the counters
    pub all_kept : (recover : ℕ) (gives : Bool) (fate : Fate) → fate_at ring.lose ring.number ≡ fate → f.fate ≡ fate → (place : ℕ) (ss : List SlaveSpec) (ws : List Serves) (ns : List (Node Serving)) (vs : List ServedTurn) (ys : Turned ws vs) → LivedFrom place ss ws ns → AllServedAt plan place ss ws ns →
        all_counters made seen_frame (served_members lens place ss ws ns) (map counters_of ws) ≡ map counters_of (map (served_behind lens recover plan.retry gives made f) vs)
    all_kept recover gives fate is same place [] [] [] [] ys lived at = refl
    all_kept recover gives fate is same place [] [] [] (v ∷ vs) ys lived at = absurd ys
    all_kept recover gives fate is same place [] [] (n ∷ ns) vs ys lived at = absurd at
    all_kept recover gives fate is same place [] (w ∷ ws) ns vs ys lived at = absurd at
    all_kept recover gives fate is same place (s ∷ ss) [] ns vs ys lived at = absurd at
    all_kept recover gives fate is same place (s ∷ ss) (w ∷ ws) [] vs ys lived at = absurd at
    all_kept recover gives fate is same place (s ∷ ss) (w ∷ ws) (n ∷ ns) [] ys lived at = absurd ys
    all_kept recover gives fate is same place (s ∷ ss) (w ∷ ws) (n ∷ ns) (v ∷ vs) ys lived at =
        ap₂ (λ (k : Counters) (ks : List Counters). k ∷ ks)
        (One.counters_same plan place s w v n made ds at.0 ys.0 lived.0.whole.plan.lens_out lived.0.whole.plan.lens_back ring f went f.fate (is ∙ sym same))
        (all_kept recover gives fate is same (suc place) ss ws ns vs ys.1 lived.1 at.1)

    pub all_at : (recover : ℕ) (gives : Bool) (fate : Fate) (place : ℕ) (ss : List SlaveSpec) (ws : List Serves) (ns : List (Node Serving)) (vs : List ServedTurn) (ys : Turned ws vs) (es : List Raw.Datagram) → LivedFrom place ss ws ns → AllServedAt plan place ss ws ns →
        AllServedAt plan place ss (map (served_behind lens recover plan.retry gives made f) vs) (nodes_behind fate place ws ns ss es)
    all_at recover gives fate place [] [] [] [] ys es lived at = tt
    all_at recover gives fate place [] [] [] (v ∷ vs) ys es lived at = absurd ys
    all_at recover gives fate place [] [] (n ∷ ns) vs ys es lived at = absurd at
    all_at recover gives fate place [] (w ∷ ws) ns vs ys es lived at = absurd at
    all_at recover gives fate place (s ∷ ss) [] ns vs ys es lived at = absurd at
    all_at recover gives fate place (s ∷ ss) (w ∷ ws) [] vs ys es lived at = absurd at
    all_at recover gives fate place (s ∷ ss) (w ∷ ws) (n ∷ ns) [] ys es lived at = absurd ys
    all_at recover gives fate place (s ∷ ss) (w ∷ ws) (n ∷ ns) (v ∷ vs) ys es lived at = (
      One.at_behind plan place s w v n made ds at.0 ys.0 lived.0.whole.plan.lens_out lived.0.whole.plan.lens_back ring f went recover gives,
      all_at recover gives fate (suc place) ss ws ns vs ys.1 (datagrams_after n.registers es) lived.1 at.1,
    )

-- THOSE THAT A LOST FRAME GAVE UP are led still
pub led_given : (lens : ℕ → Lens) (ss : List SlaveSpec) (gs hs : List (Frame Body)) (place : ℕ) (ms : List ServedMember) (ks : List Counters) (nodes : ℕ → List (Node Serving)) (bs : List Bool) (recover frame : ℕ) → AllReopen ms bs → AllLived lens step (FitsPlan ss) hs place ms →
    AllStoodMembers is_followed is_passed nodes gs ms ks → AllStoodMembers is_followed is_passed nodes gs (given_up recover frame ms bs) ks
led_given lens ss gs hs place [] ks nodes bs recover frame again lived led = led
led_given lens ss gs hs place (m ∷ ms) [] nodes bs recover frame again lived led = absurd led
led_given lens ss gs hs place (m ∷ ms) (k ∷ ks) nodes [] recover frame again lived led = led
led_given lens ss gs hs place (m ∷ ms) (k ∷ ks) nodes (b ∷ bs) recover frame again lived led = (one b, led_given lens ss gs hs (suc place) ms ks (others nodes) bs recover frame again.1 lived.1 led.1)
  where
    one : (b : Bool) → StoodMember is_followed is_passed (IsFirst nodes) gs (if b then record m { life = gives_up recover m.spot frame m.life } else m) k
    one true = Stood.gives m.services m.clearing m.plan m.spot lived.0.whole is_followed is_passed (IsFirst nodes) m.first m.life gs m.node recover frame k.kept k.counts k.kept k.counts again.0 led.0
    one false = led.0
