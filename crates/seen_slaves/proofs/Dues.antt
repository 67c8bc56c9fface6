-- What a frame that came back brings of each open slave of a serving is due to its master.
use Rattle.std.proofs.Common.{◌≡◌, ℕ, suc, List, [], ◌∷◌, map, length, refl, sym, ap, ◌∙◌, subst}
use Rattle.std.specs.Prelude.{All}
use Rattle.std.proofs.lemmas.List.Elements.{All-head, All-tail}
use Rattle.idle_slaves.specs.of_datagrams.Datagram as Raw
use Rattle.idle_slaves.specs.of_exchange_model.Exchange.{Speech}
use Rattle.idle_slaves.specs.of_frame_view.Seen.{datagrams_seen, seen}
use Rattle.idle_slaves.specs.of_frame_view.View.{Lens}
use Rattle.served_rings.specs.Led.{LedEra}
use Rattle.served_rings.proofs.Singles.{seen_single}
use Rattle.served_rings.specs.Lives.{LedKept}
use Rattle.served_rings.specs.LedRings.{AllLedMembers, LedMember}
use Rattle.idle_slaves.specs.of_life_model.Lives.{AsksOpen, Era, Life, Spot, Stand, era_next, life_next}
use Rattle.idle_slaves.specs.of_life_model.Own.{own}
use Rattle.idle_slaves.specs.of_life_runs.First.{lens_of, spot_of}
use Rattle.idle_slaves.specs.of_life_runs.Led.{speech_at}
use Rattle.idle_slaves.specs.of_link_mails.Body.{Body}
use Rattle.idle_slaves.specs.of_link_model.Frames.{all_accepted}
use Rattle.served_rings.specs.of_master_duty.Reply.{Reply}
use Rattle.served_rings.specs.of_master_hand.Spoken.{Asked, acknowledged, hand_speech, is_followed, is_passed}
use Rattle.served_rings.specs.of_master_side.Due.{EachDue}
use Rattle.served_rings.specs.of_master_tour.Brings.{accepted_at}
use Rattle.idle_slaves.specs.of_slave_model.Hears.{HearsFirst}
use Rattle.idle_slaves.specs.of_plan_ring.Dues.{AllDue, IsDueOf}
use Rattle.idle_slaves.specs.of_plan_ring.PlanMet.{AllMet, IsMet, slave_at}
use Rattle.idle_slaves.specs.of_plan_ring.Plan.{AllMacs, FitsPlan, step}
use Rattle.served_rings.specs.Speakers.{any_speaker, processor_of, seer_of, spoken, table_of}
use Rattle.seen_slaves.specs.Brings.{SeenBringsDue}
use Rattle.seen_slaves.proofs.Seen.{seen_due}
use Rattle.idle_slaves.specs.of_segment_model.Record.{Frame}
use Rattle.idle_slaves.specs.of_segment_model.Slaves.{Datagram, frame_after, grams}
use Rattle.idle_slaves.specs.of_segment_plan.Sound.{IsSlave}
use Rattle.idle_slaves.specs.of_segment_plan.declared.plan.Scenario.{Scenario}
use Rattle.idle_slaves.specs.of_segment_plan.declared.slave.SlaveSpec.{SlaveSpec}
use Rattle.served_rings.specs.Serves.{serves}
use Rattle.served_rings.specs.Rings.{AllServedAt, IsServedAt, counters_of, served_member, served_members}
use Rattle.idle_slaves.specs.of_life_runs.Served.{AllServedTurn, IsServedTurn, Serves, ServedTurn}
use Rattle.seen_slaves.specs.Eager.{leads_of}
use Rattle.seen_slaves.proofs.Seats.{Laws, all_fair, open_lives, plan_seen}
use Rattle.idle_slaves.specs.of_slave_lives.Lived.{node_seen}
use Rattle.idle_slaves.specs.of_slave_model.Profile.{IsProfile, Profile, areas_of}
use Rattle.idle_slaves.specs.of_slave_parts.Parts.{Server, parts}
use Rattle.idle_slaves.specs.of_slave_parts.Served.{product_whole}
use Rattle.idle_slaves.specs.of_slave_server.Serving.{Serving}
use Rattle.idle_slaves.specs.of_slave_server.Spec.{profile_of}
use Rattle.idle_slaves.specs.of_slave_node.Node.{Node}
use Rattle.idle_slaves.specs.of_state_model.Families.{InState}
use Rattle.idle_slaves.specs.of_state_model.Accounts.{Pick}
use Rattle.served_rings.specs.of_whole_ring.Members.{AllLived}
use Rattle.served_rings.specs.of_whole_ring.Whole.{LivesOpenBy}

-- a master's choice before a frame changes nothing of how it stands to a slave
next_stands : (x : Speech Body Asked Reply) (made : ℕ) (l : Life Body Asked Reply) (stand : Stand) (pick : Pick Asked) → (life_next x acknowledged is_followed is_passed made l stand pick).stand ≡ l.stand
next_stands x made l (Stand.Opens o) pick = refl
next_stands x made l Stand.Open pick = refl
next_stands x made l Stand.Gone pick = refl

module _ (laws : Laws) (hear : (p : Profile) → IsProfile p → HearsFirst (product_whole parts p)) (plan : Scenario) (gs : List (Frame Body)) (octets : List ℕ) (back : List (Datagram Body)) (ds : List Raw.Datagram) (view : seen (lens_of plan.slaves) octets ≡ datagrams_seen (lens_of plan.slaves) ds) where
  abbrev lens : ℕ → Lens
  lens = lens_of plan.slaves

  abbrev made : ℕ
  made = length gs

  -- ---- ONE SLAVE THAT IS OPEN
  module _ (place : ℕ) (s : SlaveSpec) (profile : IsProfile (profile_of s)) (w : Serves) (v : ServedTurn) (n : Node Serving) (at : IsServedAt plan place s w) (turn : IsServedTurn (lens_of plan.slaves) (length gs) ds w v)
      (out : (lens_of plan.slaves s.station).out ≡ s.out_len) (into : (lens_of plan.slaves s.station).back ≡ s.in_len) (back_is : own s.station back ≡ frame_after s.station (slave_at (lens_of plan.slaves) s n) (own s.station (seen (lens_of plan.slaves) octets))) (from : InState Server)
      (lives : LivesOpenBy (serves (profile_of s) s.boot (lens_of plan.slaves)) from w.lead.lived.life.era (λ a e hs m. LedKept (serves (profile_of s) s.boot (lens_of plan.slaves)) is_followed is_passed (spot_of place s) w.kept w.counts a e hs m) gs n)
      (stands : w.lead.lived.life.stand ≡ Stand.Open) (opens : v.turn.lived.life.stand ≡ Stand.Open) where
    abbrev p : Profile
    p = profile_of s

    abbrev x : Speech Body Asked Reply
    x = hand_speech (areas_of (profile_of s))

    abbrev l : Life Body Asked Reply
    l = w.lead.lived.life

    abbrev u : Life Body Asked Reply
    u = v.turn.lived.life

    abbrev era : LedEra (serves (profile_of s) s.boot (lens_of plan.slaves)) is_followed is_passed (spot_of place s) from lives.lives.epoch.led w.lead.lived.life.era gs n
    era = lives.lives.epoch.era

    speech_is : x ≡ speech_at lens w.lead.lived.spot
    speech_is = (λ j. hand_speech (record { out = sym out j; back = sym into j })) ∙ ap (speech_at lens) (sym at.spot)

    spot : v.turn.lived.spot ≡ spot_of place s
    spot = turn.next.spot ∙ at.spot

    -- its epoch before the frame
    abbrev under : Era Body Asked Reply
    under = era_next x acknowledged is_followed is_passed (length gs) w.lead.lived.life.era turn.next.pick

    life : u ≡ record l { era = under }
    life = turn.next.life ∙ ap (λ (z : Stand). life_next (speech_at lens w.lead.lived.spot) acknowledged is_followed is_passed made l z turn.next.pick) stands
        ∙ ap (λ (z : Speech Body Asked Reply). life_next z acknowledged is_followed is_passed made l Stand.Open turn.next.pick) (sym speech_is)

    asks : AsksOpen s.station under (seen lens octets)
    asks =
        let there : AsksOpen v.turn.lived.spot.station u.era (datagrams_seen lens ds) = turn.asked.asks opens in
        let at_spot : AsksOpen s.station u.era (datagrams_seen lens ds) = subst (λ (z : Spot). AsksOpen z.station u.era (datagrams_seen lens ds)) spot there in
        let as_led : AsksOpen s.station under (datagrams_seen lens ds) = subst (λ (z : Life Body Asked Reply). AsksOpen s.station z.era (datagrams_seen lens ds)) life at_spot in
        subst (λ (ms : List (Datagram Body)). AsksOpen s.station under ms) (sym view) as_led

    brings : EachDue x under.side.now (all_accepted s.station under.side.halves (grams (own s.station back)))
    brings =
        let due : SeenBringsDue (any_speaker p) (spoken p) (spot_of place s) gs l.era (node_seen (serves p s.boot lens) n) =
        seen_due (any_speaker p) (laws.speaks p profile) (hear p profile) (λ ts. all_fair p ts) (spoken p) (processor_of s.boot) (seer_of p s.boot) (table_of s.boot) (spot_of place s) (laws.runs p s.boot s.station) era.opened era.server era.registers
        (plan_seen lens s (spot_of place s) from lives.lives.epoch.led l.era gs n era) era.answers gs lives.lives.epoch.led l.era (node_seen (serves p s.boot lens) n) era.led in
        subst (λ (ms : List (Datagram Body)). EachDue x under.side.now (all_accepted s.station under.side.halves (grams ms))) (sym back_is) (due turn.next.pick (seen lens octets) asks (seen_single lens octets s.station))

    abbrev Due : Speech Body Asked Reply → ℕ → Life Body Asked Reply → Stand → Type 0
    Due z station k stand = EachDue z k.era.side.now (accepted_at station k.era.side.halves back stand)

    is_due : EachDue (speech_at lens v.turn.lived.spot) u.era.side.now (accepted_at v.turn.lived.spot.station u.era.side.halves back u.stand)
    is_due =
        let here : Due x s.station (record l { era = under }) Stand.Open = brings in
        let as_led : Due x s.station u Stand.Open = subst (λ (k : Life Body Asked Reply). Due x s.station k Stand.Open) (sym life) here in
        let as_open : Due x s.station u u.stand = subst (λ (z : Stand). Due x s.station u z) (sym opens) as_led in
        let at_spot : Due x v.turn.lived.spot.station u u.stand = subst (λ (z : Spot). Due x z.station u u.stand) (sym spot) as_open in
        subst (λ (z : Speech Body Asked Reply). Due z v.turn.lived.spot.station u u.stand) (speech_is ∙ ap (speech_at lens) (sym turn.next.spot)) at_spot

  one : (place : ℕ) (s : SlaveSpec) → IsProfile (profile_of s) → (w : Serves) (v : ServedTurn) (n k : Node Serving) (pace number : ℕ) → IsServedAt plan place s w → IsServedTurn (lens_of plan.slaves) (length gs) ds w v → (lens_of plan.slaves s.station).out ≡ s.out_len → (lens_of plan.slaves s.station).back ≡ s.in_len →
      (w.lead.lived.life.stand ≡ Stand.Open → IsMet (lens_of plan.slaves) (seen (lens_of plan.slaves) octets) back number pace s n k) → LedMember is_followed is_passed gs (served_member (lens_of plan.slaves) place s w n) (counters_of w) → IsDueOf (lens_of plan.slaves) back v.turn
  one place s profile w v n k pace number at turn out into met led = λ opens.
      (let stands : w.lead.lived.life.stand ≡ Stand.Open =
      sym (next_stands (speech_at lens w.lead.lived.spot) made w.lead.lived.life w.lead.lived.life.stand turn.next.pick) ∙ ap (λ (l : Life Body Asked Reply). l.stand) (sym turn.next.life) ∙ opens in
      is_due place s profile w v n at turn out into (met stands).back_is led.from (open_lives laws plan gs place s w n led.from w.lead.lived.life.stand stands led.now) stands opens)

  -- ALL SLAVES
  pub all_due : (place number : ℕ) (ss : List SlaveSpec) (ws : List Serves) (vs : List ServedTurn) (paces : List ℕ) (ns ks : List (Node Serving)) → All IsSlave ss → AllMacs ss → AllLedMembers is_followed is_passed gs (served_members (lens_of plan.slaves) place ss ws ns) (map counters_of ws) →
      AllLived (lens_of plan.slaves) step (FitsPlan plan.slaves) gs place (served_members (lens_of plan.slaves) place ss ws ns) → AllServedAt plan place ss ws ns → AllServedTurn (lens_of plan.slaves) (length gs) ds ws vs →
      AllMet (lens_of plan.slaves) (seen (lens_of plan.slaves) octets) back number ss (leads_of ws) paces ns ks → AllDue (lens_of plan.slaves) back (map (λ (v : ServedTurn). v.turn) vs)
  all_due place number [] [] [] paces [] ks slaves macs led lived at turns met = tt
  all_due place number [] [] (v ∷ vs) paces [] ks slaves macs led lived at turns met = absurd turns
  all_due place number [] [] vs paces (n ∷ ns) ks slaves macs led lived at turns met = absurd at
  all_due place number [] (w ∷ ws) vs paces ns ks slaves macs led lived at turns met = absurd at
  all_due place number (s ∷ ss) [] vs paces ns ks slaves macs led lived at turns met = absurd at
  all_due place number (s ∷ ss) (w ∷ ws) vs paces [] ks slaves macs led lived at turns met = absurd at
  all_due place number (s ∷ ss) (w ∷ ws) [] paces (n ∷ ns) ks slaves macs led lived at turns met = absurd turns
  all_due place number (s ∷ ss) (w ∷ ws) (v ∷ vs) [] (n ∷ ns) ks slaves macs led lived at turns met = absurd met
  all_due place number (s ∷ ss) (w ∷ ws) (v ∷ vs) (pace ∷ paces) (n ∷ ns) [] slaves macs led lived at turns met = absurd met
  all_due place number (s ∷ ss) (w ∷ ws) (v ∷ vs) (pace ∷ paces) (n ∷ ns) (k ∷ ks) slaves macs led lived at turns met =
      let here : IsSlave s = All-head IsSlave s ss slaves in
      let profile : IsProfile (profile_of s) = record { out_least = here.out_least; out_most = here.out_most; back_least = here.in_least; back_most = here.in_most; mac = macs.0 } in (
        one place s profile w v n k pace number at.0 turns.0 lived.0.whole.plan.lens_out lived.0.whole.plan.lens_back met.0 led.0,
        all_due (suc place) number ss ws vs paces ns ks (All-tail IsSlave s ss slaves) macs.1 led.1 lived.1 at.1 turns.1 met.1,
      )
