-- ONE SLAVE OF A SERVING by a frame: what its master made of the frame for it, and its life behind it.
use Rattle.std.proofs.Common.{◌≡◌, ℕ, ◌&&◌, Bool, true, false, List, refl, ap, sym, ◌∙◌, subst, if◌then◌else◌}
use Rattle.std.specs.Prelude.{Option, Some, All}
use Rattle.served_places.specs.of_datagrams.Datagram as Raw
use Rattle.run_work.specs.of_frame_view.Seen.{seen}
use Rattle.run_work.specs.of_frame_view.View.{Lens}
use Rattle.served_rings.specs.Lives.{news_by, news_of, recorded_by, recorded_of}
use Rattle.served_rings.specs.LedRings.{counters_next}
use Rattle.run_work.specs.of_frame_view.Shares.{Asked as AskedFor, came_at, given_where}
use Rattle.served_places.specs.of_life_model.Lives.{Spot, Life, life_back, life_lost, life_next, gives_up}
use Rattle.served_places.specs.of_life_runs.First.{lens_of, spot_of}
use Rattle.served_places.specs.of_life_runs.Led.{Exchanged, speech_at}
use Rattle.served_places.specs.of_link_mails.Body.{Body}
use Rattle.served_places.specs.of_link_model.Segment.{RingFate}
use Rattle.run_work.specs.of_master_duty.Reply.{Reply}
use Rattle.run_work.specs.of_master_hand.Spoken.{Asked, acknowledged, hand_speech, is_followed, is_passed}
use Rattle.run_work.specs.of_master_side.Passing.{news_back, news_lost}
use Rattle.run_work.specs.of_master_side.Counts.{counts_on, kept_on}
use Rattle.run_work.specs.of_plan_ring.Round.{WentRound}
use Rattle.run_work.proofs.of_plan_ring.Known.{Boots}
use Rattle.run_work.proofs.of_plan_ring.Turns.{boots_is}
use Rattle.served_places.specs.of_segment_model.Record.{Frame}
use Rattle.run_work.specs.of_segment_plan.declared.plan.Scenario.{Scenario}
use Rattle.run_work.specs.of_segment_plan.declared.service.Service as Plan
use Rattle.run_work.specs.of_segment_plan.declared.slave.SlaveSpec.{SlaveSpec}
use Rattle.served_places.specs.of_segment_ring.Ring.{RingState}
use Rattle.served_places.specs.of_segment_ring.Schedule.{fate_at}
use Rattle.served_places.specs.of_segment_ring.declared.wire.Fate.{Fate}
use Rattle.served_places.specs.of_segment_ring.declared.wire.Fate.TheVariants.{Pass, Lost}
use Rattle.served_places.specs.of_life_runs.Served.{Keyed, Serves, ServedTurn, ServedComes, IsServedTurn, served_behind, served_life, recorded}
use Rattle.served_places.specs.of_life_runs.Told.{Passed}
use Rattle.run_work.specs.of_slave_lives.Rings.{fate_seen}
use Rattle.run_work.specs.of_slave_server.Serving.{Serving}
use Rattle.run_work.specs.of_slave_node.Node.{Node}
use Rattle.served_places.specs.of_state_model.Stated.{Service}
use Rattle.run_work.specs.of_whole_ring.Turning.{BeginBoots, Turn, TurnsFor, frame_at, life_by, next_life}
use Rattle.run_work.proofs.of_whole_ring.Turning as Ring
use Rattle.served_rings.specs.Rings.{IsServedAt, ServedMember, counters_of, served_member}

-- what comes into hand asks for no state that the slave lacks
served_boots : (boot : Bool) (room : ℕ) (script : List Plan.Service) (waits : List Keyed) (hand : Option Passed) (n : ℕ) (b : Option (Service Asked)) (k : ℕ) (rest : List Keyed) (next : Option Passed) → All (Boots boot) script → ServedComes room script waits hand n b k rest next → BeginBoots boot b
served_boots boot room script waits hand n _ _ _ _ all ServedComes.none = tt
served_boots boot room script waits hand n _ _ _ _ all (ServedComes.own s m comes) = boots_is boot room script n (Some s) m all comes
served_boots boot room script waits hand n _ _ _ _ all (ServedComes.mail k rest is) = tt

module _ (plan : Scenario) (place : ℕ) (s : SlaveSpec) (w : Serves) (v : ServedTurn) (n : Node Serving) (made : ℕ) (ds : List Raw.Datagram) (x : IsServedAt plan place s w) (y : IsServedTurn (lens_of plan.slaves) made ds w v)
    (out : (lens_of plan.slaves s.station).out ≡ s.out_len) (back : (lens_of plan.slaves s.station).back ≡ s.in_len) (ring : RingState (Node Serving)) (f : Exchanged) (went : WentRound ring f) where
  abbrev lens : ℕ → Lens
  lens = lens_of plan.slaves

  abbrev seen_frame : Frame Body
  seen_frame = frame_at lens ring f.sent

  abbrev m : ServedMember
  m = served_member lens place s w n

  -- THE TURN that the ring's law speaks of
  abbrev pub turn : Turn Asked
  turn = record { pick = y.next.pick; share = v.turn.share; news = news_of s.station w.kept w.counts (frame_at (lens_of plan.slaves) ring f.sent) }

  pub spot_is : v.turn.lived.spot ≡ spot_of place s
  spot_is = y.next.spot ∙ x.spot

  -- what is spoken with the slave
  spoken_at : (spot : Spot) → spot ≡ spot_of place s → m.services.exchange.speech ≡ speech_at lens spot
  spoken_at spot is = (λ j. hand_speech (record { out = sym out j; back = sym back j })) ∙ ap (speech_at lens) (sym is)

  pub next_same : next_life is_followed is_passed made m.services m.life turn ≡ v.turn.lived.life
  next_same = (λ j. life_next (spoken_at w.lead.lived.spot x.spot j) acknowledged is_followed is_passed made w.lead.lived.life w.lead.lived.life.stand y.next.pick) ∙ sym y.next.life

  pub stand_is : v.turn.lived.life.stand ≡ w.lead.lived.life.stand
  stand_is = ap (λ (l : Life Body Asked Reply). l.stand) (sym next_same) ∙ Ring.next_stand is_followed is_passed made m.services m.life turn

  pub turns_for : All (Boots s.boot) w.lead.script → TurnsFor is_followed is_passed lens made ds m turn
  turns_for boots = record {
    asked = subst (λ l. AskedFor lens ds l v.turn.share) (λ i. record { spot = spot_is i; life = sym next_same i }) y.asked;
    boots = subst (λ (b : Option (Service Asked)). BeginBoots s.boot b) (sym y.begun) (served_boots s.boot (lens w.lead.lived.spot.station).out w.lead.script w.waits w.hand w.lead.number v.turn.begun v.turn.number v.waits v.hand boots y.comes);
  }

  -- what came back of the frame, and the news of it
  came : seen_frame.back ≡ seen lens f.back
  came = ap (seen lens) (sym went.back)

  -- ITS LIFE BEHIND A FRAME THAT CAME BACK
  back_life : (recover : ℕ) (gives : Bool) → (is : fate_at ring.lose ring.number ≡ Pass) → life_by is_followed is_passed made seen_frame (fate_seen Pass) m.services m.spot m.life turn ≡ (served_life lens recover plan.retry gives made f Pass v).life
  back_life recover gives is =
      let told : turn.news ≡ news_back v.turn.lived.spot.station v.kept v.counts (seen lens f.back) =
      ap (λ (z : Fate). news_by s.station w.kept w.counts (seen lens f.sent) (fate_seen z) seen_frame.back) is
      ∙ (λ i. news_back (sym spot_is i).station (sym y.kept i) (sym y.counts i) (came i)) in
      λ i. life_back (spoken_at v.turn.lived.spot spot_is i) acknowledged is_followed is_passed made (sym spot_is i) (told i) (came i) (came_at v.turn.share.under v.turn.share.at (came i)) (next_same i) (sym stand_is i)

  -- BEHIND A LOST ONE, before any slave is given up
  lost_life : (after : ℕ) → (is : fate_at ring.lose ring.number ≡ Lost after) → life_by is_followed is_passed made seen_frame (fate_seen (Lost after)) m.services m.spot m.life turn
      ≡ life_lost (speech_at lens v.turn.lived.spot) acknowledged is_followed is_passed v.turn.lived.spot (news_lost v.turn.lived.spot.station v.kept (seen lens f.sent)) (seen lens f.sent) v.turn.lived.life v.turn.lived.life.stand
  lost_life after is =
      let told : turn.news ≡ news_lost v.turn.lived.spot.station v.kept (seen lens f.sent) =
      ap (λ (z : Fate). news_by s.station w.kept w.counts (seen lens f.sent) (fate_seen z) seen_frame.back) is
      ∙ (λ i. news_lost (sym spot_is i).station (sym y.kept i) (seen lens f.sent)) in
      λ i. life_lost (spoken_at v.turn.lived.spot spot_is i) acknowledged is_followed is_passed (sym spot_is i) (told i) (seen lens f.sent) (next_same i) (sym stand_is i)

  -- WHAT THE RECORD KEEPS behind it
  pub counters_same : (fate : Fate) → fate_at ring.lose ring.number ≡ fate → counters_next made seen_frame m (counters_of w) ≡ record {
    kept = kept_on v.turn.lived.life.stand v.turn.lived.spot.station v.kept (recorded lens plan.recover plan.retry f fate);
    counts = counts_on v.turn.lived.life.stand v.turn.lived.spot.station v.pace made (recorded lens plan.recover plan.retry f fate).back v.counts;
  }
  counters_same fate is =
      let rec : recorded_of seen_frame ≡ recorded lens plan.recover plan.retry f fate = ap (λ (z : Fate). recorded_by (seen lens f.sent) (fate_seen z) seen_frame.back) is ∙ by fate in
      λ i. record {
        kept = kept_on (sym stand_is i) (sym spot_is i).station (sym y.kept i) (rec i);
        counts = counts_on (sym stand_is i) (sym spot_is i).station (sym y.pace i) made (rec i).back (sym y.counts i);
      }
    where
      by : (z : Fate) → recorded_by (seen lens f.sent) (fate_seen z) seen_frame.back ≡ recorded lens plan.recover plan.retry f z
      by Pass = λ i. record { sent = came i; fate = RingFate.Back; back = came i }
      by (Lost after) = refl

  -- THE SLAVE BEHIND THE FRAME
  module _ (recover : ℕ) (gives : Bool) (m_node : Node Serving) where
    pub back_member : fate_at ring.lose ring.number ≡ Pass → f.fate ≡ Pass →
        record m { life = life_by is_followed is_passed made seen_frame (fate_seen Pass) m.services m.spot m.life turn; node = m_node } ≡ served_member lens place s (served_behind lens recover plan.retry gives made f v) m_node
    back_member is fate =
        let life_is = back_life recover gives is ∙ ap (λ (z : Fate). (served_life lens recover plan.retry gives made f z v).life) (sym fate) in
        λ i. record m { life = life_is i; node = m_node; pace = sym y.pace i }

    pub lost_member : (after : ℕ) → fate_at ring.lose ring.number ≡ Lost after → f.fate ≡ Lost after →
        (let lost = record m { life = life_by is_followed is_passed made seen_frame (fate_seen (Lost after)) m.services m.spot m.life turn; node = m_node } in
        (if gives && v.turn.share.under then record lost { life = gives_up recover lost.spot made lost.life } else lost) ≡ served_member lens place s (served_behind lens recover plan.retry gives made f v) m_node)
    lost_member after is fate = go (gives && v.turn.share.under) ∙ (λ i. served_given (given_is i))
      where
        left : Life Body Asked Reply
        left = life_lost (speech_at lens v.turn.lived.spot) acknowledged is_followed is_passed v.turn.lived.spot (news_lost v.turn.lived.spot.station v.kept (seen lens f.sent)) (seen lens f.sent) v.turn.lived.life v.turn.lived.life.stand

        served_given : Life Body Asked Reply → ServedMember
        served_given l = record m { life = l; node = m_node; pace = v.pace }

        given_is : given_where (gives && v.turn.share.under) recover v.turn.lived.spot made left ≡ (served_life lens recover plan.retry gives made f f.fate v).life
        given_is = ap (λ (z : Fate). (served_life lens recover plan.retry gives made f z v).life) (sym fate)

        go : (b : Bool) → (if b then record m { life = gives_up recover m.spot made (life_by is_followed is_passed made seen_frame (fate_seen (Lost after)) m.services m.spot m.life turn); node = m_node }
            else record m { life = life_by is_followed is_passed made seen_frame (fate_seen (Lost after)) m.services m.spot m.life turn; node = m_node }) ≡ served_given (given_where b recover v.turn.lived.spot made left)
        go true = λ i. record m { life = gives_up recover (sym spot_is i) made (lost_life after is i); node = m_node; pace = sym y.pace i }
        go false = λ i. record m { life = lost_life after is i; node = m_node; pace = sym y.pace i }

  -- IT IS LED AT ITS PLACE still
  pub at_behind : (recover : ℕ) (gives : Bool) → IsServedAt plan place s (served_behind lens recover plan.retry gives made f v)
  at_behind recover gives = record { spot = spot_by f.fate; script = y.script ∙ x.script }
    where
      spot_by : (fate : Fate) → (served_life lens recover plan.retry gives made f fate v).spot ≡ spot_of place s
      spot_by Pass = spot_is
      spot_by (Lost after) = spot_is
