-- FRAME BY FRAME, from the switch on.
use Rattle.std.proofs.Common.{◌≡◌, ℕ, suc, Bool, List, [], ◌∷◌, ◌++◌, map, length, refl, sym, ◌∙◌, subst}
use Rattle.std.proofs.lemmas.List.{length-map, map-append}
use Rattle.run_frames.specs.of_datagrams.Datagram as Raw
use Rattle.run_frames.specs.of_datagrams.Frame.{IsFrame, chained}
use Rattle.whole_ring.specs.of_frame_view.View.{Lens}
use Rattle.whole_ring.specs.of_frame_view.Seen.{seen}
use Rattle.run_frames.specs.of_life_runs.First.{lens_of, first_leads, leads_from}
use Rattle.run_frames.specs.of_life_runs.Led as Led
use Rattle.run_frames.specs.of_life_runs.Led.{Exchanged, Leads, Turn, IsLed, IsLedFrame, is_passed, gives_up_at}
use Rattle.slave_server.specs.of_link_mails.Body.{Body}
use Rattle.run_frames.specs.of_master_hand.Spoken.{Asked, is_followed}
use Rattle.plan_ring.specs.Master.{AllLed, AllUnder, Under, AllBehind, GoesOn}
use Rattle.plan_ring.specs.Plan.{PlanMember, FitsPlan, AllMacs, members_of, new_members, step}
use Rattle.slave_server.specs.of_segment_model.Record.{Frame}
use Rattle.slave_server.specs.of_segment_plan.Sound as Plan
use Rattle.slave_server.specs.of_segment_plan.declared.plan.Scenario.{Scenario}
use Rattle.slave_server.specs.of_segment_plan.declared.slave.SlaveSpec.{SlaveSpec}
use Rattle.run_frames.specs.of_segment_ring.Ring.{RingState}
use Rattle.run_frames.specs.of_segment_ring.Schedule.{fate_at}
use Rattle.whole_ring.specs.of_slave_lives.Rings.{fate_seen}
use Rattle.slave_server.specs.Serving.{Serving}
use Rattle.slave_server.specs.of_slave_node.Node.{Node}
use Rattle.whole_ring.specs.Members.{IsRing, first_ring}
use Rattle.whole_ring.specs.Turning.{frame_at}
use Rattle.plan_ring.specs.Lives.{IsKnown, AllShown, AreLived}
use Rattle.plan_ring.specs.Round.{ring_of, behind, WentRound, AllRound, ring_after, frame_seen, all_seen}
use Rattle.plan_ring.proofs.Known.{AllBoot, macs_in, all_boot}
use Rattle.plan_ring.proofs.Turns.{under_of, all_under, all_behind}

-- the laws that this stands on
pub record Laws : Type 0 where
  pub begins : (plan : Scenario) → Plan.IsPlan plan → AllMacs plan.slaves → IsRing (lens_of plan.slaves) step (FitsPlan plan.slaves) [] (first_ring plan.lose (members_of plan)) (members_of plan)
  pub runs : (plan : Scenario) → Plan.IsPlan plan → first_ring plan.lose (members_of plan) ≡ ring_of plan
  pub led : (plan : Scenario) → Plan.IsPlan plan → AllMacs plan.slaves → AllLed (members_of plan)
  pub goes_on : (more : Body → Bool) (passed : Asked → Bool) (lens : ℕ → Lens) (ss : List SlaveSpec) (gives : Bool) (recover : ℕ) (fs : List (Frame Body)) (ring : RingState (Node Serving)) (octets : List ℕ) (ds : List Raw.Datagram) (ms : List PlanMember) (us : List Under) →
      IsFrame octets (chained ds) → IsRing lens step (FitsPlan ss) fs ring ms → AllLed ms → AllUnder more passed lens (length fs) ds ms us → GoesOn more passed lens ss gives recover fs ring octets ms us

-- one frame more
pub front_round : (ring : RingState (Node Serving)) (fs : List Exchanged) (f : Exchanged) → AllRound ring (fs ++ f ∷ []) → AllRound ring fs
front_round ring [] f r = tt
front_round ring (e ∷ fs) f r = (r.0, front_round (behind ring e.sent) fs f r.1)

pub last_round : (ring : RingState (Node Serving)) (fs : List Exchanged) (f : Exchanged) → AllRound ring (fs ++ f ∷ []) → WentRound (ring_after ring fs) f
last_round ring [] f r = r.0
last_round ring (e ∷ fs) f r = last_round (behind ring e.sent) fs f r.1

pub one_after : (ring : RingState (Node Serving)) (fs : List Exchanged) (f : Exchanged) → ring_after ring (fs ++ f ∷ []) ≡ behind (ring_after ring fs) f.sent
one_after ring [] f = refl
one_after ring (e ∷ fs) f = one_after (behind ring e.sent) fs f

module _ (laws : Laws) (plan : Scenario) (is : Plan.IsPlan plan) (known : IsKnown plan) where
  abbrev lens : ℕ → Lens
  lens = lens_of plan.slaves

  -- as they are switched on
  first_shown : (place : ℕ) (ss : List SlaveSpec) (paces : List ℕ) → length paces ≡ length ss → AllShown plan place ss (new_members lens place ss paces) (leads_from plan.services place ss)
  first_shown place [] paces e = tt
  first_shown place (s ∷ ss) [] e = absurd (cc)
  first_shown place (s ∷ ss) (pace ∷ paces) e = (
    record { is = record { services = refl; clearing = refl; plan = refl; spot = refl; first = refl }; lived = refl; script = refl },
    first_shown (suc place) ss paces (let f : length paces ≡ length ss = cc in f),
  )

  begins : AreLived plan [] (first_leads plan)
  begins = record {
    members = members_of plan;
    lives = subst (λ (ring : RingState (Node Serving)). IsRing lens step (FitsPlan plan.slaves) [] ring (members_of plan)) (laws.runs plan is) (laws.begins plan is (macs_in plan.slaves known.macs));
    led = laws.led plan is (macs_in plan.slaves known.macs);
    shown = first_shown 0 plan.slaves plan.paces is.laid.paces;
  }

  boots : AllBoot plan.services 0 plan.slaves
  boots = all_boot (length plan.slaves) plan.slaves [] plan.slaves refl plan.services is.laid.services known.states

  -- by a frame
  module _ (fs : List Exchanged) (missed : ℕ) (as' : List Leads) (f : Exchanged) (ts : List Turn) (x : AreLived plan fs as') (y : IsLedFrame lens (length fs) f.sent as' ts) (w : WentRound (ring_after (ring_of plan) fs) f) where
    abbrev ring : RingState (Node Serving)
    ring = ring_after (ring_of plan) fs

    many : length (all_seen lens fs) ≡ length fs
    many = length-map fs (frame_seen lens)

    turns : AllUnder is_followed is_passed lens (length fs) y.datagrams x.members (map under_of ts)
    turns = all_under plan (all_seen lens fs) (length fs) y.datagrams 0 plan.slaves x.members as' ts x.lives.each x.shown boots y.each

    on : GoesOn is_followed is_passed lens plan.slaves (gives_up_at lens plan.recover plan.retry missed) plan.recover (all_seen lens fs) ring f.sent x.members (map under_of ts)
    on = laws.goes_on is_followed is_passed lens plan.slaves (gives_up_at lens plan.recover plan.retry missed) plan.recover (all_seen lens fs) ring f.sent y.datagrams x.members (map under_of ts)
        y.frame x.lives x.led (subst (λ (made : ℕ). AllUnder is_followed is_passed lens made y.datagrams x.members (map under_of ts)) (sym many) turns)

    frame_is : frame_at lens ring f.sent ≡ frame_seen lens f
    frame_is = λ i. record { sent = seen lens f.sent; fate = fate_seen (sym w.fate i); back = seen lens (sym w.back i) }

    frames_are : all_seen lens fs ++ frame_at lens ring f.sent ∷ [] ≡ all_seen lens (fs ++ f ∷ [])
    frames_are = (λ i. all_seen lens fs ++ frame_is i ∷ []) ∙ sym (map-append (frame_seen lens) fs (f ∷ []))

    goes_on : AreLived plan (fs ++ f ∷ []) (map (Led.led_behind lens plan.recover plan.retry (gives_up_at lens plan.recover plan.retry missed) (length fs) f) ts)
    goes_on = record {
      members = on.behind;
      lives = subst (λ (ring : RingState (Node Serving)). IsRing lens step (FitsPlan plan.slaves) (all_seen lens (fs ++ f ∷ [])) ring on.behind) (sym (one_after (ring_of plan) fs f))
          (subst (λ (gs : List (Frame Body)). IsRing lens step (FitsPlan plan.slaves) gs (behind ring f.sent) on.behind) frames_are on.lives);
      led = on.led;
      shown = all_behind plan (all_seen lens fs) (length fs) y.datagrams (gives_up_at lens plan.recover plan.retry missed) ring f w 0 plan.slaves x.members as' ts on.behind x.lives.each x.shown y.each on.same
          (subst (λ (made : ℕ). AllBehind is_followed is_passed (gives_up_at lens plan.recover plan.retry missed) plan.recover made (frame_at lens ring f.sent) (fate_at ring.lose ring.number) x.members (map under_of ts) on.behind) many on.shown);
    }

  -- THE WHOLE RUN
  pub lives : (fs : List Exchanged) (missed : ℕ) (as' : List Leads) → IsLed lens plan.recover plan.retry (first_leads plan) fs missed as' → AllRound (ring_of plan) fs → AreLived plan fs as'
  lives _ _ _ IsLed.start r = begins
  lives _ _ _ (IsLed.on fs missed as' f ts l y) r = goes_on fs missed as' f ts (lives fs missed as' l (front_round (ring_of plan) fs f r)) y (last_round (ring_of plan) fs f r)
