-- ALL SLAVES OF A PLAN, frame by frame.
use Rattle.std.proofs.Common.{◌≡◌, ℕ, suc, ◌≤◌, nat_lt, ltb-true, Bool, true, All, List, [], ◌∷◌, length, refl, sym, ap, ◌∙◌, subst, arith}
use Rattle.std.specs.Prelude.{sum_by}
use Rattle.std.proofs.lemmas.List.Elements.{All-head, All-tail}
use Rattle.std.proofs.lemmas.List.Sums.{sum_by-append}
use Rattle.packets_heard.specs.of_life_model.Script.{eras_started, life_started}
use Rattle.packets_heard.specs.of_frame_view.View.{Lens}
use Rattle.packets_heard.specs.of_frame_view.Shares.{AllBoth}
use Rattle.packets_heard.specs.of_life_model.Lives.{Spot, Era, Life, Stand}
use Rattle.packets_heard.specs.of_life_runs.First.{lens_of, first_leads}
use Rattle.packets_heard.specs.of_life_runs.Led.{Exchanged, Leads, IsLed}
use Rattle.packets_heard.specs.of_link_mails.Body.{Body}
use Rattle.packets_heard.specs.of_master_duty.Reply.{Reply}
use Rattle.packets_heard.specs.of_master_hand.Spoken.{Asked, sdo, file, drive, net, passed}
use Rattle.packets_heard.specs.Heard.{Joined, Times, IsJoined, joined_in, times_in}
use Rattle.served_rings.specs.of_plan_ring.Asked.{asked, service_of}
use Rattle.served_rings.specs.of_plan_ring.Lives.{IsKnown, IsShown, AllShown, AreLived}
use Rattle.served_rings.specs.of_plan_ring.Master as Master
use Rattle.served_rings.specs.of_plan_ring.Plan.{PlanMember, FitsPlan, step}
use Rattle.served_rings.specs.of_plan_ring.Round.{AllRound, ring_of, all_seen}
use Rattle.packets_heard.specs.of_segment_model.Record.{Frame}
use Rattle.packets_heard.specs.of_segment_plan.Sound.{IsPlan, IsSlave}
use Rattle.packets_heard.specs.of_segment_plan.declared.plan.Scenario.{Scenario}
use Rattle.packets_heard.specs.of_segment_plan.declared.slave.SlaveSpec.{SlaveSpec}
use Rattle.packets_heard.specs.of_protocol_models.CoeMeaning as CoeMeaning
use Rattle.packets_heard.specs.of_protocol_models.Tables.{nowhere}
use Rattle.packets_heard.specs.of_protocol_models.Network.{Station}
use Rattle.served_rings.specs.of_slave_model.Application.{core_valid, station_valid}
use Rattle.served_rings.specs.of_slave_model.Profile.{Protocol, Profile, IsProfile}
use Rattle.served_rings.proofs.of_slave_model.Stations.{left_of, right_of}
use Rattle.served_rings.specs.of_slave_parts.Parts.{Core, parts}
use Rattle.run_promises.specs.Sends.{MaySend, Sends, asked_sends, sends_most, all_most}
use Rattle.packets_heard.specs.of_slave_server.Spec.{profile_of}
use Rattle.packets_heard.specs.of_state_model.Families.{InState}
use Rattle.packets_heard.specs.of_state_model.Stated.{Service}
use Rattle.packets_heard.specs.of_state_model.Promise.{services_in}
use Rattle.served_rings.specs.of_whole_ring.Members.{MemberIs, AllLived}
use Rattle.run_promises.specs.Sent.{AllSend}
use Rattle.run_promises.proofs.Epochs.{Emit, SendSo, Joins, live}
use Rattle.run_promises.proofs.Live.{IsLive, IsTally}
use Rattle.run_promises.proofs.Owns.{own_fragment}
use Rattle.run_promises.proofs.Times.{TracksShut, TracksAs, Weighs, past_more, shut_now, weighs}
use Rattle.run_promises.proofs.Tracked.{AllLive, AllTrack, LiveSo, ReturnsLaw, run_tracks}

-- ---- the services of a plan's slave send so
pub valid_sends : (s : Station Core) → station_valid parts s ≡ true → MaySend s
valid_sends s e =
    let core = left_of (core_valid parts s.app) (nat_lt s.frame 16) e in
    record { table = left_of _ _ core; frame = ltb-true s.frame 16 (right_of (core_valid parts s.app) (nat_lt s.frame 16) e) }

sends_so : (weigh : List ℕ → ℕ) (p : Profile) (boot : Bool) (lens : ℕ → Lens) → Emit weigh p → SendSo weigh p (asked p boot lens)
sends_so weigh p boot lens law = record {
  begins = λ v ready. valid_sends v.inner.app (left_of (station_valid parts v.inner.app) _ ready);
  emits = λ a q may. one a q may;
  stays = λ a q may. law.stays a.state a.inner (service_of q).0 (service_of q).1 may;
  told = λ state a may. may;
  own = own_fragment;
}
  where
    one : (a : InState (Station Core)) (q : Asked) → MaySend a.inner → Sends weigh p.back ((asked p boot lens).exchange.emits a q) (sum_by weigh (asked_sends p q))
    one a (sdo q) may = law.emits a.state a.inner Protocol.CoE q may
    one a (file q) may = law.emits a.state a.inner Protocol.FoE q may
    one a (drive q) may = law.emits a.state a.inner Protocol.SoE q may
    one a (net q) may = law.emits a.state a.inner Protocol.EoE q may
    one a (passed m) may = law.emits a.state a.inner Protocol.CoE (CoeMeaning.upload nowhere) may

-- what the laws say
pub record Laws (weigh : List ℕ → ℕ) : Type 0 where
  pub emit : (p : Profile) → IsProfile p → Emit weigh p
  pub joins : Joins
  pub returns : ReturnsLaw

module _ (weigh : List ℕ → ℕ) (plan : Scenario) (laws : Laws weigh) where
  abbrev lens : ℕ → Lens
  lens = lens_of plan.slaves

  abbrev pub most_of : SlaveSpec → Service Asked → ℕ
  most_of s = sends_most weigh (profile_of s)

  -- ---- each slave, by what its packets weigh
  abbrev pub WeighsOf : SlaveSpec → List (List Body) → List (Era Body Asked Reply) → Type 0
  WeighsOf s = Weighs weigh (most_of s)

  pub weighs_of : (s : SlaveSpec) → IsTally (WeighsOf s)
  weighs_of s = weighs weigh (most_of s)

  abbrev pub LiveOf : List (Frame Body) → SlaveSpec → Leads → Type 0
  LiveOf gs s a = LiveSo plan WeighsOf weighs_of laws.returns gs s a

  abbrev pub AllLiveOf : List (Frame Body) → List SlaveSpec → List Leads → Type 0
  AllLiveOf gs ss as' = AllLive plan WeighsOf weighs_of laws.returns gs ss as'

  abbrev pub AllTrackOf : List (Frame Body) → List SlaveSpec → List Leads → List Times → Type 0
  AllTrackOf gs ss as' ts = AllTrack plan WeighsOf weighs_of laws.returns gs ss as' ts

  one_live : (gs : List (Frame Body)) (place : ℕ) (s : SlaveSpec) (m : PlanMember) (a : Leads) → IsSlave s → length s.mac ≡ 6 → IsShown plan place s m a → MemberIs lens step (FitsPlan plan.slaves) gs place m → Master.IsLed m → LiveOf gs s a
  one_live gs place s m a slave mac shown i led open_ =
      let profile : IsProfile (profile_of s) = record { out_least = slave.out_least; out_most = slave.out_most; back_least = slave.in_least; back_most = slave.in_most; mac = mac } in
      let so : SendSo weigh (profile_of s) m.services = subst (λ w. SendSo weigh (profile_of s) w) (sym shown.is.services) (sends_so weigh (profile_of s) s.boot lens (laws.emit (profile_of s) profile)) in
      let life : m.life ≡ a.lived.life = ap (λ x. x.life) shown.lived in
      let spot : m.spot ≡ a.lived.spot = ap (λ x. x.spot) shown.lived in
      let here = live weigh (profile_of s) slave.in_least laws.joins m.services so m.clearing m.plan m.spot m.first m.life gs m.node (Master.owed m i.whole led) i.lived (ap (λ (l : Life Body Asked Reply). l.stand) life ∙ open_) in
      subst (λ (p : Spot). IsLive (WeighsOf s) p gs a.lived.life) spot (subst (λ (l : Life Body Asked Reply). IsLive (WeighsOf s) m.spot gs l) life here)

  all_live : (gs : List (Frame Body)) (place : ℕ) (ss : List SlaveSpec) (ms : List PlanMember) (as' : List Leads) → All (λ (s : SlaveSpec). IsSlave s) ss → All (λ (s : SlaveSpec). length s.mac ≡ 6) ss → AllShown plan place ss ms as' → AllLived lens step (FitsPlan plan.slaves) gs place ms → Master.AllLed ms → AllLiveOf gs ss as'
  all_live gs place [] [] [] slaves macs shown i led = tt
  all_live gs place [] [] (a ∷ as') slaves macs shown i led = absurd shown
  all_live gs place [] (m ∷ ms) as' slaves macs shown i led = absurd shown
  all_live gs place (s ∷ ss) [] as' slaves macs shown i led = absurd shown
  all_live gs place (s ∷ ss) (m ∷ ms) [] slaves macs shown i led = absurd shown
  all_live gs place (s ∷ ss) (m ∷ ms) (a ∷ as') slaves macs shown i led = (
    one_live gs place s m a (All-head (λ (s : SlaveSpec). IsSlave s) s ss slaves) (All-head (λ (s : SlaveSpec). length s.mac ≡ 6) s ss macs) shown.0 i.0 led.0,
    all_live gs (suc place) ss ms as' (All-tail (λ (s : SlaveSpec). IsSlave s) s ss slaves) (All-tail (λ (s : SlaveSpec). length s.mac ≡ 6) s ss macs) shown.1 i.1 led.1,
  )

  -- ---- BEHIND ALL FRAMES
  one_sent : (gs : List (Frame Body)) (s : SlaveSpec) (a : Leads) (t : Times) (j : Joined) (z : Stand) → a.lived.life.stand ≡ z → TracksAs (WeighsOf s) (weighs_of s) a.lived.spot gs a.lived.life t z → LiveOf gs s a → IsJoined t j → sum_by weigh j.packets ≤ all_most weigh (profile_of s) (life_started a.lived.life)
  one_sent gs s a t j z e k l joined =
      let shut = by z e k in
      omega (arith, shut.all, past_more weigh (most_of s) a.lived.life.past a.lived.life.era, ap (sum_by weigh) joined.packets, sum_by-append (most_of s) (eras_started a.lived.life.past) (services_in a.lived.life.era.account.started))
    where
      by : (z : Stand) → a.lived.life.stand ≡ z → TracksAs (WeighsOf s) (weighs_of s) a.lived.spot gs a.lived.life t z → TracksShut (WeighsOf s) (weighs_of s) a.lived.spot a.lived.life t
      by (Stand.Opens o) e k = k.0
      by Stand.Open e k = shut_now (WeighsOf s) (weighs_of s) a.lived.spot gs a.lived.life t k (l e)
      by Stand.Gone e k = k

  pub all_sent : (gs : List (Frame Body)) (ss : List SlaveSpec) (as' : List Leads) (ts : List Times) (js : List Joined) → AllTrackOf gs ss as' ts → AllLiveOf gs ss as' → AllBoth IsJoined ts js → AllSend weigh ss as' js
  all_sent gs [] [] [] [] k l b = tt
  all_sent gs [] [] [] (j ∷ js) k l b = absurd b
  all_sent gs [] [] (t ∷ ts) js k l b = absurd k
  all_sent gs [] (a ∷ as') ts js k l b = absurd k
  all_sent gs (s ∷ ss) [] ts js k l b = absurd k
  all_sent gs (s ∷ ss) (a ∷ as') [] js k l b = absurd k
  all_sent gs (s ∷ ss) (a ∷ as') (t ∷ ts) [] k l b = absurd b
  all_sent gs (s ∷ ss) (a ∷ as') (t ∷ ts) (j ∷ js) k l b = (one_sent gs s a t j a.lived.life.stand refl k.0 l.0 b.0, all_sent gs ss as' ts js k.1 l.1 b.1)

  -- ---- OVER A RUN
  module _ (is : IsPlan plan) (known : IsKnown plan) (lives : (fs : List Exchanged) (missed : ℕ) (leads : List Leads) → IsLed (lens_of plan.slaves) plan.recover plan.retry (first_leads plan) fs missed leads → AllRound (ring_of plan) fs → AreLived plan fs leads) where
    live_at : (fs : List Exchanged) (missed : ℕ) (as' : List Leads) → IsLed lens plan.recover plan.retry (first_leads plan) fs missed as' → AllRound (ring_of plan) fs → AllLiveOf (all_seen lens fs) plan.slaves as'
    live_at fs missed as' led round =
        let x = lives fs missed as' led round in
        all_live (all_seen lens fs) 0 plan.slaves x.members as' is.laid.slaves known.macs x.shown x.lives.each x.led

    pub sent : (fs : List Exchanged) (missed : ℕ) (as' : List Leads) (led : IsLed lens plan.recover plan.retry (first_leads plan) fs missed as') → AllRound (ring_of plan) fs → AllBoth IsJoined (times_in led) (joined_in led) → AllSend weigh plan.slaves as' (joined_in led)
    sent fs missed as' led round joined = all_sent (all_seen lens fs) plan.slaves as' (times_in led) (joined_in led) (run_tracks plan WeighsOf weighs_of laws.returns (λ fs missed as' led round. live_at fs missed as' led round) fs missed as' led round) (live_at fs missed as' led round) joined
