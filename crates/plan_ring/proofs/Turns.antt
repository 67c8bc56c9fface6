-- WHAT THE MASTER MADE OF A FRAME, slave by slave, is what the law of its ring asks for; and the lives behind it are those that it leads.
use Rattle.std.proofs.Common.{◌≡◌, ℕ, suc, ◌+◌, Bool, true, false, Option, Some, None, List, [], ◌∷◌, map, length, refl, ap, sym, ◌∙◌, subst}
use Rattle.std.specs.Prelude.{if◌then◌else◌, nat_lt, All}
use Rattle.run_frames.specs.of_datagrams.Datagram as Raw
use Rattle.whole_ring.specs.of_frame_view.View.{Lens}
use Rattle.whole_ring.specs.of_frame_view.Seen.{seen}
use Rattle.whole_ring.specs.of_frame_view.Shares.{Lived, lived_back, lived_lost}
use Rattle.whole_ring.specs.of_life_model.Lives.{Spot, life_next}
use Rattle.run_frames.specs.of_life_runs.First.{lens_of}
use Rattle.run_frames.specs.of_life_runs.Led as Led
use Rattle.run_frames.specs.of_life_runs.Led.{Exchanged, Leads, Turn, Comes, IsTurn, AllTurn, is_passed, speech_at, life_behind}
use Rattle.slave_server.specs.of_link_mails.Body.{Body}
use Rattle.run_frames.specs.of_master_duty.Reply.{Reply}
use Rattle.run_frames.specs.of_master_hand.Spoken.{Asked, net, hand_speech, acknowledged, is_followed}
use Rattle.run_frames.specs.of_master_hand.Talk.{asked_of}
use Rattle.plan_ring.specs.Alike.{WishIs}
use Rattle.plan_ring.specs.Asked.{is_service}
use Rattle.plan_ring.specs.Master as Master
use Rattle.plan_ring.specs.Master.{speech_of, lived_of, Under, IsUnder, AllUnder, IsSame, AllSame, AllBehind}
use Rattle.plan_ring.specs.Plan.{PlanMember, FitsPlan, step}
use Rattle.slave_server.specs.of_segment_model.Record.{Frame}
use Rattle.slave_server.specs.of_segment_plan.declared.plan.Scenario.{Scenario}
use Rattle.slave_server.specs.of_segment_plan.declared.service.Service as Plan
use Rattle.slave_server.specs.of_segment_plan.declared.slave.SlaveSpec.{SlaveSpec}
use Rattle.run_frames.specs.of_segment_ring.declared.wire.Fate.{Fate}
use Rattle.run_frames.specs.of_segment_ring.declared.wire.Fate.TheVariants.{Pass, Lost}
use Rattle.run_frames.specs.of_segment_ring.Ring.{RingState}
use Rattle.run_frames.specs.of_segment_ring.Schedule.{fate_at}
use Rattle.slave_server.specs.Serving.{Serving}
use Rattle.slave_server.specs.of_slave_node.Node.{Node}
use Rattle.slave_server.specs.of_state_model.Stated.{Service}
use Rattle.whole_ring.specs.Members.{MemberIs, AllLived}
use Rattle.whole_ring.specs.Turning.{BeginBoots, frame_at}
use Rattle.plan_ring.specs.Lives.{IsShown, AllShown}
use Rattle.plan_ring.specs.Round.{WentRound}
use Rattle.plan_ring.proofs.Known.{Boots, AllBoot, all_at}

-- A SERVICE OF A SCRIPT is one of the slave's
abbrev served : Option Asked → Bool
served None = true
served (Some q) = is_service q

room_served : (b : Bool) (block : List ℕ) → served (if b then None else Some (net (Rattle.slave_server.specs.of_protocol_models.EoeClient.set_ip block))) ≡ true
room_served true block = refl
room_served false block = refl

all_served : (room : ℕ) (s : Plan.Service) → served (asked_of room s) ≡ true
all_served room (Plan.Service.Sdo service) = refl
all_served room (Plan.Service.ReadFile name pass) = refl
all_served room (Plan.Service.WriteFile name pass bytes) = refl
all_served room (Plan.Service.ReadIdn number idn elements) = refl
all_served room (Plan.Service.WriteIdn number idn elements bytes) = refl
all_served room (Plan.Service.SetIp block) = room_served (nat_lt room (length block + 10)) block
all_served room Plan.Service.GetIp = refl
all_served room (Plan.Service.State target) = refl
all_served room (Plan.Service.Forward packet) = refl

asked_is : (room : ℕ) (s : Plan.Service) (q : Asked) → asked_of room s ≡ Some q → is_service q ≡ true
asked_is room s q e = ap served (sym e) ∙ all_served room s

-- SO WHAT COMES INTO HAND is one, and asks for no state that the slave lacks
pub wish_is : (room : ℕ) (script : List Plan.Service) (n : ℕ) (b : Option (Service Asked)) (k : ℕ) → Comes room script n b k → WishIs is_service b
wish_is room script n _ _ Comes.none = tt
wish_is room script n _ _ (Comes.mails s q at asked) = asked_is room s q asked
wish_is room script n _ _ (Comes.state target at) = tt
wish_is room script n _ _ (Comes.packet octets frame) = refl

pub boots_is : (boot : Bool) (room : ℕ) (script : List Plan.Service) (n : ℕ) (b : Option (Service Asked)) (k : ℕ) → All (Boots boot) script → Comes room script n b k → BeginBoots boot b
boots_is boot room script n _ _ all Comes.none = tt
boots_is boot room script n _ _ all (Comes.mails s q at asked) = tt
boots_is boot room script n _ _ all (Comes.state target at) = all_at (Boots boot) script n (Plan.Service.State target) all at
boots_is boot room script n _ _ all (Comes.packet octets frame) = tt

-- a turn as the ring's law has it
abbrev pub under_of : Turn → Under
under_of t = record { lived = t.lived; share = t.share; news = [] }

module _ (plan : Scenario) where
  abbrev lens : ℕ → Lens
  lens = lens_of plan.slaves

  module _ (fs : List (Frame Body)) (place : ℕ) (s : SlaveSpec) (m : PlanMember) (a : Leads) (i : MemberIs lens step (FitsPlan plan.slaves) fs place m) (x : IsShown plan place s m a) where
    -- what is spoken with the slave
    speech_is : (spot : Spot) → m.spot ≡ spot → speech_of m ≡ speech_at lens spot
    speech_is spot e =
        let there : m.plan.station ≡ spot.station = i.whole.station ∙ ap (λ (s : Spot). s.station) e in
        let out : m.plan.out ≡ (lens spot.station).out = sym (subst (λ (l : ℕ → Lens). (l m.plan.station).out ≡ m.plan.out) i.lens_is i.whole.plan.lens_out) ∙ ap (λ (n : ℕ). (lens n).out) there in
        let back : m.plan.back ≡ (lens spot.station).back = sym (subst (λ (l : ℕ → Lens). (l m.plan.station).back ≡ m.plan.back) i.lens_is i.whole.plan.lens_back) ∙ ap (λ (n : ℕ). (lens n).back) there in
        λ j. hand_speech (record { out = out j; back = back j })

    spot_is : m.spot ≡ a.lived.spot
    spot_is = ap (λ (l : Lived Asked Reply). l.spot) x.lived

    -- its turn
    turn_under : (made : ℕ) (ds : List Raw.Datagram) (t : Turn) → All (Boots s.boot) a.script → IsTurn lens made ds a t → IsUnder is_followed is_passed lens made ds m (under_of t)
    turn_under made ds t boots y =
        let same : m.life ≡ a.lived.life = ap (λ (l : Lived Asked Reply). l.life) x.lived in
        let spoken : speech_of m ≡ speech_at lens a.lived.spot = speech_is a.lived.spot spot_is in
        let boot : s.boot ≡ m.services.boot = sym (ap (λ w. w.boot) x.is.services) in
        record {
          next = record {
            pick = y.next.pick;
            spot = y.next.spot ∙ sym spot_is;
            life = y.next.life ∙ sym (λ j. life_next (spoken j) acknowledged is_followed is_passed made (same j) (same j).stand y.next.pick);
          };
          asked = y.asked;
          wish = subst (λ (b : Option (Service Asked)). WishIs is_service b) (sym y.begun) (wish_is (lens a.lived.spot.station).out a.script a.number t.begun t.number y.comes);
          boots = subst (λ (b : Option (Service Asked)). BeginBoots m.services.boot b) (sym y.begun)
              (subst (λ (k : Bool). BeginBoots k t.begun) boot (boots_is s.boot (lens a.lived.spot.station).out a.script a.number t.begun t.number boots y.comes));
        }

    -- and its life behind the frame
    module _ (gives : Bool) (made : ℕ) (ring : RingState (Node Serving)) (f : Exchanged) (w : WentRound ring f) (ds : List Raw.Datagram) (t : Turn) (y : IsTurn lens made ds a t) where
      told : speech_of m ≡ speech_at lens t.lived.spot
      told = speech_is t.lived.spot (spot_is ∙ sym y.next.spot)

      by_fate : (fate : Fate) → Master.led_behind is_followed is_passed gives plan.recover made (frame_at lens ring f.sent) fate m (under_of t) ≡ life_behind lens plan.recover plan.retry gives made f fate t.lived t.share
      by_fate Pass = λ j. lived_back (told j) acknowledged is_followed is_passed made (seen lens (sym w.back j)) t.lived t.share []
      by_fate (Lost after) = λ j. lived_lost (told j) acknowledged is_followed is_passed gives plan.recover made (seen lens f.sent) t.lived t.share []

      one_behind : (n : PlanMember) → IsSame m n → lived_of n ≡ Master.led_behind is_followed is_passed gives plan.recover made (frame_at lens ring f.sent) (fate_at ring.lose ring.number) m (under_of t) →
          IsShown plan place s n (Led.led_behind lens plan.recover plan.retry gives made f t)
      one_behind n same shown = record {
        is = record { services = same.services ∙ x.is.services; clearing = same.clearing ∙ x.is.clearing; plan = same.plan ∙ x.is.plan; spot = same.spot ∙ x.is.spot; first = same.first ∙ x.is.first };
        lived = shown ∙ by_fate (fate_at ring.lose ring.number) ∙ ap (λ (fate : Fate). life_behind lens plan.recover plan.retry gives made f fate t.lived t.share) (sym w.fate);
        script = y.script ∙ x.script;
      }

  -- ALL SLAVES
  module _ (fs : List (Frame Body)) (made : ℕ) (ds : List Raw.Datagram) where
    pub all_under : (place : ℕ) (ss : List SlaveSpec) (ms : List PlanMember) (as' : List Leads) (ts : List Turn) → AllLived lens step (FitsPlan plan.slaves) fs place ms → AllShown plan place ss ms as' → AllBoot plan.services place ss → AllTurn lens made ds as' ts →
        AllUnder is_followed is_passed lens made ds ms (map under_of ts)
    all_under place [] [] [] [] i x b y = tt
    all_under place [] [] [] (t ∷ ts) i x b y = absurd y
    all_under place [] [] (a ∷ as') ts i x b y = absurd x
    all_under place [] (m ∷ ms) as' ts i x b y = absurd x
    all_under place (s ∷ ss) [] as' ts i x b y = absurd x
    all_under place (s ∷ ss) (m ∷ ms) [] ts i x b y = absurd x
    all_under place (s ∷ ss) (m ∷ ms) (a ∷ as') [] i x b y = absurd y
    all_under place (s ∷ ss) (m ∷ ms) (a ∷ as') (t ∷ ts) i x b y = (
      turn_under fs place s m a i.0 x.0 made ds t (subst (λ (script : List Plan.Service). All (Boots s.boot) script) (sym x.0.script) b.0) y.0,
      all_under (suc place) ss ms as' ts i.1 x.1 b.1 y.1,
    )

    pub all_behind : (gives : Bool) (ring : RingState (Node Serving)) (f : Exchanged) → WentRound ring f → (place : ℕ) (ss : List SlaveSpec) (ms : List PlanMember) (as' : List Leads) (ts : List Turn) (ns : List PlanMember) →
        AllLived lens step (FitsPlan plan.slaves) fs place ms → AllShown plan place ss ms as' → AllTurn lens made ds as' ts → AllSame ms ns →
        AllBehind is_followed is_passed gives plan.recover made (frame_at lens ring f.sent) (fate_at ring.lose ring.number) ms (map under_of ts) ns →
        AllShown plan place ss ns (map (Led.led_behind lens plan.recover plan.retry gives made f) ts)
    all_behind gives ring f w place [] [] [] [] [] i x y same shown = tt
    all_behind gives ring f w place [] [] [] [] (n ∷ ns) i x y same shown = absurd same
    all_behind gives ring f w place [] [] [] (t ∷ ts) ns i x y same shown = absurd y
    all_behind gives ring f w place [] [] (a ∷ as') ts ns i x y same shown = absurd x
    all_behind gives ring f w place [] (m ∷ ms) as' ts ns i x y same shown = absurd x
    all_behind gives ring f w place (s ∷ ss) [] as' ts ns i x y same shown = absurd x
    all_behind gives ring f w place (s ∷ ss) (m ∷ ms) [] ts ns i x y same shown = absurd x
    all_behind gives ring f w place (s ∷ ss) (m ∷ ms) (a ∷ as') [] ns i x y same shown = absurd y
    all_behind gives ring f w place (s ∷ ss) (m ∷ ms) (a ∷ as') (t ∷ ts) [] i x y same shown = absurd same
    all_behind gives ring f w place (s ∷ ss) (m ∷ ms) (a ∷ as') (t ∷ ts) (n ∷ ns) i x y same shown = (
      one_behind fs place s m a i.0 x.0 gives made ring f w ds t y.0 n same.0 shown.0,
      all_behind gives ring f w (suc place) ss ms as' ts ns i.1 x.1 y.1 same.1 shown.1,
    )
