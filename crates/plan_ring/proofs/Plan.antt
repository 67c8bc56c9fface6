-- A PLAN'S RING is switched on: each of its slaves is new, and passes what its ring asks for.
use Rattle.std.proofs.Common.{◌≡◌, ◌⊎◌, inl, inr, ℕ, suc, ◌+◌, ◌<◌, ◌≤◌, ◌==◌, ◌&&◌, ◌||◌, All, Bool, true, false, List, [], ◌∷◌, ◌++◌, map, length, refl, ap, sym, ◌∙◌, subst, arith}
use Rattle.std.specs.Prelude.{Some, if◌then◌else◌}
use Rattle.std.proofs.lemmas.Bool.{ne_eqb, eqb-true, eq-eqb}
use Rattle.whole_ring.specs.of_frame_view.View.{Lens}
use Rattle.slave_server.specs.of_link_mails.Body.{Body}
use Rattle.whole_ring.specs.of_life_model.Lives.{Spot}
use Rattle.whole_ring.specs.of_life_model.Tours.{item_at}
use Rattle.std.proofs.lemmas.List.Elements.{All-head, All-tail}
use Rattle.slave_server.specs.of_segment_plan.Sound.{is_start, IsSlave}
use Rattle.slave_server.specs.of_segment_plan.Sound as Plan
use Rattle.slave_server.specs.of_segment_plan.declared.plan.Scenario.{Scenario}
use Rattle.slave_server.specs.of_segment_plan.declared.slave.SlaveSpec.{SlaveSpec}
use Rattle.slave_server.specs.of_slave_model.Profile.{Profile, IsProfile}
use Rattle.whole_ring.specs.of_slave_lives.Opening.{Plan, IsPlan}
use Rattle.slave_server.specs.Serving.{Serving}
use Rattle.slave_server.specs.Spec.{profile_of, server_of, node_of}
use Rattle.slave_server.specs.of_slave_node.Node.{Node}
use Rattle.plan_ring.specs.Real.{real, running_as, real_clearing, StepsAs}
use Rattle.plan_ring.specs.Rooms.{IsSound}
use Rattle.whole_ring.specs.of_slave_lives.Nodes.{GivesPlaced}
use Rattle.whole_ring.specs.Whole.{OwesLaws}
use Rattle.whole_ring.specs.Members as Ring
use Rattle.whole_ring.specs.Members.{Serves, IsNew, AllNew, IsRing, first_ring}
use Rattle.whole_ring.proofs.Begins.{ring_begins}
use Rattle.run_frames.proofs.of_life_runs.First.{apart_from}
use Rattle.plan_ring.specs.Asked.{asked}
use Rattle.plan_ring.proofs.Valid.{core_is_valid}
use Rattle.plan_ring.specs.Plan.{PlanMember, plan_of, spot_of, new_member, new_members, step, FitsPlan, IsPlanned, AllPlanned, AllMacs, lens_of, members_of, IsElsewhere, AreApart}

-- what the laws of the real services say
pub record Laws : Type 0 where
  pub whole : (p : Profile) → IsProfile p → (boot : Bool) (lens : ℕ → Lens) (plan : Plan) (spot : Spot) → IsPlan boot lens plan → plan.station ≡ spot.station → plan.start ≡ spot.start → OwesLaws (asked p boot lens) real_clearing plan spot
  pub steps : (p : Profile) (n : Node Serving) → n.server.profile ≡ p → StepsAs p n
  pub takes : (p : Profile) → IsProfile p → (al : ℕ) (s : Serving) (b : Body) → IsSound p s → IsSound p ((running_as p).take s b al)
  pub gives : (p : Profile) (s : Serving) → IsSound p s → IsSound p ((running_as p).rest s)
  pub clears : (p : Profile) (s : Serving) → IsSound p s → IsSound p ((running_as p).clear s)
  pub placed : (p : Profile) (s : Serving) → IsSound p s → GivesPlaced (running_as p) p.back s
  pub ready : (p : Profile) (boot : Bool) (lens : ℕ → Lens) (al : ℕ) (s : Serving) → IsSound p s → (running_as p).clear s ≡ s → (real p boot lens).exchange.ready ((real p boot lens).sees al s).server ≡ true

pub start_is : (boot : Bool) (start : ℕ) → is_start boot start ≡ true → (start ≡ 2) ⊎ ((start ≡ 3) × (boot ≡ true))
start_is boot start e = go (start == 2) refl boot refl
  where
    go : (a : Bool) → (start == 2) ≡ a → (b : Bool) → boot ≡ b → (start ≡ 2) ⊎ ((start ≡ 3) × (boot ≡ true))
    go true f b g = inl (eqb-true start 2 f)
    go false f true g = inr (eqb-true start 3 (let h : (start == 2 || (boot && start == 3)) ≡ true = e in (λ i. (sym f i || (sym g i && start == 3))) ∙ h), g)
    go false f false g = absurd (let h : (start == 2 || (boot && start == 3)) ≡ true = e in let k : false ≡ true = (λ i. (sym f i || (sym g i && start == 3))) ∙ h in cc)

module _ (laws : Laws) (lens : ℕ → Lens) (all : List SlaveSpec) where
  profile_is : (s : SlaveSpec) → IsPlanned lens s → IsProfile (profile_of s)
  profile_is s x = record { out_least = x.slave.out_least; out_most = x.slave.out_most; back_least = x.slave.in_least; back_most = x.slave.in_most; mac = x.mac }

  plan_is : (s : SlaveSpec) → IsPlanned lens s → IsPlan s.boot lens (plan_of s)
  plan_is s x = record {
    station = (let e = x.slave.station_fits in omega (arith, e));
    out = (let e = x.slave.out_most in omega (arith, e));
    back = (let e = x.slave.in_most in omega (arith, e));
    start = start_is s.boot s.start x.slave.start;
    lens_out = x.out;
    lens_back = x.back;
  }

  -- the server at a place is that of the plan's slave there
  module _ (place : ℕ) (s : SlaveSpec) (at : item_at place all ≡ Some s) (x : IsPlanned lens s) where
    same_spec : (t : SlaveSpec) → item_at place all ≡ Some t → t ≡ s
    same_spec t e = let f : Some t ≡ Some s = sym e ∙ at in cc

    sound_in : (k : Serving) → FitsPlan all (spot_of place s) k → IsSound (profile_of s) k
    sound_in k f = subst (λ (t : SlaveSpec). IsSound (profile_of t) k) (same_spec f.spec f.at) f.sound

    fits_in : (k : Serving) → IsSound (profile_of s) k → FitsPlan all (spot_of place s) k
    fits_in k i = record { spec = s; at = at; sound = i }

    serves : Serves step (FitsPlan all (spot_of place s)) (asked (profile_of s) s.boot lens) s.in_len
    serves = record {
      takes = λ k b al f. fits_in ((running_as (profile_of s)).take k b al) (laws.takes (profile_of s) (profile_is s x) al k b (sound_in k f));
      gives = λ k f. fits_in ((running_as (profile_of s)).rest k) (laws.gives (profile_of s) k (sound_in k f));
      clears = λ k f. fits_in ((running_as (profile_of s)).clear k) (laws.clears (profile_of s) k (sound_in k f));
      placed = λ k f. laws.placed (profile_of s) k (sound_in k f);
      ready = λ al k f cleared. laws.ready (profile_of s) s.boot lens al k (sound_in k f) cleared;
      steps = λ n f. (laws.steps (profile_of s) n (sound_in n.server f).profile).step;
    }

    begins : IsSound (profile_of s) (server_of s)
    begins = record { profile = refl; waiting = tt; block = (let e = x.slave.in_least in omega (arith, e)); valid = core_is_valid s x.slave; file = tt }

    new_one : (pace : ℕ) → IsNew lens step (FitsPlan all) place (new_member lens place s pace)
    new_one pace = record {
      server = server_of s;
      al = 1;
      whole = (laws.whole (profile_of s) (profile_is s x) s.boot lens (plan_of s) (spot_of place s) (plan_is s x) refl refl).whole;
      at = refl;
      lens_is = refl;
      named = ne_eqb 0 s.station (λ (e : 0 ≡ s.station). let f = x.slave.some_station in omega (arith, e, f));
      serves = serves;
      fits_is = fits_in (server_of s) begins;
      cleared = refl;
      quiet = refl;
      first = refl;
      life = refl;
      node = refl;
    }

  item_behind : (bs : List SlaveSpec) (s : SlaveSpec) (ss : List SlaveSpec) → item_at (length bs) (bs ++ s ∷ ss) ≡ Some s
  item_behind [] s ss = refl
  item_behind (b ∷ bs) s ss = item_behind bs s ss

  joined : (bs : List SlaveSpec) (s : SlaveSpec) (ss : List SlaveSpec) → (bs ++ s ∷ []) ++ ss ≡ bs ++ s ∷ ss
  joined [] s ss = refl
  joined (b ∷ bs) s ss = ap (λ l. b ∷ l) (joined bs s ss)

  one_more : (bs : List SlaveSpec) (s : SlaveSpec) → length (bs ++ s ∷ []) ≡ suc (length bs)
  one_more [] s = refl
  one_more (b ∷ bs) s = ap suc (one_more bs s)

  all_new : (bs ss : List SlaveSpec) (paces : List ℕ) → bs ++ ss ≡ all → AllPlanned lens ss → AllNew lens step (FitsPlan all) (length bs) (new_members lens (length bs) ss paces)
  all_new bs [] paces e xs = tt
  all_new bs (s ∷ ss) [] e xs = tt
  all_new bs (s ∷ ss) (pace ∷ paces) e xs = (
    new_one (length bs) s (ap (item_at (length bs)) (sym e) ∙ item_behind bs s ss) xs.0 pace,
    subst (λ (k : ℕ). AllNew lens step (FitsPlan all) k (new_members lens k ss paces)) (one_more bs s) (all_new (bs ++ s ∷ []) ss paces (joined bs s ss ∙ e) xs.1),
  )

  few_members : (place : ℕ) (ss : List SlaveSpec) (paces : List ℕ) → length (new_members lens place ss paces) ≤ length ss
  few_members place [] paces = omega arith
  few_members place (s ∷ ss) [] = omega arith
  few_members place (s ∷ ss) (pace ∷ paces) = let e = few_members (suc place) ss paces in omega (arith, e)

  elsewhere_in : (station place : ℕ) (ss : List SlaveSpec) (paces : List ℕ) → IsElsewhere station ss → Ring.IsElsewhere station (new_members lens place ss paces)
  elsewhere_in station place [] paces other = tt
  elsewhere_in station place (s ∷ ss) [] other = tt
  elsewhere_in station place (s ∷ ss) (pace ∷ paces) other = (other.0, elsewhere_in station (suc place) ss paces other.1)

  distinct_in : (place : ℕ) (ss : List SlaveSpec) (paces : List ℕ) → AreApart ss → Ring.AreDistinct (new_members lens place ss paces)
  distinct_in place [] paces apart = tt
  distinct_in place (s ∷ ss) [] apart = tt
  distinct_in place (s ∷ ss) (pace ∷ paces) apart = (elsewhere_in s.station (suc place) ss paces apart.0, distinct_in (suc place) ss paces apart.1)

  -- ITS RING
  pub plan_begins : (lose : List (ℕ × ℕ)) (paces : List ℕ) → length all < 17 → AreApart all → AllPlanned lens all → IsRing lens step (FitsPlan all) [] (first_ring lose (new_members lens 0 all paces)) (new_members lens 0 all paces)
  plan_begins lose paces few apart xs =
      ring_begins lens step (FitsPlan all) lose (new_members lens 0 all paces) (let e = few_members 0 all paces in omega (arith, e, few)) (distinct_in 0 all paces apart) (all_new [] all paces refl xs)

-- and that ring is the one that runs
same_nodes : (lens : ℕ → Lens) (place : ℕ) (ss : List SlaveSpec) (paces : List ℕ) → length paces ≡ length ss → map (λ (m : PlanMember). m.node) (new_members lens place ss paces) ≡ map node_of ss
same_nodes lens place [] paces e = refl
same_nodes lens place (s ∷ ss) [] e = absurd (cc)
same_nodes lens place (s ∷ ss) (pace ∷ paces) e = ap (λ l. node_of s ∷ l) (same_nodes lens (suc place) ss paces (let f : length paces ≡ length ss = cc in f))

same_paces : (lens : ℕ → Lens) (place : ℕ) (ss : List SlaveSpec) (paces : List ℕ) → length paces ≡ length ss → map (λ (m : PlanMember). m.pace) (new_members lens place ss paces) ≡ paces
same_paces lens place [] [] e = refl
same_paces lens place [] (pace ∷ paces) e = absurd (cc)
same_paces lens place (s ∷ ss) [] e = absurd (cc)
same_paces lens place (s ∷ ss) (pace ∷ paces) e = ap (λ l. pace ∷ l) (same_paces lens (suc place) ss paces (let f : length paces ≡ length ss = cc in f))

pub same_ring : (lens : ℕ → Lens) (lose : List (ℕ × ℕ)) (ss : List SlaveSpec) (paces : List ℕ) → length paces ≡ length ss → first_ring lose (new_members lens 0 ss paces) ≡ record { nodes = map node_of ss; paces = paces; lose = lose; number = 0 }
same_ring lens lose ss paces e = λ i. record { nodes = same_nodes lens 0 ss paces e i; paces = same_paces lens 0 ss paces e i; lose = lose; number = 0 }

-- ---- OF A WHOLE PLAN
-- the lengths at a station are those of its slave
further : (s : SlaveSpec) (all ss : List SlaveSpec) → IsElsewhere s.station ss → AllPlanned (lens_of all) ss → AllPlanned (lens_of (s ∷ all)) ss
further s all [] other xs = tt
further s all (t ∷ ts) other xs =
    let same : lens_of (s ∷ all) t.station ≡ lens_of all t.station = ap (λ (b : Bool). if b then record { out = s.out_len; back = s.in_len } else lens_of all t.station) other.0 in
    (record { slave = xs.0.slave; mac = xs.0.mac; out = ap (λ (l : Lens). l.out) same ∙ xs.0.out; back = ap (λ (l : Lens). l.back) same ∙ xs.0.back }, further s all ts other.1 xs.1)

pub all_planned : (ss : List SlaveSpec) → AreApart ss → All IsSlave ss → AllMacs ss → AllPlanned (lens_of ss) ss
all_planned [] apart slaves macs = tt
all_planned (s ∷ ss) apart slaves macs =
    let here : lens_of (s ∷ ss) s.station ≡ record { out = s.out_len; back = s.in_len } = ap (λ (b : Bool). if b then record { out = s.out_len; back = s.in_len } else lens_of ss s.station) (eq-eqb s.station s.station refl) in (
      record { slave = All-head IsSlave s ss slaves; mac = macs.0; out = ap (λ (l : Lens). l.out) here; back = ap (λ (l : Lens). l.back) here },
      further s ss ss apart.0 (all_planned ss apart.1 (All-tail IsSlave s ss slaves) macs.1),
    )

pub whole_plan_begins : Laws → (plan : Scenario) → Plan.IsPlan plan → AllMacs plan.slaves → IsRing (lens_of plan.slaves) step (FitsPlan plan.slaves) [] (first_ring plan.lose (members_of plan)) (members_of plan)
whole_plan_begins laws plan is macs =
    let apart = apart_from [] 0 plan.slaves is.stations in
    plan_begins laws (lens_of plan.slaves) plan.slaves plan.lose plan.paces (let e = is.laid.few_slaves in omega (arith, e)) apart (all_planned plan.slaves apart is.laid.slaves macs)

pub whole_plan_runs : (plan : Scenario) → Plan.IsPlan plan → first_ring plan.lose (members_of plan) ≡ record { nodes = map node_of plan.slaves; paces = plan.paces; lose = plan.lose; number = 0 }
whole_plan_runs plan is = same_ring (lens_of plan.slaves) plan.lose plan.slaves plan.paces is.laid.paces
