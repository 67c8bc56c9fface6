-- A SERVING BEGINS with its plan's slaves as they are switched on, of which a run has the same ring.
use Rattle.std.proofs.Common.{◌≡◌, ◌≤◌, ℕ, suc, ◌&&◌, Bool, true, List, [], ◌∷◌, map, length, refl, ap, ap₂, sym, ◌∙◌, arith}
use Rattle.std.specs.Prelude.{None, All}
use Rattle.std.proofs.lemmas.List.Elements.{All-head, All-tail}
use Rattle.run_work.specs.of_slave_parts.FoeServed.{has_its_room}
use Rattle.run_work.specs.of_frame_view.View.{Lens}
use Rattle.served_rings.proofs.Stood as Stood
use Rattle.served_rings.specs.StoodLives.{AllStoodMembers, IsFirst, StoodMember, others}
use Rattle.served_places.specs.of_life_runs.First.{first_leads, leads_from, lens_of, script_for, spot_of}
use Rattle.served_places.specs.of_life_runs.Led.{new_leads}
use Rattle.run_work.specs.of_master_hand.Spoken.{Asked, sdo, file, drive, net, passed, is_followed, is_passed}
use Rattle.run_work.specs.of_plan_ring.Lives.{IsKnown}
use Rattle.run_work.specs.of_plan_ring.Plan.{AllMacs, FitsPlan, members_of, new_member, new_members, step}
use Rattle.run_work.proofs.of_plan_ring.Asked.{alike}
use Rattle.run_work.proofs.of_plan_ring.Known.{macs_in}
use Rattle.served_rings.specs.Speakers.{spoken, spoken_states}
use Rattle.run_work.specs.of_segment_plan.Sound as Plan
use Rattle.run_work.specs.of_segment_plan.Sound.{IsSlave}
use Rattle.run_work.specs.of_segment_plan.declared.plan.Scenario.{Scenario}
use Rattle.run_work.specs.of_segment_plan.declared.service.Service as Row
use Rattle.run_work.specs.of_segment_plan.declared.slave.SlaveSpec.{SlaveSpec}
use Rattle.served_rings.specs.Serves.{serves}
use Rattle.served_places.specs.of_life_runs.Served.{Serves, all_serve, new_serves}
use Rattle.run_work.specs.of_plan_ring.Rooms.{IsSound}
use Rattle.run_work.specs.of_slave_lives.Lived.{IsBehind}
use Rattle.run_work.specs.of_slave_model.Profile.{Profile, IsProfile}
use Rattle.run_work.specs.of_slave_model.Application.{station_files, station_valid}
use Rattle.run_work.specs.of_slave_parts.Parts.{parts}
use Rattle.run_work.specs.of_slave_server.Serving.{Serving, cleared}
use Rattle.run_work.specs.of_slave_server.Spec.{node_of, profile_of, server_of}
use Rattle.run_work.specs.of_slave_node.Node.{Node}
use Rattle.served_places.specs.of_state_model.Stated.{IsStated}
use Rattle.run_work.specs.of_whole_ring.Whole.{IsWhole}
use Rattle.run_work.proofs.of_whole_ring.WholeTurning as Turning
use Rattle.run_work.specs.of_whole_ring.Members.{MemberIs, AllLived, AreDistinct, IsElsewhere, IsRing, first_ring}
use Rattle.served_rings.specs.Rings.{AllServedAt, AreStoodLived, ServedMember, counters_of, served_member, served_members}

-- the laws that this stands on
pub record Laws : Type 0 where
  pub ring : (plan : Scenario) → Plan.IsPlan plan → AllMacs plan.slaves → IsRing (lens_of plan.slaves) step (FitsPlan plan.slaves) [] (first_ring plan.lose (members_of plan)) (members_of plan)
  pub behind : (p : Profile) (boot : Bool) (lens : ℕ → Lens) → IsBehind (serves p boot lens)
  pub stated : (p : Profile) → IsProfile p → IsStated (spoken p) spoken_states

both_true : (a b : Bool) → a ≡ true → b ≡ true → (a && b) ≡ true
both_true a b e f = ap₂ (λ (x y : Bool). x && y) e f

-- a cleared server is one of which the laws speak
served_ready : (p : Profile) (k : Serving) → IsSound p k → cleared k ≡ k → (station_valid parts k.server.app && has_its_room (station_files parts 0) k.server.app k.server.file) ≡ true
served_ready p k sound e = both_true (station_valid parts k.server.app) (has_its_room (station_files parts 0) k.server.app k.server.file) sound.valid (ap (λ (z : Serving). has_its_room (station_files parts 0) z.server.app z.server.file) (sym e))

module _ (laws : Laws) (lens : ℕ → Lens) (all : List SlaveSpec) (rows : List (ℕ × Row.Service)) where
  -- ONE SLAVE, by what a run has of it
  module _ (place : ℕ) (s : SlaveSpec) (pace : ℕ) (profile : IsProfile (profile_of s)) (i : MemberIs lens step (FitsPlan all) [] place (new_member lens place s pace)) where
    abbrev w : Serves
    w = new_serves pace (new_leads (script_for place rows) (spot_of place s))

    abbrev m : ServedMember
    m = served_member lens place s w (node_of s)

    -- without a mail no service ends
    none : (q : Asked) → m.services.exchange.speech.ends q [] ≡ None
    none (sdo q) = (alike (profile_of s) s.boot lens).ends (sdo q) [] refl ∙ i.whole.none (sdo q)
    none (file q) = (alike (profile_of s) s.boot lens).ends (file q) [] refl ∙ i.whole.none (file q)
    none (drive q) = (alike (profile_of s) s.boot lens).ends (drive q) [] refl ∙ i.whole.none (drive q)
    none (net q) = (alike (profile_of s) s.boot lens).ends (net q) [] refl ∙ i.whole.none (net q)
    none (passed x) = refl

    whole : IsWhole m.services m.clearing m.plan m.spot
    whole = record {
      behind = laws.behind (profile_of s) s.boot lens;
      none = none;
      stated = laws.stated (profile_of s) profile;
      tells = λ state v. refl;
      clears = record { clearing = λ v. refl; seen = λ al k. refl };
      plan = i.whole.plan;
      station = i.whole.station;
      start = i.whole.start;
    }

    pub member_new : MemberIs lens step (FitsPlan all) [] place m
    member_new = record {
      whole = whole;
      lived = Turning.begins m.services m.clearing m.plan m.spot whole 1 (server_of s) refl refl;
      at = i.at;
      lens_is = refl;
      named = i.named;
      serves = record {
        takes = i.serves.takes;
        gives = i.serves.gives;
        clears = i.serves.clears;
        placed = i.serves.placed;
        ready = λ al k f is. served_ready (profile_of f.spec) k f.sound is;
        steps = i.serves.steps;
      };
      server = i.server;
      room = i.room;
      boots = tt;
    }

    pub led_new : (stood : ℕ → Node Serving → Type 0) → StoodMember is_followed is_passed stood [] m (counters_of w)
    led_new stood = Stood.begins m.services m.clearing m.plan m.spot whole is_followed is_passed stood 1 (server_of s) w.kept w.counts refl refl

  -- ALL OF THEM
  abbrev ws : ℕ → List SlaveSpec → List ℕ → List Serves
  ws place ss paces = all_serve paces (leads_from rows place ss)

  abbrev ms : ℕ → List SlaveSpec → List ℕ → List ServedMember
  ms place ss paces = served_members lens place ss (ws place ss paces) (map node_of ss)

  record AllNew (place : ℕ) (ss : List SlaveSpec) (paces : List ℕ) : Type 0 where
    pub lived : AllLived lens step (FitsPlan all) [] place (ms place ss paces)
    pub led : (stood : ℕ → List (Node Serving)) → AllStoodMembers is_followed is_passed stood [] (ms place ss paces) (map counters_of (ws place ss paces))
    pub nodes : map (λ (m : ServedMember). m.node) (ms place ss paces) ≡ map node_of ss
    pub paces_are : map (λ (m : ServedMember). m.pace) (ms place ss paces) ≡ paces
    pub few : length (ms place ss paces) ≤ length ss

  all_new : (place : ℕ) (ss : List SlaveSpec) (paces : List ℕ) → length paces ≡ length ss → All IsSlave ss → AllMacs ss → AllLived lens step (FitsPlan all) [] place (new_members lens place ss paces) → AllNew place ss paces
  all_new place [] [] e slaves macs lived = record { lived = tt; led = λ stood. tt; nodes = refl; paces_are = refl; few = omega arith }
  all_new place [] (pace ∷ paces) e slaves macs lived = absurd (cc)
  all_new place (s ∷ ss) [] e slaves macs lived = absurd (cc)
  all_new place (s ∷ ss) (pace ∷ paces) e slaves macs lived =
      let here = All-head IsSlave s ss slaves in
      let profile : IsProfile (profile_of s) = record { out_least = here.out_least; out_most = here.out_most; back_least = here.in_least; back_most = here.in_most; mac = macs.0 } in
      let rest = all_new (suc place) ss paces (let f : length paces ≡ length ss = cc in f) (All-tail IsSlave s ss slaves) macs.1 lived.1 in
      record {
        lived = (member_new place s pace profile lived.0, rest.lived);
        led = λ stood. (led_new place s pace profile lived.0 (IsFirst stood), rest.led (others stood));
        nodes = ap (λ l. node_of s ∷ l) rest.nodes;
        paces_are = ap (λ l. pace ∷ l) rest.paces_are;
        few = (let n = rest.few in omega (arith, n));
      }

  elsewhere_as : (station place : ℕ) (ss : List SlaveSpec) (paces : List ℕ) → length paces ≡ length ss → IsElsewhere station (new_members lens place ss paces) → IsElsewhere station (ms place ss paces)
  elsewhere_as station place [] [] e other = tt
  elsewhere_as station place [] (pace ∷ paces) e other = tt
  elsewhere_as station place (s ∷ ss) [] e other = absurd (cc)
  elsewhere_as station place (s ∷ ss) (pace ∷ paces) e other = (other.0, elsewhere_as station (suc place) ss paces (let f : length paces ≡ length ss = cc in f) other.1)

  distinct_as : (place : ℕ) (ss : List SlaveSpec) (paces : List ℕ) → length paces ≡ length ss → AreDistinct (new_members lens place ss paces) → AreDistinct (ms place ss paces)
  distinct_as place [] [] e distinct = tt
  distinct_as place [] (pace ∷ paces) e distinct = tt
  distinct_as place (s ∷ ss) [] e distinct = absurd (cc)
  distinct_as place (s ∷ ss) (pace ∷ paces) e distinct =
      let long : length paces ≡ length ss = cc in
      (elsewhere_as s.station (suc place) ss paces long distinct.0, distinct_as (suc place) ss paces long distinct.1)

served_at : (plan : Scenario) (place : ℕ) (ss : List SlaveSpec) (paces : List ℕ) → length paces ≡ length ss → AllServedAt plan place ss (all_serve paces (leads_from plan.services place ss)) (map node_of ss)
served_at plan place [] [] e = tt
served_at plan place [] (pace ∷ paces) e = absurd (cc)
served_at plan place (s ∷ ss) [] e = absurd (cc)
served_at plan place (s ∷ ss) (pace ∷ paces) e = (record { spot = refl; script = refl }, served_at plan (suc place) ss paces (let f : length paces ≡ length ss = cc in f))

-- THE SERVING BEGINS
pub served_begins : Laws → (plan : Scenario) → Plan.IsPlan plan → IsKnown plan → (stood : ℕ → List (Node Serving)) → AreStoodLived stood plan [] (all_serve plan.paces (first_leads plan))
served_begins laws plan is known stood =
    let lens = lens_of plan.slaves in
    let macs = macs_in plan.slaves known.macs in
    let run = laws.ring plan is macs in
    let new = all_new laws lens plan.slaves plan.services 0 plan.slaves plan.paces is.laid.paces is.laid.slaves macs run.each in
    record {
      nodes = map node_of plan.slaves;
      lives = record {
        few = (let n = new.few in let k = is.laid.few_slaves in omega (arith, n, k));
        nodes = sym new.nodes;
        paces = sym new.paces_are;
        number = refl;
        distinct = distinct_as laws lens plan.slaves plan.services 0 plan.slaves plan.paces is.laid.paces run.distinct;
        each = new.lived;
      };
      led = new.led stood;
      at = served_at plan 0 plan.slaves plan.paces is.laid.paces;
    }
