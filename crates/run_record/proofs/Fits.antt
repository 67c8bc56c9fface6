-- A MAIL THAT FITS THE HOME OF A SLAVE fits its mailbox, in the lives of a serving.
use Rattle.std.proofs.Common.{◌≡◌, ◌≢◌, ◌≤◌, ◌<◌, ◌+◌, ℕ, zero, suc, Some, List, [], ◌∷◌, map, length, refl, sym, ap, ◌∙◌, subst, arith}
use Rattle.std.specs.Prelude.{All, slice_get}
use Rattle.std.proofs.lemmas.List.Elements.{All-head, All-tail}
use Rattle.packets_heard.specs.of_master_node.Lives.{waiting_at, waiting_of}
use Rattle.packets_heard.specs.of_master_node.Serving.{FitsAt}
use Rattle.packets_heard.specs.of_master_node.declared.post.Post.{Post}
use Rattle.plan_ring.specs.of_frame_view.View.{Lens}
use Rattle.served_places.specs.of_life_model.Lives.{Spot}
use Rattle.served_places.specs.of_life_runs.First.{HaveLens, first_leads, leads_from, lens_of, spot_of}
use Rattle.served_places.specs.of_life_runs.Led.{Exchanged}
use Rattle.run_notes.specs.Slaves.{home_of}
use Rattle.run_record.specs.Served.{ServeTo}
use Rattle.run_record.proofs.Heads.{heads, not_none, rests}
use Rattle.packets_heard.specs.of_segment_plan.declared.plan.Scenario.{Scenario}
use Rattle.packets_heard.specs.of_segment_plan.declared.service.Service as Plan
use Rattle.packets_heard.specs.of_segment_plan.declared.slave.SlaveSpec.{SlaveSpec}
use Rattle.served_places.proofs.Places.{stay}
use Rattle.served_places.proofs.Waits.{wait_few}
use Rattle.served_places.specs.Places.{MayWait, spot_at}
use Rattle.served_places.specs.of_life_runs.Served.{Serves, all_serve}

-- the places of a plan's slaves
abbrev spots_from : ℕ → List SlaveSpec → List Spot
spots_from place [] = []
spots_from place (s ∷ ss) = spot_of place s ∷ spots_from (suc place) ss

first_spots : (paces : List ℕ) (rows : List (ℕ × Plan.Service)) (place : ℕ) (ss : List SlaveSpec) → map spot_at (all_serve paces (leads_from rows place ss)) ≡ spots_from place ss
first_spots [] rows place [] = refl
first_spots (p ∷ ps) rows place [] = refl
first_spots [] rows place (s ∷ ss) = ap (λ z. spot_of place s ∷ z) (first_spots [] rows (suc place) ss)
first_spots (p ∷ ps) rows place (s ∷ ss) = ap (λ z. spot_of place s ∷ z) (first_spots ps rows (suc place) ss)

spots_fit : (lens : ℕ → Lens) (octets place from : ℕ) (home : ℕ × ℕ) (ss : List SlaveSpec) (ws : List Serves) → HaveLens lens ss → map spot_at ws ≡ spots_from from ss → slice_get (map home_of ss) place ≡ Some home → 6 + octets ≤ home.1 → FitsAt lens place octets ws
spots_fit lens octets zero from home [] ws h e g l = absurd (cc)
spots_fit lens octets (suc place) from home [] ws h e g l = absurd (cc)
spots_fit lens octets place from home (s ∷ ss) [] h e g l = absurd (not_none (spot_of from s) (spots_from (suc from) ss) e)
spots_fit lens octets zero from home (s ∷ ss) (w ∷ ws) h e g l =
    let spot : spot_at w ≡ spot_of from s = heads (spot_at w) (spot_of from s) (map spot_at ws) (spots_from (suc from) ss) e in
    let is : home_of s ≡ home = cc in
    subst (λ n. 6 + octets ≤ n) (sym (ap (λ (z : ℕ × ℕ). z.1) is) ∙ sym h.0.0 ∙ sym (ap (λ (z : Spot). (lens z.station).out) spot)) l
spots_fit lens octets (suc place) from home (s ∷ ss) (w ∷ ws) h e g l =
    spots_fit lens octets place (suc from) home ss ws h.1 (rests (spot_at w) (spot_of from s) (map spot_at ws) (spots_from (suc from) ss) e) g l

pub home_fits : (plan : Scenario) (fs : List Exchanged) (missed octets place : ℕ) (home : ℕ × ℕ) (ws : List Serves) → HaveLens (lens_of plan.slaves) plan.slaves → ServeTo plan fs missed ws → slice_get (map home_of plan.slaves) place ≡ Some home → 6 + octets ≤ home.1 →
    FitsAt (lens_of plan.slaves) place octets ws
home_fits plan fs missed octets place home ws h led g l =
    let first = all_serve plan.paces (first_leads plan) in
    spots_fit (lens_of plan.slaves) octets place 0 home plan.slaves ws h (stay (lens_of plan.slaves) plan.recover plan.retry first fs missed ws led ∙ first_spots plan.paces plan.services 0 plan.slaves) g l

-- NO MORE THAN 64 MAILS WAIT at a post
few_at : (ps : List Post) (ws : List Serves) (place : ℕ) → map (λ (w : Serves). length w.waits) ws ≡ map waiting_of ps → All MayWait ws → waiting_at ps place ≤ 64
few_at [] ws place e h = omega arith
few_at (p ∷ ps) [] place e h = absurd (not_none (waiting_of p) (map waiting_of ps) e)
few_at (p ∷ ps) (w ∷ ws) zero e h =
    let few = All-head MayWait w ws h in
    let same = heads (length w.waits) (waiting_of p) (map (λ (v : Serves). length v.waits) ws) (map waiting_of ps) e in
    omega (arith, few, same)
few_at (p ∷ ps) (w ∷ ws) (suc place) e h = few_at ps ws place (rests (length w.waits) (waiting_of p) (map (λ (v : Serves). length v.waits) ws) (map waiting_of ps) e) (All-tail MayWait w ws h)

-- so one more may, where not so many do
pub has_room : (plan : Scenario) (fs : List Exchanged) (missed place : ℕ) (ps : List Post) (ws : List Serves) → ServeTo plan fs missed ws → map (λ (w : Serves). length w.waits) ws ≡ map waiting_of ps → waiting_at ps place ≢ 64 → waiting_at ps place < 64
has_room plan fs missed place ps ws led e apart =
    let few = few_at ps ws place e (wait_few (lens_of plan.slaves) plan.recover plan.retry plan.paces (first_leads plan) fs missed ws led) in
    omega (arith, few, apart)
