-- The slaves of a plan's serving: each keeps its station, and so the walk needs of laws only what each is to its master and that its frames are met.
use Rattle.std.proofs.Common.{◌≡◌, ◌++◌, ℕ, suc, Bool, true, Option, List, [], ◌∷◌, map, length, refl, sym, ap, ◌∙◌}
use Rattle.std.specs.Prelude.{All, nat_le}
use Rattle.std.proofs.lemmas.Bool.{le-leb}
use Rattle.std.proofs.lemmas.List.Elements.{All-nil, All-cons, All-head, All-tail}
use Rattle.idle_slaves.specs.Eager.{Remembered}
use Rattle.idle_slaves.specs.of_frame_view.Seen.{seen}
use Rattle.idle_slaves.specs.of_frame_view.View.{Lens}
use Rattle.served_rings.proofs.of_served_places.Each.{each}
use Rattle.idle_slaves.specs.of_life_model.Lives.{Spot}
use Rattle.idle_slaves.specs.of_life_runs.First.{lens_of, first_leads, leads_from}
use Rattle.idle_slaves.specs.of_life_runs.Led.{Exchanged, Leads}
use Rattle.idle_slaves.specs.of_datagrams.Datagram as Raw
use Rattle.idle_slaves.specs.of_plan_ring.PlanMet.{AllMet}
use Rattle.idle_slaves.specs.of_plan_ring.Round.{ring_of, AllRound}
use Rattle.idle_slaves.specs.of_run_frames.Runs.{Progress}
use Rattle.idle_slaves.proofs.of_run_frames.Leading.{SeenIs}
use Rattle.idle_slaves.specs.of_segment_plan.Bound.{slowest}
use Rattle.idle_slaves.specs.of_segment_plan.Sound.{IsPlan, IsSlave}
use Rattle.idle_slaves.specs.of_segment_plan.declared.plan.Scenario.{Scenario}
use Rattle.idle_slaves.specs.of_segment_plan.declared.service.Service as Plan
use Rattle.idle_slaves.specs.of_segment_plan.declared.slave.SlaveSpec.{SlaveSpec}
use Rattle.idle_slaves.specs.of_segment_ring.declared.wire.Fate.{Fate}
use Rattle.idle_slaves.specs.of_segment_ring.declared.wire.Fate.TheVariants.{Pass, Lost}
use Rattle.seen_slaves.specs.Rows.{IsNew}
use Rattle.seen_slaves.proofs.Rows.{each_first}
use Rattle.idle_slaves.specs.of_life_runs.Served.{Serves, ServedTurn, IsServedFrame, IsServedTurn, all_serve, served_behind, served_life}
use Rattle.served_rings.specs.of_served_places.Answered.{ServedWaits}
use Rattle.served_rings.specs.of_served_places.Toured.{IsServedToured}
use Rattle.served_rings.proofs.of_served_places.Slaves.{begins_so}
use Rattle.seen_slaves.specs.Eager.{ServedEagerIn, leads_of}
use Rattle.seen_slaves.proofs.Ready.{AllStationed}
use Rattle.seen_slaves.proofs.Walk.{Led, ServedLaws, first_of, nodes_at, walks}
use Rattle.idle_slaves.proofs.Fits.{AllSeated, Slave}

-- before the first frame they are new
pub leads_new : (rows : List (ℕ × Plan.Service)) (place : ℕ) (ss : List SlaveSpec) → All IsSlave ss → All IsNew (leads_from rows place ss)
leads_new rows place [] h = All-nil IsNew
leads_new rows place (s ∷ ss) h =
    let one : IsSlave s = All-head IsSlave s ss h in
    All-cons IsNew _ (leads_from rows (suc place) ss) (record { station = one.some_station; life = refl }) (leads_new rows (suc place) ss (All-tail IsSlave s ss h))

abbrev HasStation : Serves → Type 0
HasStation w = nat_le 1 w.lead.lived.spot.station ≡ true

stationed_all : (ws : List Serves) → All HasStation ws → AllStationed ws
stationed_all [] h = tt
stationed_all (w ∷ ws) h = (All-head HasStation w ws h, stationed_all ws (All-tail HasStation w ws h))

module _ (lens : ℕ → Lens) (recover retry : ℕ) where
  turn_station : (gives : Bool) (made : ℕ) (ds : List Raw.Datagram) (f : Exchanged) (w : Serves) (v : ServedTurn) → IsServedTurn lens made ds w v → HasStation w → HasStation (served_behind lens recover retry gives made f v)
  turn_station gives made ds f w v t k = by f.fate
    where
      same : nat_le 1 v.turn.lived.spot.station ≡ true
      same = ap (λ (z : Spot). nat_le 1 z.station) t.next.spot ∙ k

      by : (fate : Fate) → nat_le 1 (served_life lens recover retry gives made f fate v).spot.station ≡ true
      by Pass = same
      by (Lost after) = same

module _ (plan : Scenario) (is : IsPlan plan) where
  pub stationed : (fs : List Exchanged) (missed : ℕ) (ws : List Serves) → Led plan fs missed ws → AllStationed ws
  stationed fs missed ws led =
      stationed_all ws (each (lens_of plan.slaves) plan.recover plan.retry HasStation (λ w k h. h) (turn_station (lens_of plan.slaves) plan.recover plan.retry) (first_of plan)
      (each_first HasStation (λ pace a new. le-leb 1 a.lived.spot.station new.station) plan.paces (first_leads plan) (leads_new plan.services 0 plan.slaves is.laid.slaves)) fs missed ws led)

  -- with their paces
  paces_of : (paces : List ℕ) (as' : List Leads) → length paces ≡ length as' → map (λ (w : Serves). w.pace) (all_serve paces as') ≡ paces
  paces_of [] [] e = refl
  paces_of [] (a ∷ as') e = absurd (let no : 0 ≡ suc (length as') = e in cc)
  paces_of (pace ∷ paces) [] e = absurd (let no : suc (length paces) ≡ 0 = e in cc)
  paces_of (pace ∷ paces) (a ∷ as') e = ap (λ l. pace ∷ l) (paces_of paces as' (let more : suc (length paces) ≡ suc (length as') = e in cc))

  long_of : (rows : List (ℕ × Plan.Service)) (place : ℕ) (ss : List SlaveSpec) → length (leads_from rows place ss) ≡ length ss
  long_of rows place [] = refl
  long_of rows place (s ∷ ss) = ap suc (long_of rows (suc place) ss)

  -- SOME SLAVE WAITS YET behind each frame of a plan's serving that gained nothing, by what each is to its master and that its frames are met
  pub waits_of : (seen_is : SeenIs)
      (seats : (fs : List Exchanged) (missed : ℕ) (ws : List Serves) → Led plan fs missed ws → AllRound (ring_of plan) fs → AllSeated (lens_of plan.slaves) plan.slaves (leads_of ws) (nodes_at plan fs))
      (meets : (fs : List Exchanged) (missed : ℕ) (ws : List Serves) (f : Exchanged) (vs : List ServedTurn) → Led plan fs missed ws → IsServedFrame (lens_of plan.slaves) (length fs) f.sent ws vs → AllRound (ring_of plan) (fs ++ f ∷ []) → f.fate ≡ Pass →
      AllMet (lens_of plan.slaves) (seen (lens_of plan.slaves) f.sent) (seen (lens_of plan.slaves) f.back) (length fs) plan.slaves (leads_of ws) plan.paces (nodes_at plan fs) (nodes_at plan (fs ++ f ∷ []))) →
      (fs : List Exchanged) (again : Option (List ℕ)) (missed : ℕ) (ws : List Serves) (p : Progress) (cs : List Slave) (ls ns : List Remembered)
      (run : IsServedToured (lens_of plan.slaves) plan.recover plan.retry (slowest plan.paces) (all_serve plan.paces (first_leads plan)) fs again missed ws p cs) → AllRound (ring_of plan) fs → ServedEagerIn plan run ls ns → ServedWaits run
  waits_of seen_is seats meets fs again missed ws p cs ls ns run went e =
      let b = begins_so plan is in
      let laws : ServedLaws plan = record { seats = seats; meets = meets; stations = stationed } in
      (walks seen_is plan laws (slowest plan.paces) b.2 b.1 (paces_of plan.paces (first_leads plan) (is.laid.paces ∙ sym (long_of plan.services 0 plan.slaves))) fs again missed ws p cs ls ns run went e).1
