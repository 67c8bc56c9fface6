-- WHAT MIGHT BEGIN AT A VISIT of a slave of a serving did, or nothing is left that might: one visit goes on so.
use Rattle.std.proofs.Common.{◌≡◌, ℕ, Bool, false, true, Option, None, Some, List, ◌∷◌, map, refl, sym, ◌∙◌, subst, arith}
use Rattle.std.specs.Prelude.{slice_get}
use Rattle.life_runs.specs.of_datagrams.Datagram as Raw
use Rattle.life_runs.specs.of_frame_view.View.{Lens}
use Rattle.life_runs.specs.of_frame_view.Shares.{AllFrom, AreDistinct, Lived}
use Rattle.life_runs.specs.of_master_duty.Reply.{Reply}
use Rattle.life_runs.specs.of_state_model.Stated as Stated
use Rattle.life_runs.specs.of_master_hand.Laying.{ready_of}
use Rattle.life_runs.specs.of_master_hand.Spoken.{Asked}
use Rattle.life_runs.specs.of_master_hand.declared.hand.InHand.{InHand}
use Rattle.life_runs.specs.of_master_side.Shown.{wish_begun}
use Rattle.life_runs.specs.of_master_side.declared.carried.Wish.{Wish}
use Rattle.life_runs.specs.of_master_side.declared.hand.Hand.{Ghosts}
use Rattle.life_runs.proofs.of_master_tour.Walks.{steps_both}
use Rattle.life_runs.specs.of_master_tour.Made.{is_in}
use Rattle.life_runs.specs.of_master_tour.Walks.{EachPair, StepsAt}
use Rattle.life_runs.specs.of_master_tour.declared.stop.Stop.{Stop}
use Rattle.life_runs.specs.Served.{Keyed, Serves}
use Rattle.master_node.proofs.Begins.{at_other, at_place, spot_at}
use Rattle.master_node.proofs.Eagers.{recall_kept}
use Rattle.master_node.proofs.Fills.{begun_at, from_each}
use Rattle.master_node.proofs.Lists.{steps_got, steps_trans}
use Rattle.master_node.proofs.Starts.{BeginsSo, LeavesNone, Readies, from_steps, leaves_none, serves_known, serves_yet, started_here, started_same, started_there}
use Rattle.master_node.proofs.Unvisited.{Slave, Went, steps_behind, without}
use Rattle.master_node.proofs.Visits.{SomeKept}
use Rattle.master_node.specs.Begins.{NoneMore, begun_for}
use Rattle.master_node.specs.Coming.{wish_of}
use Rattle.master_node.specs.Eager.{recall_of}
use Rattle.master_node.specs.Filling.{StopFills}
use Rattle.master_node.specs.Passes.{IsServing, ThreeFrom, waits_in}
use Rattle.master_node.specs.Serving.{run_lead}
use Rattle.master_node.specs.Shows.{lived_of}
use Rattle.master_node.specs.Starts.{HasStarted}
use Rattle.master_node.specs.declared.coming.Coming.{Coming}
use Rattle.master_node.specs.declared.lan.Lan.{Lan}

-- behind the visit nothing is left that might begin, where nothing did
module _ {G : Ghosts InHand} (lens : ℕ → Lens) (recover made : ℕ) (l : Lan) (place : ℕ) (got : List Keyed) (coming : Option Coming) (result : Bool) (what : Option (Stated.Service Asked)) (s0 s2 s3 : List (Stop InHand G)) where
  pub leaves_all : ((s : Stop InHand G) → s.side.out.len ≡ s.side.hand.laying.areas.out) → ((t : Stop InHand G) → slice_get s2 place ≡ Some t → wish_begun result (wish_of coming) (ready_of t.side.hand.laying) ≡ what) → StepsAt (λ s t. Readies lens recover made l place got coming s t) place s0 s2 →
      StepsAt (λ t u. BeginsSo coming result t) place s2 s3 → StepsAt (λ t u. recall_of u ≡ recall_of t) place s2 s3 → StepsAt (λ s u. LeavesNone lens recover made l place got what s u) place s0 s3
  leaves_all rooms is ready begins same =
      steps_trans (λ s t. Readies lens recover made l place got coming s t) (λ t u. (slice_get s2 place ≡ Some t) × (BeginsSo coming result t × (recall_of u ≡ recall_of t))) (λ s u. LeavesNone lens recover made l place got what s u) place s0 s2 s3
      (λ s t u a b. subst (λ z. LeavesNone lens recover made l place got z s u) (is t b.0) (leaves_none lens recover made l place got coming result s t u (rooms t) a b.1.0 b.1.1)) ready
      (steps_got (λ t u. BeginsSo coming result t × (recall_of u ≡ recall_of t)) place s2 s3 (steps_both (λ t u. BeginsSo coming result t) (λ t u. recall_of u ≡ recall_of t) place s2 s3 begins same))

-- without a datagram nothing came into hand of the slave that was visited
module _ (lens : ℕ → Lens) (recover made index : ℕ) (octets : List ℕ) (wish : Option Wish) (result : Bool) (begun : ℕ → Option (Stated.Service Asked)) (next : List ℕ) (ds : List Raw.Datagram) (place : ℕ) (got : Option Slave) (what : Option (Stated.Service Asked)) where
  none_without : ((t : Slave) → got ≡ Some t → wish_begun result wish (ready_of t.side.hand.laying) ≡ what) → ((t u : Slave) (spot : ℕ) → got ≡ Some t → u.place ≡ t.place → u.place ≡ spot → begun spot ≡ wish_begun result wish (ready_of t.side.hand.laying)) → (a : Lived Asked Reply) (s u : Slave) →
      StopFills lens recover made begun index next ds place a u → Went octets wish result got s u → u.under ≡ false → what ≡ None
  none_without is here a s u p w n =
      sym (is w.between w.is) ∙ without lens recover made octets wish result begun index next ds place a s w.between u p w.roomed w.lacking (here w.between u a.spot.place w.is w.place p.lives.planned.stands.place_is) n

  pub all_without : ((t : Slave) → got ≡ Some t → wish_begun result wish (ready_of t.side.hand.laying) ≡ what) → ((t u : Slave) (spot : ℕ) → got ≡ Some t → u.place ≡ t.place → u.place ≡ spot → begun spot ≡ wish_begun result wish (ready_of t.side.hand.laying)) →
      (lives : List (Lived Asked Reply)) (ss ts : List Slave) → AllFrom (λ i a u. StopFills lens recover made begun index next ds i a u) 0 lives ts → StepsAt (λ s u. Went octets wish result got s u) place ss ts → StepsAt (λ s u. u.under ≡ false → what ≡ None) place ss ts
  all_without is here lives ss ts f w =
      steps_behind (λ i a u. StopFills lens recover made begun index next ds i a u) (λ s u. Went octets wish result got s u) (λ s u. u.under ≡ false → what ≡ None) 0 place place lives ss ts (omega arith) (λ a s u p q n. none_without is here a s u p q n) f w

-- ALL SLAVES behind the visit of one
module _ {G : Ghosts InHand} (lens : ℕ → Lens) (recover made : ℕ) (begun : ℕ → Option (Stated.Service Asked)) (index : ℕ) (left past : List ℕ) (ds : List Raw.Datagram) (l l2 : Lan) (place here : ℕ) (got : List Keyed) (what : Option (Stated.Service Asked)) (ws : List Serves) (kss : List (List Keyed)) (s0 s3 s4 : List (Stop InHand G)) where
  abbrev Fills : ℕ → Lived Asked Reply → Stop InHand G → Type 0
  Fills i a s = StopFills lens recover made begun index left ds i a s

  abbrev Serving : ℕ → Serves → List Keyed → Stop InHand G → Type 0
  Serving i w ks s = IsServing lens begun made left i w ks s

  abbrev Was : ℕ → Serves → Stop InHand G → Type 0
  Was i w s = HasStarted lens l past i (begun_for begun (map run_lead ws) i) w.lead w.waits s

  abbrev Is : ℕ → Serves → Stop InHand G → Type 0
  Is i w s = HasStarted lens l2 (place ∷ past) i (begun_for (begun_at begun here what) (map run_lead ws) i) w.lead w.waits s

  abbrev Visited : Stop InHand G → Stop InHand G → Type 0
  Visited s u = LeavesNone lens recover made l place got what s u × (u.under ≡ false → what ≡ None)

  pub serves_started : is_in place left ≡ true → NoneMore l l2 → waits_in kss place ≡ got → AreDistinct (map lived_of (map run_lead ws)) → spot_at (map run_lead ws) place ≡ Some here → AllFrom (λ i a s. Fills i a s) 0 (map (λ w. lived_of (run_lead w)) ws) s0 →
      ThreeFrom (λ i w ks s. Serving i w ks s) 0 ws kss s0 → AllFrom (λ i w s. Was i w s) 0 ws s0 → StepsAt (λ s u. LeavesNone lens recover made l place got what s u) place s0 s3 → StepsAt (λ s u. u.under ≡ false → what ≡ None) place s0 s3 → EachPair (λ s t. SomeKept s t) s3 s4 →
      AllFrom (λ i w s. Is i w s) 0 ws s4
  serves_started at fewer wait apart spot fills serving was leaves without kept =
      let known = serves_known (λ i a s. Fills i a s) (λ i w ks s. Serving i w ks s) (λ i w s. Was i w s) place got ws kss s0 wait fills serving was in
      let third : AllFrom (λ i w s. Is i w s) 0 ws s3 = from_steps _ (λ i w s. Is i w s) (λ s u. Visited s u) 0 place place ws s0 s3 (omega arith)
      (λ w s u p q.
      let yet = serves_yet lens recover made begun index left ds place w p.waits s at p.fills p.serving in
      started_here lens recover made l l2 past place got (begun_for (begun_at begun here what) (map run_lead ws) place) what w.lead w.waits s u fewer (at_place begun here what (map run_lead ws) place spot) yet.0 (λ z. sym yet.1 ∙ p.here refl ∙ z) q.0 q.1)
      (λ j w s n p. started_there lens l l2 past place j (begun_for begun (map run_lead ws) j) (begun_for (begun_at begun here what) (map run_lead ws) j) w.lead w.waits s fewer n (at_other begun here what (map run_lead ws) place j apart spot n) p.starts) known
      (steps_both (λ s u. LeavesNone lens recover made l place got what s u) (λ s u. u.under ≡ false → what ≡ None) place s0 s3 leaves without) in
      from_each (λ i w s. Is i w s) (λ s t. SomeKept s t) (λ i w s. Is i w s)
      (λ i w s t p k. started_same lens l2 (place ∷ past) i (begun_for (begun_at begun here what) (map run_lead ws) i) w.lead w.waits s t k.kept.under (recall_kept k.number s t k.kept) p) 0 ws s3 s4 third kept
