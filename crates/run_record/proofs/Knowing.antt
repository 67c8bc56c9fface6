-- THE HANDS OF A SERVING GO ON KNOWING THEIR MAILS, as long as each that was accepted was due.
use Rattle.std.proofs.Common.{◌≡◌, ℕ, zero, suc, true, Some, List, [], ◌∷◌, map, sym, subst}
use Rattle.std.specs.Prelude.{slice_get}
use Rattle.packets_heard.specs.of_master_node.Backtold.{known_at}
use Rattle.packets_heard.specs.of_master_node.Recalled.{AllKnow}
use Rattle.packets_heard.specs.of_master_node.ServedEager.{AllServedRecall}
use Rattle.packets_heard.specs.of_master_node.Serving.{run_turn}
use Rattle.plan_ring.specs.of_frame_view.View.{Lens}
use Rattle.served_places.specs.of_life_model.Lives.{Stand}
use Rattle.served_places.specs.of_life_runs.Led.{Turn, speech_at}
use Rattle.served_places.specs.of_link_mails.Body.{Body}
use Rattle.served_places.specs.of_master_side.Due.{EachDue}
use Rattle.served_places.specs.of_master_side.Recall.{Recall}
use Rattle.served_places.specs.of_master_tour.Brings.{accepted_at}
use Rattle.served_places.specs.of_segment_model.Slaves.{Datagram}
use Rattle.plan_ring.specs.Dues.{AllDue}
use Rattle.run_record.proofs.ServedNotes.{none_at}
use Rattle.served_places.specs.of_life_runs.Served.{ServedTurn, Serves}

module _ (lens : ℕ → Lens) where
  -- A LOST FRAME brought none
  pub lost_due : (us : List Turn) → AllDue lens [] us
  lost_due [] = tt
  lost_due (u ∷ us) = (
    (λ stands. subst (λ (z : Stand). EachDue (speech_at lens u.lived.spot) u.lived.life.era.side.now (accepted_at u.lived.spot.station u.lived.life.era.side.halves [] z)) (sym stands) tt),
    lost_due us,
  )

  module _ (back : List (Datagram Body)) (behind : ServedTurn → Serves) where
    -- BEHIND A FRAME the hands of all slaves know theirs, where they did and what it brought was due
    pub all_known : (vs : List ServedTurn) (ms ns : List Recall) → AllServedRecall lens back behind vs ms ns → AllKnow ms → AllDue lens back (map run_turn vs) → AllKnow ns
    all_known [] [] [] r k d = tt
    all_known [] [] (n ∷ ns) r k d = absurd r
    all_known [] (m ∷ ms) ns r k d = absurd r
    all_known (v ∷ vs) [] ns r k d = absurd r
    all_known (v ∷ vs) (m ∷ ms) [] r k d = absurd r
    all_known (v ∷ vs) (m ∷ ms) (n ∷ ns) r k d = (r.0.known k.0 d.0, all_known vs ms ns r.1 k.1 d.1)

    -- so that of each does
    pub known_here : (vs : List ServedTurn) (ms ns : List Recall) → AllServedRecall lens back behind vs ms ns → AllKnow ns → (k : ℕ) (v : ServedTurn) → slice_get vs k ≡ Some v → known_at ns k ≡ true
    known_here [] ms ns r a k v e = none_at k v e
    known_here (u ∷ vs) [] ns r a k v e = absurd r
    known_here (u ∷ vs) (m ∷ ms) [] r a k v e = absurd r
    known_here (u ∷ vs) (m ∷ ms) (n ∷ ns) r a zero v e = a.0
    known_here (u ∷ vs) (m ∷ ms) (n ∷ ns) r a (suc k) v e = known_here vs ms ns r.1 a.1 k v e
