-- What is noted of emergencies over a frame, of a run or a serving, is what the lives of its slaves accept by it.
use Rattle.std.proofs.Common.{◌≡◌, ◌∙◌, ℕ, List, refl, subst}
use Rattle.run_notes.proofs.of_run_book.Heards.{loses}
use Rattle.run_notes.specs.of_run_book.Heard.{Accepted, AllNoted, brought_by, heard_on}
use Rattle.packets_heard.specs.of_master_node.Brought.{HasBrought}
use Rattle.packets_heard.specs.of_master_node.declared.node.MasterNode.{MasterNode}
use Rattle.plan_ring.specs.of_frame_view.Seen.{seen}
use Rattle.plan_ring.specs.of_frame_view.View.{Lens}
use Rattle.served_places.specs.of_life_runs.Led.{Exchanged, Turn}
use Rattle.run_notes.specs.Heard.{HeardBy, emergencies_noted}
use Rattle.run_notes.specs.declared.standing.Log.{Log}
use Rattle.served_places.specs.of_segment_ring.declared.wire.Fate.{Fate}
use Rattle.served_places.specs.of_segment_ring.declared.wire.Fate.TheVariants as Fates

-- BEHIND A FRAME the emergency that its return brought is noted of each slave, and where it was lost none is
pub heard_by : (lens : ℕ → Lens) (made : ℕ) (f : Exchanged) (m : MasterNode) (r r' : Log) (hss : List (List Accepted)) (us : List Turn) → AllNoted hss (emergencies_noted r.notes) → (f.fate ≡ Fates.Pass → HasBrought m us (seen lens f.back)) → HeardBy f.fate made m r r' →
    AllNoted (heard_on (λ u. brought_by lens made f f.fate u) hss us) (emergencies_noted r'.notes)
heard_by lens made f m r r' hss us before brings noted = by f.fate refl
  where
    by : (fate : Fate) → f.fate ≡ fate → AllNoted (heard_on (λ u. brought_by lens made f fate u) hss us) (emergencies_noted r'.notes)
    by Fates.Pass e =
        let all : HeardBy Fates.Pass made m r r' = subst (λ (k : Fate). HeardBy k made m r r') e noted in
        all us (seen lens f.back) hss (brings e) before
    by (Fates.Lost after) e =
        let same : emergencies_noted r'.notes ≡ emergencies_noted r.notes = subst (λ (k : Fate). HeardBy k made m r r') e noted in
        loses lens made after f hss us (emergencies_noted r'.notes) (same ∙ before)
