-- What stays of all slaves, one step after the other.
use Rattle.std.proofs.Common.{◌≡◌, ℕ, List, refl, ap, ◌∙◌}
use Rattle.std.specs.Prelude.{slice_index_or, slice_set}
use Rattle.run_notes.specs.Handed.{Doubts}
use Rattle.run_notes.specs.Stays.{StaysBeside, StaysMaking}
use Rattle.run_notes.specs.Times.{Goes, making}
use Rattle.run_notes.specs.declared.notes.Notes.{Notes}
use Rattle.run_notes.proofs.Gaves.{same_gaves}
use Rattle.run_notes.proofs.Handings.{doubts_same, doubts_set, doubts_then}
use Rattle.run_notes.proofs.Heard.{same_heard}
use Rattle.run_notes.proofs.Packets.{same_begun}
use Rattle.run_notes.proofs.Timings.{keeps_set}

pub stays_same : (notes : List Notes) → StaysBeside notes notes
stays_same notes = record { gave = refl; heard = refl; rows = refl }

pub stays_more : {a b c : List Notes} → StaysBeside a b → StaysBeside b c → StaysBeside a c
stays_more h k = record { gave = k.gave ∙ h.gave; heard = k.heard ∙ h.heard; rows = k.rows ∙ h.rows }

-- where one slave's notes change
pub stays_set : (notes : List Notes) (at : ℕ) (d m : Notes) → d ≡ slice_index_or notes at d → m.gave ≡ d.gave → m.emergencies ≡ d.emergencies → m.begun ≡ d.begun → StaysBeside notes (slice_set notes at m)
stays_set notes at d m e gave heard rows = record {
  gave = same_gaves notes at d m (gave ∙ ap (λ (n : Notes). n.gave) e);
  heard = same_heard notes at d m (heard ∙ ap (λ (n : Notes). n.emergencies) e);
  rows = same_begun notes at d m (rows ∙ ap (λ (n : Notes). n.begun) e);
}

-- ---- before a frame

pub making_same : (frame : ℕ) (notes : List Notes) → StaysMaking frame notes notes
making_same frame notes = record { gave = refl; heard = refl; doubts = doubts_same notes; time = λ packets all. all }

pub making_more : (frame : ℕ) (a b c : List Notes) → StaysMaking frame a b → StaysMaking frame b c → StaysMaking frame a c
making_more frame a b c h k = record {
  gave = k.gave ∙ h.gave;
  heard = k.heard ∙ h.heard;
  doubts = doubts_then a b c h.doubts k.doubts;
  time = λ packets all. k.time packets (h.time packets all);
}

pub making_set : (frame : ℕ) (notes : List Notes) (at : ℕ) (d m : Notes) → d ≡ slice_index_or notes at d → m.gave ≡ d.gave → m.emergencies ≡ d.emergencies → Doubts d m → Goes (making frame) (making frame) d m → StaysMaking frame notes (slice_set notes at m)
making_set frame notes at d m e gave heard doubts goes = record {
  gave = same_gaves notes at d m (gave ∙ ap (λ (n : Notes). n.gave) e);
  heard = same_heard notes at d m (heard ∙ ap (λ (n : Notes). n.emergencies) e);
  doubts = doubts_set notes at d m e doubts;
  time = keeps_set (making frame) notes at d m e goes;
}
