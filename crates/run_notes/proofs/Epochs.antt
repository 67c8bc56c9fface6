-- WHAT IS NOTED OF EPOCHS goes with the life, over what comes into hand, returns and losses.
use Rattle.std.proofs.Common.{◌≡◌, ℕ, zero, suc, ◌-◌, Bool, true, false, Option, Some, None, List, [], ◌∷◌, map, length, refl, ap, sym, ◌∙◌, arith}
use Rattle.std.specs.Prelude.{◌&&◌, not, slice_get, slice_set, if◌then◌else◌}
use Rattle.std.proofs.lemmas.List.{map-append}
use Rattle.run_frames.specs.of_life_runs.Spans.{Span, is_leaving, is_open, opened_at, spans_behind, SameEpochs, EpochsBack, EpochsLost}
use Rattle.run_frames.specs.of_life_runs.Led.{Leads}
use Rattle.run_book.specs.declared.book.Epoch.{Epoch}
use Rattle.run_notes.specs.Epochs.{span_in, IsMarked}
use Rattle.run_notes.specs.Notes.{epochs_cleared, last_opened, epochs_opened, epochs_stood}
use Rattle.run_notes.specs.declared.notes.Notes.{Notes}

abbrev spans : List Epoch → List Span
spans es = map span_in es

-- THE LAST IS OPENED
opened_last : (es : List Epoch) (k frame : ℕ) (d : Epoch) → suc k ≡ length es → slice_get es k ≡ Some d → spans (slice_set es k (record d { opened = Some frame })) ≡ opened_at frame (spans es)
opened_last [] k frame d e g = absurd (omega (arith, e))
opened_last (x ∷ []) zero frame d e g = let same : x ≡ d = cc in ap (λ (z : Epoch). span_in (record z { opened = Some frame }) ∷ []) (sym same)
opened_last (x ∷ []) (suc k) frame d e g = absurd (omega (arith, e))
opened_last (x ∷ (y ∷ es)) zero frame d e g = absurd (omega (arith, e))
opened_last (x ∷ (y ∷ es)) (suc k) frame d e g = ap (λ (z : List Span). span_in x ∷ z) (opened_last (y ∷ es) k frame d (omega (arith, e)) g)

none_last : (es : List Epoch) (k : ℕ) → suc k ≡ length es → slice_get es k ≡ None → ⊥
none_last [] k e g = absurd (omega (arith, e))
none_last (x ∷ es) zero e g = absurd (let bad : Some x ≡ None = g in cc)
none_last (x ∷ es) (suc k) e g = none_last es k (omega (arith, e)) g

opened_by : (es : List Epoch) (frame : ℕ) → spans (last_opened es frame (slice_get es (length es - 1))) ≡ opened_at frame (spans es)
opened_by [] frame = refl
opened_by (x ∷ es) frame = by (slice_get (x ∷ es) (length (x ∷ es) - 1)) refl
  where
    last : suc (length (x ∷ es) - 1) ≡ length (x ∷ es)
    last = omega arith

    by : (o : Option Epoch) → slice_get (x ∷ es) (length (x ∷ es) - 1) ≡ o → spans (last_opened (x ∷ es) frame o) ≡ opened_at frame (spans (x ∷ es))
    by None g = absurd (none_last (x ∷ es) (length (x ∷ es) - 1) last g)
    by (Some d) g = opened_last (x ∷ es) (length (x ∷ es) - 1) frame d last g

-- BY HOW THE MASTER STANDS
stood_spans : (n : Notes) (leaves opens : Bool) (frame : ℕ) → spans (epochs_stood n leaves opens frame) ≡ spans_behind frame n.leaving leaves n.up opens (spans n.epochs)
stood_spans n leaves opens frame = by n.leaving leaves n.up opens
  where
    by : (a b c d : Bool) → spans (if a && not b then epochs_cleared n frame else if not c && d then epochs_opened n frame else n.epochs) ≡ spans_behind frame a b c d (spans n.epochs)
    by true false c d = map-append span_in n.epochs _
    by true true true d = refl
    by true true false true = opened_by n.epochs frame
    by true true false false = refl
    by false b true d = refl
    by false b false true = opened_by n.epochs frame
    by false b false false = refl

module _ (a b : Leads) (n : Notes) (r : IsMarked a n.epochs n.leaving n.up) where
  pub marked_turn : SameEpochs a.lived.life b.lived.life → IsMarked b n.epochs n.leaving n.up
  marked_turn s = record { spans = r.spans ∙ sym s.spans; leaving = r.leaving ∙ ap is_leaving (sym s.stand); up = r.up ∙ ap is_open (sym s.stand) }

  pub marked_back : (made : ℕ) (leaves opens : Bool) → EpochsBack made a.lived.life b.lived.life → leaves ≡ is_leaving b.lived.life.stand → opens ≡ is_open b.lived.life.stand → IsMarked b (epochs_stood n leaves opens made) leaves opens
  marked_back made leaves opens s e f = record {
    spans =
        stood_spans n leaves opens made ∙ (λ i. spans_behind made (r.leaving i) (e i) (r.up i) (f i) (r.spans i)) ∙ sym s.spans;
    leaving = e;
    up = f;
  }

  pub marked_lost : EpochsLost a.lived.life b.lived.life → b.lived.life.gave ≡ a.lived.life.gave → IsMarked b n.epochs n.leaving n.up
  marked_lost s e = record { spans = r.spans ∙ sym s.spans; leaving = r.leaving ∙ ap is_leaving (sym (s.stand e)); up = r.up ∙ ap is_open (sym (s.stand e)) }

  pub marked_given : (leaves : Bool) → EpochsLost a.lived.life b.lived.life → (b.lived.life.gave ≡ a.lived.life.gave → ⊥) → leaves ≡ is_leaving b.lived.life.stand → IsMarked b n.epochs leaves false
  marked_given leaves s more e = record { spans = r.spans ∙ sym s.spans; leaving = e; up = sym (s.given more) }
