-- The numbers that a step notes of the switch's events: how many frames had been sent when its frame was made, and one more behind it.
use Rattle.std.proofs.Common.{◌≡◌, ℕ, suc, ◌+◌, List, [], ◌∷◌, ◌++◌, refl, sym, ap, ◌∙◌, arith, append_assoc, add-one}
use Rattle.arrayvec.specs.ArrayVec.{ArrayVec}
use Rattle.packets_heard.specs.of_master_node.Happened.{events_of, HappensSo}
use Rattle.packets_heard.specs.of_master_node.declared.happened.Happening.{Happening}
use Rattle.packets_heard.specs.of_master_node.declared.lan.Lan.{Lan}
use Rattle.packets_heard.specs.Numbers.{each_with}
use Rattle.run_notes.specs.of_run_book.declared.book.Book.{Book}
use Rattle.run_notes.specs.Switched.{rows_of, numbers_of, stamped, HasNoted, NotesSwitch, SameSwitch, IsSwitched}
use Rattle.run_notes.proofs.Switched.{all_last, all_rows, numbers_more, switched_on, switched_same}

stamped_each : (sent : ℕ) (rows : List Happening) → numbers_of (stamped sent rows) ≡ each_with sent (events_of rows)
stamped_each sent [] = refl
stamped_each sent (r ∷ rows) = ap (λ z. sent ∷ z) (stamped_each sent rows)

-- the numbers are those before, then this one for each event that happened
numbers_on : (ports : ℕ) (host : List (ArrayVec ℕ)) (sent sent' : ℕ) (l l' : Lan) (b b' : Book) → HappensSo l l' → NotesSwitch ports sent' l'.happened b b' → IsSwitched ports host sent l b → b'.switched ≡ b.switched ++ each_with sent' (events_of l'.happened)
numbers_on ports host sent sent' l l' b b' h n x =
    let y = h ports host (rows_of x.stamps) x.happened in
    let noted : HasNoted (x.stamps ++ stamped sent' l'.happened) b' = n x.stamps (all_last ports (rows_of x.stamps) l'.happened (all_rows ports (rows_of x.stamps ++ l'.happened) y.at_port)) x.noted in
    noted.switched ∙ numbers_more sent' x.stamps l'.happened ∙ (λ i. sym x.noted.switched i ++ stamped_each sent' l'.happened i)

-- over a step
pub numbers_grown :
    (ports : ℕ) (host : List (ArrayVec ℕ)) (sent : ℕ) (l m l' : Lan) (b b1 b2 b3 : Book) → HappensSo l m → NotesSwitch ports sent m.happened b b1 → SameSwitch b1 b2 → HappensSo m l' → NotesSwitch ports (sent + 1) l'.happened b2 b3
    → IsSwitched ports host sent l b → b3.switched ≡ b.switched ++ (each_with sent (events_of m.happened) ++ each_with (suc sent) (events_of l'.happened))
numbers_grown ports host sent l m l' b b1 b2 b3 made before same back behind x =
    numbers_on ports host sent (sent + 1) m l' b2 b3 back behind (switched_same ports host sent m b1 b2 same (switched_on ports host sent sent l m b b1 (omega arith) made before x))
    ∙ (λ i. (same.switched ∙ numbers_on ports host sent sent l m b b1 made before x) i ++ each_with (add-one sent i) (events_of l'.happened))
    ∙ append_assoc b.switched (each_with sent (events_of m.happened)) (each_with (suc sent) (events_of l'.happened))
