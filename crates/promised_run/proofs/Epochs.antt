-- THE EPOCHS OF A BOOK have their causes, and open their states, by the give-ups of the book.
use Rattle.std.proofs.Common.{◌≡◌, ℕ, None, List, [], ◌∷◌, ◌++◌, map, sym, subst}
use Rattle.gateway_run.proofs.of_life_runs.Causes.{all_end}
use Rattle.seen_slaves.specs.of_frame_view.Shares.{AllBoth}
use Rattle.run_promises.specs.of_life_runs.Led.{Leads}
use Rattle.run_promises.specs.of_life_runs.Opened.{AllOpenIn, AllOpenTheirs}
use Rattle.run_promises.specs.of_master_node.Wants.{gave_of}
use Rattle.promised_run.specs.Epochs.{AllCaused}
use Rattle.gateway_run.specs.of_run_book.declared.book.SlaveBook.{SlaveBook}
use Rattle.gateway_run.specs.of_run_notes.Epochs.{HasEpochs}
use Rattle.gateway_run.specs.of_run_notes.Slaves.{gaves_in}

heads : (x y : List ℕ) (xs ys : List (List ℕ)) → x ∷ xs ≡ y ∷ ys → x ≡ y
heads x y xs ys e = cc

rests : (x y : List ℕ) (xs ys : List (List ℕ)) → x ∷ xs ≡ y ∷ ys → xs ≡ ys
rests x y xs ys e = cc

pub all_caused : (as' : List Leads) (rows : List SlaveBook) → AllBoth HasEpochs as' rows → gaves_in rows ≡ map gave_of as' → AllOpenTheirs as' → AllCaused as' rows
all_caused [] [] h g c = tt
all_caused [] (row ∷ rows) h g c = absurd h
all_caused (a ∷ as') [] h g c = absurd h
all_caused (a ∷ as') (row ∷ rows) h g c =
    let same : row.gave ≡ gave_of a = heads row.gave (gave_of a) (gaves_in rows) (map gave_of as') g in
    let opens = subst (λ (gave : List ℕ). AllOpenIn a.lived.spot.start gave None (a.lived.life.past ++ a.lived.life.era ∷ [])) (sym same) c.0 in (
      record { epochs = h.0; causes = all_end a.lived.spot.start row.gave None a.lived.life.past a.lived.life.era opens; states = opens },
      all_caused as' rows h.1 (rests row.gave (gave_of a) (gaves_in rows) (map gave_of as') g) c.1,
    )
