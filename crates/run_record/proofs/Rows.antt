-- The rows of slaves, in order.
use Rattle.std.proofs.Common.{◌≡◌, ℕ, zero, suc, ◌||◌, ◌&&◌, List, [], ◌∷◌, ◌++◌, length, map, drop, refl, ap, sym, ◌∙◌, arith}
use Rattle.std.specs.Prelude.{All, slice_get}
use Rattle.std.specs.List.{list_any}
use Rattle.std.proofs.lemmas.List.Elements.{All-nil, All-cons}
use Rattle.packets_heard.specs.of_slave_node.Node.{Node}
use Rattle.packets_heard.specs.of_slave_server.declared.server.SlaveServer.{SlaveServer}
use Rattle.run_notes.specs.of_run_book.declared.book.SlaveBook.{SlaveBook}
use Rattle.run_notes.specs.declared.notes.Notes.{Notes}
use Rattle.run_notes.specs.Notes.{has_given_up}
use Rattle.run_record.specs.Session.{some_given_up, rests_at, are_at_rest}
use Rattle.run_notes.specs.Slaves.{slave_row, slave_rows}
use Rattle.run_record.specs.Ran.{IsGivenUp}

-- one slave more behind the others
pub rows_more : (recover : ℕ) (nodes : List (Node SlaveServer)) (notes : List Notes) (node : Node SlaveServer) (n : Notes) → length notes ≡ length nodes →
    slave_rows recover (nodes ++ node ∷ []) (notes ++ n ∷ []) ≡ slave_rows recover nodes notes ++ slave_row recover node n ∷ []
rows_more recover [] [] node n same = refl
rows_more recover [] (m ∷ notes) node n same = absurd (omega (arith, same))
rows_more recover (x ∷ nodes) [] node n same = absurd (omega (arith, same))
rows_more recover (x ∷ nodes) (m ∷ notes) node n same = ap (λ rows. slave_row recover x m ∷ rows) (rows_more recover nodes notes node n (omega (arith, same)))

-- the slaves of the rows
pub nodes_of_rows : (recover : ℕ) (nodes : List (Node SlaveServer)) (notes : List Notes) → length notes ≡ length nodes →
    map (λ (row : SlaveBook). row.node) (slave_rows recover nodes notes) ≡ nodes
nodes_of_rows recover [] notes same = refl
nodes_of_rows recover (x ∷ nodes) [] same = absurd (omega (arith, same))
nodes_of_rows recover (x ∷ nodes) (m ∷ notes) same = ap (λ rows. x ∷ rows) (nodes_of_rows recover nodes notes (omega (arith, same)))

-- whether a slave was given up stands in its notes
pub given_up_in_notes : (recover : ℕ) (nodes : List (Node SlaveServer)) (notes : List Notes) → length notes ≡ length nodes →
    list_any has_given_up notes ≡ some_given_up (slave_rows recover nodes notes)
given_up_in_notes recover [] [] same = refl
given_up_in_notes recover [] (m ∷ notes) same = absurd (omega (arith, same))
given_up_in_notes recover (x ∷ nodes) [] same = absurd (omega (arith, same))
given_up_in_notes recover (x ∷ nodes) (m ∷ notes) same = ap (λ b. has_given_up m || b) (given_up_in_notes recover nodes notes (omega (arith, same)))

-- the frame at which a slave was given up for good stands in its row
pub rows_given_up : (recover : ℕ) (nodes : List (Node SlaveServer)) (notes : List Notes) → All (IsGivenUp recover) (slave_rows recover nodes notes)
rows_given_up recover [] notes = All-nil (IsGivenUp recover)
rows_given_up recover (x ∷ nodes) [] = All-nil (IsGivenUp recover)
rows_given_up recover (x ∷ nodes) (m ∷ notes) =
    All-cons (IsGivenUp recover) (slave_row recover x m) (slave_rows recover nodes notes) refl (rows_given_up recover nodes notes)

-- the slave of a place and those behind it
pub rest_at : (recover : ℕ) (nodes : List (Node SlaveServer)) (notes : List Notes) (at more : ℕ) (n : Notes) → more ≡ suc at → drop at notes ≡ n ∷ drop more notes →
    are_at_rest (slave_rows recover (drop at nodes) (drop at notes)) ≡ (rests_at recover (slice_get nodes at) n && are_at_rest (slave_rows recover (drop more nodes) (drop more notes)))
rest_at recover nodes notes at more n is split =
    ap (λ l. are_at_rest (slave_rows recover (drop at nodes) l)) split ∙ one nodes at (drop more notes) ∙ ap (λ k. rests_at recover (slice_get nodes at) n && are_at_rest (slave_rows recover (drop k nodes) (drop more notes))) (sym is)
  where
    one : (nodes : List (Node SlaveServer)) (at : ℕ) (rest : List Notes) →
        are_at_rest (slave_rows recover (drop at nodes) (n ∷ rest)) ≡ (rests_at recover (slice_get nodes at) n && are_at_rest (slave_rows recover (drop (suc at) nodes) rest))
    one [] zero rest = refl
    one [] (suc at) rest = refl
    one (x ∷ nodes) zero rest = refl
    one (x ∷ nodes) (suc at) rest = one nodes at rest
