-- The rows beside the scripts, as they are noted.
use Rattle.std.proofs.Common.{◌≡◌, ◌<◌, ◌≤◌, ◌+◌, ◌==◌, ℕ, zero, suc, Bool, true, false, List, [], ◌∷◌, ◌++◌, length, take, take-suc, get_or, add-one, refl, sym, ap, ◌∙◌, subst, arith, append_assoc, append-nil}
use Rattle.std.specs.Prelude.{if◌then◌else◌, slice_set, slice_index_or, ⊤}
use Rattle.std.proofs.lemmas.Bool.{eq-eqb, eqb-true}
use Rattle.std.proofs.lemmas.List.{take_all}
use Rattle.run_book.specs.of_master_node.declared.event.Event.{Event}
use Rattle.run_book.specs.of_master_node.declared.event.Origin.{Origin}
use Rattle.run_book.specs.of_master_node.declared.event.Origin.TheVariants.{Script, Forward, Gateway}
use Rattle.run_book.specs.declared.book.Begun.{Begun}
use Rattle.run_notes.specs.Notes.{awaits_nothing, began, began_script}
use Rattle.run_notes.specs.Packets.{AllFree, FreeAt, FreeBy, FreeFor, NotesBeside, SameBeside, StayFree, begun_in, begun_noted, beside_at, beside_row, mail_row, mails_at, noted_began, packet_row, packets_at, rows_at, rows_by, rows_of, rows_with}
use Rattle.run_notes.specs.Slaves.{slave_rows}
use Rattle.run_notes.specs.declared.notes.Awaited.{Awaited}
use Rattle.run_notes.specs.declared.notes.Notes.{Notes}
use Rattle.run_book.specs.of_slave_node.Node.{Node}
use Rattle.run_book.specs.of_slave_server.declared.server.SlaveServer.{SlaveServer}

-- where the rows of a slave stay, those of all do
pub same_begun : (notes : List Notes) (place : ℕ) (d n : Notes) → n.begun ≡ (slice_index_or notes place d).begun → begun_noted (slice_set notes place n) ≡ begun_noted notes
same_begun [] zero d n e = refl
same_begun [] (suc place) d n e = refl
same_begun (m ∷ notes) zero d n e = ap (λ (bs : List Begun). bs ∷ begun_noted notes) e
same_begun (m ∷ notes) (suc place) d n e = ap (λ bss. m.begun ∷ bss) (same_begun notes place d n e)

-- one row more
pub rows_push : (bs : List Begun) (b : Begun) → rows_with beside_row (bs ++ b ∷ []) ≡ rows_with beside_row bs ++ beside_row b.origin b.frame
rows_push [] b = append-nil (beside_row b.origin b.frame)
rows_push (a ∷ bs) b = ap (λ z. beside_row a.origin a.frame ++ z) (rows_push bs b) ∙ sym (append_assoc (beside_row a.origin a.frame) (rows_with beside_row bs) (beside_row b.origin b.frame))

-- a service that came into hand is noted, where nothing is awaited if it is none of the script
abbrev IsFree : Notes → Origin → Type 0
IsFree d (Script number) = ⊤
IsFree d (Forward number) = d.awaited ≡ Awaited.Nothing
IsFree d (Gateway number) = d.awaited ≡ Awaited.Nothing

began_one : (d : Notes) (o : Origin) (frame : ℕ) → d.awaited ≡ Awaited.Nothing → rows_with beside_row (if awaits_nothing d.awaited then began d o frame else d).begun ≡ rows_with beside_row d.begun ++ beside_row o frame
began_one d o frame free =
    ap (λ (a : Awaited). rows_with beside_row (if awaits_nothing a then began d o frame else d).begun) free ∙ rows_push d.begun (record { origin = o; frame = frame })

began_rows : (d : Notes) (o : Origin) (frame : ℕ) → IsFree d o → rows_with beside_row (noted_began d o frame).begun ≡ rows_with beside_row d.begun ++ beside_row o frame
began_rows d (Script number) frame free = sym (append-nil (rows_with beside_row d.begun))
began_rows d (Forward number) frame free = began_one d (Forward number) frame free
began_rows d (Gateway number) frame free = began_one d (Gateway number) frame free

where_free : (d n : Notes) (b : Bool) → n.awaited ≡ Awaited.Nothing → d.awaited ≡ Awaited.Nothing → (if b then n else d).awaited ≡ Awaited.Nothing
where_free d n true m e = m
where_free d n false m e = e

began_free : (d : Notes) (o : Origin) (frame : ℕ) → d.awaited ≡ Awaited.Nothing → (noted_began d o frame).awaited ≡ Awaited.Nothing
began_free d (Script number) frame e = e
began_free d (Forward number) frame e = where_free d (began d (Forward number) frame) (awaits_nothing d.awaited) refl e
began_free d (Gateway number) frame e = where_free d (began d (Gateway number) frame) (awaits_nothing d.awaited) refl e

-- of the slave at a place, and of others
here_rows : (notes : List Notes) (k : ℕ) (d n : Notes) (more : List Begun) → k < length notes → d ≡ slice_index_or notes k d → rows_with beside_row n.begun ≡ rows_with beside_row d.begun ++ more → beside_at (begun_noted (slice_set notes k n)) k ≡ beside_at (begun_noted notes) k ++ more
here_rows [] k d n more l e h = absurd (omega (arith, l))
here_rows (m ∷ notes) zero d n more l e h = h ∙ ap (λ (z : Notes). rows_with beside_row z.begun ++ more) e
here_rows (m ∷ notes) (suc k) d n more l e h = here_rows notes k d n more (omega (arith, l)) e h

other_rows : (notes : List Notes) (at k : ℕ) (n : Notes) → (k ≡ at → ⊥) → beside_at (begun_noted (slice_set notes at n)) k ≡ beside_at (begun_noted notes) k
other_rows [] zero k n away = refl
other_rows [] (suc at) k n away = refl
other_rows (m ∷ notes) zero zero n away = absurd (away refl)
other_rows (m ∷ notes) zero (suc k) n away = refl
other_rows (m ∷ notes) (suc at) zero n away = refl
other_rows (m ∷ notes) (suc at) (suc k) n away = other_rows notes at k n (λ q. away (ap suc q))

free_there : (notes : List Notes) (k : ℕ) (d : Notes) → k < length notes → d ≡ slice_index_or notes k d → FreeAt notes k → d.awaited ≡ Awaited.Nothing
free_there [] k d l e f = absurd (omega (arith, l))
free_there (m ∷ notes) zero d l e f = ap (λ (z : Notes). z.awaited) e ∙ f
free_there (m ∷ notes) (suc k) d l e f = free_there notes k d (omega (arith, l)) e f

stay_set : (notes : List Notes) (at : ℕ) (d n : Notes) → at < length notes → d ≡ slice_index_or notes at d → (d.awaited ≡ Awaited.Nothing → n.awaited ≡ Awaited.Nothing) → StayFree notes (slice_set notes at n)
stay_set [] at d n l e h k f = absurd (omega (arith, l))
stay_set (m ∷ notes) zero d n l e h zero f = h (ap (λ (z : Notes). z.awaited) e ∙ f)
stay_set (m ∷ notes) zero d n l e h (suc k) f = f
stay_set (m ∷ notes) (suc at) d n l e h zero f = f
stay_set (m ∷ notes) (suc at) d n l e h (suc k) f = stay_set notes at d n (omega (arith, l)) e h k f

-- ONE is noted
pub one_begun : (notes : List Notes) (at : ℕ) (d n : Notes) (o : Origin) (frame : ℕ) → at < length notes → d ≡ slice_index_or notes at d → n ≡ noted_began d o frame → NotesBeside frame (Event.Began at o ∷ []) notes (slice_set notes at n)
one_begun notes at d n o frame l e is = λ free k inside. by k (at == k) refl free
  where
    free_by : (origin : Origin) → FreeBy notes at origin → IsFree d origin
    free_by (Script j) f = tt
    free_by (Forward j) f = free_there notes at d l e f
    free_by (Gateway j) f = free_there notes at d l e f

    by : (k : ℕ) (b : Bool) → (at == k) ≡ b → AllFree notes (Event.Began at o ∷ []) → beside_at (begun_noted (slice_set notes at n)) k ≡ beside_at (begun_noted notes) k ++ rows_by frame k (Event.Began at o ∷ [])
    by k true f free =
        let q : at ≡ k = eqb-true at k f in
        let here = here_rows notes at d n (beside_row o frame) l e (ap (λ (z : Notes). rows_with beside_row z.begun) is ∙ began_rows d o frame (free_by o free.0)) in
        subst (λ j. beside_at (begun_noted (slice_set notes at n)) j ≡ beside_at (begun_noted notes) j ++ beside_row o frame) q here
        ∙ ap (λ z. beside_at (begun_noted notes) k ++ z) (sym (append-nil (beside_row o frame)) ∙ ap (λ (z : Bool). (if z then beside_row o frame else []) ++ []) (sym f))
    by k false f free =
        other_rows notes at k n (λ q. absurd (let w = eq-eqb at k (sym q) in let bad : true ≡ false = sym w ∙ f in cc)) ∙ sym (append-nil (beside_at (begun_noted notes) k))
        ∙ ap (λ (z : Bool). beside_at (begun_noted notes) k ++ ((if z then beside_row o frame else []) ++ [])) (sym f)

pub one_free : (notes : List Notes) (at : ℕ) (d n : Notes) (o : Origin) (frame : ℕ) → at < length notes → d ≡ slice_index_or notes at d → n ≡ noted_began d o frame → StayFree notes (slice_set notes at n)
one_free notes at d n o frame l e is = stay_set notes at d n l e (λ f. ap (λ (z : Notes). z.awaited) is ∙ began_free d o frame f)

-- none is
pub none_begun : (notes : List Notes) (at : ℕ) (o : Origin) (frame : ℕ) → length notes ≤ at → NotesBeside frame (Event.Began at o ∷ []) notes notes
none_begun notes at o frame over = λ free k inside.
    let away : (at == k) ≡ false = go (at == k) refl inside in
    sym (append-nil (beside_at (begun_noted notes) k)) ∙ ap (λ (z : Bool). beside_at (begun_noted notes) k ++ ((if z then beside_row o frame else []) ++ [])) (sym away)
  where
    go : {k : ℕ} (b : Bool) → (at == k) ≡ b → k < length notes → (at == k) ≡ false
    go {k} true f inside = absurd (let q = eqb-true at k f in omega (arith, q, inside, over))
    go false f inside = f

-- an event that brought none
pub no_rows : (frame : ℕ) (event : Event) (notes : List Notes) → ((k : ℕ) → rows_of frame k event ≡ []) → NotesBeside frame (event ∷ []) notes notes
no_rows frame event notes none = λ free k inside. sym (append-nil (beside_at (begun_noted notes) k)) ∙ ap (λ z. beside_at (begun_noted notes) k ++ (z ++ [])) (sym (none k))

-- ---- all events, one after the other

pub rows_append : (frame k : ℕ) (es fs : List Event) → rows_by frame k (es ++ fs) ≡ rows_by frame k es ++ rows_by frame k fs
rows_append frame k [] fs = refl
rows_append frame k (e ∷ es) fs = ap (λ z. rows_of frame k e ++ z) (rows_append frame k es fs) ∙ sym (append_assoc (rows_of frame k e) (rows_by frame k es) (rows_by frame k fs))

free_for : (old new : List Notes) → StayFree old new → (event : Event) → FreeFor old event → FreeFor new event
free_for old new stay (Event.Began slave (Script number)) f = tt
free_for old new stay (Event.Began slave (Forward number)) f = stay slave f
free_for old new stay (Event.Began slave (Gateway number)) f = stay slave f
free_for old new stay (Event.Answered slave kind) f = tt
free_for old new stay (Event.Emergency slave octets) f = tt
free_for old new stay (Event.GatewayReply key mail) f = tt
free_for old new stay (Event.GatewayDone key) f = tt
free_for old new stay (Event.GivenUp slave) f = tt
free_for old new stay (Event.Cleared slave own) f = tt
free_for old new stay (Event.Opened slave) f = tt

free_at : (notes : List Notes) (es : List Event) (k : ℕ) (e : Event) → k < length es → e ≡ get_or es k e → AllFree notes es → FreeFor notes e
free_at notes [] k e l is f = absurd (omega (arith, l))
free_at notes (x ∷ es) zero e l is f = subst (λ z. FreeFor notes z) (sym is) f.0
free_at notes (x ∷ es) (suc k) e l is f = free_at notes es k e (omega (arith, l)) is f.1

-- up to one of them
abbrev pub NotedTo : ℕ → List Event → ℕ → List Notes → List Notes → Type 0
NotedTo frame es i old new = AllFree old es → (k : ℕ) → k < length old → beside_at (begun_noted new) k ≡ beside_at (begun_noted old) k ++ rows_by frame k (take i es)

pub noted_first : (frame : ℕ) (es : List Event) (notes : List Notes) → NotedTo frame es 0 notes notes
noted_first frame es notes = λ free k inside. sym (append-nil (beside_at (begun_noted notes) k))

pub noted_next : (frame : ℕ) (es : List Event) (i : ℕ) (e : Event) (old mid new : List Notes) → i < length es → e ≡ get_or es i e → length mid ≡ length old → NotedTo frame es i old mid → StayFree old mid → NotesBeside frame (e ∷ []) mid new → NotedTo frame es (i + 1) old new
noted_next frame es i e old mid new inside is same so stay one = λ free k l.
    let here = free_for old mid stay e (free_at old es i e inside is free) in
    let more : take (i + 1) es ≡ take i es ++ e ∷ [] = ap (λ n. take n es) (add-one i) ∙ take-suc es i e inside ∙ ap (λ z. take i es ++ z ∷ []) (sym is) in
    one (here, tt) k (subst (λ n. k < n) (sym same) l) ∙ ap (λ z. z ++ rows_by frame k (e ∷ [])) (so free k l) ∙ append_assoc (beside_at (begun_noted old) k) (rows_by frame k (take i es)) (rows_by frame k (e ∷ []))
    ∙ ap (λ z. beside_at (begun_noted old) k ++ z) (sym (rows_append frame k (take i es) (e ∷ [])) ∙ ap (λ z. rows_by frame k z) (sym more))

pub noted_last : (frame : ℕ) (es : List Event) (i : ℕ) (old new : List Notes) → length es ≤ i → NotedTo frame es i old new → NotesBeside frame es old new
noted_last frame es i old new over so = λ free k l. so free k l ∙ ap (λ z. beside_at (begun_noted old) k ++ rows_by frame k z) (take_all i es over)

pub stay_then : (a b c : List Notes) → StayFree a b → StayFree b c → StayFree a c
stay_then a b c f g = λ k h. g k (f k h)

-- ---- a service of the script is none beside it

pub script_rows : (notes : List Notes) (at : ℕ) (d n : Notes) (number : ℕ) (state : Bool) (frame : ℕ) → at < length notes → d ≡ slice_index_or notes at d → n ≡ began_script d number state frame → SameBeside notes (slice_set notes at n)
script_rows notes at d n number state frame l e is = λ k. by k (k == at) refl
  where
    same : rows_with beside_row n.begun ≡ rows_with beside_row d.begun ++ []
    same = ap (λ (z : Notes). rows_with beside_row z.begun) is ∙ rows_push d.begun (record { origin = Script d.scripted; frame = frame })

    by : (k : ℕ) (b : Bool) → (k == at) ≡ b → beside_at (begun_noted (slice_set notes at n)) k ≡ beside_at (begun_noted notes) k
    by k true f =
        let q : k ≡ at = eqb-true k at f in
        subst (λ j. beside_at (begun_noted (slice_set notes at n)) j ≡ beside_at (begun_noted notes) j) (sym q) (here_rows notes at d n [] l e same ∙ append-nil (beside_at (begun_noted notes) at))
    by k false f = other_rows notes at k n (λ q. absurd (let w = eq-eqb k at q in let bad : true ≡ false = sym w ∙ f in cc))

-- ---- the rows of packets, and those of mails, among these

module _ {X : Type 0} (row : Origin → ℕ → List X) where
  pub with_append : (bs cs : List Begun) → rows_with row (bs ++ cs) ≡ rows_with row bs ++ rows_with row cs
  with_append [] cs = refl
  with_append (b ∷ bs) cs = ap (λ z. row b.origin b.frame ++ z) (with_append bs cs) ∙ sym (append_assoc (row b.origin b.frame) (rows_with row bs) (rows_with row cs))

  module _ (beside : (o : Origin) (frame : ℕ) → rows_with row (beside_row o frame) ≡ row o frame) where
    with_beside : (bs : List Begun) → rows_with row (rows_with beside_row bs) ≡ rows_with row bs
    with_beside [] = refl
    with_beside (b ∷ bs) = with_append (beside_row b.origin b.frame) (rows_with beside_row bs) ∙ (λ i. beside b.origin b.frame i ++ with_beside bs i)

    at_beside : (rows : List (List Begun)) (k : ℕ) → rows_with row (beside_at rows k) ≡ rows_at row rows k
    at_beside [] k = refl
    at_beside (bs ∷ rest) zero = with_beside bs
    at_beside (bs ∷ rest) (suc k) = at_beside rest k

packet_beside : (o : Origin) (frame : ℕ) → rows_with packet_row (beside_row o frame) ≡ packet_row o frame
packet_beside (Script number) frame = refl
packet_beside (Forward number) frame = refl
packet_beside (Gateway number) frame = refl

pub packets_among : (rows : List (List Begun)) (k : ℕ) → rows_with packet_row (beside_at rows k) ≡ packets_at rows k
packets_among rows k = at_beside packet_row packet_beside rows k

mail_beside : (o : Origin) (frame : ℕ) → rows_with mail_row (beside_row o frame) ≡ mail_row o frame
mail_beside (Script number) frame = refl
mail_beside (Forward number) frame = refl
mail_beside (Gateway number) frame = refl

pub mails_among : (rows : List (List Begun)) (k : ℕ) → rows_with mail_row (beside_at rows k) ≡ mails_at rows k
mails_among rows k = at_beside mail_row mail_beside rows k

-- ---- in a book

pub begun_of_rows : (recover : ℕ) (nodes : List (Node SlaveServer)) (notes : List Notes) → length notes ≡ length nodes → begun_in (slave_rows recover nodes notes) ≡ begun_noted notes
begun_of_rows recover [] [] same = refl
begun_of_rows recover (node ∷ nodes) [] same = refl
begun_of_rows recover [] (n ∷ notes) same = absurd (omega (arith, same))
begun_of_rows recover (node ∷ nodes) (n ∷ notes) same = ap (λ bss. n.begun ∷ bss) (begun_of_rows recover nodes notes (omega (arith, same)))
