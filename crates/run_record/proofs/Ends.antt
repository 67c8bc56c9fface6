-- HOW A RUN ENDS, slave by slave: where nothing is left to do each was given up for good, or is idle and settled.
use Rattle.std.proofs.Common.{◌≡◌, ◌⊎◌, inl, inr, ◌≤◌, ℕ, zero, suc, Bool, true, false, None, List, [], ◌∷◌, map, length, refl, ap, sym, ◌∙◌, subst, arith}
use Rattle.std.specs.Prelude.{◌||◌, ◌&&◌, nat_lt, slice_get, is_some, All}
use Rattle.std.proofs.lemmas.Bool.{ltb-false}
use Rattle.std.proofs.lemmas.List.Elements.{All-head, All-tail}
use Rattle.std.proofs.lemmas.Option.{slice_get_past}
use Rattle.plan_ring.specs.of_frame_view.View.{Lens}
use Rattle.plan_ring.specs.of_frame_view.Shares.{AllBoth}
use Rattle.served_places.specs.of_life_model.Lives.{Stand}
use Rattle.served_places.specs.of_life_runs.Led.{Leads}
use Rattle.packets_heard.specs.of_master_node.Shows.{lived_of}
use Rattle.packets_heard.specs.of_master_node.Told.{HasLives}
use Rattle.packets_heard.specs.of_master_node.Serving.{run_lead}
use Rattle.packets_heard.specs.of_master_node.Wants.{gave_of, IsCounted, AllCounted, IsLeft, AllLeft, IsServedOut}
use Rattle.packets_heard.specs.of_master_node.declared.node.MasterNode.{MasterNode}
use Rattle.packets_heard.specs.Recalled.{AllSettled}
use Rattle.run_notes.specs.of_run_book.declared.book.SlaveBook.{SlaveBook}
use Rattle.run_notes.specs.declared.notes.Notes.{Notes}
use Rattle.run_record.specs.Led.{RestsSo, DoneSo}
use Rattle.run_notes.specs.Slaves.{gaves_noted, gaves_in, slave_row, slave_rows}
use Rattle.run_record.specs.Session.{is_at_rest, are_at_rest, some_given_up, has_live}
use Rattle.run_record.proofs.Heads.{heads, not_none, rests}
use Rattle.run_record.proofs.Gones.{AllGone, all_gone, first_false, second_false}
use Rattle.served_places.specs.of_life_runs.Served.{Serves}
use Rattle.packets_heard.specs.of_slave_server.Serving.{next_mail}
use Rattle.packets_heard.specs.of_slave_server.declared.server.SlaveServer.{SlaveServer}
use Rattle.packets_heard.specs.of_slave_node.Node.{Node, is_settled}

both_true : (a b : Bool) → (a && b) ≡ true → (a ≡ true) × (b ≡ true)
both_true true b e = (refl, e)
both_true false b e = absurd (let bad : false ≡ true = e in cc)

second_true : (a b : Bool) → (a || b) ≡ true → a ≡ false → b ≡ true
second_true true b e fails = absurd (let bad : true ≡ false = fails in cc)
second_true false b e fails = e

-- WHERE NOTHING IS LEFT of a slave of a serving nothing is left of it as of one of a run
served_one : (lens : ℕ → Lens) (w : Serves) → IsServedOut lens w → IsLeft lens w.lead
served_one lens w (inl gone) = inl gone
served_one lens w (inr out) = inr out.idle

pub served_left : (lens : ℕ → Lens) (ws : List Serves) → All (IsServedOut lens) ws → AllLeft lens (map run_lead ws)
served_left lens [] out = tt
served_left lens (w ∷ ws) out = (served_one lens w (All-head (IsServedOut lens) w ws out), served_left lens ws (All-tail (IsServedOut lens) w ws out))

-- AN IDLE SLAVE is settled, where it is at rest
settled_so : (lens : ℕ → Lens) (recover : ℕ) (a : Leads) (node : Node SlaveServer) (n : Notes) → IsCounted recover a.lived.life.stand (length (gave_of a)) → n.gave ≡ gave_of a → is_at_rest (slave_row recover node n) ≡ true → IsLeft lens a → RestsSo lens a (slave_row recover node n)
settled_so lens recover a node n c g r (inl gone) = inl gone
settled_so lens recover a node n c g r (inr idle) =
    let few : length (gave_of a) ≤ recover = (let P : Stand → Type 0 = λ s. IsCounted recover s (length (gave_of a)) in subst P idle.stand c) in
    let none : slice_get n.gave recover ≡ None = ap (λ (k : List ℕ). slice_get k recover) g ∙ slice_get_past (gave_of a) recover few in
    inr (idle, second_true (is_some (slice_get n.gave recover)) (is_settled next_mail node) r (ap is_some none))

pub rest_so : (lens : ℕ → Lens) (recover : ℕ) (leads : List Leads) (nodes : List (Node SlaveServer)) (notes : List Notes) → length notes ≡ length nodes → AllCounted recover leads → gaves_noted notes ≡ map gave_of leads →
    are_at_rest (slave_rows recover nodes notes) ≡ true → AllLeft lens leads → AllBoth (RestsSo lens) leads (slave_rows recover nodes notes)
rest_so lens recover [] [] [] same c g r l = tt
rest_so lens recover [] (node ∷ nodes) [] same c g r l = tt
rest_so lens recover [] nodes (n ∷ notes) same c g r l = absurd (not_none n.gave (gaves_noted notes) (sym g))
rest_so lens recover (a ∷ as') nodes [] same c g r l = absurd (not_none (gave_of a) (map gave_of as') g)
rest_so lens recover (a ∷ as') [] (n ∷ notes) same c g r l = absurd (omega (arith, same))
rest_so lens recover (a ∷ as') (node ∷ nodes) (n ∷ notes) same c g r l =
    let both = both_true (is_at_rest (slave_row recover node n)) (are_at_rest (slave_rows recover nodes notes)) r in (
      settled_so lens recover a node n c.0 (heads n.gave (gave_of a) (gaves_noted notes) (map gave_of as') g) both.0 l.0,
      rest_so lens recover as' nodes notes (omega (arith, same)) c.1 (rests n.gave (gave_of a) (gaves_noted notes) (map gave_of as') g) both.1 l.1,
    )

-- the rows have the give-ups that are noted
pub gaves_of_rows : (recover : ℕ) (nodes : List (Node SlaveServer)) (notes : List Notes) → length notes ≡ length nodes → gaves_in (slave_rows recover nodes notes) ≡ gaves_noted notes
gaves_of_rows recover [] [] same = refl
gaves_of_rows recover (node ∷ nodes) [] same = refl
gaves_of_rows recover [] (n ∷ notes) same = absurd (omega (arith, same))
gaves_of_rows recover (node ∷ nodes) (n ∷ notes) same = ap (λ (gs : List (List ℕ)). n.gave ∷ gs) (gaves_of_rows recover nodes notes (omega (arith, same)))

-- NONE WAS GIVEN UP
never : (xs : List ℕ) → nat_lt 0 (length xs) ≡ false → xs ≡ []
never [] e = refl
never (x ∷ xs) e = absurd (let longer = ltb-false 0 (length (x ∷ xs)) e in omega (arith, longer))

done_so : (lens : ℕ → Lens) (recover : ℕ) (a : Leads) (row : SlaveBook) → IsCounted recover a.lived.life.stand (length (gave_of a)) → gave_of a ≡ [] → RestsSo lens a row → DoneSo lens a row
done_so lens recover a row c none (inl gone) =
    let count : length (gave_of a) ≡ suc recover = (let P : Stand → Type 0 = λ s. IsCounted recover s (length (gave_of a)) in subst P gone c) in
    let few = ap length none in
    absurd (omega (arith, count, few))
done_so lens recover a row c none (inr rests) = record { idle = rests.0; settled = rests.1; stayed = none }

pub all_done : (lens : ℕ → Lens) (recover : ℕ) (leads : List Leads) (rows : List SlaveBook) → AllCounted recover leads → gaves_in rows ≡ map gave_of leads → some_given_up rows ≡ false → AllBoth (RestsSo lens) leads rows → AllBoth (DoneSo lens) leads rows
all_done lens recover [] [] c g e r = tt
all_done lens recover [] (row ∷ rows) c g e r = absurd r
all_done lens recover (a ∷ as') [] c g e r = absurd r
all_done lens recover (a ∷ as') (row ∷ rows) c g e r =
    let h : row.gave ≡ gave_of a = heads row.gave (gave_of a) (gaves_in rows) (map gave_of as') g in (
      done_so lens recover a row c.0 (sym h ∙ never row.gave (first_false (nat_lt 0 (length row.gave)) (some_given_up rows) e)) r.0,
      all_done lens recover as' rows c.1 (rests row.gave (gave_of a) (gaves_in rows) (map gave_of as') g) (second_false (nat_lt 0 (length row.gave)) (some_given_up rows) e) r.1,
    )

-- WHERE NO SLAVE IS LIVE all are at rest
here_some : (xs : List ℕ) (k : ℕ) → length xs ≡ suc k → is_some (slice_get xs k) ≡ true
here_some [] k e = absurd (omega (arith, e))
here_some (x ∷ xs) zero e = refl
here_some (x ∷ xs) (suc k) e = here_some xs k (omega (arith, e))

gone_rest : (recover : ℕ) (leads : List Leads) (nodes : List (Node SlaveServer)) (notes : List Notes) → AllGone leads → AllCounted recover leads → gaves_noted notes ≡ map gave_of leads → are_at_rest (slave_rows recover nodes notes) ≡ true
gone_rest recover leads [] notes gone c g = refl
gone_rest recover leads (node ∷ nodes) [] gone c g = refl
gone_rest recover [] (node ∷ nodes) (n ∷ notes) gone c g = absurd (not_none n.gave (gaves_noted notes) (sym g))
gone_rest recover (a ∷ as') (node ∷ nodes) (n ∷ notes) gone c g =
    let h : n.gave ≡ gave_of a = heads n.gave (gave_of a) (gaves_noted notes) (map gave_of as') g in
    let count : length (gave_of a) ≡ suc recover = (let P : Stand → Type 0 = λ s. IsCounted recover s (length (gave_of a)) in subst P gone.0 c.0) in
    let some : is_some (slice_get n.gave recover) ≡ true = here_some n.gave recover (ap length h ∙ count) in
    ap (λ (b : Bool). (b || is_settled next_mail node) && are_at_rest (slave_rows recover nodes notes)) some ∙ gone_rest recover as' nodes notes gone.1 c.1 (rests n.gave (gave_of a) (gaves_noted notes) (map gave_of as') g)

pub some_lived : (lens : ℕ → Lens) (recover recover' : ℕ) (m : MasterNode) (leads : List Leads) (nodes : List (Node SlaveServer)) (notes : List Notes) → HasLives lens recover m (map lived_of leads) → AllCounted recover' leads → gaves_noted notes ≡ map gave_of leads →
    (are_at_rest (slave_rows recover' nodes notes) ≡ false) ⊎ (has_live m ≡ true) → has_live m ≡ true
some_lived lens recover recover' m leads nodes notes lives c g (inr live) = live
some_lived lens recover recover' m leads nodes notes lives c g (inl busy) = by (has_live m) refl
  where
    by : (b : Bool) → has_live m ≡ b → has_live m ≡ true
    by true e = e
    by false e =
        let rest = gone_rest recover' leads nodes notes (all_gone lens recover leads m.tour.stops.items lives e) c g in
        absurd (let bad : true ≡ false = sym rest ∙ busy in cc)

-- WHERE EACH IS SETTLED that wasn't given up for good all are at rest
pub settled_rest : (recover : ℕ) (leads : List Leads) (nodes : List (Node SlaveServer)) (notes : List Notes) → AllSettled leads nodes → AllCounted recover leads → gaves_noted notes ≡ map gave_of leads → are_at_rest (slave_rows recover nodes notes) ≡ true
settled_rest recover leads [] notes settled c g = refl
settled_rest recover leads (node ∷ nodes) [] settled c g = refl
settled_rest recover [] (node ∷ nodes) (n ∷ notes) settled c g = absurd (not_none n.gave (gaves_noted notes) (sym g))
settled_rest recover (a ∷ as') (node ∷ nodes) (n ∷ notes) settled c g =
    let h : n.gave ≡ gave_of a = heads n.gave (gave_of a) (gaves_noted notes) (map gave_of as') g in
    let rest = settled_rest recover as' nodes notes settled.1 c.1 (rests n.gave (gave_of a) (gaves_noted notes) (map gave_of as') g) in
    elim settled.0 [
      | inl gone ↦ (let count : length (gave_of a) ≡ suc recover = (let P : Stand → Type 0 = λ s. IsCounted recover s (length (gave_of a)) in subst P gone c.0) in
          ap (λ (b : Bool). (b || is_settled next_mail node) && are_at_rest (slave_rows recover nodes notes)) (here_some n.gave recover (ap length h ∙ count)) ∙ rest)
      | inr is ↦ ap (λ (b : Bool). (is_some (slice_get n.gave recover) || b) && are_at_rest (slave_rows recover nodes notes)) is ∙ either_true (is_some (slice_get n.gave recover)) (are_at_rest (slave_rows recover nodes notes)) rest
    ]
  where
    either_true : (a b : Bool) → b ≡ true → ((a || true) && b) ≡ true
    either_true true b e = e
    either_true false b e = e
