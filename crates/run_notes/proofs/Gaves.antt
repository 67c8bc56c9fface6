-- What is noted of give-ups, slave by slave.
use Rattle.std.proofs.Common.{◌≡◌, ◌≤◌, ◌<◌, ℕ, zero, suc, Bool, true, false, Some, List, [], ◌∷◌, ◌++◌, map, length, get_or, refl, ap, sym, ◌∙◌, subst, arith}
use Rattle.std.specs.Prelude.{nat_lt, if◌then◌else◌, IfSome, slice_get, slice_set, slice_index_or}
use Rattle.run_frames.specs.of_life_runs.Led.{Leads}
use Rattle.run_book.specs.of_master_node.Wants.{gave_of, IsCounted, AllCounted}
use Rattle.run_notes.specs.declared.notes.Notes.{Notes}
use Rattle.run_notes.specs.Slaves.{gaves_noted, gave_at, gaves_behind, GaveBy, SameSlaves}
use Rattle.run_book.specs.of_master_node.Shows.{lived_of}
use Rattle.run_book.specs.of_master_node.Told.{HasLives}
use Rattle.run_book.specs.of_master_node.declared.node.MasterNode.{MasterNode}
use Rattle.run_frames.specs.of_segment_ring.declared.wire.Fate.{Fate}
use Rattle.run_frames.specs.of_segment_ring.declared.wire.Fate.TheVariants.{Pass, Lost}
use Rattle.run_notes.specs.declared.standing.Log.{Log}

-- this frame more, where a slave was given up more often than before
abbrev pub with_more : ℕ → List ℕ → List ℕ → List ℕ
with_more frame now old = if nat_lt (length old) (length now) then old ++ frame ∷ [] else old

-- behind the first slaves
abbrev pub walked : ℕ → ℕ → List (List ℕ) → List (List ℕ) → List (List ℕ)
walked zero frame nows olds = olds
walked (suc k) frame (now ∷ nows) (old ∷ olds) = with_more frame now old ∷ walked k frame nows olds
walked (suc k) frame _ olds = olds

-- one slave more
pub walked_on : (k frame : ℕ) (nows olds : List (List ℕ)) → gave_at k frame nows (walked k frame nows olds) ≡ walked (suc k) frame nows olds
walked_on zero frame [] olds = refl
walked_on zero frame (now ∷ nows) [] = refl
walked_on zero frame (now ∷ nows) (old ∷ olds) = refl
walked_on (suc k) frame [] olds = refl
walked_on (suc k) frame (now ∷ nows) [] = refl
walked_on (suc k) frame (now ∷ nows) (old ∷ olds) = ap (λ gs. with_more frame now old ∷ gs) (walked_on k frame nows olds)

-- all of them
pub walked_all : (k frame : ℕ) (nows olds : List (List ℕ)) → length olds ≤ k → walked k frame nows olds ≡ gaves_behind frame nows olds
walked_all zero frame [] olds few = refl
walked_all zero frame (now ∷ nows) [] few = refl
walked_all zero frame (now ∷ nows) (old ∷ olds) few = absurd (omega (arith, few))
walked_all (suc k) frame [] olds few = refl
walked_all (suc k) frame (now ∷ nows) [] few = refl
walked_all (suc k) frame (now ∷ nows) (old ∷ olds) few = ap (λ gs. with_more frame now old ∷ gs) (walked_all k frame nows olds (omega (arith, few)))

-- ONE SLAVE, whose master says whether it was given up more often than is noted
module _ (recover frame : ℕ) (more : Bool) where
  abbrev Tells : List ℕ → Leads → Type 0
  Tells old a = IsCounted recover a.lived.life.stand (length (gave_of a)) → more ≡ nat_lt (length old) (length (gave_of a))

  pub none_more : (place : ℕ) (leads : List Leads) (olds : List (List ℕ)) (old : List ℕ) → more ≡ false → AllCounted recover leads → IfSome (slice_get leads place) (Tells old) → slice_get olds place ≡ Some old →
      olds ≡ gave_at place frame (map gave_of leads) olds
  none_more zero [] olds old less c t e = refl
  none_more (suc place) [] olds old less c t e = refl
  none_more zero (a ∷ as') [] old less c t e = refl
  none_more (suc place) (a ∷ as') [] old less c t e = refl
  none_more zero (a ∷ as') (g ∷ gs) old less c t e =
      let same : g ≡ old = cc in
      let fewer : nat_lt (length g) (length (gave_of a)) ≡ false = ap (λ (k : List ℕ). nat_lt (length k) (length (gave_of a))) same ∙ sym (t c.0) ∙ less in
      ap (λ (b : Bool). (if b then g ++ frame ∷ [] else g) ∷ gs) (sym fewer)
  none_more (suc place) (a ∷ as') (g ∷ gs) old less c t e = ap (λ ks. g ∷ ks) (none_more place as' gs old less c.1 t e)

  pub one_more : (place : ℕ) (leads : List Leads) (olds : List (List ℕ)) (old : List ℕ) → more ≡ true → place < length leads → AllCounted recover leads → IfSome (slice_get leads place) (Tells old) → slice_get olds place ≡ Some old →
      slice_set olds place (old ++ frame ∷ []) ≡ gave_at place frame (map gave_of leads) olds
  one_more place [] olds old more_is l c t e = absurd (omega (arith, l))
  one_more zero (a ∷ as') [] old more_is l c t e = absurd (cc)
  one_more (suc place) (a ∷ as') [] old more_is l c t e = absurd (cc)
  one_more zero (a ∷ as') (g ∷ gs) old more_is l c t e =
      let same : old ≡ g = cc in
      let fewer : nat_lt (length g) (length (gave_of a)) ≡ true = ap (λ (k : List ℕ). nat_lt (length k) (length (gave_of a))) (sym same) ∙ sym (t c.0) ∙ more_is in
      ap (λ (k : List ℕ). (k ++ frame ∷ []) ∷ gs) same ∙ ap (λ (b : Bool). (if b then g ++ frame ∷ [] else g) ∷ gs) (sym fewer)
  one_more (suc place) (a ∷ as') (g ∷ gs) old more_is l c t e = ap (λ ks. g ∷ ks) (one_more place as' gs old more_is (omega (arith, l)) c.1 t e)

-- WHAT IS NOTED of one slave anew
pub noted_at : (notes : List Notes) (place : ℕ) (n : Notes) → gaves_noted (slice_set notes place n) ≡ slice_set (gaves_noted notes) place n.gave
noted_at [] zero n = refl
noted_at [] (suc place) n = refl
noted_at (m ∷ notes) zero n = refl
noted_at (m ∷ notes) (suc place) n = ap (λ gs. m.gave ∷ gs) (noted_at notes place n)

pub same_gaves : (notes : List Notes) (place : ℕ) (d n : Notes) → n.gave ≡ (slice_index_or notes place d).gave → gaves_noted (slice_set notes place n) ≡ gaves_noted notes
same_gaves [] zero d n e = refl
same_gaves [] (suc place) d n e = refl
same_gaves (m ∷ notes) zero d n e = ap (λ (g : List ℕ). g ∷ gaves_noted notes) e
same_gaves (m ∷ notes) (suc place) d n e = ap (λ gs. m.gave ∷ gs) (same_gaves notes place d n e)

pub gave_there : (notes : List Notes) (place : ℕ) (d : Notes) → place < length notes → slice_get (gaves_noted notes) place ≡ Some (slice_index_or notes place d).gave
gave_there [] place d l = absurd (omega (arith, l))
gave_there (m ∷ notes) zero d l = refl
gave_there (m ∷ notes) (suc place) d l = gave_there notes place d (omega (arith, l))

-- events, and then the fate of the frame
pub gave_after : (fate : Fate) (frame : ℕ) (m : MasterNode) (a b c : Log) → SameSlaves a b → gaves_noted b.notes ≡ gaves_noted a.notes → GaveBy fate frame m b c → GaveBy fate frame m a c
gave_after Pass frame m a b c same e by = by ∙ e
gave_after (Lost after) frame m a b c same e by =
    λ lens leads lives all.
    by lens leads (subst (λ (n : ℕ). HasLives lens n m (map lived_of leads)) (sym same.recover) lives) (subst (λ (n : ℕ). AllCounted n leads) (sym same.recover) all)
    ∙ ap (gaves_behind frame (map gave_of leads)) e

-- the give-ups of the notes at a place
pub gave_got : (notes : List Notes) (place : ℕ) (n : Notes) → place < length notes → n ≡ get_or notes place n → slice_get (gaves_noted notes) place ≡ Some n.gave
gave_got [] place n l e = absurd (omega (arith, l))
gave_got (m ∷ notes) zero n l e = ap (λ (k : Notes). Some k.gave) (sym e)
gave_got (m ∷ notes) (suc place) n l e = gave_got notes place n (omega (arith, l)) e

-- they are the same, read or lent
pub same_there : (notes : List Notes) (place : ℕ) (n d : Notes) → place < length notes → n ≡ get_or notes place n → d ≡ slice_index_or notes place d → d.gave ≡ n.gave
same_there [] place n d l e f = absurd (omega (arith, l))
same_there (m ∷ notes) zero n d l e f = ap (λ (k : Notes). k.gave) (f ∙ sym e)
same_there (m ∷ notes) (suc place) n d l e f = same_there notes place n d (omega (arith, l)) e f

-- a master that tells of a count, of one that is the same
pub tells_of : (recover : ℕ) (more : Bool) (times : ℕ) (old : List ℕ) (leads : List Leads) (k : ℕ) → times ≡ length old → IfSome (slice_get leads k) (λ a. IsCounted recover a.lived.life.stand (length (gave_of a)) → more ≡ nat_lt times (length (gave_of a))) →
    IfSome (slice_get leads k) (λ a. IsCounted recover a.lived.life.stand (length (gave_of a)) → more ≡ nat_lt (length old) (length (gave_of a)))
tells_of recover more times old leads k e x =
    subst (λ (n : ℕ). IfSome (slice_get leads k) (λ a. IsCounted recover a.lived.life.stand (length (gave_of a)) → more ≡ nat_lt n (length (gave_of a)))) e x
