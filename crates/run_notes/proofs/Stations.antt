-- The stations of live slaves.
use Rattle.std.proofs.Common.{◌≡◌, ℕ, zero, suc, ◌+◌, ◌<◌, List, [], ◌∷◌, length, map, Bool, true, false, refl, sym, ap, ◌∙◌, arith}
use Rattle.std.specs.Prelude.{slice_get, slice_set, slice_index_or, Option, Some, None, is_some, if◌then◌else◌}
use Rattle.run_book.specs.of_segment_plan.declared.service.Service.{Service}
use Rattle.run_book.specs.of_segment_plan.declared.slave.SlaveSpec.{SlaveSpec}
use Rattle.run_notes.specs.declared.notes.Notes.{Notes}
use Rattle.run_notes.specs.Notes.{station_of, stations_of}
use Rattle.run_notes.specs.Slaves.{first_notes, home_of}

home_so : (home station : ℕ × ℕ) (gone : Bool) → (if gone then None else Some home) ≡ Some station → home ≡ station
home_so home station true is = absurd (cc)
home_so home station false is = cc

-- a station that stands is its slave's
pub stands_at_home : (recover : ℕ) (homes : List (ℕ × ℕ)) (notes : List Notes) (k : ℕ) (station : ℕ × ℕ) → slice_get (stations_of recover homes notes) k ≡ Some (Some station) → slice_get homes k ≡ Some station
stands_at_home recover [] notes k station is = absurd (cc)
stands_at_home recover (home ∷ homes) [] k station is = absurd (cc)
stands_at_home recover (home ∷ homes) (n ∷ notes) zero station is = ap Some (home_so home station (is_some (slice_get n.gave recover)) (cc))
stands_at_home recover (home ∷ homes) (n ∷ notes) (suc k) station is = stands_at_home recover homes notes k station is

-- before anything happened all are live
pub all_live : (recover : ℕ) (services : List (ℕ × Service)) (number : ℕ) (specs : List SlaveSpec) → map Some (map home_of specs) ≡ stations_of recover (map home_of specs) (first_notes services number specs)
all_live recover services number [] = refl
all_live recover services number (spec ∷ specs) = ap (λ l. Some (home_of spec) ∷ l) (all_live recover services (number + 1) specs)

-- a log before anything happened
pub first_lit : (recover : ℕ) (services : List (ℕ × Service)) (specs : List SlaveSpec) (homes : List (ℕ × ℕ)) (stations : List (Option (ℕ × ℕ))) (notes : List Notes) → homes ≡ map home_of specs → stations ≡ map Some homes → notes ≡ first_notes services 0 specs →
    stations ≡ stations_of recover homes notes
first_lit recover services specs homes stations notes h s n =
    s ∙ ap (map Some) h ∙ all_live recover services 0 specs ∙ ap (λ l. stations_of recover l (first_notes services 0 specs)) (sym h) ∙ ap (stations_of recover homes) (sym n)

-- what became of one slave
pub one_noted : (recover : ℕ) (homes : List (ℕ × ℕ)) (notes : List Notes) (at : ℕ) (home : ℕ × ℕ) (n : Notes) → slice_get homes at ≡ Some home →
    slice_set (stations_of recover homes notes) at (station_of recover home n) ≡ stations_of recover homes (slice_set notes at n)
one_noted recover [] notes at home n is = absurd (cc)
one_noted recover (h ∷ homes) [] at home n is = none at
  where
    none : (at : ℕ) → slice_set [] at (station_of recover home n) ≡ stations_of recover (h ∷ homes) (slice_set [] at n)
    none zero = refl
    none (suc at) = refl
one_noted recover (h ∷ homes) (m ∷ notes) zero home n is = let e : home ≡ h = cc in ap (λ (x : ℕ × ℕ). station_of recover x n ∷ stations_of recover homes notes) e
one_noted recover (h ∷ homes) (m ∷ notes) (suc at) home n is = ap (λ l. station_of recover h m ∷ l) (one_noted recover homes notes at home n is)

-- a place among homes and notes is one among stations
pub among_stations : (recover : ℕ) (homes : List (ℕ × ℕ)) (notes : List Notes) (at : ℕ) (home : ℕ × ℕ) → slice_get homes at ≡ Some home → at < length notes → at < length (stations_of recover homes notes)
among_stations recover [] notes at home is n = absurd (cc)
among_stations recover (h ∷ homes) [] at home is n = absurd (omega (arith, n))
among_stations recover (h ∷ homes) (m ∷ notes) zero home is n = omega arith
among_stations recover (h ∷ homes) (m ∷ notes) (suc at) home is n = let more = among_stations recover homes notes at home is (omega (arith, n)) in omega (arith, more)

-- what became of one slave that was given up as before
pub same_noted : (recover : ℕ) (homes : List (ℕ × ℕ)) (notes : List Notes) (at : ℕ) (d n : Notes) → n.gave ≡ (slice_index_or notes at d).gave → stations_of recover homes (slice_set notes at n) ≡ stations_of recover homes notes
same_noted recover [] notes at d n same = refl
same_noted recover (home ∷ homes) [] at d n same = none at
  where
    none : (at : ℕ) → stations_of recover (home ∷ homes) (slice_set [] at n) ≡ []
    none zero = refl
    none (suc at) = refl
same_noted recover (home ∷ homes) (m ∷ notes) zero d n same = ap (λ (l : List ℕ). (if is_some (slice_get l recover) then None else Some home) ∷ stations_of recover homes notes) same
same_noted recover (home ∷ homes) (m ∷ notes) (suc at) d n same = ap (λ l. station_of recover home m ∷ l) (same_noted recover homes notes at d n same)

pub length_stations : (recover : ℕ) (homes : List (ℕ × ℕ)) (notes : List Notes) → length notes ≡ length homes → length (stations_of recover homes notes) ≡ length homes
length_stations recover [] notes same = refl
length_stations recover (home ∷ homes) [] same = absurd (cc)
length_stations recover (home ∷ homes) (n ∷ notes) same = ap suc (length_stations recover homes notes (cc))
