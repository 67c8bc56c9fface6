-- The slaves of a plan have stations of their own, and the lengths at each are those of its mailboxes.
use Rattle.std.proofs.Common.{◌≡◌, ℕ, suc, ◌+◌, ◌==◌, ◌||◌, Bool, true, false, List, [], ◌∷◌, ◌++◌, refl, ap, sym, ◌∙◌, subst, arith}
use Rattle.std.specs.Prelude.{Some, None, if◌then◌else◌, map, ◌<◌}
use Rattle.std.proofs.lemmas.Bool.{eq-eqb, ne_eqb}
use Rattle.std.specs.List.{list_any}
use Rattle.master_tour.specs.of_frame_view.View.{Lens}
use Rattle.master_tour.specs.of_frame_view.Shares as Shares
use Rattle.master_tour.specs.of_life_model.Lives.{Spot}
use Rattle.master_hand.specs.of_segment_plan.Sound.{repeated_from, is_same_station}
use Rattle.master_hand.specs.of_segment_plan.declared.service.Service as Service
use Rattle.master_hand.specs.of_segment_plan.declared.slave.SlaveSpec.{SlaveSpec}
use Rattle.life_runs.specs.Led.{Leads}
use Rattle.life_runs.specs.First.{lens_of, spot_of, leads_from, IsElsewhere, AreApart, HaveLens}

-- a station that isn't among those before
any_false : (t b : SlaveSpec) (xs ys : List SlaveSpec) → list_any (is_same_station t) (xs ++ b ∷ ys) ≡ false → (b.station == t.station) ≡ false
any_false t b [] ys e = first (is_same_station t b) (list_any (is_same_station t) ys) e
  where
    first : (c d : Bool) → (c || d) ≡ false → c ≡ false
    first true d f = f
    first false d f = refl
any_false t b (x ∷ xs) ys e = any_false t b xs ys (rest (is_same_station t x) (list_any (is_same_station t) (xs ++ b ∷ ys)) e)
  where
    rest : (c d : Bool) → (c || d) ≡ false → d ≡ false
    rest true d f = absurd (cc)
    rest false d f = f

moved : (xs : List SlaveSpec) (b : SlaveSpec) (ys : List SlaveSpec) (t : SlaveSpec) → (xs ++ b ∷ ys) ++ t ∷ [] ≡ xs ++ b ∷ (ys ++ t ∷ [])
moved [] b ys t = refl
moved (x ∷ xs) b ys t = ap (λ l. x ∷ l) (moved xs b ys t)

-- what a repeat that isn't there says of the first
not_repeated : (before : List SlaveSpec) (place : ℕ) (t : SlaveSpec) (ts : List SlaveSpec) → repeated_from is_same_station before place (t ∷ ts) ≡ None →
    (list_any (is_same_station t) before ≡ false) × (repeated_from is_same_station (before ++ t ∷ []) (place + 1) ts ≡ None)
not_repeated before place t ts e = go (list_any (is_same_station t) before) refl
  where
    go : (b : Bool) → list_any (is_same_station t) before ≡ b → (list_any (is_same_station t) before ≡ false) × (repeated_from is_same_station (before ++ t ∷ []) (place + 1) ts ≡ None)
    go true f = absurd (let g : Some place ≡ None = sym (ap (λ (b : Bool). if b then Some place else repeated_from is_same_station (before ++ t ∷ []) (place + 1) ts) f) ∙ e in cc)
    go false f = (f, sym (ap (λ (b : Bool). if b then Some place else repeated_from is_same_station (before ++ t ∷ []) (place + 1) ts) f) ∙ e)

elsewhere_behind : (xs : List SlaveSpec) (b : SlaveSpec) (ys : List SlaveSpec) (place : ℕ) (ss : List SlaveSpec) → repeated_from is_same_station (xs ++ b ∷ ys) place ss ≡ None → IsElsewhere b.station ss
elsewhere_behind xs b ys place [] e = tt
elsewhere_behind xs b ys place (t ∷ ts) e =
    let both = not_repeated (xs ++ b ∷ ys) place t ts e in
    (any_false t b xs ys both.0, elsewhere_behind xs b (ys ++ t ∷ []) (place + 1) ts (subst (λ l. repeated_from is_same_station l (place + 1) ts ≡ None) (moved xs b ys t) both.1))

pub apart_from : (before : List SlaveSpec) (place : ℕ) (ss : List SlaveSpec) → repeated_from is_same_station before place ss ≡ None → AreApart ss
apart_from before place [] e = tt
apart_from before place (s ∷ ss) e =
    let both = not_repeated before place s ss e in (elsewhere_behind before s [] (place + 1) ss both.1, apart_from (before ++ s ∷ []) (place + 1) ss both.1)

-- the lengths at a station are those of its slave
further : (s : SlaveSpec) (all ss : List SlaveSpec) → IsElsewhere s.station ss → HaveLens (lens_of all) ss → HaveLens (lens_of (s ∷ all)) ss
further s all [] other xs = tt
further s all (t ∷ ts) other xs =
    let same : lens_of (s ∷ all) t.station ≡ lens_of all t.station = ap (λ (b : Bool). if b then record { out = s.out_len; back = s.in_len } else lens_of all t.station) other.0 in
    ((ap (λ (l : Lens). l.out) same ∙ xs.0.0, ap (λ (l : Lens). l.back) same ∙ xs.0.1), further s all ts other.1 xs.1)

pub have_lens : (ss : List SlaveSpec) → AreApart ss → HaveLens (lens_of ss) ss
have_lens [] apart = tt
have_lens (s ∷ ss) apart =
    let here : lens_of (s ∷ ss) s.station ≡ record { out = s.out_len; back = s.in_len } = ap (λ (b : Bool). if b then record { out = s.out_len; back = s.in_len } else lens_of ss s.station) (eq-eqb s.station s.station refl) in
    ((ap (λ (l : Lens). l.out) here, ap (λ (l : Lens). l.back) here), further s ss ss apart.0 (have_lens ss apart.1))

-- and each has a place of its own
elsewhere : (rows : List (ℕ × Service.Service)) (spot : Spot) (place : ℕ) (ss : List SlaveSpec) → spot.place < place → IsElsewhere spot.station ss → Shares.IsElsewhere spot (map (λ (a : Leads). a.lived) (leads_from rows place ss))
elsewhere rows spot place [] l e = tt
elsewhere rows spot place (s ∷ ss) l e = (
  record { station = e.0; place = ne_eqb spot.place place (λ q. omega (arith, l, q)) },
  elsewhere rows spot (suc place) ss (omega (arith, l)) e.1,
)

pub distinct_from : (rows : List (ℕ × Service.Service)) (place : ℕ) (ss : List SlaveSpec) → AreApart ss → Shares.AreDistinct (map (λ (a : Leads). a.lived) (leads_from rows place ss))
distinct_from rows place [] apart = tt
distinct_from rows place (s ∷ ss) apart = (elsewhere rows (spot_of place s) (suc place) ss (omega arith) apart.0, distinct_from rows (suc place) ss apart.1)
