-- Frames count.
use Rattle.std.proofs.Common.{◌≡◌, ℕ, suc, ◌+◌, ◌-◌, ◌*◌, ◌<◌, ◌≤◌, Bool, true, false, Option, List, [], ◌∷◌, length, map, refl, ap, ◌∙◌, arith, if◌then◌else◌}
use Rattle.std.specs.Prelude.{nat_lt}
use Rattle.std.proofs.lemmas.Bool.{leb-true, leb-false}
use Rattle.life_runs.specs.of_exchange_model.Exchange.{Speech}
use Rattle.life_runs.specs.of_segment_model.Slaves.{Datagram}
use Rattle.life_runs.specs.of_life_model.Lives.{Spot}
use Rattle.life_runs.specs.of_life_model.Deadlines.{repair}
use Rattle.life_runs.specs.of_life_model.Tally.{Counts, new_tally, broken}
use Rattle.run_frames.specs.Begins.{AllNew}
use Rattle.run_frames.specs.Clocks.{Clocked, alone, in_round, one_by_one, repair_of, gains_all, reopened_all, tally_of}
use Rattle.run_frames.specs.Goes.{Under, AllUnder, AllClocked, OneUnder, all_lost}
use Rattle.run_frames.proofs.Losing.{one_loses}
use Rattle.run_frames.proofs.Lost.{lost_clocked, one_by_one_loses}
use Rattle.run_frames.proofs.Most.{all_most}
use Rattle.run_frames.proofs.Same.{GainsBefore, GainsLost, all_gains_lost, all_reopened_lost, as_many_lost, all_new, new_gains, new_reopened}

-- THE FIRST
pub new_is : {M Q R : Type 0} (slowest : ℕ) (last : Option ℕ) (cs : List (Clocked M Q R)) → AllNew cs → tally_of slowest (length cs) 0 last 0 0 0 cs ≡ new_tally (length cs * (5 + slowest))
new_is {M} {Q} {R} slowest last cs n =
    let won : gains_all cs - length cs ≡ 0 = omega (arith, new_gains cs n) in
    ap (λ z. record { frames = 0; lost = 0; gains = z; reopened = reopened_all cs; repair = repair_of slowest (length cs) 0 last 0 cs; still = 0 }) won
    ∙ ap (λ z. record { frames = 0; lost = 0; gains = 0; reopened = z; repair = repair_of slowest (length cs) 0 last 0 cs; still = 0 }) (new_reopened cs n)
    ∙ ap (λ z. record { frames = 0; lost = 0; gains = 0; reopened = 0; repair = z; still = 0 }) (first cs n)
  where
    first : (ds : List (Clocked M Q R)) → AllNew ds → repair_of slowest (length ds) 0 last 0 ds ≡ length ds * (5 + slowest)
    first [] k = omega arith
    first (d ∷ ds) k = some (nat_lt 0 (length (d ∷ ds))) refl (all_new slowest (d ∷ ds) k)
      where
        some : (b : Bool) → nat_lt 0 (length (d ∷ ds)) ≡ b → one_by_one (map (alone slowest 0) (d ∷ ds)) ≡ length (d ∷ ds) * (5 + slowest) →
            (if b then one_by_one (map (alone slowest 0) (d ∷ ds)) else repair (length (d ∷ ds)) (in_round slowest (length (d ∷ ds)) last 0 0 (d ∷ ds))) ≡ length (d ∷ ds) * (5 + slowest)
        some true e f = f
        some false e f = absurd (let no = leb-false 1 (length (d ∷ ds)) e in omega (arith, no))

-- what is behind a lost frame
pub lost_clocked_all : {M Q R : Type 0} (before : GainsBefore M Q R) (lost' : GainsLost M Q R) (x : Spot → Speech M Q R) (acknowledged : Q → Bool) (more : M → Bool) (passed : Q → Bool) (gives : Bool) (recover number : ℕ) (sent : List (Datagram M)) (slowest : ℕ) (as' : List (Clocked M Q R)) (us : List (Under M Q R)) →
    AllClocked slowest as' → AllUnder x acknowledged more passed number sent as' us → AllClocked slowest (all_lost x acknowledged more passed gives recover number sent as' us)
lost_clocked_all before lost' x acknowledged more passed gives recover number sent slowest [] [] k t = tt
lost_clocked_all before lost' x acknowledged more passed gives recover number sent slowest [] (u ∷ us) k t = absurd t
lost_clocked_all before lost' x acknowledged more passed gives recover number sent slowest (a ∷ as') [] k t = absurd t
lost_clocked_all before lost' x acknowledged more passed gives recover number sent slowest (a ∷ as') (u ∷ us) k t =
    (lost_clocked before lost' x acknowledged more passed gives recover number sent slowest a u k.0 t.0, lost_clocked_all before lost' x acknowledged more passed gives recover number sent slowest as' us k.1 t.1)

-- A LOST FRAME
pub lost_counts : {M Q R : Type 0} (before : GainsBefore M Q R) (lost' : GainsLost M Q R) (x : Spot → Speech M Q R) (acknowledged : Q → Bool) (more : M → Bool) (passed : Q → Bool) (gives : Bool) (recover slowest opened later number lost still : ℕ) (last next : Option ℕ) (sent : List (Datagram M)) (as' : List (Clocked M Q R)) (us : List (Under M Q R)) →
    AllClocked slowest as' → AllUnder x acknowledged more passed number sent as' us → opened ≤ later → (opened < length as' → OneUnder us) →
    Counts (length as') slowest (tally_of slowest (length as') opened last number lost still as') (tally_of slowest (length as') later next (suc number) (suc lost) 0 (all_lost x acknowledged more passed gives recover number sent as' us))
lost_counts {M} {Q} {R} before lost' x acknowledged more passed gives recover slowest opened later number lost still last next sent as' us k t l one =
    let g = all_gains_lost before lost' x acknowledged more passed gives recover number sent as' us t in
    let m = as_many_lost before lost' x acknowledged more passed gives recover number sent as' us t in
    Counts.lost refl refl (omega (arith, g, m)) (all_reopened_lost before lost' x acknowledged more passed gives recover number sent as' us t) (off (nat_lt later (length as')) (nat_lt opened (length as')) refl refl m) refl
  where
    bs : List (Clocked M Q R)
    bs = all_lost x acknowledged more passed gives recover number sent as' us

    off : (b c : Bool) → nat_lt later (length as') ≡ b → nat_lt opened (length as') ≡ c → length bs ≡ length as' →
        (if b then one_by_one (map (alone slowest (suc number)) bs) else repair (length as') (in_round slowest (length as') next (suc number) 0 bs))
        ≤ (if c then one_by_one (map (alone slowest number) as') else repair (length as') (in_round slowest (length as') last number 0 as')) + broken (length as') slowest
    off true false e f m = absurd (let p = leb-true (suc later) (length as') e in let q = leb-false (suc opened) (length as') f in omega (arith, p, q, l))
    off true true e f m =
        let p : opened < length as' = leb-true (suc opened) (length as') f in
        let less = one_loses slowest (map (alone slowest number) as') (map (alone slowest (suc number)) bs) (one_by_one_loses before lost' x acknowledged more passed gives recover number sent slowest as' us k t (one p)) in
        let small : broken 1 slowest ≤ broken (length as') slowest = omega (arith, p) in
        omega (arith, less, small)
    off false c e f m =
        let most = all_most slowest (length as') next (suc number) 0 bs (omega (arith, m)) (lost_clocked_all before lost' x acknowledged more passed gives recover number sent slowest as' us k t) in
        omega (arith, most)
