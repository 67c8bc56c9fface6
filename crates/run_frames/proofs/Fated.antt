-- No more frames are lost than the schedule has.
use Rattle.std.proofs.Common.{◌≡◌, ℕ, zero, suc, ◌+◌, ◌<◌, ◌≤◌, ◌==◌, Bool, true, false, List, [], ◌∷◌, length, refl, ap, arith, if◌then◌else◌, eqb-true}
use Rattle.life_runs.specs.of_link_mails.Body.{Body}
use Rattle.life_runs.specs.of_life_model.Gains.{gains}
use Rattle.life_runs.specs.Led.{Exchanged, Leads}
use Rattle.life_runs.specs.of_master_duty.Reply.{Reply}
use Rattle.life_runs.specs.of_master_hand.Spoken.{Asked}
use Rattle.life_runs.specs.of_segment_ring.Schedule.{fate_at}
use Rattle.life_runs.specs.of_segment_ring.declared.wire.Fate.TheVariants.{Lost}
use Rattle.run_frames.specs.Clocks.{Clocked, reopened, gains_all, reopened_all}
use Rattle.run_frames.specs.Fates.{AreFated, lost_by, lost_of, gained_in}
use Rattle.run_frames.specs.Led.{AreLed}

-- so many of these frames are those of a row, from a number on
abbrev hit : Bool → ℕ
hit true = 1
hit false = 0

abbrev hits : ℕ → ℕ → ℕ → ℕ
hits row number zero = 0
hits row number (suc n) = hit (row == number) + hits row (suc number) n

none_above : (row number n : ℕ) → row < number → hits row number n ≡ 0
none_above row number zero l = refl
none_above row number (suc n) l = go (row == number) refl (none_above row (suc number) n (omega (arith, l)))
  where
    go : (b : Bool) → (row == number) ≡ b → hits row (suc number) n ≡ 0 → hit b + hits row (suc number) n ≡ 0
    go true e r = absurd (let same = eqb-true row number e in omega (arith, same, l))
    go false e r = omega (arith, r)

one_hit : (row number n : ℕ) → hits row number n ≤ 1
one_hit row number zero = omega arith
one_hit row number (suc n) = go (row == number) refl (one_hit row (suc number) n) (λ l. none_above row (suc number) n l)
  where
    go : (b : Bool) → (row == number) ≡ b → hits row (suc number) n ≤ 1 → (row < suc number → hits row (suc number) n ≡ 0) → hit b + hits row (suc number) n ≤ 1
    go true e r none = (let same = eqb-true row number e in omega (arith, none (omega (arith, same))))
    go false e r none = omega (arith, r)

-- those that a schedule loses of so many frames, from a number on
abbrev scheduled : List (ℕ × ℕ) → ℕ → ℕ → ℕ
scheduled lose number zero = 0
scheduled lose number (suc n) = lost_by (fate_at lose number) + scheduled lose (suc number) n

nothing_lost : (number n : ℕ) → scheduled [] number n ≡ 0
nothing_lost number zero = refl
nothing_lost number (suc n) = omega (arith, nothing_lost (suc number) n)

one_row : (row : ℕ × ℕ) (rows : List (ℕ × ℕ)) (number n : ℕ) → scheduled (row ∷ rows) number n ≤ hits row.0 number n + scheduled rows number n
one_row row rows number zero = omega arith
one_row row rows number (suc n) = go (row.0 == number) (one_row row rows (suc number) n)
  where
    go : (b : Bool) → scheduled (row ∷ rows) (suc number) n ≤ hits row.0 (suc number) n + scheduled rows (suc number) n →
        lost_by (if b then Lost row.1 else fate_at rows number) + scheduled (row ∷ rows) (suc number) n ≤ hit b + hits row.0 (suc number) n + (lost_by (fate_at rows number) + scheduled rows (suc number) n)
    go true r = omega (arith, r)
    go false r = omega (arith, r)

few_scheduled : (lose : List (ℕ × ℕ)) (number n : ℕ) → scheduled lose number n ≤ length lose
few_scheduled [] number n = omega (arith, nothing_lost number n)
few_scheduled (row ∷ rows) number n = omega (arith, one_row row rows number n, one_hit row.0 number n, few_scheduled rows number n)

fated : (lose : List (ℕ × ℕ)) (number : ℕ) (fs : List Exchanged) → AreFated lose number fs → lost_of fs ≡ scheduled lose number (length fs)
fated lose number [] a = refl
fated lose number (f ∷ fs) a = omega (arith, ap lost_by a.0, fated lose (suc number) fs a.1)

pub few_lost : (lose : List (ℕ × ℕ)) (fs : List Exchanged) → AreFated lose 0 fs → lost_of fs ≤ length lose
few_lost lose fs a = omega (arith, fated lose 0 fs a, few_scheduled lose 0 (length fs))

-- WHAT IS GAINED, by the lives
pub gained_is : (as' : List Leads) (cs : List (Clocked Body Asked Reply)) → AreLed as' cs → gains_all cs + reopened_all cs ≡ gained_in as'
gained_is [] [] l = refl
gained_is [] (c ∷ cs) l = absurd l
gained_is (a ∷ as') [] l = absurd l
gained_is (a ∷ as') (c ∷ cs) l = omega (arith, ap gains l.1, ap reopened l.1, gained_is as' cs l.2)
