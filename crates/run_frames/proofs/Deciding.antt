-- Which kind of frame one that came back is.
use Rattle.std.proofs.Common.{◌≡◌, ◌⊎◌, ℕ, suc, ◌-◌, ◌<◌, ◌≤◌, Bool, true, false, Option, List, [], ◌∷◌, length, map, refl, sym, ap, ◌∙◌, subst, arith, if◌then◌else◌, inl, inr}
use Rattle.std.specs.Prelude.{nat_lt}
use Rattle.std.proofs.lemmas.Bool.{leb-true, leb-false}
use Rattle.life_runs.specs.of_exchange_model.Exchange.{Speech}
use Rattle.life_runs.specs.of_segment_model.Slaves.{Datagram}
use Rattle.life_runs.specs.of_life_model.Lives.{Spot}
use Rattle.life_runs.specs.of_life_model.Deadlines.{repair}
use Rattle.life_runs.specs.of_life_model.Tally.{Tally, Counts, broken, quiet}
use Rattle.run_frames.specs.Brings.{AllBring}
use Rattle.run_frames.specs.Clocks.{Clocked, alone, in_round, one_by_one, repair_of, gains_all, reopened_all, still_behind, tally_of}
use Rattle.run_frames.specs.Goes.{Under, AllUnder, AllClocked, all_back}
use Rattle.run_frames.specs.Orders.{IsRound, IsOpening, AllRepaired, last_of}
use Rattle.run_frames.proofs.Most.{all_most}
use Rattle.run_frames.proofs.Returning.{Known, AllMet, side_by_side, round_near, back_clocked_all, as_many, all_grow, opening_met, repaired}

-- by numbers: what was reopened, gained and is to be repaired before and behind it
abbrev still_of : ℕ → ℕ → ℕ → ℕ → ℕ → ℕ → ℕ
still_of r q g h p still = if nat_lt r q then 0 else if nat_lt 0 p then still else if nat_lt g h then 0 else suc still

abbrev tally : ℕ → ℕ → ℕ → ℕ → ℕ → ℕ → Tally
tally frames lost gains reopened repair still = record { frames = frames; lost = lost; gains = gains; reopened = reopened; repair = repair; still = still }

-- A FRAME THAT CAME BACK is one of four kinds
decide : (slaves pace n frames lost r q g h p s still : ℕ) → n ≤ g → g ≤ h → ((suc r ≤ q) × (suc g ≤ h) × (s ≤ broken slaves pace)) ⊎ ((q ≡ r) × ((s ≡ 0) ⊎ (suc s ≤ p))) → still_of r q g h p still ≤ quiet slaves pace →
    Counts slaves pace (tally frames lost (g - n) r p still) (tally (suc frames) lost (h - n) q s (still_of r q g h p still))
decide slaves pace n frames lost r q g h p s still some grows how few = by (nat_lt r q) refl
  where
    by : (b : Bool) → nat_lt r q ≡ b → Counts slaves pace (tally frames lost (g - n) r p still) (tally (suc frames) lost (h - n) q s (still_of r q g h p still))
    by true e = elim how [
      | inl more ↦ Counts.reopens refl refl (omega (arith, some, more.1)) more.0 (omega (arith, more.2)) (ap (λ (z : Bool). if z then 0 else if nat_lt 0 p then still else if nat_lt g h then 0 else suc still) e)
      | inr same ↦ absurd (let less = leb-true (suc r) q e in omega (arith, less, same.0))
    ]
    by false e = elim how [
      | inl more ↦ absurd (let less = leb-false (suc r) q e in omega (arith, less, more.0))
      | inr same ↦ at (nat_lt 0 p) refl same
    ]
      where
        off : still_of r q g h p still ≡ (if nat_lt 0 p then still else if nat_lt g h then 0 else suc still)
        off = ap (λ (z : Bool). if z then 0 else if nat_lt 0 p then still else if nat_lt g h then 0 else suc still) e

        at : (b : Bool) → nat_lt 0 p ≡ b → (q ≡ r) × ((s ≡ 0) ⊎ (suc s ≤ p)) → Counts slaves pace (tally frames lost (g - n) r p still) (tally (suc frames) lost (h - n) q s (still_of r q g h p still))
        at true f same =
            let less = leb-true 1 p f in
            Counts.repairs refl refl (omega (arith, grows)) same.0 (elim same.1 [ inl none ↦ omega (arith, none, less) | inr nearer ↦ nearer ]) (off ∙ ap (λ (z : Bool). if z then still else if nat_lt g h then 0 else suc still) f)
        at false f same =
            let none : p ≡ 0 = (let less = leb-false 1 p f in omega (arith, less)) in
            let behind : s ≤ p = elim same.1 [ inl zero' ↦ omega (arith, zero') | inr nearer ↦ omega (arith, nearer, none) ] in
            last (nat_lt g h) refl behind same.0 (off ∙ ap (λ (z : Bool). if z then still else if nat_lt g h then 0 else suc still) f)
          where
            last : (c : Bool) → nat_lt g h ≡ c → s ≤ p → q ≡ r → still_of r q g h p still ≡ (if nat_lt g h then 0 else suc still) → Counts slaves pace (tally frames lost (g - n) r p still) (tally (suc frames) lost (h - n) q s (still_of r q g h p still))
            last true k less is o = (let won = leb-true (suc g) h k in Counts.gains refl refl (omega (arith, won, some)) is less (o ∙ ap (λ (z : Bool). if z then 0 else suc still) k))
            last false k less is o = (let won = leb-false (suc g) h k in Counts.nothing refl refl (omega (arith, won, grows)) is less (o ∙ ap (λ (z : Bool). if z then 0 else suc still) k) few)

-- one that gained nothing, with nothing to repair, may count as lost
idles : (slaves pace n frames lost r q g h p s still : ℕ) → g ≤ h → ((suc r ≤ q) × (suc g ≤ h) × (s ≤ broken slaves pace)) ⊎ ((q ≡ r) × ((s ≡ 0) ⊎ (suc s ≤ p))) → still_of r q g h p still ≡ suc still →
    Counts slaves pace (tally frames lost (g - n) r p still) (tally (suc frames) (suc lost) (h - n) q s 0)
idles slaves pace n frames lost r q g h p s still grows how nothing = by (nat_lt r q) refl nothing
  where
    by : (b : Bool) → nat_lt r q ≡ b → (if b then 0 else if nat_lt 0 p then still else if nat_lt g h then 0 else suc still) ≡ suc still → Counts slaves pace (tally frames lost (g - n) r p still) (tally (suc frames) (suc lost) (h - n) q s 0)
    by true e o = absurd (let bad : 0 ≡ suc still = o in omega (arith, bad))
    by false e o = at (nat_lt 0 p) refl o
      where
        at : (b : Bool) → nat_lt 0 p ≡ b → (if b then still else if nat_lt g h then 0 else suc still) ≡ suc still → Counts slaves pace (tally frames lost (g - n) r p still) (tally (suc frames) (suc lost) (h - n) q s 0)
        at true f o = absurd (let bad : still ≡ suc still = o in omega (arith, bad))
        at false f o = last (nat_lt g h) refl o
          where
            last : (c : Bool) → nat_lt g h ≡ c → (if c then 0 else suc still) ≡ suc still → Counts slaves pace (tally frames lost (g - n) r p still) (tally (suc frames) (suc lost) (h - n) q s 0)
            last true k o = absurd (let bad : 0 ≡ suc still = o in omega (arith, bad))
            last false k o =
                let same : h ≡ g = (let won = leb-false (suc g) h k in omega (arith, won, grows)) in
                let none : p ≡ 0 = (let less = leb-false 1 p f in omega (arith, less)) in
                elim how [
                  | inl more ↦ absurd (let less = leb-false (suc r) q e in omega (arith, less, more.0))
                  | inr kept ↦ Counts.lost refl refl (ap (λ z. z - n) same) kept.0 (elim kept.1 [ inl zero' ↦ omega (arith, zero') | inr nearer ↦ omega (arith, nearer, none) ]) refl
                ]

-- each has gained 1 or more
pub all_some : {M Q R : Type 0} (slowest : ℕ) (cs : List (Clocked M Q R)) → AllClocked slowest cs → length cs ≤ gains_all cs
all_some slowest [] k = omega arith
all_some slowest (c ∷ cs) k = omega (arith, k.0.gained, all_some slowest cs k.1)

repair_round : {M Q R : Type 0} (slowest count opened : ℕ) (last : Option ℕ) (number : ℕ) (cs : List (Clocked M Q R)) → count ≤ opened → repair_of slowest count opened last number cs ≡ repair count (in_round slowest count last number 0 cs)
repair_round slowest count opened last number cs over = by (nat_lt opened count) refl
  where
    by : (b : Bool) → nat_lt opened count ≡ b → (if b then one_by_one (map (alone slowest number) cs) else repair count (in_round slowest count last number 0 cs)) ≡ repair count (in_round slowest count last number 0 cs)
    by true e = absurd (let less = leb-true (suc opened) count e in omega (arith, less, over))
    by false e = refl

repair_first : {M Q R : Type 0} (slowest count opened : ℕ) (last : Option ℕ) (number : ℕ) (cs : List (Clocked M Q R)) → opened < count → repair_of slowest count opened last number cs ≡ one_by_one (map (alone slowest number) cs)
repair_first slowest count opened last number cs under = by (nat_lt opened count) refl
  where
    by : (b : Bool) → nat_lt opened count ≡ b → (if b then one_by_one (map (alone slowest number) cs) else repair count (in_round slowest count last number 0 cs)) ≡ one_by_one (map (alone slowest number) cs)
    by false e = absurd (let less = leb-false (suc opened) count e in omega (arith, less, under))
    by true e = refl

module _ {M Q R : Type 0} (facts : Known M Q R) (x : Spot → Speech M Q R) (acknowledged : Q → Bool) (more : M → Bool) (passed : Q → Bool) (slowest opened later number lost still : ℕ) (last : Option ℕ) (sent back : List (Datagram M)) (as' : List (Clocked M Q R)) (us : List (Under M Q R)) where
  abbrev bs : List (Clocked M Q R)
  bs = all_back x acknowledged more passed number back as' us

  abbrev now : ℕ
  now = repair_of slowest (length as') opened last number as'

  -- what becomes of the repairs
  abbrev How : Option ℕ → Type 0
  How next = ((suc (reopened_all as') ≤ reopened_all bs) × (suc (gains_all as') ≤ gains_all bs) × (repair_of slowest (length as') later next (suc number) bs ≤ broken (length as') slowest))
      ⊎ ((reopened_all bs ≡ reopened_all as') × ((repair_of slowest (length as') later next (suc number) bs ≡ 0) ⊎ (suc (repair_of slowest (length as') later next (suc number) bs) ≤ now)))

  -- by that
  frame_counts : (next : Option ℕ) → AllClocked slowest as' → AllUnder x acknowledged more passed number sent as' us → How next →
      still_behind now as' bs still ≤ quiet (length as') slowest →
      Counts (length as') slowest (tally_of slowest (length as') opened last number lost still as') (tally_of slowest (length as') later next (suc number) lost (still_behind now as' bs still) bs)
  frame_counts next k t how few =
      let one = decide (length as') slowest (length as') number lost (reopened_all as') (reopened_all bs) (gains_all as') (gains_all bs) now (repair_of slowest (length as') later next (suc number) bs) still
      (all_some slowest as' k) (all_grow facts x acknowledged more passed number sent back as' us t) how few in
      subst (λ z. Counts (length as') slowest (tally_of slowest (length as') opened last number lost still as')
      (record { frames = suc number; lost = lost; gains = gains_all bs - z; reopened = reopened_all bs; repair = repair_of slowest (length as') later next (suc number) bs; still = still_behind now as' bs still }))
      (sym (as_many facts x acknowledged more passed number sent back as' us t)) one

  -- BEHIND THE FIRST BRING-UP
  round_how : (ps : List ℕ) → AllClocked slowest as' → AllUnder x acknowledged more passed number sent as' us → AllBring back as' us → length as' ≤ opened → length as' ≤ later → IsRound (length as') last as' us ps → How (last_of last ps)
  round_how ps k t b over more' r = by (side_by_side facts x acknowledged more passed number sent back slowest (length as') last (last_of last ps) 0 as' us (omega arith) k t b
      (round_near facts x acknowledged more passed number sent back (length as') last (last_of last ps) as' us ps refl r refl))
    where
      before : now ≡ repair (length as') (in_round slowest (length as') last number 0 as')
      before = repair_round slowest (length as') opened last number as' over

      behind : repair_of slowest (length as') later (last_of last ps) (suc number) bs ≡ repair (length as') (in_round slowest (length as') (last_of last ps) (suc number) 0 bs)
      behind = repair_round slowest (length as') later (last_of last ps) (suc number) bs more'

      most : repair (length as') (in_round slowest (length as') (last_of last ps) (suc number) 0 bs) ≤ broken (length as') slowest
      most = all_most slowest (length as') (last_of last ps) (suc number) 0 bs (omega (arith, as_many facts x acknowledged more passed number sent back as' us t)) (back_clocked_all facts x acknowledged more passed number sent back slowest as' us k t b)

      by : AllMet facts x acknowledged more passed number sent back slowest (length as') last (last_of last ps) 0 as' bs → How (last_of last ps)
      by (AllMet.anew r' g) = inl (r', g, omega (arith, behind, most))
      by (AllMet.nearer r' m) = inr (
        r',
        elim (facts.ends (length as') slowest (in_round slowest (length as') last number 0 as') (in_round slowest (length as') (last_of last ps) (suc number) 0 bs) m) [
          | inl none ↦ inl (behind ∙ none)
          | inr less ↦ inr (omega (arith, less, before, behind))
        ],
      )

  pub round_counts : (ps : List ℕ) → AllClocked slowest as' → AllUnder x acknowledged more passed number sent as' us → AllBring back as' us → length as' ≤ opened → length as' ≤ later → IsRound (length as') last as' us ps →
      still_behind now as' bs still ≤ quiet (length as') slowest →
      Counts (length as') slowest (tally_of slowest (length as') opened last number lost still as') (tally_of slowest (length as') later (last_of last ps) (suc number) lost (still_behind now as' bs still) bs)
  round_counts ps k t b over more' r few = frame_counts (last_of last ps) k t (round_how ps k t b over more' r) few

  -- one with which a packet of the host came in counts as lost
  pub enters_counts : (ps : List ℕ) → AllClocked slowest as' → AllUnder x acknowledged more passed number sent as' us → AllBring back as' us → length as' ≤ opened → length as' ≤ later → IsRound (length as') last as' us ps →
      still_behind now as' bs still ≡ suc still → Counts (length as') slowest (tally_of slowest (length as') opened last number lost still as') (tally_of slowest (length as') later (last_of last ps) (suc number) (suc lost) 0 bs)
  enters_counts ps k t b over more' r nothing =
      let one = idles (length as') slowest (length as') number lost (reopened_all as') (reopened_all bs) (gains_all as') (gains_all bs) now (repair_of slowest (length as') later (last_of last ps) (suc number) bs) still
      (all_grow facts x acknowledged more passed number sent back as' us t) (round_how ps k t b over more' r) nothing in
      subst (λ z. Counts (length as') slowest (tally_of slowest (length as') opened last number lost still as')
      (record { frames = suc number; lost = suc lost; gains = gains_all bs - z; reopened = reopened_all bs; repair = repair_of slowest (length as') later (last_of last ps) (suc number) bs; still = 0 }))
      (sym (as_many facts x acknowledged more passed number sent back as' us t)) one

  -- IN THE FIRST BRING-UP
  pub opening_counts : (next : Option ℕ) → AllClocked slowest as' → AllUnder x acknowledged more passed number sent as' us → AllBring back as' us → opened < length as' → IsOpening us → (length as' ≤ later → AllRepaired bs) →
      still_behind now as' bs still ≤ quiet (length as') slowest →
      Counts (length as') slowest (tally_of slowest (length as') opened last number lost still as') (tally_of slowest (length as') later next (suc number) lost (still_behind now as' bs still) bs)
  opening_counts next k t b under one over few = frame_counts next k t (inr (met.1, by (nat_lt later (length as')) refl)) few
    where
      met : (suc (one_by_one (map (alone slowest (suc number)) bs)) ≤ one_by_one (map (alone slowest number) as')) × (reopened_all bs ≡ reopened_all as')
      met = opening_met facts x acknowledged more passed number sent back slowest as' us k t b one

      before : now ≡ one_by_one (map (alone slowest number) as')
      before = repair_first slowest (length as') opened last number as' under

      by : (c : Bool) → nat_lt later (length as') ≡ c → (repair_of slowest (length as') later next (suc number) bs ≡ 0) ⊎ (suc (repair_of slowest (length as') later next (suc number) bs) ≤ now)
      by true e = (let same = repair_first slowest (length as') later next (suc number) bs (leb-true (suc later) (length as') e) in inr (omega (arith, met.0, before, same)))
      by false e =
          let more' : length as' ≤ later = (let no' = leb-false (suc later) (length as') e in omega (arith, no')) in
          inl (repair_round slowest (length as') later next (suc number) bs more' ∙ repaired slowest (length as') next (suc number) 0 bs (over more'))

  -- there as many frames in a row gained nothing behind it as before
  pub opening_still : AllClocked slowest as' → AllUnder x acknowledged more passed number sent as' us → AllBring back as' us → opened < length as' → IsOpening us → still_behind now as' bs still ≡ still
  opening_still k t b under one = by (nat_lt (reopened_all as') (reopened_all bs)) (nat_lt 0 now) refl refl
    where
      met : (suc (one_by_one (map (alone slowest (suc number)) bs)) ≤ one_by_one (map (alone slowest number) as')) × (reopened_all bs ≡ reopened_all as')
      met = opening_met facts x acknowledged more passed number sent back slowest as' us k t b one

      before : now ≡ one_by_one (map (alone slowest number) as')
      before = repair_first slowest (length as') opened last number as' under

      by : (c d : Bool) → nat_lt (reopened_all as') (reopened_all bs) ≡ c → nat_lt 0 now ≡ d → (if c then 0 else if d then still else if nat_lt (gains_all as') (gains_all bs) then 0 else suc still) ≡ still
      by true d e f = absurd (let less = leb-true (suc (reopened_all as')) (reopened_all bs) e in omega (arith, less, met.1))
      by false true e f = refl
      by false false e f = absurd (let less = leb-false 1 now f in omega (arith, less, before, met.0))

  -- behind any frame that came back it is none, as many, or one more
  pub still_is : (still_behind now as' bs still ≡ 0) ⊎ ((still_behind now as' bs still ≡ still) ⊎ (still_behind now as' bs still ≡ suc still))
  still_is = by (nat_lt (reopened_all as') (reopened_all bs)) (nat_lt 0 now) (nat_lt (gains_all as') (gains_all bs))
    where
      by : (c d e : Bool) → (let m = if c then 0 else if d then still else if e then 0 else suc still in (m ≡ 0) ⊎ ((m ≡ still) ⊎ (m ≡ suc still)))
      by true d e = inl refl
      by false true e = inr (inl refl)
      by false false true = inl refl
      by false false false = inr (inr refl)
