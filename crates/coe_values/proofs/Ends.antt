-- A chain ends, and its blocks are free.
use Rattle.std.proofs.Common.{◌≡◌, ◌≢◌, inl, inr, ℕ, ◌<◌, true, false, List, [], length, get_or, set, refl, sym, ap, subst, ◌∙◌, arith, Option, Some, None, is_some, unwrap_or}
use Rattle.std.proofs.lemmas.Grind.{common_steps}
use Rattle.std.proofs.lemmas.Bool.{cases_eq}
use Rattle.std.proofs.lemmas.List.{get_or-set_same, get_or-set_other, length-set}
use Rattle.block_pool.specs.Region.{Region, IsLive, Closes, blocks_for}
use Rattle.coe_values.specs.Chains.{octets_at, IsSound, AreChains, Holds}

-- a live chain's place is one of the region's
inside_of : (chains : List (Option (List ℕ))) (place : ℕ) → is_some (get_or chains place None) ≡ true → place < length chains
inside_of chains place live = grind (arith, common_steps)

-- another chain shows what it showed, and is live where it was
same_at : (old new : Region) (place : ℕ) (shows : Option (List ℕ)) (other : Option ℕ) → new.chains ≡ set old.chains place shows → (other ≡ Some place → ⊥) → octets_at new other ≡ octets_at old other
same_at old new place shows None is apart = refl
same_at old new place shows (Some p) is apart =
    let off : p ≢ place = λ e. apart (ap (λ n. Some n) e) in
    ap (λ cs. unwrap_or (get_or cs p None) []) is ∙ ap (λ o. unwrap_or o []) (get_or-set_other old.chains place p shows None off)

sound_at : (old new : Region) (place : ℕ) (shows : Option (List ℕ)) (other : Option ℕ) → new.chains ≡ set old.chains place shows → (other ≡ Some place → ⊥) → IsSound old other → IsSound new other
sound_at old new place shows None is apart sound = tt
sound_at old new place shows (Some p) is apart sound =
    let off : p ≢ place = λ e. apart (ap (λ n. Some n) e) in
    subst (λ o. is_some o ≡ true) (sym (ap (λ cs. get_or cs p None) is ∙ get_or-set_other old.chains place p shows None off)) sound

-- what is live behind it was live before, at another place
live_left : (old new : Region) (place k : ℕ) → new.chains ≡ set old.chains place None → place < length old.chains → IsLive new k → (k ≢ place) × IsLive old k
live_left old new place k is inside live = elim (cases_eq k place) [
  | inl e ↦
      let gone : get_or new.chains k None ≡ None = ap (λ n. get_or new.chains n None) e ∙ ap (λ cs. get_or cs place None) is ∙ get_or-set_same old.chains place None None inside in
      let lost : false ≡ true = sym (ap is_some gone) ∙ live in
      absurd (cc)
  | inr off ↦ (off, subst (λ o. is_some o ≡ true) (ap (λ cs. get_or cs k None) is ∙ get_or-set_other old.chains place k None None off) live)
]

pub ended : (old new : Region) (place : ℕ) (other : Option ℕ) → Closes old place new → AreChains old (Some place) other → Holds old [] new None other
ended old new place other closes are =
    let apart : other ≡ Some place → ⊥ = λ e. are.apart place refl e in
    let inside = inside_of old.chains place are.one_live in
    let same = same_at old new place None other closes.0 apart in
    let blocks : blocks_for (length (octets_at new other)) ≡ blocks_for (length (octets_at old other)) = ap (λ l. blocks_for (length l)) same in
    let short : length (octets_at new other) ≡ length (octets_at old other) = ap length same in
    let left : (k : ℕ) → IsLive new k → other ≡ Some k = λ k live.
    let was = live_left old new place k closes.0 inside live in
    elim (are.only k was.1) [
      | inl e ↦ let at : place ≡ k = cc in absurd (was.0 (sym at))
      | inr e ↦ e
    ] in
    record {
      are = record {
        places = ap length closes.0 ∙ length-set old.chains place None ∙ are.places;
        one_live = tt;
        other_live = sound_at old new place None other closes.0 apart are.other_live;
        apart = λ k e f. absurd (cc);
        only = λ k live. inr (left k live);
        blocks = omega (arith, closes.1, blocks, are.blocks);
        one_short = omega arith;
        other_short = omega (arith, short, are.other_short);
      };
      octets = refl;
      same = same;
    }
