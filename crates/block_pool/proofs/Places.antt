use Rattle.std.proofs.Common.{◌≡◌, ◌∙◌, ap, sym, refl, ℕ, zero, suc, ◌∷◌, replicate, ◌+◌, ◌*◌, ◌/◌, ◌<◌, ◌≤◌, ◌++◌, length-append, true, false, List, [], length, get_or, set, is_some, unwrap_or, if◌then◌else◌, Option, Some, None, arith}
use Rattle.std.proofs.lemmas.Grind.{common_steps}
use Rattle.std.proofs.lemmas.List.{map-set, get_or-map, length-map}
use Rattle.block_pool.specs.Chained.{Chained}
use Rattle.block_pool.specs.Pool.{live_octets, chains_of}

-- what a region has at a place is what the pool's place shows
pub octets_at : (chains : List Chained) (place : ℕ) (d : Chained) → place < length chains → get_or (chains_of chains) place None ≡ live_octets (get_or chains place d)
octets_at chains place d inside = get_or-map live_octets chains place d None inside

pub places : (chains : List Chained) → length (chains_of chains) ≡ length chains
places chains = length-map chains live_octets

pub of_live : (chain : Chained) → chain.live ≡ true → live_octets chain ≡ Some chain.octets
of_live chain live = rw live refl

pub of_closed : (chain : Chained) → chain.live ≡ false → live_octets chain ≡ None
of_closed chain closed = rw closed refl

-- a live chain at a place, by what the place shows
live_shows : (chain : Chained) → is_some (live_octets chain) ≡ true → (live_octets chain ≡ Some chain.octets) × (chain.live ≡ true)
live_shows chain some =
    elim chain.live as (λ b. is_some (if b then Some chain.octets else None) ≡ true → ((if b then Some chain.octets else None) ≡ Some chain.octets) × (b ≡ true)) [
      | true ↦ λ e. (refl, refl)
      | false ↦ λ e. absurd (cc)
    ] some

-- the octets of a live chain are its place's
pub chain_octets :
    (chains : List Chained) (place : ℕ) (d : Chained) → place < length chains → is_some (get_or (chains_of chains) place None) ≡ true
    → unwrap_or (get_or (chains_of chains) place None) [] ≡ (get_or chains place d).octets
chain_octets chains place d inside live =
    let at : get_or (chains_of chains) place None ≡ live_octets (get_or chains place d) = octets_at chains place d inside in
    let shows : (live_octets (get_or chains place d) ≡ Some (get_or chains place d).octets) × ((get_or chains place d).live ≡ true) =
    live_shows (get_or chains place d) (ap is_some (sym at) ∙ live) in
    ap (λ o. unwrap_or o []) (at ∙ shows.0)

-- another chain at a place
pub chains_set : (chains : List Chained) (place : ℕ) (chain : Chained) (shows : Option (List ℕ)) → live_octets chain ≡ shows → chains_of (set chains place chain) ≡ set (chains_of chains) place shows
chains_set chains place chain shows is = map-set live_octets chains place chain ∙ ap (λ o. set (chains_of chains) place o) is

-- a live chain's place is one of the pool's
pub inside_of : (chains : List Chained) (place : ℕ) → is_some (get_or (chains_of chains) place None) ≡ true → place < length chains
inside_of chains place live = grind (arith, common_steps, places)

-- what a closed chain leaves
pub close_step :
    (chains : List Chained) (free after place : ℕ) (chain new : Chained) → is_some (get_or (chains_of chains) place None) ≡ true
    → chain ≡ get_or chains place chain → new.live ≡ false → chain.blocks ≡ (length chain.octets + 127) / 128 → after ≡ free + chain.blocks
    → (chains_of (set chains place new) ≡ set (chains_of chains) place None)
    × (after ≡ free + (length (unwrap_or (get_or (chains_of chains) place None) []) + 127) / 128)
close_step chains free after place chain new live is closed count freed =
    let inside : place < length chains = inside_of chains place live in
    let octets : unwrap_or (get_or (chains_of chains) place None) [] ≡ chain.octets =
    chain_octets chains place chain inside live ∙ ap (λ (c : Chained). c.octets) (sym is) in (
      chains_set chains place new None (of_closed new closed),
      freed ∙ ap (λ n. free + n) (count ∙ ap (λ o. (length o + 127) / 128) (sym octets)),
    )

-- what an append leaves
pub append_step :
    (chains : List Chained) (free after place : ℕ) (chain new : Chained) (bytes : List ℕ) → is_some (get_or (chains_of chains) place None) ≡ true
    → chain ≡ get_or chains place chain → new.live ≡ true → new.octets ≡ chain.octets ++ bytes
    → chain.blocks ≡ (length chain.octets + 127) / 128 → length new.octets ≤ 128 * new.blocks → 128 * new.blocks ≤ length new.octets + 127
    → new.blocks + after ≡ chain.blocks + free
    → (chains_of (set chains place new) ≡ set (chains_of chains) place (Some (unwrap_or (get_or (chains_of chains) place None) [] ++ bytes)))
    × (after + (length (unwrap_or (get_or (chains_of chains) place None) []) + length bytes + 127) / 128
    ≡ free + (length (unwrap_or (get_or (chains_of chains) place None) []) + 127) / 128)
append_step chains free after place chain new bytes live is opened grown count most least kept =
    let inside : place < length chains = inside_of chains place live in
    let octets : unwrap_or (get_or (chains_of chains) place None) [] ≡ chain.octets =
    chain_octets chains place chain inside live ∙ ap (λ (c : Chained). c.octets) (sym is) in
    let all : length new.octets ≡ length chain.octets + length bytes = ap length grown ∙ length-append chain.octets bytes in
    rw octets (
      chains_set chains place new (Some (chain.octets ++ bytes)) (of_live new opened ∙ ap (λ o. Some o) grown),
      omega (arith, count, most, least, kept, all),
    )

-- what a begin leaves
pub begin_step :
    (chains : List Chained) (place : ℕ) (chain new : Chained) → place < length chains → chain ≡ get_or chains place chain → (get_or chains place chain).live ≡ false
    → new.live ≡ true → new.octets ≡ []
    → (place < length (chains_of chains)) × (get_or (chains_of chains) place None ≡ None)
    × (chains_of (set chains place new) ≡ set (chains_of chains) place (Some []))
begin_step chains place chain new inside is closed opened empty = (
  omega (arith, places chains, inside),
  octets_at chains place chain inside ∙ of_closed (get_or chains place chain) closed,
  chains_set chains place new (Some []) (of_live new opened ∙ ap (λ o. Some o) empty),
)

-- at new places no chain is live
pub fresh : (n room : ℕ) → chains_of (replicate n (record { live = false; octets = []; blocks = 0; room = room })) ≡ replicate n None
fresh zero room = refl
fresh (suc n) room = ap (λ shown. None ∷ shown) (fresh n room)
