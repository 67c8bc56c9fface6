use Rattle.std.proofs.Common.{◌≡◌, ◌∙◌, ap, sym, subst, ℕ, zero, suc, ◌+◌, ◌-◌, ◌*◌, ◌/◌, ◌<◌, ◌≤◌, List, [], ◌∷◌, ◌++◌, length, map, take, drop, get_or, set, arith, zero-add, ◌%◌, append_assoc, length-append}
use Rattle.std.proofs.lemmas.List.{append-nil, map-append, map-set, length-map, drop-append-le}
use Rattle.std.proofs.Math.Seq.{take-append_seam, drop-append-add}
use Rattle.std.proofs.Math.ListN.{get_or-map}
use Rattle.std.proofs.lemmas.List.Folds.{concat-append}
use Rattle.std.specs.List.{concat}
use Rattle.block_pool.specs.Blocks.{Boxed, items_of, octets_of, IsPacked}

-- packed blocks have at most 128 octets each, and all but the last just so many
pub packed_bounds :
    (blocks : List (List ℕ)) → IsPacked blocks
    → (length (concat blocks) ≤ 128 * length blocks) × (128 * length blocks ≤ length (concat blocks) + 127)
packed_bounds [] p = (omega arith, omega arith)
packed_bounds (block ∷ []) p = let len : length (concat (block ∷ [])) ≡ length block = ap length (append-nil block) in (omega (arith, len, p.1), omega (arith, len, p.0))
packed_bounds (block ∷ next ∷ blocks) p =
    let rest : (length (concat (next ∷ blocks)) ≤ 128 * length (next ∷ blocks)) × (128 * length (next ∷ blocks) ≤ length (concat (next ∷ blocks)) + 127) =
    packed_bounds (next ∷ blocks) p.1 in
    let len : length (concat (block ∷ next ∷ blocks)) ≡ length block + length (concat (next ∷ blocks)) = length-append block (concat (next ∷ blocks)) in
    (omega (arith, len, p.0, rest.0), omega (arith, len, p.0, rest.1))

-- so there are just the blocks that the octets need
pub packed_count : (blocks : List (List ℕ)) → IsPacked blocks → length blocks ≡ (length (concat blocks) + 127) / 128
packed_count blocks p = let bounds : (length (concat blocks) ≤ 128 * length blocks) × (128 * length blocks ≤ length (concat blocks) + 127) = packed_bounds blocks p in omega (arith, bounds.0, bounds.1)

-- octets put into the last block stand behind all others
pub filled_octets :
    (blocks : List (List ℕ)) (k : ℕ) (part d : List ℕ) → length blocks ≡ suc k
    → concat (set blocks k (get_or blocks k d ++ part)) ≡ concat blocks ++ part
filled_octets [] k part d n = absurd (omega (arith, n))
filled_octets (block ∷ []) zero part d n = append-nil (block ++ part) ∙ ap (λ b. b ++ part) (sym (append-nil block))
filled_octets (block ∷ []) (suc k) part d n = absurd (omega (arith, n))
filled_octets (block ∷ next ∷ blocks) zero part d n = absurd (omega (arith, n))
filled_octets (block ∷ next ∷ blocks) (suc k) part d n =
    ap (λ octets. block ++ octets) (filled_octets (next ∷ blocks) k part d (omega (arith, n))) ∙ sym (append_assoc block (concat (next ∷ blocks)) part)

-- the last block takes what all blocks have room for
pub last_room :
    (blocks : List (List ℕ)) (k more : ℕ) (d : List ℕ) → IsPacked blocks → length blocks ≡ suc k
    → length (concat blocks) + more ≤ 128 * length blocks → length (get_or blocks k d) + more ≤ 128
last_room [] k more d p n fits = absurd (omega (arith, n))
last_room (block ∷ []) zero more d p n fits = let len : length (concat (block ∷ [])) ≡ length block = ap length (append-nil block) in omega (arith, len, fits)
last_room (block ∷ []) (suc k) more d p n fits = absurd (omega (arith, n))
last_room (block ∷ next ∷ blocks) zero more d p n fits = absurd (omega (arith, n))
last_room (block ∷ next ∷ blocks) (suc k) more d p n fits =
    let len : length (concat (block ∷ next ∷ blocks)) ≡ length block + length (concat (next ∷ blocks)) = length-append block (concat (next ∷ blocks)) in
    last_room (next ∷ blocks) k more d p.1 (omega (arith, n)) (omega (arith, len, p.0, fits))

-- the last block isn't empty
last_some : (blocks : List (List ℕ)) (k : ℕ) (d : List ℕ) → IsPacked blocks → length blocks ≡ suc k → 1 ≤ length (get_or blocks k d)
last_some [] k d p n = absurd (omega (arith, n))
last_some (block ∷ []) zero d p n = p.0
last_some (block ∷ []) (suc k) d p n = absurd (omega (arith, n))
last_some (block ∷ next ∷ blocks) zero d p n = absurd (omega (arith, n))
last_some (block ∷ next ∷ blocks) (suc k) d p n = last_some (next ∷ blocks) k d p.1 (omega (arith, n))

-- a last block of 1 to 128 octets leaves blocks packed
packed_set :
    (blocks : List (List ℕ)) (k : ℕ) (last : List ℕ) → IsPacked blocks → length blocks ≡ suc k → 1 ≤ length last → length last ≤ 128
    → IsPacked (set blocks k last)
packed_set [] k last p n some fits = absurd (omega (arith, n))
packed_set (block ∷ []) zero last p n some fits = (some, fits)
packed_set (block ∷ []) (suc k) last p n some fits = absurd (omega (arith, n))
packed_set (block ∷ next ∷ blocks) zero last p n some fits = absurd (omega (arith, n))
packed_set (block ∷ next ∷ []) (suc zero) last p n some fits = (p.0, (some, fits))
packed_set (block ∷ next ∷ []) (suc (suc k)) last p n some fits = absurd (omega (arith, n))
packed_set (block ∷ next ∷ third ∷ blocks) (suc zero) last p n some fits = absurd (omega (arith, n))
packed_set (block ∷ next ∷ third ∷ blocks) (suc (suc k)) last p n some fits =
    (p.0, packed_set (next ∷ third ∷ blocks) (suc k) last p.1 (omega (arith, n)) some fits)

pub filled_packed :
    (blocks : List (List ℕ)) (k : ℕ) (part d : List ℕ) → IsPacked blocks → length blocks ≡ suc k
    → length (concat blocks) + length part ≤ 128 * length blocks → IsPacked (set blocks k (get_or blocks k d ++ part))
filled_packed blocks k part d p n fits =
    let len : length (get_or blocks k d ++ part) ≡ length (get_or blocks k d) + length part = length-append (get_or blocks k d) part in
    packed_set blocks k (get_or blocks k d ++ part) p n
    (omega (arith, len, last_some blocks k d p n)) (omega (arith, len, last_room blocks k (length part) d p n fits))

-- a block of 1 to 128 octets behind full ones
pub grown_packed :
    (blocks : List (List ℕ)) (part : List ℕ) → IsPacked blocks → length (concat blocks) ≡ 128 * length blocks → 1 ≤ length part → length part ≤ 128
    → IsPacked (blocks ++ part ∷ [])
grown_packed [] part p full some fits = (some, fits)
grown_packed (block ∷ []) part p full some fits =
    let len : length (concat (block ∷ [])) ≡ length block = ap length (append-nil block) in (omega (arith, len, full), (some, fits))
grown_packed (block ∷ next ∷ blocks) part p full some fits =
    let len : length (concat (block ∷ next ∷ blocks)) ≡ length block + length (concat (next ∷ blocks)) = length-append block (concat (next ∷ blocks)) in
    (p.0, grown_packed (next ∷ blocks) part p.1 (omega (arith, len, p.0, full)) some fits)

-- the same of blocks in the heap
boxes_length : (blocks : List Boxed) → length (map items_of blocks) ≡ length blocks
boxes_length blocks = length-map blocks items_of

pub boxes_bounds :
    (blocks : List Boxed) → IsPacked (map items_of blocks)
    → (length (octets_of blocks) ≤ 128 * length blocks) × (128 * length blocks ≤ length (octets_of blocks) + 127)
boxes_bounds blocks p =
    let bounds : (length (octets_of blocks) ≤ 128 * length (map items_of blocks)) × (128 * length (map items_of blocks) ≤ length (octets_of blocks) + 127) =
    packed_bounds (map items_of blocks) p in
    (omega (arith, boxes_length blocks, bounds.0), omega (arith, boxes_length blocks, bounds.1))

pub boxes_count : (blocks : List Boxed) → IsPacked (map items_of blocks) → length blocks ≡ (length (octets_of blocks) + 127) / 128
boxes_count blocks p = sym (boxes_length blocks) ∙ packed_count (map items_of blocks) p

-- the last of the blocks in the heap, by its octets
last_items :
    (blocks : List Boxed) (k : ℕ) (d : Boxed) → get_or (map items_of blocks) k (items_of d) ≡ items_of (get_or blocks k d)
last_items blocks k d = get_or-map items_of blocks k d

one_less : (blocks : List Boxed) → 0 < length blocks → length (map items_of blocks) ≡ suc (length blocks - 1)
one_less blocks some = omega (arith, boxes_length blocks, some)

-- the last block has room for what all have
pub boxes_room :
    (blocks : List Boxed) (d : Boxed) (more : ℕ) → IsPacked (map items_of blocks) → 0 < length blocks
    → length (octets_of blocks) + more ≤ 128 * length blocks → length (items_of (get_or blocks (length blocks - 1) d)) + more ≤ 128
boxes_room blocks d more p some fits =
    let room : length (get_or (map items_of blocks) (length blocks - 1) (items_of d)) + more ≤ 128 =
    last_room (map items_of blocks) (length blocks - 1) more (items_of d) p (one_less blocks some) (omega (arith, boxes_length blocks, fits)) in
    subst (λ (octets : List ℕ). length octets + more ≤ 128) (last_items blocks (length blocks - 1) d) room

-- the blocks with another last one
set_items :
    (blocks : List Boxed) (d after : Boxed) (part : List ℕ) → items_of after ≡ items_of (get_or blocks (length blocks - 1) d) ++ part
    → map items_of (set blocks (length blocks - 1) after)
    ≡ set (map items_of blocks) (length blocks - 1) (get_or (map items_of blocks) (length blocks - 1) (items_of d) ++ part)
set_items blocks d after part is =
    map-set items_of blocks (length blocks - 1) after
    ∙ ap (λ octets. set (map items_of blocks) (length blocks - 1) octets) (is ∙ ap (λ octets. octets ++ part) (sym (last_items blocks (length blocks - 1) d)))

pub boxes_filled :
    (blocks : List Boxed) (d after : Boxed) (part : List ℕ) → 0 < length blocks → items_of after ≡ items_of (get_or blocks (length blocks - 1) d) ++ part
    → octets_of (set blocks (length blocks - 1) after) ≡ octets_of blocks ++ part
boxes_filled blocks d after part some is =
    ap concat (set_items blocks d after part is) ∙ filled_octets (map items_of blocks) (length blocks - 1) part (items_of d) (one_less blocks some)

pub boxes_filled_packed :
    (blocks : List Boxed) (d after : Boxed) (part : List ℕ) → IsPacked (map items_of blocks) → 0 < length blocks
    → length (octets_of blocks) + length part ≤ 128 * length blocks → items_of after ≡ items_of (get_or blocks (length blocks - 1) d) ++ part
    → IsPacked (map items_of (set blocks (length blocks - 1) after))
boxes_filled_packed blocks d after part p some fits is =
    subst IsPacked (sym (set_items blocks d after part is))
    (filled_packed (map items_of blocks) (length blocks - 1) part (items_of d) p (one_less blocks some) (omega (arith, boxes_length blocks, fits)))

-- one more block
pub boxes_grown : (blocks : List Boxed) (block : Boxed) → octets_of (blocks ++ block ∷ []) ≡ octets_of blocks ++ items_of block
boxes_grown blocks block =
    ap concat (map-append items_of blocks (block ∷ [])) ∙ concat-append (map items_of blocks) (items_of block ∷ [])
    ∙ ap (λ octets. octets_of blocks ++ octets) (append-nil (items_of block))

pub boxes_grown_packed :
    (blocks : List Boxed) (block : Boxed) → IsPacked (map items_of blocks) → length (octets_of blocks) ≡ 128 * length blocks
    → 1 ≤ length (items_of block) → length (items_of block) ≤ 128 → IsPacked (map items_of (blocks ++ block ∷ []))
boxes_grown_packed blocks block p full some fits =
    subst IsPacked (sym (map-append items_of blocks (block ∷ [])))
    (grown_packed (map items_of blocks) (items_of block) p (full ∙ ap (λ n. 128 * n) (sym (boxes_length blocks))) some fits)

-- the octets from a place on begin with those of the block that holds it
pub record IsPiece (blocks : List (List ℕ)) (k r : ℕ) (d : List ℕ) : Type 0 where
  pub inside : k < length blocks
  pub some : r < length (get_or blocks k d)
  pub part : drop r (get_or blocks k d) ≡ take (length (drop r (get_or blocks k d))) (drop (128 * k + r) (concat blocks))

first_piece :
    (block rest : List ℕ) (r : ℕ) → r < length block → drop r block ≡ take (length (drop r block)) (drop (128 * 0 + r) (block ++ rest))
first_piece block rest r inside =
    let split : drop (128 * 0 + r) (block ++ rest) ≡ drop r block ++ rest = drop-append-le (128 * 0 + r) block rest (omega (arith, inside)) ∙ ap (λ n. drop n block ++ rest) (zero-add r) in
    sym (ap (λ octets. take (length (drop r block)) octets) split ∙ take-append_seam (drop r block) rest)

later_place : (block rest : List ℕ) (k r : ℕ) → length block ≡ 128 → drop (128 * suc k + r) (block ++ rest) ≡ drop (128 * k + r) rest
later_place block rest k r full =
    let n : 128 * suc k + r ≡ length block + (128 * k + r) = omega (arith, full) in
    ap (λ m. drop m (block ++ rest)) n ∙ drop-append-add block rest (128 * k + r)

pub piece_at :
    (blocks : List (List ℕ)) (k r : ℕ) (d : List ℕ) → IsPacked blocks → r < 128 → 128 * k + r < length (concat blocks) → IsPiece blocks k r d
piece_at [] k r d p few within = absurd (omega (arith, within))
piece_at (block ∷ []) zero r d p few within =
    let len : length (concat (block ∷ [])) ≡ length block = ap length (append-nil block) in
    let inside : r < length block = omega (arith, len, within) in
    record { inside = omega arith; some = inside; part = first_piece block [] r inside }
piece_at (block ∷ []) (suc k) r d p few within =
    let len : length (concat (block ∷ [])) ≡ length block = ap length (append-nil block) in absurd (omega (arith, len, within, p.1))
piece_at (block ∷ next ∷ blocks) zero r d p few within =
    let inside : r < length block = omega (arith, few, p.0) in
    record { inside = omega arith; some = inside; part = first_piece block (concat (next ∷ blocks)) r inside }
piece_at (block ∷ next ∷ blocks) (suc k) r d p few within =
    let len : length (concat (block ∷ next ∷ blocks)) ≡ length block + length (concat (next ∷ blocks)) = length-append block (concat (next ∷ blocks)) in
    let later : IsPiece (next ∷ blocks) k r d = piece_at (next ∷ blocks) k r d p.1 few (omega (arith, len, p.0, within)) in
    record {
      inside = omega (arith, later.inside);
      some = later.some;
      part =
          later.part
          ∙ ap (λ octets. take (length (drop r (get_or (next ∷ blocks) k d))) octets) (sym (later_place block (concat (next ∷ blocks)) k r p.0));
    }

-- the same of blocks in the heap
pub record IsBoxedPiece (blocks : List Boxed) (place : ℕ) (d : Boxed) : Type 0 where
  pub inside : place / 128 < length blocks
  pub some : place % 128 < length (items_of (get_or blocks (place / 128) d))
  pub part :
      drop (place % 128) (items_of (get_or blocks (place / 128) d))
      ≡ take (length (drop (place % 128) (items_of (get_or blocks (place / 128) d)))) (drop place (octets_of blocks))

pub boxes_piece :
    (blocks : List Boxed) (place : ℕ) (d : Boxed) → IsPacked (map items_of blocks) → place < length (octets_of blocks) → IsBoxedPiece blocks place d
boxes_piece blocks place d p within =
    let split : 128 * (place / 128) + place % 128 ≡ place = omega arith in
    let piece : IsPiece (map items_of blocks) (place / 128) (place % 128) (items_of d) =
    piece_at (map items_of blocks) (place / 128) (place % 128) (items_of d) p (omega arith) (omega (arith, split, within)) in
    let item : get_or (map items_of blocks) (place / 128) (items_of d) ≡ items_of (get_or blocks (place / 128) d) = get_or-map items_of blocks (place / 128) d in
    record {
      inside = omega (arith, piece.inside, boxes_length blocks);
      some = subst (λ (octets : List ℕ). place % 128 < length octets) item piece.some;
      part =
          subst (λ (octets : List ℕ). drop (place % 128) octets ≡ take (length (drop (place % 128) octets)) (drop place (octets_of blocks))) item
          (piece.part ∙ ap (λ n. take (length (drop (place % 128) (get_or (map items_of blocks) (place / 128) (items_of d)))) (drop n (octets_of blocks))) split);
    }

pub boxes_inside : (blocks : List Boxed) (place : ℕ) → IsPacked (map items_of blocks) → place < length (octets_of blocks) → place / 128 < length blocks
boxes_inside blocks place p within =
    let bounds : (length (octets_of blocks) ≤ 128 * length blocks) × (128 * length blocks ≤ length (octets_of blocks) + 127) = boxes_bounds blocks p in
    omega (arith, bounds.0, within)
