use Rattle.std.proofs.Common.{◌≡◌, ◌∙◌, ap, sym, ℕ, ◌+◌, ◌-◌, ◌≤◌, List, ◌++◌, length, take, drop, min, arith, append_assoc, length-append, length-drop}
use Rattle.std.proofs.lemmas.List.{length-take-le, take-take, take_min, drop-drop}
use Rattle.std.proofs.Math.Seq.{take-add, take-append_seam, drop-append_seam}

-- octets with a part written from a place on
abbrev pub written : List ℕ → ℕ → List ℕ → List ℕ
written octets from part = take from octets ++ (part ++ drop (from + length part) octets)

-- the head and the part make the first octets
head_of : (octets : List ℕ) (from : ℕ) (part : List ℕ) → from + length part ≤ length octets → length (take from octets ++ part) ≡ from + length part
head_of octets from part fits = length-append (take from octets) part ∙ ap (λ n. n + length part) (length-take-le from octets (omega (arith, fits)))

regroup : (octets : List ℕ) (from : ℕ) (part : List ℕ) → written octets from part ≡ (take from octets ++ part) ++ drop (from + length part) octets
regroup octets from part = sym (append_assoc (take from octets) part (drop (from + length part) octets))

-- the octets up to the part's end are those of the source, where those before the part were
pub take-written :
    (octets source : List ℕ) (from : ℕ) (part : List ℕ) → from + length part ≤ length octets → take from octets ≡ take from source
    → part ≡ take (length part) (drop from source) → take (from + length part) (written octets from part) ≡ take (from + length part) source
take-written octets source from part fits before is =
    ap (λ octets. take (from + length part) octets) (regroup octets from part)
    ∙ ap (λ n. take n ((take from octets ++ part) ++ drop (from + length part) octets)) (sym (head_of octets from part fits))
    ∙ take-append_seam (take from octets ++ part) (drop (from + length part) octets)
    ∙ ap (λ head. head ++ part) before ∙ ap (λ p. take from source ++ p) is ∙ sym (take-add from (length part) source)

-- the octets behind the part stay
pub drop-written :
    (octets : List ℕ) (from : ℕ) (part : List ℕ) → from + length part ≤ length octets
    → drop (from + length part) (written octets from part) ≡ drop (from + length part) octets
drop-written octets from part fits =
    ap (λ octets. drop (from + length part) octets) (regroup octets from part)
    ∙ ap (λ n. drop n ((take from octets ++ part) ++ drop (from + length part) octets)) (sym (head_of octets from part fits))
    ∙ drop-append_seam (take from octets ++ part) (drop (from + length part) octets)

-- the length stays
pub length-written : (octets : List ℕ) (from : ℕ) (part : List ℕ) → from + length part ≤ length octets → length (written octets from part) ≡ length octets
length-written octets from part fits =
    ap length (regroup octets from part) ∙ length-append (take from octets ++ part) (drop (from + length part) octets)
    ∙ (let head : length (take from octets ++ part) ≡ from + length part = head_of octets from part fits in
    let tail : length (drop (from + length part) octets) ≡ length octets - (from + length part) = grind (arith, length-drop) in
    omega (arith, head, tail, fits))

-- a part of a piece of the source is the source's part from there
pub part_of_piece :
    (octets piece : List ℕ) (at done some : ℕ) → some ≤ length piece → piece ≡ take (length piece) (drop (at + done) octets)
    → take some piece ≡ take some (drop done (drop at octets))
part_of_piece octets piece at done some few is =
    ap (λ p. take some p) is ∙ take-take some (length piece) (drop (at + done) octets) few ∙ ap (λ o. take some o) (sym (drop-drop done at octets))

-- one more part copied
pub copy_step :
    (octets into after now piece : List ℕ) (at done some count : ℕ) → done ≤ count → count ≡ min (length octets - at) (length into)
    → take done into ≡ take done (drop at octets) → drop done into ≡ drop done now
    → piece ≡ take (length piece) (drop (at + done) octets) → some ≡ min (length piece) (count - done)
    → after ≡ written into done (take some piece)
    → (done + some ≤ count) × (count ≡ min (length octets - at) (length after))
    × (take (done + some) after ≡ take (done + some) (drop at octets)) × (drop (done + some) after ≡ drop (done + some) now)
copy_step octets into after now piece at done some count begun count_is copied left is some_is wrote =
    let few : some ≤ length piece = omega (arith, some_is) in
    let within : done + some ≤ count = omega (arith, begun, some_is) in
    let size : length (take some piece) ≡ some = length-take-le some piece few in
    let fits : done + length (take some piece) ≤ length into = omega (arith, size, within, count_is) in
    let part : take some piece ≡ take (length (take some piece)) (drop done (drop at octets)) =
    part_of_piece octets piece at done some few is ∙ ap (λ n. take n (drop done (drop at octets))) (sym size) in
    let whole : length after ≡ length into = ap length wrote ∙ length-written into done (take some piece) fits in
    let reach : done + length (take some piece) ≡ done + some = ap (λ n. done + n) size in (
      within,
      count_is ∙ ap (λ n. min (length octets - at) n) (sym whole),
      ap (λ n. take n after) (sym reach) ∙ ap (λ o. take (done + length (take some piece)) o) wrote
          ∙ take-written into (drop at octets) done (take some piece) fits copied part ∙ ap (λ n. take n (drop at octets)) reach,
      ap (λ n. drop n after) (sym reach) ∙ ap (λ o. drop (done + length (take some piece)) o) wrote
          ∙ drop-written into done (take some piece) fits ∙ ap (λ n. drop n into) reach
          ∙ sym (drop-drop some done into) ∙ ap (λ o. drop some o) left ∙ drop-drop some done now,
    )

-- one more part appended
pub append_step :
    (octets into after now piece : List ℕ) (at most done some count : ℕ) → done ≤ count → count ≡ min (length octets - at) most
    → into ≡ now ++ take done (drop at octets)
    → piece ≡ take (length piece) (drop (at + done) octets) → some ≡ min (length piece) (count - done)
    → after ≡ into ++ take some piece
    → (done + some ≤ count) × (count ≡ min (length octets - at) most) × (after ≡ now ++ take (done + some) (drop at octets))
append_step octets into after now piece at most done some count begun count_is copied is some_is wrote =
    let few : some ≤ length piece = omega (arith, some_is) in
    let within : done + some ≤ count = omega (arith, begun, some_is) in (
      within,
      count_is,
      wrote ∙ ap (λ l. l ++ take some piece) copied ∙ append_assoc now (take done (drop at octets)) (take some piece)
          ∙ ap (λ p. now ++ (take done (drop at octets) ++ p)) (part_of_piece octets piece at done some few is)
          ∙ ap (λ l. now ++ l) (sym (take-add done some (drop at octets))),
    )

-- all parts appended
pub append_ends :
    (octets into now : List ℕ) (at most done count : ℕ) → done ≤ count → count ≡ min (length octets - at) most → into ≡ now ++ take done (drop at octets)
    → count ≤ done → into ≡ now ++ take most (drop at octets)
append_ends octets into now at most done count begun count_is copied over =
    let whole : done ≡ min most (length (drop at octets)) = omega (arith, begun, over, count_is, length-drop at octets) in
    copied ∙ ap (λ n. now ++ take n (drop at octets)) whole ∙ ap (λ l. now ++ l) (take_min most (drop at octets))
