-- One step of a reader that goes from datagram to datagram.
use Rattle.std.proofs.Common.{◌≡◌, ℕ, zero, suc, ◌+◌, ◌*◌, ◌<◌, ◌≤◌, Bool, true, false, List, [], ◌∷◌, ◌++◌, length, drop, refl, ap, sym, ◌∙◌, subst, arith, append_assoc, length-drop, length-append, ◌≢◌, eqb}
use Rattle.std.proofs.lemmas.Bool.{ne_eqb}
use Rattle.std.proofs.lemmas.List.{drop-drop}
use borrow.Author.Tests.{ltb-false}
use Rattle.std.specs.Prelude.{Result, Ok, Err, None, Some, not, if◌then◌else◌}
use Rattle.arrayvec.specs.ArrayVec.{ArrayVec}
use Rattle.datagrams.specs.declared.frame.FrameFault.{FrameFault}
use Rattle.datagrams.specs.declared.frame.FrameFault.TheVariants.{DatagramCut, MoreButEnd}
use Rattle.datagrams.specs.declared.frame.Part.{Part}
use Rattle.datagrams.specs.Datagram.{is_cut, head_read, body_length}
use Rattle.datagrams.specs.Frame.{part_at, part_from, with_parts, parts_within, frame_of}

-- the octets behind the datagram that begins here
abbrev pub behind : List ℕ → List ℕ
behind rest = drop (12 + (head_read rest).len) rest

-- the reader has read `parts` and stands at `start` within the octets
pub record IsReading (octets : List ℕ) (parts : List Part) (start : ℕ) : Type 0 where
  pub most : ℕ
  pub enough : length (drop start octets) ≤ most
  pub same : with_parts parts (parts_within most (16 + start) (drop start octets)) ≡ parts_within (length octets) 16 octets
  pub room : 12 * length parts ≤ start
  pub inside : start ≤ length octets

with_parts-none : (r : Result (List Part) FrameFault) → with_parts [] r ≡ r
with_parts-none (Ok ps) = refl
with_parts-none (Err f) = refl

abbrev ok_parts : List Part → Result (List Part) FrameFault
ok_parts ps = Ok ps

with_parts-twice : (a b : List Part) (r : Result (List Part) FrameFault) → with_parts a (with_parts b r) ≡ with_parts (a ++ b) r
with_parts-twice a b (Ok ps) = rw append_assoc refl
with_parts-twice a b (Err f) = refl

-- at the first datagram
pub reading_begins : (octets : List ℕ) → IsReading octets [] 0
reading_begins octets = record {
  most = length octets;
  enough = omega arith;
  same = with_parts-none (parts_within (length octets) 16 octets);
  room = omega arith;
  inside = omega arith;
}

-- a datagram that is not cut has its twelve octets
has_twelve : (rest : List ℕ) → is_cut rest ≡ false → 12 + body_length rest ≤ length rest
has_twelve rest whole = omega (arith, ltb-false)

parts_within-cut : (most at : ℕ) (rest : List ℕ) → is_cut rest ≡ true → parts_within most at rest ≡ Err (DatagramCut at)
parts_within-cut zero at rest cut = refl
parts_within-cut (suc most) at rest cut = rw cut refl

parts_within-last : (most at : ℕ) (rest : List ℕ) → length rest ≤ most → is_cut rest ≡ false → (head_read rest).more ≡ false
    → parts_within most at rest ≡ Ok (part_at at rest ∷ [])
parts_within-last zero at rest few whole last = absurd (omega (arith, has_twelve rest whole))
parts_within-last (suc most) at rest few whole last = rw (whole, last) refl

parts_within-end : (most at : ℕ) (rest : List ℕ) → length rest ≤ most → is_cut rest ≡ false → (head_read rest).more ≡ true
    → length (behind rest) ≡ 0 → parts_within most at rest ≡ Err MoreButEnd
parts_within-end zero at rest few whole more none = absurd (omega (arith, has_twelve rest whole))
parts_within-end (suc most) at rest few whole more none = rw (whole, more, none) refl

parts_within-on : (most at : ℕ) (rest : List ℕ) → length rest ≤ most → is_cut rest ≡ false → (head_read rest).more ≡ true
    → 0 < length (behind rest)
    → (n : ℕ) × (length (behind rest) ≤ n)
    × (parts_within most at rest ≡ with_parts (part_at at rest ∷ []) (parts_within n (at + (12 + (head_read rest).len)) (behind rest)))
parts_within-on zero at rest few whole more some = absurd (omega (arith, has_twelve rest whole))
parts_within-on (suc most) at rest few whole more some =
    let left : eqb (length (behind rest)) 0 ≡ false = ne_eqb (length (behind rest)) 0 (omega arith) in
    (most, omega (arith, length-drop {A = ℕ}), rw (whole, more, left) refl)

not-true : (b : Bool) → not b ≡ true → b ≡ false
not-true true e = sym e
not-true false e = refl

not-false : (b : Bool) → not b ≡ false → b ≡ true
not-false true e = refl
not-false false e = sym e

from_test : (b : Bool) (p q : Part) → Some p ≡ (if b then None else Some q) → (b ≡ false) × (p ≡ q)
from_test true p q e = cc
from_test false p q e = (refl, cc)

-- a part that was found is not cut, and is the one that stands here
found_part : (octets : List ℕ) (start : ℕ) (part : Part) → Some part ≡ part_from octets start
    → (is_cut (drop start octets) ≡ false) × (part ≡ part_at (16 + start) (drop start octets))
found_part octets start part e = from_test (is_cut (drop start octets)) part (part_at (16 + start) (drop start octets)) e

none_test : (b : Bool) (q : Part) → None ≡ (if b then None else Some q) → b ≡ true
none_test true q e = refl
none_test false q e = cc

-- the datagram here is cut
pub step_cut : (octets : List ℕ) (parts : List Part) (start : ℕ) → IsReading octets parts start
    → None ≡ part_from octets start
    → Err (DatagramCut (16 + start)) ≡ frame_of (parts_within (length octets) 16 octets)
step_cut octets parts start r e =
    let cut = none_test (is_cut (drop start octets)) (part_at (16 + start) (drop start octets)) e in
    let within = parts_within-cut r.most (16 + start) (drop start octets) cut in
    sym (ap frame_of (sym r.same ∙ ap (with_parts parts) within))

-- a datagram stands here, as the last
pub step_last : (octets : List ℕ) (parts : List Part) (start : ℕ) (part : Part) (all : ArrayVec Part)
    → IsReading octets parts start → Some part ≡ part_from octets start
    → not part.head.more ≡ true → all.items ≡ parts ++ part ∷ []
    → Ok (record { parts = all }) ≡ frame_of (parts_within (length octets) 16 octets)
step_last octets parts start part all r e last pushed =
    let found = found_part octets start part e in
    let no_more : (head_read (drop start octets)).more ≡ false = subst (λ (p : Part). p.head.more ≡ false) found.1 (not-true part.head.more last) in
    let within = parts_within-last r.most (16 + start) (drop start octets) r.enough found.0 no_more in
    let same : parts_within (length octets) 16 octets ≡ Ok all.items =
    sym r.same ∙ ap (with_parts parts) within ∙ ap ok_parts (sym (pushed ∙ ap (λ (p : Part). parts ++ p ∷ []) found.1)) in
    sym (ap frame_of same)

-- a datagram stands here that says "more", and nothing is left
pub step_end : (octets : List ℕ) (parts : List Part) (start : ℕ) (part : Part)
    → IsReading octets parts start → Some part ≡ part_from octets start
    → not part.head.more ≡ false → start + (12 + part.head.len) ≡ length octets
    → Err MoreButEnd ≡ frame_of (parts_within (length octets) 16 octets)
step_end octets parts start part r e goes ends =
    let found = found_part octets start part e in
    let more : (head_read (drop start octets)).more ≡ true = subst (λ (p : Part). p.head.more ≡ true) found.1 (not-false part.head.more goes) in
    let full : start + (12 + (head_read (drop start octets)).len) ≡ length octets = subst (λ (p : Part). start + (12 + p.head.len) ≡ length octets) found.1 ends in
    let left : length (behind (drop start octets)) ≡ 0 = omega (arith, length-drop {A = ℕ}) in
    let within = parts_within-end r.most (16 + start) (drop start octets) r.enough found.0 more left in
    sym (ap frame_of (sym r.same ∙ ap (with_parts parts) within))

reading_on : (octets : List ℕ) (parts : List Part) (start size : ℕ) → IsReading octets parts start
    → is_cut (drop start octets) ≡ false → (head_read (drop start octets)).more ≡ true
    → size ≡ 12 + (head_read (drop start octets)).len → start + size ≢ length octets
    → IsReading octets (parts ++ part_at (16 + start) (drop start octets) ∷ []) (start + size)
reading_on octets parts start size r whole more is_size some =
    let fits = has_twelve (drop start octets) whole in
    let moved : drop (start + size) octets ≡ behind (drop start octets) = rw (← is_size) (sym (drop-drop size start octets)) in
    let left : 0 < length (behind (drop start octets)) = omega (arith, length-drop {A = ℕ}) in
    let on = parts_within-on r.most (16 + start) (drop start octets) r.enough whole more left in
    let shifted : 16 + (start + size) ≡ (16 + start) + (12 + (head_read (drop start octets)).len) = omega arith in
    record {
      most = on.0;
      enough = rw moved on.1;
      same = rw (moved, shifted, ← with_parts-twice) (ap (with_parts parts) (sym on.2) ∙ r.same);
      room = omega (arith, length-append {A = Part});
      inside = omega (arith, length-drop {A = ℕ});
    }

-- a datagram stands here that says "more", and something is left
pub step_on : (octets : List ℕ) (parts : List Part) (start : ℕ) (part : Part) (all : List Part)
    → IsReading octets parts start → Some part ≡ part_from octets start
    → not part.head.more ≡ false → start + (12 + part.head.len) ≢ length octets → all ≡ parts ++ part ∷ []
    → IsReading octets all (start + (12 + part.head.len))
step_on octets parts start part all r e goes on pushed =
    let found = found_part octets start part e in
    let more : (head_read (drop start octets)).more ≡ true = subst (λ (p : Part). p.head.more ≡ true) found.1 (not-false part.head.more goes) in
    let size : 12 + part.head.len ≡ 12 + (head_read (drop start octets)).len = ap (λ (p : Part). 12 + p.head.len) found.1 in
    let after = reading_on octets parts start (12 + part.head.len) r found.0 more size on in
    subst (λ (ps : List Part). IsReading octets ps (start + (12 + part.head.len)))
    (sym (pushed ∙ ap (λ (p : Part). parts ++ p ∷ []) found.1)) after
