-- What octets read as, against the block that spells them.
use Rattle.std.proofs.Common.{◌≡◌, ℕ, suc, [], ◌∷◌, subst, ◌+◌, ◌-◌, ◌%◌, ◌<◌, ◌≤◌, ◌^◌, Bool, true, false, List, ◌++◌, length, take, drop, refl, ap, sym, ◌∙◌, arith, append_assoc, length-drop, length-append, take-append-drop, length-take-le, ◌⊎◌, inl, inr}
use Rattle.std.specs.Prelude.{Result, Ok, Err, Option, None, Some, nat_lt, ◌==◌, ◌||◌, not, if◌then◌else◌, IfOk}
use Rattle.std.proofs.lemmas.Bool.{le-ltb, ltb-false, eqb-true, eq-eqb}
use Rattle.std.proofs.lemmas.List.{drop-drop, drop_at}
use Rattle.capture_blocks.specs.declared.block.BlockAt.{BlockAt}
use Rattle.capture_blocks.specs.declared.block.BlockFault.{BlockFault}
use Rattle.capture_blocks.specs.declared.block.BlockFault.TheVariants.{Cut, Damaged}
use Rattle.capture_blocks.specs.declared.order.Order.{Order}
use Rattle.capture_blocks.specs.declared.order.Order.TheVariants.{LowFirst, HighFirst}
use Rattle.capture_blocks.specs.Block.{section, magic, least_of, Block, size_of, block_text, IsBlock, magic_in, order_in, block_by, block_read}
use Rattle.capture_blocks.specs.Order.{number_in, octets_in}
use Rattle.ec_fields.proofs.Cells.{AreOctets}
use Rattle.capture_blocks.proofs.Spelled.{four_back, length-four, number_in-drop, four_here, four_fits}

least_cases : (a b c d e f : Bool)
    → 12 ≤ (if a then 28 else if b then 20 else if c then 32 else if d then 16 else if e then 24 else if f then 32 else 12)
least_cases true b c d e f = omega arith
least_cases false true c d e f = omega arith
least_cases false false true d e f = omega arith
least_cases false false false true e f = omega arith
least_cases false false false false true f = omega arith
least_cases false false false false false true = omega arith
least_cases false false false false false false = omega arith

-- a block has 12 octets at the least
pub least_twelve : (kind : ℕ) → 12 ≤ least_of kind
least_twelve kind = least_cases (kind == section) (kind == 1) (kind == 2) (kind == 3) (kind == 5) (kind == 6)

ne_true : (b : Bool) → b ≡ true → b ≡ false → ⊥
ne_true true p q = cc
ne_true false p q = cc

take_past : (xs ys : List ℕ) (n : ℕ) → take (length xs + n) (xs ++ ys) ≡ xs ++ take n ys
take_past [] ys n =
    let e : 0 + n ≡ n = omega arith in
    rw e refl
take_past (x ∷ xs) ys n =
    let e : suc (length xs) + n ≡ suc (length xs + n) = omega arith in
    rw e (ap (λ (l : List ℕ). x ∷ l) (take_past xs ys n))

is_or_not : (b : Bool) → (b ≡ true) ⊎ (b ≡ false)
is_or_not true = inl refl
is_or_not false = inr refl

section_same : (a b : Order) → octets_in a 4 section ≡ octets_in b 4 section
section_same LowFirst LowFirst = refl
section_same LowFirst HighFirst = refl
section_same HighFirst LowFirst = refl
section_same HighFirst HighFirst = refl

abbrev some_order : Order → Option Order
some_order order = Some order

some_same : (a b : Order) → some_order a ≡ some_order b → a ≡ b
some_same a b e = cc

-- spelled, so read

text_behind : (order : Order) (kind size : ℕ) (body behind : List ℕ)
    → (octets_in order 4 kind ++ (octets_in order 4 size ++ (body ++ octets_in order 4 size))) ++ behind
    ≡ octets_in order 4 kind ++ (octets_in order 4 size ++ (body ++ (octets_in order 4 size ++ behind)))
text_behind order kind size body behind = simp append_assoc

drop_four : (order : Order) (v : ℕ) (rest : List ℕ) → drop 4 (octets_in order 4 v ++ rest) ≡ rest
drop_four LowFirst v rest = refl
drop_four HighFirst v rest = refl

magic_told : (order : Order) (size : ℕ) (rest : List ℕ)
    → magic_in (octets_in order 4 section ++ (octets_in order 4 size ++ (octets_in order 4 magic ++ rest))) ≡ Some order
magic_told LowFirst size rest = refl
magic_told HighFirst size rest = refl

by_order : (same : Bool) (before : Order) (o : Option Order) (order : Order) → (same ≡ true → o ≡ Some order) → (same ≡ false → before ≡ order)
    → (if same then o else some_order before) ≡ Some order
by_order true before o order alike apart = alike refl
by_order false before o order alike apart = ap some_order (apart refl)

-- a block's type reads the same in the byte order before it
kind_before : (before : Order) (b : Block) → IsBlock before b → octets_in b.order 4 b.kind ≡ octets_in before 4 b.kind
kind_before before b is = elim (is_or_not (b.kind == section)) [
  | inl alike ↦
      let e : b.kind ≡ section = eqb-true b.kind section alike in
      rw e (section_same b.order before)
  | inr apart ↦ ap (λ (o : Order). octets_in o 4 b.kind) (is.kept (λ e. ne_true (b.kind == section) (eq-eqb b.kind section e) apart))
]

order_told : (before : Order) (b : Block) (rest : List ℕ) → IsBlock before b
    → order_in before b.kind (octets_in b.order 4 b.kind ++ (octets_in b.order 4 (size_of b) ++ (b.body ++ rest))) ≡ Some b.order
order_told before b rest is =
    by_order (b.kind == section) before (magic_in (octets_in b.order 4 b.kind ++ (octets_in b.order 4 (size_of b) ++ (b.body ++ rest)))) b.order
    (λ alike.
    let e : b.kind ≡ section = eqb-true b.kind section alike in
    let m = is.told e in
    let whole : octets_in b.order 4 b.kind ++ (octets_in b.order 4 (size_of b) ++ (b.body ++ rest))
    ≡ octets_in b.order 4 section ++ (octets_in b.order 4 (size_of b) ++ (octets_in b.order 4 magic ++ (m.0 ++ rest))) =
    ap (λ (n : ℕ). octets_in b.order 4 n ++ (octets_in b.order 4 (size_of b) ++ (b.body ++ rest))) e
    ∙ ap (λ (x : List ℕ). octets_in b.order 4 section ++ (octets_in b.order 4 (size_of b) ++ (x ++ rest))) m.1
    ∙ ap (λ (x : List ℕ). octets_in b.order 4 section ++ (octets_in b.order 4 (size_of b) ++ x)) (append_assoc (octets_in b.order 4 magic) m.0 rest) in
    ap magic_in whole ∙ magic_told b.order (size_of b) (m.0 ++ rest))
    (λ apart. sym (is.kept (λ e. ne_true (b.kind == section) (eq-eqb b.kind section e) apart)))

by_size : (kind : ℕ) (octets : List ℕ) (order : Order) (n : ℕ) → number_in order 4 octets 4 ≡ n → n % 4 ≡ 0 → least_of kind ≤ n → n ≤ length octets
    → number_in order 4 octets (n - 4) ≡ n → block_by kind octets (Some order) ≡ Ok (record { order = order; kind = kind; size = n })
by_size kind octets order n size words least fits again =
    let t0 : (n % 4 == 0) ≡ true = eq-eqb (n % 4) 0 words in
    let t1 : nat_lt n (least_of kind) ≡ false = le-ltb _ _ least in
    let t2 : nat_lt (length octets) n ≡ false = le-ltb _ _ fits in
    let t3 : (number_in order 4 octets (n - 4) == n) ≡ true = eq-eqb _ _ again in
    rw (size, t0, t1, t2, t3) refl

-- a block that is spelled is read
pub block_only : (before : Order) (octets : List ℕ) (b : Block) (behind : List ℕ) → IsBlock before b → octets ≡ block_text b ++ behind
    → block_read before octets ≡ Ok (record { order = b.order; kind = b.kind; size = size_of b })
block_only before octets b behind is text =
    let rest : List ℕ = octets_in b.order 4 (size_of b) ++ behind in
    let twelve = least_twelve b.kind in
    let least = is.least in
    let e = text ∙ text_behind b.order b.kind (size_of b) b.body behind in
    let e' = e ∙ ap (λ (x : List ℕ). x ++ (octets_in b.order 4 (size_of b) ++ (b.body ++ (octets_in b.order 4 (size_of b) ++ behind)))) (kind_before before b is) in
    let kind : number_in before 4 octets 0 ≡ b.kind = ap (λ (x : List ℕ). number_in before 4 x 0) e' ∙ four_back before b.kind _ is.kind in
    let order : order_in before b.kind octets ≡ Some b.order = ap (order_in before b.kind) e ∙ order_told before b (octets_in b.order 4 (size_of b) ++ behind) is in
    let d4 = ap (drop 4) e ∙ drop_four b.order b.kind (octets_in b.order 4 (size_of b) ++ (b.body ++ (octets_in b.order 4 (size_of b) ++ behind))) in
    let size : number_in b.order 4 octets 4 ≡ size_of b =
    number_in-drop b.order 4 4 octets ∙ ap (λ (x : List ℕ). number_in b.order 4 x 0) d4 ∙ four_back b.order (size_of b) _ is.small in
    let d8 = sym (drop-drop 4 4 octets) ∙ ap (drop 4) d4 ∙ drop_four b.order (size_of b) (b.body ++ (octets_in b.order 4 (size_of b) ++ behind)) in
    let d = sym (drop-drop (length b.body) 8 octets) ∙ ap (drop (length b.body)) d8
    ∙ drop_at b.body (octets_in b.order 4 (size_of b) ++ behind) (length b.body) refl in
    let place : size_of b - 4 ≡ 8 + length b.body = omega arith in
    let again : number_in b.order 4 octets (size_of b - 4) ≡ size_of b =
    ap (number_in b.order 4 octets) place ∙ number_in-drop b.order 4 (8 + length b.body) octets
    ∙ ap (λ (x : List ℕ). number_in b.order 4 x 0) d ∙ four_back b.order (size_of b) behind is.small in
    let four = length-four b.order (size_of b) in
    let kind_four = length-four b.order b.kind in
    let all : length octets ≡ size_of b + length behind =
    ap length e ∙ (omega (arith, length-append {A = ℕ})) in
    let long : nat_lt (length octets) 12 ≡ false = le-ltb _ _ (omega arith) in
    rw (long, kind, order) (by_size b.kind octets b.order (size_of b) size is.words is.least (omega arith) again)

-- read, so spelled

record Tested (whole less cut twice : Bool) (at found : BlockAt) : Type 0 where
  words : whole ≡ true
  below : less ≡ false
  fits : cut ≡ false
  again : twice ≡ true
  same : at ≡ found

tested : (words below cut again : Bool) (at found : BlockAt)
    → (if not words || below then Err Damaged else if cut then Err Cut else if not again then Err Damaged else Ok found) ≡ Ok at
    → Tested words below cut again at found
tested false below cut again at found e = cc
tested true true cut again at found e = cc
tested true false true again at found e = cc
tested true false false false at found e = cc
tested true false false true at found e = record { words = refl; below = refl; fits = refl; again = refl; same = cc }

-- what is known of a block that was read
record Known (before : Order) (octets : List ℕ) (order : Order) (kind size : ℕ) : Type 0 where
  told : order_in before kind octets ≡ Some order
  kinds : number_in before 4 octets 0 ≡ kind
  sizes : number_in order 4 octets 4 ≡ size
  words : size % 4 ≡ 0
  least : least_of kind ≤ size
  fits : size ≤ length octets
  again : number_in order 4 octets (size - 4) ≡ size

known_by : (before : Order) (octets : List ℕ) (kind : ℕ) (o : Option Order) (at : BlockAt) → number_in before 4 octets 0 ≡ kind → order_in before kind octets ≡ o
    → block_by kind octets o ≡ Ok at → (order : Order) × (size : ℕ) × Known before octets order kind size × (at ≡ record { order = order; kind = kind; size = size })
known_by before octets kind None at kinds told e = cc
known_by before octets kind (Some order) at kinds told e =
    let n = number_in order 4 octets 4 in
    let t = tested (n % 4 == 0) (nat_lt n (least_of kind)) (nat_lt (length octets) n) (number_in order 4 octets (n - 4) == n) at
    (record { order = order; kind = kind; size = n }) e in (
      order,
      n,
      record {
        told = told;
        kinds = kinds;
        sizes = refl;
        words = eqb-true (n % 4) 0 t.words;
        least = ltb-false n (least_of kind) t.below;
        fits = ltb-false (length octets) n t.fits;
        again = eqb-true (number_in order 4 octets (n - 4)) n t.again;
      },
      t.same,
    )

long_test : (short : Bool) (r : Result BlockAt BlockFault) (at : BlockAt) → (if short then Err Cut else r) ≡ Ok at → r ≡ Ok at
long_test true r at e = cc
long_test false r at e = e

magic_cases : (low high : Bool) (order : Order) → (if low then some_order LowFirst else if high then some_order HighFirst else None) ≡ some_order order
    → ((low ≡ true) × (LowFirst ≡ order)) ⊎ ((high ≡ true) × (HighFirst ≡ order))
magic_cases true high order e = inl (refl, some_same LowFirst order e)
magic_cases false true order e = inr (refl, some_same HighFirst order e)
magic_cases false false order e = cc

magic_found : (octets : List ℕ) (order : Order) → magic_in octets ≡ Some order → number_in order 4 octets 8 ≡ magic
magic_found octets order e = elim (magic_cases (number_in LowFirst 4 octets 8 == magic) (number_in HighFirst 4 octets 8 == magic) order e) [
  | inl low ↦ ap (λ (o : Order). number_in o 4 octets 8) (sym low.1) ∙ eqb-true (number_in LowFirst 4 octets 8) magic low.0
  | inr high ↦ ap (λ (o : Order). number_in o 4 octets 8) (sym high.1) ∙ eqb-true (number_in HighFirst 4 octets 8) magic high.0
]

order_cases : (same : Bool) (before : Order) (o : Option Order) (order : Order) → (if same then o else some_order before) ≡ some_order order
    → ((same ≡ true) × (o ≡ some_order order)) ⊎ ((same ≡ false) × (before ≡ order))
order_cases true before o order e = inl (refl, e)
order_cases false before o order e = inr (refl, some_same before order e)

section_is : (b : Bool) (kind : ℕ) → (kind == section) ≡ b → kind ≡ section → b ≡ true
section_is b kind is e = sym is ∙ eq-eqb kind section e

-- the body of the block that begins octets
abbrev body_in : ℕ → List ℕ → List ℕ
body_in size octets = take (size - 12) (drop 8 octets)

magic_body : (octets : List ℕ) (order : Order) (size : ℕ) → AreOctets octets → 16 ≤ size → size ≤ length octets → number_in order 4 octets 8 ≡ magic
    → body_in size octets ≡ octets_in order 4 magic ++ take (size - 16) (drop 12 octets)
magic_body octets order size o big fits e =
    let front = four_here order 8 octets o (omega arith) in
    let four = length-four order (number_in order 4 octets 8) in
    let place : size - 12 ≡ length (octets_in order 4 (number_in order 4 octets 8)) + (size - 16) = omega arith in
    ap (λ (x : List ℕ). take (size - 12) x) front
    ∙ ap (λ (n : ℕ). take n (octets_in order 4 (number_in order 4 octets 8) ++ drop 12 octets)) place
    ∙ take_past (octets_in order 4 (number_in order 4 octets 8)) (drop 12 octets) (size - 16)
    ∙ ap (λ (n : ℕ). octets_in order 4 n ++ take (size - 16) (drop 12 octets)) e

kind_after : (before order : Order) (kind : ℕ) (octets : List ℕ) → order_in before kind octets ≡ Some order → octets_in before 4 kind ≡ octets_in order 4 kind
kind_after before order kind octets told = elim (order_cases (kind == section) before (magic_in octets) order told) [
  | inl alike ↦
      let e : kind ≡ section = eqb-true kind section alike.0 in
      rw e (section_same before order)
  | inr apart ↦ ap (λ (o : Order). octets_in o 4 kind) apart.1
]

-- what is found where a block was read
abbrev pub Found : Order → List ℕ → BlockAt → Type 0
Found before octets at =
    (b : Block) × IsBlock before b × (octets ≡ block_text b ++ drop at.size octets) × (at ≡ record { order = b.order; kind = b.kind; size = size_of b })

known_text : (before order : Order) (octets : List ℕ) (kind size : ℕ) → AreOctets octets → Known before octets order kind size → 12 ≤ size
    → octets ≡ block_text (record { order = order; kind = kind; body = body_in size octets }) ++ drop size octets
known_text before order octets kind size o k big =
    let fits = k.fits in
    let left = length-drop 8 octets in
    let taken = length-take-le (size - 12) (drop 8 octets) (omega arith) in
    let whole : 12 + length (body_in size octets) ≡ size = omega arith in
    let last_place : size - 4 ≡ 8 + (size - 12) = omega arith in
    let end : (size - 4) + 4 ≡ size = omega arith in
    let last : drop (8 + (size - 12)) octets ≡ octets_in order 4 size ++ drop size octets =
    ap (λ (n : ℕ). drop n octets) (sym last_place) ∙ four_here order (size - 4) octets o (omega arith)
    ∙ ap (λ (n : ℕ). octets_in order 4 n ++ drop ((size - 4) + 4) octets) k.again ∙ ap (λ (n : ℕ). octets_in order 4 size ++ drop n octets) end in
    let body : drop 8 octets ≡ body_in size octets ++ (octets_in order 4 size ++ drop size octets) =
    sym (take-append-drop (size - 12) (drop 8 octets)) ∙ ap (λ (x : List ℕ). body_in size octets ++ x) (drop-drop (size - 12) 8 octets ∙ last) in
    let second : drop 4 octets ≡ octets_in order 4 size ++ (body_in size octets ++ (octets_in order 4 size ++ drop size octets)) =
    four_here order 4 octets o (omega arith) ∙ ap (λ (n : ℕ). octets_in order 4 n ++ drop 8 octets) k.sizes ∙ ap (λ (x : List ℕ). octets_in order 4 size ++ x) body in
    let first : octets ≡ octets_in order 4 kind ++ (octets_in order 4 size ++ (body_in size octets ++ (octets_in order 4 size ++ drop size octets))) =
    four_here before 0 octets o (omega arith) ∙ ap (λ (n : ℕ). octets_in before 4 n ++ drop 4 octets) k.kinds
    ∙ ap (λ (x : List ℕ). x ++ drop 4 octets) (kind_after before order kind octets k.told) ∙ ap (λ (x : List ℕ). octets_in order 4 kind ++ x) second in
    first ∙ sym (text_behind order kind size (body_in size octets) (drop size octets))
    ∙ ap (λ (n : ℕ). (octets_in order 4 kind ++ (octets_in order 4 n ++ (body_in size octets ++ octets_in order 4 n))) ++ drop size octets) (sym whole)

known_is : (before order : Order) (octets : List ℕ) (kind size : ℕ) → AreOctets octets → Known before octets order kind size → 12 ≤ size
    → IsBlock before (record { order = order; kind = kind; body = body_in size octets })
known_is before order octets kind size o k big =
    let fits = k.fits in
    let left = length-drop 8 octets in
    let taken = length-take-le (size - 12) (drop 8 octets) (omega arith) in
    let whole : 12 + length (body_in size octets) ≡ size = omega arith in
    let small : size < 2 ^ 32 = subst (λ (n : ℕ). n < 2 ^ 32) k.sizes (four_fits order 4 octets o) in
    let least = k.least in
    record {
      told = λ e. elim (order_cases (kind == section) before (magic_in octets) order k.told) [
        | inl alike ↦
            let enough : 28 ≤ size = subst (λ (n : ℕ). least_of n ≤ size) e least in
            (take (size - 16) (drop 12 octets), magic_body octets order size o (omega arith) k.fits (magic_found octets order alike.1))
        | inr apart ↦ absurd (ne_true (kind == section) (eq-eqb kind section e) apart.0)
      ];
      kept = λ e. elim (order_cases (kind == section) before (magic_in octets) order k.told) [
        | inl alike ↦ absurd (e (eqb-true kind section alike.0))
        | inr apart ↦ sym apart.1
      ];
      kind = subst (λ (n : ℕ). n < 2 ^ 32) k.kinds (four_fits before 0 octets o);
      small = omega arith;
      words = ap (λ (n : ℕ). n % 4) whole ∙ k.words;
      least = omega arith;
    }

-- a block that was read is spelled there
pub block_found : (before : Order) (octets : List ℕ) (at : BlockAt) → AreOctets octets → block_read before octets ≡ Ok at → Found before octets at
block_found before octets at o e =
    let r = long_test (nat_lt (length octets) 12) (block_by (number_in before 4 octets 0) octets (order_in before (number_in before 4 octets 0) octets)) at e in
    let k = known_by before octets (number_in before 4 octets 0) (order_in before (number_in before 4 octets 0) octets) at refl refl r in
    let kind = number_in before 4 octets 0 in
    let twelve = least_twelve kind in
    let least = k.2.least in
    let fits = k.2.fits in
    let left = length-drop 8 octets in
    let taken = length-take-le (k.1 - 12) (drop 8 octets) (omega arith) in
    let whole : 12 + length (body_in k.1 octets) ≡ k.1 = omega arith in
    let size : k.1 ≡ at.size = ap (λ (a : BlockAt). a.size) (sym k.3) in (
      record { order = k.0; kind = kind; body = body_in k.1 octets },
      known_is before k.0 octets kind k.1 o k.2 (omega arith),
      known_text before k.0 octets kind k.1 o k.2 (omega arith)
          ∙ ap (λ (n : ℕ). block_text (record { order = k.0; kind = kind; body = body_in k.1 octets }) ++ drop n octets) size,
      k.3 ∙ ap (λ (n : ℕ). record { order = k.0; kind = kind; size = n }) (sym whole),
    )

-- the same of what a reader answered

pub found_in : (before : Order) (octets : List ℕ) (r : Result BlockAt BlockFault) → AreOctets octets → r ≡ block_read before octets → IfOk r (Found before octets)
found_in before octets (Ok at) o e = block_found before octets at o (sym e)
found_in before octets (Err fault) o e = tt

pub only_in : (before : Order) (octets : List ℕ) (r : Result BlockAt BlockFault) (b : Block) (behind : List ℕ) → r ≡ block_read before octets
    → IsBlock before b → octets ≡ block_text b ++ behind → r ≡ Ok (record { order = b.order; kind = b.kind; size = size_of b })
only_in before octets r b behind e is text = e ∙ block_only before octets b behind is text
