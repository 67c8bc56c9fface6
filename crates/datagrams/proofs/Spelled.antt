-- A datagram's octets and what they read as.
use Rattle.std.proofs.Common.{◌≡◌, ℕ, zero, suc, ◌+◌, ◌*◌, ◌/◌, ◌%◌, ◌^◌, ◌<◌, ◌≤◌, Bool, true, false, List, [], ◌∷◌, ◌++◌, length, take, drop, get_or, refl, ap, sym, ◌∙◌, subst, arith, append_assoc, length-drop, length-append, ◌≢◌, inl, inr, add-zero, take-append-drop, length-take-le}
use borrow.Author.Tests.{ltb-false}
use Rattle.std.specs.Prelude.{◌==◌, if◌then◌else◌, slice_index}
use Rattle.std.proofs.lemmas.Bool.Decides.{nat_tests, eqb_tells}
use Rattle.std.proofs.lemmas.Bool.{eq-eqb, ne_eqb, le-ltb}
use Rattle.std.proofs.Math.Seq.{drop-append_seam, drop-append-add}
use Rattle.std.proofs.lemmas.List.{get_or-drop, drop-drop, drop_at}
use Rattle.byteorder.specs.Endian.{little_bytes}
use Rattle.ec_fields.specs.Fields.{number_at, bits_of}
use Rattle.ec_fields.proofs.Cells.{AreOctets, next_cell, two_here, two_fits, two_read}
use Rattle.datagrams.specs.declared.head.Head.{Head}
use Rattle.datagrams.specs.declared.command.Command.{Command}
use Rattle.datagrams.specs.declared.command.Command.TheVariants.{Nop, Aprd, Apwr, Aprw, Fprd, Fpwr, Fprw, Brd, Bwr, Brw, Lrd, Lwr, Lrw, Armw, Frmw, Other}
use Rattle.datagrams.specs.Command.{number_of, command_of, IsNamed}
use Rattle.datagrams.specs.Datagram.{Datagram, IsSized, IsDatagram, length_word, front_text, datagram_text, size_of, body_length, is_cut, head_read, datagram_here}

-- a command is that of its number
pub command_of-number_of : (c : Command) → IsNamed c → command_of (number_of c) ≡ c
command_of-number_of Nop h = refl
command_of-number_of Aprd h = refl
command_of-number_of Apwr h = refl
command_of-number_of Aprw h = refl
command_of-number_of Fprd h = refl
command_of-number_of Fpwr h = refl
command_of-number_of Fprw h = refl
command_of-number_of Brd h = refl
command_of-number_of Bwr h = refl
command_of-number_of Brw h = refl
command_of-number_of Lrd h = refl
command_of-number_of Lwr h = refl
command_of-number_of Lrw h = refl
command_of-number_of Armw h = refl
command_of-number_of Frmw h = refl
command_of-number_of (Other n) h = grind (arith, nat_tests)

-- a number is that of its command
pub number_of-command_of : (n : ℕ) → number_of (command_of n) ≡ n
number_of-command_of n = grind (arith, nat_tests)

named_test : (n k : ℕ) (x y : Command) → IsNamed x → (n ≢ k → IsNamed y) → IsNamed (if n == k then x else y)
named_test n k x y hx hy = elim (eqb_tells n k) [
  | inl same ↦ rw same.0 hx
  | inr other ↦ rw other.0 (hy other.1)
]

-- the command of a number has a name, or its number has none
pub command_named : (n : ℕ) → IsNamed (command_of n)
command_named n =
    named_test n 0 _ _ tt (λ n0. named_test n 1 _ _ tt (λ n1. named_test n 2 _ _ tt (λ n2.
    named_test n 3 _ _ tt (λ n3. named_test n 4 _ _ tt (λ n4. named_test n 5 _ _ tt (λ n5.
    named_test n 6 _ _ tt (λ n6. named_test n 7 _ _ tt (λ n7. named_test n 8 _ _ tt (λ n8.
    named_test n 9 _ _ tt (λ n9. named_test n 10 _ _ tt (λ n10. named_test n 11 _ _ tt (λ n11.
    named_test n 12 _ _ tt (λ n12. named_test n 13 _ _ tt (λ n13. named_test n 14 _ _ tt (λ n14.
    let above : 14 < n = omega arith in above)))))))))))))))

-- two octets are those of their number
two_bytes : (a b : ℕ) → a < 256 → b < 256 → little_bytes 2 (a + 256 * b) ≡ a ∷ b ∷ []
two_bytes a b ha hb =
    let low : (a + 256 * b) % 256 ≡ a = omega arith in
    let high : (a + 256 * b) / 256 % 256 ≡ b = omega arith in
    rw (low, high) refl

-- the number at a place is that of the two octets there
pub number_at-two : (octets : List ℕ) (at : ℕ) → number_at 2 octets at ≡ get_or octets at 0 + 256 * get_or octets (at + 1) 0
number_at-two octets at = rw (get_or-drop at octets 0 0, get_or-drop at octets 1 0, add-zero at) (omega arith)

word_of : ℕ → ℕ → Bool → Bool → ℕ
word_of len reserved c m = len + 2048 * reserved + (if c then 16384 else 0) + (if m then 32768 else 0)

len_of : (len reserved : ℕ) (c m : Bool) → len < 2 ^ 11 → reserved < 2 ^ 3 → bits_of (word_of len reserved c m) 0 11 ≡ len
unfolding word_of
len_of len reserved true true few three = omega arith
len_of len reserved true false few three = omega arith
len_of len reserved false true few three = omega arith
len_of len reserved false false few three = omega arith

reserved_of : (len reserved : ℕ) (c m : Bool) → len < 2 ^ 11 → reserved < 2 ^ 3 → bits_of (word_of len reserved c m) 11 3 ≡ reserved
unfolding word_of
reserved_of len reserved true true few three = omega arith
reserved_of len reserved true false few three = omega arith
reserved_of len reserved false true few three = omega arith
reserved_of len reserved false false few three = omega arith

fits_of : (len reserved : ℕ) (c m : Bool) → len < 2 ^ 11 → reserved < 2 ^ 3 → word_of len reserved c m < 2 ^ 16
unfolding word_of
fits_of len reserved true true few three = omega arith
fits_of len reserved true false few three = omega arith
fits_of len reserved false true few three = omega arith
fits_of len reserved false false few three = omega arith

bit_14 : (len reserved : ℕ) (c m : Bool) → len < 2 ^ 11 → reserved < 2 ^ 3 → (bits_of (word_of len reserved c m) 14 1 == 1) ≡ c
unfolding word_of
bit_14 len reserved true true few three = eq-eqb _ _ (omega arith)
bit_14 len reserved true false few three = eq-eqb _ _ (omega arith)
bit_14 len reserved false true few three = ne_eqb _ _ (λ e. omega arith)
bit_14 len reserved false false few three = ne_eqb _ _ (λ e. omega arith)

bit_15 : (len reserved : ℕ) (c m : Bool) → len < 2 ^ 11 → reserved < 2 ^ 3 → (bits_of (word_of len reserved c m) 15 1 == 1) ≡ m
unfolding word_of
bit_15 len reserved true true few three = eq-eqb _ _ (omega arith)
bit_15 len reserved true false few three = ne_eqb _ _ (λ e. omega arith)
bit_15 len reserved false true few three = eq-eqb _ _ (omega arith)
bit_15 len reserved false false few three = ne_eqb _ _ (λ e. omega arith)

-- the fields of a length word
pub word_len : (reserved : ℕ) (h : Head) → h.len < 2 ^ 11 → reserved < 2 ^ 3 → bits_of (length_word reserved h) 0 11 ≡ h.len
unfolding word_of
word_len reserved h few three = len_of h.len reserved h.circulating h.more few three

pub word_fits : (reserved : ℕ) (h : Head) → h.len < 2 ^ 11 → reserved < 2 ^ 3 → length_word reserved h < 2 ^ 16
unfolding word_of
word_fits reserved h few three = fits_of h.len reserved h.circulating h.more few three

pub word_circulating : (reserved : ℕ) (h : Head) → h.len < 2 ^ 11 → reserved < 2 ^ 3
    → (bits_of (length_word reserved h) 14 1 == 1) ≡ h.circulating
unfolding word_of
word_circulating reserved h few three = bit_14 h.len reserved h.circulating h.more few three

pub word_more : (reserved : ℕ) (h : Head) → h.len < 2 ^ 11 → reserved < 2 ^ 3
    → (bits_of (length_word reserved h) 15 1 == 1) ≡ h.more
unfolding word_of
word_more reserved h few three = bit_15 h.len reserved h.circulating h.more few three

-- its reserved bits
pub word_reserved : (reserved : ℕ) (h : Head) → h.len < 2 ^ 11 → reserved < 2 ^ 3 → bits_of (length_word reserved h) 11 3 ≡ reserved
unfolding word_of
word_reserved reserved h few three = reserved_of h.len reserved h.circulating h.more few three

-- ten cells, the body and two cells, with more behind them
pub datagram_text-behind : (d : Datagram) (rest : List ℕ)
    → datagram_text d ++ rest ≡ front_text d.reserved d.head ++ (d.body ++ (little_bytes 2 d.head.counter ++ rest))
datagram_text-behind d rest =
    ap (λ (x : List ℕ). front_text d.reserved d.head ++ x) (append_assoc d.body (little_bytes 2 d.head.counter) rest)

counter_behind : (front : List ℕ) (body : List ℕ) (v : ℕ) (rest : List ℕ) → v < 2 ^ 16
    → number_at 2 (front ++ (body ++ (little_bytes 2 v ++ rest))) (length front + length body) ≡ v
counter_behind front body v rest h =
    rw (drop-append-add, drop-append_seam) (two_read v h)

-- a spelled datagram's length word says the body's length
pub body_length-text : (d : Datagram) (rest : List ℕ) → IsSized d → body_length (datagram_text d ++ rest) ≡ d.head.len
body_length-text d rest s =
    rw (two_read (length_word d.reserved d.head) (word_fits d.reserved d.head s.len s.reserved))
    (word_len d.reserved d.head s.len s.reserved)

-- a spelled datagram reads as its head
pub head_read-text : (d : Datagram) (rest : List ℕ) → IsDatagram d → head_read (datagram_text d ++ rest) ≡ d.head
head_read-text d rest is =
    let s = is.sized in
    let whole : number_at 2 (datagram_text d ++ rest) (10 + length d.body) ≡ d.head.counter =
    rw (datagram_text-behind d rest) (counter_behind (front_text d.reserved d.head) d.body d.head.counter rest s.head.counter) in
    let counter = subst (λ (n : ℕ). number_at 2 (datagram_text d ++ rest) (10 + n) ≡ d.head.counter) s.body whole in
    rw (
      command_of-number_of d.head.command is.named,
      two_read d.head.adp s.head.adp,
      two_read d.head.ado s.head.ado,
      two_read (length_word d.reserved d.head) (word_fits d.reserved d.head s.len s.reserved),
      word_len d.reserved d.head s.len s.reserved,
      word_circulating d.reserved d.head s.len s.reserved,
      word_more d.reserved d.head s.len s.reserved,
      two_read d.head.interrupt s.head.interrupt,
      counter,
    ) refl

-- the octets of a datagram, and behind it
pub length-datagram_text : (d : Datagram) → length (datagram_text d) ≡ size_of d
length-datagram_text d = omega (arith, length-append d.body (little_bytes 2 d.head.counter))

-- a spelled datagram is not cut
pub is_cut-text : (d : Datagram) (rest : List ℕ) → IsDatagram d → is_cut (datagram_text d ++ rest) ≡ false
is_cut-text d rest is =
    let size = length-datagram_text d in
    let all = length-append (datagram_text d) rest in
    let body = is.sized.body in
    rw (body_length-text d rest is.sized) (le-ltb _ _ (omega arith))

-- behind a spelled datagram
pub drop-text : (d : Datagram) (rest : List ℕ) → IsDatagram d → drop (12 + d.head.len) (datagram_text d ++ rest) ≡ rest
drop-text d rest is =
    let size = length-datagram_text d in
    let body = is.sized.body in
    drop_at (datagram_text d) rest (12 + d.head.len) (omega arith)

-- from octets to the datagram that they spell

pub pair_at : (octets : List ℕ) (at : ℕ) → AreOctets octets → little_bytes 2 (number_at 2 octets at) ≡ get_or octets at 0 ∷ get_or octets (at + 1) 0 ∷ []
pair_at octets at o = ap (little_bytes 2) (number_at-two octets at) ∙ two_bytes (get_or octets at 0) (get_or octets (at + 1) 0) (o at) (o (at + 1))

pub datagram_here-is : (octets : List ℕ) → AreOctets octets → is_cut octets ≡ false → IsDatagram (datagram_here octets)
datagram_here-is octets o whole = record {
  sized = record {
    head = record {
      index = o 1;
      adp = two_fits octets 2 o;
      ado = two_fits octets 4 o;
      interrupt = two_fits octets 8 o;
      counter = two_fits octets (10 + body_length octets) o;
    };
    reserved = omega arith;
    len = omega arith;
    body = length-take-le (body_length octets) (drop 10 octets) (omega (arith, length-drop {A = ℕ}, ltb-false));
  };
  named = command_named (slice_index octets 0);
}

bit_worth : (x v : ℕ) → x < 2 → (if x == 1 then v else 0) ≡ x * v
bit_worth zero v h = omega arith
bit_worth (suc zero) v h = omega arith
bit_worth (suc (suc x)) v h = absurd (omega arith)

word_parts : (w : ℕ) → w < 2 ^ 16 → word_of (bits_of w 0 11) (bits_of w 11 3) (bits_of w 14 1 == 1) (bits_of w 15 1 == 1) ≡ w
unfolding word_of
word_parts w h =
    rw (bit_worth (bits_of w 14 1) 16384 (omega arith), bit_worth (bits_of w 15 1) 32768 (omega arith)) (omega arith)

pub word_here : (octets : List ℕ) → AreOctets octets → length_word (bits_of (number_at 2 octets 6) 11 3) (head_read octets) ≡ number_at 2 octets 6
unfolding word_of
word_here octets o = word_parts (number_at 2 octets 6) (two_fits octets 6 o)

front_join : (a a' b : ℕ) (p p' q q' r r' s s' : List ℕ) → a ≡ a' → p ≡ p' → q ≡ q' → r ≡ r' → s ≡ s'
    → a ∷ b ∷ (p ++ (q ++ (r ++ s))) ≡ a' ∷ b ∷ (p' ++ (q' ++ (r' ++ s')))
front_join a a' b p p' q q' r r' s s' ea ep eq er es = cc

cell : List ℕ → ℕ → ℕ
cell octets i = get_or octets i 0

ten_cells : List ℕ → List ℕ
ten_cells octets =
    get_or octets 0 0 ∷ get_or octets 1 0 ∷ ((get_or octets 2 0 ∷ get_or octets 3 0 ∷ []) ++ ((get_or octets 4 0 ∷ get_or octets 5 0 ∷ [])
    ++ ((get_or octets 6 0 ∷ get_or octets 7 0 ∷ []) ++ (get_or octets 8 0 ∷ get_or octets 9 0 ∷ []))))

front_here : (octets : List ℕ) → AreOctets octets → front_text (datagram_here octets).reserved (head_read octets) ≡ ten_cells octets
unfolding ten_cells
front_here octets o =
    front_join _ _ _ _ _ _ _ _ _ _ _ (number_of-command_of (get_or octets 0 0)) (pair_at octets 2 o) (pair_at octets 4 o)
    (ap (little_bytes 2) (word_here octets o) ∙ pair_at octets 6 o) (pair_at octets 8 o)

ten_front : (octets : List ℕ) → 10 ≤ length octets → octets ≡ ten_cells octets ++ drop 10 octets
unfolding ten_cells
ten_front octets h =
    next_cell octets _ 0 (omega arith) (next_cell octets _ 1 (omega arith) (next_cell octets _ 2 (omega arith)
    (next_cell octets _ 3 (omega arith) (next_cell octets _ 4 (omega arith) (next_cell octets _ 5 (omega arith)
    (next_cell octets _ 6 (omega arith) (next_cell octets _ 7 (omega arith) (next_cell octets _ 8 (omega arith)
    (next_cell octets _ 9 (omega arith) refl)))))))))

-- octets that are not cut are the datagram that stands there, and what is behind
pub text_here : (octets : List ℕ) → AreOctets octets → is_cut octets ≡ false
    → octets ≡ datagram_text (datagram_here octets) ++ drop (12 + body_length octets) octets
text_here octets o whole =
    let fits : 12 + body_length octets ≤ length octets = omega (arith, ltb-false) in
    let n = body_length octets in
    let counter = two_here octets (10 + body_length octets) o (omega arith) in
    let twelve : 10 + body_length octets + 2 ≡ 12 + body_length octets = omega arith in
    let body : drop 10 octets ≡ take (body_length octets) (drop 10 octets) ++ drop (10 + body_length octets) octets =
    sym (take-append-drop (body_length octets) (drop 10 octets))
    ∙ ap (λ (x : List ℕ). take (body_length octets) (drop 10 octets) ++ x) (drop-drop (body_length octets) 10 octets) in
    ten_front octets (omega arith)
    ∙ ap (λ (x : List ℕ). ten_cells octets ++ x) (body ∙ ap (λ (x : List ℕ). take (body_length octets) (drop 10 octets) ++ x)
    (counter ∙ ap (λ (k : ℕ). little_bytes 2 (number_at 2 octets (10 + body_length octets)) ++ drop k octets) twelve))
    ∙ ap (λ (x : List ℕ). x ++ (take (body_length octets) (drop 10 octets) ++ (little_bytes 2 (number_at 2 octets (10 + body_length octets)) ++ drop (12 + body_length octets) octets)))
    (sym (front_here octets o))
    ∙ sym (datagram_text-behind (datagram_here octets) (drop (12 + body_length octets) octets))
