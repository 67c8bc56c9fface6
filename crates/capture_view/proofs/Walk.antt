-- The datagrams of a frame, one behind the other.
use Rattle.std.specs.Prelude.{slice_get, Some}
use Rattle.std.proofs.Common.{◌≡◌, ◌≤◌, ◌<◌, ℕ, ◌+◌, List, [], ◌∷◌, ◌++◌, length, take, refl, sym, ap, ◌∙◌, subst, append_assoc, arith, length-append}
use Rattle.std.proofs.lemmas.List.{append-nil}
use Rattle.datagrams.specs.declared.frame.Part.{Part}
use Rattle.datagrams.specs.Datagram.{Datagram, datagram_text, size_of}
use Rattle.datagrams.specs.Frame.{IsFrame, IsPart, text_of, parts_of, frame_read}
use Rattle.datagrams.proofs.Building.{text_of-append}
use Rattle.datagrams.proofs.Changing.{IsPart-inside}
use Rattle.datagrams.proofs.Header.{frame_read-only}
use Rattle.datagrams.proofs.Spelled.{length-datagram_text}
use Rattle.capture_view.specs.View.{datagram_lines, parts_lines, frame_lines}

-- a datagram's body lies within its frame
pub body_inside : (octets : List ℕ) (part : Part) → IsPart octets part → part.at + 10 + part.head.len ≤ length octets
body_inside octets part p = omega (arith, IsPart-inside octets part p)

parts_of-append : (at : ℕ) (xs ys : List Datagram) → parts_of at (xs ++ ys) ≡ parts_of at xs ++ parts_of (at + length (text_of xs)) ys
parts_of-append at [] ys = ap (λ (n : ℕ). parts_of n ys) (omega arith)
parts_of-append at (x ∷ xs) ys =
    let size = length-append (datagram_text x) (text_of xs) in
    let own = length-datagram_text x in
    let same : at + size_of x + length (text_of xs) ≡ at + length (text_of (x ∷ xs)) = omega arith in
    ap (λ (ps : List Part). (record { at = at; head = x.head }) ∷ ps)
    (parts_of-append (at + size_of x) xs ys ∙ ap (λ (n : ℕ). parts_of (at + size_of x) xs ++ parts_of n ys) same)

pub parts_lines-append : (octets : List ℕ) (xs ys : List Part) → parts_lines octets (xs ++ ys) ≡ parts_lines octets xs ++ parts_lines octets ys
parts_lines-append octets [] ys = refl
parts_lines-append octets (x ∷ xs) ys =
    ap (λ (t : List ℕ). datagram_lines octets x ++ t) (parts_lines-append octets xs ys)
    ∙ sym (append_assoc (datagram_lines octets x) (parts_lines octets xs) (parts_lines octets ys))

-- a part of a frame that reads is the one behind its front
part_is : (octets : List ℕ) (part : Part) (p : IsPart octets part) → part ≡ record { at = 16 + length (text_of p.front); head = p.datagram.head }
part_is octets part p = rw (← p.place, ← p.head) refl

-- the lines of a frame that reads: those of the datagrams before a part, its own, and those behind it
pub lines_split : (octets : List ℕ) (part : Part) (p : IsPart octets part) →
    frame_lines octets (frame_read octets)
    ≡ parts_lines octets (parts_of 16 p.front) ++ (datagram_lines octets part ++ parts_lines octets (parts_of (part.at + size_of p.datagram) p.behind))
lines_split octets part p =
    ap (frame_lines octets) (frame_read-only octets (p.front ++ p.datagram ∷ p.behind) p.frame)
    ∙ ap (parts_lines octets) (parts_of-append 16 p.front (p.datagram ∷ p.behind))
    ∙ parts_lines-append octets (parts_of 16 p.front) (parts_of (16 + length (text_of p.front)) (p.datagram ∷ p.behind))
    ∙ ap (λ (q : Part). parts_lines octets (parts_of 16 p.front) ++ (datagram_lines octets q ++ parts_lines octets (parts_of (q.at + size_of p.datagram) p.behind)))
    (sym (part_is octets part p))

-- the part that a walk begins with
pub first_is : (octets : List ℕ) (part : Part) (ds : List Datagram) → IsFrame octets ds → Some part ≡ slice_get (parts_of 16 ds) 0
    → (p : IsPart octets part) × (p.front ≡ [])
first_is octets part [] f is = absurd f.chain
first_is octets part (d ∷ ds) f is =
    let same : part ≡ record { at = 16; head = d.head } = cc in (
      record { front = []; datagram = d; behind = ds; frame = f; place = ap (λ (q : Part). q.at) same; head = ap (λ (q : Part). q.head) same },
      refl,
    )

-- the part behind another: what was told with the other's lines is told of its front
pub record Next (octets : List ℕ) (part next : Part) (front : List Datagram) : Type 0 where
  pub is : IsPart octets next
  pub told : parts_lines octets (parts_of 16 is.front) ≡ parts_lines octets (parts_of 16 front) ++ datagram_lines octets part
  pub behind : part.at < next.at

next_at : (octets : List ℕ) (part next : Part) (front behind : List Datagram) (d : Datagram) → IsFrame octets (front ++ d ∷ behind)
    → part.at ≡ 16 + length (text_of front) → part.head ≡ d.head → next ∷ [] ≡ take 1 (parts_of (part.at + size_of d) behind) → Next octets part next front
next_at octets part next front [] d f place head is = absurd cc
next_at octets part next front (e ∷ rest) d f place head is =
    let same : next ≡ record { at = part.at + size_of d; head = e.head } = cc in
    let at : next.at ≡ part.at + size_of d = ap (λ (q : Part). q.at) same in
    let text = ap length (text_of-append front (d ∷ [])) in
    let a = length-append (text_of front) (text_of (d ∷ [])) in
    let b = length-append (datagram_text d) [] in
    let size = length-datagram_text d in
    let own : record { at = 16 + length (text_of front); head = d.head } ≡ part = rw (← place, ← head) refl in
    record {
      is = record {
        front = front ++ d ∷ [];
        datagram = e;
        behind = rest;
        frame = subst (λ (t : List Datagram). IsFrame octets t) (sym (append_assoc front (d ∷ []) (e ∷ rest))) f;
        place = omega arith;
        head = ap (λ (q : Part). q.head) same;
      };
      told = ap (parts_lines octets) (parts_of-append 16 front (d ∷ []))
          ∙ parts_lines-append octets (parts_of 16 front) (parts_of (16 + length (text_of front)) (d ∷ []))
          ∙ ap (λ (q : Part). parts_lines octets (parts_of 16 front) ++ (datagram_lines octets q ++ [])) own
          ∙ ap (λ (t : List ℕ). parts_lines octets (parts_of 16 front) ++ t) (append-nil (datagram_lines octets part));
      behind = omega arith;
    }

pub next_is : (octets : List ℕ) (part next : Part) (p : IsPart octets part)
    → next ∷ [] ≡ take 1 (parts_of (part.at + size_of p.datagram) p.behind) → Next octets part next p.front
next_is octets part next p is = next_at octets part next p.front p.behind p.datagram p.frame p.place p.head is

nothing_behind : (at : ℕ) (ds : List Datagram) → [] ≡ take 1 (parts_of at ds) → ds ≡ []
nothing_behind at [] is = refl
nothing_behind at (d ∷ ds) is = absurd cc

-- the lines of a frame whose last part this is
pub last_lines : (octets : List ℕ) (part : Part) (p : IsPart octets part) → [] ≡ take 1 (parts_of (part.at + size_of p.datagram) p.behind)
    → frame_lines octets (frame_read octets) ≡ parts_lines octets (parts_of 16 p.front) ++ datagram_lines octets part
last_lines octets part p is =
    lines_split octets part p
    ∙ ap (λ (ds : List Datagram). parts_lines octets (parts_of 16 p.front) ++ (datagram_lines octets part ++ parts_lines octets (parts_of (part.at + size_of p.datagram) ds)))
    (nothing_behind (part.at + size_of p.datagram) p.behind is)
    ∙ ap (λ (t : List ℕ). parts_lines octets (parts_of 16 p.front) ++ t) (append-nil (datagram_lines octets part))
