-- A walk over the datagrams of a frame that reads.
use Rattle.std.proofs.Common.{◌≡◌, ℕ, ◌+◌, ◌≤◌, false, true, List, [], ◌∷◌, ◌++◌, length, take, drop, replicate, ◌-◌, refl, ap, sym, ◌∙◌, subst, arith, append_assoc, length-append}
use Rattle.std.proofs.lemmas.List.{drop_at, replicate-append-replicate, length-replicate}
use Rattle.datagrams.specs.declared.frame.Part.{Part}
use Rattle.datagrams.specs.Datagram.{Datagram, datagram_text, size_of, body_length, head_read}
use Rattle.datagrams.specs.Frame.{text_of, MoreButLast, parts_of, IsFrame, IsPart, FaultIs}
use Rattle.std.specs.Prelude.{Option, None, Some, Result, IfOk, IfNone, slice_get, ◌<◌}
use Rattle.datagrams.specs.declared.frame.Frame.{Frame}
use Rattle.datagrams.specs.declared.frame.FrameFault.{FrameFault}
use Rattle.datagrams.specs.declared.head.Head.{Head}
use Rattle.datagrams.proofs.Spelled.{length-datagram_text, head_read-text, body_length-text}
use Rattle.datagrams.proofs.Building.{text_of-append}
use Rattle.datagrams.proofs.Changing.{front_of, length-front_of, frame_parted, each_at}

-- the octets from a datagram's place on
pub place_text : (octets : List ℕ) (front behind : List Datagram) (d : Datagram) (at : ℕ) (f : IsFrame octets (front ++ d ∷ behind))
    → at ≡ 16 + length (text_of front) → drop at octets ≡ datagram_text d ++ (text_of behind ++ f.padding)
place_text octets front behind d at f place =
    let before = length-front_of octets (front ++ d ∷ behind) front f in
    ap (drop at) (frame_parted octets front behind d f)
    ∙ drop_at (front_of octets (front ++ d ∷ behind) front f) (datagram_text d ++ (text_of behind ++ f.padding)) at (omega arith)

pub place_head : (octets : List ℕ) (front behind : List Datagram) (d : Datagram) (at : ℕ) (f : IsFrame octets (front ++ d ∷ behind))
    → at ≡ 16 + length (text_of front) → head_read (drop at octets) ≡ d.head
place_head octets front behind d at f place =
    ap head_read (place_text octets front behind d at f place)
    ∙ head_read-text d (text_of behind ++ f.padding) (each_at front behind d f.datagrams)

pub place_fits : (octets : List ℕ) (front behind : List Datagram) (d : Datagram) (at : ℕ) (f : IsFrame octets (front ++ d ∷ behind))
    → at ≡ 16 + length (text_of front) → 12 + body_length (drop at octets) ≤ length (drop at octets)
place_fits octets front behind d at f place =
    let text = place_text octets front behind d at f place in
    let was = each_at front behind d f.datagrams in
    let body : body_length (drop at octets) ≡ d.head.len = ap body_length text ∙ body_length-text d (text_of behind ++ f.padding) was.sized in
    let long = ap length text in
    let a = length-append (datagram_text d) (text_of behind ++ f.padding) in
    let size = length-datagram_text d in
    let own = was.sized.body in
    omega arith

-- a datagram that doesn't say "more" is the last
pub last_here : (front behind : List Datagram) (d : Datagram) → MoreButLast (front ++ d ∷ behind) → d.head.more ≡ false → behind ≡ []
last_here [] [] d m e = refl
last_here [] (x ∷ xs) d m e = let t = m.0 in cc
last_here (y ∷ []) behind d m e = last_here [] behind d m.1 e
last_here (y ∷ z ∷ ys) behind d m e = last_here (z ∷ ys) behind d m.1 e

-- one that does has another behind it
pub more_here : (front behind : List Datagram) (d : Datagram) → MoreButLast (front ++ d ∷ behind) → d.head.more ≡ true
    → (e : Datagram) × (rest : List Datagram) × (behind ≡ e ∷ rest)
more_here [] [] d m t = cc
more_here [] (x ∷ xs) d m t = (x, xs, refl)
more_here (y ∷ []) behind d m t = more_here [] behind d m.1 t
more_here (y ∷ z ∷ ys) behind d m t = more_here (z ∷ ys) behind d m.1 t

-- the place behind a datagram is that of the next
pub next_frame : (octets : List ℕ) (front rest : List Datagram) (d e : Datagram) → IsFrame octets (front ++ d ∷ e ∷ rest)
    → IsFrame octets ((front ++ d ∷ []) ++ e ∷ rest)
next_frame octets front rest d e f = subst (λ (t : List Datagram). IsFrame octets t) (sym (append_assoc front (d ∷ []) (e ∷ rest))) f

pub next_place : (front : List Datagram) (d : Datagram) (at : ℕ) → at ≡ 16 + length (text_of front)
    → at + size_of d ≡ 16 + length (text_of (front ++ d ∷ []))
next_place front d at place =
    let text = ap length (text_of-append front (d ∷ [])) in
    let a = length-append (text_of front) (text_of (d ∷ [])) in
    let b = length-append (datagram_text d) [] in
    let size = length-datagram_text d in
    omega arith

-- what a walk finds behind a part that says "more"
pub next_found : (octets : List ℕ) (p : Part) (front behind : List Datagram) (d : Datagram) (f : IsFrame octets (front ++ d ∷ behind))
    → p.at ≡ 16 + length (text_of front) → p.head ≡ d.head → p.head.more ≡ true
    → (12 + body_length (drop (p.at + (12 + p.head.len)) octets) ≤ length (drop (p.at + (12 + p.head.len)) octets))
    × ((h : Head) → h ≡ head_read (drop (p.at + (12 + p.head.len)) octets)
    → (record { at = p.at + (12 + p.head.len); head = h }) ∷ [] ≡ take 1 (parts_of (p.at + size_of d) behind))
next_found octets p front behind d f place head more =
    let was = each_at front behind d f.datagrams in
    let len : p.head.len ≡ length d.body = ap (λ (h : Head). h.len) head ∙ sym was.sized.body in
    let next = more_here front behind d f.chain (ap (λ (h : Head). h.more) (sym head) ∙ more) in
    let g = next_frame octets front next.1 d next.0 (subst (λ (t : List Datagram). IsFrame octets (front ++ d ∷ t)) next.2 f) in
    let here : p.at + (12 + p.head.len) ≡ p.at + size_of d = ap (λ (n : ℕ). p.at + (12 + n)) len in
    let there = here ∙ next_place front d p.at place in (
      place_fits octets (front ++ d ∷ []) next.1 next.0 (p.at + (12 + p.head.len)) g there,
      (λ h is.
          let own = is ∙ place_head octets (front ++ d ∷ []) next.1 next.0 (p.at + (12 + p.head.len)) g there in
          rw (next.2, own) (ap (λ (n : ℕ). (record { at = n; head = next.0.head }) ∷ []) here)),
    )

-- a part that doesn't is the last
pub none_found : (octets : List ℕ) (p : Part) (front behind : List Datagram) (d : Datagram) → IsFrame octets (front ++ d ∷ behind)
    → p.head ≡ d.head → p.head.more ≡ false → [] ≡ take 1 (parts_of (p.at + size_of d) behind)
none_found octets p front behind d f head more =
    rw (last_here front behind d f.chain (ap (λ (h : Head). h.more) (sym head) ∙ more)) refl

-- the first datagram of a frame
pub first_found : (octets : List ℕ) (ds : List Datagram) → IsFrame octets ds
    → (12 + body_length (drop 16 octets) ≤ length (drop 16 octets))
    × ((h : Head) → h ≡ head_read (drop 16 octets) → Some (record { at = 16; head = h }) ≡ slice_get (parts_of 16 ds) 0)
first_found octets [] f = absurd f.chain
first_found octets (d ∷ ds) f = (
  place_fits octets [] ds d 16 f refl,
  (λ h is. ap (λ (k : Head). Some (record { at = 16; head = k })) (is ∙ place_head octets [] ds d 16 f refl)),
)

-- a part ends within the greatest frame
pub part_low : (octets : List ℕ) (p : Part) → IsPart octets p → p.at + (12 + p.head.len) < 4096
part_low octets p i =
    let place = i.place in
    let was = each_at i.front i.behind i.datagram i.frame.datagrams in
    let len : p.head.len ≡ length i.datagram.body = ap (λ (h : Head). h.len) i.head ∙ sym was.sized.body in
    let text = ap length (text_of-append i.front (i.datagram ∷ i.behind)) in
    let a = length-append (text_of i.front) (text_of (i.datagram ∷ i.behind)) in
    let b = length-append (datagram_text i.datagram) (text_of i.behind) in
    let size = length-datagram_text i.datagram in
    let in_ = i.frame.takes_in in
    let eleven = i.frame.eleven_bits in
    omega arith

-- 32 zeros of those that are missing
pub zeros_on : (xs ys : List ℕ) (end : ℕ) → ys ≡ xs ++ replicate 32 0 → length xs + 32 ≤ end
    → ys ++ replicate (end - length ys) 0 ≡ xs ++ replicate (end - length xs) 0
zeros_on xs ys end is room =
    let long = ap length is in
    let a = length-append xs (replicate 32 0) in
    let b = length-replicate {A = ℕ} 32 0 in
    let few : 32 + (end - length ys) ≡ end - length xs = omega arith in
    ap (λ (t : List ℕ). t ++ replicate (end - length ys) 0) is
    ∙ append_assoc xs (replicate 32 0) (replicate (end - length ys) 0)
    ∙ ap (λ (t : List ℕ). xs ++ t) (replicate-append-replicate 32 (end - length ys) 0 ∙ ap (λ (n : ℕ). replicate n 0) few)

pub first_part : (octets : List ℕ) (ds : List Datagram) → IsFrame octets ds → (h : Head) → h ≡ head_read (drop 16 octets)
    → IsPart octets (record { at = 16; head = h })
first_part octets [] f h is = absurd f.chain
first_part octets (d ∷ ds) f h is =
    record { front = []; datagram = d; behind = ds; frame = f; place = refl; head = is ∙ place_head octets [] ds d 16 f refl }

pub next_part : (octets : List ℕ) (p : Part) → IsPart octets p → p.head.more ≡ true
    → (h : Head) → h ≡ head_read (drop (p.at + (12 + p.head.len)) octets) → IsPart octets (record { at = p.at + (12 + p.head.len); head = h })
next_part octets p i more h is =
    let was = each_at i.front i.behind i.datagram i.frame.datagrams in
    let len : p.head.len ≡ length i.datagram.body = ap (λ (h : Head). h.len) i.head ∙ sym was.sized.body in
    let next = more_here i.front i.behind i.datagram i.frame.chain (ap (λ (h : Head). h.more) (sym i.head) ∙ more) in
    let g = next_frame octets i.front next.1 i.datagram next.0 (subst (λ (t : List Datagram). IsFrame octets (i.front ++ i.datagram ∷ t)) next.2 i.frame) in
    let here : p.at + (12 + p.head.len) ≡ p.at + size_of i.datagram = ap (λ (n : ℕ). p.at + (12 + n)) len in
    let there = here ∙ next_place i.front i.datagram p.at i.place in
    record {
      front = i.front ++ i.datagram ∷ [];
      datagram = next.0;
      behind = next.1;
      frame = g;
      place = there;
      head = is ∙ place_head octets (i.front ++ i.datagram ∷ []) next.1 next.0 (p.at + (12 + p.head.len)) g there;
    }

-- what a fault says of a frame
pub fault_found : (octets : List ℕ) (fault : Option FrameFault) (r : Result Frame FrameFault) → FaultIs fault r
    → IfOk r (λ frame. (ds : List Datagram) × IsFrame octets ds × (frame.parts.items ≡ parts_of 16 ds))
    → IfNone fault ((ds : List Datagram) × IsFrame octets ds)
fault_found octets (Some f) r is found = tt
fault_found octets None r is found =
    let here = subst (λ (q : Result Frame FrameFault). IfOk q (λ frame. (ds : List Datagram) × IsFrame octets ds × (frame.parts.items ≡ parts_of 16 ds))) is.1 found in
    (here.0, here.1)
