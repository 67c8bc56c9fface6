-- One datagram of a frame passes: its body is where its part says, and the frame with what came back is a frame again.
use Rattle.std.proofs.Common.{◌≡◌, ℕ, ◌+◌, ◌≤◌, List, ◌∷◌, ◌++◌, length, take, drop, sym, ap, ◌∙◌, subst, arith, append_assoc, length-append}
use Rattle.std.proofs.lemmas.List.{drop_at, take_at}
use Rattle.byteorder.specs.Endian.{little_bytes}
use Rattle.datagrams.specs.declared.frame.Part.{Part}
use Rattle.datagrams.specs.declared.head.Head.{Head}
use Rattle.datagrams.specs.Datagram.{Datagram, front_text}
use Rattle.datagrams.specs.Frame.{IsFrame, IsPart, text_of, reset}
use Rattle.datagrams.specs.Meeting.{Met, met_datagram, part_with_head, IsMoved, replaced}
use Rattle.datagrams.proofs.Spelled.{datagram_text-behind}
use Rattle.datagrams.proofs.Changing.{front_of, length-front_of, frame_parted, each_at, IsFrame-body, IsPart-inside}

pub inside : (octets : List ℕ) (part : Part) (from : ℕ) → IsPart octets part → from ≡ part.at + 10 → from + part.head.len ≤ length octets
inside octets part from p begins = omega (arith, IsPart-inside octets part p, begins)

-- a datagram's body stands behind its front, where its part says
body_here : (octets : List ℕ) (at : ℕ) (front : List Datagram) (d : Datagram) (behind : List Datagram) → IsFrame octets (front ++ d ∷ behind)
    → at ≡ 16 + length (text_of front) → take d.head.len (drop (at + 10) octets) ≡ d.body
body_here octets at front d behind f place =
    let before = front_of octets (front ++ d ∷ behind) front f in
    let ten = front_text d.reserved d.head in
    let rest = little_bytes 2 d.head.counter ++ (text_of behind ++ f.padding) in
    let parts : octets ≡ before ++ (ten ++ (d.body ++ rest)) =
    frame_parted octets front behind d f ∙ ap (λ (t : List ℕ). before ++ t) (datagram_text-behind d (text_of behind ++ f.padding)) in
    let long = length-front_of octets (front ++ d ∷ behind) front f in
    let size : length d.body ≡ d.head.len = (each_at front behind d f.datagrams).sized.body in
    let joined = length-append before ten in
    ap (take d.head.len) (ap (drop (at + 10)) (parts ∙ sym (append_assoc before ten (d.body ++ rest)))
    ∙ drop_at (before ++ ten) (d.body ++ rest) (at + 10) (omega arith))
    ∙ take_at d.body rest d.head.len size

-- a part of a frame is one of it with another body
pub part_with : (octets new body : List ℕ) (part : Part) (from : ℕ) → IsPart octets part → length body ≡ part.head.len → from ≡ part.at + 10
    → new ≡ replaced octets from body → IsPart new part
part_with octets new body part from p long begins is =
    let size : length p.datagram.body ≡ part.head.len =
    (each_at p.front p.behind p.datagram p.frame.datagrams).sized.body ∙ ap (λ (h : Head). h.len) (sym p.head) in
    record {
      front = p.front;
      datagram = record p.datagram { body = body };
      behind = p.behind;
      frame = IsFrame-body octets new body part.at p.front p.datagram p.behind p.frame p.place (long ∙ sym size)
          (is ∙ ap (λ (n : ℕ). replaced octets n body) begins
          ∙ ap (λ (n : ℕ). take (part.at + 10) octets ++ (body ++ drop (part.at + 10 + n) octets)) (long ∙ sym size));
      place = p.place;
      head = p.head;
    }

-- a datagram has passed: with the body in its place, and ADP and counter written behind it
pub one_passed : {S : Type 0} (meets : S → Head → List ℕ → Met S) (old new : S) (octets within set : List ℕ) (part : Part) (from : ℕ) (h : Head)
    → from ≡ part.at + 10
    → (let m = meets old part.head (take part.head.len (drop from octets)) in (new ≡ m.this) × (h ≡ m.head) × (within ≡ replaced octets from m.body))
    → length (meets old part.head (take part.head.len (drop from octets))).body ≡ part.head.len → IsMoved part.head h
    → ((front : List Datagram) (e : Datagram) (behind : List Datagram) → IsFrame within (front ++ e ∷ behind) → part.at ≡ 16 + length (text_of front) → part.head ≡ e.head
    → IsFrame set (front ++ reset e h.adp h.counter ∷ behind))
    → (front : List Datagram) (d : Datagram) (behind : List Datagram) → IsFrame octets (front ++ d ∷ behind) → part.at ≡ 16 + length (text_of front) → part.head ≡ d.head
    → (new ≡ (meets old d.head d.body).this) × IsFrame set (front ++ met_datagram d (meets old d.head d.body) ∷ behind)
    × (part_with_head part h ≡ part_with_head part (meets old d.head d.body).head)
one_passed meets old new octets within set part from h begins met long moved sets front d behind f place head =
    let m = meets old d.head d.body in
    let there : take d.head.len (drop (part.at + 10) octets) ≡ d.body = body_here octets part.at front d behind f place in
    let same : take part.head.len (drop from octets) ≡ d.body =
    ap (λ (n : ℕ). take part.head.len (drop n octets)) begins ∙ ap (λ (k : Head). take k.len (drop (part.at + 10) octets)) head ∙ there in
    let is : meets old part.head (take part.head.len (drop from octets)) ≡ m = ap (meets old part.head) same ∙ ap (λ k. meets old k d.body) head in
    let size : length d.body ≡ d.head.len = (each_at front behind d f.datagrams).sized.body in
    let kept : length m.body ≡ length d.body = ap (λ a. length a.body) (sym is) ∙ long ∙ ap (λ (k : Head). k.len) head ∙ sym size in
    let whole : IsFrame within (front ++ record d { body = m.body } ∷ behind) =
    IsFrame-body octets within m.body part.at front d behind f place kept
    (met.2 ∙ ap (λ (n : ℕ). replaced octets n (meets old part.head (take part.head.len (drop from octets))).body) begins
    ∙ ap (λ a. replaced octets (part.at + 10) a.body) is
    ∙ ap (λ (n : ℕ). take (part.at + 10) octets ++ (m.body ++ drop (part.at + 10 + n) octets)) kept) in
    let done = sets front (record d { body = m.body }) behind whole place head in
    let own : h ≡ m.head = met.1 ∙ ap (λ a. a.head) is in
    let changed : record d.head { adp = h.adp; counter = h.counter } ≡ m.head =
    ap (λ (k : Head). record k { adp = h.adp; counter = h.counter }) (sym head) ∙ sym moved ∙ own in
    (met.0 ∙ ap (λ a. a.this) is, subst (λ (k : Head). IsFrame set (front ++ record d { head = k; body = m.body } ∷ behind)) changed done, ap (part_with_head part) own)

-- and is a part of the frame as it is then
pub part_passed : {S : Type 0} (meets : S → Head → List ℕ → Met S) (old new : S) (octets set : List ℕ) (part now : Part)
    → ((front : List Datagram) (d : Datagram) (behind : List Datagram) → IsFrame octets (front ++ d ∷ behind) → part.at ≡ 16 + length (text_of front) → part.head ≡ d.head
    → (new ≡ (meets old d.head d.body).this) × IsFrame set (front ++ met_datagram d (meets old d.head d.body) ∷ behind)
    × (now ≡ part_with_head part (meets old d.head d.body).head))
    → IsPart octets part → IsPart set now
part_passed meets old new octets set part now passes p =
    let done = passes p.front p.datagram p.behind p.frame p.place p.head in
    record {
      front = p.front;
      datagram = met_datagram p.datagram (meets old p.datagram.head p.datagram.body);
      behind = p.behind;
      frame = done.1;
      place = ap (λ (q : Part). q.at) done.2 ∙ p.place;
      head = ap (λ (q : Part). q.head) done.2;
    }
