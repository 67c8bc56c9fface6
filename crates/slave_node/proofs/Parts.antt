-- One datagram of a frame passes: its body is where its part says, and the frame with what came back is a frame again.
use Rattle.std.proofs.Common.{◌≡◌, ℕ, ◌+◌, ◌≤◌, ◌%◌, Bool, true, false, List, [], ◌∷◌, ◌++◌, length, take, drop, Option, None, Some, refl, sym, ap, ap₂, ◌∙◌, subst, arith, append_assoc, length-append}
use Rattle.std.specs.Prelude.{if◌then◌else◌, ◌*◌}
use Rattle.al_state.specs.of_datagrams.declared.frame.Part.{Part}
use Rattle.al_state.specs.of_datagrams.declared.head.Head.{Head}
use Rattle.std.proofs.lemmas.List.{drop_at, take_at}
use Rattle.byteorder.specs.Endian.{little_bytes}
use Rattle.al_state.specs.of_datagrams.Datagram.{Datagram, IsDatagram, front_text}
use Rattle.al_state.specs.of_datagrams.Frame.{IsFrame, IsPart, Each, text_of, header_text, reset, octets_set}
use Rattle.al_state.proofs.of_datagrams.Spelled.{datagram_text-behind}
use Rattle.al_state.proofs.of_datagrams.Changing.{front_of, frame_parted, IsFrame-body, IsPart-inside}
use Rattle.mailbox_slave.specs.of_esc_registers.declared.registers.Registers.{Registers}
use Rattle.mailbox_slave.specs.of_esc_registers.declared.row.Row.{Row}
use Rattle.mailbox_slave.specs.of_esc_registers.Access.{Passed, access, passed_at, is_by_place, row_of, is_meant}
use Rattle.slave_node.specs.Passing.{passed, datagram_after, replaced, part_passed}

pub each_at : (front behind : List Datagram) (d : Datagram) → Each IsDatagram (front ++ d ∷ behind) → IsDatagram d
each_at [] behind d each = each.0
each_at (x ∷ xs) behind d each = each_at xs behind d each.1

pub inside : (octets : List ℕ) (part : Part) → IsPart octets part → part.at + 10 + part.head.len ≤ length octets
inside octets part p = omega (arith, IsPart-inside octets part p)

-- of the head an access changes ADP and counter alone
head_moved : (h : Head) (by_place : Bool) (counter : ℕ) →
    (let m = if by_place then record h { adp = (h.adp + 1) % 65536 } else h in record m { counter = counter }) ≡ record h { adp = (if by_place then record h { adp = (h.adp + 1) % 65536 } else h).adp; counter = counter }
head_moved h true counter = refl
head_moved h false counter = refl

head_still : (h : Head) (by_place : Bool) → (if by_place then record h { adp = (h.adp + 1) % 65536 } else h) ≡ record h { adp = (if by_place then record h { adp = (h.adp + 1) % 65536 } else h).adp; counter = (if by_place then record h { adp = (h.adp + 1) % 65536 } else h).counter }
head_still h true = refl
head_still h false = refl

head_at : (r : Registers) (h : Head) (body : List ℕ) (row : Option Row) → (passed_at r h body row).head ≡ record h { adp = (passed_at r h body row).head.adp; counter = (passed_at r h body row).head.counter }
head_at r h body None = head_still h (is_by_place h.command)
head_at r h body (Some row) = head_moved h (is_by_place h.command) _

pub head_kept : (r : Registers) (d : Datagram) → (passed r d).head ≡ record d.head { adp = (passed r d).head.adp; counter = (passed r d).head.counter }
head_kept r d = head_at r d.head d.body (if is_meant r d.head then row_of r d.head.ado (length d.body) else None)

-- a datagram's body stands behind its front, where its part says
pub body_here : (octets : List ℕ) (at : ℕ) (front : List Datagram) (d : Datagram) (behind : List Datagram) → IsFrame octets (front ++ d ∷ behind) → at ≡ 16 + length (text_of front) →
    take d.head.len (drop (at + 10) octets) ≡ d.body
body_here octets at front d behind f place =
    let before = front_of octets (front ++ d ∷ behind) front f in
    let ten = front_text d.reserved d.head in
    let rest = little_bytes 2 d.head.counter ++ (text_of behind ++ f.padding) in
    let parts : octets ≡ before ++ (ten ++ (d.body ++ rest)) = frame_parted octets front behind d f ∙ ap (λ (t : List ℕ). before ++ t) (datagram_text-behind d (text_of behind ++ f.padding)) in
    let twelve = f.twelve in
    let long : length before ≡ 16 + length (text_of front) = omega (arith, length-append f.addresses (header_text (f.size + 2048 * f.reserved + 4096) ++ text_of front)) in
    let size : length d.body ≡ d.head.len = (each_at front behind d f.datagrams).sized.body in
    let joined = length-append before ten in
    ap (take d.head.len) (ap (drop (at + 10)) (parts ∙ sym (append_assoc before ten (d.body ++ rest))) ∙ drop_at (before ++ ten) (d.body ++ rest) (at + 10) (omega arith))
    ∙ take_at d.body rest d.head.len size

-- what a part says of a frame holds of it with another body
pub part_with : (octets new body : List ℕ) (part : Part) (from : ℕ) (p : IsPart octets part) → length body ≡ part.head.len → from ≡ part.at + 10 → new ≡ replaced octets from body → IsPart new part
part_with octets new body part from p long begins is =
    let size : length p.datagram.body ≡ part.head.len = (each_at p.front p.behind p.datagram p.frame.datagrams).sized.body ∙ ap (λ (h : Head). h.len) (sym p.head) in
    record {
      front = p.front;
      datagram = record p.datagram { body = body };
      behind = p.behind;
      frame = IsFrame-body octets new body part.at p.front p.datagram p.behind p.frame p.place (long ∙ sym size)
          (is ∙ ap (λ (n : ℕ). replaced octets n body) begins ∙ ap (λ (n : ℕ). take (part.at + 10) octets ++ (body ++ drop (part.at + 10 + n) octets)) (long ∙ sym size));
      place = p.place;
      head = p.head;
    }

-- one datagram has passed: by what its access left, with the body in place, and ADP and counter written behind it
pub one_passed : (old new : Registers) (octets within behind_set : List ℕ) (part : Part) (from : ℕ) (h : Head) (front : List Datagram) (d : Datagram) (behind : List Datagram) →
    IsFrame octets (front ++ d ∷ behind) → part.at ≡ 16 + length (text_of front) → part.head ≡ d.head → from ≡ part.at + 10 →
    (let body = take part.head.len (drop from octets) in (new ≡ (access old part.head body).registers) × (h ≡ (access old part.head body).head) × (within ≡ replaced octets from (access old part.head body).body)) →
    length (access old part.head (take part.head.len (drop from octets))).body ≡ part.head.len →
    ((e : Datagram) → IsFrame within (front ++ e ∷ behind) → part.at ≡ 16 + length (text_of front) → part.head ≡ e.head → IsFrame behind_set (front ++ reset e h.adp h.counter ∷ behind)) →
    (new ≡ (passed old d).registers) × IsFrame behind_set (front ++ datagram_after old d ∷ behind)
one_passed old new octets within behind_set part from h front d behind f place head begins table long sets =
    let there : take d.head.len (drop (part.at + 10) octets) ≡ d.body = body_here octets part.at front d behind f place in
    let same : take part.head.len (drop from octets) ≡ d.body = ap (λ (n : ℕ). take part.head.len (drop n octets)) begins ∙ ap (λ (k : Head). take k.len (drop (part.at + 10) octets)) head ∙ there in
    let is : access old part.head (take part.head.len (drop from octets)) ≡ passed old d = ap (access old part.head) same ∙ ap (λ k. access old k d.body) head in
    let size : length d.body ≡ d.head.len = (each_at front behind d f.datagrams).sized.body in
    let kept : length (passed old d).body ≡ length d.body = ap (λ (a : Passed). length a.body) (sym is) ∙ long ∙ ap (λ (k : Head). k.len) head ∙ sym size in
    let whole : IsFrame within (front ++ record d { body = (passed old d).body } ∷ behind) =
    IsFrame-body octets within (passed old d).body part.at front d behind f place kept
    (table.2 ∙ ap (λ (n : ℕ). replaced octets n (access old part.head (take part.head.len (drop from octets))).body) begins ∙ ap (λ (a : Passed). replaced octets (part.at + 10) a.body) is
    ∙ ap (λ (n : ℕ). take (part.at + 10) octets ++ ((passed old d).body ++ drop (part.at + 10 + n) octets)) kept) in
    let set = sets (record d { body = (passed old d).body }) whole place head in
    let heads : h ≡ (passed old d).head = table.1 ∙ ap (λ (a : Passed). a.head) is in
    let result : record (record d { body = (passed old d).body }) { head = record d.head { adp = h.adp; counter = h.counter } } ≡ datagram_after old d =
    ap (λ (k : Head). record d { head = record d.head { adp = k.adp; counter = k.counter }; body = (passed old d).body }) heads
    ∙ ap (λ (k : Head). record d { head = k; body = (passed old d).body }) (sym (head_kept old d)) in
    (table.0 ∙ ap (λ (a : Passed). a.registers) is, subst (λ e. IsFrame behind_set (front ++ e ∷ behind)) result set)

-- the same, octet by octet
pub exact_passed : (old new : Registers) (octets within set : List ℕ) (part : Part) (from : ℕ) (h : Head) → from ≡ part.at + 10 →
    (let body = take part.head.len (drop from octets) in (new ≡ (access old part.head body).registers) × (h ≡ (access old part.head body).head) × (within ≡ replaced octets from (access old part.head body).body)) →
    set ≡ octets_set within part h.adp h.counter → (new, set) ≡ part_passed old octets part
exact_passed old new octets within set part from h begins table is =
    let p = access old part.head (take part.head.len (drop from octets)) in
    let written : set ≡ octets_set (replaced octets from p.body) part p.head.adp p.head.counter =
    is ∙ ap (λ (w : List ℕ). octets_set w part h.adp h.counter) table.2 ∙ ap (λ (k : Head). octets_set (replaced octets from p.body) part k.adp k.counter) table.1 in
    ap₂ (λ (r : Registers) (o : List ℕ). (r, o)) table.0 written
    ∙ ap (λ (n : ℕ). (let q = access old part.head (take part.head.len (drop n octets)) in (q.registers, octets_set (replaced octets n q.body) part q.head.adp q.head.counter))) begins
