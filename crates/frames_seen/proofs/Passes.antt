-- A FRAME OF OCTETS passes: its datagrams do, one behind the other.
use Rattle.std.proofs.Common.{◌≡◌, ℕ, ◌+◌, List, [], ◌∷◌, ◌++◌, length, take, drop, Result, Ok, Err, refl, ap, sym, ◌∙◌, subst, arith, append_assoc, length-append}
use Rattle.slave_node.specs.of_datagrams.declared.frame.Frame.{Frame}
use Rattle.slave_node.specs.of_datagrams.declared.frame.FrameFault.{FrameFault}
use Rattle.slave_node.specs.of_datagrams.declared.frame.Part.{Part}
use Rattle.slave_node.specs.of_datagrams.Datagram as Raw
use Rattle.slave_node.specs.of_datagrams.Datagram.{datagram_text, size_of}
use Rattle.slave_node.specs.of_datagrams.Frame.{IsFrame, text_of, parts_of, frame_read, octets_set}
use Rattle.slave_node.proofs.of_datagrams.Building.{text_of-append}
use Rattle.slave_node.proofs.of_datagrams.Changing.{IsFrame-set}
use Rattle.slave_node.proofs.of_datagrams.Header.{frame_read-only}
use Rattle.slave_node.proofs.of_datagrams.Spelled.{length-datagram_text}
use Rattle.slave_node.specs.of_esc_registers.declared.registers.Registers as Esc
use Rattle.slave_node.specs.of_esc_registers.Access.{access}
use Rattle.slave_node.specs.Passing.{passed, datagram_after, registers_after, datagrams_after, replaced, part_passed, parts_passed, passed_as, frame_passed, IsPassed}
use Rattle.slave_node.proofs.Parts.{one_passed, body_here, each_at}
use Rattle.frames_seen.specs.Kept.{FrameKeeps}
use Rattle.frames_seen.proofs.Rows.{access_len, access_keeps, access_adp, access_counter, keeps_both}

-- one datagram
one_part : (r : Esc.Registers) (octets : List ℕ) (at : ℕ) (front : List Raw.Datagram) (d : Raw.Datagram) (behind : List Raw.Datagram) → IsFrame octets (front ++ d ∷ behind) → at ≡ 16 + length (text_of front) →
    (let p = part_passed r octets (record { at = at; head = d.head }) in (p.0 ≡ (passed r d).registers) × IsFrame p.1 (front ++ datagram_after r d ∷ behind))
one_part r octets at front d behind f place =
    let part : Part = record { at = at; head = d.head } in
    let body : List ℕ = take d.head.len (drop (at + 10) octets) in
    let there : body ≡ d.body = body_here octets at front d behind f place in
    let was = each_at front behind d f.datagrams in
    let range = was.sized.head in
    let p = access r d.head body in
    let within : List ℕ = replaced octets (at + 10) p.body in
    let long : length p.body ≡ d.head.len = access_len r d.head body ∙ ap length there ∙ was.sized.body in
    one_passed r p.registers octets within (octets_set within part p.head.adp p.head.counter) part (at + 10) p.head front d behind f place refl refl (refl, refl, refl) long
    (λ e g there_ head. IsFrame-set within (octets_set within part p.head.adp p.head.counter) part p.head.adp p.head.counter front e behind
    (access_adp r d.head body range.adp) (access_counter r d.head body range.counter) refl g there_ head)

-- and all, behind those that passed
record Ends (r : Esc.Registers) (front ds : List Raw.Datagram) (p : Esc.Registers × List ℕ) : Type 0 where
  registers : p.0 ≡ registers_after r ds
  frame : IsFrame p.1 (front ++ datagrams_after r ds)

all_pass : (r : Esc.Registers) (octets : List ℕ) (at : ℕ) (front ds : List Raw.Datagram) → IsFrame octets (front ++ ds) → at ≡ 16 + length (text_of front) → Ends r front ds (parts_passed r octets (parts_of at ds))
all_pass r octets at front [] f place = record { registers = refl; frame = f }
all_pass r octets at front (d ∷ ds) f place =
    let part : Part = record { at = at; head = d.head } in
    let p = part_passed r octets part in
    let one = one_part r octets at front d ds f place in
    let c = datagram_after r d in
    let frame : IsFrame p.1 ((front ++ c ∷ []) ++ ds) = subst (λ l. IsFrame p.1 l) (sym (append_assoc front (c ∷ []) ds)) one.1 in
    let len : length c.body ≡ length d.body = access_len r d.head d.body in
    let text = ap length (text_of-append front (c ∷ [])) ∙ length-append (text_of front) (text_of (c ∷ [])) in
    let last = length-append (datagram_text c) [] in
    let size = length-datagram_text c in
    let next : at + size_of d ≡ 16 + length (text_of (front ++ c ∷ [])) = omega (arith, place, text, last, size, len) in
    let rest = all_pass p.0 p.1 (at + size_of d) (front ++ c ∷ []) ds frame next in
    let whole : Esc.Registers × List ℕ = parts_passed p.0 p.1 (parts_of (at + size_of d) ds) in
    record {
      registers = rest.registers ∙ ap (λ q. registers_after q ds) one.0;
      frame = subst (λ l. IsFrame whole.1 l) (append_assoc front (c ∷ []) (datagrams_after p.0 ds) ∙ ap (λ q. front ++ (c ∷ datagrams_after q ds)) one.0) rest.frame;
    }

-- WHAT A SLAVE MAKES OF A FRAME of octets
pub passes : (r : Esc.Registers) (octets : List ℕ) (ds : List Raw.Datagram) → IsFrame octets ds → IsPassed r (frame_passed r octets).0 (frame_passed r octets).1 ds
passes r octets ds f =
    let all = all_pass r octets 16 [] ds f refl in
    let same : frame_passed r octets ≡ parts_passed r octets (parts_of 16 ds) = ap (passed_as r octets) (frame_read-only octets ds f) in
    subst (λ (p : Esc.Registers × List ℕ). IsPassed r p.0 p.1 ds) (sym same) (record { registers = all.registers; frame = all.frame })

-- whatever the octets are
parts_keep : (r : Esc.Registers) (octets : List ℕ) (parts : List Part) → FrameKeeps r (parts_passed r octets parts).0
parts_keep r octets [] = record { status = refl; code = refl; outward = refl; inward = refl }
parts_keep r octets (part ∷ parts) =
    let p = part_passed r octets part in
    keeps_both r p.0 (parts_passed p.0 p.1 parts).0 (access_keeps r part.head (take part.head.len (drop (part.at + 10) octets))) (parts_keep p.0 p.1 parts)

pub keeps : (r : Esc.Registers) (octets : List ℕ) → FrameKeeps r (frame_passed r octets).0
keeps r octets = go (frame_read octets)
  where
    go : (x : Result Frame FrameFault) → FrameKeeps r (passed_as r octets x).0
    go (Ok frame) = parts_keep r octets frame.parts.items
    go (Err fault) = record { status = refl; code = refl; outward = refl; inward = refl }
