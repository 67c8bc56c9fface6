-- The packets of a capture, one behind the other.
use Rattle.std.proofs.Common.{◌≡◌, ◌<◌, ℕ, suc, ◌+◌, Bool, List, [], ◌∷◌, ◌++◌, length, get_or, take, drop, sym, ap, ◌∙◌, append_assoc, arith, length-take-le, take-append-drop}
use Rattle.std.proofs.lemmas.List.{append-nil, take_more, drop_more}
use Rattle.pcap_frames.specs.declared.capture.PacketAt.{PacketAt}
use Rattle.capture_view.specs.View.{packet_lines, packets_lines}

packets_lines-append : (file : List ℕ) (nanos : Bool) (number : ℕ) (xs ys : List PacketAt)
    → packets_lines file nanos number (xs ++ ys) ≡ packets_lines file nanos number xs ++ packets_lines file nanos (number + length xs) ys
packets_lines-append file nanos number [] ys = ap (λ (n : ℕ). packets_lines file nanos n ys) (omega arith)
packets_lines-append file nanos number (x ∷ xs) ys =
    let same : number + 1 + length xs ≡ number + suc (length xs) = omega arith in
    ap (λ (t : List ℕ). packet_lines file nanos number x ++ t)
    (packets_lines-append file nanos (number + 1) xs ys ∙ ap (λ (n : ℕ). packets_lines file nanos (number + 1) xs ++ packets_lines file nanos n ys) same)
    ∙ sym (append_assoc (packet_lines file nanos number x) (packets_lines file nanos (number + 1) xs) (packets_lines file nanos (number + suc (length xs)) ys))

-- the lines of the packets before this one, its own, and those of the packets behind it
pub packets_split : (file : List ℕ) (nanos : Bool) (packets : List PacketAt) (number : ℕ) (d : PacketAt) → number < length packets →
    packets_lines file nanos 0 packets
    ≡ packets_lines file nanos 0 (take number packets) ++ (packet_lines file nanos number (get_or packets number d) ++ packets_lines file nanos (number + 1) (drop (number + 1) packets))
packets_split file nanos packets number d few =
    let long : 0 + length (take number packets) ≡ number = omega (arith, length-take-le number packets (omega arith)) in
    ap (packets_lines file nanos 0) (sym (take-append-drop number packets))
    ∙ packets_lines-append file nanos 0 (take number packets) (drop number packets)
    ∙ ap (λ (n : ℕ). packets_lines file nanos 0 (take number packets) ++ packets_lines file nanos n (drop number packets)) long
    ∙ ap (λ (ps : List PacketAt). packets_lines file nanos 0 (take number packets) ++ packets_lines file nanos number ps) (drop_more packets number d few)

-- one packet more
pub packets_more : (file : List ℕ) (nanos : Bool) (packets : List PacketAt) (number : ℕ) (d : PacketAt) → number < length packets →
    packets_lines file nanos 0 (take (number + 1) packets) ≡ packets_lines file nanos 0 (take number packets) ++ packet_lines file nanos number (get_or packets number d)
packets_more file nanos packets number d few =
    let long : 0 + length (take number packets) ≡ number = omega (arith, length-take-le number packets (omega arith)) in
    ap (packets_lines file nanos 0) (take_more packets number d few)
    ∙ packets_lines-append file nanos 0 (take number packets) (get_or packets number d ∷ [])
    ∙ ap (λ (n : ℕ). packets_lines file nanos 0 (take number packets) ++ packets_lines file nanos n (get_or packets number d ∷ [])) long
    ∙ ap (λ (t : List ℕ). packets_lines file nanos 0 (take number packets) ++ t) (append-nil (packet_lines file nanos number (get_or packets number d)))
