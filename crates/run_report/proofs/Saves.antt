-- The octets of packets, one behind the other.
use Rattle.std.proofs.Common.{◌≡◌, ℕ, List, [], ◌∷◌, ◌++◌, refl, ap, sym, ◌∙◌, append_assoc}
use Rattle.pcap_frames.specs.Capture.{Packet, packet_text, packets_text}
use Rattle.pcap_frames.specs.declared.order.Order.{Order}

pub text_of_both : (order : Order) (ps qs : List Packet) → packets_text order (ps ++ qs) ≡ packets_text order ps ++ packets_text order qs
text_of_both order [] qs = refl
text_of_both order (p ∷ ps) qs =
    ap (λ t. packet_text order p ++ t) (text_of_both order ps qs) ∙ sym (append_assoc (packet_text order p) (packets_text order ps) (packets_text order qs))

-- what is there so far with what is left is all
pub joined : (now new piece left whole : List ℕ) {all : List ℕ} → all ≡ piece ++ left → new ≡ now ++ piece → now ++ all ≡ whole → new ++ left ≡ whole
joined now new piece left whole split is h = ap (λ l. l ++ left) is ∙ append_assoc now piece left ∙ ap (λ r. now ++ r) (sym split) ∙ h
