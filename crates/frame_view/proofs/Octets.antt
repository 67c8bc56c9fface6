-- A frame of the grammar is seen as its datagrams.
use Rattle.std.proofs.Common.{◌≡◌, ℕ, ◌+◌, List, [], ◌∷◌, ◌++◌, ◌*◌, Bool, refl, sym, ap, ◌∙◌, subst, append_assoc, take, drop, length, length-append, arith}
use Rattle.std.proofs.Math.Seq.{drop-append-add, take-append_seam}
use Rattle.byteorder.specs.Endian.{little_bytes}
use Rattle.std.specs.Prelude.{map}
use Rattle.al_state.specs.of_datagrams.Datagram as Raw
use Rattle.al_state.specs.of_datagrams.Datagram.{IsDatagram, datagram_text, size_of}
use Rattle.al_state.specs.of_datagrams.Frame.{IsFrame, Each, text_of, parts_of, header_text, chained, saying}
use Rattle.al_state.proofs.of_datagrams.Header.{frame_read-only}
use Rattle.al_state.proofs.of_datagrams.Spelled.{length-datagram_text}
use Rattle.frame_view.specs.View.{Lens, head_seen, datagram_seen, station_of}
use Rattle.frame_view.specs.Seen.{part_seen, parts_seen, seen}

take_body : (n : ℕ) (xs ys : List ℕ) → length xs ≡ n → take n (xs ++ ys) ≡ xs
take_body n xs ys e = subst (λ k. take k (xs ++ ys) ≡ xs) e (take-append_seam xs ys)

body_at : (front back text : List ℕ) (d : Raw.Datagram) (at : ℕ) → at ≡ length front → length d.body ≡ d.head.len → take d.head.len (drop (at + 10) (front ++ ((datagram_text d ++ text) ++ back))) ≡ d.body
body_at front back text d at a l =
    ap (λ n. take d.head.len (drop (n + 10) (front ++ ((datagram_text d ++ text) ++ back)))) a
    ∙ ap (take d.head.len) (drop-append-add front ((datagram_text d ++ text) ++ back) 10)
    ∙ ap (take d.head.len) (append_assoc (d.body ++ little_bytes 2 d.head.counter) text back ∙ append_assoc d.body (little_bytes 2 d.head.counter) (text ++ back))
    ∙ take_body d.head.len d.body (little_bytes 2 d.head.counter ++ (text ++ back)) l

all_parts : (lens : ℕ → Lens) (front back : List ℕ) (ds : List Raw.Datagram) (at : ℕ) → at ≡ length front → Each IsDatagram ds →
    map (part_seen lens (front ++ (text_of ds ++ back))) (parts_of at ds) ≡ map (datagram_seen lens) ds
all_parts lens front back [] at a e = refl
all_parts lens front back (d ∷ ds) at a e =
    let same : front ++ ((datagram_text d ++ text_of ds) ++ back) ≡ (front ++ datagram_text d) ++ (text_of ds ++ back) =
    ap (λ z. front ++ z) (append_assoc (datagram_text d) (text_of ds) back) ∙ sym (append_assoc front (datagram_text d) (text_of ds ++ back)) in
    let size = length-append front (datagram_text d) in
    let n = length-datagram_text d in
    let more = ap (λ o. map (part_seen lens o) (parts_of (at + size_of d) ds)) same ∙ all_parts lens (front ++ datagram_text d) back ds (at + size_of d) (omega (arith, size, n, a)) e.1 in
    (λ i. head_seen (lens (station_of d.head.command d.head.adp)) d.head (body_at front back (text_of ds) d at a e.0.sized.body i) ∷ more i)

-- WHAT A FRAME IS SEEN AS
pub seen_is : (lens : ℕ → Lens) (octets : List ℕ) (ds : List Raw.Datagram) → IsFrame octets ds → seen lens octets ≡ map (datagram_seen lens) ds
seen_is lens octets ds f =
    let front = f.addresses ++ header_text (f.size + 2048 * f.reserved + 4096) in
    let text : octets ≡ (f.addresses ++ header_text (f.size + 2048 * f.reserved + 4096)) ++ (text_of ds ++ f.padding) = f.text ∙ sym (append_assoc f.addresses (header_text (f.size + 2048 * f.reserved + 4096)) (text_of ds ++ f.padding)) in
    let size = length-append f.addresses (header_text (f.size + 2048 * f.reserved + 4096)) in
    let twelve = f.twelve in
    ap (parts_seen lens octets) (frame_read-only octets ds f) ∙ ap (λ o. map (part_seen lens o) (parts_of 16 ds)) text ∙ all_parts lens (f.addresses ++ header_text (f.size + 2048 * f.reserved + 4096)) f.padding ds 16 (omega (arith, size, twelve)) f.datagrams

-- the bit "more" is not seen
seen_saying : (lens : ℕ → Lens) (more : Bool) (d : Raw.Datagram) → datagram_seen lens (saying more d) ≡ datagram_seen lens d
seen_saying lens more d = refl

pub seen_chained : (lens : ℕ → Lens) (ds : List Raw.Datagram) → map (datagram_seen lens) (chained ds) ≡ map (datagram_seen lens) ds
seen_chained lens [] = refl
seen_chained lens (d ∷ []) = refl
seen_chained lens (d ∷ e ∷ ds) = ap (λ ms. datagram_seen lens d ∷ ms) (seen_chained lens (e ∷ ds))
