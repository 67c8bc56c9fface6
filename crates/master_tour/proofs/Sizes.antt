-- The length in the header of a frame that is sent is that of its datagrams.
use Rattle.std.proofs.Common.{◌≡◌, ◌≤◌, ◌+◌, ◌-◌, ◌*◌, ◌%◌, ◌/◌, ◌^◌, ℕ, List, length, ap, ◌∙◌, arith}
use Rattle.master_side.specs.of_datagrams.Datagram.{Datagram}
use Rattle.master_side.specs.of_datagrams.Frame.{IsBegun, chained, frame_text, text_of}
use Rattle.master_tour.specs.Sizes.{frame_size}

size_number : (n : ℕ) → n ≤ 1498 → ((n + 4096) % 256 + 256 * ((n + 4096) / 256 % 256 + 256 * 0)) / 2 ^ 0 % 2 ^ 11 ≡ n
size_number n l = omega (arith, l)

text_size : (ds : List Datagram) → length (text_of ds) ≤ 1498 → frame_size (frame_text ds) ≡ length (text_of ds)
text_size ds l = size_number (length (text_of ds)) l

pub size_is : (old new : List ℕ) (ds : List Datagram) → IsBegun old ds → new ≡ frame_text (chained ds) → frame_size new ≡ length old - 16
size_is old new ds b e =
    let n = ap length b.text in
    let most = b.fits in
    let size = ap frame_size e ∙ text_size (chained ds) (omega (arith, n, most)) in
    omega (arith, n, size)
