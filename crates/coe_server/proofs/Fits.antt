-- A server's messages fit the mailbox.
use Rattle.std.proofs.Common.{◌≡◌, ℕ, ◌+◌, ◌-◌, ◌≤◌, List, ◌++◌, length, replicate, ap, ◌∙◌, arith, length-append}
use Rattle.std.proofs.lemmas.List.{length-replicate}
use Rattle.protocol_models.specs.of_coe_codec.Writing.{coe_text}
use Rattle.protocol_models.specs.CoeMails.{Coe, Emergency, DownloadAnswer, ExpeditedAnswer, FirstAnswer, SegmentAnswer, UploadSegmentAnswer, Abort, Information, InformationError}
use Rattle.coe_server.specs.Serving.{IsShort}

padded : (octets : List ℕ) (n : ℕ) → length (octets ++ replicate n 0) ≡ length octets + n
padded octets n = length-append octets (replicate n 0) ∙ ap (λ k. length octets + k) (length-replicate n 0)

pub short_fits : (room : ℕ) (message : Coe) → 64 ≤ room → IsShort room message → length (coe_text message) + 6 ≤ room
short_fits room (Emergency octets) least short = omega (arith, padded octets.items 0)
short_fits room (ExpeditedAnswer index sub bytes) least short = omega (arith, padded bytes.items (4 - length bytes.items))
short_fits room (FirstAnswer index sub size bytes) least short = omega (arith, padded bytes.items 0)
short_fits room (UploadSegmentAnswer toggle last bytes) least short = omega (arith, padded bytes.items (7 - length bytes.items))
short_fits room (Information opcode incomplete left bytes) least short = omega (arith, padded bytes.items 0)
short_fits room (DownloadAnswer index sub) least short = omega arith
short_fits room (SegmentAnswer toggle) least short = omega arith
short_fits room (Abort index sub code) least short = omega arith
short_fits room (InformationError code) least short = omega arith
short_fits room _ least short = absurd short
