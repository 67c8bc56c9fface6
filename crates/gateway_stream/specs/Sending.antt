-- What a port sends on a stream of octets.
use Rattle.std.specs.Prelude.{◌≡◌, ◌≢◌, ℕ, ◌≤◌, ◌&&◌, Bool, true, false, if◌then◌else◌, List, [], ◌∷◌, ◌++◌, length, take, map, Option, Some, None, Result, Err}
use Rattle.std.specs.Str.{bytes_eq}
use Rattle.ec_links.specs.of_ec_outside.declared.port.PortErr.{PortErr}
use Rattle.ec_links.specs.of_ec_outside.declared.port.PortErr.TheVariants as errors
use Rattle.ec_links.specs.of_ec_outside.declared.port.SentGram.{SentGram}
use Rattle.gateway_stream.specs.Cutting.{is_request, requests_of, behind_of}

-- a datagram to the one peer of a stream, 127.0.0.1
abbrev pub sent_as : List ℕ → SentGram
sent_as octets = record { to = record { ip = 2130706433; port = 0 }; bytes = octets }

-- the datagrams in the octets put, where those are told: each is cut off the front by its header
abbrev pub sent_in : Option (List ℕ) → Option (List SentGram)
sent_in None = None
sent_in (Some octets) = Some (map sent_as (requests_of octets))

-- whether octets are the first of others
abbrev pub is_front : List ℕ → List ℕ → Bool
is_front front octets = bytes_eq front (take (length front) octets)

-- whether octets are what may stand behind the datagrams put: none, or the first of the one whose put failed
abbrev pub is_rest : List ℕ → List ℕ → Bool
is_rest failed [] = true
is_rest failed (x ∷ behind) = is_request failed && is_front (x ∷ behind) failed

-- the datagrams in the octets put, where just those stand there, but for the first octets of the one whose put failed
abbrev pub sent_of : List ℕ → Option (List ℕ) → Option (List SentGram)
sent_of failed None = None
sent_of failed (Some octets) = if is_rest failed (behind_of octets) then sent_in (Some octets) else None

-- WHAT STANDS BEHIND THE DATAGRAMS PUT to a link with so many faults: nothing; or, where it had one, the first octets of one more
pub data IsBehind (faults : ℕ) : List ℕ → Type 0 where
  nothing : IsBehind faults []
  front : (front behind : List ℕ) → 1 ≤ faults → is_request (front ++ behind) ≡ true → IsBehind faults front

-- a port over a link that tells what it sends: its link, the octets of the next request that were given, and the datagram whose put failed
pub record Whole (L : Type 0) : Type 0 where
  pub link : L
  pub kept : List ℕ
  pub failed : List ℕ

-- whether a put failed, so that a part of a datagram may stand last
abbrev pub has_failed : Result (Unit {0}) PortErr → Bool
has_failed (Err errors.Failed) = true
has_failed _ = false
