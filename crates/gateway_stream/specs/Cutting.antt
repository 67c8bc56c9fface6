-- The requests of the gateway in a stream of octets (ETG.8200).
use Rattle.std.specs.Prelude.{ℕ, zero, suc, ◌+◌, ◌-◌, ◌==◌, ◌&&◌, Bool, false, if◌then◌else◌, nat_lt, nat_le, List, [], ◌∷◌, length, take, drop, Option, Some, None}
use Rattle.gateway_core.specs.Framing.{type_in, length_in}

-- the octets of the request whose frame header stands at the front
abbrev pub whole_of : List ℕ → ℕ
whole_of octets = 2 + length_in octets

-- a frame header is a request's: its type is 5, and a datagram holds the length
abbrev pub is_header : List ℕ → Bool
is_header octets = (type_in octets == 5) && nat_le (length_in octets) 2046

-- how many octets are missing of the request at the front, or of its header; none where the header is no request's
abbrev pub missing : List ℕ → Option ℕ
missing octets =
    if nat_lt (length octets) 2 then Some (2 - length octets) else if is_header octets then Some (whole_of octets - length octets) else None

-- nothing is missing
abbrev pub is_full : Option ℕ → Bool
is_full (Some count) = count == 0
is_full None = false

-- a whole request stands at the front
abbrev pub is_whole : List ℕ → Bool
is_whole octets = is_full (missing octets)

-- one request, with nothing behind it
abbrev pub is_request : List ℕ → Bool
is_request octets = if nat_lt (length octets) 2 then false else (is_header octets && (length octets == whole_of octets))

-- requests that are cut off the front, and the octets behind them
pub record Cut : Type 0 where
  pub requests : List (List ℕ)
  pub behind : List ℕ

-- one request more in front
abbrev pub with_first : List ℕ → Cut → Cut
with_first request rest = record { requests = request ∷ rest.requests; behind = rest.behind }

-- at most so many requests are cut off the front: a header and as many octets as it says, until the header is no request's or octets are missing
abbrev pub cut_off : ℕ → List ℕ → Cut
cut_off zero octets = record { requests = []; behind = octets }
cut_off (suc more) octets =
    if is_whole octets
    then with_first (take (whole_of octets) octets) (cut_off more (drop (whole_of octets) octets))
    else record { requests = []; behind = octets }

-- THE REQUESTS OF A STREAM: those that are cut off the front of its octets
abbrev pub requests_of : List ℕ → List (List ℕ)
requests_of octets = (cut_off (length octets) octets).requests

-- the octets behind the requests of a stream
abbrev pub behind_of : List ℕ → List ℕ
behind_of octets = (cut_off (length octets) octets).behind
