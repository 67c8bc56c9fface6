-- What is told of a link on which requests are heard.
use Rattle.std.specs.Prelude.{◌≡◌, ℕ, ◌||◌, Bool, true, List, [], Option, Some, None}
use Rattle.gateway_stream.specs.of_ec_outside.Port.{HeardGram}
use Rattle.promised_run.specs.of_gateway_run.Serving.{Told}
use Rattle.gateway_stream.specs.Cutting.{behind_of}
use Rattle.gateway_stream.specs.Hearing.{heard_in, heard_of, is_broken}
use Rattle.gateway_stream.specs.Sending.{IsBehind, sent_in, sent_of}

-- whether a header that is no request's stands behind the requests in the octets given; where they aren't told it may
abbrev pub may_be_broken : Option (List HeardGram) → Option (List ℕ) → Bool
may_be_broken None given = true
may_be_broken (Some heard) None = true
may_be_broken (Some heard) (Some octets) = is_broken (behind_of octets)

-- what a link tells before its requests are heard: the datagrams given and put until then, where nothing stands behind them
abbrev pub told_first : {K : Type 0} → (K → Option (List ℕ)) → (K → Option (List ℕ)) → (K → Bool) → (K → ℕ) → K → Told
told_first given sent over faults link = record { heard = heard_of (given link) []; sent = sent_of [] (sent link); over = over link; faults = faults link }

-- what it tells behind that: the requests in the octets given and in those put, whether no request can come any more, and the faults
abbrev pub told_last : {K : Type 0} → (K → Option (List ℕ)) → (K → Option (List ℕ)) → (K → Bool) → (K → ℕ) → K → K → Told
told_last given sent over faults first link = record {
  heard = heard_in (given link);
  sent = sent_in (sent link);
  over = over link || may_be_broken (heard_of (given first) []) (given link);
  faults = faults link;
}

-- WHAT IS PUT TO A LINK with so many faults, where it tells that and just datagrams stood there before: behind its datagrams nothing, or, where it had a fault, the
-- first octets of one more
abbrev pub PutsWhole : ℕ → Option (List ℕ) → Option (List ℕ) → Type 0
PutsWhole faults None last = Unit {0}
PutsWhole faults (Some before) last = behind_of before ≡ [] → (octets : List ℕ) × (last ≡ Some octets) × IsBehind faults (behind_of octets)
