-- A request with an unknown command is long enough to name an entry.
use Rattle.std.proofs.Common.{◌≡◌, ℕ, ◌≤◌, Bool, true, false, ◌==◌, nat_lt, List, length, take, drop, Result, Ok, Err, if◌then◌else◌, refl, arith, ltb-false}
use Rattle.protocol_models.specs.of_coe_codec.Fields.{service_in}
use Rattle.protocol_models.specs.of_coe_codec.Reading.{coe_read, request_read, answer_read, information_read}
use Rattle.protocol_models.specs.of_coe_codec.declared.message.Coe.{Coe}
use Rattle.protocol_models.specs.of_coe_codec.declared.message.Coe.TheVariants.{Emergency}
use Rattle.protocol_models.specs.of_coe_codec.declared.message.CoeFault.{CoeFault}
use Rattle.protocol_models.specs.of_coe_codec.declared.message.CoeFault.TheVariants.{Short, Service, Command}

-- what is Err Command is not Err Short, so its test was not met
not_short : (b : Bool) (x : Result Coe CoeFault) → (if b then Err Short else x) ≡ Err Command → b ≡ false
not_short true x e = absurd (cc)
not_short false x e = refl

long_sdo : (len : ℕ) (x : Result Coe CoeFault) → (if nat_lt len 10 then Err Short else x) ≡ Err Command → 6 ≤ len
long_sdo len x e = let least : 10 ≤ len = ltb-false len 10 (not_short (nat_lt len 10) x e) in omega arith

emergency_no : (b : Bool) (x : Coe) → (if b then Err Short else Ok x) ≡ Err Command → ⊥
emergency_no true x e = absurd (cc)
emergency_no false x e = absurd (cc)

long_information : (len : ℕ) (x : Result Coe CoeFault) → (if nat_lt len 6 then Err Short else x) ≡ Err Command → 6 ≤ len
long_information len x e = ltb-false len 6 (not_short (nat_lt len 6) x e)

by_service : (one two three eight : Bool) (len : ℕ) (a : Coe) (b c d : Result Coe CoeFault) →
    (if one then (if nat_lt len 10 then Err Short else Ok a)
    else if two then (if nat_lt len 10 then Err Short else b)
    else if three then (if nat_lt len 10 then Err Short else c)
    else if eight then (if nat_lt len 6 then Err Short else d)
    else Err Service) ≡ Err Command → 6 ≤ len
by_service true two three eight len a b c d e = absurd (emergency_no (nat_lt len 10) a e)
by_service false true three eight len a b c d e = long_sdo len b e
by_service false false true eight len a b c d e = long_sdo len c e
by_service false false false true len a b c d e = long_information len d e
by_service false false false false len a b c d e = absurd (cc)

two_first : (b : Bool) (len : ℕ) (x : Result Coe CoeFault) → (x ≡ Err Command → 6 ≤ len) → (if b then Err Short else x) ≡ Err Command → 6 ≤ len
two_first true len x go e = absurd (cc)
two_first false len x go e = go e

pub command_long : (body : List ℕ) → coe_read body ≡ Err Command → 6 ≤ length body
command_long body e = two_first (nat_lt (length body) 2) (length body) _
    (by_service (service_in body == 1) (service_in body == 2) (service_in body == 3) (service_in body == 8) (length body)
    (Emergency (record { items = take 8 (drop 2 body) })) (request_read body) (answer_read body) (information_read body)) e
