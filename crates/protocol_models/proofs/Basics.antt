-- Toggles, counts of parts, and what of a server's mails are replies.
use Rattle.std.proofs.Common.{◌≡◌, ℕ, suc, ◌+◌, ◌-◌, ◌/◌, ◌<◌, ◌≤◌, Bool, true, false, not, List, [], ◌∷◌, map, filter, Option, None, Some, refl, ap, ◌∙◌, arith, eq-eqb}
use Rattle.std.proofs.Math.Nat.{div-eq-sub-div, div-eq_of_lt}
use Rattle.exchange_model.specs.Exchange.{plain, emitted}
use Rattle.protocol_models.specs.CoeMails.{CoeMail, fragment, is_emission}
use Rattle.protocol_models.specs.Tables.{Target, Tables}
use Rattle.protocol_models.specs.CoeServer.{Emission, emergency, packet, same, parts_of, issued}
use Rattle.protocol_models.specs.CoeClient.{is_of}

pub same_itself : (toggle : Bool) → same toggle toggle ≡ true
same_itself true = refl
same_itself false = refl

pub is_of_itself : (t : Target) → is_of t t.index t.sub ≡ true
is_of_itself t = rw (eq-eqb t.index t.index refl, eq-eqb t.sub t.sub refl) refl

pub no_parts : (part : ℕ) → 0 < part → parts_of part 0 ≡ 0
no_parts part some = let less : 0 + part - 1 < part = omega arith in div-eq_of_lt less

pub one_part : (part len : ℕ) → 0 < len → len ≤ part → parts_of part len ≡ 1
one_part part len some fits =
    let low : 0 < part = omega arith in
    let most : part ≤ len + part - 1 = omega arith in
    let less : len + part - 1 - part < part = omega arith in
    div-eq-sub-div low most ∙ ap (λ n. n + 1) (div-eq_of_lt less)

pub more_parts : (part len : ℕ) → 0 < part → part < len → parts_of part len ≡ suc (parts_of part (len - part))
more_parts part len some more =
    let most : part ≤ len + part - 1 = omega arith in
    let same : len + part - 1 - part ≡ len - part + part - 1 = omega arith in
    div-eq-sub-div some most ∙ omega (arith, ap (λ n. n / part) same)

filter_fragments : (bodies : List (List ℕ)) → filter is_emission (map fragment bodies) ≡ map fragment bodies
filter_fragments [] = refl
filter_fragments (b ∷ bodies) = ap (λ l. fragment b ∷ l) (filter_fragments bodies)

no_fragments : (bodies : List (List ℕ)) → filter (λ m. not (is_emission m)) (map fragment bodies) ≡ []
no_fragments [] = refl
no_fragments (b ∷ bodies) = no_fragments bodies

-- what a server issues are emissions
pub issued_emitted : {S : Type 0} (o : Tables S) (app : S) (e : Option Emission) → emitted is_emission (issued o app e).1 ≡ (issued o app e).1
issued_emitted o app None = refl
issued_emitted o app (Some (emergency octets)) = refl
issued_emitted o app (Some (packet octets)) = filter_fragments (o.packet app octets).1

pub issued_plain : {S : Type 0} (o : Tables S) (app : S) (e : Option Emission) → plain is_emission (issued o app e).1 ≡ []
issued_plain o app None = refl
issued_plain o app (Some (emergency octets)) = refl
issued_plain o app (Some (packet octets)) = no_fragments (o.packet app octets).1

-- an answer and an emission behind it
pub answer_plain : {S : Type 0} (o : Tables S) (app : S) (e : Option Emission) (a : CoeMail) → is_emission a ≡ false → plain is_emission (a ∷ (issued o app e).1) ≡ a ∷ []
answer_plain o app e a is = rw is (ap (λ l. a ∷ l) (issued_plain o app e))

pub answer_emitted : {S : Type 0} (o : Tables S) (app : S) (e : Option Emission) (a : CoeMail) → is_emission a ≡ false → emitted is_emission (a ∷ (issued o app e).1) ≡ (issued o app e).1
answer_emitted o app e a is = rw is (issued_emitted o app e)
