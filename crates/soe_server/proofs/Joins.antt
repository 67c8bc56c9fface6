-- The octets that a join keeps.
use Rattle.std.proofs.Common.{◌≡◌, ℕ, ◌+◌, ◌-◌, ◌≤◌, true, false, List, [], ◌++◌, length, take, Option, None, Some, refl, sym, ap, ◌∙◌, arith, if◌then◌else◌}
use Rattle.std.proofs.Math.Seq.{take-append-add}
use Rattle.std.proofs.lemmas.List.{length-take}
use Rattle.idn_table.specs.of_protocol_models.SoeMails.{Soe}
use Rattle.idn_table.specs.of_protocol_models.SoeServer.{ahead}
use Rattle.soe_server.specs.declared.state.Common.{Common}
use Rattle.soe_server.specs.Serving.{join_view, goes_with}

-- what came ahead of a message is what was kept, where it goes on
pub ahead_by : (join : Option Common) (value : List ℕ) (s : Soe) → ahead (join_view join value) s ≡ (if goes_with join s then value else [])
ahead_by None value s = refl
ahead_by (Some c) value s = refl

pub ahead_on : (join : Option Common) (value : List ℕ) (s : Soe) → goes_with join s ≡ true → ahead (join_view join value) s ≡ value
ahead_on join value s e = ahead_by join value s ∙ ap (λ b. if b then value else []) e

pub ahead_anew : (join : Option Common) (value : List ℕ) (s : Soe) → goes_with join s ≡ false → ahead (join_view join value) s ≡ []
ahead_anew join value s e = ahead_by join value s ∙ ap (λ b. if b then value else []) e

-- the first n octets, of which the front is kept already
pub kept_first : (n : ℕ) (front back : List ℕ) → length front ≤ n → front ++ take (n - length front) back ≡ take n (front ++ back)
kept_first n front back fits =
    let all : length front + (n - length front) ≡ n = omega (arith, fits) in
    sym (take-append-add front back (n - length front)) ∙ ap (λ k. take k (front ++ back)) all

pub short_first : (n : ℕ) (front back : List ℕ) → length front ≤ n → length front + length (take (n - length front) back) ≤ n
short_first n front back fits = let short = length-take (n - length front) back in omega (arith, fits, short)
