-- Texts by their length: one that doesn't write so many octets is refused, and what one writes is read.
use Rattle.std.proofs.Common.{◌≡◌, ℕ, ◌*◌, ◌/◌, ◌%◌, ◌≤◌, ◌==◌, ◌&&◌, nat_le, Bool, true, false, List, length, Some, None, Result, Ok, Err, OnOk, refl, ap, arith, if◌then◌else◌}
use Rattle.std.specs.Prelude.{is_ok}
use Rattle.std.specs.Result.{result_ok}
use Rattle.std.proofs.lemmas.Bool.{and_parts, eqb-true, leb-true}
use Rattle.toml.specs.Data.{Data}
use Rattle.hex.specs.Hex.{decode_of}
use Rattle.hex.specs.declared.error.FromHexError.{FromHexError}
use Rattle.hex.proofs.HexLemmas.{decode_of-ok}
use Rattle.scenario_keys.specs.declared.place.Place.{Place}
use Rattle.scenario_keys.specs.declared.refusal.Rule.TheVariants.{OutOfRange, NotOctets}
use Rattle.scenario_keys.specs.declared.refusal.Refusal.{Refusal}
use Rattle.scenario_keys.specs.declared.refusal.Stop.{Stop}
use Rattle.scenario_keys.specs.declared.refusal.Stop.TheVariants as stops
use Rattle.scenario_keys.specs.Reading.{unless_refused, Gives, Fails}
use Rattle.scenario_keys.specs.Keys.{text_in}
use Rattle.scenario_values.specs.Octets.{is_fit, octets_in}

-- so many octets
abbrev pub fit : ℕ → ℕ → ℕ → Bool
fit least most n = nat_le least n && nat_le n most

pub even : (least most : ℕ) (text : List ℕ) → is_fit least most text ≡ true → length text % 2 ≡ 0
even least most text h =
    let low = (and_parts (length text % 2 == 0 && nat_le least (length text / 2)) (nat_le (length text / 2) most) h).0 in
    eqb-true (length text % 2) 0 (and_parts (length text % 2 == 0) (nat_le least (length text / 2)) low).0

pub most_half : (least most : ℕ) (text : List ℕ) → is_fit least most text ≡ true → length text / 2 ≤ most
most_half least most text h =
    leb-true (length text / 2) most (and_parts (length text % 2 == 0 && nat_le least (length text / 2)) (nat_le (length text / 2) most) h).1

pub least_half : (least most : ℕ) (text : List ℕ) → is_fit least most text ≡ true → least ≤ length text / 2
least_half least most text h =
    let low = (and_parts (length text % 2 == 0 && nat_le least (length text / 2)) (nat_le (length text / 2) most) h).0 in
    leb-true least (length text / 2) (and_parts (length text % 2 == 0) (nat_le least (length text / 2)) low).1

pub exact_twice : (least most : ℕ) (text : List ℕ) → is_fit least most text ≡ true → least ≡ most → length text ≡ 2 * least
exact_twice least most text h same =
    let e = even least most text h in
    let m = most_half least most text h in
    let l = least_half least most text h in
    omega (arith, e, m, l, same)

-- the octets that a text writes fit as it does
written_fit : (least most : ℕ) (text octets : List ℕ) (b : Bool) → decode_of text ≡ Ok octets → is_fit least most text ≡ b → fit least most (length octets) ≡ b
written_fit least most text octets b ok h =
    let pairs = decode_of-ok text octets ok in
    let whole : length text % 2 ≡ 0 = pairs.0 in
    let twice : length text ≡ 2 * length octets = pairs.2 in
    let half : length text / 2 ≡ length octets = omega (arith, twice) in
    rw (whole, half) at h

unfit_told : (least most : ℕ) (place : Place) (d : Data) (text : List ℕ) (r : Result (List ℕ) FromHexError)
    → text_in place d ≡ Ok text → decode_of text ≡ r → is_fit least most text ≡ false
    → octets_in least most place d ≡ Err (record { rule = if is_ok r then OutOfRange else NotOctets; place = place })
unfit_told least most place d text (Ok octets) ht hr unfit = rw (ht, hr, written_fit least most text octets false hr unfit) refl
unfit_told least most place d text (Err e) ht hr unfit = rw (ht, hr) refl

pub unfit_refused : (least most : ℕ) (place : Place) (d : Data) (text : List ℕ) (stop : Stop)
    → stop ≡ stops.Refused (record { rule = if is_ok (decode_of text) then OutOfRange else NotOctets; place = place })
    → text_in place d ≡ Ok text → is_fit least most text ≡ false → Fails stop (octets_in least most place d)
unfit_refused least most place d text stop told ht unfit = rw told (unfit_told least most place d text (decode_of text) ht refl unfit)

abbrev err_or : {A : Type 0} → Refusal → Result A Refusal → Refusal
err_or d (Ok x) = d
err_or d (Err e) = e

ok_of : (r : Result (List ℕ) FromHexError) (x : List ℕ) → result_ok r ≡ Some x → r ≡ Ok x
ok_of (Ok y) x h = cc h
ok_of (Err e) x h = cc h

pub given : (least most : ℕ) (place : Place) (d : Data) (text out : List ℕ) (b : Bool) (r : Result (Unit {0}) Stop)
    → text_in place d ≡ Ok text → result_ok (decode_of text) ≡ (if b then Some out else None) → is_fit least most text ≡ true
    → Gives (λ done. done) r (unless_refused NotOctets place b) → Gives (λ _. out) r (octets_in least most place d)
given least most place d text out true (Ok done) ht hd fits hg =
    rw (ht, hd, written_fit least most text out true (ok_of (decode_of text) out hd) fits) refl
given least most place d text out true (Err (stops.Refused e)) ht hd fits hg = cc hg
given least most place d text out true (Err stops.NoMemory) ht hd fits hg = tt
given least most place d text out false (Ok done) ht hd fits hg = cc hg
given least most place d text out false (Err (stops.Refused e)) ht hd fits hg = rw (ht, hd) (ap Err (ap (err_or e) hg))
given least most place d text out false (Err stops.NoMemory) ht hd fits hg = tt

pub given_least : (least most : ℕ) (place : Place) (text out : List ℕ) (b : Bool) (r : Result (Unit {0}) Stop)
    → result_ok (decode_of text) ≡ (if b then Some out else None) → is_fit least most text ≡ true
    → Gives (λ done. done) r (unless_refused NotOctets place b) → OnOk r (least ≤ length out)
given_least least most place text out true (Ok done) hd fits hg =
    let twice : length text ≡ 2 * length out = (decode_of-ok text out (ok_of (decode_of text) out hd)).2 in
    let low = least_half least most text fits in
    omega (arith, twice, low)
given_least least most place text out true (Err e) hd fits hg = tt
given_least least most place text out false (Ok done) hd fits hg = cc hg
given_least least most place text out false (Err e) hd fits hg = tt
