-- The small dictionary is lawful in each AL state, its mails have spellings, and so is its slave with state services.
use Rattle.std.proofs.Common.{◌≡◌, ℕ, ◌<◌, ◌≤◌, ◌==◌, ◌&&◌, ◌||◌, not, nat_le, nat_lt, Bool, true, false, if◌then◌else◌, List, length, Option, None, Some, Ok, Err, refl, ap, ◌∙◌, subst, arith, leb-true, le-leb}
use Rattle.std.proofs.lemmas.Bool.{eqb-true, ltb-false}
use Rattle.slave_server.specs.of_exchange_model.Areas.{AreMailboxes}
use Rattle.slave_server.specs.of_exchange_model.Exchange.{IsLawful}
use Rattle.slave_server.specs.of_protocol_models.Tables.{Target, AreLawful}
use Rattle.slave_server.specs.of_protocol_models.CoeServer.{emission_of, emergency, packet}
use Rattle.slave_server.specs.of_protocol_models.CoeOctets.{AreSpelled}
use Rattle.slave_server.specs.of_state_model.Families.{states_of}
use Rattle.slave_server.proofs.of_state_model.StatedLaw.{stated_law}
use Rattle.slave_app.specs.States.{AreOneKind, acknowledged, coe_states}
use Rattle.slave_app.specs.Toys.{refused_by, refusal, unless_refused, drawer, steps, areas, slave}
use Rattle.slave_app.proofs.StatesLaw.{coe_states_law, coe_states_are}

-- its codes have 32 bits
few_bits : (known operational long : Bool) (code : ℕ) → refused_by known operational long ≡ Some code → code < 4294967296
few_bits false operational long code e = let is : 0x06020000 ≡ code = cc in omega (arith, is)
few_bits true false long code e = let is : 0x08000022 ≡ code = cc in omega (arith, is)
few_bits true true true code e = let is : 0x06070012 ≡ code = cc in omega (arith, is)
few_bits true true false code e = absurd (cc)

refused_bits : (bytes : List ℕ) (found : Option ℕ) (code : ℕ) → unless_refused bytes found ≡ Err code → found ≡ Some code
refused_bits bytes None code e = absurd (cc)
refused_bits bytes (Some own) code e = let is : own ≡ code = cc in ap Some is

-- what is stored is the value, of a known index and not too long
stored : (known operational long : Bool) (bytes changed : List ℕ) → unless_refused bytes (refused_by known operational long) ≡ Ok changed → (known ≡ true) × (long ≡ false) × (bytes ≡ changed)
stored false operational long bytes changed e = absurd (cc)
stored true false long bytes changed e = absurd (cc)
stored true true true bytes changed e = absurd (cc)
stored true true false bytes changed e = (refl, refl, cc)

read_value : (known : Bool) (value bytes : List ℕ) (code : ℕ) → (if known then Ok value else Err code) ≡ Ok bytes → value ≡ bytes
read_value true value bytes code e = cc
read_value false value bytes code e = absurd (cc)

read_code : (known : Bool) (value : List ℕ) (own code : ℕ) → (if known then Ok value else Err own) ≡ Err code → own ≡ code
read_code true value own code e = absurd (cc)
read_code false value own code e = cc

-- and its object emits nothing
calm_by : (other eoe : Bool) (bytes : List ℕ) → (if other then None else if 0x2000 == 0x2F00 then Some (emergency bytes) else if eoe && 0x2000 == 0x2F01 then Some (packet bytes) else None) ≡ None
calm_by true eoe bytes = refl
calm_by false true bytes = refl
calm_by false false bytes = refl

calm : (eoe : Bool) (t : Target) (bytes : List ℕ) → t.index ≡ 0x2000 → emission_of eoe t bytes ≡ None
calm eoe t bytes is = ap (λ n. emission_of eoe (record { index = n; sub = t.sub; all = t.all }) bytes) is ∙ calm_by (t.all || not (t.sub == 1)) eoe bytes

pub drawer_kind : AreOneKind drawer
drawer_kind al value = refl

pub drawer_lawful : (al : ℕ) → AreLawful (drawer al)
drawer_lawful al = record {
  early = λ value t bytes code valid e. ap (unless_refused bytes) e;
  short = λ value t bytes valid e. subst (λ l. length l ≤ 16384) (read_value (t.index == 0x2000) value bytes 0x06020000 e) (leb-true (length value) 16384 valid);
  short_info = λ value a bytes valid e. absurd (cc);
  stays = λ value changed t bytes valid e.
      let s = stored (t.index == 0x2000) (al == 8) (nat_lt 16384 (length bytes)) bytes changed e in
      subst (λ l. nat_le (length l) 16384 ≡ true) s.2 (le-leb (length bytes) 16384 (let few = ltb-false 16384 (length bytes) s.1 in omega (arith, few)));
  stays_cut = λ value octets valid. valid;
}

pub drawer_spelled : (al : ℕ) → AreSpelled (drawer al)
drawer_spelled al = record {
  check_code = λ value t size code valid e. few_bits (t.index == 0x2000) (al == 8) (nat_lt 16384 size) code e;
  download_code = λ value t bytes code valid e.
      few_bits (t.index == 0x2000) (al == 8) (nat_lt 16384 (length bytes)) code (refused_bits bytes (refusal al t (length bytes)) code e);
  upload_code = λ value t code valid e. let is = read_code (t.index == 0x2000) value 0x06020000 code e in omega (arith, is);
  info_code = λ value a code valid e. let is : 0x08000021 ≡ code = cc in omega (arith, is);
  cut = λ value octets. tt;
  eight = λ value changed eoe t bytes octets valid e emits.
      let s = stored (t.index == 0x2000) (al == 8) (nat_lt 16384 (length bytes)) bytes changed e in
      absurd (let none = calm eoe t bytes (eqb-true t.index 0x2000 s.0) in cc);
}

sized : AreMailboxes areas
sized = record { out_least = omega arith; out_most = omega arith; back_least = omega arith; back_most = omega arith }

pub slave_law : IsLawful slave
slave_law = stated_law (coe_states drawer false areas) (states_of acknowledged) steps
    (coe_states_are drawer false areas drawer_lawful sized drawer_kind) (coe_states_law drawer false areas drawer_lawful sized)
