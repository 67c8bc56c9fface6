-- Tables of IDNs: what a look-up finds, and what a write leaves.
use Rattle.std.proofs.Common.{◌≡◌, ℕ, List, Option, None, Some, Ok, Err, sym, ap, ◌∙◌}
use Rattle.protocol_models.specs.Elements.{Target}
use Rattle.idn_table.specs.declared.element.Element.{Element}
use Rattle.idn_table.specs.declared.element.Element.TheVariants.{State, Name, Attribute, Unit as UnitOf, Minimum, Maximum, Value}
use Rattle.idn_table.specs.Idns.{Kept, Table, idn_at, element_of, value_code, write_code, write_code_by, write_code_at, stored, written_by, write_at}

-- what isn't refused is a value
pub value_by : (i : Kept) (element : Option Element) (bytes : List ℕ) → write_code_by (Some i) element bytes ≡ None → value_code i bytes ≡ None
value_by i None bytes e = absurd (cc)
value_by i (Some State) bytes e = absurd (cc)
value_by i (Some Name) bytes e = absurd (cc)
value_by i (Some Attribute) bytes e = absurd (cc)
value_by i (Some UnitOf) bytes e = absurd (cc)
value_by i (Some Minimum) bytes e = absurd (cc)
value_by i (Some Maximum) bytes e = absurd (cc)
value_by i (Some Value) bytes e = e

pub value_found : (idns : Table) (t : Target) (bytes : List ℕ) (i : Kept) → idn_at idns t ≡ Some i → write_code_at (idn_at idns t) t bytes ≡ None → value_code i bytes ≡ None
value_found idns t bytes i found e = value_by i (element_of t.elements) bytes (ap (λ o. write_code_at o t bytes) (sym found) ∙ e)

-- the code of an IDN that was found, for an element that was found
pub code_found : (idns : Table) (t : Target) (bytes : List ℕ) (i : Kept) (element : Element) → idn_at idns t ≡ Some i → element_of t.elements ≡ Some element →
    write_code i element bytes ≡ write_code_at (idn_at idns t) t bytes
code_found idns t bytes i element found is = sym (ap (λ o. write_code_at o t bytes) found ∙ ap (λ e. write_code_by (Some i) e bytes) is)

-- a write that nothing refuses stores the value; where there is no IDN there is a code
pub stores : (idns : Table) (t : Target) (bytes : List ℕ) (i : Kept) → idn_at idns t ≡ Some i → write_code_at (idn_at idns t) t bytes ≡ None → write_at idns t bytes ≡ Ok (stored idns t (Some i) bytes)
stores idns t bytes i found e = ap (written_by (stored idns t (idn_at idns t) bytes)) e ∙ ap (λ o. Ok (stored idns t o bytes)) found

pub none_stored : (idns : Table) (t : Target) (bytes : List ℕ) → idn_at idns t ≡ None → write_code_at (idn_at idns t) t bytes ≡ None → ⊥
none_stored idns t bytes missing e = let code : write_code_at None t bytes ≡ None = ap (λ o. write_code_at o t bytes) (sym missing) ∙ e in absurd (cc)

pub refused_stores : (idns : Table) (t : Target) (bytes : List ℕ) (code : ℕ) → write_code_at (idn_at idns t) t bytes ≡ Some code → write_at idns t bytes ≡ Err code
refused_stores idns t bytes code e = ap (written_by (stored idns t (idn_at idns t) bytes)) e
