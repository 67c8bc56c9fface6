-- A first answer, and a part of an information answer, is what stands before its octets, and those octets.
use Rattle.std.proofs.Common.{◌≡◌, ◌≤◌, ◌<◌, ℕ, ◌-◌, Bool, true, List, [], ◌++◌, length, sym, ap, ◌∙◌, subst}
use Rattle.std.proofs.lemmas.List.{append-nil}
use Rattle.protocol_models.specs.of_coe_codec.Coe.{IsCoe}
use Rattle.protocol_models.specs.of_coe_codec.Reading.{is_information}
use Rattle.protocol_models.specs.of_coe_codec.Writing.{coe_text, head_of}
use Rattle.protocol_models.proofs.of_coe_codec.Spelled.{write-spelled}
use Rattle.coe_server.specs.Serving.{first_answer, fragment, IsWritten}

first_text : (index sub size : ℕ) (bytes : List ℕ) → coe_text (first_answer index sub size []) ++ bytes ≡ coe_text (first_answer index sub size bytes)
first_text index sub size bytes =
    let front = head_of (first_answer index sub size []) in
    ap (λ l. l ++ bytes) (append-nil front) ∙ ap (λ l. front ++ l) (sym (append-nil bytes))

pub first_written : (room index sub size : ℕ) (bytes octets : List ℕ) → octets ≡ coe_text (first_answer index sub size []) ++ bytes
    → length bytes ≤ size → length bytes ≤ room - 16 → index < 65536 → size < 4294967296 → IsWritten room (first_answer index sub size bytes) octets
first_written room index sub size bytes octets e few short small fits =
    let text = e ∙ first_text index sub size bytes in
    record {
      text = text;
      spelled = subst (λ l. IsCoe l (first_answer index sub size bytes)) (sym text) (write-spelled (first_answer index sub size bytes) few (small, fits) tt);
      short = short;
    }

fragment_text : (opcode : ℕ) (incomplete : Bool) (left : ℕ) (bytes : List ℕ) → coe_text (fragment opcode incomplete left []) ++ bytes ≡ coe_text (fragment opcode incomplete left bytes)
fragment_text opcode incomplete left bytes =
    let front = head_of (fragment opcode incomplete left []) in
    ap (λ l. l ++ bytes) (append-nil front) ∙ ap (λ l. front ++ l) (sym (append-nil bytes))

pub fragment_written : (room opcode : ℕ) (incomplete : Bool) (left : ℕ) (bytes octets : List ℕ) → octets ≡ coe_text (fragment opcode incomplete left []) ++ bytes
    → is_information opcode ≡ true → left < 65536 → length bytes ≤ room - 12 → IsWritten room (fragment opcode incomplete left bytes) octets
fragment_written room opcode incomplete left bytes octets e known fits short =
    let text = e ∙ fragment_text opcode incomplete left bytes in
    record {
      text = text;
      spelled = subst (λ l. IsCoe l (fragment opcode incomplete left bytes)) (sym text) (write-spelled (fragment opcode incomplete left bytes) known fits tt);
      short = short;
    }
