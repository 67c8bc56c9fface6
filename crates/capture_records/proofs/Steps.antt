-- One step of a reader that goes from packet to packet.
use Rattle.std.proofs.Common.{◌≡◌, ℕ, zero, suc, ◌+◌, ◌≤◌, List, [], ◌∷◌, ◌++◌, length, drop, refl, ap, sym, ◌∙◌, arith, length-drop, subst}
use Rattle.std.specs.Prelude.{Ok, Err}
use Rattle.std.proofs.lemmas.List.{drop-drop}
use Rattle.capture_records.specs.declared.packet.FileEnd.{FileEnd}
use Rattle.capture_records.specs.declared.packet.FileEnd.TheVariants.{Whole}
use Rattle.capture_records.specs.declared.packet.PacketAt.{PacketAt}
use Rattle.capture_records.specs.declared.records.Form.{Form}
use Rattle.capture_records.specs.Records.{record_read, joined, records_within, records_read}

-- the reader has read `packets` and stands at `at`
pub record IsReading (form : Form) (octets : List ℕ) (begin : ℕ) (packets : List PacketAt) (at : ℕ) : Type 0 where
  pub most : ℕ
  pub enough : length (drop at octets) ≤ most
  pub same : records_within form most packets at (drop at octets) ≡ records_read form begin (drop begin octets)

pub reading_begins : (form : Form) (octets : List ℕ) (begin : ℕ) → IsReading form octets begin [] begin
reading_begins form octets begin = record { most = length (drop begin octets); enough = omega arith; same = refl }

nothing : (octets : List ℕ) → length octets ≤ 0 → octets ≡ []
nothing [] e = refl
nothing (x ∷ xs) e = absurd (omega arith)

ends_at : (form : Form) (most : ℕ) (before : List PacketAt) (at : ℕ) (rest : List ℕ) (end : FileEnd) → length rest ≤ most
    → record_read form at rest ≡ Err end → records_within form most before at rest ≡ record { packets = before; end = end }
ends_at form zero before at rest end few e =
    let none : record_read form at rest ≡ Err Whole = ap (record_read form at) (nothing rest few) in
    let whole : Whole ≡ end = cc in
    ap (λ (x : FileEnd). record { packets = before; end = x }) whole
ends_at form (suc most) before at rest end few e =
    ap (joined before (λ (p : PacketAt). records_within form most (before ++ p ∷ []) (at + (form.head + p.len)) (drop (form.head + p.len) rest))) e

-- the file ends here, or has a fault
pub reading_ends : (form : Form) (octets : List ℕ) (begin : ℕ) (packets : List PacketAt) (at : ℕ) (end : FileEnd) → IsReading form octets begin packets at
    → Err end ≡ record_read form at (drop at octets) → record { packets = packets; end = end } ≡ records_read form begin (drop begin octets)
reading_ends form octets begin packets at end r e = sym (ends_at form r.most packets at (drop at octets) end r.enough (sym e)) ∙ r.same

goes_on : (form : Form) (octets : List ℕ) (begin most : ℕ) (packets : List PacketAt) (at : ℕ) (packet : PacketAt) → 16 ≤ form.head
    → length (drop at octets) ≤ most → records_within form most packets at (drop at octets) ≡ records_read form begin (drop begin octets)
    → Ok packet ≡ record_read form at (drop at octets) → at + (form.head + packet.len) ≤ length octets
    → IsReading form octets begin (packets ++ packet ∷ []) (at + (form.head + packet.len))
goes_on form octets begin zero packets at packet head few same e fits = absurd (omega (arith, length-drop {A = ℕ}))
goes_on form octets begin (suc n) packets at packet head few same e fits =
    let moved : records_within form (suc n) packets at (drop at octets)
    ≡ records_within form n (packets ++ packet ∷ []) (at + (form.head + packet.len)) (drop (form.head + packet.len) (drop at octets)) =
    ap (joined packets (λ (p : PacketAt). records_within form n (packets ++ p ∷ []) (at + (form.head + p.len)) (drop (form.head + p.len) (drop at octets)))) (sym e) in
    record {
      most = n;
      enough = omega (arith, length-drop {A = ℕ});
      same =
          ap (λ (x : List ℕ). records_within form n (packets ++ packet ∷ []) (at + (form.head + packet.len)) x) (sym (drop-drop (form.head + packet.len) at octets))
          ∙ sym moved ∙ same;
    }

-- the packet here was read
pub reading_on : (form : Form) (octets : List ℕ) (begin : ℕ) (packets all : List PacketAt) (at : ℕ) (packet : PacketAt) → 16 ≤ form.head
    → IsReading form octets begin packets at → Ok packet ≡ record_read form at (drop at octets) → at + (form.head + packet.len) ≤ length octets
    → all ≡ packets ++ packet ∷ [] → IsReading form octets begin all (at + (form.head + packet.len))
reading_on form octets begin packets all at packet head r e fits pushed =
    subst (λ (ps : List PacketAt). IsReading form octets begin ps (at + (form.head + packet.len))) (sym pushed)
    (goes_on form octets begin r.most packets at packet head r.enough r.same e fits)
