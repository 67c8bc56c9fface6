-- What octets read as, against the packets that spell them.
use Rattle.std.proofs.Common.{◌≡◌, ℕ, zero, suc, ◌+◌, ◌-◌, ◌*◌, ◌<◌, ◌≤◌, Bool, true, false, List, [], ◌∷◌, ◌++◌, length, take, drop, refl, ap, sym, subst, ◌∙◌, arith, append_assoc, append-nil, length-drop, length-append, take-append-drop, length-take-le}
use Rattle.std.specs.Prelude.{Result, Ok, Err, nat_lt, ◌==◌, if◌then◌else◌, IfOk}
use Rattle.std.proofs.lemmas.Bool.{le-ltb, ltb-false, ltb-true, eqb-true, ne_eqb}
use Rattle.std.proofs.lemmas.List.{drop-drop, drop_at}
use Rattle.ec_fields.specs.declared.memory.NoMemory.{NoMemory}
use Rattle.ec_fields.proofs.Cells.{AreOctets, AreOctets-drop}
use Rattle.capture_blocks.proofs.Spelled.{four_back, length-four, number_in-drop, four_here, four_fits}
use Rattle.capture_blocks.specs.declared.order.Order.{Order}
use Rattle.capture_blocks.specs.declared.order.Order.TheVariants.{LowFirst, HighFirst}
use Rattle.capture_blocks.specs.Order.{number_in, octets_in}
use Rattle.capture_records.specs.declared.packet.FileEnd.{FileEnd}
use Rattle.capture_records.specs.declared.packet.FileEnd.TheVariants.{Whole, Cut, Damaged}
use Rattle.capture_records.specs.declared.packet.PacketAt.{PacketAt}
use Rattle.capture_records.specs.declared.records.Form.{Form}
use Rattle.capture_records.specs.declared.records.Records.{Records}
use Rattle.capture_records.specs.Grammar.{Record, record_text, records_text, IsRecord, AreRecords, packet_of, packets_of, Ends, AreRead}
use Rattle.capture_records.specs.Records.{captured_in, packet_at, record_read, joined, records_within, records_read}

-- spelled, so read

text_behind : (order : Order) (a b c d : ℕ) (ignored octets rest : List ℕ)
    → (octets_in order 4 a ++ (octets_in order 4 b ++ (octets_in order 4 c ++ (octets_in order 4 d ++ (ignored ++ octets))))) ++ rest
    ≡ octets_in order 4 a ++ (octets_in order 4 b ++ (octets_in order 4 c ++ (octets_in order 4 d ++ (ignored ++ (octets ++ rest)))))
text_behind order a b c d ignored octets rest = simp append_assoc

drop_four : (order : Order) (v : ℕ) (rest : List ℕ) → drop 4 (octets_in order 4 v ++ rest) ≡ rest
drop_four LowFirst v rest = refl
drop_four HighFirst v rest = refl

length-record : (form : Form) (r : Record) → IsRecord form r → length (record_text form r) ≡ form.head + length r.octets
length-record form r is =
    let a = length-four form.order r.seconds in
    let b = length-four form.order r.part in
    let c = length-four form.order (length r.octets) in
    let d = length-four form.order r.original in
    let more = is.ignored in
    omega (arith, length-append {A = ℕ})

-- the five parts of a packet that begins octets
record Parts (form : Form) (r : Record) (octets rest : List ℕ) : Type 0 where
  seconds : number_in form.order 4 octets 0 ≡ r.seconds
  part : number_in form.order 4 octets 4 ≡ r.part
  len : captured_in form octets ≡ length r.octets
  original : number_in form.order 4 octets 12 ≡ r.original
  behind : drop (form.head + length r.octets) octets ≡ rest

parts_of : (form : Form) (r : Record) (octets rest : List ℕ) → IsRecord form r → octets ≡ record_text form r ++ rest → Parts form r octets rest
parts_of form r octets rest is text =
    let all = is.ignored in
    let short = is.short in
    let d0 = text ∙ text_behind form.order r.seconds r.part (length r.octets) r.original r.ignored r.octets rest in
    let d4 = ap (drop 4) d0 ∙ drop_four form.order r.seconds _ in
    let d8 = sym (drop-drop 4 4 octets) ∙ ap (drop 4) d4 ∙ drop_four form.order r.part _ in
    let d12 = sym (drop-drop 4 8 octets) ∙ ap (drop 4) d8 ∙ drop_four form.order (length r.octets) _ in
    record {
      seconds = ap (λ (x : List ℕ). number_in form.order 4 x 0) d0 ∙ four_back form.order r.seconds _ is.seconds;
      part = number_in-drop form.order 4 4 octets ∙ ap (λ (x : List ℕ). number_in form.order 4 x 0) d4 ∙ four_back form.order r.part _ is.part;
      len = number_in-drop form.order 4 8 octets ∙ ap (λ (x : List ℕ). number_in form.order 4 x 0) d8 ∙ four_back form.order (length r.octets) _ (omega arith);
      original = number_in-drop form.order 4 12 octets ∙ ap (λ (x : List ℕ). number_in form.order 4 x 0) d12 ∙ four_back form.order r.original _ is.original;
      behind = ap (drop (form.head + length r.octets)) text ∙ drop_at (record_text form r) rest (form.head + length r.octets) (length-record form r is);
    }

-- a packet that is spelled is read
record_only : (form : Form) (r : Record) (at : ℕ) (octets rest : List ℕ) → 16 ≤ form.head → IsRecord form r → octets ≡ record_text form r ++ rest
    → record_read form at octets ≡ Ok (packet_of form at r)
record_only form r at octets rest head is text =
    let p = parts_of form r octets rest is text in
    let size = length-record form r is in
    let all : length octets ≡ length (record_text form r) + length rest = ap length text ∙ length-append (record_text form r) rest in
    let short = is.short in
    let len = p.len in
    let t0 : (length octets == 0) ≡ false = ne_eqb (length octets) 0 (λ e. omega arith) in
    let t1 : nat_lt (length octets) form.head ≡ false = le-ltb _ _ (omega arith) in
    let t2 : nat_lt 262144 (length r.octets) ≡ false = le-ltb _ _ (omega arith) in
    let t3 : nat_lt (length octets - form.head) (length r.octets) ≡ false = le-ltb _ _ (omega arith) in
    rw (t0, t1, p.len, t2, t3, p.seconds, p.part, p.original) refl

within_step : (form : Form) (most : ℕ) (before : List PacketAt) (at : ℕ) (octets rest : List ℕ) (p : PacketAt) → record_read form at octets ≡ Ok p
    → drop (form.head + p.len) octets ≡ rest
    → records_within form (suc most) before at octets ≡ records_within form most (before ++ p ∷ []) (at + (form.head + p.len)) rest
within_step form most before at octets rest p reads moved =
    ap (joined before (λ (q : PacketAt). records_within form most (before ++ q ∷ []) (at + (form.head + q.len)) (drop (form.head + q.len) octets))) reads
    ∙ ap (records_within form most (before ++ p ∷ []) (at + (form.head + p.len))) moved

within_none : (form : Form) (most : ℕ) (before : List PacketAt) (at : ℕ) → records_within form most before at [] ≡ record { packets = before; end = Whole }
within_none form zero before at = refl
within_none form (suc most) before at = refl

within_only : (form : Form) (most : ℕ) (before : List PacketAt) (at : ℕ) (rs : List Record) → 16 ≤ form.head → length (records_text form rs) ≤ most → AreRecords form rs
    → records_within form most before at (records_text form rs) ≡ record { packets = before ++ packets_of form at rs; end = Whole }
within_only form most before at [] head few are =
    within_none form most before at ∙ ap (λ (ps : List PacketAt). record { packets = ps; end = Whole }) (sym (append-nil before))
within_only form zero before at (r ∷ rs) head few are =
    absurd (omega (arith, length-append (record_text form r) (records_text form rs), length-record form r are.0))
within_only form (suc most) before at (r ∷ rs) head few are =
    let p = parts_of form r (record_text form r ++ records_text form rs) (records_text form rs) are.0 refl in
    let size = length-record form r are.0 in
    let all = length-append (record_text form r) (records_text form rs) in
    within_step form most before at (record_text form r ++ records_text form rs) (records_text form rs) (packet_of form at r)
    (record_only form r at (record_text form r ++ records_text form rs) (records_text form rs) head are.0 refl) p.behind
    ∙ within_only form most (before ++ packet_of form at r ∷ []) (at + (form.head + length r.octets)) rs head (omega arith) are.1
    ∙ ap (λ (ps : List PacketAt). record { packets = ps; end = Whole }) (append_assoc before (packet_of form at r ∷ []) (packets_of form (at + (form.head + length r.octets)) rs))

-- packets that are spelled are read
pub records_only : (form : Form) (at : ℕ) (octets : List ℕ) (rs : List Record) → 16 ≤ form.head → AreRecords form rs → octets ≡ records_text form rs
    → records_read form at octets ≡ record { packets = packets_of form at rs; end = Whole }
records_only form at octets rs head are text =
    ap (λ (x : List ℕ). records_within form (length x) [] at x) text ∙ within_only form (length (records_text form rs)) [] at rs head (omega arith) are

-- read, so spelled

record Tested (none few long cut : Bool) (found packet : PacketAt) : Type 0 where
  head : few ≡ false
  short : long ≡ false
  fits : cut ≡ false
  same : packet ≡ found

tested : (none few long cut : Bool) (at : ℕ) (found packet : PacketAt)
    → (if none then Err Whole else if few then Err (Cut at) else if long then Err (Damaged at) else if cut then Err (Cut at) else Ok found) ≡ Ok packet
    → Tested none few long cut found packet
tested true few long cut at found packet e = cc
tested false true long cut at found packet e = cc
tested false false true cut at found packet e = cc
tested false false false true at found packet e = cc
tested false false false false at found packet e = record { head = refl; short = refl; fits = refl; same = cc }

-- the packet whose header begins here
record_here : Form → List ℕ → Record
record_here form octets = record {
  seconds = number_in form.order 4 octets 0;
  part = number_in form.order 4 octets 4;
  original = number_in form.order 4 octets 12;
  ignored = take (form.head - 16) (drop 16 octets);
  octets = take (captured_in form octets) (drop form.head octets);
}

record FoundOne (form : Form) (at : ℕ) (octets : List ℕ) (packet : PacketAt) : Type 0 where
  one : Record
  is : IsRecord form one
  text : octets ≡ record_text form one ++ drop (form.head + packet.len) octets
  same : packet ≡ packet_of form at one

record_found : (form : Form) (at : ℕ) (octets : List ℕ) (packet : PacketAt) → 16 ≤ form.head → AreOctets octets → record_read form at octets ≡ Ok packet
    → FoundOne form at octets packet
unfolding record_here
record_found form at octets packet head o e =
    let n = captured_in form octets in
    let t = tested (length octets == 0) (nat_lt (length octets) form.head) (nat_lt 262144 n) (nat_lt (length octets - form.head) n) at (packet_at form at octets) packet e in
    let there = ltb-false (length octets) form.head t.head in
    let short = ltb-false 262144 n t.short in
    let fits = ltb-false (length octets - form.head) n t.fits in
    let first = length-drop 16 octets in
    let second = length-drop form.head octets in
    let ignored : length (take (form.head - 16) (drop 16 octets)) ≡ form.head - 16 = length-take-le (form.head - 16) (drop 16 octets) (omega arith) in
    let taken : length (take n (drop form.head octets)) ≡ n = length-take-le n (drop form.head octets) (omega arith) in
    let place : 16 + (form.head - 16) ≡ form.head = omega arith in
    let last : drop form.head octets ≡ take n (drop form.head octets) ++ drop (form.head + n) octets =
    sym (take-append-drop n (drop form.head octets)) ∙ ap (λ (x : List ℕ). take n (drop form.head octets) ++ x) (drop-drop n form.head octets) in
    let between : drop 16 octets ≡ take (form.head - 16) (drop 16 octets) ++ (take n (drop form.head octets) ++ drop (form.head + n) octets) =
    sym (take-append-drop (form.head - 16) (drop 16 octets))
    ∙ ap (λ (x : List ℕ). take (form.head - 16) (drop 16 octets) ++ x)
    (drop-drop (form.head - 16) 16 octets ∙ ap (λ (k : ℕ). drop k octets) place ∙ last) in
    let len : n ≡ packet.len = ap (λ (p : PacketAt). p.len) (sym t.same) in
    let whole : octets ≡ record_text form (record_here form octets) ++ drop (form.head + n) octets =
    four_here form.order 0 octets o (omega arith)
    ∙ ap (λ (x : List ℕ). octets_in form.order 4 (number_in form.order 4 octets 0) ++ x) (four_here form.order 4 octets o (omega arith)
    ∙ ap (λ (x : List ℕ). octets_in form.order 4 (number_in form.order 4 octets 4) ++ x) (four_here form.order 8 octets o (omega arith)
    ∙ ap (λ (x : List ℕ). octets_in form.order 4 n ++ x) (four_here form.order 12 octets o (omega arith)
    ∙ ap (λ (x : List ℕ). octets_in form.order 4 (number_in form.order 4 octets 12) ++ x) between)))
    ∙ ap (λ (k : ℕ). octets_in form.order 4 (number_in form.order 4 octets 0) ++ (octets_in form.order 4 (number_in form.order 4 octets 4) ++ (octets_in form.order 4 k
    ++ (octets_in form.order 4 (number_in form.order 4 octets 12) ++ (take (form.head - 16) (drop 16 octets)
    ++ (take n (drop form.head octets) ++ drop (form.head + n) octets)))))) (sym taken)
    ∙ sym (text_behind form.order (number_in form.order 4 octets 0) (number_in form.order 4 octets 4) (length (take n (drop form.head octets)))
    (number_in form.order 4 octets 12) (take (form.head - 16) (drop 16 octets)) (take n (drop form.head octets)) (drop (form.head + n) octets)) in
    record {
      one = record_here form octets;
      is = record {
        seconds = four_fits form.order 0 octets o;
        part = four_fits form.order 4 octets o;
        original = four_fits form.order 12 octets o;
        ignored = omega arith;
        short = omega arith;
      };
      text = whole ∙ ap (λ (k : ℕ). record_text form (record_here form octets) ++ drop (form.head + k) octets) len;
      same = t.same ∙ ap (λ (k : ℕ). record {
        link = 1;
        time = number_in form.order 4 octets 0 * 1000000000 + number_in form.order 4 octets 4 * form.unit;
        from = at + form.head;
        len = k;
        original = number_in form.order 4 octets 12;
      }) (sym taken);
    }

nothing : (octets : List ℕ) → length octets ≤ 0 → octets ≡ []
nothing [] e = refl
nothing (x ∷ xs) e = absurd (omega arith)

at_most_none : (octets : List ℕ) → length octets ≡ 0 → length octets ≤ 0
at_most_none octets e = omega arith

not_none : (octets : List ℕ) → (length octets == 0) ≡ false → 0 < length octets
not_none [] e = cc
not_none (x ∷ xs) e = omega arith

end_tested : (form : Form) (none few long cut : Bool) (at : ℕ) (octets : List ℕ) (found : PacketAt) (end : FileEnd)
    → (length octets == 0) ≡ none → nat_lt (length octets) form.head ≡ few → nat_lt 262144 (captured_in form octets) ≡ long
    → nat_lt (length octets - form.head) (captured_in form octets) ≡ cut
    → (if none then Err Whole else if few then Err (Cut at) else if long then Err (Damaged at) else if cut then Err (Cut at) else Ok found) ≡ Err end
    → Ends form at octets end
end_tested form true few long cut at octets found end a b c d e =
    let whole : Whole ≡ end = cc in
    subst (Ends form at octets) whole (nothing octets (at_most_none octets (eqb-true (length octets) 0 a)))
end_tested form false true long cut at octets found end a b c d e =
    let is_cut : Cut at ≡ end = cc in
    let some : 0 < length octets = not_none octets a in
    let below = ltb-true (length octets) form.head b in
    subst (Ends form at octets) is_cut (refl, some, λ there. omega arith)
end_tested form false false true cut at octets found end a b c d e =
    let is_damaged : Damaged at ≡ end = cc in
    subst (Ends form at octets) is_damaged (refl, ltb-false (length octets) form.head b, ltb-true 262144 (captured_in form octets) c)
end_tested form false false false true at octets found end a b c d e =
    let is_cut : Cut at ≡ end = cc in
    let some : 0 < length octets = not_none octets a in
    let below = ltb-true (length octets - form.head) (captured_in form octets) d in
    subst (Ends form at octets) is_cut (refl, some, λ there. omega arith)
end_tested form false false false false at octets found end a b c d e = cc

end_found : (form : Form) (at : ℕ) (octets : List ℕ) (end : FileEnd) → record_read form at octets ≡ Err end → Ends form at octets end
end_found form at octets end e =
    end_tested form (length octets == 0) (nat_lt (length octets) form.head) (nat_lt 262144 (captured_in form octets))
    (nat_lt (length octets - form.head) (captured_in form octets)) at octets (packet_at form at octets) end refl refl refl refl e

shorter : (form : Form) (at : ℕ) (octets : List ℕ) (packet : PacketAt) (most : ℕ) → 16 ≤ form.head → length octets ≤ suc most
    → record_read form at octets ≡ Ok packet → length (drop (form.head + packet.len) octets) ≤ most
shorter form at octets packet most head few e =
    let t = tested (length octets == 0) (nat_lt (length octets) form.head) (nat_lt 262144 (captured_in form octets))
    (nat_lt (length octets - form.head) (captured_in form octets)) at (packet_at form at octets) packet e in
    let there = ltb-false (length octets) form.head t.head in
    let left = length-drop (form.head + packet.len) octets in
    omega arith

-- what is found behind `before`
record FoundBehind (form : Form) (before : List PacketAt) (at : ℕ) (octets : List ℕ) (found : Records) : Type 0 where
  records : List Record
  left : List ℕ
  text : octets ≡ records_text form records ++ left
  sized : AreRecords form records
  packets : found.packets ≡ before ++ packets_of form at records
  ends : Ends form (at + length (records_text form records)) left found.end

found_none : (form : Form) (before : List PacketAt) (at : ℕ) (octets : List ℕ) (end : FileEnd) → Ends form at octets end
    → FoundBehind form before at octets (record { packets = before; end = end })
found_none form before at octets end ends =
    let place : at ≡ at + 0 = omega arith in
    record {
      records = [];
      left = octets;
      text = refl;
      sized = tt;
      packets = sym (append-nil before);
      ends = subst (λ (k : ℕ). Ends form k octets end) place ends;
    }

found_more : (form : Form) (before : List PacketAt) (at : ℕ) (octets : List ℕ) (packet : PacketAt) (found : Records) → FoundOne form at octets packet
    → FoundBehind form (before ++ packet ∷ []) (at + (form.head + packet.len)) (drop (form.head + packet.len) octets) found → FoundBehind form before at octets found
found_more form before at octets packet found f more =
    let size = length-record form f.one f.is in
    let len : packet.len ≡ length f.one.octets = ap (λ (p : PacketAt). p.len) f.same in
    let all = length-append (record_text form f.one) (records_text form more.records) in
    let place : at + (form.head + packet.len) + length (records_text form more.records) ≡ at + length (record_text form f.one ++ records_text form more.records) = omega arith in
    record {
      records = f.one ∷ more.records;
      left = more.left;
      text = f.text ∙ ap (λ (x : List ℕ). record_text form f.one ++ x) more.text ∙ sym (append_assoc (record_text form f.one) (records_text form more.records) more.left);
      sized = (f.is, more.sized);
      packets = more.packets ∙ append_assoc before (packet ∷ []) (packets_of form (at + (form.head + packet.len)) more.records)
          ∙ ap (λ (k : ℕ). before ++ packet ∷ packets_of form (at + (form.head + k)) more.records) len
          ∙ ap (λ (p : PacketAt). before ++ p ∷ packets_of form (at + (form.head + length f.one.octets)) more.records) f.same;
      ends = subst (λ (k : ℕ). Ends form k more.left found.end) place more.ends;
    }

found_by : (form : Form) (most : ℕ) (before : List PacketAt) (at : ℕ) (octets : List ℕ) (r : Result PacketAt FileEnd) → 16 ≤ form.head → AreOctets octets
    → length octets ≤ suc most → record_read form at octets ≡ r
    → ((packets : List PacketAt) (next : ℕ) (rest : List ℕ) → AreOctets rest → length rest ≤ most → FoundBehind form packets next rest (records_within form most packets next rest))
    → FoundBehind form before at octets
    (joined before (λ (p : PacketAt). records_within form most (before ++ p ∷ []) (at + (form.head + p.len)) (drop (form.head + p.len) octets)) r)
found_by form most before at octets (Ok packet) head o few e behind =
    let one = record_found form at octets packet head o e in
    found_more form before at octets packet
    (records_within form most (before ++ packet ∷ []) (at + (form.head + packet.len)) (drop (form.head + packet.len) octets)) one
    (behind (before ++ packet ∷ []) (at + (form.head + packet.len)) (drop (form.head + packet.len) octets) (AreOctets-drop (form.head + packet.len) octets o)
    (shorter form at octets packet most head few e))
found_by form most before at octets (Err end) head o few e behind = found_none form before at octets end (end_found form at octets end e)

within_found : (form : Form) (most : ℕ) (before : List PacketAt) (at : ℕ) (octets : List ℕ) → 16 ≤ form.head → AreOctets octets → length octets ≤ most
    → FoundBehind form before at octets (records_within form most before at octets)
within_found form zero before at octets head o few = found_none form before at octets Whole (nothing octets few)
within_found form (suc most) before at octets head o few =
    found_by form most before at octets (record_read form at octets) head o few refl
    (λ packets next rest p less. within_found form most packets next rest head p less)

-- what was read is spelled
pub records_found : (form : Form) (at : ℕ) (octets : List ℕ) → 16 ≤ form.head → AreOctets octets → AreRead form at octets (records_read form at octets)
records_found form at octets head o =
    let f = within_found form (length octets) [] at octets head o (omega arith) in
    record { records = f.records; left = f.left; text = f.text; sized = f.sized; packets = f.packets; ends = f.ends }

-- the same of what a reader answered

pub found_in : (form : Form) (at : ℕ) (octets : List ℕ) (r : Result Records NoMemory) → 16 ≤ form.head → AreOctets octets
    → IfOk r (λ found. found ≡ records_read form at octets) → IfOk r (AreRead form at octets)
found_in form at octets (Ok found) head o e = subst (AreRead form at octets) (sym e) (records_found form at octets head o)
found_in form at octets (Err fault) head o e = tt

pub only_in : (form : Form) (at : ℕ) (octets : List ℕ) (r : Result Records NoMemory) (rs : List Record) → 16 ≤ form.head
    → IfOk r (λ found. found ≡ records_read form at octets) → AreRecords form rs → octets ≡ records_text form rs
    → IfOk r (λ found. found ≡ record { packets = packets_of form at rs; end = Whole })
only_in form at octets (Ok found) rs head e are text = e ∙ records_only form at octets rs head are text
only_in form at octets (Err fault) rs head e are text = tt
