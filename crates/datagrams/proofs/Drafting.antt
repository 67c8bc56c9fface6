-- What was added to a frame reads back from its octets.
use Rattle.std.proofs.Common.{◌≡◌, ℕ, zero, suc, ◌+◌, ◌≤◌, Bool, true, false, List, [], ◌∷◌, ◌++◌, length, take, drop, refl, ap, sym, ◌∙◌, subst, arith, length-append}
use Rattle.std.specs.Prelude.{if◌then◌else◌}
use Rattle.std.proofs.lemmas.List.{take_at}
use Rattle.byteorder.specs.Endian.{little_bytes}
use Rattle.ec_fields.specs.Fields.{number_at, bits_of}
use Rattle.ec_fields.proofs.Cells.{two_read}
use Rattle.datagrams.specs.Command.{IsNamed}
use Rattle.datagrams.specs.Datagram.{Datagram, IsDatagram, length_word, datagram_text, size_of, body_length, is_cut, datagram_here}
use Rattle.datagrams.specs.Frame.{text_of, Each, saying, chained, IsBegun}
use Rattle.datagrams.specs.Draft.{drafted_within, drafted, IsDraft, IsDrafted}
use Rattle.datagrams.proofs.Spelled.{word_reserved, word_fits, datagram_text-behind, body_length-text, head_read-text, is_cut-text, drop-text, length-datagram_text}
use Rattle.datagrams.proofs.Building.{added, Each-append, Each-chained, begun_length, length-each_more, each_more}

-- the datagrams as they are added: none says "more"
abbrev quiet : List Datagram → List Datagram
quiet [] = []
quiet (d ∷ ds) = saying false d ∷ quiet ds

quiet-append : (xs ys : List Datagram) → quiet (xs ++ ys) ≡ quiet xs ++ quiet ys
quiet-append [] ys = refl
quiet-append (x ∷ xs) ys = ap (λ (t : List Datagram). saying false x ∷ t) (quiet-append xs ys)

quiet_chained : (ds : List Datagram) → quiet (chained ds) ≡ quiet ds
quiet_chained [] = refl
quiet_chained (d ∷ []) = refl
quiet_chained (d ∷ e ∷ ds) = ap (λ (t : List Datagram). saying false d ∷ t) (quiet_chained (e ∷ ds))

quiet_if : (cut : Bool) (d : Datagram) (ds : List Datagram) → quiet ds ≡ ds
    → quiet (if cut then [] else saying false d ∷ ds) ≡ (if cut then [] else saying false d ∷ ds)
quiet_if true d ds e = refl
quiet_if false d ds e = ap (λ (t : List Datagram). saying false d ∷ t) e

quiet_drafted : (most : ℕ) (octets : List ℕ) → quiet (drafted_within most octets) ≡ drafted_within most octets
quiet_drafted zero octets = refl
quiet_drafted (suc most) octets =
    quiet_if (is_cut octets) (datagram_here octets) _ (quiet_drafted most (drop (12 + body_length octets) octets))

-- a spelled datagram stands where its octets begin
here_text : (d : Datagram) (rest : List ℕ) → IsDatagram d → datagram_here (datagram_text d ++ rest) ≡ d
here_text d rest is =
    let s = is.sized in
    let head = head_read-text d rest is in
    let len = body_length-text d rest s in
    let word : number_at 2 (datagram_text d ++ rest) 6 ≡ length_word d.reserved d.head =
    two_read (length_word d.reserved d.head) (word_fits d.reserved d.head s.len s.reserved) in
    let reserved : bits_of (number_at 2 (datagram_text d ++ rest) 6) 11 3 ≡ d.reserved =
    ap (λ (w : ℕ). bits_of w 11 3) word ∙ word_reserved d.reserved d.head s.len s.reserved in
    let behind : drop 10 (datagram_text d ++ rest) ≡ d.body ++ (little_bytes 2 d.head.counter ++ rest) =
    ap (drop 10) (datagram_text-behind d rest) in
    let body : take (body_length (datagram_text d ++ rest)) (drop 10 (datagram_text d ++ rest)) ≡ d.body =
    ap (λ (n : ℕ). take n (drop 10 (datagram_text d ++ rest))) len ∙ ap (take d.head.len) behind
    ∙ take_at d.body (little_bytes 2 d.head.counter ++ rest) d.head.len s.body in
    λ i. record { head = head i; reserved = reserved i; body = body i }

-- spelled datagrams read back as they were added
drafted_text : (most : ℕ) (ds : List Datagram) → length (text_of ds) ≤ most → Each IsDatagram ds → drafted_within most (text_of ds) ≡ quiet ds
drafted_text zero [] fits each = refl
drafted_text (suc most) [] fits each = refl
drafted_text zero (d ∷ ds) fits each =
    absurd (omega (arith, length-append (datagram_text d) (text_of ds), length-datagram_text d))
drafted_text (suc most) (d ∷ ds) fits each =
    let octets : List ℕ = datagram_text d ++ text_of ds in
    let whole = is_cut-text d (text_of ds) each.0 in
    let here = here_text d (text_of ds) each.0 in
    let len = body_length-text d (text_of ds) each.0.sized in
    let behind = ap (λ (n : ℕ). drop (12 + n) octets) len ∙ drop-text d (text_of ds) each.0 in
    let size = length-append (datagram_text d) (text_of ds) in
    let own = length-datagram_text d in
    let rest = drafted_text most ds (omega arith) each.1 in
    ap (λ (b : Bool). if b then [] else saying false (datagram_here octets) ∷ drafted_within most (drop (12 + body_length octets) octets)) whole
    ∙ ap (λ (e : Datagram). saying false e ∷ drafted_within most (drop (12 + body_length octets) octets)) here
    ∙ ap (λ (t : List ℕ). saying false d ∷ drafted_within most t) behind
    ∙ ap (λ (t : List Datagram). saying false d ∷ t) rest

drafted_begun : (octets : List ℕ) (ds : List Datagram) → IsBegun octets ds → Each (λ d. IsNamed d.head.command) ds → drafted octets ≡ quiet ds
drafted_begun octets ds b named =
    let behind : drop 16 octets ≡ text_of (chained ds) = ap (drop 16) b.text in
    let long = begun_length octets ds b in
    ap (drafted_within (length octets)) behind
    ∙ drafted_text (length octets) (chained ds) (omega arith) (Each-chained ds b.sized named)
    ∙ quiet_chained ds

-- a frame that was begun is a draft without a datagram
pub draft_begun : (octets : List ℕ) → IsBegun octets [] → (drafted octets ≡ []) × IsDraft octets
draft_begun octets b =
    let none = drafted_begun octets [] b tt in
    (none, record { begun = subst (λ (t : List Datagram). IsBegun octets t) (sym none) b; named = subst (Each (λ d. IsNamed d.head.command)) (sym none) tt })

-- and one with a datagram more
pub draft_added : (old new : List ℕ) (d : Datagram) → saying false d ≡ d → IsDraft old → IsNamed d.head.command
    → IsBegun new (drafted old ++ d ∷ []) → IsDrafted old new d
draft_added old new d own draft named b =
    let each = Each-append (λ d. IsNamed d.head.command) (drafted old) d draft.named named in
    let is : drafted new ≡ drafted old ++ d ∷ [] =
    drafted_begun new (drafted old ++ d ∷ []) b each ∙ quiet-append (drafted old) (d ∷ [])
    ∙ ap (λ (t : List Datagram). t ++ quiet (d ∷ [])) (quiet_drafted (length old) (drop 16 old))
    ∙ ap (λ (e : Datagram). drafted old ++ e ∷ []) own in
    record {
      draft = record {
        begun = subst (λ (t : List Datagram). IsBegun new t) (sym is) b;
        named = subst (Each (λ d. IsNamed d.head.command)) (sym is) each;
      };
      added = is;
    }

-- how long a frame is with a datagram more
pub added_length : (octets new : List ℕ) (ds : List Datagram) (d : Datagram) → IsBegun octets ds → IsBegun new (ds ++ d ∷ [])
    → saying false d ≡ d → length new ≡ length octets + size_of d
added_length octets new ds d b b' own =
    let before = begun_length octets ds b in
    let now = begun_length new (ds ++ d ∷ []) b' in
    let text = ap length (added ds d own) in
    let parts = length-append (text_of (each_more ds)) (datagram_text d) in
    let many = length-each_more ds in
    let size = length-datagram_text d in
    omega arith
