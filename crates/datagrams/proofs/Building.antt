-- Frames that are built and changed in place.
use Rattle.std.proofs.Common.{◌≡◌, ℕ, ◌+◌, ◌-◌, ◌*◌, ◌^◌, ◌<◌, ◌≤◌, Bool, true, false, List, [], ◌∷◌, ◌++◌, length, take, drop, refl, ap, sym, ◌∙◌, subst, arith, append_assoc, length-append, replicate, append-nil}
use Rattle.std.specs.Prelude.{◌==◌, if◌then◌else◌}
use Rattle.std.proofs.lemmas.Bool.{ne_eqb}
use Rattle.std.proofs.lemmas.List.{drop_at, take_at}
use Rattle.byteorder.specs.Endian.{little_bytes}
use Rattle.ec_fields.specs.Fields.{number_at, number_put, bits_put}
use Rattle.datagrams.specs.declared.head.Head.{Head}
use Rattle.datagrams.specs.Command.{number_of, IsNamed}
use Rattle.datagrams.specs.Datagram.{Datagram, IsSized, IsDatagram, length_word, datagram_text, size_of}
use Rattle.datagrams.specs.Frame.{text_of, Each, MoreButLast, header_text, master_addresses, last_place, saying, chained, marked, closed, frame_text, IsBegun, IsFrame}
use Rattle.ec_fields.proofs.Cells.{two_read}
use Rattle.datagrams.proofs.Spelled.{length-datagram_text, word_fits}

-- two octets written between two lists
pub put_between : (front old rest : List ℕ) (at v : ℕ) → length old ≡ 2 → at ≡ length front
    → number_put 2 (front ++ (old ++ rest)) at v ≡ front ++ (little_bytes 2 v ++ rest)
put_between front old rest at v two is =
    let before : take at (front ++ (old ++ rest)) ≡ front = take_at front (old ++ rest) at (sym is) in
    let whole = length-append front old in
    let behind : drop (at + 2) (front ++ (old ++ rest)) ≡ rest =
    ap (drop (at + 2)) (sym (append_assoc front old rest)) ∙ drop_at (front ++ old) rest (at + 2) (omega arith) in
    rw (before, behind) refl

-- the datagrams with "more" in each
abbrev pub each_more : List Datagram → List Datagram
each_more [] = []
each_more (d ∷ ds) = saying true d ∷ each_more ds

pub text_of-append : (xs ys : List Datagram) → text_of (xs ++ ys) ≡ text_of xs ++ text_of ys
text_of-append [] ys = refl
text_of-append (x ∷ xs) ys =
    ap (λ (t : List ℕ). datagram_text x ++ t) (text_of-append xs ys) ∙ sym (append_assoc (datagram_text x) (text_of xs) (text_of ys))

-- one more behind: all before say "more"
pub chained-append : (ds : List Datagram) (d : Datagram) → chained (ds ++ d ∷ []) ≡ each_more ds ++ chained (d ∷ [])
chained-append [] d = refl
chained-append (x ∷ []) d = refl
chained-append (x ∷ y ∷ ds) d =
    ap (λ (t : List Datagram). saying true x ∷ t) (chained-append (y ∷ ds) d)

-- the place of one more is behind all
pub last_place-append : (at : ℕ) (ds : List Datagram) (d : Datagram) → last_place at (ds ++ d ∷ []) ≡ at + length (text_of (chained ds))
last_place-append at [] d = omega arith
last_place-append at (x ∷ []) d =
    let size = length-datagram_text (saying false x) in
    let all = length-append (datagram_text (saying false x)) [] in
    omega arith
last_place-append at (x ∷ y ∷ ds) d =
    let size = length-datagram_text (saying true x) in
    let all = length-append (datagram_text (saying true x)) (text_of (chained (y ∷ ds))) in
    last_place-append (at + size_of x) (y ∷ ds) d ∙ omega arith

-- the place of the last is within
pub last_place-inside : (at : ℕ) (d : Datagram) (ds : List Datagram) → last_place at (d ∷ ds) + 12 ≤ at + length (text_of (chained (d ∷ ds)))
last_place-inside at d [] =
    let size = length-datagram_text (saying false d) in
    let all = length-append (datagram_text (saying false d)) [] in
    omega arith
last_place-inside at d (e ∷ ds) =
    let size = length-datagram_text (saying true d) in
    let all = length-append (datagram_text (saying true d)) (text_of (chained (e ∷ ds))) in
    let rest = last_place-inside (at + size_of d) e ds in
    omega arith

marked_word : (len reserved : ℕ) (circulating : Bool) → len < 2 ^ 11 → reserved < 2 ^ 3
    → bits_put (len + 2048 * reserved + (if circulating then 16384 else 0) + 0) 15 1 1
    ≡ len + 2048 * reserved + (if circulating then 16384 else 0) + 32768
marked_word len reserved true few three = omega arith
marked_word len reserved false few three = omega arith

number_between : (front rest : List ℕ) (at v : ℕ) → at ≡ length front → v < 2 ^ 16 → number_at 2 (front ++ (little_bytes 2 v ++ rest)) at ≡ v
number_between front rest at v is fits =
    rw (drop_at front (little_bytes 2 v ++ rest) at (sym is)) (two_read v fits)

word_put : (front six tail : List ℕ) (at w0 w1 : ℕ) → length six ≡ 6 → at ≡ length front → w0 < 2 ^ 16 → bits_put w0 15 1 1 ≡ w1
    → number_put 2 (front ++ (six ++ (little_bytes 2 w0 ++ tail))) (at + 6)
    (bits_put (number_at 2 (front ++ (six ++ (little_bytes 2 w0 ++ tail))) (at + 6)) 15 1 1)
    ≡ front ++ (six ++ (little_bytes 2 w1 ++ tail))
word_put front six tail at w0 w1 six_long is fits e =
    let len = length-append front six in
    let place : at + 6 ≡ length (front ++ six) = omega arith in
    let word = number_between (front ++ six) tail (at + 6) w0 place fits in
    let put = put_between (front ++ six) (little_bytes 2 w0) tail (at + 6) w1 refl place in
    let shape = λ (t : List ℕ). append_assoc front six t in
    rw (← append_assoc front six (little_bytes 2 w0 ++ tail), word, e, put) (shape (little_bytes 2 w1 ++ tail))

-- the six octets before the length word
abbrev six_of : Head → List ℕ
six_of h = number_of h.command ∷ h.index ∷ (little_bytes 2 h.adp ++ little_bytes 2 h.ado)

one_marked : (front behind : List ℕ) (at : ℕ) (d : Datagram) → at ≡ length front → IsSized d
    → number_put 2 (front ++ (datagram_text (saying false d) ++ behind)) (at + 6)
    (bits_put (number_at 2 (front ++ (datagram_text (saying false d) ++ behind)) (at + 6)) 15 1 1)
    ≡ front ++ (datagram_text (saying true d) ++ behind)
one_marked front behind at d is s =
    word_put front (six_of d.head) (little_bytes 2 d.head.interrupt ++ ((d.body ++ little_bytes 2 d.head.counter) ++ behind)) at
    (length_word d.reserved (saying false d).head) (length_word d.reserved (saying true d).head) refl is
    (word_fits d.reserved (saying false d).head s.len s.reserved) (marked_word d.head.len d.reserved d.head.circulating s.len s.reserved)

-- "more" set in the last of datagrams that stand behind `front`
pub more_put : (front : List ℕ) (at : ℕ) (d : Datagram) (ds : List Datagram) → at ≡ length front → Each IsSized (d ∷ ds)
    → number_put 2 (front ++ text_of (chained (d ∷ ds))) (last_place at (d ∷ ds) + 6)
    (bits_put (number_at 2 (front ++ text_of (chained (d ∷ ds))) (last_place at (d ∷ ds) + 6)) 15 1 1)
    ≡ front ++ text_of (each_more (d ∷ ds))
more_put front at d [] is each = one_marked front [] at d is each.0
more_put front at d (e ∷ ds) is each =
    let size = length-datagram_text (saying true d) in
    let all = length-append front (datagram_text (saying true d)) in
    let rest = more_put (front ++ datagram_text (saying true d)) (at + size_of d) e ds (omega arith) each.1 in
    let shape = append_assoc front (datagram_text (saying true d)) (text_of (chained (e ∷ ds))) in
    let shape' = append_assoc front (datagram_text (saying true d)) (text_of (each_more (e ∷ ds))) in
    subst (λ (x : List ℕ). number_put 2 x (last_place (at + size_of d) (e ∷ ds) + 6)
    (bits_put (number_at 2 x (last_place (at + size_of d) (e ∷ ds) + 6)) 15 1 1) ≡ front ++ (datagram_text (saying true d) ++ text_of (each_more (e ∷ ds))))
    shape (rest ∙ shape')

-- the place of the last is at least that of the first
last_place-above : (at : ℕ) (d : Datagram) (ds : List Datagram) → at ≤ last_place at (d ∷ ds)
last_place-above at d [] = omega arith
last_place-above at d (e ∷ ds) =
    let rest = last_place-above (at + size_of d) e ds in
    omega arith

-- the sixteen octets of a header
abbrev sixteen : ℕ → List ℕ
sixteen word = master_addresses ++ header_text word

marked-at : (octets : List ℕ) (place : ℕ) → number_at 2 octets 14 ≡ place → 0 < place
    → marked octets ≡ number_put 2 octets (place + 6) (bits_put (number_at 2 octets (place + 6)) 15 1 1)
marked-at octets place is some =
    let no : (place == 0) ≡ false = ne_eqb place 0 (λ e. omega arith) in
    rw (is, no) refl

-- "more" set in the last of a frame that was begun
marked_begun : (ds : List Datagram) → Each IsSized ds → 16 + length (text_of (chained ds)) ≤ 1514
    → marked (sixteen (last_place 16 ds) ++ text_of (chained ds)) ≡ sixteen (last_place 16 ds) ++ text_of (each_more ds)
marked_begun [] each fits = refl
marked_begun (d ∷ ds) each fits =
    let inside = last_place-inside 16 d ds in
    let above = last_place-above 16 d ds in
    let word = two_read (last_place 16 (d ∷ ds)) (omega arith) in
    marked-at (sixteen (last_place 16 (d ∷ ds)) ++ text_of (chained (d ∷ ds))) (last_place 16 (d ∷ ds)) word (omega arith)
    ∙ more_put (sixteen (last_place 16 (d ∷ ds))) 16 d ds refl each

pub Each-append : (P : Datagram → Type 0) (ds : List Datagram) (d : Datagram) → Each P ds → P d → Each P (ds ++ d ∷ [])
Each-append P [] d each one = (one, tt)
Each-append P (x ∷ xs) d each one = (each.0, Each-append P xs d each.1 one)

pub added : (ds : List Datagram) (d : Datagram) → saying false d ≡ d
    → text_of (chained (ds ++ d ∷ [])) ≡ text_of (each_more ds) ++ datagram_text d
added ds d own =
    ap text_of (chained-append ds d) ∙ text_of-append (each_more ds) (saying false d ∷ [])
    ∙ ap (λ (t : List ℕ). text_of (each_more ds) ++ t) (append-nil (datagram_text (saying false d)) ∙ ap datagram_text own)

-- how long a frame that was begun is
pub begun_length : (octets : List ℕ) (ds : List Datagram) → IsBegun octets ds → length octets ≡ 16 + length (text_of (chained ds))
begun_length octets ds b =
    let raw = ap length b.text in
    omega arith

pub length-each_more : (ds : List Datagram) → length (text_of (each_more ds)) ≡ length (text_of (chained ds))
length-each_more [] = refl
length-each_more (d ∷ []) =
    let a = length-append (datagram_text (saying true d)) [] in
    let b = length-append (datagram_text (saying false d)) [] in
    let c = length-datagram_text (saying true d) in
    let e = length-datagram_text (saying false d) in
    omega arith
length-each_more (d ∷ e ∷ ds) =
    let a = length-append (datagram_text (saying true d)) (text_of (each_more (e ∷ ds))) in
    let b = length-append (datagram_text (saying true d)) (text_of (chained (e ∷ ds))) in
    let rest = length-each_more (e ∷ ds) in
    omega arith

-- a datagram added to a frame that was begun
pub IsBegun-add : (octets new : List ℕ) (ds : List Datagram) (d : Datagram) → IsBegun octets ds → length octets + size_of d ≤ 1514
    → new ≡ number_put 2 (marked octets) 14 (length octets) ++ datagram_text d
    → saying false d ≡ d → IsSized d → IsBegun new (ds ++ d ∷ [])
IsBegun-add octets new ds d b fits is own sized =
    let long = begun_length octets ds b in
    let place = last_place-append 16 ds d in
    let here : length octets ≡ last_place 16 (ds ++ d ∷ []) = long ∙ sym place in
    let marks = marked_begun ds b.sized (omega arith) in
    let put : number_put 2 (marked octets) 14 (length octets) ≡ sixteen (last_place 16 (ds ++ d ∷ [])) ++ text_of (each_more ds) =
    ap (λ (n : ℕ). number_put 2 (marked octets) 14 n) here
    ∙ ap (λ (x : List ℕ). number_put 2 (marked x) 14 (last_place 16 (ds ++ d ∷ []))) b.text
    ∙ ap (λ (x : List ℕ). number_put 2 x 14 (last_place 16 (ds ++ d ∷ []))) marks in
    let text = ap (λ (t : List ℕ). t ++ datagram_text d) put
    ∙ append_assoc (sixteen (last_place 16 (ds ++ d ∷ []))) (text_of (each_more ds)) (datagram_text d)
    ∙ ap (λ (t : List ℕ). sixteen (last_place 16 (ds ++ d ∷ [])) ++ t) (sym (added ds d own)) in
    let many = length-each_more ds in
    let size = length-datagram_text d in
    let behind = length-append (text_of (each_more ds)) (datagram_text d) in
    let first = ap length (is ∙ ap (λ (t : List ℕ). t ++ datagram_text d) put
    ∙ append_assoc (sixteen (last_place 16 (ds ++ d ∷ []))) (text_of (each_more ds)) (datagram_text d)) in
    record {
      text = is ∙ text;
      sized = Each-append IsSized ds d b.sized sized;
      fits = omega arith;
    }

-- what the length word of a frame that was begun says is within
pub IsBegun-inside : (octets : List ℕ) (ds : List Datagram) → IsBegun octets ds
    → number_at 2 octets 14 + 8 ≤ length octets
IsBegun-inside octets [] b =
    let word : number_at 2 octets 14 ≡ 0 = ap (λ (t : List ℕ). number_at 2 t 14) b.text in
    let long = begun_length octets [] b in
    omega arith
IsBegun-inside octets (d ∷ ds) b =
    let fits = b.fits in
    let long = begun_length octets (d ∷ ds) b in
    let inside = last_place-inside 16 d ds in
    let word = two_read (last_place 16 (d ∷ ds)) (omega arith) in
    let is : number_at 2 octets 14 ≡ last_place 16 (d ∷ ds) = ap (λ (t : List ℕ). number_at 2 t 14) b.text ∙ word in
    omega arith

-- a finished frame

sized_saying : (m : Bool) (d : Datagram) → IsSized d → IsSized (saying m d)
sized_saying m d s =
    let h = s.head in
    record {
      head = record { index = h.index; adp = h.adp; ado = h.ado; interrupt = h.interrupt; counter = h.counter };
      reserved = s.reserved;
      len = s.len;
      body = s.body;
    }

pub Each-chained : (ds : List Datagram) → Each IsSized ds → Each (λ d. IsNamed d.head.command) ds → Each IsDatagram (chained ds)
Each-chained [] sized named = tt
Each-chained (d ∷ []) sized named = (record { sized = sized_saying false d sized.0; named = named.0 }, tt)
Each-chained (d ∷ e ∷ ds) sized named =
    (record { sized = sized_saying true d sized.0; named = named.0 }, Each-chained (e ∷ ds) sized.1 named.1)

MoreButLast-chained : (ds : List Datagram) → 1 ≤ length ds → MoreButLast (chained ds)
MoreButLast-chained [] some = absurd (omega arith)
MoreButLast-chained (d ∷ []) some = refl
MoreButLast-chained (d ∷ e ∷ []) some = (refl, refl)
MoreButLast-chained (d ∷ e ∷ f ∷ ds) some = (refl, MoreButLast-chained (e ∷ f ∷ ds) (omega arith))

-- what a finished frame is
pub closed_text : (octets : List ℕ) (ds : List Datagram) → IsBegun octets ds → closed octets ≡ frame_text (chained ds)
closed_text octets ds b =
    let long = begun_length octets ds b in
    let size : 4096 + (length octets - 16) ≡ length (text_of (chained ds)) + 4096 = omega arith in
    ap (λ (w : ℕ). number_put 2 octets 14 w ++ replicate (60 - length octets) 0) size
    ∙ ap (λ (n : ℕ). number_put 2 octets 14 (length (text_of (chained ds)) + 4096) ++ replicate (60 - n) 0) long
    ∙ ap (λ (x : List ℕ). number_put 2 x 14 (length (text_of (chained ds)) + 4096) ++ replicate (60 - (16 + length (text_of (chained ds)))) 0) b.text

-- what is finished reads as what was added
pub IsFrame-finished : (octets new : List ℕ) (ds : List Datagram) → IsBegun octets ds → new ≡ closed octets
    → 1 ≤ length ds → Each (λ d. IsNamed d.head.command) ds → IsFrame new (chained ds)
IsFrame-finished octets new ds b is some named =
    let fits = b.fits in
    let long = begun_length octets ds b in
    let none : length (text_of (chained ds)) + 4096 ≡ length (text_of (chained ds)) + 2048 * 0 + 4096 = omega arith in
    record {
      addresses = master_addresses;
      reserved = 0;
      size = length (text_of (chained ds));
      padding = replicate (60 - (16 + length (text_of (chained ds)))) 0;
      text = is ∙ closed_text octets ds b
          ∙ ap (λ (w : ℕ). master_addresses ++ (header_text w ++ (text_of (chained ds) ++ replicate (60 - (16 + length (text_of (chained ds)))) 0))) none;
      twelve = refl;
      one_bit = omega arith;
      eleven_bits = omega arith;
      takes_in = omega arith;
      is_there = omega arith;
      datagrams = Each-chained ds b.sized named;
      chain = MoreButLast-chained ds some;
    }
