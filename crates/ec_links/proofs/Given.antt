use Rattle.std.proofs.Common.{◌≡◌, ◌∙◌, ap, sym, refl, ℕ, zero, suc, ◌+◌, ◌-◌, ◌<◌, ◌≤◌, Bool, true, false, List, [], ◌∷◌, ◌++◌, length, get_or, take, drop, Some, add-one, append-nil, arith}
use Rattle.std.proofs.Math.Seq.{drop-cons, take-add, take-length}
use Rattle.std.proofs.lemmas.List.{append_assoc, length-drop, length-take-le, take-append-drop}
use Rattle.ec_links.specs.Link.{GivesPiece, bytes_first, octets_of, given_at, left_behind, left_at, is_given, from_piece, piece_first, behind_first}
use Rattle.ec_links.specs.declared.link.LinkItem.{LinkItem}
use Rattle.ec_links.specs.declared.link.LinkItem.TheVariants.{Bytes, Pause}
use Rattle.ec_links.specs.declared.link.Piece.TheVariants as pieces

-- the items left are the next one and those behind it
pub next_item : (list : List LinkItem) (n : ℕ) (item : LinkItem) → n < length list → item ≡ get_or list n item → drop n list ≡ item ∷ drop (n + 1) list
next_item list n item within is = rw (add-one n) (drop-cons list n item within ∙ ap (λ x. x ∷ drop (suc n) list) (sym is))

-- nothing is left out in front
pub left_none : (list : List LinkItem) → left_behind 0 list ≡ list
left_none [] = refl
left_none (Bytes bytes ∷ rest) = refl
left_none (Pause ∷ rest) = refl

-- the octets of the items given: the next item's come behind those before
octets_next :
    (list : List LinkItem) (n : ℕ) (item : LinkItem) (rest : List LinkItem) → drop n list ≡ item ∷ rest
    → octets_of (take (suc n) list) ≡ octets_of (take n list) ++ bytes_first (item ∷ [])
octets_next [] zero item rest e = absurd (cc)
octets_next [] (suc n) item rest e = absurd (cc)
octets_next (Bytes bytes ∷ xs) zero item rest e = let same : item ≡ Bytes bytes = cc in rw same (append-nil bytes)
octets_next (Pause ∷ xs) zero item rest e = let same : item ≡ Pause = cc in rw same refl
octets_next (Bytes bytes ∷ xs) (suc n) item rest e =
    ap (λ octets. bytes ++ octets) (octets_next xs n item rest e) ∙ sym (append_assoc bytes (octets_of (take n xs)) (bytes_first (item ∷ [])))
octets_next (Pause ∷ xs) (suc n) item rest e = octets_next xs n item rest e

none_in : (wait : Bool) (item : LinkItem) (rest : List LinkItem) → is_given wait item ≡ false → bytes_first (item ∷ rest) ≡ []
none_in wait (Bytes []) rest e = refl
none_in wait (Bytes (byte ∷ bytes)) rest e = absurd (cc)
none_in wait Pause rest e = refl

passed_left :
    (wait : Bool) (item : LinkItem) (rest : List LinkItem) → is_given wait item ≡ false
    → from_piece wait (left_behind 0 rest) ≡ from_piece wait (left_behind 0 (item ∷ rest))
passed_left wait (Bytes []) rest e = rw (left_none rest) refl
passed_left wait (Bytes (byte ∷ bytes)) rest e = absurd (cc)
passed_left true Pause rest e = rw (left_none rest) refl
passed_left false Pause rest e = absurd (cc)

-- behind an item that is passed over the same is left, and the same was given
pub record Passes (wait : Bool) (list : List LinkItem) (n from : ℕ) : Type 0 where
  pub none : from ≡ 0
  pub left : from_piece wait (left_at (n + 1) from list) ≡ from_piece wait (left_at n from list)
  pub given : given_at (n + 1) from list ≡ given_at n from list

pub passed :
    (wait : Bool) (list : List LinkItem) (n from : ℕ) (item : LinkItem) → n < length list → item ≡ get_or list n item → is_given wait item ≡ false
    → (0 < from → from < length (bytes_first (drop n list))) → Passes wait list n from
passed wait list n zero item within is e inside =
    let opened : drop n list ≡ item ∷ drop (n + 1) list = next_item list n item within is in
    let octets : octets_of (take (n + 1) list) ≡ octets_of (take n list) ++ bytes_first (item ∷ []) =
    rw (add-one n) (octets_next list n item (drop (n + 1) list) opened) in
    record {
      none = refl;
      left = passed_left wait item (drop (n + 1) list) e ∙ ap (λ left. from_piece wait (left_behind 0 left)) (sym opened);
      given = ap (λ front. front ++ []) (octets ∙ rw (none_in wait item [] e) (append-nil (octets_of (take n list))));
    }
passed wait list n (suc from) item within is e inside =
    let opened : drop n list ≡ item ∷ drop (n + 1) list = next_item list n item within is in
    let none : bytes_first (drop n list) ≡ [] = ap (λ left. bytes_first left) opened ∙ none_in wait item (drop (n + 1) list) e in
    let less : suc from < length (bytes_first (drop n list)) = inside (grind arith) in
    let few : suc from < 0 = rw (sym (ap (λ octets. length octets) none)) less in
    absurd (omega (arith, few))

-- octets that are there are given first
octets_stay : (wait : Bool) (bytes : List ℕ) (rest : List LinkItem) → 0 < length bytes → from_piece wait (Bytes bytes ∷ rest) ≡ Bytes bytes ∷ rest
octets_stay wait [] rest some = absurd (grind arith)
octets_stay wait (byte ∷ bytes) rest some = refl

item_stays :
    (wait : Bool) (from : ℕ) (item : LinkItem) (rest : List LinkItem) → is_given wait item ≡ true → (0 < from → from < length (bytes_first (item ∷ rest)))
    → from_piece wait (left_behind from (item ∷ rest)) ≡ left_behind from (item ∷ rest)
item_stays wait from (Bytes []) rest e inside = absurd (cc)
item_stays wait zero (Bytes (byte ∷ bytes)) rest e inside = refl
item_stays wait (suc from) (Bytes (byte ∷ bytes)) rest e inside =
    let less : suc from < length (byte ∷ bytes) = inside (grind arith) in
    let some : 0 < length (drop from bytes) = rw (length-drop from bytes) (grind arith) in
    octets_stay wait (drop from bytes) rest some
item_stays true from Pause rest e inside = absurd (cc)
item_stays false from Pause rest e inside = refl

-- at an item that is given nothing is passed over
pub stays :
    (wait : Bool) (list : List LinkItem) (n from : ℕ) (item : LinkItem) → n < length list → item ≡ get_or list n item → is_given wait item ≡ true
    → (0 < from → from < length (bytes_first (drop n list))) → from_piece wait (left_at n from list) ≡ left_at n from list
stays wait list n from item within is e inside =
    let opened : drop n list ≡ item ∷ drop (n + 1) list = next_item list n item within is in
    rw opened (item_stays wait from item (drop (n + 1) list) e (λ some. rw (sym (ap (λ left. length (bytes_first left)) opened)) (inside some)))

-- a pause is given
pub record GivesPause (list : List LinkItem) (n from most : ℕ) : Type 0 where
  pub left : left_at (n + 1) from list ≡ behind_first most (left_at n from list)
  pub given : given_at (n + 1) from list ≡ given_at n from list

pub gives_pause :
    (list : List LinkItem) (n from most : ℕ) (item : LinkItem) → n < length list → item ≡ get_or list n item → item ≡ Pause
    → (0 < from → from < length (bytes_first (drop n list))) → GivesPause list n from most
gives_pause list n from most item within is what inside =
    let passes : Passes true list n from = passed true list n from item within is (rw what refl) inside in
    let opened : drop n list ≡ item ∷ drop (n + 1) list = next_item list n item within is in
    record {
      left = rw (passes.none, opened, what) (left_none (drop (n + 1) list));
      given = passes.given;
    }

-- the octets behind the first ones, as far as they go
left_of : (bytes : List ℕ) (from : ℕ) → take (length bytes - from) (drop from bytes) ≡ drop from bytes
left_of bytes from = rw (sym (length-drop from bytes)) (take-length (drop from bytes))

-- octets of an item are given behind those before
gives_piece :
    (given given' piece into into' : List ℕ) (most : ℕ) → 1 ≤ length piece → length piece ≤ most → into' ≡ into ++ piece → given' ≡ given ++ piece
    → GivesPiece (Some given) (Some given') into into' most
gives_piece given given' piece into into' most some few appended told =
    record {
      piece = piece;
      some = some;
      few = few;
      appended = appended;
      told = ap (λ octets. Some octets) told;
    }

-- octets of an item are given, and others of it are left
pub gives_some :
    (list : List LinkItem) (n from most : ℕ) (item : LinkItem) (bytes into into' : List ℕ) → n < length list → item ≡ get_or list n item
    → item ≡ Bytes bytes → 1 ≤ most → most < length (take (length bytes - from) (drop from bytes))
    → into' ≡ into ++ take most (take (length bytes - from) (drop from bytes))
    → GivesPiece (Some (given_at n from list)) (Some (given_at n (from + most) list)) into into' most
gives_some list n from most item bytes into into' within is what some less appended =
    let opened : drop n list ≡ item ∷ drop (n + 1) list = next_item list n item within is in
    let first : bytes_first (drop n list) ≡ bytes = rw (opened, what) refl in
    let less' : most < length (drop from bytes) = rw (sym (left_of bytes from)) less in
    let many : length (take most (drop from bytes)) ≡ most = length-take-le most (drop from bytes) (omega (arith, less')) in
    gives_piece (given_at n from list) (given_at n (from + most) list) (take most (drop from bytes)) into into' most (rw many some)
    (rw many (omega arith)) (appended ∙ ap (λ left. into ++ take most left) (left_of bytes from))
    (rw (first, take-add from most bytes) (sym (append_assoc (octets_of (take n list)) (take from bytes) (take most (drop from bytes)))))

-- the octets of an item that are left are given
pub gives_rest :
    (list : List LinkItem) (n from most : ℕ) (item : LinkItem) (bytes into into' : List ℕ) → n < length list → item ≡ get_or list n item
    → item ≡ Bytes bytes → 1 ≤ length (drop from bytes) → (most < length (take (length bytes - from) (drop from bytes)) → ⊥)
    → into' ≡ into ++ take (length bytes - from) (drop from bytes)
    → GivesPiece (Some (given_at n from list)) (Some (given_at (n + 1) 0 list)) into into' most
gives_rest list n from most item bytes into into' within is what some few appended =
    let opened : drop n list ≡ item ∷ drop (n + 1) list = next_item list n item within is in
    let first : bytes_first (drop n list) ≡ bytes = rw (opened, what) refl in
    let few' : most < length (drop from bytes) → ⊥ = rw (sym (left_of bytes from)) few in
    let octets : octets_of (take (n + 1) list) ≡ octets_of (take n list) ++ bytes =
    rw (add-one n) (octets_next list n item (drop (n + 1) list) opened ∙ ap (λ one. octets_of (take n list) ++ bytes_first (one ∷ [])) what) in
    let whole : octets_of (take n list) ++ bytes ≡ octets_of (take n list) ++ take from bytes ++ drop from bytes =
    ap (λ octets. octets_of (take n list) ++ octets) (sym (take-append-drop from bytes))
    ∙ sym (append_assoc (octets_of (take n list)) (take from bytes) (drop from bytes)) in
    gives_piece (given_at n from list) (given_at (n + 1) 0 list) (drop from bytes) into into' most some (omega (arith, few'))
    (appended ∙ ap (λ left. into ++ left) (left_of bytes from))
    (append-nil (octets_of (take (n + 1) list)) ∙ octets ∙ rw first whole)

-- octets are left of an item that is given
pub some_left :
    (list : List LinkItem) (n from : ℕ) (item : LinkItem) (bytes : List ℕ) → n < length list → item ≡ get_or list n item → item ≡ Bytes bytes
    → (piece_first (left_at n from list) ≡ pieces.Bytes → 1 ≤ length (bytes_first (left_at n from list))) → 1 ≤ length (drop from bytes)
some_left list n from item bytes within is what ready =
    let opened : left_at n from list ≡ Bytes (drop from bytes) ∷ drop (n + 1) list = rw (next_item list n item within is, what) refl in
    rw (sym (ap (λ left. length (bytes_first left)) opened)) (ready (ap (λ left. piece_first left) opened))

-- what is left to be given has octets where it is given as octets
pub has_octets :
    (wait : Bool) (list : List LinkItem) → piece_first (from_piece wait list) ≡ pieces.Bytes → 1 ≤ length (bytes_first (from_piece wait list))
has_octets wait [] e = absurd (cc)
has_octets wait (Bytes [] ∷ rest) e = has_octets wait rest e
has_octets wait (Bytes (byte ∷ bytes) ∷ rest) e = grind arith
has_octets true (Pause ∷ rest) e = has_octets true rest e
has_octets false (Pause ∷ rest) e = absurd (cc)

-- where one waits the first item left is no pause
pub never_quiet : (list : List LinkItem) → piece_first (from_piece true list) ≡ pieces.Quiet → ⊥
never_quiet [] e = absurd (cc)
never_quiet (Bytes [] ∷ rest) e = never_quiet rest e
never_quiet (Bytes (byte ∷ bytes) ∷ rest) e = absurd (cc)
never_quiet (Pause ∷ rest) e = never_quiet rest e
