-- A stream that goes on: what its requests become by octets that were asked for.
use Rattle.std.proofs.Common.{◌≡◌, ◌∙◌, ap, sym, refl, ℕ, zero, suc, ◌+◌, ◌-◌, ◌≤◌, inl, inr, true, false, if◌then◌else◌, List, [], ◌∷◌, ◌++◌, length, take, drop, arith}
use Rattle.std.proofs.lemmas.List.{length-append, length-drop, take-append-le, drop-append-le}
use Rattle.std.proofs.Math.Seq.{take-length, drop-length}
use Rattle.gateway_stream.specs.Cutting.{Cut, whole_of, is_header, is_whole, with_first, cut_off}
use Rattle.gateway_stream.proofs.Whole.{either, header_same, Whole, whole_is, is_whole_when, Extends, whole_exact}

-- nothing is cut off
abbrev pub uncut : List ℕ → Cut
uncut octets = record { requests = []; behind = octets }

-- behind octets that were asked for, one request is whole or none, and nothing stands behind it
abbrev pub grown : List ℕ → List ℕ → Cut
grown kept piece = if is_whole (kept ++ piece) then record { requests = (kept ++ piece) ∷ []; behind = [] } else uncut (kept ++ piece)

-- requests and the octets behind them, and a piece more
abbrev pub grows : Cut → List ℕ → Cut
grows c piece = record { requests = c.requests ++ (grown c.behind piece).requests; behind = (grown c.behind piece).behind }

cut_nothing : (k : ℕ) → cut_off k [] ≡ uncut []
cut_nothing zero = refl
cut_nothing (suc k) = refl

cut_one : (k : ℕ) (octets : List ℕ) → is_whole octets ≡ true → whole_of octets ≡ length octets → cut_off (suc k) octets ≡ record { requests = octets ∷ []; behind = [] }
cut_one k octets w e = rw (w, e, take-length octets, drop-length octets, cut_nothing k) refl

cut_none : (k : ℕ) (octets : List ℕ) → is_whole octets ≡ false → cut_off k octets ≡ uncut octets
cut_none zero octets n = refl
cut_none (suc k) octets n = rw n refl

-- the octets that are kept, and a piece more
cut_kept : (k : ℕ) (kept piece : List ℕ) → length (kept ++ piece) ≤ k → Extends kept piece → cut_off k (kept ++ piece) ≡ grown kept piece
cut_kept zero kept piece few x =
    let some : 1 ≤ length piece = x.some in
    let long : length (kept ++ piece) ≡ length kept + length piece = length-append kept piece in
    absurd (omega (arith, some, long, few))
cut_kept (suc k) kept piece few x =
    elim (either (is_whole (kept ++ piece))) [
      | inl w ↦ cut_one k (kept ++ piece) w (whole_exact kept piece x w) ∙ rw w refl
      | inr n ↦ cut_none (suc k) (kept ++ piece) n ∙ rw n refl
    ]

kept_only :
    (k : ℕ) (octets piece : List ℕ) (c : Cut) → c ≡ uncut octets → length (octets ++ piece) ≤ k → Extends c.behind piece → cut_off k (octets ++ piece) ≡ grows c piece
kept_only k octets piece c e few x =
    let x' : Extends octets piece = rw (sym (ap (λ cut. cut.behind) e)) x in
    cut_kept k octets piece few x' ∙ rw e refl

-- a request at the front stays there
cut_opened :
    (k' : ℕ) (octets piece : List ℕ) (rest : Cut) → is_whole octets ≡ true → cut_off k' (drop (whole_of octets) octets ++ piece) ≡ rest
    → cut_off (suc k') (octets ++ piece) ≡ with_first (take (whole_of octets) octets) rest
cut_opened k' octets piece rest w e =
    let here : Whole octets = whole_is octets w in
    let same : (is_header (octets ++ piece) ≡ is_header octets) × (whole_of (octets ++ piece) ≡ whole_of octets) = header_same octets piece here.two in
    let two : 2 ≤ length octets = here.two in
    let fits : whole_of octets ≤ length octets = here.fits in
    let long : length (octets ++ piece) ≡ length octets + length piece = length-append octets piece in
    let there : Whole (octets ++ piece) =
    record { two = omega (arith, two, long); ok = same.0 ∙ here.ok; fits = rw same.1 (omega (arith, fits, long)) } in
    let front : take (whole_of octets) (octets ++ piece) ≡ take (whole_of octets) octets = take-append-le (whole_of octets) octets piece fits in
    let back : drop (whole_of octets) (octets ++ piece) ≡ drop (whole_of octets) octets ++ piece = drop-append-le (whole_of octets) octets piece fits in
    let opened : cut_off (suc k') (octets ++ piece) ≡ with_first (take (whole_of octets) octets) (cut_off k' (drop (whole_of octets) octets ++ piece)) =
    rw (is_whole_when (octets ++ piece) there, same.1, front, back) refl in
    opened ∙ ap (λ cut. with_first (take (whole_of octets) octets) cut) e

cut_first :
    (k k' : ℕ) (octets piece : List ℕ) (c : Cut) → cut_off (suc k) octets ≡ c → is_whole octets ≡ true
    → cut_off k' (drop (whole_of octets) octets ++ piece) ≡ grows (cut_off k (drop (whole_of octets) octets)) piece
    → cut_off (suc k') (octets ++ piece) ≡ grows c piece
cut_first k k' octets piece c e w rest =
    let before : with_first (take (whole_of octets) octets) (cut_off k (drop (whole_of octets) octets)) ≡ c = rw w refl ∙ e in
    cut_opened k' octets piece (grows (cut_off k (drop (whole_of octets) octets)) piece) w rest ∙ ap (λ cut. grows cut piece) before

-- WHAT A PIECE ADDS, to however many requests
pub cut_more :
    (k k' : ℕ) (octets piece : List ℕ) (c : Cut) → cut_off k octets ≡ c → length octets ≤ k → length (octets ++ piece) ≤ k' → Extends c.behind piece
    → cut_off k' (octets ++ piece) ≡ grows c piece
cut_more zero k' [] piece c e few more x = kept_only k' [] piece c (sym e) more x
cut_more zero k' (y ∷ ys) piece c e few more x = absurd (grind arith)
cut_more (suc k) zero octets piece c e few more x =
    let some : 1 ≤ length piece = x.some in
    let long : length (octets ++ piece) ≡ length octets + length piece = length-append octets piece in
    absurd (omega (arith, some, long, more))
cut_more (suc k) (suc k') octets piece c e few more x =
    elim (either (is_whole octets)) [
      | inr n ↦ kept_only (suc k') octets piece c (sym e ∙ cut_none (suc k) octets n) more x
      | inl w ↦
          let here : Whole octets = whole_is octets w in
          let fits : whole_of octets ≤ length octets = here.fits in
          let two : 2 ≤ whole_of octets = grind arith in
          let cut : Cut = cut_off k (drop (whole_of octets) octets) in
          let opened : cut_off (suc k) octets ≡ with_first (take (whole_of octets) octets) cut = rw w refl in
          let kept : cut.behind ≡ c.behind = ap (λ (one : Cut). one.behind) (sym opened ∙ e) in
          let left : length (drop (whole_of octets) octets) ≡ length octets - whole_of octets = length-drop (whole_of octets) octets in
          let long : length (octets ++ piece) ≡ length octets + length piece = length-append octets piece in
          let long' : length (drop (whole_of octets) octets ++ piece) ≡ length (drop (whole_of octets) octets) + length piece =
          length-append (drop (whole_of octets) octets) piece in
          cut_first k k' octets piece c e w
          (cut_more k k' (drop (whole_of octets) octets) piece cut refl (omega (arith, few, fits, two, left)) (omega (arith, more, fits, two, left, long, long'))
          (rw kept x))
    ]

-- ---- whole requests, and octets behind them

-- requests of octets, and behind them what is cut off others
abbrev pub followed : Cut → Cut → Cut
followed c d = record { requests = c.requests ++ d.requests; behind = d.behind }

-- what is cut off octets, by however many requests at most
abbrev pub Fixed : List ℕ → Cut → Type 0
Fixed piece d = (k : ℕ) → length piece ≤ k → cut_off k piece ≡ d

-- one request
pub request_fixed : (piece : List ℕ) → is_whole piece ≡ true → whole_of piece ≡ length piece → Fixed piece (record { requests = piece ∷ []; behind = [] })
request_fixed piece w e zero few =
    let two : 2 ≤ length piece = (whole_is piece w).two in
    absurd (omega (arith, two, few))
request_fixed piece w e (suc k) few = cut_one k piece w e

-- less than one
pub part_fixed : (piece : List ℕ) → is_whole piece ≡ false → Fixed piece (uncut piece)
part_fixed piece n k few = cut_none k piece n

-- WHAT STANDS BEHIND WHOLE REQUESTS, to however many of them
pub cut_whole :
    (k k' : ℕ) (octets piece : List ℕ) (d : Cut) → (cut_off k octets).behind ≡ [] → Fixed piece d → length octets ≤ k → length (octets ++ piece) ≤ k'
    → cut_off k' (octets ++ piece) ≡ followed (cut_off k octets) d
cut_whole zero k' [] piece d e fixed few more = fixed k' more
cut_whole (suc k) k' [] piece d e fixed few more = fixed k' more
cut_whole zero k' (y ∷ ys) piece d e fixed few more = absurd (grind arith)
cut_whole (suc k) zero (y ∷ ys) piece d e fixed few more = absurd (grind arith)
cut_whole (suc k) (suc k') (y ∷ ys) piece d e fixed few more =
    let octets : List ℕ = y ∷ ys in
    elim (either (is_whole octets)) [
      | inr n ↦
          let none : octets ≡ [] = sym (ap (λ (cut : Cut). cut.behind) (cut_none (suc k) octets n)) ∙ e in
          absurd cc
      | inl w ↦
          let here : Whole octets = whole_is octets w in
          let fits : whole_of octets ≤ length octets = here.fits in
          let two : 2 ≤ whole_of octets = grind arith in
          let cut : Cut = cut_off k (drop (whole_of octets) octets) in
          let opened : cut_off (suc k) octets ≡ with_first (take (whole_of octets) octets) cut = rw w refl in
          let kept : cut.behind ≡ [] = ap (λ (one : Cut). one.behind) (sym opened) ∙ e in
          let left : length (drop (whole_of octets) octets) ≡ length octets - whole_of octets = length-drop (whole_of octets) octets in
          let long : length (octets ++ piece) ≡ length octets + length piece = length-append octets piece in
          let long' : length (drop (whole_of octets) octets ++ piece) ≡ length (drop (whole_of octets) octets) + length piece =
          length-append (drop (whole_of octets) octets) piece in
          cut_opened k' octets piece (followed cut d) w
          (cut_whole k k' (drop (whole_of octets) octets) piece d kept fixed (omega (arith, few, fits, two, left)) (omega (arith, more, fits, two, left, long, long')))
          ∙ ap (λ (one : Cut). followed one d) (sym opened)
    ]
