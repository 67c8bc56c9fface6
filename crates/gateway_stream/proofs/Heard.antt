-- What is heard of a stream that goes on.
use Rattle.std.proofs.Common.{◌≡◌, ◌∙◌, ap, sym, refl, ℕ, inl, inr, true, false, List, [], ◌∷◌, ◌++◌, length, map, Option, None, Some, Result, Ok, append-nil, subst, arith}
use Rattle.std.proofs.lemmas.List.{map-append}
use Rattle.std.proofs.lemmas.Slice.Eq.{bytes_eq-Decides}
use Rattle.std.specs.Str.{bytes_eq}
use Rattle.ec_links.specs.of_ec_outside.Port.{HeardGram, Hears}
use Rattle.ec_links.specs.of_ec_outside.declared.port.Heard.TheVariants.{From, Quiet, Ended}
use Rattle.ec_links.specs.of_ec_outside.declared.port.Peer.{Peer}
use Rattle.ec_links.specs.of_ec_outside.declared.port.Heard.{Heard}
use Rattle.ec_links.specs.of_ec_outside.declared.port.PortErr.{PortErr}
use Rattle.ec_links.specs.Link.{Gives, GivesPiece}
use Rattle.ec_links.specs.declared.link.LinkErr.{LinkErr}
use Rattle.ec_links.specs.declared.link.Piece.{Piece}
use Rattle.ec_links.specs.declared.link.Piece.TheVariants.{Bytes}
use Rattle.gateway_stream.specs.Cutting.{Cut, missing, is_whole, cut_off, requests_of, behind_of}
use Rattle.gateway_stream.specs.Hearing.{heard_as, heard_of, answer_of}
use Rattle.gateway_stream.proofs.Whole.{either, Extends}
use Rattle.gateway_stream.proofs.Cuts.{uncut, grown, grows, cut_more}

-- the loopback's address, without a port
abbrev pub loopback : Peer
loopback = record { ip = 2130706433; port = 0 }

-- octets that are those behind the requests are told
told : (octets kept : List ℕ) → behind_of octets ≡ kept → heard_of (Some octets) kept ≡ Some (map heard_as (requests_of octets))
told octets kept e = rw ((bytes_eq-Decides (behind_of octets) kept).1 e) refl

-- what a piece that was asked for adds
more : (octets kept piece : List ℕ) → behind_of octets ≡ kept → Extends kept piece → cut_off (length (octets ++ piece)) (octets ++ piece) ≡ grows (cut_off (length octets) octets) piece
more octets kept piece e x = cut_more (length octets) (length (octets ++ piece)) octets piece (cut_off (length octets) octets) refl (omega arith) (omega arith) (rw e x)

unfinished :
    (octets kept piece : List ℕ) → behind_of octets ≡ kept → Extends kept piece → is_whole (kept ++ piece) ≡ false
    → heard_of (Some (octets ++ piece)) (kept ++ piece) ≡ Some (map heard_as (requests_of octets))
unfinished octets kept piece e x n =
    let all : cut_off (length (octets ++ piece)) (octets ++ piece) ≡ grows (cut_off (length octets) octets) piece = more octets kept piece e x in
    let one : grown (behind_of octets) piece ≡ uncut (kept ++ piece) = rw (e, n) refl in
    let behind : behind_of (octets ++ piece) ≡ kept ++ piece = ap (λ cut. cut.behind) all ∙ ap (λ cut. cut.behind) one in
    let requests : requests_of (octets ++ piece) ≡ requests_of octets =
    ap (λ cut. cut.requests) all ∙ ap (λ (cut : Cut). requests_of octets ++ cut.requests) one ∙ append-nil (requests_of octets) in
    told (octets ++ piece) (kept ++ piece) behind ∙ ap (λ requests. Some (map heard_as requests)) requests

finished :
    (octets kept piece : List ℕ) → behind_of octets ≡ kept → Extends kept piece → is_whole (kept ++ piece) ≡ true
    → heard_of (Some (octets ++ piece)) [] ≡ Some (map heard_as (requests_of octets) ++ heard_as (kept ++ piece) ∷ [])
finished octets kept piece e x w =
    let all : cut_off (length (octets ++ piece)) (octets ++ piece) ≡ grows (cut_off (length octets) octets) piece = more octets kept piece e x in
    let one : grown (behind_of octets) piece ≡ record { requests = (kept ++ piece) ∷ []; behind = [] } = rw (e, w) refl in
    let behind : behind_of (octets ++ piece) ≡ [] = ap (λ cut. cut.behind) all ∙ ap (λ cut. cut.behind) one in
    let requests : requests_of (octets ++ piece) ≡ requests_of octets ++ (kept ++ piece) ∷ [] =
    ap (λ cut. cut.requests) all ∙ ap (λ (cut : Cut). requests_of octets ++ cut.requests) one in
    told (octets ++ piece) [] behind
    ∙ ap (λ requests. Some (map heard_as requests)) requests
    ∙ ap (λ grams. Some grams) (map-append heard_as (requests_of octets) ((kept ++ piece) ∷ []))

-- a piece that leaves the next request unfinished is no request
pub hears_none :
    (given given' : Option (List ℕ)) (kept kept' : List ℕ) (most : ℕ) → missing kept ≡ Some most → GivesPiece given given' kept kept' most
    → is_whole kept' ≡ false → Hears (heard_of given kept) (heard_of given' kept') [] (Ok Quiet)
hears_none None given' kept kept' most asked g n = tt
hears_none (Some octets) given' kept kept' most asked g n =
    elim (either (bytes_eq (behind_of octets) kept)) [
      | inr other ↦ rw other tt
      | inl same ↦
          let e : behind_of octets ≡ kept = (bytes_eq-Decides (behind_of octets) kept).0 same in
          let x : Extends kept g.piece = record { most = most; asked = asked; some = g.some; few = g.few } in
          rw (told octets kept e, g.told, g.appended) (unfinished octets kept g.piece e x (rw (sym g.appended) n))
    ]

-- a piece that finishes the next request is heard as that
pub hears_one :
    (given given' : Option (List ℕ)) (kept kept' : List ℕ) (most : ℕ) → missing kept ≡ Some most → GivesPiece given given' kept kept' most
    → is_whole kept' ≡ true → Hears (heard_of given kept) (heard_of given' []) kept' (Ok (From loopback))
hears_one None given' kept kept' most asked g w = tt
hears_one (Some octets) given' kept kept' most asked g w =
    elim (either (bytes_eq (behind_of octets) kept)) [
      | inr other ↦ rw other tt
      | inl same ↦
          let e : behind_of octets ≡ kept = (bytes_eq-Decides (behind_of octets) kept).0 same in
          let x : Extends kept g.piece = record { most = most; asked = asked; some = g.some; few = g.few } in
          rw (told octets kept e, g.told, g.appended) (finished octets kept g.piece e x (rw (sym g.appended) w))
    ]

-- the end is heard as nothing is
pub as_ended : (old new : Option (List HeardGram)) → Hears old new [] (Ok Quiet) → Hears old new [] (Ok Ended)
as_ended None new h = tt
as_ended (Some heard) new h = h

-- nothing was heard, and then something
heard_then :
    (first old new : Option (List HeardGram)) (octets : List ℕ) (answer : Result Heard PortErr) → Hears first old [] (Ok Quiet) → Hears old new octets answer
    → Hears first new octets answer
heard_then None old new octets answer none some = tt
heard_then (Some heard) old new octets answer none some = subst (λ one. Hears one new octets answer) none some

-- nothing was heard, and then a turn answered
pub turned :
    (first old new : Option (List HeardGram)) (octets : List ℕ) (turn : Option (Result Heard PortErr)) (answer : Result Heard PortErr)
    → Hears first old [] (Ok Quiet) → Hears old new octets (answer_of turn) → turn ≡ Some answer → Hears first new octets answer
turned first old new octets turn answer none some e =
    heard_then first old new octets answer none (subst (λ one. Hears old new octets (answer_of one)) e some)

-- nothing was heard, nor in a turn that doesn't answer
pub turned_none :
    (first old new : Option (List HeardGram)) (octets : List ℕ) (turn : Option (Result Heard PortErr))
    → Hears first old [] (Ok Quiet) → Hears old new octets (answer_of turn) → turn ≡ None → Hears first new [] (Ok Quiet)
turned_none None old new octets turn none some e = tt
turned_none (Some heard) old new octets turn none some e =
    let quiet : Hears old new octets (Ok Quiet) = subst (λ one. Hears old new octets (answer_of one)) e some in
    subst (λ one. Hears one new octets (Ok Quiet)) none quiet

-- what a call of a link gave where it answered so
pub gave :
    (given given' : Option (List ℕ)) (kept kept' : List ℕ) (most : ℕ) (answer : Result Piece LinkErr) → Gives given given' kept kept' most answer
    → answer ≡ Ok Bytes → GivesPiece given given' kept kept' most
gave given given' kept kept' most answer g e = subst (λ one. Gives given given' kept kept' most one) e g
