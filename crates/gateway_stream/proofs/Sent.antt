-- What is sent on a stream that goes on.
use Rattle.std.proofs.Common.{◌≡◌, ◌≢◌, ◌∙◌, ◌⊎◌, ap, sym, refl, ℕ, ◌+◌, ◌≤◌, inl, inr, Bool, true, false, ◌==◌, ◌&&◌, nat_lt, if◌then◌else◌, List, [], ◌∷◌, ◌++◌, length, take, drop, map, Option, None, Some, Result, Ok, Err, append-nil, subst, arith}
use Rattle.std.proofs.Math.Seq.{take-length}
use Rattle.std.proofs.lemmas.List.{map-append, length-append, take-append-drop, take-append-le}
use Rattle.std.proofs.lemmas.Slice.Eq.{bytes_eq-Decides}
use Rattle.std.specs.Str.{bytes_eq}
use Rattle.ec_links.specs.of_ec_outside.Port.{Sends}
use Rattle.ec_links.specs.of_ec_outside.declared.port.Peer.{Peer}
use Rattle.ec_links.specs.of_ec_outside.declared.port.PortErr.{PortErr}
use Rattle.ec_links.specs.of_ec_outside.declared.port.PortErr.TheVariants as errors
use Rattle.ec_links.specs.of_ec_outside.declared.port.SentGram.{SentGram}
use Rattle.ec_links.specs.Link.{told_more, PutsPrefix}
use Rattle.gateway_stream.specs.Cutting.{Cut, is_header, whole_of, is_whole, is_request, cut_off, requests_of, behind_of}
use Rattle.gateway_stream.specs.Hearing.{PutsBytes}
use Rattle.gateway_stream.specs.Sending.{sent_as, sent_in, sent_of, has_failed, is_front, is_rest, IsBehind}
use Rattle.gateway_stream.proofs.Whole.{either, header_same, Whole, whole_is, is_whole_when}
use Rattle.gateway_stream.proofs.Cuts.{uncut, followed, Fixed, request_fixed, part_fixed, cut_whole}
use Rattle.gateway_stream.proofs.Heard.{loopback}

-- one request is whole, and ends where its octets do
pub record One (octets : List ℕ) : Type 0 where
  pub whole : is_whole octets ≡ true
  pub long : whole_of octets ≡ length octets

one_by : (short ok exact : Bool) → (if short then false else (ok && exact)) ≡ true → (short ≡ false) × (ok ≡ true) × (exact ≡ true)
one_by true ok exact e = absurd cc
one_by false true true e = (refl, refl, refl)
one_by false true false e = absurd cc
one_by false false exact e = absurd cc

one_is : (octets : List ℕ) → is_request octets ≡ true → One octets
one_is octets e =
    let parts : (nat_lt (length octets) 2 ≡ false) × (is_header octets ≡ true) × ((length octets == whole_of octets) ≡ true) =
    one_by (nat_lt (length octets) 2) (is_header octets) (length octets == whole_of octets) e in
    let two : 2 ≤ length octets = let s = parts.0 in grind arith in
    let long : whole_of octets ≡ length octets = let s = parts.2 in grind arith in
    record { whole = is_whole_when octets (record { two = two; ok = parts.1; fits = omega (arith, long) }); long = long }

-- a part of one request isn't whole
part_is : (front behind : List ℕ) (x : ℕ) → One (front ++ x ∷ behind) → is_whole front ≡ false
part_is front behind x one =
    elim (either (is_whole front)) [
      | inr n ↦ n
      | inl w ↦
          let here : Whole front = whole_is front w in
          let fits : whole_of front ≤ length front = here.fits in
          let same : whole_of (front ++ x ∷ behind) ≡ whole_of front = (header_same front (x ∷ behind) here.two).1 in
          let long : length (front ++ x ∷ behind) ≡ length front + length (x ∷ behind) = length-append front (x ∷ behind) in
          let all : whole_of (front ++ x ∷ behind) ≡ length (front ++ x ∷ behind) = one.long in
          let more : length (x ∷ behind) ≡ length behind + 1 = grind arith in
          absurd (omega (arith, fits, same, long, all, more))
    ]

-- what is cut off whole requests and octets behind them
behind_whole : (octets piece : List ℕ) (d : Cut) → behind_of octets ≡ [] → Fixed piece d → cut_off (length (octets ++ piece)) (octets ++ piece) ≡ followed (cut_off (length octets) octets) d
behind_whole octets piece d e fixed = cut_whole (length octets) (length (octets ++ piece)) octets piece d e fixed (omega arith) (omega arith)

-- what is told, by what stands behind the datagrams
told_by : (failed octets behind : List ℕ) → behind_of octets ≡ behind → is_rest failed behind ≡ true → sent_of failed (Some octets) ≡ sent_in (Some octets)
told_by failed octets behind e is = rw (e, is) refl

-- octets behind which nothing stands
pub clean : (failed octets : List ℕ) → behind_of octets ≡ [] → sent_of failed (Some octets) ≡ Some (map sent_as (requests_of octets))
clean failed octets e = told_by failed octets [] e refl

-- where no put failed nothing stands there, or nothing is told
whole_or : (octets behind : List ℕ) → behind_of octets ≡ behind → (behind_of octets ≡ []) ⊎ (sent_of [] (Some octets) ≡ None)
whole_or octets [] e = inl e
whole_or octets (x ∷ behind) e = inr (rw e refl)

-- a request more, behind whole ones
one_more : (octets piece : List ℕ) → behind_of octets ≡ [] → One piece → map sent_as (requests_of (octets ++ piece)) ≡ map sent_as (requests_of octets) ++ sent_as piece ∷ []
one_more octets piece e one =
    let all = behind_whole octets piece (record { requests = piece ∷ []; behind = [] }) e (request_fixed piece one.whole one.long) in
    ap (λ (cut : Cut). map sent_as cut.requests) all ∙ map-append sent_as (requests_of octets) (piece ∷ [])

clean_more : (octets piece : List ℕ) → behind_of octets ≡ [] → One piece → behind_of (octets ++ piece) ≡ []
clean_more octets piece e one =
    ap (λ (cut : Cut). cut.behind) (behind_whole octets piece (record { requests = piece ∷ []; behind = [] }) e (request_fixed piece one.whole one.long))

-- a part of a request, behind whole ones
part_more : (octets piece : List ℕ) → behind_of octets ≡ [] → is_whole piece ≡ false → map sent_as (requests_of (octets ++ piece)) ≡ map sent_as (requests_of octets)
part_more octets piece e n =
    ap (λ (cut : Cut). map sent_as cut.requests) (behind_whole octets piece (uncut piece) e (part_fixed piece n)) ∙ ap (map sent_as) (append-nil (requests_of octets))

-- what stands behind them then
part_behind : (octets piece : List ℕ) → behind_of octets ≡ [] → is_whole piece ≡ false → behind_of (octets ++ piece) ≡ piece
part_behind octets piece e n = ap (λ (cut : Cut). cut.behind) (behind_whole octets piece (uncut piece) e (part_fixed piece n))

-- a put that was done
sends_done : (sent sent' : Option (List ℕ)) (octets : List ℕ) (done : Unit {0}) → One octets → sent' ≡ told_more octets sent → Sends (sent_of [] sent) (sent_of [] sent') loopback octets (Ok done)
sends_done None sent' octets done one told = tt
sends_done (Some earlier) sent' octets done one told =
    elim (whole_or earlier (behind_of earlier) refl) [
      | inr other ↦ rw other tt
      | inl e ↦ rw (clean [] earlier e, told) (clean [] (earlier ++ octets) (clean_more earlier octets e one) ∙ ap Some (one_more earlier octets e one))
    ]

-- the first octets of others
front_is : (front behind : List ℕ) → is_front front (front ++ behind) ≡ true
front_is front behind =
    (bytes_eq-Decides front (take (length front) (front ++ behind))).1 (sym (take-append-le (length front) front behind (omega arith) ∙ take-length front))

front_rest : (front behind : List ℕ) → is_request (front ++ behind) ≡ true → is_rest (front ++ behind) front ≡ true
front_rest [] behind is = refl
front_rest (x ∷ front) behind is = rw (is, front_is (x ∷ front) behind) refl

-- what is told of a part of a datagram, or all of it
rest_told : (earlier front behind octets : List ℕ) → behind_of earlier ≡ [] → is_request octets ≡ true → octets ≡ front ++ behind → sent_of octets (Some (earlier ++ front)) ≡ sent_in (Some (earlier ++ front))
rest_told earlier front [] octets e is cut =
    let all : octets ≡ front = cut ∙ append-nil front in
    told_by octets (earlier ++ front) [] (ap (λ piece. behind_of (earlier ++ piece)) (sym all) ∙ clean_more earlier octets e (one_is octets is)) refl
rest_told earlier front (x ∷ behind) octets e is cut =
    told_by octets (earlier ++ front) front (part_behind earlier front e (part_is front behind x (subst One cut (one_is octets is))))
    (subst (λ o. is_rest o front ≡ true) (sym cut) (front_rest front (x ∷ behind) (subst (λ o. is_request o ≡ true) cut is)))

-- a part of a datagram, or all of it
failed_by : (earlier front behind octets : List ℕ) → behind_of earlier ≡ [] → One octets → octets ≡ front ++ behind
    → Sends (Some (map sent_as (requests_of earlier))) (sent_in (Some (earlier ++ front))) loopback octets (Err errors.Failed)
failed_by earlier front [] octets e one cut =
    let all : front ≡ octets = sym (append-nil front) ∙ sym cut in
    inr (ap (λ piece. Some (map sent_as (requests_of (earlier ++ piece)))) all ∙ ap Some (one_more earlier octets e one))
failed_by earlier front (x ∷ behind) octets e one cut =
    inl (ap Some (part_more earlier front e (part_is front behind x (subst One cut one))))

-- a put that failed
sends_failed : (sent sent' : Option (List ℕ)) (octets : List ℕ) → is_request octets ≡ true → PutsPrefix sent sent' octets → Sends (sent_of [] sent) (sent_of octets sent') loopback octets (Err errors.Failed)
sends_failed None sent' octets is p = tt
sends_failed (Some earlier) sent' octets is p =
    elim (whole_or earlier (behind_of earlier) refl) [
      | inr other ↦ rw other tt
      | inl e ↦
          let told : sent_of octets sent' ≡ sent_in (Some (earlier ++ p.front)) = ap (λ put. sent_of octets put) p.told ∙ rest_told earlier p.front p.behind octets e is p.cut in
          rw (clean [] earlier e, told) (failed_by earlier p.front p.behind octets e (one_is octets is) p.cut)
    ]

-- nothing was put
sends_nothing : (old new : Option (List SentGram)) (octets : List ℕ) → new ≡ old → Sends old new loopback octets (Err errors.NoMemory)
sends_nothing None new octets same = tt
sends_nothing (Some old) new octets same = same

-- and nothing was, of a datagram that may not be
pub sends_none : (old new : Option (List SentGram)) (to : Peer) (octets : List ℕ) → new ≡ old → Sends old new to octets (Err errors.Failed)
sends_none None new to octets same = tt
sends_none (Some old) new to octets same = inl same

-- no octets
pub no_octets : (octets : List ℕ) → (length octets == 0) ≡ true → octets ≡ []
no_octets [] is = refl
no_octets (x ∷ octets) is = absurd (grind arith)

-- WHAT A PUT SENDS, that didn't fail
pub sends_one : (sent sent' : Option (List ℕ)) (octets : List ℕ) (result : Result (Unit {0}) PortErr) → is_request octets ≡ true → has_failed result ≡ false → PutsBytes sent sent' octets result
    → Sends (sent_of [] sent) (sent_of [] sent') loopback octets result
sends_one sent sent' octets (Ok done) is whole p = sends_done sent sent' octets done (one_is octets is) p
sends_one sent sent' octets (Err errors.Failed) is whole p = absurd cc
sends_one sent sent' octets (Err errors.NoMemory) is whole p = sends_nothing (sent_of [] sent) (sent_of [] sent') octets (ap (sent_of []) p)

-- and one that failed
pub sends_part : (sent sent' : Option (List ℕ)) (octets : List ℕ) (result : Result (Unit {0}) PortErr) → is_request octets ≡ true → has_failed result ≡ true → PutsBytes sent sent' octets result
    → Sends (sent_of [] sent) (sent_of octets sent') loopback octets result
sends_part sent sent' octets (Ok done) is cut p = absurd cc
sends_part sent sent' octets (Err errors.Failed) is cut p = sends_failed sent sent' octets is p
sends_part sent sent' octets (Err errors.NoMemory) is cut p = absurd cc

-- WHAT STANDS BEHIND what was put
behind_is : (failed behind : List ℕ) (faults : ℕ) → (failed ≢ [] → 1 ≤ faults) → is_rest failed behind ≡ true → IsBehind faults behind
behind_is failed [] faults rose is = IsBehind.nothing
behind_is [] (x ∷ behind) faults rose is = absurd cc
behind_is (y ∷ failed) (x ∷ behind) faults rose is =
    let both : (is_request (y ∷ failed) ≡ true) × (is_front (x ∷ behind) (y ∷ failed) ≡ true) = both_by (is_request (y ∷ failed)) (is_front (x ∷ behind) (y ∷ failed)) is in
    let n : ℕ = length (x ∷ behind) in
    let same : x ∷ behind ≡ take n (y ∷ failed) = (bytes_eq-Decides (x ∷ behind) (take n (y ∷ failed))).0 both.1 in
    let all : x ∷ behind ++ drop n (y ∷ failed) ≡ y ∷ failed = ap (λ front. front ++ drop n (y ∷ failed)) same ∙ take-append-drop n (y ∷ failed) in
    IsBehind.front (x ∷ behind) (drop n (y ∷ failed)) (rose (λ none. absurd cc)) (ap is_request all ∙ both.0)
  where
    both_by : (one other : Bool) → (one && other) ≡ true → (one ≡ true) × (other ≡ true)
    both_by true true e = (refl, refl)
    both_by true false e = absurd cc
    both_by false other e = absurd cc

pub rest_is : (failed octets : List ℕ) (grams : List SentGram) (faults : ℕ) → (failed ≢ [] → 1 ≤ faults) → sent_of failed (Some octets) ≡ Some grams → IsBehind faults (behind_of octets)
rest_is failed octets grams faults rose told =
    elim (either (is_rest failed (behind_of octets))) [
      | inl is ↦ behind_is failed (behind_of octets) faults rose is
      | inr not ↦ let none : sent_of failed (Some octets) ≡ None = rw not refl in absurd cc
    ]
