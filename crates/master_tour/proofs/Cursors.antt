-- A cursor in a frame: it stands at the datagram with its number, and goes on to the next.
use Rattle.std.proofs.Common.{◌≡◌, ℕ, suc, ◌+◌, List, [], ◌∷◌, ◌++◌, length, take, Option, Some, None, refl, sym, ap, ◌∙◌, subst, arith, append_assoc, length-append, get_or}
use Rattle.std.specs.Prelude.{slice_get, map, true, is_some, IfSome, Err}
use Rattle.std.specs.Option.{option_to_list}
use Rattle.master_side.specs.of_datagrams.declared.frame.Part.{Part}
use Rattle.master_side.specs.of_datagrams.declared.frame.FrameFault.{FrameFault}
use Rattle.master_side.specs.of_datagrams.Datagram.{Datagram, size_of, datagram_text}
use Rattle.master_side.specs.of_datagrams.Frame.{IsFrame, IsPart, text_of, parts_of, frame_read}
use Rattle.master_side.proofs.of_datagrams.Building.{text_of-append}
use Rattle.master_side.proofs.of_datagrams.Header.{frame_read-only}
use Rattle.master_side.proofs.of_datagrams.Spelled.{length-datagram_text}
use Rattle.master_side.specs.of_frame_view.View.{Lens}
use Rattle.master_side.specs.of_frame_view.Seen.{part_seen, parts_seen, seen}
use Rattle.master_tour.specs.Cursor.{Stands, IsAtOne}

pub stands_first : (octets : List ℕ) (part : Part) → ((ds : List Datagram) → IsFrame octets ds → Some part ≡ slice_get (parts_of 16 ds) 0) → IsAtOne octets 0 part
stands_first octets part first ds f = by ds f (first ds f)
  where
    by : (ds : List Datagram) → IsFrame octets ds → Some part ≡ slice_get (parts_of 16 ds) 0 → Stands ds 0 part
    by [] f is = absurd (let none = f.chain in cc)
    by (d ∷ ds) f is =
        let here : part ≡ record { at = 16; head = d.head } = cc in
        record { front = []; datagram = d; behind = ds; split = refl; number_is = refl; place = ap (λ (p : Part). p.at) here; head = ap (λ (p : Part). p.head) here }

pub stands_part : (octets : List ℕ) (ds : List Datagram) (number : ℕ) (part : Part) → IsFrame octets ds → IsAtOne octets number part → IsPart octets part
stands_part octets ds number part f at =
    let s = at ds f in
    record { front = s.front; datagram = s.datagram; behind = s.behind; frame = subst (λ l. IsFrame octets l) s.split f; place = s.place; head = s.head }

-- what the call of the next part says
abbrev pub NextIs : List ℕ → Part → Option Part → Type 0
NextIs octets part later = (front : List Datagram) (d : Datagram) (behind : List Datagram) → IsFrame octets (front ++ d ∷ behind) → part.at ≡ 16 + length (text_of front) → part.head ≡ d.head →
    option_to_list later ≡ take 1 (parts_of (part.at + size_of d) behind)

-- the text with one datagram more
longer : (front : List Datagram) (e : Datagram) → length (text_of (front ++ e ∷ [])) ≡ length (text_of front) + size_of e
longer front e = ap length (text_of-append front (e ∷ [])) ∙ length-append (text_of front) (text_of (e ∷ [])) ∙ omega (arith, length-append (datagram_text e) [], length-datagram_text e)

pub stands_next : (octets : List ℕ) (number : ℕ) (part later : Part) (found : Option Part) → IsAtOne octets number part → NextIs octets part found → found ≡ Some later → IsAtOne octets (number + 1) later
stands_next octets number part later found at next is ds f =
    let s = at ds f in
    by s.front s.datagram s.behind s.split s.number_is s.place (ap option_to_list (sym is) ∙ next s.front s.datagram s.behind (subst (λ l. IsFrame octets l) s.split f) s.place s.head)
  where
    by : (front : List Datagram) (d : Datagram) (behind : List Datagram) → ds ≡ front ++ d ∷ behind → length front ≡ number → part.at ≡ 16 + length (text_of front) → later ∷ [] ≡ take 1 (parts_of (part.at + size_of d) behind) → Stands ds (number + 1) later
    by front d [] split n place is = absurd (cc)
    by front d (e ∷ rest) split n place is =
        let here : later ≡ record { at = part.at + size_of d; head = e.head } = cc in
        let text = longer front d in
        record {
          front = front ++ d ∷ [];
          datagram = e;
          behind = rest;
          split = split ∙ sym (append_assoc front (d ∷ []) (e ∷ rest));
          number_is = length-append front (d ∷ []) ∙ ap (λ k. k + 1) n;
          place = ap (λ (p : Part). p.at) here ∙ omega (arith, place, text);
          head = ap (λ (p : Part). p.head) here;
        }

pub stands_last : (octets : List ℕ) (number : ℕ) (part : Part) (found : Option Part) → IsAtOne octets number part → NextIs octets part found → found ≡ None → (ds : List Datagram) → IsFrame octets ds → length ds ≡ number + 1
stands_last octets number part found at next is ds f =
    let s = at ds f in
    by s.front s.datagram s.behind s.split s.number_is (ap option_to_list (sym is) ∙ next s.front s.datagram s.behind (subst (λ l. IsFrame octets l) s.split f) s.place s.head)
  where
    by : (front : List Datagram) (d : Datagram) (behind : List Datagram) → ds ≡ front ++ d ∷ behind → length front ≡ number → [] ≡ take 1 (parts_of (part.at + size_of d) behind) → length ds ≡ number + 1
    by front d (e ∷ rest) split n is = absurd (cc)
    by front d [] split n is = ap length split ∙ length-append front (d ∷ []) ∙ ap (λ k. k + 1) n

-- among all parts of the frame
part_in : (at : ℕ) (front : List Datagram) (d : Datagram) (behind : List Datagram) (part z : Part) → part.at ≡ at + length (text_of front) → part.head ≡ d.head → part ≡ get_or (parts_of at (front ++ d ∷ behind)) (length front) z
part_in at [] d behind part z place head =
    let here : part.at ≡ at = omega (arith, place) in
    λ i. record { at = here i; head = head i }
part_in at (e ∷ front) d behind part z place head =
    let text = length-append (datagram_text e) (text_of front) in
    let own = length-datagram_text e in
    part_in (at + size_of e) front d behind part z (omega (arith, place, text, own)) head

pub stands_in : (ds : List Datagram) (number : ℕ) (part z : Part) → Stands ds number part → part ≡ get_or (parts_of 16 ds) number z
stands_in ds number part z s =
    part_in 16 s.front s.datagram s.behind part z s.place s.head ∙ ap (λ (l : List Datagram). get_or (parts_of 16 l) (length s.front) z) (sym s.split) ∙ ap (λ n. get_or (parts_of 16 ds) n z) s.number_is

pub parts_length : (at : ℕ) (ds : List Datagram) → length (parts_of at ds) ≡ length ds
parts_length at [] = refl
parts_length at (d ∷ ds) = ap suc (parts_length (at + size_of d) ds)

pub seen_parts : (lens : ℕ → Lens) (octets : List ℕ) (ds : List Datagram) → IsFrame octets ds → seen lens octets ≡ map (part_seen lens octets) (parts_of 16 ds)
seen_parts lens octets ds f = ap (parts_seen lens octets) (frame_read-only octets ds f)

-- octets with a fault have no datagrams
pub seen_none : (lens : ℕ → Lens) (octets slice : List ℕ) (r : Option FrameFault) → slice ≡ octets → IfSome r (λ fault. frame_read slice ≡ Err fault) → is_some r ≡ true → seen lens octets ≡ []
seen_none lens octets slice None same is some = absurd (cc)
seen_none lens octets slice (Some fault) same is some = ap (seen lens) (sym same) ∙ ap (parts_seen lens slice) is
