-- All datagrams of a frame pass, one after the other.
use Rattle.std.proofs.Common.{◌≡◌, ℕ, true, ◌+◌, ◌*◌, ◌≤◌, ◌<◌, ◌-◌, List, [], ◌∷◌, ◌++◌, length, take, Option, Some, None, Err, refl, sym, ap, ◌∙◌, subst, arith, append_assoc, length-append}
use Rattle.std.specs.Prelude.{slice_get, IfSome, is_some}
use Rattle.al_state.specs.of_datagrams.declared.frame.FrameFault.{FrameFault}
use Rattle.std.specs.Option.{option_to_list}
use Rattle.al_state.specs.of_datagrams.declared.frame.Part.{Part}
use Rattle.al_state.specs.of_datagrams.declared.head.Head.{Head}
use Rattle.al_state.specs.of_datagrams.Datagram.{Datagram, datagram_text, size_of}
use Rattle.al_state.specs.of_datagrams.Frame.{IsFrame, IsPart, text_of, parts_of, frame_read, header_text}
use Rattle.al_state.proofs.of_datagrams.Building.{text_of-append}
use Rattle.al_state.proofs.of_datagrams.Header.{frame_read-only}
use Rattle.al_state.proofs.of_datagrams.Spelled.{length-datagram_text}
use Rattle.mailbox_slave.specs.of_esc_registers.declared.registers.Registers.{Registers}
use Rattle.mailbox_slave.specs.of_esc_registers.Access.{KeepsLengths}
use Rattle.slave_node.specs.Passing.{datagram_after, registers_after, datagrams_after, part_passed, parts_passed, passed_as, frame_passed, IsPassed, IsPassing, PartPasses}
use Rattle.slave_node.proofs.Parts.{each_at, head_kept}

abbrev pub AllPassing : Registers → Registers → List ℕ → List ℕ → Part → Type 0
AllPassing old now before octets part = (ds : List Datagram) → IsFrame before ds → IsPassing old now before octets part ds

-- what the call of the next part says
abbrev pub NextIs : List ℕ → Part → Option Part → Type 0
NextIs octets part later = (front : List Datagram) (d : Datagram) (behind : List Datagram) → IsFrame octets (front ++ d ∷ behind) → part.at ≡ 16 + length (text_of front) → part.head ≡ d.head →
    option_to_list later ≡ take 1 (parts_of (part.at + size_of d) behind)

pub begins : (old : Registers) (octets : List ℕ) (part : Part) → ((ds : List Datagram) → IsFrame octets ds → Some part ≡ slice_get (parts_of 16 ds) 0) → AllPassing old old octets octets part
begins old octets part first ds f = by ds f (first ds f)
  where
    by : (ds : List Datagram) → IsFrame octets ds → Some part ≡ slice_get (parts_of 16 ds) 0 → IsPassing old old octets octets part ds
    by [] f is = absurd (let none = f.chain in cc)
    by (d ∷ ds) f is =
        let here : part ≡ record { at = 16; head = d.head } = cc in
        record {
          front = [];
          datagram = d;
          behind = ds;
          frame = f;
          place = ap (λ (p : Part). p.at) here;
          head = ap (λ (p : Part). p.head) here;
          size = omega arith;
          registers = refl;
          datagrams = refl;
          exact = ap (λ (p : Part). parts_passed old octets (parts_of p.at (d ∷ ds))) (sym here);
        }

pub part_is : (old now : Registers) (before octets : List ℕ) (part : Part) → AllPassing old now before octets part → (ds : List Datagram) → IsFrame before ds → IsPart octets part
part_is old now before octets part all ds f =
    let p = all ds f in
    record { front = p.front; datagram = p.datagram; behind = p.behind; frame = p.frame; place = p.place; head = p.head }

-- a datagram behind the slave has its size
pub sized : (now : Registers) (octets new_octets : List ℕ) (front : List Datagram) (d : Datagram) (behind : List Datagram) → IsFrame octets (front ++ d ∷ behind) → IsFrame new_octets (front ++ datagram_after now d ∷ behind) → size_of (datagram_after now d) ≡ size_of d
sized now octets new_octets front d behind f g =
    let e = datagram_after now d in
    let was : length d.body ≡ d.head.len = (each_at front behind d f.datagrams).sized.body in
    let is_now : length e.body ≡ e.head.len = (each_at front behind e g.datagrams).sized.body in
    let len : e.head.len ≡ d.head.len = ap (λ (h : Head). h.len) (head_kept now d) in
    omega (arith, was, is_now, len)

-- the text with one datagram more
longer : (front : List Datagram) (e : Datagram) → length (text_of (front ++ e ∷ [])) ≡ length (text_of front) + size_of e
longer front e = ap length (text_of-append front (e ∷ [])) ∙ length-append (text_of front) (text_of (e ∷ [])) ∙ omega (arith, length-append (datagram_text e) [], length-datagram_text e)

-- the part of a datagram is its place and its head
part_here : (now : Registers) (octets : List ℕ) (part : Part) (d : Datagram) → part.head ≡ d.head → part_passed now octets (record { at = part.at; head = d.head }) ≡ part_passed now octets part
part_here now octets part d head = ap (λ (h : Head). part_passed now octets (record { at = part.at; head = h })) (sym head)

pub goes_on : (old now new : Registers) (before octets new_octets : List ℕ) (part later : Part) → AllPassing old now before octets part → PartPasses now new octets new_octets part → (new, new_octets) ≡ part_passed now octets part →
    NextIs octets part (Some later) → AllPassing old new before new_octets later
goes_on old now new before octets new_octets part later all passes exact next ds f =
    let p = all ds f in
    by p.front p.datagram p.behind p.frame p.place p.head p.size p.registers p.datagrams p.exact (next p.front p.datagram p.behind p.frame p.place p.head)
  where
    by : (front : List Datagram) (d : Datagram) (behind : List Datagram) → IsFrame octets (front ++ d ∷ behind) → part.at ≡ 16 + length (text_of front) → part.head ≡ d.head →
        length (text_of front) + length (text_of (d ∷ behind)) ≡ length (text_of ds) → registers_after old ds ≡ registers_after now (d ∷ behind) → datagrams_after old ds ≡ front ++ datagrams_after now (d ∷ behind) →
        parts_passed old before (parts_of 16 ds) ≡ parts_passed now octets (parts_of part.at (d ∷ behind)) → later ∷ [] ≡ take 1 (parts_of (part.at + size_of d) behind) → IsPassing old new before new_octets later ds
    by front d [] g place head size r ss x is = absurd (cc)
    by front d (e ∷ rest) g place head size r ss x is =
        let here : later ≡ record { at = part.at + size_of d; head = e.head } = cc in
        let done = passes front d (e ∷ rest) g place head in
        let c = datagram_after now d in
        let same = sized now octets new_octets front d (e ∷ rest) g done.1 in
        let more = longer front c in
        let at : later.at ≡ part.at + size_of d = ap (λ (q : Part). q.at) here in
        let pair = exact ∙ sym (part_here now octets part d head) in
        record {
          front = front ++ c ∷ [];
          datagram = e;
          behind = rest;
          frame = subst (λ l. IsFrame new_octets l) (sym (append_assoc front (c ∷ []) (e ∷ rest))) done.1;
          place = omega (arith, at, place, more, same);
          head = ap (λ (q : Part). q.head) here;
          size = omega (arith, size, more, same, length-append (datagram_text d) (text_of (e ∷ rest)), length-datagram_text d);
          registers = r ∙ ap (λ n. registers_after n (e ∷ rest)) (sym done.0);
          datagrams = ss ∙ ap (λ n. front ++ (c ∷ datagrams_after n (e ∷ rest))) (sym done.0) ∙ sym (append_assoc front (c ∷ []) (datagrams_after new (e ∷ rest)));
          exact = x ∙ ap (λ (q : Registers × List ℕ). parts_passed q.0 q.1 (parts_of (part.at + size_of d) (e ∷ rest))) (sym pair) ∙ ap (λ n. parts_passed new new_octets (parts_of n (e ∷ rest))) (sym at);
        }

append_none : {X : Type 0} (l : List X) → l ++ [] ≡ l
append_none [] = refl
append_none (x ∷ l) = ap (λ k. x ∷ k) (append_none l)

pub record Ends (old new : Registers) (before new_octets : List ℕ) (ds : List Datagram) : Type 0 where
  pub passed : IsPassed old new new_octets ds
  pub exact : parts_passed old before (parts_of 16 ds) ≡ (new, new_octets)

pub ends : (old now new : Registers) (before octets new_octets : List ℕ) (part : Part) → AllPassing old now before octets part → PartPasses now new octets new_octets part → (new, new_octets) ≡ part_passed now octets part →
    NextIs octets part None → (ds : List Datagram) → IsFrame before ds → Ends old new before new_octets ds
ends old now new before octets new_octets part all passes exact next ds f =
    let p = all ds f in
    by p.front p.datagram p.behind p.frame p.place p.head p.registers p.datagrams p.exact (next p.front p.datagram p.behind p.frame p.place p.head)
  where
    by : (front : List Datagram) (d : Datagram) (behind : List Datagram) → IsFrame octets (front ++ d ∷ behind) → part.at ≡ 16 + length (text_of front) → part.head ≡ d.head →
        registers_after old ds ≡ registers_after now (d ∷ behind) → datagrams_after old ds ≡ front ++ datagrams_after now (d ∷ behind) →
        parts_passed old before (parts_of 16 ds) ≡ parts_passed now octets (parts_of part.at (d ∷ behind)) → [] ≡ take 1 (parts_of (part.at + size_of d) behind) → Ends old new before new_octets ds
    by front d (e ∷ rest) g place head r ss x is = absurd (cc)
    by front d [] g place head r ss x is =
        let done = passes front d [] g place head in
        record {
          passed = record { registers = done.0 ∙ sym r; frame = subst (λ l. IsFrame new_octets l) (sym ss) done.1 };
          exact = x ∙ part_here now octets part d head ∙ sym exact;
        }

-- the whole frame, as it reads
pub whole : (old new : Registers) (before new_octets : List ℕ) (ds : List Datagram) → IsFrame before ds → Ends old new before new_octets ds → (new, new_octets) ≡ frame_passed old before
whole old new before new_octets ds f e = sym (ap (passed_as old before) (frame_read-only before ds f) ∙ e.exact)

-- places grow, and stay within the frame
pub shrinks : (old now new : Registers) (before octets new_octets : List ℕ) (part later : Part) → AllPassing old now before octets part → AllPassing old new before new_octets later → NextIs octets part (Some later) → (ds : List Datagram) → IsFrame before ds →
    length before - later.at < length before - part.at
shrinks old now new before octets new_octets part later all all_new next ds f =
    let p = all ds f in
    let q = all_new ds f in
    let text = ap length f.text in
    let a = length-append f.addresses (header_text (f.size + 2048 * f.reserved + 4096) ++ (text_of ds ++ f.padding)) in
    let b = length-append (text_of ds) f.padding in
    let twelve = f.twelve in
    let place = q.place in
    let size = q.size in
    let one = length-append (datagram_text q.datagram) (text_of q.behind) in
    let own = length-datagram_text q.datagram in
    let on = further p.behind p.datagram (next p.front p.datagram p.behind p.frame p.place p.head) in
    omega (arith, text, a, b, twelve, place, size, one, own, on)
  where
    further : (behind : List Datagram) (d : Datagram) → later ∷ [] ≡ take 1 (parts_of (part.at + size_of d) behind) → part.at + 12 ≤ later.at
    further [] d is = absurd (cc)
    further (e ∷ rest) d is =
        let here : later ≡ record { at = part.at + size_of d; head = e.head } = cc in
        omega (arith, ap (λ (q : Part). q.at) here)

pub kept_twice : (a b c : Registers) → KeepsLengths a b → KeepsLengths b c → KeepsLengths a c
kept_twice a b c x y = record { outward = y.outward ∙ x.outward; inward = y.inward ∙ x.inward }

-- octets with a fault are no frame
pub unread : (octets slice : List ℕ) (r : Option FrameFault) → slice ≡ octets → IfSome r (λ fault. frame_read slice ≡ Err fault) → is_some r ≡ true → (ds : List Datagram) → IsFrame octets ds → ⊥
unread octets slice None same is none ds f = absurd (cc)
unread octets slice (Some fault) same is none ds f = let impossible = sym (frame_read-only octets ds f) ∙ ap frame_read (sym same) ∙ is in absurd (cc)
