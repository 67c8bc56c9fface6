-- A datagram that concerns another slave, and a walk that keeps the place of a datagram alone.
use Rattle.std.proofs.Common.{◌≡◌, ℕ, ◌+◌, ◌≤◌, ◌%◌, Bool, true, false, List, [], ◌∷◌, ◌++◌, length, take, drop, None, Some, refl, sym, ap, ◌∙◌, subst, arith, length-drop}
use Rattle.std.specs.Prelude.{◌||◌, if◌then◌else◌}
use Rattle.std.proofs.lemmas.List.{length-take-le, take-append-drop, drop-drop}
use Rattle.al_state.specs.of_datagrams.declared.frame.Part.{Part}
use Rattle.al_state.specs.of_datagrams.declared.head.Head.{Head}
use Rattle.al_state.specs.of_datagrams.Datagram.{head_read, size_of}
use Rattle.al_state.specs.of_datagrams.Frame.{IsFrame, IsPart, parts_of, part_at, octets_set}
use Rattle.al_state.proofs.of_datagrams.Changing.{set_same}
use Rattle.al_state.proofs.of_datagrams.Walking.{next_found}
use Rattle.mailbox_slave.specs.of_esc_registers.declared.registers.Registers.{Registers}
use Rattle.mailbox_slave.specs.of_esc_registers.Access.{Passed, access, passed_at, is_by_place, row_of, is_meant, is_concerned}
use Rattle.slave_node.specs.Passing.{passed, datagram_after, replaced, part_passed, PartPasses}
use Rattle.slave_node.proofs.Parts.{inside, head_kept}
use Rattle.slave_node.proofs.Passes.{NextIs, AllPassing, sized}

neither : (a b : Bool) → (a || b) ≡ false → (a ≡ false) × (b ≡ false)
neither true b e = cc
neither false b e = (refl, e)

-- a datagram behind a slave that it doesn't concern
abbrev unchanged : Registers → Head → List ℕ → Passed
unchanged r h body = record { registers = r; head = h; body = body }

-- registers, head and body stay
skipped : (r : Registers) (h : Head) (body : List ℕ) → is_concerned r h ≡ false → access r h body ≡ unchanged r h body
skipped r h body foreign =
    let none = neither (is_by_place h.command) (is_meant r h) foreign in
    ap (λ (b : Bool). passed_at r h body (if b then row_of r h.ado (length body) else None)) none.1
    ∙ ap (λ (b : Bool). unchanged r (if b then record h { adp = (h.adp + 1) % 65536 } else h) body) none.0

replaced_same : (octets : List ℕ) (from count : ℕ) → from + count ≤ length octets → replaced octets from (take count (drop from octets)) ≡ octets
replaced_same octets from count fits =
    let long : length (take count (drop from octets)) ≡ count = length-take-le count (drop from octets) (omega (arith, length-drop {A = ℕ})) in
    ap (λ (n : ℕ). take from octets ++ (take count (drop from octets) ++ drop (from + n) octets)) long
    ∙ ap (λ (t : List ℕ). take from octets ++ (take count (drop from octets) ++ t)) (sym (drop-drop count from octets))
    ∙ ap (λ (t : List ℕ). take from octets ++ t) (take-append-drop count (drop from octets))
    ∙ take-append-drop from octets

-- a part that concerns another slave passes where nothing is done
pub skips : (r : Registers) (octets : List ℕ) (part : Part) → is_concerned r part.head ≡ false → PartPasses r r octets octets part
skips r octets part foreign front d behind f place head =
    let same : passed r d ≡ unchanged r d.head d.body = skipped r d.head d.body (subst (λ (h : Head). is_concerned r h ≡ false) head foreign) in (
      sym (ap (λ (p : Passed). p.registers) same),
      subst (λ (p : Passed). IsFrame octets (front ++ record d { head = p.head; body = p.body } ∷ behind)) (sym same) f,
    )

pub skips_exact : (r : Registers) (octets : List ℕ) (part : Part) → IsPart octets part → is_concerned r part.head ≡ false → (r, octets) ≡ part_passed r octets part
skips_exact r octets part p foreign =
    let body = take part.head.len (drop (part.at + 10) octets) in
    let same : access r part.head body ≡ unchanged r part.head body = skipped r part.head body foreign in
    let whole : replaced octets (part.at + 10) body ≡ octets = replaced_same octets (part.at + 10) part.head.len (inside octets part p) in
    sym (
    ap (λ (q : Passed). (q.registers, octets_set (replaced octets (part.at + 10) q.body) part q.head.adp q.head.counter)) same
    ∙ ap (λ (o : List ℕ). (r, octets_set o part part.head.adp part.head.counter)) whole
    ∙ ap (λ (o : List ℕ). (r, o)) (set_same octets part p)
    )

-- the place behind a part that says "more" is that of the next, whatever the part was made
pub next_behind : (now new : Registers) (octets new_octets : List ℕ) (part : Part) → PartPasses now new octets new_octets part → part.head.more ≡ true →
    NextIs octets part (Some (part_at (part.at + (12 + part.head.len)) (drop (part.at + (12 + part.head.len)) new_octets)))
next_behind now new octets new_octets part passes more front d behind f place head =
    let done = passes front d behind f place head in
    let e = datagram_after now d in
    let kept = head_kept now d in
    let len : e.head.len ≡ part.head.len = ap (λ (h : Head). h.len) kept ∙ ap (λ (h : Head). h.len) (sym head) in
    let says : e.head.more ≡ true = ap (λ (h : Head). h.more) kept ∙ ap (λ (h : Head). h.more) (sym head) ∙ more in
    let size : size_of e ≡ size_of d = sized now octets new_octets front d behind f done.1 in
    let part_then : Part = record { at = part.at; head = e.head } in
    let found = (next_found new_octets part_then front behind e done.1 place refl says).1 (head_read (drop (part.at + (12 + e.head.len)) new_octets)) refl in
    ap (λ (n : ℕ). part_at (part.at + (12 + n)) (drop (part.at + (12 + n)) new_octets) ∷ []) (sym len) ∙ found ∙ ap (λ (n : ℕ). take 1 (parts_of (part.at + n) behind)) size

-- the part that is read at the place of the walk
pub at_part : (old now : Registers) (before octets slice : List ℕ) (at : ℕ) (part : Part) → AllPassing old now before octets (part_at at (drop at octets)) → part ≡ part_at at (drop at slice) → slice ≡ octets →
    AllPassing old now before octets part
at_part old now before octets slice at part all is same = subst (λ (p : Part). AllPassing old now before octets p) (sym (is ∙ ap (λ (o : List ℕ). part_at at (drop at o)) same)) all
