-- What octets read as, against what spells them.
use Rattle.std.proofs.Common.{◌≡◌, ℕ, zero, suc, ◌+◌, ◌<◌, ◌≤◌, Bool, true, false, List, [], ◌∷◌, ◌++◌, length, drop, refl, ap, sym, ◌∙◌, subst, arith, append_assoc, length-append, ◌⊎◌, inl, inr}
use Rattle.std.specs.Prelude.{◌==◌, if◌then◌else◌, Result, Ok, Err, not}
use Rattle.std.proofs.lemmas.Bool.{ne_eqb}
use Rattle.datagrams.specs.declared.frame.FrameFault.{FrameFault}
use Rattle.datagrams.specs.declared.frame.FrameFault.TheVariants.{DatagramCut, MoreButEnd}
use Rattle.datagrams.specs.declared.frame.Part.{Part}
use Rattle.datagrams.specs.declared.head.Head.{Head}
use Rattle.datagrams.specs.Datagram.{Datagram, IsDatagram, datagram_text, size_of, is_cut, head_read, body_length, datagram_here}
use Rattle.datagrams.specs.Frame.{text_of, Each, MoreButLast, parts_of, part_at, with_parts, parts_within}
use Rattle.ec_fields.proofs.Cells.{AreOctets, AreOctets-drop}
use Rattle.datagrams.proofs.Spelled.{head_read-text, is_cut-text, drop-text, length-datagram_text, datagram_here-is, text_here}

-- spelled, so read

parts_one : (most at : ℕ) (octets : List ℕ) → 0 < most → is_cut octets ≡ false → (head_read octets).more ≡ false
    → parts_within most at octets ≡ Ok (part_at at octets ∷ [])
parts_one zero at octets some whole last = absurd (omega arith)
parts_one (suc most) at octets some whole last = rw (whole, last) refl

parts_more : (most at : ℕ) (octets : List ℕ) → is_cut octets ≡ false → (head_read octets).more ≡ true
    → 0 < length (drop (12 + (head_read octets).len) octets)
    → parts_within (suc most) at octets
    ≡ with_parts (part_at at octets ∷ []) (parts_within most (at + (12 + (head_read octets).len)) (drop (12 + (head_read octets).len) octets))
parts_more most at octets whole more some =
    let left = ne_eqb (length (drop (12 + (head_read octets).len) octets)) 0 (λ e. omega arith) in
    rw (whole, more, left) refl

spelled_last : (most at : ℕ) (h : Head) (octets : List ℕ) → 0 < most → head_read octets ≡ h → is_cut octets ≡ false
    → h.more ≡ false → parts_within most at octets ≡ Ok (record { at = at; head = h } ∷ [])
spelled_last most at h octets some reads whole last =
    let no_more = subst (λ (x : Head). x.more ≡ false) (sym reads) last in
    subst (λ (x : Head). parts_within most at octets ≡ Ok (record { at = at; head = x } ∷ [])) reads
    (parts_one most at octets some whole no_more)

spelled_more : (most at : ℕ) (h : Head) (octets behind : List ℕ) (parts : List Part) → head_read octets ≡ h
    → is_cut octets ≡ false → h.more ≡ true → drop (12 + h.len) octets ≡ behind → 0 < length behind
    → parts_within most (at + (12 + h.len)) behind ≡ Ok parts
    → parts_within (suc most) at octets ≡ Ok (record { at = at; head = h } ∷ parts)
spelled_more most at h octets behind parts reads whole more moved some rest =
    let goes = subst (λ (x : Head). x.more ≡ true) (sym reads) more in
    let there = subst (λ (x : Head). drop (12 + x.len) octets ≡ behind) (sym reads) moved in
    let left = subst (λ (x : List ℕ). 0 < length x) (sym there) some in
    let step = parts_more most at octets whole goes left in
    let step' = subst (λ (x : Head). parts_within (suc most) at octets ≡ with_parts (record { at = at; head = x } ∷ []) (parts_within most (at + (12 + x.len)) (drop (12 + x.len) octets))) reads step in
    step' ∙ ap (λ (x : List ℕ). with_parts (record { at = at; head = h } ∷ []) (parts_within most (at + (12 + h.len)) x)) moved
    ∙ ap (with_parts (record { at = at; head = h } ∷ [])) rest

pub length-text_of : (d : Datagram) (ds : List Datagram) → 12 ≤ length (text_of (d ∷ ds))
length-text_of d ds = omega (arith, length-append (datagram_text d) (text_of ds), length-datagram_text d)

-- the parts of spelled datagrams, with padding behind them
pub parts_within-text : (most at : ℕ) (ds : List Datagram) (padding : List ℕ)
    → length (text_of ds) ≤ most → Each IsDatagram ds → MoreButLast ds
    → parts_within most at (text_of ds ++ padding) ≡ Ok (parts_of at ds)
parts_within-text most at [] padding fits each chain = absurd chain
parts_within-text most at (d ∷ []) padding fits each chain =
    let some = length-text_of d [] in
    ap (parts_within most at) (append_assoc (datagram_text d) [] padding)
    ∙ (spelled_last most at d.head (datagram_text d ++ padding) (omega arith) (head_read-text d padding each.0)
    (is_cut-text d padding each.0) chain)
parts_within-text zero at (d ∷ e ∷ ds) padding fits each chain = absurd (omega (arith, length-text_of d (e ∷ ds)))
parts_within-text (suc most) at (d ∷ e ∷ ds) padding fits each chain =
    let behind = text_of (e ∷ ds) ++ padding in
    let long = length-append (datagram_text d) (text_of (e ∷ ds)) in
    let first = length-datagram_text d in
    let second = length-text_of e ds in
    let padded = length-append (text_of (e ∷ ds)) padding in
    let size : 12 + d.head.len ≡ size_of d = ap (λ (n : ℕ). 12 + n) (sym each.0.sized.body) in
    let rest = parts_within-text most (at + size_of d) (e ∷ ds) padding (omega arith) each.1 chain.1 in
    ap (parts_within (suc most) at) (append_assoc (datagram_text d) (text_of (e ∷ ds)) padding)
    ∙ (spelled_more most at d.head (datagram_text d ++ (text_of (e ∷ ds) ++ padding)) (text_of (e ∷ ds) ++ padding) (parts_of (at + size_of d) (e ∷ ds))
    (head_read-text d (text_of (e ∷ ds) ++ padding) each.0) (is_cut-text d (text_of (e ∷ ds) ++ padding) each.0) chain.0
    (drop-text d (text_of (e ∷ ds) ++ padding) each.0) (omega arith)
    (subst (λ (n : ℕ). parts_within most (at + n) (text_of (e ∷ ds) ++ padding) ≡ Ok (parts_of (at + size_of d) (e ∷ ds))) (sym size) rest))

-- read, so spelled

pub record FoundIn (at : ℕ) (octets : List ℕ) (parts : List Part) : Type 0 where
  pub ds : List Datagram
  pub padding : List ℕ
  pub text : octets ≡ text_of ds ++ padding
  pub found : parts ≡ parts_of at ds
  pub each : Each IsDatagram ds
  pub chain : MoreButLast ds

pub record FoundMore (parts : List Part) (p : Part) (r : Result (List Part) FrameFault) : Type 0 where
  pub behind : List Part
  pub rest : r ≡ Ok behind
  pub joined : parts ≡ p ∷ behind

read_inverts : (cut more none : Bool) (at : ℕ) (p : Part) (r : Result (List Part) FrameFault) (parts : List Part)
    → (if cut then Err (DatagramCut at) else if not more then Ok (p ∷ []) else if none then Err MoreButEnd else with_parts (p ∷ []) r) ≡ Ok parts
    → (cut ≡ false) × (((more ≡ false) × (parts ≡ p ∷ [])) ⊎ ((more ≡ true) × FoundMore parts p r))
read_inverts true more none at p r parts e = cc
read_inverts false false none at p r parts e = (refl, inl (refl, cc))
read_inverts false true true at p r parts e = cc
read_inverts false true false at p (Ok qs) parts e = (refl, inr (refl, record { behind = qs; rest = refl; joined = cc }))
read_inverts false true false at p (Err f) parts e = cc

chain_more : (d : Datagram) (ds : List Datagram) → d.head.more ≡ true → MoreButLast ds → MoreButLast (d ∷ ds)
chain_more d [] more chain = absurd chain
chain_more d (e ∷ ds) more chain = (more, chain)

found_last : (at : ℕ) (octets : List ℕ) (parts : List Part) → AreOctets octets → is_cut octets ≡ false
    → (head_read octets).more ≡ false → parts ≡ part_at at octets ∷ [] → FoundIn at octets parts
found_last at octets parts o whole last joined = record {
  ds = datagram_here octets ∷ [];
  padding = drop (12 + body_length octets) octets;
  text = text_here octets o whole ∙ sym (append_assoc (datagram_text (datagram_here octets)) [] (drop (12 + body_length octets) octets));
  found = joined;
  each = (datagram_here-is octets o whole, tt);
  chain = last;
}

found_more : (at : ℕ) (octets : List ℕ) (parts qs : List Part) → AreOctets octets → is_cut octets ≡ false
    → (head_read octets).more ≡ true → parts ≡ part_at at octets ∷ qs
    → FoundIn (at + (12 + body_length octets)) (drop (12 + body_length octets) octets) qs → FoundIn at octets parts
found_more at octets parts qs o whole more joined f =
    let is = datagram_here-is octets o whole in
    record {
      ds = datagram_here octets ∷ f.ds;
      padding = f.padding;
      text = text_here octets o whole ∙ ap (λ (x : List ℕ). datagram_text (datagram_here octets) ++ x) f.text
          ∙ sym (append_assoc (datagram_text (datagram_here octets)) (text_of f.ds) f.padding);
      found = joined ∙ ap (λ (x : List Part). part_at at octets ∷ x)
          (f.found ∙ ap (λ (n : ℕ). parts_of (at + (12 + n)) f.ds) (sym is.sized.body));
      each = (is, f.each);
      chain = chain_more (datagram_here octets) f.ds more f.chain;
    }

-- what was read is spelled
pub parts_within-found : (most at : ℕ) (octets : List ℕ) (parts : List Part) → AreOctets octets
    → parts_within most at octets ≡ Ok parts → FoundIn at octets parts
parts_within-found zero at octets parts o e = cc
parts_within-found (suc most) at octets parts o e =
    let behind = drop (12 + body_length octets) octets in
    let i = read_inverts (is_cut octets) (head_read octets).more (length (drop (12 + body_length octets) octets) == 0) at (part_at at octets)
    (parts_within most (at + (12 + body_length octets)) (drop (12 + body_length octets) octets)) parts e in
    elim i.1 [
      | inl last ↦ found_last at octets parts o i.0 last.0 last.1
      | inr on ↦ found_more at octets parts on.1.behind o i.0 on.0 on.1.joined
          (parts_within-found most (at + (12 + body_length octets)) (drop (12 + body_length octets) octets) on.1.behind (AreOctets-drop (12 + body_length octets) octets o) on.1.rest)
    ]
