use Rattle.std.proofs.Common.{◌≡◌, ◌∙◌, ap, sym, refl, ℕ, zero, suc, ◌+◌, ◌<◌, List, [], ◌∷◌, ◌++◌, length, get_or, take, drop, add-one, append-nil}
use Rattle.std.proofs.Math.Seq.{drop-cons}
use Rattle.ec_outside.specs.Port.{grams_of, from_gram, heard_first}
use Rattle.ec_outside.specs.declared.port.Heard.TheVariants.{Quiet}
use Rattle.ec_outside.specs.declared.port.Peer.{Peer}
use Rattle.ec_outside.specs.declared.port.PortItem.{PortItem}
use Rattle.ec_outside.specs.declared.port.PortItem.TheVariants.{Gram, Pause}

-- the items left are the next one and those behind it
pub left_at : (items : List PortItem) (n : ℕ) (item : PortItem) → n < length items → item ≡ get_or items n item → drop n items ≡ item ∷ drop (n + 1) items
left_at items n item within is = rw (add-one n) (drop-cons items n item within ∙ ap (λ x. x ∷ drop (suc n) items) (sym is))

-- the datagrams among the items given: the next item's come behind those before
heard_behind :
    (items : List PortItem) (n : ℕ) (item : PortItem) (rest : List PortItem) → drop n items ≡ item ∷ rest
    → grams_of (take (suc n) items) ≡ grams_of (take n items) ++ grams_of (item ∷ [])
heard_behind [] zero item rest e = absurd (cc)
heard_behind [] (suc n) item rest e = absurd (cc)
heard_behind (x ∷ xs) zero item rest e = let same : x ≡ item = cc in rw same refl
heard_behind (Gram from bytes ∷ xs) (suc n) item rest e =
    ap (λ grams. (record { from = from; bytes = take 2048 bytes }) ∷ grams) (heard_behind xs n item rest e)
heard_behind (Pause ∷ xs) (suc n) item rest e = heard_behind xs n item rest e

pub heard_at :
    (items : List PortItem) (n : ℕ) (item : PortItem) → n < length items → item ≡ get_or items n item
    → grams_of (take (n + 1) items) ≡ grams_of (take n items) ++ grams_of (item ∷ [])
heard_at items n item within is = rw (add-one n) (heard_behind items n item (drop (n + 1) items) (left_at items n item within is))

-- a pause is passed over
pub heard_pause :
    (items : List PortItem) (n : ℕ) (item : PortItem) → n < length items → item ≡ get_or items n item → item ≡ Pause
    → grams_of (take (n + 1) items) ≡ grams_of (take n items)
heard_pause items n item within is pause =
    heard_at items n item within is ∙ rw pause (append-nil (grams_of (take n items)))

pub left_pause :
    (items : List PortItem) (n : ℕ) (item : PortItem) → n < length items → item ≡ get_or items n item → item ≡ Pause
    → from_gram (drop (n + 1) items) ≡ from_gram (drop n items)
left_pause items n item within is pause =
    let opened : drop n items ≡ Pause ∷ drop (n + 1) items = left_at items n item within is ∙ ap (λ x. x ∷ drop (n + 1) items) pause in
    sym (ap (λ left. from_gram left) opened)

-- a datagram is heard as far as it goes
pub heard_gram :
    (items : List PortItem) (n : ℕ) (item : PortItem) (from : Peer) (bytes octets : List ℕ) → n < length items
    → item ≡ get_or items n item → item ≡ Gram from bytes → octets ≡ take 2048 bytes
    → grams_of (take (n + 1) items) ≡ grams_of (take n items) ++ record { from = from; bytes = octets } ∷ []
heard_gram items n item from bytes octets within is gram heard = rw heard (heard_at items n item within is ∙ rw gram refl)

-- behind the pauses the first item is none
pub never_quiet : (items : List PortItem) → heard_first (from_gram items) ≡ Quiet → ⊥
never_quiet [] e = absurd (cc)
never_quiet (Gram from bytes ∷ items) e = absurd (cc)
never_quiet (Pause ∷ items) e = never_quiet items e
