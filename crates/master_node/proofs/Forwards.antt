-- The packets that wait for a slave.
use Rattle.std.proofs.Common.{◌≡◌, ℕ, zero, suc, Option, Some, None, List, [], ◌∷◌, refl, sym, ap, ◌∙◌, drop}
use Rattle.std.specs.Prelude.{slice_get}
use Rattle.std.proofs.lemmas.Option.{slice_get_within}
use Rattle.arrayvec.specs.ArrayVec.{ArrayVec}
use Rattle.circular_buffer.proofs.Places.{slice_get-set_same}
use Rattle.eoe_switch.specs.Switch.{Switched, queue_of, queue_at, changed, begun_at}
use Rattle.eoe_switch.specs.declared.port.Port.{Port}
use Rattle.master_node.specs.Forwards.{waiting_by}

-- the oldest was taken
begun_queue : (s : Switched) (port : ℕ) → queue_at (begun_at s port) port ≡ drop 1 (queue_at s port)
begun_queue s port = go (slice_get s.ports port) refl
  where
    after : Port → Port
    after p = record p { queue = drop 1 p.queue }

    go : (o : Option Port) → slice_get s.ports port ≡ o → queue_of (slice_get (changed after s.ports port o) port) ≡ drop 1 (queue_of o)
    go None e = ap queue_of e
    go (Some p) e = ap queue_of (slice_get-set_same s.ports port (after p) (slice_get_within s.ports port p e))

-- of a slave with this port
pub taken_from : (s t : Switched) (o : Option ℕ) (port : ℕ) → o ≡ Some port → t ≡ begun_at s port → waiting_by t o ≡ drop 1 (waiting_by s o)
taken_from s t o port e n = (λ i. waiting_by (n i) (e i)) ∙ begun_queue s port ∙ sym (ap (λ z. drop 1 (waiting_by s z)) e)

-- where none waited none does
changed_behind : (g : Port → Port) (q : Port) (qs : List Port) (j : ℕ) (o : Option Port) → changed g (q ∷ qs) (suc j) o ≡ q ∷ changed g qs j o
changed_behind g q qs j None = refl
changed_behind g q qs j (Some x) = refl

none_at : (qs : List Port) (j p : ℕ) → queue_of (slice_get qs p) ≡ [] → queue_of (slice_get (changed (λ (q : Port). record q { queue = drop 1 q.queue }) qs j (slice_get qs j)) p) ≡ []
none_at [] j p e = e
none_at (q ∷ qs) zero zero e = ap (λ (z : List (ArrayVec ℕ)). drop 1 z) e
none_at (q ∷ qs) zero (suc p) e = e
none_at (q ∷ qs) (suc j) zero e = ap (λ z. queue_of (slice_get z 0)) (changed_behind (λ (q : Port). record q { queue = drop 1 q.queue }) q qs j (slice_get qs j)) ∙ e
none_at (q ∷ qs) (suc j) (suc p) e =
    ap (λ z. queue_of (slice_get z (suc p))) (changed_behind (λ (q : Port). record q { queue = drop 1 q.queue }) q qs j (slice_get qs j)) ∙ none_at qs j p e

pub fewer_from : (s t : Switched) (o : Option ℕ) (j : ℕ) → t ≡ begun_at s j → waiting_by s o ≡ [] → waiting_by t o ≡ []
fewer_from s t None j n e = refl
fewer_from s t (Some port) j n e = ap (λ z. queue_at z port) n ∙ none_at s.ports j port e

pub none_from : (s : Switched) (o : Option ℕ) → o ≡ None → waiting_by s o ≡ drop 1 (waiting_by s o)
none_from s o e = ap (λ z. waiting_by s z) e ∙ sym (ap (λ z. drop 1 (waiting_by s z)) e)

pub first_at : (s : Switched) (o : Option ℕ) (port : ℕ) (first : Option (ArrayVec ℕ)) → o ≡ Some port → first ≡ slice_get (queue_at s port) 0 → slice_get (waiting_by s o) 0 ≡ first
first_at s o port first e f = ap (λ z. slice_get (waiting_by s z) 0) e ∙ sym f
