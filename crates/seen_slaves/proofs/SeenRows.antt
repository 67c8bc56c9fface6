-- The AL state of a server in the middle of a row.
use Rattle.std.proofs.Common.{◌≡◌, ◌==◌, Bool, true, false, Option, Some, None, List, [], ◌∷◌, refl, sym, ◌∙◌, if◌then◌else◌}
use Rattle.idle_slaves.specs.of_exchange_model.Exchange.{Exchange, after}
use Rattle.served_rings.specs.of_serving_model.Tagged.{Rowed, ideal_in, ideal, real}
use Rattle.served_rings.specs.of_serving_model.TaggedStates.{IsStatedServed}
use Rattle.idle_slaves.specs.of_state_model.Stated.{Stated}

module _ {V M Q R : Type 0} (x : Exchange V V M Q R) (s : Stated V V Q) (k : IsStatedServed x s) where
  state_after : (v : V) (ms : List M) → s.state (after x.serve v ms) ≡ s.state v
  state_after v [] = refl
  state_after v (m ∷ ms) = state_after (x.serve v m).0 ms ∙ k.stays v m

  by_count : (base : V) (q : Q) (b : Bool) → s.state (if b then base else x.exec base q) ≡ s.state base
  by_count base q true = refl
  by_count base q false = k.keeps base q

  state_ideal : (base now : V) (hand : Option Q) → s.state (ideal_in x base now hand) ≡ s.state base
  state_ideal base now None = refl
  state_ideal base now (Some q) = by_count base q (x.handled now == x.handled base)

  pub state_real : (w : Rowed V M Q) → s.state (real x w) ≡ s.state (ideal x w)
  state_real w = state_after w.base w.part ∙ sym (state_ideal w.base (real x w) w.hand)
