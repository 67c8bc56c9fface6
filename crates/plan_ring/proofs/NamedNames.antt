-- A client by other names of its services.
use Rattle.std.proofs.Common.{◌≡◌, ◌&&◌, Bool, true, false, refl, sym, ap, ◌∙◌}
use Rattle.std.specs.Prelude.{drop, length}
use Rattle.slave_server.specs.of_exchange_model.Exchange.{Exchange, Speech, given, plain}
use Rattle.plan_ring.specs.Named.{Naming, Agrees, named}
use Rattle.slave_server.specs.of_slave_model.Waits.{NeverWaits}

both_parts : (a b : Bool) → (a && b) ≡ true → (a ≡ true) × (b ≡ true)
both_parts true b e = (refl, e)
both_parts false b e = absurd (cc)

module _ {V A M Q R P T : Type 0} (x : Exchange V A M Q R) (n : Naming Q R P T) (y : Speech M P T) (agrees : Agrees x n y) (never : NeverWaits x) where
  pub named_never : NeverWaits (named x n y)
  named_never v q ready valid p r e none =
      let parts = both_parts (n.is q) (y.valid q) valid in
      never v (n.service q) ready (agrees.valid q parts.0 parts.1) p r e
      (ap (drop (length p)) (sym (agrees.planned q (plain x.speech.emission (given x.serve v p)) parts.0)) ∙ none)
