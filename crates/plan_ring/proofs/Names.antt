-- A client by other names of its services hears first too; and what is due to it is so to one that speaks alike of the service in hand.
use Rattle.std.proofs.Common.{◌≡◌, ◌&&◌, Bool, true, false, Option, Some, None, List, [], ◌∷◌, ◌++◌, refl, ap, ◌∙◌, inl, inr}
use Rattle.std.specs.Prelude.{drop, length}
use Rattle.slave_server.specs.of_exchange_model.Exchange.{Exchange, Speech, plain}
use Rattle.slave_server.specs.of_exchange_model.Rows.{Row}
use Rattle.slave_server.specs.of_slave_model.Hears.{HearsFirst}
use Rattle.run_frames.specs.of_master_side.Due.{IsReply, IsAwaited, IsDue, EachDue}
use Rattle.plan_ring.specs.Alike.{Alike, RowIs}
use Rattle.plan_ring.specs.Named.{Naming, Agrees, named}

both_parts : (a b : Bool) → (a && b) ≡ true → (a ≡ true) × (b ≡ true)
both_parts true b e = (refl, e)
both_parts false b e = absurd (cc)

module _ {V A M Q R P T : Type 0} (x : Exchange V A M Q R) (n : Naming Q R P T) (y : Speech M P T) (agrees : Agrees x n y) (hears : HearsFirst x) where
  pub named_hears : HearsFirst (named x n y)
  named_hears v q ready valid p r e hs b more comes =
      let parts = both_parts (n.is q) (y.valid q) valid in
      ap (drop (length p)) (agrees.planned q hs parts.0) ∙ hears v (n.service q) ready (agrees.valid q parts.0 parts.1) p r e hs b more comes

module _ {M P T : Type 0} (is : P → Bool) (y z : Speech M P T) (same : Alike is y z) where
  reply_alike : (r : Row M P T) (b : M) → is r.service ≡ true → IsReply z r b → IsReply y r b
  reply_alike r b k d = record {
    told = ap (λ (e : M → Bool). drop (length r.told) (y.planned r.service (plain e r.heard))) same.emission ∙ ap (drop (length r.told)) (same.planned r.service (plain z.emission r.heard) k) ∙ d.told;
    unanswered = d.unanswered;
    rest = d.rest;
    reply = d.reply;
    ends = ap (λ (e : M → Bool). y.ends r.service (plain e r.heard ++ b ∷ d.rest)) same.emission ∙ same.ends r.service (plain z.emission r.heard ++ b ∷ d.rest) k ∙ d.ends;
  }

  awaited_alike : (now : Option (Row M P T)) (b : M) → RowIs is now → IsAwaited z now b → IsAwaited y now b
  awaited_alike None b k d = tt
  awaited_alike (Some r) b k d = reply_alike r b k d

  one_alike : (now : Option (Row M P T)) (b : M) → RowIs is now → IsDue z now b → IsDue y now b
  one_alike now b k (inl e) = inl (ap (λ (f : M → Bool). f b) same.emission ∙ e)
  one_alike now b k (inr d) = inr (awaited_alike now b k d)

  pub due_alike : (now : Option (Row M P T)) (bs : List M) → RowIs is now → EachDue z now bs → EachDue y now bs
  due_alike now [] k d = tt
  due_alike now (b ∷ bs) k d = one_alike now b k d
