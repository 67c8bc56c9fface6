-- Two clients that speak alike of the service in hand: it is over for both, or for none.
use Rattle.std.proofs.Common.{◌≡◌, Bool, true, Option, Some, None, List, refl, sym, ap, ◌∙◌, subst}
use Rattle.std.specs.Prelude.{drop, length}
use Rattle.slave_server.specs.of_slave_model.Moments.{IsFree, NoneLeft, NowAnswered}
use Rattle.slave_server.specs.of_exchange_model.Exchange.{Speech, plain}
use Rattle.slave_server.specs.of_exchange_model.Rows.{Row, answer_after, left}
use Rattle.slave_server.specs.of_segment_model.Seats.{Side}
use Rattle.slave_server.specs.of_state_model.Accounts.{is_free}
use Rattle.plan_ring.specs.Alike.{Alike, RowIs}
use Rattle.plan_ring.proofs.Alike.{over_same, done_same}

module _ {M P T : Type 0} (is : P → Bool) (y z : Speech M P T) (same : Alike is y z) (d : Side M P T) where
  pub left_same : (r : Row M P T) → is r.service ≡ true → left y r ≡ left z r
  left_same r k = ap (λ (l : List M). drop (length r.told) l) (ap (λ (e : M → Bool). y.planned r.service (plain e r.heard)) same.emission ∙ same.planned r.service (plain z.emission r.heard) k)

  ends_same : (r : Row M P T) → is r.service ≡ true → y.ends r.service (plain y.emission r.heard) ≡ z.ends r.service (plain z.emission r.heard)
  ends_same r k = ap (λ (e : M → Bool). y.ends r.service (plain e r.heard)) same.emission ∙ same.ends r.service (plain z.emission r.heard) k

  pub in_hand : (now : Option (Row M P T)) → RowIs is now → (r : Row M P T) → now ≡ Some r → is r.service ≡ true
  in_hand None row r e = absurd (let no : None ≡ Some r = e in cc)
  in_hand (Some t) row r e = let one : t ≡ r = (let both : Some t ≡ Some r = e in cc) in subst (λ (k : Row M P T). is k.service ≡ true) one row

  free_same : (now : Option (Row M P T)) → RowIs is now → is_free y d now ≡ is_free z d now
  free_same None row = refl
  free_same (Some r) row = over_same is y z same d.halves.out.holding d.fresh r row

  pub free_alike : (acknowledged : P → Bool) → RowIs is d.now → IsFree y acknowledged d → IsFree z acknowledged d
  free_alike acknowledged row f = record { free = sym (free_same d.now row) ∙ f.free; done = sym (done_same is y z same acknowledged d d.now row) ∙ f.done }

  pub free_back : (acknowledged : P → Bool) → RowIs is d.now → IsFree z acknowledged d → IsFree y acknowledged d
  free_back acknowledged row f = record { free = free_same d.now row ∙ f.free; done = done_same is y z same acknowledged d d.now row ∙ f.done }

  pub left_alike : RowIs is d.now → NoneLeft y d → NoneLeft z d
  left_alike row none = λ r e. sym (left_same r (in_hand d.now row r e)) ∙ none r e

  pub answered_alike : RowIs is d.now → NowAnswered y d → NowAnswered z d
  answered_alike row said = λ r e frame. ap (answer_after frame r.answer) (sym (ends_same r (in_hand d.now row r e))) ∙ said r e frame
