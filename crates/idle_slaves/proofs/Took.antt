-- What begins is in hand: a state service, or the first mail of a service by mails.
use Rattle.std.proofs.Common.{◌≡◌, ℕ, ◌+◌, Bool, true, false, Option, Some, None, List, [], ◌∷◌, ◌++◌, length, refl, sym, ap, ◌∙◌, subst, arith, length-append, if◌then◌else◌}
use Rattle.std.specs.Prelude.{◌&&◌}
use Rattle.plan_ring.specs.of_exchange_model.Exchange.{Exchange, Speech, IsLawful, given, plain}
use Rattle.plan_ring.specs.of_exchange_model.Rows.{Row, begun}
use Rattle.plan_ring.specs.of_life_runs.Led.{Comes}
use Rattle.plan_ring.specs.of_master_hand.Spoken.{Asked}
use Rattle.plan_ring.specs.Alike.{WishIs}
use Rattle.plan_ring.specs.of_slave_model.Waits.{NeverWaits}
use Rattle.plan_ring.specs.Asked.{is_service}
use Rattle.plan_ring.proofs.Turns.{wish_is}
use Rattle.plan_ring.specs.of_segment_model.Seats.{Side, side_begins, side_holds, side_next, next_mail, is_over}
use Rattle.plan_ring.specs.of_segment_plan.declared.service.Service as Plan
use Rattle.plan_ring.specs.of_state_model.Stated.{Service}
use Rattle.plan_ring.specs.of_state_model.Accounts.{Account, Duty, Started, Pick, account_begins, mails_begin, mails_choice, starts, state_begins, is_free, is_acknowledged}

-- a client's first mail
pub first_mail : {V A M Q R : Type 0} (x : Exchange V A M Q R) → IsLawful x → NeverWaits x → (v : V) (q : Q) → x.ready v ≡ true → x.speech.valid q ≡ true → {X : Type 0} → x.speech.planned q [] ≡ [] → X
first_mail {V} {A} {M} {Q} {R} x law never v q ready valid e = go (x.speech.handed q) refl
  where
    none : x.full v q ≡ []
    none = never v q ready valid [] (x.full v q) refl e

    go : {X : Type 0} (b : Bool) → x.speech.handed q ≡ b → X
    go true h = absurd (law.some v q ready valid h none)
    go false h = absurd (
        let reply : x.speech.ends q [] ≡ Some (x.reply (x.app v) q) = sym (ap (λ l. x.speech.ends q (plain x.speech.emission (given x.serve v l))) none) ∙ law.replied v q ready valid h in
        let no_ : None ≡ Some (x.reply (x.app v) q) = sym (law.none q) ∙ reply in cc
        )

module _ {M Q R : Type 0} (x : Speech M Q R) (acknowledged : Q → Bool) (frame : ℕ) (d : Side M Q R) (a : Account Q R) where
  not_longer : {X : Type 0} (s : Service Q) → a.started ≡ starts a s frame → X
  not_longer s e =
      let one : List (Started Q) = record { service = s; frame = frame } ∷ [] in
      let long = length-append a.started one in
      let same = ap length e in
      absurd (omega (arith, long, same))

  pub state_took : {X : Type 0} (hand : Option Duty) (target : ℕ) → (let b = account_begins x acknowledged frame d a hand (Some (Service.State target)) in b.started ≡ starts a (Service.State target) frame → b.hand ≡ None → X)
  state_took (Some duty) target took none = not_longer (Service.State target) took
  state_took {X} None target took none = go (is_free x d d.now && is_acknowledged x acknowledged d d.now) took none
    where
      go : (b : Bool) → (let k = (if b then state_begins a target frame else a) in k.started ≡ starts a (Service.State target) frame → k.hand ≡ None → X)
      go true took none = absurd (let never : Some _ ≡ None = none in cc)
      go false took none = not_longer (Service.State target) took

  -- a service by mails may begin
  pub record Begins (hand : Option Duty) (q : Q) : Type 0 where
    pub none : hand ≡ None
    pub valid : x.valid q ≡ true
    pub free : is_free x d d.now ≡ true

  pub mails_took : (hand : Option Duty) (q : Q) → (let b = account_begins x acknowledged frame d a hand (Some (Service.Mails q)) in b.started ≡ starts a (Service.Mails q) frame → Begins hand q)
  mails_took (Some duty) q took = not_longer (Service.Mails q) took
  mails_took None q took = go (x.valid q) (is_free x d d.now) refl refl took
    where
      go : (v f : Bool) → x.valid q ≡ v → is_free x d d.now ≡ f → (if v && f then record a { started = starts a (Service.Mails q) frame } else a).started ≡ starts a (Service.Mails q) frame → Begins None q
      go true true v f took = record { none = refl; valid = v; free = f }
      go true false v f took = not_longer (Service.Mails q) took
      go false f v g took = not_longer (Service.Mails q) took

  begun_now : (now : Option (Row M Q R)) (q : Q) → x.valid q ≡ true → is_free x d now ≡ true → (side_begins x frame d now (Some q)).now ≡ Some (begun q frame)
  begun_now None q valid free = ap (λ (b : Bool). (if b then record d { now = Some (begun q frame) } else d).now) valid
  begun_now (Some r) q valid free =
      ap (λ (b : Bool). (if b && is_over x d.halves.out.holding d.fresh r then record d { past = d.past ++ r ∷ []; now = Some (begun q frame) } else d).now) valid
      ∙ ap (λ (b : Bool). (if b then record d { past = d.past ++ r ∷ []; now = Some (begun q frame) } else d).now) free

  held_none : (e : Side M Q R) (ms : List M) → (side_holds e ms).halves.out.holding ≡ None → (side_holds e ms).now ≡ e.now
  held_none e [] none = refl
  held_none e (m ∷ ms) none = absurd (let never : Some _ ≡ None = none in cc)

  pub begun_row : (q : Q) (pick : Pick Q) → pick.begin ≡ Some (Service.Mails q) → Begins a.hand q → (let u = side_next x frame d (mails_choice a pick) in u.halves.out.holding ≡ None → u.now ≡ Some (begun q frame))
  begun_row q pick wish k none =
      let chosen : mails_begin a.hand pick.begin ≡ Some q = (λ i. mails_begin (k.none i) (wish i)) in
      let e = side_begins x frame d d.now (mails_begin a.hand pick.begin) in
      held_none e (next_mail x e.now e.halves.out.holding pick.hold) none ∙ ap (λ b. (side_begins x frame d d.now b).now) chosen ∙ begun_now d.now q k.valid k.free

-- what comes into hand is one of the slave's services
pub mails_is : (room : ℕ) (script : List Plan.Service) (n : ℕ) (q : Asked) (b : Option (Service Asked)) (k : ℕ) → Comes room script n b k → b ≡ Some (Service.Mails q) → is_service q ≡ true
mails_is room script n q b k comes e = subst (λ z. WishIs is_service z) e (wish_is room script n b k comes)
