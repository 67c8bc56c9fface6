-- By a master's rule at a visit: where a state service might begin behind a write in vain, none is left.
use Rattle.std.proofs.Common.{◌≡◌, ℕ, ◌&&◌, Bool, true, false, Option, Some, None, List, [], ◌∷◌, length, length-append, refl, sym, ap, ◌∙◌, subst, arith, if◌then◌else◌}
use Rattle.plan_ring.specs.of_slave_model.Moments.{IsFree, HeldStill, NowAnswered}
use Rattle.plan_ring.proofs.of_slave_model.Laws.{answered, begun}
use Rattle.plan_ring.proofs.of_slave_model.Ready.{ready}
use Rattle.plan_ring.specs.of_exchange_model.Exchange.{Exchange, Speech, IsLawful}
use Rattle.plan_ring.specs.of_exchange_model.Rows.{Row, ends_unheard, left}
use Rattle.idle_slaves.specs.Held.{Took}
use Rattle.plan_ring.specs.of_life_model.Eras.{EraIs}
use Rattle.plan_ring.specs.of_life_model.Lives.{Spot, Era, era_next, granted, passing_begins}
use Rattle.plan_ring.specs.Alike.{Alike, RowIs}
use Rattle.plan_ring.proofs.Alike.{unheard_same}
use Rattle.plan_ring.proofs.NamedAlike.{left_same, in_hand}
use Rattle.plan_ring.specs.of_segment_model.Ends.{Passing}
use Rattle.plan_ring.specs.of_segment_model.Record.{Frame}
use Rattle.plan_ring.specs.of_segment_model.Seats.{Side, side_back, side_next}
use Rattle.plan_ring.specs.of_segment_model.Slaves.{Datagram, Processor, Registers, Slave}
use Rattle.plan_ring.specs.of_state_model.Stated.{Stated, IsStated, Service}
use Rattle.plan_ring.specs.of_state_model.States.{Table}
use Rattle.plan_ring.specs.of_state_model.Accounts.{Account, Duty, Pick, account_begins, is_free, is_acknowledged, mails_begin, starts, state_begins}

granted_none : {Q : Type 0} (passing : Option Passing) (pick : Pick Q) → pick.begin ≡ None → (granted passing pick).begin ≡ None
granted_none None pick none = none
granted_none (Some p) pick none = refl

-- a state service that began is in hand
module _ {M Q R : Type 0} (x : Speech M Q R) (acknowledged : Q → Bool) (frame : ℕ) (d : Side M Q R) (a : Account Q R) (target : ℕ) where
  same_not : a.started ≡ starts a (Service.State target) frame → ⊥
  same_not e = absurd (omega (arith, ap length e, length-append a.started (record { service = Service.State target; frame = frame } ∷ [])))

  some_hand : (b : Bool) → (if b then state_begins a target frame else a).started ≡ starts a (Service.State target) frame → (if b then state_begins a target frame else a).hand ≡ None → ⊥
  some_hand true e none = absurd (cc)
  some_hand false e none = same_not e

  state_hand : (hand : Option Duty) → (account_begins x acknowledged frame d a hand (Some (Service.State target))).started ≡ starts a (Service.State target) frame → (account_begins x acknowledged frame d a hand (Some (Service.State target))).hand ≡ None → ⊥
  state_hand (Some duty) took none = same_not took
  state_hand None took none = some_hand (is_free x d d.now && is_acknowledged x acknowledged d d.now) took none

-- OF A SERVICE THAT HAS ITS ANSWER it is known that it was told whole
module _ {M Q R : Type 0} (y : Speech M Q R) (acknowledged : Q → Bool) (e : Era M Q R) (said : NowAnswered y e.side)
    (known : e.account.hand ≡ None → (t : Row M Q R) → e.side.now ≡ Some t → (answer : R × ℕ) → t.answer ≡ Some answer → ends_unheard y acknowledged t ≡ false → (left y t ≡ []) × (e.side.fresh ≡ false))
    (more : M → Bool) (passed : Q → Bool) (frame : ℕ) (pick : Pick Q) (station : ℕ) (back : List (Datagram M)) (Left : Type 0) where
  abbrev u : Era M Q R
  u = era_next y acknowledged more passed frame e pick

  abbrev k : Side M Q R
  k = side_back y frame station back u.side

  abbrev grant : Pick Q
  grant = granted e.passing pick

  before : e.account.hand ≡ None → pick.begin ≡ None → HeldStill station back u.side k → IsFree y acknowledged k → IsFree y acknowledged e.side
  before hand none h f =
      let wish : mails_begin e.account.hand grant.begin ≡ None = ap (mails_begin e.account.hand) (granted_none e.passing pick none) in
      let Goal : Option Q → Type 0 = λ w. (let d = side_next y frame e.side (record { begin = w; hold = grant.hold }) in let j = side_back y frame station back d in HeldStill station back d j → IsFree y acknowledged j → IsFree y acknowledged e.side) in
      subst Goal (sym wish) (λ g free. ready y acknowledged e.side said (known hand) frame station back e.side.halves.out.holding grant.hold g free) h f

  by_begin : e.passing ≡ None → (w : Option (Service Q)) → pick.begin ≡ w → (IsFree y acknowledged e.side → e.account.hand ≡ None → e.passing ≡ None → pick.begin ≡ None → Left) → ((q : Q) → pick.begin ≡ Some (Service.Mails q) → y.ends q [] ≡ None) →
      ((z : Service Q) → pick.begin ≡ Some z → u.account.started ≡ starts e.account z frame) → u.account.hand ≡ None → HeldStill station back u.side k → IsFree y acknowledged k → Left
  by_begin unpassed None wish rule silent took none h f =
      let hand : e.account.hand ≡ None = sym (ap (λ z. (account_begins y acknowledged frame e.side e.account e.account.hand z).hand) (granted_none e.passing pick wish)) ∙ none in
      rule (before hand wish h f) hand unpassed wish
  by_begin unpassed (Some (Service.Mails q)) wish rule silent took none h f =
      absurd (begun y acknowledged more passed e frame pick q station back (silent q wish) unpassed wish (took (Service.Mails q) wish) h f)
  by_begin unpassed (Some (Service.State target)) wish rule silent took none h f =
      let began : grant.begin ≡ Some (Service.State target) = ap (λ z. (granted z pick).begin) unpassed ∙ wish in
      absurd (state_hand y acknowledged frame e.side e.account target e.account.hand
      (sym (ap (λ z. (account_begins y acknowledged frame e.side e.account e.account.hand z).started) began) ∙ took (Service.State target) wish)
      (sym (ap (λ z. (account_begins y acknowledged frame e.side e.account e.account.hand z).hand) began) ∙ none))

  -- none is passed on behind it only where none was before
  unpassed_before : (p : Option Passing) → passing_begins y acknowledged more passed p e.account u.account (granted p pick).begin ≡ None → p ≡ None
  unpassed_before None none = refl
  unpassed_before (Some p) none = none

  pub ends_known : (IsFree y acknowledged e.side → e.account.hand ≡ None → e.passing ≡ None → pick.begin ≡ None → Left) → ((q : Q) → pick.begin ≡ Some (Service.Mails q) → y.ends q [] ≡ None) →
      ((z : Service Q) → pick.begin ≡ Some z → u.account.started ≡ starts e.account z frame) → u.account.hand ≡ None → u.passing ≡ None → HeldStill station back u.side k → IsFree y acknowledged k → Left
  ends_known rule silent took hand unpassed = by_begin (unpassed_before e.passing unpassed) pick.begin refl rule silent took hand

-- SO IT IS OF AN EPOCH
module _ {V A M Q R : Type 0} (x : Exchange V A M Q R) (s : Stated V A Q) (processor : Processor V) (table : ℕ → Table) (spot : Spot) (e : Era M Q R) (opened last : ℕ) (fs : List (Frame M)) (v : V) (r : Registers) (slave : Slave V M)
    (law : IsLawful x) (stated : IsStated x s) (lived : EraIs x s processor table spot e opened last fs v r slave) (is : Q → Bool) (y : Speech M Q R) (same : Alike is y x.speech) (row : RowIs is e.side.now) where
  pub known : e.account.hand ≡ None → (t : Row M Q R) → e.side.now ≡ Some t → (answer : R × ℕ) → t.answer ≡ Some answer → ends_unheard y s.acknowledged t ≡ false → (left y t ≡ []) × (e.side.fresh ≡ false)
  known hand t now answer has quiet =
      let own = in_hand is y x.speech same e.side e.side.now row t now in
      let k = answered x s processor table spot e opened last fs v r slave law stated lived hand t now answer has (sym (unheard_same is y x.speech same s.acknowledged t own) ∙ quiet) in
      (left_same is y x.speech same e.side t own ∙ k.0, k.1)

  pub ends : NowAnswered y e.side → (more : M → Bool) (passed : Q → Bool) (frame : ℕ) (pick : Pick Q) (station : ℕ) (back : List (Datagram M)) (Left : Type 0) → (IsFree y s.acknowledged e.side → e.account.hand ≡ None → e.passing ≡ None → pick.begin ≡ None → Left) →
      Took y s.acknowledged is more passed frame e pick → (let u = era_next y s.acknowledged more passed frame e pick in let k = side_back y frame station back u.side in u.account.hand ≡ None → u.passing ≡ None → HeldStill station back u.side k → IsFree y s.acknowledged k → Left)
  ends said more passed frame pick station back Left rule took hand unpassed h f =
      ends_known y s.acknowledged e said known more passed frame pick station back Left rule (λ q wish. same.ends q [] (took (Service.Mails q) wish).0 ∙ law.none q) (λ z wish. (took z wish).1) hand unpassed h f
