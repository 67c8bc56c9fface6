-- The laws at the life of a slave.
use Rattle.std.proofs.Common.{◌≡◌, ℕ, false, Bool, Option, Some, None, List, [], refl, sym, ap, ◌∙◌, subst}
use Rattle.protocol_models.specs.of_exchange_model.Exchange.{Exchange, Speech, IsLawful}
use Rattle.protocol_models.specs.of_exchange_model.Rows.{Row, ends_unheard, left}
use Rattle.life_model.specs.Eras.{EraIs}
use Rattle.life_model.specs.Lives.{Spot, Era, era_next, granted}
use Rattle.slave_model.specs.Waits.{NeverWaits}
use Rattle.life_model.specs.of_segment_model.Ends.{Passing}
use Rattle.life_model.specs.of_segment_model.Laws.{IsSettled}
use Rattle.life_model.specs.of_segment_model.Record.{Frame}
use Rattle.life_model.specs.of_segment_model.Seats.{Side, side_back, side_next}
use Rattle.life_model.specs.of_segment_model.Slaves.{Datagram, Processor, Registers, Slave}
use Rattle.life_model.specs.of_state_model.Stated.{Stated, IsStated, Service}
use Rattle.life_model.specs.of_state_model.States.{Table}
use Rattle.life_model.specs.of_state_model.Accounts.{Account, Pick, account_begins, mails_begin, starts}
use Rattle.slave_model.specs.Moments.{IsFree, HasNothing, HeldStill, IsMailsLast, NowAnswered, NoneLeft, WasHeard}
use Rattle.slave_model.proofs.Eras.{of_era}
use Rattle.slave_model.proofs.Ready.{ready, begun_none, state_free}
use Rattle.slave_model.proofs.Seats.{answered_known, free, heard_whole}

module _ {V A M Q R : Type 0} (x : Exchange V A M Q R) (s : Stated V A Q) (processor : Processor V) (table : ℕ → Table) (spot : Spot) (e : Era M Q R) (opened last : ℕ) (fs : List (Frame M)) (v : V) (r : Registers) (slave : Slave V M)
    (law : IsLawful x) (stated : IsStated x s) (is : EraIs x s processor table spot e opened last fs v r slave) where
  abbrev Answered : Side M Q R → Account Q R → Type 0
  Answered d a = a.hand ≡ None → (row : Row M Q R) → d.now ≡ Some row → (answer : R × ℕ) → row.answer ≡ Some answer → ends_unheard x.speech s.acknowledged row ≡ false → (left x.speech row ≡ []) × (d.fresh ≡ false)

  pub answered : Answered e.side e.account
  answered = of_era x law s stated processor table (λ d a n. Answered d a)
      (λ t begun sits gs seat a h unsent. λ hand row now answer said quiet. (let k = answered_known x law s stated t (λ m. false) begun sits gs seat a h unsent hand row now answer said quiet in (k.left, k.sent)))
      spot e opened last fs v r slave is

  abbrev Nothing : Side M Q R → Account Q R → Slave V M → Type 0
  Nothing d a n = IsSettled n → d.halves.out.holding ≡ None → d.halves.inn.state ≡ e.side.halves.inn.state → a.hand ≡ None → NoneLeft x.speech d → NowAnswered x.speech d → IsFree x.speech s.acknowledged d

  pub nothing : NeverWaits x → HasNothing x.speech e slave → IsFree x.speech s.acknowledged e.side
  nothing never k = of_era x law s stated processor table Nothing
      (λ t begun sits gs seat a h unsent. λ settled held clear hand none said.
      (let f = free x law s stated t (λ m. false) begun sits gs seat a h unsent hand never settled held (clear ∙ k.clear) (λ row now. (none row now, said row now)) in
      record { free = f.0; done = f.1 }))
      spot e opened last fs v r slave is k.settled k.held refl k.hand k.left k.answered

  abbrev Heard : Side M Q R → Account Q R → Slave V M → Type 0
  Heard d a n = IsSettled n → d.halves.out.holding ≡ None → d.halves.inn.state ≡ e.side.halves.inn.state → a.hand ≡ None → NoneLeft x.speech d → IsMailsLast a.started → (row : Row M Q R) → d.now ≡ Some row → WasHeard x row

  pub heard : NeverWaits x → HasNothing x.speech e slave → IsMailsLast e.account.started → (row : Row M Q R) → e.side.now ≡ Some row → WasHeard x row
  heard never k mails row now = of_era x law s stated processor table Heard
      (λ t begun sits gs seat a h unsent. λ settled held clear hand none last r is. heard_whole x law s stated t (λ m. false) begun sits gs seat a h unsent hand never settled held (clear ∙ k.clear) last r is (none r is))
      spot e opened last fs v r slave is k.settled k.held refl k.hand k.left mails row now

  granted_none : (passing : Option Passing) (pick : Pick Q) → pick.begin ≡ None → (granted passing pick).begin ≡ None
  granted_none None pick none = none
  granted_none (Some p) pick none = refl

  granted_hold : (passing : Option Passing) (pick : Pick Q) → (granted passing pick).hold ≡ pick.hold
  granted_hold None pick = refl
  granted_hold (Some p) pick = refl

  pub before : (more : M → Bool) (passed : Q → Bool) (frame : ℕ) (pick : Pick Q) (station : ℕ) (back : List (Datagram M)) → NowAnswered x.speech e.side → e.account.hand ≡ None → pick.begin ≡ None →
      (let d = (era_next x.speech s.acknowledged more passed frame e pick).side in let k = side_back x.speech frame station back d in HeldStill station back d k → IsFree x.speech s.acknowledged k → IsFree x.speech s.acknowledged e.side)
  before more passed frame pick station back said hand none h free_ =
      let p = granted e.passing pick in
      let wish : mails_begin e.account.hand p.begin ≡ None = ap (mails_begin e.account.hand) (granted_none e.passing pick none) in
      let Goal : Option Q → Type 0 = λ w. (let d = side_next x.speech frame e.side (record { begin = w; hold = p.hold }) in let k = side_back x.speech frame station back d in HeldStill station back d k → IsFree x.speech s.acknowledged k → IsFree x.speech s.acknowledged e.side) in
      subst Goal (sym wish) (λ g f. ready x.speech s.acknowledged e.side said (λ row now answer has quiet. answered hand row now answer has quiet) frame station back e.side.halves.out.holding p.hold g f) h free_

pub begun : {M Q R : Type 0} (x : Speech M Q R) (acknowledged : Q → Bool) (more : M → Bool) (passed : Q → Bool) (e : Era M Q R) (frame : ℕ) (pick : Pick Q) (q : Q) (station : ℕ) (back : List (Datagram M)) → x.ends q [] ≡ None → e.passing ≡ None → pick.begin ≡ Some (Service.Mails q) →
    (let u = era_next x acknowledged more passed frame e pick in let k = side_back x frame station back u.side in u.account.started ≡ starts e.account (Service.Mails q) frame → HeldStill station back u.side k → IsFree x acknowledged k → ⊥)
begun {M} {Q} {R} x acknowledged more passed e frame pick q station back silent unpassed wish took h f =
    let p = granted e.passing pick in
    let began : p.begin ≡ Some (Service.Mails q) = ap (λ z. (granted z pick).begin) unpassed ∙ wish in
    let Goal : Option (Service Q) → Type 0 = λ b. ((account_begins x acknowledged frame e.side e.account e.account.hand b).started ≡ starts e.account (Service.Mails q) frame →
    (let u = side_next x frame e.side (record { begin = mails_begin e.account.hand b; hold = p.hold }) in let k = side_back x frame station back u in HeldStill station back u k → IsFree x acknowledged k → ⊥)) in
    subst Goal (sym began) (begun_none x acknowledged q silent e frame p.hold station back e.account.hand) took h f

pub state : {M Q R : Type 0} (x : Speech M Q R) (acknowledged : Q → Bool) (more : M → Bool) (passed : Q → Bool) (e : Era M Q R) (frame : ℕ) (pick : Pick Q) (target : ℕ) → e.passing ≡ None → pick.begin ≡ Some (Service.State target) →
    (era_next x acknowledged more passed frame e pick).account.started ≡ starts e.account (Service.State target) frame → (e.account.hand ≡ None) × IsFree x acknowledged e.side
state {M} {Q} {R} x acknowledged more passed e frame pick target unpassed wish took =
    let began : (granted e.passing pick).begin ≡ Some (Service.State target) = ap (λ z. (granted z pick).begin) unpassed ∙ wish in
    let Goal : Option (Service Q) → Type 0 = λ b. ((account_begins x acknowledged frame e.side e.account e.account.hand b).started ≡ starts e.account (Service.State target) frame → (e.account.hand ≡ None) × IsFree x acknowledged e.side) in
    subst Goal (sym began) (state_free x acknowledged frame e.side e.account target e.account.hand) took
