-- What the laws say of the newest service of an open slave.
use Rattle.std.specs.Prelude.{◌≡◌, ℕ, false, Bool, Some, None, List, []}
use Rattle.protocol_models.specs.of_exchange_model.Exchange.{Exchange, Speech, IsLawful}
use Rattle.protocol_models.specs.of_exchange_model.Rows.{Row, ends_unheard, left}
use Rattle.life_model.specs.Eras.{EraIs}
use Rattle.life_model.specs.Lives.{Spot, Era, era_next}
use Rattle.slave_model.specs.Waits.{NeverWaits}
use Rattle.life_model.specs.of_segment_model.Record.{Frame}
use Rattle.life_model.specs.of_segment_model.Seats.{side_back}
use Rattle.life_model.specs.of_segment_model.Slaves.{Datagram, Processor, Registers, Slave}
use Rattle.life_model.specs.of_state_model.Stated.{Stated, IsStated, Service}
use Rattle.life_model.specs.of_state_model.States.{Table}
use Rattle.life_model.specs.of_state_model.Accounts.{Pick, starts}
use Rattle.slave_model.specs.Moments.{IsFree, IsMailsLast, HasNothing, HeldStill, NowAnswered, WasHeard}

-- the newest service has its answer, and ends with no acknowledgement: it was told whole, and each of its mails was sent
abbrev pub ToldWhole : {V A M Q R : Type 0} → Exchange V A M Q R → Stated V A Q → Era M Q R → Type 0
ToldWhole {V} {A} {M} {Q} {R} x s e =
    e.account.hand ≡ None → (row : Row M Q R) → e.side.now ≡ Some row → (answer : R × ℕ) → row.answer ≡ Some answer →
    ends_unheard x.speech s.acknowledged row ≡ false → (left x.speech row ≡ []) × (e.side.fresh ≡ false)

-- of every epoch of a slave, behind any frames: what has its answer was told whole
abbrev pub AnsweredIsTold : (V A M Q R : Type 0) → Type 0
AnsweredIsTold V A M Q R =
    (x : Exchange V A M Q R) (s : Stated V A Q) (processor : Processor V) (table : ℕ → Table) (spot : Spot) (e : Era M Q R) (opened last : ℕ)
    (fs : List (Frame M)) (v : V) (r : Registers) (slave : Slave V M) → IsLawful x → IsStated x s →
    EraIs x s processor table spot e opened last fs v r slave → ToldWhole x s e

-- of every epoch of a slave, if no client waits in vain: where nothing is left of the slave, its newest service is over
abbrev pub NothingIsFree : (V A M Q R : Type 0) → Type 0
NothingIsFree V A M Q R =
    (x : Exchange V A M Q R) (s : Stated V A Q) (processor : Processor V) (table : ℕ → Table) (spot : Spot) (e : Era M Q R) (opened last : ℕ)
    (fs : List (Frame M)) (v : V) (r : Registers) (slave : Slave V M) → IsLawful x → IsStated x s → NeverWaits x →
    EraIs x s processor table spot e opened last fs v r slave → HasNothing x.speech e slave → IsFree x.speech s.acknowledged e.side

-- what is over behind a visit that brought nothing and began nothing was over before it
abbrev pub WasFree : {V A M Q R : Type 0} → Exchange V A M Q R → Stated V A Q → Era M Q R → Type 0
WasFree {V} {A} {M} {Q} {R} x s e =
    (more : M → Bool) (passed : Q → Bool) (frame : ℕ) (pick : Pick Q) (station : ℕ) (back : List (Datagram M)) → NowAnswered x.speech e.side →
    e.account.hand ≡ None → pick.begin ≡ None → (let d = (era_next x.speech s.acknowledged more passed frame e pick).side in
    let k = side_back x.speech frame station back d in HeldStill station back d k → IsFree x.speech s.acknowledged k → IsFree x.speech s.acknowledged e.side)

-- of every epoch of a slave: no service becomes over by a visit that brought nothing, with its mail still held
abbrev pub NothingFrees : (V A M Q R : Type 0) → Type 0
NothingFrees V A M Q R =
    (x : Exchange V A M Q R) (s : Stated V A Q) (processor : Processor V) (table : ℕ → Table) (spot : Spot) (e : Era M Q R) (opened last : ℕ)
    (fs : List (Frame M)) (v : V) (r : Registers) (slave : Slave V M) → IsLawful x → IsStated x s →
    EraIs x s processor table spot e opened last fs v r slave → WasFree x s e

-- behind a visit that brought nothing, with which a service by mails came into hand whose mail is still held, it isn't over
abbrev pub BegunIsHeld : (M Q R : Type 0) → Type 0
BegunIsHeld M Q R =
    (x : Speech M Q R) (acknowledged : Q → Bool) (more : M → Bool) (passed : Q → Bool) (e : Era M Q R) (frame : ℕ) (pick : Pick Q) (q : Q) (station : ℕ)
    (back : List (Datagram M)) → x.ends q [] ≡ None → e.passing ≡ None → pick.begin ≡ Some (Service.Mails q) →
    (let u = era_next x acknowledged more passed frame e pick in let k = side_back x frame station back u.side in
    u.account.started ≡ starts e.account (Service.Mails q) frame → HeldStill station back u.side k → IsFree x acknowledged k → ⊥)

-- where a state service came into hand, none was, and the newest service was over
abbrev pub StateWasFree : (M Q R : Type 0) → Type 0
StateWasFree M Q R =
    (x : Speech M Q R) (acknowledged : Q → Bool) (more : M → Bool) (passed : Q → Bool) (e : Era M Q R) (frame : ℕ) (pick : Pick Q) (target : ℕ) →
    e.passing ≡ None → pick.begin ≡ Some (Service.State target) →
    (era_next x acknowledged more passed frame e pick).account.started ≡ starts e.account (Service.State target) frame →
    (e.account.hand ≡ None) × IsFree x acknowledged e.side

-- of every epoch of a slave whose newest service is by mails, if no client waits in vain: where nothing is left of the slave, all replies of it were heard
abbrev pub NothingUnheard : (V A M Q R : Type 0) → Type 0
NothingUnheard V A M Q R =
    (x : Exchange V A M Q R) (s : Stated V A Q) (processor : Processor V) (table : ℕ → Table) (spot : Spot) (e : Era M Q R) (opened last : ℕ)
    (fs : List (Frame M)) (v : V) (r : Registers) (slave : Slave V M) → IsLawful x → IsStated x s → NeverWaits x →
    EraIs x s processor table spot e opened last fs v r slave → HasNothing x.speech e slave → IsMailsLast e.account.started → (row : Row M Q R) → e.side.now ≡ Some row → WasHeard x row
