-- A moment of an open epoch, with what was heard and what is left of the newest service.
use Rattle.std.specs.Prelude.{◌≡◌, ◌≢◌, ℕ, true, Bool, Some, None, List, [], ◌∷◌, ◌++◌}
use Rattle.protocol_models.specs.of_exchange_model.Exchange.{Exchange, Speech, given, plain}
use Rattle.protocol_models.specs.of_exchange_model.Rows.{Row, answer_after, left}
use Rattle.link_mails.specs.of_link_model.Frames.{all_accepted}
use Rattle.link_mails.specs.of_link_model.Master.{InState}
use Rattle.life_model.specs.Lives.{Era}
use Rattle.life_model.specs.of_segment_model.Laws.{IsSettled}
use Rattle.life_model.specs.of_segment_model.Seats.{Side}
use Rattle.life_model.specs.of_segment_model.Slaves.{Datagram, Slave, grams}
use Rattle.life_model.specs.of_state_model.Stated.{Service}
use Rattle.life_model.specs.of_state_model.Accounts.{Started, is_free, is_acknowledged}

-- the newest service by mails has the answer that the mails heard for it are
abbrev pub NowAnswered : {M Q R : Type 0} → Speech M Q R → Side M Q R → Type 0
NowAnswered {M} {Q} {R} x d = (r : Row M Q R) → d.now ≡ Some r → (frame : ℕ) → answer_after frame r.answer (x.ends r.service (plain x.emission r.heard)) ≡ r.answer

-- nothing is left to tell of it
abbrev pub NoneLeft : {M Q R : Type 0} → Speech M Q R → Side M Q R → Type 0
NoneLeft {M} {Q} {R} x d = (r : Row M Q R) → d.now ≡ Some r → left x r ≡ []

-- it is over, and the write of its acknowledgement is done: a state service may begin, where none is in hand
pub record IsFree {M Q R : Type 0} (x : Speech M Q R) (acknowledged : Q → Bool) (d : Side M Q R) : Type 0 where
  pub free : is_free x d d.now ≡ true
  pub done : is_acknowledged x acknowledged d d.now ≡ true

-- NOTHING IS LEFT of the slave, and nothing is held of it, in hand or in doubt
pub record HasNothing {V M Q R : Type 0} (x : Speech M Q R) (e : Era M Q R) (n : Slave V M) : Type 0 where
  pub settled : IsSettled n
  pub held : e.side.halves.out.holding ≡ None
  pub clear : e.side.halves.inn.state ≡ InState.Clear
  pub hand : e.account.hand ≡ None
  pub left : NoneLeft x e.side
  pub answered : NowAnswered x e.side

-- what came back of a visit brought no mail, and a mail is held behind it
pub record HeldStill {M Q R : Type 0} (station : ℕ) (back : List (Datagram M)) (d k : Side M Q R) : Type 0 where
  pub nothing : all_accepted station d.halves (grams back) ≡ []
  pub held : k.halves.out.holding ≢ None

-- ALL REPLIES of its service were heard in a row: those of some server
pub record WasHeard {V A M Q R : Type 0} (x : Exchange V A M Q R) (r : Row M Q R) : Type 0 where
  pub server : V
  pub ready : x.ready server ≡ true
  pub heard : plain x.speech.emission r.heard ≡ plain x.speech.emission (given x.serve server (x.full server r.service))

-- the newest service that came into hand is by mails
pub record IsMailsLast {Q : Type 0} (started : List (Started Q)) : Type 0 where
  pub front : List (Started Q)
  pub service : Q
  pub frame : ℕ
  pub is : started ≡ front ++ record { service = Service.Mails service; frame = frame } ∷ []
