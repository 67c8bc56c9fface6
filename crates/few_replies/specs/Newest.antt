-- The newest row of a session, where it is over.
use Rattle.std.specs.Prelude.{◌≡◌, true, Some, List, [], ◌∷◌, ◌++◌}
use Rattle.slave_parts.specs.of_exchange_model.Rows.{Row, IsWhole}
use Rattle.slave_parts.specs.of_segment_model.Seats.{is_over}
use Rattle.slave_parts.specs.of_state_model.Stated.{Service}
use Rattle.slave_parts.specs.of_state_model.Accounts.{Started}
use Rattle.slave_parts.specs.of_life_model.Eras.{OpenEra}

-- THE NEWEST SERVICE is this row's, and it is over
pub record IsNewestOver {V A M Q R : Type 0} (w : OpenEra V A M Q R) (r : Row M Q R) : Type 0 where
  pub now : w.era.side.now ≡ Some r
  pub before : List (Started Q)
  pub newest : w.era.account.started ≡ before ++ record { service = Service.Mails r.service; frame = r.frame } ∷ []
  pub over : is_over w.exchange.speech w.era.side.halves.out.holding w.era.side.fresh r ≡ true

-- THE ROW IS WHOLE: with a server that was ready for it all its mails were told, all its replies heard, and an answer is its reply
pub record IsWholeRow {V A M Q R : Type 0} (w : OpenEra V A M Q R) (r : Row M Q R) : Type 0 where
  pub server : V
  pub ready : w.exchange.ready server ≡ true
  pub whole : IsWhole w.exchange server r
