-- A return to Init of a server that sees what is meant by its mails: it is cleared, whatever row it is in.
use Rattle.std.specs.Prelude.{◌≡◌, true, Option, None, Some, List, [], ◌++◌}
use Rattle.slave_parts.specs.of_exchange_model.Exchange.{Exchange}
use Rattle.slave_parts.specs.of_serving_model.Tagged.{Rowed, real, rows_done}

-- in a row the mails taken are the first of its service's, at a server that was ready for it
pub record IsPart {V M Q R : Type 0} (x : Exchange V V M Q R) (w : Rowed V M Q) (q : Q) : Type 0 where
  pub ready : x.ready w.base ≡ true
  pub valid : x.speech.valid q ≡ true
  pub rest : List M
  pub full : x.full w.base q ≡ w.part ++ rest

-- between rows none are
abbrev pub InRowOf : {V M Q R : Type 0} → Exchange V V M Q R → Rowed V M Q → Option Q → Type 0
InRowOf x w None = w.part ≡ []
InRowOf x w (Some q) = IsPart x w q

-- THE SERVER IS BETWEEN ROWS, OR IN ONE
abbrev pub InRow : {V M Q R : Type 0} → Exchange V V M Q R → Rowed V M Q → Type 0
InRow x w = InRowOf x w w.hand

-- a return to Init forgets all in which two servers differ that have the same core and count, as their unfinished transfers
abbrev pub Forgets : {V M Q R C : Type 0} → Exchange V V M Q R → (V → C) → (V → V) → Type 0
Forgets {V} x core clear = (v w : V) → core v ≡ core w → x.handled v ≡ x.handled w → clear v ≡ clear w

-- such a server, cleared: the row that it was in is over, and what was carried out stays counted
abbrev pub cleared_rowed : {V M Q R : Type 0} → Exchange V V M Q R → (V → V) → Rowed V M Q → Rowed V M Q
cleared_rowed x clear w = record { base = clear (real x w); hand = None; part = []; count = rows_done x w }
