-- What a datagram, and those of a frame, come to.
use Rattle.std.specs.Prelude.{◌≡◌, ◌<◌, ℕ, List, map, length, slice_set, slice_index_or, Option, Some, None, Ok, Err}
use Rattle.capture_audit.specs.declared.access.MailAccess.{MailAccess}
use Rattle.capture_audit.specs.declared.known.Known.{Known}
use Rattle.capture_audit.specs.declared.rule.Rule.{Rule}
use Rattle.capture_audit.specs.declared.station.Seat.{Seat}
use Rattle.capture_audit.specs.declared.station.StationAudit.{StationAudit}
use Rattle.capture_audit.specs.Exchanges.{Sent}
use Rattle.capture_audit.specs.Audit.{row_of, changed_at, new_seat, new_station, seat_of, station_of, mailbox_rule, mailbox_met, rule_at, met, judged}

-- rows in which a key has one, at this place: what is changed there is changed at the key
pub record HasRow {A : Type 0} (key : A → ℕ) (fresh : A) (k : ℕ) (old new : List A) (at : ℕ) : Type 0 where
  pub inside : at < length new
  pub row : (none : A) → slice_index_or new at none ≡ row_of key fresh k old
  pub same : new ≡ changed_at key fresh (λ x. x) k old
  pub changed : (f : A → A) → slice_set new at (f (row_of key fresh k old)) ≡ changed_at key fresh f k old

-- the keys of rows, in their order
abbrev pub ArePlaces : {A : Type 0} → (A → ℕ) → List ℕ → List A → Type 0
ArePlaces key places rows = places ≡ map key rows

-- a station has a seat at this place
abbrev pub HasSeat : List Seat → List Seat → ℕ → ℕ → Type 0
HasSeat old new station at = HasRow (λ s. s.station) (new_seat station) station old new at

-- a station's mails stand at this place
abbrev pub HasStation : List StationAudit → List StationAudit → ℕ → ℕ → Type 0
HasStation old new station at = HasRow (λ s. s.station) (new_station station) station old new at

-- a datagram breaks this rule; or it breaks none, and this is known behind it
abbrev pub Judges : Known → Known → Sent → Option Rule → Type 0
Judges old new sent (Some rule) = rule_at old sent ≡ Some rule
Judges old new sent None = (rule_at old sent ≡ None) × (new ≡ met old sent)

-- the same of an access of a mailbox
abbrev pub JudgesMailbox : Known → Known → MailAccess → Sent → Option Rule → Type 0
JudgesMailbox old new access sent (Some rule) = mailbox_rule (seat_of (station_of sent) old.seats).link access sent ≡ Some rule
JudgesMailbox old new access sent None =
    (mailbox_rule (seat_of (station_of sent) old.seats).link access sent ≡ None) × (new ≡ mailbox_met (seat_of (station_of sent) old.seats).link access old sent)

-- datagrams break this rule; or they break none, and this is known behind them
abbrev pub JudgesAll : Known → Known → List Sent → Option Rule → Type 0
JudgesAll old new sent (Some rule) = judged old sent ≡ Err rule
JudgesAll old new sent None = judged old sent ≡ Ok new
