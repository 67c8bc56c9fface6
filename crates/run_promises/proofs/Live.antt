-- AN OPEN SLAVE'S LIFE, by what was heard of it.
use Rattle.std.specs.Prelude.{◌≡◌, ℕ, ◌<◌, Some, List, [], ◌∷◌, ◌++◌, length}
use Rattle.packets_heard.specs.of_exchange_model.Prefix.{IsPrefixOf}
use Rattle.packets_heard.specs.of_exchange_model.Rows.{heard_all}
use Rattle.packets_heard.specs.of_life_model.Eras.{era_frames}
use Rattle.packets_heard.specs.of_life_model.Lives.{Spot, Era, Life}
use Rattle.packets_heard.specs.of_link_mails.Body.{Body}
use Rattle.packets_heard.specs.of_master_duty.Reply.{Reply}
use Rattle.packets_heard.specs.of_master_hand.Spoken.{Asked}
use Rattle.packets_heard.specs.Heard.{ended}
use Rattle.packets_heard.specs.of_segment_model.Record.{Frame, heard, kept_all, nothing_kept}
use Rattle.packets_heard.specs.of_segment_model.Seats.{rows_of}
use Rattle.packets_heard.specs.of_state_model.Promise.{services_in}

-- nothing came into hand of an epoch
abbrev pub IsNew : Era Body Asked Reply → Type 0
IsNew e = (e.account.started ≡ []) × (rows_of e.side ≡ [])

-- it is the same but for services that came into hand since
pub record Grows (d e : Era Body Asked Reply) : Type 0 where
  pub services : IsPrefixOf (services_in d.account.started) (services_in e.account.started)
  pub heard : heard_all (rows_of d.side) ≡ heard_all (rows_of e.side)

-- WHAT MAY BE TOLD of the mails of times against epochs: an epoch of which nothing came into hand changes nothing, and one may grow
pub record IsTally (R : List (List Body) → List (Era Body Asked Reply) → Type 0) : Type 0 where
  pub empty : R [] []
  pub fresh : (ts : List (List Body)) (es : List (Era Body Asked Reply)) (e : Era Body Asked Reply) → IsNew e → R ts es → R ts (es ++ e ∷ [])
  pub none : (ts : List (List Body)) (es : List (Era Body Asked Reply)) (e : Era Body Asked Reply) → IsNew e → R ts (es ++ e ∷ []) → R ts es
  pub grows : (ts : List (List Body)) (es : List (Era Body Asked Reply)) (d e : Era Body Asked Reply) → Grows d e → R ts (es ++ d ∷ []) → R ts (es ++ e ∷ [])

-- the inward half knows the last mail that was heard, and what is told of the times before goes on with what was heard
pub record IsLive (R : List (List Body) → List (Era Body Asked Reply) → Type 0) (spot : Spot) (gs : List (Frame Body)) (l : Life Body Asked Reply) : Type 0 where
  pub opened : ℕ
  pub opened_at : l.era.opened ≡ Some opened
  pub before : opened < length gs
  pub last : l.era.side.halves.inn.last ≡ (kept_all spot.station nothing_kept (era_frames spot opened (length gs) gs)).heard
  pub told : (past : List (List Body)) → R past l.past → R (ended past (heard spot.station (era_frames spot opened (length gs) gs))) (l.past ++ l.era ∷ [])
