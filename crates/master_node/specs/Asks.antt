-- WHAT A FRAME ASKS AN OPEN SLAVE whose last read was lost.
use Rattle.std.specs.Prelude.{◌≡◌, false, List, [], ◌∷◌, ⊤}
use Rattle.life_runs.specs.Led.{Turn}
use Rattle.life_runs.specs.of_segment_model.Slaves.{Datagram}
use Rattle.life_runs.specs.of_master_side.Carried.{is_clear}
use Rattle.life_runs.specs.of_link_mails.Body.{Body}
use Rattle.life_runs.specs.of_life_model.Lives.{Stand}
use Rattle.life_runs.specs.of_life_model.Own.{own}
use Rattle.life_runs.specs.of_link_model.Frames.{in_ask}
use Rattle.life_runs.specs.of_link_model.Master.{InHalf}

-- a datagram is the inward half's, unless that is clear
abbrev pub AsksHalf : InHalf → Datagram Body → Type 0
AsksHalf h d = is_clear h.state ≡ false → d.gram.ask ≡ in_ask h.state h.bit

-- each of these is
abbrev pub EachAsks : InHalf → List (Datagram Body) → Type 0
EachAsks h [] = ⊤
EachAsks h (d ∷ ds) = AsksHalf h d × EachAsks h ds

-- of an open slave, those to its station
abbrev pub AsksFirst : List (Datagram Body) → Turn → Type 0
AsksFirst sent u = u.lived.life.stand ≡ Stand.Open → EachAsks u.lived.life.era.side.halves.inn (own u.lived.spot.station sent)

-- A FRAME ASKS BY THE INWARD HALF FIRST: of each open slave whose half isn't clear it has no other datagram
abbrev pub AllAsk : List (Datagram Body) → List Turn → Type 0
AllAsk sent [] = ⊤
AllAsk sent (u ∷ us) = AsksFirst sent u × AllAsk sent us
