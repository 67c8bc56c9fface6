-- WHAT A FRAME ASKS AN OPEN SLAVE IN DOUBT, and what its slaves answer to what awaits them.
use Rattle.std.specs.Prelude.{◌≡◌, ◌==◌, ◌&&◌, ℕ, Bool, true, false, Option, Some, List, [], ◌∷◌, ⊤}
use Rattle.life_runs.specs.of_frame_view.Seen.{seen}
use Rattle.life_runs.specs.of_frame_view.View.{Lens}
use Rattle.life_runs.specs.of_frame_view.Shares.{came_at}
use Rattle.life_runs.specs.of_life_model.Repairs.{awaits_at, awaited}
use Rattle.life_runs.specs.of_life_model.Lives.{Opening, Stand, is_shown}
use Rattle.life_runs.specs.of_life_model.Own.{own}
use Rattle.life_runs.specs.Led.{Exchanged, Turn}
use Rattle.life_runs.specs.of_link_mails.Body.{Body}
use Rattle.life_runs.specs.of_link_model.Frames.{Ask, in_ask}
use Rattle.life_runs.specs.of_link_model.Mails.{differs}
use Rattle.life_runs.specs.of_link_model.Master.{InState}
use Rattle.life_runs.specs.of_master_duty.Reply.{Reply}
use Rattle.life_runs.specs.of_master_hand.Spoken.{Asked}
use Rattle.life_runs.specs.of_segment_model.Returned.{Returns}
use Rattle.life_runs.specs.of_segment_model.Slaves.{Datagram, Found}
use Rattle.life_runs.specs.of_segment_ring.declared.wire.Fate.TheVariants.{Pass}
use Rattle.run_frames.specs.Clocks.{Clocked}

-- ---- what the master asks

-- where a read was lost, the datagram is the inward half's
abbrev pub AsksHalf : InState → Bool → Ask Body → Type 0
AsksHalf InState.Clear bit ask = ⊤
AsksHalf InState.Doubt bit ask = ask ≡ in_ask InState.Doubt bit
AsksHalf InState.Asked bit ask = ask ≡ in_ask InState.Asked bit
AsksHalf InState.Refetch bit ask = ask ≡ in_ask InState.Refetch bit

-- each of these is
abbrev pub EachAsks : InState → Bool → List (Datagram Body) → Type 0
EachAsks state bit [] = ⊤
EachAsks state bit (d ∷ ds) = AsksHalf state bit d.gram.ask × EachAsks state bit ds

-- of an open slave, those to its station
abbrev pub AsksFirst : List (Datagram Body) → Turn → Type 0
AsksFirst sent u = u.lived.life.stand ≡ Stand.Open → EachAsks u.lived.life.era.side.halves.inn.state u.lived.life.era.side.halves.inn.bit (own u.lived.spot.station sent)

-- A FRAME ASKS BY THE INWARD HALF FIRST: of each open slave whose half isn't clear
abbrev pub AllAsk : List (Datagram Body) → List Turn → Type 0
AllAsk sent [] = ⊤
AllAsk sent (u ∷ us) = AsksFirst sent u × AllAsk sent us

-- ---- what the slaves answer

-- the repeat request was met; its acknowledge is the one asked for, where the slave made a step since
abbrev pub HalfAnswers : Bool → InState → Bool → Datagram Body → Type 0
HalfAnswers stepped InState.Clear bit d = ⊤
HalfAnswers stepped InState.Doubt bit d = (d.gram.counter == 0) ≡ false
HalfAnswers stepped InState.Asked bit d = stepped ≡ true → ((d.gram.counter == 0) ≡ false) × (differs d.gram.acknowledge bit ≡ false)
HalfAnswers stepped InState.Refetch bit d = ⊤

-- each of these datagrams
abbrev pub EachAnswers : Bool → InState → Bool → List (Datagram Body) → Type 0
EachAnswers stepped state bit [] = ⊤
EachAnswers stepped state bit (d ∷ ds) = HalfAnswers stepped state bit d × EachAnswers stepped state bit ds

-- an access of an opening that awaits a step shows the state, where the slave made one since it is in hand
abbrev pub OpeningAnswers : Bool → Opening → Option (Bool × Option Found) → Type 0
OpeningAnswers stepped o came = (done : Bool) (found : Option Found) → came ≡ Some (done, found) → awaits_at o.again o.step ≡ true → stepped ≡ true → (done && is_shown (awaited o) found) ≡ true

-- by how the master stands to the slave
abbrev pub StandAnswers : List (Datagram Body) → Clocked Body Asked Reply → Turn → Stand → Type 0
StandAnswers back c u (Stand.Opens o) = OpeningAnswers c.stepped o (came_at u.share.under u.share.at back)
StandAnswers back c u Stand.Open = EachAnswers c.stepped u.lived.life.era.side.halves.inn.state u.lived.life.era.side.halves.inn.bit (own u.lived.spot.station back)
StandAnswers back c u Stand.Gone = ⊤

-- A FRAME THAT CAME BACK IS ANSWERED by each slave
abbrev pub AllAnswer : List (Datagram Body) → List (Clocked Body Asked Reply) → List Turn → Type 0
AllAnswer back [] [] = ⊤
AllAnswer back (c ∷ cs) (u ∷ us) = StandAnswers back c u u.lived.life.stand × AllAnswer back cs us
AllAnswer back _ _ = ⊥

-- ---- what comes back

-- each frame that isn't lost comes back as the return of what was sent
abbrev pub AllReturned : (ℕ → Lens) → List Exchanged → Type 0
AllReturned lens [] = ⊤
AllReturned lens (f ∷ fs) = (f.fate ≡ Pass → Returns (seen lens f.sent) (seen lens f.back)) × AllReturned lens fs
