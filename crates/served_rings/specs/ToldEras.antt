-- WHAT THE MASTER OF A SERVING HAS of each slave, epoch by epoch, is what the frames of the epoch give: the answers of its rows, but for mails that are passed on,
-- whose replies are handed on one by one, and the outcomes of its changes of state.
use Rattle.std.specs.Prelude.{◌≡◌, ◌≢◌, ℕ, suc, ◌<◌, ◌≤◌, Option, Some, None, option_map, List, [], ◌∷◌, map, length, ⊤, if◌then◌else◌}
use Rattle.served_places.specs.of_exchange_model.Rows.{Row, heard_all}
use Rattle.served_places.specs.of_life_model.Eras.{era_frames}
use Rattle.served_places.specs.of_life_model.Lives.{Spot, Era, Life, Stand}
use Rattle.served_places.specs.of_life_runs.First.{lens_of, spot_of}
use Rattle.served_places.specs.of_link_mails.Body.{Body}
use Rattle.run_work.specs.of_master_duty.Reply.{Reply}
use Rattle.run_work.specs.of_master_hand.Spoken.{Asked, is_followed, is_passed}
use Rattle.run_work.specs.of_plan_ring.Asked.{asked}
use Rattle.run_work.specs.of_plan_ring.Epochs.{IsTold}
use Rattle.served_places.specs.of_segment_model.Record.{Frame, heard}
use Rattle.served_places.specs.of_segment_model.Seats.{Side, rows_of}
use Rattle.run_work.specs.of_segment_plan.declared.plan.Scenario.{Scenario}
use Rattle.run_work.specs.of_segment_plan.declared.slave.SlaveSpec.{SlaveSpec}
use Rattle.served_places.specs.of_life_runs.Served.{Serves}
use Rattle.run_work.specs.of_slave_lives.Lived.{Behind}
use Rattle.run_work.specs.of_slave_server.Spec.{profile_of}

-- the answer of a row, but of none by which a mail is passed on
abbrev pub unpassed_answer : Asked → Option (Reply × ℕ) → Option (Reply × ℕ)
unpassed_answer q answer = if is_passed q then None else answer

-- rows, a master's side and an epoch without the answers of mails that are passed on
abbrev pub unpassed_row : Row Body Asked Reply → Row Body Asked Reply
unpassed_row r = record r { answer = unpassed_answer r.service r.answer }

-- a side
abbrev pub unpassed_side : Side Body Asked Reply → Side Body Asked Reply
unpassed_side d = record d { past = map (λ r. unpassed_row r) d.past; now = option_map (λ r. unpassed_row r) d.now }

-- an epoch
abbrev pub unpassed_era : Era Body Asked Reply → Era Body Asked Reply
unpassed_era e = record e { side = unpassed_side e.side }

-- what showed the return to Init behind an epoch: that with which the next one began
abbrev pub next_cleared : List (Era Body Asked Reply) → Option ℕ → Option ℕ
next_cleared [] cleared = cleared
next_cleared (e ∷ es) cleared = e.cleared

module _ {S V A : Type 0} (w : Behind S V A Asked Reply) (spot : Spot) (fs : List (Frame Body)) where
  -- AN EPOCH FROM THE FRAME THAT OPENED IT TO ANOTHER: its master's rows are the services by mails that came into hand, and its changes the state services, each
  -- with the answer that the slave's own frames between these give, but for mails that are passed on; and for the change in hand they give none. All mails that were
  -- heard by these frames were heard in its rows, in order: none before the first of them
  pub record IsToldEra (e : Era Body Asked Reply) (until : ℕ) : Type 0 where
    pub opened : ℕ
    pub opened_at : e.opened ≡ Some opened
    pub before : opened < until
    pub within : until ≤ length fs
    pub told : IsTold w is_followed spot (era_frames spot opened until fs) (unpassed_era e)
    pub in_rows : heard spot.station (era_frames spot opened until fs) ≡ heard_all (rows_of e.side)

  -- ONE THAT IS OVER, with the frame that showed the return to Init behind it: it was never opened, and nothing came into hand of it; or it was open up to a
  -- frame no later than that one
  pub data WasToldEra (cleared : Option ℕ) (e : Era Body Asked Reply) : Type 0 where
    unopened : e.opened ≡ None → e.account.started ≡ [] → WasToldEra cleared e
    opened : (until : ℕ) → IsToldEra e until → ((frame : ℕ) → cleared ≡ Some frame → until ≤ frame) → WasToldEra cleared e

  -- ALL THAT ARE OVER, with the frame that showed the return to Init behind the last
  abbrev pub AllToldEras : List (Era Body Asked Reply) → Option ℕ → Type 0
  AllToldEras [] cleared = ⊤
  AllToldEras (e ∷ es) cleared = WasToldEra (next_cleared es cleared) e × AllToldEras es cleared

  -- THE NEWEST: it is open, up to the last frame; or it wasn't opened yet, and nothing came into hand of it; or it is over
  pub data IsToldNewest (e : Era Body Asked Reply) : Stand → Type 0 where
    lives : IsToldEra e (length fs) → IsToldNewest e Stand.Open
    unopened : (stand : Stand) → stand ≢ Stand.Open → e.opened ≡ None → e.account.started ≡ [] → IsToldNewest e stand
    over : (stand : Stand) → stand ≢ Stand.Open → (until : ℕ) → IsToldEra e until → IsToldNewest e stand

  -- THE WHOLE LIFE
  pub record IsToldLife (l : Life Body Asked Reply) : Type 0 where
    pub past : AllToldEras l.past l.era.cleared
    pub newest : IsToldNewest l.era l.stand

-- OF EACH SLAVE of a plan, from a place on, as its master leads it over these frames
abbrev pub AllToldLives : Scenario → List (Frame Body) → ℕ → List SlaveSpec → List Serves → Type 0
AllToldLives plan fs place [] [] = ⊤
AllToldLives plan fs place (s ∷ ss) (w ∷ ws) =
    IsToldLife (asked (profile_of s) s.boot (lens_of plan.slaves)) (spot_of place s) fs w.lead.lived.life × AllToldLives plan fs (suc place) ss ws
AllToldLives plan fs place _ _ = ⊥
