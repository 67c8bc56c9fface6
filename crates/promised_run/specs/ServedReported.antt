-- EACH SERVICE OF A SCRIPT IS REPORTED with just what the frames of its epoch give for it, also while mails are passed on beside it.
use Rattle.std.specs.Prelude.{◌≡◌, ◌≢◌, ℕ, suc, ◌<◌, ◌≤◌, Option, Some, None, List, [], ◌∷◌, ◌++◌, map, length, ⊤}
use Rattle.run_promises.specs.of_exchange_model.Rows.{heard_all}
use Rattle.gateway_run.specs.Served.{HasAccount}
use Rattle.run_promises.specs.of_life_model.Eras.{era_frames}
use Rattle.run_promises.specs.of_life_model.Lives.{Spot, Era, Life, Stand}
use Rattle.run_promises.specs.of_life_runs.First.{lens_of, spot_of}
use Rattle.run_promises.specs.of_link_mails.Body.{Body}
use Rattle.seen_slaves.specs.of_master_duty.Reply.{Reply}
use Rattle.seen_slaves.specs.of_master_hand.Spoken.{Asked}
use Rattle.seen_slaves.specs.of_plan_ring.Round.{all_seen}
use Rattle.promised_run.specs.Reported.{AreNoted}
use Rattle.gateway_run.specs.of_run_book.declared.book.Book.{Book}
use Rattle.gateway_run.specs.of_run_book.declared.book.Ending.{Ending}
use Rattle.gateway_run.specs.of_run_book.declared.book.SlaveBook.{SlaveBook}
use Rattle.run_promises.specs.Slaves.{services_of}
use Rattle.gateway_run.specs.of_run_record.Led.{exchanged}
use Rattle.gateway_run.specs.of_run_notes.Reports.{noted_in}
use Rattle.seen_slaves.specs.of_run_frames.ScriptAnswers.{Noted, next_opened, opened_anew}
use Rattle.run_promises.specs.of_segment_model.Record.{Frame, heard}
use Rattle.run_promises.specs.of_segment_model.Seats.{rows_of}
use Rattle.run_promises.specs.of_segment_plan.declared.plan.Scenario.{Scenario}
use Rattle.run_promises.specs.of_segment_plan.declared.slave.SlaveSpec.{SlaveSpec}
use Rattle.run_promises.specs.of_exchange_model.Exchange.{Speech}
use Rattle.seen_slaves.specs.of_served_rings.ToldEras.{next_cleared}
use Rattle.run_promises.specs.of_life_runs.Served.{Serves}

module _ (x : Speech Body Asked Reply) (spot : Spot) (fs : List (Frame Body)) where
  -- OF AN EPOCH from the frame that opened it to another, with the frame that opened its slave anew behind it: each service of the script that came into hand of it
  -- has just the reply that the slave's own frames between these give; and all mails that were heard by these frames were heard in the rows of the epoch, in order:
  -- none before the first
  pub record EraNoted (anew : Option ℕ) (e : Era Body Asked Reply) (until : ℕ) (ns : List Noted) : Type 0 where
    pub opened : ℕ
    pub opened_at : e.opened ≡ Some opened
    pub before : opened < until
    pub within : until ≤ length fs
    pub noted : AreNoted x spot.station (era_frames spot opened until fs) anew e.account.started ns
    pub in_rows : heard spot.station (era_frames spot opened until fs) ≡ heard_all (rows_of e.side)

  -- OF ALL THAT ARE OVER, with the frames that showed the return to Init behind the last and that opened the slave anew, and where the slave was given up: each that
  -- was opened was open up to a frame no later than the one that showed the return to Init behind it; of one that wasn't nothing came into hand
  pub data PastNoted (gave : List ℕ) (cleared opened : Option ℕ) : List (Era Body Asked Reply) → List Noted → Type 0 where
    none : PastNoted gave cleared opened [] []
    unopened : (e : Era Body Asked Reply) (es : List (Era Body Asked Reply)) (ns : List Noted) → e.opened ≡ None → e.account.started ≡ [] → PastNoted gave cleared opened es ns → PastNoted gave cleared opened (e ∷ es) ns
    over : (e : Era Body Asked Reply) (es : List (Era Body Asked Reply)) (until : ℕ) (ms ns : List Noted) → EraNoted (opened_anew gave e.opened (next_opened es opened)) e until ms →
        ((frame : ℕ) → next_cleared es cleared ≡ Some frame → until ≤ frame) → PastNoted gave cleared opened es ns → PastNoted gave cleared opened (e ∷ es) (ms ++ ns)

  -- OF THE NEWEST: it is open, up to the last frame; or it wasn't opened yet, and nothing came into hand of it; or it is over. Behind it nothing is opened yet
  pub data NewestNoted (e : Era Body Asked Reply) : Stand → List Noted → Type 0 where
    lives : (ns : List Noted) → EraNoted None e (length fs) ns → NewestNoted e Stand.Open ns
    unopened : (stand : Stand) → stand ≢ Stand.Open → e.opened ≡ None → e.account.started ≡ [] → NewestNoted e stand []
    over : (stand : Stand) → stand ≢ Stand.Open → (until : ℕ) (ns : List Noted) → EraNoted None e until ns → NewestNoted e stand ns

  -- OF A WHOLE LIFE
  pub record LifeNoted (l : Life Body Asked Reply) (ns : List Noted) : Type 0 where
    pub front : List Noted
    pub behind : List Noted
    pub whole : ns ≡ front ++ behind
    pub past : PastNoted l.gave l.era.cleared l.era.opened l.past front
    pub newest : NewestNoted l.era l.stand behind

-- OF EACH SLAVE of a plan, from a place on, as its master leads it over these frames: its row of the book has each service of its script that came into hand, with
-- the frame before which it did, and with just what the frames of its epoch give for it
abbrev pub AllReportedSo : Scenario → List (Frame Body) → ℕ → List SlaveSpec → List Serves → List SlaveBook → Type 0
AllReportedSo plan fs place [] [] [] = ⊤
AllReportedSo plan fs place (s ∷ ss) (w ∷ ws) (row ∷ rows) =
    LifeNoted (services_of plan s).exchange.speech (spot_of place s) fs w.lead.lived.life (noted_in row.begun row.answers) × AllReportedSo plan fs (suc place) ss ws rows
AllReportedSo plan fs place _ _ _ = ⊥

-- WHAT THE BOOK OF A SERVING REPORTS is just what its frames give, by the lives that they lead
abbrev pub IsServedReported : Scenario → ℕ → Book → Type 0
IsServedReported plan count book =
    (ending : Ending) (a : HasAccount plan count book ending) → AllReportedSo plan (all_seen (lens_of plan.slaves) (map exchanged book.frames)) 0 plan.slaves a.answers.serving.leading.serves book.slaves
