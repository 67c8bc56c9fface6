-- OF AN EPOCH that is seen with what is meant by its mails: where nothing is left of it, and what its master has of it.
use Rattle.std.proofs.Common.{ℕ, Bool, false, Option, List, length}
use Rattle.run_work.specs.of_life_counts.Epochs.{Speaker, IsSpeaker, IsSeen, between, seeing, seeing_states}
use Rattle.served_places.specs.of_life_model.Eras.{OpenEra, era_frames, frames_of}
use Rattle.served_places.specs.of_life_model.Lives.{Spot, Era}
use Rattle.served_places.proofs.of_life_model.Eras.{session_of, of_one}
use Rattle.served_places.specs.of_segment_model.Record.{Frame}
use Rattle.served_places.specs.of_segment_model.Slaves.{Registers, Processor, Slave}
use Rattle.served_places.specs.of_serving_model.Tagged.{Tagged, Asked, Rowed}
use Rattle.served_places.specs.of_state_model.States.{Table}
use Rattle.served_places.specs.of_state_model.Promise.{TasksAnswered, TasksRestIf}
use Rattle.served_places.proofs.of_state_model.Sessions.{tasks_answered, tasks_rest}
use Rattle.served_rings.proofs.Seen.{epoch}

module _ {V M Q R C T : Type 0} (w : Speaker V M Q R C T) (k : IsSpeaker w) (seer : Processor (Rowed V M Q)) (table : ℕ → Table) (spot : Spot) (opened : ℕ) (v : V) (r : Registers) (fs : List (Frame M)) (counts : Bool) (e : Era M T (Option R)) (n : Slave V M)
    (i : IsSeen w seer table spot opened v r fs counts e n) where
  abbrev here : OpenEra (Rowed V M Q) V (Tagged M Q) (Asked M Q) (Option R)
  here = epoch w k seer table spot opened v r fs counts e n i

  abbrev pub frames : List (Frame (Tagged M Q))
  frames = era_frames spot opened (length i.frames) i.frames

  -- ALL ROWS ARE CARRIED OUT where it is settled and nothing is wanted
  pub rested : TasksRestIf (seeing w) (seeing_states w) (table spot.station) (λ m. false) frames spot.station (between v) i.era.side i.era.account i.slave
  rested =
      let p = session_of here in
      of_one here (λ station start d a m. TasksRestIf (seeing w) (seeing_states w) (table station) (λ z. false) (frames_of here) station start d a m)
      (tasks_rest p.exchange p.lawful p.states p.stated p.processor p.table (λ z. false) p.planned.tells p.plan p.planned p.sides p.accounts p.ring p.frames p.tasked)

  -- WHAT ITS MASTER HAS
  pub answered : TasksAnswered (seeing w) (seeing_states w) (table spot.station) (λ m. false) frames spot.station (between v) i.era.side i.era.account i.slave
  answered =
      let p = session_of here in
      of_one here (λ station start d a m. TasksAnswered (seeing w) (seeing_states w) (table station) (λ z. false) (frames_of here) station start d a m)
      (tasks_answered p.exchange p.lawful p.states p.stated p.processor p.table (λ z. false) p.planned.tells p.plan p.planned p.sides p.accounts p.ring p.frames p.tasked)
