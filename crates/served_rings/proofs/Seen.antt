-- OF AN EPOCH that is seen with what is meant by its mails: what its slave carried out of it, and what was heard for the mail that is passed on.
use Rattle.std.proofs.Common.{◌≡◌, ℕ, Bool, false, Option, Some, List, [], ◌∷◌, ◌++◌, length, refl}
use Rattle.served_places.specs.of_life_model.Eras.{OpenEra, era_frames, frames_of}
use Rattle.served_places.specs.of_life_model.Lives.{Spot, Era}
use Rattle.served_places.proofs.of_life_model.Eras.{session_of, of_one}
use Rattle.run_work.specs.of_few_replies.Clearing.{Forgets}
use Rattle.served_places.proofs.of_few_replies.Clears.{clears}
use Rattle.served_rings.proofs.SeenRows.{era_in}
use Rattle.served_places.specs.of_segment_model.Record.{Frame}
use Rattle.served_places.specs.of_segment_model.Seats.{Side}
use Rattle.served_places.specs.of_segment_model.Slaves.{Registers, Processor, Slave}
use Rattle.served_places.specs.of_serving_model.Tagged.{Tagged, Asked, Rowed, ideal, real}
use Rattle.served_places.specs.of_state_model.Stated.{Service}
use Rattle.served_places.specs.of_state_model.States.{Table}
use Rattle.run_work.specs.of_life_counts.Epochs.{Speaker, IsSpeaker, IsSeen, between, seeing, seeing_states}
use Rattle.run_work.specs.of_life_counts.Foreseen.{AllRight, server_behind}
use Rattle.run_work.proofs.of_life_counts.Rights.{Between}
use Rattle.run_work.proofs.of_life_counts.TaggedWhole.{seeing_lawful, seeing_stated}
use Rattle.served_places.specs.of_state_model.Accounts.{Account, Started}
use Rattle.served_places.specs.of_state_model.Promise.{TasksPromised, services_in}
use Rattle.served_places.proofs.of_state_model.Sessions.{of_slaves, tasks_promised}
use Rattle.served_places.specs.of_exchange_model.Rows.{Row}
use Rattle.served_rings.proofs.Newest.{AllValid, IsHeard, all_valid, newest_heard}

module _ {V M Q R C T : Type 0} (w : Speaker V M Q R C T) (k : IsSpeaker w) (seer : Processor (Rowed V M Q)) (table : ℕ → Table) (spot : Spot) (opened : ℕ) (v : V) (r : Registers) (fs : List (Frame M)) (counts : Bool) (e : Era M T (Option R)) (n : Slave V M)
    (i : IsSeen w seer table spot opened v r fs counts e n) where
  abbrev t : Table
  t = table spot.station

  abbrev SideHere : Type 0
  SideHere = Side (Tagged M Q) (Asked M Q) (Option R)

  abbrev AccountHere : Type 0
  AccountHere = Account (Asked M Q) (Option R)

  abbrev SlaveHere : Type 0
  SlaveHere = Slave (Rowed V M Q) (Tagged M Q)

  abbrev pub epoch : OpenEra (Rowed V M Q) V (Tagged M Q) (Asked M Q) (Option R)
  epoch = record {
    exchange = seeing w;
    states = seeing_states w;
    processor = seer;
    table = table;
    spot = spot;
    era = i.era;
    opened = opened;
    end = length i.frames;
    frames = i.frames;
    server = between v;
    registers = r;
    slave = i.slave;
    lawful = seeing_lawful w k;
    stated = seeing_stated w k;
    is = i.is;
  }

  -- CARRIED OUT are just the first of what came into hand
  pub promised : TasksPromised (seeing w) (seeing_states w) t (λ m. false) (era_frames spot opened (length i.frames) i.frames) spot.station (between v) i.era.side i.era.account i.slave
  promised =
      let p = session_of epoch in
      of_one epoch (λ station start d a m. TasksPromised (seeing w) (seeing_states w) (table station) (λ z. false) (frames_of epoch) station start d a m)
      (tasks_promised p.exchange p.lawful p.states p.stated p.processor p.table (λ z. false) p.planned.tells p.plan p.planned p.sides p.accounts p.ring p.frames p.tasked)

  -- what its slave left, cleared, is what was carried out, cleared
  pub clears_so : (clear : V → V) → Forgets w.exchange w.core clear → clear (real w.exchange i.slave.node.server.server) ≡ clear (ideal w.exchange i.slave.node.server.server)
  clears_so clear forgets = clears w.exchange w.core k.served clear forgets i.slave.node.server.server
      (era_in w.exchange w.calm w.fair w.states (seeing_lawful w k) (seeing_stated w k) seer table spot i.era opened (length i.frames) i.frames (between v) r i.slave i.is refl)

  -- ALL THAT CAME INTO HAND are such as the laws speak of
  pub valid : AllValid w.exchange w.calm w.fair (services_in i.era.account.started)
  valid =
      let z = session_of epoch in
      let P : Table → List (Frame (Tagged M Q)) → ℕ → Rowed V M Q → SideHere → AccountHere → SlaveHere → Type 0 =
      (λ u gs station start d a m. AllValid w.exchange w.calm w.fair (services_in a.started)) in
      of_one epoch (λ station start d a m. P (table station) (era_frames spot opened (length i.frames) i.frames) station start d a m)
      (of_slaves z.exchange z.lawful z.states z.stated z.processor z.table (λ m. false) z.planned.tells z.plan z.planned z.sides z.accounts z.ring z.frames z.tasked P
      (λ u begun it gs seat a h. all_valid w.exchange w.core k.served w.calm w.fair w.states w.naming.more k.last u (seeing_lawful w k) (seeing_stated w k) (λ m. false) begun it gs seat a h))

  -- THE MAIL that is passed on in the newest row, and is the newest that came into hand
  pub heard : (before : List (Started (Asked M Q))) (q : Asked M Q) (f : ℕ) → i.era.account.started ≡ before ++ record { service = Service.Mails q; frame = f } ∷ [] → (m : M) (answers : Bool) (row : Row (Tagged M Q) (Asked M Q) (Option R)) → i.era.side.now ≡ Some row →
      row.service ≡ Asked.Passed m answers → IsHeard w.exchange w.naming.more (server_behind w.exchange w.states t v (services_in before)) m answers row
  heard =
      let z = session_of epoch in
      let P : Table → List (Frame (Tagged M Q)) → ℕ → Rowed V M Q → SideHere → AccountHere → SlaveHere → Type 0 =
      (λ u gs station start d a m. Between w.exchange start → AllRight w.exchange w.states u (ideal w.exchange start) (services_in a.started) →
      (before : List (Started (Asked M Q))) (q : Asked M Q) (f : ℕ) → a.started ≡ before ++ record { service = Service.Mails q; frame = f } ∷ [] → (m : M) (answers : Bool) (row : Row (Tagged M Q) (Asked M Q) (Option R)) → d.now ≡ Some row →
      row.service ≡ Asked.Passed m answers → IsHeard w.exchange w.naming.more (server_behind w.exchange w.states u (ideal w.exchange start) (services_in before)) m answers row) in
      of_one epoch (λ station start d a m. P (table station) (era_frames spot opened (length i.frames) i.frames) station start d a m)
      (of_slaves z.exchange z.lawful z.states z.stated z.processor z.table (λ m. false) z.planned.tells z.plan z.planned z.sides z.accounts z.ring z.frames z.tasked P
      (λ u begun it gs seat a h. λ same all before q f started m answers row now passes.
      newest_heard w.exchange w.core k.served w.calm w.fair w.states w.naming.more k.last u (seeing_lawful w k) (seeing_stated w k) (λ m. false) begun it gs seat a h same all before q f started m answers row now passes))
      refl i.right
