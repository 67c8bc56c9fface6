-- WHAT ALWAYS HOLDS OF A SLAVE'S SERVER as it runs: each mail that waits has room, and what its services act on are such as their laws speak of.
use Rattle.std.specs.Prelude.{◌≡◌, ℕ, ◌+◌, ◌≤◌, true, List, [], ◌∷◌, length, None, ⊤}
use Rattle.slave_server.specs.of_file_store.Files as Store
use Rattle.slave_server.specs.of_protocol_models.FoeServer.{Transfer, idle, reading, writing, closing}
use Rattle.slave_server.specs.of_mailbox_mail.declared.mail.Mail.{Mail}
use Rattle.whole_ring.specs.of_slave_lives.Nodes.{IsPlaced}
use Rattle.slave_server.specs.of_slave_model.Application.{station_valid}
use Rattle.slave_server.specs.of_slave_model.Profile.{Profile}
use Rattle.slave_server.specs.of_slave_parts.Parts.{parts}
use Rattle.slave_server.specs.Serving.{Serving}

-- each of these mails can stand in a mailbox of this length
abbrev pub AllPlaced : ℕ → List Mail → Type 0
AllPlaced len [] = ⊤
AllPlaced len (m ∷ ms) = IsPlaced len m × AllPlaced len ms

-- a write of this file was allowed, in some AL state
pub record MayWrite (files : Store.Kept) (name : List ℕ) : Type 0 where
  pub pass : ℕ
  pub al : ℕ
  pub allowed : Store.allowed files name pass true al ≡ None

-- the file that is under way was allowed, and where all of it came it has room
abbrev pub IsUnderWay : Store.Kept → Transfer → Type 0
IsUnderWay files idle = ⊤
IsUnderWay files (reading number left) = ⊤
IsUnderWay files (writing name number got) = MayWrite files name
IsUnderWay files (closing name number got told) = MayWrite files name × (Store.has_room files (length got) ≡ true)

-- A SERVER OF THIS PROFILE AS IT RUNS: the mails that wait have room, and so has the answer that gives its addresses; objects, files and IDNs are
-- such as the laws speak of; and a file under way may be put in place
pub record IsSound (p : Profile) (s : Serving) : Type 0 where
  pub profile : s.profile ≡ p
  pub waiting : AllPlaced p.back s.waiting
  pub block : length s.server.app.app.block + 10 ≤ p.back
  pub valid : station_valid parts s.server.app ≡ true
  pub file : IsUnderWay s.server.app.app.files s.server.file
