-- FoE services from whatever server: each ends the transfer that stood, and leaves none.
use Rattle.std.specs.Prelude.{◌≡◌, ℕ, suc, ◌&&◌, Bool, true, List, length}
use Rattle.idn_table.specs.of_exchange_model.Areas.{Areas}
use Rattle.idn_table.specs.of_exchange_model.Exchange.{Exchange}
use Rattle.slave_parts.specs.Whole.{whole_server}
use Rattle.eoe_server.specs.of_protocol_models.FoeMails.{FoeMail}
use Rattle.eoe_server.specs.of_protocol_models.Files.{Files}
use Rattle.eoe_server.specs.of_protocol_models.FoeServer.{Transfer, idle, reading, writing, closing, Server}
use Rattle.eoe_server.specs.of_protocol_models.FoeMeaning.{Service, Reply, meaning_of}
use Rattle.eoe_server.specs.of_protocol_models.FoeModel.{foe_exchange}

-- a new version that is whole, and is kept back while the file is busy, has room
abbrev pub has_its_room : {S : Type 0} → Files S → S → Transfer → Bool
has_its_room o app idle = true
has_its_room o app (reading number left) = true
has_its_room o app (writing name number got) = true
has_its_room o app (closing name number got told) = o.has_room app (length got)

-- the servers of which the laws speak
abbrev pub is_ready : {S : Type 0} → Files S → Server S → Bool
is_ready o v = o.valid v.app && has_its_room o v.app v.transfer

-- the server that a service leaves
abbrev pub server_behind : {S : Type 0} → Files S → Server S → Service → Server S
server_behind o v q = record { app = (meaning_of o v.app q).app; handled = suc v.handled; transfer = idle }

-- here the application is the whole server
abbrev pub foe_served : {S : Type 0} → Files S → Areas → Exchange (Server S) (Server S) FoeMail Service Reply
foe_served o areas = whole_server (foe_exchange o areas) (is_ready o) (server_behind o)

-- what is seen of a server in the middle of a service: its files
abbrev pub files_of : {S : Type 0} → Server S → S
files_of v = v.app

-- and what the files owe besides: a new version leaves files of which the laws speak, under whatever name it comes
pub record StaysValid {S : Type 0} (o : Files S) : Type 0 where
  pub put : (s : S) (name bytes : List ℕ) → o.valid s ≡ true → o.has_room s (length bytes) ≡ true → o.valid (o.put s name bytes) ≡ true
