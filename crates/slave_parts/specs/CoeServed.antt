-- CoE services from whatever server: a download or an upload ends the SDO transfer that stood, and information leaves it.
use Rattle.std.specs.Prelude.{suc, Bool}
use Rattle.idn_table.specs.of_exchange_model.Areas.{Areas}
use Rattle.idn_table.specs.of_exchange_model.Exchange.{Exchange}
use Rattle.slave_parts.specs.Whole.{whole_server}
use Rattle.eoe_server.specs.of_protocol_models.CoeMails.{CoeMail}
use Rattle.eoe_server.specs.of_protocol_models.Tables.{Tables}
use Rattle.eoe_server.specs.of_protocol_models.CoeServer.{Transfer, idle, Server}
use Rattle.eoe_server.specs.of_protocol_models.CoeMeaning.{Service, download, upload, information, Reply, meaning_of}
use Rattle.eoe_server.specs.of_protocol_models.CoeModel.{coe_exchange}

-- the transfer that a service leaves
abbrev pub transfer_behind : Transfer → Service → Transfer
transfer_behind transfer (download t bytes) = idle
transfer_behind transfer (upload t) = idle
transfer_behind transfer (information a) = transfer

-- the server that a service leaves
abbrev pub server_behind : {S : Type 0} → Tables S → Bool → Server S → Service → Server S
server_behind o eoe v q = record { app = (meaning_of o eoe v.app q).app; handled = suc v.handled; transfer = transfer_behind v.transfer q }

-- here the application is the whole server
abbrev pub coe_served : {S : Type 0} → Tables S → Bool → Areas → Exchange (Server S) (Server S) CoeMail Service Reply
coe_served o eoe areas = whole_server (coe_exchange o eoe areas) (λ v. o.valid v.app) (server_behind o eoe)

-- what is seen of a server in the middle of a service: its tables
abbrev pub tables_of : {S : Type 0} → Server S → S
tables_of v = v.app
