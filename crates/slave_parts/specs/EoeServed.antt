-- EoE services from whatever server: a packet ends the unfinished one, the services of addresses leave it.
use Rattle.std.specs.Prelude.{ℕ, suc, Option, None}
use Rattle.eoe_server.specs.of_eoe.declared.joining.Unfinished.{Unfinished}
use Rattle.idn_table.specs.of_exchange_model.Areas.{Areas}
use Rattle.idn_table.specs.of_exchange_model.Exchange.{Exchange}
use Rattle.slave_parts.specs.Whole.{whole_server}
use Rattle.eoe_server.specs.of_protocol_models.EoeMails.{EoeMail}
use Rattle.eoe_server.specs.of_protocol_models.Network.{Network, Station, is_ready}
use Rattle.eoe_server.specs.of_protocol_models.EoeServer.{Server}
use Rattle.eoe_server.specs.of_protocol_models.EoeClient.{Service, packet, set_ip, get_ip, Reply, meaning_of}
use Rattle.eoe_server.specs.of_protocol_models.EoeModel.{eoe_exchange}

-- what is unfinished behind a service
abbrev pub unfinished_behind : Option Unfinished → Service → Option Unfinished
unfinished_behind unfinished (packet octets frame) = None
unfinished_behind unfinished (set_ip block) = unfinished
unfinished_behind unfinished get_ip = unfinished

-- the server that a service leaves; room is the length of the mailbox that the slave sends through
abbrev pub server_behind : {S : Type 0} → Network S → ℕ → Server S → Service → Server S
server_behind o room v q = record { station = (meaning_of o room v.station q).station; handled = suc v.handled; unfinished = unfinished_behind v.unfinished q }

-- here the application is the whole server
abbrev pub eoe_served : {S : Type 0} → Network S → Areas → Exchange (Server S) (Server S) EoeMail Service Reply
eoe_served o areas = whole_server (eoe_exchange o areas) (λ v. is_ready o v.station) (server_behind o areas.back)

-- what is seen of a server in the middle of a service: its station
abbrev pub station_of : {S : Type 0} → Server S → Station S
station_of v = v.station
