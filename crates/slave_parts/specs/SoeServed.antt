-- SoE services from whatever server: a write that meets an unfinished join of its drive and elements writes the join's octets followed by its own.
use Rattle.std.specs.Prelude.{ℕ, suc, false, Option, None, List, [], ◌++◌, take}
use Rattle.idn_table.specs.of_exchange_model.Areas.{Areas}
use Rattle.idn_table.specs.of_exchange_model.Exchange.{Exchange}
use Rattle.eoe_server.specs.of_protocol_models.Elements.{Target, Elements}
use Rattle.eoe_server.specs.of_protocol_models.SoeMails.{SoeMail, message}
use Rattle.eoe_server.specs.of_protocol_models.SoeServer.{Join, Server, serve, ahead, most}
use Rattle.eoe_server.specs.of_protocol_models.SoeClient.{Service, read, write, mails_of, Reply, meaning_of}
use Rattle.eoe_server.specs.of_protocol_models.SoeModel.{soe_speech}

-- the octets that an unfinished join puts ahead of a write
abbrev pub ahead_of : Option Join → Target → List ℕ
ahead_of join t = ahead join (message 3 false t 0 [])

-- the service that is carried out
abbrev pub met : Option Join → Service → Service
met join (read t) = read t
met join (write t bytes) = write t (take most (ahead_of join t ++ bytes))

-- here the application is the whole server; each service ends the join
abbrev pub soe_served : {S : Type 0} → Elements S → Areas → Exchange (Server S) (Server S) SoeMail Service Reply
soe_served o areas = record {
  serve = serve o areas.back;
  app = λ v. v;
  handled = λ v. v.handled;
  ready = λ v. o.valid v.app;
  speech = soe_speech areas;
  full = λ v q. mails_of areas.out q;
  exec = λ v q. record { app = (meaning_of o v.app (met v.join q)).app; handled = suc v.handled; join = None };
  reply = λ v q. (meaning_of o v.app (met v.join q)).reply;
  emits = λ v q. [];
}

-- what is seen of a server in the middle of a service: its table
abbrev pub table_of : {S : Type 0} → Server S → S
table_of v = v.app
