-- EoE as an exchange: the server against the services of its client.
use Rattle.exchange_model.specs.Areas.{Areas}
use Rattle.exchange_model.specs.Exchange.{Exchange, Speech}
use Rattle.protocol_models.specs.EoeMails.{EoeMail, is_emission}
use Rattle.protocol_models.specs.Network.{Network, Station, is_ready}
use Rattle.protocol_models.specs.EoeServer.{Server, serve}
use Rattle.protocol_models.specs.EoeClient.{Service, is_service, is_handed, mails_of, Reply, meaning_of, ends}

-- what its client speaks, at mailboxes of these lengths: it sends all mails of a service, whatever it hears
abbrev pub eoe_speech : Areas → Speech EoeMail Service Reply
eoe_speech areas = record { emission = is_emission; valid = is_service; planned = λ q hs. mails_of areas.out q; ends = ends; handed = is_handed }

-- THE EXCHANGE: the server of a network at mailboxes of these lengths, and what its client speaks
abbrev pub eoe_exchange : {S : Type 0} → Network S → Areas → Exchange (Server S) (Station S) EoeMail Service Reply
eoe_exchange o areas = record {
  serve = serve o areas.back;
  app = λ v. v.station;
  handled = λ v. v.handled;
  ready = λ v. is_ready o v.station;
  speech = eoe_speech areas;
  full = λ v q. mails_of areas.out q;
  exec = λ a q. (meaning_of o areas.back a q).station;
  reply = λ a q. (meaning_of o areas.back a q).reply;
  emits = λ a q. (meaning_of o areas.back a q).emits;
}
