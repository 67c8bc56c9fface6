-- SoE as an exchange: the server against the services of its client.
use Rattle.std.specs.Prelude.{◌&&◌, Bool, is_none, false, []}
use Rattle.exchange_model.specs.Areas.{Areas}
use Rattle.exchange_model.specs.Exchange.{Exchange, Speech}
use Rattle.protocol_models.specs.Elements.{Elements}
use Rattle.protocol_models.specs.SoeMails.{SoeMail, is_emission}
use Rattle.protocol_models.specs.SoeServer.{Server, serve}
use Rattle.protocol_models.specs.SoeClient.{Service, is_service, mails_of, Reply, meaning_of, ends}

-- a server of which the laws speak: its table is such a one, and no join is unfinished
abbrev pub is_ready : {S : Type 0} → Elements S → Server S → Bool
is_ready o v = o.valid v.app && is_none v.join

-- what its client speaks, at mailboxes of these lengths: it sends all mails of a service, whatever it hears meanwhile
abbrev pub soe_speech : Areas → Speech SoeMail Service Reply
soe_speech areas = record { emission = is_emission; valid = is_service; planned = λ q hs. mails_of areas.out q; ends = ends; handed = λ q. false }

-- SoE as an exchange, at mailboxes of these lengths
abbrev pub soe_exchange : {S : Type 0} → Elements S → Areas → Exchange (Server S) S SoeMail Service Reply
soe_exchange o areas = record {
  serve = serve o areas.back;
  app = λ v. v.app;
  handled = λ v. v.handled;
  ready = is_ready o;
  speech = soe_speech areas;
  full = λ v q. mails_of areas.out q;
  exec = λ a q. (meaning_of o a q).app;
  reply = λ a q. (meaning_of o a q).reply;
  emits = λ a q. [];
}
