-- FoE as an exchange: the server against the services of its client.
use Rattle.std.specs.Prelude.{ℕ, suc, ◌+◌, ◌&&◌, nat_le, nat_lt, Bool, false, List, [], length, Option, None, Some}
use Rattle.exchange_model.specs.Areas.{Areas}
use Rattle.exchange_model.specs.Exchange.{Exchange, Speech}
use Rattle.exchange_model.specs.Dialogue.{said, sent}
use Rattle.foe_codec.specs.Message.{is_name}
use Rattle.protocol_models.specs.FoeMails.{FoeMail, is_emission}
use Rattle.protocol_models.specs.Files.{Files}
use Rattle.protocol_models.specs.FoeServer.{Server, serve}
use Rattle.protocol_models.specs.FoeMeaning.{Service, read, write, Reply, meaning_of}
use Rattle.protocol_models.specs.FoeClient.{mails_of, decide, ends}

-- a service whose name and password fit their fields, and whose file is no longer than a transfer
abbrev pub is_service : Service → Bool
is_service (read name pass) = is_name name && nat_lt pass 4294967296
is_service (write name pass bytes) = is_name name && nat_lt pass 4294967296 && nat_le (length bytes) 131072

-- how many octets a read brings
abbrev pub read_length : Option ℕ → List ℕ → ℕ
read_length None bytes = length bytes
read_length (Some code) bytes = 0

-- more turns than a client takes for a service at these files
abbrev pub turns : {S : Type 0} → Files S → S → Service → ℕ
turns o app (read name pass) = suc (suc (suc (read_length (o.allowed app name pass false) (o.get app name))))
turns o app (write name pass bytes) = suc (suc (suc (length bytes + o.busy app name)))

-- the mails that a client has sent in all that has heard these replies: it never sends more mails than it has heard, but one
abbrev pub planned : ℕ → Service → List FoeMail → List FoeMail
planned out q hs = said (decide out) (suc (length hs)) (mails_of out q (length hs)) hs

-- and those that it sends to this server
abbrev pub full : {S : Type 0} → Files S → Areas → Server S → Service → List FoeMail
full o areas v q = sent (serve o areas.out areas.back) is_emission (decide areas.out) (turns o v.app q) v (mails_of areas.out q (turns o v.app q))

-- what its client speaks, at mailboxes of these lengths
abbrev pub foe_speech : Areas → Speech FoeMail Service Reply
foe_speech areas = record { emission = is_emission; valid = is_service; planned = planned areas.out; ends = ends areas; handed = λ q. false }

-- FoE as an exchange, at mailboxes of these lengths
abbrev pub foe_exchange : {S : Type 0} → Files S → Areas → Exchange (Server S) S FoeMail Service Reply
foe_exchange o areas = record {
  serve = serve o areas.out areas.back;
  app = λ v. v.app;
  handled = λ v. v.handled;
  ready = λ v. o.valid v.app;
  speech = foe_speech areas;
  full = full o areas;
  exec = λ a q. (meaning_of o a q).app;
  reply = λ a q. (meaning_of o a q).reply;
  emits = λ a q. [];
}
