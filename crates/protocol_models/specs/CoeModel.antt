-- CoE as an exchange: the server against the services of its client.
use Rattle.std.specs.Prelude.{ℕ, suc, ◌&&◌, nat_le, nat_lt, Bool, true, false, List, [], ◌∷◌, length, Result, Ok, Err}
use Rattle.exchange_model.specs.Areas.{Areas}
use Rattle.exchange_model.specs.Exchange.{Exchange, Speech}
use Rattle.exchange_model.specs.Dialogue.{said, sent}
use Rattle.protocol_models.specs.CoeMails.{CoeMail, is_emission}
use Rattle.protocol_models.specs.Tables.{Target, list, object, entry, Tables}
use Rattle.protocol_models.specs.CoeServer.{Server, serve}
use Rattle.protocol_models.specs.CoeMeaning.{Service, download, upload, information, Reply, meaning_of}
use Rattle.protocol_models.specs.CoeClient.{mails_of, decide, ends}

-- whether numbers are octets
abbrev pub are_octets : List ℕ → Bool
are_octets [] = true
are_octets (b ∷ bs) = nat_lt b 256 && are_octets bs

-- whether index and subindex have 16 and 8 bits
abbrev pub is_target : Target → Bool
is_target t = nat_lt t.index 65536 && nat_lt t.sub 256

-- a service whose numbers and octets fit their fields, and whose value is no longer than a transfer
abbrev pub is_service : Service → Bool
is_service (download t bytes) = is_target t && are_octets bytes && nat_le (length bytes) 16384
is_service (upload t) = is_target t
is_service (information (list kind)) = nat_lt kind 65536
is_service (information (object index)) = nat_lt index 65536
is_service (information (entry index sub info)) = nat_lt index 65536 && nat_lt sub 256 && nat_lt info 256

-- how many octets were read
abbrev pub value_length : Result (List ℕ) ℕ → ℕ
value_length (Ok bytes) = length bytes
value_length (Err code) = 0

-- more turns than a client takes for a service at these tables
abbrev pub turns : {S : Type 0} → Tables S → S → Service → ℕ
turns o app (download t bytes) = suc (suc (suc (length bytes)))
turns o app (upload t) = suc (suc (suc (value_length (o.upload app t))))
turns o app (information a) = suc (suc (suc 0))

-- the mails that a client has sent in all that has heard these replies: it never sends more mails than it has heard, but one
abbrev pub planned : ℕ → Service → List CoeMail → List CoeMail
planned room q hs = said decide (suc (length hs)) (mails_of room q (length hs)) hs

-- and those that it sends to this server
abbrev pub full : {S : Type 0} → Tables S → Bool → Areas → Server S → Service → List CoeMail
full o eoe areas v q = sent (serve o eoe areas.back) is_emission decide (turns o v.app q) v (mails_of areas.out q (turns o v.app q))

-- what its client speaks, at mailboxes of these lengths
abbrev pub coe_speech : Areas → Speech CoeMail Service Reply
coe_speech areas = record { emission = is_emission; valid = is_service; planned = planned areas.out; ends = ends areas.out; handed = λ q. false }

-- the exchange of CoE messages between this client and this server
abbrev pub coe_exchange : {S : Type 0} → Tables S → Bool → Areas → Exchange (Server S) S CoeMail Service Reply
coe_exchange o eoe areas = record {
  serve = serve o eoe areas.back;
  app = λ v. v.app;
  handled = λ v. v.handled;
  ready = λ v. o.valid v.app;
  speech = coe_speech areas;
  full = full o eoe areas;
  exec = λ a q. (meaning_of o eoe a q).app;
  reply = λ a q. (meaning_of o eoe a q).reply;
  emits = λ a q. (meaning_of o eoe a q).emits;
}
