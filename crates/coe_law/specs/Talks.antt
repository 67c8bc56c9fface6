-- A client and a server on one object dictionary, at a moment between two of the client's mails.
use Rattle.std.specs.Prelude.{◌≡◌, ◌⊎◌, ℕ, Bool, List, [], ◌∷◌, ◌++◌, length, Option, None, Some}
use Rattle.coe_client.specs.of_exchange_model.Areas.{Areas}
use Rattle.coe_client.specs.of_exchange_model.Prefix.{IsPrefixOf}
use Rattle.coe_client.specs.of_exchange_model.Exchange.{after, given, plain, emitted}
use Rattle.coe_client.specs.of_object_dictionary.Dictionary.{Table}
use Rattle.coe_client.specs.of_protocol_models.CoeMails.{CoeMail, mail, fragment, Emergency, is_emission}
use Rattle.coe_client.specs.of_protocol_models.Tables.{Tables}
use Rattle.coe_client.specs.of_protocol_models.CoeServer.{Server, serve}
use Rattle.coe_client.specs.of_protocol_models.CoeMeaning.{Service, Reply, Meaning, meaning_of}
use Rattle.coe_client.specs.of_protocol_models.CoeClient.{ends}
use Rattle.coe_client.specs.of_protocol_models.CoeModel.{planned, full}
use Rattle.coe_server.specs.ObjectTables.{tables_with}
use Rattle.coe_server.specs.declared.state.Emitted.{Emitted}
use Rattle.coe_server.specs.Serving.{Serving, transfer_of, waiting_mails}
use Rattle.coe_client.specs.Talk.{Talking, later, awaited}
use Rattle.coe_law.specs.declared.carried.Emission.{Emission}

-- the dictionary's tables at an AL state, where an emitted packet goes in one piece
abbrev pub tables : ℕ → Tables Table
tables al = tables_with (λ octets. octets ∷ []) al

-- what a service means to the objects, by the tables of whole values
abbrev pub means : ℕ → Bool → Table → Service → Meaning Table
means al eoe objects q = meaning_of (tables al) eoe objects q

-- an emission as a mail of the model
abbrev pub emission_mails : Option Emission → List CoeMail
emission_mails None = []
emission_mails (Some (Emission.Emergency octets)) = mail (Emergency octets) ∷ []
emission_mails (Some (Emission.Packet octets)) = fragment octets.items ∷ []

-- the lengths of the two mailboxes
abbrev pub areas_of : Talking → Serving → Areas
areas_of client server = record { out = client.room; back = server.room }

-- the server's side as the model has it
abbrev pub server_at : Table → Serving → Server Table
server_at objects server = record { app = objects; handled = 0; transfer = transfer_of server }

-- all mails of a service
abbrev pub all_mails : ℕ → Talking → Serving → Table → Service → List CoeMail
all_mails al client server objects q = full (tables al) server.eoe (areas_of client server) (server_at objects server) q

-- the first of these mails complete the reply, and nothing is left to send
pub record IsDone (old : Talking) (hs : List CoeMail) (new : Talking) : Type 0 where
  pub front : List CoeMail
  pub back : List CoeMail
  pub parts : hs ≡ front ++ back
  pub reply : Reply
  pub whole : awaited old front ≡ Some reply
  pub none : (ms : List CoeMail) → later new ms ≡ []

-- a client goes on behind these mails as it would have with them ahead of the others, or is done
pub record Hears (old : Talking) (hs : List CoeMail) (new : Talking) : Type 0 where
  pub replies : (ms : List CoeMail) → awaited new ms ≡ awaited old (hs ++ ms)
  pub mails : ((ms : List CoeMail) → later new ms ≡ later old (hs ++ ms)) ⊎ IsDone old hs new
  pub room : new.room ≡ old.room

-- some mails behind these complete the reply
abbrev pub IsAwaited : Talking → List CoeMail → Type 0
IsAwaited c hs = (ms : List CoeMail) × (r : Reply) × (awaited c (hs ++ ms) ≡ Some r)

-- a mail that a server gives, or makes of a message: no fragment of a packet
abbrev pub IsGiven : CoeMail → Type 0
IsGiven (fragment body) = ⊥
IsGiven _ = Unit {0}

-- the packet that a server has emitted and not yet handed out, in one piece
abbrev pub packet_by : Emitted → List ℕ → List CoeMail
packet_by Emitted.Packet octets = fragment octets ∷ []
packet_by _ octets = []

-- the packet that a server has not yet handed out
abbrev pub packet_mails : Serving → List CoeMail
packet_mails c = packet_by c.emitted c.octets

-- behind these mails of a service, which began with this server on these objects
pub record Talks (al : ℕ) (eoe : Bool) (areas : Areas) (v : Server Table) (q : Service) (sent : List CoeMail) (client : Talking) (server : Serving) (objects : Table) (emission : Option Emission) : Type 0 where
  pub sends : IsPrefixOf sent (full (tables al) eoe areas v q)
  pub app : (after (serve (tables al) eoe areas.back) v sent).app ≡ objects
  pub transfer : (after (serve (tables al) eoe areas.back) v sent).transfer ≡ transfer_of server
  pub silent : waiting_mails server ≡ []
  pub replies : (ms : List CoeMail) → awaited client ms ≡ ends areas.out q (plain is_emission (given (serve (tables al) eoe areas.back) v sent) ++ ms)
  pub mails : ((ms : List CoeMail) → planned areas.out q (plain is_emission (given (serve (tables al) eoe areas.back) v sent) ++ ms) ≡ sent ++ later client ms)
      ⊎ (sent ≡ full (tables al) eoe areas v q) × ((ms : List CoeMail) → later client ms ≡ [])
  pub emits : emission_mails emission ≡ emitted is_emission (given (serve (tables al) eoe areas.back) v sent)
  pub out_room : client.room ≡ areas.out
  pub back_room : server.room ≡ areas.back
  pub serves : server.eoe ≡ eoe

-- so many mails were sent
abbrev pub TalksBehind : ℕ → Bool → Areas → Server Table → Service → ℕ → Talking → Serving → Table → Option Emission → Type 0
TalksBehind al eoe areas v q n client server objects emission =
    (sent : List CoeMail) × (length sent ≡ n) × Talks al eoe areas v q sent client server objects emission
