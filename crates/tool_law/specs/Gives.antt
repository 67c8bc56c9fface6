-- What a server gives a client over a gateway.
use Rattle.std.specs.Prelude.{◌≡◌, Bool, List, [], ◌∷◌, ◌++◌, map, Option, Some}
use Rattle.gateway_tool.specs.of_ec_outside.Port.{HeardGram}
use Rattle.gateway_tool.specs.of_ec_outside.declared.port.SentGram.{SentGram}
use Rattle.slave_model.specs.of_mailbox_mail.declared.mail.Mail.{Mail}
use Rattle.slave_model.specs.of_exchange_model.Exchange.{plain}
use Rattle.gateway_tool.specs.of_gateway_core.Framing.{request_in}
use Rattle.gateway_tool.specs.Rule.{mail_in}

-- a reply to a request goes to its asker: with the station and the counter of the request
abbrev pub to_asker : Mail → Mail → Mail
to_asker request m = record m { address = request.address; counter = request.counter }

-- what a server gives for requests in order: for each its replies, without emissions
abbrev pub gives : {V : Type 0} → (V → Mail → V × List Mail) → (Mail → Bool) → V → List Mail → List Mail
gives serve emission v [] = []
gives serve emission v (m ∷ ms) = map (to_asker m) (plain emission (serve v m).1) ++ gives serve emission (serve v m).0 ms

-- the mails that datagrams hold, as they are heard
abbrev pub held : List HeardGram → List (Option Mail)
held grams = map (λ (g : HeardGram). mail_in (request_in g.bytes)) grams

-- and as they are sent
abbrev pub posted : List SentGram → List (Option Mail)
posted grams = map (λ (g : SentGram). mail_in (request_in g.bytes)) grams

-- WHAT A SERVER GIVES A CLIENT: the mails of the datagrams heard are what the server gives for those of the datagrams sent, in order
pub record Gives {V : Type 0} (serve : V → Mail → V × List Mail) (emission : Mail → Bool) (v : V) (sent : List SentGram) (heard : List HeardGram) (requests : List Mail) : Type 0 where
  pub asked : posted sent ≡ map Some requests
  pub answered : held heard ≡ map Some (gives serve emission v requests)
