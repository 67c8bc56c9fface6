-- The rule by which a service goes over a gateway: which of the datagrams heard are taken, and which mails are sent for them.
use Rattle.std.specs.Prelude.{ℕ, suc, ◌≤◌, ◌==◌, ◌&&◌, ◌||◌, not, nat_le, Bool, true, is_some, if◌then◌else◌, List, [], ◌∷◌, ◌++◌, map, length, Option, Some, None, Result, Ok, Err}
use Rattle.gateway_core.specs.of_ec_outside.Port.{HeardGram}
use Rattle.gateway_core.specs.of_ec_outside.declared.port.Peer.{Peer}
use Rattle.gateway_core.specs.of_ec_outside.declared.port.SentGram.{SentGram}
use Rattle.gateway_core.specs.of_mailbox_mail.Mail.{error_of}
use Rattle.gateway_core.specs.of_mailbox_mail.declared.mail.Mail.{Mail}
use Rattle.gateway_core.specs.of_mailbox_mail.declared.outcome.ReplyKind.{ReplyKind}
use Rattle.link_model.specs.Counters.{counter_of}
use Rattle.foe_client.specs.of_exchange_model.Areas.{Areas}
use Rattle.foe_client.specs.of_protocol_models.CoeOctets.{coe_mail_heard, coe_mail_written}
use Rattle.foe_client.specs.of_protocol_models.CoeModel as CoeModel
use Rattle.foe_client.specs.of_protocol_models.CoeClient as CoeClient
use Rattle.coe_client.specs.Talk.{service_view}
use Rattle.foe_client.specs.of_protocol_models.FoeOctets.{foe_mail_heard, foe_mail_written}
use Rattle.foe_client.specs.of_protocol_models.FoeMeaning.{read, write}
use Rattle.foe_client.specs.of_protocol_models.FoeModel as FoeModel
use Rattle.foe_client.specs.of_protocol_models.FoeClient as FoeClient
use Rattle.coe_client.specs.of_object_dictionary.declared.service.SdoService.{SdoService}
use Rattle.segment_plan.specs.Sound.{IsSdo, IsName}
use Rattle.segment_plan.specs.declared.service.Service.{Service}
use Rattle.gateway_core.specs.Framing.{request_in, gram_text}
use Rattle.gateway_core.specs.declared.framing.GatewayFault.{GatewayFault}

-- a download or an upload of an entry, or a file that is read or written, with all numbers within their fields
abbrev pub IsForm : Service → Type 0
IsForm (Service.Sdo (SdoService.Download index sub bytes)) = IsSdo (SdoService.Download index sub bytes)
IsForm (Service.Sdo (SdoService.Upload index sub)) = IsSdo (SdoService.Upload index sub)
IsForm (Service.ReadFile name pass) = IsName name
IsForm (Service.WriteFile name pass bytes) = IsName name × (length bytes ≤ 131072)
IsForm _ = ⊥

-- the mails that the client of a service sends in all, when it has heard these
abbrev pub planned : Areas → Service → List Mail → List Mail
planned areas (Service.Sdo q) hs = map coe_mail_written (CoeModel.planned areas.out (service_view q) (map coe_mail_heard hs))
planned areas (Service.ReadFile name pass) hs = map foe_mail_written (FoeModel.planned areas.out (read name.items pass) (map foe_mail_heard hs))
planned areas (Service.WriteFile name pass bytes) hs = map foe_mail_written (FoeModel.planned areas.out (write name.items pass bytes) (map foe_mail_heard hs))
planned areas _ hs = []

-- the reply of a service, where these mails are its complete reply side
abbrev pub ends : Areas → Service → List Mail → Option (ReplyKind × List ℕ)
ends areas (Service.Sdo q) hs = CoeClient.ends areas.out (service_view q) (map coe_mail_heard hs)
ends areas (Service.ReadFile name pass) hs = FoeClient.ends areas (read name.items pass) (map foe_mail_heard hs)
ends areas (Service.WriteFile name pass bytes) hs = FoeClient.ends areas (write name.items pass bytes) (map foe_mail_heard hs)
ends areas _ hs = None

-- a service of a slave over a gateway: the lengths of the slave's mailboxes, its station, and who the gateway is
pub record Call : Type 0 where
  pub areas : Areas
  pub service : Service
  pub station : ℕ
  pub to : Peer

-- the mails taken so far, and how many datagrams were passed over since the last of them
pub record Standing : Type 0 where
  pub taken : List Mail
  pub passed : ℕ

-- nothing was heard yet
abbrev pub at_first : Standing
at_first = record { taken = []; passed = 0 }

-- a datagram is passed over
abbrev pub passed_over : Standing → Standing
passed_over s = record { taken = s.taken; passed = suc s.passed }

-- a mail is taken
abbrev pub with_mail : Standing → Mail → Standing
with_mail s m = record { taken = s.taken ++ m ∷ []; passed = 0 }

-- the mails to be sent so far
abbrev pub said : Call → Standing → List Mail
said c s = planned c.areas c.service s.taken

-- the reply that came so far
abbrev pub replied : Call → Standing → Option (ReplyKind × List ℕ)
replied c s = ends c.areas c.service s.taken

-- a mail may come next: it completes the reply, or a mailbox error behind it would
abbrev pub is_next : Call → Standing → Mail → Bool
is_next c s m = is_some (ends c.areas c.service (s.taken ++ m ∷ [])) || is_some (ends c.areas c.service (s.taken ++ m ∷ error_of 0 ∷ []))

-- the mail of a datagram that reads
abbrev pub mail_in : Result Mail GatewayFault → Option Mail
mail_in (Ok m) = Some m
mail_in (Err fault) = None

-- a mail, where it is one of the station and has this counter
abbrev pub mail_to : ℕ → ℕ → Option Mail → Option Mail
mail_to station counter None = None
mail_to station counter (Some m) = if m.address == station && m.counter == counter then Some m else None

-- a mail is taken where it may come next
abbrev pub hears_mail : Call → Standing → Option Mail → Standing
hears_mail c s None = passed_over s
hears_mail c s (Some m) = if is_next c s m then with_mail s m else passed_over s

-- A DATAGRAM IS TAKEN where it has a mail of the station with the counter of the last mail sent that may come next; others are passed over
abbrev pub hears : Call → Standing → List ℕ → Standing
hears c s octets = hears_mail c s (mail_to c.station (counter_of (length (said c s))) (mail_in (request_in octets)))

-- the same of datagrams in turn
abbrev pub hears_all : Call → Standing → List HeardGram → Standing
hears_all c s [] = s
hears_all c s (g ∷ gs) = hears_all c (hears c s g.bytes) gs

-- 65,536 datagrams were passed over in a row, or as many were taken
abbrev pub is_spent : Standing → Bool
is_spent s = nat_le 65536 s.passed || nat_le 65536 (length s.taken)

-- a further datagram is awaited: the reply isn't complete, and not too many came without it
abbrev pub is_open : Call → Standing → Bool
is_open c s = not (is_some (replied c s)) && not (is_spent s)

-- each of these datagrams was awaited
abbrev pub are_awaited : Call → Standing → List HeardGram → Bool
are_awaited c s [] = true
are_awaited c s (g ∷ gs) = is_open c s && are_awaited c (hears c s g.bytes) gs

-- the datagram of a mail: the slave's station is its address, and it has the counter of its number
abbrev pub gram_of : Call → ℕ → Mail → SentGram
gram_of c number m = record { to = c.to; bytes = gram_text (record m { address = c.station; counter = counter_of number }) }

-- the datagrams of mails in order, behind so many
abbrev pub grams_behind : Call → ℕ → List Mail → List SentGram
grams_behind c n [] = []
grams_behind c n (m ∷ ms) = gram_of c (suc n) m ∷ grams_behind c (suc n) ms

-- THE DATAGRAMS OF A CALL: each mail that its client has for those taken, numbered from 1
abbrev pub grams_of : Call → List Mail → List SentGram
grams_of c ms = grams_behind c 0 ms
