-- What a client has to say and to hear, as mails.
use Rattle.std.specs.Prelude.{◌≡◌, ℕ, true, is_some, List, [], ◌∷◌, map, Option, None}
pub use Rattle.gateway_core.specs.of_mailbox_mail.Bodies.{mail_with}
use Rattle.gateway_core.specs.of_mailbox_mail.Mail.{error_of}
use Rattle.gateway_core.specs.of_mailbox_mail.declared.mail.Mail.{Mail}
use Rattle.gateway_core.specs.of_mailbox_mail.declared.mail.Kind.{Kind}
use Rattle.gateway_core.specs.of_mailbox_mail.declared.outcome.ReplyKind.{ReplyKind}
use Rattle.gateway_core.specs.of_mailbox_mail.declared.outcome.Took.{Took}
use Rattle.foe_client.specs.of_exchange_model.Areas.{Areas}
use Rattle.foe_client.specs.of_protocol_models.CoeOctets.{coe_mail_heard, coe_mail_written}
use Rattle.coe_client.specs.Talk as CoeTalk
use Rattle.foe_client.specs.of_protocol_models.FoeOctets.{foe_mail_heard, foe_mail_written}
use Rattle.foe_client.specs.Talk as FoeTalk
use Rattle.segment_plan.specs.declared.service.Service.{Service}
use Rattle.gateway_tool.specs.Rule.{planned, ends}
use Rattle.gateway_tool.specs.declared.client.Client.{Client}

-- the mails that a client has left to send, when it has heard these
abbrev pub left : Client → List Mail → List Mail
left (Client.Sdo c) hs = map coe_mail_written (CoeTalk.later c (map coe_mail_heard hs))
left (Client.File c) hs = map foe_mail_written (FoeTalk.later c (map foe_mail_heard hs))

-- the reply that these mails complete, behind those that it took
abbrev pub awaits : Client → List Mail → Option (ReplyKind × List ℕ)
awaits (Client.Sdo c) hs = CoeTalk.awaited c (map coe_mail_heard hs)
awaits (Client.File c) hs = FoeTalk.awaited c (map foe_mail_heard hs)

-- the protocol of its mails
abbrev pub kind_of : Client → Kind
kind_of (Client.Sdo c) = Kind.CoE
kind_of (Client.File c) = Kind.FoE

-- a client has begun a service
pub record Begins (areas : Areas) (q : Service) (c : Client) : Type 0 where
  pub mails : (hs : List Mail) → left c hs ≡ planned areas q hs
  pub replies : (hs : List Mail) → awaits c hs ≡ ends areas q hs

-- the first of the mails left is sent
pub record SendsNext (old : Client) (octets : List ℕ) (new : Client) : Type 0 where
  pub mails : (hs : List Mail) → left old hs ≡ mail_with (kind_of old) octets ∷ left new hs
  pub replies : (hs : List Mail) → awaits new hs ≡ awaits old hs

-- the client goes on behind a mail as it would have with that mail ahead of the others
pub record Follows (old : Client) (m : Mail) (new : Client) : Type 0 where
  pub mails : (hs : List Mail) → left new hs ≡ left old (m ∷ hs)
  pub replies : (hs : List Mail) → awaits new hs ≡ awaits old (m ∷ hs)

-- WHAT A MAIL IS TO THE CLIENT: it completes the reply; a mailbox error behind it would; or no reply side goes on with it
abbrev pub Takes : Took → Client → Mail → Client → Type 0
Takes Took.Done old m new = Follows old m new × (is_some (awaits new []) ≡ true)
Takes Took.More old m new = Follows old m new × (awaits new [] ≡ None) × (is_some (awaits new (error_of 0 ∷ [])) ≡ true)
Takes Took.Foreign old m new = ((hs : List Mail) → awaits old (m ∷ hs) ≡ None) × (new ≡ old)
