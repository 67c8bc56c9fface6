-- What the client law says of a call.
use Rattle.std.specs.Prelude.{◌≡◌, ℕ, suc, List, ◌++◌, Some}
use Rattle.gateway_tool.specs.of_ec_outside.Port.{HeardGram}
use Rattle.gateway_tool.specs.of_ec_outside.declared.port.SentGram.{SentGram}
use Rattle.slave_model.specs.of_mailbox_mail.declared.mail.Mail.{Mail}
use Rattle.slave_model.specs.of_mailbox_mail.declared.outcome.ReplyKind.{ReplyKind}
use Rattle.slave_model.specs.of_exchange_model.Exchange.{Exchange, after}
use Rattle.gateway_tool.specs.Told.{Told}
use Rattle.gateway_tool.specs.declared.reply.Reply.{Reply}
use Rattle.gateway_tool.specs.declared.asking.ToolEnd.{ToolEnd}

-- a port tells its lists, and these datagrams were heard and sent in a call
pub record Tells (first last : Told) (heard : List HeardGram) (sent : List SentGram) : Type 0 where
  pub heard_first : List HeardGram
  pub sent_first : List SentGram
  pub heard_so : first.heard ≡ Some heard_first
  pub heard_then : last.heard ≡ Some (heard_first ++ heard)
  pub sent_so : first.sent ≡ Some sent_first
  pub sent_then : last.sent ≡ Some (sent_first ++ sent)

-- the value is the service's reply, and the server behind the requests has carried it out, once
pub record IsCarriedOut {V A Q : Type 0} (x : Exchange V A Mail Q (ReplyKind × List ℕ)) (v : V) (q : Q) (requests : List Mail) (value : Reply) : Type 0 where
  pub reply : (value.kind, value.value) ≡ x.reply (x.app v) q
  pub app : x.app (after x.serve v requests) ≡ x.exec (x.app v) q
  pub handled : x.handled (after x.serve v requests) ≡ suc (x.handled v)

-- WHAT A CALL COMES TO: a reply, which is the service's; else the port failed, or memory ran out
abbrev pub Concludes : {V A Q : Type 0} → Exchange V A Mail Q (ReplyKind × List ℕ) → V → Q → List Mail → Reply → ToolEnd → Type 0
Concludes x v q requests value ToolEnd.Reply = IsCarriedOut x v q requests value
Concludes x v q requests value ToolEnd.NoAnswer = ⊥
Concludes x v q requests value ToolEnd.PortFault = Unit {0}
Concludes x v q requests value ToolEnd.NoMemory = Unit {0}
