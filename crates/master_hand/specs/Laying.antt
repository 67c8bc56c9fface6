-- What waits to come into hand: the script of a slave, and what is laid ready.
use Rattle.std.specs.Prelude.{ℕ, suc, List, Option, Some, None, slice_get}
use Rattle.foe_client.specs.of_exchange_model.Areas.{Areas}
use Rattle.eoe_client.specs.of_protocol_models.EoeClient as EoeClient
use Rattle.segment_plan.specs.declared.service.Service.{Service}
use Rattle.master_hand.specs.Spoken.{Asked, net, passed}
use Rattle.master_hand.specs.Passed.{mail_of}
use Rattle.master_hand.specs.Talk.{asked_of}
use Rattle.master_hand.specs.declared.laying.Laid.{Laid}
use Rattle.master_hand.specs.declared.passed.Content.{Content}

-- a script with the number of its next service, what is laid ready, and the packet and the mail that may be; a packet has its frame number
pub record Waiting : Type 0 where
  pub areas : Areas
  pub script : List Service
  pub number : ℕ
  pub laid : Laid
  pub packet : List ℕ
  pub frame : ℕ
  pub mail : Content

-- the next service of a script
abbrev pub asked_next : ℕ → Option Service → Option Asked
asked_next room None = None
asked_next room (Some service) = asked_of room service

-- what is laid ready
abbrev pub ready_by : Laid → Waiting → Option Asked
ready_by Laid.Nothing w = None
ready_by Laid.Script w = asked_next w.areas.out (slice_get w.script w.number)
ready_by Laid.Packet w = Some (net (EoeClient.packet w.packet w.frame))
ready_by Laid.Mail w = Some (passed (mail_of w.mail))

-- by what is laid ready now
abbrev pub ready_of : Waiting → Option Asked
ready_of w = ready_by w.laid w

-- a script, and the number of its next service
pub record Scripted : Type 0 where
  pub script : List Service
  pub number : ℕ

-- of what waits
abbrev pub scripted : Waiting → Scripted
scripted w = record { script = w.script; number = w.number }

-- that number, once what is laid ready has come into hand
abbrev pub number_behind : Laid → ℕ → ℕ
number_behind Laid.Nothing n = n
number_behind Laid.Script n = suc n
number_behind Laid.Packet n = n
number_behind Laid.Mail n = n

-- once what is laid ready has come into hand
abbrev pub scripted_behind : Waiting → Scripted
scripted_behind w = record { script = w.script; number = number_behind w.laid w.number }
