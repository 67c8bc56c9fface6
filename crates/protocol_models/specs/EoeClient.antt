-- EoE services: what they mean on whole packets and blocks, the mails that a client sends for them, and the reply that the mails it hears complete.
use Rattle.std.specs.Prelude.{ℕ, ◌==◌, ◌&&◌, nat_le, nat_lt, Bool, true, false, List, [], ◌∷◌, length, if◌then◌else◌, Option, None, Some}
use Rattle.mailbox_mail.specs.declared.outcome.ReplyKind.{ReplyKind}
use Rattle.protocol_models.specs.EoeMails.{SetIp, SetIpAnswer, GetIp, GetIpAnswer, EoeMail, mail, failed, packet_mails}
use Rattle.protocol_models.specs.Network.{Network, Station}
use Rattle.protocol_models.specs.EoeServer.{delivered, addressed}

-- a packet, set IP or get IP
pub data Service : Type 0 where
  -- a packet to the slave, with its frame number
  packet : (octets : List ℕ) (frame : ℕ) → Service
  set_ip : (block : List ℕ) → Service
  get_ip : Service

-- a packet has 14 to 1,514 octets, and a frame number is below 16
abbrev pub is_service : Service → Bool
is_service (packet octets frame) = nat_le 14 (length octets) && nat_le (length octets) 1514 && nat_lt frame 16
is_service (set_ip block) = true
is_service get_ip = true

-- a packet has no answer: it ends with the write of its last fragment
abbrev pub is_handed : Service → Bool
is_handed (packet octets frame) = true
is_handed (set_ip block) = false
is_handed get_ip = false

-- the mails of a service, through a mailbox of this length
abbrev pub mails_of : ℕ → Service → List EoeMail
mails_of room (packet octets frame) = packet_mails room octets frame
mails_of room (set_ip block) = mail (SetIp (record { items = block })) ∷ []
mails_of room get_ip = mail GetIp ∷ []

-- a reply: its kind, and the block where it has one
abbrev pub Reply : Type 0
Reply = ReplyKind × List ℕ

-- what a service does to the station, what it replies, and the mails that it emits
pub record Meaning (S : Type 0) : Type 0 where
  pub station : Station S
  pub reply : Reply
  pub emits : List EoeMail

-- set IP: done, or refused by result 1 without effect
abbrev pub set_means : {S : Type 0} → Station S → Option S → Meaning S
set_means station (Some app) = record { station = record station { app = app }; reply = (ReplyKind.Done, []); emits = [] }
set_means station None = record { station = station; reply = (ReplyKind.EoeResult 1, []); emits = [] }

-- each service; room is the length of the mailbox that the slave sends through
abbrev pub meaning_of : {S : Type 0} → Network S → ℕ → Station S → Service → Meaning S
meaning_of o room station (packet octets frame) =
    record { station = (delivered o room station octets).0; reply = (ReplyKind.Handed, []); emits = (delivered o room station octets).1 }
meaning_of o room station (set_ip block) = set_means station (addressed o room station.app block)
meaning_of o room station get_ip = record { station = station; reply = (ReplyKind.Value, o.block station.app); emits = [] }

-- a reply by a result: 0 is success
abbrev pub by_result : ℕ → Reply → Reply
by_result result_code success = if result_code == 0 then success else (ReplyKind.EoeResult result_code, [])

-- the reply to set IP that one mail is
abbrev pub set_reply : EoeMail → Option Reply
set_reply (mail (SetIpAnswer result_code)) = Some (by_result result_code (ReplyKind.Done, []))
set_reply (failed detail) = Some (ReplyKind.MailboxError detail, [])
set_reply _ = None

-- the reply to get IP: the address block
abbrev pub get_reply : EoeMail → Option Reply
get_reply (mail (GetIpAnswer result_code block)) = Some (by_result result_code (ReplyKind.Value, block.items))
get_reply (failed detail) = Some (ReplyKind.MailboxError detail, [])
get_reply _ = None

-- the reply of a service, where these mails are its complete reply side: one mail, and for a packet none
abbrev pub ends : Service → List EoeMail → Option Reply
ends (set_ip block) (m ∷ []) = set_reply m
ends get_ip (m ∷ []) = get_reply m
ends _ _ = None
