-- An EoE server (ETG.1000.6, "EoE"): what it does with one mail.
use Rattle.std.specs.Prelude.{ℕ, suc, ◌+◌, ◌-◌, ◌%◌, ◌==◌, ◌&&◌, nat_le, Bool, true, false, List, [], ◌∷◌, length, if◌then◌else◌, Option, None, Some}
use Rattle.eoe.specs.declared.joining.Joined.{Joined}
use Rattle.eoe.specs.declared.joining.Joined.TheVariants.{More, Whole, Dropped}
use Rattle.eoe.specs.declared.joining.Unfinished.{Unfinished}
use Rattle.eoe.specs.Joining.{taken}
use Rattle.eoe.specs.Address.{is_block}
use Rattle.protocol_models.specs.EoeMails.{Eoe, Part, SetIp, SetIpAnswer, GetIp, GetIpAnswer, EoeFault, Short, WrongType, Offset, EoeMail, mail, unread, unsupported, failed, other, packet_mails}
use Rattle.protocol_models.specs.Network.{Network, Station}

-- what a server does with one mail: the station and the unfinished packet behind it, whether a service was carried out, and the mails that
-- it gives: an answer, or the fragments of a packet of its own
pub record Outcome (S : Type 0) : Type 0 where
  pub station : Station S
  pub unfinished : Option Unfinished
  pub counts : Bool
  pub gives : List EoeMail

-- the station behind a packet that its application took, and the fragments of the packet that it sends then, if it does: its frame numbers
-- grow modulo 16
abbrev pub sends : {S : Type 0} → ℕ → ℕ → S × Option (List ℕ) → Station S × List EoeMail
sends room frame (app, None) = (record { app = app; frame = frame }, [])
sends room frame (app, Some octets) = (record { app = app; frame = (frame + 1) % 16 }, packet_mails room octets frame)

-- a whole packet, handed to the application; room is the length of the mailbox that the server sends through
abbrev pub delivered : {S : Type 0} → Network S → ℕ → Station S → List ℕ → Station S × List EoeMail
delivered o room station octets = sends room station.frame (o.packet station.app octets)

-- what became of a fragment: only a whole packet has an effect, and only a last fragment counts
abbrev pub joined : {S : Type 0} → Network S → ℕ → Station S → Bool → Option Unfinished → Joined → Outcome S
joined o room station last unfinished More = record { station = station; unfinished = unfinished; counts = last; gives = [] }
joined o room station last unfinished (Whole p) =
    record { station = (delivered o room station p.items).0; unfinished = unfinished; counts = last; gives = (delivered o room station p.items).1 }
joined o room station last unfinished Dropped = record { station = station; unfinished = unfinished; counts = last; gives = [] }

-- a mail that counts, with an answer or without one
abbrev pub answered : {S : Type 0} → Station S → Option Unfinished → List EoeMail → Outcome S
answered station unfinished answer = record { station = station; unfinished = unfinished; counts = true; gives = answer }

-- a mail without effect and answer
abbrev pub silent : {S : Type 0} → Station S → Option Unfinished → Outcome S
silent station unfinished = record { station = station; unfinished = unfinished; counts = false; gives = [] }

-- the state behind a new address block, None where it is refused: octets that are no block, a block that the answer to get IP has no room
-- for, and fixed addresses
abbrev pub addressed : {S : Type 0} → Network S → ℕ → S → List ℕ → Option S
addressed o room app block = if is_block block && nat_le (length block) (room - 10) then o.set_ip app block else None

-- the answer to set IP: result 0, or 1 where it was refused
abbrev pub set_answer : {S : Type 0} → Station S → Option Unfinished → Option S → Outcome S
set_answer station unfinished (Some app) = answered (record station { app = app }) unfinished (mail (SetIpAnswer 0) ∷ [])
set_answer station unfinished None = answered station unfinished (mail (SetIpAnswer 1) ∷ [])

-- answers that come to a server get none
abbrev pub eoe_takes : {S : Type 0} → Network S → ℕ → Station S → Option Unfinished → Eoe → Outcome S
eoe_takes o room station unfinished (Part f) = joined o room station f.last (taken unfinished f).unfinished (taken unfinished f).joined
eoe_takes o room station unfinished (SetIp block) = set_answer station unfinished (addressed o room station.app block.items)
eoe_takes o room station unfinished GetIp = answered station unfinished (mail (GetIpAnswer 0 (record { items = o.block station.app })) ∷ [])
eoe_takes o room station unfinished (SetIpAnswer result_code) = answered station unfinished []
eoe_takes o room station unfinished (GetIpAnswer result_code block) = answered station unfinished []

-- a mail that does not read: too short, by mailbox error 6; an even type, by the type behind it with result 2; others by nothing. A fragment
-- with part of a block isn't the last of a packet
abbrev pub takes_unread : {S : Type 0} → Station S → Option Unfinished → EoeFault → ℕ → Outcome S
takes_unread station unfinished Short kind = answered station unfinished (failed 6 ∷ [])
takes_unread station unfinished WrongType kind = answered station unfinished (if kind % 2 == 0 then unsupported (kind + 1) ∷ [] else [])
takes_unread station unfinished Offset kind = silent station unfinished

-- any mail. A mailbox error and a mail of another protocol are none of a server's
abbrev pub eoe_outcome : {S : Type 0} → Network S → ℕ → Station S → Option Unfinished → EoeMail → Outcome S
eoe_outcome o room station unfinished (mail e) = eoe_takes o room station unfinished e
eoe_outcome o room station unfinished (unread fault kind) = takes_unread station unfinished fault kind
eoe_outcome o room station unfinished (unsupported kind) = answered station unfinished []
eoe_outcome o room station unfinished (failed detail) = silent station unfinished
eoe_outcome o room station unfinished (other body) = silent station unfinished

-- a server, with the number of services that it has carried out
pub record Server (S : Type 0) : Type 0 where
  pub station : Station S
  pub handled : ℕ
  pub unfinished : Option Unfinished

-- a mail that counts is one more
abbrev pub one_more : Bool → ℕ → ℕ
one_more true n = suc n
one_more false n = n

-- the server behind such an outcome, and what it gives
abbrev pub behind : {S : Type 0} → ℕ → Outcome S → Server S × List EoeMail
behind handled x = (record { station = x.station; handled = one_more x.counts handled; unfinished = x.unfinished }, x.gives)

-- one mail taken: the server behind it, and what it gives
abbrev pub serve : {S : Type 0} → Network S → ℕ → Server S → EoeMail → Server S × List EoeMail
serve o room v m = behind v.handled (eoe_outcome o room v.station v.unfinished m)
