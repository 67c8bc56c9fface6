-- The server of a slave: its application, how many services were carried out, and the unfinished transfers.
use Rattle.std.specs.Prelude.{ℕ, suc, not, Bool, true, false, if◌then◌else◌, List, [], ◌∷◌, Option, Ok, Err}
use Rattle.link_mails.specs.of_mailbox_mail.Mail.{error_of}
use Rattle.link_mails.specs.of_mailbox_mail.declared.mail.Mail.{Mail}
use Rattle.link_mails.specs.of_mailbox_mail.declared.mail.MailFault.TheVariants.{Short}
use Rattle.link_mails.specs.of_mailbox_mail.declared.outcome.ReplyKind.{ReplyKind}
use Rattle.link_mails.specs.Body.{Body}
use Rattle.protocol_models.specs.of_eoe.declared.joining.Unfinished.{Unfinished}
use Rattle.protocol_models.specs.CoeServer as Coe
use Rattle.protocol_models.specs.CoeMeaning as CoeMeaning
use Rattle.protocol_models.specs.FoeServer as Foe
use Rattle.protocol_models.specs.FoeMeaning as FoeMeaning
use Rattle.protocol_models.specs.SoeMails as SoeMails
use Rattle.protocol_models.specs.SoeServer as Soe
use Rattle.protocol_models.specs.SoeClient as SoeClient
use Rattle.protocol_models.specs.SoeOctets as SoeOctets
use Rattle.protocol_models.specs.EoeMails as EoeMails
use Rattle.protocol_models.specs.EoeServer as Eoe
use Rattle.protocol_models.specs.EoeClient as EoeClient
use Rattle.protocol_models.specs.EoeOctets as EoeOctets
use Rattle.protocol_models.specs.Network.{Station}
use Rattle.slave_model.specs.Profile.{Protocol}
use Rattle.slave_model.specs.Application.{Core}

-- a server: what the services act on, how many were carried out, and the unfinished transfer of each protocol
pub record Server (T F I : Type 0) : Type 0 where
  pub app : Station (Core T F I)
  pub handled : ℕ
  pub sdo : Coe.Transfer
  pub file : Foe.Transfer
  pub join : Option Soe.Join
  pub packet : Option Unfinished

-- what each protocol sees of it
abbrev pub Seat : Type 0 → Type 0 → Type 0 → Protocol → Type 0
Seat T F I Protocol.CoE = Coe.Server (Station (Core T F I))
Seat T F I Protocol.FoE = Foe.Server (Station (Core T F I))
Seat T F I Protocol.SoE = Soe.Server (Station (Core T F I))
Seat T F I Protocol.EoE = Eoe.Server (Core T F I)

-- the same, as a value
abbrev pub seat : {T F I : Type 0} → (i : Protocol) → Server T F I → Seat T F I i
seat Protocol.CoE j = record { app = j.app; handled = j.handled; transfer = j.sdo }
seat Protocol.FoE j = record { app = j.app; handled = j.handled; transfer = j.file }
seat Protocol.SoE j = record { app = j.app; handled = j.handled; join = j.join }
seat Protocol.EoE j = record { station = j.app; handled = j.handled; unfinished = j.packet }

-- the server with what a protocol left; the transfers of the others stay
abbrev pub reseated : {T F I : Type 0} → (i : Protocol) → Server T F I → Seat T F I i → Server T F I
reseated Protocol.CoE j v = record j { app = v.app; handled = v.handled; sdo = v.transfer }
reseated Protocol.FoE j v = record j { app = v.app; handled = v.handled; file = v.transfer }
reseated Protocol.SoE j v = record j { app = v.app; handled = v.handled; join = v.join }
reseated Protocol.EoE j v = record j { app = v.station; handled = v.handled; packet = v.unfinished }

-- one service more
abbrev pub one_more : (T F I : Type 0) → (i : Protocol) → Seat T F I i → Seat T F I i
one_more T F I Protocol.CoE v = record v { handled = suc v.handled }
one_more T F I Protocol.FoE v = record v { handled = suc v.handled }
one_more T F I Protocol.SoE v = record v { handled = suc v.handled }
one_more T F I Protocol.EoE v = record v { handled = suc v.handled }

-- the services of each protocol
abbrev pub ServiceOf : Protocol → Type 0
ServiceOf Protocol.CoE = CoeMeaning.Service
ServiceOf Protocol.FoE = FoeMeaning.Service
ServiceOf Protocol.SoE = SoeClient.Service
ServiceOf Protocol.EoE = EoeClient.Service

-- a reply: its kind, and the value where it has one
abbrev pub Reply : Type 0
Reply = ReplyKind × List ℕ

-- a mailbox error, as a mail
abbrev pub failure : ℕ → Body
failure detail = Ok (error_of detail)

-- mails of a protocol as the link has them
abbrev pub heard_by : {X : Type 0} → (Mail → X) → X → Body → X
heard_by read nothing (Ok m) = read m
heard_by read nothing (Err fault) = nothing

-- and as the link is told of them
abbrev pub told_by : {X : Type 0} → (X → Mail) → X → Body
told_by write x = Ok (write x)

-- an SoE mail that goes on, with the incomplete bit, gets no answer where SoE isn't served either
abbrev pub soe_quiet : SoeMails.SoeMail → Bool
soe_quiet (SoeMails.mail s) = s.incomplete
soe_quiet (SoeMails.unread SoeMails.Short incomplete) = false
soe_quiet (SoeMails.unread fault incomplete) = incomplete
soe_quiet m = false

-- an EoE fragment gets none, and only a last one counts
abbrev pub eoe_counts : EoeMails.EoeMail → Bool
eoe_counts (EoeMails.mail (EoeMails.Part f)) = f.last
eoe_counts (EoeMails.unread EoeMails.Offset kind) = false
eoe_counts m = true

-- whether a mail of EoE gets no answer where that is not served
abbrev pub eoe_quiet : EoeMails.EoeMail → Bool
eoe_quiet (EoeMails.mail (EoeMails.Part f)) = true
eoe_quiet (EoeMails.unread EoeMails.Offset kind) = true
eoe_quiet m = false

-- whether a mail of a protocol that isn't served counts as a service
abbrev pub refused_counts : Protocol → Body → Bool
refused_counts Protocol.CoE b = true
refused_counts Protocol.FoE b = true
refused_counts Protocol.SoE b = not (soe_quiet (heard_by SoeOctets.soe_mail_heard (SoeMails.other []) b))
refused_counts Protocol.EoE b = eoe_counts (heard_by EoeOctets.eoe_mail_heard (EoeMails.other []) b)

-- what answers it
abbrev pub refused_gives : Protocol → Body → List Body
refused_gives Protocol.CoE b = failure 2 ∷ []
refused_gives Protocol.FoE b = failure 2 ∷ []
refused_gives Protocol.SoE b = if soe_quiet (heard_by SoeOctets.soe_mail_heard (SoeMails.other []) b) then [] else failure 2 ∷ []
refused_gives Protocol.EoE b = if eoe_quiet (heard_by EoeOctets.eoe_mail_heard (EoeMails.other []) b) then [] else failure 2 ∷ []
