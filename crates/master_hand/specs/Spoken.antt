-- What a master speaks with one slave, whose mailboxes have these lengths: the services of all protocols, packets, and mails that are passed on.
use Rattle.std.specs.Prelude.{ℕ, Bool, true, false, List, [], ◌∷◌, Option, Some, None, option_map, if◌then◌else◌, Ok, Err}
use Rattle.eoe_client.specs.of_mailbox_mail.declared.mail.Mail.{Mail}
use Rattle.eoe_client.specs.of_mailbox_mail.declared.mail.Kind.{Kind}
use Rattle.eoe_client.specs.of_mailbox_mail.declared.mail.Kind.TheVariants.{CoE, SoE}
use Rattle.master_side.specs.of_link_mails.Body.{Body}
use Rattle.foe_client.specs.of_exchange_model.Areas.{Areas}
use Rattle.foe_client.specs.of_exchange_model.Exchange.{Speech}
use Rattle.foe_client.specs.of_exchange_model.Lifted.{lifted_speech}
use Rattle.serving_model.specs.Passing.{ends_told}
use Rattle.eoe_client.specs.of_protocol_models.CoeMails as CoeMails
use Rattle.eoe_client.specs.of_protocol_models.CoeMeaning as CoeMeaning
use Rattle.eoe_client.specs.of_protocol_models.CoeClient as CoeClient
use Rattle.eoe_client.specs.of_protocol_models.CoeModel as CoeModel
use Rattle.eoe_client.specs.of_protocol_models.CoeOctets as CoeOctets
use Rattle.eoe_client.specs.of_protocol_models.FoeMails as FoeMails
use Rattle.eoe_client.specs.of_protocol_models.FoeMeaning as FoeMeaning
use Rattle.eoe_client.specs.of_protocol_models.FoeModel as FoeModel
use Rattle.eoe_client.specs.of_protocol_models.FoeOctets as FoeOctets
use Rattle.eoe_client.specs.of_protocol_models.SoeMails as SoeMails
use Rattle.eoe_client.specs.of_protocol_models.SoeClient as SoeClient
use Rattle.eoe_client.specs.of_protocol_models.SoeModel as SoeModel
use Rattle.eoe_client.specs.of_protocol_models.SoeOctets as SoeOctets
use Rattle.eoe_client.specs.of_protocol_models.EoeMails as EoeMails
use Rattle.eoe_client.specs.of_protocol_models.EoeClient as EoeClient
use Rattle.eoe_client.specs.of_protocol_models.EoeModel as EoeModel
use Rattle.eoe_client.specs.of_protocol_models.EoeOctets as EoeOctets
use Rattle.master_side.specs.of_master_duty.Reply.{Reply}

-- what is asked of a slave by mails: a service of a protocol, or that a mail is passed on as it is
pub data Asked : Type 0 where
  sdo : (q : CoeMeaning.Service) → Asked
  file : (q : FoeMeaning.Service) → Asked
  drive : (q : SoeClient.Service) → Asked
  net : (q : EoeClient.Service) → Asked
  passed : (m : Mail) → Asked

-- mails of a protocol as the link has them
abbrev pub heard_by : {X : Type 0} → (Mail → X) → X → Body → X
heard_by read nothing (Ok m) = read m
heard_by read nothing (Err fault) = nothing

-- and as the link is told of them
abbrev pub told_by : {X : Type 0} → (X → Mail) → X → Body
told_by write x = Ok (write x)

-- a mail of the link as each protocol hears it, and a mail of each as the link is told of it
abbrev pub heard_sdo : Body → CoeMails.CoeMail
heard_sdo b = heard_by CoeOctets.coe_mail_heard (CoeMails.other []) b

-- a mail of CoE as the link is told of it
abbrev pub told_sdo : CoeMails.CoeMail → Body
told_sdo m = told_by CoeOctets.coe_mail_written m

-- a mail of the link as FoE hears it
abbrev pub heard_file : Body → FoeMails.FoeMail
heard_file b = heard_by FoeOctets.foe_mail_heard (FoeMails.other []) b

-- a mail of FoE as the link is told of it
abbrev pub told_file : FoeMails.FoeMail → Body
told_file m = told_by FoeOctets.foe_mail_written m

-- a mail of the link as SoE hears it
abbrev pub heard_drive : Body → SoeMails.SoeMail
heard_drive b = heard_by SoeOctets.soe_mail_heard (SoeMails.other []) b

-- a mail of SoE as the link is told of it
abbrev pub told_drive : SoeMails.SoeMail → Body
told_drive m = told_by SoeOctets.soe_mail_written m

-- a mail of the link as EoE hears it
abbrev pub heard_net : Body → EoeMails.EoeMail
heard_net b = heard_by EoeOctets.eoe_mail_heard (EoeMails.other []) b

-- a mail of EoE as the link is told of it
abbrev pub told_net : EoeMails.EoeMail → Body
told_net m = told_by EoeOctets.eoe_mail_written m

-- what each protocol's client speaks
abbrev pub sdo_speech : Areas → Speech Body CoeMeaning.Service CoeMeaning.Reply
sdo_speech areas = lifted_speech (CoeModel.coe_speech areas) heard_sdo told_sdo

-- what the client of FoE speaks
abbrev pub file_speech : Areas → Speech Body FoeMeaning.Service FoeMeaning.Reply
file_speech areas = lifted_speech (FoeModel.foe_speech areas) heard_file told_file

-- what the client of SoE speaks
abbrev pub drive_speech : Areas → Speech Body SoeClient.Service SoeClient.Reply
drive_speech areas = lifted_speech (SoeModel.soe_speech areas) heard_drive told_drive

-- what the client of EoE speaks
abbrev pub net_speech : Areas → Speech Body EoeClient.Service EoeClient.Reply
net_speech areas = lifted_speech (EoeModel.eoe_speech areas) heard_net told_net

-- a mail of the slave replies to nothing: an emergency, or a fragment of a packet
abbrev pub emission : Body → Bool
emission b = CoeMails.is_emission (heard_sdo b)

-- a reply is followed by others where it is SDO information or SoE with the incomplete bit
abbrev pub followed_by : Kind → List ℕ → Bool
followed_by CoE body = CoeClient.is_incomplete (CoeOctets.body_heard body)
followed_by SoE body = SoeClient.is_incomplete (SoeOctets.body_heard body)
followed_by _ body = false

-- the same of a mail of the link
abbrev pub is_followed : Body → Bool
is_followed (Ok m) = followed_by m.kind m.body.items
is_followed (Err fault) = false

-- the services of which the laws speak
abbrev pub valid : Areas → Asked → Bool
valid areas (sdo q) = (sdo_speech areas).valid q
valid areas (file q) = (file_speech areas).valid q
valid areas (drive q) = (drive_speech areas).valid q
valid areas (net q) = (net_speech areas).valid q
valid areas (passed m) = true

-- the mails of each, by what was heard
abbrev pub planned : Areas → Asked → List Body → List Body
planned areas (sdo q) hs = (sdo_speech areas).planned q hs
planned areas (file q) hs = (file_speech areas).planned q hs
planned areas (drive q) hs = (drive_speech areas).planned q hs
planned areas (net q) hs = (net_speech areas).planned q hs
planned areas (passed m) hs = Ok m ∷ []

-- a reply that a service has, as the account has it
abbrev pub replied : {R : Type 0} → Option R → Option (Option R)
replied o = option_map (λ r. Some r) o

-- the replies of a mail that is passed on go up to the first that no other follows; they are handed on one by one
abbrev pub passed_ends : List Body → Option Reply
passed_ends hs = if ends_told is_followed hs then Some None else None

-- the reply that these mails complete
abbrev pub ends : Areas → Asked → List Body → Option Reply
ends areas (sdo q) hs = replied ((sdo_speech areas).ends q hs)
ends areas (file q) hs = replied ((file_speech areas).ends q hs)
ends areas (drive q) hs = replied ((drive_speech areas).ends q hs)
ends areas (net q) hs = replied ((net_speech areas).ends q hs)
ends areas (passed m) hs = passed_ends hs

-- packets end with their last write; so does a mail that is passed on and has no reply, as not each slave answers each mail
abbrev pub handed : Areas → Asked → Bool
handed areas (sdo q) = (sdo_speech areas).handed q
handed areas (file q) = (file_speech areas).handed q
handed areas (drive q) = (drive_speech areas).handed q
handed areas (net q) = (net_speech areas).handed q
handed areas (passed m) = true

-- THE SPEECH of a master with such a slave
abbrev pub hand_speech : Areas → Speech Body Asked Reply
hand_speech areas = record { emission = emission; valid = valid areas; planned = planned areas; ends = ends areas; handed = handed areas }

-- reads of files may end with an acknowledgement
abbrev pub acknowledged : Asked → Bool
acknowledged (file q) = FoeMeaning.is_file_read q
acknowledged _ = false

-- a mail that is passed on
abbrev pub is_passed : Asked → Bool
is_passed (sdo q) = false
is_passed (file q) = false
is_passed (drive q) = false
is_passed (net q) = false
is_passed (passed m) = true
