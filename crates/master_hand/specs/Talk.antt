-- What the clients of a slave have to say and to hear, by the one whose service is the newest.
use Rattle.std.specs.Prelude.{◌≡◌, ℕ, Bool, true, false, is_some, List, [], ◌∷◌, map, Option, Some, None, Ok, if◌then◌else◌, length, ◌+◌, ◌≤◌, nat_lt}
use Rattle.eoe_client.specs.of_mailbox_mail.declared.outcome.Took.{Took}
use Rattle.master_hand.specs.declared.passed.Content.{Content}
use Rattle.foe_client.specs.of_exchange_model.Areas.{Areas}
use Rattle.master_side.specs.of_link_mails.Body.{Body}
use Rattle.eoe_client.specs.of_protocol_models.FoeMeaning as FoeMeaning
use Rattle.eoe_client.specs.of_protocol_models.SoeClient as SoeClient
use Rattle.eoe_client.specs.of_protocol_models.Elements.{target}
use Rattle.eoe_client.specs.of_protocol_models.EoeClient as EoeClient
use Rattle.coe_client.specs.Talk as CoeTalk
use Rattle.foe_client.specs.Talk as FoeTalk
use Rattle.soe_client.specs.Talk as SoeTalk
use Rattle.eoe_client.specs.Talk as EoeTalk
use Rattle.coe_client.specs.of_object_dictionary.declared.service.SdoService.{SdoService}
use Rattle.segment_plan.specs.declared.service.Service.{Service}
use Rattle.master_side.specs.of_master_duty.Reply.{Reply}
use Rattle.master_hand.specs.Spoken.{Asked, sdo, file, drive, net, passed, heard_sdo, told_sdo, heard_file, told_file, heard_drive, told_drive, heard_net, told_net, replied, valid, planned, ends}
use Rattle.master_hand.specs.Passed.{mail_of, passed_left, passed_awaits}
use Rattle.master_hand.specs.declared.clients.Which.{Which}
use Rattle.master_hand.specs.declared.passed.PassedMail.{PassedMail}

-- the clients of a slave, whose mailboxes have these lengths
pub record Talking : Type 0 where
  pub areas : Areas
  pub sdo : CoeTalk.Talking
  pub file : FoeTalk.Talking
  pub drive : SoeTalk.Talking
  pub address : EoeTalk.Talking
  pub packets : EoeTalk.Sending
  pub passed : PassedMail

-- whose service it is
abbrev pub which_of : Asked → Which
which_of (sdo q) = Which.Coe
which_of (file (FoeMeaning.read name pass)) = Which.ReadFile
which_of (file (FoeMeaning.write name pass bytes)) = Which.WriteFile
which_of (drive q) = Which.Soe
which_of (net (EoeClient.set_ip block)) = Which.Address
which_of (net EoeClient.get_ip) = Which.Address
which_of (net (EoeClient.packet octets frame)) = Which.Packet
which_of (passed m) = Which.Passed

-- what is asked is of this kind
abbrev pub IsOf : Which → Asked → Type 0
IsOf which q = which_of q ≡ which

-- packets end with their last write, and so do mails that are passed on and have no reply
abbrev pub is_handed : Which → Bool
is_handed Which.Packet = true
is_handed Which.Passed = true
is_handed _ = false

-- a mail that is passed on
abbrev pub is_mail : Which → Bool
is_mail Which.Passed = true
is_mail _ = false

-- a read of a file, which may end with an acknowledgement
abbrev pub is_read : Which → Bool
is_read Which.ReadFile = true
is_read _ = false

-- the mails that the client has left, by what it will hear
abbrev pub client_later : Which → Talking → List Body → List Body
client_later Which.Coe c hs = map told_sdo (CoeTalk.later c.sdo (map heard_sdo hs))
client_later Which.ReadFile c hs = map told_file (FoeTalk.later c.file (map heard_file hs))
client_later Which.WriteFile c hs = map told_file (FoeTalk.later c.file (map heard_file hs))
client_later Which.Soe c hs = map told_drive (SoeTalk.left c.drive)
client_later Which.Address c hs = map told_net (EoeTalk.left c.address)
client_later Which.Packet c hs = map told_net (EoeTalk.fragments_left c.packets.cutting)
client_later Which.Passed c hs = passed_left c.passed

-- the reply that further mails complete
abbrev pub client_awaits : Which → Talking → List Body → Option Reply
client_awaits Which.Coe c hs = replied (CoeTalk.awaited c.sdo (map heard_sdo hs))
client_awaits Which.ReadFile c hs = replied (FoeTalk.awaited c.file (map heard_file hs))
client_awaits Which.WriteFile c hs = replied (FoeTalk.awaited c.file (map heard_file hs))
client_awaits Which.Soe c hs = replied (SoeTalk.awaited c.drive (map heard_drive hs))
client_awaits Which.Address c hs = replied (EoeTalk.awaited c.address (map heard_net hs))
client_awaits Which.Packet c hs = None
client_awaits Which.Passed c hs = passed_awaits c.passed hs

-- the value of a reply
abbrev pub value_of : Which → Talking → List ℕ
value_of Which.Coe c = c.sdo.value
value_of Which.ReadFile c = c.file.value
value_of Which.WriteFile c = c.file.value
value_of Which.Soe c = c.drive.value
value_of Which.Address c = c.address.value
value_of Which.Packet c = []
value_of Which.Passed c = []

-- what a client sends is the first of the mails that it has left, and fits the mailbox; its reply stays
pub record SendsNext (which : Which) (old : Talking) (held : Content) (new : Talking) : Type 0 where
  pub mails : (hs : List Body) → client_later which old hs ≡ Ok (mail_of held) ∷ client_later which new hs
  pub replies : (hs : List Body) → client_awaits which new hs ≡ client_awaits which old hs
  pub fits : 6 + length held.body.items ≤ old.areas.out
  pub areas : new.areas ≡ old.areas

-- the next mail, or none and nothing changed
abbrev pub IsSent : Bool → Which → Talking → Content → Talking → Type 0
IsSent true which old held new = SendsNext which old held new
IsSent false which old held new = new ≡ old

-- the client goes on behind a mail as it would have with that mail ahead of the others; of the mails that it sends so where none was left
pub record Follows (which : Which) (old : Talking) (b : Body) (new : Talking) : Type 0 where
  pub mails : client_later which old [] ≡ [] → (hs : List Body) → client_later which new hs ≡ client_later which old (b ∷ hs)
  pub replies : (hs : List Body) → client_awaits which new hs ≡ client_awaits which old (b ∷ hs)

-- WHAT A MAIL IS TO THE CLIENT: more is awaited, it completes the reply, or it is none that may come, and no reply follows it
abbrev pub ClientTook : Took → Which → Talking → Body → Talking → Type 0
ClientTook Took.More which old b new = Follows which old b new × (client_awaits which new [] ≡ None)
ClientTook Took.Done which old b new = Follows which old b new × (is_some (client_awaits which new []) ≡ true)
ClientTook Took.Foreign which old b new = ((hs : List Body) → client_awaits which old (b ∷ hs) ≡ None) × (new ≡ old)

-- an address block is set where the mailbox has room for it
abbrev pub asked_set : ℕ → List ℕ → Option Asked
asked_set room block = if nat_lt room (length block + 10) then None else Some (net (EoeClient.set_ip block))

-- a service of a script as its protocol has it: no change of state, no packet, and no address block that the mailbox has no room for
abbrev pub asked_of : ℕ → Service → Option Asked
asked_of room (Service.Sdo service) = Some (sdo (CoeTalk.service_view service))
asked_of room (Service.ReadFile name pass) = Some (file (FoeMeaning.read name.items pass))
asked_of room (Service.WriteFile name pass bytes) = Some (file (FoeMeaning.write name.items pass bytes))
asked_of room (Service.ReadIdn number idn elements) = Some (drive (SoeClient.read (target number idn elements)))
asked_of room (Service.WriteIdn number idn elements bytes) = Some (drive (SoeClient.write (target number idn elements) bytes))
asked_of room (Service.SetIp block) = asked_set room block
asked_of room Service.GetIp = Some (net EoeClient.get_ip)
asked_of room (Service.State state) = None
asked_of room (Service.Forward packet) = None

-- the octets that a service of CoE carries
abbrev pub octets_of : SdoService → List ℕ
octets_of (SdoService.Download index sub bytes) = bytes
octets_of (SdoService.DownloadAll index from bytes) = bytes
octets_of _ = []

-- a service of which the laws speak, or none
abbrev pub is_askable : Areas → Option Asked → Bool
is_askable areas None = true
is_askable areas (Some q) = valid areas q

-- a client has begun a service
pub record Starts (areas : Areas) (q : Asked) (which : Which) (new : Talking) : Type 0 where
  pub kind : IsOf which q
  pub mails : (hs : List Body) → client_later which new hs ≡ planned areas q hs
  pub replies : (hs : List Body) → client_awaits which new hs ≡ ends areas q hs

-- what was asked has begun, or nothing was asked
abbrev pub Begins : Option Which → Option Asked → Talking → Talking → Type 0
Begins None asked old new = (asked ≡ None) × (new ≡ old)
Begins (Some which) asked old new = (q : Asked) × (asked ≡ Some q) × Starts old.areas q which new
