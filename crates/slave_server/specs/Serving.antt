-- What a slave's server stands for: the server of the exchange, and the mails that wait to be offered.
use Rattle.std.specs.Prelude.{◌≡◌, ◌≤◌, ℕ, suc, Bool, true, List, [], ◌∷◌, ◌++◌, map, Option, Some, None, Ok, Err}
use Rattle.slave_node.specs.of_mailbox_mail.Mail.{error_of}
use Rattle.slave_node.specs.of_mailbox_mail.declared.mail.Mail.{Mail}
use Rattle.slave_node.specs.of_link_mails.Body.{Body}
use Rattle.segment_plan.specs.of_object_dictionary.Dictionary as Objects
use Rattle.segment_plan.specs.of_file_store.Stored.{Stored}
use Rattle.soe_server.specs.of_idn_table.Idns as Idns
use Rattle.soe_server.specs.of_protocol_models.CoeOctets as CoeOctets
use Rattle.soe_server.specs.of_protocol_models.FoeOctets as FoeOctets
use Rattle.soe_server.specs.of_protocol_models.SoeOctets as SoeOctets
use Rattle.soe_server.specs.of_protocol_models.EoeOctets as EoeOctets
use Rattle.slave_parts.specs.of_coe_server.Serving as Coe
use Rattle.slave_parts.specs.of_foe_server.Serving as Foe
use Rattle.soe_server.specs.Serving as Soe
use Rattle.slave_parts.specs.of_eoe_server.Serving as Eoe
use Rattle.slave_parts.specs.of_eoe_server.declared.Addresses.{Addresses}
use Rattle.slave_parts.specs.of_slave_model.Profile.{Profile}
use Rattle.slave_parts.specs.of_slave_model.Server.{soe_quiet, eoe_quiet, eoe_counts}
use Rattle.slave_parts.specs.of_slave_model.Product.{serve}
use Rattle.segment_plan.specs.of_eoe.Message.{eoe_read}
use Rattle.slave_parts.specs.Parts.{Core, Server, parts}
use Rattle.soe_server.specs.of_protocol_models.CoeServer as CoeModel
use Rattle.soe_server.specs.of_protocol_models.FoeServer as FoeModel

-- a slave's server as its mailboxes see it
pub record Serving : Type 0 where
  pub profile : Profile
  pub server : Server
  pub waiting : List Mail

-- what it is made of
pub record Inside : Type 0 where
  pub out : ℕ
  pub back : ℕ
  pub has_coe : Bool
  pub has_foe : Bool
  pub has_soe : Bool
  pub has_eoe : Bool
  pub objects : Objects.Table
  pub store : Stored
  pub idns : Idns.Table
  pub addresses : Addresses
  pub sdo : Coe.Serving
  pub file : Foe.Serving
  pub drive : Soe.Serving
  pub ether : Eoe.Serving
  pub failure : Option ℕ
  pub handled : ℕ

-- its servers are those of one slave
pub record IsInside (s : Inside) : Type 0 where
  pub least : 64 ≤ s.back
  pub sdo_eoe : s.sdo.eoe ≡ s.has_eoe
  pub sdo_room : s.sdo.room ≡ s.back
  pub file_out : s.file.out ≡ s.out
  pub file_back : s.file.back ≡ s.back
  pub drive_room : s.drive.room ≡ s.back
  pub ether_room : s.ether.room ≡ s.back
  pub serves : Foe.Serves s.file s.store
  pub roomy : Eoe.is_roomy s.back s.addresses ≡ true

-- the profile of a running server
abbrev pub profile_of : Inside → Profile
profile_of s = record {
  out = s.out;
  back = s.back;
  has_coe = s.has_coe;
  has_foe = s.has_foe;
  has_soe = s.has_soe;
  has_eoe = s.has_eoe;
  fixed_ip = s.addresses.fixed;
  mac = s.addresses.mac.items;
}

-- the exchange's server that it is
abbrev pub server_in : Inside → Server
server_in s = record {
  app = record { app = record { objects = s.objects; files = s.store.kept; idns = s.idns; block = s.addresses.block.items }; frame = s.ether.frame };
  handled = s.handled;
  sdo = Coe.transfer_of s.sdo;
  file = Foe.transfer_of s.file s.store;
  join = Soe.join_of s.drive;
  packet = s.ether.unfinished;
}

-- a mailbox error that waits
abbrev pub failures : Option ℕ → List Mail
failures None = []
failures (Some detail) = error_of detail ∷ []

-- the mails of CoE that wait
abbrev pub coe_mails : Inside → List Mail
coe_mails s = map CoeOctets.coe_mail_written (Coe.waiting_mails s.sdo)

-- the mails of FoE that wait
abbrev pub foe_mails : Inside → List Mail
foe_mails s = map FoeOctets.foe_mail_written (Foe.waiting_mails s.file s.store)

-- the mails of SoE that wait
abbrev pub soe_mails : Inside → List Mail
soe_mails s = map SoeOctets.soe_mail_written (Soe.waiting_mails s.drive)

-- the mails of EoE that wait
abbrev pub eoe_mails : Inside → List Mail
eoe_mails s = map EoeOctets.eoe_mail_written (Eoe.waiting_mails s.ether s.addresses.block.items)

-- replies first, then what the slave sends of itself
abbrev pub waiting_of : Inside → List Mail
waiting_of s = failures s.failure ++ (coe_mails s ++ (foe_mails s ++ (soe_mails s ++ eoe_mails s)))

-- the whole of a running server
abbrev pub view_of : Inside → Serving
view_of s = record { profile = profile_of s; server = server_in s; waiting = waiting_of s }

-- the mails that a server gives
abbrev pub written : List Body → List Mail
written [] = []
written (Ok m ∷ more) = m ∷ written more
written (Err fault ∷ more) = written more

-- A MAIL TAKEN: the exchange's own step
abbrev pub takes : Serving → Body → ℕ → Serving
takes s b al =
    let g = serve parts s.profile al s.server b in
    record s { server = g.0; waiting = s.waiting ++ written g.1 }

-- the first mail, if there is one
abbrev pub first_of : List Mail → Option Mail
first_of [] = None
first_of (m ∷ more) = Some m

-- the mails behind the first
abbrev pub behind_first : List Mail → List Mail
behind_first [] = []
behind_first (m ∷ more) = more

-- the mail that is offered next
abbrev pub next_mail : Serving → Option Mail
next_mail s = first_of s.waiting

-- what is left once it was offered
abbrev pub rest : Serving → Serving
rest s = record s { waiting = behind_first s.waiting }

-- one service more, and these mails
abbrev pub failed : Serving → ℕ → Serving
failed s detail = record s { server = record s.server { handled = suc s.server.handled }; waiting = error_of detail ∷ [] }

-- one service more
abbrev pub counted : Serving → Serving
counted s = record s { server = record s.server { handled = suc s.server.handled } }

-- a mail of SoE or EoE, where that isn't served: whether it gets no answer, and whether it counts
abbrev pub is_quiet_drive : List ℕ → Bool
is_quiet_drive body = soe_quiet (SoeOctets.body_heard body)

-- the same of a mail of EoE: no answer
abbrev pub is_quiet_ether : List ℕ → Bool
is_quiet_ether body = eoe_quiet (EoeOctets.heard body (eoe_read body))

-- and whether it counts
abbrev pub is_last_ether : List ℕ → Bool
is_last_ether body = eoe_counts (EoeOctets.heard body (eoe_read body))

-- a server without transfers over such an application
abbrev pub fresh : Core → Server
fresh core = record { app = record { app = core; frame = 0 }; handled = 0; sdo = CoeModel.idle; file = FoeModel.idle; join = None; packet = None }

-- the server at a return to Init
abbrev pub cleared : Serving → Serving
cleared s = record s { server = record (fresh s.server.app.app) { handled = s.server.handled }; waiting = [] }
