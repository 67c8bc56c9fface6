-- WHAT NO SERVICE CHANGES OF A SLAVE: the greatest sizes of its entries, how often its files are busy and how many blocks they share; and how many mails
-- a service takes at most by that.
use Rattle.std.specs.Prelude.{ℕ, ◌+◌, ◌-◌, ◌*◌, ◌==◌, List, map, length, slice_index, if◌then◌else◌, Option, Some, None, option_map, unwrap_or}
use Rattle.slave_parts.specs.of_eoe.Cutting.{blocks_of}
use Rattle.slave_parts.specs.of_object_dictionary.declared.entry.EntrySpec.{EntrySpec}
use Rattle.slave_parts.specs.of_object_dictionary.declared.object.Object.{Object}
use Rattle.slave_parts.specs.of_object_dictionary.Dictionary.{Table, object_of}
use Rattle.slave_parts.specs.of_file_store.Files.{busy_of}
use Rattle.slave_parts.specs.of_protocol_models.CoeMeaning as CoeMeaning
use Rattle.slave_parts.specs.of_protocol_models.Tables.{Ask, list, object, entry}
use Rattle.slave_parts.specs.of_protocol_models.CoeServer.{Emission, emergency, packet, emission_of}
use Rattle.slave_parts.specs.of_protocol_models.FoeMeaning as FoeMeaning
use Rattle.slave_parts.specs.of_protocol_models.SoeClient as SoeClient
use Rattle.slave_parts.specs.of_protocol_models.EoeClient as EoeClient
use Rattle.slave_parts.specs.of_protocol_models.Echo.{echo_of}
use Rattle.few_replies.specs.Counts.{mails_within, eoe_mails}
use Rattle.slave_parts.specs.of_slave_model.Profile.{Protocol, Profile, areas_of}
use Rattle.slave_parts.specs.of_slave_model.Server.{ServiceOf}
use Rattle.slave_parts.specs.Parts.{Core, Server}
use Rattle.slave_parts.specs.of_state_model.Families.{InState}

-- the greatest size at a subindex, of an object of this code and these sizes: the number of an array's or record's entries has one octet
abbrev pub size_at : ℕ → List ℕ → ℕ → ℕ
size_at code sizes sub = if code == 7 then slice_index sizes sub else if sub == 0 then 1 else slice_index sizes (sub - 1)

-- the greatest sizes of entries
abbrev pub mosts : List EntrySpec → List ℕ
mosts entries = map (λ (e : EntrySpec). e.most) entries

-- the greatest size at a subindex of an object
abbrev pub object_size : ℕ → Object → ℕ
object_size sub o = size_at o.code (mosts o.entries) sub

-- of an object that may be missing: 0 where it is
abbrev pub found_size : ℕ → Option Object → ℕ
found_size sub found = unwrap_or (option_map (object_size sub) found) 0

-- the greatest size of an entry of a dictionary
abbrev pub entry_size : Table → ℕ → ℕ → ℕ
entry_size table index sub = found_size sub (object_of table index)

-- THE SHAPE OF A SLAVE: the greatest size of the entry of each index and subindex, how often the file of each name is busy, and the blocks of all files
pub record Shape : Type 0 where
  pub entry : ℕ → ℕ → ℕ
  pub busy : List ℕ → ℕ
  pub blocks : ℕ

-- of what its services act on
abbrev pub shape_of : Core → Shape
shape_of c = record { entry = entry_size c.objects; busy = busy_of c.files; blocks = c.files.blocks }

-- of a server, in whatever AL state
abbrev pub shape_at : InState Server → Shape
shape_at v = shape_of v.inner.app.app

-- the octets that tell of objects: a list has 1,024 at most, a description 64
abbrev pub ask_octets : Ask → ℕ
ask_octets (list kind) = 1024
ask_octets (object index) = 64
ask_octets (entry index sub info) = 64

-- the octets that a service of CoE brings or takes, if that is served: an object as a whole has 16,000 and their number at most
abbrev pub sdo_octets : Profile → Shape → CoeMeaning.Service → ℕ
sdo_octets p k (CoeMeaning.download t bytes) = length bytes
sdo_octets p k (CoeMeaning.upload t) = if p.has_coe then (if t.all then 16002 else k.entry t.index t.sub) else 0
sdo_octets p k (CoeMeaning.information a) = ask_octets a

-- the mails of what a download emits: an emergency is one, a packet has a fragment for each 32 octets at most
abbrev pub emission_mails : Option Emission → ℕ
emission_mails None = 0
emission_mails (Some (emergency octets)) = 1
emission_mails (Some (packet octets)) = blocks_of (length octets)

-- only a download emits
abbrev pub sdo_emission : Profile → CoeMeaning.Service → Option Emission
sdo_emission p (CoeMeaning.download t bytes) = emission_of p.has_eoe t bytes
sdo_emission p (CoeMeaning.upload t) = None
sdo_emission p (CoeMeaning.information a) = None

-- the mails of a file access: a file that is read has no more octets than all blocks, one that is written answers by busy
abbrev pub file_most : Profile → Shape → FoeMeaning.Service → ℕ
file_most p k (FoeMeaning.read name pass) = mails_within (areas_of p) (128 * k.blocks)
file_most p k (FoeMeaning.write name pass bytes) = mails_within (areas_of p) (length bytes) + 2 * k.busy name

-- the octets of an element
abbrev pub element_octets : SoeClient.Service → ℕ
element_octets (SoeClient.read t) = 4096
element_octets (SoeClient.write t bytes) = length bytes

-- the fragments of a packet that goes back
abbrev pub echo_mails : Option (List ℕ) → ℕ
echo_mails None = 0
echo_mails (Some octets) = blocks_of (length octets)

-- what a packet makes the slave send
abbrev pub net_echo : Profile → EoeClient.Service → Option (List ℕ)
net_echo p (EoeClient.packet octets frame) = echo_of p.mac octets
net_echo p (EoeClient.set_ip block) = None
net_echo p EoeClient.get_ip = None

-- HOW MANY MAILS A SERVICE TAKES AT MOST, by the shape of its slave
abbrev pub shape_most : Profile → Shape → (i : Protocol) → ServiceOf i → ℕ
shape_most p k Protocol.CoE q = mails_within (areas_of p) (sdo_octets p k q) + emission_mails (sdo_emission p q)
shape_most p k Protocol.FoE q = file_most p k q
shape_most p k Protocol.SoE q = mails_within (areas_of p) (element_octets q)
shape_most p k Protocol.EoE q = eoe_mails q + echo_mails (net_echo p q)
