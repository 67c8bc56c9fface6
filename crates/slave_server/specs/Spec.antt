-- A slave of a plan as it is switched on.
use Rattle.std.specs.Prelude.{ℕ, List, [], ◌∷◌, ◌++◌, replicate, is_some, if◌then◌else◌}
use Rattle.segment_plan.specs.of_object_dictionary.Dictionary as Objects
use Rattle.segment_plan.specs.of_object_dictionary.Sound.{placed, own_table}
use Rattle.segment_plan.specs.of_file_store.Files.{Kept, file_of}
use Rattle.segment_plan.specs.of_file_store.declared.file.FileSpec.{FileSpec}
use Rattle.soe_server.specs.of_idn_table.Idns as Idns
use Rattle.slave_parts.specs.of_eoe_server.declared.Addresses.{Addresses}
use Rattle.segment_plan.specs.declared.slave.ObjectSpec.{ObjectSpec}
use Rattle.soe_server.specs.of_idn_table.declared.spec.IdnSpec.{IdnSpec}
use Rattle.segment_plan.specs.declared.slave.SlaveSpec.{SlaveSpec}
use Rattle.segment_plan.specs.Sound.{kept}
use Rattle.slave_parts.specs.of_slave_model.Profile.{Profile}
use Rattle.slave_parts.specs.Parts.{Core}
use Rattle.slave_node.specs.Node.{Node, new_node}
use Rattle.slave_server.specs.Serving.{Serving, fresh}

-- a dictionary with more objects, each at its place among the indexes
abbrev pub with_objects : List ObjectSpec → Objects.Table → Objects.Table
with_objects [] table = table
with_objects (o ∷ os) table = with_objects os (placed o.index (kept o) table)

-- the objects of a slave: the profile's own and the plan's
abbrev pub objects_of : SlaveSpec → Objects.Table
objects_of s = with_objects s.objects (own_table s.eoe)

-- one file more, where none has its name
abbrev pub with_file : FileSpec × List ℕ → Kept → Kept
with_file f files = if is_some (file_of files f.0.name.items) then files else record files { files = files.files ++ record { spec = f.0; octets = f.1 } ∷ [] }

-- more files
abbrev pub with_files : List (FileSpec × List ℕ) → Kept → Kept
with_files [] files = files
with_files (f ∷ fs) files = with_files fs (with_file f files)

-- the files of a slave, in the blocks that they share
abbrev pub files_of : SlaveSpec → Kept
files_of s = with_files s.files (record { files = []; blocks = s.blocks })

-- one IDN more at its place among drives and numbers, where none has its own
abbrev pub with_idn : IdnSpec → Idns.Table → Idns.Table
with_idn i idns = if is_some (Idns.idn_at idns (Idns.target i.drive i.number 0)) then idns else Idns.placed (i.drive, i.number) (Idns.idn_of i) idns

-- more IDNs
abbrev pub with_idns : List IdnSpec → Idns.Table → Idns.Table
with_idns [] idns = idns
with_idns (i ∷ is) idns = with_idns is (with_idn i idns)

-- the IDNs of a slave
abbrev pub idns_of : SlaveSpec → Idns.Table
idns_of s = with_idns s.idns []

-- the addresses of a slave: a block of four zero octets
abbrev pub addresses_of : SlaveSpec → Addresses
addresses_of s = record { block = record { items = replicate 4 0 }; mac = record { items = s.mac }; fixed = s.fixed_ip }

-- what the services of a slave act on
abbrev pub core_of : SlaveSpec → Core
core_of s = record { objects = objects_of s; files = files_of s; idns = idns_of s; block = replicate 4 0 }

-- a slave, but for that
abbrev pub profile_of : SlaveSpec → Profile
profile_of s = record { out = s.out_len; back = s.in_len; has_coe = s.«coe»; has_foe = s.foe; has_soe = s.soe; has_eoe = s.eoe; fixed_ip = s.fixed_ip; mac = s.mac }

-- THE SERVICES OF A SLAVE before any mail
abbrev pub server_of : SlaveSpec → Serving
server_of s = record { profile = profile_of s; server = fresh (core_of s); waiting = [] }

-- A SLAVE AS IT IS SWITCHED ON
abbrev pub node_of : SlaveSpec → Node Serving
node_of s = new_node s.out_len s.in_len s.boot (server_of s)
