-- The parts of a slave as they are: its object dictionary, its store of files and its table of IDNs.
use Rattle.std.specs.Prelude.{[]}
use Rattle.coe_server.specs.of_object_dictionary.Dictionary as Objects
use Rattle.foe_server.specs.of_file_store.Files as Store
use Rattle.idn_table.specs.Idns as Idns
use Rattle.idn_table.specs.Idns.{idn_elements}
use Rattle.coe_server.specs.ObjectTables.{tables_with}
use Rattle.foe_server.specs.Stores.{store_files}
use Rattle.slave_model.specs.Application as Application
use Rattle.slave_model.specs.Server as Slave

-- the parts of an application over its dictionary, files and IDNs
abbrev pub Parts : Type 0
Parts = Application.Parts Objects.Table Store.Kept Idns.Table

-- what is in them
abbrev pub Core : Type 0
Core = Application.Core Objects.Table Store.Kept Idns.Table

-- the server over them
abbrev pub Server : Type 0
Server = Slave.Server Objects.Table Store.Kept Idns.Table

-- a packet that the dictionary emits is cut by its slave's sender
abbrev pub parts : Parts
parts = record { tables = λ al. tables_with (λ octets. []) al; files = store_files; elements = idn_elements }
