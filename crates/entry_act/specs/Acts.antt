-- What the words ask to be done at a slave of the plan.
use Rattle.std.specs.Prelude.{ℕ, List, Option, Some, None, option_map, unwrap_or}
use Rattle.arrayvec.specs.ArrayVec.{ArrayVec}
use Rattle.file_store.specs.declared.file.FileSpec.{FileSpec}
use Rattle.object_dictionary.specs.declared.service.SdoService.{SdoService}
use Rattle.segment_plan.specs.Bound.{file_of}
use Rattle.segment_plan.specs.Sound.{IsName}
use Rattle.segment_plan.specs.declared.service.Service.{Service}
use Rattle.segment_plan.specs.declared.slave.SlaveSpec.{SlaveSpec}
use Rattle.gateway_tool.specs.Rule.{IsForm}
use Rattle.value_texts.specs.Names.{kind_at}
use Rattle.entry_words.specs.What.{what_in as meant_in}
use Rattle.entry_words.specs.Values.{value_in}
use Rattle.entry_words.specs.declared.what.What.{What}
use Rattle.entry_lines.specs.Usage.{get_usage_line}
use Rattle.entry_lines.specs.Values.{bad_what_line, bad_value_line}
use Rattle.entry_act.specs.declared.acts.Act.{Act}
use Rattle.entry_act.specs.declared.words.Task.{Task}
use Rattle.entry_act.specs.Words.{what_in, last_in}

-- the password of a file in a slave's plan, 0 where it has no such file
unfoldable pub pass_of : SlaveSpec → List ℕ → ℕ
pass_of slave name = unwrap_or (option_map (λ (f : FileSpec × List ℕ). f.0.pass) (file_of slave name)) 0

-- a value that an entry takes is written
abbrev pub written : ℕ → ℕ → Option ℕ → List ℕ → Option (List ℕ) → Act
written index sub kind word (Some octets) = Act.Whole (Service.Sdo (SdoService.Download index sub octets))
written index sub kind word None = Act.Nothing (bad_value_line index sub kind word)

-- the write of a value to an entry, by the entry's data type in the plan
unfoldable pub write_act : SlaveSpec → ℕ → ℕ → List ℕ → Act
write_act slave index sub word = written index sub (kind_at slave index sub) word (value_in (kind_at slave index sub) word)

-- what is done with an entry; no file takes its value
unfoldable pub entry_act : List (List ℕ) → Task → SlaveSpec → ℕ → ℕ → Act
entry_act words Task.Read slave index sub = Act.Whole (Service.Sdo (SdoService.Upload index sub))
entry_act words Task.Save slave index sub = Act.Nothing get_usage_line
entry_act words Task.Write slave index sub = write_act slave index sub (last_in words)

-- what is done with a file, by its password in the plan
unfoldable pub file_act : Task → SlaveSpec → ArrayVec ℕ → Act
file_act Task.Write slave name = Act.Write name (pass_of slave name.items)
file_act _ slave name = Act.Whole (Service.ReadFile name (pass_of slave name.items))

-- what is done with an entry or a file
abbrev pub what_act : List (List ℕ) → Task → SlaveSpec → Option What → Act
what_act words task slave (Some (What.Entry index sub)) = entry_act words task slave index sub
what_act words task slave (Some (What.File name)) = file_act task slave name
what_act words task slave None = Act.Nothing (bad_what_line (what_in words))

-- WHAT THE WORDS ASK TO BE DONE at a slave of the plan
unfoldable pub act_in : List (List ℕ) → Task → SlaveSpec → Act
act_in words task slave = what_act words task slave (meant_in (what_in words))

-- a service that a client of the gateway carries out, or a file's name
abbrev pub IsAct : Act → Type 0
IsAct (Act.Whole service) = IsForm service
IsAct (Act.Write name pass) = IsName name
IsAct (Act.Nothing line) = Unit {0}
