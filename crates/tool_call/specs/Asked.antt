-- What the words `ask STATION OUT IN DO ARGS` ask for.
use Rattle.std.specs.Prelude.{◌≤◌, ℕ, ◌&&◌, nat_le, Bool, false, List, [], ◌∷◌, codes, length, Option, Some, None, if◌then◌else◌}
use Rattle.std.specs.Result.{result_ok}
use Rattle.std.specs.Str.{bytes_eq}
use Rattle.hex.specs.Hex.{decode_of}
use Rattle.gateway_tool.specs.of_object_dictionary.declared.service.SdoService.{SdoService}
use Rattle.gateway_tool.specs.of_segment_plan.declared.service.Service.{Service}
use Rattle.gateway_tool.specs.of_segment_plan.Sound.{IsName}
use Rattle.ecmbx_words.specs.of_scenario_keys.Keys.{is_name}
use Rattle.gateway_tool.specs.Rule.{IsForm}
use Rattle.ecmbx_words.specs.Form.{number_in}
use Rattle.tool_call.specs.declared.asked.Act.{Act}
use Rattle.tool_call.specs.declared.asked.Slave.{Slave}
use Rattle.tool_call.specs.declared.asked.Asked.{Asked}

-- the first word is `ask`
abbrev pub is_ask : List (List ℕ) → Bool
is_ask (word ∷ words) = bytes_eq word (codes "ask")
is_ask [] = false

-- a number from `least` to `most`
abbrev pub ranged_in : ℕ → ℕ → Option ℕ → Option ℕ
ranged_in least most (Some n) = if nat_le least n && nat_le n most then Some n else None
ranged_in least most None = None

-- 1 to 8,000 of these octets
abbrev pub fitting : Option (List ℕ) → Option (List ℕ)
fitting (Some octets) = if nat_le 1 (length octets) && nat_le (length octets) 8000 then Some octets else None
fitting None = None

-- the octets that pairs of hexadecimal digits write
abbrev pub octets_in : List ℕ → Option (List ℕ)
octets_in word = fitting (result_ok (decode_of word))

-- `upload INDEX SUB`
abbrev pub upload_of : Option ℕ → Option ℕ → Option Act
upload_of (Some index) (Some sub) = Some (Act.Whole (Service.Sdo (SdoService.Upload index sub)))
upload_of _ _ = None

-- `download INDEX SUB OCTETS`
abbrev pub download_of : Option ℕ → Option ℕ → Option (List ℕ) → Option Act
download_of (Some index) (Some sub) (Some octets) = Some (Act.Whole (Service.Sdo (SdoService.Download index sub octets)))
download_of _ _ _ = None

-- `read_file NAME`, by the password 0
abbrev pub read_in : List ℕ → Option Act
read_in name = if is_name name then Some (Act.Whole (Service.ReadFile (record { items = name }) 0)) else None

-- `write_file NAME`
abbrev pub write_in : List ℕ → Option Act
write_in name = if is_name name then Some (Act.Write (record { items = name })) else None

-- an index, and a subindex
abbrev pub index_in : List ℕ → Option ℕ
index_in word = ranged_in 0 65535 (number_in word)

-- a subindex
abbrev pub sub_in : List ℕ → Option ℕ
sub_in word = ranged_in 0 255 (number_in word)

-- what is to be done, with one argument, with two and with three
abbrev pub one_in : List ℕ → List ℕ → Option Act
one_in act name = if bytes_eq act (codes "read_file") then read_in name else None

-- with two arguments
abbrev pub two_in : List ℕ → List ℕ → List ℕ → Option Act
two_in act first second =
    if bytes_eq act (codes "upload") then upload_of (index_in first) (sub_in second)
    else (if bytes_eq act (codes "write_file") then write_in first else None)

-- with three
abbrev pub three_in : List ℕ → List ℕ → List ℕ → List ℕ → Option Act
three_in act first second third = if bytes_eq act (codes "download") then download_of (index_in first) (sub_in second) (octets_in third) else None

-- what is to be done, with its arguments
abbrev pub act_in : List (List ℕ) → Option Act
act_in (act ∷ name ∷ []) = one_in act name
act_in (act ∷ first ∷ second ∷ []) = two_in act first second
act_in (act ∷ first ∷ second ∷ third ∷ []) = three_in act first second third
act_in _ = None

-- a station, the lengths of its mailboxes, and what is to be done there
abbrev pub asked_at : Option ℕ → Option ℕ → Option ℕ → Option Act → Option Asked
asked_at (Some station) (Some out) (Some back) (Some act) = Some (record { slave = record { station = station; out_len = out; in_len = back }; act = act })
asked_at _ _ _ _ = None

-- a station is 1 to 65,535, a mailbox 64 to 1,486 octets long
abbrev pub asked_with : List ℕ → List ℕ → List ℕ → List ℕ → Option Act → Option Asked
asked_with word station out back act =
    if bytes_eq word (codes "ask") then asked_at (ranged_in 1 65535 (number_in station)) (ranged_in 64 1486 (number_in out)) (ranged_in 64 1486 (number_in back)) act else None

-- WHAT THE WORDS ASK FOR
abbrev pub asked_in : List (List ℕ) → Option Asked
asked_in (word ∷ station ∷ out ∷ back ∷ act) = asked_with word station out back (act_in act)
asked_in _ = None

-- the file that `write_file NAME FILE` loads
abbrev pub file_in : List (List ℕ) → List ℕ
file_in (_ ∷ _ ∷ _ ∷ _ ∷ _ ∷ _ ∷ file ∷ []) = file
file_in _ = []

-- what is to be done can be, or needs a file's octets besides
abbrev pub IsAct : Act → Type 0
IsAct (Act.Whole service) = IsForm service
IsAct (Act.Write name) = IsName name

-- mailboxes of lengths that may be
pub record IsSlave (s : Slave) : Type 0 where
  pub out_least : 64 ≤ s.out_len
  pub out_most : s.out_len ≤ 1486
  pub in_least : 64 ≤ s.in_len
  pub in_most : s.in_len ≤ 1486

-- a slave with such mailboxes, and what can be done
pub record IsAsked (a : Asked) : Type 0 where
  pub slave : IsSlave a.slave
  pub act : IsAct a.act
