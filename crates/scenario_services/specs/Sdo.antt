-- What the keys of a service of CoE say, or their first refusal.
use Rattle.std.specs.Prelude.{ℕ, List, codes, Result, Ok}
use Rattle.toml.specs.Data.{Members}
use Rattle.scenario_values.specs.of_object_dictionary.declared.service.SdoService.{SdoService}
use Rattle.scenario_values.specs.of_object_dictionary.declared.service.SdoService.TheVariants.{Download, Upload, DownloadAll, UploadAll, List as ObjectList, ObjectInfo, EntryInfo}
use Rattle.scenario_values.specs.of_scenario_keys.declared.place.Place.{Place}
use Rattle.scenario_values.specs.of_scenario_keys.declared.refusal.Refusal.{Refusal}
use Rattle.scenario_values.specs.of_scenario_keys.Reading.{◌>>=◌}
use Rattle.scenario_values.specs.of_scenario_keys.Keys.{integer_at}
use Rattle.scenario_values.specs.Octets.{octets_at}
use Rattle.scenario_services.specs.declared.actions.SdoAction.{SdoAction}
use Rattle.scenario_services.specs.declared.actions.SdoAction.TheVariants as sdo

-- an index or a kind of list
abbrev pub word_at : List ℕ → Place → Members → Result ℕ Refusal
word_at key place ms = integer_at key 0 0xFFFF place ms

-- a subindex
abbrev pub sub_at : List ℕ → Place → Members → Result ℕ Refusal
sub_at key place ms = integer_at key 0 0xFF place ms

-- what the keys of a service of CoE say
unfoldable pub sdo_of : SdoAction → Place → Members → Result SdoService Refusal
sdo_of sdo.Download place ms = do
  index ← word_at (codes "index") place ms
  sub ← sub_at (codes "sub") place ms
  bytes ← octets_at (codes "value") 1 8000 place ms
  Ok (Download index sub bytes)
sdo_of sdo.Upload place ms = do
  index ← word_at (codes "index") place ms
  sub ← sub_at (codes "sub") place ms
  Ok (Upload index sub)
sdo_of sdo.DownloadAll place ms = do
  index ← word_at (codes "index") place ms
  from ← sub_at (codes "from") place ms
  bytes ← octets_at (codes "value") 1 16000 place ms
  Ok (DownloadAll index from bytes)
sdo_of sdo.UploadAll place ms = do
  index ← word_at (codes "index") place ms
  from ← sub_at (codes "from") place ms
  Ok (UploadAll index from)
sdo_of sdo.List place ms = word_at (codes "kind") place ms >>= λ kind. Ok (ObjectList kind)
sdo_of sdo.ObjectInfo place ms = word_at (codes "index") place ms >>= λ index. Ok (ObjectInfo index)
sdo_of sdo.EntryInfo place ms = do
  index ← word_at (codes "index") place ms
  sub ← sub_at (codes "sub") place ms
  Ok (EntryInfo index sub 0)
