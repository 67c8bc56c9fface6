-- What a store's chains stand for.
use Rattle.std.specs.Prelude.{◌≡◌, ◌≢◌, ℕ, ◌+◌, ◌<◌, ◌≤◌, Bool, true, false, List, [], ◌∷◌, length, map, sum_by, find, slice_index_or, All, is_some, option_map, if◌then◌else◌, Option, Some, None}
use Rattle.std.specs.Str.{bytes_eq}
use Rattle.block_pool.specs.Region.{Region, IsLive, chain_of, blocks_for}
use Rattle.file_store.specs.Files.{Filed, Kept, taken}
use Rattle.file_store.specs.Stored.{Stored, Part}
use Rattle.file_store.specs.declared.file.File.{File}
use Rattle.file_store.specs.declared.file.Version.{Version}

-- a file with its octets, which lie in a chain
abbrev pub filed : Region → File → Filed
filed region file = record { spec = file.spec; octets = chain_of region file.chain }

-- a version that is begun, with its octets
abbrev pub parted : Region → Version → Part
parted region part = record { name = part.name.items; octets = chain_of region part.chain }

-- the blocks of the version that is begun
abbrev pub part_blocks : Region → Option Version → ℕ
part_blocks region None = 0
part_blocks region (Some part) = blocks_for (length (chain_of region part.chain))

-- the committed files, and the blocks that they may have with the version that is begun
abbrev pub kept_of : Region → List File → Option Version → Kept
kept_of region files part = record {
  files = map (filed region) files;
  blocks = region.free + part_blocks region part + taken (map (filed region) files);
}

-- the files and the version that is begun
abbrev pub stored_of : Region → List File → Option Version → Stored
stored_of region files part = record { kept = kept_of region files part; part = option_map (parted region) part }

-- one where this holds
abbrev pub one_if : Bool → ℕ
one_if b = if b then 1 else 0

-- how many chains are live
abbrev pub live_count : List (Option (List ℕ)) → ℕ
live_count chains = sum_by (λ chain. one_if (is_some chain)) chains

-- no two files have one chain
abbrev pub AreApart : List File → Type 0
AreApart [] = Unit {0}
AreApart (file ∷ files) = All (λ (other : File). other.chain ≢ file.chain) files × AreApart files

-- whether a file has this name
abbrev pub has_name : List ℕ → File → Bool
has_name name file = bytes_eq file.spec.name.items name

-- the place of the first file of this name
pub record IsPlaceOf (name : List ℕ) (files : List File) (place : ℕ) : Type 0 where
  pub within : place < length files
  pub named : (d : File) → has_name name (slice_index_or files place d) ≡ true
  pub first : (d : File) (k : ℕ) → k < place → has_name name (slice_index_or files k d) ≡ false
  pub found : (d : File) → find (has_name name) files ≡ Some (slice_index_or files place d)

-- the version's chain is live and no file's, and its file is there
pub record IsVersion (region : Region) (files : List File) (part : Version) : Type 0 where
  pub live : IsLive region part.chain
  pub other : All (λ (file : File). file.chain ≢ part.chain) files
  pub there : is_some (find (has_name part.name.items) files) ≡ true

-- the version that is begun, if one is, has a chain and a file
abbrev pub IsVersionAny : Region → List File → Option Version → Type 0
IsVersionAny region files None = Unit {0}
IsVersionAny region files (Some part) = IsVersion region files part

-- what holds of a store: each chain that is live is a file's or the version's, and there is one more place
pub record IsStore (region : Region) (files : List File) (part : Option Version) : Type 0 where
  pub places : length region.chains ≡ 33
  pub few : length files ≤ 32
  pub live : All (λ (file : File). IsLive region file.chain) files
  pub apart : AreApart files
  pub version : IsVersionAny region files part
  pub small : (kept_of region files part).blocks ≤ 1024
  pub busy : All (λ (file : File). file.spec.busy ≤ 15) files
  pub count : live_count region.chains ≡ length files + one_if (is_some part)
