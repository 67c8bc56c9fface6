-- A store: the files that all see, and a version of one file that nobody sees before it is committed.
use Rattle.std.specs.Prelude.{◌≡◌, ℕ, ◌-◌, true, List, [], length, is_some, option_map, unwrap_or, Option}
use Rattle.block_pool.specs.Region.{blocks_for}
use Rattle.file_store.specs.Files.{Kept, free_of}

-- a version that isn't committed
pub record Part : Type 0 where
  pub name : List ℕ
  pub octets : List ℕ

-- the committed files, and a version that is begun
pub record Stored : Type 0 where
  pub kept : Kept
  pub part : Option Part

-- a version is begun
abbrev pub HasPart : Stored → Type 0
HasPart store = is_some store.part ≡ true

-- the name of the version that is begun
abbrev pub part_name : Stored → List ℕ
part_name store = unwrap_or (option_map (λ part. part.name) store.part) []

-- its octets
abbrev pub part_octets : Stored → List ℕ
part_octets store = unwrap_or (option_map (λ part. part.octets) store.part) []

-- the blocks that neither a file nor the version has
abbrev pub free_now : Stored → ℕ
free_now store = free_of store.kept - blocks_for (length (part_octets store))
