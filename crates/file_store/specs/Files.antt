-- The files of a slave as whole values.
use Rattle.std.specs.Prelude.{◌==◌, ◌&&◌, ℕ, ◌-◌, nat_le, not, Bool, List, [], ◌∷◌, length, sum_by, find, if◌then◌else◌, Option, Some, None, option_map, unwrap_or}
use Rattle.std.specs.List.{list_all}
use Rattle.std.specs.Str.{bytes_eq}
use Rattle.block_pool.specs.Region.{blocks_for}
use Rattle.file_store.specs.declared.file.FileSpec.{FileSpec}

-- a file: what it is known by and who may use it, and its octets
pub record Filed : Type 0 where
  pub spec : FileSpec
  pub octets : List ℕ

-- the files of a slave, and the blocks that they share
pub record Kept : Type 0 where
  pub files : List Filed
  pub blocks : ℕ

-- whether a file has this name
abbrev pub is_named : List ℕ → Filed → Bool
is_named name file = bytes_eq file.spec.name.items name

-- the file of this name
abbrev pub file_of : Kept → List ℕ → Option Filed
file_of kept name = find (is_named name) kept.files

-- the blocks that these files have
abbrev pub taken : List Filed → ℕ
taken files = sum_by (λ file. blocks_for (length file.octets)) files

-- the blocks that no file has
abbrev pub free_of : Kept → ℕ
free_of kept = kept.blocks - taken kept.files

-- whether a file of so many octets can be written: its blocks don't exceed the free ones
abbrev pub has_room : Kept → ℕ → Bool
has_room kept octets = nat_le (blocks_for octets) (free_of kept)

-- files within the limits: no more blocks than 1,024, and none busy more than 15 times
abbrev pub is_valid : Kept → Bool
is_valid kept = nat_le kept.blocks 1024 && nat_le (taken kept.files) kept.blocks && list_all (λ file. nat_le file.spec.busy 15) kept.files

-- the FoE code by which a file refuses, at an AL state: 8008 a boot file outside Bootstrap, 8009 another one in Bootstrap, 8002 a wrong password or no such right
abbrev pub refused_by : FileSpec → ℕ → Bool → ℕ → Option ℕ
refused_by spec pass write al =
    if spec.boot && not (al == 3) then Some 0x8008
    else if not spec.boot && al == 3 then Some 0x8009
    else if not (pass == spec.pass) then Some 0x8002
    else if not (if write then spec.write else spec.read) then Some 0x8002
    else None

-- the FoE code of a file, where it is there: 8001 no such name
abbrev pub code_at : Option Filed → ℕ → Bool → ℕ → Option ℕ
code_at None pass write al = Some 0x8001
code_at (Some file) pass write al = refused_by file.spec pass write al

-- the code that refuses a request for the file of this name, at this AL state
abbrev pub allowed : Kept → List ℕ → ℕ → Bool → ℕ → Option ℕ
allowed kept name pass write al = code_at (file_of kept name) pass write al

-- the octets of the file of this name
abbrev pub get : Kept → List ℕ → List ℕ
get kept name = unwrap_or (option_map (λ file. file.octets) (file_of kept name)) []

-- how often the file of this name answers by busy
abbrev pub busy_of : Kept → List ℕ → ℕ
busy_of kept name = unwrap_or (option_map (λ file. file.spec.busy) (file_of kept name)) 0

-- the first file of this name with other octets
abbrev pub rewritten : List Filed → List ℕ → List ℕ → List Filed
rewritten [] name octets = []
rewritten (file ∷ files) name octets = if is_named name file then record file { octets = octets } ∷ files else file ∷ rewritten files name octets

-- the files with a new version of one
abbrev pub put : Kept → List ℕ → List ℕ → Kept
put kept name octets = record kept { files = rewritten kept.files name octets }
