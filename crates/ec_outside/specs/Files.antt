use Rattle.std.specs.Prelude.{◌≡◌, ◌≢◌, ℕ, ◌+◌, ◌<◌, ◌≤◌, List, [], ◌∷◌, length, if◌then◌else◌, Option, Some, None, Result, Ok, Err}
use Rattle.std.specs.Str.{bytes_eq}
use Rattle.ec_outside.specs.declared.files.StoredFile.{StoredFile}
use Rattle.ec_outside.specs.declared.files.Loaded.{Loaded}
use Rattle.ec_outside.specs.declared.files.Loaded.TheVariants.{Found, Absent, TooLong}
use Rattle.ec_outside.specs.declared.files.FilesErr.{FilesErr}
use Rattle.ec_outside.specs.declared.files.FilesErr.TheVariants.{Failed, NoMemory}

-- files in no order that matters
abbrev pub Table : Type 0
Table = List StoredFile

-- the contents under a name
abbrev pub file_of : List ℕ → Table → Option (List ℕ)
file_of name [] = None
file_of name (file ∷ files) = if bytes_eq file.name name then Some file.octets else file_of name files

-- the place of a name, counted on from `at`
abbrev pub place_of : List ℕ → ℕ → Table → Option ℕ
place_of name at [] = None
place_of name at (file ∷ files) = if bytes_eq file.name name then Some at else place_of name (at + 1) files

-- what a load says of the file under its name
abbrev pub LoadsFile : Option (List ℕ) → ℕ → List ℕ → Loaded → Type 0
LoadsFile None limit into Absent = into ≡ []
LoadsFile None limit into _ = ⊥
LoadsFile (Some octets) limit into Found = (into ≡ octets) × (length octets ≤ limit)
LoadsFile (Some octets) limit into TooLong = (into ≡ []) × (limit < length octets)
LoadsFile (Some octets) limit into Absent = ⊥

-- what a load says where the files aren't told
abbrev pub LoadsSome : ℕ → List ℕ → Loaded → Type 0
LoadsSome limit into Found = length into ≤ limit
LoadsSome limit into Absent = into ≡ []
LoadsSome limit into TooLong = into ≡ []

-- what a load leaves; after an error nothing is said
abbrev pub Loads : Option Table → List ℕ → ℕ → List ℕ → Result Loaded FilesErr → Type 0
Loads None name limit into (Ok loaded) = LoadsSome limit into loaded
Loads (Some files) name limit into (Ok loaded) = LoadsFile (file_of name files) limit into loaded
Loads files name limit into (Err e) = Unit {0}

-- all files but the one of this name stay
abbrev pub OthersStay : List ℕ → Table → Table → Type 0
OthersStay name old new = (other : List ℕ) → other ≢ name → file_of other new ≡ file_of other old

-- the name has these contents, and all other files stay
pub record Stores (name octets : List ℕ) (old new : Table) : Type 0 where
  pub stored : file_of name new ≡ Some octets
  pub others : OthersStay name old new

-- what a save leaves of told files
abbrev pub SavesFile : Table → Table → List ℕ → List ℕ → Result (Unit {0}) FilesErr → Type 0
SavesFile old new name octets (Ok done) = Stores name octets old new
SavesFile old new name octets (Err Failed) = OthersStay name old new
SavesFile old new name octets (Err NoMemory) = new ≡ old

-- what a save leaves; files that are told stay told
abbrev pub Saves : Option Table → Option Table → List ℕ → List ℕ → Result (Unit {0}) FilesErr → Type 0
Saves None new name octets result = Unit {0}
Saves (Some old) None name octets result = ⊥
Saves (Some old) (Some new) name octets result = SavesFile old new name octets result
