-- What a call finds under a name.
use Rattle.std.specs.Prelude.{◌≡◌, ◌⊎◌, ℕ, ◌<◌, ◌≤◌, List, length, Option, Some, None}
use Rattle.ec_outside.specs.Files.{Table, file_of}
use Rattle.ecmbx_words.specs.declared.status.Status.{Status}
use Rattle.ecmbx_words.specs.declared.status.Status.TheVariants as statuses
use Rattle.ecmbx_words.specs.Ends.{Ended}
use Rattle.ecmbx_words.specs.Texts.{absent_line, long_line, fault_line}

-- what stands under a name, where the files are told
abbrev pub Holds : Option Table → List ℕ → Option (List ℕ) → Type 0
Holds None name file = Unit {0}
Holds (Some files) name file = file_of name files ≡ file

-- the file under a name has more octets than the limit, where the files are told
abbrev pub IsLong : ℕ → Option Table → List ℕ → Type 0
IsLong limit None name = Unit {0}
IsLong limit (Some files) name = (octets : List ℕ) × (file_of name files ≡ Some octets) × (limit < length octets)

-- what became of a call that is to end as a course says, unless memory ran out
abbrev pub Followed : (Status → List ℕ → Type 0) → Option (List ℕ) → Option (List ℕ) → Status → Type 0
Followed course old new status = (status ≡ statuses.NoMemory) ⊎ ((planned : Status) × (text : List ℕ) × course planned text × Ended planned text old new status)

-- how a call with the name of a file is to end, and the text to be put, by what is to come of the file's octets, at most so many; `new` is
-- what stands where they weren't had
pub data FileCourse (limit : ℕ) (name : List ℕ) (table : Option Table) (faulted new : Type 0) (course : List ℕ → Status → List ℕ → Type 0) : Status → List ℕ → Type 0 where
  fault : faulted → new → FileCourse limit name table faulted new course statuses.FileFault fault_line
  absent : Holds table name None → new → FileCourse limit name table faulted new course statuses.Absent absent_line
  long : IsLong limit table name → new → FileCourse limit name table faulted new course statuses.TooLong long_line
  found : (octets : List ℕ) (planned : Status) (text : List ℕ) → Holds table name (Some octets) → length octets ≤ limit → course octets planned text → FileCourse limit name table faulted new course planned text

-- a file that was loaded
pub record IsLoaded (limit : ℕ) (name : List ℕ) (table : Option Table) (octets : List ℕ) : Type 0 where
  pub holds : Holds table name (Some octets)
  pub fits : length octets ≤ limit

-- a file that couldn't be had: its line is put, unless memory ran out
abbrev pub IsUnloaded : ℕ → List ℕ → Option Table → Type 0 → Option (List ℕ) → Option (List ℕ) → Status → Type 0
IsUnloaded limit name table faulted old new status = Followed (FileCourse limit name table faulted (Unit {0}) (λ octets planned text. ⊥)) old new status
