-- How a form ends.
use Rattle.std.specs.Prelude.{◌≡◌, ◌⊎◌, ℕ, List, Option, None}
use Rattle.ec_outside.specs.Files.{Table}
use Rattle.ecmbx_words.specs.declared.status.Status.TheVariants as statuses
use Rattle.ecmbx_words.specs.Files.{Holds, IsLong}
use Rattle.ecmbx_words.specs.Texts.{absent_line, long_line, fault_line}
use Rattle.people_words.specs.Ended.{Told}
use Rattle.people_words.specs.declared.ended.Ended.{Ended}

-- the planned end, or in its place a fault of the sink or want of memory
abbrev pub IsAmong : Ended → Ended → Type 0
IsAmong planned end = (end ≡ planned) ⊎ ((end ≡ Ended.As statuses.SinkFault) ⊎ (end ≡ Ended.As statuses.NoMemory))

-- what became of a form that is to end as a course says: its text was put, or a fault of the sink left a prefix of it, or memory ran out
abbrev pub Follows : (Ended → List ℕ → Type 0) → Option (List ℕ) → Option (List ℕ) → Ended → Type 0
Follows course old new end = (planned : Ended) × (text : List ℕ) × course planned text × Told planned text old new end

-- a file that couldn't be had, of so many octets at most, and the line that says so
pub data Unloaded (limit : ℕ) (name : List ℕ) (table : Option Table) : Ended → List ℕ → Type 0 where
  fault : Unloaded limit name table (Ended.As statuses.FileFault) fault_line
  absent : Holds table name None → Unloaded limit name table (Ended.As statuses.Absent) absent_line
  long : IsLong limit table name → Unloaded limit name table (Ended.As statuses.TooLong) long_line
