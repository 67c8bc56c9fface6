-- What a call finds under a name, and what it leaves of the files.
use Rattle.std.specs.Prelude.{◌≡◌, ◌≢◌, ℕ, List, Option, Some, None, Ok}
use Rattle.gateway_stream.specs.of_ec_outside.Files.{Table, OthersStay, Saves}
use Rattle.tool_call.specs.of_ecmbx_words.declared.status.Status.{Status}
use Rattle.tool_call.specs.of_ecmbx_words.declared.status.Status.TheVariants as statuses
use Rattle.run_report.specs.of_run_book.declared.book.Book.{Book}
use Rattle.run_report.specs.of_run_book.declared.book.Ending.TheVariants as endings
use Rattle.run_report.specs.Saved.{capture_of}

-- the most octets that a file may have
abbrev pub limit : ℕ
limit = 16_777_216

-- a save that was done: the name has these octets and all other files stay, where the files are told
abbrev pub IsSaved : Option Table → Option Table → List ℕ → List ℕ → Type 0
IsSaved before table name octets = Saves before table name octets (Ok tt)

-- all files are as they were, where they are told
abbrev pub AreKept : Option Table → Option Table → Type 0
AreKept None saved = Unit {0}
AreKept (Some files) saved = saved ≡ Some files

-- all files but the one of this name are as they were, where they are told
abbrev pub OthersKept : List ℕ → Option Table → Option Table → Type 0
OthersKept name None saved = Unit {0}
OthersKept name (Some files) None = ⊥
OthersKept name (Some files) (Some others) = OthersStay name files others

-- WHAT A CALL LEAVES OF THE FILES, which saves under this name if at all: all as they were; or, where a run ended, the capture of its frames under that name, and all
-- others as they were; or, where a fault of the files ended the call behind a run, the others as they were
pub data LeavesFiles (name : List ℕ) (before saved : Option Table) (faulted : Type 0) (book : Book) (status : Status) : Type 0 where
  kept : AreKept before saved → LeavesFiles name before saved faulted book status
  stored : book.ending ≢ endings.Unfinished → IsSaved before saved name (capture_of book.frames) → LeavesFiles name before saved faulted book status
  torn : book.ending ≢ endings.Unfinished → faulted → status ≡ statuses.FileFault → OthersKept name before saved → LeavesFiles name before saved faulted book status
