-- What a call leaves of the files.
use Rattle.std.proofs.Common.{◌≡◌, ◌≢◌, ap, List, ℕ, Option, Some, None, Err, inl, inr}
use Rattle.gateway_stream.specs.of_ec_outside.Files.{Table, Saves}
use Rattle.gateway_stream.specs.of_ec_outside.declared.files.FilesErr.TheVariants.{Failed, NoMemory}
use Rattle.run_report.specs.of_run_book.declared.book.Book.{Book}
use Rattle.run_report.specs.of_run_book.declared.book.Ending.TheVariants as endings
use Rattle.tool_call.specs.of_ecmbx_words.declared.status.Status.{Status}
use Rattle.ecmbx_call.specs.Course.{IsUnsaved}
use Rattle.ecmbx_call.specs.Files.{AreKept, LeavesFiles, OthersKept}

-- files that are the same are kept
pub kept_same : (before saved : Option Table) → saved ≡ before → AreKept before saved
kept_same None saved same = tt
kept_same (Some files) saved same = same

-- a save that failed, for want of memory or by a fault
pub kept_memory : (before saved : Option Table) (name octets : List ℕ) → Saves before saved name octets (Err NoMemory) → AreKept before saved
kept_memory None saved name octets s = tt
kept_memory (Some files) None name octets s = absurd s
kept_memory (Some files) (Some others) name octets s = ap Some s

pub kept_others : (before saved : Option Table) (name octets : List ℕ) → Saves before saved name octets (Err Failed) → OthersKept name before saved
kept_others None saved name octets s = tt
kept_others (Some files) None name octets s = s
kept_others (Some files) (Some others) name octets s = s

module _ (name : List ℕ) (before saved : Option Table) (book : Book) (status : Status) where
  -- nothing was saved
  pub leaves_all : (faulted : Type 0) → saved ≡ before → LeavesFiles name before saved faulted book status
  leaves_all faulted same = LeavesFiles.kept (kept_same before saved same)

  -- a save failed
  pub leaves_failed : (faulted : Type 0) → book.ending ≢ endings.Unfinished → IsUnsaved name before saved faulted status → LeavesFiles name before saved faulted book status
  leaves_failed faulted ended (inl both) = LeavesFiles.kept both.1
  leaves_failed faulted ended (inr failed) = LeavesFiles.torn ended failed.1 failed.0 failed.2

  -- a fault stands behind the load
  pub leaves_later : (one other : Type 0) → (one → other) → LeavesFiles name before saved one book status → LeavesFiles name before saved other book status
  leaves_later one other turn (LeavesFiles.kept kept) = LeavesFiles.kept kept
  leaves_later one other turn (LeavesFiles.stored ended held) = LeavesFiles.stored ended held
  leaves_later one other turn (LeavesFiles.torn ended rose is others) = LeavesFiles.torn ended (turn rose) is others
