-- How a form's course is followed.
use Rattle.std.proofs.Common.{◌≡◌, ◌≢◌, ℕ, ◌≤◌, List, [], Option, ap, inl, inr, refl, sym, ◌∙◌, arith}
use Rattle.ec_outside.specs.Faults.{Rose}
use Rattle.ec_outside.specs.Files.{Table}
use Rattle.ecmbx_words.specs.declared.status.Status.{Status}
use Rattle.ecmbx_words.specs.declared.status.Status.TheVariants as statuses
use Rattle.ecmbx_words.specs.Ends.{Ended as StatusEnded}
use Rattle.ecmbx_words.specs.Files.{FileCourse, Followed, IsUnloaded}
use Rattle.ecmbx_words.specs.Files.FileCourse.{fault, absent, long, found}
use Rattle.people_words.specs.Ended.{Told}
use Rattle.people_words.specs.declared.ended.Ended.{Ended}
use Rattle.entry_call.specs.Ends.{IsAmong, Follows, Unloaded}

-- what a text that was put ends with
pub told_among : (planned : Ended) (text : List ℕ) (old new : Option (List ℕ)) (end : Ended) → Told planned text old new end → IsAmong planned end
told_among planned text old new end (inl memory) = inr (inr memory)
told_among planned text old new end (inr (inl done)) = inl done.0
told_among planned text old new end (inr (inr cut)) = inr (inl cut.0)

-- a text that is no line of a fault of the files doesn't end with one
pub no_file_fault : {A : Type 0} (planned end : Ended) → IsAmong planned end → planned ≢ Ended.As statuses.FileFault → end ≡ Ended.As statuses.FileFault → A
no_file_fault planned end (inl same) other is = absurd (other (sym same ∙ is))
no_file_fault planned end (inr (inl cut)) other is = absurd cc
no_file_fault planned end (inr (inr memory)) other is = absurd cc

-- a course that another one is part of
pub turned : (one other : Ended → List ℕ → Type 0) → ((planned : Ended) (text : List ℕ) → one planned text → other planned text) → (old new : Option (List ℕ)) (end : Ended) → Follows one old new end → Follows other old new end
turned one other turn old new end (planned, text, c, t) = (planned, text, turn planned text c, t)

-- memory ran out ahead of all that is put
pub starved_at : (course : Ended → List ℕ → Type 0) (old new : Option (List ℕ)) (end : Ended) → course (Ended.As statuses.NoMemory) [] → end ≡ Ended.As statuses.NoMemory → Follows course old new end
starved_at course old new end c is = (Ended.As statuses.NoMemory, [], c, inl is)

as_told : (planned status : Status) (text : List ℕ) (old new : Option (List ℕ)) → StatusEnded planned text old new status → Told (Ended.As planned) text old new (Ended.As status)
as_told planned status text old new (inl done) = inr (inl (ap Ended.As done.0, done.1))
as_told planned status text old new (inr cut) = inr (inr (ap Ended.As cut.0, cut.1))

-- a fault of the files is planned where it is the end
pub planned_fault : (planned status : Status) (text : List ℕ) (old new : Option (List ℕ)) → StatusEnded planned text old new status → status ≡ statuses.FileFault → planned ≡ statuses.FileFault
planned_fault planned status text old new (inl done) is = sym done.0 ∙ is
planned_fault planned status text old new (inr cut) is = absurd cc

-- a course that ends with a status
pub followed_as : (one : Status → List ℕ → Type 0) (course : Ended → List ℕ → Type 0) → ((planned : Status) (text : List ℕ) → one planned text → course (Ended.As planned) text) → course (Ended.As statuses.NoMemory) []
    → (old new : Option (List ℕ)) (status : Status) → Followed one old new status → Follows course old new (Ended.As status)
followed_as one course turn none old new status (inl memory) = starved_at course old new (Ended.As status) none (ap Ended.As memory)
followed_as one course turn none old new status (inr (planned, text, c, ended)) = (Ended.As planned, text, turn planned text c, as_told planned status text old new ended)

module _ (limit : ℕ) (name : List ℕ) (table : Option Table) (faulted : Type 0) where
  unloaded_as : (planned : Status) (text : List ℕ) → FileCourse limit name table faulted (Unit {0}) (λ octets planned text. ⊥) planned text → Unloaded limit name table (Ended.As planned) text
  unloaded_as _ _ (fault rose u) = Unloaded.fault
  unloaded_as _ _ (absent holds u) = Unloaded.absent holds
  unloaded_as _ _ (long is u) = Unloaded.long is
  unloaded_as _ _ (found octets planned text holds fits never) = absurd never

  -- a file that couldn't be had
  pub unloaded : (course : Ended → List ℕ → Type 0) → ((planned : Ended) (text : List ℕ) → Unloaded limit name table planned text → course planned text) → course (Ended.As statuses.NoMemory) []
      → (old new : Option (List ℕ)) (status : Status) → IsUnloaded limit name table faulted old new status → Follows course old new (Ended.As status)
  unloaded course turn none old new status lost =
      followed_as (FileCourse limit name table faulted (Unit {0}) (λ octets planned text. ⊥)) course (λ planned text c. turn (Ended.As planned) text (unloaded_as planned text c)) none old new status lost

  fault_of : (planned : Status) (text : List ℕ) → planned ≡ statuses.FileFault → FileCourse limit name table faulted (Unit {0}) (λ octets planned text. ⊥) planned text → faulted
  fault_of _ _ is (fault rose u) = rose
  fault_of _ _ is (absent holds u) = absurd cc
  fault_of _ _ is (long long_is u) = absurd cc
  fault_of _ _ is (found octets planned text holds fits never) = absurd never

  -- that it couldn't be had for a fault
  pub unloaded_fault : (old new : Option (List ℕ)) (status : Status) → IsUnloaded limit name table faulted old new status → Ended.As status ≡ Ended.As statuses.FileFault → faulted
  unloaded_fault old new status (inl memory) is = absurd cc
  unloaded_fault old new status (inr (planned, text, c, ended)) is =
      let same : status ≡ statuses.FileFault = cc in
      fault_of planned text (planned_fault planned status text old new ended same) c

-- a count that rose later rose from before on
pub rose_from : (before now after : ℕ) → before ≤ now → now ≤ after → Rose now after → Rose before after
rose_from before now after le le' rose = grind arith
