-- What a load of a file adds to the course of a call.
use Rattle.std.proofs.Common.{◌≡◌, ℕ, ◌≤◌, List, [], length, Option, Some, None, Ok, refl, sym, ap, inl, inr}
use Rattle.std.proofs.lemmas.List.{append-nil}
use Rattle.ec_outside.specs.Files.{Table, file_of, Loads, LoadsFile}
use Rattle.ec_outside.specs.Sink.{Wrote}
use Rattle.ec_outside.specs.declared.files.Loaded.TheVariants.{Found, Absent, TooLong}
use Rattle.ecmbx_words.specs.declared.status.Status.{Status}
use Rattle.ecmbx_words.specs.Ends.{PutAll}
use Rattle.ecmbx_words.specs.Files.{Holds, IsLong, FileCourse, Followed, IsLoaded, IsUnloaded}
use Rattle.ecmbx_words.specs.Files.FileCourse.{fault, absent, long, found}

-- a text that was put, as the course says
pub said : (course : Status → List ℕ → Type 0) (planned : Status) (text : List ℕ) (old new : Option (List ℕ)) (status : Status) → course planned text → PutAll planned text old new status → Followed course old new status
said course planned text old new status c (inl memory) = inl memory
said course planned text old new status c (inr ended) = inr (planned, text, c, ended)

-- the same text by another course
pub turned : (one other : Status → List ℕ → Type 0) → ((planned : Status) (text : List ℕ) → one planned text → other planned text) → (old new : Option (List ℕ)) (status : Status) → Followed one old new status → Followed other old new status
turned one other turn old new status (inl memory) = inl memory
turned one other turn old new status (inr (planned, text, c, ended)) = inr (planned, text, turn planned text c, ended)

-- nothing put is the empty text put
pub nothing_put : (old : Option (List ℕ)) → Wrote old old []
nothing_put None = tt
nothing_put (Some old) = ap Some (sym (append-nil old))

-- what a load that found the file says

found_in : (limit : ℕ) (octets : List ℕ) (file : Option (List ℕ)) → LoadsFile file limit octets Found → (file ≡ Some octets) × (length octets ≤ limit)
found_in limit octets None h = absurd h
found_in limit octets (Some held) h = (rw h.0 refl, rw h.0 h.1)

pub is_loaded : (limit : ℕ) (name octets : List ℕ) (table : Option Table) → Loads table name limit octets (Ok Found) → IsLoaded limit name table octets
is_loaded limit name octets None h = record { holds = tt; fits = h }
is_loaded limit name octets (Some files) h = let both = found_in limit octets (file_of name files) h in record { holds = both.0; fits = both.1 }

-- and one that didn't

absent_in : (limit : ℕ) (into : List ℕ) (file : Option (List ℕ)) → LoadsFile file limit into Absent → file ≡ None
absent_in limit into None h = refl
absent_in limit into (Some held) h = absurd h

pub holds_absent : (limit : ℕ) (name into : List ℕ) (table : Option Table) → Loads table name limit into (Ok Absent) → Holds table name None
holds_absent limit name into None h = tt
holds_absent limit name into (Some files) h = absent_in limit into (file_of name files) h

long_in : (limit : ℕ) (name into : List ℕ) (files : Table) (file : Option (List ℕ)) → file_of name files ≡ file → LoadsFile file limit into TooLong → IsLong limit (Some files) name
long_in limit name into files None is h = absurd h
long_in limit name into files (Some held) is h = (held, is, h.1)

pub holds_long : (limit : ℕ) (name into : List ℕ) (table : Option Table) → Loads table name limit into (Ok TooLong) → IsLong limit table name
holds_long limit name into None h = tt
holds_long limit name into (Some files) h = long_in limit name into files (file_of name files) refl h

module _ (limit : ℕ) (name : List ℕ) (table : Option Table) (faulted nw : Type 0) (course : List ℕ → Status → List ℕ → Type 0) where
  unloaded_course : nw → (planned : Status) (text : List ℕ) → FileCourse limit name table faulted (Unit {0}) (λ octets planned text. ⊥) planned text → FileCourse limit name table faulted nw course planned text
  unloaded_course fresh _ _ (fault rose u) = fault rose fresh
  unloaded_course fresh _ _ (absent holds u) = absent holds fresh
  unloaded_course fresh _ _ (long is u) = long is fresh
  unloaded_course fresh _ _ (found octets planned text holds fits never) = absurd never

  -- a file that couldn't be had
  pub unloaded : (old new : Option (List ℕ)) (status : Status) → nw → IsUnloaded limit name table faulted old new status → Followed (FileCourse limit name table faulted nw course) old new status
  unloaded old new status fresh h =
      turned (FileCourse limit name table faulted (Unit {0}) (λ octets planned text. ⊥)) (FileCourse limit name table faulted nw course) (unloaded_course fresh) old new status h

  -- a file that was loaded
  pub loaded : (octets : List ℕ) (old new : Option (List ℕ)) (status : Status) → IsLoaded limit name table octets → Followed (course octets) old new status → Followed (FileCourse limit name table faulted nw course) old new status
  loaded octets old new status is h = turned (course octets) (FileCourse limit name table faulted nw course) (λ planned text c. found octets planned text is.holds is.fits c) old new status h
