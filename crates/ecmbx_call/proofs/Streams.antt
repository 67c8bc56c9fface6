-- What a call that streams adds to its course.
use Rattle.std.proofs.Common.{◌≡◌, ◌⊎◌, ℕ, ◌<◌, List, [], ◌∷◌, length, get_or, map, codes, String, string_bytes, Bool, true, false, if◌then◌else◌, Option, subst, ap, inl, inr, arith}
use Rattle.std.specs.declared.alloc.Global.{Global}
use Rattle.std.specs.Str.{bytes_eq}
use Rattle.gateway_stream.specs.of_ec_outside.Files.{Table}
use Rattle.run_report.specs.of_run_book.declared.book.Book.{Book}
use Rattle.run_report.specs.of_run_book.Book.{IsNew}
use Rattle.promised_run.specs.of_gateway_run.Serving.{Told}
use Rattle.tool_call.specs.of_ecmbx_words.declared.form.Form.TheVariants as forms
use Rattle.tool_call.specs.of_ecmbx_words.declared.status.Status.{Status}
use Rattle.tool_call.specs.of_ecmbx_words.Form.{form_in, name_in, as_serve}
use Rattle.tool_call.specs.of_ecmbx_words.Files.{FileCourse, Followed}
use Rattle.ecmbx_call.specs.Files.{limit}
use Rattle.ecmbx_call.specs.Course.{Began, BeganIn}
use Rattle.ecmbx_call.specs.Serving.{ServeCourse, ServedIn}
use Rattle.tool_call.proofs.of_ecmbx_words.Loads.{turned}
use Rattle.ecmbx_call.proofs.Retold.{Retold, file_retold}

-- a file that was served, in other words for what is told
pub followed_retold :
    (first last first' last' : Told) (h : Retold first last first' last') (count : ℕ) (book : Book) (name : List ℕ) (table : Option Table) (faulted : Type 0) (old new : Option (List ℕ)) (status : Status)
    → Followed (FileCourse limit name table faulted (IsNew book) (ServeCourse count first last book)) old new status → Followed (FileCourse limit name table faulted (IsNew book) (ServeCourse count first' last' book)) old new status
followed_retold first last first' last' h count book name table faulted old new status f =
    turned (FileCourse limit name table faulted (IsNew book) (ServeCourse count first last book)) (FileCourse limit name table faulted (IsNew book) (ServeCourse count first' last' book))
    (λ planned text c. file_retold first last first' last' h count book name table faulted (IsNew book) planned text c) old new status f

-- the book of a call that served the file that its words name
pub began_words : (words : List (List ℕ)) (table : Option Table) (first last : Told) (book : Book) (count : ℕ) (name : List ℕ) → form_in words ≡ forms.Serve count → name ≡ name_in words → IsNew book ⊎ ServedIn name table count first last book → IsNew book ⊎ Began words table first last book
began_words words table first last book count name f is (inl fresh) = inl fresh
began_words words table first last book count name f is (inr served) = inr (inr (count, f, subst (λ n. ServedIn n table count first last book) is served))

-- and of one that ran it
pub ran_words : (words : List (List ℕ)) (table : Option Table) (first last : Told) (book : Book) (name : List ℕ) → name ≡ name_in words → IsNew book ⊎ BeganIn name table book → IsNew book ⊎ Began words table first last book
ran_words words table first last book name is (inl fresh) = inl fresh
ran_words words table first last book name is (inr began) = inr (inl (subst (λ n. BeganIn n table book) is began))

-- one word asks for none
none_by : (serves : Bool) (count : ℕ) → form_in (if serves then codes "serve" ∷ [] else []) ≡ forms.Serve count → ⊥
none_by true count f = absurd cc
none_by false count f = absurd cc

-- words that ask for a serving are more than one
pub some_words : (words : List (String Global)) (count : ℕ) → form_in (as_serve (map string_bytes words)) ≡ forms.Serve count → 1 < length words
some_words [] count f = absurd cc
some_words (a ∷ []) count f = absurd (none_by (bytes_eq (string_bytes a) (codes "stream")) count f)
some_words (a ∷ b ∷ words) count f = omega arith

-- the word behind the first, where the words ask for a serving
name_by : (serves : Bool) (word : List ℕ) (words : List (List ℕ)) (name : List ℕ) (count : ℕ) → form_in (if serves then word ∷ words else []) ≡ forms.Serve count → name ≡ name_in (word ∷ words) → name ≡ name_in (if serves then word ∷ words else [])
name_by true word words name count f is = is
name_by false word words name count f is = absurd cc

pub name_at : (words : List (String Global)) (word : String Global) (count : ℕ) → word ≡ get_or words 1 word → form_in (as_serve (map string_bytes words)) ≡ forms.Serve count → string_bytes word ≡ name_in (as_serve (map string_bytes words))
name_at [] word count is f = absurd cc
name_at (a ∷ []) word count is f = absurd (none_by (bytes_eq (string_bytes a) (codes "stream")) count f)
name_at (a ∷ b ∷ words) word count is f = name_by (bytes_eq (string_bytes a) (codes "stream")) (codes "serve") (map string_bytes (b ∷ words)) (string_bytes word) count f (ap string_bytes is)
