use Rattle.std.proofs.Common.{◌≡◌, ◌∙◌, ap, sym, subst, ℕ, List, ◌++◌, [], ◌∷◌, Some, None, get_or, set, zero-add}
use Rattle.ec_outside.specs.Files.{Table, Stores, place_of}
use Rattle.ec_outside.specs.declared.files.StoredFile.{StoredFile}
use Rattle.ec_outside.proofs.Stored.{stored_set, stored_push}
use Rattle.ec_outside.proofs.mem_files.MemFiles.add.Goals as goal
use Rattle.ec_outside.proofs.mem_files.MemFiles.add.Goals.{in-Ok, in-Err}

-- the file lent at the place of a name is put back with new contents
replaced :
    (name octets : List ℕ) (files : Table) (at : ℕ) (lent : StoredFile) (copy : List ℕ) → Some at ≡ place_of name 0 files
    → lent ≡ get_or files at lent → copy ≡ octets → Stores name octets files (set files at (record { name = lent.name; octets = copy }))
replaced name octets files at lent copy place is same =
    let P : StoredFile → Type 0 = λ file. Stores name octets files (set files at file) in
    subst P (λ i. record { name = (sym (ap (λ f. f.name) is)) i; octets = (sym same) i })
    (stored_set name octets files 0 at lent (sym place ∙ ap (λ n. Some n) (sym (zero-add at))))

-- a file of a new name is put behind all others
pushed :
    (name octets : List ℕ) (files after : Table) (key copy : List ℕ) → None ≡ place_of name 0 files
    → after ≡ files ++ record { name = key; octets = copy } ∷ [] → key ≡ name → copy ≡ octets → Stores name octets files after
pushed name octets files after key copy place is named same =
    rw (is, named, same) (stored_push name octets files 0 (sym place))

pub returns-in-Some-clause-ok : goal.returns-in-Some-clause-ok
returns-in-Some-clause-ok c =
    replaced c.args.name.now c.args.bytes.now c.args.self.now.files c.in-Some.at c.at_mut.result.now c.in_ok-octets.octets
    c.in-Some.ensures.place c.at_mut.ensures.value c.in_ok-octets.ensures

pub returns-after-push-clause-ok : goal.returns-after-push-clause-ok
returns-after-push-clause-ok c =
    elim c.match-push.branch [
      | in-Ok w ↦ rw w.result-is
          (pushed c.args.name.now c.args.bytes.now c.args.self.now.files c.push.new.self c.in_ok-name-in-None.name c.in_ok-octets.octets
          c.in-None.ensures.place w.in-Ok.ensures.ok (c.in_ok-name-in-None.ensures ∙ c.as_bytes.ensures.value) c.in_ok-octets.ensures)
      | in-Err w ↦ rw w.result-is tt
    ]
