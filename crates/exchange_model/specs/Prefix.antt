-- One list at the beginning of another.
use Rattle.std.specs.Prelude.{◌≡◌, List, ◌++◌}

-- xs stands at the beginning of ys; it may be empty, or all of it
abbrev pub IsPrefixOf : {A : Type 0} → List A → List A → Type 0
IsPrefixOf {A} xs ys = (rest : List A) × (xs ++ rest ≡ ys)
