-- Numbers with their words.
use Rattle.std.specs.Prelude.{ℕ, ◌==◌, List, [], ◌++◌, codes, decimal, if◌then◌else◌}

-- how many there are of something, and its word
unfoldable pub counted : ℕ → List ℕ → List ℕ → List ℕ
counted number one more = decimal number ++ (codes " " ++ (if number == 1 then one else more))

-- the same behind a comma, where there are some
unfoldable pub some_counted : ℕ → List ℕ → List ℕ → List ℕ
some_counted number one more = if number == 0 then [] else codes ", " ++ counted number one more
