-- The lines of a text.
use Rattle.std.specs.Prelude.{ℕ, ◌+◌, ◌-◌, ◌==◌, ◌||◌, Bool, List, length, take, count_by, slice_index}

-- a line ends ahead of this place: by a line feed, or with the text
abbrev pub is_line_end : List ℕ → ℕ → Bool
is_line_end text at = at == length text || slice_index text (at - 1) == 10

-- the number of the line that begins at a place, counted from 1
abbrev pub line_number : List ℕ → ℕ → ℕ
line_number text at = count_by (λ octet. octet == 10) (take at text) + 1
