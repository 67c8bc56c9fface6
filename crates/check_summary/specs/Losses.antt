-- Frames in a row that a schedule loses.
use Rattle.std.specs.Prelude.{ℕ, ◌+◌, ◌-◌, ◌==◌, nat_lt, List, [], ◌∷◌, if◌then◌else◌}
use Rattle.check_summary.specs.declared.losses.Row.{Row}
use Rattle.check_summary.specs.declared.losses.Rows.{Rows}

-- how many frames a row has
abbrev pub count_of : Row → ℕ
count_of row = row.behind - row.first

-- a row with a frame: it goes on where the frame follows it, else another one begins
abbrev pub extended : Row → ℕ → Row
extended row frame = record { first = (if frame == row.behind then row.first else frame); behind = frame + 1 }

-- the longer of two rows, the first where they are as long
abbrev pub longer : Row → Row → Row
longer row other = if nat_lt (count_of row) (count_of other) then other else row

-- the rows with one more frame
abbrev pub counted_in : Rows → ℕ → Rows
counted_in rows frame = record { longest = longer rows.longest (extended rows.last frame); last = extended rows.last frame }

-- no frames
abbrev pub no_row : Row
no_row = record { first = 0; behind = 0 }

-- the rows of some frames, behind those so far
abbrev pub rows_from : Rows → List (ℕ × ℕ) → Rows
rows_from rows [] = rows
rows_from rows (lost ∷ lose) = rows_from (counted_in rows lost.0) lose

-- THE FIRST OF THE LONGEST ROWS of frames that a schedule loses
abbrev pub longest_row : List (ℕ × ℕ) → Row
longest_row lose = (rows_from (record { longest = no_row; last = no_row }) lose).longest
