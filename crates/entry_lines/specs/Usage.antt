-- The lines where the words are none of a form.
use Rattle.std.specs.Prelude.{ℕ, List, codes}

-- the words of get
abbrev pub get_usage_line : List ℕ
get_usage_line = codes "usage: ecmbx get SCENARIO SLAVE WHAT [FILE]\n"

-- the words of put
abbrev pub put_usage_line : List ℕ
put_usage_line = codes "usage: ecmbx put SCENARIO SLAVE WHAT VALUE\n"
