-- AL states (ETG.1000.6, section 6.4.1).
use Rattle.std.specs.Prelude.{ℕ, ◌==◌, List, [], ◌++◌, length, codes, if◌then◌else◌}
use Rattle.std.specs.Fmt.{decimal}

-- an AL state by its number, empty where it is none
abbrev pub state_word : ℕ → List ℕ
state_word state =
    if state == 1 then codes "Init"
    else if state == 2 then codes "PreOp"
    else if state == 3 then codes "Bootstrap"
    else if state == 4 then codes "SafeOp"
    else if state == 8 then codes "Op"
    else []

-- AN AL STATE by its name, or by its number where it is none
unfoldable pub state_text : ℕ → List ℕ
state_text state = if length (state_word state) == 0 then codes "state " ++ decimal state else state_word state
