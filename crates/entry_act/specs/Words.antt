-- What the words ask for.
use Rattle.std.specs.Prelude.{ℕ, ◌||◌, Bool, false, List, [], ◌∷◌, codes, Option, Some, None, if◌then◌else◌}
use Rattle.std.specs.Str.{bytes_eq}
use Rattle.entry_lines.specs.Usage.{get_usage_line, put_usage_line}
use Rattle.entry_act.specs.declared.words.Task.{Task}

-- the first word is `get` or `put`
abbrev pub is_form : List (List ℕ) → Bool
is_form (word ∷ words) = bytes_eq word (codes "get") || bytes_eq word (codes "put")
is_form [] = false

-- four words: `get SCENARIO SLAVE WHAT`
abbrev pub four_in : List ℕ → Option Task
four_in word = if bytes_eq word (codes "get") then Some Task.Read else None

-- five words: `get SCENARIO SLAVE WHAT FILE` or `put SCENARIO SLAVE WHAT VALUE`
abbrev pub five_in : List ℕ → Option Task
five_in word =
    if bytes_eq word (codes "get") then Some Task.Save
    else if bytes_eq word (codes "put") then Some Task.Write
    else None

-- WHAT THE WORDS ASK FOR
abbrev pub task_in : List (List ℕ) → Option Task
task_in (word ∷ _ ∷ _ ∷ _ ∷ []) = four_in word
task_in (word ∷ _ ∷ _ ∷ _ ∷ _ ∷ []) = five_in word
task_in _ = None

-- the line of words that fit no form, by the first one
abbrev pub usage_in : List (List ℕ) → List ℕ
usage_in (word ∷ words) = if bytes_eq word (codes "put") then put_usage_line else get_usage_line
usage_in [] = get_usage_line

-- the word SCENARIO
abbrev pub scenario_in : List (List ℕ) → List ℕ
scenario_in (_ ∷ scenario ∷ _) = scenario
scenario_in _ = []

-- the word SLAVE
abbrev pub slave_in : List (List ℕ) → List ℕ
slave_in (_ ∷ _ ∷ slave ∷ _) = slave
slave_in _ = []

-- the word WHAT
abbrev pub what_in : List (List ℕ) → List ℕ
what_in (_ ∷ _ ∷ _ ∷ what ∷ _) = what
what_in _ = []

-- the word FILE or VALUE
abbrev pub last_in : List (List ℕ) → List ℕ
last_in (_ ∷ _ ∷ _ ∷ _ ∷ last ∷ _) = last
last_in _ = []
