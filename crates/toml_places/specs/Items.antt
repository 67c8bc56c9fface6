-- The line of an item of a list over several lines.
use Rattle.std.specs.Prelude.{◌≡◌, ◌⊎◌, ℕ, ◌<◌, ◌≤◌, Bool, true, false, List, [], ◌∷◌, ◌++◌, codes, length, take, is_some, Option, Some, None, option_and_then, unwrap_or, if◌then◌else◌, MatchBool}
use Rattle.std.specs.List.{list_any}
use Rattle.toml.specs.Data.{Members}
use Rattle.toml_places.specs.declared.path.Step.{Step}
use Rattle.toml_places.specs.declared.path.Step.TheVariants.{Key, Item}
use Rattle.toml_places.specs.Document.{document_in}
use Rattle.toml_places.specs.Lines.{is_line_end}
use Rattle.toml_places.specs.Path.{data_at}
use Rattle.toml_places.specs.Seeking.{has}

abbrev pub is_item : Step → Bool
is_item (Key key) = false
is_item (Item place) = true

-- a path that leads through a list
abbrev pub is_listed : List Step → Bool
is_listed path = list_any is_item path

-- the longest end of a path that a document has
abbrev pub own_in : List Step → Members → Option (List Step)
own_in [] ms = None
own_in (step ∷ steps) ms = if is_some (data_at ms (step ∷ steps)) then Some (step ∷ steps) else own_in steps ms

-- the same of a block by itself
abbrev pub own_path : List ℕ → List Step → Option (List Step)
own_path block path = option_and_then (own_in path) (document_in block)

-- whether lines and a line `]` behind them are a document that has a path
abbrev pub is_closed : List Step → List ℕ → Bool
is_closed path front = unwrap_or (has path (front ++ codes "]")) false

-- THE LINE OF AN ITEM begins at a place of its block: up to its end the lines and a line `]` are a document that has the path, and no fewer lines are
pub record IsItemLine (block : List ℕ) (path : List Step) (line : ℕ) : Type 0 where
  pub end : ℕ
  pub some : line < end
  pub within : end ≤ length block
  pub ends : is_line_end block end ≡ true
  pub alone : (k : ℕ) → line < k → k < end → is_line_end block k ≡ false
  pub closed : is_closed path (take end block) ≡ true
  pub first : (k : ℕ) → 0 < k → k ≤ line → is_line_end block k ≡ true → is_closed path (take k block) ≡ false

-- no lines of a block are such a document
pub record HasNoItem (block : List ℕ) (path : List Step) : Type 0 where
  pub none : (k : ℕ) → 0 < k → k ≤ length block → is_line_end block k ≡ true → is_closed path (take k block) ≡ false

-- the line of an item of a list; the first one where no line is the item's
abbrev pub IsOwnLine : List ℕ → ℕ → Option (List Step) → Type 0
IsOwnLine block line None = line ≡ 0
IsOwnLine block line (Some own) = MatchBool (is_listed own) (IsItemLine block own line ⊎ (HasNoItem block own × (line ≡ 0))) (line ≡ 0)

-- where the line of a path begins in its block
abbrev pub IsLineIn : List ℕ → List Step → ℕ → Type 0
IsLineIn block path line = IsOwnLine block line (own_path block path)
