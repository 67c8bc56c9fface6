-- Where a path leads in a document.
use Rattle.std.specs.Prelude.{List, [], ◌∷◌, Option, Some, None, option_and_then}
use Rattle.toml.specs.Data.{Data, Members, get, at, get_member}
use Rattle.toml_places.specs.declared.path.Step.{Step}
use Rattle.toml_places.specs.declared.path.Step.TheVariants.{Key, Item}
use Rattle.toml_places.specs.Document.{text_in}

-- one step from a value: to the value at a key of a table, or to an item of a list
abbrev pub stepped : Data → Step → Option Data
stepped d (Key octets) = option_and_then (λ key. get key d) (text_in octets)
stepped d (Item place) = at place d

-- some steps from a value
abbrev pub led : Data → List Step → Option Data
led d [] = Some d
led d (step ∷ steps) = option_and_then (λ e. led e steps) (stepped d step)

-- the first step, which leads from the top to a key
abbrev pub stepped_in : Members → Step → Option Data
stepped_in ms (Key octets) = option_and_then (λ key. get_member key ms) (text_in octets)
stepped_in ms (Item place) = None

-- THE VALUE AT A PATH: the steps in order from the top, where the document has them all
abbrev pub data_at : Members → List Step → Option Data
data_at ms [] = None
data_at ms (step ∷ steps) = option_and_then (λ d. led d steps) (stepped_in ms step)
