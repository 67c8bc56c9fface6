-- Where the tables of a scenario stand.
use Rattle.std.specs.Prelude.{ℕ, List, [], ◌∷◌, ◌++◌, codes, Option, Some, None, option_and_then}
use Rattle.toml.specs.Data.{Members, as_table}
use Rattle.toml_places.specs.declared.path.Step.{Step}
use Rattle.toml_places.specs.declared.path.Step.TheVariants.{Key, Item}
use Rattle.toml_places.specs.Path.{data_at}
use Rattle.scenario_keys.specs.declared.place.Place.{Place}
use Rattle.scenario_keys.specs.declared.place.Place.TheVariants as places
use Rattle.fault_texts.specs.declared.shape.Kind.{Kind}
use Rattle.fault_texts.specs.declared.shape.Kind.TheVariants as kinds

-- the path to the table at a place; empty to the top
abbrev pub path_of : Place → List Step
path_of places.Top = []
path_of (places.Slave slave) = Key (codes "slave") ∷ Item slave ∷ []
path_of (places.Object slave object) = Key (codes "slave") ∷ Item slave ∷ Key (codes "object") ∷ Item object ∷ []
path_of (places.Entry slave object entry) =
    Key (codes "slave") ∷ Item slave ∷ Key (codes "object") ∷ Item object ∷ Key (codes "entry") ∷ Item entry ∷ []
path_of (places.File slave file) = Key (codes "slave") ∷ Item slave ∷ Key (codes "file") ∷ Item file ∷ []
path_of (places.Idn slave idn) = Key (codes "slave") ∷ Item slave ∷ Key (codes "idn") ∷ Item idn ∷ []
path_of (places.Service service) = Key (codes "service") ∷ Item service ∷ []
path_of (places.Host packet) = Key (codes "host") ∷ Item packet ∷ []

-- the path to a key of the table at a place
abbrev pub key_path : Place → List ℕ → List Step
key_path place key = path_of place ++ Key key ∷ []

-- the table at a path
abbrev pub members_at : Members → List Step → Option Members
members_at ms [] = Some ms
members_at ms (step ∷ steps) = option_and_then as_table (data_at ms (step ∷ steps))

-- what the table at a place is of
abbrev pub kind_of : Place → Kind
kind_of places.Top = kinds.Top
kind_of (places.Slave slave) = kinds.Slave
kind_of (places.Object slave object) = kinds.Object
kind_of (places.Entry slave object entry) = kinds.Entry
kind_of (places.File slave file) = kinds.File
kind_of (places.Idn slave idn) = kinds.Idn
kind_of (places.Service service) = kinds.Service
kind_of (places.Host packet) = kinds.Host
