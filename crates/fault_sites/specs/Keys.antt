-- Which keys a table may have, which it needs, and which is missing or unknown.
use Rattle.std.specs.Prelude.{ℕ, pos, ◌&&◌, ◌||◌, not, Bool, true, false, List, map, filter, find, codes, Option, Some, None, option_and_then, is_none, if◌then◌else◌}
use Rattle.std.specs.List.{list_any}
use Rattle.std.specs.Str.{bytes_eq}
use Rattle.toml.specs.Data.{Members, no_members, member, get_member}
use Rattle.scenario_keys.specs.declared.place.Place.{Place}
use Rattle.scenario_keys.specs.declared.place.Place.TheVariants as places
use Rattle.fault_texts.specs.declared.shape.Need.{Need}
use Rattle.fault_texts.specs.declared.shape.Need.TheVariants as needs
use Rattle.fault_texts.specs.Actions.{keys_of as keys_said}
use Rattle.fault_texts.specs.Rows.{keys_of}
use Rattle.fault_sites.specs.Values.{text_at, number_at, is_number, is_served, is_of_texts}
use Rattle.fault_sites.specs.Places.{kind_of}

-- a scenario of version 2
abbrev pub is_second : Members → Bool
is_second document = is_number (number_at (codes "version") document) (pos 2)

-- a key of a service of these keys; of one whose word isn't known a key that each has
abbrev pub is_of_keys : Option (List (List ℕ)) → List ℕ → Bool
is_of_keys (Some keys) key = list_any (λ other. bytes_eq other key) keys
is_of_keys None key = bytes_eq key (codes "slave") || bytes_eq key (codes "do")

-- the keys of a service, where its word of `do` is known
abbrev pub service_keys : Members → Option (List (List ℕ))
service_keys service = option_and_then keys_said (text_at (codes "do") service)

-- a key that the table at a place may have, of the keys of its kind
abbrev pub is_asked : Members → Place → Members → List ℕ → Bool
is_asked document (places.Slave slave) ms key = not (bytes_eq key (codes "pace")) || is_second document
is_asked document (places.Service service) ms key = is_of_keys (service_keys ms) key
is_asked document _ ms key = true

-- a key that a table needs
abbrev pub is_needed : Need → Members → Bool
is_needed needs.Always ms = true
is_needed needs.Optional ms = false
is_needed needs.OfEoe ms = is_served (codes "eoe") ms
is_needed needs.OfTexts ms = is_of_texts ms

-- a key that a table needs and doesn't have
unfoldable pub is_missing : Members → Place → Members → List ℕ × Need → Bool
is_missing document place ms key = (is_asked document place ms key.0 && is_needed key.1 ms) && is_none (get_member key.0 ms)

-- THE FIRST KEY THAT A TABLE NEEDS and doesn't have
unfoldable pub missing_key : Members → Place → Members → Option (List ℕ × Need)
missing_key document place ms = find (is_missing document place ms) (keys_of (kind_of place))

-- this key, which a table may have
abbrev pub is_this : Members → Place → Members → List ℕ → List ℕ × Need → Bool
is_this document place ms other key = bytes_eq key.0 other && is_asked document place ms key.0

-- one of the keys that a table may have
unfoldable pub is_known : Members → Place → Members → List ℕ → Bool
is_known document place ms key = list_any (is_this document place ms key) (keys_of (kind_of place))

-- the first key of a table that isn't known
abbrev pub first_unknown : (List ℕ → Bool) → Members → Option (List ℕ)
first_unknown known no_members = None
first_unknown known (member key d ms) = if known key then first_unknown known ms else Some key

-- THE FIRST KEY OF A TABLE that it may not have
unfoldable pub unknown_key : Members → Place → Members → Option (List ℕ)
unknown_key document place ms = first_unknown (is_known document place ms) ms

-- a key that a table may have and doesn't
unfoldable pub is_spare : Members → Place → Members → List ℕ × Need → Bool
is_spare document place ms key = is_asked document place ms key.0 && is_none (get_member key.0 ms)

-- the keys that a table may have and doesn't
unfoldable pub spare_keys : Members → Place → Members → List (List ℕ)
spare_keys document place ms = map (λ key. key.0) (filter (is_spare document place ms) (keys_of (kind_of place)))
