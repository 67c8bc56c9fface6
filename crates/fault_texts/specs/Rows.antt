-- The keys of a scenario's tables, in the order in which they are read.
use Rattle.std.specs.Prelude.{ℕ, List, [], ◌∷◌, codes}
use Rattle.fault_texts.specs.declared.shape.Kind.{Kind}
use Rattle.fault_texts.specs.declared.shape.Kind.TheVariants as kinds
use Rattle.fault_texts.specs.declared.shape.Need.{Need}
use Rattle.fault_texts.specs.declared.shape.Need.TheVariants.{Always, Optional, OfEoe, OfTexts}
use Rattle.fault_texts.specs.declared.shape.Row.{Row}

-- a key, and where it has to stand
abbrev pub asked : Row → List ℕ × Need
asked row = (row.key.now, row.need)

-- the keys of a kind of table
abbrev pub keys_of : Kind → List (List ℕ × Need)
keys_of kinds.Top =
    (codes "version", Always) ∷ (codes "retry", Always) ∷ (codes "recover", Optional) ∷ (codes "budget", Optional) ∷ (codes "lose", Optional) ∷
    (codes "slave", Always) ∷ (codes "service", Optional) ∷ (codes "host", Optional) ∷ []
keys_of kinds.Slave =
    (codes "name", Always) ∷ (codes "station", Always) ∷ (codes "pace", Optional) ∷ (codes "mail", Always) ∷ (codes "serves", Always) ∷
    (codes "boot", Optional) ∷ (codes "start", Optional) ∷ (codes "blocks", Optional) ∷ (codes "mac", OfEoe) ∷ (codes "fixed_ip", Optional) ∷
    (codes "object", Optional) ∷ (codes "file", Optional) ∷ (codes "idn", Optional) ∷ []
keys_of kinds.Object =
    (codes "index", Always) ∷ (codes "kind", Always) ∷ (codes "name", Optional) ∷ (codes "entry", Always) ∷ []
keys_of kinds.Entry =
    (codes "type", Always) ∷ (codes "access", Always) ∷ (codes "size", OfTexts) ∷ (codes "min", Optional) ∷ (codes "max", Optional) ∷
    (codes "name", Optional) ∷ (codes "value", Always) ∷ []
keys_of kinds.File =
    (codes "name", Always) ∷ (codes "password", Optional) ∷ (codes "rights", Always) ∷ (codes "boot", Optional) ∷ (codes "busy", Optional) ∷
    (codes "value", Always) ∷ []
keys_of kinds.Idn =
    (codes "number", Always) ∷ (codes "drive", Always) ∷ (codes "attribute", Optional) ∷ (codes "label", Optional) ∷ (codes "unit", Optional) ∷
    (codes "size", Always) ∷ (codes "min", Optional) ∷ (codes "max", Optional) ∷ (codes "writable", Optional) ∷ (codes "value", Always) ∷ []
keys_of kinds.Service =
    (codes "slave", Always) ∷ (codes "do", Always) ∷ (codes "index", Always) ∷ (codes "sub", Always) ∷ (codes "from", Always) ∷
    (codes "kind", Always) ∷ (codes "name", Always) ∷ (codes "password", Optional) ∷ (codes "drive", Optional) ∷ (codes "number", Always) ∷
    (codes "elements", Always) ∷ (codes "value", Always) ∷ (codes "block", Always) ∷ (codes "target", Always) ∷ []
keys_of kinds.Host =
    (codes "packet", Always) ∷ []
