-- The services that a scenario may ask.
use Rattle.std.specs.Prelude.{ℕ, List, [], ◌∷◌, codes, Option, Some, None, if◌then◌else◌}
use Rattle.std.specs.Str.{bytes_eq}

-- the keys of a service, by its word of `do`
unfoldable pub keys_of : List ℕ → Option (List (List ℕ))
keys_of word =
    if bytes_eq word (codes "download") then Some (codes "slave" ∷ codes "do" ∷ codes "index" ∷ codes "sub" ∷ codes "value" ∷ [])
    else if bytes_eq word (codes "upload") then Some (codes "slave" ∷ codes "do" ∷ codes "index" ∷ codes "sub" ∷ [])
    else if bytes_eq word (codes "download_all") then Some (codes "slave" ∷ codes "do" ∷ codes "index" ∷ codes "from" ∷ codes "value" ∷ [])
    else if bytes_eq word (codes "upload_all") then Some (codes "slave" ∷ codes "do" ∷ codes "index" ∷ codes "from" ∷ [])
    else if bytes_eq word (codes "list") then Some (codes "slave" ∷ codes "do" ∷ codes "kind" ∷ [])
    else if bytes_eq word (codes "object") then Some (codes "slave" ∷ codes "do" ∷ codes "index" ∷ [])
    else if bytes_eq word (codes "entry") then Some (codes "slave" ∷ codes "do" ∷ codes "index" ∷ codes "sub" ∷ [])
    else if bytes_eq word (codes "read_file") then Some (codes "slave" ∷ codes "do" ∷ codes "name" ∷ codes "password" ∷ [])
    else if bytes_eq word (codes "write_file") then Some (codes "slave" ∷ codes "do" ∷ codes "name" ∷ codes "password" ∷ codes "value" ∷ [])
    else if bytes_eq word (codes "read_idn") then Some (codes "slave" ∷ codes "do" ∷ codes "drive" ∷ codes "number" ∷ codes "elements" ∷ [])
    else if bytes_eq word (codes "write_idn") then Some (codes "slave" ∷ codes "do" ∷ codes "drive" ∷ codes "number" ∷ codes "elements" ∷ codes "value" ∷ [])
    else if bytes_eq word (codes "set_ip") then Some (codes "slave" ∷ codes "do" ∷ codes "block" ∷ [])
    else if bytes_eq word (codes "get_ip") then Some (codes "slave" ∷ codes "do" ∷ [])
    else if bytes_eq word (codes "state") then Some (codes "slave" ∷ codes "do" ∷ codes "target" ∷ [])
    else None

-- the least and the greatest number of octets that a service writes
unfoldable pub octets_of : List ℕ → ℕ × ℕ
octets_of word =
    if bytes_eq word (codes "download") then (1, 8000)
    else if bytes_eq word (codes "download_all") then (1, 16000)
    else if bytes_eq word (codes "write_idn") then (1, 4096)
    else (0, 131072)
