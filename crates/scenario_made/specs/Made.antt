-- The generator: a scenario's text out of a seed and a size.
use Rattle.std.specs.Prelude.{ℕ, zero, suc, ◌+◌, ◌*◌, ◌/◌, ◌%◌, ◌^◌, ◌==◌, List, [], ◌∷◌, ◌++◌, codes, if◌then◌else◌}
use Rattle.std.specs.Fmt.{decimal}
use Rattle.hex.specs.Hex.{encode_lower}

-- ---- draws

-- the generator's state behind a step: a linear congruence modulo 2 ^ 64
abbrev pub next : ℕ → ℕ
next x = (x * 6364136223846793005 + 1442695040888963407) % 2 ^ 64

-- what a state draws below k
abbrev pub drawn : ℕ → ℕ → ℕ
drawn x k = x / 2 ^ 33 % k

-- the generator's state, and the text so far
pub record Made : Type 0 where
  pub state : ℕ
  pub text : List ℕ

-- a state and a text
abbrev pub made : ℕ → List ℕ → Made
made state text = record { state = state; text = text }

-- the text with more behind it
abbrev pub said : List ℕ → Made → Made
said text m = record { state = m.state; text = m.text ++ text }

-- the same behind one draw
abbrev pub drew : Made → Made
drew m = record { state = next m.state; text = m.text }

-- a step made so often, with its number from 0
abbrev pub times : (ℕ → Made → Made) → ℕ → Made → Made
times step zero m = m
times step (suc n) m = step n (times step n m)

-- ---- the lost frames

-- what stands before a pair
abbrev pub pair_head : ℕ → List ℕ
pair_head i = if i == 0 then codes "[" else codes ", ["

-- a lost frame, 20 and 10 for each pair before it and a draw of 5, and how many slaves it meets, a draw of 4
abbrev pub pair : ℕ → Made → Made
pair i m =
    said (codes "]") (said (decimal (drawn (next (next m.state)) 4)) (said (codes ", ")
    (drew (said (decimal (20 + 10 * i + drawn (next m.state) 5)) (said (pair_head i) (drew m))))))

-- a pair for each eight services
abbrev pub losses : ℕ → Made → Made
losses size m = said (codes "]\n") (times pair (size / 8) (said (codes "version = 1\nretry = 3\nlose = [") m))

-- ---- the slaves

-- what a slave has behind its mailboxes
abbrev pub rest_of_slave : List ℕ
rest_of_slave =
    codes "]\nserves = [\"coe\", \"foe\"]\nblocks = 8\n\n[[slave.object]]\nindex = 8192\nkind = \"variable\"\nname = \"Store\"\n\n[[slave.object.entry]]\ntype = 10\naccess = 63\nsize = [1, 200]\nvalue = \"00\"\n\n[[slave.file]]\nname = \"f\"\nrights = \"rw\"\nvalue = \"\"\n"

-- a text with a part behind it
abbrev pub more : List ℕ → List ℕ → List ℕ
more part text = text ++ part

-- a slave of a name, with a station address and mailboxes of a length, behind a text
abbrev pub slave : List ℕ → ℕ → ℕ → List ℕ → List ℕ
slave name station area text =
    more rest_of_slave (more (decimal area) (more (codes ", ") (more (decimal area) (more (codes "\nmail = [")
    (more (decimal station) (more (codes "\"\nstation = ") (more name (more (codes "\n[[slave]]\nname = \"") text))))))))

-- the three slaves behind a text
abbrev pub slaves : List ℕ → List ℕ
slaves text = slave (codes "c") 4099 256 (slave (codes "b") 4098 128 (slave (codes "a") 4097 64 text))

-- ---- the services

-- a drawn octet in digits
abbrev pub octet : Made → Made
octet m = said (encode_lower (drawn (next m.state) 256 ∷ [])) (drew m)

-- a value of so many octets and a draw more
abbrev pub value : ℕ → ℕ → Made → Made
value least k m = said (codes "\"\n") (times (λ _ o. octet o) (least + drawn (next m.state) k) (said (codes "value = \"") (drew m)))

-- the lines of what a service does, by a draw of 4
abbrev pub action_head : ℕ → List ℕ
action_head k =
    if k == 0 then codes "do = \"download\"\nindex = 8192\nsub = 0\n"
    else if k == 1 then codes "do = \"upload\"\nindex = 8192\nsub = 0\n"
    else if k == 2 then codes "do = \"write_file\"\nname = \"f\"\n"
    else codes "do = \"read_file\"\nname = \"f\"\n"

-- the value of a download or of a file that is written
abbrev pub valued : ℕ → Made → Made
valued k m = if k == 0 then value 1 200 m else if k == 2 then value 0 300 m else m

-- what a service does, with its value
abbrev pub action : ℕ → Made → Made
action k m = valued k (said (action_head k) m)

-- the first line of a service of a slave
abbrev pub service_head : ℕ → List ℕ
service_head k =
    if k == 0 then codes "\n[[service]]\nslave = \"a\"\n"
    else if k == 1 then codes "\n[[service]]\nslave = \"b\"\n"
    else codes "\n[[service]]\nslave = \"c\"\n"

-- a service of a drawn slave
abbrev pub service : Made → Made
service m = action (drawn (next (next m.state)) 4) (drew (said (service_head (drawn (next m.state) 3)) (drew m)))

-- ---- the whole

-- the slaves behind the lost frames
abbrev pub with_slaves : Made → Made
with_slaves m = record { state = m.state; text = slaves m.text }

-- the text of a seed and a size, behind a text
abbrev pub made_behind : List ℕ → ℕ → ℕ → Made
made_behind text seed size = times (λ _ m. service m) size (with_slaves (losses size (made seed text)))

-- the same without the state; behind nothing it is the whole scenario
abbrev pub text_of : List ℕ → ℕ → ℕ → List ℕ
text_of text seed size = (made_behind text seed size).text
