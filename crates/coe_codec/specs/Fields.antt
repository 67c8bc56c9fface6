use Rattle.std.specs.Prelude.{ℕ, Bool, true, false, ◌/◌, ◌%◌, ◌==◌, List, slice_index}

-- the service of a body, bits 12 to 15 of its header
abbrev pub service_in : List ℕ → ℕ
service_in body = slice_index body 1 / 16

-- the command specifier, bits 5 to 7 of the command
abbrev pub specifier_in : List ℕ → ℕ
specifier_in body = slice_index body 2 / 32

-- the bit of the command that has this weight
abbrev pub flag_in : List ℕ → ℕ → Bool
flag_in body weight = slice_index body 2 / weight % 2 == 1

-- the unused count of a segment, bits 1 to 3 of its command
abbrev pub unused_in : List ℕ → ℕ
unused_in body = slice_index body 2 / 2 % 8

-- the unused count of an expedited form, bits 2 and 3 of its command
abbrev pub missing_in : List ℕ → ℕ
missing_in body = slice_index body 2 / 4 % 4

-- the opcode of an information form
abbrev pub opcode_in : List ℕ → ℕ
opcode_in body = slice_index body 2 % 128

-- a flag as a number
abbrev pub bit : Bool → ℕ
bit true = 1
bit false = 0
