-- Datagrams by place, along a ring.
use Rattle.std.specs.Prelude.{◌≡◌, ℕ, ◌+◌, ◌-◌, ◌%◌, ◌<◌, ◌==◌, true, false, List, [], ◌∷◌, ⊤}
use Rattle.slave_node.specs.of_datagrams.Datagram as Raw
use Rattle.slave_node.specs.of_esc_registers.Access.{is_by_place}

-- behind `passed` slaves: one by place was sent to another place than this one
abbrev pub IsElse : ℕ → ℕ → Raw.Datagram → Type 0
IsElse place passed d = is_by_place d.head.command ≡ true → (to : ℕ) × (to < 16) × ((to == place) ≡ false) × (d.head.adp ≡ (65536 - to + passed) % 65536)

-- each of a frame was, where it is by place
abbrev pub AllElse : ℕ → ℕ → List Raw.Datagram → Type 0
AllElse place passed [] = ⊤
AllElse place passed (d ∷ ds) = IsElse place passed d × AllElse place passed ds
