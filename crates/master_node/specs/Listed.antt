-- The events of a frame.
use Rattle.std.specs.Prelude.{ℕ, List, take, drop}
use Rattle.master_node.specs.declared.event.Event.{Event}

-- the events that stand in the first places
abbrev pub listed : List Event → ℕ → List Event
listed rows count = take count rows

-- those before the last step
abbrev pub listed_before : List Event → ℕ → ℕ → List Event
listed_before rows first count = take first (take count rows)

-- those of the last step
abbrev pub listed_last : List Event → ℕ → ℕ → List Event
listed_last rows first count = drop first (take count rows)
