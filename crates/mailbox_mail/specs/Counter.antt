use Rattle.std.specs.Prelude.{ℕ, ◌+◌, ◌%◌}

-- the counter behind a counter: 1 to 7 and 1 again, and 1 behind none
abbrev pub counter_behind : ℕ → ℕ
counter_behind counter = counter % 7 + 1
