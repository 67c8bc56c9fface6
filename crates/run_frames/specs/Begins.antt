-- A RING BEFORE ITS FIRST FRAME.
use Rattle.std.specs.Prelude.{◌≡◌, List, [], ◌∷◌, ⊤}
use Rattle.life_runs.specs.of_life_model.Lives.{new_life}
use Rattle.run_frames.specs.Clocks.{Clocked}

-- each slave is to be brought up to its start state
abbrev pub AllNew : {M Q R : Type 0} → List (Clocked M Q R) → Type 0
AllNew [] = ⊤
AllNew (c ∷ cs) = (c.life ≡ new_life c.spot.start) × AllNew cs
