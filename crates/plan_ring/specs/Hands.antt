-- The state services in hand of a ring's lives.
use Rattle.std.specs.Prelude.{List, [], ◌∷◌, ⊤}
use Rattle.run_frames.specs.Clocks.{Clocked}
use Rattle.run_frames.specs.Goes.{HandAt}

-- none has begun to reopen its slave while that is open, or opened anew behind its return to Init
abbrev pub AllHand : {M Q R : Type 0} → List (Clocked M Q R) → Type 0
AllHand [] = ⊤
AllHand (c ∷ cs) = HandAt c.life c.life.stand × AllHand cs
