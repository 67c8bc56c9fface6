-- Frames that carry nothing for a slave.
use Rattle.std.specs.Prelude.{◌≡◌, ℕ, ◌==◌, ◌||◌, Bool, false, List, [], ◌∷◌, ⊤}
use Rattle.segment_model.specs.Slaves.{Datagram}
use Rattle.segment_model.specs.Record.{Frame, is_for}

-- a frame carries a datagram for this station
abbrev pub carries : {M : Type 0} → ℕ → List (Datagram M) → Bool
carries station [] = false
carries station (d ∷ ds) = (d.gram.station == station || is_for station d.address) || carries station ds

-- no frame of these carries one, as it was sent and as it came back
abbrev pub NoneFor : {M : Type 0} → ℕ → List (Frame M) → Type 0
NoneFor station [] = ⊤
NoneFor station (f ∷ fs) = ((carries station f.sent ≡ false) × (carries station f.back ≡ false)) × NoneFor station fs
