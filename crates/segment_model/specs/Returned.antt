-- A frame that came back, against the frame that was sent.
use Rattle.std.specs.Prelude.{◌≡◌, ℕ, List, [], ◌∷◌, ⊤}
use Rattle.segment_model.specs.Slaves.{Datagram}
use Rattle.segment_model.specs.Record.{is_for}

-- a datagram is the return of another: it has the other's station, ask and access, and is addressed to the same station or, as it was, to a place
pub record IsReturn {M : Type 0} (sent back : Datagram M) : Type 0 where
  pub station : back.gram.station ≡ sent.gram.station
  pub ask : back.gram.ask ≡ sent.gram.ask
  pub address : (station : ℕ) → is_for station back.address ≡ is_for station sent.address
  pub access : back.access ≡ sent.access

-- THE FRAME CAME BACK: each datagram of these, in order, is the return of the one that was sent
abbrev pub Returns : {M : Type 0} → List (Datagram M) → List (Datagram M) → Type 0
Returns [] [] = ⊤
Returns (s ∷ sent) (b ∷ back) = IsReturn s b × Returns sent back
Returns sent back = ⊥
