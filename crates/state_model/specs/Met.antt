-- What a frame does to the registers of a slave that carry its AL state: the datagrams of a state service among any others.
use Rattle.std.specs.Prelude.{◌≡◌, ℕ, Bool, true, false, Option, Some, None, List, [], ◌∷◌}
use Rattle.segment_model.specs.Slaves.{Registers, Access, Datagram, is_meant}

-- an access that leaves all registers as they are
abbrev pub is_look : Access → Bool
is_look (Access.SetStation station) = false
is_look (Access.SetFirst right) = false
is_look (Access.SetSecond right) = false
is_look (Access.SetControl target acknowledge) = false
is_look Access.ReadState = true
is_look Access.ReadFull = true
is_look Access.Elsewhere = true

-- a frame that writes at most this control word at a slave with these registers: its other datagrams mean other slaves, or look
pub data Writes {M : Type 0} (r : Registers) : Option (ℕ × Bool) → List (Datagram M) → Type 0 where
  nothing : Writes r None []
  others : {word : Option (ℕ × Bool)} (d : Datagram M) (ds : List (Datagram M)) → is_meant r d.address ≡ false → Writes r word ds → Writes r word (d ∷ ds)
  look : {word : Option (ℕ × Bool)} (d : Datagram M) (ds : List (Datagram M)) → is_look d.access ≡ true → Writes r word ds → Writes r word (d ∷ ds)
  write : (word : ℕ × Bool) (d : Datagram M) (ds : List (Datagram M)) → is_meant r d.address ≡ true → d.access ≡ Access.SetControl word.0 word.1 → Writes r None ds → Writes r (Some word) (d ∷ ds)
