-- A frame that is being built.
use Rattle.std.specs.Prelude.{◌≡◌, ℕ, zero, suc, ◌+◌, ◌≤◌, false, if◌then◌else◌, List, [], ◌∷◌, ◌++◌, length, drop}
use Rattle.datagrams.specs.Command.{IsNamed}
use Rattle.datagrams.specs.Datagram.{Datagram, body_length, is_cut, datagram_here}
use Rattle.datagrams.specs.Frame.{Each, IsBegun, IsFrame, saying, chained, frame_text}

-- the datagrams that stand one behind the other in octets, of which there are at most `most`, as they were added: none says "more"
abbrev pub drafted_within : ℕ → List ℕ → List Datagram
drafted_within zero octets = []
drafted_within (suc most) octets =
    if is_cut octets then []
    else saying false (datagram_here octets) ∷ drafted_within most (drop (12 + body_length octets) octets)

-- the datagrams that were added to a frame
abbrev pub drafted : List ℕ → List Datagram
drafted octets = drafted_within (length octets) (drop 16 octets)

-- a frame that was begun, and the datagrams that were added have commands with a name or a number above 14
pub record IsDraft (octets : List ℕ) : Type 0 where
  pub begun : IsBegun octets (drafted octets)
  pub named : Each (λ d. IsNamed d.head.command) (drafted octets)

-- a frame with one more datagram
pub record IsDrafted (old new : List ℕ) (d : Datagram) : Type 0 where
  pub draft : IsDraft new
  pub added : drafted new ≡ drafted old ++ d ∷ []

-- a frame of the datagrams that were added, if there are any
pub record IsEnded (old new : List ℕ) : Type 0 where
  pub text : new ≡ frame_text (chained (drafted old))
  pub reads : 1 ≤ length (drafted old) → IsFrame new (chained (drafted old))
