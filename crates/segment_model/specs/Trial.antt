-- What the try of a session's step says, at the toy exchange.
use Rattle.std.specs.Prelude.{◌≡◌, ℕ, Bool, true, false, List, [], ◌∷◌, ◌++◌, length, ⊤}
use Rattle.exchange_model.specs.Toy.{Adder, Mail, Service, adder, speech}
use Rattle.link_model.specs.Segment.{RingFate}
use Rattle.segment_model.specs.Slaves.{Processor, Datagram, Ring}
use Rattle.segment_model.specs.Record.{Frame}
use Rattle.segment_model.specs.Returned.{Returns}
use Rattle.segment_model.specs.Seats.{Side, Choice, Planned}
use Rattle.segment_model.specs.Split.{IsBound, IsFrameOf, sides_next}

-- a master's sides with their stations
abbrev pub Sides : Type 0
Sides = List (ℕ × Side Mail Service ℕ)

-- a frame came back exactly where its fate says so
abbrev pub Came : RingFate → Bool → Type 0
Came RingFate.Back returned = returned ≡ true
Came (RingFate.Lost after) returned = returned ≡ false

-- a frame of this fate is the return of what was sent, if it came back
abbrev pub ReturnsBy : RingFate → List (Datagram Mail) → List (Datagram Mail) → Type 0
ReturnsBy RingFate.Back sent back = Returns sent back
ReturnsBy (RingFate.Lost after) sent back = ⊤

-- a frame was made by some choices, and the sides behind them are shown
pub record Chosen (made : ℕ) (ds : Sides) (sent : List (Datagram Mail)) (shows : Sides → Type 0) : Type 0 where
  pub choices : List (Choice Service)
  pub shown : shows (sides_next speech made ds choices)
  pub frame : IsFrameOf (sides_next speech made ds choices) sent

-- the sides shown, the ring and the frames are a session, by one frame more
pub record Stays (processor : Processor Adder) (ps : List (Planned Adder)) (shows : Sides → Type 0) (made : ℕ) (ns : Ring Adder Mail) (fs : List (Frame Mail)) (f : Frame Mail) : Type 0 where
  pub sides : Sides
  pub shown : shows sides
  pub counted : made ≡ length (fs ++ f ∷ [])
  pub bound : IsBound adder processor ps sides ns (fs ++ f ∷ [])
