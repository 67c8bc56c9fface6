-- The master's sides and the ring apart: they meet in frames alone. What a master and a ring have to keep so that they are a session.
use Rattle.std.specs.Prelude.{◌≡◌, ℕ, List, [], ◌∷◌, map, ⊤}
use Rattle.exchange_model.specs.Exchange.{Exchange, Speech}
use Rattle.link_model.specs.Frames.{IsFrameFor}
use Rattle.link_model.specs.Segment.{RingFate}
use Rattle.segment_model.specs.Slaves.{Processor, Datagram, grams, Ring}
use Rattle.segment_model.specs.Record.{Frame}
use Rattle.segment_model.specs.Seats.{Side, Choice, Turn, Planned, side_next, side_back, side_lost, ring_of, sides_of, new_session, IsOpening, run, MayRun}

-- all sides before a frame, by the master's choices
abbrev pub sides_next : {M Q R : Type 0} → Speech M Q R → ℕ → List (ℕ × Side M Q R) → List (Choice Q) → List (ℕ × Side M Q R)
sides_next x frame [] cs = []
sides_next x frame (d ∷ ds) [] = d ∷ ds
sides_next x frame (d ∷ ds) (c ∷ cs) = (d.0, side_next x frame d.1 c) ∷ sides_next x frame ds cs

-- all sides behind a frame that came back
abbrev pub sides_back : {M Q R : Type 0} → Speech M Q R → ℕ → List (Datagram M) → List (ℕ × Side M Q R) → List (ℕ × Side M Q R)
sides_back x frame back ds = map (λ d. (d.0, side_back x frame d.0 back d.1)) ds

-- all sides behind a lost frame
abbrev pub sides_lost : {M Q R : Type 0} → List (Datagram M) → List (ℕ × Side M Q R) → List (ℕ × Side M Q R)
sides_lost sent ds = map (λ d. (d.0, side_lost d.0 sent d.1)) ds

-- all sides behind a frame of this fate
abbrev pub sides_after : {M Q R : Type 0} → Speech M Q R → ℕ → List (Datagram M) → RingFate → List (Datagram M) → List (ℕ × Side M Q R) → List (ℕ × Side M Q R)
sides_after x frame sent RingFate.Back back ds = sides_back x frame back ds
sides_after x frame sent (RingFate.Lost after) back ds = sides_lost sent ds

-- a frame has each half's datagram at most once, and any others that are no access of a mailbox
abbrev pub IsFrameOf : {M Q R : Type 0} → List (ℕ × Side M Q R) → List (Datagram M) → Type 0
IsFrameOf [] sent = ⊤
IsFrameOf (d ∷ ds) sent = IsFrameFor d.0 d.1.halves (grams sent) × IsFrameOf ds sent

-- sides, a ring and frames that a session of this plan has come to, behind the frames of its bring-up
pub record IsBound {V A M Q R : Type 0} (x : Exchange V A M Q R) (processor : Processor V) (ps : List (Planned V))
    (ds : List (ℕ × Side M Q R)) (ns : Ring V M) (fs : List (Frame M)) : Type 0 where
  pub opening : List (Frame M)
  pub quiet : IsOpening opening
  pub turns : List (Turn M Q)
  pub may : MayRun x processor (new_session {Q = Q} {R = R} opening ps) turns
  pub sides : sides_of (run x processor (new_session opening ps) turns).seats ≡ ds
  pub ring : ring_of (run x processor (new_session {Q = Q} {R = R} opening ps) turns).seats ≡ ns
  pub frames : (run x processor (new_session {Q = Q} {R = R} opening ps) turns).frames ≡ fs
