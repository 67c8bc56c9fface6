-- THE RECORD'S COUNTERS ARE THE SIDE'S, all along the life of a slave.
use Rattle.std.specs.Prelude.{◌≡◌, ◌&&◌, nat_lt, Bool, false, List, [], ⊤}
use Rattle.master_tour.specs.of_life_model.Lives.{Life, Opening, Stand}
use Rattle.master_tour.specs.of_link_mails.Body.{Body}
use Rattle.master_tour.specs.of_link_model.Segment.{RingFate}
use Rattle.master_hand.specs.of_segment_model.Record.{Frame, Kept, nothing_kept}
use Rattle.master_hand.specs.of_segment_model.Seats.{Side}
use Rattle.master_hand.specs.of_segment_model.Slaves.{Datagram}
use Rattle.master_tour.specs.of_master_side.Passing.{IsKept}
use Rattle.master_tour.specs.of_master_duty.Reply.{Reply}

-- an opening whose slave wasn't seen in Init yet
abbrev pub is_left : Opening → Bool
is_left o = o.again && nat_lt o.step 3

-- by how the master stands to it: those of an open slave; none yet of one that was seen in Init; and of the epoch before nothing more counts
abbrev pub StandsKept : {Q : Type 0} → Stand → Kept → Side Body Q Reply → Type 0
StandsKept (Stand.Opens o) kept d = is_left o ≡ false → IsKept nothing_kept d
StandsKept Stand.Open kept d = IsKept kept d
StandsKept Stand.Gone kept d = ⊤

-- of a life
abbrev pub LifeKept : {Q : Type 0} → Kept → Life Body Q Reply → Type 0
LifeKept kept l = StandsKept l.stand kept l.era.side

-- a frame as the record of a slave has it: it came back so, or was lost
abbrev pub came_so : List (Datagram Body) → Frame Body
came_so back = record { sent = back; fate = RingFate.Back; back = back }

abbrev pub lost_so : List (Datagram Body) → Frame Body
lost_so sent = record { sent = sent; fate = RingFate.Lost 0; back = [] }
