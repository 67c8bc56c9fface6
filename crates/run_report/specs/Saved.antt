-- The frames of a run as a capture.
use Rattle.std.specs.Prelude.{ℕ, ◌+◌, ◌/◌, ◌%◌, List, [], ◌∷◌, ◌++◌}
use Rattle.pcap_frames.specs.declared.capture.Stamp.{Stamp}
use Rattle.pcap_frames.specs.Capture.{Packet, whole_packet, saved}
use Rattle.run_book.specs.of_segment_ring.declared.wire.Fate.{Fate}
use Rattle.run_book.specs.of_segment_ring.declared.wire.Fate.TheVariants.{Pass, Lost}
use Rattle.run_book.specs.declared.book.SentFrame.{SentFrame}

-- the time of a frame: its number in microseconds
abbrev pub stamp_of : ℕ → Stamp
stamp_of number = record { seconds = number / 1000000; part = number % 1000000 }

-- what returned of a frame
abbrev pub returned_packets : Stamp → Fate → List ℕ → List Packet
returned_packets stamp Pass back = whole_packet stamp back ∷ []
returned_packets stamp (Lost after) back = []

-- a frame as it was sent and, where it returned, as it returned
abbrev pub packets_of : ℕ → SentFrame → List Packet
packets_of number f = whole_packet (stamp_of number) f.sent ∷ returned_packets (stamp_of number) f.fate f.back

-- the packets of the frames from a number on
abbrev pub all_packets : ℕ → List SentFrame → List Packet
all_packets number [] = []
all_packets number (f ∷ fs) = packets_of number f ++ all_packets (number + 1) fs

-- THE SAVED CAPTURE of the frames of a run
abbrev pub capture_of : List SentFrame → List ℕ
capture_of frames = saved (all_packets 0 frames)
