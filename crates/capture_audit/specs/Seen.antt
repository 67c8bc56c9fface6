-- Datagrams and frames as they stand in a file.
use Rattle.std.specs.Prelude.{ℕ, List, All, option_map}
use Rattle.capture_view.specs.of_datagrams.Frame.{IsPart}
use Rattle.capture_view.specs.of_datagrams.declared.frame.Frame.{Frame}
use Rattle.capture_audit.specs.Exchanges.{Return, Sent, Found}
use Rattle.capture_audit.specs.declared.exchange.Return.{Return as ReturnView}
use Rattle.capture_audit.specs.declared.exchange.Datagram.{Datagram}
use Rattle.capture_audit.specs.declared.exchange.FrameView.{FrameView}

-- what returned of a datagram
abbrev pub return_seen : ReturnView → Return
return_seen r = record { counter = r.counter; body = r.body.now }

-- a datagram, with what returned of it
abbrev pub datagram_seen : Datagram → Sent
datagram_seen d = record { head = d.head; body = d.body.now; back = option_map return_seen d.back }

-- a frame that reads
abbrev pub found_seen : FrameView → Found
found_seen f = record { octets = f.octets.now; parts = f.parts.now }

-- the same of a frame and its octets
abbrev pub frame_found : List ℕ → Frame → Found
frame_found octets frame = record { octets = octets; parts = frame.parts.items }

-- each part is one of the frame
abbrev pub IsFound : FrameView → Type 0
IsFound f = All (IsPart f.octets.now) f.parts.now
