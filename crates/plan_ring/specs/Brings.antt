-- What one frame more brings of a slave.
use Rattle.std.specs.Prelude.{ℕ, List}
use Rattle.slave_server.specs.of_exchange_model.Exchange.{Speech}
use Rattle.whole_ring.specs.of_link_model.Frames.{IsFrameFor, all_accepted}
use Rattle.run_frames.specs.of_master_side.Due.{EachDue}
use Rattle.slave_server.specs.of_segment_model.Seats.{Side, side_next}
use Rattle.slave_server.specs.of_segment_model.Slaves.{Datagram, Slave, grams, frame_after}
use Rattle.slave_server.specs.of_state_model.Accounts.{Account, Pick, mails_choice}

-- WHAT A FRAME BRINGS IS DUE, by the row of the service in hand as the frame finds it: whatever the master chooses before, where the frame has each half's
-- datagram at most once
abbrev pub BringsDue : {V M Q R : Type 0} → Speech M Q R → ℕ → Side M Q R → Account Q R → Slave V M → Type 0
BringsDue {M = M} {Q = Q} x station d a n = (frame : ℕ) (pick : Pick Q) (sent : List (Datagram M)) →
    (let u = side_next x frame d (mails_choice a pick) in IsFrameFor station u.halves (grams sent) → EachDue x u.now (all_accepted station u.halves (grams (frame_after station n sent))))
