-- WHAT AN OPEN SLAVE ANSWERS THE INWARD HALF of its master: the write of the repeat request, and the read of its acknowledge.
use Rattle.std.specs.Prelude.{◌≡◌, ◌==◌, ℕ, Bool, true, false, List, [], ◌∷◌, ⊤}
use Rattle.frames_seen.specs.of_datagrams.Datagram as Raw
use Rattle.frames_seen.specs.of_esc_registers.declared.registers.Registers as Esc
use Rattle.frames_seen.specs.of_slave_node.Passing.{datagrams_after}
use Rattle.frames_seen.specs.of_frame_view.View.{Lens}
use Rattle.frames_seen.specs.Own.{own_seen}
use Rattle.frames_seen.specs.Ring.{all_after}
use Rattle.frames_seen.specs.of_link_mails.Body.{Body}
use Rattle.frames_seen.specs.of_link_model.Frames.{Ask}
use Rattle.frames_seen.specs.of_mailbox_slave.Registers.{request_of, acknowledge_of}
use Rattle.frames_seen.specs.of_segment_model.Slaves.{Datagram}

-- the one datagram to its station, as no slave has met it
pub record IsOwn (lens : ℕ → Lens) (station : ℕ) (sent : List Raw.Datagram) (x : Datagram Body) : Type 0 where
  pub one : own_seen lens station sent ≡ x ∷ []
  pub station_is : x.gram.station ≡ station
  pub counter : x.gram.counter ≡ 0

-- what comes back of it, past the slaves before and behind
pub record ComesBack (lens : ℕ → Lens) (before : List Esc.Registers) (r : Esc.Registers) (behind : List Esc.Registers) (sent : List Raw.Datagram) : Type 0 where
  pub datagram : Datagram Body
  pub one : own_seen lens r.station (all_after behind (datagrams_after r (all_after before sent))) ≡ datagram ∷ []
  pub met : (datagram.gram.counter == 0) ≡ false

-- the write of the repeat request
abbrev pub is_request : Ask Body → Bool
is_request (Ask.WriteMail m) = false
is_request Ask.ReadMail = false
is_request (Ask.WriteRequest bit) = true
is_request Ask.ReadAcknowledge = false
is_request Ask.Other = false

-- none of these is
abbrev pub NoRequest : List (Datagram Body) → Type 0
NoRequest [] = ⊤
NoRequest (d ∷ ds) = (is_request d.gram.ask ≡ false) × NoRequest ds

-- request and acknowledge stay
pub record SameBits (r q : Esc.Registers) : Type 0 where
  pub request : request_of q ≡ request_of r
  pub acknowledge : acknowledge_of q ≡ acknowledge_of r
