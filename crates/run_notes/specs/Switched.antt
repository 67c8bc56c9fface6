-- THE PACKETS OF A BOOK, as its switch has them by its events.
use Rattle.std.specs.Prelude.{◌≡◌, ◌≤◌, ℕ, List, [], ◌∷◌, ◌++◌, map, length, All}
use Rattle.arrayvec.specs.ArrayVec.{ArrayVec}
use Rattle.run_book.specs.of_eoe_switch.Switch.{switched}
use Rattle.run_book.specs.of_master_node.Happened.{events_of, handed_in, arrivals_at, HostWaits, HasHappened}
use Rattle.run_book.specs.of_master_node.declared.happened.Happening.{Happening}
use Rattle.run_book.specs.of_master_node.declared.lan.Lan.{Lan}
use Rattle.run_book.specs.Ports.{ports_of, IsAtPort}
use Rattle.run_book.specs.declared.book.Book.{Book}
use Rattle.run_book.specs.of_segment_plan.declared.plan.Scenario.{Scenario}

-- the octets of packets
abbrev pub octets_of : List (ArrayVec ℕ) → List (List ℕ)
octets_of packets = map (λ (p : ArrayVec ℕ). p.items) packets

-- something that happened at the switch, and how many frames had been sent then
pub record Stamp : Type 0 where
  pub row : Happening
  pub sent : ℕ

-- what happened, without these numbers
abbrev pub rows_of : List Stamp → List Happening
rows_of stamps = map (λ (s : Stamp). s.row) stamps

-- these numbers alone
abbrev pub numbers_of : List Stamp → List ℕ
numbers_of stamps = map (λ (s : Stamp). s.sent) stamps

-- it happened when so many frames had been sent
abbrev pub stamp : ℕ → Happening → Stamp
stamp sent row = record { row = row; sent = sent }

-- each of these did
abbrev pub stamped : ℕ → List Happening → List Stamp
stamped sent rows = map (λ (r : Happening). stamp sent r) rows

-- NUMBERS THAT DON'T FALL, none below the one and none above the other
abbrev pub NeverFall : ℕ → ℕ → List ℕ → Type 0
NeverFall low high [] = low ≤ high
NeverFall low high (n ∷ ns) = (low ≤ n) × NeverFall n high ns

-- JUST THIS IS NOTED of the switch: each event, in order, with how many frames had been sent then; and the packets that the host was handed
pub record HasNoted (stamps : List Stamp) (b : Book) : Type 0 where
  pub switch : b.switch ≡ events_of (rows_of stamps)
  pub switched : b.switched ≡ numbers_of stamps
  pub host : b.host ≡ octets_of (handed_in (rows_of stamps))

-- these more are noted, all with this number, where each is at a port
abbrev pub NotesSwitch : ℕ → ℕ → List Happening → Book → Book → Type 0
NotesSwitch ports sent rows b b' = (before : List Stamp) → All (λ (r : Happening). IsAtPort ports r.event) rows → HasNoted before b → HasNoted (before ++ stamped sent rows) b'

-- nothing more is
pub record SameSwitch (b b' : Book) : Type 0 where
  pub switch : b'.switch ≡ b.switch
  pub switched : b'.switched ≡ b.switched
  pub host : b'.host ≡ b.host

-- A MASTER'S SWITCH AND A BOOK, when so many frames were sent: it is the one behind all that is noted, and the numbers of that don't fall
pub record IsSwitched (ports : ℕ) (host : List (ArrayVec ℕ)) (sent : ℕ) (l : Lan) (b : Book) : Type 0 where
  pub stamps : List Stamp
  pub noted : HasNoted stamps b
  pub numbers : NeverFall 0 sent (numbers_of stamps)
  pub happened : HasHappened ports host (rows_of stamps) l

-- THE PACKETS OF THE BOOK OF A PLAN: the host received just those that the events of the switch forward to the first port, which is its own, in order; those that came
-- in there are the first of the plan's packets, in order, each where no packet waited at any port; and each event has its number of frames, which don't fall and are
-- no more than were sent
pub record HasPackets (plan : Scenario) (book : Book) : Type 0 where
  pub packets : List (ArrayVec ℕ)
  pub others : List (List (ArrayVec ℕ))
  pub forwards : (switched (ports_of plan.slaves) book.switch).forwards ≡ packets ∷ others
  pub host : book.host ≡ octets_of packets
  pub rest : List (ArrayVec ℕ)
  pub entered : arrivals_at 0 book.switch ++ rest ≡ plan.host
  pub many : length book.switched ≡ length book.switch
  pub numbers : NeverFall 0 (length book.frames) book.switched
  pub waits : HostWaits (ports_of plan.slaves) book.switch
