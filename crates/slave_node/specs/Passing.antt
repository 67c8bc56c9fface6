-- A slave's registers and a whole frame: datagram by datagram, in the order in which they stand.
use Rattle.std.specs.Prelude.{◌≡◌, ℕ, ◌+◌, List, [], ◌∷◌, ◌++◌, length, take, drop, Result, Ok, Err}
use Rattle.al_state.specs.of_datagrams.Datagram.{Datagram}
use Rattle.al_state.specs.of_datagrams.declared.frame.Part.{Part}
use Rattle.al_state.specs.of_datagrams.declared.frame.Frame.{Frame}
use Rattle.al_state.specs.of_datagrams.declared.frame.FrameFault.{FrameFault}
use Rattle.al_state.specs.of_datagrams.Frame.{IsFrame, text_of, parts_of, frame_read, octets_set}
use Rattle.mailbox_slave.specs.of_esc_registers.declared.registers.Registers.{Registers}
use Rattle.mailbox_slave.specs.of_esc_registers.Access.{Passed, access}

-- a datagram at the slave: the registers behind it, and what becomes of it
abbrev pub passed : Registers → Datagram → Passed
passed r d = access r d.head d.body

-- the datagram behind the slave: its counter, its ADP and its octets as the registers leave them
abbrev pub datagram_after : Registers → Datagram → Datagram
datagram_after r d = record d { head = (passed r d).head; body = (passed r d).body }

-- the registers behind a frame's datagrams
abbrev pub registers_after : Registers → List Datagram → Registers
registers_after r [] = r
registers_after r (d ∷ ds) = registers_after (passed r d).registers ds

-- the frame's datagrams behind the slave, each by the registers that the ones before it left
abbrev pub datagrams_after : Registers → List Datagram → List Datagram
datagrams_after r [] = []
datagrams_after r (d ∷ ds) = datagram_after r d ∷ datagrams_after (passed r d).registers ds

-- octets with these in the place of as many, from here on
abbrev pub replaced : List ℕ → ℕ → List ℕ → List ℕ
replaced octets from body = take from octets ++ (body ++ drop (from + length body) octets)

-- a frame that a slave was passed by
pub record IsPassed (old new : Registers) (behind : List ℕ) (ds : List Datagram) : Type 0 where
  pub registers : new ≡ registers_after old ds
  pub frame : IsFrame behind (datagrams_after old ds)

-- registers and the octets of a frame, behind one of its datagrams: that has its body, ADP and working counter written in place
abbrev pub part_passed : Registers → List ℕ → Part → Registers × List ℕ
part_passed r octets part =
    let p = access r part.head (take part.head.len (drop (part.at + 10) octets)) in
    (p.registers, octets_set (replaced octets (part.at + 10) p.body) part p.head.adp p.head.counter)

-- the same behind these datagrams, in order
abbrev pub parts_passed : Registers → List ℕ → List Part → Registers × List ℕ
parts_passed r octets [] = (r, octets)
parts_passed r octets (part ∷ parts) = parts_passed (part_passed r octets part).0 (part_passed r octets part).1 parts

-- what isn't a frame goes on as it came
abbrev pub passed_as : Registers → List ℕ → Result Frame FrameFault → Registers × List ℕ
passed_as r octets (Ok frame) = parts_passed r octets frame.parts.items
passed_as r octets (Err fault) = (r, octets)

-- REGISTERS AND OCTETS BEHIND A FRAME: header, addresses and padding stay as they came
abbrev pub frame_passed : Registers → List ℕ → Registers × List ℕ
frame_passed r octets = passed_as r octets (frame_read octets)

-- one datagram of a frame passes: whatever datagrams the octets are a frame of, the one of the part is as the access left it
abbrev pub PartPasses : Registers → Registers → List ℕ → List ℕ → Part → Type 0
PartPasses old new octets behind_octets part = (front : List Datagram) (d : Datagram) (behind : List Datagram) → IsFrame octets (front ++ d ∷ behind) → part.at ≡ 16 + length (text_of front) → part.head ≡ d.head →
    (new ≡ (passed old d).registers) × IsFrame behind_octets (front ++ datagram_after old d ∷ behind)

-- a frame of which the first datagrams have passed: these as they left the slave, the one whose turn it is, and those behind it
pub record IsPassing (old now : Registers) (before octets : List ℕ) (part : Part) (ds : List Datagram) : Type 0 where
  pub front : List Datagram
  pub datagram : Datagram
  pub behind : List Datagram
  pub frame : IsFrame octets (front ++ datagram ∷ behind)
  pub place : part.at ≡ 16 + length (text_of front)
  pub head : part.head ≡ datagram.head
  pub size : length (text_of front) + length (text_of (datagram ∷ behind)) ≡ length (text_of ds)
  pub registers : registers_after old ds ≡ registers_after now (datagram ∷ behind)
  pub datagrams : datagrams_after old ds ≡ front ++ datagrams_after now (datagram ∷ behind)
  pub exact : parts_passed old before (parts_of 16 ds) ≡ parts_passed now octets (parts_of part.at (datagram ∷ behind))
