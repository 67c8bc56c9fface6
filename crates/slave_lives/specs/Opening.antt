-- A SLAVE THAT IS OPENED, over its registers: the accesses of bring-up and of a reopening, and what holds of the slave while each is in hand.
use Rattle.std.specs.Prelude.{◌≡◌, ◌⊎◌, ℕ, ◌<◌, ◌==◌, Bool, true, false, if◌then◌else◌, Some, None, List, [], ◌∷◌, ◌++◌, length, ⊤}
use Rattle.byteorder.specs.Endian.{little_bytes}
use Rattle.frames_seen.specs.of_datagrams.declared.command.Command.{Command}
use Rattle.frames_seen.specs.of_datagrams.declared.command.Command.TheVariants.{Aprd, Apwr, Fprd, Fpwr}
use Rattle.frames_seen.specs.of_datagrams.Datagram as Raw
use Rattle.frames_seen.specs.of_esc_registers.declared.registers.Registers as Esc
use Rattle.frames_seen.specs.of_esc_registers.Manager.{is_right}
use Rattle.frames_seen.specs.of_slave_node.Passing.{passed}
use Rattle.frames_seen.specs.of_link_model.Link.{new_link}
use Rattle.frames_seen.specs.of_mailbox_slave.Kept.{Kept}
use Rattle.frames_seen.specs.of_mailbox_slave.Node.{node_of, in_side}
use Rattle.frames_seen.specs.of_frame_view.View.{Lens}
use Rattle.frames_seen.specs.Slaves.{registers_seen, IsOpen}
use Rattle.slave_lives.specs.Steps.{Stands}
use Rattle.frames_seen.specs.Spoken.{means}
use Rattle.frames_seen.specs.Own.{NoneMeant}

-- what the plan says of a slave: its station, the lengths of its mailboxes, the state that it is opened in
pub record Plan : Type 0 where
  pub station : ℕ
  pub out : ℕ
  pub back : ℕ
  pub start : ℕ

-- the state that it is opened in is one that its slave has, and all numbers fit their fields
pub record IsPlan (boot : Bool) (lens : ℕ → Lens) (p : Plan) : Type 0 where
  pub station : p.station < 65536
  pub out : p.out < 65536
  pub back : p.back < 65536
  pub start : (p.start ≡ 2) ⊎ ((p.start ≡ 3) × (boot ≡ true))
  pub lens_out : (lens p.station).out ≡ p.out
  pub lens_back : (lens p.station).back ≡ p.back

-- the eight octets of a manager, off or on
abbrev pub manager_octets : ℕ → ℕ → ℕ → ℕ → List ℕ
manager_octets start len control activate = little_bytes 2 start ++ (little_bytes 2 len ++ control ∷ 0 ∷ activate ∷ 0 ∷ [])

-- an access as it comes to the slave
pub record Aim : Type 0 where
  pub command : Command
  pub adp : ℕ
  pub ado : ℕ
  pub octets : List ℕ

-- the accesses of a reopening by number, 1 to 9; bring-up is the third, and the sixth to the ninth
abbrev pub aim : Plan → ℕ → Aim
aim p n =
    if n == 1 then record { command = Apwr; adp = 0; ado = 288; octets = 17 ∷ 0 ∷ [] }
    else if n == 2 then record { command = Aprd; adp = 0; ado = 304; octets = 0 ∷ 0 ∷ 0 ∷ 0 ∷ 0 ∷ 0 ∷ [] }
    else if n == 3 then record { command = Apwr; adp = 0; ado = 16; octets = little_bytes 2 p.station }
    else if n == 4 then record { command = Fpwr; adp = p.station; ado = 2048; octets = manager_octets 4096 p.out 38 0 }
    else if n == 5 then record { command = Fpwr; adp = p.station; ado = 2056; octets = manager_octets 6144 p.back 34 0 }
    else if n == 6 then record { command = Fpwr; adp = p.station; ado = 2048; octets = manager_octets 4096 p.out 38 1 }
    else if n == 7 then record { command = Fpwr; adp = p.station; ado = 2056; octets = manager_octets 6144 p.back 34 1 }
    else if n == 8 then record { command = Fpwr; adp = p.station; ado = 288; octets = p.start ∷ 0 ∷ [] }
    else record { command = Fprd; adp = p.station; ado = 304; octets = 0 ∷ 0 ∷ 0 ∷ 0 ∷ 0 ∷ 0 ∷ [] }

-- this datagram is the n-th access
pub record IsAccess (p : Plan) (n : ℕ) (d : Raw.Datagram) : Type 0 where
  pub command : d.head.command ≡ (aim p n).command
  pub adp : d.head.adp ≡ (aim p n).adp
  pub ado : d.head.ado ≡ (aim p n).ado
  pub octets : d.body ≡ (aim p n).octets

-- the access behind one of bring-up
abbrev pub access_behind : ℕ → ℕ
access_behind n = if n == 3 then 6 else if n == 6 then 7 else if n == 7 then 8 else 9

-- AN OPENING FROM INIT WITH A NEW BOX, while access n is in hand, which may have been met any number of times: the box is new, both
-- mailboxes are empty and no repeat is asked; the state is Init or, from access 8 on, the one that is opened, without an error;
-- a word that waits asks for the latter; and what the accesses before n set
pub record IsBringing {S : Type 0} (p : Plan) (n : ℕ) (r : Esc.Registers) (k : Kept) (s : S) : Type 0 where
  pub node : node_of k r s ≡ (new_link s).node
  pub out : length r.out_manager.area ≡ p.out
  pub back : length r.in_manager.area ≡ p.back
  pub status : r.al_status < 32
  pub code : r.al_code < 65536
  pub refused : (registers_seen r).refused ≡ None
  pub state : ((registers_seen r).state ≡ 1) ⊎ ((7 < n) × ((registers_seen r).state ≡ p.start))
  pub word : (w : ℕ × Bool) → (registers_seen r).control ≡ Some w → (w ≡ (p.start, false)) × (7 < n)
  pub called : (r.station ≡ 0) ⊎ (r.station ≡ p.station)
  pub station : 3 < n → r.station ≡ p.station
  pub first : 6 < n → is_right 4096 38 r.out_manager ≡ true
  pub second : 7 < n → is_right 6144 34 r.in_manager ≡ true

-- a frame at it: the one datagram that means it, if any does, is the access in hand
abbrev pub AtMostOne : Plan → ℕ → Esc.Registers → List Raw.Datagram → Type 0
AtMostOne p n r [] = ⊤
AtMostOne p n r (d ∷ ds) =
    ((means r.station d.head ≡ false) × AtMostOne p n (passed r d).registers ds)
    ⊎ ((IsAccess p n d) × (means r.station d.head ≡ true) × NoneMeant (passed r d).registers ds)

-- a frame in which it meets the access in hand
abbrev pub JustOne : Plan → ℕ → Esc.Registers → List Raw.Datagram → Type 0
JustOne p n r [] = ⊥
JustOne p n r (d ∷ ds) =
    ((means r.station d.head ≡ false) × JustOne p n (passed r d).registers ds)
    ⊎ ((IsAccess p n d) × (means r.station d.head ≡ true) × NoneMeant (passed r d).registers ds)

-- the accesses of a bring-up
pub data IsBring : ℕ → Type 0 where
  address : IsBring 3
  out_on : IsBring 6
  in_on : IsBring 7
  word : IsBring 8
  status : IsBring 9

-- a slave that was just opened: open, its link new, in the state that is opened, without an error; a word that waits asks for that state
pub record IsOpened {S : Type 0} (lens : ℕ → Lens) (p : Plan) (r : Esc.Registers) (k : Kept) (s : S) : Type 0 where
  pub opens : IsOpen lens r
  pub station : r.station ≡ p.station
  pub node : node_of k r s ≡ (new_link s).node
  pub stands : Stands (in_side k r)
  pub state : (registers_seen r).state ≡ p.start
  pub refused : (registers_seen r).refused ≡ None
  pub word : (w : ℕ × Bool) → (registers_seen r).control ≡ Some w → w ≡ (p.start, false)
