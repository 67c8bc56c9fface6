use Rattle.std.specs.Prelude.{◌≡◌, ℕ, Bool, true, false, ◌+◌, ◌%◌, ◌==◌, ◌&&◌, ◌||◌, not, if◌then◌else◌, List, [], ◌∷◌, ◌++◌, length, slice_index, Option, Some, None, is_some, unwrap_or}
use Rattle.byteorder.specs.Endian.{little_bytes}
use Rattle.datagrams.specs.of_ec_fields.Fields.{number_at}
use Rattle.datagrams.specs.declared.command.Command.{Command}
use Rattle.datagrams.specs.declared.command.Command.TheVariants.{Aprd, Apwr, Aprw, Fprd, Fpwr, Fprw}
use Rattle.datagrams.specs.declared.head.Head.{Head}
use Rattle.esc_registers.specs.declared.manager.Manager.{Manager}
use Rattle.esc_registers.specs.declared.registers.Registers.{Registers}
use Rattle.esc_registers.specs.declared.row.Mailbox.{Mailbox}
use Rattle.esc_registers.specs.declared.row.Mailbox.TheVariants.{Outward, Inward}
use Rattle.esc_registers.specs.declared.row.Row.{Row}
use Rattle.esc_registers.specs.declared.row.Row.TheVariants.{Station, AlControl, AlStatus, AlStatusAndCode, AlStatusCode, Whole, Status, Activate, PdiControl, OutArea, InArea}
use Rattle.esc_registers.specs.Manager.{status_of, pdi_control_of, manager_text, is_right, activated, manager_written}

-- commands 1, 3, 4 and 6
abbrev pub reads : Command → Bool
reads Aprd = true
reads Aprw = true
reads Fprd = true
reads Fprw = true
reads _ = false

-- commands 2, 3, 5 and 6
abbrev pub writes : Command → Bool
writes Apwr = true
writes Aprw = true
writes Fpwr = true
writes Fprw = true
writes _ = false

-- commands 1 to 3 mean a slave by its place in the ring
abbrev pub is_by_place : Command → Bool
is_by_place Aprd = true
is_by_place Apwr = true
is_by_place Aprw = true
is_by_place _ = false

-- commands 4 to 6 mean a slave by its station address
abbrev pub is_by_station : Command → Bool
is_by_station Fprd = true
is_by_station Fpwr = true
is_by_station Fprw = true
is_by_station _ = false

-- the row of an address and a length
abbrev pub row_of : Registers → ℕ → ℕ → Option Row
row_of r ado len =
    if ado == 16 && len == 2 then Some Station
    else if ado == 288 && len == 2 then Some AlControl
    else if ado == 304 && len == 2 then Some AlStatus
    else if ado == 304 && len == 6 then Some AlStatusAndCode
    else if ado == 308 && len == 2 then Some AlStatusCode
    else if ado == 2048 && len == 8 then Some (Whole Outward)
    else if ado == 2056 && len == 8 then Some (Whole Inward)
    else if ado == 2053 && len == 1 then Some (Status Outward)
    else if ado == 2061 && len == 1 then Some (Status Inward)
    else if ado == 2054 && len == 1 then Some (Activate Outward)
    else if ado == 2062 && len == 1 then Some (Activate Inward)
    else if ado == 2055 && len == 1 then Some (PdiControl Outward)
    else if ado == 2063 && len == 1 then Some (PdiControl Inward)
    else if ado == 4096 && len == length r.out_manager.area then Some OutArea
    else if ado == 6144 && len == length r.in_manager.area then Some InArea
    else None

-- how many octets an access of a row has
abbrev pub row_len : Registers → Row → ℕ
row_len r Station = 2
row_len r AlControl = 2
row_len r AlStatus = 2
row_len r AlStatusAndCode = 6
row_len r AlStatusCode = 2
row_len r (Whole mailbox) = 8
row_len r (Status mailbox) = 1
row_len r (Activate mailbox) = 1
row_len r (PdiControl mailbox) = 1
row_len r OutArea = length r.out_manager.area
row_len r InArea = length r.in_manager.area

-- the two mailbox rows
abbrev pub is_area : Row → Bool
is_area OutArea = true
is_area InArea = true
is_area _ = false

-- a sync manager of the registers
abbrev pub manager_of : Registers → Mailbox → Manager
manager_of r Outward = r.out_manager
manager_of r Inward = r.in_manager

-- the registers with another manager
abbrev pub with_manager : Registers → Mailbox → Manager → Registers
with_manager r Outward m = record r { out_manager = m }
with_manager r Inward m = record r { in_manager = m }

-- the octets that a read of a row gives, where it is done: the area of mailbox 1 only where its manager
-- is right and it is full, that of mailbox 0 never
abbrev pub read_row : Registers → Row → Option (List ℕ)
read_row r Station = Some (little_bytes 2 r.station)
read_row r AlControl = Some (little_bytes 2 r.al_control)
read_row r AlStatus = Some (little_bytes 2 r.al_status)
read_row r AlStatusAndCode = Some (little_bytes 2 r.al_status ++ (0 ∷ 0 ∷ little_bytes 2 r.al_code))
read_row r AlStatusCode = Some (little_bytes 2 r.al_code)
read_row r (Whole mailbox) = Some (manager_text (manager_of r mailbox))
read_row r (Status mailbox) = Some (status_of (manager_of r mailbox) ∷ [])
read_row r (Activate mailbox) = Some ((manager_of r mailbox).activate ∷ [])
read_row r (PdiControl mailbox) = Some (pdi_control_of (manager_of r mailbox) ∷ [])
read_row r OutArea = None
read_row r InArea = if is_right 6144 34 r.in_manager && r.in_manager.full then Some r.in_manager.area else None

-- the registers behind a read that was done: that of mailbox 1 empties it
abbrev pub behind_read : Registers → Row → Registers
behind_read r InArea = record r { in_manager = record r.in_manager { full = false } }
behind_read r _ = r

-- the registers behind a write of a row, where it is done: the area of mailbox 0 only where its manager
-- is right and it isn't full
abbrev pub write_row : Registers → Row → List ℕ → Option Registers
write_row r Station octets = Some (record r { station = number_at 2 octets 0 })
write_row r AlControl octets = Some (record r { al_control = number_at 2 octets 0; unhandled = true })
write_row r AlStatus octets = None
write_row r AlStatusAndCode octets = None
write_row r AlStatusCode octets = None
write_row r (Whole mailbox) octets = Some (with_manager r mailbox (manager_written (manager_of r mailbox) octets))
write_row r (Status mailbox) octets = None
write_row r (Activate mailbox) octets = Some (with_manager r mailbox (activated (manager_of r mailbox) (slice_index octets 0)))
write_row r (PdiControl mailbox) octets = None
write_row r OutArea octets =
    if is_right 4096 38 r.out_manager && not r.out_manager.full
    then Some (record r { out_manager = record r.out_manager { area = octets; full = true } }) else None
write_row r InArea octets = None

-- what an access leaves: the registers, the body, and what it adds to the working counter
pub record Accessed : Type 0 where
  pub registers : Registers
  pub body : List ℕ
  pub added : ℕ

-- an access of a row that reads, writes or both: it reads first, and each part is done or not by itself.
-- A read adds 1, a write 1, or 2 where the command reads too; it writes the octets that came
abbrev pub accessed : Registers → Row → Bool → Bool → List ℕ → Accessed
accessed r row reading writing body =
    let read = if reading then read_row r row else None in
    let behind = if is_some read then behind_read r row else r in
    let written = if writing then write_row behind row body else None in
    record {
      registers = unwrap_or written behind;
      body = unwrap_or read body;
      added = (if is_some read then 1 else 0) + (if is_some written then (if reading then 2 else 1) else 0);
    }

-- the slave is meant by its place, or by its station
abbrev pub is_meant : Registers → Head → Bool
is_meant r h = if is_by_place h.command then h.adp == 0 else is_by_station h.command && h.adp == r.station

-- the slave is meant, or counts its place: all other datagrams leave it, and it them, as they are
abbrev pub is_concerned : Registers → Head → Bool
is_concerned r h = is_by_place h.command || is_meant r h

-- the head on its way on: every slave counts the place of commands 1 to 3
abbrev pub moved_on : Head → Head
moved_on h = if is_by_place h.command then record h { adp = (h.adp + 1) % 65536 } else h

-- what a datagram leaves behind a slave: its registers, and the datagram's head and body
pub record Passed : Type 0 where
  pub registers : Registers
  pub head : Head
  pub body : List ℕ

-- a datagram that found its row
abbrev pub passed_by : Head → Accessed → Passed
passed_by h a = record {
  registers = a.registers;
  head = record (moved_on h) { counter = (h.counter + a.added) % 65536 };
  body = a.body;
}

-- a datagram with the row that it means, or with none
abbrev pub passed_at : Registers → Head → List ℕ → Option Row → Passed
passed_at r h body None = record { registers = r; head = moved_on h; body = body }
passed_at r h body (Some row) = passed_by h (accessed r row (reads h.command) (writes h.command) body)

-- the register access table
abbrev pub access : Registers → Head → List ℕ → Passed
access r h body = passed_at r h body (if is_meant r h then row_of r h.ado (length body) else None)

-- both areas keep their lengths
pub record KeepsLengths (old new : Registers) : Type 0 where
  pub outward : length new.out_manager.area ≡ length old.out_manager.area
  pub inward : length new.in_manager.area ≡ length old.in_manager.area
