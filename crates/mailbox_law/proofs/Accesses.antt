-- What the datagrams of a link do to the registers of a slave that is brought up.
use Rattle.std.proofs.Common.{◌≡◌, ℕ, ◌+◌, ◌*◌, ◌≤◌, ◌==◌, Bool, true, false, not, ◌&&◌, Option, Some, None, List, [], ◌∷◌, length, arith, refl, ap, sym, ◌∙◌, if◌then◌else◌, replicate, is_some, unwrap_or, length-append, ◌-◌}
use Rattle.std.proofs.lemmas.List.{length-replicate}
use Rattle.std.proofs.Math.Bool.{and-true}
use Rattle.std.proofs.lemmas.Bool.{and_parts, and_from, and_right, eq-eqb, cond-true, cond-false}
use Rattle.mailbox_master.specs.of_mailbox_mail.declared.mail.Mail.{Mail}
use Rattle.mailbox_master.specs.of_mailbox_mail.Area.{mail_area}
use Rattle.al_state.specs.of_datagrams.declared.head.Head.{Head}
use Rattle.mailbox_slave.specs.of_esc_registers.declared.registers.Registers.{Registers}
use Rattle.mailbox_slave.specs.of_esc_registers.declared.row.Row.{Row}
use Rattle.mailbox_slave.specs.of_esc_registers.declared.row.Row.TheVariants.{OutArea, InArea, Activate, PdiControl}
use Rattle.mailbox_slave.specs.of_esc_registers.declared.row.Mailbox.TheVariants.{Inward}
use Rattle.mailbox_slave.specs.of_esc_registers.Registers.{are_areas_right}
use Rattle.mailbox_slave.specs.of_esc_registers.Manager.{is_right, is_enabled}
use Rattle.mailbox_slave.specs.of_esc_registers.Access.{Passed, passed_at, passed_by, row_of, is_meant, is_by_place, is_by_station, write_row, read_row}
use Rattle.mailbox_master.specs.Access.{Access, access_head, write_access, read_access, request_access, acknowledge_access}
use Rattle.mailbox_master.specs.Halves.{bit_number}
use Rattle.mailbox_law.specs.Wire.{met_by}

-- an access by this station means the slave
meant : (r : Registers) (station : ℕ) (a : Access) → is_by_place a.command ≡ false → is_by_station a.command ≡ true → r.station ≡ station → is_meant r (access_head station 0 a) ≡ true
meant r station a place by e = cond-false (is_by_place a.command) (station == 0) (is_by_station a.command && station == r.station) place ∙ and_from (is_by_station a.command) (station == r.station) by (eq-eqb station r.station (sym e))

-- both managers are right
right_out : (r : Registers) → are_areas_right r ≡ true → is_right 4096 38 r.out_manager ≡ true
right_out r e = (and_parts (is_right 4096 38 r.out_manager) (is_right 6144 34 r.in_manager) e).0

right_in : (r : Registers) → are_areas_right r ≡ true → is_right 6144 34 r.in_manager ≡ true
right_in r e = (and_parts (is_right 4096 38 r.out_manager) (is_right 6144 34 r.in_manager) e).1

pub enabled_in : (r : Registers) → are_areas_right r ≡ true → is_enabled r.in_manager.activate ≡ true
enabled_in r e = (and_parts ((r.in_manager.start == 6144 && r.in_manager.length == length r.in_manager.area) && r.in_manager.control == 34) (is_enabled r.in_manager.activate) (right_in r e)).1

-- the row that an access of the link means
passes : (r : Registers) (station : ℕ) (a : Access) (row : Row) → is_by_place a.command ≡ false → is_by_station a.command ≡ true → r.station ≡ station → row_of r a.register (length a.octets) ≡ Some row → met_by r station a ≡ passed_at r (access_head station 0 a) a.octets (Some row)
passes r station a row place by e f = ap (passed_at r (access_head station 0 a) a.octets) (cond-true (is_meant r (access_head station 0 a)) (row_of r a.register (length a.octets)) None (meant r station a place by e) ∙ f)

out_row : (r : Registers) (len : ℕ) → len ≡ length r.out_manager.area → row_of r 4096 len ≡ Some OutArea
out_row r len e = cond-true (len == length r.out_manager.area) (Some OutArea) (if 4096 == 6144 && len == length r.in_manager.area then Some InArea else None) (eq-eqb len (length r.out_manager.area) e)

in_row : (r : Registers) (len : ℕ) → len ≡ length r.in_manager.area → row_of r 6144 len ≡ Some InArea
in_row r len e = cond-true (len == length r.in_manager.area) (Some InArea) None (eq-eqb len (length r.in_manager.area) e)

-- an area with a mail has its length
pub length-mail_area : (len : ℕ) (m : Mail) → 6 + length m.body.items ≤ len → length (mail_area len m) ≡ len
length-mail_area len m e =
    let k : ℕ = len - (6 + length m.body.items) in
    omega (arith, length-append m.body.items (replicate k 0), length-replicate {A = ℕ} k 0)

-- a datagram that writes a row, and one that reads it
abbrev write_leaves : Registers → Head → List ℕ → Option Registers → Passed
write_leaves r h octets w = passed_by h (record { registers = unwrap_or w r; body = octets; added = 0 + (if is_some w then 1 else 0) })

-- mailbox 0 was empty
pub write_empty : (r : Registers) (station len : ℕ) (m : Mail) → r.station ≡ station → are_areas_right r ≡ true → length (mail_area len m) ≡ length r.out_manager.area → r.out_manager.full ≡ false → met_by r station (write_access len m) ≡ record { registers = record r { out_manager = record r.out_manager { area = mail_area len m; full = true } }; head = record (access_head station 0 (write_access len m)) { counter = 1 }; body = mail_area len m }
write_empty r station len m s right l empty =
    let h = access_head station 0 (write_access len m) in
    let octets = mail_area len m in
    let done : write_row r OutArea octets ≡ Some (record r { out_manager = record r.out_manager { area = octets; full = true } }) = cond-true (is_right 4096 38 r.out_manager && not r.out_manager.full) (Some (record r { out_manager = record r.out_manager { area = octets; full = true } })) None (and_from (is_right 4096 38 r.out_manager) (not r.out_manager.full) (right_out r right) (ap not empty)) in
    passes r station (write_access len m) OutArea refl refl s (out_row r (length octets) l) ∙ ap (write_leaves r h octets) done

-- mailbox 0 was full
pub write_full : (r : Registers) (station len : ℕ) (m : Mail) → r.station ≡ station → length (mail_area len m) ≡ length r.out_manager.area → r.out_manager.full ≡ true → met_by r station (write_access len m) ≡ record { registers = r; head = access_head station 0 (write_access len m); body = mail_area len m }
write_full r station len m s l full =
    let h = access_head station 0 (write_access len m) in
    let octets = mail_area len m in
    let done : write_row r OutArea octets ≡ None = cond-false (is_right 4096 38 r.out_manager && not r.out_manager.full) (Some (record r { out_manager = record r.out_manager { area = octets; full = true } })) None (and_right (is_right 4096 38 r.out_manager) (not r.out_manager.full) (ap not full)) in
    passes r station (write_access len m) OutArea refl refl s (out_row r (length octets) l) ∙ ap (write_leaves r h octets) done

abbrev read_leaves : Registers → Head → List ℕ → Option (List ℕ) → Passed
read_leaves r h octets x = passed_by h (record { registers = if is_some x then record r { in_manager = record r.in_manager { full = false } } else r; body = unwrap_or x octets; added = (if is_some x then 1 else 0) + 0 })

-- mailbox 1 was full
pub read_full : (r : Registers) (station len : ℕ) → r.station ≡ station → are_areas_right r ≡ true → len ≡ length r.in_manager.area → r.in_manager.full ≡ true → met_by r station (read_access len) ≡ record { registers = record r { in_manager = record r.in_manager { full = false } }; head = record (access_head station 0 (read_access len)) { counter = 1 }; body = r.in_manager.area }
read_full r station len s right l full =
    let h = access_head station 0 (read_access len) in
    let octets = replicate len 0 in
    let done : read_row r InArea ≡ Some r.in_manager.area = cond-true (is_right 6144 34 r.in_manager && r.in_manager.full) (Some r.in_manager.area) None (and_from (is_right 6144 34 r.in_manager) r.in_manager.full (right_in r right) full) in
    passes r station (read_access len) InArea refl refl s (in_row r (length octets) (length-replicate len 0 ∙ l)) ∙ ap (read_leaves r h octets) done

-- mailbox 1 was empty
pub read_empty : (r : Registers) (station len : ℕ) → r.station ≡ station → len ≡ length r.in_manager.area → r.in_manager.full ≡ false → met_by r station (read_access len) ≡ record { registers = r; head = access_head station 0 (read_access len); body = replicate len 0 }
read_empty r station len s l empty =
    let h = access_head station 0 (read_access len) in
    let octets = replicate len 0 in
    let done : read_row r InArea ≡ None = cond-false (is_right 6144 34 r.in_manager && r.in_manager.full) (Some r.in_manager.area) None (and_right (is_right 6144 34 r.in_manager) r.in_manager.full empty) in
    passes r station (read_access len) InArea refl refl s (in_row r (length octets) (length-replicate len 0 ∙ l)) ∙ ap (read_leaves r h octets) done

abbrev request_leaves : Registers → ℕ → Bool → Bool → Passed
request_leaves r station bit full = passed_by (access_head station 0 (request_access bit)) (record { registers = record r { in_manager = record r.in_manager { activate = 1 + 2 * bit_number bit; full = full } }; body = (1 + 2 * bit_number bit) ∷ []; added = 1 })

stays_full : (r : Registers) → are_areas_right r ≡ true → (r.in_manager.full && is_enabled r.in_manager.activate) ≡ r.in_manager.full
stays_full r right = ap (λ b. r.in_manager.full && b) (enabled_in r right) ∙ and-true r.in_manager.full

-- the repeat request is written, and enable stays
pub request_written : (r : Registers) (station : ℕ) (bit : Bool) → r.station ≡ station → are_areas_right r ≡ true → met_by r station (request_access bit) ≡ record { registers = record r { in_manager = record r.in_manager { activate = 1 + 2 * bit_number bit } }; head = record (access_head station 0 (request_access bit)) { counter = 1 }; body = (1 + 2 * bit_number bit) ∷ [] }
request_written r station true s right = passes r station (request_access true) (Activate Inward) refl refl s refl ∙ ap (request_leaves r station true) (stays_full r right)
request_written r station false s right = passes r station (request_access false) (Activate Inward) refl refl s refl ∙ ap (request_leaves r station false) (stays_full r right)

-- the acknowledge is read
pub acknowledge_read : (r : Registers) (station : ℕ) → r.station ≡ station → met_by r station acknowledge_access ≡ record { registers = r; head = record (access_head station 0 acknowledge_access) { counter = 1 }; body = (if r.in_manager.acknowledge then 2 else 0) ∷ [] }
acknowledge_read r station s = passes r station acknowledge_access (PdiControl Inward) refl refl s refl
