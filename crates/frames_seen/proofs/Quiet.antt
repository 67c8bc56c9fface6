-- Datagrams that change nothing at an open slave.
use Rattle.std.proofs.Common.{◌≡◌, ℕ, ◌+◌, ◌%◌, ◌==◌, ◌&&◌, Bool, true, false, List, length, refl, ap, ap₂}
use Rattle.std.specs.Prelude.{if◌then◌else◌, Option, Some, None}
use Rattle.slave_node.specs.of_datagrams.declared.command.Command.TheVariants.{Aprd, Apwr, Fprd, Fpwr}
use Rattle.slave_node.specs.of_datagrams.Datagram as Raw
use Rattle.slave_node.specs.of_esc_registers.declared.registers.Registers.{Registers}
use Rattle.slave_node.specs.of_esc_registers.declared.row.Row.{Row}
use Rattle.slave_node.specs.of_esc_registers.declared.row.Row.TheVariants.{Station, AlControl, AlStatus, AlStatusAndCode, AlStatusCode, Whole, Status, Activate, PdiControl, OutArea, InArea}
use Rattle.slave_node.specs.of_esc_registers.declared.row.Mailbox.TheVariants.{Outward, Inward}
use Rattle.slave_node.specs.of_esc_registers.Access.{accessed, passed_by, row_of}
use Rattle.frame_view.specs.of_link_model.Frames.{Ask}
use Rattle.frame_view.specs.of_link_mails.Body.{Body}
use Rattle.slave_node.specs.of_mailbox_slave.Kept.{Kept}
use Rattle.frame_view.specs.of_segment_model.Slaves.{Serving, Address, Access}
use Rattle.frame_view.specs.View.{Lens, asking, read_ask, read_access, write_ask, write_access}
use Rattle.frames_seen.specs.Slaves.{IsOpen}
use Rattle.frames_seen.specs.Met.{IsMet}
use Rattle.frames_seen.proofs.Boxes.{aimed}
use Rattle.frames_seen.proofs.Others.{quiet_case}
use Rattle.frames_seen.proofs.Numbers.{same_number}

-- a row whose read changes nothing
abbrev is_quiet : Option Row → Bool
is_quiet None = true
is_quiet (Some InArea) = false
is_quiet (Some row) = true

record Quiet (row : Option Row) : Type 0 where
  quiet : is_quiet row ≡ true

quiet_if : (b : Bool) (x y : Option Row) → is_quiet x ≡ true → Quiet y → Quiet (if b then x else y)
quiet_if b x y p q = go b
  where
    go : (c : Bool) → Quiet (if c then x else y)
    go true = record { quiet = p }
    go false = q

module _ (r : Registers) (ado len : ℕ) (other : (ado == 6144) ≡ false) where
  abbrev row_14 : Option Row
  row_14 = if ado == 6144 && len == length r.in_manager.area then Some InArea else None

  quiet_14 : Quiet row_14
  quiet_14 = rw other (record { quiet = refl })

  abbrev row_13 : Option Row
  row_13 = if ado == 4096 && len == length r.out_manager.area then Some OutArea else row_14

  quiet_13 : Quiet row_13
  quiet_13 = quiet_if (ado == 4096 && len == length r.out_manager.area) (Some OutArea) row_14 refl quiet_14

  abbrev row_12 : Option Row
  row_12 = if ado == 2063 && len == 1 then Some (PdiControl Inward) else row_13

  quiet_12 : Quiet row_12
  quiet_12 = quiet_if (ado == 2063 && len == 1) (Some (PdiControl Inward)) row_13 refl quiet_13

  abbrev row_11 : Option Row
  row_11 = if ado == 2055 && len == 1 then Some (PdiControl Outward) else row_12

  quiet_11 : Quiet row_11
  quiet_11 = quiet_if (ado == 2055 && len == 1) (Some (PdiControl Outward)) row_12 refl quiet_12

  abbrev row_10 : Option Row
  row_10 = if ado == 2062 && len == 1 then Some (Activate Inward) else row_11

  quiet_10 : Quiet row_10
  quiet_10 = quiet_if (ado == 2062 && len == 1) (Some (Activate Inward)) row_11 refl quiet_11

  abbrev row_9 : Option Row
  row_9 = if ado == 2054 && len == 1 then Some (Activate Outward) else row_10

  quiet_9 : Quiet row_9
  quiet_9 = quiet_if (ado == 2054 && len == 1) (Some (Activate Outward)) row_10 refl quiet_10

  abbrev row_8 : Option Row
  row_8 = if ado == 2061 && len == 1 then Some (Status Inward) else row_9

  quiet_8 : Quiet row_8
  quiet_8 = quiet_if (ado == 2061 && len == 1) (Some (Status Inward)) row_9 refl quiet_9

  abbrev row_7 : Option Row
  row_7 = if ado == 2053 && len == 1 then Some (Status Outward) else row_8

  quiet_7 : Quiet row_7
  quiet_7 = quiet_if (ado == 2053 && len == 1) (Some (Status Outward)) row_8 refl quiet_8

  abbrev row_6 : Option Row
  row_6 = if ado == 2056 && len == 8 then Some (Whole Inward) else row_7

  quiet_6 : Quiet row_6
  quiet_6 = quiet_if (ado == 2056 && len == 8) (Some (Whole Inward)) row_7 refl quiet_7

  abbrev row_5 : Option Row
  row_5 = if ado == 2048 && len == 8 then Some (Whole Outward) else row_6

  quiet_5 : Quiet row_5
  quiet_5 = quiet_if (ado == 2048 && len == 8) (Some (Whole Outward)) row_6 refl quiet_6

  abbrev row_4 : Option Row
  row_4 = if ado == 308 && len == 2 then Some AlStatusCode else row_5

  quiet_4 : Quiet row_4
  quiet_4 = quiet_if (ado == 308 && len == 2) (Some AlStatusCode) row_5 refl quiet_5

  abbrev row_3 : Option Row
  row_3 = if ado == 304 && len == 6 then Some AlStatusAndCode else row_4

  quiet_3 : Quiet row_3
  quiet_3 = quiet_if (ado == 304 && len == 6) (Some AlStatusAndCode) row_4 refl quiet_4

  abbrev row_2 : Option Row
  row_2 = if ado == 304 && len == 2 then Some AlStatus else row_3

  quiet_2 : Quiet row_2
  quiet_2 = quiet_if (ado == 304 && len == 2) (Some AlStatus) row_3 refl quiet_3

  abbrev row_1 : Option Row
  row_1 = if ado == 288 && len == 2 then Some AlControl else row_2

  quiet_1 : Quiet row_1
  quiet_1 = quiet_if (ado == 288 && len == 2) (Some AlControl) row_2 refl quiet_2

  abbrev row_0 : Option Row
  row_0 = if ado == 16 && len == 2 then Some Station else row_1

  quiet_0 : Quiet row_0
  quiet_0 = quiet_if (ado == 16 && len == 2) (Some Station) row_1 refl quiet_1

  quiet_row : Quiet (row_of r ado len)
  quiet_row = quiet_0

stays_read : (r : Registers) (row : Row) (body : List ℕ) → is_quiet (Some row) ≡ true → (accessed r row true false body).registers ≡ r
stays_read r Station body q = refl
stays_read r AlControl body q = refl
stays_read r AlStatus body q = refl
stays_read r AlStatusAndCode body q = refl
stays_read r AlStatusCode body q = refl
stays_read r (Whole mailbox) body q = refl
stays_read r (Status mailbox) body q = refl
stays_read r (Activate mailbox) body q = refl
stays_read r (PdiControl mailbox) body q = refl
stays_read r OutArea body q = refl
stays_read r InArea body q = absurd (cc)

module _ {V : Type 0} (lens : ℕ → Lens) (r : Registers) (k : Kept) (v : Serving V Body) (d : Raw.Datagram) (ado : ℕ) where
  -- a read by station whose register the session doesn't speak of
  read_row_quiet : (row : Option Row) → is_quiet row ≡ true → ((n : ℕ) → read_ask (lens r.station) ado n ≡ Ask.Other) → ((n : ℕ) → read_access ado n ≡ Access.Elsewhere) → IsOpen lens r →
      row_of r ado (length d.body) ≡ row → IsMet lens r k v (aimed d Fprd r.station ado)
  read_row_quiet None quiet asks accesses open_ is =
      let e = aimed d Fprd r.station ado in
      let here = same_number r.station in
      let seen = ap₂ (λ x y. asking x y r.station (Address.Station r.station) d.head.counter d.body) (asks (length d.body)) (accesses (length d.body)) in
      quiet_case lens r k v e (record { registers = r; head = e.head; body = d.body }) r.station (Address.Station r.station) d.head.counter d.head.counter d.body d.body
      (rw (here, is) refl) seen seen here refl open_
  read_row_quiet (Some row) quiet asks accesses open_ is =
      let e = aimed d Fprd r.station ado in
      let here = same_number r.station in
      let a = accessed r row true false d.body in
      quiet_case lens r k v e (passed_by e.head (accessed r row true false d.body)) r.station (Address.Station r.station) d.head.counter ((d.head.counter + a.added) % 65536) d.body a.body
      (rw (here, is) refl)
      (ap₂ (λ x y. asking x y r.station (Address.Station r.station) d.head.counter d.body) (asks (length d.body)) (accesses (length d.body)))
      (ap₂ (λ x y. asking x y r.station (Address.Station r.station) ((d.head.counter + a.added) % 65536) a.body) (asks (length a.body)) (accesses (length a.body)))
      here (stays_read r row d.body quiet) open_

  place_row_quiet : (row : Option Row) → is_quiet row ≡ true → ((n : ℕ) → read_access ado n ≡ Access.Elsewhere) → IsOpen lens r →
      row_of r ado (length d.body) ≡ row → IsMet lens r k v (aimed d Aprd 0 ado)
  place_row_quiet None quiet accesses open_ is =
      let e = aimed d Aprd 0 ado in
      let before = ap (λ y. asking Ask.Other y 0 (Address.Place 0) d.head.counter d.body) (accesses (length d.body)) in
      let after = ap (λ y. asking Ask.Other y 0 Address.Passed d.head.counter d.body) (accesses (length d.body)) in
      quiet_case lens r k v e (record { registers = r; head = record e.head { adp = 1 }; body = d.body }) 0 (Address.Place 0) d.head.counter d.head.counter d.body d.body
      (rw is refl) before after refl refl open_
  place_row_quiet (Some row) quiet accesses open_ is =
      let e = aimed d Aprd 0 ado in
      let a = accessed r row true false d.body in
      quiet_case lens r k v e (passed_by e.head (accessed r row true false d.body)) 0 (Address.Place 0) d.head.counter ((d.head.counter + a.added) % 65536) d.body a.body
      (rw is refl)
      (ap (λ y. asking Ask.Other y 0 (Address.Place 0) d.head.counter d.body) (accesses (length d.body)))
      (ap (λ y. asking Ask.Other y 0 Address.Passed ((d.head.counter + a.added) % 65536) a.body) (accesses (length a.body)))
      refl (stays_read r row d.body quiet) open_

  pub read_quiet : (ado == 6144) ≡ false → ((n : ℕ) → read_ask (lens r.station) ado n ≡ Ask.Other) → ((n : ℕ) → read_access ado n ≡ Access.Elsewhere) → IsOpen lens r → IsMet lens r k v (aimed d Fprd r.station ado)
  read_quiet other asks accesses open_ = read_row_quiet (row_of r ado (length d.body)) ((quiet_row r ado (length d.body) other).quiet) asks accesses open_ refl

  pub place_quiet : (ado == 6144) ≡ false → ((n : ℕ) → read_access ado n ≡ Access.Elsewhere) → IsOpen lens r → IsMet lens r k v (aimed d Aprd 0 ado)
  place_quiet other accesses open_ = place_row_quiet (row_of r ado (length d.body)) ((quiet_row r ado (length d.body) other).quiet) accesses open_ refl

  -- an access that finds no row, and is seen to ask nothing
  pub no_read : row_of r ado (length d.body) ≡ None → read_ask (lens r.station) ado (length d.body) ≡ Ask.Other → read_access ado (length d.body) ≡ Access.Elsewhere → IsOpen lens r → IsMet lens r k v (aimed d Fprd r.station ado)
  no_read is asks accesses open_ =
      let e = aimed d Fprd r.station ado in
      let here = same_number r.station in
      let seen = ap₂ (λ x y. asking x y r.station (Address.Station r.station) d.head.counter d.body) asks accesses in
      quiet_case lens r k v e (record { registers = r; head = e.head; body = d.body }) r.station (Address.Station r.station) d.head.counter d.head.counter d.body d.body
      (rw (here, is) refl) seen seen here refl open_

  pub no_write : row_of r ado (length d.body) ≡ None → write_ask (lens r.station) ado d.body ≡ Ask.Other → write_access (lens r.station) ado d.body ≡ Access.Elsewhere → IsOpen lens r → IsMet lens r k v (aimed d Fpwr r.station ado)
  no_write is asks accesses open_ =
      let e = aimed d Fpwr r.station ado in
      let here = same_number r.station in
      let seen = ap₂ (λ x y. asking x y r.station (Address.Station r.station) d.head.counter d.body) asks accesses in
      quiet_case lens r k v e (record { registers = r; head = e.head; body = d.body }) r.station (Address.Station r.station) d.head.counter d.head.counter d.body d.body
      (rw (here, is) refl) seen seen here refl open_

  pub no_place_read : row_of r ado (length d.body) ≡ None → read_access ado (length d.body) ≡ Access.Elsewhere → IsOpen lens r → IsMet lens r k v (aimed d Aprd 0 ado)
  no_place_read is accesses open_ =
      let e = aimed d Aprd 0 ado in
      quiet_case lens r k v e (record { registers = r; head = record e.head { adp = 1 }; body = d.body }) 0 (Address.Place 0) d.head.counter d.head.counter d.body d.body
      (rw is refl)
      (ap (λ y. asking Ask.Other y 0 (Address.Place 0) d.head.counter d.body) accesses)
      (ap (λ y. asking Ask.Other y 0 Address.Passed d.head.counter d.body) accesses)
      refl refl open_

  pub no_place_write : row_of r ado (length d.body) ≡ None → write_access (lens 0) ado d.body ≡ Access.Elsewhere → IsOpen lens r → IsMet lens r k v (aimed d Apwr 0 ado)
  no_place_write is accesses open_ =
      let e = aimed d Apwr 0 ado in
      quiet_case lens r k v e (record { registers = r; head = record e.head { adp = 1 }; body = d.body }) 0 (Address.Place 0) d.head.counter d.head.counter d.body d.body
      (rw is refl)
      (ap (λ y. asking Ask.Other y 0 (Address.Place 0) d.head.counter d.body) accesses)
      (ap (λ y. asking Ask.Other y 0 Address.Passed d.head.counter d.body) accesses)
      refl refl open_
