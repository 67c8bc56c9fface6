-- Reads by station, at an open slave.
use Rattle.std.proofs.Common.{◌≡◌, ℕ, ◌+◌, ◌%◌, ◌<◌, ◌==◌, ◌&&◌, Bool, true, false, [], ◌∷◌, length, refl, sym, ◌∙◌}
use Rattle.std.specs.Prelude.{if◌then◌else◌, slice_index}
use Rattle.std.proofs.lemmas.Bool.{eq-eqb, and_parts}
use Rattle.std.proofs.Math.Bool.{and-true}
use Rattle.slave_node.specs.of_datagrams.declared.command.Command.TheVariants.{Fprd, Fpwr}
use Rattle.slave_node.specs.of_datagrams.declared.command.Command.{Command}
use Rattle.slave_node.specs.of_datagrams.Datagram as Raw
use Rattle.slave_node.specs.of_esc_registers.declared.registers.Registers.{Registers}
use Rattle.slave_node.specs.of_esc_registers.Access.{Passed}
use Rattle.slave_node.specs.of_esc_registers.Manager.{is_right, is_enabled}
use Rattle.slave_node.specs.of_esc_registers.Registers.{are_areas_right}
use Rattle.slave_node.specs.Passing.{passed}
use Rattle.frame_view.specs.of_link_mails.Body.{Body, bit_1}
use Rattle.slave_node.specs.of_mailbox_slave.Kept.{Kept}
use Rattle.frame_view.specs.of_segment_model.Slaves.{Serving}
use Rattle.frame_view.specs.View.{Lens}
use Rattle.frames_seen.specs.Slaves.{IsOpen}
use Rattle.frames_seen.specs.Met.{IsMet}
use Rattle.frames_seen.proofs.Others.{met_as}
use Rattle.frames_seen.proofs.Numbers.{counted_some, counted_not, same_number}

-- a datagram with another command, ADP and ADO
abbrev pub aimed : Raw.Datagram → Command → ℕ → ℕ → Raw.Datagram
aimed d c adp ado = record d { head = record d.head { command = c; adp = adp; ado = ado } }

pub right_out : (r : Registers) → are_areas_right r ≡ true → is_right 4096 38 r.out_manager ≡ true
right_out r e = (and_parts (is_right 4096 38 r.out_manager) (is_right 6144 34 r.in_manager) e).0

pub right_in : (r : Registers) → are_areas_right r ≡ true → is_right 6144 34 r.in_manager ≡ true
right_in r e = (and_parts (is_right 4096 38 r.out_manager) (is_right 6144 34 r.in_manager) e).1

-- mailbox 1 is read where it is full
pub read_full : {V : Type 0} (lens : ℕ → Lens) (r : Registers) (k : Kept) (v : Serving V Body) (d : Raw.Datagram) → IsOpen lens r → d.head.counter + 1 < 65536 →
    length d.body ≡ length r.in_manager.area → r.in_manager.full ≡ true → IsMet lens r k v (aimed d Fprd r.station 6144)
read_full lens r k v d open_ room long full =
    let e = aimed d Fprd r.station 6144 in
    let here = same_number r.station in
    let same : (length d.body == length r.in_manager.area) ≡ true = eq-eqb (length d.body) (length r.in_manager.area) long in
    let right = right_in r open_.right in
    let p : Passed = record { registers = record r { in_manager = record r.in_manager { full = false } }; head = record e.head { counter = (d.head.counter + 1) % 65536 }; body = r.in_manager.area } in
    let met : passed r e ≡ p = rw (here, same, right, full) refl in
    let mine : (length r.in_manager.area == (lens r.station).back) ≡ true = eq-eqb (length r.in_manager.area) (lens r.station).back (sym open_.back) in
    let asked : (length d.body == (lens r.station).back) ≡ true = eq-eqb (length d.body) (lens r.station).back (long ∙ sym open_.back) in
    let mail = (open_.reads full).1 in
    let some_ = counted_some d.head.counter room in
    met_as lens r k v e p met (record {
      datagram = rw (mine, asked, here, full, mail, some_) refl;
      slave = rw (asked, here) refl;
      stays = record { out = open_.out; back = open_.back; right = open_.right; status = open_.status; code = open_.code; reads = λ no. absurd (cc) };
      station = refl;
    })

-- and is left where it is empty
pub read_empty : {V : Type 0} (lens : ℕ → Lens) (r : Registers) (k : Kept) (v : Serving V Body) (d : Raw.Datagram) → IsOpen lens r → d.head.counter + 1 < 65536 →
    length d.body ≡ length r.in_manager.area → r.in_manager.full ≡ false → IsMet lens r k v (aimed d Fprd r.station 6144)
read_empty lens r k v d open_ room long empty =
    let e = aimed d Fprd r.station 6144 in
    let here = same_number r.station in
    let same : (length d.body == length r.in_manager.area) ≡ true = eq-eqb (length d.body) (length r.in_manager.area) long in
    let right = right_in r open_.right in
    let none = counted_not d.head.counter room in
    let p : Passed = record { registers = r; head = e.head; body = d.body } in
    let met : passed r e ≡ p = rw (here, same, right, empty, none) refl in
    let asked : (length d.body == (lens r.station).back) ≡ true = eq-eqb (length d.body) (lens r.station).back (long ∙ sym open_.back) in
    met_as lens r k v e p met (record {
      datagram = rw (asked, here, empty) refl;
      slave = rw (asked, here, empty) refl;
      stays = open_;
      station = refl;
    })

-- the acknowledge is read
ack_shown : (b : Bool) → bit_1 (if b then 2 else 0) ≡ b
ack_shown true = refl
ack_shown false = refl

pub read_acknowledge : {V : Type 0} (lens : ℕ → Lens) (r : Registers) (k : Kept) (v : Serving V Body) (d : Raw.Datagram) → IsOpen lens r →
    length d.body ≡ 1 → IsMet lens r k v (aimed d Fprd r.station 2063)
read_acknowledge lens r k v d open_ long =
    let e = aimed d Fprd r.station 2063 in
    let here = same_number r.station in
    let one : (length d.body == 1) ≡ true = eq-eqb (length d.body) 1 long in
    let p : Passed = record { registers = r; head = record e.head { counter = (d.head.counter + 1) % 65536 }; body = (if r.in_manager.acknowledge then 2 else 0) ∷ [] } in
    let met : passed r e ≡ p = rw (here, one) refl in
    let shown = ack_shown r.in_manager.acknowledge in
    met_as lens r k v e p met (record {
      datagram = rw (one, here, shown) refl;
      slave = rw (one, here) refl;
      stays = open_;
      station = refl;
    })

-- mailbox 0 is written where it is empty
pub write_empty : {V : Type 0} (lens : ℕ → Lens) (r : Registers) (k : Kept) (v : Serving V Body) (d : Raw.Datagram) → IsOpen lens r →
    length d.body ≡ length r.out_manager.area → r.out_manager.full ≡ false → IsMet lens r k v (aimed d Fpwr r.station 4096)
write_empty lens r k v d open_ long empty =
    let e = aimed d Fpwr r.station 4096 in
    let here = same_number r.station in
    let same : (length d.body == length r.out_manager.area) ≡ true = eq-eqb (length d.body) (length r.out_manager.area) long in
    let right = right_out r open_.right in
    let p : Passed = record { registers = record r { out_manager = record r.out_manager { area = d.body; full = true } }; head = record e.head { counter = (d.head.counter + 1) % 65536 }; body = d.body } in
    let met : passed r e ≡ p = rw (here, same, right, empty) refl in
    let asked : (length d.body == (lens r.station).out) ≡ true = eq-eqb (length d.body) (lens r.station).out (long ∙ sym open_.out) in
    met_as lens r k v e p met (record {
      datagram = rw (asked, here, empty) refl;
      slave = rw (asked, here, empty) (rw long refl);
      stays = record { out = open_.out ∙ sym long; back = open_.back; right = rw long open_.right; status = open_.status; code = open_.code; reads = open_.reads };
      station = refl;
    })

-- and is left where it is full
pub write_full : {V : Type 0} (lens : ℕ → Lens) (r : Registers) (k : Kept) (v : Serving V Body) (d : Raw.Datagram) → IsOpen lens r → d.head.counter + 1 < 65536 →
    length d.body ≡ length r.out_manager.area → r.out_manager.full ≡ true → IsMet lens r k v (aimed d Fpwr r.station 4096)
write_full lens r k v d open_ room long full =
    let e = aimed d Fpwr r.station 4096 in
    let here = same_number r.station in
    let same : (length d.body == length r.out_manager.area) ≡ true = eq-eqb (length d.body) (length r.out_manager.area) long in
    let right = right_out r open_.right in
    let none = counted_not d.head.counter room in
    let p : Passed = record { registers = r; head = e.head; body = d.body } in
    let met : passed r e ≡ p = rw (here, same, right, full, none) refl in
    let asked : (length d.body == (lens r.station).out) ≡ true = eq-eqb (length d.body) (lens r.station).out (long ∙ sym open_.out) in
    met_as lens r k v e p met (record {
      datagram = rw (asked, here, full) refl;
      slave = rw (asked, here, full) refl;
      stays = open_;
      station = refl;
    })

-- the repeat request is written, and enable stays
enabled_in : (r : Registers) → are_areas_right r ≡ true → is_enabled r.in_manager.activate ≡ true
enabled_in r e = (and_parts ((r.in_manager.start == 6144 && r.in_manager.length == length r.in_manager.area) && r.in_manager.control == 34) (is_enabled r.in_manager.activate) (right_in r e)).1

pub write_request : {V : Type 0} (lens : ℕ → Lens) (r : Registers) (k : Kept) (v : Serving V Body) (d : Raw.Datagram) → IsOpen lens r →
    length d.body ≡ 1 → is_enabled (slice_index d.body 0) ≡ true → IsMet lens r k v (aimed d Fpwr r.station 2062)
write_request lens r k v d open_ long on =
    let e = aimed d Fpwr r.station 2062 in
    let here = same_number r.station in
    let one : (length d.body == 1) ≡ true = eq-eqb (length d.body) 1 long in
    let was = enabled_in r open_.right in
    let full = and-true r.in_manager.full in
    let p : Passed = record { registers = record r { in_manager = record r.in_manager { activate = slice_index d.body 0 } }; head = record e.head { counter = (d.head.counter + 1) % 65536 }; body = d.body } in
    let met : passed r e ≡ p = rw (here, one, on, was, full) refl in
    met_as lens r k v e p met (record {
      datagram = rw (one, here) refl;
      slave = rw (one, here) (rw (on, was) refl);
      stays = record { out = open_.out; back = open_.back; right = rw on (rw was at open_.right); status = open_.status; code = open_.code; reads = open_.reads };
      station = refl;
    })
