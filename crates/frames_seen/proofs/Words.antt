-- AL control, AL status and the status of mailbox 0, by station or by place, at an open slave.
use Rattle.std.proofs.Common.{◌≡◌, ℕ, ◌+◌, ◌%◌, ◌<◌, ◌==◌, not, Bool, true, false, [], ◌∷◌, ◌++◌, length, refl, ap, sym, arith}
use Rattle.std.specs.Prelude.{if◌then◌else◌, Option, Some, None, is_some}
use Rattle.std.proofs.lemmas.Bool.{lt-ltb}
use Rattle.byteorder.specs.Endian.{little_bytes}
use Rattle.frame_view.specs.of_ec_fields.Fields.{number_at, bits_of}
use Rattle.slave_node.specs.of_datagrams.declared.command.Command.TheVariants.{Aprd, Apwr, Fprd, Fpwr}
use Rattle.slave_node.specs.of_datagrams.Datagram as Raw
use Rattle.slave_node.specs.of_esc_registers.declared.registers.Registers.{Registers}
use Rattle.slave_node.specs.of_esc_registers.Access.{Passed}
use Rattle.slave_node.specs.of_esc_registers.Manager.{status_of}
use Rattle.slave_node.specs.Passing.{passed}
use Rattle.frame_view.specs.of_link_mails.Body.{Body}
use Rattle.slave_node.specs.of_mailbox_slave.Kept.{Kept}
use Rattle.frame_view.specs.of_segment_model.Slaves.{Serving, Address, Access, Found, found_met}
use Rattle.frame_view.specs.View.{Lens, found_of}
use Rattle.frames_seen.specs.Slaves.{slave_of, IsOpen}
use Rattle.frames_seen.specs.Met.{IsMet}
use Rattle.frames_seen.proofs.Boxes.{aimed}
use Rattle.frames_seen.proofs.Others.{register_case}
use Rattle.frames_seen.proofs.Numbers.{counted_is, counted_some, same_number, word_back, code_back}

state_finds : {V : Type 0} (lens : ℕ → Lens) (r : Registers) (k : Kept) (v : Serving V Body) (c : ℕ) (old : Option Found) → IsOpen lens r → c + 1 < 65536 →
    found_met (slave_of k r v) old Access.ReadState ≡ found_of Access.ReadState ((c + 1) % 65536) (little_bytes 2 r.al_status ++ (0 ∷ 0 ∷ little_bytes 2 r.al_code))
state_finds lens r k v c old open_ room =
    let some_ = counted_some c room in
    let small = open_.status in
    let wide : r.al_status < 65536 = omega arith in
    let word = word_back r.al_status (0 ∷ 0 ∷ little_bytes 2 r.al_code) wide in
    let code = code_back r.al_status r.al_code open_.code in
    let few = lt-ltb r.al_status 32 small in
    rw (some_, word, code, few) refl

pub read_state : {V : Type 0} (lens : ℕ → Lens) (r : Registers) (k : Kept) (v : Serving V Body) (d : Raw.Datagram) → IsOpen lens r → d.head.counter + 1 < 65536 →
    length d.body ≡ 6 → IsMet lens r k v (aimed d Fprd r.station 304)
read_state lens r k v d open_ room long =
    let e = aimed d Fprd r.station 304 in
    let here = same_number r.station in
    let two : (length d.body == 2) ≡ false = ap (λ n. n == 2) long in
    let six : (length d.body == 6) ≡ true = ap (λ n. n == 6) long in
    let text = little_bytes 2 r.al_status ++ (0 ∷ 0 ∷ little_bytes 2 r.al_code) in
    let p : Passed = record { registers = r; head = record e.head { counter = (d.head.counter + 1) % 65536 }; body = text } in
    let met : passed r e ≡ p = rw (here, two, six) refl in
    register_case lens r k v e p Access.ReadState r.station (Address.Station r.station) d.head.counter ((d.head.counter + 1) % 65536) d.body text
    met (rw six refl) refl here (sym (counted_is d.head.counter room)) (state_finds lens r k v d.head.counter (found_of Access.ReadState d.head.counter d.body) open_ room) refl open_ refl

pub place_state : {V : Type 0} (lens : ℕ → Lens) (r : Registers) (k : Kept) (v : Serving V Body) (d : Raw.Datagram) → IsOpen lens r → d.head.counter + 1 < 65536 →
    length d.body ≡ 6 → IsMet lens r k v (aimed d Aprd 0 304)
place_state lens r k v d open_ room long =
    let e = aimed d Aprd 0 304 in
    let two : (length d.body == 2) ≡ false = ap (λ n. n == 2) long in
    let six : (length d.body == 6) ≡ true = ap (λ n. n == 6) long in
    let text = little_bytes 2 r.al_status ++ (0 ∷ 0 ∷ little_bytes 2 r.al_code) in
    let p : Passed = record { registers = r; head = record e.head { adp = 1; counter = (d.head.counter + 1) % 65536 }; body = text } in
    let met : passed r e ≡ p = rw (two, six) refl in
    register_case lens r k v e p Access.ReadState 0 (Address.Place 0) d.head.counter ((d.head.counter + 1) % 65536) d.body text
    met (rw six refl) refl refl (sym (counted_is d.head.counter room)) (state_finds lens r k v d.head.counter (found_of Access.ReadState d.head.counter d.body) open_ room) refl open_ refl

full_finds : {V : Type 0} (lens : ℕ → Lens) (r : Registers) (k : Kept) (v : Serving V Body) (c : ℕ) (old : Option Found) → c + 1 < 65536 →
    found_met (slave_of k r v) old Access.ReadFull ≡ found_of Access.ReadFull ((c + 1) % 65536) (status_of r.out_manager ∷ [])
full_finds lens r k v c old room =
    let some_ = counted_some c room in
    rw some_ (ap (λ b. Some (Found.Full b)) (full_shown r.out_manager.full _))
  where
    full_shown : {X : Type 0} (b : Bool) (m : X) → is_some (if b then Some m else None) ≡ (bits_of (if b then 8 else 0) 3 1 == 1)
    full_shown true m = refl
    full_shown false m = refl

pub read_box : {V : Type 0} (lens : ℕ → Lens) (r : Registers) (k : Kept) (v : Serving V Body) (d : Raw.Datagram) → IsOpen lens r → d.head.counter + 1 < 65536 →
    length d.body ≡ 1 → IsMet lens r k v (aimed d Fprd r.station 2053)
read_box lens r k v d open_ room long =
    let e = aimed d Fprd r.station 2053 in
    let here = same_number r.station in
    let one : (length d.body == 1) ≡ true = ap (λ n. n == 1) long in
    let p : Passed = record { registers = r; head = record e.head { counter = (d.head.counter + 1) % 65536 }; body = status_of r.out_manager ∷ [] } in
    let met : passed r e ≡ p = rw (here, one) refl in
    register_case lens r k v e p Access.ReadFull r.station (Address.Station r.station) d.head.counter ((d.head.counter + 1) % 65536) d.body (status_of r.out_manager ∷ [])
    met (rw one refl) refl here (sym (counted_is d.head.counter room)) (full_finds lens r k v d.head.counter (found_of Access.ReadFull d.head.counter d.body) room) refl open_ refl

pub place_box : {V : Type 0} (lens : ℕ → Lens) (r : Registers) (k : Kept) (v : Serving V Body) (d : Raw.Datagram) → IsOpen lens r → d.head.counter + 1 < 65536 →
    length d.body ≡ 1 → IsMet lens r k v (aimed d Aprd 0 2053)
place_box lens r k v d open_ room long =
    let e = aimed d Aprd 0 2053 in
    let one : (length d.body == 1) ≡ true = ap (λ n. n == 1) long in
    let p : Passed = record { registers = r; head = record e.head { adp = 1; counter = (d.head.counter + 1) % 65536 }; body = status_of r.out_manager ∷ [] } in
    let met : passed r e ≡ p = rw one refl in
    register_case lens r k v e p Access.ReadFull 0 (Address.Place 0) d.head.counter ((d.head.counter + 1) % 65536) d.body (status_of r.out_manager ∷ [])
    met (rw one refl) refl refl (sym (counted_is d.head.counter room)) (full_finds lens r k v d.head.counter (found_of Access.ReadFull d.head.counter d.body) room) refl open_ refl

-- the control word
pub write_control : {V : Type 0} (lens : ℕ → Lens) (r : Registers) (k : Kept) (v : Serving V Body) (d : Raw.Datagram) → IsOpen lens r → d.head.counter + 1 < 65536 →
    length d.body ≡ 2 → IsMet lens r k v (aimed d Fpwr r.station 288)
write_control lens r k v d open_ room long =
    let e = aimed d Fpwr r.station 288 in
    let here = same_number r.station in
    let two : (length d.body == 2) ≡ true = ap (λ n. n == 2) long in
    let word = number_at 2 d.body 0 in
    let p : Passed = record { registers = record r { al_control = word; unhandled = true }; head = record e.head { counter = (d.head.counter + 1) % 65536 }; body = d.body } in
    let met : passed r e ≡ p = rw (here, two) refl in
    register_case lens r k v e p (Access.SetControl (bits_of word 0 4) (not (bits_of word 4 1 == 0))) r.station (Address.Station r.station) d.head.counter ((d.head.counter + 1) % 65536) d.body d.body
    met (rw two refl) (rw two refl) here (sym (counted_is d.head.counter room)) refl refl (stays word) refl
  where
    stays : (word : ℕ) → IsOpen lens (record r { al_control = word; unhandled = true })
    stays word = record { out = open_.out; back = open_.back; right = open_.right; status = open_.status; code = open_.code; reads = open_.reads }

pub place_control : {V : Type 0} (lens : ℕ → Lens) (r : Registers) (k : Kept) (v : Serving V Body) (d : Raw.Datagram) → IsOpen lens r → d.head.counter + 1 < 65536 →
    length d.body ≡ 2 → IsMet lens r k v (aimed d Apwr 0 288)
place_control lens r k v d open_ room long =
    let e = aimed d Apwr 0 288 in
    let two : (length d.body == 2) ≡ true = ap (λ n. n == 2) long in
    let word = number_at 2 d.body 0 in
    let p : Passed = record { registers = record r { al_control = word; unhandled = true }; head = record e.head { adp = 1; counter = (d.head.counter + 1) % 65536 }; body = d.body } in
    let met : passed r e ≡ p = rw two refl in
    register_case lens r k v e p (Access.SetControl (bits_of word 0 4) (not (bits_of word 4 1 == 0))) 0 (Address.Place 0) d.head.counter ((d.head.counter + 1) % 65536) d.body d.body
    met (rw two refl) (rw two refl) refl (sym (counted_is d.head.counter room)) refl refl (stays word) refl
  where
    stays : (word : ℕ) → IsOpen lens (record r { al_control = word; unhandled = true })
    stays word = record { out = open_.out; back = open_.back; right = open_.right; status = open_.status; code = open_.code; reads = open_.reads }
