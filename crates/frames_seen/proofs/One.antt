-- ONE DATAGRAM at an open slave: every command, every register, every length.
use Rattle.std.proofs.Common.{◌≡◌, ◌⊎◌, inl, inr, ℕ, ◌+◌, ◌%◌, ◌<◌, ◌==◌, ◌&&◌, ◌||◌, true, false, length, refl, ap, sym, subst}
use Rattle.std.specs.Prelude.{slice_index}
use Rattle.std.proofs.lemmas.Bool.{eq-eqb, eqb-true, or_cases, and_parts, not-true, cases_Bool}
use Rattle.byteorder.specs.Endian.{little_bytes}
use Rattle.slave_node.specs.of_datagrams.declared.command.Command.TheVariants.{Aprd, Apwr, Aprw, Fprd, Fpwr, Fprw}
use Rattle.slave_node.specs.of_datagrams.declared.command.Command.{Command}
use Rattle.slave_node.specs.of_datagrams.Datagram as Raw
use Rattle.slave_node.specs.of_esc_registers.declared.registers.Registers.{Registers}
use Rattle.slave_node.specs.of_esc_registers.Access.{Passed}
use Rattle.slave_node.specs.of_esc_registers.Manager.{is_enabled}
use Rattle.frame_view.specs.of_link_model.Frames.{Ask}
use Rattle.frame_view.specs.of_link_mails.Body.{Body}
use Rattle.slave_node.specs.of_mailbox_slave.Kept.{Kept}
use Rattle.frame_view.specs.of_segment_model.Slaves.{Serving, Address, Access}
use Rattle.frame_view.specs.View.{Lens, asking, place_of, read_access, write_access}
use Rattle.frames_seen.specs.Slaves.{registers_seen, IsOpen}
use Rattle.frames_seen.specs.Spoken.{IsSpoken}
use Rattle.frames_seen.specs.Met.{IsMet}
use Rattle.frames_seen.proofs.Boxes.{aimed, read_full, read_empty, read_acknowledge, write_empty, write_full, write_request}
use Rattle.frames_seen.proofs.Words.{read_state, place_state, read_box, place_box, write_control, place_control}
use Rattle.frames_seen.proofs.Quiet.{read_quiet, place_quiet, no_read, no_write, no_place_read, no_place_write}
use Rattle.frames_seen.proofs.Others.{met_as, quiet_case, passed_case}
use Rattle.frames_seen.proofs.Numbers.{decided, same_number, place_moves, Moves}

module _ {V : Type 0} (lens : ℕ → Lens) (r : Registers) (k : Kept) (v : Serving V Body) (d : Raw.Datagram) (open_ : IsOpen lens r) (room : d.head.counter + 1 < 65536) where
  -- a register, or another one
  abbrev at_register : Command → ℕ → ℕ → Type 0
  at_register c adp ado = IsMet lens r k v (aimed d c adp ado)

  -- reads by station
  mail_read_ : at_register Fprd r.station 6144
  mail_read_ = by_length (decided (length d.body) (length r.in_manager.area)) (cases_Bool r.in_manager.full)
    where
      by_length : (length d.body ≡ length r.in_manager.area) ⊎ (((length d.body == length r.in_manager.area) ≡ false) × ((length r.in_manager.area == length d.body) ≡ false)) →
          (r.in_manager.full ≡ true) ⊎ (r.in_manager.full ≡ false) → at_register Fprd r.station 6144
      by_length (inl long) (inl full) = read_full lens r k v d open_ room long full
      by_length (inl long) (inr empty) = read_empty lens r k v d open_ room long empty
      by_length (inr other) full =
          let off = other.0 in
          let back = open_.back in
          no_read lens r k v d 6144 (rw off refl) (rw (back, off) refl) refl open_

  acknowledge_read : at_register Fprd r.station 2063
  acknowledge_read = by_length (decided (length d.body) 1)
    where
      by_length : (length d.body ≡ 1) ⊎ (((length d.body == 1) ≡ false) × ((1 == length d.body) ≡ false)) → at_register Fprd r.station 2063
      by_length (inl long) = read_acknowledge lens r k v d open_ long
      by_length (inr other) = let off = other.0 in no_read lens r k v d 2063 (rw off refl) (rw off refl) refl open_

  box_read : at_register Fprd r.station 2053
  box_read = by_length (decided (length d.body) 1)
    where
      by_length : (length d.body ≡ 1) ⊎ (((length d.body == 1) ≡ false) × ((1 == length d.body) ≡ false)) → at_register Fprd r.station 2053
      by_length (inl long) = read_box lens r k v d open_ room long
      by_length (inr other) = let off = other.0 in no_read lens r k v d 2053 (rw off refl) refl (rw off refl) open_

  -- AL status without its code is nothing that the session reads
  short_state : length d.body ≡ 2 → at_register Fprd r.station 304
  short_state long =
      let e = aimed d Fprd r.station 304 in
      let here = same_number r.station in
      let two : (length d.body == 2) ≡ true = ap (λ n. n == 2) long in
      let six : (length d.body == 6) ≡ false = ap (λ n. n == 6) long in
      let p : Passed = record { registers = r; head = record e.head { counter = (d.head.counter + 1) % 65536 }; body = little_bytes 2 r.al_status } in
      quiet_case lens r k v e p r.station (Address.Station r.station) d.head.counter ((d.head.counter + 1) % 65536) d.body (little_bytes 2 r.al_status)
      (rw (here, two) refl) (rw six refl) refl here refl open_

  short_place : length d.body ≡ 2 → at_register Aprd 0 304
  short_place long =
      let e = aimed d Aprd 0 304 in
      let two : (length d.body == 2) ≡ true = ap (λ n. n == 2) long in
      let six : (length d.body == 6) ≡ false = ap (λ n. n == 6) long in
      let p : Passed = record { registers = r; head = record e.head { adp = 1; counter = (d.head.counter + 1) % 65536 }; body = little_bytes 2 r.al_status } in
      quiet_case lens r k v e p 0 (Address.Place 0) d.head.counter ((d.head.counter + 1) % 65536) d.body (little_bytes 2 r.al_status)
      (rw two refl) (rw six refl) refl refl refl open_

  state_read : at_register Fprd r.station 304
  state_read = by_length (decided (length d.body) 6) (decided (length d.body) 2)
    where
      by_length : (length d.body ≡ 6) ⊎ (((length d.body == 6) ≡ false) × ((6 == length d.body) ≡ false)) → (length d.body ≡ 2) ⊎ (((length d.body == 2) ≡ false) × ((2 == length d.body) ≡ false)) → at_register Fprd r.station 304
      by_length (inl long) short = read_state lens r k v d open_ room long
      by_length (inr other) (inl short) = short_state short
      by_length (inr other) (inr neither) =
          let six = other.0 in
          let two = neither.0 in
          no_read lens r k v d 304 (rw (two, six) refl) refl (rw six refl) open_

  place_state_read : at_register Aprd 0 304
  place_state_read = by_length (decided (length d.body) 6) (decided (length d.body) 2)
    where
      by_length : (length d.body ≡ 6) ⊎ (((length d.body == 6) ≡ false) × ((6 == length d.body) ≡ false)) → (length d.body ≡ 2) ⊎ (((length d.body == 2) ≡ false) × ((2 == length d.body) ≡ false)) → at_register Aprd 0 304
      by_length (inl long) short = place_state lens r k v d open_ room long
      by_length (inr other) (inl short) = short_place short
      by_length (inr other) (inr neither) =
          let six = other.0 in
          let two = neither.0 in
          no_place_read lens r k v d 304 (rw (two, six) refl) (rw six refl) open_

  place_box_read : at_register Aprd 0 2053
  place_box_read = by_length (decided (length d.body) 1)
    where
      by_length : (length d.body ≡ 1) ⊎ (((length d.body == 1) ≡ false) × ((1 == length d.body) ≡ false)) → at_register Aprd 0 2053
      by_length (inl long) = place_box lens r k v d open_ room long
      by_length (inr other) = let off = other.0 in no_place_read lens r k v d 2053 (rw off refl) (rw off refl) open_

  -- writes
  mail_written : at_register Fpwr r.station 4096
  mail_written = by_length (decided (length d.body) (length r.out_manager.area)) (cases_Bool r.out_manager.full)
    where
      by_length : (length d.body ≡ length r.out_manager.area) ⊎ (((length d.body == length r.out_manager.area) ≡ false) × ((length r.out_manager.area == length d.body) ≡ false)) →
          (r.out_manager.full ≡ true) ⊎ (r.out_manager.full ≡ false) → at_register Fpwr r.station 4096
      by_length (inl long) (inl full) = write_full lens r k v d open_ room long full
      by_length (inl long) (inr empty) = write_empty lens r k v d open_ long empty
      by_length (inr other) full =
          let off = other.0 in
          let out = open_.out in
          no_write lens r k v d 4096 (rw off refl) (rw (out, off) refl) refl open_

  request_written : is_enabled (slice_index d.body 0) ≡ true → at_register Fpwr r.station 2062
  request_written on = by_length (decided (length d.body) 1)
    where
      by_length : (length d.body ≡ 1) ⊎ (((length d.body == 1) ≡ false) × ((1 == length d.body) ≡ false)) → at_register Fpwr r.station 2062
      by_length (inl long) = write_request lens r k v d open_ long on
      by_length (inr other) = let off = other.0 in no_write lens r k v d 2062 (rw off refl) (rw off refl) refl open_

  control_written : at_register Fpwr r.station 288
  control_written = by_length (decided (length d.body) 2)
    where
      by_length : (length d.body ≡ 2) ⊎ (((length d.body == 2) ≡ false) × ((2 == length d.body) ≡ false)) → at_register Fpwr r.station 288
      by_length (inl long) = write_control lens r k v d open_ room long
      by_length (inr other) = let off = other.0 in no_write lens r k v d 288 (rw off refl) refl (rw off refl) open_

  place_control_written : at_register Apwr 0 288
  place_control_written = by_length (decided (length d.body) 2)
    where
      by_length : (length d.body ≡ 2) ⊎ (((length d.body == 2) ≡ false) × ((2 == length d.body) ≡ false)) → at_register Apwr 0 288
      by_length (inl long) = place_control lens r k v d open_ room long
      by_length (inr other) = let off = other.0 in no_place_write lens r k v d 288 (rw off refl) (rw off refl) open_

  abbrev Differ : ℕ → ℕ → Type 0
  Differ a b = ((a == b) ≡ false) × ((b == a) ≡ false)

  read_any : (ado : ℕ) → at_register Fprd r.station ado
  read_any ado = by_register (decided ado 6144) (decided ado 2063) (decided ado 304) (decided ado 2053)
    where
      by_register : (ado ≡ 6144) ⊎ Differ ado 6144 → (ado ≡ 2063) ⊎ Differ ado 2063 → (ado ≡ 304) ⊎ Differ ado 304 → (ado ≡ 2053) ⊎ Differ ado 2053 → at_register Fprd r.station ado
      by_register (inl a) b c f = subst (at_register Fprd r.station) (sym a) mail_read_
      by_register (inr a) (inl b) c f = subst (at_register Fprd r.station) (sym b) acknowledge_read
      by_register (inr a) (inr b) (inl c) f = subst (at_register Fprd r.station) (sym c) state_read
      by_register (inr a) (inr b) (inr c) (inl f) = subst (at_register Fprd r.station) (sym f) box_read
      by_register (inr a) (inr b) (inr c) (inr f) =
          let e = a.0 in
          let g = b.0 in
          let h = c.0 in
          let i = f.0 in
          read_quiet lens r k v d ado e (λ n. rw (e, g) refl) (λ n. rw (h, i) refl) open_

  place_read_any : (ado : ℕ) → (ado == 6144) ≡ false → at_register Aprd 0 ado
  place_read_any ado e = by_register (decided ado 304) (decided ado 2053)
    where
      by_register : (ado ≡ 304) ⊎ Differ ado 304 → (ado ≡ 2053) ⊎ Differ ado 2053 → at_register Aprd 0 ado
      by_register (inl c) f = subst (at_register Aprd 0) (sym c) place_state_read
      by_register (inr c) (inl f) = subst (at_register Aprd 0) (sym f) place_box_read
      by_register (inr c) (inr f) =
          let h = c.0 in
          let i = f.0 in
          place_quiet lens r k v d ado e (λ n. rw (h, i) refl) open_

  write_any : (ado : ℕ) → (ado == 288 || (ado == 4096 || (ado == 2062 && is_enabled (slice_index d.body 0)))) ≡ true → at_register Fpwr r.station ado
  write_any ado spoken = by_register (or_cases (ado == 288) (ado == 4096 || (ado == 2062 && is_enabled (slice_index d.body 0))) spoken)
    where
      by_box : ((ado == 4096) ≡ true) ⊎ ((ado == 2062 && is_enabled (slice_index d.body 0)) ≡ true) → at_register Fpwr r.station ado
      by_box (inl a) = subst (at_register Fpwr r.station) (sym (eqb-true ado 4096 a)) mail_written
      by_box (inr b) =
          let both = and_parts (ado == 2062) (is_enabled (slice_index d.body 0)) b in
          subst (at_register Fpwr r.station) (sym (eqb-true ado 2062 both.0)) (request_written both.1)

      by_register : ((ado == 288) ≡ true) ⊎ ((ado == 4096 || (ado == 2062 && is_enabled (slice_index d.body 0))) ≡ true) → at_register Fpwr r.station ado
      by_register (inl c) = subst (at_register Fpwr r.station) (sym (eqb-true ado 288 c)) control_written
      by_register (inr m) = by_box (or_cases (ado == 4096) (ado == 2062 && is_enabled (slice_index d.body 0)) m)

  place_write_any : (ado : ℕ) → (ado == 288) ≡ true → at_register Apwr 0 ado
  place_write_any ado spoken = subst (at_register Apwr 0) (sym (eqb-true ado 288 spoken)) place_control_written

-- datagrams to others
module _ {V : Type 0} (lens : ℕ → Lens) (r : Registers) (k : Kept) (v : Serving V Body) (d : Raw.Datagram) (adp ado : ℕ) (open_ : IsOpen lens r) where
  abbrev left : Raw.Datagram → Passed
  left e = record { registers = r; head = e.head; body = e.body }

  read_apart : (adp == r.station) ≡ false → (r.station == adp) ≡ false → IsMet lens r k v (aimed d Fprd adp ado)
  read_apart f g = met_as lens r k v (aimed d Fprd adp ado) (left (aimed d Fprd adp ado)) (rw f refl) (record { datagram = rw (f, g) refl; slave = rw (f, g) refl; stays = open_; station = refl })

  write_apart : (adp == r.station) ≡ false → (r.station == adp) ≡ false → IsMet lens r k v (aimed d Fpwr adp ado)
  write_apart f g = met_as lens r k v (aimed d Fpwr adp ado) (left (aimed d Fpwr adp ado)) (rw f refl) (record { datagram = rw (f, g) refl; slave = rw (f, g) refl; stays = open_; station = refl })

  both_apart : (adp == r.station) ≡ false → (r.station == adp) ≡ false → IsMet lens r k v (aimed d Fprw adp ado)
  both_apart f g = met_as lens r k v (aimed d Fprw adp ado) (left (aimed d Fprw adp ado)) (rw f refl) (record { datagram = rw (f, g) refl; slave = rw (f, g) refl; stays = open_; station = refl })

  abbrev moved : Raw.Datagram → Passed
  moved e = record { registers = r; head = record e.head { adp = (adp + 1) % 65536 }; body = e.body }

  module _ (some_ : (adp == 0) ≡ false) (moves : Moves adp (registers_seen r)) where
    place_read_apart : IsMet lens r k v (aimed d Aprd adp ado)
    place_read_apart = passed_case lens r k v (aimed d Aprd adp ado) (moved (aimed d Aprd adp ado)) (read_access ado (length d.body)) 0 (place_of adp) d.head.counter d.body
        (rw some_ refl) refl (ap (λ a. asking Ask.Other (read_access ado (length d.body)) 0 a d.head.counter d.body) moves.goes) moves.apart refl open_

    place_write_apart : IsMet lens r k v (aimed d Apwr adp ado)
    place_write_apart = passed_case lens r k v (aimed d Apwr adp ado) (moved (aimed d Apwr adp ado)) (write_access (lens 0) ado d.body) 0 (place_of adp) d.head.counter d.body
        (rw some_ refl) refl (ap (λ a. asking Ask.Other (write_access (lens 0) ado d.body) 0 a d.head.counter d.body) moves.goes) moves.apart refl open_

    place_both_apart : IsMet lens r k v (aimed d Aprw adp ado)
    place_both_apart = passed_case lens r k v (aimed d Aprw adp ado) (moved (aimed d Aprw adp ado)) Access.Elsewhere 0 (place_of adp) d.head.counter d.body
        (rw some_ refl) refl (ap (λ a. asking Ask.Other Access.Elsewhere 0 a d.head.counter d.body) moves.goes) moves.apart refl open_

-- ANY DATAGRAM that may come
module _ {V : Type 0} (lens : ℕ → Lens) (r : Registers) (k : Kept) (v : Serving V Body) (d : Raw.Datagram) (open_ : IsOpen lens r) where
  abbrev aimed_as : Command → Raw.Datagram
  aimed_as c = aimed d c d.head.adp d.head.ado

  by_command : (c : Command) → IsSpoken r.station (aimed_as c) → IsMet lens r k v (aimed_as c)
  by_command Fprd s = go (decided d.head.adp r.station)
    where
      go : (d.head.adp ≡ r.station) ⊎ (((d.head.adp == r.station) ≡ false) × ((r.station == d.head.adp) ≡ false)) → IsMet lens r k v (aimed_as Fprd)
      go (inl is) = subst (λ a. IsMet lens r k v (aimed d Fprd a d.head.ado)) (sym is) (read_any lens r k v d open_ s.room.counter d.head.ado)
      go (inr other) = read_apart lens r k v d d.head.adp d.head.ado open_ other.0 other.1
  by_command Fpwr s = go (decided d.head.adp r.station)
    where
      go : (d.head.adp ≡ r.station) ⊎ (((d.head.adp == r.station) ≡ false) × ((r.station == d.head.adp) ≡ false)) → IsMet lens r k v (aimed_as Fpwr)
      go (inl is) = subst (λ a. IsMet lens r k v (aimed d Fpwr a d.head.ado)) (sym is) (write_any lens r k v d open_ s.room.counter d.head.ado (s.spoken (eq-eqb d.head.adp r.station is)))
      go (inr other) = write_apart lens r k v d d.head.adp d.head.ado open_ other.0 other.1
  by_command Fprw s = go (decided d.head.adp r.station)
    where
      go : (d.head.adp ≡ r.station) ⊎ (((d.head.adp == r.station) ≡ false) × ((r.station == d.head.adp) ≡ false)) → IsMet lens r k v (aimed_as Fprw)
      go (inl is) = let not_ : false ≡ true = s.spoken (eq-eqb d.head.adp r.station is) in absurd (cc)
      go (inr other) = both_apart lens r k v d d.head.adp d.head.ado open_ other.0 other.1
  by_command Aprd s = go (decided d.head.adp 0)
    where
      go : (d.head.adp ≡ 0) ⊎ (((d.head.adp == 0) ≡ false) × ((0 == d.head.adp) ≡ false)) → IsMet lens r k v (aimed_as Aprd)
      go (inl is) = subst (λ a. IsMet lens r k v (aimed d Aprd a d.head.ado)) (sym is) (place_read_any lens r k v d open_ s.room.counter d.head.ado (not-true (d.head.ado == 6144) (s.spoken (eq-eqb d.head.adp 0 is))))
      go (inr other) = place_read_apart lens r k v d d.head.adp d.head.ado open_ other.0 (place_moves d.head.adp (registers_seen r) s.room.ahead (s.room.place refl) other.0)
  by_command Apwr s = go (decided d.head.adp 0)
    where
      go : (d.head.adp ≡ 0) ⊎ (((d.head.adp == 0) ≡ false) × ((0 == d.head.adp) ≡ false)) → IsMet lens r k v (aimed_as Apwr)
      go (inl is) = subst (λ a. IsMet lens r k v (aimed d Apwr a d.head.ado)) (sym is) (place_write_any lens r k v d open_ s.room.counter d.head.ado (s.spoken (eq-eqb d.head.adp 0 is)))
      go (inr other) = place_write_apart lens r k v d d.head.adp d.head.ado open_ other.0 (place_moves d.head.adp (registers_seen r) s.room.ahead (s.room.place refl) other.0)
  by_command Aprw s = go (decided d.head.adp 0)
    where
      go : (d.head.adp ≡ 0) ⊎ (((d.head.adp == 0) ≡ false) × ((0 == d.head.adp) ≡ false)) → IsMet lens r k v (aimed_as Aprw)
      go (inl is) = let not_ : false ≡ true = s.spoken (eq-eqb d.head.adp 0 is) in absurd (cc)
      go (inr other) = place_both_apart lens r k v d d.head.adp d.head.ado open_ other.0 (place_moves d.head.adp (registers_seen r) s.room.ahead (s.room.place refl) other.0)
  by_command c s = passed_case lens r k v (aimed_as c) (record { registers = r; head = (aimed_as c).head; body = d.body }) Access.Elsewhere 0 Address.Passed d.head.counter d.body refl refl refl refl refl open_

  pub one_seen : IsSpoken r.station d → IsMet lens r k v d
  one_seen s = by_command d.head.command s
