-- A status that comes back shows the state that stands.
use Rattle.std.proofs.Common.{◌≡◌, ℕ, ◌<◌, ◌==◌, ◌&&◌, Bool, true, false, Option, Some, None, List, [], ◌∷◌, ◌++◌, length, refl, sym, ap, ap₂, ◌∙◌, arith, eq-eqb, if◌then◌else◌}
use Rattle.std.specs.Prelude.{nat_lt, not}
use Rattle.std.proofs.lemmas.Bool.{lt-ltb}
use Rattle.byteorder.specs.Endian.{little_bytes}
use Rattle.frames_seen.specs.of_datagrams.declared.command.Command.TheVariants.{Aprd, Fprd}
use Rattle.frames_seen.specs.of_datagrams.declared.head.Head.{Head}
use Rattle.frames_seen.specs.of_datagrams.Datagram as Raw
use Rattle.frames_seen.specs.of_ec_fields.Fields.{bits_of, number_at}
use Rattle.frames_seen.specs.of_esc_registers.declared.registers.Registers as Esc
use Rattle.frames_seen.specs.of_slave_node.Passing.{passed, datagram_after}
use Rattle.frames_seen.proofs.of_slave_node.Parts.{head_kept}
use Rattle.frames_seen.specs.of_frame_view.View.{Lens, datagram_seen, station_of, access_of, read_access, found_of, state_found, register_counter}
use Rattle.frames_seen.proofs.Numbers.{word_back}
use Rattle.frames_seen.proofs.Rows.{access_len}
use Rattle.frames_seen.specs.of_life_model.Lives.{is_shown}
use Rattle.frames_seen.specs.of_segment_model.Slaves.{Access, Found}
use Rattle.slave_lives.specs.Opening.{Plan, aim, IsAccess}
use Rattle.slave_lives.specs.Stands.{CameBack}
use Rattle.slave_lives.proofs.Brings.{with_body, none_full}
use Rattle.slave_lives.proofs.Openings.{the_access}
use Rattle.slave_lives.specs.Shown.{Shows}
use Rattle.slave_lives.proofs.Reading.{Reads}

-- the status of a slave as it is read
abbrev status_of : Esc.Registers → List ℕ
status_of r = little_bytes 2 r.al_status ++ (0 ∷ 0 ∷ little_bytes 2 r.al_code)

-- what a slave makes of such an access that no slave before it met
record Read (r : Esc.Registers) (d : Raw.Datagram) : Type 0 where
  counter : (passed r d).head.counter ≡ 1
  body : (passed r d).body ≡ status_of r

read_back : (p : Plan) (turn : ℕ) (r : Esc.Registers) (d : Raw.Datagram) → Reads p r turn → IsAccess p turn d → d.head.counter ≡ 0 → Read r d
read_back p turn r d Reads.watch a zero = record { counter = ap (λ e. (passed r e).head.counter) (the_access p 2 d a) ∙ one; body = ap (λ e. (passed r e).body) (the_access p 2 d a) }
  where
    one : (passed r (with_body d Aprd 0 304 (0 ∷ 0 ∷ 0 ∷ 0 ∷ 0 ∷ 0 ∷ []))).head.counter ≡ 1
    one = rw zero refl
read_back p turn r d (Reads.status here) a zero = record { counter = ap (λ e. (passed r e).head.counter) (the_access p 9 d a) ∙ one; body = ap (λ e. (passed r e).body) (the_access p 9 d a) ∙ octets }
  where
    one : (passed r (with_body d Fprd p.station 304 (0 ∷ 0 ∷ 0 ∷ 0 ∷ 0 ∷ 0 ∷ []))).head.counter ≡ 1
    one = let same = eq-eqb p.station r.station (sym here) in rw (same, zero) refl

    octets : (passed r (with_body d Fprd p.station 304 (0 ∷ 0 ∷ 0 ∷ 0 ∷ 0 ∷ 0 ∷ []))).body ≡ status_of r
    octets = let same = eq-eqb p.station r.station (sym here) in rw same refl

-- it is seen as the read of AL status and code
read_access_is : (lens : ℕ → Lens) (p : Plan) (turn : ℕ) (r : Esc.Registers) (d : Raw.Datagram) → Reads p r turn → IsAccess p turn d → (datagram_seen lens (datagram_after r d)).access ≡ Access.ReadState
read_access_is lens p turn r d k a = go k a
  where
    same_command : (passed r d).head.command ≡ d.head.command
    same_command = ap (λ (h : Head). h.command) (head_kept r d)

    same_ado : (passed r d).head.ado ≡ d.head.ado
    same_ado = ap (λ (h : Head). h.ado) (head_kept r d)

    six : (octets : List ℕ) → d.body ≡ octets → length octets ≡ 6 → length (passed r d).body ≡ 6
    six octets e l = access_len r d.head d.body ∙ ap length e ∙ l

    go : {t : ℕ} → Reads p r t → IsAccess p t d → (datagram_seen lens (datagram_after r d)).access ≡ Access.ReadState
    go Reads.watch a =
        (λ i. access_of (lens (station_of ((same_command ∙ a.command) i) (passed r d).head.adp)) ((same_command ∙ a.command) i) ((same_ado ∙ a.ado) i) (passed r d).body)
        ∙ ap (λ m. read_access 304 m) (six (aim p 2).octets a.octets refl)
    go (Reads.status here) a =
        (λ i. access_of (lens (station_of ((same_command ∙ a.command) i) (passed r d).head.adp)) ((same_command ∙ a.command) i) ((same_ado ∙ a.ado) i) (passed r d).body)
        ∙ ap (λ m. read_access 304 m) (six (aim p 9).octets a.octets refl)

-- a state that stands without the error flag is shown
shown_back : (status s code : ℕ) (low flag : Bool) → nat_lt status 32 ≡ low → (bits_of status 4 1 == 1) ≡ flag → low ≡ true → flag ≡ false → bits_of status 0 4 ≡ s →
    is_shown s (if low then Some (Found.State (bits_of status 0 4) (if flag then Some code else None)) else None) ≡ true
shown_back status s code true false l f a b same = eq-eqb (bits_of status 0 4) s same
shown_back status s code true true l f a b same = absurd (cc)
shown_back status s code false flag l f a b same = absurd (cc)

-- THE ACCESS SHOWS THE STATE
pub read_shows : (lens : ℕ → Lens) (p : Plan) (turn state : ℕ) (r : Esc.Registers) (d : Raw.Datagram) (done : Bool) (found : Option Found) → Reads p r turn → CameBack lens p turn r d done found → d.head.counter ≡ 0 → r.al_status < 32 → Shows state r →
    (done && is_shown state found) ≡ true
read_shows lens p turn state r d done found k c zero low s =
    let read = read_back p turn r d k c.access zero in
    let access = read_access_is lens p turn r d k c.access in
    let here : done ≡ true = c.done_is ∙ ap (λ a. not (register_counter a (passed r d).head.counter == 0)) access ∙ ap (λ n. not (n == 0)) read.counter in
    let wide : r.al_status < 65536 = omega (arith, low) in
    let status : number_at 2 (status_of r) 0 ≡ r.al_status = word_back r.al_status (0 ∷ 0 ∷ little_bytes 2 r.al_code) wide in
    let seen : found ≡ state_found (number_at 2 (status_of r) 0) (number_at 2 (status_of r) 4) = c.found_is ∙ ap (λ a. found_of a (passed r d).head.counter (passed r d).body) access ∙ ap₂ (λ n octets. found_of Access.ReadState n octets) read.counter read.body in
    let all : found ≡ state_found r.al_status (number_at 2 (status_of r) 4) = seen ∙ ap (λ n. state_found n (number_at 2 (status_of r) 4)) status in
    let flag : (bits_of r.al_status 4 1 == 1) ≡ false = none_full (bits_of r.al_status 4 1 == 1) r.al_code s.fine in
    ap₂ (λ (b : Bool) (f : Option Found). b && is_shown state f) here all
    ∙ shown_back r.al_status state (number_at 2 (status_of r) 4) (nat_lt r.al_status 32) (bits_of r.al_status 4 1 == 1) refl refl (lt-ltb r.al_status 32 low) flag s.state_is
