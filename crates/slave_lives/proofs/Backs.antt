-- AN ACCESS COMES BACK from its slave as it made it: the slaves behind leave it.
use Rattle.std.proofs.Common.{◌≡◌, inl, inr, ℕ, suc, ◌+◌, ◌%◌, ◌<◌, ◌≤◌, ◌==◌, ◌&&◌, Bool, true, false, List, [], ◌∷◌, length, refl, ap, ap₂, sym, ◌∙◌, subst, arith}
use Rattle.std.specs.Prelude.{if◌then◌else◌, Option, Some, None}
use Rattle.std.proofs.lemmas.Bool.{ne_eqb, eq-eqb}
use Rattle.frames_seen.specs.of_datagrams.Datagram as Raw
use Rattle.frames_seen.specs.of_datagrams.declared.head.Head.{Head}
use Rattle.frames_seen.specs.of_esc_registers.declared.registers.Registers as Esc
use Rattle.frames_seen.specs.of_esc_registers.declared.row.Row.{Row}
use Rattle.frames_seen.specs.of_esc_registers.Access.{is_by_place, is_by_station, is_meant, moved_on, passed_at, row_of}
use Rattle.frames_seen.specs.of_slave_node.Passing.{passed, datagram_after, datagrams_after}
use Rattle.frames_seen.proofs.of_slave_node.Parts.{head_kept}
use Rattle.frames_seen.specs.of_frame_view.View.{Lens, datagram_seen, station_of, access_of, register_counter, found_of}
use Rattle.frames_seen.specs.of_segment_model.Slaves.{Access}
use Rattle.frames_seen.specs.Own.{is_to, IsApart}
use Rattle.frames_seen.specs.Ring.{all_after, AllApart}
use Rattle.frames_seen.specs.Spoken.{means}
use Rattle.frames_seen.proofs.Owns.{unmoved}
use Rattle.slave_lives.specs.Opening.{Plan, aim, IsAccess, JustOne}
use Rattle.slave_lives.specs.Returning.{IsTurn}
use Rattle.slave_lives.specs.Ways.{Beside, ComesBack}
use Rattle.slave_lives.proofs.Ways.{moved}

-- an access behind so many slaves further on
record Marked (p : Plan) (n : ℕ) (r : Esc.Registers) (ds ms : List Raw.Datagram) (j : ℕ) : Type 0 where
  access : Raw.Datagram
  back : Raw.Datagram
  beside : Beside access back ds ms
  is : IsAccess p n access
  command : back.head.command ≡ (aim p n).command
  adp : back.head.adp ≡ (if is_by_place (aim p n).command then j else p.station)
  ado : back.head.ado ≡ (aim p n).ado
  counter : back.head.counter ≡ (passed r access).head.counter
  body : back.body ≡ (passed r access).body

adp_at : (r : Esc.Registers) (h : Head) (body : List ℕ) (row : Option Row) → (passed_at r h body row).head.adp ≡ (moved_on h).adp
adp_at r h body None = refl
adp_at r h body (Some row) = refl

-- behind its slave
adp_behind : (p : Plan) (n : ℕ) (r : Esc.Registers) (d : Raw.Datagram) → IsTurn n → IsAccess p n d → (passed r d).head.adp ≡ (if is_by_place (aim p n).command then 1 else p.station)
adp_behind p n r d at a =
    adp_at r d.head d.body (if is_meant r d.head then row_of r d.head.ado (length d.body) else None)
    ∙ (λ i. (moved_on (record d.head { command = a.command i; adp = a.adp i })).adp) ∙ go at
  where
    go : {m : ℕ} → IsTurn m → (moved_on (record d.head { command = (aim p m).command; adp = (aim p m).adp })).adp ≡ (if is_by_place (aim p m).command then 1 else p.station)
    go IsTurn.return = refl
    go IsTurn.watch = refl
    go IsTurn.address = refl
    go IsTurn.out_off = refl
    go IsTurn.in_off = refl
    go IsTurn.out_on = refl
    go IsTurn.in_on = refl
    go IsTurn.word = refl
    go IsTurn.status = refl

marks : (p : Plan) (n : ℕ) (r : Esc.Registers) (ds : List Raw.Datagram) → IsTurn n → JustOne p n r ds → Marked p n r ds (datagrams_after r ds) 1
marks p n r [] at one = absurd one
marks p n r (d ∷ ds) at (inl other) =
    let same = unmoved r d other.0 in
    let m = marks p n (passed r d).registers ds at other.1 in
    record {
      access = m.access;
      back = m.back;
      beside = Beside.later d (datagram_after r d) ds (datagrams_after (passed r d).registers ds) m.beside;
      is = m.is;
      command = m.command;
      adp = m.adp;
      ado = m.ado;
      counter = m.counter ∙ ap (λ q. (passed q m.access).head.counter) same;
      body = m.body ∙ ap (λ q. (passed q m.access).body) same;
    }
marks p n r (d ∷ ds) at (inr mine) = record {
  access = d;
  back = datagram_after r d;
  beside = Beside.here ds (datagrams_after (passed r d).registers ds);
  is = mine.0;
  command = ap (λ (h : Head). h.command) (head_kept r d) ∙ mine.0.command;
  adp = adp_behind p n r d at mine.0;
  ado = ap (λ (h : Head). h.ado) (head_kept r d) ∙ mine.0.ado;
  counter = refl;
  body = refl;
}

-- a slave behind doesn't mean it
not_meant : (p : Plan) (n j : ℕ) (q : Esc.Registers) (m : Raw.Datagram) → IsTurn n → 1 ≤ j → m.head.command ≡ (aim p n).command → m.head.adp ≡ (if is_by_place (aim p n).command then j else p.station) →
    (is_to p.station m ≡ true → means q.station m.head ≡ false) → means q.station m.head ≡ false
not_meant p n j q m at far command adp apart = go at (λ i. means q.station (record m.head { command = command i })) (λ i. is_by_station (command i) && m.head.adp == p.station) adp
  where
    one : (a : ℕ) → a ≡ j → (a == 0) ≡ false
    one a e = ne_eqb a 0 (λ (f : a ≡ 0). omega (arith, e, f, far))

    go : {k : ℕ} → IsTurn k → means q.station m.head ≡ means q.station (record m.head { command = (aim p k).command }) → is_to p.station m ≡ (is_by_station (aim p k).command && m.head.adp == p.station) →
        m.head.adp ≡ (if is_by_place (aim p k).command then j else p.station) → means q.station m.head ≡ false
    go IsTurn.return e f a = e ∙ one m.head.adp a
    go IsTurn.watch e f a = e ∙ one m.head.adp a
    go IsTurn.address e f a = e ∙ one m.head.adp a
    go IsTurn.out_off e f a = apart (f ∙ eq-eqb m.head.adp p.station a)
    go IsTurn.in_off e f a = apart (f ∙ eq-eqb m.head.adp p.station a)
    go IsTurn.out_on e f a = apart (f ∙ eq-eqb m.head.adp p.station a)
    go IsTurn.in_on e f a = apart (f ∙ eq-eqb m.head.adp p.station a)
    go IsTurn.word e f a = apart (f ∙ eq-eqb m.head.adp p.station a)
    go IsTurn.status e f a = apart (f ∙ eq-eqb m.head.adp p.station a)

-- so it goes on as it is
beside_on : (p : Plan) (d m : Raw.Datagram) (q : Esc.Registers) (ds ms : List Raw.Datagram) → Beside d m ds ms → ((q2 : Esc.Registers) → (is_to p.station m ≡ true → means q2.station m.head ≡ false) → means q2.station m.head ≡ false) → IsApart p.station q ms →
    Beside d (record m { head = moved_on m.head }) ds (datagrams_after q ms)
beside_on p d m q ds ms (Beside.here es fs) not_ apart = subst (λ e. Beside d e (d ∷ es) (datagrams_after q (m ∷ fs))) (moved q m (not_ q apart.0)) (Beside.here es (datagrams_after (passed q m).registers fs))
beside_on p d m q ds ms (Beside.later x y es fs b) not_ apart = Beside.later x (datagram_after q y) es (datagrams_after (passed q y).registers fs) (beside_on p d m (passed q y).registers es fs b not_ apart.1)

moved_adp : (p : Plan) (n j : ℕ) (h : Head) → IsTurn n → j < 65535 → h.command ≡ (aim p n).command → h.adp ≡ (if is_by_place (aim p n).command then j else p.station) → (moved_on h).adp ≡ (if is_by_place (aim p n).command then suc j else p.station)
moved_adp p n j h at few command adp = (λ i. (moved_on (record h { command = command i; adp = adp i })).adp) ∙ go at
  where
    next : (j + 1) % 65536 ≡ suc j
    next = omega (arith, few)

    go : {k : ℕ} → IsTurn k → (moved_on (record h { command = (aim p k).command; adp = (if is_by_place (aim p k).command then j else p.station) })).adp ≡ (if is_by_place (aim p k).command then suc j else p.station)
    go IsTurn.return = next
    go IsTurn.watch = next
    go IsTurn.address = next
    go IsTurn.out_off = refl
    go IsTurn.in_off = refl
    go IsTurn.out_on = refl
    go IsTurn.in_on = refl
    go IsTurn.word = refl
    go IsTurn.status = refl

pub moved_counter : (h : Head) → (moved_on h).counter ≡ h.counter
moved_counter h = go (is_by_place h.command)
  where
    go : (b : Bool) → (if b then record h { adp = (h.adp + 1) % 65536 } else h).counter ≡ h.counter
    go true = refl
    go false = refl

moved_command : (h : Head) → (moved_on h).command ≡ h.command
moved_command h = go (is_by_place h.command)
  where
    go : (b : Bool) → (if b then record h { adp = (h.adp + 1) % 65536 } else h).command ≡ h.command
    go true = refl
    go false = refl

moved_ado : (h : Head) → (moved_on h).ado ≡ h.ado
moved_ado h = go (is_by_place h.command)
  where
    go : (b : Bool) → (if b then record h { adp = (h.adp + 1) % 65536 } else h).ado ≡ h.ado
    go true = refl
    go false = refl

goes_on : (p : Plan) (n j : ℕ) (r q : Esc.Registers) (ds ms : List Raw.Datagram) → IsTurn n → 1 ≤ j → j < 65535 → IsApart p.station q ms → Marked p n r ds ms j → Marked p n r ds (datagrams_after q ms) (suc j)
goes_on p n j r q ds ms at far few apart m = record {
  access = m.access;
  back = record m.back { head = moved_on m.back.head };
  beside = beside_on p m.access m.back q ds ms m.beside (λ q2 a. not_meant p n j q2 m.back at far m.command m.adp a) apart;
  is = m.is;
  command = moved_command m.back.head ∙ m.command;
  adp = moved_adp p n j m.back.head at few m.command m.adp;
  ado = moved_ado m.back.head ∙ m.ado;
  counter = moved_counter m.back.head ∙ m.counter;
  body = m.body;
}

all_on : (p : Plan) (n j : ℕ) (r : Esc.Registers) (rs : List Esc.Registers) (ds ms : List Raw.Datagram) → IsTurn n → 1 ≤ j → j + length rs < 65535 → AllApart p.station rs ms → Marked p n r ds ms j → Marked p n r ds (all_after rs ms) (j + length rs)
all_on p n j r [] ds ms at far few apart m = subst (λ k. Marked p n r ds ms k) (let e : j ≡ j + 0 = omega arith in e) m
all_on p n j r (q ∷ rs) ds ms at far few apart m =
    let next = all_on p n (suc j) r rs ds (datagrams_after q ms) at (omega arith) (omega arith) apart.1 (goes_on p n j r q ds ms at far (omega arith) apart.0 m) in
    subst (λ k. Marked p n r ds (all_after rs (datagrams_after q ms)) k) (let e : suc j + length rs ≡ j + suc (length rs) = omega arith in e) next

-- as a session sees it: by the lengths at its station, command and register, counter and body
same_stations : (p : Plan) (n j : ℕ) → IsTurn n → station_of (aim p n).command (if is_by_place (aim p n).command then j else p.station) ≡ station_of (aim p n).command (if is_by_place (aim p n).command then 1 else p.station)
same_stations p n j IsTurn.return = refl
same_stations p n j IsTurn.watch = refl
same_stations p n j IsTurn.address = refl
same_stations p n j IsTurn.out_off = refl
same_stations p n j IsTurn.in_off = refl
same_stations p n j IsTurn.out_on = refl
same_stations p n j IsTurn.in_on = refl
same_stations p n j IsTurn.word = refl
same_stations p n j IsTurn.status = refl

module _ (lens : ℕ → Lens) (p : Plan) (n j : ℕ) (r : Esc.Registers) (ds ms : List Raw.Datagram) (at : IsTurn n) (m : Marked p n r ds ms j) where
  abbrev e : Raw.Datagram
  e = datagram_after r m.access

  command_is : e.head.command ≡ (aim p n).command
  command_is = ap (λ (h : Head). h.command) (head_kept r m.access) ∙ m.is.command

  ado_is : e.head.ado ≡ (aim p n).ado
  ado_is = ap (λ (h : Head). h.ado) (head_kept r m.access) ∙ m.is.ado

  station_is : station_of m.back.head.command m.back.head.adp ≡ station_of e.head.command e.head.adp
  station_is =
      (λ i. station_of (m.command i) (m.adp i)) ∙ same_stations p n j at ∙ sym (λ i. station_of (command_is i) (adp_behind p n r m.access at m.is i))

  access_is : access_of (lens (station_of m.back.head.command m.back.head.adp)) m.back.head.command m.back.head.ado m.back.body ≡ access_of (lens (station_of e.head.command e.head.adp)) e.head.command e.head.ado e.body
  access_is = λ i. access_of (lens (station_is i)) ((m.command ∙ sym command_is) i) ((m.ado ∙ sym ado_is) i) (m.body i)

  counter_is : (datagram_seen lens m.back).counter ≡ (datagram_seen lens e).counter
  counter_is = ap₂ (λ (a : Access) (c : ℕ). register_counter a c) access_is m.counter

  found_is : (datagram_seen lens m.back).found ≡ (datagram_seen lens e).found
  found_is = λ i. found_of (access_is i) (m.counter i) (m.body i)

-- BEHIND ALL
pub comes_back : (lens : ℕ → Lens) (p : Plan) (n : ℕ) (r : Esc.Registers) (rs : List Esc.Registers) (ds : List Raw.Datagram) → IsTurn n → length rs < 16 → AllApart p.station rs (datagrams_after r ds) → JustOne p n r ds →
    ComesBack lens p n r ds (all_after rs (datagrams_after r ds))
comes_back lens p n r rs ds at few apart one =
    let m = all_on p n 1 r rs ds (datagrams_after r ds) at (omega arith) (omega arith) apart (marks p n r ds at one) in
    let es = all_after rs (datagrams_after r ds) in
    record {
      access = m.access;
      back = m.back;
      beside = m.beside;
      is = m.is;
      counter = counter_is lens p n (1 + length rs) r ds es at m;
      found = found_is lens p n (1 + length rs) r ds es at m;
    }
