-- THE ACCESS OF AN OPENING on its way: other slaves leave it, and its own slave meets it.
use Rattle.std.proofs.Common.{◌≡◌, ◌⊎◌, inl, inr, ℕ, suc, ◌+◌, ◌-◌, ◌%◌, ◌<◌, ◌≤◌, ◌==◌, ◌&&◌, Bool, true, false, List, [], ◌∷◌, length, refl, ap, sym, ◌∙◌, subst, arith}
use Rattle.std.specs.Prelude.{if◌then◌else◌, None}
use Rattle.std.proofs.lemmas.Bool.{ne_eqb, eq-eqb}
use Rattle.frames_seen.specs.of_datagrams.Datagram as Raw
use Rattle.frames_seen.specs.of_esc_registers.declared.registers.Registers as Esc
use Rattle.frames_seen.specs.of_esc_registers.Access.{is_by_place, is_by_station, moved_on, passed_at, row_of}
use Rattle.frames_seen.specs.of_slave_node.Passing.{passed, datagram_after, datagrams_after}
use Rattle.frames_seen.specs.of_mailbox_slave.Kept.{Kept}
use Rattle.frames_seen.specs.of_frame_view.View.{Lens}
use Rattle.frames_seen.specs.Spoken.{means}
use Rattle.frames_seen.specs.Own.{is_to, IsApart, NoneMeant}
use Rattle.frames_seen.specs.Ring.{all_after, AllApart}
use Rattle.slave_lives.specs.Steps.{Running}
use Rattle.slave_lives.specs.Opening.{Plan, IsPlan, aim, IsAccess, AtMostOne, JustOne}
use Rattle.slave_lives.specs.Returning.{IsReturned, IsTurn}
use Rattle.slave_lives.specs.Ways.{IsNotFor, AllNotFor, IsOnWay, OneOnWay, JustOnWay}
use Rattle.frames_seen.proofs.Boxes.{aimed}
use Rattle.frames_seen.proofs.Owns.{unmoved, to_stays}
use Rattle.frames_seen.proofs.Places.{alone_by, else_behind, on_by_one, not_here}
use Rattle.slave_lives.proofs.Returns.{met}

-- at its own place it comes as the access
pub arrives : (p : Plan) (n place : ℕ) (d : Raw.Datagram) → IsTurn n → place < 16 → IsOnWay p n place place d → IsAccess p n d
arrives p n place d at near w = record { command = w.command; adp = w.adp ∙ go at; ado = w.ado; octets = w.octets }
  where
    zero_ : (65536 - place + place) % 65536 ≡ 0
    zero_ = omega arith

    go : {m : ℕ} → IsTurn m → (if is_by_place (aim p m).command then (65536 - place + place) % 65536 else p.station) ≡ (aim p m).adp
    go IsTurn.return = zero_
    go IsTurn.watch = zero_
    go IsTurn.address = zero_
    go IsTurn.out_off = refl
    go IsTurn.in_off = refl
    go IsTurn.out_on = refl
    go IsTurn.in_on = refl
    go IsTurn.word = refl
    go IsTurn.status = refl

-- and means the slave
pub meant : (p : Plan) (n : ℕ) (r : Esc.Registers) (d : Raw.Datagram) → IsTurn n → (3 < n → r.station ≡ p.station) → IsAccess p n d → means r.station d.head ≡ true
meant p n r d at station a = (λ i. means r.station (record d.head { command = a.command i; adp = a.adp i })) ∙ go at station
  where
    go : {m : ℕ} → IsTurn m → (3 < m → r.station ≡ p.station) → means r.station (record d.head { command = (aim p m).command; adp = (aim p m).adp }) ≡ true
    go IsTurn.return s = refl
    go IsTurn.watch s = refl
    go IsTurn.address s = refl
    go IsTurn.out_off s = eq-eqb p.station r.station (sym (s (omega arith)))
    go IsTurn.in_off s = eq-eqb p.station r.station (sym (s (omega arith)))
    go IsTurn.out_on s = eq-eqb p.station r.station (sym (s (omega arith)))
    go IsTurn.in_on s = eq-eqb p.station r.station (sym (s (omega arith)))
    go IsTurn.word s = eq-eqb p.station r.station (sym (s (omega arith)))
    go IsTurn.status s = eq-eqb p.station r.station (sym (s (omega arith)))

-- what isn't for it doesn't mean it
pub not_meant : (p : Plan) (place : ℕ) (r : Esc.Registers) (d : Raw.Datagram) → place < 16 → (r.station ≡ 0) ⊎ (r.station ≡ p.station) → IsNotFor p place place d → means r.station d.head ≡ false
not_meant p place r d near called other = alone_by place r d d.head.command near other.0 (go called)
  where
    go : (r.station ≡ 0) ⊎ (r.station ≡ p.station) → is_to r.station d ≡ false
    go (inl e) = ap (λ x. is_to x d) e ∙ other.2
    go (inr e) = ap (λ x. is_to x d) e ∙ other.1

pub none_meant : (p : Plan) (place : ℕ) (r : Esc.Registers) (ds : List Raw.Datagram) → place < 16 → (r.station ≡ 0) ⊎ (r.station ≡ p.station) → AllNotFor p place place ds → NoneMeant r ds
none_meant p place r [] near called others = tt
none_meant p place r (d ∷ ds) near called others =
    let not_ = not_meant p place r d near called others.0 in
    (not_, none_meant p place (passed r d).registers ds near (subst (λ x. (x.station ≡ 0) ⊎ (x.station ≡ p.station)) (sym (unmoved r d not_)) called) others.1)

-- A FRAME COMES to the slave that it opens
pub one_comes : {S : Type 0} (u : Running S) (boot : Bool) (lens : ℕ → Lens) (p : Plan) → IsPlan boot lens p → (n place : ℕ) (r : Esc.Registers) (k : Kept) (s : S) (ds : List Raw.Datagram) → IsTurn n → place < 16 →
    IsReturned u p n r k s → OneOnWay p n place place ds → AtMostOne p n r ds
one_comes u boot lens p plan n place r k s [] at near b one = tt
one_comes u boot lens p plan n place r k s (d ∷ ds) at near b (inl other) =
    let not_ = not_meant p place r d near b.called other.0 in
    inl (not_, one_comes u boot lens p plan n place (passed r d).registers k s ds at near (subst (λ q. IsReturned u p n q k s) (sym (unmoved r d not_)) b) other.1)
one_comes u boot lens p plan n place r k s (d ∷ ds) at near b (inr mine) =
    let a = arrives p n place d at near mine.0 in
    let called = (met u boot lens p plan r k s d n at b a).stays.called in
    inr (a, meant p n r d at b.station a, none_meant p place (passed r d).registers ds near called mine.1)

-- a slave that isn't meant moves a datagram on
pub moved : (q : Esc.Registers) (d : Raw.Datagram) → means q.station d.head ≡ false → datagram_after q d ≡ record d { head = moved_on d.head }
moved q d not_ = ap (λ b. record d { head = (passed_at q d.head d.body (if b then row_of q d.head.ado (length d.body) else None)).head; body = (passed_at q d.head d.body (if b then row_of q d.head.ado (length d.body) else None)).body }) not_

moves_on : (p : Plan) (n place behind : ℕ) (d : Raw.Datagram) → IsTurn n → place < 16 → behind < 16 → IsOnWay p n place behind (aimed d (aim p n).command d.head.adp d.head.ado) →
    IsOnWay p n place (suc behind) (record d { head = moved_on (aimed d (aim p n).command d.head.adp d.head.ado).head })
moves_on p n place behind d IsTurn.return few near w = record { command = refl; adp = ap (λ a. (a + 1) % 65536) w.adp ∙ on_by_one place behind few near; ado = w.ado; octets = w.octets }
moves_on p n place behind d IsTurn.watch few near w = record { command = refl; adp = ap (λ a. (a + 1) % 65536) w.adp ∙ on_by_one place behind few near; ado = w.ado; octets = w.octets }
moves_on p n place behind d IsTurn.address few near w = record { command = refl; adp = ap (λ a. (a + 1) % 65536) w.adp ∙ on_by_one place behind few near; ado = w.ado; octets = w.octets }
moves_on p n place behind d IsTurn.out_off few near w = record { command = refl; adp = w.adp; ado = w.ado; octets = w.octets }
moves_on p n place behind d IsTurn.in_off few near w = record { command = refl; adp = w.adp; ado = w.ado; octets = w.octets }
moves_on p n place behind d IsTurn.out_on few near w = record { command = refl; adp = w.adp; ado = w.ado; octets = w.octets }
moves_on p n place behind d IsTurn.in_on few near w = record { command = refl; adp = w.adp; ado = w.ado; octets = w.octets }
moves_on p n place behind d IsTurn.word few near w = record { command = refl; adp = w.adp; ado = w.ado; octets = w.octets }
moves_on p n place behind d IsTurn.status few near w = record { command = refl; adp = w.adp; ado = w.ado; octets = w.octets }

pub way_behind : (p : Plan) (n place behind : ℕ) (q : Esc.Registers) (d : Raw.Datagram) → IsTurn n → place < 16 → behind < 16 → IsOnWay p n place behind d → means q.station d.head ≡ false → IsOnWay p n place (suc behind) (datagram_after q d)
way_behind p n place behind q d at few near w not_ =
    let same : d ≡ aimed d (aim p n).command d.head.adp d.head.ado = λ i. record d { head = record d.head { command = w.command i } } in
    let on = moves_on p n place behind d at few near (subst (IsOnWay p n place behind) same w) in
    subst (IsOnWay p n place (suc behind)) (sym (moved q d not_ ∙ (λ i. record d { head = moved_on (record d.head { command = w.command i }) }))) on

-- it doesn't mean a slave at another place, with another station
pub not_its : (p : Plan) (n place behind : ℕ) (q : Esc.Registers) (d : Raw.Datagram) → IsTurn n → place < 16 → behind < 16 → (place == behind) ≡ false → (is_to p.station d ≡ true → means q.station d.head ≡ false) → IsOnWay p n place behind d →
    means q.station d.head ≡ false
not_its p n place behind q d at few near other apart w = go at (λ i. means q.station (record d.head { command = w.command i })) (λ i. is_by_station (w.command i) && d.head.adp == p.station) w.adp
  where
    go : {m : ℕ} → IsTurn m → means q.station d.head ≡ means q.station (record d.head { command = (aim p m).command }) → is_to p.station d ≡ (is_by_station (aim p m).command && d.head.adp == p.station) →
        d.head.adp ≡ (if is_by_place (aim p m).command then (65536 - place + behind) % 65536 else p.station) → means q.station d.head ≡ false
    go IsTurn.return e f adp = e ∙ ap (λ a. a == 0) adp ∙ not_here place behind few near other
    go IsTurn.watch e f adp = e ∙ ap (λ a. a == 0) adp ∙ not_here place behind few near other
    go IsTurn.address e f adp = e ∙ ap (λ a. a == 0) adp ∙ not_here place behind few near other
    go IsTurn.out_off e f adp = apart (f ∙ eq-eqb d.head.adp p.station adp)
    go IsTurn.in_off e f adp = apart (f ∙ eq-eqb d.head.adp p.station adp)
    go IsTurn.out_on e f adp = apart (f ∙ eq-eqb d.head.adp p.station adp)
    go IsTurn.in_on e f adp = apart (f ∙ eq-eqb d.head.adp p.station adp)
    go IsTurn.word e f adp = apart (f ∙ eq-eqb d.head.adp p.station adp)
    go IsTurn.status e f adp = apart (f ∙ eq-eqb d.head.adp p.station adp)

pub others_behind : (p : Plan) (place behind : ℕ) (q : Esc.Registers) (ds : List Raw.Datagram) → behind < 16 → AllNotFor p place behind ds → AllNotFor p place (suc behind) (datagrams_after q ds)
others_behind p place behind q [] near others = tt
others_behind p place behind q (d ∷ ds) near others =
    ((else_behind place behind q d near others.0.0, to_stays p.station q d ∙ others.0.1, to_stays 0 q d ∙ others.0.2), others_behind p place behind (passed q d).registers ds near others.1)

pub one_behind : (p : Plan) (n place behind : ℕ) (q : Esc.Registers) (ds : List Raw.Datagram) → IsTurn n → place < 16 → behind < 16 → (place == behind) ≡ false → IsApart p.station q ds → OneOnWay p n place behind ds →
    OneOnWay p n place (suc behind) (datagrams_after q ds)
one_behind p n place behind q [] at few near other apart one = tt
one_behind p n place behind q (d ∷ ds) at few near other apart (inl x) =
    inl ((else_behind place behind q d near x.0.0, to_stays p.station q d ∙ x.0.1, to_stays 0 q d ∙ x.0.2), one_behind p n place behind (passed q d).registers ds at few near other apart.1 x.1)
one_behind p n place behind q (d ∷ ds) at few near other apart (inr x) =
    inr (way_behind p n place behind q d at few near x.0 (not_its p n place behind q d at few near other apart.0 x.0), others_behind p place behind (passed q d).registers ds near x.1)

-- ALONG THE RING up to its place
pub one_on_way : (p : Plan) (n place behind : ℕ) (rs : List Esc.Registers) (ds : List Raw.Datagram) → IsTurn n → place < 16 → behind + length rs ≤ place → AllApart p.station rs ds → OneOnWay p n place behind ds →
    OneOnWay p n place (behind + length rs) (all_after rs ds)
one_on_way p n place behind [] ds at few near apart one = subst (λ m. OneOnWay p n place m ds) (let e : behind ≡ behind + 0 = omega arith in e) one
one_on_way p n place behind (q ∷ rs) ds at few near apart one =
    let other : (place == behind) ≡ false = ne_eqb place behind (λ (e : place ≡ behind). omega arith) in
    let next = one_on_way p n place (suc behind) rs (datagrams_after q ds) at few (omega arith) apart.1 (one_behind p n place behind q ds at few (omega arith) other apart.0 one) in
    subst (λ m. OneOnWay p n place m (all_after rs (datagrams_after q ds))) (let e : suc behind + length rs ≡ behind + suc (length rs) = omega arith in e) next

-- the same of a frame that has the access
just_behind : (p : Plan) (n place behind : ℕ) (q : Esc.Registers) (ds : List Raw.Datagram) → IsTurn n → place < 16 → behind < 16 → (place == behind) ≡ false → IsApart p.station q ds → JustOnWay p n place behind ds →
    JustOnWay p n place (suc behind) (datagrams_after q ds)
just_behind p n place behind q [] at few near other apart one = absurd one
just_behind p n place behind q (d ∷ ds) at few near other apart (inl x) =
    inl ((else_behind place behind q d near x.0.0, to_stays p.station q d ∙ x.0.1, to_stays 0 q d ∙ x.0.2), just_behind p n place behind (passed q d).registers ds at few near other apart.1 x.1)
just_behind p n place behind q (d ∷ ds) at few near other apart (inr x) =
    inr (way_behind p n place behind q d at few near x.0 (not_its p n place behind q d at few near other apart.0 x.0), others_behind p place behind (passed q d).registers ds near x.1)

pub just_on_way : (p : Plan) (n place behind : ℕ) (rs : List Esc.Registers) (ds : List Raw.Datagram) → IsTurn n → place < 16 → behind + length rs ≤ place → AllApart p.station rs ds → JustOnWay p n place behind ds →
    JustOnWay p n place (behind + length rs) (all_after rs ds)
just_on_way p n place behind [] ds at few near apart one = subst (λ m. JustOnWay p n place m ds) (let e : behind ≡ behind + 0 = omega arith in e) one
just_on_way p n place behind (q ∷ rs) ds at few near apart one =
    let other : (place == behind) ≡ false = ne_eqb place behind (λ (e : place ≡ behind). omega arith) in
    let next = just_on_way p n place (suc behind) rs (datagrams_after q ds) at few (omega arith) apart.1 (just_behind p n place behind q ds at few (omega arith) other apart.0 one) in
    subst (λ m. JustOnWay p n place m (all_after rs (datagrams_after q ds))) (let e : suc behind + length rs ≡ behind + suc (length rs) = omega arith in e) next

-- at the slave that has its station or none, where the access leaves it one of these
module _ (p : Plan) (n place : ℕ) (at : IsTurn n) (near : place < 16) (calls : (r : Esc.Registers) (d : Raw.Datagram) → (r.station ≡ 0) ⊎ (r.station ≡ p.station) → IsAccess p n d → ((passed r d).registers.station ≡ 0) ⊎ ((passed r d).registers.station ≡ p.station)) where
  pub called_comes : (r : Esc.Registers) (ds : List Raw.Datagram) → (r.station ≡ 0) ⊎ (r.station ≡ p.station) → (3 < n → r.station ≡ p.station) → OneOnWay p n place place ds → AtMostOne p n r ds
  called_comes r [] called station one = tt
  called_comes r (d ∷ ds) called station (inl other) =
      let not_ = not_meant p place r d near called other.0 in
      let same = sym (unmoved r d not_) in
      inl (not_, called_comes (passed r d).registers ds (subst (λ x. (x.station ≡ 0) ⊎ (x.station ≡ p.station)) same called) (λ late. subst (λ x. x.station ≡ p.station) same (station late)) other.1)
  called_comes r (d ∷ ds) called station (inr mine) =
      let a = arrives p n place d at near mine.0 in
      inr (a, meant p n r d at station a, none_meant p place (passed r d).registers ds near (calls r d called a) mine.1)

  pub called_just : (r : Esc.Registers) (ds : List Raw.Datagram) → (r.station ≡ 0) ⊎ (r.station ≡ p.station) → (3 < n → r.station ≡ p.station) → JustOnWay p n place place ds → JustOne p n r ds
  called_just r [] called station one = absurd one
  called_just r (d ∷ ds) called station (inl other) =
      let not_ = not_meant p place r d near called other.0 in
      let same = sym (unmoved r d not_) in
      inl (not_, called_just (passed r d).registers ds (subst (λ x. (x.station ≡ 0) ⊎ (x.station ≡ p.station)) same called) (λ late. subst (λ x. x.station ≡ p.station) same (station late)) other.1)
  called_just r (d ∷ ds) called station (inr mine) =
      let a = arrives p n place d at near mine.0 in
      inr (a, meant p n r d at station a, none_meant p place (passed r d).registers ds near (calls r d called a) mine.1)
