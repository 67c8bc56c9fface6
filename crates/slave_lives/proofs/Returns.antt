-- A REOPENING, access by access.
use Rattle.std.proofs.Common.{◌≡◌, ◌⊎◌, inl, inr, ℕ, ◌<◌, ◌≤◌, ◌==◌, ◌&&◌, not, Bool, true, false, List, [], ◌∷◌, length, refl, ap, sym, ◌∙◌, subst, arith}
use Rattle.std.specs.Prelude.{Some}
use Rattle.std.proofs.lemmas.Bool.{eq-eqb}
use Rattle.frames_seen.specs.of_ec_fields.Fields.{number_at}
use Rattle.frames_seen.specs.of_datagrams.declared.command.Command.TheVariants.{Aprd, Apwr, Fprd, Fpwr}
use Rattle.frames_seen.specs.of_datagrams.Datagram as Raw
use Rattle.frames_seen.specs.of_esc_registers.declared.registers.Registers as Esc
use Rattle.frames_seen.specs.of_esc_registers.Manager.{is_right, is_enabled}
use Rattle.frames_seen.specs.of_slave_node.Passing.{passed, registers_after}
use Rattle.frames_seen.specs.of_mailbox_slave.Kept.{Kept}
use Rattle.frames_seen.specs.of_mailbox_slave.Registers.{request_of}
use Rattle.frames_seen.specs.of_frame_view.View.{Lens}
use Rattle.frames_seen.specs.Slaves.{registers_seen}
use Rattle.slave_lives.specs.Steps.{Running}
use Rattle.slave_lives.specs.Opening.{Plan, IsPlan, IsAccess, manager_octets, AtMostOne, JustOne}
use Rattle.slave_lives.specs.Returning.{IsReturned, IsTurn, turn_behind}
use Rattle.slave_lives.proofs.Brings.{with_body, name_back}
use Rattle.slave_lives.proofs.Openings.{the_access, none_moves}
use Rattle.frames_seen.proofs.Owns.{unmoved}

-- what a change of enable leaves of the full bit of a mailbox that is turned off
gone : (full on : Bool) → (on ≡ false → full ≡ false) → (full && not on) ≡ false
gone true true off = refl
gone true false off = off refl
gone false on off = refl

len_off : (start len control activate : ℕ) → len < 65536 → number_at 2 (manager_octets start len control activate) 2 ≡ len
len_off start len control activate few = omega arith

-- what changes by an access, with everything else as it was
pub record Both {S : Type 0} (u : Running S) (p : Plan) (n : ℕ) (r : Esc.Registers) (k : Kept) (s : S) : Type 0 where
  pub stays : IsReturned u p n r k s
  pub goes : IsReturned u p (turn_behind n) r k s

module _ {S : Type 0} (u : Running S) (boot : Bool) (lens : ℕ → Lens) (p : Plan) (plan : IsPlan boot lens p) (r : Esc.Registers) (k : Kept) (s : S) where
  -- one more access is behind
  later : (n m : ℕ) (q : Esc.Registers) → n ≤ m → IsReturned u p n q k s → (3 < m → q.station ≡ p.station) → (4 < m → q.out_manager.full ≡ false) →
      (5 < m → (q.in_manager.full ≡ false) × (request_of q ≡ false)) → (6 < m → is_right 4096 38 q.out_manager ≡ true) → (7 < m → is_right 6144 34 q.in_manager ≡ true) → IsReturned u p m q k s
  later n m q more b station out inn first second = record {
    box = b.box;
    cleared = b.cleared;
    waits = b.waits;
    out = b.out;
    back = b.back;
    status = b.status;
    code = b.code;
    refused = b.refused;
    state = stated b.state;
    word = λ w is. worded (b.word w is);
    off_out = b.off_out;
    off_in = b.off_in;
    called = b.called;
    station = station;
    out_empty = out;
    in_empty = inn;
    first = first;
    second = second;
    acknowledged = b.acknowledged;
  }
    where
      stated : {x y : Type 0} → x ⊎ ((7 < n) × y) → x ⊎ ((7 < m) × y)
      stated (inl x) = inl x
      stated (inr y) = let late = y.0 in inr (omega arith, y.1)

      worded : {x y : Type 0} → x ⊎ (y × (7 < n)) → x ⊎ (y × (7 < m))
      worded (inl x) = inl x
      worded (inr y) = let late = y.1 in inr (y.0, omega arith)

  module _ (d : Raw.Datagram) where
    -- access 1
    return_is : (passed r (with_body d Apwr 0 288 (17 ∷ 0 ∷ []))).registers ≡ record r { al_control = 17; unhandled = true }
    return_is = refl

    return_stays : IsReturned u p 1 r k s → IsReturned u p 1 (record r { al_control = 17; unhandled = true }) k s
    return_stays b = record {
      box = b.box;
      cleared = b.cleared;
      waits = b.waits;
      out = b.out;
      back = b.back;
      status = b.status;
      code = b.code;
      refused = b.refused;
      state = b.state;
      word = λ w is. inl (let e : w ≡ (1, true) = cc in e, in_init b.state);
      off_out = b.off_out;
      off_in = b.off_in;
      called = b.called;
      station = b.station;
      out_empty = b.out_empty;
      in_empty = b.in_empty;
      first = b.first;
      second = b.second;
      acknowledged = b.acknowledged;
    }
      where
        in_init : ((registers_seen r).state ≡ 1) ⊎ ((7 < 1) × ((registers_seen r).state ≡ p.start)) → (registers_seen r).state ≡ 1
        in_init (inl is) = is
        in_init (inr late) = let no_ = late.0 in absurd (omega arith)

    -- access 3
    address_stays : IsReturned u p 3 r k s → IsReturned u p 3 (record r { station = p.station }) k s
    address_stays b = record {
      box = b.box;
      cleared = b.cleared;
      waits = b.waits;
      out = b.out;
      back = b.back;
      status = b.status;
      code = b.code;
      refused = b.refused;
      state = b.state;
      word = b.word;
      off_out = b.off_out;
      off_in = b.off_in;
      called = inr refl;
      station = λ late. refl;
      out_empty = b.out_empty;
      in_empty = b.in_empty;
      first = b.first;
      second = b.second;
      acknowledged = b.acknowledged;
    }

    -- access 4
    abbrev out_off_ : Esc.Registers
    out_off_ = record r { out_manager = record r.out_manager { start = 4096; length = p.out; control = 38; activate = 0; full = false } }

    out_off_is : IsReturned u p 4 r k s → (passed r (with_body d Fpwr p.station 2048 (manager_octets 4096 p.out 38 0))).registers ≡ out_off_
    out_off_is b =
        let same = eq-eqb p.station r.station (sym (b.station (omega arith))) in
        let len = len_off 4096 p.out 38 0 plan.out in
        let empty = gone r.out_manager.full (is_enabled r.out_manager.activate) b.off_out in
        rw (same, len, empty) refl

    out_off_stays : (n : ℕ) → n ≤ 6 → IsReturned u p n r k s → IsReturned u p n out_off_ k s
    out_off_stays n soon b = record {
      box = b.box;
      cleared = b.cleared;
      waits = b.waits;
      out = b.out;
      back = b.back;
      status = b.status;
      code = b.code;
      refused = b.refused;
      state = b.state;
      word = b.word;
      off_out = λ off. refl;
      off_in = b.off_in;
      called = b.called;
      station = b.station;
      out_empty = λ late. refl;
      in_empty = b.in_empty;
      first = λ late. absurd (omega arith);
      second = λ late. absurd (omega arith);
      acknowledged = b.acknowledged;
    }

    -- access 5
    abbrev in_off_ : Esc.Registers
    in_off_ = record r { in_manager = record r.in_manager { start = 6144; length = p.back; control = 34; activate = 0; full = false } }

    in_off_is : IsReturned u p 5 r k s → (passed r (with_body d Fpwr p.station 2056 (manager_octets 6144 p.back 34 0))).registers ≡ in_off_
    in_off_is b =
        let same = eq-eqb p.station r.station (sym (b.station (omega arith))) in
        let len = len_off 6144 p.back 34 0 plan.back in
        let empty = gone r.in_manager.full (is_enabled r.in_manager.activate) b.off_in in
        rw (same, len, empty) refl

    in_off_stays : (n : ℕ) → n ≤ 6 → IsReturned u p n r k s → IsReturned u p n in_off_ k s
    in_off_stays n soon b = record {
      box = b.box;
      cleared = b.cleared;
      waits = b.waits;
      out = b.out;
      back = b.back;
      status = b.status;
      code = b.code;
      refused = b.refused;
      state = b.state;
      word = b.word;
      off_out = b.off_out;
      off_in = λ off. refl;
      called = b.called;
      station = b.station;
      out_empty = b.out_empty;
      in_empty = λ late. (refl, refl);
      first = b.first;
      second = λ late. absurd (omega arith);
      acknowledged = b.acknowledged;
    }

    -- access 6
    abbrev out_on_ : Esc.Registers
    out_on_ = record r { out_manager = record r.out_manager { start = 4096; length = p.out; control = 38; activate = 1; full = false } }

    out_on_is : IsReturned u p 6 r k s → (passed r (with_body d Fpwr p.station 2048 (manager_octets 4096 p.out 38 1))).registers ≡ out_on_
    out_on_is b =
        let same = eq-eqb p.station r.station (sym (b.station (omega arith))) in
        let len = len_off 4096 p.out 38 1 plan.out in
        let empty = b.out_empty (omega arith) in
        rw (same, len, empty) refl

    out_right_ : IsReturned u p 6 r k s → is_right 4096 38 out_on_.out_manager ≡ true
    out_right_ b = let same : (p.out == length r.out_manager.area) ≡ true = eq-eqb p.out (length r.out_manager.area) (sym b.out) in rw same refl

    out_on_stays : IsReturned u p 6 r k s → IsReturned u p 6 out_on_ k s
    out_on_stays b = record {
      box = b.box;
      cleared = b.cleared;
      waits = b.waits;
      out = b.out;
      back = b.back;
      status = b.status;
      code = b.code;
      refused = b.refused;
      state = b.state;
      word = b.word;
      off_out = λ off. refl;
      off_in = b.off_in;
      called = b.called;
      station = b.station;
      out_empty = λ late. refl;
      in_empty = b.in_empty;
      first = λ late. out_right_ b;
      second = b.second;
      acknowledged = b.acknowledged;
    }

    -- access 7
    abbrev in_on_ : Esc.Registers
    in_on_ = record r { in_manager = record r.in_manager { start = 6144; length = p.back; control = 34; activate = 1; full = false } }

    in_on_is : IsReturned u p 7 r k s → (passed r (with_body d Fpwr p.station 2056 (manager_octets 6144 p.back 34 1))).registers ≡ in_on_
    in_on_is b =
        let same = eq-eqb p.station r.station (sym (b.station (omega arith))) in
        let len = len_off 6144 p.back 34 1 plan.back in
        let empty = (b.in_empty (omega arith)).0 in
        rw (same, len, empty) refl

    in_right_ : IsReturned u p 7 r k s → is_right 6144 34 in_on_.in_manager ≡ true
    in_right_ b = let same : (p.back == length r.in_manager.area) ≡ true = eq-eqb p.back (length r.in_manager.area) (sym b.back) in rw same refl

    in_on_stays : IsReturned u p 7 r k s → IsReturned u p 7 in_on_ k s
    in_on_stays b = record {
      box = b.box;
      cleared = b.cleared;
      waits = b.waits;
      out = b.out;
      back = b.back;
      status = b.status;
      code = b.code;
      refused = b.refused;
      state = b.state;
      word = b.word;
      off_out = b.off_out;
      off_in = λ off. refl;
      called = b.called;
      station = b.station;
      out_empty = b.out_empty;
      in_empty = λ late. (refl, refl);
      first = b.first;
      second = λ late. in_right_ b;
      acknowledged = b.acknowledged;
    }

    -- access 8
    abbrev word_on_ : Esc.Registers
    word_on_ = record r { al_control = number_at 2 (p.start ∷ 0 ∷ []) 0; unhandled = true }

    word_is_ : IsReturned u p 8 r k s → (passed r (with_body d Fpwr p.station 288 (p.start ∷ 0 ∷ []))).registers ≡ word_on_
    word_is_ b = let same = eq-eqb p.station r.station (sym (b.station (omega arith))) in rw same refl

    asked_ : (registers_seen word_on_).control ≡ Some (p.start, false)
    asked_ = go plan.start
      where
        go : (p.start ≡ 2) ⊎ ((p.start ≡ 3) × (boot ≡ true)) → (registers_seen word_on_).control ≡ Some (p.start, false)
        go (inl two) = rw two refl
        go (inr three) = let e = three.0 in rw e refl

    word_stays : IsReturned u p 8 r k s → IsReturned u p 8 word_on_ k s
    word_stays b = record {
      box = b.box;
      cleared = b.cleared;
      waits = b.waits;
      out = b.out;
      back = b.back;
      status = b.status;
      code = b.code;
      refused = b.refused;
      state = b.state;
      word = λ w is. inr (let same : Some w ≡ Some (p.start, false) = sym is ∙ asked_ in let e : w ≡ (p.start, false) = cc in e, omega arith);
      off_out = b.off_out;
      off_in = b.off_in;
      called = b.called;
      station = b.station;
      out_empty = b.out_empty;
      in_empty = b.in_empty;
      first = b.first;
      second = b.second;
      acknowledged = b.acknowledged;
    }

    -- accesses 2 and 9
    watch_is : (passed r (with_body d Aprd 0 304 (0 ∷ 0 ∷ 0 ∷ 0 ∷ 0 ∷ 0 ∷ []))).registers ≡ r
    watch_is = refl

    status_is_ : IsReturned u p 9 r k s → (passed r (with_body d Fprd p.station 304 (0 ∷ 0 ∷ 0 ∷ 0 ∷ 0 ∷ 0 ∷ []))).registers ≡ r
    status_is_ b = let same = eq-eqb p.station r.station (sym (b.station (omega arith))) in rw same refl

    abbrev pub Met : ℕ → Esc.Registers → Type 0
    Met n q = Both u p n q k s

    pub met : (n : ℕ) → IsTurn n → IsReturned u p n r k s → IsAccess p n d → Met n (passed r d).registers
    met n IsTurn.return b a = subst (Met 1) (sym (ap (λ e. (passed r e).registers) (the_access p 1 d a) ∙ return_is))
        (let now = return_stays b in record { stays = now; goes = later 1 2 _ (omega arith) now (λ l. absurd (omega arith)) (λ l. absurd (omega arith)) (λ l. absurd (omega arith)) (λ l. absurd (omega arith)) (λ l. absurd (omega arith)) })
    met n IsTurn.watch b a = subst (Met 2) (sym (ap (λ e. (passed r e).registers) (the_access p 2 d a) ∙ watch_is))
        (record { stays = b; goes = later 2 3 r (omega arith) b (λ l. absurd (omega arith)) (λ l. absurd (omega arith)) (λ l. absurd (omega arith)) (λ l. absurd (omega arith)) (λ l. absurd (omega arith)) })
    met n IsTurn.address b a = subst (Met 3) (sym (ap (λ e. (passed r e).registers) (the_access p 3 d a) ∙ (let e = name_back p.station plan.station in rw e refl)))
        (let now = address_stays b in record { stays = now; goes = later 3 4 _ (omega arith) now (λ l. refl) (λ l. absurd (omega arith)) (λ l. absurd (omega arith)) (λ l. absurd (omega arith)) (λ l. absurd (omega arith)) })
    met n IsTurn.out_off b a = subst (Met 4) (sym (ap (λ e. (passed r e).registers) (the_access p 4 d a) ∙ out_off_is b))
        (let now = out_off_stays 4 (omega arith) b in record { stays = now; goes = later 4 5 _ (omega arith) now (λ l. b.station (omega arith)) (λ l. refl) (λ l. absurd (omega arith)) (λ l. absurd (omega arith)) (λ l. absurd (omega arith)) })
    met n IsTurn.in_off b a = subst (Met 5) (sym (ap (λ e. (passed r e).registers) (the_access p 5 d a) ∙ in_off_is b))
        (let now = in_off_stays 5 (omega arith) b in record { stays = now; goes = later 5 6 _ (omega arith) now (λ l. b.station (omega arith)) (λ l. b.out_empty (omega arith)) (λ l. (refl, refl)) (λ l. absurd (omega arith)) (λ l. absurd (omega arith)) })
    met n IsTurn.out_on b a = subst (Met 6) (sym (ap (λ e. (passed r e).registers) (the_access p 6 d a) ∙ out_on_is b))
        (let now = out_on_stays b in record { stays = now; goes = later 6 7 _ (omega arith) now (λ l. b.station (omega arith)) (λ l. refl) (λ l. b.in_empty (omega arith)) (λ l. out_right_ b) (λ l. absurd (omega arith)) })
    met n IsTurn.in_on b a = subst (Met 7) (sym (ap (λ e. (passed r e).registers) (the_access p 7 d a) ∙ in_on_is b))
        (let now = in_on_stays b in record { stays = now; goes = later 7 8 _ (omega arith) now (λ l. b.station (omega arith)) (λ l. b.out_empty (omega arith)) (λ l. (refl, refl)) (λ l. b.first (omega arith)) (λ l. in_right_ b) })
    met n IsTurn.word b a = subst (Met 8) (sym (ap (λ e. (passed r e).registers) (the_access p 8 d a) ∙ word_is_ b))
        (let now = word_stays b in record { stays = now; goes = later 8 9 _ (omega arith) now (λ l. b.station (omega arith)) (λ l. b.out_empty (omega arith)) (λ l. b.in_empty (omega arith)) (λ l. b.first (omega arith)) (λ l. b.second (omega arith)) })
    met n IsTurn.status b a = subst (Met 9) (sym (ap (λ e. (passed r e).registers) (the_access p 9 d a) ∙ status_is_ b)) (record { stays = b; goes = b })

-- A FRAME while an access is in hand, at a slave in Init, whether it meets it or not; and one in which it does
pub frame_returns : {S : Type 0} (u : Running S) (boot : Bool) (lens : ℕ → Lens) (p : Plan) → IsPlan boot lens p → (n : ℕ) (r : Esc.Registers) (k : Kept) (s : S) (ds : List Raw.Datagram) → IsTurn n → IsReturned u p n r k s → AtMostOne p n r ds →
    IsReturned u p n (registers_after r ds) k s
frame_returns u boot lens p plan n r k s [] at b one = b
frame_returns u boot lens p plan n r k s (d ∷ ds) at b (inl other) =
    frame_returns u boot lens p plan n (passed r d).registers k s ds at (subst (λ q. IsReturned u p n q k s) (sym (unmoved r d other.0)) b) other.1
frame_returns u boot lens p plan n r k s (d ∷ ds) at b (inr mine) =
    subst (λ q. IsReturned u p n q k s) (sym (none_moves (passed r d).registers ds mine.2)) (met u boot lens p plan r k s d n at b mine.0).stays

pub frame_turns : {S : Type 0} (u : Running S) (boot : Bool) (lens : ℕ → Lens) (p : Plan) → IsPlan boot lens p → (n : ℕ) (r : Esc.Registers) (k : Kept) (s : S) (ds : List Raw.Datagram) → IsTurn n → IsReturned u p n r k s → JustOne p n r ds →
    IsReturned u p (turn_behind n) (registers_after r ds) k s
frame_turns u boot lens p plan n r k s [] at b one = absurd one
frame_turns u boot lens p plan n r k s (d ∷ ds) at b (inl other) =
    frame_turns u boot lens p plan n (passed r d).registers k s ds at (subst (λ q. IsReturned u p n q k s) (sym (unmoved r d other.0)) b) other.1
frame_turns u boot lens p plan n r k s (d ∷ ds) at b (inr mine) =
    subst (λ q. IsReturned u p (turn_behind n) q k s) (sym (none_moves (passed r d).registers ds mine.2)) (met u boot lens p plan r k s d n at b mine.0).goes
