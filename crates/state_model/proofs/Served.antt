-- What a frame does to the registers of the slave that it serves, and what it brings back of its state service.
use Rattle.std.proofs.Common.{◌≡◌, ℕ, suc, ◌==◌, ◌&&◌, ◌⊎◌, inl, inr, Bool, true, false, not, is_some, Option, Some, None, List, [], ◌∷◌, ◌++◌, refl, ap, sym, ◌∙◌, if◌then◌else◌, eq-eqb}
use Rattle.std.proofs.Math.Dec.{eqb-suc-zero}
use Rattle.segment_model.specs.of_link_model.Mails.{LinkMail}
use Rattle.segment_model.specs.of_link_model.Slave.{Node}
use Rattle.segment_model.specs.of_link_model.Link.{written}
use Rattle.segment_model.specs.of_link_model.Frames.{Ask, node_meets}
use Rattle.segment_model.specs.Slaves.{Serving, Registers, Address, Access, Datagram, Found, Slave, is_meant, registers_met, counter_met, found_met, Ring, slave_meets, datagram_meets, slave_after, frame_after, all_back}
use Rattle.segment_model.specs.Record.{News, is_for, found_news, back_news}
use Rattle.state_model.specs.States.{Phase, Turn, phase_written, word_of, word_met, shown, reads}
use Rattle.state_model.specs.Promises.{statuses}
use Rattle.state_model.specs.Accounts.{Account, Duty, Stage, IsOther, Progress, phase_access, stage_access, duty_access, is_quiet, is_later, account_met, account_by, account_back, access_done, turn_progress, found_done}
use Rattle.state_model.proofs.Rings.{Reaches, NoneAnswers, LaterAccess, reaches_later, later_after, statuses_back, ring_account, ring_statuses, status_seen, statuses_seen, quiet_met, differ, place_after, other_apart, for_behind}

-- the account with this state service in hand
abbrev pub goes_on : {Q R : Type 0} → Account Q R → ℕ → ℕ → Stage → Account Q R
goes_on a target begun stage = record a { hand = Some (record { target = target; frame = begun; stage = stage }) }

-- WHAT A FRAME WITH THIS NUMBER DOES to a slave with registers `r`, in whose mailbox 0 stood `box`: `n` are its registers behind it, `b` is the
-- account behind `a`, and `ss` are the statuses that come back
pub data Served {M Q R : Type 0} (r n : Registers) (box : Option (LinkMail M)) (frame : ℕ) (a b : Account Q R) (ss : List (News M)) : Type 0 where
  stays : n ≡ r → b ≡ a → ss ≡ [] → Served r n box frame a b ss
  drained : (target begun : ℕ) → a ≡ goes_on a target begun Stage.Drains → box ≡ None → n ≡ r → b ≡ goes_on a target begun (Stage.Goes Phase.Ask) → ss ≡ [] → Served r n box frame a b ss
  wrote : (target begun : ℕ) (phase : Phase) → a ≡ goes_on a target begun (Stage.Goes phase) → reads phase ≡ false → n ≡ word_met r (word_of target phase) →
      b ≡ goes_on a target begun (Stage.Goes (phase_written phase)) → ss ≡ [] → Served r n box frame a b ss
  looked : (target begun : ℕ) (phase : Phase) → a ≡ goes_on a target begun (Stage.Goes phase) → reads phase ≡ true → n ≡ r →
      b ≡ account_by frame a (record { target = target; frame = begun; stage = Stage.Goes phase }) (turn_progress (shown target phase r.state r.refused)) →
      ss ≡ News.Status r.state r.refused ∷ [] → Served r n box frame a b ss

-- the same, seen from an equal state before and behind
pub served_as : {M Q R : Type 0} {r p n : Registers} {box old : Option (LinkMail M)} {frame : ℕ} {a b c : Account Q R} {ss ts : List (News M)} →
    p ≡ r → (old ≡ None → box ≡ None) → c ≡ b → ts ≡ ss → Served p n old frame a b ss → Served r n box frame a c ts
served_as e f g h (Served.stays i j k) = Served.stays (i ∙ e) (g ∙ j) (h ∙ k)
served_as e f g h (Served.drained target begun is empty i j k) = Served.drained target begun is (f empty) (i ∙ e) (g ∙ j) (h ∙ k)
served_as e f g h (Served.wrote target begun phase is doesnt i j k) = Served.wrote target begun phase is doesnt (i ∙ ap (λ q. word_met q (word_of target phase)) e) (g ∙ j) (h ∙ k)
served_as {frame = frame} {a = a} e f g h (Served.looked target begun phase is does i j k) =
    Served.looked target begun phase is does (i ∙ e)
    (g ∙ j ∙ ap (λ q. account_by frame a (record { target = target; frame = begun; stage = Stage.Goes phase }) (turn_progress (shown target phase q.state q.refused))) e)
    (h ∙ k ∙ ap (λ q. News.Status q.state q.refused ∷ []) e)

-- the account with this hand
abbrev pub with_hand : {Q R : Type 0} → Account Q R → Option Duty → Account Q R
with_hand a hand = record a { hand = hand }

abbrev pub duty_of : ℕ → ℕ → Stage → Duty
duty_of target begun stage = record { target = target; frame = begun; stage = stage }

-- a datagram leaves all, but that it may end a drain
record Leaves {V M Q R : Type 0} (station frame : ℕ) (s : Slave V M) (d : Datagram M) (a : Account Q R) : Type 0 where
  registers : (slave_meets station s d).registers ≡ s.registers
  quiet : status_seen station (datagram_meets station s d) ≡ []
  free : account_met station frame (with_hand a None) None (datagram_meets station s d) ≡ with_hand a None
  hand : (target begun : ℕ) (stage : Stage) → (let b = account_met station frame (goes_on a target begun stage) (Some (duty_of target begun stage)) (datagram_meets station s d) in
      (b ≡ goes_on a target begun stage) ⊎ ((stage ≡ Stage.Drains) × (s.node.out.box ≡ None) × (b ≡ goes_on a target begun (Stage.Goes Phase.Ask))))

module _ {M : Type 0} (station : ℕ) where
  unseen : (d : Datagram M) → is_for station d.address ≡ false → status_seen station d ≡ []
  unseen d e = ap (λ b. if b then (if d.counter == 0 then [] else statuses (found_news d.found)) else []) e

  unmet : {Q R : Type 0} (frame : ℕ) (a : Account Q R) (target begun : ℕ) (stage : Stage) (d : Datagram M) → is_for station d.address ≡ false →
      account_met station frame (goes_on a target begun stage) (Some (duty_of target begun stage)) d ≡ goes_on a target begun stage
  unmet frame a target begun stage d e =
      ap (λ b. if b && not (d.counter == 0) then account_by frame (goes_on a target begun stage) (duty_of target begun stage) (access_done target stage d.access d.found) else goes_on a target begun stage) e

empty_box : {M : Type 0} (box : Option (LinkMail M)) → is_some box ≡ false → box ≡ None
empty_box None e = refl
empty_box (Some m) e = absurd (cc)

module _ {V M : Type 0} (station : ℕ) where
  registers_left : (s : Slave V M) (d : Datagram M) → is_quiet d.access ≡ true → (slave_meets station s d).registers ≡ s.registers
  registers_left s d is = go (is_meant s.registers d.address)
    where
      go : (b : Bool) → (if b then registers_met s.registers d.access else s.registers) ≡ s.registers
      go true = quiet_met s.registers d.access is
      go false = refl

  other_leaves : {Q R : Type 0} (frame : ℕ) (s : Slave V M) (d : Datagram M) (a : Account Q R) → s.registers.station ≡ station → IsOther station d → Leaves station frame s d a
  other_leaves frame s d a at is =
      let mine : is_for station (datagram_meets station s d).address ≡ false = for_behind station d.address ∙ other_apart station d is in
      record {
        registers = ap (λ b. if b then registers_met s.registers d.access else s.registers) (ap (is_meant s.registers) is.address ∙ ap (λ n. n == is.other) at ∙ differ is.other station is.apart);
        quiet = unseen station (datagram_meets station s d) mine;
        free = refl;
        hand = λ target begun stage. inl (unmet station frame a target begun stage (datagram_meets station s d) mine);
      }

  past_leaves : {Q R : Type 0} (frame : ℕ) (s : Slave V M) (d : Datagram M) (a : Account Q R) → is_quiet d.access ≡ true → is_for station d.address ≡ false → Leaves station frame s d a
  past_leaves frame s d a is apart =
      let mine : is_for station (datagram_meets station s d).address ≡ false = for_behind station d.address ∙ apart in
      record {
        registers = registers_left s d is;
        quiet = unseen station (datagram_meets station s d) mine;
        free = refl;
        hand = λ target begun stage. inl (unmet station frame a target begun stage (datagram_meets station s d) mine);
      }

  -- a quiet datagram finds nothing but whether mailbox 0 is full
  abbrev Blank : Slave V M → Option Found → Type 0
  Blank s found = (found ≡ None) ⊎ (found ≡ Some (Found.Full (is_some s.node.out.box)))

  blank : (s : Slave V M) (d : Datagram M) → is_quiet d.access ≡ true → d.found ≡ None → Blank s (datagram_meets station s d).found
  blank s d is none = go (is_meant s.registers d.address) d.access is
    where
      go : (b : Bool) (access : Access) → is_quiet access ≡ true → Blank s (if b then found_met s d.found access else d.found)
      go false access e = inl none
      go true (Access.SetStation station) e = absurd (cc)
      go true (Access.SetFirst right) e = absurd (cc)
      go true (Access.SetSecond right) e = absurd (cc)
      go true (Access.SetControl target acknowledge) e = absurd (cc)
      go true Access.ReadState e = absurd (cc)
      go true Access.ReadFull e = inr refl
      go true Access.Elsewhere e = inl none

  blank_status : (s : Slave V M) (mine met : Bool) (found : Option Found) → Blank s found → (if mine then (if met then [] else statuses {M = M} (found_news found)) else []) ≡ []
  blank_status s false met found e = refl
  blank_status s true true found e = refl
  blank_status s true false found (inl e) = ap (λ f. statuses {M = M} (found_news f)) e
  blank_status s true false found (inr e) = ap (λ f. statuses {M = M} (found_news f)) e

  -- it goes on with any stage, but that it may end a drain
  blank_done : {R : Type 0} (s : Slave V M) (target : ℕ) (stage : Stage) (access : Access) (found : Option Found) → is_quiet access ≡ true → Blank s found →
      (access_done {R = R} target stage access found ≡ Progress.On stage)
      ⊎ ((stage ≡ Stage.Drains) × (s.node.out.box ≡ None) × (access_done {R = R} target stage access found ≡ Progress.On (Stage.Goes Phase.Ask)))
  blank_done s target stage (Access.SetStation station) found is e = absurd (cc)
  blank_done s target stage (Access.SetFirst right) found is e = absurd (cc)
  blank_done s target stage (Access.SetSecond right) found is e = absurd (cc)
  blank_done s target stage (Access.SetControl word acknowledge) found is e = absurd (cc)
  blank_done s target stage Access.ReadState found is e = absurd (cc)
  blank_done s target stage Access.Elsewhere found is e = inl refl
  blank_done {R = R} s target stage Access.ReadFull found is (inl e) = inl (ap (λ f. found_done {R = R} target stage f) e)
  blank_done {R = R} s target (Stage.Goes phase) Access.ReadFull found is (inr e) = inl (ap (λ f. found_done {R = R} target (Stage.Goes phase) f) e)
  blank_done {R = R} s target Stage.Drains Access.ReadFull found is (inr e) = go (is_some s.node.out.box) refl e
    where
      go : (b : Bool) → is_some s.node.out.box ≡ b → found ≡ Some (Found.Full b) →
          (found_done {R = R} target Stage.Drains found ≡ Progress.On Stage.Drains)
          ⊎ ((Stage.Drains ≡ Stage.Drains) × (s.node.out.box ≡ None) × (found_done {R = R} target Stage.Drains found ≡ Progress.On (Stage.Goes Phase.Ask)))
      go true f e = inl (ap (λ f. found_done {R = R} target Stage.Drains f) e)
      go false f e = inr (refl, empty_box s.node.out.box f, ap (λ f. found_done {R = R} target Stage.Drains f) e)

  quiet_leaves : {Q R : Type 0} (frame : ℕ) (s : Slave V M) (d : Datagram M) (a : Account Q R) → is_quiet d.access ≡ true → d.found ≡ None → Leaves station frame s d a
  quiet_leaves {Q} {R} frame s d a is none = record {
    registers = registers_left s d is;
    quiet = blank_status s (is_for station e.address) (e.counter == 0) e.found (blank s d is none);
    free = refl;
    hand = λ target begun stage. go target begun stage (is_for station e.address && not (e.counter == 0)) (blank_done {R = R} s target stage d.access e.found is (blank s d is none));
  }
    where
      e : Datagram M
      e = datagram_meets station s d

      go : (target begun : ℕ) (stage : Stage) (met : Bool) →
          (access_done {R = R} target stage d.access e.found ≡ Progress.On stage)
          ⊎ ((stage ≡ Stage.Drains) × (s.node.out.box ≡ None) × (access_done {R = R} target stage d.access e.found ≡ Progress.On (Stage.Goes Phase.Ask))) →
          (let b = if met then account_by frame (goes_on a target begun stage) (duty_of target begun stage) (access_done target stage d.access e.found) else goes_on a target begun stage in
          (b ≡ goes_on a target begun stage) ⊎ ((stage ≡ Stage.Drains) × (s.node.out.box ≡ None) × (b ≡ goes_on a target begun (Stage.Goes Phase.Ask))))
      go target begun stage false f = inl refl
      go target begun stage true (inl f) = inl (ap (account_by frame (goes_on a target begun stage) (duty_of target begun stage)) f)
      go target begun stage true (inr f) = inr (f.0, f.1, ap (account_by frame (goes_on a target begun stage) (duty_of target begun stage)) f.2)

  box_met : (n : Node M (Serving V M)) (ask : Ask M) → (node_meets n ask).out.box ≡ None → n.out.box ≡ None
  box_met n (Ask.WriteMail m) e = go n.out.box refl e
    where
      go : (box : Option (LinkMail M)) → n.out.box ≡ box → (written n.out box m).box ≡ None → n.out.box ≡ None
      go None f e = f
      go (Some stands) f e = e
  box_met n Ask.ReadMail e = e
  box_met n (Ask.WriteRequest bit) e = e
  box_met n Ask.ReadAcknowledge e = e
  box_met n Ask.Other e = e

  -- no frame empties mailbox 0
  box_before : (s : Slave V M) (d : Datagram M) → (slave_meets station s d).node.out.box ≡ None → s.node.out.box ≡ None
  box_before s d = go (d.gram.station == station)
    where
      go : (b : Bool) → (if b then node_meets s.node d.gram.ask else s.node).out.box ≡ None → s.node.out.box ≡ None
      go true e = box_met s.node d.gram.ask e
      go false e = e

  at_behind : (s : Slave V M) (d : Datagram M) → (slave_meets station s d).registers ≡ s.registers → s.registers.station ≡ station → (slave_meets station s d).registers.station ≡ station
  at_behind s d same at = ap (λ r. r.station) same ∙ at

  -- datagrams that are none of a state service leave all, and so does its own when it was met
  record Rested {Q R : Type 0} (frame : ℕ) (s : Slave V M) (a : Account Q R) (ds : List (Datagram M)) : Type 0 where
    registers : (slave_after station s ds).registers ≡ s.registers
    quiet : statuses_seen station (frame_after station s ds) ≡ []
    free : account_back station frame (with_hand a None) (frame_after station s ds) ≡ with_hand a None
    goes : (target begun : ℕ) (phase : Phase) → account_back station frame (goes_on a target begun (Stage.Goes phase)) (frame_after station s ds) ≡ goes_on a target begun (Stage.Goes phase)

  rested_more : {Q R : Type 0} (frame : ℕ) (s : Slave V M) (a : Account Q R) (d : Datagram M) (ds : List (Datagram M)) → Leaves station frame s d a → Rested frame (slave_meets station s d) a ds → Rested frame s a (d ∷ ds)
  rested_more {Q} {R} frame s a d ds one more = record {
    registers = more.registers ∙ one.registers;
    quiet = ap (λ l. l ++ statuses_seen station (frame_after station (slave_meets station s d) ds)) one.quiet ∙ more.quiet;
    free = ap (λ b. account_back station frame b (frame_after station (slave_meets station s d) ds)) one.free ∙ more.free;
    goes = λ target begun phase. go target begun phase (one.hand target begun (Stage.Goes phase)) ∙ more.goes target begun phase;
  }
    where
      go : (target begun : ℕ) (phase : Phase) →
          (let b = account_met station frame (goes_on a target begun (Stage.Goes phase)) (Some (duty_of target begun (Stage.Goes phase))) (datagram_meets station s d) in
          (b ≡ goes_on a target begun (Stage.Goes phase)) ⊎ ((Stage.Goes phase ≡ Stage.Drains) × (s.node.out.box ≡ None) × (b ≡ goes_on a target begun (Stage.Goes Phase.Ask)))) →
          account_back station frame (goes_on a target begun (Stage.Goes phase)) (frame_after station s (d ∷ ds)) ≡ account_back station frame (goes_on a target begun (Stage.Goes phase)) (frame_after station (slave_meets station s d) ds)
      go target begun phase (inl e) = ap (λ b. account_back station frame b (frame_after station (slave_meets station s d) ds)) e
      go target begun phase (inr e) = absurd (let no = e.0 in cc)

  rests : {Q R : Type 0} (frame : ℕ) (s : Slave V M) (a : Account Q R) (access : Option Access) (ds : List (Datagram M)) → s.registers.station ≡ station → access ≡ None → Reaches station access ds → Rested frame s a ds
  rests frame s a access es at none Reaches.nothing = record { registers = refl; quiet = refl; free = refl; goes = λ target begun phase. refl }
  rests frame s a access es at none (Reaches.other d ds is rest) =
      let one = other_leaves frame s d a at is in
      rested_more frame s a d ds one (rests frame (slave_meets station s d) a access ds (at_behind s d one.registers at) none rest)
  rests frame s a access es at none (Reaches.past d ds is apart rest) =
      let one = past_leaves frame s d a is apart in
      rested_more frame s a d ds one (rests frame (slave_meets station s d) a access ds (at_behind s d one.registers at) none rest)
  rests frame s a access es at none (Reaches.quiet d ds is found rest) =
      let one = quiet_leaves frame s d a is found in
      rested_more frame s a d ds one (rests frame (slave_meets station s d) a access ds (at_behind s d one.registers at) none rest)
  rests frame s a o es at none (Reaches.own d ds address found later rest) = absurd (cc)

  -- what the slave does by the datagrams of a frame
  abbrev ServedBy : {Q R : Type 0} → ℕ → Slave V M → Account Q R → List (Datagram M) → Type 0
  ServedBy frame s a ds = Served s.registers (slave_after station s ds).registers s.node.out.box frame a (account_back station frame a (frame_after station s ds)) (statuses_seen station (frame_after station s ds))

  served_more : {Q R : Type 0} (frame : ℕ) (s : Slave V M) (d : Datagram M) (ds : List (Datagram M)) (a : Account Q R) → (slave_meets station s d).registers ≡ s.registers →
      status_seen station (datagram_meets station s d) ≡ [] → account_met station frame a a.hand (datagram_meets station s d) ≡ a → ServedBy frame (slave_meets station s d) a ds → ServedBy frame s a (d ∷ ds)
  served_more frame s d ds a registers quiet same more =
      served_as registers (box_before s d)
      (ap (λ c. account_back station frame c (frame_after station (slave_meets station s d) ds)) same)
      (ap (λ l. l ++ statuses_seen station (frame_after station (slave_meets station s d) ds)) quiet) more

  -- the datagram of the state service itself
  module _ (s : Slave V M) (d : Datagram M) (at : s.registers.station ≡ station) (address : d.address ≡ Address.Station station) (access : Access) (is : d.access ≡ access) where
    meant : is_meant s.registers d.address ≡ true
    meant = ap (is_meant s.registers) address ∙ eq-eqb s.registers.station station at

    for_it : is_for station (datagram_meets station s d).address ≡ true
    for_it = for_behind station d.address ∙ ap (is_for station) address ∙ eq-eqb station station refl

    found_is : (datagram_meets station s d).found ≡ found_met s d.found access
    found_is = ap (λ b. if b then found_met s d.found d.access else d.found) meant ∙ ap (found_met s d.found) is

    counter_is : (datagram_meets station s d).counter ≡ counter_met d.counter access
    counter_is = ap (λ b. if b then counter_met d.counter d.access else d.counter) meant ∙ ap (counter_met d.counter) is

    own_registers : (slave_meets station s d).registers ≡ registers_met s.registers access
    own_registers = ap (λ b. if b then registers_met s.registers d.access else s.registers) meant ∙ ap (registers_met s.registers) is

    counted : counter_met d.counter access ≡ suc d.counter → ((datagram_meets station s d).counter == 0) ≡ false
    counted e = ap (λ c. c == 0) (counter_is ∙ e) ∙ never d.counter
      where
        never : (c : ℕ) → (suc c == 0) ≡ false
        never c = eqb-suc-zero c

    own_status : counter_met d.counter access ≡ suc d.counter → status_seen station (datagram_meets station s d) ≡ statuses (found_news (found_met s d.found access))
    own_status e =
        ap (λ b. if b then (if (datagram_meets station s d).counter == 0 then [] else statuses (found_news (datagram_meets station s d).found)) else []) for_it
        ∙ ap (λ b. if b then [] else statuses {M = M} (found_news (datagram_meets station s d).found)) (counted e)
        ∙ ap (λ f. statuses {M = M} (found_news f)) found_is

    own_account : {Q R : Type 0} (frame : ℕ) (a : Account Q R) (target begun : ℕ) (stage : Stage) → counter_met d.counter access ≡ suc d.counter →
        account_met station frame (goes_on a target begun stage) (Some (duty_of target begun stage)) (datagram_meets station s d) ≡
        account_by frame (goes_on a target begun stage) (duty_of target begun stage) (access_done target stage access (found_met s d.found access))
    own_account {Q} {R} frame a target begun stage e =
        ap (λ b. if b && not (m.counter == 0) then by (access_done target stage d.access m.found) else goes_on a target begun stage) for_it
        ∙ ap (λ b. if not b then by (access_done target stage d.access m.found) else goes_on a target begun stage) (counted e)
        ∙ ap (λ c. by (access_done target stage c m.found)) is
        ∙ ap (λ f. by (access_done target stage access f)) found_is
      where
        m : Datagram M
        m = datagram_meets station s d

        by : Progress R → Account Q R
        by p = account_by frame (goes_on a target begun stage) (duty_of target begun stage) p

  drain_more : {Q R : Type 0} (frame : ℕ) (s : Slave V M) (a : Account Q R) (target begun : ℕ) (d : Datagram M) (ds : List (Datagram M)) → Leaves station frame s d a → Rested frame (slave_meets station s d) a ds →
      ServedBy frame (slave_meets station s d) (goes_on a target begun Stage.Drains) ds → ServedBy frame s (goes_on a target begun Stage.Drains) (d ∷ ds)
  drain_more frame s a target begun d ds one rest more = go (one.hand target begun Stage.Drains)
    where
      go : (let b = account_met station frame (goes_on a target begun Stage.Drains) (Some (duty_of target begun Stage.Drains)) (datagram_meets station s d) in
          (b ≡ goes_on a target begun Stage.Drains) ⊎ ((Stage.Drains ≡ Stage.Drains) × (s.node.out.box ≡ None) × (b ≡ goes_on a target begun (Stage.Goes Phase.Ask)))) →
          ServedBy frame s (goes_on a target begun Stage.Drains) (d ∷ ds)
      go (inl e) = served_more frame s d ds (goes_on a target begun Stage.Drains) one.registers one.quiet e more
      go (inr e) = Served.drained target begun refl e.1 (rest.registers ∙ one.registers)
          (ap (λ b. account_back station frame b (frame_after station (slave_meets station s d) ds)) e.2 ∙ rest.goes target begun Phase.Ask)
          (ap (λ l. l ++ statuses_seen station (frame_after station (slave_meets station s d) ds)) one.quiet ∙ rest.quiet)

  drains : {Q R : Type 0} (frame : ℕ) (s : Slave V M) (a : Account Q R) (target begun : ℕ) (access : Option Access) (ds : List (Datagram M)) → s.registers.station ≡ station → access ≡ None → Reaches station access ds →
      ServedBy frame s (goes_on a target begun Stage.Drains) ds
  drains frame s a target begun access es at none Reaches.nothing = Served.stays refl refl refl
  drains frame s a target begun access es at none (Reaches.other d ds is rest) =
      let one = other_leaves frame s d a at is in
      drain_more frame s a target begun d ds one (rests frame (slave_meets station s d) a access ds (at_behind s d one.registers at) none rest)
      (drains frame (slave_meets station s d) a target begun access ds (at_behind s d one.registers at) none rest)
  drains frame s a target begun access es at none (Reaches.past d ds is apart rest) =
      let one = past_leaves frame s d a is apart in
      drain_more frame s a target begun d ds one (rests frame (slave_meets station s d) a access ds (at_behind s d one.registers at) none rest)
      (drains frame (slave_meets station s d) a target begun access ds (at_behind s d one.registers at) none rest)
  drains frame s a target begun access es at none (Reaches.quiet d ds is found rest) =
      let one = quiet_leaves frame s d a is found in
      drain_more frame s a target begun d ds one (rests frame (slave_meets station s d) a access ds (at_behind s d one.registers at) none rest)
      (drains frame (slave_meets station s d) a target begun access ds (at_behind s d one.registers at) none rest)
  drains frame s a target begun o es at none (Reaches.own d ds address found later rest) = absurd (cc)

  -- the datagram of a phase
  module _ {Q R : Type 0} (frame : ℕ) (s : Slave V M) (a : Account Q R) (target begun : ℕ) (d : Datagram M) (ds : List (Datagram M)) (at : s.registers.station ≡ station)
      (address : d.address ≡ Address.Station station) (found : d.found ≡ None) (later : is_later d.access ≡ true) (rest : Reaches station None ds) where
    abbrev behind : Account Q R → Account Q R
    behind b = account_back station frame b (frame_after station (slave_meets station s d) ds)

    tail : Rested frame (slave_meets station s d) a ds
    tail = rests frame (slave_meets station s d) a None ds ((place_after station s (d ∷ []) (later, tt)).station ∙ at) refl rest

    writes_word : (phase : Phase) (word : ℕ) (bit : Bool) → reads phase ≡ false → word_of target phase ≡ Some (word, bit) → d.access ≡ Access.SetControl word bit → ServedBy frame s (goes_on a target begun (Stage.Goes phase)) (d ∷ ds)
    writes_word phase word bit doesnt control is =
        Served.wrote target begun phase refl doesnt
        (tail.registers ∙ own_registers s d at address (Access.SetControl word bit) is ∙ ap (word_met s.registers) (sym control))
        (ap behind (own_account s d at address (Access.SetControl word bit) is frame a target begun (Stage.Goes phase) refl) ∙ tail.goes target begun (phase_written phase))
        (ap (λ l. l ++ statuses_seen station (frame_after station (slave_meets station s d) ds)) (own_status s d at address (Access.SetControl word bit) is refl ∙ ap (λ f. statuses {M = M} (found_news f)) found) ∙ tail.quiet)

    turned_rests : (turn : Turn R) (stage : Stage) →
        (let b = account_by frame (goes_on a target begun stage) (duty_of target begun stage) (turn_progress turn) in behind b ≡ b)
    turned_rests (Turn.Goes phase) stage = tail.goes target begun phase
    turned_rests (Turn.Ends answer) stage = ended.free
      where
        ended : Rested frame (slave_meets station s d) (record a { over = a.over ++ record { target = target; frame = begun; answer = answer; completed = frame } ∷ [] }) ds
        ended = rests frame (slave_meets station s d) _ None ds ((place_after station s (d ∷ []) (later, tt)).station ∙ at) refl rest

    reads_status : (phase : Phase) → reads phase ≡ true → d.access ≡ Access.ReadState → ServedBy frame s (goes_on a target begun (Stage.Goes phase)) (d ∷ ds)
    reads_status phase does is =
        Served.looked target begun phase refl does
        (tail.registers ∙ own_registers s d at address Access.ReadState is)
        (ap behind (own_account s d at address Access.ReadState is frame a target begun (Stage.Goes phase) refl) ∙ turned_rests (shown target phase s.registers.state s.registers.refused) (Stage.Goes phase))
        (ap (λ l. l ++ statuses_seen station (frame_after station (slave_meets station s d) ds)) (own_status s d at address Access.ReadState is refl) ∙ ap (λ l. News.Status s.registers.state s.registers.refused ∷ l) tail.quiet)

    of_phase : (phase : Phase) → d.access ≡ phase_access target phase → ServedBy frame s (goes_on a target begun (Stage.Goes phase)) (d ∷ ds)
    of_phase Phase.Ask is = writes_word Phase.Ask target false refl refl is
    of_phase Phase.Await is = reads_status Phase.Await refl is
    of_phase (Phase.Acknowledge state code) is = writes_word (Phase.Acknowledge state code) state true refl refl is
    of_phase (Phase.Recover code) is = reads_status (Phase.Recover code) refl is

  goes_more : {Q R : Type 0} (frame : ℕ) (s : Slave V M) (a : Account Q R) (target begun : ℕ) (phase : Phase) (d : Datagram M) (ds : List (Datagram M)) → Leaves station frame s d a →
      ServedBy frame (slave_meets station s d) (goes_on a target begun (Stage.Goes phase)) ds → ServedBy frame s (goes_on a target begun (Stage.Goes phase)) (d ∷ ds)
  goes_more frame s a target begun phase d ds one more = go (one.hand target begun (Stage.Goes phase))
    where
      go : (let b = account_met station frame (goes_on a target begun (Stage.Goes phase)) (Some (duty_of target begun (Stage.Goes phase))) (datagram_meets station s d) in
          (b ≡ goes_on a target begun (Stage.Goes phase)) ⊎ ((Stage.Goes phase ≡ Stage.Drains) × (s.node.out.box ≡ None) × (b ≡ goes_on a target begun (Stage.Goes Phase.Ask)))) →
          ServedBy frame s (goes_on a target begun (Stage.Goes phase)) (d ∷ ds)
      go (inl e) = served_more frame s d ds (goes_on a target begun (Stage.Goes phase)) one.registers one.quiet e more
      go (inr e) = absurd (let no = e.0 in cc)

  goes : {Q R : Type 0} (frame : ℕ) (s : Slave V M) (a : Account Q R) (target begun : ℕ) (phase : Phase) (access : Option Access) (ds : List (Datagram M)) → s.registers.station ≡ station →
      access ≡ Some (phase_access target phase) → Reaches station access ds → ServedBy frame s (goes_on a target begun (Stage.Goes phase)) ds
  goes frame s a target begun phase access es at is Reaches.nothing = Served.stays refl refl refl
  goes frame s a target begun phase access es at is (Reaches.other d ds other rest) =
      let one = other_leaves frame s d a at other in
      goes_more frame s a target begun phase d ds one (goes frame (slave_meets station s d) a target begun phase access ds (at_behind s d one.registers at) is rest)
  goes frame s a target begun phase access es at is (Reaches.past d ds quiet apart rest) =
      let one = past_leaves frame s d a quiet apart in
      goes_more frame s a target begun phase d ds one (goes frame (slave_meets station s d) a target begun phase access ds (at_behind s d one.registers at) is rest)
  goes frame s a target begun phase access es at is (Reaches.quiet d ds quiet found rest) =
      let one = quiet_leaves frame s d a quiet found in
      goes_more frame s a target begun phase d ds one (goes frame (slave_meets station s d) a target begun phase access ds (at_behind s d one.registers at) is rest)
  goes frame s a target begun phase o es at is (Reaches.own d ds address found later rest) = of_phase frame s a target begun d ds at address found later rest phase (cc)

  -- A FRAME AT THE SLAVE, for an account with any state service in hand or none
  pub serves : {Q R : Type 0} (frame : ℕ) (s : Slave V M) (a : Account Q R) (ds : List (Datagram M)) → s.registers.station ≡ station → Reaches station (duty_access a.hand) ds → ServedBy frame s a ds
  serves frame s a ds at is = go a.hand is
    where
      go : (hand : Option Duty) → Reaches station (duty_access hand) ds → ServedBy frame s (with_hand a hand) ds
      go None is = let rest = rests frame s a None ds at refl is in Served.stays rest.registers rest.free rest.quiet
      go (Some duty) is = stage duty.stage is
        where
          stage : (stage : Stage) → Reaches station (stage_access duty.target stage) ds → ServedBy frame s (goes_on a duty.target duty.frame stage) ds
          stage Stage.Drains is = drains frame s a duty.target duty.frame None ds at refl is
          stage (Stage.Goes phase) is = goes frame s a duty.target duty.frame phase (Some (phase_access duty.target phase)) ds at refl is

  -- the same with the slaves behind it, by the record of the frame
  pub serves_on : {Q R : Type 0} (frame last : ℕ) (s : Slave V M) (a : Account Q R) (behind : Ring V M) (ds : List (Datagram M)) → s.registers.station ≡ station → NoneAnswers station behind → Reaches station (duty_access a.hand) ds →
      (let back = all_back behind (frame_after station s ds) in
      Served s.registers (slave_after station s ds).registers s.node.out.box frame a (account_back station frame a back) (statuses (back_news station last back)))
  serves_on frame last s a behind ds at none is =
      let later = later_after station s ds (reaches_later station (duty_access a.hand) ds is) in
      served_as refl (λ e. e) (ring_account station frame a behind (frame_after station s ds) none later)
      (statuses_back station last (all_back behind (frame_after station s ds)) ∙ ring_statuses station behind (frame_after station s ds) none later)
      (serves frame s a ds at is)

-- what an account sends is such an access
pub later_duty : (hand : Option Duty) → LaterAccess (duty_access hand)
later_duty None = tt
later_duty (Some duty) = go duty.stage
  where
    go : (stage : Stage) → LaterAccess (stage_access duty.target stage)
    go Stage.Drains = tt
    go (Stage.Goes Phase.Ask) = refl
    go (Stage.Goes Phase.Await) = refl
    go (Stage.Goes (Phase.Acknowledge state code)) = refl
    go (Stage.Goes (Phase.Recover code)) = refl
