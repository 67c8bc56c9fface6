-- What other slaves do to a frame: all that it has for a station to which they don't answer they leave.
use Rattle.std.proofs.Common.{◌≡◌, ℕ, zero, suc, ◌==◌, ◌&&◌, Bool, true, false, not, Option, Some, None, List, [], ◌∷◌, ◌++◌, map, refl, ap, sym, ◌∙◌, if◌then◌else◌, eqb-true, eq-eqb}
use Rattle.std.specs.Prelude.{⊤}
use Rattle.segment_model.specs.of_link_model.Mails.{news}
use Rattle.segment_model.specs.of_link_model.Frames.{Ask, Gram}
use Rattle.segment_model.specs.Slaves.{Registers, Address, Access, Datagram, Slave, Ring, is_meant, address_behind, registers_met, counter_met, found_met, slave_meets, datagram_meets, slave_after, frame_after, all_back}
use Rattle.segment_model.specs.Record.{News, is_for, gram_news, last_heard, found_news, datagram_news, back_news}
use Rattle.state_model.specs.Promises.{statuses}
use Rattle.state_model.specs.Accounts.{Account, Duty, IsOther, IsServed, is_quiet, is_later, account_met, account_by, account_back, access_done}

-- no access of the frame sets a station address or a sync manager
abbrev pub AllLater : {M : Type 0} → List (Datagram M) → Type 0
AllLater [] = ⊤
AllLater (d ∷ ds) = (is_later d.access ≡ true) × AllLater ds

-- the access that a frame may have for a station, if any, is such a one
abbrev pub LaterAccess : Option Access → Type 0
LaterAccess None = ⊤
LaterAccess (Some access) = is_later access ≡ true

-- no slave of the ring answers to the station
abbrev pub NoneAnswers : {V M : Type 0} → ℕ → Ring V M → Type 0
NoneAnswers station [] = ⊤
NoneAnswers station (n ∷ ns) = ((n.1.registers.station == station) ≡ false) × NoneAnswers station ns

-- A frame for a station on its way: as it was sent, but that slaves which don't answer to the station have met what isn't for it
pub data Reaches {M : Type 0} (station : ℕ) : Option Access → List (Datagram M) → Type 0 where
  nothing : {access : Option Access} → Reaches station access []
  other : {access : Option Access} (d : Datagram M) (ds : List (Datagram M)) → IsOther station d → Reaches station access ds → Reaches station access (d ∷ ds)
  past : {access : Option Access} (d : Datagram M) (ds : List (Datagram M)) → is_quiet d.access ≡ true → is_for station d.address ≡ false → Reaches station access ds → Reaches station access (d ∷ ds)
  quiet : {access : Option Access} (d : Datagram M) (ds : List (Datagram M)) → is_quiet d.access ≡ true → d.found ≡ None → Reaches station access ds → Reaches station access (d ∷ ds)
  own : (d : Datagram M) (ds : List (Datagram M)) → d.address ≡ Address.Station station → d.found ≡ None → is_later d.access ≡ true → Reaches station None ds → Reaches station (Some d.access) (d ∷ ds)

pub quiet_later : (a : Access) → is_quiet a ≡ true → is_later a ≡ true
quiet_later (Access.SetStation station) e = absurd (cc)
quiet_later (Access.SetFirst right) e = absurd (cc)
quiet_later (Access.SetSecond right) e = absurd (cc)
quiet_later (Access.SetControl target acknowledge) e = refl
quiet_later Access.ReadState e = refl
quiet_later Access.ReadFull e = refl
quiet_later Access.Elsewhere e = refl

-- a quiet access leaves the registers
pub quiet_met : (r : Registers) (a : Access) → is_quiet a ≡ true → registers_met r a ≡ r
quiet_met r (Access.SetStation station) e = absurd (cc)
quiet_met r (Access.SetFirst right) e = absurd (cc)
quiet_met r (Access.SetSecond right) e = absurd (cc)
quiet_met r (Access.SetControl target acknowledge) e = absurd (cc)
quiet_met r Access.ReadState e = absurd (cc)
quiet_met r Access.ReadFull e = refl
quiet_met r Access.Elsewhere e = refl

pub differ : (a b : ℕ) → (a == b) ≡ false → (b == a) ≡ false
differ a b e = go (b == a) refl
  where
    go : (same : Bool) → (b == a) ≡ same → (b == a) ≡ false
    go false f = f
    go true f = absurd (let same = eq-eqb a b (sym (eqb-true b a f)) in cc)

module _ {M : Type 0} (station : ℕ) where
  pub reaches : (access : Option Access) (ds : List (Datagram M)) → LaterAccess access → IsServed station access ds → Reaches station access ds
  reaches access es later IsServed.nothing = Reaches.nothing
  reaches access es later (IsServed.other d ds is rest) = Reaches.other d ds is (reaches access ds later rest)
  reaches access es later (IsServed.quiet d ds is found rest) = Reaches.quiet d ds is found (reaches access ds later rest)
  reaches o es later (IsServed.own d ds address found rest) = Reaches.own d ds address found later (reaches None ds tt rest)

  pub reaches_later : (access : Option Access) (ds : List (Datagram M)) → Reaches station access ds → AllLater ds
  reaches_later access es Reaches.nothing = tt
  reaches_later access es (Reaches.other d ds is rest) = (is.later, reaches_later access ds rest)
  reaches_later access es (Reaches.past d ds is apart rest) = (quiet_later d.access is, reaches_later access ds rest)
  reaches_later access es (Reaches.quiet d ds is found rest) = (quiet_later d.access is, reaches_later access ds rest)
  reaches_later o es (Reaches.own d ds address found later rest) = (later, reaches_later None ds rest)

  pub other_apart : (d : Datagram M) → IsOther station d → is_for station d.address ≡ false
  other_apart d is = ap (is_for station) is.address ∙ is.apart

-- station address and sync managers are the same
pub record SamePlace (r n : Registers) : Type 0 where
  pub station : n.station ≡ r.station
  pub first : n.first ≡ r.first
  pub second : n.second ≡ r.second

pub same_place : (r : Registers) → SamePlace r r
same_place r = record { station = refl; first = refl; second = refl }

pub place_on : (r n m : Registers) → SamePlace r n → SamePlace n m → SamePlace r m
place_on r n m a b = record { station = b.station ∙ a.station; first = b.first ∙ a.first; second = b.second ∙ a.second }

place_met : (r : Registers) (a : Access) → is_later a ≡ true → SamePlace r (registers_met r a)
place_met r (Access.SetStation station) e = absurd (cc)
place_met r (Access.SetFirst right) e = absurd (cc)
place_met r (Access.SetSecond right) e = absurd (cc)
place_met r (Access.SetControl target acknowledge) e = record { station = refl; first = refl; second = refl }
place_met r Access.ReadState e = same_place r
place_met r Access.ReadFull e = same_place r
place_met r Access.Elsewhere e = same_place r

pub for_behind : (station : ℕ) (a : Address) → is_for station (address_behind a) ≡ is_for station a
for_behind station (Address.Station o) = refl
for_behind station (Address.Place zero) = refl
for_behind station (Address.Place (suc n)) = refl
for_behind station Address.Passed = refl

-- an address for the station doesn't mean a slave that doesn't answer to it
unmeant : (station : ℕ) (r : Registers) (a : Address) → (r.station == station) ≡ false → is_for station a ≡ true → is_meant r a ≡ false
unmeant station r (Address.Station o) e f = ap (λ n. r.station == n) (eqb-true o station f) ∙ e
unmeant station r (Address.Place n) e f = absurd (cc)
unmeant station r Address.Passed e f = absurd (cc)

-- what the slave leaves of a datagram for the station
pub record SameFor {M : Type 0} (station : ℕ) (d e : Datagram M) : Type 0 where
  pub mine : is_for station e.address ≡ is_for station d.address
  pub access : e.access ≡ d.access
  pub counter : is_for station d.address ≡ true → e.counter ≡ d.counter
  pub found : is_for station d.address ≡ true → e.found ≡ d.found

module _ {V M : Type 0} where
  place_meets : (place : ℕ) (s : Slave V M) (d : Datagram M) → is_later d.access ≡ true → SamePlace s.registers (slave_meets place s d).registers
  place_meets place s d later = go (is_meant s.registers d.address)
    where
      go : (b : Bool) → SamePlace s.registers (if b then registers_met s.registers d.access else s.registers)
      go true = place_met s.registers d.access later
      go false = same_place s.registers

  -- a frame of a session leaves station address and sync managers
  pub place_after : (place : ℕ) (s : Slave V M) (ds : List (Datagram M)) → AllLater ds → SamePlace s.registers (slave_after place s ds).registers
  place_after place s [] later = same_place s.registers
  place_after place s (d ∷ ds) later =
      place_on s.registers (slave_meets place s d).registers (slave_after place (slave_meets place s d) ds).registers
      (place_meets place s d later.0) (place_after place (slave_meets place s d) ds later.1)

  pub later_after : (place : ℕ) (s : Slave V M) (ds : List (Datagram M)) → AllLater ds → AllLater (frame_after place s ds)
  later_after place s [] later = tt
  later_after place s (d ∷ ds) later = (later.0, later_after place (slave_meets place s d) ds later.1)

  pub later_back : (ns : Ring V M) (ds : List (Datagram M)) → AllLater ds → AllLater (all_back ns ds)
  later_back [] ds later = later
  later_back (n ∷ ns) ds later = later_back ns (frame_after n.0 n.1 ds) (later_after n.0 n.1 ds later)

  pub same_for : (station place : ℕ) (s : Slave V M) (d : Datagram M) → (s.registers.station == station) ≡ false → SameFor station d (datagram_meets place s d)
  same_for station place s d e = record {
    mine = for_behind station d.address;
    access = refl;
    counter = λ f. ap (λ b. if b then counter_met d.counter d.access else d.counter) (unmeant station s.registers d.address e f);
    found = λ f. ap (λ b. if b then found_met s d.found d.access else d.found) (unmeant station s.registers d.address e f);
  }

-- the statuses that a returned datagram brings a station, and a returned frame
abbrev pub status_seen : {M : Type 0} → ℕ → Datagram M → List (News M)
status_seen station d = if is_for station d.address then (if d.counter == 0 then [] else statuses (found_news d.found)) else []

abbrev pub statuses_seen : {M : Type 0} → ℕ → List (Datagram M) → List (News M)
statuses_seen station [] = []
statuses_seen station (d ∷ ds) = status_seen station d ++ statuses_seen station ds

pub statuses-append : {M : Type 0} (ns ms : List (News M)) → statuses (ns ++ ms) ≡ statuses ns ++ statuses ms
statuses-append [] ms = refl
statuses-append (News.Status state refused ∷ ns) ms = ap (λ l. News.Status state refused ∷ l) (statuses-append ns ms)
statuses-append (News.Told m ∷ ns) ms = statuses-append ns ms
statuses-append (News.Written ∷ ns) ms = statuses-append ns ms
statuses-append (News.Heard m ∷ ns) ms = statuses-append ns ms
statuses-append (News.NothingRead ∷ ns) ms = statuses-append ns ms
statuses-append (News.BoxFull full ∷ ns) ms = statuses-append ns ms

module _ {M : Type 0} where
  statuses_told : (last : ℕ) (ask : Ask M) (g : Gram M) → statuses (gram_news last ask g) ≡ []
  statuses_told last (Ask.WriteMail m) g = go (g.counter == 0)
    where
      go : (b : Bool) → statuses {M = M} (if b then [] else News.Written ∷ []) ≡ []
      go true = refl
      go false = refl
  statuses_told last Ask.ReadMail g = go (g.counter == 0) (news last g.mail)
    where
      heard : (ms : List M) → statuses (map (λ m. News.Heard m) ms) ≡ []
      heard [] = refl
      heard (m ∷ ms) = heard ms

      go : (b : Bool) (ms : List M) → statuses (if b then News.NothingRead ∷ [] else map (λ m. News.Heard m) ms) ≡ []
      go true ms = refl
      go false ms = heard ms
  statuses_told last (Ask.WriteRequest bit) g = refl
  statuses_told last Ask.ReadAcknowledge g = refl
  statuses_told last Ask.Other g = refl

  status_datagram : (station last : ℕ) (d : Datagram M) → statuses (datagram_news station last d) ≡ status_seen station d
  status_datagram station last d =
      statuses-append (if d.gram.station == station then gram_news last d.gram.ask d.gram else []) _
      ∙ ap (λ l. l ++ statuses (if is_for station d.address then (if d.counter == 0 then [] else found_news d.found) else [])) (none (d.gram.station == station))
      ∙ found (is_for station d.address) (d.counter == 0)
    where
      none : (b : Bool) → statuses (if b then gram_news last d.gram.ask d.gram else []) ≡ []
      none true = statuses_told last d.gram.ask d.gram
      none false = refl

      found : (mine none_met : Bool) → statuses {M = M} (if mine then (if none_met then [] else found_news d.found) else []) ≡ (if mine then (if none_met then [] else statuses (found_news d.found)) else [])
      found false none_met = refl
      found true true = refl
      found true false = refl

  -- of what a frame tells a station its statuses are those that it shows there
  pub statuses_back : (station last : ℕ) (ds : List (Datagram M)) → statuses (back_news station last ds) ≡ statuses_seen station ds
  statuses_back station last [] = refl
  statuses_back station last (d ∷ ds) =
      let next = if d.gram.station == station then last_heard last d.gram.ask d.gram else last in
      statuses-append (datagram_news station last d) (back_news station next ds)
      ∙ ap (λ l. l ++ statuses (back_news station next ds)) (status_datagram station last d)
      ∙ ap (λ l. status_seen station d ++ l) (statuses_back station next ds)

  -- a datagram that is the same for the station shows it the same
  status_same : (station : ℕ) (d e : Datagram M) → SameFor station d e → status_seen station e ≡ status_seen station d
  status_same station d e is = ap (λ b. if b then shows e else []) is.mine ∙ go (is_for station d.address) is.counter is.found
    where
      shows : Datagram M → List (News M)
      shows d = if d.counter == 0 then [] else statuses (found_news d.found)

      go : (mine : Bool) → (mine ≡ true → e.counter ≡ d.counter) → (mine ≡ true → e.found ≡ d.found) → (if mine then shows e else []) ≡ (if mine then shows d else [])
      go false counter found = refl
      go true counter found = ap (λ c. if c == 0 then [] else statuses (found_news e.found)) (counter refl) ∙ ap (λ o. if d.counter == 0 then [] else statuses (found_news o)) (found refl)

  account_same : {Q R : Type 0} (station frame : ℕ) (a : Account Q R) (hand : Option Duty) (d e : Datagram M) → SameFor station d e → account_met station frame a hand e ≡ account_met station frame a hand d
  account_same station frame a None d e is = refl
  account_same {Q} {R} station frame a (Some duty) d e is =
      ap (λ b. if b && not (e.counter == 0) then by e else a) is.mine ∙ go (is_for station d.address) is.counter is.found
    where
      by : Datagram M → Account Q R
      by d = account_by frame a duty (access_done duty.target duty.stage d.access d.found)

      go : (mine : Bool) → (mine ≡ true → e.counter ≡ d.counter) → (mine ≡ true → e.found ≡ d.found) → (if mine && not (e.counter == 0) then by e else a) ≡ (if mine && not (d.counter == 0) then by d else a)
      go false counter found = refl
      go true counter found =
          ap (λ c. if not (c == 0) then by e else a) (counter refl)
          ∙ ap (λ access. if not (d.counter == 0) then account_by frame a duty (access_done duty.target duty.stage access e.found) else a) is.access
          ∙ ap (λ o. if not (d.counter == 0) then account_by frame a duty (access_done duty.target duty.stage d.access o) else a) (found refl)

module _ {V M : Type 0} (station : ℕ) where
  apart_meets : (place : ℕ) (s : Slave V M) (d : Datagram M) → is_later d.access ≡ true → (s.registers.station == station) ≡ false → ((slave_meets place s d).registers.station == station) ≡ false
  apart_meets place s d later apart = ap (λ n. n == station) (place_meets place s d later).station ∙ apart

  -- a slave that doesn't answer to the station leaves what a frame shows there
  pub statuses_behind : (place : ℕ) (s : Slave V M) (ds : List (Datagram M)) → (s.registers.station == station) ≡ false → AllLater ds → statuses_seen station (frame_after place s ds) ≡ statuses_seen station ds
  statuses_behind place s [] apart later = refl
  statuses_behind place s (d ∷ ds) apart later =
      ap (λ l. l ++ statuses_seen station (frame_after place (slave_meets place s d) ds)) (status_same station d (datagram_meets place s d) (same_for station place s d apart))
      ∙ ap (λ l. status_seen station d ++ l) (statuses_behind place (slave_meets place s d) ds (apart_meets place s d later.0 apart) later.1)

  pub account_behind : {Q R : Type 0} (frame place : ℕ) (a : Account Q R) (s : Slave V M) (ds : List (Datagram M)) → (s.registers.station == station) ≡ false → AllLater ds →
      account_back station frame a (frame_after place s ds) ≡ account_back station frame a ds
  account_behind frame place a s [] apart later = refl
  account_behind frame place a s (d ∷ ds) apart later =
      ap (λ b. account_back station frame b (frame_after place (slave_meets place s d) ds)) (account_same station frame a a.hand d (datagram_meets place s d) (same_for station place s d apart))
      ∙ account_behind frame place (account_met station frame a a.hand d) (slave_meets place s d) ds (apart_meets place s d later.0 apart) later.1

  pub reaches_behind : (place : ℕ) (s : Slave V M) (access : Option Access) (ds : List (Datagram M)) → (s.registers.station == station) ≡ false → Reaches station access ds → Reaches station access (frame_after place s ds)
  reaches_behind place s access es apart Reaches.nothing = Reaches.nothing
  reaches_behind place s access es apart (Reaches.other d ds is rest) =
      Reaches.other (datagram_meets place s d) (frame_after place (slave_meets place s d) ds)
      (record { other = is.other; address = ap address_behind is.address; apart = is.apart; later = is.later })
      (reaches_behind place (slave_meets place s d) access ds (apart_meets place s d is.later apart) rest)
  reaches_behind place s access es apart (Reaches.past d ds is mine rest) =
      Reaches.past (datagram_meets place s d) (frame_after place (slave_meets place s d) ds) is (for_behind station d.address ∙ mine)
      (reaches_behind place (slave_meets place s d) access ds (apart_meets place s d (quiet_later d.access is) apart) rest)
  reaches_behind place s access es apart (Reaches.quiet d ds is found rest) =
      go (is_for station d.address) refl (reaches_behind place (slave_meets place s d) access ds (apart_meets place s d (quiet_later d.access is) apart) rest)
    where
      go : (mine : Bool) → is_for station d.address ≡ mine → Reaches station access (frame_after place (slave_meets place s d) ds) → Reaches station access (frame_after place s (d ∷ ds))
      go true mine next = Reaches.quiet (datagram_meets place s d) (frame_after place (slave_meets place s d) ds) is ((same_for station place s d apart).found mine ∙ found) next
      go false mine next = Reaches.past (datagram_meets place s d) (frame_after place (slave_meets place s d) ds) is (for_behind station d.address ∙ mine) next
  reaches_behind place s o es apart (Reaches.own d ds address found later rest) =
      Reaches.own (datagram_meets place s d) (frame_after place (slave_meets place s d) ds) (ap address_behind address)
      ((same_for station place s d apart).found (ap (is_for station) address ∙ eq-eqb station station refl) ∙ found) later
      (reaches_behind place (slave_meets place s d) None ds (apart_meets place s d later apart) rest)

  -- nor do several slaves
  pub ring_reaches : (ns : Ring V M) (access : Option Access) (ds : List (Datagram M)) → NoneAnswers station ns → Reaches station access ds → Reaches station access (all_back ns ds)
  ring_reaches [] access ds none is = is
  ring_reaches (n ∷ ns) access ds none is = ring_reaches ns access (frame_after n.0 n.1 ds) none.1 (reaches_behind n.0 n.1 access ds none.0 is)

  pub ring_statuses : (ns : Ring V M) (ds : List (Datagram M)) → NoneAnswers station ns → AllLater ds → statuses_seen station (all_back ns ds) ≡ statuses_seen station ds
  ring_statuses [] ds none later = refl
  ring_statuses (n ∷ ns) ds none later = ring_statuses ns (frame_after n.0 n.1 ds) none.1 (later_after n.0 n.1 ds later) ∙ statuses_behind n.0 n.1 ds none.0 later

  pub ring_account : {Q R : Type 0} (frame : ℕ) (a : Account Q R) (ns : Ring V M) (ds : List (Datagram M)) → NoneAnswers station ns → AllLater ds →
      account_back station frame a (all_back ns ds) ≡ account_back station frame a ds
  ring_account frame a [] ds none later = refl
  ring_account frame a (n ∷ ns) ds none later = ring_account frame a ns (frame_after n.0 n.1 ds) none.1 (later_after n.0 n.1 ds later) ∙ account_behind frame n.0 a n.1 ds none.0 later
