-- THE MASTER'S FRAME ALONG A RING: it comes to each slave as it is for it.
use Rattle.std.proofs.Common.{◌≡◌, ◌⊎◌, inl, inr, ℕ, suc, ◌+◌, ◌<◌, ◌==◌, Bool, false, List, [], ◌∷◌, ◌++◌, length, refl, ap, sym, ◌∙◌, subst, arith}
use Rattle.std.specs.Prelude.{⊤}
use Rattle.std.proofs.lemmas.Bool.{ne_eqb, eqb-false}
use Rattle.frames_seen.specs.of_datagrams.Datagram as Raw
use Rattle.frames_seen.specs.of_esc_registers.declared.registers.Registers as Esc
use Rattle.frames_seen.specs.of_slave_node.Passing.{datagrams_after}
use Rattle.frames_seen.specs.of_frame_view.View.{Lens}
use Rattle.frames_seen.specs.Own.{own_of, IsApart, IsAlone}
use Rattle.frames_seen.specs.Ring.{all_after, AllApart}
use Rattle.frames_seen.specs.Spoken.{AllSpoken}
use Rattle.frames_seen.proofs.Aparts.{open_apart, none_apart}
use Rattle.frames_seen.proofs.Owns.{other_view}
use Rattle.frames_seen.proofs.Places.{all_else_behind, open_alone}
use Rattle.frames_seen.specs.of_link_mails.Body.{Body}
use Rattle.frames_seen.specs.of_segment_model.Slaves.{Serving}
use Rattle.frames_seen.specs.of_slave_node.Node.{Node, new_box}
use Rattle.frames_seen.specs.of_life_model.Lives.{Opening, Stand}
use Rattle.slave_lives.specs.Opening.{Plan, IsPlan, AtMostOne, JustOne}
use Rattle.slave_lives.specs.Lived.{IsForOpen}
use Rattle.slave_lives.specs.Returning.{IsTurn}
use Rattle.slave_lives.specs.Rings.{registers_of, come_to}
use Rattle.slave_lives.specs.Seats.{Seat, StandsYet, KnownAs, ComesAs, MeetsAs, AllSeats, IsElsewhere, AreDistinct, AllCome, MeetsOne, AllMeet, nodes_of}
use Rattle.slave_lives.specs.Stands.{turn_of, IsClosed}
use Rattle.slave_lives.specs.Steps.{Running}
use Rattle.slave_lives.specs.Ways.{OneOnWay, JustOnWay}
use Rattle.slave_lives.proofs.Arrives as Arrives
use Rattle.slave_lives.proofs.Closed.{closed_apart}
use Rattle.slave_lives.proofs.Closing.{again_is}
use Rattle.slave_lives.proofs.Ways as Way

nothing : Serving ⊤ Body
nothing = record { server = tt; waiting = [] }

-- a station that isn't this one, the other way round
other_way : (a b : ℕ) → (a == b) ≡ false → (b == a) ≡ false
other_way a b e = ne_eqb b a (λ (f : b ≡ a). eqb-false a b e (sym f))

module _ {S : Type 0} (u : Running S) (boot : Bool) (lens : ℕ → Lens) where
  -- the slave at its place: a frame that has at most the access in hand comes to it so, and one that has it too
  pub record Known (p : Plan) (o : Opening) (n : Node S) : Type 0 where
    pub turn : IsTurn (turn_of o)
    pub called : (n.registers.station ≡ 0) ⊎ (n.registers.station ≡ p.station)
    pub comes : (place : ℕ) (ds : List Raw.Datagram) → place < 16 → OneOnWay p (turn_of o) place place ds → AtMostOne p (turn_of o) n.registers ds
    pub meets : (place : ℕ) (ds : List Raw.Datagram) → place < 16 → JustOnWay p (turn_of o) place place ds → JustOne p (turn_of o) n.registers ds

  pub known : (p : Plan) (o : Opening) (n : Node S) → IsPlan boot lens p → IsClosed u boot lens p o n ⊎ StandsYet lens p o n → Known p o n
  known p o n plan (inl c) = record {
    turn = Arrives.turn_is u boot lens p plan o n c;
    called = Arrives.called_is u boot lens p plan o n c;
    comes = λ place ds near one. Arrives.comes u boot lens p plan o n place ds near one c;
    meets = λ place ds near just. Arrives.comes_just u boot lens p plan o n place ds near just c;
  }
  known p o n plan (inr s) =
      let e = again_is o s.again ∙ s.step in
      let turn = subst IsTurn (sym e) IsTurn.return in
      record {
        turn = turn;
        called = inr s.up.station;
        comes = λ place ds near one. Way.called_comes p (turn_of o) place turn near (λ r d called a. Arrives.calls boot lens p plan r d (turn_of o) turn called a) n.registers ds (inr s.up.station) (λ late. s.up.station) one;
        meets = λ place ds near just. Way.called_just p (turn_of o) place turn near (λ r d called a. Arrives.calls boot lens p plan r d (turn_of o) turn called a) n.registers ds (inr s.up.station) (λ late. s.up.station) just;
      }

  meets_one : (s : Seat S) (stand : Stand) (place : ℕ) (ds : List Raw.Datagram) → place < 16 → IsPlan boot lens s.plan → KnownAs u boot lens s.plan stand s.node → ComesAs s.plan stand place place ds →
      MeetsAs s.plan stand s.node.registers ds × ((station : ℕ) → (0 == station) ≡ false → (s.plan.station == station) ≡ false → IsApart station s.node.registers ds)
  meets_one s (Stand.Opens o) place ds near plan k comes =
      let c = known s.plan o s.node plan k in
      let one = c.comes place ds near comes in
      (one, λ station zero_ other. closed_apart station s.plan (turn_of o) s.node.registers ds zero_ other c.called one)
  meets_one s Stand.Open place ds near plan k comes =
      let here : AllSpoken s.node.registers.station (own_of s.node.registers.station ds) = subst (λ (a : ℕ). AllSpoken a (own_of a ds)) (sym k.1) comes.1 in
      let alone = open_alone lens place s.node.registers new_box nothing ds near k.0 comes.0 here in
      ((alone, here), λ station zero_ other. open_apart lens station s.node.registers new_box nothing ds (ap (λ (a : ℕ). a == station) k.1 ∙ other) k.0 alone here)
  meets_one s Stand.Gone place ds near plan k comes =
      let none = Way.none_meant s.plan place s.node.registers ds near k comes in
      (none, λ station zero_ other. none_apart station s.node.registers ds none)

  -- a frame for a slave further on comes on behind one that is apart
  comes_on : (p : Plan) (stand : Stand) (n : Node S) (place behind : ℕ) (r : Esc.Registers) (ds : List Raw.Datagram) → IsPlan boot lens p → KnownAs u boot lens p stand n → place < 16 → behind < place → IsApart p.station r ds →
      ComesAs p stand place behind ds → ComesAs p stand place (suc behind) (datagrams_after r ds)
  comes_on p (Stand.Opens o) n place behind r ds plan k near before apart comes =
      Way.one_behind p (turn_of o) place behind r ds (known p o n plan k).turn near (omega arith) (ne_eqb place behind (λ (e : place ≡ behind). omega arith)) apart comes
  comes_on p Stand.Open n place behind r ds plan k near before apart comes =
      (all_else_behind place behind r ds (omega arith) comes.0, subst (λ l. AllSpoken p.station l) (sym (other_view p.station r ds apart)) comes.1)
  comes_on p Stand.Gone n place behind r ds plan k near before apart comes = Way.others_behind p place behind r ds (omega arith) comes

module _ {S : Type 0} (lens : ℕ → Lens) where
  all_on : (place behind : ℕ) (ss : List (Seat S)) (q : Plan) (r : Esc.Registers) (ds : List Raw.Datagram) → behind < place → place + length ss < 17 → IsElsewhere q ss → AllSeats lens ss →
      ((station : ℕ) → (0 == station) ≡ false → (q.station == station) ≡ false → IsApart station r ds) → AllCome place behind ss ds → AllCome place (suc behind) ss (datagrams_after r ds)
  all_on place behind [] q r ds before near other seats apart come = tt
  all_on place behind (s ∷ ss) q r ds before near other seats apart come = (
    comes_on s.services s.boot lens s.plan s.stand s.node place behind r ds seats.0.plan_is seats.0.known (omega arith) before (apart s.plan.station seats.0.named other.0) come.0,
    all_on (suc place) behind ss q r ds (omega arith) (omega arith) other.1 seats.1 apart come.1,
  )

  -- TO EACH
  pub all_meet : (place : ℕ) (ss : List (Seat S)) (ds : List Raw.Datagram) → place + length ss < 17 → AreDistinct ss → AllSeats lens ss → AllCome place place ss ds → AllMeet ss ds
  all_meet place [] ds near distinct seats come = tt
  all_meet place (s ∷ ss) ds near distinct seats come =
      let one = meets_one s.services s.boot lens s s.stand place ds (omega arith) seats.0.plan_is seats.0.known come.0 in (
        record { meets = one.0; apart = one.1 },
        all_meet (suc place) ss (datagrams_after s.node.registers ds) (omega arith) distinct.1 seats.1 (all_on (suc place) place ss s.plan s.node.registers ds (omega arith) (omega arith) distinct.0 seats.1 one.1 come.1),
      )

module _ {S : Type 0} where
  pub all_meet_first : (lens : ℕ → Lens) (ss : List (Seat S)) (ds : List Raw.Datagram) → length ss < 17 → AreDistinct ss → AllSeats lens ss → AllCome 0 0 ss ds → AllMeet ss ds
  all_meet_first lens ss ds few distinct seats come = all_meet lens 0 ss ds (omega arith) distinct seats come

-- a slave's own datagrams come past those that are apart
own_comes : (station : ℕ) (rs : List Esc.Registers) (ds : List Raw.Datagram) → AllApart station rs ds → own_of station (all_after rs ds) ≡ own_of station ds
own_comes station [] ds apart = refl
own_comes station (r ∷ rs) ds apart = own_comes station rs (datagrams_after r ds) apart.1 ∙ other_view station r ds apart.0

-- what it says of one slave among them
module _ {S : Type 0} where
  pub meets_at : (before : List (Seat S)) (s : Seat S) (behind : List (Seat S)) (ds : List Raw.Datagram) → AllMeet (before ++ s ∷ behind) ds → MeetsOne s (come_to (nodes_of before) ds)
  meets_at [] s behind ds m = m.0
  meets_at (b ∷ bs) s behind ds m = meets_at bs s behind (datagrams_after b.node.registers ds) m.1

  -- those before it and behind it are apart from its station
  apart_all : (p : Plan) (ss : List (Seat S)) (ds : List Raw.Datagram) → (0 == p.station) ≡ false → IsElsewhere p ss → AllMeet ss ds → AllApart p.station (registers_of (nodes_of ss)) ds
  apart_all p [] ds named other m = tt
  apart_all p (s ∷ ss) ds named other m = (m.0.apart p.station named (other_way p.station s.plan.station other.0), apart_all p ss (datagrams_after s.node.registers ds) named other.1 m.1)

  split_apart : (before : List (Seat S)) (s : Seat S) (behind : List (Seat S)) → AreDistinct (before ++ s ∷ behind) → IsElsewhere s.plan before × IsElsewhere s.plan behind
  split_apart [] s behind d = (tt, d.0)
  split_apart (b ∷ bs) s behind d = let rest = split_apart bs s behind d.1 in ((other_way b.plan.station s.plan.station (its bs d.0), rest.0), rest.1)
    where
      its : (cs : List (Seat S)) → IsElsewhere b.plan (cs ++ s ∷ behind) → (b.plan.station == s.plan.station) ≡ false
      its [] e = e.0
      its (c ∷ cs) e = its cs e.1

  apart_before : (p : Plan) (before : List (Seat S)) (s : Seat S) (behind : List (Seat S)) (ds : List Raw.Datagram) → (0 == p.station) ≡ false → IsElsewhere p before → AllMeet (before ++ s ∷ behind) ds → AllApart p.station (registers_of (nodes_of before)) ds
  apart_before p [] s behind ds named other m = tt
  apart_before p (b ∷ bs) s behind ds named other m = (m.0.apart p.station named (other_way p.station b.plan.station other.0), apart_before p bs s behind (datagrams_after b.node.registers ds) named other.1 m.1)

  apart_behind : (p : Plan) (before : List (Seat S)) (s : Seat S) (behind : List (Seat S)) (ds : List Raw.Datagram) → (0 == p.station) ≡ false → IsElsewhere p behind → AllMeet (before ++ s ∷ behind) ds →
      AllApart p.station (registers_of (nodes_of behind)) (datagrams_after s.node.registers (come_to (nodes_of before) ds))
  apart_behind p [] s behind ds named other m = apart_all p behind (datagrams_after s.node.registers ds) named other m.1
  apart_behind p (b ∷ bs) s behind ds named other m = apart_behind p bs s behind (datagrams_after b.node.registers ds) named other m.1

  pub aparts : (before : List (Seat S)) (s : Seat S) (behind : List (Seat S)) (ds : List Raw.Datagram) → (0 == s.plan.station) ≡ false → AreDistinct (before ++ s ∷ behind) → AllMeet (before ++ s ∷ behind) ds →
      AllApart s.plan.station (registers_of (nodes_of before)) ds × AllApart s.plan.station (registers_of (nodes_of behind)) (datagrams_after s.node.registers (come_to (nodes_of before) ds))
  aparts before s behind ds named distinct m =
      let d = split_apart before s behind distinct in (apart_before s.plan before s behind ds named d.0 m, apart_behind s.plan before s behind ds named d.1 m)

  -- an open slave
  pub for_open : (before : List (Seat S)) (s : Seat S) (behind : List (Seat S)) (ds : List Raw.Datagram) → s.stand ≡ Stand.Open → s.node.registers.station ≡ s.plan.station → (0 == s.plan.station) ≡ false → AreDistinct (before ++ s ∷ behind) →
      AllMeet (before ++ s ∷ behind) ds → IsForOpen (nodes_of before) s.node (nodes_of behind) ds
  for_open before s behind ds stand here named distinct m =
      let both = aparts before s behind ds named distinct m in
      let mine : IsAlone s.node.registers.station s.node.registers (come_to (nodes_of before) ds) × AllSpoken s.node.registers.station (own_of s.node.registers.station (come_to (nodes_of before) ds)) =
      subst (λ st. MeetsAs s.plan st s.node.registers (come_to (nodes_of before) ds)) stand (meets_at before s behind ds m).meets in
      let first : AllApart s.node.registers.station (registers_of (nodes_of before)) ds = subst (λ (a : ℕ). AllApart a (registers_of (nodes_of before)) ds) (sym here) both.0 in
      record {
        apart = first;
        alone = mine.0;
        last = subst (λ (a : ℕ). AllApart a (registers_of (nodes_of behind)) (datagrams_after s.node.registers (come_to (nodes_of before) ds))) (sym here) both.1;
        spoken = subst (λ l. AllSpoken s.node.registers.station l) (own_comes s.node.registers.station (registers_of (nodes_of before)) ds first) mine.1;
      }
