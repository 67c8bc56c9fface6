-- A FRAME COMES to a closed slave: at most the access in hand means it.
use Rattle.std.proofs.Common.{◌≡◌, ◌⊎◌, inl, inr, ℕ, ◌<◌, ◌==◌, Bool, true, false, List, refl, ap, sym, ◌∙◌, subst, arith}
use Rattle.std.specs.Prelude.{if◌then◌else◌, None}
use Rattle.frames_seen.specs.of_datagrams.Datagram as Raw
use Rattle.frames_seen.specs.of_esc_registers.declared.registers.Registers as Esc
use Rattle.frames_seen.specs.of_esc_registers.Access.{row_of, passed_at}
use Rattle.frames_seen.specs.of_slave_node.Passing.{passed}
use Rattle.frames_seen.specs.of_frame_view.View.{Lens}
use Rattle.frames_seen.specs.Own.{NoneMeant}
use Rattle.frames_seen.specs.of_slave_node.Node.{Node, new_node}
use Rattle.frames_seen.specs.of_life_model.Lives.{Opening}
use Rattle.slave_lives.specs.Opening.{Plan, IsPlan, aim, IsAccess, AtMostOne, JustOne}
use Rattle.slave_lives.specs.Returning.{IsTurn}
use Rattle.slave_lives.specs.Rings.{met}
use Rattle.slave_lives.specs.Stands.{bring_turn, turn_of, IsBringStep, IsClosed, OpenUp, first_opening, opening_again}
use Rattle.slave_lives.proofs.Brought as Brought
use Rattle.slave_lives.proofs.Openings as Openings
use Rattle.slave_lives.proofs.Turning as Turning
use Rattle.slave_lives.specs.Steps.{Running}
use Rattle.slave_lives.specs.Ways.{OneOnWay, JustOnWay, AllNotFor}
use Rattle.slave_lives.proofs.Brings.{with_body, name_back}
use Rattle.slave_lives.proofs.Closing.{is_turn, bring_is, again_is}
use Rattle.slave_lives.proofs.Openings.{the_access}
use Rattle.slave_lives.proofs.Ways as Way

-- an access leaves the station, or sets it to the slave's own
abbrev pub Called : Plan → Esc.Registers → Type 0
Called p r = (r.station ≡ 0) ⊎ (r.station ≡ p.station)

module _ (boot : Bool) (lens : ℕ → Lens) (p : Plan) (plan : IsPlan boot lens p) (r : Esc.Registers) (d : Raw.Datagram) where
  same_station : (n : ℕ) → IsAccess p n d → (passed r (with_body d (aim p n).command (aim p n).adp (aim p n).ado (aim p n).octets)).registers.station ≡ r.station → Called p r → Called p (passed r d).registers
  same_station n a e called = subst (λ x. (x ≡ 0) ⊎ (x ≡ p.station)) (sym (ap (λ x. (passed r x).registers.station) (the_access p n d a) ∙ e)) called

  pub calls : (n : ℕ) → IsTurn n → Called p r → IsAccess p n d → Called p (passed r d).registers
  calls n IsTurn.return called a = same_station 1 a refl called
  calls n IsTurn.watch called a = same_station 2 a refl called
  calls n IsTurn.address called a = inr (ap (λ x. (passed r x).registers.station) (the_access p 3 d a) ∙ name_back p.station plan.station)
  calls n IsTurn.out_off called a = same_station 4 a (go (p.station == r.station)) called
    where
      go : (b : Bool) → (passed_at r (with_body d (aim p 4).command (aim p 4).adp (aim p 4).ado (aim p 4).octets).head (aim p 4).octets (if b then row_of r 2048 8 else None)).registers.station ≡ r.station
      go true = refl
      go false = refl
  calls n IsTurn.in_off called a = same_station 5 a (go (p.station == r.station)) called
    where
      go : (b : Bool) → (passed_at r (with_body d (aim p 5).command (aim p 5).adp (aim p 5).ado (aim p 5).octets).head (aim p 5).octets (if b then row_of r 2056 8 else None)).registers.station ≡ r.station
      go true = refl
      go false = refl
  calls n IsTurn.out_on called a = same_station 6 a (go (p.station == r.station)) called
    where
      go : (b : Bool) → (passed_at r (with_body d (aim p 6).command (aim p 6).adp (aim p 6).ado (aim p 6).octets).head (aim p 6).octets (if b then row_of r 2048 8 else None)).registers.station ≡ r.station
      go true = refl
      go false = refl
  calls n IsTurn.in_on called a = same_station 7 a (go (p.station == r.station)) called
    where
      go : (b : Bool) → (passed_at r (with_body d (aim p 7).command (aim p 7).adp (aim p 7).ado (aim p 7).octets).head (aim p 7).octets (if b then row_of r 2056 8 else None)).registers.station ≡ r.station
      go true = refl
      go false = refl
  calls n IsTurn.word called a = same_station 8 a (go (p.station == r.station)) called
    where
      go : (b : Bool) → (passed_at r (with_body d (aim p 8).command (aim p 8).adp (aim p 8).ado (aim p 8).octets).head (aim p 8).octets (if b then row_of r 288 2 else None)).registers.station ≡ r.station
      go true = refl
      go false = refl
  calls n IsTurn.status called a = same_station 9 a (go (p.station == r.station)) called
    where
      go : (b : Bool) → (passed_at r (with_body d (aim p 9).command (aim p 9).adp (aim p 9).ado (aim p 9).octets).head (aim p 9).octets (if b then row_of r 304 6 else None)).registers.station ≡ r.station
      go true = refl
      go false = refl

module _ {S : Type 0} (u : Running S) (boot : Bool) (lens : ℕ → Lens) (p : Plan) (plan : IsPlan boot lens p) (o : Opening) (n : Node S) where
  record Known : Type 0 where
    turn : IsTurn (turn_of o)
    called : Called p n.registers
    station : 3 < turn_of o → n.registers.station ≡ p.station

  known : IsClosed u boot lens p o n → Known
  known (IsClosed.brings first step b clear none) =
      let e = sym (bring_is o first) in
      record { turn = subst IsTurn e (is_turn o.step step); called = b.called; station = subst (λ m. 3 < m → n.registers.station ≡ p.station) e b.station }
  known (IsClosed.frozen again step f) = record { turn = subst IsTurn (sym (again_is o again)) (go step); called = inr f.station; station = λ late. f.station }
    where
      go : (o.step ≡ 1) ⊎ (o.step ≡ 2) → IsTurn o.step
      go (inl e) = subst IsTurn (sym e) IsTurn.return
      go (inr e) = subst IsTurn (sym e) IsTurn.watch
  known (IsClosed.left again step start turn former b) =
      let e = again_is o again ∙ step in record { turn = subst IsTurn (sym e) IsTurn.return; called = b.called; station = λ late. absurd (omega (arith, e, late)) }
  known (IsClosed.returned again step b) =
      let e = sym (again_is o again) in record { turn = subst IsTurn e step; called = b.called; station = subst (λ m. 3 < m → n.registers.station ≡ p.station) e b.station }

  pub comes : (place : ℕ) (ds : List Raw.Datagram) → place < 16 → OneOnWay p (turn_of o) place place ds → IsClosed u boot lens p o n → AtMostOne p (turn_of o) n.registers ds
  comes place ds near one c = let k = known c in Way.called_comes p (turn_of o) place k.turn near (λ r d called a. calls boot lens p plan r d (turn_of o) k.turn called a) n.registers ds k.called k.station one

  pub comes_just : (place : ℕ) (ds : List Raw.Datagram) → place < 16 → JustOnWay p (turn_of o) place place ds → IsClosed u boot lens p o n → JustOne p (turn_of o) n.registers ds
  comes_just place ds near one c = let k = known c in Way.called_just p (turn_of o) place k.turn near (λ r d called a. calls boot lens p plan r d (turn_of o) k.turn called a) n.registers ds k.called k.station one

  pub comes_none : (place : ℕ) (ds : List Raw.Datagram) → place < 16 → AllNotFor p place place ds → IsClosed u boot lens p o n → NoneMeant n.registers ds
  comes_none place ds near others c = let k = known c in Way.none_meant p place n.registers ds near k.called others

  pub called_is : IsClosed u boot lens p o n → (n.registers.station ≡ 0) ⊎ (n.registers.station ≡ p.station)
  called_is c = (known c).called

  pub turn_is : IsClosed u boot lens p o n → IsTurn (turn_of o)
  turn_is c = (known c).turn

-- A FIRST BRING-UP begins with a slave as it is switched on
pub begins : {S : Type 0} (u : Running S) (boot : Bool) (lens : ℕ → Lens) (p : Plan) (s : S) → u.clear s ≡ s → u.next s ≡ None → IsClosed u boot lens p (first_opening p.start) (new_node p.out p.back boot s)
begins u boot lens p s clear none = IsClosed.brings refl IsBringStep.address (Openings.first_brings p s) clear none

-- AN OPENING THAT WAS GIVEN UP leaves what the next begins with, to the same state or another
pub left_by : {S : Type 0} (u : Running S) (boot : Bool) (lens : ℕ → Lens) (p : Plan) → IsPlan boot lens p → (o : Opening) (n : Node S) (start : ℕ) (own : Bool) → IsClosed u boot lens p o n → IsClosed u boot lens (record p { start = start }) (opening_again start own) n
left_by u boot lens p plan o n start own (IsClosed.brings first step b clear none) =
    IsClosed.left refl refl p.start (bring_turn o.step) plan (Brought.returned u boot lens p plan (bring_turn o.step) n.registers n.kept n.server b clear none)
left_by u boot lens p plan o n start own (IsClosed.frozen again step f) = IsClosed.frozen refl (inl refl) (record { opens = f.opens; station = f.station; word = f.word; state = f.state; up = f.up })
left_by u boot lens p plan o n start own (IsClosed.left again step before turn former b) = IsClosed.left refl refl before turn former b
left_by u boot lens p plan o n start own (IsClosed.returned again step b) = IsClosed.left refl refl p.start o.step plan b

-- AN OPEN SLAVE that meets the first access of a reopening is frozen
pub freezes : {S : Type 0} (u : Running S) (boot : Bool) (lens : ℕ → Lens) (p : Plan) (o : Opening) (n : Node S) (ds : List Raw.Datagram) → OpenUp lens p n.registers → o.again ≡ true → (o.step ≡ 1) ⊎ (o.step ≡ 2) → JustOne p 1 n.registers ds →
    IsClosed u boot lens p o (met true n ds)
freezes u boot lens p o n ds open_ again step one = IsClosed.frozen again step (Turning.frame_freezes lens p n.registers ds open_.opens open_.station open_.state open_.up one)
