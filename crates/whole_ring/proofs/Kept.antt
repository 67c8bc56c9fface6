-- WHAT A FRAME AND A STEP keep of a node: it runs, and where the slave is closed its server is, cleared, what it was.
use Rattle.std.proofs.Common.{◌≡◌, ◌⊎◌, inl, inr, ℕ, Bool, true, false, List, [], ◌∷◌, refl, ap, ◌∙◌, subst, arith}
use Rattle.std.specs.Prelude.{if◌then◌else◌}
use Rattle.slave_lives.specs.of_datagrams.Datagram as Raw
use Rattle.slave_lives.specs.of_esc_registers.declared.registers.Registers as Esc
use Rattle.slave_lives.specs.of_slave_node.Passing.{passed}
use Rattle.slave_lives.specs.of_frame_view.View.{Lens}
use Rattle.slave_lives.specs.of_frames_seen.Own.{NoneMeant, IsAlone}
use Rattle.slave_lives.specs.of_mailbox_slave.Registers.{in_len}
use Rattle.slave_lives.specs.of_segment_ring.Ring.{is_in_pace}
use Rattle.slave_lives.specs.of_slave_node.Node.{Node}
use Rattle.slave_lives.specs.of_life_model.Lives.{Opening}
use Rattle.slave_lives.specs.Nodes.{IsRunning, IsRoomy, StepsOn, stepped}
use Rattle.slave_lives.specs.Opening.{Plan, IsPlan, AtMostOne, JustOne}
use Rattle.slave_lives.specs.Returning.{Clears, IsFrozen}
use Rattle.slave_lives.specs.Rings.{met, turned}
use Rattle.slave_lives.specs.Stands.{bring_turn, IsClosed}
use Rattle.slave_lives.specs.Steps.{Running, HasStepped}
use Rattle.slave_lives.proofs.Brought as Brought
use Rattle.slave_lives.proofs.NodeSteps as Stepped
use Rattle.slave_lives.proofs.Openings.{none_moves}
use Rattle.slave_lives.proofs.Turning as Turning

-- at most one is none, or just one
pub one_or_none : (p : Plan) (n : ℕ) (r : Esc.Registers) (ds : List Raw.Datagram) → AtMostOne p n r ds → NoneMeant r ds ⊎ JustOne p n r ds
one_or_none p n r [] one = inl tt
one_or_none p n r (d ∷ ds) (inl other) = go (one_or_none p n (passed r d).registers ds other.1)
  where
    go : NoneMeant (passed r d).registers ds ⊎ JustOne p n (passed r d).registers ds → NoneMeant r (d ∷ ds) ⊎ JustOne p n r (d ∷ ds)
    go (inl none) = inl (other.0, none)
    go (inr just) = inr (inl (other.0, just))
one_or_none p n r (d ∷ ds) (inr mine) = inr (inr mine)

pub none_is_most : (p : Plan) (n : ℕ) (r : Esc.Registers) (ds : List Raw.Datagram) → NoneMeant r ds → AtMostOne p n r ds
none_is_most p n r [] none = tt
none_is_most p n r (d ∷ ds) none = inl (none.0, none_is_most p n (passed r d).registers ds none.1)

pub none_alone : (station : ℕ) (r : Esc.Registers) (ds : List Raw.Datagram) → NoneMeant r ds → IsAlone station r ds
none_alone station r [] none = tt
none_alone station r (d ∷ ds) none = (λ other. none.0, none_alone station (passed r d).registers ds none.1)

module _ {S : Type 0} where
  pub met_server : (b : Bool) (n : Node S) (ds : List Raw.Datagram) → (met b n ds).server ≡ n.server
  met_server true n ds = refl
  met_server false n ds = refl

  pub met_boot : (b : Bool) (n : Node S) (ds : List Raw.Datagram) → (met b n ds).boot ≡ n.boot
  met_boot true n ds = refl
  met_boot false n ds = refl

  pub met_none : (b : Bool) (n : Node S) (ds : List Raw.Datagram) → (b ≡ true → NoneMeant n.registers ds) → (met b n ds).registers ≡ n.registers
  met_none true n ds none = none_moves n.registers ds (none refl)
  met_none false n ds none = refl

module _ {S : Type 0} (u : Running S) (clears : Clears u) (pace number : ℕ) (m : Node S) (runs : IsRunning u m) (roomy : is_in_pace pace number ≡ true → IsRoomy u (in_len m.registers) m.server) where
  -- what holds of a node, and behind its step
  pub turned_with : (P : Node S → Type 0) → P m → (StepsOn u m (stepped u m) → P (stepped u m)) → P (turned u pace number m)
  turned_with P stay step = go (is_in_pace pace number) refl
    where
      go : (b : Bool) → is_in_pace pace number ≡ b → P (if b then stepped u m else m)
      go true e = step (Stepped.steps_on u clears m runs (roomy e))
      go false e = stay

  pub turned_runs : IsRunning u (turned u pace number m)
  turned_runs = turned_with (λ k. IsRunning u k) runs (λ on. on.runs)

  pub turned_boot : (turned u pace number m).boot ≡ m.boot
  turned_boot = turned_with (λ k. k.boot ≡ m.boot) refl (λ on. on.boot)

  -- A CLOSED SLAVE'S SERVER behind a step is, cleared, what it was
  pub closed_server : (boot : Bool) (lens : ℕ → Lens) (p : Plan) → IsPlan boot lens p → (o : Opening) → m.boot ≡ boot → IsClosed u boot lens p o m → u.clear (turned u pace number m).server ≡ u.clear m.server
  closed_server boot lens p plan o is c = turned_with (λ k. u.clear k.server ≡ u.clear m.server) refl (λ on. go on c)
    where
      steps : StepsOn u m (stepped u m) → HasStepped u boot m.registers (stepped u m).registers m.kept (stepped u m).kept m.server (stepped u m).server
      steps on = subst (λ b. HasStepped u b m.registers (stepped u m).registers m.kept (stepped u m).kept m.server (stepped u m).server) is on.steps

      init : StepsOn u m (stepped u m) → IsFrozen lens p m.registers → u.clear (stepped u m).server ≡ u.clear m.server
      init on f =
          let x = Turning.step_freezes u boot lens p plan clears 1 (omega arith) m.registers (stepped u m).registers m.kept (stepped u m).kept m.server (stepped u m).server f on.keeps (steps on) on.status on.code in
          ap u.clear x.1 ∙ clears.again m.server

      go : StepsOn u m (stepped u m) → IsClosed u boot lens p o m → u.clear (stepped u m).server ≡ u.clear m.server
      go on (IsClosed.brings first step b clear none) =
          let x = Brought.step_brings u boot lens p plan (bring_turn o.step) m.registers (stepped u m).registers m.kept (stepped u m).kept m.server (stepped u m).server b none clear on.keeps (steps on) on.status on.code in
          ap u.clear x.1
      go on (IsClosed.frozen again step f) = init on f
      go on (IsClosed.left again step start turn former b) =
          ap u.clear (Turning.step_server u boot lens (record p { start = start }) former turn m.registers (stepped u m).registers m.kept (stepped u m).kept m.server (stepped u m).server b (steps on))
      go on (IsClosed.returned again step b) =
          ap u.clear (Turning.step_server u boot lens p plan o.step m.registers (stepped u m).registers m.kept (stepped u m).kept m.server (stepped u m).server b (steps on))
