-- A RING'S EXCHANGE is a frame of its closed slave's life.
use Rattle.std.proofs.Common.{◌≡◌, ℕ, Bool, true, false, length, refl, ap, sym, subst}
use Rattle.std.specs.Prelude.{Option, if◌then◌else◌}
use Rattle.frames_seen.specs.of_datagrams.Datagram as Raw
use Rattle.frames_seen.specs.of_frame_view.View.{Lens}
use Rattle.frames_seen.specs.of_segment_model.Slaves.{Found}
use Rattle.frames_seen.specs.of_segment_ring.declared.wire.Fate.{Fate}
use Rattle.frames_seen.specs.of_segment_ring.declared.wire.Fate.TheVariants.{Pass}
use Rattle.frames_seen.specs.of_segment_ring.Ring.{is_in_pace}
use Rattle.frames_seen.specs.of_slave_node.Node.{Node}
use Rattle.frames_seen.specs.of_life_model.Lives.{Opening, Stand, Life, opening_back}
use Rattle.slave_lives.specs.Lived.{RingFrame, fate_of, is_reached, node_met, node_behind, ClosedFrame, AccessBack}
use Rattle.slave_lives.specs.Nodes.{stepped}
use Rattle.slave_lives.specs.Opening.{Plan, IsPlan, AtMostOne}
use Rattle.slave_lives.specs.Rings.{come_to, met, is_met_at}
use Rattle.slave_lives.specs.Stands.{turn_of, IsClosed, ClosedAs, MayStep}
use Rattle.slave_lives.specs.Steps.{Running}
use Rattle.slave_lives.proofs.Closing as Closed

module _ {S : Type 0} (u : Running S) (boot : Bool) (lens : ℕ → Lens) (p : Plan) where
  -- a step of a slave by how the master stands to it
  as_steps : IsPlan boot lens p → (stand : Stand) (n : Node S) (pace : Bool) → (pace ≡ true → MayStep u boot n) → ClosedAs u boot lens p stand n → ClosedAs u boot lens p stand (if pace then stepped u n else n)
  as_steps plan (Stand.Opens o) n true may c = let m = may refl in Closed.step_stays u boot lens p plan o m.clears n m.boot_is m.runs m.roomy c
  as_steps plan Stand.Open n true may c = let m = may refl in Closed.up_steps u boot lens p plan m.clears n m.boot_is m.runs m.roomy c
  as_steps plan Stand.Gone n true may c = tt
  as_steps plan stand n false may c = c

  pub closed_on : (o : Opening) (t : RingFrame S) → ClosedFrame u boot lens p o t → IsClosed u boot lens p o (node_behind u t)
  closed_on o t f = as_steps f.closing.plan (Stand.Opens o) (node_met t) (is_in_pace t.pace t.ring.number) f.steps (go (is_reached t) f.one)
    where
      go : (b : Bool) → (b ≡ true → AtMostOne p (turn_of o) t.node.registers (come_to t.before t.datagrams)) → IsClosed u boot lens p o (met b t.node (come_to t.before t.datagrams))
      go true one = Closed.frame_stays u boot lens p f.closing.plan o t.node true (come_to t.before t.datagrams) (one refl) f.closing.closed
      go false one = f.closing.closed

  reached : (t : RingFrame S) → fate_of t ≡ Pass → is_reached t ≡ true
  reached t e = ap (λ (fate : Fate). is_met_at (length t.before) fate) e

  pub closed_back : {M Q R : Type 0} (o : Opening) (t : RingFrame S) (d : Raw.Datagram) (frame : ℕ) (l : Life M Q R) (done : Bool) (found : Option Found) → ClosedFrame u boot lens p o t → l.stand ≡ Stand.Opens o → AccessBack lens p o t d done found →
      ClosedAs u boot lens p (opening_back frame l o done found).stand (node_behind u t)
  closed_back o t d frame l done found f stand back =
      as_steps f.closing.plan (opening_back frame l o done found).stand (node_met t) (is_in_pace t.pace t.ring.number) f.steps
      (subst (λ (b : Bool). ClosedAs u boot lens p (opening_back frame l o done found).stand (met b t.node (come_to t.before t.datagrams))) (sym (reached t back.came))
      (Closed.came_back u boot lens p f.closing.plan o frame l done found t.node (come_to t.before t.datagrams) d stand f.closing.state back.just back.back f.closing.closed))
