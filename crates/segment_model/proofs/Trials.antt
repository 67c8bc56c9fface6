-- The contracts of a master and a wire give a step of their session.
use Rattle.std.proofs.Common.{◌≡◌, ℕ, ◌+◌, Bool, List, [], ◌∷◌, ◌++◌, length, ap, sym, ◌∙◌, subst, arith, length-append}
use Rattle.exchange_model.specs.Toy.{Adder, Mail, adder, speech}
use Rattle.link_model.specs.Segment.{RingFate}
use Rattle.segment_model.specs.Slaves.{Processor, Datagram, Ring, ring_after, ring_back, ring_steps}
use Rattle.segment_model.specs.Record.{Frame}
use Rattle.segment_model.specs.Returned.{Returns}
use Rattle.segment_model.specs.Seats.{Planned}
use Rattle.segment_model.specs.Split.{IsBound, IsFrameOf, sides_next, sides_after}
use Rattle.segment_model.specs.Trial.{Sides, Came, ReturnsBy, Chosen, Stays}
use Rattle.segment_model.proofs.Replays.{bound_step}
use Rattle.segment_model.proofs.Returning.{returns-back}

returns_by : (ns : Ring Adder Mail) (sent back : List (Datagram Mail)) (fate : RingFate) → back ≡ ring_back ns sent fate → ReturnsBy fate sent back
returns_by ns sent back RingFate.Back e = subst (λ l. Returns sent l) (sym e) (returns-back ns sent)
returns_by ns sent back (RingFate.Lost after) e = tt

pub step_stays : (processor processor_new : Processor Adder) (ps : List (Planned Adder)) (ds : Sides) (fs : List (Frame Mail)) (ns ns_new : Ring Adder Mail) (made asked behind : ℕ) (sent back : List (Datagram Mail)) (fate : RingFate) (steps : List ℕ)
    (shows shows_new : Sides → Type 0) (returned : Bool) → made ≡ length fs → IsBound adder processor ps ds ns fs → Chosen made ds sent shows → asked ≡ made →
    ns_new ≡ ring_steps adder processor (ring_after ns sent fate) steps → back ≡ ring_back ns sent fate → processor_new ≡ processor → Came fate returned →
    ((ds : Sides) (fate : RingFate) → Came fate returned → ReturnsBy fate sent back → shows ds → shows_new (sides_after speech asked sent fate back ds)) → behind ≡ asked + 1 →
    Stays processor_new ps shows_new behind ns_new fs (record { sent = sent; fate = fate; back = back })
step_stays processor processor_new ps ds fs ns ns_new made asked behind sent back fate steps shows shows_new returned m b ch a r k c came sides n =
    let cs = ch.choices in
    let framed : IsFrameOf (sides_next speech (length fs) ds cs) sent = subst (λ j. IsFrameOf (sides_next speech j ds cs) sent) m ch.frame in
    let bound = bound_step adder processor ps ds ns fs b cs (record { sent = sent; fate = fate; steps = steps }) framed in
    let whole : length fs ≡ asked = sym (a ∙ m) in
    let number : length fs ≡ made = sym m in
    let came_back : ring_back ns sent fate ≡ back = sym k in
    let same : sides_after speech (length fs) sent fate (ring_back ns sent fate) (sides_next speech (length fs) ds cs) ≡ sides_after speech asked sent fate back (sides_next speech made ds cs) =
    (λ i. sides_after speech (whole i) sent fate (came_back i) (sides_next speech (number i) ds cs)) in
    let frames : fs ++ record { sent = sent; fate = fate; back = ring_back ns sent fate } ∷ [] ≡ fs ++ record { sent = sent; fate = fate; back = back } ∷ [] = ap (λ l. fs ++ record { sent = sent; fate = fate; back = l } ∷ []) came_back in
    let f : Frame Mail = record { sent = sent; fate = fate; back = back } in
    record {
      sides = sides_after speech asked sent fate back (sides_next speech made ds cs);
      shown = sides (sides_next speech made ds cs) fate came (returns_by ns sent back fate k) ch.shown;
      counted = let l = length-append fs (f ∷ []) in omega (arith, l, n, a, m);
      bound = subst (λ e. IsBound adder e ps (sides_after speech asked sent fate back (sides_next speech made ds cs)) ns_new (fs ++ f ∷ [])) (sym c)
          (subst (λ l. IsBound adder processor ps (sides_after speech asked sent fate back (sides_next speech made ds cs)) l (fs ++ f ∷ [])) (sym r)
          (subst (λ l. IsBound adder processor ps (sides_after speech asked sent fate back (sides_next speech made ds cs)) (ring_steps adder processor (ring_after ns sent fate) steps) l) frames
          (subst (λ l. IsBound adder processor ps l (ring_steps adder processor (ring_after ns sent fate) steps) (fs ++ record { sent = sent; fate = fate; back = ring_back ns sent fate } ∷ [])) same bound)));
    }
