-- Where all is done of an open slave it rests.
use Rattle.std.proofs.Common.{◌≡◌, ◌⊎◌, ℕ, sym, ap, ◌∙◌, inl, inr}
use Rattle.idle_slaves.specs.Eager.{Remembered}
use Rattle.idle_slaves.specs.Standing.{IsDone}
use Rattle.plan_ring.specs.of_frame_view.View.{Lens}
use Rattle.idle_slaves.specs.Visited.{IsLeft}
use Rattle.idle_slaves.proofs.Settled.{is_left}
use Rattle.plan_ring.specs.of_life_model.Lives.{Stand}
use Rattle.plan_ring.specs.of_life_runs.Led.{Leads, speech_at}
use Rattle.plan_ring.specs.PlanMet.{slave_at}
use Rattle.plan_ring.specs.of_segment_model.Slaves.{serving}
use Rattle.plan_ring.specs.of_segment_plan.declared.slave.SlaveSpec.{SlaveSpec}
use Rattle.plan_ring.specs.of_slave_server.Serving.{Serving}
use Rattle.plan_ring.specs.of_slave_node.Node.{Node}
use Rattle.idle_slaves.specs.WaitEager.{IsResting}
use Rattle.idle_slaves.proofs.Fits.{IsFit, IsSeated, Rests, exchange_at, next_of}

module _ (lens : ℕ → Lens) (s : SlaveSpec) (a : Leads) (n : Node Serving) where
  rests : (m : Remembered) → IsFit lens s a.lived.spot a.lived.life n → IsDone (serving (exchange_at lens s)) (speech_at lens a.lived.spot) a.lived.life (slave_at lens s n) m (next_of a) → IsResting lens s m a n
  rests m o d =
      let k : IsLeft a.lived.life (slave_at lens s n) = is_left (exchange_at lens s) a.lived.life (slave_at lens s n) d.spent in
      record {
        clear = record { stands = d.spent.shows.stands; clear = k.clear };
        held = k.held;
        free = o.frees d.spent d.left;
        end = d.end;
        settled = k.settled;
        offered = ap (λ z. z.inn.offered) (sym d.spent.shows.node) ∙ d.spent.spent.offered;
        control = d.control;
      }

  -- or it was given up for good
  pub over_rests : (m : Remembered) → IsSeated lens s a n → ((a.lived.life.stand ≡ Stand.Gone) ⊎ IsDone (serving (exchange_at lens s)) (speech_at lens a.lived.spot) a.lived.life (slave_at lens s n) m (next_of a)) → Rests lens s a n m
  over_rests m seat (inl gone) = inl gone
  over_rests m seat (inr d) = inr (rests m (seat.fits d.spent.shows.stands) d)
