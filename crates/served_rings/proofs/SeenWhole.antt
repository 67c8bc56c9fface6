-- THE LAW OF SUCH LIVES, over what it stands on.
use Rattle.std.proofs.Common.{ℕ, Option, length, refl}
use Rattle.served_places.specs.of_exchange_model.Exchange.{Exchange}
use Rattle.served_places.specs.of_life_model.Lives.{Spot, Life}
use Rattle.run_work.specs.of_few_replies.Clearing.{Forgets}
use Rattle.served_places.proofs.of_few_replies.Clears.{clears}
use Rattle.served_places.specs.of_segment_model.Slaves.{Processor}
use Rattle.served_places.specs.of_serving_model.Tagged.{Rowed}
use Rattle.served_places.specs.of_state_model.States.{Table}
use Rattle.run_work.specs.of_life_counts.Epochs.{Speaker, IsSpeaker, IsRun, between}
use Rattle.run_work.proofs.of_life_counts.TaggedWhole.{seeing_lawful, seeing_stated, epoch_seen}
use Rattle.served_rings.specs.SeenLed.{IsFairLife, IsSeenLife, IsLedLife}
use Rattle.served_rings.proofs.SeenRows.{era_in}
use Rattle.served_rings.proofs.Chains.{Laws, lives}

pub life_seen : {V M Q R C T A : Type 0} (w : Speaker V M Q R C T) → IsSpeaker w → (seer : Processor (Rowed V M Q)) (table : ℕ → Table) (spot : Spot) (u : Exchange V A M T (Option R)) (processor : Processor V) → IsRun w u processor seer (table spot.station) →
    (clear : V → V) → Forgets w.exchange w.core clear → (first : V) (l : Life M T (Option R)) → IsLedLife w seer table spot u processor clear first l → IsFairLife w l → IsSeenLife w seer table spot clear first l
life_seen w k seer table spot u processor run clear forgets first l led fair =
    let laws : Laws w seer table spot u processor clear = record {
      epochs = λ opened v r plan answers fs counts e n is all. epoch_seen w k u processor seer table spot run opened v r plan answers fs counts e n is all;
      clears = λ opened v r fs counts e n is. clears w.exchange w.core k.served clear forgets is.slave.node.server.server
          (era_in w.exchange w.calm w.fair w.states (seeing_lawful w k) (seeing_stated w k) seer table spot is.era opened (length is.frames) is.frames (between v) r is.slave is.is refl);
    } in
    lives w seer table spot u processor clear laws first l led fair
