-- A RUN WHOSE MASTER MAKES NO VISIT IN VAIN where more could go on, and no frame where all is done.
use Rattle.std.specs.Prelude.{◌≡◌, ◌⊎◌, ℕ, suc, Option, None, List, [], ◌∷◌, slice_get, ⊤}
use Rattle.idle_slaves.specs.Eager.{Remembered, IsClear, MayBegin, IsAtEnd, AllEager, AllRemember, AllGetNone}
use Rattle.plan_ring.specs.of_frame_view.Seen.{seen}
use Rattle.plan_ring.specs.of_frame_view.View.{Lens}
use Rattle.plan_ring.specs.of_life_model.Lives.{Stand}
use Rattle.plan_ring.specs.of_life_model.Own.{own}
use Rattle.plan_ring.specs.of_life_runs.First.{lens_of, first_leads}
use Rattle.plan_ring.specs.of_life_runs.Led.{Exchanged, Leads, Turn, speech_at}
use Rattle.plan_ring.specs.of_link_mails.Body.{Body}
use Rattle.plan_ring.specs.of_link_model.Frames.{all_accepted}
use Rattle.plan_ring.specs.of_master_duty.Reply.{Reply}
use Rattle.plan_ring.specs.of_master_hand.Spoken.{Asked}
use Rattle.plan_ring.specs.PlanMet.{slave_at}
use Rattle.plan_ring.specs.Round.{ring_of, ring_after}
use Rattle.plan_ring.specs.of_run_frames.Clocks.{Clocked}
use Rattle.plan_ring.specs.of_run_frames.Led.{still_led}
use Rattle.plan_ring.specs.of_run_frames.Runs.{Progress}
use Rattle.plan_ring.specs.of_run_frames.Toured.{IsToured}
use Rattle.plan_ring.specs.of_segment_model.Laws.{IsSettled}
use Rattle.plan_ring.specs.of_segment_model.Slaves.{Datagram, grams}
use Rattle.plan_ring.specs.of_segment_plan.declared.plan.Scenario.{Scenario}
use Rattle.plan_ring.specs.of_segment_plan.declared.slave.SlaveSpec.{SlaveSpec}
use Rattle.plan_ring.specs.of_slave_server.Serving.{Serving}
use Rattle.plan_ring.specs.of_slave_node.Node.{Node}

-- ALL IS DONE OF A SLAVE: it is open with nothing in doubt, no mail is held, a service might begin but its script is at its end, no packet waits at its port,
-- and the slave is settled, without a control word that waits
pub record IsResting (lens : ℕ → Lens) (s : SlaveSpec) (m : Remembered) (a : Leads) (n : Node Serving) : Type 0 where
  pub clear : IsClear a.lived.life
  pub held : a.lived.life.era.side.halves.out.holding ≡ None
  pub free : MayBegin (speech_at lens a.lived.spot) a.lived.life
  pub end : IsAtEnd (slice_get a.script a.number) m
  pub settled : IsSettled (slave_at lens s n)
  pub offered : (slave_at lens s n).node.inn.offered ≡ None
  pub control : (slave_at lens s n).registers.control ≡ None

-- of all slaves that weren't given up for good
abbrev pub AllRest : (ℕ → Lens) → List SlaveSpec → List Remembered → List Leads → List (Node Serving) → Type 0
AllRest lens [] [] [] [] = ⊤
AllRest lens (s ∷ ss) (m ∷ ms) (a ∷ as') (n ∷ ns) = ((a.lived.life.stand ≡ Stand.Gone) ⊎ IsResting lens s m a n) × AllRest lens ss ms as' ns
AllRest lens _ _ _ _ = ⊥

-- no mail that is passed on is in hand
abbrev pub AllUnpassed : List Leads → Type 0
AllUnpassed [] = ⊤
AllUnpassed (a ∷ as') = (a.lived.life.era.passing ≡ None) × AllUnpassed as'

-- no mail of any open slave was accepted
abbrev pub AllSilent : List (Datagram Body) → List Turn → Type 0
AllSilent back [] = ⊤
AllSilent back (u ∷ us) = (u.lived.life.stand ≡ Stand.Open → all_accepted u.lived.spot.station u.lived.life.era.side.halves (grams (own u.lived.spot.station back)) ≡ []) × AllSilent back us

-- A FRAME THAT CAME BACK AND GAINED NOTHING, with what its master remembered before it and behind it; it was made, so not all was done
pub record IsEagerFrame (plan : Scenario) (fs : List Exchanged) (f : Exchanged) (ms ns : List Remembered) (as' : List Leads) (us : List Turn) : Type 0 where
  pub eager : AllEager (lens_of plan.slaves) (seen (lens_of plan.slaves) f.sent) ms as' us
  pub remembers : AllRemember (seen (lens_of plan.slaves) f.back) ms ns as' us
  pub none : AllSilent (seen (lens_of plan.slaves) f.back) us → AllGetNone ms ns
  pub unpassed : AllUnpassed as'
  pub some : AllRest (lens_of plan.slaves) plan.slaves ms as' (ring_after (ring_of plan) fs).nodes → ⊥

module _ (plan : Scenario) {recover retry slowest : ℕ} {paces : List ℕ} where
  -- EACH SUCH FRAME OF A RUN with which no packet of the host came in; `ns` is what the master remembers behind all frames
  abbrev pub EagerIn : {fs : List Exchanged} {again : Option (List ℕ)} {missed : ℕ} {as' : List Leads} {p : Progress} {cs : List (Clocked Body Asked Reply)} → IsToured (lens_of plan.slaves) recover retry slowest (first_leads plan) paces fs again missed as' p cs → List Remembered → Type 0
  EagerIn IsToured.start ns = ⊤
  EagerIn (IsToured.lost fs again missed as' p cs f us after ps run led fate visit) ns = (ms : List Remembered) × EagerIn run ms
  EagerIn (IsToured.opening fs again missed as' p cs f us ps run led fate under visit) ns = (ms : List Remembered) × EagerIn run ms
  EagerIn (IsToured.round fs again missed as' p cs f us ps run led fate over visit) ns =
      (ms : List Remembered) × (still_led (lens_of plan.slaves) recover retry slowest p f us cs ≡ suc p.still → IsEagerFrame plan fs f ms ns as' us) × EagerIn run ms
  EagerIn (IsToured.enters fs again missed as' p cs f us ps run led fate over visit nothing) ns = (ms : List Remembered) × EagerIn run ms
