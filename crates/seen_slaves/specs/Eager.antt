-- A SERVING WHOSE MASTER MAKES NO VISIT IN VAIN where more could go on, and no frame where all is done.
use Rattle.std.specs.Prelude.{◌≡◌, ℕ, suc, Option, List, [], ◌∷◌, map, ⊤}
use Rattle.idle_slaves.specs.Eager.{Remembered, AllEager, AllGetNone, AllRemember, GetsNone}
use Rattle.idle_slaves.specs.of_frame_view.Seen.{seen}
use Rattle.idle_slaves.specs.of_life_runs.First.{lens_of}
use Rattle.idle_slaves.specs.of_life_runs.Led.{Exchanged, Leads, Turn, gives_up_at}
use Rattle.idle_slaves.specs.of_link_mails.Body.{Body}
use Rattle.served_rings.specs.of_master_duty.Reply.{Reply}
use Rattle.served_rings.specs.of_master_hand.Spoken.{Asked}
use Rattle.idle_slaves.specs.of_plan_ring.Round.{ring_of, ring_after}
use Rattle.idle_slaves.specs.of_run_frames.Clocks.{Clocked}
use Rattle.idle_slaves.specs.of_run_frames.Runs.{Progress}
use Rattle.idle_slaves.specs.of_segment_plan.declared.plan.Scenario.{Scenario}
use Rattle.idle_slaves.specs.of_life_runs.Served.{Serves, ServedTurn, served_behind}
use Rattle.served_rings.specs.of_served_places.Toured.{IsServedToured, still_served}
use Rattle.idle_slaves.specs.WaitEager.{AllRest, AllSilent}

-- what is remembered of a slave's visits stays, and no packet came to its port, nor was a mail asked that is to be passed on
pub record StaysSo (m n : Remembered) : Type 0 where
  pub memory : n.memory ≡ m.memory
  pub gets : GetsNone m n

-- of all slaves
abbrev pub AllStaySo : List Remembered → List Remembered → Type 0
AllStaySo [] [] = ⊤
AllStaySo (m ∷ ms) (n ∷ ns) = StaysSo m n × AllStaySo ms ns
AllStaySo _ _ = ⊥

-- no mail that is passed on came a step on by the frame
abbrev pub AllStill : (ServedTurn → Serves) → List ServedTurn → Type 0
AllStill behind [] = ⊤
AllStill behind (v ∷ vs) = ((behind v).lead.lived.life.era.passing ≡ v.turn.lived.life.era.passing) × AllStill behind vs

-- as a run has them
abbrev pub leads_of : List Serves → List Leads
leads_of ws = map (λ w. w.lead) ws

abbrev pub turns_of : List ServedTurn → List Turn
turns_of vs = map (λ v. v.turn) vs

-- A FRAME THAT CAME BACK AND GAINED NOTHING, with what its master remembered before it and behind it; it was made, so not all was done
pub record IsServedEager (plan : Scenario) (recover retry missed : ℕ) (fs : List Exchanged) (f : Exchanged) (ms ns : List Remembered) (ws : List Serves) (vs : List ServedTurn) (made : ℕ) : Type 0 where
  pub eager : AllEager (lens_of plan.slaves) (seen (lens_of plan.slaves) f.sent) ms (leads_of ws) (turns_of vs)
  pub remembers : AllRemember (seen (lens_of plan.slaves) f.back) ms ns (leads_of ws) (turns_of vs)
  pub none : AllSilent (seen (lens_of plan.slaves) f.back) (turns_of vs) → AllGetNone ms ns
  pub still : AllStill (served_behind (lens_of plan.slaves) recover retry (gives_up_at (lens_of plan.slaves) recover retry missed) made f) vs
  pub some : AllRest (lens_of plan.slaves) plan.slaves ms (leads_of ws) (ring_after (ring_of plan) fs).nodes → ⊥

module _ (plan : Scenario) {recover retry slowest : ℕ} {first : List Serves} where
  -- EACH SUCH FRAME OF A SERVING with which no packet of the host came in, before which no mail was asked since the last frame, and by which none that is
  -- passed on came a step on. `ls` is what the master remembers behind the last frame, and `ns` with the mails that were asked since
  abbrev pub ServedEagerIn : {fs : List Exchanged} {again : Option (List ℕ)} {missed : ℕ} {ws : List Serves} {p : Progress} {cs : List (Clocked Body Asked Reply)} → IsServedToured (lens_of plan.slaves) recover retry slowest first fs again missed ws p cs → List Remembered → List Remembered → Type 0
  ServedEagerIn IsServedToured.start ls ns = ⊤
  ServedEagerIn (IsServedToured.asks fs again missed ws p cs place k run may) ls ns = (ms : List Remembered) × ServedEagerIn run ls ms
  ServedEagerIn (IsServedToured.lost fs again missed ws p cs f vs after ps run frame fate visit) ls ns = (ks : List Remembered) × (ms : List Remembered) × ServedEagerIn run ks ms
  ServedEagerIn (IsServedToured.opening fs again missed ws p cs f vs ps run frame fate under visit) ls ns = (ks : List Remembered) × (ms : List Remembered) × ServedEagerIn run ks ms
  ServedEagerIn (IsServedToured.round fs again missed ws p cs f vs ps run frame fate over visit) ls ns =
      (ks : List Remembered) × (ms : List Remembered) × (still_served (lens_of plan.slaves) recover retry slowest p f vs cs ≡ suc p.still → AllStaySo ks ms × IsServedEager plan recover retry missed fs f ms ls ws vs p.frames) × ServedEagerIn run ks ms
  ServedEagerIn (IsServedToured.enters fs again missed ws p cs f vs ps run frame fate over visit nothing) ls ns = (ks : List Remembered) × (ms : List Remembered) × ServedEagerIn run ks ms
