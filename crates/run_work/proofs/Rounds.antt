-- Frames that went round a ring have the fates of its schedule, and come back as the return of what was sent.
use Rattle.std.proofs.Common.{◌≡◌, ℕ, Option, List, [], ◌∷◌, ◌++◌, sym, ◌∙◌, subst}
use Rattle.std.specs.Prelude.{⊤}
use Rattle.plan_ring.specs.of_datagrams.Datagram as Raw
use Rattle.plan_ring.specs.of_datagrams.Frame.{IsFrame, chained}
use Rattle.plan_ring.specs.of_frame_view.Seen.{seen}
use Rattle.plan_ring.specs.of_frame_view.View.{Lens}
use Rattle.plan_ring.specs.of_life_runs.Led.{Exchanged, Leads}
use Rattle.life_counts.specs.of_link_mails.Body.{Body}
use Rattle.plan_ring.specs.of_master_duty.Reply.{Reply}
use Rattle.life_counts.specs.of_master_hand.Spoken.{Asked}
use Rattle.plan_ring.specs.Round.{AllRound, behind}
use Rattle.life_counts.specs.of_segment_model.Returned.{Returns}
use Rattle.plan_ring.specs.of_segment_ring.declared.wire.Fate.TheVariants.{Pass}
use Rattle.plan_ring.specs.of_segment_ring.Ring.{RingState, ring_returned}
use Rattle.plan_ring.specs.of_segment_ring.Schedule.{fate_at}
use Rattle.life_counts.specs.of_slave_server.Serving.{Serving}
use Rattle.life_counts.specs.of_slave_node.Node.{Node, node_passed}
use Rattle.plan_ring.specs.of_run_frames.Answers.{AllReturned}
use Rattle.plan_ring.specs.of_run_frames.Clocks.{Clocked}
use Rattle.plan_ring.specs.of_run_frames.Fates.{AreFated}
use Rattle.plan_ring.specs.of_run_frames.Runs.{Progress}
use Rattle.plan_ring.specs.of_run_frames.Toured.{IsToured}
use Rattle.plan_ring.specs.of_life_runs.Served.{Serves, IsServedLed}

pub round_fated : (ring : RingState (Node Serving)) (fs : List Exchanged) → AllRound ring fs → AreFated ring.lose ring.number fs
round_fated ring [] r = tt
round_fated ring (f ∷ fs) r = (r.0.fate, round_fated (behind ring f.sent) fs r.1)

-- each frame is one of datagrams
abbrev pub AllFramed : List Exchanged → Type 0
AllFramed [] = ⊤
AllFramed (f ∷ fs) = ((ds : List Raw.Datagram) × IsFrame f.sent (chained ds)) × AllFramed fs

more_framed : (fs : List Exchanged) (f : Exchanged) (ds : List Raw.Datagram) → IsFrame f.sent (chained ds) → AllFramed fs → AllFramed (fs ++ f ∷ [])
more_framed [] f ds is all = ((ds, is), tt)
more_framed (e ∷ fs) f ds is all = (all.0, more_framed fs f ds is all.1)

-- what a law of rings says of a frame
abbrev pub RingReturns : Type 0
RingReturns = (lens : ℕ → Lens) (ring : RingState (Node Serving)) (octets : List ℕ) (ds : List Raw.Datagram) → IsFrame octets ds → fate_at ring.lose ring.number ≡ Pass → Returns (seen lens octets) (seen lens (ring_returned node_passed ring octets))

-- EACH OF THEM that isn't lost
pub frames_returned : (law : RingReturns) (lens : ℕ → Lens) (ring : RingState (Node Serving)) (fs : List Exchanged) → AllFramed fs → AllRound ring fs → AllReturned lens fs
frames_returned law lens ring [] framed round = tt
frames_returned law lens ring (f ∷ fs) framed round = (
  (λ pass. subst (λ back. Returns (seen lens f.sent) (seen lens back)) (sym round.0.back) (law lens ring f.sent (chained framed.0.0) framed.0.1 (sym round.0.fate ∙ pass))),
  frames_returned law lens (behind ring f.sent) fs framed.1 round.1,
)

module _ (lens : ℕ → Lens) (recover retry : ℕ) where
  -- those of a run
  pub toured_framed : (slowest : ℕ) (first : List Leads) (paces : List ℕ) (fs : List Exchanged) (again : Option (List ℕ)) (missed : ℕ) (as' : List Leads) (p : Progress) (cs : List (Clocked Body Asked Reply)) →
      IsToured lens recover retry slowest first paces fs again missed as' p cs → AllFramed fs
  toured_framed slowest first paces fs again missed as' p cs IsToured.start = tt
  toured_framed slowest first paces gs again' missed' bs q ds (IsToured.lost fs again missed as' p cs f us after ps r l fate v) = more_framed fs f l.datagrams l.frame (toured_framed slowest first paces fs again missed as' p cs r)
  toured_framed slowest first paces gs again' missed' bs q ds (IsToured.opening fs again missed as' p cs f us ps r l fate under v) = more_framed fs f l.datagrams l.frame (toured_framed slowest first paces fs again missed as' p cs r)
  toured_framed slowest first paces gs again' missed' bs q ds (IsToured.round fs again missed as' p cs f us ps r l fate over v) = more_framed fs f l.datagrams l.frame (toured_framed slowest first paces fs again missed as' p cs r)
  toured_framed slowest first paces gs again' missed' bs q ds (IsToured.enters fs again missed as' p cs f us ps r l fate over v nothing) = more_framed fs f l.datagrams l.frame (toured_framed slowest first paces fs again missed as' p cs r)

  -- and those of a serving
  pub served_framed : (first : List Serves) (fs : List Exchanged) (missed : ℕ) (ws : List Serves) → IsServedLed lens recover retry first fs missed ws → AllFramed fs
  served_framed first fs missed ws IsServedLed.start = tt
  served_framed first fs missed bs (IsServedLed.asks gs m ws place k led room) = served_framed first gs m ws led
  served_framed first gs missed' bs (IsServedLed.on fs missed ws f vs led frame) = more_framed fs f frame.datagrams frame.frame (served_framed first fs missed ws led)
