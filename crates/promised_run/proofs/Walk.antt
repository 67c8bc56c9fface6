-- Frame by frame.
use Rattle.std.proofs.Common.{◌≡◌, ◌≤◌, ℕ, ◌+◌, Bool, true, false, Option, List, [], ◌∷◌, ◌++◌, length, sym, ap, ◌∙◌, subst, arith}
use Rattle.std.specs.Prelude.{slice_get}
use Rattle.promised_run.proofs.Tours.{FramesIn, Stays}
use Rattle.seen_slaves.specs.of_idle_slaves.Entered.{EagerBut, host_frames}
use Rattle.seen_slaves.specs.of_frame_view.Seen.{seen}
use Rattle.seen_slaves.specs.of_frame_view.View.{Lens}
use Rattle.run_promises.specs.of_life_runs.First.{AreApart, lens_of, first_leads}
use Rattle.run_promises.specs.of_life_runs.Led.{Exchanged, Leads, Turn, IsLed, IsLedFrame, gives_up_at, missed_behind}
use Rattle.run_promises.specs.of_link_mails.Body.{Body}
use Rattle.seen_slaves.specs.of_master_duty.Reply.{Reply}
use Rattle.seen_slaves.specs.of_master_hand.Spoken.{Asked}
use Rattle.run_promises.specs.of_master_node.Happened.{arrivals_at}
use Rattle.run_promises.specs.of_master_node.Recalled.{AllKnow}
use Rattle.run_promises.specs.of_master_tour.Toured.{Tour}
use Rattle.seen_slaves.specs.of_plan_ring.PlanMet.{AllOpenAt}
use Rattle.seen_slaves.specs.of_plan_ring.Lives.{AreLived}
use Rattle.seen_slaves.specs.of_plan_ring.Round.{ring_of, ring_after, behind, AllRound}
use Rattle.seen_slaves.proofs.of_plan_ring.Lives.{front_round, one_after}
use Rattle.run_promises.specs.of_packets_heard.Recalled.{State, AllSettled, IsFirst, IsRecalledFrame, RecalledIn, has_entered}
use Rattle.seen_slaves.specs.of_run_frames.Clocks.{Clocked}
use Rattle.seen_slaves.specs.of_run_frames.Fates.{lost_of}
use Rattle.seen_slaves.specs.of_run_frames.Led.{leads_behind}
use Rattle.seen_slaves.specs.of_run_frames.Runs.{Progress}
use Rattle.seen_slaves.specs.of_run_frames.Toured.{IsToured}
use Rattle.run_promises.specs.of_segment_plan.declared.plan.Scenario.{Scenario}
use Rattle.run_promises.specs.of_segment_ring.Ring.{RingState}
use Rattle.run_promises.specs.of_segment_ring.declared.wire.Fate.TheVariants.{Pass, Lost}
use Rattle.run_promises.specs.of_slave_server.Serving.{Serving}
use Rattle.run_promises.specs.of_slave_node.Node.{Node}
use Rattle.run_promises.specs.of_packets_heard.Toured as Visits
use Rattle.seen_slaves.specs.of_idle_slaves.WaitEager.{AllRest, AllUnpassed, IsEagerFrame}
use Rattle.seen_slaves.specs.of_plan_ring.Dues.{MailsAreDue}
use Rattle.promised_run.specs.Runs.{ScriptsMay, remembered, waiting_at}
use Rattle.promised_run.proofs.Counts.{came_more, entered_few, lost_more, lost_one}
use Rattle.promised_run.proofs.Frames.{all_eager, all_known, all_quiet, all_remember, gets_none, lost_known}
use Rattle.promised_run.proofs.BoundPorts.{none_before, none_more}
use Rattle.promised_run.proofs.Rests.{rests_so, settled_so}
use Rattle.promised_run.proofs.Scripts.{AllMay, may_all}
use Rattle.promised_run.proofs.Unpassed.{TurnsUnpassed, turns_unpassed, unpassed_on}

abbrev Slave : Type 0
Slave = Clocked Body Asked Reply

-- what the slaves of a plan's run are, by laws
pub record Laws (plan : Scenario) : Type 0 where
  pub lived : (fs : List Exchanged) (missed : ℕ) (as' : List Leads) → IsLed (lens_of plan.slaves) plan.recover plan.retry (first_leads plan) fs missed as' → AllRound (ring_of plan) fs → AreLived plan fs as'
  pub opens : (fs : List Exchanged) (as' : List Leads) → AreLived plan fs as' → AllOpenAt plan fs 0 plan.slaves as' (ring_after (ring_of plan) fs).nodes
  pub rooms : ScriptsMay plan
  pub due : MailsAreDue plan
  pub apart : AreApart plan.slaves

module _ (plan : Scenario) (laws : Laws plan) (slowest : ℕ) where
  abbrev Run : List Exchanged → Option (List ℕ) → ℕ → List Leads → Progress → List Slave → Type 0
  Run fs again missed as' p cs = IsToured (lens_of plan.slaves) plan.recover plan.retry slowest (first_leads plan) plan.paces fs again missed as' p cs

  -- what holds behind each frame
  pub record Held (fs : List Exchanged) (again : Option (List ℕ)) (missed : ℕ) (as' : List Leads) (p : Progress) (cs : List Slave) (run : IsToured (lens_of plan.slaves) plan.recover plan.retry slowest (first_leads plan) plan.paces fs again missed as' p cs) (s : State) : Type 0 where
    pub isled : IsLed (lens_of plan.slaves) plan.recover plan.retry (first_leads plan) fs missed as'
    pub ring : s.ring ≡ ring_after (ring_of plan) fs
    pub known : AllKnow s.recalls
    pub unpassed : AllUnpassed as'
    pub eager : EagerBut plan run (remembered plan s.events 0 s.recalls)
    pub few : host_frames plan run (remembered plan s.events 0 s.recalls) eager ≤ length (arrivals_at 0 s.events)
    pub lost : p.lost ≤ lost_of fs

  abbrev pub Holds : (fs : List Exchanged) (again : Option (List ℕ)) (missed : ℕ) (as' : List Leads) (p : Progress) (cs : List Slave) → IsToured (lens_of plan.slaves) plan.recover plan.retry slowest (first_leads plan) plan.paces fs again missed as' p cs → State → Type 0
  Holds fs again missed as' p cs run s = AllRound (ring_of plan) fs → Held fs again missed as' p cs run s

  abbrev pub Step : List Exchanged → List Leads → Exchanged → List Turn → State → State → Type 0
  Step fs as' f us r s = IsRecalledFrame plan as' f us r s

  -- ---- one frame
  module _ (fs : List Exchanged) (again : Option (List ℕ)) (missed : ℕ) (as' : List Leads) (p : Progress) (cs : List Slave) (f : Exchanged) (us : List Turn) (run : IsToured (lens_of plan.slaves) plan.recover plan.retry slowest (first_leads plan) plan.paces fs again missed as' p cs)
      (l : IsLedFrame (lens_of plan.slaves) (length fs) f.sent as' us) (r s : State) (one : IsRecalledFrame plan as' f us r s) (went : AllRound (ring_of plan) (fs ++ f ∷ [])) (h : Held fs again missed as' p cs run r) where
    abbrev lens : ℕ → Lens
    lens = lens_of plan.slaves

    abbrev lives : List Leads
    lives = leads_behind (lens_of plan.slaves) plan.recover plan.retry slowest missed (length fs) f us

    isled_on : IsLed (lens_of plan.slaves) plan.recover plan.retry (first_leads plan) (fs ++ f ∷ []) (missed_behind (lens_of plan.slaves) plan.recover plan.retry f.fate missed) lives
    isled_on = IsLed.on fs missed as' f us h.isled l

    ring_on : s.ring ≡ ring_after (ring_of plan) (fs ++ f ∷ [])
    ring_on = one.ring ∙ ap (λ (z : RingState (Node Serving)). behind z f.sent) h.ring ∙ sym (one_after (ring_of plan) fs f)

    unpassed_so : AllUnpassed lives
    unpassed_so = unpassed_on lens plan.recover plan.retry (gives_up_at lens plan.recover plan.retry missed) (length fs) f l.datagrams as' us l.each h.unpassed

    known_back : f.fate ≡ Pass → AllKnow s.recalls
    known_back fate = all_known plan (seen lens f.back) us r.recalls s.recalls (one.returned fate) h.known (laws.due fs missed as' f us h.isled l went fate)

    known_lost : (after : ℕ) → f.fate ≡ Lost after → AllKnow s.recalls
    known_lost after fate = lost_known plan us r.recalls s.recalls (one.lost after fate) h.known

    came : length (arrivals_at 0 r.events) + length (arrivals_at 0 one.events.making) ≤ length (arrivals_at 0 s.events)
    came = came_more r.events one.events.making one.events.behind s.events one.events.whole

    before_few : host_frames plan run (remembered plan r.events 0 r.recalls) h.eager ≤ length (arrivals_at 0 s.events)
    before_few = let few = h.few in let more = came in omega (arith, few, more)

    entered : Bool
    entered = has_entered one.events.making

    -- it came back, and no packet of the host came in with it
    module _ (fate : f.fate ≡ Pass) (closed : has_entered one.events.making ≡ false) where
      lived : AreLived plan fs as'
      lived = laws.lived fs missed as' h.isled (front_round (ring_of plan) fs f went)

      may : AllMay (lens_of plan.slaves) as'
      may = may_all plan laws.apart laws.rooms 0 plan.slaves lived.members as' lived.shown (λ i. ap (slice_get plan.slaves) (let sum : 0 + i ≡ i = omega arith in sum))

      no_rest : AllRest (lens_of plan.slaves) plan.slaves (remembered plan r.events 0 r.recalls) as' (ring_after (ring_of plan) fs).nodes → ⊥
      no_rest rest =
          let all = rests_so plan fs r.events one.before one.before_is 0 plan.slaves r.recalls as' (ring_after (ring_of plan) fs).nodes h.known rest in
          let settled = settled_so plan fs r.events one.before one.before_is 0 plan.slaves r.recalls as' (ring_after (ring_of plan) fs).nodes (laws.opens fs as' lived) rest in
          let came_in = one.rests all (subst (λ (z : RingState (Node Serving)). AllSettled as' z.nodes) (sym h.ring) settled) in
          (let no : false ≡ true = sym closed ∙ came_in in cc)

      still_unpassed : TurnsUnpassed us
      still_unpassed = turns_unpassed lens plan.recover plan.retry (gives_up_at lens plan.recover plan.retry missed) (length fs) f l.datagrams as' us l.each h.unpassed

      pub eager_frame : IsEagerFrame plan fs f (remembered plan r.events 0 r.recalls) (remembered plan s.events 0 s.recalls) as' us
      eager_frame = record {
        eager = all_eager plan (length fs) (seen lens f.sent) l.datagrams r.events (r.events ++ one.events.making) one.made one.made_is 0 r.recalls as' us l.each h.known one.still one.visits one.takes one.begins one.unvisited may
            (λ i idle none.
            let sum : 0 + i ≡ i = omega arith in
            subst (λ j. waiting_at plan r.events j ≡ []) (sym sum) (none_before plan f us r.events s.events one.events closed i idle (subst (λ j. waiting_at plan (r.events ++ one.events.making) j ≡ []) sum none))) still_unpassed;
        remembers = all_remember plan (length fs) (seen lens f.back) l.datagrams r.events s.events 0 r.recalls s.recalls as' us l.each one.still (one.returned fate) still_unpassed;
        none = λ silent. gets_none plan (seen lens f.back) r.events s.events (none_more plan f us r.events s.events one.events closed (one.events.quiet fate (all_quiet (seen lens f.back) us silent))) 0 us r.recalls s.recalls (one.returned fate);
        unpassed = h.unpassed;
        some = no_rest;
      }

  pub stays : Stays (lens_of plan.slaves) plan.recover plan.retry slowest (first_leads plan) plan.paces State Holds Step
  stays = record {
    lost = λ fs again missed as' p cs f us after ps run l fate visit frames led r s one kept went.
        (let h = kept (front_round (ring_of plan) fs f went) in record {
          isled = isled_on fs again missed as' p cs f us run l r s one went h;
          ring = ring_on fs again missed as' p cs f us run l r s one went h;
          known = known_lost fs again missed as' p cs f us run l r s one went h after fate;
          unpassed = unpassed_so fs again missed as' p cs f us run l r s one went h;
          eager = (remembered plan r.events 0 r.recalls, h.eager);
          few = before_few fs again missed as' p cs f us run l r s one went h;
          lost = (let few = h.lost in let more = lost_one fs f after fate in omega (arith, few, more));
        });
    opening = λ fs again missed as' p cs f us ps run l fate under visit frames led r s one kept went.
        (let h = kept (front_round (ring_of plan) fs f went) in record {
          isled = isled_on fs again missed as' p cs f us run l r s one went h;
          ring = ring_on fs again missed as' p cs f us run l r s one went h;
          known = known_back fs again missed as' p cs f us run l r s one went h fate;
          unpassed = unpassed_so fs again missed as' p cs f us run l r s one went h;
          eager = (remembered plan r.events 0 r.recalls, h.eager);
          few = before_few fs again missed as' p cs f us run l r s one went h;
          lost = (let few = h.lost in let more = lost_more fs f in omega (arith, few, more));
        });
    round = λ fs again missed as' p cs f us ps run l fate over visit frames led r s one kept went.
        (let h = kept (front_round (ring_of plan) fs f went) in record {
          isled = isled_on fs again missed as' p cs f us run l r s one went h;
          ring = ring_on fs again missed as' p cs f us run l r s one went h;
          known = known_back fs again missed as' p cs f us run l r s one went h fate;
          unpassed = unpassed_so fs again missed as' p cs f us run l r s one went h;
          eager = (remembered plan r.events 0 r.recalls, has_entered one.events.making, (λ closed same. eager_frame fs again missed as' p cs f us run l r s one went h fate closed), h.eager);
          few = (let few = h.few in let more = came fs again missed as' p cs f us run l r s one went h in let now = entered_few one.events.making in omega (arith, few, more, now));
          lost = (let few = h.lost in let more = lost_more fs f in omega (arith, few, more));
        });
  }

  -- ---- before the first frame
  pub starts : (unpassed : AllUnpassed (first_leads plan)) (s : State) → IsFirst plan s → Holds _ _ _ _ _ _ IsToured.start s
  starts unpassed s first went = record {
    isled = IsLed.start;
    ring = first.ring;
    known = first.known;
    unpassed = unpassed;
    eager = tt;
    few = omega arith;
    lost = omega arith;
  }

  pub frames : {fs : List Exchanged} {t : Tour} {as' : List Leads} (toured : Visits.IsToured (lens_of plan.slaves) plan.recover plan.retry (first_leads plan) fs t as') (s : State) → RecalledIn plan toured s →
      FramesIn (lens_of plan.slaves) plan.recover plan.retry slowest (first_leads plan) plan.paces (IsFirst plan) Step toured s
  frames Visits.IsToured.start s k = k
  frames (Visits.IsToured.on fs t as' f us visit before led of) s k = (k.0, k.1, frames before k.0 k.2)
