-- One frame of the run, for the slaves as they are counted and those of the ring.
use Rattle.std.proofs.Common.{◌≡◌, ℕ, suc, Bool, List, [], ◌∷◌, ◌++◌, map, length, refl, sym, ap, ◌∙◌, subst}
use Rattle.std.proofs.lemmas.List.{length-map, map-append}
use Rattle.run_frames.specs.of_datagrams.Frame.{chained}
use Rattle.whole_ring.specs.of_frame_view.Seen.{seen}
use Rattle.whole_ring.specs.of_frame_view.View.{Lens}
use Rattle.whole_ring.specs.of_frame_view.Shares.{Lived}
use Rattle.whole_ring.specs.of_life_model.Lives.{Stand}
use Rattle.whole_ring.specs.of_life_model.Own.{own}
use Rattle.run_frames.specs.of_life_runs.First.{lens_of}
use Rattle.run_frames.specs.of_life_runs.Led as Led
use Rattle.run_frames.specs.of_life_runs.Led.{Exchanged, Leads, Turn, IsLedFrame, AllTurn, is_passed, speech_at, gives_up_at}
use Rattle.slave_server.specs.of_link_mails.Body.{Body}
use Rattle.run_frames.specs.of_master_duty.Reply.{Reply}
use Rattle.run_frames.specs.of_master_hand.Spoken.{Asked, acknowledged, is_followed}
use Rattle.plan_ring.specs.Lives.{IsKnown, AreLived}
use Rattle.plan_ring.specs.Master.{AllLed, AllUnder, AllSame, AllBehind}
use Rattle.plan_ring.specs.Plan.{PlanMember, FitsPlan, step}
use Rattle.plan_ring.specs.Round.{ring_of, behind, WentRound, ring_after, frame_seen, all_seen}
use Rattle.plan_ring.proofs.Known.{AllBoot, all_boot}
use Rattle.plan_ring.proofs.Lives.{one_after}
use Rattle.plan_ring.proofs.Master as Ring
use Rattle.plan_ring.proofs.Turns.{under_of, all_under, all_behind}
use Rattle.plan_ring.specs.Clocks.{AllStand, clocks_on, AnswersAs, AsksAs, AllAsked, AllAnswered}
use Rattle.plan_ring.proofs.Each.{each_stand, each_answers, meets}
use Rattle.run_frames.specs.Answers.{EachAsks, AllAsk, AllAnswer, StandAnswers}
use Rattle.run_frames.specs.Led.{AreLed, unders, behind_lost, behind_back}
use Rattle.run_frames.proofs.Leading.{SeenIs, all_led_lost, all_led_back}
use Rattle.slave_server.specs.of_segment_model.Record.{Frame}
use Rattle.slave_server.specs.of_segment_model.Slaves.{Datagram}
use Rattle.slave_server.specs.of_segment_plan.Sound as Plan
use Rattle.slave_server.specs.of_segment_plan.declared.plan.Scenario.{Scenario}
use Rattle.run_frames.specs.of_segment_ring.Ring.{RingState, ring_behind}
use Rattle.run_frames.specs.of_segment_ring.Schedule.{fate_at}
use Rattle.run_frames.specs.of_segment_ring.declared.wire.Fate.{Fate}
use Rattle.run_frames.specs.of_segment_ring.declared.wire.Fate.TheVariants.{Pass, Lost}
use Rattle.whole_ring.specs.of_slave_lives.Rings.{fate_seen}
use Rattle.slave_server.specs.Serving.{Serving}
use Rattle.slave_server.specs.of_slave_node.Node.{Node, node_passed}
use Rattle.whole_ring.specs.Members.{IsRing}
use Rattle.whole_ring.specs.Turning as Whole
use Rattle.whole_ring.specs.Turning.{frame_at, behind_frame, given_up, next_life}
use Rattle.whole_ring.proofs.Begins as Begins
use Rattle.whole_ring.proofs.Members as Members
use Rattle.plan_ring.proofs.Pairs.{Slave, AllPair, clocks, all_stand, RunOn, run_back, run_lost, pairs_on, given_all}

module _ (seen_is : SeenIs) (plan : Scenario) (is : Plan.IsPlan plan) (known : IsKnown plan) (slowest : ℕ) (fs : List Exchanged) (missed : ℕ) (as' : List Leads) (f : Exchanged) (us : List Turn) (x : AreLived plan fs as') (y : IsLedFrame (lens_of plan.slaves) (length fs) f.sent as' us) (w : WentRound (ring_after (ring_of plan) fs) f)
    (number : ℕ) (cs : List Slave) (pairs : AllPair cs x.members) (led : AreLed as' cs) (frames : number ≡ length fs) where
  abbrev lens : ℕ → Lens
  lens = lens_of plan.slaves

  abbrev ring : RingState (Node Serving)
  ring = ring_after (ring_of plan) fs

  abbrev gs : List (Frame Body)
  gs = all_seen (lens_of plan.slaves) fs

  abbrev made : ℕ
  made = length (all_seen (lens_of plan.slaves) fs)

  abbrev gives : Bool
  gives = gives_up_at (lens_of plan.slaves) plan.recover plan.retry missed

  abbrev sent_frame : Frame Body
  sent_frame = frame_at (lens_of plan.slaves) (ring_after (ring_of plan) fs) f.sent

  many : made ≡ length fs
  many = length-map fs (frame_seen lens)

  boots : AllBoot plan.services 0 plan.slaves
  boots = all_boot (length plan.slaves) plan.slaves [] plan.slaves refl plan.services is.laid.services known.states

  xs : AllUnder is_followed is_passed lens made y.datagrams x.members (map under_of us)
  xs = subst (λ (n : ℕ). AllUnder is_followed is_passed lens n y.datagrams x.members (map under_of us)) (sym many) (all_under plan gs (length fs) y.datagrams 0 plan.slaves x.members as' us x.lives.each x.shown boots y.each)

  abbrev turns : List (Whole.Turn Asked)
  turns = Ring.turns_of is_followed is_passed lens made y.datagrams x.members (map under_of us) x.led xs

  turned : Whole.AllTurn is_followed is_passed lens made y.datagrams x.members turns
  turned = Ring.all_turn is_followed is_passed lens made y.datagrams x.members (map under_of us) x.led xs

  abbrev members_behind : Fate → List PlanMember
  members_behind fate = behind_frame is_followed is_passed made sent_frame fate 0 x.members turns (chained y.datagrams)

  abbrev fate_then : Fate
  fate_then = fate_at ring.lose ring.number

  ring_on : IsRing lens step (FitsPlan plan.slaves) (gs ++ sent_frame ∷ []) (ring_behind node_passed step ring f.sent) (members_behind fate_then)
  ring_on = Members.ring_on lens step (FitsPlan plan.slaves) is_followed is_passed gs ring f.sent y.datagrams y.frame x.members turns x.lives turned

  stand_on : AllStand (clocks_on made (clocks cs) x.members (members_behind fate_then)) (members_behind fate_then)
  stand_on = each_stand lens step (FitsPlan plan.slaves) is_followed is_passed gs ring f.sent y.datagrams y.frame x.members x.lives (meets lens step (FitsPlan plan.slaves) is_followed is_passed gs ring f.sent y.datagrams y.frame x.members turns x.lives turned) [] x.members turns (clocks cs) refl x.lives.each turned (all_stand cs x.members pairs)

  -- ---- the run behind the frame
  abbrev leads : List Leads
  leads = map (Led.led_behind lens plan.recover plan.retry gives (length fs) f) us

  pub record On (ds : List Slave) : Type 0 where
    pub lived : AreLived plan (fs ++ f ∷ []) (map (Led.led_behind (lens_of plan.slaves) plan.recover plan.retry (gives_up_at (lens_of plan.slaves) plan.recover plan.retry missed) (length fs) f) us)
    pub paired : AllPair ds lived.members

  frame_is : frame_at lens ring f.sent ≡ frame_seen lens f
  frame_is = λ i. record { sent = seen lens f.sent; fate = fate_seen (sym w.fate i); back = seen lens (sym w.back i) }

  frames_are : all_seen lens fs ++ frame_at lens ring f.sent ∷ [] ≡ all_seen lens (fs ++ f ∷ [])
  frames_are = (λ i. all_seen lens fs ++ frame_is i ∷ []) ∙ sym (map-append (frame_seen lens) fs (f ∷ []))

  on_by : (ds : List Slave) (ns : List PlanMember) → IsRing lens step (FitsPlan plan.slaves) (gs ++ sent_frame ∷ []) (ring_behind node_passed step ring f.sent) ns → AllLed ns → AllSame x.members ns →
      AllBehind is_followed is_passed gives plan.recover made sent_frame fate_then x.members (map under_of us) ns → AllStand (clocks_on made (clocks cs) x.members ns) ns → RunOn number cs ds → AreLed leads ds → On ds
  on_by ds ns lives all_led same shown stand run now =
      let shows = all_behind plan gs (length fs) y.datagrams gives ring f w 0 plan.slaves x.members as' us ns x.lives.each x.shown y.each same
      (subst (λ (n : ℕ). AllBehind is_followed is_passed gives plan.recover n sent_frame fate_then x.members (map under_of us) ns) many shown) in
      record {
        lived = record {
          members = ns;
          lives = subst (λ (r : RingState (Node Serving)). IsRing lens step (FitsPlan plan.slaves) (all_seen lens (fs ++ f ∷ [])) r ns) (sym (one_after (ring_of plan) fs f))
              (subst (λ (hs : List (Frame Body)). IsRing lens step (FitsPlan plan.slaves) hs (behind ring f.sent) ns) frames_are lives);
          led = all_led;
          shown = shows;
        };
        paired = pairs_on plan made 0 plan.slaves cs ds x.members ns leads (subst (λ (n : ℕ). RunOn n cs ds) (frames ∙ sym many) run) pairs same now shows stand;
      }

  long : length (unders (seen lens f.back) us) ≡ length cs
  long = length-map us _ ∙ go as' us cs y.each led
    where
      go : (bs : List Leads) (ts : List Turn) (ds : List Slave) → AllTurn lens (length fs) y.datagrams bs ts → AreLed bs ds → length ts ≡ length ds
      go [] [] [] t l = refl
      go [] [] (d ∷ ds) t l = absurd l
      go [] (u ∷ ts) ds t l = absurd t
      go (b ∷ bs) [] ds t l = absurd t
      go (b ∷ bs) (u ∷ ts) [] t l = absurd l
      go (b ∷ bs) (u ∷ ts) (d ∷ ds) t l = ap suc (go bs ts ds t.1 l.2)

  -- what the master shows is by the fate that the frame had
  abbrev Shows : Fate → Type 0
  Shows z = (ns : List PlanMember) → AllBehind is_followed is_passed gives plan.recover made sent_frame z x.members (map under_of us) ns → AllBehind is_followed is_passed gives plan.recover made sent_frame fate_then x.members (map under_of us) ns

  -- IT CAME BACK
  pub back_on : f.fate ≡ Pass → On (behind_back (lens_of plan.slaves) plan.recover plan.retry slowest number f us cs)
  back_on fate = by fate_then (sym w.fate ∙ fate) ring_on stand_on (λ ns s. s)
    where
      now : AreLed leads (behind_back lens plan.recover plan.retry slowest number f us cs)
      now = subst (λ (n : ℕ). AreLed leads (behind_back lens plan.recover plan.retry slowest n f us cs)) (sym frames) (all_led_back seen_is lens plan.recover plan.retry (length fs) f gives y.datagrams cs as' us led y.each fate)

      by : (z : Fate) → z ≡ Pass → IsRing lens step (FitsPlan plan.slaves) (gs ++ sent_frame ∷ []) (ring_behind node_passed step ring f.sent) (members_behind z) →
          AllStand (clocks_on made (clocks cs) x.members (members_behind z)) (members_behind z) → Shows z → On (behind_back lens plan.recover plan.retry slowest number f us cs)
      by (Lost after) e r s g = absurd (cc)
      by Pass e r s g =
          let k = Ring.led_back is_followed is_passed lens made y.datagrams gives plan.recover sent_frame 0 x.members (map under_of us) (chained y.datagrams) x.led xs in
          on_by (behind_back lens plan.recover plan.retry slowest number f us cs) (members_behind Pass) r k.led k.same (g (members_behind Pass) k.shown) s
          (run_back (speech_at lens) acknowledged is_followed is_passed number (seen lens f.back) cs (unders (seen lens f.back) us) long) now

  -- IT WAS LOST
  pub lost_on : (after : ℕ) → f.fate ≡ Lost after → On (behind_lost (lens_of plan.slaves) plan.recover plan.retry slowest (gives_up_at (lens_of plan.slaves) plan.recover plan.retry missed) number f us cs)
  lost_on after fate = by fate_then (sym w.fate ∙ fate) ring_on stand_on (λ ns s. s)
    where
      now : AreLed leads (behind_lost lens plan.recover plan.retry slowest gives number f us cs)
      now = subst (λ (n : ℕ). AreLed leads (behind_lost lens plan.recover plan.retry slowest gives n f us cs)) (sym frames) (all_led_lost seen_is lens plan.recover plan.retry (length fs) f gives after y.datagrams (seen lens f.back) cs as' us led y.each fate)

      by : (z : Fate) → z ≡ Lost after → IsRing lens step (FitsPlan plan.slaves) (gs ++ sent_frame ∷ []) (ring_behind node_passed step ring f.sent) (members_behind z) →
          AllStand (clocks_on made (clocks cs) x.members (members_behind z)) (members_behind z) → Shows z → On (behind_lost lens plan.recover plan.retry slowest gives number f us cs)
      by Pass e r s g = absurd (cc)
      by (Lost later) e r s g =
          let carried = Ring.carried is_followed is_passed lens made y.datagrams gives (Lost later) (map under_of us) in
          let k = Ring.led_lost is_followed is_passed lens made y.datagrams gives plan.recover later sent_frame 0 x.members (map under_of us) (chained y.datagrams) x.led xs in
          let ns = given_up plan.recover made (members_behind (Lost later)) carried in
          on_by (behind_lost lens plan.recover plan.retry slowest gives number f us cs) ns
          (Begins.ring_given lens step (FitsPlan plan.slaves) (gs ++ sent_frame ∷ []) plan.recover made (ring_behind node_passed step ring f.sent) (members_behind (Lost later)) carried r)
          k.led k.same (g ns k.shown) (given_all plan.recover made (clocks cs) x.members (members_behind (Lost later)) carried s)
          (run_lost (speech_at lens) acknowledged is_followed is_passed number gives plan.recover (seen lens f.sent) cs (unders (seen lens f.back) us) long) now

  -- WHAT THE SLAVES ANSWER
  all_asked : (ms : List PlanMember) (ts : List Turn) (k : AllLed ms) (z : AllUnder is_followed is_passed lens made y.datagrams ms (map under_of ts)) → AllAsk (seen lens f.sent) ts →
      AllAsked is_followed is_passed made (seen lens f.sent) ms (Ring.turns_of is_followed is_passed lens made y.datagrams ms (map under_of ts) k z)
  all_asked [] [] k z a = tt
  all_asked [] (u ∷ ts) k z a = absurd z
  all_asked (m ∷ ms) [] k z a = absurd z
  all_asked (m ∷ ms) (u ∷ ts) k z a = (one, all_asked ms ts k.1 z.1 a.1)
    where
      one : AsksAs (seen lens f.sent) m.spot (next_life is_followed is_passed made m.services m.life (record { pick = z.0.next.pick; share = u.share; news = [] })) m.life.stand
      one = λ e. subst (λ (l : Lived Asked Reply). EachAsks l.life.era.side.halves.inn.state l.life.era.side.halves.inn.bit (own l.spot.station (seen lens f.sent)))
          (Ring.lived_is is_followed is_passed lens made y.datagrams m (under_of u) k.0 z.0) (a.0 (Ring.stand_is is_followed is_passed lens made y.datagrams m (under_of u) k.0 z.0 ∙ e))

  as_stands : (back : List (Datagram Body)) (c : Slave) (u : Turn) (s : Stand) → AnswersAs back c.stepped u.lived.spot u.lived.life u.share s → StandAnswers back c u s
  as_stands back c u (Stand.Opens o) k = k
  as_stands back c u Stand.Open k = k
  as_stands back c u Stand.Gone k = tt

  all_answer : (back : List (Datagram Body)) (ds : List Slave) (ms : List PlanMember) (ts : List Turn) (k : AllLed ms) (z : AllUnder is_followed is_passed lens made y.datagrams ms (map under_of ts)) → AllPair ds ms →
      AllAnswered is_followed is_passed made back (clocks ds) ms (Ring.turns_of is_followed is_passed lens made y.datagrams ms (map under_of ts) k z) → AllAnswer back ds ts
  all_answer back [] [] [] k z q a = tt
  all_answer back [] [] (u ∷ ts) k z q a = absurd z
  all_answer back [] (m ∷ ms) ts k z q a = absurd q
  all_answer back (d ∷ ds) [] ts k z q a = absurd q
  all_answer back (d ∷ ds) (m ∷ ms) [] k z q a = absurd z
  all_answer back (d ∷ ds) (m ∷ ms) (u ∷ ts) k z q a = (one, all_answer back ds ms ts k.1 z.1 q.1 a.1)
    where
      one : StandAnswers back d u u.lived.life.stand
      one = as_stands back d u u.lived.life.stand
          (subst (λ (s : Stand). AnswersAs back d.stepped u.lived.spot u.lived.life u.share s) (sym (Ring.stand_is is_followed is_passed lens made y.datagrams m (under_of u) k.0 z.0))
          (subst (λ (l : Lived Asked Reply). AnswersAs back d.stepped l.spot l.life u.share m.life.stand) (sym (Ring.lived_is is_followed is_passed lens made y.datagrams m (under_of u) k.0 z.0)) a.0))

  pub answers : f.fate ≡ Pass → AllAsk (seen (lens_of plan.slaves) f.sent) us → AllAnswer (seen (lens_of plan.slaves) f.back) cs us
  answers fate asks =
      let given = each_answers lens step (FitsPlan plan.slaves) is_followed is_passed gs ring f.sent y.datagrams y.frame x.members x.lives (meets lens step (FitsPlan plan.slaves) is_followed is_passed gs ring f.sent y.datagrams y.frame x.members turns x.lives turned) (sym w.fate ∙ fate) [] x.members turns (clocks cs) refl x.lives.each turned (all_stand cs x.members pairs)
      (all_asked x.members us x.led xs asks) in
      all_answer (seen lens f.back) cs x.members us x.led xs pairs
      (subst (λ (octets : List ℕ). AllAnswered is_followed is_passed made (seen lens octets) (clocks cs) x.members turns) (sym w.back) given)
