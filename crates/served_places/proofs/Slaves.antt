-- A frame of a serving, for the slaves as it is counted.
use Rattle.std.proofs.Common.{◌≡◌, ℕ, zero, suc, ◌&&◌, Bool, false, List, [], ◌∷◌, length, map, refl, sym, ap, ◌∙◌, subst}
use Rattle.run_frames.specs.of_datagrams.Datagram as Raw
use Rattle.run_frames.specs.of_frame_view.Seen.{seen, datagrams_seen}
use Rattle.run_frames.specs.of_frame_view.View.{Lens}
use Rattle.run_frames.specs.of_frame_view.Shares.{came_at}
use Rattle.few_replies.specs.of_life_model.Lives.{life_back, life_lost}
use Rattle.run_frames.specs.of_life_runs.First.{first_leads, leads_from}
use Rattle.run_frames.specs.of_life_runs.Led.{Exchanged, Leads, speech_at, is_passed}
use Rattle.few_replies.specs.of_link_mails.Body.{Body}
use Rattle.run_frames.specs.of_master_duty.Reply.{Reply}
use Rattle.run_frames.specs.of_master_hand.Spoken.{Asked, acknowledged, is_followed}
use Rattle.run_frames.specs.of_master_side.Passing.{news_back, news_lost}
use Rattle.run_frames.specs.Answers.{AllAsk, AllAnswer}
use Rattle.run_frames.specs.Begins.{AllNew}
use Rattle.run_frames.specs.Brings.{AllBring}
use Rattle.run_frames.specs.Clocks.{Clocked}
use Rattle.run_frames.specs.Goes.{Under, AllClocked, AllUnder, all_back, all_lost, given_if}
use Rattle.run_frames.specs.Led.{AreLed, first_clocked}
use Rattle.run_frames.proofs.Answering.{one_brings}
use Rattle.run_frames.proofs.Leading.{SeenIs, given_same, one_under}
use Rattle.run_frames.proofs.Tallying.{first_of_plan}
use Rattle.few_replies.specs.of_segment_model.Returned.{Returns}
use Rattle.run_frames.specs.of_segment_plan.Bound.{slowest}
use Rattle.run_frames.specs.of_segment_plan.Sound.{IsPlan}
use Rattle.run_frames.specs.of_segment_plan.declared.plan.Scenario.{Scenario}
use Rattle.run_frames.specs.of_segment_plan.declared.service.Service as Plan
use Rattle.run_frames.specs.of_segment_plan.declared.slave.SlaveSpec.{SlaveSpec}
use Rattle.run_frames.specs.of_segment_ring.declared.wire.Fate.TheVariants.{Pass, Lost}
use Rattle.run_frames.specs.of_life_runs.Served.{Keyed, Serves, ServedTurn, AllServedTurn, all_serve, asked_at, served_behind, served_life}
use Rattle.served_places.specs.Toured.{back_under, first_served, lost_under}

abbrev pub Slave : Type 0
Slave = Clocked Body Asked Reply

-- as a run has them
abbrev pub leads_in : List Serves → List Leads
leads_in ws = map (λ (w : Serves). w.lead) ws

pub leads_asked : (place : ℕ) (k : Keyed) (ws : List Serves) → leads_in (asked_at place k ws) ≡ leads_in ws
leads_asked place k [] = refl
leads_asked zero k (w ∷ ws) = refl
leads_asked (suc place) k (w ∷ ws) = ap (λ l. w.lead ∷ l) (leads_asked place k ws)

-- before the first frame
pub first_same : (paces : List ℕ) (as' : List Leads) → length paces ≡ length as' → first_served (all_serve paces as') ≡ first_clocked as' paces
first_same [] [] e = refl
first_same [] (a ∷ as') e = absurd (cc)
first_same (pace ∷ paces) [] e = absurd (cc)
first_same (pace ∷ paces) (a ∷ as') e = ap (λ l. (record { spot = a.lived.spot; life = a.lived.life; pace = pace; stepped = false }) ∷ l) (first_same paces as' (let f : length paces ≡ length as' = cc in f))

pub first_leads_in : (paces : List ℕ) (as' : List Leads) → leads_in (all_serve paces as') ≡ as'
first_leads_in paces [] = refl
first_leads_in [] (a ∷ as') = ap (λ l. a ∷ l) (first_leads_in [] as')
first_leads_in (pace ∷ paces) (a ∷ as') = ap (λ l. a ∷ l) (first_leads_in paces as')

module _ (seen_is : SeenIs) (lens : ℕ → Lens) (recover retry made : ℕ) (f : Exchanged) where
  -- ALL SLAVES with their shares of the frame
  pub all_under : (g : ServedTurn → Under Body Asked Reply) → ((v : ServedTurn) → (g v).life ≡ v.turn.lived.life) → ((v : ServedTurn) → (g v).under ≡ v.turn.share.under) →
      (ds : List Raw.Datagram) (cs : List Slave) (ws : List Serves) (vs : List ServedTurn) → AreLed (leads_in ws) cs → seen lens f.sent ≡ datagrams_seen lens ds → AllServedTurn lens made ds ws vs → AllUnder (speech_at lens) acknowledged is_followed is_passed made (seen lens f.sent) cs (map g vs)
  all_under g same share ds [] [] [] l view t = tt
  all_under g same share ds [] [] (v ∷ vs) l view t = absurd t
  all_under g same share ds [] (w ∷ ws) vs l view t = absurd l
  all_under g same share ds (c ∷ cs) [] vs l view t = absurd l
  all_under g same share ds (c ∷ cs) (w ∷ ws) [] l view t = absurd t
  all_under g same share ds (c ∷ cs) (w ∷ ws) (v ∷ vs) l view t =
      (one_under seen_is lens recover retry made f ds c w.lead v.turn (g v) l.0 l.1 view t.0.next t.0.asked (same v) (share v), all_under g same share ds cs ws vs l.2 view t.1)

  -- what came back brought each what its access asks for
  pub all_bring : (ds : List Raw.Datagram) → seen lens f.sent ≡ datagrams_seen lens ds → Returns (seen lens f.sent) (seen lens f.back) → (cs : List Slave) (ws : List Serves) (vs : List ServedTurn) → AreLed (leads_in ws) cs → AllServedTurn lens made ds ws vs →
      AllAsk (seen lens f.sent) (map (λ (v : ServedTurn). v.turn) vs) → AllAnswer (seen lens f.back) cs (map (λ (v : ServedTurn). v.turn) vs) → AllBring (seen lens f.back) cs (map (back_under (seen lens f.back)) vs)
  all_bring ds view r [] [] [] l t asks answers = tt
  all_bring ds view r [] [] (v ∷ vs) l t asks answers = absurd t
  all_bring ds view r [] (w ∷ ws) vs l t asks answers = absurd l
  all_bring ds view r (c ∷ cs) [] vs l t asks answers = absurd l
  all_bring ds view r (c ∷ cs) (w ∷ ws) [] l t asks answers = absurd t
  all_bring ds view r (c ∷ cs) (w ∷ ws) (v ∷ vs) l t asks answers =
      let b = one_brings lens made ds (seen lens f.sent) (seen lens f.back) view r c v.turn (l.0 ∙ sym t.0.next.spot) t.0.asked asks.0 answers.0 in
      (record { none = b.none; some = b.some }, all_bring ds view r cs ws vs l.2 t.1 asks.1 answers.1)

  -- THEIR LIVES behind one that came back
  pub all_led_back : (gives : Bool) (ds : List Raw.Datagram) (cs : List Slave) (ws : List Serves) (vs : List ServedTurn) → AreLed (leads_in ws) cs → AllServedTurn lens made ds ws vs → f.fate ≡ Pass →
      AreLed (leads_in (map (served_behind lens recover retry gives made f) vs)) (all_back (speech_at lens) acknowledged is_followed is_passed made (seen lens f.back) cs (map (back_under (seen lens f.back)) vs))
  all_led_back gives ds [] [] [] l t fate = tt
  all_led_back gives ds [] [] (v ∷ vs) l t fate = absurd t
  all_led_back gives ds [] (w ∷ ws) vs l t fate = absurd l
  all_led_back gives ds (c ∷ cs) [] vs l t fate = absurd l
  all_led_back gives ds (c ∷ cs) (w ∷ ws) [] l t fate = absurd t
  all_led_back gives ds (c ∷ cs) (w ∷ ws) (v ∷ vs) l t fate =
      let here : c.spot ≡ v.turn.lived.spot = l.0 ∙ sym t.0.next.spot in
      let now = ap (λ z. served_life lens recover retry gives made f z v) fate in (
        here ∙ sym (ap (λ z. z.spot) now),
        ap (λ s. life_back (speech_at lens s) acknowledged is_followed is_passed made s (news_back v.turn.lived.spot.station v.kept v.counts (seen lens f.back)) (seen lens f.back) (came_at v.turn.share.under v.turn.share.at (seen lens f.back)) v.turn.lived.life v.turn.lived.life.stand) here
            ∙ sym (ap (λ z. z.life) now),
        all_led_back gives ds cs ws vs l.2 t.1 fate,
      )

  -- and behind a lost one
  pub all_led_lost : (gives : Bool) (after : ℕ) (ds : List Raw.Datagram) (cs : List Slave) (ws : List Serves) (vs : List ServedTurn) → AreLed (leads_in ws) cs → AllServedTurn lens made ds ws vs → f.fate ≡ Lost after →
      AreLed (leads_in (map (served_behind lens recover retry gives made f) vs)) (all_lost (speech_at lens) acknowledged is_followed is_passed gives recover made (seen lens f.sent) cs (map (lost_under (seen lens f.sent)) vs))
  all_led_lost gives after ds [] [] [] l t fate = tt
  all_led_lost gives after ds [] [] (v ∷ vs) l t fate = absurd t
  all_led_lost gives after ds [] (w ∷ ws) vs l t fate = absurd l
  all_led_lost gives after ds (c ∷ cs) [] vs l t fate = absurd l
  all_led_lost gives after ds (c ∷ cs) (w ∷ ws) [] l t fate = absurd t
  all_led_lost gives after ds (c ∷ cs) (w ∷ ws) (v ∷ vs) l t fate =
      let here : c.spot ≡ v.turn.lived.spot = l.0 ∙ sym t.0.next.spot in
      let now = ap (λ z. served_life lens recover retry gives made f z v) fate in
      let news = news_lost v.turn.lived.spot.station v.kept (seen lens f.sent) in (
        here ∙ sym (ap (λ z. z.spot) now),
        ap (λ s. given_if (gives && v.turn.share.under) recover s made (life_lost (speech_at lens s) acknowledged is_followed is_passed s news (seen lens f.sent) v.turn.lived.life v.turn.lived.life.stand)) here
            ∙ given_same seen_is lens recover retry made f (gives && v.turn.share.under) v.turn.lived.spot (life_lost (speech_at lens v.turn.lived.spot) acknowledged is_followed is_passed v.turn.lived.spot news (seen lens f.sent) v.turn.lived.life v.turn.lived.life.stand)
            ∙ sym (ap (λ z. z.life) now),
        all_led_lost gives after ds cs ws vs l.2 t.1 fate,
      )

long_leads : (rows : List (ℕ × Plan.Service)) (place : ℕ) (ss : List SlaveSpec) → length (leads_from rows place ss) ≡ length ss
long_leads rows place [] = refl
long_leads rows place (s ∷ ss) = ap suc (long_leads rows (suc place) ss)

-- A PLAN'S SLAVES before the first frame are a new ring's
pub begins_so : (plan : Scenario) → IsPlan plan →
    (let cs = first_served (all_serve plan.paces (first_leads plan)) in AllNew cs × AllClocked (slowest plan.paces) cs × AreLed (leads_in (all_serve plan.paces (first_leads plan))) cs × (length cs ≡ length plan.slaves))
begins_so plan is =
    let b = first_of_plan plan.services plan.slaves plan.paces is.laid.paces is.laid.pace in
    let same : first_clocked (first_leads plan) plan.paces ≡ first_served (all_serve plan.paces (first_leads plan)) = sym (first_same plan.paces (first_leads plan) (is.laid.paces ∙ sym (long_leads plan.services 0 plan.slaves))) in (
      subst (λ cs. AllNew cs) same b.0,
      subst (λ cs. AllClocked (slowest plan.paces) cs) same b.1,
      subst (λ as'. AreLed as' (first_served (all_serve plan.paces (first_leads plan)))) (sym (first_leads_in plan.paces (first_leads plan))) (subst (λ cs. AreLed (first_leads plan) cs) same b.2),
      ap length (sym same) ∙ b.3,
    )
