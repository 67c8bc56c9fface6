-- What is noted of a slave's services and epochs over a frame of a serving goes with its life, also while mails are passed on to it.
use Rattle.std.proofs.Common.{◌≡◌, ℕ, suc, Bool, Option, Some, None, List, [], ◌∷◌, map, length, refl, sym, subst}
use Rattle.served_places.specs.of_datagrams.Datagram as Raw
use Rattle.packets_heard.proofs.of_master_node.Servings.{leads_same}
use Rattle.packets_heard.specs.of_master_node.Serving.{IsServed, IsServedUnder, ServedShows, ServedUnder, run_lead, run_turn}
use Rattle.packets_heard.specs.of_master_node.Told.{HasLeads, IsTold}
use Rattle.packets_heard.specs.of_master_node.Wants.{AllCounted}
use Rattle.packets_heard.specs.of_master_node.declared.node.MasterNode.{MasterNode}
use Rattle.packets_heard.specs.of_master_node.declared.post.Post.{Post}
use Rattle.plan_ring.specs.of_frame_view.Seen.{seen}
use Rattle.plan_ring.specs.of_frame_view.View.{Lens}
use Rattle.plan_ring.specs.of_frame_view.Shares.{AllBoth, AllThree}
use Rattle.served_places.specs.of_life_runs.First.{first_leads, lens_of}
use Rattle.served_places.specs.of_life_runs.Led.{Comes, Exchanged, Leads, gives_up_at}
use Rattle.served_places.specs.of_master_hand.declared.hand.InHand.{InHand}
use Rattle.served_places.specs.of_master_side.Passing.{news_back, news_lost}
use Rattle.served_places.specs.of_master_side.declared.hand.Hand.{Ghosts}
use Rattle.served_places.specs.of_master_tour.declared.stop.Stop.{Stop}
use Rattle.run_notes.specs.Reports.{AllReport, ReportsBy}
use Rattle.run_notes.specs.declared.standing.Log.{Log}
use Rattle.run_record.proofs.Befores.{AllBefore, first_before, one_more}
use Rattle.run_record.proofs.ServedGaves.{Behind, serve_leads}
use Rattle.run_record.specs.Served.{ServeTo}
use Rattle.served_places.proofs.of_run_frames.Losses.{loses_so, passes_so}
use Rattle.served_places.proofs.of_run_frames.Turns.{turns_by}
use Rattle.served_places.specs.of_run_frames.ScriptAnswers.{turned}
use Rattle.served_places.specs.of_run_frames.Steps.{ComesBy, IsBefore, LosesSo, PassesSo, TurnsBy, TurnsSo}
use Rattle.packets_heard.specs.of_segment_plan.declared.plan.Scenario.{Scenario}
use Rattle.served_places.specs.of_segment_ring.declared.wire.Fate.{Fate}
use Rattle.served_places.specs.of_segment_ring.declared.wire.Fate.TheVariants as Fates
use Rattle.served_places.specs.of_state_model.Stated.{Service}
use Rattle.served_places.specs.of_master_hand.Spoken.{Asked}
use Rattle.served_places.specs.of_life_runs.Told.{Passed}
use Rattle.served_places.specs.of_life_runs.Served.{AllServedTurn, IsServedLed, IsServedTurn, Keyed, Serves, ServedComes, ServedTurn, served_life}

-- ---- what is known of each at its stop

module _ {G : Ghosts InHand} (lens : ℕ → Lens) (recover made : ℕ) where
  served_told : (ws : List Serves) (ps : List Post) (ss : List (Stop InHand G)) → AllThree (λ w p s. IsServed lens recover made w p s) ws ps ss → AllBoth (λ a s. IsTold lens recover a s) (map run_lead ws) ss
  served_told [] [] [] h = tt
  served_told [] [] (s ∷ ss) h = absurd h
  served_told [] (p ∷ ps) [] h = absurd h
  served_told [] (p ∷ ps) (s ∷ ss) h = absurd h
  served_told (w ∷ ws) [] [] h = absurd h
  served_told (w ∷ ws) [] (s ∷ ss) h = absurd h
  served_told (w ∷ ws) (p ∷ ps) [] h = absurd h
  served_told (w ∷ ws) (p ∷ ps) (s ∷ ss) h = (record { lives = h.0.lives; number = h.0.number }, served_told ws ps ss h.1)

  under_told : (octets : List ℕ) (vs : List ServedTurn) (ps : List Post) (ss : List (Stop InHand G)) → AllThree (λ v p s. IsServedUnder lens recover octets made v p s) vs ps ss → AllBoth (λ a s. IsTold lens recover a s) (map turned (map run_turn vs)) ss
  under_told octets [] [] [] h = tt
  under_told octets [] [] (s ∷ ss) h = absurd h
  under_told octets [] (p ∷ ps) [] h = absurd h
  under_told octets [] (p ∷ ps) (s ∷ ss) h = absurd h
  under_told octets (v ∷ vs) [] [] h = absurd h
  under_told octets (v ∷ vs) [] (s ∷ ss) h = absurd h
  under_told octets (v ∷ vs) (p ∷ ps) [] h = absurd h
  under_told octets (v ∷ vs) (p ∷ ps) (s ∷ ss) h = (record { lives = h.0.served.lives; number = h.0.served.number }, under_told octets vs ps ss h.1)

pub shows_told : (lens : ℕ → Lens) (recover retry missed made : ℕ) (m : MasterNode) (ws : List Serves) → ServedShows lens recover retry m missed made ws → HasLeads lens recover m (map run_lead ws)
shows_told lens recover retry missed made m ws h = served_told lens recover made ws m.posts.items m.tour.stops.items h.each

pub way_told : (lens : ℕ → Lens) (recover retry missed made : ℕ) (m : MasterNode) (octets : List ℕ) (vs : List ServedTurn) → ServedUnder lens recover retry m octets missed made vs → HasLeads lens recover m (map turned (map run_turn vs))
way_told lens recover retry missed made m octets vs h = under_told lens recover made octets vs m.posts.items m.tour.stops.items h.each

-- ---- over a frame

-- what comes into hand is of the script, a packet, or a mail that is passed on
module _ (lens : ℕ → Lens) (made : ℕ) (ds : List Raw.Datagram) where
  pub turn_by : (w : Serves) (v : ServedTurn) → IsServedTurn lens made ds w v → TurnsBy lens made w.lead v.turn
  turn_by w v t = record { script = t.script; comes = by v.turn.begun v.turn.number v.waits v.hand t.comes; next = t.next; begun = t.begun; took = t.took }
    where
      by : (b : Option (Service Asked)) (k : ℕ) (rest : List Keyed) (hand : Option Passed) → ServedComes (lens w.lead.lived.spot.station).out w.lead.script w.waits w.hand w.lead.number b k rest hand →
          ComesBy (lens w.lead.lived.spot.station).out w.lead.script w.lead.number b k
      by _ _ _ _ ServedComes.none = ComesBy.own None w.lead.number Comes.none
      by _ _ _ _ (ServedComes.own s m comes) = ComesBy.own (Some s) m comes
      by _ _ _ _ (ServedComes.mail k rest e) = ComesBy.mail k.mail

  pub all_turn : (ws : List Serves) (vs : List ServedTurn) → AllServedTurn lens made ds ws vs → AllBoth (λ a b. TurnsSo made a b) (map run_lead ws) (map turned (map run_turn vs))
  all_turn [] [] t = tt
  all_turn [] (v ∷ vs) t = absurd t
  all_turn (w ∷ ws) [] t = absurd t
  all_turn (w ∷ ws) (v ∷ vs) t = (turns_by lens made w.lead v.turn (turn_by w v t.0), all_turn ws vs t.1)

  pub before_turned : (ws : List Serves) (vs : List ServedTurn) → AllServedTurn lens made ds ws vs → AllBefore made (map run_lead ws) → AllBefore made (map turned (map run_turn vs))
  before_turned [] [] t h = tt
  before_turned [] (v ∷ vs) t h = absurd t
  before_turned (w ∷ ws) [] t h = absurd t
  before_turned (w ∷ ws) (v ∷ vs) t h = ((turns_by lens made w.lead v.turn (turn_by w v t.0)).before h.0, before_turned ws vs t.1 h.1)

module _ (lens : ℕ → Lens) (recover retry : ℕ) (gives : Bool) (made : ℕ) (f : Exchanged) where
  abbrev pub lead_by : Fate → ServedTurn → Leads
  lead_by fate v = record { script = v.turn.script; number = v.turn.number; lived = served_life lens recover retry gives made f fate v }

  one_passes : (v : ServedTurn) → IsBefore made v.turn.lived.life → PassesSo made (turned v.turn) (lead_by Fates.Pass v)
  one_passes v h = passes_so lens recover gives made f (news_back v.turn.lived.spot.station v.kept v.counts (seen lens f.back)) v.turn h

  one_loses : (after : ℕ) (v : ServedTurn) → IsBefore made v.turn.lived.life → LosesSo made (turned v.turn) (lead_by (Fates.Lost after) v)
  one_loses after v h = loses_so lens recover gives made f (news_lost v.turn.lived.spot.station v.kept (seen lens f.sent)) v.turn h after

  all_passes : (vs : List ServedTurn) → AllBefore made (map turned (map run_turn vs)) → AllBoth (λ a b. PassesSo made a b) (map turned (map run_turn vs)) (map (λ v. lead_by Fates.Pass v) vs)
  all_passes [] h = tt
  all_passes (v ∷ vs) h = (one_passes v h.0, all_passes vs h.1)

  all_loses : (after : ℕ) (vs : List ServedTurn) → AllBefore made (map turned (map run_turn vs)) → AllBoth (λ a b. LosesSo made a b) (map turned (map run_turn vs)) (map (λ v. lead_by (Fates.Lost after) v) vs)
  all_loses after [] h = tt
  all_loses after (v ∷ vs) h = (one_loses after v h.0, all_loses after vs h.1)

  one_before : (v : ServedTurn) → IsBefore made v.turn.lived.life → (fate : Fate) → IsBefore (suc made) (served_life lens recover retry gives made f fate v).life
  one_before v h Fates.Pass = (one_passes v h).before
  one_before v h (Fates.Lost after) = (one_loses after v h).before

  pub before_behind : (vs : List ServedTurn) → AllBefore made (map turned (map run_turn vs)) → AllBefore (suc made) (Behind lens recover retry gives made f [] vs)
  before_behind [] h = tt
  before_behind (v ∷ vs) h = (one_before v h.0 f.fate, before_behind vs h.1)

  -- behind a frame of this fate
  same_behind : (fate : Fate) → f.fate ≡ fate → (vs : List ServedTurn) → map (λ v. lead_by fate v) vs ≡ Behind lens recover retry gives made f [] vs
  same_behind fate e [] = refl
  same_behind fate e (v ∷ vs) = λ i. lead_by (sym e i) v ∷ same_behind fate e vs i

  pub told_by : (m : MasterNode) (r r' : Log) (vs : List ServedTurn) → r.recover ≡ recover → HasLeads lens recover m (Behind lens recover retry gives made f [] vs) → AllCounted recover (Behind lens recover retry gives made f [] vs) →
      AllBefore made (map turned (map run_turn vs)) → ReportsBy f.fate made m r r' → AllReport (map turned (map run_turn vs)) r.notes → AllReport (Behind lens recover retry gives made f [] vs) r'.notes
  told_by m r r' vs is lives all before noted old = by f.fate refl
    where
      by : (fate : Fate) → f.fate ≡ fate → AllReport (Behind lens recover retry gives made f [] vs) r'.notes
      by Fates.Pass e =
          let on : ReportsBy Fates.Pass made m r r' = subst (λ (k : Fate). ReportsBy k made m r r') e noted in
          on lens recover (map turned (map run_turn vs)) (Behind lens recover retry gives made f [] vs) lives
          (subst (λ bs. AllBoth (λ a b. PassesSo made a b) (map turned (map run_turn vs)) bs) (same_behind Fates.Pass e vs) (all_passes vs before)) old
      by (Fates.Lost after) e =
          let on : ReportsBy (Fates.Lost after) made m r r' = subst (λ (k : Fate). ReportsBy k made m r r') e noted in
          on lens (map turned (map run_turn vs)) (Behind lens recover retry gives made f [] vs) (subst (λ (n : ℕ). HasLeads lens n m (Behind lens recover retry gives made f [] vs)) (sym is) lives)
          (subst (λ (n : ℕ). AllCounted n (Behind lens recover retry gives made f [] vs)) (sym is) all)
          (subst (λ bs. AllBoth (λ a b. LosesSo made a b) (map turned (map run_turn vs)) bs) (same_behind (Fates.Lost after) e vs) (all_loses after vs before)) old

-- ---- ALL THAT STANDS IN THE LIVES behind some frames was before the next one
pub served_before : (plan : Scenario) (fs : List Exchanged) (missed : ℕ) (ws : List Serves) → ServeTo plan fs missed ws → AllBefore (length fs) (map run_lead ws)
served_before plan _ _ _ IsServedLed.start = subst (λ z. AllBefore 0 z) (sym (serve_leads plan.paces (first_leads plan))) (first_before plan.services 0 plan.slaves)
served_before plan _ _ _ (IsServedLed.asks fs missed ws place k led may) = subst (λ z. AllBefore (length fs) z) (sym (leads_same (λ a. a) place k ws)) (served_before plan fs missed ws led)
served_before plan _ _ _ (IsServedLed.on fs missed ws f vs led frame) =
    let lens = lens_of plan.slaves in
    let gives = gives_up_at lens plan.recover plan.retry missed in
    subst (λ (n : ℕ). AllBefore n (Behind lens plan.recover plan.retry gives (length fs) f [] vs)) (one_more fs f)
    (before_behind lens plan.recover plan.retry gives (length fs) f vs (before_turned lens (length fs) frame.datagrams ws vs frame.each (served_before plan fs missed ws led)))
