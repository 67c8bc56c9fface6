-- IN WHICH AL STATE EACH EPOCH OF A LIFE IS OPENED, over a serving: as over a run, whatever news the record has of a mail that is passed on.
use Rattle.std.proofs.Common.{◌≡◌, ℕ, zero, suc, Bool, List, [], ◌∷◌, ◌++◌, map, length, length-append, refl, ap, sym, subst, arith}
use Rattle.master_tour.specs.of_datagrams.Datagram as Raw
use Rattle.master_tour.specs.of_frame_view.Seen.{seen}
use Rattle.master_tour.specs.of_frame_view.View.{Lens}
use Rattle.master_tour.specs.of_master_side.Passing.{news_back, news_lost}
use Rattle.master_hand.specs.of_segment_plan.declared.plan.Scenario.{Scenario}
use Rattle.segment_ring.specs.declared.wire.Fate.{Fate}
use Rattle.segment_ring.specs.declared.wire.Fate.TheVariants.{Pass, Lost}
use Rattle.life_runs.specs.First.{first_leads, lens_of}
use Rattle.life_runs.specs.Led.{Exchanged, Leads, gives_up_at, speech_at}
use Rattle.life_runs.specs.Opened.{AllOpenTheirs}
use Rattle.life_runs.proofs.Opened.{IsOpened, AllOpened, turned_so, returned_so, missed_so, first_so, states}
use Rattle.life_runs.specs.Served.{Keyed, ServeTo, Serves, ServedTurn, IsServedLed, AllServedTurn, all_serve, asked_at, served_behind, served_life}

abbrev leads_of : List Serves → List Leads
leads_of ws = map (λ (w : Serves). w.lead) ws

module _ (lens : ℕ → Lens) (recover retry : ℕ) (gives : Bool) (made : ℕ) (f : Exchanged) where
  behind_so : (v : ServedTurn) (fate : Fate) → IsOpened made v.turn.lived → IsOpened (suc made) (served_life lens recover retry gives made f fate v)
  behind_so v Pass h =
      returned_so (speech_at lens v.turn.lived.spot) made v.turn.lived v.turn.share (news_back v.turn.lived.spot.station v.kept v.counts (seen lens f.back)) h (seen lens f.back)
  behind_so v (Lost after) h =
      missed_so (speech_at lens v.turn.lived.spot) made v.turn.lived v.turn.share (news_lost v.turn.lived.spot.station v.kept (seen lens f.sent)) h gives recover (seen lens f.sent)

  all_so : (ds : List Raw.Datagram) (ws : List Serves) (vs : List ServedTurn) → AllServedTurn lens made ds ws vs → AllOpened made (leads_of ws) → AllOpened (suc made) (leads_of (map (served_behind lens recover retry gives made f) vs))
  all_so ds [] [] t h = tt
  all_so ds [] (v ∷ vs) t h = absurd t
  all_so ds (w ∷ ws) [] t h = absurd t
  all_so ds (w ∷ ws) (v ∷ vs) t h = (behind_so v f.fate (turned_so (speech_at lens w.lead.lived.spot) made w.lead.lived v.turn.lived t.0.next h.0), all_so ds ws vs t.1 h.1)

-- a mail that is asked changes nothing of it
asked_so : (place : ℕ) (k : Keyed) (ws : List Serves) → leads_of (asked_at place k ws) ≡ leads_of ws
asked_so place k [] = refl
asked_so zero k (w ∷ ws) = refl
asked_so (suc place) k (w ∷ ws) = ap (λ (l : List Leads). w.lead ∷ l) (asked_so place k ws)

first_served : (paces : List ℕ) (as' : List Leads) → leads_of (all_serve paces as') ≡ as'
first_served paces [] = refl
first_served [] (a ∷ as') = ap (λ (l : List Leads). a ∷ l) (first_served [] as')
first_served (pace ∷ paces) (a ∷ as') = ap (λ (l : List Leads). a ∷ l) (first_served paces as')

module _ (plan : Scenario) where
  all_opened : (fs : List Exchanged) (missed : ℕ) (ws : List Serves) → ServeTo plan fs missed ws → AllOpened (length fs) (leads_of ws)
  all_opened _ _ _ IsServedLed.start = subst (λ (l : List Leads). AllOpened 0 l) (sym (first_served plan.paces (first_leads plan))) (first_so plan.services 0 plan.slaves)
  all_opened _ _ _ (IsServedLed.asks fs missed ws place k led may) = subst (λ (l : List Leads). AllOpened (length fs) l) (sym (asked_so place k ws)) (all_opened fs missed ws led)
  all_opened _ _ _ (IsServedLed.on fs missed ws f vs led y) =
      let more : suc (length fs) ≡ length (fs ++ f ∷ []) = (let k = length-append fs (f ∷ []) in omega (arith, k)) in
      let gives = gives_up_at (lens_of plan.slaves) plan.recover plan.retry missed in
      subst (λ (n : ℕ). AllOpened n (leads_of (map (served_behind (lens_of plan.slaves) plan.recover plan.retry gives (length fs) f) vs))) more
      (all_so (lens_of plan.slaves) plan.recover plan.retry gives (length fs) f y.datagrams ws vs y.each (all_opened fs missed ws led))

  -- EACH EPOCH OPENS ITS STATE
  pub open_theirs : (fs : List Exchanged) (missed : ℕ) (ws : List Serves) → ServeTo plan fs missed ws → AllOpenTheirs (leads_of ws)
  open_theirs fs missed ws led = states (length fs) (leads_of ws) (all_opened fs missed ws led)
