-- THE TOUR OF A SERVING TO WHICH NO MAIL WAS ASKED IS THAT OF A RUN, and no visit of it is in vain, by what its master remembers.
use Rattle.std.proofs.Common.{◌≡◌, inl, inr, ℕ, suc, Bool, false, None, List, [], ◌∷◌, map, length, refl, sym, ap, ◌∙◌, subst}
use Rattle.std.specs.Prelude.{is_some}
use Rattle.packets_heard.proofs.of_master_node.Visitings.{run_next}
use Rattle.packets_heard.specs.of_master_node.Eager.{AllVisit, EachSo, VisitAsks}
use Rattle.packets_heard.specs.of_master_node.Recalled.{AllRecall, RecallsBack}
use Rattle.packets_heard.specs.of_master_node.Resting.{AllRest, IsResting, Rests}
use Rattle.packets_heard.specs.of_master_node.ServedEager.{AllServedAsk, AllServedBegin, AllServedRecall, AllServedRest, AllServedStill, ServedRecallsBack, ServedResting, ServedVisitAsks}
use Rattle.packets_heard.specs.of_master_node.Serving.{run_lead, run_turn}
use Rattle.packets_heard.specs.of_master_node.Starts.{AllBegin, BeginsAll}
use Rattle.packets_heard.specs.of_master_node.declared.lan.Lan.{Lan}
use Rattle.plan_ring.specs.of_frame_view.Seen.{seen}
use Rattle.plan_ring.specs.of_frame_view.View.{Lens}
use Rattle.served_places.specs.of_life_model.Lives.{Stand}
use Rattle.served_places.specs.of_life_model.Own.{own}
use Rattle.served_places.specs.of_life_runs.First.{first_leads, lens_of}
use Rattle.served_places.specs.of_life_runs.Led.{AllTurn, Exchanged, IsLedFrame, Leads, Turn, gives_up_at}
use Rattle.served_places.specs.of_link_mails.Body.{Body}
use Rattle.served_places.specs.of_master_side.Recall.{Recall}
use Rattle.served_places.specs.of_master_tour.Toured.{Tour, new_tour}
use Rattle.served_places.specs.of_segment_model.Slaves.{Datagram}
use Rattle.packets_heard.specs.Recalled.{AllSettled, AllStill, IsRecalledFrame, RecalledIn, State}
use Rattle.packets_heard.specs.Served.{IsTourServed, serves_behind}
use Rattle.packets_heard.specs.ServedRecalled.{IsServedRecalled, ServedRecalledIn}
use Rattle.packets_heard.specs.Toured.{IsToured, IsTourFrame, lives_behind, tour_behind}
use Rattle.run_record.proofs.RunLives.{first_run}
use Rattle.run_record.proofs.Unasked.{AllBare, IsBare, NoneAsked, all_behind, all_run, leads_of, never_asked, none_before, none_passed}
use Rattle.run_record.specs.Led.{TouredTo}
use Rattle.run_record.specs.Served.{ServedTouredTo}
use Rattle.packets_heard.specs.of_segment_plan.declared.plan.Scenario.{Scenario}
use Rattle.served_places.proofs.Behind.{unpassed_behind}
use Rattle.served_places.specs.of_life_runs.Served.{IsQuiet, IsRunOf, IsServedFrame, ServedTurn, Serves, all_serve, served_behind}

-- ---- WHAT IS REMEMBERED over a frame

-- what the frame asks
one_visit : (sent : List (Datagram Body)) (m : Recall) (v : ServedTurn) → IsBare v → ServedVisitAsks sent m v.turn → VisitAsks sent m v.turn
one_visit sent m v b h = λ clear.
    let e = v.turn.lived.life.era in
    subst (λ z. EachSo e.account.hand e.side.halves z (own v.turn.lived.spot.station sent)) (run_next e.account.hand e.passing m (is_some e.side.halves.out.holding) b.unpassed) (h clear)

all_visits : (sent : List (Datagram Body)) (ms : List Recall) (vs : List ServedTurn) → AllBare vs → AllServedAsk sent ms (map run_turn vs) → AllVisit sent ms (map run_turn vs)
all_visits sent [] [] b h = tt
all_visits sent [] (v ∷ vs) b h = absurd h
all_visits sent (m ∷ ms) [] b h = absurd h
all_visits sent (m ∷ ms) (v ∷ vs) b h = (one_visit sent m v b.0 h.0, all_visits sent ms vs b.1 h.1)

-- before it
all_still : (ms : List Recall) (ws : List Serves) (as' : List Leads) → IsRunOf ws as' → AllServedStill ms (map run_lead ws) → AllStill ms as'
all_still [] [] [] q h = tt
all_still [] [] (a ∷ as') q h = absurd q
all_still [] (w ∷ ws) as' q h = absurd h
all_still (m ∷ ms) [] as' q h = absurd h
all_still (m ∷ ms) (w ∷ ws) [] q h = absurd q
all_still (m ∷ ms) (w ∷ ws) (a ∷ as') q h =
    (subst (λ (z : Leads). z.lived.life.stand ≡ Stand.Open → z.lived.life.era.account.hand ≡ None → m.turn ≡ false) q.0.lead (λ opened hand. h.0 opened hand (none_passed w a q.0)), all_still ms ws as' q.1 h.1)

module _ (lens : ℕ → Lens) (l : Lan) where
  -- what begins
  all_begin : (place : ℕ) (ms : List Recall) (ws : List Serves) (us : List Turn) (as' : List Leads) → IsRunOf ws as' → AllServedBegin lens l place ms ws us → AllBegin lens l place ms as' us
  all_begin place [] [] [] [] q h = tt
  all_begin place [] [] [] (a ∷ as') q h = absurd q
  all_begin place [] [] (u ∷ us) as' q h = absurd h
  all_begin place [] (w ∷ ws) us as' q h = absurd h
  all_begin place (m ∷ ms) [] us as' q h = absurd h
  all_begin place (m ∷ ms) (w ∷ ws) [] as' q h = absurd h
  all_begin place (m ∷ ms) (w ∷ ws) (u ∷ us) [] q h = absurd q
  all_begin place (m ∷ ms) (w ∷ ws) (u ∷ us) (a ∷ as') q h =
      (subst (λ (z : Leads). BeginsAll lens l place m z u) q.0.lead (λ knows may under none. (h.0 knows may (none_passed w a q.0) under none).0), all_begin (suc place) ms ws us as' q.1 h.1)

  -- and when all rest
  one_rest : (place : ℕ) (m : Recall) (w : Serves) (a : Leads) → IsQuiet w a → IsResting lens l place m a → ServedResting lens l place m w
  one_rest place m w a q (inl gone) = inl (ap (λ (z : Leads). z.lived.life.stand) q.lead ∙ gone)
  one_rest place m w a q (inr rests) = inr (subst (λ (z : Leads). Rests lens l place m z) (sym q.lead) rests, none_passed w a q, q.waits)

  all_rest : (place : ℕ) (ms : List Recall) (ws : List Serves) (as' : List Leads) → IsRunOf ws as' → AllRest lens l place ms as' → AllServedRest lens l place ms ws
  all_rest place [] [] as' q h = tt
  all_rest place [] (w ∷ ws) [] q h = absurd q
  all_rest place [] (w ∷ ws) (a ∷ as') q h = absurd h
  all_rest place (m ∷ ms) [] [] q h = absurd h
  all_rest place (m ∷ ms) [] (a ∷ as') q h = absurd q
  all_rest place (m ∷ ms) (w ∷ ws) [] q h = absurd q
  all_rest place (m ∷ ms) (w ∷ ws) (a ∷ as') q h = (one_rest place m w a q.0 h.0, all_rest (suc place) ms ws as' q.1 h.1)

-- behind it
module _ (lens : ℕ → Lens) (recover retry : ℕ) (gives : Bool) (made : ℕ) (f : Exchanged) (back : List (Datagram Body)) where
  abbrev behind : ServedTurn → Serves
  behind v = served_behind lens recover retry gives made f v

  one_recall : (v : ServedTurn) (m n : Recall) → IsBare v → ServedRecallsBack lens back (behind v).lead.lived.life.era.passing v.turn m n → RecallsBack lens back v.turn m n
  one_recall v m n b h =
      let e = v.turn.lived.life.era in
      record {
        visited = λ clear under visit is d only full.
            h.visited (unpassed_behind lens recover retry gives made f v b.unpassed ∙ sym b.unpassed) clear under visit (run_next e.account.hand e.passing m (is_some e.side.halves.out.holding) b.unpassed ∙ is) d only full;
        unvisited = h.unvisited;
        known = h.known;
      }

  all_recall : (vs : List ServedTurn) (ms ns : List Recall) → AllBare vs → AllServedRecall lens back behind vs ms ns → AllRecall lens back (map run_turn vs) ms ns
  all_recall [] [] [] b h = tt
  all_recall [] [] (n ∷ ns) b h = absurd h
  all_recall [] (m ∷ ms) ns b h = absurd h
  all_recall (v ∷ vs) [] ns b h = absurd h
  all_recall (v ∷ vs) (m ∷ ms) [] b h = absurd h
  all_recall (v ∷ vs) (m ∷ ms) (n ∷ ns) b h = (one_recall v m n b.0 h.0, all_recall vs ms ns b.1 h.1)

-- ---- THE TOUR, frame by frame
pub record IsRunTour (plan : Scenario) {fs : List Exchanged} {t : Tour} {ws : List Serves} (l : ServedTouredTo plan fs t ws) : Type 0 where
  pub tour : Tour
  pub same : t ≡ tour
  pub leads : List Leads
  pub toured : TouredTo plan fs tour leads
  pub quiet : IsRunOf ws leads
  pub recalled : (s : State) → ServedRecalledIn plan l s → RecalledIn plan toured s

tour_begins : (plan : Scenario) → IsRunTour plan {ws = all_serve plan.paces (first_leads plan)} IsTourServed.start
tour_begins plan = record { tour = new_tour; same = refl; leads = first_leads plan; toured = IsToured.start; quiet = first_run plan.paces plan.services 0 plan.slaves; recalled = λ s h. h }

-- one frame more
module _ (plan : Scenario) (fs : List Exchanged) (t : Tour) (ws : List Serves) (l : ServedTouredTo plan fs t ws) (f : Exchanged) (vs : List ServedTurn) (visit : List ℕ) (frame : IsServedFrame (lens_of plan.slaves) (length fs) f.sent ws vs)
    (of : IsTourFrame (lens_of plan.slaves) (map run_lead ws) f.sent (map run_turn vs) t visit) (r : IsRunTour plan l) where
  abbrev lens : ℕ → Lens
  lens = lens_of plan.slaves

  abbrev us : List Turn
  us = map run_turn vs

  turns : AllTurn lens (length fs) frame.datagrams r.leads us × AllBare vs
  turns = all_run lens (length fs) frame.datagrams ws vs r.leads frame.each r.quiet

  abbrev led : IsLedFrame lens (length fs) f.sent r.leads us
  led = record { datagrams = frame.datagrams; frame = frame.frame; each = turns.0 }

  abbrev ours : List Serves
  ours = serves_behind lens plan.recover plan.retry t.missed (length fs) f vs

  abbrev theirs : ℕ → List Leads
  theirs n = lives_behind lens plan.recover plan.retry n (length fs) f us

  quiet : IsRunOf ours (theirs r.tour.missed)
  quiet = subst (λ (n : ℕ). IsRunOf ours (theirs n)) (ap (λ (z : Tour). z.missed) r.same) (all_behind lens plan.recover plan.retry (gives_up_at lens plan.recover plan.retry t.missed) (length fs) f vs turns.1)

  of_tour : IsTourFrame lens r.leads f.sent us r.tour visit
  of_tour = subst (λ (z : Tour). IsTourFrame lens r.leads f.sent us z visit) r.same (subst (λ (z : List Leads). IsTourFrame lens z f.sent us t visit) (leads_of ws r.leads r.quiet) of)

  recalled_frame : (old s : State) → IsServedRecalled plan t.missed (length fs) ws f vs old s → IsRecalledFrame plan r.leads f us old s
  recalled_frame old s h = record {
    visits = all_visits (seen lens f.sent) old.recalls vs turns.1 h.visits;
    takes = h.takes;
    unvisited = h.unvisited;
    still = all_still old.recalls ws r.leads r.quiet h.still;
    events = h.events;
    made = h.lan;
    made_is = h.lan_is;
    begins = all_begin lens h.lan 0 old.recalls ws us r.leads r.quiet h.begins;
    before = h.before;
    before_is = h.before_is;
    rests = λ rest settled. h.rests (all_rest lens h.before 0 old.recalls ws r.leads r.quiet rest) (subst (λ (z : List Leads). AllSettled z old.ring.nodes) (sym (leads_of ws r.leads r.quiet)) settled);
    returned = λ pass. all_recall lens plan.recover plan.retry (gives_up_at lens plan.recover plan.retry t.missed) (length fs) f (seen lens f.back) vs old.recalls s.recalls turns.1 (h.returned pass);
    lost = λ after e. all_recall lens plan.recover plan.retry (gives_up_at lens plan.recover plan.retry t.missed) (length fs) f [] vs old.recalls s.recalls turns.1 (h.lost after e);
    ring = h.ring;
  }

  tour_on : IsRunTour plan (IsTourServed.on fs t ws f vs visit l frame of)
  tour_on = record {
    tour = tour_behind plan.retry f.fate (theirs r.tour.missed) r.tour visit;
    same = λ i. tour_behind plan.retry f.fate (leads_of ours (theirs r.tour.missed) quiet i) (r.same i) visit;
    leads = theirs r.tour.missed;
    toured = IsToured.on fs r.tour r.leads f us visit r.toured led of_tour;
    quiet = quiet;
    recalled = λ s h. (h.0, recalled_frame h.0 s h.1, r.recalled h.0 h.2);
  }

-- OVER ALL FRAMES
pub run_tour : (plan : Scenario) (fs : List Exchanged) (t : Tour) (ws : List Serves) (l : ServedTouredTo plan fs t ws) → NoneAsked ws → IsRunTour plan l
run_tour plan _ _ _ IsTourServed.start none = tour_begins plan
run_tour plan _ _ _ (IsTourServed.asks fs t ws place k before may) none = absurd (never_asked (lens_of plan.slaves) place k ws may none)
run_tour plan _ _ _ (IsTourServed.on fs t ws f vs visit before frame of) none =
    tour_on plan fs t ws before f vs visit frame of
    (run_tour plan fs t ws before (none_before (lens_of plan.slaves) plan.recover plan.retry (gives_up_at (lens_of plan.slaves) plan.recover plan.retry t.missed) (length fs) f frame.datagrams ws vs frame.each none))

-- by lives that are those of the same slaves
pub tour_by : (plan : Scenario) (fs : List Exchanged) (t : Tour) (ws : List Serves) (l : ServedTouredTo plan fs t ws) (r : IsRunTour plan l) (as' : List Leads) → IsRunOf ws as' → (toured : TouredTo plan fs r.tour as') × ((s : State) → ServedRecalledIn plan l s → RecalledIn plan toured s)
tour_by plan fs t ws l r as' q =
    subst (λ (z : List Leads). (toured : TouredTo plan fs r.tour z) × ((s : State) → ServedRecalledIn plan l s → RecalledIn plan toured s)) (sym (leads_of ws r.leads r.quiet) ∙ leads_of ws as' q) (r.toured, r.recalled)
