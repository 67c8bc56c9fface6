-- EACH FRAME OF A SERVING is of a visit of its master's tour: to its datagrams it doesn't matter what came into hand of the slaves before it.
use Rattle.std.proofs.Common.{◌≡◌, ℕ, zero, suc, Bool, false, Option, Some, None, List, [], ◌∷◌, map, length, refl, sym, ap, ◌∙◌, subst}
use Rattle.std.proofs.lemmas.List.{length-map}
use Rattle.seen_slaves.specs.of_frame_view.Seen.{seen}
use Rattle.seen_slaves.specs.of_frame_view.View.{Lens}
use Rattle.seen_slaves.specs.of_frame_view.Frames.{Share}
use Rattle.run_promises.specs.of_life_model.Lives.{Era, Life, Stand, granted, life_next, passing_begins}
use Rattle.run_promises.specs.of_life_runs.First.{lens_of, first_leads, leads_from}
use Rattle.run_promises.specs.of_life_runs.Led.{Comes, Exchanged, IsLedFrame, IsTurn, AllTurn, Turn, gives_up_at, is_passed, speech_at}
use Rattle.run_promises.specs.of_datagrams.Datagram as Raw
use Rattle.run_promises.specs.of_link_mails.Body.{Body}
use Rattle.seen_slaves.specs.of_master_duty.Reply.{Reply}
use Rattle.seen_slaves.specs.of_master_hand.Spoken.{Asked, acknowledged, is_followed}
use Rattle.run_promises.specs.of_master_node.Rooms.{area_at}
use Rattle.run_promises.specs.of_master_node.Serving.{run_lead, run_turn}
use Rattle.run_promises.specs.of_master_node.Shows.{is_live_lead, lead_of}
use Rattle.run_promises.specs.of_master_node.Toured.{turn_share}
use Rattle.run_promises.specs.of_master_tour.Goes.{holds_at}
use Rattle.run_promises.specs.of_master_tour.Sizes.{frame_size}
use Rattle.run_promises.specs.of_master_tour.Toured.{HaveFrom, IsOfTour, Tour, has_number, visit_of}
use Rattle.run_promises.specs.of_packets_heard.Served.{IsTourServed, serves_behind}
use Rattle.promised_run.proofs.TouredTours.{leads_asked}
use Rattle.promised_run.proofs.Visits.{AllStand, AllTurnStand, Placed, frame_placed, none_placed, one_visit}
use Rattle.promised_run.specs.Visits.{AllServedVisit, IsServedVisited, stops_of}
use Rattle.gateway_run.specs.of_run_book.declared.book.Book.{Book}
use Rattle.gateway_run.specs.of_run_record.Led.{exchanged}
use Rattle.gateway_run.specs.of_run_record.ServedLed.{ServedTouredTo}
use Rattle.run_promises.specs.of_segment_model.Ends.{Passing}
use Rattle.run_promises.specs.of_segment_model.Seats.{side_next}
use Rattle.run_promises.specs.of_segment_plan.Sound.{IsPlan}
use Rattle.run_promises.specs.of_segment_plan.declared.plan.Scenario.{Scenario}
use Rattle.run_promises.specs.of_segment_plan.declared.service.Service as Plan
use Rattle.run_promises.specs.of_segment_plan.declared.slave.SlaveSpec.{SlaveSpec}
use Rattle.run_promises.specs.of_segment_ring.declared.wire.Fate.{Fate}
use Rattle.run_promises.specs.of_segment_ring.declared.wire.Fate.TheVariants.{Pass, Lost}
use Rattle.seen_slaves.proofs.of_served_places.Slaves.{first_leads_in}
use Rattle.run_promises.specs.of_life_runs.Served.{AllServedTurn, IsServedFrame, IsServedTurn, Serves, ServedTurn, served_life}
use Rattle.run_promises.specs.of_state_model.Accounts.{Pick, account_next, mails_choice}
use Rattle.run_promises.specs.of_exchange_model.Exchange.{Speech}

-- WHERE NOTHING COMES INTO HAND and no mail is taken up a life stays as it is
abbrev still : Pick Asked
still = record { begin = None; hold = false }

granted_still : (passing : Option Passing) → granted passing still ≡ still
granted_still None = refl
granted_still (Some p) = refl

module _ (x : Speech Body Asked Reply) (made : ℕ) where
  abbrev era_by : Era Body Asked Reply → Pick Asked → Era Body Asked Reply
  era_by e p =
      let account = account_next x acknowledged made e.side e.account p in
      record {
        cleared = e.cleared;
        opened = e.opened;
        state = e.state;
        side = side_next x made e.side (mails_choice e.account p);
        account = account;
        passing = passing_begins x acknowledged is_followed is_passed e.passing e.account account p.begin;
      }

  life_stays : (l : Life Body Asked Reply) (stand : Stand) → life_next x acknowledged is_followed is_passed made l stand still ≡ l
  life_stays l (Stand.Opens o) = refl
  life_stays l Stand.Open = ap (λ (p : Pick Asked). record l { era = era_by l.era p }) (granted_still l.era.passing)
  life_stays l Stand.Gone = refl

-- SO A FRAME IS ONE OF A RUN of the lives that stand before it, where nothing comes into hand any more
abbrev settled : ServedTurn → Turn
settled v = record v.turn { begun = None }

module _ (lens : ℕ → Lens) (made : ℕ) where
  one_settled : (ds : List Raw.Datagram) (w : Serves) (v : ServedTurn) → IsServedTurn lens made ds w v → IsTurn lens made ds (lead_of v.turn) (settled v)
  one_settled ds w v t = record {
    script = refl;
    comes = Comes.none;
    next = record { pick = still; spot = refl; life = sym (life_stays (speech_at lens v.turn.lived.spot) made v.turn.lived.life v.turn.lived.life.stand) };
    begun = refl;
    took = tt;
    asked = t.asked;
  }

  all_settled : (ds : List Raw.Datagram) (ws : List Serves) (vs : List ServedTurn) → AllServedTurn lens made ds ws vs → AllTurn lens made ds (map (λ v. lead_of (run_turn v)) vs) (map settled vs)
  all_settled ds [] [] t = tt
  all_settled ds [] (v ∷ vs) t = absurd t
  all_settled ds (w ∷ ws) [] t = absurd t
  all_settled ds (w ∷ ws) (v ∷ vs) t = (one_settled ds w v t.0, all_settled ds ws vs t.1)

  frame_settled : (octets : List ℕ) (ws : List Serves) (vs : List ServedTurn) → IsServedFrame lens made octets ws vs → IsLedFrame lens made octets (map (λ v. lead_of (run_turn v)) vs) (map settled vs)
  frame_settled octets ws vs l = record { datagrams = l.datagrams; frame = l.frame; each = all_settled l.datagrams ws vs l.each }

-- with the same shares
holds_same : (test : Share → Bool) (vs : List ServedTurn) (p : ℕ) → holds_at (λ (u : Turn). test (turn_share u)) (map settled vs) p ≡ holds_at (λ (u : Turn). test (turn_share u)) (map run_turn vs) p
holds_same test [] p = refl
holds_same test (v ∷ vs) zero = refl
holds_same test (v ∷ vs) (suc p) = holds_same test vs p

have_same : (vs : List ServedTurn) (k : ℕ) (ps : List ℕ) → HaveFrom (λ u. turn_share u) (map run_turn vs) k ps → HaveFrom (λ u. turn_share u) (map settled vs) k ps
have_same vs k [] h = tt
have_same vs k (p ∷ ps) h = (holds_same (λ s. has_number k s) vs p ∙ h.0, have_same vs (suc k) ps h.1)

same_tour : (live : ℕ → Bool) (size : ℕ) (area : ℕ → ℕ) (t : Tour) (vs : List ServedTurn) (many : ℕ) (visit : List ℕ) → IsOfTour (λ u. turn_share u) live size area t (map run_turn vs) many visit → IsOfTour (λ u. turn_share u) live size area t (map settled vs) many visit
same_tour live size area t vs many visit o = record {
  places = o.places;
  whole = o.whole;
  carries = record { each = have_same vs 0 o.places o.carries.each; only = λ p h. o.carries.only p (sym (holds_same (λ s. s.under) vs p) ∙ h) };
  first = record { rest = o.first.rest; split = ap (λ n. visit_of live n t.again t.opened t.last) (length-map vs settled ∙ sym (length-map vs run_turn)) ∙ o.first.split; some = o.first.some };
  comes = o.comes;
  leaves = o.leaves;
}

-- THE SLAVES STAND at their places, before each frame
first_stand : (rows : List (ℕ × Plan.Service)) (p : ℕ) (ss : List SlaveSpec) → AllStand p ss (leads_from rows p ss)
first_stand rows p [] = tt
first_stand rows p (s ∷ ss) = (refl, first_stand rows (suc p) ss)

turns_stand : (lens : ℕ → Lens) (made : ℕ) (ds : List Raw.Datagram) (p : ℕ) (ss : List SlaveSpec) (ws : List Serves) (vs : List ServedTurn) → AllStand p ss (map run_lead ws) → AllServedTurn lens made ds ws vs → AllTurnStand p ss (map run_turn vs)
turns_stand lens made ds p [] [] [] c t = tt
turns_stand lens made ds p [] [] (v ∷ vs) c t = absurd t
turns_stand lens made ds p [] (w ∷ ws) vs c t = absurd c
turns_stand lens made ds p (s ∷ ss) [] vs c t = absurd c
turns_stand lens made ds p (s ∷ ss) (w ∷ ws) [] c t = absurd t
turns_stand lens made ds p (s ∷ ss) (w ∷ ws) (v ∷ vs) c t = (t.0.next.spot ∙ c.0, turns_stand lens made ds (suc p) ss ws vs c.1 t.1)

settled_stand : (p : ℕ) (ss : List SlaveSpec) (vs : List ServedTurn) → AllTurnStand p ss (map run_turn vs) → AllTurnStand p ss (map settled vs)
settled_stand p [] [] c = tt
settled_stand p [] (v ∷ vs) c = absurd c
settled_stand p (s ∷ ss) [] c = absurd c
settled_stand p (s ∷ ss) (v ∷ vs) c = (c.0, settled_stand (suc p) ss vs c.1)

module _ (lens : ℕ → Lens) (recover retry missed made : ℕ) (f : Exchanged) where
  spot_stays : (fate : Fate) (v : ServedTurn) → (served_life lens recover retry (gives_up_at lens recover retry missed) made f fate v).spot ≡ v.turn.lived.spot
  spot_stays Pass v = refl
  spot_stays (Lost after) v = refl

  behind_stand : (p : ℕ) (ss : List SlaveSpec) (vs : List ServedTurn) → AllTurnStand p ss (map run_turn vs) → AllStand p ss (map run_lead (serves_behind lens recover retry missed made f vs))
  behind_stand p [] [] c = tt
  behind_stand p [] (v ∷ vs) c = absurd c
  behind_stand p (s ∷ ss) [] c = absurd c
  behind_stand p (s ∷ ss) (v ∷ vs) c = (spot_stays f.fate v ∙ c.0, behind_stand (suc p) ss vs c.1)

-- ALL FRAMES, and the mails that are asked between them
module _ (plan : Scenario) (is : IsPlan plan) where
  abbrev lens : ℕ → Lens
  lens = lens_of plan.slaves

  under : (fs : List Exchanged) (ws : List Serves) (f : Exchanged) (vs : List ServedTurn) → AllStand 0 plan.slaves (map run_lead ws) → IsServedFrame lens (length fs) f.sent ws vs → AllTurnStand 0 plan.slaves (map run_turn vs)
  under fs ws f vs c l = turns_stand lens (length fs) l.datagrams 0 plan.slaves ws vs c l.each

  stand : (fs : List Exchanged) (t : Tour) (ws : List Serves) → ServedTouredTo plan fs t ws → AllStand 0 plan.slaves (map run_lead ws)
  stand _ _ _ IsTourServed.start = subst (λ z. AllStand 0 plan.slaves z) (sym (first_leads_in plan.paces (first_leads plan))) (first_stand plan.services 0 plan.slaves)
  stand _ _ _ (IsTourServed.asks fs t ws place k r may) = subst (λ z. AllStand 0 plan.slaves z) (sym (leads_asked place k ws)) (stand fs t ws r)
  stand _ _ _ (IsTourServed.on fs t ws f vs visit r l o) = behind_stand lens plan.recover plan.retry t.missed (length fs) f 0 plan.slaves vs (under fs ws f vs (stand fs t ws r) l)

  placed : (fs : List Exchanged) (t : Tour) (ws : List Serves) → ServedTouredTo plan fs t ws → Placed (stops_of plan) t
  placed _ _ _ IsTourServed.start = none_placed plan is
  placed _ _ _ (IsTourServed.asks fs t ws place k r may) = placed fs t ws r
  placed _ _ _ (IsTourServed.on fs t ws f vs visit r l o) =
      frame_placed plan is t (map run_lead (serves_behind lens plan.recover plan.retry t.missed (length fs) f vs)) f.fate (map run_turn vs) (λ k. holds_at is_live_lead (map run_lead ws) k) (frame_size f.sent) (λ k. area_at lens (map run_lead ws) k)
      (length (seen lens f.sent)) visit (under fs ws f vs (stand fs t ws r) l) (placed fs t ws r) o.visits

  all_visit : (fs : List Exchanged) (t : Tour) (ws : List Serves) (r : ServedTouredTo plan fs t ws) → AllServedVisit plan r
  all_visit _ _ _ IsTourServed.start = tt
  all_visit _ _ _ (IsTourServed.asks fs t ws place k r may) = all_visit fs t ws r
  all_visit _ _ _ (IsTourServed.on fs t ws f vs visit r l o) = (
    all_visit fs t ws r,
    let at = stand fs t ws r in
        one_visit plan is (length fs) t (map run_lead ws) (map (λ v. lead_of (run_turn v)) vs) f (map settled vs) visit at (settled_stand 0 plan.slaves vs (under fs ws f vs at l)) (placed fs t ws r) (frame_settled lens (length fs) f.sent ws vs l)
        (same_tour (λ k. holds_at is_live_lead (map run_lead ws) k) (frame_size f.sent) (λ k. area_at lens (map run_lead ws) k) t vs (length (seen lens f.sent)) visit o.visits),
  )

  -- BY EACH ACCOUNT of a book
  pub visited : (count : ℕ) (book : Book) → IsServedVisited plan count book
  visited count book = λ ending a.
      let l = a.answers.serving.leading in
      all_visit (map exchanged book.frames) _ l.serves l.toured
