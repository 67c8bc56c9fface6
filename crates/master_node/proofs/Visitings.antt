-- WHAT A FRAME ASKS A SLAVE that it carries, by what its master remembers of the visits.
use Rattle.std.proofs.Common.{◌≡◌, ◌+◌, ◌==◌, ℕ, suc, Bool, true, false, List, [], ◌∷◌, ◌++◌, Option, Some, None, refl, sym, ap, ◌∙◌, subst}
use Rattle.std.proofs.lemmas.Bool.{eqb-true}
use Rattle.std.specs.Prelude.{cond, ◌&&◌, ◌||◌, not, if◌then◌else◌, is_some, option_map, map, length}
use Rattle.life_runs.specs.of_life_model.Visits.{Visit, mails_visit, drain_visit}
use Rattle.life_runs.specs.of_frame_view.View.{Lens}
use Rattle.life_runs.specs.of_frame_view.Seen.{seen}
use Rattle.life_runs.specs.of_frame_view.Shares.{AllBoth}
use Rattle.life_runs.specs.of_state_model.States.{Phase}
use Rattle.life_runs.specs.Led.{Turn}
use Rattle.life_runs.specs.of_mailbox_mail.declared.mail.Mail.{Mail}
use Rattle.life_runs.specs.of_mailbox_master.Any.{in_half_of}
use Rattle.life_runs.specs.of_mailbox_master.Seat.{seat_half}
use Rattle.life_runs.specs.of_link_model.Frames.{Ask, in_ask}
use Rattle.life_runs.specs.of_link_model.Link.{Halves}
use Rattle.life_runs.specs.of_link_model.Master.{InState}
use Rattle.life_runs.specs.of_master_duty.Stages.{errand_of, stage_of, phase_of, climb_errand}
use Rattle.life_runs.specs.of_master_duty.declared.duty.Duty as Duties
use Rattle.life_runs.specs.of_master_duty.declared.stage.Errand.{Errand}
use Rattle.life_runs.specs.of_master_duty.declared.stage.Stage as Stages
use Rattle.life_runs.specs.of_segment_model.Ends as Ends
use Rattle.life_runs.specs.of_segment_model.Record.{is_for}
use Rattle.life_runs.specs.of_segment_model.Slaves.{Access, Datagram}
use Rattle.life_runs.specs.of_state_model.Accounts.{Duty, Stage, duty_access, stage_access, phase_access}
use Rattle.life_runs.specs.of_master_hand.declared.hand.InHand.{InHand}
use Rattle.life_runs.specs.of_master_side.Again.{IsOnWay}
use Rattle.life_runs.specs.of_master_side.Carried.{Asks, Meant, in_hand, is_clear, duty_choice, link_choice, drain_choice, errand_choice, errand_carried, mails_choice}
use Rattle.life_runs.specs.of_master_side.Passing.{passing_seen}
use Rattle.life_runs.specs.of_master_side.Shown.{DutyShows}
use Rattle.life_runs.specs.of_master_side.declared.carried.Carried.{Carried}
use Rattle.life_runs.specs.of_master_side.declared.hand.Hand.{Ghosts}
use Rattle.life_runs.specs.of_master_side.declared.passing.Passing.{Passing}
use Rattle.life_runs.specs.of_link_mails.Body.{Body, link_mail}
use Rattle.life_runs.specs.of_life_model.Own.{own}
use Rattle.life_runs.specs.of_master_tour.Goes.{holds_at}
use Rattle.life_runs.specs.of_master_tour.Made.{is_in}
use Rattle.life_runs.specs.of_master_tour.Stands.{StandShows, StandUnder}
use Rattle.life_runs.specs.of_master_tour.Rooms.{StandOnWay}
use Rattle.life_runs.specs.of_master_tour.Toured.{Tour, visit_of, visit_on, IsOfTour}
use Rattle.life_runs.specs.of_master_tour.Under.{Grams, mine, Under}
use Rattle.life_runs.specs.of_master_tour.declared.stop.Stand.{Stand}
use Rattle.life_runs.specs.of_master_tour.declared.stop.Stop.{Stop}
use Rattle.master_node.proofs.Asking.{AreFor, seen_for}
use Rattle.master_node.proofs.Lefts.{in_first}
use Rattle.master_node.specs.Eager.{AllVisit, AsksVisit, AsksSo, EachSo, Recall, VisitAsks, next_visit, recall_of, stage_visit}
use Rattle.master_node.specs.Rooms.{FitFrom, HoldsAt, IsSentStop, len_in}
use Rattle.master_node.specs.ServedEager.{AllServedAsk, ServedVisitAsks, mail_visit, served_visit, visit_next}
use Rattle.master_node.specs.Shows.{IsOnFrame, IsUnder, side_shows}
use Rattle.master_node.specs.Toured.{stop_share}

-- A SERVICE BY MAILS, or none: the mail held is written, or mailbox 1 is read
asks_mails : (state : InState) (paused : Bool) (held : Option Mail) (h : Halves Body) (due : Option Access) (b : Datagram Body) → h.inn.state ≡ InState.Clear → state ≡ InState.Clear → h.out.holding ≡ option_map link_mail held →
    Asks (link_choice state paused held) h due b.gram.ask b.access → AsksVisit h (mails_visit paused (is_some h.out.holding)) b
asks_mails state paused held h due b clear e holds asks =
    let same : (not paused && is_some h.out.holding) ≡ (not paused && is_some held) = ap (λ o. not paused && is_some o) holds ∙ ap (λ z. not paused && z) (some held) in
    subst (λ z. AsksVisit h (if z then Visit.Write else Visit.Read) b) (sym same)
    (go (not paused && is_some held) (subst (λ z. Asks (if is_clear z && (not paused && is_some held) then Carried.Write else Carried.Inward) h due b.gram.ask b.access) e asks))
  where
    some : (o : Option Mail) → is_some (option_map link_mail o) ≡ is_some o
    some None = refl
    some (Some m) = refl

    go : (z : Bool) → Asks (if true && z then Carried.Write else Carried.Inward) h due b.gram.ask b.access → AsksVisit h (if z then Visit.Write else Visit.Read) b
    go true a = (a.0, a.2, a.1, a.3)
    go false a = (a.0 ∙ ap (λ s. in_ask s h.inn.bit) clear, a.1)

-- A STATE SERVICE THAT DRAINS: the status of mailbox 0, or mailbox 1 in turn
asks_drain : (state : InState) (turn : Bool) (h : Halves Body) (due : Option Access) (b : Datagram Body) → h.inn.state ≡ InState.Clear → state ≡ InState.Clear →
    Asks (drain_choice state turn) h due b.gram.ask b.access → AsksVisit h (drain_visit turn) b
asks_drain state turn h due b clear e asks = go turn (subst (λ z. Asks (if is_clear z && not turn then Carried.Full else Carried.Inward) h due b.gram.ask b.access) e asks)
  where
    go : (z : Bool) → Asks (if true && not z then Carried.Full else Carried.Inward) h due b.gram.ask b.access → AsksVisit h (drain_visit z) b
    go true a = (a.0 ∙ ap (λ s. in_ask s h.inn.bit) clear, a.1)
    go false a = a

-- ONE PAST ITS DRAIN: its own access
asks_errand : (errand : Errand) (h : Halves Body) (due : Option Access) (b : Datagram Body) → Asks (errand_carried errand) h due b.gram.ask b.access → (b.gram.ask ≡ Ask.Other) × (due ≡ Some b.access)
asks_errand (Errand.Write word) h due b a = (a.2, a.3)
asks_errand Errand.ReadStatus h due b a = (a.0, a.1)

some_is : (a b : Access) → Some a ≡ Some b → a ≡ b
some_is a b e = cc

access_is : (stage : Stage) (target : ℕ) (phase : Phase) (access : Access) → stage_access target stage ≡ Some access → stage ≡ Stage.Goes phase → access ≡ phase_access target phase
access_is stage target phase access e g = sym (some_is (phase_access target phase) access (sym (ap (stage_access target) g) ∙ e))

-- BY WHAT IS IN HAND
asks_stage : (stage : Stages.Stage) (target frame : ℕ) (turn paused knows holding : Bool) (state : InState) (h : Halves Body) (b : Datagram Body) → h.inn.state ≡ InState.Clear → state ≡ InState.Clear →
    Asks (errand_choice (errand_of stage) state turn) h (stage_access target (stage_of stage)) b.gram.ask b.access →
    AsksSo (Some (record { target = target; frame = frame; stage = stage_of stage })) h (stage_visit (stage_of stage) (record { paused = paused; turn = turn; knows = knows })) b
asks_stage Stages.Stage.Drain target frame turn paused knows holding state h b clear e asks = asks_drain state turn h _ b clear e asks
asks_stage (Stages.Stage.Way climb) target frame turn paused knows holding state h b clear e asks =
    let a = asks_errand (climb_errand _) h (stage_access target (Stage.Goes (phase_of climb))) b asks in
    λ phase g. (a.0, access_is (Stage.Goes (phase_of climb)) target phase b.access a.1 g)

-- without one, by the mail in hand that is passed on
asks_passing : (p : Option Passing) (state : InState) (turn paused knows : Bool) (held : Option Mail) (h : Halves Body) (due : Option Access) (b : Datagram Body) → h.inn.state ≡ InState.Clear → state ≡ InState.Clear → h.out.holding ≡ option_map link_mail held →
    Asks (mails_choice p state turn paused held) h due b.gram.ask b.access → AsksVisit h (mail_visit (passing_seen p) (record { paused = paused; turn = is_some p && turn; knows = knows }) (is_some h.out.holding)) b
asks_passing None state turn paused knows held h due b clear e holds asks = asks_mails state paused held h due b clear e holds asks
asks_passing (Some Passing.Waiting) state turn paused knows held h due b clear e holds asks = asks_mails state paused held h due b clear e holds asks
asks_passing (Some Passing.Sent) state turn paused knows held h due b clear e holds asks = asks_mails state paused held h due b clear e holds asks
asks_passing (Some Passing.Boxed) state turn paused knows held h due b clear e holds asks = asks_drain state turn h due b clear e asks
asks_passing (Some Passing.Served) state turn paused knows held h due b clear e holds asks = asks_mails state paused held h due b clear e holds asks
asks_passing (Some Passing.Answered) state turn paused knows held h due b clear e holds asks = asks_mails state paused held h due b clear e holds asks

asks_hand : (left : Option Duties.Duty) (hand : Option Duty) (p : Option Passing) (turn paused knows : Bool) (state : InState) (held : Option Mail) (h : Halves Body) (b : Datagram Body) → DutyShows left hand → h.inn.state ≡ InState.Clear → state ≡ InState.Clear →
    h.out.holding ≡ option_map link_mail held → Asks (duty_choice left p state turn paused held) h (duty_access hand) b.gram.ask b.access →
    AsksSo hand h (visit_next hand (passing_seen p) (record { paused = paused; turn = (is_some left || is_some p) && turn; knows = knows }) (is_some h.out.holding)) b
asks_hand None hand p turn paused knows state held h b shows clear e holds asks =
    subst (λ z. AsksSo z h (visit_next z (passing_seen p) (record { paused = paused; turn = is_some p && turn; knows = knows }) (is_some h.out.holding)) b) (sym shows) (asks_passing p state turn paused knows held h _ b clear e holds asks)
asks_hand (Some duty) hand p turn paused knows state held h b shows clear e holds asks =
    subst (λ z. AsksSo z h (visit_next z (passing_seen p) (record { paused = paused; turn = turn; knows = knows }) (is_some h.out.holding)) b) (sym shows.1)
    (asks_stage duty.stage duty.target shows.0 turn paused knows (is_some h.out.holding) state h b clear e (subst (λ z. Asks (errand_choice (errand_of duty.stage) state turn) h (duty_access z) b.gram.ask b.access) shows.1 asks))

-- so what its mailboxes are asked tells of those addressed to it
so_own : (hand : Option Duty) (h : Halves Body) (v : Option Visit) (station : ℕ) (ds : Grams) → AreFor station ds → EachSo hand h v (mine station ds) → EachSo hand h v (own station ds)
so_own hand h v station [] f m = tt
so_own hand h v station (d ∷ ds) f m = go (is_for station d.address) (d.gram.station == station) f.0 (so_own hand h v station ds f.1) m
  where
    go : (a b : Bool) → (a ≡ true → b ≡ true) → (EachSo hand h v (mine station ds) → EachSo hand h v (own station ds)) → EachSo hand h v (if b then d ∷ mine station ds else mine station ds) → EachSo hand h v (cond a (d ∷ own station ds) (own station ds))
    go true true t rest k = (k.0, rest k.1)
    go true false t rest k = absurd (let e = t refl in cc)
    go false true t rest k = rest k.1
    go false false t rest k = rest k

asks_way : {G : Ghosts InHand} (s : Stop InHand G) (hand : Option Duty) (h : Halves Body) (b : Datagram Body) → DutyShows (in_hand s.side.duty) hand → h ≡ record { out = seat_half s.side.out; inn = in_half_of s.side.inn } → h.inn.state ≡ InState.Clear →
    IsOnWay s.side → Meant s.side.station s.side.carried h (duty_access hand) b → AsksSo hand h (visit_next hand (passing_seen s.side.passing) (recall_of s) (is_some h.out.holding)) b
asks_way s hand h b shows halves clear way m =
    let state = (in_half_of s.side.inn).state in
    let e : state ≡ InState.Clear = sym (ap (λ (z : Halves Body). z.inn.state) halves) ∙ clear in
    asks_hand (in_hand s.side.duty) hand s.side.passing s.side.turn s.side.paused _ state s.side.out.state h b shows clear e (ap (λ (z : Halves Body). z.out.holding) halves)
    (subst (λ z. Asks z h (duty_access hand) b.gram.ask b.access) way m.asks)

asks_under : {G : Ghosts InHand} (s : Stop InHand G) (hand : Option Duty) (h : Halves Body) (sent : Grams) → DutyShows (in_hand s.side.duty) hand → h ≡ record { out = seat_half s.side.out; inn = in_half_of s.side.inn } → h.inn.state ≡ InState.Clear →
    (s.under ≡ true → IsOnWay s.side) → Under s.side.station s.at s.under s.side.carried h (duty_access hand) sent → EachSo hand h (visit_next hand (passing_seen s.side.passing) (recall_of s) (is_some h.out.holding)) (mine s.side.station sent)
asks_under s hand h sent shows halves clear way (Under.none u n) = subst (EachSo hand h (visit_next hand (passing_seen s.side.passing) (recall_of s) (is_some h.out.holding))) (sym n) tt
asks_under s hand h sent shows halves clear way (Under.has b u a n m) = subst (EachSo hand h (visit_next hand (passing_seen s.side.passing) (recall_of s) (is_some h.out.holding))) (sym n) (asks_way s hand h b shows halves clear (way u) m, tt)

-- OF ONE SLAVE, whose datagram is its next
visit_stand : {G : Ghosts InHand} (lens : ℕ → Lens) (recover : ℕ) (octets : List ℕ) (u : Turn) (s : Stop InHand G) (stand : Stand) → s.stand ≡ stand → (s.under ≡ true → IsSentStop s) → IsOnFrame lens recover octets u s → ServedVisitAsks (seen lens octets) (recall_of s) u
visit_stand lens recover octets u s (Stand.Opening up) k w i = λ o.
    let stood = subst (λ (z : Stand). StandShows (λ d b. side_shows lens recover s u.lived.spot d b) u.lived.spot z u.lived.life) k i.lives.shown.stood in
    absurd (let t = sym stood.stand ∙ o.stands in cc)
visit_stand lens recover octets u s Stand.Gone k w i = λ o.
    let stood = subst (λ (z : Stand). StandShows (λ d b. side_shows lens recover s u.lived.spot d b) u.lived.spot z u.lived.life) k i.lives.shown.stood in
    absurd (let t = sym stood ∙ o.stands in cc)
visit_stand lens recover octets u s Stand.Open k w i = λ o.
    let stood = subst (λ (z : Stand). StandShows (λ d b. side_shows lens recover s u.lived.spot d b) u.lived.spot z u.lived.life) k i.lives.shown.stood in
    let e = u.lived.life.era in
    let way = subst (λ (z : Stand). StandUnder lens s.side.station s.at s.under s.side.carried z u.lived.life (seen lens octets)) k i.way in
    let asks = asks_under s e.account.hand e.side.halves (seen lens octets) stood.1.state stood.1.halves o.clear (λ t. subst (λ z. StandOnWay z s.side) k (w t).1) way in
    let by = subst (λ (p : Option Ends.Passing). EachSo e.account.hand e.side.halves (visit_next e.account.hand p (recall_of s) (is_some e.side.halves.out.holding)) (mine s.side.station (seen lens octets))) (sym (i.passing k)) asks in
    let place = i.lives.planned.stands.station_is in
    so_own e.account.hand e.side.halves _ u.lived.spot.station (seen lens octets) (seen_for u.lived.spot.station lens octets) (subst (λ (n : ℕ). EachSo e.account.hand e.side.halves (served_visit u (recall_of s)) (mine n (seen lens octets))) place by)

-- of all, where what a frame carries is each slave's next
pub all_asked : {G : Ghosts InHand} (lens : ℕ → Lens) (recover : ℕ) (octets : List ℕ) (us : List Turn) (ss : List (Stop InHand G)) → ((k : ℕ) → holds_at (λ s. s.under) ss k ≡ true → HoldsAt (λ s. IsSentStop s) ss k) →
    AllBoth (λ u s. IsOnFrame lens recover octets u s) us ss → AllServedAsk (seen lens octets) (map (λ s. recall_of s) ss) us
all_asked lens recover octets [] [] w e = tt
all_asked lens recover octets (u ∷ us) (s ∷ ss) w e = (visit_stand lens recover octets u s s.stand refl (w 0) e.0, all_asked lens recover octets us ss (λ k. w (suc k)) e.1)
all_asked lens recover octets [] (s ∷ ss) w e = absurd e
all_asked lens recover octets (u ∷ us) [] w e = absurd e

-- OF A RUN no slave has a mail in hand that is passed on
pub run_next : (hand : Option Duty) (p : Option Ends.Passing) (m : Recall) (holding : Bool) → p ≡ None → visit_next hand p m holding ≡ next_visit hand m holding
run_next None p m holding e = ap (λ z. Some (mail_visit z m holding)) e
run_next (Some duty) p m holding e = refl

visits_run : (sent : Grams) (m : Recall) (u : Turn) → u.lived.life.era.passing ≡ None → ServedVisitAsks sent m u → VisitAsks sent m u
visits_run sent m u e k = λ o.
    let l = u.lived.life.era in
    subst (λ v. EachSo l.account.hand l.side.halves v (own u.lived.spot.station sent)) (run_next l.account.hand l.passing m (is_some l.side.halves.out.holding) e) (k o)

asks_run : (sent : Grams) (m : Recall) (u : Turn) → u.lived.life.era.passing ≡ None → VisitAsks sent m u → ServedVisitAsks sent m u
asks_run sent m u e k = λ o.
    let l = u.lived.life.era in
    subst (λ v. EachSo l.account.hand l.side.halves v (own u.lived.spot.station sent)) (sym (run_next l.account.hand l.passing m (is_some l.side.halves.out.holding) e)) (k o)

module _ {G : Ghosts InHand} (lens : ℕ → Lens) (recover : ℕ) (octets : List ℕ) (sent : Grams) where
  pub all_visit : (us : List Turn) (ss : List (Stop InHand G)) (ms : List Recall) → AllBoth (λ u s. IsUnder lens recover octets u s) us ss → AllServedAsk sent ms us → AllVisit sent ms us
  all_visit [] ss [] e k = tt
  all_visit [] ss (m ∷ ms) e k = absurd k
  all_visit (u ∷ us) ss [] e k = absurd k
  all_visit (u ∷ us) [] (m ∷ ms) e k = absurd e
  all_visit (u ∷ us) (s ∷ ss) (m ∷ ms) e k = (visits_run sent m u e.0.lead.own k.0, all_visit us ss ms e.1 k.1)

  pub visit_asks : (us : List Turn) (ss : List (Stop InHand G)) (ms : List Recall) → AllBoth (λ u s. IsUnder lens recover octets u s) us ss → AllVisit sent ms us → AllServedAsk sent ms us
  visit_asks [] ss [] e k = tt
  visit_asks [] ss (m ∷ ms) e k = absurd k
  visit_asks (u ∷ us) ss [] e k = absurd k
  visit_asks (u ∷ us) [] (m ∷ ms) e k = absurd e
  visit_asks (u ∷ us) (s ∷ ss) (m ∷ ms) e k = (asks_run sent m u e.0.lead.own k.0, visit_asks us ss ms e.1 k.1)

in_visit : (again : Option (List ℕ)) (live : ℕ → Bool) (count opened : ℕ) (last : Option ℕ) (places rest : List ℕ) (k : ℕ) → visit_of live count again opened last ≡ places ++ rest → is_in k places ≡ true → is_in k (visit_on again places) ≡ true
in_visit None live count opened last places rest k s i = i
in_visit (Some same) live count opened last places rest k s i = ap (λ z. is_in k z) s ∙ in_first k places rest i

-- THE SLAVES OF A VISIT, one by one
module _ {G : Ghosts InHand} where
  fit_at : (P : Stop InHand G → Type 0) (ss : List (Stop InHand G)) (most n k : ℕ) (ps : List ℕ) → is_in k ps ≡ true → FitFrom P ss most n ps → HoldsAt P ss k
  fit_at P ss most n k [] i f = absurd (cc)
  fit_at P ss most n k (p ∷ ps) i f = go (k == p) refl (λ t. fit_at P ss most (n + (12 + len_in ss p)) k ps t f.1) i
    where
      go : (z : Bool) → (k == p) ≡ z → (is_in k ps ≡ true → HoldsAt P ss k) → (if z then true else is_in k ps) ≡ true → HoldsAt P ss k
      go true e rest t = subst (λ q. HoldsAt P ss q) (sym (eqb-true k p e)) f.0
      go false e rest t = rest t

  -- what the frame has of a slave is its next datagram
  pub sent_at : (live : ℕ → Bool) (size : ℕ) (area : ℕ → ℕ) (t : Tour) (ss : List (Stop InHand G)) (many : ℕ) (visit : List ℕ) → IsOfTour (λ s. stop_share s) live size area t ss many visit → FitFrom (λ s. IsSentStop s) ss 1514 16 visit →
      (k : ℕ) → holds_at (λ s. s.under) ss k ≡ true → HoldsAt (λ s. IsSentStop s) ss k
  sent_at live size area t ss many visit o f k h =
      fit_at (λ s. IsSentStop s) ss 1514 16 k visit (ap (λ z. is_in k z) o.comes ∙ in_visit t.again live (length ss) t.opened t.last o.places o.first.rest k o.first.split (o.carries.only k h)) f

-- WORKED ROWS: a mail held is written, unless a write was in vain; a state service first sees mailbox 0 empty, and then has accesses of its own
abbrev told : Bool → Bool → Recall
told paused turn = record { paused = paused; turn = turn; knows = true }

writes : next_visit None (told false false) true ≡ Some Visit.Write
writes = refl

reads_paused : next_visit None (told true false) true ≡ Some Visit.Read
reads_paused = refl

reads_idle : next_visit None (told false false) false ≡ Some Visit.Read
reads_idle = refl

drains : next_visit (Some (record { target = 4; frame = 0; stage = Stage.Drains })) (told true false) true ≡ Some Visit.Full
drains = refl

drains_on : next_visit (Some (record { target = 4; frame = 0; stage = Stage.Drains })) (told true true) true ≡ Some Visit.Read
drains_on = refl

past : next_visit (Some (record { target = 4; frame = 0; stage = Stage.Goes Phase.Ask })) (told false false) true ≡ None
past = refl
