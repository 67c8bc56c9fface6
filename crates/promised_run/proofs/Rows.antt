-- The rows of a slave's life over a run: each service that came into hand, with the frame before which it did.
use Rattle.std.proofs.Common.{◌≡◌, ℕ, zero, suc, Bool, true, false, Option, Some, None, List, [], ◌∷◌, ◌++◌, map, length, refl, sym, ap, ◌∙◌, append_assoc, append-nil}
use Rattle.std.specs.Prelude.{◌==◌, ◌&&◌, if◌then◌else◌, All}
use Rattle.std.proofs.lemmas.List.Elements.{All-append, All-cons, All-head, All-tail}
use Rattle.run_promises.specs.of_life_runs.First.{leads_from, first_leads}
use Rattle.run_promises.specs.of_life_runs.Led.{Exchanged, Leads, Turn, Took, AllTurn, IsLed, is_passed, speech_at, life_behind, led_behind, gives_up_at}
use Rattle.run_promises.specs.of_datagrams.Datagram as Raw
use Rattle.run_promises.specs.of_protocol_models.EoeClient as EoeClient
use Rattle.seen_slaves.specs.of_frame_view.View.{Lens}
use Rattle.seen_slaves.specs.of_frame_view.Seen.{seen}
use Rattle.seen_slaves.specs.of_frame_view.Shares.{IsNext, came_at, given_where, lived_back, lived_lost}
use Rattle.run_promises.specs.of_link_mails.Body.{Body}
use Rattle.seen_slaves.specs.of_master_duty.Reply.{Reply}
use Rattle.seen_slaves.specs.of_master_hand.Spoken.{Asked, sdo, file, drive, net, passed, acknowledged, is_followed}
use Rattle.seen_slaves.specs.of_master_side.Passing.{news_back, news_lost}
use Rattle.run_promises.proofs.of_master_node.Servings.{leads_same, run_all}
use Rattle.promised_run.specs.Numbers.{eras_rows, life_rows, packet_frames, rows_at}
use Rattle.promised_run.specs.ServedPorts.{is_mail, mail_frames}
use Rattle.run_promises.specs.of_master_node.Begins.{begins_other, begun_of}
use Rattle.run_promises.specs.of_master_node.Serving.{run_lead, run_turn}
use Rattle.run_promises.specs.of_packets_heard.Numbers.{each_with, frame_where, frames_begun, frames_other}
use Rattle.run_promises.specs.of_packets_heard.Over.{packet_begun}
use Rattle.run_promises.specs.of_packets_heard.Servings.{served_begun, served_other}
use Rattle.run_promises.proofs.of_state_model.Completed.{started_back}
use Rattle.seen_slaves.specs.of_run_frames.Came.{is_beside, is_packet}
use Rattle.run_promises.specs.of_exchange_model.Exchange.{Speech}
use Rattle.run_promises.specs.of_life_model.Lives.{Spot, Era, Life, Stand, Opening, granted, life_next, life_back, life_lost, era_back, opening_back, shows_clear, is_shown, last_step, clears, opens, steps_on, reopens, reopens_at, reopening, opens_state, returns_to_init}
use Rattle.run_promises.specs.of_life_model.Own.{own}
use Rattle.run_promises.specs.of_segment_model.Ends.{Passing}
use Rattle.run_promises.specs.of_segment_model.Record.{News}
use Rattle.run_promises.specs.of_segment_model.Seats.{Side}
use Rattle.run_promises.specs.of_segment_model.Slaves.{Datagram, Found}
use Rattle.run_promises.specs.of_state_model.Stated.{Service}
use Rattle.run_promises.specs.of_state_model.Accounts.{Account, Duty, Stage, Pick, Started, account_begins}
use Rattle.run_promises.specs.of_segment_plan.declared.plan.Scenario.{Scenario}
use Rattle.run_promises.specs.of_segment_plan.declared.service.Service as Plan
use Rattle.run_promises.specs.of_segment_plan.declared.slave.SlaveSpec.{SlaveSpec}
use Rattle.gateway_run.proofs.of_life_runs.Quiet.{comes_own}
use Rattle.run_promises.specs.of_life_runs.Served.{AllServedTurn, IsServedLed, Keyed, Serves, ServedTurn, all_serve, asked_at, served_behind, served_life}
use Rattle.run_promises.specs.of_segment_ring.declared.wire.Fate.{Fate}
use Rattle.run_promises.specs.of_segment_ring.declared.wire.Fate.TheVariants.{Pass, Lost}

abbrev SlaveLife : Type 0
SlaveLife = Life Body Asked Reply

abbrev Rows : Type 0
Rows = List (Started Asked)

-- the row of what came into hand before a frame, if anything did
abbrev row_of : ℕ → Option (Service Asked) → Rows
row_of made None = []
row_of made (Some s) = record { service = s; frame = made } ∷ []

eras_append : (es : List (Era Body Asked Reply)) (e : Era Body Asked Reply) → eras_rows (es ++ e ∷ []) ≡ eras_rows es ++ e.account.started
eras_append [] e = append-nil e.account.started
eras_append (d ∷ es) e = ap (λ z. d.account.started ++ z) (eras_append es e) ∙ sym (append_assoc d.account.started (eras_rows es) e.account.started)

-- ---- before a frame

no_wish : (x : Speech Body Asked Reply) (frame : ℕ) (d : Side Body Asked Reply) (a : Account Asked Reply) (hand : Option Duty) (b : Option (Service Asked)) → b ≡ None → (account_begins x acknowledged frame d a hand b).started ≡ a.started
no_wish x frame d a None None e = refl
no_wish x frame d a (Some duty) None e = refl
no_wish x frame d a hand (Some s) e = absurd (let bad : Some s ≡ None = e in cc)

not_granted : (passing : Option Passing) (p : Pick Asked) → p.begin ≡ None → (granted passing p).begin ≡ None
not_granted None p e = e
not_granted (Some passing) p e = refl

module _ (x : Speech Body Asked Reply) (made : ℕ) (l : SlaveLife) (pick : Pick Asked) where
  past_stays : (stand : Stand) → (life_next x acknowledged is_followed is_passed made l stand pick).past ≡ l.past
  past_stays (Stand.Opens o) = refl
  past_stays Stand.Open = refl
  past_stays Stand.Gone = refl

  rows_stay : (stand : Stand) → pick.begin ≡ None → (life_next x acknowledged is_followed is_passed made l stand pick).era.account.started ≡ l.era.account.started
  rows_stay (Stand.Opens o) e = refl
  rows_stay Stand.Open e = no_wish x made l.era.side l.era.account l.era.account.hand (granted l.era.passing pick).begin (not_granted l.era.passing pick e)
  rows_stay Stand.Gone e = refl

turn_rows : (lens : ℕ → Lens) (made : ℕ) (a : Leads) (u : Turn) (next : IsNext (speech_at lens a.lived.spot) acknowledged is_followed is_passed made a.lived u.lived) → next.pick.begin ≡ u.begun → Took made a.lived.life.era.account u.lived.life.era.account u.begun →
    life_rows u.lived.life ≡ life_rows a.lived.life ++ row_of made u.begun
turn_rows lens made a u next begun took =
    (λ i. eras_rows (past i) ++ (newest u.begun refl took) i) ∙ sym (append_assoc (eras_rows a.lived.life.past) a.lived.life.era.account.started (row_of made u.begun))
  where
    past : u.lived.life.past ≡ a.lived.life.past
    past = ap (λ (l : SlaveLife). l.past) next.life ∙ past_stays (speech_at lens a.lived.spot) made a.lived.life next.pick a.lived.life.stand

    newest : (b : Option (Service Asked)) → u.begun ≡ b → Took made a.lived.life.era.account u.lived.life.era.account b → u.lived.life.era.account.started ≡ a.lived.life.era.account.started ++ row_of made b
    newest None e took =
        ap (λ (l : SlaveLife). l.era.account.started) next.life ∙ rows_stay (speech_at lens a.lived.spot) made a.lived.life next.pick a.lived.life.stand (begun ∙ e) ∙ sym (append-nil a.lived.life.era.account.started)
    newest (Some s) e took = took

-- ---- no frame takes one back

module _ (l : SlaveLife) (frame : ℕ) where
  opening_rows : (o : Opening) (done : Bool) (found : Option Found) → life_rows (opening_back frame l o done found) ≡ life_rows l
  opening_rows o done found = go (shows_clear o) (done && is_shown 1 found) (o.step == last_step o) (done && is_shown o.state found)
    where
      go : (shows seen last there : Bool) → life_rows (if shows then (if seen then clears frame l o else l) else if last then (if there then opens frame l else l) else steps_on l o) ≡ life_rows l
      go true true last there = append-nil (eras_rows (l.past ++ l.era ∷ [])) ∙ eras_append l.past l.era
      go true false last there = refl
      go false seen true true = refl
      go false seen true false = refl
      go false seen false there = refl

reopened_rows : (l : SlaveLife) (hand : Option Duty) → life_rows (reopens l hand) ≡ life_rows l
reopened_rows l None = refl
reopened_rows l (Some duty) = go duty.stage
  where
    either : (b : Bool) → life_rows (if b then record l { stand = reopening (opens_state duty.target) true } else l) ≡ life_rows l
    either true = refl
    either false = refl

    go : (stage : Stage) → life_rows (reopens_at l duty.target stage) ≡ life_rows l
    go Stage.Drains = refl
    go (Stage.Goes phase) = either (returns_to_init duty.target)

module _ (x : Speech Body Asked Reply) (spot : Spot) (l : SlaveLife) where
  back_rows : (frame : ℕ) (news : List (News Body)) (back : List (Datagram Body)) (came : Option (Bool × Option Found)) (stand : Stand) → life_rows (life_back x acknowledged is_followed is_passed frame spot news back came l stand) ≡ life_rows l
  back_rows frame news back None (Stand.Opens o) = refl
  back_rows frame news back (Some came) (Stand.Opens o) = opening_rows l frame o came.0 came.1
  back_rows frame news back came Stand.Open =
      let e = era_back x acknowledged is_followed is_passed spot.station frame news back l.era in
      reopened_rows (record l { era = e }) e.account.hand ∙ ap (λ z. eras_rows l.past ++ z) (started_back spot.station frame l.era.account (own spot.station back))
  back_rows frame news back came Stand.Gone = refl

  lost_rows : (news : List (News Body)) (sent : List (Datagram Body)) (stand : Stand) → life_rows (life_lost x acknowledged is_followed is_passed spot news sent l stand) ≡ life_rows l
  lost_rows news sent (Stand.Opens o) = refl
  lost_rows news sent Stand.Open = refl
  lost_rows news sent Stand.Gone = refl

module _ (lens : ℕ → Lens) (recover retry : ℕ) (gives : Bool) (made : ℕ) (f : Exchanged) where
  given_rows : (u : Turn) (b : Bool) (m : SlaveLife) → life_rows (given_where b recover u.lived.spot made m) ≡ life_rows m
  given_rows u true m = refl
  given_rows u false m = refl

  behind_back : (u : Turn) (news : List (News Body)) → life_rows (lived_back (speech_at lens u.lived.spot) acknowledged is_followed is_passed made (seen lens f.back) u.lived u.share news).life ≡ life_rows u.lived.life
  behind_back u news = back_rows (speech_at lens u.lived.spot) u.lived.spot u.lived.life made news (seen lens f.back) (came_at u.share.under u.share.at (seen lens f.back)) u.lived.life.stand

  behind_lost : (u : Turn) (news : List (News Body)) → life_rows (lived_lost (speech_at lens u.lived.spot) acknowledged is_followed is_passed gives recover made (seen lens f.sent) u.lived u.share news).life ≡ life_rows u.lived.life
  behind_lost u news =
      given_rows u (gives && u.share.under) (life_lost (speech_at lens u.lived.spot) acknowledged is_followed is_passed u.lived.spot news (seen lens f.sent) u.lived.life u.lived.life.stand)
      ∙ lost_rows (speech_at lens u.lived.spot) u.lived.spot u.lived.life news (seen lens f.sent) u.lived.life.stand

  behind_rows : (u : Turn) (fate : Fate) → life_rows (life_behind lens recover retry gives made f fate u.lived u.share).life ≡ life_rows u.lived.life
  behind_rows u Pass = behind_back u []
  behind_rows u (Lost after) = behind_lost u []

  served_rows : (v : ServedTurn) (fate : Fate) → life_rows (served_life lens recover retry gives made f fate v).life ≡ life_rows v.turn.lived.life
  served_rows v Pass = behind_back v.turn (news_back v.turn.lived.spot.station v.kept v.counts (seen lens f.back))
  served_rows v (Lost after) = behind_lost v.turn (news_lost v.turn.lived.spot.station v.kept (seen lens f.sent))

  frame_rows : (ds : List Raw.Datagram) (as' : List Leads) (us : List Turn) → AllTurn lens made ds as' us → (k : ℕ) → rows_at (map (led_behind lens recover retry gives made f) us) k ≡ rows_at as' k ++ row_of made (begun_of us k)
  frame_rows ds [] [] t k = refl
  frame_rows ds [] (u ∷ us) t k = absurd t
  frame_rows ds (a ∷ as') [] t k = absurd t
  frame_rows ds (a ∷ as') (u ∷ us) t zero = behind_rows u f.fate ∙ turn_rows lens made a u t.0.next t.0.begun t.0.took
  frame_rows ds (a ∷ as') (u ∷ us) t (suc k) = frame_rows ds as' us t.1 k

  -- and of a serving
  serving_rows : (ds : List Raw.Datagram) (ws : List Serves) (vs : List ServedTurn) → AllServedTurn lens made ds ws vs → (k : ℕ) →
      rows_at (map run_lead (map (served_behind lens recover retry gives made f) vs)) k ≡ rows_at (map run_lead ws) k ++ row_of made (begun_of (map run_turn vs) k)
  serving_rows ds [] [] t k = refl
  serving_rows ds [] (v ∷ vs) t k = absurd t
  serving_rows ds (w ∷ ws) [] t k = absurd t
  serving_rows ds (w ∷ ws) (v ∷ vs) t zero = served_rows v f.fate ∙ turn_rows lens made w.lead v.turn t.0.next t.0.begun t.0.took
  serving_rows ds (w ∷ ws) (v ∷ vs) t (suc k) = serving_rows ds ws vs t.1 k

-- ---- which of them carry packets

-- the frames of those rows that don't: of the script, and mails that are passed on
abbrev pub plain_frames : Rows → List ℕ
plain_frames [] = []
plain_frames (r ∷ rs) = if is_packet r.service then plain_frames rs else r.frame ∷ plain_frames rs

-- the frames of those of the script
abbrev pub other_frames : Rows → List ℕ
other_frames [] = []
other_frames (r ∷ rs) = if is_beside r.service then other_frames rs else r.frame ∷ other_frames rs

packets_append : (xs ys : Rows) → packet_frames (xs ++ ys) ≡ packet_frames xs ++ packet_frames ys
packets_append [] ys = refl
packets_append (x ∷ xs) ys = go (is_packet x.service) (packets_append xs ys)
  where
    go : (b : Bool) → packet_frames (xs ++ ys) ≡ packet_frames xs ++ packet_frames ys → (if b then x.frame ∷ packet_frames (xs ++ ys) else packet_frames (xs ++ ys)) ≡ (if b then x.frame ∷ packet_frames xs else packet_frames xs) ++ packet_frames ys
    go true e = ap (λ z. x.frame ∷ z) e
    go false e = e

pub others_append : (xs ys : Rows) → other_frames (xs ++ ys) ≡ other_frames xs ++ other_frames ys
others_append [] ys = refl
others_append (x ∷ xs) ys = go (is_beside x.service) (others_append xs ys)
  where
    go : (b : Bool) → other_frames (xs ++ ys) ≡ other_frames xs ++ other_frames ys → (if b then other_frames (xs ++ ys) else x.frame ∷ other_frames (xs ++ ys)) ≡ (if b then other_frames xs else x.frame ∷ other_frames xs) ++ other_frames ys
    go true e = e
    go false e = ap (λ z. x.frame ∷ z) e

plain_append : (xs ys : Rows) → plain_frames (xs ++ ys) ≡ plain_frames xs ++ plain_frames ys
plain_append [] ys = refl
plain_append (x ∷ xs) ys = go (is_packet x.service) (plain_append xs ys)
  where
    go : (b : Bool) → plain_frames (xs ++ ys) ≡ plain_frames xs ++ plain_frames ys → (if b then plain_frames (xs ++ ys) else x.frame ∷ plain_frames (xs ++ ys)) ≡ (if b then plain_frames xs else x.frame ∷ plain_frames xs) ++ plain_frames ys
    go true e = e
    go false e = ap (λ z. x.frame ∷ z) e

packet_row : (made : ℕ) (b : Option (Service Asked)) → packet_frames (row_of made b) ≡ each_with made (packet_begun b)
packet_row made None = refl
packet_row made (Some (Service.Mails (sdo q))) = refl
packet_row made (Some (Service.Mails (file q))) = refl
packet_row made (Some (Service.Mails (drive q))) = refl
packet_row made (Some (Service.Mails (net (EoeClient.set_ip block)))) = refl
packet_row made (Some (Service.Mails (net EoeClient.get_ip))) = refl
packet_row made (Some (Service.Mails (net (EoeClient.packet octets frame)))) = refl
packet_row made (Some (Service.Mails (passed m))) = refl
packet_row made (Some (Service.State target)) = refl

plain_row : (made : ℕ) (b : Option (Service Asked)) → plain_frames (row_of made b) ≡ frame_where (begins_other b) made
plain_row made None = refl
plain_row made (Some (Service.Mails (sdo q))) = refl
plain_row made (Some (Service.Mails (file q))) = refl
plain_row made (Some (Service.Mails (drive q))) = refl
plain_row made (Some (Service.Mails (net (EoeClient.set_ip block)))) = refl
plain_row made (Some (Service.Mails (net EoeClient.get_ip))) = refl
plain_row made (Some (Service.Mails (net (EoeClient.packet octets frame)))) = refl
plain_row made (Some (Service.Mails (passed m))) = refl
plain_row made (Some (Service.State target)) = refl

-- in a run no mail is passed on
begun_own : (lens : ℕ → Lens) (made : ℕ) (ds : List Raw.Datagram) (as' : List Leads) (us : List Turn) → AllTurn lens made ds as' us → (k : ℕ) (q : Asked) → begun_of us k ≡ Some (Service.Mails q) → is_passed q ≡ false
begun_own lens made ds as' [] t k q e = absurd (let bad : None ≡ Some (Service.Mails q) = e in cc)
begun_own lens made ds [] (u ∷ us) t k q e = absurd t
begun_own lens made ds (a ∷ as') (u ∷ us) t zero q e = comes_own (lens a.lived.spot.station).out a.script a.number u.number u.begun t.0.comes q e
begun_own lens made ds (a ∷ as') (u ∷ us) t (suc k) q e = begun_own lens made ds as' us t.1 k q e

other_row : (made : ℕ) (b : Option (Service Asked)) → ((q : Asked) → b ≡ Some (Service.Mails q) → is_passed q ≡ false) → other_frames (row_of made b) ≡ frame_where (begins_other b) made
other_row made None own = refl
other_row made (Some (Service.Mails (sdo q))) own = refl
other_row made (Some (Service.Mails (file q))) own = refl
other_row made (Some (Service.Mails (drive q))) own = refl
other_row made (Some (Service.Mails (net (EoeClient.set_ip block)))) own = refl
other_row made (Some (Service.Mails (net EoeClient.get_ip))) own = refl
other_row made (Some (Service.Mails (net (EoeClient.packet octets frame)))) own = refl
other_row made (Some (Service.Mails (passed m))) own = absurd (let bad : true ≡ false = own (passed m) refl in cc)
other_row made (Some (Service.State target)) own = refl

-- before the first frame there is none
first_rows : (services : List (ℕ × Plan.Service)) (place : ℕ) (ss : List SlaveSpec) (k : ℕ) → rows_at (leads_from services place ss) k ≡ []
first_rows services place [] k = refl
first_rows services place (s ∷ ss) zero = refl
first_rows services place (s ∷ ss) (suc k) = first_rows services (suc place) ss k

-- ---- OVER A RUN
module _ (lens : ℕ → Lens) (plan : Scenario) (retry k : ℕ) where
  pub run_packets : {fs : List Exchanged} {missed : ℕ} {as' : List Leads} (led : IsLed lens plan.recover retry (first_leads plan) fs missed as') → packet_frames (rows_at as' k) ≡ frames_begun led k
  run_packets IsLed.start = ap (λ z. packet_frames z) (first_rows plan.services 0 plan.slaves k)
  run_packets (IsLed.on fs missed as' f us led frame) =
      ap (λ z. packet_frames z) (frame_rows lens plan.recover retry (gives_up_at lens plan.recover retry missed) (length fs) f frame.datagrams as' us frame.each k)
      ∙ packets_append (rows_at as' k) (row_of (length fs) (begun_of us k)) ∙ (λ i. run_packets led i ++ packet_row (length fs) (begun_of us k) i)

  pub run_others : {fs : List Exchanged} {missed : ℕ} {as' : List Leads} (led : IsLed lens plan.recover retry (first_leads plan) fs missed as') → other_frames (rows_at as' k) ≡ frames_other led k
  run_others IsLed.start = ap (λ z. other_frames z) (first_rows plan.services 0 plan.slaves k)
  run_others (IsLed.on fs missed as' f us led frame) =
      ap (λ z. other_frames z) (frame_rows lens plan.recover retry (gives_up_at lens plan.recover retry missed) (length fs) f frame.datagrams as' us frame.each k)
      ∙ others_append (rows_at as' k) (row_of (length fs) (begun_of us k)) ∙ (λ i. run_others led i ++ other_row (length fs) (begun_of us k) (begun_own lens (length fs) frame.datagrams as' us frame.each k) i)

-- ---- OVER A SERVING
module _ (lens : ℕ → Lens) (plan : Scenario) (retry k : ℕ) where
  abbrev pub Led : List Exchanged → ℕ → List Serves → Type 0
  Led fs missed ws = IsServedLed lens plan.recover retry (all_serve plan.paces (first_leads plan)) fs missed ws

  first_none : rows_at (map run_lead (all_serve plan.paces (first_leads plan))) k ≡ []
  first_none = ap (λ (as' : List Leads). rows_at as' k) (run_all plan.paces (first_leads plan)) ∙ first_rows plan.services 0 plan.slaves k

  asked_rows : (place : ℕ) (key : Keyed) (ws : List Serves) → rows_at (map run_lead (asked_at place key ws)) k ≡ rows_at (map run_lead ws) k
  asked_rows place key ws = ap (λ (as' : List Leads). rows_at as' k) (leads_same (λ (a : Leads). a) place key ws)

  pub serving_packets : {fs : List Exchanged} {missed : ℕ} {ws : List Serves} (led : Led fs missed ws) → packet_frames (rows_at (map run_lead ws) k) ≡ served_begun led k
  serving_packets IsServedLed.start = ap (λ z. packet_frames z) first_none
  serving_packets (IsServedLed.asks fs missed ws place key led may) = ap (λ z. packet_frames z) (asked_rows place key ws) ∙ serving_packets led
  serving_packets (IsServedLed.on fs missed ws f vs led frame) =
      ap (λ z. packet_frames z) (serving_rows lens plan.recover retry (gives_up_at lens plan.recover retry missed) (length fs) f frame.datagrams ws vs frame.each k)
      ∙ packets_append (rows_at (map run_lead ws) k) (row_of (length fs) (begun_of (map run_turn vs) k)) ∙ (λ i. serving_packets led i ++ packet_row (length fs) (begun_of (map run_turn vs) k) i)

  pub serving_plain : {fs : List Exchanged} {missed : ℕ} {ws : List Serves} (led : Led fs missed ws) → plain_frames (rows_at (map run_lead ws) k) ≡ served_other led k
  serving_plain IsServedLed.start = ap (λ z. plain_frames z) first_none
  serving_plain (IsServedLed.asks fs missed ws place key led may) = ap (λ z. plain_frames z) (asked_rows place key ws) ∙ serving_plain led
  serving_plain (IsServedLed.on fs missed ws f vs led frame) =
      ap (λ z. plain_frames z) (serving_rows lens plan.recover retry (gives_up_at lens plan.recover retry missed) (length fs) f frame.datagrams ws vs frame.each k)
      ∙ plain_append (rows_at (map run_lead ws) k) (row_of (length fs) (begun_of (map run_turn vs) k)) ∙ (λ i. serving_plain led i ++ plain_row (length fs) (begun_of (map run_turn vs) k) i)

-- a packet is beside the script, and no mail that is passed on
beside_too : (s : Service Asked) → is_packet s ≡ true → is_beside s ≡ true
beside_too (Service.Mails (net (EoeClient.packet octets frame))) e = refl
beside_too (Service.Mails (net (EoeClient.set_ip block))) e = absurd (let bad : false ≡ true = e in cc)
beside_too (Service.Mails (net EoeClient.get_ip)) e = absurd (let bad : false ≡ true = e in cc)
beside_too (Service.Mails (sdo q)) e = absurd (let bad : false ≡ true = e in cc)
beside_too (Service.Mails (file q)) e = absurd (let bad : false ≡ true = e in cc)
beside_too (Service.Mails (drive q)) e = absurd (let bad : false ≡ true = e in cc)
beside_too (Service.Mails (passed m)) e = absurd (let bad : false ≡ true = e in cc)
beside_too (Service.State target) e = absurd (let bad : false ≡ true = e in cc)

not_both : (s : Service Asked) → is_packet s ≡ true → is_mail s ≡ false
not_both (Service.Mails (net (EoeClient.packet octets frame))) e = refl
not_both (Service.Mails (net (EoeClient.set_ip block))) e = refl
not_both (Service.Mails (net EoeClient.get_ip)) e = refl
not_both (Service.Mails (sdo q)) e = refl
not_both (Service.Mails (file q)) e = refl
not_both (Service.Mails (drive q)) e = refl
not_both (Service.Mails (passed m)) e = absurd (let bad : false ≡ true = e in cc)
not_both (Service.State target) e = refl

-- ---- a fact of all these frames is one of the script's, and of the mails'
module _ (P : ℕ → Type 0) where
  scripts_hold : (rs : Rows) → All P (plain_frames rs) → All P (other_frames rs)
  scripts_hold [] all = all
  scripts_hold (r ∷ rs) all = go (is_packet r.service) (is_beside r.service) (beside_too r.service) (λ rest. scripts_hold rs rest) all
    where
      go : (p b : Bool) → (p ≡ true → b ≡ true) → (All P (plain_frames rs) → All P (other_frames rs)) → All P (if p then plain_frames rs else r.frame ∷ plain_frames rs) → All P (if b then other_frames rs else r.frame ∷ other_frames rs)
      go true true too more all = more all
      go true false too more all = absurd (let bad : false ≡ true = too refl in cc)
      go false true too more all = more (All-tail P r.frame (plain_frames rs) all)
      go false false too more all = All-cons P r.frame (other_frames rs) (All-head P r.frame (plain_frames rs) all) (more (All-tail P r.frame (plain_frames rs) all))

  mails_hold : (rs : Rows) → All P (plain_frames rs) → All P (mail_frames rs)
  mails_hold [] all = all
  mails_hold (r ∷ rs) all = go (is_packet r.service) (is_mail r.service) (not_both r.service) (λ rest. mails_hold rs rest) all
    where
      go : (p m : Bool) → (p ≡ true → m ≡ false) → (All P (plain_frames rs) → All P (mail_frames rs)) → All P (if p then plain_frames rs else r.frame ∷ plain_frames rs) → All P (if m then r.frame ∷ mail_frames rs else mail_frames rs)
      go true true one more all = absurd (let bad : true ≡ false = one refl in cc)
      go true false one more all = more all
      go false true one more all = All-cons P r.frame (mail_frames rs) (All-head P r.frame (plain_frames rs) all) (more (All-tail P r.frame (plain_frames rs) all))
      go false false one more all = more (All-tail P r.frame (plain_frames rs) all)

  pub both_hold : (rs : Rows) → All P (plain_frames rs) → All P (other_frames rs ++ mail_frames rs)
  both_hold rs all = All-append P (other_frames rs) (mail_frames rs) (scripts_hold rs all) (mails_hold rs all)
