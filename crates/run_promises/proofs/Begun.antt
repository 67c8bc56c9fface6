-- THE PACKETS THAT CAME INTO HAND of a slave, by its life and by the frames; of one without a port none did.
use Rattle.std.proofs.Common.{◌≡◌, ℕ, zero, suc, ◌+◌, ◌≤◌, ◌==◌, Bool, true, false, Option, Some, None, List, [], ◌∷◌, ◌++◌, map, length, filter, refl, sym, ap, ◌∙◌, arith, if◌then◌else◌}
use Rattle.std.specs.Prelude.{◌&&◌, sum_by, slice_get}
use Rattle.std.proofs.lemmas.Bool.{eqb-true}
use Rattle.std.proofs.lemmas.List.Elements.{filter-append}
use Rattle.std.proofs.lemmas.List.Sums.{sum_by-cons, sum_by-append}
use Rattle.arrayvec.specs.ArrayVec.{ArrayVec}
use Rattle.packets_heard.specs.of_life_model.Script.{life_started}
use Rattle.served_rings.proofs.of_life_model.Scripts.{back_same, lost_same}
use Rattle.packets_heard.specs.of_datagrams.Datagram as Raw
use Rattle.packets_heard.specs.of_protocol_models.EoeClient as EoeClient
use Rattle.packets_heard.specs.of_eoe_switch.Switch.{Switched, switched}
use Rattle.packets_heard.specs.of_eoe_switch.declared.switching.SwitchEvent.{SwitchEvent}
use Rattle.packets_heard.specs.of_eoe_switch.declared.switching.SwitchEvent.TheVariants.{Arrive, Begun, Down}
use Rattle.packets_heard.specs.of_frame_view.Seen.{seen}
use Rattle.packets_heard.specs.of_frame_view.View.{Lens}
use Rattle.packets_heard.specs.of_frame_view.Shares.{came_at, given_where}
use Rattle.packets_heard.specs.of_life_model.Lives.{Spot, Life, life_lost}
use Rattle.packets_heard.specs.of_life_runs.First.{leads_from}
use Rattle.packets_heard.specs.of_life_runs.Led.{Exchanged, Leads, Turn, AllTurn, IsLed, is_passed, led_behind, gives_up_at, speech_at}
use Rattle.packets_heard.specs.of_link_mails.Body.{Body}
use Rattle.packets_heard.specs.of_master_duty.Reply.{Reply}
use Rattle.packets_heard.specs.of_master_hand.Spoken.{Asked, acknowledged, is_followed, sdo, file, drive, net, passed}
use Rattle.packets_heard.specs.of_master_node.Begins.{Taken, switch_on, taken_by, taken_in, begins_by, begun_of, begins_in}
use Rattle.packets_heard.specs.of_master_node.Forwards.{port_by}
use Rattle.packets_heard.specs.of_master_node.Serving.{run_lead, run_turn}
use Rattle.packets_heard.specs.of_master_side.Passing.{news_back, news_lost}
use Rattle.packets_heard.specs.of_master_tour.Made.{is_in}
use Rattle.served_rings.specs.of_run_work.Packets.{waiting_work, queue_work}
use Rattle.packets_heard.specs.Over.{AreBegun, BegunOn, packet_begun, packets_begun}
use Rattle.packets_heard.specs.Servings.{AreServedBegun, served_packets}
use Rattle.served_rings.specs.of_run_frames.Came.{is_packet}
use Rattle.served_rings.proofs.of_run_frames.Came.{listed, turn_started, behind_same}
use Rattle.packets_heard.specs.of_segment_plan.declared.service.Service as Plan
use Rattle.packets_heard.specs.of_segment_plan.declared.slave.SlaveSpec.{SlaveSpec}
use Rattle.packets_heard.specs.of_segment_ring.declared.wire.Fate.{Fate}
use Rattle.packets_heard.specs.of_segment_ring.declared.wire.Fate.TheVariants.{Pass, Lost}
use Rattle.packets_heard.specs.of_life_runs.Served.{Keyed, Serves, ServedTurn, AllServedTurn, IsServedLed, all_serve, asked_at, served_behind, served_life}
use Rattle.packets_heard.specs.of_state_model.Stated.{Service}
use Rattle.run_promises.proofs.Ports.{queue_append}
use Rattle.run_promises.proofs.Started.{next_started}

-- what a packet comes to at a port of one of n slaves, if a service is one
abbrev pub weight : ℕ → Service Asked → ℕ
weight n (Service.Mails (sdo q)) = 0
weight n (Service.Mails (file q)) = 0
weight n (Service.Mails (drive q)) = 0
weight n (Service.Mails (net (EoeClient.packet octets frame))) = waiting_work n octets
weight n (Service.Mails (net (EoeClient.set_ip block))) = 0
weight n (Service.Mails (net EoeClient.get_ip)) = 0
weight n (Service.Mails (passed m)) = 0
weight n (Service.State target) = 0

-- of the packets among services
abbrev pub weights : ℕ → List (Service Asked) → ℕ
weights n qs = sum_by (weight n) (filter is_packet qs)

-- the services of the slave at a place
abbrev pub started_at : List Leads → ℕ → List (Service Asked)
started_at [] k = []
started_at (a ∷ as') zero = life_started a.lived.life
started_at (a ∷ as') (suc k) = started_at as' k

one_weight : (n : ℕ) (b : Option (Service Asked)) → queue_work n (packet_begun b) ≡ weights n (listed b)
one_weight n None = refl
one_weight n (Some (Service.Mails (sdo q))) = refl
one_weight n (Some (Service.Mails (file q))) = refl
one_weight n (Some (Service.Mails (drive q))) = refl
one_weight n (Some (Service.Mails (net (EoeClient.packet octets frame)))) = sym (sum_by-cons (weight n) (Service.Mails (net (EoeClient.packet octets frame))) [])
one_weight n (Some (Service.Mails (net (EoeClient.set_ip block)))) = refl
one_weight n (Some (Service.Mails (net EoeClient.get_ip))) = refl
one_weight n (Some (Service.Mails (passed m))) = refl
one_weight n (Some (Service.State target)) = refl

weights_append : (n : ℕ) (xs ys : List (Service Asked)) → weights n (xs ++ ys) ≡ weights n xs + weights n ys
weights_append n xs ys = ap (sum_by (weight n)) (filter-append is_packet xs ys) ∙ sum_by-append (weight n) (filter is_packet xs) (filter is_packet ys)

module _ (lens : ℕ → Lens) (recover retry : ℕ) where
  started_more : (gives : Bool) (made : ℕ) (f : Exchanged) (ds : List Raw.Datagram) (as' : List Leads) (us : List Turn) → AllTurn lens made ds as' us → (k : ℕ) → started_at (map (led_behind lens recover retry gives made f) us) k ≡ started_at as' k ++ listed (begun_of us k)
  started_more gives made f ds [] [] y k = refl
  started_more gives made f ds [] (u ∷ us) y k = absurd y
  started_more gives made f ds (a ∷ as') [] y k = absurd y
  started_more gives made f ds (a ∷ as') (u ∷ us) y zero = behind_same lens recover retry gives made f u.lived u.share f.fate ∙ turn_started lens made ds a u y.0
  started_more gives made f ds (a ∷ as') (u ∷ us) y (suc k) = started_more gives made f ds as' us y.1 k

  -- JUST THOSE CAME INTO HAND
  pub begun_weights : (n : ℕ) (first : List Leads) → ((k : ℕ) → started_at first k ≡ []) → (fs : List Exchanged) (missed : ℕ) (as' : List Leads) (led : IsLed lens recover retry first fs missed as') (k : ℕ) → queue_work n (packets_begun led k) ≡ weights n (started_at as' k)
  begun_weights n first none _ _ _ IsLed.start k = sym (ap (weights n) (none k))
  begun_weights n first none _ _ _ (IsLed.on fs missed as' f us led frame) k =
      queue_append n (packets_begun led k) (packet_begun (begun_of us k))
      ∙ (λ i. begun_weights n first none fs missed as' led k i + one_weight n (begun_of us k) i)
      ∙ sym (weights_append n (started_at as' k) (listed (begun_of us k)))
      ∙ ap (weights n) (sym (started_more (gives_up_at lens recover retry missed) (length fs) f frame.datagrams as' us frame.each k))

-- nothing came into hand of a plan's slaves before the first frame
pub nothing_first : (rows : List (ℕ × Plan.Service)) (place : ℕ) (ss : List SlaveSpec) (k : ℕ) → started_at (leads_from rows place ss) k ≡ []
nothing_first rows place [] k = refl
nothing_first rows place (s ∷ ss) zero = refl
nothing_first rows place (s ∷ ss) (suc k) = nothing_first rows (suc place) ss k

pub nothing_served : (rows : List (ℕ × Plan.Service)) (paces : List ℕ) (place : ℕ) (ss : List SlaveSpec) (k : ℕ) → started_at (map run_lead (all_serve paces (leads_from rows place ss))) k ≡ []
nothing_served rows paces place [] k = none paces
  where
    none : (paces : List ℕ) → started_at (map run_lead (all_serve paces [])) k ≡ []
    none [] = refl
    none (p ∷ ps) = refl
nothing_served rows [] place (s ∷ ss) zero = refl
nothing_served rows (p ∷ paces) place (s ∷ ss) zero = refl
nothing_served rows [] place (s ∷ ss) (suc k) = nothing_served rows [] (suc place) ss k
nothing_served rows (p ∷ paces) place (s ∷ ss) (suc k) = nothing_served rows paces (suc place) ss k

-- ---- over a serving
-- a mail that is asked leaves what came into hand
pub leads_asked : (place : ℕ) (k : Keyed) (ws : List Serves) → map run_lead (asked_at place k ws) ≡ map run_lead ws
leads_asked place k [] = refl
leads_asked zero k (w ∷ ws) = refl
leads_asked (suc place) k (w ∷ ws) = ap (λ l. w.lead ∷ l) (leads_asked place k ws)

module _ (lens : ℕ → Lens) (recover retry : ℕ) where
  given_same : (b : Bool) (made : ℕ) (spot : Spot) (m : Life Body Asked Reply) → life_started (given_where b recover spot made m) ≡ life_started m
  given_same true made spot m = refl
  given_same false made spot m = refl

  served_same : (gives : Bool) (made : ℕ) (f : Exchanged) (fate : Fate) (v : ServedTurn) → life_started (served_life lens recover retry gives made f fate v).life ≡ life_started v.turn.lived.life
  served_same gives made f Pass v =
      let l = v.turn.lived in
      back_same (speech_at lens l.spot) acknowledged is_followed is_passed l.spot l.life made (news_back l.spot.station v.kept v.counts (seen lens f.back)) (seen lens f.back) (came_at v.turn.share.under v.turn.share.at (seen lens f.back)) l.life.stand
  served_same gives made f (Lost after) v =
      let l = v.turn.lived in
      given_same (gives && v.turn.share.under) made l.spot (life_lost (speech_at lens l.spot) acknowledged is_followed is_passed l.spot (news_lost l.spot.station v.kept (seen lens f.sent)) (seen lens f.sent) l.life l.life.stand)
      ∙ lost_same (speech_at lens l.spot) acknowledged is_followed is_passed l.spot l.life (news_lost l.spot.station v.kept (seen lens f.sent)) (seen lens f.sent) l.life.stand

  served_more : (gives : Bool) (made : ℕ) (f : Exchanged) (ds : List Raw.Datagram) (ws : List Serves) (vs : List ServedTurn) → AllServedTurn lens made ds ws vs → (k : ℕ) →
      started_at (map run_lead (map (served_behind lens recover retry gives made f) vs)) k ≡ started_at (map run_lead ws) k ++ listed (begun_of (map run_turn vs) k)
  served_more gives made f ds [] [] y k = refl
  served_more gives made f ds [] (v ∷ vs) y k = absurd y
  served_more gives made f ds (w ∷ ws) [] y k = absurd y
  served_more gives made f ds (w ∷ ws) (v ∷ vs) y zero =
      served_same gives made f f.fate v ∙ next_started (speech_at lens w.lead.lived.spot) made w.lead.lived.life y.0.next.pick v.turn.lived.life v.turn.begun y.0.next.life y.0.begun y.0.took
  served_more gives made f ds (w ∷ ws) (v ∷ vs) y (suc k) = served_more gives made f ds ws vs y.1 k

  pub served_weights : (n : ℕ) (first : List Serves) → ((k : ℕ) → started_at (map run_lead first) k ≡ []) → (fs : List Exchanged) (missed : ℕ) (ws : List Serves) (led : IsServedLed lens recover retry first fs missed ws) (k : ℕ) →
      queue_work n (served_packets led k) ≡ weights n (started_at (map run_lead ws) k)
  served_weights n first none _ _ _ IsServedLed.start k = sym (ap (weights n) (none k))
  served_weights n first none _ _ _ (IsServedLed.asks fs missed ws place key led may) k = served_weights n first none fs missed ws led k ∙ ap (λ l. weights n (started_at l k)) (sym (leads_asked place key ws))
  served_weights n first none _ _ _ (IsServedLed.on fs missed ws f vs led frame) k =
      let begun = begun_of (map run_turn vs) k in
      queue_append n (served_packets led k) (packet_begun begun)
      ∙ (λ i. served_weights n first none fs missed ws led k i + one_weight n begun i)
      ∙ sym (weights_append n (started_at (map run_lead ws) k) (listed begun))
      ∙ ap (weights n) (sym (served_more (gives_up_at lens recover retry missed) (length fs) f frame.datagrams ws vs frame.each k))

-- ---- a slave without a port
abbrev no_port : Option ℕ → ℕ
no_port None = 1
no_port (Some port) = 0

abbrev portless : List Taken → ℕ
portless [] = 0
portless (t ∷ ts) = no_port t.port + portless ts

portless_append : (xs ys : List Taken) → portless (xs ++ ys) ≡ portless xs + portless ys
portless_append [] ys = omega arith
portless_append (x ∷ xs) ys = omega (arith, portless_append xs ys)

taken_ported : (s : Switched) (es : List SwitchEvent) → portless (taken_in s es) ≡ 0
taken_ported s [] = refl
taken_ported s (e ∷ es) = omega (arith, portless_append (taken_by s e) (taken_in (switch_on s e) es), one e, taken_ported (switch_on s e) es)
  where
    one : (e : SwitchEvent) → portless (taken_by s e) ≡ 0
    one (Arrive port packet) = refl
    one (Begun port) = refl
    one (Down port) = refl

one_portless : (b : Option (Service Asked)) → portless (begins_by None b) ≡ length (packet_begun b)
one_portless None = refl
one_portless (Some (Service.Mails (sdo q))) = refl
one_portless (Some (Service.Mails (file q))) = refl
one_portless (Some (Service.Mails (drive q))) = refl
one_portless (Some (Service.Mails (net (EoeClient.packet octets frame)))) = refl
one_portless (Some (Service.Mails (net (EoeClient.set_ip block)))) = refl
one_portless (Some (Service.Mails (net EoeClient.get_ip))) = refl
one_portless (Some (Service.Mails (passed m))) = refl
one_portless (Some (Service.State target)) = refl

-- what of it began, of the slaves that were visited
of_visited : (ports : List (Option ℕ)) (begun : ℕ → Option (Service Asked)) (k : ℕ) → port_by (slice_get ports k) ≡ None → (visited : List ℕ) → is_in k visited ≡ true → length (packet_begun (begun k)) ≤ portless (begins_in ports begun visited)
of_visited ports begun k none [] e = absurd (let bad : false ≡ true = e in cc)
of_visited ports begun k none (p ∷ ps) e = go (k == p) refl (λ f. of_visited ports begun k none ps f)
  where
    here : List Taken
    here = begins_by (port_by (slice_get ports p)) (begun p)

    go : (b : Bool) → (k == p) ≡ b → (is_in k ps ≡ true → length (packet_begun (begun k)) ≤ portless (begins_in ports begun ps)) → length (packet_begun (begun k)) ≤ portless (here ++ begins_in ports begun ps)
    go true f later =
        let same : k ≡ p = eqb-true k p f in
        let is : portless here ≡ length (packet_begun (begun k)) = ap (λ q. portless (begins_by (port_by (slice_get ports q)) (begun q))) (sym same) ∙ ap (λ (o : Option ℕ). portless (begins_by o (begun k))) none ∙ one_portless (begun k) in
        omega (arith, portless_append here (begins_in ports begun ps), is)
    go false f later =
        let rest = later (sym (ap (λ (b : Bool). if b then true else is_in k ps) f) ∙ e) in
        omega (arith, portless_append here (begins_in ports begun ps), rest)

nothing : (xs : List (ArrayVec ℕ)) → length xs ≡ 0 → xs ≡ []
nothing [] e = refl
nothing (x ∷ xs) e = absurd (omega (arith, e))

-- no packet came into hand of it before a frame
module _ (ports : List (Option ℕ)) (many k : ℕ) (none : port_by (slice_get ports k) ≡ None) where
  none_now : (before : List SwitchEvent → Type 0) (us : List Turn) (es : List SwitchEvent) (on : BegunOn before ports many us es) → packet_begun (begun_of us k) ≡ []
  none_now before us es on = now (is_in k on.visited) refl
    where
      now : (b : Bool) → is_in k on.visited ≡ b → packet_begun (begun_of us k) ≡ []
      now true e =
          let few = of_visited ports (begun_of us) k none on.visited e in
          let zero_ = taken_ported (switched many on.old).switch on.making in
          nothing (packet_begun (begun_of us k)) (omega (arith, few, zero_, ap portless on.taken))
      now false e = nothing (packet_begun (begun_of us k)) (sym (one_portless (begun_of us k)) ∙ ap portless (on.others k None e))

  pub none_begun : {lens : ℕ → Lens} {recover retry : ℕ} {first : List Leads} (fs : List Exchanged) (missed : ℕ) (as' : List Leads) (led : IsLed lens recover retry first fs missed as') (es : List SwitchEvent) → AreBegun ports many led es → packets_begun led k ≡ []
  none_begun _ _ _ IsLed.start es begun = refl
  none_begun _ _ _ (IsLed.on fs missed as' f us led frame) es on = (λ i. none_begun fs missed as' led on.old on.was i ++ none_now (λ old. AreBegun ports many led old) us es on i)

  pub none_served : {lens : ℕ → Lens} {recover retry : ℕ} {first : List Serves} (fs : List Exchanged) (missed : ℕ) (ws : List Serves) (led : IsServedLed lens recover retry first fs missed ws) (es : List SwitchEvent) → AreServedBegun ports many led es → served_packets led k ≡ []
  none_served _ _ _ IsServedLed.start es begun = refl
  none_served _ _ _ (IsServedLed.asks fs missed ws place key led may) es begun = none_served fs missed ws led es begun
  none_served _ _ _ (IsServedLed.on fs missed ws f vs led frame) es on = (λ i. none_served fs missed ws led on.old on.was i ++ none_now (λ old. AreServedBegun ports many led old) (map run_turn vs) es on i)
