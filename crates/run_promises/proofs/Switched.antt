-- ALL SLAVES: what came into hand is within what entered.
use Rattle.std.proofs.Common.{◌≡◌, ℕ, suc, ◌+◌, ◌-◌, ◌*◌, ◌<◌, ◌≤◌, Bool, true, false, All, Option, Some, None, List, [], ◌∷◌, ◌++◌, map, take, length, filter, refl, sym, ap, ◌∙◌, subst, arith, if◌then◌else◌}
use Rattle.std.specs.Prelude.{count_by, slice_get, sum_by, nat_lt, ⊤}
use Rattle.std.proofs.lemmas.Nat.{mul-le}
use Rattle.std.proofs.lemmas.List.Elements.{All-head, All-tail}
use Rattle.std.proofs.lemmas.List.Sums.{sum_by-cons, sum_by-append}
use Rattle.arrayvec.specs.ArrayVec.{ArrayVec}
use Rattle.packets_heard.specs.of_life_model.Script.{life_started}
use Rattle.packets_heard.specs.of_eoe_switch.Switch.{switched}
use Rattle.packets_heard.specs.of_eoe_switch.declared.switching.SwitchEvent.{SwitchEvent}
use Rattle.served_rings.specs.of_life_counts.Begun.{begun_most}
use Rattle.packets_heard.specs.of_frame_view.View.{Lens}
use Rattle.packets_heard.specs.of_life_runs.First.{lens_of, script_for}
use Rattle.packets_heard.specs.of_life_runs.Led.{Leads}
use Rattle.packets_heard.specs.of_master_node.Forwards.{port_by}
use Rattle.packets_heard.specs.of_master_node.Happened.{arrivals_at}
use Rattle.packets_heard.specs.of_master_node.Ports.{IsAtPort, port_where, last_where, ports_behind, ports_of}
use Rattle.packets_heard.specs.of_master_node.Serving.{run_lead}
use Rattle.served_rings.specs.of_run_work.Flows.{slaves_work, entries_work, AllComeAt}
use Rattle.served_rings.specs.of_run_work.Packets.{cuts, waiting_work, queue_work}
use Rattle.packets_heard.specs.Over.{forwarded_to}
use Rattle.packets_heard.specs.Heard.{Joined}
use Rattle.served_rings.specs.of_life_counts.Asked.{asked_most}
use Rattle.served_rings.specs.of_life_counts.Split.{entering}
use Rattle.packets_heard.specs.Listed.{IsOwn, long_where, long_ones, packets_at}
use Rattle.served_rings.specs.of_run_work.Switched.{cuts_begun, host_cuts}
use Rattle.served_rings.specs.of_run_work.Together.{packets_begun}
use Rattle.served_rings.specs.of_run_frames.Came.{is_packet}
use Rattle.served_rings.specs.of_run_frames.Slaves.{HasCome, AllCome}
use Rattle.packets_heard.specs.of_segment_plan.declared.plan.Scenario.{Scenario}
use Rattle.packets_heard.specs.of_segment_plan.declared.slave.SlaveSpec.{SlaveSpec}
use Rattle.run_promises.specs.Sent.{AllSend}
use Rattle.packets_heard.specs.of_life_runs.Came.{HasServed}
use Rattle.packets_heard.specs.of_life_runs.Served.{Serves}
use Rattle.served_rings.specs.of_few_replies.Shapes.{shape_of}
use Rattle.run_promises.specs.Sends.{all_most}
use Rattle.packets_heard.specs.of_slave_server.Spec.{core_of, profile_of}
use Rattle.run_promises.proofs.Begun.{weights, started_at}
use Rattle.run_promises.proofs.Ports.{ports_sum, eoe_count, forwards_within, queue_append, entries_within, come_at, few_ports}
use Rattle.run_promises.proofs.Weighed.{Echoes, echoes, packets_weigh, all_send, served_send}

-- packets that are too short are left out
long_less : (n : ℕ) (ps : List (List ℕ)) → queue_work n (long_ones ps) ≤ sum_by (waiting_work n) ps
long_less n [] = omega arith
long_less n (p ∷ ps) = omega (arith, sum_by-cons (waiting_work n) p ps, queue_append n (long_where (nat_lt (length p) 14) p) (long_ones ps), long_less n ps, one (nat_lt (length p) 14))
  where
    one : (b : Bool) → queue_work n (long_where b p) ≤ waiting_work n p
    one true = omega arith
    one false = omega arith

-- the packets of the host
host_least : (n : ℕ) (packets : List (ArrayVec ℕ)) → queue_work n packets ≤ host_cuts packets * (n + 1)
host_least n [] = omega arith
host_least n (p ∷ ps) =
    let sum = sum_by-cons (λ (packet : ArrayVec ℕ). cuts packet.items) p ps in
    let whole : (cuts p.items + host_cuts ps) * (n + 1) ≡ cuts p.items * (n + 1) + host_cuts ps * (n + 1) = omega arith in
    omega (arith, host_least n ps, one (Rattle.served_rings.specs.of_run_work.Packets.may_echo p.items), whole, ap (λ z. z * (n + 1)) sum)
  where
    one : (b : Bool) → cuts p.items * (if b then n + 1 else 1) ≤ cuts p.items * (n + 1)
    one true = omega arith
    one false = mul-le (cuts p.items) 1 (cuts p.items) (n + 1) (omega arith) (omega arith)

-- ---- the sums
linear : (p me f u ma t h d hk dk w : ℕ) → p + me ≤ f → f ≤ u + ma → ma ≤ me + t → w ≡ (u + hk) + (t + 2 * dk) → h ≤ hk → d ≤ dk → (h + d) + p ≤ w
linear p me f u ma t h d hk dk w one two three whole host down = omega (arith, one, two, three, whole, host, down)

at_least : (h m : ℕ) → h ≤ h * (suc m + 1)
at_least h m = omega (arith, mul-le h 1 h (suc m + 1) (omega arith) (omega arith))

spread_out : (m e t : ℕ) → m * (e + t) ≡ m * e + m * t
spread_out m e t = omega arith

whole_square : (m h d : ℕ) → (h + d) * ((suc m + 1) * (suc m + 1)) ≡ (suc m * (h * (suc m + 1)) + h * (suc m + 1)) + (m * ((suc m + 1) * d) + 2 * (d * (suc m + 1)))
whole_square m h d = omega arith

square_of : (m p e f a h d : ℕ) → p + m * e ≤ f → f ≤ suc m * (h * (suc m + 1)) + m * a → a ≤ e + (suc m + 1) * d → (h + d) + p ≤ (h + d) * ((suc m + 1) * (suc m + 1))
square_of m p e f a h d one two three =
    let third : m * a ≤ m * (e + (suc m + 1) * d) = mul-le m a m (e + (suc m + 1) * d) (omega arith) three in
    let spread = spread_out m e ((suc m + 1) * d) in
    linear p (m * e) f (suc m * (h * (suc m + 1))) (m * a) (m * ((suc m + 1) * d)) h d (h * (suc m + 1)) (d * (suc m + 1)) ((h + d) * ((suc m + 1) * (suc m + 1)))
    one two (subst (λ z. m * a ≤ z) spread third) (whole_square m h d) (at_least h m) (at_least d m)

-- what the laws say of slaves that are led so, what was joined of each and which packets came into hand of it
module _ (plan : Scenario) (leads : List Leads) (joined : List Joined) (hands : ℕ → List (ArrayVec ℕ)) (es : List SwitchEvent) (m : ℕ) where
  -- so many slaves
  abbrev pub n : ℕ
  n = suc m

  abbrev many : ℕ
  many = ports_of plan.slaves

  abbrev ports : List (Option ℕ)
  ports = ports_behind 0 plan.slaves

  pub record Laws : Type 0 where
    pub own : (k port : ℕ) → port_by (slice_get ports k) ≡ Some port → IsOwn ports k port
    pub arrivals : (k port : ℕ) → IsOwn ports k port → arrivals_at port es ≡ long_ones (packets_at joined k)
    pub forwarded : (k port : ℕ) → IsOwn ports k port → port < many → (left : List (ArrayVec ℕ)) × (forwarded_to port (switched many es).forwards ≡ hands k ++ left)
    pub weighed : (k : ℕ) → queue_work n (hands k) ≡ weights n (started_at leads k)
    pub none : (k : ℕ) → port_by (slice_get ports k) ≡ None → hands k ≡ []
    pub within : many ≤ n + 1 → AllComeAt many es → slaves_work n (switched many es).forwards ≤ entries_work n es
    pub echo : (mac : List ℕ) → length mac ≡ 6 → Echoes mac

  module _ (laws : Laws) (least : length plan.slaves ≤ n) where
    abbrev pub forwards_at : ℕ → ℕ
    forwards_at p = queue_work n (forwarded_to p (switched many es).forwards)

    abbrev pub come_in_at : ℕ → ℕ
    come_in_at p = queue_work n (arrivals_at p es)

    -- a slave with a port
    pub record With (s : SlaveSpec) (a : Leads) (port : ℕ) (sent : ℕ) : Type 0 where
      pub begun : begun_most (asked_most (profile_of s) (shape_of (core_of s))) (filter is_packet (life_started a.lived.life)) + m * sent ≤ forwards_at port
      pub came : come_in_at port ≤ sent + (n + 1) * sum_by entering (take a.number a.script)

    -- what was joined of it is of what came into hand
    abbrev pub SentBy : SlaveSpec → Leads → Joined → Type 0
    SentBy s a j = (six : length s.mac ≡ 6) → sum_by (waiting_work n) j.packets ≤ echoes n (profile_of s) (laws.echo s.mac six) (life_started a.lived.life) + (n + 1) * sum_by entering (take a.number a.script)

    abbrev pub AllSentBy : List SlaveSpec → List Leads → List Joined → Type 0
    AllSentBy [] [] [] = ⊤
    AllSentBy (s ∷ ss) (a ∷ as') (j ∷ js) = SentBy s a j × AllSentBy ss as' js
    AllSentBy _ _ _ = ⊥

    -- it has this place, its life and its packets
    pub record At (place : ℕ) (s : SlaveSpec) (a : Leads) (j : Joined) : Type 0 where
      pub mac : length s.mac ≡ 6
      pub started : started_at leads place ≡ life_started a.lived.life
      pub packets : packets_at joined place ≡ j.packets
      pub sends : SentBy s a j

    module _ (place : ℕ) (s : SlaveSpec) (a : Leads) (j : Joined) (x : At place s a j) where
      abbrev law : Echoes (profile_of s).mac
      law = laws.echo s.mac x.mac

      abbrev sent_back : ℕ
      sent_back = echoes n (profile_of s) law (life_started a.lived.life)

      abbrev count : ℕ
      count = begun_most (asked_most (profile_of s) (shape_of (core_of s))) (filter is_packet (life_started a.lived.life))

      weigh : count + m * sent_back ≤ queue_work n (hands place)
      weigh =
          let took = packets_weigh n (profile_of s) law (shape_of (core_of s)) m refl (life_started a.lived.life) in
          subst (λ z. count + m * sent_back ≤ z) (sym (laws.weighed place ∙ ap (weights n) x.started)) took

      with_port : (port : ℕ) → port_by (slice_get ports place) ≡ Some port → port < many → With s a port sent_back
      with_port port has near =
          let own = laws.own place port has in
          let first = laws.forwarded place port own near in
          let front = ap (queue_work n) first.1 ∙ queue_append n (hands place) first.0 in
          let arrived = ap (queue_work n) (laws.arrivals place port own ∙ ap long_ones x.packets) in
          record {
            begun = first_part (count + m * sent_back) (queue_work n (hands place)) (queue_work n first.0) (forwards_at port) weigh front;
            came = all_of (come_in_at port) (queue_work n (long_ones j.packets)) (sum_by (waiting_work n) j.packets) sent_back ((n + 1) * sum_by entering (take a.number a.script)) arrived (long_less n j.packets) (x.sends x.mac);
          }
        where
          first_part : (a b c d : ℕ) → a ≤ b → d ≡ b + c → a ≤ d
          first_part a b c d l e = omega (arith, l, e)

          all_of : (a b c s f : ℕ) → a ≡ b → b ≤ c → c ≤ s + f → a ≤ s + f
          all_of a b c s f e g h = omega (arith, e, g, h)

      -- one without a port: no packet came into hand
      without : port_by (slice_get ports place) ≡ None → count ≡ 0
      without none =
          let nothing = laws.none place none in
          none_of count (m * sent_back) (queue_work n (hands place)) weigh (ap (queue_work n) nothing)
        where
          none_of : (a b c : ℕ) → a + b ≤ c → c ≡ 0 → a ≡ 0
          none_of a b c l e = omega (arith, l, e)

    -- ---- what was joined of a slave is of what came into hand, where it weighs no more than all that may be sent by that
    through : (b c s e f : ℕ) → b ≤ c → c ≤ s + e → e ≡ f → b ≤ s + f
    through b c s e f g h i = omega (arith, g, h, i)

    abbrev bound : Leads → ℕ
    bound a = (n + 1) * sum_by entering (take a.number a.script)

    one_run : (place : ℕ) (s : SlaveSpec) (a : Leads) (j : Joined) → HasCome plan place s a → sum_by (waiting_work n) j.packets ≤ all_most (waiting_work n) (profile_of s) (life_started a.lived.life) → SentBy s a j
    one_run place s a j come sends six =
        let law = laws.echo s.mac six in
        let most = all_send n (profile_of s) law (lens_of plan.slaves s.station).out (take a.number (script_for place plan.services)) (life_started a.lived.life) come.firsts.those in
        let scripts : (n + 1) * sum_by entering (take a.number (script_for place plan.services)) ≡ bound a = ap (λ ts. (n + 1) * sum_by entering (take a.number ts)) (sym come.script) in
        through (sum_by (waiting_work n) j.packets) (all_most (waiting_work n) (profile_of s) (life_started a.lived.life)) (echoes n (profile_of s) law (life_started a.lived.life))
        ((n + 1) * sum_by entering (take a.number (script_for place plan.services))) (bound a) sends most scripts

    pub run_sent : (place : ℕ) (ss : List SlaveSpec) (as' : List Leads) (js : List Joined) → AllCome plan place ss as' → AllSend (waiting_work n) ss as' js → AllSentBy ss as' js
    run_sent place [] [] [] come sends = tt
    run_sent place [] [] (j ∷ js) come sends = absurd sends
    run_sent place [] (a ∷ as') js come sends = absurd come
    run_sent place (s ∷ ss) [] js come sends = absurd come
    run_sent place (s ∷ ss) (a ∷ as') [] come sends = absurd sends
    run_sent place (s ∷ ss) (a ∷ as') (j ∷ js) come sends = ((λ six. one_run place s a j come.0 sends.0 six), run_sent (suc place) ss as' js come.1 sends.1)

    one_served : (lens : ℕ → Lens) (s : SlaveSpec) (w : Serves) (j : Joined) → HasServed lens w → sum_by (waiting_work n) j.packets ≤ all_most (waiting_work n) (profile_of s) (life_started w.lead.lived.life) → SentBy s w.lead j
    one_served lens s w j h sends six =
        let law = laws.echo s.mac six in
        through (sum_by (waiting_work n) j.packets) (all_most (waiting_work n) (profile_of s) (life_started w.lead.lived.life)) (echoes n (profile_of s) law (life_started w.lead.lived.life)) (bound w.lead) (bound w.lead) sends
        (served_send n (profile_of s) law (lens w.lead.lived.spot.station).out w.lead.script w.lead.number h.mails (life_started w.lead.lived.life) h.came) refl

    pub served_sent : (lens : ℕ → Lens) (ss : List SlaveSpec) (ws : List Serves) (js : List Joined) → All (HasServed lens) ws → AllSend (waiting_work n) ss (map run_lead ws) js → AllSentBy ss (map run_lead ws) js
    served_sent lens [] [] [] h sends = tt
    served_sent lens [] [] (j ∷ js) h sends = absurd sends
    served_sent lens [] (w ∷ ws) js h sends = absurd sends
    served_sent lens (s ∷ ss) [] js h sends = absurd sends
    served_sent lens (s ∷ ss) (w ∷ ws) [] h sends = absurd sends
    served_sent lens (s ∷ ss) (w ∷ ws) (j ∷ js) h sends = ((λ six. one_served lens s w j (All-head (HasServed lens) w ws h) sends.0 six), served_sent lens ss ws js (All-tail (HasServed lens) w ws h) sends.1)

    -- ---- ALL SLAVES, from a place on
    pub record Sums (last : ℕ) (ss : List SlaveSpec) (as' : List Leads) : Type 0 where
      pub sent : ℕ
      pub begun : packets_begun ss as' + m * sent ≤ ports_sum forwards_at last ss
      pub came : ports_sum come_in_at last ss ≤ sent + (n + 1) * cuts_begun ss as'

    abbrev Behind : ℕ → ℕ → List SlaveSpec → List Leads → List Joined → Type 0
    Behind place last ss as' js =
        ((i : ℕ) → slice_get ports (place + i) ≡ slice_get (ports_behind last ss) i) × (((i : ℕ) → started_at leads (place + i) ≡ started_at as' i) × ((i : ℕ) → packets_at joined (place + i) ≡ packets_at js i))

    -- one slave more
    more : (place last : ℕ) (s : SlaveSpec) (ss : List SlaveSpec) (a : Leads) (as' : List Leads) (j : Joined) (js : List Joined) → Behind place last (s ∷ ss) (a ∷ as') (j ∷ js) → Behind (suc place) (last_where s.eoe last) ss as' js
    more place last s ss a as' j js b = ((λ i. next i (λ m. slice_get ports m) ∙ b.0 (suc i)), ((λ i. next i (λ m. started_at leads m) ∙ b.1.0 (suc i)), (λ i. next i (λ m. packets_at joined m) ∙ b.1.1 (suc i))))
      where
        next : {X : Type 0} (i : ℕ) (f : ℕ → X) → f (suc place + i) ≡ f (place + suc i)
        next i f = let same : suc place + i ≡ place + suc i = omega arith in ap f same

    first_sum : (k a b c s t f g h : ℕ) → a + k * s ≤ f → b + k * t ≤ g → h ≡ f + g → (a + b) + k * (s + t) ≤ h
    first_sum k a b c s t f g h l r e =
        let spread : k * (s + t) ≡ k * s + k * t = omega arith in
        omega (arith, l, r, e, spread)

    second_sum : (k x y z s t a b : ℕ) → x ≤ s + k * a → y ≤ t + k * b → z ≡ x + y → z ≤ (s + t) + k * (a + b)
    second_sum k x y z s t a b l r e =
        let spread : k * (a + b) ≡ k * a + k * b = omega arith in
        omega (arith, l, r, e, spread)

    no_begun : (a b k t f g : ℕ) → a ≡ 0 → b + k * t ≤ f → g ≡ f → (a + b) + k * t ≤ g
    no_begun a b k t f g e l i = omega (arith, e, l, i)

    no_come : (y z t k a b : ℕ) → y ≤ t + k * b → z ≡ y → z ≤ t + k * (a + b)
    no_come y z t k a b l e =
        let spread : k * (a + b) ≡ k * a + k * b = omega arith in
        omega (arith, l, e, spread)

    zeros : (k : ℕ) → 0 + k * 0 ≤ 0
    zeros k = omega arith

    roomy : (last c d e many : ℕ) → last + 1 + d ≤ many → d ≡ e + c → e ≡ 1 → (last + 1 + 1 + c ≤ many) × (last + 1 < many)
    roomy last c d e many l f g = (omega (arith, l, f, g), omega (arith, l, f, g))

    roomy_on : (last c d e many : ℕ) → last + 1 + d ≤ many → d ≡ e + c → e ≡ 0 → last + 1 + c ≤ many
    roomy_on last c d e many l f g = omega (arith, l, f, g)

    sums : (place last : ℕ) (ss : List SlaveSpec) (as' : List Leads) (js : List Joined) → All (λ (s : SlaveSpec). length s.mac ≡ 6) ss → AllSentBy ss as' js → last + 1 + count_by (λ (s : SlaveSpec). s.eoe) ss ≤ many → Behind place last ss as' js → Sums last ss as'
    sums place last [] [] [] macs sends room b = record { sent = 0; begun = zeros m; came = omega arith }
    sums place last [] [] (j ∷ js) macs sends room b = absurd sends
    sums place last [] (a ∷ as') js macs sends room b = absurd sends
    sums place last (s ∷ ss) [] js macs sends room b = absurd sends
    sums place last (s ∷ ss) (a ∷ as') [] macs sends room b = absurd sends
    sums place last (s ∷ ss) (a ∷ as') (j ∷ js) macs sends room b =
        go s.eoe refl (λ later less behind. sums (suc place) later ss as' js (All-tail (λ (s : SlaveSpec). length s.mac ≡ 6) s ss macs) sends.1 less behind)
      where
        here : {X : Type 0} (f : ℕ → X) → f place ≡ f (place + 0)
        here f = let same : place ≡ place + 0 = omega arith in ap f same

        x : At place s a j
        x = record {
          mac = All-head (λ (s : SlaveSpec). length s.mac ≡ 6) s ss macs;
          started = here (λ m. started_at leads m) ∙ b.1.0 0;
          packets = here (λ m. packets_at joined m) ∙ b.1.1 0;
          sends = sends.0;
        }

        at : (e : Bool) → s.eoe ≡ e → port_by (slice_get ports place) ≡ port_where e last
        at e is = ap port_by (here (λ m. slice_get ports m) ∙ b.0 0) ∙ ap (λ (z : Bool). port_where z last) is

        Later : Type 0
        Later = (later : ℕ) → later + 1 + count_by (λ (s : SlaveSpec). s.eoe) ss ≤ many → Behind (suc place) later ss as' js → Sums later ss as'

        rest : Later → (e : Bool) → s.eoe ≡ e → last_where e last + 1 + count_by (λ (s : SlaveSpec). s.eoe) ss ≤ many → Sums (last_where e last) ss as'
        rest more_of e is less = more_of (last_where e last) less (subst (λ (z : Bool). Behind (suc place) (last_where z last) ss as' js) is (more place last s ss a as' j js b))

        entered : ℕ
        entered = sum_by entering (take a.number a.script)

        all_count : ℕ
        all_count = count_by (λ (s : SlaveSpec). s.eoe) (s ∷ ss)

        rest_count : ℕ
        rest_count = count_by (λ (s : SlaveSpec). s.eoe) ss

        of : (f : ℕ → ℕ) (e : Bool) → s.eoe ≡ e → ports_sum f last (s ∷ ss) ≡ (if e then f (last + 1) + ports_sum f (last + 1) ss else ports_sum f last ss)
        of f e is = ap (λ (z : Bool). if z then f (last + 1) + ports_sum f (last + 1) ss else ports_sum f last ss) is

        go : (e : Bool) → s.eoe ≡ e → Later → Sums last (s ∷ ss) (a ∷ as')
        go true is more_of =
            let space = roomy last rest_count all_count (if s.eoe then 1 else 0) many room (eoe_count s ss) (ap (λ (z : Bool). if z then 1 else 0) is) in
            let behind = rest more_of true is space.0 in
            let w = with_port place s a j x (last + 1) (at true is) space.1 in
            let own = sent_back place s a j x in
            record {
              sent = own + behind.sent;
              begun = first_sum m (count place s a j x) (packets_begun ss as') 0 own behind.sent (forwards_at (last + 1)) (ports_sum forwards_at (last + 1) ss) (ports_sum forwards_at last (s ∷ ss)) w.begun behind.begun (of forwards_at true is);
              came = second_sum (n + 1) (come_in_at (last + 1)) (ports_sum come_in_at (last + 1) ss) (ports_sum come_in_at last (s ∷ ss)) own behind.sent entered (cuts_begun ss as') w.came behind.came (of come_in_at true is);
            }
        go false is more_of =
            let behind = rest more_of false is (roomy_on last rest_count all_count (if s.eoe then 1 else 0) many room (eoe_count s ss) (ap (λ (z : Bool). if z then 1 else 0) is)) in
            record {
              sent = behind.sent;
              begun = no_begun (count place s a j x) (packets_begun ss as') m behind.sent (ports_sum forwards_at last ss) (ports_sum forwards_at last (s ∷ ss)) (without place s a j x (at false is)) behind.begun (of forwards_at false is);
              came = no_come (ports_sum come_in_at last ss) (ports_sum come_in_at last (s ∷ ss)) behind.sent (n + 1) entered (cuts_begun ss as') behind.came (of come_in_at false is);
            }

    -- THE PACKETS ARE THOSE OF ONE SWITCH
    pub record Switches : Type 0 where
      pub entered : ℕ
      pub within : entered ≤ host_cuts plan.host + cuts_begun plan.slaves leads
      pub most : entered + packets_begun plan.slaves leads ≤ entered * ((n + 1) * (n + 1))

    pub switched_so : (rest : List (ArrayVec ℕ)) → All (λ (s : SlaveSpec). length s.mac ≡ 6) plan.slaves → AllSentBy plan.slaves leads joined → All (IsAtPort many) es → arrivals_at 0 es ++ rest ≡ plan.host → Switches
    switched_so rest macs sends at host =
        let few : many ≤ n + 1 = omega (arith, few_ports plan.slaves, least) in
        let within = laws.within few (come_at many es at) in
        let entries = entries_within n plan.slaves es at in
        let forwards = forwards_within n (switched many es).forwards plan.slaves in
        let all = sums 0 0 plan.slaves leads joined macs sends same_many (front (λ m. slice_get ports m), (front (λ m. started_at leads m), front (λ m. packets_at joined m))) in
        let own = host_cuts (arrivals_at 0 es) in
        let most = host_least n (arrivals_at 0 es) in
        let times = mul-le n (queue_work n (arrivals_at 0 es)) n (own * (n + 1)) (omega arith) most in
        let hosts : host_cuts plan.host ≡ own + host_cuts rest = ap host_cuts (sym host) ∙ sum_by-append (λ (packet : ArrayVec ℕ). cuts packet.items) (arrivals_at 0 es) rest in
        let pred : n - 1 ≡ m = omega arith in
        let few_entries = subst (λ z. entries_work n es ≤ n * queue_work n (arrivals_at 0 es) + z * ports_sum come_in_at 0 plan.slaves) pred entries in
        let chain = chained (ports_sum forwards_at 0 plan.slaves) (slaves_work n (switched many es).forwards) (entries_work n es) (n * queue_work n (arrivals_at 0 es)) (m * ports_sum come_in_at 0 plan.slaves) (n * (own * (n + 1))) forwards within few_entries times in
        record {
          entered = own + cuts_begun plan.slaves leads;
          within = omega (arith, hosts);
          most = square_of m (packets_begun plan.slaves leads) all.sent (ports_sum forwards_at 0 plan.slaves) (ports_sum come_in_at 0 plan.slaves) own (cuts_begun plan.slaves leads) all.begun chain all.came;
        }
      where
        same_many : 0 + 1 + count_by (λ (s : SlaveSpec). s.eoe) plan.slaves ≤ many
        same_many = omega arith

        front : {X : Type 0} (f : ℕ → X) (i : ℕ) → f (0 + i) ≡ f i
        front f i = let same : 0 + i ≡ i = omega arith in ap f same

        chained : (a b c x y z : ℕ) → a ≤ b → b ≤ c → c ≤ x + y → x ≤ z → a ≤ z + y
        chained a b c x y z f g h k = omega (arith, f, g, h, k)
