-- When a slave's port goes down, over a run and over a serving: behind the frame at which the slave was given up for good.
use Rattle.std.proofs.Common.{◌≡◌, ◌≤◌, ◌⊎◌, inl, inr, ℕ, zero, suc, ◌+◌, Bool, true, false, Option, Some, None, List, [], ◌∷◌, ◌++◌, map, length, length-append, refl, sym, ap, subst, ◌∙◌, arith, append-nil}
use Rattle.std.specs.Prelude.{◌&&◌, if◌then◌else◌, slice_get}
use Rattle.std.proofs.lemmas.Option.{slice_get_past}
use Rattle.master_node.specs.of_eoe_switch.declared.switching.SwitchEvent.{SwitchEvent}
use Rattle.master_node.specs.of_datagrams.Datagram as Raw
use Rattle.master_node.specs.of_frame_view.View.{Lens}
use Rattle.master_node.specs.of_frame_view.Seen.{seen}
use Rattle.master_node.specs.of_frame_view.Shares.{came_at, given_where, lived_back, lived_lost}
use Rattle.master_node.specs.of_life_model.Lives.{Life, Spot, Stand, life_lost}
use Rattle.master_node.specs.of_life_runs.First.{first_leads, leads_from}
use Rattle.master_node.specs.of_life_runs.Led.{Exchanged, Leads, Turn, AllTurn, IsLed, led_behind, life_behind, gives_up_at, is_passed, speech_at}
use Rattle.slave_server.specs.of_link_mails.Body.{Body}
use Rattle.master_node.specs.of_master_duty.Reply.{Reply}
use Rattle.slave_server.specs.of_segment_plan.declared.plan.Scenario.{Scenario}
use Rattle.slave_server.specs.of_segment_plan.declared.service.Service as Plan
use Rattle.slave_server.specs.of_segment_plan.declared.slave.SlaveSpec.{SlaveSpec}
use Rattle.master_node.specs.of_master_hand.Spoken.{Asked, acknowledged, is_followed}
use Rattle.master_node.proofs.Servings.{leads_same, run_all}
use Rattle.master_node.specs.Serving.{run_lead, run_turn}
use Rattle.master_node.specs.Shows.{is_led, is_live_lead}
use Rattle.master_node.specs.Wants.{gave_of, IsCounted, AllCounted}
use Rattle.master_node.proofs.Counts.{back_gave, counted, lost_gave, next_gave, turn_gave}
use Rattle.master_node.specs.of_master_side.Passing.{news_back, news_lost}
use Rattle.master_node.specs.of_master_tour.Goes.{holds_at}
use Rattle.packets_heard.specs.Numbers.{Numbered, NumberedOn, given_up_at, goes, number_behind, numbers_where}
use Rattle.packets_heard.proofs.Counts.{count, count_goes, repeat}
use Rattle.packets_heard.proofs.Numbers.{frame_count, frame_numbers, numbered_many, serving_numbered}
use Rattle.packets_heard.specs.Listed.{IsOwn, Listed, downs_at}
use Rattle.packets_heard.specs.Over.{AreBegun}
use Rattle.packets_heard.proofs.Ports.{making_downs}
use Rattle.packets_heard.proofs.Runs.{run_downs, serving_downs}
use Rattle.packets_heard.specs.Servings.{AreServedBegun, ServedListed, ServedNumbered}
use Rattle.slave_server.specs.of_segment_model.Record.{News}
use Rattle.master_node.specs.of_segment_ring.declared.wire.Fate.{Fate}
use Rattle.master_node.specs.of_segment_ring.declared.wire.Fate.TheVariants.{Pass, Lost}
use Rattle.master_node.specs.of_life_runs.Served.{AllServedTurn, IsServedLed, IsServedTurn, Serves, ServedTurn, all_serve, served_behind, served_life}

abbrev SlaveLife : Type 0
SlaveLife = Life Body Asked Reply

-- WHAT A FRAME MAKES of when a slave was given up for good, by whether it is live before and behind it
abbrev pub GoneBy : Bool → Bool → ℕ → Option ℕ → Option ℕ → Type 0
GoneBy true true made x y = y ≡ x
GoneBy true false made x y = (x ≡ None) × (y ≡ Some made)
GoneBy false true made x y = ⊥
GoneBy false false made x y = y ≡ x

-- a live slave wasn't given up so often
live_none : (recover : ℕ) (stand : Stand) (gave : List ℕ) → IsCounted recover stand (length gave) → is_led stand ≡ true → slice_get gave recover ≡ None
live_none recover (Stand.Opens o) gave c e = slice_get_past gave recover c
live_none recover Stand.Open gave c e = slice_get_past gave recover c
live_none recover Stand.Gone gave c e = absurd (let bad : false ≡ true = e in cc)

gone_many : (recover : ℕ) (stand : Stand) (n : ℕ) → IsCounted recover stand n → is_led stand ≡ false → n ≡ suc recover
gone_many recover (Stand.Opens o) n c e = absurd (let bad : true ≡ false = e in cc)
gone_many recover Stand.Open n c e = absurd (let bad : true ≡ false = e in cc)
gone_many recover Stand.Gone n c e = c

live_few : (recover : ℕ) (stand : Stand) (n : ℕ) → IsCounted recover stand n → is_led stand ≡ true → n ≤ recover
live_few recover (Stand.Opens o) n c e = c
live_few recover Stand.Open n c e = c
live_few recover Stand.Gone n c e = absurd (let bad : false ≡ true = e in cc)

last_is : (gs : List ℕ) (g n : ℕ) → length gs ≡ n → slice_get (gs ++ g ∷ []) n ≡ Some g
last_is [] g zero e = refl
last_is [] g (suc n) e = absurd (omega (arith, e))
last_is (x ∷ gs) g zero e = absurd (omega (arith, e))
last_is (x ∷ gs) g (suc n) e = last_is gs g n (omega (arith, e))

-- ---- one slave

-- it was given up no more often, or once more with this frame
abbrev OneMore : ℕ → List ℕ → List ℕ → Type 0
OneMore made old now = (now ≡ old) ⊎ (now ≡ old ++ made ∷ [])

one_gone : (recover made : ℕ) (s t : Stand) (old now : List ℕ) → IsCounted recover s (length old) → IsCounted recover t (length now) → OneMore made old now → (b c : Bool) → is_led s ≡ b → is_led t ≡ c → GoneBy b c made (slice_get old recover) (slice_get now recover)
one_gone recover made s t old now h i more true true e g = live_none recover t now i g ∙ sym (live_none recover s old h e)
one_gone recover made s t old now h i (inl same) true false e g =
    let many = gone_many recover t (length now) i g in
    let few = live_few recover s (length old) h e in
    let long = ap (λ z. length z) same in
    absurd (omega (arith, many, few, long))
one_gone recover made s t old now h i (inr more) true false e g =
    let many = gone_many recover t (length now) i g in
    let long = ap (λ z. length z) more ∙ length-append old (made ∷ []) in
    (live_none recover s old h e, ap (λ z. slice_get z recover) more ∙ last_is old made recover (omega (arith, many, long)))
one_gone recover made s t old now h i (inl same) false true e g =
    let many = gone_many recover s (length old) h e in
    let few = live_few recover t (length now) i g in
    let long = ap (λ z. length z) same in
    absurd (omega (arith, many, few, long))
one_gone recover made s t old now h i (inr more) false true e g =
    let many = gone_many recover s (length old) h e in
    let few = live_few recover t (length now) i g in
    let long = ap (λ z. length z) more ∙ length-append old (made ∷ []) in
    absurd (omega (arith, many, few, long))
one_gone recover made s t old now h i (inl same) false false e g = ap (λ z. slice_get z recover) same
one_gone recover made s t old now h i (inr more) false false e g =
    let many = gone_many recover s (length old) h e in
    let few = gone_many recover t (length now) i g in
    let long = ap (λ z. length z) more ∙ length-append old (made ∷ []) in
    absurd (omega (arith, many, few, long))

given_more : (b : Bool) (recover made : ℕ) (spot : Spot) (m : SlaveLife) (old : List ℕ) → m.gave ≡ old → OneMore made old (given_where b recover spot made m).gave
given_more true recover made spot m old e = inr (ap (λ z. z ++ made ∷ []) e)
given_more false recover made spot m old e = inl e

module _ (lens : ℕ → Lens) (recover retry : ℕ) (gives : Bool) (made : ℕ) (f : Exchanged) where
  back_more : (u : Turn) (news : List (News Body)) → OneMore made u.lived.life.gave (lived_back (speech_at lens u.lived.spot) acknowledged is_followed is_passed made (seen lens f.back) u.lived u.share news).life.gave
  back_more u news =
      inl (back_gave (speech_at lens u.lived.spot) acknowledged is_followed is_passed recover u.lived.spot u.lived.life made news (seen lens f.back) (came_at u.share.under u.share.at (seen lens f.back)) u.lived.life.stand)

  lost_more : (u : Turn) (news : List (News Body)) → OneMore made u.lived.life.gave (lived_lost (speech_at lens u.lived.spot) acknowledged is_followed is_passed gives recover made (seen lens f.sent) u.lived u.share news).life.gave
  lost_more u news =
      given_more (gives && u.share.under) recover made u.lived.spot (life_lost (speech_at lens u.lived.spot) acknowledged is_followed is_passed u.lived.spot news (seen lens f.sent) u.lived.life u.lived.life.stand) u.lived.life.gave
      (lost_gave (speech_at lens u.lived.spot) acknowledged is_followed is_passed recover u.lived.spot u.lived.life news (seen lens f.sent) u.lived.life.stand)

  run_more : (u : Turn) (fate : Fate) → OneMore made u.lived.life.gave (life_behind lens recover retry gives made f fate u.lived u.share).life.gave
  run_more u Pass = back_more u []
  run_more u (Lost after) = lost_more u []

  serving_more : (v : ServedTurn) (fate : Fate) → OneMore made v.turn.lived.life.gave (served_life lens recover retry gives made f fate v).life.gave
  serving_more v Pass = back_more v.turn (news_back v.turn.lived.spot.station v.kept v.counts (seen lens f.back))
  serving_more v (Lost after) = lost_more v.turn (news_lost v.turn.lived.spot.station v.kept (seen lens f.sent))

  served_gave : (ds : List Raw.Datagram) (w : Serves) (v : ServedTurn) → IsServedTurn lens made ds w v → v.turn.lived.life.gave ≡ gave_of w.lead
  served_gave ds w v t = ap (λ (l : SlaveLife). l.gave) t.next.life ∙ next_gave (speech_at lens w.lead.lived.spot) acknowledged is_followed is_passed made w.lead.lived.life t.next.pick w.lead.lived.life.stand

  abbrev behind : List Turn → List Leads
  behind us = map (led_behind lens recover retry gives made f) us

  abbrev serves : List ServedTurn → List Leads
  serves vs = map run_lead (map (served_behind lens recover retry gives made f) vs)

  -- ---- of the slave at a place, over a run

  frame_gone : (ds : List Raw.Datagram) (as' : List Leads) (us : List Turn) → AllTurn lens made ds as' us → AllCounted recover as' → AllCounted recover (behind us) → (k : ℕ) (b c : Bool) →
      holds_at is_live_lead as' k ≡ b → holds_at is_live_lead (behind us) k ≡ c → GoneBy b c made (given_up_at recover as' k) (given_up_at recover (behind us) k)
  frame_gone ds [] [] t h i k true c e g = absurd (let bad : false ≡ true = e in cc)
  frame_gone ds [] [] t h i k false true e g = absurd (let bad : false ≡ true = g in cc)
  frame_gone ds [] [] t h i k false false e g = refl
  frame_gone ds [] (u ∷ us) t h i k b c e g = absurd t
  frame_gone ds (a ∷ as') [] t h i k b c e g = absurd t
  frame_gone ds (a ∷ as') (u ∷ us) t h i zero b c e g =
      let m : SlaveLife = (led_behind lens recover retry gives made f u).lived.life in
      one_gone recover made a.lived.life.stand m.stand (gave_of a) m.gave h.0 i.0 (subst (λ (z : List ℕ). OneMore made z m.gave) (turn_gave lens recover retry gives made f ds a u t.0) (run_more u f.fate)) b c e g
  frame_gone ds (a ∷ as') (u ∷ us) t h i (suc k) b c e g = frame_gone ds as' us t.1 h.1 i.1 k b c e g

  -- and over a serving
  served_gone : (ds : List Raw.Datagram) (ws : List Serves) (vs : List ServedTurn) → AllServedTurn lens made ds ws vs → AllCounted recover (map run_lead ws) → AllCounted recover (serves vs) → (k : ℕ) (b c : Bool) →
      holds_at is_live_lead (map run_lead ws) k ≡ b → holds_at is_live_lead (serves vs) k ≡ c → GoneBy b c made (given_up_at recover (map run_lead ws) k) (given_up_at recover (serves vs) k)
  served_gone ds [] [] t h i k true c e g = absurd (let bad : false ≡ true = e in cc)
  served_gone ds [] [] t h i k false true e g = absurd (let bad : false ≡ true = g in cc)
  served_gone ds [] [] t h i k false false e g = refl
  served_gone ds [] (v ∷ vs) t h i k b c e g = absurd t
  served_gone ds (w ∷ ws) [] t h i k b c e g = absurd t
  served_gone ds (w ∷ ws) (v ∷ vs) t h i zero b c e g =
      let m : SlaveLife = (served_behind lens recover retry gives made f v).lead.lived.life in
      one_gone recover made w.lead.lived.life.stand m.stand (gave_of w.lead) m.gave h.0 i.0 (subst (λ (z : List ℕ). OneMore made z m.gave) (served_gave ds w v t.0) (serving_more v f.fate)) b c e g
  served_gone ds (w ∷ ws) (v ∷ vs) t h i (suc k) b c e g = served_gone ds ws vs t.1 h.1 i.1 k b c e g

-- before the first frame none was
pub first_none : (recover : ℕ) (services : List (ℕ × Plan.Service)) (place : ℕ) (ss : List SlaveSpec) (k : ℕ) → given_up_at recover (leads_from services place ss) k ≡ None
first_none recover services place [] k = refl
first_none recover services place (s ∷ ss) zero = slice_get_past [] recover (omega arith)
first_none recover services place (s ∷ ss) (suc k) = first_none recover services (suc place) ss k

-- how often it went down, with the number behind this frame
downs_by : (b c : Bool) (made n : ℕ) (x y : Option ℕ) → GoneBy b c made x y → (if b then 0 else 1) + n ≡ (if c then 0 else 1) → number_behind x ++ repeat n (suc made) ≡ number_behind y
downs_by true true made n x y h e = (λ i. number_behind (sym h i) ++ repeat (zero_so i) (suc made)) ∙ append-nil (number_behind y)
  where
    zero_so : n ≡ 0
    zero_so = omega (arith, e)
downs_by true false made n x y h e = (λ i. number_behind (h.0 i) ++ repeat (one_so i) (suc made)) ∙ sym (ap number_behind h.1)
  where
    one_so : n ≡ 1
    one_so = omega (arith, e)
downs_by false true made n x y h e = absurd h
downs_by false false made n x y h e = (λ i. number_behind (sym h i) ++ repeat (zero_so i) (suc made)) ∙ append-nil (number_behind y)
  where
    zero_so : n ≡ 0
    zero_so = omega (arith, e)

-- ONE FRAME MORE, where each event before it has its number
module _ (listed begun : List SwitchEvent → Type 0) (before : List SwitchEvent → List ℕ → Type 0) (ports : List (Option ℕ)) (many made : ℕ) (us : List Turn) (es : List SwitchEvent) (ns : List ℕ) (x : NumberedOn listed begun before ports many made us es ns)
    (long : length x.step.old ≡ length x.numbers) where
  pub frame_goes : (p : ℕ) (b c : Bool) (old new : Option ℕ) → GoneBy b c made old new → downs_at p x.step.old ≡ (if b then 0 else 1) → downs_at p es ≡ (if c then 0 else 1) → numbers_where (goes p) x.step.old x.numbers ≡ number_behind old → numbers_where (goes p) es ns ≡ number_behind new
  frame_goes p b c old new gone was now numbers =
      frame_numbers listed begun before ports many made us es ns x long (goes p)
      ∙ (λ i. numbers i ++ (repeat (making i) made ++ repeat (count (goes p) x.step.behind) (suc made)))
      ∙ downs_by b c made (count (goes p) x.step.behind) old new gone behind
    where
      making : count (goes p) x.step.making ≡ 0
      making = count_goes p x.step.making ∙ making_downs p x.step.making x.only

      behind : (if b then 0 else 1) + count (goes p) x.step.behind ≡ (if c then 0 else 1)
      behind =
          let all = count_goes p es in
          let first = count_goes p x.step.old in
          let sum = frame_count listed begun before ports many made us es ns x long (goes p) in
          omega (arith, all, first, was, now, sum, making)

-- ---- OVER A RUN
module _ (lens : ℕ → Lens) (plan : Scenario) (retry : ℕ) (ports : List (Option ℕ)) (many k p : ℕ) (own : IsOwn ports k p) (live : holds_at is_live_lead (first_leads plan) k ≡ true) where
  pub numbers_down : {fs : List Exchanged} {missed : ℕ} {as' : List Leads} (led : IsLed lens plan.recover retry (first_leads plan) fs missed as') (es : List SwitchEvent) (ns : List ℕ) → Listed lens plan.recover retry ports led es → Numbered ports many led es ns →
      numbers_where (goes p) es ns ≡ number_behind (given_up_at plan.recover as' k)
  numbers_down IsLed.start es ns l x = (λ i. numbers_where (goes p) (x.0 i) (x.1 i)) ∙ sym (ap number_behind (first_none plan.recover plan.services 0 plan.slaves k))
  numbers_down (IsLed.on fs missed as' f us led frame) es ns l x =
      frame_goes (λ old. Listed lens plan.recover retry ports led old) (λ old. AreBegun ports many led old) (λ old numbers. Numbered ports many led old numbers) ports many (length fs) us es ns x (numbered_many ports many led x.step.old x.numbers x.was)
      p (holds_at is_live_lead as' k) (holds_at is_live_lead leads k) (given_up_at plan.recover as' k) (given_up_at plan.recover leads k) gone
      (run_downs lens plan.recover retry ports k p own led x.step.old live x.listed_old) (run_downs lens plan.recover retry ports k p own (IsLed.on fs missed as' f us led frame) es live l) (numbers_down led x.step.old x.numbers x.listed_old x.was)
    where
      leads : List Leads
      leads = map (led_behind lens plan.recover retry (gives_up_at lens plan.recover retry missed) (length fs) f) us

      gone : GoneBy (holds_at is_live_lead as' k) (holds_at is_live_lead leads k) (length fs) (given_up_at plan.recover as' k) (given_up_at plan.recover leads k)
      gone =
          frame_gone lens plan.recover retry (gives_up_at lens plan.recover retry missed) (length fs) f frame.datagrams as' us frame.each (counted lens plan retry fs missed as' led)
          (counted lens plan retry (fs ++ f ∷ []) _ leads (IsLed.on fs missed as' f us led frame)) k (holds_at is_live_lead as' k) (holds_at is_live_lead leads k) refl refl

-- ---- OVER A SERVING, where each life before and behind its frames is counted
module _ (lens : ℕ → Lens) (plan : Scenario) (retry : ℕ) (ports : List (Option ℕ)) (many k p : ℕ) (own : IsOwn ports k p) (live : holds_at is_live_lead (first_leads plan) k ≡ true) where
  abbrev pub Led : List Exchanged → ℕ → List Serves → Type 0
  Led fs missed ws = IsServedLed lens plan.recover retry (all_serve plan.paces (first_leads plan)) fs missed ws

  pub serving_goes : ((fs : List Exchanged) (missed : ℕ) (ws : List Serves) → Led fs missed ws → AllCounted plan.recover (map run_lead ws)) → {fs : List Exchanged} {missed : ℕ} {ws : List Serves} (led : Led fs missed ws) (es : List SwitchEvent) (ns : List ℕ) →
      ServedListed ports led es → ServedNumbered ports many led es ns → numbers_where (goes p) es ns ≡ number_behind (given_up_at plan.recover (map run_lead ws) k)
  serving_goes counts IsServedLed.start es ns l x =
      (λ i. numbers_where (goes p) (x.0 i) (x.1 i)) ∙ sym (ap number_behind (ap (λ (as' : List Leads). given_up_at plan.recover as' k) (run_all plan.paces (first_leads plan)) ∙ first_none plan.recover plan.services 0 plan.slaves k))
  serving_goes counts (IsServedLed.asks fs missed ws place key led may) es ns l x = serving_goes counts led es ns l x ∙ ap (λ (as' : List Leads). number_behind (given_up_at plan.recover as' k)) (sym (leads_same (λ (a : Leads). a) place key ws))
  serving_goes counts (IsServedLed.on fs missed ws f vs led frame) es ns l x =
      frame_goes (λ old. ServedListed ports led old) (λ old. AreServedBegun ports many led old) (λ old numbers. ServedNumbered ports many led old numbers) ports many (length fs) (map run_turn vs) es ns x (serving_numbered ports many led x.step.old x.numbers x.was)
      p (holds_at is_live_lead (map run_lead ws) k) (holds_at is_live_lead leads k) (given_up_at plan.recover (map run_lead ws) k) (given_up_at plan.recover leads k) gone
      (serving_downs lens plan.recover retry ports k p own led x.step.old first x.listed_old) (serving_downs lens plan.recover retry ports k p own (IsServedLed.on fs missed ws f vs led frame) es first l) (serving_goes counts led x.step.old x.numbers x.listed_old x.was)
    where
      first : holds_at is_live_lead (map run_lead (all_serve plan.paces (first_leads plan))) k ≡ true
      first = ap (λ (as' : List Leads). holds_at is_live_lead as' k) (run_all plan.paces (first_leads plan)) ∙ live

      leads : List Leads
      leads = map run_lead (map (served_behind lens plan.recover retry (gives_up_at lens plan.recover retry missed) (length fs) f) vs)

      gone : GoneBy (holds_at is_live_lead (map run_lead ws) k) (holds_at is_live_lead leads k) (length fs) (given_up_at plan.recover (map run_lead ws) k) (given_up_at plan.recover leads k)
      gone =
          served_gone lens plan.recover retry (gives_up_at lens plan.recover retry missed) (length fs) f frame.datagrams ws vs frame.each (counts fs missed ws led) (counts (fs ++ f ∷ []) _ _ (IsServedLed.on fs missed ws f vs led frame)) k
          (holds_at is_live_lead (map run_lead ws) k) (holds_at is_live_lead leads k) refl refl
