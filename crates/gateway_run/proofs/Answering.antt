-- ALL ALONG A COURSE each desk is what the lives have, and each datagram got what is its own.
use Rattle.std.proofs.Common.{◌≡◌, ◌<◌, ◌≤◌, ℕ, zero, suc, true, Some, None, List, [], ◌∷◌, ◌++◌, length, map, refl, sym, ap, ◌∙◌, subst, arith}
use Rattle.std.specs.Prelude.{replicate, All}
use Rattle.std.proofs.lemmas.List.{length-map, map-append}
use Rattle.std.proofs.lemmas.List.Elements.{All-nil, All-cons, All-head, All-tail}
use Rattle.run_record.specs.of_served_places.Rows.{ToldAll, passed_rows, passings, replies_of}
use Rattle.run_record.specs.of_life_runs.Served.{IsServedLed, Keyed, Serves, all_serve, asked_at, new_serves}
use Rattle.run_record.specs.of_master_node.Happened.{events_of as switch_events}
use Rattle.run_record.specs.of_master_node.Ports.{ports_behind, ports_of}
use Rattle.run_record.specs.of_frame_view.Shares.{AllBoth}
use Rattle.run_record.specs.of_life_runs.First.{first_leads, leads_from, lens_of}
use Rattle.run_record.specs.of_life_runs.Led.{Exchanged, Leads}
use Rattle.run_record.specs.of_master_tour.Made.{is_in}
use Rattle.run_record.specs.of_segment_plan.declared.service.Service as Plan
use Rattle.run_record.specs.of_run_book.declared.book.GramIn.{GramIn}
use Rattle.run_record.specs.of_run_book.declared.book.SentFrame.{SentFrame}
use Rattle.run_record.specs.Led.{exchanged}
use Rattle.run_record.specs.Served.{ServingBegins}
use Rattle.run_record.specs.Session.{SessionState, first_session, numbers_over}
use Rattle.run_record.specs.of_segment_plan.Sound.{IsPlan}
use Rattle.run_record.specs.of_segment_plan.declared.plan.Scenario.{Scenario}
use Rattle.run_record.specs.of_segment_plan.declared.slave.SlaveSpec.{SlaveSpec}
use Rattle.gateway_run.specs.Account.{Course, Course.begins, Course.hears, Course.steps, Owing, happened_in, left_by_all, numbers_in, owed_by_all}
use Rattle.gateway_run.specs.Events.{events_of}
use Rattle.gateway_run.specs.Rooms.{done_by_all}
use Rattle.gateway_run.specs.Replies.{AllDesk, Answers, GivesAll, IsDesk, IsFor, IsHeard, IsLate, IsNew, IsOurs, IsUndone, dones_of, keyed_in, mails_told}
use Rattle.gateway_run.specs.declared.desk.Request.{Request}
use Rattle.gateway_run.proofs.Judging.{answers_heard}
use Rattle.gateway_run.proofs.Leds.{course_led}
use Rattle.gateway_run.proofs.Rowed.{Rowed, none_numbered, some_last}
use Rattle.gateway_run.proofs.Stepping.{answers_on}

-- BEFORE THE FIRST FRAME no mail is in hand, and none was passed on
record IsNewborn (w : Serves) : Type 0 where
  hand : w.hand ≡ None
  rows : passed_rows w.lead.lived.life ≡ []
  stands : passings w.lead.lived.life ≡ []

abbrev IsEmpty : Leads → Type 0
IsEmpty a = (passed_rows a.lived.life ≡ []) × (passings a.lived.life ≡ [])

born : (rows : List (ℕ × Plan.Service)) (place : ℕ) (ss : List SlaveSpec) → All IsEmpty (leads_from rows place ss)
born rows place [] = All-nil IsEmpty
born rows place (s ∷ ss) = All-cons IsEmpty _ (leads_from rows (suc place) ss) (refl, refl) (born rows (suc place) ss)

new_born : (pace : ℕ) (a : Leads) → IsEmpty a → IsNewborn (new_serves pace a)
new_born pace a e = record { hand = refl; rows = e.0; stands = e.1 }

all_born : (paces : List ℕ) (as' : List Leads) → All IsEmpty as' → All IsNewborn (all_serve paces as')
all_born paces [] h = All-nil IsNewborn
all_born [] (a ∷ as') h = All-cons IsNewborn (new_serves 1 a) (all_serve [] as') (new_born 1 a (All-head IsEmpty a as' h)) (all_born [] as' (All-tail IsEmpty a as' h))
all_born (pace ∷ paces) (a ∷ as') h = All-cons IsNewborn (new_serves pace a) (all_serve paces as') (new_born pace a (All-head IsEmpty a as' h)) (all_born paces as' (All-tail IsEmpty a as' h))

-- so it stays where mails are asked
asked_born : (place : ℕ) (k : Keyed) (ws : List Serves) → All IsNewborn ws → All IsNewborn (asked_at place k ws)
asked_born place k [] h = All-nil IsNewborn
asked_born zero k (w ∷ ws) h =
    (let b = All-head IsNewborn w ws h in All-cons IsNewborn (record w { asked = w.asked ++ k ∷ []; waits = w.waits ++ k ∷ [] }) ws (record { hand = b.hand; rows = b.rows; stands = b.stands }) (All-tail IsNewborn w ws h))
asked_born (suc place) k (w ∷ ws) h = All-cons IsNewborn w (asked_at place k ws) (All-head IsNewborn w ws h) (asked_born place k ws (All-tail IsNewborn w ws h))

first_born : (plan : Scenario) (fs : List Exchanged) (missed : ℕ) (ws : List Serves) → IsServedLed (lens_of plan.slaves) plan.recover plan.retry (all_serve plan.paces (first_leads plan)) fs missed ws → fs ≡ [] → All IsNewborn ws
first_born plan _ _ _ IsServedLed.start e = all_born plan.paces (first_leads plan) (born plan.services 0 plan.slaves)
first_born plan _ _ _ (IsServedLed.asks fs missed ws place k led may) e = asked_born place k ws (first_born plan fs missed ws led e)
first_born plan _ _ _ (IsServedLed.on fs missed ws f vs led frame) e = absurd (some_last fs f e)

-- nor does one wait
none_wait : (ws : List Serves) (n : ℕ) → map (λ (w : Serves). length w.waits) ws ≡ replicate n 0 → All (λ (w : Serves). w.waits ≡ []) ws
none_wait [] n e = All-nil (λ (w : Serves). w.waits ≡ [])
none_wait (w ∷ ws) zero e = absurd (let bad : length w.waits ∷ map (λ (w : Serves). length w.waits) ws ≡ [] = e in cc)
none_wait (w ∷ ws) (suc n) e =
    let all : length w.waits ∷ map (λ (w : Serves). length w.waits) ws ≡ 0 ∷ replicate n 0 = e in
    let none : length w.waits ≡ 0 = cc in
    let rest : map (λ (w : Serves). length w.waits) ws ≡ replicate n 0 = cc in
    All-cons (λ (w : Serves). w.waits ≡ []) w ws (empty w.waits none) (none_wait ws n rest)
  where
    empty : (ks : List Keyed) → length ks ≡ 0 → ks ≡ []
    empty [] f = refl
    empty (k ∷ ks) f = absurd (omega (arith, f))

first_desk : (i : ℕ) (w : Serves) → IsNewborn w → w.waits ≡ [] → IsDesk [] [] i w [] [] []
first_desk i w b e = record {
  waits = subst (λ ks. AllBoth (IsFor []) [] ks) (sym e) tt;
  in_hand = subst (λ h. AllBoth (IsFor []) [] (keyed_in h w.lead.lived.life.era.passing)) (sym b.hand) tt;
  its = λ r f. absurd (cc);
  newest = λ p f. absurd (let bad : None ≡ Some p = sym b.hand ∙ f in cc);
  new = All-nil (IsNew []);
  many = sym (ap length b.rows);
  ours = All-nil (IsOurs [] i);
  rising = tt;
  late = subst (λ rows. AllBoth (IsLate []) [] rows) (sym b.rows) tt;
}

first_desks : (i : ℕ) (ws : List Serves) → All IsNewborn ws → All (λ (w : Serves). w.waits ≡ []) ws → AllDesk [] [] [] i ws (map (λ (w : Serves). []) ws)
first_desks i [] b e = tt
first_desks i (w ∷ ws) b e = (first_desk i w (All-head IsNewborn w ws b) (All-head (λ (w : Serves). w.waits ≡ []) w ws e), first_desks (suc i) ws (All-tail IsNewborn w ws b) (All-tail (λ (w : Serves). w.waits ≡ []) w ws e))

first_told : (ws : List Serves) → All IsNewborn ws → All ToldAll ws
first_told [] b = All-nil ToldAll
first_told (w ∷ ws) b = All-cons ToldAll w ws (λ p f. absurd (let bad : None ≡ Some p = sym (All-head IsNewborn w ws b).hand ∙ f in cc)) (first_told ws (All-tail IsNewborn w ws b))

first_gives : (ws : List Serves) → All IsNewborn ws → AllBoth (GivesAll [] (λ n. is_in n [])) ws (map (λ (w : Serves). []) ws)
first_gives [] b = tt
first_gives (w ∷ ws) b =
    let new = All-head IsNewborn w ws b in (
      record {
        heard = ap (λ rs. map mails_told (replies_of rs)) (sym new.rows);
        over = subst (λ ps. AllBoth (λ n p. is_in n [] ≡ true → p ≡ None) [] ps) (sym new.stands) tt;
      },
      first_gives ws (All-tail IsNewborn w ws b),
    )

first_rowed : (plan : Scenario) (count : ℕ) (s : SessionState) → s ≡ first_session plan count s.master → ServingBegins plan s → Rowed plan s [] [] [] [] [] [] []
first_rowed plan count s first serving =
    let ws = serving.leading.serves in
    let b = first_born plan [] serving.leading.missed ws serving.leading.lives refl in
    let e = none_wait ws (length plan.slaves) (serving.waiting ∙ ap (λ (z : SessionState). z.waiting) first) in
    let none = none_numbered plan (ports_behind 0 plan.slaves) (ports_of plan.slaves) [] serving.leading.missed ws serving.leading.lives (switch_events serving.rows) serving.numbers refl serving.numbered in (
      record {
        serving = serving;
        came = map (λ (w : Serves). []) ws;
        desk = first_desks 0 ws b e;
        told = first_told ws b;
        apart = tt;
        filed = tt;
        heard = All-nil (IsHeard []);
        early = All-nil (λ (g : GramIn). g.frame ≤ 0);
        undone = All-nil (IsUndone []);
        ended = All-nil (λ (n : ℕ). n < 0);
        owed = All-nil (λ (o : Owing). o.gram < 0);
        got = tt;
        whole = λ quiet. first_gives ws b;
      },
      none.0,
      none.1,
    )

-- ALL ALONG, with just the events of the course at the switch, and their numbers
pub course_rowed : (plan : Scenario) (count : ℕ) → IsPlan plan → (s : SessionState) (fs : List SentFrame) (gs : List GramIn) (rs : List Request) (os : List Owing) (c : Course plan count s fs gs rs os) →
    Rowed plan s (map exchanged fs) gs rs os (dones_of plan count s fs gs rs os c) (happened_in plan count s fs gs rs os c) (numbers_in plan count s fs gs rs os c)
course_rowed plan count is _ _ _ _ _ (begins s first serves) = first_rowed plan count s first serves
course_rowed plan count is _ _ _ _ _ (hears s s' fs gs g rs rs' os more c at few judges) =
    let l = course_led plan count is s fs gs rs os c in
    let old = course_rowed plan count is s fs gs rs os c in
    let on = answers_heard plan s s' (map exchanged fs) gs g rs os (dones_of plan count s fs gs rs os c) old.0 (at ∙ sym (length-map fs exchanged)) is l.homes few rs' more judges in
    (on.0, on.1 ∙ old.1, on.2 ∙ old.2)
course_rowed plan count is _ _ _ _ _ (steps s s' fs f gs rs os c m) =
    let l = course_led plan count is s fs gs rs os c in
    let old = course_rowed plan count is s fs gs rs os c in
    let more = m.happened.making ++ m.happened.behind in
    let numbers = numbers_in plan count s fs gs rs os c ++ numbers_over (length fs) m.happened in
    let on = answers_on plan s s' (map exchanged fs) (exchanged f) gs rs os (dones_of plan count s fs gs rs os c) old.0 m.happened (m.led plan (map exchanged fs) l.recover l.many m.live m.busy old.0.serving) in
    subst (λ z. Rowed plan s' z gs (left_by_all (events_of s'.master) rs) (os ++ owed_by_all (events_of s'.master) rs) (dones_of plan count s fs gs rs os c ++ done_by_all (events_of s'.master) rs) (happened_in plan count s fs gs rs os c ++ more) numbers)
    (sym (map-append exchanged fs (f ∷ []))) (on.0, on.1 ∙ ap (λ z. z ++ more) old.1, on.2 ∙ (λ i. old.2 i ++ numbers_over (length-map fs exchanged i) m.happened))

pub course_answers : (plan : Scenario) (count : ℕ) → IsPlan plan → (s : SessionState) (fs : List SentFrame) (gs : List GramIn) (rs : List Request) (os : List Owing) (c : Course plan count s fs gs rs os) → Answers plan s (map exchanged fs) gs rs os (dones_of plan count s fs gs rs os c)
course_answers plan count is s fs gs rs os c = (course_rowed plan count is s fs gs rs os c).0
