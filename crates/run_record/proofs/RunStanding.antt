-- HOW A RUN STANDS: as a serving to which no mail was asked.
use Rattle.std.proofs.Common.{◌≡◌, ℕ, zero, suc, List, [], ◌∷◌, ◌++◌, map, length, refl, sym, ap, ◌∙◌, subst}
use Rattle.std.specs.Prelude.{replicate}
use Rattle.std.proofs.lemmas.List.{map-append}
use Rattle.packets_heard.specs.of_eoe_switch.declared.switching.SwitchEvent.{SwitchEvent}
use Rattle.packets_heard.specs.of_master_node.Happened.{events_of}
use Rattle.packets_heard.specs.of_master_node.Ports.{ports_behind, ports_of}
use Rattle.packets_heard.specs.of_master_node.Serving.{run_lead}
use Rattle.packets_heard.specs.of_master_node.Toured.{tour_of}
use Rattle.served_places.specs.of_life_runs.First.{lens_of}
use Rattle.served_places.specs.of_life_runs.Led.{Exchanged, gives_up_at}
use Rattle.served_places.specs.of_master_tour.Toured.{Tour}
use Rattle.packets_heard.specs.Served.{IsTourServed, serves_behind}
use Rattle.packets_heard.specs.Servings.{ServedNumbered}
use Rattle.packets_heard.specs.Toured.{tour_behind}
use Rattle.run_notes.specs.of_run_book.Book.{IsNew}
use Rattle.run_notes.specs.of_run_book.declared.book.Book.{Book}
use Rattle.run_notes.specs.of_run_book.declared.book.SentFrame.{SentFrame}
use Rattle.run_record.proofs.Heads.{heads, not_none, rests}
use Rattle.run_record.proofs.RunLives.{run_lives}
use Rattle.run_record.proofs.RunTours.{run_tour, tour_by}
use Rattle.run_record.proofs.Unasked.{NoneAsked, none_behind, not_more}
use Rattle.run_record.specs.Led.{AreLed, exchanged}
use Rattle.run_record.specs.Served.{ServesOn, Serving, ServingBegins, as_asked}
use Rattle.run_record.specs.ServedLed.{LeadsFrame, ServeTo, ServedTouredTo}
use Rattle.run_record.specs.Session.{FrameEvents, IsGrown, SessionState, first_session, numbers_over}
use Rattle.packets_heard.specs.of_segment_plan.declared.plan.Scenario.{Scenario}
use Rattle.served_places.specs.of_life_runs.Served.{IsServedLed, Keyed, Serves}

-- behind these frames, with just these events of its switch, each with its number
pub record StandsSo (plan : Scenario) (s : SessionState) (fs : List Exchanged) (es : List SwitchEvent) (ns : List ℕ) : Type 0 where
  pub serving : Serving plan s fs
  pub events : events_of serving.rows ≡ es
  pub numbers : serving.numbers ≡ ns
  pub unasked : s.asked ≡ replicate (length plan.slaves) []

-- those of a book
abbrev pub Stands : Scenario → SessionState → Book → Type 0
Stands plan s b = StandsSo plan s (map exchanged b.frames) b.switch b.switched

pub stands_same : (plan : Scenario) (s : SessionState) (fs gs : List Exchanged) (es ds : List SwitchEvent) (ns ms : List ℕ) → gs ≡ fs → ds ≡ es → ms ≡ ns → StandsSo plan s fs es ns → StandsSo plan s gs ds ms
stands_same plan s fs gs es ds ns ms frames switch switched h =
    subst (λ (z : List Exchanged). StandsSo plan s z ds ms) (sym frames) (subst (λ (z : List SwitchEvent). StandsSo plan s fs z ms) (sym switch) (subst (λ (z : List ℕ). StandsSo plan s fs es z) (sym switched) h))

-- no mail was asked of any slave
none_of : (ks : List Keyed) → map as_asked ks ≡ [] → ks ≡ []
none_of [] e = refl
none_of (k ∷ ks) e = absurd (not_none (as_asked k) (map as_asked ks) (sym e))

pub none_asked : (n : ℕ) (ws : List Serves) → map (λ w. map as_asked w.asked) ws ≡ replicate n [] → NoneAsked ws
none_asked n [] e = tt
none_asked zero (w ∷ ws) e = absurd (not_none (map as_asked w.asked) (map (λ w. map as_asked w.asked) ws) (sym e))
none_asked (suc n) (w ∷ ws) e =
    let here = heads (map as_asked w.asked) [] (map (λ w. map as_asked w.asked) ws) (replicate n []) e in
    (none_of w.asked here, none_asked n ws (rests (map as_asked w.asked) [] (map (λ w. map as_asked w.asked) ws) (replicate n []) e))

-- BEFORE THE FIRST FRAME nothing happened at the switch
nothing_yet : (plan : Scenario) (fs : List Exchanged) (missed : ℕ) (ws : List Serves) (l : ServeTo plan fs missed ws) (es : List SwitchEvent) (ns : List ℕ) → fs ≡ [] → ServedNumbered (ports_behind 0 plan.slaves) (ports_of plan.slaves) l es ns → (es ≡ []) × (ns ≡ [])
nothing_yet plan _ _ _ IsServedLed.start es ns none n = n
nothing_yet plan _ _ _ (IsServedLed.asks fs missed ws place k led may) es ns none n = nothing_yet plan fs missed ws led es ns none n
nothing_yet plan _ _ _ (IsServedLed.on fs missed ws f vs led frame) es ns none n = absurd (not_more fs f none)

pub run_first : (plan : Scenario) (s : SessionState) (b : Book) → s ≡ first_session plan 0 s.master → IsNew b → ServingBegins plan s → Stands plan s b
run_first plan s b first new h =
    let none = nothing_yet plan [] h.leading.missed h.leading.serves h.leading.lives (events_of h.rows) h.numbers refl h.numbered in
    stands_same plan s [] (map exchanged b.frames) [] b.switch [] b.switched (ap (map exchanged) new.frames) new.switch new.switched
    (record { serving = h; events = none.0; numbers = none.1; unasked = ap (λ (z : SessionState). z.asked) first })

-- ONE FRAME MORE
pub run_more : (plan : Scenario) (s s' : SessionState) (b b' : Book) (f : SentFrame) (happened : FrameEvents) (h : Stands plan s b) → b'.frames ≡ b.frames ++ f ∷ [] → s'.asked ≡ s.asked → length (map exchanged b.frames) ≡ s.ring.number → IsGrown s.ring.number happened b b' →
    ServesOn plan s s' happened (map exchanged b.frames) (exchanged f) h.serving → Stands plan s' b'
run_more plan s s' b b' f happened h put asked many grown on =
    stands_same plan s' (map exchanged b.frames ++ exchanged f ∷ []) (map exchanged b'.frames) (b.switch ++ (happened.making ++ happened.behind)) b'.switch (b.switched ++ numbers_over s.ring.number happened) b'.switched
    (ap (map exchanged) put ∙ map-append exchanged b.frames (f ∷ [])) grown.switch grown.switched
    (record {
      serving = on.new;
      events = on.events ∙ ap (λ z. z ++ (happened.making ++ happened.behind)) h.events;
      numbers = on.numbers ∙ (λ i. h.numbers i ++ numbers_over (many i) happened);
      unasked = asked ∙ h.unasked;
    })

-- ---- ITS LIVES AND ITS TOUR are those of a run
are_led : (plan : Scenario) (fs : List Exchanged) (missed : ℕ) (ws : List Serves) (t : Tour) → ServeTo plan fs missed ws → ServedTouredTo plan fs t ws → NoneAsked ws → AreLed plan fs
are_led plan fs missed ws t lives toured none =
    let run = run_lives plan fs missed ws lives none in
    let tour = run_tour plan fs t ws toured none in
    record { missed = missed; leads = run.leads; lives = run.lives; tour = tour.tour; toured = (tour_by plan fs t ws toured tour run.leads run.quiet).0 }

pub stands_led : (plan : Scenario) (s : SessionState) (b : Book) → Stands plan s b → AreLed plan (map exchanged b.frames)
stands_led plan s b h =
    let l = h.serving.leading in
    are_led plan (map exchanged b.frames) l.missed l.serves (tour_of s.master) l.lives l.toured (none_asked (length plan.slaves) l.serves (h.serving.asked ∙ h.unasked))

-- with one frame more
pub frame_led : (plan : Scenario) (s : SessionState) (b : Book) (f : Exchanged) (h : Stands plan s b) → LeadsFrame plan s.master (map exchanged b.frames) f h.serving.leading → AreLed plan (map exchanged b.frames ++ f ∷ [])
frame_led plan s b f h x =
    let l = h.serving.leading in
    let lens = lens_of plan.slaves in
    let fs : List Exchanged = map exchanged b.frames in
    let on = λ (n : ℕ). serves_behind lens plan.recover plan.retry n (length fs) f x.turns in
    let toured : ServedTouredTo plan (fs ++ f ∷ []) (tour_behind plan.retry f.fate (map run_lead (on l.missed)) (tour_of s.master) x.visit) (on l.missed) =
    subst (λ (n : ℕ). ServedTouredTo plan (fs ++ f ∷ []) (tour_behind plan.retry f.fate (map run_lead (on n)) (tour_of s.master) x.visit) (on n)) l.shows.missed_is
    (IsTourServed.on fs (tour_of s.master) l.serves f x.turns x.visit l.toured x.frame x.of_tour) in
    are_led plan (fs ++ f ∷ []) _ (on l.missed) _ (IsServedLed.on fs l.missed l.serves f x.turns l.lives x.frame) toured
    (none_behind lens plan.recover plan.retry (gives_up_at lens plan.recover plan.retry l.missed) (length fs) f x.frame.datagrams l.serves x.turns x.frame.each (none_asked (length plan.slaves) l.serves (h.serving.asked ∙ h.unasked)))
