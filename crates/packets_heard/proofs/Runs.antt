-- The events at a slave's port over a run.
use Rattle.std.proofs.Common.{◌≡◌, ℕ, zero, suc, ◌+◌, Bool, true, false, Option, List, [], ◌∷◌, ◌++◌, map, length, refl, sym, ap, ◌∙◌, arith, append-nil}
use Rattle.std.specs.Prelude.{◌&&◌, not, if◌then◌else◌}
use Rattle.master_node.specs.of_eoe_switch.declared.switching.SwitchEvent.{SwitchEvent}
use Rattle.master_node.specs.of_frame_view.View.{Lens}
use Rattle.master_node.specs.of_frame_view.Seen.{seen}
use Rattle.master_node.specs.of_life_runs.Led.{Exchanged, Leads, Turn, IsLed, led_behind, gives_up_at}
use Rattle.master_node.specs.of_master_hand.Joins.{packets_in}
use Rattle.master_node.specs.Arrivals.{completed_at}
use Rattle.master_node.specs.Downs.{goes_down}
use Rattle.master_node.specs.Happened.{arrivals_at}
use Rattle.master_node.specs.Serving.{run_lead, run_turn}
use Rattle.master_node.specs.Shows.{is_carried, is_live_lead, is_live_turn}
use Rattle.master_node.proofs.Servings.{leads_same}
use Rattle.master_node.specs.of_master_tour.Goes.{holds_at}
use Rattle.master_node.specs.of_master_tour.Made.{is_in}
use Rattle.packets_heard.specs.Heard.{Joined, joined_in, joined_on, joined_none, mails_by}
use Rattle.master_node.specs.of_segment_ring.declared.wire.Fate.{Fate}
use Rattle.master_node.specs.of_segment_ring.declared.wire.Fate.TheVariants.{Pass, Lost}
use Rattle.packets_heard.specs.Listed.{downs_at, long_ones, packets_at, unfinished_of, IsOwn, packets_by, listed_behind, Listed, ListedOn}
use Rattle.packets_heard.specs.Servings.{ServedListed, served_joined}
use Rattle.master_node.specs.of_life_runs.Served.{Serves, IsServedLed, served_behind}
use Rattle.packets_heard.proofs.Lives.{pass_lives, lost_carried, lost_gone, turn_lives, serving_carried, serving_gone, serving_lives, serving_pass}
use Rattle.packets_heard.proofs.Ports.{once_if, downs_append, arrivals_append, long_append, making_downs, making_arrivals, downs_bring, arrivals_take, downs_visit, arrivals_visit}

-- how often the port of a slave went down that is live, or isn't
abbrev down_if : Bool → ℕ
down_if live = if live then 0 else 1

count : (inside turn behind : Bool) → ((turn && not behind) ≡ true → inside ≡ true) → (turn ≡ false → behind ≡ false) → down_if turn + (0 + (if inside then once_if (turn && not behind) else 0)) ≡ down_if behind
count true true true h g = refl
count true true false h g = refl
count true false true h g = absurd (let bad : true ≡ false = g refl in cc)
count true false false h g = refl
count false true true h g = refl
count false true false h g = absurd (let bad : false ≡ true = h refl in cc)
count false false true h g = absurd (let bad : true ≡ false = g refl in cc)
count false false false h g = refl

-- ---- the packets of a slave, behind a frame
none_packets : (as' : List Leads) (k : ℕ) → packets_at (joined_none as') k ≡ []
none_packets [] k = refl
none_packets (a ∷ as') zero = refl
none_packets (a ∷ as') (suc k) = none_packets as' k

module _ (lens : ℕ → Lens) (recover retry : ℕ) (ports : List (Option ℕ)) where
  no_more : (f : Exchanged) (fate : Fate) (js : List Joined) (k : ℕ) → packets_by lens recover retry ports f fate [] js k ≡ []
  no_more f Pass js k = refl
  no_more f (Lost after) js k = refl

  none_joined : (f : Exchanged) (fate : Fate) (us : List Turn) (k : ℕ) → [] ≡ packets_by lens recover retry ports f fate us [] k
  none_joined f Pass [] k = refl
  none_joined f Pass (u ∷ us) k = refl
  none_joined f (Lost after) us k = refl

  more_here : (f : Exchanged) (fate : Fate) (j : Joined) (js : List Joined) (u : Turn) (us : List Turn) → packets_in j.unfinished (mails_by lens f fate u) ≡ packets_by lens recover retry ports f fate (u ∷ us) (j ∷ js) 0
  more_here f Pass j js u us = refl
  more_here f (Lost after) j js u us = refl

  more_there : (f : Exchanged) (fate : Fate) (j : Joined) (js : List Joined) (u : Turn) (us : List Turn) (k : ℕ) → packets_by lens recover retry ports f fate us js k ≡ packets_by lens recover retry ports f fate (u ∷ us) (j ∷ js) (suc k)
  more_there f Pass j js u us k = refl
  more_there f (Lost after) j js u us k = refl

  pub packets_more : (f : Exchanged) (js : List Joined) (us : List Turn) (k : ℕ) → packets_at (joined_on lens f js us) k ≡ packets_at js k ++ packets_by lens recover retry ports f f.fate us js k
  packets_more f [] us k = none_joined f f.fate us k
  packets_more f (j ∷ js) [] k = sym (append-nil (packets_at (j ∷ js) k)) ∙ ap (λ z. packets_at (j ∷ js) k ++ z) (sym (no_more f f.fate (j ∷ js) k))
  packets_more f (j ∷ js) (u ∷ us) zero = ap (λ z. j.packets ++ z) (more_here f f.fate j js u us)
  packets_more f (j ∷ js) (u ∷ us) (suc k) = packets_more f js us k ∙ ap (λ z. packets_at js k ++ z) (more_there f f.fate j js u us k)

  module _ (k p : ℕ) (own : IsOwn ports k p) where
    -- HOW OFTEN A PORT WENT DOWN, with one frame more
    frame_downs : (before : List SwitchEvent → Type 0) (f : Exchanged) (us : List Turn) (leads : List Leads) (js : List Joined) (es : List SwitchEvent) → (x : ListedOn lens recover retry ports before f us leads js es) → downs_at p x.old ≡ down_if (holds_at is_live_turn us k) →
        (f.fate ≡ Pass → holds_at is_live_lead leads k ≡ holds_at is_live_turn us k) → ((after : ℕ) → f.fate ≡ Lost after → goes_down us leads k ≡ true → holds_at is_carried us k ≡ true) →
        ((after : ℕ) → f.fate ≡ Lost after → holds_at is_live_turn us k ≡ false → holds_at is_live_lead leads k ≡ false) → downs_at p es ≡ down_if (holds_at is_live_lead leads k)
    frame_downs before f us leads js es x old pass carried gone =
        ap (λ z. downs_at p z) x.whole ∙ downs_append p x.old (x.making ++ behind f.fate) ∙ (λ i. old i + downs_append p x.making (behind f.fate) i)
        ∙ (λ i. down_if (holds_at is_live_turn us k) + (making_downs p x.making x.only i + downs_at p (behind f.fate))) ∙ by f.fate refl
      where
        behind : Fate → List SwitchEvent
        behind fate = listed_behind lens recover retry ports f fate us leads js x.visit

        by : (fate : Fate) → f.fate ≡ fate → down_if (holds_at is_live_turn us k) + (0 + downs_at p (behind fate)) ≡ down_if (holds_at is_live_lead leads k)
        by Pass e =
            let none = arrivals_take ports p (λ q. completed_at (seen lens f.back) us (unfinished_of js) q) x.visit in
            let same : down_if (holds_at is_live_lead leads k) ≡ down_if (holds_at is_live_turn us k) = ap down_if (pass e) in
            omega (arith, none, same)
        by (Lost after) e =
            ap (λ n. down_if (holds_at is_live_turn us k) + (0 + n)) (downs_visit ports k p own (λ q. goes_down us leads q) x.visit x.carries.once)
            ∙ count (is_in k x.visit) (holds_at is_live_turn us k) (holds_at is_live_lead leads k) (λ g. x.carries.all k (carried after e g)) (gone after e)

    -- over a run
    pub run_downs : {first : List Leads} {fs : List Exchanged} {missed : ℕ} {as' : List Leads} (led : IsLed lens recover retry first fs missed as') (es : List SwitchEvent) → holds_at is_live_lead first k ≡ true → Listed lens recover retry ports led es →
        downs_at p es ≡ down_if (holds_at is_live_lead as' k)
    run_downs IsLed.start es live x = ap (λ z. downs_at p z) x ∙ ap down_if (sym live)
    run_downs (IsLed.on fs missed as' f us led frame) es live x =
        let gives = gives_up_at lens recover retry missed in
        frame_downs (λ old. Listed lens recover retry ports led old) f us (map (led_behind lens recover retry (gives_up_at lens recover retry missed) (length fs) f) us) (joined_in led) es x
        (run_downs led x.old live x.was ∙ ap down_if (sym (turn_lives lens (length fs) frame.datagrams as' us frame.each k))) (λ e. pass_lives lens recover retry gives (length fs) f e us k)
        (λ after e g. lost_carried lens recover retry gives (length fs) f after e us k g) (λ after e g. lost_gone lens recover retry gives (length fs) f after e frame.datagrams as' us frame.each k g)

    -- and over a serving
    pub serving_downs : {first : List Serves} {fs : List Exchanged} {missed : ℕ} {ws : List Serves} (led : IsServedLed lens recover retry first fs missed ws) (es : List SwitchEvent) → holds_at is_live_lead (map run_lead first) k ≡ true → ServedListed ports led es →
        downs_at p es ≡ down_if (holds_at is_live_lead (map run_lead ws) k)
    serving_downs IsServedLed.start es live x = ap (λ z. downs_at p z) x ∙ ap down_if (sym live)
    serving_downs (IsServedLed.asks fs missed ws place key led may) es live x = serving_downs led es live x ∙ ap (λ (as' : List Leads). down_if (holds_at is_live_lead as' k)) (sym (leads_same (λ (a : Leads). a) place key ws))
    serving_downs (IsServedLed.on fs missed ws f vs led frame) es live x =
        let gives = gives_up_at lens recover retry missed in
        frame_downs (λ old. ServedListed ports led old) f (map run_turn vs) (map run_lead (map (served_behind lens recover retry (gives_up_at lens recover retry missed) (length fs) f) vs)) (served_joined led) es x
        (serving_downs led x.old live x.was ∙ ap down_if (sym (serving_lives lens (length fs) frame.datagrams ws vs frame.each k))) (λ e. serving_pass lens recover retry gives (length fs) f e vs k)
        (λ after e g. serving_carried lens recover retry gives (length fs) f after e vs k g) (λ after e g. serving_gone lens recover retry gives (length fs) f after e (length fs) frame.datagrams ws vs frame.each k g)

    -- WHAT CAME IN THERE, with one frame more
    frame_arrivals : (before : List SwitchEvent → Type 0) (f : Exchanged) (us : List Turn) (leads : List Leads) (js : List Joined) (es : List SwitchEvent) → (x : ListedOn lens recover retry ports before f us leads js es) → arrivals_at p x.old ≡ long_ones (packets_at js k) →
        arrivals_at p es ≡ long_ones (packets_at (joined_on lens f js us) k)
    frame_arrivals before f us leads js es x old =
        ap (λ z. arrivals_at p z) x.whole ∙ arrivals_append p x.old (x.making ++ behind f.fate) ∙ (λ i. old i ++ arrivals_append p x.making (behind f.fate) i)
        ∙ (λ i. long_ones (packets_at js k) ++ (making_arrivals p x.making own.behind x.only i ++ arrivals_at p (behind f.fate))) ∙ ap (λ z. long_ones (packets_at js k) ++ z) (by f.fate refl)
        ∙ sym (long_append (packets_at js k) (packets f.fate k)) ∙ ap long_ones (sym (packets_more f js us k))
      where
        packets : Fate → ℕ → List (List ℕ)
        packets fate q = packets_by lens recover retry ports f fate us js q

        behind : Fate → List SwitchEvent
        behind fate = listed_behind lens recover retry ports f fate us leads js x.visit

        inside : (b : Bool) → is_in k x.visit ≡ b → (if b then long_ones (packets f.fate k) else []) ≡ long_ones (packets f.fate k)
        inside true e = refl
        inside false e = sym (ap long_ones (x.carries.quiet k e))

        by : (fate : Fate) → f.fate ≡ fate → arrivals_at p (behind fate) ≡ long_ones (packets fate k)
        by Pass e =
            let here : (if is_in k x.visit then long_ones (packets f.fate k) else []) ≡ long_ones (packets f.fate k) = inside (is_in k x.visit) refl in
            arrivals_visit ports k p own (λ q. completed_at (seen lens f.back) us (unfinished_of js) q) x.visit x.carries.once
            ∙ ap (λ (z : Fate). if is_in k x.visit then long_ones (packets z k) else []) (sym e) ∙ here ∙ ap (λ (z : Fate). long_ones (packets z k)) e
        by (Lost after) e = downs_bring ports p (λ q. goes_down us leads q) x.visit

    -- over a run
    pub run_arrivals : {first : List Leads} {fs : List Exchanged} {missed : ℕ} {as' : List Leads} (led : IsLed lens recover retry first fs missed as') (es : List SwitchEvent) → Listed lens recover retry ports led es → arrivals_at p es ≡ long_ones (packets_at (joined_in led) k)
    run_arrivals {first = first} IsLed.start es x = ap (λ z. arrivals_at p z) x ∙ sym (ap long_ones (none_packets first k))
    run_arrivals (IsLed.on fs missed as' f us led frame) es x =
        frame_arrivals (λ old. Listed lens recover retry ports led old) f us (map (led_behind lens recover retry (gives_up_at lens recover retry missed) (length fs) f) us) (joined_in led) es x (run_arrivals led x.old x.was)

    -- and over a serving
    pub serving_arrivals : {first : List Serves} {fs : List Exchanged} {missed : ℕ} {ws : List Serves} (led : IsServedLed lens recover retry first fs missed ws) (es : List SwitchEvent) → ServedListed ports led es → arrivals_at p es ≡ long_ones (packets_at (served_joined led) k)
    serving_arrivals {first = first} IsServedLed.start es x = ap (λ z. arrivals_at p z) x ∙ sym (ap long_ones (none_packets (map run_lead first) k))
    serving_arrivals (IsServedLed.asks fs missed ws place key led may) es x = serving_arrivals led es x
    serving_arrivals (IsServedLed.on fs missed ws f vs led frame) es x =
        frame_arrivals (λ old. ServedListed ports led old) f (map run_turn vs) (map run_lead (map (served_behind lens recover retry (gives_up_at lens recover retry missed) (length fs) f) vs)) (served_joined led) es x (serving_arrivals led x.old x.was)
