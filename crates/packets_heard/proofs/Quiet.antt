-- Where a service that is no packet comes into hand, none waits at its slave's port.
use Rattle.std.proofs.Common.{◌≡◌, ◌≤◌, ◌<◌, ℕ, suc, ◌+◌, Bool, true, false, Option, Some, List, [], ◌∷◌, ◌++◌, map, length, length-append, refl, sym, ap, subst, ◌∙◌, arith, append-nil}
use Rattle.std.specs.Prelude.{All}
use Rattle.std.proofs.lemmas.List.Elements.{All-nil, All-cons, All-head, All-tail, All-append}
use Rattle.master_node.specs.of_eoe_switch.Switch.{switched}
use Rattle.master_node.specs.of_eoe_switch.declared.switching.SwitchEvent.{SwitchEvent}
use Rattle.master_node.specs.of_frame_view.View.{Lens}
use Rattle.master_node.specs.of_life_runs.Led.{Exchanged, Leads, Turn, IsLed}
use Rattle.master_node.specs.Begins.{begins_other, begun_of}
use Rattle.master_node.specs.Forwards.{waiting_by}
use Rattle.master_node.specs.Serving.{run_turn}
use Rattle.packets_heard.specs.Numbers.{NoneWaits, Numbered, NumberedOn, each_with, events_up_to, frame_where, frames_other}
use Rattle.packets_heard.proofs.Counts.{up_all, up_more, up_none}
use Rattle.packets_heard.proofs.Numbers.{numbered_many, serving_numbered}
use Rattle.packets_heard.specs.Listed.{IsOwn, Listed}
use Rattle.packets_heard.specs.Over.{AreBegun}
use Rattle.packets_heard.specs.Servings.{AreServedBegun, ServedListed, ServedNumbered, served_other}
use Rattle.master_node.specs.of_life_runs.Served.{Serves, IsServedLed}

-- of each of them
weaker : (P Q : ℕ → Type 0) → ((j : ℕ) → P j → Q j) → (js : List ℕ) → All P js → All Q js
weaker P Q h [] a = All-nil Q
weaker P Q h (j ∷ js) a = All-cons Q j js (h j (All-head P j js a)) (weaker P Q h js (All-tail P j js a))

-- a frame of a run, up to which nothing waits at a port
abbrev QuietFor : ℕ → ℕ → ℕ → List SwitchEvent → List ℕ → ℕ → Type 0
QuietFor many p count es ns frame = (frame < count) × NoneWaits many p (events_up_to frame es ns)

-- ---- ONE FRAME MORE, where each event before it has its number, and up to it there are all of these
module _ (listed begun : List SwitchEvent → Type 0) (before : List SwitchEvent → List ℕ → Type 0) (ports : List (Option ℕ)) (many made : ℕ) (us : List Turn) (es : List SwitchEvent) (ns : List ℕ) (x : NumberedOn listed begun before ports many made us es ns)
    (long : length x.step.old ≡ length x.numbers) (old_up : (frame : ℕ) → made ≤ frame → events_up_to frame x.step.old x.numbers ≡ x.step.old) where
  split : (frame : ℕ) →
      events_up_to frame es ns ≡ events_up_to frame x.step.old x.numbers ++ (events_up_to frame x.step.making (each_with made x.step.making) ++ events_up_to frame x.step.behind (each_with (suc made) x.step.behind))
  split frame = (λ i. events_up_to frame (x.step.whole i) (x.counted i)) ∙ up_more frame x.step.old x.step.making x.step.behind x.numbers made long

  frame_up : (frame : ℕ) → suc made ≤ frame → events_up_to frame es ns ≡ es
  frame_up frame l =
      split frame
      ∙ (λ i. old_up frame (omega (arith, l)) i ++ (up_all frame made x.step.making (omega (arith, l)) i ++ up_all frame (suc made) x.step.behind l i))
      ∙ sym x.step.whole

  ahead : (frame : ℕ) → frame < made → events_up_to frame es ns ≡ events_up_to frame x.step.old x.numbers
  ahead frame l =
      split frame ∙ (λ i. events_up_to frame x.step.old x.numbers ++ (up_none frame made x.step.making l i ++ up_none frame (suc made) x.step.behind (omega (arith, l)) i))
      ∙ append-nil (events_up_to frame x.step.old x.numbers)

  now : events_up_to made es ns ≡ x.step.old ++ x.step.making
  now =
      split made ∙ (λ i. old_up made (omega arith) i ++ (up_all made made x.step.making (omega arith) i ++ up_none made (suc made) x.step.behind (omega arith) i))
      ∙ ap (λ z. x.step.old ++ z) (append-nil x.step.making)

  frame_quiet : (k p next : ℕ) → IsOwn ports k p → next ≡ suc made → (frames : List ℕ) → All (QuietFor many p made x.step.old x.numbers) frames → All (QuietFor many p next es ns) (frames ++ frame_where (begins_other (begun_of us k)) made)
  frame_quiet k p next own is frames all =
      All-append Now frames (frame_where (begins_other (begun_of us k)) made)
      (weaker (QuietFor many p made x.step.old x.numbers) Now (λ j q. (omega (arith, q.0, is), subst (λ z. NoneWaits many p z) (sym (ahead j q.0)) q.1)) frames all) (here (begins_other (begun_of us k)) refl)
    where
      Now : ℕ → Type 0
      Now j = QuietFor many p next es ns j

      here : (b : Bool) → begins_other (begun_of us k) ≡ b → All Now (frame_where b made)
      here false e = All-nil Now
      here true e =
          let none : waiting_by (switched many (x.step.old ++ x.step.making)).switch (Some p) ≡ [] = subst (λ (o : Option ℕ). waiting_by (switched many (x.step.old ++ x.step.making)).switch o ≡ []) own.has (x.step.quiet k e) in
          All-cons Now made [] (omega (arith, is), subst (λ z. NoneWaits many p z) (sym now) none) (All-nil Now)

one_longer : (fs : List Exchanged) (f : Exchanged) → length (fs ++ f ∷ []) ≡ suc (length fs)
one_longer fs f = let long = length-append fs (f ∷ []) in omega (arith, long)

module _ {lens : ℕ → Lens} {recover retry : ℕ} (ports : List (Option ℕ)) (many : ℕ) where
  -- up to the frames of a run there are all of its events
  whole_up : {first : List Leads} {fs : List Exchanged} {missed : ℕ} {as' : List Leads} (led : IsLed lens recover retry first fs missed as') (es : List SwitchEvent) (ns : List ℕ) → Numbered ports many led es ns → (frame : ℕ) → length fs ≤ frame → events_up_to frame es ns ≡ es
  whole_up IsLed.start es ns x frame l = (λ i. events_up_to frame (x.0 i) (x.1 i)) ∙ sym x.0
  whole_up (IsLed.on fs missed as' f us led frame') es ns x frame l =
      frame_up (λ old. Listed lens recover retry ports led old) (λ old. AreBegun ports many led old) (λ old numbers. Numbered ports many led old numbers) ports many (length fs) us es ns x (numbered_many ports many led x.step.old x.numbers x.was)
      (whole_up led x.step.old x.numbers x.was) frame (subst (λ n. n ≤ frame) (one_longer fs f) l)

  -- and to those of a serving
  serving_up : {first : List Serves} {fs : List Exchanged} {missed : ℕ} {ws : List Serves} (led : IsServedLed lens recover retry first fs missed ws) (es : List SwitchEvent) (ns : List ℕ) → ServedNumbered ports many led es ns → (frame : ℕ) → length fs ≤ frame → events_up_to frame es ns ≡ es
  serving_up IsServedLed.start es ns x frame l = (λ i. events_up_to frame (x.0 i) (x.1 i)) ∙ sym x.0
  serving_up (IsServedLed.asks fs missed ws place key led may) es ns x frame l = serving_up led es ns x frame l
  serving_up (IsServedLed.on fs missed ws f vs led frame') es ns x frame l =
      frame_up (λ old. ServedListed ports led old) (λ old. AreServedBegun ports many led old) (λ old numbers. ServedNumbered ports many led old numbers) ports many (length fs) (map run_turn vs) es ns x (serving_numbered ports many led x.step.old x.numbers x.was)
      (serving_up led x.step.old x.numbers x.was) frame (subst (λ n. n ≤ frame) (one_longer fs f) l)

  module _ (k p : ℕ) (own : IsOwn ports k p) where
    quiet_run : {first : List Leads} {fs : List Exchanged} {missed : ℕ} {as' : List Leads} (led : IsLed lens recover retry first fs missed as') (es : List SwitchEvent) (ns : List ℕ) → Numbered ports many led es ns → All (QuietFor many p (length fs) es ns) (frames_other led k)
    quiet_run IsLed.start es ns x = All-nil (QuietFor many p 0 es ns)
    quiet_run (IsLed.on fs missed as' f us led frame) es ns x =
        frame_quiet (λ old. Listed lens recover retry ports led old) (λ old. AreBegun ports many led old) (λ old numbers. Numbered ports many led old numbers) ports many (length fs) us es ns x (numbered_many ports many led x.step.old x.numbers x.was)
        (whole_up led x.step.old x.numbers x.was) k p (length (fs ++ f ∷ [])) own (one_longer fs f) (frames_other led k) (quiet_run led x.step.old x.numbers x.was)

    quiet_serving : {first : List Serves} {fs : List Exchanged} {missed : ℕ} {ws : List Serves} (led : IsServedLed lens recover retry first fs missed ws) (es : List SwitchEvent) (ns : List ℕ) → ServedNumbered ports many led es ns → All (QuietFor many p (length fs) es ns) (served_other led k)
    quiet_serving IsServedLed.start es ns x = All-nil (QuietFor many p 0 es ns)
    quiet_serving (IsServedLed.asks fs missed ws place key led may) es ns x = quiet_serving led es ns x
    quiet_serving (IsServedLed.on fs missed ws f vs led frame) es ns x =
        frame_quiet (λ old. ServedListed ports led old) (λ old. AreServedBegun ports many led old) (λ old numbers. ServedNumbered ports many led old numbers) ports many (length fs) (map run_turn vs) es ns x (serving_numbered ports many led x.step.old x.numbers x.was)
        (serving_up led x.step.old x.numbers x.was) k p (length (fs ++ f ∷ [])) own (one_longer fs f) (served_other led k) (quiet_serving led x.step.old x.numbers x.was)

    -- OVER A RUN nothing waits there, up to each frame before which another service came into hand
    pub run_quiet : {first : List Leads} {fs : List Exchanged} {missed : ℕ} {as' : List Leads} (led : IsLed lens recover retry first fs missed as') (es : List SwitchEvent) (ns : List ℕ) → Numbered ports many led es ns →
        All (λ frame. NoneWaits many p (events_up_to frame es ns)) (frames_other led k)
    run_quiet {fs = fs} led es ns x = weaker (QuietFor many p (length fs) es ns) (λ frame. NoneWaits many p (events_up_to frame es ns)) (λ j q. q.1) (frames_other led k) (quiet_run led es ns x)

    -- and over a serving
    pub serving_quiet : {first : List Serves} {fs : List Exchanged} {missed : ℕ} {ws : List Serves} (led : IsServedLed lens recover retry first fs missed ws) (es : List SwitchEvent) (ns : List ℕ) → ServedNumbered ports many led es ns →
        All (λ frame. NoneWaits many p (events_up_to frame es ns)) (served_other led k)
    serving_quiet {fs = fs} led es ns x = weaker (QuietFor many p (length fs) es ns) (λ frame. NoneWaits many p (events_up_to frame es ns)) (λ j q. q.1) (served_other led k) (quiet_serving led es ns x)
