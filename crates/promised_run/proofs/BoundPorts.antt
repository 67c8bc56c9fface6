-- The packets that wait for the slaves of a run, by a frame that came back with no mail accepted and no packet of the host.
use Rattle.std.proofs.Common.{◌≡◌, ℕ, zero, suc, ◌==◌, Bool, true, false, Option, Some, None, List, [], ◌∷◌, ◌++◌, drop, refl, sym, ap, ◌∙◌, if◌then◌else◌, append-nil, eq-eqb}
use Rattle.std.specs.Prelude.{◌||◌, slice_get, All, ⊤}
use Rattle.std.proofs.lemmas.Bool.{eqb-true}
use Rattle.std.proofs.lemmas.List.Elements.{All-head, All-tail}
use Rattle.arrayvec.specs.ArrayVec.{ArrayVec}
use Rattle.run_promises.specs.of_eoe_switch.Switch.{Switched, Flow, flow_behind, flow_of, switched, changed, queue_of, queue_at}
use Rattle.run_promises.specs.of_eoe_switch.declared.port.Port.{Port}
use Rattle.run_promises.specs.of_eoe_switch.declared.switching.SwitchEvent.{SwitchEvent}
use Rattle.run_promises.specs.of_eoe_switch.declared.switching.SwitchEvent.TheVariants.{Arrive, Begun, Down}
use Rattle.run_promises.specs.of_life_runs.Led.{Exchanged, Turn}
use Rattle.run_promises.specs.of_master_node.Begins.{begun_of, switch_on, switch_behind, taken_in}
use Rattle.run_promises.specs.of_master_node.Forwards.{port_by, waiting_by}
use Rattle.run_promises.specs.of_master_node.Made.{IsOfMaking}
use Rattle.run_promises.specs.of_master_node.Ports.{ports_behind, ports_of}
use Rattle.run_promises.specs.of_packets_heard.Over.{packet_begun}
use Rattle.run_promises.proofs.of_packets_heard.Follows.{all_at, flow_switch}
use Rattle.run_promises.proofs.of_packets_heard.PacketsRuns.{frame_all}
use Rattle.run_promises.proofs.of_packets_heard.Owns.{own_port}
use Rattle.run_promises.specs.of_packets_heard.Recalled.{AtSwitch, enters, has_entered}
use Rattle.run_promises.specs.of_segment_plan.declared.plan.Scenario.{Scenario}
use Rattle.promised_run.specs.Runs.{waiting_at}

-- ---- a port that is changed
changed_later : (f : Port → Port) (p : Port) (ps : List Port) (at : ℕ) (o : Option Port) → changed f (p ∷ ps) (suc at) o ≡ p ∷ changed f ps at o
changed_later f p ps at None = refl
changed_later f p ps at (Some q) = refl

abbrev began : Port → Port
began p = record p { queue = drop 1 p.queue }

empty_change : (ps : List Port) (at k : ℕ) → queue_of (slice_get ps k) ≡ [] → queue_of (slice_get (changed (λ (p : Port). record p { queue = drop 1 p.queue }) ps at (slice_get ps at)) k) ≡ []
empty_change [] at k e = e
empty_change (p ∷ ps) zero zero e = ap (λ (q : List (ArrayVec ℕ)). drop 1 q) e
empty_change (p ∷ ps) zero (suc k) e = e
empty_change (p ∷ ps) (suc at) zero e = ap (λ (l : List Port). queue_of (slice_get l 0)) (changed_later (λ (p : Port). record p { queue = drop 1 p.queue }) p ps at (slice_get ps at)) ∙ e
empty_change (p ∷ ps) (suc at) (suc k) e = ap (λ (l : List Port). queue_of (slice_get l (suc k))) (changed_later (λ (p : Port). record p { queue = drop 1 p.queue }) p ps at (slice_get ps at)) ∙ empty_change ps at k e

other_change : (ps : List Port) (at k : ℕ) → (at ≡ k → ⊥) → slice_get (changed (λ (p : Port). record p { queue = drop 1 p.queue }) ps at (slice_get ps at)) k ≡ slice_get ps k
other_change [] at k e = refl
other_change (p ∷ ps) zero zero e = absurd (e refl)
other_change (p ∷ ps) zero (suc k) e = refl
other_change (p ∷ ps) (suc at) zero e = ap (λ (l : List Port). slice_get l 0) (changed_later (λ (p : Port). record p { queue = drop 1 p.queue }) p ps at (slice_get ps at))
other_change (p ∷ ps) (suc at) (suc k) e = ap (λ (l : List Port). slice_get l (suc k)) (changed_later (λ (p : Port). record p { queue = drop 1 p.queue }) p ps at (slice_get ps at)) ∙ other_change ps at k (λ same. e (ap suc same))

-- ---- only packets begin
abbrev IsBegun : SwitchEvent → Type 0
IsBegun (Arrive port packet) = ⊥
IsBegun (Begun port) = ⊤
IsBegun (Down port) = ⊥

abbrev AllBegun : List SwitchEvent → Type 0
AllBegun [] = ⊤
AllBegun (e ∷ es) = IsBegun e × AllBegun es

one_begun : (e : SwitchEvent) → IsOfMaking e → enters e ≡ false → IsBegun e
one_begun (Arrive port packet) i n = (let both : true ≡ false = sym (eq-eqb port 0 i) ∙ n in cc)
one_begun (Begun port) i n = tt
one_begun (Down port) i n = i

left_false : (a b : Bool) → (a || b) ≡ false → a ≡ false
left_false true b e = absurd (cc)
left_false false b e = refl

right_false : (a b : Bool) → (a || b) ≡ false → b ≡ false
right_false true b e = absurd (cc)
right_false false b e = e

all_begun : (es : List SwitchEvent) → All IsOfMaking es → has_entered es ≡ false → AllBegun es
all_begun [] a n = tt
all_begun (e ∷ es) a n = (one_begun e (All-head IsOfMaking e es a) (left_false (enters e) (has_entered es) n), all_begun es (All-tail IsOfMaking e es a) (right_false (enters e) (has_entered es) n))

empty_behind : (p : ℕ) (s : Switched) (es : List SwitchEvent) → AllBegun es → queue_at s p ≡ [] → queue_at (switch_behind s es) p ≡ []
empty_behind p s [] a e = e
empty_behind p s (Arrive port packet ∷ es) a e = absurd a.0
empty_behind p s (Begun port ∷ es) a e = empty_behind p (switch_on s (Begun port)) es a.1 (empty_change s.ports port p e)
empty_behind p s (Down port ∷ es) a e = absurd a.0

some_left : {X Y : Type 0} (x : X) (xs : List X) → x ∷ xs ≡ [] → Y
some_left x xs e = absurd (cc)

rest_none : {X : Type 0} (xs ys : List X) → xs ++ ys ≡ [] → ys ≡ []
rest_none [] ys e = e
rest_none (x ∷ xs) ys e = absurd (cc)

-- where none is taken at a port, those that wait go on waiting
full_behind : (p : ℕ) (s : Switched) (es : List SwitchEvent) → AllBegun es → all_at p (taken_in s es) ≡ [] → (x : ArrayVec ℕ) (xs : List (ArrayVec ℕ)) → queue_at s p ≡ x ∷ xs → queue_at (switch_behind s es) p ≡ x ∷ xs
full_behind p s [] a none x xs e = e
full_behind p s (Arrive port packet ∷ es) a none x xs e = absurd a.0
full_behind p s (Down port ∷ es) a none x xs e = absurd a.0
full_behind p s (Begun port ∷ es) a none x xs e = go (port == p) refl (λ quiet same. full_behind p (switch_on s (Begun port)) es a.1 quiet x xs same)
  where
    there : Option (ArrayVec ℕ) → List (ArrayVec ℕ)
    there o = all_at p (record { port = Some port; packet = o } ∷ [])

    whole : there (slice_get (queue_at s port) 0) ++ all_at p (taken_in (switch_on s (Begun port)) es) ≡ []
    whole = ap (λ z. z ++ all_at p (taken_in (switch_on s (Begun port)) es)) (append-nil _) ∙ none

    go : (b : Bool) → (port == p) ≡ b → (all_at p (taken_in (switch_on s (Begun port)) es) ≡ [] → queue_at (switch_on s (Begun port)) p ≡ x ∷ xs → queue_at (switch_behind s (Begun port ∷ es)) p ≡ x ∷ xs) → queue_at (switch_behind s (Begun port ∷ es)) p ≡ x ∷ xs
    go true same on =
        let first : slice_get (queue_at s port) 0 ≡ Some x = ap (λ n. slice_get (queue_at s n) 0) (eqb-true port p same) ∙ ap (λ (q : List (ArrayVec ℕ)). slice_get q 0) e in
        some_left x (all_at p (taken_in (switch_on s (Begun port)) es))
        (sym (ap (λ o. there o ++ all_at p (taken_in (switch_on s (Begun port)) es)) first ∙ ap (λ (b : Bool). ((if b then x ∷ [] else []) ++ []) ++ all_at p (taken_in (switch_on s (Begun port)) es)) same) ∙ whole)
    go false other on =
        on (rest_none (there (slice_get (queue_at s port) 0)) (all_at p (taken_in (switch_on s (Begun port)) es)) whole) (ap queue_of (other_change s.ports port p (λ same. (let both : true ≡ false = sym (eq-eqb port p same) ∙ other in cc))) ∙ e)

-- ---- the switch behind more events
flow_append : (flow : Flow) (xs ys : List SwitchEvent) → flow_of flow (xs ++ ys) ≡ flow_of (flow_of flow xs) ys
flow_append flow [] ys = refl
flow_append flow (x ∷ xs) ys = flow_append (flow_behind flow x) xs ys

switched_more : (many : ℕ) (xs ys : List SwitchEvent) → (switched many (xs ++ ys)).switch ≡ switch_behind (switched many xs).switch ys
switched_more many xs ys = ap (λ (f : Flow). f.switch) (flow_append _ xs ys) ∙ flow_switch (switched many xs) ys

-- ---- ONE FRAME
module _ (plan : Scenario) (f : Exchanged) (us : List Turn) (old new : List SwitchEvent) (z : AtSwitch plan f us old new) (closed : has_entered z.making ≡ false) where
  abbrev many : ℕ
  many = ports_of plan.slaves

  abbrev ports : List (Option ℕ)
  ports = ports_behind 0 plan.slaves

  begun : AllBegun z.making
  begun = all_begun z.making z.only closed

  abbrev Waits : List SwitchEvent → Option ℕ → List (ArrayVec ℕ)
  Waits es o = waiting_by (switched (ports_of plan.slaves) es).switch o

  -- no more than before, where no mail was accepted
  module _ (quiet : z.behind ≡ []) where
    new_is : new ≡ old ++ z.making
    new_is = z.whole ∙ ap (λ es. old ++ (z.making ++ es)) quiet ∙ ap (λ es. old ++ es) (append-nil z.making)

    none_on : (o : Option ℕ) → Waits old o ≡ [] → Waits new o ≡ []
    none_on None e = refl
    none_on (Some p) e =
        ap (λ es. queue_at (switched many es).switch p) new_is ∙ ap (λ s. queue_at s p) (switched_more many old z.making) ∙ empty_behind p (switched many old).switch z.making begun e

    pub none_more : (k : ℕ) → waiting_at plan old k ≡ [] → waiting_at plan new k ≡ []
    none_more k e = none_on (port_by (slice_get ports k)) e

  -- and where nothing came into hand of a slave, as many as behind the making
  pub none_before : (k : ℕ) → begun_of us k ≡ None → waiting_at plan (old ++ z.making) k ≡ [] → waiting_at plan old k ≡ []
  none_before k idle none = by (port_by (slice_get ports k)) refl none
    where
      taken : (p : ℕ) → port_by (slice_get ports k) ≡ Some p → all_at p (taken_in (switched many old).switch z.making) ≡ []
      taken p e =
          ap (all_at p) z.taken ∙ frame_all ports k p (own_port plan.slaves k p e) (begun_of us) z.visited z.once z.others ∙ ap packet_begun idle

      at_port : (p : ℕ) → port_by (slice_get ports k) ≡ Some p → (q : List (ArrayVec ℕ)) → queue_at (switched many old).switch p ≡ q → queue_at (switched many (old ++ z.making)).switch p ≡ [] → q ≡ []
      at_port p e [] is gone = refl
      at_port p e (x ∷ xs) is gone =
          some_left x xs (sym (full_behind p (switched many old).switch z.making begun (taken p e) x xs is) ∙ ap (λ s. queue_at s p) (sym (switched_more many old z.making)) ∙ gone)

      by : (o : Option ℕ) → port_by (slice_get ports k) ≡ o → Waits (old ++ z.making) o ≡ [] → Waits old o ≡ []
      by None e gone = refl
      by (Some p) e gone = at_port p e (queue_at (switched many old).switch p) refl gone
