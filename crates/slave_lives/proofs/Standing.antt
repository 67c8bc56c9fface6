-- The state that an access awaits stands, or its word waits: by frames and steps.
use Rattle.std.proofs.Common.{◌≡◌, ◌⊎◌, inl, inr, ℕ, ◌<◌, ◌==◌, ◌&&◌, Bool, true, false, Option, Some, None, List, refl, sym, ap, ap₂, ◌∙◌, subst, arith, if◌then◌else◌}
use Rattle.std.proofs.lemmas.Bool.{eqb-true, or_cases}
use Rattle.frames_seen.specs.of_datagrams.Datagram as Raw
use Rattle.frames_seen.specs.of_esc_registers.declared.registers.Registers as Esc
use Rattle.frames_seen.specs.of_esc_registers.Registers.{are_areas_right}
use Rattle.frames_seen.specs.of_slave_node.Passing.{registers_after}
use Rattle.frames_seen.specs.of_frame_view.View.{Lens}
use Rattle.frames_seen.specs.Slaves.{registers_seen}
use Rattle.frames_seen.specs.of_life_model.Repairs.{awaits_at, awaited}
use Rattle.frames_seen.specs.of_life_model.Lives.{Opening, shows_clear, is_shown}
use Rattle.frames_seen.specs.of_mailbox_slave.Kept.{Kept}
use Rattle.frames_seen.specs.of_segment_model.Slaves.{Found, Registers}
use Rattle.slave_lives.specs.Nodes.{StepsOn, stepped}
use Rattle.slave_lives.specs.Opening.{Plan, IsPlan, IsBringing, AtMostOne}
use Rattle.slave_lives.specs.Returning.{IsFrozen, IsReturned}
use Rattle.slave_lives.specs.Rings.{met}
use Rattle.slave_lives.specs.Stands.{turn_of, bring_turn, IsClosed, MayStep, CameBack}
use Rattle.slave_lives.specs.Steps.{Running, HasStepped}
use Rattle.slave_lives.proofs.Brought as Brought
use Rattle.slave_lives.proofs.Closing as Closed
use Rattle.slave_lives.proofs.NodeSteps as Stepped
use Rattle.slave_lives.proofs.Openings.{allowed}
use Rattle.slave_lives.proofs.Turning as Turning
use Rattle.frames_seen.specs.of_slave_node.Node.{Node}
use Rattle.frames_seen.specs.Shows.{slave_table}
use Rattle.frames_seen.specs.of_state_model.States as States
use Rattle.slave_lives.specs.Shown.{Shows, Waits, StandsFor}
use Rattle.slave_lives.proofs.Reading.{Reads, reads_leave}
use Rattle.slave_lives.proofs.Showing.{read_shows}

-- the accesses that await a step: the watch of a return, the end of a reopening, the end of a bring-up
pub data Awaits (o : Opening) : Type 0 where
  watch : o.again ≡ true → o.step ≡ 2 → Awaits o
  again : o.again ≡ true → o.step ≡ 9 → Awaits o
  first : o.again ≡ false → o.step ≡ 5 → Awaits o

pub awaits_of : (o : Opening) → awaits_at o.again o.step ≡ true → Awaits o
awaits_of o e = by o.again refl
  where
    by : (b : Bool) → o.again ≡ b → Awaits o
    by true a = elim (or_cases (o.step == 2) (o.step == 9) (ap (λ b. awaits_at b o.step) (sym a) ∙ e)) [
      | inl two ↦ Awaits.watch a (eqb-true o.step 2 two)
      | inr nine ↦ Awaits.again a (eqb-true o.step 9 nine)
    ]
    by false a = Awaits.first a (eqb-true o.step 5 (ap (λ b. awaits_at b o.step) (sym a) ∙ e))

-- what they await
watch_clear : (o : Opening) → o.again ≡ true → o.step ≡ 2 → shows_clear o ≡ true
watch_clear o a two = ap₂ (λ (b : Bool) (s : ℕ). b && s == 2) a two

again_clear : (o : Opening) → o.again ≡ true → o.step ≡ 9 → shows_clear o ≡ false
again_clear o a nine = ap₂ (λ (b : Bool) (s : ℕ). b && s == 2) a nine

first_clear : (o : Opening) → o.again ≡ false → shows_clear o ≡ false
first_clear o a = ap (λ (b : Bool). b && o.step == 2) a

awaited_by : (o : Opening) (b : Bool) → shows_clear o ≡ b → awaited o ≡ (if b then 1 else o.state)
awaited_by o b e = ap (λ (c : Bool). if c then 1 else o.state) e

module _ {S : Type 0} (u : Running S) (boot : Bool) (lens : ℕ → Lens) (p : Plan) (plan : IsPlan boot lens p) (o : Opening) (opens : o.state ≡ p.start) where
  -- a closed slave while such an access is in hand
  data AtRead (n : Node S) : Type 0 where
    frozen : shows_clear o ≡ true → turn_of o ≡ 2 → IsFrozen lens p n.registers → AtRead n
    init : shows_clear o ≡ true → turn_of o ≡ 2 → IsReturned u p 2 n.registers n.kept n.server → AtRead n
    last : shows_clear o ≡ false → turn_of o ≡ 9 → IsReturned u p 9 n.registers n.kept n.server → AtRead n

  at_read : (n : Node S) → Awaits o → IsClosed u boot lens p o n → AtRead n
  at_read n (Awaits.watch a two) (IsClosed.brings up step b clear none) = absurd (let no : true ≡ false = sym a ∙ up in cc)
  at_read n (Awaits.watch a two) (IsClosed.frozen a' step f) = AtRead.frozen (watch_clear o a two) (Closed.again_is o a ∙ two) f
  at_read n (Awaits.watch a two) (IsClosed.left a' one start turn former b) = absurd (let no : 1 ≡ 2 = sym one ∙ two in cc)
  at_read n (Awaits.watch a two) (IsClosed.returned a' step b) = AtRead.init (watch_clear o a two) (Closed.again_is o a ∙ two) (subst (λ m. IsReturned u p m n.registers n.kept n.server) two b)
  at_read n (Awaits.again a nine) (IsClosed.brings up step b clear none) = absurd (let no : true ≡ false = sym a ∙ up in cc)
  at_read n (Awaits.again a nine) (IsClosed.frozen a' (inl one) f) = absurd (let no : 1 ≡ 9 = sym one ∙ nine in cc)
  at_read n (Awaits.again a nine) (IsClosed.frozen a' (inr two) f) = absurd (let no : 2 ≡ 9 = sym two ∙ nine in cc)
  at_read n (Awaits.again a nine) (IsClosed.left a' one start turn former b) = absurd (let no : 1 ≡ 9 = sym one ∙ nine in cc)
  at_read n (Awaits.again a nine) (IsClosed.returned a' step b) = AtRead.last (again_clear o a nine) (Closed.again_is o a ∙ nine) (subst (λ m. IsReturned u p m n.registers n.kept n.server) nine b)
  at_read n (Awaits.first a five) (IsClosed.brings up step b clear none) =
      AtRead.last (first_clear o a) (Closed.bring_is o a ∙ ap bring_turn five)
      (Brought.returned u boot lens p plan 9 n.registers n.kept n.server (subst (λ m. IsBringing p m n.registers n.kept n.server) (ap bring_turn five) b) clear none)
  at_read n (Awaits.first a five) (IsClosed.frozen a' step f) = absurd (let no : true ≡ false = sym a' ∙ a in cc)
  at_read n (Awaits.first a five) (IsClosed.left a' one start turn former b) = absurd (let no : true ≡ false = sym a' ∙ a in cc)
  at_read n (Awaits.first a five) (IsClosed.returned a' step b) = absurd (let no : true ≡ false = sym a' ∙ a in cc)

  -- a slave in Init shows it
  init_shows : (r : Esc.Registers) (k : Kept) (s : S) → IsReturned u p 2 r k s → Shows 1 r
  init_shows r k s b = record { state_is = by b.state; fine = b.refused }
    where
      by : ((registers_seen r).state ≡ 1) ⊎ ((7 < 2) × ((registers_seen r).state ≡ p.start)) → (registers_seen r).state ≡ 1
      by (inl one) = one
      by (inr late) = let no = late.0 in absurd (omega (arith, no))

  as_awaited : (b : Bool) (r : Esc.Registers) → shows_clear o ≡ b → Shows (if b then 1 else o.state) r → Shows (awaited o) r
  as_awaited b r e s = subst (λ state. Shows state r) (sym (awaited_by o b e)) s

  -- THE WATCHED RETURN: it is in Init, or its word waits
  watched : (n : Node S) → AtRead n → shows_clear o ≡ true → Shows (awaited o) n.registers ⊎ Waits o n.registers
  watched n (AtRead.frozen clear turn f) e = inr (f.word ∙ ap₂ (λ (state : ℕ) (b : Bool). Some (state, b)) (sym (awaited_by o true clear)) (sym clear))
  watched n (AtRead.init clear turn b) e = inl (as_awaited true n.registers clear (init_shows n.registers n.kept n.server b))
  watched n (AtRead.last clear turn b) e = absurd (let no : true ≡ false = sym e ∙ clear in cc)

  -- ---- a step
  module _ (n : Node S) (may : MayStep u boot n) where
    on : StepsOn u n (stepped u n)
    on = Stepped.steps_on u may.clears n may.runs may.roomy

    steps : HasStepped u boot n.registers (stepped u n).registers n.kept (stepped u n).kept n.server (stepped u n).server
    steps = subst (λ b. HasStepped u b n.registers (stepped u n).registers n.kept (stepped u n).kept n.server (stepped u n).server) may.boot_is on.steps

    behind : (turn : ℕ) → IsReturned u p turn n.registers n.kept n.server → IsReturned u p turn (stepped u n).registers (stepped u n).kept (stepped u n).server
    behind turn b = Turning.step_returns u boot lens p plan turn n.registers (stepped u n).registers n.kept (stepped u n).kept n.server (stepped u n).server b on.keeps steps on.status on.code

    -- the word of the state that is opened is carried out
    word_step : IsReturned u p 9 n.registers n.kept n.server → (registers_seen n.registers).control ≡ Some (p.start, false) → (registers_seen (stepped u n).registers).state ≡ p.start
    word_step b word = ap (λ (x : Registers). x.state) (steps.registers ∙ carried ∙ ap (States.decided now p.start) grants)
      where
        now : Registers
        now = registers_seen n.registers

        carried : States.carry (slave_table boot (are_areas_right n.registers)) now ≡ States.decided now p.start (slave_table boot (are_areas_right n.registers) now.state p.start)
        carried = ap₂ (λ a c. States.word_carried (slave_table boot (are_areas_right n.registers)) now a c) b.refused word

        right : are_areas_right n.registers ≡ true
        right = ap₂ (λ (x y : Bool). x && y) (b.first (omega arith)) (b.second (omega arith))

        either : (now.state ≡ 1) ⊎ ((7 < 9) × (now.state ≡ p.start)) → (now.state ≡ 1) ⊎ (now.state ≡ p.start)
        either (inl one) = inl one
        either (inr up) = inr up.1

        grants : slave_table boot (are_areas_right n.registers) now.state p.start ≡ None
        grants = ap (λ (a : Bool). slave_table boot a now.state p.start) right ∙ allowed boot now.state p.start plan.start (either b.state)

    step_shows : AtRead n → Shows (awaited o) n.registers ⊎ Waits o n.registers → Shows (awaited o) (stepped u n).registers
    step_shows (AtRead.frozen clear turn f) leads =
        as_awaited true (stepped u n).registers clear
        (init_shows (stepped u n).registers (stepped u n).kept (stepped u n).server
        (Turning.step_freezes u boot lens p plan may.clears 2 (omega arith) n.registers (stepped u n).registers n.kept (stepped u n).kept n.server (stepped u n).server f on.keeps steps on.status on.code).0)
    step_shows (AtRead.init clear turn b) leads = as_awaited true (stepped u n).registers clear (init_shows (stepped u n).registers (stepped u n).kept (stepped u n).server (behind 2 b))
    step_shows (AtRead.last clear turn b) leads = as_awaited false (stepped u n).registers clear (record { state_is = by leads ∙ sym opens; fine = (behind 9 b).refused })
      where
        start_is : awaited o ≡ p.start
        start_is = awaited_by o false clear ∙ opens

        by : Shows (awaited o) n.registers ⊎ Waits o n.registers → (registers_seen (stepped u n).registers).state ≡ p.start
        by (inl s) = Turning.start_kept u boot lens p plan 9 n.registers (stepped u n).registers n.kept (stepped u n).kept n.server (stepped u n).server b steps (s.state_is ∙ start_is)
        by (inr word) = word_step b (word ∙ ap₂ (λ (state : ℕ) (c : Bool). Some (state, c)) start_is clear)

  pub steps_stand : (n : Node S) (before : Bool) → IsClosed u boot lens p o n → MayStep u boot n → StandsFor before o n.registers → StandsFor true o (stepped u n).registers
  steps_stand n before closed may s = record {
    leads = λ a. inl (step_shows n may (at_read n (awaits_of o a) closed) (s.leads a));
    shows = λ a e. step_shows n may (at_read n (awaits_of o a) closed) (s.leads a);
  }

  -- ---- a frame
  reads_at : (n : Node S) → AtRead n → Reads p n.registers (turn_of o)
  reads_at n (AtRead.frozen clear turn f) = subst (λ m. Reads p n.registers m) (sym turn) Reads.watch
  reads_at n (AtRead.init clear turn b) = subst (λ m. Reads p n.registers m) (sym turn) Reads.watch
  reads_at n (AtRead.last clear turn b) = subst (λ m. Reads p n.registers m) (sym turn) (Reads.status (b.station (omega arith)))

  pub frame_stands : (n : Node S) (before is : Bool) (ds : List Raw.Datagram) → IsClosed u boot lens p o n → (is ≡ true → AtMostOne p (turn_of o) n.registers ds) → StandsFor before o n.registers → StandsFor before o (met is n ds).registers
  frame_stands n before false ds closed one s = s
  frame_stands n before true ds closed one s = record {
    leads = λ a. subst (λ r. Shows (awaited o) r ⊎ Waits o r) (sym (same a)) (s.leads a);
    shows = λ a e. subst (λ r. Shows (awaited o) r) (sym (same a)) (s.shows a e);
  }
    where
      same : awaits_at o.again o.step ≡ true → registers_after n.registers ds ≡ n.registers
      same a = reads_leave p n.registers (turn_of o) ds (reads_at n (at_read n (awaits_of o a) closed)) (one refl)

  -- WHERE THE WATCH BEGINS
  pub watch_stands : (n : Node S) → IsClosed u boot lens p o n → o.again ≡ true → o.step ≡ 2 → StandsFor false o n.registers
  watch_stands n closed a two = record {
    leads = λ e. watched n (at_read n (Awaits.watch a two) closed) (watch_clear o a two);
    shows = λ e no_. absurd (cc);
  }

  -- WHAT COMES BACK of the access shows it
  pub access_shows : (n : Node S) (d : Raw.Datagram) (done : Bool) (found : Option Found) → IsClosed u boot lens p o n → awaits_at o.again o.step ≡ true → CameBack lens p (turn_of o) n.registers d done found → d.head.counter ≡ 0 → Shows (awaited o) n.registers →
      (done && is_shown (awaited o) found) ≡ true
  access_shows n d done found closed a came zero s =
      let k = at_read n (awaits_of o a) closed in
      read_shows lens p (turn_of o) (awaited o) n.registers d done found (reads_at n k) came zero (low k) s
    where
      low : AtRead n → n.registers.al_status < 32
      low (AtRead.frozen clear turn f) = f.opens.status
      low (AtRead.init clear turn b) = b.status
      low (AtRead.last clear turn b) = b.status
