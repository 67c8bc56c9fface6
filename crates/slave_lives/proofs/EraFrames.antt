-- AN OPEN SLAVE'S NODE lives its epoch on by each frame of its ring.
use Rattle.std.proofs.Common.{◌≡◌, ℕ, zero, suc, ◌+◌, ◌-◌, ◌==◌, Bool, true, false, List, [], ◌∷◌, ◌++◌, length, refl, ap, ap₂, sym, ◌∙◌, subst, arith, length-append}
use Rattle.std.specs.Prelude.{if◌then◌else◌}
use Rattle.frames_seen.specs.of_datagrams.Datagram as Raw
use Rattle.frames_seen.specs.of_ec_fields.Fields.{bits_of}
use Rattle.frames_seen.specs.of_esc_registers.declared.registers.Registers as Esc
use Rattle.frames_seen.specs.of_slave_node.Passing.{registers_after}
use Rattle.frames_seen.specs.of_frame_view.Seen.{datagrams_seen}
use Rattle.frames_seen.specs.Kept.{FrameKeeps}
use Rattle.frames_seen.specs.Own.{own_seen}
use Rattle.frames_seen.specs.Ring.{IsRingMet}
use Rattle.frames_seen.specs.Slaves.{registers_seen, slave_of, IsOpen}
use Rattle.frames_seen.proofs.Rings as FrameRings
use Rattle.frames_seen.specs.of_link_model.Frames.{Ask, node_meets}
use Rattle.frames_seen.specs.of_link_model.Slave.{Node}
use Rattle.frames_seen.specs.of_link_mails.Body.{Body}
use Rattle.frames_seen.specs.of_mailbox_slave.Node.{in_side}
use Rattle.frames_seen.specs.of_mailbox_slave.Registers.{in_len}
use Rattle.frames_seen.specs.of_segment_model.Slaves.{Slave, Datagram, Ring, slave_meets, slave_after, frame_after, ring_after, ring_back, ring_steps, first_meet}
use Rattle.frames_seen.specs.of_segment_model.Record.{Frame, News}
use Rattle.frames_seen.specs.of_segment_ring.declared.wire.Fate.{Fate}
use Rattle.frames_seen.specs.of_segment_ring.declared.wire.Fate.TheVariants.{Pass, Lost}
use Rattle.frames_seen.specs.of_segment_ring.Ring.{is_in_pace}
use Rattle.frames_seen.specs.of_slave_node.Node as Running
use Rattle.frames_seen.specs.of_state_model.Accounts.{Pick}
use Rattle.frames_seen.specs.of_life_model.Own.{own, own_fate}
use Rattle.frames_seen.specs.of_exchange_model.Exchange.{Speech}
use Rattle.frames_seen.specs.of_link_model.Segment.{RingFate}
use Rattle.frames_seen.specs.of_life_model.Lives.{Spot, Era, AsksOpen, era_next, era_after}
use Rattle.frames_seen.specs.of_life_model.Eras.{EraIs}
use Rattle.frames_seen.proofs.of_life_model.Eras as Eras
use Rattle.slave_lives.specs.Steps.{StaysUp, Stands, word_carried}
use Rattle.slave_lives.specs.Nodes.{IsRunning, IsRoomy, stepped}
use Rattle.slave_lives.specs.Rings.{registers_of, come_to, come_back, met, turned, is_met_at, is_among, fate_seen}
use Rattle.slave_lives.specs.Lived.{Behind, IsBehind, table_of, node_seen, LivesEra, frame_seen, returned, IsForOpen, StepsUp}
use Rattle.slave_lives.proofs.NodeSteps.{steps_on}
use Rattle.slave_lives.proofs.Opens.{open_step}
use Rattle.slave_lives.proofs.Owned.{own_is}
use Rattle.slave_lives.proofs.RingFrames.{after_keeps, met_runs}
use Rattle.slave_lives.proofs.Stepping.{step_view}
use Rattle.frames_seen.specs.of_state_model.States as States
use Rattle.frames_seen.specs.Shows.{slave_table}

-- what stands in mailbox 1 was offered, behind frames too
asked_stands : {V : Type 0} (n : Node Body V) (ask : Ask Body) → Stands n.inn → Stands (node_meets n ask).inn
asked_stands n (Ask.WriteMail m) stands = stands
asked_stands n Ask.ReadMail stands = λ m e. absurd (cc)
asked_stands n (Ask.WriteRequest bit) stands = stands
asked_stands n Ask.ReadAcknowledge stands = stands
asked_stands n Ask.Other stands = stands

frame_stands : {V : Type 0} (station : ℕ) (s : Slave V Body) (ds : List (Datagram Body)) → Stands s.node.inn → Stands (slave_after station s ds).node.inn
frame_stands station s [] stands = stands
frame_stands {V} station s (d ∷ ds) stands = frame_stands station (slave_meets station s d) ds (go (d.gram.station == station))
  where
    go : (b : Bool) → Stands (if b then node_meets s.node d.gram.ask else s.node).inn
    go true = asked_stands s.node d.gram.ask stands
    go false = stands

-- a frame lost behind so many slaves, for one alone
among_met : (place count : ℕ) → is_among place count ≡ true → (k : ℕ) × (count - place ≡ suc k)
among_met place zero e = absurd (cc)
among_met zero (suc count) e = (count, omega arith)
among_met (suc place) (suc count) e = let m = among_met place count e in let same : count - place ≡ suc m.0 = m.1 in (m.0, omega (arith, same))

among_not : (place count : ℕ) → is_among place count ≡ false → count - place ≡ 0
among_not place zero e = omega arith
among_not zero (suc count) e = absurd (cc)
among_not (suc place) (suc count) e = let m = among_not place count e in omega (arith, m)

-- a frame leaves where the return to Init was seen
pub after_cleared : {M Q R : Type 0} (x : Speech M Q R) (acknowledged : Q → Bool) (more : M → Bool) (passed : Q → Bool) (station frame : ℕ) (news : List (News M)) (sent : List (Datagram M)) (fate : RingFate) (back : List (Datagram M)) (e : Era M Q R) →
    (era_after x acknowledged more passed station frame news sent fate back e).cleared ≡ e.cleared
after_cleared x acknowledged more passed station frame news sent RingFate.Back back e = refl
after_cleared x acknowledged more passed station frame news sent (RingFate.Lost after) back e = refl

-- and the state that the epoch opens
pub after_state : {M Q R : Type 0} (x : Speech M Q R) (acknowledged : Q → Bool) (more : M → Bool) (passed : Q → Bool) (station frame : ℕ) (news : List (News M)) (sent : List (Datagram M)) (fate : RingFate) (back : List (Datagram M)) (e : Era M Q R) →
    (era_after x acknowledged more passed station frame news sent fate back e).state ≡ e.state
after_state x acknowledged more passed station frame news sent RingFate.Back back e = refl
after_state x acknowledged more passed station frame news sent (RingFate.Lost after) back e = refl

module _ {V : Type 0} (station place : ℕ) (s : Slave V Body) (ds : List (Datagram Body)) where
  abbrev alone_ring : Ring V Body
  alone_ring = (station, s) ∷ []

  first_none : (k : ℕ) (es : List (Datagram Body)) → first_meet k (let none : Ring V Body = [] in none) es ≡ []
  first_none zero es = refl
  first_none (suc k) es = refl

  meets_alone : (fate : Fate) → is_met_at place fate ≡ true → ring_after alone_ring ds (own_fate place (fate_seen fate)) ≡ (station, slave_after station s ds) ∷ []
  meets_alone Pass e = refl
  meets_alone (Lost after) e =
      let m = among_met place after e in
      ap (λ k. first_meet k alone_ring ds) m.1 ∙ ap (λ l. (station, slave_after station s ds) ∷ l) (first_none m.0 (frame_after station s ds))

  leaves_alone : (fate : Fate) → is_met_at place fate ≡ false → ring_after alone_ring ds (own_fate place (fate_seen fate)) ≡ alone_ring
  leaves_alone Pass e = absurd (cc)
  leaves_alone (Lost after) e = ap (λ k. first_meet k alone_ring ds) (among_not place after e)

-- A NODE AND A FRAME that comes to it
module _ {S V A Q R : Type 0} (w : Behind S V A Q R) (is_behind : IsBehind w) where
  abbrev pub views : Running.Node S → Slave V Body
  views n = node_seen w n

  same_state : (r q : Esc.Registers) → FrameKeeps r q → (registers_seen q).state ≡ (registers_seen r).state
  same_state r q k = ap (λ (x : ℕ). bits_of x 0 4) k.status

  -- what a node is behind a frame that met it
  record MeetsOpen (n m : Running.Node S) (before : List (Running.Node S)) (behind : List (Running.Node S)) (ds : List Raw.Datagram) : Type 0 where
    slave : views m ≡ slave_after n.registers.station (views n) (own_seen w.lens n.registers.station ds)
    back : own_seen w.lens n.registers.station (come_back before n behind ds) ≡ frame_after n.registers.station (views n) (own_seen w.lens n.registers.station ds)
    opens : IsOpen w.lens m.registers
    station : m.registers.station ≡ n.registers.station
    stands : Stands (in_side m.kept m.registers)

  meets_open : (before : List (Running.Node S)) (n : Running.Node S) (behind : List (Running.Node S)) (ds : List Raw.Datagram) → IsOpen w.lens n.registers → Stands (in_side n.kept n.registers) →
      IsForOpen before n behind ds → MeetsOpen n (met true n (come_to before ds)) before behind ds
  meets_open before n behind ds opens stands f =
      let v = w.sees (registers_seen n.registers).state n.server in
      let ring : IsRingMet w.lens (registers_of before) n.registers (registers_of behind) n.kept v ds = FrameRings.ring_view w.lens (registers_of before) n.registers (registers_of behind) n.kept v ds opens f.apart f.alone f.last f.spoken in
      let q = registers_after n.registers (come_to before ds) in
      let state = same_state n.registers q (after_keeps n.registers (come_to before ds)) in
      record {
        slave = ap (λ (al : ℕ). slave_of n.kept q (w.sees al n.server)) state ∙ ring.slave;
        back = ring.back;
        opens = ring.stays;
        station = ring.station;
        stands = subst Stands (sym (ap (λ (s : Slave V Body). s.node.inn) ring.slave)) (frame_stands n.registers.station (views n) (own_seen w.lens n.registers.station ds) stands);
      }

  -- and behind the step that follows
  record StepsOpen (n m : Running.Node S) (steps : List ℕ) : Type 0 where
    ring : (station : ℕ) → ring_steps w.exchange w.processor ((station, views n) ∷ []) steps ≡ (station, views m) ∷ []
    opens : IsOpen w.lens m.registers
    station : m.registers.station ≡ n.registers.station
    stands : Stands (in_side m.kept m.registers)
    runs : IsRunning w.running m
    boot : m.boot ≡ n.boot

  -- a step while the slave stays up
  steps_open : (n : Running.Node S) → n.boot ≡ w.boot → IsOpen w.lens n.registers → Stands (in_side n.kept n.registers) → IsRunning w.running n → IsRoomy w.running (in_len n.registers) n.server → StaysUp n.boot n.registers →
      StepsOpen n (stepped w.running n) (0 ∷ [])
  steps_open n boot opens stands runs roomy up =
      let on = steps_on w.running is_behind.clears n runs roomy in
      let m = stepped w.running n in
      let carries : w.processor.carry (registers_seen n.registers) ≡ word_carried n.boot n.registers =
      is_behind.carries (registers_seen n.registers) ∙ ap₂ (λ (a b : Bool). States.carry (slave_table a b) (registers_seen n.registers)) (sym boot) (sym opens.right) in
      let view = step_view w.exchange w.processor w.running w.sees n.boot n.registers m.registers n.kept m.kept n.server m.server is_behind.served carries on.steps up in
      let stays = open_step w.lens w.running n.boot n.registers m.registers n.kept m.kept n.server m.server opens stands on.keeps on.steps up on.status on.code in
      record {
        ring = λ station. ap (λ (s : Slave V Body). (station, s) ∷ []) (sym view);
        opens = stays.0;
        station = ap (λ x. x.station) on.keeps.others;
        stands = stays.1;
        runs = on.runs;
        boot = on.boot;
      }

  steps_none : (n : Running.Node S) → IsOpen w.lens n.registers → Stands (in_side n.kept n.registers) → IsRunning w.running n → StepsOpen n n []
  steps_none n opens stands runs = record { ring = λ station. refl; opens = opens; station = refl; stands = stands; runs = runs; boot = refl }

  -- behind the frame and the step, in one ring of its own
  pub record TurnsOpen (spot : Spot) (n m : Running.Node S) (before : List (Running.Node S)) (behind : List (Running.Node S)) (ds : List Raw.Datagram) (fate : Fate) (steps : List ℕ) : Type 0 where
    pub ring : ring_steps w.exchange w.processor (ring_after ((spot.station, views n) ∷ []) (own spot.station (datagrams_seen w.lens ds)) (own_fate spot.place (fate_seen fate))) steps ≡ (spot.station, views m) ∷ []
    pub back : ring_back ((spot.station, views n) ∷ []) (own spot.station (datagrams_seen w.lens ds)) (own_fate spot.place (fate_seen fate)) ≡ own spot.station (datagrams_seen w.lens (returned fate before n behind ds))
    pub opens : IsOpen w.lens m.registers
    pub station : m.registers.station ≡ spot.station
    pub stands : Stands (in_side m.kept m.registers)
    pub runs : IsRunning w.running m
    pub boot : m.boot ≡ w.boot

  abbrev pub steps_of : Bool → List ℕ
  steps_of pace = if pace then 0 ∷ [] else []

  module _ (spot : Spot) (n : Running.Node S) (before : List (Running.Node S)) (behind : List (Running.Node S)) (ds : List Raw.Datagram) (place : length before ≡ spot.place) (here : n.registers.station ≡ spot.station) where
    abbrev mine : List (Datagram Body)
    mine = own spot.station (datagrams_seen w.lens ds)

    mine_is : mine ≡ own_seen w.lens n.registers.station ds
    mine_is = own_is w.lens spot.station ds ∙ ap (λ (a : ℕ). own_seen w.lens a ds) (sym here)

    -- its own datagrams come back as it makes them
    comes_back : (fate : Fate) → (is_met_at (length before) fate ≡ true → MeetsOpen n (met true n (come_to before ds)) before behind ds) →
        ring_back ((spot.station, views n) ∷ []) mine (own_fate spot.place (fate_seen fate)) ≡ own spot.station (datagrams_seen w.lens (returned fate before n behind ds))
    comes_back Pass meets =
        let m = meets refl in
        ap₂ (λ (a : ℕ) (l : List (Datagram Body)). frame_after a (views n) l) (sym here) mine_is
        ∙ sym m.back ∙ ap (λ (a : ℕ). own_seen w.lens a (come_back before n behind ds)) here ∙ sym (own_is w.lens spot.station (come_back before n behind ds))
    comes_back (Lost after) meets = refl

    met_ring : (fate : Fate) (b : Bool) → is_met_at (length before) fate ≡ b → (b ≡ true → MeetsOpen n (met true n (come_to before ds)) before behind ds) →
        ring_after ((spot.station, views n) ∷ []) mine (own_fate spot.place (fate_seen fate)) ≡ (spot.station, views (met b n (come_to before ds))) ∷ []
    met_ring fate true e meets =
        let m = meets refl in
        meets_alone spot.station spot.place (views n) mine fate (ap (λ (a : ℕ). is_met_at a fate) (sym place) ∙ e)
        ∙ ap (λ (s : Slave V Body). (spot.station, s) ∷ []) (ap₂ (λ (a : ℕ) (l : List (Datagram Body)). slave_after a (views n) l) (sym here) mine_is ∙ sym m.slave)
    met_ring fate false e meets = leaves_alone spot.station spot.place (views n) mine fate (ap (λ (a : ℕ). is_met_at a fate) (sym place) ∙ e)

    -- the node that the frame left
    record Left (fate : Fate) (c : Bool) : Type 0 where
      ring : ring_after ((spot.station, views n) ∷ []) mine (own_fate spot.place (fate_seen fate)) ≡ (spot.station, views (met c n (come_to before ds))) ∷ []
      opens : IsOpen w.lens (met c n (come_to before ds)).registers
      station : (met c n (come_to before ds)).registers.station ≡ n.registers.station
      stands : Stands (in_side (met c n (come_to before ds)).kept (met c n (come_to before ds)).registers)
      boot : (met c n (come_to before ds)).boot ≡ n.boot

    pub turns_open : (fate : Fate) (b pace : Bool) → is_met_at (length before) fate ≡ b → n.boot ≡ w.boot → IsOpen w.lens n.registers → Stands (in_side n.kept n.registers) → IsRunning w.running n → (b ≡ true → IsForOpen before n behind ds) →
        (let m = met b n (come_to before ds) in (pace ≡ true → StepsUp w m) →
        TurnsOpen spot n (if pace then stepped w.running m else m) before behind ds fate (steps_of pace))
    turns_open fate b pace e boot opens stands runs f up = go b pace e f up
      where
        meets : (c : Bool) → (c ≡ true → IsForOpen before n behind ds) → c ≡ true → MeetsOpen n (met true n (come_to before ds)) before behind ds
        meets c f is = meets_open before n behind ds opens stands (f is)

        left : (c : Bool) → is_met_at (length before) fate ≡ c → (c ≡ true → IsForOpen before n behind ds) → Left fate c
        left true e f = let m = meets true f refl in record { ring = met_ring fate true e (meets true f); opens = m.opens; station = m.station; stands = m.stands; boot = refl }
        left false e f = record { ring = met_ring fate false e (meets false f); opens = opens; station = refl; stands = stands; boot = refl }

        go : (c p : Bool) → is_met_at (length before) fate ≡ c → (c ≡ true → IsForOpen before n behind ds) → (let m = met c n (come_to before ds) in (p ≡ true → StepsUp w m) →
            TurnsOpen spot n (if p then stepped w.running m else m) before behind ds fate (steps_of p))
        go c true e f up =
            let m = met c n (come_to before ds) in
            let l = left c e f in
            let s = steps_open m (l.boot ∙ boot) l.opens l.stands (met_runs w.running c n (come_to before ds) runs) (up refl).roomy (up refl).up in
            record {
              ring = ap (λ (r : Ring V Body). ring_steps w.exchange w.processor r (0 ∷ [])) l.ring ∙ s.ring spot.station;
              back = comes_back fate (λ is. meets c f (sym e ∙ is));
              opens = s.opens;
              station = s.station ∙ l.station ∙ here;
              stands = s.stands;
              runs = s.runs;
              boot = s.boot ∙ l.boot ∙ boot;
            }
        go c false e f up =
            let l = left c e f in
            record {
              ring = l.ring;
              back = comes_back fate (λ is. meets c f (sym e ∙ is));
              opens = l.opens;
              station = l.station ∙ here;
              stands = l.stands;
              runs = met_runs w.running c n (come_to before ds) runs;
              boot = l.boot ∙ boot;
            }

  -- THE EPOCH GOES ON
  pub lives_on : (more : Body → Bool) (passed : Q → Bool) (spot : Spot) (from : A) (e : Era Body Q R) (fs : List (Frame Body)) (n : Running.Node S) → LivesEra w spot from e fs n →
      (before : List (Running.Node S)) (behind : List (Running.Node S)) (ds : List Raw.Datagram) (fate : Fate) (pick : Pick Q) (news : List (News Body)) (pace number : ℕ) → length before ≡ spot.place →
      (is_met_at (length before) fate ≡ true → IsForOpen before n behind ds) →
      (let next = era_next w.exchange.speech w.states.acknowledged more passed (length fs) e pick in
      let m = met (is_met_at (length before) fate) n (come_to before ds) in
      let sent = datagrams_seen w.lens ds in
      let back = datagrams_seen w.lens (returned fate before n behind ds) in
      AsksOpen spot.station next sent → (is_in_pace pace number ≡ true → StepsUp w m) →
      LivesEra w spot from (era_after w.exchange.speech w.states.acknowledged more passed spot.station (length fs) news sent (fate_seen fate) back next) (fs ++ frame_seen w.lens ds fate (returned fate before n behind ds) ∷ []) (turned w.running pace number m))
  lives_on more passed spot from e fs n lives before behind ds fate pick news pace number place f asks up =
      let t = turns_open spot n before behind ds place lives.station fate (is_met_at (length before) fate) (is_in_pace pace number) refl lives.boot lives.opens lives.stands lives.runs f up in
      let sent = datagrams_seen w.lens ds in
      let back = datagrams_seen w.lens (returned fate before n behind ds) in
      let m = turned w.running pace number (met (is_met_at (length before) fate) n (come_to before ds)) in
      let grown = Eras.own_turns w.exchange w.states w.processor (table_of w) more passed spot e lives.opened fs lives.server lives.registers (views n) lives.before lives.is pick news sent (fate_seen fate) back (steps_of (is_in_pace pace number)) (views m) asks t.back t.ring in
      let one = frame_seen w.lens ds fate (returned fate before n behind ds) in
      let len : suc (length fs) ≡ length (fs ++ one ∷ []) = sym (length-append fs (one ∷ []) ∙ (let plus : length fs + 1 ≡ suc (length fs) = omega arith in plus)) in
      let was = lives.before in
      let next = era_next w.exchange.speech w.states.acknowledged more passed (length fs) e pick in
      let now = era_after w.exchange.speech w.states.acknowledged more passed spot.station (length fs) news sent (fate_seen fate) back next in
      record {
        opened = lives.opened;
        server = lives.server;
        registers = lives.registers;
        begins = lives.begins;
        up = lives.up;
        first = λ none. lives.first (sym (after_cleared w.exchange.speech w.states.acknowledged more passed spot.station (length fs) news sent (fate_seen fate) back next) ∙ none);
        in_state = lives.in_state ∙ sym (after_state w.exchange.speech w.states.acknowledged more passed spot.station (length fs) news sent (fate_seen fate) back next);
        before = omega (arith, len, was);
        is = subst (λ (k : ℕ). EraIs w.exchange w.states w.processor (table_of w) spot now lives.opened k (fs ++ one ∷ []) lives.server lives.registers (views m)) len grown;
        opens = t.opens;
        station = t.station;
        stands = t.stands;
        runs = t.runs;
        boot = t.boot;
      }
