-- A RING, octet by octet: each slave meets the datagrams as those before it leave them.
use Rattle.std.proofs.Common.{◌≡◌, ℕ, zero, suc, Bool, true, false, List, [], ◌∷◌, ◌++◌, length, refl, ap, ap₂, sym, ◌∙◌, subst}
use Rattle.std.specs.Prelude.{if◌then◌else◌}
use Rattle.frames_seen.specs.of_datagrams.Datagram as Raw
use Rattle.frames_seen.specs.of_datagrams.Frame.{IsFrame}
use Rattle.frames_seen.specs.of_esc_registers.declared.registers.Registers as Esc
use Rattle.frames_seen.specs.of_slave_node.Passing.{passed, registers_after, datagrams_after}
use Rattle.frames_seen.specs.Kept.{FrameKeeps}
use Rattle.frames_seen.specs.Ring.{all_after}
use Rattle.frames_seen.proofs.Passes as Octets
use Rattle.frames_seen.proofs.Rows.{access_keeps, keeps_both}
use Rattle.frames_seen.specs.of_segment_ring.declared.wire.Fate.{Fate}
use Rattle.frames_seen.specs.of_segment_ring.declared.wire.Fate.TheVariants.{Pass, Lost}
use Rattle.frames_seen.specs.of_segment_ring.Schedule.{fate_at}
use Rattle.frames_seen.specs.of_segment_ring.Ring.{RingState, is_in_pace, nodes_passed, frame_met, nodes_stepped}
use Rattle.frames_seen.specs.of_slave_node.Node.{Node, node_passed}
use Rattle.slave_lives.specs.Steps.{Running}
use Rattle.slave_lives.specs.Nodes.{IsKept, IsRunning, stepped}
use Rattle.slave_lives.specs.Rings.{registers_of, is_among, is_met_at, come_to, come_back, met, IsExchanged}

-- what only the slave writes stays
pub after_keeps : (r : Esc.Registers) (ds : List Raw.Datagram) → FrameKeeps r (registers_after r ds)
after_keeps r [] = record { status = refl; code = refl; outward = refl; inward = refl }
after_keeps r (d ∷ ds) = keeps_both r (passed r d).registers (registers_after (passed r d).registers ds) (access_keeps r d.head d.body) (after_keeps (passed r d).registers ds)

module _ {S : Type 0} where
  -- octets that are a frame, at one slave
  pub node_is : (n : Node S) (octets : List ℕ) (ds : List Raw.Datagram) → IsFrame octets ds → (node_passed n octets).0 ≡ record n { registers = registers_after n.registers ds }
  node_is n octets ds f = ap (λ (r : Esc.Registers). record n { registers = r }) (Octets.passes n.registers octets ds f).registers

  pub node_frame : (n : Node S) (octets : List ℕ) (ds : List Raw.Datagram) → IsFrame octets ds → IsFrame (node_passed n octets).1 (datagrams_after n.registers ds)
  node_frame n octets ds f = (Octets.passes n.registers octets ds f).frame

  -- the slave at a place of those that the frame comes by
  record Through (count : ℕ) (before : List (Node S)) (n : Node S) (behind : List (Node S)) (octets : List ℕ) (ds : List Raw.Datagram) : Type 0 where
    left : List (Node S)
    right : List (Node S)
    place : length left ≡ length before
    nodes : (nodes_passed node_passed count (before ++ n ∷ behind) octets).0 ≡ left ++ met (is_among (length before) count) n (come_to before ds) ∷ right

  through : (count : ℕ) (before : List (Node S)) (n : Node S) (behind : List (Node S)) (octets : List ℕ) (ds : List Raw.Datagram) → IsFrame octets ds → Through count before n behind octets ds
  through zero before n behind octets ds f = record { left = before; right = behind; place = refl; nodes = none before }
    where
      none : (bs : List (Node S)) → before ++ n ∷ behind ≡ before ++ met (is_among (length bs) zero) n (come_to before ds) ∷ behind
      none bs = refl
  through (suc count) [] n behind octets ds f = record {
    left = [];
    right = (nodes_passed node_passed count behind (node_passed n octets).1).0;
    place = refl;
    nodes = ap (λ m. m ∷ (nodes_passed node_passed count behind (node_passed n octets).1).0) (node_is n octets ds f);
  }
  through (suc count) (b ∷ bs) n behind octets ds f =
      let t = through count bs n behind (node_passed b octets).1 (datagrams_after b.registers ds) (node_frame b octets ds f) in
      record {
        left = (node_passed b octets).0 ∷ t.left;
        right = t.right;
        place = ap suc t.place;
        nodes = ap (λ l. (node_passed b octets).0 ∷ l) t.nodes;
      }

  -- a frame that comes back was at all of them
  all_frame : (ns : List (Node S)) (octets : List ℕ) (ds : List Raw.Datagram) → IsFrame octets ds → IsFrame (nodes_passed node_passed (length ns) ns octets).1 (all_after (registers_of ns) ds)
  all_frame [] octets ds f = f
  all_frame (n ∷ ns) octets ds f = all_frame ns (node_passed n octets).1 (datagrams_after n.registers ds) (node_frame n octets ds f)

  among_all : (before : List (Node S)) (n : Node S) (behind : List (Node S)) → is_among (length before) (length (before ++ n ∷ behind)) ≡ true
  among_all [] n behind = refl
  among_all (b ∷ bs) n behind = among_all bs n behind

  back_is : (before : List (Node S)) (n : Node S) (behind : List (Node S)) (ds : List Raw.Datagram) → all_after (registers_of (before ++ n ∷ behind)) ds ≡ come_back before n behind ds
  back_is [] n behind ds = refl
  back_is (b ∷ bs) n behind ds = back_is bs n behind (datagrams_after b.registers ds)

  -- the steps
  steps_at : (step : Node S → Node S) (number : ℕ) (front : List ℕ) (pace : ℕ) (rest : List ℕ) (left : List (Node S)) (m : Node S) (right : List (Node S)) → length front ≡ length left →
      nodes_stepped step (front ++ pace ∷ rest) number (left ++ m ∷ right) ≡ nodes_stepped step front number left ++ (if is_in_pace pace number then step m else m) ∷ nodes_stepped step rest number right
  steps_at step number [] pace rest [] m right e = refl
  steps_at step number [] pace rest (l ∷ ls) m right e = absurd (cc)
  steps_at step number (p ∷ ps) pace rest [] m right e = absurd (cc)
  steps_at step number (p ∷ ps) pace rest (l ∷ ls) m right e = ap (λ k. (if is_in_pace p number then step l else l) ∷ k) (steps_at step number ps pace rest ls m right (let same : length ps ≡ length ls = cc in same))

  stepped_len : (step : Node S → Node S) (number : ℕ) (paces : List ℕ) (ns : List (Node S)) → length (nodes_stepped step paces number ns) ≡ length ns
  stepped_len step number [] ns = refl
  stepped_len step number (p ∷ ps) [] = refl
  stepped_len step number (p ∷ ps) (n ∷ ns) = ap suc (stepped_len step number ps ns)

  -- a frame of any fate
  record Meets (before : List (Node S)) (n : Node S) (behind : List (Node S)) (octets : List ℕ) (ds : List Raw.Datagram) (fate : Fate) : Type 0 where
    left : List (Node S)
    right : List (Node S)
    place : length left ≡ length before
    nodes : (frame_met node_passed (before ++ n ∷ behind) octets fate).0 ≡ left ++ met (is_met_at (length before) fate) n (come_to before ds) ∷ right

  meets : (before : List (Node S)) (n : Node S) (behind : List (Node S)) (octets : List ℕ) (ds : List Raw.Datagram) (fate : Fate) → IsFrame octets ds → Meets before n behind octets ds fate
  meets before n behind octets ds Pass f =
      let t = through (length (before ++ n ∷ behind)) before n behind octets ds f in
      record {
        left = t.left;
        right = t.right;
        place = t.place;
        nodes = t.nodes ∙ ap (λ (b : Bool). t.left ++ met b n (come_to before ds) ∷ t.right) (among_all before n behind);
      }
  meets before n behind octets ds (Lost after) f =
      let t = through after before n behind octets ds f in record { left = t.left; right = t.right; place = t.place; nodes = t.nodes }

  returns : (before : List (Node S)) (n : Node S) (behind : List (Node S)) (octets : List ℕ) (ds : List Raw.Datagram) (fate : Fate) → IsFrame octets ds → fate ≡ Pass →
      IsFrame (frame_met node_passed (before ++ n ∷ behind) octets fate).1 (come_back before n behind ds)
  returns before n behind octets ds Pass f e = subst (λ l. IsFrame (nodes_passed node_passed (length (before ++ n ∷ behind)) (before ++ n ∷ behind) octets).1 l) (back_is before n behind ds) (all_frame (before ++ n ∷ behind) octets ds f)
  returns before n behind octets ds (Lost after) f e = absurd (cc)

  loses : (nodes : List (Node S)) (octets : List ℕ) (fate : Fate) (after : ℕ) → fate ≡ Lost after → (frame_met node_passed nodes octets fate).1 ≡ []
  loses nodes octets Pass after e = absurd (cc)
  loses nodes octets (Lost some) after e = refl

  -- ONE FRAME EXCHANGED
  pub exchanged : (u : Running S) (ring : RingState (Node S)) (octets : List ℕ) (ds : List Raw.Datagram) (before : List (Node S)) (n : Node S) (behind : List (Node S)) (front : List ℕ) (pace : ℕ) (rest : List ℕ) →
      IsFrame octets ds → ring.nodes ≡ before ++ n ∷ behind → ring.paces ≡ front ++ pace ∷ rest → length front ≡ length before → IsExchanged u ring octets ds before n behind pace
  exchanged u ring octets ds before n behind front pace rest f nodes paces place =
      let fate = fate_at ring.lose ring.number in
      let t = meets before n behind octets ds fate f in
      let m = met (is_met_at (length before) fate) n (come_to before ds) in
      record {
        left = nodes_stepped (stepped u) front ring.number t.left;
        right = nodes_stepped (stepped u) rest ring.number t.right;
        place = stepped_len (stepped u) ring.number front t.left ∙ t.place;
        nodes =
            ap₂ (λ (ps : List ℕ) (l : List (Node S)). nodes_stepped (stepped u) ps ring.number (frame_met node_passed l octets fate).0) paces nodes
            ∙ ap (λ l. nodes_stepped (stepped u) (front ++ pace ∷ rest) ring.number l) t.nodes
            ∙ steps_at (stepped u) ring.number front pace rest t.left m t.right (place ∙ sym t.place);
        back = λ e. subst (λ l. IsFrame (frame_met node_passed l octets fate).1 (come_back before n behind ds)) (sym nodes) (returns before n behind octets ds fate f e);
        lost = λ after e. loses ring.nodes octets fate after e;
      }

  -- a slave that a frame meets runs on
  pub met_runs : (u : Running S) (is : Bool) (n : Node S) (ds : List Raw.Datagram) → IsRunning u n → IsRunning u (met is n ds)
  met_runs u false n ds runs = runs
  met_runs u true n ds runs =
      let kept = after_keeps n.registers ds in
      record {
        shows = record { status = kept.status ∙ runs.shows.status; code = kept.code ∙ runs.shows.code; state = runs.shows.state; error = runs.shows.error };
        kept = subst (λ (len : ℕ). IsKept len n.kept) (sym kept.inward) runs.kept;
        init = runs.init;
        cleared = runs.cleared;
      }
