-- THE NODES OF A RING behind a frame: each met the datagrams as those before it left them, where the frame came so far.
use Rattle.std.proofs.Common.{◌≡◌, ℕ, zero, suc, Bool, true, false, List, [], ◌∷◌, length, refl, ap, sym, ◌∙◌}
use Rattle.slave_lives.specs.of_datagrams.Datagram as Raw
use Rattle.slave_lives.specs.of_datagrams.Frame.{IsFrame}
use Rattle.slave_lives.specs.of_slave_node.Passing.{datagrams_after}
use Rattle.slave_lives.specs.of_segment_ring.declared.wire.Fate.{Fate}
use Rattle.slave_lives.specs.of_segment_ring.declared.wire.Fate.TheVariants.{Pass, Lost}
use Rattle.slave_lives.specs.of_segment_ring.Ring.{nodes_passed, frame_met}
use Rattle.slave_lives.specs.of_slave_node.Node.{Node, node_passed}
use Rattle.slave_lives.specs.Rings.{is_among, is_met_at, met}
use Rattle.slave_lives.proofs.RingFrames.{node_is, node_frame}

module _ {S : Type 0} where
  -- slaves from a place on, of which those are met that it says
  abbrev pub met_all : (ℕ → Bool) → ℕ → List (Node S) → List Raw.Datagram → List (Node S)
  met_all is place [] ds = []
  met_all is place (n ∷ ns) ds = met (is place) n ds ∷ met_all is (suc place) ns (datagrams_after n.registers ds)

  further : (is : ℕ → Bool) (place : ℕ) (ns : List (Node S)) (ds : List Raw.Datagram) → met_all is (suc place) ns ds ≡ met_all (λ k. is (suc k)) place ns ds
  further is place [] ds = refl
  further is place (n ∷ ns) ds = ap (λ l. met (is (suc place)) n ds ∷ l) (further is (suc place) ns (datagrams_after n.registers ds))

  none_met : (place : ℕ) (ns : List (Node S)) (ds : List Raw.Datagram) → met_all (λ k. false) place ns ds ≡ ns
  none_met place [] ds = refl
  none_met place (n ∷ ns) ds = ap (λ l. n ∷ l) (none_met (suc place) ns (datagrams_after n.registers ds))

  first_met : (count : ℕ) (ns : List (Node S)) (octets : List ℕ) (ds : List Raw.Datagram) → IsFrame octets ds → (nodes_passed node_passed count ns octets).0 ≡ met_all (λ k. is_among k count) 0 ns ds
  first_met zero ns octets ds f = sym (none_met 0 ns ds)
  first_met (suc count) [] octets ds f = refl
  first_met (suc count) (n ∷ ns) octets ds f =
      ap (λ m. m ∷ (nodes_passed node_passed count ns (node_passed n octets).1).0) (node_is n octets ds f)
      ∙ ap (λ l. met true n ds ∷ l) (first_met count ns (node_passed n octets).1 (datagrams_after n.registers ds) (node_frame n octets ds f) ∙ sym (further (λ k. is_among k (suc count)) 0 ns (datagrams_after n.registers ds)))

  all_met : (ns : List (Node S)) (ds : List Raw.Datagram) → met_all (λ k. is_among k (length ns)) 0 ns ds ≡ met_all (λ k. true) 0 ns ds
  all_met [] ds = refl
  all_met (n ∷ ns) ds =
      ap (λ l. met true n ds ∷ l)
      (further (λ k. is_among k (suc (length ns))) 0 ns (datagrams_after n.registers ds) ∙ all_met ns (datagrams_after n.registers ds) ∙ sym (further (λ k. true) 0 ns (datagrams_after n.registers ds)))

  -- BEHIND A FRAME of any fate
  pub frame_met_all : (ns : List (Node S)) (octets : List ℕ) (ds : List Raw.Datagram) (fate : Fate) → IsFrame octets ds → (frame_met node_passed ns octets fate).0 ≡ met_all (λ k. is_met_at k fate) 0 ns ds
  frame_met_all ns octets ds Pass f = first_met (length ns) ns octets ds f ∙ all_met ns ds
  frame_met_all ns octets ds (Lost after) f = first_met after ns octets ds f
