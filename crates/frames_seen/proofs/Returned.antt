-- A FRAME THROUGH A RING: each slave, whatever its registers, leaves of a datagram what it asks, whom it means by station, and its length.
use Rattle.std.proofs.Common.{◌≡◌, ℕ, ◌+◌, ◌-◌, ◌%◌, ◌==◌, Bool, true, false, List, [], ◌∷◌, length, Option, Some, None, refl, ap, sym, ◌∙◌, subst}
use Rattle.std.specs.Prelude.{if◌then◌else◌, nat_le, unwrap_or}
use Rattle.slave_node.specs.of_datagrams.declared.command.Command.{Command}
use Rattle.slave_node.specs.of_datagrams.declared.head.Head.{Head}
use Rattle.slave_node.specs.of_datagrams.Datagram as Raw
use Rattle.slave_node.specs.of_datagrams.Frame.{IsFrame}
use Rattle.slave_node.specs.of_esc_registers.declared.registers.Registers as Esc
use Rattle.slave_node.specs.of_esc_registers.declared.row.Row.{Row}
use Rattle.slave_node.specs.of_esc_registers.Access.{reads, is_by_place, is_meant, row_of, read_row, moved_on, passed_at, access}
use Rattle.slave_node.specs.Passing.{passed, datagram_after, datagrams_after, frame_passed}
use Rattle.frame_view.specs.View.{Lens, datagram_seen, asking, ask_of, access_of, station_of, address_of, place_of, read_ask, read_access}
use Rattle.frame_view.specs.Seen.{seen, datagrams_seen}
use Rattle.frame_view.proofs.Octets.{seen_is}
use Rattle.frames_seen.proofs.Passes.{passes}
use Rattle.frames_seen.proofs.Rows.{access_len}
use Rattle.frame_view.specs.of_link_mails.Body.{Body}
use Rattle.frame_view.specs.of_segment_model.Record.{is_for}
use Rattle.frame_view.specs.of_segment_model.Returned.{IsReturn, Returns}
use Rattle.frame_view.specs.of_segment_model.Slaves.{Datagram, Address}
use Rattle.slave_node.specs.of_segment_ring.declared.wire.Fate.{Fate}
use Rattle.slave_node.specs.of_segment_ring.declared.wire.Fate.TheVariants.{Pass}
use Rattle.slave_node.specs.of_segment_ring.Ring.{RingState, nodes_passed, frame_met, ring_returned}
use Rattle.slave_node.specs.of_segment_ring.Schedule.{fate_at}
use Rattle.slave_node.specs.Node.{Node, node_passed}

-- a datagram by place is addressed to no station
no_station : (station adp : ℕ) → is_for station (place_of adp) ≡ false
no_station station adp = go (adp == 0) (nat_le 32768 adp)
  where
    go : (a b : Bool) → is_for station (if a then Address.Place 0 else if b then Address.Place (65536 - adp) else Address.Passed) ≡ false
    go true b = refl
    go false true = refl
    go false false = refl

-- WHAT A SLAVE LEAVES of a datagram's head and body
record GoesOn (h g : Head) (body back : List ℕ) : Type 0 where
  command : g.command ≡ h.command
  ado : g.ado ≡ h.ado
  adp : is_by_place h.command ≡ false → g.adp ≡ h.adp
  len : length back ≡ length body
  body_is : reads h.command ≡ false → back ≡ body

moved : (h : Head) → ((moved_on h).command ≡ h.command) × ((moved_on h).ado ≡ h.ado) × (is_by_place h.command ≡ false → (moved_on h).adp ≡ h.adp)
moved h = go (is_by_place h.command)
  where
    go : (b : Bool) → let g = if b then record h { adp = (h.adp + 1) % 65536 } else h in (g.command ≡ h.command) × (g.ado ≡ h.ado) × (b ≡ false → g.adp ≡ h.adp)
    go true = (refl, refl, λ e. absurd (cc))
    go false = (refl, refl, λ e. refl)

goes_on : (r : Esc.Registers) (h : Head) (body : List ℕ) → GoesOn h (access r h body).head body (access r h body).body
goes_on r h body = go (if is_meant r h then row_of r h.ado (length body) else None) (access_len r h body)
  where
    go : (found : Option Row) → length (passed_at r h body found).body ≡ length body → GoesOn h (passed_at r h body found).head body (passed_at r h body found).body
    go None len = let m = moved h in record { command = m.0; ado = m.1; adp = m.2; len = len; body_is = λ e. refl }
    go (Some row) len =
        let m = moved h in
        record { command = m.0; ado = m.1; adp = m.2; len = len; body_is = λ e. ap (λ (b : Bool). unwrap_or (if b then read_row r row else None) body) e }

module _ (lens : ℕ → Lens) where
  -- a datagram by its parts, as a session sees it
  abbrev view : Command → ℕ → ℕ → ℕ → List ℕ → Datagram Body
  view c adp ado counter body = asking (ask_of (lens (station_of c adp)) c ado body) (access_of (lens (station_of c adp)) c ado body) (station_of c adp) (address_of c adp) counter body

  module _ (adp on ado : ℕ) (body back : List ℕ) (counter other : ℕ) (len : length back ≡ length body) where
    one : (c : Command) → (is_by_place c ≡ false → on ≡ adp) → (reads c ≡ false → back ≡ body) → IsReturn (view c adp ado counter body) (view c on ado other back)
    one Command.Aprd e f = record { station = refl; ask = refl; address = λ s. no_station s on ∙ sym (no_station s adp); access = ap (read_access ado) len }
    one Command.Apwr e f = rw (f refl) (record { station = refl; ask = refl; address = λ s. no_station s on ∙ sym (no_station s adp); access = refl })
    one Command.Aprw e f = record { station = refl; ask = refl; address = λ s. no_station s on ∙ sym (no_station s adp); access = refl }
    one Command.Fprd e f = rw (e refl) (record { station = refl; ask = ap (read_ask (lens adp) ado) len; address = λ s. refl; access = ap (read_access ado) len })
    one Command.Fpwr e f = rw (e refl, f refl) (record { station = refl; ask = refl; address = λ s. refl; access = refl })
    one Command.Fprw e f = rw (e refl) (record { station = refl; ask = refl; address = λ s. refl; access = refl })
    one Command.Nop e f = record { station = refl; ask = refl; address = λ s. refl; access = refl }
    one Command.Brd e f = record { station = refl; ask = refl; address = λ s. refl; access = refl }
    one Command.Bwr e f = record { station = refl; ask = refl; address = λ s. refl; access = refl }
    one Command.Brw e f = record { station = refl; ask = refl; address = λ s. refl; access = refl }
    one Command.Lrd e f = record { station = refl; ask = refl; address = λ s. refl; access = refl }
    one Command.Lwr e f = record { station = refl; ask = refl; address = λ s. refl; access = refl }
    one Command.Lrw e f = record { station = refl; ask = refl; address = λ s. refl; access = refl }
    one Command.Armw e f = record { station = refl; ask = refl; address = λ s. refl; access = refl }
    one Command.Frmw e f = record { station = refl; ask = refl; address = λ s. refl; access = refl }
    one (Command.Other n) e f = record { station = refl; ask = refl; address = λ s. refl; access = refl }

  -- one datagram behind one slave
  one_after : (r : Esc.Registers) (d : Raw.Datagram) → IsReturn (datagram_seen lens d) (datagram_seen lens (datagram_after r d))
  one_after r d =
      let h = d.head in
      let p = access r h d.body in
      let g = goes_on r h d.body in
      subst (λ (c : Command). IsReturn (datagram_seen lens d) (view c p.head.adp p.head.ado p.head.counter p.body)) (sym g.command)
      (subst (λ (a : ℕ). IsReturn (datagram_seen lens d) (view h.command p.head.adp a p.head.counter p.body)) (sym g.ado)
      (one h.adp p.head.adp h.ado d.body p.body h.counter p.head.counter g.len h.command g.adp g.body_is))

  -- a frame's
  all_after : (r : Esc.Registers) (ds : List Raw.Datagram) → Returns (datagrams_seen lens ds) (datagrams_seen lens (datagrams_after r ds))
  all_after r [] = tt
  all_after r (d ∷ ds) = (one_after r d, all_after (passed r d).registers ds)

-- returns of returns are returns
same : (ds : List (Datagram Body)) → Returns ds ds
same [] = tt
same (d ∷ ds) = (record { station = refl; ask = refl; address = λ s. refl; access = refl }, same ds)

further : (as' bs cs : List (Datagram Body)) → Returns as' bs → Returns bs cs → Returns as' cs
further [] [] [] x y = tt
further [] [] (c ∷ cs) x y = y
further [] (b ∷ bs) cs x y = absurd x
further (a ∷ as') [] cs x y = absurd x
further (a ∷ as') (b ∷ bs) [] x y = absurd y
further (a ∷ as') (b ∷ bs) (c ∷ cs) x y =
    (record { station = y.0.station ∙ x.0.station; ask = y.0.ask ∙ x.0.ask; address = λ s. y.0.address s ∙ x.0.address s; access = y.0.access ∙ x.0.access }, further as' bs cs x.1 y.1)

-- the octets behind one slave, and behind all
one_back : (lens : ℕ → Lens) (r : Esc.Registers) (octets : List ℕ) (ds : List Raw.Datagram) → IsFrame octets ds → Returns (seen lens octets) (seen lens (frame_passed r octets).1)
one_back lens r octets ds f =
    let here = seen_is lens octets ds f in
    let there = seen_is lens (frame_passed r octets).1 (datagrams_after r ds) (passes r octets ds f).frame in
    subst (λ l. Returns l (seen lens (frame_passed r octets).1)) (sym here) (subst (λ l. Returns (datagrams_seen lens ds) l) (sym there) (all_after lens r ds))

module _ {S : Type 0} (lens : ℕ → Lens) where
  all_back : (ns : List (Node S)) (octets : List ℕ) (ds : List Raw.Datagram) → IsFrame octets ds → Returns (seen lens octets) (seen lens (nodes_passed node_passed (length ns) ns octets).1)
  all_back [] octets ds f = same (seen lens octets)
  all_back (n ∷ ns) octets ds f =
      let behind = (node_passed n octets).1 in
      further (seen lens octets) (seen lens behind) (seen lens (nodes_passed node_passed (length ns) ns behind).1) (one_back lens n.registers octets ds f)
      (all_back ns behind (datagrams_after n.registers ds) (passes n.registers octets ds f).frame)

  -- FROM THE RING
  pub ring_back : (ring : RingState (Node S)) (octets : List ℕ) (ds : List Raw.Datagram) → IsFrame octets ds → fate_at ring.lose ring.number ≡ Pass → Returns (seen lens octets) (seen lens (ring_returned node_passed ring octets))
  ring_back ring octets ds f e = subst (λ (fate : Fate). Returns (seen lens octets) (seen lens (frame_met node_passed ring.nodes octets fate).1)) (sym e) (all_back ring.nodes octets ds f)
