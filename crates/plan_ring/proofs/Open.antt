-- One open slave by a frame that came back.
use Rattle.std.proofs.Common.{◌≡◌, ℕ, zero, suc, Bool, true, false, List, [], length, refl, sym, ap, ap₂, ◌∙◌, subst, if◌then◌else◌}
use Rattle.run_frames.specs.of_datagrams.Datagram as Raw
use Rattle.whole_ring.specs.of_ec_fields.Fields.{bits_of}
use Rattle.whole_ring.specs.of_esc_registers.declared.registers.Registers as Esc
use Rattle.slave_server.specs.of_slave_node.Passing.{registers_after, datagrams_after}
use Rattle.whole_ring.specs.of_frame_view.Seen.{seen}
use Rattle.whole_ring.specs.of_frames_seen.Kept.{FrameKeeps}
use Rattle.whole_ring.specs.of_frames_seen.Own.{own_of, own_seen, IsAlone}
use Rattle.whole_ring.specs.of_frames_seen.Ring.{AllApart, IsRingMet}
use Rattle.whole_ring.specs.of_frames_seen.Slaves.{registers_seen, slave_of}
use Rattle.whole_ring.specs.of_frames_seen.Spoken.{AllSpoken}
use Rattle.whole_ring.specs.of_life_model.Eras.{Clearing}
use Rattle.whole_ring.specs.of_life_model.Lives.{Spot, Era, AsksOpen, Stand, granted}
use Rattle.whole_ring.specs.of_life_model.Own.{own}
use Rattle.slave_server.specs.of_link_mails.Body.{Body}
use Rattle.whole_ring.specs.of_mailbox_slave.Registers.{in_len}
use Rattle.slave_server.specs.of_segment_model.Record.{Frame}
use Rattle.slave_server.specs.of_segment_model.Slaves.{Datagram, Slave, slave_after, slave_steps, frame_after}
use Rattle.run_frames.specs.of_segment_ring.Ring.{is_in_pace}
use Rattle.run_frames.specs.of_segment_ring.declared.wire.Fate.{Fate}
use Rattle.run_frames.specs.of_segment_ring.declared.wire.Fate.TheVariants.{Pass, Lost}
use Rattle.plan_ring.proofs.Halves.{mine_is, back_mine, ring_met}
use Rattle.whole_ring.specs.of_slave_lives.Lived.{Behind, RingFrame, LivesEra, IsForOpen, fate_of, is_reached, node_behind, frame_of, node_seen}
use Rattle.whole_ring.specs.of_slave_lives.Nodes.{IsRoomy, stepped}
use Rattle.whole_ring.specs.of_slave_lives.Opening.{Plan}
use Rattle.whole_ring.specs.of_slave_lives.Rings.{registers_of, come_to, met, is_among, is_met_at}
use Rattle.whole_ring.specs.of_slave_lives.Steps.{word_carried}
use Rattle.whole_ring.proofs.of_slave_lives.EraFrames.{lives_on}
use Rattle.whole_ring.proofs.of_slave_lives.NodeSteps.{steps_on}
use Rattle.whole_ring.proofs.of_slave_lives.RingFrames.{after_keeps, met_runs}
use Rattle.whole_ring.proofs.of_slave_lives.RingLives.{sent_is}
use Rattle.whole_ring.proofs.of_slave_lives.Stepping.{step_view}
use Rattle.slave_server.specs.of_slave_node.Node.{Node}
use Rattle.whole_ring.specs.of_frames_seen.Shows.{slave_table}
use Rattle.slave_server.specs.of_state_model.States as States
use Rattle.slave_server.specs.of_state_model.Accounts.{Pick}
use Rattle.whole_ring.specs.Turns.{FrameComes, era_before}
use Rattle.whole_ring.specs.Whole.{IsWhole, LivesOpen}
use Rattle.whole_ring.proofs.Open.{steady_of, over_begins, hand_begins}
use Rattle.whole_ring.proofs.Steady.{IsUp, stays_up}
use Rattle.whole_ring.proofs.Still.{own_comes}

among_self : (place : ℕ) → is_among place (suc place) ≡ true
among_self zero = refl
among_self (suc place) = among_self place

module _ {S V A Q R : Type 0} (w : Behind S V A Q R) (c : Clearing V A) (p : Plan) (spot : Spot) (whole : IsWhole w c p spot) (from : A) (e : Era Body Q R) (fs : List (Frame Body)) (t : RingFrame S) (more : Body → Bool) (passed : Q → Bool) (pick : Pick Q)
    (l : LivesOpen w spot from e fs t.node) (f : FrameComes w p spot Stand.Open t) (asks : AsksOpen spot.station (era_before w more passed spot fs t pick [] e) (seen w.lens t.octets)) (is : fate_of t ≡ Pass) where
  lives : LivesEra w spot from e fs t.node
  lives = l.lives.epoch

  abbrev r : Esc.Registers
  r = t.node.registers

  abbrev comes : List Raw.Datagram
  comes = come_to t.before t.datagrams

  reached : is_reached t ≡ true
  reached = ap (λ (fate : Fate). is_met_at (length t.before) fate) is

  -- the slave that met the frame stays up, as if the frame had been lost behind it and no step followed
  for_open : IsForOpen t.before t.node t.behind t.datagrams
  for_open =
      let here : p.station ≡ r.station = whole.station ∙ sym lives.station in
      let meets : IsAlone r.station r comes × AllSpoken r.station (own_of r.station comes) = f.meets reached in
      let front : AllApart r.station (registers_of t.before) t.datagrams = subst (λ (a : ℕ). AllApart a (registers_of t.before) t.datagrams) here (f.apart reached) in
      record {
        apart = front;
        alone = meets.0;
        last = subst (λ (a : ℕ). AllApart a (registers_of t.behind) (datagrams_after r comes)) here (f.last reached);
        spoken = subst (λ z. AllSpoken r.station z) (own_comes r.station (registers_of t.before) t.datagrams front) meets.1;
      }

  up_met : IsUp (registers_seen (met true t.node comes).registers)
  up_met =
      let place = length t.before in
      let next = era_before w more passed spot fs t pick [] e in
      let x = lives_on w whole.behind more passed spot from e fs t.node lives t.before t.behind t.datagrams (Lost (suc place)) pick [] 2 0 f.at (λ same. for_open)
      (subst (λ ds. AsksOpen spot.station next ds) (sent_is w.lens t) asks) (λ now. absurd (cc)) in
      let over = over_begins w.exchange.speech w.states.acknowledged (length fs) e.side e.account e.account.hand (granted e.passing pick).begin l.over in
      let hand = hand_begins w.exchange.speech w.states.acknowledged (length fs) e.side e.account e.account.hand (granted e.passing pick).begin l.hand in
      let s = steady_of w c p spot whole from _ _ _ x over hand in
      let up : IsUp (registers_seen (met (is_among place (suc place)) t.node comes).registers) = record { state = s.state; word = s.word } in
      subst (λ (b : Bool). IsUp (registers_seen (met b t.node comes).registers)) (among_self place) up

  -- ITS OWN DATAGRAMS come back as it makes them
  own_back : own spot.station (frame_of w.lens t).back ≡ frame_after spot.station (node_seen w t.node) (own spot.station (seen w.lens t.octets))
  own_back = back_mine w c p spot whole from e fs t more passed pick [] lives f asks is ∙ ap (frame_after spot.station (node_seen w t.node)) (sym (mine_is w c p spot whole from e fs t more passed pick [] lives f asks))

  -- THE NODE that met them
  same_state : (a b : Esc.Registers) → FrameKeeps a b → (registers_seen b).state ≡ (registers_seen a).state
  same_state a b k = ap (λ (x : ℕ). bits_of x 0 4) k.status

  abbrev sent_to : Slave V Body
  sent_to = slave_after spot.station (node_seen w t.node) (own spot.station (seen w.lens t.octets))

  met_view : node_seen w (met true t.node comes) ≡ sent_to
  met_view =
      let v = w.sees (registers_seen r).state t.node.server in
      let ring : IsRingMet w.lens (registers_of t.before) r (registers_of t.behind) t.node.kept v t.datagrams = ring_met w c p spot whole from e fs t more passed pick [] lives f asks reached in
      let q = registers_after r comes in
      ap (λ (al : ℕ). slave_of t.node.kept q (w.sees al t.node.server)) (same_state r q (after_keeps r comes)) ∙ ring.slave
      ∙ ap (λ (a : ℕ). slave_after a (node_seen w t.node) (own_seen w.lens a t.datagrams)) lives.station
      ∙ ap (slave_after spot.station (node_seen w t.node)) (sym (mine_is w c p spot whole from e fs t more passed pick [] lives f asks))

  -- and behind the step
  abbrev m : Node S
  m = met true t.node comes

  step_is : is_in_pace t.pace t.ring.number ≡ true → node_seen w (stepped w.running m) ≡ slave_steps w.exchange w.processor (node_seen w m)
  step_is now =
      let roomy = subst (λ (b : Bool). IsRoomy w.running (in_len (met b t.node comes).registers) (met b t.node comes).server) reached (f.roomy now) in
      let on = steps_on w.running whole.behind.clears m (met_runs w.running true t.node comes lives.runs) roomy in
      let ring : IsRingMet w.lens (registers_of t.before) r (registers_of t.behind) t.node.kept (w.sees (registers_seen r).state t.node.server) t.datagrams = ring_met w c p spot whole from e fs t more passed pick [] lives f asks reached in
      let carries : w.processor.carry (registers_seen m.registers) ≡ word_carried m.boot m.registers =
      whole.behind.carries (registers_seen m.registers) ∙ ap₂ (λ (a b : Bool). States.carry (slave_table a b) (registers_seen m.registers)) (sym lives.boot) (sym ring.stays.right) in
      step_view w.exchange w.processor w.running w.sees m.boot m.registers (stepped w.running m).registers m.kept (stepped w.running m).kept m.server (stepped w.running m).server whole.behind.served carries on.steps (stays_up m.boot m.registers up_met)

  by_pace : (b : Bool) → is_in_pace t.pace t.ring.number ≡ b → node_seen w (if b then stepped w.running m else m) ≡ (if b then slave_steps w.exchange w.processor sent_to else sent_to)
  by_pace true now = step_is now ∙ ap (slave_steps w.exchange w.processor) met_view
  by_pace false now = met_view

  pub open_back : own spot.station (frame_of w.lens t).back ≡ frame_after spot.station (node_seen w t.node) (own spot.station (seen w.lens t.octets))
  open_back = own_back

  pub open_node : node_seen w (node_behind w.running t) ≡ (if is_in_pace t.pace t.ring.number then slave_steps w.exchange w.processor sent_to else sent_to)
  open_node = subst (λ (b : Bool). node_seen w (if is_in_pace t.pace t.ring.number then stepped w.running (met b t.node comes) else met b t.node comes) ≡ (if is_in_pace t.pace t.ring.number then slave_steps w.exchange w.processor sent_to else sent_to)) (sym reached)
      (by_pace (is_in_pace t.pace t.ring.number) refl)
