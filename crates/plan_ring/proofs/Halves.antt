-- An open slave, by a frame: where the acknowledge of the repeat request is awaited, the request stands.
use Rattle.std.proofs.Common.{◌≡◌, ℕ, ◌==◌, ◌&&◌, Bool, true, false, Some, List, [], ◌∷◌, refl, sym, ap, ◌∙◌, subst, if◌then◌else◌, length}
use Rattle.run_frames.specs.of_datagrams.Datagram as Raw
use Rattle.run_frames.specs.of_datagrams.declared.command.Command.{Command}
use Rattle.run_frames.specs.of_datagrams.declared.command.Command.TheVariants.{Aprd, Apwr, Aprw, Fprd, Fpwr, Fprw}
use Rattle.whole_ring.specs.of_esc_registers.Access.{is_by_station}
use Rattle.whole_ring.specs.of_esc_registers.declared.registers.Registers as Esc
use Rattle.slave_server.specs.of_exchange_model.Exchange.{Speech}
use Rattle.slave_server.specs.of_slave_node.Passing.{registers_after, datagrams_after}
use Rattle.whole_ring.specs.of_frame_view.Seen.{seen, datagrams_seen}
use Rattle.whole_ring.specs.of_frame_view.View.{Lens, station_of}
use Rattle.whole_ring.specs.of_frames_seen.Own.{own_of, own_seen, is_to, IsAlone}
use Rattle.whole_ring.specs.of_frames_seen.Ring.{AllApart, IsRingMet}
use Rattle.whole_ring.specs.of_frames_seen.Slaves.{registers_seen, slave_of}
use Rattle.whole_ring.specs.of_frames_seen.Spoken.{AllSpoken}
use Rattle.whole_ring.proofs.of_frames_seen.Rings as FrameRings
use Rattle.plan_ring.specs.SlaveAsked.{AllHere, IsAsked, GoesOn}
use Rattle.plan_ring.proofs.Goes.{all_back, all_lost, all_unmet, first}
use Rattle.whole_ring.specs.of_life_model.Eras.{Clearing}
use Rattle.whole_ring.specs.of_life_model.Lives.{Spot, Era, AsksOpen, Stand, granted}
use Rattle.whole_ring.specs.of_life_model.Own.{own}
use Rattle.slave_server.specs.of_link_mails.Body.{Body}
use Rattle.whole_ring.specs.of_link_model.Frames as Link
use Rattle.whole_ring.specs.of_link_model.Frames.{Gram, IsSent, node_after, grams_after, gram_meets, halves_after, halves_without}
use Rattle.whole_ring.specs.of_link_model.Link.{Halves}
use Rattle.whole_ring.specs.of_link_model.Master.{InHalf, InState}
use Rattle.whole_ring.specs.of_link_model.Slave.{Node}
use Rattle.whole_ring.specs.of_mailbox_slave.Node.{node_of, in_side}
use Rattle.slave_server.specs.of_segment_model.Record.{Frame, News}
use Rattle.slave_server.specs.of_segment_model.Seats.{Side, side_begins, side_next, Choice, next_mail}
use Rattle.slave_server.specs.of_segment_model.Slaves.{Datagram, Serving, Slave, grams, slave_after, slave_meets, frame_after}
use Rattle.run_frames.specs.of_segment_ring.Ring.{is_in_pace}
use Rattle.run_frames.specs.of_segment_ring.declared.wire.Fate.{Fate}
use Rattle.run_frames.specs.of_segment_ring.declared.wire.Fate.TheVariants.{Pass, Lost}
use Rattle.run_frames.specs.Goes.{stepped_behind}
use Rattle.run_frames.proofs.Access.{begins_same, holds_same}
use Rattle.whole_ring.specs.of_slave_lives.Lived.{Behind, RingFrame, LivesEra, fate_of, is_reached, node_met, node_behind, frame_of, returned, IsForOpen}
use Rattle.whole_ring.specs.of_slave_lives.Nodes.{stepped}
use Rattle.whole_ring.specs.of_slave_lives.Opening.{Plan}
use Rattle.whole_ring.specs.of_slave_lives.Rings.{registers_of, come_to, come_back, met, is_met_at, fate_seen}
use Rattle.whole_ring.proofs.of_slave_lives.Owned.{own_is}
use Rattle.whole_ring.proofs.of_slave_lives.RingFrames.{met_runs}
use Rattle.whole_ring.proofs.of_slave_lives.RingLives.{sent_is, back_is}
use Rattle.whole_ring.proofs.of_slave_lives.Asking.{acknowledges}
use Rattle.slave_server.specs.of_state_model.Accounts.{Pick, mails_choice}
use Rattle.whole_ring.specs.Turns.{FrameComes, era_before, era_behind}
use Rattle.whole_ring.specs.Whole.{IsWhole}
use Rattle.whole_ring.proofs.Still.{own_comes}
use Rattle.plan_ring.specs.Stands.{Asked}
use Rattle.plan_ring.proofs.Ways.{clock_out}

-- ---- what comes into hand leaves the inward half
next_inn : {M Q R : Type 0} (x : Speech M Q R) (frame : ℕ) (d : Side M Q R) (c : Choice Q) → (side_next x frame d c).halves.inn ≡ d.halves.inn
next_inn x frame d c = let e = side_begins x frame d d.now c.begin in holds_same e (next_mail x e.now e.halves.out.holding c.hold) ∙ begins_same x frame d d.now c.begin

-- ---- its own datagrams are to its station
station_here : (station adp : ℕ) (c : Command) → (is_by_station c && adp == station) ≡ true → (station_of c adp == station) ≡ true
station_here station adp Fprd e = e
station_here station adp Fpwr e = e
station_here station adp Fprw e = e
station_here station adp Aprd e = absurd (cc)
station_here station adp Apwr e = absurd (cc)
station_here station adp Aprw e = absurd (cc)
station_here station adp c e = absurd (cc)

pub own_here : (lens : ℕ → Lens) (station : ℕ) (ds : List Raw.Datagram) → AllHere station (grams (own_seen lens station ds))
own_here lens station [] = tt
own_here lens station (d ∷ ds) = go (is_to station d) refl (own_here lens station ds)
  where
    go : (b : Bool) → is_to station d ≡ b → AllHere station (grams (own_seen lens station ds)) → AllHere station (grams (datagrams_seen lens (if b then d ∷ own_of station ds else own_of station ds)))
    go true e rest = (station_here station d.head.adp d.head.command e, rest)
    go false e rest = rest

all_own : {B : Type 0} (station : ℕ) (gs : List (Gram B)) → AllHere station gs → Link.own station gs ≡ gs
all_own station [] here = refl
all_own station (g ∷ gs) here = ap (λ (b : Bool). if b then g ∷ Link.own station gs else Link.own station gs) here.0 ∙ ap (λ l. g ∷ l) (all_own station gs here.1)

-- ---- a slave and its mailboxes alone
module _ {V : Type 0} (station : ℕ) where
  node_same : (s : Slave V Body) (ds : List (Datagram Body)) → (slave_after station s ds).node ≡ node_after station s.node (grams ds)
  node_same s [] = refl
  node_same s (d ∷ ds) = node_same (slave_meets station s d) ds

  pub grams_same : (s : Slave V Body) (ds : List (Datagram Body)) → grams (frame_after station s ds) ≡ grams_after station s.node (grams ds)
  grams_same s [] = refl
  grams_same s (d ∷ ds) = ap (λ l. (if d.gram.station == station then gram_meets s.node d.gram.ask d.gram else d.gram) ∷ l) (grams_same (slave_meets station s d) ds)

module _ {S V A Q R : Type 0} (w : Behind S V A Q R) (c : Clearing V A) (p : Plan) (spot : Spot) (whole : IsWhole w c p spot) (from : A) (e : Era Body Q R) (fs : List (Frame Body)) (t : RingFrame S) (more : Body → Bool) (passed : Q → Bool) (pick : Pick Q) (news : List (News Body))
    (lives : LivesEra w spot from e fs t.node) (f : FrameComes w p spot Stand.Open t) (asks : AsksOpen spot.station (era_before w more passed spot fs t pick news e) (seen w.lens t.octets)) where
  abbrev half : Halves Body
  half = (era_before w more passed spot fs t pick news e).side.halves

  pub half_same : half.inn ≡ e.side.halves.inn
  half_same = next_inn w.exchange.speech (length fs) e.side (mails_choice e.account (granted e.passing pick))

  abbrev r : Esc.Registers
  r = t.node.registers

  abbrev comes : List Raw.Datagram
  comes = come_to t.before t.datagrams

  abbrev slave : Slave V Body
  slave = slave_of t.node.kept r (w.sees (registers_seen r).state t.node.server)

  for_open : is_reached t ≡ true → IsForOpen t.before t.node t.behind t.datagrams
  for_open reached =
      let here : p.station ≡ r.station = whole.station ∙ sym lives.station in
      let meets : IsAlone r.station r comes × AllSpoken r.station (own_of r.station comes) = f.meets reached in
      let front : AllApart r.station (registers_of t.before) t.datagrams = subst (λ (a : ℕ). AllApart a (registers_of t.before) t.datagrams) here (f.apart reached) in
      record {
        apart = front;
        alone = meets.0;
        last = subst (λ (a : ℕ). AllApart a (registers_of t.behind) (datagrams_after r comes)) here (f.last reached);
        spoken = subst (λ l. AllSpoken r.station l) (own_comes r.station (registers_of t.before) t.datagrams front) meets.1;
      }

  pub ring_met : is_reached t ≡ true → IsRingMet w.lens (registers_of t.before) r (registers_of t.behind) t.node.kept (w.sees (registers_seen r).state t.node.server) t.datagrams
  ring_met reached =
      let o = for_open reached in
      FrameRings.ring_view w.lens (registers_of t.before) r (registers_of t.behind) t.node.kept (w.sees (registers_seen r).state t.node.server) t.datagrams lives.opens o.apart o.alone o.last o.spoken

  pub mine_is : own spot.station (seen w.lens t.octets) ≡ own_seen w.lens spot.station t.datagrams
  mine_is = ap (own spot.station) (sent_is w.lens t) ∙ own_is w.lens spot.station t.datagrams

  pub sent_so : IsSent half.out.holding (Some half.inn) (grams (own_seen w.lens spot.station t.datagrams))
  sent_so = subst (λ l. IsSent half.out.holding (Some half.inn) l)
      (ap (λ ds. Link.own spot.station (grams ds)) mine_is ∙ all_own spot.station (grams (own_seen w.lens spot.station t.datagrams)) (own_here w.lens spot.station t.datagrams)) asks.halves

  -- what came back of them
  pub back_mine : fate_of t ≡ Pass → own spot.station (frame_of w.lens t).back ≡ frame_after spot.station slave (own_seen w.lens spot.station t.datagrams)
  back_mine is =
      let reached : is_reached t ≡ true = ap (λ (fate : Fate). is_met_at (length t.before) fate) is in
      ap (own spot.station) (back_is w.running w.lens t ∙ ap (λ (x : Fate). datagrams_seen w.lens (returned x t.before t.node t.behind t.datagrams)) is)
      ∙ own_is w.lens spot.station (come_back t.before t.node t.behind t.datagrams)
      ∙ subst (λ (a : ℕ). own_seen w.lens a (come_back t.before t.node t.behind t.datagrams) ≡ frame_after a slave (own_seen w.lens a t.datagrams)) lives.station (ring_met reached).back

  -- the slave that met them
  met_mine : is_reached t ≡ true → node_after spot.station slave.node (grams (own_seen w.lens spot.station t.datagrams)) ≡ node_of t.node.kept (registers_after r comes) (w.sees (registers_seen r).state t.node.server)
  met_mine reached =
      sym (node_same spot.station slave (own_seen w.lens spot.station t.datagrams))
      ∙ subst (λ (a : ℕ). (slave_after a slave (own_seen w.lens a t.datagrams)).node ≡ node_of t.node.kept (registers_after r comes) (w.sees (registers_seen r).state t.node.server)) lives.station (ap (λ (s : Slave V Body). s.node) (sym (ring_met reached).slave))

  abbrev On : InHalf → Esc.Registers → Type 0
  On k q = GoesOn half.inn (in_side t.node.kept r) k (in_side t.node.kept q)

  -- THE HALF BEHIND THE FRAME, and the slave that the frame left
  pub half_goes : IsAsked half.inn (in_side t.node.kept r) → (z : Fate) → fate_of t ≡ z → On (era_behind w more passed spot fs t pick news (fate_seen z) e).side.halves.inn (node_met t).registers
  half_goes asked Pass is =
      let reached : is_reached t ≡ true = ap (λ (fate : Fate). is_met_at (length t.before) fate) is in
      let ds = own_seen w.lens spot.station t.datagrams in
      let goes = all_back spot.station half.inn (in_side t.node.kept r) half.out.holding (Some half.inn) (grams ds) sent_so (own_here w.lens spot.station t.datagrams) half slave.node (refl, refl) (first half.inn (in_side t.node.kept r) asked) in
      subst (λ (b : Bool). On (era_behind w more passed spot fs t pick news (fate_seen Pass) e).side.halves.inn (met b t.node comes).registers) (sym reached)
      (subst (λ (gs : List (Gram Body)). On (halves_after spot.station half gs).inn (registers_after r comes)) (sym (ap grams (back_mine is) ∙ grams_same spot.station slave ds))
      (subst (λ (n : Node Body (Serving V Body)). GoesOn half.inn (in_side t.node.kept r) (halves_after spot.station half (grams_after spot.station slave.node (grams ds))).inn n.inn) (met_mine reached) goes))
  half_goes asked (Lost after) is = subst (λ (gs : List (Datagram Body)). On (halves_without spot.station half (grams gs)).inn (node_met t).registers) (sym mine_is) (by (is_reached t) refl)
    where
      by : (b : Bool) → is_reached t ≡ b → On (halves_without spot.station half (grams (own_seen w.lens spot.station t.datagrams))).inn (met b t.node comes).registers
      by true reached =
          subst (λ (n : Node Body (Serving V Body)). GoesOn half.inn (in_side t.node.kept r) (halves_without spot.station half (grams (own_seen w.lens spot.station t.datagrams))).inn n.inn) (met_mine reached)
          (all_lost spot.station half.inn (in_side t.node.kept r) half.out.holding (Some half.inn) (grams (own_seen w.lens spot.station t.datagrams)) sent_so (own_here w.lens spot.station t.datagrams) half slave.node (refl, refl) (first half.inn (in_side t.node.kept r) asked))
      by false reached =
          all_unmet half.inn (in_side t.node.kept r) spot.station (in_side t.node.kept r) half.out.holding (Some half.inn) (grams (own_seen w.lens spot.station t.datagrams)) sent_so (own_here w.lens spot.station t.datagrams) half (refl, refl) (first half.inn (in_side t.node.kept r) asked)

  -- AND BEHIND THE STEP
  module _ (stepped_yet same : Bool) (prior : Asked stepped_yet e.side.halves.inn r) (k : InHalf) (on : On k (node_met t).registers) (one : same ≡ true → k.state ≡ InState.Asked → e.side.halves.inn.state ≡ InState.Asked) where
    both : (a b : Bool) → (a && b) ≡ true → (a ≡ true) × (b ≡ true)
    both true true x = (refl, refl)
    both true false x = absurd (cc)
    both false b x = absurd (cc)

    was : same ≡ true → k.state ≡ InState.Asked → half.inn.state ≡ InState.Asked
    was s a = ap (λ h. h.state) half_same ∙ one s a

    pub stands_on : Asked (stepped_behind t.pace t.ring.number same stepped_yet) k (node_behind w.running t).registers
    stands_on = by (is_in_pace t.pace t.ring.number) refl
      where
        by : (b : Bool) → is_in_pace t.pace t.ring.number ≡ b → Asked (stepped_behind t.pace t.ring.number same stepped_yet) k (if b then stepped w.running (node_met t) else node_met t).registers
        by true now =
            let ack = acknowledges w.running (node_met t) whole.behind.clears (met_runs w.running (is_reached t) t.node comes lives.runs) (f.roomy now) in
            record { request = λ a. ack.0 ∙ on.asked a; acknowledge = λ a s. ack.1 ∙ on.asked a }
        by false none = record {
          request = λ a. on.asked a;
          acknowledge = λ a s.
              let parts = both same stepped_yet (sym (clock_out t.pace t.ring.number same stepped_yet none) ∙ s) in
              let asked = one parts.0 a in
              on.acknowledge (was parts.0 a) ∙ prior.acknowledge asked parts.1 ∙ ap (λ h. h.bit) (sym half_same) ∙ sym (on.bit (was parts.0 a));
        }
