-- What comes next of an open epoch is due.
use Rattle.std.proofs.Common.{◌≡◌, inl, inr, ℕ, Bool, true, false, List, [], ◌∷◌, ◌++◌, refl, sym, ap, ◌∙◌, append_assoc}
use Rattle.slave_server.specs.of_exchange_model.Exchange.{Exchange, IsLawful}
use Rattle.slave_server.specs.of_exchange_model.Prefix.{IsPrefixOf}
use Rattle.slave_server.specs.of_slave_model.Hears.{HearsFirst}
use Rattle.whole_ring.specs.of_life_model.Eras.{EraIs, era_frames, planned}
use Rattle.whole_ring.specs.of_life_model.Lives.{Spot, Era}
use Rattle.whole_ring.specs.of_link_model.Frames.{IsFrameFor, all_accepted}
use Rattle.whole_ring.specs.of_link_model.Segment.{RingFate}
use Rattle.slave_server.proofs.of_link_model.Law.{accepted_of_offered}
use Rattle.run_frames.specs.of_master_side.Due.{IsDue, EachDue}
use Rattle.slave_server.specs.of_segment_model.Record.{Frame}
use Rattle.slave_server.specs.of_segment_model.Seats.{Seat, link_of, seat_next, seat_back}
use Rattle.slave_server.specs.of_segment_model.Slaves.{Datagram, Processor, Registers, Slave, grams, frame_after}
use Rattle.slave_server.proofs.of_segment_model.Sounds.{SeatAgrees, frame_agrees, next_agrees}
use Rattle.slave_server.specs.of_state_model.Stated.{Stated, IsStated}
use Rattle.slave_server.specs.of_state_model.Promises.{IsTable}
use Rattle.slave_server.specs.of_state_model.States.{Table}
use Rattle.slave_server.specs.of_state_model.Accounts.{Account, Pick, account_next, mails_choice}
use Rattle.run_frames.proofs.of_state_model.Begins.{carried_next}
use Rattle.run_frames.proofs.of_state_model.Ghosts.{Carried}
use Rattle.run_frames.proofs.of_state_model.Newest.{Holds}
use Rattle.run_frames.proofs.of_state_model.Sessions.{of_slaves}
use Rattle.run_frames.proofs.of_state_model.Stately.{state_over, free_state}
use Rattle.plan_ring.specs.Brings.{BringsDue}
use Rattle.plan_ring.proofs.Seats.{awaited}

module _ {V A M Q R : Type 0} (x : Exchange V A M Q R) (law : IsLawful x) (hears : HearsFirst x) (s : Stated V A Q) (stated : IsStated x s) where
  module _ (table : Table) (begun : ℕ) (is : IsTable table begun) (fs : List (Frame M)) (seat : Seat V M Q R) (a : Account Q R) (h : Holds x law s stated table (λ m. false) begun is fs seat a) (frame : ℕ) (pick : Pick Q) (sent : List (Datagram M)) where
    abbrev next : Seat V M Q R
    next = seat_next x frame seat (mails_choice a pick)

    abbrev brought : List M
    brought = all_accepted seat.station next.side.halves (grams (frame_after seat.station seat.slave sent))

    carried : Carried x law s table (state_over table begun a.over) next (account_next x.speech s.acknowledged frame seat.side a pick)
    carried = carried_next x law s table stated (state_over table begun a.over) seat a frame pick h.ready h.agrees (λ hand. (free_state table begun is seat.station fs seat.slave.registers a h.stately hand).0) h.carried

    first : (bs : List M) → IsPrefixOf (seat.accepted ++ bs) (seat.offered ++ seat.slave.node.server.waiting) → EachDue x.speech next.side.now bs
    first [] comes = tt
    first (b ∷ bs) comes = kind (x.speech.emission b) refl
      where
        one : IsPrefixOf (seat.accepted ++ b ∷ []) (seat.offered ++ seat.slave.node.server.waiting)
        one = (bs ++ comes.0, append_assoc (seat.accepted) (b ∷ []) (bs ++ comes.0) ∙ sym (append_assoc seat.accepted (b ∷ bs) comes.0) ∙ comes.1)

        kind : (k : Bool) → x.speech.emission b ≡ k → IsDue x.speech next.side.now b
        kind true e = inl e
        kind false e = inr (awaited x law hears s stated table (state_over table begun a.over) next (account_next x.speech s.acknowledged frame seat.side a pick) h.ready carried b e one)

    pub seat_due : IsFrameFor seat.station next.side.halves (grams sent) → EachDue x.speech next.side.now brought
    seat_due asks =
        let agrees : SeatAgrees x (seat_back x frame next sent (frame_after seat.station seat.slave sent)) =
        (frame_agrees x frame (next ∷ []) sent RingFate.Back (tt, tt) (asks, tt) (next_agrees x frame seat (mails_choice a pick) h.agrees, tt)).0 in
        let more = accepted_of_offered (link_of (seat_back x frame next sent (frame_after seat.station seat.slave sent))) agrees in
        first brought (
          more.0 ++ seat.slave.node.server.waiting,
          sym (append_assoc (seat.accepted ++ brought) more.0 seat.slave.node.server.waiting) ∙ ap (λ l. l ++ seat.slave.node.server.waiting) (sym more.1),
        )

  pub era_due : (processor : Processor V) (table : ℕ → Table) (spot : Spot) (e : Era M Q R) (opened end : ℕ) (fs : List (Frame M)) (v : V) (r : Registers) (slave : Slave V M) → EraIs x s processor table spot e opened end fs v r slave → BringsDue x.speech spot.station e.side e.account slave
  era_due processor table spot e opened end fs v r slave is =
      (of_slaves x law s stated processor table (λ m. false) is.plan.tells (planned spot v r ∷ []) is.plan ((spot.station, e.side) ∷ []) (e.account ∷ []) ((spot.station, slave) ∷ []) (era_frames spot opened end fs) is.tasked
      (λ t gs station start d a n. BringsDue x.speech station d a n) (λ t begun sits gs seat a h frame pick sent asks. seat_due t begun sits gs seat a h frame pick sent asks)).0.2 is.answers
