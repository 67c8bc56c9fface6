-- What the link model sees of seats, slaves and frames.
use Rattle.std.proofs.Common.{◌≡◌, ℕ, zero, suc, ◌==◌, if◌then◌else◌, List, [], ◌∷◌, ◌++◌, map, refl, ap, ◌∙◌}
use Rattle.exchange_model.specs.Exchange.{Exchange}
use Rattle.link_model.specs.Frames.{gram_meets, node_after, grams_after, halves_after, all_accepted}
use Rattle.link_model.specs.Segment.{RingFate, Member, frame_back, members_back, members_lost, members_after}
use Rattle.link_model.specs.Segment
use Rattle.link_model.specs.Frames
use Rattle.segment_model.specs.Slaves.{Serving, Datagram, grams, Slave, slave_meets, slave_after, frame_after, all_back}
use Rattle.segment_model.specs.Seats.{Seat, link_of, ring_of, stations_of, seats_back, seats_lost, seats_after, side_lost, IsFrame}

-- a slave's mailboxes behind a frame, and what a link sees of the frame behind it
pub node-slave_after : {V M : Type 0} (station : ℕ) (s : Slave V M) (ds : List (Datagram M)) → (slave_after station s ds).node ≡ node_after station s.node (grams ds)
node-slave_after station s [] = refl
node-slave_after station s (d ∷ ds) = node-slave_after station (slave_meets station s d) ds

pub grams-frame_after : {V M : Type 0} (station : ℕ) (s : Slave V M) (ds : List (Datagram M)) → grams (frame_after station s ds) ≡ grams_after station s.node (grams ds)
grams-frame_after station s [] = refl
grams-frame_after station s (d ∷ ds) = ap (λ l. (if d.gram.station == station then gram_meets s.node d.gram.ask d.gram else d.gram) ∷ l) (grams-frame_after station (slave_meets station s d) ds)

abbrev pub member_of : {V M Q R : Type 0} → Seat V M Q R → Member M (Serving V M)
member_of s = record { station = s.station; link = link_of s }

abbrev pub members : {V M Q R : Type 0} → List (Seat V M Q R) → List (Member M (Serving V M))
members ss = map (λ s. member_of s) ss

pub stations-members : {V M Q R : Type 0} (ss : List (Seat V M Q R)) → Segment.stations_of (members ss) ≡ stations_of ss
stations-members [] = refl
stations-members (s ∷ ss) = ap (λ l. s.station ∷ l) (stations-members ss)

pub frame_for : {V M Q R : Type 0} (ss : List (Seat V M Q R)) (ds : List (Datagram M)) → IsFrame ss ds → Segment.IsFrame (members ss) (grams ds)
frame_for [] ds f = tt
frame_for (s ∷ ss) ds f = (f.0, frame_for ss ds f.1)

pub back-members : {V M Q R : Type 0} (ss : List (Seat V M Q R)) (ds : List (Datagram M)) → grams (all_back (ring_of ss) ds) ≡ frame_back (Segment.ring_of (members ss)) (grams ds)
back-members [] ds = refl
back-members (s ∷ ss) ds =
    back-members ss (frame_after s.station s.slave ds) ∙ ap (frame_back (Segment.ring_of (members ss))) (grams-frame_after s.station s.slave ds)

module _ {V A M Q R : Type 0} (x : Exchange V A M Q R) where
  pub members-seats_back : (frame : ℕ) (ss : List (Seat V M Q R)) (ds back : List (Datagram M)) → members (seats_back x frame ss ds back) ≡ members_back (members ss) (grams ds) (grams back)
  members-seats_back frame [] ds back = refl
  members-seats_back frame (s ∷ ss) ds back =
      let node = node-slave_after s.station s.slave ds in
      let tail = members-seats_back frame ss (frame_after s.station s.slave ds) back ∙ ap (λ gs. members_back (members ss) gs (grams back)) (grams-frame_after s.station s.slave ds) in
      λ i. record {
        station = s.station;
        link = record {
          halves = halves_after s.station s.side.halves (grams back);
          node = node i;
          held = s.held;
          taken = s.taken;
          offered = s.offered;
          accepted = s.accepted ++ all_accepted s.station s.side.halves (grams back);
        };
      } ∷ tail i

  pub members-seats_lost : (after : ℕ) (ss : List (Seat V M Q R)) (ds sent : List (Datagram M)) → members (seats_lost after ss ds sent) ≡ members_lost after (members ss) (grams ds) (grams sent)
  members-seats_lost after [] ds sent = refl
  members-seats_lost zero (s ∷ ss) ds sent = (let tail = members-seats_lost zero ss ds sent in λ i. member_of (record s { side = side_lost s.station sent s.side }) ∷ tail i)
  members-seats_lost (suc k) (s ∷ ss) ds sent =
      let node = node-slave_after s.station s.slave ds in
      let tail = members-seats_lost k ss (frame_after s.station s.slave ds) sent ∙ ap (λ gs. members_lost k (members ss) gs (grams sent)) (grams-frame_after s.station s.slave ds) in
      λ i. record {
        station = s.station;
        link = record {
          halves = Frames.halves_without s.station s.side.halves (grams sent);
          node = node i;
          held = s.held;
          taken = s.taken;
          offered = s.offered;
          accepted = s.accepted;
        };
      } ∷ tail i

  -- the links of the seats behind a frame are the members behind it
  pub members-seats_after : (frame : ℕ) (ss : List (Seat V M Q R)) (ds : List (Datagram M)) (fate : RingFate) → members (seats_after x frame ss ds fate) ≡ members_after (members ss) (grams ds) fate
  members-seats_after frame ss ds RingFate.Back =
      members-seats_back frame ss ds (all_back (ring_of ss) ds) ∙ ap (members_back (members ss) (grams ds)) (back-members ss ds)
  members-seats_after frame ss ds (RingFate.Lost after) = members-seats_lost after ss ds ds
