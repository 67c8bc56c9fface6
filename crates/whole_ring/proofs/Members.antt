-- ALL SLAVES OF THE RING by a frame: all lives are lived on.
use Rattle.std.proofs.Common.{◌≡◌, ℕ, suc, ◌+◌, ◌<◌, ◌==◌, Bool, List, [], ◌∷◌, ◌++◌, map, length, refl, ap, ap₂, sym, ◌∙◌, subst, arith, length-append}
use Rattle.std.specs.Prelude.{if◌then◌else◌}
use Rattle.slave_lives.specs.of_datagrams.Datagram as Raw
use Rattle.slave_lives.specs.of_datagrams.Frame.{IsFrame, chained}
use Rattle.slave_lives.specs.of_slave_node.Passing.{datagrams_after}
use Rattle.slave_lives.specs.of_frame_view.View.{Lens}
use Rattle.slave_lives.specs.of_link_mails.Body.{Body}
use Rattle.slave_lives.specs.of_segment_model.Record.{Frame}
use Rattle.slave_lives.specs.of_segment_ring.declared.wire.Fate.{Fate}
use Rattle.slave_lives.specs.of_segment_ring.Ring.{RingState, is_in_pace, nodes_stepped, frame_met, ring_behind}
use Rattle.slave_lives.specs.of_segment_ring.Schedule.{fate_at}
use Rattle.slave_lives.specs.of_slave_node.Node.{Node, node_passed}
use Rattle.slave_lives.specs.of_life_model.Lives.{Spot, Stand}
use Rattle.slave_lives.specs.of_frame_view.Frames.{FrameFor}
use Rattle.slave_lives.specs.of_frame_view.Shares.{Asked}
use Rattle.slave_lives.specs.of_mailbox_slave.Registers.{in_len}
use Rattle.slave_lives.specs.Lived.{Behind, RingFrame, node_behind}
use Rattle.slave_lives.specs.Nodes.{stepped}
use Rattle.slave_lives.specs.Opening.{Plan, IsPlan}
use Rattle.slave_lives.specs.Rings.{come_to, fate_seen, is_met_at, met, turned}
use Rattle.slave_lives.specs.Seats as Seats
use Rattle.slave_lives.specs.Seats.{Seat, KnownAs, AllSeats, AllCome, AllMeet, ComesAs, nodes_of}
use Rattle.slave_lives.proofs.AllSeats.{all_meet_first}
use Rattle.whole_ring.specs.Turns.{FrameComes, plan_at, seat_at}
use Rattle.whole_ring.specs.Whole.{IsLived}
use Rattle.whole_ring.proofs.Kept.{met_server}
use Rattle.whole_ring.proofs.Seated as Seated
use Rattle.whole_ring.specs.Members.{Member, HandBoots, IsElsewhere, AreDistinct, MemberIs, AllLived, IsRing}
use Rattle.whole_ring.specs.Turning.{Turn, TurnsFor, AllTurn, frame_at, next_life, life_by, behind_frame}
use Rattle.whole_ring.proofs.Frames.{comes_as}
use Rattle.whole_ring.proofs.Nodes.{met_all, frame_met_all}
use Rattle.whole_ring.proofs.Turning as One

module _ {S V A Q R : Type 0} where
  abbrev pub node_in : Member S V A Q R → Node S
  node_in m = m.node

  abbrev pub pace_in : Member S V A Q R → ℕ
  pace_in m = m.pace

  abbrev pub seat_of : Member S V A Q R → Seat S
  seat_of m = seat_at m.services m.plan m.life.stand m.node

  -- lists of a ring around one slave
  pub split_map : {X : Type 0} (g : Member S V A Q R → X) (bs : List (Member S V A Q R)) (m : Member S V A Q R) (cs : List (Member S V A Q R)) → map g (bs ++ m ∷ cs) ≡ map g bs ++ g m ∷ map g cs
  split_map g [] m cs = refl
  split_map g (b ∷ bs) m cs = ap (λ l. g b ∷ l) (split_map g bs m cs)

  pub many : {X : Type 0} (g : Member S V A Q R → X) (ms : List (Member S V A Q R)) → length (map g ms) ≡ length ms
  many g [] = refl
  many g (m ∷ ms) = ap suc (many g ms)

  nodes_same : (ms : List (Member S V A Q R)) → map node_in ms ≡ nodes_of (map seat_of ms)
  nodes_same [] = refl
  nodes_same (m ∷ ms) = ap (λ l. m.node ∷ l) (nodes_same ms)

  pub joined : (bs : List (Member S V A Q R)) (m : Member S V A Q R) (cs : List (Member S V A Q R)) → (bs ++ m ∷ []) ++ cs ≡ bs ++ m ∷ cs
  joined [] m cs = refl
  joined (b ∷ bs) m cs = ap (λ l. b ∷ l) (joined bs m cs)

  pub one_more : (bs : List (Member S V A Q R)) (m : Member S V A Q R) → length (bs ++ m ∷ []) ≡ suc (length bs)
  one_more [] m = refl
  one_more (b ∷ bs) m = ap suc (one_more bs m)

  pub comes_past : (bs : List (Member S V A Q R)) (m : Member S V A Q R) (ds : List Raw.Datagram) → come_to (map node_in (bs ++ m ∷ [])) ds ≡ datagrams_after m.node.registers (come_to (map node_in bs) ds)
  comes_past [] m ds = refl
  comes_past (b ∷ bs) m ds = comes_past bs m (datagrams_after b.node.registers ds)

  -- stations
  seats_elsewhere : (p : Plan) (stand : Stand) (ms : List (Member S V A Q R)) → IsElsewhere p.station ms → Seats.IsElsewhere (plan_at p stand) (map seat_of ms)
  seats_elsewhere p stand [] other = tt
  seats_elsewhere p stand (m ∷ ms) other =
      (ap₂ (λ (a b : ℕ). a == b) (Seated.plan_station p stand) (Seated.plan_station m.plan m.life.stand) ∙ other.0, seats_elsewhere p stand ms other.1)

  pub seats_distinct : (ms : List (Member S V A Q R)) → AreDistinct ms → Seats.AreDistinct (map seat_of ms)
  seats_distinct [] distinct = tt
  seats_distinct (m ∷ ms) distinct = (seats_elsewhere m.plan m.life.stand ms distinct.0, seats_distinct ms distinct.1)

abbrev pub fate_in : {S : Type 0} → RingState (Node S) → Fate
fate_in ring = fate_at ring.lose ring.number

module _ {S V A Q R : Type 0} (lens : ℕ → Lens) (step : Node S → Node S) (fits : Spot → S → Type 0) (more : Body → Bool) (passed : Q → Bool) (fs : List (Frame Body)) (ring : RingState (Node S)) (octets : List ℕ) (gs : List Raw.Datagram) (is_frame : IsFrame octets (chained gs)) where
  -- what is known of each slave is what the ring's law asks for
  pub seats_known : (place : ℕ) (ms : List (Member S V A Q R)) → AllLived lens step fits fs place ms → AllSeats lens (map seat_of ms)
  seats_known place [] all = tt
  seats_known place (m ∷ ms) all = (
    record {
      plan_is = subst (λ (k : ℕ → Lens). IsPlan m.services.boot k (plan_at m.plan m.life.stand)) all.0.lens_is (One.plan_known m.services m.clearing m.plan m.spot all.0.whole fs m.node all.0.lived.from m.life.era m.life.stand all.0.lived.now);
      named = ap (λ (a : ℕ). 0 == a) (Seated.plan_station m.plan m.life.stand) ∙ all.0.named;
      known = subst (λ (k : ℕ → Lens). KnownAs m.services.running m.services.boot k (plan_at m.plan m.life.stand) m.life.stand m.node) all.0.lens_is
          (Seated.known m.services m.clearing m.plan m.spot all.0.whole all.0.lived.from m.life.era fs m.life.stand m.node all.0.lived.now);
    },
    seats_known (suc place) ms all.1,
  )

  -- the frame for one of them
  comes_to : (place : ℕ) (m : Member S V A Q R) (a : Turn Q) → place < 16 → MemberIs lens step fits fs place m → TurnsFor more passed lens (length fs) gs m a → ComesAs (plan_at m.plan m.life.stand) m.life.stand place 0 (chained gs)
  comes_to place m a near is x =
      let has = subst (λ (st : Stand). FrameFor lens m.spot st a.share gs) (One.next_stand more passed (length fs) m.services m.life a) x.asked.has in
      let out : (lens m.plan.station).out ≡ m.plan.out = subst (λ (k : ℕ → Lens). (k m.plan.station).out ≡ m.plan.out) is.lens_is is.whole.plan.lens_out in
      let back : (lens m.plan.station).back ≡ m.plan.back = subst (λ (k : ℕ → Lens). (k m.plan.station).back ≡ m.plan.back) is.lens_is is.whole.plan.lens_back in
      subst (λ (k : ℕ). ComesAs (plan_at m.plan m.life.stand) m.life.stand k 0 (chained gs)) is.at
      (comes_as lens m.plan m.spot is.whole.station out back m.life.stand a.share gs (let e = is.at in omega (arith, e, near)) is.whole.plan.station has)

  pub all_come : (place : ℕ) (ms : List (Member S V A Q R)) (turns : List (Turn Q)) → place + length ms < 17 → AllLived lens step fits fs place ms → AllTurn more passed lens (length fs) gs ms turns → AllCome place 0 (map seat_of ms) (chained gs)
  all_come place [] turns few all asks = tt
  all_come place (m ∷ ms) [] few all asks = absurd asks
  all_come place (m ∷ ms) (a ∷ turns) few all asks = (comes_to place m a (omega (arith, few)) all.0 asks.0, all_come (suc place) ms turns (omega (arith, few)) all.1 asks.1)

  -- THE NODES behind the frame and the steps
  stepped_all : (f : Frame Body) (place : ℕ) (ms : List (Member S V A Q R)) (turns : List (Turn Q)) (ds : List Raw.Datagram) → AllLived lens step fits fs place ms → AllTurn more passed lens (length fs) gs ms turns →
      nodes_stepped step (map pace_in ms) (length fs) (met_all (λ k. is_met_at k (fate_in ring)) place (map node_in ms) ds) ≡ map node_in (behind_frame more passed (length fs) f (fate_in ring) place ms turns ds)
  stepped_all f place [] [] ds all asks = refl
  stepped_all f place [] (a ∷ turns) ds all asks = absurd asks
  stepped_all f place (m ∷ ms) [] ds all asks = absurd asks
  stepped_all f place (m ∷ ms) (a ∷ turns) ds all asks =
      let n = met (is_met_at place (fate_in ring)) m.node ds in
      let same : step n ≡ stepped m.services.running n = all.0.serves.steps n (subst (fits m.spot) (sym (met_server (is_met_at place (fate_in ring)) m.node ds)) all.0.server) in
      ap₂ (λ (x : Node S) (l : List (Node S)). (if is_in_pace m.pace (length fs) then x else n) ∷ l) same (stepped_all f (suc place) ms turns (datagrams_after m.node.registers ds) all.1 asks.1)

  paces_stay : (f : Frame Body) (place : ℕ) (ms : List (Member S V A Q R)) (turns : List (Turn Q)) (ds : List Raw.Datagram) → AllTurn more passed lens (length fs) gs ms turns → map pace_in ms ≡ map pace_in (behind_frame more passed (length fs) f (fate_in ring) place ms turns ds)
  paces_stay f place [] [] ds asks = refl
  paces_stay f place [] (a ∷ turns) ds asks = absurd asks
  paces_stay f place (m ∷ ms) [] ds asks = absurd asks
  paces_stay f place (m ∷ ms) (a ∷ turns) ds asks = ap (λ l. m.pace ∷ l) (paces_stay f (suc place) ms turns (datagrams_after m.node.registers ds) asks.1)

  elsewhere_stays : (f : Frame Body) (station place : ℕ) (ms : List (Member S V A Q R)) (turns : List (Turn Q)) (ds : List Raw.Datagram) → IsElsewhere station ms → IsElsewhere station (behind_frame more passed (length fs) f (fate_in ring) place ms turns ds)
  elsewhere_stays f station place [] turns ds other = tt
  elsewhere_stays f station place (m ∷ ms) [] ds other = tt
  elsewhere_stays f station place (m ∷ ms) (a ∷ turns) ds other = (other.0, elsewhere_stays f station (suc place) ms turns (datagrams_after m.node.registers ds) other.1)

  distinct_stay : (f : Frame Body) (place : ℕ) (ms : List (Member S V A Q R)) (turns : List (Turn Q)) (ds : List Raw.Datagram) → AreDistinct ms → AreDistinct (behind_frame more passed (length fs) f (fate_in ring) place ms turns ds)
  distinct_stay f place [] turns ds distinct = tt
  distinct_stay f place (m ∷ ms) [] ds distinct = tt
  distinct_stay f place (m ∷ ms) (a ∷ turns) ds distinct =
      (elsewhere_stays f m.plan.station (suc place) ms turns (datagrams_after m.node.registers ds) distinct.0, distinct_stay f (suc place) ms turns (datagrams_after m.node.registers ds) distinct.1)

  -- EACH SLAVE among the others
  module _ (all : List (Member S V A Q R)) (r : IsRing lens step fits fs ring all) (meet : AllMeet (map seat_of all) (chained gs)) where
    module _ (bs : List (Member S V A Q R)) (m : Member S V A Q R) (cs : List (Member S V A Q R)) (a : Turn Q) (whole : bs ++ m ∷ cs ≡ all) (is : MemberIs lens step fits fs (length bs) m) (x : TurnsFor more passed lens (length fs) gs m a) where
      abbrev pub w : Behind S V A Q R
      w = m.services

      -- the frame as it is for the slave
      abbrev pub t : RingFrame S
      t = record {
        ring = ring;
        octets = octets;
        datagrams = chained gs;
        before = map node_in bs;
        node = m.node;
        behind = map node_in cs;
        front = map pace_in bs;
        pace = m.pace;
        rest = map pace_in cs;
        is_frame = is_frame;
        nodes = r.nodes ∙ ap (map node_in) (sym whole) ∙ split_map node_in bs m cs;
        paces = r.paces ∙ ap (map pace_in) (sym whole) ∙ split_map pace_in bs m cs;
        place = many pace_in bs ∙ sym (many node_in bs);
      }

      size : length bs + suc (length cs) ≡ length all
      size = sym (length-append bs (m ∷ cs)) ∙ ap length whole

      pub near : m.spot.place < 16
      near = let e = is.at in let s = size in let f = r.few in omega (arith, e, s, f)

      pub few : length (map node_in cs) < 16
      few = let e = many node_in cs in let s = size in let f = r.few in omega (arith, e, s, f)

      pub asked : Asked w.lens gs (record { spot = m.spot; life = next_life more passed (length fs) w m.life a }) a.share
      asked = subst (λ (k : ℕ → Lens). Asked k gs (record { spot = m.spot; life = next_life more passed (length fs) w m.life a }) a.share) (sym is.lens_is) x.asked

      pub comes : FrameComes w m.plan m.spot m.life.stand t
      comes = Seated.comes w m.plan m.spot m.life.stand t (map seat_of bs) (map seat_of cs) (nodes_same bs) (nodes_same cs) (many node_in bs ∙ sym is.at) is.named
          (subst (λ l. Seats.AreDistinct l) (ap (map seat_of) (sym whole) ∙ split_map seat_of bs m cs) (seats_distinct all r.distinct))
          (subst (λ l. AllMeet l (chained gs)) (ap (map seat_of) (sym whole) ∙ split_map seat_of bs m cs) meet)
          (comes_to m.spot.place m a near (record { whole = is.whole; lived = is.lived; at = refl; lens_is = is.lens_is; named = is.named; serves = is.serves; server = is.server; room = is.room; boots = is.boots }) x)
          (λ now. One.roomy w m.clearing m.plan m.spot is.whole m.first fs t near few m.life is.lived step (fits m.spot) is.serves is.server is.room)

      pub node_is : node_behind w.running t ≡ turned w.running m.pace (length fs) (met (is_met_at (length bs) (fate_in ring)) m.node (come_to (map node_in bs) (chained gs)))
      node_is = ap₂ (λ (number place : ℕ). turned w.running m.pace number (met (is_met_at place (fate_in ring)) m.node (come_to (map node_in bs) (chained gs)))) r.number (many node_in bs)

      member_on : MemberIs lens step fits (fs ++ frame_at lens ring octets ∷ []) (length bs) (record m {
        life = life_by more passed (length fs) (frame_at lens ring octets) (fate_seen (fate_in ring)) m.services m.spot m.life a;
        node = turned m.services.running m.pace (length fs) (met (is_met_at (length bs) (fate_in ring)) m.node (come_to (map node_in bs) (chained gs)));
      })
      member_on = record {
        whole = is.whole;
        lived = subst (λ (n : Node S). IsLived w m.clearing m.plan m.spot m.first (life_by more passed (length fs) (frame_at lens ring octets) (fate_seen (fate_in ring)) w m.spot m.life a) (fs ++ frame_at lens ring octets ∷ []) n) node_is
            (subst (λ (k : ℕ → Lens). IsLived w m.clearing m.plan m.spot m.first (life_by more passed (length fs) (frame_at k ring octets) (fate_seen (fate_in ring)) w m.spot m.life a) (fs ++ frame_at k ring octets ∷ []) (node_behind w.running t)) is.lens_is
            (One.lived_on w m.clearing m.plan m.spot is.whole m.first fs t near few m.life is.lived step (fits m.spot) is.serves is.server is.room more passed a gs refl comes asked is.boots x.boots));
        at = is.at;
        lens_is = is.lens_is;
        named = is.named;
        serves = is.serves;
        server = subst (λ (n : Node S). fits m.spot n.server) node_is (One.fits_behind w m.clearing m.plan m.spot is.whole m.first fs t near few m.life is.lived step (fits m.spot) is.serves is.server is.room);
        room = subst (λ (n : Node S). in_len n.registers ≡ m.plan.back) node_is (One.room_behind w m.clearing m.plan m.spot is.whole m.first fs t near few m.life is.lived step (fits m.spot) is.serves is.server is.room);
        boots = subst (λ (k : ℕ → Lens). HandBoots w.boot (life_by more passed (length fs) (frame_at k ring octets) (fate_seen (fate_in ring)) w m.spot m.life a).era.account.hand) is.lens_is
            (One.boots_on w m.clearing m.plan m.spot is.whole m.first fs t near few m.life is.lived step (fits m.spot) is.serves is.server is.room more passed a gs refl comes asked is.boots x.boots (fate_seen (fate_in ring)));
      }

    each_on : (bs cs : List (Member S V A Q R)) (turns : List (Turn Q)) → bs ++ cs ≡ all → AllLived lens step fits fs (length bs) cs → AllTurn more passed lens (length fs) gs cs turns →
        AllLived lens step fits (fs ++ frame_at lens ring octets ∷ []) (length bs) (behind_frame more passed (length fs) (frame_at lens ring octets) (fate_in ring) (length bs) cs turns (come_to (map node_in bs) (chained gs)))
    each_on bs [] [] whole lived asks = tt
    each_on bs [] (a ∷ turns) whole lived asks = absurd asks
    each_on bs (m ∷ cs) [] whole lived asks = absurd asks
    each_on bs (m ∷ cs) (a ∷ turns) whole lived asks = (
      member_on bs m cs a whole lived.0 asks.0,
      subst (λ ds. AllLived lens step fits (fs ++ frame_at lens ring octets ∷ []) (suc (length bs)) (behind_frame more passed (length fs) (frame_at lens ring octets) (fate_in ring) (suc (length bs)) cs turns ds)) (comes_past bs m (chained gs))
          (subst (λ (k : ℕ). AllLived lens step fits (fs ++ frame_at lens ring octets ∷ []) k (behind_frame more passed (length fs) (frame_at lens ring octets) (fate_in ring) k cs turns (come_to (map node_in (bs ++ m ∷ [])) (chained gs)))) (one_more bs m)
          (each_on (bs ++ m ∷ []) cs turns (joined bs m cs ∙ whole) (subst (λ (k : ℕ). AllLived lens step fits fs k cs) (sym (one_more bs m)) lived.1) asks.1)),
    )

  -- THE RING BEHIND THE FRAME
  pub ring_on : (ms : List (Member S V A Q R)) (turns : List (Turn Q)) → IsRing lens step fits fs ring ms → AllTurn more passed lens (length fs) gs ms turns →
      IsRing lens step fits (fs ++ frame_at lens ring octets ∷ []) (ring_behind node_passed step ring octets) (behind_frame more passed (length fs) (frame_at lens ring octets) (fate_in ring) 0 ms turns (chained gs))
  ring_on ms turns r asks =
      let f = frame_at lens ring octets in
      let meet = all_meet_first lens (map seat_of ms) (chained gs) (let e = many seat_of ms in let k = r.few in omega (arith, e, k)) (seats_distinct ms r.distinct) (seats_known 0 ms r.each) (all_come 0 ms turns (let k = r.few in omega (arith, k)) r.each asks) in
      record {
        few = (let e = ap length (paces_stay f 0 ms turns (chained gs) asks) in let a = many pace_in ms in let b = many pace_in (behind_frame more passed (length fs) f (fate_in ring) 0 ms turns (chained gs)) in let k = r.few in omega (arith, e, a, b, k));
        nodes = (λ i. nodes_stepped step (r.paces i) (r.number i) (frame_met node_passed (r.nodes i) octets (fate_in ring)).0) ∙ ap (nodes_stepped step (map pace_in ms) (length fs)) (frame_met_all (map node_in ms) octets (chained gs) (fate_in ring) is_frame) ∙ stepped_all f 0 ms turns (chained gs) r.each asks;
        paces = r.paces ∙ paces_stay f 0 ms turns (chained gs) asks;
        number = ap suc r.number ∙ sym (length-append fs (f ∷ []) ∙ (let plus : length fs + 1 ≡ suc (length fs) = omega arith in plus));
        distinct = distinct_stay f 0 ms turns (chained gs) r.distinct;
        each = each_on ms r meet [] ms turns refl r.each asks;
      }
