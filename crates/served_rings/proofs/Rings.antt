-- ALL SLAVES OF A RING by a frame: the lives are led on.
use Rattle.std.proofs.Common.{◌≡◌, ℕ, suc, Bool, List, [], ◌∷◌, ◌++◌, map, length, take, drop, refl, ap, ap₂, sym, ◌∙◌, subst, arith}
use Rattle.served_places.specs.of_datagrams.Datagram as Raw
use Rattle.served_places.specs.of_datagrams.Frame.{IsFrame, chained}
use Rattle.run_work.specs.of_frame_view.View.{Lens}
use Rattle.served_places.specs.of_life_model.Lives.{Spot, Life, new_life}
use Rattle.served_places.specs.of_link_mails.Body.{Body}
use Rattle.run_work.specs.of_master_side.Counts.{counts_on, kept_on}
use Rattle.served_places.specs.of_segment_model.Record.{Frame, News}
use Rattle.served_places.specs.of_segment_ring.Ring.{RingState}
use Rattle.run_work.specs.of_slave_lives.Lived.{RingFrame, frame_of, node_behind}
use Rattle.run_work.specs.of_slave_lives.Rings.{come_to, fate_seen, is_met_at, met, turned}
use Rattle.run_work.specs.of_slave_lives.Seats.{AllMeet}
use Rattle.run_work.specs.of_slave_node.Node.{Node}
use Rattle.run_work.specs.of_whole_ring.Turns as Whole
use Rattle.run_work.specs.of_whole_ring.Members.{Member, MemberIs, AllLived, IsRing, IsNew, AllNew}
use Rattle.run_work.specs.of_whole_ring.Turning.{Turn, TurnsFor, AllTurn, frame_at, life_by, behind_frame}
use Rattle.run_work.proofs.of_whole_ring.Members as Members
use Rattle.run_work.proofs.of_whole_ring.Members.{node_in, fate_in, seat_of, joined, one_more, comes_past, many, seats_distinct, seats_known, all_come}
use Rattle.run_work.proofs.of_whole_ring.Turning as One
use Rattle.run_work.proofs.of_slave_lives.AllSeats.{all_meet_first}
use Rattle.served_rings.specs.Lives.{news_of, recorded_of}
use Rattle.served_rings.specs.StoodLives.{AllStoodMembers, IsFirst, IsStoodLived, StoodMember, others}
use Rattle.served_rings.proofs.Stood as Stood
use Rattle.served_rings.specs.LedRings.{Counters, LedMember, AllLedMembers, AllTold, counters_next, all_counters}

module _ {S V A Q R : Type 0} (lens : ℕ → Lens) (step : Node S → Node S) (fits : Spot → S → Type 0) (more : Body → Bool) (passed : Q → Bool) (fs : List (Frame Body)) (ring : RingState (Node S)) (octets : List ℕ) (gs : List Raw.Datagram) (is_frame : IsFrame octets (chained gs)) where
  module _ (all : List (Member S V A Q R)) (r : IsRing lens step fits fs ring all) (meet : AllMeet (map seat_of all) (chained gs)) where
    -- ONE OF THEM
    module _ (bs : List (Member S V A Q R)) (m : Member S V A Q R) (cs : List (Member S V A Q R)) (a : Turn Q) (whole : bs ++ m ∷ cs ≡ all) (is : MemberIs lens step fits fs (length bs) m) (x : TurnsFor more passed lens (length fs) gs m a) (k : Counters)
        (stood : ℕ → Node S → Type 0) (here : stood (length fs) (turned m.services.running m.pace (length fs) (met (is_met_at (length bs) (fate_in ring)) m.node (come_to (map node_in bs) (chained gs))))) (led : StoodMember more passed stood fs m k) (told : a.news ≡ news_of m.spot.station k.kept k.counts (frame_at lens ring octets)) where
      abbrev t : RingFrame S
      t = Members.t lens step fits more passed fs ring octets gs is_frame all r meet bs m cs a whole is x

      -- what is shown of it, by the lengths at the stations, the number of the frame, its life and its node
      abbrev Shown : (ℕ → Lens) → ℕ → Life Body Q R → Node S → Type 0
      Shown ls number l n = IsStoodLived m.services more passed m.spot stood m.clearing.cleared m.plan (kept_on m.life.stand m.spot.station k.kept (recorded_of (frame_at ls ring octets)))
          (counts_on m.life.stand m.spot.station m.pace number (recorded_of (frame_at ls ring octets)).back k.counts) m.first l (fs ++ frame_at ls ring octets ∷ []) n

      news_here : a.news ≡ news_of m.spot.station k.kept k.counts (frame_at m.services.lens ring octets)
      news_here = subst (λ (ls : ℕ → Lens). a.news ≡ news_of m.spot.station k.kept k.counts (frame_at ls ring octets)) (sym is.lens_is) told

      led_on : StoodMember more passed stood (fs ++ frame_at lens ring octets ∷ []) (record m {
        life = life_by more passed (length fs) (frame_at lens ring octets) (fate_seen (fate_in ring)) m.services m.spot m.life a;
        node = turned m.services.running m.pace (length fs) (met (is_met_at (length bs) (fate_in ring)) m.node (come_to (map node_in bs) (chained gs)));
      }) (counters_next (length fs) (frame_at lens ring octets) m k)
      led_on =
          let w = m.services in
          let near = Members.near lens step fits more passed fs ring octets gs is_frame all r meet bs m cs a whole is x in
          let few = Members.few lens step fits more passed fs ring octets gs is_frame all r meet bs m cs a whole is x in
          let comes = Members.comes lens step fits more passed fs ring octets gs is_frame all r meet bs m cs a whole is x in
          let asked = Members.asked lens step fits more passed fs ring octets gs is_frame all r meet bs m cs a whole is x in
          let came = One.came w m.clearing m.plan m.spot is.whole m.first fs t near few m.life is.lived step (fits m.spot) is.serves is.server is.room more passed a gs refl comes asked is.boots x.boots in
          let fate = (frame_of w.lens t).fate in
          let turn = subst (λ (ns : List (News Body)). Whole.TurnsAs w more passed m.plan m.spot fs t a.pick ns came m.life.era m.life.stand) news_here
          (One.turns_as w m.clearing m.plan m.spot is.whole m.first fs t near few m.life is.lived step (fits m.spot) is.serves is.server is.room more passed a gs refl comes asked is.boots x.boots m.life.stand refl) in
          let node_is = Members.node_is lens step fits more passed fs ring octets gs is_frame all r meet bs m cs a whole is x in
          let lived = Stood.turns w m.clearing m.plan m.spot is.whole more passed stood m.first m.life fs t a.pick came k.kept k.counts (subst (stood (length fs)) (sym node_is) here) led comes turn in
          let life_is : Whole.life_by w more passed m.spot fs t a.pick (news_of m.spot.station k.kept k.counts (frame_at w.lens ring octets)) came fate m.life m.life.stand ≡ life_by more passed (length fs) (frame_at w.lens ring octets) fate w m.spot m.life a =
          ap (λ (ns : List (News Body)). Whole.life_by w more passed m.spot fs t a.pick ns came fate m.life m.life.stand) (sym news_here)
          ∙ One.same_life w m.clearing m.plan m.spot is.whole m.first fs t near few m.life is.lived step (fits m.spot) is.serves is.server is.room more passed a gs refl comes asked is.boots x.boots fate in
          subst (λ (n : Node S). Shown lens (length fs) (life_by more passed (length fs) (frame_at lens ring octets) (fate_seen (fate_in ring)) w m.spot m.life a) n) node_is
          (subst (λ (number : ℕ). Shown lens number (life_by more passed (length fs) (frame_at lens ring octets) (fate_seen (fate_in ring)) w m.spot m.life a) (node_behind w.running t)) r.number
          (subst (λ (ls : ℕ → Lens). Shown ls ring.number (life_by more passed (length fs) (frame_at ls ring octets) (fate_seen (fate_in ring)) w m.spot m.life a) (node_behind w.running t)) is.lens_is
          (subst (λ (l : Life Body Q R). Shown w.lens ring.number l (node_behind w.running t)) life_is lived)))

    -- THE NODES BEHIND THE FRAME of those from a place on
    abbrev nodes_on : List (Member S V A Q R) → ℕ → List (Member S V A Q R) → List (Turn Q) → List (Node S)
    nodes_on bs place cs turns = map (λ (m : Member S V A Q R). m.node) (behind_frame more passed (length fs) (frame_at lens ring octets) (fate_in ring) place cs turns (come_to (map node_in bs) (chained gs)))

    each_on : (bs cs : List (Member S V A Q R)) (ks : List Counters) (turns : List (Turn Q)) (nodes : ℕ → List (Node S)) → nodes (suc (length fs)) ≡ nodes_on bs (length bs) cs turns → bs ++ cs ≡ all →
        AllLived lens step fits fs (length bs) cs → AllTurn more passed lens (length fs) gs cs turns → AllStoodMembers more passed nodes fs cs ks → AllTold more passed (frame_at lens ring octets) cs ks turns →
        AllStoodMembers more passed nodes (fs ++ frame_at lens ring octets ∷ []) (behind_frame more passed (length fs) (frame_at lens ring octets) (fate_in ring) (length bs) cs turns (come_to (map node_in bs) (chained gs))) (all_counters (length fs) (frame_at lens ring octets) cs ks)
    each_on bs [] [] turns nodes now whole lived asks led told = tt
    each_on bs [] (k ∷ ks) turns nodes now whole lived asks led told = absurd led
    each_on bs (m ∷ cs) [] turns nodes now whole lived asks led told = absurd led
    each_on bs (m ∷ cs) (k ∷ ks) [] nodes now whole lived asks led told = absurd asks
    each_on bs (m ∷ cs) (k ∷ ks) (a ∷ turns) nodes now whole lived asks led told =
        let f = frame_at lens ring octets in
        let behind : ℕ → List Raw.Datagram → List (Member S V A Q R) = λ n ds. behind_frame more passed (length fs) f (fate_in ring) n cs turns ds in
        let rest : others nodes (suc (length fs)) ≡ nodes_on (bs ++ m ∷ []) (length (bs ++ m ∷ [])) cs turns =
        ap (drop 1) now ∙ ap₂ (λ (n : ℕ) (ds : List Raw.Datagram). map (λ (z : Member S V A Q R). z.node) (behind n ds)) (sym (one_more bs m)) (sym (comes_past bs m (chained gs))) in (
          led_on bs m cs a whole lived.0 asks.0 k (IsFirst nodes) (ap (take 1) now) led.0 told.0,
          subst (λ ds. AllStoodMembers more passed (others nodes) (fs ++ f ∷ []) (behind (suc (length bs)) ds) (all_counters (length fs) f cs ks)) (comes_past bs m (chained gs))
              (subst (λ (n : ℕ). AllStoodMembers more passed (others nodes) (fs ++ f ∷ []) (behind n (come_to (map node_in (bs ++ m ∷ [])) (chained gs))) (all_counters (length fs) f cs ks)) (one_more bs m)
              (each_on (bs ++ m ∷ []) cs ks turns (others nodes) rest (joined bs m cs ∙ whole) (subst (λ (n : ℕ). AllLived lens step fits fs n cs) (sym (one_more bs m)) lived.1) asks.1 led.1 told.1)),
        )

  -- BEHIND THE FRAME, where these are the slaves then
  pub led_turns : (ms : List (Member S V A Q R)) (ks : List Counters) (turns : List (Turn Q)) (nodes : ℕ → List (Node S)) →
      nodes (suc (length fs)) ≡ map (λ (m : Member S V A Q R). m.node) (behind_frame more passed (length fs) (frame_at lens ring octets) (fate_in ring) 0 ms turns (chained gs)) →
      IsRing lens step fits fs ring ms → AllTurn more passed lens (length fs) gs ms turns → AllStoodMembers more passed nodes fs ms ks → AllTold more passed (frame_at lens ring octets) ms ks turns →
      AllStoodMembers more passed nodes (fs ++ frame_at lens ring octets ∷ []) (behind_frame more passed (length fs) (frame_at lens ring octets) (fate_in ring) 0 ms turns (chained gs)) (all_counters (length fs) (frame_at lens ring octets) ms ks)
  led_turns ms ks turns nodes now r asks led told =
      let meet = all_meet_first lens (map seat_of ms) (chained gs) (let e = many seat_of ms in let n = r.few in omega (arith, e, n)) (seats_distinct ms r.distinct)
      (seats_known lens step fits more passed fs ring octets gs is_frame 0 ms r.each) (all_come lens step fits more passed fs ring octets gs is_frame 0 ms turns (let n = r.few in omega (arith, n)) r.each asks) in
      each_on ms r meet [] ms ks turns nodes now refl r.each asks led told

-- FROM THE MOMENT the slaves are switched on, whatever the counters are, since none is open
pub led_begins : {S V A Q R : Type 0} (lens : ℕ → Lens) (step : Node S → Node S) (fits : Spot → S → Type 0) (more : Body → Bool) (passed : Q → Bool) (place : ℕ) (ms : List (Member S V A Q R)) (ks : List Counters) (nodes : ℕ → List (Node S)) → length ks ≡ length ms → AllNew lens step fits place ms →
    AllStoodMembers more passed nodes [] ms ks
led_begins lens step fits more passed place [] [] nodes e new = tt
led_begins lens step fits more passed place [] (k ∷ ks) nodes e new = absurd (cc)
led_begins lens step fits more passed place (m ∷ ms) [] nodes e new = absurd (cc)
led_begins {A = A} {Q = Q} {R = R} lens step fits more passed place (m ∷ ms) (k ∷ ks) nodes e new = (one new.0, led_begins lens step fits more passed (suc place) ms ks (others nodes) (let f : length ks ≡ length ms = cc in f) new.1)
  where
    one : IsNew lens step fits place m → StoodMember more passed (IsFirst nodes) [] m k
    one x =
        subst (λ (a : A). IsStoodLived m.services more passed m.spot (IsFirst nodes) m.clearing.cleared m.plan k.kept k.counts a m.life [] m.node) (sym x.first)
        (subst (λ (l : Life Body Q R). IsStoodLived m.services more passed m.spot (IsFirst nodes) m.clearing.cleared m.plan k.kept k.counts (m.services.exchange.app (m.services.sees x.al x.server).server) l [] m.node) (sym x.life)
        (subst (λ n. IsStoodLived m.services more passed m.spot (IsFirst nodes) m.clearing.cleared m.plan k.kept k.counts (m.services.exchange.app (m.services.sees x.al x.server).server) (new_life {M = Body} {Q = Q} {R = R} m.spot.start) [] n) (sym x.node)
        (Stood.begins m.services m.clearing m.plan m.spot x.whole more passed (IsFirst nodes) x.al x.server k.kept k.counts x.cleared x.quiet)))

-- SO THEY ARE LED
pub all_led : {S V A Q R : Type 0} (more : Body → Bool) (passed : Q → Bool) (fs : List (Frame Body)) (ms : List (Member S V A Q R)) (ks : List Counters) (nodes : ℕ → List (Node S)) → AllStoodMembers more passed nodes fs ms ks → AllLedMembers more passed fs ms ks
all_led more passed fs [] [] nodes stood = tt
all_led more passed fs [] (k ∷ ks) nodes stood = absurd stood
all_led more passed fs (m ∷ ms) [] nodes stood = absurd stood
all_led more passed fs (m ∷ ms) (k ∷ ks) nodes stood = (one stood.0, all_led more passed fs ms ks (others nodes) stood.1)
  where
    one : StoodMember more passed (IsFirst nodes) fs m k → LedMember more passed fs m k
    one x = record { from = x.0.from; past = x.0.past.0; now = x.0.now; runs = x.0.runs; boot = x.0.boot }
