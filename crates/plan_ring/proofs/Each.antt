-- One slave of the ring, and all of them.
use Rattle.std.proofs.Common.{◌≡◌, ℕ, suc, ◌+◌, ◌<◌, Bool, Option, Some, List, [], ◌∷◌, ◌++◌, map, length, refl, ap, sym, ◌∙◌, subst, arith}
use Rattle.run_frames.specs.of_datagrams.Datagram as Raw
use Rattle.run_frames.specs.of_datagrams.Frame.{IsFrame, chained}
use Rattle.whole_ring.specs.of_frame_view.Seen.{seen}
use Rattle.whole_ring.specs.of_frame_view.View.{Lens}
use Rattle.whole_ring.specs.of_frame_view.Shares.{came_at, Asked as FrameHas}
use Rattle.whole_ring.specs.of_life_model.Repairs.{way_of}
use Rattle.whole_ring.specs.of_life_model.Lives.{Spot, Life, Era, Opening, Stand, life_next}
use Rattle.whole_ring.specs.of_life_model.Own.{own}
use Rattle.slave_server.specs.of_link_mails.Body.{Body}
use Rattle.run_frames.specs.Answers.{EachAsks, EachAnswers}
use Rattle.run_frames.specs.Goes.{is_same, stepped_behind}
use Rattle.slave_server.specs.of_segment_model.Record.{Frame}
use Rattle.slave_server.specs.of_segment_model.Slaves.{Datagram, Found}
use Rattle.run_frames.specs.of_segment_ring.Ring.{RingState, ring_returned}
use Rattle.run_frames.specs.of_segment_ring.declared.wire.Fate.TheVariants.{Pass}
use Rattle.plan_ring.specs.Stands.{StandsTo, CameFirst}
use Rattle.plan_ring.proofs.Answering as Answering
use Rattle.plan_ring.proofs.SlaveTurns as Clocks
use Rattle.whole_ring.specs.of_slave_lives.Lived.{Behind, RingFrame, node_behind, frame_of}
use Rattle.whole_ring.specs.of_slave_lives.Rings.{come_to, fate_seen, is_met_at, met, turned}
use Rattle.whole_ring.specs.of_slave_lives.Seats.{AllMeet}
use Rattle.whole_ring.proofs.of_slave_lives.AllSeats.{all_meet_first}
use Rattle.slave_server.specs.of_slave_node.Node.{Node, node_passed}
use Rattle.whole_ring.specs.Turns as Whole
use Rattle.whole_ring.specs.Whole.{StandsAs}
use Rattle.whole_ring.specs.Members.{Member, MemberIs, AllLived, IsRing}
use Rattle.whole_ring.specs.Turning.{Turn, TurnsFor, AllTurn, frame_at, next_life, life_by, behind_frame}
use Rattle.whole_ring.proofs.Members as Members
use Rattle.whole_ring.proofs.Members.{node_in, seat_of, fate_in, joined, one_more, comes_past, many}
use Rattle.whole_ring.proofs.Turning as One
use Rattle.whole_ring.proofs.Turning.{CameSo}
use Rattle.plan_ring.specs.Clocks.{AllStand, clocks_on, AnswersAs, AsksAs, AllAsked, AllAnswered}

module _ {S V A Q R : Type 0} (lens : ℕ → Lens) (step : Node S → Node S) (fits : Spot → S → Type 0) (more : Body → Bool) (passed : Q → Bool) (fs : List (Frame Body)) (ring : RingState (Node S)) (octets : List ℕ) (gs : List Raw.Datagram) (is_frame : IsFrame octets (chained gs))
    (all : List (Member S V A Q R)) (r : IsRing lens step fits fs ring all) (meet : AllMeet (map seat_of all) (chained gs)) where
  module _ (bs : List (Member S V A Q R)) (m : Member S V A Q R) (cs : List (Member S V A Q R)) (a : Turn Q) (whole : bs ++ m ∷ cs ≡ all) (is : MemberIs lens step fits fs (length bs) m) (x : TurnsFor more passed lens (length fs) gs m a) (b : Bool) (prior : StandsTo b m.life m.life.stand m.node.registers) where
    abbrev w : Behind S V A Q R
    w = m.services

    abbrev t : RingFrame S
    t = Members.t lens step fits more passed fs ring octets gs is_frame all r meet bs m cs a whole is x

    near : m.spot.place < 16
    near = Members.near lens step fits more passed fs ring octets gs is_frame all r meet bs m cs a whole is x

    few : length t.behind < 16
    few = Members.few lens step fits more passed fs ring octets gs is_frame all r meet bs m cs a whole is x

    comes : Whole.FrameComes w m.plan m.spot m.life.stand t
    comes = Members.comes lens step fits more passed fs ring octets gs is_frame all r meet bs m cs a whole is x

    asked : FrameHas w.lens gs (record { spot = m.spot; life = next_life more passed (length fs) w m.life a }) a.share
    asked = Members.asked lens step fits more passed fs ring octets gs is_frame all r meet bs m cs a whole is x

    abbrev came : Option (Bool × Option Found)
    came = came_at a.share.under a.share.at (frame_of w.lens t).back

    its_turn : Whole.TurnsAs w more passed m.plan m.spot fs t a.pick a.news came m.life.era m.life.stand
    its_turn = One.turns_as w m.clearing m.plan m.spot is.whole m.first fs t near few m.life is.lived step (fits m.spot) is.serves is.server is.room more passed a gs refl comes asked is.boots x.boots m.life.stand refl

    came_so : (o : Opening) → m.life.stand ≡ Stand.Opens o → CameSo w m.plan o t came
    came_so = One.came_so w m.clearing m.plan m.spot is.whole m.first fs t near few m.life is.lived step (fits m.spot) is.serves is.server is.room more passed a gs refl comes asked is.boots x.boots

    -- THE CLOCK behind the frame
    abbrev Right : Life Body Q R → ℕ → Node S → Type 0
    Right k number n = StandsTo (stepped_behind m.pace number (is_same (way_of 1 1 m.life) (way_of 1 1 k)) b) k k.stand n.registers

    abbrev life_behind : Life Body Q R
    life_behind = life_by more passed (length fs) (frame_at lens ring octets) (fate_seen (fate_in ring)) m.services m.spot m.life a

    abbrev node_then : Node S
    node_then = turned m.services.running m.pace (length fs) (met (is_met_at (length bs) (fate_in ring)) m.node (come_to (map node_in bs) (chained gs)))

    pub one_stand : Right life_behind (length fs) node_then
    one_stand =
        subst (λ (n : Node S). Right life_behind (length fs) n) (Members.node_is lens step fits more passed fs ring octets gs is_frame all r meet bs m cs a whole is x)
        (subst (λ (k : ℕ → Lens). Right (life_by more passed (length fs) (frame_at k ring octets) (fate_seen (fate_in ring)) w m.spot m.life a) (length fs) (node_behind w.running t)) is.lens_is
        (subst (λ (number : ℕ). Right (life_by more passed (length fs) (frame_at w.lens ring octets) (fate_seen (fate_in ring)) w m.spot m.life a) number (node_behind w.running t)) r.number
        (subst (λ (k : Life Body Q R). Right k ring.number (node_behind w.running t))
        (One.same_life w m.clearing m.plan m.spot is.whole m.first fs t near few m.life is.lived step (fits m.spot) is.serves is.server is.room more passed a gs refl comes asked is.boots x.boots (frame_of w.lens t).fate)
        (Clocks.turns w m.clearing m.plan m.spot is.whole m.first m.life fs t more passed a.pick a.news came is.lived b comes its_turn prior))))

    -- WHAT IT ANSWERS
    abbrev before : Life Body Q R
    before = next_life more passed (length fs) m.services m.life a

    first_of : (o : Opening) → m.life.stand ≡ Stand.Opens o → (done : Bool) (found : Option Found) → came ≡ Some (done, found) → CameFirst w m.plan o t done found
    first_of o e done found is_ = let k : CameSo w m.plan o t (Some (done, found)) = subst (λ (v : Option (Bool × Option Found)). CameSo w m.plan o t v) is_ (came_so o e) in record { access = k.0.access; back = k.0.back; first = k.1 }

    by_stand : (s : Stand) → m.life.stand ≡ s → fate_in ring ≡ Pass → StandsAs w m.plan m.spot is.lived.from m.life.era fs s m.node → Whole.FrameComes w m.plan m.spot s t → Whole.TurnsAs w more passed m.plan m.spot fs t a.pick a.news came m.life.era s → StandsTo b m.life s m.node.registers →
        (s ≡ Stand.Open → EachAsks before.era.side.halves.inn.state before.era.side.halves.inn.bit (own m.spot.station (seen w.lens octets))) → AnswersAs (frame_of w.lens t).back b m.spot before a.share s
    by_stand (Stand.Opens o) e pass now f y s asks = Answering.opening_answers w m.plan m.spot is.lived.from m.life.era fs o t b now s came (first_of o e)
    by_stand Stand.Open e pass now f y s asks =
        let era_is : before.era ≡ Whole.era_before w more passed m.spot fs t a.pick a.news m.life.era = next_open e in
        subst (λ (z : Era Body Q R). EachAnswers b z.side.halves.inn.state z.side.halves.inn.bit (own m.spot.station (frame_of w.lens t).back)) (sym era_is)
        (Answering.half_answers w m.clearing m.plan m.spot is.whole is.lived.from m.life.era fs t more passed a.pick a.news now.lives.epoch f y.asks b s pass
        (subst (λ (z : Era Body Q R). EachAsks z.side.halves.inn.state z.side.halves.inn.bit (own m.spot.station (seen w.lens octets))) era_is (asks refl)))
      where
        next_open : m.life.stand ≡ Stand.Open → before.era ≡ Whole.era_before w more passed m.spot fs t a.pick a.news m.life.era
        next_open e = ap (λ (z : Stand). (life_next w.exchange.speech w.states.acknowledged more passed (length fs) m.life z a.pick).era) e
    by_stand Stand.Gone e pass now f y s asks = tt

    pub one_answers : fate_in ring ≡ Pass → AsksAs (seen lens octets) m.spot before m.life.stand → AnswersAs (seen lens (ring_returned node_passed ring octets)) b m.spot before a.share m.life.stand
    one_answers pass asks =
        subst (λ (k : ℕ → Lens). AnswersAs (seen k (ring_returned node_passed ring octets)) b m.spot before a.share m.life.stand) is.lens_is
        (by_stand m.life.stand refl pass is.lived.now comes its_turn prior (subst (λ (k : ℕ → Lens). AsksAs (seen k octets) m.spot before m.life.stand) (sym is.lens_is) asks))

  -- ---- all of them
  pub each_stand : (bs cs : List (Member S V A Q R)) (turns : List (Turn Q)) (clocks : List Bool) → bs ++ cs ≡ all → AllLived lens step fits fs (length bs) cs → AllTurn more passed lens (length fs) gs cs turns → AllStand clocks cs →
      (let ns = behind_frame more passed (length fs) (frame_at lens ring octets) (fate_in ring) (length bs) cs turns (come_to (map node_in bs) (chained gs)) in AllStand (clocks_on (length fs) clocks cs ns) ns)
  each_stand bs [] [] [] whole lived asks stand = tt
  each_stand bs [] [] (b ∷ clocks) whole lived asks stand = absurd stand
  each_stand bs [] (a ∷ turns) clocks whole lived asks stand = absurd asks
  each_stand bs (m ∷ cs) [] clocks whole lived asks stand = absurd asks
  each_stand bs (m ∷ cs) (a ∷ turns) [] whole lived asks stand = absurd stand
  each_stand bs (m ∷ cs) (a ∷ turns) (b ∷ clocks) whole lived asks stand = (
    one_stand bs m cs a whole lived.0 asks.0 b stand.0,
    subst (λ ds. (let ns = behind_frame more passed (length fs) (frame_at lens ring octets) (fate_in ring) (suc (length bs)) cs turns ds in AllStand (clocks_on (length fs) clocks cs ns) ns)) (comes_past bs m (chained gs))
        (subst (λ (k : ℕ). (let ns = behind_frame more passed (length fs) (frame_at lens ring octets) (fate_in ring) k cs turns (come_to (map node_in (bs ++ m ∷ [])) (chained gs)) in AllStand (clocks_on (length fs) clocks cs ns) ns)) (one_more bs m)
        (each_stand (bs ++ m ∷ []) cs turns clocks (joined bs m cs ∙ whole) (subst (λ (k : ℕ). AllLived lens step fits fs k cs) (sym (one_more bs m)) lived.1) asks.1 stand.1)),
  )

  pub each_answers : fate_in ring ≡ Pass → (bs cs : List (Member S V A Q R)) (turns : List (Turn Q)) (clocks : List Bool) → bs ++ cs ≡ all → AllLived lens step fits fs (length bs) cs → AllTurn more passed lens (length fs) gs cs turns → AllStand clocks cs →
      AllAsked more passed (length fs) (seen lens octets) cs turns → AllAnswered more passed (length fs) (seen lens (ring_returned node_passed ring octets)) clocks cs turns
  each_answers pass bs [] turns [] whole lived asks stand q = tt
  each_answers pass bs [] turns (b ∷ clocks) whole lived asks stand q = absurd stand
  each_answers pass bs (m ∷ cs) [] clocks whole lived asks stand q = absurd asks
  each_answers pass bs (m ∷ cs) (a ∷ turns) [] whole lived asks stand q = absurd stand
  each_answers pass bs (m ∷ cs) (a ∷ turns) (b ∷ clocks) whole lived asks stand q = (
    one_answers bs m cs a whole lived.0 asks.0 b stand.0 pass q.0,
    each_answers pass (bs ++ m ∷ []) cs turns clocks (joined bs m cs ∙ whole) (subst (λ (k : ℕ). AllLived lens step fits fs k cs) (sym (one_more bs m)) lived.1) asks.1 stand.1 q.1,
  )

-- as the frame comes to each
module _ {S V A Q R : Type 0} (lens : ℕ → Lens) (step : Node S → Node S) (fits : Spot → S → Type 0) (more : Body → Bool) (passed : Q → Bool) (fs : List (Frame Body)) (ring : RingState (Node S)) (octets : List ℕ) (gs : List Raw.Datagram) (is_frame : IsFrame octets (chained gs))
    (ms : List (Member S V A Q R)) (turns : List (Turn Q)) (r : IsRing lens step fits fs ring ms) (asks : AllTurn more passed lens (length fs) gs ms turns) where
  pub meets : AllMeet (map seat_of ms) (chained gs)
  meets = all_meet_first lens (map seat_of ms) (chained gs) (let e = many seat_of ms in let k = r.few in omega (arith, e, k)) (Members.seats_distinct ms r.distinct) (Members.seats_known lens step fits more passed fs ring octets gs is_frame 0 ms r.each)
      (Members.all_come lens step fits more passed fs ring octets gs is_frame 0 ms turns (let k = r.few in omega (arith, k)) r.each asks)
