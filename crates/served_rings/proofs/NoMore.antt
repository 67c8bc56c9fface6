-- BY A FRAME of a serving no reply more comes of a mail that was passed on and is over.
use Rattle.std.proofs.Common.{◌≡◌, ℕ, suc, Bool, true, List, [], ◌∷◌, ◌++◌, length, map, refl, ap, sym, ◌∙◌, subst, arith}
use Rattle.std.specs.Prelude.{None, Some, All}
use Rattle.std.proofs.lemmas.List.{length-map}
use Rattle.std.proofs.lemmas.List.Elements.{All-cons, All-head, All-nil, All-tail}
use Rattle.served_places.specs.of_datagrams.Datagram as Raw
use Rattle.served_places.specs.of_datagrams.Frame.{IsFrame, chained}
use Rattle.served_places.specs.of_exchange_model.Exchange.{plain}
use Rattle.served_places.specs.of_exchange_model.Rows.{Row}
use Rattle.run_work.specs.of_frame_view.Seen.{seen}
use Rattle.run_work.specs.of_frame_view.View.{Lens}
use Rattle.run_work.specs.of_life_counts.Epochs.{IsSpeaker}
use Rattle.served_places.specs.of_life_model.Eras.{Clearing}
use Rattle.served_places.specs.of_life_model.Lives.{Spot, Era, Life, Stand, era_next, life_next}
use Rattle.served_places.specs.of_life_model.Own.{own}
use Rattle.served_places.specs.of_life_runs.First.{lens_of}
use Rattle.served_places.specs.of_life_runs.Led.{Exchanged}
use Rattle.served_places.specs.of_link_mails.Body.{Body}
use Rattle.served_places.specs.of_link_model.Frames.{all_accepted}
use Rattle.served_places.specs.of_link_model.Segment.{RingFate}
use Rattle.run_work.specs.of_master_duty.Reply.{Reply}
use Rattle.run_work.specs.of_master_hand.Spoken.{Asked, acknowledged, emission, is_followed, is_passed}
use Rattle.served_places.specs.of_master_tour.Brings.{accepted_in}
use Rattle.run_work.proofs.of_plan_ring.Known.{AllBoot, all_boot, macs_in}
use Rattle.run_work.specs.of_plan_ring.Lives.{IsKnown}
use Rattle.run_work.specs.of_plan_ring.Plan.{AllMacs, FitsPlan, step}
use Rattle.run_work.specs.of_plan_ring.Round.{WentRound, all_seen, frame_seen, ring_after, ring_of}
use Rattle.served_places.specs.of_segment_model.Record.{Frame, Kept, News}
use Rattle.served_places.specs.of_segment_model.Slaves.{Datagram, grams}
use Rattle.run_work.specs.of_segment_plan.Sound.{IsPlan, IsSlave}
use Rattle.run_work.specs.of_segment_plan.declared.plan.Scenario.{Scenario}
use Rattle.run_work.specs.of_segment_plan.declared.slave.SlaveSpec.{SlaveSpec}
use Rattle.served_places.specs.of_segment_ring.Ring.{RingState}
use Rattle.served_places.specs.of_segment_ring.declared.wire.Fate.{Fate}
use Rattle.served_places.specs.of_segment_ring.declared.wire.Fate.TheVariants.{Pass, Lost}
use Rattle.served_places.specs.Rows.{HearsNoMore}
use Rattle.served_rings.proofs.All as Every
use Rattle.served_rings.proofs.Heard.{no_more}
use Rattle.served_rings.proofs.Kept.{keeps}
use Rattle.served_rings.proofs.LedLives as LedLives
use Rattle.served_rings.proofs.One as Single
use Rattle.served_rings.specs.Led.{LedEra, LedFrame, turn_of}
use Rattle.served_rings.specs.LedRings.{AllLedMembers, Counters, LedMember}
use Rattle.served_rings.specs.Lives.{AllLeds, LedKept, LedLeft, LedYet, news_as, news_of}
use Rattle.served_rings.specs.Rings.{AllServedAt, AreServedLived, IsServedAt, ServedMember, counters_of, served_member, served_members}
use Rattle.served_rings.specs.Speakers.{speaker}
use Rattle.served_places.specs.of_life_runs.Served.{AllServedTurn, IsServedFrame, IsServedTurn, Serves, ServedTurn, accepted_by}
use Rattle.run_work.proofs.of_slave_lives.AllSeats.{all_meet_first}
use Rattle.run_work.specs.of_slave_lives.Lived.{Behind, RingFrame, frame_of, node_seen}
use Rattle.run_work.specs.of_slave_lives.Opening.{Plan}
use Rattle.run_work.specs.of_slave_lives.Rings.{fate_seen}
use Rattle.run_work.specs.of_slave_lives.Seats.{AllMeet}
use Rattle.run_work.specs.of_slave_model.Profile.{IsProfile, Profile}
use Rattle.run_work.specs.of_slave_server.Serving.{Serving}
use Rattle.run_work.specs.of_slave_server.Spec.{profile_of}
use Rattle.run_work.specs.of_slave_node.Node.{Node}
use Rattle.served_places.specs.of_state_model.Accounts.{Pick}
use Rattle.run_work.proofs.of_whole_ring.Keeps.{Keeps}
use Rattle.run_work.proofs.of_whole_ring.Members as Members
use Rattle.run_work.proofs.of_whole_ring.Members.{all_come, joined, many, one_more, seat_of, seats_distinct, seats_known}
use Rattle.run_work.proofs.of_whole_ring.Open.{open_on}
use Rattle.run_work.proofs.of_whole_ring.Turning as Turning
use Rattle.run_work.specs.of_whole_ring.Members.{AllLived, IsRing, Member, MemberIs}
use Rattle.run_work.specs.of_whole_ring.Turning.{AllTurn, Turn, TurnsFor, frame_at, next_life}
use Rattle.run_work.specs.of_whole_ring.Turns.{AsksFor, FrameComes, TurnsAs}
use Rattle.run_work.specs.of_whole_ring.Whole.{IsWhole, Leaving, Living, Passing, LivesOpenBy, StandsBy}

-- WHAT IS TOLD OF A LED EPOCH and a frame of the ring is told of the life of an open slave
module _ {S V A Q R : Type 0} (w : Behind S V A Q R) (c : Clearing V A) (p : Plan) (spot : Spot) (whole : IsWhole w c p spot) (more : Body → Bool) (passed : Q → Bool) (kept : Kept) (counts : Bool) (e : Era Body Q R) (fs : List (Frame Body)) (t : RingFrame S) (pick : Pick Q) (Told : Type 0)
    (tells : (from : A) (led : Bool) → LedEra w more passed spot from led e fs t.node → LedFrame w more passed spot e fs t pick → Told) where
  abbrev news : List (News Body)
  news = news_as w.lens spot.station kept counts t (frame_of w.lens t).fate

  abbrev E : Living S A Q R
  E = λ a d gs m. LedKept w more passed spot kept counts a d gs m

  -- behind the frame it is told besides
  abbrev F : Living S A Q R
  F = λ a d gs m. LedYet w more passed spot a d gs m × Told

  abbrev Y : Living S A Q R
  Y = λ a d gs m. LedYet w more passed spot a d gs m

  abbrev L : Leaving S A Q R
  L = λ a d gs s. LedLeft w more passed spot a d s

  abbrev P : Passing A Q R
  P = λ gs a es b. AllLeds w more passed spot c.cleared a es b

  told_keeps : Keeps w c spot E F Y L P Stand.Open e fs t more passed pick news
  told_keeps =
      let k = keeps w c p spot whole more passed kept counts Stand.Open e fs t pick in
      record {
        session = k.session;
        still = k.still;
        on = λ opened from l o. (k.stops refl from (k.on refl from l o), tells from l.led l.era (record { at = o.at; alone = o.alone; asks = o.asks; steps = o.steps }));
        stops = λ opened from l. l.0;
        yet = k.yet;
        ends = k.ends;
        over = k.over;
        begins = λ o opens q al cleared start begun. absurd (let no : Stand.Open ≡ Stand.Opens o = opens in cc);
        past = k.past;
        closed = k.closed;
        left = k.left;
      }

  told_open : (from : A) → LivesOpenBy w from e E fs t.node → FrameComes w p spot Stand.Open t → AsksFor w more passed spot fs t pick news e → Told
  told_open from l f a = (open_on w c p spot whole from e fs t more passed pick news E F Y L P told_keeps l f a).epoch.1

  pub told_life : (stand : Stand) → stand ≡ Stand.Open → (from : A) (came : _) → StandsBy w E Y L p spot from e fs stand t.node → FrameComes w p spot stand t → TurnsAs w more passed p spot fs t pick news came e stand → Told
  told_life (Stand.Opens o) is from came now f a = absurd (let no : Stand.Opens o ≡ Stand.Open = is in cc)
  told_life Stand.Gone is from came now f a = absurd (let no : Stand.Gone ≡ Stand.Open = is in cc)
  told_life Stand.Open is from came now f a = told_open from now f a

-- ONE SLAVE OF A RING
module _ {S V A Q R : Type 0} (lens : ℕ → Lens) (step : Node S → Node S) (fits : Spot → S → Type 0) (more : Body → Bool) (passed : Q → Bool) (fs : List (Frame Body)) (ring : RingState (Node S)) (octets : List ℕ) (gs : List Raw.Datagram) (is_frame : IsFrame octets (chained gs))
    (all : List (Member S V A Q R)) (r : IsRing lens step fits fs ring all) (meet : AllMeet (map seat_of all) (chained gs)) (bs : List (Member S V A Q R)) (m : Member S V A Q R) (cs : List (Member S V A Q R)) (a : Turn Q) (whole : bs ++ m ∷ cs ≡ all) (is : MemberIs lens step fits fs (length bs) m)
    (x : TurnsFor more passed lens (length fs) gs m a) (k : Counters) (led : LedMember more passed fs m k) (told : a.news ≡ news_of m.spot.station k.kept k.counts (frame_at lens ring octets)) where
  abbrev pub t : RingFrame S
  t = Members.t lens step fits more passed fs ring octets gs is_frame all r meet bs m cs a whole is x

  pub told_member : (Told : Type 0) → ((from : A) (led : Bool) → LedEra m.services more passed m.spot from led m.life.era fs t.node → LedFrame m.services more passed m.spot m.life.era fs t a.pick → Told) → m.life.stand ≡ Stand.Open → Told
  told_member Told tells opened =
      let w = m.services in
      let near = Members.near lens step fits more passed fs ring octets gs is_frame all r meet bs m cs a whole is x in
      let few = Members.few lens step fits more passed fs ring octets gs is_frame all r meet bs m cs a whole is x in
      let comes = Members.comes lens step fits more passed fs ring octets gs is_frame all r meet bs m cs a whole is x in
      let asked = Members.asked lens step fits more passed fs ring octets gs is_frame all r meet bs m cs a whole is x in
      let came = Turning.came w m.clearing m.plan m.spot is.whole m.first fs t near few m.life is.lived step (fits m.spot) is.serves is.server is.room more passed a gs refl comes asked is.boots x.boots in
      let news : a.news ≡ news_of m.spot.station k.kept k.counts (frame_at w.lens ring octets) = subst (λ (ls : ℕ → Lens). a.news ≡ news_of m.spot.station k.kept k.counts (frame_at ls ring octets)) (sym is.lens_is) told in
      let turn = subst (λ (ns : List (News Body)). TurnsAs w more passed m.plan m.spot fs t a.pick ns came m.life.era m.life.stand) news
      (Turning.turns_as w m.clearing m.plan m.spot is.whole m.first fs t near few m.life is.lived step (fits m.spot) is.serves is.server is.room more passed a gs refl comes asked is.boots x.boots m.life.stand refl) in
      told_life w m.clearing m.plan m.spot is.whole more passed k.kept k.counts m.life.era fs t a.pick Told tells m.life.stand opened led.from came led.now comes turn

-- ---- OF A SERVING
module _ (plan : Scenario) (speaks : (p : Profile) → IsProfile p → IsSpeaker (speaker p)) (fs : List Exchanged) (f : Exchanged) where
  abbrev lens : ℕ → Lens
  lens = lens_of plan.slaves

  abbrev ring : RingState (Node Serving)
  ring = ring_after (ring_of plan) fs

  abbrev gs : List (Frame Body)
  gs = all_seen lens fs

  abbrev seen_frame : Frame Body
  seen_frame = frame_at lens ring f.sent

  -- nothing plain is accepted of a frame with this fate by a slave with this life, where its newest row passes a mail on that is over
  abbrev accepted_as : Exchanged → Fate → Spot → Life Body Asked Reply → List Body
  accepted_as f Pass spot l = accepted_in spot l (seen lens f.back)
  accepted_as f (Lost after) spot l = []

  abbrev Quiet : Fate → Spot → Life Body Asked Reply → Type 0
  Quiet fate spot l = l.era.passing ≡ None → (r : Row Body Asked Reply) → l.era.side.now ≡ Some r → is_passed r.service ≡ true → plain emission (accepted_as f fate spot l) ≡ []

  hears : (v : ServedTurn) (fate : Fate) → f.fate ≡ fate → Quiet fate v.turn.lived.spot v.turn.lived.life → HearsNoMore lens plan.recover plan.retry f v
  hears v fate is q = λ none r now pass. ap (λ z. plain emission (accepted_by lens plan.recover plan.retry f z v)) is ∙ by fate (q none r now pass)
    where
      by : (fate : Fate) → plain emission (accepted_as f fate v.turn.lived.spot v.turn.lived.life) ≡ [] → plain emission (accepted_by lens plan.recover plan.retry f fate v) ≡ []
      by Pass e = e
      by (Lost after) e = e

  module _ (went : WentRound ring f) (ds : List Raw.Datagram) (framed : IsFrame f.sent (chained ds)) (all : List ServedMember) (r : IsRing lens step (FitsPlan plan.slaves) gs ring all) (meet : AllMeet (map seat_of all) (chained ds)) where
    module _ (bs : List ServedMember) (place : ℕ) (s : SlaveSpec) (w : Serves) (n : Node Serving) (cs : List ServedMember) (v : ServedTurn) (y : IsServedTurn lens (length gs) ds w v) (slave : IsSpeaker (speaker (profile_of s)))
        (whole : bs ++ served_member lens place s w n ∷ cs ≡ all) (is : MemberIs lens step (FitsPlan plan.slaves) gs (length bs) (served_member lens place s w n)) where
      abbrev m : ServedMember
      m = served_member lens place s w n

      abbrev a : Turn Asked
      a = record { pick = y.next.pick; share = v.turn.share; news = news_of s.station w.kept w.counts seen_frame }

      -- the epoch before the frame
      abbrev next : Era Body Asked Reply
      next = era_next m.services.exchange.speech acknowledged is_followed is_passed (length gs) m.life.era a.pick

      abbrev Told : Type 0
      Told = next.passing ≡ None → (r : Row Body Asked Reply) → next.side.now ≡ Some r → is_passed r.service ≡ true → seen_frame.fate ≡ RingFate.Back → plain emission (all_accepted m.spot.station next.side.halves (grams (own m.spot.station seen_frame.back))) ≡ []

      module _ (x : TurnsFor is_followed is_passed lens (length gs) ds m a) (k : Counters) (led : LedMember is_followed is_passed gs m k) (told : a.news ≡ news_of m.spot.station k.kept k.counts seen_frame) where
        abbrev mine : RingFrame Serving
        mine = t lens step (FitsPlan plan.slaves) is_followed is_passed gs ring f.sent ds framed all r meet bs m cs a whole is x k led told

        tells : (from : _) (counted : Bool) → LedEra m.services is_followed is_passed m.spot from counted m.life.era gs mine.node → LedFrame m.services is_followed is_passed m.spot m.life.era gs mine a.pick → Told
        tells from counted l o = λ none row now pass fate.
            no_more (profile_of s) slave s.boot lens m.spot l.opened l.server l.registers l.plan l.answers gs counted m.life.era (node_seen m.services mine.node) l.led (turn_of m.services is_followed is_passed m.spot mine a.pick)
            (LedLives.may m.services is.whole.behind is_followed is_passed m.spot from counted m.life.era gs mine l a.pick o) none row now pass fate

        told_here : m.life.stand ≡ Stand.Open → Told
        told_here opened = told_member lens step (FitsPlan plan.slaves) is_followed is_passed gs ring f.sent ds framed all r meet bs m cs a whole is x k led told Told tells opened

        -- by how the master stands to it
        quiet_by : (stand : Stand) → (stand ≡ Stand.Open → Told) → seen_frame.back ≡ seen lens f.back → seen_frame.fate ≡ RingFate.Back →
            Quiet Pass m.spot (life_next m.services.exchange.speech acknowledged is_followed is_passed (length gs) (record m.life { stand = stand }) stand a.pick)
        quiet_by (Stand.Opens o) told back fate = λ none r now pass. refl
        quiet_by Stand.Gone told back fate = λ none r now pass. refl
        quiet_by Stand.Open told back fate = λ none r now pass.
            ap (λ (z : List (Datagram Body)). plain emission (all_accepted m.spot.station next.side.halves (grams (own m.spot.station z)))) (sym back) ∙ told refl none r now pass fate

        quiet_is : (fate : Fate) → f.fate ≡ fate → (at : IsServedAt plan place s w) → Quiet fate v.turn.lived.spot v.turn.lived.life
        quiet_is (Lost after) fate at = λ none r now pass. refl
        quiet_is Pass fate at =
            let same = Single.next_same plan place s w v n (length gs) ds at y is.whole.plan.lens_out is.whole.plan.lens_back ring f went in
            let spot = Single.spot_is plan place s w v n (length gs) ds at y is.whole.plan.lens_out is.whole.plan.lens_back ring f went in
            subst (Quiet Pass v.turn.lived.spot) same (subst (λ z. Quiet Pass z (next_life is_followed is_passed (length gs) m.services m.life a)) (sym spot)
            (quiet_by m.life.stand told_here (ap (seen lens) (sym went.back)) (ap fate_seen (sym went.fate ∙ fate))))

    -- ALL OF THEM
    each_none : (bs : List ServedMember) (place : ℕ) (ss : List SlaveSpec) (ws : List Serves) (ns : List (Node Serving)) (vs : List ServedTurn) (ys : AllServedTurn lens (length gs) ds ws vs) → bs ++ served_members lens place ss ws ns ≡ all → All IsSlave ss → AllMacs ss →
        AllLived lens step (FitsPlan plan.slaves) gs (length bs) (served_members lens place ss ws ns) → AllTurn is_followed is_passed lens (length gs) ds (served_members lens place ss ws ns) (Every.turns_of plan (length gs) ds ring f went ss ws vs ys) →
        AllLedMembers is_followed is_passed gs (served_members lens place ss ws ns) (map counters_of ws) → AllServedAt plan place ss ws ns → All (HearsNoMore lens plan.recover plan.retry f) vs
    each_none bs place [] [] [] [] ys whole slaves macs lived asks led at = All-nil (HearsNoMore lens plan.recover plan.retry f)
    each_none bs place [] [] [] (v ∷ vs) ys whole slaves macs lived asks led at = absurd ys
    each_none bs place [] [] (n ∷ ns) vs ys whole slaves macs lived asks led at = absurd at
    each_none bs place [] (w ∷ ws) ns vs ys whole slaves macs lived asks led at = absurd at
    each_none bs place (s ∷ ss) [] ns vs ys whole slaves macs lived asks led at = absurd at
    each_none bs place (s ∷ ss) (w ∷ ws) [] vs ys whole slaves macs lived asks led at = absurd at
    each_none bs place (s ∷ ss) (w ∷ ws) (n ∷ ns) [] ys whole slaves macs lived asks led at = absurd ys
    each_none bs place (s ∷ ss) (w ∷ ws) (n ∷ ns) (v ∷ vs) ys whole slaves macs lived asks led at =
        let here = All-head IsSlave s ss slaves in
        let profile : IsProfile (profile_of s) = record { out_least = here.out_least; out_most = here.out_most; back_least = here.in_least; back_most = here.in_most; mac = macs.0 } in
        let m = served_member lens place s w n in
        let rest = served_members lens (suc place) ss ws ns in
        All-cons (HearsNoMore lens plan.recover plan.retry f) v vs
        (hears v f.fate refl (quiet_is bs place s w n rest v ys.0 (speaks (profile_of s) profile) whole lived.0 asks.0 (counters_of w) led.0 refl f.fate refl at.0))
        (each_none (bs ++ m ∷ []) (suc place) ss ws ns vs ys.1 (joined bs m rest ∙ whole) (All-tail IsSlave s ss slaves) macs.1
        (subst (λ (i : ℕ). AllLived lens step (FitsPlan plan.slaves) gs i rest) (sym (one_more bs m)) lived.1) asks.1 led.1 at.1)

-- OF ALL SLAVES
pub none_more : (plan : Scenario) (is : IsPlan plan) (known : IsKnown plan) (speaks : (p : Profile) → IsProfile p → IsSpeaker (speaker p)) (fs : List Exchanged) (ws : List Serves) (f : Exchanged) (vs : List ServedTurn) → AreServedLived plan fs ws → IsServedFrame (lens_of plan.slaves) (length fs) f.sent ws vs →
    WentRound (ring_after (ring_of plan) fs) f → All (HearsNoMore (lens_of plan.slaves) plan.recover plan.retry f) vs
none_more plan is known speaks fs ws f vs x y went =
    let lens = lens_of plan.slaves in
    let gs = all_seen lens fs in
    let ring = ring_after (ring_of plan) fs in
    let ms = served_members lens 0 plan.slaves ws x.nodes in
    let each : AllServedTurn lens (length gs) y.datagrams ws vs = subst (λ (made : ℕ). AllServedTurn lens made y.datagrams ws vs) (sym (length-map fs (frame_seen lens))) y.each in
    let boots : AllBoot plan.services 0 plan.slaves = all_boot (length plan.slaves) plan.slaves [] plan.slaves refl plan.services is.laid.services known.states in
    let turns = Every.turns_of plan (length gs) y.datagrams ring f went plan.slaves ws vs each in
    let asks = Every.all_turn plan (length gs) y.datagrams ring f went gs 0 plan.slaves ws x.nodes vs each x.lives.each x.at boots in
    let few = x.lives.few in
    let meet = all_meet_first lens (map seat_of ms) (chained y.datagrams) (let e = many seat_of ms in omega (arith, e, few)) (seats_distinct ms x.lives.distinct)
    (seats_known lens step (FitsPlan plan.slaves) is_followed is_passed gs ring f.sent y.datagrams y.frame 0 ms x.lives.each) (all_come lens step (FitsPlan plan.slaves) is_followed is_passed gs ring f.sent y.datagrams y.frame 0 ms turns (omega (arith, few)) x.lives.each asks) in
    each_none plan speaks fs f went y.datagrams y.frame ms x.lives meet [] 0 plan.slaves ws x.nodes vs each refl is.laid.slaves (macs_in plan.slaves known.macs) x.lives.each asks x.led x.at
