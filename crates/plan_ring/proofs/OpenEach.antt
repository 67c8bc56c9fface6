-- One slave of the ring, and all of them.
use Rattle.std.proofs.Common.{◌≡◌, ℕ, suc, Bool, Option, List, [], ◌∷◌, ◌++◌, map, length, refl, sym, ◌∙◌, subst, if◌then◌else◌}
use Rattle.run_frames.specs.of_datagrams.Datagram as Raw
use Rattle.run_frames.specs.of_datagrams.Frame.{IsFrame, chained}
use Rattle.whole_ring.specs.of_frame_view.Seen.{seen}
use Rattle.whole_ring.specs.of_frame_view.View.{Lens}
use Rattle.whole_ring.specs.of_frame_view.Shares.{came_at, Asked as FrameHas}
use Rattle.whole_ring.specs.of_life_model.Lives.{Spot, Stand}
use Rattle.whole_ring.specs.of_life_model.Own.{own}
use Rattle.slave_server.specs.of_link_mails.Body.{Body}
use Rattle.slave_server.specs.of_segment_model.Record.{Frame}
use Rattle.slave_server.specs.of_segment_model.Slaves.{Datagram, Found, slave_after, slave_steps, frame_after}
use Rattle.run_frames.specs.of_segment_ring.Ring.{RingState, ring_returned, is_in_pace}
use Rattle.run_frames.specs.of_segment_ring.declared.wire.Fate.TheVariants.{Pass}
use Rattle.whole_ring.specs.of_slave_lives.Lived.{Behind, RingFrame, node_behind, frame_of}
use Rattle.whole_ring.specs.of_slave_lives.Rings.{come_to, is_met_at, met, turned}
use Rattle.whole_ring.specs.of_slave_lives.Seats.{AllMeet}
use Rattle.slave_server.specs.of_slave_node.Node.{Node, node_passed}
use Rattle.whole_ring.specs.Turns as Whole
use Rattle.whole_ring.specs.Whole.{StandsAs}
use Rattle.whole_ring.specs.Members.{Member, MemberIs, AllLived, IsRing}
use Rattle.whole_ring.specs.Turning.{Turn, TurnsFor, AllTurn, frame_at, next_life, behind_frame}
use Rattle.whole_ring.proofs.Members as Members
use Rattle.whole_ring.proofs.Members.{node_in, seat_of, fate_in, joined, one_more, comes_past}
use Rattle.whole_ring.proofs.Turning as One
use Rattle.plan_ring.specs.Met.{OpenMet, AllOpenMet, slave_in}
use Rattle.plan_ring.proofs.Open.{open_back, open_node}

module _ {S V A Q R : Type 0} (lens : ℕ → Lens) (step : Node S → Node S) (fits : Spot → S → Type 0) (more : Body → Bool) (passed : Q → Bool) (fs : List (Frame Body)) (ring : RingState (Node S)) (octets : List ℕ) (gs : List Raw.Datagram) (is_frame : IsFrame octets (chained gs))
    (all : List (Member S V A Q R)) (r : IsRing lens step fits fs ring all) (meet : AllMeet (map seat_of all) (chained gs)) where
  abbrev back : List (Datagram Body)
  back = seen lens (ring_returned node_passed ring octets)

  module _ (bs : List (Member S V A Q R)) (m : Member S V A Q R) (cs : List (Member S V A Q R)) (a : Turn Q) (whole : bs ++ m ∷ cs ≡ all) (is : MemberIs lens step fits fs (length bs) m) (x : TurnsFor more passed lens (length fs) gs m a) (pass : fate_in ring ≡ Pass) where
    abbrev w : Behind S V A Q R
    w = m.services

    abbrev t : RingFrame S
    t = Members.t lens step fits more passed fs ring octets gs is_frame all r meet bs m cs a whole is x

    comes : Whole.FrameComes w m.plan m.spot m.life.stand t
    comes = Members.comes lens step fits more passed fs ring octets gs is_frame all r meet bs m cs a whole is x

    asked : FrameHas w.lens gs (record { spot = m.spot; life = next_life more passed (length fs) w m.life a }) a.share
    asked = Members.asked lens step fits more passed fs ring octets gs is_frame all r meet bs m cs a whole is x

    abbrev came : Option (Bool × Option Found)
    came = came_at a.share.under a.share.at (frame_of w.lens t).back

    its_turn : Whole.TurnsAs w more passed m.plan m.spot fs t a.pick a.news came m.life.era m.life.stand
    its_turn = One.turns_as w m.clearing m.plan m.spot is.whole m.first fs t (Members.near lens step fits more passed fs ring octets gs is_frame all r meet bs m cs a whole is x) (Members.few lens step fits more passed fs ring octets gs is_frame all r meet bs m cs a whole is x) m.life is.lived step (fits m.spot)
        is.serves is.server is.room more passed a gs refl comes asked is.boots x.boots m.life.stand refl

    abbrev node_then : Node S
    node_then = turned m.services.running m.pace (length fs) (met (is_met_at (length bs) (fate_in ring)) m.node (come_to (map node_in bs) (chained gs)))

    abbrev On : (ℕ → Lens) → ℕ → Node S → Type 0
    On k number n = (own m.spot.station (seen k (ring_returned node_passed ring octets)) ≡ frame_after m.spot.station (slave_in m m.node) (own m.spot.station (seen k octets)))
        × (slave_in m n ≡ (let s = slave_after m.spot.station (slave_in m m.node) (own m.spot.station (seen k octets)) in if is_in_pace m.pace number then slave_steps m.services.exchange m.services.processor s else s))

    by_stand : (s : Stand) → s ≡ Stand.Open → StandsAs w m.plan m.spot is.lived.from m.life.era fs s m.node → Whole.FrameComes w m.plan m.spot s t → Whole.TurnsAs w more passed m.plan m.spot fs t a.pick a.news came m.life.era s → On w.lens ring.number (node_behind w.running t)
    by_stand (Stand.Opens o) e now f y = absurd (let no : Stand.Opens o ≡ Stand.Open = e in cc)
    by_stand Stand.Gone e now f y = absurd (let no : Stand.Gone ≡ Stand.Open = e in cc)
    by_stand Stand.Open e now f y = (
      open_back w m.clearing m.plan m.spot is.whole is.lived.from m.life.era fs t more passed a.pick now f y.asks pass,
      open_node w m.clearing m.plan m.spot is.whole is.lived.from m.life.era fs t more passed a.pick now f y.asks pass,
    )

    pub one_met : m.life.stand ≡ Stand.Open → OpenMet (seen lens octets) (seen lens (ring_returned node_passed ring octets)) (length fs) m node_then
    one_met stand =
        let on : On lens (length fs) node_then =
        subst (λ (n : Node S). On lens (length fs) n) (Members.node_is lens step fits more passed fs ring octets gs is_frame all r meet bs m cs a whole is x)
        (subst (λ (k : ℕ → Lens). On k (length fs) (node_behind w.running t)) is.lens_is
        (subst (λ (number : ℕ). On w.lens number (node_behind w.running t)) r.number (by_stand m.life.stand stand is.lived.now comes its_turn))) in
        record { back = on.0; node = on.1 }

  pub each_met : fate_in ring ≡ Pass → (bs cs : List (Member S V A Q R)) (turns : List (Turn Q)) → bs ++ cs ≡ all → AllLived lens step fits fs (length bs) cs → AllTurn more passed lens (length fs) gs cs turns →
      AllOpenMet (seen lens octets) (seen lens (ring_returned node_passed ring octets)) (length fs) cs (behind_frame more passed (length fs) (frame_at lens ring octets) (fate_in ring) (length bs) cs turns (come_to (map node_in bs) (chained gs)))
  each_met pass bs [] [] whole lived asks = tt
  each_met pass bs [] (a ∷ turns) whole lived asks = absurd asks
  each_met pass bs (m ∷ cs) [] whole lived asks = absurd asks
  each_met pass bs (m ∷ cs) (a ∷ turns) whole lived asks = (
    one_met bs m cs a whole lived.0 asks.0 pass,
    subst (λ ds. AllOpenMet (seen lens octets) back (length fs) cs (behind_frame more passed (length fs) (frame_at lens ring octets) (fate_in ring) (suc (length bs)) cs turns ds)) (comes_past bs m (chained gs))
        (subst (λ (k : ℕ). AllOpenMet (seen lens octets) back (length fs) cs (behind_frame more passed (length fs) (frame_at lens ring octets) (fate_in ring) k cs turns (come_to (map node_in (bs ++ m ∷ [])) (chained gs)))) (one_more bs m)
        (each_met pass (bs ++ m ∷ []) cs turns (joined bs m cs ∙ whole) (subst (λ (k : ℕ). AllLived lens step fits fs k cs) (sym (one_more bs m)) lived.1) asks.1)),
  )
