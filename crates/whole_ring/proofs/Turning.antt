-- ONE SLAVE OF THE RING by a frame: its life is lived on.
use Rattle.std.proofs.Common.{◌≡◌, ◌⊎◌, inl, inr, ℕ, suc, ◌+◌, ◌<◌, ◌==◌, Bool, true, false, List, [], ◌∷◌, ◌++◌, length, refl, ap, ap₂, sym, ◌∙◌, subst, arith}
use Rattle.std.specs.Prelude.{Option, Some, None, not, ⊤}
use Rattle.slave_lives.specs.of_datagrams.Datagram as Raw
use Rattle.slave_lives.specs.of_datagrams.Frame.{chained}
use Rattle.slave_lives.specs.of_slave_node.Passing.{datagram_after, datagrams_after}
use Rattle.slave_lives.specs.of_frame_view.View.{datagram_seen}
use Rattle.slave_lives.specs.of_frame_view.Seen.{seen, datagrams_seen}
use Rattle.slave_lives.proofs.of_frame_view.Octets as Octets
use Rattle.slave_lives.specs.of_frames_seen.Ring.{all_after, AllApart}
use Rattle.slave_lives.specs.of_link_mails.Body.{Body}
use Rattle.slave_lives.specs.of_link_model.Segment.{RingFate}
use Rattle.slave_lives.specs.of_mailbox_slave.Registers.{in_len}
use Rattle.slave_lives.specs.of_segment_model.Record.{Frame}
use Rattle.slave_lives.specs.of_segment_model.Slaves.{Datagram, Found}
use Rattle.slave_lives.specs.of_segment_ring.declared.wire.Fate.{Fate}
use Rattle.slave_lives.specs.of_segment_ring.declared.wire.Fate.TheVariants.{Pass, Lost}
use Rattle.slave_lives.specs.of_slave_node.Node.{Node}
use Rattle.slave_lives.specs.of_life_model.Eras.{Clearing}
use Rattle.slave_lives.specs.of_life_model.Lives.{Spot, Life, Era, Opening, Stand, AsksOpen, life_next}
use Rattle.slave_lives.specs.of_life_model.Tours.{item_at}
use Rattle.slave_lives.specs.of_frame_view.Frames.{FrameFor}
use Rattle.slave_lives.specs.of_frame_view.Shares.{Asked, came_at, came_of}
use Rattle.slave_lives.specs.Lived.{Behind, RingFrame, fate_of, is_reached, node_met, node_behind, frame_of, returned}
use Rattle.slave_lives.specs.Nodes.{IsRunning, IsRoomy}
use Rattle.slave_lives.specs.Opening.{Plan, IsPlan, JustOne}
use Rattle.slave_lives.specs.Rings.{registers_of, come_to, is_met_at, met}
use Rattle.slave_lives.specs.Stands.{turn_of}
use Rattle.slave_lives.specs.Ways.{AllNotFor, JustOnWay}
use Rattle.slave_lives.proofs.AllSeats as Seats
use Rattle.slave_lives.proofs.RingFrames.{after_keeps, met_runs}
use Rattle.slave_lives.proofs.RingLives.{sent_is, back_is}
use Rattle.slave_lives.proofs.Servers.{step_holds}
use Rattle.slave_lives.proofs.Ways as Way
use Rattle.whole_ring.specs.Turns.{FrameComes, CameAs, TurnsAs, era_before, era_behind, plan_at}
use Rattle.whole_ring.specs.Turns as Whole
use Rattle.whole_ring.specs.Whole.{IsWhole, OpensBy, StandsAs, IsLived, plan_to}
use Rattle.whole_ring.proofs.Kept.{met_server, turned_with}
use Rattle.whole_ring.proofs.Seated.{known}
use Rattle.whole_ring.proofs.WholeTurning.{turns}
use Rattle.whole_ring.specs.Members.{Serves, HandBoots}
use Rattle.whole_ring.specs.Turning.{Turn, BeginBoots, next_life, life_by}
use Rattle.whole_ring.proofs.Boots as Boots
use Rattle.whole_ring.proofs.Came as Back
use Rattle.whole_ring.proofs.Frames.{Placed, IsSent, opening_in}

-- a choice leaves how the master stands to the slave
pub next_stand : {S V A Q R : Type 0} (more : Body → Bool) (passed : Q → Bool) (made : ℕ) (w : Behind S V A Q R) (l : Life Body Q R) (a : Turn Q) → (next_life more passed made w l a).stand ≡ l.stand
next_stand more passed made w l a = go l.stand
  where
    go : (stand : Stand) → (life_next w.exchange.speech w.states.acknowledged more passed made l stand a.pick).stand ≡ l.stand
    go (Stand.Opens o) = refl
    go Stand.Open = refl
    go Stand.Gone = refl

-- as many registers as nodes
many_registers : {S : Type 0} (ns : List (Node S)) → length (registers_of ns) ≡ length ns
many_registers [] = refl
many_registers (n ∷ ns) = ap suc (many_registers ns)

-- the frame's one access, on its way
just_of : (p : Plan) (n place : ℕ) (front : List Raw.Datagram) (d : Raw.Datagram) (behind : List Raw.Datagram) → AllNotFor p place 0 front → IsSent p n place d → AllNotFor p place 0 behind → JustOnWay p n place 0 (front ++ d ∷ behind)
just_of p n place [] d behind before sent after = inr (sent.on, after)
just_of p n place (f ∷ fs) d behind before sent after = inl (before.0, just_of p n place fs d behind before.1 sent after)

-- nothing came of a lost frame
came_none : (under : Bool) (at : ℕ) → came_at under at [] ≡ None
came_none true at = refl
came_none false at = refl

-- the plan of the opening in hand is one
pub plan_known : {S V A Q R : Type 0} (w : Behind S V A Q R) (c : Clearing V A) (p : Plan) (spot : Spot) (whole : IsWhole w c p spot) (fs : List (Frame Body)) (n : Node S) (from : A) (e : Era Body Q R) (stand : Stand) → StandsAs w p spot from e fs stand n → IsPlan w.boot w.lens (plan_at p stand)
plan_known w c p spot whole fs n from e (Stand.Opens o) (OpensBy.yet again step plan l) = plan
plan_known w c p spot whole fs n from e (Stand.Opens o) (OpensBy.anew cl x first) = cl.plan
plan_known w c p spot whole fs n from e (Stand.Opens o) (OpensBy.over cl again early x) = cl.plan
plan_known w c p spot whole fs n from e Stand.Open now = whole.plan
plan_known w c p spot whole fs n from e Stand.Gone now = whole.plan

-- an access of an opening that came back, which no slave before had met
abbrev pub CameSo : {S V A Q R : Type 0} → Behind S V A Q R → Plan → Opening → RingFrame S → Option (Bool × Option Found) → Type 0
CameSo w p o t None = ⊤
CameSo w p o t (Some came) = (k : Whole.Came w p o t came) × (k.access.head.counter ≡ 0)

came_of_so : {S V A Q R : Type 0} (w : Behind S V A Q R) (p : Plan) (o : Opening) (t : RingFrame S) (came : Option (Bool × Option Found)) → CameSo w p o t came → CameAs w p o t came
came_of_so w p o t None k = tt
came_of_so w p o t (Some came) k = k.0

module _ {S V A Q R : Type 0} (w : Behind S V A Q R) (c : Clearing V A) (p : Plan) (spot : Spot) (whole : IsWhole w c p spot) (first : A) (fs : List (Frame Body)) (t : RingFrame S) (near : spot.place < 16) (few : length t.behind < 16) where
  module _ (l : Life Body Q R) (i : IsLived w c p spot first l fs t.node) (step : Node S → Node S) (fits : S → Type 0) (serves : Serves step fits w p.back) (server : fits t.node.server) (room : in_len t.node.registers ≡ p.back) where
    -- THE SERVER behind the frame, and the room that it has
    fits_met : fits (node_met t).server
    fits_met = subst fits (sym (met_server (is_reached t) t.node (come_to t.before t.datagrams))) server

    room_met : in_len (node_met t).registers ≡ p.back
    room_met = go (is_reached t)
      where
        go : (b : Bool) → in_len (met b t.node (come_to t.before t.datagrams)).registers ≡ p.back
        go true = (after_keeps t.node.registers (come_to t.before t.datagrams)).inward ∙ room
        go false = room

    pub roomy : IsRoomy w.running (in_len (node_met t).registers) (node_met t).server
    roomy = subst (λ (len : ℕ). IsRoomy w.running len (node_met t).server) (sym room_met)
        (record { now = serves.placed (node_met t).server fits_met; taken = λ b al. serves.placed (w.running.take (node_met t).server b al) (serves.takes (node_met t).server b al fits_met) })

    runs_met : IsRunning w.running (node_met t)
    runs_met = met_runs w.running (is_reached t) t.node (come_to t.before t.datagrams) i.runs

    pub fits_behind : fits (node_behind w.running t).server
    fits_behind = turned_with w.running whole.behind.clears t.pace t.ring.number (node_met t) runs_met (λ now. roomy) (λ n. fits n.server) fits_met
        (λ on. step_holds w.running fits serves.takes serves.gives serves.clears (node_met t) fits_met)

    pub room_behind : in_len (node_behind w.running t).registers ≡ p.back
    room_behind = turned_with w.running whole.behind.clears t.pace t.ring.number (node_met t) runs_met (λ now. roomy) (λ n. in_len n.registers ≡ p.back) room_met (λ on. on.keeps.len ∙ room_met)

    module _ (more : Body → Bool) (passed : Q → Bool) (a : Turn Q) (gs : List Raw.Datagram) (chain : t.datagrams ≡ chained gs) (f : FrameComes w p spot l.stand t) (asked : Asked w.lens gs (record { spot = spot; life = next_life more passed (length fs) w l a }) a.share) (boot : HandBoots w.boot l.era.account.hand) (wish : BeginBoots w.boot a.pick.begin) where
      has_for : (stand : Stand) → l.stand ≡ stand → FrameFor w.lens spot stand a.share gs
      has_for stand e = subst (λ (st : Stand). FrameFor w.lens spot st a.share gs) (next_stand more passed (length fs) w l a ∙ e) asked.has

      abbrev pub came : Option (Bool × Option Found)
      came = came_at a.share.under a.share.at (frame_of w.lens t).back

      -- THE ACCESS of an opening
      pub came_so : (o : Opening) → l.stand ≡ Stand.Opens o → CameSo w p o t came
      came_so o e = go (fate_of t) refl
        where
          now : StandsAs w p spot i.from l.era fs (Stand.Opens o) t.node
          now = subst (λ (st : Stand). StandsAs w p spot i.from l.era fs st t.node) e i.now

          k : Seats.Known w.running w.boot w.lens (plan_to p o.state) o t.node
          k = Seats.known w.running w.boot w.lens (plan_to p o.state) o t.node (plan_known w c p spot whole fs t.node i.from l.era (Stand.Opens o) now) (known w c p spot whole i.from l.era fs (Stand.Opens o) t.node now)

          at_place : length (registers_of t.before) ≡ spot.place
          at_place = many_registers t.before ∙ f.at

          back_at : (fate : Fate) → fate_of t ≡ fate → (frame_of w.lens t).back ≡ datagrams_seen w.lens (returned fate t.before t.node t.behind t.datagrams)
          back_at fate is = back_is w.running w.lens t ∙ ap (λ (x : Fate). datagrams_seen w.lens (returned x t.before t.node t.behind t.datagrams)) is

          by : fate_of t ≡ Pass → ((a.share.under ≡ false) × AllNotFor (plan_to p o.state) spot.place 0 (chained gs)) ⊎ ((a.share.under ≡ true) × Placed (plan_to p o.state) spot.place a.share.at (IsSent (plan_to p o.state) (turn_of o) spot.place) (chained gs)) →
              CameSo w p o t (came_at a.share.under a.share.at (frame_of w.lens t).back)
          by back (inl (not_, others)) = subst (λ (b : Bool). CameSo w p o t (came_at b a.share.at (frame_of w.lens t).back)) (sym not_) tt
          by back (inr (is, x)) =
              let reached : is_reached t ≡ true = ap (λ (fate : Fate). is_met_at (length t.before) fate) back in
              let ds_is : t.datagrams ≡ x.front ++ x.gram ∷ x.behind = chain ∙ x.split in
              let first_ : AllApart p.station (registers_of t.before) (x.front ++ x.gram ∷ x.behind) = subst (λ l. AllApart p.station (registers_of t.before) l) ds_is (f.apart reached) in
              let last_ : AllApart p.station (registers_of t.behind) (datagrams_after t.node.registers (all_after (registers_of t.before) (x.front ++ x.gram ∷ x.behind))) =
              subst (λ l. AllApart p.station (registers_of t.behind) (datagrams_after t.node.registers (all_after (registers_of t.before) l))) ds_is (f.last reached) in
              let n = turn_of o in
              let found = Back.came_is w.lens (plan_to p o.state) n spot.place k.turn near t.node.registers k.called (λ ds just. k.meets spot.place ds near just) x.front x.gram x.behind (registers_of t.before) (registers_of t.behind)
              at_place (let e = many_registers t.behind in omega (arith, e, few)) x.before x.is first_ last_ in
              let list : (frame_of w.lens t).back ≡ datagrams_seen w.lens (all_after (registers_of t.behind) (datagrams_after t.node.registers (all_after (registers_of t.before) (x.front ++ x.gram ∷ x.behind)))) =
              back_at Pass back ∙ ap (λ l. datagrams_seen w.lens (all_after (registers_of t.behind) (datagrams_after t.node.registers (all_after (registers_of t.before) l)))) ds_is in
              let value : came_at a.share.under a.share.at (frame_of w.lens t).back ≡ Some (not ((datagram_seen w.lens (datagram_after t.node.registers found.access)).counter == 0), (datagram_seen w.lens (datagram_after t.node.registers found.access)).found) =
              ap (λ (b : Bool). came_at b a.share.at (frame_of w.lens t).back) is ∙ ap₂ (λ (at : ℕ) (l : List (Datagram Body)). came_of (item_at at l)) (sym x.at_is) list ∙ found.came_is in
              let just : JustOne (plan_to p o.state) n t.node.registers (come_to t.before t.datagrams) = subst (λ l. JustOne (plan_to p o.state) n t.node.registers (come_to t.before l)) (sym ds_is)
              (k.meets spot.place (all_after (registers_of t.before) (x.front ++ x.gram ∷ x.behind)) near
              (subst (λ (m : ℕ). JustOnWay (plan_to p o.state) n spot.place m (all_after (registers_of t.before) (x.front ++ x.gram ∷ x.behind))) (let e : 0 + length (registers_of t.before) ≡ length (registers_of t.before) = omega arith in e ∙ at_place)
              (Way.just_on_way (plan_to p o.state) n spot.place 0 (registers_of t.before) (x.front ++ x.gram ∷ x.behind) k.turn near (omega (arith, at_place)) first_ (just_of (plan_to p o.state) n spot.place x.front x.gram x.behind x.before x.is x.after)))) in
              subst (λ (v : Option (Bool × Option Found)). CameSo w p o t v) (sym value)
              (record { access = found.access; back = record { came = back; just = just; back = record { access = found.is; done_is = refl; found_is = refl } }; ready = λ cleared. serves.ready o.state (node_behind w.running t).server fits_behind cleared }, found.first)

          go : (fate : Fate) → fate_of t ≡ fate → CameSo w p o t (came_at a.share.under a.share.at (frame_of w.lens t).back)
          go Pass is = by is (opening_in w.lens p spot whole.station whole.plan.lens_out whole.plan.lens_back o a.share gs near (has_for (Stand.Opens o) e))
          go (Lost after) is = subst (λ (v : Option (Bool × Option Found)). CameSo w p o t v) (sym (ap (λ l. came_at a.share.under a.share.at l) (back_at (Lost after) is) ∙ came_none a.share.under a.share.at)) tt

      came_as : (o : Opening) → l.stand ≡ Stand.Opens o → CameAs w p o t came
      came_as o e = came_of_so w p o t came (came_so o e)

      pub asks_open : l.stand ≡ Stand.Open → AsksOpen spot.station (era_before w more passed spot fs t a.pick a.news l.era) (seen w.lens t.octets)
      asks_open e =
          let there : AsksOpen spot.station (next_life more passed (length fs) w l a).era (datagrams_seen w.lens gs) = asked.asks (next_stand more passed (length fs) w l a ∙ e) in
          let next : AsksOpen spot.station (era_before w more passed spot fs t a.pick a.news l.era) (datagrams_seen w.lens gs) =
          subst (λ (st : Stand). AsksOpen spot.station (life_next w.exchange.speech w.states.acknowledged more passed (length fs) l st a.pick).era (datagrams_seen w.lens gs)) e there in
          subst (λ ds. AsksOpen spot.station (era_before w more passed spot fs t a.pick a.news l.era) ds) (sym (sent_is w.lens t ∙ ap (datagrams_seen w.lens) chain ∙ Octets.seen_chained w.lens gs)) next

      pub turns_as : (stand : Stand) → l.stand ≡ stand → TurnsAs w more passed p spot fs t a.pick a.news came l.era stand
      turns_as (Stand.Opens o) e = came_as o e
      turns_as Stand.Open e = record {
        asks = asks_open e;
        boots = λ duty is. Boots.hand_of w.boot (era_behind w more passed spot fs t a.pick a.news (frame_of w.lens t).fate l.era).account.hand
            (Boots.era_boots w.boot w.exchange.speech w.states.acknowledged more passed (length fs) spot a.news a.pick wish (frame_of w.lens t).fate (frame_of w.lens t).sent (frame_of w.lens t).back l.era boot) duty is;
      }
      turns_as Stand.Gone e = tt

      pub same_life : (fate : RingFate) → Whole.life_by w more passed spot fs t a.pick a.news came fate l l.stand ≡ life_by more passed (length fs) (frame_of w.lens t) fate w spot l a
      same_life RingFate.Back = refl
      same_life (RingFate.Lost after) = refl

      -- THE LIFE IS LIVED ON
      pub lived_on : IsLived w c p spot first (life_by more passed (length fs) (frame_of w.lens t) (frame_of w.lens t).fate w spot l a) (fs ++ frame_of w.lens t ∷ []) (node_behind w.running t)
      lived_on = subst (λ (k : Life Body Q R). IsLived w c p spot first k (fs ++ frame_of w.lens t ∷ []) (node_behind w.running t)) (same_life (frame_of w.lens t).fate)
          (turns w c p spot whole first l fs t more passed a.pick a.news came i f (turns_as l.stand refl))

      pub boots_on : (fate : RingFate) → HandBoots w.boot (life_by more passed (length fs) (frame_of w.lens t) fate w spot l a).era.account.hand
      boots_on RingFate.Back = Boots.back_boots w.boot w.exchange.speech w.states.acknowledged more passed (length fs) spot a.news a.pick wish (frame_of w.lens t).back (came_at a.share.under a.share.at (frame_of w.lens t).back) l l.stand boot
      boots_on (RingFate.Lost after) = Boots.lost_boots w.boot w.exchange.speech w.states.acknowledged more passed (length fs) spot a.news a.pick wish (frame_of w.lens t).sent l l.stand boot
