-- A RING'S EXCHANGE of octets is a frame of its open slave's life.
use Rattle.std.proofs.Common.{◌≡◌, ℕ, Bool, List, [], ◌∷◌, ◌++◌, length, refl, ap, ap₂, sym, subst}
use Rattle.frames_seen.specs.of_datagrams.Frame.{IsFrame}
use Rattle.frames_seen.specs.of_frame_view.View.{Lens}
use Rattle.frames_seen.specs.of_frame_view.Seen.{seen, datagrams_seen}
use Rattle.frames_seen.proofs.of_frame_view.Octets as Octets
use Rattle.frames_seen.specs.of_link_mails.Body.{Body}
use Rattle.frames_seen.specs.of_segment_model.Slaves.{Datagram}
use Rattle.frames_seen.specs.of_segment_model.Record.{Frame, News}
use Rattle.frames_seen.specs.of_segment_ring.declared.wire.Fate.{Fate}
use Rattle.frames_seen.specs.of_segment_ring.declared.wire.Fate.TheVariants.{Pass, Lost}
use Rattle.frames_seen.specs.of_state_model.Accounts.{Pick}
use Rattle.frames_seen.specs.of_life_model.Lives.{Spot, Era, AsksOpen, era_next, era_after}
use Rattle.slave_lives.specs.Steps.{Running}
use Rattle.slave_lives.specs.Rings.{come_back, IsExchanged}
use Rattle.slave_lives.specs.Lived.{Behind, IsBehind, LivesEra, RingFrame, fate_of, node_behind, octets_back, frame_of, returned, StandsBehind, OpenFrame, LivedOn}
use Rattle.slave_lives.proofs.EraFrames.{lives_on}
use Rattle.slave_lives.proofs.RingFrames.{exchanged}

-- a ring's frame, for the slave
pub frame_is : {S : Type 0} (u : Running S) (t : RingFrame S) → IsExchanged u t.ring t.octets t.datagrams t.before t.node t.behind t.pace
frame_is u t = exchanged u t.ring t.octets t.datagrams t.before t.node t.behind t.front t.pace t.rest t.is_frame t.nodes t.paces t.place

pub stands_behind : {S : Type 0} (u : Running S) (t : RingFrame S) → StandsBehind u t (node_behind u t)
stands_behind u t = let x = frame_is u t in record { left = x.left; right = x.right; place = x.place; nodes = x.nodes }

-- what was sent and what came back, as a session sees them
pub sent_is : {S : Type 0} (lens : ℕ → Lens) (t : RingFrame S) → seen lens t.octets ≡ datagrams_seen lens t.datagrams
sent_is lens t = Octets.seen_is lens t.octets t.datagrams t.is_frame

pub back_is : {S : Type 0} (u : Running S) (lens : ℕ → Lens) (t : RingFrame S) → seen lens (octets_back t) ≡ datagrams_seen lens (returned (fate_of t) t.before t.node t.behind t.datagrams)
back_is u lens t = go (fate_of t) (λ e. x.back e) (λ after e. x.lost after e)
  where
    x : IsExchanged u t.ring t.octets t.datagrams t.before t.node t.behind t.pace
    x = frame_is u t

    go : (fate : Fate) → (fate ≡ Pass → IsFrame (octets_back t) (come_back t.before t.node t.behind t.datagrams)) → ((after : ℕ) → fate ≡ Lost after → octets_back t ≡ []) →
        seen lens (octets_back t) ≡ datagrams_seen lens (returned fate t.before t.node t.behind t.datagrams)
    go Pass back lost = Octets.seen_is lens (octets_back t) (come_back t.before t.node t.behind t.datagrams) (back refl)
    go (Lost after) back lost = ap (seen lens) (lost after refl)

pub lived_on : {S V A Q R : Type 0} (w : Behind S V A Q R) → IsBehind w → (more : Body → Bool) (passed : Q → Bool) (spot : Spot) (from : A) (e : Era Body Q R) (fs : List (Frame Body)) (t : RingFrame S) (pick : Pick Q) (news : List (News Body)) →
    OpenFrame w more passed spot from e fs t pick → LivedOn w more passed spot from e fs t pick news
lived_on w is more passed spot from e fs t pick news o =
    let next = era_next w.exchange.speech w.states.acknowledged more passed (length fs) e pick in
    let sent = sent_is w.lens t in
    let back = back_is w.running w.lens t in
    let asks = subst (λ ds. AsksOpen spot.station next ds) sent o.asks in
    let lives = lives_on w is more passed spot from e fs t.node o.lives t.before t.behind t.datagrams (fate_of t) pick news t.pace t.ring.number o.at o.alone asks o.steps in
    let f = frame_of w.lens t in
    record {
      stands = stands_behind w.running t;
      lives = subst (λ (x : List (Datagram Body) × List (Datagram Body)).
          LivesEra w spot from (era_after w.exchange.speech w.states.acknowledged more passed spot.station (length fs) news x.0 f.fate x.1 next) (fs ++ record { sent = x.0; fate = f.fate; back = x.1 } ∷ []) (node_behind w.running t))
          (ap₂ (λ (a b : List (Datagram Body)). (a, b)) (sym sent) (sym back)) lives;
    }
