-- BY A FRAME the record's counters of an open slave stay those of its epoch, and the record says the news by which the epoch goes on.
use Rattle.std.proofs.Common.{◌≡◌, Bool, true, false, List, [], ◌∷◌, ◌++◌, refl, ap, sym, ◌∙◌}
use Rattle.served_rings.specs.Counters.{IsCounted}
use Rattle.served_rings.proofs.Counted.{news_came, counted_back, news_gone, counted_lost}
use Rattle.run_work.specs.of_frame_view.Seen.{seen, datagrams_seen}
use Rattle.served_rings.specs.Led.{LedEra, LedFrame, steps_at, turn_of}
use Rattle.served_rings.proofs.LedLives as Lives
use Rattle.served_rings.proofs.Singles.{all_own}
use Rattle.served_places.specs.of_life_model.Lives.{Spot, Era}
use Rattle.served_places.specs.of_life_model.Own.{own, own_fate}
use Rattle.served_places.specs.of_link_mails.Body.{Body}
use Rattle.served_places.specs.of_link_model.Segment.{RingFate}
use Rattle.run_work.specs.of_master_side.Counts as Record
use Rattle.run_work.specs.of_few_replies.Led.{counts_behind, has_step, news_in}
use Rattle.served_places.specs.of_segment_model.Record.{Frame, Kept, kept_after}
use Rattle.served_places.specs.of_segment_model.Slaves.{ring_back}
use Rattle.served_places.specs.of_segment_ring.Ring.{is_in_pace}
use Rattle.served_places.specs.of_segment_ring.declared.wire.Fate.{Fate}
use Rattle.served_places.specs.of_segment_ring.declared.wire.Fate.TheVariants.{Pass, Lost}
use Rattle.run_work.specs.of_slave_lives.Lived.{Behind, IsBehind, RingFrame, fate_of, frame_of, node_seen, octets_back, returned}
use Rattle.run_work.specs.of_slave_lives.Rings.{fate_seen}
use Rattle.served_places.specs.of_state_model.Accounts.{Pick}
use Rattle.served_rings.specs.Lives.{recorded_as, news_as}

steps_has : (b : Bool) → has_step (steps_at b) ≡ b
steps_has true = refl
steps_has false = refl

module _ {S V A Q R : Type 0} (w : Behind S V A Q R) (is : IsBehind w) (more : Body → Bool) (passed : Q → Bool) (spot : Spot) (from : A) (led : Bool) (e : Era Body Q R) (fs : List (Frame Body)) (t : RingFrame S) (l : LedEra w more passed spot from led e fs t.node) (pick : Pick Q)
    (o : LedFrame w more passed spot e fs t pick) (kept : Kept) (counts : Bool) (counted : IsCounted spot l.opened fs led kept counts) where
  -- the news by a fate, and the counters behind it
  pub record Tells (fate : RingFate) : Type 0 where
    pub news : news_as w.lens spot.station kept counts t fate ≡ news_in spot l.opened fs led (turn_of w more passed spot t pick)
    pub counters : IsCounted spot l.opened (fs ++ frame_of w.lens t ∷ []) (counts_behind spot.station (steps_at (is_in_pace t.pace t.ring.number)) (own spot.station (seen w.lens (octets_back t))) led)
        (kept_after spot.station kept (recorded_as w.lens t fate)) (Record.counts_behind spot.station t.pace t.ring.number (recorded_as w.lens t fate).back counts)

  tells_by : (fate : Fate) → fate_of t ≡ fate → Tells (fate_seen fate)
  tells_by Pass e_ =
      let u = turn_of w more passed spot t pick in
      let came : ring_back ((spot.station, node_seen w t.node) ∷ []) (own spot.station u.sent) RingFate.Back ≡ own spot.station u.back =
      ap (λ f. ring_back ((spot.station, node_seen w t.node) ∷ []) (own spot.station u.sent) (own_fate spot.place (fate_seen f))) (sym e_) ∙ (Lives.may w is more passed spot from led e fs t l pick o).back in
      let sent = all_own w.lens t.octets in
      let back = all_own w.lens (octets_back t) in
      let steps = steps_has (is_in_pace t.pace t.ring.number) in
      record {
        news = news_came spot l.opened fs led kept counts u counted l.before (node_seen w t.node) t.pace t.ring.number sent back came steps;
        counters = counted_back spot l.opened fs led kept counts u counted l.before (node_seen w t.node) t.pace t.ring.number sent back came steps;
      }
  tells_by (Lost after) e_ =
      let u = turn_of w more passed spot t pick in
      let none : u.back ≡ [] = Lives.back w is more passed spot from led e fs t l pick o ∙ ap (λ f. datagrams_seen w.lens (returned f t.before t.node t.behind t.datagrams)) e_ in
      let sent = all_own w.lens t.octets in
      let steps = steps_has (is_in_pace t.pace t.ring.number) in
      record {
        news = news_gone spot l.opened fs led kept counts u counted l.before t.pace t.ring.number sent none steps;
        counters = counted_lost spot l.opened fs led kept counts u counted l.before t.pace t.ring.number sent none steps;
      }

  pub tells : Tells (frame_of w.lens t).fate
  tells = tells_by (fate_of t) refl
