-- How the mail in hand of each slave of a serving is told that is passed on, frame by frame.
use Rattle.std.proofs.Common.{◌≡◌, ℕ, zero, suc, Bool, true, List, [], ◌∷◌, ◌++◌, length, map, refl, sym, subst}
use Rattle.std.specs.Prelude.{◌&&◌, All, nat_le}
use Rattle.std.proofs.lemmas.Bool.{le-leb}
use Rattle.std.proofs.lemmas.List.Elements.{All-nil, All-cons, All-head, All-tail}
use Rattle.idle_slaves.specs.of_frame_view.Seen.{datagrams_seen, seen}
use Rattle.idle_slaves.specs.of_frame_view.View.{Lens}
use Rattle.idle_slaves.specs.of_frame_view.Shares.{came_at}
use Rattle.idle_slaves.specs.of_life_model.Lives.{AsksOpen, Life, Spot, Stand, life_next}
use Rattle.idle_slaves.specs.of_life_runs.Led.{Exchanged, Leads, speech_at, gives_up_at, is_passed}
use Rattle.idle_slaves.specs.of_datagrams.Datagram as Raw
use Rattle.idle_slaves.specs.of_link_mails.Body.{Body}
use Rattle.served_rings.specs.of_master_duty.Reply.{Reply}
use Rattle.served_rings.specs.of_master_hand.Spoken.{Asked, acknowledged, is_followed}
use Rattle.served_rings.specs.of_master_side.Passing.{news_back, news_lost}
use Rattle.served_rings.specs.of_master_side.Counts.{kept_on}
use Rattle.idle_slaves.specs.of_run_frames.Answers.{AllReturned}
use Rattle.idle_slaves.proofs.of_run_frames.Leading.{SeenIs, led_view}
use Rattle.idle_slaves.proofs.of_run_frames.Toured.{front_returned, last_returned}
use Rattle.idle_slaves.specs.of_segment_model.Record.{Kept}
use Rattle.idle_slaves.specs.of_segment_model.Returned.{Returns}
use Rattle.idle_slaves.specs.of_segment_model.Slaves.{Datagram}
use Rattle.idle_slaves.specs.of_segment_ring.declared.wire.Fate.{Fate}
use Rattle.idle_slaves.specs.of_segment_ring.declared.wire.Fate.TheVariants.{Pass, Lost}
use Rattle.idle_slaves.specs.of_life_runs.Served.{Keyed, Serves, ServedTurn, AllServedTurn, IsServedLed, IsServedTurn, all_serve, asked_at, new_serves, recorded, served_behind, served_life}
use Rattle.seen_slaves.specs.Rows.{IsNew, ToldSo}
use Rattle.seen_slaves.proofs.Rows.{each_first}
use Rattle.seen_slaves.proofs.Stands.{At, back_at, lost_at, next_at}
use Rattle.seen_slaves.proofs.ServedTold.{ToldAs, back_told, lost_told, new_told, next_told, told_by}

-- what is known of a slave with this life, at this station, by the record's counters
pub record Knows (spot : Spot) (kept : Kept) (l : Life Body Asked Reply) : Type 0 where
  pub station : nat_le 1 spot.station ≡ true
  pub told : At ToldAs new_told l.stand kept l.era

abbrev Holds : Serves → Type 0
Holds w = Knows w.lead.lived.spot w.kept w.lead.lived.life

-- before the first frame
first_holds : (pace : ℕ) (a : Leads) → IsNew a → Holds (new_serves pace a)
first_holds pace a n = record {
  station = le-leb 1 a.lived.spot.station n.station;
  told = subst (λ (l : Life Body Asked Reply). At ToldAs new_told l.stand (new_serves pace a).kept l.era) (sym n.life) (λ e. new_told);
}

-- whatever is asked
asked_each : (place : ℕ) (k : Keyed) (ws : List Serves) → All Holds ws → All Holds (asked_at place k ws)
asked_each place k [] h = All-nil Holds
asked_each zero k (w ∷ ws) h = All-cons Holds (record w { asked = w.asked ++ k ∷ []; waits = w.waits ++ k ∷ [] }) ws (All-head Holds w ws h) (All-tail Holds w ws h)
asked_each (suc place) k (w ∷ ws) h = All-cons Holds w (asked_at place k ws) (All-head Holds w ws h) (asked_each place k ws (All-tail Holds w ws h))

module _ (seen_is : SeenIs) (lens : ℕ → Lens) (recover retry : ℕ) where
  -- before a frame
  turn_holds : (made : ℕ) (ds : List Raw.Datagram) (w : Serves) (v : ServedTurn) → IsServedTurn lens made ds w v → Holds w → Knows v.turn.lived.spot v.kept v.turn.lived.life
  turn_holds made ds w v t k =
      let x = speech_at lens w.lead.lived.spot in
      let l = w.lead.lived.life in
      let next : Knows w.lead.lived.spot w.kept (life_next x acknowledged is_followed is_passed made l l.stand t.next.pick) = record {
        station = k.station;
        told = next_at ToldAs new_told x acknowledged is_followed is_passed made w.kept l t.next.pick (next_told x acknowledged is_followed is_passed made w.kept l t.next.pick) k.told;
      } in
      subst (λ (s : Spot). Knows s v.kept v.turn.lived.life) (sym t.next.spot)
      (subst (λ n. Knows w.lead.lived.spot n v.turn.lived.life) (sym t.kept) (subst (λ (z : Life Body Asked Reply). Knows w.lead.lived.spot w.kept z) (sym t.next.life) next))

  -- BEHIND IT
  module _ (gives : Bool) (made : ℕ) (f : Exchanged) (ds : List Raw.Datagram) (view : seen lens f.sent ≡ datagrams_seen lens ds) (w : Serves) (v : ServedTurn) (t : IsServedTurn lens made ds w v) (k : Knows v.turn.lived.spot v.kept v.turn.lived.life) where
    abbrev spot : Spot
    spot = v.turn.lived.spot

    abbrev l : Life Body Asked Reply
    l = v.turn.lived.life

    asks : l.stand ≡ Stand.Open → AsksOpen spot.station l.era (seen lens f.sent)
    asks e = subst (λ (zs : List (Datagram Body)). AsksOpen spot.station l.era zs) (sym view) (t.asked.asks e)

    abbrev Behind : Fate → Type 0
    Behind z = Knows (served_life lens recover retry gives made f z v).spot (kept_on v.turn.lived.life.stand v.turn.lived.spot.station v.kept (recorded lens recover retry f z)) (served_life lens recover retry gives made f z v).life

    behind : (fate : Fate) → (fate ≡ Pass → Returns (seen lens f.sent) (seen lens f.back)) → Behind fate
    behind Pass r = record {
      station = k.station;
      told = back_at ToldAs new_told (speech_at lens spot) acknowledged is_followed is_passed made v.kept l spot (news_back spot.station v.kept v.counts (seen lens f.back)) (seen lens f.back) (recorded lens recover retry f Pass) (came_at v.turn.share.under v.turn.share.at (seen lens f.back))
          (λ e h. back_told (speech_at lens spot) acknowledged is_followed is_passed made v.kept lens spot k.station f.sent l h (asks e) f.back v.counts (r refl)) k.told;
    }
    behind (Lost after) r = record {
      station = k.station;
      told = lost_at ToldAs new_told (speech_at lens spot) acknowledged is_followed is_passed made v.kept l spot (news_lost spot.station v.kept (seen lens f.sent)) (seen lens f.sent) (recorded lens recover retry f (Lost after)) (gives && v.turn.share.under) recover
          (λ e h. lost_told (speech_at lens spot) acknowledged is_followed is_passed made v.kept lens spot k.station f.sent l h (asks e)) k.told;
    }

  on_each : (gives : Bool) (made : ℕ) (f : Exchanged) (ds : List Raw.Datagram) → seen lens f.sent ≡ datagrams_seen lens ds → (f.fate ≡ Pass → Returns (seen lens f.sent) (seen lens f.back)) → (ws : List Serves) (vs : List ServedTurn) → AllServedTurn lens made ds ws vs → All Holds ws →
      All Holds (map (served_behind lens recover retry gives made f) vs)
  on_each gives made f ds view r [] [] t h = All-nil Holds
  on_each gives made f ds view r [] (v ∷ vs) t h = absurd t
  on_each gives made f ds view r (w ∷ ws) [] t h = absurd t
  on_each gives made f ds view r (w ∷ ws) (v ∷ vs) t h =
      All-cons Holds (served_behind lens recover retry gives made f v) (map (served_behind lens recover retry gives made f) vs) (behind gives made f ds view w v t.0 (turn_holds made ds w v t.0 (All-head Holds w ws h)) f.fate r)
      (on_each gives made f ds view r ws vs t.1 (All-tail Holds w ws h))

  -- ALL FRAMES
  each : (first : List Serves) → All Holds first → (fs : List Exchanged) (missed : ℕ) (ws : List Serves) → IsServedLed lens recover retry first fs missed ws → AllReturned lens fs → All Holds ws
  each first h _ _ _ IsServedLed.start back = h
  each first h _ _ _ (IsServedLed.asks fs missed ws place k led room) back = asked_each place k ws (each first h fs missed ws led back)
  each first h _ _ _ (IsServedLed.on fs missed ws f vs led frame) back =
      on_each (gives_up_at lens recover retry missed) (length fs) f frame.datagrams (led_view seen_is lens recover retry (length fs) f frame.datagrams frame.frame) (last_returned lens fs f back) ws vs frame.each
      (each first h fs missed ws led (front_returned lens fs f back))

  all_told : (ws : List Serves) → All Holds ws → All ToldSo ws
  all_told [] h = All-nil ToldSo
  all_told (w ∷ ws) h =
      let k : Holds w = All-head Holds w ws h in
      All-cons ToldSo w ws (λ e. told_by w.kept w.lead.lived.life.era (subst (λ s. At ToldAs new_told s w.kept w.lead.lived.life.era) e k.told)) (all_told ws (All-tail Holds w ws h))

  pub serves_told : (paces : List ℕ) (first : List Leads) (fs : List Exchanged) (missed : ℕ) (ws : List Serves) → All IsNew first → IsServedLed lens recover retry (all_serve paces first) fs missed ws → AllReturned lens fs → All ToldSo ws
  serves_told paces first fs missed ws new led back = all_told ws (each (all_serve paces first) (each_first Holds first_holds paces first new) fs missed ws led back)
