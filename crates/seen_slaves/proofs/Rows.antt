-- The mail in hand of each slave of a serving that is passed on, frame by frame.
use Rattle.std.proofs.Common.{◌≡◌, ℕ, Bool, true, false, Option, Some, None, List, [], ◌∷◌, refl, sym, subst}
use Rattle.std.specs.Prelude.{◌&&◌, All, nat_le}
use Rattle.std.proofs.lemmas.Bool.{le-leb}
use Rattle.std.proofs.lemmas.List.Elements.{All-nil, All-cons, All-head, All-tail}
use Rattle.idle_slaves.specs.of_frame_view.Seen.{seen}
use Rattle.idle_slaves.specs.of_frame_view.View.{Lens}
use Rattle.served_rings.proofs.of_served_places.Each.{each}
use Rattle.idle_slaves.specs.of_frame_view.Shares.{came_at, given_where}
use Rattle.idle_slaves.specs.of_life_model.Lives.{Life, Spot, Stand, life_back, life_lost, life_next}
use Rattle.idle_slaves.specs.of_life_runs.Led.{Exchanged, Leads, speech_at, is_passed}
use Rattle.idle_slaves.specs.of_datagrams.Datagram as Raw
use Rattle.idle_slaves.specs.of_link_mails.Body.{Body}
use Rattle.served_rings.specs.of_master_duty.Reply.{Reply}
use Rattle.served_rings.specs.of_master_hand.Spoken.{Asked, acknowledged, is_followed}
use Rattle.served_rings.specs.of_master_side.Passing.{news_back, news_lost}
use Rattle.served_rings.specs.of_master_side.Counts.{kept_on}
use Rattle.served_rings.specs.of_few_replies.Heard.{EraPasses}
use Rattle.served_rings.proofs.of_few_replies.Rows as Passing
use Rattle.idle_slaves.specs.of_segment_model.Record.{Kept}
use Rattle.idle_slaves.specs.of_segment_model.Slaves.{Found}
use Rattle.idle_slaves.specs.of_segment_ring.declared.wire.Fate.{Fate}
use Rattle.idle_slaves.specs.of_segment_ring.declared.wire.Fate.TheVariants.{Pass, Lost}
use Rattle.idle_slaves.specs.of_life_runs.Served.{Serves, ServedTurn, IsServedTurn, IsServedLed, all_serve, new_serves, recorded, served_life}
use Rattle.seen_slaves.specs.Rows.{IsNew, PassesSo}
use Rattle.seen_slaves.proofs.Heard.{Heard, back_heard, lost_heard, lost_none, new_heard, news_heard, next_heard}
use Rattle.seen_slaves.proofs.Stands.{At, back_at, lost_at, next_at}
use Rattle.seen_slaves.specs.Last.{LastPasses}
use Rattle.seen_slaves.proofs.Last as Newest

-- before the first frame
pub each_first : (P : Serves → Type 0) → ((pace : ℕ) (a : Leads) → IsNew a → P (new_serves pace a)) → (paces : List ℕ) (as' : List Leads) → All IsNew as' → All P (all_serve paces as')
each_first P one paces [] n = All-nil P
each_first P one [] (a ∷ as') n = All-cons P (new_serves 1 a) (all_serve [] as') (one 1 a (All-head IsNew a as' n)) (each_first P one [] as' (All-tail IsNew a as' n))
each_first P one (pace ∷ paces) (a ∷ as') n = All-cons P (new_serves pace a) (all_serve paces as') (one pace a (All-head IsNew a as' n)) (each_first P one paces as' (All-tail IsNew a as' n))

module _ (lens : ℕ → Lens) where
  -- what is known of a slave with this life, at this station, by the record's counters
  pub record Known (spot : Spot) (kept : Kept) (l : Life Body Asked Reply) : Type 0 where
    pub station : nat_le 1 spot.station ≡ true
    pub heard : At Heard new_heard l.stand kept l.era
    pub passes : EraPasses (speech_at lens spot) is_followed is_passed l.era
    pub last : LastPasses l.era

  abbrev Knows : Serves → Type 0
  Knows w = Known w.lead.lived.spot w.kept w.lead.lived.life

  -- before a frame
  turn_known : (made : ℕ) (ds : List Raw.Datagram) (w : Serves) (v : ServedTurn) → IsServedTurn lens made ds w v → Knows w → Known v.turn.lived.spot v.kept v.turn.lived.life
  turn_known made ds w v t k =
      let x = speech_at lens w.lead.lived.spot in
      let l = w.lead.lived.life in
      let next : Known w.lead.lived.spot w.kept (life_next x acknowledged is_followed is_passed made l l.stand t.next.pick) = record {
        station = k.station;
        heard = next_at Heard new_heard x acknowledged is_followed is_passed made w.kept l t.next.pick (next_heard x acknowledged is_followed is_passed made w.kept l t.next.pick) k.heard;
        passes = Passing.next x is_followed is_passed acknowledged made l l.stand t.next.pick k.passes;
        last = Newest.next x acknowledged is_followed is_passed made l l.stand t.next.pick k.last;
      } in
      subst (λ (s : Spot). Known s v.kept v.turn.lived.life) (sym t.next.spot)
      (subst (λ n. Known w.lead.lived.spot n v.turn.lived.life) (sym t.kept) (subst (λ (z : Life Body Asked Reply). Known w.lead.lived.spot w.kept z) (sym t.next.life) next))

  -- BEHIND IT
  module _ (recover retry : ℕ) (gives : Bool) (made : ℕ) (f : Exchanged) (v : ServedTurn) (k : Known v.turn.lived.spot v.kept v.turn.lived.life) where
    abbrev spot : Spot
    spot = v.turn.lived.spot

    abbrev l : Life Body Asked Reply
    l = v.turn.lived.life

    -- a slave that isn't open hears nothing
    back_passes : (s : Stand) → l.stand ≡ s → (came : Option (Bool × Option Found)) →
        EraPasses (speech_at lens v.turn.lived.spot) is_followed is_passed (life_back (speech_at lens v.turn.lived.spot) acknowledged is_followed is_passed made v.turn.lived.spot (news_back v.turn.lived.spot.station v.kept v.counts (seen lens f.back)) (seen lens f.back) came v.turn.lived.life s).era
    back_passes (Stand.Opens o) e None = k.passes
    back_passes (Stand.Opens o) e (Some came) = Passing.back (speech_at lens v.turn.lived.spot) is_followed is_passed acknowledged made spot [] [] (Some came) l (Stand.Opens o) k.passes refl
    back_passes Stand.Gone e None = k.passes
    back_passes Stand.Gone e (Some came) = k.passes
    back_passes Stand.Open e came =
        Passing.back (speech_at lens v.turn.lived.spot) is_followed is_passed acknowledged made spot (news_back spot.station v.kept v.counts (seen lens f.back)) (seen lens f.back) came l Stand.Open k.passes
        (news_heard (speech_at lens v.turn.lived.spot) acknowledged is_followed is_passed made v.kept l lens spot k.station f.back v.counts (subst (λ s. At Heard new_heard s v.kept l.era) e k.heard))

    abbrev lost_life : Life Body Asked Reply
    lost_life = life_lost (speech_at lens v.turn.lived.spot) acknowledged is_followed is_passed v.turn.lived.spot (news_lost v.turn.lived.spot.station v.kept (seen lens f.sent)) (seen lens f.sent) v.turn.lived.life v.turn.lived.life.stand

    lost_passes : EraPasses (speech_at lens v.turn.lived.spot) is_followed is_passed lost_life.era
    lost_passes = Passing.lost (speech_at lens v.turn.lived.spot) is_followed is_passed acknowledged spot (news_lost spot.station v.kept (seen lens f.sent)) (seen lens f.sent) l l.stand k.passes
        (lost_none (speech_at lens v.turn.lived.spot) acknowledged is_followed is_passed made v.kept l lens spot k.station f.sent)

    lost_last : LastPasses lost_life.era
    lost_last = Newest.lost (speech_at lens v.turn.lived.spot) acknowledged is_followed is_passed spot (news_lost spot.station v.kept (seen lens f.sent)) (seen lens f.sent) l l.stand k.last

    -- a give-up leaves the epoch
    up_passes : (b : Bool) → EraPasses (speech_at lens v.turn.lived.spot) is_followed is_passed (given_where b recover v.turn.lived.spot made lost_life).era
    up_passes true = lost_passes
    up_passes false = lost_passes

    up_last : (b : Bool) → LastPasses (given_where b recover v.turn.lived.spot made lost_life).era
    up_last true = lost_last
    up_last false = lost_last

    abbrev Behind : Fate → Type 0
    Behind z = Known (served_life lens recover retry gives made f z v).spot (kept_on v.turn.lived.life.stand v.turn.lived.spot.station v.kept (recorded lens recover retry f z)) (served_life lens recover retry gives made f z v).life

    behind : (fate : Fate) → Behind fate
    behind Pass = record {
      station = k.station;
      heard = back_at Heard new_heard (speech_at lens spot) acknowledged is_followed is_passed made v.kept l spot (news_back spot.station v.kept v.counts (seen lens f.back)) (seen lens f.back) (recorded lens recover retry f Pass) (came_at v.turn.share.under v.turn.share.at (seen lens f.back))
          (λ e h. back_heard (speech_at lens spot) acknowledged is_followed is_passed made v.kept l lens spot k.station f.back (news_back spot.station v.kept v.counts (seen lens f.back)) h) k.heard;
      passes = back_passes l.stand refl (came_at v.turn.share.under v.turn.share.at (seen lens f.back));
      last = Newest.back (speech_at lens spot) acknowledged is_followed is_passed made spot (news_back spot.station v.kept v.counts (seen lens f.back)) (seen lens f.back) (came_at v.turn.share.under v.turn.share.at (seen lens f.back)) l l.stand k.last;
    }
    behind (Lost after) = record {
      station = k.station;
      heard = lost_at Heard new_heard (speech_at lens spot) acknowledged is_followed is_passed made v.kept l spot (news_lost spot.station v.kept (seen lens f.sent)) (seen lens f.sent) (recorded lens recover retry f (Lost after)) (gives && v.turn.share.under) recover
          (λ e h. lost_heard (speech_at lens spot) acknowledged is_followed is_passed made v.kept l lens spot k.station f.sent (news_lost spot.station v.kept (seen lens f.sent)) h) k.heard;
      passes = up_passes (gives && v.turn.share.under);
      last = up_last (gives && v.turn.share.under);
    }

  first_known : (pace : ℕ) (a : Leads) → IsNew a → Knows (new_serves pace a)
  first_known pace a n = record {
    station = le-leb 1 a.lived.spot.station n.station;
    heard = subst (λ (l : Life Body Asked Reply). At Heard new_heard l.stand (new_serves pace a).kept l.era) (sym n.life) (λ e. refl);
    passes = subst (λ (l : Life Body Asked Reply). EraPasses (speech_at lens a.lived.spot) is_followed is_passed l.era) (sym n.life) (Passing.new (speech_at lens a.lived.spot) is_followed is_passed None);
    last = subst (λ (l : Life Body Asked Reply). LastPasses l.era) (sym n.life) (Newest.none_lasts []);
  }

  all_pass : (ws : List Serves) → All Knows ws → All (PassesSo lens) ws
  all_pass [] h = All-nil (PassesSo lens)
  all_pass (w ∷ ws) h =
      let k : Knows w = All-head Knows w ws h in
      All-cons (PassesSo lens) w ws (record { row = k.passes; last = k.last }) (all_pass ws (All-tail Knows w ws h))

  pub serves_pass : (recover retry : ℕ) (paces : List ℕ) (first : List Leads) (fs : List Exchanged) (missed : ℕ) (ws : List Serves) → All IsNew first → IsServedLed lens recover retry (all_serve paces first) fs missed ws → All (PassesSo lens) ws
  serves_pass recover retry paces first fs missed ws new led =
      all_pass ws (each lens recover retry Knows (λ w k h. h) (λ gives made ds f w v t h. behind recover retry gives made f v (turn_known made ds w v t h) f.fate) (all_serve paces first) (each_first Knows first_known paces first new) fs missed ws led)
