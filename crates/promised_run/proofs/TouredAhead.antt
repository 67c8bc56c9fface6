-- Slaves of a serving that no frame carried yet are in their first bring-up, and stay there.
use Rattle.std.proofs.Common.{◌≡◌, ℕ, zero, suc, ◌&&◌, Bool, true, false, List, [], ◌∷◌, map, refl, sym, ap, ◌∙◌, subst}
use Rattle.run_promises.specs.of_datagrams.Datagram as Raw
use Rattle.run_promises.specs.of_exchange_model.Exchange.{Speech}
use Rattle.seen_slaves.specs.of_frame_view.Seen.{seen}
use Rattle.seen_slaves.specs.of_frame_view.View.{Lens}
use Rattle.seen_slaves.specs.of_frame_view.Shares.{came_at, given_where}
use Rattle.run_promises.specs.of_life_model.Lives.{Spot, Stand, Life, life_next, life_back, life_lost}
use Rattle.run_promises.specs.of_life_runs.Led.{Exchanged, speech_at, is_passed}
use Rattle.run_promises.specs.of_link_mails.Body.{Body}
use Rattle.seen_slaves.specs.of_master_duty.Reply.{Reply}
use Rattle.seen_slaves.specs.of_master_hand.Spoken.{Asked, acknowledged, is_followed}
use Rattle.run_promises.specs.of_master_node.Serving.{run_lead, run_turn}
use Rattle.run_promises.specs.of_master_node.Shows.{is_opening_lead}
use Rattle.run_promises.specs.of_master_tour.Goes.{holds_at}
use Rattle.run_promises.specs.of_master_tour.Stands.{is_opening}
use Rattle.seen_slaves.specs.of_master_side.Passing.{news_back, news_lost}
use Rattle.run_promises.specs.of_segment_model.Record.{News}
use Rattle.run_promises.specs.of_segment_model.Slaves.{Datagram}
use Rattle.run_promises.specs.of_segment_ring.declared.wire.Fate.{Fate}
use Rattle.run_promises.specs.of_segment_ring.declared.wire.Fate.TheVariants.{Pass, Lost}
use Rattle.run_promises.specs.of_life_runs.Served.{Serves, ServedTurn, IsServedTurn, AllServedTurn, served_behind, served_life}

abbrev MyLife : Type 0
MyLife = Life Body Asked Reply

-- ---- one slave
module _ (x : Speech Body Asked Reply) (made : ℕ) (spot : Spot) where
  next_opening : (l m : MyLife) (pick : _) → m ≡ life_next x acknowledged is_followed is_passed made l l.stand pick → is_opening l.stand ≡ true → is_opening m.stand ≡ true
  next_opening l m pick e is = go l.stand refl
    where
      go : (s : Stand) → l.stand ≡ s → is_opening m.stand ≡ true
      go (Stand.Opens o) same = ap (λ z. is_opening z.stand) (e ∙ ap (λ z. life_next x acknowledged is_followed is_passed made l z pick) same) ∙ is
      go Stand.Open same = absurd (let no : is_opening Stand.Open ≡ true = ap is_opening (sym same) ∙ is in cc)
      go Stand.Gone same = absurd (let no : is_opening Stand.Gone ≡ true = ap is_opening (sym same) ∙ is in cc)

  back_opening : (news : List (News Body)) (back : List (Datagram Body)) (under : Bool) (at : ℕ) (l : MyLife) (s : Stand) → under ≡ false → l.stand ≡ s → is_opening l.stand ≡ true →
      is_opening (life_back x acknowledged is_followed is_passed made spot news back (came_at under at back) l s).stand ≡ true
  back_opening news back true at l s out same is = absurd (cc)
  back_opening news back false at l (Stand.Opens o) out same is = is
  back_opening news back false at l Stand.Open out same is = absurd (let no : is_opening Stand.Open ≡ true = ap is_opening (sym same) ∙ is in cc)
  back_opening news back false at l Stand.Gone out same is = absurd (let no : is_opening Stand.Gone ≡ true = ap is_opening (sym same) ∙ is in cc)

  lost_opening : (news : List (News Body)) (sent : List (Datagram Body)) (gives : Bool) (recover : ℕ) (l : MyLife) (s : Stand) → gives ≡ false → l.stand ≡ s → is_opening l.stand ≡ true →
      is_opening (given_where gives recover spot made (life_lost x acknowledged is_followed is_passed spot news sent l s)).stand ≡ true
  lost_opening news sent true recover l s out same is = absurd (cc)
  lost_opening news sent false recover l (Stand.Opens o) out same is = is
  lost_opening news sent false recover l Stand.Open out same is = absurd (let no : is_opening Stand.Open ≡ true = ap is_opening (sym same) ∙ is in cc)
  lost_opening news sent false recover l Stand.Gone out same is = absurd (let no : is_opening Stand.Gone ≡ true = ap is_opening (sym same) ∙ is in cc)

module _ (lens : ℕ → Lens) (recover retry made : ℕ) (f : Exchanged) (gives : Bool) where
  turn_opening : (ds : List Raw.Datagram) (w : Serves) (v : ServedTurn) → IsServedTurn lens made ds w v → is_opening_lead w.lead ≡ true → is_opening v.turn.lived.life.stand ≡ true
  turn_opening ds w v t is = next_opening (speech_at lens w.lead.lived.spot) made w.lead.lived.spot w.lead.lived.life v.turn.lived.life t.next.pick t.next.life is

  no_give : (g b : Bool) → b ≡ false → (g && b) ≡ false
  no_give true b e = e
  no_give false b e = refl

  -- a frame that has no datagram for it
  out_opening : (ds : List Raw.Datagram) (w : Serves) (v : ServedTurn) → IsServedTurn lens made ds w v → is_opening_lead w.lead ≡ true → v.turn.share.under ≡ false → is_opening_lead (served_behind lens recover retry gives made f v).lead ≡ true
  out_opening ds w v t is out = by f.fate
    where
      by : (z : Fate) → is_opening (served_life lens recover retry gives made f z v).life.stand ≡ true
      by Pass =
          let u = v.turn in
          back_opening (speech_at lens u.lived.spot) made u.lived.spot (news_back u.lived.spot.station v.kept v.counts (seen lens f.back)) (seen lens f.back) u.share.under u.share.at u.lived.life u.lived.life.stand out refl (turn_opening ds w v t is)
      by (Lost after) =
          let u = v.turn in
          lost_opening (speech_at lens u.lived.spot) made u.lived.spot (news_lost u.lived.spot.station v.kept (seen lens f.sent)) (seen lens f.sent) (gives && u.share.under) recover u.lived.life u.lived.life.stand (no_give gives u.share.under out) refl
          (turn_opening ds w v t is)

  -- a lost one by which nobody is given up
  kept_opening : (after : ℕ) (ds : List Raw.Datagram) (w : Serves) (v : ServedTurn) → IsServedTurn lens made ds w v → is_opening_lead w.lead ≡ true → f.fate ≡ Lost after → gives ≡ false → is_opening_lead (served_behind lens recover retry gives made f v).lead ≡ true
  kept_opening after ds w v t is fate none =
      let u = v.turn in
      subst (λ z. is_opening (served_life lens recover retry gives made f z v).life.stand ≡ true) (sym fate)
      (lost_opening (speech_at lens u.lived.spot) made u.lived.spot (news_lost u.lived.spot.station v.kept (seen lens f.sent)) (seen lens f.sent) (gives && u.share.under) recover u.lived.life u.lived.life.stand (ap (λ g. g && u.share.under) none) refl
      (turn_opening ds w v t is))

  -- ---- all of them
  pub out_stays : (ds : List Raw.Datagram) (ws : List Serves) (vs : List ServedTurn) → AllServedTurn lens made ds ws vs → (k : ℕ) → holds_at is_opening_lead (map run_lead ws) k ≡ true → holds_at (λ u. u.share.under) (map run_turn vs) k ≡ false →
      holds_at is_opening_lead (map run_lead (map (served_behind lens recover retry gives made f) vs)) k ≡ true
  out_stays ds [] vs t k is out = absurd (cc)
  out_stays ds (w ∷ ws) [] t k is out = absurd t
  out_stays ds (w ∷ ws) (v ∷ vs) t zero is out = out_opening ds w v t.0 is out
  out_stays ds (w ∷ ws) (v ∷ vs) t (suc k) is out = out_stays ds ws vs t.1 k is out

  pub kept_stays : (after : ℕ) (ds : List Raw.Datagram) (ws : List Serves) (vs : List ServedTurn) → AllServedTurn lens made ds ws vs → f.fate ≡ Lost after → gives ≡ false → (k : ℕ) → holds_at is_opening_lead (map run_lead ws) k ≡ true →
      holds_at is_opening_lead (map run_lead (map (served_behind lens recover retry gives made f) vs)) k ≡ true
  kept_stays after ds [] vs t fate none k is = absurd (cc)
  kept_stays after ds (w ∷ ws) [] t fate none k is = absurd t
  kept_stays after ds (w ∷ ws) (v ∷ vs) t fate none zero is = kept_opening after ds w v t.0 is fate none
  kept_stays after ds (w ∷ ws) (v ∷ vs) t fate none (suc k) is = kept_stays after ds ws vs t.1 fate none k is
