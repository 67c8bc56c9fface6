-- What was heard of the newest service of each slave of a serving is its answer, frame by frame.
use Rattle.std.proofs.Common.{◌≡◌, ℕ, Bool, true, false, None, List, [], sym, subst}
use Rattle.std.specs.Prelude.{◌&&◌, All}
use Rattle.idle_slaves.specs.of_frame_view.Seen.{seen}
use Rattle.idle_slaves.specs.of_frame_view.View.{Lens}
use Rattle.served_rings.proofs.of_served_places.Each.{each}
use Rattle.idle_slaves.specs.of_frame_view.Shares.{came_at, given_where}
use Rattle.idle_slaves.specs.of_life_model.Lives.{Life, Spot, life_lost, life_next}
use Rattle.idle_slaves.specs.of_life_runs.Led.{Exchanged, Leads, speech_at, is_passed}
use Rattle.idle_slaves.specs.of_datagrams.Datagram as Raw
use Rattle.idle_slaves.specs.of_link_mails.Body.{Body}
use Rattle.served_rings.specs.of_master_duty.Reply.{Reply}
use Rattle.served_rings.specs.of_master_hand.Spoken.{Asked, acknowledged, is_followed}
use Rattle.served_rings.specs.of_master_side.Passing.{news_back, news_lost}
use Rattle.idle_slaves.specs.of_segment_ring.declared.wire.Fate.{Fate}
use Rattle.idle_slaves.specs.of_segment_ring.declared.wire.Fate.TheVariants.{Pass, Lost}
use Rattle.idle_slaves.specs.of_life_runs.Served.{Serves, ServedTurn, IsServedTurn, IsServedLed, all_serve, new_serves, served_life}
use Rattle.seen_slaves.specs.Rows.{IsNew, SaidSo}
use Rattle.seen_slaves.proofs.Rows.{each_first}
use Rattle.idle_slaves.specs.of_slave_model.Moments.{NowAnswered}
use Rattle.seen_slaves.proofs.Said as Said

module _ (lens : ℕ → Lens) (silent : (spot : Spot) (q : Asked) → (speech_at lens spot).ends q [] ≡ None) where
  first_said : (pace : ℕ) (a : Leads) → IsNew a → SaidSo lens (new_serves pace a)
  first_said pace a n = subst (λ (l : Life Body Asked Reply). NowAnswered (speech_at lens a.lived.spot) l.era.side) (sym n.life) (Said.none_says (speech_at lens a.lived.spot))

  turn_said : (made : ℕ) (ds : List Raw.Datagram) (w : Serves) (v : ServedTurn) → IsServedTurn lens made ds w v → SaidSo lens w → NowAnswered (speech_at lens v.turn.lived.spot) v.turn.lived.life.era.side
  turn_said made ds w v t k =
      let x = speech_at lens w.lead.lived.spot in
      let l = w.lead.lived.life in
      let next : NowAnswered x (life_next x acknowledged is_followed is_passed made l l.stand t.next.pick).era.side = Said.next x acknowledged is_followed is_passed (silent w.lead.lived.spot) made l l.stand t.next.pick k in
      subst (λ (s : Spot). NowAnswered (speech_at lens s) v.turn.lived.life.era.side) (sym t.next.spot) (subst (λ (z : Life Body Asked Reply). NowAnswered x z.era.side) (sym t.next.life) next)

  module _ (recover retry : ℕ) (gives : Bool) (made : ℕ) (f : Exchanged) (v : ServedTurn) (k : NowAnswered (speech_at lens v.turn.lived.spot) v.turn.lived.life.era.side) where
    abbrev lost_life : Life Body Asked Reply
    lost_life = life_lost (speech_at lens v.turn.lived.spot) acknowledged is_followed is_passed v.turn.lived.spot (news_lost v.turn.lived.spot.station v.kept (seen lens f.sent)) (seen lens f.sent) v.turn.lived.life v.turn.lived.life.stand

    lost : NowAnswered (speech_at lens v.turn.lived.spot) lost_life.era.side
    lost = Said.lost (speech_at lens v.turn.lived.spot) acknowledged is_followed is_passed v.turn.lived.spot (news_lost v.turn.lived.spot.station v.kept (seen lens f.sent)) (seen lens f.sent) v.turn.lived.life v.turn.lived.life.stand k

    -- a give-up leaves the epoch
    up : (b : Bool) → NowAnswered (speech_at lens v.turn.lived.spot) (given_where b recover v.turn.lived.spot made lost_life).era.side
    up true = lost
    up false = lost

    behind : (fate : Fate) → NowAnswered (speech_at lens (served_life lens recover retry gives made f fate v).spot) (served_life lens recover retry gives made f fate v).life.era.side
    behind Pass =
        Said.back (speech_at lens v.turn.lived.spot) acknowledged is_followed is_passed made v.turn.lived.spot (news_back v.turn.lived.spot.station v.kept v.counts (seen lens f.back)) (seen lens f.back) (came_at v.turn.share.under v.turn.share.at (seen lens f.back))
        v.turn.lived.life v.turn.lived.life.stand k
    behind (Lost after) = up (gives && v.turn.share.under)

  pub serves_said : (recover retry : ℕ) (paces : List ℕ) (first : List Leads) (fs : List Exchanged) (missed : ℕ) (ws : List Serves) → All IsNew first → IsServedLed lens recover retry (all_serve paces first) fs missed ws → All (SaidSo lens) ws
  serves_said recover retry paces first fs missed ws new led =
      each lens recover retry (SaidSo lens) (λ w k h. h) (λ gives made ds f w v t h. behind recover retry gives made f v (turn_said made ds w v t h) f.fate) (all_serve paces first) (each_first (SaidSo lens) first_said paces first new) fs missed ws led
