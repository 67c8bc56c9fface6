-- A SLAVE OF WHICH A FRAME THAT CAME BACK HAD NO DATAGRAM: no mail of it was accepted, and the mail in hand that is passed on is where it was.
use Rattle.std.proofs.Common.{◌≡◌, ◌≤◌, ℕ, Bool, true, false, Option, Some, None, List, [], ◌∷◌, ◌++◌, length, map, refl, sym, ap, ◌∙◌, subst, arith}
use Rattle.std.specs.Prelude.{if◌then◌else◌}
use Rattle.std.proofs.lemmas.Bool.{le-leb}
use Rattle.run_frames.proofs.of_frame_view.Frames.{own_none}
use Rattle.run_frames.proofs.of_frame_view.Octets.{seen_chained, seen_is}
use Rattle.run_frames.specs.of_frame_view.Frames.{FrameFor}
use Rattle.few_replies.specs.of_exchange_model.Exchange.{Speech}
use Rattle.few_replies.specs.of_life_model.Lives.{Era, Life, Spot, Stand, era_back, life_back, passes}
use Rattle.few_replies.specs.of_life_model.Own.{own}
use Rattle.few_replies.specs.of_link_model.Frames.{all_accepted}
use Rattle.few_replies.specs.of_segment_model.Ends.{Passing}
use Rattle.few_replies.specs.of_segment_model.Record.{Kept, News, all_told, frame_news, is_for, last_told, mail_told, without_empty}
use Rattle.few_replies.specs.of_link_model.Segment.{RingFate}
use Rattle.few_replies.specs.of_segment_model.Returned.{Returns}
use Rattle.few_replies.specs.of_segment_model.Slaves.{Datagram, grams}
use Rattle.run_frames.specs.of_datagrams.Datagram as Raw
use Rattle.run_frames.specs.of_datagrams.Frame.{IsFrame, chained}
use Rattle.run_frames.specs.of_frame_view.Seen.{datagrams_seen, seen}
use Rattle.run_frames.specs.of_frame_view.View.{Lens}
use Rattle.run_frames.specs.of_frame_view.Shares.{came_at}
use Rattle.few_replies.specs.of_link_mails.Body.{Body}
use Rattle.run_frames.specs.of_master_duty.Reply.{Reply}
use Rattle.run_frames.specs.of_master_hand.Spoken.{Asked, acknowledged, is_followed, is_passed}
use Rattle.run_frames.specs.of_master_side.Passing.{news_back}
use Rattle.run_frames.specs.of_segment_ring.declared.wire.Fate.TheVariants.{Pass}
use Rattle.run_frames.specs.of_life_runs.Led.{Exchanged, speech_at}
use Rattle.run_frames.proofs.of_master_tour.Backs.{seen_aims}
use Rattle.run_frames.proofs.of_master_tour.Unders.{SameAim}
use Rattle.run_frames.specs.of_master_tour.Brings.{accepted_at}
use Rattle.run_frames.specs.of_life_runs.Served.{Serves, ServedTurn, IsServedTurn, accepted_by, served_life}
use Rattle.served_places.proofs.All.{same_many}
use Rattle.served_places.proofs.Behind.{reopens_keeps}
use Rattle.served_places.proofs.News.{none_news}

-- no news of it
module _ (station : ℕ) where
  none_told : (last : ℕ) (ds : List (Datagram Body)) → SameAim station ds → own station ds ≡ [] → all_told station last (grams ds) ≡ []
  none_told last [] a e = refl
  none_told last (d ∷ ds) a e = go (is_for station d.address) refl e (λ k. none_told last ds a.1 k)
    where
      go : (z : Bool) → is_for station d.address ≡ z → (if z then d ∷ own station ds else own station ds) ≡ [] → (own station ds ≡ [] → all_told station last (grams ds) ≡ []) → all_told station last (grams (d ∷ ds)) ≡ []
      go true f k on = absurd (let bad : d ∷ own station ds ≡ [] = k in cc)
      go false f k on =
          (λ i. (if (sym a.0 ∙ f) i then mail_told last d.gram.ask else []) ++ all_told station (if (sym a.0 ∙ f) i then last_told last d.gram.ask else last) (grams ds))
          ∙ on k

  none_back : (kept : Kept) (counts : Bool) (ds : List (Datagram Body)) → SameAim station ds → own station ds ≡ [] → news_back station kept counts ds ≡ []
  none_back kept counts ds a e =
      go counts (frame_news station kept (record { sent = ds; fate = RingFate.Back; back = ds })) (λ i. map (λ m. News.Told m) (none_told kept.told ds a e i) ++ none_news station kept.heard ds a e i)
    where
      go : (b : Bool) (ns : List (News Body)) → ns ≡ [] → (if b then ns else without_empty ns) ≡ []
      go true ns f = f
      go false ns f = ap without_empty f

none_of : {T : Type 0} (xs : List T) → length xs ≡ 0 → xs ≡ []
none_of [] e = refl
none_of (x ∷ xs) e = absurd (omega (arith, e))

module _ (lens : ℕ → Lens) (recover retry : ℕ) (gives : Bool) (made : ℕ) (ds : List Raw.Datagram) (f : Exchanged) (w : Serves) (v : ServedTurn) (is : IsFrame f.sent (chained ds)) (t : IsServedTurn lens made ds w v)
    (returns : Returns (seen lens f.sent) (seen lens f.back)) (some : 1 ≤ w.lead.lived.spot.station) (still : v.turn.share.under ≡ false) where
  abbrev station : ℕ
  station = v.turn.lived.spot.station

  abbrev life : Life Body Asked Reply
  life = v.turn.lived.life

  abbrev x : Speech Body Asked Reply
  x = speech_at lens v.turn.lived.spot

  -- it has no datagram of it
  none_sent : own station (datagrams_seen lens ds) ≡ []
  none_sent = go t.asked.has
    where
      go : FrameFor lens v.turn.lived.spot life.stand v.turn.share ds → own station (datagrams_seen lens ds) ≡ []
      go (FrameFor.none u n) = own_none lens v.turn.lived.spot ds n
      go (FrameFor.one u d h g) = absurd (let bad : true ≡ false = sym u ∙ still in cc)

  none_own : own station (seen lens f.back) ≡ []
  none_own = none_of (own station (seen lens f.back))
      (same_many station (seen lens f.sent) (seen lens f.back) returns ∙ ap (λ (z : List (Datagram Body)). length (own station z)) (seen_is lens f.sent (chained ds) is ∙ seen_chained lens ds) ∙ ap length none_sent)

  abbrev news : List (News Body)
  news = news_back station v.kept v.counts (seen lens f.back)

  no_news : news ≡ []
  no_news = none_back station v.kept v.counts (seen lens f.back) (seen_aims lens f.back station (le-leb 1 station (subst (λ (s : Spot). 1 ≤ s.station) (sym t.next.spot) some))) none_own

  pub unread_accepted : accepted_by lens recover retry f Pass v ≡ []
  unread_accepted = go life.stand
    where
      go : (stand : Stand) → accepted_at station life.era.side.halves (seen lens f.back) stand ≡ []
      go (Stand.Opens o) = refl
      go Stand.Open = ap (λ (z : List (Datagram Body)). all_accepted station life.era.side.halves (grams z)) none_own
      go Stand.Gone = refl

  nothing : (o : Option Passing) (ns : List (News Body)) → ns ≡ [] → passes x acknowledged is_followed is_passed o ns ≡ o
  nothing None ns e = refl
  nothing (Some p) ns e = ap (passes x acknowledged is_followed is_passed (Some p)) e

  pub unread_passing : (served_life lens recover retry gives made f Pass v).life.era.passing ≡ life.era.passing
  unread_passing = go life.stand v.turn.share.under still
    where
      era : Era Body Asked Reply
      era = era_back x acknowledged is_followed is_passed station made news (seen lens f.back) life.era

      go : (stand : Stand) (under : Bool) → under ≡ false → (life_back x acknowledged is_followed is_passed made v.turn.lived.spot news (seen lens f.back) (came_at under v.turn.share.at (seen lens f.back)) life stand).era.passing ≡ life.era.passing
      go (Stand.Opens o) true u = absurd (cc)
      go (Stand.Opens o) false u = refl
      go Stand.Open under u = reopens_keeps (λ l. l.era.passing) (λ l s. refl) (record life { era = era }) era.account.hand ∙ nothing life.era.passing news no_news
      go Stand.Gone under u = refl
