-- A SLAVE OF WHICH A FRAME HAD NOTHING has in hand behind it what it had; and so what each post has in hand behind a frame that came back is what its slave's life has.
use Rattle.std.proofs.Common.{◌≡◌, ℕ, Bool, true, false, Option, Some, None, List, [], refl, sym, ap, ◌∙◌, subst, append-nil}
use Rattle.std.specs.Prelude.{◌&&◌, nat_le, option_map, if◌then◌else◌}
use Rattle.life_runs.specs.Led.{speech_at}
use Rattle.life_runs.specs.of_frame_view.Seen.{seen}
use Rattle.life_runs.specs.of_frame_view.View.{Lens}
use Rattle.life_runs.specs.of_frame_view.Shares.{came_at}
use Rattle.life_runs.specs.of_master_duty.Reply.{Reply}
use Rattle.life_runs.specs.of_exchange_model.Exchange.{Speech, plain}
use Rattle.life_runs.specs.of_exchange_model.Rows.{Row, answer_after, row_heard}
use Rattle.life_runs.specs.of_segment_model.Record.{News}
use Rattle.life_runs.specs.of_segment_model.Returned.{Returns}
use Rattle.life_runs.specs.of_segment_model.Seats.{side_back}
use Rattle.life_runs.specs.of_segment_model.Slaves.{Datagram, Found}
use Rattle.life_runs.specs.of_state_model.Accounts.{Duty, account_back}
use Rattle.life_runs.specs.of_master_hand.Shown.{knows}
use Rattle.life_runs.specs.of_master_hand.Spoken.{Asked, acknowledged, is_followed, is_passed}
use Rattle.life_runs.specs.of_master_hand.contracts.hand.InHandHand.TheImpl as Impl
use Rattle.life_runs.specs.of_master_hand.declared.hand.InHand.{InHand}
use Rattle.life_runs.specs.of_master_side.Passing.{news_back}
use Rattle.life_runs.specs.of_link_mails.Body.{Body}
use Rattle.life_runs.specs.of_life_model.Lives
use Rattle.life_runs.specs.of_life_model.Lives.{Era, Life, Spot, era_back, life_back, passes}
use Rattle.life_runs.specs.of_life_model.Own
use Rattle.life_runs.specs.of_master_tour.Stands.{StandShows}
use Rattle.life_runs.specs.of_master_tour.declared.stop.Stand.{Stand}
use Rattle.life_runs.specs.of_master_tour.declared.stop.Stop.{Stop}
use Rattle.life_runs.proofs.of_master_tour.Backs.{seen_aims}
use Rattle.life_runs.specs.Served.{ServedTurn}
use Rattle.master_node.specs.Besides.{back_does}
use Rattle.master_node.specs.Inhand.{HasInHand, OpenHas}
use Rattle.master_node.specs.Serving.{IsServedUnder}
use Rattle.master_node.specs.Shows.{side_shows}
use Rattle.master_node.specs.declared.post.Post.{Post}
use Rattle.master_node.specs.declared.post.Work.{Work}
use Rattle.master_node.proofs.Backtolds.{PassesSo, StoodSo, TourSays, one_back}
use Rattle.master_node.proofs.Recalled.{own_mine}
use Rattle.master_node.proofs.Reopeneds.{OpenAfter, Reopened, open_after}
use Rattle.master_node.proofs.Rowtells.{IsQuiet, quiet_shown}
use Rattle.master_node.proofs.Serveds.{InHandBehind, life_behind, open_stand, unread_behind}

-- A ROW that is quiet stays without a mail
answer_same : (frame : ℕ) (o : Option (Reply × ℕ)) (found : Option Reply) → (o ≡ None → found ≡ None) → answer_after frame o found ≡ o
answer_same frame None found h = ap (λ z. answer_after frame None z) (h refl)
answer_same frame (Some a) found h = refl

and_true : (b : Bool) → (b && true) ≡ b
and_true true = refl
and_true false = refl

module _ (x : Speech Body Asked Reply) (made : ℕ) where
  row_same : (r : Row Body Asked Reply) → (r.answer ≡ None → x.ends r.service (plain x.emission r.heard) ≡ None) → row_heard x made [] r ≡ r
  row_same r q =
      let answer = ap (λ z. answer_after made r.answer (x.ends r.service (plain x.emission z))) (append-nil r.heard) ∙ answer_same made r.answer (x.ends r.service (plain x.emission r.heard)) q in
      λ i. record r { heard = append-nil r.heard i; answer = answer i }

  now_same : (now : Option (Row Body Asked Reply)) → IsQuiet x now → option_map (λ r. row_heard x made [] r) now ≡ now
  now_same None q = refl
  now_same (Some r) q = ap (λ z. Some z) (row_same r (q r refl))

  -- so does its epoch
  module _ (spot : Spot) (ns : List (News Body)) (back : List (Datagram Body)) where
    era_same : (e : Era Body Asked Reply) → IsQuiet x e.side.now → Own.own spot.station back ≡ [] → passes x acknowledged is_followed is_passed e.passing ns ≡ e.passing → era_back x acknowledged is_followed is_passed spot.station made ns back e ≡ e
    era_same e q n p =
        let none : Era Body Asked Reply = record { cleared = e.cleared; opened = e.opened; state = e.state; side = side_back x made spot.station [] e.side; account = e.account; passing = e.passing } in
        let first : era_back x acknowledged is_followed is_passed spot.station made ns back e ≡ none =
        λ i. record { cleared = e.cleared; opened = e.opened; state = e.state; side = side_back x made spot.station (n i) e.side; account = account_back spot.station made e.account (n i); passing = p i } in
        let second : none ≡ e = λ i. record e { side = record e.side { fresh = and_true e.side.fresh i; now = now_same e.side.now q i } } in
        first ∙ second

    -- AND WHAT IS IN HAND of it
    module _ (known known' : Bool) (l : Life Body Asked Reply) (old : Work) where
      abbrev behind : Option (Bool × Option Found) → Lives.Stand → Life Body Asked Reply
      behind came stand = life_back x acknowledged is_followed is_passed made spot ns back came l stand

      pub record Unread : Type 0 where
        pub quiet : IsQuiet x l.era.side.now
        pub none : Own.own spot.station back ≡ []
        pub passing : passes x acknowledged is_followed is_passed l.era.passing ns ≡ l.era.passing
        pub same : known' ≡ known

      open_unread : (m : Life Body Asked Reply) → Unread → OpenAfter l (era_back x acknowledged is_followed is_passed spot.station made ns back l.era) m → OpenHas x known l.era.side l.era.account.hand l.era.passing old → HasInHand x known' m m.stand old
      open_unread m u a h = go m.stand refl a.stand
        where
          same : era_back x acknowledged is_followed is_passed spot.station made ns back l.era ≡ l.era
          same = era_same l.era u.quiet u.none u.passing

          state_of : (duty : Duty) (hand : Option Duty) → hand ≡ Some duty → OpenHas x known l.era.side hand l.era.passing old → old ≡ Work.State
          state_of duty None e k = absurd (let bad : None ≡ Some duty = e in cc)
          state_of duty (Some d) e k = k.2

          go : (stand : Lives.Stand) → m.stand ≡ stand → Reopened (era_back x acknowledged is_followed is_passed spot.station made ns back l.era).account.hand stand → HasInHand x known' m m.stand old
          go _ s Reopened.stays =
              subst (λ z. HasInHand x known' m z old) (sym s)
              (subst (λ (z : Era Body Asked Reply). OpenHas x known' z.side z.account.hand z.passing old) (sym (a.era ∙ same)) (subst (λ z. OpenHas x z l.era.side l.era.account.hand l.era.passing old) (sym u.same) h))
          go _ s (Reopened.leaves duty state hand) =
              subst (λ z. HasInHand x known' m z old) (sym s)
              (state_of duty l.era.account.hand (sym (ap (λ (z : Era Body Asked Reply). z.account.hand) same) ∙ hand) h, λ f. absurd (let bad : true ≡ false = f in cc))

      pub unread_inhand : (came : Option (Bool × Option Found)) → came ≡ None → HasInHand x known l l.stand old → (l.stand ≡ Lives.Stand.Open → Unread) → HasInHand x known' (behind came l.stand) (behind came l.stand).stand old
      unread_inhand came n h u = subst (λ z. HasInHand x known' (behind z l.stand) (behind z l.stand).stand old) (sym n) (go l.stand refl h)
        where
          go : (stand : Lives.Stand) → l.stand ≡ stand → HasInHand x known l stand old → HasInHand x known' (behind None stand) (behind None stand).stand old
          go (Lives.Stand.Opens o) s h = subst (λ z. HasInHand x known' l z old) (sym s) h
          go Lives.Stand.Open s h = open_unread (behind None Lives.Stand.Open) (u s) (open_after x made spot ns back l None s) h
          go Lives.Stand.Gone s h = subst (λ z. HasInHand x known' l z old) (sym s) h

-- BEHIND A FRAME THAT CAME BACK each post has in hand what its slave's life has
module _ (lens : ℕ → Lens) (recover made : ℕ) (octets back : List ℕ) where
  abbrev grams : List (Datagram Body)
  grams = seen lens back

  abbrev HasHere : ServedTurn → Stop InHand Impl.ghosts → Stop InHand Impl.ghosts → Work → Type 0
  HasHere v s t work = HasInHand (speech_at lens v.turn.lived.spot) (knows t.side.hand.course) (life_behind lens made grams v s) (life_behind lens made grams v s).stand work

  still_inhand : (v : ServedTurn) (p : Post) (s t : Stop InHand Impl.ghosts) → IsServedUnder lens recover octets made v p s → Returns (seen lens octets) grams → s.under ≡ false → TourSays lens made grams v s t → HasHere v s t p.work
  still_inhand v p s t i r still says =
      let l = v.turn.lived.life in
      let spot = v.turn.lived.spot in
      let h = i.served in
      let shown = h.lives.shown.stood in
      let open_s : l.stand ≡ Lives.Stand.Open → s.stand ≡ Stand.Open = open_stand (λ d a. side_shows lens recover s spot d a) spot s.stand l shown in
      unread_inhand (speech_at lens spot) made spot (news_back spot.station v.kept v.counts grams) grams (knows s.side.hand.course) (knows t.side.hand.course) l p.work (came_at s.under s.at grams) (ap (λ z. came_at z s.at grams) still) h.inhand
      (λ o.
      let n = unread_behind lens recover made octets back v p s i r still o in
      record {
        quiet = quiet_shown s.side.hand (speech_at lens spot) l.era.side.now ((subst (λ z. StandShows (λ d a. side_shows lens recover s spot d a) spot z l) (open_s o) shown).1).row;
        none = own_mine spot.station grams (seen_aims lens back spot.station (subst (λ z. nat_le 1 z ≡ true) h.lives.planned.stands.station_is s.named)) ∙ n.0;
        passing = n.1;
        same = (says.recalls.unvisited (open_s o) still).3;
      })

  pub behind_inhand : (place : ℕ) (v : ServedTurn) (p q : Post) (s t : Stop InHand Impl.ghosts) (unread : Bool) → IsServedUnder lens recover octets made v p s → Returns (seen lens octets) grams → (unread ≡ true → s.under ≡ false) → q.work ≡ (if unread then p.work else (back_does place t p.work).work) →
      StoodSo lens made grams recover v.turn.lived.spot t (life_behind lens made grams v s) → PassesSo lens made grams recover t (life_behind lens made grams v s) → TourSays lens made grams v s t → InHandBehind lens made grams v q s t
  behind_inhand place v p q s t unread i r none work stood passing says = go unread none work
    where
      go : (unread : Bool) → (unread ≡ true → s.under ≡ false) → q.work ≡ (if unread then p.work else (back_does place t p.work).work) → InHandBehind lens made grams v q s t
      go true n w = subst (λ z. HasHere v s t z) (sym w) (still_inhand v p s t i r (n refl) says)
      go false n w = subst (λ z. HasHere v s t z) (sym w) (one_back lens made grams recover octets place v p s t i stood passing says).has
