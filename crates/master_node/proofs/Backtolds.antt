-- WHAT A FRAME THAT CAME BACK TELLS of the slaves that it carried is just what their lives tell.
use Rattle.std.proofs.Common.{◌≡◌, ℕ, zero, suc, Bool, true, List, [], ◌∷◌, refl, sym, ap, ◌∙◌, subst}
use Rattle.std.specs.Prelude.{map}
use Rattle.life_runs.specs.Led.{Exchanged, speech_at}
use Rattle.life_runs.specs.of_frame_view.Seen.{seen}
use Rattle.life_runs.specs.of_frame_view.View.{Lens}
use Rattle.life_runs.specs.of_exchange_model.Areas.{Areas}
use Rattle.life_runs.specs.of_frame_view.Shares.{AllThree, Lived, came_at}
use Rattle.life_runs.specs.of_segment_ring.declared.wire.Fate.TheVariants.{Pass}
use Rattle.life_runs.specs.of_master_duty.Reply.{Reply}
use Rattle.life_runs.specs.of_segment_model.Slaves.{Datagram}
use Rattle.life_runs.specs.of_master_hand.Brings.{Brings}
use Rattle.life_runs.specs.of_master_hand.Replied.{Replies}
use Rattle.life_runs.specs.of_master_hand.Shown.{awaits_reply, knows}
use Rattle.life_runs.specs.of_master_hand.Spoken.{Asked, acknowledged, is_followed, is_passed}
use Rattle.life_runs.specs.of_master_hand.contracts.hand.InHandHand.TheImpl as Impl
use Rattle.life_runs.specs.of_master_hand.declared.hand.InHand.{InHand}
use Rattle.life_runs.specs.of_master_side.Heard.{Brought}
use Rattle.life_runs.specs.of_master_side.Passing.{news_back}
use Rattle.life_runs.specs.of_link_mails.Body.{Body}
use Rattle.life_runs.specs.of_master_tour.Behind.{StopBack}
use Rattle.life_runs.specs.of_master_tour.Brings.{accepted_in}
use Rattle.life_runs.specs.of_master_tour.Passing.{StandPassing}
use Rattle.life_runs.specs.of_master_tour.Stands.{StandShows, turned}
use Rattle.life_runs.specs.of_master_tour.Walks.{EachPair}
use Rattle.life_runs.specs.of_master_tour.declared.stop.Stand.{Stand}
use Rattle.life_runs.specs.of_master_tour.declared.stop.Stop.{Stop}
use Rattle.life_runs.specs.of_life_model.Lives
use Rattle.life_runs.specs.of_life_model.Lives.{Life, Spot, life_back}
use Rattle.life_runs.specs.Served.{Serves, ServedTurn, served_behind}
use Rattle.master_node.specs.Backtold.{known_at, returned_told}
use Rattle.master_node.specs.Besides.{back_does, by_stop, stays}
use Rattle.master_node.specs.Eager.{recall_of}
use Rattle.master_node.specs.Handed.{work_at}
use Rattle.master_node.specs.Lifetold.{told_at}
use Rattle.master_node.specs.Serving.{IsServed, IsServedUnder}
use Rattle.master_node.specs.Shows.{side_shows}
use Rattle.master_node.specs.declared.event.Event.{Event}
use Rattle.master_node.specs.declared.post.Post.{Post}
use Rattle.master_node.proofs.Backinhand.{Served, ShowsBehind, back_inhand}
use Rattle.master_node.proofs.Rowtells.{quiet_shown}
use Rattle.master_node.proofs.ServedSents.{waits_alike}
use Rattle.master_node.proofs.Serveds.{life_behind, open_stand}

-- the lengths of a slave's mailboxes
abbrev areas_at : (ℕ → Lens) → Spot → Areas
areas_at lens spot = record { out = (lens spot.station).out; back = (lens spot.station).back }

module _ (lens : ℕ → Lens) (made : ℕ) (back : List (Datagram Body)) where
  -- WHAT THE TOUR SAYS of a slave behind the frame, by its life before it
  pub record TourSays (v : ServedTurn) (s t : Stop InHand Impl.ghosts) : Type 0 where
    pub told : t.news ≡ turned v.turn.lived.life (life_behind lens made back v s)
    pub brings : Brought (Brings t.side.hand.found) t.side.heard (accepted_in v.turn.lived.spot v.turn.lived.life back)
    pub replied : Brought (Replies t.side.hand.found (awaits_reply s.side.hand.course s.side.hand.which s.side.hand.clients)) t.side.heard (accepted_in v.turn.lived.spot v.turn.lived.life back)
    pub recalls : StopBack (speech_at lens v.turn.lived.spot) v.turn.lived.spot v.turn.lived.life back (knows s.side.hand.course) (knows t.side.hand.course) s t

  module _ (recover : ℕ) where
    -- what its stop shows of a life
    abbrev pub StoodSo : Spot → Stop InHand Impl.ghosts → Life Body Asked Reply → Type 0
    StoodSo spot t m = StandShows (λ d a. side_shows lens recover t spot d a) spot t.stand m

    abbrev pub PassesSo : Stop InHand Impl.ghosts → Life Body Asked Reply → Type 0
    PassesSo t m = StandPassing t.stand (awaits_reply t.side.hand.course t.side.hand.which t.side.hand.clients) t.side.passing m

    shows_behind : (spot : Spot) (t : Stop InHand Impl.ghosts) (m : Life Body Asked Reply) → StoodSo spot t m → PassesSo t m → ShowsBehind (speech_at lens spot) (knows t.side.hand.course) t m
    shows_behind spot t m stood passing =
        let shows : t.stand ≡ Stand.Open → StandShows (λ d a. side_shows lens recover t spot d a) spot Stand.Open m = λ o. subst (λ z. StandShows (λ d a. side_shows lens recover t spot d a) spot z m) o stood in
        record {
          stands = λ o. (shows o).0;
          opens = λ e. open_stand (λ d a. side_shows lens recover t spot d a) spot t.stand m stood e;
          side = λ o. (shows o).1;
          passing = λ o. sym (waits_alike t.stand _ t.side.passing m passing o);
          knows_is = refl;
        }

    -- ONE SLAVE: just what its life tells is told of it, and its post has in hand what the life behind the frame has
    pub one_back : (octets : List ℕ) (place : ℕ) (v : ServedTurn) (p : Post) (s t : Stop InHand Impl.ghosts) → IsServedUnder lens recover octets made v p s → StoodSo v.turn.lived.spot t (life_behind lens made back v s) → PassesSo t (life_behind lens made back v s) → TourSays v s t →
        Served (areas_at lens v.turn.lived.spot) made place v.turn.lived.spot (news_back v.turn.lived.spot.station v.kept v.counts back) (knows s.side.hand.course) (knows t.side.hand.course) back v.hand (accepted_in v.turn.lived.spot v.turn.lived.life back) v.turn.lived.life p.work t
        v.turn.lived.life.stand (life_behind lens made back v s)
    one_back octets place v p s t i stood passing says =
        let l = v.turn.lived.life in
        let spot = v.turn.lived.spot in
        let ms = accepted_in spot l back in
        let awaits = awaits_reply s.side.hand.course s.side.hand.which s.side.hand.clients in
        let shown = i.served.lives.shown.stood in
        let open_s : l.stand ≡ Lives.Stand.Open → s.stand ≡ Stand.Open = open_stand (λ d a. side_shows lens recover s spot d a) spot s.stand l shown in
        let side_s = λ (o : l.stand ≡ Lives.Stand.Open). (subst (λ z. StandShows (λ d a. side_shows lens recover s spot d a) spot z l) (open_s o) shown).1 in
        back_inhand (areas_at lens spot) made place spot (news_back spot.station v.kept v.counts back) (knows s.side.hand.course) (knows t.side.hand.course) back v.hand ms l p.work t (came_at s.under s.at back) (life_behind lens made back v s) refl refl i.served.inhand i.served.handed
        (λ o. quiet_shown s.side.hand (speech_at lens spot) l.era.side.now (side_s o).row) (λ o k. says.recalls.sure (open_s o) k) says.brings
        (λ key e.
        let n = i.served.handed.named key e in
        let o = open_s n.opened in
        let awaited : awaits ≡ true = (subst (λ z. StandPassing z awaits s.side.passing l) o i.served.passing).awaited (sym (waits_alike s.stand awaits s.side.passing l i.served.passing o) ∙ n.passing) in
        subst (λ z. Brought (Replies t.side.hand.found z) t.side.heard ms) awaited says.replied)
        says.told (shows_behind spot t (life_behind lens made back v s) stood passing)

module _ (lens : ℕ → Lens) (recover retry : ℕ) (gives : Bool) (made : ℕ) (f : Exchanged) (octets back : List ℕ) (is : f.fate ≡ Pass) (b : f.back ≡ back) where
  abbrev behind : ServedTurn → Serves
  behind v = served_behind lens recover retry gives made f v

  -- the life behind the frame, as the serving has it
  lived_is : (v : ServedTurn) (p : Post) (s : Stop InHand Impl.ghosts) → IsServedUnder lens recover octets made v p s → record { spot = v.turn.lived.spot; life = life_behind lens made (seen lens back) v s } ≡ (behind v).lead.lived
  lived_is v p s i =
      let a = v.turn.lived in
      let news = news_back a.spot.station v.kept v.counts (seen lens back) in
      (λ j. record { spot = a.spot; life = life_back (speech_at lens a.spot) acknowledged is_followed is_passed made a.spot news (seen lens back) (came_at (sym i.under j) (sym i.at j) (seen lens back)) a.life a.life.stand })
      ∙ (λ j. (served_behind lens recover retry gives made (record { sent = f.sent; fate = sym is j; back = sym b j }) v).lead.lived)

  abbrev tells_of : ℕ → Bool → ServedTurn → Serves → List Event
  tells_of place known v w = returned_told (speech_at lens v.turn.lived.spot) known place v.hand (accepted_in v.turn.lived.spot v.turn.lived.life (seen lens back)) v.turn.lived.life w.lead.lived.life v.turn.lived.life.stand

  one_told : (place : ℕ) (v : ServedTurn) (p q : Post) (s t : Stop InHand Impl.ghosts) → IsServedUnder lens recover octets made v p s → IsServed lens recover (suc made) (behind v) q t → TourSays lens made (seen lens back) v s t →
      (back_does place t p.work).told ≡ tells_of place (knows t.side.hand.course) v (behind v)
  one_told place v p q s t i j says =
      let same = lived_is v p s i in
      let stood = subst (λ (a : Lived Asked Reply). StoodSo lens made (seen lens back) recover a.spot t a.life) (sym same) j.lives.shown.stood in
      let passing = subst (λ (a : Lived Asked Reply). PassesSo lens made (seen lens back) recover t a.life) (sym same) j.passing in
      (one_back lens made (seen lens back) recover octets place v p s t i stood passing says).told
      ∙ ap (λ (a : Lived Asked Reply). returned_told (speech_at lens v.turn.lived.spot) (knows t.side.hand.course) place v.hand (accepted_in v.turn.lived.spot v.turn.lived.life (seen lens back)) v.turn.lived.life a.life v.turn.lived.life.stand) same

  -- OF ALL SLAVES
  pub back_all : (place : ℕ) (K : Stop InHand Impl.ghosts → Stop InHand Impl.ghosts → Type 0) → ((v : ServedTurn) (p : Post) (s t : Stop InHand Impl.ghosts) → IsServedUnder lens recover octets made v p s → K s t → TourSays lens made (seen lens back) v s t) → (vs : List ServedTurn) (ps qs : List Post) (ss ts : List (Stop InHand Impl.ghosts)) →
      AllThree (λ v p s. IsServedUnder lens recover octets made v p s) vs ps ss → AllThree (λ w q t. IsServed lens recover (suc made) w q t) (map behind vs) qs ts → EachPair K ss ts → (k : ℕ) →
      (by_stop (stays (work_at ps k)) (λ t. back_does place t (work_at ps k)) ts k).told ≡ told_at (λ v w. tells_of place (known_at (map (λ t. recall_of t) ts) k) v w) vs (map behind vs) k
  back_all place K h [] ps qs ss [] i j e k = refl
  back_all place K h [] ps [] ss (t ∷ ts) i j e k = absurd j
  back_all place K h [] ps (q ∷ qs) ss (t ∷ ts) i j e k = absurd j
  back_all place K h (v ∷ vs) [] qs [] ts i j e k = absurd i
  back_all place K h (v ∷ vs) [] qs (s ∷ ss) ts i j e k = absurd i
  back_all place K h (v ∷ vs) (p ∷ ps) qs [] ts i j e k = absurd i
  back_all place K h (v ∷ vs) (p ∷ ps) [] (s ∷ ss) [] i j e k = absurd j
  back_all place K h (v ∷ vs) (p ∷ ps) [] (s ∷ ss) (t ∷ ts) i j e k = absurd j
  back_all place K h (v ∷ vs) (p ∷ ps) (q ∷ qs) (s ∷ ss) [] i j e k = absurd e
  back_all place K h (v ∷ vs) (p ∷ ps) (q ∷ qs) (s ∷ ss) (t ∷ ts) i j e zero = one_told place v p q s t i.0 j.0 (h v p s t i.0 e.0)
  back_all place K h (v ∷ vs) (p ∷ ps) (q ∷ qs) (s ∷ ss) (t ∷ ts) i j e (suc k) = back_all place K h vs ps qs ss ts i.1 j.1 e.1 k
