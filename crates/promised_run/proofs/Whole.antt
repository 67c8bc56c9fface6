-- BEHIND THE FRAME by which a mail is over what was told of it are all replies that were heard for it.
use Rattle.std.proofs.Common.{◌≡◌, ℕ, Bool, true, false, Option, Some, None, List, [], ◌∷◌, ◌++◌, map, length, refl, ap, sym, ◌∙◌, subst}
use Rattle.std.specs.Prelude.{◌&&◌, if◌then◌else◌, All}
use Rattle.std.proofs.lemmas.List.Elements.{All-head, All-tail}
use Rattle.run_promises.specs.of_exchange_model.Exchange.{Speech}
use Rattle.run_promises.specs.of_exchange_model.Rows.{Row}
use Rattle.seen_slaves.specs.of_frame_view.Shares.{AllBoth, came_at, given_where}
use Rattle.run_promises.specs.of_life_model.Lives.{Life, Era, Spot, Stand, era_back, era_lost, life_back, life_lost, passes}
use Rattle.run_promises.specs.of_life_runs.First.{first_leads, lens_of}
use Rattle.run_promises.specs.of_life_runs.Led.{Exchanged, gives_up_at, speech_at}
use Rattle.run_promises.specs.of_link_mails.Body.{Body}
use Rattle.run_promises.specs.of_datagrams.Datagram as Raw
use Rattle.seen_slaves.specs.of_frame_view.Seen.{seen}
use Rattle.seen_slaves.specs.of_frame_view.View.{Lens}
use Rattle.seen_slaves.specs.of_master_duty.Reply.{Reply}
use Rattle.seen_slaves.specs.of_master_hand.Spoken.{Asked, acknowledged, is_followed, is_passed}
use Rattle.seen_slaves.specs.of_master_side.Passing.{news_back, news_lost}
use Rattle.run_promises.specs.of_master_tour.Brings.{accepted_in}
use Rattle.gateway_run.specs.of_run_book.declared.book.Book.{Book}
use Rattle.gateway_run.specs.of_run_record.Led.{exchanged}
use Rattle.run_promises.specs.of_segment_model.Ends.{Passing}
use Rattle.run_promises.specs.of_segment_model.Record.{News}
use Rattle.run_promises.specs.of_segment_model.Slaves.{Datagram, Found}
use Rattle.run_promises.specs.of_segment_plan.declared.plan.Scenario.{Scenario}
use Rattle.run_promises.specs.of_segment_ring.declared.wire.Fate.{Fate}
use Rattle.run_promises.specs.of_segment_ring.declared.wire.Fate.TheVariants.{Pass, Lost}
use Rattle.seen_slaves.proofs.of_served_places.Behind.{reopens_keeps}
use Rattle.seen_slaves.proofs.of_served_places.Held.{all_has, next_has}
use Rattle.run_promises.specs.of_life_runs.Served.{Serves, ServedTurn, AllServedTurn, accepted_by, gives_it, served_behind, served_life}
use Rattle.run_promises.specs.of_life_runs.Told.{Passed, TellsOwn, replies_in, told_on}
use Rattle.gateway_run.proofs.of_life_runs.Tells.{HasPassed, back_has, lost_has}
use Rattle.promised_run.specs.Through.{IsServedWhole, TellsWhole}

-- all that was heard was told
abbrev Whole : Passed → Option Passing → Option (Row Body Asked Reply) → Type 0
Whole p passing now = (t : TellsOwn p passing now) × (t.rest ≡ [])

abbrev WholeOf : Passed → Life Body Asked Reply → Type 0
WholeOf p l = Whole p l.era.passing l.era.side.now

-- what is told of a mail that isn't over is whole, however far the mail has come
whole_of : (p : Passed) (o after : Option Passing) (now : Option (Row Body Asked Reply)) (q : Passing) → o ≡ Some q → TellsOwn p o now → Whole p after now
whole_of p o after now q e t =
    let still : TellsOwn p (Some q) now = subst (λ z. TellsOwn p z now) e t in
    let none : still.rest ≡ [] = still.all refl in
    (record { row = still.row; is = still.is; service = still.service; rest = still.rest; heard = still.heard; all = λ is. none }, none)

module _ (x : Speech Body Asked Reply) (frame : ℕ) (spot : Spot) (p : Passed) (l : Life Body Asked Reply) (h : HasPassed p l) (q : Passing) (e : l.era.passing ≡ Some q) where
  -- no news leave how far it has come
  still : passes x acknowledged is_followed is_passed l.era.passing [] ≡ Some q
  still = ap (λ o. passes x acknowledged is_followed is_passed o []) e

  -- A FRAME THAT CAME BACK: what was heard by it doesn't hang on the news of the mail
  module _ (back : List (Datagram Body)) (came : Option (Bool × Option Found)) where
    abbrev behind : List (News Body) → Life Body Asked Reply
    behind ns = life_back x acknowledged is_followed is_passed frame spot ns back came l l.stand

    abbrev era_of : List (News Body) → Era Body Asked Reply
    era_of ns = era_back x acknowledged is_followed is_passed spot.station frame ns back l.era

    era_is : (ns : List (News Body)) → (behind ns).era ≡ era_of ns
    era_is ns = ap (λ s. (life_back x acknowledged is_followed is_passed frame spot ns back came l s).era) h.opened ∙ go came
      where
        go : (z : Option (Bool × Option Found)) → (life_back x acknowledged is_followed is_passed frame spot ns back z l Stand.Open).era ≡ era_of ns
        go None = reopens_keeps (λ k. k.era) (λ k s. refl) (record l { era = era_of ns }) (era_of ns).account.hand
        go (Some c) = reopens_keeps (λ k. k.era) (λ k s. refl) (record l { era = era_of ns }) (era_of ns).account.hand

    back_whole : (ns : List (News Body)) → WholeOf (record p { told = p.told ++ replies_in l.era.passing (accepted_in spot l back) }) (behind ns)
    back_whole ns =
        let told : HasPassed (record p { told = p.told ++ replies_in l.era.passing (accepted_in spot l back) }) (behind []) = back_has x frame frame spot [] back came p l h in
        let passing : (behind []).era.passing ≡ Some q = ap (λ (u : Era Body Asked Reply). u.passing) (era_is []) ∙ still in
        let same : (behind []).era.side.now ≡ (behind ns).era.side.now = ap (λ (u : Era Body Asked Reply). u.side.now) (era_is []) ∙ sym (ap (λ (u : Era Body Asked Reply). u.side.now) (era_is ns)) in
        subst (λ n. Whole (record p { told = p.told ++ replies_in l.era.passing (accepted_in spot l back) }) (behind ns).era.passing n) same
        (whole_of (record p { told = p.told ++ replies_in l.era.passing (accepted_in spot l back) }) (behind []).era.passing (behind ns).era.passing (behind []).era.side.now q passing told.tells)

  -- A LOST ONE
  module _ (sent : List (Datagram Body)) where
    abbrev gone : List (News Body) → Life Body Asked Reply
    gone ns = life_lost x acknowledged is_followed is_passed spot ns sent l l.stand

    abbrev left_of : List (News Body) → Era Body Asked Reply
    left_of ns = era_lost x acknowledged is_followed is_passed spot.station ns sent l.era

    left_is : (ns : List (News Body)) → (gone ns).era ≡ left_of ns
    left_is ns = ap (λ s. (life_lost x acknowledged is_followed is_passed spot ns sent l s).era) h.opened

    lost_whole : (ns : List (News Body)) → WholeOf (record p { told = p.told ++ replies_in l.era.passing [] }) (gone ns)
    lost_whole ns =
        let told : HasPassed (record p { told = p.told ++ replies_in l.era.passing [] }) (gone []) = lost_has x frame spot [] sent p l h in
        let passing : (gone []).era.passing ≡ Some q = ap (λ (u : Era Body Asked Reply). u.passing) (left_is []) ∙ still in
        let same : (gone []).era.side.now ≡ (gone ns).era.side.now = ap (λ (u : Era Body Asked Reply). u.side.now) (left_is []) ∙ sym (ap (λ (u : Era Body Asked Reply). u.side.now) (left_is ns)) in
        subst (λ n. Whole (record p { told = p.told ++ replies_in l.era.passing [] }) (gone ns).era.passing n) same
        (whole_of (record p { told = p.told ++ replies_in l.era.passing [] }) (gone []).era.passing (gone ns).era.passing (gone []).era.side.now q passing told.tells)

abbrev Has : Serves → Type 0
Has w = (p : Passed) → w.hand ≡ Some p → HasPassed p w.lead.lived.life

-- ONE SLAVE
module _ (lens : ℕ → Lens) (recover retry : ℕ) (gives : Bool) (made : ℕ) (f : Exchanged) (v : ServedTurn) (h : (p : Passed) → v.hand ≡ Some p → HasPassed p v.turn.lived.life) (passing : Passing) (e : v.turn.lived.life.era.passing ≡ Some passing) where
  abbrev bodies : List (Datagram Body)
  bodies = seen lens f.sent

  told_whole : (ms : List Body) (l : Life Body Asked Reply) → ((p : Passed) → v.hand ≡ Some p → WholeOf (record p { told = p.told ++ replies_in v.turn.lived.life.era.passing ms }) l) → (hand : Option Passed) → v.hand ≡ hand → (q : Passed)
      → told_on v.turn.lived.life.era.passing ms hand ≡ Some q → WholeOf q l
  told_whole ms l goes None a q b = absurd (let bad : None ≡ Some q = b in cc)
  told_whole ms l goes (Some p) a q b =
      let same : record p { told = p.told ++ replies_in v.turn.lived.life.era.passing ms } ≡ q = (let all = b in cc) in
      subst (λ z. WholeOf z l) same (goes p a)

  behind_whole : (fate : Fate) (q : Passed) → (if gives_it lens recover retry gives fate v then None else told_on v.turn.lived.life.era.passing (accepted_by lens recover retry f fate v) v.hand) ≡ Some q → WholeOf q (served_life lens recover retry gives made f fate v).life
  behind_whole Pass q b =
      told_whole (accepted_by lens recover retry f Pass v) (served_life lens recover retry gives made f Pass v).life
      (λ p a. back_whole (speech_at lens v.turn.lived.spot) made v.turn.lived.spot p v.turn.lived.life (h p a) passing e (seen lens f.back) (came_at v.turn.share.under v.turn.share.at (seen lens f.back)) (news_back v.turn.lived.spot.station v.kept v.counts (seen lens f.back)))
      v.hand refl q b
  behind_whole (Lost after) q b = by (gives && v.turn.share.under) b
    where
      lost : Life Body Asked Reply
      lost = life_lost (speech_at lens v.turn.lived.spot) acknowledged is_followed is_passed v.turn.lived.spot (news_lost v.turn.lived.spot.station v.kept bodies) bodies v.turn.lived.life v.turn.lived.life.stand

      by : (z : Bool) → (if z then None else told_on v.turn.lived.life.era.passing [] v.hand) ≡ Some q → WholeOf q (given_where z recover v.turn.lived.spot made lost)
      by true c = absurd (let bad : None ≡ Some q = c in cc)
      by false c =
          told_whole [] lost (λ p a. lost_whole (speech_at lens v.turn.lived.spot) made v.turn.lived.spot p v.turn.lived.life (h p a) passing e bodies (news_lost v.turn.lived.spot.station v.kept bodies)) v.hand refl q c

-- ALL SLAVES
all_whole :
    (lens : ℕ → Lens) (recover retry : ℕ) (gives : Bool) (made : ℕ) (f : Exchanged) (ds : List Raw.Datagram) (ws : List Serves) (vs : List ServedTurn) → AllServedTurn lens made ds ws vs → All Has ws
    → AllBoth TellsWhole vs (map (served_behind lens recover retry gives made f) vs)
all_whole lens recover retry gives made f ds [] [] t h = tt
all_whole lens recover retry gives made f ds [] (v ∷ vs) t h = absurd t
all_whole lens recover retry gives made f ds (w ∷ ws) [] t h = absurd t
all_whole lens recover retry gives made f ds (w ∷ ws) (v ∷ vs) t h =
    (λ passing e p is. behind_whole lens recover retry gives made f v (next_has lens made ds w v t.0 (All-head Has w ws h)) passing e f.fate p is, all_whole lens recover retry gives made f ds ws vs t.1 (All-tail Has w ws h))

pub whole : (plan : Scenario) (book : Book) → IsServedWhole plan book
whole plan book = λ front back f split missed ws led vs frame.
    all_whole (lens_of plan.slaves) plan.recover plan.retry (gives_up_at (lens_of plan.slaves) plan.recover plan.retry missed) (length (map exchanged front)) (exchanged f) frame.datagrams ws vs frame.each
    (all_has (lens_of plan.slaves) plan.recover plan.retry plan.paces (first_leads plan) (map exchanged front) missed ws led)
