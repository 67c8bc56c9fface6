-- Behind a frame the rows of each life stay.
use Rattle.std.proofs.Common.{◌≡◌, ℕ, Bool, true, false, Option, Some, None, List, [], ◌∷◌, ◌++◌, map, refl, sym, ◌∙◌, subst, append-nil}
use Rattle.std.specs.Prelude.{◌&&◌, ◌==◌, if◌then◌else◌}
use Rattle.few_replies.specs.of_exchange_model.Exchange.{Speech}
use Rattle.few_replies.specs.of_life_model.Lives.{Era, Life, Opening, Spot, Stand, clears, era_back, is_shown, last_step, life_back, life_lost, opening_back, opens, opens_state, passes, reopening, reopens, reopens_at, returns_to_init, shows_clear, steps_on}
use Rattle.few_replies.specs.of_life_model.Own.{own}
use Rattle.few_replies.specs.of_link_model.Frames.{all_accepted}
use Rattle.few_replies.specs.of_segment_model.Ends.{Passing, passing_after}
use Rattle.few_replies.specs.of_segment_model.Record.{News, all_told}
use Rattle.few_replies.specs.of_segment_model.Seats.{newest, rows_of}
use Rattle.few_replies.specs.of_segment_model.Slaves.{Datagram, Found, grams}
use Rattle.few_replies.specs.of_state_model.Accounts as Accounts
use Rattle.few_replies.specs.of_state_model.Accounts.{Duty}
use Rattle.run_frames.specs.of_frame_view.View.{Lens}
use Rattle.run_frames.specs.of_frame_view.Seen.{seen}
use Rattle.run_frames.specs.of_frame_view.Shares.{AllBoth, came_at, given_where}
use Rattle.few_replies.specs.of_link_mails.Body.{Body}
use Rattle.run_frames.specs.of_master_duty.Reply.{Reply}
use Rattle.run_frames.specs.of_master_hand.Spoken.{Asked, acknowledged, is_followed, is_passed}
use Rattle.run_frames.specs.of_master_side.Passing.{news_back, news_lost}
use Rattle.run_frames.specs.of_segment_ring.declared.wire.Fate.{Fate}
use Rattle.run_frames.specs.of_segment_ring.declared.wire.Fate.TheVariants.{Pass, Lost}
use Rattle.run_frames.specs.of_life_runs.Led.{Exchanged, speech_at}
use Rattle.run_frames.proofs.of_master_tour.Unpassed.{unpassed_back, unpassed_lost}
use Rattle.run_frames.specs.of_life_runs.Served.{ServedTurn, gives_it, served_behind, served_life}
use Rattle.served_places.specs.Rows.{Stays, eras_rows, life_rows, passed_rows}
use Rattle.served_places.proofs.Stay.{all_append, all_itself, all_same, eras_append, lives_stay, newest_heard}

-- the rows of a life stay as they are
abbrev pub SameRows : Life Body Asked Reply → Life Body Asked Reply → Type 0
SameRows l m = life_rows m ≡ life_rows l

cleared_same : (frame : ℕ) (l : Life Body Asked Reply) (o : Opening) → SameRows l (clears frame l o)
cleared_same frame l o = append-nil (eras_rows (l.past ++ l.era ∷ [])) ∙ eras_append l.past l.era

-- what clearing, opening and a step of an opening keep
pub opening_keeps : {T : Type 0} (g : Life Body Asked Reply → T) (frame : ℕ) (l : Life Body Asked Reply) (o : Opening) (done : Bool) (found : Option Found) → g (clears frame l o) ≡ g l → g (opens frame l) ≡ g l → g (steps_on l o) ≡ g l → g (opening_back frame l o done found) ≡ g l
opening_keeps g frame l o done found cleared opened on = go (shows_clear o) (done && is_shown 1 found) (o.step == last_step o) (done && is_shown o.state found)
  where
    go : (a b c d : Bool) → g (if a then (if b then clears frame l o else l) else if c then (if d then opens frame l else l) else steps_on l o) ≡ g l
    go true true c d = cleared
    go true false c d = refl
    go false b true true = opened
    go false b true false = refl
    go false b false d = on

pub opening_same : (frame : ℕ) (l : Life Body Asked Reply) (o : Opening) (done : Bool) (found : Option Found) → SameRows l (opening_back frame l o done found)
opening_same frame l o done found = opening_keeps life_rows frame l o done found (cleared_same frame l o) refl refl

-- where a state service is in hand nothing but its stand may change
pub reopens_keeps : {T : Type 0} (g : Life Body Asked Reply → T) → ((l : Life Body Asked Reply) (stand : Stand) → g (record l { stand = stand }) ≡ g l) → (l : Life Body Asked Reply) (hand : Option Duty) → g (reopens l hand) ≡ g l
reopens_keeps g same l None = refl
reopens_keeps g same l (Some duty) = go duty.stage
  where
    by : (b : Bool) → g (if b then record l { stand = reopening (opens_state duty.target) true } else l) ≡ g l
    by true = same l (reopening (opens_state duty.target) true)
    by false = refl

    go : (s : Accounts.Stage) → g (reopens_at l duty.target s) ≡ g l
    go Accounts.Stage.Drains = refl
    go (Accounts.Stage.Goes phase) = by (returns_to_init duty.target)

module _ (x : Speech Body Asked Reply) (frame : ℕ) (spot : Spot) (l : Life Body Asked Reply) where
  pub back_stays : (ns : List (News Body)) (back : List (Datagram Body)) (came : Option (Bool × Option Found)) (stand : Stand) → AllBoth Stays (life_rows l) (life_rows (life_back x acknowledged is_followed is_passed frame spot ns back came l stand))
  back_stays ns back None (Stand.Opens o) = all_itself (life_rows l)
  back_stays ns back (Some came) (Stand.Opens o) = all_same (life_rows l) (life_rows (opening_back frame l o came.0 came.1)) (sym (opening_same frame l o came.0 came.1))
  back_stays ns back came Stand.Gone = all_itself (life_rows l)
  back_stays ns back came Stand.Open =
      subst (λ z. AllBoth Stays (life_rows l) z) (sym (reopens_keeps life_rows (λ l stand. refl) (record l { era = era }) era.account.hand))
      (all_append (eras_rows l.past) (eras_rows l.past) (rows_of l.era.side) (rows_of era.side) (all_itself (eras_rows l.past))
      (all_append l.era.side.past l.era.side.past (newest l.era.side.now) (newest era.side.now) (all_itself l.era.side.past) (newest_heard x frame (all_accepted spot.station l.era.side.halves (grams (own spot.station back))) l.era.side.now)))
    where
      era : Era Body Asked Reply
      era = era_back x acknowledged is_followed is_passed spot.station frame ns back l.era

  pub lost_same : (ns : List (News Body)) (sent : List (Datagram Body)) (stand : Stand) → SameRows l (life_lost x acknowledged is_followed is_passed spot ns sent l stand)
  lost_same ns sent (Stand.Opens o) = refl
  lost_same ns sent Stand.Open = refl
  lost_same ns sent Stand.Gone = refl

pub given_same : (b : Bool) (recover frame : ℕ) (spot : Spot) (m : Life Body Asked Reply) → SameRows m (given_where b recover spot frame m)
given_same true recover frame spot m = refl
given_same false recover frame spot m = refl

module _ (lens : ℕ → Lens) (recover retry : ℕ) (gives : Bool) (made : ℕ) (f : Exchanged) (v : ServedTurn) where
  by_fate : (fate : Fate) → AllBoth Stays (life_rows v.turn.lived.life) (life_rows (served_life lens recover retry gives made f fate v).life)
  by_fate Pass = back_stays (speech_at lens v.turn.lived.spot) made v.turn.lived.spot v.turn.lived.life (news_back v.turn.lived.spot.station v.kept v.counts (seen lens f.back)) (seen lens f.back) (came_at v.turn.share.under v.turn.share.at (seen lens f.back)) v.turn.lived.life.stand
  by_fate (Lost after) =
      let lost = life_lost (speech_at lens v.turn.lived.spot) acknowledged is_followed is_passed v.turn.lived.spot (news_lost v.turn.lived.spot.station v.kept (seen lens f.sent)) (seen lens f.sent) v.turn.lived.life v.turn.lived.life.stand in
      all_same (life_rows v.turn.lived.life) (life_rows (given_where (gives && v.turn.share.under) recover v.turn.lived.spot made lost))
      (sym (given_same (gives && v.turn.share.under) recover made v.turn.lived.spot lost ∙ lost_same (speech_at lens v.turn.lived.spot) made v.turn.lived.spot v.turn.lived.life (news_lost v.turn.lived.spot.station v.kept (seen lens f.sent)) (seen lens f.sent) v.turn.lived.life.stand))

  pub behind_stays : AllBoth Stays (passed_rows v.turn.lived.life) (passed_rows (served_behind lens recover retry gives made f v).lead.lived.life)
  behind_stays = lives_stay v.turn.lived.life (served_behind lens recover retry gives made f v).lead.lived.life (by_fate f.fate)

-- WHERE NO MAIL IS IN HAND THAT IS PASSED ON none is behind a frame; and a lost frame ends none of an open slave
pub record Goes (p : Option Passing) : Type 0 where
  pub passing : Passing
  pub is : p ≡ Some passing

told_goes : (emission more : Body → Bool) (x : Passing) (m : Body) → Goes (passing_after emission more x (News.Told m))
told_goes emission more Passing.Waiting m = record { passing = Passing.Sent; is = refl }
told_goes emission more Passing.Sent m = record { passing = Passing.Sent; is = refl }
told_goes emission more Passing.Boxed m = record { passing = Passing.Boxed; is = refl }
told_goes emission more Passing.Served m = record { passing = Passing.Served; is = refl }
told_goes emission more Passing.Answered m = record { passing = Passing.Answered; is = refl }

all_goes : (x : Speech Body Asked Reply) (p : Option Passing) (ms : List Body) → Goes p → Goes (passes x acknowledged is_followed is_passed p (map (λ m. News.Told m) ms ++ []))
all_goes x p [] g = subst (λ o. Goes (passes x acknowledged is_followed is_passed o [])) (sym g.is) (record { passing = g.passing; is = refl })
all_goes x p (m ∷ ms) g = subst (λ o. Goes (passes x acknowledged is_followed is_passed o (News.Told m ∷ (map (λ k. News.Told k) ms ++ [])))) (sym g.is) (all_goes x (passing_after x.emission is_followed g.passing (News.Told m)) ms (told_goes x.emission is_followed g.passing m))

module _ (lens : ℕ → Lens) (recover retry : ℕ) (gives : Bool) (made : ℕ) (f : Exchanged) (v : ServedTurn) where
  unpassed_by : (fate : Fate) → v.turn.lived.life.era.passing ≡ None → (served_life lens recover retry gives made f fate v).life.era.passing ≡ None
  unpassed_by Pass e = unpassed_back (speech_at lens v.turn.lived.spot) acknowledged is_followed is_passed made (seen lens f.back) v.turn.lived v.turn.share (news_back v.turn.lived.spot.station v.kept v.counts (seen lens f.back)) e
  unpassed_by (Lost after) e = unpassed_lost (speech_at lens v.turn.lived.spot) acknowledged is_followed is_passed gives recover made (seen lens f.sent) v.turn.lived v.turn.share (news_lost v.turn.lived.spot.station v.kept (seen lens f.sent)) e

  pub unpassed_behind : v.turn.lived.life.era.passing ≡ None → (served_behind lens recover retry gives made f v).lead.lived.life.era.passing ≡ None
  unpassed_behind e = unpassed_by f.fate e

  pub lost_goes : (after : ℕ) → gives_it lens recover retry gives (Lost after) v ≡ false → v.turn.lived.life.stand ≡ Stand.Open → Goes v.turn.lived.life.era.passing → Goes (served_life lens recover retry gives made f (Lost after) v).life.era.passing
  lost_goes after g opened o =
      subst (λ z. Goes (given_where z recover v.turn.lived.spot made (life_lost x acknowledged is_followed is_passed v.turn.lived.spot ns (seen lens f.sent) v.turn.lived.life v.turn.lived.life.stand)).era.passing) (sym g)
      (subst (λ s. Goes (life_lost x acknowledged is_followed is_passed v.turn.lived.spot ns (seen lens f.sent) v.turn.lived.life s).era.passing) (sym opened)
      (all_goes x v.turn.lived.life.era.passing (all_told v.turn.lived.spot.station v.kept.told (grams (seen lens f.sent))) o))
    where
      x : Speech Body Asked Reply
      x = speech_at lens v.turn.lived.spot

      ns : List (News Body)
      ns = news_lost v.turn.lived.spot.station v.kept (seen lens f.sent)
