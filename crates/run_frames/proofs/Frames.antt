-- WHAT IS NOTED BEHIND A FRAME: the answer that its return brought, or nothing.
use Rattle.std.proofs.Common.{◌≡◌, inl, inr, ℕ, suc, ◌<◌, Bool, true, false, Option, Some, None, List, [], ◌∷◌, ◌++◌, length, length-append, refl, ap, sym, ◌∙◌, subst, arith, append-nil}
use Rattle.std.specs.Prelude.{◌==◌, ◌&&◌, option_map, is_some, if◌then◌else◌}
use Rattle.std.specs.List.{All}
use Rattle.std.proofs.lemmas.List.{map-append}
use Rattle.life_runs.specs.of_exchange_model.Areas.{Areas}
use Rattle.life_runs.specs.of_exchange_model.Exchange.{Speech, plain}
use Rattle.life_runs.specs.of_exchange_model.Rows.{answer_after, row_heard}
use Rattle.life_runs.specs.of_frame_view.Seen.{seen}
use Rattle.life_runs.proofs.Spans.{clear_leaves, cleared_stays, last_stays, steps_stay}
use Rattle.life_runs.specs.Spans.{is_leaving, is_open}
use Rattle.life_runs.specs.of_life_model.Lives.{Spot, Era, Life, Stand, Opening, life_back, era_back, opening_back, shows_clear, is_shown, last_step, clears, opens, steps_on, reopens, reopens_at, reopening, opens_state, returns_to_init, new_side}
use Rattle.life_runs.specs.of_life_model.Own.{own}
use Rattle.life_runs.specs.Led.{is_passed}
use Rattle.life_runs.specs.of_link_mails.Body.{Body}
use Rattle.life_runs.specs.of_link_model.Frames.{all_accepted}
use Rattle.life_runs.specs.of_master_duty.Reply.{Reply}
use Rattle.life_runs.specs.of_master_hand.Spoken.{Asked, acknowledged, is_followed, ends, hand_speech}
use Rattle.life_runs.specs.of_segment_model.Record.{News}
use Rattle.life_runs.specs.of_segment_model.Seats.{Side, newest}
use Rattle.life_runs.specs.of_segment_model.Slaves.{Datagram, Found, grams}
use Rattle.life_runs.specs.of_state_model.Accounts.{Account, Duty, Stage, Change, new_account}
use Rattle.life_runs.specs.of_state_model.Promise.{services_in, mails_in}
use Rattle.life_runs.proofs.of_state_model.Completed.{started_back}
use Rattle.run_frames.specs.ScriptAnswers.{Came, Scripted, EraRests, RowRests, RestsSo, Awaits, Changes, ComesAnew, IsStill, IsNew, FreshBy, answers_in, side_answers, now_answer, states_in, reached_at, opened_anew, scripted_in, era_scripted, eras_scripted, over_scripted, life_scripted}
use Rattle.run_frames.proofs.Backs.{Held, answer_of, Went, AwaitsBack, past_scripted, changes_front, changes_scripted, changes_opened, change_with, change_reported, hand_back, no_hand, answers_rest, rests_heard, many_answers}
use Rattle.run_frames.proofs.Anew.{anew_spared}
use Rattle.run_frames.proofs.Lists.{Answer, eras_more, changes_more, scripted_beside}
use Rattle.run_frames.proofs.Turns.{awaits_on, beside_on, changes_on, rests_on, spared, fresh_open}

abbrev LifeOf : Type 0
LifeOf = Life Body Asked Reply

abbrev Beside : LifeOf → Type 0
Beside l = mails_in (services_in l.era.account.started) ≡ length (side_answers l.era.side)

-- WHAT STAYS of a life behind a frame, whatever is awaited: as many answers as services by mails, and an epoch that is new until its slave is open
pub record Stays (l m : LifeOf) : Type 0 where
  pub beside : Beside l → Beside m
  pub fresh : FreshBy l.stand l.gave l.era → FreshBy m.stand m.gave m.era

-- A NEW EPOCH rests
rests_new : (e : Era Body Asked Reply) → e.side ≡ new_side → e.account ≡ new_account → RestsSo e
rests_new e s a = record {
  hand = ap (λ (z : Account Asked Reply). z.hand) a;
  states = subst (λ (z : Account Asked Reply). states_in (services_in z.started) ≡ length z.over) (sym a) refl;
  row = inl (subst (λ (z : Side Body Asked Reply). RowRests z.now) (sym s) tt);
}

-- A SLAVE THAT IS OPENED: the services of its life are those of the epochs that are over
new_none : (l : LifeOf) (behind : Option ℕ) → l.era.account ≡ new_account → eras_scripted l.gave l.past behind ++ era_scripted None l.era ≡ eras_scripted l.gave l.past behind
new_none l behind e = (λ i. eras_scripted l.gave l.past behind ++ scripted_in None (e i).started (side_answers l.era.side) (e i).over) ∙ append-nil (eras_scripted l.gave l.past behind)

-- where it is leaving, the newest too
abbrev over_where : LifeOf → Bool → Option ℕ → List Scripted
over_where l leaving behind = eras_scripted l.gave (if leaving then l.past ++ l.era ∷ [] else l.past) behind

whole_where : (l : LifeOf) (leaving : Bool) → (leaving ≡ false → IsNew l.era) → life_scripted l ≡ over_where l leaving None
whole_where l true new = sym (eras_more l.gave l.past l.era None)
whole_where l false new = let n = new refl in (λ i. eras_scripted l.gave l.past (n.opened i) ++ era_scripted None l.era) ∙ new_none l None n.account

over_whole : (l : LifeOf) (o : Opening) → l.stand ≡ Stand.Opens o → FreshBy l.stand l.gave l.era → life_scripted l ≡ over_scripted l None
over_whole l o s f = whole_where l (is_leaving l.stand) (λ e. subst (λ (z : Stand). FreshBy z l.gave l.era) s f (sym (ap is_leaving s) ∙ e))

-- AN OPENING
module _ (frame : ℕ) (l : LifeOf) (given : All (λ k. k < frame) l.gave) (o : Opening) (done : Bool) (found : Option Found) where
  abbrev behind_opening : Bool → Bool → Bool → Bool → LifeOf
  behind_opening shows seen last there = if shows then (if seen then clears frame l o else l) else if last then (if there then opens frame l else l) else steps_on l o

  -- by its tests, what is known of them, and what it makes of the life
  opening_by : (P : LifeOf → Type 0) → (shows_clear o ≡ true → P (clears frame l o)) → P l → ((o.step == last_step o) ≡ true → P (opens frame l)) → (shows_clear o ≡ false → P (steps_on l o)) → P (opening_back frame l o done found)
  opening_by P clear same open' step = go (shows_clear o) (done && is_shown 1 found) (o.step == last_step o) (done && is_shown o.state found) refl refl
    where
      go : (shows seen last there : Bool) → shows_clear o ≡ shows → (o.step == last_step o) ≡ last → P (behind_opening shows seen last there)
      go true true last there e f = clear e
      go true false last there e f = same
      go false seen true true e f = open' f
      go false seen true false e f = same
      go false seen false there e f = step e

  clear_scripted : life_scripted (clears frame l o) ≡ life_scripted l
  clear_scripted = append-nil (eras_scripted l.gave (l.past ++ l.era ∷ []) None) ∙ eras_more l.gave l.past l.era None

  stays_opens : (e : Era Body Asked Reply) → FreshBy (Stand.Opens o) l.gave e → shows_clear o ≡ false → FreshBy (Stand.Opens (record o { step = suc o.step })) l.gave e
  stays_opens e h c = λ n. h (sym (steps_stay o.again o.step c) ∙ n)

  pub opening_stays : l.stand ≡ Stand.Opens o → Stays l (opening_back frame l o done found)
  opening_stays s = opening_by (λ m. Stays l m)
      (λ e. record { beside = λ b. refl; fresh = λ f n. record { side = refl; account = refl; opened = refl } })
      (record { beside = λ b. b; fresh = λ f. f })
      (λ e. record { beside = λ b. b; fresh = λ f. record { from = frame; opened = refl; before = given } })
      (λ e. record { beside = λ b. b; fresh = λ f. stays_opens l.era (subst (λ (z : Stand). FreshBy z l.gave l.era) s f) e })

  -- it goes on, or the slave is open by this frame, which is what opens it anew
  pub data OpeningBack (m : LifeOf) : Type 0 where
    under_way : is_open m.stand ≡ false → life_scripted m ≡ life_scripted l → m.gave ≡ l.gave → ((x : Option ℕ) → over_scripted m x ≡ over_scripted l x) → OpeningBack m
    is_up : m.stand ≡ Stand.Open → life_scripted m ≡ over_scripted l (Some frame) → RestsSo m.era → OpeningBack m

  leaving_is : (b : Bool) → is_leaving l.stand ≡ b → (x : Option ℕ) → over_scripted l x ≡ over_where l b x
  leaving_is b e x = ap (λ z. over_where l z x) e

  cleared_over : l.stand ≡ Stand.Opens o → shows_clear o ≡ true → (x : Option ℕ) → over_scripted (clears frame l o) x ≡ over_scripted l x
  cleared_over s e x = ap (λ z. over_where (clears frame l o) z x) (cleared_stays o) ∙ sym (leaving_is true (ap is_leaving s ∙ clear_leaves o e) x)

  steps_over : l.stand ≡ Stand.Opens o → shows_clear o ≡ false → (x : Option ℕ) → over_scripted (steps_on l o) x ≡ over_scripted l x
  steps_over s e x = ap (λ z. over_where l z x) (steps_stay o.again o.step e ∙ sym (ap is_leaving s))

  opened_by : l.stand ≡ Stand.Opens o → FreshBy l.stand l.gave l.era → (o.step == last_step o) ≡ true → OpeningBack (opens frame l)
  opened_by s f e =
      let new = subst (λ (z : Stand). FreshBy z l.gave l.era) s f (last_stays o e) in
      OpeningBack.is_up refl (new_none l (Some frame) new.account ∙ sym (leaving_is false (ap is_leaving s ∙ last_stays o e) (Some frame))) (rests_new (opens frame l).era new.side new.account)

  pub opening_is : l.stand ≡ Stand.Opens o → FreshBy l.stand l.gave l.era → OpeningBack (opening_back frame l o done found)
  opening_is s f = opening_by (λ m. OpeningBack m)
      (λ e. OpeningBack.under_way refl clear_scripted refl (cleared_over s e))
      (OpeningBack.under_way (ap is_open s) refl refl (λ x. refl))
      (opened_by s f)
      (λ e. OpeningBack.under_way refl refl refl (steps_over s e))

-- A LIFE BEHIND A FRAME THAT CAME BACK
module _ (areas : Areas) (frame : ℕ) (spot : Spot) (news : List (News Body)) (back : List (Datagram Body)) (l : LifeOf) (given : All (λ k. k < frame) l.gave) where
  abbrev x : Speech Body Asked Reply
  x = hand_speech areas

  abbrev era : Era Body Asked Reply
  era = era_back x acknowledged is_followed is_passed spot.station frame news back l.era

  abbrev came_back : LifeOf
  came_back = record l { era = era }

  abbrev heard : List Body
  heard = all_accepted spot.station l.era.side.halves (grams (own spot.station back))

  abbrev behind : Option (Bool × Option Found) → Stand → LifeOf
  behind came stand = life_back x acknowledged is_followed is_passed frame spot news back came l stand

  -- a reopening changes how the master stands to the slave, and nothing else
  reopens_by : (P : LifeOf → Type 0) (m : LifeOf) (hand : Option Duty) → P m → ((state : ℕ) → P (record m { stand = reopening state true })) → P (reopens m hand)
  reopens_by P m None same goes = same
  reopens_by P m (Some duty) same goes = go duty.stage
    where
      by : (b : Bool) → P (if b then record m { stand = reopening (opens_state duty.target) true } else m)
      by true = goes (opens_state duty.target)
      by false = same

      go : (stage : Stage) → P (reopens_at m duty.target stage)
      go Stage.Drains = same
      go (Stage.Goes phase) = by (returns_to_init duty.target)

  reopens_none : (m : LifeOf) (hand : Option Duty) → hand ≡ None → reopens m hand ≡ m
  reopens_none m None e = refl
  reopens_none m (Some duty) e = absurd (cc)

  era_started : era.account.started ≡ l.era.account.started
  era_started = started_back spot.station frame l.era.account (own spot.station back)

  era_beside : Beside l → Beside came_back
  era_beside b = ap (λ ss. mails_in (services_in ss)) era_started ∙ b ∙ sym (many_answers x frame heard l.era.side.past l.era.side.now)

  open_stays : l.stand ≡ Stand.Open → Stays l (reopens came_back era.account.hand)
  open_stays s = reopens_by (λ m. Stays l m) came_back era.account.hand
      (record { beside = era_beside; fresh = λ f. fresh_open l came_back s s refl refl f })
      (λ state. record { beside = era_beside; fresh = λ f n. absurd (let bad : true ≡ false = n in cc) })

  pub back_stays : (came : Option (Bool × Option Found)) (stand : Stand) → l.stand ≡ stand → Stays l (behind came stand)
  back_stays None (Stand.Opens o) s = record { beside = λ b. b; fresh = λ f. f }
  back_stays (Some came) (Stand.Opens o) s = opening_stays frame l given o came.0 came.1 s
  back_stays came Stand.Open s = open_stays s
  back_stays came Stand.Gone s = record { beside = λ b. b; fresh = λ f. f }

  -- OF A SLAVE THAT ISN'T OPEN the newest service goes on returning it to Init, or its outcome is of this frame
  pub data AnewBack (c : ComesAnew l) (m : LifeOf) : Type 0 where
    awaits : ComesAnew m → life_scripted m ≡ life_scripted l → AnewBack c m
    reached : m.stand ≡ Stand.Open → life_scripted m ≡ c.front ++ record { frame = c.frame; came = Came.state (reached_at (Some frame)) } ∷ [] → RestsSo m.era → AnewBack c m

  pub anew_back : (c : ComesAnew l) (came : Option (Bool × Option Found)) (stand : Stand) → l.stand ≡ stand → FreshBy l.stand l.gave l.era → AnewBack c (behind came stand)
  anew_back c None (Stand.Opens o) s f = AnewBack.awaits c refl
  anew_back c (Some came) (Stand.Opens o) s f = by (opening_back frame l o came.0 came.1) (opening_is frame l given o came.0 came.1 s f)
    where
      by : (m : LifeOf) → OpeningBack frame l given o came.0 came.1 m → AnewBack c m
      by m (OpeningBack.under_way away same gave over) = AnewBack.awaits (record { front = c.front; frame = c.frame; whole = same ∙ c.whole; opens = λ g. over (Some g) ∙ c.opens g; away = away }) same
      by m (OpeningBack.is_up open' whole rests) = AnewBack.reached open' (whole ∙ c.opens frame) rests
  anew_back c came Stand.Open s f = absurd (let bad : true ≡ false = sym (ap is_open s) ∙ c.away in cc)
  anew_back c came Stand.Gone s f = AnewBack.awaits c refl

  -- WHERE NOTHING IS IN HAND
  same_account : l.era.account.hand ≡ None → era.account ≡ l.era.account
  same_account e = no_hand spot.station frame l.era.account (own spot.station back) e

  era_answers : RowRests l.era.side.now → side_answers era.side ≡ side_answers l.era.side
  era_answers r = answers_rest areas frame heard l.era.side.past l.era.side.now r

  era_row : RowRests l.era.side.now → RowRests era.side.now
  era_row r = rests_heard areas frame heard l.era.side.now r

  -- whatever it is heard by, the script came to the same
  steady_answers : EraRests l.era → (over : List (Change Reply)) → scripted_in None l.era.account.started (side_answers era.side) over ≡ scripted_in None l.era.account.started (side_answers l.era.side) over
  steady_answers (inl h) over = ap (λ z. scripted_in None l.era.account.started z over) (era_answers h)
  steady_answers (inr w) over =
      let now = ap (λ (z : Option Held). answers_in (l.era.side.past ++ newest (option_map (λ r. row_heard x frame heard r) z))) w.now ∙ map-append answer_of l.era.side.past (row_heard x frame heard w.row ∷ []) in
      let was = ap (λ (z : Option Held). answers_in (l.era.side.past ++ newest z)) w.now ∙ map-append answer_of l.era.side.past (w.row ∷ []) in
      (λ i. scripted_in None (w.started i) (now i) over)
      ∙ scripted_beside None w.front (answers_in l.era.side.past) over w.asked w.frame w.behind (row_heard x frame heard w.row).answer w.row.answer w.other w.beside
      ∙ (λ i. scripted_in None (sym w.started i) (sym was i) over)

  era_rests : EraRests l.era → EraRests era
  era_rests (inl h) = inl (era_row h)
  era_rests (inr w) = inr (beside_on l.era era w [] (row_heard x frame heard w.row) (era_started ∙ sym (append-nil l.era.account.started)) refl (ap (option_map (λ r. row_heard x frame heard r)) w.now))

  rests_back : RestsSo l.era → RestsSo era
  rests_back r = let same = same_account r.hand in rests_on l.era era r (ap (λ (z : Account Asked Reply). z.started) same) (ap (λ (z : Account Asked Reply). z.over) same) (ap (λ (z : Account Asked Reply). z.hand) same) (era_rests r.row)

  rests_scripted : RestsSo l.era → life_scripted came_back ≡ life_scripted l
  rests_scripted r =
      (λ i. past_scripted l ++ scripted_in None (same_account r.hand i).started (side_answers era.side) (same_account r.hand i).over) ∙ ap (λ ss. past_scripted l ++ ss) (steady_answers r.row l.era.account.over)

  pub record RestsBack (m : LifeOf) : Type 0 where
    pub scripted : life_scripted m ≡ life_scripted l
    pub still : IsStill m

  still_opening : (o : Opening) → l.stand ≡ Stand.Opens o → FreshBy l.stand l.gave l.era → IsStill l → (m : LifeOf) → (done : Bool) (found : Option Found) → OpeningBack frame l given o done found m → RestsBack m
  still_opening o s f h m done found (OpeningBack.under_way away same gave over) = record {
    scripted = same;
    still =
        record {
          rests = λ t. absurd (let bad : true ≡ false = sym (ap is_open t) ∙ away in cc);
          opens = λ p t g before. over (Some g) ∙ h.opens o s g (subst (λ (z : List ℕ). All (λ k. k < g) z) gave before) ∙ sym (over None);
        };
  }
  still_opening o s f h m done found (OpeningBack.is_up open' whole rests) = record {
    scripted = whole ∙ h.opens o s frame given ∙ sym (over_whole l o s f);
    still = record { rests = λ t. rests; opens = λ p t. absurd (let bad = sym open' ∙ t in cc) };
  }

  pub still_back : (came : Option (Bool × Option Found)) (stand : Stand) → l.stand ≡ stand → FreshBy l.stand l.gave l.era → IsStill l → RestsBack (behind came stand)
  still_back came Stand.Open s f h =
      let r = h.rests s in
      let none : era.account.hand ≡ None = ap (λ (z : Account Asked Reply). z.hand) (same_account r.hand) ∙ r.hand in
      subst (λ z. RestsBack z) (sym (reopens_none came_back era.account.hand none))
      (record { scripted = rests_scripted r; still = record { rests = λ t. rests_back r; opens = λ o t. absurd (let bad = sym s ∙ t in cc) } })
  still_back None (Stand.Opens o) s f h = record { scripted = refl; still = h }
  still_back (Some came) (Stand.Opens o) s f h = still_opening o s f h (opening_back frame l o came.0 came.1) came.0 came.1 (opening_is frame l given o came.0 came.1 s f)
  still_back came Stand.Gone s f h = record { scripted = refl; still = h }

  -- A SERVICE BY MAILS goes on awaiting its reply, or has it of this frame
  awaits_open : l.stand ≡ Stand.Open → (w : Awaits l.era) → now_answer l.era.side.now ≡ None → AwaitsBack areas frame l w (reopens came_back era.account.hand)
  awaits_open s w none =
      let same = same_account w.hand in
      let no : era.account.hand ≡ None = ap (λ (z : Account Asked Reply). z.hand) same ∙ w.hand in
      let row : Held = row_heard x frame heard w.row in
      let now : era.side.now ≡ Some row = ap (option_map (λ r. row_heard x frame heard r)) w.now in
      let over = ap (λ (z : Account Asked Reply). z.over) same in
      subst (λ z. AwaitsBack areas frame l w z) (sym (reopens_none came_back era.account.hand no)) (record {
        stand = s;
        era = awaits_on l.era era w row (ap (λ (z : Account Asked Reply). z.started) same) over refl no now refl;
        front = ap (λ (z : List (Change Reply)). past_scripted l ++ scripted_in None w.front (answers_in l.era.side.past) z) over;
        at = refl;
        heard = plain x.emission (w.row.heard ++ heard);
        answer = ap now_answer now ∙ ap (λ (z : Answer). answer_after frame z (ends areas w.row.service (plain x.emission (w.row.heard ++ heard)))) (sym (ap now_answer w.now) ∙ none);
      })

  pub awaits_back : (came : Option (Bool × Option Found)) (stand : Stand) → l.stand ≡ stand → l.stand ≡ Stand.Open → (w : Awaits l.era) → now_answer l.era.side.now ≡ None → AwaitsBack areas frame l w (behind came stand)
  awaits_back came (Stand.Opens o) s t w none = absurd (let bad = sym s ∙ t in cc)
  awaits_back came Stand.Open s t w none = awaits_open s w none
  awaits_back came Stand.Gone s t w none = absurd (let bad = sym s ∙ t in cc)

  -- A CHANGE OF STATE goes on, returns its slave to Init, or ends with this frame
  pub data ChangeBack (w : Changes l.era) (m : LifeOf) : Type 0 where
    goes : m.stand ≡ Stand.Open → Changes m.era → life_scripted m ≡ life_scripted l → is_some m.era.account.hand ≡ true → ChangeBack w m
    leaves : ComesAnew m → life_scripted m ≡ life_scripted l → ChangeBack w m
    over : (c : Change Reply) → m.stand ≡ Stand.Open → m.era.account.hand ≡ None → m.era.account.over ≡ l.era.account.over ++ c ∷ [] → c.completed ≡ frame → life_scripted m ≡ changes_front l w ++ record { frame = w.frame; came = change_reported c } ∷ [] → RestsSo m.era → ChangeBack w m

  module _ (s : l.stand ≡ Stand.Open) (f : FreshBy l.stand l.gave l.era) (w : Changes l.era) where
    abbrev goes_on : (duty : Duty) → era.account.hand ≡ Some duty → duty.target ≡ w.duty.target → era.account.over ≡ l.era.account.over → Changes era
    goes_on duty hand target kept = changes_on l.era era w duty era_started kept hand target (era_rests w.row)

    goes_scripted : era.account.over ≡ l.era.account.over → life_scripted came_back ≡ life_scripted l
    goes_scripted kept = (λ i. past_scripted l ++ scripted_in None (era_started i) (side_answers era.side) (kept i)) ∙ ap (λ ss. past_scripted l ++ ss) (steady_answers w.row l.era.account.over)

    -- what opens it anew, since it wasn't given up
    opens_anew : (g : ℕ) → opened_anew l.gave l.era.opened (Some g) ≡ Some g
    opens_anew g = let k = spared l.stand l.gave l.era s f in ap (λ (z : Option ℕ). opened_anew l.gave z (Some g)) k.opened ∙ anew_spared l.gave k.from g k.before

    comes_anew : (k : Changes era) (state : ℕ) → returns_to_init k.duty.target ≡ true → ComesAnew (record came_back { stand = reopening state true })
    comes_anew k state e = record {
      front = changes_front came_back k;
      frame = k.frame;
      whole = changes_scripted came_back k;
      opens = λ g. eras_more l.gave l.past era (Some g) ∙ ap (λ (z : Option ℕ). past_scripted l ++ era_scripted z era) (opens_anew g) ∙ changes_opened came_back k g e;
      away = refl;
    }

    change_goes : (duty : Duty) → era.account.hand ≡ Some duty → duty.target ≡ w.duty.target → era.account.over ≡ l.era.account.over → ChangeBack w (reopens came_back era.account.hand)
    change_goes duty hand target same = subst (λ (z : Option Duty). ChangeBack w (reopens came_back z)) (sym hand) (go duty.stage)
      where
        kept : ChangeBack w came_back
        kept = ChangeBack.goes s (goes_on duty hand target same) (goes_scripted same) (ap is_some hand)

        by : (b : Bool) → returns_to_init duty.target ≡ b → ChangeBack w (if b then record came_back { stand = reopening (opens_state duty.target) true } else came_back)
        by true e = ChangeBack.leaves (comes_anew (goes_on duty hand target same) (opens_state duty.target) e) (goes_scripted same)
        by false e = kept

        go : (stage : Stage) → ChangeBack w (reopens_at came_back duty.target stage)
        go Stage.Drains = kept
        go (Stage.Goes phase) = by (returns_to_init duty.target) refl

    change_over : (c : Change Reply) → era.account.hand ≡ None → era.account.over ≡ l.era.account.over ++ c ∷ [] → c.completed ≡ frame → ChangeBack w (reopens came_back era.account.hand)
    change_over c none more at = subst (λ (z : LifeOf). ChangeBack w z) (sym (reopens_none came_back era.account.hand none))
        (ChangeBack.over c s none more at
        ((λ i. past_scripted l ++ scripted_in None (era_started i) (side_answers era.side) (more i))
        ∙ ap (λ ss. past_scripted l ++ ss) (steady_answers w.row (l.era.account.over ++ c ∷ []))
        ∙ (λ i. past_scripted l ++ scripted_in None (w.started i) (side_answers l.era.side) (l.era.account.over ++ c ∷ []))
        ∙ change_with l w c)
        (record {
          hand = none;
          states =
              (let n = ap (λ ss. states_in (services_in ss)) (era_started ∙ w.started) in
              let k = changes_more w.front w.duty.target w.frame in
              let m = length-append l.era.account.over (c ∷ []) in
              let o = ap length more in
              omega (arith, n, k, w.beside, m, o));
          row = era_rests w.row;
        }))

    change_open : ChangeBack w (reopens came_back era.account.hand)
    change_open = by (hand_back spot.station frame l.era.account (own spot.station back) w.duty w.hand)
      where
        by : Went frame l.era.account.over era.account w.duty.target → ChangeBack w (reopens came_back era.account.hand)
        by (Went.on duty hand target same) = change_goes duty hand target same
        by (Went.over c none more at) = change_over c none more at

    pub change_back : (came : Option (Bool × Option Found)) (stand : Stand) → l.stand ≡ stand → ChangeBack w (behind came stand)
    change_back came (Stand.Opens o) t = absurd (let bad = sym s ∙ t in cc)
    change_back came Stand.Open t = change_open
    change_back came Stand.Gone t = absurd (let bad = sym s ∙ t in cc)
