-- WHAT A CHANGE OF STATE TELLS behind a frame that came back, and what its post has in hand then.
use Rattle.std.proofs.Common.{◌≡◌, ◌==◌, ℕ, Bool, true, false, Option, Some, None, List, [], ◌∷◌, ◌++◌, length, refl, sym, ap, ◌∙◌, subst}
use Rattle.std.specs.Prelude.{◌&&◌, not, if◌then◌else◌}
use Rattle.life_runs.specs.of_master_duty.Reply.{Reply}
use Rattle.life_runs.specs.of_master_duty.declared.stage.Met.{Met}
use Rattle.life_runs.specs.of_segment_model.Ends.{Outcome}
use Rattle.life_runs.specs.of_segment_model.Record.{is_for}
use Rattle.life_runs.specs.of_segment_model.Slaves.{Datagram}
use Rattle.life_runs.specs.of_state_model.Accounts.{Account, Change, Duty, Progress, access_done, account_back, account_by, account_met}
use Rattle.life_runs.specs.of_master_hand.Spoken.{Asked}
use Rattle.life_runs.specs.of_master_side.Carried.{in_hand}
use Rattle.life_runs.specs.of_master_side.Shown.{DutyShows, OverShows}
use Rattle.life_runs.specs.of_link_mails.Body.{Body}
use Rattle.master_node.specs.Backtold.{change_kind, changes_told}
use Rattle.master_node.specs.Besides.{met_where}
use Rattle.master_node.specs.declared.event.Event.{Event}
use Rattle.master_node.specs.declared.post.Work.{Work}

-- THE ACCOUNT behind a frame that came back: the change of state in hand goes on, or it is over and the newest of those that are
pub data Went (over : List (Change Reply)) : Option Duty → List (Change Reply) → Type 0 where
  on : (duty : Duty) → Went over (Some duty) over
  ends : (c : Change Reply) → Went over None (over ++ c ∷ [])

module _ (station frame : ℕ) where
  -- without one nothing changes
  pub none_back : (a : Account Asked Reply) (ds : List (Datagram Body)) → a.hand ≡ None → account_back station frame a ds ≡ a
  none_back a [] e = refl
  none_back a (d ∷ ds) e = ap (λ (h : Option Duty). account_back station frame (account_met station frame a h d) ds) e ∙ none_back a ds e

  abbrev WentTo : List (Change Reply) → Account Asked Reply → Type 0
  WentTo over b = Went over b.hand b.over

  pub hand_back : (a : Account Asked Reply) (ds : List (Datagram Body)) (duty : Duty) → a.hand ≡ Some duty → WentTo a.over (account_back station frame a ds)
  hand_back a [] duty e = subst (λ z. Went a.over z a.over) (sym e) (Went.on duty)
  hand_back a (d ∷ ds) duty e =
      subst (λ (h : Option Duty). WentTo a.over (account_back station frame (account_met station frame a h d) ds)) (sym e)
      (step (is_for station d.address && not (d.counter == 0)) (access_done duty.target duty.stage d.access d.found) (λ b k f. hand_back b ds k f))
    where
      step : (met : Bool) (p : Progress Reply) → ((b : Account Asked Reply) (k : Duty) → b.hand ≡ Some k → WentTo b.over (account_back station frame b ds)) →
          WentTo a.over (account_back station frame (if met then account_by frame a duty p else a) ds)
      step true (Progress.On stage) h = h (record a { hand = Some (record duty { stage = stage }) }) (record duty { stage = stage }) refl
      step true (Progress.Over answer) h =
          let c : Change Reply = record { target = duty.target; frame = duty.frame; answer = answer; completed = frame } in
          let b : Account Asked Reply = record a { hand = None; over = a.over ++ c ∷ [] } in
          subst (λ (z : Account Asked Reply). WentTo a.over z) (sym (none_back b ds refl)) (Went.ends c)
      step false p h = h a duty e

-- of those that were over before nothing more is told, of the newest its answer
pub none_more : (place : ℕ) (cs : List (Change Reply)) → changes_told place (length cs) cs ≡ []
none_more place [] = refl
none_more place (c ∷ cs) = none_more place cs

one_more : (place : ℕ) (cs : List (Change Reply)) (c : Change Reply) → changes_told place (length cs) (cs ++ c ∷ []) ≡ Event.Answered place (change_kind c.answer) ∷ []
one_more place [] c = refl
one_more place (b ∷ cs) c = one_more place cs c

-- the newest
abbrev newest_of : List (Change Reply) → Option (Change Reply)
newest_of [] = None
newest_of (c ∷ []) = Some c
newest_of (c ∷ b ∷ cs) = newest_of (b ∷ cs)

newest_is : (cs : List (Change Reply)) (c : Change Reply) → newest_of (cs ++ c ∷ []) ≡ Some c
newest_is [] c = refl
newest_is (b ∷ []) c = refl
newest_is (b ∷ a ∷ cs) c = newest_is (a ∷ cs) c

same_newest : (xs ys : List (Change Reply)) (b c : Change Reply) → xs ++ b ∷ [] ≡ ys ++ c ∷ [] → b ≡ c
same_newest xs ys b c e = (let both : Some b ≡ Some c = sym (newest_is xs b) ∙ ap newest_of e ∙ newest_is ys c in cc)

pub no_newest : (ys : List (Change Reply)) (c : Change Reply) → ys ++ c ∷ [] ≡ [] → ⊥
no_newest ys c e = absurd (let bad : Some c ≡ None = sym (newest_is ys c) ∙ ap newest_of e in cc)

-- WHAT ITS POST HAS IN HAND THEN
abbrev pub StateHas : Option Duty → Work → Type 0
StateHas (Some duty) work = work ≡ Work.State
StateHas None work = work ≡ Work.Nothing

pub record StateTells (place : ℕ) (over new : List (Change Reply)) (hand : Option Duty) (duty : Option Met) : Type 0 where
  pub is : (met_where place duty Work.State).told ≡ changes_told place (length over) new
  pub has : StateHas hand (met_where place duty Work.State).work

pub state_tells : (place : ℕ) (over new : List (Change Reply)) (hand : Option Duty) (duty : Option Met) → Went over hand new → DutyShows (in_hand duty) hand → OverShows duty new → StateTells place over new hand duty
state_tells place over _ _ None (Went.on k) d o = absurd (let bad : Some k ≡ None = d in cc)
state_tells place over _ _ (Some (Met.On duty)) (Went.on k) d o = record { is = sym (none_more place over); has = refl }
state_tells place over _ _ (Some Met.Reached) (Went.on k) d o = absurd (let bad : Some k ≡ None = d in cc)
state_tells place over _ _ (Some (Met.Refused code)) (Went.on k) d o = absurd (let bad : Some k ≡ None = d in cc)
state_tells place over _ _ None (Went.ends c) d o = absurd (no_newest over c o)
state_tells place over _ _ (Some (Met.On duty)) (Went.ends c) d o = absurd (let bad = d.1 in cc)
state_tells place over _ _ (Some Met.Reached) (Went.ends c) d o =
    let same : c.answer ≡ Outcome.Reached = ap (λ z. z.answer) (same_newest over o.front c o.change o.is) ∙ o.answered in
    record { is = sym (one_more place over c ∙ ap (λ z. Event.Answered place (change_kind z) ∷ []) same); has = refl }
state_tells place over _ _ (Some (Met.Refused code)) (Went.ends c) d o =
    let same : c.answer ≡ Outcome.Refused code = ap (λ z. z.answer) (same_newest over o.front c o.change o.is) ∙ o.answered in
    record { is = sym (one_more place over c ∙ ap (λ z. Event.Answered place (change_kind z) ∷ []) same); has = refl }
