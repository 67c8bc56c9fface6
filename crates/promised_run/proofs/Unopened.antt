-- IN AN EPOCH THAT WASN'T OPENED nothing came into hand.
use Rattle.std.proofs.Common.{◌≡◌, ℕ, Bool, true, false, Option, Some, None, List, [], ◌∷◌, ◌++◌, map, length, refl, ap, sym, ◌∙◌, subst}
use Rattle.std.specs.Prelude.{◌==◌, ◌&&◌, is_some, if◌then◌else◌, ⊤}
use Rattle.run_promises.specs.of_datagrams.Datagram as Raw
use Rattle.run_promises.specs.of_exchange_model.Exchange.{Speech}
use Rattle.seen_slaves.specs.of_frame_view.View.{Lens}
use Rattle.seen_slaves.specs.of_frame_view.Seen.{seen}
use Rattle.seen_slaves.specs.of_frame_view.Frames.{Share}
use Rattle.seen_slaves.specs.of_frame_view.Shares.{Lived, came_at, given_where}
use Rattle.run_promises.specs.of_life_model.Lives.{Spot, Era, Life, Stand, Opening, life_next, life_back, life_lost, era_back, opening_back, shows_clear, is_shown, last_step, clears, opens, steps_on, reopens, reopens_at, reopening, opens_state, returns_to_init}
use Rattle.run_promises.specs.of_life_model.Own.{own}
use Rattle.run_promises.specs.of_life_runs.First.{first_leads, leads_from}
use Rattle.run_promises.specs.of_life_runs.Led.{Exchanged, Leads, Turn, AllTurn, IsLed, is_passed, speech_at, life_behind, led_behind, gives_up_at}
use Rattle.run_promises.specs.of_link_mails.Body.{Body}
use Rattle.seen_slaves.specs.of_master_duty.Reply.{Reply}
use Rattle.seen_slaves.specs.of_master_hand.Spoken.{Asked, acknowledged, is_followed}
use Rattle.run_promises.specs.of_segment_model.Record.{News}
use Rattle.run_promises.specs.of_segment_model.Slaves.{Datagram, Found}
use Rattle.run_promises.specs.of_segment_plan.declared.plan.Scenario.{Scenario}
use Rattle.run_promises.specs.of_segment_plan.declared.service.Service as Plan
use Rattle.run_promises.specs.of_segment_plan.declared.slave.SlaveSpec.{SlaveSpec}
use Rattle.run_promises.specs.of_segment_ring.declared.wire.Fate.{Fate}
use Rattle.run_promises.specs.of_segment_ring.declared.wire.Fate.TheVariants.{Pass, Lost}
use Rattle.run_promises.specs.of_state_model.Accounts.{Duty, Stage, Pick}
use Rattle.run_promises.proofs.of_state_model.Completed.{started_back}

abbrev pub NothingBefore : Era Body Asked Reply → Type 0
NothingBefore e = e.opened ≡ None → e.account.started ≡ []

abbrev pub AllNothing : List (Era Body Asked Reply) → Type 0
AllNothing [] = ⊤
AllNothing (e ∷ es) = NothingBefore e × AllNothing es

pub record Opened (l : Life Body Asked Reply) : Type 0 where
  pub past : AllNothing l.past
  pub era : NothingBefore l.era
  pub up : l.stand ≡ Stand.Open → is_some l.era.opened ≡ true

nothing_more : (es : List (Era Body Asked Reply)) (e : Era Body Asked Reply) → AllNothing es → NothingBefore e → AllNothing (es ++ e ∷ [])
nothing_more [] e a n = (n, tt)
nothing_more (d ∷ es) e a n = (a.0, nothing_more es e a.1 n)

not_none : {T P : Type 0} (o : Option T) → is_some o ≡ true → o ≡ None → P
not_none o s e = absurd (let bad : true ≡ false = sym s ∙ ap is_some e in cc)

-- AN OPENING
opens_so : (frame : ℕ) (l : Life Body Asked Reply) (o : Opening) (done : Bool) (found : Option Found) → l.stand ≡ Stand.Opens o → Opened l → Opened (opening_back frame l o done found)
opens_so frame l o done found stands h = go (shows_clear o) (done && is_shown 1 found) (o.step == last_step o) (done && is_shown o.state found)
  where
    go : (shows seen last there : Bool) → Opened (if shows then (if seen then clears frame l o else l) else if last then (if there then opens frame l else l) else steps_on l o)
    go true true last there = record { past = nothing_more l.past l.era h.past h.era; era = λ e. refl; up = λ e. absurd (cc) }
    go true false last there = h
    go false seen true true = record { past = h.past; era = λ e. absurd (cc); up = λ e. refl }
    go false seen true false = h
    go false seen false there = record { past = h.past; era = h.era; up = λ e. absurd (cc) }

reopens_so : (l : Life Body Asked Reply) (hand : Option Duty) → Opened l → Opened (reopens l hand)
reopens_so l None h = h
reopens_so l (Some duty) h = go duty.stage
  where
    by : (b : Bool) → Opened (if b then record l { stand = reopening (opens_state duty.target) true } else l)
    by true = record { past = h.past; era = h.era; up = λ e. absurd (cc) }
    by false = h

    go : (stage : Stage) → Opened (reopens_at l duty.target stage)
    go Stage.Drains = h
    go (Stage.Goes phase) = by (returns_to_init duty.target)

module _ (x : Speech Body Asked Reply) (frame : ℕ) (l : Life Body Asked Reply) where
  next_so : (stand : Stand) (pick : Pick Asked) → l.stand ≡ stand → Opened l → Opened (life_next x acknowledged is_followed is_passed frame l stand pick)
  next_so (Stand.Opens o) pick e h = h
  next_so Stand.Open pick e h = record { past = h.past; era = λ n. not_none l.era.opened (h.up e) n; up = h.up }
  next_so Stand.Gone pick e h = h

  back_so : (spot : Spot) (news : List (News Body)) (back : List (Datagram Body)) (came : Option (Bool × Option Found)) (stand : Stand) → l.stand ≡ stand → Opened l → Opened (life_back x acknowledged is_followed is_passed frame spot news back came l stand)
  back_so spot news back None (Stand.Opens o) e h = h
  back_so spot news back (Some came) (Stand.Opens o) e h = opens_so frame l o came.0 came.1 e h
  back_so spot news back came Stand.Open e h =
      let era = era_back x acknowledged is_followed is_passed spot.station frame news back l.era in
      reopens_so (record l { era = era }) era.account.hand (record { past = h.past; era = λ n. started_back spot.station frame l.era.account (own spot.station back) ∙ h.era n; up = h.up })
  back_so spot news back came Stand.Gone e h = h

  lost_so : (spot : Spot) (news : List (News Body)) (sent : List (Datagram Body)) (stand : Stand) → Opened l → Opened (life_lost x acknowledged is_followed is_passed spot news sent l stand)
  lost_so spot news sent (Stand.Opens o) h = h
  lost_so spot news sent Stand.Open h = record { past = h.past; era = h.era; up = h.up }
  lost_so spot news sent Stand.Gone h = h

given_so : (b : Bool) (recover : ℕ) (spot : Spot) (frame : ℕ) (l : Life Body Asked Reply) → Opened l → Opened (given_where b recover spot frame l)
given_so false recover spot frame l h = h
given_so true recover spot frame l h = record { past = h.past; era = h.era; up = by (Rattle.std.specs.Prelude.nat_lt (length l.gave) recover) }
  where
    by : (b : Bool) → (if b then reopening spot.start false else Stand.Gone) ≡ Stand.Open → is_some l.era.opened ≡ true
    by true e = absurd (cc)
    by false e = absurd (cc)

-- OVER A RUN
abbrev pub AllOpened : List Leads → Type 0
AllOpened [] = ⊤
AllOpened (a ∷ as') = Opened a.lived.life × AllOpened as'

module _ (lens : ℕ → Lens) (recover retry : ℕ) (gives : Bool) (made : ℕ) (f : Exchanged) where
  behind_so : (l : Lived Asked Reply) (share : Share) (fate : Fate) → Opened l.life → Opened (life_behind lens recover retry gives made f fate l share).life
  behind_so l share Pass h = back_so (speech_at lens l.spot) made l.life l.spot [] (seen lens f.back) (came_at share.under share.at (seen lens f.back)) l.life.stand refl h
  behind_so l share (Lost after) h = given_so (gives && share.under) recover l.spot made _ (lost_so (speech_at lens l.spot) made l.life l.spot [] (seen lens f.sent) l.life.stand h)

  all_so : (ds : List Raw.Datagram) (as' : List Leads) (us : List Turn) → AllTurn lens made ds as' us → AllOpened as' → AllOpened (map (led_behind lens recover retry gives made f) us)
  all_so ds [] [] t h = tt
  all_so ds [] (u ∷ us) t h = absurd t
  all_so ds (a ∷ as') [] t h = absurd t
  all_so ds (a ∷ as') (u ∷ us) t h = (
    behind_so u.lived u.share f.fate (subst (λ (m : Life Body Asked Reply). Opened m) (sym t.0.next.life) (next_so (speech_at lens a.lived.spot) made a.lived.life a.lived.life.stand t.0.next.pick refl h.0)),
    all_so ds as' us t.1 h.1,
  )

first_so : (rows : List (ℕ × Plan.Service)) (place : ℕ) (ss : List SlaveSpec) → AllOpened (leads_from rows place ss)
first_so rows place [] = tt
first_so rows place (s ∷ ss) = (record { past = tt; era = λ e. refl; up = λ e. absurd (cc) }, first_so rows _ ss)

module _ (lens : ℕ → Lens) (plan : Scenario) (retry : ℕ) where
  pub all_opened : (fs : List Exchanged) (missed : ℕ) (as' : List Leads) → IsLed lens plan.recover retry (first_leads plan) fs missed as' → AllOpened as'
  all_opened _ _ _ IsLed.start = first_so plan.services 0 plan.slaves
  all_opened _ _ _ (IsLed.on fs missed as' f us l y) = all_so lens plan.recover retry (gives_up_at lens plan.recover retry missed) (length fs) f y.datagrams as' us y.each (all_opened fs missed as' l)
