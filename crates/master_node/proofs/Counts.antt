-- HOW OFTEN EACH SLAVE WAS GIVEN UP, over a run: it goes with how its master stands to it; and no more of a script came into hand than it has.
use Rattle.std.proofs.Common.{◌≡◌, ◌≤◌, ℕ, suc, ◌+◌, Bool, true, false, Option, Some, None, List, [], ◌∷◌, map, length, length-append, refl, ap, sym, ◌∙◌, subst, arith}
use Rattle.std.specs.Prelude.{◌&&◌, nat_lt, if◌then◌else◌}
use Rattle.std.proofs.lemmas.Bool.{ltb-true, ltb-false}
use Rattle.std.proofs.lemmas.Option.{slice_get_within}
use Rattle.life_runs.specs.of_datagrams.Datagram as Raw
use Rattle.life_runs.specs.of_exchange_model.Exchange.{Speech}
use Rattle.life_runs.specs.of_frame_view.View.{Lens}
use Rattle.life_runs.specs.of_frame_view.Seen.{seen}
use Rattle.life_runs.specs.of_frame_view.Frames.{Share, FrameFor}
use Rattle.life_runs.specs.of_frame_view.Shares.{Lived, came_at, given_where}
use Rattle.life_runs.specs.of_life_model.Lives.{Spot, Life, Stand, Opening, life_next, life_back, life_lost, opening_back, shows_clear, last_step, is_shown, clears, opens, reopens, reopens_at, reopening, returns_to_init, era_back}
use Rattle.life_runs.specs.First.{leads_from, first_leads}
use Rattle.life_runs.specs.Led.{Exchanged, Leads, Turn, Comes, IsTurn, AllTurn, IsLed, is_passed, speech_at, life_behind, led_behind, gives_up_at}
use Rattle.life_runs.specs.of_link_mails.Body.{Body}
use Rattle.life_runs.specs.of_master_duty.Reply.{Reply}
use Rattle.life_runs.specs.of_master_hand.Spoken.{Asked, acknowledged, is_followed}
use Rattle.life_runs.specs.of_segment_model.Record.{News}
use Rattle.life_runs.specs.of_segment_model.Slaves.{Datagram, Found}
use Rattle.life_runs.specs.of_segment_plan.declared.plan.Scenario.{Scenario}
use Rattle.life_runs.specs.of_segment_plan.declared.service.Service as Plan
use Rattle.life_runs.specs.of_segment_plan.declared.slave.SlaveSpec.{SlaveSpec}
use Rattle.life_runs.specs.of_segment_ring.declared.wire.Fate.{Fate}
use Rattle.life_runs.specs.of_segment_ring.declared.wire.Fate.TheVariants.{Pass, Lost}
use Rattle.life_runs.specs.of_state_model.Accounts.{Duty, Stage, Pick}
use Rattle.master_node.specs.Wants.{gave_of, IsCounted, AllCounted, AllPlaced}

-- one of two
pub if_by : {T : Type 0} (P : T → Type 0) (b : Bool) (x y : T) → P x → P y → P (if b then x else y)
if_by P true x y p q = p
if_by P false x y p q = q

-- BEFORE A FRAME nothing of this changes
module _ {M Q R : Type 0} (x : Speech M Q R) (ack : Q → Bool) (more : M → Bool) (passed : Q → Bool) (made : ℕ) (l : Life M Q R) (pick : Pick Q) where
  pub next_gave : (stand : Stand) → (life_next x ack more passed made l stand pick).gave ≡ l.gave
  next_gave (Stand.Opens o) = refl
  next_gave Stand.Open = refl
  next_gave Stand.Gone = refl

  pub next_stand : (stand : Stand) → (life_next x ack more passed made l stand pick).stand ≡ l.stand
  next_stand (Stand.Opens o) = refl
  next_stand Stand.Open = refl
  next_stand Stand.Gone = refl

-- a life is counted
abbrev pub Counted : {M Q R : Type 0} → ℕ → Life M Q R → Type 0
Counted recover l = IsCounted recover l.stand (length l.gave)

-- an open one
few_open : (recover : ℕ) (stand : Stand) (n : ℕ) (o : Opening) → stand ≡ Stand.Opens o → IsCounted recover stand n → n ≤ recover
few_open recover stand n o e h = let P : Stand → Type 0 = λ s. IsCounted recover s n in subst P e h

few_live : (recover : ℕ) (stand : Stand) (n : ℕ) → stand ≡ Stand.Open → IsCounted recover stand n → n ≤ recover
few_live recover stand n e h = let P : Stand → Type 0 = λ s. IsCounted recover s n in subst P e h

-- AN ACCESS OF AN OPENING
module _ {M Q R : Type 0} (recover frame : ℕ) (l : Life M Q R) (o : Opening) (h : Counted recover l) (few : length l.gave ≤ recover) where
  abbrev P : Life M Q R → Type 0
  P m = Counted recover m

  pub opening_counted : (done : Bool) (found : Option Found) → Counted recover (opening_back frame l o done found)
  opening_counted done found =
      if_by P (shows_clear o) _ _
      (if_by P (done && is_shown 1 found) (clears frame l o) l few h)
      (if_by P (Rattle.std.specs.Prelude.◌==◌ o.step (last_step o)) _ _
      (if_by P (done && is_shown o.state found) (opens frame l) l few h)
      few)

module _ {M Q R : Type 0} (frame : ℕ) (l : Life M Q R) (o : Opening) where
  pub opening_gave : (done : Bool) (found : Option Found) → (opening_back frame l o done found).gave ≡ l.gave
  opening_gave done found =
      let G : Life M Q R → Type 0 = λ m. m.gave ≡ l.gave in
      if_by G (shows_clear o) _ _
      (if_by G (done && is_shown 1 found) (clears frame l o) l refl refl)
      (if_by G (Rattle.std.specs.Prelude.◌==◌ o.step (last_step o)) _ _
      (if_by G (done && is_shown o.state found) (opens frame l) l refl refl)
      refl)

-- A STATE SERVICE that reopens
reopens_at_counted : {M Q R : Type 0} (recover : ℕ) (l : Life M Q R) (target : ℕ) (stage : Stage) → Counted recover l → length l.gave ≤ recover → Counted recover (reopens_at l target stage)
reopens_at_counted recover l target Stage.Drains h few = h
reopens_at_counted {M} {Q} {R} recover l target (Stage.Goes phase) h few =
    let P : Life M Q R → Type 0 = λ m. Counted recover m in if_by P (returns_to_init target) _ l few h

reopens_counted : {M Q R : Type 0} (recover : ℕ) (l : Life M Q R) (duty : Option Duty) → Counted recover l → length l.gave ≤ recover → Counted recover (reopens l duty)
reopens_counted recover l None h few = h
reopens_counted recover l (Some duty) h few = reopens_at_counted recover l duty.target duty.stage h few

reopens_at_gave : {M Q R : Type 0} (l : Life M Q R) (target : ℕ) (stage : Stage) → (reopens_at l target stage).gave ≡ l.gave
reopens_at_gave l target Stage.Drains = refl
reopens_at_gave {M} {Q} {R} l target (Stage.Goes phase) =
    let G : Life M Q R → Type 0 = λ m. m.gave ≡ l.gave in if_by G (returns_to_init target) _ l refl refl

reopens_gave : {M Q R : Type 0} (l : Life M Q R) (duty : Option Duty) → (reopens l duty).gave ≡ l.gave
reopens_gave l None = refl
reopens_gave l (Some duty) = reopens_at_gave l duty.target duty.stage

-- A FRAME COMES BACK, or is lost
module _ {M Q R : Type 0} (x : Speech M Q R) (ack : Q → Bool) (more : M → Bool) (passed : Q → Bool) (recover : ℕ) (spot : Spot) (l : Life M Q R) where
  pub back_counted : (frame : ℕ) (ns : List (News M)) (back : List (Datagram M)) (came : Option (Bool × Option Found)) (stand : Stand) → l.stand ≡ stand → Counted recover l → Counted recover (life_back x ack more passed frame spot ns back came l stand)
  back_counted frame ns back None (Stand.Opens o) e h = h
  back_counted frame ns back (Some came) (Stand.Opens o) e h = opening_counted recover frame l o h (few_open recover l.stand (length l.gave) o e h) came.0 came.1
  back_counted frame ns back came Stand.Open e h =
      let era = era_back x ack more passed spot.station frame ns back l.era in
      reopens_counted recover (record l { era = era }) era.account.hand h (few_live recover l.stand (length l.gave) e h)
  back_counted frame ns back came Stand.Gone e h = h

  pub back_gave : (frame : ℕ) (ns : List (News M)) (back : List (Datagram M)) (came : Option (Bool × Option Found)) (stand : Stand) → (life_back x ack more passed frame spot ns back came l stand).gave ≡ l.gave
  back_gave frame ns back None (Stand.Opens o) = refl
  back_gave frame ns back (Some came) (Stand.Opens o) = opening_gave frame l o came.0 came.1
  back_gave frame ns back came Stand.Open =
      let era = era_back x ack more passed spot.station frame ns back l.era in
      reopens_gave (record l { era = era }) era.account.hand
  back_gave frame ns back came Stand.Gone = refl

  pub lost_gave : (ns : List (News M)) (sent : List (Datagram M)) (stand : Stand) → (life_lost x ack more passed spot ns sent l stand).gave ≡ l.gave
  lost_gave ns sent (Stand.Opens o) = refl
  lost_gave ns sent Stand.Open = refl
  lost_gave ns sent Stand.Gone = refl

  pub lost_stand : (ns : List (News M)) (sent : List (Datagram M)) (stand : Stand) → (life_lost x ack more passed spot ns sent l stand).stand ≡ l.stand
  lost_stand ns sent (Stand.Opens o) = refl
  lost_stand ns sent Stand.Open = refl
  lost_stand ns sent Stand.Gone = refl

-- A GIVE-UP
given_counted : (recover n m : ℕ) (start : ℕ) → n ≤ recover → m ≡ n + 1 → IsCounted recover (if nat_lt n recover then reopening start false else Stand.Gone) m
given_counted recover n m start few e = by (nat_lt n recover) refl
  where
    by : (b : Bool) → nat_lt n recover ≡ b → IsCounted recover (if b then reopening start false else Stand.Gone) m
    by true lt = let below = ltb-true n recover lt in omega (arith, below, e)
    by false ge = let over = ltb-false n recover ge in omega (arith, over, few, e)

-- no more came into hand than the script has
pub one_placed : (room : ℕ) (script : List Plan.Service) (n : ℕ) (b : Option (Rattle.life_runs.specs.of_state_model.Stated.Service Asked)) (k : ℕ) → Comes room script n b k → n ≤ length script → k ≤ length script
one_placed room script n _ _ Comes.none few = few
one_placed room script n _ _ (Comes.mails s q at asked) few = let inside = slice_get_within script n s at in omega (arith, inside)
one_placed room script n _ _ (Comes.state target at) few = let inside = slice_get_within script n (Plan.Service.State target) at in omega (arith, inside)
one_placed room script n _ _ (Comes.packet octets frame) few = few

module _ (lens : ℕ → Lens) (recover retry : ℕ) (gives : Bool) (made : ℕ) (f : Exchanged) where
  -- the frame has nothing of one that was given up for good
  not_under : (spot : Spot) (stand : Stand) (share : Share) (ds : List Raw.Datagram) → stand ≡ Stand.Gone → FrameFor lens spot stand share ds → share.under ≡ false
  not_under spot _ share ds e (FrameFor.none bare others) = bare
  not_under spot stand share ds e (FrameFor.one under d one gram) = absurd (subst (λ (s : Stand). Rattle.life_runs.specs.of_frame_view.Frames.GramFor lens spot s d) e gram)

  few_by : (stand : Stand) (n : ℕ) (share : Share) (spot : Spot) (ds : List Raw.Datagram) → FrameFor lens spot stand share ds → share.under ≡ true → IsCounted recover stand n → n ≤ recover
  few_by (Stand.Opens o) n share spot ds has under h = h
  few_by Stand.Open n share spot ds has under h = h
  few_by Stand.Gone n share spot ds has under h = absurd (let bare = not_under spot Stand.Gone share ds refl has in cc)

  pub given_by : (l : Lived Asked Reply) (share : Share) (ds : List Raw.Datagram) (m : Life Body Asked Reply) → FrameFor lens l.spot l.life.stand share ds → Counted recover l.life → m.stand ≡ l.life.stand → m.gave ≡ l.life.gave →
      (b under : Bool) → under ≡ share.under → Counted recover (given_where (b && under) recover l.spot made m)
  given_by l share ds m has h s g true true u =
      let few : length m.gave ≤ recover = subst (λ (n : List ℕ). length n ≤ recover) (sym g) (few_by l.life.stand (length l.life.gave) share l.spot ds has (sym u) h) in
      given_counted recover (length m.gave) _ l.spot.start few (length-append m.gave (made ∷ []))
  given_by l share ds m has h s g true false u = subst (λ (st : Stand). IsCounted recover st (length m.gave)) (sym s) (subst (λ (n : List ℕ). IsCounted recover l.life.stand (length n)) (sym g) h)
  given_by l share ds m has h s g false under u = subst (λ (st : Stand). IsCounted recover st (length m.gave)) (sym s) (subst (λ (n : List ℕ). IsCounted recover l.life.stand (length n)) (sym g) h)

  behind_counted : (l : Lived Asked Reply) (share : Share) (ds : List Raw.Datagram) → FrameFor lens l.spot l.life.stand share ds → Counted recover l.life → (fate : Fate) → Counted recover (life_behind lens recover retry gives made f fate l share).life
  behind_counted l share ds has h Pass = back_counted (speech_at lens l.spot) acknowledged is_followed is_passed recover l.spot l.life made [] (seen lens f.back) (came_at share.under share.at (seen lens f.back)) l.life.stand refl h
  behind_counted l share ds has h (Lost after) =
      given_by l share ds (life_lost (speech_at lens l.spot) acknowledged is_followed is_passed l.spot [] (seen lens f.sent) l.life l.life.stand) has h
      (lost_stand (speech_at lens l.spot) acknowledged is_followed is_passed recover l.spot l.life [] (seen lens f.sent) l.life.stand)
      (lost_gave (speech_at lens l.spot) acknowledged is_followed is_passed recover l.spot l.life [] (seen lens f.sent) l.life.stand) gives share.under refl

  module _ (ds : List Raw.Datagram) where
    module _ (a : Leads) (u : Turn) (t : IsTurn lens made ds a u) where
      pub turn_gave : u.lived.life.gave ≡ gave_of a
      turn_gave = ap (λ (l : Life Body Asked Reply). l.gave) t.next.life ∙ next_gave (speech_at lens a.lived.spot) acknowledged is_followed is_passed made a.lived.life t.next.pick a.lived.life.stand

      turn_stand : u.lived.life.stand ≡ a.lived.life.stand
      turn_stand = ap (λ (l : Life Body Asked Reply). l.stand) t.next.life ∙ next_stand (speech_at lens a.lived.spot) acknowledged is_followed is_passed made a.lived.life t.next.pick a.lived.life.stand

      one_counted : Counted recover a.lived.life → Counted recover (led_behind lens recover retry gives made f u).lived.life
      one_counted h =
          behind_counted u.lived u.share ds t.asked.has
          (subst (λ (st : Stand). IsCounted recover st (length u.lived.life.gave)) (sym turn_stand) (subst (λ (n : List ℕ). IsCounted recover a.lived.life.stand (length n)) (sym turn_gave) h)) f.fate

    all_counted : (as' : List Leads) (us : List Turn) → AllTurn lens made ds as' us → AllCounted recover as' → AllCounted recover (map (led_behind lens recover retry gives made f) us)
    all_counted [] [] t h = tt
    all_counted [] (u ∷ us) t h = absurd t
    all_counted (a ∷ as') [] t h = absurd t
    all_counted (a ∷ as') (u ∷ us) t h = (one_counted a u t.0 h.0, all_counted as' us t.1 h.1)

    all_placed : (as' : List Leads) (us : List Turn) → AllTurn lens made ds as' us → AllPlaced as' → AllPlaced (map (led_behind lens recover retry gives made f) us)
    all_placed [] [] t h = tt
    all_placed [] (u ∷ us) t h = absurd t
    all_placed (a ∷ as') [] t h = absurd t
    all_placed (a ∷ as') (u ∷ us) t h = (
      subst (λ (s : List Plan.Service). u.number ≤ length s) (sym t.0.script) (one_placed (lens a.lived.spot.station).out a.script a.number u.begun u.number t.0.comes h.0),
      all_placed as' us t.1 h.1,
    )

-- BEFORE THE FIRST FRAME
first_counted : (recover : ℕ) (rows : List (ℕ × Plan.Service)) (place : ℕ) (ss : List SlaveSpec) → AllCounted recover (leads_from rows place ss)
first_counted recover rows place [] = tt
first_counted recover rows place (s ∷ ss) = (omega arith, first_counted recover rows (suc place) ss)

first_placed : (rows : List (ℕ × Plan.Service)) (place : ℕ) (ss : List SlaveSpec) → AllPlaced (leads_from rows place ss)
first_placed rows place [] = tt
first_placed rows place (s ∷ ss) = (omega arith, first_placed rows (suc place) ss)

-- BEHIND ALL FRAMES
module _ (lens : ℕ → Lens) (plan : Scenario) (retry : ℕ) where
  pub counted : (fs : List Exchanged) (missed : ℕ) (as' : List Leads) → IsLed lens plan.recover retry (first_leads plan) fs missed as' → AllCounted plan.recover as'
  counted _ _ _ IsLed.start = first_counted plan.recover plan.services 0 plan.slaves
  counted _ _ _ (IsLed.on fs missed as' f us l y) = all_counted lens plan.recover retry (gives_up_at lens plan.recover retry missed) (length fs) f y.datagrams as' us y.each (counted fs missed as' l)

  pub placed : (fs : List Exchanged) (missed : ℕ) (as' : List Leads) → IsLed lens plan.recover retry (first_leads plan) fs missed as' → AllPlaced as'
  placed _ _ _ IsLed.start = first_placed plan.services 0 plan.slaves
  placed _ _ _ (IsLed.on fs missed as' f us l y) = all_placed lens plan.recover retry (gives_up_at lens plan.recover retry missed) (length fs) f y.datagrams as' us y.each (placed fs missed as' l)
