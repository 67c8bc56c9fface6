-- IN WHICH AL STATE EACH EPOCH OF A LIFE IS OPENED, over a run.
use Rattle.std.proofs.Common.{◌≡◌, ◌⊎◌, inl, inr, ℕ, suc, ◌≤◌, ◌<◌, Bool, true, false, Option, Some, None, List, [], ◌∷◌, ◌++◌, map, length, length-append, refl, ap, sym, ◌∙◌, subst, arith, append_assoc}
use Rattle.std.specs.Prelude.{◌==◌, ◌&&◌, nat_lt, if◌then◌else◌, ⊤}
use Rattle.std.specs.List.{All}
use Rattle.std.proofs.lemmas.Bool.{lt-ltb}
use Rattle.std.proofs.lemmas.List.Elements.{All-nil, All-push, All-weaker}
use Rattle.master_tour.specs.of_datagrams.Datagram as Raw
use Rattle.master_hand.specs.of_exchange_model.Exchange.{Speech}
use Rattle.master_tour.specs.of_frame_view.View.{Lens}
use Rattle.master_tour.specs.of_frame_view.Seen.{seen}
use Rattle.master_tour.specs.of_frame_view.Shares.{Lived, IsNext, came_at, given_where, lived_back, lived_lost}
use Rattle.master_tour.specs.of_frame_view.Frames.{Share}
use Rattle.master_tour.specs.of_life_model.Lives.{Spot, Era, Stand, Opening, life_next, life_back, life_lost, era_next, era_back, era_lost, new_era, new_life, opening_back, shows_clear, is_shown, last_step, clears, opens, steps_on, reopens, reopens_at, reopening, opens_state, returns_to_init}
use Rattle.life_runs.specs.First.{first_leads, leads_from}
use Rattle.life_runs.specs.Led.{Exchanged, Leads, Turn, AllTurn, IsLed, is_passed, speech_at, life_behind, led_behind, gives_up_at}
use Rattle.master_tour.specs.of_link_mails.Body.{Body}
use Rattle.master_tour.specs.of_master_duty.Reply.{Reply}
use Rattle.master_hand.specs.Spoken.{Asked, acknowledged, is_followed}
use Rattle.master_hand.specs.of_segment_model.Record.{News}
use Rattle.master_hand.specs.of_segment_model.Slaves.{Datagram, Found}
use Rattle.master_hand.specs.of_segment_plan.declared.plan.Scenario.{Scenario}
use Rattle.master_hand.specs.of_segment_plan.declared.service.Service as Plan
use Rattle.master_hand.specs.of_segment_plan.declared.slave.SlaveSpec.{SlaveSpec}
use Rattle.segment_ring.specs.declared.wire.Fate.{Fate}
use Rattle.segment_ring.specs.declared.wire.Fate.TheVariants.{Pass, Lost}
use Rattle.master_hand.specs.of_state_model.Accounts.{Duty, Stage, Pick}
use Rattle.life_runs.specs.Causes.{since, IsOwn, IsGivenUp}
use Rattle.life_runs.specs.Opened.{OpensStart, OpensBehind, OpensIn, AllOpenIn, EachOpensIn, AllOpenTheirs}
use Rattle.life_runs.specs.Spans.{is_leaving}
use Rattle.life_runs.proofs.Spans.{LifeOf, clear_leaves, cleared_stays, last_stays, steps_stay}

abbrev pub EraOf : Type 0
EraOf = Era Body Asked Reply

-- the slave wasn't given up since the epoch began
abbrev pub IsQuiet : List ℕ → EraOf → Type 0
IsQuiet gave e = All (λ g. g < since e.cleared) gave

-- A SLAVE THAT IS TO BE RETURNED TO INIT: a state service wants it, or a give-up does
pub record LeavesOwn (gave : List ℕ) (e : EraOf) (state : ℕ) : Type 0 where
  pub own : IsOwn e
  pub quiet : IsQuiet gave e
  pub opens : state ≡ opens_state own.duty.target

abbrev pub Leaves : ℕ → ℕ → List ℕ → EraOf → ℕ → Type 0
Leaves start n gave e state = LeavesOwn gave e state ⊎ OpensStart start gave e n state

-- WHERE A SLAVE STANDS: it leaves, or it wasn't given up since its epoch began
abbrev pub Leaving : ℕ → ℕ → List ℕ → EraOf → ℕ → Bool → Type 0
Leaving start n gave e state true = Leaves start n gave e state
Leaving start n gave e state false = IsQuiet gave e

abbrev pub Now : ℕ → ℕ → List ℕ → EraOf → Stand → Type 0
Now start n gave e (Stand.Opens o) = Leaving start n gave e o.state (is_leaving (Stand.Opens o))
Now start n gave e Stand.Open = IsQuiet gave e
Now start n gave e Stand.Gone = ⊤

-- these epochs began before this frame
abbrev pub AllBegan : ℕ → List EraOf → Type 0
AllBegan n [] = ⊤
AllBegan n (e ∷ es) = (since e.cleared ≤ n) × AllBegan n es

-- BEHIND SO MANY FRAMES: the states of all epochs
pub record Opened (start n : ℕ) (l : LifeOf) : Type 0 where
  pub epochs : EachOpensIn start l
  pub began : AllBegan n (l.past ++ l.era ∷ [])
  pub gave : All (λ g. g < n) l.gave
  pub now : Now start n l.gave l.era l.stand

-- EPOCHS A FRAME LATER
began_later : (n : ℕ) (es : List EraOf) → AllBegan n es → AllBegan (suc n) es
began_later n [] h = tt
began_later n (e ∷ es) h = ((let k = h.0 in omega (arith, k)), began_later n es h.1)

gave_later : (n : ℕ) (gave : List ℕ) → All (λ g. g < n) gave → All (λ g. g < suc n) gave
gave_later n gave h = All-weaker (λ g. g < n) (λ g. g < suc n) (λ g k. omega (arith, k)) gave h

given_later : (n : ℕ) (gave : List ℕ) (e : EraOf) → IsGivenUp gave e n → IsGivenUp gave e (suc n)
given_later n gave e h = let b = h.before in record { front = h.front; frame = h.frame; behind = h.behind; among = h.among; from = h.from; before = omega (arith, b) }

leaving_later : (start n : ℕ) (gave : List ℕ) (e : EraOf) (state : ℕ) (b : Bool) → Leaving start n gave e state b → Leaving start (suc n) gave e state b
leaving_later start n gave e state true (inl own) = inl own
leaving_later start n gave e state true (inr h) = inr (record { given = given_later n gave e h.given; opens = h.opens })
leaving_later start n gave e state false h = h

now_later : (start n : ℕ) (gave : List ℕ) (e : EraOf) (stand : Stand) → Now start n gave e stand → Now start (suc n) gave e stand
now_later start n gave e (Stand.Opens o) h = leaving_later start n gave e o.state (is_leaving (Stand.Opens o)) h
now_later start n gave e Stand.Open h = h
now_later start n gave e Stand.Gone h = tt

-- THE NEWEST goes on: it keeps when it began and what it opens
same_in : (start : ℕ) (gave : List ℕ) (before : Option EraOf) (d e : EraOf) → e.cleared ≡ d.cleared → e.state ≡ d.state → OpensIn start gave before d → OpensIn start gave before e
same_in start gave None d e c s h = s ∙ h
same_in start gave (Some b) d e c s h = subst (λ (u : Option ℕ). OpensBehind start gave b u e.state) (sym c) (subst (λ (z : ℕ). OpensBehind start gave b d.cleared z) (sym s) h)

all_same : (start : ℕ) (gave : List ℕ) (before : Option EraOf) (es : List EraOf) (d e : EraOf) → e.cleared ≡ d.cleared → e.state ≡ d.state → AllOpenIn start gave before (es ++ d ∷ []) → AllOpenIn start gave before (es ++ e ∷ [])
all_same start gave before [] d e c s h = (same_in start gave before d e c s h.0, tt)
all_same start gave before (b ∷ es) d e c s h = (h.0, all_same start gave (Some b) es d e c s h.1)

began_same : (n : ℕ) (es : List EraOf) (d e : EraOf) → e.cleared ≡ d.cleared → AllBegan n (es ++ d ∷ []) → AllBegan n (es ++ e ∷ [])
began_same n [] d e c h = (subst (λ (z : Option ℕ). since z ≤ n) (sym c) h.0, tt)
began_same n (b ∷ es) d e c h = (h.0, began_same n es d e c h.1)

-- ONE EPOCH MORE
one_more : (start : ℕ) (gave : List ℕ) (before : Option EraOf) (es : List EraOf) (d e : EraOf) → AllOpenIn start gave before (es ++ d ∷ []) → OpensIn start gave (Some d) e → AllOpenIn start gave before ((es ++ d ∷ []) ++ e ∷ [])
one_more start gave before [] d e h k = (h.0, (k, tt))
one_more start gave before (b ∷ es) d e h k = (h.0, one_more start gave (Some b) es d e h.1 k)

began_more : (n : ℕ) (es : List EraOf) (e : EraOf) → AllBegan n es → since e.cleared ≤ n → AllBegan n (es ++ e ∷ [])
began_more n [] e h k = (k, tt)
began_more n (b ∷ es) e h k = (h.0, began_more n es e h.1 k)

-- ONE GIVE-UP MORE, behind all that began
given_more : (gave : List ℕ) (g : ℕ) (e : EraOf) (until : ℕ) → IsGivenUp gave e until → IsGivenUp (gave ++ g ∷ []) e until
given_more gave g e until h = record {
  front = h.front;
  frame = h.frame;
  behind = h.behind ++ g ∷ [];
  among = ap (λ (k : List ℕ). k ++ g ∷ []) h.among ∙ append_assoc h.front (h.frame ∷ h.behind) (g ∷ []);
  from = h.from;
  before = h.before;
}

behind_more : (start : ℕ) (gave : List ℕ) (g : ℕ) (d : EraOf) (cleared : Option ℕ) (state : ℕ) → since cleared ≤ g → OpensBehind start gave d cleared state → OpensBehind start (gave ++ g ∷ []) d cleared state
behind_more start gave g d None state k h = absurd h
behind_more start gave g d (Some frame) state k (inl h) = inl (record { own = h.own; spared = All-push (λ i. (i < since d.cleared) ⊎ (frame ≤ i)) gave g h.spared (inr k); opens = h.opens })
behind_more start gave g d (Some frame) state k (inr h) = inr (record { given = given_more gave g d frame h.given; opens = h.opens })

in_more : (start : ℕ) (gave : List ℕ) (g : ℕ) (before : Option EraOf) (e : EraOf) → since e.cleared ≤ g → OpensIn start gave before e → OpensIn start (gave ++ g ∷ []) before e
in_more start gave g None e k h = h
in_more start gave g (Some d) e k h = behind_more start gave g d e.cleared e.state k h

all_more : (start : ℕ) (gave : List ℕ) (g : ℕ) (before : Option EraOf) (es : List EraOf) → AllBegan g es → AllOpenIn start gave before es → AllOpenIn start (gave ++ g ∷ []) before es
all_more start gave g before [] k h = tt
all_more start gave g before (e ∷ es) k h = (in_more start gave g before e k.0 h.0, all_more start gave g (Some e) es k.1 h.1)

-- the newest is the last
newest_began : (n : ℕ) (es : List EraOf) (e : EraOf) → AllBegan n (es ++ e ∷ []) → since e.cleared ≤ n
newest_began n [] e h = h.0
newest_began n (b ∷ es) e h = newest_began n es e h.1

-- a reopening leaves from its first access on
reopening_leaves : (state : ℕ) (own : Bool) → is_leaving (reopening state own) ≡ true
reopening_leaves state own = ap (λ (b : Bool). true && b) (lt-ltb 1 3 (omega arith))

-- A frame later
pub later : (start n : ℕ) (l : LifeOf) → Opened start n l → Opened start (suc n) l
later start n l h = record { epochs = h.epochs; began = began_later n (l.past ++ l.era ∷ []) h.began; gave = gave_later n l.gave h.gave; now = now_later start n l.gave l.era l.stand h.now }

module _ (start n : ℕ) (l : LifeOf) (h : Opened start n l) where
  -- with the newest as it goes on, and where the slave then stands
  with_so : (e : EraOf) (stand : Stand) → e.cleared ≡ l.era.cleared → e.state ≡ l.era.state → Now start n l.gave e stand → Opened start n (record l { era = e; stand = stand })
  with_so e stand c s now = record { epochs = all_same start l.gave None l.past l.era e c s h.epochs; began = began_same n l.past l.era e c h.began; gave = h.gave; now = now }

  -- AN OPENING
  at_opening : (o : Opening) → l.stand ≡ Stand.Opens o → Leaving start n l.gave l.era o.state (is_leaving (Stand.Opens o))
  at_opening o s = subst (λ (st : Stand). Now start n l.gave l.era st) s h.now

  -- what the epoch that ends leaves to the next
  leaves_so : (o : Opening) (b : Bool) → is_leaving (Stand.Opens o) ≡ b → b ≡ true → Leaving start n l.gave l.era o.state b → OpensIn start l.gave (Some l.era) (new_era {M = Body} {Q = Asked} {R = Reply} (Some n) o.state)
  leaves_so o false e t k = absurd (let no : false ≡ true = t in cc)
  leaves_so o true e t (inl k) = inl (record { own = k.own; spared = All-weaker (λ g. g < since l.era.cleared) (λ g. (g < since l.era.cleared) ⊎ (n ≤ g)) (λ g i. inl i) l.gave k.quiet; opens = k.opens })
  leaves_so o true e t (inr k) = inr k

  clears_so : (o : Opening) → l.stand ≡ Stand.Opens o → is_leaving (Stand.Opens o) ≡ true → Opened start (suc n) (clears n l o)
  clears_so o s e = record {
    epochs = one_more start l.gave None l.past l.era (new_era (Some n) o.state) h.epochs (leaves_so o (is_leaving (Stand.Opens o)) refl e (at_opening o s));
    began = began_more (suc n) (l.past ++ l.era ∷ []) (new_era (Some n) o.state) (began_later n (l.past ++ l.era ∷ []) h.began) (omega arith);
    gave = gave_later n l.gave h.gave;
    now = subst (λ (b : Bool). Leaving start (suc n) l.gave (new_era {M = Body} {Q = Asked} {R = Reply} (Some n) o.state) o.state b) (sym (cleared_stays o)) h.gave;
  }

  opens_so : (o : Opening) → l.stand ≡ Stand.Opens o → (o.step == last_step o) ≡ true → Opened start n (opens n l)
  opens_so o s e = with_so (record l.era { opened = Some n }) Stand.Open refl refl (subst (λ (b : Bool). Leaving start n l.gave l.era o.state b) (last_stays o e) (at_opening o s))

  steps_so : (o : Opening) → l.stand ≡ Stand.Opens o → shows_clear o ≡ false → Opened start n (steps_on l o)
  steps_so o s e =
      with_so l.era (Stand.Opens (record o { step = suc o.step })) refl refl (subst (λ (b : Bool). Leaving start n l.gave l.era o.state b) (sym (steps_stay o.again o.step e)) (at_opening o s))

  opening_so : (o : Opening) (done : Bool) (found : Option Found) → l.stand ≡ Stand.Opens o → Opened start (suc n) (opening_back n l o done found)
  opening_so o done found s = go (shows_clear o) (done && is_shown 1 found) (o.step == last_step o) (done && is_shown o.state found) refl refl
    where
      go : (shows seen last there : Bool) → shows_clear o ≡ shows → (o.step == last_step o) ≡ last → Opened start (suc n) (if shows then (if seen then clears n l o else l) else if last then (if there then opens n l else l) else steps_on l o)
      go true true last there e f = clears_so o s (clear_leaves o e)
      go true false last there e f = later start n l h
      go false seen true true e f = later start n (opens n l) (opens_so o s f)
      go false seen true false e f = later start n l h
      go false seen false there e f = later start n (steps_on l o) (steps_so o s e)

  -- AN OPEN SLAVE
  quiet_as : (e : EraOf) → e.cleared ≡ l.era.cleared → l.stand ≡ Stand.Open → IsQuiet l.gave e
  quiet_as e c s = subst (λ (z : Option ℕ). All (λ g. g < since z) l.gave) (sym c) (subst (λ (st : Stand). Now start n l.gave l.era st) s h.now)

  open_so : (e : EraOf) → e.cleared ≡ l.era.cleared → e.state ≡ l.era.state → l.stand ≡ Stand.Open → Opened start n (record l { era = e })
  open_so e c t s = with_so e l.stand c t (subst (λ (st : Stand). Now start n l.gave e st) (sym s) (quiet_as e c s))

  reopens_so : (e : EraOf) (hand : Option Duty) → e.cleared ≡ l.era.cleared → e.state ≡ l.era.state → l.stand ≡ Stand.Open → e.account.hand ≡ hand → Opened start n (reopens (record l { era = e }) hand)
  reopens_so e None c t s k = open_so e c t s
  reopens_so e (Some duty) c t s k = go duty.stage
    where
      by : (b : Bool) → returns_to_init duty.target ≡ b → Opened start n (if b then record (record l { era = e }) { stand = reopening (opens_state duty.target) true } else record l { era = e })
      by true r = with_so e (reopening (opens_state duty.target) true) c t
          (subst (λ (b : Bool). Leaving start n l.gave e (opens_state duty.target) b) (sym (reopening_leaves (opens_state duty.target) true))
          (inl (record { own = record { duty = duty; hand = k; returns = r }; quiet = quiet_as e c s; opens = refl })))
      by false r = open_so e c t s

      go : (stage : Stage) → Opened start n (reopens_at (record l { era = e }) duty.target stage)
      go Stage.Drains = open_so e c t s
      go (Stage.Goes phase) = by (returns_to_init duty.target) refl

  module _ (x : Speech Body Asked Reply) (spot : Spot) where
    -- BEHIND A FRAME THAT CAME BACK
    pub back_so : (news : List (News Body)) (back : List (Datagram Body)) (came : Option (Bool × Option Found)) (stand : Stand) → l.stand ≡ stand → Opened start (suc n) (life_back x acknowledged is_followed is_passed n spot news back came l stand)
    back_so news back None (Stand.Opens o) s = later start n l h
    back_so news back (Some came) (Stand.Opens o) s = opening_so o came.0 came.1 s
    back_so news back came Stand.Open s =
        let e = era_back x acknowledged is_followed is_passed spot.station n news back l.era in
        later start n (reopens (record l { era = e }) e.account.hand) (reopens_so e e.account.hand refl refl s refl)
    back_so news back came Stand.Gone s = later start n l h

    -- behind a lost one
    pub lost_so : (news : List (News Body)) (sent : List (Datagram Body)) (stand : Stand) → l.stand ≡ stand → Opened start n (life_lost x acknowledged is_followed is_passed spot news sent l stand)
    lost_so news sent (Stand.Opens o) s = h
    lost_so news sent Stand.Open s = open_so (era_lost x acknowledged is_followed is_passed spot.station news sent l.era) refl refl s
    lost_so news sent Stand.Gone s = h

    -- before a frame
    pub next_so : (pick : Pick Asked) (stand : Stand) → l.stand ≡ stand → Opened start n (life_next x acknowledged is_followed is_passed n l stand pick)
    next_so pick (Stand.Opens o) s = h
    next_so pick Stand.Open s = open_so (era_next x acknowledged is_followed is_passed n l.era pick) refl refl s
    next_so pick Stand.Gone s = h

-- A GIVE-UP
pub given_so : (b : Bool) (recover : ℕ) (spot : Spot) (n : ℕ) (l : LifeOf) → Opened spot.start n l → Opened spot.start (suc n) (given_where b recover spot n l)
given_so false recover spot n l h = later spot.start n l h
given_so true recover spot n l h = record {
  epochs = all_more spot.start l.gave n None (l.past ++ l.era ∷ []) h.began h.epochs;
  began = began_later n (l.past ++ l.era ∷ []) h.began;
  gave = All-push (λ g. g < suc n) l.gave n (gave_later n l.gave h.gave) (omega arith);
  now = go (nat_lt (length l.gave) recover);
}
  where
    go : (b : Bool) → Now spot.start (suc n) (l.gave ++ n ∷ []) l.era (if b then reopening spot.start false else Stand.Gone)
    go true = subst (λ (b : Bool). Leaving spot.start (suc n) (l.gave ++ n ∷ []) l.era spot.start b) (sym (reopening_leaves spot.start false))
        (inr (record { given = record { front = l.gave; frame = n; behind = []; among = refl; from = newest_began n l.past l.era h.began; before = omega arith }; opens = refl }))
    go false = tt

-- BEFORE THE FIRST FRAME
pub opened_first : (start : ℕ) → Opened start 0 (new_life {M = Body} {Q = Asked} {R = Reply} start)
opened_first start = record { epochs = (refl, tt); began = (omega arith, tt); gave = All-nil (λ g. g < 0); now = All-nil (λ g. g < 0) }

-- OF A SLAVE
abbrev pub IsOpened : ℕ → Lived Asked Reply → Type 0
IsOpened n l = Opened l.spot.start n l.life

module _ (x : Speech Body Asked Reply) (n : ℕ) where
  -- before a frame
  pub turned_so : (a b : Lived Asked Reply) → IsNext x acknowledged is_followed is_passed n a b → IsOpened n a → IsOpened n b
  turned_so a b y h =
      let next = subst (λ (m : LifeOf). Opened a.spot.start n m) (sym y.life) (next_so a.spot.start n a.life h x a.spot y.pick a.life.stand refl) in
      subst (λ (s : Spot). Opened s.start n b.life) (sym y.spot) next

  module _ (l : Lived Asked Reply) (share : Share) (news : List (News Body)) (h : IsOpened n l) where
    -- behind one that came back, and behind a lost one
    pub returned_so : (back : List (Datagram Body)) → IsOpened (suc n) (lived_back x acknowledged is_followed is_passed n back l share news)
    returned_so back = back_so l.spot.start n l.life h x l.spot news back (came_at share.under share.at back) l.life.stand refl

    pub missed_so : (gives : Bool) (recover : ℕ) (sent : List (Datagram Body)) → IsOpened (suc n) (lived_lost x acknowledged is_followed is_passed gives recover n sent l share news)
    missed_so gives recover sent = given_so (gives && share.under) recover l.spot n _ (lost_so l.spot.start n l.life h x l.spot news sent l.life.stand refl)

-- OVER A RUN
abbrev pub AllOpened : ℕ → List Leads → Type 0
AllOpened n [] = ⊤
AllOpened n (a ∷ as') = IsOpened n a.lived × AllOpened n as'

module _ (lens : ℕ → Lens) (recover retry : ℕ) (gives : Bool) (made : ℕ) (f : Exchanged) where
  behind_so : (u : Turn) (fate : Fate) → IsOpened made u.lived → IsOpened (suc made) (life_behind lens recover retry gives made f fate u.lived u.share)
  behind_so u Pass h = returned_so (speech_at lens u.lived.spot) made u.lived u.share [] h (seen lens f.back)
  behind_so u (Lost after) h = missed_so (speech_at lens u.lived.spot) made u.lived u.share [] h gives recover (seen lens f.sent)

  all_so : (ds : List Raw.Datagram) (as' : List Leads) (us : List Turn) → AllTurn lens made ds as' us → AllOpened made as' → AllOpened (suc made) (map (led_behind lens recover retry gives made f) us)
  all_so ds [] [] t h = tt
  all_so ds [] (u ∷ us) t h = absurd t
  all_so ds (a ∷ as') [] t h = absurd t
  all_so ds (a ∷ as') (u ∷ us) t h = (behind_so u f.fate (turned_so (speech_at lens a.lived.spot) made a.lived u.lived t.0.next h.0), all_so ds as' us t.1 h.1)

pub first_so : (rows : List (ℕ × Plan.Service)) (place : ℕ) (ss : List SlaveSpec) → AllOpened 0 (leads_from rows place ss)
first_so rows place [] = tt
first_so rows place (s ∷ ss) = (opened_first s.start, first_so rows _ ss)

pub states : (n : ℕ) (as' : List Leads) → AllOpened n as' → AllOpenTheirs as'
states n [] h = tt
states n (a ∷ as') h = (h.0.epochs, states n as' h.1)

module _ (lens : ℕ → Lens) (plan : Scenario) (retry : ℕ) where
  all_opened : (fs : List Exchanged) (missed : ℕ) (as' : List Leads) → IsLed lens plan.recover retry (first_leads plan) fs missed as' → AllOpened (length fs) as'
  all_opened _ _ _ IsLed.start = first_so plan.services 0 plan.slaves
  all_opened _ _ _ (IsLed.on fs missed as' f us l y) =
      let more : suc (length fs) ≡ length (fs ++ f ∷ []) = (let k = length-append fs (f ∷ []) in omega (arith, k)) in
      subst (λ (n : ℕ). AllOpened n (map (led_behind lens plan.recover retry (gives_up_at lens plan.recover retry missed) (length fs) f) us)) more
      (all_so lens plan.recover retry (gives_up_at lens plan.recover retry missed) (length fs) f y.datagrams as' us y.each (all_opened fs missed as' l))

  -- EACH EPOCH OPENS ITS STATE
  pub open_theirs : (fs : List Exchanged) (missed : ℕ) (as' : List Leads) → IsLed lens plan.recover retry (first_leads plan) fs missed as' → AllOpenTheirs as'
  open_theirs fs missed as' led = states (length fs) as' (all_opened fs missed as' led)
