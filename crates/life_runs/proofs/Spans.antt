-- THE EPOCHS OF A LIFE over a frame.
use Rattle.std.proofs.Common.{◌≡◌, ℕ, suc, Bool, true, false, Option, Some, None, List, [], ◌∷◌, ◌++◌, map, length, length-append, refl, ap, sym, ◌∙◌, subst, arith}
use Rattle.std.specs.Prelude.{◌==◌, ◌&&◌, nat_lt, if◌then◌else◌}
use Rattle.std.proofs.lemmas.Bool.{eqb-true, ltb-true, ltb-false, lt-ltb}
use Rattle.std.proofs.lemmas.List.{map-append}
use Rattle.master_tour.specs.of_datagrams.Datagram as Raw
use Rattle.master_hand.specs.of_exchange_model.Exchange.{Speech}
use Rattle.master_tour.specs.of_frame_view.View.{Lens}
use Rattle.master_tour.specs.of_frame_view.Seen.{seen}
use Rattle.master_tour.specs.of_frame_view.Frames.{Share}
use Rattle.master_tour.specs.of_frame_view.Shares.{Lived, came_at, given_where}
use Rattle.master_tour.specs.of_life_model.Lives.{Spot, Life, Stand, Opening, life_next, life_back, life_lost, era_back, opening_back, shows_clear, is_shown, last_step, clears, opens, steps_on, reopens, reopens_at, reopening, opens_state, returns_to_init}
use Rattle.life_runs.specs.Led.{Exchanged, Leads, Turn, IsTurn, is_passed, speech_at, life_behind}
use Rattle.master_tour.specs.of_link_mails.Body.{Body}
use Rattle.master_tour.specs.of_master_duty.Reply.{Reply}
use Rattle.master_hand.specs.Spoken.{Asked, acknowledged, is_followed}
use Rattle.master_hand.specs.of_segment_model.Record.{News}
use Rattle.master_hand.specs.of_segment_model.Slaves.{Datagram, Found}
use Rattle.segment_ring.specs.declared.wire.Fate.TheVariants.{Pass, Lost}
use Rattle.master_hand.specs.of_state_model.Accounts.{Duty, Stage, Pick}
use Rattle.life_runs.specs.Spans.{Span, is_leaving, is_open, span_of, spans_of, cleared_at, opened_at, spans_behind, SameEpochs, EpochsBack, EpochsLost}

abbrev pub LifeOf : Type 0
LifeOf = Life Body Asked Reply

-- TESTS
and_false : (b : Bool) → (b && false) ≡ false
and_false true = refl
and_false false = refl

pub both : (a b : Bool) → (a && b) ≡ true → (a ≡ true) × (b ≡ true)
both true b e = (refl, e)
both false b e = absurd (let bad : false ≡ true = e in cc)

-- an access that shows Init is of a slave that is leaving
pub clear_leaves : (o : Opening) → shows_clear o ≡ true → is_leaving (Stand.Opens o) ≡ true
clear_leaves o e =
    let p = both o.again (o.step == 2) e in
    let s = eqb-true o.step 2 p.1 in
    let k : nat_lt o.step 3 ≡ true = lt-ltb o.step 3 (omega (arith, s)) in
    ap (λ (b : Bool). b && nat_lt o.step 3) p.0 ∙ k

-- behind it the slave isn't leaving
pub cleared_stays : (o : Opening) → is_leaving (Stand.Opens (record o { step = 3 })) ≡ false
cleared_stays o = and_false o.again

-- the last access is of one that isn't leaving
pub last_stays : (o : Opening) → (o.step == last_step o) ≡ true → is_leaving (Stand.Opens o) ≡ false
last_stays o e = by o.again refl
  where
    by : (b : Bool) → o.again ≡ b → (b && nat_lt o.step 3) ≡ false
    by false f = refl
    by true f = go (nat_lt o.step 3) refl
      where
        go : (k : Bool) → nat_lt o.step 3 ≡ k → k ≡ false
        go false g = refl
        go true g = absurd (let few = ltb-true o.step 3 g in let s = eqb-true o.step 9 (ap (λ (b : Bool). o.step == (if b then 9 else 5)) (sym f) ∙ e) in omega (arith, few, s))

-- any other leaves it as it is
pub steps_stay : (again : Bool) (step : ℕ) → (again && step == 2) ≡ false → (again && nat_lt (suc step) 3) ≡ (again && nat_lt step 3)
steps_stay false step e = refl
steps_stay true step e = go (nat_lt step 3) (nat_lt (suc step) 3) refl refl
  where
    not_two : step ≡ 2 → ⊥
    not_two two = absurd (let same = ap (λ (k : ℕ). k == 2) two in let bad : true ≡ false = sym same ∙ e in cc)

    go : (k m : Bool) → nat_lt step 3 ≡ k → nat_lt (suc step) 3 ≡ m → m ≡ k
    go true true f g = refl
    go false false f g = refl
    go true false f g = absurd (let few = ltb-true step 3 f in let many = ltb-false (suc step) 3 g in not_two (omega (arith, few, many)))
    go false true f g = absurd (let many = ltb-false step 3 f in let few = ltb-true (suc step) 3 g in omega (arith, few, many))

-- THE EPOCHS by those
behind_clear : (frame : ℕ) (a b c d : Bool) (spans : List Span) → a ≡ true → b ≡ false → spans_behind frame a b c d spans ≡ cleared_at frame spans
behind_clear frame true false c d spans e f = refl
behind_clear frame true true c d spans e f = absurd (let bad : true ≡ false = f in cc)
behind_clear frame false b c d spans e f = absurd (let bad : false ≡ true = e in cc)

behind_same : (frame : ℕ) (a b c d : Bool) (spans : List Span) → b ≡ a → d ≡ c → spans_behind frame a b c d spans ≡ spans
behind_same frame true true true d spans e f = refl
behind_same frame true true false false spans e f = refl
behind_same frame false b true d spans e f = refl
behind_same frame false b false false spans e f = refl
behind_same frame true false c d spans e f = absurd (let bad : false ≡ true = e in cc)
behind_same frame true true false true spans e f = absurd (let bad : true ≡ false = f in cc)
behind_same frame false b false true spans e f = absurd (let bad : true ≡ false = f in cc)

opened_last : (ss : List Span) (s : Span) (frame : ℕ) → opened_at frame (ss ++ s ∷ []) ≡ ss ++ record { cleared = s.cleared; opened = Some frame } ∷ []
opened_last [] s frame = refl
opened_last (r ∷ []) s frame = refl
opened_last (r ∷ (t ∷ ss)) s frame = ap (λ (k : List Span). r ∷ k) (opened_last (t ∷ ss) s frame)

abbrev Behind : ℕ → LifeOf → Stand → LifeOf → Type 0
Behind frame l stand m = spans_of m ≡ spans_behind frame (is_leaving stand) (is_leaving m.stand) (is_open stand) (is_open m.stand) (spans_of l)

module _ (frame : ℕ) (l : LifeOf) where
  -- a life that stays
  stays : (m : LifeOf) (stand : Stand) → m.stand ≡ stand → spans_of m ≡ spans_of l → Behind frame l stand m
  stays m stand e s = s ∙ sym (behind_same frame (is_leaving stand) (is_leaving m.stand) (is_open stand) (is_open m.stand) (spans_of l) (ap is_leaving e) (ap is_open e))

  -- AN OPENING
  clears_so : (o : Opening) → shows_clear o ≡ true → Behind frame l (Stand.Opens o) (clears frame l o)
  clears_so o e =
      ap (λ (ss : List Span). ss ++ record { cleared = Some frame; opened = None } ∷ []) (map-append (λ e. span_of e) l.past (l.era ∷ []))
      ∙ sym (behind_clear frame (is_leaving (Stand.Opens o)) (is_leaving (Stand.Opens (record o { step = 3 }))) false false (spans_of l) (clear_leaves o e) (cleared_stays o))

  opens_so : (o : Opening) → (o.step == last_step o) ≡ true → Behind frame l (Stand.Opens o) (opens frame l)
  opens_so o e =
      sym (opened_last (map (λ e. span_of e) l.past) (span_of l.era) frame)
      ∙ ap (λ (b : Bool). spans_behind frame b false false true (spans_of l)) (sym (last_stays o e))

  steps_so : (o : Opening) → shows_clear o ≡ false → Behind frame l (Stand.Opens o) (steps_on l o)
  steps_so o e = sym (behind_same frame (is_leaving (Stand.Opens o)) (is_leaving (Stand.Opens (record o { step = suc o.step }))) false false (spans_of l) (steps_stay o.again o.step e) refl)

  opening_so : (o : Opening) (done : Bool) (found : Option Found) → l.stand ≡ Stand.Opens o → Behind frame l (Stand.Opens o) (opening_back frame l o done found)
  opening_so o done found s = go (shows_clear o) (done && is_shown 1 found) (o.step == last_step o) (done && is_shown o.state found) refl refl
    where
      go : (shows seen last there : Bool) → shows_clear o ≡ shows → (o.step == last_step o) ≡ last → Behind frame l (Stand.Opens o) (if shows then (if seen then clears frame l o else l) else if last then (if there then opens frame l else l) else steps_on l o)
      go true true last there e f = clears_so o e
      go true false last there e f = stays l (Stand.Opens o) s refl
      go false seen true true e f = opens_so o f
      go false seen true false e f = stays l (Stand.Opens o) s refl
      go false seen false there e f = steps_so o e

  -- a state service may begin a reopening
  reopens_so : (m : LifeOf) (hand : Option Duty) → m.stand ≡ Stand.Open → spans_of m ≡ spans_of l → Behind frame l Stand.Open (reopens m hand)
  reopens_so m None e s = stays m Stand.Open e s
  reopens_so m (Some duty) e s = go duty.stage
    where
      by : (b : Bool) → Behind frame l Stand.Open (if b then record m { stand = reopening (opens_state duty.target) true } else m)
      by true = s
      by false = stays m Stand.Open e s

      go : (stage : Stage) → Behind frame l Stand.Open (reopens_at m duty.target stage)
      go Stage.Drains = stays m Stand.Open e s
      go (Stage.Goes phase) = by (returns_to_init duty.target)

  module _ (x : Speech Body Asked Reply) where
    back_so : (spot : Spot) (news : List (News Body)) (back : List (Datagram Body)) (came : Option (Bool × Option Found)) (stand : Stand) → l.stand ≡ stand → Behind frame l stand (life_back x acknowledged is_followed is_passed frame spot news back came l stand)
    back_so spot news back None (Stand.Opens o) e = stays l (Stand.Opens o) e refl
    back_so spot news back (Some came) (Stand.Opens o) e = opening_so o came.0 came.1 e
    back_so spot news back came Stand.Open e = let era = era_back x acknowledged is_followed is_passed spot.station frame news back l.era in reopens_so (record l { era = era }) era.account.hand e refl
    back_so spot news back came Stand.Gone e = stays l Stand.Gone e refl

    next_so : (pick : Pick Asked) (stand : Stand) → SameEpochs l (life_next x acknowledged is_followed is_passed frame l stand pick)
    next_so pick (Stand.Opens o) = record { spans = refl; stand = refl }
    next_so pick Stand.Open = record { spans = refl; stand = refl }
    next_so pick Stand.Gone = record { spans = refl; stand = refl }

    lost_so : (spot : Spot) (news : List (News Body)) (sent : List (Datagram Body)) (stand : Stand) → SameEpochs l (life_lost x acknowledged is_followed is_passed spot news sent l stand)
    lost_so spot news sent (Stand.Opens o) = record { spans = refl; stand = refl }
    lost_so spot news sent Stand.Open = record { spans = refl; stand = refl }
    lost_so spot news sent Stand.Gone = record { spans = refl; stand = refl }

    lost_gave : (spot : Spot) (news : List (News Body)) (sent : List (Datagram Body)) (stand : Stand) → (life_lost x acknowledged is_followed is_passed spot news sent l stand).gave ≡ l.gave
    lost_gave spot news sent (Stand.Opens o) = refl
    lost_gave spot news sent Stand.Open = refl
    lost_gave spot news sent Stand.Gone = refl

  longer : {P : Type 0} (g : List ℕ) → g ++ frame ∷ [] ≡ g → P
  longer g e = absurd (let k = ap length e in let m = length-append g (frame ∷ []) in omega (arith, k, m))

  given_so : (b : Bool) (recover : ℕ) (spot : Spot) (m : LifeOf) → m.gave ≡ l.gave → SameEpochs l m → EpochsLost l (given_where b recover spot frame m)
  given_so false recover spot m g s = record { spans = s.spans; stand = λ e. s.stand; given = λ no. absurd (no g) }
  given_so true recover spot m g s = record { spans = s.spans; stand = λ e. longer l.gave (ap (λ (k : List ℕ). k ++ frame ∷ []) (sym g) ∙ e); given = λ no. by (nat_lt (length m.gave) recover) }
    where
      by : (b : Bool) → is_open (if b then reopening spot.start false else Stand.Gone) ≡ false
      by true = refl
      by false = refl

-- A TURN, A RETURN AND A LOSS
pub turns_so : (lens : ℕ → Lens) (made : ℕ) (ds : List Raw.Datagram) (a : Leads) (u : Turn) → IsTurn lens made ds a u → SameEpochs a.lived.life u.lived.life
turns_so lens made ds a u y =
    subst (λ (m : LifeOf). SameEpochs a.lived.life m) (sym y.next.life) (next_so made a.lived.life (speech_at lens a.lived.spot) y.next.pick a.lived.life.stand)

module _ (lens : ℕ → Lens) (recover retry made : ℕ) (gives : Bool) (f : Exchanged) (l : Lived Asked Reply) (share : Share) where
  pub passes_so : EpochsBack made l.life (life_behind lens recover retry gives made f Pass l share).life
  passes_so = record { spans = back_so made l.life (speech_at lens l.spot) l.spot [] (seen lens f.back) (came_at share.under share.at (seen lens f.back)) l.life.stand refl }

  pub loses_so : (after : ℕ) → EpochsLost l.life (life_behind lens recover retry gives made f (Lost after) l share).life
  loses_so after =
      given_so made l.life (gives && share.under) recover l.spot _ (lost_gave made l.life (speech_at lens l.spot) l.spot [] (seen lens f.sent) l.life.stand) (lost_so made l.life (speech_at lens l.spot) l.spot [] (seen lens f.sent) l.life.stand)
