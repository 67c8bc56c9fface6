-- THE MAILS OF EACH TIME THAT A SLAVE WAS OPEN are those that its epoch heard.
use Rattle.std.proofs.Common.{◌≡◌, inl, inr, ℕ, zero, suc, ◌+◌, ◌-◌, ◌<◌, ◌≤◌, ◌==◌, ◌&&◌, Bool, true, false, Option, Some, None, List, [], ◌∷◌, ◌++◌, map, take, drop, replicate, length, refl, sym, ap, ◌∙◌, subst, arith, append-nil, length-append, if◌then◌else◌}
use Rattle.std.specs.Prelude.{sum_by, nat_lt}
use Rattle.std.proofs.lemmas.Bool.{eqb-true, eqb-false}
use Rattle.std.proofs.lemmas.List.Sums.{sum_by-append}
use Rattle.packets_heard.specs.of_life_model.Script.{eras_started}
use Rattle.served_rings.proofs.of_life_counts.Turns.{heard_push}
use Rattle.packets_heard.specs.of_life_model.Eras.{era_frames}
use Rattle.packets_heard.specs.of_life_model.Lives.{Spot, Era, Life, Opening, Stand, shows_clear, last_step, is_shown, opening_back, clears, opens, steps_on, reopening, gives_up}
use Rattle.packets_heard.specs.of_life_model.Own.{own, own_frame, blank}
use Rattle.served_rings.proofs.of_life_model.Eras.{frames_push}
use Rattle.packets_heard.specs.of_link_mails.Body.{Body}
use Rattle.packets_heard.specs.of_link_model.Frames.{all_accepted}
use Rattle.packets_heard.specs.of_link_model.Link.{Halves}
use Rattle.packets_heard.specs.of_master_duty.Reply.{Reply}
use Rattle.packets_heard.specs.of_master_hand.Joins.{packets_in}
use Rattle.packets_heard.specs.of_master_hand.Spoken.{Asked}
use Rattle.packets_heard.specs.Heard.{Times, ended, packets_of}
use Rattle.packets_heard.specs.of_segment_model.Record.{Frame, heard, kept_all, nothing_kept}
use Rattle.packets_heard.specs.of_segment_model.Seats.{IsOpening, rows_of}
use Rattle.packets_heard.specs.of_segment_model.Slaves.{Found, grams}
use Rattle.served_rings.proofs.of_segment_model.News.{heard_frame}
use Rattle.served_rings.proofs.of_segment_model.Openings.{opening_heard}
use Rattle.packets_heard.specs.of_state_model.Stated.{Service}
use Rattle.packets_heard.specs.of_state_model.Promise.{services_in}
use Rattle.run_promises.proofs.Calm.{IsCalm, IsEarly}
use Rattle.run_promises.proofs.Live.{IsLive, IsTally}

-- ---- the mails heard behind one more frame
pub heard_more : (spot : Spot) (opened : ℕ) (gs : List (Frame Body)) (g : Frame Body) (h : Halves Body) → opened < length gs → h.inn.last ≡ (kept_all spot.station nothing_kept (era_frames spot opened (length gs) gs)).heard →
    heard spot.station (era_frames spot opened (suc (length gs)) (gs ++ g ∷ [])) ≡ heard spot.station (era_frames spot opened (length gs) gs) ++ all_accepted spot.station h (grams (own spot.station g.back))
heard_more spot opened gs g h before last =
    let old = era_frames spot opened (length gs) gs in
    ap (heard spot.station) (frames_push spot opened gs g before)
    ∙ heard_push spot.station old (own_frame spot.station spot.place g)
    ∙ ap (λ l. heard spot.station old ++ l) (heard_frame spot.station (kept_all spot.station nothing_kept old) h (own_frame spot.station spot.place g) last)

one_longer : (gs : List (Frame Body)) (g : Frame Body) → length (gs ++ g ∷ []) ≡ suc (length gs)
one_longer gs g = omega (arith, length-append gs (g ∷ []))

-- before the first frame of an epoch
blanks : (n : ℕ) → IsOpening {M = Body} (replicate n blank)
blanks zero = tt
blanks (suc n) = ((tt, tt), blanks n)

none_left : (n : ℕ) → n - n ≡ 0
none_left n = omega arith

nothing_heard : (spot : Spot) (frame : ℕ) (gs : List (Frame Body)) → heard spot.station (era_frames spot frame (suc frame) gs) ≡ []
nothing_heard spot frame gs =
    ap (λ k. heard spot.station (replicate (suc frame) blank ++ map (λ f. own_frame spot.station spot.place f) (take k (drop (suc frame) gs)))) (none_left (suc frame))
    ∙ ap (heard spot.station) (append-nil (replicate (suc frame) blank)) ∙ opening_heard spot.station (replicate (suc frame) blank) (blanks (suc frame))

module _ (weigh : List ℕ → ℕ) where
  abbrev pub times_weigh : List (List Body) → ℕ
  times_weigh ts = sum_by weigh (packets_of ts)

  abbrev pub mails_weigh : List Body → ℕ
  mails_weigh ms = sum_by weigh (packets_in None ms)

  more_weigh : (ts : List (List Body)) (ms : List Body) → times_weigh (ts ++ ms ∷ []) ≡ times_weigh ts + mails_weigh ms
  more_weigh [] ms = omega (arith, ap (sum_by weigh) (append-nil (packets_in None ms)))
  more_weigh (t ∷ ts) ms = omega (arith, sum_by-append weigh (packets_in None t) (packets_of (ts ++ ms ∷ [])), sum_by-append weigh (packets_in None t) (packets_of ts), more_weigh ts ms)

  pub ended_weigh : (past : List (List Body)) (now : List Body) → times_weigh (ended past now) ≡ times_weigh past + mails_weigh now
  ended_weigh past [] = omega arith
  ended_weigh past (m ∷ ms) = more_weigh past (m ∷ ms)

  module _ (most : Service Asked → ℕ) where
    pub past_more : (es : List (Era Body Asked Reply)) (e : Era Body Asked Reply) → sum_by most (eras_started (es ++ e ∷ [])) ≡ sum_by most (eras_started es) + sum_by most (services_in e.account.started)
    past_more [] e = omega (arith, ap (sum_by most) (append-nil (services_in e.account.started)))
    past_more (d ∷ es) e = omega (arith, sum_by-append most (services_in d.account.started) (eras_started (es ++ e ∷ [])), sum_by-append most (services_in d.account.started) (eras_started es), past_more es e)

    -- THE PACKETS that their mails join to weigh no more than the services of the epochs
    abbrev pub Weighs : List (List Body) → List (Era Body Asked Reply) → Type 0
    Weighs ts es = times_weigh ts ≤ sum_by most (eras_started es)

    pub weighs : IsTally Weighs
    weighs = record {
      empty = omega arith;
      fresh = λ ts es e new told. omega (arith, told, past_more es e);
      none = λ ts es e new told. omega (arith, told, past_more es e, ap (λ ss. sum_by most (services_in ss)) new.0);
      grows = λ ts es d e g told. omega (arith, told, past_more es d, past_more es e, ap (sum_by most) g.services.1, sum_by-append most (services_in d.account.started) g.services.0);
    }

    -- mails that weigh no more than the services of an epoch go on with them
    pub weighs_on : (past : List (List Body)) (ms : List Body) (es : List (Era Body Asked Reply)) (e : Era Body Asked Reply) → mails_weigh ms ≤ sum_by most (services_in e.account.started) → Weighs past es → Weighs (ended past ms) (es ++ e ∷ [])
    weighs_on past ms es e few told = omega (arith, few, told, past_more es e, ended_weigh past ms)

-- BY WHAT IS TOLD of times against epochs
module _ (R : List (List Body) → List (Era Body Asked Reply) → Type 0) (tally : IsTally R) (spot : Spot) where
  -- WHILE IT IS OPEN, behind these frames, and while it isn't
  pub record TracksOpen (gs : List (Frame Body)) (l : Life Body Asked Reply) (t : Times) : Type 0 where
    pub past : R t.past l.past
    pub now : (opened : ℕ) → l.era.opened ≡ Some opened → t.now ≡ heard spot.station (era_frames spot opened (length gs) gs)
    pub calm : IsCalm l.era.account.hand

  pub record TracksShut (l : Life Body Asked Reply) (t : Times) : Type 0 where
    pub all : R (ended t.past t.now) (l.past ++ l.era ∷ [])

  abbrev pub TracksAs : List (Frame Body) → Life Body Asked Reply → Times → Stand → Type 0
  TracksAs gs l t (Stand.Opens o) = TracksShut l t × IsEarly o l.era
  TracksAs gs l t Stand.Open = TracksOpen gs l t
  TracksAs gs l t Stand.Gone = TracksShut l t

  abbrev pub Tracks : List (Frame Body) → Life Body Asked Reply → Times → Type 0
  Tracks gs l t = TracksAs gs l t l.stand

  -- an open slave's time so far is within its epoch
  pub shut_now : (gs : List (Frame Body)) (l : Life Body Asked Reply) (t : Times) → TracksOpen gs l t → IsLive R spot gs l → TracksShut l t
  shut_now gs l t open_ live = record { all = subst (λ ms. R (ended t.past ms) (l.past ++ l.era ∷ [])) (sym (open_.now live.opened live.opened_at)) (live.told t.past open_.past) }

  -- the time is over
  abbrev pub over : Times → Times
  over t = record { past = ended t.past t.now; now = [] }

  over_shut : (l : Life Body Asked Reply) (t : Times) → TracksShut l t → TracksShut l (over t)
  over_shut l t shut = record { all = shut.all }

  -- a give-up
  pub gives_tracks : (recover frame : ℕ) (gs : List (Frame Body)) (l : Life Body Asked Reply) (t : Times) → TracksShut l t → Tracks gs (gives_up recover spot frame l) t
  gives_tracks recover frame gs l t shut = go (nat_lt (length l.gave) recover)
    where
      go : (b : Bool) → TracksAs gs (gives_up recover spot frame l) t (if b then reopening spot.start false else Stand.Gone)
      go true = (record { all = shut.all }, inl (refl, omega arith))
      go false = record { all = shut.all }

  -- ---- AN ACCESS OF AN OPENING came back
  module _ (gs : List (Frame Body)) (g : Frame Body) (l : Life Body Asked Reply) (t : Times) (o : Opening) (stand : l.stand ≡ Stand.Opens o) (shut : TracksShut l t) (early : IsEarly o l.era) where
    abbrev Ends : Life Body Asked Reply → Type 0
    Ends m = Tracks (gs ++ g ∷ []) m (over t)

    stays : Ends l
    stays = subst (λ (z : Stand). TracksAs (gs ++ g ∷ []) l (over t) z) (sym stand) (over_shut l t shut, early)

    cleared : (frame : ℕ) → Ends (clears frame l o)
    cleared frame = (record { all = tally.fresh (ended t.past t.now) (l.past ++ l.era ∷ []) (clears frame l o).era (refl, refl) shut.all }, inr (refl, refl, refl))

    -- the last access comes behind Init, or is that of a first bring-up
    late : (o.step == last_step o) ≡ true → IsEarly o l.era → (l.era.account.started ≡ []) × (l.era.account.hand ≡ None) × (rows_of l.era.side ≡ [])
    late e (inr fresh) = fresh
    late e (inl again) = absurd (omega (arith, again.1, eqb-true o.step 9 (ap (λ (b : Bool). o.step == (if b then 9 else 5)) (sym again.0) ∙ e)))

    opened : (o.step == last_step o) ≡ true → Ends (opens (length gs) l)
    opened e =
        let fresh = late e early in
        record {
          past = tally.none (ended t.past t.now) l.past l.era (fresh.0, fresh.2) shut.all;
          now = λ opened is.
              let same : length gs ≡ opened = cc in
              sym (subst (λ (n : ℕ). heard spot.station (era_frames spot n (length (gs ++ g ∷ [])) (gs ++ g ∷ [])) ≡ []) same
              (ap (λ n. heard spot.station (era_frames spot (length gs) n (gs ++ g ∷ []))) (one_longer gs g) ∙ nothing_heard spot (length gs) (gs ++ g ∷ [])));
          calm = λ duty is returns. absurd (let bad : None ≡ Some duty = sym fresh.1 ∙ is in cc);
        }

    goes_on : shows_clear o ≡ false → Ends (steps_on l o)
    goes_on e = (record { all = (over_shut l t shut).all }, on early)
      where
        below : (again : Bool) (step : ℕ) → again ≡ true → step ≤ 2 → (again && step == 2) ≡ false → suc step ≤ 2
        below again step is few not_ = few_on (step == 2) refl
          where
            few_on : (b : Bool) → (step == 2) ≡ b → suc step ≤ 2
            few_on true f = absurd (let bad : true ≡ false = sym (ap (λ (z : Bool). z && step == 2) is ∙ f) ∙ not_ in cc)
            few_on false f = let other = eqb-false step 2 f in below_two step few other
              where
                below_two : (n : ℕ) → n ≤ 2 → (n ≡ 2 → ⊥) → suc n ≤ 2
                below_two n few other = omega (arith, few, other)

        on : IsEarly o l.era → IsEarly (record o { step = suc o.step }) l.era
        on (inl again) = inl (again.0, below o.again o.step again.0 again.1 e)
        on (inr fresh) = inr fresh

    pub opening_tracks : (done : Bool) (found : Option Found) → Ends (opening_back (length gs) l o done found)
    opening_tracks done found = by (shows_clear o) (done && is_shown 1 found) (o.step == last_step o) (done && is_shown o.state found) refl refl
      where
        by : (a b c d : Bool) → shows_clear o ≡ a → (o.step == last_step o) ≡ c → Ends (if a then (if b then clears (length gs) l o else l) else if c then (if d then opens (length gs) l else l) else steps_on l o)
        by true true c d f h = cleared (length gs)
        by true false c d f h = stays
        by false b true true f h = opened h
        by false b true false f h = stays
        by false b false d f h = goes_on f

    pub shut_stays : Ends l
    shut_stays = stays

  -- of one that is gone for good
  pub gone_tracks : (gs : List (Frame Body)) (g : Frame Body) (l : Life Body Asked Reply) (t : Times) → l.stand ≡ Stand.Gone → TracksShut l t → Tracks (gs ++ g ∷ []) l (over t)
  gone_tracks gs g l t stand shut = subst (λ (z : Stand). TracksAs (gs ++ g ∷ []) l (over t) z) (sym stand) (over_shut l t shut)

  pub over_shuts : (l : Life Body Asked Reply) (t : Times) → TracksShut l t → TracksShut l (over t)
  over_shuts l t shut = over_shut l t shut

  -- ---- AN OPEN SLAVE goes on
  pub open_tracks : (gs : List (Frame Body)) (g : Frame Body) (l m : Life Body Asked Reply) (t : Times) (ms : List Body) → IsLive R spot gs l → m.past ≡ l.past → m.era.opened ≡ l.era.opened → IsCalm m.era.account.hand → TracksOpen gs l t →
      ms ≡ all_accepted spot.station l.era.side.halves (grams (own spot.station g.back)) → TracksOpen (gs ++ g ∷ []) m (record { past = t.past; now = t.now ++ ms })
  open_tracks gs g l m t ms live past opened calm open_ is = record {
    past = subst (λ es. R t.past es) (sym past) open_.past;
    now = λ k at.
        let was : l.era.opened ≡ Some k = sym opened ∙ at in
        let same : live.opened ≡ k = (let e : Some live.opened ≡ Some k = sym live.opened_at ∙ was in cc) in
        let before : k < length gs = subst (λ n. n < length gs) same live.before in
        let last = subst (λ n. l.era.side.halves.inn.last ≡ (kept_all spot.station nothing_kept (era_frames spot n (length gs) gs)).heard) same live.last in
        (λ i. open_.now k was i ++ is i) ∙ sym (heard_more spot k gs g l.era.side.halves before last) ∙ ap (λ n. heard spot.station (era_frames spot k n (gs ++ g ∷ []))) (sym (one_longer gs g));
    calm = calm;
  }
