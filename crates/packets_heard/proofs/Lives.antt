-- Which slaves are live, frame by frame.
use Rattle.std.proofs.Common.{◌≡◌, ℕ, zero, suc, Bool, true, false, Option, Some, None, List, [], ◌∷◌, map, refl, sym, ap, ◌∙◌}
use Rattle.std.specs.Prelude.{◌==◌, ◌&&◌, not}
use Rattle.master_node.specs.of_datagrams.Datagram as Raw
use Rattle.master_node.specs.of_frame_view.View.{Lens}
use Rattle.master_node.specs.of_frame_view.Seen.{seen}
use Rattle.master_node.specs.of_frame_view.Frames.{FrameFor}
use Rattle.master_node.specs.of_frame_view.Shares.{came_at, given_where}
use Rattle.master_node.specs.of_life_model.Lives as Lives
use Rattle.master_node.specs.of_life_model.Lives.{Life, Opening, Stand, life_back, life_lost, opening_back, shows_clear, last_step, is_shown, clears, opens, reopens, reopens_at, returns_to_init, era_back}
use Rattle.master_node.specs.of_life_runs.Led.{Exchanged, Leads, Turn, AllTurn, speech_at, life_behind, led_behind, is_passed}
use Rattle.slave_server.specs.of_link_mails.Body.{Body}
use Rattle.master_node.specs.of_master_duty.Reply.{Reply}
use Rattle.master_node.specs.of_master_hand.Spoken.{Asked, acknowledged, is_followed}
use Rattle.master_node.specs.Downs.{goes_down}
use Rattle.master_node.specs.Serving.{run_lead, run_turn}
use Rattle.master_node.specs.Shows.{is_led, is_live_lead, is_live_turn, is_carried}
use Rattle.master_node.proofs.Counts.{if_by, next_stand}
use Rattle.master_node.specs.of_master_side.Passing.{news_back, news_lost}
use Rattle.master_node.specs.of_master_tour.Goes.{holds_at}
use Rattle.slave_server.specs.of_segment_model.Record.{News}
use Rattle.slave_server.specs.of_segment_model.Slaves.{Found}
use Rattle.master_node.specs.of_segment_ring.declared.wire.Fate.{Fate}
use Rattle.master_node.specs.of_segment_ring.declared.wire.Fate.TheVariants.{Pass, Lost}
use Rattle.master_node.specs.of_life_runs.Served.{Serves, ServedTurn, AllServedTurn, served_behind, served_life}
use Rattle.slave_server.specs.of_state_model.Accounts.{Duty, Stage}

abbrev SlaveLife : Type 0
SlaveLife = Life Body Asked Reply

abbrev Live : SlaveLife → Type 0
Live m = is_led m.stand ≡ true

-- ---- behind a frame that came back each is what it was

opening_live : (frame : ℕ) (l : SlaveLife) (o : Opening) (done : Bool) (found : Option Found) → Live l → Live (opening_back frame l o done found)
opening_live frame l o done found h =
    if_by Live (shows_clear o) _ _
    (if_by Live (done && is_shown 1 found) (clears frame l o) l refl h)
    (if_by Live (o.step == last_step o) _ _
    (if_by Live (done && is_shown o.state found) (opens frame l) l refl h)
    refl)

reopens_live : (l : SlaveLife) (duty : Option Duty) → Live l → Live (reopens l duty)
reopens_live l None h = h
reopens_live l (Some duty) h = go duty.stage
  where
    go : (z : Stage) → Live (reopens_at l duty.target z)
    go Stage.Drains = h
    go (Stage.Goes phase) = if_by Live (returns_to_init duty.target) _ l refl h

module _ (lens : ℕ → Lens) (recover retry : ℕ) (gives : Bool) (made : ℕ) (f : Exchanged) where
  back_live : (ns : List (News Body)) (u : Turn) (came : Option (Bool × Option Found)) (z : Stand) → u.lived.life.stand ≡ z →
      is_led (life_back (speech_at lens u.lived.spot) acknowledged is_followed is_passed made u.lived.spot ns (seen lens f.back) came u.lived.life z).stand ≡ is_led u.lived.life.stand
  back_live ns u None (Stand.Opens o) e = refl
  back_live ns u (Some came) (Stand.Opens o) e =
      let live : Live u.lived.life = ap is_led e in
      opening_live made u.lived.life o came.0 came.1 live ∙ sym live
  back_live ns u came Stand.Gone e = gone came
    where
      gone : (c : Option (Bool × Option Found)) →
          is_led (life_back (speech_at lens u.lived.spot) acknowledged is_followed is_passed made u.lived.spot ns (seen lens f.back) c u.lived.life Stand.Gone).stand ≡ is_led u.lived.life.stand
      gone None = refl
      gone (Some c) = refl
  back_live ns u came Stand.Open e = by came
    where
      l : SlaveLife
      l = u.lived.life

      live : Live l
      live = ap is_led e

      e2 : Lives.Era Body Asked Reply
      e2 = era_back (speech_at lens u.lived.spot) acknowledged is_followed is_passed u.lived.spot.station made ns (seen lens f.back) l.era

      by : (c : Option (Bool × Option Found)) →
          is_led (life_back (speech_at lens u.lived.spot) acknowledged is_followed is_passed made u.lived.spot ns (seen lens f.back) c l Stand.Open).stand ≡ is_led l.stand
      by None = reopens_live (record l { era = e2 }) e2.account.hand live ∙ sym live
      by (Some c) = reopens_live (record l { era = e2 }) e2.account.hand live ∙ sym live

  pub pass_lives : f.fate ≡ Pass → (us : List Turn) (k : ℕ) → holds_at is_live_lead (map (led_behind lens recover retry gives made f) us) k ≡ holds_at is_live_turn us k
  pass_lives e [] k = refl
  pass_lives e (u ∷ us) zero =
      ap (λ (z : Fate). is_led (life_behind lens recover retry gives made f z u.lived u.share).life.stand) e ∙ back_live [] u (came_at u.share.under u.share.at (seen lens f.back)) u.lived.life.stand refl
  pass_lives e (u ∷ us) (suc k) = pass_lives e us k

  -- of a serving
  pub serving_pass : f.fate ≡ Pass → (vs : List ServedTurn) (k : ℕ) → holds_at is_live_lead (map run_lead (map (served_behind lens recover retry gives made f) vs)) k ≡ holds_at is_live_turn (map run_turn vs) k
  serving_pass e [] k = refl
  serving_pass e (v ∷ vs) zero =
      let u = v.turn in
      ap (λ (z : Fate). is_led (served_life lens recover retry gives made f z v).life.stand) e
      ∙ back_live (news_back u.lived.spot.station v.kept v.counts (seen lens f.back)) u (came_at u.share.under u.share.at (seen lens f.back)) u.lived.life.stand refl
  serving_pass e (v ∷ vs) (suc k) = serving_pass e vs k

  -- ---- by a lost one just such slaves go that it carried

  lost_stays : (ns : List (News Body)) (u : Turn) (z : Stand) → (life_lost (speech_at lens u.lived.spot) acknowledged is_followed is_passed u.lived.spot ns (seen lens f.sent) u.lived.life z).stand ≡ u.lived.life.stand
  lost_stays ns u (Stand.Opens o) = refl
  lost_stays ns u Stand.Open = refl
  lost_stays ns u Stand.Gone = refl

  abbrev lost_life : List (News Body) → Bool → Turn → SlaveLife
  lost_life ns b u = given_where b recover u.lived.spot made (life_lost (speech_at lens u.lived.spot) acknowledged is_followed is_passed u.lived.spot ns (seen lens f.sent) u.lived.life u.lived.life.stand)

  both_under : (a b : Bool) → (a && b) ≡ true → b ≡ true
  both_under true b e = e
  both_under false b e = absurd (let bad : false ≡ true = e in cc)

  not_both : (x : Bool) → (x && not x) ≡ true → ⊥
  not_both true e = let bad : false ≡ true = e in cc
  not_both false e = let bad : false ≡ true = e in cc

  one_goes : (ns : List (News Body)) (u : Turn) (b : Bool) → (gives && u.share.under) ≡ b → (is_led u.lived.life.stand && not (is_led (lost_life ns b u).stand)) ≡ true → u.share.under ≡ true
  one_goes ns u true e g = both_under gives u.share.under e
  one_goes ns u false e g = absurd (not_both (is_led u.lived.life.stand) (ap (λ z. is_led u.lived.life.stand && not (is_led z)) (sym (lost_stays ns u u.lived.life.stand)) ∙ g))

  pub lost_carried : (after : ℕ) → f.fate ≡ Lost after → (us : List Turn) (k : ℕ) → goes_down us (map (led_behind lens recover retry gives made f) us) k ≡ true → holds_at is_carried us k ≡ true
  lost_carried after e [] k g = g
  lost_carried after e (u ∷ us) zero g =
      one_goes [] u (gives && u.share.under) refl (ap (λ (z : Fate). is_led u.lived.life.stand && not (is_led (life_behind lens recover retry gives made f z u.lived u.share).life.stand)) (sym e) ∙ g)
  lost_carried after e (u ∷ us) (suc k) g = lost_carried after e us k g

  pub serving_carried : (after : ℕ) → f.fate ≡ Lost after → (vs : List ServedTurn) (k : ℕ) → goes_down (map run_turn vs) (map run_lead (map (served_behind lens recover retry gives made f) vs)) k ≡ true → holds_at is_carried (map run_turn vs) k ≡ true
  serving_carried after e [] k g = g
  serving_carried after e (v ∷ vs) zero g =
      let u = v.turn in
      one_goes (news_lost u.lived.spot.station v.kept (seen lens f.sent)) u (gives && u.share.under) refl (ap (λ (z : Fate). is_led u.lived.life.stand && not (is_led (served_life lens recover retry gives made f z v).life.stand)) (sym e) ∙ g)
  serving_carried after e (v ∷ vs) (suc k) g = serving_carried after e vs k g

  -- one that is gone stays so
  gone_unasked : (u : Turn) (ds : List Raw.Datagram) (z : Stand) → u.lived.life.stand ≡ z → is_led z ≡ false → FrameFor lens u.lived.spot z u.share ds → u.share.under ≡ false
  gone_unasked u ds (Stand.Opens o) e g h = absurd (let bad : true ≡ false = g in cc)
  gone_unasked u ds Stand.Open e g h = absurd (let bad : true ≡ false = g in cc)
  gone_unasked u ds Stand.Gone e g (FrameFor.none n a) = n
  gone_unasked u ds Stand.Gone e g (FrameFor.one n d a b) = absurd b

  not_given : (a b : Bool) → b ≡ false → (a && b) ≡ false
  not_given true b e = e
  not_given false b e = refl

  one_gone : (ns : List (News Body)) (u : Turn) (ds : List Raw.Datagram) → FrameFor lens u.lived.spot u.lived.life.stand u.share ds → is_led u.lived.life.stand ≡ false → is_led (lost_life ns (gives && u.share.under) u).stand ≡ false
  one_gone ns u ds h g =
      ap (λ (b : Bool). is_led (lost_life ns b u).stand) (not_given gives u.share.under (gone_unasked u ds u.lived.life.stand refl g h)) ∙ ap is_led (lost_stays ns u u.lived.life.stand) ∙ g

  pub lost_gone : (after : ℕ) → f.fate ≡ Lost after → (ds : List Raw.Datagram) (as' : List Leads) (us : List Turn) → AllTurn lens made ds as' us → (k : ℕ) → holds_at is_live_turn us k ≡ false →
      holds_at is_live_lead (map (led_behind lens recover retry gives made f) us) k ≡ false
  lost_gone after e ds [] [] t k g = refl
  lost_gone after e ds [] (u ∷ us) t k g = absurd t
  lost_gone after e ds (a ∷ as') [] t k g = absurd t
  lost_gone after e ds (a ∷ as') (u ∷ us) t zero g =
      ap (λ (z : Fate). is_led (life_behind lens recover retry gives made f z u.lived u.share).life.stand) e ∙ one_gone [] u ds t.0.asked.has g
  lost_gone after e ds (a ∷ as') (u ∷ us) t (suc k) g = lost_gone after e ds as' us t.1 k g

  pub serving_gone : (after : ℕ) → f.fate ≡ Lost after → (number : ℕ) (ds : List Raw.Datagram) (ws : List Serves) (vs : List ServedTurn) → AllServedTurn lens number ds ws vs → (k : ℕ) → holds_at is_live_turn (map run_turn vs) k ≡ false →
      holds_at is_live_lead (map run_lead (map (served_behind lens recover retry gives made f) vs)) k ≡ false
  serving_gone after e number ds [] [] t k g = refl
  serving_gone after e number ds [] (v ∷ vs) t k g = absurd t
  serving_gone after e number ds (w ∷ ws) [] t k g = absurd t
  serving_gone after e number ds (w ∷ ws) (v ∷ vs) t zero g =
      let u = v.turn in
      ap (λ (z : Fate). is_led (served_life lens recover retry gives made f z v).life.stand) e ∙ one_gone (news_lost u.lived.spot.station v.kept (seen lens f.sent)) u ds t.0.asked.has g
  serving_gone after e number ds (w ∷ ws) (v ∷ vs) t (suc k) g = serving_gone after e number ds ws vs t.1 k g

-- ---- before a frame each is what it was
pub turn_lives : (lens : ℕ → Lens) (made : ℕ) (ds : List Raw.Datagram) (as' : List Leads) (us : List Turn) → AllTurn lens made ds as' us → (k : ℕ) → holds_at is_live_turn us k ≡ holds_at is_live_lead as' k
turn_lives lens made ds [] [] t k = refl
turn_lives lens made ds [] (u ∷ us) t k = absurd t
turn_lives lens made ds (a ∷ as') [] t k = absurd t
turn_lives lens made ds (a ∷ as') (u ∷ us) t zero =
    ap is_led (ap (λ (m : SlaveLife). m.stand) t.0.next.life ∙ next_stand (speech_at lens a.lived.spot) acknowledged is_followed is_passed made a.lived.life t.0.next.pick a.lived.life.stand)
turn_lives lens made ds (a ∷ as') (u ∷ us) t (suc k) = turn_lives lens made ds as' us t.1 k

pub serving_lives : (lens : ℕ → Lens) (made : ℕ) (ds : List Raw.Datagram) (ws : List Serves) (vs : List ServedTurn) → AllServedTurn lens made ds ws vs → (k : ℕ) → holds_at is_live_turn (map run_turn vs) k ≡ holds_at is_live_lead (map run_lead ws) k
serving_lives lens made ds [] [] t k = refl
serving_lives lens made ds [] (v ∷ vs) t k = absurd t
serving_lives lens made ds (w ∷ ws) [] t k = absurd t
serving_lives lens made ds (w ∷ ws) (v ∷ vs) t zero =
    let a = w.lead in
    ap is_led (ap (λ (m : SlaveLife). m.stand) t.0.next.life ∙ next_stand (speech_at lens a.lived.spot) acknowledged is_followed is_passed made a.lived.life t.0.next.pick a.lived.life.stand)
serving_lives lens made ds (w ∷ ws) (v ∷ vs) t (suc k) = serving_lives lens made ds ws vs t.1 k
