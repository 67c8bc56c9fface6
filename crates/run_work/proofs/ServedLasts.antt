-- What no step of a life loses holds of each life of a serving.
use Rattle.std.proofs.Common.{ℕ, zero, suc, Bool, true, false, Option, List, [], ◌∷◌, map, length, refl, sym, subst}
use Rattle.std.specs.Prelude.{⊤, ◌&&◌}
use Rattle.plan_ring.specs.of_datagrams.Datagram as Raw
use Rattle.life_counts.specs.of_exchange_model.Exchange.{Speech}
use Rattle.plan_ring.specs.of_frame_view.View.{Lens}
use Rattle.plan_ring.specs.of_frame_view.Seen.{seen}
use Rattle.life_counts.specs.Begun.{AreUnopened}
use Rattle.life_counts.proofs.Unopened.{new_unopened, next_unopened, back_unopened, lost_unopened, gives_unopened}
use Rattle.plan_ring.specs.of_frame_view.Shares.{given_where, came_at}
use Rattle.life_counts.specs.of_life_model.Lives.{Spot, Life, new_life, life_next, life_back, life_lost, gives_up}
use Rattle.plan_ring.specs.of_life_runs.First.{leads_from, first_leads}
use Rattle.plan_ring.specs.of_life_runs.Led.{Exchanged, speech_at, gives_up_at}
use Rattle.life_counts.specs.of_link_mails.Body.{Body}
use Rattle.plan_ring.specs.of_master_duty.Reply.{Reply}
use Rattle.life_counts.specs.of_master_hand.Spoken.{Asked, acknowledged, is_followed, is_passed}
use Rattle.plan_ring.specs.of_master_side.Passing.{news_back, news_lost}
use Rattle.plan_ring.proofs.of_run_frames.Stating.{LifeCame, new_came, next_came, life_back_came, lost_came}
use Rattle.life_counts.specs.of_segment_model.Record.{News}
use Rattle.life_counts.specs.of_segment_model.Slaves.{Datagram, Found}
use Rattle.life_counts.specs.of_segment_plan.declared.plan.Scenario.{Scenario}
use Rattle.life_counts.specs.of_segment_plan.declared.service.Service as Plan
use Rattle.life_counts.specs.of_segment_plan.declared.slave.SlaveSpec.{SlaveSpec}
use Rattle.plan_ring.specs.of_segment_ring.declared.wire.Fate.{Fate}
use Rattle.plan_ring.specs.of_segment_ring.declared.wire.Fate.TheVariants.{Pass, Lost}
use Rattle.plan_ring.specs.of_life_runs.Served.{Keyed, Serves, ServedTurn, AllServedTurn, IsServedLed, all_serve, asked_at, served_behind, served_life}
use Rattle.life_counts.specs.of_state_model.Accounts.{Pick}

-- NO STEP LOSES IT: a new life has it, and it stays over what comes into hand, a frame, and a give-up
pub record Lasts (P : Life Body Asked Reply → Type 0) : Type 0 where
  pub new : (start : ℕ) → P (new_life start)
  pub next : (x : Speech Body Asked Reply) (frame : ℕ) (l : Life Body Asked Reply) (pick : Pick Asked) → P l → P (life_next x acknowledged is_followed is_passed frame l l.stand pick)
  pub back : (x : Speech Body Asked Reply) (frame : ℕ) (spot : Spot) (news : List (News Body)) (back : List (Datagram Body)) (came : Option (Bool × Option Found)) (l : Life Body Asked Reply) → P l → P (life_back x acknowledged is_followed is_passed frame spot news back came l l.stand)
  pub lost : (x : Speech Body Asked Reply) (spot : Spot) (news : List (News Body)) (sent : List (Datagram Body)) (l : Life Body Asked Reply) → P l → P (life_lost x acknowledged is_followed is_passed spot news sent l l.stand)
  pub gives : (recover frame : ℕ) (spot : Spot) (l : Life Body Asked Reply) → P l → P (gives_up recover spot frame l)

-- of all lives
abbrev pub AllLives : (Life Body Asked Reply → Type 0) → List Serves → Type 0
AllLives P [] = ⊤
AllLives P (w ∷ ws) = P w.lead.lived.life × AllLives P ws

module _ (P : Life Body Asked Reply → Type 0) (lasts : Lasts P) where
  first_lives : (rows : List (ℕ × Plan.Service)) (paces : List ℕ) (place : ℕ) (ss : List SlaveSpec) → AllLives P (all_serve paces (leads_from rows place ss))
  first_lives rows paces place [] = none paces
    where
      none : (paces : List ℕ) → AllLives P (all_serve paces [])
      none [] = tt
      none (p ∷ ps) = tt
  first_lives rows [] place (s ∷ ss) = (lasts.new s.start, first_lives rows [] (suc place) ss)
  first_lives rows (p ∷ paces) place (s ∷ ss) = (lasts.new s.start, first_lives rows paces (suc place) ss)

  asked_lives : (at : ℕ) (k : Keyed) (ws : List Serves) → AllLives P ws → AllLives P (asked_at at k ws)
  asked_lives at k [] all = tt
  asked_lives zero k (w ∷ ws) all = all
  asked_lives (suc at) k (w ∷ ws) all = (all.0, asked_lives at k ws all.1)

  given_life : (b : Bool) (recover : ℕ) (spot : Spot) (frame : ℕ) (l : Life Body Asked Reply) → P l → P (given_where b recover spot frame l)
  given_life false recover spot frame l u = u
  given_life true recover spot frame l u = lasts.gives recover frame spot l u

  module _ (lens : ℕ → Lens) (recover retry : ℕ) (gives : Bool) (made : ℕ) (f : Exchanged) where
    behind_life : (fate : Fate) (v : ServedTurn) → P v.turn.lived.life → P (served_life lens recover retry gives made f fate v).life
    behind_life Pass v u =
        let l = v.turn.lived in
        lasts.back (speech_at lens l.spot) made l.spot (news_back l.spot.station v.kept v.counts (seen lens f.back)) (seen lens f.back) (came_at v.turn.share.under v.turn.share.at (seen lens f.back)) l.life u
    behind_life (Lost after) v u =
        let l = v.turn.lived in
        given_life (gives && v.turn.share.under) recover l.spot made _
        (lasts.lost (speech_at lens l.spot) l.spot (news_lost l.spot.station v.kept (seen lens f.sent)) (seen lens f.sent) l.life u)

    turns_lives : (ds : List Raw.Datagram) (ws : List Serves) (vs : List ServedTurn) → AllServedTurn lens made ds ws vs → AllLives P ws → AllLives P (map (served_behind lens recover retry gives made f) vs)
    turns_lives ds [] [] t all = tt
    turns_lives ds [] (v ∷ vs) t all = absurd t
    turns_lives ds (w ∷ ws) [] t all = absurd t
    turns_lives ds (w ∷ ws) (v ∷ vs) t all =
        let next = t.0.next in
        let l = w.lead.lived in
        let before = subst P (sym next.life) (lasts.next (speech_at lens l.spot) made l.life next.pick all.0) in
        (behind_life f.fate v before, turns_lives ds ws vs t.1 all.1)

  pub led_lives : (lens : ℕ → Lens) (recover retry : ℕ) (plan : Scenario) (fs : List Exchanged) (missed : ℕ) (ws : List Serves) → IsServedLed lens recover retry (all_serve plan.paces (first_leads plan)) fs missed ws → AllLives P ws
  led_lives lens recover retry plan _ _ _ IsServedLed.start = first_lives plan.services plan.paces 0 plan.slaves
  led_lives lens recover retry plan _ _ _ (IsServedLed.asks fs missed ws place k led room) = asked_lives place k ws (led_lives lens recover retry plan fs missed ws led)
  led_lives lens recover retry plan _ _ _ (IsServedLed.on fs missed ws f vs led frame) =
      turns_lives lens recover retry (gives_up_at lens recover retry missed) (length fs) f frame.datagrams ws vs frame.each (led_lives lens recover retry plan fs missed ws led)

-- ---- no epoch gained anything that was never opened
unopened_lasts : Lasts AreUnopened
unopened_lasts = record {
  new = λ start. new_unopened start;
  next = λ x frame l pick u. next_unopened x acknowledged is_followed is_passed frame l l.stand pick refl u;
  back = λ x frame spot news back came l u. back_unopened x acknowledged is_followed is_passed frame spot news back came l l.stand refl u;
  lost = λ x spot news sent l u. lost_unopened x acknowledged is_followed is_passed spot news sent l l.stand refl u;
  gives = λ recover frame spot l u. gives_unopened recover frame spot l u;
}

abbrev pub AllUnopened : List Serves → Type 0
AllUnopened ws = AllLives AreUnopened ws

pub led_unopened : (lens : ℕ → Lens) (recover retry : ℕ) (plan : Scenario) (fs : List Exchanged) (missed : ℕ) (ws : List Serves) → IsServedLed lens recover retry (all_serve plan.paces (first_leads plan)) fs missed ws → AllUnopened ws
led_unopened lens recover retry plan fs missed ws led = led_lives AreUnopened unopened_lasts lens recover retry plan fs missed ws led

-- ---- a state service that reopens its slave came into hand
came_lasts : Lasts (λ (l : Life Body Asked Reply). LifeCame l)
came_lasts = record {
  new = λ start. new_came Body Asked Reply start;
  next = λ x frame l pick c. next_came x acknowledged is_followed is_passed frame l l.stand pick c;
  back = λ x frame spot news back came l c. life_back_came x acknowledged is_followed is_passed frame spot news back came l l.stand c;
  lost = λ x spot news sent l c. lost_came x acknowledged is_followed is_passed spot news sent l l.stand c;
  gives = λ recover frame spot l c. c;
}

pub led_came : (lens : ℕ → Lens) (recover retry : ℕ) (plan : Scenario) (fs : List Exchanged) (missed : ℕ) (ws : List Serves) → IsServedLed lens recover retry (all_serve plan.paces (first_leads plan)) fs missed ws →
    AllLives (λ (l : Life Body Asked Reply). LifeCame l) ws
led_came lens recover retry plan fs missed ws led = led_lives (λ (l : Life Body Asked Reply). LifeCame l) came_lasts lens recover retry plan fs missed ws led
