-- AN OPEN SLAVE'S LIFE by a frame: it is steady, its epoch is lived on, or its reopening begins.
use Rattle.std.proofs.Common.{◌≡◌, ◌≢◌, ◌⊎◌, inl, inr, ℕ, zero, suc, ◌==◌, Bool, true, false, List, [], ◌∷◌, ◌++◌, length, refl, ap, sym, ◌∙◌, subst}
use Rattle.std.specs.Prelude.{Option, Some, None, if◌then◌else◌, ◌&&◌}
use Rattle.std.proofs.lemmas.Bool.{eqb-true}
use Rattle.slave_lives.specs.of_exchange_model.Exchange.{Speech}
use Rattle.slave_lives.specs.of_slave_node.Passing.{datagrams_after}
use Rattle.slave_lives.specs.of_frame_view.Seen.{seen}
use Rattle.slave_lives.specs.of_frames_seen.Own.{own_of, IsAlone}
use Rattle.slave_lives.specs.of_frames_seen.Ring.{AllApart}
use Rattle.slave_lives.specs.of_frames_seen.Slaves.{registers_seen}
use Rattle.slave_lives.specs.of_frames_seen.Spoken.{AllSpoken}
use Rattle.slave_lives.specs.of_link_mails.Body.{Body}
use Rattle.slave_lives.specs.of_link_model.Segment.{RingFate}
use Rattle.slave_lives.specs.of_segment_model.Record.{Frame, News}
use Rattle.slave_lives.specs.of_segment_model.Seats.{Side}
use Rattle.slave_lives.specs.of_segment_model.Slaves.{Found}
use Rattle.slave_lives.specs.of_segment_ring.declared.wire.Fate.TheVariants.{Lost}
use Rattle.slave_lives.specs.of_slave_node.Node.{Node}
use Rattle.slave_lives.specs.of_state_model.Stated.{Service}
use Rattle.slave_lives.specs.of_state_model.Accounts.{Account, Pick, Duty, Stage, is_free, is_acknowledged, starts, state_begins, account_begins, duty_access}
use Rattle.slave_lives.specs.of_state_model.Steady.{IsSteady, NoneToInit, HandToInit, StageToInit}
use Rattle.whole_ring.proofs.Steadied.{era_steady}
use Rattle.slave_lives.specs.of_life_model.Lives.{Spot, Era, Life, Stand, AsksOpen, granted, returns_to_init, opens_state, reopening, reopens, reopens_at}
use Rattle.slave_lives.specs.of_life_model.Eras.{Clearing}
use Rattle.slave_lives.specs.of_life_model.Own.{own}
use Rattle.slave_lives.specs.Ends.{IsAnswered}
use Rattle.slave_lives.specs.Lived.{Behind, table_of, node_seen, RingFrame, IsForOpen, LivesEra, OpenFrame, is_reached, node_met, node_behind, frame_of}
use Rattle.slave_lives.specs.Opening.{Plan, IsPlan}
use Rattle.slave_lives.specs.Rings.{registers_of, come_to, met, is_among}
use Rattle.slave_lives.proofs.EraFrames.{lives_on}
use Rattle.slave_lives.proofs.RingFrames.{met_runs}
use Rattle.slave_lives.proofs.RingLives.{sent_is, lived_on}
use Rattle.whole_ring.specs.Turns.{FrameComes, AsksFor, era_before, era_behind, life_by}
use Rattle.whole_ring.specs.Whole.{IsWhole, Living, Leaving, Passing, LivesOpenBy, OpensBy, StandsBy, IsLivedBy, plan_to}
use Rattle.whole_ring.proofs.Keeps.{Keeps}
use Rattle.whole_ring.proofs.Kept.{turned_with}
use Rattle.whole_ring.proofs.Overs.{over_back, quiet_back, sent_quiet}
use Rattle.whole_ring.proofs.Rows.{next_answered, after_answered}
use Rattle.whole_ring.proofs.Steady.{IsUp, carried_up, stays_up}
use Rattle.whole_ring.proofs.Still.{own_comes}

-- a master's choice asks for no Init: a state service that comes into hand drains
module _ {M Q R : Type 0} (x : Speech M Q R) (acknowledged : Q → Bool) (frame : ℕ) (d : Side M Q R) (a : Account Q R) where
  pub over_begins : (hand : Option Duty) (wish : Option (Service Q)) → NoneToInit a.over → NoneToInit (account_begins x acknowledged frame d a hand wish).over
  over_begins None None over = over
  over_begins (Some duty) None over = over
  over_begins (Some duty) (Some wish) over = over
  over_begins None (Some (Service.Mails q)) over = go (x.valid q && is_free x d d.now)
    where
      go : (b : Bool) → NoneToInit (if b then record a { started = starts a (Service.Mails q) frame } else a).over
      go true = over
      go false = over
  over_begins None (Some (Service.State target)) over = go (is_free x d d.now && is_acknowledged x acknowledged d d.now)
    where
      go : (b : Bool) → NoneToInit (if b then state_begins a target frame else a).over
      go true = over
      go false = over

  pub hand_begins : (hand : Option Duty) (wish : Option (Service Q)) → HandToInit a.hand → HandToInit (account_begins x acknowledged frame d a hand wish).hand
  hand_begins None None is = is
  hand_begins (Some duty) None is = is
  hand_begins (Some duty) (Some wish) is = is
  hand_begins None (Some (Service.Mails q)) is = go (x.valid q && is_free x d d.now)
    where
      go : (b : Bool) → HandToInit (if b then record a { started = starts a (Service.Mails q) frame } else a).hand
      go true = is
      go false = is
  hand_begins None (Some (Service.State target)) is = go (is_free x d d.now && is_acknowledged x acknowledged d d.now)
    where
      go : (b : Bool) → HandToInit (if b then state_begins a target frame else a).hand
      go true = tt
      go false = is

among_self : (place : ℕ) → is_among place (suc place) ≡ true
among_self zero = refl
among_self (suc place) = among_self place

module _ {S V A Q R : Type 0} (w : Behind S V A Q R) (c : Clearing V A) (p : Plan) (spot : Spot) (whole : IsWhole w c p spot) where
  -- STEADY
  pub steady_of : (from : A) (e : Era Body Q R) (fs : List (Frame Body)) (n : Node S) → LivesEra w spot from e fs n → NoneToInit e.account.over → HandToInit e.account.hand → IsSteady (node_seen w n)
  steady_of from e fs n l over hand =
      era_steady w.exchange w.states w.processor (table_of w) spot e l.opened (length fs) fs l.server l.registers (node_seen w n) l.is (record { begun = l.up; over = over; hand = hand })

  module _ (from : A) (e : Era Body Q R) (fs : List (Frame Body)) (t : RingFrame S) (more : Body → Bool) (passed : Q → Bool) (pick : Pick Q) (news : List (News Body)) where
    comes_open : FrameComes w p spot Stand.Open t → t.node.registers.station ≡ spot.station → is_reached t ≡ true → IsForOpen t.before t.node t.behind t.datagrams
    comes_open f at reached =
        let here : p.station ≡ t.node.registers.station = whole.station ∙ sym at in
        let mine : IsAlone t.node.registers.station t.node.registers (come_to t.before t.datagrams) × AllSpoken t.node.registers.station (own_of t.node.registers.station (come_to t.before t.datagrams)) = f.meets reached in
        let first : AllApart t.node.registers.station (registers_of t.before) t.datagrams = subst (λ (a : ℕ). AllApart a (registers_of t.before) t.datagrams) here (f.apart reached) in
        record {
          apart = first;
          alone = mine.0;
          last = subst (λ (a : ℕ). AllApart a (registers_of t.behind) (datagrams_after t.node.registers (come_to t.before t.datagrams))) here (f.last reached);
          spoken = subst (λ l. AllSpoken t.node.registers.station l) (own_comes t.node.registers.station (registers_of t.before) t.datagrams first) mine.1;
        }

    -- the slave that met the frame is steady, as if the frame had been lost behind it and no step followed
    up_met : LivesEra w spot from e fs t.node → NoneToInit e.account.over → HandToInit e.account.hand → FrameComes w p spot Stand.Open t → AsksOpen spot.station (era_before w more passed spot fs t pick news e) (seen w.lens t.octets) → (b : Bool) → is_reached t ≡ b → IsUp (registers_seen (met b t.node (come_to t.before t.datagrams)).registers)
    up_met l none_over none_hand f asks false is = let s = steady_of from e fs t.node l none_over none_hand in record { state = s.state; word = s.word }
    up_met l none_over none_hand f asks true is =
        let place = length t.before in
        let next = era_before w more passed spot fs t pick news e in
        let x = lives_on w whole.behind more passed spot from e fs t.node l t.before t.behind t.datagrams (Lost (suc place)) pick [] 2 0 f.at (λ same. comes_open f l.station is)
        (subst (λ ds. AsksOpen spot.station next ds) (sent_is w.lens t) asks) (λ now. absurd (cc)) in
        let over = over_begins w.exchange.speech w.states.acknowledged (length fs) e.side e.account e.account.hand (granted e.passing pick).begin none_over in
        let hand = hand_begins w.exchange.speech w.states.acknowledged (length fs) e.side e.account e.account.hand (granted e.passing pick).begin none_hand in
        let s = steady_of from _ _ _ x over hand in
        let up : IsUp (registers_seen (met (is_among place (suc place)) t.node (come_to t.before t.datagrams)).registers) = record { state = s.state; word = s.word } in
        subst (λ (b : Bool). IsUp (registers_seen (met b t.node (come_to t.before t.datagrams)).registers)) (among_self place) up

    pub record OpenOn (F : Living S A Q R) : Type 0 where
      pub epoch : F from (era_behind w more passed spot fs t pick news (frame_of w.lens t).fate e) (fs ++ frame_of w.lens t ∷ []) (node_behind w.running t)
      pub lives : LivesEra w spot from (era_behind w more passed spot fs t pick news (frame_of w.lens t).fate e) (fs ++ frame_of w.lens t ∷ []) (node_behind w.running t)
      pub up : IsUp (registers_seen (node_behind w.running t).registers)

    pub open_on : (E F Y : Living S A Q R) (L : Leaving S A Q R) (P : Passing A Q R) → Keeps w c spot E F Y L P Stand.Open e fs t more passed pick news → LivesOpenBy w from e E fs t.node → FrameComes w p spot Stand.Open t → AsksFor w more passed spot fs t pick news e → OpenOn F
    open_on E F Y L P k l f a =
        let era = k.session from l.lives.epoch in
        let up = up_met era l.over l.hand f a.asks (is_reached t) refl in
        let o : OpenFrame w more passed spot from e fs t pick = record {
          at = f.at;
          lives = era;
          alone = λ reached. comes_open f era.station reached;
          asks = a.asks;
          steps = λ now. record { up = stays_up (node_met t).boot (node_met t).registers up; roomy = f.roomy now };
        } in
        let runs = met_runs w.running (is_reached t) t.node (come_to t.before t.datagrams) era.runs in
        record {
          epoch = k.on refl from l.lives.epoch o;
          lives = (lived_on w whole.behind more passed spot from e fs t pick news o).lives;
          up = turned_with w.running whole.behind.clears t.pace t.ring.number (node_met t) runs f.roomy (λ n. IsUp (registers_seen n.registers)) up
              (λ on. subst IsUp (sym on.steps.registers) (carried_up (node_met t).boot (node_met t).registers up));
        }

  -- a state service that returns its slave opens PreOp, or Bootstrap where the slave has that
  plan_opens : (target : ℕ) → returns_to_init target ≡ true → (target ≡ 3 → w.boot ≡ true) → IsPlan w.boot w.lens (plan_to p (opens_state target))
  plan_opens target is boots = go (target == 1) refl
    where
      made : (state : ℕ) → (state ≡ 2) ⊎ ((state ≡ 3) × (w.boot ≡ true)) → IsPlan w.boot w.lens (plan_to p state)
      made state start = record { station = whole.plan.station; out = whole.plan.out; back = whole.plan.back; start = start; lens_out = whole.plan.lens_out; lens_back = whole.plan.lens_back }

      third : (b : Bool) → (target == 1) ≡ b → b ≡ false → (if b then true else target == 3) ≡ true → target ≡ 3
      third true e off r = absurd (cc)
      third false e off r = eqb-true target 3 r

      go : (b : Bool) → (target == 1) ≡ b → IsPlan w.boot w.lens (plan_to p (if b then 2 else 3))
      go true e = made 2 (inl refl)
      go false e = made 3 (inr (refl, boots (third (target == 1) refl e is)))

  stays_to : (target : ℕ) → returns_to_init target ≡ false → target ≢ 1
  stays_to target is one = let no_ : true ≡ false = sym (ap returns_to_init one) ∙ is in cc

  -- THE LIFE behind a frame of an open slave
  pub open_turns : (E F Y : Living S A Q R) (L : Leaving S A Q R) (P : Passing A Q R) (first from : A) (l : Life Body Q R) (fs : List (Frame Body)) (t : RingFrame S) (more : Body → Bool) (passed : Q → Bool) (pick : Pick Q) (news : List (News Body)) (came : Option (Bool × Option Found)) →
      Keeps w c spot E F Y L P Stand.Open l.era fs t more passed pick news → l.stand ≡ Stand.Open → P (fs ++ frame_of w.lens t ∷ []) first l.past from → LivesOpenBy w from l.era E fs t.node → FrameComes w p spot Stand.Open t → AsksFor w more passed spot fs t pick news l.era →
      IsLivedBy w F Y L P p spot first (life_by w more passed spot fs t pick news came (frame_of w.lens t).fate l Stand.Open) (fs ++ frame_of w.lens t ∷ []) (node_behind w.running t)
  open_turns E F Y L P first from l fs t more passed pick news came k stand past lives f a = go (frame_of w.lens t).fate on.epoch (k.stops refl from) a.boots
    where
      m : Node S
      m = node_behind w.running t

      gs : List (Frame Body)
      gs = fs ++ frame_of w.lens t ∷ []

      was : LivesEra w spot from l.era fs t.node
      was = k.session from lives.lives.epoch

      on : OpenOn from l.era fs t more passed pick news F
      on = open_on from l.era fs t more passed pick news E F Y L P k lives f a

      answered : (fate : RingFate) → IsAnswered w.exchange.speech (era_behind w more passed spot fs t pick news fate l.era).side.now
      answered fate = after_answered w.exchange.speech whole.none w.states.acknowledged more passed spot.station (length fs) news (frame_of w.lens t).sent fate (frame_of w.lens t).back (era_before w more passed spot fs t pick news l.era)
          (next_answered w.exchange.speech whole.none w.states.acknowledged more passed (length fs) l.era pick lives.lives.answered)

      -- still open
      still_open : (fate : RingFate) → F from (era_behind w more passed spot fs t pick news fate l.era) (fs ++ frame_of w.lens t ∷ []) (node_behind w.running t) →
          NoneToInit (era_behind w more passed spot fs t pick news fate l.era).account.over → HandToInit (era_behind w more passed spot fs t pick news fate l.era).account.hand →
          IsLivedBy w F Y L P p spot first (record l { era = era_behind w more passed spot fs t pick news fate l.era }) (fs ++ frame_of w.lens t ∷ []) (node_behind w.running t)
      still_open fate epoch over hand = record {
        from = from;
        past = past;
        now = subst (λ (st : Stand). StandsBy w F Y L p spot from (era_behind w more passed spot fs t pick news fate l.era) (fs ++ frame_of w.lens t ∷ []) st (node_behind w.running t)) (sym stand)
            (record { lives = record { epoch = epoch; answered = answered fate }; over = over; hand = hand });
        runs = on.lives.runs;
        boot = on.lives.boot;
      }

      over_next : NoneToInit (era_before w more passed spot fs t pick news l.era).account.over
      over_next = over_begins w.exchange.speech w.states.acknowledged (length fs) l.era.side l.era.account l.era.account.hand (granted l.era.passing pick).begin lives.over

      hand_next : HandToInit (era_before w more passed spot fs t pick news l.era).account.hand
      hand_next = hand_begins w.exchange.speech w.states.acknowledged (length fs) l.era.side l.era.account l.era.account.hand (granted l.era.passing pick).begin lives.hand

      over_behind : NoneToInit (era_behind w more passed spot fs t pick news RingFate.Back l.era).account.over
      over_behind = over_back spot.station (length fs) (own spot.station (frame_of w.lens t).back) (era_before w more passed spot fs t pick news l.era).account over_next hand_next
          (λ none. quiet_back w spot.station t was.opens was.station (λ reached. comes_open from l.era fs t more passed pick news f was.station reached)
          (sent_quiet spot.station (duty_access (era_before w more passed spot fs t pick news l.era).account.hand) (seen w.lens t.octets) a.asks.served none))

      -- its reopening begins
      opens_anew : (target : ℕ) → returns_to_init target ≡ true → (target ≡ 3 → w.boot ≡ true) → Y from (era_behind w more passed spot fs t pick news RingFate.Back l.era) (fs ++ frame_of w.lens t ∷ []) (node_behind w.running t) →
          IsLivedBy w F Y L P p spot first (record l { era = era_behind w more passed spot fs t pick news RingFate.Back l.era; stand = reopening (opens_state target) true }) (fs ++ frame_of w.lens t ∷ []) (node_behind w.running t)
      opens_anew target is boots epoch = record {
        from = from;
        past = past;
        now = OpensBy.yet refl refl (plan_opens target is boots) (record { lives = record { epoch = epoch; answered = answered RingFate.Back }; steady = record { state = on.up.state; word = on.up.word } });
        runs = on.lives.runs;
        boot = on.lives.boot;
      }

      go : (fate : RingFate) → F from (era_behind w more passed spot fs t pick news fate l.era) (fs ++ frame_of w.lens t ∷ []) (node_behind w.running t) →
          (F from (era_behind w more passed spot fs t pick news fate l.era) (fs ++ frame_of w.lens t ∷ []) (node_behind w.running t) → Y from (era_behind w more passed spot fs t pick news fate l.era) (fs ++ frame_of w.lens t ∷ []) (node_behind w.running t)) →
          ((duty : Duty) → (era_behind w more passed spot fs t pick news fate l.era).account.hand ≡ Some duty → duty.target ≡ 3 → w.boot ≡ true) →
          IsLivedBy w F Y L P p spot first (life_by w more passed spot fs t pick news came fate l Stand.Open) (fs ++ frame_of w.lens t ∷ []) (node_behind w.running t)
      go (RingFate.Lost after) epoch stops boots =
          still_open (RingFate.Lost after) epoch over_next (hand_begins w.exchange.speech w.states.acknowledged (length fs) l.era.side l.era.account l.era.account.hand (granted l.era.passing pick).begin lives.hand)
      go RingFate.Back epoch stops boots = by (era_behind w more passed spot fs t pick news RingFate.Back l.era).account.hand refl
        where
          now : Life Body Q R
          now = record l { era = era_behind w more passed spot fs t pick news RingFate.Back l.era }

          turned_to : (duty : Duty) → (era_behind w more passed spot fs t pick news RingFate.Back l.era).account.hand ≡ Some duty → (b : Bool) → returns_to_init duty.target ≡ b →
              IsLivedBy w F Y L P p spot first (if b then record l { era = era_behind w more passed spot fs t pick news RingFate.Back l.era; stand = reopening (opens_state duty.target) true } else record l { era = era_behind w more passed spot fs t pick news RingFate.Back l.era }) (fs ++ frame_of w.lens t ∷ []) (node_behind w.running t)
          turned_to duty is true returns = opens_anew duty.target returns (boots duty is) (stops epoch)
          turned_to duty is false returns = still_open RingFate.Back epoch over_behind (subst HandToInit (sym is) (no_init duty.stage))
            where
              no_init : (stage : Stage) → StageToInit duty.target stage
              no_init Stage.Drains = tt
              no_init (Stage.Goes phase) = stays_to duty.target returns

          staged : (duty : Duty) (stage : Stage) → (era_behind w more passed spot fs t pick news RingFate.Back l.era).account.hand ≡ Some duty → duty.stage ≡ stage →
              IsLivedBy w F Y L P p spot first (reopens_at (record l { era = era_behind w more passed spot fs t pick news RingFate.Back l.era }) duty.target stage) (fs ++ frame_of w.lens t ∷ []) (node_behind w.running t)
          staged duty Stage.Drains is at = still_open RingFate.Back epoch over_behind (subst HandToInit (sym is) (subst (λ (s : Stage). StageToInit duty.target s) (sym at) tt))
          staged duty (Stage.Goes phase) is at = turned_to duty is (returns_to_init duty.target) refl

          by : (hand : Option Duty) → (era_behind w more passed spot fs t pick news RingFate.Back l.era).account.hand ≡ hand →
              IsLivedBy w F Y L P p spot first (reopens (record l { era = era_behind w more passed spot fs t pick news RingFate.Back l.era }) hand) (fs ++ frame_of w.lens t ∷ []) (node_behind w.running t)
          by None is = still_open RingFate.Back epoch over_behind (subst HandToInit (sym is) tt)
          by (Some duty) is = staged duty duty.stage is refl
