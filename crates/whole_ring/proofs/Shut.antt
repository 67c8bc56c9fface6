-- A CLOSED SLAVE'S LIFE by a frame: the newest epoch waits, or is over and wasn't seen so, until its return to Init is seen or it is opened.
use Rattle.std.proofs.Common.{◌≡◌, ◌⊎◌, inl, inr, ℕ, suc, ◌==◌, Bool, true, false, List, [], ◌∷◌, ◌++◌, length, refl, ap, ap₂, sym, ◌∙◌, subst}
use Rattle.std.specs.Prelude.{Option, Some, None, if◌then◌else◌, ◌&&◌}
use Rattle.std.proofs.lemmas.Bool.{eqb-true, ne_eqb, and_parts}
use Rattle.slave_lives.specs.of_al_state.Request.{is_state}
use Rattle.slave_lives.specs.of_ec_fields.Fields.{bits_of}
use Rattle.slave_lives.specs.of_frames_seen.Own.{NoneMeant}
use Rattle.slave_lives.specs.of_frames_seen.Slaves.{registers_seen}
use Rattle.slave_lives.specs.of_link_mails.Body.{Body}
use Rattle.slave_lives.specs.of_segment_model.Record.{Frame, News}
use Rattle.slave_lives.specs.of_segment_model.Slaves.{Found}
use Rattle.slave_lives.specs.of_segment_ring.declared.wire.Fate.{Fate}
use Rattle.slave_lives.specs.of_mailbox_slave.Registers.{in_len}
use Rattle.slave_lives.specs.of_segment_ring.Ring.{is_in_pace}
use Rattle.slave_lives.specs.of_life_model.Lives.{Spot, Era, Life, Opening, Stand, new_era, last_step, shows_clear, is_shown, steps_on, clears, opens, opening_back}
use Rattle.slave_lives.specs.of_life_model.Eras.{Clearing}
use Rattle.slave_lives.specs.Lived.{Behind, RingFrame, LivesEra, ClosedFrame, OpensEra, is_reached, node_met, node_behind, node_seen, frame_of}
use Rattle.slave_lives.specs.of_state_model.Accounts.{Pick}
use Rattle.slave_lives.specs.of_state_model.Steady.{IsSteady}
use Rattle.slave_lives.specs.Nodes.{IsRunning, IsRoomy, stepped}
use Rattle.slave_lives.specs.Opening.{Plan, IsPlan, AtMostOne, JustOne}
use Rattle.slave_lives.specs.Rings.{come_to, met, is_met_at}
use Rattle.slave_lives.specs.Stands.{turn_of, IsClosed, IsUp, ClosedAs, Closing, OpenUp}
use Rattle.slave_lives.proofs.Arrives as Arrived
use Rattle.slave_lives.proofs.Closing as Closed
use Rattle.slave_lives.proofs.ClosedFrames as Frames
use Rattle.slave_lives.proofs.EraEnds as Ends
use Rattle.slave_lives.proofs.RingFrames.{met_runs}
use Rattle.slave_lives.proofs.Words.{state_in}
use Rattle.whole_ring.specs.Turns.{Came}
use Rattle.whole_ring.specs.Whole.{IsWhole, Living, Leaving, Passing, LivesOpenBy, LivesStillBy, Waits, IsOverBy, OpensBy, OpensIts, StandsBy, IsLivedBy, plan_to}
use Rattle.whole_ring.proofs.Keeps.{Keeps}
use Rattle.whole_ring.proofs.Kept.{one_or_none, met_server, met_boot, turned_runs, turned_boot, closed_server}
use Rattle.whole_ring.proofs.Still.{Nothing, still_on}

module _ {S V A Q R : Type 0} (w : Behind S V A Q R) (from : A) (e : Era Body Q R) where
  waits_stay : (s t : S) → w.running.clear t ≡ w.running.clear s → Waits w from e s → Waits w from e t
  waits_stay s t same x = record { cleared = x.cleared; state = x.state; is_new = x.is_new; al = x.al; begins = x.begins ∙ ap (λ (k : S). w.exchange.app (w.sees x.al k).server) (sym same) }

  over_stays : (L : Leaving S A Q R) (fs gs : List (Frame Body)) (s t : S) → ((k : S) → L from e fs k → L from e gs k) → w.running.clear t ≡ w.running.clear s → IsOverBy w from e L fs s → IsOverBy w from e L gs t
  over_stays L fs gs s t stays same x = record { server = x.server; left = stays x.server x.left; cleared = same ∙ x.cleared }

-- a frame of a slave that is opened, as it comes to it
pub record ShutFrame {S V A Q R : Type 0} (w : Behind S V A Q R) (p : Plan) (spot : Spot) (o : Opening) (t : RingFrame S) : Type 0 where
  pub runs : IsRunning w.running t.node
  pub boot : t.node.boot ≡ w.boot
  pub roomy : is_in_pace t.pace t.ring.number ≡ true → IsRoomy w.running (in_len (node_met t).registers) (node_met t).server
  pub one : is_reached t ≡ true → AtMostOne (plan_to p o.state) (turn_of o) t.node.registers (come_to t.before t.datagrams)
  pub nothing : o.again ≡ true → o.step ≡ 1 → (is_reached t ≡ true → NoneMeant t.node.registers (come_to t.before t.datagrams)) → Nothing w spot t

module _ {S V A Q R : Type 0} (w : Behind S V A Q R) (c : Clearing V A) (p : Plan) (spot : Spot) (whole : IsWhole w c p spot) (fs : List (Frame Body)) (o : Opening) (t : RingFrame S) (f : ShutFrame w p spot o t) where
  runs_met : IsRunning w.running (node_met t)
  runs_met = met_runs w.running (is_reached t) t.node (come_to t.before t.datagrams) f.runs

  boot_met : (node_met t).boot ≡ w.boot
  boot_met = met_boot (is_reached t) t.node (come_to t.before t.datagrams) ∙ f.boot

  pub runs_behind : IsRunning w.running (node_behind w.running t)
  runs_behind = turned_runs w.running whole.behind.clears t.pace t.ring.number (node_met t) runs_met f.roomy

  pub boot_behind : (node_behind w.running t).boot ≡ w.boot
  boot_behind = turned_boot w.running whole.behind.clears t.pace t.ring.number (node_met t) runs_met f.roomy ∙ boot_met

  closed_met : IsPlan w.boot w.lens (plan_to p o.state) → IsClosed w.running w.boot w.lens (plan_to p o.state) o t.node → IsClosed w.running w.boot w.lens (plan_to p o.state) o (node_met t)
  closed_met plan cl = go (is_reached t) f.one
    where
      go : (b : Bool) → (b ≡ true → AtMostOne (plan_to p o.state) (turn_of o) t.node.registers (come_to t.before t.datagrams)) → IsClosed w.running w.boot w.lens (plan_to p o.state) o (met b t.node (come_to t.before t.datagrams))
      go true one = Closed.frame_stays w.running w.boot w.lens (plan_to p o.state) plan o t.node true (come_to t.before t.datagrams) (one refl) cl
      go false one = cl

  step_closed : (k : Opening) → IsPlan w.boot w.lens (plan_to p k.state) → IsClosed w.running w.boot w.lens (plan_to p k.state) k (node_met t) → IsClosed w.running w.boot w.lens (plan_to p k.state) k (node_behind w.running t)
  step_closed k plan cl = go (is_in_pace t.pace t.ring.number) refl
    where
      go : (b : Bool) → is_in_pace t.pace t.ring.number ≡ b → IsClosed w.running w.boot w.lens (plan_to p k.state) k (if b then stepped w.running (node_met t) else node_met t)
      go true e = Closed.step_stays w.running w.boot w.lens (plan_to p k.state) plan k whole.behind.clears (node_met t) boot_met runs_met (f.roomy e) cl
      go false e = cl

  server_same : (k : Opening) → IsPlan w.boot w.lens (plan_to p k.state) → IsClosed w.running w.boot w.lens (plan_to p k.state) k (node_met t) → w.running.clear (node_behind w.running t).server ≡ w.running.clear t.node.server
  server_same k plan cl =
      closed_server w.running whole.behind.clears t.pace t.ring.number (node_met t) runs_met f.roomy w.boot w.lens (plan_to p k.state) plan k boot_met cl
      ∙ ap w.running.clear (met_server (is_reached t) t.node (come_to t.before t.datagrams))

  closing_behind : Closing w.running w.boot w.lens (plan_to p o.state) o t.node → Closing w.running w.boot w.lens (plan_to p o.state) o (node_behind w.running t)
  closing_behind cl = record { plan = cl.plan; state = cl.state; closed = step_closed o cl.plan (closed_met cl.plan cl.closed) }

  same_behind : Closing w.running w.boot w.lens (plan_to p o.state) o t.node → w.running.clear (node_behind w.running t).server ≡ w.running.clear t.node.server
  same_behind cl = server_same o cl.plan (closed_met cl.plan cl.closed)

  -- an open slave meets the first access of its reopening: its epoch is over
  open_up : (from : A) (e : Era Body Q R) → LivesEra w spot from e fs t.node → IsSteady (node_seen w t.node) → OpenUp w.lens (plan_to p o.state) t.node.registers
  open_up from e era steady =
      let shows = era.runs.shows in
      record {
        opens = era.opens;
        station = era.station ∙ sym whole.station;
        state = ap is_state (ap (λ (x : ℕ). bits_of x 0 4) shows.status ∙ state_in t.node.al shows.state) ∙ shows.state;
        up = ne_eqb (registers_seen t.node.registers).state 1 steady.state;
      }

  module _ (E F Y : Living S A Q R) (L : Leaving S A Q R) (P : Passing A Q R) (first from : A) (l : Life Body Q R) (more : Body → Bool) (passed : Q → Bool) (pick : Pick Q) (news : List (News Body)) (keeps : Keeps w c spot E F Y L P l.stand l.era fs t more passed pick news) where
    abbrev e : Era Body Q R
    e = l.era

    frozen_on : (step : ℕ) → o.again ≡ true → (step ≡ 1) ⊎ (step ≡ 2) → IsPlan w.boot w.lens (plan_to p o.state) → LivesStillBy w from e Y fs t.node → is_reached t ≡ true →
        JustOne (plan_to p o.state) 1 t.node.registers (come_to t.before t.datagrams) → OpensBy w Y L p spot from e (fs ++ frame_of w.lens t ∷ []) (record o { step = step }) (node_behind w.running t)
    frozen_on step again early plan still reached just =
        let k : Opening = record o { step = step } in
        let frozen : IsClosed w.running w.boot w.lens (plan_to p o.state) k (node_met t) =
        subst (λ (b : Bool). IsClosed w.running w.boot w.lens (plan_to p o.state) k (met b t.node (come_to t.before t.datagrams))) (sym reached)
        (Arrived.freezes w.running w.boot w.lens (plan_to p o.state) k t.node (come_to t.before t.datagrams) (open_up from e (keeps.still from still.lives.epoch) still.steady) again early just) in
        OpensBy.over (record { plan = plan; state = refl; closed = step_closed k plan frozen }) again early
        (record {
          server = t.node.server;
          left = keeps.ends from still.lives.epoch;
          cleared = server_same k plan frozen;
        })

    -- NO ACCESS CAME BACK: all is as before, but where the slave met the first access of its reopening
    pub shut_stays : OpensBy w Y L p spot from e fs o t.node → OpensBy w Y L p spot from e (fs ++ frame_of w.lens t ∷ []) o (node_behind w.running t)
    shut_stays (OpensBy.yet again step plan still) = go (is_reached t) refl
      where
        quiet : (is_reached t ≡ true → NoneMeant t.node.registers (come_to t.before t.datagrams)) → OpensBy w Y L p spot from e (fs ++ frame_of w.lens t ∷ []) o (node_behind w.running t)
        quiet none = OpensBy.yet again step plan (still_on w whole.behind spot from e fs t Y (keeps.still from) (keeps.yet from) (f.nothing again step none) still)

        either : is_reached t ≡ true → NoneMeant t.node.registers (come_to t.before t.datagrams) ⊎ JustOne (plan_to p o.state) (turn_of o) t.node.registers (come_to t.before t.datagrams) →
            OpensBy w Y L p spot from e (fs ++ frame_of w.lens t ∷ []) o (node_behind w.running t)
        either reached (inl none) = quiet (λ r. none)
        either reached (inr just) =
            frozen_on o.step again (inl step) plan still reached (subst (λ n. JustOne (plan_to p o.state) n t.node.registers (come_to t.before t.datagrams)) (Closed.again_is o again ∙ step) just)

        go : (b : Bool) → is_reached t ≡ b → OpensBy w Y L p spot from e (fs ++ frame_of w.lens t ∷ []) o (node_behind w.running t)
        go false is = quiet (λ r. absurd (let no_ : false ≡ true = sym is ∙ r in cc))
        go true is = either is (one_or_none (plan_to p o.state) (turn_of o) t.node.registers (come_to t.before t.datagrams) (f.one is))
    shut_stays (OpensBy.anew cl x start) = OpensBy.anew (closing_behind cl) (waits_stay w from e t.node.server (node_behind w.running t).server (same_behind cl) x) start
    shut_stays (OpensBy.over cl again early x) =
        OpensBy.over (closing_behind cl) again early (over_stays w from e L fs (fs ++ frame_of w.lens t ∷ []) t.node.server (node_behind w.running t).server (keeps.over from) (same_behind cl) x)

    module _ (stand : l.stand ≡ Stand.Opens o) (past : P fs first l.past from) where
      pub past_behind : P (fs ++ frame_of w.lens t ∷ []) first l.past from
      past_behind = keeps.past first l.past from past

      pub stays_so : OpensBy w Y L p spot from l.era (fs ++ frame_of w.lens t ∷ []) o (node_behind w.running t) → IsLivedBy w F Y L P p spot first l (fs ++ frame_of w.lens t ∷ []) (node_behind w.running t)
      stays_so now = record {
        from = from;
        past = past_behind;
        now = subst (λ (st : Stand). StandsBy w F Y L p spot from l.era (fs ++ frame_of w.lens t ∷ []) st (node_behind w.running t)) (sym stand) now;
        runs = runs_behind;
        boot = boot_behind;
      }

      steps_so : OpensBy w Y L p spot from l.era (fs ++ frame_of w.lens t ∷ []) (record o { step = suc o.step }) (node_behind w.running t) → IsLivedBy w F Y L P p spot first (steps_on l o) (fs ++ frame_of w.lens t ∷ []) (node_behind w.running t)
      steps_so now = record { from = from; past = past_behind; now = now; runs = runs_behind; boot = boot_behind }

      -- the return to Init was seen
      clears_so : (to : A) → P (fs ++ frame_of w.lens t ∷ []) first (l.past ++ l.era ∷ []) to → (al : ℕ) → to ≡ w.exchange.app (w.sees al (w.running.clear (node_behind w.running t).server)).server →
          IsPlan w.boot w.lens (plan_to p o.state) → IsClosed w.running w.boot w.lens (plan_to p o.state) (record o { step = 3 }) (node_behind w.running t) →
          IsLivedBy w F Y L P p spot first (clears (length fs) l o) (fs ++ frame_of w.lens t ∷ []) (node_behind w.running t)
      clears_so to past_ al begins plan closed = record {
        from = to;
        past = past_;
        now = OpensBy.anew (record { plan = plan; state = refl; closed = closed }) (record { cleared = Some (length fs); state = o.state; is_new = refl; al = al; begins = begins })
            (record { first = λ none. absurd (let no_ : Some (length fs) ≡ None = none in cc); state = inr refl });
        runs = runs_behind;
        boot = boot_behind;
      }

      waits_clear : IsPlan w.boot w.lens (plan_to p o.state) → w.running.clear (node_behind w.running t).server ≡ w.running.clear t.node.server → Waits w from l.era t.node.server →
          IsClosed w.running w.boot w.lens (plan_to p o.state) (record o { step = 3 }) (node_behind w.running t) → IsLivedBy w F Y L P p spot first (clears (length fs) l o) (fs ++ frame_of w.lens t ∷ []) (node_behind w.running t)
      waits_clear plan same x closed = clears_so (c.cleared from) (keeps.closed first l.past from past_behind x.cleared x.state x.is_new) x.al
          (ap c.cleared x.begins ∙ sym (Ends.clears_to w c whole.clears x.al (w.running.clear t.node.server)) ∙ ap (λ (s : S). w.exchange.app (w.sees x.al s).server) (whole.behind.clears.again t.node.server ∙ sym same))
          plan closed

      over_clear : IsPlan w.boot w.lens (plan_to p o.state) → w.running.clear (node_behind w.running t).server ≡ w.running.clear t.node.server → IsOverBy w from l.era L fs t.node.server →
          IsClosed w.running w.boot w.lens (plan_to p o.state) (record o { step = 3 }) (node_behind w.running t) → IsLivedBy w F Y L P p spot first (clears (length fs) l o) (fs ++ frame_of w.lens t ∷ []) (node_behind w.running t)
      over_clear plan same x closed =
          let left = keeps.left first l.past from x.server past_behind (keeps.over from x.server x.left) in
          clears_so (w.exchange.app (w.sees left.0 (w.running.clear x.server)).server) left.1 left.0 (ap (λ (s : S). w.exchange.app (w.sees left.0 s).server) (sym (same ∙ x.cleared))) plan closed

      -- the state that is opened was shown
      opens_so : IsPlan w.boot w.lens (plan_to p o.state) → w.running.clear (node_behind w.running t).server ≡ w.running.clear t.node.server → Waits w from l.era t.node.server → (l.era.cleared ≡ None → o.state ≡ spot.start) → l.era.state ≡ o.state →
          w.exchange.ready (w.sees o.state (node_behind w.running t).server).server ≡ true → IsUp w.running (plan_to p o.state) (node_behind w.running t) →
          IsLivedBy w F Y L P p spot first (opens (length fs) l) (fs ++ frame_of w.lens t ∷ []) (node_behind w.running t)
      opens_so plan same x start its ready up =
          let m = node_behind w.running t in
          let gs = fs ++ frame_of w.lens t ∷ [] in
          let both = Closed.up_opens w.running w.boot w.lens (plan_to p o.state) plan m up in
          let opening : OpensEra w (plan_to p o.state) spot m = record { plan = plan; station = whole.station; opened = both.0; waits = both.1; ready = ready; runs = runs_behind; boot = boot_behind } in
          let begun = keeps.begins o stand (plan_to p o.state) x.al x.cleared (λ none. start (ap (λ (d : Era Body Q R). d.cleared) x.is_new ∙ none)) opening in
          let app : w.exchange.app (w.sees x.al m.server).server ≡ from = ap (λ (s : S). w.exchange.app (w.sees x.al s).server) (sym up.returned.cleared ∙ same) ∙ sym x.begins in
          let is_new : l.era ≡ new_era x.cleared o.state = x.is_new ∙ ap (λ (state : ℕ). new_era {M = Body} {Q = Q} {R = R} x.cleared state) (sym (ap (λ (d : Era Body Q R). d.state) x.is_new) ∙ its) in
          let lives : F from (record (new_era {M = Body} {Q = Q} {R = R} x.cleared o.state) { opened = Some (length fs) }) gs m = subst (λ (a : A). F a (record (new_era {M = Body} {Q = Q} {R = R} x.cleared o.state) { opened = Some (length fs) }) gs m) app begun in
          let open_ : LivesOpenBy w from (record (new_era {M = Body} {Q = Q} {R = R} x.cleared o.state) { opened = Some (length fs) }) F gs m = record { lives = record { epoch = lives; answered = tt }; over = tt; hand = tt } in
          record {
            from = from;
            past = past_behind;
            now = subst (λ (d : Era Body Q R). LivesOpenBy w from (record d { opened = Some (length fs) }) F gs m) (sym is_new) open_;
            runs = runs_behind;
            boot = boot_behind;
          }

      step_late : o.again ≡ true → (o.step ≡ 1) ⊎ (o.step ≡ 2) → (o.step == last_step o) ≡ true → ⊥
      step_late again early is = go early
        where
          nine : o.step ≡ 9
          nine = eqb-true o.step (last_step o) is ∙ ap (λ (b : Bool). if b then 9 else 5) again

          go : (o.step ≡ 1) ⊎ (o.step ≡ 2) → ⊥
          go (inl one) = let no_ : 1 ≡ 9 = sym one ∙ nine in cc
          go (inr two) = let no_ : 2 ≡ 9 = sym two ∙ nine in cc

      clear_at : o.again ≡ true → o.step ≡ 2 → shows_clear o ≡ true
      clear_at again two = ap₂ (λ (a : Bool) (s : ℕ). a && s == 2) again two

      clear_two : shows_clear o ≡ true → o.step ≡ 2
      clear_two is = let both = and_parts o.again (o.step == 2) is in eqb-true o.step 2 both.1

      -- an early access that doesn't show Init is followed by an early one
      sooner : o.again ≡ true → (o.step ≡ 1) ⊎ (o.step ≡ 2) → shows_clear o ≡ false → (suc o.step ≡ 1) ⊎ (suc o.step ≡ 2)
      sooner again (inl one) is = inr (ap suc one)
      sooner again (inr two) is = absurd (let no_ : false ≡ true = sym is ∙ clear_at again two in cc)

      -- the last access opens the epoch's state
      opens_its : (o.step == last_step o) ≡ true → ((o.again ≡ true) × ((o.step ≡ 1) ⊎ (o.step ≡ 2))) ⊎ (l.era.state ≡ o.state) → l.era.state ≡ o.state
      opens_its late (inl early) = absurd (step_late early.0 early.1 late)
      opens_its late (inr same) = same

      its_on : shows_clear o ≡ false → OpensIts spot l.era o → OpensIts spot l.era (record o { step = suc o.step })
      its_on is x = record { first = x.first; state = by x.state }
        where
          by : ((o.again ≡ true) × ((o.step ≡ 1) ⊎ (o.step ≡ 2))) ⊎ (l.era.state ≡ o.state) → ((o.again ≡ true) × ((suc o.step ≡ 1) ⊎ (suc o.step ≡ 2))) ⊎ (l.era.state ≡ o.state)
          by (inl early) = inl (early.0, sooner early.0 early.1 is)
          by (inr same) = inr same

      -- THE ACCESS CAME BACK
      pub shut_goes : (came : Bool × Option Found) → Came w p o t came → OpensBy w Y L p spot from l.era fs o t.node → IsLivedBy w F Y L P p spot first (opening_back (length fs) l o came.0 came.1) (fs ++ frame_of w.lens t ∷ []) (node_behind w.running t)
      shut_goes came k (OpensBy.yet again step plan y) = go (shows_clear o) refl (o.step == last_step o) refl (came.0 && is_shown 1 came.1) (came.0 && is_shown o.state came.1)
        where
          reached : is_reached t ≡ true
          reached = ap (λ (fate : Fate). is_met_at (length t.before) fate) k.back.came

          just : JustOne (plan_to p o.state) 1 t.node.registers (come_to t.before t.datagrams)
          just = subst (λ n. JustOne (plan_to p o.state) n t.node.registers (come_to t.before t.datagrams)) (Closed.again_is o again ∙ step) k.back.just

          go : (a : Bool) → shows_clear o ≡ a → (b : Bool) → (o.step == last_step o) ≡ b → (x y : Bool) →
              IsLivedBy w F Y L P p spot first (if a then (if x then clears (length fs) l o else l) else if b then (if y then opens (length fs) l else l) else steps_on l o) (fs ++ frame_of w.lens t ∷ []) (node_behind w.running t)
          go true is b late x z = absurd (let no_ : 1 ≡ 2 = sym step ∙ clear_two is in cc)
          go false is true late x z = absurd (step_late again (inl step) late)
          go false is false late x z = steps_so (frozen_on (suc o.step) again (inr (ap suc step)) plan y reached just)
      shut_goes came k (OpensBy.anew cl x start) = go (shows_clear o) refl (o.step == last_step o) refl (came.0 && is_shown 1 came.1) (came.0 && is_shown o.state came.1) as_closed
        where
          frame : ClosedFrame w.running w.boot w.lens (plan_to p o.state) o t
          frame = record { closing = cl; one = f.one; steps = λ now. record { clears = whole.behind.clears; boot_is = boot_met; runs = runs_met; roomy = f.roomy now } }

          as_closed : ClosedAs w.running w.boot w.lens (plan_to p o.state) (opening_back (length fs) l o came.0 came.1).stand (node_behind w.running t)
          as_closed = Frames.closed_back w.running w.boot w.lens (plan_to p o.state) o t k.access (length fs) l came.0 came.1 frame stand k.back

          go : (a : Bool) → shows_clear o ≡ a → (b : Bool) → (o.step == last_step o) ≡ b → (y z : Bool) → ClosedAs w.running w.boot w.lens (plan_to p o.state) (if a then (if y then clears (length fs) l o else l) else if b then (if z then opens (length fs) l else l) else steps_on l o).stand (node_behind w.running t) →
              IsLivedBy w F Y L P p spot first (if a then (if y then clears (length fs) l o else l) else if b then (if z then opens (length fs) l else l) else steps_on l o) (fs ++ frame_of w.lens t ∷ []) (node_behind w.running t)
          go true is b late true z shut = waits_clear cl.plan (same_behind cl) x shut
          go true is b late false z shut = stays_so (shut_stays (OpensBy.anew cl x start))
          go false is true late y true shut = opens_so cl.plan (same_behind cl) x start.first (opens_its late start.state) (k.ready shut.returned.cleared) shut
          go false is true late y false shut = stays_so (shut_stays (OpensBy.anew cl x start))
          go false is false late y z shut =
              steps_so (OpensBy.anew (record { plan = cl.plan; state = refl; closed = shut }) (waits_stay w from l.era t.node.server (node_behind w.running t).server (same_behind cl) x) (its_on is start))
      shut_goes came k (OpensBy.over cl again early x) = go (shows_clear o) refl (o.step == last_step o) refl (came.0 && is_shown 1 came.1) (came.0 && is_shown o.state came.1) as_closed
        where
          frame : ClosedFrame w.running w.boot w.lens (plan_to p o.state) o t
          frame = record { closing = cl; one = f.one; steps = λ now. record { clears = whole.behind.clears; boot_is = boot_met; runs = runs_met; roomy = f.roomy now } }

          as_closed : ClosedAs w.running w.boot w.lens (plan_to p o.state) (opening_back (length fs) l o came.0 came.1).stand (node_behind w.running t)
          as_closed = Frames.closed_back w.running w.boot w.lens (plan_to p o.state) o t k.access (length fs) l came.0 came.1 frame stand k.back

          go : (a : Bool) → shows_clear o ≡ a → (b : Bool) → (o.step == last_step o) ≡ b → (y z : Bool) →
              ClosedAs w.running w.boot w.lens (plan_to p o.state) (if a then (if y then clears (length fs) l o else l) else if b then (if z then opens (length fs) l else l) else steps_on l o).stand (node_behind w.running t) →
              IsLivedBy w F Y L P p spot first (if a then (if y then clears (length fs) l o else l) else if b then (if z then opens (length fs) l else l) else steps_on l o) (fs ++ frame_of w.lens t ∷ []) (node_behind w.running t)
          go true is b late true z shut = over_clear cl.plan (same_behind cl) x shut
          go true is b late false z shut = stays_so (shut_stays (OpensBy.over cl again early x))
          go false is true late y z shut = absurd (step_late again early late)
          go false is false late y z shut =
              steps_so (OpensBy.over (record { plan = cl.plan; state = refl; closed = shut }) again (sooner again early is) (over_stays w from l.era L fs (fs ++ frame_of w.lens t ∷ []) t.node.server (node_behind w.running t).server (keeps.over from) (same_behind cl) x))
