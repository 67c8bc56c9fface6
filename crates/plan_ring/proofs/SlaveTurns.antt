-- By how the master stands to the slave.
use Rattle.std.proofs.Common.{◌≡◌, ◌⊎◌, inl, inr, ℕ, suc, ◌==◌, ◌&&◌, Bool, true, false, Option, Some, None, List, [], ◌∷◌, ◌++◌, refl, sym, ap, ap₂, ◌∙◌, subst, if◌then◌else◌, length}
use Rattle.std.specs.Prelude.{nat_lt}
use Rattle.whole_ring.specs.of_esc_registers.declared.registers.Registers as Esc
use Rattle.whole_ring.specs.of_life_model.Repairs.{way_of, stand_way, opening_way, awaits_at}
use Rattle.whole_ring.specs.of_life_model.Eras.{Clearing}
use Rattle.whole_ring.specs.of_life_model.Lives.{Spot, Era, Life, Opening, Stand, shows_clear, last_step, is_shown, clears, opens, steps_on, opening_back, gives_up, reopening}
use Rattle.slave_server.specs.of_link_mails.Body.{Body}
use Rattle.whole_ring.specs.of_link_model.Master.{InState}
use Rattle.whole_ring.specs.of_link_model.Segment.{RingFate}
use Rattle.run_frames.specs.Goes.{is_same, stepped_behind}
use Rattle.slave_server.specs.of_segment_model.Record.{Frame, News}
use Rattle.slave_server.specs.of_segment_model.Slaves.{Found}
use Rattle.whole_ring.specs.of_slave_lives.Lived.{Behind, RingFrame, node_behind, frame_of}
use Rattle.whole_ring.specs.of_slave_lives.Opening.{Plan}
use Rattle.whole_ring.specs.of_slave_lives.Shown.{StandsFor}
use Rattle.slave_server.specs.of_state_model.Accounts.{Pick}
use Rattle.whole_ring.specs.Turns.{FrameComes, TurnsAs, CameAs, Came, life_by}
use Rattle.whole_ring.specs.Whole.{IsWhole, IsLived, OpensAs, OpensBy, StandsAs}
use Rattle.plan_ring.specs.Stands.{StandsTo}
use Rattle.plan_ring.proofs.Opened.{nothing_awaited, stays, goes}
use Rattle.plan_ring.proofs.Opens.{open_turns}
use Rattle.plan_ring.proofs.Ways.{itself, next_other}

-- a give-up answers for nothing
pub given : {Q R : Type 0} (recover frame : ℕ) (spot : Spot) (l : Life Body Q R) (stepped : Bool) (r : Esc.Registers) → (let k = gives_up recover spot frame l in StandsTo stepped k k.stand r)
given recover frame spot l stepped r = go (nat_lt (length l.gave) recover)
  where
    go : (b : Bool) → StandsTo stepped (record l { stand = if b then reopening spot.start false else Stand.Gone; gave = l.gave ++ frame ∷ [] }) (if b then reopening spot.start false else Stand.Gone) r
    go true = nothing_awaited (record { again = true; step = 1; state = spot.start; own = false }) stepped r refl
    go false = tt

-- an access behind the return to Init awaits nothing
third_awaits : (b : Bool) → awaits_at b 3 ≡ false
third_awaits true = refl
third_awaits false = refl

module _ {S V A Q R : Type 0} (w : Behind S V A Q R) (c : Clearing V A) (p : Plan) (spot : Spot) (whole : IsWhole w c p spot) (first : A) (l : Life Body Q R) (fs : List (Frame Body)) (t : RingFrame S) (more : Body → Bool) (passed : Q → Bool) (pick : Pick Q) (news : List (News Body)) (came : Option (Bool × Option Found))
    (i : IsLived w c p spot first l fs t.node) (stepped : Bool) where
  abbrev Clocked : Life Body Q R → Type 0
  Clocked k = StandsTo (stepped_behind t.pace t.ring.number (is_same (way_of 1 1 l) (way_of 1 1 k)) stepped) k k.stand (node_behind w.running t).registers

  module _ (o : Opening) (e : l.stand ≡ Stand.Opens o) (now : StandsAs w p spot i.from l.era fs (Stand.Opens o) t.node) (f : FrameComes w p spot (Stand.Opens o) t) (prior : StandsFor stepped o t.node.registers) where
    -- the same access
    same : Clocked l
    same = subst (λ (s : Stand). StandsTo (stepped_behind t.pace t.ring.number (is_same (way_of 1 1 l) (way_of 1 1 l)) stepped) l s (node_behind w.running t).registers) (sym e)
        (stays w c p spot whole fs o t i.runs i.boot f stepped (is_same (way_of 1 1 l) (way_of 1 1 l)) (itself (way_of 1 1 l)) i.from l.era now prior)

    other : awaits_at o.again (suc o.step) ≡ true → is_same (way_of 1 1 l) (way_of 1 1 (steps_on l o)) ≡ false
    other a = ap (λ (s : Stand). is_same (stand_way 1 1 l.era.side.halves.inn.state s) (Some (opening_way 1 1 (record o { step = suc o.step })))) e ∙ next_other o a

    step_on : (back : Bool × Option Found) → Came w p o t back → shows_clear o ≡ false → (o.step == last_step o) ≡ false → Clocked (steps_on l o)
    step_on back k clear ends = goes w c p spot whole fs o t i.runs i.boot f stepped (is_same (way_of 1 1 l) (way_of 1 1 (steps_on l o))) other back k clear ends i.from l.era now

    -- an epoch that is open behind its last access is new
    early : (again : o.again ≡ true) → (o.step ≡ 1) ⊎ (o.step ≡ 2) → (o.step == last_step o) ≡ false
    early again (inl one) = ap₂ (λ (b : Bool) (n : ℕ). n == (if b then 9 else 5)) again one
    early again (inr two) = ap₂ (λ (b : Bool) (n : ℕ). n == (if b then 9 else 5)) again two

    new_half : (o.step == last_step o) ≡ true → OpensAs w p spot i.from l.era fs o t.node → l.era.side.halves.inn.state ≡ InState.Clear
    new_half ends (OpensBy.yet again step plan x) = absurd (let no : true ≡ false = sym ends ∙ early again (inl step) in cc)
    new_half ends (OpensBy.anew cl x start) = ap (λ (y : Era Body Q R). y.side.halves.inn.state) x.is_new
    new_half ends (OpensBy.over cl again soon x) = absurd (let no : true ≡ false = sym ends ∙ early again soon in cc)

    opened : (o.step == last_step o) ≡ true → Clocked (opens (length fs) l)
    opened ends = record {
      request = λ asked. absurd (let no : InState.Clear ≡ InState.Asked = sym (new_half ends now) ∙ asked in cc);
      acknowledge = λ asked s. absurd (let no : InState.Clear ≡ InState.Asked = sym (new_half ends now) ∙ asked in cc);
    }

    cleared : Clocked (clears (length fs) l o)
    cleared = nothing_awaited (record o { step = 3 }) (stepped_behind t.pace t.ring.number (is_same (way_of 1 1 l) (way_of 1 1 (clears (length fs) l o))) stepped) (node_behind w.running t).registers (third_awaits o.again)

    by_back : (back : Bool × Option Found) → Came w p o t back → Clocked (opening_back (length fs) l o back.0 back.1)
    by_back back k = go (shows_clear o) refl (o.step == last_step o) refl (back.0 && is_shown 1 back.1) (back.0 && is_shown o.state back.1)
      where
        go : (a : Bool) → shows_clear o ≡ a → (b : Bool) → (o.step == last_step o) ≡ b → (x y : Bool) → Clocked (if a then (if x then clears (length fs) l o else l) else if b then (if y then opens (length fs) l else l) else steps_on l o)
        go true ca b cb true y = cleared
        go true ca b cb false y = same
        go false ca true cb x true = opened cb
        go false ca true cb x false = same
        go false ca false cb x y = step_on back k ca cb

    by_opening : (fate : RingFate) (came : Option (Bool × Option Found)) → CameAs w p o t came → Clocked (life_by w more passed spot fs t pick news came fate l (Stand.Opens o))
    by_opening RingFate.Back None k = same
    by_opening RingFate.Back (Some back) k = by_back back k
    by_opening (RingFate.Lost after) came k = same

  by_stand : (s : Stand) → l.stand ≡ s → StandsAs w p spot i.from l.era fs s t.node → FrameComes w p spot s t → TurnsAs w more passed p spot fs t pick news came l.era s → StandsTo stepped l s t.node.registers →
      Clocked (life_by w more passed spot fs t pick news came (frame_of w.lens t).fate l s)
  by_stand (Stand.Opens o) e now f a prior = by_opening o e now f prior (frame_of w.lens t).fate came a
  by_stand Stand.Open e now f a prior = open_turns w c p spot whole i.from l fs t more passed pick news came e now.lives.epoch f a stepped prior (frame_of w.lens t).fate refl
  by_stand Stand.Gone e now f a prior = go (frame_of w.lens t).fate
    where
      still : Clocked l
      still = subst (λ (s : Stand). StandsTo (stepped_behind t.pace t.ring.number (is_same (way_of 1 1 l) (way_of 1 1 l)) stepped) l s (node_behind w.running t).registers) (sym e) tt

      go : (fate : RingFate) → Clocked (life_by w more passed spot fs t pick news came fate l Stand.Gone)
      go RingFate.Back = still
      go (RingFate.Lost after) = still

  pub turns : FrameComes w p spot l.stand t → TurnsAs w more passed p spot fs t pick news came l.era l.stand → StandsTo stepped l l.stand t.node.registers → Clocked (life_by w more passed spot fs t pick news came (frame_of w.lens t).fate l l.stand)
  turns f a prior = by_stand l.stand refl i.now f a prior
