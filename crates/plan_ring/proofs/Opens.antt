-- An open slave, by a frame: it is open yet, or its reopening begins.
use Rattle.std.proofs.Common.{◌≡◌, ℕ, Bool, true, false, Option, Some, None, List, refl, sym, ap, ap₂, ◌∙◌, subst, if◌then◌else◌}
use Rattle.plan_ring.specs.SlaveAsked.{IsAsked, GoesOn}
use Rattle.whole_ring.specs.of_life_model.Repairs.{way_of, stand_way}
use Rattle.whole_ring.specs.of_life_model.Eras.{Clearing}
use Rattle.whole_ring.specs.of_life_model.Lives.{Spot, Era, Life, Stand, reopens, reopens_at, reopening, returns_to_init, opens_state}
use Rattle.slave_server.specs.of_link_mails.Body.{Body}
use Rattle.whole_ring.specs.of_link_model.Master.{InHalf, InState}
use Rattle.whole_ring.specs.of_link_model.Segment.{RingFate}
use Rattle.whole_ring.specs.of_mailbox_slave.Node.{in_side}
use Rattle.run_frames.specs.Goes.{is_same, stepped_behind}
use Rattle.slave_server.specs.of_segment_model.Record.{Frame, News}
use Rattle.slave_server.specs.of_segment_model.Slaves.{Found}
use Rattle.whole_ring.specs.of_slave_lives.Lived.{Behind, RingFrame, LivesEra, fate_of, node_met, node_behind, frame_of}
use Rattle.whole_ring.specs.of_slave_lives.Opening.{Plan}
use Rattle.slave_server.specs.of_state_model.Accounts.{Pick, Duty, Stage}
use Rattle.whole_ring.specs.Turns.{FrameComes, AsksFor, era_before, era_behind, life_by}
use Rattle.whole_ring.specs.Whole.{IsWhole}
use Rattle.plan_ring.specs.Stands.{Asked, StandsTo}
use Rattle.plan_ring.proofs.Halves.{half_same, half_goes, stands_on}
use Rattle.plan_ring.proofs.Opened.{nothing_awaited}
use Rattle.plan_ring.proofs.Ways.{same_asked}

module _ {S V A Q R : Type 0} (w : Behind S V A Q R) (c : Clearing V A) (p : Plan) (spot : Spot) (whole : IsWhole w c p spot) (from : A) (l : Life Body Q R) (fs : List (Frame Body)) (t : RingFrame S) (more : Body → Bool) (passed : Q → Bool) (pick : Pick Q) (news : List (News Body)) (came : Option (Bool × Option Found))
    (stand : l.stand ≡ Stand.Open) (lives : LivesEra w spot from l.era fs t.node) (f : FrameComes w p spot Stand.Open t) (a : AsksFor w more passed spot fs t pick news l.era) (stepped : Bool) (prior : Asked stepped l.era.side.halves.inn t.node.registers) where
  abbrev era : RingFate → Era Body Q R
  era fate = era_behind w more passed spot fs t pick news fate l.era

  -- where the clock runs on
  abbrev Clocked : Life Body Q R → Type 0
  Clocked k = StandsTo (stepped_behind t.pace t.ring.number (is_same (way_of 1 1 l) (way_of 1 1 k)) stepped) k k.stand (node_behind w.running t).registers

  asked_first : IsAsked (era_before w more passed spot fs t pick news l.era).side.halves.inn (in_side t.node.kept t.node.registers)
  asked_first = λ x. prior.request (ap (λ (h : InHalf). h.state) (sym (half_same w c p spot whole from l.era fs t more passed pick news lives f a.asks)) ∙ x) ∙ ap (λ (h : InHalf). h.bit) (sym (half_same w c p spot whole from l.era fs t more passed pick news lives f a.asks))

  same_before : (fate : RingFate) → (let k : Life Body Q R = record l { era = era fate } in is_same (way_of 1 1 l) (way_of 1 1 k) ≡ true → (era fate).side.halves.inn.state ≡ InState.Asked → l.era.side.halves.inn.state ≡ InState.Asked)
  same_before fate e asked = same_asked l.era.side.halves.inn.state
      (ap₂ is_same (ap (stand_way 1 1 l.era.side.halves.inn.state) (sym stand)) (ap₂ (stand_way 1 1) (sym asked) (sym stand)) ∙ e)

  still : (fate : RingFate) → (frame_of w.lens t).fate ≡ fate → Clocked (record l { era = era fate })
  still fate is =
      let k : Life Body Q R = record l { era = era fate } in
      let same = is_same (way_of 1 1 l) (way_of 1 1 k) in
      subst (λ (s : Stand). StandsTo (stepped_behind t.pace t.ring.number same stepped) k s (node_behind w.running t).registers) (sym stand)
      (stands_on w c p spot whole from l.era fs t more passed pick news lives f a.asks stepped same prior (era fate).side.halves.inn
      (subst (λ (z : RingFate). GoesOn (era_before w more passed spot fs t pick news l.era).side.halves.inn (in_side t.node.kept t.node.registers) (era z).side.halves.inn (in_side t.node.kept (node_met t).registers)) is (half_goes w c p spot whole from l.era fs t more passed pick news lives f a.asks asked_first (fate_of t) refl)) (same_before fate))

  anew : (state : ℕ) → Clocked (record l { era = era RingFate.Back; stand = reopening state true })
  anew state = nothing_awaited (record { again = true; step = 1; state = state; own = true }) _ (node_behind w.running t).registers refl

  by_stage : (frame_of w.lens t).fate ≡ RingFate.Back → (target : ℕ) (stage : Stage) → Clocked (reopens_at (record l { era = era RingFate.Back }) target stage)
  by_stage is target Stage.Drains = still RingFate.Back is
  by_stage is target (Stage.Goes phase) = go (returns_to_init target)
    where
      go : (b : Bool) → Clocked (if b then record l { era = era RingFate.Back; stand = reopening (opens_state target) true } else record l { era = era RingFate.Back })
      go true = anew (opens_state target)
      go false = still RingFate.Back is

  by_hand : (frame_of w.lens t).fate ≡ RingFate.Back → (hand : Option Duty) → Clocked (reopens (record l { era = era RingFate.Back }) hand)
  by_hand is None = still RingFate.Back is
  by_hand is (Some duty) = by_stage is duty.target duty.stage

  pub open_turns : (fate : RingFate) → (frame_of w.lens t).fate ≡ fate → Clocked (life_by w more passed spot fs t pick news came fate l Stand.Open)
  open_turns RingFate.Back is = by_hand is (era RingFate.Back).account.hand
  open_turns (RingFate.Lost after) is = still (RingFate.Lost after) is
