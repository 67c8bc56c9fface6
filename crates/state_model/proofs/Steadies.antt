-- An open slave isn't in state Init, nor on the way to it.
use Rattle.std.proofs.Common.{◌≡◌, ◌≢◌, ◌⊎◌, inl, inr, ℕ, Bool, Option, Some, None, List, [], ◌∷◌, sym, ◌∙◌}
use Rattle.segment_model.specs.Slaves.{Registers, Slave}
use Rattle.segment_model.specs.Record.{Frame}
use Rattle.state_model.specs.States.{Table, Phase}
use Rattle.state_model.specs.Promises.{IsTable, reached, state_behind}
use Rattle.state_model.proofs.Words.{Idle, Fresh, Changed, Denied, Flag, Cleared, InHand}
use Rattle.state_model.specs.Accounts.{Stage, Duty, Change, Account}
use Rattle.state_model.specs.Steady.{IsSteady, NoneToInit, StageToInit, HandToInit}
use Rattle.state_model.proofs.Stately.{Stately, AtStage, AtHand, state_over, at_hand}

-- neither the state nor a word that waits is Init
record NotInit (r : Registers) : Type 0 where
  state : r.state ≢ 1
  word : (word : ℕ × Bool) → r.control ≡ Some word → word.0 ≢ 1

either : {s t n : ℕ} → s ≢ 1 → t ≢ 1 → (n ≡ s) ⊎ (n ≡ t) → n ≢ 1
either s t (inl e) f = s (sym e ∙ f)
either s t (inr e) f = t (sym e ∙ f)

module _ (table : Table) where
  behind : (from to : ℕ) → from ≢ 1 → to ≢ 1 → state_behind table from to ≢ 1
  behind from to nay not = go (table from to)
    where
      go : (v : Option ℕ) → reached v from to ≢ 1
      go None = not
      go (Some code) = nay

  over : {R : Type 0} (from : ℕ) (cs : List (Change R)) → from ≢ 1 → NoneToInit cs → state_over table from cs ≢ 1
  over from [] nay nots = nay
  over from (c ∷ cs) nay nots = over (state_behind table from c.target) cs (behind from c.target nay nots.0) nots.1

  idle : (s : ℕ) (r : Registers) → s ≢ 1 → Idle table s r → NotInit r
  idle s r nay k = record { state = λ e. nay (sym k.state ∙ e); word = λ w f e. nay (sym (k.word w f) ∙ e) }

  asked : (s t : ℕ) (r : Registers) → s ≢ 1 → t ≢ 1 → Fresh table s t r ⊎ (Changed table s t r ⊎ Denied table s t r) → NotInit r
  asked s t r nay not (inl k) = record { state = λ e. nay (sym k.state ∙ e); word = λ w f. either nay not (k.word w f) }
  asked s t r nay not (inr (inl k)) = record { state = λ e. not (sym k.state ∙ e); word = λ w f e. not (sym (k.word w f) ∙ e) }
  asked s t r nay not (inr (inr k)) = record { state = λ e. nay (sym k.state ∙ e); word = λ w f e. not (sym (k.asks w f) ∙ e) }

  flagged : (s t first : ℕ) (r : Registers) → s ≢ 1 → t ≢ 1 → Flag table s t first r ⊎ Cleared table s t first r → NotInit r
  flagged s t first r nay not (inl k) = record { state = λ e. nay (sym k.state ∙ e); word = λ w f. either nay not (k.asks w f) }
  flagged s t first r nay not (inr k) = record { state = λ e. nay (sym k.state ∙ e); word = λ w f e. nay (sym (k.word w f) ∙ e) }

  in_hand : (s t : ℕ) (phase : Phase) (r : Registers) → s ≢ 1 → t ≢ 1 → InHand table s t phase r → NotInit r
  in_hand s t Phase.Ask r nay not k = asked s t r nay not k
  in_hand s t Phase.Await r nay not k = asked s t r nay not k
  in_hand s t (Phase.Acknowledge state first) r nay not k = flagged s t first r nay not k.1
  in_hand s t (Phase.Recover first) r nay not k = flagged s t first r nay not k

  at_stage : (s t : ℕ) (stage : Stage) (r : Registers) → s ≢ 1 → StageToInit t stage → AtStage table s t stage r → NotInit r
  at_stage s t Stage.Drains r nay not k = idle s r nay k
  at_stage s t (Stage.Goes phase) r nay not k = in_hand s t phase r nay not k

  at_any : (s : ℕ) (hand : Option Duty) (r : Registers) → s ≢ 1 → HandToInit hand → AtHand table s hand r → NotInit r
  at_any s None r nay not k = idle s r nay k
  at_any s (Some duty) r nay not k = at_stage s duty.target duty.stage r nay not k

  -- THE SLAVE IS STEADY
  pub steady : {V M Q R : Type 0} (start : ℕ) (is : IsTable table start) (station : ℕ) (fs : List (Frame M)) (n : Slave V M) (a : Account Q R) → Stately table start is station fs n.registers a →
      start ≢ 1 → NoneToInit a.over → HandToInit a.hand → IsSteady n
  steady start is station fs n a k nay overs hand =
      let never = at_any (state_over table start a.over) a.hand n.registers (over start a.over nay overs) hand (at_hand table start is station fs n.registers a k) in
      record { state = never.state; word = never.word }
