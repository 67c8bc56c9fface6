-- Both kinds of gains together.
use Rattle.std.proofs.Common.{◌≡◌, ℕ, suc, ◌+◌, ◌≤◌, Bool, Option, List, sym, subst, arith}
use Rattle.master_hand.specs.of_exchange_model.Exchange.{Speech}
use Rattle.life_counts.specs.Begun.{life_most}
use Rattle.few_replies.specs.of_life_model.Gains.{gains}
use Rattle.few_replies.proofs.of_life_model.Gaining.{next_same, back_grows, lost_same}
use Rattle.few_replies.specs.of_life_model.Lives.{Stand, Life, Spot, life_next, life_back, life_lost, passes}
use Rattle.few_replies.specs.Steps.{steps_left, IsUnderWay}
use Rattle.few_replies.proofs.PassingSteps as Steps
use Rattle.master_hand.specs.of_segment_model.Record.{News}
use Rattle.master_hand.specs.of_segment_model.Slaves.{Datagram, Found}
use Rattle.master_hand.specs.of_state_model.Accounts.{Pick}
use Rattle.life_counts.specs.Served.{served_gains, served_most}

module _ {M Q R : Type 0} (x : Speech M Q R) (acknowledged : Q → Bool) (more : M → Bool) (passed : Q → Bool) where
  pub before : (frame : ℕ) (l : Life M Q R) (pick : Pick Q) → served_gains passed (life_next x acknowledged more passed frame l l.stand pick) ≡ served_gains passed l
  before frame l pick = omega (arith, next_same x acknowledged more passed frame l l.stand pick, Steps.before x acknowledged more passed frame l l.stand pick)

  module _ (frame : ℕ) (spot : Spot) (news : List (News M)) (back : List (Datagram M)) (came : Option (Bool × Option Found)) (l : Life M Q R) where
    pub grows : served_gains passed l ≤ served_gains passed (life_back x acknowledged more passed frame spot news back came l l.stand)
    grows = omega (arith, back_grows x acknowledged more passed frame spot news back came l l.stand, Steps.grows x acknowledged more passed frame spot news back came l l.stand)

    pub by_mails : suc (gains l) ≤ gains (life_back x acknowledged more passed frame spot news back came l l.stand) → suc (served_gains passed l) ≤ served_gains passed (life_back x acknowledged more passed frame spot news back came l l.stand)
    by_mails more_gains = omega (arith, more_gains, Steps.grows x acknowledged more passed frame spot news back came l l.stand)

    pub by_news : l.stand ≡ Stand.Open → IsUnderWay passed l.era → suc (steps_left (passes x acknowledged more passed l.era.passing news)) ≤ steps_left l.era.passing →
        suc (served_gains passed l) ≤ served_gains passed (life_back x acknowledged more passed frame spot news back came l l.stand)
    by_news stands under less =
        let old = back_grows x acknowledged more passed frame spot news back came l Stand.Open in
        let on = Steps.goes_on x acknowledged more passed frame spot news back came l under less in
        subst (λ stand. suc (served_gains passed l) ≤ served_gains passed (life_back x acknowledged more passed frame spot news back came l stand)) (sym stands) (omega (arith, old, on))

  pub lost : (spot : Spot) (news : List (News M)) (sent : List (Datagram M)) (l : Life M Q R) → served_gains passed l ≤ served_gains passed (life_lost x acknowledged more passed spot news sent l l.stand)
  lost spot news sent l = omega (arith, lost_same x acknowledged more passed spot news sent l l.stand, Steps.lost x acknowledged more passed spot news sent l l.stand)

pub most : {M Q R : Type 0} (passed : Q → Bool) (count : Q → ℕ) (l : Life M Q R) → gains l ≤ 1 + life_most count l → served_gains passed l ≤ 1 + served_most passed count l
most passed count l few = omega (arith, few, Steps.most passed l)
