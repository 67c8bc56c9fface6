-- Where no mail is held and none is left to tell, a mail that is passed on is on its way no more.
use Rattle.std.proofs.Common.{◌≡◌, ◌≢◌, Bool, Option, Some, None, List, [], length, sym, ap, ◌∙◌, subst, inl, inr}
use Rattle.std.specs.Prelude.{drop}
use Rattle.idle_slaves.specs.of_slave_model.Moments.{NoneLeft}
use Rattle.idle_slaves.specs.of_exchange_model.Exchange.{Speech, plain}
use Rattle.idle_slaves.specs.of_exchange_model.Rows.{Row}
use Rattle.idle_slaves.specs.of_life_model.Lives.{Era}
use Rattle.served_rings.specs.of_few_replies.Heard.{EraPasses}
use Rattle.idle_slaves.specs.of_segment_model.Ends.{Passing}
use Rattle.seen_slaves.specs.Told.{EraTold, NoneTold, PlansSome}

module _ {M Q R : Type 0} (x : Speech M Q R) (more : M → Bool) (passed : Q → Bool) (e : Era M Q R) (plans : PlansSome x passed) (passes : EraPasses x more passed e) (told : EraTold e) (free : e.side.halves.out.holding ≡ None) (none : NoneLeft x e.side) where
  pub none_waits : e.passing ≢ Some Passing.Waiting
  none_waits waits =
      let p = passes Passing.Waiting waits in
      elim (told Passing.Waiting waits) [
        | inl untold ↦
            let row : p.row.told ≡ [] = subst (λ (z : Option (Row M Q R)). NoneTold z) p.is untold in
            plans p.row.service (plain x.emission p.row.heard) p.passes (sym (ap (λ (l : List M). drop (length l) (x.planned p.row.service (plain x.emission p.row.heard))) row) ∙ none p.row p.is)
        | inr held ↦ held free
      ]

  pub none_sent : e.passing ≢ Some Passing.Sent
  none_sent sent = told Passing.Sent sent free
