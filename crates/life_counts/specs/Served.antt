-- WHAT A LIFE OF A SERVING HAS GAINED: its mails and the steps of its state services, and how far the mails that are passed on have come.
use Rattle.std.specs.Prelude.{ℕ, ◌+◌, ◌*◌, Bool}
use Rattle.life_counts.specs.Begun.{life_most}
use Rattle.few_replies.specs.of_life_model.Gains.{gains}
use Rattle.few_replies.specs.of_life_model.Lives.{Life}
use Rattle.few_replies.specs.Steps.{life_steps, life_passed}

-- both
abbrev pub served_gains : {M Q R : Type 0} → (Q → Bool) → Life M Q R → ℕ
served_gains passed l = gains l + life_steps passed l

-- the most that it can be, by what its services and mails count that came into hand
abbrev pub served_most : {M Q R : Type 0} → (Q → Bool) → (Q → ℕ) → Life M Q R → ℕ
served_most passed count l = life_most count l + 4 * life_passed passed l
