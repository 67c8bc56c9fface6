-- A LIFE AS ANOTHER SEES IT, who has other forms of its mails, other names of its services and other forms of their replies: as a master sees one in
-- which mails have tags.
use Rattle.std.specs.Prelude.{map}
use Rattle.few_replies.specs.of_life_model.Lives.{Era, Life}
use Rattle.few_replies.specs.Erased.{side_seen}
use Rattle.master_hand.specs.of_segment_model.Ends.{Outcome}
use Rattle.master_hand.specs.of_state_model.Stated.{Service}
use Rattle.master_hand.specs.of_state_model.Accounts.{Account, Change, Started}

-- a service, by mails or of the AL state
abbrev pub service_seen : {P Q : Type 0} → (P → Q) → Service P → Service Q
service_seen g (Service.Mails q) = Service.Mails (g q)
service_seen g (Service.State target) = Service.State target

-- an outcome
abbrev pub outcome_seen : {S R : Type 0} → (S → R) → Outcome S → Outcome R
outcome_seen h (Outcome.Replied r) = Outcome.Replied (h r)
outcome_seen h Outcome.Handed = Outcome.Handed
outcome_seen h Outcome.Reached = Outcome.Reached
outcome_seen h (Outcome.Refused code) = Outcome.Refused code

module _ {N M P Q S R : Type 0} (f : N → M) (g : P → Q) (h : S → R) where
  -- a service that came into hand
  abbrev pub started_seen : Started P → Started Q
  started_seen s = record { service = service_seen g s.service; frame = s.frame }

  -- a state service that is over
  abbrev pub change_seen : Change S → Change R
  change_seen c = record { target = c.target; frame = c.frame; answer = outcome_seen h c.answer; completed = c.completed }

  -- an account
  abbrev pub account_seen : Account P S → Account Q R
  account_seen a = record { started = map started_seen a.started; hand = a.hand; over = map change_seen a.over }

  -- an epoch
  abbrev pub era_seen : Era N P S → Era M Q R
  era_seen e = record { cleared = e.cleared; opened = e.opened; state = e.state; side = side_seen f g h e.side; account = account_seen e.account; passing = e.passing }

  -- A LIFE
  abbrev pub life_seen : Life N P S → Life M Q R
  life_seen l = record { past = map era_seen l.past; era = era_seen l.era; stand = l.stand; gave = l.gave }
