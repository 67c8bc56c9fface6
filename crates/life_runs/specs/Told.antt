-- WHAT IS TOLD of a mail that is passed on: its replies, as frames bring them.
use Rattle.std.specs.Prelude.{◌≡◌, ℕ, true, is_some, Option, Some, None, List, [], ◌++◌}
use Rattle.master_hand.specs.of_exchange_model.Exchange.{plain}
use Rattle.master_hand.specs.of_exchange_model.Rows.{Row}
use Rattle.master_hand.specs.of_segment_model.Ends.{Passing}
use Rattle.master_tour.specs.of_link_mails.Body.{Body}
use Rattle.master_tour.specs.of_mailbox_mail.declared.mail.Mail.{Mail}
use Rattle.master_tour.specs.of_master_duty.Reply.{Reply}
use Rattle.master_hand.specs.Spoken.{Asked, passed, emission}

-- THE MAIL THAT WAS PASSED ON LAST, as long as no other service has come into hand: the key of its asker, and what was told under it so far
pub record Passed : Type 0 where
  pub key : ℕ
  pub mail : Mail
  pub told : List Body

-- the replies among these mails, while it isn't over
abbrev pub replies_in : Option Passing → List Body → List Body
replies_in (Some passing) ms = plain emission ms
replies_in None ms = []

-- behind a frame by which these mails were accepted: their replies are told too
abbrev pub told_on : Option Passing → List Body → Option Passed → Option Passed
told_on passing ms None = None
told_on passing ms (Some p) = Some (record p { told = p.told ++ replies_in passing ms })

-- WHAT WAS TOLD ARE ITS OWN REPLIES, in order: it is the newest service of its slave, and they are the first of the replies that were heard for it; all of
-- them while it isn't over
pub record TellsOwn (p : Passed) (passing : Option Passing) (now : Option (Row Body Asked Reply)) : Type 0 where
  pub row : Row Body Asked Reply
  pub is : now ≡ Some row
  pub service : row.service ≡ passed p.mail
  pub rest : List Body
  pub heard : plain emission row.heard ≡ p.told ++ rest
  pub all : is_some passing ≡ true → rest ≡ []
