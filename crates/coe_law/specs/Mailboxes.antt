-- The mailboxes of a slave without frames: what stands in the area of each, and the counter of the last mail.
use Rattle.std.specs.Prelude.{ℕ, ◌+◌, ◌-◌, List, ◌++◌, length, replicate}
use Rattle.coe_client.specs.of_mailbox_mail.declared.mail.Mail.{Mail}
use Rattle.coe_client.specs.of_mailbox_mail.Counter.{counter_behind}
use Rattle.coe_client.specs.of_mailbox_mail.Mail.{mail_text}
use Rattle.coe_client.specs.of_exchange_model.Areas.{Areas}

-- a mailbox: the counter of the last mail written there, 0 before the first, and the octets of its area
pub record Posted : Type 0 where
  pub counter : ℕ
  pub area : List ℕ

-- the mailbox that requests go through, and the one for answers
pub record Post : Type 0 where
  pub out : Posted
  pub back : Posted

-- a mailbox of this length, into which no mail was written yet
abbrev pub empty : ℕ → Posted
empty len = record { counter = 0; area = replicate len 0 }

-- a mail with the counter behind that of the last one
abbrev pub counted : Posted → Mail → Mail
counted old mail = record mail { counter = counter_behind old.counter }

-- an area of this length with a mail: its octets, and zeros behind them
abbrev pub area_with : ℕ → Mail → List ℕ
area_with len mail = mail_text 0 0 mail ++ replicate (len - (6 + length mail.body.items)) 0

-- the mailbox behind the next mail
abbrev pub posted : Posted → Mail → Posted
posted old mail = record { counter = counter_behind old.counter; area = area_with (length old.area) (counted old mail) }

-- the lengths of the two mailboxes
abbrev pub lengths_of : Post → Areas
lengths_of post = record { out = length post.out.area; back = length post.back.area }
