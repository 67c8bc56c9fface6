-- A mail that is passed on as it is.
use Rattle.std.specs.Prelude.{◌≡◌, true, is_some, List, [], ◌∷◌, Option, Some, None, Ok, if◌then◌else◌}
use Rattle.eoe_client.specs.of_mailbox_mail.declared.mail.Mail.{Mail}
use Rattle.eoe_client.specs.of_mailbox_mail.declared.outcome.Took.{Took}
use Rattle.master_side.specs.of_link_mails.Body.{Body, uncounted}
use Rattle.master_side.specs.of_master_duty.Reply.{Reply}
use Rattle.master_hand.specs.Spoken.{passed_ends}
use Rattle.master_hand.specs.declared.passed.Content.{Content}
use Rattle.master_hand.specs.declared.passed.PassedMail.{PassedMail}

-- a mail that was accepted, as the link has it
abbrev pub body_of : Mail → Body
body_of m = Ok (uncounted m)

-- a mail to nobody that isn't counted
abbrev pub mail_of : Content → Mail
mail_of c = record { address = 0; kind = c.kind; counter = 0; body = c.body }

-- it is left until it was taken to be sent
abbrev pub passed_left : PassedMail → List Body
passed_left p = if p.unsent then Ok (mail_of p.content) ∷ [] else []

-- no reply belongs to it behind the last
abbrev pub at_end : List Body → Option Reply
at_end [] = Some None
at_end (m ∷ ms) = None

-- its replies are awaited until the last
abbrev pub passed_awaits : PassedMail → List Body → Option Reply
passed_awaits p hs = if p.over then at_end hs else passed_ends hs

-- a mail was taken: others follow it, it is the last reply, or it is none, and no reply follows it
abbrev pub PassedTook : Took → PassedMail → Body → PassedMail → Type 0
PassedTook Took.More old b new = ((hs : List Body) → passed_awaits new hs ≡ passed_awaits old (b ∷ hs)) × (passed_awaits new [] ≡ None)
PassedTook Took.Done old b new = ((hs : List Body) → passed_awaits new hs ≡ passed_awaits old (b ∷ hs)) × (is_some (passed_awaits new []) ≡ true)
PassedTook Took.Foreign old b new = ((hs : List Body) → passed_awaits old (b ∷ hs) ≡ None) × (new ≡ old)
