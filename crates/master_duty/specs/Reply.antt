-- What a service by mails is answered.
use Rattle.std.specs.Prelude.{ℕ, List, Option}
use Rattle.mailbox_mail.specs.declared.outcome.ReplyKind.{ReplyKind}

-- its kind and its octets; none for a mail that is passed on, whose replies are handed on one by one
abbrev pub Reply : Type 0
Reply = Option (ReplyKind × List ℕ)
