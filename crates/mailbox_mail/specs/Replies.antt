-- Where the reply side of a service ends.
use Rattle.std.specs.Prelude.{ℕ, List, [], ◌∷◌, Option, None, Some}
use Rattle.mailbox_mail.specs.declared.outcome.ReplyKind.{ReplyKind}

-- a reply side ends here: no mail stands behind it
abbrev pub at_end : {M : Type 0} → List M → ReplyKind × List ℕ → Option (ReplyKind × List ℕ)
at_end [] reply = Some reply
at_end (m ∷ ms) reply = None
